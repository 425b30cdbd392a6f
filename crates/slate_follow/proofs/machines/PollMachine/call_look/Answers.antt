use Rattle.std.proofs.Common.{rules, ◌≡◌, ◌+◌, ◌<◌, ◌≤◌, ◌⊎◌, inl, inr, Some, ap, refl, subst, arith}
use Rattle.std.specs.Option.{IfSome, option_map}
use Rattle.slate_store.specs.Objects.{log_at}
use Rattle.slate_model.specs.Begun.{Begun, LooksAt, greatest_number, reached_number, replayed}
use Rattle.slate_model.specs.Follower.{Follower}
use Rattle.slate_follow.proofs.Called.{calls-to, looked-rest, some-of}
use Rattle.slate_follow.proofs.Planned.{modelled-kept}
use Rattle.slate_follow.proofs.machines.PollMachine.call_look.Goals.{then-newest-reached-via-else-newest-reached+then-id-self, then-newest-reached-via-then-newest-reached}
use Rattle.slate_follow.proofs.machines.PollMachine.call_look.Goals as goal

pub returns-then-newest-reached-clause-next : goal.returns-then-newest-reached-clause-next
returns-then-newest-reached-clause-next g c =
    let old = c.args.self.now in
    let reader = c.args.state.now in
    let v = some-of old.latest c.requires.read in
    let t = g.S.Store.objects c.args.store.now in
    let newest = c.in-Some.newest in
    let reached : c.reached-reached.result ≡ reached_number old = c.reached-reached.ensures in
    let lag : c.state.inside.following.lag ≡ reader.lag = ap (λ (f : Follower). f.lag) c.state.view_is in
    let mark : c.self.inside.mark ≡ old.mark = ap (λ (b : Begun). b.mark) c.self.view_is in
    let most = c.saturating_add.ensures in
    let within = c.if-newest-saturating_add.false in
    let few : newest ≤ reached_number old + reader.lag = omega (arith, within, most, reached, lag) in
    let new : (reached_number old < newest) ⊎ (c.args.id ≡ old.mark + 1) = elim c.then-newest-reached.branch [
      | then-newest-reached-via-then-newest-reached w ↦ (let over : c.reached-reached.result < newest = search rules in inl (omega (arith, over, reached)))
      | then-newest-reached-via-else-newest-reached+then-id-self w ↦ (let next : c.args.id ≡ c.self.inside.mark + 1 = search rules in inr (omega (arith, next, mark)))
    ] in
    let is : c.in_ok-newest.field-0 ≡ Some newest = search rules in
    let found = subst (λ x. IfSome t (λ o. x ≡ option_map greatest_number (log_at c.args.id o))) is c.in_ok-newest.ensures.found in
    calls-to (LooksAt c.args.id c.args.last) reader old (replayed v.0 old) c.keep_lease.result c.keep_lease.new.self
    (modelled-kept found c.in_ok-newest.ensures.kept (λ o n. ((v.0, v.1, looked-rest reader v.0 c.args.id c.args.last newest old (log_at c.args.id o) n few new, refl), refl)))
    (c.keep_lease.ensures.turns reader v.0 c.requires.fits v.1)
