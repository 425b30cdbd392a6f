use Rattle.std.proofs.Common.{◌≡◌, ◌∙◌, ◌+◌, ◌++◌, IfSome, Ok, refl, rules, subst, sym, ap}
use Rattle.slate_replay.specs.declared.replays.Replayed.TheVariants.{Whole}
use Rattle.slate_model.specs.Begun.{Begun, ReadsLog, read_log, replayed}
use Rattle.slate_replay.specs.Replay.{ReplaysNext}
use Rattle.slate_follow.specs.Stepping.{FitsReader, TurnsTo}
use Rattle.slate_follow.proofs.Called.{calls-to, commit-counts, last-read, longer-fits, some-of}
use Rattle.slate_follow.proofs.Planned.{modelled-kept}
use Rattle.slate_follow.proofs.machines.PollMachine.call_log.Goals as goal

pub returns-then-id-last-clause-next : goal.returns-then-id-last-clause-next
returns-then-id-last-clause-next g c = λ reader fits.
    let old = c.args.self.now in
    let v = some-of old.latest c.requires.read in
    let r = c.replay_next in
    let added = c.in_ok-replayed.ensures.grows in
    let fresh : r.new.memory ≡ old.fresh ++ added.0 = added.1 ∙ ap (λ (b : Begun). b.fresh ++ added.0) c.self.view_is in
    let read = λ (b : Begun). record b { fresh = r.new.memory; mark = b.mark + 1 } in
    let fits' : FitsReader reader (read old) = subst (λ f. FitsReader reader (record old { fresh = f; mark = old.mark + 1 })) (sym fresh) (longer-fits reader old added.0 (old.mark + 1) fits) in
    let turn = c.keep_lease.ensures.turns reader v.0 (subst (λ (b : Begun). FitsReader reader (read b)) (sym c.self.view_is) fits') (ap (λ (b : Begun). b.latest) c.self.view_is ∙ v.1) in
    let turn' = subst (λ (b : Begun). TurnsTo reader (replayed v.0 (read b)) c.keep_lease.result c.keep_lease.new.self) c.self.view_is turn in
    let last : old.mark + 1 ≡ c.args.last = search rules in
    let whole : r.result ≡ Ok Whole = search rules in
    let next = subst (λ (x : _). IfSome (g.S.Store.objects c.args.store.now) (λ o. ReplaysNext (old.mark + 1) old.floor old.fresh r.new.memory o x)) whole
    (subst (λ (b : Begun). IfSome (g.S.Store.objects c.args.store.now) (λ o. ReplaysNext (b.mark + 1) b.floor b.fresh r.new.memory o r.result)) c.self.view_is r.ensures.where_modelled) in
    let turns = last-read reader v.0 c.args.last r.new.memory old _ _ last turn' in
    calls-to (ReadsLog c.args.last) reader old (read_log v.0 c.args.last r.new.memory old) c.keep_lease.result c.keep_lease.new.self
    (modelled-kept next c.in_ok-replayed.ensures.kept (λ o n. ((v.0, r.new.memory, Whole, v.1, n, refl, refl), refl))) turns

pub returns-then-id-last-clause-faults : goal.returns-then-id-last-clause-faults
returns-then-id-last-clause-faults g c = commit-counts _ _ c.keep_lease.result c.in_ok-replayed.ensures.stays c.keep_lease.ensures.kind
