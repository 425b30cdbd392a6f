use Rattle.std.proofs.Common.{◌≡◌, ◌∙◌, ℕ, List, Err, true, false, inl, inr, max, rules, sym, ap}
use Rattle.std.proofs.lemmas.Result.{err_from_is_err_and}
use Rattle.slate_errors.specs.declared.errors.SlateError.TheVariants.{EmptySegmentPrefix}
use Rattle.slate_model.specs.Follower.{number}
use Rattle.slate_follow.specs.Lagging.{IsLastRead, IsLastTaken}
use Rattle.slate_follow.specs.Rebuilding.{BuildLacks, Builds, GoingLacks}
use Rattle.slate_follow.specs.Takings.{GivesTaking}
use Rattle.slate_follow.proofs.Rebuilt.{if_some, some_at}
use Rattle.slate_follow.proofs.Refusing.{err-same}
use Rattle.slate_follow.proofs.states.FollowerState.taking_under.Goals as goal

pub returns-clause-takes : goal.returns-clause-takes
returns-clause-takes g c =
    let old = c.args.self.now in
    let view = c.args.view.now in
    let t = g.S.Store.objects c.args.store.now in
    let l = c.in_ok-last in
    let stays : c.goes_on.result ≡ false = search rules in
    let built = c.in_ok-anew.ensures.builds old c.requires.open_ (c.goes_on.ensures.running c.requires.open_) in
    if_some t (λ o at.
    let builds = some_at (λ o. GivesTaking (Builds o old.mode old.skips old.lag view l.last) view old c.in_ok-anew.anew) (g.S.Store.objects c.last_read.new.store) o (l.ensures.kept ∙ at) built in
    inr (sym c.goes_on.ensures.goes ∙ stays, l.last, some_at (λ o. IsLastRead old view o l.last) t o at l.ensures.read, builds))

pub returns-in_err-taken-clause-lacks : goal.returns-in_err-taken-clause-lacks
returns-in_err-taken-clause-lacks g c x key lawful is =
    let p = err_from_is_err_and c.from_residual.result c.from_residual.ensures.1 in
    let e = c.in_err-taken.field-0.0 in
    let old = c.args.self.now in
    let view = c.args.view.now in
    let named : e ≡ EmptySegmentPrefix key = err-same _ e (EmptySegmentPrefix key) (sym (p.1 ∙ ap Err p.2) ∙ is) in
    let goes : c.goes_on.result ≡ true = search rules in
    let t = g.S.Store.objects c.args.store.now in
    if_some t (λ o at.
    let lacks =
    some_at (λ o. (last : ℕ) × IsLastTaken old.lag (number old) (max old.mark view.manifest.replay_after_wal_id) o last × ((first : List ℕ) × GoingLacks x o view last old first)) t o at
    (c.in_err-taken.ensures.lacks x key lawful (ap Err named)) in
    inl (c.goes_on.ensures.reads goes, c.goes_on.ensures.reaches goes, lacks.0, lacks.1, lacks.2))

pub returns-in_err-anew-clause-lacks : goal.returns-in_err-anew-clause-lacks
returns-in_err-anew-clause-lacks g c x key lawful is =
    let p = err_from_is_err_and c.from_residual-in_err-anew.result c.from_residual-in_err-anew.ensures.1 in
    let e = c.in_err-anew.field-0.0 in
    let old = c.args.self.now in
    let view = c.args.view.now in
    let l = c.in_ok-last in
    let stays : c.goes_on.result ≡ false = search rules in
    let named : e ≡ EmptySegmentPrefix key = err-same _ e (EmptySegmentPrefix key) (sym (p.1 ∙ ap Err p.2) ∙ is) in
    let t = g.S.Store.objects c.args.store.now in
    if_some t (λ o at.
    let lacks = some_at (λ o. BuildLacks x o view l.last key) (g.S.Store.objects c.last_read.new.store) o (l.ensures.kept ∙ at) (c.in_err-anew.ensures.lacks x key lawful (ap Err named)) in
    inr (sym c.goes_on.ensures.goes ∙ stays, l.last, some_at (λ o. IsLastRead old view o l.last) t o at l.ensures.read, (key, lacks)))
