use Rattle.std.proofs.Common.{◌≡◌, ◌∙◌, Err, ap, subst, sym}
use Rattle.std.proofs.lemmas.Result.{err_from_is_err_and}
use Rattle.std.specs.Option.{IfSome}
use Rattle.slate_errors.specs.declared.errors.SlateError.TheVariants.{EmptySegmentPrefix}
use Rattle.slate_model.specs.Follower.{Follower, number}
use Rattle.slate_follow.specs.Rebuilding.{TakesUnder, answer_of, unleased}
use Rattle.slate_follow.proofs.Having.{has-own}
use Rattle.slate_follow.proofs.Refusing.{err-same}
use Rattle.slate_follow.proofs.states.FollowerState.follow.Goals as goal

pub returns-clause-taken : goal.returns-clause-taken
returns-clause-taken g c =
    let e = c.install.ensures in
    let t = g.S.Store.objects c.args.store.now in
    let new = c.install.new.self in
    let old = c.args.self.now in
    let counted = e.answer in
    subst (λ a. IfSome t (λ o. TakesUnder o c.args.view old (unleased new) a)) (sym counted)
    (subst (λ f. IfSome t (λ o. TakesUnder o c.args.view old (unleased f) (answer_of c.in_ok-taken.taken.replayed (number f)))) (sym e.becomes) c.in_ok-taken.ensures.takes)

pub returns-clause-asked : goal.returns-clause-asked
returns-clause-asked g c =
    let b = c.install.ensures.becomes in (
      ap (λ (f : Follower). f.mode) b,
      ap (λ (f : Follower). f.skips) b,
      ap (λ (f : Follower). f.lag) b,
      ap (λ (f : Follower). f.lease) b,
      ap (λ (f : Follower). f.result) b ∙ c.requires.open_,
      ap (λ (f : Follower). f.view) b,
      c.install.ensures.at,
    )

pub returns-clause-segments : goal.returns-clause-segments
returns-clause-segments g c x lawful has =
    let b = c.install.ensures.becomes in
    has-own x c.args.view c.args.self.now c.install.new.self c.in_ok-taken.taken (ap (λ (f : Follower). f.view) b) (ap (λ (f : Follower). f.line) b) (ap (λ (f : Follower). f.segments) b) c.in_ok-taken.ensures.floor (c.in_ok-taken.ensures.segments x lawful has)

pub returns-in_err-taken-clause-lacks : goal.returns-in_err-taken-clause-lacks
returns-in_err-taken-clause-lacks g c x key lawful is =
    let p = err_from_is_err_and c.from_residual.result c.from_residual.ensures.1 in
    let e = c.in_err-taken.field-0.0 in
    let named : e ≡ EmptySegmentPrefix key = err-same _ e (EmptySegmentPrefix key) (sym (p.1 ∙ ap Err p.2) ∙ is) in
    c.in_err-taken.ensures.lacks x key lawful (ap Err named)
