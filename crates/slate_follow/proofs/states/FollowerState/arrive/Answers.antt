use Rattle.std.proofs.Common.{◌≡◌, ◌∙◌, ◌++◌, ℕ, Bool, List, [], Option, Err, inr, ap, rules, unwrap_or, if◌then◌else◌, subst, sym}
use Rattle.slate_types.specs.Line.{batches_above}
use Rattle.slate_types.specs.declared.batches.Batch.{Batch}
use Rattle.slate_store.specs.declared.objects.VersionedManifest.{VersionedManifest}
use Rattle.slate_errors.specs.declared.errors.SlateError.TheVariants.{EmptySegmentPrefix}
use Rattle.slate_model.specs.Begun.{Begun}
use Rattle.slate_follow.specs.Rebuilding.{Lacks}
use Rattle.slate_follow.proofs.Refusing.{err-same}
use Rattle.slate_follow.proofs.states.FollowerState.arrive.Goals as goal

pub returns-in_err-taken-clause-lacks : goal.returns-in_err-taken-clause-lacks
returns-in_err-taken-clause-lacks g c x key lawful is =
    let old = c.args.self.now in
    let e = c.in_err-taken.field-0.0 in
    let result : c.from_residual.result ≡ Err e = search rules in
    let named = err-same _ e (EmptySegmentPrefix key) (sym result ∙ is) in
    let lacks = c.in_err-taken.ensures.lacks x key lawful (ap Err named) in
    let first = lacks.0 in
    let begun = c.args.machine.now in
    let keeps = ap (λ (b : Begun). b.keeps) c.machine.view_is in
    let view = c.take-view.ensures.value ∙ ap (λ (b : Begun). b.view) c.machine.view_is in
    let fresh = c.replace-fresh.ensures.value ∙ ap (λ (b : Begun). b.fresh) c.machine.view_is in
    let tabled = c.tabled_by-tabled.ensures ∙ ap (λ (v : Option VersionedManifest). (unwrap_or v old.view).manifest.last_l0_seq) view in
    let of = λ (n : ℕ) (k : Bool) (f : List Batch). Lacks x (batches_above n ((if k then old.line.batches else []) ++ f)) first in
    (first, inr (subst (λ n. of n begun.keeps begun.fresh) tabled (subst (λ k. of c.tabled_by-tabled.result k begun.fresh) keeps (subst (λ f. of c.tabled_by-tabled.result c.machine.inside.keeps f) fresh lacks.1))))
