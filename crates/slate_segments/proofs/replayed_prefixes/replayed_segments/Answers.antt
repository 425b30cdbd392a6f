use Rattle.std.proofs.Common.{◌≡◌, ◌⊎◌, inl, inr, ◌++◌, take, drop, Option, Some, None, subst, sym, ap, ◌∙◌}
use Rattle.std.specs.Option.{option_copied}
use Rattle.std.proofs.lemmas.List.{drop_all, take_all}
use Rattle.std.proofs.lemmas.Result.{err_from_is_err_and}
use Rattle.slate_errors.specs.declared.errors.SlateError.TheVariants.{NoMemory}
use Rattle.slate_status.specs.Segments.{PrefixesRise}
use Rattle.slate_model.specs.Segments.{Extractor, IsExtractor, ops_of, prefixes_of, segments_of, unsegmented_refusal}
use Rattle.slate_segments.specs.Prefixes.{HaveSame}
use Rattle.slate_segments.proofs.Taking.{batch-here, batch-next, ops-more, same-push, segments-replayed}
use Rattle.slate_segments.proofs.replayed_prefixes.replayed_segments.Goals as goal

pub loop-batch-preserved : goal.loop-batch-preserved
loop-batch-preserved g c x lawful =
    let i = c.loop-batch.invariant x lawful in
    let n = c.loop-batch.batch-index in
    let batch = c.batch-item.result in
    let batches = c.args.batches.now in
    let old = c.loop-batch.taken.keys in
    let new = c.take_segments.new.taken.keys in
    let r = c.in_ok-take_segments.ensures.ok x lawful in
    let fits = subst (λ os. unsegmented_refusal (Some x) os ≡ None) c.as_slice.ensures r.0 in
    let added = subst (λ os. HaveSame new (old ++ prefixes_of x os)) c.as_slice.ensures r.1 in (
      batch-next x batches n batch c.loop-batch-test.true c.batch-item.is i.0 fits,
      subst (HaveSame new) (ops-more x batches n batch c.loop-batch-test.true c.batch-item.is) (same-push old (prefixes_of x (ops_of (take n batches))) new (prefixes_of x batch.ops) i.1 added),
    )

pub returns-in_err-take_segments-clause-err : goal.returns-in_err-take_segments-clause-err
returns-in_err-take_segments-clause-err g c x lawful =
    let p = err_from_is_err_and c.from_residual.result c.from_residual.ensures.1 in
    rw (p.1, p.2) (by x (subst (λ e. IsExtractor g.E.PrefixExtractor.may_name g.E.PrefixExtractor.may_extract (option_copied e) x) c.in-Some.is lawful)) where
      by : (x : Option Extractor) → IsExtractor g.E.PrefixExtractor.may_name g.E.PrefixExtractor.may_extract (Some c.in-Some.extractor.now) x →
          (c.in_err-take_segments.field-0.0 ≡ NoMemory) ⊎ (unsegmented_refusal x (ops_of c.args.batches.now) ≡ Some c.in_err-take_segments.field-0.0)
      by None lacks = absurd lacks
      by (Some y) holds =
          let i = c.loop-batch.invariant y holds in
          elim (c.in_err-take_segments.ensures.err y holds) [
            | inl memory ↦ inl memory
            | inr cause ↦ inr (batch-here y c.args.batches.now c.loop-batch.batch-index c.batch-item.result c.loop-batch-test.true c.batch-item.is _ i.0
                (subst (λ os. unsegmented_refusal (Some y) os ≡ Some c.in_err-take_segments.field-0.0) c.as_slice.ensures cause))
          ]

pub returns-clause-ok : goal.returns-clause-ok
returns-clause-ok g c x lawful =
    by x (subst (λ e. IsExtractor g.E.PrefixExtractor.may_name g.E.PrefixExtractor.may_extract (option_copied e) x) c.in-Some.is lawful) where
      by : (x : Option Extractor) → IsExtractor g.E.PrefixExtractor.may_name g.E.PrefixExtractor.may_extract (Some c.in-Some.extractor.now) x →
          (unsegmented_refusal x (ops_of c.args.batches.now) ≡ None) × (c.in_ok-listed.field-0.items ≡ segments_of x c.args.batches.now)
      by None lacks = absurd lacks
      by (Some y) holds =
          let i = c.loop-batch.invariant y holds in
          let n = c.loop-batch.batch-index in
          let batches = c.args.batches.now in
          let listed = c.in_ok-listed.ensures.listed in
          let took = subst (λ bs. HaveSame c.loop-batch.taken.keys (prefixes_of y (ops_of bs))) (take_all n batches c.loop-batch-test.false) i.1 in (
            i.0 ∙ ap (λ bs. unsegmented_refusal (Some y) (ops_of bs)) (drop_all n batches c.loop-batch-test.false),
            listed ∙ segments-replayed y c.loop-batch.taken.keys batches (subst PrefixesRise listed c.in_ok-listed.ensures.rising) took,
          )
