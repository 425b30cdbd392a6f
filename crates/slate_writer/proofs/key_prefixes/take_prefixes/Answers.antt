use Rattle.std.proofs.Common.{◌≡◌, ◌⊎◌, inl, inr, ◌++◌, take, Option, Some, None, refl, subst, sym, ap, ◌∙◌, rules}
use Rattle.std.specs.Option.{option_copied}
use Rattle.std.proofs.lemmas.List.{drop_all, take_all}
use Rattle.std.proofs.lemmas.Result.{err_from_is_err_and}
use Rattle.slate_errors.specs.declared.errors.SlateError.TheVariants.{NoMemory}
use Rattle.slate_status.specs.Segments.{PrefixesRise}
use Rattle.slate_model.specs.Segments.{Extractor, IsExtractor, ops_refusal, prefixes_of, segment_refusal}
use Rattle.slate_segments.specs.Prefixes.{HaveSame}
use Rattle.slate_segments.proofs.Prefixes.{no-rising}
use Rattle.slate_writer.specs.Segments.{prefixes_by}
use Rattle.slate_writer.proofs.Segmenting.{known-same, refusal-here, refusal-next, same-from}
use Rattle.slate_writer.proofs.key_prefixes.take_prefixes.Goals as goal

pub take_prefix-requires-clause-taken : goal.take_prefix-requires-clause-taken
take_prefix-requires-clause-taken g c = c.loop-op.invariant.1

pub loop-op-init : goal.loop-op-init
loop-op-init g c = (search rules, subst PrefixesRise (sym c.new-taken.ensures.items) no-rising)

pub loop-op-preserved : goal.loop-op-preserved
loop-op-preserved g c = (
  λ x lawful.
      let i = c.loop-op.invariant.0 x lawful in
      let n = c.loop-op.op-index in
      let op = c.op-item.result in
      let ops = c.args.ops.now in
      let stored = c.args.stored.now in
      let segments = c.args.segments.now in
      let old = c.loop-op.taken.items in
      let front = prefixes_of x (take n ops) in
      let r = c.in_ok-take_prefix.ensures in (
        refusal-next x (stored ++ segments) ops n op c.loop-op-test.true c.op-item.is i.0 (r.ok x ((stored ++ segments) ++ front) lawful (known-same stored segments front old i.1)),
        same-from x (stored ++ segments) ops n op c.loop-op-test.true c.op-item.is old c.take_prefix.new.taken.items i.1 (r.taken_ x op lawful refl),
      ),
  c.in_ok-take_prefix.ensures.rising,
)

pub returns-in_err-take_prefix-clause-err : goal.returns-in_err-take_prefix-clause-err
returns-in_err-take_prefix-clause-err g c x lawful =
    let p = err_from_is_err_and c.from_residual.result c.from_residual.ensures.1 in
    rw (p.1, p.2) (by x (subst (λ e. IsExtractor g.E.PrefixExtractor.may_name g.E.PrefixExtractor.may_extract (option_copied e) x) c.in-Some.is lawful)) where
      by : (x : Option Extractor) → IsExtractor g.E.PrefixExtractor.may_name g.E.PrefixExtractor.may_extract (Some c.in-Some.extractor.now) x →
          (c.in_err-take_prefix.field-0.0 ≡ NoMemory) ⊎ (segment_refusal x (c.args.stored.now ++ c.args.segments.now) c.args.ops.now ≡ Some c.in_err-take_prefix.field-0.0)
      by None lacks = absurd lacks
      by (Some y) holds =
          let i = c.loop-op.invariant.0 y holds in
          let n = c.loop-op.op-index in
          let ops = c.args.ops.now in
          let stored = c.args.stored.now in
          let segments = c.args.segments.now in
          let front = prefixes_of y (take n ops) in
          elim (c.in_err-take_prefix.ensures.err y ((stored ++ segments) ++ front) holds (known-same stored segments front c.loop-op.taken.items i.1)) [
            | inl memory ↦ inl memory
            | inr cause ↦ inr (refusal-here y (stored ++ segments) ops n c.op-item.result c.loop-op-test.true c.op-item.is _ i.0 cause)
          ]

pub returns-clause-ok : goal.returns-clause-ok
returns-clause-ok g c x lawful =
    by x (subst (λ e. IsExtractor g.E.PrefixExtractor.may_name g.E.PrefixExtractor.may_extract (option_copied e) x) c.in-Some.is lawful) where
      by : (x : Option Extractor) → IsExtractor g.E.PrefixExtractor.may_name g.E.PrefixExtractor.may_extract (Some c.in-Some.extractor.now) x →
          (segment_refusal x (c.args.stored.now ++ c.args.segments.now) c.args.ops.now ≡ None) × HaveSame c.loop-op.taken.items (prefixes_by x c.args.ops.now)
      by None lacks = absurd lacks
      by (Some y) holds =
          let i = c.loop-op.invariant.0 y holds in
          let n = c.loop-op.op-index in
          let ops = c.args.ops.now in
          let known = c.args.stored.now ++ c.args.segments.now in (
            i.0 ∙ ap (ops_refusal y (known ++ prefixes_of y (take n ops))) (drop_all n ops c.loop-op-test.false),
            subst (λ os. HaveSame c.loop-op.taken.items (prefixes_of y os)) (take_all n ops c.loop-op-test.false) i.1,
          )
