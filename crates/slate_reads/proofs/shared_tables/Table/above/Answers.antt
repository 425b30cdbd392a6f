use Rattle.std.proofs.Common.{sym, ◌∙◌, ap, subst, drop}
use Rattle.std.proofs.lemmas.List.{take_rest}
use Rattle.std.proofs.lemmas.Result.{IfOk-weaker}
use Rattle.slate_types.specs.Line.{batches_above}
use Rattle.slate_reads.specs.Index.{AreRising}
use Rattle.slate_reads.proofs.Dropping.{above-counted, rising-drop}
use Rattle.slate_reads.proofs.shared_tables.Table.above.Goals as goal

pub of_batches-requires : goal.of_batches-requires
of_batches-requires c =
    rw (take_rest c.batches-batches.result.now c.count_through-gone.result) (rising-drop _ c.batches-batches.result.now (subst AreRising (sym c.batches-batches.ensures.value) c.batches-batches.ensures.rising))

pub returns : goal.returns
returns c =
    let batches = c.batches-batches.result.now in
    let rising = subst AreRising (sym c.batches-batches.ensures.value) c.batches-batches.ensures.rising in
    IfOk-weaker c.of_batches.result _ _ (λ table is. is ∙ take_rest batches c.count_through-gone.result ∙ ap (λ n. drop n batches) c.count_through-gone.ensures.counted ∙ above-counted c.args.number batches rising
    ∙ ap (batches_above c.args.number) c.batches-batches.ensures.value) c.of_batches.ensures

pub returns-then-gone-eq0 : goal.returns-then-gone-eq0
returns-then-gone-eq0 c =
    let batches = c.batches-batches.result.now in
    let rising = subst AreRising (sym c.batches-batches.ensures.value) c.batches-batches.ensures.rising in
    c.in_ok-clone.ensures.cases ∙ sym c.batches-batches.ensures.value ∙ ap (λ n. drop n batches) (sym c.if-gone-eq0.true ∙ c.count_through-gone.ensures.counted) ∙ above-counted c.args.number batches rising
    ∙ ap (batches_above c.args.number) c.batches-batches.ensures.value
