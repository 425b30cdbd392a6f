use Rattle.std.proofs.Common.{◌≡◌, refl, sym, ◌∙◌, ap, subst, ℕ, ◌+◌, ◌<◌, ◌++◌, [], ◌∷◌, length, get_or, take, Option, Some, None, IsSome, arith, length-append}
use Rattle.std.specs.Option.{unwrap_or}
use Rattle.std.proofs.Math.Seq.{get_or-append_seam}
use Rattle.std.proofs.lemmas.List.{append-nil, append_assoc, length_push, length-take-le}
use Rattle.slate_reads.specs.Index.{IsFrom, ops_of, place_of}
use Rattle.slate_reads.proofs.Index.{IsPart}
use Rattle.slate_reads.proofs.Undoing.{IsPart-begin, IsPart-key, IsPart-less, IsPart-undone}
use Rattle.slate_reads.proofs.tables.take_entries.Goals as goal

there : (found : Option (Option ℕ)) (place : ℕ) → IsFrom place (unwrap_or found None) → IsSome found
there None place from = absurd from
there (Some next) place from = refl

pub loop-key_op-init : goal.loop-key_op-init
loop-key_op-init c = record {
  start = refl;
  fewer = omega arith;
  ordered = λ all. all;
  gone = [];
  joined = append-nil _ ∙ c.as_slice-left.ensures;
  part = λ batches new start items index.
      subst (λ ops. IsPart batches new c.args.batch.now c.args.entries.now (place_of c.args.latest.now) (length ops)) (sym c.as_slice-left.ensures)
      (IsPart-begin batches new c.args.batch.now c.args.entries.now (place_of c.args.latest.now) start items index);
}

pub loop-key_op-preserved : goal.loop-key_op-preserved
loop-key_op-preserved c =
    let o = c.in-Some.key_op.now in
    let earlier = c.in-Some.earlier.now in
    let gone = c.loop-key_op.invariant.gone in
    let left-is = c.in-Some.ensures.cases.0 in
    let joined : earlier ++ (o ∷ gone) ≡ c.args.batch.now.ops = sym (append_assoc earlier (o ∷ []) gone) ∙ ap (λ l. l ++ gone) (sym left-is) ∙ c.loop-key_op.invariant.joined in
    let at : o ≡ get_or c.args.batch.now.ops (length earlier) o = sym (ap (λ os. get_or os (length earlier) o) (sym joined) ∙ get_or-append_seam earlier o gone o) in
    let within : length earlier < length c.args.batch.now.ops = omega (arith, length-append earlier (o ∷ gone), ap length joined) in
    let count : length c.loop-key_op.left.now ≡ length earlier + 1 = ap length left-is ∙ length_push earlier o in
    let popped = c.in-Some-pop.ensures.cases in
    record {
      start = c.in-Some-pop.ensures.start ∙ c.loop-key_op.invariant.start;
      fewer = omega (arith, length_push c.pop.new.self.items c.in-Some-pop.entry, ap length popped, c.loop-key_op.invariant.fewer);
      ordered = λ all. c.lead_back.ensures.ordered (c.loop-key_op.invariant.ordered all);
      gone = o ∷ gone;
      joined = joined;
      part = λ batches new start items index.
          let part = subst (λ n. IsPart batches new c.args.batch.now c.loop-key_op.entries (place_of c.loop-key_op.latest) n) count (c.loop-key_op.invariant.part batches new start items index) in
          let key = IsPart-key batches new c.args.batch.now c.loop-key_op.entries (place_of c.loop-key_op.latest) (length earlier) o within at part in
          IsPart-less batches new c.args.batch.now c.pop.new.self c.loop-key_op.entries (place_of c.loop-key_op.latest) (place_of c.lead_back.new.latest) (length earlier) c.in-Some-pop.entry o within at
          (sym c.in-Some-pop.ensures.start) popped (c.lead_back.ensures.back (there _ key.0 key.1)) part;
    }

pub returns-in_default-pop-clause-index : goal.returns-in_default-pop-clause-index
returns-in_default-pop-clause-index c batches new start items index =
    let left = c.loop-key_op.left.now in
    let gone = c.loop-key_op.invariant.gone in
    let ops = c.args.batch.now.ops in
    let part = c.loop-key_op.invariant.part batches new start items index in
    let all = ap length c.loop-key_op.invariant.joined in
    let both = length-append left gone in
    let last = ap length c.in-Some.ensures.cases.0 ∙ length_push c.in-Some.earlier.now c.in-Some.key_op.now in
    absurd (omega (arith, part.traced.each, ap length c.in_default-pop.ensures.cases.0, length-append (ops_of batches.items) (take (length left) ops), length-take-le (length left) ops (omega (arith, all, both)), last))

pub returns-clause-index : goal.returns-clause-index
returns-clause-index c batches new start items index =
    IsPart-undone batches new c.args.batch.now c.loop-key_op.entries (place_of c.loop-key_op.latest) start items
    (subst (λ n. IsPart batches new c.args.batch.now c.loop-key_op.entries (place_of c.loop-key_op.latest) n) c.in_default.ensures.cases (c.loop-key_op.invariant.part batches new start items index))
