use Rattle.std.proofs.Common.{◌≡◌, ◌∙◌, ap, subst, ◌<◌, get_or, ℕ, Bool, true, false, cond, Option, Some, None, IsSome, length, refl, arith}
use Rattle.std.specs.Option.{unwrap_or}
use Rattle.std.specs.Str.{bytes_eq}
use Rattle.std.specs.HashMap.{get}
use Rattle.std.proofs.lemmas.Slice.Eq.{bytes_eq-Decides}
use Rattle.std.proofs.lemmas.List.{length_push}
use Rattle.slate_reads.specs.Index.{place_of}
use Rattle.slate_reads.proofs.Index.{IsPart-start, IsPart-more, IsPart-end}
use Rattle.slate_reads.proofs.tables.add_entries.Goals as goal

placed : (t : Bool) (place : ℕ) (old : Option (Option ℕ)) → unwrap_or (cond t (Some (Some place)) old) None ≡ cond t (Some place) (unwrap_or old None)
placed true place old = refl
placed false place old = refl

stays : (t : Bool) (place : Option ℕ) (old new : Option (Option ℕ)) → new ≡ cond t (Some place) old → (t ≡ true → IsSome old) → IsSome new → IsSome old
stays true place old new is there some = there refl
stays false place old new is there some = rw is at some

there : (t : Bool) (place : Option ℕ) (old new : Option (Option ℕ)) → new ≡ cond t (Some place) old → IsSome old → IsSome new
there true place old new is some = rw is refl
there false place old new is some = rw is some

pub loop-op-init : goal.loop-op-init
loop-op-init c = record {
  room = omega arith;
  start = refl;
  count = omega arith;
  there = λ key some. some;
  stays = λ key some. some;
  part = λ batches new place start items index. IsPart-start batches new c.args.batch.now c.args.entries.now (place_of c.args.latest.now) start items index;
}

pub loop-op-preserved : goal.loop-op-preserved
loop-op-preserved c =
    let o = c.key_op-item.result in
    let at : o ≡ get_or c.args.batch.now.ops c.loop-op.op o = c.key_op-item.is ∙ ap (λ os. get_or os c.loop-op.op o) c.as_slice-key_op-items.ensures in
    let within : c.loop-op.op < length c.args.batch.now.ops = omega (arith, ap length c.as_slice-key_op-items.ensures) in
    let len = length_push c.loop-op.entries.items (record { batch = c.args.place; op = c.loop-op.op; previous = place_of c.loop-op.latest o.key }) in
    record {
      room = omega arith;
      start = c.add_entry.ensures.start ∙ c.loop-op.invariant.start;
      count = omega (arith, len, ap length c.add_entry.ensures.added);
      there = λ key some. there (bytes_eq o.key key) _ _ _ (c.add_entry.ensures.latest key) (c.loop-op.invariant.there key some);
      stays = λ key some. c.loop-op.invariant.stays key (stays (bytes_eq o.key key) _ _ _ (c.add_entry.ensures.latest key) (λ same.
          let key-is : o.key ≡ key = (bytes_eq-Decides o.key key).0 same in
          subst (λ k. IsSome (get bytes_eq c.loop-op.latest k)) key-is (c.loop-op.invariant.there o.key (rw at (c.requires.there c.loop-op.op o within)))) some);
      part = λ batches new place start items index.
          IsPart-more batches new c.args.batch.now c.loop-op.entries c.add_entry.new.entries (place_of c.loop-op.latest) (place_of c.add_entry.new.latest) c.loop-op.op c.args.place o start items place
          within at c.add_entry.ensures.start c.add_entry.ensures.added
          (λ other. ap (λ x. unwrap_or x None) (c.add_entry.ensures.latest other) ∙ placed (bytes_eq o.key other) _ (get bytes_eq c.loop-op.latest other))
          (c.loop-op.invariant.part batches new place start items index);
    }

pub returns-clause-index : goal.returns-clause-index
returns-clause-index c batches new place start items index =
    IsPart-end batches new c.args.batch.now c.loop-op.entries (place_of c.loop-op.latest) c.loop-op.op start items (omega (arith, ap length c.as_slice-key_op-items.ensures)) (c.loop-op.invariant.part batches new place start items index)
