use Rattle.std.proofs.Common.{◌≡◌, not}
use Rattle.std.specs.List.{filter}
use Rattle.std.specs.VecDeque.{deque_len}
use Rattle.slate_rows.specs.Kept.{kept_keys}
use Rattle.slate_types.specs.Order.{is_before, AreInOrder}
use Rattle.slate_rows.proofs.iterators.pass.Given as goal

abbrev pub invariant-loop-kept : goal.invariant-loop-kept
invariant-loop-kept l = record {
  kept : filter (λ k. not (is_before l.order k.key l.key)) l.rows.items ≡ filter (λ k. not (is_before l.order k.key l.key)) l.initial.rows.items;
  in_order : AreInOrder l.order (kept_keys l.rows.items);
}

abbrev pub decreases-loop-kept : goal.decreases-loop-kept
decreases-loop-kept l = deque_len l.rows
