use Rattle.std.proofs.Common.{◌∙◌, ap, length, slice_get, ◌-◌, ◌≤◌, ◌+◌, arith}
use Rattle.slate_seqtrack.proofs.Lists.{lists-found}
use Rattle.slate_seqtrack.proofs.Rising.{IsKeptTracker-read}
use Rattle.slate_seqtrack.proofs.tracker.read_tracker.Goals as goal

pub invariant_of-result : goal.invariant_of-result
invariant_of-result c =
    let begins = lists-found c.args.buf.now c.in_ok-numbers.numbers.items c.in_ok-numbers.times.items (λ i. omega (arith, c.type_inv.buf i)) c.in_ok-numbers.ensures in
    let wide : 8194 ≤ c.max-room.result + 2 = omega (arith, c.max-room.ensures) in
    let long : length c.in_ok-numbers.numbers.items + 2 ≤ c.max-room.result + 2 = omega (arith, c.max-room.ensures, c.len.ensures) in
    IsKeptTracker-read c.in_ok-numbers.numbers.items _ c.in_ok-numbers.times.items _ _ _ _ _ begins.lists c.in_ok-copied_with_room.ensures.0 c.in_ok-copied_with_room-2.ensures.0
    (c.copied.ensures ∙ c.last.ensures.value ∙ ap (λ ts. slice_get ts (length ts - 1)) c.deref.ensures.value)
    c.in_ok-copied_with_room.ensures.1 c.in_ok-copied_with_room-2.ensures.1 wide long
