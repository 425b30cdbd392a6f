use Rattle.std.specs.Vec.{vec_len, vec_capacity}
use Rattle.std.proofs.Common.{◌≡◌, ◌≤◌, ◌+◌, ◌/◌, ◌%◌, ◌++◌}
use Rattle.slate_seqtrack.specs.Bits.{low_bits, bits_of}
use Rattle.slate_seqtrack.proofs.bits.push_word.Given as goal

abbrev pub invariant-loop-left : goal.invariant-loop-left
invariant-loop-left l =
    (bits_of l.bytes.items ++ low_bits l.left l.word ≡ bits_of l.fn.bytes.items ++ low_bits l.count l.word) ×
    (vec_len l.bytes + l.left / 8 ≤ vec_capacity l.bytes) × (l.left % 8 ≡ l.count % 8) × (l.left ≤ 71)

abbrev pub decreases-loop-left : goal.decreases-loop-left
decreases-loop-left l = l.left
