use Rattle.std.proofs.Common.{◌≡◌, ◌<◌, ◌+◌, ◌*◌, ◌-◌, ◌^◌, ◌++◌, length}
use Rattle.slate_seqtrack.specs.Bits.{low_bits, bits_of}
use Rattle.slate_seqtrack.proofs.bits.take_word.Given as goal

abbrev pub invariant-loop-have : goal.invariant-loop-have
invariant-loop-have l =
    (low_bits l.have l.word ++ bits_of l.rest ≡ low_bits l.count l.pending ++ bits_of l.bytes) × (l.word < 2 ^ (8 + l.have)) × (l.have < l.bits + 8) ×
    (l.have + 8 * length l.rest ≡ l.count + 8 * length l.bytes)

abbrev pub decreases-loop-have : goal.decreases-loop-have
decreases-loop-have l = l.bits - l.have
