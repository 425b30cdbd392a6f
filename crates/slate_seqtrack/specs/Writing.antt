-- What is written: the first form that fits each time, and zero bits to the end of the last byte.
use Rattle.std.specs.Prelude.{◌≡◌, ℕ, ◌⊎◌, Bool, false, List, ℤ}
use Rattle.slate_seqtrack.specs.declared.faults.TrackerFault.{TrackerFault}
use Rattle.slate_seqtrack.specs.declared.faults.TrackerFault.TheVariants.{NotEncodable, NoMemory}
use Rattle.slate_seqtrack.specs.Bits.{IsPadded}
use Rattle.slate_seqtrack.specs.Block.{IsFirstCode, AreCounted}

abbrev pub IsWrittenBlock : List ℤ → List ℕ → Type 0
IsWrittenBlock values bytes = (bits : List Bool) × AreCounted IsFirstCode values bits × IsPadded bits bytes

-- why nothing was written: a difference of differences leaves 32 bits; want of memory is free
abbrev pub IsWriteFault : Bool → TrackerFault → Type 0
IsWriteFault encodable fault = ((fault ≡ NotEncodable) × (encodable ≡ false)) ⊎ (fault ≡ NoMemory)
