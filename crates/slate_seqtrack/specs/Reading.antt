-- Reading a block: its values and the bits after it, or the first fault.
use Rattle.std.specs.Prelude.{ℕ, zero, suc, if◌then◌else◌, nat_lt, ℤ, pos, ◌+ℤ◌, Bool, true, false, List, [], ◌∷◌, ◌++◌, length, take, drop, Option, None, Some, Result, Ok, Err, ◌≡◌, ◌⊎◌, ◌-◌, ◌/◌}
use Rattle.slate_seqtrack.specs.declared.faults.TrackerFault.{TrackerFault}
use Rattle.slate_seqtrack.specs.declared.faults.TrackerFault.TheVariants.{ShortData, Overflows, NoMemory}
use Rattle.slate_seqtrack.specs.Bits.{number_of, signed, bits_of}
use Rattle.slate_seqtrack.specs.Block.{fits_i64}

-- how many bits of a value come after the prefix at the front, and what is after the prefix
abbrev pub width_at : List Bool → Option (ℕ × List Bool)
width_at [] = None
width_at (false ∷ bits) = Some (0, bits)
width_at (true ∷ []) = None
width_at (true ∷ false ∷ bits) = Some (7, bits)
width_at (true ∷ true ∷ []) = None
width_at (true ∷ true ∷ false ∷ bits) = Some (9, bits)
width_at (true ∷ true ∷ true ∷ []) = None
width_at (true ∷ true ∷ true ∷ false ∷ bits) = Some (12, bits)
width_at (true ∷ true ∷ true ∷ true ∷ bits) = Some (32, bits)

abbrev pub signed_at : ℕ → List Bool → Option (ℤ × List Bool)
signed_at width bits = if nat_lt (length bits) width then None else Some (signed width (number_of (take width bits)), drop width bits)

abbrev pub behind_width : Option (ℕ × List Bool) → Option (ℤ × List Bool)
behind_width None = None
behind_width (Some read) = signed_at read.0 read.1

-- the difference of differences at the front, in any form
abbrev pub code_at : List Bool → Option (ℤ × List Bool)
code_at bits = behind_width (width_at bits)

abbrev pub behind : List ℤ → Result (List ℤ × List Bool) TrackerFault → Result (List ℤ × List Bool) TrackerFault
behind front (Ok read) = Ok (front ++ read.0, read.1)
behind front (Err fault) = Err fault

abbrev pub or_short : {X Y : Type 0} → Option X → (X → Result Y TrackerFault) → Result Y TrackerFault
or_short None next = Err ShortData
or_short (Some read) next = next read

-- so many values after one with a difference to the one before it
unfoldable pub later_at : ℕ → ℤ → ℤ → List Bool → Result (List ℤ × List Bool) TrackerFault
later_at zero previous delta bits = Ok ([], bits)
later_at (suc n) previous delta bits = or_short (code_at bits) (λ read.
    let value = previous +ℤ (delta +ℤ read.0) in
    if fits_i64 value then behind (value ∷ []) (later_at n value (delta +ℤ read.0) read.1) else Err Overflows)

abbrev pub values_at : ℕ → List Bool → Result (List ℤ × List Bool) TrackerFault
values_at zero bits = Ok ([], bits)
values_at (suc n) bits = or_short (signed_at 64 bits) (λ read. behind (read.0 ∷ []) (later_at n read.0 (pos 0) read.1))

unfoldable pub counted_at : List Bool → Result (List ℤ × List Bool) TrackerFault
counted_at bits = if nat_lt (length bits) 32 then Err ShortData else values_at (number_of (take 32 bits)) (drop 32 bits)

-- the block at the front of bytes: its values, and how many bytes it takes
abbrev pub taken : ℕ → Result (List ℤ × List Bool) TrackerFault → Result (List ℤ × ℕ) TrackerFault
taken size (Ok read) = Ok (read.0, size - length read.1 / 8)
taken size (Err fault) = Err fault

abbrev pub block_at : List ℕ → Result (List ℤ × ℕ) TrackerFault
block_at bytes = taken (length bytes) (counted_at (bits_of bytes))

-- why nothing was read: the fault that reading gives; want of memory is free
abbrev pub IsReadFault : {X : Type 0} → Result X TrackerFault → TrackerFault → Type 0
IsReadFault read fault = (read ≡ Err fault) ⊎ (fault ≡ NoMemory)
