-- The bytes of a tracker: 1, the length in four bytes with the lowest first, the block of numbers, that of times.
use Rattle.std.specs.Prelude.{◌≡◌, ℕ, ◌<◌, ◌-◌, ◌^◌, if◌then◌else◌, nat_eq, nat_lt, ℤ, Bool, true, ◌&&◌, List, [], ◌∷◌, ◌++◌, length, map, take, drop, slice_get, Result, Ok, Err}
use Rattle.std.specs.List.{AllByRecursion}
use Rattle.std.specs.Int.{w32, w64, cast_signed, cast_unsigned, to_le_bytes, from_le_bytes}
use Rattle.std.specs.declared.cmp.Ordering.{Ordering}
use Rattle.std.specs.Ordering.{is_le, nat_cmp, int_cmp}
use Rattle.slate_seqtrack.specs.declared.faults.TrackerFault.{TrackerFault}
use Rattle.slate_seqtrack.specs.declared.faults.TrackerFault.TheVariants.{Empty, Version, ShortLength, CountMismatch, Falls}
use Rattle.slate_seqtrack.specs.Block.{fits_i64, is_encodable, IsBlock}
use Rattle.slate_seqtrack.specs.Reading.{block_at}
use Rattle.slate_seqtrack.specs.Thinning.{last_alone}
use Rattle.slate_seqtrack.specs.Tracker.{Tracker, numbers_of, paired, times_of}

-- numbers are taken as signed ones of the same bits
abbrev pub as_signed : List ℕ → List ℤ
as_signed = map (cast_signed w64)

abbrev pub as_unsigned : List ℤ → List ℕ
as_unsigned = map (cast_unsigned w64)

-- whether both lists of a tracker can be written
abbrev pub has_bytes : Tracker → Bool
has_bytes tracker = is_encodable (as_signed (numbers_of tracker)) && is_encodable (times_of tracker)

-- a tracker that can be written: where it can't, its last pair alone
abbrev pub packed : Tracker → Tracker
packed tracker = if has_bytes tracker then tracker else record tracker { pairs = last_alone tracker.pairs }

abbrev pub AreTrackerBytes : (List ℤ → List ℕ → Type 0) → List ℕ → List ℤ → List ℕ → Type 0
AreTrackerBytes Block numbers times bytes =
    (first : List ℕ) × (second : List ℕ) × (bytes ≡ 1 ∷ (to_le_bytes w32 (length numbers) ++ (first ++ second))) × Block (as_signed numbers) first × Block times second

-- whether a list never falls
abbrev pub rises : {X : Type 0} → (X → X → Ordering) → List X → Bool
rises cmp [] = true
rises cmp (x ∷ []) = true
rises cmp (x ∷ y ∷ xs) = is_le (cmp x y) && rises cmp (y ∷ xs)

-- two lists that a tracker may have: of one length, each in its type, and neither falls
pub record AreLists (numbers : List ℕ) (times : List ℤ) : Type 0 where
  pub same : length times ≡ length numbers
  pub few : length numbers < 2 ^ 32
  pub numbers_fit : AllByRecursion (λ n. n < 2 ^ 64) numbers
  pub times_fit : AllByRecursion (λ t. fits_i64 t ≡ true) times
  pub numbers_rise : rises nat_cmp numbers ≡ true
  pub times_rise : rises int_cmp times ≡ true

-- bytes begin with those of a tracker that has these lists
pub record BeginsWithTracker (bytes numbers : List ℕ) (times : List ℤ) : Type 0 where
  pub lists : AreLists numbers times
  pub front : List ℕ
  pub rest : List ℕ
  pub parts : bytes ≡ front ++ rest
  pub spelled : AreTrackerBytes IsBlock numbers times front

-- ---- reading: the two lists, or the first fault
abbrev pub read_then : {X Y : Type 0} → Result X TrackerFault → (X → Result Y TrackerFault) → Result Y TrackerFault
read_then (Ok read) next = next read
read_then (Err fault) next = Err fault

-- a block of so many values, and the bytes after it
abbrev pub counted_block : ℕ → List ℕ → Result (List ℤ × List ℕ) TrackerFault
counted_block count bytes = read_then (block_at bytes) (λ block. if nat_eq (length block.0) count then Ok (block.0, drop block.1 bytes) else Err (CountMismatch count (length block.0)))

abbrev pub in_order : List ℕ → List ℤ → Result (List ℕ × List ℤ) TrackerFault
in_order numbers times = if rises nat_cmp numbers && rises int_cmp times then Ok (numbers, times) else Err Falls

abbrev pub blocks_at : ℕ → List ℕ → Result (List ℕ × List ℤ) TrackerFault
blocks_at count bytes = read_then (counted_block count bytes) (λ numbers. read_then (counted_block count numbers.1) (λ times. in_order (as_unsigned numbers.0) times.0))

abbrev pub lists_behind : List ℕ → Result (List ℕ × List ℤ) TrackerFault
lists_behind bytes = if nat_lt (length bytes) 4 then Err ShortLength else blocks_at (from_le_bytes w32 (take 4 bytes)) (drop 4 bytes)

abbrev pub lists_at : List ℕ → Result (List ℕ × List ℤ) TrackerFault
lists_at [] = Err Empty
lists_at (version ∷ bytes) = if nat_eq version 1 then lists_behind bytes else Err (Version version)

-- a tracker of two lists: its last recorded time is the last one of the list
abbrev pub tracker_of : List ℕ → List ℤ → Tracker
tracker_of numbers times = record { capacity = 8192; interval = 60; pairs = paired numbers times; recorded = slice_get times (length times - 1) }

abbrev pub tracker_at : List ℕ → Result Tracker TrackerFault
tracker_at bytes = read_then (lists_at bytes) (λ lists. Ok (tracker_of lists.0 lists.1))
