-- What a search among known prefixes finds.
use Rattle.std.specs.Prelude.{◌≡◌, ℕ, ◌<◌, ◌≤◌, true, false, List, [], length, Option, Some, None, Result, Ok, Err}
use Rattle.std.specs.List.{AllWithin, HoldsAt}
use Rattle.std.specs.Ordering.{is_lt}
use Rattle.std.specs.declared.cmp.Ordering.TheVariants.{Less, Greater}
use Rattle.slate_types.specs.declared.batches.KeyOp.{KeyOp}
use Rattle.slate_types.specs.Range.{key_cmp}
use Rattle.slate_model.specs.Segments.{Extractor, nest, prefixes_of}
use Rattle.slate_segments.specs.Prefixes.{is_one_of}

-- this is the least of the known prefixes that nests with one, or none does
abbrev pub IsConflict : (known : List (List ℕ)) → List ℕ → Option (List ℕ) → Type 0
IsConflict known prefix None = (other : List ℕ) → is_one_of known other ≡ true → nest prefix other ≡ false
IsConflict known prefix (Some found) =
    (is_one_of known found ≡ true) × (nest prefix found ≡ true)
    × ((other : List ℕ) → is_one_of known other ≡ true → nest prefix other ≡ true → is_lt (key_cmp other found) ≡ false)

-- the prefixes of the keys of operations, where there is an extractor
abbrev pub prefixes_by : Option Extractor → List KeyOp → List (List ℕ)
prefixes_by None ops = []
prefixes_by (Some extractor) ops = prefixes_of extractor ops

-- where a prefix stands among these, which rise, or where it belongs
abbrev pub IsPlace : (known : List (List ℕ)) → List ℕ → Result ℕ ℕ → Type 0
IsPlace known prefix (Ok i) = (i < length known) × HoldsAt (λ k. k ≡ prefix) known i
IsPlace known prefix (Err i) =
    (i ≤ length known) × AllWithin (λ k. key_cmp k prefix ≡ Less) known 0 i × AllWithin (λ k. key_cmp k prefix ≡ Greater) known i (length known)

-- this is the one of these that is this prefix, or none is
abbrev pub IsSame : (known : List (List ℕ)) → List ℕ → Option (List ℕ) → Type 0
IsSame known prefix None = is_one_of known prefix ≡ false
IsSame known prefix (Some found) = (is_one_of known prefix ≡ true) × (found ≡ prefix)

-- this is the least of these above a prefix, or none is above it
abbrev pub IsNext : (known : List (List ℕ)) → List ℕ → Option (List ℕ) → Type 0
IsNext known prefix None = (other : List ℕ) → is_one_of known other ≡ true → is_lt (key_cmp prefix other) ≡ false
IsNext known prefix (Some found) =
    (is_one_of known found ≡ true) × (key_cmp prefix found ≡ Less)
    × ((other : List ℕ) → is_one_of known other ≡ true → key_cmp prefix other ≡ Less → is_lt (key_cmp other found) ≡ false)
