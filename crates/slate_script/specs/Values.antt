-- What the fields of a command spell: times of expiry, bounds of keys, and how rows are read.
use Rattle.std.specs.Prelude.{ℕ, ℤ, ◌==◌, Bool, true, false, List, [], ◌∷◌, Option, Some, None, codes, option_and_then, if◌then◌else◌}
use Rattle.std.specs.Option.{option_map}
use Rattle.std.specs.Str.{bytes_eq}
use Rattle.slate_types.specs.Range.{AreBytes}
use Rattle.slate_types.specs.declared.ranges.ByteRange.{ByteRange}
use Rattle.slate_types.specs.declared.ranges.KeyBound.{KeyBound}
use Rattle.slate_types.specs.declared.ranges.KeyBound.TheVariants.{Unbounded, Included, Excluded}
use Rattle.slate_types.specs.declared.scan_options.IterationOrder.{IterationOrder}
use Rattle.slate_types.specs.declared.scan_options.IterationOrder.TheVariants.{Ascending, Descending}
use Rattle.slate_text.specs.Numbers.{time_of}
use Rattle.slate_text.specs.Words.{word_of}

infixl 10 ◌>>=◌
abbrev pub ◌>>=◌ : {A B : Type 0} → Option A → (A → Option B) → Option B
o >>= f = option_and_then f o

-- a time of expiry as the last field, or none
abbrev pub expiry_of : List (List ℕ) → Option (Option ℤ)
expiry_of [] = Some None
expiry_of (e ∷ []) = do
  time ← time_of e
  Some (Some time)
expiry_of fields = None

-- a bound of keys: `*` for none, `[` and a key that is in the range, or `(` and one that isn't
abbrev pub bound_of : List ℕ → Option KeyBound
bound_of [] = None
bound_of (mark ∷ word) =
    if bytes_eq (mark ∷ word) (codes "*") then Some Unbounded
    else (if mark == 91 then option_map (λ key. Included key) (word_of word)
    else (if mark == 40 then option_map (λ key. Excluded key) (word_of word)
    else None))

-- a bound whose key is of bytes
abbrev pub IsOfBytes : KeyBound → Type 0
IsOfBytes Unbounded = Unit {0}
IsOfBytes (Included key) = AreBytes key
IsOfBytes (Excluded key) = AreBytes key

-- a range by its two bounds
abbrev pub range_of : List ℕ → List ℕ → Option ByteRange
range_of l h = do
  low ← bound_of l
  high ← bound_of h
  Some (record { low = low; high = high })

-- `desc`, or nothing where keys rise
abbrev pub order_of : List (List ℕ) → IterationOrder
order_of [] = Ascending
order_of (word ∷ fields) = if bytes_eq word (codes "desc") then Descending else Ascending

-- the fields behind the order
abbrev pub after_order : List (List ℕ) → List (List ℕ)
after_order [] = []
after_order (word ∷ fields) = if bytes_eq word (codes "desc") then fields else word ∷ fields

-- `remote` as the last field, or nothing
abbrev pub remote_of : List (List ℕ) → Option Bool
remote_of [] = Some false
remote_of (word ∷ []) = if bytes_eq word (codes "remote") then Some true else None
remote_of fields = None
