-- How the batches of a piece lead on from those that were found.
use Rattle.std.specs.Prelude.{◌≡◌, ℕ, ◌+◌, ◌-◌, ◌<◌, ◌≤◌, ◌⊎◌, ◌||◌, max, Bool, true, false, All, Contains, List, [], ◌∷◌, ◌++◌, length, map, slice_get, Some, Result, Ok, Err}
use Rattle.slate_types.specs.declared.batches.Batch.{Batch}
use Rattle.slate_types.specs.declared.memory.NoMemory.{NoMemory}
use Rattle.slate_store.specs.Logs.{HaveGap, HaveNoGap}
use Rattle.slate_store.specs.Objects.{greatest}
use Rattle.slate_feed.specs.declared.pieces.Found.{Found}
use Rattle.slate_feed.specs.declared.pieces.Taken.{Taken}
use Rattle.slate_feed.specs.declared.pieces.Taken.TheVariants.{Whole, Gap, Below}

-- whether there is a batch
abbrev pub is_some_batch : List Batch → Bool
is_some_batch [] = false
is_some_batch (batch ∷ batches) = true

-- the greatest of a number and those of batches
abbrev pub greatest_number : ℕ → List Batch → ℕ
greatest_number number batches = greatest number (map (λ batch. batch.number) batches)

-- nothing was taken
abbrev pub Stays : Found → Found → Type 0
Stays found found' = (found'.batches.items ≡ found.batches.items) × (found'.began ≡ found.began)

-- how one batch is taken: it comes next, or came before, or is past the next number
abbrev pub TakesOne : (cursor : ℕ) → Batch → Found → Result Taken NoMemory → Found → Type 0
TakesOne cursor batch found (Ok Whole) found' =
    (found'.began ≡ true) × (found'.end ≡ max found.end batch.number)
    × (((batch.number ≤ cursor + length found.batches.items) × (found'.batches.items ≡ found.batches.items))
    ⊎ ((batch.number ≡ cursor + length found.batches.items + 1) × (found'.batches.items ≡ found.batches.items ++ batch ∷ [])))
TakesOne cursor batch found (Ok Gap) found' =
    (found.began ≡ true) × (cursor + length found.batches.items + 1 < batch.number) × Stays found found'
TakesOne cursor batch found (Ok (Below floor)) found' =
    (found.began ≡ false) × (cursor + length found.batches.items + 1 < batch.number) × (floor ≡ batch.number - 1) × Stays found found'
TakesOne cursor batch found (Err error) found' = Stays found found'

-- How a piece is taken: as many as were asked for are found, or all of it was taken, or a batch is past the next number,
-- and then that may be the first that was ever read.
abbrev pub TakesPiece : (cursor limit : ℕ) → (piece : List Batch) → Found → Result Taken NoMemory → Found → Type 0
TakesPiece cursor limit piece found (Ok Whole) found' =
    (length found'.batches.items ≡ limit)
    ⊎ (HaveNoGap (cursor + length found.batches.items) (cursor + length found'.batches.items) piece
    × (found'.began ≡ (found.began || is_some_batch piece)) × (found'.end ≡ greatest_number found.end piece))
TakesPiece cursor limit piece found (Ok Gap) found' = (end : ℕ) × HaveGap (cursor + length found.batches.items) end piece
TakesPiece cursor limit piece found (Ok (Below floor)) found' =
    (found.began ≡ false) × (cursor < floor) × ((batch : Batch) × (rest : List Batch) × (piece ≡ batch ∷ rest) × (floor ≡ batch.number - 1))
TakesPiece cursor limit piece found (Err error) found' = Unit {0}

-- what was found goes on by batches of a piece
abbrev pub Grows : (piece found found' : List Batch) → Type 0
Grows piece found found' = (added : List Batch) × (found' ≡ found ++ added) × All (Contains piece) added

-- the first batch that was ever read isn't past the next number
abbrev pub IsNoneBelow : Result Taken NoMemory → Type 0
IsNoneBelow (Ok Whole) = Unit {0}
IsNoneBelow (Ok Gap) = Unit {0}
IsNoneBelow result = ⊥

-- a place in batches: the first, or that of a batch at or below a number
abbrev pub IsThrough : (number place : ℕ) → List Batch → Type 0
IsThrough number place batches =
    (place ≡ 0) ⊎ ((batch : Batch) × (slice_get batches place ≡ Some batch) × (batch.number ≤ number))
