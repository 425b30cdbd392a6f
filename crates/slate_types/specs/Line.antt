-- Batches that are numbered one after another.
use Rattle.std.specs.Prelude.{◌≡◌, ℕ, ◌+◌, List, [], ◌∷◌, ◌++◌, length, filter, nat_lt}
use Rattle.slate_types.specs.declared.batches.Batch.{Batch}

-- batches with numbers one after another, the first of them just above the floor
abbrev pub AreNumberedFrom : ℕ → List Batch → Type 0
AreNumberedFrom floor [] = Unit {0}
AreNumberedFrom floor (batch ∷ batches) = (batch.number ≡ floor + 1) × AreNumberedFrom (floor + 1) batches

-- a line: the number before its first batch, and its batches
pub record Line : Type 0 where
  pub floor : ℕ
  pub batches : List Batch

-- the batches of a line are numbered floor + 1, floor + 2, and so on
abbrev pub IsLine : Line → Type 0
IsLine line = AreNumberedFrom line.floor line.batches

-- the number of the last batch; the floor where there is none
abbrev pub end : Line → ℕ
end line = line.floor + length line.batches

-- the line with these batches after its last
abbrev pub extended : Line → List Batch → Line
extended line batches = record { floor = line.floor; batches = line.batches ++ batches }

-- one line begins another
abbrev pub IsPrefix : Line → Line → Type 0
IsPrefix line longer = (rest : List Batch) × (longer ≡ extended line rest)

-- the batches with numbers above this one
abbrev pub batches_above : ℕ → List Batch → List Batch
batches_above number batches = filter (λ batch. nat_lt number batch.number) batches
