-- Lines of batches that stand elsewhere, and what is found wrong in lists.
use Rattle.std.specs.Prelude.{◌≡◌, ◌≢◌, ℕ, ◌+◌, ◌++◌, ◌∷◌, nat_eq, true, All, List, map, length}
use Rattle.std.specs.Borrow.{Bor}
use Rattle.std.specs.List.{IsDistinct, list_any}
use Rattle.slate_types.specs.declared.batches.Batch.{Batch}
use Rattle.slate_types.specs.Line.{AreNumberedFrom, Line, batches_above}
use Rattle.slate_store.specs.declared.objects.Checkpoint.{Checkpoint}
use Rattle.slate_store.specs.Content.{AreGapless, number_before}

-- the batches that references point to
abbrev pub batch_list : List (Bor Batch) → List Batch
batch_list batches = map (λ batch. batch.now) batches

abbrev pub line_of : ℕ → List (Bor Batch) → Line
line_of floor batches = record { floor = floor; batches = batch_list batches }

-- joined tables end at a number
abbrev pub EndAt : ℕ → List Batch → Type 0
EndAt last joined = number_before joined last + length joined ≡ last

-- the line of joined tables that end at a number, and of what log files have above it
abbrev pub named_line : (last : ℕ) → (joined logged : List Batch) → Line
named_line last joined logged = record { floor = number_before joined last; batches = joined ++ batches_above last logged }

-- the manifests that checkpoints keep
abbrev pub kept_ids : List Checkpoint → List ℕ
kept_ids checkpoints = map (λ checkpoint. checkpoint.manifest_id) checkpoints

-- the first of a list that isn't P: each before it is
abbrev pub IsFirstWithout : {X : Type 0} → (X → Type 0) → List X → X → Type 0
IsFirstWithout {X} P xs x = (front : List X) × (rest : List X) × (xs ≡ front ++ x ∷ rest) × All P front

-- after this id there is a gap in ids above a mark, the first one
abbrev pub IsFirstGap : ℕ → List ℕ → ℕ → Type 0
IsFirstGap mark ids after =
    (front : List ℕ) × (id : ℕ) × (rest : List ℕ) × (ids ≡ front ++ id ∷ rest) × AreGapless mark front
    × (after ≡ mark + length front) × (id ≢ after + 1)

-- the first batch of a line that doesn't go on from the one before it has this number
abbrev pub IsFirstUnnumbered : Line → ℕ → Type 0
IsFirstUnnumbered line number =
    (front : List Batch) × (batch : Batch) × (rest : List Batch) × (line.batches ≡ front ++ batch ∷ rest)
    × AreNumberedFrom line.floor front × (number ≡ batch.number) × (number ≢ line.floor + length front + 1)

-- the first of numbers that stands among those before it
abbrev pub IsFirstTwice : List ℕ → ℕ → Type 0
IsFirstTwice ids id =
    (front : List ℕ) × (rest : List ℕ) × (ids ≡ front ++ id ∷ rest) × IsDistinct nat_eq front × (list_any (nat_eq id) front ≡ true)
