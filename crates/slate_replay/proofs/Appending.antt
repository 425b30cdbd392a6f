-- Appending a log file's batches one by one goes on along a line, and without a gap.
use Rattle.std.proofs.Common.{◌≡◌, ℕ, ◌+◌, ◌<◌, ◌≤◌, List, [], ◌∷◌, ◌++◌, length, take, drop, get_or, sym, ap, ◌∙◌, arith, add-one}
use Rattle.std.proofs.Math.Seq.{drop-cons}
use Rattle.std.proofs.lemmas.List.{take-append-drop}
use Rattle.std.specs.List.{All}
use Rattle.slate_types.specs.declared.batches.Batch.{Batch}
use Rattle.slate_types.specs.Line.{AreNumberedFrom, IsPrefix, Line, batches_above}
use Rattle.slate_reads.specs.Index.{IsAboveLast}
use Rattle.slate_store.specs.Logs.{HaveGap, HaveNoGap, StandsIn}
use Rattle.slate_store.proofs.Logs.{belong-at, prefix-push}
use Rattle.slate_replay.specs.Replay.{line_of}

-- a number past the end of a line is above that of its last batch
pub numbered-last : (floor n : ℕ) (batches : List Batch) → AreNumberedFrom floor batches → floor + length batches < n → IsAboveLast n batches
numbered-last floor n [] h less = tt
numbered-last floor n (b ∷ []) h less = omega (arith, h.0)
numbered-last floor n (b ∷ x ∷ batches) h less = numbered-last (floor + 1) n (x ∷ batches) h.1 (omega arith)

-- what was appended so far begins each line that it is to begin
abbrev pub Begins : ℕ → List Batch → List Batch → List Batch → Type 0
Begins floor old m all =
    (line : Line) → IsPrefix (line_of floor old) line → All (λ batch. StandsIn batch line) (batches_above (floor + length old) all) → IsPrefix (line_of floor m) line

-- a batch of a list, and those around it
parts : (i : ℕ) (all : List Batch) (b : Batch) → i < length all → b ≡ get_or all i b → all ≡ take i all ++ b ∷ drop (i + 1) all
parts i all b less is =
    sym (take-append-drop i all)
    ∙ ap (λ xs. take i all ++ xs) (drop-cons all i b less ∙ (ap (λ n. get_or all i b ∷ drop n all) (sym (add-one i)) ∙ ap (λ x. x ∷ drop (i + 1) all) (sym is)))

pub begins-push : (floor i : ℕ) (old m all : List Batch) (b : Batch) → Begins floor old m all → length old ≤ length m → i < length all → b ≡ get_or all i b → b.number ≡ floor + length m + 1 → Begins floor old (m ++ b ∷ []) all
begins-push floor i old m all b so_far longer less is next line prefix all_stand =
    prefix-push floor m b line (so_far line prefix all_stand)
    (belong-at (floor + length old) line (take i all) b (drop (i + 1) all) all (parts i all b less is) (omega (arith, next)) all_stand) next

pub gap-at : (from end i : ℕ) (all : List Batch) (b : Batch) → HaveNoGap from end (take i all) → i < length all → b ≡ get_or all i b → end + 1 < b.number → HaveGap from end all
gap-at from end i all b so_far less is past =
    record { front = take i all; batch = b; rest = drop (i + 1) all; parts = parts i all b less is; no_gap = so_far; past = past }
