-- Tables that each have a batch.
use Rattle.std.proofs.Common.{◌<◌, ◌≤◌, List, [], ◌∷◌, length, arith, length-append}
use Rattle.std.proofs.lemmas.List.Elements.{All-head, All-tail}
use Rattle.slate_types.specs.declared.batches.Batch.{Batch}
use Rattle.slate_follow.specs.Joined.{AreFilled, joined}

abbrev HasBatch : List Batch → Type 0
HasBatch table = 0 < length table

-- there are no more tables than batches
pub filled-few : (tables : List (List Batch)) → AreFilled tables → length tables ≤ length (joined tables)
filled-few [] filled = omega arith
filled-few (table ∷ tables) filled =
    let first : 0 < length table = All-head HasBatch table tables filled in
    let rest = filled-few tables (All-tail HasBatch table tables filled) in
    let count = length-append table (joined tables) in
    omega (arith, first, rest, count)
