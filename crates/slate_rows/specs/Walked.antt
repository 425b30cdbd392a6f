-- The keys that a walk over tables finds.
use Rattle.std.specs.Prelude.{◌≡◌, ◌≢◌, ℕ, true, List, [], Contains, map}
use Rattle.std.specs.List.{AllByRecursion, flat_map}
use Rattle.std.specs.Borrow.{Bor}
use Rattle.slate_types.specs.declared.batches.Batch.{Batch}
use Rattle.slate_types.specs.declared.ranges.ByteRange.{ByteRange}
use Rattle.slate_types.specs.Range.{contains}
use Rattle.slate_reads.specs.Read.{versions_in}

-- the keys that references point to
abbrev pub key_list : List (Bor (List ℕ)) → List (List ℕ)
key_list keys = map (λ key. key.now) keys

-- Keys of a range, among them each that has an operation in these batches.
pub record AreWalked (batches : List Batch) (range : ByteRange) (keys : List (List ℕ)) : Type 0 where
  pub within : AllByRecursion (λ key. contains range key ≡ true) keys
  pub whole : (key : List ℕ) → contains range key ≡ true → flat_map (versions_in key) batches ≢ [] → Contains keys key
