-- The prefixes of segments.
use Rattle.std.specs.Prelude.{ℕ, ◌⊎◌, ◌↔◌, ◌++◌, List, [], ◌∷◌, Contains}
use Rattle.std.specs.FinMap.{FinMap, empty, insert, keys}
use Rattle.std.specs.Ordering.{nat_cmp}
use Rattle.std.specs.Cmp.Lexicographic.{slice_cmp}
use Rattle.std.specs.List.Sorted.{IsStrictlySortedBy}
use Rattle.slate_status.specs.declared.statuses.DbStatus.{DbStatus}

-- each prefix is above the one before it, and so there once
abbrev pub PrefixesRise : List (List ℕ) → Type 0
PrefixesRise prefixes = IsStrictlySortedBy (slice_cmp nat_cmp) prefixes

-- the prefixes of either list, rising
pub record IsUnion (first second union : List (List ℕ)) : Type 0 where
  pub rising : PrefixesRise union
  pub members : (prefix : List ℕ) → Contains union prefix ↔ (Contains first prefix ⊎ Contains second prefix)

-- the set of these prefixes
abbrev pub set_of : List (List ℕ) → FinMap (slice_cmp nat_cmp) (Unit {0})
set_of [] = empty
set_of (prefix ∷ prefixes) = insert (set_of prefixes) prefix tt

-- the prefixes of either list, each once, in their order
abbrev pub union_of : List (List ℕ) → List (List ℕ) → List (List ℕ)
union_of first second = keys (set_of (first ++ second))

-- the prefixes of the segments of a status: those of its manifest's tables, and those of the batches outside of them
abbrev pub segments_of : DbStatus → List (List ℕ)
segments_of status = union_of status.current_manifest.manifest.segments status.memtable_segments
