-- The bounds of a range, which may cross, and as an ordered set takes them.
use Rattle.std.specs.Prelude.{ℕ, Bool, false, List}
use Rattle.std.specs.declared.ops.Bound.{Bound}
use Rattle.std.specs.declared.ops.Bound.TheVariants.{Included as From, Excluded as Past, Unbounded as Open}
use Rattle.std.specs.Ordering.{is_gt, is_ge}
use Rattle.slate_types.specs.declared.ranges.KeyBound.{KeyBound}
use Rattle.slate_types.specs.declared.ranges.KeyBound.TheVariants.{Unbounded, Included, Excluded}
use Rattle.slate_types.specs.Range.{key_cmp}

-- whether a low bound is past a high one, so that no key is between them
abbrev pub is_crossed : KeyBound → KeyBound → Bool
is_crossed Unbounded high = false
is_crossed (Included low) Unbounded = false
is_crossed (Included low) (Included high) = is_gt (key_cmp low high)
is_crossed (Included low) (Excluded high) = is_gt (key_cmp low high)
is_crossed (Excluded low) Unbounded = false
is_crossed (Excluded low) (Included high) = is_gt (key_cmp low high)
is_crossed (Excluded low) (Excluded high) = is_ge (key_cmp low high)

-- a bound, as an ordered set takes it
abbrev pub bound_of : KeyBound → Bound (List ℕ)
bound_of Unbounded = Open
bound_of (Included key) = From key
bound_of (Excluded key) = Past key
