-- When what a transaction wrote, read and scanned conflicts with what others wrote since it began.
use Rattle.std.specs.Prelude.{ℕ, Bool, ◌&&◌, ◌||◌, not, nat_lt, List}
use Rattle.std.specs.List.{list_any}
use Rattle.slate_types.specs.declared.batches.KeyOp.{KeyOp}
use Rattle.slate_types.specs.declared.ranges.ByteRange.{ByteRange}
use Rattle.slate_types.specs.Range.{contains}
use Rattle.slate_transactions.specs.Writes.{LastWrites, is_among, last_write}

-- whether a key was written after a number
abbrev pub is_newer : ℕ → LastWrites → List ℕ → Bool
is_newer start writes key = nat_lt start (last_write writes key)

-- whether one of these operations writes such a key, which isn't unmarked
abbrev pub is_any_newer : ℕ → LastWrites → List KeyOp → (unmarked : List (List ℕ)) → Bool
is_any_newer start writes ops unmarked = list_any (λ o. not (is_among unmarked o.key) && is_newer start writes o.key) ops

-- whether such a key is in a range
abbrev pub is_newer_in : ℕ → LastWrites → ByteRange → Bool
is_newer_in start writes range = list_any (λ e. contains range e.0 && nat_lt start e.1) writes

-- Whether a key was written after a number that these operations write and that isn't unmarked, that was read, or that is
-- in a scanned range.
abbrev pub conflicts : ℕ → LastWrites → List KeyOp → (unmarked read : List (List ℕ)) → (scanned : List ByteRange) → Bool
conflicts start writes ops unmarked read scanned =
    is_any_newer start writes ops unmarked || list_any (is_newer start writes) read || list_any (is_newer_in start writes) scanned
