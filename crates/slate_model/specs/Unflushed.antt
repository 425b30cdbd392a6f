-- How much a handle has that isn't stored yet, and the refusal of a write by that.
use Rattle.std.specs.Prelude.{ℕ, ◌+◌, min, nat_lt, if◌then◌else◌, Option, Some, None}
use Rattle.slate_reads.specs.Size.{size_of}
use Rattle.slate_errors.specs.declared.errors.SlateError.{SlateError}
use Rattle.slate_errors.specs.declared.errors.SlateError.TheVariants.{Backpressure}
use Rattle.slate_model.specs.Handle.{Handle, to_log, untabled}

-- the most bytes that are counted
abbrev pub most_bytes : ℕ
most_bytes = 18446744073709551615

-- The bytes of the keys and values that aren't in the tables of its view, and, where it keeps a log, once more those that
-- aren't in the log.
abbrev pub unflushed : Handle → ℕ
unflushed handle = min (size_of (untabled handle.view.manifest handle) + size_of (to_log handle)) most_bytes

-- the refusal of a write where so many bytes reach the limit
abbrev pub limit_refusal : (unflushed limit : ℕ) → Option SlateError
limit_refusal unflushed limit = if nat_lt unflushed limit then None else Some (Backpressure unflushed limit)
