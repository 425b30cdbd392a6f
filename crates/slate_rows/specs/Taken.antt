-- What taking many rows of an iterator gives, also with a seek on the way.
use Rattle.std.specs.Prelude.{◌≡◌, ℕ, List, ◌++◌, length, take, drop, nat_lt, if◌then◌else◌, Option, Some, None, Result, Ok, Err}
use Rattle.std.specs.List.{last_or}
use Rattle.std.specs.Option.{option_or}
use Rattle.slate_types.specs.declared.batches.KeyValue.{KeyValue}
use Rattle.slate_types.specs.declared.read_faults.ReadFault.{ReadFault}
use Rattle.slate_types.specs.declared.read_faults.ReadFault.TheVariants.{NoMemory}
use Rattle.slate_types.specs.Order.{row_keys}
use Rattle.slate_rows.specs.declared.seeks.SeekFault.{SeekFault}
use Rattle.slate_rows.specs.declared.seeks.SeekFault.TheVariants.{Stored}
use Rattle.slate_rows.specs.Iteration.{Iteration, seek_refusal, sought}

-- all rows, or the fault that ends them
abbrev pub all_rows : List KeyValue → Option ReadFault → Result (List KeyValue) ReadFault
all_rows rows None = Ok rows
all_rows rows (Some fault) = Err fault

-- the iteration after so many rows were asked for: where it has fewer, the fault after them has come
abbrev pub after_taking : ℕ → Iteration → Iteration
after_taking count it =
    record it {
      rows = drop count it.rows;
      returned = last_or it.returned (row_keys (take count it.rows));
      answered = if nat_lt (length it.rows) count then option_or it.fault it.answered else it.answered;
    }

-- these rows, unless a seek was refused or a fault ends them
abbrev pub rows_unless : Option SeekFault → Option ReadFault → List KeyValue → Result (List KeyValue) SeekFault
rows_unless (Some refusal) fault rows = Err refusal
rows_unless None (Some fault) rows = Err (Stored fault)
rows_unless None None rows = Ok rows

-- So many rows, and then those of the rest that aren't before a key, in the order of the iteration; or why they aren't
-- given: the seek is refused, or a fault ends the rest.
abbrev pub seek_at : ℕ → List ℕ → Iteration → Result (List KeyValue) SeekFault
seek_at count key it =
    let later = after_taking count it in
    rows_unless (seek_refusal later key) it.fault (take count it.rows ++ (sought key later).rows)

-- rows that were taken with a seek came so, unless memory ran out
abbrev pub Seeks : Result (List KeyValue) SeekFault → Result (List KeyValue) SeekFault → Type 0
Seeks answer (Err (Stored NoMemory)) = Unit {0}
Seeks answer result = answer ≡ result
