-- What an iterator has left, and what its next row and a seek answer.
use Rattle.std.specs.Prelude.{ℕ, Bool, true, false, not, List, [], ◌∷◌, filter, Option, Some, None, Result, Ok, Err}
use Rattle.std.specs.Ordering.{is_le}
use Rattle.slate_types.specs.declared.batches.KeyValue.{KeyValue}
use Rattle.slate_types.specs.declared.scan_options.IterationOrder.{IterationOrder}
use Rattle.slate_types.specs.declared.ranges.ByteRange.{ByteRange}
use Rattle.slate_types.specs.declared.read_faults.ReadFault.{ReadFault}
use Rattle.slate_rows.specs.declared.seeks.SeekFault.{SeekFault}
use Rattle.slate_rows.specs.declared.seeks.SeekFault.TheVariants.{OutOfRange, LessThanLastReturned, Stored}
use Rattle.slate_types.specs.Range.{key_cmp, contains}
use Rattle.slate_types.specs.Order.{is_before}

-- an iteration: the rows that are left, the fault after them, the key of the row that came last, and the fault that came
pub record Iteration : Type 0 where
  pub range : ByteRange
  pub order : IterationOrder
  pub rows : List KeyValue
  pub fault : Option ReadFault
  pub returned : Option (List ℕ)
  pub answered : Option ReadFault

-- one that begins
abbrev pub begun : ByteRange → IterationOrder → List KeyValue → Option ReadFault → Iteration
begun range order rows fault =
    record { range = range; order = order; rows = rows; fault = fault; returned = None; answered = None }

-- what comes next: a row, or else the fault, or nothing
abbrev pub next_of : List KeyValue → Option ReadFault → Result (Option KeyValue) ReadFault
next_of (row ∷ rows) fault = Ok (Some row)
next_of [] (Some fault) = Err fault
next_of [] None = Ok None

-- the iteration after that
abbrev pub after_next : List KeyValue → Option ReadFault → Iteration → Iteration
after_next (row ∷ rows) fault it = record it { rows = rows; returned = Some row.key }
after_next [] (Some fault) it = record it { answered = Some fault }
after_next [] None it = it

-- whether a key is at most the one that came last
abbrev pub is_returned : Option (List ℕ) → List ℕ → Bool
is_returned None key = false
is_returned (Some last) key = is_le (key_cmp key last)

-- the first cause to refuse a seek: a fault that came, a key outside the range, a key at most the one that came last
abbrev pub first_cause : Option ReadFault → Bool → Bool → Option SeekFault
first_cause (Some fault) in_range returned = Some (Stored fault)
first_cause None false returned = Some OutOfRange
first_cause None true true = Some LessThanLastReturned
first_cause None true false = None

-- why a seek of a key is refused, if it is
abbrev pub seek_refusal : Iteration → List ℕ → Option SeekFault
seek_refusal it key = first_cause it.answered (contains it.range key) (is_returned it.returned key)

-- the iteration without the rows before a key, in its order
abbrev pub sought : List ℕ → Iteration → Iteration
sought key it = record it { rows = filter (λ r. not (is_before it.order r.key key)) it.rows }
