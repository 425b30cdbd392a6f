-- What a wait ends with.
use Rattle.std.specs.Prelude.{◌≡◌, ℕ, Option, Some, None, Result, Ok, Err}
use Rattle.slate_errors.specs.PublicErrors.{PublicError, caused_by}
use Rattle.slate_status.specs.Records.{Record, durable_answer}
use Rattle.slate_status.specs.declared.statuses.DurableAnswer.{DurableAnswer}
use Rattle.slate_status.specs.declared.statuses.DurableAnswer.TheVariants.{Durable, Pending, Failed}

-- what it ends with by this answer, unless it goes on
abbrev pub outcome_of : DurableAnswer → Option (Result (Unit {0}) PublicError)
outcome_of Durable = Some (Ok tt)
outcome_of Pending = None
outcome_of (Failed error) = Some (Err (caused_by error))

-- the answer on a number by a record
abbrev pub IsRecorded : ℕ → DurableAnswer → Type 0
IsRecorded seq answer = (r : Record) × (answer ≡ durable_answer seq r)

-- a wait ended so, by an answer of which this holds
abbrev pub EndsBy : (DurableAnswer → Type 0) → Result (Unit {0}) PublicError → Type 0
EndsBy Is result = (answer : DurableAnswer) × Is answer × (outcome_of answer ≡ Some result)
