-- What a call on a shared record answers. The lock is given up before the call returns, so each answer is said of the
-- record as the call found it: that there is one of which it is the answer.
use Rattle.std.specs.Prelude.{◌≡◌, ℕ, Bool, List, max}
use Rattle.slate_status.specs.Records.{Record, Reports, status_of, with_segments}
use Rattle.slate_status.specs.Segments.{PrefixesRise, IsUnion}
use Rattle.slate_status.specs.declared.statuses.DbStatus.{DbStatus}

-- whether the version rose, by a report of what this change makes of a record
abbrev pub AnswersReport : (Record → Record) → Bool → Type 0
AnswersReport change rose = (old : Record) × (new : Record) × Reports old (change old) new rose

-- the same, by a report that adds these prefixes
abbrev pub AnswersAdded : List (List ℕ) → Bool → Type 0
AnswersAdded prefixes rose =
    (old : Record) × (new : Record) × (added : List (List ℕ)) × IsUnion old.segments prefixes added
    × Reports old (with_segments added old) new rose

-- the status of a record
abbrev pub IsReported : DbStatus → Type 0
IsReported status = (r : Record) × (status ≡ status_of r) × PrefixesRise status.memtable_segments

-- the same, whose version is the one seen from now on, unless a later one was seen before
abbrev pub IsSeen : ℕ → ℕ → DbStatus → Type 0
IsSeen before after status = (r : Record) × (status ≡ status_of r) × PrefixesRise status.memtable_segments × (after ≡ max before r.version)
