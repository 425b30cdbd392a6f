-- What a write adds to a handle, and what refuses it.
use Rattle.std.specs.Prelude.{◌≡◌, ℕ, ℤ, ◌+◌, ◌⊎◌, ◌==◌, Bool, if◌then◌else◌, nat_lt, int_lt, List, [], ◌∷◌, ◌++◌, length, Option, Some, None, option_map, unwrap_or, Result, Err, IfOk, IfErr, IfSome}
use Rattle.std.specs.List.{list_any}
use Rattle.std.specs.Option.{option_eq, option_or}
use Rattle.std.specs.Ordering.{int_eq}
use Rattle.std.specs.Str.{bytes_eq}
use Rattle.slate_types.specs.declared.batches.Batch.{Batch}
use Rattle.slate_types.specs.declared.batches.KeyOp.{KeyOp}
use Rattle.slate_types.specs.declared.batches.Op.{Op}
use Rattle.slate_types.specs.declared.batches.Op.TheVariants.{Put, Delete, Merge}
use Rattle.slate_types.specs.Line.{extended}
use Rattle.slate_errors.specs.declared.errors.SlateError.{SlateError}
use Rattle.slate_errors.specs.declared.errors.SlateError.TheVariants.{EmptyBatch, EmptyKey, EmptySegmentPrefix, IncompatibleMergeTtls, InvalidDBState, InvalidClockTick, InvalidSegmentPrefix, NoMemory}
use Rattle.slate_model.specs.declared.answers.Written.{Written}
use Rattle.slate_transactions.specs.Writes.{after_writes}
use Rattle.slate_model.specs.Tracked.{tracked}
use Rattle.slate_model.specs.Handle.{Handle, CloseResult, accepted, known_segments, untabled_segments}
use Rattle.slate_model.specs.Segments.{Extractor, segment_refusal, segments_with}
use Rattle.slate_model.specs.Unflushed.{limit_refusal, unflushed}
use Rattle.slate_errors.specs.Errors.{closed_error}

-- the greatest number of a batch, manifest or log file
abbrev pub last_number : ℕ
last_number = 18446744073709551615

-- the refusal of a checked call, where the handle is closed
abbrev pub closed_refusal : CloseResult → Option SlateError
closed_refusal None = None
closed_refusal (Some result) = Some (closed_error result)

abbrev pub has_empty_key : List KeyOp → Bool
has_empty_key ops = list_any (λ o. length o.key == 0) ops

-- the time of expiry of a merge
abbrev pub merge_expiry : Op → Option (Option ℤ)
merge_expiry (Merge operand expire) = Some expire
merge_expiry (Put value expire) = None
merge_expiry Delete = None

-- the time of expiry of the first merge of a key
abbrev pub first_expiry : List ℕ → List KeyOp → Option (Option ℤ)
first_expiry key [] = None
first_expiry key (op ∷ ops) = option_or (if bytes_eq op.key key then merge_expiry op.op else None) (first_expiry key ops)

-- the refusal of a merge of a key by the time of expiry of the first one, and by its own
abbrev pub expiry_refusal : List ℕ → Option (Option ℤ) → Option (Option ℤ) → Option SlateError
expiry_refusal key (Some previous) (Some current) =
    if option_eq int_eq previous current then None else Some (IncompatibleMergeTtls key previous current)
expiry_refusal key previous None = None
expiry_refusal key None current = None

-- the refusal of the first merge of a key that an earlier one, before these operations or among them, merges under
-- another time of expiry
abbrev pub merge_refusal : List KeyOp → List KeyOp → Option SlateError
merge_refusal before [] = None
merge_refusal before (op ∷ ops) =
    option_or (expiry_refusal op.key (first_expiry op.key before) (merge_expiry op.op)) (merge_refusal (before ++ op ∷ []) ops)

-- the refusal of a batch without an operation, with an empty key, or with two times of expiry for the merges of a key
abbrev pub batch_refusal : List KeyOp → Option SlateError
batch_refusal [] = Some EmptyBatch
batch_refusal (op ∷ ops) = if has_empty_key (op ∷ ops) then Some EmptyKey else merge_refusal [] (op ∷ ops)

-- the refusal of a write after the greatest number
abbrev pub number_refusal : ℕ → Option SlateError
number_refusal number = if nat_lt number last_number then None else Some InvalidDBState

-- the moment at which a write is accepted: the first of its moments that isn't below the tick
abbrev pub accepted_moment : ℤ → ℤ → Option ℤ → Option ℤ
accepted_moment tick moment None = if int_lt moment tick then None else Some moment
accepted_moment tick moment (Some second) =
    if int_lt moment tick then (if int_lt second tick then None else Some second) else Some moment

-- the refusal of a write whose moments all lie below the tick: it names the last one
abbrev pub clock_refusal : ℤ → ℤ → Option ℤ → Option ℤ → Option SlateError
clock_refusal tick moment second (Some at) = None
clock_refusal tick moment second None = Some (InvalidClockTick tick (unwrap_or second moment))

-- why a write is refused, where it is: the first of these in their order. Want of memory aside, nothing else refuses it.
abbrev pub write_refusal : Option Extractor → Handle → List KeyOp → ℤ → Option ℤ → Option SlateError
write_refusal extractor handle ops moment second =
    option_or (closed_refusal handle.result)
    (option_or (batch_refusal ops)
    (option_or (limit_refusal (unflushed handle) handle.limit)
    (option_or (segment_refusal extractor (known_segments handle) ops)
    (option_or (number_refusal (accepted handle))
    (clock_refusal handle.tick moment second (accepted_moment handle.tick moment second))))))

-- the batch that a write makes of operations: the next number, and the accepted moment
abbrev pub next_batch : Handle → List KeyOp → ℤ → Batch
next_batch handle ops at = record { number = accepted handle + 1; create_ts = at; ops = ops }

-- the handle after a write, which tracks its writes but for those of unmarked keys
abbrev pub written_but : (unmarked : List (List ℕ)) → Option Extractor → Handle → List KeyOp → ℤ → Handle
written_but unmarked extractor handle ops at =
    record handle {
      line = extended handle.line (next_batch handle ops at ∷ []);
      segments = segments_with extractor (untabled_segments handle) ops;
      tick = at;
      tracker = tracked handle.tracker (accepted handle + 1) at;
      writes = option_map (after_writes (accepted handle + 1) unmarked ops) handle.writes;
    }

abbrev pub written : Option Extractor → Handle → List KeyOp → ℤ → Handle
written extractor handle ops at = written_but [] extractor handle ops at

-- A write of operations to a handle: it is accepted, or refused for what refuses it, or for want of memory. It tracks its
-- writes but for those of unmarked keys.
pub record WritesBut (unmarked : List (List ℕ)) (extractor : Option Extractor) (old : Handle) (ops : List KeyOp) (moment : ℤ) (second : Option ℤ) (result : Result Written SlateError) (new : Handle) : Type 0 where
  pub accepted : IfOk result (λ w. (write_refusal extractor old ops moment second ≡ None) × (accepted_moment old.tick moment second ≡ Some w.create_ts)
      × (w.number ≡ accepted old + 1) × (new ≡ written_but unmarked extractor old ops w.create_ts))
  pub refused : IfErr result (λ error. ((error ≡ NoMemory) ⊎ (write_refusal extractor old ops moment second ≡ Some error)) × (new ≡ old))

-- the refusals of an operation by its segment
abbrev pub IsOfSegments : SlateError → Type 0
IsOfSegments (EmptySegmentPrefix key) = Unit {0}
IsOfSegments (InvalidSegmentPrefix prefix known) = Unit {0}
IsOfSegments error = ⊥

-- What a write says whatever its extractor answers: all but the prefixes that it takes, and which of them refuse it.
pub record WritesByAny (unmarked : List (List ℕ)) (old : Handle) (ops : List KeyOp) (moment : ℤ) (second : Option ℤ) (result : Result Written SlateError) (new : Handle) : Type 0 where
  pub closed : IfSome old.result (λ r. result ≡ Err (closed_error r))
  pub accepted : IfOk result (λ w. (write_refusal None old ops moment second ≡ None) × (accepted_moment old.tick moment second ≡ Some w.create_ts)
      × (w.number ≡ accepted old + 1) × (new ≡ record (written_but unmarked None old ops w.create_ts) { segments = new.segments }))
  pub refused : IfErr result (λ error. ((error ≡ NoMemory) ⊎ (IsOfSegments error ⊎ (write_refusal None old ops moment second ≡ Some error))) × (new ≡ old))

-- a write that tracks all its writes
abbrev pub Writes : Option Extractor → Handle → List KeyOp → ℤ → Option ℤ → Result Written SlateError → Handle → Type 0
Writes extractor old ops moment second result new = WritesBut [] extractor old ops moment second result new
