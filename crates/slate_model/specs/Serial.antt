-- What a transaction at SerializableSnapshot read is what it would have read just before its batch.
use Rattle.std.specs.Prelude.{◌≡◌, ℕ, ℤ, true, false, Bool, List, [], ◌∷◌, ◌++◌, Option, None, Ok}
use Rattle.std.specs.List.{AllByRecursion, list_any}
use Rattle.std.specs.Str.{bytes_eq}
use Rattle.slate_types.specs.declared.batches.Batch.{Batch}
use Rattle.slate_types.specs.declared.batches.KeyOp.{KeyOp}
use Rattle.slate_types.specs.declared.batches.KeyValue.{KeyValue}
use Rattle.slate_types.specs.declared.options.DurabilityLevel.TheVariants.{Memory}
use Rattle.slate_types.specs.declared.ranges.ByteRange.{ByteRange}
use Rattle.slate_types.specs.declared.read_faults.ReadFault.{ReadFault}
use Rattle.slate_types.specs.declared.scan_options.IterationOrder.{IterationOrder}
use Rattle.slate_types.specs.Operator.{Merge}
use Rattle.slate_types.specs.Range.{contains}
use Rattle.slate_reads.specs.Read.{read_at}
use Rattle.slate_rows.specs.Scan.{IsScan}
use Rattle.slate_transactions.specs.Writes.{is_among}
use Rattle.slate_transactions.specs.declared.levels.IsolationLevel.TheVariants.{SerializableSnapshot}
use Rattle.slate_model.specs.Handle.{Handle}
use Rattle.slate_model.specs.Segments.{Extractor}
use Rattle.slate_model.specs.Transaction.{Transaction, begun, having_got, having_scanned, seen_by, start_bound, tracking_if}
use Rattle.slate_model.specs.Write.{written_but}

-- what happens between the beginning of a transaction and its commit
pub data Act : Type 0 where
  Write : (unmarked : List (List ℕ)) → (ops : List KeyOp) → (at : ℤ) → Act  -- a write to the handle, or the commit of another transaction
  Turn : Act  -- another call of the handle, which leaves its line and what it tracks
  Add : (ops : List KeyOp) → (unmarked : List (List ℕ)) → (marked : List (List ℕ)) → Act  -- the transaction's operations and marks are these
  Get : (key : List ℕ) → (dirty : Bool) → (found : Option KeyValue) → Act  -- it got a key at the level Memory
  Scan : (range : ByteRange) → (order : IterationOrder) → (dirty : Bool) → (rows : List KeyValue) → (fault : Option ReadFault) → Act  -- it scanned a range there

-- a handle, with its whole line, and a transaction on it
pub record Side : Type 0 where
  pub handle : Handle
  pub transaction : Transaction

-- an act, and what it left
pub record Step : Type 0 where
  pub act : Act
  pub after : Side

-- the keys that were marked before are among these
abbrev pub KeepsMarks : List (List ℕ) → List (List ℕ) → Type 0
KeepsMarks old new = (key : List ℕ) → is_among old key ≡ true → is_among new key ≡ true

-- what an act leaves, with an extractor and a merge operator
abbrev pub Acts : Option Extractor → Option Merge → Side → Act → Side → Type 0
Acts extractor merge old (Write unmarked ops at) new =
    (new.handle ≡ written_but unmarked extractor old.handle ops at) × (new.transaction ≡ old.transaction)
Acts extractor merge old Turn new =
    (new.handle.line ≡ old.handle.line) × (new.handle.writes ≡ old.handle.writes) × (new.transaction ≡ old.transaction)
Acts extractor merge old (Add ops unmarked marked) new =
    (new.handle ≡ old.handle) × KeepsMarks old.transaction.read marked
    × (new.transaction ≡ record old.transaction { own = record old.transaction.own { ops = ops }; unmarked = unmarked; read = marked })
Acts extractor merge old (Get key dirty found) new =
    let t = old.transaction in
    (read_at merge (seen_by t (start_bound t old.handle Memory dirty) old.handle.line.batches) None key ≡ Ok found)
    × (new.handle ≡ old.handle) × (new.transaction ≡ having_got t.level key t)
Acts extractor merge old (Scan range order dirty rows fault) new =
    let t = old.transaction in
    IsScan merge (seen_by t (start_bound t old.handle Memory dirty) old.handle.line.batches) None range order rows fault
    × (new.handle ≡ old.handle) × (new.transaction ≡ having_scanned t.level range t)

-- acts one after another
abbrev pub Run : Option Extractor → Option Merge → Side → List Step → Type 0
Run extractor merge side [] = Unit {0}
Run extractor merge side (step ∷ steps) = Acts extractor merge side step.act step.after × Run extractor merge step.after steps

-- what the last of them left
abbrev pub last_side : Side → List Step → Side
last_side side [] = side
last_side side (step ∷ steps) = last_side step.after steps

-- an act unmarks no write of a key
abbrev pub Tracks : List ℕ → Act → Type 0
Tracks key (Write unmarked ops at) = list_any (λ o. bytes_eq o.key key) ops ≡ true → is_among unmarked key ≡ false
Tracks key act = Unit {0}

-- no act unmarks a write of a key
abbrev pub AllTrack : List ℕ → List Step → Type 0
AllTrack key steps = AllByRecursion (λ step. Tracks key step.act) steps

-- A read that was answered with these own operations is what the same read answers in a line of batches, where no act
-- unmarked a write of a key that it asked for.
abbrev pub StillReads : Option Merge → List Step → List Batch → Batch → Act → Type 0
StillReads merge steps line own (Get key dirty found) = AllTrack key steps → read_at merge (line ++ own ∷ []) None key ≡ Ok found
StillReads merge steps line own (Scan range order dirty rows fault) =
    ((key : List ℕ) → contains range key ≡ true → AllTrack key steps) → IsScan merge (line ++ own ∷ []) None range order rows fault
StillReads merge steps line own act = Unit {0}

-- each read that was answered is what it would have been just before a batch is added to a line
abbrev pub AreSerial : Option Merge → List Step → List Batch → Type 0
AreSerial merge steps line = AllByRecursion (λ step. StillReads merge steps line step.after.transaction.own step.act) steps

-- a handle and a transaction at SerializableSnapshot that begins on it
abbrev pub first_side : Handle → List ℕ → Side
first_side handle id = record { handle = tracking_if None handle; transaction = begun handle SerializableSnapshot id }
