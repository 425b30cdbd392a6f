-- Rows up to a limit are the front of the plain scan.
use Rattle.std.proofs.Common.{◌≡◌, inr, refl, ◌∙◌, ap, ℕ, ◌+◌, ◌<◌, ◌≤◌, Bool, true, false, cond, List, [], ◌∷◌, ◌++◌, zero, length, ltb, Option, Some, None, Result, Ok, Err, arith, length-append}
use Rattle.std.specs.List.{AllByRecursion}
use Rattle.std.proofs.lemmas.Bool.{lt-ltb, le-ltb}
use Rattle.std.proofs.lemmas.List.{append-nil, take_all, take_at, length_push}
use Rattle.slate_types.specs.declared.batches.Batch.{Batch}
use Rattle.slate_types.specs.declared.batches.KeyValue.{KeyValue}
use Rattle.slate_types.specs.declared.scan_options.IterationOrder.{IterationOrder}
use Rattle.slate_types.specs.declared.ranges.ByteRange.{ByteRange}
use Rattle.slate_types.specs.declared.read_faults.ReadFault.{ReadFault}
use Rattle.slate_types.specs.declared.read_faults.ReadFault.TheVariants.{NoMemory}
use Rattle.slate_types.specs.Operator.{Merge}
use Rattle.slate_reads.specs.Read.{read_at}
use Rattle.slate_rows.specs.declared.table_walks.Walk.{Walk}
use Rattle.slate_rows.specs.Ahead.{all_ahead, AreAhead}
use Rattle.slate_rows.specs.Gathered.{AddsRow}
use Rattle.slate_rows.specs.Iteration.{Iteration, begun}
use Rattle.slate_rows.specs.Front.{IsScanFront, first_rows}
use Rattle.slate_rows.specs.Scan.{Rows, rows_of}
use Rattle.slate_rows.specs.Walked.{AreWalked}
use Rattle.slate_rows.proofs.Ahead.{to_in, from_in, all_from_in, all-is_in, AreAhead-some}
use Rattle.slate_rows.proofs.Steps.{after_rows}
use Rattle.slate_rows.proofs.Walks.{AreWalked-ordered, IsScan-from_walk}

-- all keys were read
pub first_rows-done : (limit : ℕ) (rows : List KeyValue) → length rows ≤ limit → first_rows limit (after_rows rows (record { rows = []; fault = None })) ≡ record { rows = rows; fault = None }
first_rows-done limit rows le = rw (append-nil rows, take_all limit rows le) (go (ltb (length rows) limit)) where
  go : (b : Bool) → ◌≡◌ {A = Rows} (record { rows = rows; fault = cond b None None }) (record { rows = rows; fault = None })
  go true = refl
  go false = refl

-- the limit was reached
pub first_rows-full : (limit : ℕ) (rows : List KeyValue) (left : Rows) → length rows ≤ limit → limit ≤ length rows → first_rows limit (after_rows rows left) ≡ record { rows = rows; fault = None }
first_rows-full limit rows left le ge =
    let len : length rows ≡ limit = omega arith in
    rw (take_at rows left.rows limit len, le-ltb (length (rows ++ left.rows)) limit (omega (arith, length-append rows left.rows))) refl

-- a fault came first
pub first_rows-fault : (limit : ℕ) (rows : List KeyValue) (fault : ReadFault) → length rows < limit → first_rows limit (record { rows = rows; fault = Some fault }) ≡ record { rows = rows; fault = Some fault }
first_rows-fault limit rows fault lt = rw (take_all limit rows (omega arith), lt-ltb (length rows) limit lt) refl

pub count-found : (found : Result (Option KeyValue) ReadFault) (rows new : List KeyValue) → AddsRow found rows new None → length new ≤ length rows + 1
count-found (Ok None) rows new adds = omega (arith, ap length adds.0)
count-found (Ok (Some row)) rows new adds = omega (arith, ap length adds.0, length_push rows row)
count-found (Err NoMemory) rows new adds = absurd adds
count-found (Err fault) rows new adds = omega (arith, ap length adds.0)

-- what holds of all keys ahead holds of the next one and of those ahead then
pub ahead-within : (P : List ℕ → Type 0) (order : IterationOrder) (key : List ℕ) (olds news : List Walk) → ((rest : List (List ℕ)) → AreAhead order news rest → AreAhead order olds (key ∷ rest)) →
    AllByRecursion P (all_ahead order olds) → P key × AllByRecursion P (all_ahead order news)
ahead-within P order key olds news step all =
    let some = AreAhead-some order news in
    let here = step some.0 some.1 in (
      all-is_in P (all_ahead order olds) key all (to_in (all_ahead order olds) key ((here.same key).0 (zero, omega arith, refl))),
      all_from_in P (all_ahead order news) (λ x there. all-is_in P (all_ahead order olds) x all (to_in (all_ahead order olds) x ((here.same x).0
          (from_in (key ∷ some.0) x (inr (to_in some.0 x ((some.1.same x).1 (from_in (all_ahead order news) x there)))))))),
    )

-- the rows of the keys ahead, up to a limit, are the front of the plain scan
pub IsScanFront-from_ahead : (limit : ℕ) (merge : Option Merge) (batches : List Batch) (bound : Option ℕ) (range : ByteRange) (order : IterationOrder) (walks : List Walk) (keys : List (List ℕ)) (rows : List KeyValue) (fault : Option ReadFault) →
    AreWalked batches range (all_ahead order walks) → AreAhead order walks keys → first_rows limit (rows_of (read_at merge batches bound) keys) ≡ record { rows = rows; fault = fault } →
    IsScanFront limit merge batches bound range order rows fault
IsScanFront-from_ahead limit merge batches bound range order walks keys rows fault walked are_ahead front =
    let whole = rows_of (read_at merge batches bound) keys in
    record {
      whole = whole;
      plain = IsScan-from_walk merge batches bound range order keys whole.rows whole.fault (AreWalked-ordered batches range (all_ahead order walks) keys are_ahead.same walked) are_ahead.in_order refl;
      front = front;
    }

-- an iteration that begins with them gives them
pub IsScanFront-begun : (limit : ℕ) (merge : Option Merge) (batches : List Batch) (bound : Option ℕ) (range : ByteRange) (order : IterationOrder) (rows held : List KeyValue) (fault : Option ReadFault) (its : ByteRange) →
    held ≡ rows → IsScanFront limit merge batches bound range order rows fault → (it : Iteration) → it ≡ begun its order held fault → IsScanFront limit merge batches bound range order it.rows it.fault
IsScanFront-begun limit merge batches bound range order rows held fault its same plain it is =
    let rows-is : it.rows ≡ rows = ap (λ (x : Iteration). x.rows) is ∙ same in
    let fault-is : it.fault ≡ fault = ap (λ (x : Iteration). x.fault) is in
    rw (rows-is, fault-is) plain
