-- Plain reads of lines that begin others, and what no plain read finds.
use Rattle.std.proofs.Common.{◌≡◌, ◌≢◌, ◌↔◌, IsTrue, Contains, ℕ, ◌≤◌, List, [], ◌∷◌, ◌++◌, leb, sym, Option, Some, None, Result, Ok, Err, false, refl, subst, ap, ◌∙◌, arith, ℤ, ◌+◌}
use Rattle.std.specs.List.{filter, flat_map}
use Rattle.std.proofs.lemmas.Bool.{lt-leb}
use Rattle.std.proofs.lemmas.List.{append-nil}
use Rattle.std.proofs.lemmas.List.Elements.{filter-append}
use Rattle.std.specs.Option.{option_map}
use Rattle.slate_types.specs.declared.batches.Batch.{Batch}
use Rattle.slate_types.specs.declared.batches.KeyValue.{KeyValue}
use Rattle.slate_types.specs.declared.batches.Op.{Op}
use Rattle.slate_types.specs.declared.batches.Op.TheVariants.{Put, Delete, Merge as MergeOperand}
use Rattle.slate_types.specs.declared.read_faults.ReadFault.{ReadFault}
use Rattle.slate_types.specs.declared.read_faults.ReadFault.TheVariants as reads
use Rattle.slate_types.specs.Line.{AreNumberedFrom, IsLine, IsPrefix, Line, end, extended}
use Rattle.slate_types.specs.declared.ranges.ByteRange.{ByteRange}
use Rattle.slate_types.specs.declared.scan_options.IterationOrder.{IterationOrder}
use Rattle.slate_types.specs.Range.{contains}
use Rattle.slate_types.specs.Operator.{Merge}
use Rattle.slate_reads.specs.Read.{Version, and_then, fold_versions, is_within, merged_row, read_at, row_after, since_base, tail, versions_in}
use Rattle.slate_rows.specs.Iteration.{Iteration}
use Rattle.slate_rows.specs.Scan.{BeginsScan, rows_of, with_found}
use Rattle.slate_model.proofs.Reopened.{numbered_rest}

-- no plain read finds a damaged row
merged-whole : (key : List ℕ) (v : Version) (expire : Option ℤ) (value : Option (List ℕ)) → merged_row key v expire value ≡ Err reads.ChecksumMismatch → ⊥
merged-whole key v expire (Some value) h = absurd (cc)
merged-whole key v expire None h = absurd (cc)

row-whole : (merge : Option Merge) (key : List ℕ) (before : Option KeyValue) (v : Version) (op : Op) → row_after merge key before v op ≡ Err reads.ChecksumMismatch → ⊥
row-whole merge key before v (Put value expire) h = absurd (cc)
row-whole merge key before v Delete h = absurd (cc)
row-whole None key before v (MergeOperand operand expire) h = absurd (cc)
row-whole (Some merge) key before v (MergeOperand operand expire) h = merged-whole key v expire (merge key (option_map (λ (r : KeyValue). r.value) before) operand) h

step-whole : (merge : Option Merge) (key : List ℕ) (vs : List Version) (r : Result (Option KeyValue) ReadFault) → (r ≡ Err reads.ChecksumMismatch → ⊥) → ((after : Option KeyValue) → fold_versions merge key after vs ≡ Err reads.ChecksumMismatch → ⊥) → and_then r (λ after. fold_versions merge key after vs) ≡ Err reads.ChecksumMismatch → ⊥
step-whole merge key vs (Ok after) whole rest h = rest after h
step-whole merge key vs (Err fault) whole rest h = whole h

fold-whole : (merge : Option Merge) (key : List ℕ) (before : Option KeyValue) (vs : List Version) → fold_versions merge key before vs ≡ Err reads.ChecksumMismatch → ⊥
fold-whole merge key before [] h = absurd (cc)
fold-whole merge key before (v ∷ vs) h = step-whole merge key vs (row_after merge key before v v.op) (row-whole merge key before v v.op) (λ after. fold-whole merge key after vs) h

pub read-whole : (merge : Option Merge) (bs : List Batch) (bound : Option ℕ) (key : List ℕ) → read_at merge bs bound key ≡ Err reads.ChecksumMismatch → ⊥
read-whole merge bs bound key = fold-whole merge key None (tail bs bound key)

-- a follower sees of what is stored what is up to its number
none-within : (floor n : ℕ) (bs : List Batch) → AreNumberedFrom floor bs → n ≤ floor → filter (λ b. is_within (Some n) b.number) bs ≡ []
none-within floor n [] h low = refl
none-within floor n (b ∷ bs) h low =
    let no : leb b.number n ≡ false = lt-leb b.number n (omega arith) in
    rw no (none-within (floor + 1) n bs h.1 (omega arith))

front-within : (line stored : Line) → IsPrefix line stored → IsLine stored → filter (λ b. is_within (Some (end line)) b.number) stored.batches ≡ filter (λ b. is_within (Some (end line)) b.number) line.batches
front-within line stored p numbered =
    let all : IsLine (extended line p.0) = subst IsLine p.1 numbered in
    let rest = numbered_rest line.floor line.batches p.0 all in
    ap (λ (l : Line). filter (λ b. is_within (Some (end line)) b.number) l.batches) p.1
    ∙ (filter-append (λ b. is_within (Some (end line)) b.number) line.batches p.0
    ∙ (ap (λ xs. filter (λ b. is_within (Some (end line)) b.number) line.batches ++ xs) (none-within (end line) (end line) p.0 rest (omega arith)) ∙ append-nil _))

pub front-read : (merge : Option Merge) (line stored : Line) (key : List ℕ) → IsPrefix line stored → IsLine stored → read_at merge line.batches (Some (end line)) key ≡ read_at merge stored.batches (Some (end line)) key
front-read merge line stored key p numbered =
    ap (λ bs. fold_versions merge key None (since_base (flat_map (versions_in key) bs))) (sym (front-within line stored p numbered))

rows-same : (f g : List ℕ → Result (Option KeyValue) ReadFault) → ((key : List ℕ) → f key ≡ g key) → (keys : List (List ℕ)) → rows_of f keys ≡ rows_of g keys
rows-same f g same [] = refl
rows-same f g same (key ∷ keys) = ap (λ r. with_found r (rows_of f keys)) (same key) ∙ ap (with_found (g key)) (rows-same f g same keys)

-- a scan goes by the batches up to its bound alone
scan-by : (merge : Option Merge) (bs cs : List Batch) (n : ℕ) (range : ByteRange) (order : IterationOrder) (it : Iteration) → filter (λ b. is_within (Some n) b.number) bs ≡ filter (λ b. is_within (Some n) b.number) cs → BeginsScan merge bs (Some n) range order it → BeginsScan merge cs (Some n) range order it
scan-by merge bs cs n range order it same begun =
    let s = begun.plain in
    let reads = λ (key : List ℕ). ap (λ xs. fold_versions merge key None (since_base (flat_map (versions_in key) xs))) same in
    record {
      unbegun = begun.unbegun;
      plain = record {
        keys = s.keys;
        in_order = s.in_order;
        whole = λ key. subst (λ (xs : List Batch). Contains s.keys key ↔ (IsTrue (contains range key) × (flat_map (versions_in key) xs ≢ []))) same (s.whole key);
        taken = sym (rows-same _ _ reads s.keys) ∙ s.taken;
      };
    }

-- a scan of what a follower sees is one of what is stored
pub front-scan : (merge : Option Merge) (line stored : Line) (range : ByteRange) (order : IterationOrder) (it : Iteration) → IsPrefix line stored → IsLine stored → BeginsScan merge line.batches (Some (end line)) range order it → BeginsScan merge stored.batches (Some (end line)) range order it
front-scan merge line stored range order it p numbered = scan-by merge line.batches stored.batches (end line) range order it (sym (front-within line stored p numbered))

-- and one of a line, up to a number, is one of its front
pub scan-front : (merge : Option Merge) (line stored : Line) (range : ByteRange) (order : IterationOrder) (it : Iteration) → IsPrefix line stored → IsLine stored → BeginsScan merge stored.batches (Some (end line)) range order it → BeginsScan merge line.batches (Some (end line)) range order it
scan-front merge line stored range order it p numbered = scan-by merge stored.batches line.batches (end line) range order it (front-within line stored p numbered)
