-- Each step over sorted versions adds one key's row, in the order and within the range.
use Rattle.std.proofs.Common.{◌≡◌, IsTrue, refl, sym, ◌∙◌, ap, ℕ, ◌+◌, ◌-◌, ◌<◌, ◌≤◌, zero, suc, true, List, [], ◌∷◌, ◌++◌, length, get_or, take, drop, map, All, Option, Some, None, IfSome, IfOk, Result, Ok, Err, arith, take_while}
use Rattle.std.specs.List.{AllByRecursion, dedup}
use Rattle.std.specs.List.Sorted.{IsSorted, IsStrictlySortedBy}
use Rattle.std.specs.Str.{bytes_eq}
use Rattle.std.specs.declared.cmp.Ordering.{Ordering}
use Rattle.std.specs.declared.cmp.Ordering.TheVariants.{Less, Equal, Greater}
use Rattle.std.specs.Ordering.{is_eq, eq_by_cmp, ordering_reverse}
use Rattle.std.proofs.lemmas.Cmp.{nat_list_cmp_total}
use Rattle.std.proofs.lemmas.List.Kept.{IsStrictlySortedBy-dedup}
use Rattle.std.proofs.lemmas.Map.Text.{is_eq-slice_cmp}
use Rattle.std.proofs.lemmas.Bool.{false≢true}
use Rattle.std.proofs.lemmas.List.{append_assoc, append-nil, map-append, take-append-drop, drop-drop, drop_more, drop_all, take_rest, length-append, length-drop}
use Rattle.std.proofs.lemmas.List.Elements.{All-from_recursion, All-push}
use Rattle.slate_types.specs.declared.batches.KeyValue.{KeyValue}
use Rattle.slate_types.specs.declared.scan_options.IterationOrder.{IterationOrder}
use Rattle.slate_types.specs.declared.scan_options.IterationOrder.TheVariants.{Ascending, Descending}
use Rattle.slate_rows.proofs.Passing.{order_cmp-total}
use Rattle.slate_types.specs.declared.ranges.ByteRange.{ByteRange}
use Rattle.slate_types.specs.declared.read_faults.ReadFault.{ReadFault}
use Rattle.slate_types.specs.declared.read_faults.ReadFault.TheVariants.{MergeOperatorMissing, MergeOperatorError, ChecksumMismatch, NoMemory}
use Rattle.slate_reads.specs.declared.reads.Version.{Version as Held}
use Rattle.slate_rows.specs.Gathered.{AreSorted, AddsRow, held_keys, held_rows}
use Rattle.slate_types.specs.Operator.{Merge}
use Rattle.slate_types.specs.Order.{order_cmp, AreInOrder, row_keys}
use Rattle.slate_types.specs.Range.{key_cmp, contains}
use Rattle.slate_reads.specs.Read.{Reads, fold_versions, since_base}
use Rattle.slate_rows.specs.Scan.{Rows, with_found}
use Rattle.slate_reads.specs.Tails.{seen}
use Rattle.slate_rows.proofs.Grouping.{IsPast, IsSplit, IsSplit-counted, front_of-within}
use Rattle.slate_rows.proofs.Scanning.{bytes_eq-same, AreSorted-back, off-others, keys-split, held_rows-split}

-- the rows taken, before those that are left
abbrev pub after_rows : List KeyValue → Rows → Rows
after_rows rows left = record { rows = rows ++ left.rows; fault = left.fault }

-- A step over sorted versions takes those of one key, of which h is the first, and leaves the others.
pub record IsStep (key : List ℕ) (held : List Held) (h : Held) (start end : ℕ) (front : List Held) : Type 0 where
  pub first : h.key_op.now.key ≡ key
  pub more : List Held
  pub front-is : front ≡ h ∷ more
  pub joined : drop start held ≡ (h ∷ more) ++ drop end held
  pub same : AllByRecursion (λ x. x.key_op.now.key ≡ key) more
  pub past : IsPast key (drop end held)

pub IsStep-counted : (key : List ℕ) (held : List Held) (h : Held) (start count : ℕ) → start < length held → h ≡ get_or held start h → key ≡ (get_or held start h).key_op.now.key →
    count ≡ length (take_while (λ x. bytes_eq x.key_op.now.key key) (take (length held - start) (drop start held))) →
    IsStep key held h start (start + count) (take (start + count - start) (drop start held))
IsStep-counted key held h start count lt at read of_rest =
    let counted : count ≡ length (take_while (λ x. bytes_eq x.key_op.now.key key) (drop start held)) = rw take_rest at of_rest in
    let is-key : key ≡ h.key_op.now.key = read ∙ ap (λ x. x.key_op.now.key) (sym at) in
    let len : start + count - start ≡ count = omega arith in
    rw len (go is-key (take count (drop start held)) (IsSplit-counted key (drop start held) (take count (drop start held)) (drop (start + count) held) count counted refl (sym (drop-drop count start held))))
  where
    go : key ≡ h.key_op.now.key → (front : List Held) → IsSplit key (drop start held) front (drop (start + count) held) → IsStep key held h start (start + count) front
    go is-key [] split =
        let here : drop (start + count) held ≡ h ∷ drop (start + 1) held = sym split.joined ∙ drop_more held start h lt ∙ ap (λ x. x ∷ drop (start + 1) held) (sym at) in
        let past : IsPast key (h ∷ drop (start + 1) held) = rw here at split.past in
        absurd (false≢true (sym past ∙ ap (bytes_eq h.key_op.now.key) is-key ∙ bytes_eq-same h.key_op.now.key))
    go is-key (x ∷ more) split =
        let here : x ∷ (more ++ drop (start + count) held) ≡ h ∷ drop (start + 1) held = sym split.joined ∙ drop_more held start h lt ∙ ap (λ y. y ∷ drop (start + 1) held) (sym at) in
        let first : x ≡ h = cc in
        record {
          first = sym is-key;
          more = more;
          front-is = ap (λ y. y ∷ more) first;
          joined = split.joined ∙ ap (λ y. y ∷ (more ++ drop (start + count) held)) first;
          same = split.same_key.1;
          past = split.past;
        }

pub IsStep-same : (key : List ℕ) (held : List Held) (h : Held) (start end : ℕ) (front : List Held) → IsStep key held h start end front → AllByRecursion (λ x. x.key_op.now.key ≡ key) front
IsStep-same key held h start end front step = rw step.front-is (step.first, step.same)

pub IsStep-forward : (key : List ℕ) (held : List Held) (h : Held) (start count : ℕ) (front : List Held) → IsStep key held h start (start + count) front → start < length held → 0 < count
IsStep-forward key held h start zero front step lt =
    let len : length (drop start held) ≡ length ((h ∷ step.more) ++ drop (start + 0) held) = ap length step.joined in
    let same : start + 0 ≡ start = omega arith in
    absurd (omega (arith, length-append (h ∷ step.more) (drop (start + 0) held), ap (λ n. length (drop n held)) same))
IsStep-forward key held h start (suc count) front step lt = omega arith

pub IsStep-within : (key : List ℕ) (held : List Held) (start count : ℕ) → start ≤ length held → count ≡ length (take_while (λ x. bytes_eq x.key_op.now.key key) (take (length held - start) (drop start held))) →
    start + count ≤ length held
IsStep-within key held start count le of_rest =
    let counted : count ≡ length (take_while (λ x. bytes_eq x.key_op.now.key key) (drop start held)) = rw take_rest at of_rest in
    omega (arith, front_of-within key (drop start held) count counted, length-drop start held)

AreSorted-drop : (order : IterationOrder) (held : List Held) (n : ℕ) → AreSorted order held → AreSorted order (drop n held)
AreSorted-drop order held n sorted = AreSorted-back order (take n held) (drop n held) (rw (take-append-drop n held) sorted)

-- the rows of what is left, from one step on
left_rows : (merge : Option Merge) (order : IterationOrder) (key : List ℕ) (held : List Held) (h : Held) (start end : ℕ) (front : List Held) → IsStep key held h start end front → AreSorted order held →
    held_rows merge (drop start held) ≡ with_found (fold_versions merge key None (since_base (map seen front))) (held_rows merge (drop end held))
left_rows merge order key held h start end front step sorted =
    let left : AreSorted order ((h ∷ step.more) ++ drop end held) = rw step.joined at (AreSorted-drop order held start sorted) in
    ap (held_rows merge) step.joined ∙ held_rows-split merge order key h step.more (drop end held) left step.first step.same step.past
    ∙ ap (λ x. with_found (fold_versions merge key None (since_base (map seen x))) (held_rows merge (drop end held))) (sym step.front-is)

-- ---- the rows
pub found-more : (answer found : Result (Option KeyValue) ReadFault) (rows new : List KeyValue) (others : Rows) → Reads answer found → AddsRow found rows new None →
    after_rows rows (with_found answer others) ≡ after_rows new others
found-more answer (Ok None) rows new others reads adds = rw (reads, adds.0)
found-more answer (Ok (Some row)) rows new others reads adds = rw (reads, adds.0) (ap (λ x. record { rows = x; fault = others.fault }) (sym (append_assoc rows (row ∷ []) others.rows)))
found-more answer (Err MergeOperatorMissing) rows new others reads adds = absurd (let none = adds.1 in cc)
found-more answer (Err MergeOperatorError) rows new others reads adds = absurd (let none = adds.1 in cc)
found-more answer (Err ChecksumMismatch) rows new others reads adds = absurd (let none = adds.1 in cc)
found-more answer (Err NoMemory) rows new others reads adds = absurd adds

pub found-end : (answer found : Result (Option KeyValue) ReadFault) (rows new : List KeyValue) (fault : ReadFault) (others : Rows) → Reads answer found → AddsRow found rows new (Some fault) →
    after_rows rows (with_found answer others) ≡ record { rows = new; fault = Some fault }
found-end answer (Ok None) rows new fault others reads adds = absurd (let none = adds.1 in cc)
found-end answer (Ok (Some row)) rows new fault others reads adds = absurd (let none = adds.1 in cc)
found-end answer (Err MergeOperatorMissing) rows new fault others reads adds = rw (reads, adds.0, adds.1) (ap (λ x. record { rows = x; fault = Some MergeOperatorMissing }) (append-nil rows))
found-end answer (Err MergeOperatorError) rows new fault others reads adds = rw (reads, adds.0, adds.1) (ap (λ x. record { rows = x; fault = Some MergeOperatorError }) (append-nil rows))
found-end answer (Err ChecksumMismatch) rows new fault others reads adds = rw (reads, adds.0, adds.1) (ap (λ x. record { rows = x; fault = Some ChecksumMismatch }) (append-nil rows))
found-end answer (Err NoMemory) rows new fault others reads adds = absurd adds

pub rows-more : (merge : Option Merge) (order : IterationOrder) (key : List ℕ) (held : List Held) (h : Held) (start end : ℕ) (front : List Held) (found : Result (Option KeyValue) ReadFault) (rows new : List KeyValue) →
    IsStep key held h start end front → AreSorted order held → Reads (fold_versions merge key None (since_base (map seen front))) found → AddsRow found rows new None →
    held_rows merge held ≡ after_rows rows (held_rows merge (drop start held)) → held_rows merge held ≡ after_rows new (held_rows merge (drop end held))
rows-more merge order key held h start end front found rows new step sorted reads adds so_far =
    so_far ∙ ap (after_rows rows) (left_rows merge order key held h start end front step sorted) ∙ found-more _ found rows new (held_rows merge (drop end held)) reads adds

pub rows-fault : (merge : Option Merge) (order : IterationOrder) (key : List ℕ) (held : List Held) (h : Held) (start end : ℕ) (front : List Held) (found : Result (Option KeyValue) ReadFault) (rows new : List KeyValue) (fault : ReadFault) →
    IsStep key held h start end front → AreSorted order held → Reads (fold_versions merge key None (since_base (map seen front))) found → AddsRow found rows new (Some fault) →
    held_rows merge held ≡ after_rows rows (held_rows merge (drop start held)) → held_rows merge held ≡ record { rows = new; fault = Some fault }
rows-fault merge order key held h start end front found rows new fault step sorted reads adds so_far =
    so_far ∙ ap (after_rows rows) (left_rows merge order key held h start end front step sorted) ∙ found-end _ found rows new fault (held_rows merge (drop end held)) reads adds

pub rows-end : (merge : Option Merge) (held : List Held) (start : ℕ) (rows : List KeyValue) → length held ≤ start →
    held_rows merge held ≡ after_rows rows (held_rows merge (drop start held)) → held_rows merge held ≡ record { rows = rows; fault = None }
rows-end merge held start rows le so_far = so_far ∙ ap (λ x. after_rows rows (held_rows merge x)) (drop_all start held le) ∙ ap (λ x. record { rows = x; fault = None }) (append-nil rows)

-- ---- their order
sorted-front : (order : IterationOrder) (xs ys : List (List ℕ)) → AreInOrder order (xs ++ ys) → AreInOrder order xs
unfolding IsStrictlySortedBy
sorted-front order [] ys sorted = tt
sorted-front order (x ∷ xs) ys sorted = (go xs sorted.0, sorted-front order xs ys sorted.1) where
  go : (xs : List (List ℕ)) → AllByRecursion (λ y. order_cmp order x y ≡ Less) (xs ++ ys) → AllByRecursion (λ y. order_cmp order x y ≡ Less) xs
  go [] all = tt
  go (y ∷ xs) all = (all.0, go xs all.1)

sorted-without : (order : IterationOrder) (xs : List (List ℕ)) (key : List ℕ) (ys : List (List ℕ)) → AreInOrder order (xs ++ key ∷ ys) → AreInOrder order (xs ++ ys)
unfolding IsStrictlySortedBy
sorted-without order [] key ys sorted = sorted.1
sorted-without order (x ∷ xs) key ys sorted = (go xs sorted.0, sorted-without order xs key ys sorted.1) where
  go : (xs : List (List ℕ)) → AllByRecursion (λ y. order_cmp order x y ≡ Less) (xs ++ key ∷ ys) → AllByRecursion (λ y. order_cmp order x y ≡ Less) (xs ++ ys)
  go [] all = all.1
  go (y ∷ xs) all = (all.0, go xs all.1)

left_keys : (order : IterationOrder) (key : List ℕ) (held : List Held) (h : Held) (start end : ℕ) (front : List Held) → IsStep key held h start end front → AreSorted order held →
    dedup bytes_eq (held_keys (drop start held)) ≡ key ∷ dedup bytes_eq (held_keys (drop end held))
left_keys order key held h start end front step sorted =
    let left : AreSorted order ((h ∷ step.more) ++ drop end held) = rw step.joined at (AreSorted-drop order held start sorted) in
    ap (λ x. dedup bytes_eq (held_keys x)) step.joined ∙ keys-split key h step.more (drop end held) step.first step.same (off-others order key h step.more (drop end held) left step.first step.past)

pub order-found : (order : IterationOrder) (key : List ℕ) (found : Result (Option KeyValue) ReadFault) (rows new : List KeyValue) (keys : List (List ℕ)) → IfOk found (λ x. IfSome x (λ row. row.key ≡ key)) → AddsRow found rows new None →
    AreInOrder order (row_keys rows ++ key ∷ keys) → AreInOrder order (row_keys new ++ keys)
order-found order key (Ok None) rows new keys keyed adds sorted = rw adds.0 (sorted-without order (row_keys rows) key keys sorted)
order-found order key (Ok (Some row)) rows new keys keyed adds sorted =
    rw adds.0 (rw (map-append (λ (r : KeyValue). r.key) rows (row ∷ []), append_assoc, keyed) sorted)
order-found order key (Err MergeOperatorMissing) rows new keys keyed adds sorted = absurd (let none = adds.1 in cc)
order-found order key (Err MergeOperatorError) rows new keys keyed adds sorted = absurd (let none = adds.1 in cc)
order-found order key (Err ChecksumMismatch) rows new keys keyed adds sorted = absurd (let none = adds.1 in cc)
order-found order key (Err NoMemory) rows new keys keyed adds sorted = absurd adds

pub order-more : (order : IterationOrder) (key : List ℕ) (held : List Held) (h : Held) (start end : ℕ) (front : List Held) (found : Result (Option KeyValue) ReadFault) (rows new : List KeyValue) →
    IsStep key held h start end front → AreSorted order held → IfOk found (λ x. IfSome x (λ row. row.key ≡ key)) → AddsRow found rows new None →
    AreInOrder order (row_keys rows ++ dedup bytes_eq (held_keys (drop start held))) → AreInOrder order (row_keys new ++ dedup bytes_eq (held_keys (drop end held)))
order-more order key held h start end front found rows new step sorted keyed adds so_far =
    order-found order key found rows new (dedup bytes_eq (held_keys (drop end held))) keyed adds (rw (left_keys order key held h start end front step sorted) at so_far)

-- the rows that were taken stay, where a fault comes
pub kept-fault : (found : Result (Option KeyValue) ReadFault) (rows new : List KeyValue) (fault : ReadFault) → AddsRow found rows new (Some fault) → new ≡ rows
kept-fault (Ok None) rows new fault adds = adds.0
kept-fault (Ok (Some row)) rows new fault adds = absurd (let none = adds.1 in cc)
kept-fault (Err MergeOperatorMissing) rows new fault adds = adds.0
kept-fault (Err MergeOperatorError) rows new fault adds = adds.0
kept-fault (Err ChecksumMismatch) rows new fault adds = adds.0
kept-fault (Err NoMemory) rows new fault adds = absurd adds

pub order-fault : (order : IterationOrder) (keys : List (List ℕ)) (found : Result (Option KeyValue) ReadFault) (rows new : List KeyValue) (fault : ReadFault) → AddsRow found rows new (Some fault) →
    AreInOrder order (row_keys rows ++ keys) → AreInOrder order (row_keys new)
order-fault order keys found rows new fault adds so_far = rw (kept-fault found rows new fault adds) (sorted-front order (row_keys rows) keys so_far)

pub order-end : (order : IterationOrder) (keys : List (List ℕ)) (rows : List KeyValue) → AreInOrder order (row_keys rows ++ keys) → AreInOrder order (row_keys rows)
order-end order keys rows so_far = sorted-front order (row_keys rows) keys so_far

-- ---- and their range
pub range-found : (range : ByteRange) (key : List ℕ) (found : Result (Option KeyValue) ReadFault) (rows new : List KeyValue) → contains range key ≡ true → IfOk found (λ x. IfSome x (λ row. row.key ≡ key)) → AddsRow found rows new None →
    All (λ row. IsTrue (contains range row.key)) rows → All (λ row. IsTrue (contains range row.key)) new
range-found range key (Ok None) rows new one keyed adds inside = rw adds.0 inside
range-found range key (Ok (Some row)) rows new one keyed adds inside = rw adds.0 (All-push (λ (r : KeyValue). IsTrue (contains range r.key)) rows row inside (ap (contains range) keyed ∙ one))
range-found range key (Err MergeOperatorMissing) rows new one keyed adds inside = absurd (let none = adds.1 in cc)
range-found range key (Err MergeOperatorError) rows new one keyed adds inside = absurd (let none = adds.1 in cc)
range-found range key (Err ChecksumMismatch) rows new one keyed adds inside = absurd (let none = adds.1 in cc)
range-found range key (Err NoMemory) rows new one keyed adds inside = absurd adds

pub range-more : (range : ByteRange) (key : List ℕ) (held : List Held) (h : Held) (start : ℕ) (found : Result (Option KeyValue) ReadFault) (rows new : List KeyValue) → start < length held → h ≡ get_or held start h → key ≡ (get_or held start h).key_op.now.key →
    AllByRecursion (λ x. contains range x.key_op.now.key ≡ true) held → IfOk found (λ x. IfSome x (λ row. row.key ≡ key)) → AddsRow found rows new None →
    All (λ row. IsTrue (contains range row.key)) rows → All (λ row. IsTrue (contains range row.key)) new
range-more range key held h start found rows new lt at is-key all keyed adds inside =
    let one : contains range (get_or held start h).key_op.now.key ≡ true = All-from_recursion (λ (x : Held). contains range x.key_op.now.key ≡ true) held all start h lt in
    range-found range key found rows new (ap (contains range) is-key ∙ one) keyed adds inside

pub range-fault : (range : ByteRange) (found : Result (Option KeyValue) ReadFault) (rows new : List KeyValue) (fault : ReadFault) → AddsRow found rows new (Some fault) →
    All (λ row. IsTrue (contains range row.key)) rows → All (λ row. IsTrue (contains range row.key)) new
range-fault range found rows new fault adds inside = rw (kept-fault found rows new fault adds) inside

-- ---- before the first step: the keys, each once, are in the order
AreSorted-keys : (order : IterationOrder) (held : List Held) → AreSorted order held → IsSorted (order_cmp order) (held_keys held)
AreSorted-keys order [] sorted k d low lt = absurd (omega arith)
AreSorted-keys order (h ∷ []) sorted k d low lt = absurd (omega arith)
AreSorted-keys order (h ∷ x ∷ held) sorted zero d low lt = sorted.0.0
AreSorted-keys order (h ∷ x ∷ held) sorted (suc k) d low lt =
    let next : suc k + 1 ≡ suc (k + 1) = omega arith in
    rw next (AreSorted-keys order (x ∷ held) sorted.1 k d (omega arith) (omega arith))

pub ties-keys : (order : IterationOrder) (a b : List ℕ) → bytes_eq a b ≡ eq_by_cmp (order_cmp order) a b
ties-keys Ascending a b = sym (is_eq-slice_cmp a b)
ties-keys Descending a b = sym (back a b ∙ is_eq-slice_cmp a b) where
  turned : (o : Ordering) → is_eq (ordering_reverse o) ≡ is_eq o
  turned Less = refl
  turned Equal = refl
  turned Greater = refl

  back : (a b : List ℕ) → is_eq (key_cmp b a) ≡ is_eq (key_cmp a b)
  back a b = ap is_eq (nat_list_cmp_total.antisymm b a) ∙ turned (key_cmp a b)

pub order-begin : (order : IterationOrder) (held : List Held) → AreSorted order held → AreInOrder order (dedup bytes_eq (held_keys held))
order-begin order held sorted = IsStrictlySortedBy-dedup (order_cmp-total order) (ties-keys order) (held_keys held) (AreSorted-keys order held sorted)
