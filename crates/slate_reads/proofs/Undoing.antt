-- A table keeps its indexes as the last batch is taken back, operation by operation.
use Rattle.std.proofs.Common.{◌≡◌, inl, inr, ◌⊎◌, refl, sym, ◌∙◌, ap, subst, ℕ, ◌+◌, ◌-◌, ◌<◌, ◌≤◌, Bool, true, false, cond, List, [], ◌∷◌, ◌++◌, length, get_or, take, map, replicate, reverse, Option, Some, None, IfSome, arith, length-append}
use Rattle.std.specs.List.{AllByRecursion, flat_map}
use Rattle.std.specs.HashMap.{HashMap}
use Rattle.std.specs.BTreeSet.{BTreeSet}
use Rattle.std.specs.Str.{bytes_eq}
use Rattle.std.proofs.lemmas.Bool.{cases_lt, false≢true}
use Rattle.std.proofs.lemmas.List.{append-nil, append_assoc, reverse-append, get_or_append_left, get_or-append_right, get_or-map, get_or-replicate, length-map, length-replicate, length_push, map_push, replicate_more, same_from_push}
use Rattle.std.proofs.lemmas.List.Sums.{sum_by-append}
use Rattle.std.proofs.lemmas.Slice.Eq.{bytes_eq-Decides}
use Rattle.slate_types.specs.declared.batches.Batch.{Batch}
use Rattle.slate_types.specs.declared.batches.KeyOp.{KeyOp}
use Rattle.slate_reads.specs.declared.tables.Entry.{Entry}
use Rattle.slate_reads.specs.Read.{Version, versions_in}
use Rattle.slate_reads.specs.Run.{Run, IsAt, Stands}
use Rattle.slate_reads.specs.Index.{AreRising, AreOrdered, Leads, AreLed, IsFrom, IsTraced, IsIndex, IsTable, batch_places, ops_of, place_of}
use Rattle.slate_reads.specs.Size.{ops_size, size_of}
use Rattle.slate_reads.proofs.Index.{IsPart, AreLed-same, Stands-last, Stands-same, so_far, so_far-whole, ops-whole, ops-more, batch_places-push}
use Rattle.slate_reads.proofs.Tails.{versions_in-one_more}
use Rattle.slate_reads.proofs.Tracing.{IsAt-same, IsAt-last, IsAt-front, IsTraced-pop}

-- ---- the last entry goes
module _ (batches : Run Batch) (entries longer : Run Entry) (ops : List KeyOp) (newer latest : List ℕ → Option ℕ) (e : Entry) (o : KeyOp)
    (start : longer.start ≡ entries.start) (longer-is : longer.items ≡ entries.items ++ e ∷ []) (latest-is : (other : List ℕ) → latest other ≡ cond (bytes_eq o.key other) e.previous (newer other))
    (traced : IsTraced batches longer (ops ++ o ∷ []) newer) where
  len : length entries.items ≡ length ops
  len = let all = traced.each in let more = ap length longer-is in let l = length_push entries.items e in let m = length_push ops o in omega arith

  abbrev last : ℕ
  last = entries.start + length entries.items

  last_at : Stands longer last e
  last_at = Stands-last entries longer e start longer-is

  before : (place : ℕ) (entry : Entry) → place < last → Stands longer place entry → Stands entries place entry
  before place entry lt at = record {
    from = subst (λ s. s ≤ place) start at.from;
    at = IsAt-front entries.items e (place - entries.start) entry (let f = at.from in omega arith) (subst (λ items. IsAt items (place - entries.start) entry) longer-is (subst (λ s. IsAt longer.items (place - s) entry) start at.at));
  }

  weaker : (place : ℕ) (next : Option ℕ) → place < last → IfSome next (λ p. p < place) → IfSome next (λ p. p < last)
  weaker place None lt back = tt
  weaker place (Some p) lt back = let b : p < place = back in omega arith

  -- what an entry before the last one leads to is before it
  Leads-before : (key : List ℕ) (next : Option ℕ) (versions : List Version) → IfSome next (λ place. place < last) → Leads batches longer key next versions → Leads batches entries key next versions
  Leads-before key next [] lt led = subst (λ s. IfSome next (λ place. place < s)) start led
  Leads-before key next (version ∷ older) lt led =
      let s = led.0 in
      let place_lt : s.place < last = subst (λ n. IfSome n (λ place. place < last)) s.next_is lt in (
        record {
          place = s.place;
          entry = s.entry;
          batch = s.batch;
          key_op = s.key_op;
          next_is = s.next_is;
          entry_at = before s.place s.entry place_lt s.entry_at;
          batch_at = s.batch_at;
          op_at = s.op_at;
          key_is = s.key_is;
          back = s.back;
        },
        led.1,
        Leads-before key s.entry.previous older (weaker s.place s.entry.previous place_lt s.back) led.2,
      )

  -- the newest version of the key is that of the last entry
  Leads-taken : (key : List ℕ) (version : Version) (older : List Version) → o.key ≡ key → Leads batches longer key (newer key) (version ∷ older) → Leads batches entries key e.previous older
  Leads-taken key version older same led =
      let s = led.0 in
      let from : IsFrom (longer.start + length ops) (newer key) = subst (λ k. IsFrom (longer.start + length ops) (newer k)) same (traced.newest (length ops) o (IsAt-last ops o (length ops) refl)) in
      let le : longer.start + length ops ≤ s.place = subst (IsFrom (longer.start + length ops)) s.next_is from in
      let more = ap length longer-is in
      let l = length_push entries.items e in
      let place-is : s.place ≡ last = let f = s.entry_at.from in let w = s.entry_at.at.within in let n = len in omega (arith, start) in
      let entry-is : s.entry ≡ e = Stands-same longer last s.entry e (subst (λ p. Stands longer p s.entry) place-is s.entry_at) last_at in
      let rest = subst (λ (x : Entry). Leads batches longer key x.previous older) entry-is led.2 in
      let back : IfSome e.previous (λ p. p < last) = subst (λ p. IfSome e.previous (λ previous. previous < p)) place-is (subst (λ (x : Entry). IfSome x.previous (λ previous. previous < s.place)) entry-is s.back) in
      Leads-before key e.previous older back rest

  -- another key leads to no operation of the last entry
  Leads-other : (key : List ℕ) (versions : List Version) → bytes_eq o.key key ≡ false → Leads batches longer key (newer key) versions → Leads batches entries key (newer key) versions
  Leads-other key versions other led = Leads-before key (newer key) versions (go versions led) led where
    early : (next : Option ℕ) → IfSome next (λ place. place < longer.start) → IfSome next (λ place. place < last)
    early None lt = tt
    early (Some place) lt = let l : place < longer.start = lt in omega (arith, start)

    go : (versions : List Version) → Leads batches longer key (newer key) versions → IfSome (newer key) (λ place. place < last)
    go [] led = early (newer key) led
    go (version ∷ older) led = subst (λ n. IfSome n (λ place. place < last)) (sym led.0.next_is) (at (cases_lt led.0.place last)) where
      at : (led.0.place < last) ⊎ (last ≤ led.0.place) → led.0.place < last
      at (inl lt) = lt
      at (inr le) =
          let s = led.0 in
          let more = ap length longer-is in
          let l = length_push entries.items e in
          let place-is : s.place ≡ last = let f = s.entry_at.from in let w = s.entry_at.at.within in omega (arith, start) in
          let entry-is : s.entry ≡ e = Stands-same longer last s.entry e (subst (λ p. Stands longer p s.entry) place-is s.entry_at) last_at in
          let of_op = traced.of_op (length ops) e o (subst (λ items. IsAt items (length ops) e) (sym longer-is) (IsAt-last entries.items e (length ops) (sym len))) (IsAt-last ops o (length ops) refl) in
          let batch-is : s.batch ≡ of_op.batch = Stands-same batches e.batch s.batch of_op.batch (subst (λ (x : Entry). Stands batches x.batch s.batch) entry-is s.batch_at) of_op.batch_at in
          let op_at : IsAt of_op.batch.ops e.op s.key_op = subst (λ (x : Batch). IsAt x.ops e.op s.key_op) batch-is (subst (λ (x : Entry). IsAt s.batch.ops x.op s.key_op) entry-is s.op_at) in
          let op-is : s.key_op ≡ o = IsAt-same of_op.batch.ops e.op s.key_op o op_at of_op.op_at in
          absurd (false≢true (sym other ∙ (bytes_eq-Decides o.key key).1 (ap (λ x. x.key) (sym op-is) ∙ s.key_is)))

  AreLed-pop : (b : Batch) (f : List ℕ → List Version) → AreLed batches longer newer (λ key. f key ++ versions_in key (record b { ops = o ∷ [] })) → AreLed batches entries latest f
  AreLed-pop b f led key = go (bytes_eq o.key key) refl (led key) where
    version : Version
    version = record { op = o.op; number = b.number; create_ts = b.create_ts }

    go : (is_key : Bool) → bytes_eq o.key key ≡ is_key →
        Leads batches longer key (newer key) (reverse (f key ++ map {B = Version} (λ (o : KeyOp). record { op = o.op; number = b.number; create_ts = b.create_ts }) (cond is_key (o ∷ []) []))) →
        Leads batches entries key (latest key) (reverse (f key))
    go true is led =
        let latest_is : latest key ≡ e.previous = latest-is key ∙ ap (λ t. cond t e.previous (newer key)) is in
        rw latest_is (Leads-taken key version (reverse (f key)) ((bytes_eq-Decides o.key key).0 is) (subst (Leads batches longer key (newer key)) (reverse-append (f key) (version ∷ [])) led))
    go false is led =
        let latest_is : latest key ≡ newer key = latest-is key ∙ ap (λ t. cond t e.previous (newer key)) is in
        rw latest_is (Leads-other key (reverse (f key)) is (subst (λ vs. Leads batches longer key (newer key) (reverse vs)) (append-nil (f key)) led))

-- ---- the loop over the operations of the last batch, from the last one back
pub IsPart-begin : (batches new : Run Batch) (b : Batch) (entries : Run Entry) (latest : List ℕ → Option ℕ) → new.start ≡ batches.start → new.items ≡ batches.items ++ b ∷ [] →
    IsIndex new entries latest → IsPart batches new b entries latest (length b.ops)
IsPart-begin batches new b entries latest start items index = record {
  led = AreLed-same new entries latest (λ key. flat_map (versions_in key) new.items) (so_far batches.items b (length b.ops)) (λ key. sym (so_far-whole batches new b (length b.ops) items refl key)) index.led;
  placed = index.placed ∙ rw (start, items) (batch_places-push batches.start batches.items b);
  traced = subst (λ ops. IsTraced new entries ops latest) (sym (ops-whole batches new b (length b.ops) items refl)) index.traced;
}

pub IsPart-less : (batches new : Run Batch) (b : Batch) (entries longer : Run Entry) (newer latest : List ℕ → Option ℕ) (i : ℕ) (e : Entry) (o : KeyOp) →
    i < length b.ops → o ≡ get_or b.ops i o → longer.start ≡ entries.start → longer.items ≡ entries.items ++ e ∷ [] →
    ((other : List ℕ) → latest other ≡ cond (bytes_eq o.key other) e.previous (newer other)) → IsPart batches new b longer newer (i + 1) → IsPart batches new b entries latest i
IsPart-less batches new b entries longer newer latest i e o within at start longer-is latest-is part =
    let ops = ops_of batches.items ++ take i b.ops in
    let traced = subst (λ ops. IsTraced new longer ops newer) (sym (ops-more batches.items b i o within at)) part.traced in
    let end = batches.start + length batches.items in
    record {
      led = AreLed-pop new entries longer ops newer latest e o start longer-is latest-is traced b (so_far batches.items b i)
          (AreLed-same new longer newer (so_far batches.items b (i + 1)) _ (λ key. sym (versions_in-one_more (λ k. flat_map (versions_in k) batches.items) b b.ops i o refl within at key)) part.led);
      placed = (same_from_push (map (λ (x : Entry). x.batch) entries.items) (batch_places batches.start batches.items ++ replicate i end) e.batch end
          (sym (map_push (λ (x : Entry). x.batch) entries.items e) ∙ ap (map (λ (x : Entry). x.batch)) (sym longer-is) ∙ part.placed
          ∙ ap (λ x. batch_places batches.start batches.items ++ x) (sym (replicate_more i end)) ∙ sym (append_assoc (batch_places batches.start batches.items) (replicate i end) (end ∷ [])))).0;
      traced = IsTraced-pop new entries longer ops newer latest e o start longer-is latest-is traced;
    }

-- the key of the last operation is in the map
pub IsPart-key : (batches new : Run Batch) (b : Batch) (longer : Run Entry) (newer : List ℕ → Option ℕ) (i : ℕ) (o : KeyOp) → i < length b.ops → o ≡ get_or b.ops i o →
    IsPart batches new b longer newer (i + 1) → (place : ℕ) × IsFrom place (newer o.key)
IsPart-key batches new b longer newer i o within at part =
    let ops = ops_of batches.items ++ take i b.ops in
    let traced = subst (λ ops. IsTraced new longer ops newer) (sym (ops-more batches.items b i o within at)) part.traced in
    (longer.start + length ops, traced.newest (length ops) o (IsAt-last ops o (length ops) refl))

-- the batches' places are before their end
places-before : (start : ℕ) (batches : List Batch) (k d : ℕ) → k < length (batch_places start batches) → get_or (batch_places start batches) k d < start + length batches
places-before start [] k d lt = absurd (omega arith)
places-before start (b ∷ batches) k d lt = go (cases_lt k (length b.ops)) (places-before (start + 1) batches (k - length b.ops) d) where
  len : length (replicate (length b.ops) start) ≡ length b.ops
  len = length-replicate (length b.ops) start

  go : (k < length b.ops) ⊎ (length b.ops ≤ k) → (k - length b.ops < length (batch_places (start + 1) batches) → get_or (batch_places (start + 1) batches) (k - length b.ops) d < start + 1 + length batches) →
      get_or (replicate (length b.ops) start ++ batch_places (start + 1) batches) k d < start + length (b ∷ batches)
  go (inl early) others =
      rw (get_or_append_left (replicate (length b.ops) start) (batch_places (start + 1) batches) d k (omega (arith, len)), get_or-replicate (length b.ops) k start d early) (omega arith)
  go (inr late) others =
      rw (get_or-append_right (replicate (length b.ops) start) (batch_places (start + 1) batches) (length b.ops) k d len late)
      (let both = length-append (replicate (length b.ops) start) (batch_places (start + 1) batches) in
      omega (arith, others (omega (arith, len))))

-- once all of its operations are taken back, the index is that of the batches before it
pub IsPart-undone : (batches new : Run Batch) (b : Batch) (entries : Run Entry) (latest : List ℕ → Option ℕ) → new.start ≡ batches.start → new.items ≡ batches.items ++ b ∷ [] →
    IsPart batches new b entries latest 0 → IsIndex batches entries latest
IsPart-undone batches new b entries latest start items part = record {
  led = λ key. Leads-front key (latest key) (reverse (flat_map (versions_in key) batches.items)) (subst (λ vs. Leads new entries key (latest key) (reverse vs)) (append-nil (flat_map (versions_in key) batches.items)) (part.led key));
  placed = placed;
  traced = record {
    each = part.traced.each ∙ ap length (append-nil (ops_of batches.items));
    of_op = λ index entry key_op at is.
        let of_op = part.traced.of_op index entry key_op at (subst (λ ops. IsAt ops index key_op) (sym (append-nil (ops_of batches.items))) is) in
        record { batch = of_op.batch; batch_at = front_batch index entry of_op.batch at of_op.batch_at; op_at = of_op.op_at };
    newest = λ index key_op is. part.traced.newest index key_op (subst (λ ops. IsAt ops index key_op) (sym (append-nil (ops_of batches.items))) is);
    nearest = λ index later key_op next entry lt is next_is.
        part.traced.nearest index later key_op next entry lt (subst (λ ops. IsAt ops index key_op) (sym (append-nil (ops_of batches.items))) is) (subst (λ ops. IsAt ops later next) (sym (append-nil (ops_of batches.items))) next_is);
  };
} where
  placed : map (λ (x : Entry). x.batch) entries.items ≡ batch_places batches.start batches.items
  placed = part.placed ∙ append-nil _

  front_batch : (index : ℕ) (entry : Entry) (x : Batch) → IsAt entries.items index entry → Stands new entry.batch x → Stands batches entry.batch x
  front_batch index entry x at there =
      let one = length-map entries.items (λ (x : Entry). x.batch) in
      let all = ap length placed in
      let is : get_or (batch_places batches.start batches.items) index entry.batch ≡ entry.batch =
      ap (λ ps. get_or ps index entry.batch) (sym placed) ∙ get_or-map (λ (x : Entry). x.batch) entries.items index entry entry.batch at.within ∙ ap (λ x. x.batch) (at.is entry) in
      let lt = places-before batches.start batches.items index entry.batch (let w = at.within in omega arith) in
      record {
        from = subst (λ s. s ≤ entry.batch) start there.from;
        at = IsAt-front batches.items b (entry.batch - batches.start) x (let f = there.from in omega (arith, start, is, lt))
            (subst (λ bs. IsAt bs (entry.batch - batches.start) x) items (subst (λ s. IsAt new.items (entry.batch - s) x) start there.at));
      }

  Leads-front : (key : List ℕ) (next : Option ℕ) (versions : List Version) → Leads new entries key next versions → Leads batches entries key next versions
  Leads-front key next [] led = led
  Leads-front key next (version ∷ older) led =
      let s = led.0 in (
        record {
          place = s.place;
          entry = s.entry;
          batch = s.batch;
          key_op = s.key_op;
          next_is = s.next_is;
          entry_at = s.entry_at;
          batch_at = front_batch (s.place - entries.start) s.entry s.batch s.entry_at.at s.batch_at;
          op_at = s.op_at;
          key_is = s.key_is;
          back = s.back;
        },
        led.1,
        Leads-front key s.entry.previous older led.2,
      )

-- ---- one batch less at the end
all-front : {A : Type 0} (P : A → Type 0) (xs ys : List A) → AllByRecursion P (xs ++ ys) → AllByRecursion P xs
all-front P [] ys all = tt
all-front P (x ∷ xs) ys all = (all.0, all-front P xs ys all.1)

rising-front : (batches more : List Batch) → AreRising (batches ++ more) → AreRising batches
rising-front [] more rising = tt
rising-front (b ∷ batches) more rising = (all-front (λ (later : Batch). b.number < later.number) batches more rising.0, rising-front batches more rising.1)

pub IsTable-undone : {S : Type 0} (batches before : Run Batch) (entries others : Run Entry) (latest newer : HashMap (List ℕ) (Option ℕ) S) (order keys : BTreeSet (List ℕ)) (size less : ℕ) (b : Batch) →
    before.start ≡ batches.start → batches.items ≡ before.items ++ b ∷ [] → others.start ≡ entries.start → length others.items ≤ length entries.items →
    (batches.start ≡ before.start → batches.items ≡ before.items ++ b ∷ [] → IsIndex batches entries (place_of latest) → IsIndex before others (place_of newer)) → (AreOrdered latest order → AreOrdered newer keys) →
    less ≡ ops_size b.ops → IsTable batches entries latest order size → IsTable before others newer keys (size - less)
IsTable-undone batches before entries others latest newer order keys size less b start items others-start fewer index ordered less-is table = record {
  index = index (sym start) items table.index;
  ordered = ordered table.ordered;
  rising = rising-front before.items (b ∷ []) (subst AreRising items table.rising);
  sized = let all = table.sized ∙ ap size_of items in let both = sum_by-append (λ (x : Batch). ops_size x.ops) before.items (b ∷ []) in omega (arith, all, both, less-is);
  batches_fit = let f = table.batches_fit in let l = length_push before.items b in let n = ap length items in omega (arith, start);
  entries_fit = let f = table.entries_fit in omega (arith, others-start, fewer);
}
