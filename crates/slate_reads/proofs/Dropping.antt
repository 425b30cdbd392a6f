-- Batches still rise as one is added, and an index stays one as the first is dropped.
use Rattle.std.proofs.Common.{◌≡◌, ltb, inl, inr, ◌⊎◌, refl, sym, ◌∙◌, ap, subst, ℕ, ◌+◌, ◌-◌, ◌<◌, ◌≤◌, suc, zero, Bool, true, false, cond, List, [], ◌∷◌, ◌++◌, length, get_or, take, drop, drop-cons, append_assoc, take_while, leb, add-one, add_comm, filter, map, replicate, reverse, Option, Some, None, IfSome, arith, length-append}
use Rattle.std.specs.List.{AllByRecursion, flat_map, prefix_len}
use Rattle.std.proofs.lemmas.List.Folds.{length-prefix_len}
use Rattle.std.specs.Str.{bytes_eq}
use Rattle.std.proofs.lemmas.Bool.{cases_lt, lt-ltb, le-ltb, leb-true, leb-false}
use borrow.Author.Tests.{ltb-true}
use Rattle.std.proofs.lemmas.List.{take-append-drop, nil_from_length, reverse-append, get_or_append_left, get_or-map, get_or-drop, get_or-replicate, get_or-append_right, length-map, length-drop, length-replicate, drop-map, drop_at}
use Rattle.slate_types.specs.declared.batches.Batch.{Batch}
use Rattle.slate_types.specs.declared.batches.KeyOp.{KeyOp}
use Rattle.slate_types.specs.Line.{batches_above}
use Rattle.slate_reads.specs.declared.tables.Entry.{Entry}
use Rattle.slate_reads.specs.Read.{Version, versions_in}
use Rattle.slate_reads.specs.Run.{Run, IsAt, Stands}
use Rattle.slate_reads.specs.Index.{AreRising, IsAboveLast, Leads, IsTraced, IsIndex, batch_places, ops_of, Loses, Forgets, begins_through}
use Rattle.slate_reads.proofs.Lists.{all-weaker, all-append, all-reverse}
use Rattle.slate_reads.proofs.Tracing.{IsTraced-drop}

-- ---- numbers that rise
pub AreRising-push : (batches : List Batch) (b : Batch) → AreRising batches → IsAboveLast b.number batches → AreRising (batches ++ b ∷ [])
AreRising-push [] b rising above = (tt, tt)
AreRising-push (x ∷ []) b rising above = ((above, tt), (tt, tt))
AreRising-push (x ∷ y ∷ batches) b rising above = (all-append (λ (later : Batch). x.number < later.number) (y ∷ batches) (b ∷ []) rising.0 (lt (y ∷ batches) rising.0 above (omega arith), tt), AreRising-push (y ∷ batches) b rising.1 above) where
  lt : (zs : List Batch) → AllByRecursion (λ later. x.number < later.number) zs → IsAboveLast b.number zs → (0 < length zs → x.number < b.number)
  lt [] all above some = absurd (omega arith)
  lt (z ∷ []) all above some = let l = all.0 in omega arith
  lt (z ∷ w ∷ zs) all above some = lt (w ∷ zs) all.1 above (omega arith)

above-split : (number : ℕ) (earlier : List Batch) (last : Batch) → (last.number < number → IsAboveLast number (earlier ++ last ∷ [])) × (IsAboveLast number (earlier ++ last ∷ []) → last.number < number)
above-split number [] last = (λ above. above, λ above. above)
above-split number (x ∷ []) last = (λ above. above, λ above. above)
above-split number (x ∷ y ∷ earlier) last = above-split number (y ∷ earlier) last

pub above-last : (number : ℕ) (batches earlier : List Batch) (last : Batch) → batches ≡ earlier ++ last ∷ [] → (ltb last.number number ≡ true → IsAboveLast number batches) × (IsAboveLast number batches → ltb last.number number ≡ true)
above-last number batches earlier last is =
    let split = above-split number earlier last in
    rw is (λ above. split.0 (ltb-true last.number number above), λ above. lt-ltb last.number number (split.1 above))

pub above-none : (number : ℕ) (batches : List Batch) → length batches ≡ 0 → IsAboveLast number batches
above-none number batches none = rw (nil_from_length batches none) tt

pub rising-last : (batches : List Batch) (b : Batch) (more : List Batch) → AreRising (batches ++ b ∷ more) → IsAboveLast b.number batches
rising-last [] b more rising = tt
rising-last (x ∷ []) b more rising = rising.0.0
rising-last (x ∷ y ∷ batches) b more rising = rising-last (y ∷ batches) b more rising.1

-- where a batch isn't above the last of those before it, they don't rise
pub rising-next : (xs bs : List Batch) (i : ℕ) (b d : Batch) → i < length bs → b ≡ get_or bs i d → AreRising (xs ++ bs) → IsAboveLast b.number (xs ++ take i bs)
rising-next xs bs i b d less is rising =
    let parts : bs ≡ take i bs ++ (b ∷ drop (suc i) bs) =
    sym (take-append-drop i bs) ∙ ap (λ ys. take i bs ++ ys) (drop-cons bs i d less ∙ ap (λ x. x ∷ drop (suc i) bs) (sym is)) in
    let all : xs ++ bs ≡ (xs ++ take i bs) ++ (b ∷ drop (suc i) bs) =
    ap (λ ys. xs ++ ys) parts ∙ sym (append_assoc xs (take i bs) (b ∷ drop (suc i) bs)) in
    rising-last (xs ++ take i bs) b (drop (suc i) bs) (subst AreRising all rising)

-- the batches above a number, once the first is above it
pub above-kept : (number : ℕ) (batches : List Batch) → AreRising batches → begins_through number batches ≡ false → batches_above number batches ≡ batches
above-kept number [] rising after = refl
above-kept number (b ∷ batches) rising after = go (cases_lt number b.number) where
  all : (bs : List Batch) → AllByRecursion (λ later. number < later.number) bs → batches_above number bs ≡ bs
  all [] above = refl
  all (x ∷ bs) above = rw (lt-ltb number x.number above.0) (ap (λ xs. x ∷ xs) (all bs above.1))

  go : (number < b.number) ⊎ (b.number ≤ number) → batches_above number (b ∷ batches) ≡ b ∷ batches
  go (inl lt) = all (b ∷ batches) (lt, all-weaker (λ (later : Batch). b.number < later.number) (λ later. number < later.number) batches (λ later l. omega arith) rising.0)
  go (inr le) = absurd (let lt = leb-false b.number number after in omega arith)

pub above-dropped : (number : ℕ) (batches : List Batch) → begins_through number batches ≡ true → batches_above number batches ≡ batches_above number (drop 1 batches)
above-dropped number [] first = refl
above-dropped number (b ∷ batches) first = rw (le-ltb number b.number (leb-true b.number number first)) refl

pub begins-some : (number : ℕ) (batches : List Batch) → begins_through number batches ≡ true → 0 < length batches
begins-some number [] first = absurd (let e = first in cc)
begins-some number (b ∷ batches) first = omega arith

-- the batches at or below a number stand first
pub above-counted : (number : ℕ) (batches : List Batch) → AreRising batches → drop (length (take_while (λ b. leb b.number number) batches)) batches ≡ batches_above number batches
above-counted number batches rising = ap (λ n. drop n batches) (length-prefix_len (λ (b : Batch). leb b.number number) batches) ∙ go batches rising where
  go : (batches : List Batch) → AreRising batches → drop (prefix_len (λ b. leb b.number number) batches) batches ≡ batches_above number batches
  go [] rising = refl
  go (b ∷ batches) rising = at (leb b.number number) refl (go batches rising.1) where
    at : (t : Bool) → leb b.number number ≡ t → drop (prefix_len (λ b. leb b.number number) batches) batches ≡ batches_above number batches →
        drop (cond t (1 + prefix_len (λ b. leb b.number number) batches) 0) (b ∷ batches) ≡ batches_above number (b ∷ batches)
    at true is later = rw add_comm (rw add-one later) ∙ sym (above-dropped number (b ∷ batches) is)
    at false is later = sym (above-kept number (b ∷ batches) rising is)

pub rising-drop : (count : ℕ) (batches : List Batch) → AreRising batches → AreRising (drop count batches)
rising-drop zero batches rising = rising
rising-drop (suc count) [] rising = tt
rising-drop (suc count) (b ∷ batches) rising = rising-drop count batches rising.1

-- ---- the first batch goes
-- one more place below the end was forgotten
pub Forgets-more : (end more place : ℕ) (old middle new : Option ℕ) → end ≤ more → place < more → Loses place middle new → Forgets end old middle → Forgets more old new
Forgets-more end more place old middle new le lt (inl same) so_far = subst (Forgets more old) (sym same) (wider old middle so_far) where
  wider : (old middle : Option ℕ) → Forgets end old middle → Forgets more old middle
  wider None middle so_far = so_far
  wider (Some p) None so_far = omega arith
  wider (Some p) (Some q) so_far = so_far
Forgets-more end more place old middle new le lt (inr lost) so_far = subst (Forgets more old) (sym lost.0) (gone old (subst (Forgets end old) lost.1 so_far)) where
  gone : (old : Option ℕ) → Forgets end old (Some place) → Forgets more old None
  gone None so_far = refl
  gone (Some p) so_far = omega arith

-- the versions in a batch have its number
pub of_batch : (key : List ℕ) (b : Batch) → AllByRecursion (λ v. v.number ≡ b.number) (versions_in key b)
of_batch key b = go (filter (λ (o : KeyOp). bytes_eq o.key key) b.ops) where
  go : (ops : List KeyOp) → AllByRecursion (λ v. v.number ≡ b.number) (map {B = Version} (λ (o : KeyOp). record { op = o.op; number = b.number; create_ts = b.create_ts }) ops)
  go [] = tt
  go (o ∷ ops) = (refl, go ops)

pub of_later : (key : List ℕ) (number : ℕ) (batches : List Batch) → AllByRecursion (λ b. number < b.number) batches → AllByRecursion (λ v. number < v.number) (flat_map (versions_in key) batches)
of_later key number [] above = tt
of_later key number (b ∷ batches) above =
    all-append (λ (v : Version). number < v.number) (versions_in key b) (flat_map (versions_in key) batches)
    (all-weaker (λ (v : Version). v.number ≡ b.number) (λ v. number < v.number) (versions_in key b) (λ v is. rw is above.0) (of_batch key b))
    (of_later key number batches above.1)

places-from : (start : ℕ) (batches : List Batch) (k : ℕ) → k < length (batch_places start batches) → start ≤ get_or (batch_places start batches) k start
places-from start [] k lt = absurd (omega arith)
places-from start (b ∷ batches) k lt = go (cases_lt k (length b.ops)) (places-from (start + 1) batches (k - length b.ops)) where
  len : length (replicate (length b.ops) start) ≡ length b.ops
  len = length-replicate (length b.ops) start

  go : (k < length b.ops) ⊎ (length b.ops ≤ k) → (k - length b.ops < length (batch_places (start + 1) batches) → start + 1 ≤ get_or (batch_places (start + 1) batches) (k - length b.ops) (start + 1)) →
      start ≤ get_or (replicate (length b.ops) start ++ batch_places (start + 1) batches) k start
  go (inl early) others =
      rw (get_or_append_left (replicate (length b.ops) start) (batch_places (start + 1) batches) start k (omega (arith, len)), get_or-replicate (length b.ops) k start start early) (omega arith)
  go (inr late) others =
      rw (get_or-append_right (replicate (length b.ops) start) (batch_places (start + 1) batches) (length b.ops) k start len late)
      (let both = length-append (replicate (length b.ops) start) (batch_places (start + 1) batches) in
      later (batch_places (start + 1) batches) (k - length b.ops) (omega (arith, len)) (others (omega (arith, len))))
    where
      later : (ps : List ℕ) (i : ℕ) → i < length ps → start + 1 ≤ get_or ps i (start + 1) → start ≤ get_or ps i start
      later [] i lt le = absurd (omega arith)
      later (p ∷ ps) zero lt le = omega arith
      later (p ∷ ps) (suc i) lt le = later ps i (omega arith) le

module _ (batches after : Run Batch) (entries left : Run Entry) (b : Batch) (rest : List Batch) (first : batches.items ≡ b ∷ rest) (start : after.start ≡ batches.start + 1) (items : after.items ≡ rest)
    (left-start : left.start ≡ entries.start + length b.ops) (left-items : left.items ≡ drop (length b.ops) entries.items)
    (rising : AllByRecursion (λ (later : Batch). b.number < later.number) rest) (placed : map (λ (e : Entry). e.batch) entries.items ≡ batch_places batches.start batches.items) where
  all_places : map (λ (e : Entry). e.batch) entries.items ≡ replicate (length b.ops) batches.start ++ batch_places (batches.start + 1) rest
  all_places = placed ∙ ap (batch_places batches.start) first

  entry_place : (place : ℕ) (e : Entry) (d : ℕ) → Stands entries place e → get_or (replicate (length b.ops) batches.start ++ batch_places (batches.start + 1) rest) (place - entries.start) d ≡ e.batch
  entry_place place e d at =
      ap (λ ps. get_or ps (place - entries.start) d) (sym all_places) ∙ get_or-map (λ (e : Entry). e.batch) entries.items (place - entries.start) e d at.at.within ∙ ap (λ x. x.batch) (at.at.is e)

  -- an entry of the first operations is of the first batch
  early : (place : ℕ) (e : Entry) → Stands entries place e → place < entries.start + length b.ops → e.batch ≡ batches.start
  early place e at lt =
      let i : place - entries.start < length b.ops = let f = at.from in omega arith in
      let len = length-replicate (length b.ops) batches.start in
      sym (entry_place place e batches.start at) ∙ get_or_append_left (replicate (length b.ops) batches.start) (batch_places (batches.start + 1) rest) batches.start (place - entries.start) (omega arith)
      ∙ get_or-replicate (length b.ops) (place - entries.start) batches.start batches.start i

  -- and each later one of a later batch
  late : (place : ℕ) (e : Entry) → Stands entries place e → entries.start + length b.ops ≤ place → batches.start < e.batch
  late place e at le =
      let i : length b.ops ≤ place - entries.start = omega arith in
      let len = length-replicate (length b.ops) batches.start in
      let all = ap length all_places in
      let one = length-map entries.items (λ (e : Entry). e.batch) in
      let both = length-append (replicate (length b.ops) batches.start) (batch_places (batches.start + 1) rest) in
      let within : place - entries.start - length b.ops < length (batch_places (batches.start + 1) rest) = let w = at.at.within in omega arith in
      let is = sym (get_or-append_right (replicate (length b.ops) batches.start) (batch_places (batches.start + 1) rest) (length b.ops) (place - entries.start) (batches.start + 1) len i) ∙ entry_place place e (batches.start + 1) at in
      let above = places-from (batches.start + 1) rest (place - entries.start - length b.ops) within in
      omega (arith, is, above)

  first_batch : (x : Batch) → Stands batches batches.start x → x ≡ b
  first_batch x at = sym (at.at.is b) ∙ (let zero_is : batches.start - batches.start ≡ 0 = omega arith in rw (zero_is, first) refl)

  later_at : (place : ℕ) (x : Batch) → batches.start < place → Stands batches place x → IsAt rest (place - (batches.start + 1)) x
  later_at place x lt at =
      let next : place - batches.start ≡ suc (place - (batches.start + 1)) = omega arith in
      let all : IsAt (b ∷ rest) (suc (place - (batches.start + 1))) x = rw (first, next) at at.at in
      record { within = let w = all.within in omega arith; is = all.is }

  later_batch : (place : ℕ) (x : Batch) → batches.start < place → Stands batches place x → Stands after place x
  later_batch place x lt at = record { from = omega (arith, start); at = rw (start, items) (later_at place x lt at) }

  above : (place : ℕ) (x : Batch) → batches.start < place → Stands batches place x → b.number < x.number
  above place x lt at = go rest (place - (batches.start + 1)) rising (later_at place x lt at) where
    go : (bs : List Batch) (i : ℕ) → AllByRecursion (λ (later : Batch). b.number < later.number) bs → IsAt bs i x → b.number < x.number
    go [] i all at = absurd (let w = at.within in omega arith)
    go (y ∷ bs) zero all at = subst (λ (z : Batch). b.number < z.number) (at.is x) all.0
    go (y ∷ bs) (suc i) all at = go bs i all.1 (record { within = let w = at.within in omega arith; is = at.is })

  later_entry : (place : ℕ) (e : Entry) → entries.start + length b.ops ≤ place → Stands entries place e → Stands left place e
  later_entry place e le at = record {
    from = omega (arith, left-start);
    at = rw (left-start, left-items) (record {
      within = let w = at.at.within in let l = length-drop (length b.ops) entries.items in omega arith;
      is = λ d. get_or-drop (length b.ops) entries.items (place - (entries.start + length b.ops)) d
          ∙ (let same : length b.ops + (place - (entries.start + length b.ops)) ≡ place - entries.start = omega arith in ap (λ i. get_or entries.items i d) same) ∙ at.at.is d;
    });
  }

  -- what leads to the first batch alone is dropped
  Leads-past : (key : List ℕ) (next : Option ℕ) (olds : List Version) → AllByRecursion (λ v. v.number ≡ b.number) olds → Leads batches entries key next olds → IfSome next (λ place. place < left.start)
  Leads-past key next [] same led = go next led where
    go : (next : Option ℕ) → IfSome next (λ place. place < entries.start) → IfSome next (λ place. place < left.start)
    go None led = led
    go (Some place) led = omega (arith, left-start)
  Leads-past key next (v ∷ olds) same led = subst (λ n. IfSome n (λ place. place < left.start)) (sym led.0.next_is) (go (cases_lt led.0.place left.start)) where
    go : (led.0.place < left.start) ⊎ (left.start ≤ led.0.place) → led.0.place < left.start
    go (inl lt) = lt
    go (inr le) =
        let s = led.0 in
        let number : v.number ≡ s.batch.number = ap (λ x. x.number) led.1 in
        absurd (let a = above s.entry.batch s.batch (late s.place s.entry s.entry_at (omega (arith, left-start))) s.batch_at in let is = same.0 in omega arith)

  place_late : (s_place : ℕ) (entry : Entry) (batch : Batch) → b.number < batch.number → Stands entries s_place entry → Stands batches entry.batch batch → entries.start + length b.ops ≤ s_place
  place_late place entry batch later at batch_at = go (cases_lt place (entries.start + length b.ops)) where
    go : (place < entries.start + length b.ops) ⊎ (entries.start + length b.ops ≤ place) → entries.start + length b.ops ≤ place
    go (inr le) = le
    go (inl lt) =
        let is : batch ≡ b = first_batch batch (subst (λ p. Stands batches p batch) (early place entry at lt) batch_at) in
        let number : batch.number ≡ b.number = ap (λ x. x.number) is in
        absurd (omega arith)

  Leads-drop : (key : List ℕ) (next : Option ℕ) (versions olds : List Version) → AllByRecursion (λ v. b.number < v.number) versions → AllByRecursion (λ v. v.number ≡ b.number) olds →
      Leads batches entries key next (versions ++ olds) → Leads after left key next versions
  Leads-drop key next [] olds later same led = Leads-past key next olds same led
  Leads-drop key next (v ∷ versions) olds later same led =
      let s = led.0 in
      let number : b.number < s.batch.number = let n = ap (λ (x : Version). x.number) led.1 in let l = later.0 in omega arith in
      let back = place_late s.place s.entry s.batch number s.entry_at s.batch_at in (
        record {
          place = s.place;
          entry = s.entry;
          batch = s.batch;
          key_op = s.key_op;
          next_is = s.next_is;
          entry_at = later_entry s.place s.entry back s.entry_at;
          batch_at = later_batch s.entry.batch s.batch (late s.place s.entry s.entry_at back) s.batch_at;
          op_at = s.op_at;
          key_is = s.key_is;
          back = s.back;
        },
        led.1,
        Leads-drop key s.entry.previous versions olds later.1 same led.2,
      )

  Leads-forget : (key : List ℕ) (old new : Option ℕ) (versions : List Version) → Forgets left.start old new → Leads after left key old versions → Leads after left key new versions
  Leads-forget key None new versions gone led = subst (λ n. Leads after left key n versions) (sym gone) led
  Leads-forget key (Some p) (Some q) versions same led = subst (λ n. Leads after left key n versions) (ap (λ x. Some x) (sym same)) led
  Leads-forget key (Some p) None [] gone led = tt
  Leads-forget key (Some p) None (v ∷ versions) gone led =
      let is : p ≡ led.0.place = let e = led.0.next_is in cc in
      absurd (let f = led.0.entry_at.from in omega arith)

  pub IsIndex-drop : (latest new : List ℕ → Option ℕ) → ((key : List ℕ) → Forgets left.start (latest key) (new key)) → IsIndex batches entries latest → IsIndex after left new
  IsIndex-drop latest new forgets index = record {
    led = λ key.
        let whole : reverse (flat_map (versions_in key) batches.items) ≡ reverse (flat_map (versions_in key) rest) ++ reverse (versions_in key b) =
        ap (λ bs. reverse (flat_map (versions_in key) bs)) first ∙ reverse-append (versions_in key b) (flat_map (versions_in key) rest) in
        subst (λ bs. Leads after left key (new key) (reverse (flat_map (versions_in key) bs))) (sym items) (Leads-forget key (latest key) (new key) (reverse (flat_map (versions_in key) rest)) (forgets key)
        (Leads-drop key (latest key) (reverse (flat_map (versions_in key) rest)) (reverse (versions_in key b))
        (all-reverse (λ (v : Version). b.number < v.number) (flat_map (versions_in key) rest) (of_later key b.number rest rising))
        (all-reverse (λ (v : Version). v.number ≡ b.number) (versions_in key b) (of_batch key b))
        (subst (Leads batches entries key (latest key)) whole (index.led key))));
    placed = rw (left-items, start, items) (sym (drop-map (λ (e : Entry). e.batch) (length b.ops) entries.items) ∙ ap (drop (length b.ops)) all_places
        ∙ drop_at (replicate (length b.ops) batches.start) (batch_places (batches.start + 1) rest) (length b.ops) (length-replicate (length b.ops) batches.start));
    traced = subst (λ bs. IsTraced after left (ops_of bs) new) (sym items)
        (IsTraced-drop batches after entries left b.ops (ops_of rest) latest new left-start left-items (λ place e x le at there. later_batch e.batch x (late place e at le) there) forgets
        (subst (λ bs. IsTraced batches entries (ops_of bs) latest) first index.traced));
  }
