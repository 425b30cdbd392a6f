-- An index stays one as a batch's operations are added, and leads back over a key's versions.
use Rattle.std.proofs.Common.{◌≡◌, refl, sym, ◌∙◌, ap, subst, ℕ, ◌+◌, ◌-◌, ◌<◌, ◌≤◌, suc, Bool, true, false, cond, List, [], ◌∷◌, ◌++◌, length, get_or, take, map, replicate, reverse, Option, Some, None, IfSome, arith, length-append}
use Rattle.std.specs.List.{flat_map}
use Rattle.std.specs.Option.{unwrap_or, option_map}
use Rattle.std.specs.Str.{bytes_eq}
use Rattle.std.proofs.lemmas.Slice.Eq.{bytes_eq-Decides}
use Rattle.std.proofs.lemmas.List.{append-nil, append_assoc, reverse-append, get_or_append_left, get_or_push, get_or_default, map_push, replicate_more, take_all, length_push, take_more}
use Rattle.std.proofs.lemmas.List.Concat.{flat_map-append}
use Rattle.slate_types.specs.declared.batches.Batch.{Batch}
use Rattle.slate_types.specs.declared.batches.KeyOp.{KeyOp}
use Rattle.slate_reads.specs.declared.tables.Entry.{Entry}
use Rattle.slate_reads.specs.Read.{Version, versions_in}
use Rattle.slate_reads.specs.Run.{Run, IsAt, Stands}
use Rattle.slate_reads.specs.Index.{Leads, AreLed, IsTraced, IsIndex, batch_places, ops_of}
use Rattle.slate_reads.proofs.Tails.{versions_in-one_more}
use Rattle.slate_reads.proofs.Tracing.{IsTraced-same, IsTraced-push}

-- ---- what stands at a place
pub IsAt-get_or : {A : Type 0} (list : List A) (index : ℕ) (d : A) → index < length list → IsAt list index (get_or list index d)
IsAt-get_or list index d within = record { within = within; is = λ e. get_or_default list index e d within }

pub Stands-longer : {A : Type 0} (run longer : Run A) (more : List A) (place : ℕ) (item : A) → longer.start ≡ run.start → longer.items ≡ run.items ++ more → Stands run place item → Stands longer place item
Stands-longer run longer more place item start items stands = record {
  from = rw start stands.from;
  at = rw (start, items) (record {
    within = let l = length-append run.items more in let w = stands.at.within in omega arith;
    is = λ d. get_or_append_left run.items more d (place - run.start) stands.at.within ∙ stands.at.is d;
  });
}

pub Stands-last : {A : Type 0} (run longer : Run A) (item : A) → longer.start ≡ run.start → longer.items ≡ run.items ++ item ∷ [] → Stands longer (run.start + length run.items) item
Stands-last run longer item start items =
    let index : run.start + length run.items - run.start ≡ length run.items = omega arith in
    record {
      from = rw start (omega arith);
      at = rw (start, items, index) (record {
        within = let l = length_push run.items item in omega arith;
        is = λ d. get_or_push run.items item d (length run.items) refl;
      });
    }

-- ---- where an entry leads
pub Leads-keep : (batches more : Run Batch) (entries longer : Run Entry) → ((place : ℕ) (batch : Batch) → Stands batches place batch → Stands more place batch) →
    ((place : ℕ) (entry : Entry) → Stands entries place entry → Stands longer place entry) → longer.start ≡ entries.start →
    (key : List ℕ) (next : Option ℕ) (versions : List Version) → Leads batches entries key next versions → Leads more longer key next versions
Leads-keep batches more entries longer in_batches in_entries start key next [] led = subst (λ s. IfSome next (λ place. place < s)) (sym start) led
Leads-keep batches more entries longer in_batches in_entries start key next (version ∷ older) led =
    let s = led.0 in (
      record {
        place = s.place;
        entry = s.entry;
        batch = s.batch;
        key_op = s.key_op;
        next_is = s.next_is;
        entry_at = in_entries s.place s.entry s.entry_at;
        batch_at = in_batches s.entry.batch s.batch s.batch_at;
        op_at = s.op_at;
        key_is = s.key_is;
        back = s.back;
      },
      led.1,
      Leads-keep batches more entries longer in_batches in_entries start key s.entry.previous older led.2,
    )

-- an entry that leads on is before the end
before-end : (entries : Run Entry) (next : Option ℕ) → IfSome next (λ place. place < entries.start) → IfSome next (λ place. place < entries.start + length entries.items)
before-end entries None led = led
before-end entries (Some place) led = omega arith

Leads-within : (batches : Run Batch) (entries : Run Entry) (key : List ℕ) (next : Option ℕ) (versions : List Version) →
    Leads batches entries key next versions → IfSome next (λ place. place < entries.start + length entries.items)
Leads-within batches entries key next [] led = before-end entries next led
Leads-within batches entries key next (version ∷ older) led =
    let at = led.0.entry_at in
    let lt : led.0.place < entries.start + length entries.items = let f = at.from in let w = at.at.within in omega arith in
    subst (λ n. IfSome n (λ place. place < entries.start + length entries.items)) (sym led.0.next_is) lt

pub AreLed-same : (batches : Run Batch) (entries : Run Entry) (latest : List ℕ → Option ℕ) (f g : List ℕ → List Version) → ((key : List ℕ) → f key ≡ g key) →
    AreLed batches entries latest f → AreLed batches entries latest g
AreLed-same batches entries latest f g same led key = subst (λ vs. Leads batches entries key (latest key) (reverse vs)) (same key) (led key)

-- one more entry, as `add_entry` adds it
AreLed-push : (batches : Run Batch) (entries longer : Run Entry) (latest new : List ℕ → Option ℕ) (f : List ℕ → List Version) (n i : ℕ) (b : Batch) (o : KeyOp) →
    Stands batches n b → IsAt b.ops i o → longer.start ≡ entries.start → longer.items ≡ entries.items ++ record { batch = n; op = i; previous = latest o.key } ∷ [] →
    ((other : List ℕ) → new other ≡ cond (bytes_eq o.key other) (Some (entries.start + length entries.items)) (latest other)) →
    AreLed batches entries latest f → AreLed batches longer new (λ key. f key ++ versions_in key (record b { ops = o ∷ [] }))
AreLed-push batches entries longer latest new f n i b o batch_at op_at start longer-is new-is led key = go (bytes_eq o.key key) refl where
  entry : Entry
  entry = record { batch = n; op = i; previous = latest o.key }

  version : Version
  version = record { op = o.op; number = b.number; create_ts = b.create_ts }

  kept : (next : Option ℕ) (versions : List Version) → Leads batches entries key next versions → Leads batches longer key next versions
  kept = Leads-keep batches batches entries longer (λ place batch at. at) (λ place item at. Stands-longer entries longer (entry ∷ []) place item start longer-is at) start key

  go : (is_key : Bool) → bytes_eq o.key key ≡ is_key →
      Leads batches longer key (new key) (reverse (f key ++ map {B = Version} (λ (o : KeyOp). record { op = o.op; number = b.number; create_ts = b.create_ts }) (cond is_key (o ∷ []) [])))
  go true is =
      let same : o.key ≡ key = (bytes_eq-Decides o.key key).0 is in
      rw (reverse-append (f key) (version ∷ [])) (
        record {
          place = entries.start + length entries.items;
          entry = entry;
          batch = b;
          key_op = o;
          next_is = new-is key ∙ ap (λ t. cond t (Some (entries.start + length entries.items)) (latest key)) is;
          entry_at = Stands-last entries longer entry start longer-is;
          batch_at = batch_at;
          op_at = op_at;
          key_is = same;
          back = Leads-within batches entries o.key (latest o.key) (reverse (f o.key)) (led o.key);
        },
        refl,
        subst (λ k. Leads batches longer key (latest k) (reverse (f key))) (sym same) (kept (latest key) (reverse (f key)) (led key)),
      )
  go false is =
      subst (λ next. Leads batches longer key next (reverse (f key ++ []))) (sym (new-is key ∙ ap (λ t. cond t (Some (entries.start + length entries.items)) (latest key)) is))
      (rw append-nil (kept (latest key) (reverse (f key)) (led key)))

-- ---- the loop over the operations of a batch
-- the versions in the batches, and in the first operations of one more
abbrev pub so_far : List Batch → Batch → ℕ → List ℕ → List Version
so_far batches b i key = flat_map (versions_in key) batches ++ versions_in key (record b { ops = take i b.ops })

-- an index of batches and of the first operations of one more
pub record IsPart (batches new : Run Batch) (b : Batch) (entries : Run Entry) (latest : List ℕ → Option ℕ) (i : ℕ) : Type 0 where
  pub led : AreLed new entries latest (so_far batches.items b i)
  pub placed : map (λ e. e.batch) entries.items ≡ batch_places batches.start batches.items ++ replicate i (batches.start + length batches.items)
  pub traced : IsTraced new entries (ops_of batches.items ++ take i b.ops) latest

pub IsPart-start : (batches new : Run Batch) (b : Batch) (entries : Run Entry) (latest : List ℕ → Option ℕ) → new.start ≡ batches.start → new.items ≡ batches.items ++ b ∷ [] →
    IsIndex batches entries latest → IsPart batches new b entries latest 0
IsPart-start batches new b entries latest start items index = record {
  led = λ key. rw append-nil (Leads-keep batches new entries entries (λ place batch at. Stands-longer batches new (b ∷ []) place batch start items at) (λ place item at. at) refl key (latest key)
      (reverse (flat_map (versions_in key) batches.items)) (index.led key));
  placed = index.placed ∙ sym (append-nil _);
  traced = IsTraced-same batches new entries entries (ops_of batches.items) (ops_of batches.items ++ []) latest latest (λ place batch at. Stands-longer batches new (b ∷ []) place batch start items at) refl refl (append-nil _)
      (λ key. refl) index.traced;
}

-- the operations so far, and one more
pub ops-more : (batches : List Batch) (b : Batch) (i : ℕ) (o : KeyOp) → i < length b.ops → o ≡ get_or b.ops i o → (ops_of batches ++ take i b.ops) ++ o ∷ [] ≡ ops_of batches ++ take (i + 1) b.ops
ops-more batches b i o within at =
    append_assoc (ops_of batches) (take i b.ops) (o ∷ []) ∙ ap (λ x. ops_of batches ++ x) (ap (λ x. take i b.ops ++ x ∷ []) at ∙ sym (take_more b.ops i o within))

pub IsPart-more : (batches new : Run Batch) (b : Batch) (entries longer : Run Entry) (latest newer : List ℕ → Option ℕ) (i place : ℕ) (o : KeyOp) →
    new.start ≡ batches.start → new.items ≡ batches.items ++ b ∷ [] → batches.start + length batches.items ≡ place →
    i < length b.ops → o ≡ get_or b.ops i o → longer.start ≡ entries.start →
    longer.items ≡ entries.items ++ record { batch = place; op = i; previous = latest o.key } ∷ [] →
    ((other : List ℕ) → newer other ≡ cond (bytes_eq o.key other) (Some (entries.start + length entries.items)) (latest other)) →
    IsPart batches new b entries latest i → IsPart batches new b longer newer (i + 1)
IsPart-more batches new b entries longer latest newer i place o start items place-is within at same longer-is newer-is part = record {
  led = AreLed-same new longer newer _ (so_far batches.items b (i + 1)) (versions_in-one_more (λ k. flat_map (versions_in k) batches.items) b b.ops i o refl within at)
      (AreLed-push new entries longer latest newer (so_far batches.items b i) place i b o (subst (λ p. Stands new p b) place-is (Stands-last batches new b start items))
      (rw at (IsAt-get_or b.ops i o within)) same longer-is newer-is part.led);
  placed = rw longer-is (map_push (λ (e : Entry). e.batch) entries.items (record { batch = place; op = i; previous = latest o.key }) ∙ ap (λ x. x ++ place ∷ []) part.placed
      ∙ append_assoc (batch_places batches.start batches.items) (replicate i (batches.start + length batches.items)) (place ∷ [])
      ∙ ap (λ p. batch_places batches.start batches.items ++ (replicate i (batches.start + length batches.items) ++ p ∷ [])) (sym place-is)
      ∙ ap (λ x. batch_places batches.start batches.items ++ x) (replicate_more i (batches.start + length batches.items)));
  traced = subst (λ ops. IsTraced new longer ops newer) (ops-more batches.items b i o within at)
      (IsTraced-push new entries longer (ops_of batches.items ++ take i b.ops) latest newer place i b o (subst (λ p. Stands new p b) place-is (Stands-last batches new b start items))
      (rw at (IsAt-get_or b.ops i o within)) same longer-is newer-is part.traced);
}

pub batch_places-push : (start : ℕ) (batches : List Batch) (b : Batch) → batch_places start (batches ++ b ∷ []) ≡ batch_places start batches ++ replicate (length b.ops) (start + length batches)
batch_places-push start [] b = append-nil _ ∙ (let e : start ≡ start + 0 = omega arith in ap (replicate (length b.ops)) e)
batch_places-push start (x ∷ batches) b =
    let e : start + 1 + length batches ≡ start + suc (length batches) = omega arith in
    ap (λ y. replicate (length x.ops) start ++ y) (batch_places-push (start + 1) batches b ∙ ap (λ p. batch_places (start + 1) batches ++ replicate (length b.ops) p) e)
    ∙ sym (append_assoc (replicate (length x.ops) start) (batch_places (start + 1) batches) _)

-- the first operations of one more batch, once they are all of it
pub so_far-whole : (batches new : Run Batch) (b : Batch) (i : ℕ) → new.items ≡ batches.items ++ b ∷ [] → i ≡ length b.ops → (key : List ℕ) → so_far batches.items b i key ≡ flat_map (versions_in key) new.items
so_far-whole batches new b i items i-is key =
    rw (i-is, take_all (length b.ops) b.ops (omega arith), items) (sym (flat_map-append (versions_in key) batches.items (b ∷ []) ∙ ap (λ x. flat_map (versions_in key) batches.items ++ x) (append-nil (versions_in key b))))

pub ops-whole : (batches new : Run Batch) (b : Batch) (i : ℕ) → new.items ≡ batches.items ++ b ∷ [] → i ≡ length b.ops → ops_of batches.items ++ take i b.ops ≡ ops_of new.items
ops-whole batches new b i items i-is =
    rw (i-is, take_all (length b.ops) b.ops (omega arith), items) (sym (flat_map-append (λ (x : Batch). x.ops) batches.items (b ∷ []) ∙ ap (λ x. ops_of batches.items ++ x) (append-nil b.ops)))

pub IsPart-end : (batches new : Run Batch) (b : Batch) (entries : Run Entry) (latest : List ℕ → Option ℕ) (i : ℕ) → new.start ≡ batches.start → new.items ≡ batches.items ++ b ∷ [] →
    i ≡ length b.ops → IsPart batches new b entries latest i → IsIndex new entries latest
IsPart-end batches new b entries latest i start items i-is part = record {
  led = AreLed-same new entries latest (so_far batches.items b i) (λ key. flat_map (versions_in key) new.items) (so_far-whole batches new b i items i-is) part.led;
  placed = part.placed ∙ rw (i-is, start, items) (sym (batch_places-push batches.start batches.items b));
  traced = subst (λ ops. IsTraced new entries ops latest) (ops-whole batches new b i items i-is) part.traced;
}

-- ---- the walk from an entry to the one before it on its key
-- what an entry is of, and the versions before it
pub record Found (batches : Run Batch) (entries : Run Entry) (key : List ℕ) (place : ℕ) (entry : Entry) (left : List Version) : Type 0 where
  pub batch : Batch
  pub key_op : KeyOp
  pub older : List Version
  pub batch_at : Stands batches entry.batch batch
  pub op_at : IsAt batch.ops entry.op key_op
  pub key_is : key_op.key ≡ key
  pub back : IfSome entry.previous (λ previous. previous < place)
  pub left_is : left ≡ record { op = key_op.op; number = batch.number; create_ts = batch.create_ts } ∷ older
  pub led : Leads batches entries key entry.previous older

same_some : {A : Type 0} (x y : A) → Some x ≡ Some y → x ≡ y
same_some x y e = cc

pub Stands-same : {A : Type 0} (run : Run A) (place : ℕ) (x y : A) → Stands run place x → Stands run place y → x ≡ y
Stands-same run place x y at other = sym (at.at.is x) ∙ other.at.is x

pub Leads-found : (batches : Run Batch) (entries : Run Entry) (key : List ℕ) (next : Option ℕ) (place : ℕ) (entry : Entry) (left : List Version) →
    next ≡ Some place → Stands entries place entry → Leads batches entries key next left → Found batches entries key place entry left
Leads-found batches entries key next place entry [] is at led =
    let low : place < entries.start = subst (λ n. IfSome n (λ place. place < entries.start)) is led in
    absurd (let f = at.from in omega arith)
Leads-found batches entries key next place entry (version ∷ older) is at led =
    let s = led.0 in
    let same : s.place ≡ place = same_some s.place place (sym s.next_is ∙ is) in
    let entry_is : s.entry ≡ entry = Stands-same entries place s.entry entry (subst (λ p. Stands entries p s.entry) same s.entry_at) at in
    subst (λ e. Found batches entries key place e (version ∷ older)) entry_is (record {
      batch = s.batch;
      key_op = s.key_op;
      older = older;
      batch_at = s.batch_at;
      op_at = s.op_at;
      key_is = s.key_is;
      back = subst (λ p. IfSome s.entry.previous (λ previous. previous < p)) same s.back;
      left_is = ap (λ v. v ∷ older) led.1;
      led = led.2;
    })

pub back-smaller : (previous : Option ℕ) (next : Option ℕ) (place : ℕ) → next ≡ Some place → IfSome previous (λ p. p < place) →
    unwrap_or (option_map (λ p. p + 1) previous) 0 < unwrap_or (option_map (λ p. p + 1) next) 0
back-smaller None next place is back = subst (λ n. 0 < unwrap_or (option_map (λ p. p + 1) n) 0) (sym is) (omega arith)
back-smaller (Some p) next place is back = subst (λ n. p + 1 < unwrap_or (option_map (λ p. p + 1) n) 0) (sym is) (omega arith)

-- nothing is left where no entry stands
pub Leads-end : (batches : Run Batch) (entries : Run Entry) (key : List ℕ) (next : Option ℕ) (left : List Version) →
    IfSome next (λ place. entries.start ≤ place → entries.start + length entries.items ≤ place) → Leads batches entries key next left → left ≡ []
Leads-end batches entries key next [] none led = refl
Leads-end batches entries key next (version ∷ older) none led =
    let s = led.0 in
    let past = subst (λ n. IfSome n (λ place. entries.start ≤ place → entries.start + length entries.items ≤ place)) s.next_is none in
    absurd (let f = s.entry_at.from in let w = s.entry_at.at.within in let p = past f in omega arith)
