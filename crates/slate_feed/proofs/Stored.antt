-- What a call answers over sound objects: the batches of the stored line above its cursor.
use Rattle.std.proofs.Common.{◌≡◌, ◌≢◌, ℕ, zero, suc, ◌+◌, ◌-◌, ◌<◌, ◌≤◌, ◌⊎◌, inl, inr, min, true, false, List, [], ◌∷◌, ◌++◌, length, drop, take, map, cond, Option, Some, None, unwrap_or, Result, Ok, Err, refl, sym, subst, ap, ◌∙◌, arith, append_assoc, length-append, length-drop, ltb, nat_lt}
use Rattle.std.proofs.lemmas.Bool.{cases_lt, le-ltb, lt-ltb}
use Rattle.std.proofs.lemmas.List.{append-nil, take_all}
use Rattle.std.proofs.lemmas.Grind.{flat_map-append}
use Rattle.std.proofs.lemmas.List.Elements.{All-contains, All-head, All-tail, All-weaker, Contains-append_left, Contains-append_right, filter-append}
use Rattle.std.specs.List.{All, Contains, flat_map, range_with_len, slice_get}
use Rattle.std.specs.Option.{IfSome, option_map}
use Rattle.slate_types.proofs.Lines.{above-all, above-drop, above-none, numbered-drop}
use Rattle.slate_types.specs.declared.batches.Batch.{Batch}
use Rattle.slate_types.specs.Line.{AreNumberedFrom, Line, batches_above}
use Rattle.slate_types.specs.Line as lines
use Rattle.slate_store.specs.declared.objects.TableId.{TableId}
use Rattle.slate_store.specs.declared.objects.VersionedManifest.{VersionedManifest}
use Rattle.slate_store.specs.Content.{HasItsObjects, IsSound, StoresTable, content, content_by, logged, logs_above, number_before, table_batches}
use Rattle.slate_store.specs.Logs.{HaveNoGap, StandsIn}
use Rattle.slate_store.specs.Objects.{Objects, last_log, latest_manifest, log_at, table_at}
use Rattle.slate_store.proofs.Gapless.{between-gapless, gapless-greatest, stored-gapless}
use Rattle.slate_store.proofs.Logs.{no_gap-end, no_gap-numbered, no_gap-parts, numbered-stand}
use Rattle.slate_feed.specs.declared.refusals.FeedRefusal.{FeedRefusal}
use Rattle.slate_feed.specs.declared.refusals.FeedRefusal.TheVariants as refusals
use Rattle.slate_feed.specs.Answer.{Answers, Delivers, GivesBatches, HasNoneAbove, Opens, OpensWithin}
use Rattle.slate_feed.specs.Pieces.{Piece, joined, log_piece, log_pieces, pieces, table_piece, tables_to_read}
use Rattle.slate_feed.specs.Taking.{greatest_number}

-- ---- batches of a line
-- where the batch of a line with the next number stands, those above a number begin with it
stands-at : (floor cursor : ℕ) (bs : List Batch) (b : Batch) → AreNumberedFrom floor bs → floor ≤ cursor → Contains bs b → b.number ≡ cursor + 1 → (rest : List Batch) × (batches_above cursor bs ≡ b ∷ rest) × (rest ≡ batches_above (cursor + 1) bs)
stands-at floor cursor bs b numbered low has next =
    let s : StandsIn b (record { floor = floor; batches = bs }) = All-contains (λ x. StandsIn x (record { floor = floor; batches = bs })) bs b (numbered-stand floor bs numbered) has in
    let place : s.0 ≡ cursor - floor = let at = s.2 in omega (arith, at, next, low) in
    let above : batches_above cursor bs ≡ drop s.0 bs = above-drop floor cursor s.0 bs numbered (omega (arith, place, low)) in
    let later : batches_above (cursor + 1) bs ≡ drop (suc s.0) bs = above-drop floor (cursor + 1) (suc s.0) bs numbered (omega (arith, place, low)) in
    (drop (suc s.0) bs, above ∙ split s.0 bs s.1, sym later)
  where
    split : (k : ℕ) (xs : List Batch) → slice_get xs k ≡ Some b → drop k xs ≡ b ∷ drop (suc k) xs
    split zero [] is = absurd (cc)
    split zero (x ∷ xs) is = let same : x ≡ b = cc in ap (λ y. y ∷ xs) same
    split (suc k) [] is = absurd (cc)
    split (suc k) (x ∷ xs) is = split k xs is

-- batches of a line that are numbered from the cursor on begin those above it
pub begin-above : (floor cursor : ℕ) (bs found : List Batch) → AreNumberedFrom floor bs → floor ≤ cursor → AreNumberedFrom cursor found → All (Contains bs) found → (rest : List Batch) × (batches_above cursor bs ≡ found ++ rest)
begin-above floor cursor bs [] numbered low found has = (batches_above cursor bs, refl)
begin-above floor cursor bs (b ∷ found) numbered low next has =
    let s = stands-at floor cursor bs b numbered low (All-head (Contains bs) b found has) next.0 in
    let rest = begin-above floor (cursor + 1) bs found numbered (omega arith) next.1 (All-tail (Contains bs) b found has) in
    (rest.0, s.1 ∙ ap (λ xs. b ∷ xs) (s.2 ∙ rest.1))

-- so many batches of a line are above a number that isn't below its floor
pub count-above : (floor cursor : ℕ) (bs : List Batch) → AreNumberedFrom floor bs → floor ≤ cursor → length (batches_above cursor bs) ≡ floor + length bs - cursor
count-above floor cursor bs numbered low =
    let k = cursor - floor in
    let d = ap length (above-drop floor cursor k bs numbered (omega (arith, low))) ∙ length-drop k bs in
    omega (arith, d, low)

-- and they are numbered from it on, where it isn't above the end
pub numbered-above : (floor cursor : ℕ) (bs : List Batch) → AreNumberedFrom floor bs → floor ≤ cursor → AreNumberedFrom cursor (batches_above cursor bs)
numbered-above floor cursor bs numbered low = elim (cases_lt (floor + length bs) cursor) [
  | inl past ↦ subst (AreNumberedFrom cursor) (sym (above-none floor cursor bs numbered (omega arith))) tt
  | inr within ↦
      let k = cursor - floor in
      let at : floor + k ≡ cursor = omega (arith, low) in
      subst (AreNumberedFrom cursor) (sym (above-drop floor cursor k bs numbered at))
      (subst (λ n. AreNumberedFrom n (drop k bs)) at (numbered-drop floor k bs numbered (omega (arith, low, within))))
]

-- a replay of them from the number on leads to the end
pub leads-above : (floor cursor : ℕ) (bs : List Batch) → AreNumberedFrom floor bs → floor ≤ cursor → HaveNoGap cursor (cursor + length (batches_above cursor bs)) bs
leads-above floor cursor bs numbered low = no_gap-numbered cursor cursor bs (omega arith) (numbered-above floor cursor bs numbered low)

take-front : (n : ℕ) (xs ys : List Batch) → length xs ≡ n → take n (xs ++ ys) ≡ xs
take-front zero [] ys is = grind arith
take-front (suc n) [] ys is = absurd (omega (arith, is))
take-front zero (x ∷ xs) ys is = absurd (omega (arith, is))
take-front (suc n) (x ∷ xs) ys is = ap (λ zs. x ∷ zs) (take-front n xs ys (omega (arith, is)))

pub greatest-numbered : (n : ℕ) (bs : List Batch) → AreNumberedFrom n bs → greatest_number n bs ≡ n + length bs
greatest-numbered n [] numbered = omega arith
greatest-numbered n (b ∷ bs) numbered = go n n b bs (omega arith) numbered where
  go : (m n : ℕ) (b : Batch) (bs : List Batch) → m ≤ n → AreNumberedFrom n (b ∷ bs) → greatest_number m (b ∷ bs) ≡ n + length (b ∷ bs)
  go m n b [] low numbered = let first = numbered.0 in omega (arith, first, low)
  go m n b (x ∷ bs) low numbered = let more = go m (n + 1) x bs (omega arith) numbered.1 in let first = numbered.0 in omega (arith, more, first)

-- ---- the pieces of sound objects
-- what is stored under each of these, as a piece
stored-map : {K : Type 0} (f : K → Piece) (ids : List K) → ((id : K) → Contains ids id → f id ≢ None) → map f ids ≡ map Some (map (λ id. unwrap_or (f id) []) ids)
stored-map {K} f [] stored = refl
stored-map {K} f (id ∷ ids) stored =
    let rest = stored-map f ids (λ k has. stored k (suc has.0, omega (arith, has.1), has.2)) in
    ap (λ (x : Piece). x ∷ map f ids) (here (f id) (stored id (zero, omega arith, refl))) ∙ ap (λ xs. Some (unwrap_or (f id) []) ∷ xs) rest
  where
    here : (x : Piece) → x ≢ None → x ≡ Some (unwrap_or x [])
    here None some = absurd (some refl)
    here (Some bs) some = refl

above-map : (n : ℕ) (x : Piece) → unwrap_or (option_map (batches_above n) x) [] ≡ batches_above n (unwrap_or x [])
above-map n None = refl
above-map n (Some bs) = refl

-- joined, the batches above a number are those of all
above-joined : {K : Type 0} (n : ℕ) (f : K → Piece) (ids : List K) →
    joined (map (λ id. unwrap_or (option_map (batches_above n) (f id)) []) ids) ≡ batches_above n (flat_map (λ id. unwrap_or (f id) []) ids)
above-joined {K} n f [] = refl
above-joined {K} n f (id ∷ ids) =
    ap (λ xs. xs ++ joined (map (λ id. unwrap_or (option_map (batches_above n) (f id)) []) ids)) (above-map n (f id))
    ∙ (ap (λ xs. batches_above n (unwrap_or (f id) []) ++ xs) (above-joined n f ids)
    ∙ sym (filter-append (λ b. ltb n b.number) (unwrap_or (f id) []) (flat_map (λ id. unwrap_or (f id) []) ids)))

in-range : (a n k : ℕ) → Contains (range_with_len a n) k → (a ≤ k) × (k < a + n)
in-range a zero k has = absurd (omega (arith, has.1))
in-range a (suc n) k (zero, less, is) = let at = is in (omega (arith, at), omega (arith, at))
in-range a (suc n) k (suc i, less, is) = let rest = in-range (a + 1) n k (i, omega (arith, less), is) in (let l = rest.0 in omega (arith, l), let h = rest.1 in omega (arith, h))

map_some-append : (xs ys : List (List Batch)) → map Some (xs ++ ys) ≡ map Some xs ++ map Some ys
map_some-append [] ys = refl
map_some-append (x ∷ xs) ys = ap (λ (zs : List Piece). Some x ∷ zs) (map_some-append xs ys)

-- where all pieces are stored, so are those that aren't read
others-stored : (all parts : List (List Batch)) (rest : List Piece) → map Some all ≡ map Some parts ++ rest → (others : List (List Batch)) × (all ≡ parts ++ others) × (rest ≡ map Some others)
others-stored all [] rest is = (all, refl, sym is)
others-stored [] (p ∷ parts) rest is = absurd (cc)
others-stored (x ∷ all) (p ∷ parts) rest is =
    let same : x ≡ p = cc in
    let tail : map Some all ≡ map Some parts ++ rest = cc in
    let r = others-stored all parts rest tail in
    (r.0, ap (λ y. y ∷ all) same ∙ ap (λ ys. p ∷ ys) r.1, r.2)

pub numbered-front : (floor : ℕ) (xs ys : List Batch) → AreNumberedFrom floor (xs ++ ys) → AreNumberedFrom floor xs
numbered-front floor [] ys h = tt
numbered-front floor (x ∷ xs) ys h = (h.0, numbered-front (floor + 1) xs ys h.1)

numbered-back : (floor : ℕ) (xs ys : List Batch) → AreNumberedFrom floor (xs ++ ys) → AreNumberedFrom (floor + length xs) ys
numbered-back floor [] ys h = subst (λ n. AreNumberedFrom n ys) (omega arith) h
numbered-back floor (x ∷ xs) ys h = subst (λ n. AreNumberedFrom n ys) (omega arith) (numbered-back (floor + 1) xs ys h.1)

joined-append : (xs ys : List (List Batch)) → joined (xs ++ ys) ≡ joined xs ++ joined ys
joined-append xs ys = flat_map-append (λ (p : List Batch). p) xs ys

nil-from-length : (xs : List Batch) → length xs ≡ 0 → xs ≡ []
nil-from-length [] h = refl
nil-from-length (x ∷ xs) h = absurd (omega (arith, h))

module _ (o : Objects) (sound : IsSound o) (latest : VersionedManifest) (is_latest : latest_manifest o ≡ Some latest) where
  abbrev tabled : ℕ
  tabled = latest.manifest.last_l0_seq

  abbrev mark : ℕ
  mark = latest.manifest.replay_after_wal_id

  abbrev tables : List Batch
  tables = table_batches o latest.manifest.tables

  abbrev logs : List Batch
  logs = logged o latest.manifest

  abbrev floor : ℕ
  floor = number_before tables tabled

  has : HasItsObjects o latest
  has = subst (λ x. IfSome x (HasItsObjects o)) is_latest sound.latest

  pub content-is : content o ≡ record { floor = floor; batches = tables ++ logs }
  content-is = ap (content_by o) is_latest

  pub numbered : AreNumberedFrom floor (tables ++ logs)
  numbered = subst (λ (l : Line). AreNumberedFrom l.floor l.batches) content-is sound.line

  pub tables-end : floor + length tables ≡ tabled
  tables-end = has.tables.joined

  logs-numbered : AreNumberedFrom tabled logs
  logs-numbered = subst (λ n. AreNumberedFrom n logs) tables-end (numbered-back floor tables logs numbered)

  low-tabled : floor ≤ tabled
  low-tabled = let e = tables-end in omega (arith, e)

  last-is : last_log mark o ≡ mark + length (logs_above mark o)
  last-is = gapless-greatest mark mark o.logs (omega arith) has.gapless

  abbrev ids : List ℕ
  ids = range_with_len (mark + 1) (last_log mark o + 1 - (mark + 1))

  -- what is stored in the pieces
  abbrev all : (cursor : ℕ) → List (List Batch)
  all cursor =
      map (λ id. unwrap_or (table_piece o id) []) (tables_to_read cursor latest.manifest)
      ++ map (λ id. unwrap_or (log_piece tabled o id) []) ids

  table-stored : (id : TableId) → Contains latest.manifest.tables id → table_piece o id ≢ None
  table-stored id there = let s = All-contains (StoresTable o) latest.manifest.tables id has.tables.stored there in λ none. let n = rw s.2 at none in absurd (cc)

  read-stored : (cursor : ℕ) (id : TableId) → Contains (tables_to_read cursor latest.manifest) id → table_piece o id ≢ None
  read-stored cursor id = elim (nat_lt cursor tabled) as (λ t. Contains (cond t latest.manifest.tables []) id → table_piece o id ≢ None) [
    | true ↦ table-stored id
    | false ↦ λ there. absurd (omega (arith, there.1))
  ]

  log-stored : (id : ℕ) → Contains ids id → log_piece tabled o id ≢ None
  log-stored id there none =
      let r = in-range (mark + 1) (last_log mark o + 1 - (mark + 1)) id there in
      let l = r.0 in let h = r.1 in let e = last-is in
      stored-gapless mark o has.gapless id (omega (arith, l)) (omega (arith, l, h, e)) (absent (log_at id o) none)
    where
      absent : (x : Piece) → option_map (batches_above tabled) x ≡ None → x ≡ None
      absent None h = refl
      absent (Some bs) h = absurd (cc)

  pieces-stored : (cursor : ℕ) → pieces cursor latest.manifest o ≡ map Some (all cursor)
  pieces-stored cursor =
      ap (λ xs. xs ++ log_pieces tabled (mark + 1) (last_log mark o) o) (stored-map (table_piece o) (tables_to_read cursor latest.manifest) (read-stored cursor))
      ∙ (ap (λ xs. map Some (map (λ id. unwrap_or (table_piece o id) []) (tables_to_read cursor latest.manifest)) ++ xs) (stored-map (log_piece tabled o) ids log-stored)
      ∙ sym (map_some-append (map (λ id. unwrap_or (table_piece o id) []) (tables_to_read cursor latest.manifest)) (map (λ id. unwrap_or (log_piece tabled o id) []) ids)))

  -- joined, they are the batches of the line, without those of the tables where the cursor is at or above their end
  abbrev contents : (cursor : ℕ) → List Batch
  contents cursor = cond (nat_lt cursor tabled) tables [] ++ logs

  pub tables-joined : (cursor : ℕ) → joined (map (λ id. unwrap_or (table_piece o id) []) (tables_to_read cursor latest.manifest)) ≡ cond (nat_lt cursor tabled) tables []
  tables-joined cursor =
      elim (nat_lt cursor tabled) as (λ t. joined (map (λ id. unwrap_or (table_piece o id) []) (cond t latest.manifest.tables [])) ≡ cond t tables []) [
        | true ↦ above-joined 0 (λ id. table_at id o) latest.manifest.tables ∙ above-all floor 0 tables (numbered-front floor tables logs numbered) (omega arith)
        | false ↦ refl
      ]

  pub logs-joined : joined (map (λ id. unwrap_or (log_piece tabled o id) []) ids) ≡ logs
  logs-joined =
      let count : last_log mark o + 1 - (mark + 1) ≡ last_log mark o - mark = omega arith in
      above-joined tabled (λ id. log_at id o) ids
      ∙ ap (batches_above tabled) (ap (λ n. flat_map (λ id. unwrap_or (log_at id o) []) (range_with_len (mark + 1) n)) count ∙ between-gapless mark o has.gapless (last_log mark o) last-is)

  all-joined : (cursor : ℕ) → joined (all cursor) ≡ contents cursor
  all-joined cursor =
      joined-append (map (λ id. unwrap_or (table_piece o id) []) (tables_to_read cursor latest.manifest)) (map (λ id. unwrap_or (log_piece tabled o id) []) ids)
      ∙ (ap (λ xs. xs ++ joined (map (λ id. unwrap_or (log_piece tabled o id) []) ids)) (tables-joined cursor) ∙ ap (λ xs. cond (nat_lt cursor tabled) tables [] ++ xs) logs-joined)

  -- ---- what of that is above the cursor
  above-contents : (cursor : ℕ) → batches_above cursor (contents cursor) ≡ batches_above cursor (tables ++ logs)
  above-contents cursor = elim (cases_lt cursor tabled) as (λ _. batches_above cursor (contents cursor) ≡ batches_above cursor (tables ++ logs)) [
    | inl less ↦ ap (λ t. batches_above cursor (cond t tables [] ++ logs)) (lt-ltb cursor tabled less)
    | inr low ↦
        let e = tables-end in
        ap (λ t. batches_above cursor (cond t tables [] ++ logs)) (le-ltb cursor tabled low)
        ∙ (ap (λ xs. xs ++ batches_above cursor logs) (sym (above-none floor cursor tables (numbered-front floor tables logs numbered) (omega (arith, e, low))))
        ∙ sym (filter-append (λ b. ltb cursor b.number) tables logs))
  ]

  pub contents-in : (cursor : ℕ) (b : Batch) → Contains (contents cursor) b → Contains (tables ++ logs) b
  contents-in cursor b = elim (nat_lt cursor tabled) as (λ t. Contains (cond t tables [] ++ logs) b → Contains (tables ++ logs) b) [
    | true ↦ λ there. there
    | false ↦ λ there. Contains-append_right tables logs b there
  ]

  leads : (cursor : ℕ) → floor ≤ cursor → HaveNoGap cursor (cursor + length (batches_above cursor (tables ++ logs))) (contents cursor)
  leads cursor low =
      let above = above-contents cursor in
      subst (λ xs. HaveNoGap cursor (cursor + length xs) (contents cursor)) above
      (no_gap-numbered cursor cursor (contents cursor) (omega arith) (subst (AreNumberedFrom cursor) (sym above) (numbered-above floor cursor (tables ++ logs) numbered low)))

  -- the first batch that is read is that of the line, or comes right after the tables
  first-is : (cursor : ℕ) (b : Batch) (bs : List Batch) → contents cursor ≡ b ∷ bs → (b.number - 1 ≡ floor) ⊎ ((tabled ≤ cursor) × (b.number - 1 ≡ tabled))
  first-is cursor b bs is = elim (cases_lt cursor tabled) as (λ _. (b.number - 1 ≡ floor) ⊎ ((tabled ≤ cursor) × (b.number - 1 ≡ tabled))) [
    | inl less ↦
        let whole : tables ++ logs ≡ b ∷ bs = sym (ap (λ t. cond t tables [] ++ logs) (lt-ltb cursor tabled less)) ∙ is in
        let n = subst (AreNumberedFrom floor) whole numbered in let first = n.0 in inl (omega (arith, first))
    | inr low ↦
        let whole : logs ≡ b ∷ bs = sym (ap (λ t. cond t tables [] ++ logs) (le-ltb cursor tabled low)) ∙ is in
        let n = subst (AreNumberedFrom tabled) whole logs-numbered in let first = n.0 in inr (low, omega (arith, first))
  ]

  module _ (cursor : ℕ) (parts : List (List Batch)) (rest : List Piece) (read : pieces cursor latest.manifest o ≡ map Some parts ++ rest) where
    unread : (others : List (List Batch)) × (all cursor ≡ parts ++ others) × (rest ≡ map Some others)
    unread = others-stored (all cursor) parts rest (sym (pieces-stored cursor) ∙ read)

    covers : contents cursor ≡ joined parts ++ joined unread.0
    covers = sym (all-joined cursor) ∙ (ap joined unread.1 ∙ joined-append parts unread.0)

    whole : rest ≡ [] → contents cursor ≡ joined parts
    whole none = covers ∙ (ap (λ xs. joined parts ++ joined xs) (nothing unread.0 (sym unread.2 ∙ none)) ∙ append-nil (joined parts)) where
      nothing : (xs : List (List Batch)) → map Some xs ≡ [] → xs ≡ []
      nothing [] h = refl
      nothing (x ∷ xs) h = absurd (cc)

    -- a cursor that isn't below the number before the first batch isn't below the floor
    within : number_before (joined parts) tabled ≤ cursor → floor ≤ cursor
    within low = go (joined parts) refl low where
      go : (xs : List Batch) → joined parts ≡ xs → number_before xs tabled ≤ cursor → floor ≤ cursor
      go [] is low = let t = low-tabled in omega (arith, t, low)
      go (b ∷ bs) is low =
          let first = first-is cursor b (bs ++ joined unread.0) (covers ∙ ap (λ xs. xs ++ joined unread.0) is) in
          let t = low-tabled in
          elim first as (λ _. floor ≤ cursor) [ inl at ↦ omega (arith, at, low) | inr at ↦ let l = at.0 in omega (arith, t, l) ]

    -- and one that is, is below the floor
    beneath : cursor < number_before (joined parts) tabled → (joined parts ≡ [] → rest ≡ []) → (cursor < floor) × (number_before (joined parts) tabled ≡ floor)
    beneath less left = go (joined parts) refl less left where
      go : (xs : List Batch) → joined parts ≡ xs → cursor < number_before xs tabled → (xs ≡ [] → rest ≡ []) → (cursor < floor) × (number_before xs tabled ≡ floor)
      go [] is less left =
          let none : contents cursor ≡ [] = whole (left refl) ∙ is in
          let both : tables ++ logs ≡ [] = sym (ap (λ t. cond t tables [] ++ logs) (lt-ltb cursor tabled less)) ∙ none in
          let empty = ap length both ∙ refl in
          let long = length-append tables logs in
          let at : tabled ≡ floor = let e = tables-end in omega (arith, e, empty, long) in
          (subst (λ n. cursor < n) at less, at)
      go (b ∷ bs) is less left =
          let first = first-is cursor b (bs ++ joined unread.0) (covers ∙ ap (λ xs. xs ++ joined unread.0) is) in
          elim first as (λ _. (cursor < floor) × (b.number - 1 ≡ floor)) [
            | inl at ↦ (omega (arith, at, less), at)
            | inr at ↦ let l = at.0 in let e = at.1 in absurd (omega (arith, l, e, less))
          ]

    members : (batches : List Batch) → All (Contains (joined parts)) batches → All (Contains (tables ++ logs)) batches
    members batches from =
        All-weaker (Contains (joined parts)) (Contains (tables ++ logs))
        (λ b there. contents-in cursor b (subst (λ xs. Contains xs b) (sym covers) (Contains-append_left (joined parts) (joined unread.0) b there))) batches from

    -- over sound objects no batch is past the next number, and each piece is stored
    unmoved : (limit : ℕ) → GivesBatches tabled cursor limit (joined parts) rest (Err refusals.Moved) → ⊥
    unmoved limit (first, how) = elim how as (λ _. ⊥) [
      | inl gone ↦ stays unread.0 gone.0 (sym unread.2 ∙ gone.1)
      | inr gap ↦
          let some : joined parts ≢ [] = λ none. nonempty gap.1.front gap.1.batch gap.1.rest (sym gap.1.parts ∙ none) in
          let low = within (first some) in
          let later = gap.1.rest ++ joined unread.0 in
          let split : contents cursor ≡ gap.1.front ++ gap.1.batch ∷ later = covers ∙ (ap (λ xs. xs ++ joined unread.0) gap.1.parts ∙ append_assoc gap.1.front (gap.1.batch ∷ gap.1.rest) (joined unread.0)) in
          let end = cursor + length (batches_above cursor (tables ++ logs)) in
          let p = no_gap-parts cursor end gap.1.front (gap.1.batch ∷ later) (subst (HaveNoGap cursor end) split (leads cursor low)) in
          let same = no_gap-end cursor p.0 gap.0 gap.1.front p.1 gap.1.no_gap in
          let next = p.2.0 in let past = gap.1.past in
          omega (arith, same, next, past)
    ] where
      stays : (others : List (List Batch)) (more : List Piece) → map Some others ≡ None ∷ more → ⊥
      stays [] more h = absurd (cc)
      stays (x ∷ others) more h = absurd (cc)

      nonempty : (xs : List Batch) (b : Batch) (ys : List Batch) → xs ++ b ∷ ys ≡ [] → ⊥
      nonempty [] b ys h = absurd (cc)
      nonempty (x ∷ xs) b ys h = absurd (cc)

    -- what is given is right above the cursor
    given : (limit : ℕ) (batches : List Batch) → GivesBatches tabled cursor limit (joined parts) rest (Ok batches) →
        (0 < limit → floor ≤ cursor) × (batches ≡ take limit (batches_above cursor (tables ++ logs))) × (length batches ≡ min limit (floor + length (tables ++ logs) - cursor))
    given zero batches (numbered', from, first, how) =
        let none : batches ≡ [] = elim how as (λ _. batches ≡ []) [ inl full ↦ nil-from-length batches full | inr few ↦ let l = few.0 in absurd (omega (arith, l)) ] in
        (λ asked. absurd (omega (arith, asked)), none ∙ refl, let l = ap length none in omega (arith, l))
    given (suc limit) batches (numbered', from, first, how) =
        let low = within (first (omega arith)) in
        let begin = begin-above floor cursor (tables ++ logs) batches numbered low numbered' (members batches from) in
        let above = batches_above cursor (tables ++ logs) in
        let count = count-above floor cursor (tables ++ logs) numbered low in
        let long = ap length begin.1 ∙ length-append batches begin.0 in
        elim how as (λ _. (0 < suc limit → floor ≤ cursor) × (batches ≡ take (suc limit) above) × (length batches ≡ min (suc limit) (floor + length (tables ++ logs) - cursor))) [
          | inl full ↦ (λ _. low, sym (ap (take (suc limit)) begin.1 ∙ take-front (suc limit) batches begin.0 full), omega (arith, full, long, count))
          | inr few ↦
              let end : cursor + length batches ≡ cursor + length above = no_gap-end cursor (cursor + length batches) (cursor + length above) (joined parts) few.2 (subst (HaveNoGap cursor (cursor + length above)) (whole few.1) (leads cursor low)) in
              let none : begin.0 ≡ [] = nil-from-length begin.0 (omega (arith, end, long)) in
              let same : above ≡ batches = begin.1 ∙ (ap (λ xs. batches ++ xs) none ∙ append-nil batches) in
              let l = few.0 in
              (λ _. low, sym (take_all (suc limit) above (omega (arith, end, l)) ∙ same), omega (arith, end, count, l))
        ]

    -- where nothing is above the cursor, the greatest number is the end
    ends-at : (last : ℕ) → rest ≡ [] → floor ≤ cursor → HaveNoGap cursor cursor (joined parts) → last ≡ greatest_number tabled (joined parts) → last ≡ floor + length (tables ++ logs)
    ends-at last none low no_gap greatest =
        let read_all = whole none in
        let end = no_gap-end cursor cursor (cursor + length (batches_above cursor (tables ++ logs))) (joined parts) no_gap (subst (HaveNoGap cursor (cursor + length (batches_above cursor (tables ++ logs)))) read_all (leads cursor low)) in
        let count = count-above floor cursor (tables ++ logs) numbered low in
        let e = tables-end in
        let long = length-append tables logs in
        let high : tabled ≤ cursor = omega (arith, end, count, e, long, low) in
        let all_logs : joined parts ≡ logs = sym read_all ∙ ap (λ t. cond t tables [] ++ logs) (le-ltb cursor tabled high) in
        let g = ap (greatest_number tabled) all_logs ∙ greatest-numbered tabled logs logs-numbered in
        omega (arith, greatest, g, e, long)

-- ---- what calls answer over sound objects
pub delivers : (o : Objects) (cursor limit : ℕ) (result : Result (List Batch) FeedRefusal) → IsSound o → Answers o cursor limit result → Delivers o cursor limit result
delivers o cursor limit (Ok batches) sound a =
    let at = content-is o sound a.latest a.is_latest in
    let g = given o sound a.latest a.is_latest cursor a.parts a.rest a.read limit batches a.gives in (
      λ none. let h = sym a.is_latest ∙ none in absurd (cc),
      subst (λ (l : Line). 0 < limit → l.floor ≤ cursor) (sym at) g.0,
      subst (λ (l : Line). batches ≡ take limit (batches_above cursor l.batches)) (sym at) g.1,
      subst (λ (l : Line). length batches ≡ min limit (lines.end l - cursor)) (sym at) g.2,
    )
delivers o cursor limit (Err refusals.LatestTransactionalObjectVersionMissing) sound a = a
delivers o cursor limit (Err (refusals.BeforeFloor at from)) sound a =
    let line = content-is o sound a.latest a.is_latest in
    let g = a.gives in
    let b = beneath o sound a.latest a.is_latest cursor a.parts a.rest a.read (subst (λ n. cursor < n) g.2 g.1) g.3 in
    let floor_is = ap (λ (l : Line). l.floor) line in
    (g.4, g.0, g.1, g.2 ∙ (b.1 ∙ sym floor_is))
delivers o cursor limit (Err (refusals.Ahead at end)) sound a = a.gives
delivers o cursor limit (Err refusals.ObjectStoreError) sound a = tt
delivers o cursor limit (Err refusals.NoMemory) sound a = tt
delivers o cursor limit (Err refusals.Moved) sound a = unmoved o sound a.latest a.is_latest cursor a.parts a.rest a.read limit a.gives

-- the end of the line, where nothing is above the cursor
pub end-is : (o : Objects) (cursor last : ℕ) → IsSound o → (content o).floor ≤ cursor → HasNoneAbove o cursor last → last ≡ lines.end (content o)
end-is o cursor last sound low h =
    let at = content-is o sound h.latest h.is_latest in
    let e = ends-at o sound h.latest h.is_latest cursor h.parts [] (h.read ∙ sym (append-nil (map Some h.parts))) last refl (subst (λ (l : Line). l.floor ≤ cursor) at low) h.none h.greatest in
    subst (λ (l : Line). last ≡ lines.end l) (sym at) e

pub opens : (o : Objects) (after : ℕ) (result : Result ℕ FeedRefusal) → IsSound o → Opens o after result → OpensWithin o after result
opens o after (Ok cursor) sound (is, (batches, a, end)) =
    let d = delivers o after 1 (Ok batches) sound a in
    let low = d.1 (omega arith) in
    (is, d.0, low, go batches refl) where
      go : (bs : List Batch) → batches ≡ bs → after ≤ lines.end (content o)
      go [] none =
          let d = delivers o after 1 (Ok batches) sound a in
          let e = end none in
          let at = end-is o after e.0 sound (d.1 (omega arith)) e.1 in let within = e.2 in omega (arith, at, within)
      go (b ∷ bs) some =
          let d = delivers o after 1 (Ok batches) sound a in
          let count = d.3 in let long = ap length some in omega (arith, count, long)
opens o after (Err (refusals.Ahead at last)) sound (is, less, a, none) =
    let d = delivers o after 1 (Ok []) sound a in
    let end = end-is o after last sound (d.1 (omega arith)) none in
    (is, end, omega (arith, end, less))
opens o after (Err refusals.LatestTransactionalObjectVersionMissing) sound a = a
opens o after (Err (refusals.BeforeFloor at from)) sound a = delivers o after 1 (Err (refusals.BeforeFloor at from)) sound a
opens o after (Err refusals.ObjectStoreError) sound a = tt
opens o after (Err refusals.NoMemory) sound a = tt
opens o after (Err refusals.Moved) sound a = delivers o after 1 (Err refusals.Moved) sound a

-- the same of objects that are modelled
pub delivered-where : (a : Option Objects) (cursor limit : ℕ) (result : Result (List Batch) FeedRefusal) → IfSome a (λ o. Answers o cursor limit result) → IfSome a (λ o. IsSound o → Delivers o cursor limit result)
delivered-where None cursor limit result h = tt
delivered-where (Some o) cursor limit result h = λ sound. delivers o cursor limit result sound h

pub opened-where : (a : Option Objects) (after : ℕ) (result : Result ℕ FeedRefusal) → IfSome a (λ o. Opens o after result) → IfSome a (λ o. IsSound o → OpensWithin o after result)
opened-where None after result h = tt
opened-where (Some o) after result h = λ sound. opens o after result sound h
