-- A begun call reads up to what was stored at its first step.
use Rattle.std.proofs.Common.{◌≡◌, ◌≢◌, ℕ, zero, suc, ◌+◌, ◌-◌, ◌<◌, ◌≤◌, ◌⊎◌, inl, inr, max, true, List, [], ◌∷◌, length, map, cond, Option, Some, None, unwrap_or, Ok, refl, sym, subst, ap, ◌∙◌, arith, nat_lt}
use Rattle.std.proofs.lemmas.Bool.{cases_lt, le-ltb, lt-ltb}
use Rattle.std.proofs.lemmas.List.Elements.{All-contains, All-from_recursion, Contains-append_cases}
use Rattle.std.specs.List.{Contains, range_with_len, slice_get}
use Rattle.std.specs.Option.{IfSome, option_map}
use Rattle.slate_types.proofs.Lines.{numbered-below}
use Rattle.slate_types.specs.declared.batches.Batch.{Batch}
use Rattle.slate_types.specs.Line.{AreNumberedFrom, IsLine, Line, batches_above, end}
use Rattle.slate_store.specs.declared.objects.TableId.{TableId}
use Rattle.slate_store.specs.declared.objects.VersionedManifest.{VersionedManifest}
use Rattle.slate_store.specs.Content.{IsSound, content, logged, number_before, table_batches}
use Rattle.slate_store.specs.Logs.{HaveNoGap}
use Rattle.slate_store.specs.Objects.{Objects, last_log, latest_manifest, log_at, table_at}
use Rattle.slate_store.proofs.Entries.{absent}
use Rattle.slate_feed.specs.declared.machines.FeedStep.TheVariants as steps
use Rattle.slate_feed.specs.declared.machines.Stage.{Stage}
use Rattle.slate_feed.specs.declared.machines.Stage.TheVariants.{ReadLatest, ReadTable, AskLast, ReadLog, Ended}
use Rattle.slate_feed.specs.declared.machines.Turn.TheVariants.{Goes, Ends}
use Rattle.slate_feed.specs.Pieces.{Piece, joined, log_piece, table_piece, tables_to_read}
use Rattle.slate_feed.specs.Reaching.{IsAhead, IsInLogs, IsInTables, OthersLeaveIt, ReachesTo, StepReaches}
use Rattle.slate_feed.specs.Reading.{IsStaged, Reading, going_by, log_stage, reached, table_stage, taken}
use Rattle.slate_feed.specs.Stepping.{LeadsOn, Meets, TakesAll}
use Rattle.slate_feed.proofs.Running.{table_stage-goes}
use Rattle.slate_feed.proofs.Stored.{content-is, logs-joined, numbered, numbered-front, tables-end, tables-joined}

-- ---- batches without a gap
above-from : (from to : ℕ) (bs : List Batch) → HaveNoGap from to bs → from ≤ to
above-from from to [] h = omega (arith, h)
above-from from to (b ∷ bs) h = let rest = above-from (max from b.number) to bs h.1 in omega (arith, rest)

-- none is past the number to which they lead
within-gapless : (from to : ℕ) (bs : List Batch) (b : Batch) → HaveNoGap from to bs → Contains bs b → b.number ≤ to
within-gapless from to [] b h has = absurd (omega (arith, has.1))
within-gapless from to (x ∷ bs) b h (zero, less, is) =
    let rest = above-from (max from x.number) to bs h.1 in
    let same = ap (λ (y : Batch). y.number) is in omega (arith, rest, same)
within-gapless from to (x ∷ bs) b h (suc k, less, is) = within-gapless (max from x.number) to bs b h.1 (k, omega (arith, less), is)

-- ---- where batches are
joined-in : {K : Type 0} (f : K → List Batch) (ids : List K) (b : Batch) → Contains (joined (map f ids)) b → (id : K) × (k : ℕ) × (slice_get ids k ≡ Some id) × Contains (f id) b
joined-in {K} f [] b has = absurd (omega (arith, has.1))
joined-in {K} f (x ∷ ids) b has = elim (Contains-append_cases (f x) (joined (map f ids)) b has) [
  | inl here ↦ (x, zero, refl, here)
  | inr later ↦ let rest = joined-in f ids b later in (rest.0, suc rest.1, rest.2, rest.3)
]

stored-in : (x : Piece) (b : Batch) → Contains (unwrap_or x []) b → (bs : List Batch) × (x ≡ Some bs) × Contains bs b
stored-in None b has = absurd (omega (arith, has.1))
stored-in (Some bs) b has = (bs, refl, has)

place-range : (a n k id : ℕ) → slice_get (range_with_len a n) k ≡ Some id → a ≤ id
place-range a zero k id is = absurd (cc)
place-range a (suc n) zero id is = let same : a ≡ id = cc in omega (arith, same)
place-range a (suc n) (suc k) id is = let rest = place-range (a + 1) n k id is in omega (arith, rest)

-- one more log file, or table, was read
logs-later : (from : ℕ) (o : Objects) (r : Reading) (b : Batch) (l : IsInLogs from o r b) → (l.id ≡ from) ⊎ ((m : IsInLogs (from + 1) o r b) × (m.id ≡ l.id))
logs-later from o r b l = elim (cases_lt from l.id) [
  | inl later ↦ inr (record { id = l.id; above = omega arith; marked = l.marked; batches = l.batches; stored = l.stored; has = l.has }, refl)
  | inr here ↦ inl (let a = l.above in omega (arith, a))
]

logs-same : (from : ℕ) (o : Objects) (r r' : Reading) (b : Batch) → r'.tabled ≡ r.tabled → r'.mark ≡ r.mark → (l : IsInLogs from o r b) → (m : IsInLogs from o r' b) × (m.id ≡ l.id)
logs-same from o r r' b tabled mark l = (record { id = l.id; above = l.above; marked = subst (λ n. n < l.id) (sym mark) l.marked; batches = l.batches; stored = subst (λ n. log_piece n o l.id ≡ Some l.batches) (sym tabled) l.stored; has = l.has }, refl)

tables-same : (at : ℕ) (o : Objects) (r r' : Reading) (b : Batch) → r'.tables ≡ r.tables → IsInTables at o r b → IsInTables at o r' b
tables-same at o r r' b tables t = record { place = t.place; from = t.from; id = t.id; named = subst (λ ids. slice_get ids t.place ≡ Some t.id) (sym tables) t.named; batches = t.batches; stored = t.stored; has = t.has }

log-within : (tabled mark id : ℕ) (o : Objects) (bs : List Batch) → log_piece tabled o id ≡ Some bs → id ≤ last_log mark o
log-within tabled mark id o bs is = elim (cases_lt (last_log mark o) id) [
  | inl past ↦ let gone : log_piece tabled o id ≡ None = ap (option_map (batches_above tabled)) (absent id mark o.logs past) in absurd (cc (gone, is))
  | inr low ↦ low
]

-- ---- a stage that comes after the tables before a place, and after a log file
module _ (o : Objects) (r' : Reading) (b : Batch) where
  past-tables : (at : ℕ) (ids : List TableId) → ids ≡ r'.tables → IsInTables at o r' b ⊎ IsInLogs (r'.mark + 1) o r' b → IsAhead (table_stage ids at) o r' b
  past-tables at ids same h = elim (cases_lt at (length ids)) as (λ _. IsAhead (table_stage ids at) o r' b) [
    | inl less ↦ subst (λ t. IsAhead (cond t (ReadTable at) AskLast) o r' b) (sym (lt-ltb at (length ids) less)) h
    | inr low ↦ subst (λ t. IsAhead (cond t (ReadTable at) AskLast) o r' b) (sym (le-ltb at (length ids) low))
        (elim h as (λ _. IsInLogs (r'.mark + 1) o r' b) [
          | inl t ↦ absurd (past r'.tables t.place t.id t.named (let f = t.from in let l = ap length same in omega (arith, low, f, l)))
          | inr l ↦ l
        ])
  ] where
    past : (xs : List TableId) (k : ℕ) (id : TableId) → slice_get xs k ≡ Some id → length xs ≤ k → ⊥
    past [] k id is low = absurd (cc)
    past (x ∷ xs) zero id is low = omega arith
    past (x ∷ xs) (suc k) id is low = past xs k id is (omega arith)

  past-log : (id last : ℕ) (m : IsInLogs (id + 1) o r' b) → m.id ≤ last → IsAhead (log_stage id last) o r' b
  past-log id last m within =
      let a = m.above in
      subst (λ t. IsAhead (cond t (ReadLog (id + 1) last) Ended) o r' b) (sym (lt-ltb id last (omega (arith, a, within)))) (m, within)

-- ---- a step that reads a piece
module _ (o : Objects) (line : Line) (r r' : Reading) (reaches : ReachesTo line o r) (batches : List Batch) (on : LeadsOn batches (taken r) r') (all : TakesAll batches (taken r) r') where
  tables-is : r'.tables ≡ r.tables
  tables-is = ap (λ (x : Reading). x.tables) on.same

  tabled-is : r'.tabled ≡ r.tabled
  tabled-is = ap (λ (x : Reading). x.tabled) on.same

  mark-is : r'.mark ≡ r.mark
  mark-is = ap (λ (x : Reading). x.mark) on.same

  -- a batch that is still past those found isn't in the piece, and was ahead before
  not-in : (b : Batch) → reached r' < b.number → Contains batches b → ⊥
  not-in b past has = let w = within-gapless (reached r) (reached r') batches b all.no_gap has in omega (arith, w, past)

  was-ahead : (b : Batch) → Contains line.batches b → reached r' < b.number → IsAhead r.stage o r b
  was-ahead b has past = reaches b has (let a = above-from (reached r) (reached r') batches all.no_gap in omega (arith, a, past))

  logs-on : (from : ℕ) (b : Batch) → IsInLogs from o r b → IsInLogs from o r' b
  logs-on from b l = (logs-same from o r r' b tabled-is mark-is l).0

  -- the next stage, where this one read a table, asked for the last log file, or read a log file
  after-table : (at : ℕ) (id : TableId) → slice_get r.tables at ≡ Some id → table_piece o id ≡ Some batches → r.stage ≡ ReadTable at → (b : Batch) → Contains line.batches b → reached r' < b.number →
      IsAhead (table_stage r.tables (at + 1)) o r' b
  after-table at id named stored is b has past =
      elim (subst (λ s. IsAhead s o r b) is (was-ahead b has past)) as (λ _. IsAhead (table_stage r.tables (at + 1)) o r' b) [
        | inl t ↦ elim (cases_lt at t.place) as (λ _. IsAhead (table_stage r.tables (at + 1)) o r' b) [
          | inl later ↦ past-tables o r' b (at + 1) r.tables (sym tables-is) (inl (tables-same (at + 1) o r r' b tables-is
              (record { place = t.place; from = omega arith; id = t.id; named = t.named; batches = t.batches; stored = t.stored; has = t.has })))
          | inr here ↦
              let f = t.from in
              let same : t.place ≡ at = omega (arith, here, f) in
              let id_is : t.id ≡ id = some-same (sym t.named ∙ (ap (slice_get r.tables) same ∙ named)) in
              let bs_is : t.batches ≡ batches = piece-same (sym t.stored ∙ (ap (table_piece o) id_is ∙ stored)) in
              absurd (not-in b past (subst (λ xs. Contains xs b) bs_is t.has))
        ]
        | inr l ↦ past-tables o r' b (at + 1) r.tables (sym tables-is) (inr (subst (λ n. IsInLogs (n + 1) o r' b) (sym mark-is) (logs-on (r.mark + 1) b l)))
      ]
    where
      some-same : {x y : TableId} → ◌≡◌ {A = Option TableId} (Some x) (Some y) → x ≡ y
      some-same h = cc

      piece-same : {x y : List Batch} → ◌≡◌ {A = Piece} (Some x) (Some y) → x ≡ y
      piece-same h = cc

  after-last : r.stage ≡ AskLast → (b : Batch) → Contains line.batches b → reached r' < b.number → IsAhead (log_stage r.mark (last_log r.mark o)) o r' b
  after-last is b has past =
      let l = subst (λ s. IsAhead s o r b) is (was-ahead b has past) in
      let m = logs-same (r.mark + 1) o r r' b tabled-is mark-is l in
      past-log o r' b r.mark (last_log r.mark o) m.0 (subst (λ n. n ≤ last_log r.mark o) (sym m.1) (log-within r.tabled r.mark l.id o l.batches l.stored))

  after-log : (id last : ℕ) → log_piece r.tabled o id ≡ Some batches → r.stage ≡ ReadLog id last → (b : Batch) → Contains line.batches b → reached r' < b.number → IsAhead (log_stage id last) o r' b
  after-log id last stored is b has past =
      let l = subst (λ s. IsAhead s o r b) is (was-ahead b has past) in
      elim (logs-later id o r b l.0) as (λ _. IsAhead (log_stage id last) o r' b) [
        | inl here ↦
            let bs_is : l.0.batches ≡ batches = piece-same (sym l.0.stored ∙ (ap (log_piece r.tabled o) here ∙ stored)) in
            absurd (not-in b past (subst (λ xs. Contains xs b) bs_is l.0.has))
        | inr later ↦
            let m = logs-same (id + 1) o r r' b tabled-is mark-is later.0 in
            past-log o r' b id last m.0 (subst (λ n. n ≤ last) (sym (m.1 ∙ later.1)) l.1)
      ]
    where
      piece-same : {x y : List Batch} → ◌≡◌ {A = Piece} (Some x) (Some y) → x ≡ y
      piece-same h = cc

-- ---- the end of the line, where nothing of it is past those found
last-of : (floor : ℕ) (bs : List Batch) → AreNumberedFrom floor bs → 0 < length bs → (b : Batch) × Contains bs b × (b.number ≡ floor + length bs)
last-of floor [] h some = absurd (omega arith)
last-of floor (b ∷ []) h some = let first = h.0 in (b, (zero, omega arith, refl), omega (arith, first))
last-of floor (x ∷ y ∷ bs) h some =
    let rest = last-of (floor + 1) (y ∷ bs) h.1 (omega arith) in
    let there = rest.1 in let at = rest.2 in
    (rest.0, (suc there.0, omega (arith, there.1), there.2), omega (arith, at))

reached-end : (line : Line) (n : ℕ) → IsLine line → line.floor ≤ n → ((b : Batch) → Contains line.batches b → n < b.number → ⊥) → end line ≤ n
reached-end line n is low none = elim (cases_lt n (end line)) [
  | inl past ↦ let last = last-of line.floor line.batches is (omega (arith, past, low)) in let at = last.2 in absurd (none last.0 last.1 (omega (arith, at, past)))
  | inr within ↦ within
]

-- ---- a step, by its stage
module _ (o : Objects) (line : Line) (r : Reading) (reaches : ReachesTo line o r) where
  some-is : {x y : List Batch} → ◌≡◌ {A = Piece} (Some x) (Some y) → x ≡ y
  some-is h = cc

  goes-reach : (s : Stage) (r' : Reading) → r.stage ≡ s → s ≢ ReadLatest → Meets s o (taken r) (Ok Goes) r' → ReachesTo line o r'
  goes-reach ReadLatest r' is later m = absurd (later refl)
  goes-reach (ReadTable at) r' is later (id, named, (batches, stored, on, all, staged, going, few)) =
      λ b has past. subst (λ s. IsAhead s o r' b) (sym staged) (after-table o line r r' reaches batches on all at id named stored is b has past)
  goes-reach AskLast r' is later (batches, stored, on, all, staged, going, few) =
      λ b has past. subst (λ s. IsAhead s o r' b) (sym staged) (after-last o line r r' reaches batches on all is b has past)
  goes-reach (ReadLog id last) r' is later (batches, stored, on, all, staged, going, few) =
      λ b has past. subst (λ s. IsAhead s o r' b) (sym staged) (after-log o line r r' reaches batches on all id last stored is b has past)
  goes-reach Ended r' is later m = absurd m

  ends-reach : (s : Stage) (r' : Reading) → r.stage ≡ s → s ≢ ReadLatest → IsLine line → line.floor ≤ r.cursor → Meets s o (taken r) (Ok Ends) r' →
      (length r'.found ≡ r.limit) ⊎ (end line ≤ r.cursor + length r'.found)
  ends-reach ReadLatest r' is later is_line low m = absurd (later refl)
  ends-reach (ReadTable at) r' is later is_line low (id, named, (batches, stored, on, how)) = elim how as (λ _. (length r'.found ≡ r.limit) ⊎ (end line ≤ r.cursor + length r'.found)) [
    | inl full ↦ inl full
    | inr all ↦ absurd (table_stage-goes r.tables (at + 1) all.1)
  ]
  ends-reach AskLast r' is later is_line low (batches, stored, on, how) = elim how as (λ _. (length r'.found ≡ r.limit) ⊎ (end line ≤ r.cursor + length r'.found)) [
    | inl full ↦ inl full
    | inr all ↦ inr (done r' on (λ b has past. subst (λ s. IsAhead s o r' b) all.1 (after-last o line r r' reaches batches on all.0 is b has past)) is_line low)
  ] where
    done : {bs : List Batch} (r' : Reading) → LeadsOn bs (taken r) r' → ((b : Batch) → Contains line.batches b → reached r' < b.number → ⊥) → IsLine line → line.floor ≤ r.cursor → end line ≤ r.cursor + length r'.found
    done r' on none is_line low =
        let at = ap (λ (x : Reading). x.cursor) on.same in
        let e = reached-end line (reached r') is_line (omega (arith, at, low)) none in omega (arith, at, e)
  ends-reach (ReadLog id last) r' is later is_line low (batches, stored, on, how) = elim how as (λ _. (length r'.found ≡ r.limit) ⊎ (end line ≤ r.cursor + length r'.found)) [
    | inl full ↦ inl full
    | inr all ↦ inr (done r' on (λ b has past. subst (λ s. IsAhead s o r' b) all.1 (after-log o line r r' reaches batches on all.0 id last stored is b has past)) is_line low)
  ] where
    done : {bs : List Batch} (r' : Reading) → LeadsOn bs (taken r) r' → ((b : Batch) → Contains line.batches b → reached r' < b.number → ⊥) → IsLine line → line.floor ≤ r.cursor → end line ≤ r.cursor + length r'.found
    done r' on none is_line low =
        let at = ap (λ (x : Reading). x.cursor) on.same in
        let e = reached-end line (reached r') is_line (omega (arith, at, low)) none in omega (arith, at, e)
  ends-reach Ended r' is later is_line low m = absurd m

  -- a call that hasn't read the manifest reaches to no batch
  nothing-yet : r.stage ≡ ReadLatest → IsLine line → line.floor ≤ r.cursor → r.found ≡ [] → end line ≤ r.cursor
  nothing-yet is is_line low none =
      let l = ap length none in
      let e = reached-end line (reached r) is_line (omega (arith, low)) (λ b has past. subst (λ s. IsAhead s o r b) is (reaches b has past)) in omega (arith, e, l)

-- ---- the first step
module _ (o : Objects) (sound : IsSound o) (latest : VersionedManifest) (is_latest : latest_manifest o ≡ Some latest) (r : Reading) where
  abbrev going : Reading
  going = let by = going_by latest.manifest (taken r) in record by { stage = table_stage by.tables 0 }

  first-table : (b : Batch) → r.cursor < b.number → Contains (table_batches o latest.manifest.tables) b → IsInTables 0 o going b
  first-table b past has =
      let n = numbered o sound latest is_latest in
      let e = tables-end o sound latest is_latest in
      let below = All-contains (λ (x : Batch). x.number < latest.manifest.last_l0_seq + 1) (table_batches o latest.manifest.tables) b
      (All-from_recursion (λ (x : Batch). x.number < latest.manifest.last_l0_seq + 1) (table_batches o latest.manifest.tables)
      (numbered-below (number_before (table_batches o latest.manifest.tables) latest.manifest.last_l0_seq) (latest.manifest.last_l0_seq + 1) (table_batches o latest.manifest.tables)
      (numbered-front (number_before (table_batches o latest.manifest.tables) latest.manifest.last_l0_seq) (table_batches o latest.manifest.tables) (logged o latest.manifest) n) (omega (arith, e)))) has in
      let yes : nat_lt r.cursor latest.manifest.last_l0_seq ≡ true = lt-ltb r.cursor latest.manifest.last_l0_seq (omega (arith, below, past)) in
      let all : table_batches o latest.manifest.tables ≡ joined (map (λ id. unwrap_or (table_piece o id) []) (tables_to_read r.cursor latest.manifest)) =
      sym (tables-joined o sound latest is_latest r.cursor ∙ ap (λ t. cond t (table_batches o latest.manifest.tables) []) yes) in
      let at = joined-in (λ id. unwrap_or (table_piece o id) []) (tables_to_read r.cursor latest.manifest) b (subst (λ xs. Contains xs b) all has) in
      let in_piece = stored-in (table_piece o at.0) b at.3 in
      record { place = at.1; from = omega arith; id = at.0; named = at.2; batches = in_piece.0; stored = in_piece.1; has = in_piece.2 }

  first-log : (b : Batch) → Contains (logged o latest.manifest) b → IsInLogs (latest.manifest.replay_after_wal_id + 1) o going b
  first-log b has =
      let mark = latest.manifest.replay_after_wal_id in
      let ids = range_with_len (mark + 1) (last_log mark o + 1 - (mark + 1)) in
      let at = joined-in (λ id. unwrap_or (log_piece latest.manifest.last_l0_seq o id) []) ids b (subst (λ xs. Contains xs b) (sym (logs-joined o sound latest is_latest)) has) in
      let in_piece = stored-in (log_piece latest.manifest.last_l0_seq o at.0) b at.3 in
      let above = place-range (mark + 1) (last_log mark o + 1 - (mark + 1)) at.1 at.0 at.2 in
      record { id = at.0; above = above; marked = omega (arith, above); batches = in_piece.0; stored = in_piece.1; has = in_piece.2 }

  pub first-reach : r.found ≡ [] → ReachesTo (content o) o going
  first-reach none b has past =
      let l = ap length none in
      let parts = subst (λ (x : Line). Contains x.batches b) (content-is o sound latest is_latest) has in
      past-tables o going b 0 going.tables refl (elim (Contains-append_cases (table_batches o latest.manifest.tables) (logged o latest.manifest) b parts) as (λ _. IsInTables 0 o going b ⊎ IsInLogs (going.mark + 1) o going b) [
        | inl t ↦ inl (first-table b (omega (arith, past, l)) t)
        | inr l ↦ inr (first-log b l)
      ])

-- ---- what others leave
piece-stays : (n : ℕ) (before after : Option (List Batch)) → ((bs : List Batch) → before ≡ Some bs → after ≡ Some bs) → (bs : List Batch) → option_map (batches_above n) before ≡ Some bs → option_map (batches_above n) after ≡ Some bs
piece-stays n None after stays bs is = absurd (cc)
piece-stays n (Some raw) after stays bs is = ap (option_map (batches_above n)) (stays raw refl) ∙ is

place-in : (ids : List TableId) (k : ℕ) (id : TableId) → slice_get ids k ≡ Some id → Contains ids id
place-in [] k id is = absurd (cc)
place-in (x ∷ ids) zero id is = let same : x ≡ id = cc in (zero, omega arith, same)
place-in (x ∷ ids) (suc k) id is = let rest = place-in ids k id is in (suc rest.0, omega (arith, rest.1), rest.2)

pub others-leave : OthersLeaveIt
others-leave o o' line r tables logs reaches b has past = go r.stage (reaches b has past) where
  in-tables : (at : ℕ) → IsInTables at o r b → IsInTables at o' r b
  in-tables at t = record {
    place = t.place;
    from = t.from;
    id = t.id;
    named = t.named;
    batches = t.batches;
    stored = piece-stays 0 (table_at t.id o) (table_at t.id o') (λ bs is. tables t.id bs (place-in r.tables t.place t.id t.named) is) t.batches t.stored;
    has = t.has;
  }

  in-logs : (from : ℕ) → (l : IsInLogs from o r b) → (m : IsInLogs from o' r b) × (m.id ≡ l.id)
  in-logs from l = (
    record {
      id = l.id;
      above = l.above;
      marked = l.marked;
      batches = l.batches;
      stored = piece-stays r.tabled (log_at l.id o) (log_at l.id o') (λ bs is. logs l.id bs l.marked is) l.batches l.stored;
      has = l.has;
    },
    refl,
  )

  go : (s : Stage) → IsAhead s o r b → IsAhead s o' r b
  go ReadLatest h = h
  go (ReadTable at) h = elim h as (λ _. IsInTables at o' r b ⊎ IsInLogs (r.mark + 1) o' r b) [ inl t ↦ inl (in-tables at t) | inr l ↦ inr (in-logs (r.mark + 1) l).0 ]
  go AskLast h = (in-logs (r.mark + 1) h).0
  go (ReadLog from last) h = let m = in-logs from h.0 in (m.0, subst (λ n. n ≤ last) (sym m.1) h.1)
  go Ended h = h

-- ---- steps over objects that are modelled
pub goes-reaches : (a : Option Objects) (r r' : Reading) → IsStaged r.stage r → IfSome a (λ o. Meets r.stage o (taken r) (Ok Goes) r') → IfSome a (λ o. StepReaches o r (Ok steps.More) r')
goes-reaches None r r' staged h = tt
goes-reaches (Some o) r r' staged h =
    record {
      first = λ is sound _. start is sound;
      later = λ line is_line low reaches. go line reaches r.stage refl;
    }
  where
    start : r.stage ≡ ReadLatest → IsSound o → ReachesTo (content o) o r'
    start is sound =
        let m = subst (λ s. Meets s o (taken r) (Ok Goes) r') is h in
        let none = subst (λ s. IsStaged s r) is staged in
        subst (ReachesTo (content o) o) (sym m.3) (first-reach o sound m.0 m.1 r none.0)

    go : (line : Line) → ReachesTo line o r → (s : Stage) → r.stage ≡ s → ReachesTo line o r'
    go line reaches ReadLatest is =
        let m = subst (λ s. Meets s o (taken r) (Ok Goes) r') is h in
        let same = ap (λ (x : Reading). x.found) m.3 in
        let at = ap (λ (x : Reading). x.cursor) m.3 in
        λ b has past. absurd (subst (λ s. IsAhead s o r b) is (reaches b has (let l = ap length same in omega (arith, l, at, past))))
    go line reaches (ReadTable at) is = goes-reach o line r reaches r.stage r' refl (λ e. let x = sym is ∙ e in absurd (cc)) h
    go line reaches AskLast is = goes-reach o line r reaches r.stage r' refl (λ e. let x = sym is ∙ e in absurd (cc)) h
    go line reaches (ReadLog id last) is = goes-reach o line r reaches r.stage r' refl (λ e. let x = sym is ∙ e in absurd (cc)) h
    go line reaches Ended is = goes-reach o line r reaches r.stage r' refl (λ e. let x = sym is ∙ e in absurd (cc)) h

pub ends-reaches : (a : Option Objects) (r last r' : Reading) (batches : List Batch) → IsStaged r.stage r → batches ≡ last.found → IfSome a (λ o. Meets r.stage o (taken r) (Ok Ends) last) → IfSome a (λ o. StepReaches o r (Ok (steps.Batches batches)) r')
ends-reaches None r last r' batches staged same h = tt
ends-reaches (Some o) r last r' batches staged same h =
    record {
      first = λ is sound other. absurd (cc other);
      later = λ line is_line low reaches. subst (λ xs. (length xs ≡ r.limit) ⊎ (end line ≤ r.cursor + length xs)) (sym same) (go line is_line low reaches r.stage refl);
    }
  where
    go : (line : Line) → IsLine line → line.floor ≤ r.cursor → ReachesTo line o r → (s : Stage) → r.stage ≡ s → (length last.found ≡ r.limit) ⊎ (end line ≤ r.cursor + length last.found)
    go line is_line low reaches ReadLatest is =
        let m = subst (λ s. Meets s o (taken r) (Ok Ends) last) is h in
        let none = subst (λ s. IsStaged s r) is staged in
        let l = ap length (m.2 ∙ none.0) in let e = nothing-yet o line r reaches is is_line low none.0 in inr (omega (arith, e, l))
    go line is_line low reaches (ReadTable at) is = ends-reach o line r reaches r.stage last refl (λ e. let x = sym is ∙ e in absurd (cc)) is_line low h
    go line is_line low reaches AskLast is = ends-reach o line r reaches r.stage last refl (λ e. let x = sym is ∙ e in absurd (cc)) is_line low h
    go line is_line low reaches (ReadLog id k) is = ends-reach o line r reaches r.stage last refl (λ e. let x = sym is ∙ e in absurd (cc)) is_line low h
    go line is_line low reaches Ended is = ends-reach o line r reaches r.stage last refl (λ e. let x = sym is ∙ e in absurd (cc)) is_line low h
