-- A begun call follows the line that is stored, step by step, and whatever others do between two steps.
use Rattle.std.proofs.Common.{◌≡◌, ℕ, zero, suc, ◌+◌, ◌-◌, ◌<◌, ◌≤◌, ◌⊎◌, inl, inr, List, [], ◌∷◌, ◌++◌, map, cond, Option, Some, None, unwrap_or, Ok, refl, sym, subst, ap, arith, nat_lt}
use Rattle.std.proofs.lemmas.Bool.{cases_lt}
use Rattle.std.proofs.lemmas.List.Elements.{All-append, All-contains, All-contains_itself, All-filter, All-head, All-nil, All-weaker, Contains-append_left, Contains-append_right}
use Rattle.std.specs.List.{Contains, range_with_len, slice_get}
use Rattle.std.specs.Option.{IfSome, option_map}
use Rattle.slate_types.specs.declared.batches.Batch.{Batch}
use Rattle.slate_types.specs.Line.{AreNumberedFrom, IsLine, IsPrefix, Line, batches_above}
use Rattle.slate_store.specs.declared.objects.TableId.{TableId}
use Rattle.slate_store.specs.declared.objects.VersionedManifest.{VersionedManifest}
use Rattle.slate_store.specs.Content.{IsSound, content, logged, table_batches}
use Rattle.slate_store.specs.Logs.{StandsIn}
use Rattle.slate_store.proofs.Logs.{numbered-stand}
use Rattle.slate_store.specs.Objects.{Objects, last_log, latest_manifest, log_at, table_at}
use Rattle.slate_store.proofs.Entries.{absent}
use Rattle.slate_feed.specs.declared.machines.Stage.{Stage}
use Rattle.slate_feed.specs.declared.machines.Stage.TheVariants.{ReadLatest, ReadTable, AskLast, ReadLog, Ended}
use Rattle.slate_feed.specs.declared.machines.Turn.TheVariants.{Goes, Ends}
use Rattle.slate_feed.specs.Delivered.{BeginsAbove}
use Rattle.slate_feed.specs.Following.{AreOf, BegunCallsFollow, FollowsLine, GoesOnBy, OthersKeepIt, ReadsOf}
use Rattle.slate_feed.specs.Pieces.{Piece, joined, log_piece, table_piece, tables_to_read}
use Rattle.slate_feed.specs.Reading.{IsStaged, Reading, log_stage, table_stage, taken}
use Rattle.slate_feed.specs.Stepping.{LeadsOn, Meets, ReadsPiece}
use Rattle.slate_feed.proofs.Stored.{begin-above, contents-in, content-is, logs-joined, tables-joined}

-- ---- what sound objects have under a manifest
joined-has : {K : Type 0} (f : K → List Batch) (ids : List K) (id : K) (b : Batch) → Contains ids id → Contains (f id) b → Contains (joined (map f ids)) b
joined-has {K} f [] id b there has = absurd (omega (arith, there.1))
joined-has {K} f (x ∷ ids) id b (zero, less, is) has = Contains-append_left (f x) (joined (map f ids)) b (subst (λ k. Contains (f k) b) (sym is) has)
joined-has {K} f (x ∷ ids) id b (suc k, less, is) has = Contains-append_right (f x) (joined (map f ids)) b (joined-has f ids id b (k, omega (arith, less), is) has)

range-has : (a n id : ℕ) → a ≤ id → id < a + n → Contains (range_with_len a n) id
range-has a zero id low high = absurd (omega arith)
range-has a (suc n) id low high = elim (cases_lt a id) [
  | inl later ↦ let rest = range-has (a + 1) n id (omega arith) (omega arith) in (suc rest.0, omega (arith, rest.1), rest.2)
  | inr here ↦ let same : a ≡ id = omega arith in (zero, omega arith, same)
]

contains-at : {K : Type 0} (xs : List K) (k : ℕ) (x : K) → slice_get xs k ≡ Some x → Contains xs x
contains-at {K} [] k x is = absurd (cc)
contains-at {K} (y ∷ xs) zero x is = let same : y ≡ x = cc in (zero, omega arith, same)
contains-at {K} (y ∷ xs) (suc k) x is = let rest = contains-at xs k x is in (suc rest.0, omega (arith, rest.1), rest.2)

-- batches all of which are of a line
are-of : (bs : List Batch) (line : Line) → ((b : Batch) → Contains bs b → Contains line.batches b) → AreOf bs line
are-of bs line h = All-weaker (Contains bs) (Contains line.batches) h bs (All-contains_itself bs)

module _ (o : Objects) (sound : IsSound o) (latest : VersionedManifest) (is_latest : latest_manifest o ≡ Some latest) where
  abbrev mark : ℕ
  mark = latest.manifest.replay_after_wal_id

  table-of : (cursor : ℕ) (id : TableId) (bs : List Batch) → Contains (tables_to_read cursor latest.manifest) id → table_piece o id ≡ Some bs → AreOf bs (content o)
  table-of cursor id bs there is =
      are-of bs (content o)
      (λ b has. subst (λ (l : Line). Contains l.batches b) (sym (content-is o sound latest is_latest))
      (contents-in o sound latest is_latest cursor b
      (Contains-append_left (cond (nat_lt cursor latest.manifest.last_l0_seq) (table_batches o latest.manifest.tables) []) (logged o latest.manifest) b
      (subst (λ xs. Contains xs b) (tables-joined o sound latest is_latest cursor)
      (joined-has (λ id. unwrap_or (table_piece o id) []) (tables_to_read cursor latest.manifest) id b there (subst (λ (x : Piece). Contains (unwrap_or x []) b) (sym is) has))))))

  log-of : (id : ℕ) (bs : List Batch) → latest.manifest.replay_after_wal_id < id → log_piece latest.manifest.last_l0_seq o id ≡ Some bs → AreOf bs (content o)
  log-of id bs above is =
      are-of bs (content o)
      (λ b has. subst (λ (l : Line). Contains l.batches b) (sym (content-is o sound latest is_latest))
      (Contains-append_right (table_batches o latest.manifest.tables) (logged o latest.manifest) b
      (subst (λ xs. Contains xs b) (logs-joined o sound latest is_latest)
      (joined-has (λ id. unwrap_or (log_piece latest.manifest.last_l0_seq o id) []) (range_with_len (mark + 1) (last_log mark o + 1 - (mark + 1))) id b
      (range-has (mark + 1) (last_log mark o + 1 - (mark + 1)) id (omega arith) (let w = within in omega (arith, w, above)))
      (subst (λ (x : Piece). Contains (unwrap_or x []) b) (sym is) has)))))
    where
      within : id ≤ last_log mark o
      within = elim (cases_lt (last_log mark o) id) [
        | inl past ↦ let none = absent id mark o.logs past in
            let gone : log_piece latest.manifest.last_l0_seq o id ≡ None = ap (option_map (batches_above latest.manifest.last_l0_seq)) none in absurd (cc (gone, is))
        | inr low ↦ low
      ]

  pub reads-of : (r : Reading) (cursor : ℕ) → r.tables ≡ tables_to_read cursor latest.manifest → r.tabled ≡ latest.manifest.last_l0_seq → r.mark ≡ latest.manifest.replay_after_wal_id → ReadsOf r (content o) o
  reads-of r cursor tables tabled mark =
      record {
        tables = λ id bs there is. table-of cursor id bs (subst (λ ids. Contains ids id) tables there) is;
        logs = λ id bs above is. log-of id bs (subst (λ n. n < id) mark above) (subst (λ n. log_piece n o id ≡ Some bs) tabled is);
      }

-- ---- what stays from step to step
any-stage : (s : Stage) (r : Reading) (line : Line) (o : Objects) → ReadsOf r line o → GoesOnBy s r line o
any-stage ReadLatest r line o h = tt
any-stage (ReadTable at) r line o h = h
any-stage AskLast r line o h = h
any-stage (ReadLog id last) r line o h = h
any-stage Ended r line o h = tt

reads-same : (r r' : Reading) (line : Line) (o : Objects) → r'.tables ≡ r.tables → r'.tabled ≡ r.tabled → r'.mark ≡ r.mark → ReadsOf r line o → ReadsOf r' line o
reads-same r r' line o tables tabled mark h =
    record {
      tables = λ id bs there is. h.tables id bs (subst (λ ids. Contains ids id) tables there) is;
      logs = λ id bs above is. h.logs id bs (subst (λ n. n < id) mark above) (subst (λ n. log_piece n o id ≡ Some bs) tabled is);
    }

-- batches of a line that are numbered from the cursor on are right above it
pub begins-of : (line : Line) (cursor : ℕ) (found : List Batch) → IsLine line → AreNumberedFrom cursor found → AreOf found line → BeginsAbove cursor line found
begins-of line cursor [] is numbered are = record { numbered = tt; rest = batches_above cursor line.batches; begins = refl }
begins-of line cursor (b ∷ found) is numbered are =
    let s = All-contains (λ x. StandsIn x line) line.batches b (numbered-stand line.floor line.batches is) (All-head (Contains line.batches) b found are) in
    let low : line.floor ≤ cursor = let at = s.2 in let first = numbered.0 in omega (arith, at, first) in
    let begin = begin-above line.floor cursor line.batches (b ∷ found) is low numbered are in
    record { numbered = numbered; rest = begin.0; begins = begin.1 }

module _ (o : Objects) (line : Line) (r : Reading) (f : FollowsLine o line r) where
  -- a piece that is of the line was read
  found-on : (batches : List Batch) (r' : Reading) → LeadsOn batches (taken r) r' → AreOf batches line → AreOf r'.found line
  found-on batches r' on are =
      subst (λ xs. AreOf xs line) (sym on.grows)
      (All-append (Contains line.batches) r.found on.added f.found
      (All-weaker (Contains batches) (Contains line.batches) (λ b has. All-contains (Contains line.batches) batches b are has) on.added on.from))

  follows-piece : (piece : Piece) (next : Stage) (r' : Reading) → ReadsOf r line o → ((batches : List Batch) → piece ≡ Some batches → AreOf batches line) →
      ReadsPiece piece next (taken r) (Ok Goes) r' → FollowsLine o line r'
  follows-piece piece next r' reads are (batches, is, on, all, staged, going, few) =
      record {
        found = found-on batches r' on (are batches is);
        next = any-stage r'.stage r' line o (reads-same r r' line o (ap (λ (x : Reading). x.tables) on.same) (ap (λ (x : Reading). x.tabled) on.same) (ap (λ (x : Reading). x.mark) on.same) reads);
      }

  ends-piece : (piece : Piece) (next : Stage) (r' : Reading) → ((batches : List Batch) → piece ≡ Some batches → AreOf batches line) →
      ReadsPiece piece next (taken r) (Ok Ends) r' → AreOf r'.found line
  ends-piece piece next r' are (batches, is, on, m) = found-on batches r' on (are batches is)

  none-read : (batches : List Batch) → ◌≡◌ {A = Piece} (Some []) (Some batches) → AreOf batches line
  none-read batches is = let none : [] ≡ batches = cc in subst (λ xs. AreOf xs line) none (All-nil (Contains line.batches))

  reads-at : (s : Stage) → r.stage ≡ s → GoesOnBy s r line o
  reads-at s is = subst (λ s. GoesOnBy s r line o) is f.next

-- what a step leaves, by the stage that it is made in
module _ (o : Objects) (sound : IsSound o) (r : Reading) (f : FollowsLine o (content o) r) where
  goes-along : (s : Stage) (r' : Reading) → r.stage ≡ s → IsStaged s r → Meets s o (taken r) (Ok Goes) r' → FollowsLine o (content o) r'
  goes-along ReadLatest r' is staged (latest, is_latest, asked, same) =
      record {
        found = subst (λ xs. AreOf xs (content o)) (sym (ap (λ (x : Reading). x.found) same)) f.found;
        next = any-stage r'.stage r' (content o) o
            (reads-of o sound latest is_latest r' r.cursor (ap (λ (x : Reading). x.tables) same) (ap (λ (x : Reading). x.tabled) same) (ap (λ (x : Reading). x.mark) same));
      }
  goes-along (ReadTable at) r' is staged (id, found, m) =
      let reads = reads-at o (content o) r f (ReadTable at) is in
      follows-piece o (content o) r f (table_piece o id) (table_stage r.tables (at + 1)) r' reads (λ batches stored. reads.tables id batches (contains-at r.tables at id found) stored) m
  goes-along AskLast r' is staged m =
      follows-piece o (content o) r f (Some []) (log_stage r.mark (last_log r.mark o)) r' (reads-at o (content o) r f AskLast is) (none-read o (content o) r f) m
  goes-along (ReadLog id last) r' is staged m =
      let reads = reads-at o (content o) r f (ReadLog id last) is in
      follows-piece o (content o) r f (log_piece r.tabled o id) (log_stage id last) r' reads (λ batches stored. reads.logs id batches staged.1 stored) m
  goes-along Ended r' is staged m = absurd m

  ends-along : (s : Stage) (r' : Reading) → r.stage ≡ s → IsStaged s r → Meets s o (taken r) (Ok Ends) r' → AreOf r'.found (content o)
  ends-along ReadLatest r' is staged (some, none, same) = subst (λ xs. AreOf xs (content o)) (sym same) f.found
  ends-along (ReadTable at) r' is staged (id, found, m) =
      let reads = reads-at o (content o) r f (ReadTable at) is in
      ends-piece o (content o) r f (table_piece o id) (table_stage r.tables (at + 1)) r' (λ batches stored. reads.tables id batches (contains-at r.tables at id found) stored) m
  ends-along AskLast r' is staged m = ends-piece o (content o) r f (Some []) (log_stage r.mark (last_log r.mark o)) r' (none-read o (content o) r f) m
  ends-along (ReadLog id last) r' is staged m =
      let reads = reads-at o (content o) r f (ReadLog id last) is in
      ends-piece o (content o) r f (log_piece r.tabled o id) (log_stage id last) r' (λ batches stored. reads.logs id batches staged.1 stored) m
  ends-along Ended r' is staged m = absurd m

-- the same of a step that goes on, and of one that delivers
pub goes-where : (a : Option Objects) (r r' : Reading) → IsStaged r.stage r → IfSome a (λ o. Meets r.stage o (taken r) (Ok Goes) r') → IfSome a (λ o. IsSound o → FollowsLine o (content o) r → FollowsLine o (content o) r')
goes-where None r r' staged h = tt
goes-where (Some o) r r' staged h = λ sound f. goes-along o sound r f r.stage r' refl staged h

pub ends-where : (a : Option Objects) (r r' : Reading) (batches : List Batch) → IsStaged r.stage r → AreNumberedFrom r.cursor batches → batches ≡ r'.found →
    IfSome a (λ o. Meets r.stage o (taken r) (Ok Ends) r') → IfSome a (λ o. IsSound o → FollowsLine o (content o) r → BeginsAbove r.cursor (content o) batches)
ends-where None r r' batches staged numbered is h = tt
ends-where (Some o) r r' batches staged numbered is h =
    λ sound f. begins-of (content o) r.cursor batches sound.line numbered (subst (λ xs. AreOf xs (content o)) (sym is) (ends-along o sound r f r.stage r' refl staged h))

-- ---- the laws
pub begun-follow : BegunCallsFollow
begun-follow o line cursor limit = record { found = All-nil (Contains line.batches); next = tt }

longer-of : (line line' : Line) (bs : List Batch) → IsPrefix line line' → AreOf bs line → AreOf bs line'
longer-of line line' bs more are =
    let all : line'.batches ≡ line.batches ++ more.0 = ap (λ (l : Line). l.batches) more.1 in
    All-weaker (Contains line.batches) (Contains line'.batches) (λ b has. subst (λ xs. Contains xs b) (sym all) (Contains-append_left line.batches more.0 b has)) bs are

-- what stands under an id after others were at work, above a number
piece-kept : (n : ℕ) (line line' : Line) (before after : Option (List Batch)) → IsPrefix line line' →
    ((bs : List Batch) → after ≡ Some bs → (before ≡ Some bs) ⊎ AreOf bs line') →
    ((bs : List Batch) → option_map (batches_above n) before ≡ Some bs → AreOf bs line) → (bs : List Batch) → option_map (batches_above n) after ≡ Some bs → AreOf bs line'
piece-kept n line line' before None more others was bs is = absurd (cc)
piece-kept n line line' before (Some raw) more others was bs is =
    let same : batches_above n raw ≡ bs = cc in
    subst (λ xs. AreOf xs line') same
    (elim (others raw refl) as (λ _. AreOf (batches_above n raw) line') [
      | inl there ↦ longer-of line line' (batches_above n raw) more (was (batches_above n raw) (ap (option_map (batches_above n)) there))
      | inr of ↦ All-filter (λ b. nat_lt n b.number) (Contains line'.batches) raw of
    ])

others-keep : (o o' : Objects) (line line' : Line) (r : Reading) → IsPrefix line line' →
    ((id : TableId) (bs : List Batch) → table_at id o' ≡ Some bs → (table_at id o ≡ Some bs) ⊎ AreOf bs line') →
    ((id : ℕ) (bs : List Batch) → log_at id o' ≡ Some bs → (log_at id o ≡ Some bs) ⊎ AreOf bs line') → ReadsOf r line o → ReadsOf r line' o'
others-keep o o' line line' r more tables logs reads =
    record {
      tables = λ id bs there is. piece-kept 0 line line' (table_at id o) (table_at id o') more (tables id) (λ xs stored. reads.tables id xs there stored) bs is;
      logs = λ id bs above is. piece-kept r.tabled line line' (log_at id o) (log_at id o') more (logs id) (λ xs stored. reads.logs id xs above stored) bs is;
    }

pub others-keep-it : OthersKeepIt
others-keep-it o o' line line' r more tables logs f = record { found = longer-of line line' r.found more f.found; next = go r.stage f.next } where
  go : (s : Stage) → GoesOnBy s r line o → GoesOnBy s r line' o'
  go ReadLatest h = tt
  go (ReadTable at) h = others-keep o o' line line' r more tables logs h
  go AskLast h = others-keep o o' line line' r more tables logs h
  go (ReadLog id last) h = others-keep o o' line line' r more tables logs h
  go Ended h = tt
