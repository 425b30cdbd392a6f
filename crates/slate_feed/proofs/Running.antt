-- A call that makes its steps one after another, with nobody else at work: what it has read, and what it answers.
use Rattle.std.proofs.Common.{◌≡◌, ◌≢◌, ℕ, zero, suc, ◌+◌, ◌-◌, ◌<◌, ◌≤◌, ◌⊎◌, ◌||◌, inl, inr, max, true, false, List, [], ◌∷◌, ◌++◌, length, drop, map, cond, Option, Some, None, Result, Ok, Err, refl, sym, subst, ap, ◌∙◌, arith, append_assoc, nat_lt}
use Rattle.std.proofs.lemmas.Bool.{cases_lt, le-ltb, lt-ltb}
use Rattle.std.proofs.lemmas.List.{append-nil}
use Rattle.std.proofs.lemmas.List.Elements.{All-append, All-head, All-nil, All-weaker, Contains-append_left, Contains-append_right}
use Rattle.std.proofs.lemmas.Grind.{flat_map-append}
use Rattle.std.specs.List.{All, Contains, range_with_len, slice_get}
use Rattle.std.specs.Option.{IfSome}
use Rattle.slate_types.specs.declared.batches.Batch.{Batch}
use Rattle.slate_types.specs.Line.{AreNumberedFrom}
use Rattle.slate_store.specs.declared.objects.TableId.{TableId}
use Rattle.slate_store.specs.declared.objects.VersionedManifest.{VersionedManifest}
use Rattle.slate_store.specs.Content.{number_before}
use Rattle.slate_store.specs.Logs.{HaveGap, HaveNoGap}
use Rattle.slate_store.specs.Objects.{Objects, last_log, latest_manifest}
use Rattle.slate_store.proofs.Logs.{no_gap-append}
use Rattle.slate_feed.specs.declared.machines.Stage.{Stage}
use Rattle.slate_feed.specs.declared.machines.Stage.TheVariants.{ReadLatest, ReadTable, AskLast, ReadLog, Ended}
use Rattle.slate_feed.specs.declared.machines.Turn.{Turn}
use Rattle.slate_feed.specs.declared.machines.Turn.TheVariants.{Goes, Ends, Breaks}
use Rattle.slate_feed.specs.declared.refusals.FeedRefusal.{FeedRefusal}
use Rattle.slate_feed.specs.declared.refusals.FeedRefusal.TheVariants as refusals
use Rattle.slate_feed.specs.Answer.{Answers, GivesBatches, HasNoneAbove, ReadsBatches, most_calls}
use Rattle.slate_feed.specs.Pieces.{Piece, joined, log_piece, log_pieces, pieces, table_piece, tables_to_read}
use Rattle.slate_feed.specs.Reading.{IsGoing, IsStaged, Reading, begun, going_by, log_stage, made, reached, table_stage, taken}
use Rattle.slate_feed.specs.Stepping.{LeadsOn, Meets, ReadsManifest, ReadsPiece, TakesAll}
use Rattle.slate_feed.specs.Taking.{greatest_number, is_some_batch}

-- the pieces that a begun call has still to read
abbrev pub ahead : Stage → Objects → Reading → List Piece
ahead ReadLatest o r = []
ahead (ReadTable at) o r = map (table_piece o) (drop at r.tables) ++ log_pieces r.tabled (r.mark + 1) (last_log r.mark o) o
ahead AskLast o r = log_pieces r.tabled (r.mark + 1) (last_log r.mark o) o
ahead (ReadLog id last) o r = log_pieces r.tabled id last o
ahead Ended o r = []

-- what a begun call has read that goes by a manifest
pub record Going (o : Objects) (cursor limit : ℕ) (r : Reading) : Type 0 where
  pub latest : VersionedManifest
  pub is_latest : latest_manifest o ≡ Some latest
  pub at_cursor : r.cursor ≡ cursor
  pub to_limit : r.limit ≡ limit
  pub asked : 0 < limit
  pub tables : r.tables ≡ tables_to_read cursor latest.manifest
  pub tabled : r.tabled ≡ latest.manifest.last_l0_seq
  pub mark : r.mark ≡ latest.manifest.replay_after_wal_id
  pub parts : List (List Batch)
  pub read : pieces cursor latest.manifest o ≡ map Some parts ++ ahead r.stage o r
  pub from : All (Contains (joined parts)) r.found
  pub no_gap : HaveNoGap cursor (cursor + length r.found) (joined parts)
  pub began : r.began ≡ is_some_batch (joined parts)
  pub first : number_before (joined parts) cursor ≤ cursor
  pub end : r.end ≡ greatest_number r.tabled (joined parts)

-- it knows the last log file where it reads one
abbrev pub KnowsLast : Objects → (mark : ℕ) → Stage → Type 0
KnowsLast o mark (ReadLog id last) = last ≡ last_log mark o
KnowsLast o mark s = Unit {0}

-- it is about to read the latest manifest, or goes by it
abbrev pub Runs : Objects → (cursor limit : ℕ) → Reading → Type 0
Runs o cursor limit r = (r ≡ begun cursor limit) ⊎ (Going o cursor limit r × (r.stage ≢ ReadLatest) × KnowsLast o r.mark r.stage)

-- ---- lists
map-push : (parts : List (List Batch)) (bs : List Batch) (rest : List Piece) → map Some parts ++ (Some bs ∷ rest) ≡ map Some (parts ++ bs ∷ []) ++ rest
map-push [] bs rest = refl
map-push (p ∷ parts) bs rest = ap (λ (xs : List Piece). Some p ∷ xs) (map-push parts bs rest)

joined-push : (parts : List (List Batch)) (bs : List Batch) → joined (parts ++ bs ∷ []) ≡ joined parts ++ bs
joined-push parts bs = flat_map-append (λ (p : List Batch). p) parts (bs ∷ []) ∙ ap (λ xs. joined parts ++ xs) (append-nil bs)

some-append : (xs ys : List Batch) → is_some_batch (xs ++ ys) ≡ (is_some_batch xs || is_some_batch ys)
some-append [] ys = refl
some-append (x ∷ xs) ys = refl

greatest-append : (n : ℕ) (xs ys : List Batch) → greatest_number n (xs ++ ys) ≡ greatest_number (greatest_number n xs) ys
greatest-append n xs ys = go xs where
  over : (m k : ℕ) (zs : List Batch) → max k (greatest_number m zs) ≡ greatest_number (max k m) zs
  over m k [] = refl
  over m k (z ∷ zs) = let more = over m k zs in omega (arith, more)

  go : (xs : List Batch) → greatest_number n (xs ++ ys) ≡ greatest_number (greatest_number n xs) ys
  go [] = refl
  go (x ∷ xs) = ap (max x.number) (go xs) ∙ over (greatest_number n xs) x.number ys

nil-from_none : (xs : List Batch) → is_some_batch xs ≡ false → xs ≡ []
nil-from_none [] h = refl
nil-from_none (x ∷ xs) h = absurd (cc)

-- where the first batch read isn't past the next number, neither is the first of all
first-append : (cursor : ℕ) (xs ys : List Batch) → number_before xs cursor ≤ cursor → (is_some_batch xs ≡ false → number_before ys cursor ≤ cursor) → number_before (xs ++ ys) cursor ≤ cursor
first-append cursor [] ys low next = next refl
first-append cursor (x ∷ xs) ys low next = low

before-else : (n m : ℕ) (xs : List Batch) → is_some_batch xs ≡ true → number_before xs n ≡ number_before xs m
before-else n m [] some = absurd (cc)
before-else n m (x ∷ xs) some = refl

-- the number before the first batch, or the last in tables where there is none
before-or : (cursor tabled : ℕ) (xs : List Batch) → number_before xs cursor ≤ cursor → (is_some_batch xs ≡ false → tabled ≤ cursor) → number_before xs tabled ≤ cursor
before-or cursor tabled [] low none = none refl
before-or cursor tabled (x ∷ xs) low none = low

no_gap-nil : (n : ℕ) (m : ℕ) → HaveNoGap n m [] → m ≡ n
no_gap-nil n m h = h

-- ---- one more piece was read
module _ (o : Objects) (cursor limit : ℕ) (r : Reading) (g : Going o cursor limit r)
    (batches : List Batch) (parts' : List (List Batch)) (rest' : List Piece)
    (read' : pieces cursor g.latest.manifest o ≡ map Some parts' ++ rest') (more : joined parts' ≡ joined g.parts ++ batches) where
  unbegun : is_some_batch (joined g.parts) ≡ false → r.began ≡ false
  unbegun none = g.began ∙ none

  module _ (r' : Reading) (on : LeadsOn batches (taken r) r') where
    from' : All (Contains (joined parts')) r'.found
    from' =
        let weaker_left : All (Contains (joined g.parts ++ batches)) r.found = All-weaker (Contains (joined g.parts)) (Contains (joined g.parts ++ batches)) (λ x h. Contains-append_left (joined g.parts) batches x h) r.found g.from in
        let weaker_right : All (Contains (joined g.parts ++ batches)) on.added = All-weaker (Contains batches) (Contains (joined g.parts ++ batches)) (λ x h. Contains-append_right (joined g.parts) batches x h) on.added on.from in
        subst (λ xs. All (Contains xs) r'.found) (sym more)
        (subst (λ xs. All (Contains (joined g.parts ++ batches)) xs) (sym on.grows) (All-append (Contains (joined g.parts ++ batches)) r.found on.added weaker_left weaker_right))

    first' : number_before (joined parts') cursor ≤ cursor
    first' =
        subst (λ xs. number_before xs cursor ≤ cursor) (sym more)
        (first-append cursor (joined g.parts) batches g.first
        (λ none. subst (λ n. number_before batches n ≤ n) g.at_cursor (on.first (unbegun none))))

    same_cursor : r'.cursor ≡ cursor
    same_cursor = ap (λ (x : Reading). x.cursor) on.same ∙ g.at_cursor

    module _ (all : TakesAll batches (taken r) r') where
      no_gap' : HaveNoGap cursor (cursor + length r'.found) (joined parts')
      no_gap' =
          let here : HaveNoGap (cursor + length r.found) (cursor + length r'.found) batches =
          subst (λ n. HaveNoGap (n + length r.found) (cursor + length r'.found) batches) g.at_cursor (subst (λ n. HaveNoGap (r.cursor + length r.found) (n + length r'.found) batches) same_cursor all.no_gap) in
          subst (λ xs. HaveNoGap cursor (cursor + length r'.found) xs) (sym more)
          (no_gap-append cursor (cursor + length r.found) (cursor + length r'.found) (joined g.parts) batches g.no_gap here)

      began' : r'.began ≡ is_some_batch (joined parts')
      began' = all.began ∙ (ap (λ t. t || is_some_batch batches) g.began ∙ (sym (some-append (joined g.parts) batches) ∙ ap is_some_batch (sym more)))

      end' : r'.end ≡ greatest_number r.tabled (joined parts')
      end' = all.end ∙ (ap (λ n. greatest_number n batches) g.end ∙ (sym (greatest-append r.tabled (joined g.parts) batches) ∙ ap (greatest_number r.tabled) (sym more)))

      pub goes : ahead r'.stage o r' ≡ rest' → Going o cursor limit r'
      goes left =
          record {
            latest = g.latest;
            is_latest = g.is_latest;
            at_cursor = same_cursor;
            to_limit = ap (λ (x : Reading). x.limit) on.same ∙ g.to_limit;
            asked = g.asked;
            tables = ap (λ (x : Reading). x.tables) on.same ∙ g.tables;
            tabled = ap (λ (x : Reading). x.tabled) on.same ∙ g.tabled;
            mark = ap (λ (x : Reading). x.mark) on.same ∙ g.mark;
            parts = parts';
            read = read' ∙ ap (λ xs. map Some parts' ++ xs) (sym left);
            from = from';
            no_gap = no_gap';
            began = began';
            first = first';
            end = end' ∙ ap (λ n. greatest_number n (joined parts')) (sym (ap (λ (x : Reading). x.tabled) on.same));
          }

      -- all is read
      pub ends-all : AreNumberedFrom cursor r'.found → rest' ≡ [] → length r'.found < limit → (r'.began ≡ false → r.tabled ≤ r.cursor) → ReadsBatches o cursor limit (Ok r'.found)
      ends-all numbered none few low =
          record {
            latest = g.latest;
            is_latest = g.is_latest;
            parts = parts';
            rest = rest';
            read = read';
            gives = (
              numbered,
              from',
              λ _. before-or cursor g.latest.manifest.last_l0_seq (joined parts') first'
                  (λ nothing. subst (λ n. n ≤ cursor) g.tabled (subst (λ n. r.tabled ≤ n) g.at_cursor (low (began' ∙ nothing)))),
              inr (few, none, no_gap'),
            );
          }

      pub ends-none : rest' ≡ [] → r'.found ≡ [] → HasNoneAbove o cursor r'.end
      ends-none none nothing =
          let same : cursor + length r'.found ≡ cursor = let l = ap length nothing in omega (arith, l) in
          record {
            latest = g.latest;
            is_latest = g.is_latest;
            parts = parts';
            read = read' ∙ (ap (λ xs. map Some parts' ++ xs) none ∙ append-nil (map Some parts'));
            none = subst (λ n. HaveNoGap cursor n (joined parts')) same no_gap';
            greatest = end' ∙ ap (λ n. greatest_number n (joined parts')) g.tabled;
          }

    -- as many as were asked for are found
    pub ends-full : AreNumberedFrom cursor r'.found → length r'.found ≡ limit → ReadsBatches o cursor limit (Ok r'.found)
    ends-full numbered full =
        record {
          latest = g.latest;
          is_latest = g.is_latest;
          parts = parts';
          rest = rest';
          read = read';
          gives = (numbered, from', λ _. before-or cursor g.latest.manifest.last_l0_seq (joined parts') first' (λ nothing. absurd (unfound (nil-from_none (joined parts') nothing))), inl full);
        }
      where
        unfound : joined parts' ≡ [] → ⊥
        unfound nothing = go r'.found refl (subst (λ xs. All (Contains xs) r'.found) nothing from') where
          go : (xs : List Batch) → r'.found ≡ xs → All (Contains {X = Batch} []) r'.found → ⊥
          go [] is h = let l = ap length is in let a = g.asked in omega (arith, full, l, a)
          go (x ∷ xs) is h = let s = subst (λ ys. All (Contains {X = Batch} []) ys) is h in let c = All-head (Contains {X = Batch} []) x xs s in omega (arith, c.1)

  -- a batch is past the next number
  pub breaks : (end : ℕ) → HaveGap (reached (taken r)) end batches → (r.began ≡ false → number_before batches r.cursor ≤ r.cursor) → ReadsBatches o cursor limit (Err refusals.Moved)
  breaks end gap first =
      record {
        latest = g.latest;
        is_latest = g.is_latest;
        parts = parts';
        rest = rest';
        read = read';
        gives = (
          λ some. before-or cursor g.latest.manifest.last_l0_seq (joined parts') low (λ nothing. absurd (some (nil-from_none (joined parts') nothing))),
          inr (end, later),
        );
      }
    where
      low : number_before (joined parts') cursor ≤ cursor
      low =
          subst (λ xs. number_before xs cursor ≤ cursor) (sym more)
          (first-append cursor (joined g.parts) batches g.first (λ none. subst (λ n. number_before batches n ≤ n) g.at_cursor (first (unbegun none))))

      later : HaveGap cursor end (joined parts')
      later =
          let no_gap : HaveNoGap (cursor + length r.found) end gap.front = subst (λ n. HaveNoGap (n + length r.found) end gap.front) g.at_cursor gap.no_gap in
          record {
            front = joined g.parts ++ gap.front;
            batch = gap.batch;
            rest = gap.rest;
            parts = more ∙ (ap (λ xs. joined g.parts ++ xs) gap.parts ∙ sym (append_assoc (joined g.parts) gap.front (gap.batch ∷ gap.rest)));
            no_gap = no_gap-append cursor (cursor + length r.found) end (joined g.parts) gap.front g.no_gap no_gap;
            past = gap.past;
          }

  -- the cursor is below the number before the first batch
  pub below : (at floor : ℕ) → r.began ≡ false → at ≡ r.cursor → r.cursor < floor → floor ≡ number_before batches r.tabled → (batches ≡ [] → rest' ≡ []) → ReadsBatches o cursor limit (Err (refusals.BeforeFloor at floor))
  below at floor fresh is less before left =
      let nothing : joined g.parts ≡ [] = nil-from_none (joined g.parts) (sym g.began ∙ fresh) in
      let all : joined parts' ≡ batches = more ∙ ap (λ xs. xs ++ batches) nothing in
      record {
        latest = g.latest;
        is_latest = g.is_latest;
        parts = parts';
        rest = rest';
        read = read';
        gives = (
          is ∙ g.at_cursor,
          subst (λ n. n < floor) g.at_cursor less,
          before ∙ (ap (number_before batches) g.tabled ∙ ap (λ xs. number_before xs g.latest.manifest.last_l0_seq) (sym all)),
          λ none. left (sym all ∙ none),
          g.asked,
        );
      }

-- a piece isn't stored
pub missing : (o : Objects) (cursor limit : ℕ) (r : Reading) (others : List Piece) → Going o cursor limit r → ahead r.stage o r ≡ None ∷ others → ReadsBatches o cursor limit (Err refusals.Moved)
missing o cursor limit r others g left =
    record {
      latest = g.latest;
      is_latest = g.is_latest;
      parts = g.parts;
      rest = ahead r.stage o r;
      read = g.read;
      gives = (λ some. before-or cursor g.latest.manifest.last_l0_seq (joined g.parts) g.first (λ nothing. absurd (some (nil-from_none (joined g.parts) nothing))), inl (others, left));
    }

-- ---- what is left to read, by the call that comes next
drop-at : (ids : List TableId) (at : ℕ) (id : TableId) → slice_get ids at ≡ Some id → drop at ids ≡ id ∷ drop (at + 1) ids
drop-at [] at id is = absurd (cc)
drop-at (x ∷ ids) zero id is = let same : x ≡ id = cc in let one : suc zero ≡ zero + 1 = omega arith in ap (λ y. y ∷ ids) same ∙ ap (λ n. id ∷ drop n (x ∷ ids)) one
drop-at (x ∷ ids) (suc at) id is =
    let next : suc (at + 1) ≡ suc at + 1 = omega arith in
    drop-at ids at id is ∙ ap (λ n. id ∷ drop n (x ∷ ids)) next

drop-past : (ids : List TableId) (at : ℕ) → length ids ≤ at → drop at ids ≡ []
drop-past [] zero low = refl
drop-past [] (suc at) low = refl
drop-past (x ∷ ids) zero low = absurd (omega arith)
drop-past (x ∷ ids) (suc at) low = drop-past ids at (omega arith)

table_stage-below : (ids : List TableId) (at : ℕ) → at < length ids → table_stage ids at ≡ ReadTable at
table_stage-below ids at less = ap (λ t. cond t (ReadTable at) AskLast) (lt-ltb at (length ids) less)

table_stage-past : (ids : List TableId) (at : ℕ) → length ids ≤ at → table_stage ids at ≡ AskLast
table_stage-past ids at low = ap (λ t. cond t (ReadTable at) AskLast) (le-ltb at (length ids) low)

-- the tables from a place on, and then the log files
pub ahead-tables : (o : Objects) (r : Reading) (at : ℕ) → ahead (table_stage r.tables at) o r ≡ map (table_piece o) (drop at r.tables) ++ log_pieces r.tabled (r.mark + 1) (last_log r.mark o) o
ahead-tables o r at = elim (cases_lt at (length r.tables)) [
  | inl less ↦ ap (λ s. ahead s o r) (table_stage-below r.tables at less)
  | inr low ↦ ap (λ s. ahead s o r) (table_stage-past r.tables at low)
      ∙ ap (λ ids. map (table_piece o) ids ++ log_pieces r.tabled (r.mark + 1) (last_log r.mark o) o) (sym (drop-past r.tables at low))
]

pub table-left : (o : Objects) (r : Reading) (at : ℕ) (id : TableId) → slice_get r.tables at ≡ Some id →
    ahead (ReadTable at) o r ≡ table_piece o id ∷ ahead (table_stage r.tables (at + 1)) o r
table-left o r at id is =
    ap (λ ids. map (table_piece o) ids ++ log_pieces r.tabled (r.mark + 1) (last_log r.mark o) o) (drop-at r.tables at id is)
    ∙ ap (λ (xs : List Piece). table_piece o id ∷ xs) (sym (ahead-tables o r (at + 1)))

pub table_stage-goes : (ids : List TableId) (at : ℕ) → table_stage ids at ≢ Ended
table_stage-goes ids at = elim (nat_lt at (length ids)) as (λ t. cond t (ReadTable at) AskLast ≢ Ended) [ true ↦ λ h. absurd (cc) | false ↦ λ h. absurd (cc) ]

table_stage-later : (ids : List TableId) (at : ℕ) → table_stage ids at ≢ ReadLatest
table_stage-later ids at = elim (nat_lt at (length ids)) as (λ t. cond t (ReadTable at) AskLast ≢ ReadLatest) [ true ↦ λ h. absurd (cc) | false ↦ λ h. absurd (cc) ]

knows-table : (o : Objects) (mark : ℕ) (ids : List TableId) (at : ℕ) → KnowsLast o mark (table_stage ids at)
knows-table o mark ids at = elim (nat_lt at (length ids)) as (λ t. KnowsLast o mark (cond t (ReadTable at) AskLast)) [ true ↦ tt | false ↦ tt ]

knows-log : (o : Objects) (mark id last : ℕ) → last ≡ last_log mark o → KnowsLast o mark (log_stage id last)
knows-log o mark id last is = elim (nat_lt id last) as (λ t. KnowsLast o mark (cond t (ReadLog (id + 1) last) Ended)) [ true ↦ is | false ↦ tt ]

log_stage-later : (id last : ℕ) → log_stage id last ≢ ReadLatest
log_stage-later id last = elim (nat_lt id last) as (λ t. cond t (ReadLog (id + 1) last) Ended ≢ ReadLatest) [ true ↦ λ h. absurd (cc) | false ↦ λ h. absurd (cc) ]

-- the log files after this one
pub ahead-logs : (o : Objects) (r : Reading) (id last : ℕ) → ahead (log_stage id last) o r ≡ log_pieces r.tabled (id + 1) last o
ahead-logs o r id last = elim (cases_lt id last) [
  | inl less ↦ ap (λ t. ahead (cond t (ReadLog (id + 1) last) Ended) o r) (lt-ltb id last less)
  | inr low ↦ ap (λ t. ahead (cond t (ReadLog (id + 1) last) Ended) o r) (le-ltb id last low)
      ∙ (let none : zero ≡ last + 1 - (id + 1) = omega arith in ap (λ n. map (log_piece r.tabled o) (range_with_len (id + 1) n)) none)
]

pub log-left : (o : Objects) (r : Reading) (id last : ℕ) → id ≤ last → ahead (ReadLog id last) o r ≡ log_piece r.tabled o id ∷ ahead (log_stage id last) o r
log-left o r id last within =
    let count : last + 1 - id ≡ suc (last + 1 - (id + 1)) = omega arith in
    ap (λ n. map (log_piece r.tabled o) (range_with_len id n)) count
    ∙ ap (λ (xs : List Piece). log_piece r.tabled o id ∷ xs) (sym (ahead-logs o r id last))

pub logs-ended : (o : Objects) (r : Reading) (id last : ℕ) → log_stage id last ≡ Ended → ahead (log_stage id last) o r ≡ []
logs-ended o r id last is = ap (λ s. ahead s o r) is

-- what is left doesn't depend on what was found
pub ahead-same : (o : Objects) (r r' : Reading) (s : Stage) → r'.tables ≡ r.tables → r'.tabled ≡ r.tabled → r'.mark ≡ r.mark → ahead s o r' ≡ ahead s o r
ahead-same o r r' ReadLatest tables tabled mark = refl
ahead-same o r r' (ReadTable at) tables tabled mark =
    ap (λ ids. map (table_piece o) (drop at ids) ++ log_pieces r'.tabled (r'.mark + 1) (last_log r'.mark o) o) tables
    ∙ (ap (λ t. map (table_piece o) (drop at r.tables) ++ log_pieces t (r'.mark + 1) (last_log r'.mark o) o) tabled
    ∙ ap (λ m. map (table_piece o) (drop at r.tables) ++ log_pieces r.tabled (m + 1) (last_log m o) o) mark)
ahead-same o r r' AskLast tables tabled mark =
    ap (λ t. log_pieces t (r'.mark + 1) (last_log r'.mark o) o) tabled ∙ ap (λ m. log_pieces r.tabled (m + 1) (last_log m o) o) mark
ahead-same o r r' (ReadLog id last) tables tabled mark = ap (λ t. log_pieces t id last o) tabled
ahead-same o r r' Ended tables tabled mark = refl

-- ---- what reading a piece leads to, where it is the next of those that are left, or none is read
module _ (o : Objects) (cursor limit : ℕ) (r : Reading) (g : Going o cursor limit r) (piece : Piece) (next : Stage)
    (place : ((ahead r.stage o r ≡ piece ∷ ahead next o r) × (next ≡ Ended → ahead next o r ≡ [])) ⊎ ((piece ≡ Some []) × (ahead r.stage o r ≡ ahead next o r) × (next ≡ Ended → ahead next o r ≡ []))) where
  -- the parts that are read then
  record Next (batches : List Batch) : Type 0 where
    parts' : List (List Batch)
    read' : pieces cursor g.latest.manifest o ≡ map Some parts' ++ ahead next o r
    more : joined parts' ≡ joined g.parts ++ batches
    ended : next ≡ Ended → ahead next o r ≡ []

  next-parts : (batches : List Batch) → piece ≡ Some batches → Next batches
  next-parts batches is = elim place as (λ _. Next batches) [
    | inl p ↦ record {
      parts' = g.parts ++ batches ∷ [];
      read' = g.read ∙ (ap (λ xs. map Some g.parts ++ xs) (p.0 ∙ ap (λ (x : Piece). x ∷ ahead next o r) is) ∙ map-push g.parts batches (ahead next o r));
      more = joined-push g.parts batches;
      ended = p.1;
    }
    | inr p ↦ record {
      parts' = g.parts;
      read' = g.read ∙ ap (λ xs. map Some g.parts ++ xs) p.1;
      more = let none : [] ≡ batches = cc (p.0, is) in sym (append-nil (joined g.parts)) ∙ ap (λ xs. joined g.parts ++ xs) none;
      ended = p.2;
    }
  ]

  pub piece-goes : (r' : Reading) → ReadsPiece piece next (taken r) (Ok Goes) r' → Going o cursor limit r'
  piece-goes r' (batches, is, on, all, staged, going, few) =
      let n = next-parts batches is in
      goes o cursor limit r g batches n.parts' (ahead next o r) n.read' n.more r' on all
      (ap (λ s. ahead s o r') staged ∙ ahead-same o r r' next (ap (λ (x : Reading). x.tables) on.same) (ap (λ (x : Reading). x.tabled) on.same) (ap (λ (x : Reading). x.mark) on.same))

  pub piece-ends : (r' : Reading) → ReadsPiece piece next (taken r) (Ok Ends) r' → AreNumberedFrom cursor r'.found → ReadsBatches o cursor limit (Ok r'.found)
  piece-ends r' (batches, is, on, how) numbered =
      let n = next-parts batches is in
      elim how as (λ _. ReadsBatches o cursor limit (Ok r'.found)) [
        | inl full ↦ ends-full o cursor limit r g batches n.parts' (ahead next o r) n.read' n.more r' on numbered (full ∙ g.to_limit)
        | inr all ↦ ends-all o cursor limit r g batches n.parts' (ahead next o r) n.read' n.more r' on all.0 numbered (n.ended all.1) (subst (λ k. length r'.found < k) g.to_limit all.2) all.3
      ]

  pub piece-none : (r' : Reading) → ReadsPiece piece next (taken r) (Ok Ends) r' → r'.found ≡ [] → HasNoneAbove o cursor r'.end
  piece-none r' (batches, is, on, how) nothing =
      let n = next-parts batches is in
      elim how as (λ _. HasNoneAbove o cursor r'.end) [
        | inl full ↦ let l = ap length nothing in let a = g.asked in let t = g.to_limit in absurd (omega (arith, full, l, a, t))
        | inr all ↦ ends-none o cursor limit r g batches n.parts' (ahead next o r) n.read' n.more r' on all.0 (n.ended all.1) nothing
      ]

  pub piece-breaks : (r' : Reading) → ReadsPiece piece next (taken r) (Ok Breaks) r' → ReadsBatches o cursor limit (Err refusals.Moved)
  piece-breaks r' how = elim how as (λ _. ReadsBatches o cursor limit (Err refusals.Moved)) [
    | inl none ↦ elim place as (λ _. ReadsBatches o cursor limit (Err refusals.Moved)) [
      | inl p ↦ missing o cursor limit r (ahead next o r) g (p.0 ∙ ap (λ (x : Piece). x ∷ ahead next o r) none)
      | inr p ↦ absurd (cc (p.0, none))
    ]
    | inr gap ↦ let n = next-parts gap.0 gap.2 in breaks o cursor limit r g gap.0 n.parts' (ahead next o r) n.read' n.more gap.1 gap.3 gap.4
  ]

  pub piece-below : (r' : Reading) (at floor : ℕ) → ReadsPiece piece next (taken r) (Err (refusals.BeforeFloor at floor)) r' → ReadsBatches o cursor limit (Err (refusals.BeforeFloor at floor))
  piece-below r' at floor (batches, is, fresh, at_is, less, before, left) =
      let n = next-parts batches is in
      below o cursor limit r g batches n.parts' (ahead next o r) n.read' n.more at floor fresh at_is less before (λ none. n.ended (left none))

-- ---- a step of a call that goes by a manifest
module _ (o : Objects) (cursor limit : ℕ) (r : Reading) (g : Going o cursor limit r) where
  table-place : (at : ℕ) (id : TableId) → r.stage ≡ ReadTable at → slice_get r.tables at ≡ Some id →
      (ahead r.stage o r ≡ table_piece o id ∷ ahead (table_stage r.tables (at + 1)) o r) × (table_stage r.tables (at + 1) ≡ Ended → ahead (table_stage r.tables (at + 1)) o r ≡ [])
  table-place at id is found =
      (ap (λ s. ahead s o r) is ∙ table-left o r at id found, λ ended. absurd (table_stage-goes r.tables (at + 1) ended))

  log-place : (id last : ℕ) → r.stage ≡ ReadLog id last → id ≤ last →
      (ahead r.stage o r ≡ log_piece r.tabled o id ∷ ahead (log_stage id last) o r) × (log_stage id last ≡ Ended → ahead (log_stage id last) o r ≡ [])
  log-place id last is within = (ap (λ s. ahead s o r) is ∙ log-left o r id last within, logs-ended o r id last)

  last-place : r.stage ≡ AskLast →
      let none : Piece = Some [] in
      let next = log_stage r.mark (last_log r.mark o) in
      (none ≡ Some []) × (ahead r.stage o r ≡ ahead next o r) × (next ≡ Ended → ahead next o r ≡ [])
  last-place is =
      (refl, ap (λ s. ahead s o r) is ∙ sym (ahead-logs o r r.mark (last_log r.mark o)), logs-ended o r r.mark (last_log r.mark o))

  -- it goes on to a call
  to-next : (next : Stage) (r' : Reading) → Going o cursor limit r' → r'.mark ≡ r.mark → r'.stage ≡ next → next ≢ ReadLatest → KnowsLast o r.mark next → Going o cursor limit r' × (r'.stage ≢ ReadLatest) × KnowsLast o r'.mark r'.stage
  to-next next r' going mark at later knows =
      (going, λ h. later (sym at ∙ h), subst (λ n. KnowsLast o n r'.stage) (sym mark) (subst (KnowsLast o r.mark) (sym at) knows))

  goes-to : (s : Stage) (r' : Reading) → r.stage ≡ s → IsStaged s r → s ≢ ReadLatest → KnowsLast o r.mark s → Meets s o (taken r) (Ok Goes) r' → Going o cursor limit r' × (r'.stage ≢ ReadLatest) × KnowsLast o r'.mark r'.stage
  goes-to ReadLatest r' is staged later knows m = absurd (later refl)
  goes-to (ReadTable at) r' is staged later knows (id, found, m) =
      to-next (table_stage r.tables (at + 1)) r' (piece-goes o cursor limit r g (table_piece o id) (table_stage r.tables (at + 1)) (inl (table-place at id is found)) r' m)
      (ap (λ (x : Reading). x.mark) m.2.same) m.4 (table_stage-later r.tables (at + 1)) (knows-table o r.mark r.tables (at + 1))
  goes-to AskLast r' is staged later knows m =
      to-next (log_stage r.mark (last_log r.mark o)) r' (piece-goes o cursor limit r g (Some []) (log_stage r.mark (last_log r.mark o)) (inr (last-place is)) r' m)
      (ap (λ (x : Reading). x.mark) m.2.same) m.4 (log_stage-later r.mark (last_log r.mark o)) (knows-log o r.mark r.mark (last_log r.mark o) refl)
  goes-to (ReadLog id last) r' is staged later knows m =
      to-next (log_stage id last) r' (piece-goes o cursor limit r g (log_piece r.tabled o id) (log_stage id last) (inl (log-place id last is staged.2)) r' m)
      (ap (λ (x : Reading). x.mark) m.2.same) m.4 (log_stage-later id last) (knows-log o r.mark id last knows)
  goes-to Ended r' is staged later knows m = absurd m

  none-above : (s : Stage) (r' : Reading) → r.stage ≡ s → IsStaged s r → s ≢ ReadLatest → Meets s o (taken r) (Ok Ends) r' → r'.found ≡ [] → HasNoneAbove o cursor r'.end
  none-above ReadLatest r' is staged later m = absurd (later refl)
  none-above (ReadTable at) r' is staged later (id, found, m) = piece-none o cursor limit r g (table_piece o id) (table_stage r.tables (at + 1)) (inl (table-place at id is found)) r' m
  none-above AskLast r' is staged later m = piece-none o cursor limit r g (Some []) (log_stage r.mark (last_log r.mark o)) (inr (last-place is)) r' m
  none-above (ReadLog id last) r' is staged later m = piece-none o cursor limit r g (log_piece r.tabled o id) (log_stage id last) (inl (log-place id last is staged.2)) r' m
  none-above Ended r' is staged later m = absurd m

  -- how many steps were made, this one with them
  steps-within : (s : Stage) → IsStaged s r → s ≢ ReadLatest → KnowsLast o r.mark s → IsGoing s → made s r + 1 ≤ 2 + length r.tables + (last_log r.mark o - r.mark)
  steps-within ReadLatest staged later knows going = absurd (later refl)
  steps-within (ReadTable at) staged later knows going = let less = staged.1 in omega (arith, less)
  steps-within AskLast staged later knows going = omega arith
  steps-within (ReadLog id last) staged later knows going = let within = staged.2 in omega (arith, within, knows)
  steps-within Ended staged later knows going = absurd going

  ends-with : (s : Stage) (r' : Reading) → r.stage ≡ s → IsStaged s r → s ≢ ReadLatest → Meets s o (taken r) (Ok Ends) r' → AreNumberedFrom cursor r'.found → ReadsBatches o cursor limit (Ok r'.found)
  ends-with ReadLatest r' is staged later m = absurd (later refl)
  ends-with (ReadTable at) r' is staged later (id, found, m) = piece-ends o cursor limit r g (table_piece o id) (table_stage r.tables (at + 1)) (inl (table-place at id is found)) r' m
  ends-with AskLast r' is staged later m = piece-ends o cursor limit r g (Some []) (log_stage r.mark (last_log r.mark o)) (inr (last-place is)) r' m
  ends-with (ReadLog id last) r' is staged later m = piece-ends o cursor limit r g (log_piece r.tabled o id) (log_stage id last) (inl (log-place id last is staged.2)) r' m
  ends-with Ended r' is staged later m = absurd m

  breaks-off : (s : Stage) (r' : Reading) → r.stage ≡ s → IsStaged s r → s ≢ ReadLatest → Meets s o (taken r) (Ok Breaks) r' → ReadsBatches o cursor limit (Err refusals.Moved)
  breaks-off ReadLatest r' is staged later m = absurd (later refl)
  breaks-off (ReadTable at) r' is staged later (id, found, m) = piece-breaks o cursor limit r g (table_piece o id) (table_stage r.tables (at + 1)) (inl (table-place at id is found)) r' m
  breaks-off AskLast r' is staged later m = piece-breaks o cursor limit r g (Some []) (log_stage r.mark (last_log r.mark o)) (inr (last-place is)) r' m
  breaks-off (ReadLog id last) r' is staged later m = piece-breaks o cursor limit r g (log_piece r.tabled o id) (log_stage id last) (inl (log-place id last is staged.2)) r' m
  breaks-off Ended r' is staged later m = absurd m

  below-floor : (s : Stage) (r' : Reading) (at floor : ℕ) → r.stage ≡ s → IsStaged s r → s ≢ ReadLatest → Meets s o (taken r) (Err (refusals.BeforeFloor at floor)) r' → ReadsBatches o cursor limit (Err (refusals.BeforeFloor at floor))
  below-floor ReadLatest r' at floor is staged later m = absurd (later refl)
  below-floor (ReadTable place) r' at floor is staged later (id, found, m) = piece-below o cursor limit r g (table_piece o id) (table_stage r.tables (place + 1)) (inl (table-place place id is found)) r' at floor m
  below-floor AskLast r' at floor is staged later m = piece-below o cursor limit r g (Some []) (log_stage r.mark (last_log r.mark o)) (inr (last-place is)) r' at floor m
  below-floor (ReadLog id last) r' at floor is staged later m = piece-below o cursor limit r g (log_piece r.tabled o id) (log_stage id last) (inl (log-place id last is staged.2)) r' at floor m
  below-floor Ended r' at floor is staged later m = absurd m

  -- no other refusal of a piece has a cause in the objects
  fails-with : (s : Stage) (r' : Reading) (e : FeedRefusal) → r.stage ≡ s → IsStaged s r → s ≢ ReadLatest → Meets s o (taken r) (Err e) r' → Answers o cursor limit (Err e)
  fails-with s r' refusals.LatestTransactionalObjectVersionMissing is staged later m = go s later m where
    go : (s : Stage) → s ≢ ReadLatest → Meets s o (taken r) (Err refusals.LatestTransactionalObjectVersionMissing) r' → latest_manifest o ≡ None
    go ReadLatest later m = absurd (later refl)
    go (ReadTable at) later (id, found, m) = absurd m
    go AskLast later m = absurd m
    go (ReadLog id last) later m = absurd m
    go Ended later m = absurd m
  fails-with s r' (refusals.BeforeFloor at floor) is staged later m = below-floor s r' at floor is staged later m
  fails-with s r' (refusals.Ahead at end) is staged later m = absurd (go s later m) where
    go : (s : Stage) → s ≢ ReadLatest → Meets s o (taken r) (Err (refusals.Ahead at end)) r' → ⊥
    go ReadLatest later m = later refl
    go (ReadTable at) later (id, found, m) = m
    go AskLast later m = m
    go (ReadLog id last) later m = m
    go Ended later m = m
  fails-with s r' refusals.ObjectStoreError is staged later m = tt
  fails-with s r' refusals.NoMemory is staged later m = tt
  fails-with s r' refusals.Moved is staged later m = absurd (go s later m) where
    go : (s : Stage) → s ≢ ReadLatest → Meets s o (taken r) (Err refusals.Moved) r' → ⊥
    go ReadLatest later m = later refl
    go (ReadTable at) later (id, found, m) = m
    go AskLast later m = m
    go (ReadLog id last) later m = m
    go Ended later m = m

-- ---- the first step
module _ (o : Objects) (cursor limit : ℕ) (r : Reading) (fresh : r ≡ begun cursor limit) where
  start-goes : (r' : Reading) → ReadsManifest (latest_manifest o) (taken r) (Ok Goes) r' → Going o cursor limit r' × (r'.stage ≢ ReadLatest) × KnowsLast o r'.mark r'.stage
  start-goes r' (latest, is_latest, asked, is) =
      let by = going_by latest.manifest (taken (begun cursor limit)) in
      let going = record by { stage = table_stage by.tables 0 } in
      let after : r' ≡ going = subst (λ (x : Reading). r' ≡ (let y = going_by latest.manifest (taken x) in record y { stage = table_stage y.tables 0 })) fresh is in
      let more : 0 < limit = subst (λ (x : Reading). 0 < x.limit) fresh asked in (
        subst (Going o cursor limit) (sym after) (record {
          latest = latest;
          is_latest = is_latest;
          at_cursor = refl;
          to_limit = refl;
          asked = more;
          tables = refl;
          tabled = refl;
          mark = refl;
          parts = [];
          read = sym (ahead-tables o going 0);
          from = All-nil (Contains {X = Batch} []);
          no_gap = add-zero' cursor;
          began = refl;
          first = omega arith;
          end = refl;
        }),
        λ h. table_stage-later going.tables 0 (sym (ap (λ (x : Reading). x.stage) after) ∙ h),
        subst (λ (x : Reading). KnowsLast o x.mark x.stage) (sym after) (knows-table o going.mark going.tables 0),
      )
    where
      add-zero' : (n : ℕ) → n + 0 ≡ n
      add-zero' n = omega arith

  start-ends : (r' : Reading) → ReadsManifest (latest_manifest o) (taken r) (Ok Ends) r' → ReadsBatches o cursor limit (Ok r'.found)
  start-ends r' (some, none, same) = go (latest_manifest o) refl some where
    nothing : r'.found ≡ []
    nothing = same ∙ ap (λ (x : Reading). x.found) fresh

    zero_is : 0 ≡ limit
    zero_is = sym (sym (ap (λ (x : Reading). x.limit) fresh) ∙ none)

    go : (found : Option VersionedManifest) → latest_manifest o ≡ found → found ≢ None → ReadsBatches o cursor limit (Ok r'.found)
    go None is some = absurd (some refl)
    go (Some latest) is some =
        record {
          latest = latest;
          is_latest = is;
          parts = [];
          rest = pieces cursor latest.manifest o;
          read = refl;
          gives = subst (λ xs. GivesBatches latest.manifest.last_l0_seq cursor limit [] (pieces cursor latest.manifest o) (Ok xs)) (sym nothing)
              (tt, All-nil (Contains {X = Batch} []), λ less. absurd (omega (arith, less, zero_is)), inl zero_is);
        }

  start-fails : (r' : Reading) (e : FeedRefusal) → ReadsManifest (latest_manifest o) (taken r) (Err e) r' → Answers o cursor limit (Err e)
  start-fails r' refusals.LatestTransactionalObjectVersionMissing m = m
  start-fails r' (refusals.BeforeFloor at floor) m = absurd m
  start-fails r' (refusals.Ahead at end) m = absurd m
  start-fails r' refusals.ObjectStoreError m = tt
  start-fails r' refusals.NoMemory m = tt
  start-fails r' refusals.Moved m = absurd m

-- ---- any step
module _ (o : Objects) (cursor limit : ℕ) (r : Reading) (staged : IsStaged r.stage r) (runs : Runs o cursor limit r) where
  at-start : {P : Type 0} (t : Result Turn FeedRefusal) (r' : Reading) → r ≡ begun cursor limit → Meets r.stage o (taken r) t r' → (ReadsManifest (latest_manifest o) (taken r) t r' → P) → P
  at-start t r' fresh m f = f (subst (λ s. Meets s o (taken r) t r') (ap (λ (x : Reading). x.stage) fresh) m)

  pub run-goes : (r' : Reading) → Meets r.stage o (taken r) (Ok Goes) r' → Runs o cursor limit r'
  run-goes r' m = elim runs as (λ _. Runs o cursor limit r') [
    | inl fresh ↦ inr (at-start (Ok Goes) r' fresh m (start-goes o cursor limit r fresh r'))
    | inr g ↦ inr (goes-to o cursor limit r g.0 r.stage r' refl staged g.1 g.2 m)
  ]

  pub run-ends : (r' : Reading) → Meets r.stage o (taken r) (Ok Ends) r' → AreNumberedFrom cursor r'.found → Answers o cursor limit (Ok r'.found)
  run-ends r' m numbered = elim runs as (λ _. ReadsBatches o cursor limit (Ok r'.found)) [
    | inl fresh ↦ at-start (Ok Ends) r' fresh m (start-ends o cursor limit r fresh r')
    | inr g ↦ ends-with o cursor limit r g.0 r.stage r' refl staged g.1 m numbered
  ]

  pub run-breaks : (r' : Reading) → Meets r.stage o (taken r) (Ok Breaks) r' → Answers o cursor limit (Err refusals.Moved)
  run-breaks r' m = elim runs as (λ _. ReadsBatches o cursor limit (Err refusals.Moved)) [
    | inl fresh ↦ at-start (Ok Breaks) r' fresh m (λ (h : ⊥). absurd h)
    | inr g ↦ breaks-off o cursor limit r g.0 r.stage r' refl staged g.1 m
  ]

  pub run-fails : (r' : Reading) (e : FeedRefusal) → Meets r.stage o (taken r) (Err e) r' → Answers o cursor limit (Err e)
  run-fails r' e m = elim runs as (λ _. Answers o cursor limit (Err e)) [
    | inl fresh ↦ at-start (Err e) r' fresh m (start-fails o cursor limit r fresh r' e)
    | inr g ↦ fails-with o cursor limit r g.0 r.stage r' e refl staged g.1 m
  ]

  pub run-none : (r' : Reading) → Meets r.stage o (taken r) (Ok Ends) r' → r'.found ≡ [] → 0 < limit → HasNoneAbove o cursor r'.end
  run-none r' m nothing asked = elim runs as (λ _. HasNoneAbove o cursor r'.end) [
    | inl fresh ↦ at-start (Ok Ends) r' fresh m (λ (h : ReadsManifest (latest_manifest o) (taken r) (Ok Ends) r').
        let none = h.1 in let is = ap (λ (x : Reading). x.limit) fresh in absurd (omega (arith, asked, none, is)))
    | inr g ↦ none-above o cursor limit r g.0 r.stage r' refl staged g.1 m nothing
  ]

  pub run-calls : IsGoing r.stage → made r.stage r + 1 ≤ most_calls cursor (latest_manifest o) o
  run-calls going = elim runs as (λ _. made r.stage r + 1 ≤ most_calls cursor (latest_manifest o) o) [
    | inl fresh ↦ subst (λ (x : Reading). made x.stage x + 1 ≤ most_calls cursor (latest_manifest o) o) (sym fresh) (one (latest_manifest o))
    | inr g ↦
        let within = steps-within o cursor limit r g.0 r.stage staged g.1 g.2 going in
        subst (λ found. made r.stage r + 1 ≤ most_calls cursor found o) (sym g.0.is_latest)
        (subst (λ m. made r.stage r + 1 ≤ 2 + length (tables_to_read cursor g.0.latest.manifest) + (last_log m o - m)) g.0.mark
        (subst (λ ids. made r.stage r + 1 ≤ 2 + length ids + (last_log r.mark o - r.mark)) g.0.tables within))
  ] where
    one : (found : Option VersionedManifest) → 0 + 1 ≤ most_calls cursor found o
    one None = omega arith
    one (Some latest) = omega arith

-- what is known of objects that are modelled
pub known : {P Q R : Objects → Type 0} (a b : Option Objects) → b ≡ a → IfSome a P → IfSome b Q → ((o : Objects) → P o → Q o → R o) → IfSome a R
known None b same p q f = tt
known {P} {Q} {R} (Some x) b same p q f = f x p (subst (λ c. IfSome c Q) same q)
