-- An opening keeps the content of sound objects, and its replay gives the handle all of it.
use Rattle.slate_errors.specs.declared.errors.SlateError.TheVariants.{WalTruncated}
use Rattle.slate_errors.specs.declared.errors.SlateError.{SlateError}
use Rattle.slate_errors.specs.declared.endings.TaskName.{TaskName}
use Rattle.slate_model.specs.Changes.{after_part}
use Rattle.slate_model.specs.Handle.{Handle, kept_handle, latest_tick}
use Rattle.slate_model.specs.Tracked.{opened_tracker, tracked_all}
use Rattle.slate_model.specs.Open.{OpenFault, first_manifest, found_log, mark_of, next_id, next_manifest, number_of, open_changes, opened_handle, opened_manifest, replayed}
use Rattle.slate_model.specs.Segments.{Extractor, extractor_name, segments_of}
use Rattle.slate_store.proofs.Committed.{committed}
use Rattle.slate_store.proofs.Entries.{absent, entry-below, insert-last}
use Rattle.slate_store.proofs.Gapless.{between-gapless, gapless-greatest, stored-gapless}
use Rattle.slate_store.proofs.Kept.{pins-after, pins-of, pins-then, prefix-same}
use Rattle.slate_store.proofs.LastLog.{at_least}
use Rattle.slate_store.proofs.Latest.{all-greatest, ids-within, its-line, its-objects, nothing_there}
use Rattle.slate_store.proofs.Logged.{appended, with_log}
use Rattle.slate_store.proofs.Logs.{SameLogs, no_gap-numbered, numbered-stand, untruncated, whole-start}
use Rattle.slate_store.specs.Content.{HasItsObjects, IsPinned, IsSound, KeepsPins, ReadsSame, StoresTable, content, content_by, logged, logs_above, number_before, table_batches}
use Rattle.slate_store.specs.Logs.{AreTruncatedAt, AreWhole, BelongTo, HaveNoGap, StandsIn, batches_between}
use Rattle.slate_store.specs.Objects.{Objects, PutLog, PutManifest, changed, empty, entry_at, last_log, latest_manifest}
use Rattle.slate_store.specs.declared.objects.Manifest.{Manifest}
use Rattle.slate_store.specs.declared.objects.VersionedManifest.{VersionedManifest}
use Rattle.slate_types.proofs.Lines.{above-drop}
use Rattle.slate_types.specs.Line.{AreNumberedFrom, Line, batches_above, end}
use Rattle.slate_types.specs.declared.batches.Batch.{Batch}
use Rattle.std.proofs.lemmas.Bool.{le-ltb, lt-ltb}
use Rattle.std.proofs.Common.{cond, is_some, ltb, ◌&&◌, ◌++◌, ◌+◌, ◌-◌, ◌<◌, ◌==◌, ◌∙◌, ◌∷◌, ◌≡◌, ◌≤◌, [], Bool, List, None, Option, Some, ap, arith, false, inl, length, length-append, map, refl, subst, suc, sym, true, zero, ℕ}
use Rattle.std.proofs.Math.Dec.{eqb-suc-zero}
use Rattle.std.proofs.Math.Seq.{drop-append_seam}
use Rattle.std.proofs.lemmas.List.Elements.{All-nil}
use Rattle.std.proofs.lemmas.List.{append-nil}
use Rattle.std.specs.Cmp.Lexicographic.{slice_cmp}
use Rattle.std.specs.FinMap.{FinMap, empty as empty_map, entries, len-empty, len-entries}
use Rattle.std.specs.List.Sorted.{IsStrictlySortedBy}
use Rattle.std.specs.Ordering.{nat_cmp}
use Rattle.std.specs.List.{All, IsDistinct, flat_map}
use Rattle.slate_errors.specs.declared.errors.SlateError.TheVariants as errors

-- What putting the manifest of an opening leaves: the content is the same, under that manifest, and checkpoints keep
-- what they kept.
record Begun (o : Objects) (v : VersionedManifest) (o' : Objects) : Type 0 where
  sound : IsSound o'
  content : content o' ≡ content o
  latest : latest_manifest o' ≡ Some v
  pins : All (ReadsSame o o') v.manifest.checkpoints

first_objects : (name : Option (List ℕ)) → HasItsObjects (changed (PutManifest 1 (first_manifest name)) empty) (record { id = 1; manifest = first_manifest name })
unfolding IsDistinct
first_objects name =
    record {
      tables = record { stored = All-nil (λ id. StoresTable (changed (PutManifest 1 (first_manifest name)) empty) id); differ = tt; joined = refl };
      logs = record { next = omega arith; stored = λ id over below. absurd (omega arith) };
      gapless = tt;
      epochs = λ k d less. absurd (omega arith);
      differ = tt;
      pinned = All-nil (λ checkpoint. IsPinned (changed (PutManifest 1 (first_manifest name)) empty) (record { id = 1; manifest = first_manifest name }) checkpoint);
    }

begun-new : (name : Option (List ℕ)) → Begun empty (record { id = 1; manifest = first_manifest name }) (changed (PutManifest 1 (first_manifest name)) empty)
unfolding IsStrictlySortedBy
begun-new name =
    record {
      sound = record {
        manifests = (tt, tt);
        nothing = λ none. absurd (cc);
        logs = tt;
        tables = tt;
        line = tt;
        latest = first_objects name;
      };
      content = refl;
      latest = refl;
      pins = All-nil (λ checkpoint. ReadsSame empty (changed (PutManifest 1 (first_manifest name)) empty) checkpoint);
    }

module _ (name : Option (List ℕ)) (o : Objects) (latest : VersionedManifest) (sound : IsSound o) (is : latest_manifest o ≡ Some latest) where
  abbrev the_last : ℕ
  the_last = last_log latest.manifest.replay_after_wal_id o

  abbrev next : VersionedManifest
  next = next_manifest name (Some latest) the_last

  abbrev o1 : Objects
  o1 = changed (PutManifest next.id next.manifest) o

  begun-again : Begun o next o1
  begun-again =
      let m = latest.manifest in
      let mark = m.replay_after_wal_id in
      let its = its-objects o latest sound is in
      let least = at_least mark (map (λ e. e.0) o.logs) in
      let count = gapless-greatest mark mark o.logs (omega arith) its.gapless in
      let put = committed o latest next.manifest sound is
      (record {
        tables = record { stored = its.tables.stored; differ = its.tables.differ; joined = its.tables.joined };
        logs = record { next = omega (arith, least); stored = λ id over below. stored-gapless mark o its.gapless id over (omega (arith, count)) };
        gapless = its.gapless;
        epoch = omega arith;
        line = its-line o latest sound is;
        begins = prefix-same (content_by o (Some latest)) (content_by o (Some latest)) refl;
        differ = its.differ;
        checkpoints = λ k d less. inl (its.pinned k d less);
      }) in
      record { sound = put.sound; content = put.content ∙ sym (ap (content_by o) is); latest = put.latest; pins = put.pins next.manifest.checkpoints }

-- one or both of the changes leave the content, under the manifest of the opening, and what checkpoints keep
pub record Opened (name : Option (List ℕ)) (o o' : Objects) : Type 0 where
  pub sound : IsSound o'
  pub content : content o' ≡ content o
  pub latest : latest_manifest o' ≡ Some (opened_manifest name o)
  pub pins : KeepsPins o o'

fence-after : (o o1 : Objects) (v : VersionedManifest) → Begun o v o1 → Begun o v (with_log o1 v.manifest [])
fence-after o o1 v b =
    let put = appended o1 v [] b.sound b.latest tt in
    record {
      sound = put.sound;
      content = put.content ∙ (ap (λ bs. record { floor = (content o1).floor; batches = bs }) (append-nil (content o1).batches) ∙ b.content);
      latest = put.latest ∙ b.latest;
      pins = pins-then o o1 (with_log o1 v.manifest []) v.manifest.checkpoints b.pins (pins-of o1 (with_log o1 v.manifest []) v (put.latest ∙ b.latest) put.pins);
    }

begun : (name : Option (List ℕ)) (o : Objects) (latest : Option VersionedManifest) → IsSound o → latest_manifest o ≡ latest → Begun o (opened_manifest name o) (changed (PutManifest (opened_manifest name o).id (opened_manifest name o).manifest) o)
begun name o None sound is =
    subst (λ o. Begun o (opened_manifest name o) (changed (PutManifest (opened_manifest name o).id (opened_manifest name o).manifest) o)) (sym (nothing_there o sound is)) (begun-new name)
begun name o (Some latest) sound is =
    subst (λ x. let v = next_manifest name x (last_log (mark_of x) o) in Begun o v (changed (PutManifest v.id v.manifest) o)) (sym is) (begun-again name o latest sound is)

-- the replay mark stays, and the last number in tables
pub mark-kept : (name : Option (List ℕ)) (latest : Option VersionedManifest) (last : ℕ) → (next_manifest name latest last).manifest.replay_after_wal_id ≡ mark_of latest
mark-kept name None last = refl
mark-kept name (Some latest) last = refl

pub number-kept : (name : Option (List ℕ)) (latest : Option VersionedManifest) (last : ℕ) → (next_manifest name latest last).manifest.last_l0_seq ≡ number_of latest
number-kept name None last = refl
number-kept name (Some latest) last = refl

opened-by : (name : Option (List ℕ)) (o o' : Objects) → Begun o (opened_manifest name o) o' → Opened name o o'
opened-by name o o' b = record { sound = b.sound; content = b.content; latest = b.latest; pins = pins-after o o' (opened_manifest name o) b.latest b.pins }

pub opened : (name : Option (List ℕ)) (o : Objects) (made : ℕ) → IsSound o → 0 < made → made ≤ 2 → Opened name o (after_part made (open_changes name (λ xs. xs) o) o)
opened name o zero sound some few = absurd (omega arith)
opened name o (suc zero) sound some few =
    let b = begun name o (latest_manifest o) sound refl in
    opened-by name o (changed (PutManifest (opened_manifest name o).id (opened_manifest name o).manifest) o) b
opened name o (suc (suc zero)) sound some few =
    let v = opened_manifest name o in
    let o1 = changed (PutManifest v.id v.manifest) o in
    let b = fence-after o o1 v (begun name o (latest_manifest o) sound refl) in
    let same : with_log o1 v.manifest [] ≡ changed (PutLog (found_log o + 1) []) o1 = ap (λ mark. changed (PutLog (last_log mark o + 1) []) o1) (mark-kept name (latest_manifest o) (found_log o)) in
    subst (Opened name o) same (opened-by name o (with_log o1 v.manifest []) b)
opened name o (suc (suc (suc made))) sound some few = absurd (omega arith)

-- the id of the manifest of an opening is free
free-by : (o : Objects) (latest : Option VersionedManifest) → IsSound o → latest_manifest o ≡ latest → is_some (entry_at (next_id latest) o.manifests) ≡ false
free-by o None sound is = rw (nothing_there o sound is) refl
free-by o (Some latest) sound is =
    let top = all-greatest latest.id 0 (map (λ e. e.0) o.manifests) (ids-within o latest sound is) in
    rw (absent (latest.id + 1) 0 o.manifests (omega (arith, top))) refl

-- what follows the first batches of a line is numbered from their end
pub numbered_rest : (floor : ℕ) (xs ys : List Batch) → AreNumberedFrom floor (xs ++ ys) → AreNumberedFrom (floor + length xs) ys
numbered_rest floor [] ys h = subst (λ n. AreNumberedFrom n ys) (omega arith) h
numbered_rest floor (x ∷ xs) ys h =
    let e : (floor + 1) + length xs ≡ floor + length (x ∷ xs) = omega arith in
    subst (λ n. AreNumberedFrom n ys) e (numbered_rest (floor + 1) xs ys h.1)

abbrev pub line_from : ℕ → List Batch → Line
line_from floor bs = record { floor = floor; batches = bs }

-- The log files of a manifest, up to the last one: they are whole, and what they have above its last number in tables
-- is a line.
pub record HasItsLine (o : Objects) (m : Manifest) (last : ℕ) : Type 0 where
  pub numbered : AreNumberedFrom m.last_l0_seq (logged o m)
  pub whole : AreWhole m.replay_after_wal_id last m.last_l0_seq (m.last_l0_seq + length (logged o m)) o
  pub belong : BelongTo m.replay_after_wal_id last m.last_l0_seq (line_from m.last_l0_seq (logged o m)) o

-- those of sound objects are so
pub logs-by : (o : Objects) (latest : VersionedManifest) → IsSound o → latest_manifest o ≡ Some latest → HasItsLine o latest.manifest (last_log latest.manifest.replay_after_wal_id o)
logs-by o latest sound is =
    let m = latest.manifest in
    let mark = m.replay_after_wal_id in
    let last = last_log mark o in
    let its = its-objects o latest sound is in
    let gapless = its.gapless in
    let tables = table_batches o m.tables in
    let numbered = subst (λ n. AreNumberedFrom n (logged o m)) its.tables.joined (numbered_rest (number_before tables m.last_l0_seq) tables (logged o m) (its-line o latest sound is)) in
    let count = gapless-greatest mark mark o.logs (omega arith) gapless in
    let all = flat_map (λ log. log.1) (logs_above mark o) in
    let read : batches_between mark last o ≡ all = between-gapless mark o gapless last (omega (arith, count)) in
    record {
      numbered = numbered;
      whole = record {
        stored = λ id over within none. stored-gapless mark o gapless id over (omega (arith, count)) none;
        no_gap = subst (HaveNoGap m.last_l0_seq (m.last_l0_seq + length (logged o m))) (sym read) (no_gap-numbered m.last_l0_seq m.last_l0_seq all (omega arith) numbered);
      };
      belong = subst (λ xs. All (λ b. StandsIn b (line_from m.last_l0_seq (logged o m))) (batches_above m.last_l0_seq xs)) (sym read) (numbered-stand m.last_l0_seq (logged o m) numbered);
    }

logs-from : (name : Option (List ℕ)) (o : Objects) (latest : Option VersionedManifest) → IsSound o → latest_manifest o ≡ latest → let last = last_log (mark_of latest) o in HasItsLine o (next_manifest name latest last).manifest last
logs-from name o None sound is =
    subst (λ o. HasItsLine o (first_manifest name) (last_log 0 o)) (sym (nothing_there o sound is))
    (record { numbered = tt; whole = whole-start 0 0 empty; belong = numbered-stand 0 [] tt })
logs-from name o (Some latest) sound is =
    let its = logs-by o latest sound is in
    record { numbered = its.numbered; whole = its.whole; belong = its.belong }

-- also those that an opening replays
pub opened-logs : (name : Option (List ℕ)) (o : Objects) → IsSound o → HasItsLine o (opened_manifest name o).manifest (found_log o)
opened-logs name o sound = logs-from name o (latest_manifest o) sound refl

-- sound objects bring about none of the errors that only unsound ones do
pub no-fault : (o : Objects) (e : SlateError) → IsSound o → OpenFault o e → ⊥
no-fault o (errors.WalTruncated id) sound fault =
    let latest = latest_manifest o in
    let last = found_log o in
    let m = (opened_manifest None o).manifest in
    let its = opened-logs None o sound in
    let by_mark = subst (λ mark. AreTruncatedAt id mark last (number_of latest) fault.0 o) (sym (mark-kept None latest last)) fault.1 in
    let truncated = subst (λ number. AreTruncatedAt id m.replay_after_wal_id last number fault.0 o) (sym (number-kept None latest last)) by_mark in
    untruncated id m.replay_after_wal_id last m.last_l0_seq (m.last_l0_seq + length (logged o m)) fault.0 o its.whole truncated
no-fault o errors.TransactionalObjectVersionExists sound fault = absurd (let free = free-by o (latest_manifest o) sound refl in cc)
no-fault o e sound fault = absurd fault

-- the changes of an opening leave the log files that it replays
pub opening-logs : (name : Option (List ℕ)) (mark : ℕ) (o : Objects) → SameLogs mark (found_log o) o (after_part 2 (open_changes name (λ xs. xs) o) o)
opening-logs name mark o id over within =
    ap (entry_at id) (insert-last (found_log o + 1) (mark_of (latest_manifest o)) [] o.logs (omega arith)) ∙ entry-below id (found_log o + 1) [] o.logs (omega arith)

pub and_right : (a b : Bool) → (a && b) ≡ true → b ≡ true
and_right true b h = h
and_right false b h = absurd (cc)

pub no-tables : {X : Type 0} (tables : List X) → (length tables == 0) ≡ true → tables ≡ []
no-tables [] h = refl
no-tables (t ∷ tables) h = absurd (let no = eqb-suc-zero (length tables) in cc)

-- the content of objects whose latest manifest names no table is what its log files have above the last number in
-- tables
pub content-logged : (o : Objects) (latest : VersionedManifest) → latest.manifest.tables ≡ [] → content_by o (Some latest) ≡ line_from latest.manifest.last_l0_seq (logged o latest.manifest)
content-logged o latest none =
    let m = latest.manifest in
    ap (λ ids. line_from (number_before (table_batches o ids) m.last_l0_seq) (table_batches o ids ++ logged o m)) none

-- The content of sound objects has, above the last number in tables, what the log files have, and ends with that.
record EndsWith (l : Line) (n : ℕ) (logs : List Batch) : Type 0 where
  above : batches_above n l.batches ≡ logs
  ended : end l ≡ n + length logs

ends-with : (name : Option (List ℕ)) (o : Objects) (latest : Option VersionedManifest) → IsSound o → latest_manifest o ≡ latest → let m = (next_manifest name latest (last_log (mark_of latest) o)).manifest in EndsWith (content_by o latest) m.last_l0_seq (logged o m)
ends-with name o None sound is =
    subst (λ o. EndsWith (line_from 0 []) 0 (logged o (first_manifest name))) (sym (nothing_there o sound is)) (record { above = refl; ended = refl })
ends-with name o (Some latest) sound is =
    let m = latest.manifest in
    let joined = table_batches o m.tables in
    let floor = number_before joined m.last_l0_seq in
    let its = its-objects o latest sound is in
    let count = length-append joined (logged o m) in
    let j : floor + length joined ≡ m.last_l0_seq = its.tables.joined in
    record {
      above = above-drop floor m.last_l0_seq (length joined) (joined ++ logged o m) (its-line o latest sound is) j ∙ drop-append_seam joined (logged o m);
      ended = omega (arith, count, j);
    }

abbrev none_at_all : FinMap (slice_cmp nat_cmp) (Unit {0})
none_at_all = empty_map

no_items : {X : Type 0} (xs : List X) → length xs ≡ 0 → xs ≡ []
no_items [] none = refl
no_items (x ∷ xs) none = absurd (omega (arith, none))

-- no batch has no segment
pub segments-none : (x : Option Extractor) → segments_of x [] ≡ []
segments-none None = refl
segments-none (Some x) =
    let few : length (entries none_at_all) ≡ 0 = sym (len-entries none_at_all) ∙ len-empty (slice_cmp nat_cmp) (Unit {0}) in
    ap (λ es. map (λ (e : List ℕ × Unit {0}). e.0) es) (no_items (entries none_at_all) few)

-- so the segments of batches of which none is left are none
segments-left : (x : Option Extractor) (n : ℕ) (bs : List Batch) → cond (ltb n (n + length bs)) (segments_of x bs) [] ≡ segments_of x bs
segments-left x n [] = ap (λ c. cond c (segments_of x []) []) (le-ltb n (n + 0) (omega arith)) ∙ sym (segments-none x)
segments-left x n (b ∷ bs) = ap (λ c. cond c (segments_of x (b ∷ bs)) []) (lt-ltb n (n + length (b ∷ bs)) (omega arith))

-- the handle of an opening that replayed these batches, as the code keeps it
abbrev pub recovered : Option Extractor → Bool → ℕ → List TaskName → VersionedManifest → List Batch → Handle
recovered x keeps_log limit tasks v bs =
    record {
      keeps_log = keeps_log;
      limit = limit;
      line = line_from v.manifest.last_l0_seq bs;
      segments = segments_of x bs;
      durable = v.manifest.last_l0_seq + length bs;
      epoch = v.manifest.writer_epoch;
      counter = 0;
      tick = latest_tick v.manifest.last_tick bs;
      tracker = tracked_all (opened_tracker v.manifest) bs;
      writes = None;
      view = v;
      result = None;
      tasks = tasks;
    }

-- over sound objects it is kept of the one whose line is their content
pub recovered-is : (x : Option Extractor) (keeps_log : Bool) (limit : ℕ) (tasks : List TaskName) (o : Objects) → IsSound o → let v = opened_manifest (extractor_name x) o in recovered x keeps_log limit tasks v (logged o v.manifest) ≡ kept_handle (opened_handle x keeps_log limit tasks v (content o))
recovered-is x keeps_log limit tasks o sound =
    let v = opened_manifest (extractor_name x) o in
    let n = v.manifest.last_l0_seq in
    let bs = logged o v.manifest in
    let ends = ends-with (extractor_name x) o (latest_manifest o) sound refl in
    let above = batches_above n (content o).batches in
    let kept : ℕ → List Batch → ℕ → Handle = λ floor xs durable.
    record (recovered x keeps_log limit tasks v xs) { line = line_from floor xs; segments = cond (ltb n durable) (segments_of x xs) []; durable = durable } in
    let e = ends.ended in
    let count : length above ≡ length bs = ap length ends.above in
    let floor : end (content o) - length above ≡ n = omega (arith, e, count) in
    let by_line = ap (λ k. kept k above (end (content o))) floor ∙ (ap (λ xs. kept n xs (end (content o))) ends.above ∙ ap (kept n bs) ends.ended) in
    sym (by_line ∙ ap (λ segments. record (recovered x keeps_log limit tasks v bs) { segments = segments }) (segments-left x n bs))

-- its batches are those that an opening replays of their content
pub replayed-is : (name : Option (List ℕ)) (o : Objects) → IsSound o → let v = opened_manifest name o in replayed v (content o) ≡ logged o v.manifest
replayed-is name o sound = (ends-with name o (latest_manifest o) sound refl).above
