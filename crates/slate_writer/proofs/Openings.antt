-- The calls of an opening, one after another, make an opening of the model.
use Rattle.std.proofs.Common.{cond, ltb, ◌<◌, is_some, ◌⊎◌, ◌≡◌, ℕ, ℤ, ◌+◌, ◌-◌, ◌≤◌, Bool, List, [], length, Option, Some, None, Result, Ok, Err, true, false, refl, sym, subst, ap, inl, inr, ◌∙◌, arith}
use Rattle.std.specs.Option.{IfSome}
use Rattle.slate_types.specs.declared.batches.Batch.{Batch}
use Rattle.slate_types.specs.Line.{Line}
use Rattle.slate_store.specs.declared.objects.VersionedManifest.{VersionedManifest}
use Rattle.slate_types.specs.declared.store_errors.StoreError.{StoreError}
use Rattle.slate_types.specs.declared.store_errors.StoreError.TheVariants as refusals
use Rattle.slate_types.specs.declared.store_errors.StoreFault.TheVariants.{Unavailable}
use Rattle.slate_store.specs.Calls.{Puts, WhereModelled}
use Rattle.slate_store.specs.Content.{IsSound, content, logged}
use Rattle.slate_store.proofs.Logs.{truncated-same}
use Rattle.slate_replay.proofs.Recovered.{recovered-all, replays-same}
use Rattle.slate_replay.specs.declared.replays.Replayed.TheVariants.{Whole}
use Rattle.slate_replay.specs.Replay.{Replays, calls_after}
use Rattle.slate_store.specs.Objects.{Objects, Change, PutManifest, PutLog, is_present}
use Rattle.slate_seqtrack.specs.Tracker.{Tracker}
use Rattle.slate_errors.specs.Errors.{error_of_store}
use Rattle.slate_errors.specs.declared.endings.TaskName.{TaskName}
use Rattle.slate_errors.specs.declared.errors.SlateError.{SlateError}
use Rattle.slate_errors.specs.declared.errors.SlateError.TheVariants as errors
use Rattle.slate_model.specs.Changes.{after_part}
use Rattle.slate_model.specs.Open.{AreSegmented, IsFresh, OpenCause, OpenFault, Opens, OpensHandle, found_log, log_refusal, manifest_refusal, mark_of, next_id, next_manifest, number_of, open_changes, open_refusal, opened_handle, opened_manifest, replayed, replayed_logs}
use Rattle.slate_model.specs.Segments.{Extractor, extractor_name, ops_of, segments_of, unsegmented_refusal}
use Rattle.slate_store.specs.Logs.{AreTruncatedAt}
use Rattle.slate_store.specs.Objects.{changed, entry_at, last_log, latest_manifest}
use Rattle.slate_model.specs.Write.{last_number}
use Rattle.std.specs.Option.{option_or}
use Rattle.std.proofs.lemmas.Bool.{le-ltb, lt-ltb}
use Rattle.slate_store.proofs.Entries.{absent}
use Rattle.slate_model.proofs.Newest.{newest}
use Rattle.slate_model.proofs.Reopened.{mark-kept, number-kept, opened-logs, opening-logs, recovered, recovered-is, replayed-is}
use Rattle.slate_model.specs.Handle.{Handle, kept_handle, latest_tick}
use Rattle.slate_model.specs.Known.{CountsFaults, IsContent, Known}
use Rattle.slate_model.specs.Stores.{by_objects}
use Rattle.std.specs.Prelude.{unwrap_or}
use Rattle.slate_store.specs.declared.objects.Manifest.{Manifest}
use Rattle.slate_model.specs.Tracked.{no_times, opened_tracker, stored_tracker, tracked_all}
use Rattle.slate_writer.proofs.Modelled.{made_once, modelled_from, modelled_kept}
use Rattle.slate_writer.specs.Opening.{CallsOpening, FindsLog, FindsNext, IsOfFinding, IsOfManifest, PutsOpening, Recovers, opening_puts}
use Rattle.slate_segments.specs.Refusals.{IsOfSegment}

-- a put of the fence that was refused, after that of the manifest
pub puts_fence : (view : VersionedManifest) (fence : ℕ) (o o1 o2 : Objects) (e : StoreError) → o1 ≡ changed (PutManifest view.id view.manifest) o → Puts (PutLog fence []) (Err e) o1 o2 → PutsOpening view fence (Err (error_of_store e)) o o2
puts_fence view fence o o1 o2 refusals.Exists first h =
    inr (subst (λ x. is_present (PutLog fence []) x ≡ true) first h.0, h.1 ∙ first)
puts_fence view fence o o1 o2 refusals.Failed first (inl h) = (1, omega arith, h ∙ first)
puts_fence view fence o o1 o2 refusals.Failed first (inr h) = (2, omega arith, h.1 ∙ ap (changed (PutLog fence [])) first)
puts_fence view fence o o1 o2 refusals.NotFound first h = absurd h
puts_fence view fence o o1 o2 refusals.NoMemory first h = (1, omega arith, h ∙ first)

-- the id of the manifest of an opening
id-is : (name : Option (List ℕ)) (latest : Option VersionedManifest) (last : ℕ) → (next_manifest name latest last).id ≡ next_id latest
id-is name None last = refl
id-is name (Some latest) last = refl

-- nothing stands under the id after the last log file
fence_free : (o : Objects) → is_present (PutLog (found_log o + 1) []) o ≡ false
fence_free o = rw (absent (found_log o + 1) (mark_of (latest_manifest o)) o.logs (omega arith)) refl

-- an opening, where a log file is its batches
abbrev pub OpensModelled : {A : Type 0} → Option Extractor → Objects → Result A SlateError → Objects → Type 0
OpensModelled x o r o' = (made : ℕ) × Opens x (λ batches. batches) (OpenFault o) o r made o'

module _ (name : Option (List ℕ)) (o : Objects) (view : VersionedManifest) (last : ℕ) (found : FindsNext name o (view, last)) where
  changes-are : opening_puts view (last + 1) ≡ open_changes name (λ xs. xs) o
  changes-are = ap (λ v. opening_puts v (last + 1)) found.0 ∙ ap (λ n. opening_puts (opened_manifest name o) (n + 1)) found.1

  after-are : (made : ℕ) → after_part made (opening_puts view (last + 1)) o ≡ after_part made (open_changes name (λ xs. xs) o) o
  after-are made = ap (λ (cs : List Change). after_part made cs o) changes-are

  -- both were put
  module _ (o1 : Objects) (after : o1 ≡ after_part 2 (opening_puts view (last + 1)) o) where
    both : o1 ≡ after_part 2 (open_changes name (λ xs. xs) o) o
    both = after ∙ after-are 2

    recovers-after : (r : Result (List Batch) SlateError) → Recovers view last o1 r → Recovers (opened_manifest name o) (found_log o) (after_part 2 (open_changes name (λ xs. xs) o) o) r
    recovers-after r h =
        subst (λ x. Recovers (opened_manifest name o) (found_log o) x r) both
        (subst (λ n. Recovers (opened_manifest name o) n o1 r) found.1 (subst (λ v. Recovers v last o1 r) found.0 h))

    -- an opening that replayed the log files
    replayed_so : (batches : List Batch) → Recovers view last o1 (Ok batches) → let m = (opened_manifest name o).manifest in Replays m.replay_after_wal_id (found_log o) m.last_l0_seq [] batches o (Ok Whole)
    replayed_so batches h =
        let m = (opened_manifest name o).manifest in
        replays-same m.replay_after_wal_id (found_log o) m.last_l0_seq [] batches o (after_part 2 (open_changes name (λ xs. xs) o) o) Whole (opening-logs name m.replay_after_wal_id o) (recovers-after (Ok batches) h)

    pub opened_by_replay : (batches : List Batch) → Recovers view last o1 (Ok batches) → let latest = latest_manifest o in Replays (mark_of latest) (found_log o) (number_of latest) [] batches o (Ok Whole)
    opened_by_replay batches h =
        let latest = latest_manifest o in
        let last = found_log o in
        subst (λ mark. Replays mark last (number_of latest) [] batches o (Ok Whole)) (mark-kept name latest last)
        (subst (λ number. Replays (opened_manifest name o).manifest.replay_after_wal_id last number [] batches o (Ok Whole)) (number-kept name latest last) (replayed_so batches h))

    -- of sound objects, these are their content above the last number in tables
    pub batches_by_recovery : (batches : List Batch) → Recovers view last o1 (Ok batches) → IsSound o → batches ≡ logged o (opened_manifest name o).manifest
    batches_by_recovery batches h sound =
        let m = (opened_manifest name o).manifest in
        let its = opened-logs name o sound in
        (recovered-all m.replay_after_wal_id (found_log o) m.last_l0_seq (logged o m) batches o its.whole its.belong Whole (replayed_so batches h)).0

-- an opening with an extractor that nothing stands against
module _ (x : Option Extractor) (o : Objects) (view : VersionedManifest) (last : ℕ) (found : FindsNext (extractor_name x) o (view, last)) (fits : open_refusal x o ≡ None) where
  abbrev name : Option (List ℕ)
  name = extractor_name x

  -- that broke off in its puts
  pub opens_by_puts : {A : Type 0} (o' : Objects) (e : SlateError) → PutsOpening view (last + 1) (Err e) o o' → OpensModelled {A = A} x o (Err e) o'
  opens_by_puts o' errors.TransactionalObjectVersionExists (inl taken) =
      let at : is_some (entry_at (opened_manifest name o).id o.manifests) ≡ true = subst (λ (v : VersionedManifest). is_some (entry_at v.id o.manifests) ≡ true) found.0 taken.0 in
      (0, record { answer = subst (λ id. is_some (entry_at id o.manifests) ≡ true) (id-is name (latest_manifest o) (found_log o)) at; part = omega arith; only = tt; can = λ _. fits; after = taken.1 })
  opens_by_puts o' errors.TransactionalObjectVersionExists (inr taken) =
      let free = fence_free o in
      let taken_at : is_present (PutLog (found_log o + 1) []) o ≡ true = subst (λ n. is_present (PutLog (n + 1) []) o ≡ true) found.1 taken.0 in
      absurd (cc)
  opens_by_puts o' (errors.ObjectStoreError Unavailable) part =
      (part.0, record { answer = tt; part = part.1; only = tt; can = λ _. fits; after = part.2 ∙ after-are name o view last found part.0 })
  opens_by_puts o' errors.NoMemory part =
      (part.0, record { answer = tt; part = part.1; only = tt; can = λ _. fits; after = part.2 ∙ after-are name o view last found part.0 })
  opens_by_puts o' e h = absurd h

  module _ (o1 : Objects) (after : o1 ≡ after_part 2 (opening_puts view (last + 1)) o) where
    all_put : o1 ≡ after_part 2 (open_changes name (λ xs. xs) o) o
    all_put = both name o view last found o1 after

    -- that broke off in its replay
    pub opens_by_recovery : {A : Type 0} (e : SlateError) → Recovers view last o1 (Err e) → OpensModelled {A = A} x o (Err e) o1
    opens_by_recovery (errors.WalTruncated id) h =
        let latest = latest_manifest o in
        let m = (opened_manifest name o).manifest in
        let cut = recovers-after name o view last found o1 after (Err (errors.WalTruncated id)) h in
        let cut_before = truncated-same id m.replay_after_wal_id (found_log o) m.last_l0_seq cut.0 o (after_part 2 (open_changes name (λ xs. xs) o) o) (opening-logs name m.replay_after_wal_id o) cut.1 in
        let by_mark = subst (λ mark. AreTruncatedAt id mark (found_log o) m.last_l0_seq cut.0 o) (mark-kept name latest (found_log o)) cut_before in
        let cut_here = subst (λ number. AreTruncatedAt id (mark_of latest) (found_log o) number cut.0 o) (number-kept name latest (found_log o)) by_mark in
        (2, record { answer = (cut.0, cut_here); part = omega arith; only = refl; can = λ _. fits; after = all_put })
    opens_by_recovery errors.Fenced h =
        let newer = recovers-after name o view last found o1 after (Err errors.Fenced) h in
        let top = newest name o newer.0 newer.1 in
        let above = newer.2 in
        absurd (omega (arith, top, above))
    opens_by_recovery (errors.ObjectStoreError Unavailable) h =
        (2, record { answer = tt; part = omega arith; only = tt; can = λ _. fits; after = all_put })
    opens_by_recovery errors.NoMemory h =
        (2, record { answer = tt; part = omega arith; only = tt; can = λ _. fits; after = all_put })
    opens_by_recovery e h = absurd h

    -- that found a key without a segment
    pub opens_by_segments : {A : Type 0} (e : SlateError) → IsOfSegment e → OpensModelled {A = A} x o (Err e) o1
    opens_by_segments (errors.EmptySegmentPrefix key) h =
        (2, record { answer = fits; part = omega arith; only = refl; can = λ _. fits; after = all_put })
    opens_by_segments errors.NoMemory h =
        (2, record { answer = tt; part = omega arith; only = tt; can = λ _. fits; after = all_put })
    opens_by_segments e h = absurd h

    -- of sound objects its handle is kept of the one that sees their content
    pub opened_by_recovery : (keeps_log : Bool) (limit : ℕ) (tasks : List TaskName) (batches : List Batch) → Recovers view last o1 (Ok batches) → IsSound o → recovered x keeps_log limit tasks view batches ≡ kept_handle (opened_handle x keeps_log limit tasks (opened_manifest name o) (content o))
    opened_by_recovery keeps_log limit tasks batches h sound =
        ap (λ v. recovered x keeps_log limit tasks v batches) found.0
        ∙ (ap (recovered x keeps_log limit tasks (opened_manifest name o)) (batches_by_recovery name o view last found o1 after batches h sound) ∙ recovered-is x keeps_log limit tasks o sound)

    -- and what it replays is that content
    pub segmented_by_recovery : (batches : List Batch) (r : Result Handle SlateError) → Recovers view last o1 (Ok batches) → IsSound o → AreSegmented x batches r → AreSegmented x (replayed (opened_manifest name o) (content o)) r
    segmented_by_recovery batches r h sound =
        subst (λ bs. AreSegmented x bs r) (batches_by_recovery name o view last found o1 after batches h sound ∙ sym (replayed-is name o sound))

-- what is said of objects that may be modelled, of those that are
some_at : {t : Option Objects} (P : Objects → Type 0) → IfSome t P → (o : Objects) → t ≡ Some o → P o
some_at {t} P h o is = subst (λ x. IfSome x P) is h

-- the same of the calls of an opening, one after the other
module _ {t t0 : Option Objects} (x : Option Extractor) (view : VersionedManifest) (last : ℕ) (found : IfSome t (λ o. FindsNext (extractor_name x) o (view, last))) (fits : IfSome t (λ o. open_refusal x o ≡ None)) (kept : t0 ≡ t) where
  pub puts_modelled : {A : Type 0} {t1 : Option Objects} (e : SlateError) → WhereModelled (PutsOpening view (last + 1) (Err e)) t0 t1 → WhereModelled (λ o o'. OpensModelled {A = A} x o (Err e) o') t t1
  puts_modelled e puts = modelled_from kept puts (λ o o' is h. opens_by_puts x o view last (some_at _ found o is) (some_at _ fits o is) o' e h)

  module _ {t1 : Option Objects} (puts : WhereModelled (PutsOpening view (last + 1) (Ok tt)) t0 t1) where
    pub recovery_modelled : {A : Type 0} {t2 : Option Objects} (e : SlateError) → t2 ≡ t1 → IfSome t1 (λ o. Recovers view last o (Err e)) → WhereModelled (λ o o'. OpensModelled {A = A} x o (Err e) o') t t2
    recovery_modelled e kept2 recovers = record {
      none = λ h. kept2 ∙ puts.none (kept ∙ h);
      some = λ o is.
          let p = puts.some o (kept ∙ is) in
          (p.0, kept2 ∙ p.1, opens_by_recovery x o view last (some_at _ found o is) (some_at _ fits o is) p.0 p.2 e (some_at _ recovers p.0 p.1));
    }

    pub segments_modelled : {A : Type 0} {t2 : Option Objects} (e : SlateError) → t2 ≡ t1 → IsOfSegment e → WhereModelled (λ o o'. OpensModelled {A = A} x o (Err e) o') t t2
    segments_modelled e kept2 kind = record {
      none = λ h. kept2 ∙ puts.none (kept ∙ h);
      some = λ o is.
          let p = puts.some o (kept ∙ is) in
          (p.0, kept2 ∙ p.1, opens_by_segments x o view last (some_at _ found o is) (some_at _ fits o is) p.0 p.2 e kind);
    }

    -- the puts of an opening, and the replay after them
    pub opened_modelled : {t2 : Option Objects} (h : Handle) → t2 ≡ t1 → WhereModelled (λ o o'. OpensModelled x o (Ok h) o') t t2
    opened_modelled h kept2 = record {
      none = λ is. kept2 ∙ puts.none (kept ∙ is);
      some = λ o is.
          let p = puts.some o (kept ∙ is) in
          let f = some_at _ fits o is in
          (p.0, kept2 ∙ p.1, (2, record { answer = f; part = refl; only = tt; can = λ _. f; after = p.2 ∙ after-are (extractor_name x) o view last (some_at _ found o is) 2 }));
    }

    pub recovered_modelled : (keeps_log : Bool) (limit : ℕ) (tasks : List TaskName) (batches : List Batch) → IfSome t1 (λ o. Recovers view last o (Ok batches)) → (o : Objects) → t ≡ Some o → IsSound o →
        recovered x keeps_log limit tasks view batches ≡ kept_handle (opened_handle x keeps_log limit tasks (opened_manifest (extractor_name x) o) (content o))
    recovered_modelled keeps_log limit tasks batches recovers o is sound =
        let p = puts.some o (kept ∙ is) in
        opened_by_recovery x o view last (some_at _ found o is) (some_at _ fits o is) p.0 p.2 keeps_log limit tasks batches (some_at _ recovers p.0 p.1) sound

    pub segmented_modelled : (batches : List Batch) (r : Result Handle SlateError) → IfSome t1 (λ o. Recovers view last o (Ok batches)) → AreSegmented x batches r → (o : Objects) → t ≡ Some o → IsSound o →
        AreSegmented x (replayed (opened_manifest (extractor_name x) o) (content o)) r
    segmented_modelled batches r recovers segmented o is sound =
        let p = puts.some o (kept ∙ is) in
        segmented_by_recovery x o view last (some_at _ found o is) (some_at _ fits o is) p.0 p.2 batches r (some_at _ recovers p.0 p.1) sound segmented

    pub whole_modelled : (batches : List Batch) → IfSome t1 (λ o. Recovers view last o (Ok batches)) → unsegmented_refusal x (ops_of batches) ≡ None → (o : Objects) → t ≡ Some o → IsSound o →
        unsegmented_refusal x (ops_of (replayed (opened_manifest (extractor_name x) o) (content o))) ≡ None
    whole_modelled batches recovers all o is sound =
        let p = puts.some o (kept ∙ is) in
        let name = extractor_name x in
        subst (λ bs. unsegmented_refusal x (ops_of bs) ≡ None) (batches_by_recovery name o view last (some_at _ found o is) p.0 p.2 batches (some_at _ recovers p.0 p.1) sound ∙ sym (replayed-is name o sound)) all

-- what an opening replayed of a store that may be modelled
pub has_logs : {t t0 t1 : Option Objects} (name : Option (List ℕ)) (view : VersionedManifest) (last : ℕ) (batches : List Batch) → IfSome t (λ o. FindsNext name o (view, last)) → t0 ≡ t → WhereModelled (PutsOpening view (last + 1) (Ok tt)) t0 t1 → IfSome t1 (λ o. Recovers view last o (Ok batches)) →
    IfSome t (λ o. let latest = latest_manifest o in Replays (mark_of latest) (found_log o) (number_of latest) [] batches o (Ok Whole))
has_logs {t = None} named view last batches found kept puts recovers = tt
has_logs {t = Some o} named view last batches found kept puts recovers =
    let p = puts.some o kept in
    opened_by_replay named o view last found p.0 p.2 batches (some_at _ recovers p.0 p.1)

-- the fields of the handle of an opening
pub recovered_at : (x : Option Extractor) (keeps_log : Bool) (limit : ℕ) (tasks : List TaskName) (view : VersionedManifest) (batches bs : List Batch) (segments : List (List ℕ)) (tick : ℤ) (tracker : Tracker) (running : List TaskName) → bs ≡ batches → segments ≡ segments_of x batches → tick ≡ latest_tick view.manifest.last_tick batches → tracker ≡ tracked_all (opened_tracker view.manifest) batches → running ≡ tasks →
    record (recovered x keeps_log limit tasks view batches) { segments = segments; durable = view.manifest.last_l0_seq + length bs; tick = tick; tracker = tracker; tasks = running } ≡ recovered x keeps_log limit tasks view batches
recovered_at x keeps_log limit tasks view batches bs segments tick tracker running same segmented is untracked run = rw (same, segmented, is, untracked, run) refl

pub opened-tracker : (m : Manifest) (t : Tracker) → stored_tracker m ≡ Some t → opened_tracker m ≡ t
opened-tracker m t is = ap (λ o. unwrap_or o no_times) is

-- the manifest that was found is the one that the opening commits
pub found_view : {t : Option Objects} (name : Option (List ℕ)) (view : VersionedManifest) (last : ℕ) → IfSome t (λ o. FindsNext name o (view, last)) → (o : Objects) → t ≡ Some o → view ≡ opened_manifest name o
found_view named view last found o is = (some_at _ found o is).0

-- an opening that can't go on before it puts anything
opens_none : {A : Type 0} (x : Option Extractor) (o : Objects) (e : SlateError) → IsOfFinding e → OpenCause x (λ _. ⊥) o e → OpensModelled {A = A} x o (Err e) o
opens_none x o errors.InvalidDBState kind cause = (0, record { answer = cause; part = omega arith; only = refl; can = λ some. absurd (omega (arith, some)); after = refl })
opens_none x o (errors.SegmentExtractorMismatch persisted configured) kind cause = (0, record { answer = cause; part = refl; only = tt; can = λ some. absurd (omega (arith, some)); after = refl })
opens_none x o (errors.SegmentPrefixNotRecognized prefix name) kind cause = (0, record { answer = cause; part = refl; only = tt; can = λ some. absurd (omega (arith, some)); after = refl })
opens_none x o (errors.ObjectStoreError Unavailable) kind cause = (0, record { answer = tt; part = omega arith; only = tt; can = λ some. absurd (omega (arith, some)); after = refl })
opens_none x o errors.NoMemory kind cause = (0, record { answer = tt; part = omega arith; only = tt; can = λ some. absurd (omega (arith, some)); after = refl })
opens_none x o e kind cause = absurd kind

pub none_modelled : {A : Type 0} {t t' : Option Objects} (x : Option Extractor) (e : SlateError) → t' ≡ t → IsOfFinding e → IfSome t (λ o. OpenCause x (λ _. ⊥) o e) → WhereModelled (λ o o'. OpensModelled {A = A} x o (Err e) o') t t'
none_modelled x e kept kind cause = modelled_kept kept (λ o is. opens_none x o e kind (some_at _ cause o is))

-- an opening that has no memory for its tracker or its name
pub untracked_modelled : {A : Type 0} (x : Option Extractor) (t : Option Objects) → WhereModelled (λ o o'. OpensModelled {A = A} x o (Err errors.NoMemory) o') t t
untracked_modelled x t = modelled_kept refl (λ o is. opens_none x o errors.NoMemory tt tt)

-- an opening that the latest manifest stands against, or the last log file
refusal-fits : (x : Option Extractor) (o : Objects) (e : SlateError) → open_refusal x o ≡ Some e → IsOfManifest e → OpenCause x (λ _. ⊥) o e
refusal-fits x o errors.InvalidDBState is kind = is
refusal-fits x o (errors.SegmentExtractorMismatch persisted configured) is kind = is
refusal-fits x o (errors.SegmentPrefixNotRecognized prefix name) is kind = is
refusal-fits x o e is kind = absurd kind

pub refused-fits : (t : Option Objects) (x : Option Extractor) (latest : Option VersionedManifest) (e : SlateError) → IfSome t (λ o. latest ≡ latest_manifest o) → manifest_refusal x latest ≡ Some e → IsOfManifest e → IfSome t (λ o. OpenCause x (λ _. ⊥) o e)
refused-fits None x latest e found is kind = tt
refused-fits (Some o) x latest e found is kind =
    refusal-fits x o e (ap (λ m. option_or (manifest_refusal x m) (log_refusal (found_log o))) (sym found) ∙ ap (λ r. option_or r (log_refusal (found_log o))) is) kind

log-fits : (x : Option Extractor) (o : Objects) (e : SlateError) → manifest_refusal x (latest_manifest o) ≡ None → FindsLog (mark_of (latest_manifest o)) o (Err e) → OpenCause x (λ _. ⊥) o e
log-fits x o errors.InvalidDBState is last =
    let none : ltb (found_log o) last_number ≡ false = le-ltb (found_log o) last_number last in
    ap (λ r. option_or r (log_refusal (found_log o))) is ∙ ap (λ b. cond b None (Some errors.InvalidDBState)) none
log-fits x o (errors.ObjectStoreError Unavailable) is last = tt
log-fits x o errors.NoMemory is last = tt
log-fits x o e is last = absurd last

pub unlogged-fits : (t t' : Option Objects) (x : Option Extractor) (latest : Option VersionedManifest) (e : SlateError) → IfSome t (λ o. latest ≡ latest_manifest o) → manifest_refusal x latest ≡ None → t' ≡ t → IfSome t' (λ o. FindsLog (mark_of latest) o (Err e)) → IfSome t (λ o. OpenCause x (λ _. ⊥) o e)
unlogged-fits None t' x latest e found is kept last = tt
unlogged-fits (Some o) t' x latest e found is kept last =
    let here : FindsLog (mark_of latest) o (Err e) = subst (λ y. IfSome y (λ o. FindsLog (mark_of latest) o (Err e))) kept last in
    log-fits x o e (ap (manifest_refusal x) (sym found) ∙ is) (subst (λ m. FindsLog (mark_of m) o (Err e)) found here)

-- an error that isn't of a key without a segment says nothing of the keys
pub segmented_finding : (x : Option Extractor) (batches : List Batch) (e : SlateError) → IsOfFinding e → AreSegmented {A = Handle} x batches (Err e)
segmented_finding x batches (errors.EmptySegmentPrefix key) h = absurd h
segmented_finding x batches e h = tt

segmented_puts : (x : Option Extractor) (batches : List Batch) (view : VersionedManifest) (fence : ℕ) (e : SlateError) (o o' : Objects) → PutsOpening view fence (Err e) o o' → AreSegmented {A = Handle} x batches (Err e)
segmented_puts x batches view fence (errors.EmptySegmentPrefix key) o o' h = absurd h
segmented_puts x batches view fence e o o' h = tt

pub segmented_putting : {t t0 t1 : Option Objects} (x : Option Extractor) (view : VersionedManifest) (fence : ℕ) (e : SlateError) → t0 ≡ t → WhereModelled (PutsOpening view fence (Err e)) t0 t1 → (o : Objects) (batches : List Batch) → t ≡ Some o → AreSegmented {A = Handle} x batches (Err e)
segmented_putting x view fence e kept puts o batches is = let p = puts.some o (kept ∙ is) in segmented_puts x batches view fence e o p.0 p.2

segmented_recovery : (x : Option Extractor) (batches : List Batch) (view : VersionedManifest) (last : ℕ) (e : SlateError) (o : Objects) → Recovers view last o (Err e) → AreSegmented {A = Handle} x batches (Err e)
segmented_recovery x batches view last (errors.EmptySegmentPrefix key) o h = absurd h
segmented_recovery x batches view last e o h = tt

pub segmented_recovering : {t t0 t1 : Option Objects} (x : Option Extractor) (view : VersionedManifest) (last fence : ℕ) (e : SlateError) → t0 ≡ t → WhereModelled (PutsOpening view fence (Ok tt)) t0 t1 → IfSome t1 (λ o. Recovers view last o (Err e)) → (o : Objects) (batches : List Batch) → t ≡ Some o → AreSegmented {A = Handle} x batches (Err e)
segmented_recovering x view last fence e kept puts recovers o batches is =
    let p = puts.some o (kept ∙ is) in segmented_recovery x batches view last e p.0 (some_at _ recovers p.0 p.1)

-- a key without a segment is named
pub segmented_refusing : (x : Option Extractor) (batches : List Batch) (e : SlateError) → (e ≡ errors.NoMemory) ⊎ (unsegmented_refusal x (ops_of batches) ≡ Some e) → AreSegmented {A = Handle} x batches (Err e)
segmented_refusing x batches (errors.EmptySegmentPrefix key) (inl memory) = absurd (cc)
segmented_refusing x batches (errors.EmptySegmentPrefix key) (inr cause) = cause
segmented_refusing x batches e h = tt

-- the errors of a segment are no faults
pub segment-faults : {A : Type 0} (faults faults' : ℕ) (e : SlateError) → faults' ≡ faults → IsOfSegment e → CountsFaults {A = A} faults faults' (Err e)
segment-faults faults faults' (errors.EmptySegmentPrefix key) same kind = record { count = omega (arith, same); unavailable = λ no. absurd (cc); stays = inl same; none_missing = λ no. absurd (cc) }
segment-faults faults faults' errors.NoMemory same kind = record { count = omega (arith, same); unavailable = λ no. absurd (cc); stays = inl same; none_missing = λ no. absurd (cc) }
segment-faults faults faults' e same kind = absurd kind

-- an opening that answers an error, and one that answers a handle
some-same : (a b : Objects) → Some a ≡ Some b → a ≡ b
some-same a b h = cc

module _ (x : Option Extractor) (keeps_log : Bool) (limit : ℕ) (tasks : List TaskName) (before after : Known (List Batch)) where
  abbrev view_of : Objects → VersionedManifest
  view_of o = opened_manifest (extractor_name x) o

  segmented-line : (r : Result Handle SlateError) → ((o : Objects) → before.objects ≡ Some o → IsSound o → AreSegmented x (replayed (view_of o) (content o)) r) → (o : Objects) (line : Line) → before.objects ≡ Some o → IsContent before.objects line → AreSegmented x (replayed (view_of o) line) r
  segmented-line r sees o line at stored_is =
      let same : stored_is.0 ≡ o = some-same stored_is.0 o (sym stored_is.1 ∙ at) in
      subst (λ l. AreSegmented x (replayed (view_of o) l) r) (sym (stored_is.3 ∙ ap content same)) (sees o at (subst IsSound same stored_is.2))

  pub opens_err : (e : SlateError) → CountsFaults {A = Handle} before.faults after.faults (Err e) → WhereModelled (λ o o'. OpensModelled {A = Handle} x o (Err e) o') before.objects after.objects →
      ((o : Objects) → before.objects ≡ Some o → IsSound o → AreSegmented {A = Handle} x (replayed (view_of o) (content o)) (Err e)) → (made : ℕ) × OpensHandle (by_objects before.objects) x made keeps_log limit tasks before (Err e) after
  opens_err e fault answered segmented =
      let m = made_once before.objects after.objects answered in
      (m.0, record { opens = m.1; faults = fault; fresh = tt; view = tt; segmented = segmented-line (Err e) segmented; handle = tt })

  pub opens_ok : (h : Handle) → CountsFaults before.faults after.faults (Ok h) → WhereModelled (λ o o'. OpensModelled x o (Ok h) o') before.objects after.objects → IsFresh keeps_log limit tasks h → ((o : Objects) → before.objects ≡ Some o → h.view ≡ view_of o) →
      ((o : Objects) → before.objects ≡ Some o → IsSound o → unsegmented_refusal x (ops_of (replayed (view_of o) (content o))) ≡ None) →
      ((o : Objects) → before.objects ≡ Some o → IsSound o → h ≡ kept_handle (opened_handle x keeps_log limit tasks (view_of o) (content o))) → (made : ℕ) × OpensHandle (by_objects before.objects) x made keeps_log limit tasks before (Ok h) after
  opens_ok h fault answered fresh view segmented sees =
      let m = made_once before.objects after.objects answered in (
        m.0,
        record {
          opens = m.1;
          faults = fault;
          fresh = fresh;
          view = view;
          segmented = segmented-line (Ok h) segmented;
          handle = λ o line at stored_is.
              let same : stored_is.0 ≡ o = some-same stored_is.0 o (sym stored_is.1 ∙ at) in
              sees o at (subst IsSound same stored_is.2) ∙ ap (λ l. kept_handle (opened_handle x keeps_log limit tasks (view_of o) l)) (sym (stored_is.3 ∙ ap content same));
        },
      )

-- the calls of an opening that ended by its replay, after the four before it
abbrev pub no_batches : SlateError → Result (List Batch) SlateError
no_batches e = Err e

module _ (name : Option (List ℕ)) (view : VersionedManifest) (last : ℕ) (e : SlateError) (calls before calls' : ℕ) (four : before ≡ calls_after 4 calls) (most : calls' ≤ before + (last - view.manifest.replay_after_wal_id + 1)) (early : (id : ℕ) → no_batches e ≡ Err (errors.WalTruncated id) → calls' ≡ calls_after (id - view.manifest.replay_after_wal_id + 1) before) where
  calls-at : (o : Objects) (err : SlateError) → e ≡ err → FindsNext name o (view, last) → CallsOpening {A = Handle} o calls calls' (Err err)
  calls-at o (errors.WalTruncated id) is found =
      let mark = ap (λ (v : VersionedManifest). v.manifest.replay_after_wal_id) found.0 ∙ mark-kept name (latest_manifest o) (found_log o) in
      let read = early id (ap no_batches is) in
      let up_to = found.1 in
      (omega (arith, mark, four, read), omega (arith, mark, up_to, four, most))
  calls-at o err is found =
      let mark = ap (λ (v : VersionedManifest). v.manifest.replay_after_wal_id) found.0 ∙ mark-kept name (latest_manifest o) (found_log o) in
      let up_to = found.1 in
      omega (arith, mark, up_to, four, most)

  pub calls-of : (t : Option Objects) → IfSome t (λ o. FindsNext name o (view, last)) → IfSome t (λ o. CallsOpening {A = Handle} o calls calls' (Err e))
  calls-of None found = tt
  calls-of (Some o) found = calls-at o e refl found

-- the calls of one that ended by its puts, after the two before them
pub calls-of-puts : {t t0 t1 : Option Objects} (view : VersionedManifest) (fence : ℕ) (e : SlateError) (calls before calls' : ℕ) → before ≡ calls_after 2 calls → calls' ≤ before + 2 → t0 ≡ t → WhereModelled (PutsOpening view fence (Err e)) t0 t1 → IfSome t (λ o. CallsOpening {A = Handle} o calls calls' (Err e))
calls-of-puts {t = None} view fence e calls before calls' two most kept puts = tt
calls-of-puts {t = Some o} view fence e calls before calls' two most kept puts = by e (puts.some o kept).2 where
  by : (err : SlateError) → PutsOpening view fence (Err err) o (puts.some o kept).0 → CallsOpening {A = Handle} o calls calls' (Err err)
  by (errors.WalTruncated id) put = absurd put
  by err put = omega (arith, two, most)

-- and those of one that answered a handle
pub calls-of-ok : (t : Option Objects) (name : Option (List ℕ)) (view : VersionedManifest) (last : ℕ) (calls before calls' : ℕ) → before ≡ calls_after 4 calls → calls' ≤ before + (last - view.manifest.replay_after_wal_id) → IfSome t (λ o. FindsNext name o (view, last)) → IfSome t (λ o. calls' ≤ calls + 4 + replayed_logs o)
calls-of-ok None name view last calls before calls' four most found = tt
calls-of-ok (Some o) name view last calls before calls' four most found =
    let mark = ap (λ (v : VersionedManifest). v.manifest.replay_after_wal_id) found.0 ∙ mark-kept name (latest_manifest o) (found_log o) in
    let up_to = found.1 in
    omega (arith, mark, up_to, four, most)

-- and those of one that found a key without a segment
pub calls-of-segments : (t : Option Objects) (name : Option (List ℕ)) (view : VersionedManifest) (last : ℕ) (e : SlateError) (calls before calls' : ℕ) → IsOfSegment e → before ≡ calls_after 4 calls → calls' ≤ before + (last - view.manifest.replay_after_wal_id) → IfSome t (λ o. FindsNext name o (view, last)) → IfSome t (λ o. CallsOpening {A = Handle} o calls calls' (Err e))
calls-of-segments None name view last e calls before calls' kind four most found = tt
calls-of-segments (Some o) name view last e calls before calls' kind four most found = by e kind where
  by : (err : SlateError) → IsOfSegment err → CallsOpening {A = Handle} o calls calls' (Err err)
  by (errors.WalTruncated id) of_segment = absurd of_segment
  by err of_segment =
      let mark = ap (λ (v : VersionedManifest). v.manifest.replay_after_wal_id) found.0 ∙ mark-kept name (latest_manifest o) (found_log o) in
      let up_to = found.1 in
      omega (arith, mark, up_to, four, most)

-- ---- what the latest manifest refuses
pub finding-of : (e : SlateError) → IsOfManifest e → IsOfFinding e
finding-of errors.InvalidDBState kind = tt
finding-of (errors.SegmentExtractorMismatch persisted configured) kind = tt
finding-of (errors.SegmentPrefixNotRecognized prefix named) kind = tt
finding-of e kind = absurd kind

pub manifest-faults : {A : Type 0} (faults faults' : ℕ) (e : SlateError) → faults' ≡ faults → IsOfManifest e → CountsFaults {A = A} faults faults' (Err e)
manifest-faults faults faults' errors.InvalidDBState same kind = record { count = omega (arith, same); unavailable = λ refused. absurd (cc); stays = inl same; none_missing = λ refused. absurd (cc) }
manifest-faults faults faults' (errors.SegmentExtractorMismatch persisted configured) same kind = record { count = omega (arith, same); unavailable = λ refused. absurd (cc); stays = inl same; none_missing = λ refused. absurd (cc) }
manifest-faults faults faults' (errors.SegmentPrefixNotRecognized prefix name) same kind = record { count = omega (arith, same); unavailable = λ refused. absurd (cc); stays = inl same; none_missing = λ refused. absurd (cc) }
manifest-faults faults faults' e same kind = absurd kind

fits-manifest : (x : Option Extractor) (o : Objects) (e : SlateError) → IsOfManifest e → manifest_refusal x (latest_manifest o) ≡ Some e → OpenCause x (λ _. ⊥) o e
fits-manifest x o errors.InvalidDBState kind is = ap (λ r. option_or r (log_refusal (found_log o))) is
fits-manifest x o (errors.SegmentExtractorMismatch persisted configured) kind is = ap (λ r. option_or r (log_refusal (found_log o))) is
fits-manifest x o (errors.SegmentPrefixNotRecognized prefix named) kind is = ap (λ r. option_or r (log_refusal (found_log o))) is
fits-manifest x o e kind is = absurd kind

pub fits-some : (t : Option Objects) (x : Option Extractor) (latest : Option VersionedManifest) (e : SlateError) → IfSome t (λ o. latest ≡ latest_manifest o) → IsOfManifest e → manifest_refusal x latest ≡ Some e → IfSome t (λ o. OpenCause x (λ _. ⊥) o e)
fits-some None x latest e found kind is = tt
fits-some (Some o) x latest e found kind is = fits-manifest x o e kind (ap (manifest_refusal x) (sym found) ∙ is)

-- and the last log file
fits-log : (x : Option Extractor) (o : Objects) (e : SlateError) → manifest_refusal x (latest_manifest o) ≡ None → FindsLog (mark_of (latest_manifest o)) o (Err e) → OpenCause x (λ _. ⊥) o e
fits-log x o errors.InvalidDBState none full = ap (λ r. option_or r (log_refusal (found_log o))) none ∙ ap (λ c. cond c None (Some errors.InvalidDBState)) (le-ltb (found_log o) last_number full)
fits-log x o (errors.ObjectStoreError Unavailable) none full = tt
fits-log x o errors.NoMemory none full = tt
fits-log x o e none full = absurd full

pub fits-last : (t : Option Objects) (x : Option Extractor) (latest : Option VersionedManifest) (e : SlateError) → IfSome t (λ o. latest ≡ latest_manifest o) → manifest_refusal x latest ≡ None → IfSome t (λ o. FindsLog (mark_of latest) o (Err e)) → IfSome t (λ o. OpenCause x (λ _. ⊥) o e)
fits-last None x latest e found none finds = tt
fits-last (Some o) x latest e found none finds = fits-log x o e (ap (manifest_refusal x) (sym found) ∙ none) (subst (λ l. FindsLog (mark_of l) o (Err e)) found finds)

fits-both : (x : Option Extractor) (o : Objects) (last : ℕ) → manifest_refusal x (latest_manifest o) ≡ None → last ≡ found_log o → last < last_number → open_refusal x o ≡ None
fits-both x o last none is below = ap (λ r. option_or r (log_refusal (found_log o))) none ∙ (ap log_refusal (sym is) ∙ ap (λ c. cond c None (Some errors.InvalidDBState)) (lt-ltb last last_number below))

pub fits-found : (t : Option Objects) (x : Option Extractor) (latest : Option VersionedManifest) (last : ℕ) → IfSome t (λ o. latest ≡ latest_manifest o) → manifest_refusal x latest ≡ None → IfSome t (λ o. last ≡ last_log (mark_of latest) o) → last < last_number → IfSome t (λ o. open_refusal x o ≡ None)
fits-found None x latest last found none is below = tt
fits-found (Some o) x latest last found none is below =
    fits-both x o last (ap (manifest_refusal x) (sym found) ∙ none) (is ∙ ap (λ l. last_log (mark_of l) o) found) below
