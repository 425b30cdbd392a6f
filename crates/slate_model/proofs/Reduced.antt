-- What an operation does to the objects of a store it does to what a world knows of them.
use Rattle.std.proofs.Common.{◌≡◌, ℕ, Bool, true, false, List, [], Option, Some, None, Result, Ok, Err, refl, sym, subst, ap, ◌∙◌, ◌≤◌, ◌<◌, ◌+◌, inl, inr, length, map, take, cond, ltb, flat_map, option_map, arith}
use Rattle.std.specs.Option.{IfSome}
use Rattle.std.specs.Result.{IfOk, IfErr}
use Rattle.slate_types.specs.declared.batches.Batch.{Batch}
use Rattle.slate_types.specs.declared.options.FlushType.{FlushType}
use Rattle.slate_types.specs.Line.{IsPrefix, Line, batches_above, end, extended}
use Rattle.slate_types.specs.declared.store_errors.StoreFault.TheVariants.{Unavailable, NotFound}
use Rattle.slate_store.specs.Calls.{WhereModelled}
use Rattle.slate_store.specs.declared.objects.VersionedManifest.{VersionedManifest}
use Rattle.slate_store.specs.Content.{IsSound, content}
use Rattle.slate_store.specs.Objects.{ChangeOf, Objects, ObjectsOf, latest_manifest, last_log}
use Rattle.slate_errors.specs.declared.endings.Ended.{Ended}
use Rattle.slate_errors.specs.declared.endings.TaskName.{TaskName}
use Rattle.slate_errors.specs.declared.errors.SlateError.{SlateError}
use Rattle.slate_errors.specs.declared.errors.SlateError.TheVariants as errors
use Rattle.slate_types.specs.declared.read_faults.ReadFault.TheVariants as reads
use Rattle.slate_errors.specs.Errors.{closed_error}
use Rattle.slate_model.specs.Catalogue.{Span, catalogue_of, span, Catalogue, joined_span}
use Rattle.slate_model.specs.declared.answers.PollAnswer.{PollAnswer}
use Rattle.slate_model.specs.Close.{Closes, ended, fault_again, closing_flush, without_tasks}
use Rattle.slate_model.specs.Follow.{AnswersAt, AreFollowed, FollowCause, HasAllLogs, IsOwed, Polls, Rebuilds, ReplayRefuses, SeesOwed, SeesPolled, built, come_by}
use Rattle.slate_model.specs.Followed.{IsView, RefusesLatest, kept_by, last_read, view_under}
use Rattle.slate_model.specs.Follower.{Follower, HasSegments, is_pinned, kept_follower, number, rebuilt}
use Rattle.slate_store.specs.Checkpoints.{found}
use Rattle.slate_store.specs.declared.objects.Checkpoint.{Checkpoint}
use Rattle.slate_store.specs.declared.reader_modes.DbReaderMode.{DbReaderMode}
use Rattle.slate_store.specs.declared.reader_modes.DbReaderMode.TheVariants as modes
use Rattle.slate_model.proofs.Prefixes.{up_to-end}
use Rattle.slate_model.proofs.Owing.{Owed, not-unpinned, owed-is, owed-known, owed_line, owing}
use Rattle.slate_model.specs.declared.answers.PollAnswer.TheVariants.{Whole, Truncated}
use Rattle.slate_model.specs.Handle.{Handle, CloseResult, accepted, kept_handle, line_above, next_table, untabled_segments, up_to}
use Rattle.slate_model.specs.Segments.{Extractor, extractor_name, segments_of}
use Rattle.slate_model.specs.Known.{Known, Untouched}
use Rattle.slate_model.proofs.Reopened.{no-fault}
use Rattle.slate_model.proofs.Catalogued.{reduced, catalogue-after, flush_changes-known, last_log-catalogue, tables_part-known, tables_put-known, compact_changes-known, manifest_cause-known, table-known, opens-known, opened_manifest-known}
use Rattle.slate_model.specs.Flush.{CanFlush, DurableAfter, FlushAnswer, FlushCause, Flushes, FlushesOnly, IsFlushed, StoresBatches, Stores, TracksFlush, flush_changes, flush_changes_by, flush_result, flush_view, grows, has_ids, next_flushed, tables_put}
use Rattle.slate_model.specs.Open.{AreSegmented, IsFresh, OpenFault, OpensHandle, opened_handle, opened_manifest, Opens, replayed}
use Rattle.slate_store.specs.declared.objects.TableId.{TableId}
use Rattle.slate_types.specs.declared.read_faults.ReadFault.{ReadFault}
use Rattle.slate_model.specs.Seen.{HasSeen}
use Rattle.slate_model.specs.Stores.{JoinFault, Stands, Unpinned, by_catalogue, by_objects, kept_seen}
use Rattle.slate_model.specs.Knowledge.{Knowledge}
use Rattle.slate_model.specs.Refresh.{CompactAnswer, CompactCause, Compacts, JoinsTables, RefreshAnswer, Refreshes}
use Rattle.slate_model.specs.Read.{AnswersRead, ReadsUnlessClosed}
use Rattle.slate_model.specs.Tables.{AreStored}
use Rattle.slate_model.proofs.Keeping.{accepted-kept, changes-kept, cond-twice, ids-kept, line_above-end, line_above-twice, view-kept, log_for-kept}
use Rattle.slate_model.specs.Changes.{PartMade, after_part}
use Rattle.slate_types.specs.declared.options.FlushType.TheVariants.{Wal, MemTable}
use Rattle.std.proofs.lemmas.List.{length-map}
use Rattle.std.specs.Prelude.{nat_le, IfOk, ◌⊎◌, max}
use Rattle.slate_seqtrack.specs.Bytes.{packed}
use Rattle.slate_store.specs.Compaction.{compact_changes}
use Rattle.std.proofs.lemmas.Bool.{ltb-true}

-- what a world knows of a store that holds these objects
abbrev pub holding : Objects → ℕ → Known (List Batch)
holding o faults = record { objects = Some o; faults = faults }

abbrev pub catalogued : Objects → ℕ → Known Span
catalogued o faults = record { objects = Some (catalogue_of o); faults = faults }

pub some-same : {A : Type 0} (a b : A) → Some a ≡ Some b → a ≡ b
some-same a b same = cc

-- one change of objects that are modelled
pub modelled : {L : Type 0} {P : ObjectsOf L → ObjectsOf L → Type 0} (o o' : ObjectsOf L) → WhereModelled P (Some o) (Some o') → P o o'
modelled {L} {P} o o' t =
    let n = t.some o refl in
    let same : n.0 ≡ o' = (let e : Some o' ≡ Some n.0 = n.1 in sym (some-same o' n.0 e)) in
    subst (P o) same n.2

pub as_modelled : {L : Type 0} {P : ObjectsOf L → ObjectsOf L → Type 0} (o o' : ObjectsOf L) → P o o' → WhereModelled P (Some o) (Some o')
as_modelled {L} {P} o o' p = record {
  none = λ h. absurd (cc);
  some = λ old is. (o', refl, subst (λ x. P x o') (some-same o old is) p);
}

same-known : (o o' : Objects) (f f' : ℕ) → holding o' f' ≡ holding o f → catalogued o' f' ≡ catalogued o f
same-known o o' f f' same =
    let objects : o' ≡ o = some-same o' o (ap (λ (k : Known (List Batch)). k.objects) same) in
    let faults = ap (λ (k : Known (List Batch)). k.faults) same in
    ap (λ x. catalogued x f') objects ∙ ap (catalogued o) faults

pub untouched-known : (made : ℕ) (o o' : Objects) (f f' : ℕ) → Untouched made (holding o f) (holding o' f') → Untouched made (catalogued o f) (catalogued o' f')
untouched-known made o o' f f' u = (u.0, same-known o o' f f' u.1)

if_some : {A : Type 0} {P Q : A → Type 0} (x : Option A) → ((a : A) → P a → Q a) → IfSome x P → IfSome x Q
if_some None f h = tt
if_some (Some a) f h = f a h

if_ok : {A : Type 0} {P Q : A → Type 0} (r : Result A SlateError) → ((a : A) → P a → Q a) → IfOk r P → IfOk r Q
if_ok (Ok x) f h = f x h
if_ok (Err e) f h = tt

-- the handle of a world that the code keeps as this one, where this one was a part of that
abbrev pub whole : Handle → Handle → Handle
whole h k = record k { line = h.line; segments = h.segments }

-- the tracker of a handle after a flush goes by how many tables were put
tracks-known : {L M : Type 0} (cs : List (ChangeOf L)) (ds : List (ChangeOf M)) (h k : Handle) → tables_put cs ≡ tables_put ds → TracksFlush cs (kept_handle h) k → TracksFlush ds h (whole h k)
tracks-known cs ds h k all s = record {
  is = s.is ∙ ap (λ n. cond (ltb 0 n) (packed h.tracker) h.tracker) all;
  again = λ some. s.again (omega (arith, all, some));
}

tracked-known : {A L M : Type 0} (cs : List (ChangeOf L)) (ds : List (ChangeOf M)) (h k : Handle) → tables_put cs ≡ tables_put ds → (r : Result A SlateError) → IfOk r (λ _. TracksFlush cs (kept_handle h) k) → IfOk r (λ _. TracksFlush ds h (whole h k))
tracked-known cs ds h k all (Ok _) s = tracks-known cs ds h k all s
tracked-known cs ds h k all (Err e) s = tt

-- What is said of the handle that the code keeps is said of the whole one, and is known of the objects.
module _ (x : Option Objects) (stored : Line) (c : Catalogue) (h : Handle) (o : Objects) (tabled : h.view.manifest.last_l0_seq ≤ h.durable)
    (ahead : (latest : VersionedManifest) → latest_manifest o ≡ Some latest → h.view.manifest.last_l0_seq ≤ latest.manifest.last_l0_seq) where
  changes_by-kept : (t : FlushType) (latest : Option VersionedManifest) → latest_manifest o ≡ latest → flush_changes_by (λ xs. xs) t (kept_handle h) o latest ≡ flush_changes_by (λ xs. xs) t h o latest
  changes_by-kept t None is = refl
  changes_by-kept t (Some latest) is = changes-kept h tabled latest (last_log latest.manifest.replay_after_wal_id o) (ahead latest is) (λ xs. xs) t

  flush_changes-kept : (t : FlushType) → flush_changes (λ xs. xs) t (kept_handle h) o ≡ flush_changes (λ xs. xs) t h o
  flush_changes-kept t = changes_by-kept t (latest_manifest o) refl

  -- the changes of a flush of the kept handle are known as those of the whole one
  flush_changes-same : (t : FlushType) → map reduced (flush_changes (λ xs. xs) t (kept_handle h) o) ≡ flush_changes span t h (catalogue_of o)
  flush_changes-same t = ap (map reduced) (flush_changes-kept t) ∙ flush_changes-known t h o

  module _ (t : FlushType) (unset : Stands (flush_changes (λ xs. xs) t (kept_handle h) o) o → ⊥) where
    flush_cause-known : (e : SlateError) → FlushCause (Stands (flush_changes (λ xs. xs) t (kept_handle h) o) o) t (kept_handle h) o e → FlushCause ⊥ t h (catalogue_of o) e
    flush_cause-known errors.InvalidDBState i =
        let mark = i.0.manifest.replay_after_wal_id in
        (i.0, i.1, ap (has_ids t h i.0) (last_log-catalogue mark o) ∙ (sym (ids-kept h tabled i.0 (last_log mark o) (ahead i.0 i.1.0) t) ∙ i.2))
    flush_cause-known errors.TransactionalObjectVersionExists i = unset i
    flush_cause-known errors.LatestTransactionalObjectVersionMissing i = i
    flush_cause-known errors.Fenced i = i
    flush_cause-known (errors.ObjectStoreError Unavailable) i = tt
    flush_cause-known errors.NoMemory i = tt
    flush_cause-known e i = absurd i

    flush_answer-known : (r : Result (Unit {0}) SlateError) (view : VersionedManifest) → FlushAnswer (Stands (flush_changes (λ xs. xs) t (kept_handle h) o) o) t (kept_handle h) o r view → FlushAnswer ⊥ t h (catalogue_of o) r view
    flush_answer-known (Ok _) view i =
        let mark = i.0.manifest.replay_after_wal_id in
        (i.0, i.1, i.2 ∙ (view-kept h tabled i.0 (last_log mark o) (ahead i.0 i.1.0) t ∙ ap (flush_view t h i.0) (sym (last_log-catalogue mark o))))
    flush_answer-known (Err e) view i = (flush_cause-known e i.0, i.1)

    pub stores-known : {r : Result (Unit {0}) SlateError} {k : Handle} {made : ℕ} {o' : Objects} → StoresBatches (by_objects x) t (kept_handle h) o r k made o' → StoresBatches (by_catalogue stored c) t h (catalogue_of o) r (whole h k) made (catalogue_of o')
    stores-known {r} {k} {made} {o'} s =
        let cs = flush_changes (λ xs. xs) t (kept_handle h) o in
        let same = flush_changes-same t in
        let count : length cs ≡ length (flush_changes span t h (catalogue_of o)) = sym (length-map cs reduced) ∙ ap length same in
        let part : tables_put (take made cs) ≡ tables_put (take made (flush_changes span t h (catalogue_of o))) = sym (tables_part-known made cs) ∙ ap (λ ds. tables_put (take made ds)) same in
        let all : tables_put cs ≡ tables_put (flush_changes span t h (catalogue_of o)) = sym (tables_put-known cs) ∙ ap tables_put same in
        record {
          answer = flush_answer-known r k.view s.answer;
          part = subst (λ n. PartMade r n made) count s.part;
          only = subst (λ n. FlushesOnly r n made) count s.only;
          current = s.current;
          counted = (subst (λ n. h.counter + n ≤ k.counter) part s.counted.0, subst (λ n. k.counter ≤ h.counter + n) all s.counted.1);
          after = ap catalogue_of s.after ∙ (catalogue-after made cs o ∙ ap (λ ds. after_part made ds (catalogue_of o)) same);
          tracked = tracked-known cs (flush_changes span t h (catalogue_of o)) h k all r s.tracked;
        }

  flush_view-rises : (t : FlushType) (latest : VersionedManifest) (last : ℕ) → latest_manifest o ≡ Some latest → h.view.manifest.last_l0_seq ≤ (flush_view t (kept_handle h) latest last).manifest.last_l0_seq
  flush_view-rises Wal latest last is = ahead latest is
  flush_view-rises MemTable latest last is = by (ltb latest.manifest.last_l0_seq (accepted (kept_handle h))) refl where
    by : (some : Bool) → ltb latest.manifest.last_l0_seq (accepted (kept_handle h)) ≡ some → h.view.manifest.last_l0_seq ≤ (cond some (next_flushed (kept_handle h) latest last) latest).manifest.last_l0_seq
    by true above = let less = ltb-true latest.manifest.last_l0_seq (accepted (kept_handle h)) above in let low = ahead latest is in omega (arith, less, low)
    by false above = ahead latest is

  -- the last number in tables of the view doesn't fall
  pub stores-rises : (t : FlushType) {r : Result (Unit {0}) SlateError} {k : Handle} {made : ℕ} {o' : Objects} → StoresBatches (by_objects x) t (kept_handle h) o r k made o' → h.view.manifest.last_l0_seq ≤ k.view.manifest.last_l0_seq
  stores-rises t {r = Ok x} {k = k} s =
      let a = s.answer in
      subst (λ (v : VersionedManifest). h.view.manifest.last_l0_seq ≤ v.manifest.last_l0_seq) (sym a.2) (flush_view-rises t a.0 (last_log a.0.manifest.replay_after_wal_id o) a.1.0)
  stores-rises t {r = Err e} {k = k} s = elim s.answer.1 [
    | inl same ↦ subst (λ (v : VersionedManifest). h.view.manifest.last_l0_seq ≤ v.manifest.last_l0_seq) (sym same) (omega arith)
    | inr current ↦ ahead k.view current.0
  ]

-- A handle that is as the kept one moved it is kept of the whole one that moved so.
pub kept-whole : (h k : Handle) → h.view.manifest.last_l0_seq ≤ k.view.manifest.last_l0_seq → k.line ≡ line_above k.view.manifest.last_l0_seq (kept_handle h).line
    → k.segments ≡ untabled_segments (record (kept_handle h) { view = k.view }) → k ≡ kept_handle (whole h k)
kept-whole h k rises line segments =
    let n = h.view.manifest.last_l0_seq in
    let m = k.view.manifest.last_l0_seq in
    let stay : k.segments ≡ cond (ltb m (accepted h)) h.segments [] = segments ∙ (ap (λ end. cond (ltb m end) (untabled_segments h) []) (accepted-kept h) ∙ cond-twice n m (accepted h) h.segments rises) in
    ap (λ l. record k { line = l }) (line ∙ line_above-twice n m h.line rises) ∙ ap (λ s. record k { line = line_above m h.line; segments = s }) stay

durable-whole : (made : ℕ) (h : Handle) (r : Result (Unit {0}) SlateError) (durable : ℕ) → DurableAfter (nat_le (grows h) made) (kept_handle h) r durable → DurableAfter (nat_le (grows h) made) h r durable
durable-whole made h (Ok _) durable d = d ∙ accepted-kept h
durable-whole made h (Err errors.NoMemory) durable d = d ∙ ap (λ n. cond (nat_le (grows h) made) n h.durable) (accepted-kept h)
durable-whole made h (Err e) durable d = elim d [
  | inl old ↦ inl old
  | inr new ↦ inr (new.0, new.1 ∙ accepted-kept h)
]

pub flushed-whole : (made : ℕ) (r : Result (Unit {0}) SlateError) (closed : CloseResult) (tasks : List TaskName) (h k : Handle) → IsFlushed kept_handle made r closed tasks (kept_handle h) k → IsFlushed (λ a. a) made r closed tasks h (whole h k)
flushed-whole made r closed tasks h k s = record {
  same = ap (λ (a : Handle). record a { line = h.line; segments = h.segments }) s.same;
  durable = durable-whole made h r k.durable s.durable;
  counter = s.counter;
  tracker = s.tracker;
}

kept-known : (o o' : Objects) (f f' : ℕ) → (holding o' f').objects ≡ (holding o f).objects → (catalogued o' f').objects ≡ (catalogued o f).objects
kept-known o o' f f' same = ap (λ x. Some (catalogue_of x)) (some-same o' o same)

-- a flush of the kept handle is one of the whole one
module _ (stored : Line) (h : Handle) (o o' : Objects) (f f' : ℕ) (tabled : h.view.manifest.last_l0_seq ≤ h.durable)
    (ahead : (latest : VersionedManifest) → latest_manifest o ≡ Some latest → h.view.manifest.last_l0_seq ≤ latest.manifest.last_l0_seq) where
  abbrev world : Knowledge Span
  world = by_catalogue stored (catalogue_of o)

  abbrev Unset : FlushType → Type 0
  Unset t = Stands (flush_changes (λ xs. xs) t (kept_handle h) o) o → ⊥

  stores-reduced : (made : ℕ) (t : FlushType) (k : Handle) (r : Result (Unit {0}) SlateError) → Unset t → Stores (by_objects (Some o)) made t (kept_handle h) (holding o f) r k (holding o' f') → Stores world made t h (catalogued o f) r (whole h k) (catalogued o' f')
  stores-reduced made t k r unset s = record {
    faults = s.faults;
    objects = as_modelled (catalogue_of o) (catalogue_of o') (stores-known (Some o) stored (catalogue_of o) h o tabled ahead t unset (modelled o o' s.objects));
  }

  can-kept : (t : FlushType) → CanFlush t h → CanFlush t (kept_handle h)
  can-kept t can = (can.0, log_for-kept h t ∙ can.1)

  pub flushes-reduced : (made : ℕ) (t : FlushType) (k : Handle) (r : Result (Unit {0}) SlateError) → Unset t → Flushes (by_objects (Some o)) made t (kept_handle h) (holding o f) r k (holding o' f') → Flushes world made t h (catalogued o f) r (whole h k) (catalogued o' f')
  flushes-reduced made t k r unset s = record {
    closed = if_some {Q = λ q. (r ≡ Err (closed_error q)) × (whole h k ≡ h) × Untouched made (catalogued o f) (catalogued o' f')} h.result (λ q c. (c.0, ap (whole h) c.1, untouched-known made o o' f f' c.2)) s.closed;
    disabled = λ live keeps. let d = s.disabled live (log_for-kept h t ∙ keeps) in (d.0, ap (whole h) d.1, untouched-known made o o' f f' d.2);
    flushed = λ can. flushed-whole made r (flush_result r) h.tasks h k (s.flushed (can-kept t can));
    stored = λ can. stores-reduced made t k r unset (s.stored (can-kept t can));
  }

  pub closes-reduced : (made : ℕ) (flush_type : Option FlushType) (k : Handle) (e : Ended) → ((t : FlushType) → flush_type ≡ Some t → Unset t) → Closes (by_objects (Some o)) made flush_type (kept_handle h) (holding o f) e k (holding o' f') → Closes world made flush_type h (catalogued o f) e (whole h k) (catalogued o' f')
  closes-reduced made flush_type k e unset s = record {
    again = if_some {Q = λ q. (e ≡ ended h.tasks (fault_again q)) × (whole h k ≡ without_tasks h) × Untouched made (catalogued o f) (catalogued o' f')} h.result (λ q c. (c.0, ap (whole h) c.1, untouched-known made o o' f f' c.2)) s.again;
    unflushed = λ live none. let d = s.unflushed live none in (d.0, ap (whole h) d.1, untouched-known made o o' f f' d.2);
    disabled = λ t some live keeps. let d = s.disabled t some live (log_for-kept h t ∙ keeps) in (d.0, ap (whole h) d.1, untouched-known made o o' f f' d.2);
    flushed = λ t some can. let d = s.flushed t some (can-kept t can) in (d.0, flushed-whole made (closing_flush e.fault) (Some (Ok tt)) [] h k d.1);
    stored = λ t some can. stores-reduced made t k (closing_flush e.fault) (unset t some) (s.stored t some (can-kept t can));
  }

  refresh_answer-known : (r : Result (Unit {0}) SlateError) (view : VersionedManifest) → RefreshAnswer (kept_handle h) o r view → RefreshAnswer h (catalogue_of o) r view
  refresh_answer-known (Ok _) view a = a
  refresh_answer-known (Err e) view a = (manifest_cause-known h.epoch o e a.0, a.1)

  pub refreshes-reduced : (k : Handle) (r : Result (Unit {0}) SlateError) → Refreshes (by_objects (Some o)) (kept_handle h) (holding o f) r k (holding o' f') → Refreshes world h (catalogued o f) r (whole h k) (catalogued o' f')
  refreshes-reduced k r s = record {
    closed = if_some {Q = λ q. (r ≡ Err (closed_error q)) × (whole h k ≡ h) × (catalogued o' f' ≡ catalogued o f)} h.result (λ q c. (c.0, ap (whole h) c.1, same-known o o' f f' c.2)) s.closed;
    refreshed = λ live. let d = s.refreshed live in record {
      faults = d.faults;
      kept = kept-known o o' f f' d.kept;
      same = ap (whole h) d.same;
      answer = refresh_answer-known r k.view d.answer;
    };
  }

  module _ (joins : (e : SlateError) → JoinFault (next_table h) o e → ⊥) where
    compact_cause-known : (e : SlateError) → CompactCause (JoinFault (next_table h) o) (kept_handle h) o e → CompactCause (λ e. ⊥) h (catalogue_of o) e
    compact_cause-known errors.InvalidDBState c = elim c [
      | inl used ↦ inl used
      | inr unsound ↦ absurd (joins errors.InvalidDBState unsound)
    ]
    compact_cause-known errors.TransactionalObjectVersionExists c = joins errors.TransactionalObjectVersionExists c
    compact_cause-known (errors.ObjectStoreError NotFound) c = joins (errors.ObjectStoreError NotFound) c
    compact_cause-known errors.LatestTransactionalObjectVersionMissing c = c
    compact_cause-known errors.Fenced c = c
    compact_cause-known (errors.ObjectStoreError Unavailable) c = tt
    compact_cause-known errors.NoMemory c = tt
    compact_cause-known e c = absurd c

    compact_answer-known : (r : Result (Unit {0}) SlateError) (view : VersionedManifest) → CompactAnswer (JoinFault (next_table h) o) (kept_handle h) o r view → CompactAnswer (λ e. ⊥) h (catalogue_of o) r view
    compact_answer-known (Ok _) view a = a
    compact_answer-known (Err e) view a = (compact_cause-known e a.0, a.1)

    joins-known : (made : ℕ) (k : Handle) (r : Result (Unit {0}) SlateError) → JoinsTables (by_objects (Some o)) (kept_handle h) o r k made o' → JoinsTables world h (catalogue_of o) r (whole h k) made (catalogue_of o')
    joins-known made k r s =
        let cs = compact_changes (flat_map (λ bs. bs)) (next_table h) o in
        let ds = compact_changes joined_span (next_table h) (catalogue_of o) in
        let same = compact_changes-known (next_table h) o in
        let part : tables_put (take made cs) ≡ tables_put (take made ds) = sym (tables_part-known made cs) ∙ ap (λ xs. tables_put (take made xs)) same in
        let all : tables_put cs ≡ tables_put ds = sym (tables_put-known cs) ∙ ap tables_put same in
        record {
          answer = compact_answer-known r k.view s.answer;
          part = subst (λ n. PartMade r n made) (sym (length-map cs reduced) ∙ ap length same) s.part;
          current = s.current;
          counted = (subst (λ n. h.counter + n ≤ k.counter) part s.counted.0, subst (λ n. k.counter ≤ h.counter + n) all s.counted.1);
          after = ap catalogue_of s.after ∙ (catalogue-after made cs o ∙ ap (λ xs. after_part made xs (catalogue_of o)) same);
        }

    pub compacts-reduced : (made : ℕ) (k : Handle) (r : Result (Unit {0}) SlateError) → Compacts (by_objects (Some o)) made (kept_handle h) (holding o f) r k (holding o' f') → Compacts world made h (catalogued o f) r (whole h k) (catalogued o' f')
    compacts-reduced made k r s = record {
      closed = if_some {Q = λ q. (r ≡ Err (closed_error q)) × (whole h k ≡ h) × Untouched made (catalogued o f) (catalogued o' f')} h.result (λ q c. (c.0, ap (whole h) c.1, untouched-known made o o' f f' c.2)) s.closed;
      compacted = λ live. let d = s.compacted live in record {
        faults = d.faults;
        same = ap (whole h) d.same;
        counter = d.counter;
        objects = as_modelled (catalogue_of o) (catalogue_of o') (joins-known made k r (modelled o o' d.objects));
      };
    }

stored-known : (o : Objects) (ids : List TableId) → AreStored (catalogue_of o) ids → AreStored o ids
stored-known o ids stored k d less none = stored k d less (table-known _ o ∙ ap (option_map span) none)

-- what is read by these batches is read by those of a world
abbrev pub ReadsAs : {A : Type 0} → (List Batch → Type 0) → (List Batch → Result A ReadFault → Type 0) → (List Batch → Type 0) → (List Batch → Result A ReadFault → Type 0) → Type 0
ReadsAs {A} has P has' P' = (rows : List Batch) (a : Result A ReadFault) → has rows → P rows a → (rows' : List Batch) × has' rows' × P' rows' a

read-answers : {A : Type 0} {has has' : List Batch → Type 0} {P P' : List Batch → Result A ReadFault → Type 0} → ReadsAs has P has' P' → (r : Result A SlateError) → AnswersRead has P r → AnswersRead has' P' r
read-answers reads_as (Ok found) a = reads_as a.0 (Ok found) a.1 a.2
read-answers reads_as (Err errors.MergeOperatorMissing) a = reads_as a.0 (Err reads.MergeOperatorMissing) a.1 a.2
read-answers reads_as (Err errors.MergeOperatorError) a = reads_as a.0 (Err reads.MergeOperatorError) a.1 a.2
read-answers reads_as (Err errors.ChecksumMismatch) a = reads_as a.0 (Err reads.ChecksumMismatch) a.1 a.2
read-answers reads_as (Err (errors.ObjectStoreError fault)) a = tt
read-answers reads_as (Err errors.NoMemory) a = tt
read-answers reads_as (Err e) a = absurd a

-- a read of what the code has of the batches is one of them
pub reads-reduced : {A : Type 0} {has has' : List Batch → Type 0} {P P' : List Batch → Result A ReadFault → Type 0} → ReadsAs has P has' P' →
    (closed : CloseResult) (tables : List TableId) (r : Result A SlateError) (o o' : Objects) (f f' : ℕ) → ReadsUnlessClosed closed tables has P (holding o f) r (holding o' f') → ReadsUnlessClosed closed tables has' P' (catalogued o f) r (catalogued o' f')
reads-reduced reads_as closed tables r o o' f f' s = record {
  closed = if_some {Q = λ q. (r ≡ Err (closed_error q)) × (catalogued o' f' ≡ catalogued o f)} closed (λ q c. (c.0, same-known o o' f f' c.1)) s.closed;
  read = λ live. let d = s.read live in record {
    faults = d.faults;
    kept = kept-known o o' f f' d.kept;
    missing = λ none stored. d.missing none (stored-known o tables stored);
    alone = λ none. let a = d.alone none in (same-known o o' f f' a.0, a.1);
    plain = read-answers reads_as r d.plain;
  };
}

-- the whole handle that an opening gave of which the code keeps a part
abbrev pub opened-whole : Option Extractor → Bool → ℕ → List TaskName → Line → VersionedManifest → Result Handle SlateError → Result Handle SlateError
opened-whole x keeps_log limit tasks stored view (Ok k) = Ok (opened_handle x keeps_log limit tasks view stored)
opened-whole x keeps_log limit tasks stored view (Err e) = Err e

fresh-opened : (x : Option Extractor) (keeps_log : Bool) (limit : ℕ) (tasks : List TaskName) (stored : Line) (view : VersionedManifest) → IsFresh keeps_log limit tasks (kept_handle (opened_handle x keeps_log limit tasks view stored)) → IsFresh keeps_log limit tasks (opened_handle x keeps_log limit tasks view stored)
fresh-opened x keeps_log limit tasks stored view fresh =
    record { keeps = refl; limit_is = refl; tasked = refl; unclosed = refl; epoch = refl; counter = refl; durable = refl; tabled = fresh.tabled }

opened-known : (x : Option Extractor) (keeps_log : Bool) (limit : ℕ) (tasks : List TaskName) (stored : Line) (k : Handle) (made : ℕ) (o o' : Objects) → IsSound o → Opens x (λ xs. xs) (OpenFault o) o (Ok k) made o' →
    Opens x span (λ _. ⊥) (catalogue_of o) (Ok (opened_handle x keeps_log limit tasks (opened_manifest (extractor_name x) o) stored)) made (catalogue_of o')
opened-known x keeps_log limit tasks stored k made o o' sound q =
    opens-known x (OpenFault o) o (Ok (opened_handle x keeps_log limit tasks (opened_manifest (extractor_name x) o) stored)) made o' (λ e. no-fault o e sound)
    (record { answer = q.answer; part = q.part; only = q.only; can = q.can; after = q.after })

-- what an opening replays of sound objects is what a world knows of it
segmented-known : (x : Option Extractor) (stored : Line) (r : Result Handle SlateError) (o : Objects) → AreSegmented x (replayed (opened_manifest (extractor_name x) o) stored) r → (c : Catalogue) (line : Line) →
    Some (catalogue_of o) ≡ Some c → line ≡ stored → AreSegmented x (replayed (opened_manifest (extractor_name x) c) line) r
segmented-known x stored r o s c line at stored_is =
    let name = extractor_name x in
    let view : opened_manifest name o ≡ opened_manifest name c = sym (opened_manifest-known name o) ∙ ap (opened_manifest name) (some-same (catalogue_of o) c at) in
    subst (λ v. AreSegmented x (replayed v line) r) view (subst (λ l. AreSegmented x (replayed (opened_manifest name o) l) r) (sym stored_is) s)

-- an opening of sound objects, whose handle sees what is stored
pub opens-reduced : (x : Option Extractor) (stored : Line) (made : ℕ) (keeps_log : Bool) (limit : ℕ) (tasks : List TaskName) (r : Result Handle SlateError) (o o' : Objects) (f f' : ℕ) → IsSound o → content o ≡ stored → OpensHandle (by_objects (Some o)) x made keeps_log limit tasks (holding o f) r (holding o' f') →
    OpensHandle (by_catalogue stored (catalogue_of o)) x made keeps_log limit tasks (catalogued o f) (opened-whole x keeps_log limit tasks stored (opened_manifest (extractor_name x) o) r) (catalogued o' f')
opens-reduced x stored made keeps_log limit tasks (Ok k) o o' f f' sound is s = record {
  opens = as_modelled (catalogue_of o) (catalogue_of o') (opened-known x keeps_log limit tasks stored k made o o' sound (modelled o o' s.opens));
  faults = record { count = s.faults.count; unavailable = λ no. absurd (cc); stays = s.faults.stays; none_missing = λ no. absurd (cc) };
  fresh = fresh-opened x keeps_log limit tasks stored (opened_manifest (extractor_name x) o) (subst (λ (k : Handle). IsFresh keeps_log limit tasks k) (s.handle o stored refl (o, refl, sound, sym is)) s.fresh);
  view = λ c at. sym (opened_manifest-known (extractor_name x) o) ∙ ap (opened_manifest (extractor_name x)) (some-same (catalogue_of o) c at);
  segmented = segmented-known x stored (Ok (opened_handle x keeps_log limit tasks (opened_manifest (extractor_name x) o) stored)) o (s.segmented o stored refl (o, refl, sound, sym is));
  handle = λ c line at stored_is.
      ap (λ l. opened_handle x keeps_log limit tasks (opened_manifest (extractor_name x) o) l) (sym stored_is)
      ∙ ap (λ m. opened_handle x keeps_log limit tasks m line) (sym (opened_manifest-known (extractor_name x) o) ∙ ap (opened_manifest (extractor_name x)) (some-same (catalogue_of o) c at));
}
opens-reduced x stored made keeps_log limit tasks (Err e) o o' f f' sound is s = record {
  opens = as_modelled (catalogue_of o) (catalogue_of o') (opens-known x (OpenFault o) o (Err e) made o' (λ e. no-fault o e sound) (modelled o o' s.opens));
  faults = s.faults;
  fresh = tt;
  view = tt;
  segmented = segmented-known x stored (Err e) o (s.segmented o stored refl (o, refl, sound, sym is));
  handle = tt;
}

follow_cause-known : (x : Option Extractor) (mode : DbReaderMode) (opening : Bool) (o : Objects) (e : SlateError) → IsSound o → FollowCause x mode opening (Unpinned mode o) o e → FollowCause x mode opening ⊥ (catalogue_of o) e
follow_cause-known x mode opening o errors.LatestTransactionalObjectVersionMissing sound h = h
follow_cause-known x mode opening o errors.InvalidDBState sound h = h
follow_cause-known x mode opening o (errors.SegmentExtractorMismatch persisted configured) sound h = h
follow_cause-known x mode opening o (errors.SegmentPrefixNotRecognized prefix name) sound h = h
follow_cause-known x mode opening o (errors.EmptySegmentPrefix key) sound h = h
follow_cause-known x mode opening o (errors.CheckpointMissing id) sound h = h
follow_cause-known x mode opening o (errors.ObjectStoreError Unavailable) sound h = tt
follow_cause-known x mode opening o (errors.ObjectStoreError NotFound) sound h = not-unpinned o mode sound h
follow_cause-known x mode opening o errors.NoMemory sound h = tt
follow_cause-known x mode opening o e sound h = absurd h

if_err : {A : Type 0} {P Q : SlateError → Type 0} (r : Result A SlateError) → ((e : SlateError) → P e → Q e) → IfErr r P → IfErr r Q
if_err (Ok x) f h = tt
if_err (Err e) f h = f e h

-- the whole follower that was rebuilt under a manifest and sees this line, of which the code keeps a part
abbrev pub with_line : DbReaderMode → Bool → (lag : ℕ) → Follower → Line → Follower
with_line mode skips lag follower line = record (rebuilt mode skips lag follower.view line follower.mark) { segments = follower.segments }

abbrev pub rebuilt-whole : DbReaderMode → Bool → (lag : ℕ) → (Follower → Line) → Result (Follower × PollAnswer) SlateError → Result (Follower × PollAnswer) SlateError
rebuilt-whole mode skips lag line (Ok b) = Ok (with_line mode skips lag b.0 (line b.0), b.1)
rebuilt-whole mode skips lag line (Err e) = Err e

-- a catalogue has the manifests
kept_by-known : (o : Objects) (c : Option Checkpoint) → kept_by (catalogue_of o) c ≡ kept_by o c
kept_by-known o None = refl
kept_by-known o (Some c) = refl

view_under-known : (mode : DbReaderMode) (o : Objects) (latest : VersionedManifest) → view_under mode (catalogue_of o) latest ≡ view_under mode o latest
view_under-known (modes.Checkpoint id) o latest = kept_by-known o (found id latest)
view_under-known modes.FollowLatest o latest = refl
view_under-known modes.ManagedCheckpoint o latest = refl

pub view-known : (mode : DbReaderMode) (opening : Bool) (o : Objects) (view : VersionedManifest) → IsView mode opening o view → IsView mode opening (catalogue_of o) view
view-known mode opening o view v = (v.0, v.1, v.2, view_under-known mode o v.0 ∙ v.3)

pub last_read-known : (mode : DbReaderMode) (skips : Bool) (view : VersionedManifest) (o : Objects) → last_read mode skips view (catalogue_of o) ≡ last_read mode skips view o
last_read-known mode true view o = refl
last_read-known (modes.Checkpoint id) false view o = refl
last_read-known modes.FollowLatest false view o = last_log-catalogue view.manifest.replay_after_wal_id o
last_read-known modes.ManagedCheckpoint false view o = last_log-catalogue view.manifest.replay_after_wal_id o

-- what a reader is owed of sound objects that goes by a manifest begins what is stored
module _ (stored : Line) (mode : DbReaderMode) (skips opening : Bool) (o : Objects) (view : VersionedManifest) (sound : IsSound o) (is : content o ≡ stored) (v : IsView mode opening o view) where
  pub its : Owed o stored mode skips view
  its = subst (λ l. Owed o l mode skips view) is (owing o mode skips opening view sound v)

  pub its-line : its.owed ≡ owed_line mode skips o view stored
  its-line = owed-is (Some o) o mode skips view stored its.owed its.is_owed

  pub owed-begins : IsPrefix (owed_line mode skips o view stored) stored
  owed-begins = subst (λ l. IsPrefix l stored) its-line its.begins

-- that all log files are read of objects is known by their catalogue
pub logs-known : (o : Objects) (f g : Follower) (answer : PollAnswer) → f.mark ≡ g.mark → HasAllLogs o f answer → HasAllLogs (catalogue_of o) g answer
logs-known o f g (Whole at) same all = let last = last_log-catalogue 0 o in omega (arith, same, all, last)
logs-known o f g (Truncated at) same all = tt

-- what is seen of objects is seen of their catalogue
pub sees-known : (stored : Line) (c : Catalogue) (t : Option Objects) (mode : DbReaderMode) (skips opening : Bool) (lag : ℕ) (o : Objects) (b : Follower) (answer : PollAnswer) → IsSound o → content o ≡ stored → IsView mode opening o b.view → SeesOwed (by_objects t) mode skips lag o stored b answer →
    SeesOwed (by_catalogue stored c) mode skips lag (catalogue_of o) stored (with_line mode skips lag b (owed_line mode skips o b.view stored)) answer
sees-known stored c t mode skips opening lag o b answer sound is v all =
    let owed = owed_line mode skips o b.view stored in
    let line = owed-is t o mode skips b.view stored all.0 all.1 in
    let mark : b.mark ≡ last_read mode skips b.view (catalogue_of o) = ap (λ (x : Follower). x.mark) all.2 ∙ sym (last_read-known mode skips b.view o) in (
      owed,
      owed-known stored c t o mode skips opening b.view owed sound is v (subst (IsOwed (by_objects t) mode skips o b.view stored) line all.1),
      ap (rebuilt mode skips lag b.view owed) mark,
      all.3 ∙ ap (λ l. Whole (end l)) line,
    )

-- What is known of objects about what a follower sees: of this line the code keeps its part, the answer gives its number, and by the
-- catalogue the follower with it sees as much.
pub record IsKnown (mode : DbReaderMode) (skips : Bool) (lag : ℕ) (Sees : ObjectsOf Span → Line → Follower → PollAnswer → Type 0) (o : Objects) (stored line : Line) (b : Follower) (answer : PollAnswer) : Type 0 where
  pub keeps : b.line ≡ line_above b.view.manifest.last_l0_seq line
  pub answers : AnswersAt (end line) answer
  pub sees : Sees (catalogue_of o) stored (with_line mode skips lag b line) answer

module _ (stored : Line) (mode : DbReaderMode) (skips opening : Bool) (lag : ℕ) (o : Objects) (b : Follower) (answer : PollAnswer) (sound : IsSound o) (is : content o ≡ stored) (v : IsView mode opening o b.view) (all : SeesOwed (by_objects (Some o)) mode skips lag o stored b answer) where
  owed_is : all.0 ≡ owed_line mode skips o b.view stored
  owed_is = owed-is (Some o) o mode skips b.view stored all.0 all.1

  -- so what one that is opened is owed
  pub owed-known-by : IsKnown mode skips lag (SeesOwed (by_catalogue stored (catalogue_of o)) mode skips lag) o stored (owed_line mode skips o b.view stored) b answer
  owed-known-by = record {
    keeps = ap (λ (f : Follower). f.line) all.2 ∙ ap (line_above b.view.manifest.last_l0_seq) owed_is;
    answers = inl (all.3 ∙ ap (λ l. Whole (end l)) owed_is);
    sees = sees-known stored (catalogue_of o) (Some o) mode skips opening lag o b answer sound is v all;
  }

-- and what a poll gives: what is stored up to the follower's number
module _ (stored : Line) (a : Follower) (o : Objects) (b : Follower) (answer : PollAnswer) (sound : IsSound o) (is : content o ≡ stored) (v : IsView a.mode false o b.view) where
  abbrev seen_line : Line
  seen_line = up_to (number b) stored

  same-number : number (kept_follower a) ≡ number a
  same-number = line_above-end a.view.manifest.last_l0_seq a.line

  comes-same : come_by (kept_follower a) b.view ≡ come_by a b.view
  comes-same = ap (λ n. max n b.view.manifest.last_l0_seq) same-number

  of-owed : SeesOwed (by_objects (Some o)) a.mode a.skips a.lag o stored b answer → owed_line a.mode a.skips o b.view stored ≡ seen_line
  of-owed all =
      let line = owed_is stored a.mode a.skips false a.lag o b answer sound is v all in
      let owed = owed_line a.mode a.skips o b.view stored in
      let begins : IsPrefix owed stored = owed-begins stored a.mode a.skips false o b.view sound is v in
      let ends : number b ≡ end owed = ap number all.2 ∙ (line_above-end b.view.manifest.last_l0_seq all.0 ∙ ap end line) in
      sym (ap (λ l. up_to (number b) l) begins.1 ∙ (ap (λ n. up_to n (extended owed begins.0)) ends ∙ up_to-end owed begins.0))

  pub polled-by : SeesPolled (by_objects (Some o)) (kept_follower a) o stored b answer → IsKnown a.mode a.skips a.lag (SeesPolled (by_catalogue stored (catalogue_of o)) a) o stored seen_line b answer
  polled-by (inl (all, catches)) =
      let line = of-owed all in
      let known = owed-known-by stored a.mode a.skips false a.lag o b answer sound is v all in
      record {
        keeps = known.keeps ∙ ap (line_above b.view.manifest.last_l0_seq) line;
        answers = subst (λ l. AnswersAt (end l) answer) line known.answers;
        sees = inl (
          subst (λ l. SeesOwed (by_catalogue stored (catalogue_of o)) a.mode a.skips a.lag (catalogue_of o) stored (with_line a.mode a.skips a.lag b l) answer) line known.sees,
          subst (λ n. (a.lag ≡ 0) ⊎ ((a.skips ≡ true) ⊎ ((n + a.lag < end stored) ⊎ (b.view.manifest.last_l0_seq < a.view.manifest.last_l0_seq)))) comes-same catches,
        );
      }
  polled-by (inr stays) =
      let ends : number b ≡ end seen_line = ap number stays.sees ∙ line_above-end b.view.manifest.last_l0_seq seen_line in
      record {
        keeps = ap (λ (f : Follower). f.line) stays.sees;
        answers = inl (stays.answered ∙ ap Whole ends);
        sees = inr (record {
          reads = stays.reads;
          may = stays.may;
          near = subst (λ m. end stored ≤ m + a.lag) comes-same stays.near;
          reached = sym ends ∙ (stays.reached ∙ comes-same);
          sees = ap (λ n. rebuilt a.mode a.skips a.lag b.view (up_to n stored) b.mark) ends;
          mark = subst (λ n. (b.mark ≡ max a.mark b.view.manifest.replay_after_wal_id) ⊎ ((n < b.view.manifest.last_l0_seq) × (b.mark ≡ b.view.manifest.replay_after_wal_id))) same-number stays.mark;
          answered = stays.answered ∙ ap Whole ends;
        });
      }

-- which keys it replays of objects without a segment is known by their catalogue
module _ (x : Option Extractor) (stored : Line) (c : Catalogue) (t : Option Objects) (mode : DbReaderMode) (skips : Bool) (o : Objects) (sound : IsSound o) (is : content o ≡ stored) where
  pub refuses-known : (opening : Bool) (refusal : Option SlateError) → ReplayRefuses (by_objects t) x mode skips opening o stored refusal → ReplayRefuses (by_catalogue stored c) x mode skips opening (catalogue_of o) stored refusal
  refuses-known opening refusal (view, owed, v, owes, refused) =
      (view, owed, view-known mode opening o view v, owed-known stored c t o mode skips opening view owed sound is v owes, refused)

  pub followed-ok : {A B : Type 0} (opening : Bool) (a : A) (b : B) → AreFollowed (by_objects t) x mode skips opening o stored (Ok a) → AreFollowed (by_catalogue stored c) x mode skips opening (catalogue_of o) stored (Ok b)
  followed-ok true a b h = refuses-known true None h
  followed-ok false a b h = tt

  pub followed-err : (A B : Type 0) (opening : Bool) (e : SlateError) → AreFollowed {A = A} (by_objects t) x mode skips opening o stored (Err e) → AreFollowed {A = B} (by_catalogue stored c) x mode skips opening (catalogue_of o) stored (Err e)
  followed-err A B true (errors.EmptySegmentPrefix key) h = refuses-known true (Some (errors.EmptySegmentPrefix key)) h
  followed-err A B true e h = tt
  followed-err A B false errors.InvalidDBState (key, h) = (key, refuses-known false (Some (errors.EmptySegmentPrefix key)) h)
  followed-err A B false e h = tt

-- the segments of what is kept of a line are those of the line
pub segments-whole : (x : Option Extractor) (number : ℕ) (kept line : Line) (segments : List (List ℕ)) → kept ≡ line_above number line → segments ≡ segments_of x (batches_above number kept.batches) → segments ≡ segments_of x (batches_above number line.batches)
segments-whole x number kept line segments is has =
    has ∙ (ap (λ (l : Line). segments_of x (batches_above number l.batches)) is ∙ ap (λ (l : Line). segments_of x l.batches) (line_above-twice number number line (omega arith)))

module _ (x : Option Extractor) (stored : Line) (mode : DbReaderMode) (skips opening : Bool) (lag : ℕ) (Sees : Objects → Line → Follower → PollAnswer → Type 0) (Sees' : ObjectsOf Span → Line → Follower → PollAnswer → Type 0) (seen : Objects → Line → Type 0) (seen' : ObjectsOf Span → Line → Type 0)
    (o o' : Objects) (f f' : ℕ) (sound : IsSound o) (is : content o ≡ stored) (was_seen : seen o stored) (line : Follower → Line)
    (knows : (b : Follower) (answer : PollAnswer) → IsView mode opening o b.view → Sees o stored b answer → IsKnown mode skips lag Sees' o stored (line b) b answer) where
  -- a follower that takes what is stored of sound objects sees what it is to
  pub rebuilds-reduced : (r : Result (Follower × PollAnswer) SlateError) → Rebuilds (by_objects (Some o)) x mode skips opening lag Sees seen (holding o f) r (holding o' f') →
      Rebuilds (by_catalogue stored (catalogue_of o)) x mode skips opening lag Sees' seen' (catalogued o f) (rebuilt-whole mode skips lag line r) (catalogued o' f')
  rebuilds-reduced (Ok b) s =
      let all = s.sees o stored refl (o, refl, sound, sym is) was_seen in
      let v = s.can o refl in
      let k = by_catalogue stored (catalogue_of o) in
      let whole = with_line mode skips lag b.0 (line b.0) in
      let known = knows b.0 b.1 v all in
      record {
        kept = kept-known o o' f f' s.kept;
        faults = record { count = s.faults.count; unavailable = λ no. absurd (cc); stays = s.faults.stays };
        missing = λ no. absurd (cc);
        cause = tt;
        answer = (refl, refl, refl, refl, refl, known.answers);
        can = λ c at. subst (λ x. IsView mode opening x b.0.view) (some-same (catalogue_of o) c at) (view-known mode opening o b.0.view v);
        logs = λ c at free reads_logs all_read. subst (λ x. HasAllLogs x whole b.1) (some-same (catalogue_of o) c at) (logs-known o b.0 whole b.1 refl (s.logs o refl free reads_logs all_read));
        sees = λ c line at stored_is seen_before.
            subst (λ x. Sees' x line whole b.1) (some-same (catalogue_of o) c at)
            (subst (λ l. Sees' (catalogue_of o) l whole b.1) (sym stored_is) known.sees);
        fits = λ c at. subst (λ x'. RefusesLatest x opening x' None) (some-same (catalogue_of o) c at) (s.fits o refl);
        segmented = λ c line at stored_is _.
            let answer : Follower × PollAnswer = (whole, b.1) in
            subst (λ x'. AreFollowed k x mode skips opening x' line (Ok answer)) (some-same (catalogue_of o) c at)
            (subst (λ l. AreFollowed k x mode skips opening (catalogue_of o) l (Ok answer)) (sym stored_is)
            (followed-ok x stored (catalogue_of o) (Some o) mode skips o sound is opening b answer (s.segmented o stored refl (o, refl, sound, sym is) was_seen)));
        segments = λ opens. segments-whole x b.0.view.manifest.last_l0_seq b.0.line (line b.0) b.0.segments known.keeps (s.segments opens);
      }
  rebuilds-reduced (Err e) s = record {
    kept = kept-known o o' f f' s.kept;
    faults = s.faults;
    missing = s.missing;
    cause = follow_cause-known x mode opening o e sound s.cause;
    fits = tt;
    answer = tt;
    can = tt;
    logs = tt;
    sees = tt;
    segmented = λ c line at stored_is _.
        let k = by_catalogue stored (catalogue_of o) in
        subst (λ x'. AreFollowed {A = Follower × PollAnswer} k x mode skips opening x' line (Err e)) (some-same (catalogue_of o) c at)
        (subst (λ l. AreFollowed {A = Follower × PollAnswer} k x mode skips opening (catalogue_of o) l (Err e)) (sym stored_is)
        (followed-err x stored (catalogue_of o) (Some o) mode skips o sound is (Follower × PollAnswer) (Follower × PollAnswer) opening e (s.segmented o stored refl (o, refl, sound, sym is) was_seen)));
    segments = tt;
  }

-- the whole follower after a poll, of which the code keeps a part
abbrev pub polled-whole : Line → CloseResult → (pinned : Bool) → Follower → Follower → Result PollAnswer SlateError → Follower
polled-whole stored None false a b (Ok answer) = with_line a.mode a.skips a.lag b (up_to (number b) stored)
polled-whole stored closed pinned a b r = a

pub polls-reduced : (x : Option Extractor) (stored : Line) (r : Result PollAnswer SlateError) (a b : Follower) (o o' : Objects) (f f' : ℕ) → IsSound o → content o ≡ stored → IsPrefix a.line stored → (is_pinned a.mode ≡ false → HasSeen o a) → Polls (by_objects (Some o)) x (kept_follower a) (holding o f) r b (holding o' f') → Polls (by_catalogue stored (catalogue_of o)) x a (catalogued o f) r (polled-whole stored a.result (is_pinned a.mode) a b r) (catalogued o' f')
polls-reduced x stored r a b o o' f f' sound is front seen s = record {
  closed = if_some {Q = λ q. (r ≡ Err (closed_error q)) × (catalogued o' f' ≡ catalogued o f)} a.result (λ q c. (c.0, same-known o o' f f' c.1)) s.closed;
  failed = failed-by r;
  pinned = λ live stays. let p = s.pinned live stays in
      (p.0 ∙ ap (λ n. Ok (Whole n)) (line_above-end a.view.manifest.last_l0_seq a.line), pinned-same live stays r, same-known o o' f f' p.2);
  rebuilds = λ live free. rebuilt-by r live free (s.rebuilds live free);
  segments = λ had. segments-by had r (λ live free. s.rebuilds live free) (s.segments (had ∙ sym (ap (λ (l : Line). segments_of x l.batches) (line_above-twice a.view.manifest.last_l0_seq a.view.manifest.last_l0_seq a.line (omega arith)))));
} where
  failed-by : (r : Result PollAnswer SlateError) → IfErr r (λ e. polled-whole stored a.result (is_pinned a.mode) a b r ≡ a)
  failed-by (Ok answer) = tt
  failed-by (Err e) = by a.result (is_pinned a.mode) where
    by : (closed : CloseResult) (pinned : Bool) → polled-whole stored closed pinned a b (Err e) ≡ a
    by None true = refl
    by None false = refl
    by (Some q) pinned = refl

  pinned-same : a.result ≡ None → is_pinned a.mode ≡ true → (r : Result PollAnswer SlateError) → polled-whole stored a.result (is_pinned a.mode) a b r ≡ a
  pinned-same live stays r = ap (λ c. polled-whole stored c (is_pinned a.mode) a b r) live ∙ (ap (λ p. polled-whole stored None p a b r) stays ∙ by r) where
    by : (r : Result PollAnswer SlateError) → polled-whole stored None true a b r ≡ a
    by (Ok answer) = refl
    by (Err e) = refl

  Seen : ObjectsOf Span → Line → Type 0
  Seen objects line = Unit {0}

  segments-by : HasSegments x a → (r : Result PollAnswer SlateError) → (a.result ≡ None → is_pinned a.mode ≡ false → Rebuilds (by_objects (Some o)) x a.mode a.skips false a.lag (SeesPolled (by_objects (Some o)) (kept_follower a)) (kept_seen (kept_follower a)) (holding o f) (built b r) (holding o' f')) → HasSegments x b →
      HasSegments x (polled-whole stored a.result (is_pinned a.mode) a b r)
  segments-by had (Err e) rebuilds has = subst (HasSegments x) (sym (failed-by (Err e))) had
  segments-by had (Ok answer) rebuilds has = by a.result (is_pinned a.mode) refl refl where
    by : (closed : CloseResult) (pinned : Bool) → a.result ≡ closed → is_pinned a.mode ≡ pinned → HasSegments x (polled-whole stored closed pinned a b (Ok answer))
    by (Some q) pinned closed is_it = had
    by None true live stays = had
    by None false live free =
        let builds = rebuilds live free in
        let all = builds.sees o stored refl (o, refl, sound, sym is) (a, refl, front, seen free) in
        let known = polled-by stored a o b answer sound is (builds.can o refl) all in
        segments-whole x b.view.manifest.last_l0_seq b.line (up_to (number b) stored) b.segments known.keeps has

  reduced-by : is_pinned a.mode ≡ false → (q : Result (Follower × PollAnswer) SlateError) → Rebuilds (by_objects (Some o)) x a.mode a.skips false a.lag (SeesPolled (by_objects (Some o)) (kept_follower a)) (kept_seen (kept_follower a)) (holding o f) q (holding o' f') →
      Rebuilds (by_catalogue stored (catalogue_of o)) x a.mode a.skips false a.lag (SeesPolled (by_catalogue stored (catalogue_of o)) a) Seen (catalogued o f) (rebuilt-whole a.mode a.skips a.lag (λ b. up_to (number b) stored) q) (catalogued o' f')
  reduced-by free q d =
      rebuilds-reduced x stored a.mode a.skips false a.lag (SeesPolled (by_objects (Some o)) (kept_follower a)) (SeesPolled (by_catalogue stored (catalogue_of o)) a) (kept_seen (kept_follower a)) Seen o o' f f' sound is (a, refl, front, seen free)
      (λ b. up_to (number b) stored) (λ b answer v all. polled-by stored a o b answer sound is v all) q d

  rebuilt-by : (r : Result PollAnswer SlateError) → a.result ≡ None → is_pinned a.mode ≡ false → Rebuilds (by_objects (Some o)) x a.mode a.skips false a.lag (SeesPolled (by_objects (Some o)) (kept_follower a)) (kept_seen (kept_follower a)) (holding o f) (built b r) (holding o' f') →
      Rebuilds (by_catalogue stored (catalogue_of o)) x a.mode a.skips false a.lag (SeesPolled (by_catalogue stored (catalogue_of o)) a) Seen (catalogued o f) (built (polled-whole stored a.result (is_pinned a.mode) a b r) r) (catalogued o' f')
  rebuilt-by (Ok answer) live free d =
      let whole : (closed : CloseResult) (pinned : Bool) → Follower = λ closed pinned. polled-whole stored closed pinned a b (Ok answer) in
      let same : whole a.result (is_pinned a.mode) ≡ whole None false = ap (λ c. whole c (is_pinned a.mode)) live ∙ ap (whole None) free in
      subst (λ w. Rebuilds (by_catalogue stored (catalogue_of o)) x a.mode a.skips false a.lag (SeesPolled (by_catalogue stored (catalogue_of o)) a) Seen (catalogued o f) (Ok (w, answer)) (catalogued o' f')) (sym same)
      (reduced-by free (Ok (b, answer)) d)
  rebuilt-by (Err e) live free d = reduced-by free (Err e) d
