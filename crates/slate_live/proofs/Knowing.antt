-- What a command does to an honest store by what the code keeps of a handle, it does to what the world knows of both.
use Rattle.slate_status.specs.Records.{status_by}
use Rattle.slate_live.specs.Settings.{Settings}
use Rattle.slate_errors.specs.declared.endings.TaskName.{TaskName}
use Rattle.slate_model.specs.Segments.{Extractor}
use Rattle.std.proofs.Common.{◌≡◌, ℕ, ℤ, List, [], Option, Some, None, Result, Ok, Err, inl, inr, refl, sym, subst, ap, ◌∙◌, ◌≤◌, ◌++◌, arith, ◌∷◌, Bool, true, false}
use Rattle.slate_types.specs.declared.batches.Batch.{Batch}
use Rattle.slate_types.specs.declared.batches.KeyOp.{KeyOp}
use Rattle.slate_types.specs.declared.batches.KeyValue.{KeyValue}
use Rattle.slate_types.specs.declared.options.FlushType.{FlushType}
use Rattle.slate_types.specs.declared.read_faults.ReadFault.{ReadFault}
use Rattle.slate_types.specs.Line.{Line, batches_above}
use Rattle.slate_types.specs.declared.ranges.ByteRange.{ByteRange}
use Rattle.slate_types.specs.declared.scan_options.IterationOrder.{IterationOrder}
use Rattle.slate_types.specs.Operator.{Merge}
use Rattle.slate_reads.specs.Bound.{read_bound}
use Rattle.slate_reads.specs.Read.{read_at}
use Rattle.slate_rows.specs.Iteration.{Iteration}
use Rattle.slate_rows.specs.Scan.{BeginsScan}
use Rattle.slate_store.specs.Content.{IsSound, content, table_batches}
use Rattle.slate_store.specs.Objects.{Objects, changed, latest_manifest, table_at}
use Rattle.slate_store.specs.declared.objects.TableId.{TableId}
use Rattle.slate_store.specs.declared.objects.VersionedManifest.{VersionedManifest}
use Rattle.slate_errors.specs.declared.errors.SlateError.TheVariants as errors
use Rattle.slate_store.specs.declared.refusals.StoreRefusal.TheVariants as refusals
use Rattle.slate_store.specs.declared.reader_modes.DbReaderMode.TheVariants as modes
use Rattle.slate_errors.specs.declared.errors.SlateError.{SlateError}
use Rattle.slate_model.specs.Catalogue.{catalogue_of}
use Rattle.slate_model.specs.Close.{closed, closing_flush, ended, recorded_fault, without_tasks, Closes}
use Rattle.slate_model.specs.declared.leases.Lease.{Lease}
use Rattle.slate_model.specs.Managed.{PollsManaged}
use Rattle.slate_model.specs.Flush.{flush_result, grown, CanFlush, Flushes, IsFlushed, Stores}
use Rattle.slate_model.specs.Follow.{Polls}
use Rattle.slate_model.specs.Follower.{Follower, is_managed, is_pinned, number}
use Rattle.slate_model.specs.Handle.{CloseResult, Handle, accepted, kept_handle, next_table}
use Rattle.slate_model.specs.Known.{Known, Untouched}
use Rattle.slate_model.specs.Object.{Handle as AHandle}
use Rattle.slate_model.specs.Read.{Gives, ReadsUnlessClosed}
use Rattle.slate_model.specs.Stores.{by_catalogue, by_objects, kept_rows, world_rows}
use Rattle.slate_model.specs.Tables.{AreJoined, AreStored}
use Rattle.slate_model.specs.Valid.{AreBefore, IsValidHandle, ReadsItsLine}
use Rattle.slate_model.proofs.Compacting.{compact-moved, refresh-moved, compact-rises, refresh-rises}
use Rattle.slate_model.proofs.Flushing.{flush-moved, grown-zero}
use Rattle.slate_model.proofs.Free.{flush-unset, joins}
use Rattle.slate_model.proofs.Keeping.{accepted-kept, log_for-kept, segments-kept}
use Rattle.slate_model.proofs.Moving.{Moved, known-stored, none-known, unmoved}
use Rattle.slate_model.proofs.Reduced.{catalogued, closes-reduced, compacts-reduced, flushed-whole, flushes-reduced, holding, kept-whole, modelled, reads-reduced, refreshes-reduced, some-same, stores-rises, untouched-known, whole}
use Rattle.slate_model.proofs.Writing.{rewritten, writes-whole, written-reads, written-valid}
use Rattle.slate_script.specs.declared.replies.Reply.{Reply}
use Rattle.slate_live.specs.declared.states.Write.{Write}
use Rattle.slate_live.specs.Calls.{Call, Write as WriteCall, Merge as MergeCall, Flush, Refresh, Compact, Get, Scan, Seek, Close, Poll, Status, FindTime, FindNumber, Nothing}
use Rattle.slate_live.specs.Followers.{ClosesAs, FollowerActs, PollsAs}
use Rattle.slate_live.specs.Handles.{HandleActs, IsPlainRead, IsPlainScan, MergesTo, cut, flush_type_by, WritesTo, TakesFrom, level_of}
use Rattle.slate_live.specs.Replies.{AnswersStatus}
use Rattle.slate_status.specs.Records.{status_by}
use Rattle.slate_live.specs.Scans.{scanned, sought}
use Rattle.slate_live.specs.World.{grown_by}
use Rattle.slate_live.proofs.Cases.{by-option, close-by, compact-by, flush-by, refresh-by, some-of}
use Rattle.slate_errors.specs.Errors.{closed_error}
use Rattle.slate_model.specs.declared.answers.Written.{Written}
use Rattle.slate_errors.specs.declared.endings.Ended.{Ended}
use Rattle.slate_model.specs.Refresh.{Compacts, Refreshes, fenced_result}
use Rattle.slate_model.specs.declared.answers.PollAnswer.{PollAnswer}
use Rattle.slate_model.specs.Write.{written}
use Rattle.slate_live.specs.Represents.{IsLeased}

-- ---- reads
-- the batches that the code reads for a handle are the line's
pub joined-are : (o : Objects) (ids : List TableId) (stored : List Batch) → AreJoined (Some o) ids stored → AreStored o ids × (stored ≡ table_batches o ids)
joined-are o [] stored none = (λ k d less. absurd (omega (arith, less)), none)
joined-are o (id ∷ ids) stored all = all

rows-known : (line : Line) (o : Objects) (h : Handle) → ReadsItsLine o (AHandle h) → (rows : List Batch) → kept_rows (Some o) (AHandle (kept_handle h)) rows → world_rows line (catalogue_of o) (AHandle h) rows
rows-known line o h reads rows r =
    let all = joined-are o h.view.manifest.tables r.0 r.1 in (
      known-stored o h.view.manifest.tables all.0,
      r.2 ∙ (ap (λ bs. bs ++ batches_above h.view.manifest.last_l0_seq h.line.batches) all.1 ∙ reads all.0),
    )

cut-kept : (h : Handle) (remote : Bool) (snapshot : Option ℕ) → cut (kept_handle h) remote snapshot ≡ cut h remote snapshot
cut-kept h remote snapshot = ap (λ n. read_bound snapshot h.durable n (level_of remote) false) (accepted-kept h)

read-known : (merge : Option Merge) (key : List ℕ) (remote : Bool) (snapshot : Option ℕ) (h : Handle) (rows : List Batch) (a : Result (Option KeyValue) ReadFault) → IsPlainRead merge key remote snapshot (kept_handle h) rows a → IsPlainRead merge key remote snapshot h rows a
read-known merge key remote snapshot h rows a plain = plain ∙ ap (λ c. read_at merge rows c key) (cut-kept h remote snapshot)

scan-known : (merge : Option Merge) (range : ByteRange) (order : IterationOrder) (remote : Bool) (snapshot : Option ℕ) (h : Handle) (rows : List Batch) (a : Result Iteration ReadFault) → Gives (IsPlainScan merge range order remote snapshot (kept_handle h)) rows a → Gives (IsPlainScan merge range order remote snapshot h) rows a
scan-known merge range order remote snapshot h rows (Ok it) plain = subst (λ c. BeginsScan merge rows c range order it) (cut-kept h remote snapshot) plain
scan-known merge range order remote snapshot h rows (Err fault) plain = plain

-- a read leaves the objects
pub objects-read : {A : Type 0} {has : List Batch → Type 0} {P : List Batch → Result A ReadFault → Type 0} (closed : CloseResult) (tables : List TableId) (r : Result A SlateError) (o o' : Objects) (f f' : ℕ) → ReadsUnlessClosed closed tables has P (holding o f) r (holding o' f') → o' ≡ o
objects-read closed tables r o o' f f' s =
    by-option closed
    (λ live. some-same o' o (s.read live).kept)
    (λ q is. some-same o' o (ap (λ (k : Known (List Batch)). k.objects) (some-of (λ q. (r ≡ Err (closed_error q)) × (holding o' f' ≡ holding o f)) closed q is s.closed).1))

pub objects-same : (o o' : Objects) (f f' : ℕ) → holding o' f' ≡ holding o f → o' ≡ o
objects-same o o' f f' same = some-same o' o (ap (λ (k : Known (List Batch)). k.objects) same)

-- a valid handle is one without its tasks
ended-valid : (stored : Line) (o : Objects) (h : Handle) → IsValidHandle stored (catalogue_of o) h → IsValidHandle stored (catalogue_of o) (without_tasks h)
ended-valid stored o h v = record {
  numbered = v.numbered;
  floor = v.floor;
  tabled = v.tabled;
  durable = v.durable;
  confirmed = v.confirmed;
  unused = v.unused;
  behind = v.behind;
  current = v.current;
}

-- and after its close
closed-valid : (stored : Line) (o : Objects) (h : Handle) → IsValidHandle stored (catalogue_of o) h → IsValidHandle stored (catalogue_of o) (closed h)
closed-valid stored o h v = record {
  numbered = v.numbered;
  floor = v.floor;
  tabled = v.tabled;
  durable = v.durable;
  confirmed = v.confirmed;
  unused = v.unused;
  behind = v.behind;
  current = λ found live at low. absurd (cc);
}

type-kept : (flush_type : Option FlushType) (h : Handle) → flush_type_by flush_type (kept_handle h) ≡ flush_type_by flush_type h
type-kept None h = refl
type-kept (Some t) h = refl

module _ (stored : Line) (o o' : Objects) (f f' : ℕ) (made : ℕ) (writes writes' : List Write) (reply : Reply) (sound : IsSound o) (holds : content o ≡ stored)
    (latest : VersionedManifest) (is : latest_manifest o ≡ Some latest) (h k : Handle) (v : IsValidHandle stored (catalogue_of o) h) (reads : ReadsItsLine o (AHandle h)) (before : AreBefore h h.view.manifest.tables)
    (settings : Settings) (n : ℕ) (moment : ℤ) (second : Option ℤ) where
  -- what the command leaves of the whole handle: it moved, and what is kept of it is what the code has
  pub record Led (call : Call) : Type 0 where
    pub new : Handle
    pub kept : k ≡ kept_handle new
    pub moved : Moved stored (grown_by call made stored (Some (AHandle h))) o o' latest h new
    pub known : HandleActs (by_catalogue stored (catalogue_of o)) settings n moment second call made h (catalogued o f) writes reply new (catalogued o' f') writes'

  low : h.view.manifest.last_l0_seq ≤ accepted h
  low = let t = v.tabled in let d = v.durable in omega (arith, t, d)

  ahead : (found : VersionedManifest) → latest_manifest o ≡ Some found → h.view.manifest.last_l0_seq ≤ found.manifest.last_l0_seq
  ahead found at =
      let same : v.behind.0 ≡ found = (let b = v.behind.1 in cc) in
      let e = ap (λ (m : VersionedManifest). m.manifest.last_l0_seq) same in
      let l = v.behind.3 in
      omega (arith, e, l)

  free : table_at (next_table h) o ≡ None
  free = none-known (next_table h) o (v.unused h.counter (omega arith))

  -- the objects didn't change
  still : (new : Handle) → o' ≡ o → new.epoch ≡ h.epoch → h.counter ≤ new.counter → new.view ≡ h.view → IsValidHandle stored (catalogue_of o) new → ReadsItsLine o (AHandle new) → Moved stored stored o o' latest h new
  still new same epoch counter view mine its = subst (λ x. Moved stored stored o x latest h new) (sym same) (unmoved stored o latest h new sound holds is epoch counter view mine its)

  still-same : o' ≡ o → Moved stored stored o o' latest h h
  still-same same = still h same refl (omega arith) refl v reads

  wrote : (x : Option Extractor) (ops : List KeyOp) (r : Result Written SlateError) → o' ≡ o → Moved stored stored o o' latest h (rewritten x h v.tabled low ops r)
  wrote x ops (Ok w) same = still (written x h ops w.create_ts) same refl (omega arith) refl (written-valid x stored (catalogue_of o) h ops w.create_ts v) (written-reads x stored (catalogue_of o) h ops w.create_ts v o reads)
  wrote x ops (Err e) same = still-same same

  write-led : (x : Option Extractor) (ops : List KeyOp) → WritesTo x n ops moment second (kept_handle h) writes reply k writes' → Untouched made (holding o f) (holding o' f') → (new : Handle) × (k ≡ kept_handle new) × Moved stored stored o o' latest h new × WritesTo x n ops moment second h writes reply new writes'
  write-led x ops a u =
      let w = writes-whole x h v.tabled low ops moment second a.result k a.does in (
        rewritten x h v.tabled low ops a.result,
        w.1,
        wrote x ops a.result (objects-same o o' f f' u.1),
        record { result = a.result; replied = a.replied; does = w.0; noted = a.noted },
      )

  merge-led : (merge : Option Merge) (x : Option Extractor) (op : KeyOp) → MergesTo merge x n op moment second (kept_handle h) writes reply k writes' → Untouched made (holding o f) (holding o' f') → (new : Handle) × (k ≡ kept_handle new) × Moved stored stored o o' latest h new × MergesTo merge x n op moment second h writes reply new writes'
  merge-led None x op a u = (h, a.1, still-same (objects-same o o' f f' u.1), (a.0, refl, a.2))
  merge-led (Some function) x op a u = write-led x (op ∷ []) a u

  -- a handle that changed only by what a command of another relation says
  whole-kept : k ≡ kept_handle h → k ≡ kept_handle (whole h k)
  whole-kept same = same ∙ ap kept_handle (sym (ap (whole h) same))

  abbrev Goes : Line → Type 0
  Goes stored' = (k ≡ kept_handle (whole h k)) × Moved stored stored' o o' latest h (whole h k)

  goes-same : (stored' : Line) → stored' ≡ stored → k ≡ kept_handle h → o' ≡ o → Goes stored'
  goes-same stored' none same objects =
      (whole-kept same, subst (λ l. Moved stored l o o' latest h (whole h k)) (sym none) (subst (Moved stored stored o o' latest h) (sym (ap (whole h) same)) (still-same objects)))

  goes-closed : (stored' : Line) → stored' ≡ stored → k ≡ closed (kept_handle h) → o' ≡ o → Goes stored'
  goes-closed stored' none same objects = (
    same ∙ ap kept_handle (sym (ap (whole h) same)),
    subst (λ l. Moved stored l o o' latest h (whole h k)) (sym none)
        (subst (Moved stored stored o o' latest h) (sym (ap (whole h) same)) (still (closed h) objects refl (omega arith) refl (closed-valid stored o h v) reads)),
  )

  goes-ended : (stored' : Line) → stored' ≡ stored → k ≡ without_tasks (kept_handle h) → o' ≡ o → Goes stored'
  goes-ended stored' none same objects = (
    same ∙ ap kept_handle (sym (ap (whole h) same)),
    subst (λ l. Moved stored l o o' latest h (whole h k)) (sym none)
        (subst (Moved stored stored o o' latest h) (sym (ap (whole h) same)) (still (without_tasks h) objects refl (omega arith) refl (ended-valid stored o h v) reads)),
  )

  flushed-goes : (t : FlushType) (r : Result (Unit {0}) SlateError) (result : CloseResult) (tasks : List TaskName) → (result ≡ None → result ≡ flush_result r) → CanFlush t (kept_handle h) → IsFlushed kept_handle made r result tasks (kept_handle h) k → Stores (by_objects (Some o)) made t (kept_handle h) (holding o f) r k (holding o' f') → Goes (grown made stored h)
  flushed-goes t r result tasks says can fl s =
      let step = modelled o o' s.objects in
      let line = ap (λ (x : Handle). x.line) fl.same in
      let segments = ap (λ (x : Handle). x.segments) fl.same in (
        kept-whole h k (stores-rises (Some o) stored (catalogue_of o) h o v.tabled ahead t step) line segments,
        flush-moved stored o o' latest t h k r result tasks made sound holds is v reads before (can.0, sym (log_for-kept h t) ∙ can.1) step (flushed-whole made r result tasks h k fl) says,
      )

  flush-goes : (t : FlushType) (r : Result (Unit {0}) SlateError) → Flushes (by_objects (Some o)) made t (kept_handle h) (holding o f) r k (holding o' f') → Goes (grown made stored h)
  flush-goes t r does =
      flush-by (by_objects (Some o)) made (kept_handle h) (holding o f) k (holding o' f') (Goes (grown made stored h)) t r does
      (λ q closed_is error same u. goes-same (grown made stored h) (grown-zero made stored h u.0) same (objects-same o o' f f' u.1))
      (λ live without error same u. goes-same (grown made stored h) (grown-zero made stored h u.0) same (objects-same o o' f f' u.1))
      (λ can fl s. flushed-goes t r (flush_result r) h.tasks (λ live. refl) can fl s)

  close-goes : (flush_type : Option FlushType) (e : Ended) → Closes (by_objects (Some o)) made flush_type (kept_handle h) (holding o f) e k (holding o' f') → Goes (grown made stored h)
  close-goes flush_type e does =
      close-by (by_objects (Some o)) made (kept_handle h) (holding o f) k (holding o' f') (Goes (grown made stored h)) flush_type e does
      (λ q closed_is ended_is same u. goes-ended (grown made stored h) (grown-zero made stored h u.0) same (objects-same o o' f f' u.1))
      (λ live none ended_is same u. goes-closed (grown made stored h) (grown-zero made stored h u.0) same (objects-same o o' f f' u.1))
      (λ t live some without ended_is same u. goes-closed (grown made stored h) (grown-zero made stored h u.0) same (objects-same o o' f f' u.1))
      (λ t can some ended_is fl s. flushed-goes t (closing_flush e.fault) (Some (Ok tt)) [] (λ live. absurd (cc)) can fl s)

  refresh-goes : (r : Result (Unit {0}) SlateError) → Refreshes (by_objects (Some o)) (kept_handle h) (holding o f) r k (holding o' f') → Goes stored
  refresh-goes r does =
      refresh-by (by_objects (Some o)) 0 (kept_handle h) (holding o f) k (holding o' f') (Goes stored) r does
      (λ q closed_is error same u. goes-same stored refl same (objects-same o o' f f' u))
      (λ live d.
      let objects = some-same o' o d.kept in
      let counter = ap (λ (x : Handle). x.counter) d.same in
      let same : whole h k ≡ record h { counter = k.counter; view = k.view; result = fenced_result r } =
      ap (whole h) d.same ∙ ap (λ c. record h { counter = c; view = k.view; result = fenced_result r }) (sym counter) in (
        kept-whole h k (refresh-rises stored o o' latest h k r made sound holds is live v reads before same d.answer) (ap (λ (x : Handle). x.line) d.same) (ap (λ (x : Handle). x.segments) d.same),
        subst (λ x. Moved stored stored o x latest h (whole h k)) (sym objects) (refresh-moved stored o o' latest h k r made sound holds is live v reads before same d.answer counter),
      ))

  compact-goes : (r : Result (Unit {0}) SlateError) → Compacts (by_objects (Some o)) made (kept_handle h) (holding o f) r k (holding o' f') → Goes stored
  compact-goes r does =
      compact-by (by_objects (Some o)) made (kept_handle h) (holding o f) k (holding o' f') (Goes stored) r does
      (λ q closed_is error same u. goes-same stored refl same (objects-same o o' f f' u.1))
      (λ live d.
      let same = ap (whole h) d.same in
      let step = modelled o o' d.objects in (
        kept-whole h k (compact-rises stored o o' latest h k r made sound holds is live v reads before same step) (ap (λ (x : Handle). x.line) d.same) (ap (λ (x : Handle). x.segments) d.same),
        compact-moved stored o o' latest h k r made sound holds is live v reads before same step,
      ))

  taken-known : (range : ByteRange) (order : IterationOrder) (remote : Bool) (snapshot : Option ℕ) (taken : Iteration → Result (List KeyValue) SlateError) → TakesFrom (by_objects (Some o)) settings.merge range order remote snapshot taken (kept_handle h) (holding o f) reply (holding o' f') → TakesFrom (by_catalogue stored (catalogue_of o)) settings.merge range order remote snapshot taken h (catalogued o f) reply (catalogued o' f')
  taken-known range order remote snapshot taken a = record {
    scan = a.scan;
    result = a.result;
    scans = reads-reduced {has = kept_rows (Some o) (AHandle (kept_handle h))} {has' = world_rows stored (catalogue_of o) (AHandle h)} {P = Gives (IsPlainScan settings.merge range order remote snapshot (kept_handle h))} {P' = Gives (IsPlainScan settings.merge range order remote snapshot h)}
        (λ rows q has plain. (rows, rows-known stored o h reads rows has, scan-known settings.merge range order remote snapshot h rows q plain)) h.result h.view.manifest.tables a.scan o o' f f' a.scans;
    takes = a.takes;
    replied = a.replied;
  }

  pub handle-led : (call : Call) → HandleActs (by_objects (Some o)) settings n moment second call made (kept_handle h) (holding o f) writes reply k (holding o' f') writes' → Led call
  handle-led (WriteCall ops) a = let w = write-led settings.extractor ops a.0 a.1 in record { new = w.0; kept = w.1; moved = w.2; known = (w.3, untouched-known made o o' f f' a.1) }
  handle-led (MergeCall op) a = let w = merge-led settings.merge settings.extractor op a.0 a.1 in record { new = w.0; kept = w.1; moved = w.2; known = (w.3, untouched-known made o o' f f' a.1) }
  handle-led (Flush flush_type) a =
      let t = flush_type_by flush_type h in
      let does = subst (λ t. Flushes (by_objects (Some o)) made t (kept_handle h) (holding o f) (a.0).result k (holding o' f')) (type-kept flush_type h) (a.0).does in
      let g = flush-goes t (a.0).result does in
      record {
        new = whole h k;
        kept = g.0;
        moved = g.1;
        known = (record { result = (a.0).result; replied = (a.0).replied; does = flushes-reduced stored h o o' f f' v.tabled ahead made t k (a.0).result (flush-unset o latest h sound is free t) does }, a.1);
      }
  handle-led Refresh a =
      let g = refresh-goes (a.0).result (a.0).does in
      record {
        new = whole h k;
        kept = g.0;
        moved = g.1;
        known = (record { result = (a.0).result; replied = (a.0).replied; does = refreshes-reduced stored h o o' f f' v.tabled ahead k (a.0).result (a.0).does }, a.1, a.2);
      }
  handle-led Compact a =
      let g = compact-goes (a.0).result (a.0).does in
      record {
        new = whole h k;
        kept = g.0;
        moved = g.1;
        known = (record { result = (a.0).result; replied = (a.0).replied; does = compacts-reduced stored h o o' f f' v.tabled ahead (joins o latest h sound is free) made k (a.0).result (a.0).does }, a.1);
      }
  handle-led (Close flush_type) a =
      let g = close-goes flush_type (a.0).ended (a.0).does in
      record {
        new = whole h k;
        kept = g.0;
        moved = g.1;
        known = (record { ended = (a.0).ended; replied = (a.0).replied; does = closes-reduced stored h o o' f f' v.tabled ahead made flush_type k (a.0).ended (λ t some. flush-unset o latest h sound is free t) (a.0).does }, a.1);
      }
  handle-led (Get key remote snapshot) a = record {
    new = h;
    kept = a.1;
    moved = still-same (objects-read h.result h.view.manifest.tables (a.0).result o o' f f' (a.0).does);
    known = (
      record {
        result = (a.0).result;
        replied = (a.0).replied;
        does = reads-reduced {has = kept_rows (Some o) (AHandle (kept_handle h))} {has' = world_rows stored (catalogue_of o) (AHandle h)} {P = IsPlainRead settings.merge key remote snapshot (kept_handle h)} {P' = IsPlainRead settings.merge key remote snapshot h}
            (λ rows q has plain. (rows, rows-known stored o h reads rows has, read-known settings.merge key remote snapshot h rows q plain)) h.result h.view.manifest.tables (a.0).result o o' f f' (a.0).does;
      },
      refl,
      a.2,
      a.3,
    );
  }
  handle-led (Scan range order remote snapshot) a = record {
    new = h;
    kept = a.1;
    moved = still-same (objects-read h.result h.view.manifest.tables (a.0).scan o o' f f' (a.0).scans);
    known = (taken-known range order remote snapshot scanned a.0, refl, a.2, a.3);
  }
  handle-led (Seek range take key order remote snapshot) a = record {
    new = h;
    kept = a.1;
    moved = still-same (objects-read h.result h.view.manifest.tables (a.0).scan o o' f f' (a.0).scans);
    known = (taken-known range order remote snapshot (sought range take key) a.0, refl, a.2, a.3);
  }
  handle-led Poll a = record { new = h; kept = a.1; moved = still-same (objects-same o o' f f' a.2.1); known = (a.0, refl, untouched-known made o o' f f' a.2, a.3) }
  handle-led Status a = record { new = h; kept = a.1; moved = still-same (objects-same o o' f f' a.2.1); known = (subst (λ segments. AnswersStatus (record (status_by h.durable h.view h.result) { memtable_segments = segments }) reply) (segments-kept h) a.0, refl, untouched-known made o o' f f' a.2, a.3) }
  handle-led (FindTime number find) a = record { new = h; kept = a.1; moved = still-same (objects-same o o' f f' a.2.1); known = (a.0, refl, untouched-known made o o' f f' a.2, a.3) }
  handle-led (FindNumber seconds find) a = record { new = h; kept = a.1; moved = still-same (objects-same o o' f f' a.2.1); known = (a.0, refl, untouched-known made o o' f f' a.2, a.3) }
  handle-led Nothing a = record { new = h; kept = a.1; moved = still-same (objects-same o o' f f' a.2.1); known = (a.0, refl, untouched-known made o o' f f' a.2, a.3) }

-- ---- the objects afterwards
-- the lease of an open reader that keeps a checkpoint
pub leased-by : {G : Type 0} (g : Follower) → IsLeased g → is_managed g.mode ≡ true → g.result ≡ None → ((lease : Lease) → g.lease ≡ Some lease → G) → G
leased-by g leased managed live done = by-option g.lease (λ none. absurd (let there = leased managed live in cc)) done

abbrev pub AfterOf : Known (List Batch) → Type 0
AfterOf store' = (o' : Objects) × (store'.objects ≡ Some o')

as-before : (o : Objects) (f : ℕ) (store' : Known (List Batch)) → store' ≡ holding o f → AfterOf store'
as-before o f store' same = (o, ap (λ (k : Known (List Batch)). k.objects) same)

read-after : {A : Type 0} {has : List Batch → Type 0} {P : List Batch → Result A ReadFault → Type 0} (result : CloseResult) (tables : List TableId) (r : Result A SlateError) (o : Objects) (f : ℕ) (store' : Known (List Batch)) → ReadsUnlessClosed result tables has P (holding o f) r store' → AfterOf store'
read-after result tables r o f store' s =
    by-option result (λ live. (o, (s.read live).kept))
    (λ q is. as-before o f store' (some-of (λ q. (r ≡ Err (closed_error q)) × (store' ≡ holding o f)) result q is s.closed).1)

module _ (o : Objects) (f : ℕ) (made : ℕ) (writes writes' : List Write) (reply : Reply) (settings : Settings) (store' : Known (List Batch)) where
  pub handle-after : (n : ℕ) (moment : ℤ) (second : Option ℤ) (call : Call) (h k : Handle) → HandleActs (by_objects (Some o)) settings n moment second call made h (holding o f) writes reply k store' writes' → AfterOf store'
  handle-after n moment second (WriteCall ops) h k a = as-before o f store' a.1.1
  handle-after n moment second (MergeCall op) h k a = as-before o f store' a.1.1
  handle-after n moment second (Flush flush_type) h k a =
      flush-by (by_objects (Some o)) made h (holding o f) k store' (AfterOf store') (flush_type_by flush_type h) (a.0).result (a.0).does
      (λ q is error same u. as-before o f store' u.1) (λ live without error same u. as-before o f store' u.1)
      (λ can fl s. let t = (s.objects).some o refl in (t.0, t.1))
  handle-after n moment second Refresh h k a =
      refresh-by (by_objects (Some o)) made h (holding o f) k store' (AfterOf store') (a.0).result (a.0).does
      (λ q is error same u. as-before o f store' u) (λ live d. (o, d.kept))
  handle-after n moment second Compact h k a =
      compact-by (by_objects (Some o)) made h (holding o f) k store' (AfterOf store') (a.0).result (a.0).does
      (λ q is error same u. as-before o f store' u.1) (λ live d. let t = (d.objects).some o refl in (t.0, t.1))
  handle-after n moment second (Close flush_type) h k a =
      close-by (by_objects (Some o)) made h (holding o f) k store' (AfterOf store') flush_type (a.0).ended (a.0).does
      (λ q is error same u. as-before o f store' u.1) (λ live none error same u. as-before o f store' u.1) (λ t live some without error same u. as-before o f store' u.1)
      (λ t can some error fl s. let t = (s.objects).some o refl in (t.0, t.1))
  handle-after n moment second (Get key remote snapshot) h k a = read-after h.result h.view.manifest.tables (a.0).result o f store' (a.0).does
  handle-after n moment second (Scan range order remote snapshot) h k a = read-after h.result h.view.manifest.tables (a.0).scan o f store' (a.0).scans
  handle-after n moment second (Seek range take key order remote snapshot) h k a = read-after h.result h.view.manifest.tables (a.0).scan o f store' (a.0).scans
  handle-after n moment second Poll h k a = as-before o f store' a.2.1
  handle-after n moment second Status h k a = as-before o f store' a.2.1
  handle-after n moment second (FindTime number find) h k a = as-before o f store' a.2.1
  handle-after n moment second (FindNumber seconds find) h k a = as-before o f store' a.2.1
  handle-after n moment second Nothing h k a = as-before o f store' a.2.1

  polled-after : (r : Result PollAnswer SlateError) (g g' : Follower) → Polls (by_objects (Some o)) settings.extractor g (holding o f) r g' store' → AfterOf store'
  polled-after r g g' p =
      by-option g.result (λ live. by live (is_pinned g.mode) refl)
      (λ q is. as-before o f store' (some-of (λ q. (r ≡ Err (closed_error q)) × (store' ≡ holding o f)) g.result q is p.closed).1) where
        by : g.result ≡ None → (pinned : Bool) → is_pinned g.mode ≡ pinned → AfterOf store'
        by live true stays = as-before o f store' (p.pinned live stays).2
        by live false free = (o, (p.rebuilds live free).kept)

  -- what a poll of a reader that keeps a checkpoint leaves, and a close
  managed-after : (moment : ℤ) (r : Result PollAnswer SlateError) (g g' : Follower) → is_managed g.mode ≡ true → IsLeased g → PollsManaged (by_objects (Some o)) settings.extractor made moment g (holding o f) r g' store' → AfterOf store'
  managed-after moment r g g' managed leased p =
      by-option g.result
      (λ live. leased-by g leased managed live (λ lease is. elim (p.keeps lease live is) [
        | inl once ↦ let t = ((once.round).puts).some o refl in (t.0, t.1)
        | inr twice ↦ let t = ((twice.round).puts).some o refl in let u = (twice.puts).some t.0 t.1 in (u.0, u.1)
      ]))
      (λ q is. as-before o f store' (some-of (λ q. (r ≡ Err (closed_error q)) × (g' ≡ g) × Untouched made (holding o f) store') g.result q is p.closed).2.1)

  polls-after : (moment : ℤ) (r : Result PollAnswer SlateError) (g g' : Follower) (managed : Bool) → is_managed g.mode ≡ managed → IsLeased g → PollsAs (by_objects (Some o)) settings.extractor managed made moment g (holding o f) r g' store' → AfterOf store'
  polls-after moment r g g' true managed leased p = managed-after moment r g g' managed leased p
  polls-after moment r g g' false managed leased p = polled-after r g g' p.0

  closes-after : (answer : Ended) (g g' : Follower) (managed : Bool) → is_managed g.mode ≡ managed → IsLeased g → ClosesAs (by_objects (Some o)) managed made g (holding o f) answer g' store' → AfterOf store'
  closes-after answer g g' true managed leased c =
      by-option g.result
      (λ live. leased-by g leased managed live (λ lease is. let t = ((c.ends lease live is).puts).some o refl in (t.0, t.1)))
      (λ q is. as-before o f store' (some-of (λ _. (answer ≡ ended g.tasks (recorded_fault g.result)) × Untouched made (holding o f) store') g.result q is c.again).1.1)
  closes-after answer g g' false managed leased c = as-before o f store' c.2.1

  pub follower-after : (moment : ℤ) (call : Call) (g g' : Follower) → IsLeased g → FollowerActs (by_objects (Some o)) settings moment call made g (holding o f) writes reply g' store' writes' → AfterOf store'
  follower-after moment Poll g g' leased a = polls-after moment (a.0).result g g' (is_managed g.mode) refl leased (a.0).does
  follower-after moment (Get key remote snapshot) g g' leased a = read-after g.result g.view.manifest.tables (a.0).result o f store' (a.0).does
  follower-after moment (Scan range order remote snapshot) g g' leased a = read-after g.result g.view.manifest.tables (a.0).scan o f store' (a.0).scans
  follower-after moment (Seek range take key order remote snapshot) g g' leased a = read-after g.result g.view.manifest.tables (a.0).scan o f store' (a.0).scans
  follower-after moment (Close t) g g' leased a = closes-after (a.0).answer g g' (is_managed g.mode) refl leased (a.0).does
  follower-after moment (WriteCall ops) g g' leased a = as-before o f store' a.2.1
  follower-after moment (MergeCall op) g g' leased a = as-before o f store' a.2.1
  follower-after moment (Flush t) g g' leased a = as-before o f store' a.2.1
  follower-after moment Refresh g g' leased a = as-before o f store' a.2.1
  follower-after moment Compact g g' leased a = as-before o f store' a.2.1
  follower-after moment Status g g' leased a = as-before o f store' a.2.1
  follower-after moment (FindTime number find) g g' leased a = as-before o f store' a.2.1
  follower-after moment (FindNumber seconds find) g g' leased a = as-before o f store' a.2.1
  follower-after moment Nothing g g' leased a = as-before o f store' a.2.1
