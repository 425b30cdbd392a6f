-- Each call of a handle keeps it in step with its own store, which may be modelled or not.
use Rattle.std.proofs.Common.{◌≡◌, ◌≢◌, ℕ, ℤ, ◌<◌, ◌≤◌, inl, inr, List, [], ◌∷◌, ◌++◌, Bool, true, false, cond, leb, ltb, length, length-append, Option, Some, None, Result, Ok, Err, refl, sym, subst, ap, ◌∙◌, arith}
use Rattle.std.specs.Option.{IfSome}
use Rattle.std.proofs.lemmas.List.Elements.{All-push}
use Rattle.slate_types.specs.declared.batches.Batch.{Batch}
use Rattle.slate_types.specs.declared.batches.KeyOp.{KeyOp}
use Rattle.slate_types.specs.declared.options.FlushType.{FlushType}
use Rattle.slate_types.specs.declared.scan_options.ScanOptions.{ScanOptions}
use Rattle.slate_types.specs.Line.{IsLine}
use Rattle.slate_types.proofs.Lines.{numbered-push}
use Rattle.slate_rows.specs.declared.entries.RowEntry.{RowEntry}
use Rattle.slate_store.specs.declared.objects.Checkpoint.{Checkpoint}
use Rattle.slate_store.specs.declared.objects.TableId.{TableId}
use Rattle.slate_store.specs.declared.objects.VersionedManifest.{VersionedManifest}
use Rattle.slate_store.specs.declared.refusals.StoreRefusal.{StoreRefusal}
use Rattle.slate_store.specs.declared.refusals.StoreRefusal.TheVariants as refusals
use Rattle.slate_store.specs.Calls.{WhereModelled}
use Rattle.slate_store.specs.Checkpoints.{Plan, new_checkpoint, to_write, with_checkpoints}
use Rattle.slate_store.specs.Compaction.{with_table}
use Rattle.slate_store.specs.Objects.{Objects}
use Rattle.slate_store.specs.Refusals.{FollowsPlan, planned, planned_after}
use Rattle.slate_store.specs.Sweeps.{Sweeps}
use Rattle.slate_store.specs.Changes.{after_part}
use Rattle.slate_store.proofs.Parts.{part-none}
use Rattle.slate_errors.specs.declared.endings.Ended.{Ended}
use Rattle.slate_errors.specs.declared.endings.TaskName.{TaskName}
use Rattle.slate_errors.specs.Errors.{closed_error}
use Rattle.slate_errors.specs.declared.errors.SlateError.{SlateError}
use Rattle.slate_errors.specs.declared.errors.SlateError.TheVariants as errors
use Rattle.slate_model.specs.declared.answers.Written.{Written}
use Rattle.slate_model.specs.Close.{Closes, closed, closing_flush, ended, fault_again, without_tasks}
use Rattle.slate_model.specs.Flush.{CanFlush, DurableAfter, FlushAnswer, FlushesOnly, Flushes, IsFlushed, Stores, StoresBatches, flush_changes, flush_result, grows, has_log_for, recorded}
use Rattle.slate_model.specs.Changes.{PartMade}
use Rattle.slate_model.specs.Handle.{CloseResult, Handle, accepted, kept_handle, next_table}
use Rattle.slate_model.specs.Known.{Known}
use Rattle.slate_model.specs.Open.{IsFresh}
use Rattle.slate_model.specs.Read.{ReadsByAny}
use Rattle.slate_model.specs.Recency.{ScansByRecency, span_two}
use Rattle.slate_model.specs.Refresh.{CompactAnswer, Compacts, RefreshAnswer, Refreshes, fenced_result}
use Rattle.slate_model.specs.Stores.{JoinFault, Stands, by_objects}
use Rattle.slate_model.specs.Transaction.{CommitsByAny, Transaction, tracking_if}
use Rattle.slate_model.specs.Write.{WritesByAny, next_batch, written_but}
use Rattle.slate_model.proofs.Keeping.{line_above-end}
use Rattle.slate_model.proofs.Reduced.{some-same}
use Rattle.slate_writer.specs.Opening.{IsLeftBy}
use Rattle.slate_held.specs.Keeping.{IsInStep, IsKept, IsStored}
use Rattle.slate_held.proofs.Flushing.{flush-step}
use Rattle.slate_held.proofs.Lined.{numbered-above}
use Rattle.slate_held.proofs.Sparing.{Steps, compact-steps, moved, next-part, sweep-steps}
use Rattle.slate_held.proofs.Stepping.{kept-closed}

-- ---- an opening
pub opened-kept : (t : Option Objects) (h : Handle) (keeps_log : Bool) (limit : ℕ) (tasks : List TaskName) → IsFresh keeps_log limit tasks h → IsLine h.line → h.line.floor ≡ h.view.manifest.last_l0_seq → IfSome t (IsLeftBy h) → IsKept t h
opened-kept t h keeps_log limit tasks fresh line floor left = record { line = line; durable = (let e = fresh.durable in omega (arith, e)); step = by t left } where
  by : (t : Option Objects) → IfSome t (IsLeftBy h) → IfSome t (λ o. (latest : VersionedManifest) × IsInStep h o latest)
  by None left = tt
  by (Some o) left = (
    h.view,
    record {
      is = left.latest;
      greatest = left.greatest;
      epoch = sym fresh.epoch;
      tabled = λ unclosed. refl;
      floor = floor;
      stored = λ k d less low. inl (left.logged k d less);
    },
  )

-- ---- calls that leave the handle
pub same-kept : (t t' : Option Objects) (h : Handle) → t' ≡ t → IsKept t h → IsKept t' h
same-kept t t' h same = subst (λ x. IsKept x h) (sym same)

-- objects that moved on
pub moved-kept : {P : Objects → Objects → Type 0} (t t' : Option Objects) (h : Handle) → WhereModelled P t t' → ((o o' : Objects) (latest : VersionedManifest) → P o o' → IsInStep h o latest → Steps h o') → IsKept t h → IsKept t' h
moved-kept {P} None t' h calls steps kept = record { line = kept.line; durable = kept.durable; step = rw (calls.none refl) tt }
moved-kept {P} (Some o) t' h calls steps kept =
    let p = calls.some o refl in
    let next = steps o p.0 kept.step.0 p.2 kept.step.1 in
    record { line = kept.line; durable = kept.durable; step = subst (λ x. IfSome x (Steps h)) (sym p.1) next }

sweeps-steps : (moment : ℤ) (result : Result ℕ StoreRefusal) (h : Handle) (o o' : Objects) (latest : VersionedManifest) → (made : ℕ) × Sweeps moment o result made o' → IsInStep h o latest → Steps h o'
sweeps-steps moment result h o o' latest sweeps s = subst (Steps h) (sym (sweeps.1).after) (sweep-steps moment sweeps.0 h o latest s)

pub swept-kept : (moment : ℤ) (result : Result ℕ StoreRefusal) (t t' : Option Objects) (h : Handle) → WhereModelled (λ o o'. (made : ℕ) × Sweeps moment o result made o') t t' → IsKept t h → IsKept t' h
swept-kept moment result t t' h calls = moved-kept t t' h calls (sweeps-steps moment result h)

-- a checkpoint is put, or nothing
checkpoint-steps : (lifetime : Option ℕ) (moment : ℤ) (result : Result Checkpoint StoreRefusal) (h : Handle) (o o' : Objects) (latest : VersionedManifest) → (made : ℕ) × FollowsPlan (to_write None lifetime moment) o result made o' → IsInStep h o latest → Steps h o'
checkpoint-steps lifetime moment result h o o' latest follows s =
    let made = follows.0 in
    let plan = to_write None lifetime moment in
    subst (Steps h) (sym (follows.1).after)
    (subst (λ (found : Option VersionedManifest). Steps h (after_part made (planned_after plan found) o)) (sym s.is) (by made (ltb latest.id 18446744073709551615) (latest.manifest.checkpoints ++ new_checkpoint latest lifetime moment ∷ []) (new_checkpoint latest lifetime moment)))
  where
    by : (made : ℕ) (fits : Bool) → (checkpoints : List Checkpoint) (answer : Checkpoint) →
        let next = with_checkpoints checkpoints latest in
        let plan : Plan Checkpoint = cond fits (Ok (Some next, answer)) (Err refusals.InvalidDBState) in
        Steps h (after_part made (planned plan) o)
    by made true checkpoints answer = next-part h o latest (with_checkpoints checkpoints latest) made s (omega arith) (record { mark = refl; tables = refl; epoch = refl; number = refl })
    by made false checkpoints answer = subst (Steps h) (sym (part-none made o)) (latest, s)

pub checkpointed-kept : (lifetime : Option ℕ) (moment : ℤ) (result : Result Checkpoint StoreRefusal) (t t' : Option Objects) (h : Handle) → WhereModelled (λ o o'. (made : ℕ) × FollowsPlan (to_write None lifetime moment) o result made o') t t' → IsKept t h → IsKept t' h
checkpointed-kept lifetime moment result t t' h calls = moved-kept t t' h calls (checkpoint-steps lifetime moment result h)

-- ---- a flush, and one at a close
-- a flush that made all changes and answers an error closes the handle
flush-shuts : (S : Type 0) (t : FlushType) (h : Handle) (o : Objects) (e : SlateError) (all made : ℕ) (view : VersionedManifest) → FlushAnswer S t h o (Err e) view → PartMade {A = Unit {0}} (Err e) all made → FlushesOnly (Err e) all made → 0 < made → made ≡ all → recorded e ≢ None
flush-shuts S t h o (errors.ObjectStoreError fault) all made view answer part only some whole = λ none. absurd (cc)
flush-shuts S t h o errors.TransactionalObjectVersionExists all made view answer part only some whole = λ none. absurd (cc)
flush-shuts S t h o (errors.WalTruncated id) all made view answer part only some whole = absurd answer.0
flush-shuts S t h o (errors.EmptySegmentPrefix key) all made view answer part only some whole = absurd answer.0
flush-shuts S t h o errors.InvalidDBState all made view answer part only some whole = absurd (omega (arith, only, some))
flush-shuts S t h o errors.NoMemory all made view answer part only some whole = elim only [ inl none ↦ absurd (omega (arith, none, some)) | inr few ↦ absurd (omega (arith, few, whole)) ]
flush-shuts S t h o e all made view answer part only some whole = absurd (omega (arith, part, some))

module _ (objects : Option Objects) (made : ℕ) (t : FlushType) (h : Handle) (before : Known (List Batch)) (r : Result (Unit {0}) SlateError) (result : CloseResult) (tasks : List TaskName) (new : Handle) (after : Known (List Batch))
    (kept : IsKept before.objects h) (unclosed : h.result ≡ None) (has : has_log_for t h ≡ true) (flushed : IsFlushed kept_handle made r result tasks h new) (stored : Stores (by_objects objects) made t h before r new after)
    (shut : (o o' : Objects) (e : SlateError) → StoresBatches (by_objects objects) t h o r new made o' → r ≡ Err e → 0 < made → made ≡ length (flush_changes (λ xs. xs) t h o) → result ≢ None) where
  durable-low : (q : Result (Unit {0}) SlateError) (stored : Bool) (d : ℕ) → DurableAfter stored h q d → d ≤ accepted h
  durable-low (Ok u) stored d is = omega (arith, is)
  durable-low (Err errors.NoMemory) true d is = omega (arith, is)
  durable-low (Err errors.NoMemory) false d is = let low = kept.durable in omega (arith, is, low)
  durable-low (Err e) stored d is = let low = kept.durable in elim is [ inl same ↦ omega (arith, same, low) | inr all ↦ let at = all.1 in omega (arith, at) ]

  pub flushed-kept : IsKept after.objects new
  flushed-kept =
      let same = flushed.same in
      let n = new.view.manifest.last_l0_seq in
      let low = durable-low r (leb (grows h) made) new.durable flushed.durable in
      let ends : accepted new ≡ accepted h = ap accepted same ∙ line_above-end n h.line in
      record {
        line = subst (λ (k : Handle). IsLine k.line) (sym same) (numbered-above h.line kept.line n);
        durable = omega (arith, low, ends);
        step = by before.objects refl kept.step;
      }
    where
      by : (x : Option Objects) → before.objects ≡ x → IfSome x (λ o. (latest : VersionedManifest) × IsInStep h o latest) → IfSome after.objects (λ o. (latest : VersionedManifest) × IsInStep new o latest)
      by None is step = rw ((stored.objects).none is) tt
      by (Some o) is step =
          let p = (stored.objects).some o is in
          subst (λ x. IfSome x (Steps new)) (sym p.1)
          (flush-step h o step.0 kept.line kept.durable step.1 unclosed objects t has made r result tasks new p.0 flushed p.2 (λ e err some all. shut o p.0 e p.2 err some all))

-- nothing was touched
untouched-kept : (made : ℕ) (before after : Known (List Batch)) (h new : Handle) → new ≡ h → (made ≡ 0) × (after ≡ before) → IsKept before.objects h → IsKept after.objects new
untouched-kept made before after h new same untouched kept =
    subst (λ k. IsKept after.objects k) (sym same) (same-kept before.objects after.objects h (ap (λ (k : Known (List Batch)). k.objects) untouched.1) kept)

pub flush-kept : (objects : Option Objects) (made : ℕ) (t : FlushType) (h : Handle) (before : Known (List Batch)) (r : Result (Unit {0}) SlateError) (new : Handle) (after : Known (List Batch)) → Flushes (by_objects objects) made t h before r new after → IsKept before.objects h → IsKept after.objects new
flush-kept objects made t h before r new after flushes kept = by h.result refl (has_log_for t h) refl where
  by : (result : CloseResult) → h.result ≡ result → (has : Bool) → has_log_for t h ≡ has → IsKept after.objects new
  by (Some outcome) is has at =
      let c = subst (λ x. IfSome x (λ q. (r ≡ Err (closed_error q)) × (new ≡ h) × ((made ≡ 0) × (after ≡ before)))) is flushes.closed in
      untouched-kept made before after h new c.1 c.2 kept
  by None is false at = let d = flushes.disabled is at in untouched-kept made before after h new d.1 d.2 kept
  by None is true at =
      let can : CanFlush t h = (is, at) in
      flushed-kept objects made t h before r (flush_result r) h.tasks new after kept is at (flushes.flushed can) (flushes.stored can)
      (λ o o' e stored err some whole. subst (λ q. flush_result q ≢ None) (sym err)
      (flush-shuts (Stands (flush_changes (λ xs. xs) t h o) o) t h o e (length (flush_changes (λ xs. xs) t h o)) made new.view
      (subst (λ q. FlushAnswer (Stands (flush_changes (λ xs. xs) t h o) o) t h o q new.view) err stored.answer) (subst (λ q. PartMade q (length (flush_changes (λ xs. xs) t h o)) made) err stored.part)
      (subst (λ q. FlushesOnly q (length (flush_changes (λ xs. xs) t h o)) made) err stored.only) some whole))

pub close-kept : (objects : Option Objects) (made : ℕ) (flush_type : Option FlushType) (h : Handle) (before : Known (List Batch)) (answer : Ended) (new : Handle) (after : Known (List Batch)) → Closes (by_objects objects) made flush_type h before answer new after → IsKept before.objects h → IsKept after.objects new
close-kept objects made flush_type h before answer new after closes kept = by h.result refl flush_type refl where
  ends : (k : Handle) → k ≡ closed h → IsKept before.objects k
  ends k is = subst (λ x. IsKept before.objects x) (sym is) (kept-closed before.objects h (closed h) refl refl refl refl (λ none. absurd (cc)) kept)

  after-kept : (k : Handle) → new ≡ k → (made ≡ 0) × (after ≡ before) → IsKept before.objects k → IsKept after.objects new
  after-kept k is untouched kept = untouched-kept made before after k new is untouched kept

  by : (result : CloseResult) → h.result ≡ result → (flush : Option FlushType) → flush_type ≡ flush → IsKept after.objects new
  by (Some outcome) is flush at =
      let a = subst (λ x. IfSome x (λ r. (answer ≡ ended h.tasks (fault_again r)) × (new ≡ without_tasks h) × ((made ≡ 0) × (after ≡ before)))) is closes.again in
      after-kept (without_tasks h) a.1 a.2 (kept-closed before.objects h (without_tasks h) refl refl refl refl (λ none. none) kept)
  by None is None at = let u = closes.unflushed is at in after-kept (closed h) u.1 u.2 (ends (closed h) refl)
  by None is (Some t) at = flushing (has_log_for t h) refl where
    flushing : (has : Bool) → has_log_for t h ≡ has → IsKept after.objects new
    flushing false none = let d = closes.disabled t at is none in after-kept (closed h) d.1 d.2 (ends (closed h) refl)
    flushing true some =
        let can : CanFlush t h = (is, some) in
        flushed-kept objects made t h before (closing_flush answer.fault) (Some (Ok tt)) [] new after kept is some (closes.flushed t at can).1 (closes.stored t at can) (λ o o' e stored err some whole none. absurd (cc))

-- ---- a refresh and a compaction
pub refresh-kept : (objects : Option Objects) (h : Handle) (before : Known (List Batch)) (r : Result (Unit {0}) SlateError) (new : Handle) (after : Known (List Batch)) → Refreshes (by_objects objects) h before r new after → IsKept before.objects h → IsKept after.objects new
refresh-kept objects h before r new after refreshes kept = by h.result refl where
  by : (result : CloseResult) → h.result ≡ result → IsKept after.objects new
  by (Some outcome) is =
      let c = subst (λ x. IfSome x (λ q. (r ≡ Err (closed_error q)) × (new ≡ h) × (after ≡ before))) is refreshes.closed in
      untouched-kept 0 before after h new c.1 (refl, c.2) kept
  by None is =
      let f = refreshes.refreshed is in
      same-kept before.objects after.objects new f.kept (record {
        line = subst (λ (k : Handle). IsLine k.line) (sym f.same) (numbered-above h.line kept.line new.view.manifest.last_l0_seq);
        durable = (let ends = ap accepted f.same ∙ line_above-end new.view.manifest.last_l0_seq h.line in let same = ap (λ (k : Handle). k.durable) f.same in let low = kept.durable in omega (arith, ends, same, low));
        step = stepped before.objects f.answer kept.step;
      })
    where
      -- the view has the number that it had
      number : (o : Objects) (latest : VersionedManifest) (q : Result (Unit {0}) SlateError) → IsInStep h o latest → RefreshAnswer h o q new.view → new.view.manifest.last_l0_seq ≡ h.view.manifest.last_l0_seq
      number o latest (Ok u) s answer = ap (λ (v : VersionedManifest). v.manifest.last_l0_seq) (some-same new.view latest (sym answer.0 ∙ s.is)) ∙ s.tabled is
      number o latest (Err e) s answer = ap (λ (v : VersionedManifest). v.manifest.last_l0_seq) answer.1

      stepped : (x : Option Objects) → IfSome x (λ o. RefreshAnswer h o r new.view) → IfSome x (Steps h) → IfSome x (Steps new)
      stepped None answer step = tt
      stepped (Some o) answer step =
          let at = number o step.0 r step.1 answer in
          subst (λ k. Steps k o) (sym (refreshes.refreshed is).same)
          (step.0, moved h o step.0 step.1 is kept.line h.counter new.view (fenced_result r) o step.0 at (step.1).is (step.1).greatest refl refl refl refl)

pub compact-kept : (objects : Option Objects) (made : ℕ) (h : Handle) (before : Known (List Batch)) (r : Result (Unit {0}) SlateError) (new : Handle) (after : Known (List Batch)) → Compacts (by_objects objects) made h before r new after → IsKept before.objects h → IsKept after.objects new
compact-kept objects made h before r new after compacts kept = by h.result refl where
  by : (result : CloseResult) → h.result ≡ result → IsKept after.objects new
  by (Some outcome) is =
      let c = subst (λ x. IfSome x (λ q. (r ≡ Err (closed_error q)) × (new ≡ h) × ((made ≡ 0) × (after ≡ before)))) is compacts.closed in
      untouched-kept made before after h new c.1 c.2 kept
  by None is =
      let c = compacts.compacted is in
      record {
        line = subst (λ (k : Handle). IsLine k.line) (sym c.same) (numbered-above h.line kept.line new.view.manifest.last_l0_seq);
        durable = (let ends = ap accepted c.same ∙ line_above-end new.view.manifest.last_l0_seq h.line in let same = ap (λ (k : Handle). k.durable) c.same in let low = kept.durable in omega (arith, ends, same, low));
        step = stepped before.objects refl kept.step;
      }
    where
      joined : (few : Bool) (latest : VersionedManifest) → (cond few latest (with_table (next_table h) latest)).manifest.last_l0_seq ≡ latest.manifest.last_l0_seq
      joined true latest = refl
      joined false latest = refl

      number : (o : Objects) (latest : VersionedManifest) (q : Result (Unit {0}) SlateError) → IsInStep h o latest → CompactAnswer (JoinFault (next_table h) o) h o q new.view → new.view.manifest.last_l0_seq ≡ h.view.manifest.last_l0_seq
      number o latest (Ok u) s answer =
          ap (λ (v : VersionedManifest). v.manifest.last_l0_seq) answer.2
          ∙ (joined (ltb (length (answer.0).manifest.tables) 2) answer.0
          ∙ (ap (λ (v : VersionedManifest). v.manifest.last_l0_seq) (some-same answer.0 latest (sym (answer.1).0 ∙ s.is)) ∙ s.tabled is))
      number o latest (Err e) s answer = ap (λ (v : VersionedManifest). v.manifest.last_l0_seq) answer.1

      stepped : (x : Option Objects) → before.objects ≡ x → IfSome x (Steps h) → IfSome after.objects (Steps new)
      stepped None at step = rw ((compacts.compacted is).objects.none at) tt
      stepped (Some o) at step =
          let c = compacts.compacted is in
          let p = (c.objects).some o at in
          let n = number o step.0 r step.1 (p.2).answer in
          subst (λ x. IfSome x (Steps new)) (sym p.1)
          (subst (λ k. Steps k p.0) (sym c.same)
          (subst (Steps (kept_handle (record h { counter = new.counter; view = new.view; result = fenced_result r }))) (sym (p.2).after)
          (compact-steps h o step.0 step.1 is kept.line made new.counter new.view (fenced_result r) n)))

-- ---- a write
pub write-kept : (unmarked : List (List ℕ)) (t : Option Objects) (h new : Handle) (ops : List KeyOp) (moment : ℤ) (second : Option ℤ) (r : Result Written SlateError) → WritesByAny unmarked h ops moment second r new → IsKept t h → IsKept t new
write-kept unmarked t h new ops moment second (Err e) writes kept = subst (IsKept t) (sym writes.refused.1) kept
write-kept unmarked t h new ops moment second (Ok w) writes kept =
    subst (IsKept t) (sym writes.accepted.3) (record {
      line = numbered-push h.line.floor h.line.batches batch kept.line refl;
      durable = (let low = kept.durable in let more = length-append h.line.batches (batch ∷ []) in omega (arith, low, more));
      step = by t kept.step;
    })
  where
    batch : Batch
    batch = next_batch h ops w.create_ts

    by : (x : Option Objects) → IfSome x (Steps h) → IfSome x (Steps (record (written_but unmarked None h ops w.create_ts) { segments = new.segments }))
    by None step = tt
    by (Some o) step =
        let s = step.1 in (
          step.0,
          record {
            is = s.is;
            greatest = s.greatest;
            epoch = s.epoch;
            tabled = s.tabled;
            floor = s.floor;
            stored = All-push (λ b. b.number ≤ h.durable → IsStored h.result (step.0).manifest o b) h.line.batches (next_batch h ops w.create_ts) s.stored
                (λ low. absurd (let high = kept.durable in omega (arith, low, high)));
          },
        )

pub commit-kept : (transaction : Transaction) (t : Option Objects) (h new : Handle) (moment : ℤ) (second : Option ℤ) (r : Result (Option Written) SlateError) → CommitsByAny transaction h moment second r new → IsKept t h → IsKept t new
commit-kept transaction t h new moment second (Ok None) commits kept = subst (IsKept t) (sym commits.2) kept
commit-kept transaction t h new moment second (Ok (Some w)) commits kept = write-kept transaction.unmarked t h new transaction.own.ops moment second (Ok w) commits.3 kept
commit-kept transaction t h new moment second (Err errors.TransactionConflict) commits kept = subst (IsKept t) (sym commits.3) kept
commit-kept transaction t h new moment second (Err e) commits kept = subst (IsKept t) (sym commits.2) kept

-- ---- a transaction that begins
pub tracking-kept : (t : Option Objects) (result : CloseResult) (h : Handle) → IsKept t h → IsKept t (tracking_if result h)
tracking-kept t None h kept = kept-closed t h (tracking_if None h) refl refl refl refl (λ none. none) kept
tracking-kept t (Some outcome) h kept = kept

-- ---- a read leaves the objects
pub reads-same : {A : Type 0} (result : CloseResult) (tables : List TableId) (before : Known (List Batch)) (answer : Result A SlateError) (after : Known (List Batch)) → ReadsByAny result tables before answer after → after.objects ≡ before.objects
reads-same None tables before answer after reads = (reads.read refl).kept
reads-same (Some outcome) tables before answer after reads = ap (λ (k : Known (List Batch)). k.objects) reads.closed.1

pub recency-same : (h : Handle) (options : ScanOptions) (prefix : List ℕ) (before : Known (List Batch)) (answer : Result (List RowEntry) SlateError) (after : Known (List Batch)) → ScansByRecency h options prefix before answer after → after.objects ≡ before.objects
recency-same h options prefix before answer after scans = by h.result refl (span_two prefix h.view.manifest.segments) refl where
  by : (result : CloseResult) → h.result ≡ result → (two : Bool) → span_two prefix h.view.manifest.segments ≡ two → after.objects ≡ before.objects
  by (Some outcome) is two at = ap (λ (k : Known (List Batch)). k.objects) (subst (λ x. IfSome x (λ r. (answer ≡ Err (closed_error r)) × (after ≡ before))) is scans.closed).1
  by None is true at = ap (λ (k : Known (List Batch)). k.objects) (scans.spanning is at).1
  by None is false at = (scans.read is at).kept
