-- A valid command that meets no fault is refused nothing.
use Rattle.std.proofs.Common.{◌≡◌, ◌≢◌, ◌⊎◌, inl, inr, ℕ, ℤ, ◌+◌, ◌<◌, ◌≤◌, Bool, true, false, if◌then◌else◌, List, [], ◌∷◌, length, Option, Some, None, Result, Ok, Err, IfErr, refl, sym, subst, ap, ◌∙◌, arith}
use Rattle.std.specs.List.{slice_get}
use Rattle.std.proofs.lemmas.Bool.{le-leb, lt-ltb}
use Rattle.slate_types.specs.Counts.{HasRisen}
use Rattle.slate_types.specs.declared.batches.Batch.{Batch}
use Rattle.slate_types.specs.declared.batches.KeyOp.{KeyOp}
use Rattle.slate_types.specs.declared.batches.KeyValue.{KeyValue}
use Rattle.slate_types.specs.declared.options.FlushType.{FlushType}
use Rattle.slate_types.specs.Line.{Line}
use Rattle.slate_types.specs.Operator.{Merge}
use Rattle.slate_types.specs.declared.read_faults.ReadFault.{ReadFault}
use Rattle.slate_types.specs.declared.read_faults.ReadFault.TheVariants as reads
use Rattle.slate_types.specs.declared.store_errors.StoreFault.{StoreFault}
use Rattle.slate_types.specs.declared.store_errors.StoreFault.TheVariants.{NotFound, Unavailable}
use Rattle.slate_store.specs.declared.objects.VersionedManifest.{VersionedManifest}
use Rattle.slate_rows.specs.Iteration.{Iteration}
use Rattle.slate_store.specs.declared.objects.Checkpoint.{Checkpoint}
use Rattle.slate_store.specs.declared.objects.TableId.{TableId}
use Rattle.slate_store.specs.Sweeps.{has_expired}
use Rattle.slate_model.specs.Catalogue.{Catalogue}
use Rattle.slate_model.specs.Maintain.{CheckpointAnswer, SweepsAnswer}
use Rattle.slate_store.specs.Objects.{latest_manifest, last_log}
use Rattle.slate_errors.specs.declared.endings.Ended.{Ended}
use Rattle.slate_errors.specs.declared.endings.TaskName.{TaskName}
use Rattle.slate_model.specs.declared.leases.Lease.{Lease}
use Rattle.slate_model.specs.Lease.{lease_refusal, to_keep, to_take}
use Rattle.slate_model.specs.Managed.{KeepRefusal, KeepsLease, OpensManaged, PlanCause, PollsLeased, PollsTwice, RenewalCause, TakeRefusal, follower_under}
use Rattle.slate_model.proofs.Leased.{written-is}
use Rattle.slate_model.proofs.Rounds.{took}
use Rattle.slate_store.specs.declared.refusals.StoreRefusal.TheVariants as refusals
use Rattle.slate_errors.specs.declared.errors.SlateError.{SlateError}
use Rattle.slate_errors.specs.declared.errors.SlateError.TheVariants as errors
use Rattle.slate_model.specs.Close.{Closes, closing_flush, ended, fault_again, recorded_fault, without_tasks}
use Rattle.slate_model.specs.declared.answers.PollAnswer.{PollAnswer}
use Rattle.slate_model.specs.declared.answers.Written.{Written}
use Rattle.slate_model.specs.Flush.{FlushCause, Flushes, ManifestCause, Stores, has_ids}
use Rattle.slate_model.specs.Follow.{unseen, AreFollowed, FollowCause, IsOwed, LacksSegment, Polls, Rebuilds, ReplayRefuses, SeesOwed, SeesPolled, built}
use Rattle.slate_model.specs.Followed.{IsView, RefusesLatest, follow_refusal, kept_by, view_under}
use Rattle.slate_model.specs.Follower.{Follower, is_managed, is_pinned}
use Rattle.slate_store.specs.Checkpoints.{Plan, found, lease_end, to_delete, to_refresh}
use Rattle.std.specs.Option.{unwrap_or}
use Rattle.slate_live.proofs.Filling.{end-full}
use Rattle.slate_live.proofs.Following.{polled-answer}
use Rattle.slate_store.specs.Refusals.{PlanIs}
use Rattle.slate_store.specs.declared.reader_modes.DbReaderMode.{DbReaderMode}
use Rattle.slate_store.specs.declared.reader_modes.DbReaderMode.TheVariants as modes
use Rattle.slate_model.specs.Handle.{CloseResult, Handle, accepted}
use Rattle.slate_model.specs.Known.{CountsFaults, FaultsRise, Untouched}
use Rattle.slate_model.specs.Catalogue.{Span}
use Rattle.slate_model.specs.Knowledge.{Knowledge}
use Rattle.slate_model.specs.Known.{Known}
use Rattle.slate_model.specs.declared.snapshots.HandleSnapshot.{HandleSnapshot}
use Rattle.slate_model.specs.Object.{Object, Handle as AHandle, Snapshot as ASnapshot, Follower as AFollower}
use Rattle.slate_model.specs.Open.{AreSegmented, OpenAnswer, opened_manifest, replayed}
use Rattle.slate_model.specs.Segments.{Extractor, extractor_name, ops_of, unsegmented_refusal}
use Rattle.slate_model.specs.Read.{AnswersRead, Gives, ReadsTables}
use Rattle.slate_model.specs.Refresh.{CompactCause, Compacts, Refreshes}
use Rattle.slate_model.specs.Stores.{by_catalogue}
use Rattle.slate_model.specs.Tables.{AreStored}
use Rattle.slate_model.specs.Snapshot.{unless_closed}
use Rattle.slate_model.specs.Unflushed.{limit_refusal, unflushed}
use Rattle.slate_live.specs.Handles.{TakesSnapshot}
use Rattle.slate_model.specs.Write.{Writes, accepted_moment, batch_refusal, clock_refusal, last_number, number_refusal, write_refusal}
use Rattle.slate_model.proofs.Reduced.{modelled}
use Rattle.slate_status.specs.declared.statuses.DbStatus.{DbStatus}
use Rattle.slate_script.specs.declared.commands.Command.{Command}
use Rattle.slate_script.specs.declared.replies.Reply.{Reply}
use Rattle.slate_script.specs.declared.replies.Reply.TheVariants as replies
use Rattle.slate_live.specs.declared.states.Write.{Write}
use Rattle.slate_live.specs.Calls.{Whole, Call, Write as WriteCall, Merge as MergeCall, Flush, Refresh, Compact, Get, Scan, Seek, Close, Poll, Status, FindTime, FindNumber, Nothing, call_of, at_snapshot, target_of}
use Rattle.slate_live.specs.declared.targets.Target.{Target}
use Rattle.slate_live.specs.declared.targets.Target.TheVariants.{NewHandle, NewSnapshot, NewFollower, NewCheckpoint, WholeStore, OfWrite, OfObject}
use Rattle.slate_live.specs.Commands.{ActsAt, ActsOn, DoesBy, OpensSnapshot, ReadsSnapshot, asked_reply, interval_of, lag_of, lifetime_of, write_reply}
use Rattle.slate_live.specs.Followers.{ClosesAs, FollowerActs, PollsAs}
use Rattle.slate_live.specs.Handles.{HandleActs, MergesTo, WritesTo, flush_type_by, pending_reply}
use Rattle.slate_live.specs.Replies.{AnswersStatus, IsRead, closed_reply, ended_reply, follower_closed_reply, follower_ended_reply, followed_reply, found_reply, polled_reply, refusal, reply_to}
use Rattle.slate_live.specs.Represents.{AreInSegments, IsLeased, IsValid}
use Rattle.slate_live.specs.Scans.{IsTaken, AnswersTaken, scanned, sought}
use Rattle.slate_live.specs.Settings.{Settings}
use Rattle.slate_live.specs.Valid.{AtHandle, AtObject, CanAsk, CanAskFollower, CanAskSnapshot, CanCheckpoint, CanClose, CanCompact, CanEnd, CanFollow, CanOpen, CanPoll, CanPut, CanRead, CanRefresh, CanRenew, CanReplay, CanStore, CanSweep, CanTake, CanWrite, IsDurable, IsOkOrNoMemory, IsValidAt, IsValidKind}
use Rattle.slate_live.specs.World.{NextWhole, World, state_of}
use Rattle.slate_live.proofs.Cases.{by-option, some-of}
use Rattle.slate_live.proofs.Naming.{follower-did, handle-acted}
use Rattle.slate_live.proofs.Rising.{managed-free, managed-mode}
use Rattle.slate_live.proofs.Segmented.{none-lacks}
use Rattle.slate_live.proofs.Writing.{accepts}

none-some : {A : Type 0} (o : Option A) (x : A) → o ≡ None → o ≡ Some x → ⊥
none-some o x none some = absurd (cc)

some-same : {A : Type 0} (a b : A) → Some a ≡ Some b → a ≡ b
some-same a b same = cc

beyond : (a b : ℕ) → a < b → b ≤ a → ⊥
beyond a b under over = omega (arith, under, over)

-- an answer is Ok, or want of memory
abbrev pub IsFree : {A : Type 0} → Result A SlateError → Type 0
IsFree (Ok x) = Unit {0}
IsFree (Err error) = error ≡ errors.NoMemory

free-reply : {A : Type 0} (done : A → Reply) (r : Result A SlateError) → ((x : A) → r ≡ Ok x → IsOkOrNoMemory (done x)) → IsFree r → IsOkOrNoMemory (reply_to done r)
free-reply done (Ok x) f free = f x refl
free-reply done (Err e) f free = subst (λ x. IsOkOrNoMemory (refusal x)) (sym free) tt

same-manifest : (found : Option VersionedManifest) (a b : VersionedManifest) → found ≡ Some a → found ≡ Some b → a ≡ b
same-manifest found a b is_a is_b = some-same a b (sym is_a ∙ is_b)

not-both : (b : Bool) → b ≡ true → b ≡ false → ⊥
not-both b holds fails = absurd (cc)

-- the latest manifest is found, and its epoch current, where no handle was opened since and no fault was met
still-current : (w : World) (handle : Handle) → ManifestCause handle.epoch w.catalogue errors.Fenced → CanRefresh w handle → ⊥
still-current w handle cause can =
    let same : cause.0 ≡ can.0 = same-manifest (latest_manifest w.catalogue) cause.0 can.0 cause.1 (can.1).0 in
    beyond handle.epoch can.0.manifest.writer_epoch (subst (λ m. handle.epoch < m.manifest.writer_epoch) same cause.2) (can.1).1

manifest-cause : (w : World) (handle : Handle) (faults : ℕ) (error : SlateError) → ManifestCause handle.epoch w.catalogue error → (◌≡◌ {A = Result (Unit {0}) SlateError} (Err error) (Err (errors.ObjectStoreError Unavailable)) → HasRisen w.faults faults) → CanRefresh w handle → (HasRisen w.faults faults → ⊥) → error ≡ errors.NoMemory
manifest-cause w handle faults errors.Fenced cause fault can calm = absurd (still-current w handle cause can)
manifest-cause w handle faults errors.LatestTransactionalObjectVersionMissing cause fault can calm = absurd (none-some (latest_manifest w.catalogue) can.0 cause (can.1).0)
manifest-cause w handle faults (errors.ObjectStoreError Unavailable) cause fault can calm = absurd (calm (fault refl))
manifest-cause w handle faults errors.NoMemory cause fault can calm = refl
manifest-cause w handle faults error cause fault can calm = absurd cause

-- an opening that nothing stands against, and that met no fault
open-free : (extractor : Option Extractor) (w : World) (faults : ℕ) (r : Result Handle SlateError) → OpenAnswer extractor (λ _. ⊥) w.catalogue r → AreSegmented extractor (replayed (opened_manifest (extractor_name extractor) w.catalogue) w.stored) r → CountsFaults w.faults faults r → CanOpen extractor w → (HasRisen w.faults faults → ⊥) → IsFree r
open-free extractor w faults (Ok h) answer segmented fault can calm = tt
open-free extractor w faults (Err errors.InvalidDBState) answer segmented fault can calm = absurd (none-some _ errors.InvalidDBState can.0 answer)
open-free extractor w faults (Err (errors.SegmentExtractorMismatch persisted configured)) answer segmented fault can calm = absurd (none-some _ (errors.SegmentExtractorMismatch persisted configured) can.0 answer)
open-free extractor w faults (Err (errors.SegmentPrefixNotRecognized prefix name)) answer segmented fault can calm = absurd (none-some _ (errors.SegmentPrefixNotRecognized prefix name) can.0 answer)
open-free extractor w faults (Err (errors.EmptySegmentPrefix key)) answer segmented fault can calm = absurd (none-some _ (errors.EmptySegmentPrefix key) can.1 segmented)
open-free extractor w faults (Err (errors.ObjectStoreError Unavailable)) answer segmented fault can calm = absurd (calm (fault.unavailable refl))
open-free extractor w faults (Err errors.NoMemory) answer segmented fault can calm = refl
open-free extractor w faults (Err error) answer segmented fault can calm = absurd answer

full-ids : (w : World) (t : FlushType) (handle : Handle) → FlushCause ⊥ t handle w.catalogue errors.InvalidDBState → CanStore w t handle → ⊥
full-ids w t handle cause can =
    let same : cause.0 ≡ can.1 = same-manifest (latest_manifest w.catalogue) cause.0 can.1 (cause.1).0 (can.2).0 in
    not-both (has_ids t handle can.1 (last_log can.1.manifest.replay_after_wal_id w.catalogue)) can.3
    (subst (λ m. has_ids t handle m (last_log m.manifest.replay_after_wal_id w.catalogue) ≡ false) same cause.2)

flush-cause : (w : World) (t : FlushType) (handle : Handle) (faults : ℕ) (error : SlateError) → FlushCause ⊥ t handle w.catalogue error → CountsFaults {A = Unit {0}} w.faults faults (Err error) → CanStore w t handle → (HasRisen w.faults faults → ⊥) → error ≡ errors.NoMemory
flush-cause w t handle faults errors.InvalidDBState cause fault can calm = absurd (full-ids w t handle cause can)
flush-cause w t handle faults errors.TransactionalObjectVersionExists cause fault can calm = absurd cause
flush-cause w t handle faults error cause fault can calm = manifest-cause w handle faults error cause fault.unavailable (can.1, can.2) calm

stores-free : (w w' : World) (made : ℕ) (t : FlushType) (h h' : Handle) (r : Result (Unit {0}) SlateError) → Stores (by_catalogue w.stored w.catalogue) made t h (state_of w).store r h' (state_of w').store → CanStore w t h → (HasRisen w.faults w'.faults → ⊥) → IsFree r
stores-free w w' made t h h' (Ok x) s can calm = tt
stores-free w w' made t h h' (Err e) s can calm =
    let b = modelled w.catalogue w'.catalogue s.objects in
    flush-cause w t h w'.faults e (b.answer).0 s.faults can calm

flush-completes : (w w' : World) (made : ℕ) (t : FlushType) (h h' : Handle) (r : Result (Unit {0}) SlateError) (reply : Reply) → h.result ≡ None → CanStore w t h → Flushes (by_catalogue w.stored w.catalogue) made t h (state_of w).store r h' (state_of w').store → reply ≡ reply_to (λ _. replies.Flushed) r → (HasRisen w.faults w'.faults → ⊥) → IsOkOrNoMemory reply
flush-completes w w' made t h h' r reply live can f is calm =
    subst IsOkOrNoMemory (sym is) (free-reply (λ _. replies.Flushed) r (λ x at. tt) (stores-free w w' made t h h' r (f.stored (live, can.0)) can calm))

-- a refresh of an open handle
refresh-free : (w w' : World) (h h' : Handle) (r : Result (Unit {0}) SlateError) → h.result ≡ None → CanRefresh w h → Refreshes (by_catalogue w.stored w.catalogue) h (state_of w).store r h' (state_of w').store → (HasRisen w.faults w'.faults → ⊥) → IsFree r
refresh-free w w' h h' (Ok x) live can f calm = tt
refresh-free w w' h h' (Err e) live can f calm =
    let reads = f.refreshed live in
    manifest-cause w h w'.faults e (reads.answer).0 (reads.faults).unavailable can calm

-- a compaction by an open handle
full-compact : (w : World) (handle : Handle) (latest : VersionedManifest) → latest_manifest w.catalogue ≡ Some latest → 2 ≤ length latest.manifest.tables → (last_number ≤ latest.id) ⊎ (last_number ≤ handle.counter) → CanCompact w handle → ⊥
full-compact w handle latest is some full can =
    let same : latest ≡ can.0 = same-manifest (latest_manifest w.catalogue) latest can.0 is (can.1).0 in
    let left : (latest.id < last_number) × (handle.counter < last_number) =
    subst (λ (m : VersionedManifest). 2 ≤ length m.manifest.tables → (m.id < last_number) × (handle.counter < last_number)) (sym same) can.2 some in
    elim full [
      | inl id ↦ beyond latest.id last_number left.0 id
      | inr counter ↦ beyond handle.counter last_number left.1 counter
    ]

compact-cause : (w : World) (handle : Handle) (faults : ℕ) (error : SlateError) → CompactCause (λ _. ⊥) handle w.catalogue error → (◌≡◌ {A = Result (Unit {0}) SlateError} (Err error) (Err (errors.ObjectStoreError Unavailable)) → HasRisen w.faults faults) → CanCompact w handle → (HasRisen w.faults faults → ⊥) → error ≡ errors.NoMemory
compact-cause w handle faults errors.InvalidDBState (inl cause) fault can calm = absurd (full-compact w handle cause.0 (cause.1).0 cause.2 cause.3 can)
compact-cause w handle faults errors.InvalidDBState (inr never) fault can calm = absurd never
compact-cause w handle faults errors.TransactionalObjectVersionExists cause fault can calm = absurd cause
compact-cause w handle faults (errors.ObjectStoreError NotFound) cause fault can calm = absurd cause
compact-cause w handle faults error cause fault can calm = manifest-cause w handle faults error cause fault (can.0, can.1) calm

compact-free : (w w' : World) (made : ℕ) (h h' : Handle) (r : Result (Unit {0}) SlateError) → h.result ≡ None → CanCompact w h → Compacts (by_catalogue w.stored w.catalogue) made h (state_of w).store r h' (state_of w').store → (HasRisen w.faults w'.faults → ⊥) → IsFree r
compact-free w w' made h h' (Ok x) live can c calm = tt
compact-free w w' made h h' (Err e) live can c calm =
    let joins = c.compacted live in
    let b = modelled w.catalogue w'.catalogue joins.objects in
    compact-cause w h w'.faults e (b.answer).0 (joins.faults).unavailable can calm

-- the reply to a close by the error of its flush
close-reply : (e : Option SlateError) (tasks : List TaskName) → IsFree (closing_flush e) → IsOkOrNoMemory (closed_reply e tasks)
close-reply None tasks free = tt
close-reply (Some e) tasks free = subst (λ x. IsOkOrNoMemory (closed_reply (Some x) tasks)) (sym free) tt

close-open : (w w' : World) (made : ℕ) (h h' : Handle) (flush_type : Option FlushType) (e : Ended) (reply : Reply) → h.result ≡ None → CanClose None flush_type w h → Closes (by_catalogue w.stored w.catalogue) made flush_type h (state_of w).store e h' (state_of w').store → reply ≡ ended_reply e → (HasRisen w.faults w'.faults → ⊥) → IsOkOrNoMemory reply
close-open w w' made h h' None e reply live can c is calm =
    let u = c.unflushed live refl in
    subst IsOkOrNoMemory (sym (is ∙ ap ended_reply u.0)) tt
close-open w w' made h h' (Some t) e reply live can c is calm =
    let f = c.flushed t refl (live, can.0) in
    subst IsOkOrNoMemory (sym (is ∙ ap ended_reply f.0)) (close-reply e.fault h.tasks (stores-free w w' made t h h' (closing_flush e.fault) (c.stored t refl (live, can.0)) can calm))

close-completes : (w w' : World) (made : ℕ) (h h' : Handle) (result : CloseResult) (flush_type : Option FlushType) (e : Ended) (reply : Reply) → h.result ≡ result → CanClose result flush_type w h → Closes (by_catalogue w.stored w.catalogue) made flush_type h (state_of w).store e h' (state_of w').store → reply ≡ ended_reply e → (HasRisen w.faults w'.faults → ⊥) → IsOkOrNoMemory reply
close-completes w w' made h h' None flush_type e reply at can c is calm = close-open w w' made h h' flush_type e reply at can c is calm
close-completes w w' made h h' (Some (Ok x)) flush_type e reply at can c is calm = absurd can
close-completes w w' made h h' (Some (Err fault)) flush_type e reply at can c is calm =
    let a = some-of (λ q. (e ≡ ended h.tasks (fault_again q)) × (h' ≡ without_tasks h) × _) h.result (Err fault) at c.again in
    subst IsOkOrNoMemory (sym (is ∙ ap ended_reply a.0)) tt

-- a write that nothing stands against isn't refused
no-refusal : (extractor : Option Extractor) (handle : Handle) (ops : List KeyOp) (moment : ℤ) (second : Option ℤ) → CanWrite extractor ops moment second handle → write_refusal extractor handle ops moment second ≡ None
no-refusal extractor handle ops moment second can =
    let batch : batch_refusal ops ≡ None = accepts ops can.writable in
    let room : limit_refusal (unflushed handle) handle.limit ≡ None = ap (λ below. if below then None else Some (errors.Backpressure (unflushed handle) handle.limit)) (lt-ltb (unflushed handle) handle.limit can.room) in
    let number : number_refusal (accepted handle) ≡ None = ap (λ below. if below then None else Some errors.InvalidDBState) (lt-ltb (accepted handle) last_number can.number) in
    let clock : clock_refusal handle.tick moment second (accepted_moment handle.tick moment second) ≡ None = ap (clock_refusal handle.tick moment second) (can.moments).1 in
    rw (can.unclosed, batch, room, can.segmented, number, clock) refl

memory-alone : (e : SlateError) (refused : Option SlateError) → refused ≡ None → (e ≡ errors.NoMemory) ⊎ (refused ≡ Some e) → e ≡ errors.NoMemory
memory-alone e refused none (inl memory) = memory
memory-alone e refused none (inr because) = absurd (none-some refused e none because)

write-free : (extractor : Option Extractor) (h h' : Handle) (ops : List KeyOp) (moment : ℤ) (second : Option ℤ) (r : Result Written SlateError) → CanWrite extractor ops moment second h → Writes extractor h ops moment second r h' → IsFree r
write-free extractor h h' ops moment second (Ok w) can s = tt
write-free extractor h h' ops moment second (Err e) can s = memory-alone e _ (no-refusal extractor h ops moment second can) s.refused.0

write-completes : (extractor : Option Extractor) (n : ℕ) (ops : List KeyOp) (moment : ℤ) (second : Option ℤ) (h : Handle) (writes : List Write) (reply : Reply) (h' : Handle) (writes' : List Write) → CanWrite extractor ops moment second h → WritesTo extractor n ops moment second h writes reply h' writes' → IsOkOrNoMemory reply
write-completes extractor n ops moment second h writes reply h' writes' can s =
    subst IsOkOrNoMemory (sym s.replied) (free-reply _ s.result (λ x at. tt) (write-free extractor h h' ops moment second s.result can s.does))

merge-completes : (merge : Option Merge) (extractor : Option Extractor) (n : ℕ) (op : KeyOp) (moment : ℤ) (second : Option ℤ) (h : Handle) (writes : List Write) (reply : Reply) (h' : Handle) (writes' : List Write) → merge ≢ None → CanWrite extractor (op ∷ []) moment second h → MergesTo merge extractor n op moment second h writes reply h' writes' → IsOkOrNoMemory reply
merge-completes None extractor n op moment second h writes reply h' writes' some can s = absurd (some refl)
merge-completes (Some merge) extractor n op moment second h writes reply h' writes' some can s = write-completes extractor n (op ∷ []) moment second h writes reply h' writes' can s

ok-err : {A : Type 0} (answer : Result A ReadFault) (found : A) (fault : ReadFault) → answer ≡ Ok found → answer ≡ Err fault → ⊥
ok-err answer found fault ok err = absurd (cc)

-- a read of tables that are stored meets no fault
unfaulted : {A : Type 0} {has_rows : List Batch → Type 0} {is_plain : List Batch → Result A ReadFault → Type 0} (w w' : World) (tables : List TableId) (r : Result A SlateError) → AreStored w.catalogue tables → ReadsTables tables has_rows is_plain (state_of w).store r (state_of w').store → (HasRisen w.faults w'.faults → ⊥) → (fault : StoreFault) → r ≡ Err (errors.ObjectStoreError fault) → ⊥
unfaulted w w' tables r stored reads calm NotFound is = reads.missing is stored
unfaulted w w' tables r stored reads calm Unavailable is = calm ((reads.faults).unavailable is)

-- a read that answers is refused nothing
answers-free : {A : Type 0} {has_rows : List Batch → Type 0} (is_plain : List Batch → Result A ReadFault → Type 0) (rows : List Batch) (r : Result A SlateError) → ((others : List Batch) → has_rows others → others ≡ rows) → ((fault : ReadFault) → is_plain rows (Err fault) → ⊥) → ((fault : StoreFault) → r ≡ Err (errors.ObjectStoreError fault) → ⊥) → AnswersRead has_rows is_plain r → IsFree r
answers-free is_plain rows (Ok row) alone right stored a = tt
answers-free is_plain rows (Err errors.MergeOperatorMissing) alone right stored a = absurd (right reads.MergeOperatorMissing (subst (λ xs. is_plain xs (Err reads.MergeOperatorMissing)) (alone a.0 a.1) a.2))
answers-free is_plain rows (Err errors.MergeOperatorError) alone right stored a = absurd (right reads.MergeOperatorError (subst (λ xs. is_plain xs (Err reads.MergeOperatorError)) (alone a.0 a.1) a.2))
answers-free is_plain rows (Err errors.ChecksumMismatch) alone right stored a = absurd (right reads.ChecksumMismatch (subst (λ xs. is_plain xs (Err reads.ChecksumMismatch)) (alone a.0 a.1) a.2))
answers-free is_plain rows (Err (errors.ObjectStoreError fault)) alone right stored a = absurd (stored fault refl)
answers-free is_plain rows (Err errors.NoMemory) alone right stored a = refl
answers-free is_plain rows (Err e) alone right stored a = absurd a

found-free : (found : Option KeyValue) → IsOkOrNoMemory (found_reply found)
found-free None = tt
found-free (Some row) = tt

read-completes : {A : Type 0} {has_rows : List Batch → Type 0} (done : A → Reply) → ((x : A) → IsOkOrNoMemory (done x)) → (w w' : World) (closed : CloseResult) (tables : List TableId) (plain : List Batch → Result A ReadFault) (rows : List Batch) (reply : Reply) → AreStored w.catalogue tables → ((others : List Batch) → has_rows others → others ≡ rows) → CanRead closed (λ xs answer. answer ≡ plain xs) rows → IsRead done closed tables has_rows (λ xs answer. answer ≡ plain xs) (state_of w).store reply (state_of w').store → (HasRisen w.faults w'.faults → ⊥) → IsOkOrNoMemory reply
read-completes done ok w w' closed tables plain rows reply stored alone can r calm =
    let reads = (r.does).read can.0 in
    subst IsOkOrNoMemory (sym r.replied)
    (free-reply done r.result (λ x at. ok x)
    (answers-free (λ xs answer. answer ≡ plain xs) rows r.result alone (λ fault wrong. ok-err (plain rows) can.1 fault (sym can.2) (sym wrong)) (unfaulted w w' tables r.result stored reads calm) reads.plain))

-- what is taken of a scan that answers is refused nothing
taken-free : {has_rows : List Batch → Type 0} (is_scan : List Batch → Iteration → Type 0) (taken : Iteration → Result (List KeyValue) SlateError) (rows : List Batch) (scan : Result Iteration SlateError) (result : Result (List KeyValue) SlateError) → ((others : List Batch) → has_rows others → others ≡ rows) → ((it : Iteration) → is_scan rows it → (found : List KeyValue) × (taken it ≡ Ok found)) → ((fault : StoreFault) → scan ≡ Err (errors.ObjectStoreError fault) → ⊥) → AnswersRead has_rows (Gives is_scan) scan → AnswersTaken taken scan result → IsFree result
taken-free is_scan taken rows (Ok it) result alone can stored plain (inl memory) = subst IsFree (sym memory) refl
taken-free is_scan taken rows (Ok it) result alone can stored plain (inr all) =
    let c = can it (subst (λ xs. is_scan xs it) (alone plain.0 plain.1) plain.2) in
    subst IsFree (sym (all ∙ c.1)) tt
taken-free is_scan taken rows (Err errors.NoMemory) result alone can stored plain takes = subst IsFree (sym takes) refl
taken-free is_scan taken rows (Err errors.MergeOperatorMissing) result alone can stored plain takes = absurd plain.2
taken-free is_scan taken rows (Err errors.MergeOperatorError) result alone can stored plain takes = absurd plain.2
taken-free is_scan taken rows (Err errors.ChecksumMismatch) result alone can stored plain takes = absurd plain.2
taken-free is_scan taken rows (Err (errors.ObjectStoreError fault)) result alone can stored plain takes = absurd (stored fault refl)
taken-free is_scan taken rows (Err e) result alone can stored plain takes = absurd plain

take-completes : {has_rows : List Batch → Type 0} (is_scan : List Batch → Iteration → Type 0) (w w' : World) (closed : CloseResult) (tables : List TableId) (taken : Iteration → Result (List KeyValue) SlateError) (rows : List Batch) (reply : Reply) → AreStored w.catalogue tables → ((others : List Batch) → has_rows others → others ≡ rows) → CanTake closed is_scan taken rows → IsTaken closed tables has_rows is_scan taken (state_of w).store reply (state_of w').store → (HasRisen w.faults w'.faults → ⊥) → IsOkOrNoMemory reply
take-completes is_scan w w' closed tables taken rows reply stored alone can t calm =
    let reads = (t.scans).read can.0 in
    subst IsOkOrNoMemory (sym t.replied)
    (free-reply replies.Rows t.result (λ x at. tt)
    (taken-free is_scan taken rows t.scan t.result alone can.1 (unfaulted w w' tables t.scan stored reads calm) reads.plain t.takes))

-- a reader that can go by a manifest finds its checkpoint
found-not : (mode : DbReaderMode) (c : Catalogue) (latest view : VersionedManifest) (id : List ℕ) → mode ≡ modes.Checkpoint id → found id latest ≡ None → view_under mode c latest ≡ Some view → ⊥
found-not mode c latest view id is none at =
    let there : kept_by c (found id latest) ≡ Some view = subst (λ m. view_under m c latest ≡ Some view) is at in
    let gone : kept_by c (found id latest) ≡ None = ap (kept_by c) none in
    cc

-- a reader goes by one manifest, and is owed one line
view-once : (mode : DbReaderMode) (opening : Bool) (c : Catalogue) (a b : VersionedManifest) → IsView mode opening c a → IsView mode opening c b → a ≡ b
view-once mode opening c a b is_a is_b =
    let latest : is_a.0 ≡ is_b.0 = same-manifest (latest_manifest c) is_a.0 is_b.0 is_a.1 is_b.1 in
    same-manifest (view_under mode c is_b.0) a b (subst (λ m. view_under mode c m ≡ Some a) latest is_a.3) is_b.3

owed-once : (stored : Line) (c : Catalogue) (mode : DbReaderMode) (skips : Bool) (view : VersionedManifest) (a b : Line) → IsOwed (by_catalogue stored c) mode skips c view stored a → IsOwed (by_catalogue stored c) mode skips c view stored b → a ≡ b
owed-once stored c mode true view a b is_a is_b = is_a ∙ sym is_b
owed-once stored c (modes.Checkpoint id) false view a b is_a is_b = is_a ∙ sym is_b
owed-once stored c modes.FollowLatest false view a b is_a is_b = is_a ∙ sym is_b
owed-once stored c modes.ManagedCheckpoint false view a b is_a is_b = is_a ∙ sym is_b

-- the latest manifest isn't refused in two ways
refuses-once : (ext : Option Extractor) (w : World) (opening : Bool) (e : SlateError) → RefusesLatest ext opening w.catalogue (Some e) → RefusesLatest ext opening w.catalogue None → ⊥
refuses-once ext w opening e one other =
    let same : one.0 ≡ other.0 = same-manifest (latest_manifest w.catalogue) one.0 other.0 one.1 other.1 in
    none-some (follow_refusal ext opening other.0) e other.2 (subst (λ m. follow_refusal ext opening m ≡ Some e) same one.2)

-- nor is a key that an opening replays
replays-once : (ext : Option Extractor) (w : World) (mode : DbReaderMode) (skips : Bool) (key : List ℕ) → ReplayRefuses (by_catalogue w.stored w.catalogue) ext mode skips true w.catalogue w.stored (Some (errors.EmptySegmentPrefix key)) → ReplayRefuses (by_catalogue w.stored w.catalogue) ext mode skips true w.catalogue w.stored None → ⊥
replays-once ext w mode skips key one other =
    let view : one.0 ≡ other.0 = view-once mode true w.catalogue one.0 other.0 one.2 other.2 in
    let owed : one.1 ≡ other.1 = owed-once w.stored w.catalogue mode skips other.0 one.1 other.1 (subst (λ v. IsOwed (by_catalogue w.stored w.catalogue) mode skips w.catalogue v w.stored one.1) view one.3) other.3 in
    let same : replayed one.0 one.1 ≡ replayed other.0 other.1 = ap (λ v. replayed v one.1) view ∙ ap (replayed other.0) owed in
    none-some (unsegmented_refusal ext (ops_of (replayed other.0 other.1))) (errors.EmptySegmentPrefix key) other.4 (sym (ap (λ bs. unsegmented_refusal ext (ops_of bs)) same) ∙ one.4)

follow-cause : (ext : Option Extractor) (w : World) (mode : DbReaderMode) (opening : Bool) (faults : ℕ) (error : SlateError) → FollowCause ext mode opening ⊥ w.catalogue error → FaultsRise {A = Follower × PollAnswer} w.faults faults (Err error) → CanFollow mode opening w → RefusesLatest ext opening w.catalogue None →
    (opening ≡ false → error ≡ errors.InvalidDBState → ⊥) → ((key : List ℕ) → opening ≡ true → error ≡ errors.EmptySegmentPrefix key → ⊥) → (HasRisen w.faults faults → ⊥) → error ≡ errors.NoMemory
follow-cause ext w mode opening faults errors.LatestTransactionalObjectVersionMissing cause fault can fits polled keyed calm = absurd (none-some (latest_manifest w.catalogue) can.1.0 cause can.1.1)
follow-cause ext w mode opening faults errors.InvalidDBState cause fault can fits polled keyed calm = elim cause [
  | inl refused ↦ absurd (refuses-once ext w opening errors.InvalidDBState refused fits)
  | inr lacks ↦ absurd (polled lacks.0 refl)
]
follow-cause ext w mode opening faults (errors.SegmentExtractorMismatch persisted configured) cause fault can fits polled keyed calm = absurd (refuses-once ext w opening (errors.SegmentExtractorMismatch persisted configured) cause fits)
follow-cause ext w mode opening faults (errors.SegmentPrefixNotRecognized prefix name) cause fault can fits polled keyed calm = absurd (refuses-once ext w opening (errors.SegmentPrefixNotRecognized prefix name) cause fits)
follow-cause ext w mode opening faults (errors.EmptySegmentPrefix key) cause fault can fits polled keyed calm = absurd (keyed key cause.0 refl)
follow-cause ext w mode opening faults (errors.CheckpointMissing id) cause fault can fits polled keyed calm =
    let v = can.1 in
    let same : cause.0 ≡ v.0 = same-manifest (latest_manifest w.catalogue) cause.0 v.0 cause.1 v.1 in
    absurd (found-not mode w.catalogue v.0 can.0 id cause.2 (subst (λ m. found id m ≡ None) same cause.3) v.3)
follow-cause ext w mode opening faults (errors.ObjectStoreError Unavailable) cause fault can fits polled keyed calm = absurd (calm (fault.unavailable refl))
follow-cause ext w mode opening faults errors.NoMemory cause fault can fits polled keyed calm = refl
follow-cause ext w mode opening faults error cause fault can fits polled keyed calm = absurd cause

-- an opening that finds a segment for each key
rebuild-free : (ext : Option Extractor) (w w' : World) (mode : DbReaderMode) (skips : Bool) (lag : ℕ) (r : Result (Follower × PollAnswer) SlateError) → Rebuilds (by_catalogue w.stored w.catalogue) ext mode skips true lag (SeesOwed (by_catalogue w.stored w.catalogue) mode skips lag) unseen (state_of w).store r (state_of w').store → CanFollow mode true w → CanReplay ext mode skips w → (HasRisen w.faults w'.faults → ⊥) → IsFree r
rebuild-free ext w w' mode skips lag (Ok b) d can fits calm = tt
rebuild-free ext w w' mode skips lag (Err e) d can fits calm =
    follow-cause ext w mode true w'.faults e d.cause d.faults can fits.0 (λ polled is. absurd (cc))
    (λ key opened is. replays-once ext w mode skips key (subst (λ x. AreFollowed {A = Follower × PollAnswer} (by_catalogue w.stored w.catalogue) ext mode skips true w.catalogue w.stored (Err x)) is (d.segmented w.catalogue w.stored refl refl tt)) fits.1) calm

-- and a poll of a reader that lacks none
repoll-free : (ext : Option Extractor) (w w' : World) (mode : DbReaderMode) (skips : Bool) (lag : ℕ) (Sees : Catalogue → Line → Follower → PollAnswer → Type 0) (r : Result (Follower × PollAnswer) SlateError) → Rebuilds (by_catalogue w.stored w.catalogue) ext mode skips false lag Sees (λ objects line. Unit {0}) (state_of w).store r (state_of w').store → CanFollow mode false w → (LacksSegment (by_catalogue w.stored w.catalogue) ext mode skips false w.catalogue w.stored → ⊥) → (HasRisen w.faults w'.faults → ⊥) → IsFree r
repoll-free ext w w' mode skips lag Sees (Ok b) d can lacks calm = tt
repoll-free ext w w' mode skips lag Sees (Err e) d can lacks calm =
    follow-cause ext w mode false w'.faults e d.cause d.faults can (can.1.0, can.1.1, refl)
    (λ polled is. lacks (subst (λ x. AreFollowed {A = Follower × PollAnswer} (by_catalogue w.stored w.catalogue) ext mode skips false w.catalogue w.stored (Err x)) is (d.segmented w.catalogue w.stored refl refl tt)))
    (λ key opened is. absurd (cc)) calm

-- a checkpoint and a sweep of a world in which they can be made
checkpoint-free : (lifetime : Option ℕ) (moment : ℤ) (w : World) (faults : ℕ) (r : Result Checkpoint SlateError) → CheckpointAnswer ⊥ lifetime moment w.catalogue r → CountsFaults w.faults faults r → CanCheckpoint w → (HasRisen w.faults faults → ⊥) → IsFree r
checkpoint-free lifetime moment w faults (Ok checkpoint) answer counts can calm = tt
checkpoint-free lifetime moment w faults (Err errors.LatestTransactionalObjectVersionMissing) answer counts can calm = absurd (none-some (latest_manifest w.catalogue) can.0 answer can.1)
checkpoint-free lifetime moment w faults (Err errors.InvalidDBState) answer counts can calm =
    let same = same-manifest (latest_manifest w.catalogue) answer.0 can.0 answer.1 can.1 in
    let id = ap (λ (m : VersionedManifest). m.id) same in
    let high = answer.2 in
    let low = can.2 in
    absurd (omega (arith, id, high, low))
checkpoint-free lifetime moment w faults (Err (errors.TransactionalObjectTimeout tries)) answer counts can calm = absurd answer.1
checkpoint-free lifetime moment w faults (Err (errors.ObjectStoreError Unavailable)) answer counts can calm = absurd (calm (counts.unavailable refl))
checkpoint-free lifetime moment w faults (Err errors.NoMemory) answer counts can calm = refl
checkpoint-free lifetime moment w faults (Err error) answer counts can calm = absurd answer

sweep-free : (w : World) (after : Catalogue) (faults : ℕ) (moment : ℤ) (r : Result ℕ SlateError) → SweepsAnswer (λ e. ⊥) moment w.catalogue r after → FaultsRise w.faults faults r → CanSweep w moment → (HasRisen w.faults faults → ⊥) → IsFree r
sweep-free w after faults moment (Ok count) answer counts can calm = tt
sweep-free w after faults moment (Err errors.LatestTransactionalObjectVersionMissing) answer counts can calm = absurd (none-some (latest_manifest w.catalogue) can.0 answer can.1)
sweep-free w after faults moment (Err errors.InvalidDBState) answer counts can calm =
    let same = same-manifest (latest_manifest w.catalogue) answer.0 can.0 answer.1 can.1 in
    let low = can.2 (subst (λ (m : VersionedManifest). has_expired moment m ≡ true) same answer.2) in
    let id = ap (λ (m : VersionedManifest). m.id) same in
    let high = answer.3 in
    absurd (omega (arith, id, high, low))
sweep-free w after faults moment (Err (errors.ObjectStoreError Unavailable)) answer counts can calm = absurd (calm (counts.unavailable refl))
sweep-free w after faults moment (Err errors.NoMemory) answer counts can calm = refl
sweep-free w after faults moment (Err error) answer counts can calm = absurd answer

-- over an honest store nothing is missing
follow-reply : (ext : Option Extractor) (w w' : World) (mode : DbReaderMode) (skips : Bool) (lag : ℕ) (n : ℕ) (r : Result (Follower × PollAnswer) SlateError) → Rebuilds (by_catalogue w.stored w.catalogue) ext mode skips true lag (SeesOwed (by_catalogue w.stored w.catalogue) mode skips lag) unseen (state_of w).store r (state_of w').store → CanFollow mode true w × CanReplay ext mode skips w → (HasRisen w.faults w'.faults → ⊥) → IsOkOrNoMemory (reply_to (λ (b : Follower × PollAnswer). followed_reply n b.1) r)
follow-reply ext w w' mode skips lag n (Ok b) r can calm =
    let all = r.sees w.catalogue w.stored refl refl tt in
    subst (λ a. IsOkOrNoMemory (followed_reply n a)) (sym all.3) tt
follow-reply ext w w' mode skips lag n (Err e) r (can, fits) calm = subst (λ x. IsOkOrNoMemory (refusal x)) (sym (rebuild-free ext w w' mode skips lag (Err e) r can fits calm)) tt

poll-reply : (ext : Option Extractor) (w w' : World) (f f' : Follower) (r : Result PollAnswer SlateError) → Rebuilds (by_catalogue w.stored w.catalogue) ext f.mode f.skips false f.lag (SeesPolled (by_catalogue w.stored w.catalogue) f) (λ objects line. Unit {0}) (state_of w).store (built f' r) (state_of w').store → CanFollow f.mode false w → (LacksSegment (by_catalogue w.stored w.catalogue) ext f.mode f.skips false w.catalogue w.stored → ⊥) → (HasRisen w.faults w'.faults → ⊥) → IsOkOrNoMemory (reply_to polled_reply r)
poll-reply ext w w' f f' (Ok answer) r can lacks calm =
    let all = r.sees w.catalogue w.stored refl refl tt in
    subst (λ a. IsOkOrNoMemory (polled_reply a)) (sym (polled-answer w.stored w.catalogue w.catalogue f f' answer all)) tt
poll-reply ext w w' f f' (Err e) r can lacks calm = subst (λ x. IsOkOrNoMemory (refusal x)) (sym (repoll-free ext w w' f.mode f.skips f.lag (SeesPolled (by_catalogue w.stored w.catalogue) f) (Err e) r can lacks calm)) tt

-- a poll of one that is open
polled-completes : (ext : Option Extractor) (w w' : World) (f f' : Follower) (r : Result PollAnswer SlateError) → Polls (by_catalogue w.stored w.catalogue) ext f (state_of w).store r f' (state_of w').store → f.result ≡ None → (is_pinned f.mode ≡ false → CanFollow f.mode false w) → (is_pinned f.mode ≡ false → LacksSegment (by_catalogue w.stored w.catalogue) ext f.mode f.skips false w.catalogue w.stored → ⊥) → (HasRisen w.faults w'.faults → ⊥) → (pinned : Bool) → is_pinned f.mode ≡ pinned → IsOkOrNoMemory (reply_to polled_reply r)
polled-completes ext w w' f f' r p live can lacks calm true stays = subst (λ x. IsOkOrNoMemory (reply_to polled_reply x)) (sym (p.pinned live stays).0) tt
polled-completes ext w w' f f' r p live can lacks calm false free = poll-reply ext w w' f f' r (p.rebuilds live free) (can free) (lacks free) calm

-- a call with a plan for a checkpoint that can be put, and that is refused for nothing else
planned-free : {A B : Type 0} (plan : VersionedManifest → Plan A) (w : World) (faults : ℕ) (error : SlateError) → PlanCause ⊥ plan w.catalogue error → CountsFaults {A = B} w.faults faults (Err error) → CanPut plan w → (HasRisen w.faults faults → ⊥) → error ≡ errors.NoMemory
planned-free plan w faults errors.LatestTransactionalObjectVersionMissing cause counts can calm = absurd (none-some (latest_manifest w.catalogue) can.0 cause can.1)
planned-free plan w faults errors.InvalidDBState cause counts can calm =
    let same = same-manifest (latest_manifest w.catalogue) cause.0 can.0 cause.1 can.1 in
    absurd (let no : ◌≡◌ (Ok can.2) (Err refusals.InvalidDBState) = sym can.3 ∙ (ap plan (sym same) ∙ cause.2) in cc)
planned-free plan w faults (errors.TransactionalObjectTimeout tries) cause counts can calm = absurd cause.1
planned-free plan w faults (errors.ObjectStoreError Unavailable) cause counts can calm = absurd (calm (counts.unavailable refl))
planned-free plan w faults errors.NoMemory cause counts can calm = refl
planned-free plan w faults error cause counts can calm = absurd cause

plan-free : {A B : Type 0} (plan : VersionedManifest → Plan A) (w : World) (faults : ℕ) (r : Result B SlateError) (refused : SlateError → Type 0) → IfErr r (λ error. PlanCause ⊥ plan w.catalogue error ⊎ refused error) → ((error : SlateError) → r ≡ Err error → refused error → PlanCause ⊥ plan w.catalogue error) → CountsFaults w.faults faults r → CanPut plan w → (HasRisen w.faults faults → ⊥) → IsFree r
plan-free plan w faults (Ok x) refused cause none counts can calm = tt
plan-free {A} {B} plan w faults (Err e) refused (inl planned) none counts can calm = planned-free {A = A} {B = B} plan w faults e planned counts can calm
plan-free {A} {B} plan w faults (Err e) refused (inr other) none counts can calm = planned-free {A = A} {B = B} plan w faults e (none e refl other) counts can calm

-- an opening of a reader that keeps a checkpoint
take-not : (ext : Option Extractor) (w : World) (skips : Bool) (lifetime : ℕ) (moment : ℤ) (e : SlateError) → CanReplay ext modes.ManagedCheckpoint skips w → ((key : List ℕ) → e ≡ errors.EmptySegmentPrefix key → ReplayRefuses (by_catalogue w.stored w.catalogue) ext modes.ManagedCheckpoint skips true w.catalogue w.stored (Some e)) → TakeRefusal ext w.catalogue e → PlanCause ⊥ (to_take lifetime moment) w.catalogue e
take-not ext w skips lifetime moment (errors.SegmentExtractorMismatch persisted configured) fits keyed cause = absurd (refuses-once ext w true (errors.SegmentExtractorMismatch persisted configured) cause fits.0)
take-not ext w skips lifetime moment (errors.SegmentPrefixNotRecognized prefix name) fits keyed cause = absurd (refuses-once ext w true (errors.SegmentPrefixNotRecognized prefix name) cause fits.0)
take-not ext w skips lifetime moment (errors.EmptySegmentPrefix key) fits keyed cause = absurd (replays-once ext w modes.ManagedCheckpoint skips key (keyed key refl) fits.1)
take-not ext w skips lifetime moment e fits keyed cause = absurd cause

take-reply : (ext : Option Extractor) (w w' : World) (made lifetime interval : ℕ) (skips : Bool) (lag : ℕ) (moment : ℤ) (n : ℕ) (r : Result (Follower × PollAnswer) SlateError) → OpensManaged (by_catalogue w.stored w.catalogue) ext made lifetime interval skips lag moment (state_of w).store r (state_of w').store →
    (lease_refusal lifetime interval ≡ None) × CanPut (to_take lifetime moment) w × CanReplay ext modes.ManagedCheckpoint skips w → (HasRisen w.faults w'.faults → ⊥) → IsOkOrNoMemory (reply_to (λ (b : Follower × PollAnswer). followed_reply n b.1) r)
take-reply ext w w' made lifetime interval skips lag moment n (Ok b) d (none, can, fits) calm =
    let t = modelled w.catalogue w'.catalogue (d.takes none).takes in
    let all = (t.sees).sees w.stored refl tt in
    subst (λ a. IsOkOrNoMemory (followed_reply n a)) (sym all.3) tt
take-reply ext w w' made lifetime interval skips lag moment n (Err e) d (none, can, fits) calm =
    let t = d.takes none in
    let puts = modelled w.catalogue w'.catalogue t.puts in
    let segmented : AreFollowed {A = Follower × PollAnswer} (by_catalogue w.stored w.catalogue) ext modes.ManagedCheckpoint skips true w.catalogue w.stored (Err e) = t.segmented w.catalogue w.stored refl refl in
    subst (λ x. IsOkOrNoMemory (refusal x)) (sym (plan-free {B = Follower × PollAnswer} (to_take lifetime moment) w w'.faults (Err e) (TakeRefusal ext w.catalogue) puts.cause
    (λ error is. taken error is segmented) t.faults can calm)) tt where
      taken : (error : SlateError) → ◌≡◌ {A = Result (Follower × PollAnswer) SlateError} (Err e) (Err error) → AreFollowed {A = Follower × PollAnswer} (by_catalogue w.stored w.catalogue) ext modes.ManagedCheckpoint skips true w.catalogue w.stored (Err e) → TakeRefusal ext w.catalogue error → PlanCause ⊥ (to_take lifetime moment) w.catalogue error
      taken error is segmented =
          let same : e ≡ error = cc in
          take-not ext w skips lifetime moment error fits
          (λ key is_key.
          subst (λ x. ReplayRefuses (by_catalogue w.stored w.catalogue) ext modes.ManagedCheckpoint skips true w.catalogue w.stored (Some x)) (sym is_key)
          (subst (λ x. AreFollowed {A = Follower × PollAnswer} (by_catalogue w.stored w.catalogue) ext modes.ManagedCheckpoint skips true w.catalogue w.stored (Err x)) (same ∙ is_key) segmented))

-- a poll of one
keep-not : (ext : Option Extractor) (w : World) (plan : VersionedManifest → Plan Lease) (e : SlateError) → (e ≡ errors.InvalidDBState → PlanIs plan w.catalogue (Err refusals.InvalidDBState)) → KeepRefusal ext w.catalogue e → PlanCause ⊥ plan w.catalogue e
keep-not ext w plan errors.InvalidDBState planned cause = planned refl
keep-not ext w plan e planned cause = absurd cause

keep-reply : (ext : Option Extractor) (w w' : World) (made : ℕ) (lease : Lease) (moment : ℤ) (f f' : Follower) (r : Result PollAnswer SlateError) → KeepsLease (by_catalogue w.stored w.catalogue) ext made lease moment f (state_of w).store r f' (state_of w').store → CanPut (to_keep f.view lease moment) w → (LacksSegment (by_catalogue w.stored w.catalogue) ext modes.ManagedCheckpoint f.skips false w.catalogue w.stored → ⊥) → (HasRisen w.faults w'.faults → ⊥) → IsOkOrNoMemory (reply_to polled_reply r)
keep-reply ext w w' made lease moment f f' (Ok answer) d can lacks calm =
    let t = modelled w.catalogue w'.catalogue d.keeps in
    let all = (t.sees).sees w.stored refl tt in
    subst (λ a. IsOkOrNoMemory (polled_reply a)) (sym (polled-answer w.stored w.catalogue w'.catalogue f (follower_under (unwrap_or t.next t.latest) f') answer all)) tt
keep-reply ext w w' made lease moment f f' (Err e) d can lacks calm =
    let puts = modelled w.catalogue w'.catalogue d.puts in
    let segmented = d.segmented w.catalogue w.stored refl refl tt in
    subst (λ x. IsOkOrNoMemory (refusal x)) (sym (plan-free {B = PollAnswer} (to_keep f.view lease moment) w w'.faults (Err e) (KeepRefusal ext w.catalogue) puts.cause
    (λ error same. keep-not ext w (to_keep f.view lease moment) error (λ is. planned (segmented (same ∙ ap Err is)))) d.faults can calm)) tt where
      planned : PlanIs (to_keep f.view lease moment) w.catalogue (Err refusals.InvalidDBState) ⊎ LacksSegment (by_catalogue w.stored w.catalogue) ext modes.ManagedCheckpoint f.skips false w.catalogue w.stored → PlanIs (to_keep f.view lease moment) w.catalogue (Err refusals.InvalidDBState)
      planned (inl is) = is
      planned (inr lack) = absurd (lacks lack)

-- a renewal of the lease that it took, where an id is left
renewal-free : (plan : Plan Checkpoint) (id : List ℕ) (lifetime : ℕ) (moment : ℤ) (view : VersionedManifest) → plan ≡ to_refresh id lifetime moment view → view.id < last_number → (faults faults' : ℕ) (e : SlateError) → RenewalCause plan e → CountsFaults {A = PollAnswer} faults faults' (Err e) → (HasRisen faults faults' → ⊥) → e ≡ errors.NoMemory
renewal-free plan id lifetime moment view is low faults faults' errors.InvalidDBState cause counts calm =
    let full = end-full id (lease_end moment lifetime) view (found id view) (sym is ∙ cause) in
    absurd (omega (arith, low, full))
renewal-free plan id lifetime moment view is low faults faults' (errors.ObjectStoreError Unavailable) cause counts calm = absurd (calm (counts.unavailable refl))
renewal-free plan id lifetime moment view is low faults faults' errors.NoMemory cause counts calm = refl
renewal-free plan id lifetime moment view is low faults faults' e cause counts calm = absurd cause

twice-reply : (ext : Option Extractor) (w w' : World) (made : ℕ) (lease : Lease) (moment : ℤ) (f f' : Follower) (r : Result PollAnswer SlateError) → PollsTwice (by_catalogue w.stored w.catalogue) ext made lease moment f (state_of w).store r f' (state_of w').store → CanRenew w moment f lease → (HasRisen w.faults w'.faults → ⊥) → IsOkOrNoMemory (reply_to polled_reply r)
twice-reply ext w w' made lease moment f f' (Ok answer) p can calm =
    let t = (p.round.keeps).some w.catalogue refl in
    let q = t.2 in
    let all = (q.sees).sees w.stored refl tt in
    subst (λ a. IsOkOrNoMemory (polled_reply a)) (sym ((p.answers).0 ∙ polled-answer w.stored w.catalogue t.0 f (follower_under (unwrap_or q.next q.latest) p.middle) p.answer all)) tt
twice-reply ext w w' made lease moment f f' (Err e) p can calm =
    let k = took (by_catalogue w.stored w.catalogue) ext made lease moment f w.catalogue w.faults (Err e) f' (state_of w').store p in
    let t = (p.round.keeps).some w.catalogue refl in
    let cause = ((p.puts).some t.0 t.1).2.cause in
    let left = can k.latest k.is (p.renews k.latest k.is) in
    let put = written-is (Some lease.id) lease.lifetime moment k.latest (Some (p.middle).view) p.given k.written in
    let next_id : (p.middle).view.id ≡ k.latest.id + 1 = (let same = put.1 in ap (λ (v : Option VersionedManifest). (unwrap_or v (p.middle).view).id) same) in
    let stayed : (p.between).faults ≡ w.faults = ((p.round).faults).stays in
    subst (λ x. IsOkOrNoMemory (refusal x))
    (sym (renewal-free (to_refresh (p.given).id (p.given).lifetime moment (p.middle).view) (p.given).id (p.given).lifetime moment (p.middle).view refl (omega (arith, next_id, left)) (p.between).faults w'.faults e cause p.faults
    (λ risen. calm (subst (λ n. HasRisen n w'.faults) stayed risen)))) tt

leased-reply : (ext : Option Extractor) (w w' : World) (made : ℕ) (lease : Lease) (moment : ℤ) (f f' : Follower) (r : Result PollAnswer SlateError) → PollsLeased (by_catalogue w.stored w.catalogue) ext made lease moment f (state_of w).store r f' (state_of w').store → CanPut (to_keep f.view lease moment) w × CanRenew w moment f lease → (LacksSegment (by_catalogue w.stored w.catalogue) ext modes.ManagedCheckpoint f.skips false w.catalogue w.stored → ⊥) → (HasRisen w.faults w'.faults → ⊥) → IsOkOrNoMemory (reply_to polled_reply r)
leased-reply ext w w' made lease moment f f' r (inl once) can lacks calm = keep-reply ext w w' made lease moment f f' r once.round can.0 lacks calm
leased-reply ext w w' made lease moment f f' r (inr twice) can lacks calm = twice-reply ext w w' made lease moment f f' r twice can.1 calm

-- a lease that an open reader has which keeps a checkpoint
lease-of : {G : Type 0} (f : Follower) → IsLeased f → is_managed f.mode ≡ true → f.result ≡ None → ((lease : Lease) → f.lease ≡ Some lease → G) → G
lease-of f leased managed live g = by-option f.lease (λ none. absurd (let there = leased managed live in cc)) g

polls-complete : (ext : Option Extractor) (w w' : World) (made : ℕ) (moment : ℤ) (f f' : Follower) (r : Result PollAnswer SlateError) (managed : Bool) → is_managed f.mode ≡ managed → PollsAs (by_catalogue w.stored w.catalogue) ext managed made moment f (state_of w).store r f' (state_of w').store → IsLeased f → f.result ≡ None → CanPoll w moment f → (is_pinned f.mode ≡ false → LacksSegment (by_catalogue w.stored w.catalogue) ext f.mode f.skips false w.catalogue w.stored → ⊥) → (HasRisen w.faults w'.faults → ⊥) → IsOkOrNoMemory (reply_to polled_reply r)
polls-complete ext w w' made moment f f' r true managed p leased live can lacks calm =
    lease-of f leased managed live (λ lease is. leased-reply ext w w' made lease moment f f' r (p.keeps lease live is) (some-of (λ lease. CanPut (to_keep f.view lease moment) w × CanRenew w moment f lease) f.lease lease is (can.1 managed))
    (subst (λ m. LacksSegment (by_catalogue w.stored w.catalogue) ext m f.skips false w.catalogue w.stored → ⊥) (managed-mode f.mode managed) (lacks (managed-free f.mode managed))) calm)
polls-complete ext w w' made moment f f' r false unmanaged p leased live can lacks calm = polled-completes ext w w' f f' r p.0 live (can.0 unmanaged) lacks calm (is_pinned f.mode) refl

-- a close of an open one, and of one that was closed without an error
ended-free : (fault : Option SlateError) (tasks : List TaskName) → IsFree (closing_flush fault) → IsOkOrNoMemory (replies.Ended fault tasks)
ended-free None tasks free = tt
ended-free (Some e) tasks free = subst (λ x. IsOkOrNoMemory (replies.Ended (Some x) tasks)) (sym free) tt

again-reply : (fault : Option SlateError) (tasks : List TaskName) → fault ≡ None → IsOkOrNoMemory (follower_closed_reply fault tasks)
again-reply None tasks none = tt
again-reply (Some error) tasks none = absurd (cc)

closes-complete : (w w' : World) (made : ℕ) (f f' : Follower) (answer : Ended) (managed : Bool) → is_managed f.mode ≡ managed → ClosesAs (by_catalogue w.stored w.catalogue) managed made f (state_of w).store answer f' (state_of w').store → IsLeased f → CanEnd w f → (HasRisen w.faults w'.faults → ⊥) → (was : CloseResult) → f.result ≡ was → IsOkOrNoMemory (follower_ended_reply was answer)
closes-complete w w' made f f' answer true managed c leased can calm None live =
    lease-of f leased managed live (λ lease is.
    let e = c.ends lease live is in
    let puts = modelled w.catalogue w'.catalogue e.puts in
    ended-free answer.fault answer.tasks (plan-free (to_delete lease.id) w w'.faults (closing_flush answer.fault) (λ error. ⊥) puts.cause (λ error is never. absurd never) e.faults (some-of (λ (lease : Lease). CanPut (to_delete lease.id) w) f.lease lease is (can.1 managed live)) calm))
closes-complete w w' made f f' answer true managed c leased can calm (Some q) is =
    let again = some-of (λ _. (answer ≡ ended f.tasks (recorded_fault f.result)) × Untouched made (state_of w).store (state_of w').store) f.result q is c.again in
    again-reply answer.fault answer.tasks (ap (λ (e : Ended). e.fault) again.0 ∙ can.0)
closes-complete w w' made f f' answer false unmanaged c leased can calm None live =
    subst (λ (e : Ended). IsOkOrNoMemory (replies.Ended e.fault e.tasks)) (sym (c.0 ∙ ap (ended f.tasks) can.0)) tt
closes-complete w w' made f f' answer false unmanaged c leased can calm (Some q) is =
    again-reply answer.fault answer.tasks (ap (λ (e : Ended). e.fault) c.0 ∙ can.0)

-- a status is refused nothing
status-completes : (status : DbStatus) (reply : Reply) → AnswersStatus status reply → IsOkOrNoMemory reply
status-completes status reply (inl is) = subst IsOkOrNoMemory (sym is) tt
status-completes status reply (inr is) = subst IsOkOrNoMemory (sym is) tt

-- the object that a valid command names
by-object : {G : Type 0} (object : Option Object) (of_handle : Handle → Type 0) (of_snapshot : HandleSnapshot → Type 0) (of_follower : Follower → Type 0) → AtObject object of_handle of_snapshot of_follower →
    ((h : Handle) → object ≡ Some (AHandle h) → of_handle h → G) → ((x : HandleSnapshot) → object ≡ Some (ASnapshot x) → of_snapshot x → G) → ((f : Follower) → object ≡ Some (AFollower f) → of_follower f → G) → G
by-object None of_handle of_snapshot of_follower at f s g = absurd at
by-object (Some (AHandle h)) of_handle of_snapshot of_follower at f s g = f h refl at
by-object (Some (ASnapshot x)) of_handle of_snapshot of_follower at f s g = s x refl at
by-object (Some (AFollower x)) of_handle of_snapshot of_follower at f s g = g x refl at

-- the handle with a number
by-handle : {G : Type 0} (w : World) (n : ℕ) (of_handle : Handle → Type 0) → AtHandle w n of_handle → ((h : Handle) → slice_get w.objects n ≡ Some (AHandle h) → of_handle h → G) → G
by-handle w n of_handle at f = by-object (slice_get w.objects n) of_handle _ _ at f (λ x is never. absurd never) (λ g is never. absurd never)

module _ (settings : Settings) (w w' : World) (valid : IsValid w) (segments : AreInSegments settings.extractor w) (command : Command) (made : ℕ) (reply : Reply) (calm : HasRisen w.faults w'.faults → ⊥) where
  asked : (found : Option Write) → IsDurable w found → IsOkOrNoMemory (write_reply w.objects found)
  asked None never = absurd never
  asked (Some write) at =
      by-handle w write.handle _ at
      (λ h is low. subst (λ x. IsOkOrNoMemory (asked_reply x write.number)) (sym is)
      (subst IsOkOrNoMemory (sym (ap (λ b. if b then replies.Durable else pending_reply h.result) (le-leb write.number h.durable low))) tt))

  -- a handle that may be asked this
  handle-completes : (n : ℕ) (call : Call) (h h' : Handle) → CanAsk settings w command.moment command.second call h → HandleActs (by_catalogue w.stored w.catalogue) settings n command.moment command.second call made h (state_of w).store w.writes reply h' (state_of w').store w'.writes → IsOkOrNoMemory reply
  handle-completes n (WriteCall ops) h h' can a = write-completes settings.extractor n ops _ _ h _ reply h' _ can a.0
  handle-completes n (MergeCall op) h h' can a = merge-completes settings.merge settings.extractor n op _ _ h _ reply h' _ can.0 can.1 a.0
  handle-completes n (Flush t) h h' can a = flush-completes w w' made (flush_type_by t h) h h' (a.0).result reply can.0 can.1 (a.0).does (a.0).replied calm
  handle-completes n Refresh h h' can a =
      subst IsOkOrNoMemory (sym (a.0).replied) (free-reply _ (a.0).result (λ x at. tt) (refresh-free w w' h h' (a.0).result can.0 can.1 (a.0).does calm))
  handle-completes n Compact h h' can a =
      subst IsOkOrNoMemory (sym (a.0).replied) (free-reply _ (a.0).result (λ x at. tt) (compact-free w w' made h h' (a.0).result can.0 can.1 (a.0).does calm))
  handle-completes n (Get key remote snapshot) h h' can a =
      read-completes found_reply found-free w w' h.result h.view.manifest.tables _ h.line.batches reply can.0 (λ others has. has.1) can.1 a.0 calm
  handle-completes n (Scan range order remote snapshot) h h' can a =
      take-completes _ w w' h.result h.view.manifest.tables scanned h.line.batches reply can.0 (λ others has. has.1) can.1 a.0 calm
  handle-completes n (Seek range take key order remote snapshot) h h' can a =
      take-completes _ w w' h.result h.view.manifest.tables (sought range take key) h.line.batches reply can.0 (λ others has. has.1) can.1 a.0 calm
  handle-completes n (Close t) h h' can a = close-completes w w' made h h' h.result t (a.0).ended reply refl can (a.0).does (a.0).replied calm
  handle-completes n Poll h h' can a = absurd can
  handle-completes n Status h h' can a = status-completes _ reply a.0
  handle-completes n (FindTime number find) h h' can a = subst IsOkOrNoMemory (sym a.0.2) tt
  handle-completes n (FindNumber seconds find) h h' can a = subst IsOkOrNoMemory (sym a.0.2) tt
  handle-completes n Nothing h h' can a = absurd can

  -- a follower that may be asked this
  follower-completes : (n : ℕ) (call : Call) (f f' : Follower) → slice_get w.objects n ≡ Some (AFollower f) → CanAskFollower settings w command.moment call f → FollowerActs (by_catalogue w.stored w.catalogue) settings command.moment call made f (state_of w).store w.writes reply f' (state_of w').store w'.writes → IsOkOrNoMemory reply
  follower-completes n (WriteCall ops) f f' at can a = absurd can
  follower-completes n (MergeCall op) f f' at can a = absurd can
  follower-completes n (Flush t) f f' at can a = absurd can
  follower-completes n Refresh f f' at can a = absurd can
  follower-completes n Compact f f' at can a = absurd can
  follower-completes n (FindTime number find) f f' at can a = absurd can
  follower-completes n (FindNumber seconds find) f f' at can a = absurd can
  follower-completes n (Get key remote snapshot) f f' at can a =
      read-completes found_reply found-free w w' f.result f.view.manifest.tables _ w.stored.batches reply can.0 (λ others has. has.1) can.1 a.0 calm
  follower-completes n (Scan range order remote snapshot) f f' at can a =
      take-completes _ w w' f.result f.view.manifest.tables scanned w.stored.batches reply can.0 (λ others has. has.1) can.1 a.0 calm
  follower-completes n (Seek range take key order remote snapshot) f f' at can a =
      take-completes _ w w' f.result f.view.manifest.tables (sought range take key) w.stored.batches reply can.0 (λ others has. has.1) can.1 a.0 calm
  follower-completes n (Close t) f f' at can a =
      subst IsOkOrNoMemory (sym (a.0).replied) (closes-complete w w' made f f' (a.0).answer (is_managed f.mode) refl (a.0).does (valid.followers n f at).2 can calm f.result refl)
  follower-completes n Poll f f' at can a =
      subst IsOkOrNoMemory (sym (a.0).replied) (polls-complete settings.extractor w w' made command.moment f f' (a.0).result (is_managed f.mode) refl (a.0).does (valid.followers n f at).2 can.0 can.1
      (none-lacks settings.extractor w valid.line segments n f at) calm)
  follower-completes n Status f f' at can a = status-completes _ reply a.0
  follower-completes n Nothing f f' at can a = absurd can

  abbrev k : Knowledge Span
  k = by_catalogue w.stored w.catalogue

  handle-acts : (n : ℕ) (call : Call) (h : Handle) → CanAsk settings w command.moment command.second call h → ActsAt k settings n command call made (AHandle h) (state_of w) reply (state_of w') → IsOkOrNoMemory reply
  handle-acts n call h can d = let a = handle-acted k settings n command call made (state_of w) reply (state_of w') h d in handle-completes n call h a.new can a.acts

  snapshot-completes : (x : HandleSnapshot) (call : Call) → CanAskSnapshot settings w command.moment command.second call x → ReadsSnapshot k settings x command call made (slice_get w.objects x.handle) (state_of w) reply (state_of w') → IsOkOrNoMemory reply
  snapshot-completes x call can d =
      by-handle w x.handle _ can
      (λ h at can_ask. handle-acts x.handle (at_snapshot x.number call) h can_ask (subst (λ found. ReadsSnapshot k settings x command call made found (state_of w) reply (state_of w')) at d))

  object-completes : (n : ℕ) (call : Call) → AtObject (slice_get w.objects n) (CanAsk settings w command.moment command.second call) (CanAskSnapshot settings w command.moment command.second call) (CanAskFollower settings w command.moment call) → ActsOn k settings n command call made (slice_get w.objects n) (state_of w) reply (state_of w') → IsOkOrNoMemory reply
  object-completes n call can d =
      by-object (slice_get w.objects n) _ _ _ can
      (λ h at can_ask. handle-acts n call h can_ask (subst (λ found. ActsOn k settings n command call made found (state_of w) reply (state_of w')) at d))
      (λ x at can_ask. snapshot-completes x call can_ask (subst (λ found. ActsOn k settings n command call made found (state_of w) reply (state_of w')) at d))
      (λ f at can_ask.
      let a = follower-did k settings n command call made (state_of w) reply (state_of w') (slice_get w.objects n) f at d in
      follower-completes n call f a.new at can_ask a.acts)

  -- a snapshot of an open handle
  snapshot-free : (h : Handle) (before after : Known Span) (r : Result ℕ SlateError) → h.result ≡ None → TakesSnapshot h before r after → IsFree r
  snapshot-free h before after r live (inl memory, same) = subst IsFree (sym memory) refl
  snapshot-free h before after r live (inr number, same) = subst IsFree (sym (number ∙ ap (λ result. unless_closed result (accepted h)) live)) tt

  opens-snapshot : (n : ℕ) → AtHandle w n (λ handle. handle.result ≡ None) → OpensSnapshot n made (slice_get w.objects n) (state_of w) reply (state_of w') → IsOkOrNoMemory reply
  opens-snapshot n can d =
      by-handle w n _ can
      (λ h at live.
      let a : OpensSnapshot n made (Some (AHandle h)) (state_of w) reply (state_of w') = subst (λ found. OpensSnapshot n made found (state_of w) reply (state_of w')) at d in
      subst IsOkOrNoMemory (sym (a.0).replied) (free-reply _ (a.0).result (λ x at. tt) (snapshot-free h _ _ (a.0).result live (a.0).does)))

  completes-at : (target : Target) → DoesBy (by_catalogue w.stored w.catalogue) settings command target made (state_of w) reply (state_of w') → IsValidAt settings w command.moment command.second (call_of command.action) target → IsOkOrNoMemory reply
  completes-at (NewHandle keeps_log) d can =
      let o = modelled w.catalogue w'.catalogue (d.does).opens in
      subst IsOkOrNoMemory (sym d.replied) (free-reply _ d.result (λ x at. tt) (open-free settings.extractor w w'.faults d.result o.answer ((d.does).segmented w.catalogue w.stored refl refl) (d.does).faults can calm))
  completes-at (NewSnapshot n) d can = opens-snapshot n can d
  completes-at (NewFollower modes.FollowLatest managed skips lag) d can = subst IsOkOrNoMemory (sym (d.0).replied) (follow-reply settings.extractor w w' modes.FollowLatest skips (lag_of lag) (length w.objects) (d.0).result (d.0).does can calm)
  completes-at (NewFollower (modes.Checkpoint id) managed skips lag) d can = subst IsOkOrNoMemory (sym (d.0).replied) (follow-reply settings.extractor w w' (modes.Checkpoint id) skips (lag_of lag) (length w.objects) (d.0).result (d.0).does can calm)
  completes-at (NewFollower modes.ManagedCheckpoint managed skips lag) d can =
      subst IsOkOrNoMemory (sym d.replied) (take-reply settings.extractor w w' made (lifetime_of managed) (interval_of managed) skips (lag_of lag) command.moment (length w.objects) d.result d.does can calm)
  completes-at (NewCheckpoint lifetime) d can =
      let c = d.does in
      let o = modelled w.catalogue w'.catalogue (c.does).objects in
      subst IsOkOrNoMemory (sym c.replied) (free-reply _ c.result (λ x at. tt) (checkpoint-free lifetime command.moment w w'.faults c.result o.answer (c.does).faults can calm))
  completes-at WholeStore d can =
      let c = d.does in
      let o = modelled w.catalogue w'.catalogue (c.does).objects in
      subst IsOkOrNoMemory (sym c.replied) (free-reply _ c.result (λ x at. tt) (sweep-free w w'.catalogue w'.faults command.moment c.result o.answer (c.does).faults can calm))
  completes-at (OfWrite n) d can = subst IsOkOrNoMemory (sym d.1) (asked (slice_get w.writes n) can)
  completes-at (OfObject n) d can = object-completes n (call_of command.action) can d

-- a valid command that meets no fault is refused nothing
pub completes : (settings : Settings) (w : World) (command : Command) (reply : Reply) (w' : World) → IsValid w → AreInSegments settings.extractor w → NextWhole settings w command reply w' → IsValidKind Whole settings w command → (HasRisen w.faults w'.faults → ⊥) → IsOkOrNoMemory reply
completes settings w command reply w' valid segments next can calm = completes-at settings w w' valid segments command next.made reply calm (target_of command.action) next.does can
