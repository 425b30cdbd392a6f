-- A command in which the store's count of faults rises answers that fault.
use Rattle.std.proofs.Common.{◌≡◌, ◌⊎◌, ◌∙◌, inl, inr, ℕ, Bool, true, false, List, Option, Some, None, Result, Ok, Err, refl, sym, subst, ap}
use Rattle.std.specs.List.{slice_get}
use Rattle.slate_types.specs.declared.batches.Batch.{Batch}
use Rattle.slate_types.specs.declared.batches.KeyValue.{KeyValue}
use Rattle.slate_types.specs.declared.read_faults.ReadFault.{ReadFault}
use Rattle.slate_types.specs.declared.store_errors.StoreFault.TheVariants.{Unavailable}
use Rattle.slate_rows.specs.Iteration.{Iteration}
use Rattle.slate_store.specs.Calls.{KeepsFaults}
use Rattle.slate_store.specs.declared.objects.TableId.{TableId}
use Rattle.slate_store.specs.declared.reader_modes.DbReaderMode.TheVariants as modes
use Rattle.slate_errors.specs.Errors.{closed_error}
use Rattle.slate_errors.specs.declared.endings.Ended.{Ended}
use Rattle.slate_errors.specs.declared.endings.TaskName.{TaskName}
use Rattle.slate_errors.specs.declared.errors.SlateError.{SlateError}
use Rattle.slate_errors.specs.declared.errors.SlateError.TheVariants as errors
use Rattle.slate_model.specs.declared.answers.PollAnswer.{PollAnswer}
use Rattle.slate_model.specs.declared.leases.Lease.{Lease}
use Rattle.slate_model.specs.declared.snapshots.HandleSnapshot.{HandleSnapshot}
use Rattle.slate_model.specs.Catalogue.{Span}
use Rattle.slate_model.specs.Close.{closing_flush, ended, recorded_fault}
use Rattle.slate_model.specs.Follow.{built}
use Rattle.slate_model.specs.Follower.{Follower, is_managed, is_pinned}
use Rattle.slate_model.specs.Handle.{CloseResult, Handle}
use Rattle.slate_model.specs.Knowledge.{Knowledge}
use Rattle.slate_model.specs.Known.{Known, Untouched}
use Rattle.slate_model.specs.Lease.{lease_refusal}
use Rattle.slate_follow.proofs.Taken.{counts-on}
use Rattle.slate_model.specs.Managed.{OpensManaged}
use Rattle.slate_model.specs.Object.{Object, Handle as AHandle, Snapshot as ASnapshot, Follower as AFollower}
use Rattle.slate_model.specs.Read.{ReadsUnlessClosed}
use Rattle.slate_model.specs.Stores.{by_catalogue}
use Rattle.slate_script.specs.declared.commands.Command.{Command}
use Rattle.slate_script.specs.declared.replies.Reply.{Reply}
use Rattle.slate_script.specs.declared.replies.Reply.TheVariants as replies
use Rattle.slate_live.specs.declared.states.Write.{Write}
use Rattle.slate_live.specs.Calls.{Call, Write as WriteCall, Merge as MergeCall, Flush, Refresh, Compact, Get, Scan, Seek, Close, Poll, Status, FindTime, FindNumber, Nothing, call_of, at_snapshot, target_of}
use Rattle.slate_live.specs.declared.targets.Target.{Target}
use Rattle.slate_live.specs.declared.targets.Target.TheVariants.{NewHandle, NewSnapshot, NewFollower, NewCheckpoint, WholeStore, OfWrite, OfObject}
use Rattle.slate_live.specs.Commands.{ActsAt, ActsOn, DoesBy, OpensSnapshot, ReadsSnapshot, interval_of, lag_of, lifetime_of}
use Rattle.slate_live.specs.Followers.{ClosesAs, FollowerActs, PollsAs}
use Rattle.slate_live.specs.Handles.{HandleActs}
use Rattle.slate_live.specs.Replies.{IsRead, closed_reply, follower_ended_reply, polled_reply, refusal, reply_to}
use Rattle.slate_live.specs.Represents.{IsValid}
use Rattle.slate_live.specs.Scans.{IsTaken, AnswersTaken}
use Rattle.slate_live.specs.Settings.{Settings}
use Rattle.slate_live.specs.State.{State}
use Rattle.slate_live.specs.Valid.{IsStoreFault}
use Rattle.slate_live.specs.World.{NextWhole, World, state_of}
use Rattle.slate_live.proofs.Cases.{by-option, close-by, compact-by, flush-by, refresh-by, some-of}
use Rattle.slate_live.proofs.Naming.{follower-did, handle-acted}

-- the fault that a call of a failing store answers
abbrev unavailable : SlateError
unavailable = errors.ObjectStoreError Unavailable

-- the count stays as it was, or the reply is a fault of the store
abbrev Shows : ℕ → ℕ → Reply → Type 0
Shows faults faults' reply = (faults' ≡ faults) ⊎ IsStoreFault reply

-- whatever is answered where the count stays
same-count : {A : Type 0} (faults faults' : ℕ) (r : Result A SlateError) → faults' ≡ faults → KeepsFaults unavailable faults faults' r
same-count faults faults' (Ok x) same = same
same-count faults faults' (Err e) same = inl same

shows-refusal : (faults faults' : ℕ) (e : SlateError) (reply : Reply) → (faults' ≡ faults) ⊎ (e ≡ unavailable) → reply ≡ refusal e → Shows faults faults' reply
shows-refusal faults faults' e reply (inl same) replied = inl same
shows-refusal faults faults' e reply (inr fault) replied = inr (subst IsStoreFault (sym (replied ∙ ap refusal fault)) tt)

shows : {A : Type 0} (done : A → Reply) (faults faults' : ℕ) (r : Result A SlateError) (reply : Reply) → KeepsFaults unavailable faults faults' r → reply ≡ reply_to done r → Shows faults faults' reply
shows done faults faults' (Ok x) reply stays replied = inl stays
shows done faults faults' (Err e) reply stays replied = shows-refusal faults faults' e reply stays replied

-- what is taken of a scan
shows-taken : (taken : Iteration → Result (List KeyValue) SlateError) (faults faults' : ℕ) (scan : Result Iteration SlateError) (r : Result (List KeyValue) SlateError) (reply : Reply) → KeepsFaults unavailable faults faults' scan → AnswersTaken taken scan r → reply ≡ reply_to replies.Rows r → Shows faults faults' reply
shows-taken taken faults faults' (Ok it) r reply stays takes replied = inl stays
shows-taken taken faults faults' (Err e) r reply stays takes replied = shows-refusal faults faults' e reply stays (replied ∙ ap (reply_to replies.Rows) takes)

-- a close of a handle, and of a follower that is open
shows-closed : (faults faults' : ℕ) (fault : Option SlateError) (tasks : List TaskName) (reply : Reply) → KeepsFaults unavailable faults faults' (closing_flush fault) → reply ≡ closed_reply fault tasks → Shows faults faults' reply
shows-closed faults faults' None tasks reply stays replied = inl stays
shows-closed faults faults' (Some e) tasks reply (inl same) replied = inl same
shows-closed faults faults' (Some e) tasks reply (inr fault) replied = inr (subst IsStoreFault (sym (replied ∙ ap (λ e. closed_reply (Some e) tasks) fault)) tt)

shows-ended : (faults faults' : ℕ) (fault : Option SlateError) (tasks : List TaskName) (reply : Reply) → KeepsFaults unavailable faults faults' (closing_flush fault) → reply ≡ replies.Ended fault tasks → Shows faults faults' reply
shows-ended faults faults' None tasks reply stays replied = inl stays
shows-ended faults faults' (Some e) tasks reply (inl same) replied = inl same
shows-ended faults faults' (Some e) tasks reply (inr fault) replied = inr (subst IsStoreFault (sym (replied ∙ ap (λ e. replies.Ended (Some e) tasks) fault)) tt)

built-stays : (faults faults' : ℕ) (f : Follower) (r : Result PollAnswer SlateError) → KeepsFaults unavailable faults faults' (built f r) → KeepsFaults unavailable faults faults' r
built-stays faults faults' f (Ok a) stays = stays
built-stays faults faults' f (Err e) stays = stays

module _ (settings : Settings) (w : World) (valid : IsValid w) (command : Command) (made : ℕ) (reply : Reply) (s' : State Span) where
  abbrev k : Knowledge Span
  k = by_catalogue w.stored w.catalogue

  abbrev before : Known Span
  before = (state_of w).store

  abbrev Answers : Type 0
  Answers = Shows w.faults s'.store.faults reply

  abbrev Stays : {A : Type 0} → Result A SlateError → Type 0
  Stays r = KeepsFaults unavailable w.faults s'.store.faults r

  count-same : s'.store ≡ before → s'.store.faults ≡ w.faults
  count-same same = ap (λ (s : Known Span). s.faults) same

  as-before : s'.store ≡ before → Answers
  as-before same = inl (count-same same)

  state-before : s' ≡ state_of w → Answers
  state-before same = as-before (ap (λ (s : State Span). s.store) same)

  uncalled : {A : Type 0} (r : Result A SlateError) → s'.store ≡ before → Stays r
  uncalled r same = same-count w.faults s'.store.faults r (count-same same)

  read : {A : Type 0} {has : List Batch → Type 0} {P : List Batch → Result A ReadFault → Type 0} (closed : CloseResult) (tables : List TableId) (r : Result A SlateError) → ReadsUnlessClosed closed tables has P before r s'.store → Stays r
  read closed tables r s =
      by-option closed
      (λ live. ((s.read live).faults).stays)
      (λ q shut. uncalled r (some-of (λ q. (r ≡ Err (closed_error q)) × (s'.store ≡ before)) closed q shut s.closed).1)

  found : {A : Type 0} {has : List Batch → Type 0} {P : List Batch → Result A ReadFault → Type 0} (done : A → Reply) (closed : CloseResult) (tables : List TableId) → IsRead done closed tables has P before reply s'.store → Answers
  found done closed tables i = shows done w.faults s'.store.faults i.result reply (read closed tables i.result i.does) i.replied

  taken : {has : List Batch → Type 0} {P : List Batch → Iteration → Type 0} (closed : CloseResult) (tables : List TableId) (takes : Iteration → Result (List KeyValue) SlateError) → IsTaken closed tables has P takes before reply s'.store → Answers
  taken closed tables takes i = shows-taken takes w.faults s'.store.faults i.scan i.result reply (read closed tables i.scan i.scans) i.takes i.replied

  -- ---- what a handle does
  handle-shows : (n : ℕ) (call : Call) (h h' : Handle) (writes' : List Write) → HandleActs k settings n command.moment command.second call made h before w.writes reply h' s'.store writes' → Answers
  handle-shows n (WriteCall ops) h h' writes' a = as-before a.1.1
  handle-shows n (MergeCall op) h h' writes' a = as-before a.1.1
  handle-shows n (Flush t) h h' writes' a =
      shows _ w.faults s'.store.faults (a.0).result reply
      (flush-by k made h before h' s'.store (Stays (a.0).result) _ (a.0).result (a.0).does
      (λ q shut error same u. uncalled (a.0).result u.1)
      (λ live without error same u. uncalled (a.0).result u.1)
      (λ can flushes s. (s.faults).stays))
      (a.0).replied
  handle-shows n (Close t) h h' writes' a =
      let e = (a.0).ended in
      shows-closed w.faults s'.store.faults e.fault e.tasks reply
      (close-by k made h before h' s'.store (Stays (closing_flush e.fault)) _ e (a.0).does
      (λ q shut error same u. uncalled (closing_flush e.fault) u.1)
      (λ live none error same u. uncalled (closing_flush e.fault) u.1)
      (λ t live some without error same u. uncalled (closing_flush e.fault) u.1)
      (λ t can some tasks flushes s. (s.faults).stays))
      (a.0).replied
  handle-shows n Refresh h h' writes' a =
      shows _ w.faults s'.store.faults (a.0).result reply
      (refresh-by k 0 h before h' s'.store (Stays (a.0).result) (a.0).result (a.0).does
      (λ q shut error same store. uncalled (a.0).result store)
      (λ live reads. (reads.faults).stays))
      (a.0).replied
  handle-shows n Compact h h' writes' a =
      shows _ w.faults s'.store.faults (a.0).result reply
      (compact-by k made h before h' s'.store (Stays (a.0).result) (a.0).result (a.0).does
      (λ q shut error same u. uncalled (a.0).result u.1)
      (λ live joins. (joins.faults).stays))
      (a.0).replied
  handle-shows n (Get key remote snapshot) h h' writes' a = found _ h.result h.view.manifest.tables a.0
  handle-shows n (Scan range order remote snapshot) h h' writes' a = taken h.result h.view.manifest.tables _ a.0
  handle-shows n (Seek range take key order remote snapshot) h h' writes' a = taken h.result h.view.manifest.tables _ a.0
  handle-shows n Poll h h' writes' a = as-before a.2.1
  handle-shows n Status h h' writes' a = as-before a.2.1
  handle-shows n (FindTime number find) h h' writes' a = as-before a.2.1
  handle-shows n (FindNumber seconds find) h h' writes' a = as-before a.2.1
  handle-shows n Nothing h h' writes' a = as-before a.2.1

  handle-acts : (n : ℕ) (call : Call) (h : Handle) → ActsAt k settings n command call made (AHandle h) (state_of w) reply s' → Answers
  handle-acts n call h a = let d = handle-acted k settings n command call made (state_of w) reply s' h a in handle-shows n call h d.new s'.writes d.acts

  snapshot-acts : (x : HandleSnapshot) (call : Call) (object : Option Object) → ReadsSnapshot k settings x command call made object (state_of w) reply s' → Answers
  snapshot-acts x call (Some (AHandle h)) a = handle-acts x.handle (at_snapshot x.number call) h a
  snapshot-acts x call (Some (ASnapshot y)) a = state-before a.2
  snapshot-acts x call (Some (AFollower f)) a = state-before a.2
  snapshot-acts x call None a = state-before a.2

  -- ---- what a follower does
  module _ (n : ℕ) (f f' : Follower) (at : slice_get w.objects n ≡ Some (AFollower f)) where
    leased-of : {G : Type 0} → is_managed f.mode ≡ true → f.result ≡ None → ((lease : Lease) → f.lease ≡ Some lease → G) → G
    leased-of managed live done = by-option f.lease (λ none. absurd (let there = (valid.followers n f at).2 managed live in cc)) done

    polled : (r : Result PollAnswer SlateError) (managed : Bool) → is_managed f.mode ≡ managed → PollsAs k settings.extractor managed made command.moment f before r f' s'.store → Stays r
    polled r true managed p =
        by-option f.result
        (λ live. leased-of managed live (λ lease has. elim (p.keeps lease live has) [
          | inl once ↦ ((once.round).faults).stays
          | inr twice ↦ (counts-on w.faults (twice.between).faults s'.store.faults r ((twice.round).faults).stays twice.faults).stays
        ]))
        (λ q shut. uncalled r (some-of (λ q. (r ≡ Err (closed_error q)) × (f' ≡ f) × Untouched made before s'.store) f.result q shut p.closed).2.1)
    polled r false unmanaged (p, none) =
        by-option f.result
        (λ live. by live (is_pinned f.mode) refl)
        (λ q shut. uncalled r (some-of (λ q. (r ≡ Err (closed_error q)) × (s'.store ≡ before)) f.result q shut p.closed).1) where
          by : f.result ≡ None → (pinned : Bool) → is_pinned f.mode ≡ pinned → Stays r
          by live true stays = uncalled r (p.pinned live stays).2
          by live false free = built-stays w.faults s'.store.faults f' r ((p.rebuilds live free).faults).stays

    closed-shows : (answer : Ended) (managed : Bool) → is_managed f.mode ≡ managed → ClosesAs k managed made f before answer f' s'.store → reply ≡ follower_ended_reply f.result answer → Answers
    closed-shows answer true managed c replied =
        by-option f.result
        (λ live. leased-of managed live (λ lease has.
        shows-ended w.faults s'.store.faults answer.fault answer.tasks reply ((c.ends lease live has).faults).stays (replied ∙ ap (λ was. follower_ended_reply was answer) live)))
        (λ q shut. as-before (some-of (λ _. (answer ≡ ended f.tasks (recorded_fault f.result)) × Untouched made before s'.store) f.result q shut c.again).1.1)
    closed-shows answer false unmanaged c replied = as-before c.2.1

    follower-shows : (call : Call) → FollowerActs k settings command.moment call made f before w.writes reply f' s'.store s'.writes → Answers
    follower-shows Poll a = shows polled_reply w.faults s'.store.faults (a.0).result reply (polled (a.0).result (is_managed f.mode) refl (a.0).does) (a.0).replied
    follower-shows (Close t) a = closed-shows (a.0).answer (is_managed f.mode) refl (a.0).does (a.0).replied
    follower-shows (Get key remote snapshot) a = found _ f.result f.view.manifest.tables a.0
    follower-shows (Scan range order remote snapshot) a = taken f.result f.view.manifest.tables _ a.0
    follower-shows (Seek range take key order remote snapshot) a = taken f.result f.view.manifest.tables _ a.0
    follower-shows (WriteCall ops) a = as-before a.2.1
    follower-shows (MergeCall op) a = as-before a.2.1
    follower-shows (Flush t) a = as-before a.2.1
    follower-shows Refresh a = as-before a.2.1
    follower-shows Compact a = as-before a.2.1
    follower-shows Status a = as-before a.2.1
    follower-shows (FindTime number find) a = as-before a.2.1
    follower-shows (FindNumber seconds find) a = as-before a.2.1
    follower-shows Nothing a = as-before a.2.1

  on-shows : (n : ℕ) (object : Option Object) → slice_get w.objects n ≡ object → ActsOn k settings n command (call_of command.action) made object (state_of w) reply s' → Answers
  on-shows n None at a = state-before a.2
  on-shows n (Some (AHandle h)) at a = handle-acts n (call_of command.action) h a
  on-shows n (Some (ASnapshot x)) at a = snapshot-acts x (call_of command.action) (slice_get w.objects x.handle) a
  on-shows n (Some (AFollower f)) at a =
      let d = follower-did k settings n command (call_of command.action) made (state_of w) reply s' (Some (AFollower f)) f refl a in
      follower-shows n f d.new at (call_of command.action) d.acts

  opened-shows : (n : ℕ) (object : Option Object) → OpensSnapshot n made object (state_of w) reply s' → Answers
  opened-shows n (Some (AHandle h)) d = as-before ((d.0).does).1
  opened-shows n (Some (ASnapshot x)) d = state-before d.2
  opened-shows n (Some (AFollower f)) d = state-before d.2
  opened-shows n None d = state-before d.2

  -- an opening of a reader that keeps a checkpoint
  took-stays : (lifetime interval : ℕ) (skips : Bool) (lag : ℕ) (r : Result (Follower × PollAnswer) SlateError) → OpensManaged k settings.extractor made lifetime interval skips lag command.moment before r s'.store → Stays r
  took-stays lifetime interval skips lag r d =
      by-option (lease_refusal lifetime interval)
      (λ none. ((d.takes none).faults).stays)
      (λ error refused. uncalled r (some-of (λ error. (r ≡ Err error) × Untouched made before s'.store) (lease_refusal lifetime interval) error refused d.refused).1.1)

  shows-by : (target : Target) → DoesBy k settings command target made (state_of w) reply s' → Answers
  shows-by (NewHandle keeps_log) d = shows _ w.faults s'.store.faults d.result reply ((d.does).faults).stays d.replied
  shows-by (NewSnapshot n) d = opened-shows n (slice_get w.objects n) d
  shows-by (NewFollower modes.FollowLatest managed skips lag) d = shows _ w.faults s'.store.faults (d.0).result reply (((d.0).does).faults).stays (d.0).replied
  shows-by (NewFollower (modes.Checkpoint id) managed skips lag) d = shows _ w.faults s'.store.faults (d.0).result reply (((d.0).does).faults).stays (d.0).replied
  shows-by (NewFollower modes.ManagedCheckpoint managed skips lag) d =
      shows _ w.faults s'.store.faults d.result reply (took-stays (lifetime_of managed) (interval_of managed) skips (lag_of lag) d.result d.does) d.replied
  shows-by (NewCheckpoint lifetime) d = let c = d.does in shows _ w.faults s'.store.faults c.result reply ((c.does).faults).stays c.replied
  shows-by WholeStore d = let c = d.does in shows _ w.faults s'.store.faults c.result reply ((c.does).faults).stays c.replied
  shows-by (OfWrite n) d = state-before d.2
  shows-by (OfObject n) d = on-shows n (slice_get w.objects n) refl d

-- a command in which the count rises answers a fault of the store
pub answers-faults : (settings : Settings) (w : World) (command : Command) (reply : Reply) (w' : World) → IsValid w → NextWhole settings w command reply w' → (w'.faults ≡ w.faults) ⊎ IsStoreFault reply
answers-faults settings w command reply w' valid next = shows-by settings w valid command next.made reply (state_of w') (target_of command.action) next.does
