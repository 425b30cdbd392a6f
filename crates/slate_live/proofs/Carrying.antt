-- What each command carries on of the latest manifest, in what a world knows of the store.
use Rattle.std.proofs.Common.{◌≡◌, ◌++◌, ◌∷◌, ◌∙◌, [], inl, inr, suc, ℕ, ℤ, Bool, true, false, cond, List, map, Option, Some, None, Result, Ok, Err, refl, sym, subst, ap}
use Rattle.std.specs.List.{slice_get}
use Rattle.slate_types.specs.declared.options.FlushType.{FlushType}
use Rattle.slate_types.specs.declared.batches.Batch.{Batch}
use Rattle.slate_types.specs.declared.read_faults.ReadFault.{ReadFault}
use Rattle.slate_store.proofs.Carried.{Carry}
use Rattle.slate_store.specs.Changes.{after_part}
use Rattle.slate_store.specs.Checkpoints.{Plan, new_checkpoint, puts_next, to_delete, to_refresh, to_write, with_checkpoints}
use Rattle.slate_store.specs.declared.refusals.StoreRefusal.TheVariants as refusals
use Rattle.slate_model.specs.Write.{last_number}
use Rattle.std.specs.Prelude.{nat_lt}
use Rattle.slate_store.specs.Compaction.{compact_changes_by, with_table}
use Rattle.slate_store.specs.Content.{IdsRise}
use Rattle.slate_store.specs.Objects.{ChangeOf, PutManifest, latest_manifest}
use Rattle.slate_store.specs.Refusals.{checkpoint_changes, planned as planned_of, planned_after}
use Rattle.slate_store.specs.Sweeps.{sweep_changes_by, without_expired}
use Rattle.slate_store.specs.declared.objects.Checkpoint.{Checkpoint}
use Rattle.slate_store.specs.declared.objects.Manifest.{Manifest}
use Rattle.slate_store.specs.declared.objects.TableId.{TableId}
use Rattle.slate_store.specs.declared.objects.VersionedManifest.{VersionedManifest}
use Rattle.slate_store.specs.declared.reader_modes.DbReaderMode.TheVariants as modes
use Rattle.slate_errors.specs.Errors.{closed_error}
use Rattle.slate_errors.specs.declared.endings.Ended.{Ended}
use Rattle.slate_errors.specs.declared.errors.SlateError.{SlateError}
use Rattle.slate_model.specs.declared.answers.PollAnswer.{PollAnswer}
use Rattle.slate_model.specs.declared.leases.Lease.{Lease}
use Rattle.slate_model.specs.declared.snapshots.HandleSnapshot.{HandleSnapshot}
use Rattle.slate_model.specs.Catalogue.{Catalogue, Span}
use Rattle.slate_model.specs.Close.{ended, recorded_fault}
use Rattle.slate_model.specs.Flush.{flush_changes_by, next_flushed}
use Rattle.slate_model.specs.Follower.{Follower, is_managed, is_pinned}
use Rattle.slate_model.specs.Handle.{CloseResult, Handle, has_untabled}
use Rattle.slate_model.specs.Knowledge.{Knowledge}
use Rattle.slate_model.specs.Known.{Known, Untouched}
use Rattle.slate_model.specs.Lease.{lease_refusal, leased, to_keep, to_take}
use Rattle.slate_model.specs.Managed.{OpensManaged, PollsTwice}
use Rattle.slate_model.proofs.Rounds.{rounds, took}
use Rattle.slate_model.specs.Object.{Object, Handle as AHandle, Snapshot as ASnapshot, Follower as AFollower}
use Rattle.slate_model.specs.Open.{next_manifest}
use Rattle.slate_model.specs.Read.{ReadsUnlessClosed}
use Rattle.slate_model.specs.Segments.{extractor_name}
use Rattle.slate_model.specs.Stores.{by_catalogue}
use Rattle.slate_model.proofs.Carrying.{compact-carries, flush-carries, open-carries, plan-carries, sweep-carries}
use Rattle.slate_model.proofs.Leased.{leased-is}
use Rattle.slate_model.proofs.Maintained.{Recheckpoints, delete-recheckpoints, refresh-recheckpoints, write-recheckpoints}
use Rattle.slate_model.proofs.Reduced.{some-same}
use Rattle.slate_model.proofs.Planned.{keep-recheckpoints, take-recheckpoints}
use Rattle.slate_script.specs.declared.commands.Command.{Command}
use Rattle.slate_script.specs.declared.replies.Reply.{Reply}
use Rattle.slate_live.specs.declared.states.Write.{Write}
use Rattle.slate_live.specs.Calls.{Call, Write as WriteCall, Merge as MergeCall, Flush, Refresh, Compact, Get, Scan, Seek, Close, Poll, Status, FindTime, FindNumber, Nothing, call_of, at_snapshot, target_of}
use Rattle.slate_live.specs.declared.targets.Target.{Target}
use Rattle.slate_live.specs.declared.targets.Target.TheVariants.{NewHandle, NewSnapshot, NewFollower, NewCheckpoint, WholeStore, OfWrite, OfObject}
use Rattle.slate_live.specs.Commands.{ActsAt, ActsOn, DoesBy, OpensSnapshot, ReadsSnapshot, interval_of, lag_of, lifetime_of}
use Rattle.slate_live.specs.Followers.{ClosesAs, FollowerActs, PollsAs}
use Rattle.slate_live.specs.Handles.{HandleActs}
use Rattle.slate_live.specs.Represents.{IsValid}
use Rattle.slate_live.specs.Settings.{Settings}
use Rattle.slate_live.specs.State.{State}
use Rattle.slate_live.specs.World.{World, state_of}
use Rattle.slate_live.proofs.Cases.{by-option, close-by, compact-by, flush-by, refresh-by, some-of}
use Rattle.slate_live.proofs.Naming.{follower-did, handle-acted}

-- what a plan puts that puts a manifest
pub put-is : {A : Type 0} (latest put : VersionedManifest) (x : A) (next : VersionedManifest) (answer : A) → puts_next latest put x ≡ Ok (Some next, answer) → put ≡ next
put-is {A} latest put x next answer gives = by (nat_lt latest.id last_number) gives where
  by : (b : Bool) → cond {A = Plan A} b (Ok (Some put, x)) (Err refusals.InvalidDBState) ≡ Ok (Some next, answer) → put ≡ next
  by true gives =
      let both : ◌≡◌ {A = Option VersionedManifest × A} (Some put, x) (Some next, answer) = cc in
      some-same put next (ap (λ (p : Option VersionedManifest × A). p.0) both)
  by false gives = absurd (cc)

-- the plan of an opening takes a new checkpoint
pub taken-is : (lifetime : ℕ) (moment : ℤ) (latest : VersionedManifest) (given : Option VersionedManifest × Lease) → to_take lifetime moment latest ≡ Ok given → leased lifetime (to_write None (Some lifetime) moment latest) ≡ Ok given
taken-is lifetime moment latest given gives = by latest.manifest.initialized _ gives where
  by : (b : Bool) (plan : Plan Lease) → cond b plan (Err refusals.InvalidDBState) ≡ Ok given → plan ≡ Ok given
  by true plan gives = gives
  by false plan gives = absurd (cc)

-- What a latest manifest has, the manifests have that a command may put after it: one that names a table more, or one table in
-- place of all, one of an opening, one without the checkpoints that have expired where it sweeps, one with a checkpoint more, the
-- one of the plan of the reader that it polls or closes, and one more that renews a lease that such a poll took.
pub record Spares (P : Manifest → Type 0) (w : World) (latest : VersionedManifest) (command : Command) : Type 0 where
  pub kept : P latest.manifest
  pub flushed : (handle : Handle) (last : ℕ) → has_untabled handle latest.manifest ≡ true → P (next_flushed handle latest last).manifest
  pub compacted : (id : TableId) → P (with_table id latest).manifest
  pub opened : (name : Option (List ℕ)) (last : ℕ) → P (next_manifest name (Some latest) last).manifest
  pub swept : target_of command.action ≡ WholeStore → P (without_expired command.moment latest).manifest
  pub added : (checkpoint : Checkpoint) → P (with_checkpoints (latest.manifest.checkpoints ++ checkpoint ∷ []) latest).manifest
  pub polled : (n : ℕ) (f : Follower) (lease given : Lease) (next : VersionedManifest) → target_of command.action ≡ OfObject n → call_of command.action ≡ Poll → slice_get w.objects n ≡ Some (AFollower f) → f.lease ≡ Some lease →
      to_keep f.view lease command.moment latest ≡ Ok (Some next, given) → P next.manifest
  pub renewed : (n : ℕ) (f : Follower) (lease given : Lease) (next again : VersionedManifest) (checkpoint : Checkpoint) → target_of command.action ≡ OfObject n → call_of command.action ≡ Poll → slice_get w.objects n ≡ Some (AFollower f) → f.lease ≡ Some lease →
      leased lease.lifetime (to_write (Some lease.id) (Some lease.lifetime) command.moment latest) ≡ Ok (Some next, given) → P next.manifest → to_refresh given.id given.lifetime command.moment next ≡ Ok (Some again, checkpoint) → P again.manifest
  pub closed : (n : ℕ) (f : Follower) (lease : Lease) (next : VersionedManifest) (flush_type : Option FlushType) → target_of command.action ≡ OfObject n → call_of command.action ≡ Close flush_type → slice_get w.objects n ≡ Some (AFollower f) → f.result ≡ None → f.lease ≡ Some lease →
      to_delete lease.id latest ≡ Ok (Some next, tt) → P next.manifest

module _ (P : Manifest → Type 0) (settings : Settings) (w : World) (valid : IsValid w) (latest : VersionedManifest) (rising : IdsRise (map (λ e. e.0) w.catalogue.manifests)) (is : latest_manifest w.catalogue ≡ Some latest)
    (command : Command) (spares : Spares P w latest command) (made : ℕ) (reply : Reply) (s' : State Span) where
  abbrev k : Knowledge Span
  k = by_catalogue w.stored w.catalogue

  -- the changes that the command made, and that they carry it on
  pub record Changes : Type 0 where
    pub all : List (ChangeOf Span)
    pub part : ℕ
    pub after : s'.store.objects ≡ Some (after_part part all w.catalogue)
    pub carry : Carry P latest.id all

  unchanged : s'.store.objects ≡ Some w.catalogue → Changes
  unchanged same = record { all = []; part = 0; after = same; carry = tt }

  as-before : s'.store ≡ (state_of w).store → Changes
  as-before same = unchanged (ap (λ (k : Known Span). k.objects) same)

  state-before : s' ≡ state_of w → Changes
  state-before same = as-before (ap (λ (s : State Span). s.store) same)

  changes : (all : List (ChangeOf Span)) (after : Catalogue) → s'.store.objects ≡ Some after → after ≡ after_part made all w.catalogue → Carry P latest.id all → Changes
  changes all after there made_is carry = record { all = all; part = made; after = there ∙ ap Some made_is; carry = carry }

  -- ---- the changes of each operation
  flushed : (t : FlushType) (h : Handle) → Carry P latest.id (flush_changes_by k.summary t h w.catalogue (latest_manifest w.catalogue))
  flushed t h = subst (λ found. Carry P latest.id (flush_changes_by k.summary t h w.catalogue found)) (sym is) (flush-carries P k.summary t h latest _ (spares.flushed h _))

  compacted : (id : TableId) → Carry P latest.id (compact_changes_by k.joined id w.catalogue (latest_manifest w.catalogue))
  compacted id = subst (λ found. Carry P latest.id (compact_changes_by k.joined id w.catalogue found)) (sym is) (compact-carries P k.joined id w.catalogue latest (spares.compacted id))

  planned : {A : Type 0} (plan : VersionedManifest → Plan A) → Recheckpoints latest (plan latest) → ((next : VersionedManifest) (answer : A) → plan latest ≡ Ok (Some next, answer) → P next.manifest) → Carry P latest.id (checkpoint_changes {L = Span} plan w.catalogue)
  planned plan puts has = subst (λ found. Carry {L = Span} P latest.id (planned_after plan found)) (sym is) (plan-carries Span P latest (plan latest) puts has)

  -- a plan that adds a checkpoint
  added : (lifetime : Option ℕ) (next : VersionedManifest) (answer : Checkpoint) → to_write None lifetime command.moment latest ≡ Ok (Some next, answer) → P next.manifest
  added lifetime next answer gives =
      let checkpoint = new_checkpoint latest lifetime command.moment in
      let next_is = put-is latest (with_checkpoints (latest.manifest.checkpoints ++ checkpoint ∷ []) latest) checkpoint next answer gives in
      subst (λ (n : VersionedManifest). P n.manifest) next_is (spares.added checkpoint)

  taken : (lifetime : ℕ) (next : VersionedManifest) (given : Lease) → to_take lifetime command.moment latest ≡ Ok (Some next, given) → P next.manifest
  taken lifetime next given gives =
      let plan = leased-is lifetime (to_write None (Some lifetime) command.moment latest) (Some next) given (taken-is lifetime command.moment latest (Some next, given) gives) in
      added (Some lifetime) next plan.0 plan.1

  read : {A : Type 0} {has : List Batch → Type 0} {P : List Batch → Result A ReadFault → Type 0} (closed : CloseResult) (tables : List TableId) (r : Result A SlateError) → ReadsUnlessClosed closed tables has P (state_of w).store r s'.store → Changes
  read closed tables r s =
      by-option closed
      (λ live. unchanged (s.read live).kept)
      (λ q shut. as-before (some-of (λ q. (r ≡ Err (closed_error q)) × (s'.store ≡ (state_of w).store)) closed q shut s.closed).1)

  -- ---- what a handle does
  handle-made : (n : ℕ) (call : Call) (h h' : Handle) (writes' : List Write) → HandleActs k settings n command.moment command.second call made h (state_of w).store w.writes reply h' s'.store writes' → Changes
  handle-made n (WriteCall ops) h h' writes' a = as-before a.1.1
  handle-made n (MergeCall op) h h' writes' a = as-before a.1.1
  handle-made n (Flush t) h h' writes' a =
      flush-by k made h (state_of w).store h' s'.store Changes _ (a.0).result (a.0).does
      (λ q shut error same u. as-before u.1)
      (λ live without error same u. as-before u.1)
      (λ can flushes s. let t = (s.objects).some w.catalogue refl in changes _ t.0 t.1 (t.2).after (flushed _ h))
  handle-made n (Close t) h h' writes' a =
      close-by k made h (state_of w).store h' s'.store Changes _ (a.0).ended (a.0).does
      (λ q shut error same u. as-before u.1)
      (λ live none error same u. as-before u.1)
      (λ t live some without error same u. as-before u.1)
      (λ t can some tasks flushes s. let t = (s.objects).some w.catalogue refl in changes _ t.0 t.1 (t.2).after (flushed _ h))
  handle-made n Refresh h h' writes' a =
      refresh-by k 0 h (state_of w).store h' s'.store Changes (a.0).result (a.0).does
      (λ q shut error same store. as-before store)
      (λ live reads. unchanged reads.kept)
  handle-made n Compact h h' writes' a =
      compact-by k made h (state_of w).store h' s'.store Changes (a.0).result (a.0).does
      (λ q shut error same u. as-before u.1)
      (λ live joins. let t = (joins.objects).some w.catalogue refl in changes _ t.0 t.1 (t.2).after (compacted _))
  handle-made n (Get key remote snapshot) h h' writes' a = read h.result h.view.manifest.tables (a.0).result (a.0).does
  handle-made n (Scan range order remote snapshot) h h' writes' a = read h.result h.view.manifest.tables (a.0).scan (a.0).scans
  handle-made n (Seek range take key order remote snapshot) h h' writes' a = read h.result h.view.manifest.tables (a.0).scan (a.0).scans
  handle-made n Poll h h' writes' a = as-before a.2.1
  handle-made n Status h h' writes' a = as-before a.2.1
  handle-made n (FindTime number find) h h' writes' a = as-before a.2.1
  handle-made n (FindNumber seconds find) h h' writes' a = as-before a.2.1
  handle-made n Nothing h h' writes' a = as-before a.2.1

  handle-acts : (n : ℕ) (call : Call) (h : Handle) → ActsAt k settings n command call made (AHandle h) (state_of w) reply s' → Changes
  handle-acts n call h a = let d = handle-acted k settings n command call made (state_of w) reply s' h a in handle-made n call h d.new s'.writes d.acts

  snapshot-acts : (x : HandleSnapshot) (call : Call) (found : Option Object) → ReadsSnapshot k settings x command call made found (state_of w) reply s' → Changes
  snapshot-acts x call (Some (AHandle h)) a = handle-acts x.handle (at_snapshot x.number call) h a
  snapshot-acts x call (Some (ASnapshot y)) a = state-before a.2
  snapshot-acts x call (Some (AFollower f)) a = state-before a.2
  snapshot-acts x call None a = state-before a.2

  -- ---- what a follower does
  module _ (n : ℕ) (f f' : Follower) (names : target_of command.action ≡ OfObject n) (at : slice_get w.objects n ≡ Some (AFollower f)) where
    leased-of : {G : Type 0} → is_managed f.mode ≡ true → f.result ≡ None → ((lease : Lease) → f.lease ≡ Some lease → G) → G
    leased-of managed live done = by-option f.lease (λ none. absurd (let there = (valid.followers n f at).2 managed live in cc)) done

    -- a round and a renewal
    twice-made : (lease : Lease) → f.lease ≡ Some lease → (r : Result PollAnswer SlateError) → call_of command.action ≡ Poll → PollsTwice k settings.extractor made lease command.moment f (state_of w).store r f' s'.store → Changes
    twice-made lease has r asks p =
        let took_it = took k settings.extractor made lease command.moment f w.catalogue w.faults r f' s'.store p in
        let both = rounds k settings.extractor made lease command.moment f w.catalogue w.faults r f' s'.store p rising in
        let view = (p.middle).view in
        let same : took_it.latest ≡ latest = some-same took_it.latest latest (sym took_it.is ∙ is) in
        let gives = subst (λ v. to_keep f.view lease command.moment v ≡ Ok (Some view, p.given)) same took_it.gives in
        let written = subst (λ v. leased lease.lifetime (to_write (Some lease.id) (Some lease.lifetime) command.moment v) ≡ Ok (Some view, p.given)) same took_it.written in
        let its : Recheckpoints {A = Lease} latest (Ok (Some view, p.given)) = subst (λ q. Recheckpoints latest q) gives (keep-recheckpoints f.view lease command.moment latest) in
        let holds = spares.polled n f lease p.given view names asks at has gives in
        let again = to_refresh (p.given).id (p.given).lifetime command.moment view in
        let carried = plan-carries Span P view again (refresh-recheckpoints (p.given).id (p.given).lifetime command.moment view)
        (λ next checkpoint gives. spares.renewed n f lease p.given view next checkpoint names asks at has written holds gives) in
        record {
          all = PutManifest view.id view.manifest ∷ planned_of again;
          part = suc p.again;
          after = both.there_last ∙ ap Some (both.renews.after ∙ ap (after_part p.again (planned_of again)) both.put);
          carry = (ap (λ (v : VersionedManifest). v.id) its.1, holds, carried);
        }

    polled-made : (r : Result PollAnswer SlateError) (managed : Bool) → is_managed f.mode ≡ managed → call_of command.action ≡ Poll → PollsAs k settings.extractor managed made command.moment f (state_of w).store r f' s'.store → Changes
    polled-made r true managed asks p =
        by-option f.result
        (λ live. leased-of managed live (λ lease has. elim (p.keeps lease live has) [
          | inl once ↦
              let t = ((once.round).puts).some w.catalogue refl in
              changes _ t.0 t.1 (t.2).after (planned (to_keep f.view lease command.moment) (keep-recheckpoints f.view lease command.moment latest) (λ next given gives. spares.polled n f lease given next names asks at has gives))
          | inr twice ↦ twice-made lease has r asks twice
        ]))
        (λ q shut. as-before (some-of (λ q. (r ≡ Err (closed_error q)) × (f' ≡ f) × Untouched made (state_of w).store s'.store) f.result q shut p.closed).2.1)
    polled-made r false unmanaged asks (p, none) =
        by-option f.result
        (λ live. by live (is_pinned f.mode) refl)
        (λ q shut. as-before (some-of (λ q. (r ≡ Err (closed_error q)) × (s'.store ≡ (state_of w).store)) f.result q shut p.closed).1) where
          by : f.result ≡ None → (pinned : Bool) → is_pinned f.mode ≡ pinned → Changes
          by live true stays = as-before (p.pinned live stays).2
          by live false free = unchanged (p.rebuilds live free).kept

    closed-made : (answer : Ended) (managed : Bool) (flush_type : Option FlushType) → call_of command.action ≡ Close flush_type → is_managed f.mode ≡ managed → ClosesAs k managed made f (state_of w).store answer f' s'.store → Changes
    closed-made answer true flush_type asks managed c =
        by-option f.result
        (λ live. leased-of managed live (λ lease has.
        let t = ((c.ends lease live has).puts).some w.catalogue refl in
        changes _ t.0 t.1 (t.2).after (planned (to_delete lease.id) (delete-recheckpoints lease.id latest) (λ next answer gives. spares.closed n f lease next flush_type names asks at live has gives))))
        (λ q shut. as-before (some-of (λ _. (answer ≡ ended f.tasks (recorded_fault f.result)) × Untouched made (state_of w).store s'.store) f.result q shut c.again).1.1)
    closed-made answer false flush_type asks unmanaged c = as-before c.2.1

    follower-made : (call : Call) → call_of command.action ≡ call → FollowerActs k settings command.moment call made f (state_of w).store w.writes reply f' s'.store s'.writes → Changes
    follower-made Poll asks a = polled-made (a.0).result (is_managed f.mode) refl asks (a.0).does
    follower-made (Close t) asks a = closed-made (a.0).answer (is_managed f.mode) t asks refl (a.0).does
    follower-made (Get key remote snapshot) asks a = read f.result f.view.manifest.tables (a.0).result (a.0).does
    follower-made (Scan range order remote snapshot) asks a = read f.result f.view.manifest.tables (a.0).scan (a.0).scans
    follower-made (Seek range take key order remote snapshot) asks a = read f.result f.view.manifest.tables (a.0).scan (a.0).scans
    follower-made (WriteCall ops) asks a = as-before a.2.1
    follower-made (MergeCall op) asks a = as-before a.2.1
    follower-made (Flush t) asks a = as-before a.2.1
    follower-made Refresh asks a = as-before a.2.1
    follower-made Compact asks a = as-before a.2.1
    follower-made Status asks a = as-before a.2.1
    follower-made (FindTime number find) asks a = as-before a.2.1
    follower-made (FindNumber seconds find) asks a = as-before a.2.1
    follower-made Nothing asks a = as-before a.2.1

  on-made : (n : ℕ) (found : Option Object) → target_of command.action ≡ OfObject n → slice_get w.objects n ≡ found → ActsOn k settings n command (call_of command.action) made found (state_of w) reply s' → Changes
  on-made n None names at a = state-before a.2
  on-made n (Some (AHandle h)) names at a = handle-acts n (call_of command.action) h a
  on-made n (Some (ASnapshot x)) names at a = snapshot-acts x (call_of command.action) (slice_get w.objects x.handle) a
  on-made n (Some (AFollower f)) names at a =
      let d = follower-did k settings n command (call_of command.action) made (state_of w) reply s' (Some (AFollower f)) f refl a in
      follower-made n f d.new names at (call_of command.action) refl d.acts

  opened-made : (n : ℕ) (found : Option Object) → OpensSnapshot n made found (state_of w) reply s' → Changes
  opened-made n (Some (AHandle h)) d = as-before ((d.0).does).1
  opened-made n (Some (ASnapshot x)) d = state-before d.2
  opened-made n (Some (AFollower f)) d = state-before d.2
  opened-made n None d = state-before d.2

  -- an opening of a reader that keeps a checkpoint
  took-made : (lifetime interval : ℕ) (skips : Bool) (lag : ℕ) (r : Result (Follower × PollAnswer) SlateError) → OpensManaged k settings.extractor made lifetime interval skips lag command.moment (state_of w).store r s'.store → Changes
  took-made lifetime interval skips lag r d =
      by-option (lease_refusal lifetime interval)
      (λ none. let t = ((d.takes none).puts).some w.catalogue refl in changes _ t.0 t.1 (t.2).after (planned (to_take lifetime command.moment) (take-recheckpoints lifetime command.moment latest) (taken lifetime)))
      (λ error refused. as-before (some-of (λ error. (r ≡ Err error) × Untouched made (state_of w).store s'.store) (lease_refusal lifetime interval) error refused d.refused).1.1)

  made-by : (target : Target) → target_of command.action ≡ target → DoesBy k settings command target made (state_of w) reply s' → Changes
  made-by (NewHandle keeps_log) names d =
      let t = ((d.does).opens).some w.catalogue refl in
      changes _ t.0 t.1 (t.2).after (open-carries P (extractor_name settings.extractor) k.summary w.catalogue latest is (spares.opened (extractor_name settings.extractor) _))
  made-by (NewSnapshot n) names d = opened-made n (slice_get w.objects n) d
  made-by (NewFollower modes.FollowLatest managed skips lag) names d = unchanged ((d.0).does).kept
  made-by (NewFollower (modes.Checkpoint id) managed skips lag) names d = unchanged ((d.0).does).kept
  made-by (NewFollower modes.ManagedCheckpoint managed skips lag) names d = took-made (lifetime_of managed) (interval_of managed) skips (lag_of lag) d.result d.does
  made-by (NewCheckpoint lifetime) names d =
      let t = (((d.does).does).objects).some w.catalogue refl in
      changes _ t.0 t.1 (t.2).after (planned (to_write None lifetime command.moment) (write-recheckpoints None lifetime command.moment latest) (added lifetime))
  made-by WholeStore names d =
      let t = (((d.does).does).objects).some w.catalogue refl in
      changes _ t.0 t.1 (t.2).after (subst (λ found. Carry P latest.id (sweep_changes_by command.moment w.catalogue found)) (sym is) (sweep-carries P command.moment latest w.catalogue rising is (spares.swept names)))
  made-by (OfWrite n) names d = state-before d.2
  made-by (OfObject n) names d = on-made n (slice_get w.objects n) names refl d

  pub does-carries : DoesBy k settings command (target_of command.action) made (state_of w) reply s' → Changes
  does-carries d = made-by (target_of command.action) refl d
