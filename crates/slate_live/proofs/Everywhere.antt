-- What holds of each object of a world after a command, since it held before, and the command keeps it.
use Rattle.std.proofs.Common.{◌≡◌, ◌++◌, ◌∙◌, inl, inr, ℕ, Bool, true, set, Option, Some, None, Result, Ok, Err, refl, sym, subst, ap}
use Rattle.std.specs.List.{slice_get}
use Rattle.std.proofs.lemmas.List.{append-nil}
use Rattle.slate_store.specs.declared.reader_modes.DbReaderMode.{DbReaderMode}
use Rattle.slate_store.specs.declared.reader_modes.DbReaderMode.TheVariants as modes
use Rattle.slate_errors.specs.declared.errors.SlateError.{SlateError}
use Rattle.slate_model.specs.Catalogue.{Span}
use Rattle.slate_model.specs.Follow.{Rebuilds, SeesOwed, unseen}
use Rattle.slate_model.specs.Follower.{Follower}
use Rattle.slate_model.specs.Handle.{Handle}
use Rattle.slate_model.specs.Knowledge.{Knowledge}
use Rattle.slate_model.specs.Lease.{lease_refusal}
use Rattle.slate_model.specs.Managed.{OpensManaged, TakesLease}
use Rattle.slate_model.specs.Object.{Object, Handle as AHandle, Snapshot as ASnapshot, Follower as AFollower}
use Rattle.slate_model.specs.Open.{OpensHandle}
use Rattle.slate_model.specs.Stores.{by_catalogue}
use Rattle.slate_model.specs.declared.answers.PollAnswer.{PollAnswer}
use Rattle.slate_model.specs.declared.snapshots.HandleSnapshot.{HandleSnapshot}
use Rattle.slate_script.specs.declared.commands.Command.{Command}
use Rattle.slate_script.specs.declared.replies.Reply.{Reply}
use Rattle.slate_live.specs.Calls.{Call, at_snapshot, call_of, target_of}
use Rattle.slate_live.specs.declared.targets.Target.{Target}
use Rattle.slate_live.specs.declared.targets.Target.TheVariants.{NewHandle, NewSnapshot, NewFollower, NewCheckpoint, WholeStore, OfWrite, OfObject}
use Rattle.slate_live.specs.Commands.{ActsAt, ActsOn, DoesBy, OpensSnapshot, ReadsSnapshot, added, interval_of, lag_of, lifetime_of}
use Rattle.slate_live.specs.Followers.{FollowerActs}
use Rattle.slate_live.specs.Handles.{HandleActs}
use Rattle.slate_live.specs.Represents.{IsFollowerAt, IsHandleAt}
use Rattle.slate_live.specs.Settings.{Settings, option_tasks}
use Rattle.slate_live.specs.State.{State}
use Rattle.slate_live.specs.World.{World, state_of}
use Rattle.slate_live.proofs.Cases.{by-option, some-of}
use Rattle.slate_live.proofs.Naming.{follower-did, handle-acted}
use Rattle.slate_live.proofs.Places.{get-push, get-set}

module _ (settings : Settings) (w : World) (command : Command) (made : ℕ) (reply : Reply) (s' : State Span) (P : Object → Type 0) where
  abbrev k : Knowledge Span
  k = by_catalogue w.stored w.catalogue

  -- An object that was there has it, and one that did what was asked of it, or was opened.
  pub record Kept : Type 0 where
    pub old : (n : ℕ) (object : Object) → slice_get w.objects n ≡ Some object → P object
    pub handle : (n : ℕ) (call : Call) (h h' : Handle) → IsHandleAt w.objects n h → HandleActs k settings n command.moment command.second call made h (state_of w).store w.writes reply h' s'.store s'.writes → P (AHandle h')
    pub snapshot : (snapshot : HandleSnapshot) → P (ASnapshot snapshot)
    pub follower : (n : ℕ) (f f' : Follower) → IsFollowerAt w.objects n f → target_of command.action ≡ OfObject n → FollowerActs k settings command.moment (call_of command.action) made f (state_of w).store w.writes reply f' s'.store s'.writes → P (AFollower f')
    pub opened : (keeps_log : Bool) (h : Handle) → OpensHandle k settings.extractor made keeps_log settings.options.max_unflushed_bytes (option_tasks settings.options) (state_of w).store (Ok h) s'.store → P (AHandle h)
    pub followed : (mode : DbReaderMode) (skips : Bool) (lag : ℕ) (b : Follower × PollAnswer) → Rebuilds k settings.extractor mode skips true lag (SeesOwed k mode skips lag) unseen (state_of w).store (Ok b) s'.store → P (AFollower b.0)
    pub taken : (lifetime : ℕ) (skips : Bool) (lag : ℕ) (b : Follower × PollAnswer) → TakesLease k settings.extractor made lifetime skips lag command.moment (state_of w).store (Ok b) s'.store → P (AFollower b.0)

  module _ (keeps : Kept) where
    abbrev All : Type 0
    All = (n : ℕ) (object : Object) → slice_get s'.objects n ≡ Some object → P object

    all-same : s'.objects ≡ w.objects → All
    all-same same n object at = keeps.old n object (sym (ap (λ os. slice_get os n) same) ∙ at)

    all-state : s' ≡ state_of w → All
    all-state same = all-same (ap (λ (s : State Span). s.objects) same)

    all-set : (m : ℕ) (old new : Object) → slice_get w.objects m ≡ Some old → s'.objects ≡ set w.objects m new → P new → All
    all-set m old new there is mine n object at =
        elim (get-set w.objects m n new object old there (sym (ap (λ os. slice_get os n) is) ∙ at)) [
          | inl here ↦ subst P here.1 mine
          | inr other ↦ keeps.old n object other.1
        ]

    all-added : {A : Type 0} (object : A → Object) (r : Result A SlateError) → s'.objects ≡ w.objects ++ added object r → ((b : A) → r ≡ Ok b → P (object b)) → All
    all-added object (Ok b) is mine n y at =
        elim (get-push w.objects (object b) y n (sym (ap (λ os. slice_get os n) is) ∙ at)) [
          | inl old ↦ keeps.old n y old
          | inr new ↦ subst P new.1 (mine b refl)
        ]
    all-added object (Err e) is mine n y at = keeps.old n y (sym (ap (λ os. slice_get os n) (is ∙ append-nil w.objects)) ∙ at)

    handle-all : (n : ℕ) (call : Call) (h : Handle) → IsHandleAt w.objects n h → ActsAt k settings n command call made (AHandle h) (state_of w) reply s' → All
    handle-all n call h at a =
        let d = handle-acted k settings n command call made (state_of w) reply s' h a in
        all-set n (AHandle h) (AHandle d.new) at d.objects (keeps.handle n call h d.new at d.acts)

    snapshot-all : (y : HandleSnapshot) (call : Call) (found : Option Object) → slice_get w.objects y.handle ≡ found → ReadsSnapshot k settings y command call made found (state_of w) reply s' → All
    snapshot-all y call (Some (AHandle h)) at a = handle-all y.handle (at_snapshot y.number call) h at a
    snapshot-all y call (Some (ASnapshot z)) at a = all-state a.2
    snapshot-all y call (Some (AFollower f)) at a = all-state a.2
    snapshot-all y call None at a = all-state a.2

    on-all : (n : ℕ) (found : Option Object) → target_of command.action ≡ OfObject n → slice_get w.objects n ≡ found → ActsOn k settings n command (call_of command.action) made found (state_of w) reply s' → All
    on-all n None names at a = all-state a.2
    on-all n (Some (AHandle h)) names at a = handle-all n (call_of command.action) h at a
    on-all n (Some (ASnapshot y)) names at a = snapshot-all y (call_of command.action) (slice_get w.objects y.handle) refl a
    on-all n (Some (AFollower f)) names at a =
        let d = follower-did k settings n command (call_of command.action) made (state_of w) reply s' (Some (AFollower f)) f refl a in
        all-set n (AFollower f) (AFollower d.new) at d.objects (keeps.follower n f d.new at names d.acts)

    sampled-all : (n : ℕ) (found : Option Object) → OpensSnapshot n made found (state_of w) reply s' → All
    sampled-all n (Some (AHandle h)) d = all-added _ (d.0).result (d.0).objects (λ b is. keeps.snapshot _)
    sampled-all n (Some (ASnapshot y)) d = all-state d.2
    sampled-all n (Some (AFollower f)) d = all-state d.2
    sampled-all n None d = all-state d.2

    handle-opened : (keeps_log : Bool) (r : Result Handle SlateError) → OpensHandle k settings.extractor made keeps_log settings.options.max_unflushed_bytes (option_tasks settings.options) (state_of w).store r s'.store → (h : Handle) → r ≡ Ok h → P (AHandle h)
    handle-opened keeps_log (Ok g) d h is = let same : g ≡ h = cc in subst (λ (x : Handle). P (AHandle x)) same (keeps.opened keeps_log g d)
    handle-opened keeps_log (Err e) d h is = absurd (cc)

    reader-followed : (mode : DbReaderMode) (skips : Bool) (lag : ℕ) (r : Result (Follower × PollAnswer) SlateError) → Rebuilds k settings.extractor mode skips true lag (SeesOwed k mode skips lag) unseen (state_of w).store r s'.store → (b : Follower × PollAnswer) → r ≡ Ok b → P (AFollower b.0)
    reader-followed mode skips lag (Ok c) d b is = let same : c ≡ b = cc in subst (λ (x : Follower × PollAnswer). P (AFollower x.0)) same (keeps.followed mode skips lag c d)
    reader-followed mode skips lag (Err e) d b is = absurd (cc)

    reader-taken : (lifetime interval : ℕ) (skips : Bool) (lag : ℕ) (r : Result (Follower × PollAnswer) SlateError) → OpensManaged k settings.extractor made lifetime interval skips lag command.moment (state_of w).store r s'.store → (b : Follower × PollAnswer) → r ≡ Ok b → P (AFollower b.0)
    reader-taken lifetime interval skips lag (Ok c) d b is =
        let same : c ≡ b = cc in
        by-option (lease_refusal lifetime interval)
        (λ none. subst (λ (x : Follower × PollAnswer). P (AFollower x.0)) same (keeps.taken lifetime skips lag c (d.takes none)))
        (λ e refused. let no = (some-of _ (lease_refusal lifetime interval) e refused d.refused).0 in absurd (cc))
    reader-taken lifetime interval skips lag (Err e) d b is = absurd (cc)

    by-target : (target : Target) → target_of command.action ≡ target → DoesBy k settings command target made (state_of w) reply s' → All
    by-target (NewHandle keeps_log) names d = all-added AHandle d.result d.objects (handle-opened keeps_log d.result d.does)
    by-target (NewSnapshot n) names d = sampled-all n (slice_get w.objects n) d
    by-target (NewFollower modes.FollowLatest managed skips lag) names d = all-added _ (d.0).result (d.0).objects (reader-followed modes.FollowLatest skips (lag_of lag) (d.0).result (d.0).does)
    by-target (NewFollower (modes.Checkpoint id) managed skips lag) names d = all-added _ (d.0).result (d.0).objects (reader-followed (modes.Checkpoint id) skips (lag_of lag) (d.0).result (d.0).does)
    by-target (NewFollower modes.ManagedCheckpoint managed skips lag) names d = all-added _ d.result d.objects (reader-taken (lifetime_of managed) (interval_of managed) skips (lag_of lag) d.result d.does)
    by-target (NewCheckpoint lifetime) names d = all-same d.objects
    by-target WholeStore names d = all-same d.objects
    by-target (OfWrite n) names d = all-state d.2
    by-target (OfObject n) names d = on-all n (slice_get w.objects n) names refl d

    pub everywhere : DoesBy k settings command (target_of command.action) made (state_of w) reply s' → All
    everywhere d = by-target (target_of command.action) refl d
