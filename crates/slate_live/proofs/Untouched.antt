-- A reader that a command neither polls nor closes is as before.
use Rattle.std.proofs.Common.{◌≡◌, ◌≢◌, ◌++◌, ◌∙◌, inl, inr, ℕ, false, List, set, Option, Some, None, refl, sym, subst, ap}
use Rattle.std.proofs.lemmas.Bool.{cases_eq, eq-eqb}
use Rattle.std.specs.List.{slice_get}
use Rattle.slate_store.specs.declared.reader_modes.DbReaderMode.TheVariants as modes
use Rattle.slate_model.specs.Catalogue.{Span}
use Rattle.slate_model.specs.Follower.{Follower}
use Rattle.slate_model.specs.Handle.{Handle}
use Rattle.slate_model.specs.Knowledge.{Knowledge}
use Rattle.slate_model.specs.Known.{Known}
use Rattle.slate_model.specs.Object.{Object, Handle as AHandle, Snapshot as ASnapshot, Follower as AFollower}
use Rattle.slate_model.specs.Stores.{by_catalogue}
use Rattle.slate_model.specs.declared.snapshots.HandleSnapshot.{HandleSnapshot}
use Rattle.slate_script.specs.declared.commands.Action.{Action}
use Rattle.slate_script.specs.declared.commands.Action.TheVariants as actions
use Rattle.slate_script.specs.declared.commands.Command.{Command}
use Rattle.slate_script.specs.declared.replies.Reply.{Reply}
use Rattle.slate_live.specs.declared.states.Write.{Write}
use Rattle.slate_live.specs.Calls.{drops, Call, Write as WriteCall, Merge as MergeCall, Flush, Refresh, Compact, Get, Scan, Seek, Close, Poll, Status, FindTime, FindNumber, Nothing, call_of, at_snapshot, target_of}
use Rattle.slate_live.specs.declared.targets.Target.{Target}
use Rattle.slate_live.specs.declared.targets.Target.TheVariants.{NewHandle, NewSnapshot, NewFollower, NewCheckpoint, WholeStore, OfWrite, OfObject}
use Rattle.slate_live.specs.Commands.{ActsAt, ActsOn, DoesBy, OpensSnapshot, ReadsSnapshot}
use Rattle.slate_live.specs.Followers.{FollowerActs}
use Rattle.slate_live.specs.Leases.{closes, polls}
use Rattle.slate_live.specs.Represents.{IsFollowerAt}
use Rattle.slate_live.specs.Settings.{Settings}
use Rattle.slate_live.specs.State.{State}
use Rattle.slate_live.specs.World.{World, state_of}
use Rattle.slate_live.proofs.Naming.{follower-did, handle-acted}
use Rattle.slate_live.proofs.Places.{get-before, get-set_other, get-set_same}

-- what is asked of a reader that may change it
abbrev pub Disturbs : Call → Type 0
Disturbs Poll = Unit {0}
Disturbs (Close flush_type) = Unit {0}
Disturbs call = ⊥

module _ (settings : Settings) (w : World) (command : Command) (made : ℕ) (reply : Reply) (s' : State Span) (n : ℕ) (f : Follower) (at : IsFollowerAt w.objects n f) (quiet : target_of command.action ≡ OfObject n → Disturbs (call_of command.action) → ⊥) where
  abbrev k : Knowledge Span
  k = by_catalogue w.stored w.catalogue

  abbrev Stays : Type 0
  Stays = IsFollowerAt s'.objects n f

  same-objects : s'.objects ≡ w.objects → Stays
  same-objects same = subst (λ os. slice_get os n ≡ Some (AFollower f)) (sym same) at

  same-state : s' ≡ state_of w → Stays
  same-state same = same-objects (ap (λ (s : State Span). s.objects) same)

  more-objects : (os : List Object) → s'.objects ≡ w.objects ++ os → Stays
  more-objects os is = subst (λ xs. slice_get xs n ≡ Some (AFollower f)) (sym is) (get-before w.objects os n (AFollower f) at)

  other-object : (m : ℕ) (x : Object) → n ≢ m → s'.objects ≡ set w.objects m x → Stays
  other-object m x other is = subst (λ xs. slice_get xs n ≡ Some (AFollower f)) (sym is) (get-set_other w.objects m n x other ∙ at)

  not-handle : (m : ℕ) (h : Handle) → slice_get w.objects m ≡ Some (AHandle h) → n ≢ m
  not-handle m h there same = absurd (let here = subst (λ i. slice_get w.objects i ≡ Some (AFollower f)) same at in let no : ◌≡◌ {A = Option Object} (Some (AFollower f)) (Some (AHandle h)) = sym here ∙ there in cc)

  handle-acts : (m : ℕ) (call : Call) (h : Handle) → slice_get w.objects m ≡ Some (AHandle h) → ActsAt k settings m command call made (AHandle h) (state_of w) reply s' → Stays
  handle-acts m call h there a =
      let d = handle-acted k settings m command call made (state_of w) reply s' h a in
      other-object m (AHandle d.new) (not-handle m h there) d.objects

  snapshot-acts : (x : HandleSnapshot) (call : Call) (found : Option Object) → slice_get w.objects x.handle ≡ found → ReadsSnapshot k settings x command call made found (state_of w) reply s' → Stays
  snapshot-acts x call (Some (AHandle h)) there a = handle-acts x.handle (at_snapshot x.number call) h there a
  snapshot-acts x call (Some (ASnapshot y)) there a = same-state a.2
  snapshot-acts x call (Some (AFollower g)) there a = same-state a.2
  snapshot-acts x call None there a = same-state a.2

  -- it is as before, where it isn't polled or closed
  unchanged : (call : Call) (g g' : Follower) (before after : Known Span) (writes writes' : List Write) → (Disturbs call → ⊥) → FollowerActs k settings command.moment call made g before writes reply g' after writes' → g' ≡ g
  unchanged Poll g g' before after writes writes' never a = absurd (never tt)
  unchanged (Close t) g g' before after writes writes' never a = absurd (never tt)
  unchanged (Get key remote snapshot) g g' before after writes writes' never a = a.1
  unchanged (Scan range order remote snapshot) g g' before after writes writes' never a = a.1
  unchanged (Seek range take key order remote snapshot) g g' before after writes writes' never a = a.1
  unchanged (WriteCall ops) g g' before after writes writes' never a = a.1
  unchanged (MergeCall op) g g' before after writes writes' never a = a.1
  unchanged (Flush t) g g' before after writes writes' never a = a.1
  unchanged Refresh g g' before after writes writes' never a = a.1
  unchanged Compact g g' before after writes writes' never a = a.1
  unchanged Status g g' before after writes writes' never a = a.1
  unchanged (FindTime number find) g g' before after writes writes' never a = a.1
  unchanged (FindNumber seconds find) g g' before after writes writes' never a = a.1
  unchanged Nothing g g' before after writes writes' never a = a.1

  on-stays : (m : ℕ) (found : Option Object) → target_of command.action ≡ OfObject m → slice_get w.objects m ≡ found → ActsOn k settings m command (call_of command.action) made found (state_of w) reply s' → Stays
  on-stays m None names there a = same-state a.2
  on-stays m (Some (AHandle h)) names there a = handle-acts m (call_of command.action) h there a
  on-stays m (Some (ASnapshot x)) names there a = snapshot-acts x (call_of command.action) (slice_get w.objects x.handle) refl a
  on-stays m (Some (AFollower g)) names there a = elim (cases_eq n m) [
    | inl same ↦
        let d = follower-did k settings m command (call_of command.action) made (state_of w) reply s' (Some (AFollower g)) g refl a in
        let mine : target_of command.action ≡ OfObject n = names ∙ ap OfObject (sym same) in
        let kept = unchanged (call_of command.action) g d.new _ _ _ _ (quiet mine) d.acts in
        let here = subst (λ i. slice_get w.objects i ≡ Some (AFollower f)) same at in
        let it : ◌≡◌ {A = Option Object} (Some (AFollower g)) (Some (AFollower f)) = sym there ∙ here in
        let is : AFollower d.new ≡ AFollower f = ap AFollower kept ∙ (let same_it : AFollower g ≡ AFollower f = cc in same_it) in
        subst (λ i. slice_get s'.objects i ≡ Some (AFollower f)) (sym same)
        (subst (λ xs. slice_get xs m ≡ Some (AFollower f)) (sym d.objects) (get-set_same w.objects m (AFollower d.new) (AFollower g) there ∙ ap Some is))
    | inr other ↦
        let d = follower-did k settings m command (call_of command.action) made (state_of w) reply s' (Some (AFollower g)) g refl a in
        other-object m (AFollower d.new) other d.objects
  ]

  sampled-stays : (m : ℕ) (found : Option Object) → OpensSnapshot m made found (state_of w) reply s' → Stays
  sampled-stays m (Some (AHandle h)) d = more-objects _ (d.0).objects
  sampled-stays m (Some (ASnapshot x)) d = same-state d.2
  sampled-stays m (Some (AFollower g)) d = same-state d.2
  sampled-stays m None d = same-state d.2

  stays-by : (target : Target) → target_of command.action ≡ target → DoesBy k settings command target made (state_of w) reply s' → Stays
  stays-by (NewHandle keeps_log) names d = more-objects _ d.objects
  stays-by (NewSnapshot m) names d = sampled-stays m (slice_get w.objects m) d
  stays-by (NewFollower modes.FollowLatest managed skips lag) names d = more-objects _ (d.0).objects
  stays-by (NewFollower (modes.Checkpoint id) managed skips lag) names d = more-objects _ (d.0).objects
  stays-by (NewFollower modes.ManagedCheckpoint managed skips lag) names d = more-objects _ d.objects
  stays-by (NewCheckpoint lifetime) names d = same-objects d.objects
  stays-by WholeStore names d = same-objects d.objects
  stays-by (OfWrite m) names d = same-state d.2
  stays-by (OfObject m) names d = on-stays m (slice_get w.objects m) names refl d

  pub stays : DoesBy k settings command (target_of command.action) made (state_of w) reply s' → Stays
  stays d = stays-by (target_of command.action) refl d

-- a command that neither polls nor closes a reader asks it nothing that changes it
pub is-quiet : (n : ℕ) (action : Action) → polls n action ≡ false → closes n action ≡ false → target_of action ≡ OfObject n → Disturbs (call_of action) → ⊥
is-quiet n (actions.Poll m) unpolled unclosed names changes = let same : m ≡ n = cc in let it = eq-eqb m n same in absurd (cc)
is-quiet n (actions.Close m options) unpolled unclosed names changes = let same : m ≡ n = cc in let it = eq-eqb m n same in absurd (cc)
is-quiet n (actions.Open wal) unpolled unclosed names changes = changes
is-quiet n (actions.Snapshot m) unpolled unclosed names changes = changes
is-quiet n (actions.Follow mode managed skip lag) unpolled unclosed names changes = changes
is-quiet n (actions.Checkpoint lifetime) unpolled unclosed names changes = changes
is-quiet n actions.Sweep unpolled unclosed names changes = changes
is-quiet n (actions.Await m) unpolled unclosed names changes = changes
is-quiet n (actions.Put m key value expire) unpolled unclosed names changes = changes
is-quiet n (actions.Merge m key value expire) unpolled unclosed names changes = changes
is-quiet n (actions.Delete m key) unpolled unclosed names changes = changes
is-quiet n (actions.Batch m batch) unpolled unclosed names changes = changes
is-quiet n (actions.Flush m flush_type) unpolled unclosed names changes = changes
is-quiet n (actions.Refresh m) unpolled unclosed names changes = changes
is-quiet n (actions.Compact m) unpolled unclosed names changes = changes
is-quiet n (actions.Get m key remote) unpolled unclosed names changes = changes
is-quiet n (actions.Scan m range order remote) unpolled unclosed names changes = changes
is-quiet n (actions.Seek m range take key order remote) unpolled unclosed names changes = changes
is-quiet n (actions.Status m) unpolled unclosed names changes = changes
is-quiet n (actions.Ts m number find) unpolled unclosed names changes = changes
is-quiet n (actions.Seq m seconds find) unpolled unclosed names changes = changes
is-quiet n (actions.Begin m) unpolled unclosed names changes = changes
is-quiet n (actions.Step m) unpolled unclosed names changes = changes

-- nor does one that drops no poll of it
pub undropped : (n : ℕ) (action : Action) → drops n action ≡ false → (polls n action ≡ false) × (closes n action ≡ false)
undropped n (actions.Poll m) never = (never, refl)
undropped n (actions.Close m options) never = (refl, never)
undropped n (actions.Open wal) never = (refl, refl)
undropped n (actions.Snapshot m) never = (refl, refl)
undropped n (actions.Follow mode managed skip lag) never = (refl, refl)
undropped n (actions.Checkpoint lifetime) never = (refl, refl)
undropped n actions.Sweep never = (refl, refl)
undropped n (actions.Await m) never = (refl, refl)
undropped n (actions.Put m key value expire) never = (refl, refl)
undropped n (actions.Merge m key value expire) never = (refl, refl)
undropped n (actions.Delete m key) never = (refl, refl)
undropped n (actions.Batch m batch) never = (refl, refl)
undropped n (actions.Flush m flush_type) never = (refl, refl)
undropped n (actions.Refresh m) never = (refl, refl)
undropped n (actions.Compact m) never = (refl, refl)
undropped n (actions.Get m key remote) never = (refl, refl)
undropped n (actions.Scan m range order remote) never = (refl, refl)
undropped n (actions.Seek m range take key order remote) never = (refl, refl)
undropped n (actions.Status m) never = (refl, refl)
undropped n (actions.Ts m number find) never = (refl, refl)
undropped n (actions.Seq m seconds find) never = (refl, refl)
undropped n (actions.Begin m) never = (refl, refl)
undropped n (actions.Step m) never = (refl, refl)
