-- A command over an honest store leads to a world that the live state and the store represent.
use Rattle.slate_model.specs.Segments.{extractor_name}
use Rattle.std.proofs.Common.{◌≡◌, ◌≢◌, ℕ, ◌≤◌, Bool, true, false, length, List, [], ◌∷◌, ◌++◌, set, map, option_map, Option, Some, None, Result, Ok, Err, refl, sym, subst, ap, ◌∙◌, arith, inl, inr, ◌<◌}
use Rattle.std.proofs.lemmas.List.{append-nil, length-map, map-append, map-set}
use Rattle.std.proofs.lemmas.List.Elements.{All-nil}
use Rattle.std.specs.List.{slice_get}
use Rattle.slate_types.specs.declared.batches.Batch.{Batch}
use Rattle.slate_types.specs.Line.{IsLine, Line}
use Rattle.slate_store.specs.Content.{IsSound}
use Rattle.slate_store.specs.Objects.{Objects, latest_manifest, table_at}
use Rattle.slate_store.specs.declared.objects.VersionedManifest.{VersionedManifest}
use Rattle.slate_model.proofs.Moving.{Follows}
use Rattle.slate_errors.specs.declared.errors.SlateError.{SlateError}
use Rattle.slate_model.specs.Begun.{Begun}
use Rattle.slate_model.specs.Catalogue.{catalogue_of}
use Rattle.slate_model.specs.declared.answers.PollAnswer.{PollAnswer}
use Rattle.slate_model.specs.Follow.{Rebuilds, SeesOwed, unseen}
use Rattle.slate_model.specs.Follower.{Follower, is_managed, kept_follower, rebuilt}
use Rattle.slate_model.specs.Handle.{Handle, kept_handle}
use Rattle.slate_model.specs.Known.{Known}
use Rattle.slate_model.specs.Maintain.{Checkpoints, Sweeps}
use Rattle.slate_model.specs.declared.snapshots.HandleSnapshot.{HandleSnapshot}
use Rattle.slate_model.specs.Object.{Object, Handle as AHandle, Snapshot as ASnapshot, Follower as AFollower, kept}
use Rattle.slate_model.specs.Snapshot.{unless_closed, snapshot_number}
use Rattle.slate_model.proofs.Keeping.{accepted-kept}
use Rattle.slate_live.specs.Handles.{TakesSnapshot}
use Rattle.slate_live.proofs.Naming.{follower-did, handle-acted}
use Rattle.slate_model.specs.Open.{OpensHandle, opened_manifest, opened_handle}
use Rattle.slate_model.specs.Stores.{by_catalogue, by_objects}
use Rattle.slate_model.proofs.Flushed.{part_le}
use Rattle.slate_model.proofs.Logging.{LogsAre, OfLine}
use Rattle.slate_model.proofs.Maintained.{Maintained, checkpoint-maintains, checkpoints-reduced, sweep-maintains, sweeps-reduced}
use Rattle.slate_model.proofs.Reduced.{catalogued, holding, opens-reduced, owed-known-by, rebuilds-reduced, rebuilt-whole}
use Rattle.slate_script.specs.declared.commands.Command.{Command}
use Rattle.slate_script.specs.declared.replies.Reply.{Reply}
use Rattle.slate_script.specs.declared.replies.Reply.TheVariants as replies
use Rattle.slate_live.specs.declared.states.Write.{Write}
use Rattle.slate_live.specs.Calls.{ArePolls, Call, Write as WriteCall, Merge as MergeCall, Flush, Refresh, Compact, Get, Scan, Seek, Close, Poll, Status, FindTime, FindNumber, Nothing, call_of, named, at_snapshot, target_of}
use Rattle.slate_live.specs.declared.targets.Target.{Target}
use Rattle.slate_live.specs.declared.targets.Target.TheVariants.{NewHandle, NewSnapshot, NewFollower, NewCheckpoint, WholeStore, OfWrite, OfObject}
use Rattle.slate_live.specs.Commands.{Acts, ActsAt, ActsOn, AddsObject, Does, DoesBy, DoesToStore, OpensSnapshot, ReadsSnapshot, added, asked_reply, interval_of, lag_of, lifetime_of, write_reply}
use Rattle.slate_live.specs.Maintenance.{CommitsTo, SweepsTo}
use Rattle.slate_live.specs.Replies.{followed_reply, reply_to}
use Rattle.slate_live.specs.Standing.{StandsBeside}
use Rattle.slate_live.specs.Represents.{IsHandleAt, IsHeld, Holds, IsValid, RepresentsObjects}
use Rattle.slate_live.specs.Settings.{Settings, option_tasks}
use Rattle.slate_live.specs.State.{Live, State, running}
use Rattle.slate_live.specs.World.{NextWhole, World, grown_by, state_of, stored_after}
use Rattle.slate_live.proofs.Following.{new-held, new-valid, owed-lined, seen-kept, seen-mark, view-stored, with_segments}
use Rattle.slate_live.proofs.Knowing.{AfterOf, follower-after, handle-after, handle-led}
use Rattle.slate_live.proofs.KnownFollower.{follower-led}
use Rattle.slate_model.proofs.Owing.{owed_line}
use Rattle.slate_store.specs.declared.reader_modes.DbReaderMode.{DbReaderMode}
use Rattle.slate_store.specs.declared.reader_modes.DbReaderMode.TheVariants as modes
use Rattle.slate_model.specs.Managed.{OpensManaged}
use Rattle.slate_live.proofs.Leading.{followed-leads, followers-over, Leads, follower-leads, pushed-leads, is_latest, leads-same, moved-leads, the_latest, valid-over}
use Rattle.slate_live.proofs.Leasing.{leased_whole, taken_line}
use Rattle.slate_live.proofs.Maintaining.{after, after-holds, after-valid, maintained-leads}
use Rattle.slate_live.proofs.Taking.{Taken, taken, taken-after}
use Rattle.slate_live.proofs.Onward.{Onward, before-added, beside-onward, onward-maintained, onward-moved, onward-opened, onward-same, onward-unopened}
use Rattle.slate_live.proofs.Opening.{opened-leads, unopened-leads}
use Rattle.slate_live.proofs.Begun.{are-left, left_polls}
use Rattle.slate_live.proofs.Changing.{handles-set-follower}
use Rattle.slate_live.proofs.Places.{get-map}
use Rattle.slate_live.proofs.Snapshots.{snapshots-kept}

-- nothing is stored by what names no handle
no-growth : (call : Call) (made : ℕ) (stored : Line) → grown_by call made stored None ≡ stored
no-growth (Flush t) made stored = refl
no-growth (Close t) made stored = refl
no-growth (WriteCall ops) made stored = refl
no-growth (MergeCall op) made stored = refl
no-growth Refresh made stored = refl
no-growth Compact made stored = refl
no-growth (Get key remote snapshot) made stored = refl
no-growth (Scan range order remote snapshot) made stored = refl
no-growth (Seek range take key order remote snapshot) made stored = refl
no-growth Poll made stored = refl
no-growth Status made stored = refl
no-growth (FindTime number find) made stored = refl
no-growth (FindNumber seconds find) made stored = refl
no-growth Nothing made stored = refl

follower-growth : (call : Call) (made : ℕ) (stored : Line) (g : Follower) → grown_by call made stored (Some (AFollower g)) ≡ stored
follower-growth (Flush t) made stored g = refl
follower-growth (Close t) made stored g = refl
follower-growth (WriteCall ops) made stored g = refl
follower-growth (MergeCall op) made stored g = refl
follower-growth Refresh made stored g = refl
follower-growth Compact made stored g = refl
follower-growth (Get key remote snapshot) made stored g = refl
follower-growth (Scan range order remote snapshot) made stored g = refl
follower-growth (Seek range take key order remote snapshot) made stored g = refl
follower-growth Poll made stored g = refl
follower-growth Status made stored g = refl
follower-growth (FindTime number find) made stored g = refl
follower-growth (FindNumber seconds find) made stored g = refl
follower-growth Nothing made stored g = refl

-- nor by what a snapshot asks its handle
snapshot-growth : (x : ℕ) (call : Call) (made : ℕ) (stored : Line) (h : Handle) → grown_by (at_snapshot x call) made stored (Some (AHandle h)) ≡ stored
snapshot-growth x (Flush t) made stored h = refl
snapshot-growth x (Close t) made stored h = refl
snapshot-growth x (WriteCall ops) made stored h = refl
snapshot-growth x (MergeCall op) made stored h = refl
snapshot-growth x Refresh made stored h = refl
snapshot-growth x Compact made stored h = refl
snapshot-growth x (Get key remote snapshot) made stored h = refl
snapshot-growth x (Scan range order remote snapshot) made stored h = refl
snapshot-growth x (Seek range take key order remote snapshot) made stored h = refl
snapshot-growth x Poll made stored h = refl
snapshot-growth x Status made stored h = refl
snapshot-growth x (FindTime number find) made stored h = refl
snapshot-growth x (FindNumber seconds find) made stored h = refl
snapshot-growth x Nothing made stored h = refl

unnamed-growth : (call : Call) (made : ℕ) (stored : Line) (x : HandleSnapshot) → grown_by call made stored (Some (ASnapshot x)) ≡ stored
unnamed-growth (Flush t) made stored x = refl
unnamed-growth (Close t) made stored x = refl
unnamed-growth (WriteCall ops) made stored x = refl
unnamed-growth (MergeCall op) made stored x = refl
unnamed-growth Refresh made stored x = refl
unnamed-growth Compact made stored x = refl
unnamed-growth (Get key remote snapshot) made stored x = refl
unnamed-growth (Scan range order remote snapshot) made stored x = refl
unnamed-growth (Seek range take key order remote snapshot) made stored x = refl
unnamed-growth Poll made stored x = refl
unnamed-growth Status made stored x = refl
unnamed-growth (FindTime number find) made stored x = refl
unnamed-growth (FindNumber seconds find) made stored x = refl
unnamed-growth Nothing made stored x = refl

-- what is asked of a write is answered by what is kept
asked-kept : (found : Option Object) (number : ℕ) → asked_reply (option_map kept found) number ≡ asked_reply found number
asked-kept None number = refl
asked-kept (Some (AHandle h)) number = refl
asked-kept (Some (ASnapshot x)) number = refl
asked-kept (Some (AFollower g)) number = refl

write-kept : (objects : List Object) (write : Option Write) → write_reply (map kept objects) write ≡ write_reply objects write
write-kept objects None = refl
write-kept objects (Some write) =
    ap (λ found. asked_reply found write.number) (get-map kept objects write.handle) ∙ asked-kept (slice_get objects write.handle) write.number

module _ (settings : Settings) (w : World) (o : Objects) (is_sound : IsSound o) (holds : Holds o w) (valid : IsValid w) (reads : (n : ℕ) (x : Object) → slice_get w.objects n ≡ Some x → IsHeld o x)
    (command : Command) (made : ℕ) (reply : Reply) (live_objects : List Object) (polls : List (Option Begun)) (writes : List Write) (store : Known (List Batch)) where
  -- the state before, by the store's own objects and what is kept of the world's, and the one after
  abbrev s : State (List Batch)
  s = record { objects = map kept w.objects; writes = w.writes; store = holding o w.faults }

  abbrev s' : State (List Batch)
  s' = record { objects = live_objects; writes = writes; store = store }

  abbrev stored' : Line
  stored' = stored_after made w command.action

  -- the world after, with these objects, where the store holds these
  abbrev world : Objects → List Object → World
  world o' objects = record { stored = stored'; catalogue = catalogue_of o'; objects = objects; polls = polls; owed = w.owed; writes = writes; faults = store.faults }

  pub record Led : Type 0 where
    pub after : Objects
    pub objects : List Object
    pub modelled : store.objects ≡ Some after
    pub kept : live_objects ≡ map kept objects
    pub leads : Leads stored' after objects
    pub onward : Onward w o stored' after objects
    pub does : Does (by_catalogue w.stored w.catalogue) settings made (state_of w) command reply (state_of (world after objects))

  store-is : (o' : Objects) → store.objects ≡ Some o' → store ≡ holding o' store.faults
  store-is o' is = ap (λ x. record { objects = x; faults = store.faults }) is

  known-before : catalogued o w.faults ≡ (state_of w).store
  known-before = ap (λ c. record { objects = Some c; faults = w.faults }) holds.catalogue

  does-at : (target : Target) → target_of command.action ≡ target → (after : Objects) (objects : List Object) → DoesBy (by_catalogue w.stored w.catalogue) settings command target made (state_of w) reply (state_of (world after objects)) →
      Does (by_catalogue w.stored w.catalogue) settings made (state_of w) command reply (state_of (world after objects))
  does-at target is after objects d = subst (λ t. DoesBy (by_catalogue w.stored w.catalogue) settings command t made (state_of w) reply (state_of (world after objects))) (sym is) d

  named-is : (target : Target) → target_of command.action ≡ target → (found : Option Object) → named w.objects target ≡ found → stored' ≡ grown_by (call_of command.action) made w.stored found
  named-is target is found at = ap (λ t. grown_by (call_of command.action) made w.stored (named w.objects t)) is ∙ ap (grown_by (call_of command.action) made w.stored) at

  -- where nothing is named, nothing is stored
  unnamed : (target : Target) → target_of command.action ≡ target → named w.objects target ≡ None → stored' ≡ w.stored
  unnamed target is none = named-is target is None none ∙ no-growth (call_of command.action) made w.stored

  over : {o' : Objects} {objects : List Object} → stored' ≡ w.stored → Leads w.stored o' objects → Leads stored' o' objects
  over {o'} {objects} same l = subst (λ l. Leads l o' objects) (sym same) l

  on : {o' : Objects} {objects : List Object} → stored' ≡ w.stored → Onward w o w.stored o' objects → Onward w o stored' o' objects
  on {o'} {objects} same next = subst (λ l. Onward w o l o' objects) (sym same) next

  -- where no handle is new
  same-handles : (n : ℕ) (a : Handle) → IsHandleAt w.objects n a → IsHandleAt w.objects n a
  same-handles n a at = at

  -- nothing is done
  led-only : (answer : Reply) → stored' ≡ w.stored → (made ≡ 0) × (reply ≡ answer) × (s' ≡ s) → ((made ≡ 0) × (reply ≡ answer) × (state_of (world o w.objects) ≡ state_of w) → Does (by_catalogue w.stored w.catalogue) settings made (state_of w) command reply (state_of (world o w.objects))) → Led
  led-only answer same d does =
      let same_objects : live_objects ≡ map kept w.objects = ap (λ (x : State (List Batch)). x.objects) d.2 in
      let same_writes : writes ≡ w.writes = ap (λ (x : State (List Batch)). x.writes) d.2 in
      let same_store : store ≡ holding o w.faults = ap (λ (x : State (List Batch)). x.store) d.2 in
      let state : state_of (world o w.objects) ≡ state_of w =
      ap (λ x. record { objects = w.objects; writes = x; store = catalogued o store.faults }) same_writes
      ∙ (ap (λ (k : Known (List Batch)). record { objects = w.objects; writes = w.writes; store = catalogued o k.faults }) same_store
      ∙ ap (λ x. record { objects = w.objects; writes = w.writes; store = x }) known-before) in
      record {
        after = o;
        objects = w.objects;
        modelled = ap (λ (k : Known (List Batch)). k.objects) same_store;
        kept = same_objects;
        leads = over same (leads-same w o is_sound holds valid reads);
        onward = on same (onward-same w o is_sound holds valid reads w.objects same-handles);
        does = does (d.0, d.1, state);
      }

  -- a handle is asked this; what that does is what the command does
  led-handle : (n : ℕ) (call : Call) (h k : Handle) → slice_get w.objects n ≡ Some (AHandle h) → stored' ≡ grown_by call made w.stored (Some (AHandle h)) →
      ((after : Objects) (objects : List Object) → ActsAt (by_catalogue w.stored w.catalogue) settings n command call made (AHandle h) (state_of w) reply (state_of (world after objects)) →
      Does (by_catalogue w.stored w.catalogue) settings made (state_of w) command reply (state_of (world after objects))) →
      Acts (by_objects (Some o)) settings n command call made (AHandle (kept_handle h)) (holding o w.faults) w.writes reply (AHandle k) store writes → live_objects ≡ set (map kept w.objects) n (AHandle k) → Led
  led-handle n call h k at grows does a objects =
      let o' = handle-after o w.faults made w.writes writes reply settings store n command.moment command.second call (kept_handle h) k a in
      let v = valid-over w o is_sound holds valid reads n h at in
      let by_held = subst (λ x. Acts (by_objects (Some o)) settings n command call made (AHandle (kept_handle h)) (holding o w.faults) w.writes reply (AHandle k) x writes) (store-is o'.0 o'.1) a in
      let latest = the_latest w o is_sound holds valid reads n h at in
      let l = handle-led w.stored o o'.0 w.faults store.faults made w.writes writes reply is_sound holds.stored latest (is_latest w o is_sound holds valid reads n h at) h k v (reads n (AHandle h) at).0 (valid.named n n h (AHandle h) at at) settings n command.moment command.second call by_held in
      let objects' = set w.objects n (AHandle l.new) in
      record {
        after = o'.0;
        objects = objects';
        modelled = o'.1;
        kept = objects ∙ (ap (λ x. set (map kept w.objects) n (AHandle x)) l.kept ∙ sym (map-set kept w.objects n (AHandle l.new)));
        leads = subst (λ x. Leads x o'.0 objects') (sym grows) (moved-leads w o is_sound holds valid reads n h at (grown_by call made w.stored (Some (AHandle h))) o'.0 l.new l.moved);
        onward = subst (λ x. Onward w o x o'.0 objects') (sym grows) (onward-moved w o is_sound holds valid reads n h at (grown_by call made w.stored (Some (AHandle h))) o'.0 l.new l.moved);
        does = does o'.0 objects' (record {
          new = AHandle l.new;
          acts = subst (λ c. Acts (by_catalogue w.stored c) settings n command call made (AHandle h) (record { objects = Some c; faults = w.faults }) w.writes reply (AHandle l.new) (catalogued o'.0 store.faults) writes) holds.catalogue l.known;
          objects = refl;
        });
      }

  -- what a handle did that is asked this, by what is kept of it
  led-asked : (n : ℕ) (call : Call) (h : Handle) → slice_get w.objects n ≡ Some (AHandle h) → stored' ≡ grown_by call made w.stored (Some (AHandle h)) →
      ((after : Objects) (objects : List Object) → ActsAt (by_catalogue w.stored w.catalogue) settings n command call made (AHandle h) (state_of w) reply (state_of (world after objects)) →
      Does (by_catalogue w.stored w.catalogue) settings made (state_of w) command reply (state_of (world after objects))) →
      ActsAt (by_objects (Some o)) settings n command call made (AHandle (kept_handle h)) s reply s' → Led
  led-asked n call h at grows does a =
      let d = handle-acted (by_objects (Some o)) settings n command call made s reply s' (kept_handle h) a in
      led-handle n call h d.new at grows does d.acts d.objects

  -- a follower's command
  led-follower : (n : ℕ) (g k : Follower) → target_of command.action ≡ OfObject n → slice_get w.objects n ≡ Some (AFollower g) →
      Acts (by_objects (Some o)) settings n command (call_of command.action) made (AFollower (kept_follower g)) (holding o w.faults) w.writes reply (AFollower k) store writes → live_objects ≡ set (map kept w.objects) n (AFollower k) → Led
  led-follower n g k is at a objects =
      let mine = followers-over w o is_sound holds valid reads n g at in
      let o' = follower-after o w.faults made w.writes writes reply settings store command.moment (call_of command.action) (kept_follower g) k mine.2 a in
      let by_held = subst (λ x. Acts (by_objects (Some o)) settings n command (call_of command.action) made (AFollower (kept_follower g)) (holding o w.faults) w.writes reply (AFollower k) x writes) (store-is o'.0 o'.1) a in
      let l = follower-led w.stored o o'.0 w.faults store.faults made w.writes writes reply is_sound holds.stored valid.line settings command.moment g k mine (reads n (AFollower g) at) (call_of command.action) by_held in
      let grows = named-is (OfObject n) is (Some (AFollower g)) at ∙ follower-growth (call_of command.action) made w.stored g in
      let objects' = set w.objects n (AFollower l.new) in
      let m = maintained-leads w o is_sound holds valid reads o'.0 l.maintained in
      let leads = follower-leads (after w o is_sound holds valid reads o'.0 l.maintained) o'.0 m.sound (after-holds w o is_sound holds valid reads o'.0 l.maintained) (after-valid w o is_sound holds valid reads o'.0 l.maintained) m.reads
      n g l.new at l.view (l.valid (m.followers n g at)) (l.holds_it (m.reads n (AFollower g) at)) in
      record {
        after = o'.0;
        objects = objects';
        modelled = o'.1;
        kept = objects ∙ (ap (λ x. set (map kept w.objects) n (AFollower x)) l.kept ∙ sym (map-set kept w.objects n (AFollower l.new)));
        leads = over grows leads;
        onward = on grows (onward-maintained w o is_sound holds valid reads o'.0 l.maintained objects' (handles-set-follower w.objects n (AFollower g) l.new at));
        does = does-at (OfObject n) is o'.0 objects'
            (subst (λ found. ActsOn (by_catalogue w.stored w.catalogue) settings n command (call_of command.action) made found (state_of w) reply (state_of (world o'.0 objects'))) (sym at)
            (record {
              new = AFollower l.new;
              acts = subst (λ c. Acts (by_catalogue w.stored c) settings n command (call_of command.action) made (AFollower g) (record { objects = Some c; faults = w.faults }) w.writes reply (AFollower l.new) (catalogued o'.0 store.faults) writes) holds.catalogue l.acts;
              objects = refl;
            }));
      }

  -- what the command does, by the object that it names
  abbrev Acted : ℕ → Option Object → Objects → List Object → Type 0
  Acted n found after objects = ActsOn (by_catalogue w.stored w.catalogue) settings n command (call_of command.action) made found (state_of w) reply (state_of (world after objects))

  acted : (n : ℕ) (found : Option Object) → target_of command.action ≡ OfObject n → slice_get w.objects n ≡ found → (after : Objects) (objects : List Object) → Acted n found after objects → Does (by_catalogue w.stored w.catalogue) settings made (state_of w) command reply (state_of (world after objects))
  acted n found is at after objects a = does-at (OfObject n) is after objects (subst (λ found. Acted n found after objects) (sym at) a)

  -- a snapshot is read by its handle
  abbrev SnapshotRead : HandleSnapshot → Option Object → Objects → List Object → Type 0
  SnapshotRead x found after objects = ReadsSnapshot (by_catalogue w.stored w.catalogue) settings x command (call_of command.action) made found (state_of w) reply (state_of (world after objects))

  led-snapshot : (n : ℕ) (x : HandleSnapshot) (found : Option Object) → target_of command.action ≡ OfObject n → slice_get w.objects n ≡ Some (ASnapshot x) → slice_get w.objects x.handle ≡ found →
      ReadsSnapshot (by_objects (Some o)) settings x command (call_of command.action) made (option_map kept found) s reply s' → Led
  led-snapshot n x found is at there a = by found there a where
    same : stored' ≡ w.stored
    same = named-is (OfObject n) is (Some (ASnapshot x)) at ∙ unnamed-growth (call_of command.action) made w.stored x

    does : (found : Option Object) → slice_get w.objects x.handle ≡ found → (after : Objects) (objects : List Object) → SnapshotRead x found after objects → Does (by_catalogue w.stored w.catalogue) settings made (state_of w) command reply (state_of (world after objects))
    does found there after objects a = acted n (Some (ASnapshot x)) is at after objects (subst (λ found. SnapshotRead x found after objects) (sym there) a)

    by : (found : Option Object) → slice_get w.objects x.handle ≡ found → ReadsSnapshot (by_objects (Some o)) settings x command (call_of command.action) made (option_map kept found) s reply s' → Led
    by (Some (AHandle h)) there a =
        led-asked x.handle (at_snapshot x.number (call_of command.action)) h there (same ∙ sym (snapshot-growth x.number (call_of command.action) made w.stored h))
        (does (Some (AHandle h)) there) a
    by (Some (ASnapshot y)) there a = led-only _ same a (λ only. does (Some (ASnapshot y)) there o w.objects only)
    by (Some (AFollower g)) there a = led-only _ same a (λ only. does (Some (AFollower g)) there o w.objects only)
    by None there a = led-only _ same a (λ only. does None there o w.objects only)

  led-on : (n : ℕ) (found : Option Object) → target_of command.action ≡ OfObject n → slice_get w.objects n ≡ found → ActsOn (by_objects (Some o)) settings n command (call_of command.action) made (option_map kept found) s reply s' → Led
  led-on n None is at a = led-only _ (unnamed (OfObject n) is at) a (λ only. acted n None is at o w.objects only)
  led-on n (Some (AHandle h)) is at a =
      led-asked n (call_of command.action) h at (named-is (OfObject n) is (Some (AHandle h)) at) (acted n (Some (AHandle h)) is at) a
  led-on n (Some (ASnapshot x)) is at a =
      led-snapshot n x (slice_get w.objects x.handle) is at refl
      (subst (λ found. ReadsSnapshot (by_objects (Some o)) settings x command (call_of command.action) made found s reply s') (get-map kept w.objects x.handle) a)
  led-on n (Some (AFollower g)) is at a =
      let d = follower-did (by_objects (Some o)) settings n command (call_of command.action) made s reply s' (Some (AFollower (kept_follower g))) (kept_follower g) refl a in
      led-follower n g d.new is at d.acts d.objects

  -- an opening of a handle
  led-opened : (keeps_log : Bool) → target_of command.action ≡ NewHandle keeps_log → (r : Result Handle SlateError) → OpensHandle (by_objects (Some o)) settings.extractor made keeps_log settings.options.max_unflushed_bytes (option_tasks settings.options) (holding o w.faults) r store →
      reply ≡ reply_to (λ _. replies.Handle (length (map kept w.objects))) r → live_objects ≡ map kept w.objects ++ added AHandle r → writes ≡ w.writes → Led
  led-opened keeps_log is (Ok k) d replied objects same_writes =
      let limit = settings.options.max_unflushed_bytes in
      let tasks = option_tasks settings.options in
      let t = (d.opens).some o refl in
      let step = t.2 in
      let few : made ≤ 2 = part_le {A = Handle} (Ok k) 2 made step.part in
      let some : 0 < made = (let all = step.part in omega (arith, all)) in
      let by_held = subst (λ x. OpensHandle (by_objects (Some o)) settings.extractor made keeps_log limit tasks (holding o w.faults) (Ok k) x) (store-is t.0 t.1) d in
      let known = opens-reduced settings.extractor w.stored made keeps_log limit tasks (Ok k) o t.0 w.faults store.faults is_sound holds.stored by_held in
      let new = opened_handle settings.extractor keeps_log limit tasks (opened_manifest (extractor_name settings.extractor) o) w.stored in
      let objects' = w.objects ++ AHandle new ∷ [] in
      record {
        after = t.0;
        objects = objects';
        modelled = t.1;
        kept = objects ∙ (ap (λ x. map kept w.objects ++ AHandle x ∷ []) (d.handle o w.stored refl (o, refl, is_sound, sym holds.stored)) ∙ sym (map-append kept w.objects (AHandle new ∷ [])));
        leads = subst (λ x. Leads stored' x objects') (sym step.after) (over (unnamed (NewHandle keeps_log) is refl) (opened-leads settings.extractor w o is_sound holds valid reads keeps_log limit tasks made some few));
        onward = subst (λ x. Onward w o stored' x objects') (sym step.after) (on (unnamed (NewHandle keeps_log) is refl) (onward-opened w o is_sound holds valid reads settings.extractor keeps_log limit tasks made few));
        does = does-at (NewHandle keeps_log) is t.0 objects' (record {
          result = Ok new;
          replied = replied ∙ ap replies.Handle (length-map w.objects kept);
          does = subst (λ c. OpensHandle (by_catalogue w.stored c) settings.extractor made keeps_log limit tasks (record { objects = Some c; faults = w.faults }) (Ok new) (catalogued t.0 store.faults)) holds.catalogue known;
          objects = refl;
          writes = same_writes;
        });
      }
  led-opened keeps_log is (Err e) d replied objects same_writes =
      let limit = settings.options.max_unflushed_bytes in
      let tasks = option_tasks settings.options in
      let t = (d.opens).some o refl in
      let step = t.2 in
      let few : made ≤ 2 = part_le {A = Handle} (Err e) 2 made step.part in
      let by_held = subst (λ x. OpensHandle (by_objects (Some o)) settings.extractor made keeps_log limit tasks (holding o w.faults) (Err e) x) (store-is t.0 t.1) d in
      let known = opens-reduced settings.extractor w.stored made keeps_log limit tasks (Err e) o t.0 w.faults store.faults is_sound holds.stored by_held in
      record {
        after = t.0;
        objects = w.objects;
        modelled = t.1;
        kept = objects ∙ append-nil (map kept w.objects);
        leads = subst (λ x. Leads stored' x w.objects) (sym step.after) (over (unnamed (NewHandle keeps_log) is refl) (unopened-leads settings.extractor w o is_sound holds valid reads made few));
        onward = subst (λ x. Onward w o stored' x w.objects) (sym step.after) (on (unnamed (NewHandle keeps_log) is refl) (onward-unopened w o is_sound holds valid reads settings.extractor made few));
        does = does-at (NewHandle keeps_log) is t.0 w.objects (record {
          result = Err e;
          replied = replied;
          does = subst (λ c. OpensHandle (by_catalogue w.stored c) settings.extractor made keeps_log limit tasks (record { objects = Some c; faults = w.faults }) (Err e) (catalogued t.0 store.faults)) holds.catalogue known;
          objects = sym (append-nil w.objects);
          writes = same_writes;
        });
      }

  -- a snapshot of a handle
  led-taken : (n : ℕ) (h : Handle) → target_of command.action ≡ NewSnapshot n → slice_get w.objects n ≡ Some (AHandle h) → (r : Result ℕ SlateError) → TakesSnapshot (kept_handle h) (holding o w.faults) r store → made ≡ 0 →
      reply ≡ reply_to (λ number. replies.Snapshot (length (map kept w.objects)) number) r → live_objects ≡ map kept w.objects ++ added (λ number. ASnapshot (record { handle = n; number = number })) r → writes ≡ w.writes → Led
  led-taken n h is at r d none replied objects same_writes = by r d replied objects where
    same : stored' ≡ w.stored
    same = unnamed (NewSnapshot n) is refl

    known : store ≡ holding o w.faults
    known = d.1

    number-kept : snapshot_number (kept_handle h) ≡ snapshot_number h
    number-kept = ap (unless_closed h.result) (accepted-kept h)

    took : (r : Result ℕ SlateError) → TakesSnapshot (kept_handle h) (holding o w.faults) r store → TakesSnapshot h (state_of w).store r (catalogued o store.faults)
    took r (inl memory, same_store) = (inl memory, ap (λ (k : Known (List Batch)). catalogued o k.faults) known ∙ known-before)
    took r (inr number, same_store) = (inr (number ∙ number-kept), ap (λ (k : Known (List Batch)). catalogued o k.faults) known ∙ known-before)

    does : (after : Objects) (objects : List Object) → OpensSnapshot n made (Some (AHandle h)) (state_of w) reply (state_of (world after objects)) → Does (by_catalogue w.stored w.catalogue) settings made (state_of w) command reply (state_of (world after objects))
    does after objects a = does-at (NewSnapshot n) is after objects (subst (λ found. OpensSnapshot n made found (state_of w) reply (state_of (world after objects))) (sym at) a)

    by : (r : Result ℕ SlateError) → TakesSnapshot (kept_handle h) (holding o w.faults) r store → reply ≡ reply_to (λ number. replies.Snapshot (length (map kept w.objects)) number) r →
        live_objects ≡ map kept w.objects ++ added (λ number. ASnapshot (record { handle = n; number = number })) r → Led
    by (Ok number) d replied objects =
        let new = ASnapshot (record { handle = n; number = number }) in
        let objects' = w.objects ++ new ∷ [] in
        record {
          after = o;
          objects = objects';
          modelled = ap (λ (k : Known (List Batch)). k.objects) known;
          kept = objects ∙ sym (map-append kept w.objects (new ∷ []));
          leads = over same (pushed-leads w o is_sound holds valid reads new (λ a same. absurd (cc)) (the_latest w o is_sound holds valid reads n h at) (is_latest w o is_sound holds valid reads n h at) (All-nil (λ id. table_at id o ≢ None)) (λ f same. absurd (cc)) (tt, tt));
          onward = on same (onward-same w o is_sound holds valid reads objects' (before-added w o is_sound holds valid reads new (λ a same. absurd (cc))));
          does = does o objects' (
            record { result = Ok number; replied = replied ∙ ap (λ m. replies.Snapshot m number) (length-map w.objects kept); does = took (Ok number) d; objects = refl; writes = same_writes },
            none,
          );
        }
    by (Err e) d replied objects =
        record {
          after = o;
          objects = w.objects;
          modelled = ap (λ (k : Known (List Batch)). k.objects) known;
          kept = objects ∙ append-nil (map kept w.objects);
          leads = over same (leads-same w o is_sound holds valid reads);
          onward = on same (onward-same w o is_sound holds valid reads w.objects same-handles);
          does = does o w.objects (
            record { result = Err e; replied = replied; does = took (Err e) d; objects = sym (append-nil w.objects); writes = same_writes },
            none,
          );
        }

  led-sampled : (n : ℕ) (found : Option Object) → target_of command.action ≡ NewSnapshot n → slice_get w.objects n ≡ found → OpensSnapshot n made (option_map kept found) s reply s' → Led
  led-sampled n found is at d = by found at d where
    only : (found : Option Object) → slice_get w.objects n ≡ found → OpensSnapshot n made found (state_of w) reply (state_of (world o w.objects)) → Does (by_catalogue w.stored w.catalogue) settings made (state_of w) command reply (state_of (world o w.objects))
    only found at a = does-at (NewSnapshot n) is o w.objects (subst (λ found. OpensSnapshot n made found (state_of w) reply (state_of (world o w.objects))) (sym at) a)

    by : (found : Option Object) → slice_get w.objects n ≡ found → OpensSnapshot n made (option_map kept found) s reply s' → Led
    by (Some (AHandle h)) at d = led-taken n h is at (d.0).result (d.0).does d.1 (d.0).replied (d.0).objects (d.0).writes
    by (Some (ASnapshot x)) at d = led-only _ (unnamed (NewSnapshot n) is refl) d (λ a. only (Some (ASnapshot x)) at a)
    by (Some (AFollower g)) at d = led-only _ (unnamed (NewSnapshot n) is refl) d (λ a. only (Some (AFollower g)) at a)
    by None at d = led-only _ (unnamed (NewSnapshot n) is refl) d (λ a. only None at a)

  -- the opening of the world, of a follower that keeps no checkpoint
  followed-known : (mode : DbReaderMode) (skips : Bool) (lag : ℕ) (r : Result (Follower × PollAnswer) SlateError) → Rebuilds (by_objects (Some o)) settings.extractor mode skips true lag (SeesOwed (by_objects (Some o)) mode skips lag) unseen (holding o w.faults) r (holding o store.faults) →
      Rebuilds (by_catalogue w.stored (catalogue_of o)) settings.extractor mode skips true lag (SeesOwed (by_catalogue w.stored (catalogue_of o)) mode skips lag) unseen (catalogued o w.faults) (rebuilt-whole mode skips lag (λ (b : Follower). owed_line mode skips o b.view w.stored) r) (catalogued o store.faults)
  followed-known mode skips lag r d =
      rebuilds-reduced settings.extractor w.stored mode skips true lag (SeesOwed (by_objects (Some o)) mode skips lag) (SeesOwed (by_catalogue w.stored (catalogue_of o)) mode skips lag) unseen unseen o o w.faults store.faults is_sound holds.stored tt
      (λ (b : Follower). owed_line mode skips o b.view w.stored) (λ b answer v all. owed-known-by w.stored mode skips true lag o b answer is_sound holds.stored v all) r d

  -- an opening of one
  led-followed : (mode : DbReaderMode) (managed : Option (ℕ × ℕ)) (skips : Bool) (asked : Option ℕ) → is_managed mode ≡ false → target_of command.action ≡ NewFollower mode managed skips asked →
      ((after : Objects) (objects : List Object) → AddsObject (Rebuilds (by_catalogue w.stored w.catalogue) settings.extractor mode skips true (lag_of asked) (SeesOwed (by_catalogue w.stored w.catalogue) mode skips (lag_of asked)) unseen) (λ (b : Follower × PollAnswer). AFollower b.0) (λ n (b : Follower × PollAnswer). followed_reply n b.1) (state_of w) reply (state_of (world after objects)) × (made ≡ 0) →
      Does (by_catalogue w.stored w.catalogue) settings made (state_of w) command reply (state_of (world after objects))) → (r : Result (Follower × PollAnswer) SlateError) → Rebuilds (by_objects (Some o)) settings.extractor mode skips true (lag_of asked) (SeesOwed (by_objects (Some o)) mode skips (lag_of asked)) unseen (holding o w.faults) r store → made ≡ 0 →
      reply ≡ reply_to (λ (b : Follower × PollAnswer). followed_reply (length (map kept w.objects)) b.1) r → live_objects ≡ map kept w.objects ++ added (λ (b : Follower × PollAnswer). AFollower b.0) r → writes ≡ w.writes → Led
  led-followed mode managed skips asked unmanaged is does (Ok b) d none replied objects same_writes =
      let by_held = subst (λ x. Rebuilds (by_objects (Some o)) settings.extractor mode skips true (lag_of asked) (SeesOwed (by_objects (Some o)) mode skips (lag_of asked)) unseen (holding o w.faults) (Ok b) x) (store-is o d.kept) d in
      let known = followed-known mode skips (lag_of asked) (Ok b) by_held in
      let all = d.sees o w.stored refl (o, refl, is_sound, sym holds.stored) tt in
      let v = d.can o refl in
      let line = owed_line mode skips o (b.0).view w.stored in
      let lined = owed-lined w.stored mode skips true o (b.0).view is_sound holds.stored v (lag_of asked) (b.0).mark (seen-mark (Some o) w.stored mode skips (lag_of asked) o b.0 b.1 all) in
      let new = with_segments (b.0).segments (rebuilt mode skips (lag_of asked) (b.0).view line (b.0).mark) in
      let there = view-stored w.stored mode skips true o (b.0).view is_sound holds.stored v in
      let objects' = w.objects ++ AFollower new ∷ [] in
      record {
        after = o;
        objects = objects';
        modelled = d.kept;
        kept = objects ∙ (ap (λ x. map kept w.objects ++ AFollower x ∷ []) (seen-kept (Some o) w.stored mode skips (lag_of asked) o b.0 b.1 all) ∙ sym (map-append kept w.objects (AFollower new ∷ [])));
        leads = over (unnamed (NewFollower mode managed skips asked) is refl) (followed-leads w o is_sound holds valid reads new v.0 v.1 there (new-valid (b.0).segments w.stored mode skips true (lag_of asked) o (b.0).view v line (b.0).mark lined unmanaged) (new-held (b.0).segments w.stored mode skips true (lag_of asked) o (b.0).view v line (b.0).mark lined));
        onward = on (unnamed (NewFollower mode managed skips asked) is refl) (onward-same w o is_sound holds valid reads objects' (before-added w o is_sound holds valid reads (AFollower new) (λ a same. absurd (cc))));
        does = does o objects' (
          record {
            result = Ok (new, b.1);
            replied = replied ∙ ap (λ n. followed_reply n b.1) (length-map w.objects kept);
            does = subst (λ c. Rebuilds (by_catalogue w.stored c) settings.extractor mode skips true (lag_of asked) (SeesOwed (by_catalogue w.stored c) mode skips (lag_of asked)) unseen (record { objects = Some c; faults = w.faults }) (Ok (new, b.1)) (catalogued o store.faults)) holds.catalogue known;
            objects = refl;
            writes = same_writes;
          },
          none,
        );
      }
  led-followed mode managed skips asked unmanaged is does (Err e) d none replied objects same_writes =
      let by_held = subst (λ x. Rebuilds (by_objects (Some o)) settings.extractor mode skips true (lag_of asked) (SeesOwed (by_objects (Some o)) mode skips (lag_of asked)) unseen (holding o w.faults) (Err e) x) (store-is o d.kept) d in
      let known = followed-known mode skips (lag_of asked) (Err e) by_held in
      record {
        after = o;
        objects = w.objects;
        modelled = d.kept;
        kept = objects ∙ append-nil (map kept w.objects);
        leads = over (unnamed (NewFollower mode managed skips asked) is refl) (leads-same w o is_sound holds valid reads);
        onward = on (unnamed (NewFollower mode managed skips asked) is refl) (onward-same w o is_sound holds valid reads w.objects same-handles);
        does = does o w.objects (
          record {
            result = Err e;
            replied = replied;
            does = subst (λ c. Rebuilds (by_catalogue w.stored c) settings.extractor mode skips true (lag_of asked) (SeesOwed (by_catalogue w.stored c) mode skips (lag_of asked)) unseen (record { objects = Some c; faults = w.faults }) (Err e) (catalogued o store.faults)) holds.catalogue known;
            objects = sym (append-nil w.objects);
            writes = same_writes;
          },
          none,
        );
      }

  -- an opening of one that does
  led-leased : (managed : Option (ℕ × ℕ)) (skips : Bool) (asked : Option ℕ) → target_of command.action ≡ NewFollower modes.ManagedCheckpoint managed skips asked → (r : Result (Follower × PollAnswer) SlateError) →
      OpensManaged (by_objects (Some o)) settings.extractor made (lifetime_of managed) (interval_of managed) skips (lag_of asked) command.moment (holding o w.faults) r store →
      reply ≡ reply_to (λ (b : Follower × PollAnswer). followed_reply (length (map kept w.objects)) b.1) r → live_objects ≡ map kept w.objects ++ added (λ (b : Follower × PollAnswer). AFollower b.0) r → writes ≡ w.writes → Led
  led-leased managed skips asked is r d replied objects same_writes = by r d replied objects where
    lifetime : ℕ
    lifetime = lifetime_of managed

    interval : ℕ
    interval = interval_of managed

    o' : AfterOf store
    o' = taken-after settings.extractor w.stored o w.faults made lifetime interval skips (lag_of asked) command.moment r store d

    took : (r : Result (Follower × PollAnswer) SlateError) → OpensManaged (by_objects (Some o)) settings.extractor made lifetime interval skips (lag_of asked) command.moment (holding o w.faults) r store → Taken settings.extractor w.stored o w.faults made lifetime interval skips (lag_of asked) command.moment o'.0 store.faults is_sound holds.stored r
    took r d = taken settings.extractor w.stored o w.faults made lifetime interval skips (lag_of asked) command.moment o'.0 store.faults is_sound holds.stored r
        (subst (λ x. OpensManaged (by_objects (Some o)) settings.extractor made lifetime interval skips (lag_of asked) command.moment (holding o w.faults) r x) (store-is o'.0 o'.1) d)

    opens : (r : Result (Follower × PollAnswer) SlateError) → OpensManaged (by_catalogue w.stored (catalogue_of o)) settings.extractor made lifetime interval skips (lag_of asked) command.moment (catalogued o w.faults) r (catalogued o'.0 store.faults) →
        OpensManaged (by_catalogue w.stored w.catalogue) settings.extractor made lifetime interval skips (lag_of asked) command.moment (state_of w).store r (catalogued o'.0 store.faults)
    opens r known = subst (λ c. OpensManaged (by_catalogue w.stored c) settings.extractor made lifetime interval skips (lag_of asked) command.moment (record { objects = Some c; faults = w.faults }) r (catalogued o'.0 store.faults)) holds.catalogue known

    by : (r : Result (Follower × PollAnswer) SlateError) → OpensManaged (by_objects (Some o)) settings.extractor made lifetime interval skips (lag_of asked) command.moment (holding o w.faults) r store →
        reply ≡ reply_to (λ (b : Follower × PollAnswer). followed_reply (length (map kept w.objects)) b.1) r → live_objects ≡ map kept w.objects ++ added (λ (b : Follower × PollAnswer). AFollower b.0) r → Led
    by (Ok b) d replied objects =
        let l = took (Ok b) d in
        let m = maintained-leads w o is_sound holds valid reads o'.0 l.maintained in
        let new = leased_whole modes.ManagedCheckpoint skips (lag_of asked) (b.0).view (taken_line w.stored skips o'.0 (b.0).view) b.0 in
        let objects' = w.objects ++ AFollower new ∷ [] in
        record {
          after = o'.0;
          objects = objects';
          modelled = o'.1;
          kept = objects ∙ (ap (λ x. map kept w.objects ++ AFollower x ∷ []) (l.new).kept ∙ sym (map-append kept w.objects (AFollower new ∷ [])));
          leads = over (unnamed (NewFollower modes.ManagedCheckpoint managed skips asked) is refl)
              (followed-leads (after w o is_sound holds valid reads o'.0 l.maintained) o'.0 m.sound (after-holds w o is_sound holds valid reads o'.0 l.maintained) (after-valid w o is_sound holds valid reads o'.0 l.maintained) m.reads
              new (b.0).view (l.new).found (l.new).tables (l.new).valid (l.new).held);
          onward = on (unnamed (NewFollower modes.ManagedCheckpoint managed skips asked) is refl) (onward-maintained w o is_sound holds valid reads o'.0 l.maintained objects' (before-added w o is_sound holds valid reads (AFollower new) (λ a same. absurd (cc))));
          does = does-at (NewFollower modes.ManagedCheckpoint managed skips asked) is o'.0 objects' (record {
            result = Ok (new, b.1);
            replied = replied ∙ ap (λ n. followed_reply n b.1) (length-map w.objects kept);
            does = opens (Ok (new, b.1)) l.known;
            objects = refl;
            writes = same_writes;
          });
        }
    by (Err e) d replied objects =
        let l = took (Err e) d in
        record {
          after = o'.0;
          objects = w.objects;
          modelled = o'.1;
          kept = objects ∙ append-nil (map kept w.objects);
          leads = over (unnamed (NewFollower modes.ManagedCheckpoint managed skips asked) is refl) (maintained-leads w o is_sound holds valid reads o'.0 l.maintained);
          onward = on (unnamed (NewFollower modes.ManagedCheckpoint managed skips asked) is refl) (onward-maintained w o is_sound holds valid reads o'.0 l.maintained w.objects same-handles);
          does = does-at (NewFollower modes.ManagedCheckpoint managed skips asked) is o'.0 w.objects (record {
            result = Err e;
            replied = replied;
            does = opens (Err e) l.known;
            objects = sym (append-nil w.objects);
            writes = same_writes;
          });
        }

  -- a command that goes to the store alone
  led-store : (target : Target) → target_of command.action ≡ target → named w.objects target ≡ None → (o' : Objects) → store.objects ≡ Some o' → Maintained o o' → live_objects ≡ map kept w.objects →
      DoesBy (by_catalogue w.stored w.catalogue) settings command target made (state_of w) reply (state_of (world o' w.objects)) → Led
  led-store target is none o' modelled m objects d = record {
    after = o';
    objects = w.objects;
    modelled = modelled;
    kept = objects;
    leads = over (unnamed target is none) (maintained-leads w o is_sound holds valid reads o' m);
    onward = on (unnamed target is none) (onward-maintained w o is_sound holds valid reads o' m w.objects same-handles);
    does = does-at target is o' w.objects d;
  }

  led-checkpoint : (lifetime : Option ℕ) → target_of command.action ≡ NewCheckpoint lifetime → DoesToStore (CommitsTo (by_objects (Some o)) made lifetime command.moment) s reply s' → Led
  led-checkpoint lifetime is d =
      let c = d.does in
      let t = ((c.does).objects).some o refl in
      let by_held = subst (λ x. Checkpoints (by_objects (Some o)) made lifetime command.moment (holding o w.faults) c.result x) (store-is t.0 t.1) c.does in
      let known = checkpoints-reduced w.stored made lifetime command.moment c.result o t.0 w.faults store.faults is_sound by_held in
      led-store (NewCheckpoint lifetime) is refl t.0 t.1 (subst (Maintained o) (sym (t.2).after) (checkpoint-maintains lifetime command.moment made o is_sound)) d.objects
      (record {
        does = record {
          result = c.result;
          replied = c.replied;
          does = subst (λ x. Checkpoints (by_catalogue w.stored x) made lifetime command.moment (record { objects = Some x; faults = w.faults }) c.result (catalogued t.0 store.faults)) holds.catalogue known;
        };
        objects = refl;
        writes = d.writes;
      })

  led-swept : target_of command.action ≡ WholeStore → DoesToStore (SweepsTo (by_objects (Some o)) made command.moment) s reply s' → Led
  led-swept is d =
      let c = d.does in
      let t = ((c.does).objects).some o refl in
      let by_held = subst (λ x. Sweeps (by_objects (Some o)) made command.moment (holding o w.faults) c.result x) (store-is t.0 t.1) c.does in
      let known = sweeps-reduced w.stored made command.moment c.result o t.0 w.faults store.faults is_sound by_held in
      led-store WholeStore is refl t.0 t.1 (subst (Maintained o) (sym (t.2).after) (sweep-maintains command.moment made o is_sound)) d.objects
      (record {
        does = record {
          result = c.result;
          replied = c.replied;
          does = subst (λ x. Sweeps (by_catalogue w.stored x) made command.moment (record { objects = Some x; faults = w.faults }) c.result (catalogued t.0 store.faults)) holds.catalogue known;
        };
        objects = refl;
        writes = d.writes;
      })

  led-by : (target : Target) → target_of command.action ≡ target → DoesBy (by_objects (Some o)) settings command target made s reply s' → Led
  led-by (NewHandle keeps_log) is d = led-opened keeps_log is d.result d.does d.replied d.objects d.writes
  led-by (NewSnapshot n) is d =
      led-sampled n (slice_get w.objects n) is refl (subst (λ found. OpensSnapshot n made found s reply s') (get-map kept w.objects n) d)
  led-by (NewFollower modes.FollowLatest managed skips asked) is d =
      led-followed modes.FollowLatest managed skips asked refl is (does-at (NewFollower modes.FollowLatest managed skips asked) is) (d.0).result (d.0).does d.1 (d.0).replied (d.0).objects (d.0).writes
  led-by (NewFollower (modes.Checkpoint id) managed skips asked) is d =
      led-followed (modes.Checkpoint id) managed skips asked refl is (does-at (NewFollower (modes.Checkpoint id) managed skips asked) is) (d.0).result (d.0).does d.1 (d.0).replied (d.0).objects (d.0).writes
  led-by (NewFollower modes.ManagedCheckpoint managed skips asked) is d = led-leased managed skips asked is d.result d.does d.replied d.objects d.writes
  led-by (NewCheckpoint lifetime) is d = led-checkpoint lifetime is d
  led-by WholeStore is d = led-swept is d
  led-by (OfWrite n) is d =
      let answer = write_reply w.objects (slice_get w.writes n) in
      led-only answer (unnamed (OfWrite n) is refl) (d.0, d.1 ∙ write-kept w.objects (slice_get w.writes n), d.2) (λ only. does-at (OfWrite n) is o w.objects only)
  led-by (OfObject n) is d =
      led-on n (slice_get w.objects n) is refl (subst (λ found. ActsOn (by_objects (Some o)) settings n command (call_of command.action) made found s reply s') (get-map kept w.objects n) d)

-- Each reader that stands beside a world stands beside the next one, each log file was there before or has batches of the line that
-- is stored then, and the objects follow.
abbrev pub GoOn : World → World → Objects → Objects → Type 0
GoOn w w' o o' = (latest : VersionedManifest) → latest_manifest o ≡ Some latest → (next : VersionedManifest) × Follows w.stored w'.stored o o' latest next

abbrev pub BesideThen : Known (List Batch) → World → Known (List Batch) → World → Type 0
BesideThen store w store' w' =
    (o o' : Objects) (f : Follower) → store.objects ≡ Some o → store'.objects ≡ Some o' → (StandsBeside o w f → StandsBeside o' w' f) × LogsAre (OfLine w'.stored) o o' × GoOn w w' o o'

-- from a world that is represented, a command leads to one that is
pub leads-beside : (settings : Settings) (live live' : Live) (store store' : Known (List Batch)) (w : World) (command : Command) (made : ℕ) (reply : Reply) (polls : List (Option Begun)) → ArePolls command.action w.polls polls → RepresentsObjects live store w → Does (by_objects store.objects) settings made (running live store) command reply (running live' store') →
    (w' : World) × NextWhole settings w command reply w' × RepresentsObjects live' store' w' × BesideThen store w store' w' × (w'.polls ≡ polls)
leads-beside settings live live' store store' w command made reply polls are r d =
    let o = (r.held).0 in
    let state : running live store ≡ record { objects = map kept w.objects; writes = w.writes; store = holding o w.faults } =
    ap (λ x. record { objects = x; writes = live.writes; store = store }) r.objects
    ∙ (ap (λ x. record { objects = map kept w.objects; writes = x; store = store }) r.writes
    ∙ (ap (λ x. record { objects = map kept w.objects; writes = w.writes; store = record { objects = x; faults = store.faults } }) (r.held).1
    ∙ ap (λ x. record { objects = map kept w.objects; writes = w.writes; store = record { objects = Some o; faults = x } }) r.faults)) in
    let by_held : Does (by_objects (Some o)) settings made (record { objects = map kept w.objects; writes = w.writes; store = holding o w.faults }) command reply (running live' store') =
    subst (λ objects. Does (by_objects objects) settings made (record { objects = map kept w.objects; writes = w.writes; store = holding o w.faults }) command reply (running live' store')) (r.held).1
    (subst (λ x. Does (by_objects store.objects) settings made x command reply (running live' store')) state d) in
    let l = led-by settings w o (r.held).2 (r.held).3 r.valid (r.held).4 command made reply live'.objects polls live'.writes store' (target_of command.action) refl by_held in
    let lead = l.leads in (
      world settings w o (r.held).2 (r.held).3 r.valid (r.held).4 command made reply live'.objects polls live'.writes store' l.after l.objects,
      record { made = made; does = l.does; stored = refl; polls = are; owed = refl },
      record {
        held = (l.after, l.modelled, lead.sound, record { stored = lead.content; catalogue = refl }, lead.reads);
        faults = refl;
        objects = l.kept;
        writes = refl;
        valid = record { line = subst IsLine lead.content (lead.sound).line; followers = lead.followers; handles = lead.handles; snapshots = snapshots-kept settings w (world settings w o (r.held).2 (r.held).3 r.valid (r.held).4 command made reply live'.objects polls live'.writes store' l.after l.objects) command reply r.valid (record { made = made; does = l.does; stored = refl; polls = are; owed = refl }); named = lead.named; past = lead.past; distinct = lead.distinct };
      },
      λ first second f at at'.
          let is_first : o ≡ first = (let there = (r.held).1 in cc) in
          let is_second : l.after ≡ second = (let there = l.modelled in cc) in
          let w' = world settings w o (r.held).2 (r.held).3 r.valid (r.held).4 command made reply live'.objects polls live'.writes store' l.after l.objects in
          subst (λ x. (StandsBeside x w f → StandsBeside second w' f) × LogsAre (OfLine w'.stored) x second × GoOn w w' x second) is_first
          (subst (λ x. (StandsBeside o w f → StandsBeside x w' f) × LogsAre (OfLine w'.stored) o x × GoOn w w' o x) is_second
          (beside-onward w o w'.stored l.after l.objects polls w.owed live'.writes store'.faults (r.held).3 l.onward f, (l.onward).logs, (l.onward).follows)),
      refl,
    )

pub leads : (settings : Settings) (live live' : Live) (store store' : Known (List Batch)) (w : World) (command : Command) (made : ℕ) (reply : Reply) → RepresentsObjects live store w → Does (by_objects store.objects) settings made (running live store) command reply (running live' store') →
    (w' : World) × NextWhole settings w command reply w' × RepresentsObjects live' store' w'
leads settings live live' store store' w command made reply r d =
    let l = leads-beside settings live live' store store' w command made reply (left_polls command.action w.polls) (are-left command.action w.polls) r d in
    (l.0, l.1, l.2)
