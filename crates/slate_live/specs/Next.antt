-- What a command may answer from a world, and which world it leads to.
use Rattle.std.specs.Prelude.{◌≡◌, ◌≢◌, ◌⊎◌, ◌+◌, ◌≤◌, ℕ, List, map, max, nat_lt, slice_get, slice_set, Option, Some, None, Err, ◌||◌, if◌then◌else◌, is_none}
use Rattle.slate_types.specs.declared.batches.Batch.{Batch}
use Rattle.slate_store.specs.Checkpoints.{checkpoint_id, found}
use Rattle.slate_store.specs.Objects.{Objects, entry_at, latest_manifest}
use Rattle.slate_store.specs.declared.objects.Checkpoint.{Checkpoint}
use Rattle.slate_store.specs.declared.objects.VersionedManifest.{VersionedManifest}
use Rattle.slate_errors.specs.declared.closing.CloseFault.TheVariants as faults
use Rattle.slate_errors.specs.declared.errors.SlateError.TheVariants as errors
use Rattle.slate_model.specs.Begun.{Begun}
use Rattle.slate_model.specs.Follower.{Follower, HasSegments, is_pinned, number}
use Rattle.slate_types.specs.Line.{end}
use Rattle.slate_model.specs.Known.{Known}
use Rattle.slate_model.specs.Object.{Follower as AFollower, kept}
use Rattle.slate_model.specs.Segments.{Extractor}
use Rattle.slate_model.specs.Write.{last_number}
use Rattle.slate_model.specs.declared.leases.Lease.{Lease}
use Rattle.slate_script.specs.declared.commands.Command.{Command}
use Rattle.slate_script.specs.declared.options.Options.{Options}
use Rattle.slate_script.specs.declared.replies.Reply.{Reply}
use Rattle.slate_live.specs.Calls.{Begins, Kind, Steps, Whole, kind_of}
use Rattle.slate_live.specs.Replies.{refusal}
use Rattle.slate_live.specs.Settings.{Settings}
use Rattle.slate_live.specs.State.{IsBegunAt, Live}
use Rattle.slate_live.specs.Stepping.{BeginsPoll, StepsPoll}
use Rattle.slate_live.specs.World.{NextWhole, World}
use Rattle.slate_live.specs.Worlds.{Holds, IsFollowerAt}

-- the live state of a world: its objects, each as the code keeps it
abbrev pub shown : Options → World → Live
shown options w = record { options = options; objects = map kept w.objects; polls = w.polls; writes = w.writes }

-- objects of a store of this world
abbrev pub stored_in : Objects → World → Known (List Batch)
stored_in objects w = record { objects = Some objects; faults = w.faults }

-- the last number in the tables of a manifest, where there is one
abbrev pub tabled_number : Option VersionedManifest → ℕ
tabled_number None = 0
tabled_number (Some latest) = latest.manifest.last_l0_seq

-- What there is for a reader in a world: at a checkpoint what it sees; where it skips log files, what is in the latest manifest's tables;
-- and else all that is stored.
abbrev pub most_now : World → Follower → ℕ
most_now w reader =
    if is_pinned reader.mode then number reader else (if reader.skips then tabled_number (latest_manifest w.catalogue) else end w.stored)

-- what one that may lag so far is owed of what is stored up to a number, by what it has: all, where it would be further behind
abbrev pub owed_past : (lag reached stored : ℕ) → ℕ
owed_past lag reached stored = if nat_lt (reached + lag) stored then stored else reached

-- What a reader is owed in a world is as much; but of all that is stored only where what it has, with the latest manifest's tables, leaves
-- it further behind that than it may be, and else no more than it has so.
abbrev pub owed_now : World → Follower → ℕ
owed_now w reader = let tabled = tabled_number (latest_manifest w.catalogue) in
    if is_pinned reader.mode then number reader
    else (if reader.skips then tabled else owed_past reader.lag (max (number reader) tabled) (end w.stored))

-- and at the first step of its begun poll, once that is made; a reader at a checkpoint makes no other
abbrev pub owed_first : World → ℕ → Follower → Begun → ℕ
owed_first w n reader begun = if is_pinned reader.mode || is_none begun.history.first then owed_now w reader else w.owed n

-- to begin a poll changes nothing but the begun polls
pub record NextBegun (settings : Settings) (n : ℕ) (w : World) (command : Command) (reply : Reply) (w' : World) : Type 0 where
  pub begins : BeginsPoll n command.moment (shown settings.options w) reply (shown settings.options w')
  pub same : w' ≡ record w { polls = w'.polls }

-- A step does what a step does over objects that the world holds, to the reader with this number, and stores no batch.
pub record NextStep (settings : Settings) (n : ℕ) (w : World) (reply : Reply) (w' : World) : Type 0 where
  pub before : Objects
  pub after : Objects
  pub holds : Holds before w
  pub holds_then : Holds after w'
  pub steps : StepsPoll settings.extractor n (shown settings.options w) (stored_in before w) reply (shown settings.options w') (stored_in after w')
  pub others : (m : ℕ) → m ≢ n → slice_get w'.objects m ≡ slice_get w.objects m
  pub stored : w'.stored ≡ w.stored
  pub owed : (reader : Follower) (begun : Begun) → IsFollowerAt w.objects n reader → IsBegunAt w.polls n begun → w'.owed n ≡ owed_first w n reader begun
  pub owed_others : (m : ℕ) → m ≢ n → w'.owed m ≡ w.owed m

-- no manifest can follow the latest one
abbrev pub IsFull : World → Type 0
IsFull w = (latest : VersionedManifest) × (latest_manifest w.catalogue ≡ Some latest) × (last_number ≤ latest.id)

-- a lease of the reader with a number, or of its begun poll
abbrev pub HasLease : World → ℕ → Lease → Type 0
HasLease w n lease =
    ((follower : Follower) × IsFollowerAt w.objects n follower × (follower.lease ≡ Some lease))
    ⊎ ((begun : Begun) × IsBegunAt w.polls n begun × (begun.lease ≡ Some lease))

-- a checkpoint is in the latest manifest afterwards, and keeps the manifest that it kept
abbrev pub StaysFound : (id : List ℕ) → Checkpoint → World → World → Type 0
StaysFound id checkpoint w w' =
    (latest : VersionedManifest) × (latest_manifest w'.catalogue ≡ Some latest) × (found id latest ≡ Some checkpoint)
    × (entry_at checkpoint.manifest_id w'.catalogue.manifests ≡ entry_at checkpoint.manifest_id w.catalogue.manifests)

-- a lease of the checkpoint of a manifest that wasn't stored before
abbrev pub IsFresh : World → World → Lease → Type 0
IsFresh w w' lease =
    (id : ℕ) × (lease.id ≡ checkpoint_id id) × (id ≤ last_number) × (entry_at id w.catalogue.manifests ≡ None)
    × (latest : VersionedManifest) × (latest_manifest w'.catalogue ≡ Some latest) × (id ≤ latest.id)

-- What a step leaves of a world: all objects but an open reader, which stays in its mode, keeps its tasks and has the segments of what
-- it sees where it had them, and all other begun polls; the latest manifest but for its id, which doesn't fall, and its checkpoints; and
-- of these each but that of the reader's lease, or of its begun poll's. It answers InvalidDBState only where no manifest can follow the
-- latest one then, since it finds no key without a segment, and a reader that it closes so was answered so.
pub record StepLeaves (extractor : Option Extractor) (n : ℕ) (w : World) (reply : Reply) (w' : World) : Type 0 where
  pub objects : (w'.objects ≡ w.objects)
      ⊎ ((old new : Follower) × IsFollowerAt w.objects n old × (w'.objects ≡ slice_set w.objects n (AFollower new)) × (old.result ≡ None) × (new.mode ≡ old.mode) × (new.tasks ≡ old.tasks) × (HasSegments extractor old → HasSegments extractor new))
  pub polls : (m : ℕ) → m ≢ n → slice_get w'.polls m ≡ slice_get w.polls m
  pub latest : (latest : VersionedManifest) → latest_manifest w.catalogue ≡ Some latest →
      (latest' : VersionedManifest) × (latest_manifest w'.catalogue ≡ Some latest') × (latest'.manifest ≡ record latest.manifest { checkpoints = latest'.manifest.checkpoints }) × (latest.id ≤ latest'.id)
  pub checkpoints : (latest : VersionedManifest) (id : List ℕ) (checkpoint : Checkpoint) → latest_manifest w.catalogue ≡ Some latest → found id latest ≡ Some checkpoint →
      ((lease : Lease) → HasLease w n lease → lease.id ≢ id) → StaysFound id checkpoint w w'
  pub full : reply ≡ refusal errors.InvalidDBState → IsFull w'
  pub closes : (reader : Follower) → IsFollowerAt w'.objects n reader → reader.result ≡ Some (Err faults.InvalidDBState) → (reply ≡ refusal errors.InvalidDBState) ⊎ (w'.objects ≡ w.objects)
  pub leases : (lease : Lease) → HasLease w' n lease → ((old : Lease) × HasLease w n old × (old.id ≡ lease.id)) ⊎ IsFresh w w' lease

abbrev pub NextBy : Kind → Settings → World → Command → Reply → World → Type 0
NextBy Whole settings w command reply w' = NextWhole settings w command reply w'
NextBy (Begins n) settings w command reply w' = NextBegun settings n w command reply w'
NextBy (Steps n) settings w command reply w' = NextStep settings n w reply w'

-- From a world, a command that is run with these settings may be answered so, and leave the other world.
abbrev pub Next : Settings → World → Command → Reply → World → Type 0
Next settings w command reply w' = NextBy (kind_of command.action) settings w command reply w'
