-- When a live state and a store represent a world.
use Rattle.std.specs.Prelude.{◌≡◌, ℕ, ◌&&◌, Bool, not, List, map, slice_get, true, false, Option, Some, None, IfSome}
use Rattle.slate_types.specs.declared.batches.Batch.{Batch}
use Rattle.slate_store.specs.declared.objects.VersionedManifest.{VersionedManifest}
use Rattle.slate_store.specs.Objects.{Objects, latest_manifest}
use Rattle.slate_store.specs.Content.{IsSound}
use Rattle.slate_types.specs.Line.{Line, batches_above}
use Rattle.slate_model.specs.Begun.{Begun, base_of, view_of}
use Rattle.slate_model.specs.Follower.{Follower, is_pinned}
use Rattle.slate_model.specs.Handle.{Handle, unstored}
use Rattle.slate_model.specs.Known.{Known}
use Rattle.slate_model.specs.Open.{replayed}
use Rattle.slate_model.specs.Segments.{Extractor, ops_of, unsegmented_refusal}
use Rattle.slate_store.specs.declared.reader_modes.DbReaderMode.{DbReaderMode}
use Rattle.slate_model.specs.Object.{Object, Handle as AHandle, Snapshot as ASnapshot, Follower as AFollower, kept}
pub use Rattle.slate_live.specs.Worlds.{AreBefore, AreOfPast, Holds, IsFollowerAt, IsHandleAt, IsHeld, IsLeased, IsOfHandle, IsReached, IsTabled, IsValid, IsValidFollower, IsValidHandle, IsViewed, ReadsItsLine, up_to}
use Rattle.slate_script.specs.declared.replies.Reply.{Reply}
use Rattle.slate_live.specs.Reaching.{ReachesTo}
use Rattle.slate_live.specs.Standing.{PollStands}
use Rattle.slate_live.specs.State.{IsBegunAt, Live}
use Rattle.slate_live.specs.World.{World}

-- A live state, over an honest store that holds these objects and has failed so often, represents a world but for its begun polls:
-- its objects are the world's, each as the code keeps it.
pub record RepresentsObjects (live : Live) (store : Known (List Batch)) (w : World) : Type 0 where
  pub held : (o : Objects) × (store.objects ≡ Some o) × IsSound o × Holds o w × ((n : ℕ) (object : Object) → slice_get w.objects n ≡ Some object → IsHeld o object)
  pub faults : store.faults ≡ w.faults
  pub objects : live.objects ≡ map kept w.objects
  pub writes : live.writes ≡ w.writes
  pub valid : IsValid w

-- A begun poll of a reader stands beside the world, and after its first step it reaches what the reader was owed there.
abbrev pub StandsOn : Objects → World → ℕ → Follower → Begun → Type 0
StandsOn objects w n reader begun = PollStands objects w reader begun × IfSome begun.history.first (λ _. ReachesTo (w.owed n) objects w reader begun)

-- the reader with a number is open, and its begun poll stands so, unless it stays at a checkpoint
abbrev pub StandsAt : Objects → World → ℕ → Begun → Type 0
StandsAt objects w n begun =
    (reader : Follower) × IsFollowerAt w.objects n reader × (reader.result ≡ None) × (is_pinned reader.mode ≡ false → StandsOn objects w n reader begun)

-- it represents the world with its begun polls
pub record Represents (live : Live) (store : Known (List Batch)) (w : World) : Type 0 where
  pub represents : RepresentsObjects live store w
  pub polls : live.polls ≡ w.polls
  pub begun : (objects : Objects) (n : ℕ) (begun : Begun) → store.objects ≡ Some objects → IsBegunAt w.polls n begun → StandsAt objects w n begun

-- whether a reader follows all that is stored: it doesn't stay at a checkpoint, and reads the log files
abbrev pub follows_all : DbReaderMode → (skips : Bool) → Bool
follows_all mode skips = not (is_pinned mode) && not skips

-- whether an object, when it was opened, replayed all that is stored and isn't in the latest manifest's tables
abbrev pub replays_all : Object → Bool
replays_all (AHandle handle) = true
replays_all (ASnapshot snapshot) = false
replays_all (AFollower follower) = follows_all follower.mode follower.skips

-- each key of these batches has a segment
abbrev pub HaveSegments : Option Extractor → List Batch → Type 0
HaveSegments extractor batches = unsegmented_refusal extractor (ops_of batches) ≡ None

-- What holds of the keys of every world that commands lead to which are run with one extractor: those have segments that a
-- handle accepted and that aren't stored, and, once an object replayed them, those that are stored and aren't in tables. So no
-- poll finds a key without one.
pub record AreInSegments (extractor : Option Extractor) (w : World) : Type 0 where
  pub unstored : (n : ℕ) (handle : Handle) → IsHandleAt w.objects n handle → HaveSegments extractor (unstored handle)
  pub stored : (n : ℕ) (object : Object) (latest : VersionedManifest) → slice_get w.objects n ≡ Some object → replays_all object ≡ true → latest_manifest w.catalogue ≡ Some latest →
      HaveSegments extractor (replayed latest w.stored)

-- Each key has a segment of what a begun poll goes on from or may replay: of the stored batches above the last number in the tables
-- of what it has, of the manifest that its reader goes by then, and of the one that it read or put last.
abbrev pub PollHasSegments : Option Extractor → (stored : Line) → Follower → Begun → Type 0
PollHasSegments extractor stored reader begun =
    HaveSegments extractor (batches_above (base_of reader begun) stored.batches)
    × HaveSegments extractor (replayed (view_of reader begun) stored)
    × ((last : VersionedManifest) → begun.latest ≡ Some last → HaveSegments extractor (replayed last stored))

-- The same, and what holds of the readers that replay all that is stored: those keys have segments, too, that are stored and aren't in
-- the tables of the manifest that one of them goes by, and those that its begun poll meets. So no step finds a key without one.
pub record AllInSegments (extractor : Option Extractor) (w : World) : Type 0 where
  pub keys : AreInSegments extractor w
  pub viewed : (n : ℕ) (reader : Follower) → slice_get w.objects n ≡ Some (AFollower reader) → follows_all reader.mode reader.skips ≡ true → HaveSegments extractor (replayed reader.view w.stored)
  pub polled : (n : ℕ) (reader : Follower) (begun : Begun) → slice_get w.objects n ≡ Some (AFollower reader) → IsBegunAt w.polls n begun → follows_all reader.mode reader.skips ≡ true →
      PollHasSegments extractor w.stored reader begun

-- For every world that the live state and the store represent before, whose keys are in segments, they represent one after that
-- `next` leads to, whose keys are.
abbrev pub Links : Option Extractor → (World → Reply → World → Type 0) → Live → Known (List Batch) → Reply → Live → Known (List Batch) → Type 0
Links extractor next live store reply live' store' =
    (w : World) → Represents live store w → AllInSegments extractor w →
    (w' : World) × next w reply w' × Represents live' store' w' × AllInSegments extractor w'
