-- What holds of the handles and readers that a program holds over an honest store.
use Rattle.std.specs.Prelude.{◌≡◌, ℕ, List, [], flat_map, reverse, set, slice_get, Option, Some}
use Rattle.slate_types.specs.declared.batches.Batch.{Batch}
use Rattle.slate_store.specs.Content.{IsSound}
use Rattle.slate_store.specs.Objects.{Objects}
use Rattle.slate_model.specs.Handle.{Handle, kept_handle}
use Rattle.slate_model.specs.Known.{Known}
use Rattle.slate_model.specs.Object.{Object, Handle as AHandle, batches_of, kept}
use Rattle.slate_model.specs.Recency.{AreSources}
use Rattle.slate_model.specs.Segments.{Extractor}
use Rattle.slate_model.specs.Stores.{by_objects, kept_rows}
use Rattle.slate_script.specs.declared.commands.Command.{Command}
use Rattle.slate_script.specs.declared.options.Options.{Options}
use Rattle.slate_script.specs.declared.replies.Reply.{Reply}
use Rattle.slate_live.specs.Commands.{Does}
use Rattle.slate_live.specs.Represents.{AllInSegments, Represents, RepresentsObjects}
use Rattle.slate_live.specs.Settings.{Settings}
use Rattle.slate_live.specs.State.{Live, running}
use Rattle.slate_live.specs.World.{NextWhole, World, start}

-- before an object is opened, the store alone represents the world of the start
abbrev pub NoneRepresentsTheStart : Type 0
NoneRepresentsTheStart =
    (options : Options) (objects : Objects) (faults : ℕ) → IsSound objects →
    Represents (record { options = options; objects = []; polls = []; writes = [] }) (record { objects = Some objects; faults = faults }) (start objects faults)

-- What a call does to these objects and to the store, by the store's own objects, is a step of the world that they represent, and
-- they represent the next one.
abbrev pub CallsAreSteps : Type 0
CallsAreSteps =
    (settings : Settings) (live live' : Live) (store store' : Known (List Batch)) (w : World) (command : Command) (made : ℕ) (reply : Reply) →
    RepresentsObjects live store w → Does (by_objects store.objects) settings made (running live store) command reply (running live' store') →
    (w' : World) × NextWhole settings w command reply w' × RepresentsObjects live' store' w'

-- A call of others that leaves the store's objects as they are, and may fail, leaves state and store representing the same world, but
-- for how often the store has failed; and its keys are in segments as before.
abbrev pub OthersMayFail : Type 0
OthersMayFail =
    (live : Live) (store store' : Known (List Batch)) (w : World) → Represents live store w → store'.objects ≡ store.objects →
    Represents live store' (record w { faults = store'.faults })
    × ((extractor : Option Extractor) → AllInSegments extractor w → AllInSegments extractor (record w { faults = store'.faults }))

-- the batches that one of them reads are those of its line
abbrev pub ReadTheirLines : Type 0
ReadTheirLines =
    (live : Live) (store : Known (List Batch)) (w : World) (n : ℕ) (object : Object) (rows : List Batch) →
    RepresentsObjects live store w → slice_get w.objects n ≡ Some object → kept_rows store.objects (kept object) rows → rows ≡ batches_of object

-- the sources that one of their handles lists by recency, the oldest first, are the batches of its line
abbrev pub ListTheirLines : Type 0
ListTheirLines =
    (live : Live) (store : Known (List Batch)) (w : World) (n : ℕ) (handle : Handle) (sources : List (List Batch)) →
    RepresentsObjects live store w → slice_get w.objects n ≡ Some (AHandle handle) → AreSources store.objects (kept_handle handle) sources →
    flat_map (λ source. source) (reverse sources) ≡ handle.line.batches

-- one handle in place of another among objects
abbrev pub replaced : List Object → ℕ → Handle → List Object
replaced objects n handle = set objects n (AHandle handle)

-- Where one of their handles tracks other writes for transactions than before, and is as it was but for that, they represent the
-- world in which it does. So the beginning of a transaction leaves the world but for that, and its commit does what a write does.
abbrev pub TransactionsTrack : Type 0
TransactionsTrack =
    (live : Live) (store : Known (List Batch)) (w : World) (n : ℕ) (handle other : Handle) →
    RepresentsObjects live store w → slice_get w.objects n ≡ Some (AHandle handle) → other ≡ record handle { writes = other.writes } →
    RepresentsObjects (record live { objects = replaced live.objects n (kept_handle other) }) store (record w { objects = replaced w.objects n other })
