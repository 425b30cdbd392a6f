-- What statuses name of segments, and where polls find a key without one.
use Rattle.std.specs.Prelude.{◌≡◌, ◌⊎◌, ℕ, List, [], slice_get, Option, Some}
use Rattle.slate_types.specs.declared.batches.Batch.{Batch}
use Rattle.slate_types.specs.Line.{batches_above}
use Rattle.slate_errors.specs.declared.errors.SlateError.TheVariants as errors
use Rattle.slate_status.specs.declared.statuses.DbStatus.{DbStatus}
use Rattle.slate_model.specs.Handle.{untabled}
use Rattle.slate_model.specs.Object.{Object, Handle, Snapshot, Follower}
use Rattle.slate_model.specs.Segments.{Extractor, segments_of}
use Rattle.slate_script.specs.declared.commands.Action.{Action}
use Rattle.slate_script.specs.declared.commands.Action.TheVariants as actions
use Rattle.slate_script.specs.declared.replies.Reply.TheVariants as replies
use Rattle.slate_live.specs.Next.{IsFull}
use Rattle.slate_live.specs.Replies.{refusal}
use Rattle.slate_live.specs.Steps.{Step}

-- the batches of an object's line that aren't in the tables of the manifest that it goes by
abbrev pub above_view : Object → List Batch
above_view (Handle handle) = untabled handle.view.manifest handle
above_view (Snapshot snapshot) = []
above_view (Follower follower) = batches_above follower.view.manifest.last_l0_seq follower.line.batches

-- A status of an object names the segments of the batches of its line that aren't in the tables of the manifest that it goes by.
abbrev pub StatusesName : Option Extractor → List Step → Type 0
StatusesName extractor steps =
    (i n : ℕ) (step : Step) (status : DbStatus) → slice_get steps i ≡ Some step → step.command.action ≡ actions.Status n → step.reply ≡ replies.Status status →
    (object : Object) × (slice_get step.world.objects n ≡ Some object) × (status.memtable_segments ≡ segments_of extractor (above_view object))

-- the command polls the reader with this number, or makes a step of a begun poll of it
abbrev pub PollsIt : ℕ → Action → Type 0
PollsIt n action = (action ≡ actions.Poll n) ⊎ (action ≡ actions.Step n)

-- A poll or a step answers InvalidDBState only where no manifest can follow the latest one: it finds no key without a segment.
abbrev pub PollsFit : List Step → Type 0
PollsFit steps =
    (i n : ℕ) (step : Step) → slice_get steps i ≡ Some step → PollsIt n step.command.action → step.reply ≡ refusal errors.InvalidDBState → IsFull step.world
