-- What is seen of a batch once it is stored.
use Rattle.std.specs.Prelude.{◌≡◌, ℕ, ◌+◌, ◌≤◌, true, slice_get, Some}
use Rattle.slate_types.specs.declared.batches.Batch.{Batch}
pub use Rattle.slate_store.specs.Logs.{StandsIn}
use Rattle.slate_model.specs.Follower.{Follower}
use Rattle.slate_model.specs.Handle.{Handle}
use Rattle.slate_script.specs.declared.commands.Action.{Action}
use Rattle.slate_script.specs.declared.commands.Action.TheVariants as actions
use Rattle.slate_script.specs.declared.replies.Reply.{Reply}
use Rattle.slate_script.specs.declared.replies.Reply.TheVariants as replies
use Rattle.slate_live.specs.declared.states.Write.{Write}
use Rattle.slate_live.specs.Represents.{IsFollowerAt, IsHandleAt, follows_all}
use Rattle.slate_live.specs.World.{World}

-- What an opening or a poll answers and leaves that begins after this batch was stored: a handle that is opened has it
-- in its line, and a reader of all that is stored that is opened answers a number at or above its own; so does one that is polled, less
-- the number by which it may lag.
abbrev pub Sees : Batch → Action → Reply → World → Type 0
Sees batch (actions.Open wal) (replies.Handle n) w = (handle : Handle) × IsHandleAt w.objects n handle × StandsIn batch handle.line
Sees batch (actions.Follow mode managed skip lag) (replies.Follower n true at) w = follows_all mode skip ≡ true → batch.number ≤ at
Sees batch (actions.Poll n) (replies.Polled true at) w =
    (follower : Follower) → IsFollowerAt w.objects n follower → follows_all follower.mode follower.skips ≡ true → batch.number ≤ at + follower.lag
Sees batch action reply w = Unit {0}

-- the batch that the write with this number added to the line of its handle
pub record IsBatchOf (w : World) (n : ℕ) (batch : Batch) : Type 0 where
  pub write : Write
  pub is_write : slice_get w.writes n ≡ Some write
  pub handle : Handle
  pub is_handle : IsHandleAt w.objects write.handle handle
  pub accepted : StandsIn batch handle.line
  pub number : batch.number ≡ write.number
