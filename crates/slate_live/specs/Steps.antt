-- A run, step by step, and what holds over all of it.
use Rattle.std.specs.Prelude.{◌≡◌, ℕ, ◌+◌, ◌<◌, ◌≤◌, true, List, [], ◌∷◌, ◌++◌, slice_get, Some}
use Rattle.slate_types.specs.declared.batches.Batch.{Batch}
use Rattle.slate_model.specs.Follower.{Follower}
use Rattle.slate_script.specs.declared.commands.Action.TheVariants as actions
use Rattle.slate_script.specs.declared.commands.Command.{Command}
use Rattle.slate_script.specs.declared.replies.Reply.{Reply}
use Rattle.slate_script.specs.declared.replies.Reply.TheVariants as replies
use Rattle.slate_live.specs.Confirmed.{IsBatchOf, Sees, StandsIn}
use Rattle.slate_live.specs.Represents.{IsFollowerAt, follows_all}
use Rattle.slate_live.specs.Settings.{Settings}
use Rattle.slate_live.specs.Valid.{Link}
use Rattle.slate_live.specs.World.{World}

-- a command, its reply, and the world after it
pub record Step : Type 0 where
  pub command : Command
  pub reply : Reply
  pub world : World

-- steps from a world on, one link each
abbrev pub Chain : Settings → World → List Step → Type 0
Chain settings w [] = Unit {0}
Chain settings w (step ∷ steps) = Link settings w step.command step.reply step.world × Chain settings step.world steps

-- the world after steps from this one on
abbrev pub last_world : World → List Step → World
last_world w [] = w
last_world w (step ∷ steps) = last_world step.world steps

-- After step i reported the write n durable: the batch of the write, whose number the write was answered, is
-- stored, stays stored, and is seen by each opening and each poll from then on.
pub record StaysConfirmed (steps : List Step) (i n : ℕ) (reported : Step) : Type 0 where
  pub batch : Batch
  pub of_write : IsBatchOf reported.world n batch
  pub number : (h k : ℕ) (write : Step) → h < i → slice_get steps h ≡ Some write → write.reply ≡ replies.Written n k → batch.number ≡ k
  pub stored : StandsIn batch reported.world.stored
  pub later : (j : ℕ) (step : Step) → i < j → slice_get steps j ≡ Some step → StandsIn batch step.world.stored
  pub seen : (j : ℕ) (step : Step) → i < j → slice_get steps j ≡ Some step → Sees batch step.command.action step.reply step.world

-- a write that is reported durable is confirmed for good
abbrev pub StayConfirmed : List Step → Type 0
StayConfirmed steps =
    (i n : ℕ) (reported : Step) → slice_get steps i ≡ Some reported → reported.command.action ≡ actions.Await n → reported.reply ≡ replies.Durable → StaysConfirmed steps i n reported

-- What is stored when a poll of a reader is begun by single calls of the store is seen by the step that answers that it read all,
-- whatever commands come between: one of all that is stored answers a number no further below that of a batch than it may lag.
abbrev pub PollsSee : List Step → Type 0
PollsSee steps =
    (before between rest : List Step) (begin step : Step) (n at : ℕ) (batch : Batch) → steps ≡ before ++ begin ∷ (between ++ step ∷ rest) →
    begin.command.action ≡ actions.Begin n → begin.reply ≡ replies.Begun → StandsIn batch begin.world.stored →
    step.command.action ≡ actions.Step n → step.reply ≡ replies.Polled true at →
    (reader : Follower) → IsFollowerAt step.world.objects n reader → follows_all reader.mode reader.skips ≡ true → batch.number ≤ at + reader.lag
