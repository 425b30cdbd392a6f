-- What commands do to the store alone, and their replies.
use Rattle.std.specs.Prelude.{◌≡◌, ℕ, ℤ, Option, Result}
use Rattle.slate_store.specs.declared.objects.Checkpoint.{Checkpoint}
use Rattle.slate_errors.specs.declared.errors.SlateError.{SlateError}
use Rattle.slate_model.specs.Knowledge.{Knowledge}
use Rattle.slate_model.specs.Known.{Known}
use Rattle.slate_model.specs.Maintain.{Checkpoints, Sweeps}
use Rattle.slate_script.specs.declared.replies.Reply.{Reply}
use Rattle.slate_script.specs.declared.replies.Reply.TheVariants as replies
use Rattle.slate_live.specs.Replies.{reply_to}

-- a checkpoint with this lifetime is committed at a moment: the reply gives the id of the manifest that commits it
pub record CommitsTo {L : Type 0} (k : Knowledge L) (made : ℕ) (lifetime : Option ℕ) (moment : ℤ) (before : Known L) (reply : Reply) (after : Known L) : Type 0 where
  pub result : Result Checkpoint SlateError
  pub replied : reply ≡ reply_to (λ checkpoint. replies.Checkpointed checkpoint.manifest_id) result
  pub does : Checkpoints k made lifetime moment before result after

-- the store is swept at a moment
pub record SweepsTo {L : Type 0} (k : Knowledge L) (made : ℕ) (moment : ℤ) (before : Known L) (reply : Reply) (after : Known L) : Type 0 where
  pub result : Result ℕ SlateError
  pub replied : reply ≡ reply_to (λ _. replies.Swept) result
  pub does : Sweeps k made moment before result after
