-- What an opening finds of the tracker of a handle that flushed to a table.
use Rattle.std.specs.Prelude.{◌≡◌, ◌≢◌, ◌++◌, ◌==◌, ℕ, Bool, true, false, List, ◌∷◌, None}
use Rattle.slate_store.specs.Objects.{latest_manifest}
use Rattle.slate_model.specs.Handle.{Handle}
use Rattle.slate_script.specs.declared.commands.Action.{Action}
use Rattle.slate_script.specs.declared.commands.Action.TheVariants as actions
use Rattle.slate_script.specs.declared.replies.Reply.{Reply}
use Rattle.slate_script.specs.declared.replies.Reply.TheVariants as replies
use Rattle.slate_live.specs.Represents.{IsHandleAt}
use Rattle.slate_live.specs.Steps.{Step, last_world}
use Rattle.slate_live.specs.World.{World}

-- whether a command flushes the object with this number, or closes it, and is answered without an error
abbrev pub flushes : ℕ → Action → Reply → Bool
flushes n (actions.Flush m flush_type) replies.Flushed = m == n
flushes n (actions.Close m options) (replies.Ended None tasks) = m == n
flushes n action reply = false

-- between two worlds a manifest was committed
abbrev pub Commits : World → World → Type 0
Commits w w' = latest_manifest w'.catalogue ≢ latest_manifest w.catalogue

-- Take steps from a world on: a flush or a close of a handle that answers no error and commits the manifest of a table, steps
-- after it that store no batch, and an opening of a handle. That has the pairs in its tracker that the other one had after its
-- flush.
abbrev pub TrackersStay : World → List Step → Type 0
TrackersStay first steps =
    (before later rest : List Step) (flushed opened : Step) (m n : ℕ) (keeps_log : Bool) (handle : Handle) → steps ≡ before ++ flushed ∷ (later ++ opened ∷ rest) →
    flushes m flushed.command.action flushed.reply ≡ true → Commits (last_world first before) flushed.world → IsHandleAt flushed.world.objects m handle →
    (last_world flushed.world later).stored ≡ flushed.world.stored → opened.command.action ≡ actions.Open keeps_log → opened.reply ≡ replies.Handle n →
    (next : Handle) × IsHandleAt opened.world.objects n next × (next.tracker.pairs ≡ handle.tracker.pairs)
