-- How long a reader keeps a checkpoint of its own.
use Rattle.std.specs.Prelude.{◌≡◌, ◌++◌, ◌==◌, ◌/◌, ◌+ℤ◌, pos, ℕ, ℤ, int_lt, if◌then◌else◌, Bool, true, false, List, [], ◌∷◌, Option, Some}
use Rattle.slate_types.specs.declared.store_errors.StoreFault.TheVariants.{NotFound}
use Rattle.slate_store.specs.Checkpoints.{found, is_expired, last_moment}
use Rattle.slate_store.specs.Objects.{latest_manifest}
use Rattle.slate_store.specs.declared.objects.Checkpoint.{Checkpoint}
use Rattle.slate_store.specs.declared.objects.VersionedManifest.{VersionedManifest}
use Rattle.slate_store.specs.declared.reader_modes.DbReaderMode.TheVariants.{ManagedCheckpoint}
use Rattle.slate_errors.specs.declared.errors.SlateError.TheVariants as errors
use Rattle.slate_model.specs.declared.leases.Lease.{Lease}
use Rattle.slate_model.specs.Follower.{Follower}
use Rattle.slate_model.specs.Tables.{AreStored}
use Rattle.slate_script.specs.declared.commands.Action.{Action}
use Rattle.slate_script.specs.declared.commands.Action.TheVariants as actions
use Rattle.slate_script.specs.declared.replies.Reply.{Reply}
use Rattle.slate_script.specs.declared.replies.Reply.TheVariants as replies
use Rattle.slate_live.specs.Commands.{lifetime_of}
use Rattle.slate_live.specs.Replies.{refusal}
use Rattle.slate_live.specs.Represents.{IsFollowerAt}
use Rattle.slate_live.specs.Steps.{Step, last_world}
use Rattle.slate_live.specs.World.{World}

-- whether a command polls the reader with this number, closes it, or reads it
abbrev pub polls : ℕ → Action → Bool
polls n (actions.Poll m) = m == n
polls n action = false

abbrev pub closes : ℕ → Action → Bool
closes n (actions.Close m options) = m == n
closes n action = false

abbrev pub reads : ℕ → Action → Bool
reads n (actions.Get m key remote) = m == n
reads n (actions.Scan m range order remote) = m == n
reads n (actions.Seek m range take key order remote) = m == n
reads n action = false

-- whether it begins a poll of the reader by single calls, or makes a step of one
abbrev pub steps_poll : ℕ → Action → Bool
steps_poll n (actions.Begin m) = m == n
steps_poll n (actions.Step m) = m == n
steps_poll n action = false

-- whether a reply says that a poll took all log files
abbrev pub is_whole : Reply → Bool
is_whole (replies.Polled true at) = true
is_whole reply = false

-- the moment of a reader's last turn after a step, and after steps: its opening or its last poll, where it was this one before
abbrev pub turn : ℕ → ℤ → Step → ℤ
turn n last step = if polls n step.command.action then step.command.moment else last

abbrev pub last_turn : ℕ → ℤ → List Step → ℤ
last_turn n last [] = last
last_turn n last (step ∷ steps) = last_turn n (turn n last step) steps

-- A moment comes less than this lifetime after another, and isn't past the greatest, where each longer lease ends.
abbrev pub ComesBefore : (lifetime : ℕ) → (last moment : ℤ) → Type 0
ComesBefore lifetime last moment = (int_lt moment (last +ℤ pos lifetime) ≡ true) × (int_lt last_moment moment ≡ false)

-- A step comes before the end of a lease of this lifetime that begins at the reader's last turn.
abbrev pub IsInTime : (lifetime : ℕ) → (last : ℤ) → Step → Type 0
IsInTime lifetime last step = ComesBefore lifetime last step.command.moment

-- Each sweep of these steps does, the reader isn't closed, each poll of it took all log files, and none is made by single calls.
abbrev pub AreInTime : (n lifetime : ℕ) → (last : ℤ) → List Step → Type 0
AreInTime n lifetime last [] = Unit {0}
AreInTime n lifetime last (step ∷ steps) =
    (step.command.action ≡ actions.Sweep → IsInTime lifetime last step) × (closes n step.command.action ≡ false) × (polls n step.command.action ≡ true → is_whole step.reply ≡ true)
    × (steps_poll n step.command.action ≡ false) × AreInTime n lifetime (turn n last step) steps

-- A reader keeps its checkpoint at a moment: that is in the latest manifest and not over, and the tables are stored that the
-- reader reads.
pub record KeepsCheckpoint (n : ℕ) (moment : ℤ) (w : World) : Type 0 where
  pub follower : Follower
  pub is_follower : IsFollowerAt w.objects n follower
  pub lease : Lease
  pub leased : follower.lease ≡ Some lease
  pub latest : VersionedManifest
  pub is_latest : latest_manifest w.catalogue ≡ Some latest
  pub checkpoint : Checkpoint
  pub there : found lease.id latest ≡ Some checkpoint
  pub lasts : is_expired moment checkpoint ≡ false
  pub tables : AreStored w.catalogue follower.view.manifest.tables

-- Take an opening of a reader that keeps a checkpoint with a lifetime, steps after it of which each sweep comes less than half
-- the lifetime after the reader's last turn, and one step more. Where that comes so too, the reader keeps its checkpoint at it,
-- and where it is a read of the reader, at any moment, it finds no table missing. Polls of other readers may be made by single calls.
abbrev pub LeasesHold : List Step → Type 0
LeasesHold steps =
    (before later rest : List Step) (opened step : Step) (n at : ℕ) (managed : Option (ℕ × ℕ)) (skips : Bool) (lag : Option ℕ) → steps ≡ before ++ opened ∷ (later ++ step ∷ rest) →
    opened.command.action ≡ actions.Follow ManagedCheckpoint managed skips lag → opened.reply ≡ replies.Follower n true at →
    AreInTime n (lifetime_of managed / 2) opened.command.moment later →
    (IsInTime (lifetime_of managed / 2) (last_turn n opened.command.moment later) step → KeepsCheckpoint n step.command.moment (last_world opened.world later))
    × (reads n step.command.action ≡ true → step.reply ≡ refusal (errors.ObjectStoreError NotFound) → ⊥)
