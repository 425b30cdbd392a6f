-- Why a step of a begun poll is answered as it is.
use Rattle.std.specs.Prelude.{◌≡◌, ◌⊎◌, ℕ, ◌≤◌, false, true, Some}
use Rattle.slate_types.specs.Counts.{HasRisen}
use Rattle.slate_errors.specs.declared.errors.SlateError.TheVariants as errors
use Rattle.slate_model.specs.Begun.{Begun}
use Rattle.slate_model.specs.Follower.{Follower, is_pinned}
use Rattle.slate_model.specs.declared.polls.FirstRead.{FirstRead}
use Rattle.slate_follow.specs.Lasting.{IsEighth, IsFew, TablesGrew}
use Rattle.slate_script.specs.declared.replies.Reply.{Reply}
use Rattle.slate_script.specs.declared.replies.Reply.TheVariants as replies
use Rattle.slate_live.specs.Next.{most_now}
use Rattle.slate_live.specs.World.{World}

-- A step of the begun poll of the reader with this number is answered so, from one world to another. That a log file or a batch is
-- missing: a table was put since the first step. That the poll tried eight times: its put is the eighth that finds another manifest,
-- and there that is the answer, where no fault rose, or want of memory. That there is another step: the reader doesn't stay at a
-- checkpoint, and few came before. That it read all: the number is from what the reader was owed at the first step to what there is for it
-- now.
pub record HasCauses (n : ℕ) (w : World) (reader : Follower) (begun : Begun) (reply : Reply) (w' : World) : Type 0 where
  pub truncated : (at : ℕ) → reply ≡ replies.Polled false at → (first : FirstRead) × (begun.history.first ≡ Some first) × TablesGrew first w.catalogue
  pub tried : (tries : ℕ) → reply ≡ replies.Refused (errors.TransactionalObjectTimeout tries) → IsEighth w.catalogue begun
  pub eighth : is_pinned reader.mode ≡ false → IsEighth w.catalogue begun → (HasRisen w.faults w'.faults → ⊥) →
      (reply ≡ replies.Refused (errors.TransactionalObjectTimeout 8)) ⊎ (reply ≡ replies.NoMemory)
  pub stepped : reply ≡ replies.Stepped → (is_pinned reader.mode ≡ false) × IsFew reader.lag begun
  pub whole : (at : ℕ) → reply ≡ replies.Polled true at → (w'.owed n ≤ at) × (at ≤ most_now w reader)
