-- What a poll found, before a reader has it.
use Rattle.std.specs.Prelude.{◌≡◌, ℕ, ◌+◌, ◌<◌, ◌^◌, List, length, Option}
use Rattle.slate_types.specs.Line.{AreNumberedFrom, Line, batches_above}
use Rattle.slate_store.specs.declared.objects.VersionedManifest.{VersionedManifest}
use Rattle.slate_replay.specs.declared.replays.Replayed.{Replayed}
use Rattle.slate_model.specs.Follower.{Follower, number}
use Rattle.slate_model.specs.declared.answers.PollAnswer.{PollAnswer}
use Rattle.slate_model.specs.Segments.{Extractor, segments_of}
use Rattle.slate_follow.specs.Joined.{AreFilled, joined}
use Rattle.slate_follow.specs.Rebuilding.{answer_of, unleased}
use Rattle.slate_follow.specs.declared.takings.Taken.TheInside.{Inside}

-- the batches that a reader keeps then, from the last number in tables on, their prefixes, the log file up to which it has replayed, and
-- how the replay ended
pub record Taking : Type 0 where
  pub line : Line
  pub segments : List (List ℕ)
  pub mark : ℕ
  pub replayed : Replayed

abbrev pub taking_of : Inside → Taking
taking_of a =
    record {
      line = record { floor = a.tabled; batches = joined a.tables.items };
      segments = a.segments;
      mark = a.mark;
      replayed = a.replayed;
    }

-- each table has a batch; the batches are numbered from the last number in tables on, up to its number
pub record IsTaken (a : Inside) : Type 0 where
  pub filled : AreFilled a.tables.items
  pub numbered : AreNumberedFrom a.tabled (joined a.tables.items)
  pub fits : a.tabled + length (joined a.tables.items) < 2 ^ 64
  pub number : a.number ≡ a.tabled + length (joined a.tables.items)

-- the reader that has it, and goes by a manifest
abbrev pub installed : VersionedManifest → Taking → Follower → Follower
installed view taking reader = record reader { view = view; line = taking.line; segments = taking.segments; mark = taking.mark }

-- its prefixes are those of its batches
abbrev pub HasOwn : Option Extractor → Taking → Type 0
HasOwn extractor taking = taking.segments ≡ segments_of extractor (batches_above taking.line.floor taking.line.batches)

-- a poll takes this, which makes a reader go by a manifest and answer so
abbrev pub GivesTaking : (Follower → PollAnswer → Type 0) → VersionedManifest → Follower → Taking → Type 0
GivesTaking Takes view reader taking =
    let new = installed view taking reader in
    Takes (unleased new) (answer_of taking.replayed (number new))
