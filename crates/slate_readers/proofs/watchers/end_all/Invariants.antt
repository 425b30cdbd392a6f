use Rattle.std.proofs.Common.{◌≡◌, ◌<◌, ℕ, true, length}
use Rattle.std.specs.Prelude.{slice_index_or}
use Rattle.slate_readers.specs.Watching.{AreOf}
use Rattle.slate_readers.specs.declared.watchers.Watcher.{Watcher}
use Rattle.slate_readers.proofs.watchers.end_all.Given as goal

-- all are of the publisher, and those so far have seen what was published where a copy of the news could be made for each
abbrev pub invariant-loop-place : goal.invariant-loop-place
invariant-loop-place g l =
    record {
      same : l.publisher ≡ l.fn.publisher;
      of_it : AreOf l.fn.publisher l.watchers;
      seen : l.all ≡ true → (k : ℕ) (d : Watcher) → k < l.place → (slice_index_or l.watchers k d).reader ≡ l.fn.publisher;
    }
