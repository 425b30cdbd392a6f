-- Readers that watch what is published.
use Rattle.std.specs.Prelude.{◌≡◌, ℕ, ◌<◌, List, [], length, Option, Some, None, slice_index_or}
use Rattle.slate_published.specs.Beginnings.{Beginning}
use Rattle.slate_readers.specs.declared.watchers.Watcher.{Watcher}

-- the last news tell what was published; where there are none, nothing was
abbrev pub IsTold : Beginning → Option Beginning → Type 0
IsTold published (Some news) = news ≡ published
IsTold published None = published.states ≡ []

-- as many as before, each of the call of which it was
abbrev pub StayOf : List Watcher → List Watcher → Type 0
StayOf watchers watchers' =
    (k : ℕ) (d : Watcher) → k < length watchers → ((slice_index_or watchers' k d).reader).origin ≡ ((slice_index_or watchers k d).reader).origin

-- they were made with this publisher
abbrev pub AreOf : Beginning → List Watcher → Type 0
AreOf published watchers = (k : ℕ) (d : Watcher) → k < length watchers → ((slice_index_or watchers k d).reader).origin ≡ published.origin
