-- What a sequence tracker keeps, and what inserting does to it.
use Rattle.std.specs.Prelude.{ℕ, ℤ, pos, ◌+ℤ◌, int_lt, Bool, false, if◌then◌else◌, nat_lt, ◌==◌, List, [], ◌∷◌, ◌++◌, map, Option, None, Some, Result, Ok, Err}
use Rattle.std.specs.Cmp.Lexicographic.{pointwise}
use Rattle.std.specs.Ordering.{on, eq_of_both, int_eq}
use Rattle.slate_seqtrack.specs.Thinning.{thinned}
use Rattle.slate_seqtrack.specs.declared.faults.TrackerFault.{TrackerFault}
use Rattle.slate_seqtrack.specs.declared.faults.TrackerFault.TheVariants.{FallingNumber}
use Rattle.slate_seqtrack.specs.declared.pairs.TrackedSeq.{TrackedSeq}

-- interval and times are in seconds; recorded is the time of the last pair that was recorded, which may have been
-- thinned out
pub record Tracker : Type 0 where
  pub capacity : ℕ
  pub interval : ℕ
  pub pairs : List TrackedSeq
  pub recorded : Option ℤ

-- a tracker without a pair
abbrev pub fresh : ℕ → ℕ → Tracker
fresh capacity interval = record { capacity = capacity; interval = interval; pairs = []; recorded = None }

abbrev pub numbers_of : Tracker → List ℕ
numbers_of tracker = map (λ p. p.seq) tracker.pairs

abbrev pub times_of : Tracker → List ℤ
times_of tracker = map (λ p. p.ts) tracker.pairs

-- equality leaves the last recorded time out
abbrev pub same_tracker : Tracker → Tracker → Bool
same_tracker =
    eq_of_both (on (λ t. t.capacity) ◌==◌) (eq_of_both (on (λ t. t.interval) ◌==◌)
    (eq_of_both (on numbers_of (pointwise ◌==◌)) (on times_of (pointwise int_eq))))

-- two lists, as pairs
abbrev pub paired : List ℕ → List ℤ → List TrackedSeq
paired [] times = []
paired (n ∷ numbers) [] = []
paired (n ∷ numbers) (t ∷ times) = record { seq = n; ts = t } ∷ paired numbers times

-- whether a time is less than the interval after the last recorded one
abbrev pub is_early : ℕ → Option ℤ → ℤ → Bool
is_early interval None time = false
is_early interval (Some recorded) time = int_lt time (recorded +ℤ pos interval)

-- the number of the last pair
abbrev pub last_number : List TrackedSeq → Option ℕ
last_number [] = None
last_number (p ∷ []) = Some p.seq
last_number (p ∷ q ∷ pairs) = last_number (q ∷ pairs)

-- with one pair more, as far as there is room for
abbrev pub recording : Tracker → TrackedSeq → Tracker
recording tracker pair = record {
  capacity = tracker.capacity;
  interval = tracker.interval;
  pairs = thinned tracker.capacity (tracker.pairs ++ pair ∷ []);
  recorded = Some pair.ts;
}

abbrev pub recording_above : Option ℕ → Tracker → TrackedSeq → Result Tracker TrackerFault
recording_above None tracker pair = Ok (recording tracker pair)
recording_above (Some number) tracker pair = if nat_lt pair.seq number then Err (FallingNumber number pair.seq) else Ok (recording tracker pair)

-- a pair that comes early is dropped; else a number below the last one is refused, and any other is recorded
abbrev pub inserted : Tracker → TrackedSeq → Result Tracker TrackerFault
inserted tracker pair = if is_early tracker.interval tracker.recorded pair.ts then Ok tracker else recording_above (last_number tracker.pairs) tracker pair

-- pairs inserted in order, up to the first that is refused
abbrev pub extended : Tracker → List TrackedSeq → Tracker × Option TrackerFault
extended tracker [] = (tracker, None)
extended tracker (pair ∷ pairs) = elim (inserted tracker pair) [ Ok after ↦ extended after pairs | Err fault ↦ (tracker, Some fault) ]
