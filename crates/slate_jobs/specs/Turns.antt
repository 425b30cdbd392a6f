-- When jobs may be claimed, and of each two of them the earlier.
use Rattle.std.specs.Prelude.{ℕ, zero, suc, ℤ, ◌+◌, ◌*◌, ◌≡◌, ◌≤◌, int_lt, Bool, true, false, if◌then◌else◌, List, [], ◌∷◌, length, Option, Some, None, Box}
use Rattle.std.specs.Int.{int_min}
use Rattle.std.specs.declared.alloc.Global.{Global}
use Rattle.slate_jobs.specs.declared.jobs.JobState.{JobState}
use Rattle.slate_jobs.specs.declared.jobs.JobState.TheVariants as states
use Rattle.slate_jobs.specs.declared.turns.Turn.{Turn}
use Rattle.slate_jobs.specs.declared.turns.Turn.TheVariants.{Now, After, Never}

-- when a job in a state may be claimed
abbrev pub turn_of : JobState → Turn
turn_of states.Waiting = Now
turn_of (states.Claimed token until) = After until
turn_of states.Done = Never

-- whether it has come at a moment
abbrev pub has_come : ℤ → Turn → Bool
has_come moment Now = true
has_come moment (After until) = int_lt until moment
has_come moment Never = false

-- the one that comes first
abbrev pub earlier : Turn → Turn → Turn
earlier Now other = Now
earlier Never other = other
earlier (After until) Now = Now
earlier (After until) Never = After until
earlier (After until) (After other) = After (int_min until other)

-- of each two of these the earlier, and the last one, where it stands alone
abbrev pub pairs : List Turn → List Turn
pairs [] = []
pairs (one ∷ []) = one ∷ []
pairs (one ∷ other ∷ turns) = earlier one other ∷ pairs turns

-- the place of the first of a pair that passes a test, where one does and it isn't the second
abbrev pub in_pair : (Turn → Bool) → (pair : ℕ) → Option Turn → Option ℕ
in_pair p pair None = None
in_pair p pair (Some turn) = if p turn then Some (2 * pair) else Some (2 * pair + 1)

-- the turns with this one at a place, also just after the last
abbrev pub put_at : List Turn → (place : ℕ) → Turn → List Turn
put_at [] place turn = turn ∷ []
put_at (first ∷ turns) zero turn = turn ∷ turns
put_at (first ∷ turns) (suc place) turn = first ∷ put_at turns place turn

-- there are none above turns, or there are at least two of these, and their pairs are above
abbrev pub ArePairs : List Turn → Option (Box (List Turn) Global) → Type 0
ArePairs turns None = Unit {0}
ArePairs turns (Some above) = (above.value ≡ pairs turns) × (2 ≤ length turns)
