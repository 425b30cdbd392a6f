-- Counts that stay at the greatest u64.
use Rattle.std.specs.Prelude.{ℕ, ◌+◌, ◌<◌, ◌≤◌, ◌⊎◌, min, nat_lt, if◌then◌else◌, Option, Some, None}

-- the greatest u64, at which a count stays
abbrev pub count_end : ℕ
count_end = 18446744073709551615

-- a count after one more, unless it stands at its end
abbrev pub one_more : ℕ → ℕ
one_more count = min (count + 1) count_end

-- A count has risen. One that stands at the end of its type counts as risen.
abbrev pub HasRisen : ℕ → ℕ → Type 0
HasRisen before after = (before < after) ⊎ (count_end ≤ after)

-- how many calls of something there were, and how often it has failed
pub record CallCounts : Type 0 where
  pub made : ℕ
  pub faults : ℕ

-- the number by which the next call is named: the first one is call 1, and at the end of the count a call has none
abbrev pub next_call : ℕ → Option ℕ
next_call made = if nat_lt made count_end then Some (made + 1) else None
