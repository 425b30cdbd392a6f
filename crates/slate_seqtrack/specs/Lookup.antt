-- Looking an entry up in a list that never falls, and answering its partner.
use Rattle.std.specs.Prelude.{◌≡◌, ℕ, ◌<◌, false, true, Bool, List, length, Option, slice_index_or, MatchOption}
use Rattle.std.specs.declared.cmp.Ordering.{Ordering}
use Rattle.std.specs.Ordering.{is_eq, is_lt, is_le, is_gt, is_ge}
use Rattle.slate_seqtrack.specs.declared.pairs.FindOption.{FindOption}
use Rattle.slate_seqtrack.specs.declared.pairs.FindOption.TheVariants.{RoundUp, RoundDown}

-- whether an entry that compares so with what is sought may answer: it is equal, or on the side to which is rounded
abbrev pub may_answer : FindOption → Ordering → Bool
may_answer RoundUp order = is_ge order
may_answer RoundDown order = is_le order

-- whether an entry that compares so with another one lies nearer to what is sought
abbrev pub is_nearer : FindOption → Ordering → Bool
is_nearer RoundUp order = is_lt order
is_nearer RoundDown order = is_gt order

-- the entry at a place answers: none that may answer is nearer, and none before it is equal to it
pub record AnswersAt {K : Type 0} (cmp : K → K → Ordering) (find : FindOption) (sought : K) (keys : List K) (place : ℕ) : Type 0 where
  pub within : place < length keys
  pub answers : (d : K) → may_answer find (cmp (slice_index_or keys place d) sought) ≡ true
  pub nearest : (k : ℕ) (d : K) → k < length keys → may_answer find (cmp (slice_index_or keys k d) sought) ≡ true → is_nearer find (cmp (slice_index_or keys k d) (slice_index_or keys place d)) ≡ false
  pub first : (k : ℕ) (d : K) → k < place → is_eq (cmp (slice_index_or keys k d) (slice_index_or keys place d)) ≡ false

-- no entry may answer
abbrev pub NoneAnswers : {K : Type 0} → (K → K → Ordering) → FindOption → K → List K → Type 0
NoneAnswers {K} cmp find sought keys = (k : ℕ) (d : K) → k < length keys → may_answer find (cmp (slice_index_or keys k d) sought) ≡ false

-- the partner of the entry that answers, where one does
abbrev pub IsPartner : {K V : Type 0} → (K → K → Ordering) → FindOption → K → List K → List V → Option V → Type 0
IsPartner cmp find sought keys partners answer =
    MatchOption answer (NoneAnswers cmp find sought keys) (λ partner. (place : ℕ) × AnswersAt cmp find sought keys place × (slice_index_or partners place partner ≡ partner))
