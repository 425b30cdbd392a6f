-- Each batch that a replay appends is in a log file that it reads.
use Rattle.std.proofs.Common.{◌≡◌, ℕ, zero, suc, ◌<◌, ◌⊎◌, inl, inr, List, [], ◌∷◌, ◌++◌, All, length, get_or, Some, subst, sym, arith}
use Rattle.std.specs.List.{Contains}
use Rattle.std.proofs.lemmas.List.Elements.{All-contains_itself, All-weaker, Contains-append_cases}
use Rattle.slate_types.specs.declared.batches.Batch.{Batch}
use Rattle.slate_store.specs.Logs.{IsLogged}
use Rattle.slate_store.specs.Objects.{Objects, log_at}
use Rattle.slate_replay.specs.Replay.{AreFrom}

only : (b x : Batch) → Contains (b ∷ []) x → b ≡ x
only b x (zero, less, is) = is
only b x (suc k, less, is) = absurd (omega (arith, less))

nothing : (x : Batch) → Contains {X = Batch} [] x → ⊥
nothing x (k, less, is) = omega (arith, less)

-- the next batch of a list is one of it
pub from-push : (old m all : List Batch) (i : ℕ) (b : Batch) → AreFrom (Contains all) old m → i < length all → b ≡ get_or all i b → AreFrom (Contains all) old (m ++ b ∷ [])
from-push old m all i b so_far less is x has = elim (Contains-append_cases m (b ∷ []) x has) [
  | inl before ↦ so_far x before
  | inr here ↦ inr (i, less, sym (subst (λ (y : Batch). y ≡ get_or all i y) (only b x here) is))
]

-- what is of a log file above a mark
pub from-log : (mark id : ℕ) (o : Objects) (log old new : List Batch) → mark < id → log_at id o ≡ Some log → AreFrom (Contains log) old new → AreFrom (IsLogged mark o) old new
from-log mark id o log old new above stored from x has = elim (from x has) [
  | inl before ↦ inl before
  | inr here ↦ inr (record { id = id; log = log; above = above; stored = stored; has = here })
]

pub from-then : (P : Batch → Type 0) (a b c : List Batch) → AreFrom P a b → AreFrom P b c → AreFrom P a c
from-then P a b c first second x has = elim (second x has) [ inl before ↦ first x before | inr here ↦ inr here ]

pub from-nothing : (P : Batch → Type 0) (new : List Batch) → AreFrom P [] new → All P new
from-nothing P new from =
    All-weaker (Contains new) P (λ x has. elim (from x has) as (λ _. P x) [ inl before ↦ absurd (nothing x before) | inr here ↦ here ]) new (All-contains_itself new)
