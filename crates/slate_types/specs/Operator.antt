-- What merge operators answer, and which are lawful.
use Rattle.std.specs.Prelude.{◌≡◌, ℕ, List, ◌++◌, Option, Some, None, Result, Ok, Err}
use Rattle.slate_types.specs.declared.operators.MergeFault.{MergeFault}
use Rattle.slate_types.specs.declared.operators.MergeFault.TheVariants.{Refused, NoMemory}

-- the value that an operator makes of a key, the value so far and an operand; None where it refuses
abbrev pub Merge : Type 0
Merge = List ℕ → Option (List ℕ) → List ℕ → Option (List ℕ)

-- what was answered is one of the answers that there may be, want of memory aside
abbrev pub Merges : (Option (List ℕ) → Type 0) → Result (List ℕ) MergeFault → Type 0
Merges may_answer (Ok value) = may_answer (Some value)
Merges may_answer (Err Refused) = may_answer None
Merges may_answer (Err NoMemory) = Unit {0}

-- an operator is lawful, with this function, where it answers what the function gives and nothing else
abbrev pub IsLawful : {M : Type 0} → (M → List ℕ → Option (List ℕ) → List ℕ → Option (List ℕ) → Type 0) → M → Merge → Type 0
IsLawful may_answer operator merge =
    (key : List ℕ) (existing : Option (List ℕ)) (operand : List ℕ) (answer : Option (List ℕ)) →
    may_answer operator key existing operand answer → answer ≡ merge key existing operand

-- appends each operand, and never refuses
abbrev pub concat : Merge
concat key None operand = Some operand
concat key (Some existing) operand = Some (existing ++ operand)
