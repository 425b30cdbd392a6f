-- The moments of a write by a clock that is read again only where that may help.
use Rattle.std.specs.Prelude.{◌≡◌, ℤ, Bool, List, Option, Some, None, IsSomeAnd, int_lt, true, false}
use Rattle.slate_types.specs.declared.batches.KeyOp.{KeyOp}
use Rattle.slate_errors.specs.declared.errors.SlateError.{SlateError}
use Rattle.slate_errors.specs.declared.errors.SlateError.TheVariants.{InvalidClockTick}
use Rattle.slate_model.specs.Handle.{Handle}
use Rattle.slate_model.specs.Segments.{Extractor}
use Rattle.slate_model.specs.Write.{write_refusal}

-- whether an error says that a moment lies below the tick
abbrev pub is_of_clock : SlateError → Bool
is_of_clock (InvalidClockTick last next) = true
is_of_clock error = false

-- The second moment of a write, where there is one: the clock answers it, and at the first one alone the tick refuses the
-- write, and nothing before it.
abbrev pub IsSecond : (ℤ → Type 0) → Option Extractor → Handle → List KeyOp → ℤ → Option ℤ → Type 0
IsSecond Answers extractor handle ops moment None = Unit {0}
IsSecond Answers extractor handle ops moment (Some second) =
    Answers second × IsSomeAnd (write_refusal extractor handle ops moment None) (λ error. is_of_clock error ≡ true)

-- The second moment of a commit: the clock answers it, exactly where the first one lies below the tick.
abbrev pub IsSecondBelow : (ℤ → Type 0) → ℤ → ℤ → Option ℤ → Type 0
IsSecondBelow Answers tick moment None = int_lt moment tick ≡ false
IsSecondBelow Answers tick moment (Some second) = Answers second × (int_lt moment tick ≡ true)
