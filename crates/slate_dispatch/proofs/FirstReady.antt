-- The first of some tests that is true.
use Rattle.std.proofs.Common.{◌≡◌, ℕ, ◌<◌, arith, Bool, true, false, List, length, get_or, slice_get, Some, None, refl, ◌∙◌, ap}
use Rattle.std.specs.List.{position, position_or_len}
use Rattle.std.proofs.lemmas.Bool.Decides.{nat_tests}
use Rattle.std.proofs.lemmas.List.Sums.{position_or_len_is}
use Rattle.std.proofs.lemmas.Option.{slice_get-get_or}

-- none of the tests below an index is true
abbrev pub AreFalseBelow : ℕ → List Bool → Type 0
AreFalseBelow n tests = (k : ℕ) → k < n → get_or tests k false ≡ false

pub first-none : (tests : List Bool) (n : ℕ) → n ≡ length tests → AreFalseBelow n tests → position (λ test. test) tests ≡ None
first-none tests n all below =
    let at_end : position_or_len (λ test. test) tests ≡ n =
    position_or_len_is (λ test. test) tests n false (omega (arith, all)) below (λ h. absurd (omega (arith, all, h))) in
    grind (arith, nat_tests, at_end, all)

true_unless : (b : Bool) → (b ≡ false → ⊥) → b ≡ true
true_unless true h = refl
true_unless false h = absurd (h refl)

pub first-some : (tests : List Bool) (i : ℕ) → i < length tests → AreFalseBelow i tests → (slice_get tests i ≡ Some false → ⊥) → position (λ test. test) tests ≡ Some i
first-some tests i within below here =
    let passes : get_or tests i false ≡ true = true_unless _ (λ e. here (slice_get-get_or tests i false within ∙ ap Some e)) in
    let at_i : position_or_len (λ test. test) tests ≡ i =
    position_or_len_is (λ test. test) tests i false (omega arith) below (λ _. passes) in
    grind (arith, nat_tests, at_i)
