-- Writing a number, byte after byte.
use Rattle.std.proofs.Common.{◌≡◌, ℕ, zero, suc, ◌+◌, ◌*◌, ◌/◌, ◌%◌, ◌^◌, ◌<◌, ◌≤◌, List, [], ◌∷◌, ◌++◌, Result, sym, ap, ◌∙◌, refl, append_assoc, arith}
use Rattle.std.specs.Prelude.{OnOk}
use Rattle.std.proofs.lemmas.Bool.{lt-ltb, le-ltb}
use Rattle.std.proofs.lemmas.Grind.{pow_more}
use Rattle.slate_objects.specs.Spelling.{digits}
use Rattle.slate_objects.proofs.Writing.{on_ok}

pub last_digit : (left n : ℕ) → n < 128 → digits (suc left) n ≡ n ∷ []
last_digit left n small = rw (lt-ltb n 128 small) refl

pub first_digit : (left n : ℕ) → 128 ≤ n → digits (suc left) n ≡ (n % 128 + 128) ∷ digits left (n / 128)
first_digit left n large = rw (le-ltb n 128 large) refl

pub more_written : {E : Type 0} (old new : List ℕ) (n left : ℕ) (r : Result (Unit {0}) E) → 128 ≤ n → n < 128 ^ suc left
    → ((k : ℕ) → n / 128 < 128 ^ suc k → OnOk r (new ≡ (old ++ (n % 128 + 128) ∷ []) ++ digits (suc k) (n / 128)))
    → OnOk r (new ≡ old ++ digits (suc left) n)
more_written old new n zero r large lt given = absurd (omega (arith, lt))
more_written old new n (suc k) r large lt given =
    let more : 128 ^ (suc k + 1) ≡ 128 ^ suc k * 128 = pow_more 128 (suc k) in
    let lt' : n / 128 < 128 ^ suc k = omega arith in
    on_ok r (given k lt') (λ e.
    e ∙ append_assoc old ((n % 128 + 128) ∷ []) (digits (suc k) (n / 128)) ∙ ap (λ (d : List ℕ). old ++ d) (sym (first_digit (suc k) n large)))
