-- Texts written one behind another.
use Rattle.std.proofs.Common.{◌≡◌, ℕ, ◌≤◌, List, ◌++◌, length, take, refl, sym, ap, ◌∙◌, arith, append_assoc, Result, Ok, Err}
use Rattle.std.specs.Result.{OnErr}
use Rattle.std.proofs.lemmas.List.{take_at, take-take, length-append}

-- five texts behind an old one
pub five_written : (a b c d e old one two three four five : List ℕ) → one ≡ old ++ a → two ≡ one ++ b → three ≡ two ++ c → four ≡ three ++ d → five ≡ four ++ e
    → five ≡ old ++ (a ++ b ++ c ++ d ++ e)
five_written a b c d e old one two three four five p q r s t = rw (t, s, r, q, p) (simp append_assoc)

-- what keeps a text keeps what the text begins with
pub kept_front : (old text middle new : List ℕ) → middle ≡ old ++ text → take (length middle) new ≡ middle → take (length old) new ≡ old
kept_front old text middle new is kept =
    let shorter : length old ≤ length middle = omega (arith, ap length is, length-append old text) in
    sym (take-take (length old) (length middle) new shorter) ∙ ap (take (length old)) (kept ∙ is) ∙ take_at old text (length old) refl

-- what holds, holds at an error
pub always_on_err : {T E P : Type 0} (r : Result T E) → P → OnErr r P
always_on_err (Ok value) h = tt
always_on_err (Err error) h = h
