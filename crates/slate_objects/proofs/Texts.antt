-- Whether bytes are text, as a test.
use Rattle.std.proofs.Common.{◌≡◌, ℕ, Bool, true, false, List, refl}
use Rattle.std.specs.Str.{IsUtf8, is_utf8}
use Rattle.std.proofs.lemmas.Str.{IsUtf8-from_is_utf8, is_utf8-from_IsUtf8}

pub text : (bytes : List ℕ) → IsUtf8 bytes → is_utf8 bytes ≡ true
text bytes is = is_utf8-from_IsUtf8 bytes is

is_false : (b : Bool) → (b ≡ true → ⊥) → b ≡ false
is_false true isnt = absurd (isnt refl)
is_false false isnt = refl

pub no_text : (bytes : List ℕ) → (IsUtf8 bytes → ⊥) → is_utf8 bytes ≡ false
no_text bytes isnt = is_false (is_utf8 bytes) (λ is. isnt (IsUtf8-from_is_utf8 bytes is))
