-- A text of several parts that fails midway keeps what stood before them.
use Rattle.std.proofs.Common.{◌≡◌, ℕ, List, ◌++◌, length, take, Result, Ok, Err}
use Rattle.std.specs.Result.{OnErr}
use Rattle.slate_text.proofs.AppendLemmas.{kept_front}

-- what keeps a text at an error keeps what the text begins with
pub kept_on_err : {T E : Type 0} (old text middle new : List ℕ) (r : Result T E) → middle ≡ old ++ text → OnErr r (take (length middle) new ≡ middle) → OnErr r (take (length old) new ≡ old)
kept_on_err old text middle new (Ok value) is kept = tt
kept_on_err old text middle new (Err error) is kept = kept_front old text middle new is kept

-- the same of a text behind three others
pub kept_behind_three : {T E : Type 0} (old a b c one two three new : List ℕ) (r : Result T E) → one ≡ old ++ a → two ≡ one ++ b → three ≡ two ++ c
    → OnErr r (take (length three) new ≡ three) → OnErr r (take (length old) new ≡ old)
kept_behind_three old a b c one two three new r p q s kept =
    kept_on_err old a one new r p (kept_on_err one b two new r q (kept_on_err two c three new r s kept))
