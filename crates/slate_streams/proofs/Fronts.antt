-- Pieces that are taken one after another make one front.
use Rattle.std.proofs.Common.{◌≡◌, ℕ, ◌+◌, ◌-◌, List, ◌++◌, length, take, drop, sym, append_assoc}
use Rattle.std.proofs.lemmas.List.{drop-drop, take-append-drop, take_rest}
use Rattle.std.proofs.Math.Seq.{take-append_seam, take-add}

-- what is left is its front, and what is left behind that
split_left : (n start : ℕ) (bytes : List ℕ) → take n (drop start bytes) ++ drop (start + n) bytes ≡ drop start bytes
split_left n start bytes = rw (← drop-drop n start bytes) (take-append-drop n (drop start bytes))

-- bytes that were copied from the front of what is left stand at the front of the buffer
pub front_copied : (n start : ℕ) (bytes front behind : List ℕ) → front ≡ take n (drop start bytes) → length front ≡ n → drop start bytes ≡ take n (front ++ behind) ++ drop (start + n) bytes
front_copied n start bytes front behind is len =
    let seam : take n (front ++ behind) ≡ front = rw len at (take-append_seam front behind) in
    rw (seam, is) (sym (split_left n start bytes))

-- what was taken, and then more of what was left
pub more_taken : (bytes more left left' left'' : List ℕ) → left ≡ bytes ++ left' → left' ≡ more ++ left'' → left ≡ (bytes ++ more) ++ left''
more_taken bytes more left left' left'' e h = rw (append_assoc, ← h) e

-- what was written of a text, and then more of the rest
pub more_written : (n m : ℕ) (text old written new : List ℕ) → written ≡ old ++ take n text → new ≡ written ++ take m (take (length text - n) (drop n text)) → new ≡ old ++ take (n + m) text
more_written n m text old written new e h = rw (take-add, ← append_assoc, ← e) (rw take_rest at h)
