-- Blocks as bytes: what is read is a block, and a block is read again, whatever follows.
use Rattle.std.proofs.Common.{◌≡◌, refl, sym, ◌∙◌, ap, ℕ, ◌+◌, ◌-◌, ◌*◌, ◌/◌, ◌≤◌, suc, ℤ, pos, ◌-ℤ◌, Bool, true, List, [], ◌∷◌, ◌++◌, length, take, drop, Result, Ok, Err, MatchResult, IfOk, inl, inr, ◌&&◌, arith}
use Rattle.std.specs.List.{AllByRecursion}
use Rattle.std.proofs.lemmas.List.{append_assoc, length-append, length-take, length-drop, take-append-drop}
use Rattle.std.proofs.Math.Seq.{take-append_seam}
use Rattle.slate_seqtrack.specs.declared.faults.TrackerFault.{TrackerFault}
use Rattle.slate_seqtrack.specs.Bits.{bits_of}
use Rattle.slate_seqtrack.specs.Block.{fits_i64, IsCode, IsFirstCode, AreLater, AreValues, IsBlock, BeginsWithBlock}
use Rattle.std.specs.Int.{w32, to_le_bytes}
use Rattle.slate_seqtrack.specs.Writing.{IsWrittenBlock}
use Rattle.slate_seqtrack.specs.Bytes.{as_signed, AreTrackerBytes}
use Rattle.slate_seqtrack.specs.Reading.{counted_at, taken, block_at, IsReadFault}
use Rattle.slate_seqtrack.specs.declared.faults.TrackerFault.TheVariants.{NoMemory}
use Rattle.slate_seqtrack.proofs.Binary.{length-bits_of, bits_of-append}
use Rattle.slate_seqtrack.proofs.Grammar.{ok-is, number_of-lt, counted-found, counted-again}

pub whole-bytes : (bytes : List ℕ) (values : List ℤ) (rest : List Bool) → counted_at (bits_of bytes) ≡ Ok (values, rest) → length rest / 8 ≤ length bytes
whole-bytes bytes values rest e =
    let found = counted-found (bits_of bytes) rest values e in
    omega (arith, length-bits_of bytes, ap length found.1, length-append found.0 rest)

take-past : (front rest : List Bool) (k : ℕ) → take (length front + k) (front ++ rest) ≡ front ++ take k rest
take-past [] rest k = let z : 0 + k ≡ k = omega arith in ap (λ n. take n rest) z
take-past (b ∷ front) rest k = let s : suc (length front) + k ≡ suc (length front + k) = omega arith in rw s (ap (λ bits. b ∷ bits) (take-past front rest k))

-- the front of two parts, where the first part of other two is no longer
front-part : (a b front rest : List Bool) → a ++ b ≡ front ++ rest → length b ≤ length rest → a ≡ front ++ take (length a - length front) rest
front-part a b front rest e short =
    let size : length a ≡ length front + (length a - length front) = omega (arith, ap length e, length-append a b, length-append front rest) in
    sym (take-append_seam a b) ∙ ap (take (length a)) e ∙ ap (λ n. take n (front ++ rest)) size ∙ take-past front rest (length a - length front)

pub block-found : (bytes : List ℕ) (values : List ℤ) (size : ℕ) → block_at bytes ≡ Ok (values, size) → BeginsWithBlock bytes values size
block-found bytes values size e = go (counted_at (bits_of bytes)) refl e where
  read-is : (rest : List Bool) → counted_at (bits_of bytes) ≡ Ok (values, rest) → size ≡ length bytes - length rest / 8 → BeginsWithBlock bytes values size
  read-is rest at size-is =
      let found = counted-found (bits_of bytes) rest values at in
      let within : length rest / 8 ≤ length bytes = whole-bytes bytes values rest at in
      let parts : bits_of (take size bytes) ++ bits_of (drop size bytes) ≡ found.0 ++ rest = sym (bits_of-append (take size bytes) (drop size bytes)) ∙ ap bits_of (take-append-drop size bytes) ∙ found.1 in
      let back : length (bits_of (drop size bytes)) ≡ 8 * (length rest / 8) = omega (arith, length-bits_of (drop size bytes), length-drop size bytes) in
      let front = front-part (bits_of (take size bytes)) (bits_of (drop size bytes)) found.0 rest parts (omega arith) in
      let counted = found.2 in
      record {
        inside = omega arith;
        few = let h = number_of-lt counted.0 in rw (counted.3.0, counted.3.1) at h;
        fit = found.3;
        block = (
          found.0,
          take (length (bits_of (take size bytes)) - length found.0) rest,
          front,
          omega (arith, length-take (length (bits_of (take size bytes)) - length found.0) rest, ap length parts, length-append (bits_of (take size bytes)) (bits_of (drop size bytes)), length-append found.0 rest),
          counted,
        );
      }

  go : (r : Result (List ℤ × List Bool) TrackerFault) → counted_at (bits_of bytes) ≡ r → taken (length bytes) r ≡ Ok (values, size) → BeginsWithBlock bytes values size
  go (Ok read) at e =
      let same = ok-is e in
      read-is read.1 (at ∙ ap (λ (p : List ℤ × ℕ). Ok (p.0, read.1)) same) (sym (ap (λ (p : List ℤ × ℕ). p.1) same))
  go (Err fault) at e = cc

pub block-again : (values : List ℤ) (bytes rest : List ℕ) → IsBlock values bytes → AllByRecursion (λ v. fits_i64 v ≡ true) values → block_at (bytes ++ rest) ≡ Ok (values, length bytes)
block-again values bytes rest (bits, padding, is, short, counted) fit =
    let whole : bits_of (bytes ++ rest) ≡ bits ++ (padding ++ bits_of rest) = bits_of-append bytes rest ∙ ap (λ b. b ++ bits_of rest) is ∙ append_assoc bits padding (bits_of rest) in
    let size : length (bytes ++ rest) - length (padding ++ bits_of rest) / 8 ≡ length bytes = omega (arith, length-append bytes rest, length-append padding (bits_of rest), length-bits_of rest) in
    ap (λ b. taken (length (bytes ++ rest)) (counted_at b)) whole ∙ ap (taken (length (bytes ++ rest))) (counted-again values bits (padding ++ bits_of rest) counted fit) ∙ ap (λ n. Ok (values, n)) size

-- ---- what is written is a block
later-written : (previous delta : ℤ) (values : List ℤ) (bits : List Bool) → AreLater IsFirstCode previous delta values bits → AreLater IsCode previous delta values bits
later-written previous delta [] bits are = are
later-written previous delta (value ∷ values) bits (code, later, is, first, are) = (code, later, is, first.0, later-written value (value -ℤ previous) values later are)

values-written : (values : List ℤ) (bits : List Bool) → AreValues IsFirstCode values bits → AreValues IsCode values bits
values-written [] bits are = are
values-written (value ∷ values) bits (first, later, is, signed, are) = (first, later, is, signed, later-written value (pos 0) values later are)

pub block-written : (values : List ℤ) (bytes : List ℕ) → IsWrittenBlock values bytes → IsBlock values bytes
block-written values bytes (bits, (count, rest, is, number, are), (padding, whole, short, none)) = (bits, padding, whole, short, (count, rest, is, number, values-written values rest are))

-- ---- what a call that reads a block answers
pub answer-found : {T : Type 0} (r : Result T TrackerFault) (size : T → ℕ) (items : T → List ℤ) (bytes : List ℕ) →
    MatchResult r (λ read. block_at bytes ≡ Ok (items read, size read)) (IsReadFault (block_at bytes)) → IfOk r (λ read. BeginsWithBlock bytes (items read) (size read))
answer-found (Ok read) size items bytes e = block-found bytes (items read) (size read) e
answer-found (Err fault) size items bytes e = tt

pub answer-only : {T : Type 0} (r : Result T TrackerFault) (size : T → ℕ) (items : T → List ℤ) (buf : List ℕ) →
    MatchResult r (λ read. block_at buf ≡ Ok (items read, size read)) (IsReadFault (block_at buf)) →
    (values : List ℤ) (bytes rest : List ℕ) → IsBlock values bytes → AllByRecursion (λ v. fits_i64 v ≡ true) values → buf ≡ bytes ++ rest →
    MatchResult r (λ read. (items read ≡ values) × (size read ≡ length bytes)) (λ fault. fault ≡ NoMemory)
answer-only (Ok read) size items buf e values bytes rest block fit buf-is =
    let same = ok-is (sym e ∙ ap block_at buf-is ∙ block-again values bytes rest block fit) in
    (ap (λ (p : List ℤ × ℕ). p.0) same, ap (λ (p : List ℤ × ℕ). p.1) same)
answer-only (Err fault) size items buf (inl e) values bytes rest block fit buf-is = let no = sym e ∙ ap block_at buf-is ∙ block-again values bytes rest block fit in cc
answer-only (Err fault) size items buf (inr e) values bytes rest block fit buf-is = e

-- ---- the bytes of a tracker, as they are put together
pub AreTrackerBytes-of : (numbers : List ℕ) (times : List ℤ) (none version size f s bytes headed whole : List ℕ) (first second : List ℕ) → none ≡ [] → version ≡ none ++ 1 ∷ [] →
    size ≡ to_le_bytes w32 (length numbers) → headed ≡ version ++ size → f ≡ first → bytes ≡ headed ++ f → s ≡ second → whole ≡ bytes ++ s →
    IsWrittenBlock (as_signed numbers) first → IsWrittenBlock times second → AreTrackerBytes IsWrittenBlock numbers times whole
AreTrackerBytes-of numbers times none version size f s bytes headed whole first second none-is version-is size-is headed-is f-is bytes-is s-is whole-is one two =
    (first, second, rw (whole-is, bytes-is, headed-is, version-is, none-is, size-is, f-is, s-is) (ap (λ b. 1 ∷ b) (append_assoc (to_le_bytes w32 (length numbers)) first second)), one, two)

pub both : {a b : Bool} → a ≡ true → b ≡ true → (a && b) ≡ true
both {a} {b} e f = rw (e, f) refl
