-- The forms of a difference of differences, as they are written.
use Rattle.std.proofs.Common.{◌≡◌, refl, Option, None, Some, MatchOption, sym, ◌∙◌, ap, ℕ, ◌+◌, ◌^◌, ◌<◌, ◌≤◌, suc, true, false, nat_eq, ℤ, pos, negsuc, List, [], ◌∷◌, ◌++◌, ◌&&◌, map, length, get_or, drop, drop-cons, add-one, ◌-ℤ◌, Bool, Result, Ok, Err, MatchResult, IfOk, w32, arith}
use lib.Signed.{mag}
use Rattle.std.specs.List.{AllByRecursion}
use Rattle.std.specs.Option.{is_some}
use mir.Val.{of_z}
use Rattle.std.specs.Int.RustNames.{unsigned_abs}
use Rattle.std.proofs.lemmas.Bool.{lt-ltb, le-ltb}
use Rattle.std.proofs.lemmas.List.{append_assoc, append-nil, drop_all, drop-map}
use Rattle.std.proofs.lemmas.Int.{ints}
use Rattle.slate_seqtrack.specs.Bits.{low_bits, IsPadded}
use Rattle.slate_seqtrack.specs.Block.{in_0, in_7, in_9, in_12, in_32, IsFirstCode, IsSigned, IsUnsigned, AreLater, AreValues, fits_i32, fits_i64, later_fit, is_encodable}
use Rattle.slate_seqtrack.specs.Writing.{IsWriteFault, IsWrittenBlock}
use Rattle.slate_seqtrack.specs.declared.faults.TrackerFault.{TrackerFault}
use Rattle.slate_seqtrack.proofs.Binary.{length-low_bits}
use Rattle.slate_seqtrack.proofs.Twos.{IsSigned-32}

mag-abs : (z : ℤ) → mag z ≤ unsigned_abs z
mag-abs (pos n) = omega arith
mag-abs (negsuc n) = omega arith

differs : (n : ℕ) → 0 < n → nat_eq n 0 ≡ false
differs n some = grind arith

prefix-0 : low_bits 1 0 ≡ false ∷ []
unfolding low_bits
prefix-0 = refl

prefix-7 : low_bits 2 2 ≡ true ∷ false ∷ []
unfolding low_bits
prefix-7 = refl

prefix-9 : low_bits 3 6 ≡ true ∷ true ∷ false ∷ []
unfolding low_bits
prefix-9 = refl

prefix-12 : low_bits 4 14 ≡ true ∷ true ∷ true ∷ false ∷ []
unfolding low_bits
prefix-12 = refl

prefix-32 : low_bits 4 15 ≡ true ∷ true ∷ true ∷ true ∷ []
unfolding low_bits
prefix-32 = refl

none-0 : (value : ℕ) → low_bits 0 value ≡ []
unfolding low_bits
none-0 value = refl

pub first-0 : (z : ℤ) → unsigned_abs z ≡ 0 → IsFirstCode z (low_bits 1 0 ++ low_bits 0 (of_z w32 z))
first-0 (pos n) e = let zero_is : n ≡ 0 = e in rw (prefix-0, none-0, zero_is) (in_0 ([], refl, (refl, refl)), refl)
first-0 (negsuc n) e = absurd (omega arith)

pub first-7 : (z : ℤ) → 0 < unsigned_abs z → unsigned_abs z < 64 → IsFirstCode z (low_bits 2 2 ++ low_bits 7 (of_z w32 z))
first-7 z some small =
    rw (prefix-7, differs _ some, lt-ltb _ 64 small)
    (in_7 (low_bits 7 (of_z w32 z), refl, IsSigned-32 6 z (omega arith) (omega (arith, mag-abs z))), omega (arith, length-low_bits 7 (of_z w32 z)))

pub first-9 : (z : ℤ) → 64 ≤ unsigned_abs z → unsigned_abs z < 256 → IsFirstCode z (low_bits 3 6 ++ low_bits 9 (of_z w32 z))
first-9 z some small =
    let other : 0 < unsigned_abs z = omega arith in
    rw (prefix-9, differs _ other, le-ltb _ 64 some, lt-ltb _ 256 small)
    (in_9 (low_bits 9 (of_z w32 z), refl, IsSigned-32 8 z (omega arith) (omega (arith, mag-abs z))), omega (arith, length-low_bits 9 (of_z w32 z)))

pub first-12 : (z : ℤ) → 256 ≤ unsigned_abs z → unsigned_abs z < 2048 → IsFirstCode z (low_bits 4 14 ++ low_bits 12 (of_z w32 z))
first-12 z some small =
    let other : 0 < unsigned_abs z = omega arith in
    let past : 64 ≤ unsigned_abs z = omega arith in
    rw (prefix-12, differs _ other, le-ltb _ 64 past, le-ltb _ 256 some, lt-ltb _ 2048 small)
    (in_12 (low_bits 12 (of_z w32 z), refl, IsSigned-32 11 z (omega arith) (omega (arith, mag-abs z))), omega (arith, length-low_bits 12 (of_z w32 z)))

pub first-32 : (z : ℤ) → 2048 ≤ unsigned_abs z → mag z < 2 ^ 31 → IsFirstCode z (low_bits 4 15 ++ low_bits 32 (of_z w32 z))
first-32 z some small =
    let other : 0 < unsigned_abs z = omega arith in
    let past : 64 ≤ unsigned_abs z = omega arith in
    let past_next : 256 ≤ unsigned_abs z = omega arith in
    rw (prefix-32, differs _ other, le-ltb _ 64 past, le-ltb _ 256 past_next, le-ltb _ 2048 some)
    (in_32 (low_bits 32 (of_z w32 z), refl, IsSigned-32 31 z (omega arith) small), omega (arith, length-low_bits 32 (of_z w32 z)))

-- ---- the values after the first one, as far as they are written
pub record ArePushed (first : ℤ) (later : List ℤ) (start now : List Bool) (before previous : ℤ) (index : ℕ) : Type 0 where
  pub completes : (tail : List Bool) → AreLater IsFirstCode previous (previous -ℤ before) (drop index later) tail → (bits : List Bool) × AreLater IsFirstCode first (pos 0) later bits × (now ++ tail ≡ start ++ bits)
  pub fits : later_fit previous (previous -ℤ before) (drop index later) ≡ later_fit first (pos 0) later

itself : (z : ℤ) → z -ℤ z ≡ pos 0
itself z = omega (arith, ints)

pub ArePushed-init : (first : ℤ) (later : List ℤ) (start : List Bool) → ArePushed first later start start first first 0
ArePushed-init first later start = record {
  completes = λ tail are. (tail, rw itself at are, refl);
  fits = rw itself refl;
}

pub ArePushed-more : (first : ℤ) (later : List ℤ) (start now new code : List Bool) (before previous value : ℤ) (index : ℕ) → ArePushed first later start now before previous index →
    index < length later → value ≡ get_or later index value → fits_i32 ((value -ℤ previous) -ℤ (previous -ℤ before)) ≡ true →
    IsFirstCode ((value -ℤ previous) -ℤ (previous -ℤ before)) code → new ≡ now ++ code → ArePushed first later start new previous value (index + 1)
ArePushed-more first later start now new code before previous value index pushed lt at fits is new-is =
    let next : drop index later ≡ value ∷ drop (index + 1) later = rw (add-one, drop-cons later index value) (ap (λ v. v ∷ drop (suc index) later) (sym at)) in
    record {
      completes = λ tail are.
          let whole = pushed.completes (code ++ tail) (rw next (code, tail, refl, is, are)) in
          (whole.0, whole.1, rw new-is (append_assoc now code tail ∙ whole.2));
      fits = let all : later_fit previous (previous -ℤ before) (value ∷ drop (index + 1) later) ≡ later_fit first (pos 0) later = rw next at pushed.fits in rw fits at all;
    }

pub ArePushed-end : (first : ℤ) (later : List ℤ) (start now : List Bool) (before previous : ℤ) (index : ℕ) → ArePushed first later start now before previous index → length later ≤ index →
    (bits : List Bool) × AreLater IsFirstCode first (pos 0) later bits × (now ≡ start ++ bits) × (later_fit first (pos 0) later ≡ true)
ArePushed-end first later start now before previous index pushed end =
    let none : drop index later ≡ [] = drop_all index later end in
    let whole = pushed.completes [] (rw none refl) in
    (whole.0, whole.1, sym (append-nil now) ∙ whole.2, sym pushed.fits ∙ rw none refl)

-- each value is a number of 64 bits
pub all-fit : (values : List ℤ) → ((k : ℕ) → k < length values → fits_i64 (get_or values k (pos 0)) ≡ true) → AllByRecursion (λ value. fits_i64 value ≡ true) values
all-fit [] fit = tt
all-fit (v ∷ values) fit = (fit 0 (omega arith), all-fit values (λ k lt. fit (suc k) (omega arith)))

pub first-fits : {T : Type 0} {values later : List ℤ} {first : ℤ} (r : Result T TrackerFault) → values ≡ first ∷ later → fits_i64 first ≡ true →
    IfOk r (λ done. AllByRecursion (λ value. fits_i64 value ≡ true) later) → IfOk r (λ done. AllByRecursion (λ value. fits_i64 value ≡ true) values)
first-fits (Ok done) is fit others = rw is (fit, others)
first-fits (Err fault) is fit others = tt

-- a difference of differences that leaves 32 bits
pub ArePushed-fault : (first : ℤ) (later : List ℤ) (start now : List Bool) (before previous value : ℤ) (index : ℕ) → ArePushed first later start now before previous index →
    index < length later → value ≡ get_or later index value → fits_i32 ((value -ℤ previous) -ℤ (previous -ℤ before)) ≡ false → later_fit first (pos 0) later ≡ false
ArePushed-fault first later start now before previous value index pushed lt at fits =
    let next : drop index later ≡ value ∷ drop (index + 1) later = rw (add-one, drop-cons later index value) (ap (λ v. v ∷ drop (suc index) later) (sym at)) in
    sym pushed.fits ∙ rw (next, fits) refl

-- the first value, and then the others
pub AreValues-behind : {T : Type 0} (r : Result T TrackerFault) (values later : List ℤ) (first : ℤ) (start mid new front : List Bool) → values ≡ first ∷ later → IsSigned 64 first front → mid ≡ start ++ front →
    MatchResult r (λ _. (bits : List Bool) × AreLater IsFirstCode first (pos 0) later bits × (new ≡ mid ++ bits) × (later_fit first (pos 0) later ≡ true)) (IsWriteFault (later_fit first (pos 0) later)) →
    MatchResult r (λ _. (bits : List Bool) × AreValues IsFirstCode values bits × (new ≡ start ++ bits) × (is_encodable values ≡ true)) (IsWriteFault (is_encodable values))
AreValues-behind (Ok x) values later first start mid new front values-is signed mid-is (bits, are, new-is, fits) =
    rw values-is (front ++ bits, (front, bits, refl, signed, are), new-is ∙ ap (λ m. m ++ bits) mid-is ∙ append_assoc start front bits, fits)
AreValues-behind (Err e) values later first start mid new front values-is signed mid-is h = rw values-is h

-- a whole block
pub IsWrittenBlock-of : (values : List ℤ) (bytes : List ℕ) (counted all count bits : List Bool) → AreValues IsFirstCode values bits → IsUnsigned 32 (length values) count → counted ≡ [] ++ count → all ≡ counted ++ bits →
    IsPadded all bytes → IsWrittenBlock values bytes
IsWrittenBlock-of values bytes counted all count bits are is counted-is all-is padded = (all, (count, bits, all-is ∙ ap (λ c. c ++ bits) counted-is, is, are), padded)

-- ---- whether values fit
pub later_fit-next : {X : Type 0} (f : X → ℤ) (values : List X) (i : ℕ) (x : X) (previous delta : ℤ) → i < length values → get_or values i x ≡ x →
    later_fit previous delta (drop i (map f values)) ≡ (fits_i32 ((f x -ℤ previous) -ℤ delta) && later_fit (f x) (f x -ℤ previous) (drop (i + 1) (map f values)))
later_fit-next f values i x previous delta within at = rw (drop-map f i values, drop-map f (i + 1) values, add-one, drop-cons values i x within, at) refl

pub is_absent : {A : Type 0} (P : Type 0) (Q : A → Type 0) (found : Option A) → MatchOption found P Q → is_some found ≡ false → P
is_absent P Q None absent is = absent
is_absent P Q (Some x) there is = absurd (let e : true ≡ false = is in cc)

pub is_present : {A : Type 0} (P Q : Type 0) (R : A → Type 0) (found : Option A) → MatchOption found P (λ x. R x × Q) → is_some found ≡ true → Q
is_present P Q R None absent is = absurd (let e : false ≡ true = is in cc)
is_present P Q R (Some x) there is = there.1

pub go_on : {X : Type 0} (f : X → ℤ) (values : List X) (i : ℕ) (x : X) (whole : Bool) (previous delta : ℤ) → whole ≡ later_fit previous delta (drop i (map f values)) →
    i < length values → x ≡ get_or values i x → fits_i32 ((f x -ℤ previous) -ℤ delta) ≡ true → whole ≡ later_fit (f x) (f x -ℤ previous) (drop (i + 1) (map f values))
go_on f values i x whole previous delta is within at fits =
    is ∙ later_fit-next f values i x previous delta within (sym at) ∙ ap (λ b. b && later_fit (f x) (f x -ℤ previous) (drop (i + 1) (map f values))) fits

pub end_at : {X : Type 0} (f : X → ℤ) (values : List X) (i : ℕ) (x : X) (whole : Bool) (previous delta : ℤ) → whole ≡ later_fit previous delta (drop i (map f values)) →
    i < length values → x ≡ get_or values i x → fits_i32 ((f x -ℤ previous) -ℤ delta) ≡ false → false ≡ whole
end_at f values i x whole previous delta is within at wide =
    sym (is ∙ later_fit-next f values i x previous delta within (sym at) ∙ ap (λ b. b && later_fit (f x) (f x -ℤ previous) (drop (i + 1) (map f values))) wide)
