-- What a tracker keeps where its last pair stays alone.
use Rattle.std.proofs.Common.{◌≡◌, refl, ap, ◌∙◌, ℕ, suc, ◌≤◌, Bool, true, false, ℤ, ◌≤ℤ◌, List, [], ◌∷◌, ◌++◌, map, length, Option, None, Some, All, if◌then◌else◌, arith}
use Rattle.std.specs.Int.{w64, cast_signed}
use Rattle.slate_seqtrack.specs.Block.{is_encodable}
use Rattle.slate_seqtrack.specs.Bytes.{has_bytes, packed}
use Rattle.slate_seqtrack.specs.Kept.{IsKeptTracker, AreRecorded}
use Rattle.slate_seqtrack.specs.Thinning.{last_alone}
use Rattle.slate_seqtrack.specs.Tracker.{Tracker, paired}
use Rattle.slate_seqtrack.specs.declared.pairs.TrackedSeq.{TrackedSeq}

pub last_alone-push : {X : Type 0} (xs : List X) (x : X) → last_alone (xs ++ x ∷ []) ≡ x ∷ []
last_alone-push [] x = refl
last_alone-push (y ∷ []) x = refl
last_alone-push (y ∷ z ∷ xs) x = last_alone-push (z ∷ xs) x

length-last_alone : {X : Type 0} (xs : List X) → (length (last_alone xs) ≤ 1) × (length (last_alone xs) ≤ length xs)
length-last_alone [] = (omega arith, omega arith)
length-last_alone (x ∷ []) = (omega arith, omega arith)
length-last_alone (x ∷ y ∷ xs) = let rest = length-last_alone (y ∷ xs) in (rest.0, omega arith)

same-last_alone : {X Y : Type 0} (xs : List X) (ys : List Y) → length ys ≡ length xs → length (last_alone ys) ≡ length (last_alone xs)
same-last_alone [] [] same = refl
same-last_alone [] (y ∷ ys) same = absurd (omega arith)
same-last_alone (x ∷ xs) [] same = absurd (omega arith)
same-last_alone (x ∷ []) (y ∷ []) same = refl
same-last_alone (x ∷ []) (y ∷ z ∷ ys) same = absurd (omega arith)
same-last_alone (x ∷ w ∷ xs) (y ∷ []) same = absurd (omega arith)
same-last_alone (x ∷ w ∷ xs) (y ∷ z ∷ ys) same = same-last_alone (w ∷ xs) (z ∷ ys) (omega arith)

All-last_alone : (P : ℤ → Type 0) (xs : List ℤ) → All P xs → All P (last_alone xs)
All-last_alone P [] all = all
All-last_alone P (x ∷ []) all = all
All-last_alone P (x ∷ y ∷ xs) all = All-last_alone P (y ∷ xs) (λ k d lt. all (suc k) d (omega arith))

recorded-last_alone : (recorded : Option ℤ) (times : List ℤ) → AreRecorded recorded times → AreRecorded recorded (last_alone times)
recorded-last_alone None times none = ap last_alone none
recorded-last_alone (Some last) times all = All-last_alone (λ time. time ≤ℤ last) times all

pub IsKeptTracker-alone : (capacity : ℕ) (recorded : Option ℤ) (ns ns' : List ℕ) (ts ts' : List ℤ) (a a' b b' : ℕ) → IsKeptTracker capacity recorded ns ts a b →
    ns' ≡ last_alone ns → ts' ≡ last_alone ts → a' ≡ a → b' ≡ b → IsKeptTracker capacity recorded ns' ts' a' b'
IsKeptTracker-alone capacity recorded ns ns' ts ts' a a' b b' kept ns-is ts-is a-is b-is =
    let numbers = length-last_alone ns in
    let times = length-last_alone ts in
    let short-numbers : length (last_alone ns) ≤ 1 = numbers.0 in
    let short-times : length (last_alone ts) ≤ 1 = times.0 in
    let fewer-numbers : length (last_alone ns) ≤ length ns = numbers.1 in
    let fewer-times : length (last_alone ts) ≤ length ts = times.1 in
    rw (ns-is, ts-is, a-is, b-is)
    (record {
      paired = same-last_alone ns ts kept.paired;
      few = let few = kept.few in omega arith;
      room_for_numbers = (kept.room_for_numbers.0, let room = kept.room_for_numbers.1 in omega arith);
      room_for_times = (kept.room_for_times.0, let room = kept.room_for_times.1 in omega arith);
      numbers_rise = λ k d h lt. absurd (omega arith);
      times_rise = λ k d h lt. absurd (omega arith);
      before = recorded-last_alone recorded ts kept.before;
    })

pub paired-alone : (ns : List ℕ) (ts : List ℤ) → length ts ≡ length ns → paired (last_alone ns) (last_alone ts) ≡ last_alone (paired ns ts)
paired-alone [] [] same = refl
paired-alone [] (t ∷ ts) same = absurd (omega arith)
paired-alone (n ∷ ns) [] same = absurd (omega arith)
paired-alone (n ∷ []) (t ∷ []) same = refl
paired-alone (n ∷ []) (t ∷ u ∷ ts) same = absurd (omega arith)
paired-alone (n ∷ m ∷ ns) (t ∷ []) same = absurd (omega arith)
paired-alone (n ∷ m ∷ ns) (t ∷ u ∷ ts) same = paired-alone (m ∷ ns) (u ∷ ts) (omega arith)

-- ---- one pair can be written
alone-encodable : {X Y : Type 0} (f : Y → ℤ) (g : X → Y) (xs : List X) → is_encodable (map f (map g (last_alone xs))) ≡ true
alone-encodable f g [] = refl
alone-encodable f g (x ∷ []) = refl
alone-encodable f g (x ∷ y ∷ xs) = alone-encodable f g (y ∷ xs)

times-encodable : (pairs : List TrackedSeq) → is_encodable (map (λ (p : TrackedSeq). p.ts) (last_alone pairs)) ≡ true
times-encodable [] = refl
times-encodable (p ∷ []) = refl
times-encodable (p ∷ q ∷ pairs) = times-encodable (q ∷ pairs)

pub packed-has_bytes : (tracker packed : Tracker) → packed ≡ record tracker { pairs = last_alone tracker.pairs } → has_bytes packed ≡ true
packed-has_bytes tracker packed is = rw (is, alone-encodable (cast_signed w64) (λ (p : TrackedSeq). p.seq) tracker.pairs, times-encodable tracker.pairs) refl

-- a tracker is packed once
has_bytes-packed : (tracker : Tracker) → has_bytes (packed tracker) ≡ true
has_bytes-packed tracker = go (has_bytes tracker) refl where
  go : (b : Bool) → has_bytes tracker ≡ b → has_bytes (packed tracker) ≡ true
  go true is = ap (λ b. has_bytes (if b then tracker else record tracker { pairs = last_alone tracker.pairs })) is ∙ is
  go false is = ap (λ b. has_bytes (if b then tracker else record tracker { pairs = last_alone tracker.pairs })) is ∙ packed-has_bytes tracker (record tracker { pairs = last_alone tracker.pairs }) refl

pub packed-has : (tracker : Tracker) → has_bytes tracker ≡ true → packed tracker ≡ tracker
packed-has tracker is = ap (λ b. if b then tracker else record tracker { pairs = last_alone tracker.pairs }) is

pub packed-twice : (tracker : Tracker) → packed (packed tracker) ≡ packed tracker
packed-twice tracker = packed-has (packed tracker) (has_bytes-packed tracker)
