-- Lists that never fall, as an element more is added and as every other one goes; and the room for them.
use Rattle.std.proofs.Common.{◌≡◌, refl, ◌∙◌, ℕ, zero, suc, ◌+◌, ◌-◌, ◌*◌, ◌^◌, ◌<◌, ◌≤◌, Bool, true, false, nat_lt, ℤ, pos, ◌≤ℤ◌, ◌+ℤ◌, int_lt, List, [], ◌∷◌, ◌++◌, length, get_or, slice_get, Option, None, Some, IfSome, All, cond, ◌⊎◌, inl, inr, ◌&&◌, sym, ap, arith}
use Rattle.std.specs.declared.cmp.Ordering.{Ordering}
use Rattle.std.specs.declared.cmp.Ordering.TheVariants.{Less, Equal, Greater}
use Rattle.std.specs.Ordering.{is_lt, is_le, nat_cmp, int_cmp, partial_le, is_some_and, ordering_reverse}
use Rattle.std.specs.List.{IsAllAdjacentAnswer}
use Rattle.slate_seqtrack.specs.Bytes.{rises, AreLists}
use Rattle.std.specs.Cmp.{IsTotalOrder, nat_cmp_total, int_cmp_total}
use Rattle.std.specs.List.Sorted.{IsSorted}
use Rattle.std.proofs.lemmas.Bool.{cases_lt, ltb-false}
use Rattle.std.proofs.lemmas.Int.{ints}
use Rattle.std.proofs.lemmas.List.{get_or_default, length-append, get_or_append_left}
use Rattle.std.proofs.Math.Seq.{get_or-append_seam}
use Rattle.std.proofs.lemmas.List.Sorted.{sorted_far, ranks_by}
use Rattle.slate_seqtrack.specs.Thinning.{evens, thinned}
use Rattle.slate_seqtrack.specs.Tracker.{is_early}
use Rattle.slate_seqtrack.specs.Kept.{IsKeptTracker, AreRecorded, HasRoom}
use Rattle.slate_seqtrack.proofs.Evens.{length-evens, get_or-evens}

module _ {X : Type 0} {R : X → X → Ordering} (o : IsTotalOrder R) where
  IsSorted-append : (xs : List X) (y : X) → IsSorted R xs → ((d : X) → 0 < length xs → is_lt (R y (get_or xs (length xs - 1) d)) ≡ false) → IsSorted R (xs ++ y ∷ [])
  IsSorted-append xs y up last k d h lt = elim (cases_lt (k + 1) (length xs)) [ inl before ↦ inside before | inr after ↦ seam after ] where
    inside : k + 1 < length xs → is_lt (R (get_or (xs ++ y ∷ []) (k + 1) d) (get_or (xs ++ y ∷ []) k d)) ≡ false
    inside before =
        let here : k < length xs = omega arith in
        rw (get_or_append_left xs (y ∷ []) d (k + 1) before, get_or_append_left xs (y ∷ []) d k here) (up k d h before)

    seam : length xs ≤ k + 1 → is_lt (R (get_or (xs ++ y ∷ []) (k + 1) d) (get_or (xs ++ y ∷ []) k d)) ≡ false
    seam after =
        let size : k + 1 ≡ length xs = omega (arith, length-append xs (y ∷ [])) in
        let at : k ≡ length xs - 1 = omega arith in
        let here : k < length xs = omega arith in
        rw (get_or_append_left xs (y ∷ []) d k here, size, get_or-append_seam xs y [] d) (rw at (last d (omega arith)))

  IsSorted-evens : (xs : List X) → IsSorted R xs → IsSorted R (evens xs)
  IsSorted-evens xs up k d h lt =
      let sizes = length-evens xs in
      rw (get_or-evens xs (k + 1) d, get_or-evens xs k d)
      (sorted_far (λ x y. is_lt (R x y)) (ranks_by o (λ x. x)) xs up (2 * k) (2 * (k + 1)) d (omega arith) (omega arith))

-- ---- a tracker's two lists, all recorded by a time
record Rises (time : ℤ) (numbers : List ℕ) (times : List ℤ) : Type 0 where
  same : length times ≡ length numbers
  up_numbers : IsSorted nat_cmp numbers
  up_times : IsSorted int_cmp times
  until : All (λ t. t ≤ℤ time) times

nat-not_lt : (x y : ℕ) → y ≤ x → is_lt (nat_cmp x y) ≡ false
nat-not_lt x y h = grind arith

int-not_lt : (x y : ℤ) → y ≤ℤ x → is_lt (int_cmp x y) ≡ false
int-not_lt x y h = grind (arith, ints)

All-evens : (P : ℤ → Type 0) (xs : List ℤ) → All P xs → All P (evens xs)
All-evens P xs all k d lt = let sizes = length-evens xs in rw (get_or-evens xs k d) (all (2 * k) d (omega arith))

All-append : (P : ℤ → Type 0) (xs : List ℤ) (y : ℤ) → All P xs → P y → All P (xs ++ y ∷ [])
All-append P xs y all one k d lt = elim (cases_lt k (length xs)) [ inl before ↦ inside before | inr after ↦ seam after ] where
  inside : k < length xs → P (get_or (xs ++ y ∷ []) k d)
  inside before = rw (get_or_append_left xs (y ∷ []) d k before) (all k d before)

  seam : length xs ≤ k → P (get_or (xs ++ y ∷ []) k d)
  seam after = let at : k ≡ length xs = omega (arith, length-append xs (y ∷ [])) in rw (at, get_or-append_seam xs y [] d) one

Rises-evens : (time : ℤ) (ns : List ℕ) (ts : List ℤ) → Rises time ns ts → Rises time (evens ns) (evens ts)
Rises-evens time ns ts r = record {
  same = let a = length-evens ns in let b = length-evens ts in let same : length ts ≡ length ns = r.same in omega arith;
  up_numbers = IsSorted-evens nat_cmp_total ns r.up_numbers;
  up_times = IsSorted-evens int_cmp_total ts r.up_times;
  until = All-evens (λ t. t ≤ℤ time) ts r.until;
}

Rises-thinned : (capacity : ℕ) (time : ℤ) (ns : List ℕ) (ts : List ℤ) → Rises time ns ts → Rises time (thinned capacity ns) (thinned capacity ts)
Rises-thinned capacity time ns ts r = rw r.same (go (nat_lt capacity (length ns))) where
  go : (past : Bool) → Rises time (cond past (evens ns) ns) (cond past (evens ts) ts)
  go true = Rises-evens time ns ts r
  go false = r

-- a time that doesn't come early lies at or after each one that was recorded
late-all : (interval : ℕ) (recorded : Option ℤ) (ts : List ℤ) (t : ℤ) → AreRecorded recorded ts → is_early interval recorded t ≡ false → All (λ u. u ≤ℤ t) ts
late-all interval None ts t none late k d lt = absurd (let empty : length ts ≡ 0 = ap length none in omega arith)
late-all interval (Some last) ts t all late k d lt = past last (get_or ts k d) late (all k d lt) where
  past : (l u : ℤ) → int_lt t (l +ℤ pos interval) ≡ false → u ≤ℤ l → u ≤ℤ t
  past l u h k = grind (arith, ints)

at-get_or : (P : ℕ → Type 0) (ns : List ℕ) (i d : ℕ) → i < length ns → IfSome (slice_get ns i) P → P (get_or ns i d)
at-get_or P [] i d lt p = absurd (omega arith)
at-get_or P (n ∷ ns) zero d lt p = p
at-get_or P (n ∷ ns) (suc i) d lt p = at-get_or P ns i d (omega arith) p

Rises-append : (ns : List ℕ) (ts : List ℤ) (n : ℕ) (t : ℤ) → length ts ≡ length ns → IsSorted nat_cmp ns → IsSorted int_cmp ts → IfSome (slice_get ns (length ns - 1)) (λ m. m ≤ n) → All (λ u. u ≤ℤ t) ts →
    Rises t (ns ++ n ∷ []) (ts ++ t ∷ [])
Rises-append ns ts n t same up_ns up_ts last all = record {
  same = omega (arith, length-append ns (n ∷ []), length-append ts (t ∷ []));
  up_numbers = IsSorted-append nat_cmp_total ns n up_ns (λ d some. nat-not_lt n _ (top ns d some last));
  up_times = IsSorted-append int_cmp_total ts t up_ts (λ d some. int-not_lt t _ (all (length ts - 1) d (omega arith)));
  until = All-append (λ u. u ≤ℤ t) ts t all (let P : ℤ → ℤ → Type 0 = λ x y. x ≤ℤ y in own t);
} where
  own : (t : ℤ) → t ≤ℤ t
  own t = omega (arith, ints)

  top : (ns : List ℕ) (d : ℕ) → 0 < length ns → IfSome (slice_get ns (length ns - 1)) (λ m. m ≤ n) → get_or ns (length ns - 1) d ≤ n
  top ns d some last = at-get_or (λ m. m ≤ n) ns (length ns - 1) d (omega arith) last

thinned-sizes : {X : Type 0} (capacity : ℕ) (xs : List X) → (length (thinned capacity xs) ≤ capacity) ⊎ (2 * length (thinned capacity xs) ≤ length xs + 1)
thinned-sizes capacity xs = go (nat_lt capacity (length xs)) refl where
  go : (past : Bool) → nat_lt capacity (length xs) ≡ past → (length (cond past (evens xs) xs) ≤ capacity) ⊎ (2 * length (cond past (evens xs) xs) ≤ length xs + 1)
  go true e = inr (length-evens xs).1
  go false e = inl (ltb-false _ _ e)

HasRoom-thinned : {X : Type 0} (capacity room : ℕ) (xs : List X) (y : X) → HasRoom capacity (length xs) room → HasRoom capacity (length (thinned capacity (xs ++ y ∷ []))) room
HasRoom-thinned capacity room xs y (wide, free) =
    elim (thinned-sizes capacity (xs ++ y ∷ [])) [ inl h ↦ (wide, omega arith) | inr h ↦ (wide, omega (arith, length-append xs (y ∷ []))) ]

-- what a tracker keeps after a pair was recorded
pub IsKeptTracker-recorded : (capacity interval : ℕ) (recorded : Option ℤ) (ns ns' : List ℕ) (ts ts' : List ℤ) (a a' b b' n : ℕ) (t : ℤ) →
    IsKeptTracker capacity recorded ns ts a b → capacity < 2 ^ 32 → is_early interval recorded t ≡ false → IfSome (slice_get ns (length ns - 1)) (λ m. m ≤ n) →
    ns' ≡ thinned capacity (ns ++ n ∷ []) → ts' ≡ thinned capacity (ts ++ t ∷ []) → a' ≡ a → b' ≡ b → IsKeptTracker capacity (Some t) ns' ts' a' b'
IsKeptTracker-recorded capacity interval recorded ns ns' ts ts' a a' b b' n t kept small late last ns-is ts-is a-is b-is =
    rw (ns-is, ts-is, a-is, b-is)
    (record {
      paired = rises.same;
      few = elim (thinned-sizes capacity (ns ++ n ∷ [])) [ inl h ↦ omega arith | inr h ↦ omega (arith, length-append ns (n ∷ []), kept.few) ];
      room_for_numbers = HasRoom-thinned capacity a ns n kept.room_for_numbers;
      room_for_times = HasRoom-thinned capacity b ts t kept.room_for_times;
      numbers_rise = rises.up_numbers;
      times_rise = rises.up_times;
      before = rises.until;
    })
  where
    rises : Rises t (thinned capacity (ns ++ n ∷ [])) (thinned capacity (ts ++ t ∷ []))
    rises = Rises-thinned capacity t _ _ (Rises-append ns ts n t kept.paired kept.numbers_rise kept.times_rise last (late-all interval recorded ts t kept.before late))

-- ---- the test whether a list never falls
suc-add : (k : ℕ) → suc k + 1 ≡ suc (k + 1)
suc-add k = omega arith

and-false : (b : Bool) → (b && false) ≡ false
and-false true = refl
and-false false = refl

pub both-left : (a b : Bool) → (a && b) ≡ true → a ≡ true
both-left true b e = refl
both-left false b e = e

pub both-right : (a b : Bool) → (a && b) ≡ true → b ≡ true
both-right true b e = e
both-right false b e = cc

not_lt-turned : (r s : Ordering) → r ≡ ordering_reverse s → is_le s ≡ true → is_lt r ≡ false
not_lt-turned r Less e h = ap is_lt e
not_lt-turned r Equal e h = ap is_lt e
not_lt-turned r Greater e h = cc

module _ {X : Type 0} (cmp : X → X → Ordering) where
  rises-yes : (xs : List X) → ((k : ℕ) (d : X) → k + 1 < length xs → is_le (cmp (get_or xs k d) (get_or xs (k + 1) d)) ≡ true) → rises cmp xs ≡ true
  rises-yes [] h = refl
  rises-yes (x ∷ []) h = refl
  rises-yes (x ∷ y ∷ xs) h =
      let first : is_le (cmp x y) ≡ true = h 0 x (omega arith) in
      rw first (rises-yes (y ∷ xs) (λ k d lt. rw suc-add at (h (suc k) d (omega arith))))

  rises-no : (xs : List X) (k : ℕ) → k + 1 < length xs → ((d : X) → is_le (cmp (get_or xs k d) (get_or xs (k + 1) d)) ≡ false) → rises cmp xs ≡ false
  rises-no [] k lt h = absurd (omega arith)
  rises-no (x ∷ []) k lt h = absurd (omega arith)
  rises-no (x ∷ y ∷ xs) zero lt h = let first : is_le (cmp x y) ≡ false = h x in rw first refl
  rises-no (x ∷ y ∷ xs) (suc k) lt h = rw (rises-no (y ∷ xs) k (omega arith) (λ d. rw suc-add at (h d))) (and-false (is_le (cmp x y)))

  -- what `is_sorted` answers
  pub rises-answer : (partial : X → X → Option Ordering) → ((x y : X) → partial x y ≡ Some (cmp x y)) → (xs : List X) (r : Bool) → IsAllAdjacentAnswer (λ x y b. partial_le partial x y ≡ b) xs r → r ≡ rises cmp xs
  rises-answer partial agrees xs true all = sym (rises-yes xs (λ k d lt. ap (is_some_and is_le) (sym (agrees _ _)) ∙ all k d lt))
  rises-answer partial agrees xs false (k, lt, falls) = sym (rises-no xs k lt (λ d. ap (is_some_and is_le) (sym (agrees _ _)) ∙ falls d))

-- a list that never falls is sorted
pub IsSorted-rises : {X : Type 0} {R : X → X → Ordering} (o : IsTotalOrder R) (xs : List X) → rises R xs ≡ true → IsSorted R xs
IsSorted-rises {X} {R} o [] up k d h lt = absurd (omega arith)
IsSorted-rises {X} {R} o (x ∷ []) up k d h lt = absurd (omega arith)
IsSorted-rises {X} {R} o (x ∷ y ∷ xs) up zero d h lt = not_lt-turned (R y x) (R x y) (o.antisymm y x) (both-left _ _ up)
IsSorted-rises {X} {R} o (x ∷ y ∷ xs) up (suc k) d h lt =
    rw suc-add (IsSorted-rises o (y ∷ xs) (both-right (is_le (R x y)) _ up) k d (omega arith) (omega arith))

le-turned : (r s : Ordering) → r ≡ ordering_reverse s → is_lt r ≡ false → is_le s ≡ true
le-turned r Less e h = refl
le-turned r Equal e h = refl
le-turned r Greater e h = let no : is_lt r ≡ true = ap is_lt e in cc

-- and a sorted list never falls
pub rises-IsSorted : {X : Type 0} {R : X → X → Ordering} (o : IsTotalOrder R) (xs : List X) → IsSorted R xs → rises R xs ≡ true
rises-IsSorted {X} {R} o xs up =
    rises-yes R xs (λ k d lt. le-turned (R (get_or xs (k + 1) d) (get_or xs k d)) (R (get_or xs k d) (get_or xs (k + 1) d)) (o.antisymm (get_or xs (k + 1) d) (get_or xs k d)) (up k d (omega arith) lt))

-- ---- a list as it is read
slice_get-at : (xs : List ℤ) (i : ℕ) (d : ℤ) → i < length xs → slice_get xs i ≡ Some (get_or xs i d)
slice_get-at [] i d lt = absurd (omega arith)
slice_get-at (x ∷ xs) zero d lt = refl
slice_get-at (x ∷ xs) (suc i) d lt = slice_get-at xs i d (omega arith)

-- the last time lies at or after each one
AreRecorded-last : (times : List ℤ) → IsSorted int_cmp times → AreRecorded (slice_get times (length times - 1)) times
AreRecorded-last [] up = refl
AreRecorded-last (t ∷ times) up =
    let last : length (t ∷ times) - 1 < length (t ∷ times) = omega arith in
    rw (slice_get-at (t ∷ times) (length (t ∷ times) - 1) t last) (λ k d lt.
    below (get_or (t ∷ times) k d) (get_or (t ∷ times) (length (t ∷ times) - 1) t)
    (rw (get_or_default (t ∷ times) (length (t ∷ times) - 1) t d last)
    (sorted_far (λ x y. is_lt (int_cmp x y)) (ranks_by int_cmp_total (λ x. x)) (t ∷ times) up k (length (t ∷ times) - 1) d (omega arith) last)))
  where
    below : (u last : ℤ) → is_lt (int_cmp last u) ≡ false → u ≤ℤ last
    below u last h = grind (arith, ints)

pub IsKeptTracker-read : (numbers ns : List ℕ) (times ts : List ℤ) (recorded : Option ℤ) (a b room : ℕ) → AreLists numbers times → ns ≡ numbers → ts ≡ times →
    recorded ≡ slice_get times (length times - 1) → a ≡ room → b ≡ room → 8194 ≤ room → length numbers + 2 ≤ room → IsKeptTracker 8192 recorded ns ts a b
IsKeptTracker-read numbers ns times ts recorded a b room lists ns-is ts-is recorded-is a-is b-is wide long =
    rw (ns-is, ts-is, recorded-is, a-is, b-is)
    (record {
      paired = lists.same;
      few = lists.few;
      room_for_numbers = (wide, omega arith);
      room_for_times = (wide, omega (arith, lists.same));
      numbers_rise = IsSorted-rises nat_cmp_total numbers lists.numbers_rise;
      times_rise = IsSorted-rises int_cmp_total times lists.times_rise;
      before = AreRecorded-last times (IsSorted-rises int_cmp_total times lists.times_rise);
    })
