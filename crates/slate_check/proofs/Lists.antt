-- Lists around one of their places, and what of a list holds at it.
use Rattle.std.proofs.Common.{◌≡◌, ℕ, zero, suc, ◌+◌, ◌<◌, Bool, true, false, not, cond, ◌||◌, eqb, ltb, List, [], ◌∷◌, ◌++◌, length, get_or, take, drop, map, Option, Some, refl, sym, ap, subst, ◌∙◌, arith}
use Rattle.std.proofs.Math.Seq.{drop-cons}
use Rattle.std.proofs.lemmas.Bool.{eqb-true, lt-ltb}
use Rattle.std.proofs.lemmas.Grind.{common_steps}
use Rattle.std.proofs.lemmas.List.Folds.{list_any-append}
use Rattle.std.proofs.lemmas.List.{take_more, take-append-drop}
use Rattle.std.proofs.lemmas.List.Elements.{All-cons, All-head, All-nil, All-tail, filter-append}
use Rattle.std.specs.BTreeMap.{is_at}
use Rattle.std.specs.Cmp.{unsigned_ties}
use Rattle.std.specs.List.{All, AllByRecursion, IsDistinct, filter, list_any}
use Rattle.std.specs.Ordering.{nat_cmp}
use Rattle.std.specs.Option.{IfSome}
use Rattle.slate_types.specs.declared.batches.Batch.{Batch}
use Rattle.slate_types.specs.Line.{AreNumberedFrom}
use Rattle.slate_store.specs.Content.{AreGapless}

-- a list is its front up to a place, what stands there, and the rest
pub around : {X : Type 0} (xs : List X) (i : ℕ) (x d : X) → i < length xs → x ≡ get_or xs i d → xs ≡ take i xs ++ x ∷ drop (suc i) xs
around xs i x d less is =
    sym (take-append-drop i xs) ∙ ap (λ ys. take i xs ++ ys) (drop-cons xs i d less ∙ ap (λ y. y ∷ drop (suc i) xs) (sym is))

pub next : {X : Type 0} (xs : List X) (i : ℕ) (x d : X) → i < length xs → x ≡ get_or xs i d → take (i + 1) xs ≡ take i xs ++ x ∷ []
next xs i x d less is = take_more xs i d less ∙ ap (λ y. take i xs ++ y ∷ []) (sym is)

pub known : {X : Type 0} (P : X → Type 0) (a : Option X) (x : X) → a ≡ Some x → IfSome a P → P x
known P a x is h = subst (λ b. IfSome b P) is h

pub all-at : {X : Type 0} (P : X → Type 0) (front rest : List X) (x : X) → All P (front ++ x ∷ rest) → P x
all-at P [] rest x all = All-head P x rest all
all-at P (f ∷ front) rest x all = all-at P front rest x (All-tail P f (front ++ x ∷ rest) all)

-- ---- ids without a gap
pub gapless-push : (mark id : ℕ) (xs : List ℕ) → AreGapless mark xs → id ≡ mark + length xs + 1 → AreGapless mark (xs ++ id ∷ [])
gapless-push mark id [] h e = (omega arith, tt)
gapless-push mark id (x ∷ xs) h e = let first : x ≡ mark + 1 = h.0 in (first, gapless-push x id xs h.1 (omega arith))

pub gapless-at : (mark id : ℕ) (front rest : List ℕ) → AreGapless mark (front ++ id ∷ rest) → id ≡ mark + length front + 1
gapless-at mark id [] rest h = let e : id ≡ mark + 1 = h.0 in omega arith
gapless-at mark id (x ∷ front) rest h = let e : x ≡ mark + 1 = h.0 in let r = gapless-at x id front rest h.1 in omega (arith, r)

-- ---- numbered batches
pub numbered-at : (floor : ℕ) (front rest : List Batch) (b : Batch) → AreNumberedFrom floor (front ++ b ∷ rest) → b.number ≡ floor + length front + 1
numbered-at floor [] rest b h = let e : b.number ≡ floor + 1 = h.0 in omega arith
numbered-at floor (x ∷ front) rest b h = let r = numbered-at (floor + 1) front rest b h.1 in omega (arith, r)

pub numbered-front : (floor : ℕ) (xs ys : List Batch) → AreNumberedFrom floor (xs ++ ys) → AreNumberedFrom floor xs
numbered-front floor [] ys h = tt
numbered-front floor (x ∷ xs) ys h = (h.0, numbered-front (floor + 1) xs ys h.1)

pub numbered-rest : (floor : ℕ) (xs ys : List Batch) → AreNumberedFrom floor (xs ++ ys) → AreNumberedFrom (floor + length xs) ys
numbered-rest floor [] ys h = let e : floor ≡ floor + zero = omega arith in subst (λ n. AreNumberedFrom n ys) e h
numbered-rest floor (x ∷ xs) ys h =
    let e : (floor + 1) + length xs ≡ floor + length (x ∷ xs) = omega arith in
    subst (λ n. AreNumberedFrom n ys) e (numbered-rest (floor + 1) xs ys h.1)

-- ---- numbers that differ
eqb-same : (n : ℕ) → eqb n n ≡ true
eqb-same n = grind arith

eqb-symmetric : (x y : ℕ) → eqb x y ≡ eqb y x
eqb-symmetric x y = by (eqb x y) (eqb y x) refl refl where
  by : (a b : Bool) → eqb x y ≡ a → eqb y x ≡ b → a ≡ b
  by true true e k = refl
  by false false e k = refl
  by true false e k = let same = eqb-true x y e in let n : eqb y y ≡ false = subst (λ z. eqb y z ≡ false) same k in sym (eqb-same y) ∙ n
  by false true e k = let same = eqb-true y x k in let n : eqb x x ≡ false = subst (λ z. eqb x z ≡ false) same e in sym n ∙ eqb-same x

eqb-swapped : (x y : ℕ) → eqb x y ≡ false → eqb y x ≡ false
eqb-swapped x y h = eqb-symmetric y x ∙ h

or-false : (a b : Bool) → (a || b) ≡ false → (a ≡ false) × (b ≡ false)
or-false true b h = absurd (cc)
or-false false b h = (refl, h)

all-and : {X : Type 0} (P : X → Type 0) (xs : List X) (x : X) → AllByRecursion P xs → P x → AllByRecursion P (xs ++ x ∷ [])
all-and P [] x all h = (h, tt)
all-and P (y ∷ ys) x all h = (all.0, all-and P ys x all.1 h)

pub distinct-push : (xs : List ℕ) (x : ℕ) → IsDistinct eqb xs → list_any (eqb x) xs ≡ false → IsDistinct eqb (xs ++ x ∷ [])
unfolding IsDistinct
distinct-push [] x d none = (tt, tt)
distinct-push (y ∷ ys) x d none =
    let parts = or-false (eqb x y) (list_any (eqb x) ys) none in
    (all-and (λ z. eqb y z ≡ false) ys x d.0 (eqb-swapped x y parts.0), distinct-push ys x d.1 parts.1)

each-at : {X : Type 0} (P : X → Type 0) (front rest : List X) (x : X) → AllByRecursion P (front ++ x ∷ rest) → P x
each-at P [] rest x all = all.0
each-at P (f ∷ front) rest x all = each-at P front rest x all.1

pub distinct-at : (front rest : List ℕ) (id : ℕ) → IsDistinct eqb (front ++ id ∷ rest) → list_any (eqb id) front ≡ true → ⊥
unfolding IsDistinct
distinct-at [] rest id d twice = cc
distinct-at (y ∷ front) rest id d twice =
    let apart = eqb-swapped y id (each-at (λ z. eqb y z ≡ false) front rest id d.0) in
    distinct-at front rest id d.1 (rw apart at twice)

-- a number more in a set
pub was-true : (a b : Bool) → a ≡ not b → a ≡ false → b ≡ true
was-true a true e h = refl
was-true a false e h = sym h ∙ e

pub was-false : (a b : Bool) → a ≡ not b → a ≡ true → b ≡ false
was-false a false e h = refl
was-false a true e h = sym h ∙ e

or-cond : (a b : Bool) → cond a true b ≡ (b || (a || false))
or-cond true true = refl
or-cond true false = refl
or-cond false true = refl
or-cond false false = refl

pub seen-more : (q id : ℕ) (xs : List ℕ) (seen : Bool) → seen ≡ list_any (eqb q) xs → cond (is_at (nat_cmp id) q) true seen ≡ list_any (eqb q) (xs ++ id ∷ [])
seen-more q id xs seen so_far =
    let ties : is_at (nat_cmp id) q ≡ eqb q id = sym (unsigned_ties id q) ∙ eqb-symmetric id q in
    ap (λ a. cond a true seen) ties ∙ (ap (λ b. cond (eqb q id) true b) so_far ∙ (or-cond (eqb q id) (list_any (eqb q) xs) ∙ sym (list_any-append (eqb q) xs (id ∷ []))))

-- ---- ids above a mark
above-first : (mark id : ℕ) (rest : List ℕ) → mark < id → filter (λ x. ltb mark x) (id ∷ rest) ≡ id ∷ filter (λ x. ltb mark x) rest
above-first mark id rest over = let yes : ltb mark id ≡ true = lt-ltb mark id over in rw yes refl

pub above-around : (mark : ℕ) (ids : List ℕ) (i : ℕ) → i < length ids → mark < get_or ids i 0
    → filter (λ x. ltb mark x) ids ≡ filter (λ x. ltb mark x) (take i ids) ++ get_or ids i 0 ∷ filter (λ x. ltb mark x) (drop (suc i) ids)
above-around mark ids i less over =
    let p : ℕ → Bool = λ x. ltb mark x in
    ap (filter p) (around ids i (get_or ids i 0) 0 less refl) ∙ (filter-append p (take i ids) (get_or ids i 0 ∷ drop (suc i) ids)
    ∙ ap (λ l. filter p (take i ids) ++ l) (above-first mark (get_or ids i 0) (drop (suc i) ids) over))

pub above-next : (mark : ℕ) (ids : List ℕ) (i : ℕ) → i < length ids → mark < get_or ids i 0
    → filter (λ x. ltb mark x) (take (i + 1) ids) ≡ filter (λ x. ltb mark x) (take i ids) ++ get_or ids i 0 ∷ []
above-next mark ids i less over =
    let p : ℕ → Bool = λ x. ltb mark x in
    ap (filter p) (next ids i (get_or ids i 0) 0 less refl) ∙ (filter-append p (take i ids) (get_or ids i 0 ∷ [])
    ∙ ap (λ l. filter p (take i ids) ++ l) (above-first mark (get_or ids i 0) [] over))

pub length-push : (xs : List ℕ) (x : ℕ) → length (xs ++ x ∷ []) ≡ length xs + 1
length-push xs x = grind (arith, common_steps)

-- ---- a list and what a function makes of it
pub all-unmap : {X Y : Type 0} (P : Y → Type 0) (f : X → Y) (xs : List X) → All P (map f xs) → All (λ x. P (f x)) xs
all-unmap P f [] all = All-nil (λ x. P (f x))
all-unmap P f (x ∷ xs) all = All-cons (λ x. P (f x)) x xs (All-head P (f x) (map f xs) all) (all-unmap P f xs (All-tail P (f x) (map f xs) all))

pub keys-above : {X : Type 0} (mark : ℕ) (es : List (ℕ × X)) → filter (λ id. ltb mark id) (map (λ e. e.0) es) ≡ map (λ e. e.0) (filter (λ e. ltb mark e.0) es)
keys-above mark [] = refl
keys-above {X} mark (e ∷ es) = by (ltb mark e.0) (keys-above mark es) where
  by : (b : Bool) → filter (λ id. ltb mark id) (map (λ e. e.0) es) ≡ map (λ e. e.0) (filter (λ e. ltb mark e.0) es)
      → cond b (e.0 ∷ filter (λ id. ltb mark id) (map (λ e. e.0) es)) (filter (λ id. ltb mark id) (map (λ e. e.0) es)) ≡ map (λ e. e.0) (cond b (e ∷ filter (λ e. ltb mark e.0) es) (filter (λ e. ltb mark e.0) es))
  by true rest = ap (λ l. e.0 ∷ l) rest
  by false rest = rest
