-- Batches that references point to, up to a place.
use Rattle.std.proofs.Common.{◌≡◌, ℕ, suc, ◌+◌, ◌-◌, ◌<◌, ◌≤◌, List, [], ◌∷◌, ◌++◌, length, get_or, take, drop, Some, sym, ap, ◌∙◌, arith, Bor}
use Rattle.std.proofs.lemmas.List.{get_or-map, get_or_append_left, length-map, length-take, map-append, take-append-drop, take_all}
use Rattle.std.specs.List.{slice_get}
use Rattle.slate_types.specs.declared.batches.Batch.{Batch}
use Rattle.slate_types.specs.Line.{AreNumberedFrom}
use Rattle.slate_store.proofs.Latest.{last-cons}
use Rattle.slate_check.specs.Named.{batch_list}
use Rattle.slate_check.proofs.Lists.{around, next}

pub list-around : (xs : List (Bor Batch)) (i : ℕ) (x : Bor Batch) → i < length xs → x ≡ get_or xs i x → batch_list xs ≡ batch_list (take i xs) ++ x.now ∷ batch_list (drop (suc i) xs)
list-around xs i x less is = ap batch_list (around xs i x x less is) ∙ map-append (λ (b : Bor Batch). b.now) (take i xs) (x ∷ drop (suc i) xs)

pub list-next : (xs : List (Bor Batch)) (i : ℕ) (x : Bor Batch) → i < length xs → x ≡ get_or xs i x → batch_list (take (i + 1) xs) ≡ batch_list (take i xs) ++ x.now ∷ []
list-next xs i x less is = ap batch_list (next xs i x x less is) ∙ map-append (λ (b : Bor Batch). b.now) (take i xs) (x ∷ [])

pub length-front : (xs : List (Bor Batch)) (i : ℕ) → i ≤ length xs → length (batch_list (take i xs)) ≡ i
length-front xs i low = simp (length-map, length-take) (omega arith)

pub same-at : (xs ys : List (Bor Batch)) (i : ℕ) (x y : Bor Batch) (rest : List Batch) → i < length xs → i < length ys → x ≡ get_or xs i x → y ≡ get_or ys i y
    → batch_list ys ≡ batch_list xs ++ rest → x.now ≡ y.now
same-at xs ys i x y rest less less' isx isy begins =
    let f : Bor Batch → Batch = λ b. b.now in
    let short : i < length (batch_list xs) = simp length-map less in
    let of_x : get_or (batch_list xs) i x.now ≡ x.now = get_or-map f xs i x x.now less ∙ ap f (sym isx) in
    let of_y : get_or (batch_list ys) i x.now ≡ y.now = get_or-map f ys i y x.now less' ∙ ap f (sym isy) in
    let both : get_or (batch_list ys) i x.now ≡ get_or (batch_list xs) i x.now = ap (λ l. get_or l i x.now) begins ∙ get_or_append_left (batch_list xs) rest x.now i short in
    sym of_x ∙ sym both ∙ of_y

pub same-next : (xs ys : List (Bor Batch)) (i : ℕ) (x y : Bor Batch) → i < length xs → i < length ys → x ≡ get_or xs i x → y ≡ get_or ys i y
    → batch_list (take i xs) ≡ batch_list (take i ys) → x.now ≡ y.now → batch_list (take (i + 1) xs) ≡ batch_list (take (i + 1) ys)
same-next xs ys i x y less less' isx isy so_far same =
    list-next xs i x less isx ∙ (ap (λ l. l ++ x.now ∷ []) so_far ∙ ap (λ (b : Batch). batch_list (take i ys) ++ b ∷ []) same) ∙ sym (list-next ys i y less' isy)

pub same-all : (xs ys : List (Bor Batch)) (i : ℕ) → length xs ≤ i → batch_list (take i xs) ≡ batch_list (take i ys) → batch_list ys ≡ batch_list xs ++ batch_list (drop i ys)
same-all xs ys i end so_far =
    ap batch_list (sym (take-append-drop i ys)) ∙ map-append (λ (b : Bor Batch). b.now) (take i ys) (drop i ys)
    ∙ ap (λ l. l ++ batch_list (drop i ys)) (sym so_far ∙ ap batch_list (take_all i xs end))

pub last-number : (floor : ℕ) (xs : List (Bor Batch)) (b : Bor Batch) → AreNumberedFrom floor (batch_list xs) → Some b ≡ slice_get xs (length xs - 1) → b.now.number ≡ floor + length (batch_list xs)
last-number floor [] b numbered is = absurd (cc)
last-number floor (x ∷ []) b numbered is =
    let same : b ≡ x = cc in
    let e : x.now.number ≡ floor + 1 = numbered.0 in
    let k : b.now.number ≡ x.now.number = ap (λ (r : Bor Batch). r.now.number) same in
    omega (arith, e, k)
last-number floor (x ∷ y ∷ xs) b numbered is =
    let rest = last-number (floor + 1) (y ∷ xs) b numbered.1 (is ∙ last-cons x y xs) in
    omega (arith, rest)
