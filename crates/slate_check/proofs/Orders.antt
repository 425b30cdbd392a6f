-- Whether neighbours show that ids rise.
use Rattle.std.proofs.Common.{◌≡◌, ℕ, zero, suc, ◌+◌, ◌<◌, Bool, true, false, ltb, List, [], ◌∷◌, length, get_or, refl, sym, ◌∙◌, arith, add-one, IsTrue}
use Rattle.std.proofs.lemmas.Bool.{lt-ltb, ltb-true}
use Rattle.std.proofs.lemmas.Map.Keys.{Less-from_sorted, sorted_from_all_adjacent}
use Rattle.std.specs.List.{AllByRecursion, IsAllAdjacentAnswer}
use Rattle.std.specs.List.Sorted.{IsStrictlySortedBy}
use Rattle.std.specs.Ordering.{is_lt}
use Rattle.std.specs.declared.cmp.Ordering.{Ordering}
use Rattle.std.specs.declared.cmp.Ordering.TheVariants.{Less, Equal, Greater}
use Rattle.slate_store.specs.declared.objects.TableId.{TableId}
use Rattle.slate_store.specs.Content.{IdsRise}
use Rattle.slate_store.specs.Objects.{table_cmp}
use Rattle.slate_store.proofs.Entries.{table_total}

each-above : (x y : ℕ) (ys : List ℕ) → x < y → AllByRecursion (λ z. y < z) ys → AllByRecursion (λ z. x < z) ys
each-above x y [] less all = tt
each-above x y (z ∷ zs) less all = (let k : y < z = all.0 in omega (arith, k), each-above x y zs less all.1)

rising-from : (x : ℕ) (xs : List ℕ) → ((k : ℕ) → suc k < length (x ∷ xs) → get_or (x ∷ xs) k 0 < get_or (x ∷ xs) (suc k) 0) → IdsRise (x ∷ xs)
rising-from x [] adjacent = (tt, tt)
rising-from x (y ∷ ys) adjacent =
    let rest = rising-from y ys (λ k less. adjacent (suc k) (omega arith)) in
    let first : x < y = adjacent zero (omega arith) in
    ((first, each-above x y ys first rest.0), rest)

rising-all : (xs : List ℕ) → ((k : ℕ) → suc k < length xs → get_or xs k 0 < get_or xs (suc k) 0) → IdsRise xs
rising-all [] adjacent = tt
rising-all (x ∷ xs) adjacent = rising-from x xs adjacent

rising-adjacent : (xs : List ℕ) (k : ℕ) → IdsRise xs → suc k < length xs → get_or xs k 0 < get_or xs (suc k) 0
rising-adjacent [] k rising less = absurd (omega arith)
rising-adjacent (x ∷ []) k rising less = absurd (omega arith)
rising-adjacent (x ∷ y ∷ ys) zero rising less = (rising.0).0
rising-adjacent (x ∷ y ∷ ys) (suc k) rising less = rising-adjacent (y ∷ ys) k rising.1 (omega arith)

pub rising-answer : (xs : List ℕ) (r : Bool) → IsAllAdjacentAnswer (λ x y b. b ≡ ltb x y) xs r → (IsTrue r → IdsRise xs) × (IdsRise xs → IsTrue r)
rising-answer xs true adjacent =
    (λ _. rising-all xs (λ k less. let one : k + 1 < length xs = omega arith in let l = rw add-one at (adjacent k 0 one) in ltb-true (get_or xs k 0) (get_or xs (suc k) 0) (sym l)), λ _. refl)
rising-answer xs false adjacent = (
  λ h. absurd (cc),
  λ rising.
      let k = adjacent.0 in
      let one : suc k < length xs = let less = adjacent.1 in omega (arith, less) in
      let no = rw add-one at (adjacent.2 0) in
      let yes = lt-ltb (get_or xs k 0) (get_or xs (suc k) 0) (rising-adjacent xs k rising one) in
      absurd (let clash : false ≡ true = no ∙ yes in cc),
)

less-of : (o : Ordering) → is_lt o ≡ true → o ≡ Less
less-of Less e = refl
less-of Equal e = absurd (cc)
less-of Greater e = absurd (cc)

none : TableId
none = record { epoch = 0; index = 0 }

pub tables-answer : (xs : List TableId) (r : Bool) → IsAllAdjacentAnswer (λ x y b. b ≡ is_lt (table_cmp x y)) xs r → (IsTrue r → IsStrictlySortedBy table_cmp xs) × (IsStrictlySortedBy table_cmp xs → IsTrue r)
tables-answer xs true adjacent =
    (λ _. sorted_from_all_adjacent table_total xs none (λ k less. less-of (table_cmp (get_or xs k none) (get_or xs (k + 1) none)) (sym (adjacent k none less))), λ _. refl)
tables-answer xs false adjacent = (
  λ h. absurd (cc),
  λ sorted.
      let k = adjacent.0 in
      let less = Less-from_sorted table_cmp xs k (k + 1) none sorted (omega arith) adjacent.1 in
      let no = rw less at (adjacent.2 none) in
      absurd (let clash : false ≡ true = no in cc),
)
