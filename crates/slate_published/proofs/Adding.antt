-- The steps on the list of states keep its rule.
use Rattle.std.proofs.Common.{◌≡◌, ℕ, zero, suc, ◌+◌, ◌-◌, ◌<◌, ◌≤◌, ◌==◌, ◌∙◌, Bool, true, false, List, [], ◌∷◌, ◌++◌, length, slice_set, fold, get_or, refl, ap, sym, subst, arith, inl, length-append, None}
use Rattle.std.proofs.lemmas.List.{append-nil}
use Rattle.std.proofs.lemmas.List.Sorted.{IsNonDecreasingBy-push}
use Rattle.std.proofs.lemmas.Bool.Decides.{nat_tests}
use mathlib.Core.List.{IsPrefix}
use prog.Atomic.{either}
use Rattle.logbook.specs.Pages.{Cell, cell, keeps, gives, adds, no_nib, nib, may_make, step, Away, Moves, Goes}
use Rattle.slate_published.specs.Published.{Published}
use Rattle.slate_published.specs.States.{NeverFall, last_of, nothing_published}
use Rattle.slate_published.specs.Adding.{homes, aways, cells_of, IsKeptBook, right_after, AddsCell, AddsState, SeesAll}
use Rattle.slate_published.proofs.Prefixes.{prefix_whole, prefix_length}

abbrev pub shown : List Published → List Published
shown list = []

abbrev pub moved : List Published → List Published → ℕ → Type 0
moved xs ys n = Unit {0}

-- the item at the last place is the last one
last_place : {A : Type 0} (before : A) (xs : List A) (d : A) → 0 < length xs → get_or xs (length xs - 1) d ≡ fold (λ (b a : A). a) before xs
last_place before [] d some = absurd (omega arith)
last_place before (x ∷ []) d some = refl
last_place before (x ∷ y ∷ ys) d some =
    let last : suc (suc (length ys)) - 1 ≡ suc (length ys) = omega arith in
    let same : suc (length ys) - 1 ≡ length ys = omega arith in
    let rest = last_place x (y ∷ ys) d (omega arith) in
    ap (λ k. get_or (x ∷ y ∷ ys) k d) last ∙ (ap (λ k. get_or (y ∷ ys) k d) (sym same) ∙ rest)

pub rising_push : (xs : List Published) (s : Published) → NeverFall xs → (last_of xs).number ≤ s.number → NeverFall (xs ++ s ∷ [])
rising_push xs s rising at_most =
    IsNonDecreasingBy-push (λ (p : Published). p.number) xs s rising
    (λ d some. subst (λ (p : Published). p.number ≤ s.number) (sym (last_place nothing_published xs d some)) at_most)

length-aways : (k : ℕ) → length (aways k) ≡ k
length-aways zero = refl
length-aways (suc k) = ap suc (length-aways k)

length-homes : (n : ℕ) (cells : List Cell) → length (homes n cells) ≡ n + length cells
length-homes zero cells = omega arith
length-homes (suc n) cells = let rest = length-homes n cells in omega arith

pub length-cells : (n k : ℕ) → length (cells_of n k) ≡ (n + k) + 2
length-cells n k = let a = length-aways k in let h = length-homes n (aways k) in omega arith

-- a cell that isn't at home comes after those that are
home_before : (n : ℕ) (cells : List Cell) (i : ℕ) → (cell (homes n cells) i).1 ≡ false → n ≤ i
home_before zero cells i is = omega arith
home_before (suc n) cells zero is = absurd (cc is)
home_before (suc n) cells (suc i) is = let rest = home_before n cells i is in omega arith

aways-push : (k : ℕ) → aways k ++ (0, false) ∷ [] ≡ aways (suc k)
aways-push zero = refl
aways-push (suc k) = ap (λ cells. (0, false) ∷ cells) (aways-push k)

homes-append : (n : ℕ) (cells more : List Cell) → homes n cells ++ more ≡ homes n (cells ++ more)
homes-append zero cells more = refl
homes-append (suc n) cells more = ap (λ cs. (0, true) ∷ cs) (homes-append n cells more)

-- the first cell that isn't at home comes home
homes-set : (n k : ℕ) → slice_set (homes n (aways (suc k))) n (0, true) ≡ homes (suc n) (aways k)
homes-set zero k = refl
homes-set (suc n) k = ap (λ cs. (0, true) ∷ cs) (homes-set n k)

-- whoever has the right to add to a list of so many: the list has no more
rights_end : (n home away : ℕ) → Away (right_after n) (cells_of home away) → home ≤ n
rights_end n home away right =
    let place : n + 2 ≡ suc (suc n) = omega arith in
    home_before home (aways away) n (subst (λ i. (cell (cells_of home away) i).1 ≡ false) place (right refl).1)

-- a step that leaves the list, and what its head counts
same_words : (list : List Published) (away found : ℕ) → found ≡ away → (found, true) ∷ (0, true) ∷ homes (length list) (aways away) ≡ cells_of (length (list ++ [])) away
same_words list away found is =
    let len : length list ≡ length (list ++ []) = ap length (sym (append-nil list)) in
    λ i. (is i, true) ∷ (0, true) ∷ homes (len i) (aways away)

kept_same : (list : List Published) (away found : ℕ) → found ≡ away → away ≤ 2 → (0 < length list → 0 < away) → NeverFall list → IsKeptBook ((found, true) ∷ (0, true) ∷ homes (length list) (aways away)) (list ++ [])
kept_same list away found is few held rising =
    let all : list ++ [] ≡ list = append-nil list in
    record {
      away = away;
      words = same_words list away found is;
      few = few;
      held = subst (λ (l : List Published). 0 < length l → 0 < away) (sym all) held;
      rising = subst NeverFall (sym all) rising;
    }

-- without a cell there is no state
without_cell : (list : List Published) (away : ℕ) → (0 < length list → 0 < away) → away ≡ 0 → list ≡ []
without_cell [] away held none = refl
without_cell (x ∷ xs) away held none = let some : 0 < away = held (omega arith) in absurd (omega arith)

cell_goes : (v list : List Published) (s : Published) (old away : ℕ) → old ≤ 1 → away ≤ 2 → (0 < length list → 0 < away) → NeverFall list
    → (b : Bool) → (away == old) ≡ b
    → Goes IsKeptBook shown moved 0 (v, (no_nib, None)) (λ n. either (n == old) (old + 1) n) (AddsCell (step 0 old (old + 1) s) (v, (no_nib, None))) (cells_of (length list) away) list
cell_goes v list s old away low few held rising true is =
    let here : away ≡ old = grind (arith, nat_tests) in
    let all : list ++ [] ≡ list = append-nil list in
    let len : length list ≡ length (list ++ []) = ap length (sym all) in
    let n : either (away == old) (old + 1) away ≡ suc away = rw is (omega arith) in
    let cells : homes (length list) (aways away) ++ (0, false) ∷ [] ≡ homes (length (list ++ [])) (aways (suc away)) =
    homes-append (length list) (aways away) ((0, false) ∷ []) ∙ (ap (homes (length list)) (aways-push away) ∙ ap (λ k. homes k (aways (suc away))) len) in
    let key : length (cells_of (length list) away) ≡ (length (list ++ []) + old) + 2 = length-cells (length list) away ∙ (λ i. (len i + here i) + 2) in (
      adds,
      [],
      None,
      tt,
      record {
        away = suc away;
        words = λ i. (n i, true) ∷ (0, true) ∷ cells i;
        few = omega arith;
        held = λ _. omega arith;
        rising = subst NeverFall (sym all) rising;
      },
      inl (refl, refl),
      rw is (ap (λ k. nib may_make k 0) key, (λ none. all ∙ without_cell list away held (here ∙ none))),
    )
cell_goes v list s old away low few held rising false is =
    let n : either (away == old) (old + 1) away ≡ away = rw is refl in
    (keeps, [], None, tt, kept_same list away (either (away == old) (old + 1) away) n few held rising, inl (refl, refl), rw is tt)

-- whatever the list is, a cell is added, or another head is found
pub cell_moves : (v : List Published) (s : Published) (old : ℕ) → old ≤ 1
    → Moves IsKeptBook shown moved 0 (v, (no_nib, None)) (λ n. either (n == old) (old + 1) n) (AddsCell (step 0 old (old + 1) s) (v, (no_nib, None)))
cell_moves v s old low cs list kept pre away =
    let P : List Cell → Type 0 = λ c. (0 < length c) × ((cell c 0).1 ≡ true) × Goes IsKeptBook shown moved 0 (v, (no_nib, None)) (λ n. either (n == old) (old + 1) n) (AddsCell (step 0 old (old + 1) s) (v, (no_nib, None))) c list in
    subst P (sym kept.words) (omega arith, refl, cell_goes v list s old kept.away low kept.few kept.held kept.rising (kept.away == old) refl)

-- the first cell that isn't at home comes home, and the state is added
added_cells : (list : List Published) (s : Published) (n away found : ℕ) → length list ≡ n → away ≡ 2 → found ≡ 1
    → slice_set ((found, true) ∷ (0, true) ∷ homes (length list) (aways away)) (n + 2) (0, true) ≡ cells_of (length (list ++ s ∷ [])) 1
added_cells list s n away found len two one =
    let place : n + 2 ≡ suc (suc n) = omega arith in
    let more : suc n ≡ length (list ++ s ∷ []) = omega (arith, length-append list (s ∷ [])) in
    let home : slice_set (homes (length list) (aways away)) n (0, true) ≡ homes (length (list ++ s ∷ [])) (aways 1) =
    (λ i. slice_set (homes (len i) (aways (two i))) n (0, true)) ∙ (homes-set n 1 ∙ ap (λ k. homes k (aways 1)) more) in
    ap (λ k. slice_set ((found, true) ∷ (0, true) ∷ homes (length list) (aways away)) k (0, true)) place ∙ (λ i. (one i, true) ∷ (0, true) ∷ home i)

adds_goes : (u v list : List Published) (s : Published) (n away : ℕ) → IsPrefix u v → length u ≡ n → (last_of u).number ≤ s.number → IsPrefix v list → length list ≤ n
    → away ≤ 2 → (0 < length list → 0 < away) → NeverFall list
    → (b : Bool) → (away == 2) ≡ b
    → Goes IsKeptBook shown moved 0 (v, (right_after n, None)) (λ k. either (k == 2) 1 k) (AddsState (step 0 2 1 s) (v, (right_after n, None))) (cells_of (length list) away) list
adds_goes u v list s n away first len rises pre most few held rising true is =
    let two : away ≡ 2 = grind (arith, nat_tests) in
    let low = prefix_length u v first in
    let high = prefix_length v list pre in
    let whole : v ≡ list = prefix_whole v list pre (omega arith) in
    let known : u ≡ v = prefix_whole u v first (omega arith) in
    let rises' : (last_of list).number ≤ s.number = subst (λ (l : List Published). (last_of l).number ≤ s.number) (known ∙ whole) rises in
    let rising' : NeverFall (list ++ s ∷ []) = rising_push list s rising rises' in
    let one : either (away == 2) 1 away ≡ 1 = rw is refl in (
      gives,
      s ∷ [],
      None,
      refl,
      record {
        away = 1;
        words = added_cells list s n away (either (away == 2) 1 away) (omega arith) two one;
        few = omega arith;
        held = λ _. omega arith;
        rising = rising';
      },
      inl (refl, refl),
      rw is (omega arith, ap (λ l. l ++ s ∷ []) (sym whole), rising'),
    )
adds_goes u v list s n away first len rises pre most few held rising false is =
    let same : either (away == 2) 1 away ≡ away = rw is refl in
    (keeps, [], None, tt, kept_same list away (either (away == 2) 1 away) same few held rising, inl (refl, refl), rw is refl)

-- whatever the list is, who has the right to add to it adds a state to all that is known, or finds another head and keeps the right
pub adds_moves : (u v : List Published) (s : Published) (n : ℕ) → IsPrefix u v → length u ≡ n → (last_of u).number ≤ s.number
    → Moves IsKeptBook shown moved 0 (v, (right_after n, None)) (λ k. either (k == 2) 1 k) (AddsState (step 0 2 1 s) (v, (right_after n, None)))
adds_moves u v s n first len rises cs list kept pre away =
    let P : List Cell → Type 0 = λ c. Away (right_after n) c → (0 < length c) × ((cell c 0).1 ≡ true) × Goes IsKeptBook shown moved 0 (v, (right_after n, None)) (λ k. either (k == 2) 1 k) (AddsState (step 0 2 1 s) (v, (right_after n, None))) c list in
    subst P (sym kept.words)
    (λ right. (omega arith, refl, adds_goes u v list s n kept.away first len rises pre (rights_end n (length list) kept.away right) kept.few kept.held kept.rising (kept.away == 2) refl)) away

either_same : (b : Bool) (n : ℕ) → (n == 0) ≡ b → either b 0 n ≡ n
either_same true n is = let here : n ≡ 0 = grind (arith, nat_tests) in sym here
either_same false n is = refl

-- whatever the list is, who has the right to add to it sees all of it
pub sees_moves : (v : List Published) (s : Published) (n : ℕ)
    → Moves IsKeptBook shown moved 0 (v, (right_after n, None)) (λ k. either (k == 0) 0 k) (SeesAll (step 0 0 0 s) (v, (right_after n, None)))
sees_moves v s n cs list kept pre away =
    let P : List Cell → Type 0 = λ c. Away (right_after n) c → (0 < length c) × ((cell c 0).1 ≡ true) × Goes IsKeptBook shown moved 0 (v, (right_after n, None)) (λ k. either (k == 0) 0 k) (SeesAll (step 0 0 0 s) (v, (right_after n, None))) c list in
    let same : either (kept.away == 0) 0 kept.away ≡ kept.away = either_same (kept.away == 0) kept.away refl in
    subst P (sym kept.words)
    (λ right. let most = rights_end n (length list) kept.away right in let all : length (list ++ []) ≡ length list = ap length (append-nil list) in
    (omega arith, refl, (keeps, [], None, tt, kept_same list kept.away (either (kept.away == 0) 0 kept.away) same kept.few kept.held kept.rising, inl (refl, refl), (omega arith, refl)))) away
