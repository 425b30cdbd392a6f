-- The first reader that passes a test, how many pass it, and what belongs to the open ones.
use Rattle.std.proofs.Common.{◌≡◌, ◌∙◌, ◌+◌, ◌<◌, inl, inr, ℕ, zero, suc, Bool, true, false, cond, ltb, List, [], ◌∷◌, ◌++◌, get_or, length, take, Some, None, refl, sym, ap, arith}
use Rattle.std.specs.Prelude.{◌||◌, if◌then◌else◌, count_by, position, slice_get}
use Rattle.std.specs.List.{list_any, position_or_len}
use Rattle.std.proofs.lemmas.Bool.{cases_lt, le-ltb, lt-ltb}
use Rattle.std.proofs.lemmas.List.Sums.{count_by_more_no, count_by_more_yes, fails_before_first, position_or_len_is, sum_by-take-le}
use Rattle.std.proofs.lemmas.Option.{slice_get-get_or, slice_get_within, get_or_from_slice_get}
use Rattle.slate_model.specs.Follower.{Follower}
use Rattle.slate_route.specs.Reading.{is_open, of_open}

module _ {X : Type 0} (p : X → Bool) where
  -- the place of the first of a list
  pub first-at : (xs : List X) (i : ℕ) (x : X) → slice_get xs i ≡ Some x → p x ≡ true → ((j : ℕ) (y : X) → j < i → slice_get xs j ≡ Some y → p y ≡ false) → position p xs ≡ Some i
  first-at xs i x at passes fails =
      let within : i < length xs = slice_get_within xs i x at in
      let is : position_or_len p xs ≡ i = position_or_len_is p xs i x (omega (arith, within))
      (λ k less. fails k (get_or xs k x) less (slice_get-get_or xs k x (omega (arith, less, within))))
      (λ inside. ap p (get_or_from_slice_get xs i x x at) ∙ passes) in
      ap (λ n. cond (ltb n (length xs)) (Some n) None) is ∙ ap (λ b. cond b (Some i) None) (lt-ltb i (length xs) within)

  pub none-at : (xs : List X) → ((i : ℕ) (x : X) → slice_get xs i ≡ Some x → p x ≡ false) → position p xs ≡ None
  none-at [] fails = refl
  none-at (x ∷ xs) fails =
      let all = x ∷ xs in
      let is : position_or_len p all ≡ length all = position_or_len_is p all (length all) x (omega arith)
      (λ k less. fails k (get_or all k x) (slice_get-get_or all k x less))
      (λ inside. absurd (omega (arith, inside))) in
      ap (λ n. cond (ltb n (length all)) (Some n) None) is ∙ ap (λ b. cond b (Some (length all)) None) (le-ltb (length all) (length all) (omega arith))

  pub fails-at : (xs : List X) → position p xs ≡ None → (i : ℕ) (x : X) → slice_get xs i ≡ Some x → p x ≡ false
  fails-at xs none i x at =
      let within = slice_get_within xs i x at in
      elim (cases_lt (position_or_len p xs) (length xs)) [
        | inl found ↦
            let is : position p xs ≡ Some (position_or_len p xs) = ap (λ b. cond b (Some (position_or_len p xs)) None) (lt-ltb (position_or_len p xs) (length xs) found) in
            absurd (let no = sym none ∙ is in cc)
        | inr over ↦ ap p (sym (get_or_from_slice_get xs i x x at)) ∙ fails_before_first p xs i x (omega (arith, within, over))
      ]

  -- where some pass there is one
  pub some-pass : (xs : List X) → list_any p xs ≡ true → (i : ℕ) × (x : X) × (slice_get xs i ≡ Some x) × (p x ≡ true)
  some-pass [] some = absurd (cc)
  some-pass (x ∷ xs) some = by (p x) refl (λ few. some-pass xs few) where
    by : (b : Bool) → p x ≡ b → (list_any p xs ≡ true → (i : ℕ) × (y : X) × (slice_get xs i ≡ Some y) × (p y ≡ true)) → (i : ℕ) × (y : X) × (slice_get (x ∷ xs) i ≡ Some y) × (p y ≡ true)
    by true is rest = (0, x, refl, is)
    by false is rest =
        let found = rest (ap (λ b. b || list_any p xs) (sym is) ∙ some) in
        (suc found.0, found.1, found.2, found.3)

  -- one more of them
  pub count-more : (xs : List X) (i : ℕ) (x : X) (b : Bool) → slice_get xs i ≡ Some x → p x ≡ b → count_by p (take (i + 1) xs) ≡ count_by p (take i xs) + cond b 1 0
  count-more xs i x true at is = count_by_more_yes p xs i x (slice_get_within xs i x at) (ap p (get_or_from_slice_get xs i x x at) ∙ is)
  count-more xs i x false at is =
      let same = count_by_more_no p xs i x (slice_get_within xs i x at) (ap p (get_or_from_slice_get xs i x x at) ∙ is) in omega (arith, same)

  pub count-some : (xs : List X) (i : ℕ) (x : X) → slice_get xs i ≡ Some x → p x ≡ true → 0 < count_by p xs
  count-some xs i x at passes =
      let more = count-more xs i x true at passes in
      let few = sum_by-take-le (λ y. cond (p y) 1 0) xs (i + 1) in
      omega (arith, more, few)

module _ {X : Type 0} where
  -- a closed one more has no part in it
  open-past : (readers : List Follower) (xs : List X) (i : ℕ) (f : Follower) → slice_get readers i ≡ Some f → is_open f ≡ false → of_open (take (suc i) readers) xs ≡ of_open (take i readers) xs
  open-past [] xs i f at closed = absurd (cc)
  open-past (g ∷ readers) [] zero f at closed = refl
  open-past (g ∷ readers) [] (suc i) f at closed = refl
  open-past (g ∷ readers) (x ∷ xs) zero f at closed = let it : g ≡ f = cc in ap (λ c. if c then x ∷ [] else []) (ap is_open it ∙ closed)
  open-past (g ∷ readers) (x ∷ xs) (suc i) f at closed = ap (λ ys. if is_open g then x ∷ ys else ys) (open-past readers xs i f at closed)

  pub open-same : (readers : List Follower) (xs : List X) (i : ℕ) (f : Follower) → slice_get readers i ≡ Some f → is_open f ≡ false → of_open (take (i + 1) readers) xs ≡ of_open (take i readers) xs
  open-same readers xs i f at closed = let on : i + 1 ≡ suc i = omega arith in ap (λ n. of_open (take n readers) xs) on ∙ open-past readers xs i f at closed

  -- an open one more has its own
  open-next : (readers : List Follower) (xs : List X) (i : ℕ) (f : Follower) (x : X) → slice_get readers i ≡ Some f → is_open f ≡ true → slice_get xs i ≡ Some x → of_open (take (suc i) readers) xs ≡ of_open (take i readers) xs ++ x ∷ []
  open-next [] xs i f x at opened there = absurd (cc)
  open-next (g ∷ readers) [] i f x at opened there = absurd (cc)
  open-next (g ∷ readers) (y ∷ xs) zero f x at opened there =
      let it : g ≡ f = cc in
      let mine : y ≡ x = cc in
      ap (λ c. if c then y ∷ [] else []) (ap is_open it ∙ opened) ∙ ap (λ z. z ∷ []) mine
  open-next (g ∷ readers) (y ∷ xs) (suc i) f x at opened there = by (is_open g) (of_open (take (suc i) readers) xs) (of_open (take i readers) xs) (open-next readers xs i f x at opened there) where
    by : (c : Bool) (ys zs : List X) → ys ≡ zs ++ x ∷ [] → (if c then y ∷ ys else ys) ≡ (if c then y ∷ zs else zs) ++ x ∷ []
    by true ys zs same = ap (λ l. y ∷ l) same
    by false ys zs same = same

  pub open-more : (readers : List Follower) (xs : List X) (i : ℕ) (f : Follower) (x : X) → slice_get readers i ≡ Some f → is_open f ≡ true → slice_get xs i ≡ Some x → of_open (take (i + 1) readers) xs ≡ of_open (take i readers) xs ++ x ∷ []
  open-more readers xs i f x at opened there = let on : i + 1 ≡ suc i = omega arith in ap (λ n. of_open (take n readers) xs) on ∙ open-next readers xs i f x at opened there
