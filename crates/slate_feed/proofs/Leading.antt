-- Taking the batches of a piece one by one: what is found leads on without a gap.
use Rattle.std.proofs.Common.{◌≡◌, ℕ, zero, suc, ◌+◌, ◌-◌, ◌<◌, ◌≤◌, ◌||◌, inl, inr, max, Bool, true, false, List, [], ◌∷◌, ◌++◌, length, take, drop, get_or, cond, refl, sym, subst, ap, ◌∙◌, arith, add-one, append_assoc, length-append, ltb}
use Rattle.std.proofs.Math.Seq.{drop-cons}
use Rattle.std.proofs.lemmas.Bool.{lt-ltb, le-ltb}
use Rattle.std.proofs.lemmas.List.{append-nil, take-append-drop, take_more, take_all}
use Rattle.std.proofs.lemmas.List.Elements.{All-append, All-cons, All-nil, filter-append}
use Rattle.std.specs.List.{Contains}
use Rattle.std.specs.Prelude.{Some, Ok, slice_get}
use Rattle.slate_types.proofs.Lines.{above-push, numbered-push}
use Rattle.slate_types.specs.declared.batches.Batch.{Batch}
use Rattle.slate_types.specs.Line.{AreNumberedFrom, batches_above}
use Rattle.slate_store.specs.Content.{number_before}
use Rattle.slate_store.specs.Logs.{HaveGap, HaveNoGap}
use Rattle.slate_store.proofs.Logs.{no_gap-next, no_gap-passed}
use Rattle.slate_feed.specs.declared.pieces.Found.{Found}
use Rattle.slate_feed.specs.declared.pieces.Taken.TheVariants.{Whole, Gap, Below}
use Rattle.slate_feed.specs.Taking.{Grows, TakesPiece, TakesOne, greatest_number, is_some_batch}

abbrev items : Found → List Batch
items found = found.batches.items

-- ---- lists of batches
pub some-push : (xs : List Batch) (b : Batch) (ys : List Batch) → is_some_batch (xs ++ b ∷ ys) ≡ true
some-push [] b ys = refl
some-push (x ∷ xs) b ys = refl

pub greatest-push : (n : ℕ) (xs : List Batch) (b : Batch) → greatest_number n (xs ++ b ∷ []) ≡ max (greatest_number n xs) b.number
greatest-push n [] b = omega arith
greatest-push n (x ∷ xs) b = let more = greatest-push n xs b in omega (arith, more)

or_true : (b : Bool) → (b || true) ≡ true
or_true false = refl
or_true true = refl

or_false : (b : Bool) → (b || false) ≡ b
or_false false = refl
or_false true = refl

-- where there is a batch, the number before the first doesn't depend on what follows
before-more : (n : ℕ) (xs ys : List Batch) → is_some_batch xs ≡ true → number_before (xs ++ ys) n ≡ number_before xs n
before-more n [] ys some = absurd (cc)
before-more n (x ∷ xs) ys some = refl

contains-middle : (xs : List Batch) (b : Batch) (ys : List Batch) → Contains (xs ++ b ∷ ys) b
contains-middle [] b ys = (zero, omega arith, refl)
contains-middle (x ∷ xs) b ys = let rest = contains-middle xs b ys in (suc rest.0, omega (arith, rest.1), rest.2)

-- ---- the batches above a number up to a place, and the one at it
parts : (i : ℕ) (all : List Batch) (b : Batch) → i < length all → b ≡ get_or all i b → all ≡ take i all ++ b ∷ drop (i + 1) all
parts i all b less is =
    sym (take-append-drop i all)
    ∙ ap (λ xs. take i all ++ xs) (drop-cons all i b less ∙ (ap (λ n. get_or all i b ∷ drop n all) (sym (add-one i)) ∙ ap (λ x. x ∷ drop (i + 1) all) (sym is)))

next-of : (i : ℕ) (all : List Batch) (b : Batch) → i < length all → b ≡ get_or all i b → take (i + 1) all ≡ take i all ++ b ∷ []
next-of i all b less is = take_more all i b less ∙ ap (λ x. take i all ++ x ∷ []) (sym is)

pub above-passed : (n i : ℕ) (all : List Batch) (b : Batch) → i < length all → b ≡ get_or all i b → b.number ≤ n → batches_above n (take (i + 1) all) ≡ batches_above n (take i all)
above-passed n i all b less is low =
    ap (batches_above n) (next-of i all b less is)
    ∙ (filter-append (λ x. ltb n x.number) (take i all) (b ∷ [])
    ∙ (ap (λ t. batches_above n (take i all) ++ cond t (b ∷ []) []) (le-ltb n b.number low) ∙ append-nil (batches_above n (take i all))))

pub above-next : (n i : ℕ) (all : List Batch) (b : Batch) → i < length all → b ≡ get_or all i b → n < b.number → batches_above n (take (i + 1) all) ≡ batches_above n (take i all) ++ b ∷ []
above-next n i all b less is high = ap (batches_above n) (next-of i all b less is) ∙ above-push n (take i all) b high

pub above-split : (n i : ℕ) (all : List Batch) (b : Batch) → i < length all → b ≡ get_or all i b → n < b.number →
    batches_above n all ≡ batches_above n (take i all) ++ b ∷ batches_above n (drop (i + 1) all)
above-split n i all b less is high =
    ap (batches_above n) (parts i all b less is)
    ∙ (filter-append (λ x. ltb n x.number) (take i all) (b ∷ drop (i + 1) all)
    ∙ ap (λ t. batches_above n (take i all) ++ cond t (b ∷ batches_above n (drop (i + 1) all)) (batches_above n (drop (i + 1) all))) (lt-ltb n b.number high))

-- ---- what was taken so far of a piece
pub record SoFar (cursor : ℕ) (piece so_far : List Batch) (old now : Found) : Type 0 where
  pub numbered : AreNumberedFrom cursor (items now)
  pub fresh : now.began ≡ false → items now ≡ []
  pub grows : Grows piece (items old) (items now)
  pub no_gap : HaveNoGap (cursor + length (items old)) (cursor + length (items now)) so_far
  pub began : now.began ≡ (old.began || is_some_batch so_far)
  pub end : now.end ≡ greatest_number old.end so_far
  pub first : old.began ≡ false → number_before so_far cursor ≤ cursor

pub so_far-start : (cursor : ℕ) (piece : List Batch) (old : Found) → AreNumberedFrom cursor (items old) → (old.began ≡ false → items old ≡ []) → SoFar cursor piece [] old old
so_far-start cursor piece old numbered fresh =
    record {
      numbered = numbered;
      fresh = fresh;
      grows = ([], sym (append-nil (items old)), All-nil (Contains piece));
      no_gap = refl;
      began = sym (or_false old.began);
      end = refl;
      first = λ _. omega arith;
    }

module _ (cursor : ℕ) (piece so_far later : List Batch) (old now : Found) (b : Batch) (split : piece ≡ so_far ++ b ∷ later) (s : SoFar cursor piece so_far old now) where
  has : Contains piece b
  has = subst (λ xs. Contains xs b) (sym split) (contains-middle so_far b later)

  -- where nothing was read before, nothing was found
  unread : old.began ≡ false → is_some_batch so_far ≡ false → items now ≡ []
  unread fresh none = s.fresh (s.began ∙ (ap (λ t. t || is_some_batch so_far) fresh ∙ none))

  -- the first batch isn't past the next number
  first-next : b.number ≤ cursor + length (items now) + 1 → old.began ≡ false → number_before (so_far ++ b ∷ []) cursor ≤ cursor
  first-next low fresh = go so_far refl where
    go : (xs : List Batch) → so_far ≡ xs → number_before (xs ++ b ∷ []) cursor ≤ cursor
    go [] is = let none = unread fresh (ap is_some_batch is) in omega (arith, low, ap length none)
    go (x ∷ xs) is = let f = s.first fresh in let g : number_before (x ∷ xs) cursor ≤ cursor = subst (λ xs. number_before xs cursor ≤ cursor) is f in g

  module _ (now' : Found) where
    pub took : TakesOne cursor b now (Ok Whole) now' → SoFar cursor piece (so_far ++ b ∷ []) old now'
    took t = elim t.2 as (λ _. SoFar cursor piece (so_far ++ b ∷ []) old now') [
      | inl passed ↦ rest passed.1 (subst (λ xs. AreNumberedFrom cursor xs) (sym passed.1) s.numbered)
          (subst (λ xs. Grows piece (items old) xs) (sym passed.1) s.grows)
          (subst (λ xs. HaveNoGap (cursor + length (items old)) (cursor + length xs) (so_far ++ b ∷ [])) (sym passed.1)
          (no_gap-passed (cursor + length (items old)) (cursor + length (items now)) so_far b s.no_gap passed.0))
          (omega (arith, passed.0))
      | inr next ↦ let long : cursor + length (items now) + 1 ≡ cursor + length (items now ++ b ∷ []) = simp length-append (omega arith) in
          rest next.1 (subst (λ xs. AreNumberedFrom cursor xs) (sym next.1) (numbered-push cursor (items now) b s.numbered (omega (arith, next.0))))
          (subst (λ xs. Grows piece (items old) xs) (sym next.1) (
            s.grows.0 ++ b ∷ [],
            ap (λ xs. xs ++ b ∷ []) s.grows.1 ∙ append_assoc (items old) s.grows.0 (b ∷ []),
            All-append (Contains piece) s.grows.0 (b ∷ []) s.grows.2 (All-cons (Contains piece) b [] has (All-nil (Contains piece))),
          ))
          (subst (λ xs. HaveNoGap (cursor + length (items old)) (cursor + length xs) (so_far ++ b ∷ [])) (sym next.1)
          (subst (λ e. HaveNoGap (cursor + length (items old)) e (so_far ++ b ∷ [])) long
          (no_gap-next (cursor + length (items old)) (cursor + length (items now)) so_far b s.no_gap next.0)))
          (omega (arith, next.0))
    ] where
      rest : {Q : Type 0} → Q → AreNumberedFrom cursor (items now') → Grows piece (items old) (items now') →
          HaveNoGap (cursor + length (items old)) (cursor + length (items now')) (so_far ++ b ∷ []) → b.number ≤ cursor + length (items now) + 1 → SoFar cursor piece (so_far ++ b ∷ []) old now'
      rest q numbered grows no_gap low =
          record {
            numbered = numbered;
            fresh = λ f. let yes = t.0 in absurd (cc);
            grows = grows;
            no_gap = no_gap;
            began = t.0 ∙ sym (ap (λ x. old.began || x) (some-push so_far b []) ∙ or_true old.began);
            end = t.1 ∙ (ap (λ n. max n b.number) s.end ∙ sym (greatest-push old.end so_far b));
            first = first-next low;
          }

    -- as many as were asked for were found
    pub filled : (limit : ℕ) → TakesOne cursor b now (Ok Whole) now' → length (items now) < limit → limit ≤ length (items now') → length (items now') ≡ limit
    filled limit t room full = elim t.2 as (λ _. length (items now') ≡ limit) [
      | inl passed ↦ let same = ap length passed.1 in absurd (omega (arith, same))
      | inr next ↦ let more = ap length next.1 ∙ length-append (items now) (b ∷ []) in omega (arith, more)
    ]

    pub within : (limit : ℕ) → TakesOne cursor b now (Ok Whole) now' → length (items now) < limit → length (items now') ≤ limit
    within limit t room = elim t.2 as (λ _. length (items now') ≤ limit) [
      | inl passed ↦ let same = ap length passed.1 in omega (arith, same)
      | inr next ↦ let more = ap length next.1 ∙ length-append (items now) (b ∷ []) in omega (arith, more)
    ]

    -- a batch was read before, or this one is the first
    pub first-whole : TakesOne cursor b now (Ok Whole) now' → old.began ≡ false → number_before piece cursor ≤ cursor
    first-whole t fresh =
        let f = (took t).first fresh in
        let whole : piece ≡ (so_far ++ b ∷ []) ++ later = split ∙ sym (append_assoc so_far (b ∷ []) later) in
        subst (λ n. n ≤ cursor) (sym (ap (λ xs. number_before xs cursor) whole ∙ before-more cursor (so_far ++ b ∷ []) later (some-push so_far b []))) f

    pub first-gap : TakesOne cursor b now (Ok Gap) now' → old.began ≡ false → number_before piece cursor ≤ cursor
    first-gap t fresh =
        let some : is_some_batch so_far ≡ true = sym (ap (λ x. x || is_some_batch so_far) fresh) ∙ (sym s.began ∙ t.0) in
        let f = s.first fresh in
        subst (λ n. n ≤ cursor) (sym (ap (λ xs. number_before xs cursor) split ∙ before-more cursor so_far (b ∷ later) some)) f

    pub gap : TakesOne cursor b now (Ok Gap) now' → HaveGap (cursor + length (items old)) (cursor + length (items now)) piece
    gap t = record { front = so_far; batch = b; rest = later; parts = split; no_gap = s.no_gap; past = t.1 }

    -- the first batch that was ever read is past the next number
    pub below : (floor limit : ℕ) → TakesOne cursor b now (Ok (Below floor)) now' → TakesPiece cursor limit piece old (Ok (Below floor)) now'
    below floor limit t = (old_fresh, omega (arith, t.1, t.2, ap length nothing), (b, later, split ∙ ap (λ xs. xs ++ b ∷ later) none, t.2)) where
      neither : (x y : Bool) → (x || y) ≡ false → (x ≡ false) × (y ≡ false)
      neither false y h = (refl, h)
      neither true y h = absurd (cc)

      both : (old.began ≡ false) × (is_some_batch so_far ≡ false)
      both = neither old.began (is_some_batch so_far) (sym s.began ∙ t.0)

      old_fresh : old.began ≡ false
      old_fresh = both.0

      nothing : items now ≡ []
      nothing = s.fresh t.0

      nil : (xs : List Batch) → is_some_batch xs ≡ false → xs ≡ []
      nil [] h = refl
      nil (x ∷ xs) h = absurd (cc)

      none : so_far ≡ []
      none = nil so_far both.1

-- all of the piece was taken
pub all-taken : (cursor limit n : ℕ) (all : List Batch) (old now : Found) → SoFar cursor (batches_above n all) (batches_above n (take (length all) all)) old now → TakesPiece cursor limit (batches_above n all) old (Ok Whole) now
all-taken cursor limit n all old now s =
    let same : take (length all) all ≡ all = take_all (length all) all (omega arith) in
    inr (
      subst (λ xs. HaveNoGap (cursor + length (items old)) (cursor + length (items now)) (batches_above n xs)) same s.no_gap,
      s.began ∙ ap (λ xs. old.began || is_some_batch (batches_above n xs)) same,
      s.end ∙ ap (λ xs. greatest_number old.end (batches_above n xs)) same,
    )

-- the number of the last of batches that are numbered one after another
pub last-number : (floor : ℕ) (bs : List Batch) (b : Batch) → AreNumberedFrom floor bs → slice_get bs (length bs - 1) ≡ Some b → b.number ≡ floor + length bs
last-number floor [] b h is = absurd (cc)
last-number floor (x ∷ []) b h is = let same : x ≡ b = cc in let n = ap (λ (y : Batch). y.number) same in let first = h.0 in omega (arith, n, first)
last-number floor (x ∷ y ∷ bs) b h is =
    let at : length (x ∷ y ∷ bs) - 1 ≡ suc (length (y ∷ bs) - 1) = omega arith in
    let rest = last-number (floor + 1) (y ∷ bs) b h.1 (subst (λ k. slice_get (x ∷ y ∷ bs) k ≡ Some b) at is) in
    omega (arith, rest)
