-- Tables that are joined: one after others, and those before and after a place.
use Rattle.std.proofs.Common.{◌≡◌, ℕ, ◌+◌, ◌<◌, List, [], ◌∷◌, ◌++◌, length, take, drop, get_or, Result, Ok, Err, sym, ap, subst, ◌∙◌, append_assoc}
use Rattle.std.specs.Result.{OnOk}
use Rattle.std.proofs.lemmas.Grind.{flat_map-append}
use Rattle.std.proofs.lemmas.List.{append-nil, take-append-drop, take_more}
use Rattle.slate_types.specs.declared.batches.Batch.{Batch}
use Rattle.slate_types.specs.Line.{AreNumberedFrom, batches_above}
use Rattle.slate_reads.specs.Index.{AreRising}
use Rattle.slate_model.proofs.Free.{numbered-front, numbered-rising}
use Rattle.slate_model.proofs.Reopened.{numbered_rest}
use Rattle.slate_follow.specs.Joined.{joined}
use Rattle.slate_follow.proofs.Above.{above-append}

pub joined-append : (xs ys : List (List Batch)) → joined (xs ++ ys) ≡ joined xs ++ joined ys
joined-append xs ys = flat_map-append (λ (t : List Batch). t) xs ys

-- a table after others is joined to them
pub joined-push : (tables : List (List Batch)) (table : List Batch) → joined (tables ++ table ∷ []) ≡ joined tables ++ table
joined-push tables table = joined-append tables (table ∷ []) ∙ ap (λ xs. joined tables ++ xs) (append-nil table)

-- those up to a place and those after it are all
pub joined-split : (tables : List (List Batch)) (i : ℕ) → joined (take i tables) ++ joined (drop i tables) ≡ joined tables
joined-split tables i = sym (joined-append (take i tables) (drop i tables)) ∙ ap joined (take-append-drop i tables)

-- one more of them
module _ (tables : List (List Batch)) (i : ℕ) (table : List Batch) (inside : i < length tables) (item : table ≡ get_or tables i table) where
  pub joined-next : joined (take (i + 1) tables) ≡ joined (take i tables) ++ table
  joined-next = ap joined (take_more tables i table inside ∙ ap (λ t. take i tables ++ t ∷ []) (sym item)) ∙ joined-push (take i tables) table

  -- what is left of them above a number
  pub above-next : (n : ℕ) (left left' cut : List Batch) → left ≡ batches_above n (joined (take i tables)) → cut ≡ batches_above n table → left' ≡ left ++ cut → left' ≡ batches_above n (joined (take (i + 1) tables))
  above-next n left left' cut left_is cut_is is =
      is ∙ (ap (λ xs. xs ++ cut) left_is ∙ (ap (λ xs. batches_above n (joined (take i tables)) ++ xs) cut_is
      ∙ (sym (above-append n (joined (take i tables)) table) ∙ ap (batches_above n) (sym joined-next))))

  -- those before it rise with it, where all and what comes after them are numbered
  pub next-rises : (floor : ℕ) (more : List Batch) → AreNumberedFrom floor (joined tables ++ more) → AreRising (joined (take i tables) ++ table)
  next-rises floor more numbered =
      let all = numbered-front floor (joined tables) more numbered in
      let first = numbered-front floor (joined (take (i + 1) tables)) (joined (drop (i + 1) tables)) (subst (AreNumberedFrom floor) (sym (joined-split tables (i + 1))) all) in
      numbered-rising floor (joined (take i tables) ++ table) (subst (AreNumberedFrom floor) joined-next first)

-- the last ones of them, joined with what comes after them
module _ (tables : List (List Batch)) (i : ℕ) (more : List Batch) where
  pub joined-last : joined (take i tables) ++ (joined (drop i tables) ++ more) ≡ joined tables ++ more
  joined-last = sym (append_assoc (joined (take i tables)) (joined (drop i tables)) more) ∙ ap (λ xs. xs ++ more) (joined-split tables i)

-- the last two of them
module _ (tables : List (List Batch)) (older newest : List Batch) where
  pub joined-two : joined ((tables ++ older ∷ []) ++ newest ∷ []) ≡ joined tables ++ (older ++ newest)
  joined-two = joined-push (tables ++ older ∷ []) newest ∙ (ap (λ xs. xs ++ newest) (joined-push tables older) ∙ append_assoc (joined tables) older newest)

  -- and rise, where all are numbered
  pub two-rise : (floor : ℕ) → AreNumberedFrom floor (joined ((tables ++ older ∷ []) ++ newest ∷ [])) → AreRising (older ++ newest)
  two-rise floor numbered = numbered-rising (floor + length (joined tables)) (older ++ newest) (numbered_rest floor (joined tables) (older ++ newest) (subst (AreNumberedFrom floor) joined-two numbered))

pub on-ok : {A E : Type 0} {P Q : Type 0} (r : Result A E) → (P → Q) → OnOk r P → OnOk r Q
on-ok (Ok x) f h = f h
on-ok (Err e) f h = tt
