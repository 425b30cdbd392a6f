-- Changes that are made in their order, by one call of a store after another.
use Rattle.std.proofs.Common.{◌≡◌, inl, inr, ℕ, zero, suc, ◌+◌, ◌≤◌, ◌<◌, List, [], ◌∷◌, ◌++◌, length, map, take, drop, drop-cons, Option, Result, Ok, Err, refl, sym, ap, subst, ◌∙◌, arith, get_or, length-append}
use Rattle.std.proofs.lemmas.List.{map-append, take-append-drop, take-append-le, take_all, take_more}
use Rattle.std.proofs.Math.Seq.{take-append-add}
use Rattle.slate_types.specs.declared.store_errors.StoreError.{StoreError}
use Rattle.slate_types.specs.declared.store_errors.StoreError.TheVariants as errors
use Rattle.slate_types.specs.Modelled.{WhereModelled}
use Rattle.slate_types.proofs.Modelled.{modelled_as, modelled_then}
use Rattle.slate_store.specs.declared.refusals.StoreRefusal.{StoreRefusal}
use Rattle.slate_store.specs.Calls.{Puts, Removes}
use Rattle.slate_store.specs.Changes.{after_part}
use Rattle.slate_store.specs.Objects.{Change, Objects, changed, changed_all}
use Rattle.slate_store.specs.Steps.{Makes}
use Rattle.slate_store.proofs.Parts.{changed_all-append}

-- all of the changes
pub part-all : (cs : List Change) (o : Objects) → after_part (length cs) cs o ≡ changed_all cs o
part-all cs o = ap (λ xs. changed_all xs o) (take_all (length cs) cs (omega arith))

-- a part of the first ones
pub part-front : (made : ℕ) (cs ds : List Change) (o : Objects) → made ≤ length cs → after_part made (cs ++ ds) o ≡ after_part made cs o
part-front made cs ds o low = ap (λ xs. changed_all xs o) (take-append-le made cs ds low)

-- all of the first ones, and a part of the others
pub part-past : (made : ℕ) (cs ds : List Change) (o : Objects) → after_part (length cs + made) (cs ++ ds) o ≡ after_part made ds (changed_all cs o)
part-past made cs ds o = ap (λ xs. changed_all xs o) (take-append-add cs ds made) ∙ changed_all-append cs (take made ds) o

-- some first ones were made, as at a refusal
abbrev pub SomeMade : List Change → Objects → Objects → Type 0
SomeMade cs o o' = (made : ℕ) × (made ≤ length cs) × (o' ≡ after_part made cs o)

-- all were made, as at Ok
abbrev pub AllMade : List Change → Objects → Objects → Type 0
AllMade cs o o' = (made : ℕ) × (made ≡ length cs) × (o' ≡ after_part made cs o)

-- ---- one after another
pub none-made : (cs : List Change) (o o' : Objects) → o' ≡ o → SomeMade cs o o'
none-made cs o o' same = (zero, omega arith, same)

pub made-all : (cs : List Change) (o o' : Objects) → o' ≡ changed_all cs o → AllMade cs o o'
made-all cs o o' is = (length cs, refl, is ∙ sym (part-all cs o))

pub all-made : (cs : List Change) (o o' : Objects) → AllMade cs o o' → o' ≡ changed_all cs o
all-made cs o o' m = m.2 ∙ (ap (λ n. after_part n cs o) m.1 ∙ part-all cs o)

-- some of the first ones, and then none
pub some-stop : (cs ds : List Change) (o o' : Objects) → SomeMade cs o o' → SomeMade (cs ++ ds) o o'
some-stop cs ds o o' m =
    let low : m.0 ≤ length cs = m.1 in
    (m.0, (let more = length-append cs ds in omega arith), m.2 ∙ sym (part-front m.0 cs ds o low))

-- all of the first ones, and then some or all of the others
pub some-then : (cs ds : List Change) (o o1 o' : Objects) → o1 ≡ changed_all cs o → SomeMade ds o1 o' → SomeMade (cs ++ ds) o o'
some-then cs ds o o1 o' first m =
    let low : m.0 ≤ length ds = m.1 in
    (length cs + m.0, (let more = length-append cs ds in omega arith), m.2 ∙ (ap (after_part m.0 ds) first ∙ sym (part-past m.0 cs ds o)))

pub all-then : (cs ds : List Change) (o o1 o' : Objects) → o1 ≡ changed_all cs o → o' ≡ changed_all ds o1 → o' ≡ changed_all (cs ++ ds) o
all-then cs ds o o1 o' first then_all = then_all ∙ (ap (changed_all ds) first ∙ sym (changed_all-append cs ds o))

-- ---- a removal, and a put, that were refused
pub removal-made : (c : Change) (cs : List Change) (e : StoreError) (o o' : Objects) → Removes c (Err e) o o' → SomeMade (c ∷ cs) o o'
removal-made c cs errors.NotFound o o' h = absurd h
removal-made c cs errors.Exists o o' h = absurd h
removal-made c cs errors.NoMemory o o' h = (0, omega arith, h)
removal-made c cs errors.Failed o o' (inl h) = (0, omega arith, h)
removal-made c cs errors.Failed o o' (inr h) = (1, omega arith, h)

pub put-made : (c : Change) (cs : List Change) (e : StoreError) (o o' : Objects) → Puts c (Err e) o o' → SomeMade (c ∷ cs) o o'
put-made c cs errors.NotFound o o' h = absurd h
put-made c cs errors.Exists o o' h = (0, omega arith, h.1)
put-made c cs errors.NoMemory o o' h = (0, omega arith, h)
put-made c cs errors.Failed o o' (inl h) = (0, omega arith, h)
put-made c cs errors.Failed o o' (inr h) = (1, omega arith, h.1)

-- ---- removals of one kind, in a loop
module _ {K : Type 0} (f : K → Change) (ids : List K) where
  -- the first so many were made
  abbrev pub SoFar : ℕ → Objects → Objects → Type 0
  SoFar i o o' = o' ≡ changed_all (map f (take i ids)) o

  split : (i : ℕ) (d id : K) → i < length ids → id ≡ get_or ids i d → map f ids ≡ map f (take i ids) ++ f id ∷ map f (drop (i + 1) ids)
  split i d id less is =
      let next : i + 1 ≡ suc i = omega arith in
      ap (map f) (sym (take-append-drop i ids))
      ∙ (map-append f (take i ids) (drop i ids)
      ∙ ap (λ xs. map f (take i ids) ++ map f xs) (drop-cons ids i d less ∙ (ap (λ k. k ∷ drop (suc i) ids) (sym is) ∙ ap (λ n. id ∷ drop n ids) (sym next))))

  -- and one more
  pub one-more : {a b c : Option Objects} (i : ℕ) (d id : K) → i < length ids → id ≡ get_or ids i d → WhereModelled (SoFar i) a b → WhereModelled (Removes (f id) (Ok tt)) b c → WhereModelled (SoFar (i + 1)) a c
  one-more i d id less is so_far removed =
      let more : take (i + 1) ids ≡ take i ids ++ id ∷ [] = take_more ids i d less ∙ ap (λ k. take i ids ++ k ∷ []) (sym is) in
      modelled_then (SoFar (i + 1)) so_far removed
      (λ x y z p q. q ∙ (ap (changed (f id)) p
      ∙ sym (ap (λ xs. changed_all (map f xs) x) more ∙ (ap (λ cs. changed_all cs x) (map-append f (take i ids) (id ∷ [])) ∙ changed_all-append (map f (take i ids)) (f id ∷ []) x))))

  -- and the next one was refused
  pub one-refused : {a b c : Option Objects} (i : ℕ) (d id : K) (e : StoreError) → i < length ids → id ≡ get_or ids i d → WhereModelled (SoFar i) a b → WhereModelled (Removes (f id) (Err e)) b c → WhereModelled (SomeMade (map f ids)) a c
  one-refused i d id e less is so_far removed =
      modelled_then (SomeMade (map f ids)) so_far removed
      (λ x y z p q. subst (λ cs. SomeMade cs x z) (sym (split i d id less is))
      (some-then (map f (take i ids)) (f id ∷ map f (drop (i + 1) ids)) x y z p (removal-made (f id) (map f (drop (i + 1) ids)) e y z q)))

  pub all-removed : {a b : Option Objects} (i : ℕ) → length ids ≤ i → WhereModelled (SoFar i) a b → WhereModelled (AllMade (map f ids)) a b
  all-removed i past so_far =
      modelled_as (AllMade (map f ids)) so_far
      (λ x y p. made-all (map f ids) x y (p ∙ ap (λ xs. changed_all (map f xs) x) (take_all i ids past)))

-- ---- calls one after another
pub some-after : {a b c : Option Objects} (cs ds : List Change) → WhereModelled (AllMade cs) a b → WhereModelled (SomeMade ds) b c → WhereModelled (SomeMade (cs ++ ds)) a c
some-after cs ds first later = modelled_then (SomeMade (cs ++ ds)) first later (λ x y z p q. some-then cs ds x y z (all-made cs x y p) q)

pub stopped : {a b : Option Objects} (cs ds : List Change) → WhereModelled (SomeMade cs) a b → WhereModelled (SomeMade (cs ++ ds)) a b
stopped cs ds first = modelled_as (SomeMade (cs ++ ds)) first (λ x y p. some-stop cs ds x y p)

pub made-after : {a b c : Option Objects} (cs ds : List Change) (r : Result (Unit {0}) StoreRefusal) → WhereModelled (AllMade cs) a b → WhereModelled (Makes ds r) b c → WhereModelled (Makes (cs ++ ds) r) a c
made-after cs ds (Ok done) first later =
    modelled_then (AllMade (cs ++ ds)) first later (λ x y z p q. made-all (cs ++ ds) x z (all-then cs ds x y z (all-made cs x y p) (all-made ds y z q)))
made-after cs ds (Err refusal) first later = some-after cs ds first later
