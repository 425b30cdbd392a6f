-- The entries of the last writes, among which are those without a number.
use Rattle.std.proofs.Common.{◌≡◌, ◌<◌, ◌≤◌, ◌+◌, refl, sym, ◌∙◌, ap, ℕ, Bool, true, false, cond, ◌&&◌, ◌||◌, List, [], ◌∷◌, ◌++◌, take, length, get_or, Option, Some, None, IsSome, arith}
use Rattle.std.specs.List.{AllByRecursion, filter, list_any}
use Rattle.std.specs.List.Sorted.{IsStrictlySortedBy}
use Rattle.std.specs.Map.{keys_of, lookup, set_value}
use Rattle.std.specs.BTreeMap.{insert_entry, is_at}
use Rattle.std.specs.Option.{is_some, unwrap_or}
use Rattle.std.specs.Ordering.{is_eq, match_ordering}
use Rattle.std.specs.declared.cmp.Ordering.{Ordering}
use Rattle.std.specs.declared.cmp.Ordering.TheVariants.{Less, Equal, Greater}
use Rattle.std.specs.Prelude.{nat_lt}
use Rattle.std.proofs.lemmas.Bool.{false≢true, le-ltb, lt-ltb, ltb-false}
use Rattle.std.proofs.lemmas.Cmp.{nat_list_cmp_total}
use Rattle.std.proofs.lemmas.List.{take_more}
use Rattle.std.proofs.lemmas.Map.Keys.{sorted_head}
use Rattle.std.proofs.lemmas.Map.Lookups.{exact_bytes}
use Rattle.std.proofs.lemmas.Map.Made.{is_some-lookup}
use Rattle.std.proofs.lemmas.Map.Text.{is_eq-slice_cmp}
use Rattle.slate_types.specs.declared.batches.KeyOp.{KeyOp}
use Rattle.slate_types.specs.Range.{key_cmp}
use Rattle.slate_transactions.specs.Writes.{LastWrites, after_write, after_writes, is_among, numbered}
use Rattle.slate_transactions.proofs.Owning.{same-key}

-- entries in the order of their keys
abbrev pub AreSorted : LastWrites → Type 0
AreSorted entries = IsStrictlySortedBy key_cmp (keys_of entries)

rest-sorted : (e : List ℕ × ℕ) (entries : LastWrites) → AreSorted (e ∷ entries) → AreSorted entries
unfolding IsStrictlySortedBy
rest-sorted e entries sorted = sorted.1

-- a key below all others
abbrev pub IsBelow : List ℕ → LastWrites → Type 0
IsBelow key entries = AllByRecursion (λ y. key_cmp key y ≡ Less) (keys_of entries)

below-equal : (key at : List ℕ) (entries : LastWrites) → key_cmp key at ≡ Equal → IsBelow at entries → IsBelow key entries
below-equal key at [] same below = tt
below-equal key at (e ∷ entries) same below = (nat_list_cmp_total.congr key at e.0 same ∙ below.0, below-equal key at entries same below.1)

below-less : (key at : List ℕ) (entries : LastWrites) → key_cmp key at ≡ Less → IsBelow at entries → IsBelow key entries
below-less key at [] less below = tt
below-less key at (e ∷ entries) less below = (nat_list_cmp_total.trans key at e.0 less below.0, below-less key at entries less below.1)

none-at : (key : List ℕ) (entries : LastWrites) → IsBelow key entries → lookup (is_at (key_cmp key)) entries ≡ None
none-at key [] below = refl
none-at key (e ∷ entries) below = rw below.0 (none-at key entries below.1)

none-numbered : (key : List ℕ) (entries : LastWrites) → IsBelow key entries → lookup (is_at (key_cmp key)) (numbered entries) ≡ None
none-numbered key [] below = refl
none-numbered key (e ∷ entries) below = go (nat_lt 0 e.1) (none-numbered key entries below.1) where
  go : (b : Bool) → lookup (is_at (key_cmp key)) (numbered entries) ≡ None → lookup (is_at (key_cmp key)) (cond b (e ∷ numbered entries) (numbered entries)) ≡ None
  go true none = rw below.0 none
  go false none = none

front-numbered : (key : List ℕ) (number : ℕ) (entries : LastWrites) → IsBelow key entries → insert_entry key_cmp (numbered entries) key number ≡ (key, number) ∷ numbered entries
front-numbered key number [] below = refl
front-numbered key number (e ∷ entries) below = go (nat_lt 0 e.1) (front-numbered key number entries below.1) where
  go : (b : Bool) → insert_entry key_cmp (numbered entries) key number ≡ (key, number) ∷ numbered entries
      → insert_entry key_cmp (cond b (e ∷ numbered entries) (numbered entries)) key number ≡ (key, number) ∷ cond b (e ∷ numbered entries) (numbered entries)
  go true front = rw below.0 refl
  go false front = front

-- the number of a key is that of its entry
pub last-numbered : (key : List ℕ) (entries : LastWrites) → AreSorted entries → unwrap_or (lookup (is_at (key_cmp key)) entries) 0 ≡ unwrap_or (lookup (is_at (key_cmp key)) (numbered entries)) 0
last-numbered key [] sorted = refl
last-numbered key (e ∷ entries) sorted =
    go (key_cmp key e.0) refl (last-numbered key entries (rest-sorted e entries sorted)) (sorted_head key_cmp e.0 (keys_of entries) sorted) where
      at : List (List ℕ × ℕ) → ℕ
      at es = unwrap_or (lookup (is_at (key_cmp key)) es) 0

      here : (n : ℕ) (b : Bool) → nat_lt 0 n ≡ b → e.1 ≡ n → key_cmp key e.0 ≡ Equal → IsBelow e.0 entries → n ≡ at (cond b (e ∷ numbered entries) (numbered entries))
      here n true is same equal below = rw equal (sym same)
      here n false is same equal below = zero n is ∙ sym (ap (λ o. unwrap_or o 0) (none-numbered key entries (below-equal key e.0 entries equal below))) where
        zero : (n : ℕ) → nat_lt 0 n ≡ false → n ≡ 0
        zero n is = let least : n ≤ 0 = ltb-false 0 n is in omega arith

      later : (b : Bool) → is_eq (key_cmp key e.0) ≡ false → at entries ≡ at (numbered entries) → at entries ≡ at (cond b (e ∷ numbered entries) (numbered entries))
      later true other same = rw other same
      later false other same = same

      go : (o : Ordering) → key_cmp key e.0 ≡ o → at entries ≡ at (numbered entries) → IsBelow e.0 entries → at (e ∷ entries) ≡ at (cond (nat_lt 0 e.1) (e ∷ numbered entries) (numbered entries))
      go Equal is same below = rw is (here e.1 (nat_lt 0 e.1) refl refl is below)
      go Less is same below = rw is (later (nat_lt 0 e.1) (ap is_eq is) same)
      go Greater is same below = rw is (later (nat_lt 0 e.1) (ap is_eq is) same)

-- an entry without a number changes no write
pub numbered-room : (key : List ℕ) (entries : LastWrites) → lookup (is_at (key_cmp key)) entries ≡ None → numbered (insert_entry key_cmp entries key 0) ≡ numbered entries
numbered-room key [] none = refl
numbered-room key (e ∷ entries) none = go (key_cmp key e.0) refl (numbered-room key entries) where
  go : (o : Ordering) → key_cmp key e.0 ≡ o → (lookup (is_at (key_cmp key)) entries ≡ None → numbered (insert_entry key_cmp entries key 0) ≡ numbered entries)
      → numbered (match_ordering o ((key, 0) ∷ e ∷ entries) ((e.0, 0) ∷ entries) (e ∷ insert_entry key_cmp entries key 0)) ≡ numbered (e ∷ entries)
  go Less is more = refl
  go Equal is more = absurd (let some = rw is at none in cc)
  go Greater is more = ap (λ es. cond (nat_lt 0 e.1) (e ∷ es) es) (more (rw is at none))

-- setting a key's number is an insertion
pub numbered-set : (key : List ℕ) (number : ℕ) (entries : LastWrites) → 0 < number → AreSorted entries → IsSome (lookup (is_at (key_cmp key)) entries) →
    numbered (set_value (is_at (key_cmp key)) entries number) ≡ insert_entry key_cmp (numbered entries) key number
numbered-set key number [] some sorted there = absurd (let no = there in cc)
numbered-set key number (e ∷ entries) some sorted there =
    go (key_cmp key e.0) refl there (numbered-set key number entries some (rest-sorted e entries sorted)) (sorted_head key_cmp e.0 (keys_of entries) sorted) where
      Goal : Ordering → Type 0
      Goal o = numbered (cond (is_eq o) ((e.0, number) ∷ entries) (e ∷ set_value (is_at (key_cmp key)) entries number)) ≡ insert_entry key_cmp (numbered (e ∷ entries)) key number

      here : (b : Bool) → nat_lt 0 e.1 ≡ b → key_cmp key e.0 ≡ Equal → IsBelow e.0 entries → ◌≡◌ {A = LastWrites} ((e.0, number) ∷ numbered entries) (insert_entry key_cmp (cond b (e ∷ numbered entries) (numbered entries)) key number)
      here true is equal below = rw equal refl
      here false is equal below = sym (front-numbered key number entries (below-equal key e.0 entries equal below) ∙ ap (λ k. (k, number) ∷ numbered entries) (exact_bytes key e.0 equal))

      past : (b : Bool) → key_cmp key e.0 ≡ Greater → numbered (set_value (is_at (key_cmp key)) entries number) ≡ insert_entry key_cmp (numbered entries) key number →
          cond b (e ∷ numbered (set_value (is_at (key_cmp key)) entries number)) (numbered (set_value (is_at (key_cmp key)) entries number)) ≡ insert_entry key_cmp (cond b (e ∷ numbered entries) (numbered entries)) key number
      past true is more = rw is (ap (λ es. e ∷ es) more)
      past false is more = more

      go : (o : Ordering) → key_cmp key e.0 ≡ o → IsSome (lookup (is_at (key_cmp key)) (e ∷ entries)) → (IsSome (lookup (is_at (key_cmp key)) entries) → numbered (set_value (is_at (key_cmp key)) entries number) ≡ insert_entry key_cmp (numbered entries) key number)
          → IsBelow e.0 entries → Goal o
      go Equal is there more below = ap (λ b. cond b ((e.0, number) ∷ numbered entries) (numbered entries)) (lt-ltb 0 number some) ∙ here (nat_lt 0 e.1) refl is below
      go Less is there more below = absurd (let none = none-at key entries (below-less key e.0 entries is below) in let there = rw is at there in let no = rw none at there in cc)
      go Greater is there more below = past (nat_lt 0 e.1) is (more (rw is at there))

-- one more operation
after_writes-more : (number : ℕ) (unmarked : List (List ℕ)) (ops : List KeyOp) (o : KeyOp) (writes : LastWrites) →
    after_writes number unmarked (ops ++ o ∷ []) writes ≡ after_write number unmarked (after_writes number unmarked ops writes) o
after_writes-more number unmarked [] o writes = refl
after_writes-more number unmarked (first ∷ ops) o writes = after_writes-more number unmarked ops o (after_write number unmarked writes first)

pub writes-more : (number : ℕ) (unmarked : List (List ℕ)) (ops : List KeyOp) (i : ℕ) (o : KeyOp) (writes : LastWrites) → i < length ops → o ≡ get_or ops i o →
    after_writes number unmarked (take (i + 1) ops) writes ≡ after_write number unmarked (after_writes number unmarked (take i ops) writes) o
writes-more number unmarked ops i o writes lt at =
    ap (λ os. after_writes number unmarked os writes) (take_more ops i o lt ∙ ap (λ x. take i ops ++ x ∷ []) (sym at)) ∙ after_writes-more number unmarked (take i ops) o writes

-- a number above another isn't that of an entry without one
pub numbered-any : (start : ℕ) (inside : List ℕ → Bool) (entries : LastWrites) →
    list_any (λ (e : List ℕ × ℕ). inside e.0 && nat_lt start e.1) (numbered entries) ≡ list_any (λ (e : List ℕ × ℕ). inside e.0 && nat_lt start e.1) entries
numbered-any start inside [] = refl
numbered-any start inside (e ∷ entries) = go (nat_lt 0 e.1) refl (numbered-any start inside entries) where
  any : LastWrites → Bool
  any es = list_any (λ (x : List ℕ × ℕ). inside x.0 && nat_lt start x.1) es

  none : (b : Bool) → (b && false) ≡ false
  none true = refl
  none false = refl

  go : (b : Bool) → nat_lt 0 e.1 ≡ b → any (numbered entries) ≡ any entries → any (cond b (e ∷ numbered entries) (numbered entries)) ≡ ((inside e.0 && nat_lt start e.1) || any entries)
  go true is same = ap (λ b. (inside e.0 && nat_lt start e.1) || b) same
  go false is same =
      let least : e.1 ≤ 0 = ltb-false 0 e.1 is in
      let above : nat_lt start e.1 ≡ false = le-ltb start e.1 (omega arith) in
      same ∙ ap (λ b. b || any entries) (sym (ap (λ b. inside e.0 && b) above ∙ none (inside e.0)))

-- ---- what the code finds
pub absent-from : {X : Type 0} (found : Option X) → is_some found ≡ false → found ≡ None
absent-from None is = refl
absent-from (Some x) is = absurd (cc)

-- the entry of a key after another was inserted
pub lookup-inserted : (key added : List ℕ) (number : ℕ) (entries : LastWrites) →
    lookup (is_at (key_cmp key)) (insert_entry key_cmp entries added number) ≡ cond (is_eq (key_cmp key added)) (Some number) (lookup (is_at (key_cmp key)) entries)
lookup-inserted key added number [] = refl
lookup-inserted key added number (e ∷ entries) = go (key_cmp added e.0) refl (lookup-inserted key added number entries) where
  found : LastWrites → Option ℕ
  found es = lookup (is_at (key_cmp key)) es

  twice : (b : Bool) → cond b (Some number) (found entries) ≡ cond b (Some number) (cond b (Some e.1) (found entries))
  twice true = refl
  twice false = refl

  equal : (o : Ordering) → is_eq o ≡ true → o ≡ Equal
  equal Less is = absurd (false≢true is)
  equal Equal is = refl
  equal Greater is = absurd (false≢true is)

  past : (b : Bool) → is_eq (key_cmp key e.0) ≡ b → (a : Bool) → is_eq (key_cmp key added) ≡ a → key_cmp added e.0 ≡ Greater →
      cond b (Some e.1) (cond a (Some number) (found entries)) ≡ cond a (Some number) (cond b (Some e.1) (found entries))
  past true at true added-is is = absurd (
      let same = nat_list_cmp_total.congr key added e.0 (equal (key_cmp key added) added-is) in
      let here = equal (key_cmp key e.0) at in
      let both : Equal ≡ Greater = sym here ∙ same ∙ is in cc)
  past true at false added-is is = refl
  past false at a added-is is = refl

  go : (o : Ordering) → key_cmp added e.0 ≡ o → found (insert_entry key_cmp entries added number) ≡ cond (is_eq (key_cmp key added)) (Some number) (found entries)
      → found (match_ordering o ((added, number) ∷ e ∷ entries) ((e.0, number) ∷ entries) (e ∷ insert_entry key_cmp entries added number)) ≡ cond (is_eq (key_cmp key added)) (Some number) (found (e ∷ entries))
  go Less is more = refl
  go Equal is more = rw (exact_bytes added e.0 is) (twice (is_eq (key_cmp key e.0)))
  go Greater is more = rw more (past (is_eq (key_cmp key e.0)) refl (is_eq (key_cmp key added)) refl is)

-- the keys for which there is room after another was inserted
pub room-inserted : (key added : List ℕ) (number : ℕ) (entries : LastWrites) → is_among (keys_of entries) key ≡ true → is_among (keys_of (insert_entry key_cmp entries added number)) key ≡ true
room-inserted key added number entries there =
    sym (is_some-lookup (is_at (key_cmp key)) (insert_entry key_cmp entries added number))
    ∙ ap is_some (lookup-inserted key added number entries)
    ∙ go (is_eq (key_cmp key added)) where
      go : (b : Bool) → is_some (cond b (Some number) (lookup (is_at (key_cmp key)) entries)) ≡ true
      go true = refl
      go false = is_some-lookup (is_at (key_cmp key)) entries ∙ there

pub room-at : (key : List ℕ) (number : ℕ) (entries : LastWrites) → is_among (keys_of (insert_entry key_cmp entries key number)) key ≡ true
room-at key number entries =
    sym (is_some-lookup (is_at (key_cmp key)) (insert_entry key_cmp entries key number))
    ∙ ap is_some (lookup-inserted key key number entries)
    ∙ ap (λ b. is_some (cond b (Some number) (lookup (is_at (key_cmp key)) entries))) (is_eq-slice_cmp key key ∙ same-key key)

-- one more operation, whose key is unmarked or not
pub noted-more : (number : ℕ) (unmarked : List (List ℕ)) (ops : List KeyOp) (i : ℕ) (o : KeyOp) (first old new : LastWrites) → i < length ops → o ≡ get_or ops i o →
    is_among unmarked o.key ≡ false → old ≡ after_writes number unmarked (take i ops) first → new ≡ insert_entry key_cmp old o.key number →
    new ≡ after_writes number unmarked (take (i + 1) ops) first
noted-more number unmarked ops i o first old new lt at marked old-is new-is =
    new-is ∙ ap (λ ws. insert_entry key_cmp ws o.key number) old-is
    ∙ ap (λ b. cond b (after_writes number unmarked (take i ops) first) (insert_entry key_cmp (after_writes number unmarked (take i ops) first) o.key number)) (sym marked)
    ∙ sym (writes-more number unmarked ops i o first lt at)

pub passed-more : (number : ℕ) (unmarked : List (List ℕ)) (ops : List KeyOp) (i : ℕ) (o : KeyOp) (first old new : LastWrites) → i < length ops → o ≡ get_or ops i o →
    is_among unmarked o.key ≡ true → old ≡ after_writes number unmarked (take i ops) first → new ≡ old →
    new ≡ after_writes number unmarked (take (i + 1) ops) first
passed-more number unmarked ops i o first old new lt at marked old-is new-is =
    new-is ∙ old-is
    ∙ ap (λ b. cond b (after_writes number unmarked (take i ops) first) (insert_entry key_cmp (after_writes number unmarked (take i ops) first) o.key number)) (sym marked)
    ∙ sym (writes-more number unmarked ops i o first lt at)

-- a search among what passes another test
pub any-filter : {X : Type 0} (p q : X → Bool) (xs : List X) → list_any q (filter p xs) ≡ list_any (λ x. p x && q x) xs
any-filter p q [] = refl
any-filter p q (x ∷ xs) = go (p x) (any-filter p q xs) where
  go : (b : Bool) → list_any q (filter p xs) ≡ list_any (λ x. p x && q x) xs → list_any q (cond b (x ∷ filter p xs) (filter p xs)) ≡ ((b && q x) || list_any (λ x. p x && q x) xs)
  go true more = ap (λ b. q x || b) more
  go false more = more
