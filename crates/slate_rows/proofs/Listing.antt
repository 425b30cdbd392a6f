-- A key's versions, listed key by key, are the entries of a source in the order of recency.
use Rattle.std.proofs.Common.{◌≡◌, ◌≢◌, inl, inr, refl, sym, ◌∙◌, ap, subst, ℕ, ◌+◌, ◌<◌, ◌≤◌, zero, suc, Bool, true, false, cond, not, ◌&&◌, List, [], ◌∷◌, ◌++◌, length, take, drop, map, reverse, nat_eq, eqb, Option, arith}
use Rattle.std.specs.List.{AllByRecursion, filter, flat_map, starts_with}
use Rattle.std.specs.List.Sorted.{IsPermutation, IsSorted, IsStrictlySortedBy, ties}
use Rattle.std.specs.Str.{bytes_eq}
use Rattle.std.specs.declared.cmp.Ordering.{Ordering}
use Rattle.std.specs.declared.cmp.Ordering.TheVariants.{Less, Equal, Greater}
use Rattle.std.specs.Ordering.{is_lt, is_eq, nat_cmp, ordering_then, ordering_reverse}
use Rattle.std.proofs.lemmas.Bool.{false≢true, le-ltb}
use Rattle.std.proofs.lemmas.Cmp.{tied_itself}
use Rattle.std.proofs.lemmas.List.{reverse-append, map-append, append-nil, map_push, take-append-drop}
use Rattle.std.proofs.lemmas.List.Concat.{flat_map-append}
use Rattle.std.proofs.lemmas.List.Elements.{filter-append}
use Rattle.std.proofs.lemmas.List.Kept.{IsStrictlySortedBy-filter}
use Rattle.std.proofs.lemmas.List.Sorted.{IsPermutation-refl, IsPermutation-trans, IsPermutation-append_right, IsPermutation-filter_both}
use Rattle.std.proofs.lemmas.Slice.Eq.{bytes_eq-Decides}
use Rattle.slate_types.specs.declared.batches.Batch.{Batch}
use Rattle.slate_types.specs.declared.batches.KeyOp.{KeyOp}
use Rattle.slate_types.specs.declared.ranges.ByteRange.{ByteRange}
use Rattle.slate_types.specs.declared.ranges.KeyBound.TheVariants.{Unbounded}
use Rattle.slate_types.specs.declared.scan_options.IterationOrder.{IterationOrder}
use Rattle.slate_types.specs.Order.{order_cmp, AreInOrder}
use Rattle.slate_types.specs.Range.{contains, with_prefix}
use Rattle.slate_types.proofs.Prefixes.{contains-append}
use Rattle.slate_reads.specs.Index.{AreRising}
use Rattle.slate_reads.specs.Read.{Version, is_within, versions_in, history}
use Rattle.slate_reads.proofs.Dropping.{of_batch as batch-number, of_later as later-numbers}
use Rattle.slate_reads.proofs.Lists.{all-append, all-reverse, all-weaker}
use Rattle.slate_rows.specs.declared.entries.RowEntry.{RowEntry}
use Rattle.slate_rows.specs.Recency.{AreNewestFirst, entry_of, batch_entries, source_entries, recency_cmp, version_entry, listed}
use Rattle.slate_reads.specs.declared.reads.Version.{Version as Held}
use Rattle.slate_reads.specs.Tails.{seen}
use Rattle.slate_rows.specs.Walked.{AreWalked}
use Rattle.slate_rows.proofs.Ahead.{IsIn, to_in}
use Rattle.slate_rows.proofs.Scanning.{bytes_eq-same}
use Rattle.slate_rows.proofs.Passing.{order_cmp-total}
use Rattle.slate_rows.proofs.Steps.{ties-keys}

-- ---- the entries of a key
abbrev of_entry_key : List ℕ → RowEntry → Bool
of_entry_key key entry = bytes_eq entry.key key

apart : (a b : List ℕ) → (a ≡ b → ⊥) → bytes_eq a b ≡ false
apart a b other = go (bytes_eq a b) refl where
  go : (t : Bool) → bytes_eq a b ≡ t → t ≡ false
  go false is = refl
  go true is = absurd (other ((bytes_eq-Decides a b).0 is))

module _ (prefix key : List ℕ) (within : starts_with nat_eq key prefix ≡ true) where
  of_batch : (batch : Batch) → filter (of_entry_key key) (batch_entries prefix batch) ≡ map (version_entry key) (versions_in key batch)
  of_batch batch = go batch.ops where
    version : KeyOp → Version
    version o = record { op = o.op; number = batch.number; create_ts = batch.create_ts }

    go : (ops : List KeyOp) → filter (of_entry_key key) (map (entry_of batch) (filter (λ o. starts_with nat_eq o.key prefix) ops)) ≡ map (version_entry key) (map version (filter (λ o. bytes_eq o.key key) ops))
    go [] = refl
    go (o ∷ ops) = at (bytes_eq o.key key) refl (starts_with nat_eq o.key prefix) refl (go ops) where
      later : List RowEntry
      later = map (entry_of batch) (filter (λ o. starts_with nat_eq o.key prefix) ops)

      same : List Version
      same = map version (filter (λ o. bytes_eq o.key key) ops)

      at : (t : Bool) → bytes_eq o.key key ≡ t → (s : Bool) → starts_with nat_eq o.key prefix ≡ s → filter (of_entry_key key) later ≡ map (version_entry key) same →
          filter (of_entry_key key) (map (entry_of batch) (cond s (o ∷ filter (λ o. starts_with nat_eq o.key prefix) ops) (filter (λ o. starts_with nat_eq o.key prefix) ops)))
          ≡ map (version_entry key) (map version (cond t (o ∷ filter (λ o. bytes_eq o.key key) ops) (filter (λ o. bytes_eq o.key key) ops)))
      at true is true has rest =
          let key-is : o.key ≡ key = (bytes_eq-Decides o.key key).0 is in
          ap (λ t. cond t (entry_of batch o ∷ filter (of_entry_key key) later) (filter (of_entry_key key) later)) is
          ∙ ap (λ k. record (entry_of batch o) { key = k } ∷ filter (of_entry_key key) later) key-is ∙ ap (λ es. version_entry key (version o) ∷ es) rest
      at true is false has rest = absurd (false≢true (sym has ∙ ap (λ k. starts_with nat_eq k prefix) ((bytes_eq-Decides o.key key).0 is) ∙ within))
      at false is true has rest = ap (λ t. cond t (entry_of batch o ∷ filter (of_entry_key key) later) (filter (of_entry_key key) later)) is ∙ rest
      at false is false has rest = rest

  of_batches : (batches : List Batch) → filter (of_entry_key key) (flat_map (batch_entries prefix) batches) ≡ map (version_entry key) (flat_map (versions_in key) batches)
  of_batches [] = refl
  of_batches (batch ∷ batches) =
      filter-append (of_entry_key key) (batch_entries prefix batch) (flat_map (batch_entries prefix) batches)
      ∙ rw (of_batch batch, of_batches batches) (sym (map-append (version_entry key) (versions_in key batch) (flat_map (versions_in key) batches)))

filter-reverse : {A : Type 0} (p : A → Bool) (xs : List A) → filter p (reverse xs) ≡ reverse (filter p xs)
filter-reverse p [] = refl
filter-reverse p (x ∷ xs) =
    ap (filter p) (reverse-append (x ∷ []) xs) ∙ filter-append p (reverse xs) (x ∷ []) ∙ ap (λ ys. ys ++ filter p (x ∷ [])) (filter-reverse p xs) ∙ go (p x) where
      go : (t : Bool) → reverse (filter p xs) ++ cond t (x ∷ []) [] ≡ reverse (cond t (x ∷ filter p xs) (filter p xs))
      go true = sym (reverse-append (x ∷ []) (filter p xs))
      go false = append-nil (reverse (filter p xs))

map-reverse : {A B : Type 0} (f : A → B) (xs : List A) → map f (reverse xs) ≡ reverse (map f xs)
map-reverse f [] = refl
map-reverse f (x ∷ xs) = ap (map f) (reverse-append (x ∷ []) xs) ∙ map_push f (reverse xs) x ∙ ap (λ ys. ys ++ f x ∷ []) (map-reverse f xs) ∙ sym (reverse-append (f x ∷ []) (map f xs))

-- the entries of a key, newest first
key_entries : (bound : Option ℕ) (prefix key : List ℕ) (batches : List Batch) → starts_with nat_eq key prefix ≡ true →
    filter (of_entry_key key) (reverse (source_entries bound prefix batches)) ≡ map (version_entry key) (reverse (history batches bound key))
key_entries bound prefix key batches within =
    filter-reverse (of_entry_key key) (source_entries bound prefix batches) ∙ ap reverse (of_batches prefix key within (filter (λ (batch : Batch). is_within bound batch.number) batches))
    ∙ sym (map-reverse (version_entry key) (history batches bound key))

-- ---- the numbers of a key's versions
-- no version is of a number above an earlier one
abbrev AreNewest : List Version → Type 0
AreNewest [] = Unit {0}
AreNewest (v ∷ versions) = AllByRecursion (λ w. w.number ≤ v.number) versions × AreNewest versions

newest-push : (versions : List Version) (last : Version) → AreNewest versions → AllByRecursion (λ v. last.number ≤ v.number) versions → AreNewest (versions ++ last ∷ [])
newest-push [] last newest above = (tt, tt)
newest-push (v ∷ versions) last newest above = (all-append (λ (w : Version). w.number ≤ v.number) versions (last ∷ []) newest.0 (above.0, tt), newest-push versions last newest.1 above.1)

-- oldest first
abbrev AreOldest : List Version → Type 0
AreOldest [] = Unit {0}
AreOldest (v ∷ versions) = AllByRecursion (λ w. v.number ≤ w.number) versions × AreOldest versions

newest-reverse : (versions : List Version) → AreOldest versions → AreNewest (reverse versions)
newest-reverse [] oldest = tt
newest-reverse (v ∷ versions) oldest =
    rw (reverse-append (v ∷ []) versions) (newest-push (reverse versions) v (newest-reverse versions oldest.1) (all-reverse (λ (w : Version). v.number ≤ w.number) versions oldest.0))

oldest-append : (versions later : List Version) → AreOldest versions → AreOldest later → AllByRecursion (λ v. AllByRecursion (λ w. v.number ≤ w.number) later) versions → AreOldest (versions ++ later)
oldest-append [] later oldest rest across = rest
oldest-append (v ∷ versions) later oldest rest across = (all-append (λ (w : Version). v.number ≤ w.number) versions later oldest.0 across.0, oldest-append versions later oldest.1 rest across.1)

oldest-same : (number : ℕ) (versions : List Version) → AllByRecursion (λ v. v.number ≡ number) versions → AreOldest versions
oldest-same number [] same = tt
oldest-same number (v ∷ versions) same =
    (all-weaker (λ (w : Version). w.number ≡ number) (λ w. v.number ≤ w.number) versions (λ w is. let v-is = same.0 in omega (arith, v-is, is)) same.1, oldest-same number versions same.1)

oldest-rising : (key : List ℕ) (batches : List Batch) → AreRising batches → AreOldest (flat_map (versions_in key) batches)
oldest-rising key [] rising = tt
oldest-rising key (b ∷ batches) rising =
    oldest-append (versions_in key b) (flat_map (versions_in key) batches) (oldest-same b.number (versions_in key b) (batch-number key b)) (oldest-rising key batches rising.1)
    (all-weaker (λ (v : Version). v.number ≡ b.number) (λ v. AllByRecursion (λ w. v.number ≤ w.number) (flat_map (versions_in key) batches)) (versions_in key b)
    (λ v is. all-weaker (λ (w : Version). b.number < w.number) (λ w. v.number ≤ w.number) (flat_map (versions_in key) batches) (λ w lt. omega (arith, is, lt)) (later-numbers key b.number batches rising.0)) (batch-number key b))

rising-within : (bound : Option ℕ) (batches : List Batch) → AreRising batches → AreRising (filter (λ (batch : Batch). is_within bound batch.number) batches)
rising-within bound [] rising = tt
rising-within bound (b ∷ batches) rising = go (is_within bound b.number) (rising-within bound batches rising.1) where
  all : (bs : List Batch) → AllByRecursion (λ later. b.number < later.number) bs → AllByRecursion (λ later. b.number < later.number) (filter (λ (batch : Batch). is_within bound batch.number) bs)
  all [] above = tt
  all (x ∷ bs) above = one (is_within bound x.number) (all bs above.1) where
    one : (t : Bool) → AllByRecursion (λ later. b.number < later.number) (filter (λ (batch : Batch). is_within bound batch.number) bs) →
        AllByRecursion (λ later. b.number < later.number) (cond t (x ∷ filter (λ (batch : Batch). is_within bound batch.number) bs) (filter (λ (batch : Batch). is_within bound batch.number) bs))
    one true rest = (above.0, rest)
    one false rest = rest

  go : (t : Bool) → AreRising (filter (λ (batch : Batch). is_within bound batch.number) batches) →
      AreRising (cond t (b ∷ filter (λ (batch : Batch). is_within bound batch.number) batches) (filter (λ (batch : Batch). is_within bound batch.number) batches))
  go true rest = (all batches rising.0, rest)
  go false rest = rest

history-newest : (bound : Option ℕ) (key : List ℕ) (batches : List Batch) → AreRising batches → AreNewest (reverse (history batches bound key))
history-newest bound key batches rising = newest-reverse (history batches bound key) (oldest-rising key (filter (λ (batch : Batch). is_within bound batch.number) batches) (rising-within bound batches rising))

-- ---- key by key
abbrev by_key : List RowEntry → List (List ℕ) → List RowEntry
by_key entries keys = flat_map (λ key. filter (of_entry_key key) entries) keys

-- a filter of a filter that lets less pass
filter-both : (p q : RowEntry → Bool) (entries : List RowEntry) → ((e : RowEntry) → p e ≡ true → q e ≡ true) → filter p (filter q entries) ≡ filter p entries
filter-both p q [] less = refl
filter-both p q (e ∷ entries) less = go (q e) refl (p e) refl (filter-both p q entries less) where
  go : (s : Bool) → q e ≡ s → (t : Bool) → p e ≡ t → filter p (filter q entries) ≡ filter p entries → filter p (cond s (e ∷ filter q entries) (filter q entries)) ≡ cond t (e ∷ filter p entries) (filter p entries)
  go true passes t is rest = ap (λ t. cond t (e ∷ filter p (filter q entries)) (filter p (filter q entries))) is ∙ ap (λ es. cond t (e ∷ es) es) rest
  go false fails true is rest = absurd (false≢true (sym fails ∙ less e is))
  go false fails false is rest = rest

filter-none : (p q : RowEntry → Bool) (entries : List RowEntry) → ((e : RowEntry) → q e ≡ true → p e ≡ false) → filter p (filter q entries) ≡ []
filter-none p q [] none = refl
filter-none p q (e ∷ entries) none = go (q e) refl (filter-none p q entries none) where
  go : (s : Bool) → q e ≡ s → filter p (filter q entries) ≡ [] → filter p (cond s (e ∷ filter q entries) (filter q entries)) ≡ []
  go true passes rest = ap (λ t. cond t (e ∷ filter p (filter q entries)) (filter p (filter q entries))) (none e passes) ∙ rest
  go false fails rest = rest

module _ (order : IterationOrder) where
  -- a key that comes before others is none of them
  differs : (key other : List ℕ) → order_cmp order key other ≡ Less → key ≡ other → ⊥
  differs key other less same = let tie : Less ≡ Equal = sym less ∙ ap (order_cmp order key) (sym same) ∙ tied_itself (order_cmp-total order) key in cc

  -- without the entries of a key, those of the keys after it are the same
  without : (key : List ℕ) (entries : List RowEntry) (keys : List (List ℕ)) → AllByRecursion (λ other. order_cmp order key other ≡ Less) keys → by_key (filter (λ e. not (of_entry_key key e)) entries) keys ≡ by_key entries keys
  without key entries [] after = refl
  without key entries (k ∷ keys) after =
      rw (filter-both (of_entry_key k) (λ e. not (of_entry_key key e)) entries other, without key entries keys after.1) refl
    where
      other : (e : RowEntry) → of_entry_key k e ≡ true → not (of_entry_key key e) ≡ true
      other e is = ap not (apart e.key key (λ same. differs key k after.0 (sym same ∙ (bytes_eq-Decides e.key k).0 is)))

  abbrev rest_of : List ℕ → List RowEntry → List RowEntry
  rest_of key entries = filter (λ e. not (of_entry_key key e)) entries

  left_among : (key : List ℕ) (keys : List (List ℕ)) (entries : List RowEntry) → AllByRecursion (λ e. IsIn e.key (key ∷ keys)) entries → AllByRecursion (λ e. IsIn e.key keys) (rest_of key entries)
  left_among key keys [] among = tt
  left_among key keys (e ∷ entries) among = at (bytes_eq e.key key) refl among.0 (left_among key keys entries among.1) where
    at : (t : Bool) → bytes_eq e.key key ≡ t → IsIn e.key (key ∷ keys) → AllByRecursion (λ e. IsIn e.key keys) (rest_of key entries) → AllByRecursion (λ e. IsIn e.key keys) (cond (not t) (e ∷ rest_of key entries) (rest_of key entries))
    at true is there rest = rest
    at false is (inl same) rest = absurd (false≢true (sym is ∙ (bytes_eq-Decides e.key key).1 same))
    at false is (inr there) rest = (there, rest)

  by_key-moved : (keys : List (List ℕ)) (entries : List RowEntry) → AreInOrder order keys → AllByRecursion (λ e. IsIn e.key keys) entries → IsPermutation entries (by_key entries keys)
  unfolding IsStrictlySortedBy
  by_key-moved [] [] sorted among = IsPermutation-refl []
  by_key-moved [] (e ∷ entries) sorted among = absurd among.0
  by_key-moved (key ∷ keys) entries sorted among =
      IsPermutation-trans entries (filter (of_entry_key key) entries ++ rest_of key entries) (by_key entries (key ∷ keys))
      (IsPermutation-filter_both (of_entry_key key) (λ e. not (of_entry_key key e)) (λ e. refl) entries)
      (IsPermutation-append_right (filter (of_entry_key key) entries) (rest_of key entries) (by_key entries keys)
      (subst (IsPermutation (rest_of key entries)) (without key entries keys sorted.0) (by_key-moved keys (rest_of key entries) sorted.1 (left_among key keys entries among))))

  -- ---- what ties stays in its order
  abbrev tied : RowEntry → RowEntry → Bool
  tied e x = ties (λ a b. is_lt (recency_cmp order a b)) e x

  tied-key : (e x : RowEntry) → tied e x ≡ true → x.key ≡ e.key
  tied-key e x is = go (order_cmp order e.key x.key) refl where
    none : (a : Bool) → (a && false) ≡ false
    none true = refl
    none false = refl

    go : (o : Ordering) → order_cmp order e.key x.key ≡ o → x.key ≡ e.key
    go Less less = absurd (false≢true (sym (ap (λ o. not (is_lt (ordering_then o (nat_cmp x.seq e.seq))) && not (is_lt (recency_cmp order x e))) less) ∙ is))
    go Equal same = sym ((bytes_eq-Decides e.key x.key).0 (ties-keys order e.key x.key ∙ ap is_eq same))
    go Greater more =
        let back : order_cmp order x.key e.key ≡ Less = (order_cmp-total order).antisymm x.key e.key ∙ ap ordering_reverse more in
        absurd (false≢true (sym (ap (λ o. not (is_lt (recency_cmp order e x)) && not (is_lt (ordering_then o (nat_cmp e.seq x.seq)))) back ∙ none (not (is_lt (recency_cmp order e x)))) ∙ is))

  untied : (e x : RowEntry) → (x.key ≡ e.key → ⊥) → tied e x ≡ false
  untied e x other = go (tied e x) refl where
    go : (t : Bool) → tied e x ≡ t → t ≡ false
    go false is = refl
    go true is = absurd (other (tied-key e x is))

  by_key-stays : (e : RowEntry) (keys : List (List ℕ)) (entries : List RowEntry) → AreInOrder order keys → AllByRecursion (λ x. IsIn x.key keys) entries → filter (tied e) (by_key entries keys) ≡ filter (tied e) entries
  unfolding IsStrictlySortedBy
  by_key-stays e [] [] sorted among = refl
  by_key-stays e [] (x ∷ entries) sorted among = absurd among.0
  by_key-stays e (key ∷ keys) entries sorted among =
      filter-append (tied e) (filter (of_entry_key key) entries) (by_key entries keys)
      ∙ ap (λ es. filter (tied e) (filter (of_entry_key key) entries) ++ filter (tied e) es) (sym (without key entries keys sorted.0))
      ∙ ap (λ es. filter (tied e) (filter (of_entry_key key) entries) ++ es) (by_key-stays e keys (rest_of key entries) sorted.1 (left_among key keys entries among))
      ∙ go (bytes_eq e.key key) refl
    where
      out : (x : RowEntry) → not (of_entry_key key x) ≡ true → x.key ≡ key → ⊥
      out x passes same = false≢true (sym (ap not ((bytes_eq-Decides x.key key).1 same)) ∙ passes)

      go : (t : Bool) → bytes_eq e.key key ≡ t → filter (tied e) (filter (of_entry_key key) entries) ++ filter (tied e) (rest_of key entries) ≡ filter (tied e) entries
      go true is =
          let mine : e.key ≡ key = (bytes_eq-Decides e.key key).0 is in
          let others : filter (tied e) (rest_of key entries) ≡ [] = filter-none (tied e) (λ x. not (of_entry_key key x)) entries (λ x passes. untied e x (λ same. out x passes (same ∙ mine))) in
          ap (λ es. filter (tied e) (filter (of_entry_key key) entries) ++ es) others ∙ append-nil _
          ∙ filter-both (tied e) (of_entry_key key) entries (λ x ties. (bytes_eq-Decides x.key key).1 (tied-key e x ties ∙ mine))
      go false is =
          let none : filter (tied e) (filter (of_entry_key key) entries) ≡ [] =
          filter-none (tied e) (of_entry_key key) entries (λ x passes. untied e x (λ same. false≢true (sym is ∙ (bytes_eq-Decides e.key key).1 (sym same ∙ (bytes_eq-Decides x.key key).0 passes)))) in
          ap (λ es. es ++ filter (tied e) (rest_of key entries)) none
          ∙ filter-both (tied e) (λ x. not (of_entry_key key x)) entries (λ x ties. ap not (apart x.key key (λ same. false≢true (sym is ∙ (bytes_eq-Decides e.key key).1 (sym (tied-key e x ties) ∙ same)))))

  -- ---- the greatest number first
  abbrev lower : RowEntry → RowEntry → Bool
  lower y x = is_lt (recency_cmp order y x)

  abbrev Falls : List RowEntry → Type 0
  Falls [] = Unit {0}
  Falls (x ∷ xs) = AllByRecursion (λ y. lower y x ≡ false) xs × Falls xs

  Falls-sorted : (entries : List RowEntry) → Falls entries → IsSorted (recency_cmp order) entries
  Falls-sorted [] falls k d low lt = absurd (omega arith)
  Falls-sorted (x ∷ []) falls k d low lt = absurd (omega arith)
  Falls-sorted (x ∷ y ∷ entries) falls zero d low lt = falls.0.0
  Falls-sorted (x ∷ y ∷ entries) falls (suc k) d low lt =
      let next : suc k + 1 ≡ suc (k + 1) = omega arith in
      rw next (Falls-sorted (y ∷ entries) falls.1 k d (omega arith) (omega arith))

  Falls-append : (xs ys : List RowEntry) → Falls xs → Falls ys → AllByRecursion (λ x. AllByRecursion (λ y. lower y x ≡ false) ys) xs → Falls (xs ++ ys)
  Falls-append [] ys falls later across = later
  Falls-append (x ∷ xs) ys falls later across = (all-append (λ (y : RowEntry). lower y x ≡ false) xs ys falls.0 across.0, Falls-append xs ys falls.1 later across.1)

  keyed : (key : List ℕ) (entries : List RowEntry) → AllByRecursion (λ e. e.key ≡ key) (filter (of_entry_key key) entries)
  keyed key [] = tt
  keyed key (e ∷ entries) = go (bytes_eq e.key key) refl (keyed key entries) where
    go : (t : Bool) → bytes_eq e.key key ≡ t → AllByRecursion (λ e. e.key ≡ key) (filter (of_entry_key key) entries) →
        AllByRecursion (λ e. e.key ≡ key) (cond t (e ∷ filter (of_entry_key key) entries) (filter (of_entry_key key) entries))
    go true is rest = ((bytes_eq-Decides e.key key).0 is, rest)
    go false is rest = rest

  after_key : (key : List ℕ) (entries : List RowEntry) (keys : List (List ℕ)) → AllByRecursion (λ other. order_cmp order key other ≡ Less) keys → AllByRecursion (λ y. order_cmp order key y.key ≡ Less) (by_key entries keys)
  after_key key entries [] after = tt
  after_key key entries (k ∷ keys) after =
      all-append (λ (y : RowEntry). order_cmp order key y.key ≡ Less) (filter (of_entry_key k) entries) (by_key entries keys)
      (all-weaker (λ (y : RowEntry). y.key ≡ k) (λ y. order_cmp order key y.key ≡ Less) (filter (of_entry_key k) entries) (λ y is. ap (order_cmp order key) is ∙ after.0) (keyed k entries))
      (after_key key entries keys after.1)

  lower-after : (key : List ℕ) (x y : RowEntry) → x.key ≡ key → order_cmp order key y.key ≡ Less → lower y x ≡ false
  lower-after key x y is less =
      let more : order_cmp order y.key x.key ≡ Greater = (order_cmp-total order).antisymm y.key x.key ∙ ap ordering_reverse (ap (λ k. order_cmp order k y.key) is ∙ less) in
      ap (λ o. is_lt (ordering_then o (nat_cmp x.seq y.seq))) more

  by_key-falls : (entries : List RowEntry) (keys : List (List ℕ)) → AreInOrder order keys → AllByRecursion (λ key. Falls (filter (of_entry_key key) entries)) keys → Falls (by_key entries keys)
  unfolding IsStrictlySortedBy
  by_key-falls entries [] sorted each = tt
  by_key-falls entries (key ∷ keys) sorted each =
      Falls-append (filter (of_entry_key key) entries) (by_key entries keys) each.0 (by_key-falls entries keys sorted.1 each.1)
      (all-weaker (λ (x : RowEntry). x.key ≡ key) (λ x. AllByRecursion (λ y. lower y x ≡ false) (by_key entries keys)) (filter (of_entry_key key) entries)
      (λ x is. all-weaker (λ (y : RowEntry). order_cmp order key y.key ≡ Less) (λ y. lower y x ≡ false) (by_key entries keys) (λ y less. lower-after key x y is less) (after_key key entries keys sorted.0))
      (keyed key entries))

  -- ---- the versions of a key, newest first
  lower-version : (key : List ℕ) (v w : Version) → w.number ≤ v.number → lower (version_entry key w) (version_entry key v) ≡ false
  lower-version key v w le =
      ap (λ o. is_lt (ordering_then o (nat_cmp v.number w.number))) (tied_itself (order_cmp-total order) key)
      ∙ ap (λ t. is_lt (cond t Less (cond (eqb v.number w.number) Equal Greater))) (le-ltb v.number w.number le) ∙ go (eqb v.number w.number)
    where
      go : (t : Bool) → is_lt (cond t Equal Greater) ≡ false
      go true = refl
      go false = refl

  versions-fall : (key : List ℕ) (versions : List Version) → AreNewest versions → Falls (map (version_entry key) versions)
  versions-fall key [] newest = tt
  versions-fall key (v ∷ versions) newest = (go versions newest.0, versions-fall key versions newest.1) where
    go : (vs : List Version) → AllByRecursion (λ w. w.number ≤ v.number) vs → AllByRecursion (λ y. lower y (version_entry key v) ≡ false) (map (version_entry key) vs)
    go [] below = tt
    go (w ∷ vs) below = (lower-version key v w below.0, go vs below.1)

  -- Entries of a source, key by key and of each key the newest first, are in the order of recency.
  pub AreNewestFirst-by_key : (bound : Option ℕ) (prefix : List ℕ) (batches : List Batch) (keys : List (List ℕ)) → AreRising batches → AreInOrder order keys → AllByRecursion (λ key. starts_with nat_eq key prefix ≡ true) keys →
      AllByRecursion (λ e. IsIn e.key keys) (source_entries bound prefix batches) → AreNewestFirst order (source_entries bound prefix batches) (flat_map (λ key. map (version_entry key) (reverse (history batches bound key))) keys)
  AreNewestFirst-by_key bound prefix batches keys rising sorted starts among = subst (AreNewestFirst order (source_entries bound prefix batches)) (same keys starts) (record {
    moved = by_key-moved keys newest sorted there;
    sorted = Falls-sorted (by_key newest keys) (by_key-falls newest keys sorted (each keys starts));
    stable = λ e. by_key-stays e keys newest sorted there;
  }) where
    newest : List RowEntry
    newest = reverse (source_entries bound prefix batches)

    there : AllByRecursion (λ e. IsIn e.key keys) newest
    there = all-reverse (λ (e : RowEntry). IsIn e.key keys) (source_entries bound prefix batches) among

    same : (keys : List (List ℕ)) → AllByRecursion (λ key. starts_with nat_eq key prefix ≡ true) keys → by_key newest keys ≡ flat_map (λ key. map (version_entry key) (reverse (history batches bound key))) keys
    same [] starts = refl
    same (key ∷ keys) starts = rw (key_entries bound prefix key batches starts.0, same keys starts.1) refl

    each : (keys : List (List ℕ)) → AllByRecursion (λ key. starts_with nat_eq key prefix ≡ true) keys → AllByRecursion (λ key. Falls (filter (of_entry_key key) newest)) keys
    each [] starts = tt
    each (key ∷ keys) starts = (subst Falls (sym (key_entries bound prefix key batches starts.0)) (versions-fall key (reverse (history batches bound key)) (history-newest bound key batches rising)), each keys starts.1)

-- ---- the keys of a source
-- the entries of a batch are of keys that it has
of_keys : (prefix : List ℕ) (b : Batch) → AllByRecursion (λ e. (starts_with nat_eq e.key prefix ≡ true) × (versions_in e.key b ≢ [])) (batch_entries prefix b)
of_keys prefix b = go b.ops where
  version : KeyOp → Version
  version o = record { op = o.op; number = b.number; create_ts = b.create_ts }

  P : List KeyOp → RowEntry → Type 0
  P ops e = (starts_with nat_eq e.key prefix ≡ true) × (map version (filter (λ o. bytes_eq o.key e.key) ops) ≢ [])

  go : (ops : List KeyOp) → AllByRecursion (λ e. (starts_with nat_eq e.key prefix ≡ true) × (map version (filter (λ o. bytes_eq o.key e.key) ops) ≢ [])) (map (entry_of b) (filter (λ o. starts_with nat_eq o.key prefix) ops))
  go [] = tt
  go (o ∷ ops) = at (starts_with nat_eq o.key prefix) refl (all-weaker (P ops) (P (o ∷ ops)) (map (entry_of b) (filter (λ o. starts_with nat_eq o.key prefix) ops)) (λ e p. (p.0, more e (bytes_eq o.key e.key) p.1)) (go ops)) where
    more : (e : RowEntry) (t : Bool) → map version (filter (λ o. bytes_eq o.key e.key) ops) ≢ [] → map version (cond t (o ∷ filter (λ o. bytes_eq o.key e.key) ops) (filter (λ o. bytes_eq o.key e.key) ops)) ≢ []
    more e true some = λ none. cc
    more e false some = some

    at : (s : Bool) → starts_with nat_eq o.key prefix ≡ s → AllByRecursion (P (o ∷ ops)) (map (entry_of b) (filter (λ o. starts_with nat_eq o.key prefix) ops)) →
        AllByRecursion (P (o ∷ ops)) (map (entry_of b) (cond s (o ∷ filter (λ o. starts_with nat_eq o.key prefix) ops) (filter (λ o. starts_with nat_eq o.key prefix) ops)))
    at true has rest = ((has, rw (bytes_eq-same o.key) (λ none. cc)), rest)
    at false has rest = rest

left_some : {A : Type 0} (xs ys : List A) → xs ≢ [] → xs ++ ys ≢ []
left_some [] ys some = absurd (some refl)
left_some (x ∷ xs) ys some = λ none. cc

right_some : {A : Type 0} (xs ys : List A) → ys ≢ [] → xs ++ ys ≢ []
right_some [] ys some = some
right_some (x ∷ xs) ys some = λ none. cc

source_keys : (bound : Option ℕ) (prefix : List ℕ) (batches : List Batch) → AllByRecursion (λ e. (starts_with nat_eq e.key prefix ≡ true) × (flat_map (versions_in e.key) batches ≢ [])) (source_entries bound prefix batches)
source_keys bound prefix [] = tt
source_keys bound prefix (b ∷ batches) = go (is_within bound b.number)
    (all-weaker (P batches) (P (b ∷ batches)) (source_entries bound prefix batches) (λ e p. (p.0, right_some (versions_in e.key b) (flat_map (versions_in e.key) batches) p.1)) (source_keys bound prefix batches))
  where
    P : List Batch → RowEntry → Type 0
    P bs e = (starts_with nat_eq e.key prefix ≡ true) × (flat_map (versions_in e.key) bs ≢ [])

    Q : RowEntry → Type 0
    Q e = (starts_with nat_eq e.key prefix ≡ true) × (versions_in e.key b ≢ [])

    go : (t : Bool) → AllByRecursion (P (b ∷ batches)) (source_entries bound prefix batches) →
        AllByRecursion (P (b ∷ batches)) (flat_map (batch_entries prefix) (cond t (b ∷ filter (λ (batch : Batch). is_within bound batch.number) batches) (filter (λ (batch : Batch). is_within bound batch.number) batches)))
    go true rest = all-append (P (b ∷ batches)) (batch_entries prefix b) (source_entries bound prefix batches)
        (all-weaker Q (P (b ∷ batches)) (batch_entries prefix b) (λ e p. (p.0, left_some (versions_in e.key b) (flat_map (versions_in e.key) batches) p.1)) (of_keys prefix b)) rest
    go false rest = rest

-- ---- the keys with a prefix
passing : (p : List ℕ → Bool) (keys : List (List ℕ)) → AllByRecursion (λ key. p key ≡ true) (filter p keys)
passing p [] = tt
passing p (key ∷ keys) = go (p key) refl (passing p keys) where
  go : (t : Bool) → p key ≡ t → AllByRecursion (λ key. p key ≡ true) (filter p keys) → AllByRecursion (λ key. p key ≡ true) (cond t (key ∷ filter p keys) (filter p keys))
  go true is rest = (is, rest)
  go false is rest = rest

in_passing : (p : List ℕ → Bool) (keys : List (List ℕ)) (key : List ℕ) → p key ≡ true → IsIn key keys → IsIn key (filter p keys)
in_passing p [] key passes there = absurd there
in_passing p (k ∷ keys) key passes there = go (p k) refl there (in_passing p keys key passes) where
  go : (t : Bool) → p k ≡ t → IsIn key (k ∷ keys) → (IsIn key keys → IsIn key (filter p keys)) → IsIn key (cond t (k ∷ filter p keys) (filter p keys))
  go true is (inl same) kept = inl same
  go true is (inr later) kept = inr (kept later)
  go false is (inl same) kept = absurd (false≢true (sym is ∙ ap p (sym same) ∙ passes))
  go false is (inr later) kept = kept later

in_range : (prefix key : List ℕ) → starts_with nat_eq key prefix ≡ true → contains (with_prefix prefix (record { low = Unbounded; high = Unbounded })) key ≡ true
in_range prefix key starts =
    let front : prefix ≡ take (length prefix) key = (bytes_eq-Decides prefix (take (length prefix) key)).0 starts in
    let whole : key ≡ prefix ++ drop (length prefix) key = sym (take-append-drop (length prefix) key) ∙ ap (λ p. p ++ drop (length prefix) key) (sym front) in
    ap (contains (with_prefix prefix (record { low = Unbounded; high = Unbounded }))) whole ∙ contains-append prefix (drop (length prefix) key) (record { low = Unbounded; high = Unbounded })

-- Keys that a walk found, in the order, list the entries of a source.
pub AreNewestFirst-from_walk : (order : IterationOrder) (bound : Option ℕ) (prefix : List ℕ) (batches : List Batch) (range : ByteRange) (keys : List (List ℕ)) (entries : List RowEntry) → AreRising batches →
    range ≡ with_prefix prefix (record { low = Unbounded; high = Unbounded }) → AreWalked batches range keys → AreInOrder order keys → entries ≡ listed bound prefix batches keys → AreNewestFirst order (source_entries bound prefix batches) entries
AreNewestFirst-from_walk order bound prefix batches range keys entries rising range-is walked in_order entries-are =
    subst (AreNewestFirst order (source_entries bound prefix batches)) (sym entries-are)
    (AreNewestFirst-by_key order bound prefix batches (filter (λ key. starts_with nat_eq key prefix) keys) rising (IsStrictlySortedBy-filter (order_cmp order) (λ key. starts_with nat_eq key prefix) keys in_order)
    (passing (λ key. starts_with nat_eq key prefix) keys)
    (all-weaker (λ (e : RowEntry). (starts_with nat_eq e.key prefix ≡ true) × (flat_map (versions_in e.key) batches ≢ [])) (λ e. IsIn e.key (filter (λ key. starts_with nat_eq key prefix) keys)) (source_entries bound prefix batches)
    (λ e p. in_passing (λ key. starts_with nat_eq key prefix) keys e.key p.0 (to_in keys e.key (walked.whole e.key (ap (λ r. contains r e.key) range-is ∙ in_range prefix e.key p.0) p.1)))
    (source_keys bound prefix batches)))

-- one more key
pub listed-more : (bound : Option ℕ) (prefix : List ℕ) (batches : List Batch) (keys : List (List ℕ)) (key : List ℕ) (starts : Bool) → starts_with nat_eq key prefix ≡ starts →
    listed bound prefix batches (keys ++ key ∷ []) ≡ listed bound prefix batches keys ++ cond starts (map (version_entry key) (reverse (history batches bound key))) []
listed-more bound prefix batches keys key starts is =
    ap (flat_map entries) (filter-append p keys (key ∷ []) ∙ ap (λ t. filter p keys ++ cond t (key ∷ []) []) is) ∙ flat_map-append entries (filter p keys) (cond starts (key ∷ []) [])
    ∙ ap (λ es. listed bound prefix batches keys ++ es) (go starts)
  where
    p : List ℕ → Bool
    p k = starts_with nat_eq k prefix

    entries : List ℕ → List RowEntry
    entries k = map (version_entry k) (reverse (history batches bound k))

    go : (t : Bool) → flat_map entries (cond t (key ∷ []) []) ≡ cond t (entries key) []
    go true = append-nil (entries key)
    go false = refl

-- a version that the code holds, as an entry
pub entries-held : (key : List ℕ) (held : List Held) → AllByRecursion (λ h. h.key_op.now.key ≡ key) held → map (λ h. entry_of h.batch.now h.key_op.now) held ≡ map (version_entry key) (map seen held)
entries-held key [] same = refl
entries-held key (h ∷ held) same =
    ap (λ k. record (entry_of h.batch.now h.key_op.now) { key = k } ∷ map (λ x. entry_of x.batch.now x.key_op.now) held) same.0 ∙ ap (λ es. version_entry key (seen h) ∷ es) (entries-held key held same.1)
