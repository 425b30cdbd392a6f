-- The segments of operations and batches, one after another.
use Rattle.std.proofs.Common.{◌≡◌, ℕ, ◌<◌, ◌+◌, ◌||◌, true, All, Contains, List, [], ◌∷◌, ◌++◌, length, take, drop, get_or, Option, Some, None, refl, sym, ap, subst, ◌∙◌, append_assoc}
use Rattle.std.specs.List.{cons_option}
use Rattle.std.specs.Option.{option_or}
use Rattle.std.proofs.lemmas.List.{append-nil, drop_more, take_more}
use Rattle.std.proofs.lemmas.List.Elements.{All-head, All-tail, filter_map-append}
use Rattle.std.proofs.lemmas.Map.Views.{list_any-from_Contains}
use Rattle.std.specs.Cmp.{eq_by_cmp_equiv}
use Rattle.std.specs.Cmp.Lexicographic.{nat_list_cmp_total}
use Rattle.slate_types.specs.declared.batches.Batch.{Batch}
use Rattle.slate_types.specs.declared.batches.KeyOp.{KeyOp}
use Rattle.slate_errors.specs.declared.errors.SlateError.{SlateError}
use Rattle.slate_status.specs.Segments.{PrefixesRise, union_of}
use Rattle.slate_model.specs.Segments.{Extractor, empty_refusal, ops_of, prefixes_of, segments_of, unsegmented_refusal}
use Rattle.slate_segments.specs.Prefixes.{HaveSame, is_one_of}
use Rattle.slate_segments.proofs.Prefixes.{members-keys, no-rising, one_of-append, rising-keys, rising-same, same-equal, same-known, union-is}

-- the prefix of one key
pub one-prefix : (x : Extractor) (op : KeyOp) (key prefix : List ℕ) → op.key ≡ key → x.prefix_of key ≡ Some prefix → prefixes_of x (op ∷ []) ≡ prefix ∷ []
one-prefix x op key prefix of_key is = ap (λ k. cons_option (x.prefix_of k) []) of_key ∙ ap (λ a. cons_option a []) is

-- ---- lists with the same prefixes
pub same-push : (a b c more : List (List ℕ)) → HaveSame a b → HaveSame c (a ++ more) → HaveSame c (b ++ more)
same-push a b c more same h q = h q ∙ (one_of-append a more q ∙ (ap (λ t. t || is_one_of more q) (same q) ∙ sym (one_of-append b more q)))

pub same-after : (front a b : List (List ℕ)) → HaveSame a b → HaveSame (front ++ a) (front ++ b)
same-after front a b same q = one_of-append front a q ∙ (ap (λ t. is_one_of front q || t) (same q) ∙ sym (one_of-append front b q))

pub same-then : (a b c : List (List ℕ)) → HaveSame a b → HaveSame b c → HaveSame a c
same-then a b c first second q = first q ∙ second q

-- what a list has adds nothing to it
pub same-among : (old ks : List (List ℕ)) → All (Contains old) ks → HaveSame old (old ++ ks)
same-among old [] all = same-equal old (old ++ []) (sym (append-nil old))
same-among old (k ∷ ks) all =
    let known : is_one_of old k ≡ true = list_any-from_Contains (eq_by_cmp_equiv nat_list_cmp_total) k old (All-head (Contains old) k ks all) in
    subst (HaveSame old) (append_assoc old (k ∷ []) ks) (same-push old (old ++ k ∷ []) old ks (same-known old k known) (same-among old ks (All-tail (Contains old) k ks all)))

-- one more of a list
pub same-more : (a old new ks : List (List ℕ)) (i : ℕ) (k : List ℕ) → i < length ks → k ≡ get_or ks i k → HaveSame old (a ++ take i ks) → HaveSame new (old ++ k ∷ []) → HaveSame new (a ++ take (i + 1) ks)
same-more a old new ks i k inside item before added =
    let more : take (i + 1) ks ≡ take i ks ++ k ∷ [] = take_more ks i k inside ∙ ap (λ x. take i ks ++ x ∷ []) (sym item) in
    subst (HaveSame new) (append_assoc a (take i ks) (k ∷ []) ∙ ap (λ xs. a ++ xs) (sym more)) (same-push old (a ++ take i ks) new (k ∷ []) before added)

-- ---- operations, one after another
pub prefixes-append : (x : Extractor) (xs ys : List KeyOp) → prefixes_of x (xs ++ ys) ≡ prefixes_of x xs ++ prefixes_of x ys
prefixes-append x xs ys = filter_map-append (λ (o : KeyOp). x.prefix_of o.key) xs ys

module _ (x : Extractor) (ops : List KeyOp) (i : ℕ) (op : KeyOp) (inside : i < length ops) (item : op ≡ get_or ops i op) where
  abbrev front : List (List ℕ)
  front = prefixes_of x (take i ops)

  pub rest : drop i ops ≡ op ∷ drop (i + 1) ops
  rest = drop_more ops i op inside ∙ ap (λ o. o ∷ drop (i + 1) ops) (sym item)

  more : take (i + 1) ops ≡ take i ops ++ op ∷ []
  more = take_more ops i op inside ∙ ap (λ o. take i ops ++ o ∷ []) (sym item)

  pub prefixes-more : front ++ prefixes_of x (op ∷ []) ≡ prefixes_of x (take (i + 1) ops)
  prefixes-more = sym (prefixes-append x (take i ops) (op ∷ [])) ∙ ap (prefixes_of x) (sym more)

  pub same-ops : (a old new : List (List ℕ)) → HaveSame old (a ++ front) → HaveSame new (old ++ prefixes_of x (op ∷ [])) → HaveSame new (a ++ prefixes_of x (take (i + 1) ops))
  same-ops a old new before added =
      subst (HaveSame new) (append_assoc a front (prefixes_of x (op ∷ [])) ∙ ap (λ xs. a ++ xs) prefixes-more) (same-push old (a ++ front) new (prefixes_of x (op ∷ [])) before added)

  -- an operation that isn't refused goes by, and the first that is refused is the refusal of all
  pub replayed-next : unsegmented_refusal (Some x) ops ≡ unsegmented_refusal (Some x) (drop i ops) → empty_refusal op.key (x.prefix_of op.key) ≡ None → unsegmented_refusal (Some x) ops ≡ unsegmented_refusal (Some x) (drop (i + 1) ops)
  replayed-next before none = before ∙ (ap (unsegmented_refusal (Some x)) rest ∙ ap (λ r. option_or r (unsegmented_refusal (Some x) (drop (i + 1) ops))) none)

  pub replayed-here : (e : SlateError) → unsegmented_refusal (Some x) ops ≡ unsegmented_refusal (Some x) (drop i ops) → empty_refusal op.key (x.prefix_of op.key) ≡ Some e → unsegmented_refusal (Some x) ops ≡ Some e
  replayed-here e before some = before ∙ (ap (unsegmented_refusal (Some x)) rest ∙ ap (λ r. option_or r (unsegmented_refusal (Some x) (drop (i + 1) ops))) some)

-- ---- batches, one after another
or-assoc : {A : Type 0} (a b c : Option A) → option_or (option_or a b) c ≡ option_or a (option_or b c)
or-assoc None b c = refl
or-assoc (Some a) b c = refl

pub unsegmented-append : (x : Extractor) (xs ys : List KeyOp) → unsegmented_refusal (Some x) (xs ++ ys) ≡ option_or (unsegmented_refusal (Some x) xs) (unsegmented_refusal (Some x) ys)
unsegmented-append x [] ys = refl
unsegmented-append x (o ∷ xs) ys =
    ap (option_or (empty_refusal o.key (x.prefix_of o.key))) (unsegmented-append x xs ys) ∙ sym (or-assoc (empty_refusal o.key (x.prefix_of o.key)) (unsegmented_refusal (Some x) xs) (unsegmented_refusal (Some x) ys))

pub ops-append : (xs ys : List Batch) → ops_of (xs ++ ys) ≡ ops_of xs ++ ops_of ys
ops-append [] ys = refl
ops-append (b ∷ xs) ys = ap (λ os. b.ops ++ os) (ops-append xs ys) ∙ sym (append_assoc b.ops (ops_of xs) (ops_of ys))

module _ (x : Extractor) (batches : List Batch) (i : ℕ) (batch : Batch) (inside : i < length batches) (item : batch ≡ get_or batches i batch) where
  later : drop i batches ≡ batch ∷ drop (i + 1) batches
  later = drop_more batches i batch inside ∙ ap (λ b. b ∷ drop (i + 1) batches) (sym item)

  pub ops-more : prefixes_of x (ops_of (take i batches)) ++ prefixes_of x batch.ops ≡ prefixes_of x (ops_of (take (i + 1) batches))
  ops-more =
      let more : take (i + 1) batches ≡ take i batches ++ batch ∷ [] = take_more batches i batch inside ∙ ap (λ b. take i batches ++ b ∷ []) (sym item) in
      sym (prefixes-append x (ops_of (take i batches)) batch.ops)
      ∙ ap (prefixes_of x) (ap (λ os. ops_of (take i batches) ++ os) (sym (append-nil batch.ops)) ∙ sym (ap ops_of more ∙ ops-append (take i batches) (batch ∷ [])))

  split : unsegmented_refusal (Some x) (ops_of batches) ≡ unsegmented_refusal (Some x) (ops_of (drop i batches)) →
      unsegmented_refusal (Some x) (ops_of batches) ≡ option_or (unsegmented_refusal (Some x) batch.ops) (unsegmented_refusal (Some x) (ops_of (drop (i + 1) batches)))
  split before = before ∙ (ap (λ bs. unsegmented_refusal (Some x) (ops_of bs)) later ∙ unsegmented-append x batch.ops (ops_of (drop (i + 1) batches)))

  pub batch-next : unsegmented_refusal (Some x) (ops_of batches) ≡ unsegmented_refusal (Some x) (ops_of (drop i batches)) → unsegmented_refusal (Some x) batch.ops ≡ None →
      unsegmented_refusal (Some x) (ops_of batches) ≡ unsegmented_refusal (Some x) (ops_of (drop (i + 1) batches))
  batch-next before none = split before ∙ ap (λ r. option_or r (unsegmented_refusal (Some x) (ops_of (drop (i + 1) batches)))) none

  pub batch-here : (e : SlateError) → unsegmented_refusal (Some x) (ops_of batches) ≡ unsegmented_refusal (Some x) (ops_of (drop i batches)) → unsegmented_refusal (Some x) batch.ops ≡ Some e → unsegmented_refusal (Some x) (ops_of batches) ≡ Some e
  batch-here e before some = split before ∙ ap (λ r. option_or r (unsegmented_refusal (Some x) (ops_of (drop (i + 1) batches)))) some

-- ---- all of them
-- what rises and has the prefixes of batches are their segments
pub segments-replayed : (x : Extractor) (taken : List (List ℕ)) (batches : List Batch) → PrefixesRise taken → HaveSame taken (prefixes_of x (ops_of batches)) → taken ≡ segments_of (Some x) batches
segments-replayed x taken batches rising took = union-is [] (prefixes_of x (ops_of batches)) taken rising took

-- the union of the segments of two lists of batches are those of both
pub union-segments : (x : Option Extractor) (a b : List Batch) → union_of (segments_of x a) (segments_of x b) ≡ segments_of x (a ++ b)
union-segments None a b = rising-same (union_of [] []) [] (rising-keys []) no-rising (members-keys [])
union-segments (Some x) a b =
    let pa = prefixes_of x (ops_of a) in
    let pb = prefixes_of x (ops_of b) in
    let sa = union_of [] pa in
    let sb = union_of [] pb in
    let both : prefixes_of x (ops_of (a ++ b)) ≡ pa ++ pb = ap (prefixes_of x) (ops-append a b) ∙ prefixes-append x (ops_of a) (ops_of b) in
    let same : HaveSame (union_of sa sb) (pa ++ pb) = λ q. members-keys (sa ++ sb) q
    ∙ (one_of-append sa sb q ∙ (ap (λ t. t || is_one_of sb q) (members-keys pa q) ∙ (ap (λ t. is_one_of pa q || t) (members-keys pb q) ∙ sym (one_of-append pa pb q)))) in
    union-is [] (prefixes_of x (ops_of (a ++ b))) (union_of sa sb) (rising-keys (sa ++ sb)) (subst (HaveSame (union_of sa sb)) (sym both) same)
