-- A walk over an ordered set finds each key of a range that has versions, and no key outside.
use Rattle.std.proofs.Common.{◌≡◌, ◌≢◌, refl, sym, ◌∙◌, ap, ℕ, suc, zero, Bool, true, false, cond, not, ◌&&◌, List, [], ◌∷◌, Contains, length, reverse, Option, Some, None, IsSome, arith}
use Rattle.std.specs.List.{AllByRecursion, filter, flat_map}
use Rattle.std.specs.Option.{unwrap_or}
use Rattle.std.specs.Str.{bytes_eq}
use Rattle.std.specs.HashMap.{HashMap, get}
use Rattle.std.specs.BTreeSet.{BTreeSet, contains as has, keys_between}
use Rattle.std.specs.BTreeMap.Range.{range_contains}
use Rattle.std.specs.declared.ops.Bound.{Bound}
use Rattle.std.specs.declared.ops.Bound.TheVariants.{Excluded as Past, Unbounded as Open}
use Rattle.std.specs.declared.cmp.Ordering.{Ordering}
use Rattle.std.specs.declared.cmp.Ordering.TheVariants.{Less, Equal, Greater}
use Rattle.std.specs.Ordering.{is_lt, is_le, is_gt, is_ge, ordering_reverse}
use Rattle.std.proofs.lemmas.Bool.{false≢true}
use Rattle.std.proofs.lemmas.Cmp.{nat_list_cmp_total, upto}
use Rattle.std.proofs.lemmas.List.{length-reverse}
use Rattle.std.proofs.lemmas.Map.Lookups.{exact_bytes}
use Rattle.std.proofs.lemmas.Map.Views.{Contains-from_any, tells_apart}
use Rattle.slate_types.specs.declared.batches.Batch.{Batch}
use Rattle.slate_types.specs.declared.ranges.ByteRange.{ByteRange}
use Rattle.slate_types.specs.declared.ranges.KeyBound.{KeyBound}
use Rattle.slate_types.specs.declared.ranges.KeyBound.TheVariants.{Unbounded, Included, Excluded}
use Rattle.slate_types.specs.Range.{key_cmp, is_above, is_below, contains}
use Rattle.slate_reads.specs.declared.tables.Entry.{Entry}
use Rattle.slate_reads.specs.Read.{Version, versions_in}
use Rattle.slate_reads.specs.Run.{Run}
use Rattle.slate_reads.specs.Index.{Leads, IsTable, place_of}
use Rattle.slate_reads.specs.Walk.{is_crossed, bound_of}

-- ---- the bounds of a range
both : (a b : Bool) → (a && b) ≡ true → (a ≡ true) × (b ≡ true)
both true true is = (refl, refl)
both true false is = absurd (false≢true is)
both false b is = absurd (false≢true is)

at_most : (o : Ordering) → is_le o ≡ true → is_gt o ≡ false
at_most Less is = refl
at_most Equal is = refl
at_most Greater is = absurd (false≢true is)

below_most : (o : Ordering) → is_lt o ≡ true → is_le o ≡ true
below_most Less is = refl
below_most Equal is = absurd (false≢true is)
below_most Greater is = absurd (false≢true is)

less : (o : Ordering) → is_lt o ≡ true → o ≡ Less
less Less is = refl
less Equal is = absurd (false≢true is)
less Greater is = absurd (false≢true is)

-- no key is between bounds that cross
crossed : (low high key : List ℕ) → is_gt (key_cmp low high) ≡ true → is_le (key_cmp low key) ≡ true → is_le (key_cmp key high) ≡ true → ⊥
crossed low high key gt above below = false≢true (sym (upto nat_list_cmp_total low key high (at_most (key_cmp low key) above) (at_most (key_cmp key high) below)) ∙ gt)

strictly : (low high key : List ℕ) → is_ge (key_cmp low high) ≡ true → is_lt (key_cmp low key) ≡ true → is_lt (key_cmp key high) ≡ true → ⊥
strictly low high key ge above below =
    let is : key_cmp low high ≡ Less = nat_list_cmp_total.trans low key high (less (key_cmp low key) above) (less (key_cmp key high) below) in
    false≢true (sym (ap is_ge is) ∙ ge)

outside : (low high : KeyBound) (key : List ℕ) → is_crossed low high ≡ true → is_above low key ≡ true → is_below high key ≡ true → ⊥
outside Unbounded high key is above below = false≢true is
outside (Included a) Unbounded key is above below = false≢true is
outside (Included a) (Included b) key is above below = crossed a b key is above below
outside (Included a) (Excluded b) key is above below = crossed a b key is above (below_most (key_cmp key b) below)
outside (Excluded a) Unbounded key is above below = false≢true is
outside (Excluded a) (Included b) key is above below = crossed a b key is (below_most (key_cmp a key) above) below
outside (Excluded a) (Excluded b) key is above below = strictly a b key is above below

pub crossed-none : (range : ByteRange) → is_crossed range.low range.high ≡ true → (key : List ℕ) → contains range key ≡ true → ⊥
crossed-none range is key within = let parts = both (is_above range.low key) (is_below range.high key) within in outside range.low range.high key is parts.0 parts.1

-- the bounds, as an ordered set takes them
range_contains-is : (range : ByteRange) (key : List ℕ) → range_contains key_cmp (bound_of range.low) (bound_of range.high) key ≡ contains range key
range_contains-is range key = go range.low range.high where
  past : (o : Ordering) → not (is_lt o) ≡ is_le (ordering_reverse o)
  past Less = refl
  past Equal = refl
  past Greater = refl

  at : (o : Ordering) → not (is_le o) ≡ is_lt (ordering_reverse o)
  at Less = refl
  at Equal = refl
  at Greater = refl

  up : (b : List ℕ) → not (is_lt (key_cmp b key)) ≡ is_le (key_cmp key b)
  up b = past (key_cmp b key) ∙ ap is_le (sym (nat_list_cmp_total.antisymm key b))

  under : (b : List ℕ) → not (is_le (key_cmp b key)) ≡ is_lt (key_cmp key b)
  under b = at (key_cmp b key) ∙ ap is_lt (sym (nat_list_cmp_total.antisymm key b))

  go : (low high : KeyBound) → range_contains key_cmp (bound_of low) (bound_of high) key ≡ (is_above low key && is_below high key)
  go Unbounded Unbounded = refl
  go Unbounded (Included b) = up b
  go Unbounded (Excluded b) = under b
  go (Included a) Unbounded = refl
  go (Included a) (Included b) = ap (λ t. is_le (key_cmp a key) && t) (up b)
  go (Included a) (Excluded b) = ap (λ t. is_le (key_cmp a key) && t) (under b)
  go (Excluded a) Unbounded = refl
  go (Excluded a) (Included b) = ap (λ t. is_lt (key_cmp a key) && t) (up b)
  go (Excluded a) (Excluded b) = ap (λ t. is_lt (key_cmp a key) && t) (under b)

-- ---- the keys between them
filtered : (p q : List ℕ → Bool) (keys : List (List ℕ)) → ((key : List ℕ) → p key ≡ q key) → AllByRecursion (λ key. q key ≡ true) (filter p keys)
filtered p q [] same = tt
filtered p q (key ∷ keys) same = go (p key) refl (filtered p q keys same) where
  go : (t : Bool) → p key ≡ t → AllByRecursion (λ key. q key ≡ true) (filter p keys) → AllByRecursion (λ key. q key ≡ true) (cond t (key ∷ filter p keys) (filter p keys))
  go true is later = (sym (same key) ∙ is, later)
  go false is later = later

found : (p : List ℕ → Bool) (keys : List (List ℕ)) (key : List ℕ) → p key ≡ true → Contains keys key → Contains (filter p keys) key
found p [] key passes (k, lt, at) = absurd (omega arith)
found p (x ∷ keys) key passes (zero, lt, at) = rw (ap p at ∙ passes) (zero, omega arith, at)
found p (x ∷ keys) key passes (suc k, lt, at) = go (p x) (found p keys key passes (k, omega arith, at)) where
  go : (t : Bool) → Contains (filter p keys) key → Contains (cond t (x ∷ filter p keys) (filter p keys)) key
  go true later = (suc later.0, omega (arith, later.1), later.2)
  go false later = later

-- a key with versions is in the set
pub has-key : {S : Type 0} (batches : Run Batch) (entries : Run Entry) (latest : HashMap (List ℕ) (Option ℕ) S) (order : BTreeSet (List ℕ)) (size : ℕ) → IsTable batches entries latest order size →
    (key : List ℕ) → flat_map (versions_in key) batches.items ≢ [] → has key_cmp order key ≡ true
has-key batches entries latest order size table key some = table.ordered key (go (reverse (flat_map (versions_in key) batches.items)) (table.index.led key) (λ none. some (emptied (flat_map (versions_in key) batches.items) none))) where
  emptied : (vs : List Version) → reverse vs ≡ [] → vs ≡ []
  emptied [] none = refl
  emptied (v ∷ vs) none = absurd (omega (arith, length-reverse (v ∷ vs), ap length none))

  there : (found : Option (Option ℕ)) (place : ℕ) → unwrap_or found None ≡ Some place → IsSome found
  there None place is = absurd (let no = is in cc)
  there (Some p) place is = refl

  go : (vs : List Version) → Leads batches entries key (place_of latest key) vs → (vs ≡ [] → ⊥) → IsSome (get bytes_eq latest key)
  go [] led some = absurd (some refl)
  go (v ∷ vs) led some = there (get bytes_eq latest key) led.0.place led.0.next_is

pub keys_between-same : (low from high upto : Bound (List ℕ)) (order : BTreeSet (List ℕ)) → low ≡ from → high ≡ upto → keys_between key_cmp low high order ≡ keys_between key_cmp from upto order
keys_between-same low from high upto order same_low same_high = ap (λ b. keys_between key_cmp b high order) same_low ∙ ap (λ b. keys_between key_cmp from b order) same_high

pub keys-within : (range : ByteRange) (order : BTreeSet (List ℕ)) → AllByRecursion (λ key. contains range key ≡ true) (keys_between key_cmp (bound_of range.low) (bound_of range.high) order)
keys-within range order = filtered _ (contains range) order.keys (range_contains-is range)

pub keys-whole : (range : ByteRange) (order : BTreeSet (List ℕ)) (key : List ℕ) → contains range key ≡ true → has key_cmp order key ≡ true → Contains (keys_between key_cmp (bound_of range.low) (bound_of range.high) order) key
keys-whole range order key within is = found _ order.keys key (range_contains-is range key ∙ within) (Contains-from_any (tells_apart exact_bytes) key order.keys is)

-- no key is below the least
pub below-least : (keys : List (List ℕ)) → filter (range_contains key_cmp Open (Past [])) keys ≡ []
below-least [] = refl
below-least ([] ∷ keys) = below-least keys
below-least ((byte ∷ bytes) ∷ keys) = below-least keys
