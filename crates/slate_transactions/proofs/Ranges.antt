-- The entries of an ordered map between the bounds of a range are those whose keys are in the range.
use Rattle.std.proofs.Common.{◌≡◌, refl, sym, ◌∙◌, ap, ℕ, Bool, true, false, cond, not, ◌&&◌, List, [], ◌∷◌}
use Rattle.std.specs.List.{filter}
use Rattle.std.specs.BTreeMap.Range.{entries_between, range_contains}
use Rattle.std.specs.declared.ops.Bound.{Bound}
use Rattle.std.specs.declared.ops.Bound.TheVariants.{Excluded as Past, Unbounded as Open}
use Rattle.std.specs.declared.cmp.Ordering.{Ordering}
use Rattle.std.specs.declared.cmp.Ordering.TheVariants.{Less, Equal, Greater}
use Rattle.std.specs.Ordering.{is_lt, is_le, ordering_reverse}
use Rattle.std.proofs.lemmas.Cmp.{nat_list_cmp_total}
use Rattle.std.proofs.lemmas.List.Elements.{filter_agree}
use Rattle.slate_types.specs.declared.ranges.ByteRange.{ByteRange}
use Rattle.slate_types.specs.declared.ranges.KeyBound.{KeyBound}
use Rattle.slate_types.specs.declared.ranges.KeyBound.TheVariants.{Unbounded, Included, Excluded}
use Rattle.slate_types.specs.Range.{key_cmp, is_above, is_below, contains}
use Rattle.slate_reads.specs.Walk.{is_crossed, bound_of}
use Rattle.slate_reads.proofs.Walking.{crossed-none}

past : (o : Ordering) → not (is_lt o) ≡ is_le (ordering_reverse o)
past Less = refl
past Equal = refl
past Greater = refl

at : (o : Ordering) → not (is_le o) ≡ is_lt (ordering_reverse o)
at Less = refl
at Equal = refl
at Greater = refl

up : (b key : List ℕ) → not (is_lt (key_cmp b key)) ≡ is_le (key_cmp key b)
up b key = past (key_cmp b key) ∙ ap is_le (sym (nat_list_cmp_total.antisymm key b))

under : (b key : List ℕ) → not (is_le (key_cmp b key)) ≡ is_lt (key_cmp key b)
under b key = at (key_cmp b key) ∙ ap is_lt (sym (nat_list_cmp_total.antisymm key b))

between-is : (low high : KeyBound) (key : List ℕ) → range_contains key_cmp (bound_of low) (bound_of high) key ≡ (is_above low key && is_below high key)
between-is Unbounded Unbounded key = refl
between-is Unbounded (Included b) key = up b key
between-is Unbounded (Excluded b) key = under b key
between-is (Included a) Unbounded key = refl
between-is (Included a) (Included b) key = ap (λ t. is_le (key_cmp a key) && t) (up b key)
between-is (Included a) (Excluded b) key = ap (λ t. is_le (key_cmp a key) && t) (under b key)
between-is (Excluded a) Unbounded key = refl
between-is (Excluded a) (Included b) key = ap (λ t. is_lt (key_cmp a key) && t) (up b key)
between-is (Excluded a) (Excluded b) key = ap (λ t. is_lt (key_cmp a key) && t) (under b key)

module _ {X : Type 0} where
  none-in : (range : ByteRange) → is_crossed range.low range.high ≡ true → (entries : List (List ℕ × X)) → filter (λ (e : List ℕ × X). contains range e.0) entries ≡ []
  none-in range crossed [] = refl
  none-in range crossed (e ∷ entries) = go (contains range e.0) refl (none-in range crossed entries) where
    go : (b : Bool) → contains range e.0 ≡ b → filter (λ (x : List ℕ × X). contains range x.0) entries ≡ []
        → cond b (e ∷ filter (λ (x : List ℕ × X). contains range x.0) entries) (filter (λ (x : List ℕ × X). contains range x.0) entries) ≡ []
    go true is none = absurd (crossed-none range crossed e.0 is)
    go false is none = none

  below-least : (entries : List (List ℕ × X)) → entries_between key_cmp Open (Past []) entries ≡ []
  below-least [] = refl
  below-least (([], x) ∷ entries) = below-least entries
  below-least ((byte ∷ bytes, x) ∷ entries) = below-least entries

  pub entries-crossed : (range : ByteRange) (least : List ℕ) (entries found : List (List ℕ × X)) → is_crossed range.low range.high ≡ true → least ≡ [] →
      found ≡ entries_between key_cmp Open (Past least) entries → found ≡ filter (λ (e : List ℕ × X). contains range e.0) entries
  entries-crossed range least entries found crossed least-is found-is =
      found-is ∙ ap (λ key. entries_between key_cmp Open (Past key) entries) least-is ∙ below-least entries ∙ sym (none-in range crossed entries)

  pub entries-between : (range : ByteRange) (low high : Bound (List ℕ)) (entries found : List (List ℕ × X)) → low ≡ bound_of range.low → high ≡ bound_of range.high →
      found ≡ entries_between key_cmp low high entries → found ≡ filter (λ (e : List ℕ × X). contains range e.0) entries
  entries-between range low high entries found low-is high-is found-is =
      found-is ∙ ap (λ b. entries_between key_cmp b high entries) low-is ∙ ap (λ b. entries_between key_cmp (bound_of range.low) b entries) high-is
      ∙ filter_agree _ _ (λ (e : List ℕ × X). between-is range.low range.high e.0) entries
