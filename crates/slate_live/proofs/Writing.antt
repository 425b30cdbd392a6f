-- Operations that may be accepted as one batch aren't refused.
use Rattle.std.proofs.Common.{◌≡◌, ◌==◌, inl, inr, ℕ, ℤ, zero, suc, ◌<◌, true, false, if◌then◌else◌, List, [], ◌∷◌, ◌++◌, length, Option, Some, None, refl, sym, subst, ap, ◌∙◌, append_assoc, arith}
use Rattle.std.specs.List.{slice_get}
use Rattle.std.specs.Option.{option_eq, option_or}
use Rattle.std.specs.Ordering.{int_eq}
use Rattle.std.specs.Str.{bytes_eq}
use Rattle.std.specs.Cmp.Lexicographic.{options_equiv}
use Rattle.std.proofs.lemmas.Bool.{cases_Bool}
use Rattle.std.proofs.lemmas.Cmp.{int_eq_equiv}
use Rattle.std.proofs.lemmas.Slice.Eq.{bytes_eq-Decides}
use Rattle.std.proofs.Math.Dec.{eqb-suc-zero}
use Rattle.slate_types.specs.declared.batches.KeyOp.{KeyOp}
use Rattle.slate_model.specs.Write.{batch_refusal, expiry_refusal, first_expiry, has_empty_key, merge_expiry, merge_refusal}
use Rattle.slate_live.specs.Valid.{AreWritable}
use Rattle.slate_live.proofs.Places.{get-before, get-seam}

-- the merges of a key have one time of expiry
abbrev Agree : List KeyOp → Type 0
Agree ops = (i j : ℕ) (a b : KeyOp) (x y : Option ℤ) → slice_get ops i ≡ Some a → slice_get ops j ≡ Some b → a.key ≡ b.key → merge_expiry a.op ≡ Some x → merge_expiry b.op ≡ Some y → x ≡ y

-- the merge whose time of expiry is the first one of a key
record First (key : List ℕ) (ops : List KeyOp) (x : Option ℤ) : Type 0 where
  pub place : ℕ
  pub op : KeyOp
  pub at : slice_get ops place ≡ Some op
  pub keyed : op.key ≡ key
  pub expiry : merge_expiry op.op ≡ Some x

later : (key : List ℕ) (o : KeyOp) (ops : List KeyOp) (x : Option ℤ) → First key ops x → First key (o ∷ ops) x
later key o ops x f = record { place = suc f.place; op = f.op; at = f.at; keyed = f.keyed; expiry = f.expiry }

first-here : (key : List ℕ) (o : KeyOp) (ops : List KeyOp) (x : Option ℤ) (e : Option (Option ℤ)) → bytes_eq o.key key ≡ true → merge_expiry o.op ≡ e → option_or e (first_expiry key ops) ≡ Some x → (first_expiry key ops ≡ Some x → First key ops x) → First key (o ∷ ops) x
first-here key o ops x None same is h rest = later key o ops x (rest h)
first-here key o ops x (Some y) same is h rest = record { place = zero; op = o; at = refl; keyed = (bytes_eq-Decides o.key key).0 same; expiry = is ∙ h }

first-is : (key : List ℕ) (ops : List KeyOp) (x : Option ℤ) → first_expiry key ops ≡ Some x → First key ops x
first-is key [] x h = absurd (cc)
first-is key (o ∷ ops) x h = elim (cases_Bool (bytes_eq o.key key)) [
  | inl same ↦ first-here key o ops x (merge_expiry o.op) same refl (sym (ap (λ b. option_or (if b then merge_expiry o.op else None) (first_expiry key ops)) same) ∙ h) (first-is key ops x)
  | inr other ↦ later key o ops x (first-is key ops x (sym (ap (λ b. option_or (if b then merge_expiry o.op else None) (first_expiry key ops)) other) ∙ h))
]

-- a merge under the time of expiry of the first one isn't refused
same-expiry : (key : List ℕ) (previous current : Option (Option ℤ)) → ((x y : Option ℤ) → previous ≡ Some x → current ≡ Some y → x ≡ y) → expiry_refusal key previous current ≡ None
same-expiry key (Some x) (Some y) agree =
    let same = agree x y refl refl in
    let equal : option_eq int_eq x y ≡ true = subst (λ z. option_eq int_eq x z ≡ true) same ((options_equiv int_eq_equiv).refl x) in
    rw equal refl
same-expiry key (Some x) None agree = refl
same-expiry key None (Some y) agree = refl
same-expiry key None None agree = refl

unrefused : (before ops : List KeyOp) → Agree (before ++ ops) → merge_refusal before ops ≡ None
unrefused before [] agree = refl
unrefused before (o ∷ ops) agree =
    let whole : (before ++ o ∷ []) ++ ops ≡ before ++ o ∷ ops = append_assoc before (o ∷ []) ops in
    let here : slice_get (before ++ o ∷ ops) (length before) ≡ Some o = subst (λ xs. slice_get xs (length before) ≡ Some o) whole (get-before (before ++ o ∷ []) ops (length before) o (get-seam before o)) in
    let first : expiry_refusal o.key (first_expiry o.key before) (merge_expiry o.op) ≡ None = same-expiry o.key (first_expiry o.key before) (merge_expiry o.op) (λ x y previous current.
    let f = first-is o.key before x previous in
    agree f.place (length before) f.op o x y (get-before before (o ∷ ops) f.place f.op f.at) here f.keyed f.expiry current) in
    let rest : merge_refusal (before ++ o ∷ []) ops ≡ None = unrefused (before ++ o ∷ []) ops (subst Agree (sym whole) agree) in
    rw (first, rest) refl

no-empty-key : (ops : List KeyOp) → ((i : ℕ) (o : KeyOp) → slice_get ops i ≡ Some o → 0 < length o.key) → has_empty_key ops ≡ false
no-empty-key [] keys = refl
no-empty-key (o ∷ ops) keys = rw (some-byte o.key (keys zero o refl), no-empty-key ops (λ i p at. keys (suc i) p at)) refl
  where
    some-byte : (key : List ℕ) → 0 < length key → (length key == 0) ≡ false
    some-byte [] some = absurd (omega (arith, some))
    some-byte (b ∷ bs) some = eqb-suc-zero (length bs)

-- operations that may be accepted aren't refused
pub accepts : (ops : List KeyOp) → AreWritable ops → batch_refusal ops ≡ None
accepts [] w = absurd (omega (arith, w.some))
accepts (o ∷ ops) w = rw (no-empty-key (o ∷ ops) (λ i p at. w.keys i p at)) (unrefused [] (o ∷ ops) w.expiries)
