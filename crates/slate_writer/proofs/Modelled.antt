-- What calls in a row leave of objects that are modelled.
use Rattle.std.proofs.Common.{◌≡◌, ℕ, Option, Some, None, refl, subst, ◌∙◌}
use Rattle.slate_store.specs.Objects.{Objects}
use Rattle.slate_store.specs.Calls.{WhereModelled}

-- what is known of the objects after a call, from those that a call before it kept
pub modelled_from : {P Q : Objects → Objects → Type 0} {a b c : Option Objects} → b ≡ a → WhereModelled P b c → ((o o' : Objects) → a ≡ Some o → P o o' → Q o o') → WhereModelled Q a c
modelled_from kept after f = record {
  none = λ h. after.none (kept ∙ h);
  some = λ o h. let t = after.some o (kept ∙ h) in (t.0, t.1, f o t.0 h t.2);
}

-- objects that are kept stay modelled
pub modelled_kept : {Q : Objects → Objects → Type 0} {a b : Option Objects} → b ≡ a → ((o : Objects) → a ≡ Some o → Q o o) → WhereModelled Q a b
modelled_kept kept f = record { none = λ h. kept ∙ h; some = λ o h. (o, kept ∙ h, f o h) }

-- how many changes were made is one number, also where the store isn't modelled
pub made_once : {P : ℕ → Objects → Objects → Type 0} (a b : Option Objects) → WhereModelled (λ o o'. (made : ℕ) × P made o o') a b → (made : ℕ) × WhereModelled (P made) a b
made_once None b t = (0, record { none = t.none; some = λ o h. absurd (cc) })
made_once {P} (Some o) b t =
    let n = t.some o refl in
    (n.2.0, record { none = t.none; some = λ old h. (n.0, n.1, (let same : o ≡ old = cc in subst (λ x. P n.2.0 x n.0) same n.2.1)) })
