-- What is modelled stays modelled by one call and by two.
use Rattle.std.proofs.Common.{◌≡◌, Option, Some, ◌∙◌, refl}
use Rattle.slate_types.specs.Modelled.{WhereModelled}

-- what is modelled stays modelled
pub modelled_some : {X : Type 0} (P : X → X → Type 0) (a b : X) → P a b → WhereModelled P (Some a) (Some b)
modelled_some P a b p = record { none = λ h. absurd (cc); some = λ x h. let same : x ≡ a = cc in (b, refl, rw same p) }

-- what is kept stays modelled
pub modelled_kept : {X : Type 0} {a b : Option X} (P : X → X → Type 0) → b ≡ a → ((x : X) → P x x) → WhereModelled P a b
modelled_kept P kept p = record { none = λ h. kept ∙ h; some = λ x h. (x, kept ∙ h, p x) }

-- what is known of a call, in other words
pub modelled_as : {X : Type 0} {P : X → X → Type 0} {a b : Option X} (Q : X → X → Type 0) → WhereModelled P a b → ((x y : X) → P x y → Q x y) → WhereModelled Q a b
modelled_as Q modelled f = record {
  none = modelled.none;
  some = λ x h. let t = modelled.some x h in (t.0, t.1, f x t.0 t.2);
}

-- two calls, one after the other
pub modelled_then : {X : Type 0} {P Q : X → X → Type 0} {a b c : Option X} (R : X → X → Type 0) → WhereModelled P a b → WhereModelled Q b c → ((x y z : X) → P x y → Q y z → R x z) → WhereModelled R a c
modelled_then R first second f = record {
  none = λ h. second.none (first.none h);
  some = λ x h. let t = first.some x h in let u = second.some t.0 t.1 in (u.0, u.1, f x t.0 u.0 t.2 u.2);
}
