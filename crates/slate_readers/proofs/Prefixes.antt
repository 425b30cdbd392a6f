-- Lists that begin each other.
use Rattle.std.proofs.Common.{◌≡◌, List, [], ◌∷◌, ◌++◌, refl, ap, ◌∙◌, append_assoc}
use mathlib.Core.List.{IsPrefix}

-- two lists that begin each other are the same
pub prefix_both : {A : Type 0} (xs ys : List A) → IsPrefix xs ys → IsPrefix ys xs → xs ≡ ys
prefix_both [] [] p q = refl
prefix_both [] (y ∷ ys) p q = absurd (cc (q.1))
prefix_both (x ∷ xs) [] p q = absurd (cc (p.1))
prefix_both (x ∷ xs) (y ∷ ys) p q =
    let rest = prefix_both xs ys (p.0, cc (p.1)) (q.0, cc (q.1)) in
    cc (p.1, rest)

pub prefix_then : {A : Type 0} (xs ys zs : List A) → IsPrefix xs ys → IsPrefix ys zs → IsPrefix xs zs
prefix_then xs ys zs p q = (p.0 ++ q.0, rw (← append_assoc) (ap (λ front. front ++ q.0) p.1 ∙ q.1))

-- nothing but the empty list begins it
pub prefix_none : {A : Type 0} (xs : List A) → IsPrefix xs [] → xs ≡ []
prefix_none [] p = refl
prefix_none (x ∷ xs) p = absurd (cc (p.1))
