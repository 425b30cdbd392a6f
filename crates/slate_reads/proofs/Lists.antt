-- What holds of each item of a list, of two lists together, and of a list reversed.
use Rattle.std.proofs.Common.{List, [], ◌∷◌, ◌++◌, reverse}
use Rattle.std.proofs.lemmas.List.{reverse-append}
use Rattle.std.specs.List.{AllByRecursion}

pub all-weaker : {A : Type 0} (P Q : A → Type 0) (xs : List A) → ((x : A) → P x → Q x) → AllByRecursion P xs → AllByRecursion Q xs
all-weaker P Q [] f all = tt
all-weaker P Q (x ∷ xs) f all = (f x all.0, all-weaker P Q xs f all.1)

pub all-append : {A : Type 0} (P : A → Type 0) (xs ys : List A) → AllByRecursion P xs → AllByRecursion P ys → AllByRecursion P (xs ++ ys)
all-append P [] ys all also = also
all-append P (x ∷ xs) ys all also = (all.0, all-append P xs ys all.1 also)

pub all-reverse : {A : Type 0} (P : A → Type 0) (xs : List A) → AllByRecursion P xs → AllByRecursion P (reverse xs)
all-reverse P [] all = tt
all-reverse P (x ∷ xs) all = rw (reverse-append (x ∷ []) xs) (all-append P (reverse xs) (x ∷ []) (all-reverse P xs all.1) (all.0, tt))
