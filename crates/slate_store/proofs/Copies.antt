-- A list whose items are copied is the same list.
use Rattle.std.proofs.Common.{◌≡◌, List}
use Rattle.std.specs.List.{AllZip}
use Rattle.std.proofs.lemmas.List.Elements.{same_from_all_zip}

-- copies, each equal to its source, are the list again
pub same_items : {X : Type 0} (xs ys : List X) → AllZip (λ x y. y ≡ x) xs ys → ys ≡ xs
same_items {X} xs ys same = same_from_all_zip (λ (x y : X). y ≡ x) xs ys same (λ x y e. e)
