-- Batches that are copied are the same batches.
use Rattle.std.proofs.Common.{◌≡◌, List}
use Rattle.std.specs.List.{AllZip}
use Rattle.std.proofs.lemmas.List.Elements.{same_from_all_zip}
use Rattle.slate_types.specs.declared.batches.Batch.{Batch}

-- copies, each equal to its source, are the list again
pub same_batches : (xs ys : List Batch) → AllZip (λ x y. y ≡ x) xs ys → ys ≡ xs
same_batches xs ys same = same_from_all_zip (λ (x y : Batch). y ≡ x) xs ys same (λ x y e. e)
