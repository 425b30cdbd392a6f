-- A put or a removal that isn't made may answer `Failed`.
use Rattle.std.proofs.Common.{◌≡◌, refl, inl, Option, Err}
use Rattle.slate_types.proofs.Modelled.{modelled_kept}
use Rattle.slate_types.specs.declared.store_errors.StoreError.TheVariants.{Failed}
use Rattle.slate_store.specs.Objects.{Objects, Change}
use Rattle.slate_store.specs.Calls.{Puts, Removes, WhereModelled}

-- a put that fails may have left the objects as they were
pub lost_put : (change : Change) (a b : Option Objects) → b ≡ a → WhereModelled (Puts change (Err Failed)) a b
lost_put change a b kept = modelled_kept (Puts change (Err Failed)) kept (λ objects. inl refl)

-- and so may a removal
pub lost_removal : (change : Change) (a b : Option Objects) → b ≡ a → WhereModelled (Removes change (Err Failed)) a b
lost_removal change a b kept = modelled_kept (Removes change (Err Failed)) kept (λ objects. inl refl)
