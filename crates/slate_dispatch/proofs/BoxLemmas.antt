-- Calls of a task in a box.
use Rattle.std.proofs.Common.{◌≡◌, refl, sym, subst}
use Rattle.std.specs.declared.dyn_box.DynBox.{DynBox}
use Rattle.std.specs.DynBox.{dyn_box_with}

-- a step of the value behind a box is one of the box
pub boxed-step : {I Z C : Type 0} {F : I → Type 0} (steps : (i : I) → F i → C → F i → Type 0) (d : DynBox I Z F) (lent : (i : I) × F i) (after : F lent.0) (call : C)
    → lent ≡ (d.vtable, d.value)
    → steps lent.0 lent.1 call after
    → (x : F d.vtable) × (dyn_box_with d lent.0 after ≡ dyn_box_with d d.vtable x) × steps d.vtable d.value call x
boxed-step {I} {Z} {C} {F} steps d lent after call same step =
    let P : ((i : I) × F i) → Type 0 =
    λ p. (w : F p.0) → steps p.0 p.1 call w → (x : F d.vtable) × (dyn_box_with d p.0 w ≡ dyn_box_with d d.vtable x) × steps d.vtable d.value call x in
    subst P (sym same) (λ w h. (w, refl, h)) after step
