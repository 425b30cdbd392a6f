-- What holds after a part of changes.
use Rattle.slate_store.specs.Changes.{after_part}
use Rattle.slate_store.specs.Objects.{ChangeOf, ObjectsOf, changed, changed_all}
use Rattle.std.proofs.Common.{◌++◌, ◌∷◌, ◌≡◌, [], List, refl, subst, suc, sym, zero, ℕ}

-- no change leaves the objects
pub part-none : {L : Type 0} (made : ℕ) (o : ObjectsOf L) → after_part made [] o ≡ o
part-none zero o = refl
part-none (suc made) o = refl

-- what holds before a change and after it holds after each part of it
pub part-one : {L : Type 0} (P : ObjectsOf L → Type 0) (c : ChangeOf L) (o : ObjectsOf L) (made : ℕ) → P o → P (changed c o) → P (after_part made (c ∷ []) o)
part-one P c o zero before after = before
part-one P c o (suc made) before after = subst P (sym (part-none made (changed c o))) after

-- of one change and others, nothing is made, or that one and a part of the others
pub part-more : {L : Type 0} (P : ObjectsOf L → Type 0) (c : ChangeOf L) (cs : List (ChangeOf L)) (o : ObjectsOf L) (made : ℕ) → P o → ((part : ℕ) → P (after_part part cs (changed c o))) → P (after_part made (c ∷ cs) o)
part-more P c cs o zero before after = before
part-more P c cs o (suc made) before after = after made

pub changed_all-append : {L : Type 0} (cs ds : List (ChangeOf L)) (o : ObjectsOf L) → changed_all (cs ++ ds) o ≡ changed_all ds (changed_all cs o)
changed_all-append [] ds o = refl
changed_all-append (c ∷ cs) ds o = changed_all-append cs ds (changed c o)
