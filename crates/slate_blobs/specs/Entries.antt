-- What a put and a removal leave of a folder's blobs.
use Rattle.std.specs.Prelude.{◌≡◌, ◌⊎◌, true, false, List, Option, Result, Ok, Err, is_some}
use Rattle.std.specs.declared.cmp.Ordering.{Ordering}
use Rattle.std.specs.Map.{lookup}
use Rattle.std.specs.BTreeMap.{insert_entry, is_at}
use Rattle.slate_types.specs.declared.store_errors.StoreError.{StoreError}
use Rattle.slate_types.specs.declared.store_errors.StoreError.TheVariants.{NotFound, Exists, Failed, NoMemory}
use Rattle.slate_store.specs.Objects.{without}

module _ {K X : Type 0} (cmp : K → K → Ordering) (id : K) where
  -- what stands under an id
  abbrev pub value_at : List (K × X) → Option X
  value_at entries = lookup (is_at (cmp id)) entries

  -- What a put leaves. At Ok nothing stood under the id and now this does; Exists says that something did; Failed leaves
  -- the put done or not done.
  abbrev pub PutsAt : X → Result (Unit {0}) StoreError → List (K × X) → List (K × X) → Type 0
  PutsAt x (Ok _) old new = (is_some (value_at old) ≡ false) × (new ≡ insert_entry cmp old id x)
  PutsAt x (Err Exists) old new = (is_some (value_at old) ≡ true) × (new ≡ old)
  PutsAt x (Err Failed) old new = (new ≡ old) ⊎ ((is_some (value_at old) ≡ false) × (new ≡ insert_entry cmp old id x))
  PutsAt x (Err NotFound) old new = ⊥
  PutsAt x (Err NoMemory) old new = new ≡ old

  -- What a removal leaves: at Ok nothing stands under the id, whether something did or not; Failed leaves the removal
  -- done or not done.
  abbrev pub RemovesAt : Result (Unit {0}) StoreError → List (K × X) → List (K × X) → Type 0
  RemovesAt (Ok _) old new = new ≡ without (is_at (cmp id)) old
  RemovesAt (Err Failed) old new = (new ≡ old) ⊎ (new ≡ without (is_at (cmp id)) old)
  RemovesAt (Err NoMemory) old new = new ≡ old
  RemovesAt (Err NotFound) old new = ⊥
  RemovesAt (Err Exists) old new = ⊥
