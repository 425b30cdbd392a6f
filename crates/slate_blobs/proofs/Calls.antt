-- A put and a removal in a folder as those of a store, and what a look-up finds.
use Rattle.std.proofs.Common.{◌≡◌, ℕ, List, Option, Some, Result, Ok, Err, refl, ap, sym, ◌∙◌, inl, inr, is_some, []}
use Rattle.std.specs.Option.{option_map}
use Rattle.std.specs.declared.cmp.Ordering.{Ordering}
use Rattle.std.specs.Ordering.{nat_cmp}
use Rattle.std.specs.BTreeMap.{insert_entry, is_at}
use Rattle.std.proofs.lemmas.Map.Made.{lookup-map_values}
use Rattle.slate_types.specs.Modelled.{WhereModelled}
use Rattle.slate_types.specs.declared.batches.Batch.{Batch}
use Rattle.slate_types.specs.declared.store_errors.StoreError.{StoreError}
use Rattle.slate_types.specs.declared.store_errors.StoreError.TheVariants.{NotFound, Exists, Failed, NoMemory}
use Rattle.slate_objects.specs.Objects.{log_in, manifest_in, table_in}
use Rattle.slate_objects.specs.Reading.{GivesDecoded}
use Rattle.slate_objects.specs.declared.faults.DecodeError.{DecodeError}
use Rattle.slate_objects.specs.declared.faults.DecodeError.TheVariants as errors
use Rattle.slate_objects.specs.declared.faults.DecodeFault.{DecodeFault}
use Rattle.slate_store.specs.declared.objects.Manifest.{Manifest}
use Rattle.slate_store.specs.declared.objects.TableId.{TableId}
use Rattle.slate_store.specs.Calls.{Finds, Puts, Removes}
use Rattle.slate_store.specs.Objects.{Change, Objects, PutLog, PutManifest, PutTable, RemoveLog, RemoveManifest, RemoveTable, changed, is_present, table_cmp, without}
use Rattle.slate_blobs.specs.Decoded.{all_held, answer_of, blank_manifest, each, log_held, manifest_held, table_held, value_or}
use Rattle.slate_blobs.specs.Entries.{PutsAt, RemovesAt, value_at}
use Rattle.slate_blobs.proofs.Each.{each-puts, each-removes}
use Rattle.slate_blobs.proofs.Folders.{of-logs, of-manifests, of-tables}

module _ {K X : Type 0} (cmp : K → K → Ordering) (id : K) (into : List (K × X) → Objects) (change : Change) where
  -- a put of an entry is the put of the object
  puts-as : (x : X) → ((xs : List (K × X)) → is_present change (into xs) ≡ is_some (value_at cmp id xs)) → ((xs : List (K × X)) → changed change (into xs) ≡ into (insert_entry cmp xs id x)) → (result : Result (Unit {0}) StoreError) (old new : List (K × X)) → PutsAt cmp id x result old new → Puts change result (into old) (into new)
  puts-as x there makes (Ok _) old new put = (there old ∙ put.0, ap into put.1 ∙ sym (makes old))
  puts-as x there makes (Err Exists) old new put = (there old ∙ put.0, ap into put.1)
  puts-as x there makes (Err Failed) old new (inl same) = inl (ap into same)
  puts-as x there makes (Err Failed) old new (inr put) = inr (there old ∙ put.0, ap into put.1 ∙ sym (makes old))
  puts-as x there makes (Err NotFound) old new put = absurd put
  puts-as x there makes (Err NoMemory) old new put = ap into put

  -- a removal of an entry is the removal of the object
  removes-as : ((xs : List (K × X)) → changed change (into xs) ≡ into (without (is_at (cmp id)) xs)) → (result : Result (Unit {0}) StoreError) (old new : List (K × X)) → RemovesAt cmp id result old new → Removes change result (into old) (into new)
  removes-as makes (Ok _) old new removed = ap into removed ∙ sym (makes old)
  removes-as makes (Err Failed) old new (inl same) = inl (ap into same)
  removes-as makes (Err Failed) old new (inr removed) = inr (ap into removed ∙ sym (makes old))
  removes-as makes (Err NoMemory) old new removed = ap into removed
  removes-as makes (Err NotFound) old new removed = absurd removed
  removes-as makes (Err Exists) old new removed = absurd removed

module _ (id : ℕ) (result : Result (Unit {0}) StoreError) where
  pub puts-manifest : (bytes : List ℕ) (x : Manifest) (a b ls : Option (List (ℕ × List ℕ))) (ts : Option (List (TableId × List ℕ))) → manifest_in bytes ≡ Ok x → WhereModelled (PutsAt nat_cmp id bytes result) a b → WhereModelled (Puts (PutManifest id x) result) (all_held a ls ts) (all_held b ls ts)
  puts-manifest bytes x a b ls ts is put = of-manifests (PutsAt nat_cmp id bytes result) (Puts (PutManifest id x) result) a b ls ts put (λ old new l t p.
      puts-as nat_cmp id (λ ms. record { manifests = ms; logs = each log_held l; tables = each table_held t }) (PutManifest id x) x (λ xs. refl) (λ xs. refl) result (each manifest_held old) (each manifest_held new)
      (each-puts nat_cmp manifest_held id bytes x result old new (ap (value_or blank_manifest) is) p))

  pub removes-manifest : (a b ls : Option (List (ℕ × List ℕ))) (ts : Option (List (TableId × List ℕ))) → WhereModelled (RemovesAt nat_cmp id result) a b → WhereModelled (Removes (RemoveManifest id) result) (all_held a ls ts) (all_held b ls ts)
  removes-manifest a b ls ts removed = of-manifests (RemovesAt nat_cmp id result) (Removes (RemoveManifest id) result) a b ls ts removed (λ old new l t p.
      removes-as nat_cmp id (λ ms. record { manifests = ms; logs = each log_held l; tables = each table_held t }) (RemoveManifest id) (λ xs. refl) result (each manifest_held old) (each manifest_held new)
      (each-removes nat_cmp manifest_held id result old new p))

  pub puts-log : (bytes : List ℕ) (x : List Batch) (ms a b : Option (List (ℕ × List ℕ))) (ts : Option (List (TableId × List ℕ))) → log_in bytes ≡ Ok x → WhereModelled (PutsAt nat_cmp id bytes result) a b → WhereModelled (Puts (PutLog id x) result) (all_held ms a ts) (all_held ms b ts)
  puts-log bytes x ms a b ts is put = of-logs (PutsAt nat_cmp id bytes result) (Puts (PutLog id x) result) ms a b ts put (λ m old new t p.
      puts-as nat_cmp id (λ ls. record { manifests = each manifest_held m; logs = ls; tables = each table_held t }) (PutLog id x) x (λ xs. refl) (λ xs. refl) result (each log_held old) (each log_held new)
      (each-puts nat_cmp log_held id bytes x result old new (ap (value_or []) is) p))

  pub removes-log : (ms a b : Option (List (ℕ × List ℕ))) (ts : Option (List (TableId × List ℕ))) → WhereModelled (RemovesAt nat_cmp id result) a b → WhereModelled (Removes (RemoveLog id) result) (all_held ms a ts) (all_held ms b ts)
  removes-log ms a b ts removed = of-logs (RemovesAt nat_cmp id result) (Removes (RemoveLog id) result) ms a b ts removed (λ m old new t p.
      removes-as nat_cmp id (λ ls. record { manifests = each manifest_held m; logs = ls; tables = each table_held t }) (RemoveLog id) (λ xs. refl) result (each log_held old) (each log_held new)
      (each-removes nat_cmp log_held id result old new p))

module _ (id : TableId) (result : Result (Unit {0}) StoreError) where
  pub puts-table : (bytes : List ℕ) (x : List Batch) (ms ls : Option (List (ℕ × List ℕ))) (a b : Option (List (TableId × List ℕ))) → table_in bytes ≡ Ok x → WhereModelled (PutsAt table_cmp id bytes result) a b → WhereModelled (Puts (PutTable id x) result) (all_held ms ls a) (all_held ms ls b)
  puts-table bytes x ms ls a b is put = of-tables (PutsAt table_cmp id bytes result) (Puts (PutTable id x) result) ms ls a b put (λ m l old new p.
      puts-as table_cmp id (λ ts. record { manifests = each manifest_held m; logs = each log_held l; tables = ts }) (PutTable id x) x (λ xs. refl) (λ xs. refl) result (each table_held old) (each table_held new)
      (each-puts table_cmp table_held id bytes x result old new (ap (value_or []) is) p))

  pub removes-table : (ms ls : Option (List (ℕ × List ℕ))) (a b : Option (List (TableId × List ℕ))) → WhereModelled (RemovesAt table_cmp id result) a b → WhereModelled (Removes (RemoveTable id) result) (all_held ms ls a) (all_held ms ls b)
  removes-table ms ls a b removed = of-tables (RemovesAt table_cmp id result) (Removes (RemoveTable id) result) ms ls a b removed (λ m l old new p.
      removes-as table_cmp id (λ ts. record { manifests = each manifest_held m; logs = each log_held l; tables = ts }) (RemoveTable id) (λ xs. refl) result (each table_held old) (each table_held new)
      (each-removes table_cmp table_held id result old new p))

-- bytes are the object that was decoded from them
pub held-decoded : {X : Type 0} (other x : X) (found : Result X DecodeFault) → found ≡ Ok x → value_or other found ≡ x
held-decoded other x found is = ap (value_or other) is

module _ {K X : Type 0} (cmp : K → K → Ordering) (held : List ℕ → X) (id : K) (blobs : List (K × List ℕ)) where
  -- the object that stands where bytes do
  pub found-object : (bytes : List ℕ) (x : X) → value_at cmp id blobs ≡ Some bytes → held bytes ≡ x → value_at cmp id (each held blobs) ≡ Some x
  found-object bytes x is made = lookup-map_values held (is_at (cmp id)) blobs ∙ ap (option_map held) is ∙ ap Some made

  -- what a get refused is refused of the object
  pub found-error : (error : StoreError) → Finds {A = List ℕ} (value_at cmp id blobs) (Err error) → Finds {A = X} (value_at cmp id (each held blobs)) (Err error)
  found-error NotFound none = lookup-map_values held (is_at (cmp id)) blobs ∙ ap (option_map held) none
  found-error Exists none = none
  found-error Failed none = tt
  found-error NoMemory none = tt

  -- what is answered of a decoding is the object, or refused
  pub found-answer : (other : X) (read : List ℕ → Result X DecodeFault) (bytes : List ℕ) (decoded : Result X DecodeError) → ((bytes : List ℕ) → held bytes ≡ value_or other (read bytes)) → value_at cmp id blobs ≡ Some bytes → GivesDecoded decoded (read bytes) → Finds (value_at cmp id (each held blobs)) (answer_of decoded)
  found-answer other read bytes (Ok x) holds is gives = found-object bytes x is (holds bytes ∙ held-decoded other x (read bytes) gives)
  found-answer other read bytes (Err (errors.Fault fault)) holds is gives = tt
  found-answer other read bytes (Err errors.NoMemory) holds is gives = tt
