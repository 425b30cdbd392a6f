-- Blobs as the objects that they are, after a put and a removal.
use Rattle.std.proofs.Common.{◌≡◌, ℕ, List, [], ◌∷◌, Bool, true, false, Option, Some, None, Result, Ok, Err, refl, ap, ◌∙◌, inl, inr, is_some}
use Rattle.std.specs.Option.{option_map}
use Rattle.std.specs.declared.cmp.Ordering.{Ordering}
use Rattle.std.specs.declared.cmp.Ordering.TheVariants.{Less, Equal, Greater}
use Rattle.std.specs.Map.{lookup}
use Rattle.std.specs.BTreeMap.{insert_entry, is_at}
use Rattle.std.proofs.lemmas.Map.Made.{lookup-map_values}
use Rattle.slate_types.specs.declared.store_errors.StoreError.{StoreError}
use Rattle.slate_types.specs.declared.store_errors.StoreError.TheVariants.{NotFound, Exists, Failed, NoMemory}
use Rattle.slate_store.specs.Objects.{without}
use Rattle.slate_blobs.specs.Entries.{PutsAt, RemovesAt, value_at}
use Rattle.slate_blobs.specs.Decoded.{each}

module _ {K X : Type 0} (cmp : K → K → Ordering) (held : List ℕ → X) where
  inserted-by : (o : Ordering) (id : K) (bytes : List ℕ) (e : K × List ℕ) (es : List (K × List ℕ)) → cmp id e.0 ≡ o → each held (insert_entry cmp es id bytes) ≡ insert_entry cmp (each held es) id (held bytes) → each held (insert_entry cmp (e ∷ es) id bytes) ≡ insert_entry cmp (each held (e ∷ es)) id (held bytes)
  inserted-by Less id bytes e es is rest = rw is refl
  inserted-by Equal id bytes e es is rest = rw is refl
  inserted-by Greater id bytes e es is rest = rw is (ap (λ xs. (e.0, held e.1) ∷ xs) rest)

  -- a blob that is put is its object that is put
  pub each-insert : (id : K) (bytes : List ℕ) (es : List (K × List ℕ)) → each held (insert_entry cmp es id bytes) ≡ insert_entry cmp (each held es) id (held bytes)
  each-insert id bytes [] = refl
  each-insert id bytes (e ∷ es) = inserted-by (cmp id e.0) id bytes e es refl (each-insert id bytes es)

  removed-by : (b : Bool) (test : K → Bool) (e : K × List ℕ) (es : List (K × List ℕ)) → test e.0 ≡ b → each held (without test es) ≡ without test (each held es) → each held (without test (e ∷ es)) ≡ without test (each held (e ∷ es))
  removed-by true test e es is rest = rw is rest
  removed-by false test e es is rest = rw is (ap (λ xs. (e.0, held e.1) ∷ xs) rest)

  -- and one that is removed is its object that is removed
  pub each-without : (test : K → Bool) (es : List (K × List ℕ)) → each held (without test es) ≡ without test (each held es)
  each-without test [] = refl
  each-without test (e ∷ es) = removed-by (test e.0) test e es refl (each-without test es)

  present-same : (o : Option (List ℕ)) → is_some (option_map held o) ≡ is_some o
  present-same None = refl
  present-same (Some bytes) = refl

  -- an object stands under an id where a blob does
  pub each-present : (id : K) (es : List (K × List ℕ)) → is_some (value_at cmp id (each held es)) ≡ is_some (value_at cmp id es)
  each-present id es = ap is_some (lookup-map_values held (is_at (cmp id)) es) ∙ present-same (lookup (is_at (cmp id)) es)

  -- a put of bytes puts the object that they are
  pub each-puts : (id : K) (bytes : List ℕ) (x : X) (result : Result (Unit {0}) StoreError) (old new : List (K × List ℕ)) → held bytes ≡ x → PutsAt cmp id bytes result old new → PutsAt cmp id x result (each held old) (each held new)
  each-puts id bytes x (Ok _) old new is put = (each-present id old ∙ put.0, ap (each held) put.1 ∙ each-insert id bytes old ∙ ap (insert_entry cmp (each held old) id) is)
  each-puts id bytes x (Err Exists) old new is put = (each-present id old ∙ put.0, ap (each held) put.1)
  each-puts id bytes x (Err Failed) old new is (inl same) = inl (ap (each held) same)
  each-puts id bytes x (Err Failed) old new is (inr put) = inr (each-present id old ∙ put.0, ap (each held) put.1 ∙ each-insert id bytes old ∙ ap (insert_entry cmp (each held old) id) is)
  each-puts id bytes x (Err NotFound) old new is put = absurd put
  each-puts id bytes x (Err NoMemory) old new is put = ap (each held) put

  -- a removal removes the object
  pub each-removes : (id : K) (result : Result (Unit {0}) StoreError) (old new : List (K × List ℕ)) → RemovesAt cmp id result old new → RemovesAt cmp id result (each held old) (each held new)
  each-removes id (Ok _) old new removed = ap (each held) removed ∙ each-without (is_at (cmp id)) old
  each-removes id (Err Failed) old new (inl same) = inl (ap (each held) same)
  each-removes id (Err Failed) old new (inr removed) = inr (ap (each held) removed ∙ each-without (is_at (cmp id)) old)
  each-removes id (Err NoMemory) old new removed = ap (each held) removed
  each-removes id (Err NotFound) old new removed = absurd removed
  each-removes id (Err Exists) old new removed = absurd removed
