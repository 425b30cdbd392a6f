-- Tables, read one after another.
use Rattle.std.proofs.Common.{◌≡◌, ◌≢◌, ℕ, ◌+◌, ◌<◌, ◌≤◌, List, [], ◌∷◌, ◌++◌, take, get_or, length, map, Option, Some, None, Err, refl, sym, subst, ap, ◌∙◌, arith}
use Rattle.std.specs.List.{flat_map}
use Rattle.std.specs.Option.{IfSome}
use Rattle.std.proofs.lemmas.Grind.{flat_map-append}
use Rattle.std.proofs.lemmas.List.{append-nil, map-append, take_more, take_all}
use Rattle.std.proofs.lemmas.List.Elements.{All-nil, All-push}
use Rattle.slate_types.specs.declared.batches.Batch.{Batch}
use Rattle.slate_types.specs.declared.store_errors.StoreError.{StoreError}
use Rattle.slate_types.specs.declared.store_errors.StoreError.TheVariants as refusals
use Rattle.slate_types.specs.declared.store_errors.StoreFault.TheVariants.{NotFound}
use Rattle.slate_store.specs.Calls.{Finds, IsOfRead}
use Rattle.slate_store.specs.Content.{table_batches}
use Rattle.slate_store.specs.declared.objects.TableId.{TableId}
use Rattle.slate_store.specs.Objects.{Objects, table_at}
use Rattle.slate_store.proofs.Joining.{batches-more}
use Rattle.slate_errors.specs.Errors.{error_of_store}
use Rattle.slate_errors.specs.declared.errors.SlateError.TheVariants.{ObjectStoreError}
use Rattle.slate_model.specs.Recency.{AreEach}
use Rattle.slate_model.specs.Tables.{AreJoined, AreStored}
use Rattle.slate_replay.specs.Tables.{IsOfTables}

-- the batches of tables that were read
abbrev pub joined : List (List Batch) → List Batch
joined tables = flat_map (λ table. table) tables

-- these tables are those with these ids, which are stored
pub record AreRead (o : Objects) (ids : List TableId) (tables : List (List Batch)) : Type 0 where
  pub stored : AreStored o ids
  pub batches : joined tables ≡ table_batches o ids

pub read-none : (o : Objects) → AreRead o [] []
read-none o = record { stored = All-nil (λ id. table_at id o ≢ None); batches = refl }

found : (id : TableId) (o : Objects) (table : List Batch) → table_at id o ≡ Some table → table_at id o ≢ None
found id o table is none = absurd (cc)

-- one table more
pub read-more : (o : Objects) (ids : List TableId) (i : ℕ) (id d : TableId) (tables : List (List Batch)) (table : List Batch) → i < length ids → id ≡ get_or ids i d → table_at id o ≡ Some table → AreRead o (take i ids) tables → AreRead o (take (i + 1) ids) (tables ++ table ∷ [])
read-more o ids i id d tables table less is at so_far =
    let one : take (i + 1) ids ≡ take i ids ++ id ∷ [] = take_more ids i d less ∙ ap (λ x. take i ids ++ x ∷ []) (sym is) in
    record {
      stored = subst (AreStored o) (sym one) (All-push (λ x. table_at x o ≢ None) (take i ids) id so_far.stored (found id o table at));
      batches = flat_map-append (λ t. t) tables (table ∷ [])
          ∙ (ap (λ bs. bs ++ joined (table ∷ [])) so_far.batches
          ∙ (ap (λ bs. table_batches o (take i ids) ++ bs) (append-nil table) ∙ sym (batches-more o ids i id d table less is at)));
    }

-- all of them
pub read-all : (o : Objects) (ids : List TableId) (i : ℕ) (tables : List (List Batch)) → length ids ≤ i → AreRead o (take i ids) tables → AreJoined (Some o) ids (joined tables)
read-all o [] i tables all r = r.batches ∙ ap (table_batches o) (take_all i [] all)
read-all o (id ∷ ids) i tables all r =
    let whole = subst (λ xs. AreRead o xs tables) (take_all i (id ∷ ids) all) r in
    (whole.stored, whole.batches)

-- a table that isn't stored
pub unread : (o : Objects) (ids : List TableId) (i : ℕ) (id d : TableId) (r : StoreError) → i < length ids → id ≡ get_or ids i d → Finds {A = List Batch} (table_at id o) (Err r) → error_of_store r ≡ ObjectStoreError NotFound → AreStored o ids → ⊥
unread o ids i id d refusals.NotFound less is none e stored = stored i d less (ap (λ x. table_at x o) (sym is) ∙ none)
unread o ids i id d refusals.Exists less is none e stored = absurd none
unread o ids i id d refusals.Failed less is none e stored = absurd (cc)
unread o ids i id d refusals.NoMemory less is none e stored = absurd (cc)

pub unread-by : (t t' : Option Objects) (ids : List TableId) (i : ℕ) (id d : TableId) (r : StoreError) → t' ≡ t → i < length ids → id ≡ get_or ids i d → IfSome t' (λ o. Finds {A = List Batch} (table_at id o) (Err r)) → error_of_store r ≡ ObjectStoreError NotFound → IfSome t (λ o. AreStored o ids → ⊥)
unread-by None t' ids i id d r same less is found e = tt
unread-by (Some o) t' ids i id d r same less is found e =
    unread o ids i id d r less is (subst (λ x. IfSome x (λ o. Finds {A = List Batch} (table_at id o) (Err r))) same found) e

pub of-tables : (r : StoreError) → IsOfRead r → IsOfTables (error_of_store r)
of-tables refusals.NotFound of = tt
of-tables refusals.Failed of = tt
of-tables refusals.NoMemory of = tt
of-tables refusals.Exists of = absurd of

-- as many tables as ids, over any store
pub joined-by : (t : Option Objects) (ids : List TableId) (i : ℕ) (tables : List (List Batch)) → length ids ≤ i → length tables ≤ length ids → IfSome t (λ o. AreRead o (take i ids) tables) → AreJoined t ids (joined tables)
joined-by (Some o) ids i tables all count r = read-all o ids i tables all r
joined-by None (id ∷ ids) i tables all count r = tt
joined-by None [] i [] all count r = refl
joined-by None [] i (table ∷ tables) all count r = absurd (omega (arith, count))

pub more-by : (t t' : Option Objects) (ids : List TableId) (i : ℕ) (id d : TableId) (tables : List (List Batch)) (table : List Batch) → t' ≡ t → i < length ids → id ≡ get_or ids i d → IfSome t' (λ o. table_at id o ≡ Some table) → IfSome t (λ o. AreRead o (take i ids) tables) → IfSome t (λ o. AreRead o (take (i + 1) ids) (tables ++ table ∷ []))
more-by None t' ids i id d tables table same less is found r = tt
more-by (Some o) t' ids i id d tables table same less is found r =
    read-more o ids i id d tables table less is (subst (λ x. IfSome x (λ o. table_at id o ≡ Some table)) same found) r

-- each of them, over any store
pub each-by : (t : Option Objects) (ids : List TableId) (i : ℕ) (tables : List (List Batch)) → length ids ≤ i → length tables ≡ length ids → IfSome t (λ o. map Some tables ≡ map (λ id. table_at id o) (take i ids)) → AreEach t ids tables
each-by None ids i tables all count r = count
each-by (Some o) ids i tables all count r = r ∙ ap (map (λ id. table_at id o)) (take_all i ids all)

pub each-more : (t t' : Option Objects) (ids : List TableId) (i : ℕ) (id d : TableId) (tables : List (List Batch)) (table : List Batch) → t' ≡ t → i < length ids → id ≡ get_or ids i d → IfSome t' (λ o. table_at id o ≡ Some table) → IfSome t (λ o. map Some tables ≡ map (λ id. table_at id o) (take i ids)) → IfSome t (λ o. map Some (tables ++ table ∷ []) ≡ map (λ id. table_at id o) (take (i + 1) ids))
each-more None t' ids i id d tables table same less is found r = tt
each-more (Some o) t' ids i id d tables table same less is found r =
    let at = subst (λ x. IfSome x (λ o. table_at id o ≡ Some table)) same found in
    let one : take (i + 1) ids ≡ take i ids ++ id ∷ [] = take_more ids i d less ∙ ap (λ x. take i ids ++ x ∷ []) (sym is) in
    map-append Some tables (table ∷ [])
    ∙ (ap (λ xs. xs ++ Some table ∷ []) r
    ∙ (ap (λ x. map (λ id. table_at id o) (take i ids) ++ x ∷ []) (sym at)
    ∙ (sym (map-append (λ id. table_at id o) (take i ids) (id ∷ [])) ∙ ap (map (λ id. table_at id o)) (sym one))))
