-- Joining tables: batches that rise, and the two puts.
use Rattle.std.proofs.Common.{◌≡◌, ◌≢◌, inl, inr, ℕ, zero, ◌+◌, ◌<◌, ◌≤◌, List, [], ◌∷◌, ◌++◌, take, drop, get_or, length, Option, Some, None, unwrap_or, Result, Ok, Err, refl, sym, ap, subst, ◌∙◌, arith}
use Rattle.std.proofs.lemmas.List.{append-nil, take-append-drop, take_more}
use Rattle.std.proofs.lemmas.Grind.{flat_map-append}
use Rattle.std.proofs.lemmas.List.Elements.{All-append, All-cons, All-nil, Contains-get_or}
use Rattle.std.specs.List.{AllByRecursion, Contains}
use Rattle.std.specs.Option.{IfSome}
use Rattle.slate_types.specs.declared.batches.Batch.{Batch}
use Rattle.slate_types.specs.declared.store_errors.StoreError.{StoreError}
use Rattle.slate_types.specs.declared.store_errors.StoreError.TheVariants as errors
use Rattle.slate_types.specs.Modelled.{WhereModelled}
use Rattle.slate_types.proofs.Modelled.{modelled_as, modelled_then}
use Rattle.slate_reads.specs.Index.{AreRising}
use Rattle.slate_store.specs.declared.refusals.StoreRefusal.{StoreRefusal}
use Rattle.slate_store.specs.declared.refusals.StoreRefusal.TheVariants.{InvalidDBState, NoMemory}
use Rattle.slate_store.specs.Calls.{Finds, Puts}
use Rattle.slate_store.specs.Compaction.{HasTablesToJoin}
use Rattle.slate_store.specs.Content.{AreStored, table_batches}
use Rattle.slate_store.specs.declared.objects.TableId.{TableId}
use Rattle.slate_store.specs.declared.objects.VersionedManifest.{VersionedManifest}
use Rattle.slate_store.specs.Objects.{Change, Objects, changed, is_present, table_at}
use Rattle.slate_store.specs.Refusals.{FindsLatest, refusal_of}
use Rattle.slate_store.specs.Steps.{AddsBatches, Joins, PutsBoth}

-- a put of the table that was refused
table-refused : (table manifest : Change) (e : StoreError) (o o' : Objects) → Puts table (Err e) o o' → (made : ℕ) × PutsBoth table manifest (Err (refusal_of e)) made o o'
table-refused table manifest errors.Exists o o' h =
    (zero, record { part = omega arith; after = h.1; free = λ some. absurd (omega (arith, some)); exists = λ e. inl h.0 })
table-refused table manifest errors.Failed o o' (inl h) =
    (zero, record { part = omega arith; after = h; free = λ some. absurd (omega (arith, some)); exists = λ e. absurd (cc) })
table-refused table manifest errors.Failed o o' (inr h) =
    (1, record { part = omega arith; after = h.1; free = λ some. h.0; exists = λ e. absurd (cc) })
table-refused table manifest errors.NoMemory o o' h =
    (zero, record { part = omega arith; after = h; free = λ some. absurd (omega (arith, some)); exists = λ e. absurd (cc) })
table-refused table manifest errors.NotFound o o' h = absurd h

-- a table that was put, and a manifest that was refused
manifest-refused : (table manifest : Change) (e : StoreError) (o o1 o2 : Objects) → Puts table (Ok tt) o o1 → is_present manifest o1 ≡ is_present manifest o → Puts manifest (Err e) o1 o2 → (made : ℕ) × PutsBoth table manifest (Err (refusal_of e)) made o o2
manifest-refused table manifest errors.Exists o o1 o2 put same h =
    (1, record { part = omega arith; after = h.1 ∙ put.1; free = λ some. put.0; exists = λ e. inr (sym same ∙ h.0) })
manifest-refused table manifest errors.Failed o o1 o2 put same (inl h) =
    (1, record { part = omega arith; after = h ∙ put.1; free = λ some. put.0; exists = λ e. absurd (cc) })
manifest-refused table manifest errors.Failed o o1 o2 put same (inr h) =
    (2, record { part = omega arith; after = h.1 ∙ ap (changed manifest) put.1; free = λ some. put.0; exists = λ e. absurd (cc) })
manifest-refused table manifest errors.NoMemory o o1 o2 put same h =
    (1, record { part = omega arith; after = h ∙ put.1; free = λ some. put.0; exists = λ e. absurd (cc) })
manifest-refused table manifest errors.NotFound o o1 o2 put same h = absurd h

-- as much over any store
abbrev PutsBothBy : Change → Change → Result (Unit {0}) StoreRefusal → Objects → Objects → Type 0
PutsBothBy table manifest r o o' = (made : ℕ) × PutsBoth table manifest r made o o'

module _ {a b : Option Objects} (table manifest : Change) where
  pub first-refused : (e : StoreError) → WhereModelled (Puts table (Err e)) a b → WhereModelled (PutsBothBy table manifest (Err (refusal_of e))) a b
  first-refused e first = modelled_as (PutsBothBy table manifest (Err (refusal_of e))) first (table-refused table manifest e)

  module _ (first : WhereModelled (Puts table (Ok tt)) a b) (same : (o : Objects) → is_present manifest (changed table o) ≡ is_present manifest o) where
    pub second-refused : {c : Option Objects} (e : StoreError) → WhereModelled (Puts manifest (Err e)) b c → WhereModelled (PutsBothBy table manifest (Err (refusal_of e))) a c
    second-refused e second =
        modelled_then (PutsBothBy table manifest (Err (refusal_of e))) first second
        (λ o o1 o2 put h. manifest-refused table manifest e o o1 o2 put (ap (is_present manifest) put.1 ∙ same o) h)

    pub both-put : {c : Option Objects} → WhereModelled (Puts manifest (Ok tt)) b c → WhereModelled (PutsBothBy table manifest (Ok tt)) a c
    both-put second =
        modelled_then (PutsBothBy table manifest (Ok tt)) first second
        (λ o o1 o2 put h. (2, record { part = refl; after = h.1 ∙ ap (changed manifest) put.1; free = λ some. put.0; exists = λ e. absurd (cc) }))

-- the first ones of batches that rise do
pub rising-front : (xs ys : List Batch) → AreRising (xs ++ ys) → AreRising xs
rising-front [] ys rising = tt
rising-front (x ∷ xs) ys rising = (all-front (λ (later : Batch). x.number < later.number) xs ys rising.0, rising-front xs ys rising.1) where
  all-front : (P : Batch → Type 0) (fs bs : List Batch) → AllByRecursion P (fs ++ bs) → AllByRecursion P fs
  all-front P [] bs all = tt
  all-front P (a ∷ fs) bs all = (all.0, all-front P fs bs all.1)

-- the batches of one table more
pub batches-more : (o : Objects) (ids : List TableId) (i : ℕ) (id d : TableId) (table : List Batch) → i < length ids → id ≡ get_or ids i d → table_at id o ≡ Some table → table_batches o (take (i + 1) ids) ≡ table_batches o (take i ids) ++ table
batches-more o ids i id d table less is found =
    let one : take (i + 1) ids ≡ take i ids ++ (id ∷ []) = take_more ids i d less ∙ ap (λ x. take i ids ++ (x ∷ [])) (sym is) in
    ap (table_batches o) one
    ∙ (flat_map-append (λ x. unwrap_or (table_at x o) []) (take i ids) (id ∷ [])
    ∙ ap (λ ys. table_batches o (take i ids) ++ ys) (append-nil (unwrap_or (table_at id o) []) ∙ ap (λ x. unwrap_or x []) found))

-- and that table is stored, as those before it are
pub stored-more : (o : Objects) (ids : List TableId) (i : ℕ) (id d : TableId) (table : List Batch) → i < length ids → id ≡ get_or ids i d → table_at id o ≡ Some table → AreStored o (take i ids) → AreStored o (take (i + 1) ids)
stored-more o ids i id d table less is found so_far =
    let one : take (i + 1) ids ≡ take i ids ++ (id ∷ []) = take_more ids i d less ∙ ap (λ x. take i ids ++ (x ∷ [])) (sym is) in
    let there : table_at id o ≢ None = λ none. absurd (cc) in
    subst (AreStored o) (sym one) (All-append (λ x. table_at x o ≢ None) (take i ids) (id ∷ []) so_far (All-cons (λ x. table_at x o ≢ None) id [] there (All-nil (λ x. table_at x o ≢ None))))

-- and those of the tables after them
batches-parts : (o : Objects) (ids : List TableId) (i : ℕ) → table_batches o ids ≡ table_batches o (take i ids) ++ table_batches o (drop i ids)
batches-parts o ids i = ap (table_batches o) (sym (take-append-drop i ids)) ∙ flat_map-append (λ x. unwrap_or (table_at x o) []) (take i ids) (drop i ids)

-- a table that wasn't read
pub unread : (ids : List TableId) (i : ℕ) (id d : TableId) (e : StoreError) (o : Objects) → i < length ids → id ≡ get_or ids i d → Finds {A = List Batch} (table_at id o) (Err e) → Joins ids o (Err (refusal_of e))
unread ids i id d errors.NotFound o less is none = (id, subst (Contains ids) (sym is) (Contains-get_or ids i d less), none)
unread ids i id d errors.Exists o less is none = absurd none
unread ids i id d errors.Failed o less is none = tt
unread ids i id d errors.NoMemory o less is none = tt

-- a table whose batches don't go on from those before it, or that found no memory
pub unadded : (ids : List TableId) (i : ℕ) (id d : TableId) (joined table joined' : List Batch) (e : StoreRefusal) (o : Objects) → i < length ids → id ≡ get_or ids i d → joined ≡ table_batches o (take i ids) → table_at id o ≡ Some table → AddsBatches joined table (Err e) joined' → Joins ids o (Err e)
unadded ids i id d joined table joined' InvalidDBState o less is so_far found not_rising =
    λ rising. not_rising
    (subst AreRising (batches-more o ids i id d table less is found ∙ ap (λ xs. xs ++ table) (sym so_far))
    (rising-front (table_batches o (take (i + 1) ids)) (table_batches o (drop (i + 1) ids)) (subst AreRising (batches-parts o ids (i + 1)) rising)))
unadded ids i id d joined table joined' NoMemory o less is so_far found added = tt
unadded ids i id d joined table joined' e o less is so_far found added = absurd added

-- what is known of a store that is kept, by two calls
pub both-known : {P Q R : Objects → Type 0} (a b : Option Objects) → b ≡ a → IfSome a P → IfSome b Q → ((o : Objects) → P o → Q o → R o) → IfSome a R
both-known None b same p q f = tt
both-known {P} {Q} {R} (Some x) b same p q f = f x p (subst (λ c. IfSome c Q) same q)

-- the tables of the latest manifest, all of which were read
pub all-read : (a b : Option Objects) (latest : VersionedManifest) → b ≡ a → IfSome a (λ o. FindsLatest o (Ok latest)) → IfSome b (λ o. AreStored o latest.manifest.tables) → IfSome a HasTablesToJoin
all-read a b latest kept found read =
    both-known a b kept found read (λ o is are. subst (λ l. IfSome l (λ v. 2 ≤ length v.manifest.tables → AreStored o v.manifest.tables)) (sym is) (λ many. are))
