-- Tables that are kept are those that are stored: after each that is kept or forgotten, a put and a removal.
use Rattle.std.proofs.Common.{◌≡◌, ℕ, List, [], Bool, true, false, Option, Some, None, Result, Ok, Err, refl, ap, sym, subst, ◌∙◌, inl, inr, is_some, not, eqb, slice_index_or, arith}
use Rattle.std.specs.Option.{IfSome, option_map}
use Rattle.std.specs.List.{All, find}
use Rattle.std.specs.BTreeMap.{insert_entry, is_at}
use Rattle.std.proofs.lemmas.Bool.{eqb-true, and_parts, false_from_ne_true}
use Rattle.std.proofs.lemmas.Bool.Decides.{nat_tests}
use Rattle.std.proofs.lemmas.List.Elements.{All-filter, All-nil, filter_passes}
use Rattle.slate_types.specs.Modelled.{WhereModelled}
use Rattle.slate_types.specs.declared.batches.Batch.{Batch}
use Rattle.slate_types.specs.declared.store_errors.StoreError.{StoreError}
use Rattle.slate_types.specs.declared.store_errors.StoreError.TheVariants.{NotFound, Exists, Failed, NoMemory}
use Rattle.slate_objects.specs.Objects.{table_in}
use Rattle.slate_store.specs.declared.objects.TableId.{TableId}
use Rattle.slate_store.specs.Objects.{table_cmp, without}
use Rattle.slate_store.proofs.Entries.{lookup-insert_other, lookup-insert_same, lookup-without, same_table, table_total, tied}
use Rattle.slate_blobs.specs.declared.kept_tables.KeptTable.{KeptTable}
use Rattle.slate_blobs.specs.Decoded.{each, table_held, value_or}
use Rattle.slate_blobs.specs.Entries.{PutsAt, RemovesAt, value_at}
use Rattle.slate_blobs.specs.Kept.{AreStored, Keeps, is_of, kept_at, others}
use Rattle.slate_blobs.proofs.Each.{each-insert, each-present, each-without}
use Rattle.slate_blobs.proofs.Kept.{all-find, all-keeps}

-- the blobs of a folder, each under its table's id
abbrev Folder : Type 0
Folder = List (TableId × List ℕ)

-- a table that is kept is what is stored under its id
abbrev IsStored : Folder → KeptTable → Type 0
IsStored blobs kept = value_at table_cmp kept.id (each table_held blobs) ≡ Some kept.table

-- one that is found by an id has it
is_of-same : (id : TableId) (kept : KeptTable) → is_of id kept ≡ true → kept.id ≡ id
is_of-same id kept h =
    let both = and_parts _ _ h in
    let epochs = eqb-true kept.id.epoch id.epoch both.0 in
    let indices = eqb-true kept.id.index id.index both.1 in
    λ i. record { epoch = epochs i; index = indices i }

itself : (n : ℕ) → eqb n n ≡ true
itself n = grind (arith, nat_tests)

is_of-itself : (kept : KeptTable) → is_of kept.id kept ≡ true
is_of-itself kept = rw (itself kept.id.epoch, itself kept.id.index) refl

entry-found : (found : Option KeptTable) (table : List Batch) → option_map (λ (kept : KeptTable). kept.table) found ≡ Some table → (kept : KeptTable) × (found ≡ Some kept) × (kept.table ≡ table)
entry-found None table is = absurd (cc)
entry-found (Some kept) table is = (kept, refl, cc)

-- what a look-up finds is stored
pub stored-found : (id : TableId) (tables : List KeptTable) (table : List Batch) (held : Option Folder) → AreStored tables held → kept_at id tables ≡ Some table → IfSome held (λ blobs. value_at table_cmp id (each table_held blobs) ≡ Some table)
stored-found id tables table None stored is = tt
stored-found id tables table (Some blobs) stored is =
    let entry = entry-found (find (is_of id) tables) table is in
    let found = all-find (IsStored blobs) (is_of id) tables entry.0 stored entry.1 in
    let same = is_of-same id entry.0 found.1 in
    sym (ap (λ k. value_at table_cmp k (each table_held blobs)) same) ∙ (found.0 ∙ ap Some entry.2)

-- where the one that came is stored, each that is kept then is
pub stored-keeps : (bound : ℕ) (kept : KeptTable) (old new : List KeptTable) (held : Option Folder) → IfSome held (λ blobs. IsStored blobs kept) → AreStored old held → Keeps bound kept old new → AreStored new held
stored-keeps bound kept old new None here stored keeps = tt
stored-keeps bound kept old new (Some blobs) here stored keeps = all-keeps (IsStored blobs) bound kept old new here stored keeps

-- none is kept yet
pub stored-none : (held : Option Folder) → AreStored [] held
stored-none None = tt
stored-none (Some blobs) = All-nil (IsStored blobs)

-- what is known of a folder after a call
after-call : (Q : Folder → Folder → Type 0) (P P' : Folder → Type 0) (a b : Option Folder) → WhereModelled Q a b → IfSome a P → ((x y : Folder) → Q x y → P x → P' y) → IfSome b P'
after-call Q P P' None b w h f = rw (w.none refl) tt
after-call Q P P' (Some x) b w h f = let s = w.some x refl in rw (s.1) (f x s.0 s.2 h)

-- a put under an id that isn't stored leaves what is
insert-leaves : (id : TableId) (bytes : List ℕ) (x : Folder) (kept : KeptTable) → is_some (value_at table_cmp id x) ≡ false → IsStored x kept → IsStored (insert_entry table_cmp x id bytes) kept
insert-leaves id bytes x kept free is =
    let apart : is_at (table_cmp kept.id) id ≡ false = false_from_ne_true (is_at (table_cmp kept.id) id) (λ tie.
    let same = same_table kept.id id (tied (table_cmp kept.id id) tie) in
    let none = each-present table_cmp table_held id x ∙ free in
    let some = ap is_some (sym (ap (λ k. value_at table_cmp k (each table_held x)) same) ∙ is) in
    absurd (cc (none, some))) in
    ap (value_at table_cmp kept.id) (each-insert table_cmp table_held id bytes x) ∙ (lookup-insert_other table_total kept.id id (table_held bytes) (each table_held x) apart ∙ is)

-- any put does
put-leaves : (id : TableId) (bytes : List ℕ) (result : Result (Unit {0}) StoreError) (x y : Folder) (kept : KeptTable) → PutsAt table_cmp id bytes result x y → IsStored x kept → IsStored y kept
put-leaves id bytes (Ok _) x y kept put is = subst (λ (f : Folder). IsStored f kept) (sym put.1) (insert-leaves id bytes x kept put.0 is)
put-leaves id bytes (Err Exists) x y kept put is = subst (λ (f : Folder). IsStored f kept) (sym put.1) is
put-leaves id bytes (Err Failed) x y kept (inl same) is = subst (λ (f : Folder). IsStored f kept) (sym same) is
put-leaves id bytes (Err Failed) x y kept (inr put) is = subst (λ (f : Folder). IsStored f kept) (sym put.1) (insert-leaves id bytes x kept put.0 is)
put-leaves id bytes (Err NotFound) x y kept put is = absurd put
put-leaves id bytes (Err NoMemory) x y kept put is = subst (λ (f : Folder). IsStored f kept) (sym put) is

pub stored-puts : (id : TableId) (bytes : List ℕ) (result : Result (Unit {0}) StoreError) (tables : List KeptTable) (a b : Option Folder) → WhereModelled (PutsAt table_cmp id bytes result) a b → AreStored tables a → AreStored tables b
stored-puts id bytes result tables a b put stored = after-call (PutsAt table_cmp id bytes result) (λ x. All (IsStored x) tables) (λ y. All (IsStored y) tables) a b put stored (λ x y put all. λ k d less. put-leaves id bytes result x y (slice_index_or tables k d) put (all k d less))

-- a table that was put is stored
pub put-there : (id : TableId) (bytes : List ℕ) (table : List Batch) (a b : Option Folder) → table_in bytes ≡ Ok table → WhereModelled (PutsAt table_cmp id bytes (Ok tt)) a b → IfSome b (λ blobs. value_at table_cmp id (each table_held blobs) ≡ Some table)
put-there id bytes table None b is w = rw (w.none refl) tt
put-there id bytes table (Some x) b is w =
    let s = w.some x refl in
    let inserted = ap (each table_held) (s.2.1) ∙ each-insert table_cmp table_held id bytes x in
    rw (s.1) (ap (value_at table_cmp id) inserted ∙ (lookup-insert_same table_total id (table_held bytes) (each table_held x) ∙ ap (λ found. Some (value_or [] found)) is))

-- a removal leaves what is stored under other ids
without-leaves : (id : TableId) (x : Folder) (kept : KeptTable) → is_of id kept ≡ false → IsStored x kept → IsStored (without (is_at (table_cmp id)) x) kept
without-leaves id x kept other is =
    let apart : is_at (table_cmp id) kept.id ≡ false = false_from_ne_true (is_at (table_cmp id) kept.id) (λ tie.
    let same = same_table id kept.id (tied (table_cmp id kept.id) tie) in
    let of = ap (λ k. is_of k kept) same ∙ is_of-itself kept in
    absurd (cc (of, other))) in
    ap (value_at table_cmp kept.id) (each-without table_cmp table_held (is_at (table_cmp id)) x) ∙ (lookup-without table_total kept.id id (each table_held x) apart ∙ is)

removal-leaves : (id : TableId) (result : Result (Unit {0}) StoreError) (x y : Folder) (kept : KeptTable) → is_of id kept ≡ false → RemovesAt table_cmp id result x y → IsStored x kept → IsStored y kept
removal-leaves id (Ok _) x y kept other removed is = subst (λ (f : Folder). IsStored f kept) (sym removed) (without-leaves id x kept other is)
removal-leaves id (Err Failed) x y kept other (inl same) is = subst (λ (f : Folder). IsStored f kept) (sym same) is
removal-leaves id (Err Failed) x y kept other (inr removed) is = subst (λ (f : Folder). IsStored f kept) (sym removed) (without-leaves id x kept other is)
removal-leaves id (Err NoMemory) x y kept other removed is = subst (λ (f : Folder). IsStored f kept) (sym removed) is
removal-leaves id (Err NotFound) x y kept other removed is = absurd removed
removal-leaves id (Err Exists) x y kept other removed is = absurd removed

not-true : (b : Bool) → not b ≡ true → b ≡ false
not-true true h = absurd (cc)
not-true false h = refl

-- a removal of the table that was forgotten
pub stored-removes : (id : TableId) (result : Result (Unit {0}) StoreError) (old new : List KeptTable) (a b : Option Folder) → WhereModelled (RemovesAt table_cmp id result) a b → new ≡ others id old → AreStored old a → AreStored new b
stored-removes id result old new a b removed is stored =
    let left : List KeptTable = others id old in
    let other : All (λ kept. is_of id kept ≡ false) left = λ k d less. not-true _ (filter_passes (λ kept. not (is_of id kept)) old k d less) in
    let leaves : (x y : Folder) → RemovesAt table_cmp id result x y → All (IsStored x) old → All (IsStored y) left =
    λ x y gone all. λ k d less. removal-leaves id result x y (slice_index_or left k d) (other k d less) gone (All-filter (λ kept. not (is_of id kept)) (IsStored x) old all k d less) in
    subst (λ (tables : List KeptTable). AreStored tables b) (sym is) (after-call (RemovesAt table_cmp id result) (λ x. All (IsStored x) old) (λ y. All (IsStored y) left) a b removed stored leaves)

-- what is answered of a look-up is stored
pub answer-found : (id : TableId) (tables : List KeptTable) (answer : Option (List Batch)) (held : Option Folder) → AreStored tables held → IfSome answer (λ table. kept_at id tables ≡ Some table) → IfSome answer (λ table. IfSome held (λ blobs. value_at table_cmp id (each table_held blobs) ≡ Some table))
answer-found id tables None held stored is = tt
answer-found id tables (Some table) held stored is = stored-found id tables table held stored is

-- a put leaves what is kept, where something is
pub stored-puts-kept : {L : Type 0} (id : TableId) (bytes : List ℕ) (result : Result (Unit {0}) StoreError) (listed : L → List KeptTable) (kept : Option L) (a b : Option Folder) → WhereModelled (PutsAt table_cmp id bytes result) a b → IfSome kept (λ k. AreStored (listed k) a) → IfSome kept (λ k. AreStored (listed k) b)
stored-puts-kept id bytes result listed None a b put stored = tt
stored-puts-kept id bytes result listed (Some k) a b put stored = stored-puts id bytes result (listed k) a b put stored

-- a fact of what there is
pub given : {X : Type 0} (P : X → Type 0) (o : Option X) (x : X) → o ≡ Some x → P x → IfSome o P
given P o x is h = subst (λ (p : Option _). IfSome p P) (sym is) h

-- and of what there isn't
pub unless-some : {X : Type 0} (P : X → Type 0) (o : Option X) → ((x : X) → o ≡ Some x → ⊥) → IfSome o P
unless-some P None never = tt
unless-some P (Some x) never = absurd (never x refl)
