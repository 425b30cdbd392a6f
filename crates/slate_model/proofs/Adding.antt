-- Changes that put one table, under an id that is free, leave all others.
use Rattle.std.proofs.Common.{◌≡◌, ◌≢◌, ℕ, zero, suc, ◌+◌, ◌⊎◌, inl, inr, List, [], ◌∷◌, ◌++◌, length, take, cond, Some, None, Bool, true, false, refl, sym, ap, ◌∙◌, arith, flat_map, ltb}
use Rattle.std.proofs.lemmas.Bool.{false_from_ne_true}
use Rattle.std.proofs.lemmas.List.Elements.{All-cons}
use Rattle.std.specs.BTreeMap.{insert_entry, is_at}
use Rattle.std.specs.List.{All}
use Rattle.std.specs.Map.{lookup}
use Rattle.std.specs.Option.{unwrap_or}
use Rattle.slate_types.specs.declared.batches.Batch.{Batch}
use Rattle.slate_types.specs.declared.options.FlushType.{FlushType}
use Rattle.slate_types.specs.declared.options.FlushType.TheVariants.{Wal, MemTable}
use Rattle.slate_store.proofs.Entries.{lookup-insert_other, same_table, table_total, tied}
use Rattle.slate_store.specs.Compaction.{compact_changes_by, tables_at, with_table}
use Rattle.slate_store.specs.Content.{table_batches}
use Rattle.slate_store.specs.Objects.{Change, Objects, PutLog, PutManifest, PutTable, RemoveLog, RemoveManifest, RemoveTable, changed, table_at, table_cmp}
use Rattle.slate_store.specs.declared.objects.TableId.{TableId}
use Rattle.slate_store.specs.declared.objects.VersionedManifest.{VersionedManifest}
use Rattle.slate_model.specs.Changes.{after_part}
use Rattle.slate_model.specs.Flush.{flush_changes_under, has_untabled, log_changes, table_changes, tables_put}
use Rattle.slate_model.specs.Handle.{Handle, next_table, to_log}
use Rattle.slate_model.specs.Tables.{AreStored}

-- changes that put no table, and that put one under this id and no other
abbrev pub PutsNone : List Change → Type 0
PutsNone [] = Unit {0}
PutsNone (PutManifest id m ∷ cs) = PutsNone cs
PutsNone (PutLog id log ∷ cs) = PutsNone cs
PutsNone (c ∷ cs) = ⊥

abbrev pub PutsOne : TableId → List Change → Type 0
PutsOne id [] = Unit {0}
PutsOne id (PutManifest i m ∷ cs) = PutsOne id cs
PutsOne id (PutLog i log ∷ cs) = PutsOne id cs
PutsOne id (PutTable i table ∷ cs) = (i ≡ id) × PutsNone cs
PutsOne id (c ∷ cs) = ⊥

-- the tables after so many tables were put under this id
abbrev pub AreAdded : TableId → Objects → ℕ → Objects → Type 0
AreAdded id o count o' =
    ((o'.tables ≡ o.tables) × (count ≡ 0)) ⊎ ((table : List Batch) × (o'.tables ≡ insert_entry table_cmp o.tables id table) × (count ≡ 1))

pub none-put : (made : ℕ) (cs : List Change) (o : Objects) → PutsNone cs → ((after_part made cs o).tables ≡ o.tables) × (tables_put (take made cs) ≡ 0)
none-put zero cs o puts = (refl, refl)
none-put (suc made) [] o puts = (refl, refl)
none-put (suc made) (PutManifest id m ∷ cs) o puts = none-put made cs (changed (PutManifest id m) o) puts
none-put (suc made) (PutLog id log ∷ cs) o puts = none-put made cs (changed (PutLog id log) o) puts
none-put (suc made) (PutTable id table ∷ cs) o puts = absurd puts
none-put (suc made) (RemoveManifest id ∷ cs) o puts = absurd puts
none-put (suc made) (RemoveLog id ∷ cs) o puts = absurd puts
none-put (suc made) (RemoveTable id ∷ cs) o puts = absurd puts

pub one-put : (id : TableId) (made : ℕ) (cs : List Change) (o : Objects) → PutsOne id cs → AreAdded id o (tables_put (take made cs)) (after_part made cs o)
one-put id zero cs o puts = inl (refl, refl)
one-put id (suc made) [] o puts = inl (refl, refl)
one-put id (suc made) (PutManifest i m ∷ cs) o puts = one-put id made cs (changed (PutManifest i m) o) puts
one-put id (suc made) (PutLog i log ∷ cs) o puts = one-put id made cs (changed (PutLog i log) o) puts
one-put id (suc made) (PutTable i table ∷ cs) o puts =
    let rest = none-put made cs (changed (PutTable i table) o) puts.1 in
    inr (table, rest.0 ∙ ap (λ k. insert_entry table_cmp o.tables k table) puts.0, ap (λ n. n + 1) rest.1)
one-put id (suc made) (RemoveManifest i ∷ cs) o puts = absurd puts
one-put id (suc made) (RemoveLog i ∷ cs) o puts = absurd puts
one-put id (suc made) (RemoveTable i ∷ cs) o puts = absurd puts

-- a table under another id is as it was
pub other-table : (id q : TableId) (count : ℕ) (o o' : Objects) → AreAdded id o count o' → (q ≡ id → ⊥) → table_at q o' ≡ table_at q o
other-table id q count o o' added differ = elim added [
  | inl none ↦ ap (lookup (is_at (table_cmp q))) none.0
  | inr one ↦
      let apart : is_at (table_cmp q) id ≡ false = false_from_ne_true (is_at (table_cmp q) id) (λ tie. differ (same_table q id (tied (table_cmp q id) tie))) in
      ap (lookup (is_at (table_cmp q))) one.1 ∙ lookup-insert_other table_total q id one.0 o.tables apart
]

-- so is one that was stored
stored-table : (id q : TableId) (count : ℕ) (o o' : Objects) → AreAdded id o count o' → table_at id o ≡ None → table_at q o ≢ None → table_at q o' ≡ table_at q o
stored-table id q count o o' added free stored = other-table id q count o o' added (λ same. stored (ap (λ k. table_at k o) same ∙ free))

batches-stay : (o o' : Objects) (ids : List TableId) → ((q : TableId) → table_at q o ≢ None → table_at q o' ≡ table_at q o) → AreStored o ids → table_batches o' ids ≡ table_batches o ids
batches-stay o o' [] stay stored = refl
batches-stay o o' (id ∷ ids) stay stored =
    ap (λ t. unwrap_or t [] ++ table_batches o' ids) (stay id (stored 0 id (omega arith)))
    ∙ ap (λ bs. unwrap_or (table_at id o) [] ++ bs) (batches-stay o o' ids stay (λ k d less. stored (suc k) d (omega (arith, less))))

-- where a table is stored under this id afterwards, it was stored before, with the same batches
abbrev pub Lasts : Objects → Objects → TableId → Type 0
Lasts o o' q = table_at q o' ≢ None → table_at q o' ≡ table_at q o

-- so are the batches of tables that are stored afterwards
pub lasting : (o o' : Objects) (ids : List TableId) → All (Lasts o o') ids → AreStored o' ids → AreStored o ids × (table_batches o' ids ≡ table_batches o ids)
lasting o o' [] last stored = (λ k d less. absurd (omega (arith, less)), refl)
lasting o o' (id ∷ ids) last stored =
    let some = stored 0 id (omega arith) in
    let same = last 0 id (omega arith) some in
    let rest = lasting o o' ids (λ k d less. last (suc k) d (omega (arith, less))) (λ k d less. stored (suc k) d (omega (arith, less))) in (
      All-cons (λ q. table_at q o ≢ None) id ids (λ none. some (same ∙ none)) rest.0,
      ap (λ t. unwrap_or t [] ++ table_batches o' ids) same ∙ ap (λ bs. unwrap_or (table_at id o) [] ++ bs) rest.1,
    )

-- tables that are stored stay, with their batches
pub record Stay (o o' : Objects) : Type 0 where
  pub stored : (ids : List TableId) → AreStored o ids → AreStored o' ids
  pub batches : (ids : List TableId) → AreStored o ids → table_batches o' ids ≡ table_batches o ids

pub stay-added : (id : TableId) (count : ℕ) (o o' : Objects) → AreAdded id o count o' → table_at id o ≡ None → Stay o o'
stay-added id count o o' added free =
    let stay : (q : TableId) → table_at q o ≢ None → table_at q o' ≡ table_at q o = λ (q : TableId) (some : table_at q o ≢ None). stored-table id q count o o' added free some in
    record {
      stored = λ ids stored k d less none. stored k d less (sym (stay _ (stored k d less)) ∙ none);
      batches = λ ids stored. batches-stay o o' ids stay stored;
    }

pub stay-tables : (o o' : Objects) → o'.tables ≡ o.tables → Stay o o'
stay-tables o o' same =
    let stay : (q : TableId) → table_at q o' ≡ table_at q o = λ (q : TableId). ap (lookup (is_at (table_cmp q))) same in
    record {
      stored = λ ids stored k d less none. stored k d less (sym (stay _) ∙ none);
      batches = λ ids stored. batches-stay o o' ids (λ q some. stay q) stored;
    }

-- ---- the changes of a flush and of a compaction put one table
logs-none : (bs : List Batch) (last : ℕ) (id : TableId) (cs : List Change) → PutsOne id cs → PutsOne id (log_changes (λ xs. xs) bs last ++ cs)
logs-none [] last id cs puts = puts
logs-none (b ∷ bs) last id cs puts = puts

logs-alone : (bs : List Batch) (last : ℕ) (id : TableId) → PutsOne id (log_changes (λ xs. xs) bs last)
logs-alone [] last id = tt
logs-alone (b ∷ bs) last id = tt

pub flush-puts : (t : FlushType) (h : Handle) (latest : VersionedManifest) (last : ℕ) → PutsOne (next_table h) (flush_changes_under (λ xs. xs) t h latest last)
flush-puts Wal h latest last = logs-alone (to_log h) last (next_table h)
flush-puts MemTable h latest last = by (has_untabled h latest.manifest) where
  by : (some : Bool) → PutsOne (next_table h) (cond some (log_changes (λ xs. xs) (to_log h) last ++ table_changes (λ xs. xs) h latest last) [])
  by true = logs-none (to_log h) last (next_table h) (table_changes (λ xs. xs) h latest last) (refl, tt)
  by false = tt

pub compact-puts : (id : TableId) (o : Objects) (latest : VersionedManifest) → PutsOne id (compact_changes_by (flat_map (λ bs. bs)) id o (Some latest))
compact-puts id o latest = by (ltb (length latest.manifest.tables) 2) where
  by : (few : Bool) → PutsOne id (cond few [] (PutTable id (flat_map (λ bs. bs) (tables_at o latest.manifest.tables)) ∷ PutManifest (with_table id latest).id (with_table id latest).manifest ∷ []))
  by true = tt
  by false = (refl, tt)
