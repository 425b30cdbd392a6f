-- What was read stays what is stored, with one object more.
use Rattle.std.proofs.Common.{◌≡◌, ℕ, Bool, true, false, cond, List, Option, Some, refl, sym, ap, subst, ◌∙◌}
use Rattle.std.specs.BTreeMap.{is_at}
use Rattle.std.specs.Map.{lookup}
use Rattle.std.specs.Ordering.{nat_cmp}
use Rattle.slate_types.specs.declared.batches.Batch.{Batch}
use Rattle.slate_store.specs.declared.objects.TableId.{TableId}
use Rattle.slate_store.specs.Objects.{Objects, entry_at, log_at, table_at, table_cmp}
use Rattle.slate_store.proofs.Entries.{same_number, same_table, tied}
use Rattle.slate_check.specs.Reads.{AreOf}

-- a value under a key more
put : {K X : Type 0} (stored kept kept' : K → Option X) (at : K → Bool) (key : K) (value : X) → ((q : K) → at q ≡ true → key ≡ q)
    → ((q : K) → kept' q ≡ cond (at q) (Some value) (kept q)) → ((q : K) (x : X) → kept q ≡ Some x → stored q ≡ Some x) → stored key ≡ Some value
    → (q : K) (x : X) → kept' q ≡ Some x → stored q ≡ Some x
put {K} {X} stored kept kept' at key value same puts old is q x found = by (at q) refl where
  by : (b : Bool) → at q ≡ b → stored q ≡ Some x
  by true e =
      let one : kept' q ≡ Some value = puts q ∙ ap (λ b. cond b (Some value) (kept q)) e in
      let here : stored q ≡ Some value = subst (λ k. stored k ≡ Some value) (same q e) is in
      here ∙ sym one ∙ found
  by false e =
      let one : kept' q ≡ kept q = puts q ∙ ap (λ b. cond b (Some value) (kept q)) e in
      old q x (sym one ∙ found)

pub table-put : (o : Objects) (tables tables' : List (TableId × List Batch)) (logs : List (ℕ × List Batch)) (id : TableId) (table : List Batch)
    → ((q : TableId) → lookup (is_at (table_cmp q)) tables' ≡ cond (is_at (table_cmp id) q) (Some table) (lookup (is_at (table_cmp q)) tables))
    → table_at id o ≡ Some table → AreOf o tables logs → AreOf o tables' logs
table-put o tables tables' logs id table puts is of =
    record {
      tables = put (λ q. table_at q o) (λ q. lookup (is_at (table_cmp q)) tables) (λ q. lookup (is_at (table_cmp q)) tables') (is_at (table_cmp id)) id table
          (λ q e. same_table id q (tied (table_cmp id q) e)) puts of.tables is;
      logs = of.logs;
    }

pub log-put : (o : Objects) (tables : List (TableId × List Batch)) (logs logs' : List (ℕ × List Batch)) (id : ℕ) (log : List Batch)
    → ((q : ℕ) → entry_at q logs' ≡ cond (is_at (nat_cmp id) q) (Some log) (entry_at q logs))
    → log_at id o ≡ Some log → AreOf o tables logs → AreOf o tables logs'
log-put o tables logs logs' id log puts is of =
    record {
      tables = of.tables;
      logs = put (λ q. log_at q o) (λ q. entry_at q logs) (λ q. entry_at q logs') (is_at (nat_cmp id)) id log
          (λ q e. same_number id q (tied (nat_cmp id q) e)) puts of.logs is;
    }
