use Rattle.std.proofs.Common.{rules, ap, ◌∙◌, sym, ◌≡◌}
use Rattle.slate_types.proofs.Modelled.{modelled_some}
use Rattle.std.specs.BTreeMap.{insert_entry, is_at}
use Rattle.std.specs.Map.{lookup}
use Rattle.std.specs.Option.{is_some}
use Rattle.slate_store.specs.Objects.{PutTable, changed, table_cmp}
use Rattle.slate_store.proofs.memory_store.MemoryStoreStore.put_table.Goals as goal

pub returns-clause-put : goal.returns-clause-put
returns-clause-put c =
    let copied : c.in_ok-table.table ≡ c.args.table.now = search rules in
    let put : c.insert.new.self.entries ≡ insert_entry table_cmp c.count_call.new.self.tables.entries c.args.id c.in_ok-table.table = search rules in
    modelled_some _ _ _ (
      ap (λ s. is_some (lookup (is_at (table_cmp c.args.id)) s.tables.entries)) (sym c.count_call.ensures) ∙ sym c.if-contains_key.ensures,
      ap (λ entries. record { manifests = c.count_call.new.self.manifests.entries; logs = c.count_call.new.self.logs.entries; tables = entries })
          (put ∙ ap (insert_entry table_cmp c.count_call.new.self.tables.entries c.args.id) copied)
          ∙ ap (λ s. changed (PutTable c.args.id c.args.table.now) (record { manifests = s.manifests.entries; logs = s.logs.entries; tables = s.tables.entries })) c.count_call.ensures,
    )
