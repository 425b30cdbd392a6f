use Rattle.std.proofs.Common.{ap, ◌∙◌}
use Rattle.std.specs.Ordering.{nat_cmp}
use Rattle.std.specs.BTreeMap.{is_at}
use Rattle.slate_types.proofs.Modelled.{modelled_some}
use Rattle.slate_store.specs.Objects.{RemoveLog, changed}
use Rattle.slate_store.proofs.Removals.{removed-without}
use Rattle.slate_store.proofs.memory_store.MemoryStoreStore.remove_log.Goals as goal

pub returns-clause-removed : goal.returns-clause-removed
returns-clause-removed c =
    let removed = removed-without (is_at (nat_cmp c.args.id)) c.count_call.new.self.logs.entries c.remove.new.self.entries c.remove.ensures.entries c.remove.ensures.updates.1 in
    modelled_some _ _ _
    (ap (λ entries. record { manifests = c.count_call.new.self.manifests.entries; logs = entries; tables = c.count_call.new.self.tables.entries }) removed
    ∙ ap (λ s. changed (RemoveLog c.args.id) (record { manifests = s.manifests.entries; logs = s.logs.entries; tables = s.tables.entries })) c.count_call.ensures)
