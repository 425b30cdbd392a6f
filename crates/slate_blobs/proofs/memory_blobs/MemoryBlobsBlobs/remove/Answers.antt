use Rattle.std.proofs.Common.{ap, ◌∙◌}
use Rattle.std.specs.BTreeMap.{is_at}
use Rattle.slate_types.proofs.Modelled.{modelled_some}
use Rattle.slate_store.specs.Objects.{without}
use Rattle.slate_store.proofs.Removals.{removed-without}
use Rattle.slate_blobs.proofs.memory_blobs.MemoryBlobsBlobs.remove.Goals as goal

pub returns-clause-removed : goal.returns-clause-removed
returns-clause-removed g c =
    let test = is_at (g.K.Ord.cmp c.args.id) in
    let removed = removed-without test c.count_call.new.self.blobs.entries c.remove.new.self.entries c.remove.ensures.entries c.remove.ensures.updates.1 in
    modelled_some _ _ _ (removed ∙ ap (λ s. without test s.blobs.entries) c.count_call.ensures)
