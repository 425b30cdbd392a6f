use Rattle.std.proofs.Common.{ap}
use Rattle.slate_store.specs.Objects.{RemoveTable}
use Rattle.slate_store.proofs.Faults.{lost_removal}
use Rattle.slate_store.proofs.faulty_store.FaultyStoreStore.remove_table.Goals as goal

pub returns-then-eq-clause-removed : goal.returns-then-eq-clause-removed
returns-then-eq-clause-removed g c = lost_removal (RemoveTable c.args.id) _ _ (ap (λ s. g.S.Store.objects s.inner) c.fate-fate.ensures.counted)
