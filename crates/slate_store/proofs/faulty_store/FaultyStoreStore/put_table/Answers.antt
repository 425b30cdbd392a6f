use Rattle.std.proofs.Common.{ap}
use Rattle.slate_store.specs.Objects.{PutTable}
use Rattle.slate_store.proofs.Faults.{lost_put}
use Rattle.slate_store.proofs.faulty_store.FaultyStoreStore.put_table.Goals as goal

pub returns-then-eq-clause-put : goal.returns-then-eq-clause-put
returns-then-eq-clause-put g c = lost_put (PutTable c.args.id c.args.table.now) _ _ (ap (λ s. g.S.Store.objects s.inner) c.fate-fate.ensures.counted)
