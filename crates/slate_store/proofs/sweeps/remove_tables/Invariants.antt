use Rattle.std.proofs.Common.{◌≡◌, ◌+◌, ◌≤◌}
use Rattle.slate_types.specs.Modelled.{WhereModelled}
use Rattle.slate_store.specs.Objects.{RemoveTable}
use Rattle.slate_store.proofs.Making.{SoFar}
use Rattle.slate_store.proofs.sweeps.remove_tables.Given as goal

abbrev pub invariant-loop-id : goal.invariant-loop-id
invariant-loop-id g l =
    record {
      removed : WhereModelled (SoFar (λ id. RemoveTable id) l.ids l.id-index) (g.S.Store.objects l.fn.store) (g.S.Store.objects l.store);
      faults : g.S.Store.faults l.store ≡ g.S.Store.faults l.fn.store;
      calls : g.S.Store.calls l.store ≤ g.S.Store.calls l.fn.store + l.id-index;
    }
