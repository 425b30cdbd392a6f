use Rattle.std.proofs.Common.{◌≡◌, ◌+◌, ◌≤◌, take}
use Rattle.std.specs.Option.{IfSome}
use Rattle.slate_store.specs.Content.{AreStored, table_batches}
use Rattle.slate_store.proofs.compactions.join_tables.Given as goal

abbrev pub invariant-loop-id : goal.invariant-loop-id
invariant-loop-id g l =
    record {
      kept : g.S.Store.objects l.store ≡ g.S.Store.objects l.fn.store;
      faults : g.S.Store.faults l.store ≡ g.S.Store.faults l.fn.store;
      calls : g.S.Store.calls l.store ≤ g.S.Store.calls l.fn.store + l.id-index;
      stored : IfSome (g.S.Store.objects l.fn.store) (λ o. AreStored o (take l.id-index l.fn.ids));
      joined : IfSome (g.S.Store.objects l.fn.store) (λ o. l.joined ≡ table_batches o (take l.id-index l.fn.ids));
    }
