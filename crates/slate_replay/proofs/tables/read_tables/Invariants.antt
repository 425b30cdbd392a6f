use Rattle.std.proofs.Common.{◌≡◌, ◌+◌, ◌≤◌, Some, length, map, take}
use Rattle.std.specs.Option.{IfSome}
use Rattle.slate_store.specs.Objects.{table_at}
use Rattle.slate_replay.proofs.Reading.{AreRead}
use Rattle.slate_replay.proofs.tables.read_tables.Given as goal

abbrev pub invariant-loop-id : goal.invariant-loop-id
invariant-loop-id g l =
    record {
      kept : g.S.Store.objects l.store ≡ g.S.Store.objects l.fn.store;
      faults : g.S.Store.faults l.store ≡ g.S.Store.faults l.fn.store;
      calls : g.S.Store.calls l.store ≤ g.S.Store.calls l.fn.store + l.id-index;
      untouched : l.id-index ≡ 0 → l.store ≡ l.fn.store;
      count : length l.tables.items ≡ l.id-index;
      tables : IfSome (g.S.Store.objects l.fn.store) (λ o. AreRead o (take l.id-index l.fn.ids) l.tables.items);
      each : IfSome (g.S.Store.objects l.fn.store) (λ o. map Some l.tables.items ≡ map (λ id. table_at id o) (take l.id-index l.fn.ids));
    }
