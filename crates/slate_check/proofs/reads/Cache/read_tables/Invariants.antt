use Rattle.std.proofs.Common.{◌≡◌, ◌≤◌, Some, take}
use Rattle.std.specs.List.{All, flat_map}
use Rattle.slate_store.specs.Content.{StoresTable, table_batches}
use Rattle.slate_store.specs.Objects.{Objects}
use Rattle.slate_check.specs.Reads.{AreOf}
use Rattle.slate_check.proofs.reads.Cache.read_tables.Given as goal

abbrev pub invariant-loop-id : goal.invariant-loop-id
invariant-loop-id g l = record {
  kept : g.S.Store.objects l.store ≡ g.S.Store.objects l.fn.store;
  faults : g.S.Store.faults l.fn.store ≤ g.S.Store.faults l.store;
  of : (o : Objects) → g.S.Store.objects l.fn.store ≡ Some o → AreOf o l.initial.self.tables.entries l.initial.self.logs.entries → AreOf o l.self.tables.entries l.self.logs.entries;
  stored : (o : Objects) → g.S.Store.objects l.fn.store ≡ Some o → AreOf o l.initial.self.tables.entries l.initial.self.logs.entries → All (StoresTable o) (take l.id-index l.ids);
  joined : (o : Objects) → g.S.Store.objects l.fn.store ≡ Some o → AreOf o l.initial.self.tables.entries l.initial.self.logs.entries → flat_map (λ table. table) l.tables.items ≡ table_batches o (take l.id-index l.ids);
}
