use Rattle.std.proofs.Common.{◌≡◌, ◌≤◌, Some, max}
use Rattle.std.specs.List.{flat_map}
use Rattle.slate_store.specs.Logs.{batches_between}
use Rattle.slate_store.specs.Objects.{Objects}
use Rattle.slate_check.specs.Reads.{AreOf, AreStoredTo}
use Rattle.slate_check.proofs.reads.Cache.read_logs.Given as goal

abbrev pub invariant-loop-before : goal.invariant-loop-before
invariant-loop-before g l = record {
  kept : g.S.Store.objects l.store ≡ g.S.Store.objects l.fn.store;
  faults : g.S.Store.faults l.fn.store ≤ g.S.Store.faults l.store;
  within : l.before ≤ max l.mark l.last;
  of : (o : Objects) → g.S.Store.objects l.fn.store ≡ Some o → AreOf o l.initial.self.tables.entries l.initial.self.logs.entries → AreOf o l.self.tables.entries l.self.logs.entries;
  stored : (o : Objects) → g.S.Store.objects l.fn.store ≡ Some o → AreOf o l.initial.self.tables.entries l.initial.self.logs.entries → AreStoredTo o l.mark l.before;
  joined : (o : Objects) → g.S.Store.objects l.fn.store ≡ Some o → AreOf o l.initial.self.tables.entries l.initial.self.logs.entries → flat_map (λ log. log) l.logs.items ≡ batches_between l.mark l.before o;
}
