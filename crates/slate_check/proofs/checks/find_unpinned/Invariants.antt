use Rattle.std.proofs.Common.{◌≡◌, ◌≤◌, Some, take}
use Rattle.std.specs.List.{All}
use Rattle.slate_store.specs.Content.{IsPinned}
use Rattle.slate_store.specs.Objects.{Objects}
use Rattle.slate_check.specs.Named.{line_of}
use Rattle.slate_check.specs.Reads.{AreOf}
use Rattle.slate_check.specs.Steps.{HasContent}
use Rattle.slate_check.proofs.checks.find_unpinned.Given as goal

abbrev pub invariant-loop-checkpoint : goal.invariant-loop-checkpoint
invariant-loop-checkpoint g l = record {
  kept : g.S.Store.objects l.store ≡ g.S.Store.objects l.fn.store;
  faults : g.S.Store.faults l.fn.store ≤ g.S.Store.faults l.store;
  of : (o : Objects) → g.S.Store.objects l.fn.store ≡ Some o → AreOf o l.initial.cache.tables.entries l.initial.cache.logs.entries → AreOf o l.cache.tables.entries l.cache.logs.entries;
  pinned : (o : Objects) → g.S.Store.objects l.fn.store ≡ Some o → AreOf o l.initial.cache.tables.entries l.initial.cache.logs.entries → HasContent o l.latest (line_of l.line.floor l.line.batches.items)
      → All (IsPinned o l.latest) (take l.checkpoint-index l.checkpoint-items);
}
