use Rattle.std.proofs.Common.{◌≡◌, ◌≤◌, ◌++◌, Some, take}
use Rattle.slate_store.specs.Objects.{Objects}
use Rattle.slate_check.specs.Shown.{stored_text}
use Rattle.slate_check.proofs.shown.show_tables.Given as goal

abbrev pub invariant-loop-id : goal.invariant-loop-id
invariant-loop-id g l = record {
  kept : g.S.Store.objects l.store ≡ g.S.Store.objects l.fn.store;
  faults : g.S.Store.faults l.fn.store ≤ g.S.Store.faults l.store;
  shown : (o : Objects) → g.S.Store.objects l.fn.store ≡ Some o → l.out.items ≡ l.fn.out.items ++ stored_text o (take l.id-index l.ids);
}
