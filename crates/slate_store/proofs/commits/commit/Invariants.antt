use Rattle.std.proofs.Common.{◌≡◌, ◌+◌, ◌*◌, ◌<◌, ◌≤◌, min}
use Rattle.std.specs.Option.{IfSome}
use Rattle.slate_types.specs.Counts.{count_end, one_more}
use Rattle.slate_store.specs.declared.refusals.StoreRefusal.TheVariants.{TransactionalObjectTimeout}
use Rattle.slate_store.specs.Refusals.{CheckpointCause}
use Rattle.slate_store.proofs.commits.commit.Given as goal

abbrev pub invariant-loop-earlier : goal.invariant-loop-earlier
invariant-loop-earlier g l =
    record {
      kept : g.S.Store.objects l.store ≡ g.S.Store.objects l.fn.store;
      faults : g.S.Store.faults l.store ≡ g.S.Store.faults l.fn.store;
      most : g.S.Store.calls l.store ≤ g.S.Store.calls l.fn.store + 2 * l.earlier;
      counted : one_more (g.S.Store.calls l.store) ≡ min (g.S.Store.calls l.fn.store + 2 * l.earlier + 1) count_end;
      calls : 0 < l.earlier → g.S.Store.calls l.store ≡ min (g.S.Store.calls l.fn.store + 2 * l.earlier) count_end;
      within : l.earlier ≤ 8;
      met : 0 < l.earlier → IfSome (g.S.Store.objects l.fn.store) (λ o. CheckpointCause (g.C.Change.plan l.fn.change) o (TransactionalObjectTimeout 8));
    }
