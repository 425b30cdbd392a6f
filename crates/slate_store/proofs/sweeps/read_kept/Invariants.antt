use Rattle.std.proofs.Common.{◌≡◌, ◌+◌, ◌≤◌, take}
use Rattle.std.specs.Option.{IfSome}
use Rattle.slate_store.specs.Steps.{kept_by}
use Rattle.slate_store.proofs.sweeps.read_kept.Given as goal

abbrev pub invariant-loop-checkpoint : goal.invariant-loop-checkpoint
invariant-loop-checkpoint g l =
    record {
      kept : g.S.Store.objects l.store ≡ g.S.Store.objects l.fn.store;
      faults : g.S.Store.faults l.store ≡ g.S.Store.faults l.fn.store;
      calls : g.S.Store.calls l.store ≤ g.S.Store.calls l.fn.store + l.checkpoint-index;
      read : IfSome (g.S.Store.objects l.fn.store) (λ o. l.kept.items ≡ kept_by o (take l.checkpoint-index l.checkpoints));
    }
