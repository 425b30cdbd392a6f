use Rattle.std.proofs.Common.{◌≡◌, ◌+◌, ◌*◌, ◌<◌, ◌≤◌}
use Rattle.std.specs.Option.{IfSome}
use Rattle.slate_store.specs.Refusals.{checkpoint_changes}
use Rattle.slate_errors.specs.declared.errors.SlateError.TheVariants.{TransactionalObjectTimeout}
use Rattle.slate_model.specs.Lease.{to_keep}
use Rattle.slate_model.specs.Managed.{PlanCause}
use Rattle.slate_model.specs.Open.{replayed_logs}
use Rattle.slate_model.specs.Stores.{Stands}
use Rattle.slate_follow.specs.Lagging.{readings}
use Rattle.slate_follow.proofs.states.FollowerState.keep_lease.Given as goal

abbrev pub invariant-loop-earlier : goal.invariant-loop-earlier
invariant-loop-earlier g l =
    record {
      same : l.self ≡ l.fn.self;
      kept : g.S.Store.objects l.store ≡ g.S.Store.objects l.fn.store;
      faults : g.S.Store.faults l.store ≡ g.S.Store.faults l.fn.store;
      calls : IfSome (g.S.Store.objects l.fn.store) (λ o. g.S.Store.calls l.store ≤ g.S.Store.calls l.fn.store + l.earlier * (readings l.fn.self.lag (replayed_logs o) + 3));
      within : l.earlier ≤ 8;
      met : 0 < l.earlier → IfSome (g.S.Store.objects l.fn.store) (λ o. PlanCause (Stands (checkpoint_changes (to_keep l.fn.self.view l.fn.lease l.fn.moment) o) o) (to_keep l.fn.self.view l.fn.lease l.fn.moment) o (TransactionalObjectTimeout 8));
    }
