use Rattle.std.proofs.Common.{◌≡◌, ◌+◌, ◌*◌, ◌<◌, ◌≤◌, Option, None, true}
use Rattle.std.specs.Option.{IfSome, option_copied}
use Rattle.slate_store.specs.Refusals.{checkpoint_changes}
use Rattle.slate_errors.specs.declared.errors.SlateError.TheVariants.{TransactionalObjectTimeout}
use Rattle.slate_model.specs.Followed.{RefusesLatest}
use Rattle.slate_model.specs.Lease.{to_take}
use Rattle.slate_model.specs.Managed.{PlanCause}
use Rattle.slate_model.specs.Segments.{Extractor, IsExtractor}
use Rattle.slate_model.specs.Stores.{Stands}
use Rattle.slate_follow.proofs.leases.take_lease.Given as goal

abbrev pub invariant-loop-earlier : goal.invariant-loop-earlier
invariant-loop-earlier g l =
    record {
      kept : g.S.Store.objects l.store ≡ g.S.Store.objects l.fn.store;
      faults : g.S.Store.faults l.store ≡ g.S.Store.faults l.fn.store;
      most : g.S.Store.calls l.store ≤ g.S.Store.calls l.fn.store + 2 * l.earlier;
      within : l.earlier ≤ 8;
      fits : 0 < l.earlier → (x : Option Extractor) → IsExtractor g.E.PrefixExtractor.may_name g.E.PrefixExtractor.may_extract (option_copied l.fn.extractor) x → IfSome (g.S.Store.objects l.fn.store) (λ o. RefusesLatest x true o None);
      met : 0 < l.earlier → IfSome (g.S.Store.objects l.fn.store) (λ o. PlanCause (Stands (checkpoint_changes (to_take l.fn.lifetime l.fn.moment) o) o) (to_take l.fn.lifetime l.fn.moment) o (TransactionalObjectTimeout 8));
    }
