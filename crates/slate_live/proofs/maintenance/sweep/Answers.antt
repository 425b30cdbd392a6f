use Rattle.std.proofs.Common.{Ok, Err, refl, subst, w64, ◌+◌, ◌≤◌}
use Rattle.std.proofs.lemmas.Int.{to_z-of_z}
use Rattle.std.specs.Option.{IfSome}
use Rattle.slate_store.specs.Sweeps.{sweep_calls}
use Rattle.slate_live.proofs.Doing.{sweeps}
use Rattle.slate_live.proofs.maintenance.sweep.Goals as goal

pub returns-in-Ok-clause-does : goal.returns-in-Ok-clause-does
returns-in-Ok-clause-does g c =
    sweeps c.args.moment _ (to_z-of_z w64 _ c.ranges.moment) _ _ _ _ (Ok c.in-Ok._removed) _ c.in-Ok.ensures.sweeps c.in-Ok.ensures.faults refl

pub returns-in-Err-clause-does : goal.returns-in-Err-clause-does
returns-in-Err-clause-does g c =
    sweeps c.args.moment _ (to_z-of_z w64 _ c.ranges.moment) _ _ _ _ (Err c.in-Err.error) _ c.in-Err.ensures.sweeps c.in-Err.ensures.faults (rw (← c.error_of_refusal.ensures) c.refusal.ensures)

pub returns-in-Err-clause-calls : goal.returns-in-Err-clause-calls
returns-in-Err-clause-calls g c =
    subst (λ m. IfSome (g.S.Store.objects c.args.store.now) (λ o. g.S.Store.calls c.sweep.new.store ≤ g.S.Store.calls c.args.store.now + sweep_calls m o)) (to_z-of_z w64 _ c.ranges.moment) c.in-Err.ensures.calls
