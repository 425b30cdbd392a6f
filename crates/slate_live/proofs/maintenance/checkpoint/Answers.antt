use Rattle.std.proofs.Common.{Ok, Err, refl, w64}
use Rattle.std.proofs.lemmas.Int.{to_z-of_z}
use Rattle.slate_live.proofs.Doing.{commits}
use Rattle.slate_live.proofs.maintenance.checkpoint.Goals as goal

pub returns-in-Ok-clause-does : goal.returns-in-Ok-clause-does
returns-in-Ok-clause-does g c =
    commits c.args.lifetime c.args.moment _ (to_z-of_z w64 _ c.ranges.moment) _ _ _ _ _ _ (Ok c.in-Ok.checkpoint) _ c.in-Ok.ensures.follows c.in-Ok.ensures.faults c.in-Ok.ensures.tries refl

pub returns-in-Err-clause-does : goal.returns-in-Err-clause-does
returns-in-Err-clause-does g c =
    commits c.args.lifetime c.args.moment _ (to_z-of_z w64 _ c.ranges.moment) _ _ _ _ _ _ (Err c.in-Err.error) _ c.in-Err.ensures.follows c.in-Err.ensures.faults c.in-Err.ensures.tries (rw (← c.error_of_refusal.ensures) c.refusal.ensures)

pub returns-in-Err-clause-calls : goal.returns-in-Err-clause-calls
returns-in-Err-clause-calls g c = c.in-Err.ensures.tries.most
