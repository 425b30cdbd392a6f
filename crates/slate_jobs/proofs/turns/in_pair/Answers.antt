use Rattle.std.proofs.lemmas.Int.{to_z-of_z}
use Rattle.std.specs.Int.{w64}
use Rattle.slate_jobs.specs.declared.turns.Turn.TheVariants.{Now}
use Rattle.slate_jobs.proofs.Turning.{in-pair-first, in-pair-second}
use Rattle.slate_jobs.proofs.turns.in_pair.Goals as goal

pub returns-then-has_come : goal.returns-then-has_come
returns-then-has_come c = in-pair-first c.args.moment c.args.turns.now c.args.pair Now c.requires (rw (to_z-of_z w64 c.args.moment c.ranges.moment) at c.if-has_come.ensures)

pub returns-else-has_come : goal.returns-else-has_come
returns-else-has_come c = in-pair-second c.args.moment c.args.turns.now c.args.pair Now c.requires (rw (to_z-of_z w64 c.args.moment c.ranges.moment) at c.if-has_come.ensures)
