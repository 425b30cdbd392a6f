use Rattle.std.proofs.Common.{arith, ap, sym, ◌∙◌, Some}
use Rattle.slate_jobs.specs.declared.turns.Turn.TheVariants.{Now}
use Rattle.slate_jobs.proofs.Turning.{pair-one, pair-two}
use Rattle.slate_jobs.proofs.turns.pair_at.Goals as goal

pub returns-then-first-turns : goal.returns-then-first-turns
returns-then-first-turns c = pair-two c.args.turns.now c.args.pair Now (omega arith) ∙ ap Some (sym c.earlier.ensures)

pub returns-else-first-turns : goal.returns-else-first-turns
returns-else-first-turns c = pair-one c.args.turns.now c.args.pair Now c.requires (omega arith)
