use Rattle.std.proofs.Common.{sym}
use Rattle.slate_writer.proofs.Tracking.{fits-few}
use Rattle.slate_writer.proofs.times.fits_tables.Goals as goal

pub returns-then-numbers-le-MOST_PAIRS : goal.returns-then-numbers-le-MOST_PAIRS
returns-then-numbers-le-MOST_PAIRS c = fits-few c.args.number c.in-Some.last.now c.args.tracker.now c.numbers-numbers.result.now c.numbers-numbers.ensures (sym c.in-Some.ensures.value) c.if-numbers-le-MOST_PAIRS.true
