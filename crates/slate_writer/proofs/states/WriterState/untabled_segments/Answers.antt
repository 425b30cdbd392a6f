use Rattle.slate_segments.proofs.Prefixes.{no-rising}
use Rattle.slate_writer.proofs.states.WriterState.untabled_segments.Goals as goal

pub returns-then-not-has_untabled-clause-rising : goal.returns-then-not-has_untabled-clause-rising
returns-then-not-has_untabled-clause-rising c = no-rising
