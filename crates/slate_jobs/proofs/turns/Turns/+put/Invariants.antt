use Rattle.std.proofs.Common.{length}
use Rattle.slate_jobs.proofs.turns.Turns.+put.Given as goal

abbrev pub decreases-put : goal.decreases-put
decreases-put l = length l.self.now
