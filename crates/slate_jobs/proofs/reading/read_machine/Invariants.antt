use Rattle.std.proofs.Common.{◌≡◌, drop}
use Rattle.slate_jobs.specs.Decoding.{machine_at, with_rows}
use Rattle.slate_jobs.proofs.reading.read_machine.Given as goal

abbrev pub invariant-loop-row : goal.invariant-loop-row
invariant-loop-row l = with_rows (record { jobs = l.jobs.items; replies = l.replies.entries }) (drop l.row-index l.rows) ≡ machine_at l.rows
