use Rattle.std.proofs.Common.{take}
use Rattle.slate_jobs.specs.Decoding.{AreOfBytes}
use Rattle.slate_jobs.proofs.reading.note_rows.Given as goal

abbrev pub invariant-loop-row : goal.invariant-loop-row
invariant-loop-row l = AreOfBytes (take l.row-index l.rows)
