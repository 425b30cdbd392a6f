use Rattle.std.proofs.Common.{append_assoc}
use Rattle.slate_script.proofs.printing.write_backpressure.Goals as goal

pub returns-clause-ok : goal.returns-clause-ok
returns-clause-ok c = rw (c.in_ok-write_labelled-2.ensures.ok, c.in_ok-write_labelled.ensures.ok) (simp append_assoc)
