use Rattle.std.proofs.Common.{◌≡◌, ◌-◌}
use Rattle.slate_objects.specs.Reading.{many_at}
use Rattle.slate_objects.proofs.Many.{with_front}
use Rattle.slate_objects.proofs.formats.read_many.Given as goal

abbrev pub invariant-loop : goal.invariant-loop
invariant-loop g l = with_front l.values.items (many_at g.T.Format.read_at (l.count - l.counter) l.bytes) ≡ many_at g.T.Format.read_at l.count l.fn.bytes
