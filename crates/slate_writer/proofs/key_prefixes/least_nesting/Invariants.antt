use Rattle.slate_writer.proofs.Orders.{AreNone}
use Rattle.slate_writer.proofs.key_prefixes.least_nesting.Given as goal

abbrev pub invariant-loop-n : goal.invariant-loop-n
invariant-loop-n l = AreNone l.known l.prefix l.n
