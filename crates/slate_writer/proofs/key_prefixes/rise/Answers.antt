use Rattle.std.proofs.Common.{arith}
use Rattle.slate_writer.proofs.Orders.{rising-adjacent}
use Rattle.slate_writer.proofs.key_prefixes.rise.Goals as goal

pub returns : goal.returns
returns c = λ _. rising-adjacent c.args.prefixes.now (λ k d within. c.loop-i.invariant k d (omega arith))
