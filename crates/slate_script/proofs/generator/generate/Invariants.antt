-- so many puts were made, each with what follows it
use Rattle.std.proofs.Common.{◌≡◌, ◌++◌}
use Rattle.slate_script.specs.Generator.{openings, turns}
use Rattle.slate_script.proofs.generator.generate.Given as goal

abbrev pub invariant-loop-number : goal.invariant-loop-number
invariant-loop-number l = l.commands.items ≡ openings ++ turns l.seed l.number
