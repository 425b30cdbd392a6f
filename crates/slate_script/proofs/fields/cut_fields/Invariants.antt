-- the fields so far and those of the rest are those of the line
use Rattle.std.proofs.Common.{◌≡◌, ◌++◌, length}
use Rattle.slate_script.specs.Lines.{fields_of}
use Rattle.slate_script.proofs.fields.cut_fields.Given as goal

abbrev pub invariant-loop-space : goal.invariant-loop-space
invariant-loop-space l = l.fields.items ++ fields_of l.rest ≡ fields_of l.fn.line

abbrev pub decreases-loop-space : goal.decreases-loop-space
decreases-loop-space l = length l.rest
