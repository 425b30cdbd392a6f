-- the fields so far and those of the rest are those of the line
use Rattle.std.proofs.Common.{◌≡◌, ◌++◌, length, map}
use Rattle.slate_script.specs.Lines.{fields_of}
use Rattle.slate_script.proofs.fields.script_fields.Given as goal

abbrev pub invariant-loop-space : goal.invariant-loop-space
invariant-loop-space l = map (λ field. field.now) l.fields.items ++ fields_of l.rest ≡ fields_of l.line

abbrev pub decreases-loop-space : goal.decreases-loop-space
decreases-loop-space l = length l.rest
