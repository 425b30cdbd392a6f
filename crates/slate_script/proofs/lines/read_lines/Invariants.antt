-- the commands so far and those of the rest are those of the script
use Rattle.std.proofs.Common.{◌≡◌, ◌+◌, ◌≤◌, length}
use Rattle.slate_script.specs.Lines.{lines_of, with_commands, commands_from, script_by}
use Rattle.slate_script.proofs.lines.read_lines.Given as goal

abbrev pub invariant-loop-alloc : goal.invariant-loop-alloc
invariant-loop-alloc g l = record {
  commands : with_commands l.commands.items (commands_from g.C.FromFields.spelled (l.number + 1) (lines_of l.rest)) ≡ script_by g.C.FromFields.spelled l.bytes;
  lines : l.number + length l.rest ≤ length l.bytes;
}

abbrev pub decreases-loop-alloc : goal.decreases-loop-alloc
decreases-loop-alloc g l = length l.rest
