use Rattle.std.proofs.Common.{◌+◌, sym, ◌∙◌, arith}
use Rattle.slate_script.specs.Lines.{lines_of}
use Rattle.slate_script.proofs.ScriptLemmas.{command_taken}
use Rattle.slate_script.proofs.lines.read_lines.Goals as goal

pub loop-alloc-preserved : goal.loop-alloc-preserved
loop-alloc-preserved g c = record {
  commands = command_taken g.C.FromFields.spelled c.loop-alloc.commands.items c.push.new.self.items (c.loop-alloc.number + 1) c.in_ok-line.line (lines_of c.loop-alloc.rest) (lines_of c.take_line.new.rest) c.in-Command.command _ c.in_ok-line.ensures.line (sym c.in_ok-read_line_of.ensures.line ∙ c.in-Command.is) c.in_ok-push-in-Command.ensures.items c.loop-alloc.invariant.commands;
  lines = omega (arith, c.in_ok-line.ensures.shorter, c.loop-alloc.invariant.lines);
}
