use Rattle.std.proofs.Common.{◌≡◌, ◌++◌, take}
use Rattle.slate_readers.specs.Session.{readers_text}
use Rattle.slate_readers.proofs.printing.print_readers.Given as goal

-- the lines of the readers so far were written
abbrev pub invariant-loop-place : goal.invariant-loop-place
invariant-loop-place l = l.out.items ≡ l.fn.out.items ++ readers_text 0 (take l.place l.readers)
