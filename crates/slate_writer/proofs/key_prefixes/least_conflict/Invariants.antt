use Rattle.std.proofs.Common.{take}
use Rattle.std.specs.Option.{option_copied}
use Rattle.slate_writer.specs.Segments.{IsConflict}
use Rattle.slate_writer.proofs.key_prefixes.least_conflict.Given as goal

abbrev pub invariant-loop-other : goal.invariant-loop-other
invariant-loop-other l = IsConflict (take l.other-index l.known) l.prefix (option_copied l.least)
