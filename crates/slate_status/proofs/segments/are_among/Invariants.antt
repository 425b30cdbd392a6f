use Rattle.std.proofs.Common.{All, Contains, take}
use Rattle.slate_status.proofs.segments.are_among.Given as goal

abbrev pub invariant-loop-prefix : goal.invariant-loop-prefix
invariant-loop-prefix l = All (Contains l.present) (take l.prefix-index l.prefixes)
