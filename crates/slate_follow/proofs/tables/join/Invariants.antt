use Rattle.std.proofs.Common.{◌≡◌, take}
use Rattle.slate_follow.specs.Joined.{joined}
use Rattle.slate_follow.proofs.tables.join.Given as goal

abbrev pub invariant-loop-older : goal.invariant-loop-older
invariant-loop-older l = l.whole ≡ joined (take l.older-index l.tables)
