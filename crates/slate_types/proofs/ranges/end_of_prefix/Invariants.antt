use Rattle.std.proofs.Common.{◌≡◌, vec_len}
use Rattle.slate_types.specs.Range.{end_of_prefix}
use Rattle.slate_types.proofs.ranges.end_of_prefix.Given as goal

abbrev pub invariant-loop-last : goal.invariant-loop-last
invariant-loop-last l = end_of_prefix l.end.items ≡ end_of_prefix l.prefix

abbrev pub decreases-loop-last : goal.decreases-loop-last
decreases-loop-last l = vec_len l.end
