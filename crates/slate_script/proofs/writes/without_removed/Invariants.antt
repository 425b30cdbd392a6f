-- those of the rest that stay, and then those that were kept, last one first
use Rattle.std.proofs.Common.{◌≡◌, ◌++◌, reverse, vec_len}
use Rattle.std.specs.HashSet.{contains}
use Rattle.std.specs.Str.{bytes_eq}
use Rattle.slate_script.specs.Writes.{written}
use Rattle.slate_script.proofs.BatchLemmas.{staying}
use Rattle.slate_script.proofs.writes.without_removed.Given as goal

abbrev pub invariant-loop-key_op : goal.invariant-loop-key_op
invariant-loop-key_op l = staying (contains bytes_eq l.removed) (written l.ops.items) ++ reverse l.kept.items ≡ written l.fn.ops.items

abbrev pub decreases-loop-key_op : goal.decreases-loop-key_op
decreases-loop-key_op l = vec_len l.ops
