use Rattle.std.proofs.Common.{◌≡◌, ◌++◌, map}
use Rattle.std.specs.Map.Iter.{deref_pair}
use Rattle.slate_rows.specs.Walked.{key_list}
use Rattle.slate_transactions.proofs.own_writes.OwnWrites.add_own_keys.Given as goal

abbrev pub invariant-loop-key : goal.invariant-loop-key
invariant-loop-key l = key_list l.keys.items ≡ key_list l.initial.keys.items ++ map (λ e. e.0) (map deref_pair l.yielded)
