use Rattle.std.proofs.Common.{◌≡◌, ◌++◌, take}
use Rattle.slate_rows.specs.Recency.{batch_entries}
use Rattle.slate_rows.proofs.recency_scans.add_entries.Given as goal

abbrev pub invariant-loop-key_op : goal.invariant-loop-key_op
invariant-loop-key_op l = l.entries.items ≡ l.initial.entries.items ++ batch_entries l.prefix (record l.batch { ops = take l.key_op-index l.batch.ops })
