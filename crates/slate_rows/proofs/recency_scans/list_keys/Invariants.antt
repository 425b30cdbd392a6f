use Rattle.std.proofs.Common.{◌≡◌, take}
use Rattle.slate_rows.specs.Recency.{listed}
use Rattle.slate_rows.specs.Walked.{key_list}
use Rattle.slate_rows.proofs.recency_scans.list_keys.Given as goal

abbrev pub invariant-loop-key : goal.invariant-loop-key
invariant-loop-key l = l.entries.items ≡ listed l.bound l.prefix l.table (key_list (take l.key-index l.keys))
