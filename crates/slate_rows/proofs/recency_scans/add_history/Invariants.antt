use Rattle.std.proofs.Common.{◌≡◌, ◌++◌, map, take}
use Rattle.slate_rows.specs.Recency.{entry_of}
use Rattle.slate_rows.proofs.recency_scans.add_history.Given as goal

abbrev pub invariant-loop-version : goal.invariant-loop-version
invariant-loop-version l = l.entries.items ≡ l.initial.entries.items ++ map (λ h. entry_of h.batch.now h.key_op.now) (take l.version-index l.version-items)
