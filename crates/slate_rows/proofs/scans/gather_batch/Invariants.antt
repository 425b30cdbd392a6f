use Rattle.std.proofs.Common.{ℕ, List, ◌++◌, take}
use Rattle.slate_rows.specs.Gathered.{AreGathered}
use Rattle.slate_reads.specs.Read.{Version, versions_in}
use Rattle.slate_rows.proofs.scans.gather_batch.Given as goal

abbrev pub invariant-loop-key_op : goal.invariant-loop-key_op
invariant-loop-key_op l =
    (versions : List ℕ → List Version) → AreGathered versions l.range l.initial.held.items →
    AreGathered (λ key. versions key ++ versions_in key (record l.batch { ops = take l.key_op-index l.batch.ops })) l.range l.held.items
