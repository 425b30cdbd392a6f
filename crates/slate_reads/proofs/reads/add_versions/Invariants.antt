use Rattle.std.proofs.Common.{List, ◌++◌, take}
use Rattle.slate_reads.specs.Tails.{IsTail}
use Rattle.slate_reads.specs.Read.{Version, versions_in}
use Rattle.slate_reads.proofs.reads.add_versions.Given as goal

abbrev pub invariant-loop-key_op : goal.invariant-loop-key_op
invariant-loop-key_op l =
    (history : List Version) → IsTail l.key history l.initial.versions.items →
    IsTail l.key (history ++ versions_in l.key (record l.batch { ops = take l.key_op-index l.batch.ops })) l.versions.items
