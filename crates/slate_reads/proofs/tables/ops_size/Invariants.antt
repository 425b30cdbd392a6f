use Rattle.std.proofs.Common.{◌≡◌, ◌*◌, ◌^◌, ◌≤◌, take}
use Rattle.slate_reads.specs.Size.{ops_size}
use Rattle.slate_reads.proofs.tables.ops_size.Given as goal

abbrev pub invariant-loop-key_op : goal.invariant-loop-key_op
invariant-loop-key_op l = record {
  sum : l.size ≡ ops_size (take l.key_op-index l.ops);
  bound : l.size ≤ l.key_op-index * 2 ^ 65;
}
