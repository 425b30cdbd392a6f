use Rattle.std.proofs.Common.{◌≡◌, ◌-◌, ◌<◌, ◌≤◌, ◌++◌, length, vec_len}
use Rattle.slate_types.specs.Modelled.{WhereModelled}
use Rattle.slate_streams.proofs.whole.read_whole.Given as goal

abbrev pub invariant-loop-count : goal.invariant-loop-count
invariant-loop-count g l = record {
  room : 0 < length l.room;
  limit : vec_len l.bytes ≤ l.fn.limit;
  faults : g.I.Source.faults l.fn.source ≤ g.I.Source.faults l.source;
  where_modelled : WhereModelled (λ left left'. left ≡ l.bytes.items ++ left') (g.I.Source.left l.fn.source) (g.I.Source.left l.source);
}

abbrev pub decreases-loop-count : goal.decreases-loop-count
decreases-loop-count g l = l.fn.limit - vec_len l.bytes
