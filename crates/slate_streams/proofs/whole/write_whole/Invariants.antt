use Rattle.std.proofs.Common.{◌≡◌, ◌-◌, ◌≤◌, ◌++◌, length, take}
use Rattle.slate_types.specs.Modelled.{WhereModelled}
use Rattle.slate_streams.proofs.whole.write_whole.Given as goal

abbrev pub invariant-loop-count : goal.invariant-loop-count
invariant-loop-count g l = record {
  within : l.count ≤ length l.text;
  faults : g.O.Sink.faults l.fn.sink ≤ g.O.Sink.faults l.sink;
  where_modelled : WhereModelled (λ old new. new ≡ old ++ take l.count l.text) (g.O.Sink.written l.fn.sink) (g.O.Sink.written l.sink);
}

abbrev pub decreases-loop-count : goal.decreases-loop-count
decreases-loop-count g l = length l.text - l.count
