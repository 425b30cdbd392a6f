use Rattle.std.proofs.Common.{◌≡◌, ◌+◌, ◌++◌, take, arith}
use Rattle.slate_types.proofs.Modelled.{modelled_then}
use Rattle.slate_streams.proofs.Fronts.{more_written}
use Rattle.slate_streams.proofs.whole.write_whole.Goals as goal

pub loop-count-preserved : goal.loop-count-preserved
loop-count-preserved g c = record {
  within = omega (arith, c.in-Took.ensures.takes);
  faults = omega (arith, c.write.ensures.faults);
  where_modelled =
      modelled_then (λ old new. new ≡ old ++ take (c.loop-count.count + c.in-Took.more) c.args.text.now) c.loop-count.invariant.where_modelled c.in-Took.ensures.where_modelled
      (λ old written new e h. more_written c.loop-count.count c.in-Took.more c.args.text.now old written new e h);
}
