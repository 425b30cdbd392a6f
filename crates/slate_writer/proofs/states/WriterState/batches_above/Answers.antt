use Rattle.std.proofs.Common.{rules}
use Rattle.slate_writer.proofs.Memory.{slice-above, slice-rising}
use Rattle.slate_writer.proofs.states.WriterState.batches_above.Goals as goal

pub returns-clause-value : goal.returns-clause-value
returns-clause-value c =
    let memory = c.batches-batches.ensures.value in
    rw (slice-above c.self.inside.floor c.args.number c.min-start.result c.self.inside.memory c.batches-batches.result.now c.self.invariant.numbered memory (search rules)) (search rules)

pub returns-clause-rising : goal.returns-clause-rising
returns-clause-rising c =
    let memory = c.batches-batches.ensures.value in
    slice-rising c.self.inside.floor c.args.number c.min-start.result c.self.inside.memory c.batches-batches.result.now c.self.invariant.numbered memory (search rules)
