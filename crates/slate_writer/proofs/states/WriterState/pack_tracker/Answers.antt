use Rattle.slate_writer.proofs.Tracking.{ends-packed}
use Rattle.slate_writer.proofs.states.WriterState.pack_tracker.Goals as goal

pub invariant_of-self : goal.invariant_of-self
invariant_of-self c =
    let k = c.self.invariant in
    record {
      numbered = k.numbered;
      fits = k.fits;
      durable = k.durable;
      tracked = rw c.pack.ensures.packed (ends-packed _ c.self.inside.tracker k.tracked);
      rising = k.rising;
      stored = k.stored;
      seated = k.seated;
      told = k.told;
      counted = k.counted;
    }
