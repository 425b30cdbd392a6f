use Rattle.std.proofs.Common.{◌≡◌, arith}
use Rattle.slate_seqtrack.proofs.Binary.{last-byte, no-padding}
use Rattle.slate_seqtrack.proofs.bits.BitWriter.finish.Goals as goal
use Rattle.slate_seqtrack.proofs.bits.BitWriter.finish.Goals.{then-self-gt0+in_ok-push, else-self-gt0}

pub returns : goal.returns
returns c = elim c.if-self-gt0.branch [
  | then-self-gt0+in_ok-push w ↦
      rw (w.bytes-is, w.in_ok-push.ensures.items, ← c.self.view_is)
      (last-byte c.self.inside.bytes.items c.self.inside.count c.self.inside.pending w.if-self-gt0.true c.self.invariant)
  | else-self-gt0 w ↦
      let none : c.self.inside.count ≡ 0 = omega arith in
      rw (w.bytes-is, ← c.self.view_is, none) (no-padding c.self.inside.bytes.items c.self.inside.pending)
]
