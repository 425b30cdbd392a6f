use Rattle.std.proofs.Common.{◌≡◌, ◌∙◌}
use Rattle.slate_seqtrack.specs.Bytes.{as_signed}
use Rattle.slate_seqtrack.proofs.Blocks.{AreTrackerBytes-of, both}
use Rattle.slate_seqtrack.proofs.Spelled.{spelled-is}
use Rattle.slate_seqtrack.proofs.bytes.write_lists.Goals as goal

pub returns-clause-written : goal.returns-clause-written
returns-clause-written c =
    let signed : c.deref.result.now ≡ as_signed c.args.numbers.now = c.deref.ensures.value ∙ c.in_ok-signed.ensures in
    let first = rw signed at c.in_ok-first.ensures.written in (
      AreTrackerBytes-of c.args.numbers.now c.args.times.now _ _ _ _ _ _ _ _ c.in_ok-first.first.items c.in_ok-second.second.items c.new-bytes.ensures.items c.in_ok-push.ensures.items
          c.to_le_bytes.ensures c.in_ok-extend_from_slice.ensures.items c.deref-2.ensures.value c.in_ok-extend_from_slice-2.ensures.items c.deref-3.ensures.value c.in_ok-extend_from_slice-3.ensures.items
          first.0 c.in_ok-second.ensures.written.0,
      both first.1 c.in_ok-second.ensures.written.1,
    )

pub returns-clause-spelled : goal.returns-clause-spelled
returns-clause-spelled c =
    let written = returns-clause-written c in
    spelled-is c.args.numbers.now c.args.times.now _ (rw c.deref-4.ensures.value at c.note_bytes.ensures) written.0
