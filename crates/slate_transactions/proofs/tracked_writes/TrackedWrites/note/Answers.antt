use Rattle.std.proofs.Common.{◌∙◌, ap, sym}
use Rattle.slate_types.specs.declared.batches.KeyOp.{KeyOp}
use Rattle.slate_transactions.specs.Writes.{Tracking, is_among}
use Rattle.slate_transactions.proofs.Tracking.{noted-more, passed-more}
use Rattle.slate_transactions.proofs.tracked_writes.TrackedWrites.note.Goals as goal
use Rattle.slate_transactions.proofs.tracked_writes.TrackedWrites.note.Goals.{then-not-contains, else-not-contains}

pub loop-key_op-preserved : goal.loop-key_op-preserved
loop-key_op-preserved c =
    let i = c.loop-key_op.invariant in
    elim c.if-not-contains.branch [
      | then-not-contains w ↦ record {
        writes = noted-more c.args.number c.args.unmarked.now c.args.ops.now c.loop-key_op.key_op-index c.key_op-item.result _ c.loop-key_op.self.writes _ c.loop-key_op-test.true c.key_op-item.is
            (sym c.contains.ensures ∙ w.if-not-contains.true) i.writes (ap (λ (t : Tracking). t.writes) w.self-is ∙ w.note_key.ensures.writes);
        room = ap (λ (t : Tracking). t.room) w.self-is ∙ w.note_key.ensures.room ∙ i.room;
      }
      | else-not-contains w ↦ record {
        writes = passed-more c.args.number c.args.unmarked.now c.args.ops.now c.loop-key_op.key_op-index c.key_op-item.result _ c.loop-key_op.self.writes _ c.loop-key_op-test.true c.key_op-item.is
            (sym c.contains.ensures ∙ w.if-not-contains.false) i.writes (ap (λ (t : Tracking). t.writes) w.self-is);
        room = ap (λ (t : Tracking). t.room) w.self-is ∙ i.room;
      }
    ]

pub note_key-requires-clause-room : goal.note_key-requires-clause-room
note_key-requires-clause-room c =
    ap (λ room. is_among room c.key_op-item.result.key) c.loop-key_op.invariant.room
    ∙ ap (λ (o : KeyOp). is_among c.args.self.now.room o.key) c.key_op-item.is
    ∙ c.requires.room c.loop-key_op.key_op-index c.key_op-item.result c.loop-key_op-test.true
