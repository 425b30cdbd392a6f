use Rattle.std.proofs.Common.{◌≡◌, None, rules}
use Rattle.std.specs.HashMap.{get}
use Rattle.std.specs.Str.{bytes_eq}
use Rattle.slate_writer.proofs.Merging.{noted-next, refusal-next}
use Rattle.slate_writer.proofs.merges.merge_refusal.Goals as goal

pub loop-key_op-preserved : goal.loop-key_op-preserved
loop-key_op-preserved c =
    let i = c.loop-key_op.invariant in
    let none : c.in_ok-refusal.field-0 ≡ None = search rules in
    let f = get bytes_eq c.loop-key_op.expiries in
    record {
      noted = noted-next f (get bytes_eq c.note_merge.new.expiries) c.args.ops.now c.loop-key_op.key_op-index c.key_op-item.result c.loop-key_op-test.true c.key_op-item.is i.noted (c.in_ok-refusal.ensures.noted none);
      refusal = refusal-next f c.args.ops.now c.loop-key_op.key_op-index c.key_op-item.result c.in_ok-refusal.field-0 c.loop-key_op-test.true c.key_op-item.is i.noted c.in_ok-refusal.ensures.refusal i.refusal none;
    }
