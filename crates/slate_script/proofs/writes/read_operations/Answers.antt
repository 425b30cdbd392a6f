use Rattle.std.proofs.Common.{sym, ◌∙◌}
use Rattle.std.proofs.lemmas.List.{take_rest}
use Rattle.slate_script.proofs.LineLemmas.{behind_place}
use Rattle.slate_script.proofs.BatchLemmas.{op_read, op_refused, last_read, last_refused}
use Rattle.slate_script.proofs.writes.read_operations.Goals as goal

pub returns-in_default-2 : goal.returns-in_default-2
returns-in_default-2 c =
    op_refused c.loop-separator.ops.items c.loop-separator.rest.now c.split_at.result.0.now _ c.in-Some.separator (sym c.in-Some.ensures) c.split_at.ensures.front (sym c.in_default-2.is ∙ c.in_ok-key_op.ensures) c.loop-separator.invariant

pub loop-separator-preserved : goal.loop-separator-preserved
loop-separator-preserved c =
    op_read c.loop-separator.ops.items c.push.new.self.items c.loop-separator.rest.now _ c.split_at.result.0.now _ c.in-Some.separator c.in-Some-2.key_op (sym c.in-Some.ensures) c.split_at.ensures.front
    (behind_place c.in-Some.separator c.loop-separator.rest.now c.split_at.result.1.now _ c.split_at.ensures.back (take_rest c.split_at.result.1.now 1)) (sym c.in-Some-2.is ∙ c.in_ok-key_op.ensures) c.in_ok-push.ensures.items c.loop-separator.invariant

pub returns-in_default-3 : goal.returns-in_default-3
returns-in_default-3 c =
    last_refused c.loop-separator.ops.items c.loop-separator.rest.now _ (sym c.in_default.ensures) (sym c.in_default-3.is ∙ c.in_ok-key_op-2.ensures) c.loop-separator.invariant

pub returns : goal.returns
returns c =
    last_read c.loop-separator.ops.items c.push-2.new.self.items c.loop-separator.rest.now _ c.in-Some-3.key_op (sym c.in_default.ensures) (sym c.in-Some-3.is ∙ c.in_ok-key_op-2.ensures) c.in_ok-push-2.ensures.items c.loop-separator.invariant
