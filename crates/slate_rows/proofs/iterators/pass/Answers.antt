use Rattle.std.proofs.Common.{◌∙◌, sym, refl, rules, arith}
use Rattle.slate_rows.proofs.Passing.{pass_more, pass_end}
use Rattle.slate_rows.proofs.iterators.pass.Goals as goal

pub loop-kept-preserved : goal.loop-kept-preserved
loop-kept-preserved c =
    let more = pass_more c.args.order c.args.key.now c.loop-kept.rows.items c.drop_front.new.rows.items c.drop_front.ensures.0 c.in-Some.kept.now c.drop_front.ensures.1 c.in-Some.ensures.lookup (search rules) c.loop-kept.invariant.in_order in
    record { kept = more.0 ∙ c.loop-kept.invariant.kept; in_order = more.1 }

pub returns-then-not-is_before : goal.returns-then-not-is_before
returns-then-not-is_before c =
    sym (pass_end c.args.order c.args.key.now c.loop-kept.rows.items c.in-Some.kept.now (omega (arith, c.in-Some.ensures.variant.0 refl)) c.in-Some.ensures.lookup (search rules) c.loop-kept.invariant.in_order) ∙ c.loop-kept.invariant.kept
