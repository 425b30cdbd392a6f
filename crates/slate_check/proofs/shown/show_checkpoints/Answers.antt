use Rattle.std.proofs.Common.{◌++◌, ◌∙◌, ap, sym, take}
use Rattle.std.proofs.lemmas.List.{flat_map_more}
use Rattle.std.specs.List.{flat_map}
use Rattle.slate_check.specs.Shown.{checkpoint_text}
use Rattle.slate_check.proofs.Lists.{next}
use Rattle.slate_check.proofs.shown.show_checkpoints.Goals as goal

pub loop-checkpoint-preserved : goal.loop-checkpoint-preserved
loop-checkpoint-preserved c =
    let xs = c.args.checkpoints.now in
    let i = c.loop-checkpoint.checkpoint-index in
    let cp = c.checkpoint-item.result in
    let old = c.args.out.now.items in
    c.in_ok-write_checkpoint.ensures ∙ (ap (λ l. l ++ checkpoint_text cp) c.loop-checkpoint.invariant
    ∙ (flat_map_more checkpoint_text old (take i xs) cp ∙ ap (λ ys. old ++ flat_map checkpoint_text ys) (sym (next xs i cp cp c.loop-checkpoint-test.true c.checkpoint-item.is))))
