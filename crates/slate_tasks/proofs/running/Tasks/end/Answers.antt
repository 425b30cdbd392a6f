use Rattle.std.proofs.Common.{◌+◌, true, drop, map, subst, arith}
use Rattle.std.specs.Prelude.{unwrap_or}
use Rattle.slate_errors.specs.Tasks.{task_text}
use Rattle.slate_tasks.specs.Running.{Runs}
use Rattle.slate_tasks.proofs.Ending.{next-name}
use Rattle.slate_tasks.proofs.running.Tasks.end.Goals as goal

pub loop-name-preserved : goal.loop-name-preserved
loop-name-preserved c =
    let names = c.names-name-items.result.now in
    let i = c.loop-name.name-index in
    let old = c.loop-name.invariant in
    let told = c.shut.ensures.told (unwrap_or c.args.self.now.told c.args.outcome) old.holds old.told in
    record {
      listed = old.listed;
      first = old.first;
      holds = told.0;
      runs = c.shut.ensures.runs (map task_text (drop (i + 1) names)) (subst (λ ns. Runs true ns c.loop-name.self-inside.executor) (next-name names i _ (omega arith)) old.runs);
      told = told.1;
    }
