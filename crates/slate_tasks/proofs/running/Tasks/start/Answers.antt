use Rattle.std.proofs.Common.{List, [], ◌∷◌, ◌++◌, false, map, subst, sym, ap, ◌∙◌, arith, get_or}
use Rattle.std.proofs.lemmas.List.{map-append, take_more}
use Rattle.slate_errors.specs.Tasks.{task_text}
use Rattle.slate_errors.specs.declared.endings.TaskName.{TaskName}
use Rattle.slate_errors.specs.declared.endings.TaskName.TheVariants.{MemtableFlusher}
use Rattle.slate_tasks.specs.Running.{Runs}
use Rattle.slate_tasks.proofs.running.Tasks.start.Goals as goal

pub loop-name-preserved : goal.loop-name-preserved
loop-name-preserved c =
    let names : List TaskName = c.loop-name.running in
    let name = get_or c.args.names.now c.loop-name.name-index MemtableFlusher in
    let runs = c.in_ok-register.ensures.runs (map task_text names) c.loop-name.invariant.runs in
    record {
      listed = c.push.ensures ∙ (ap (λ xs. xs ++ name ∷ []) c.loop-name.invariant.listed ∙ sym (take_more c.args.names.now c.loop-name.name-index MemtableFlusher (omega arith)));
      runs = subst (λ xs. Runs false xs c.register.new.executor) (sym (ap (map task_text) c.push.ensures ∙ map-append task_text names (name ∷ []))) runs;
      told = c.in_ok-register.ensures.told c.loop-name.invariant.told;
    }
