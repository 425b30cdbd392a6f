use Rattle.std.proofs.Common.{rules}
use Rattle.std.proofs.lemmas.Result.{err_from_is_err_and}
use Rattle.slate_types.specs.declared.options.FlushType.TheVariants.{Wal}
use Rattle.slate_writer.proofs.Storing.{log_err, log_ok, step_unfound}
use Rattle.slate_writer.proofs.states.WriterState.store_in_log.Goals as goal

pub returns-in_err-latest-clause-stored : goal.returns-in_err-latest-clause-stored
returns-in_err-latest-clause-stored g c =
    let p = err_from_is_err_and c.from_residual.result c.from_residual.ensures.1 in
    rw (p.1, p.2) (step_unfound _ Wal c.args.self.now _ _ _ _ (search rules) (search rules) c.current_manifest.ensures.kept (search (rules, c.in_err-latest.ensures.where_modelled)))

pub returns-in-Ok-clause-stored : goal.returns-in-Ok-clause-stored
returns-in-Ok-clause-stored g c =
    let makes = rw c.to_log.ensures at (c.in-Ok.ensures.appended c.args.self.now.counter) in
    log_ok _ c.args.self.now _ _ c.in_ok-latest.latest c.current_manifest.ensures.kept (search (rules, c.in_ok-latest.ensures.where_modelled)) _ (search rules) (search rules) makes

pub returns-in-Err-clause-stored : goal.returns-in-Err-clause-stored
returns-in-Err-clause-stored g c =
    let makes = rw c.to_log.ensures at (c.in-Err.ensures.appended c.args.self.now.counter) in
    log_err _ c.args.self.now _ _ c.in_ok-latest.latest c.current_manifest.ensures.kept (search (rules, c.in_ok-latest.ensures.where_modelled)) _ _ (search rules) (search rules) makes
