use Rattle.std.proofs.lemmas.Result.{err_from_is_err_and}
use Rattle.slate_writer.proofs.Freezing.{put-frozen}
use Rattle.slate_writer.proofs.Storing.{commit_none, commit_put, commits-by, list_cause, unplanned}
use Rattle.slate_writer.proofs.states.WriterState.commit_table.Goals as goal

pub returns-in_err-last-clause-put : goal.returns-in_err-last-clause-put
returns-in_err-last-clause-put g c =
    let p = err_from_is_err_and c.from_residual.result c.from_residual.ensures.1 in
    rw (p.1, p.2) (commit_none c.args.self.now c.args.latest.now _ c.last_log.ensures.kept (λ o is. list_cause _ _ o c.in_err-last.field-0.0 c.in_err-last.ensures.refusals))

pub returns-in_err-next-clause-put : goal.returns-in_err-next-clause-put
returns-in_err-next-clause-put g c =
    let p = err_from_is_err_and c.from_residual-in_err-next.result c.from_residual-in_err-next.ensures.1 in
    rw (p.1, p.2) (commit_none c.args.self.now c.args.latest.now _ c.last_log.ensures.kept (unplanned c.args.self.now c.args.latest.now c.in_ok-last.last _ c.in_ok-last.ensures.found c.in_err-next.ensures.refused))

pub returns-in_err-table-clause-put : goal.returns-in_err-table-clause-put
returns-in_err-table-clause-put g c =
    let p = err_from_is_err_and c.from_residual-in_err-table.result c.from_residual-in_err-table.ensures.1 in
    rw (p.1, p.2, c.freeze_above.ensures.same) (commit_none c.args.self.now c.args.latest.now _ c.last_log.ensures.kept (λ o is. tt))

pub returns-in_err-put_flush-clause-put : goal.returns-in_err-put_flush-clause-put
returns-in_err-put_flush-clause-put g c =
    let p = err_from_is_err_and c.from_residual-in_err-put_flush.result c.from_residual-in_err-put_flush.ensures.1 in
    let put = put-frozen c.args.self.now c.freeze_above.new.self c.put_flush.new.self c.in_ok-table.table c.in_ok-next.next c.freeze_above.ensures.same c.in_err-put_flush.ensures.put in
    rw (p.1, p.2) (put.0, put.1, commit_put c.args.self.now c.args.latest.now c.in_ok-next.next c.in_ok-last.last c.in_ok-table.table _ _ put.0 c.last_log.ensures.kept c.in_ok-last.ensures.found c.in_ok-next.ensures.next c.in_ok-table.ensures.table put.2)

pub returns-clause-put : goal.returns-clause-put
returns-clause-put g c =
    let put = put-frozen c.args.self.now c.freeze_above.new.self c.put_flush.new.self c.in_ok-table.table c.in_ok-next.next c.freeze_above.ensures.same c.in_ok-put_flush.ensures.put in
    (put.0, tt, commit_put c.args.self.now c.args.latest.now c.in_ok-next.next c.in_ok-last.last c.in_ok-table.table _ _ put.0 c.last_log.ensures.kept c.in_ok-last.ensures.found c.in_ok-next.ensures.next c.in_ok-table.ensures.table put.2)

pub returns-clause-commits : goal.returns-clause-commits
returns-clause-commits g c =
    commits-by c.args.self.now c.args.latest.now _ c.in_ok-next.next c.in_ok-last.last c.in_ok-last.ensures.found c.in_ok-next.ensures.next
