use Rattle.std.proofs.Common.{sym, ◌∙◌}
use Rattle.std.proofs.lemmas.Result.{err_from_is_err_and}
use Rattle.slate_writer.proofs.Modelled.{modelled_from}
use Rattle.slate_writer.proofs.Puts.{log_broken}
use Rattle.slate_writer.proofs.flushes.append_log.Goals as goal

pub returns-in_err-put_log-clause-appended : goal.returns-in_err-put_log-clause-appended
returns-in_err-put_log-clause-appended g c counter =
    let p = err_from_is_err_and c.from_residual-in_err-put_log.result c.from_residual-in_err-put_log.ensures.1 in
    rw (p.1, p.2) (modelled_from c.in_ok-last.ensures.kept c.in_err-put_log.ensures.put
    (λ o o' is h. log_broken c.args.mark c.in-Some.id c.in_ok-last.last c.args.batches.now counter o o' _ (sym c.is_empty.ensures ∙ c.if-is_empty.false) (rw is at c.in_ok-last.ensures.found) c.in-Some.ensures.1 h))
