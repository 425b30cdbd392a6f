use Rattle.std.proofs.lemmas.Result.{err_from_is_err_and}
use Rattle.slate_types.proofs.Modelled.{modelled_then}
use Rattle.slate_writer.proofs.Openings.{puts_fence}
use Rattle.slate_writer.proofs.opens.put_opening.Goals as goal

pub returns-in_err-put_log-clause-where_modelled : goal.returns-in_err-put_log-clause-where_modelled
returns-in_err-put_log-clause-where_modelled g c =
    let p = err_from_is_err_and c.from_residual-in_err-put_log.result c.from_residual-in_err-put_log.ensures.1 in
    rw (p.1, p.2) (modelled_then _ c.in_ok-put_manifest.ensures.put c.in_err-put_log.ensures.put
    (λ o o1 o2 first second. puts_fence c.args.view.now c.args.fence o o1 o2 _ first.1 second))
