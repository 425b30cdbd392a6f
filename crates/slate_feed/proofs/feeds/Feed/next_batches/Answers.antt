use Rattle.std.proofs.Common.{Err, Ok, subst}
use Rattle.std.proofs.lemmas.Result.{err_from_is_err_and}
use Rattle.std.specs.Option.{IfSome}
use Rattle.slate_store.specs.Content.{IsSound}
use Rattle.slate_feed.specs.Answer.{Delivers}
use Rattle.slate_feed.specs.Reading.{Reading}
use Rattle.slate_feed.proofs.Stored.{delivered-where}
use Rattle.slate_feed.proofs.feeds.Feed.next_batches.Goals as goal

pub returns-in_err-batches-clause-delivers : goal.returns-in_err-batches-clause-delivers
returns-in_err-batches-clause-delivers g c =
    let p = err_from_is_err_and c.from_residual.result c.from_residual.ensures.1 in
    let refusal = c.in_err-batches.field-0.0 in
    rw (p.1, p.2) (subst (λ (r : Reading). IfSome (g.S.Store.objects c.args.store.now) (λ o. IsSound o → Delivers o r.cursor r.limit (Err refusal))) c.begin-machine.ensures
    (delivered-where _ c.begin-machine.result.cursor c.begin-machine.result.limit (Err refusal) c.in_err-batches.ensures.answers))

pub returns-clause-delivers : goal.returns-clause-delivers
returns-clause-delivers g c =
    subst (λ (r : Reading). IfSome (g.S.Store.objects c.args.store.now) (λ o. IsSound o → Delivers o r.cursor r.limit (Ok c.in_ok-batches.batches))) c.begin-machine.ensures
    (delivered-where _ c.begin-machine.result.cursor c.begin-machine.result.limit (Ok c.in_ok-batches.batches) c.in_ok-batches.ensures.answers)
