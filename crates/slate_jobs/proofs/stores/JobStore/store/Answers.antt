use Rattle.std.proofs.Common.{◌≡◌, Err, inr, ap, subst, sym, ◌∙◌}
use Rattle.slate_model.specs.Known.{known}
use Rattle.slate_jobs.specs.Calls.{Stores}
use Rattle.slate_jobs.specs.contracts.stores.JobStore.{the_view}
use Rattle.slate_jobs.specs.declared.jobs.JobRefusal.TheVariants as refusals
use Rattle.slate_errors.specs.declared.errors.SlateError.TheVariants as errors
use Rattle.slate_jobs.proofs.Ticking.{never-tick}
use Rattle.slate_jobs.proofs.stores.JobStore.store.Goals as goal

pub returns-in-Err-clause-stored : goal.returns-in-Err-clause-stored
returns-in-Err-clause-stored g c =
    let d = c.in-Err.ensures.does in
    subst (λ q. Stores (known g.S.Store.objects g.S.Store.faults c.args.store.now) q (Err c.refuse-refusal.result.0)
    (the_view (record { writer = c.flush.new.self; jobs = c.self.inside.jobs; replies = c.self.inside.replies; failure = c.refuse-refusal.result.1 })) (known g.S.Store.objects g.S.Store.faults c.flush.new.store)) c.self.view_is
    (inr (d.0, Err c.in-Err.error, d.1, ap (λ f. record (the_view c.self.inside) { handle = c.flush.new.self; failure = f }) c.refuse-refusal.ensures.failure, ap Err c.refuse-refusal.ensures.refusal))

pub returns-in-Err-clause-ticks : goal.returns-in-Err-clause-ticks
returns-in-Err-clause-ticks g c = λ previous next is.
    let same : c.refuse-refusal.result.0 ≡ refusals.Writer (errors.InvalidClockTick previous next) = cc in
    never-tick _ _ _ _ _ _ c.in-Err.error c.in-Err.ensures.does.1 c.in-Err.ensures.kind previous next (sym c.refuse-refusal.ensures.refusal ∙ same)
