use Rattle.std.proofs.Common.{◌≡◌, ◌⊎◌, ◌<◌, ◌^◌, Some, None, length, ap, sym, subst, refl, to_z, of_z, ◌∙◌}
use Rattle.std.proofs.lemmas.Int.{to_z-of_z}
use Rattle.std.specs.Int.{w64}
use Rattle.slate_errors.specs.declared.errors.SlateError.TheVariants as errors
use Rattle.slate_model.specs.Write.{write_refusal}
use Rattle.slate_jobs.specs.Calls.{Accepts, RefusesBatch}
use Rattle.slate_jobs.specs.Rows.{puts_of}
use Rattle.slate_jobs.specs.contracts.stores.JobStore.{the_view}
use Rattle.slate_jobs.specs.Machine.{effect_of, jobs_after, kept_reply}
use Rattle.slate_jobs.specs.Queue.{Queue}
use Rattle.slate_jobs.proofs.Calling.{queue-same, short-errs, write-accepts, write-refuses}
use Rattle.slate_jobs.proofs.stores.JobStore.accept.Goals as goal
use Rattle.slate_jobs.proofs.stores.JobStore.accept.Goals.{in-Adds+in-Some-2, in-Adds+in-None-2, in-Moves+in-Some-2, in-Moves+in-None-2, in-Keeps-2}

pub returns-in_err-prepare-clause-refused : goal.returns-in_err-prepare-clause-refused
returns-in_err-prepare-clause-refused c =
    let new : Queue = the_view (record { writer = c.self.inside.writer; jobs = c.prepare.new.self; replies = c.self.inside.replies; failure = c.self.inside.failure }) in
    short-errs c.args.request c.args.op c.args.moment c.args.self.now new c.from_residual.result c.from_residual.ensures.1 c.requires.open
    (queue-same new (the_view c.self.inside) refl c.prepare.ensures.kept refl refl ∙ c.self.view_is)

pub returns-in_err-plan-clause-refused : goal.returns-in_err-plan-clause-refused
returns-in_err-plan-clause-refused c =
    let new : Queue = the_view (record { writer = c.self.inside.writer; jobs = c.prepare.new.self; replies = c.self.inside.replies; failure = c.self.inside.failure }) in
    short-errs c.args.request c.args.op c.args.moment c.args.self.now new c.from_residual-in_err-plan.result c.from_residual-in_err-plan.ensures.1 c.requires.open
    (queue-same new (the_view c.self.inside) refl c.prepare.ensures.kept refl refl ∙ c.self.view_is)

pub returns-in_err-keep_reply-clause-refused : goal.returns-in_err-keep_reply-clause-refused
returns-in_err-keep_reply-clause-refused c =
    let new : Queue = the_view (record { writer = c.self.inside.writer; jobs = c.prepare.new.self; replies = c.keep_reply.new.replies; failure = c.self.inside.failure }) in
    short-errs c.args.request c.args.op c.args.moment c.args.self.now new c.from_residual-in_err-keep_reply.result c.from_residual-in_err-keep_reply.ensures.1 c.requires.open
    (queue-same new (the_view c.self.inside) refl c.prepare.ensures.kept c.in_err-keep_reply.ensures.err refl ∙ c.self.view_is)

pub returns-in-Ok-clause-accepted : goal.returns-in-Ok-clause-accepted
returns-in-Ok-clause-accepted c =
    let fixed = to_z-of_z w64 c.args.moment c.ranges.moment in
    let p = c.in_ok-plan.ensures in
    let value = c.prepare.ensures.kept in
    let is : c.in_ok-plan.plan.effect ≡ effect_of c.self.inside.jobs.items c.args.request c.args.op c.args.moment =
    p.effect ∙ (ap (λ jobs. effect_of jobs c.args.request c.args.op (to_z w64 (of_z w64 c.args.moment))) value ∙ ap (effect_of c.self.inside.jobs.items c.args.request c.args.op) fixed) in
    let new : Queue = the_view (record { writer = c.write.new.writer; jobs = c.make.new.self; replies = c.keep_reply.new.replies; failure = c.self.inside.failure }) in
    subst (λ q. Accepts c.args.request c.args.op c.args.moment q new) c.self.view_is
    (write-accepts c.args.request c.args.op c.args.moment (the_view c.self.inside) new c.in_ok-plan.plan.effect c.in_ok-plan.plan.batch.ops (c.in-Ok.ensures.ok).0 is p.fits
    (subst (λ jobs. length jobs < 2 ^ 64) value p.room) (p.batch ∙ ap (λ jobs. puts_of (length jobs) c.args.request c.in_ok-plan.plan.effect) value) (c.in-Ok.ensures.ok).1
    (c.make.ensures ∙ ap (λ jobs. jobs_after jobs c.in_ok-plan.plan.effect.change) c.prepare.ensures.kept) c.in_ok-keep_reply.ensures.ok (ap (λ (q : Queue). q.failure) c.self.view_is ∙ c.requires.open))

pub returns-in-Err-clause-refused : goal.returns-in-Err-clause-refused
returns-in-Err-clause-refused c =
    let fixed = to_z-of_z w64 c.args.moment c.ranges.moment in
    let p = c.in_ok-plan.ensures in
    let value = c.prepare.ensures.kept in
    let is : c.in_ok-plan.plan.effect ≡ effect_of c.self.inside.jobs.items c.args.request c.args.op c.args.moment =
    p.effect ∙ (ap (λ jobs. effect_of jobs c.args.request c.args.op (to_z w64 (of_z w64 c.args.moment))) value ∙ ap (effect_of c.self.inside.jobs.items c.args.request c.args.op) fixed) in
    let new : Queue = the_view (record { writer = c.write.new.writer; jobs = c.prepare.new.self; replies = c.drop_reply.new.replies; failure = c.refuse-refusal.result.1 }) in
    let free : kept_reply (the_view c.self.inside).machine c.args.request ≡ None = ap (λ (q : Queue). kept_reply q.machine c.args.request) c.self.view_is ∙ c.requires.free in
    let refused : RefusesBatch c.args.request c.args.op c.args.moment (the_view c.self.inside) new c.refuse-refusal.result.0 =
    write-refuses c.args.request c.args.op c.args.moment (the_view c.self.inside) new c.in-Err.error c.refuse-refusal.result.0 c.in_ok-plan.plan.batch.ops
    (p.batch ∙ (ap (λ jobs. puts_of (length jobs) c.args.request c.in_ok-plan.plan.effect) value ∙ ap (puts_of (length c.self.inside.jobs.items) c.args.request) is))
    c.refuse-refusal.ensures.refusal
    (subst (λ m. (c.in-Err.error ≡ errors.NoMemory) ⊎ (write_refusal None c.self.inside.writer c.in_ok-plan.plan.batch.ops m None ≡ Some c.in-Err.error)) fixed c.in-Err.ensures.err.0)
    c.in-Err.ensures.err.1 c.prepare.ensures.kept (c.drop_reply.ensures _ c.self.inside.replies.entries free c.in_ok-keep_reply.ensures.ok) c.refuse-refusal.ensures.failure in
    let joined = λ (q : Queue) (same : q ≡ new). subst (λ old. RefusesBatch c.args.request c.args.op c.args.moment old q c.refuse-refusal.result.0) c.self.view_is
    (subst (λ x. RefusesBatch c.args.request c.args.op c.args.moment (the_view c.self.inside) x c.refuse-refusal.result.0) (sym same) refused) in
    elim c.match-change-4.branch [
      | in-Adds+in-Some-2 w ↦ joined _ w.self-is
      | in-Adds+in-None-2 w ↦ joined _ w.self-is
      | in-Moves+in-Some-2 w ↦ joined _ w.self-is
      | in-Moves+in-None-2 w ↦ joined _ w.self-is
      | in-Keeps-2 w ↦ joined _ w.self-is
    ]
