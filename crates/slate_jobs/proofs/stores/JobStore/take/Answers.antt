use Rattle.std.proofs.Common.{◌≡◌, None, subst, sym, ◌∙◌}
use Rattle.std.proofs.lemmas.Int.{to_z-of_z}
use Rattle.std.specs.Int.{w64}
use Rattle.std.specs.Result.{IfErr, OnOk}
use Rattle.slate_jobs.specs.Calls.{Accepts, RefusesBatch}
use Rattle.slate_jobs.specs.Machine.{kept_reply}
use Rattle.slate_jobs.proofs.Calling.{none-there, refuses-new, takes-new}
use Rattle.slate_jobs.proofs.stores.JobStore.take.Goals as goal

pub returns-clause-taken : goal.returns-clause-taken
returns-clause-taken c =
    let free : kept_reply c.args.self.now.machine c.args.request ≡ None = none-there _ (sym c.has_reply.ensures ∙ c.if-has_reply.false) in
    takes-new c.args.request c.args.op c.args.moment c.args.self.now c.accept.new.self c.accept.result free
    (subst (λ m. OnOk c.accept.result (Accepts c.args.request c.args.op m c.args.self.now c.accept.new.self)) (to_z-of_z w64 c.args.moment c.ranges.moment) c.accept.ensures.accepted)

pub returns-clause-refused : goal.returns-clause-refused
returns-clause-refused c =
    let free : kept_reply c.args.self.now.machine c.args.request ≡ None = none-there _ (sym c.has_reply.ensures ∙ c.if-has_reply.false) in
    refuses-new c.args.request c.args.op c.args.moment c.args.self.now c.accept.new.self c.accept.result free
    (subst (λ m. IfErr c.accept.result (RefusesBatch c.args.request c.args.op m c.args.self.now c.accept.new.self)) (to_z-of_z w64 c.args.moment c.ranges.moment) c.accept.ensures.refused)
