use Rattle.std.proofs.Common.{◌≡◌, None, ap, subst, sym, ◌∙◌}
use Rattle.std.proofs.lemmas.Int.{to_z-of_z}
use Rattle.std.specs.Int.{w64}
use Rattle.slate_model.specs.Known.{known}
use Rattle.slate_jobs.specs.Calls.{TakesRequest}
use Rattle.slate_jobs.specs.Queue.{Queue}
use Rattle.slate_jobs.proofs.Asking.{reply-stands, store-stands, took-current, took-held}
use Rattle.slate_store.specs.Calls.{HasRisen}
use Rattle.slate_jobs.proofs.Causing.{batch-refused, store-refused, took-epoch, took-ready}
use Rattle.slate_jobs.proofs.Calling.{stores-stand}
use Rattle.slate_jobs.proofs.stores.JobStore.call.Goals as goal

pub returns-in-Err-store-clause-stands : goal.returns-in-Err-store-clause-stands
returns-in-Err-store-clause-stands g c = λ o is held.
    let live : c.args.self.now.failure ≡ None = sym (ap (λ (q : Queue). q.failure) c.self.view_is) ∙ c.in_default.is in
    let takes : TakesRequest c.args.request c.args.op c.args.moment c.args.self.now c.take.new.self =
    subst (λ m. TakesRequest c.args.request c.args.op m c.args.self.now c.take.new.self) (to_z-of_z w64 c.args.moment c.ranges.moment) c.in_default-take.ensures.taken in
    let s = stores-stand o c.take.new.self c.store.new.self c.store.result (known g.S.Store.objects g.S.Store.faults c.args.store.now) (known g.S.Store.objects g.S.Store.faults c.store.new.store) is
    (took-held c.args.request c.args.op c.args.moment c.args.self.now live c.take.new.self takes o held) c.store.ensures.stored in
    (s.0, s.1, store-stands o s.0 c.args.self.now c.take.new.self c.store.new.self (took-current c.args.request c.args.op c.args.moment c.args.self.now live c.take.new.self takes o) c.store.result c.in-Err-store.refusal s.2)

pub returns-clause-stands : goal.returns-clause-stands
returns-clause-stands g c = λ o is held.
    let live : c.args.self.now.failure ≡ None = sym (ap (λ (q : Queue). q.failure) c.self.view_is) ∙ c.in_default.is in
    let takes : TakesRequest c.args.request c.args.op c.args.moment c.args.self.now c.take.new.self =
    subst (λ m. TakesRequest c.args.request c.args.op m c.args.self.now c.take.new.self) (to_z-of_z w64 c.args.moment c.ranges.moment) c.in_default-take.ensures.taken in
    let s = stores-stand o c.take.new.self c.store.new.self c.store.result (known g.S.Store.objects g.S.Store.faults c.args.store.now) (known g.S.Store.objects g.S.Store.faults c.store.new.store) is
    (took-held c.args.request c.args.op c.args.moment c.args.self.now live c.take.new.self takes o held) c.store.ensures.stored in
    (s.0, s.1, reply-stands o s.0 c.args.self.now c.take.new.self c.store.new.self (took-current c.args.request c.args.op c.args.moment c.args.self.now live c.take.new.self takes o) c.store.result tt c.in_default-store.is s.2 c.reply_to.result)

pub returns-in-Err-clause-causes : goal.returns-in-Err-clause-causes
returns-in-Err-clause-causes g c = λ o is sound ready.
    batch-refused (HasRisen (g.S.Store.faults c.args.store.now) (g.S.Store.faults c.args.store.now)) o c.args.request c.args.op c.args.moment c.args.self.now ready c.take.new.self c.in-Err.refusal
    (rw (to_z-of_z w64 c.args.moment c.ranges.moment) at c.in-Err.ensures.refused.1)

pub returns-in-Err-store-clause-causes : goal.returns-in-Err-store-clause-causes
returns-in-Err-store-clause-causes g c = λ o is sound ready.
    let takes : TakesRequest c.args.request c.args.op c.args.moment c.args.self.now c.take.new.self =
    subst (λ m. TakesRequest c.args.request c.args.op m c.args.self.now c.take.new.self) (to_z-of_z w64 c.args.moment c.ranges.moment) c.in_default-take.ensures.taken in
    store-refused (known g.S.Store.objects g.S.Store.faults c.args.store.now) (known g.S.Store.objects g.S.Store.faults c.store.new.store) c.take.new.self c.store.new.self
    (took-ready c.args.request c.args.op c.args.moment c.args.self.now c.take.new.self ready takes) o c.args.self.now c.args.op c.args.moment is
    (took-epoch c.args.request c.args.op c.args.moment c.args.self.now c.take.new.self ready takes) c.store.result c.in-Err-store.refusal c.in-Err-store.is c.store.ensures.stored
