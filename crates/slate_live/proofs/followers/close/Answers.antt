use Rattle.std.proofs.Common.{◌≡◌, ℕ, Bool, true, false, Some, None, refl, sym, ap, ◌∙◌}
use Rattle.std.specs.Prelude.{is_some}
use Rattle.slate_errors.specs.declared.endings.Ended.{Ended}
use Rattle.slate_model.specs.Close.{closed_follower, ended, recorded_fault}
use Rattle.slate_model.specs.Follower.{Follower, is_managed}
use Rattle.slate_model.specs.Handle.{CloseResult}
use Rattle.slate_model.specs.Knowledge.{Knowledge}
use Rattle.slate_model.specs.Known.{Known, known}
use Rattle.slate_model.specs.Managed.{ClosesManaged}
use Rattle.slate_model.specs.Stores.{by_objects}
use Rattle.slate_live.specs.Followers.{ClosesAs}
use Rattle.slate_live.specs.Replies.{follower_closed_reply, follower_ended_reply}
use Rattle.slate_live.proofs.followers.close.Goals as goal

closes-as : {L : Type 0} (k : Knowledge L) (managed : Bool) (old new : Follower) (before after : Known L) (answer : Ended) → new ≡ closed_follower old → (managed ≡ false → answer ≡ ended old.tasks (recorded_fault old.result)) → (managed ≡ false → after ≡ before) →
    (managed ≡ true → (made : ℕ) × ClosesManaged k made old before answer new after) → (made : ℕ) × ClosesAs k managed made old before answer new after
closes-as k true old new before after answer closed plain kept managed = managed refl
closes-as k false old new before after answer closed plain kept managed = (0, (plain refl, closed, (refl, kept refl)))

-- the reply to a close of a reader that was closed before
closed-before : (r : CloseResult) (answer : Ended) → is_some r ≡ true → follower_ended_reply r answer ≡ follower_closed_reply answer.fault answer.tasks
closed-before None answer is = absurd (cc)
closed-before (Some q) answer is = refl

pub returns-then-is_some-clause-does : goal.returns-then-is_some-clause-does
returns-then-is_some-clause-does g c =
    let old = c.args.follower.now in
    let e = c.close.ensures in
    let before = known g.S.Store.objects g.S.Store.faults c.args.store.now in
    let after = known g.S.Store.objects g.S.Store.faults c.close.new.store in
    let was : is_some old.result ≡ true = sym (ap is_some c.closed.ensures) ∙ (sym c.is_some.ensures ∙ c.if-is_some.true) in
    let kept : is_managed old.mode ≡ false → after ≡ before = λ other. ap (known g.S.Store.objects g.S.Store.faults) (e.store other) in
    let d = closes-as (by_objects (g.S.Store.objects c.args.store.now)) (is_managed old.mode) old c.close.new.self before after c.close.result e.closed e.answer kept e.managed in
    (d.0, record { answer = c.close.result; replied = c.closed_reply.ensures ∙ sym (closed-before old.result c.close.result was); does = d.1 })
