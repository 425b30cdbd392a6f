use Rattle.std.proofs.Common.{◌≡◌, ◌∙◌, Err, Ok, ap, subst, sym}
use Rattle.slate_model.specs.Follower.{Follower}
use Rattle.slate_follow.specs.Following.{AreOf}
use Rattle.slate_follow.proofs.Following.{failed-line, follows-on}
use Rattle.slate_follow.proofs.Eighth.{tries-where}
use Rattle.slate_follow.proofs.Lasting.{few-where, lasts-where}
use Rattle.slate_follow.proofs.Rebuilt.{if_some}
use Rattle.slate_follow.proofs.machines.PollMachine.step.Goals as goal

pub returns-then-is_pinned-clause-follows : goal.returns-then-is_pinned-clause-follows
returns-then-is_pinned-clause-follows g c line is f = (f is.0 is.1).own

pub returns-in-Ok-clause-follows : goal.returns-in-Ok-clause-follows
returns-in-Ok-clause-follows g c line is f =
    follows-on line c.args.state.now c.take_step.new.state c.args.self.now c.take_step.new.self (Ok c.in-Ok.answer) c.in-Ok.ensures.steps c.in-Ok.ensures.numbered is f tt

pub returns-in-Err-clause-follows : goal.returns-in-Err-clause-follows
returns-in-Err-clause-follows g c line is f =
    let held = (f is.0 is.1).own in
    let same : c.fail_by.new.self.line ≡ c.args.state.now.line =
    ap (λ (r : Follower). r.line) c.fail_by.ensures ∙ (failed-line c.in-Err.error c.take_step.new.state ∙ ap (λ (r : Follower). r.line) c.in-Err.ensures.failed.0) in
    subst (λ l. AreOf l.batches line) (sym same) held

-- ---- in few steps
pub returns-then-is_pinned-clause-lasts : goal.returns-then-is_pinned-clause-lasts
returns-then-is_pinned-clause-lasts g c line is held =
    if_some (g.S.Store.objects c.args.store.now) (λ o at. (few-where line c.args.state.now c.args.self.now o is at held, tt))

pub returns-in-Ok-clause-lasts : goal.returns-in-Ok-clause-lasts
returns-in-Ok-clause-lasts g c line is held = lasts-where line c.args.state.now c.take_step.new.state c.args.self.now c.take_step.new.self (Ok c.in-Ok.answer) c.in-Ok.ensures.steps is held

pub returns-in-Err-clause-lasts : goal.returns-in-Err-clause-lasts
returns-in-Err-clause-lasts g c line is held =
    if_some (g.S.Store.objects c.args.store.now) (λ o at. (few-where line c.args.state.now c.args.self.now o is at held, tt))

pub returns-in-Ok-clause-tries : goal.returns-in-Ok-clause-tries
returns-in-Ok-clause-tries g c unpinned = tries-where c.args.state.now c.take_step.new.state c.args.self.now c.take_step.new.self (Ok c.in-Ok.answer) c.in-Ok.ensures.steps

pub returns-in-Err-clause-tries : goal.returns-in-Err-clause-tries
returns-in-Err-clause-tries g c unpinned = tries-where c.args.state.now c.take_step.new.state c.args.self.now c.take_step.new.self (Err c.in-Err.error) c.in-Err.ensures.steps
