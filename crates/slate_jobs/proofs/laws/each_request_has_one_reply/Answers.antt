use Rattle.slate_jobs.proofs.Lasting.{completed-once, one-reply, replies-stay}
use Rattle.slate_jobs.proofs.Running.{run-events}
use Rattle.slate_jobs.proofs.laws.each_request_has_one_reply.Goals as goal

pub returns-clause-stay : goal.returns-clause-stay
returns-clause-stay c = replies-stay

pub returns-clause-one : goal.returns-clause-one
returns-clause-one c = one-reply

pub returns-clause-completed : goal.returns-clause-completed
returns-clause-completed c = completed-once

pub returns-clause-sessions : goal.returns-clause-sessions
returns-clause-sessions c = run-events
