use Rattle.std.proofs.Common.{◌≡◌, ◌<◌, ◌^◌, Some, Ok, Err, sym, ap, ◌∙◌, arith, rules, to_z, of_z, w64}
use Rattle.slate_jobs.specs.declared.commands.JobAnswer.TheVariants.{Replied, Reopened, Refused}
use Rattle.slate_jobs.specs.Histories.{Asked, Reopened as Opened, Unopened}
use Rattle.slate_jobs.specs.Session.{event_by, running}
use Rattle.slate_jobs.proofs.Running.{asked-left, opened-left, unopened-left}
use Rattle.slate_jobs.proofs.sessions.answer.Goals as goal

pub returns-in-Ok-clause-fits : goal.returns-in-Ok-clause-fits
returns-in-Ok-clause-fits g c = (Asked c.in-Ask.request c.in-Ask.op c.args.command.moment (Ok c.in-Ok.reply), ap (λ action. event_by action c.args.command.moment (Replied c.in-Ok.reply)) c.in-Ask.is)

pub returns-in-Err-clause-fits : goal.returns-in-Err-clause-fits
returns-in-Err-clause-fits g c = (Asked c.in-Ask.request c.in-Ask.op c.args.command.moment (Err c.in-Err.refusal), ap (λ action. event_by action c.args.command.moment (Refused c.in-Err.refusal)) c.in-Ask.is)

pub returns-in-Err-open-clause-fits : goal.returns-in-Err-open-clause-fits
returns-in-Err-open-clause-fits g c = (Unopened c.in-Err-open.refusal, ap (λ action. event_by action c.args.command.moment (Refused c.in-Err-open.refusal)) c.in-Reopen.is)

pub returns-in-Ok-clause-runs : goal.returns-in-Ok-clause-runs
returns-in-Ok-clause-runs g c = λ o is alive.
    let fits : c.in-Ask.request < 2 ^ 64 = omega arith in
    let at = to_z w64 (of_z w64 c.args.command.moment) in
    let same : at ≡ c.args.command.moment = search rules in
    let a = running o (g.S.Store.faults c.args.store.now) c.args.jobs.now in
    let left = asked-left a alive c.in-Ask.request fits c.in-Ask.op at c.call.result c.call.new.self c.call.ensures.answers (g.S.Store.objects c.call.new.store) (g.S.Store.faults c.call.new.store) c.call.ensures.faults
    (λ held. c.call.ensures.stands o is held) (λ ready. c.call.ensures.causes o is alive.sound ready) c.call.ensures.ready (λ some. ap g.S.Store.objects (c.call.ensures.ended some) ∙ is) in (
      left.0,
      left.1,
      record {
        event = Asked c.in-Ask.request c.in-Ask.op at c.call.result;
        is_event = ap (λ action. event_by action c.args.command.moment (Replied c.in-Ok.reply)) c.in-Ask.is
            ∙ (ap (λ moment. Some (Asked c.in-Ask.request c.in-Ask.op moment (Ok c.in-Ok.reply))) (sym same)
            ∙ ap (λ result. Some (Asked c.in-Ask.request c.in-Ask.op at result)) (sym c.in-Ok.is));
        happens = left.2;
        alive = left.3;
      },
    )

pub returns-in-Err-clause-runs : goal.returns-in-Err-clause-runs
returns-in-Err-clause-runs g c = λ o is alive.
    let fits : c.in-Ask.request < 2 ^ 64 = omega arith in
    let at = to_z w64 (of_z w64 c.args.command.moment) in
    let same : at ≡ c.args.command.moment = search rules in
    let a = running o (g.S.Store.faults c.args.store.now) c.args.jobs.now in
    let left = asked-left a alive c.in-Ask.request fits c.in-Ask.op at c.call.result c.call.new.self c.call.ensures.answers (g.S.Store.objects c.call.new.store) (g.S.Store.faults c.call.new.store) c.call.ensures.faults
    (λ held. c.call.ensures.stands o is held) (λ ready. c.call.ensures.causes o is alive.sound ready) c.call.ensures.ready (λ some. ap g.S.Store.objects (c.call.ensures.ended some) ∙ is) in (
      left.0,
      left.1,
      record {
        event = Asked c.in-Ask.request c.in-Ask.op at c.call.result;
        is_event = ap (λ action. event_by action c.args.command.moment (Refused c.in-Err.refusal)) c.in-Ask.is
            ∙ (ap (λ moment. Some (Asked c.in-Ask.request c.in-Ask.op moment (Err c.in-Err.refusal))) (sym same)
            ∙ ap (λ result. Some (Asked c.in-Ask.request c.in-Ask.op at result)) (sym c.in-Err.is));
        happens = left.2;
        alive = left.3;
      },
    )

pub returns-in-Ok-open-clause-runs : goal.returns-in-Ok-open-clause-runs
returns-in-Ok-open-clause-runs g c = λ o is alive.
    let a = running o (g.S.Store.faults c.args.store.now) c.args.jobs.now in
    let opens = c.in-Ok-open.ensures.opens o is alive.sound in
    let left = opened-left a opens.0 (g.S.Store.faults c.open.new.store) c.in-Ok-open.opened c.open.ensures.faults opens.2 (c.in-Ok-open.ensures.causes o is alive.sound) c.in-Ok-open.ensures.ready in (
      opens.0,
      opens.1,
      record { event = Opened; is_event = ap (λ action. event_by action c.args.command.moment Reopened) c.in-Reopen.is; happens = left.0; alive = left.1 },
    )

pub returns-in-Err-open-clause-runs : goal.returns-in-Err-open-clause-runs
returns-in-Err-open-clause-runs g c = λ o is alive.
    let a = running o (g.S.Store.faults c.args.store.now) c.args.jobs.now in
    let opens = c.in-Err-open.ensures.opens o is alive.sound in
    let left = unopened-left a alive opens.0 (g.S.Store.faults c.open.new.store) c.in-Err-open.refusal c.open.ensures.faults opens.2 (c.in-Err-open.ensures.causes o is alive.sound) in (
      opens.0,
      opens.1,
      record {
        event = Unopened c.in-Err-open.refusal;
        is_event = ap (λ action. event_by action c.args.command.moment (Refused c.in-Err-open.refusal)) c.in-Reopen.is;
        happens = left.0;
        alive = left.1;
      },
    )
