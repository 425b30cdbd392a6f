use Rattle.std.proofs.Common.{◌≡◌, Err, refl, rules, subst}
use Rattle.slate_model.specs.Begun.{Begun, ReadsLatest, decided, noted}
use Rattle.slate_follow.specs.Stepping.{TurnsTo}
use Rattle.slate_follow.proofs.Called.{calls-to, decision-counts, latest-failed}
use Rattle.slate_follow.proofs.Planned.{modelled-kept}
use Rattle.slate_follow.proofs.machines.PollMachine.call_latest.Goals as goal

pub returns-in_err-latest-clause-next : goal.returns-in_err-latest-clause-next
returns-in_err-latest-clause-next g c =
    let e = c.in_err-latest.field-0.0 in
    let all = latest-failed ReadsLatest c.args.state.now c.args.self.now c.args.self.now e refl c.in_err-latest.ensures.found c.in_err-latest.ensures.kept c.in_err-latest.ensures.kind c.requires.ended in
    let result : c.from_residual.result ≡ Err e = search rules in
    rw result all

pub returns-clause-next : goal.returns-clause-next
returns-clause-next g c =
    let reader = c.args.state.now in
    let old = c.args.self.now in
    let v = c.in_ok-latest.latest in
    let turn = subst (λ (b : Begun). TurnsTo reader (decided reader v b.lease b) c.decide.result c.decide.new.self) c.note.ensures c.decide.ensures in
    calls-to ReadsLatest reader old (decided reader v old.lease (noted v old)) c.decide.result c.decide.new.self
    (modelled-kept c.in_ok-latest.ensures.found c.in_ok-latest.ensures.kept (λ o is. ((v, is, refl, refl), refl))) turn

pub returns-clause-faults : goal.returns-clause-faults
returns-clause-faults g c = decision-counts c.args.state.now.mode _ _ c.decide.result c.in_ok-latest.ensures.faults.stays c.decide.ensures.kind
