use Rattle.std.proofs.Common.{◌≡◌, false, true, Some, Ok, Err, rules, subst, sym, ap, refl, ◌∙◌}
use Rattle.slate_types.specs.Modelled.{WhereModelled}
use Rattle.slate_store.specs.Checkpoints.{to_write}
use Rattle.slate_store.specs.declared.objects.VersionedManifest.{VersionedManifest}
use Rattle.slate_model.specs.Follower.{Follower}
use Rattle.slate_model.specs.Lease.{leased}
use Rattle.slate_model.specs.declared.answers.PollAnswer.{PollAnswer}
use Rattle.slate_follow.specs.Keeping.{MayLack, PutsManifest}
use Rattle.slate_follow.specs.Takings.{installed}
use Rattle.slate_follow.proofs.Answering.{turn-polling}
use Rattle.slate_follow.proofs.Leased.{written-form}
use Rattle.slate_follow.proofs.Planned.{failed-by, put-by, unput-by, unstanding}
use Rattle.slate_follow.proofs.Taken.{counts-then}
use Rattle.slate_follow.proofs.states.FollowerState.replace_missing.Goals as goal

pub install-answer-requires : goal.install-answer-requires
install-answer-requires g c =
    let n = c.in_ok-next in
    let l = c.args.lease.now in
    let gives : leased l.lifetime (to_write (Some l.id) (Some l.lifetime) c.args.moment c.args.latest.now) ≡ Ok (Some n.next, n.renewed) = search rules in
    let form = written-form c.args.latest.now l.lifetime c.args.moment n.next n.renewed (Some l.id) gives in
    c.requires.floor ∙ sym (ap (λ (v : VersionedManifest). v.manifest.last_l0_seq) form.1)

pub returns-then-not-is_put-clause-puts : goal.returns-then-not-is_put-clause-puts
returns-then-not-is_put-clause-puts g c =
    let n = c.in_ok-next in
    let l = c.args.lease.now in
    let plan = leased l.lifetime (to_write (Some l.id) (Some l.lifetime) c.args.moment c.args.latest.now) in
    let gives : plan ≡ Ok (Some n.next, n.renewed) = search rules in
    let is_put : c.in_ok-is_put.is_put ≡ false = search rules in
    let all = unput-by MayLack plan c.args.self.now.lease n.next n.renewed gives {A = PollAnswer} (subst (λ b. WhereModelled (PutsManifest n.next (Ok b)) (g.S.Store.objects c.args.store.now) (g.S.Store.objects c.put_next.new.store)) is_put c.in_ok-is_put.ensures.puts) in
    search (rules, all)

pub returns-in_err-is_put-clause-puts : goal.returns-in_err-is_put-clause-puts
returns-in_err-is_put-clause-puts g c =
    let n = c.in_ok-next in
    let l = c.args.lease.now in
    let plan = leased l.lifetime (to_write (Some l.id) (Some l.lifetime) c.args.moment c.args.latest.now) in
    let gives : plan ≡ Ok (Some n.next, n.renewed) = search rules in
    let all = failed-by MayLack plan c.args.self.now.lease n.next n.renewed gives {A = PollAnswer} c.in_err-is_put.field-0.0 c.in_err-is_put.ensures.puts in
    let is : c.from_residual-in_err-is_put.result ≡ Err c.in_err-is_put.field-0.0 = search rules in
    rw is all

pub returns-in_err-is_put-clause-faults : goal.returns-in_err-is_put-clause-faults
returns-in_err-is_put-clause-faults g c =
    let is : c.from_residual-in_err-is_put.result ≡ Err c.in_err-is_put.field-0.0 = search rules in
    rw is (counts-then (g.S.Store.faults c.args.store.now) (g.S.Store.faults c.args.store.now) (g.S.Store.faults c.put_next.new.store) c.in_err-is_put.field-0.0 refl c.in_err-is_put.ensures.faults)

pub returns-in_err-is_put-clause-kind : goal.returns-in_err-is_put-clause-kind
returns-in_err-is_put-clause-kind g c =
    let is : c.from_residual-in_err-is_put.result ≡ Err c.in_err-is_put.field-0.0 = search rules in
    rw is (turn-polling c.in_err-is_put.field-0.0 c.in_err-is_put.ensures.kind)

pub returns-clause-puts : goal.returns-clause-puts
returns-clause-puts g c =
    let n = c.in_ok-next in
    let l = c.args.lease.now in
    let plan = leased l.lifetime (to_write (Some l.id) (Some l.lifetime) c.args.moment c.args.latest.now) in
    let gives : plan ≡ Ok (Some n.next, n.renewed) = search rules in
    let is_put : c.in_ok-is_put.is_put ≡ true = search rules in
    let puts = subst (λ b. WhereModelled (PutsManifest n.next (Ok b)) (g.S.Store.objects c.args.store.now) (g.S.Store.objects c.put_next.new.store)) is_put c.in_ok-is_put.ensures.puts in
    let all = put-by MayLack plan c.args.self.now.lease n.next n.renewed gives refl puts c.install-answer.result in
    let same : c.install-answer.new.self.lease ≡ Some n.renewed = ap (λ (f : Follower). f.lease) c.install-answer.ensures.becomes in
    rw same all

pub returns-clause-becomes : goal.returns-clause-becomes
returns-clause-becomes g c =
    let n = c.in_ok-next in
    let l = c.args.lease.now in
    let gives : leased l.lifetime (to_write (Some l.id) (Some l.lifetime) c.args.moment c.args.latest.now) ≡ Ok (Some n.next, n.renewed) = search rules in
    (n.next, n.renewed, gives, c.install-answer.ensures.becomes ∙ ap (λ (f : Follower). installed n.next c.args.taken (record f { lease = Some n.renewed })) c.self.view_is, c.install-answer.ensures.answer)

pub returns-clause-free : goal.returns-clause-free
returns-clause-free g c =
    let n = c.in_ok-next in
    let l = c.args.lease.now in
    let plan = leased l.lifetime (to_write (Some l.id) (Some l.lifetime) c.args.moment c.args.latest.now) in
    let gives : plan ≡ Ok (Some n.next, n.renewed) = search rules in
    let is_put : c.in_ok-is_put.is_put ≡ true = search rules in
    unstanding plan n.next n.renewed gives (g.S.Store.objects c.args.store.now) (c.in_ok-is_put.ensures.free (ap Ok is_put))
