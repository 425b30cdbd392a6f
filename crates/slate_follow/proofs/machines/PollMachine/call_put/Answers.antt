use Rattle.std.proofs.Common.{◌≡◌, Err, rules}
use Rattle.slate_follow.proofs.Called.{put-failed}
use Rattle.slate_follow.proofs.machines.PollMachine.call_put.Goals as goal

pub returns-in_err-is_put-clause-next : goal.returns-in_err-is_put-clause-next
returns-in_err-is_put-clause-next g c =
    let e = c.in_err-is_put.field-0.0 in
    let p = c.args.commit in
    let all = put-failed c.args.state.now c.args.self.now c.args.self.now p.next p.lease p.replaces e c.in_err-is_put.ensures.puts c.in_err-is_put.ensures.kind c.requires.ended in
    let result : c.from_residual.result ≡ Err e = search rules in
    rw result all
