use Rattle.std.proofs.Common.{◌∙◌, arith}
use Rattle.slate_jobs.proofs.Turning.{put-last, put-set}
use Rattle.slate_jobs.proofs.turns.put_turn.Goals as goal

pub returns-then-place-len-clause-ok : goal.returns-then-place-len-clause-ok
returns-then-place-len-clause-ok c = put-set c.args.turns.now.items c.args.place c.args.turn (omega arith)

pub returns-in_ok-push-clause-ok : goal.returns-in_ok-push-clause-ok
returns-in_ok-push-clause-ok c = c.in_ok-push.ensures.items ∙ put-last c.args.turns.now.items c.args.place c.args.turn c.requires (omega arith)
