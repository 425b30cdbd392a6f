use Rattle.std.proofs.Common.{Err, ap, sym, ◌∙◌}
use Rattle.slate_errors.specs.declared.errors.SlateError.TheVariants.{InvalidDBState}
use Rattle.slate_follow.proofs.Refusing.{err-same, poll-key}
use Rattle.slate_follow.proofs.states.FollowerState.taking_new.Goals as goal

pub returns-in-Err-clause-lacks : goal.returns-in-Err-clause-lacks
returns-in-Err-clause-lacks g c x lawful is =
    let key = poll-key c.in-Err.error c.in-Err.ensures.refusals (sym c.poll_error.ensures ∙ err-same _ c.poll_error.result InvalidDBState is) in
    c.in-Err.ensures.lacks x key.0 lawful (ap Err key.1)
