use Rattle.std.proofs.lemmas.Option.{IfSome_then}
use Rattle.std.proofs.lemmas.Result.{err_from_is_err_and}
use Rattle.slate_replay.proofs.Logged.{from-log}
use Rattle.slate_replay.proofs.Replaying.{appended, gap, unfinished}
use Rattle.slate_replay.proofs.replays.replay_next.Goals as goal

pub returns-in_err-append_next-clause-where_modelled : goal.returns-in_err-append_next-clause-where_modelled
returns-in_err-append_next-clause-where_modelled g c =
    let p = err_from_is_err_and c.from_residual.result c.from_residual.ensures.1 in
    rw p.1
    (IfSome_then _ c.in-Ok.ensures.found
    (λ o found. unfinished c.args.id c.args.floor c.args.memory.now o c.in-Ok.log c.append_next.new.memory found _ _ (rw c.batches.ensures at c.in_err-append_next.ensures.appended)))

pub returns-then-branch-clause-where_modelled : goal.returns-then-branch-clause-where_modelled
returns-then-branch-clause-where_modelled g c =
    IfSome_then _ c.in-Ok.ensures.found
    (λ o found. appended c.args.id c.args.floor c.args.memory.now o c.in-Ok.log c.append_next.new.memory found (rw (c.if-branch.true, c.batches.ensures) at c.in_ok-append_next.ensures.appended))

pub returns-clause-where_modelled : goal.returns-clause-where_modelled
returns-clause-where_modelled g c =
    IfSome_then _ c.in-Ok.ensures.found
    (λ o found. gap c.args.id c.args.floor c.args.memory.now o c.in-Ok.log c.append_next.new.memory found (rw (c.if-branch.false, c.batches.ensures) at c.in_ok-append_next.ensures.appended))

pub returns-in_err-append_next-clause-logged : goal.returns-in_err-append_next-clause-logged
returns-in_err-append_next-clause-logged g c mark above =
    IfSome_then _ c.in-Ok.ensures.found
    (λ o found. from-log mark c.args.id o c.in-Ok.log c.args.memory.now c.append_next.new.memory above found (rw c.batches.ensures at c.in_err-append_next.ensures.from))

pub returns-then-branch-clause-logged : goal.returns-then-branch-clause-logged
returns-then-branch-clause-logged g c mark above =
    IfSome_then _ c.in-Ok.ensures.found
    (λ o found. from-log mark c.args.id o c.in-Ok.log c.args.memory.now c.append_next.new.memory above found (rw c.batches.ensures at c.in_ok-append_next.ensures.from))

pub returns-clause-logged : goal.returns-clause-logged
returns-clause-logged g c mark above =
    IfSome_then _ c.in-Ok.ensures.found
    (λ o found. from-log mark c.args.id o c.in-Ok.log c.args.memory.now c.append_next.new.memory above found (rw c.batches.ensures at c.in_ok-append_next.ensures.from))
