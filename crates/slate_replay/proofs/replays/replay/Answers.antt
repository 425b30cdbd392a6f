use Rattle.std.proofs.Common.{◌++◌, length, Ok, refl, ap, ◌∙◌, arith, length-append, append_assoc}
use Rattle.std.proofs.lemmas.Result.{err_from_is_err_and}
use Rattle.slate_store.specs.Logs.{IsLogged}
use Rattle.slate_replay.proofs.Logged.{from-then}
use Rattle.slate_replay.proofs.Replaying.{all-replayed, failed, known, next-replayed, truncated}
use Rattle.slate_replay.proofs.replays.replay.Goals as goal

pub returns-in_err-id-clause-where_modelled : goal.returns-in_err-id-clause-where_modelled
returns-in_err-id-clause-where_modelled g c =
    let i = c.loop-before.invariant in
    let l = ap length i.grows.1 ∙ length-append c.args.memory.now i.grows.0 in
    let p = err_from_is_err_and c.from_residual.result c.from_residual.ensures.1 in
    rw (p.1, p.2)
    (known _ _ i.kept i.replays c.in_err-id.ensures.where_modelled
    (λ o so_far next. failed c.args.mark c.loop-before.before c.args.floor c.args.memory.now c.loop-before.memory c.replay_next.new.memory o (omega arith) so_far (omega (arith, l)) c.args.last _ (omega arith) next))

pub returns-in-Truncated-clause-where_modelled : goal.returns-in-Truncated-clause-where_modelled
returns-in-Truncated-clause-where_modelled g c =
    let i = c.loop-before.invariant in
    let e = c.in_ok-id.ensures in
    let l = ap length i.grows.1 ∙ length-append c.args.memory.now i.grows.0 in
    known _ _ i.kept i.replays (rw c.in-Truncated.is at e.where_modelled)
    (λ o so_far next. truncated c.args.mark c.loop-before.before c.args.floor c.args.memory.now c.loop-before.memory c.replay_next.new.memory o (omega arith) so_far (omega (arith, l)) c.args.last c.in-Truncated.id (omega arith) (e.cut c.in-Truncated.id (ap Ok c.in-Truncated.is)) next)

pub loop-before-preserved : goal.loop-before-preserved
loop-before-preserved g c =
    let i = c.loop-before.invariant in
    let e = c.in_ok-id.ensures in
    let l = ap length i.grows.1 ∙ length-append c.args.memory.now i.grows.0 in
    record {
      numbered = e.numbered;
      fits = e.fits;
      grows = (i.grows.0 ++ e.grows.0, e.grows.1 ∙ (ap (λ xs. xs ++ e.grows.0) i.grows.1 ∙ append_assoc c.args.memory.now i.grows.0 e.grows.0));
      kept = e.kept ∙ i.kept;
      count = let n = e.stays in omega (arith, n, i.count);
      calls = let n = e.calls in omega (arith, n, i.calls);
      counted = let n = e.calls in omega (arith, n, i.counted);
      within = omega arith;
      replays = known _ _ i.kept i.replays (rw c.in_default.is at e.where_modelled)
          (λ o so_far next. next-replayed c.args.mark c.loop-before.before c.args.floor c.args.memory.now c.loop-before.memory c.replay_next.new.memory o (omega arith) so_far (omega (arith, l)) next);
      logged = known _ _ i.kept i.logged (e.logged c.args.mark (omega arith))
          (λ o so_far next. from-then (IsLogged c.args.mark o) c.args.memory.now c.loop-before.memory c.replay_next.new.memory so_far next);
    }

pub returns-clause-where_modelled : goal.returns-clause-where_modelled
returns-clause-where_modelled g c =
    let i = c.loop-before.invariant in
    known _ _ refl i.replays i.replays
    (λ o so_far again. all-replayed c.args.mark c.loop-before.before c.args.last c.args.floor c.args.memory.now c.loop-before.memory o (omega arith) (omega arith) so_far)

pub returns-in_err-id-clause-logged : goal.returns-in_err-id-clause-logged
returns-in_err-id-clause-logged g c =
    let i = c.loop-before.invariant in
    known _ _ i.kept i.logged (c.in_err-id.ensures.logged c.args.mark (omega arith))
    (λ o so_far next. from-then (IsLogged c.args.mark o) c.args.memory.now c.loop-before.memory c.replay_next.new.memory so_far next)

pub returns-in-Truncated-clause-logged : goal.returns-in-Truncated-clause-logged
returns-in-Truncated-clause-logged g c =
    let i = c.loop-before.invariant in
    known _ _ i.kept i.logged (c.in_ok-id.ensures.logged c.args.mark (omega arith))
    (λ o so_far next. from-then (IsLogged c.args.mark o) c.args.memory.now c.loop-before.memory c.replay_next.new.memory so_far next)
