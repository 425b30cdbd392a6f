use Rattle.std.proofs.Common.{◌≡◌, ◌∙◌, [], Err, Ok, ap, arith, subst, sym}
use Rattle.std.proofs.lemmas.Result.{err_from_is_err_and}
use Rattle.slate_types.proofs.Lines.{above-all}
use Rattle.slate_types.specs.Line.{batches_above}
use Rattle.slate_replay.specs.Replay.{Replays, line_of}
use Rattle.slate_errors.specs.declared.errors.SlateError.TheVariants.{EmptySegmentPrefix}
use Rattle.slate_model.specs.Follower.{number}
use Rattle.slate_follow.specs.Rebuilding.{Lacks, answer_of}
use Rattle.slate_follow.specs.Takings.{installed}
use Rattle.slate_follow.proofs.Continued.{taken-by}
use Rattle.slate_follow.proofs.Rebuilt.{if_some, some_at}
use Rattle.slate_follow.proofs.Refusing.{err-same, lacks-some}
use Rattle.slate_follow.proofs.new_log_files.taking_all.Goals as goal

pub returns-clause-builds : goal.returns-clause-builds
returns-clause-builds g c =
    λ reader open_ tasks.
    let view = c.args.view.now in
    let floor = view.manifest.last_l0_seq in
    let m = c.in_ok-memory in
    let e = c.in_ok-taken.ensures in
    let t = g.S.Store.objects c.args.store.now in
    let line = e.line ∙ ap (line_of floor) (above-all floor floor m.memory m.ensures.numbered (omega arith)) in
    if_some t (λ o at.
    record {
      batches = m.memory;
      found = m.replayed;
      logs = some_at (λ o. Replays view.manifest.replay_after_wal_id c.args.last floor [] m.memory o (Ok m.replayed)) t o at m.ensures.where_modelled;
      becomes = taken-by view reader c.in_ok-taken.taken tasks open_ _ _ line (e.found.0 ∙ c.reached-mark.ensures);
      answers = ap (λ f. answer_of f (number (installed view c.in_ok-taken.taken reader))) e.found.1;
    })

pub returns-in_err-taken-clause-lacks : goal.returns-in_err-taken-clause-lacks
returns-in_err-taken-clause-lacks g c x key lawful is =
    let p = err_from_is_err_and c.from_residual-in_err-taken.result c.from_residual-in_err-taken.ensures.1 in
    let e = c.in_err-taken.field-0.0 in
    let named : e ≡ EmptySegmentPrefix key = err-same _ e (EmptySegmentPrefix key) (sym (p.1 ∙ ap Err p.2) ∙ is) in
    let view = c.args.view.now in
    let floor = view.manifest.last_l0_seq in
    let m = c.in_ok-memory in
    let t = g.S.Store.objects c.args.store.now in
    let lacks = subst (λ bs. Lacks x bs key) (above-all floor floor m.memory m.ensures.numbered (omega arith)) (c.in_err-taken.ensures.lacks x key lawful (ap Err named)) in
    if_some t (λ o at. (m.memory, m.replayed, some_at (λ o. Replays view.manifest.replay_after_wal_id c.args.last floor [] m.memory o (Ok m.replayed)) t o at m.ensures.where_modelled, lacks))

pub returns-in_err-taken-clause-named : goal.returns-in_err-taken-clause-named
returns-in_err-taken-clause-named g c x key lawful is =
    let p = err_from_is_err_and c.from_residual-in_err-taken.result c.from_residual-in_err-taken.ensures.1 in
    let e = c.in_err-taken.field-0.0 in
    let named : e ≡ EmptySegmentPrefix key = err-same _ e (EmptySegmentPrefix key) (sym (p.1 ∙ ap Err p.2) ∙ is) in
    lacks-some x (batches_above c.args.view.now.manifest.last_l0_seq c.in_ok-memory.memory) key (c.in_err-taken.ensures.lacks x key lawful (ap Err named))
