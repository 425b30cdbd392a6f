use Rattle.std.proofs.Common.{◌≡◌, ℕ, rules, true, None, Err, IfErr, ap, subst, sym, ◌∙◌}
use Rattle.std.proofs.lemmas.Result.{err_from_is_err_and}
use Rattle.std.proofs.Math.Facts.{to_z-of_z}
use Rattle.std.specs.Int.{w64}
use Rattle.slate_errors.specs.declared.errors.SlateError.TheVariants.{NoMemory}
use Rattle.slate_model.specs.Followed.{RefusesLatest}
use Rattle.slate_model.specs.Follower.{Follower}
use Rattle.slate_model.specs.Known.{known}
use Rattle.slate_model.specs.Managed.{OpensManaged}
use Rattle.slate_model.specs.Stores.{by_objects}
use Rattle.slate_model.specs.declared.answers.PollAnswer.{PollAnswer}
use Rattle.slate_follow.proofs.Rebuilt.{built-can, built-logs, built-sees, built-segmented, built-view, if_some, lacking-refuses, some_at}
use Rattle.slate_follow.proofs.Refusing.{opening-fails, opening-lacks, opening-unnamed}
use Rattle.slate_follow.proofs.Answering.{finding-opening, rebuilding-later, rebuilding-opening}
use Rattle.slate_follow.proofs.Continued.{builds-truncates, leased-truncates}
use Rattle.slate_follow.proofs.Handed.{handed}
use Rattle.slate_follow.specs.Answering.{IsOfLatest, IsOfOpening}
use Rattle.slate_follow.specs.Keeping.{CallsRefused}
use Rattle.slate_follow.specs.Rebuilding.{Builds}
use Rattle.slate_store.specs.declared.reader_modes.DbReaderMode.TheVariants.{ManagedCheckpoint}
use Rattle.slate_follow.proofs.states.FollowerState.open.Goals as goal

pub returns-clause-rebuilds : goal.returns-clause-rebuilds
returns-clause-rebuilds g c x lawful = λ unmanaged.
    let v = c.in_ok-view in
    let b = c.in_ok-rebuilt in
    let mode = c.args.mode in
    let skips = c.args.options.now.skip_wal_replay in
    let found = v.ensures.where_modelled in
    let built = b.ensures.built in
    let s = b.ensures.segments x lawful in
    rw (c.in_ok-new.ensures ∙ ap (λ l. record b.rebuilt { lease = l }) (sym b.ensures.answer.0))
    (record {
      kept = search rules;
      faults = search rules;
      missing = λ is. absurd (cc);
      cause = tt;
      fits = λ o at. some_at (λ o. RefusesLatest x true o None) (g.S.Store.objects c.args.store.now) o at (v.ensures.follows x lawful);
      answer = search rules;
      can = built-can mode skips true c.args.options.now.max_lag v.view v.last b.rebuilt b.answer v.ensures.kept found built;
      logs = λ o at free reads _. built-logs mode skips true c.args.options.now.max_lag v.view v.last b.rebuilt b.answer v.ensures.kept found built o at free reads;
      sees = λ o line at stored seen. built-sees mode skips true c.args.options.now.max_lag v.view v.last b.rebuilt b.answer v.ensures.kept found built o line at stored;
      segmented = λ o line at stored seen. built-segmented mode skips true c.args.options.now.max_lag v.view v.last b.rebuilt b.answer v.ensures.kept found built x s.1 o line at stored;
      segments = λ opens. s.0;
    })

pub returns-in_err-view-clause-rebuilds : goal.returns-in_err-view-clause-rebuilds
returns-in_err-view-clause-rebuilds g c x lawful = λ unmanaged.
    let p = err_from_is_err_and c.from_residual.result c.from_residual.ensures.1 in
    let v = c.in_err-view.ensures in
    let mode = c.args.mode in
    let skips = c.args.options.now.skip_wal_replay in
    rw (p.1, p.2)
    (record {
      kept = search rules;
      faults = search rules;
      missing = search rules;
      cause = v.follows x lawful;
      fits = tt;
      answer = tt;
      can = tt;
      logs = tt;
      sees = tt;
      segmented = λ o line at stored seen. opening-unnamed x mode (g.S.Store.objects c.args.store.now) (Follower × PollAnswer) skips c.in_err-view.field-0.0 (λ key is. v.whole key (ap Err is)) o line;
      segments = tt;
    })

pub returns-in_err-rebuilt-clause-rebuilds : goal.returns-in_err-rebuilt-clause-rebuilds
returns-in_err-rebuilt-clause-rebuilds g c x lawful = λ unmanaged.
    let p = err_from_is_err_and c.from_residual-in_err-rebuilt.result c.from_residual-in_err-rebuilt.ensures.1 in
    let v = c.in_ok-view in
    let b = c.in_err-rebuilt.ensures in
    let e = c.in_err-rebuilt.field-0.0 in
    let mode = c.args.mode in
    let skips = c.args.options.now.skip_wal_replay in
    let t = g.S.Store.objects c.args.store.now in
    rw (p.1, p.2)
    (record {
      kept = search rules;
      faults = search rules;
      missing = λ is. absurd (b.faults.none_missing is);
      cause = opening-fails x mode t e b.refusals (v.ensures.follows x lawful);
      fits = tt;
      answer = tt;
      can = tt;
      logs = tt;
      sees = tt;
      segmented = λ o line at stored seen. opening-lacks x mode t (Follower × PollAnswer) skips e o line
          (λ key is. lacking-refuses x mode skips true v.view v.last key v.ensures.kept v.ensures.where_modelled (b.lacks x key lawful (ap Err is)) o line at stored);
      segments = tt;
    })

pub returns-in_err-new-clause-rebuilds : goal.returns-in_err-new-clause-rebuilds
returns-in_err-new-clause-rebuilds g c x lawful = λ unmanaged.
    let p = err_from_is_err_and c.from_residual-in_err-new.result c.from_residual-in_err-new.ensures.1 in
    let v = c.in_ok-view in
    let mode = c.args.mode in
    let skips = c.args.options.now.skip_wal_replay in
    let t = g.S.Store.objects c.args.store.now in
    rw (p.1, p.2)
    (record {
      kept = search rules;
      faults = search rules;
      missing = λ is. absurd (cc);
      cause = opening-fails x mode t NoMemory tt (v.ensures.follows x lawful);
      fits = tt;
      answer = tt;
      can = tt;
      logs = tt;
      sees = tt;
      segmented = λ o line at stored seen. opening-unnamed x mode t (Follower × PollAnswer) skips NoMemory (λ key is. absurd (cc)) o line;
      segments = tt;
    })

pub returns-clause-replays : goal.returns-clause-replays
returns-clause-replays g c = λ unmanaged.
    let v = c.in_ok-view in
    let b = c.in_ok-rebuilt in
    let mode = c.args.mode in
    let skips = c.args.options.now.skip_wal_replay in
    rw (c.in_ok-new.ensures ∙ ap (λ l. record b.rebuilt { lease = l }) (sym b.ensures.answer.0))
    (if_some _ (built-view mode skips true c.args.options.now.max_lag v.view v.last b.rebuilt b.answer v.ensures.kept v.ensures.where_modelled b.ensures.built))

pub returns-then-eq-clause-managed : goal.returns-then-eq-clause-managed
returns-then-eq-clause-managed g c x lawful = λ managed.
    let o = c.args.options.now in
    subst (λ m. (made : ℕ) × OpensManaged (by_objects (g.S.Store.objects c.args.store.now)) x made o.checkpoint_lifetime_ms o.manifest_poll_interval_ms o.skip_wal_replay o.max_lag m (known g.S.Store.objects g.S.Store.faults c.args.store.now) c.open_managed.result (known g.S.Store.objects g.S.Store.faults c.open_managed.new.store))
    (to_z-of_z {w = w64} (search rules)) (c.open_managed.ensures.opens x lawful)

-- ---- what it hands over to the next poll
pub returns-clause-handed : goal.returns-clause-handed
returns-clause-handed g c x lawful = λ unmanaged free.
    let v = c.in_ok-view in
    let b = c.in_ok-rebuilt in
    let mode = c.args.mode in
    let skips = c.args.options.now.skip_wal_replay in
    let t = g.S.Store.objects c.args.store.now in
    rw (c.in_ok-new.ensures ∙ ap (λ l. record b.rebuilt { lease = l }) (sym b.ensures.answer.0))
    (λ o line at stored. handed t o line mode skips true c.args.options.now.max_lag b.rebuilt b.answer at stored (built-can mode skips true c.args.options.now.max_lag v.view v.last b.rebuilt b.answer v.ensures.kept v.ensures.where_modelled b.ensures.built o at) free
    (built-sees mode skips true c.args.options.now.max_lag v.view v.last b.rebuilt b.answer v.ensures.kept v.ensures.where_modelled b.ensures.built o line at stored))

-- ---- which errors it answers, and which of them after one call
pub returns-in_err-view-clause-errors : goal.returns-in_err-view-clause-errors
returns-in_err-view-clause-errors g c =
    let p = err_from_is_err_and c.from_residual.result c.from_residual.ensures.1 in
    rw (p.1, p.2) (finding-opening c.args.mode c.in_err-view.field-0.0 c.in_err-view.ensures.kind)

pub returns-in_err-rebuilt-clause-errors : goal.returns-in_err-rebuilt-clause-errors
returns-in_err-rebuilt-clause-errors g c =
    let p = err_from_is_err_and c.from_residual-in_err-rebuilt.result c.from_residual-in_err-rebuilt.ensures.1 in
    rw (p.1, p.2) (rebuilding-opening c.args.mode c.in_err-rebuilt.field-0.0 c.in_err-rebuilt.ensures.refusals)

pub returns-in_err-rebuilt-clause-first : goal.returns-in_err-rebuilt-clause-first
returns-in_err-rebuilt-clause-first g c = λ unmanaged.
    let p = err_from_is_err_and c.from_residual-in_err-rebuilt.result c.from_residual-in_err-rebuilt.ensures.1 in
    rw (p.1, p.2) (λ first. absurd (rebuilding-later c.in_err-rebuilt.field-0.0 c.in_err-rebuilt.ensures.refusals first))

pub returns-then-eq-clause-errors : goal.returns-then-eq-clause-errors
returns-then-eq-clause-errors g c =
    let managed : c.args.mode ≡ ManagedCheckpoint = search rules in
    subst (λ m. IfErr c.open_managed.result (IsOfOpening m)) (sym managed) c.open_managed.ensures.kind

pub returns-clause-truncates : goal.returns-clause-truncates
returns-clause-truncates g c =
    let v = c.in_ok-view in
    let b = c.in_ok-rebuilt in
    let skips = c.args.options.now.skip_wal_replay in
    let t1 = g.S.Store.objects c.find_view.new.store in
    let t' = g.S.Store.objects c.rebuild.new.store in
    rw c.in_ok-new.ensures
    (if_some t' (λ o at. leased-truncates o b.rebuilt None b.answer
    (builds-truncates o c.args.mode skips c.args.options.now.max_lag v.view v.last b.rebuilt b.answer (some_at (λ o. Builds o c.args.mode skips c.args.options.now.max_lag v.view v.last b.rebuilt b.answer) t1 o (sym b.ensures.kept ∙ at) b.ensures.built))))

-- ---- of one that keeps a checkpoint: options that are refused touch no store, and what the latest manifest decides takes one call
pub returns-then-eq-clause-refused : goal.returns-then-eq-clause-refused
returns-then-eq-clause-refused g c = λ managed. c.open_managed.ensures.refused

pub returns-then-eq-clause-first_managed : goal.returns-then-eq-clause-first_managed
returns-then-eq-clause-first_managed g c x o lawful = λ managed at. c.open_managed.ensures.first x o lawful at

pub returns-then-eq-clause-tries_managed : goal.returns-then-eq-clause-tries_managed
returns-then-eq-clause-tries_managed g c = λ managed.
    let n = g.S.Store.calls c.args.store.now in
    let n' = g.S.Store.calls c.open_managed.new.store in
    subst (λ m. IfErr c.open_managed.result (λ error. IsOfLatest error → CallsRefused c.args.options.now.checkpoint_lifetime_ms m (g.S.Store.objects c.args.store.now) n n')) (to_z-of_z {w = w64} {z = c.args.moment} (search rules)) c.open_managed.ensures.tries
