use Rattle.std.proofs.Common.{◌≡◌, ◌∙◌, ◌++◌, [], max, Err, None, Ok, ap, subst, sym}
use Rattle.std.proofs.lemmas.Result.{err_from_is_err_and}
use Rattle.std.specs.Option.{IfSome}
use Rattle.slate_types.specs.Line.{batches_above}
use Rattle.slate_replay.specs.Replay.{Replays}
use Rattle.slate_errors.specs.declared.errors.SlateError.TheVariants.{EmptySegmentPrefix}
use Rattle.slate_model.specs.Follower.{Follower, follower_tasks}
use Rattle.slate_follow.specs.Lagging.{IsLastTaken}
use Rattle.slate_follow.proofs.Continued.{going-lacks, gone-on}
use Rattle.slate_follow.proofs.Refusing.{err-same, lacks-some}
use Rattle.slate_follow.proofs.states.FollowerState.taking_more.Goals as goal

pub returns-clause-gone : goal.returns-clause-gone
returns-clause-gone g c =
    let e = c.in_ok-taken.ensures in
    let r = c.in_ok-replayed in
    let view = c.args.view.now in
    let old = c.args.self.now in
    let fresh = c.replay.new.memory in
    let tasks : old.tasks ≡ follower_tasks old.mode = subst (λ (f : Follower). f.result ≡ None → f.tasks ≡ follower_tasks f.mode) c.self.view_is c.self.invariant.running c.requires.open_ in
    let from_is : c.max-from.result ≡ max old.mark view.manifest.replay_after_wal_id = c.max-from.ensures ∙ ap (λ (f : Follower). max f.mark view.manifest.replay_after_wal_id) c.self.view_is in
    let t = g.S.Store.objects c.args.store.now in
    let t1 = g.S.Store.objects c.last_taken.new.store in
    let by_lag = subst (λ (f : Follower). IfSome t (λ o. IsLastTaken f.lag c.number-number.result c.max-from.result o c.in_ok-last.last)) c.self.view_is c.in_ok-last.ensures.taken in
    let reach = subst (λ n. IfSome t (λ o. IsLastTaken old.lag n c.max-from.result o c.in_ok-last.last)) c.number-number.ensures by_lag in
    let from_none = subst (λ bs. IfSome t1 (λ o. Replays c.max-from.result c.in_ok-last.last c.number-number.result bs fresh o (Ok r.replayed))) c.new-fresh.ensures r.ensures.where_modelled in
    let logs = subst (λ n. IfSome t1 (λ o. Replays c.max-from.result c.in_ok-last.last n [] fresh o (Ok r.replayed))) c.number-number.ensures from_none in
    gone-on t t1 c.in_ok-last.ensures.kept view c.in_ok-last.last c.max-from.result old from_is reach fresh r.replayed logs tasks c.requires.open_ c.in_ok-taken.taken c.reached-mark.result e.line e.found.0 c.reached-mark.ensures e.found.1

pub returns-in_err-taken-clause-lacks : goal.returns-in_err-taken-clause-lacks
returns-in_err-taken-clause-lacks g c x key lawful is =
    let p = err_from_is_err_and c.from_residual-in_err-taken.result c.from_residual-in_err-taken.ensures.1 in
    let e = c.in_err-taken.field-0.0 in
    let named : e ≡ EmptySegmentPrefix key = err-same _ e (EmptySegmentPrefix key) (sym (p.1 ∙ ap Err p.2) ∙ is) in
    let r = c.in_ok-replayed in
    let view = c.args.view.now in
    let old = c.args.self.now in
    let fresh = c.replay.new.memory in
    let from_is : c.max-from.result ≡ max old.mark view.manifest.replay_after_wal_id = c.max-from.ensures ∙ ap (λ (f : Follower). max f.mark view.manifest.replay_after_wal_id) c.self.view_is in
    let t = g.S.Store.objects c.args.store.now in
    let t1 = g.S.Store.objects c.last_taken.new.store in
    let by_lag = subst (λ (f : Follower). IfSome t (λ o. IsLastTaken f.lag c.number-number.result c.max-from.result o c.in_ok-last.last)) c.self.view_is c.in_ok-last.ensures.taken in
    let reach = subst (λ n. IfSome t (λ o. IsLastTaken old.lag n c.max-from.result o c.in_ok-last.last)) c.number-number.ensures by_lag in
    let from_none = subst (λ bs. IfSome t1 (λ o. Replays c.max-from.result c.in_ok-last.last c.number-number.result bs fresh o (Ok r.replayed))) c.new-fresh.ensures r.ensures.where_modelled in
    let logs = subst (λ n. IfSome t1 (λ o. Replays c.max-from.result c.in_ok-last.last n [] fresh o (Ok r.replayed))) c.number-number.ensures from_none in
    going-lacks t t1 c.in_ok-last.ensures.kept view c.in_ok-last.last c.max-from.result old from_is reach x fresh r.replayed logs (c.in_err-taken.ensures.lacks x key lawful (ap Err named))

pub returns-in_err-taken-clause-named : goal.returns-in_err-taken-clause-named
returns-in_err-taken-clause-named g c x key lawful is =
    let p = err_from_is_err_and c.from_residual-in_err-taken.result c.from_residual-in_err-taken.ensures.1 in
    let e = c.in_err-taken.field-0.0 in
    let named : e ≡ EmptySegmentPrefix key = err-same _ e (EmptySegmentPrefix key) (sym (p.1 ∙ ap Err p.2) ∙ is) in
    let lacks = c.in_err-taken.ensures.lacks x key lawful (ap Err named) in
    lacks-some x (batches_above c.args.view.now.manifest.last_l0_seq (c.args.self.now.line.batches ++ c.replay.new.memory)) lacks.0 lacks.1
