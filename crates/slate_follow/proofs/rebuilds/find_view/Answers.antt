use Rattle.std.proofs.Common.{◌≡◌, ℕ, ◌+◌, ◌≤◌, Bool, true, false, cond, None, Err, ap, sym, ◌∙◌, arith}
use Rattle.std.proofs.lemmas.Result.{err_from_is_err_and}
use Rattle.slate_types.specs.Counts.{one_more}
use Rattle.slate_model.specs.Follower.{is_pinned}
use Rattle.slate_follow.proofs.Refusing.{err-same, last-fails, latest-refuses, view-fails, view-unnamed}
use Rattle.slate_follow.proofs.Answering.{replay-finding, replay-later, view-finding}
use Rattle.slate_follow.proofs.rebuilds.find_view.Goals as goal

pub returns-clause-follows : goal.returns-clause-follows
returns-clause-follows g c x lawful =
    let latest = c.in-Some.latest in
    latest-refuses (g.S.Store.objects c.args.store.now) x true c.in_ok-latest.field-0 latest None c.in-Some.is c.in_ok-latest.ensures.found (sym (c.in_ok-refusal.ensures.refusal x lawful) ∙ c.in_default-2.is)

pub returns-in_err-view-clause-follows : goal.returns-in_err-view-clause-follows
returns-in_err-view-clause-follows g c x lawful =
    let p = err_from_is_err_and c.from_residual-in_err-view.result c.from_residual-in_err-view.ensures.1 in
    let v = c.in_err-view.ensures in
    rw (p.1, p.2) (view-fails x c.args.following.mode true c.in_ok-latest.field-0 c.in-Some.latest c.in_err-view.field-0.0 c.in_ok-latest.ensures.kept c.in-Some.is c.in_ok-latest.ensures.found
    (sym (c.in_ok-refusal.ensures.refusal x lawful) ∙ c.in_default-2.is) v.where_modelled)

pub returns-in_err-last-clause-follows : goal.returns-in_err-last-clause-follows
returns-in_err-last-clause-follows g c x lawful =
    let p = err_from_is_err_and c.from_residual-in_err-last.result c.from_residual-in_err-last.ensures.1 in
    rw (p.1, p.2) (last-fails (g.S.Store.objects c.args.store.now) x c.args.following.mode true c.in_err-last.field-0.0 c.in_err-last.ensures.refusals)

pub returns-in_err-view-clause-whole : goal.returns-in_err-view-clause-whole
returns-in_err-view-clause-whole g c key is =
    let p = err_from_is_err_and c.from_residual-in_err-view.result c.from_residual-in_err-view.ensures.1 in
    view-unnamed c.args.following.mode c.in_err-view.field-0.0 key c.in_err-view.ensures.kind (err-same _ _ _ (sym (p.1 ∙ ap Err p.2) ∙ is))

-- a call for the latest manifest, and one more for the view or for the last log file
two-calls : (pinned : Bool) (before first view last : ℕ) → first ≡ one_more before → view ≤ first + cond pinned 1 0 → last ≤ view + cond pinned 0 1 → last ≤ before + 2
two-calls true before first view last one some none = omega (arith, one, some, none)
two-calls false before first view last one none some = omega (arith, one, some, none)

pub returns-in_err-last-clause-calls : goal.returns-in_err-last-clause-calls
returns-in_err-last-clause-calls g c =
    two-calls (is_pinned c.args.following.mode) _ _ _ _ c.in_ok-latest.ensures.counts.call_count c.in_ok-view.ensures.calls c.in_err-last.ensures.calls

pub returns-in_err-view-clause-kind : goal.returns-in_err-view-clause-kind
returns-in_err-view-clause-kind g c =
    let p = err_from_is_err_and c.from_residual-in_err-view.result c.from_residual-in_err-view.ensures.1 in
    rw (p.1, p.2) (view-finding c.args.following.mode c.in_err-view.field-0.0 c.in_err-view.ensures.kind)

pub returns-in_err-last-clause-kind : goal.returns-in_err-last-clause-kind
returns-in_err-last-clause-kind g c =
    let p = err_from_is_err_and c.from_residual-in_err-last.result c.from_residual-in_err-last.ensures.1 in
    rw (p.1, p.2) (replay-finding c.args.following.mode c.in_err-last.field-0.0 c.in_err-last.ensures.refusals)

pub returns-in_err-last-clause-first : goal.returns-in_err-last-clause-first
returns-in_err-last-clause-first g c =
    let p = err_from_is_err_and c.from_residual-in_err-last.result c.from_residual-in_err-last.ensures.1 in
    rw (p.1, p.2) (λ first. absurd (replay-later c.in_err-last.field-0.0 c.in_err-last.ensures.refusals first))
