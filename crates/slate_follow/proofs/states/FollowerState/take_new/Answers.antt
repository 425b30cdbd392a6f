use Rattle.std.proofs.Common.{rules, inl, inr, ◌≡◌, ℕ, List, ◌∙◌, Err, ap, refl, subst, sym}
use Rattle.std.proofs.lemmas.Result.{err_from_is_err_and}
use Rattle.std.specs.Option.{IfSome}
use Rattle.slate_errors.specs.declared.errors.SlateError.TheVariants.{EmptySegmentPrefix}
use Rattle.slate_model.specs.Follower.{Follower}
use Rattle.slate_model.specs.declared.answers.PollAnswer.{PollAnswer}
use Rattle.slate_follow.specs.Rebuilding.{TakesUnder, TakingLacks, unleased}
use Rattle.slate_follow.proofs.Answering.{latest-taking, latest-valid, rebuilding-taking}
use Rattle.slate_follow.proofs.Continued.{took-truncates, taken-can, taken-logs, taken-refuses, taken-sees, taken-some, taken-view}
use Rattle.slate_follow.proofs.Counted.{follow-below, follow-costs}
use Rattle.slate_follow.proofs.Rebuilt.{if_some, some_at}
use Rattle.slate_follow.proofs.Refusing.{err-same, latest-fails, plain-error, poll-fails, poll-lacks, poll-present, poll-rises, poll-unnamed}
use Rattle.slate_follow.proofs.states.FollowerState.take_new.Goals as goal

pub returns-clause-rebuilds : goal.returns-clause-rebuilds
returns-clause-rebuilds g c x lawful =
    let v = c.in_ok-latest in
    let a = c.in_ok-answer in
    let old = c.args.self.now in
    let new = c.follow.new.self in
    let free = c.requires.free in
    let bare : unleased new ≡ new = ap (λ l. record new { lease = l }) (sym (a.ensures.asked.3 ∙ c.requires.unleased)) in
    let took = subst (λ (f : Follower). IfSome (g.S.Store.objects c.latest_of.new.store) (λ o. TakesUnder o v.latest old f a.answer)) bare a.ensures.taken in
    record {
      kept = search rules;
      faults = search rules;
      missing = λ is. absurd (cc);
      cause = tt;
      answer = (a.ensures.asked.0, a.ensures.asked.1, a.ensures.asked.2, a.ensures.asked.3 ∙ c.requires.unleased, a.ensures.asked.4, a.ensures.asked.6);
      can = taken-can v.ensures.kept v.latest v.ensures.found old new a.answer free took a.ensures.asked.5;
      logs = λ o at unpinned reads may. taken-logs v.ensures.kept v.latest v.ensures.found old new a.answer free took o at unpinned reads (elim may [ inl opens ↦ absurd (cc) | inr none ↦ none ]);
      sees = taken-sees v.ensures.kept v.latest v.ensures.found old new a.answer free took;
      fits = λ o at. (v.latest, some_at _ (g.S.Store.objects c.args.store.now) o at v.ensures.found, refl);
      segmented = λ o line at stored seen. tt;
      segments = λ opens. absurd (cc);
    }

pub returns-clause-replays : goal.returns-clause-replays
returns-clause-replays g c =
    let v = c.in_ok-latest in
    let a = c.in_ok-answer in
    let old = c.args.self.now in
    let new = c.follow.new.self in
    let bare : unleased new ≡ new = ap (λ l. record new { lease = l }) (sym (a.ensures.asked.3 ∙ c.requires.unleased)) in
    let took = subst (λ (f : Follower). IfSome (g.S.Store.objects c.latest_of.new.store) (λ o. TakesUnder o v.latest old f a.answer)) bare a.ensures.taken in
    if_some _ (taken-view v.ensures.kept v.latest v.ensures.found old new a.answer c.requires.free took)

pub returns-in_err-latest-clause-rebuilds : goal.returns-in_err-latest-clause-rebuilds
returns-in_err-latest-clause-rebuilds g c x lawful =
    let p = err_from_is_err_and c.from_residual.result c.from_residual.ensures.1 in
    let v = c.in_err-latest.ensures in
    let e = c.in_err-latest.field-0.0 in
    let whole : (key : List ℕ) → e ≡ EmptySegmentPrefix key → ⊥ = λ key is. v.whole key (ap Err is) in
    let same = plain-error e whole in
    let old = c.args.self.now in
    let t = g.S.Store.objects c.args.store.now in
    rw (p.1, p.2, same)
    (record {
      kept = search rules;
      faults = search rules;
      missing = search rules;
      cause = latest-fails x old.mode t e v.found;
      fits = tt;
      answer = tt;
      can = tt;
      logs = tt;
      sees = tt;
      segmented = λ o line at stored seen. poll-unnamed x old.mode t (Follower × PollAnswer) old.skips e whole (latest-valid e v.kind) o line;
      segments = tt;
    })

pub returns-in_err-answer-clause-rebuilds : goal.returns-in_err-answer-clause-rebuilds
returns-in_err-answer-clause-rebuilds g c x lawful =
    let p = err_from_is_err_and c.from_residual-in_err-answer.result c.from_residual-in_err-answer.ensures.1 in
    let v = c.in_ok-latest in
    let b = c.in_err-answer.ensures in
    let e = c.in_err-answer.field-0.0 in
    let old = c.args.self.now in
    let t = g.S.Store.objects c.args.store.now in
    let lacks : (key : List ℕ) → e ≡ EmptySegmentPrefix key → IfSome (g.S.Store.objects c.latest_of.new.store) (λ o. TakingLacks x o v.latest old) = λ key is. b.lacks x key lawful (ap Err is) in
    rw (p.1, p.2)
    (record {
      kept = search rules;
      faults = poll-rises _ _ e _ _ _ v.ensures.faults.stays b.faults;
      missing = λ is. absurd (poll-present _ _ e _ _ b.faults is);
      cause = poll-fails x old.mode t e b.refusals (λ key is. taken-some x v.latest old v.ensures.kept (lacks key is));
      fits = tt;
      answer = tt;
      can = tt;
      logs = tt;
      sees = tt;
      segmented = λ o line at stored seen. poll-lacks x old.mode t (Follower × PollAnswer) old.skips e b.refusals o line
          (λ key is. taken-refuses x v.latest old v.ensures.kept c.requires.free v.ensures.found (lacks key is) o line at stored seen);
      segments = tt;
    })

-- ---- how often it calls the store
pub returns-clause-calls : goal.returns-clause-calls
returns-clause-calls g c =
    follow-below c.in_ok-latest.latest _ _ c.in_ok-latest.ensures.kept c.in_ok-latest.ensures.found c.args.self.now c.requires.free _ _ _ c.in_ok-latest.ensures.calls c.in_ok-answer.ensures.calls

pub returns-in_err-answer-clause-calls : goal.returns-in_err-answer-clause-calls
returns-in_err-answer-clause-calls g c =
    follow-below c.in_ok-latest.latest _ _ c.in_ok-latest.ensures.kept c.in_ok-latest.ensures.found c.args.self.now c.requires.free _ _ _ c.in_ok-latest.ensures.calls c.in_err-answer.ensures.calls

pub returns-clause-costs : goal.returns-clause-costs
returns-clause-costs g c =
    follow-costs c.in_ok-latest.latest _ _ c.in_ok-latest.ensures.kept c.in_ok-latest.ensures.found c.args.self.now _ _ _ c.in_ok-latest.ensures.calls c.in_ok-answer.ensures.calls

-- ---- which errors it answers
pub returns-in_err-latest-clause-kind : goal.returns-in_err-latest-clause-kind
returns-in_err-latest-clause-kind g c =
    let p = err_from_is_err_and c.from_residual.result c.from_residual.ensures.1 in
    rw (p.1, p.2) (latest-taking c.in_err-latest.field-0.0 c.in_err-latest.ensures.kind)

pub returns-in_err-answer-clause-kind : goal.returns-in_err-answer-clause-kind
returns-in_err-answer-clause-kind g c =
    let p = err_from_is_err_and c.from_residual-in_err-answer.result c.from_residual-in_err-answer.ensures.1 in
    rw (p.1, p.2) (rebuilding-taking c.in_err-answer.field-0.0 c.in_err-answer.ensures.refusals)

pub returns-in_err-answer-clause-named : goal.returns-in_err-answer-clause-named
returns-in_err-answer-clause-named g c x key lawful is =
    let p = err_from_is_err_and c.from_residual-in_err-answer.result c.from_residual-in_err-answer.ensures.1 in
    let e = c.in_err-answer.field-0.0 in
    let named : e ≡ EmptySegmentPrefix key = err-same PollAnswer e (EmptySegmentPrefix key) (sym (p.1 ∙ ap Err p.2) ∙ is) in
    c.in_err-answer.ensures.named x key lawful (ap Err named)

pub returns-in_err-latest-clause-named : goal.returns-in_err-latest-clause-named
returns-in_err-latest-clause-named g c x key lawful is =
    let p = err_from_is_err_and c.from_residual.result c.from_residual.ensures.1 in
    let e = c.in_err-latest.field-0.0 in
    let named : e ≡ EmptySegmentPrefix key = err-same PollAnswer e (EmptySegmentPrefix key) (sym (p.1 ∙ ap Err p.2) ∙ is) in
    absurd (c.in_err-latest.ensures.whole key (ap Err named))

pub returns-clause-truncates : goal.returns-clause-truncates
returns-clause-truncates g c =
    let v = c.in_ok-latest in
    let a = c.in_ok-answer in
    let old = c.args.self.now in
    let new = c.follow.new.self in
    let bare : unleased new ≡ new = ap (λ l. record new { lease = l }) (sym (a.ensures.asked.3 ∙ c.requires.unleased)) in
    let took = subst (λ (f : Follower). IfSome (g.S.Store.objects c.latest_of.new.store) (λ o. TakesUnder o v.latest old f a.answer)) bare a.ensures.taken in
    if_some _ (λ o at. took-truncates o v.latest old new a.answer (some_at (λ o. TakesUnder o v.latest old new a.answer) (g.S.Store.objects c.latest_of.new.store) o (v.ensures.kept ∙ at) took))
