use Rattle.std.proofs.Common.{◌≡◌, ◌<◌, ◌+◌, ◌++◌, ◌∷◌, [], List, length, vec_len, vec_capacity, length-append, add-one, refl, sym, subst, ap, ◌∙◌, arith, rules}
use Rattle.slate_jobs.specs.declared.commands.JobAnswer.{JobAnswer}
use Rattle.slate_jobs.specs.Session.{AreOf, running}
use Rattle.slate_jobs.proofs.Running.{none-left, of-push, regrouped, run-push}
use Rattle.slate_jobs.proofs.sessions.answer_all.Goals as goal

pub push_reserved-requires : goal.push_reserved-requires
push_reserved-requires g c =
    let rest : length c.loop-command.command-iterator.rest.items ≡ length c.next.new.self.rest.items + 1 = ap length c.in-Some.ensures.steps.0 ∙ sym (add-one _) in
    let whole : length c.args.commands.items ≡ length c.loop-command.yielded + length c.loop-command.command-iterator.rest.items = ap length c.loop-command.invariant.whole ∙ length-append _ _ in
    let room : vec_len c.loop-command.answers < vec_capacity c.loop-command.answers = omega (arith, rest, whole, c.loop-command.invariant.count, c.loop-command.invariant.room) in
    search rules

pub loop-command-init : goal.loop-command-init
loop-command-init g c = record {
  can_next = tt;
  is_finite = tt;
  faults = omega arith;
  count = c.args.answers.ok.0 ∙ ap length c.requires.empty;
  whole = sym c.into_iter-command-iterator.ensures.into_iter_gives.0;
  room = omega (arith, c.args.commands.ok.0, c.requires.room);
  each = ([], subst (λ (xs : List JobAnswer). AreOf [] xs []) (sym c.requires.empty) tt);
  runs = λ o is alive. ([], o, is, subst (λ (xs : List JobAnswer). AreOf [] xs []) (sym c.requires.empty) tt, refl, alive);
}

pub loop-command-preserved : goal.loop-command-preserved
loop-command-preserved g c =
    let old = c.loop-command.answers.items in
    let more = length-append c.loop-command.yielded (c.in-Some.command ∷ []) in record {
      can_next = tt;
      is_finite = tt;
      faults = omega (arith, c.loop-command.invariant.faults, c.answer-answer.ensures.faults);
      count = omega (arith, c.push_reserved.ensures.len, c.loop-command.invariant.count, more);
      whole = regrouped c.args.commands.items c.loop-command.yielded c.loop-command.command-iterator.rest.items c.next.new.self.rest.items c.in-Some.command c.loop-command.invariant.whole c.in-Some.ensures.steps.0;
      room = omega (arith, c.push_reserved.ensures.capacity, c.loop-command.invariant.room);
      each =
          let so_far = c.loop-command.invariant.each in
          let one = c.answer-answer.ensures.fits in
          (so_far.0 ++ one.0 ∷ [], subst (λ xs. AreOf (c.loop-command.yielded ++ c.in-Some.command ∷ []) xs (so_far.0 ++ one.0 ∷ [])) (sym c.push_reserved.ensures.items) (of-push c.loop-command.yielded old so_far.0 c.in-Some.command c.answer-answer.result one.0 so_far.1 one.1));
      runs = λ o is alive.
          let so_far = c.loop-command.invariant.runs o is alive in
          let one = c.answer-answer.ensures.runs so_far.1 so_far.2 so_far.5 in
          let event = one.2.event in (
            so_far.0 ++ event ∷ [],
            one.0,
            one.1,
            subst (λ xs. AreOf (c.loop-command.yielded ++ c.in-Some.command ∷ []) xs (so_far.0 ++ event ∷ [])) (sym c.push_reserved.ensures.items) (of-push c.loop-command.yielded old so_far.0 c.in-Some.command c.answer-answer.result event so_far.3 one.2.is_event),
            run-push so_far.0 _ _ _ event so_far.4 one.2.happens,
            one.2.alive,
          );
    }

pub returns-clause-each : goal.returns-clause-each
returns-clause-each g c =
    let all = none-left c.args.commands.items c.loop-command.yielded c.loop-command.command-iterator.rest.items c.loop-command.invariant.whole (sym c.loop-command.command-iterator.rest.ok.0 ∙ c.in-None.ensures.steps.0) in
    let so_far = c.loop-command.invariant.each in
    (so_far.0, subst (λ cs. AreOf cs c.loop-command.answers.items so_far.0) all so_far.1)

pub returns-clause-runs : goal.returns-clause-runs
returns-clause-runs g c = λ o is alive.
    let all = none-left c.args.commands.items c.loop-command.yielded c.loop-command.command-iterator.rest.items c.loop-command.invariant.whole (sym c.loop-command.command-iterator.rest.ok.0 ∙ c.in-None.ensures.steps.0) in
    let so_far = c.loop-command.invariant.runs o is alive in
    record {
      events = so_far.0;
      are_of = subst (λ cs. AreOf cs c.loop-command.answers.items so_far.0) all so_far.3;
      last = running so_far.1 (g.S.Store.faults c.loop-command.store) c.loop-command.jobs;
      run = so_far.4;
      modelled = so_far.2;
      sound = so_far.5.sound;
      fault_count = refl;
    }
