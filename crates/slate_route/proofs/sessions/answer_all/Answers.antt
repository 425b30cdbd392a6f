use Rattle.std.proofs.Common.{◌≡◌, ◌++◌, ◌∷◌, [], List, length, length-append, sym, subst, ap, ◌∙◌, arith}
use Rattle.std.proofs.lemmas.List.{append-nil, append_assoc, nil_from_length}
use Rattle.slate_model.specs.Known.{known}
use Rattle.slate_route.specs.declared.commands.RouteCommand.{RouteCommand}
use Rattle.slate_route.specs.Session.{Route, RouteStep, StandFor}
use Rattle.slate_route.proofs.Running.{Done, done-next, done-none, last-pushed, runs-on, stands-holds, stands-reached}
use Rattle.slate_route.proofs.sessions.answer_all.Goals as goal

pub loop-command-init : goal.loop-command-init
loop-command-init g c = record {
  can_next = tt;
  is_finite = tt;
  faults = omega arith;
  count = c.args.answers.ok.0 ∙ ap length c.requires.empty;
  whole = sym c.into_iter-command-iterator.ensures.into_iter_gives.0;
  room = omega (arith, c.args.commands.ok.0, c.requires.room);
  options = c.requires.options;
  leads = λ first s. ([], done-none first c.args.answers.items c.requires.empty, subst (λ rs. StandFor c.args.live (known g.S.Store.objects g.S.Store.faults c.args.store.now) rs first) (sym c.new-router.ensures) s);
}

pub loop-command-preserved : goal.loop-command-preserved
loop-command-preserved g c =
    let old = c.loop-command.invariant in
    let yielded = c.loop-command.yielded in
    let command = c.in-Some.command in
    let more = length-append yielded (command ∷ []) in
    let after = known g.S.Store.objects g.S.Store.faults c.answer-answer.new.store in
    record {
      can_next = tt;
      is_finite = tt;
      faults = omega (arith, old.faults, c.answer-answer.ensures.faults);
      count = omega (arith, c.push_reserved.ensures.len, old.count, more);
      whole = old.whole ∙ (ap (λ (zs : List RouteCommand). yielded ++ zs) c.in-Some.ensures.steps.0 ∙ sym (append_assoc yielded (command ∷ []) c.next.new.self.rest.items));
      room = omega (arith, c.push_reserved.ensures.capacity, old.room);
      options = c.answer-answer.ensures.options ∙ old.options;
      leads = λ first s.
          let so_far = old.leads first s in
          let one = c.answer-answer.ensures.leads _ so_far.2 in
          let step : RouteStep = record { command = command; answer = c.answer-answer.result; route = one.0 } in (
            so_far.0 ++ step ∷ [],
            done-next first so_far.0 yielded command c.loop-command.answers.items _ c.answer-answer.result one.0 c.push_reserved.ensures.items so_far.1 one.1 (stands-reached c.answer-answer.new.live after c.answer-answer.new.router one.0 one.2),
            subst (λ (route : Route). StandFor c.answer-answer.new.live after c.answer-answer.new.router route) (sym (last-pushed first so_far.0 step)) one.2,
          );
    }

pub returns-clause-runs : goal.returns-clause-runs
returns-clause-runs g c route s =
    let rest = nil_from_length c.loop-command.command-iterator.rest.items (sym c.loop-command.command-iterator.rest.ok.0 ∙ c.in-None.ensures.steps.0) in
    let all : c.loop-command.yielded ≡ c.args.commands.items = sym (c.loop-command.invariant.whole ∙ (ap (λ (zs : List RouteCommand). c.loop-command.yielded ++ zs) rest ∙ append-nil c.loop-command.yielded)) in
    let so_far = c.loop-command.invariant.leads route s in
    let after = known g.S.Store.objects g.S.Store.faults c.loop-command.store in
    runs-on route so_far.0 c.args.commands.items c.loop-command.answers.items after (subst (λ cs. Done route cs c.loop-command.answers.items so_far.0) all so_far.1) (stands-holds c.loop-command.live after c.loop-command.router _ so_far.2)
