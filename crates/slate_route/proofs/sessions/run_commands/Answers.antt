use Rattle.std.proofs.Common.{◌≡◌, ◌++◌, ◌∷◌, [], List, inl, inr, subst, ap, ◌∙◌}
use Rattle.slate_model.specs.Known.{known}
use Rattle.slate_script.specs.declared.commands.Command.{Command}
use Rattle.slate_script.specs.declared.options.RunOptions.{RunOptions}
use Rattle.slate_script.specs.declared.replies.Reply.{Reply}
use Rattle.slate_live.specs.State.{Live}
use Rattle.slate_live.specs.Stepping.{IsDone}
use Rattle.slate_live.specs.Valid.{Link}
use Rattle.slate_live.specs.World.{start}
use Rattle.slate_route.specs.declared.commands.RouteAnswer.{RouteAnswer}
use Rattle.slate_route.specs.declared.commands.RouteAnswer.TheVariants.{Replied}
use Rattle.slate_route.specs.Session.{opening, route_settings}
use Rattle.slate_route.proofs.Running.{none_yet, opening-leads}
use Rattle.slate_route.proofs.sessions.run_commands.Goals as goal

pub returns-in-Handle-clause-answers : goal.returns-in-Handle-clause-answers
returns-in-Handle-clause-answers g c =
    let before = known g.S.Store.objects g.S.Store.faults c.args.store.now in
    let between = known g.S.Store.objects g.S.Store.faults c.run.new.store in
    let empty : c.new-live.result ≡ none_yet = c.new-live.ensures ∙ ap (λ (o : RunOptions). let live : Live = record { options = o.options; objects = []; polls = []; writes = [] } in live) c.default-options.ensures in
    record {
      each = inl c.answer_all.ensures.each;
      honest = λ o at sound.
          let done = subst (λ (x : Command). IsDone route_settings none_yet before x c.run.result c.run.new.live between) c.open.ensures (subst (λ (l : Live). IsDone route_settings l before c.open.result.command c.run.result c.run.new.live between) empty c.run.ensures.done) in
          let opened = opening-leads o c.run.new.live before between c.run.result at sound done in
          let stands = opened.stands c.in-Handle.object c.in-Handle.is in
          inl (record { first = opened.world; opens = subst (λ (r : Reply). Link route_settings (start o before.faults) opening r opened.world) stands.0 opened.link; runs = c.answer_all.ensures.runs _ stands.1 });
    }

pub returns-in_default : goal.returns-in_default
returns-in_default g c =
    let before = known g.S.Store.objects g.S.Store.faults c.args.store.now in
    let between = known g.S.Store.objects g.S.Store.faults c.run.new.store in
    let empty : c.new-live.result ≡ none_yet = c.new-live.ensures ∙ ap (λ (o : RunOptions). let live : Live = record { options = o.options; objects = []; polls = []; writes = [] } in live) c.default-options.ensures in
    let one : c.push_reserved.new.self.items ≡ Replied c.run.result ∷ [] = c.push_reserved.ensures.items ∙ ap (λ (xs : List RouteAnswer). xs ++ Replied c.run.result ∷ []) c.in_ok-answers.ensures.items in
    record {
      faults = c.run.ensures.faults;
      nothing = tt;
      answers = record {
        each = inr (c.run.result, one, c.in_default.not-Handle);
        honest = λ o at sound.
            let done = subst (λ (x : Command). IsDone route_settings none_yet before x c.run.result c.run.new.live between) c.open.ensures (subst (λ (l : Live). IsDone route_settings l before c.open.result.command c.run.result c.run.new.live between) empty c.run.ensures.done) in
            let opened = opening-leads o c.run.new.live before between c.run.result at sound done in
            inr (record { reply = c.run.result; answers_are = one; refused = c.in_default.not-Handle; last = opened.world; opens = opened.link; left = opened.left });
      };
    }
