use Rattle.std.proofs.Common.{arith, ap, refl, sym, ◌∙◌, ◌++◌, ◌∷◌, []}
use Rattle.slate_model.specs.Known.{known}
use Rattle.slate_live.specs.Calls.{goes_by_extractor, goes_by_operator}
use Rattle.slate_live.specs.Run.{none_live}
use Rattle.slate_live.specs.State.{Live}
use Rattle.slate_live.specs.World.{start}
use Rattle.slate_live.proofs.Chains.{all-start, do-all, do-next, do-none, done-next, done_none, first-true, leads_all, one-asks, reached, segments-push, stands-push, stands_start}
use Rattle.slate_live.proofs.runs.run.Goals as goal

pub loop-command-init : goal.loop-command-init
loop-command-init g c =
    record {
      faults = omega arith;
      count = c.in_ok-replies.ensures.len;
      room = c.in_ok-replies.ensures.capacity;
      options = ap (λ (l : Live). l.options) c.new-live.ensures;
      does = λ settings lawful options_are.
          do-none settings c.new-live.result (known g.S.Store.objects g.S.Store.faults c.args.store.now) c.in_ok-replies.replies.items c.in_ok-replies.ensures.items (c.new-live.ensures ∙ ap none_live (sym options_are));
      leads = λ settings lawful options_are before is sound. (
        [],
        done_none settings _ _ c.in_ok-replies.ensures.items,
        stands_start before _ c.new-live.result (ap (λ (l : Live). l.objects) c.new-live.ensures) (ap (λ (l : Live). l.polls) c.new-live.ensures) (ap (λ (l : Live). l.writes) c.new-live.ensures) is sound,
        all-start settings.extractor (start before (g.S.Store.faults c.args.store.now)) refl,
      );
    }

pub loop-command-preserved : goal.loop-command-preserved
loop-command-preserved g c =
    record {
      faults = omega (arith, c.loop-command.invariant.faults, c.apply-reply.ensures.faults);
      count = omega (arith, c.push_reserved.ensures.len, c.loop-command.invariant.count);
      room = omega (arith, c.push_reserved.ensures.capacity, c.loop-command.invariant.room);
      options = c.apply-reply.ensures.options ∙ c.loop-command.invariant.options;
      does = λ settings lawful options_are.
          let d = c.apply-reply.ensures.does settings (record { operator_is = λ asks. lawful.operator_is (one-asks goes_by_operator c.args.commands.now c.loop-command.command-index c.command-item.result c.loop-command-test.true c.command-item.is (first-true (goes_by_operator (c.command-item.result).action) _ asks)); extractor_is = λ asks. lawful.extractor_is (one-asks goes_by_extractor c.args.commands.now c.loop-command.command-index c.command-item.result c.loop-command-test.true c.command-item.is (first-true (goes_by_extractor (c.command-item.result).action) _ asks)) }) (options_are ∙ sym c.loop-command.invariant.options) in
          do-next settings _ _ _ _ _ _ c.args.commands.now c.loop-command.command-index c.command-item.result _ _ c.apply-reply.result c.loop-command-test.true c.command-item.is c.push_reserved.ensures.items (c.loop-command.invariant.does settings lawful options_are) d;
      leads = λ settings lawful options_are before is sound.
          let prev = c.loop-command.invariant.leads settings lawful options_are before is sound in
          let link = c.apply-reply.ensures.link settings (record { operator_is = λ asks. lawful.operator_is (one-asks goes_by_operator c.args.commands.now c.loop-command.command-index c.command-item.result c.loop-command-test.true c.command-item.is (first-true (goes_by_operator (c.command-item.result).action) _ asks)); extractor_is = λ asks. lawful.extractor_is (one-asks goes_by_extractor c.args.commands.now c.loop-command.command-index c.command-item.result c.loop-command-test.true c.command-item.is (first-true (goes_by_extractor (c.command-item.result).action) _ asks)) }) (options_are ∙ sym c.loop-command.invariant.options) _ prev.2 prev.3 in (
            prev.0 ++ record { command = c.command-item.result; reply = c.apply-reply.result; world = link.0 } ∷ [],
            done-next settings _ link.0 prev.0 c.args.commands.now c.loop-command.command-index c.command-item.result _ _ c.apply-reply.result c.loop-command-test.true c.command-item.is c.push_reserved.ensures.items prev.1 link.1 (reached _ _ link.0 (link.2).represents),
            stands-push _ link.0 prev.0 c.command-item.result c.apply-reply.result _ _ link.2,
            segments-push settings.extractor _ link.0 prev.0 c.command-item.result c.apply-reply.result link.3,
          );
    }

pub returns-clause-does : goal.returns-clause-does
returns-clause-does g c settings lawful options_are =
    let all = c.loop-command.invariant.does settings lawful options_are in (
      c.loop-command.live,
      do-all settings (none_live settings.options) c.loop-command.live (known g.S.Store.objects g.S.Store.faults c.args.store.now) (known g.S.Store.objects g.S.Store.faults c.loop-command.store)
          c.args.commands.now c.loop-command.command-index c.loop-command.replies.items c.loop-command-test.false all,
    )

pub returns-clause-leads : goal.returns-clause-leads
returns-clause-leads g c settings lawful options_are before is sound =
    let prev = c.loop-command.invariant.leads settings lawful options_are before is sound in
    leads_all settings c.args.commands.now c.loop-command.command-index c.loop-command.replies.items before _ c.loop-command.live _ prev.0 sound c.loop-command-test.false prev.1 prev.2
