use Rattle.std.proofs.Common.{arith, ap, refl, sym, ◌∙◌, ◌++◌, ◌∷◌, []}
use Rattle.slate_live.proofs.Chains.{all-start, stands_start}
use Rattle.slate_live.specs.State.{Live}
use Rattle.slate_live.specs.World.{start}
use Rattle.slate_script.specs.declared.options.RunOptions.{RunOptions}
use Rattle.slate_feed.specs.Session.{feed_settings, start_fed}
use Rattle.slate_feed.proofs.Fed.{done-next, done-none, fed-over, stands-push, stands-reached}
use Rattle.slate_feed.proofs.sessions.run_commands.Goals as goal

pub loop-command-init : goal.loop-command-init
loop-command-init g c =
    record {
      faults = omega arith;
      count = c.in_ok-answers.ensures.len;
      room = c.in_ok-answers.ensures.capacity;
      options = ap (λ (l : Live). l.options) c.new-live.ensures ∙ ap (λ (o : RunOptions). o.options) c.default-options.ensures;
      leads = λ before is sound. (
        [],
        done-none (start_fed before _) _ c.in_ok-answers.ensures.items,
        record {
          represents = stands_start before _ c.new-live.result (ap (λ (l : Live). l.objects) c.new-live.ensures) (ap (λ (l : Live). l.polls) c.new-live.ensures) (ap (λ (l : Live). l.writes) c.new-live.ensures) is sound;
          segments = all-start feed_settings.extractor (start before (g.S.Store.faults c.args.store.now)) refl;
          same = c.new-feeds.ensures.items;
        },
      );
    }

pub loop-command-preserved : goal.loop-command-preserved
loop-command-preserved g c =
    record {
      faults = omega (arith, c.loop-command.invariant.faults, c.answer-answer.ensures.faults);
      count = omega (arith, c.push_reserved.ensures.len, c.loop-command.invariant.count);
      room = omega (arith, c.push_reserved.ensures.capacity, c.loop-command.invariant.room);
      options = c.answer-answer.ensures.options ∙ c.loop-command.invariant.options;
      leads = λ before is sound.
          let prev = c.loop-command.invariant.leads before is sound in
          let link = c.answer-answer.ensures.leads c.loop-command.invariant.options _ prev.2 in (
            prev.0 ++ record { command = c.command-item.result; answer = c.answer-answer.result; fed = link.0 } ∷ [],
            done-next _ prev.0 c.args.commands.now c.loop-command.command-index c.command-item.result _ _ c.answer-answer.result link.0 c.loop-command-test.true c.command-item.is c.push_reserved.ensures.items prev.1 link.1
                (stands-reached _ _ _ link.0 link.2),
            stands-push _ prev.0 c.args.commands.now c.loop-command.command-index c.command-item.result c.loop-command.answers.items c.loop-command.answers.items c.answer-answer.result link.0 _ _ _ link.2,
          );
    }

pub returns-clause-leads : goal.returns-clause-leads
returns-clause-leads g c before is sound =
    let prev = c.loop-command.invariant.leads before is sound in
    fed-over c.args.commands.now c.loop-command.command-index c.loop-command.answers.items before _ c.loop-command.live _ _ prev.0 c.loop-command-test.false prev.1 prev.2
