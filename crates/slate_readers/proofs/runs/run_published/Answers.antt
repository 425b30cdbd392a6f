use Rattle.std.proofs.Common.{◌≡◌, ◌∙◌, ◌+◌, ◌++◌, ◌∷◌, [], List, length, arith, ap, refl, sym, subst, take}
use Rattle.std.proofs.lemmas.List.{take_all}
use Rattle.slate_types.specs.declared.batches.Batch.{Batch}
use Rattle.slate_reads.specs.Read.{IsOperator}
use Rattle.slate_model.specs.Known.{Known, known}
use Rattle.slate_model.specs.Segments.{IsExtractor}
use Rattle.slate_script.specs.declared.commands.Command.{Command}
use Rattle.slate_script.specs.declared.replies.Reply.{Reply}
use Rattle.slate_live.specs.Run.{DoAll, none_live}
use Rattle.slate_live.specs.Settings.{Settings}
use Rattle.slate_live.specs.State.{Live}
use Rattle.slate_store.specs.Objects.{Objects}
use Rattle.slate_readers.specs.Aired.{Aired}
use Rattle.slate_readers.proofs.Publishing.{IsPublishing, publishing-all, publishing-next, publishing-none, take-next}
use Rattle.slate_readers.proofs.runs.run_published.Goals as goal

-- no command was done yet
do-none : (settings : Settings) (live : Live) (store : Known (List Batch)) (replies : List Reply) → replies ≡ [] → live ≡ none_live settings.options → DoAll settings (none_live settings.options) store [] replies live store
do-none settings live store replies none fresh = subst (λ rs. DoAll settings (none_live settings.options) store [] rs live store) (sym none) (fresh, refl)

pub loop-command-init : goal.loop-command-init
loop-command-init g c =
    let count : length c.args.replies.now.items ≡ 0 = ap length c.requires.room.0 in
    record {
      faults = omega arith;
      count = omega arith;
      room = c.requires.room.1;
      options = ap (λ (l : Live). l.options) c.new-live.ensures;
      origin = refl;
      does = λ settings lawful extracts options_are. do-none settings c.new-live.result (known g.S.Store.objects g.S.Store.faults c.args.store.now) c.args.replies.now.items c.requires.room.0 (c.new-live.ensures ∙ ap none_live (sym options_are));
      leads = λ settings lawful extracts options_are before is sound.
          publishing-none c.commands_lead_on.ensures.begins settings before c.new-live.result (known g.S.Store.objects g.S.Store.faults c.args.store.now) c.args.replies.now.items c.args.broadcast.now (c.new-live.ensures ∙ ap none_live (sym options_are)) c.requires.room.0 c.requires.new.0 c.requires.new.1 is sound;
    }

pub loop-command-preserved : goal.loop-command-preserved
loop-command-preserved g c =
    let command = c.command-item.result in
    let reply = c.apply-reply.result in
    let i = c.loop-command.command-index in
    let more : take (i + 1) c.args.script.now.commands.now ≡ take i c.args.script.now.commands.now ++ command ∷ [] = take-next c.args.script.now.commands.now i command c.loop-command-test.true c.command-item.is in
    let store = known g.S.Store.objects g.S.Store.faults c.loop-command.store in
    let store' = known g.S.Store.objects g.S.Store.faults c.apply-reply.new.store in
    record {
      faults = omega (arith, c.loop-command.invariant.faults, c.apply-reply.ensures.faults);
      count = omega (arith, c.push_reserved.ensures.len, c.loop-command.invariant.count);
      room = omega (arith, c.push_reserved.ensures.capacity, c.loop-command.invariant.room);
      options = c.apply-reply.ensures.options ∙ c.loop-command.invariant.options;
      origin = c.show.ensures.origin ∙ c.loop-command.invariant.origin;
      does = λ settings lawful extracts options_are.
          let done = c.apply-reply.ensures.does settings (record { operator_is = λ _. subst (λ o. IsOperator g.M.MergeOperator.may_answer o settings.merge) (sym c.as_ref-operator.ensures.value) lawful; extractor_is = λ _. subst (λ o. IsExtractor g.E.PrefixExtractor.may_name g.E.PrefixExtractor.may_extract o settings.extractor) (sym c.as_ref-extractor.ensures.value) extracts }) (options_are ∙ sym c.loop-command.invariant.options) in
          let all = c.commands_lead_on.ensures.done settings (none_live settings.options) c.loop-command.live c.apply-reply.new.self (known g.S.Store.objects g.S.Store.faults c.args.store.now) store store' (take i c.args.script.now.commands.now) c.loop-command.replies.items command reply
          (c.loop-command.invariant.does settings lawful extracts options_are) done in
          subst (λ cs. DoAll settings (none_live settings.options) (known g.S.Store.objects g.S.Store.faults c.args.store.now) cs c.push_reserved.new.self.items c.apply-reply.new.self store') (sym more)
          (subst (λ rs. DoAll settings (none_live settings.options) (known g.S.Store.objects g.S.Store.faults c.args.store.now) (take i c.args.script.now.commands.now ++ command ∷ []) rs c.apply-reply.new.self store') (sym c.push_reserved.ensures.items) all);
      leads = λ settings lawful extracts options_are before is sound.
          let prev = c.loop-command.invariant.leads settings lawful extracts options_are before is sound in
          let link = c.apply-reply.ensures.link settings (record { operator_is = λ _. subst (λ o. IsOperator g.M.MergeOperator.may_answer o settings.merge) (sym c.as_ref-operator.ensures.value) lawful; extractor_is = λ _. subst (λ o. IsExtractor g.E.PrefixExtractor.may_name g.E.PrefixExtractor.may_extract o settings.extractor) (sym c.as_ref-extractor.ensures.value) extracts }) (options_are ∙ sym c.loop-command.invariant.options) _ (prev.led).represents (prev.led).segments in
          let next = publishing-next c.commands_lead_on.ensures.each settings before (g.S.Store.faults c.args.store.now) (take i c.args.script.now.commands.now) c.loop-command.replies.items c.loop-command.live store c.loop-command.broadcast prev command reply link.0 c.apply-reply.new.self store' c.show.new.self
          link.1 link.2 link.3 c.show.ensures.place c.show.ensures.whole (c.show.ensures.shows store' link.0 link.2) in
          subst (λ cs. IsPublishing settings before (g.S.Store.faults c.args.store.now) cs c.push_reserved.new.self.items c.apply-reply.new.self store' c.show.new.self) (sym more)
          (subst (λ rs. IsPublishing settings before (g.S.Store.faults c.args.store.now) (take i c.args.script.now.commands.now ++ command ∷ []) rs c.apply-reply.new.self store' c.show.new.self) (sym c.push_reserved.ensures.items) next);
    }

pub returns-clause-airs : goal.returns-clause-airs
returns-clause-airs g c settings lawful extracts options_are =
    let before = known g.S.Store.objects g.S.Store.faults c.args.store.now in
    let after = known g.S.Store.objects g.S.Store.faults c.loop-command.store in
    let whole = take_all c.loop-command.command-index c.args.script.now.commands.now c.loop-command-test.false in
    record {
      done = (
        c.loop-command.live,
        subst (λ cs. DoAll settings (none_live settings.options) before cs c.loop-command.replies.items c.loop-command.live after) whole (c.loop-command.invariant.does settings lawful extracts options_are),
      );
      run = record {
        honest = λ objects is sound.
            publishing-all c.commands_lead_on.ensures.all settings objects (g.S.Store.faults c.args.store.now) c.args.script.now.commands.now c.loop-command.replies.items c.loop-command.live after c.loop-command.broadcast
            (subst (λ cs. IsPublishing settings objects (g.S.Store.faults c.args.store.now) cs c.loop-command.replies.items c.loop-command.live after c.loop-command.broadcast) whole (c.loop-command.invariant.leads settings lawful extracts options_are objects is sound));
      };
    }
