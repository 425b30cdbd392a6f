use Rattle.std.proofs.Common.{◌≡◌, Some, length, refl, sym, subst, ap, ◌∙◌}
use Rattle.std.specs.Prelude.{slice_get}
use Rattle.slate_model.specs.Known.{known}
use Rattle.slate_feed.specs.declared.commands.FeedAnswer.TheVariants.{Replied}
use Rattle.slate_feed.specs.Session.{AsksBy, Fed, FeedLink, OpensBy, feed_settings}
use Rattle.slate_feed.proofs.Fed.{asks-left, next, written-back}
use Rattle.slate_feed.proofs.sessions.answer.Goals as goal

pub returns-in-Run-clause-leads : goal.returns-in-Run-clause-leads
returns-in-Run-clause-leads g c = λ same fed s.
    let led = c.apply-reply.ensures.link feed_settings (record { operator_is = λ _. tt; extractor_is = λ _. tt }) (sym same) fed.world s.represents s.segments in
    let then : Fed = record { world = led.0; cursors = fed.cursors } in (
      then,
      subst (λ command. FeedLink command (Replied c.apply-reply.result) fed then) (sym c.in-Run.is) (led.1, refl),
      record { represents = led.2; segments = led.3; same = s.same },
    )

pub returns-in-Open-clause-leads : goal.returns-in-Open-clause-leads
returns-in-Open-clause-leads g c = λ same fed s.
    let before = known g.S.Store.objects g.S.Store.faults c.args.store.now in
    let after = known g.S.Store.objects g.S.Store.faults c.open_feed.new.store in
    let cursors = c.open_feed.new.feeds.items in
    let left = asks-left c.args.live.now before after c.args.feeds.now.items cursors fed s c.open_feed.ensures.kept c.open_feed.ensures.faults
    (λ o faults old. OpensBy o c.in-Open.after c.open_feed.result faults after.faults old cursors) c.open_feed.ensures.opens in
    let then : Fed = record { world = record fed.world { faults = after.faults }; cursors = cursors } in (
      then,
      subst (λ command. FeedLink command c.open_feed.result fed then) (sym c.in-Open.is) left.0,
      left.1,
    )

pub returns-in-Next-clause-leads : goal.returns-in-Next-clause-leads
returns-in-Next-clause-leads g c = λ same fed s.
    let before = known g.S.Store.objects g.S.Store.faults c.args.store.now in
    let after = known g.S.Store.objects g.S.Store.faults c.next_batches.new.store in
    let cursors = c.next_batches.new.feeds in
    let left = asks-left c.args.live.now before after c.args.feeds.now.items cursors fed s c.next_batches.ensures.kept c.next_batches.ensures.faults
    (λ o faults old. AsksBy o c.in-Next.feed c.in-Next.limit (slice_get old c.in-Next.feed) c.next_batches.result faults after.faults old cursors)
    (λ o is sound. subst (λ old. AsksBy o c.in-Next.feed c.in-Next.limit (slice_get old c.in-Next.feed) c.next_batches.result before.faults after.faults old cursors) c.deref_mut.ensures.value (c.next_batches.ensures.asks o is sound)) in
    let then : Fed = record { world = record fed.world { faults = after.faults }; cursors = cursors } in
    let whole : c.args.feeds.now.len ≡ length c.args.feeds.now.items = c.args.feeds.now.ok.0 in
    let long : length cursors ≡ length c.args.feeds.now.items = c.next_batches.auto.feeds ∙ ap (λ old. length old) c.deref_mut.ensures.value in (
      then,
      subst (λ command. FeedLink command c.next_batches.result fed then) (sym c.in-Next.is) left.0,
      record { represents = left.1.represents; segments = left.1.segments; same = written-back cursors c.args.feeds.now.items c.args.feeds.now.len whole long },
    )
