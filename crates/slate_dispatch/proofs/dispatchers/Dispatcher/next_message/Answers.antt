use Rattle.std.proofs.Common.{rules, ◌≡◌, sym, ◌∙◌, ap, Some, None, [], w64, ℤ, length, get_or, slice_get, slice_set, to_z, of_z, ◌+ℤ◌, pos, ◌<◌}
use Rattle.std.specs.Int.{w128}
use Rattle.std.proofs.lemmas.Int.{to_z-of_z}
use Rattle.slate_dispatch.specs.declared.tickers.TickerDef.{TickerDef}
use Rattle.std.proofs.lemmas.Option.{slice_get-get_or}
use Rattle.slate_dispatch.specs.Origins.{due_at}
use Rattle.slate_dispatch.specs.Tickers.{wait_of}
use Rattle.slate_dispatch.proofs.TurnLemmas.{takes-due, takes-polled}
use Rattle.slate_dispatch.proofs.dispatchers.Dispatcher.next_message.Goals as goal

pub returns-in-Some-first_due-clause-takes : goal.returns-in-Some-first_due-clause-takes
returns-in-Some-first_due-clause-takes g c =
    let moment_back : to_z w64 (of_z w64 c.args.moment) ≡ c.args.moment = to_z-of_z w64 _ c.ranges.moment in
    let empty : c.self.inside.queue.items ≡ [] = search rules in
    let still : c.pop_front.new.self.items ≡ [] = search rules in
    let due : due_at c.args.moment c.self.inside.dues.items ≡ Some c.in-Some-first_due.index =
    sym (ap (λ m. due_at m c.self.inside.dues.items) moment_back)
    ∙ sym (ap (due_at (to_z w64 (of_z w64 c.args.moment))) c.deref.ensures.value)
    ∙ sym c.first_due.ensures
    ∙ c.in-Some-first_due.is in
    let ticker : TickerDef = get_or c.tickers.result.now c.in-Some-first_due.index (record { interval_ms = 0; jitter_thousandths = 0 }) in
    let within : c.in-Some-first_due.index < length c.tickers.result.now = search rules in
    let there : slice_get (g.H.MessageHandler.schedule c.self.inside.handler) c.in-Some-first_due.index ≡ Some ticker =
    ap (λ tickers. slice_get tickers c.in-Some-first_due.index) (sym c.tickers.ensures)
    ∙ slice_get-get_or c.tickers.result.now c.in-Some-first_due.index _ within in
    let next : to_z w128 (of_z w128 c.next_due-due.result) ≡ c.args.moment +ℤ pos (wait_of ticker c.args.random) =
    to_z-of_z w128 _ (record { sfits = c.next_due-due.type_inv })
    ∙ c.next_due-due.ensures
    ∙ ap (λ (m : ℤ). m +ℤ pos (wait_of ticker c.args.random)) moment_back in
    rw (← c.self.view_is)
    (takes-due g.H.MessageHandler.steps g.H.MessageHandler.schedule g.H.MessageHandler.ready c.args.moment c.args.random _ _ _ _ _ c.in-Some-first_due.index ticker
    empty
    still
    due
    c.ticker_message.ensures.step
    there
    (ap (slice_set c.self.inside.dues.items c.in-Some-first_due.index) next))

pub returns-clause-takes : goal.returns-clause-takes
returns-clause-takes g c =
    let moment_back : to_z w64 (of_z w64 c.args.moment) ≡ c.args.moment = to_z-of_z w64 _ c.ranges.moment in
    let empty : c.self.inside.queue.items ≡ [] = search rules in
    let still : c.pop_front.new.self.items ≡ [] = search rules in
    let due : due_at c.args.moment c.self.inside.dues.items ≡ None =
    sym (ap (λ m. due_at m c.self.inside.dues.items) moment_back)
    ∙ sym (ap (due_at (to_z w64 (of_z w64 c.args.moment))) c.deref.ensures.value)
    ∙ sym c.first_due.ensures
    ∙ c.in_default-first_due.is in
    rw (← c.self.view_is)
    (takes-polled g.H.MessageHandler.steps g.H.MessageHandler.schedule g.H.MessageHandler.ready c.args.moment c.args.random _ _ _ _
    empty
    still
    due
    c.poll_notifiers.ensures.none
    c.poll_notifiers.ensures.some)
