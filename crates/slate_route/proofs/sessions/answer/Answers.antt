use Rattle.std.proofs.Common.{rules, ◌∙◌, None, Ok, Err, refl, sym, subst, ap}
use Rattle.slate_model.specs.Known.{known}
use Rattle.slate_script.specs.declared.commands.Command.{Command}
use Rattle.slate_live.specs.Calls.{kind_of, target_of}
use Rattle.slate_route.specs.declared.commands.RouteAction.{RouteAction}
use Rattle.slate_route.specs.declared.commands.RouteAnswer.TheVariants.{Added, Refused, Routed}
use Rattle.slate_route.specs.Session.{RouteLinks, flush_command, put_command}
use Rattle.slate_route.proofs.Adding.{leads-with}
use Rattle.slate_route.proofs.Running.{add-to, flush-link, over-readers, put-link, read-to, reads-with, run-leads}
use Rattle.slate_route.proofs.sessions.answer.Goals as goal

pub returns-in-Put-clause-leads : goal.returns-in-Put-clause-leads
returns-in-Put-clause-leads g c route s =
    let before = known g.S.Store.objects g.S.Store.faults c.args.store.now in
    let after = known g.S.Store.objects g.S.Store.faults c.run.new.store in
    let command : Command = c.put-command.result.command in
    let is = c.put-command.ensures in
    let led = run-leads c.args.live.now before c.args.router.now route s c.run.new.live after command c.run.result (ap (λ (x : Command). target_of x.action) is) (ap (λ (x : Command). kind_of x.action) is) c.run.ensures.done in
    (led.0, put-link c.args.command.action c.args.command.moment c.args.command.second c.in-Put.key c.in-Put.value command c.run.result route led.0 c.in-Put.is (is ∙ ap (λ m. put_command m c.args.command.second c.in-Put.key c.in-Put.value) (search rules)) led.1, led.2)

pub returns-in-Flush-clause-leads : goal.returns-in-Flush-clause-leads
returns-in-Flush-clause-leads g c route s =
    let before = known g.S.Store.objects g.S.Store.faults c.args.store.now in
    let after = known g.S.Store.objects g.S.Store.faults c.run-in-Flush.new.store in
    let command : Command = c.flush-command.result.command in
    let is = c.flush-command.ensures in
    let led = run-leads c.args.live.now before c.args.router.now route s c.run-in-Flush.new.live after command c.run-in-Flush.result (ap (λ (x : Command). target_of x.action) is) (ap (λ (x : Command). kind_of x.action) is) c.run-in-Flush.ensures.done in
    (led.0, flush-link c.args.command.action c.args.command.moment c.args.command.second command c.run-in-Flush.result route led.0 c.in-Flush.is (is ∙ ap (λ m. flush_command m c.args.command.second) (search rules)) led.1, led.2)

pub returns-in-Ok-clause-leads : goal.returns-in-Ok-clause-leads
returns-in-Ok-clause-leads g c route s =
    let before = known g.S.Store.objects g.S.Store.faults c.args.store.now in
    let after = known g.S.Store.objects g.S.Store.faults c.add.new.store in
    let leads = leads-with _ c.args.command.moment (search rules) refl (c.in-Ok.ensures.leads s.joined route.places route.world None (over-readers c.args.live.now before c.args.router.now route s)) in
    let led = add-to c.args.live.now before c.args.router.now route s c.args.command.moment c.in-Add.lifetime_ms c.in-Add.interval_ms (Ok c.in-Ok.added) c.add.new.self after c.in-Ok.ensures.adds leads in
    (led.0, subst (λ (a : RouteAction). RouteLinks a c.args.command.moment c.args.command.second (Added c.in-Ok.added) route led.0) (sym c.in-Add.is) led.1, led.2)

pub returns-in-Add-clause-leads : goal.returns-in-Add-clause-leads
returns-in-Add-clause-leads g c route s =
    let before = known g.S.Store.objects g.S.Store.faults c.args.store.now in
    let after = known g.S.Store.objects g.S.Store.faults c.add.new.store in
    let leads = leads-with _ c.args.command.moment (search rules) refl (c.in-Err.ensures.leads s.joined route.places route.world None (over-readers c.args.live.now before c.args.router.now route s)) in
    let led = add-to c.args.live.now before c.args.router.now route s c.args.command.moment c.in-Add.lifetime_ms c.in-Add.interval_ms (Err c.in-Err.refusal) c.add.new.self after c.in-Err.ensures.adds leads in
    (led.0, subst (λ (a : RouteAction). RouteLinks a c.args.command.moment c.args.command.second (Refused c.in-Err.refusal) route led.0) (sym c.in-Add.is) led.1, led.2)

pub returns-in-Ok-read_at_least-clause-leads : goal.returns-in-Ok-read_at_least-clause-leads
returns-in-Ok-read_at_least-clause-leads g c route s =
    let before = known g.S.Store.objects g.S.Store.faults c.args.store.now in
    let after = known g.S.Store.objects g.S.Store.faults c.read_at_least.new.store in
    let leads = reads-with _ c.args.command.moment (search rules) _ c.in-Read.key c.as_slice-key.ensures (c.in-Ok-read_at_least.ensures.leads s.joined route.places route.world None tt (over-readers c.args.live.now before c.args.router.now route s)) in
    let led = read-to c.args.live.now before c.args.router.now route s c.args.command.moment c.in-Read.at_least c.in-Read.key (Ok c.in-Ok-read_at_least.routed) c.read_at_least.new.self after c.in-Ok-read_at_least.ensures.answers leads in
    (led.0, subst (λ (a : RouteAction). RouteLinks a c.args.command.moment c.args.command.second (Routed c.in-Ok-read_at_least.routed) route led.0) (sym c.in-Read.is) led.1, led.2)

pub returns-clause-leads : goal.returns-clause-leads
returns-clause-leads g c route s =
    let before = known g.S.Store.objects g.S.Store.faults c.args.store.now in
    let after = known g.S.Store.objects g.S.Store.faults c.read_at_least.new.store in
    let leads = reads-with _ c.args.command.moment (search rules) _ c.in-Read.key c.as_slice-key.ensures (c.in-Err-read_at_least.ensures.leads s.joined route.places route.world None tt (over-readers c.args.live.now before c.args.router.now route s)) in
    let led = read-to c.args.live.now before c.args.router.now route s c.args.command.moment c.in-Read.at_least c.in-Read.key (Err c.in-Err-read_at_least.refusal) c.read_at_least.new.self after c.in-Err-read_at_least.ensures.answers leads in
    (led.0, subst (λ (a : RouteAction). RouteLinks a c.args.command.moment c.args.command.second (Refused c.in-Err-read_at_least.refusal) route led.0) (sym c.in-Read.is) led.1, led.2)
