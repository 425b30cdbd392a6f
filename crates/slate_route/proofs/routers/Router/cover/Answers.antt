use Rattle.std.proofs.Common.{rules, ◌∙◌, refl, sym, ap}
use Rattle.std.specs.List.{list_any}
use Rattle.slate_route.specs.Reading.{is_open}
use Rattle.slate_route.proofs.Passing.{for-with}
use Rattle.slate_route.proofs.Turning.{closed-leads, closed-polls, covers-with, quiet-leads, quiet-polls}
use Rattle.slate_route.proofs.routers.Router.cover.Goals as goal

pub returns-then-not-has_open-clause-leads : goal.returns-then-not-has_open-clause-leads
returns-then-not-has_open-clause-leads g c live places w merge over =
    closed-leads c.args.at_least c.args.moment c.args.self.now _ (ap (list_any is_open) (sym c.self.view_is ∙ sym c.as_slice.ensures.value) ∙ (sym c.has_open.ensures ∙ c.if-not-has_open.true)) merge live places w over

pub returns-in-Some-clause-leads : goal.returns-in-Some-clause-leads
returns-in-Some-clause-leads g c live places w merge over = quiet-leads c.args.at_least c.args.moment c.args.self.now _ c.in-Some.place (search rules) merge live places w over _ refl

pub returns-in-None-clause-leads : goal.returns-in-None-clause-leads
returns-in-None-clause-leads g c live places w merge over = covers-with _ _ (search rules) (c.poll_until.ensures.leads live places w merge over)

pub returns-then-not-has_open-clause-polls : goal.returns-then-not-has_open-clause-polls
returns-then-not-has_open-clause-polls g c = closed-polls c.args.at_least c.args.moment c.args.self.now _

pub returns-in-Some-clause-polls : goal.returns-in-Some-clause-polls
returns-in-Some-clause-polls g c = quiet-polls c.args.at_least c.args.moment c.args.self.now _ c.in-Some.place (search rules) _

pub returns-in-None-clause-polls : goal.returns-in-None-clause-polls
returns-in-None-clause-polls g c = for-with _ _ (search rules) c.poll_until.ensures.polls
