use Rattle.std.proofs.Common.{rules, ◌≡◌, ◌∙◌, List, get_or, Result, Err, sym, subst, ap}
use Rattle.slate_model.specs.Follower.{Follower}
use Rattle.slate_types.specs.declared.batches.Batch.{Batch}
use Rattle.slate_model.specs.Known.{Known, known}
use Rattle.slate_route.specs.declared.answers.RouteRefusal.{RouteRefusal}
use Rattle.slate_route.specs.declared.answers.Routed.{Routed}
use Rattle.slate_route.specs.Reading.{Answers}
use Rattle.slate_route.specs.Standing.{ReadLeads, routing}
use Rattle.slate_route.specs.Turns.{PollsFor}
use Rattle.slate_route.proofs.Passing.{for-with, polls-none, polls-refused, polls-row}
use Rattle.slate_route.proofs.Routing.{error-answers, error-leads, none-leads, reader-there, row-answers, row-leads}
use Rattle.slate_route.proofs.Turning.{covers-with}
use Rattle.slate_route.proofs.routers.Router.read_at_least.Goals.{in-Ok-get, in-Err-get}
use Rattle.slate_route.proofs.routers.Router.read_at_least.Goals as goal

pub returns-in-Err-clause-leads : goal.returns-in-Err-clause-leads
returns-in-Err-clause-leads g c live places w merge lawful over =
    none-leads merge live places w c.args.moment c.args.key.now c.args.at_least c.args.self.now c.cover.new.self c.in-Err.refusal _ _ _ c.in-Err.ensures.covers
    (covers-with _ c.args.moment (search rules) (c.in-Err.ensures.leads live places w merge over))

pub returns-clause-answers : goal.returns-clause-answers
returns-clause-answers g c =
    let before = known g.S.Store.objects g.S.Store.faults c.args.store.now in
    let between = known g.S.Store.objects g.S.Store.faults c.cover.new.store in
    let after = known g.S.Store.objects g.S.Store.faults c.get.new.store in
    let reader : Follower = c.index-follower.result.now in
    let new = c.cover.new.self in
    let covering = c.in-Ok.covering in
    let goes = c.in-Ok.ensures.covers in
    let value = subst (λ (xs : List Follower). reader ≡ get_or xs covering.place reader) c.self.view_is c.index-follower.ensures in
    let there = reader-there c.args.at_least new covering.place reader goes.first value in
    let Left : Result Routed RouteRefusal → Type 0 = λ r. Answers c.args.at_least c.args.self.now new before.faults after.faults r in
    elim c.match-get.branch as (λ _. Left c.match-get.result) [
      | in-Ok-get w ↦ subst Left (sym w.result-is) (row-answers c.args.at_least c.args.self.now new covering goes reader there before.faults after.faults c.number-number.result c.number-number.ensures w.in-Ok-get.row)
      | in-Err-get w ↦
          subst Left (sym (w.result-is ∙ ap (λ (x : RouteRefusal). let r : Result Routed RouteRefusal = Err x in r) w.of_read.ensures))
          (error-answers c.args.at_least c.args.self.now new covering goes reader there before.faults between after w.in-Err-get.error c.cover.ensures.faults (w.in-Err-get.ensures.by_any))
    ]

pub returns-clause-leads : goal.returns-clause-leads
returns-clause-leads g c live places w merge lawful over =
    let before = known g.S.Store.objects g.S.Store.faults c.args.store.now in
    let between = known g.S.Store.objects g.S.Store.faults c.cover.new.store in
    let after = known g.S.Store.objects g.S.Store.faults c.get.new.store in
    let reader : Follower = c.index-follower.result.now in
    let new = c.cover.new.self in
    let covering = c.in-Ok.covering in
    let goes = c.in-Ok.ensures.covers in
    let value = subst (λ (xs : List Follower). reader ≡ get_or xs covering.place reader) c.self.view_is c.index-follower.ensures in
    let there = reader-there c.args.at_least new covering.place reader goes.first value in
    let l = covers-with _ c.args.moment (search rules) (c.in-Ok.ensures.leads live places w merge over) in
    let read = c.get.ensures.read merge lawful in
    let Left : Result Routed RouteRefusal → Type 0 = λ r. ReadLeads (routing merge live) c.args.moment c.args.key.now c.args.at_least live places w c.args.self.now new r after in
    elim c.match-get.branch as (λ _. Left c.match-get.result) [
      | in-Ok-get v ↦
          subst Left (sym v.result-is)
          (row-leads c.args.at_least c.args.self.now new covering goes reader there merge live places w c.args.moment c.args.key.now before between after over l c.get.result read v.in-Ok-get.row v.in-Ok-get.is c.number-number.result c.number-number.ensures)
      | in-Err-get v ↦
          subst Left (sym (v.result-is ∙ ap (λ (x : RouteRefusal). let r : Result Routed RouteRefusal = Err x in r) v.of_read.ensures))
          (error-leads c.args.at_least c.args.self.now new covering goes reader there merge live places w c.args.moment c.args.key.now before between after over l c.get.result read v.in-Err-get.error v.in-Err-get.is c.cover.ensures.faults)
    ]

pub returns-in-Err-clause-polls : goal.returns-in-Err-clause-polls
returns-in-Err-clause-polls g c =
    let before = known g.S.Store.objects g.S.Store.faults c.args.store.now in
    let between = known g.S.Store.objects g.S.Store.faults c.cover.new.store in
    (between, polls-none c.args.at_least c.args.moment c.args.self.now before c.cover.new.self between c.in-Err.refusal (for-with _ c.args.moment (search rules) c.in-Err.ensures.polls))

pub returns-clause-polls : goal.returns-clause-polls
returns-clause-polls g c =
    let before = known g.S.Store.objects g.S.Store.faults c.args.store.now in
    let between = known g.S.Store.objects g.S.Store.faults c.cover.new.store in
    let new = c.cover.new.self in
    let polls = for-with _ c.args.moment (search rules) c.in-Ok.ensures.polls in
    let Left : Result Routed RouteRefusal → Type 0 = λ r. (k : Known (List Batch)) × PollsFor c.args.at_least c.args.moment c.args.self.now before r new k in
    elim c.match-get.branch as (λ _. Left c.match-get.result) [
      | in-Ok-get v ↦ subst Left (sym v.result-is) (between, polls-row c.args.at_least c.args.moment c.args.self.now before new between c.in-Ok.covering _ polls)
      | in-Err-get v ↦
          subst Left (sym (v.result-is ∙ ap (λ (x : RouteRefusal). let r : Result Routed RouteRefusal = Err x in r) v.of_read.ensures))
          (between, polls-refused c.args.at_least c.args.moment c.args.self.now before new between c.in-Ok.covering v.in-Err-get.error polls)
    ]
