use Rattle.std.proofs.Common.{rules, ◌≡◌, ◌∙◌, ◌+◌, ◌<◌, ◌≤◌, ℤ, List, length, Option, Result, Err, refl, sym, subst, ap, arith, w64, to_z, of_z}
use Rattle.std.specs.Prelude.{slice_get}
use Rattle.slate_errors.specs.declared.errors.SlateError.{SlateError}
use Rattle.slate_model.specs.Follower.{Follower}
use Rattle.slate_model.specs.Known.{known}
use Rattle.slate_live.proofs.Cases.{some-of}
use Rattle.slate_route.specs.declared.answers.RouteRefusal.{RouteRefusal}
use Rattle.slate_route.specs.declared.routers.Covering.{Covering}
use Rattle.slate_route.specs.declared.routers.FirstError.{FirstError}
use Rattle.slate_route.specs.Reading.{FindsNone, IsBest, covers, poll_refusal}
use Rattle.slate_route.specs.Standing.{routing}
use Rattle.slate_route.specs.Turns.{CoverLeads, Covers, PollsFor}
use Rattle.slate_route.proofs.Passing.{for-with}
use Rattle.slate_route.proofs.Turning.{Progress, at-place, behind-leads, behind-polls, covered-leads, covered-polls, covers-with, failed-finds, failed-leads, failed-polls, goes-by, left-there, memory-is, memory-leads, memory-other, memory-polls, none-covers, open-at, progress-behind, progress-closed, progress-failed, progress-none, stay}
use Rattle.slate_route.proofs.routers.Router.poll_until.Goals.{in-Ok+else-covers_at, in-Err+else-is_memory, in-Some, in-None}
use Rattle.slate_route.proofs.routers.Router.poll_until.Goals as goal

pub loop-place-init : goal.loop-place-init
loop-place-init g c =
    let moment : ℤ = to_z w64 (of_z w64 c.args.moment) in
    let before = known g.S.Store.objects g.S.Store.faults c.args.store.now in
    subst (λ e. Progress c.args.at_least moment c.args.self.now before 0 c.args.self.now before 0 e) (sym c.none-first.ensures) (progress-none c.args.at_least moment c.args.self.now before)

pub loop-place-preserved-then-not-is_open : goal.loop-place-preserved-then-not-is_open
loop-place-preserved-then-not-is_open g c =
    let p = c.loop-place.invariant in
    let inside : c.loop-place.place < length c.loop-place.self = omega (arith, c.loop-place-test.true, c.count-place-end.ensures, p.count) in
    let one = at-place c.loop-place.self c.loop-place.place inside in
    progress-closed c.args.at_least _ c.args.self.now _ c.loop-place.place c.loop-place.self _ c.loop-place.polls c.loop-place.first.error p one.0 one.1
    (open-at c.loop-place.self c.loop-place.place one.0 c.is_open.result c.is_open.ensures one.1 ∙ c.if-not-is_open.true)

pub returns-then-covers_at-clause-covers : goal.returns-then-covers_at-clause-covers
returns-then-covers_at-clause-covers g c =
    let p = c.loop-place.invariant in
    let q = c.poll_at.ensures.polls in
    let opened = open-at c.loop-place.self c.loop-place.place q.reader c.is_open.result c.is_open.ensures q.there ∙ c.if-not-is_open.false in
    let covering = sym (some-of (λ (f : Follower). c.covers_at.result ≡ covers c.args.at_least f) (slice_get c.poll_at.new.self c.loop-place.place) q.left (left-there q) c.covers_at.ensures) ∙ c.if-covers_at.true in
    goes-by c.args.at_least _ c.args.self.now _ c.loop-place.place c.loop-place.self _ c.loop-place.polls c.loop-place.first.error p c.poll_at.result c.poll_at.new.self _ q opened c.requires.none covering

pub returns-then-covers_at-clause-leads : goal.returns-then-covers_at-clause-leads
returns-then-covers_at-clause-leads g c live places w merge over =
    let p = c.loop-place.invariant in
    let q = c.poll_at.ensures.polls in
    let opened = open-at c.loop-place.self c.loop-place.place q.reader c.is_open.result c.is_open.ensures q.there ∙ c.if-not-is_open.false in
    let covering = sym (some-of (λ (f : Follower). c.covers_at.result ≡ covers c.args.at_least f) (slice_get c.poll_at.new.self c.loop-place.place) q.left (left-there q) c.covers_at.ensures) ∙ c.if-covers_at.true in
    covers-with _ _ (search rules)
    (covered-leads c.args.at_least _ c.args.self.now _ c.loop-place.place c.loop-place.self _ c.loop-place.polls c.loop-place.first.error p c.poll_at.result c.poll_at.new.self _ q opened c.requires.none covering c.in-Ok._answer c.in-Ok.is _ refl merge live places w over)

pub returns-then-is_memory-clause-covers : goal.returns-then-is_memory-clause-covers
returns-then-is_memory-clause-covers g c =
    let p = c.loop-place.invariant in
    let q = c.poll_at.ensures.polls in
    let opened = open-at c.loop-place.self c.loop-place.place q.reader c.is_open.result c.is_open.ensures q.there ∙ c.if-not-is_open.false in
    let before = known g.S.Store.objects g.S.Store.faults c.args.store.now in
    let after = known g.S.Store.objects g.S.Store.faults c.poll_at.new.store in
    let memory = memory-is c.in-Err.error (sym c.is_memory.ensures ∙ c.if-is_memory.true) in
    subst (λ (r : RouteRefusal). FindsNone c.args.at_least c.args.self.now c.poll_at.new.self before.faults after.faults r) (sym (c.of_poll.ensures ∙ ap poll_refusal memory))
    (stay c.args.at_least _ c.args.self.now before c.loop-place.place c.loop-place.self _ c.loop-place.polls c.loop-place.first.error p c.poll_at.result c.poll_at.new.self after q opened)

pub returns-then-is_memory-clause-leads : goal.returns-then-is_memory-clause-leads
returns-then-is_memory-clause-leads g c live places w merge over =
    let p = c.loop-place.invariant in
    let q = c.poll_at.ensures.polls in
    let opened = open-at c.loop-place.self c.loop-place.place q.reader c.is_open.result c.is_open.ensures q.there ∙ c.if-not-is_open.false in
    let after = known g.S.Store.objects g.S.Store.faults c.poll_at.new.store in
    let memory = memory-is c.in-Err.error (sym c.is_memory.ensures ∙ c.if-is_memory.true) in
    covers-with _ _ (search rules)
    (subst (λ (r : RouteRefusal). CoverLeads (routing merge live) (to_z w64 (of_z w64 c.args.moment)) c.args.at_least live places w c.args.self.now c.poll_at.new.self (Err r) after) (sym (c.of_poll.ensures ∙ ap poll_refusal memory))
    (memory-leads c.args.at_least _ c.args.self.now _ c.loop-place.place c.loop-place.self _ c.loop-place.polls c.loop-place.first.error p c.poll_at.result c.poll_at.new.self _ q opened merge live places w over))

pub loop-place-preserved : goal.loop-place-preserved
loop-place-preserved g c =
    let p = c.loop-place.invariant in
    let moment : ℤ = to_z w64 (of_z w64 c.args.moment) in
    let before = known g.S.Store.objects g.S.Store.faults c.args.store.now in
    let between = known g.S.Store.objects g.S.Store.faults c.loop-place.store in
    let after = known g.S.Store.objects g.S.Store.faults c.poll_at.new.store in
    let q = c.poll_at.ensures.polls in
    let opened = open-at c.loop-place.self c.loop-place.place q.reader c.is_open.result c.is_open.ensures q.there ∙ c.if-not-is_open.false in
    let Next : Option SlateError → Type 0 = λ e. Progress c.args.at_least moment c.args.self.now before (c.loop-place.place + 1) c.poll_at.new.self after (c.loop-place.polls + 1) e in
    elim c.match-poll_at.branch as (λ _. Next c.match-poll_at.first.error) [
      | in-Ok+else-covers_at w ↦
          let less = sym (some-of (λ (f : Follower). w.covers_at.result ≡ covers c.args.at_least f) (slice_get c.poll_at.new.self c.loop-place.place) q.left (left-there q) w.covers_at.ensures) ∙ w.if-covers_at.false in
          subst Next (ap (λ (f : FirstError). f.error) (sym w.first-is))
          (progress-behind c.args.at_least moment c.args.self.now before c.loop-place.place c.loop-place.self between c.loop-place.polls c.loop-place.first.error p c.poll_at.result c.poll_at.new.self after q opened w.in-Ok._answer w.in-Ok.is less)
      | in-Err+else-is_memory w ↦
          let other = memory-other w.in-Err.error (sym w.is_memory.ensures ∙ w.if-is_memory.false) in
          subst Next (sym (ap (λ (f : FirstError). f.error) w.first-is ∙ w.note.ensures))
          (progress-failed c.args.at_least moment c.args.self.now before c.loop-place.place c.loop-place.self between c.loop-place.polls c.loop-place.first.error p c.poll_at.result c.poll_at.new.self after q opened c.requires.none w.in-Err.error w.in-Err.is other)
    ]

pub returns-clause-covers : goal.returns-clause-covers
returns-clause-covers g c =
    let p = c.loop-place.invariant in
    let before = known g.S.Store.objects g.S.Store.faults c.args.store.now in
    let after = known g.S.Store.objects g.S.Store.faults c.loop-place.store in
    let past : length c.args.self.now ≤ c.loop-place.place = omega (arith, c.loop-place-test.false, c.count-place-end.ensures) in
    let Left : Result Covering RouteRefusal → Type 0 = λ r. Covers c.args.at_least c.args.self.now c.loop-place.self before.faults after.faults r in
    elim c.match-into_error.branch as (λ _. Left c.match-into_error.result) [
      | in-Some w ↦
          subst Left (sym w.result-is)
          (failed-finds c.args.at_least _ c.args.self.now before c.loop-place.place c.loop-place.self after c.loop-place.polls c.loop-place.first.error p c.requires.none c.requires.some past w.in-Some.error (sym c.into_error.ensures ∙ w.in-Some.is))
      | in-None w ↦
          subst Left (sym w.result-is)
          (refl, none-covers c.args.at_least _ c.args.self.now before c.loop-place.place c.loop-place.self after c.loop-place.polls c.loop-place.first.error p c.requires.none c.requires.some past, subst (λ (xs : List Follower). IsBest xs w.best.result) (w.as_slice.ensures.value ∙ c.self.view_is) (record { bounds = w.best.ensures.bounds; attained = w.best.ensures.attained }))
    ]

pub returns-clause-leads : goal.returns-clause-leads
returns-clause-leads g c live places w merge over =
    let p = c.loop-place.invariant in
    let moment : ℤ = to_z w64 (of_z w64 c.args.moment) in
    let before = known g.S.Store.objects g.S.Store.faults c.args.store.now in
    let after = known g.S.Store.objects g.S.Store.faults c.loop-place.store in
    let past : length c.args.self.now ≤ c.loop-place.place = omega (arith, c.loop-place-test.false, c.count-place-end.ensures) in
    let Left : Result Covering RouteRefusal → Type 0 = λ r. CoverLeads (routing merge live) moment c.args.at_least live places w c.args.self.now c.loop-place.self r after in
    covers-with _ _ (search rules)
    (elim c.match-into_error.branch as (λ _. Left c.match-into_error.result) [
      | in-Some v ↦
          subst Left (sym v.result-is)
          (failed-leads c.args.at_least moment c.args.self.now before c.loop-place.place c.loop-place.self after c.loop-place.polls c.loop-place.first.error p c.requires.none c.requires.some past v.in-Some.error (sym c.into_error.ensures ∙ v.in-Some.is) merge live places w over)
      | in-None v ↦
          let best : IsBest c.loop-place.self v.best.result = subst (λ (xs : List Follower). IsBest xs v.best.result) (v.as_slice.ensures.value ∙ c.self.view_is) (record { bounds = v.best.ensures.bounds; attained = v.best.ensures.attained }) in
          subst Left (sym v.result-is)
          (behind-leads c.args.at_least moment c.args.self.now before c.loop-place.place c.loop-place.self after c.loop-place.polls c.loop-place.first.error p c.requires.none c.requires.some past (sym c.into_error.ensures ∙ v.in-None.is) v.best.result best merge live places w over)
    ])

pub returns-then-covers_at-clause-polls : goal.returns-then-covers_at-clause-polls
returns-then-covers_at-clause-polls g c =
    let p = c.loop-place.invariant in
    let q = c.poll_at.ensures.polls in
    let opened = open-at c.loop-place.self c.loop-place.place q.reader c.is_open.result c.is_open.ensures q.there ∙ c.if-not-is_open.false in
    let covering = sym (some-of (λ (f : Follower). c.covers_at.result ≡ covers c.args.at_least f) (slice_get c.poll_at.new.self c.loop-place.place) q.left (left-there q) c.covers_at.ensures) ∙ c.if-covers_at.true in
    for-with _ _ (search rules)
    (covered-polls c.args.at_least _ c.args.self.now _ c.loop-place.place c.loop-place.self _ c.loop-place.polls c.loop-place.first.error p c.poll_at.result c.poll_at.new.self _ q opened c.requires.none covering _)

pub returns-then-is_memory-clause-polls : goal.returns-then-is_memory-clause-polls
returns-then-is_memory-clause-polls g c =
    let p = c.loop-place.invariant in
    let q = c.poll_at.ensures.polls in
    let opened = open-at c.loop-place.self c.loop-place.place q.reader c.is_open.result c.is_open.ensures q.there ∙ c.if-not-is_open.false in
    let before = known g.S.Store.objects g.S.Store.faults c.args.store.now in
    let after = known g.S.Store.objects g.S.Store.faults c.poll_at.new.store in
    let memory = memory-is c.in-Err.error (sym c.is_memory.ensures ∙ c.if-is_memory.true) in
    for-with _ _ (search rules)
    (subst (λ (r : RouteRefusal). PollsFor {A = Covering} c.args.at_least (to_z w64 (of_z w64 c.args.moment)) c.args.self.now before (Err r) c.poll_at.new.self after) (sym (c.of_poll.ensures ∙ ap poll_refusal memory))
    (memory-polls c.args.at_least _ c.args.self.now _ c.loop-place.place c.loop-place.self _ c.loop-place.polls c.loop-place.first.error p c.poll_at.result c.poll_at.new.self _ q opened))

pub returns-clause-polls : goal.returns-clause-polls
returns-clause-polls g c =
    let p = c.loop-place.invariant in
    let moment : ℤ = to_z w64 (of_z w64 c.args.moment) in
    let before = known g.S.Store.objects g.S.Store.faults c.args.store.now in
    let after = known g.S.Store.objects g.S.Store.faults c.loop-place.store in
    let past : length c.args.self.now ≤ c.loop-place.place = omega (arith, c.loop-place-test.false, c.count-place-end.ensures) in
    let Left : Result Covering RouteRefusal → Type 0 = λ r. PollsFor c.args.at_least moment c.args.self.now before r c.loop-place.self after in
    for-with _ _ (search rules)
    (elim c.match-into_error.branch as (λ _. Left c.match-into_error.result) [
      | in-Some v ↦
          subst Left (sym v.result-is)
          (failed-polls c.args.at_least moment c.args.self.now before c.loop-place.place c.loop-place.self after c.loop-place.polls c.loop-place.first.error p c.requires.none c.requires.some past v.in-Some.error (sym c.into_error.ensures ∙ v.in-Some.is))
      | in-None v ↦
          subst Left (sym v.result-is)
          (behind-polls c.args.at_least moment c.args.self.now before c.loop-place.place c.loop-place.self after c.loop-place.polls c.loop-place.first.error p c.requires.none c.requires.some past (sym c.into_error.ensures ∙ v.in-None.is) v.best.result)
    ])
