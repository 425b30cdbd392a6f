-- the readers before the place were polled, where they are open, and none of them covers
use Rattle.slate_model.specs.Known.{known}
use Rattle.slate_route.proofs.Turning.{Progress}
use Rattle.slate_route.proofs.routers.Router.poll_until.Given as goal

abbrev pub invariant-loop-place : goal.invariant-loop-place
invariant-loop-place g l =
    Progress l.at_least l.moment l.fn.self (known g.S.Store.objects g.S.Store.faults l.fn.store) l.place l.self (known g.S.Store.objects g.S.Store.faults l.store) l.polls l.first.error
