use Rattle.std.proofs.Common.{rules, ◌≡◌, true, List, Some, None, sym, subst}
use Rattle.std.specs.Prelude.{slice_get}
use Rattle.slate_model.specs.Follower.{Follower}
use Rattle.slate_route.specs.Reading.{is_open}
use Rattle.slate_route.proofs.Opening.{polls-at}
use Rattle.slate_route.proofs.routers.Router.poll_at.Goals as goal

pub returns : goal.returns
returns g c = record {
  polls =
      let one = subst (λ (xs : List Follower). (r : Follower) × (slice_get xs c.args.place ≡ Some r) × (is_open r ≡ true)) (sym c.self.view_is) c.requires in
      rw (← c.self.view_is) (
      polls-at c.index_mut-follower.result.now c.poll.new.self c.poll.result one c.index_mut-follower.ensures.value _ (search rules) c.poll.ensures.faults c.poll.ensures.errors c.poll.ensures.left c.poll.ensures.left_managed (c.poll.ensures.managed None tt)
      );
}
