-- the greatest number of an open one of the readers so far
use Rattle.std.proofs.Common.{◌≡◌, ◌<◌, ◌≤◌, ◌⊎◌, ℕ, true, Some}
use Rattle.std.specs.Prelude.{slice_get}
use Rattle.slate_model.specs.Follower.{Follower, number}
use Rattle.slate_route.specs.Reading.{IsOpenOne, is_open}
use Rattle.slate_route.proofs.routers.best.Given as goal

abbrev pub invariant-loop-follower : goal.invariant-loop-follower
invariant-loop-follower l =
    record {
      bounds : (i : ℕ) (reader : Follower) → i < l.follower-index → slice_get l.followers i ≡ Some reader → is_open reader ≡ true → number reader ≤ l.best;
      attained : (l.best ≡ 0) ⊎ IsOpenOne l.followers l.best;
    }
