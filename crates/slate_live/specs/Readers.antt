-- A live reader with its begun poll.
use Rattle.std.specs.Prelude.{Option}
use Rattle.slate_model.specs.Begun.{Begun}
use Rattle.slate_model.specs.Follower.{Follower}

pub record Polled : Type 0 where
  pub state : Follower
  pub poll : Option Begun
