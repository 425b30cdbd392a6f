-- Handles and readers, each together with its store.
use Rattle.slate_model.specs.Follower.{Follower}
use Rattle.slate_model.specs.Handle.{Handle}

-- A handle together with the store that it writes to.
pub record Holding (S : Type 0) : Type 0 where
  pub handle : Handle
  pub store : S

-- A reader together with the store that it follows.
pub record Following (S : Type 0) : Type 0 where
  pub follower : Follower
  pub store : S
