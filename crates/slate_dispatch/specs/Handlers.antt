-- The calls of a message handler, with what they are given and answer.
use Rattle.std.specs.Prelude.{ℕ, List, Result}
use Rattle.slate_errors.specs.declared.closing.CloseFault.{CloseFault}

-- how something ended or closed
abbrev pub Outcome : Type 0
Outcome = Result (Unit {0}) CloseFault

-- a call of a message handler that may change it
pub data HandlerCall (M : Type 0) : Type 0 where
  -- the message of the ticker with this index
  Tick : ℕ → M → HandlerCall M
  -- the message that the notifier with this index had ready
  Notify : ℕ → M → HandlerCall M
  -- a message, and whether it was handled well
  Handle : M → Outcome → HandlerCall M
  -- the messages that are left, and the result with which all closed
  Cleanup : List M → Outcome → HandlerCall M

-- which state of a handler may follow a state by a call
abbrev pub HandlerSteps : Type 0 → Type 0 → Type 1
HandlerSteps H M = H → HandlerCall M → H → Type 0
