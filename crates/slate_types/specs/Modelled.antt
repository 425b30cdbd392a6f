-- Calls on what may be modelled or not.
use Rattle.std.specs.Prelude.{◌≡◌, Option, Some, None}

-- What a call leaves of something that is modelled or isn't. What is modelled before a call is modelled after it, and P
-- relates the two. What isn't modelled stays so.
pub record WhereModelled {X : Type 0} (P : X → X → Type 0) (before after : Option X) : Type 0 where
  pub none : before ≡ None → after ≡ None
  pub some : (old : X) → before ≡ Some old → (new : X) × (after ≡ Some new) × P old new
