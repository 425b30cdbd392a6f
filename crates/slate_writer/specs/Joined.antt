-- What joining the tables of the latest manifest leaves of a handle and a store.
use Rattle.std.specs.Prelude.{ℕ, Some, Result}
use Rattle.slate_store.specs.Objects.{Objects}
use Rattle.slate_errors.specs.declared.errors.SlateError.{SlateError}
use Rattle.slate_model.specs.Handle.{Handle}
use Rattle.slate_model.specs.Refresh.{JoinsTables}
use Rattle.slate_model.specs.Stores.{by_objects}

-- the tables are joined, over these objects
abbrev pub Joins : Handle → Result (Unit {0}) SlateError → Handle → ℕ → Objects → Objects → Type 0
Joins old result new made objects objects' = JoinsTables (by_objects (Some objects)) old objects result new made objects'
