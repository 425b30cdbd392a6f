-- What commands read and change.
use Rattle.std.specs.Prelude.{◌≡◌, ℕ, List, slice_get, Option, Some}
use Rattle.slate_types.specs.declared.batches.Batch.{Batch}
use Rattle.slate_model.specs.Begun.{Begun}
use Rattle.slate_model.specs.Known.{Known}
use Rattle.slate_model.specs.Object.{Object}
use Rattle.slate_script.specs.declared.options.Options.{Options}
use Rattle.slate_live.specs.declared.states.Write.{Write}

-- what a contract sees of the live state: its options, and the objects, the begun polls of readers and the accepted writes, by
-- their numbers
pub record Live : Type 0 where
  pub options : Options
  pub objects : List Object
  pub polls : List (Option Begun)
  pub writes : List Write

-- what a command may read and change: the objects and the accepted writes by their numbers, and what is known of the
-- store, where L is what is known of a log file
pub record State (L : Type 0) : Type 0 where
  pub objects : List Object
  pub writes : List Write
  pub store : Known L

-- the state of a run over a store
abbrev pub running : Live → Known (List Batch) → State (List Batch)
running live store = record { objects = live.objects; writes = live.writes; store = store }

-- the object with a number has this begun poll
abbrev pub IsBegunAt : List (Option Begun) → ℕ → Begun → Type 0
IsBegunAt polls n begun = slice_get polls n ≡ Some (Some begun)
