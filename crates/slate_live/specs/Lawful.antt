-- The merge operator and the prefix extractor that commands are done with, and which of them they ask.
use Rattle.std.specs.Prelude.{◌≡◌, ℕ, Bool, true, List, Option}
use Rattle.slate_reads.specs.Read.{IsOperator}
use Rattle.slate_model.specs.Object.{Object}
use Rattle.slate_model.specs.Segments.{IsExtractor}
use Rattle.slate_script.specs.declared.commands.Action.{Action}
use Rattle.slate_script.specs.declared.commands.Command.{Command}
use Rattle.slate_live.specs.Calls.{asks_extractor, asks_operator, named, one_goes_by_extractor, one_goes_by_operator, read_by, target_of}
use Rattle.slate_live.specs.Settings.{Settings}

-- whether the operator is asked, and whether the extractor is
pub record Asks : Type 0 where
  pub operator : Bool
  pub extractor : Bool

-- by a command, where this object is read by it
abbrev pub asks_of : Option Object → Action → Asks
asks_of object action = record { operator = asks_operator object action; extractor = asks_extractor object action }

-- by a command of a run with these live objects
abbrev pub asks_among : List Object → Action → Asks
asks_among live action = asks_of (read_by live (named live (target_of action))) action

-- by one of these commands
abbrev pub asks_in : List Command → Asks
asks_in commands = record { operator = one_goes_by_operator commands; extractor = one_goes_by_extractor commands }

-- What is asked is lawful, and is what the settings have: none, or one that answers as they say. What isn't asked may be any.
pub record AreLawful {M E : Type 0} (may_answer : M → List ℕ → Option (List ℕ) → List ℕ → Option (List ℕ) → Type 0) (operator : Option M)
    (may_name : E → List ℕ → Type 0) (may_extract : E → List ℕ → Option (List ℕ) → Type 0) (extractor : Option E) (settings : Settings) (asks : Asks) : Type 0 where
  pub operator_is : asks.operator ≡ true → IsOperator may_answer operator settings.merge
  pub extractor_is : asks.extractor ≡ true → IsExtractor may_name may_extract extractor settings.extractor
