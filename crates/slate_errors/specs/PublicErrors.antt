-- An error as a caller sees it.
use Rattle.std.specs.Prelude.{ℕ, List, ◌++◌, Option, Some, None, codes}
use Rattle.std.specs.Option.{option_or}
use Rattle.slate_errors.specs.declared.kinds.ErrorKind.{ErrorKind}
use Rattle.slate_errors.specs.declared.errors.SlateError.{SlateError}
use Rattle.slate_errors.specs.declared.public_errors.Origin.{Origin}
use Rattle.slate_errors.specs.declared.public_errors.Origin.TheVariants.{Cause, Stated}
use Rattle.slate_errors.specs.Kinds.{kind_of, kind_words}
use Rattle.slate_errors.specs.Texts.{message_of, source_of, source_text}

pub record PublicError : Type 0 where
  pub kind : ErrorKind
  pub cause : Option SlateError
  pub message : List ℕ
  pub source : Option (List ℕ)

-- an error that a call answers: it has its own message, and its own source where it has one
abbrev pub caused_by : SlateError → PublicError
caused_by error = record { kind = kind_of error; cause = Some error; message = message_of error; source = source_of error }

-- an error that a caller makes, with its message
abbrev pub stated : ErrorKind → List ℕ → PublicError
stated kind message = record { kind = kind; cause = None; message = message; source = None }

abbrev pub from_origin : Origin → PublicError
from_origin (Cause error) = caused_by error
from_origin (Stated kind message) = stated kind message

-- the same with another source, where one is given
abbrev pub with_source : Option (List ℕ) → PublicError → PublicError
with_source source error = record error { source = option_or source error.source }

-- the public text: the words of the kind, the message, and the source where there is one
abbrev pub public_text : PublicError → List ℕ
public_text error = kind_words error.kind ++ codes ": " ++ error.message ++ source_text error.source
