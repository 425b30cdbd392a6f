-- The answer of a write, as the model has it.
use Rattle.std.specs.Prelude.{Result, Ok, Err}
use Rattle.slate_errors.specs.declared.errors.SlateError.{SlateError}
use Rattle.slate_model.specs.declared.answers.Written.{Written}
use Rattle.slate_writer.specs.declared.writes.WriteRefusal.{WriteRefusal}

-- what a write answers, without the batch that a refusal hands back
abbrev pub answer_of : Result Written WriteRefusal → Result Written SlateError
answer_of (Ok written) = Ok written
answer_of (Err refusal) = Err refusal.error
