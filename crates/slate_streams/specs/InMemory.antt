-- Sources and sinks in memory: which calls fail, and what the others answer.
use Rattle.std.specs.Prelude.{◌≡◌, ℕ, ◌==◌, min, Bool, true, false, List, length, Option, Some, None}
use Rattle.std.specs.List.{list_any}
use Rattle.slate_types.specs.Counts.{next_call, one_more}
use Rattle.slate_streams.specs.declared.sources.ReadAnswer.{ReadAnswer}
use Rattle.slate_streams.specs.declared.sources.ReadAnswer.TheVariants.{Got, End, Failed}
use Rattle.slate_streams.specs.declared.sinks.WriteAnswer.{WriteAnswer}
use Rattle.slate_streams.specs.declared.sinks.WriteAnswer.TheVariants.{Took, Failed as NotTaken}

-- The calls of a source or a sink in memory: which are to fail, by their numbers from 1, how many there were, and how
-- often it has failed.
pub record Calls : Type 0 where
  pub failing : List ℕ
  pub made : ℕ
  pub faults : ℕ

-- whether a call is among those that are to fail
abbrev pub is_named : List ℕ → Option ℕ → Bool
is_named failing None = false
is_named failing (Some call) = list_any (λ at. at == call) failing

-- whether the next call is to fail
abbrev pub fails_next : Calls → Bool
fails_next calls = is_named calls.failing (next_call calls.made)

-- the calls after one more that answered, and after one that failed
abbrev pub answered : Calls → Calls
answered calls = record calls { made = one_more calls.made }

abbrev pub failed : Calls → Calls
failed calls = record calls { made = one_more calls.made; faults = one_more calls.faults }

abbrev pub called : Bool → Calls → Calls
called true calls = failed calls
called false calls = answered calls

-- a source in memory: what is left of its bytes, and how many it hands over per call
pub record SourceInMemory : Type 0 where
  pub left : List ℕ
  pub piece : ℕ
  pub calls : Calls

-- What it answers where there is room for so many bytes, and its calls after that: it fails exactly where it is to,
-- and else hands over as many bytes as it may.
abbrev pub AnswersRead : SourceInMemory → ℕ → ReadAnswer → Calls → Type 0
AnswersRead source room (Got count) calls =
    (fails_next source.calls ≡ false) × (count ≡ min (min source.piece room) (length source.left)) × (calls ≡ answered source.calls)
AnswersRead source room End calls = (fails_next source.calls ≡ false) × (calls ≡ answered source.calls)
AnswersRead source room Failed calls = (fails_next source.calls ≡ true) × (calls ≡ failed source.calls)

-- a sink in memory: the bytes that it took, and how many it takes per call
pub record SinkInMemory : Type 0 where
  pub written : List ℕ
  pub piece : ℕ
  pub calls : Calls

-- What it answers to a piece of so many bytes, and its calls after that: it fails where it is to, and where it finds
-- no memory, and else takes as many bytes as it may.
abbrev pub AnswersWrite : SinkInMemory → ℕ → WriteAnswer → Calls → Type 0
AnswersWrite sink total (Took count) calls =
    (fails_next sink.calls ≡ false) × (count ≡ min sink.piece total) × (calls ≡ answered sink.calls)
AnswersWrite sink total NotTaken calls = calls ≡ failed sink.calls
