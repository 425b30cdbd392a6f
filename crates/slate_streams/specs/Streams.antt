-- What a read takes from a source, and what a write adds to a sink.
use Rattle.std.specs.Prelude.{◌≡◌, ℕ, ◌<◌, ◌≤◌, List, [], ◌++◌, take}
use Rattle.slate_streams.specs.declared.sources.ReadAnswer.{ReadAnswer}
use Rattle.slate_streams.specs.declared.sources.ReadAnswer.TheVariants.{Got, End, Failed}
use Rattle.slate_streams.specs.declared.sinks.WriteAnswer.{WriteAnswer}
use Rattle.slate_streams.specs.declared.sinks.WriteAnswer.TheVariants.{Took, Failed as NotTaken}

-- so many bytes of so many: none too many, and at least one where there is one
pub record IsPart (count total : ℕ) : Type 0 where
  pub within : count ≤ total
  pub progress : 0 < total → 0 < count

-- how many bytes a read gives, where there is room for so many
abbrev pub Fits : ℕ → ReadAnswer → Type 0
Fits room (Got count) = IsPart count room
Fits room End = Unit {0}
Fits room Failed = Unit {0}

-- What a read hands over of the bytes that are left: the first ones, which stand at the front of the buffer after it.
-- It answers the end where no byte is left, and a failure takes none.
abbrev pub ReadsInto : ReadAnswer → List ℕ → List ℕ → List ℕ → Type 0
ReadsInto (Got count) buffer left left' = left ≡ take count buffer ++ left'
ReadsInto End buffer left left' = (left ≡ []) × (left' ≡ [])
ReadsInto Failed buffer left left' = left' ≡ left

-- how many bytes a write takes of so many
abbrev pub TakesPart : ℕ → WriteAnswer → Type 0
TakesPart total (Took count) = IsPart count total
TakesPart total NotTaken = Unit {0}

-- what a write adds to the bytes that are written: the first ones of the piece, and none at a failure
abbrev pub Writes : WriteAnswer → List ℕ → List ℕ → List ℕ → Type 0
Writes (Took count) piece written written' = written' ≡ written ++ take count piece
Writes NotTaken piece written written' = written' ≡ written
