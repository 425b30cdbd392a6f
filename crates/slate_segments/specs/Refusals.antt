-- The errors of taking segments, and of an extractor.
use Rattle.slate_errors.specs.declared.errors.SlateError.{SlateError}
use Rattle.slate_errors.specs.declared.errors.SlateError.TheVariants as errors

-- the errors of a key that is to have a segment
abbrev pub IsOfSegment : SlateError → Type 0
IsOfSegment (errors.EmptySegmentPrefix key) = Unit {0}
IsOfSegment errors.NoMemory = Unit {0}
IsOfSegment error = ⊥

-- the refusals of an extractor by a manifest
abbrev pub IsOfExtractor : SlateError → Type 0
IsOfExtractor (errors.SegmentExtractorMismatch persisted configured) = Unit {0}
IsOfExtractor (errors.SegmentPrefixNotRecognized prefix name) = Unit {0}
IsOfExtractor error = ⊥
