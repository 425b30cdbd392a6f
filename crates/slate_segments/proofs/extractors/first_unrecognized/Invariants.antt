use Rattle.std.proofs.Common.{◌≡◌, drop, not}
use Rattle.std.specs.List.{find}
use Rattle.slate_model.specs.Segments.{Extractor, IsLawful, recognizes}
use Rattle.slate_segments.proofs.extractors.first_unrecognized.Given as goal

abbrev pub invariant-loop-prefix : goal.invariant-loop-prefix
invariant-loop-prefix g l = (x : Extractor) → IsLawful g.E.PrefixExtractor.may_name g.E.PrefixExtractor.may_extract l.extractor x →
    find (λ p. not (recognizes x p)) l.stored ≡ find (λ p. not (recognizes x p)) (drop l.prefix-index l.stored)
