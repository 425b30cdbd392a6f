use Rattle.std.proofs.Common.{◌≡◌, Some, take, drop}
use Rattle.slate_model.specs.Segments.{Extractor, IsLawful, ops_of, prefixes_of, unsegmented_refusal}
use Rattle.slate_segments.specs.Prefixes.{HaveSame}
use Rattle.slate_segments.proofs.replayed_prefixes.replayed_segments.Given as goal

abbrev pub invariant-loop-batch : goal.invariant-loop-batch
invariant-loop-batch g l = (x : Extractor) → IsLawful g.E.PrefixExtractor.may_name g.E.PrefixExtractor.may_extract l.extractor x →
    (unsegmented_refusal (Some x) (ops_of l.batches) ≡ unsegmented_refusal (Some x) (ops_of (drop l.batch-index l.batches)))
    × HaveSame l.taken.keys (prefixes_of x (ops_of (take l.batch-index l.batches)))
