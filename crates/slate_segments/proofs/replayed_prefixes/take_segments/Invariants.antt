use Rattle.std.proofs.Common.{◌≡◌, ◌++◌, Some, take, drop}
use Rattle.slate_model.specs.Segments.{Extractor, IsLawful, prefixes_of, unsegmented_refusal}
use Rattle.slate_segments.specs.Prefixes.{HaveSame}
use Rattle.slate_segments.proofs.replayed_prefixes.take_segments.Given as goal

abbrev pub invariant-loop-op : goal.invariant-loop-op
invariant-loop-op g l = (x : Extractor) → IsLawful g.E.PrefixExtractor.may_name g.E.PrefixExtractor.may_extract l.extractor x →
    (unsegmented_refusal (Some x) l.ops ≡ unsegmented_refusal (Some x) (drop l.op-index l.ops)) × HaveSame l.taken.keys (l.fn.taken.keys ++ prefixes_of x (take l.op-index l.ops))
