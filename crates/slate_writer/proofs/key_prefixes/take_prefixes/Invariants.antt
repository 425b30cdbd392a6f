use Rattle.std.proofs.Common.{◌≡◌, ◌++◌, take, drop}
use Rattle.slate_status.specs.Segments.{PrefixesRise}
use Rattle.slate_model.specs.Segments.{Extractor, IsLawful, ops_refusal, prefixes_of}
use Rattle.slate_segments.specs.Prefixes.{HaveSame}
use Rattle.slate_writer.proofs.key_prefixes.take_prefixes.Given as goal

abbrev pub invariant-loop-op : goal.invariant-loop-op
invariant-loop-op g l =
    ((x : Extractor) → IsLawful g.E.PrefixExtractor.may_name g.E.PrefixExtractor.may_extract l.extractor x →
    (ops_refusal x (l.stored ++ l.segments) l.ops ≡ ops_refusal x ((l.stored ++ l.segments) ++ prefixes_of x (take l.op-index l.ops)) (drop l.op-index l.ops))
    × HaveSame l.taken.items (prefixes_of x (take l.op-index l.ops)))
    × PrefixesRise l.taken.items
