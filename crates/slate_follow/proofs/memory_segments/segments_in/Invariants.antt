use Rattle.std.proofs.Common.{◌≡◌, Option, take}
use Rattle.std.specs.Option.{option_copied}
use Rattle.slate_model.specs.Segments.{Extractor, IsExtractor, segments_of}
use Rattle.slate_follow.specs.Joined.{joined}
use Rattle.slate_follow.proofs.memory_segments.segments_in.Given as goal

abbrev pub invariant-loop-table : goal.invariant-loop-table
invariant-loop-table g l =
    (x : Option Extractor) → IsExtractor g.E.PrefixExtractor.may_name g.E.PrefixExtractor.may_extract (option_copied l.extractor) x → l.all.items ≡ segments_of x (joined (take l.table-index l.tables))
