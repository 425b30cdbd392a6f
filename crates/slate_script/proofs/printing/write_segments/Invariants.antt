-- the prefixes so far are written behind the old text
use Rattle.std.proofs.Common.{◌≡◌, ◌++◌, map, take}
use Rattle.slate_script.specs.Replies.{prefixes_text}
use Rattle.slate_script.proofs.printing.write_segments.Given as goal

abbrev pub invariant-loop-segment : goal.invariant-loop-segment
invariant-loop-segment l = l.out.items ≡ l.fn.out.items ++ prefixes_text (map (λ segment. segment.prefix) (take l.segment-index l.segments))
