use Rattle.std.proofs.Common.{◌+◌, ◌++◌, List, reverse}
use Rattle.std.specs.Option.{unwrap_or, option_map}
use Rattle.slate_reads.specs.Tails.{IsBack}
use Rattle.slate_reads.specs.Read.{Version, history}
use Rattle.slate_reads.specs.Index.{Leads}
use Rattle.slate_reads.proofs.Ends.{within}
use Rattle.slate_reads.proofs.indexed_reads.add_newest_versions.Given as goal

-- the versions that are left, newest first, go before those taken
abbrev pub invariant-loop-entry : goal.invariant-loop-entry
invariant-loop-entry l =
    (left : List Version)
    × Leads l.table-inside.batches l.table-inside.entries l.key l.next left
    × ((whole rest : List Version) → IsBack l.key whole (rest ++ history l.table l.bound l.key) l.initial.newest.items →
    IsBack l.key whole (rest ++ within l.bound (reverse left)) l.newest.items)

abbrev pub decreases-loop-entry : goal.decreases-loop-entry
decreases-loop-entry l = unwrap_or (option_map (λ place. place + 1) l.next) 0
