use Rattle.std.proofs.Common.{◌++◌, List, false, length}
use Rattle.std.specs.List.{flat_map}
use Rattle.slate_reads.specs.Tails.{IsEnd}
use Rattle.slate_reads.specs.Read.{Version, history}
use Rattle.slate_reads.proofs.indexed_reads.add_from_tables.Given as goal

-- the tables that are left go before what was taken
abbrev pub invariant-loop-table : goal.invariant-loop-table
invariant-loop-table g l =
    (whole rest : List Version) → IsEnd l.key whole (rest ++ history (flat_map g.T.Indexed.batches l.tables) l.bound l.key) false l.initial.newest.items →
    IsEnd l.key whole (rest ++ history (flat_map g.T.Indexed.batches l.left) l.bound l.key) false l.newest.items

abbrev pub decreases-loop-table : goal.decreases-loop-table
decreases-loop-table g l = length l.left
