use Rattle.std.proofs.Common.{rules}
use Rattle.std.specs.Ordering.{is_le}
use Rattle.std.proofs.lemmas.List.Sorted.{IsPartitionPoint-from_clause}
use Rattle.slate_seqtrack.proofs.Searching.{IsPartitionedBy-le}
use Rattle.slate_seqtrack.proofs.lookups.count_up_to.Goals as goal

pub returns-clause-point : goal.returns-clause-point
returns-clause-point g c =
    IsPartitionPoint-from_clause (λ y. is_le (g.K.Ord.cmp y c.args.sought.now)) _ _ c.partition_point.ensures.partitioned
    (IsPartitionedBy-le g.met.K.Ord.total _ c.requires _) (λ a r f h. search rules)
