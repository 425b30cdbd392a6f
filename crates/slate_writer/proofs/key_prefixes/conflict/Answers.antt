use Rattle.std.proofs.Common.{◌++◌}
use Rattle.slate_writer.proofs.key_prefixes.conflict.Goals as goal

pub returns : goal.returns
returns c =
    let p = c.args.prefix.now in
    let segments = c.args.segments.now in
    let taken = c.args.taken.now in
    c.lesser.ensures p c.args.stored.now (segments ++ taken) c.stored_conflict.ensures (c.lesser-among_batches.ensures p segments taken c.least_nesting.ensures c.least_nesting-2.ensures)
