use Rattle.slate_status.proofs.Same.{prefix_lists}
use Rattle.slate_status.proofs.records.are_same_prefixes.Goals as goal

pub returns : goal.returns
returns c = prefix_lists c.args.some.now c.args.others.now c.eq.result c.eq.ensures
