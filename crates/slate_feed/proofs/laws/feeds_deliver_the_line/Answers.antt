use Rattle.slate_feed.proofs.Delivering.{delivers-line}
use Rattle.slate_feed.proofs.laws.feeds_deliver_the_line.Goals as goal

pub returns : goal.returns
returns c = delivers-line
