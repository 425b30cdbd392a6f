use Rattle.std.proofs.Common.{sym}
use Rattle.slate_feed.proofs.Leading.{last-number}
use Rattle.slate_feed.proofs.feeds.Feed.advance.Goals as goal

pub returns-in-Some : goal.returns-in-Some
returns-in-Some c = last-number c.args.self.now c.args.batches.now c.in-Some.last.now c.requires (sym c.in-Some.ensures.value)
