use Rattle.slate_feed.proofs.Stored.{opened-where}
use Rattle.slate_feed.proofs.feeds.Feed.open.Goals as goal

pub returns-clause-within : goal.returns-clause-within
returns-clause-within g c = opened-where _ _ _ c.open_at.ensures.opens
