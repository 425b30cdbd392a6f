use Rattle.slate_readers.proofs.Told.{watchers-count, watchers-of}
use Rattle.slate_readers.proofs.sessions.open_watchers.Goals as goal

pub returns-in-Ok-clause-watchers : goal.returns-in-Ok-clause-watchers
returns-in-Ok-clause-watchers g c = (
  watchers-count c.in-Ok.watchers.items c.in_ok-publisher.readers.items c.args.count c.in-Ok.ensures c.in_ok-publisher.ensures.readers.0,
  watchers-of c.in_ok-publisher.publisher c.in-Ok.watchers.items c.in_ok-publisher.readers.items c.in-Ok.ensures c.in_ok-publisher.ensures.readers.1,
)
