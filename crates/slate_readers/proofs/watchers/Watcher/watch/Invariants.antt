use Rattle.std.proofs.Common.{◌≡◌}
use Rattle.slate_readers.proofs.watchers.Watcher.watch.Given as goal

abbrev pub invariant-loop : goal.invariant-loop
invariant-loop g l = (l.self.reader).origin ≡ (l.fn.self.reader).origin
