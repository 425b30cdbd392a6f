use Rattle.std.proofs.Common.{◌≡◌, ◌+◌, ◌-◌, ◌≤◌, ◌^◌}
use Rattle.std.specs.Option.{IfSome}
use Rattle.slate_feed.specs.Reading.{IsGoing, made}
use Rattle.slate_feed.proofs.Running.{Runs}
use Rattle.slate_feed.proofs.machines.FeedMachine.run.Given as goal

abbrev pub invariant-loop-self : goal.invariant-loop-self
invariant-loop-self g l = record {
  going : IsGoing l.self.stage;
  cursor : l.self.cursor ≡ l.fn.self.cursor;
  kept : g.S.Store.objects l.store ≡ g.S.Store.objects l.fn.store;
  count : g.S.Store.faults l.store ≡ g.S.Store.faults l.fn.store;
  calls : g.S.Store.calls l.store ≤ g.S.Store.calls l.fn.store + made l.self.stage l.self;
  runs : IfSome (g.S.Store.objects l.fn.store) (λ o. Runs o l.fn.self.cursor l.fn.self.limit l.self);
}

abbrev pub decreases-loop-self : goal.decreases-loop-self
decreases-loop-self g l = 2 ^ 66 - made l.self.stage l.self
