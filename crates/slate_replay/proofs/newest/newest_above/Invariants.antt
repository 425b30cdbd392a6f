use Rattle.std.proofs.Common.{◌-◌, ◌≡◌, ◌+◌, ◌≤◌, min}
use Rattle.std.specs.Option.{IfSome}
use Rattle.slate_replay.specs.Newest.{HaveNothingNew}
use Rattle.slate_replay.proofs.newest.newest_above.Given as goal

abbrev pub invariant-loop-id : goal.invariant-loop-id
invariant-loop-id g l = record {
  within : l.id ≤ l.last;
  low : min l.mark l.last ≤ l.id;
  kept : g.S.Store.objects l.store ≡ g.S.Store.objects l.fn.store;
  count : g.S.Store.faults l.store ≡ g.S.Store.faults l.fn.store;
  calls : g.S.Store.calls l.store + l.id ≤ g.S.Store.calls l.fn.store + l.last;
  nothing : IfSome (g.S.Store.objects l.fn.store) (λ o. HaveNothingNew l.number l.id l.last o);
}

abbrev pub decreases-loop-id : goal.decreases-loop-id
decreases-loop-id g l = l.id - l.mark
