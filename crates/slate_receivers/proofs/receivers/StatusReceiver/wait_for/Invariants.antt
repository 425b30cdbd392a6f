use Rattle.std.proofs.Common.{◌≡◌}
use Rattle.slate_receivers.proofs.receivers.StatusReceiver.wait_for.Given as goal

-- the version seen stays until the wait ends
abbrev pub invariant-loop : goal.invariant-loop
invariant-loop g l =
    (goal.iterator-loop g).can_next l.iterator' × (goal.iterator-loop g).is_finite l.iterator' × (l.self ≡ l.initial.self)
