use Rattle.std.proofs.Common.{◌≡◌, length}
use Rattle.slate_dispatch.proofs.FirstReady.{AreFalseBelow}
use Rattle.slate_dispatch.proofs.dispatchers.poll_notifiers.Given as goal

abbrev pub invariant-loop-index : goal.invariant-loop-index
invariant-loop-index g l =
    let ready = g.H.MessageHandler.ready l.initial.handler in
    record {
      same : l.handler ≡ l.initial.handler;
      count : l.index-end ≡ length ready;
      passed : AreFalseBelow l.index ready;
    }
