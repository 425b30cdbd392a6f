use Rattle.std.proofs.Common.{◌≡◌, ◌+◌, ◌-◌, ◌<◌, ◌≤◌, ◌^◌, ◌++◌, List, Ok, length, max}
use Rattle.std.specs.Option.{IfSome}
use Rattle.slate_types.specs.Line.{AreNumberedFrom}
use Rattle.slate_types.specs.declared.batches.Batch.{Batch}
use Rattle.slate_types.specs.Counts.{one_more}
use Rattle.slate_store.specs.Logs.{IsLogged}
use Rattle.slate_replay.specs.Replay.{AreFrom, Replays, calls_after}
use Rattle.slate_replay.specs.declared.replays.Replayed.TheVariants.{Whole}
use Rattle.slate_replay.proofs.replays.replay.Given as goal

abbrev pub invariant-loop-before : goal.invariant-loop-before
invariant-loop-before g l = record {
  numbered : AreNumberedFrom l.floor l.memory;
  fits : l.floor + length l.memory < 2 ^ 64;
  grows : (added : List Batch) × (l.memory ≡ l.fn.memory ++ added);
  kept : g.S.Store.objects l.store ≡ g.S.Store.objects l.fn.store;
  count : g.S.Store.faults l.store ≡ g.S.Store.faults l.fn.store;
  calls : g.S.Store.calls l.store ≤ g.S.Store.calls l.fn.store + (l.before - l.mark);
  counted : one_more (g.S.Store.calls l.store) ≡ calls_after (l.before - l.mark + 1) (g.S.Store.calls l.fn.store);
  within : l.before ≤ max l.mark l.last;
  replays : IfSome (g.S.Store.objects l.fn.store) (λ o. Replays l.mark l.before l.floor l.fn.memory l.memory o (Ok Whole));
  logged : IfSome (g.S.Store.objects l.fn.store) (λ o. AreFrom (IsLogged l.mark o) l.fn.memory l.memory);
}
