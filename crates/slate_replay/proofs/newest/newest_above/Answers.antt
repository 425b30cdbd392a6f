use Rattle.std.proofs.Common.{sym, ◌∙◌, refl, arith}
use Rattle.slate_replay.proofs.Looking.{log-at, no-log, nothing-from, nothing-more}
use Rattle.slate_replay.proofs.Replaying.{known}
use Rattle.slate_replay.proofs.newest.newest_above.Goals as goal

pub loop-id-preserved : goal.loop-id-preserved
loop-id-preserved g c =
    let i = c.loop-id.invariant in
    let e = c.in_ok-newest_of.ensures in
    record {
      within = omega arith;
      low = omega arith;
      kept = e.kept ∙ i.kept;
      count = let n = e.stays in omega (arith, n, i.count);
      calls = let n = e.calls in omega (arith, n, i.calls);
      nothing = known _ _ i.kept i.nothing e.found
          (λ o nothing found. nothing-more o c.args.number c.loop-id.id c.args.last c.in-Some.newest nothing (sym c.in-Some.is ∙ found) c.if-newest-number.false);
    }
