use Rattle.std.proofs.Common.{◌≡◌, ◌≤◌, false, inr, refl, subst}
use Rattle.slate_types.specs.Line.{batches_above}
use Rattle.slate_store.specs.Content.{number_before}
use Rattle.slate_store.specs.Logs.{HaveGap}
use Rattle.slate_feed.specs.Reading.{Reading, reached}
use Rattle.slate_feed.proofs.machines.FeedMachine.take.Goals as goal

pub returns-in-Gap-clause-reads : goal.returns-in-Gap-clause-reads
returns-in-Gap-clause-reads c =
    let t = rw c.in-Gap.is at c.in_ok-take_from.ensures.takes in
    let f = rw c.in-Gap.is at c.in_ok-take_from.ensures.first in
    let piece = batches_above c.args.above c.args.batches.now in
    inr (
      piece,
      t.0,
      refl,
      subst (λ (r : Reading). HaveGap (reached r) t.0 piece) c.self.view_is t.1,
      subst (λ (r : Reading). r.began ≡ false → number_before piece r.cursor ≤ r.cursor) c.self.view_is (f tt),
    )
