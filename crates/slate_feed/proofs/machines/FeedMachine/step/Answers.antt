use Rattle.std.proofs.Common.{subst}
use Rattle.slate_types.specs.Line.{AreNumberedFrom}
use Rattle.slate_feed.proofs.Following.{ends-where, goes-where}
use Rattle.slate_feed.proofs.Reaching.{ends-reaches, goes-reaches}
use Rattle.slate_feed.proofs.machines.FeedMachine.step.Goals as goal

pub returns-in-Goes-clause-follows : goal.returns-in-Goes-clause-follows
returns-in-Goes-clause-follows g c = goes-where _ c.args.self.now c.call.new.self c.in_ok-call.ensures.fits (rw c.in-Goes.is at c.in_ok-call.ensures.meets)

pub returns-in-Ends-clause-follows : goal.returns-in-Ends-clause-follows
returns-in-Ends-clause-follows g c =
    ends-where _ c.args.self.now c.call.new.self c.take_found-batches.result c.in_ok-call.ensures.fits
    (subst (λ n. AreNumberedFrom n c.take_found-batches.result) c.in_ok-call.ensures.cursor c.take_found-batches.ensures.numbered) c.take_found-batches.ensures.found (rw c.in-Ends.is at c.in_ok-call.ensures.meets)

pub returns-in-Goes-clause-reaches : goal.returns-in-Goes-clause-reaches
returns-in-Goes-clause-reaches g c = goes-reaches _ c.args.self.now c.call.new.self c.in_ok-call.ensures.fits (rw c.in-Goes.is at c.in_ok-call.ensures.meets)

pub returns-in-Ends-clause-reaches : goal.returns-in-Ends-clause-reaches
returns-in-Ends-clause-reaches g c =
    ends-reaches _ c.args.self.now c.call.new.self _ c.take_found-batches.result c.in_ok-call.ensures.fits c.take_found-batches.ensures.found (rw c.in-Ends.is at c.in_ok-call.ensures.meets)
