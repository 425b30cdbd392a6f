use Rattle.std.proofs.Common.{◌≡◌, to_z, of_z, to_z-of_z, w64}
use Rattle.slate_held.proofs.readers.HeldReader.poll.Goals as goal

pub returns-clause-polls : goal.returns-clause-polls
returns-clause-polls g c = rw (← c.self.view_is) c.poll.ensures.polls

pub returns-clause-managed : goal.returns-clause-managed
returns-clause-managed g c =
    let moment_back : to_z w64 (of_z w64 c.args.moment) ≡ c.args.moment = to_z-of_z {w = w64} {z = c.args.moment} c.ranges.moment in
    rw (← c.self.view_is, ← moment_back) c.poll.ensures.managed

pub returns-clause-costs : goal.returns-clause-costs
returns-clause-costs g c = rw (← c.self.view_is) c.poll.ensures.costs

pub returns-clause-costs_managed : goal.returns-clause-costs_managed
returns-clause-costs_managed g c =
    let moment_back : to_z w64 (of_z w64 c.args.moment) ≡ c.args.moment = to_z-of_z {w = w64} {z = c.args.moment} c.ranges.moment in
    rw (← c.self.view_is, ← moment_back) c.poll.ensures.costs_managed

pub returns-clause-handed : goal.returns-clause-handed
returns-clause-handed g c = rw (← c.self.view_is) c.poll.ensures.handed

pub returns-clause-handed_managed : goal.returns-clause-handed_managed
returns-clause-handed_managed g c = rw (← c.self.view_is) c.poll.ensures.handed_managed

pub returns-clause-left_managed : goal.returns-clause-left_managed
returns-clause-left_managed g c =
    let moment_back : to_z w64 (of_z w64 c.args.moment) ≡ c.args.moment = to_z-of_z {w = w64} {z = c.args.moment} c.ranges.moment in
    rw (← c.self.view_is, ← moment_back) c.poll.ensures.left_managed
