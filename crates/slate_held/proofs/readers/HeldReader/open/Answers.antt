use Rattle.std.proofs.Common.{◌≡◌, to_z, of_z, to_z-of_z, w64}
use Rattle.slate_held.proofs.readers.HeldReader.open.Goals as goal

pub returns-clause-rebuilds : goal.returns-clause-rebuilds
returns-clause-rebuilds g c = c.in_ok-reader.ensures.rebuilds

pub returns-clause-managed : goal.returns-clause-managed
returns-clause-managed g c =
    let moment_back : to_z w64 (of_z w64 c.args.moment) ≡ c.args.moment = to_z-of_z {w = w64} {z = c.args.moment} c.ranges.moment in
    rw (← moment_back) c.in_ok-reader.ensures.managed
