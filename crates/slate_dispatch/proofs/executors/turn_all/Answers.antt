use Rattle.std.proofs.Common.{◌≡◌, w64, to_z, of_z}
use Rattle.std.proofs.lemmas.Int.{to_z-of_z}
use Rattle.slate_dispatch.proofs.GroupLemmas.{turns-failed}
use Rattle.slate_dispatch.proofs.executors.turn_all.Goals as goal

pub returns-then-turn_groups : goal.returns-then-turn_groups
returns-then-turn_groups g c =
    let moment_back : to_z w64 (of_z w64 c.args.moment) ≡ c.args.moment = to_z-of_z w64 _ c.ranges.moment in
    turns-failed g.T.Task.steps g.T.Task.is_cancelled c.args.moment c.args.random c.args.cell.now c.turn_groups.new.cell c.args.groups.now c.turn_groups.new.groups _ _
    c.if-turn_groups.true
    (rw moment_back at c.turn_groups.ensures)
    c.cancel_groups.ensures
