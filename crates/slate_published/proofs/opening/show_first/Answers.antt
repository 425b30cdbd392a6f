use Rattle.std.proofs.Common.{drop}
use Rattle.left_right.specs.Sides.{view}
use Rattle.slate_published.proofs.Showing.{shows, shows_after, knows_first, origin_of_next}
use Rattle.slate_published.proofs.opening.show_first.Goals as goal

pub publish_as-copies-requires : goal.publish_as-copies-requires
publish_as-copies-requires g c next is =
    let one = c.requires in
    let old = c.args.copies in
    shows _ _ old.desk.shown.value next (origin_of_next c.args.empty.now.origin old.desk.shown.value.origin next.origin (drop old.behind old.log.items) one.shows one.waits is)

pub returns-in-Ok : goal.returns-in-Ok
returns-in-Ok g c =
    let old = c.args.copies in
    let after = c.publish_as-copies.result.0 in
    let origin = c.args.empty.now.origin in
    let both = shows_after c.publish_as-copies.result.1 origin (view old.desk.place) (view after.desk.place) old.desk.shown.value after.desk.shown.value
    (drop old.behind old.log.items) (drop after.behind after.log.items) c.requires c.publish_as-copies.ensures.values c.publish_as-copies.ensures.rule in
    record {
      knows = knows_first c.publish_as-copies.result.1 c.in-Ok.field-0 origin (view old.desk.place) (view after.desk.place) both.1 c.in-Ok.is;
      one = both.0;
    }
