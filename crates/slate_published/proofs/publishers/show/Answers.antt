use Rattle.std.proofs.Common.{ap, ◌∙◌, drop}
use Rattle.left_right.specs.Sides.{view}
use Rattle.slate_published.proofs.Showing.{shows, shows_after, knows_after, origin_of_next}
use Rattle.slate_published.proofs.publishers.show.Goals as goal

pub publish_as-requires : goal.publish_as-requires
publish_as-requires g c next is =
    let one = c.hold.ensures.one in
    let new = c.hold.new.copies in
    shows _ _ new.desk.shown.value next (origin_of_next c.args.edition.origin new.desk.shown.value.origin next.origin (drop new.behind new.log.items) one.shows one.waits is)

pub returns : goal.returns
returns g c =
    let new = c.hold.new.copies in
    let after = c.publish_as.result.0 in
    let origin = c.args.edition.origin in
    let both = shows_after c.publish_as.result.1 origin (view new.desk.place) (view after.desk.place) new.desk.shown.value after.desk.shown.value
    (drop new.behind new.log.items) (drop after.behind after.log.items) c.hold.ensures.one c.publish_as.ensures.values c.publish_as.ensures.rule in
    record {
      knows = knows_after c.publish_as.result.1 origin (view new.desk.place) (view after.desk.place) (ap (λ d. view d.place) c.hold.ensures.desk ∙ c.requires.knows) both.1;
      one = both.0;
    }
