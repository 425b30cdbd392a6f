use Rattle.std.proofs.Common.{refl, ap, ◌∙◌, drop}
use Rattle.slate_published.proofs.Showing.{waits_after}
use Rattle.slate_published.proofs.publishers.hold.Goals as goal

pub returns : goal.returns
returns c =
    let desk = c.append.ensures.desk in
    let old = c.args.copies.now in
    let new = c.append.new.self in
    record {
      desk = desk;
      one = record {
        shows = ap (λ d. d.shown.value.origin) desk ∙ c.requires.shows;
        waits = waits_after c.append.result c.args.edition.origin c.args.edition (drop old.behind old.log.items) (drop new.behind new.log.items) refl c.requires.waits c.append.ensures.pending;
      };
    }
