use Rattle.std.proofs.Common.{sym, ◌∙◌, ap}
use Rattle.slate_published.proofs.Adding.{cell_moves}
use Rattle.slate_published.proofs.lists.add_cell.Goals as goal

pub compare_exchange-found-requires : goal.compare_exchange-found-requires
compare_exchange-found-requires c =
    let h = c.requires.head in
    let offer = c.plain-offer.ensures in
    let pen = c.no_pen-right.ensures in (
      ap (λ w. w.tracked) h,
      sym (ap (λ w. w.book) h),
      pen.0 ∙ sym (ap (λ w. w.book) h),
      offer.0,
      rw (ap (λ w. w.key) h, pen.1, offer.3) (cell_moves c.args.seen.now.log c.plain-offer.result.ask c.args.cells c.requires.low),
    )
