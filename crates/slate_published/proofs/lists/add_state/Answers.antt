use Rattle.std.proofs.Common.{sym, ◌∙◌, ap, refl, length}
use Rattle.slate_published.proofs.Adding.{adds_moves}
use Rattle.slate_published.proofs.lists.add_state.Goals as goal

pub compare_exchange-requires : goal.compare_exchange-requires
compare_exchange-requires c =
    let h = c.requires.head in
    let offer = c.plain-offer.ensures in (
      ap (λ w. w.tracked) h,
      c.requires.seen.0 ∙ sym (ap (λ w. w.book) h),
      c.requires.right.0 ∙ sym (ap (λ w. w.book) h),
      offer.0,
      rw (ap (λ w. w.key) h, c.requires.right.1, offer.1, offer.3)
          (adds_moves c.args.front.now.states c.args.seen.now.log c.args.state.now (length c.args.front.now.states) c.requires.seen.1 refl c.requires.rises),
    )
