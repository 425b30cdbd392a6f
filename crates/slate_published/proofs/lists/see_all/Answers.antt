use Rattle.std.proofs.Common.{sym, ◌∙◌, ap, length}
use Rattle.slate_published.proofs.Adding.{sees_moves}
use Rattle.slate_published.proofs.lists.see_all.Goals as goal

pub compare_exchange-requires : goal.compare_exchange-requires
compare_exchange-requires c =
    let h = c.requires.head in
    let offer = c.plain-offer.ensures in (
      ap (λ w. w.tracked) h,
      c.requires.seen ∙ sym (ap (λ w. w.book) h),
      c.requires.right.0 ∙ sym (ap (λ w. w.book) h),
      offer.0,
      rw (ap (λ w. w.key) h, c.requires.right.1, offer.3) (sees_moves c.args.seen.now.log c.plain-offer.result.ask (length c.args.front.now.states)),
    )
