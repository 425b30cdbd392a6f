use Rattle.std.proofs.Common.{◌+◌, ◌<◌, ◌≡◌, ◌-◌, arith, drop, get_or, length, ltb, suc, subst, sym, take}
use Rattle.std.specs.List.{filter}
use Rattle.slate_store.specs.Content.{AreGapless}
use Rattle.slate_check.proofs.Lists.{above-around, above-next, gapless-push, length-push}
use Rattle.slate_check.proofs.ids.last_gapless.Goals as goal

pub returns-then-id-last : goal.returns-then-id-last
returns-then-id-last c =
    let ids = c.args.ids.now in
    let i = c.loop-id.id-index in
    let mark = c.args.mark in
    let inv = c.loop-id.invariant in
    let over : mark < get_or ids i 0 = c.if-id-mark.false in (
      filter (λ x. ltb mark x) (take i ids),
      get_or ids i 0,
      filter (λ x. ltb mark x) (drop (suc i) ids),
      above-around mark ids i c.loop-id-test.true over,
      inv.gapless,
      inv.reached,
      λ e. c.if-id-last.true (omega (arith, e)),
    )

pub loop-id-preserved : goal.loop-id-preserved
loop-id-preserved c =
    let ids = c.args.ids.now in
    let i = c.loop-id.id-index in
    let mark = c.args.mark in
    let front = filter (λ x. ltb mark x) (take i ids) in
    let inv = c.loop-id.invariant in
    let over : mark < get_or ids i 0 = c.if-id-mark.false in
    let more = above-next mark ids i c.loop-id-test.true over in
    let reached : c.loop-id.last ≡ mark + length front = inv.reached in
    let one : get_or ids i 0 - 1 ≡ c.loop-id.last = c.if-id-last.false in
    let id_is : get_or ids i 0 ≡ mark + length front + 1 = omega (arith, one, reached, over) in
    record {
      gapless = subst (AreGapless mark) (sym more) (gapless-push mark (get_or ids i 0) front inv.gapless id_is);
      reached = subst (λ l. get_or ids i 0 ≡ mark + length l) (sym more) (let n = length-push front (get_or ids i 0) in omega (arith, id_is, n));
    }
