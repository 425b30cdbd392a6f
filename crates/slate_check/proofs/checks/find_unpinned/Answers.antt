use Rattle.std.proofs.Common.{◌∙◌, arith, drop, refl, subst, suc, sym, take}
use Rattle.std.proofs.lemmas.List.{take_all}
use Rattle.std.proofs.lemmas.List.Elements.{All-more}
use Rattle.std.specs.List.{All}
use Rattle.slate_store.specs.Content.{IsPinned}
use Rattle.slate_check.proofs.Lists.{around}
use Rattle.slate_check.proofs.checks.find_unpinned.Goals as goal

pub returns-in-Some-clause-found : goal.returns-in-Some-clause-found
returns-in-Some-clause-found g c o h of content =
    let inv = c.loop-checkpoint.invariant in
    let items = c.as_slice-checkpoint-items.result.now in
    let i = c.loop-checkpoint.checkpoint-index in
    let cp = c.checkpoint-item.result in
    let found = rw c.in-Some.is at (c.in_ok-fault.ensures.found o (inv.kept ∙ h) (inv.of o h of) content) in
    (cp, (take i items, drop (suc i) items, sym c.as_slice-checkpoint-items.ensures ∙ around items i cp cp c.loop-checkpoint-test.true c.checkpoint-item.is, inv.pinned o h of content), refl, found)

pub loop-checkpoint-preserved : goal.loop-checkpoint-preserved
loop-checkpoint-preserved g c =
    let inv = c.loop-checkpoint.invariant in
    let items = c.as_slice-checkpoint-items.result.now in
    let i = c.loop-checkpoint.checkpoint-index in
    let cp = c.checkpoint-item.result in
    record {
      kept = c.in_ok-fault.ensures.kept ∙ inv.kept;
      faults = let n = c.in_ok-fault.ensures.count in omega (arith, n, inv.faults);
      of = λ o h of. c.in_ok-fault.ensures.of o (inv.kept ∙ h) (inv.of o h of);
      pinned = λ o h of content.
          let found = rw c.in_default.is at (c.in_ok-fault.ensures.found o (inv.kept ∙ h) (inv.of o h of) content) in
          All-more (IsPinned o c.args.latest.now) items i cp c.loop-checkpoint-test.true (inv.pinned o h of content) (subst (IsPinned o c.args.latest.now) c.checkpoint-item.is found);
    }

pub returns-clause-found : goal.returns-clause-found
returns-clause-found g c o h of content =
    subst (All (IsPinned o c.args.latest.now)) (take_all c.loop-checkpoint.checkpoint-index c.as_slice-checkpoint-items.result.now c.loop-checkpoint-test.false ∙ c.as_slice-checkpoint-items.ensures)
    (c.loop-checkpoint.invariant.pinned o h of content)
