use Rattle.std.proofs.Common.{◌≡◌, ◌+◌, ◌++◌, ◌∷◌, ◌∙◌, [], ap, drop, eqb, refl, suc, subst, sym, take}
use Rattle.std.proofs.lemmas.List.{map-append}
use Rattle.std.specs.BTreeSet.{contains}
use Rattle.std.specs.List.{IsDistinct, list_any}
use Rattle.std.specs.Ordering.{nat_cmp}
use Rattle.slate_store.specs.declared.objects.Checkpoint.{Checkpoint}
use Rattle.slate_check.specs.Named.{kept_ids}
use Rattle.slate_check.proofs.Lists.{around, distinct-push, next, seen-more, was-false, was-true}
use Rattle.slate_check.proofs.ids.find_kept_twice.Goals as goal

pub loop-checkpoint-init : goal.loop-checkpoint-init
unfolding IsDistinct
loop-checkpoint-init c = record { differ = tt; seen = λ id. rw c.new-seen.ensures.empty refl }

pub returns-then-not-branch : goal.returns-then-not-branch
returns-then-not-branch c =
    let cps = c.args.checkpoints.now in
    let i = c.loop-checkpoint.checkpoint-index in
    let x = c.checkpoint-item.result in
    let id = x.manifest_id in (
      kept_ids (take i cps),
      kept_ids (drop (suc i) cps),
      ap kept_ids (around cps i x x c.loop-checkpoint-test.true c.checkpoint-item.is) ∙ map-append (λ (y : Checkpoint). y.manifest_id) (take i cps) (x ∷ drop (suc i) cps),
      c.loop-checkpoint.invariant.differ,
      sym (c.loop-checkpoint.invariant.seen id) ∙ was-true c.in_ok-insert.field-0 (contains nat_cmp c.loop-checkpoint.seen id) c.in_ok-insert.ensures.added c.if-not-branch.true,
    )

pub loop-checkpoint-preserved : goal.loop-checkpoint-preserved
loop-checkpoint-preserved c =
    let cps = c.args.checkpoints.now in
    let i = c.loop-checkpoint.checkpoint-index in
    let x = c.checkpoint-item.result in
    let id = x.manifest_id in
    let more : kept_ids (take (i + 1) cps) ≡ kept_ids (take i cps) ++ id ∷ [] =
    ap kept_ids (next cps i x x c.loop-checkpoint-test.true c.checkpoint-item.is) ∙ map-append (λ (y : Checkpoint). y.manifest_id) (take i cps) (x ∷ []) in
    let fresh = was-false c.in_ok-insert.field-0 (contains nat_cmp c.loop-checkpoint.seen id) c.in_ok-insert.ensures.added c.if-not-branch.false in
    record {
      differ = subst (IsDistinct eqb) (sym more) (distinct-push (kept_ids (take i cps)) id c.loop-checkpoint.invariant.differ (sym (c.loop-checkpoint.invariant.seen id) ∙ fresh));
      seen = λ q. c.in_ok-insert.ensures.updates.0 q ∙ (seen-more q id (kept_ids (take i cps)) (contains nat_cmp c.loop-checkpoint.seen q) (c.loop-checkpoint.invariant.seen q) ∙ ap (list_any (eqb q)) (sym more));
    }
