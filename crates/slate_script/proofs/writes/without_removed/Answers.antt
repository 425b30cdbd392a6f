use Rattle.std.proofs.Common.{List, ℕ, true, append-nil, cond, refl, sym, ◌∙◌, ap}
use Rattle.std.specs.HashSet.{contains}
use Rattle.std.specs.Str.{bytes_eq}
use Rattle.slate_script.specs.Writes.{written}
use Rattle.slate_script.proofs.BatchLemmas.{staying, passed_over, merge_kept, base_kept, none_removed}
use Rattle.slate_script.proofs.writes.without_removed.Goals as goal
use Rattle.slate_script.proofs.writes.without_removed.Goals.{then-not-is_merge+in_ok-clone+in_ok-insert, else-not-is_merge}

pub loop-key_op-init : goal.loop-key_op-init
loop-key_op-init c =
    rw c.new-kept.ensures.items (append-nil (staying (contains bytes_eq c.new-removed.result) (written c.args.ops.items)) ∙ none_removed (contains bytes_eq c.new-removed.result) (written c.args.ops.items) (λ key. rw c.new-removed.ensures.empty refl))

pub loop-key_op-preserved-then-contains : goal.loop-key_op-preserved-then-contains
loop-key_op-preserved-then-contains c =
    passed_over (contains bytes_eq c.loop-key_op.removed) c.loop-key_op.ops.items c.pop.new.self.items c.loop-key_op.kept.items _ c.in-Some.key_op c.in-Some.ensures.items (sym c.if-contains.ensures) c.loop-key_op.invariant

pub loop-key_op-preserved : goal.loop-key_op-preserved
loop-key_op-preserved c = elim c.if-not-is_merge.branch [
  | then-not-is_merge+in_ok-clone+in_ok-insert w ↦
      base_kept (contains bytes_eq c.loop-key_op.removed) (contains bytes_eq c.if-not-is_merge.removed) c.loop-key_op.ops.items c.pop.new.self.items c.loop-key_op.kept.items c.push.new.self.items _ c.in-Some.key_op c.in-Some.ensures.items (sym c.if-contains.ensures) (sym w.if-not-is_merge.ensures)
      (λ key. ap (λ keys. contains bytes_eq keys key) w.removed-is ∙ w.in_ok-insert.ensures.updates.0 key ∙ ap (λ (k : List ℕ). cond (bytes_eq k key) true (contains bytes_eq c.loop-key_op.removed key)) w.in_ok-clone.ensures.cases) c.in_ok-push.ensures.items c.loop-key_op.invariant
  | else-not-is_merge w ↦
      rw w.removed-is (merge_kept (contains bytes_eq c.loop-key_op.removed) c.loop-key_op.ops.items c.pop.new.self.items c.loop-key_op.kept.items c.push.new.self.items _ c.in-Some.key_op c.in-Some.ensures.items (sym c.if-contains.ensures) (sym w.if-not-is_merge.ensures) c.in_ok-push.ensures.items c.loop-key_op.invariant)
]
