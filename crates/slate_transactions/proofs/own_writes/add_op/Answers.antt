use Rattle.std.proofs.Common.{◌≡◌, ◌∙◌, ◌++◌, ◌∷◌, [], ap, refl, not, filter, if◌then◌else◌, rules}
use Rattle.std.specs.Str.{bytes_eq}
use Rattle.std.proofs.lemmas.Fn.{filter_same}
use Rattle.slate_types.specs.declared.batches.KeyOp.{KeyOp}
use Rattle.slate_transactions.proofs.own_writes.add_op.Goals as goal
use Rattle.slate_transactions.proofs.own_writes.add_op.Goals.{then-replaces, else-replaces}

pub returns : goal.returns
returns c =
    let left = filter (λ (o : KeyOp). not (bytes_eq o.key c.args.key_op.key)) c.args.ops.now.items in
    let kept : c.if-replaces.ops.items ≡ (if c.args.replaces then left else c.args.ops.now.items) = elim c.if-replaces.branch [
      | then-replaces w ↦ rw (w.ops-is, w.if-replaces.true) (filter_same _ (λ (o : KeyOp). not (bytes_eq o.key c.args.key_op.key)) _ (λ x b f' k. search rules) _ _ w.retain.ensures.filtered)
      | else-replaces w ↦ rw (w.ops-is, w.if-replaces.false) refl
    ] in
    c.push_reserved.ensures.items ∙ ap (λ os. os ++ c.args.key_op ∷ []) kept
