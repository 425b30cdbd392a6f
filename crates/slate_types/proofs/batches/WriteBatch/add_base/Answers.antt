use Rattle.std.proofs.Common.{◌≡◌, ◌∙◌, rules, not}
use Rattle.std.specs.List.{filter}
use Rattle.std.specs.Str.{bytes_eq}
use Rattle.std.proofs.lemmas.Fn.{filter_same}
use Rattle.slate_types.specs.declared.batches.KeyOp.{KeyOp}
use Rattle.slate_types.proofs.batches.WriteBatch.add_base.Goals as goal

pub returns-clause-ok : goal.returns-clause-ok
returns-clause-ok c =
    let kept : c.retain.new.self.items ≡ filter (λ (o : KeyOp). not (bytes_eq o.key c.args.key_op.key)) c.reserve.new.self.items =
    filter_same _ (λ (o : KeyOp). not (bytes_eq o.key c.args.key_op.key)) _ (λ x b f' k. search rules) _ _ c.retain.ensures.filtered in
    let before : c.reserve.new.self.items ≡ c.args.self.now.ops = c.reserve.ensures.items ∙ c.ops.view_is in
    rw (c.push_reserved.ensures.items, kept, before)
