use Rattle.std.proofs.Common.{◌∙◌, ◌++◌, ◌∷◌, [], ap, cond, not, filter, List}
use Rattle.std.specs.Str.{bytes_eq}
use Rattle.slate_types.specs.declared.batches.KeyOp.{KeyOp}
use Rattle.slate_types.specs.declared.batches.Batch.{Batch}
use Rattle.slate_transactions.specs.Own.{adding, own_batch}
use Rattle.slate_transactions.proofs.Adding.{added}
use Rattle.slate_transactions.proofs.own_writes.OwnWrites.add.Goals as goal

pub invariant_of-self-2 : goal.invariant_of-self-2
invariant_of-self-2 c =
    let o = c.args.key_op in
    let items = c.add_op.ensures ∙ ap (λ (os : List KeyOp). cond c.replaces-replaces.result (filter (λ (x : KeyOp). not (bytes_eq x.key o.key)) os) os ++ o ∷ []) c.reserve.ensures.items in
    (added c.self.inside.start c.self.inside.ops.items c.add_op.new.ops.items c.self.inside.by_key c.make_place.new.by_key c.set_own.new.by_key o c.in_ok-key.key _ c.in_ok-own.own c.replaces-replaces.result
    c.self.invariant c.in_ok-key.ensures.cases c.get-earlier.ensures.value c.in_ok-own.ensures c.replaces-replaces.ensures c.in_ok-make_place.ensures.same c.set_own.ensures items).0

pub returns-clause-ok : goal.returns-clause-ok
returns-clause-ok c =
    let o = c.args.key_op in
    let items = c.add_op.ensures ∙ ap (λ (os : List KeyOp). cond c.replaces-replaces.result (filter (λ (x : KeyOp). not (bytes_eq x.key o.key)) os) os ++ o ∷ []) c.reserve.ensures.items in
    ap (own_batch c.self.inside.start) (added c.self.inside.start c.self.inside.ops.items c.add_op.new.ops.items c.self.inside.by_key c.make_place.new.by_key c.set_own.new.by_key o c.in_ok-key.key _ c.in_ok-own.own c.replaces-replaces.result
    c.self.invariant c.in_ok-key.ensures.cases c.get-earlier.ensures.value c.in_ok-own.ensures c.replaces-replaces.ensures c.in_ok-make_place.ensures.same c.set_own.ensures items).1
    ∙ ap (λ (b : Batch). adding b o) c.self.view_is
