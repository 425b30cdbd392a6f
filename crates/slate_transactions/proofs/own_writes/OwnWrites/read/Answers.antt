use Rattle.std.proofs.Common.{◌∙◌, ◌++◌, ap, sym}
use Rattle.std.specs.List.{flat_map}
use Rattle.std.specs.Option.{option_copied}
use Rattle.std.proofs.lemmas.Result.{err_from_is_err_and}
use Rattle.slate_transactions.proofs.Owning.{kept-base, kept-none, kept-versions, reads-base, reads-fault, reads-merges, reads-none}
use Rattle.slate_transactions.proofs.own_writes.OwnWrites.read.Goals as goal
use Rattle.slate_transactions.proofs.own_writes.OwnWrites.read.Goals.{then-has_base, else-has_base+in_ok-before}

pub returns-in_default-clause-plain : goal.returns-in_default-clause-plain
returns-in_default-clause-plain g c merge lawful =
    let i = c.self.inside in
    let rows = flat_map (λ table. table) c.args.stored.now ++ flat_map (λ table. table) c.args.memory.now in
    let none = sym c.get.ensures.value ∙ ap option_copied c.in_default.is in
    reads-none merge c.args.bound rows c.args.self.now c.args.key.now c.read_key.result (kept-none i.start i.ops.items i.by_key c.args.key.now c.args.self.now c.self.invariant c.self.view_is none)
    (c.read_key.ensures.plain merge lawful)

pub returns-in_err-before-clause-plain : goal.returns-in_err-before-clause-plain
returns-in_err-before-clause-plain g c merge lawful =
    let i = c.self.inside in
    let rows = flat_map (λ table. table) c.args.stored.now ++ flat_map (λ table. table) c.args.memory.now in
    let found = sym c.get.ensures.value ∙ ap option_copied c.in-Some.is in
    let merges = kept-base i.start i.ops.items i.by_key c.args.key.now c.args.self.now c.self.invariant c.self.view_is c.in-Some.own.now found ∙ sym c.has_base.ensures ∙ c.if-has_base.false in
    let p = err_from_is_err_and c.from_residual.result c.from_residual.ensures.1 in
    rw (p.1, p.2) (reads-fault merge c.args.bound rows c.args.self.now c.args.key.now c.in_err-before.field-0.0 merges (c.in_err-before.ensures.plain merge lawful))

pub returns-clause-plain : goal.returns-clause-plain
returns-clause-plain g c merge lawful =
    let i = c.self.inside in
    let key = c.args.key.now in
    let rows = flat_map (λ table. table) c.args.stored.now ++ flat_map (λ table. table) c.args.memory.now in
    let found = sym c.get.ensures.value ∙ ap option_copied c.in-Some.is in
    let same = kept-versions i.start i.ops.items i.by_key key c.args.self.now c.self.invariant c.self.view_is c.in-Some.own.now found in
    let base = kept-base i.start i.ops.items i.by_key key c.args.self.now c.self.invariant c.self.view_is c.in-Some.own.now found ∙ sym c.has_base.ensures in
    let folded = rw c.as_slice.ensures at c.fold_over.ensures.plain merge lawful in
    elim c.if-has_base.branch [
      | then-has_base w ↦ reads-base merge c.args.bound rows c.args.self.now key c.if-has_base.before c.in-Some.own.now same c.fold_over.result (base ∙ w.if-has_base.true) folded
      | else-has_base+in_ok-before w ↦ reads-merges merge c.args.bound rows c.args.self.now key c.if-has_base.before c.in-Some.own.now same c.fold_over.result (base ∙ w.if-has_base.false)
          (rw w.before-is w.in_ok-before.ensures.keyed) (rw w.before-is (w.in_ok-before.ensures.plain merge lawful)) folded
    ]
