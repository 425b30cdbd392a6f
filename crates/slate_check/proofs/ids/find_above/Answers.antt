use Rattle.std.proofs.Common.{◌≤◌, refl, subst, suc, take, drop, get_or}
use Rattle.std.proofs.lemmas.List.{take_all}
use Rattle.std.proofs.lemmas.List.Elements.{All-more}
use Rattle.std.specs.List.{All}
use Rattle.slate_store.specs.declared.objects.TableId.{TableId}
use Rattle.slate_check.proofs.Lists.{around}
use Rattle.slate_check.proofs.ids.find_above.Goals as goal

pub returns-then-id-epoch : goal.returns-then-id-epoch
returns-then-id-epoch c =
    let none : TableId = record { epoch = 0; index = 0 } in
    let i = c.loop-id.id-index in
    let ids = c.args.ids.now in
    ((take i ids, drop (suc i) ids, around ids i (get_or ids i none) none c.loop-id-test.true refl, c.loop-id.invariant), c.if-id-epoch.true)

pub loop-id-preserved : goal.loop-id-preserved
loop-id-preserved c =
    let none : TableId = record { epoch = 0; index = 0 } in
    All-more (λ (id : TableId). id.epoch ≤ c.args.epoch) c.args.ids.now c.loop-id.id-index none c.loop-id-test.true c.loop-id.invariant c.if-id-epoch.false

pub returns : goal.returns
returns c = subst (All (λ (id : TableId). id.epoch ≤ c.args.epoch)) (take_all c.loop-id.id-index c.args.ids.now c.loop-id-test.false) c.loop-id.invariant
