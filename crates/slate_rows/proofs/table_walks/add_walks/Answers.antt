use Rattle.std.proofs.Common.{◌≡◌, sym, ◌∙◌, ap, subst, ◌+◌, ◌++◌, ◌∷◌, [], take}
use Rattle.std.specs.List.{flat_map}
use Rattle.std.proofs.lemmas.List.{append-nil, flat_map_more, take_more, take_all}
use Rattle.slate_rows.specs.Ahead.{ahead, all_ahead, AreEach}
use Rattle.slate_rows.specs.Walked.{AreWalked}
use Rattle.slate_rows.proofs.Ahead.{AreEach-push, all_ahead-push}
use Rattle.slate_rows.proofs.Walks.{AreWalked-more}
use Rattle.slate_rows.proofs.table_walks.add_walks.Goals as goal

pub loop-table-init : goal.loop-table-init
loop-table-init g c = record { each = λ each. each; walked = λ batches walked. rw append-nil walked }

pub loop-table-preserved : goal.loop-table-preserved
loop-table-preserved g c =
    let i = c.loop-table.table-index in
    let tables = c.args.tables.now in
    let table = c.table-item.result in
    let batches_of = g.T.Indexed.batches in
    let old = c.loop-table.walks.items in
    let walk = c.over.result in
    let more : take (i + 1) tables ≡ take i tables ++ table ∷ [] = take_more tables i table c.loop-table-test.true ∙ ap (λ t. take i tables ++ t ∷ []) (sym c.table-item.is) in
    record {
      each = λ each. subst (AreEach c.args.order) (sym c.in_ok-push.ensures.items) (AreEach-push c.args.order old walk c.over.ensures.in_order (c.loop-table.invariant.each each));
      walked = λ batches walked.
          let so_far = batches ++ flat_map batches_of (take i tables) in
          let whole = ap (λ bs. so_far ++ bs) c.as_indexed.ensures ∙ flat_map_more batches_of batches (take i tables) table ∙ ap (λ ts. batches ++ flat_map batches_of ts) (sym more) in
          let keys = ap (all_ahead c.args.order) c.in_ok-push.ensures.items ∙ all_ahead-push c.args.order old walk in
          rw keys (subst (λ bs. AreWalked bs c.args.range.now (all_ahead c.args.order old ++ ahead c.args.order walk)) whole
          (AreWalked-more so_far c.as_indexed.result.now c.args.range.now (all_ahead c.args.order old) (ahead c.args.order walk) (c.loop-table.invariant.walked batches walked) c.over.ensures.within c.over.ensures.whole));
    }

pub returns-clause-walked : goal.returns-clause-walked
returns-clause-walked g c batches walked =
    subst (λ ts. AreWalked (batches ++ flat_map g.T.Indexed.batches ts) c.args.range.now (all_ahead c.args.order c.loop-table.walks.items)) (take_all c.loop-table.table-index c.args.tables.now c.loop-table-test.false) (c.loop-table.invariant.walked batches walked)
