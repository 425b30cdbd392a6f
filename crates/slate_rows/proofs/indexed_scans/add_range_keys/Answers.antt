use Rattle.std.proofs.Common.{◌≡◌, sym, ◌∙◌, ap, subst, ◌+◌, ◌++◌, ◌∷◌, [], take}
use Rattle.std.specs.List.{flat_map}
use Rattle.std.proofs.lemmas.List.{append-nil, flat_map_more, take_more, take_all}
use Rattle.slate_rows.specs.Walked.{AreWalked, key_list}
use Rattle.slate_rows.proofs.indexed_scans.add_range_keys.Goals as goal

pub loop-table-init : goal.loop-table-init
loop-table-init g c batches walked = rw append-nil walked

pub loop-table-preserved : goal.loop-table-preserved
loop-table-preserved g c batches walked =
    let i = c.loop-table.table-index in
    let tables = c.args.tables.now in
    let table = c.table-item.result in
    let batches_of = g.T.Indexed.batches in
    let more : take (i + 1) tables ≡ take i tables ++ table ∷ [] = take_more tables i table c.loop-table-test.true ∙ ap (λ t. take i tables ++ t ∷ []) (sym c.table-item.is) in
    let whole = ap (λ bs. (batches ++ flat_map batches_of (take i tables)) ++ bs) c.as_indexed.ensures ∙ flat_map_more batches_of batches (take i tables) table ∙ ap (λ ts. batches ++ flat_map batches_of ts) (sym more) in
    subst (λ bs. AreWalked bs c.args.range.now (key_list c.add_table_keys.new.keys.items)) whole
    (c.in_ok-add_table_keys.ensures (batches ++ flat_map batches_of (take i tables)) (c.loop-table.invariant batches walked))

pub returns : goal.returns
returns g c batches walked =
    subst (λ ts. AreWalked (batches ++ flat_map g.T.Indexed.batches ts) c.args.range.now (key_list c.loop-table.keys.items)) (take_all c.loop-table.table-index c.args.tables.now c.loop-table-test.false) (c.loop-table.invariant batches walked)
