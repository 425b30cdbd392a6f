use Rattle.std.proofs.Common.{◌++◌, ◌∙◌, ap, sym, take, get_or, arith}
use Rattle.std.proofs.lemmas.List.{flat_map_more, take_more}
use Rattle.std.specs.List.{flat_map}
use Rattle.slate_store.specs.declared.objects.TableId.{TableId}
use Rattle.slate_check.specs.Shown.{swept_table_text}
use Rattle.slate_check.proofs.shown.show_swept_tables.Goals as goal

pub loop-id-preserved : goal.loop-id-preserved
loop-id-preserved c =
    let xs = c.args.ids.now in
    let i = c.loop-id.id-index in
    let first : TableId = record { epoch = 0; index = 0 } in
    let id = get_or xs i first in
    let old = c.args.out.now.items in
    c.in_ok-write_swept_table.ensures ∙ (ap (λ l. l ++ swept_table_text id) c.loop-id.invariant
    ∙ (flat_map_more swept_table_text old (take i xs) id ∙ ap (λ ys. old ++ flat_map swept_table_text ys) (sym (take_more xs i first (omega arith)))))
