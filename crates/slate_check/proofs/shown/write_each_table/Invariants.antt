use Rattle.std.proofs.Common.{◌≡◌, ◌++◌, take}
use Rattle.std.specs.Prelude.{codes}
use Rattle.std.specs.List.{flat_map}
use Rattle.slate_check.specs.Texts.{table_id_text}
use Rattle.slate_check.proofs.shown.write_each_table.Given as goal

abbrev pub invariant-loop-id : goal.invariant-loop-id
invariant-loop-id l = l.out.items ≡ l.fn.out.items ++ flat_map (λ id. codes " " ++ table_id_text id) (take l.id-index l.ids)
