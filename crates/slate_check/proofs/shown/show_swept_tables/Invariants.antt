use Rattle.std.proofs.Common.{◌≡◌, ◌++◌, take}
use Rattle.std.specs.List.{flat_map}
use Rattle.slate_check.specs.Shown.{swept_table_text}
use Rattle.slate_check.proofs.shown.show_swept_tables.Given as goal

abbrev pub invariant-loop-id : goal.invariant-loop-id
invariant-loop-id l = l.out.items ≡ l.fn.out.items ++ flat_map swept_table_text (take l.id-index l.ids)
