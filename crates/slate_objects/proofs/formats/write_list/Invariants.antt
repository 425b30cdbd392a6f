use Rattle.std.proofs.Common.{◌≡◌, ◌++◌, length, take}
use Rattle.std.specs.List.{flat_map, AllByRecursion}
use Rattle.slate_objects.specs.Spelling.{number}
use Rattle.slate_objects.proofs.formats.write_list.Given as goal

abbrev pub invariant-loop-value : goal.invariant-loop-value
invariant-loop-value g l =
    (l.out.items ≡ l.fn.out.items ++ number (length l.values) ++ flat_map g.T.Format.spelled (take l.value-index l.values))
    × AllByRecursion g.T.Format.Fits (take l.value-index l.values)
