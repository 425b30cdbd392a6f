use Rattle.std.proofs.Common.{◌≡◌, ◌++◌, take}
use Rattle.std.specs.Prelude.{codes}
use Rattle.std.specs.List.{flat_map}
use Rattle.slate_text.specs.Words.{word_text}
use Rattle.slate_check.proofs.shown.write_each_segment.Given as goal

abbrev pub invariant-loop-prefix : goal.invariant-loop-prefix
invariant-loop-prefix l = l.out.items ≡ l.fn.out.items ++ flat_map (λ prefix. codes " " ++ word_text prefix) (take l.prefix-index l.prefixes)
