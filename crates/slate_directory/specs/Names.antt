-- How ids are spelled in the names of files.
use Rattle.std.specs.Prelude.{ℕ, ◌-◌, List, ◌∷◌, ◌++◌, length, replicate, decimal}
use Rattle.slate_store.specs.declared.objects.TableId.{TableId}

-- a number in 20 decimal digits
abbrev pub number_stem : ℕ → List ℕ
number_stem n = replicate (20 - length (decimal n)) 48 ++ decimal n

-- a table's two numbers, with `-` between
abbrev pub table_stem : TableId → List ℕ
table_stem id = number_stem id.epoch ++ (45 ∷ number_stem id.index)
