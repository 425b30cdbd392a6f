-- What a row whose key and value were read adds to a machine.
use Rattle.std.proofs.Common.{◌≡◌, Some, ap, ◌∙◌}
use Rattle.std.specs.Option.{option_and_then}
use Rattle.slate_types.specs.declared.batches.KeyValue.{KeyValue}
use Rattle.slate_jobs.specs.declared.rows.Cells.{Cells}
use Rattle.slate_jobs.specs.declared.rows.RowName.{RowName}
use Rattle.slate_jobs.specs.Decoding.{cells_at, name_at, with_cells, with_row}
use Rattle.slate_jobs.specs.Machine.{Machine}

pub row-read : (m : Machine) (row : KeyValue) (name : RowName) (cells : Cells) → name_at row.key ≡ Some name → cells_at row.value ≡ Some cells → with_row m row ≡ with_cells m (Some cells) name
row-read m row name cells named parted = ap (option_and_then (with_cells m (cells_at row.value))) named ∙ ap (λ found. with_cells m found name) parted
