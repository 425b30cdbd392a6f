-- How many bytes of keys and values batches have.
use Rattle.std.specs.Prelude.{ℕ, ◌+◌, List, length}
use Rattle.std.specs.List.{sum_by}
use Rattle.slate_types.specs.declared.batches.Batch.{Batch}
use Rattle.slate_types.specs.declared.batches.KeyOp.{KeyOp}
use Rattle.slate_types.specs.declared.batches.Op.{Op}
use Rattle.slate_types.specs.declared.batches.Op.TheVariants.{Put, Delete, Merge}

-- the bytes of an operation's value or operand
abbrev pub value_size : Op → ℕ
value_size (Put value expire_ts) = length value
value_size Delete = 0
value_size (Merge operand expire_ts) = length operand

-- the bytes of keys and values in operations
abbrev pub ops_size : List KeyOp → ℕ
ops_size ops = sum_by (λ o. length o.key + value_size o.op) ops

-- those in batches
abbrev pub size_of : List Batch → ℕ
size_of batches = sum_by (λ batch. ops_size batch.ops) batches
