-- A transaction's own operations, and what its reads see.
use Rattle.std.specs.Prelude.{ℕ, pos, if◌then◌else◌, List, [], ◌∷◌, ◌++◌, filter, Option}
use Rattle.std.specs.Str.{bytes_eq}
use Rattle.slate_types.specs.declared.batches.Batch.{Batch}
use Rattle.slate_types.specs.declared.batches.KeyOp.{KeyOp}
use Rattle.slate_types.specs.Written.{with_base, with_merge}
use Rattle.slate_reads.specs.Read.{is_base, is_within}

-- own operations, as a batch with the number at which the transaction began, and the creation time 0
abbrev pub own_batch : ℕ → List KeyOp → Batch
own_batch start ops = record { number = start; create_ts = pos 0; ops = ops }

-- operations with one more: a put or a delete removes the earlier ones on its key
abbrev pub with_op : List KeyOp → KeyOp → List KeyOp
with_op ops added = if is_base added.op then with_base ops added else with_merge ops added

-- a batch with one more operation
abbrev pub adding : Batch → KeyOp → Batch
adding batch added = record batch { ops = with_op batch.ops added }

-- the operations on a key
abbrev pub on_key : List ℕ → List KeyOp → List KeyOp
on_key key ops = filter (λ o. bytes_eq o.key key) ops

-- batches up to a bound, and then the own operations, which are newer than all others
abbrev pub seen_with : Option ℕ → List Batch → Batch → List Batch
seen_with bound batches own = filter (λ batch. is_within bound batch.number) batches ++ own ∷ []
