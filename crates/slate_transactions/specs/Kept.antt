-- The operations of each key, as a transaction keeps them.
use Rattle.std.specs.Prelude.{◌≡◌, ℕ, Bool, true, false, List, [], ◌∷◌, Option, Some, None, unwrap_or}
use Rattle.std.specs.BTreeMap.{BTreeMap, get}
use Rattle.slate_types.specs.declared.batches.Batch.{Batch}
use Rattle.slate_types.specs.declared.batches.KeyOp.{KeyOp}
use Rattle.slate_types.specs.declared.batches.KeyValue.{KeyValue}
use Rattle.slate_types.specs.declared.batches.Op.TheVariants.{Put}
use Rattle.slate_types.specs.Range.{key_cmp}
use Rattle.slate_transactions.specs.Own.{on_key, own_batch}

-- the batch of a key; one without operations where there is none
abbrev pub own_at : ℕ → BTreeMap (List ℕ) Batch → List ℕ → Batch
own_at start by_key key = unwrap_or (get key_cmp by_key key) (own_batch start [])

-- each key has its operations
abbrev pub AreByKey : ℕ → List KeyOp → BTreeMap (List ℕ) Batch → Type 0
AreByKey start ops by_key = (key : List ℕ) → own_at start by_key key ≡ own_batch start (on_key key ops)

-- a row, where there is one, as a batch that puts it
abbrev pub row_batch : Option KeyValue → Batch
row_batch None = own_batch 0 []
row_batch (Some row) = record { number = row.seq; create_ts = row.create_ts; ops = record { key = row.key; op = Put row.value row.expire_ts } ∷ [] }

-- whether there is an operation
abbrev pub has_any : List KeyOp → Bool
has_any [] = false
has_any (o ∷ ops) = true
