-- Sets of keys, and which batch last wrote each key, as far as a handle keeps it for transactions.
use Rattle.std.specs.Prelude.{ℕ, Bool, if◌then◌else◌, nat_lt, List, [], ◌∷◌, filter, unwrap_or}
use Rattle.std.specs.List.{list_any}
use Rattle.std.specs.Map.{keys_of, lookup}
use Rattle.std.specs.BTreeMap.{insert_entry, is_at}
use Rattle.std.specs.BTreeSet.{insert_key}
use Rattle.slate_types.specs.declared.batches.KeyOp.{KeyOp}
use Rattle.slate_types.specs.Range.{key_cmp}

-- whether a key is among keys
abbrev pub is_among : List (List ℕ) → List ℕ → Bool
is_among keys key = list_any (is_at (key_cmp key)) keys

-- keys in order, and one more
abbrev pub with_key : List (List ℕ) → List ℕ → List (List ℕ)
with_key keys added = insert_key key_cmp keys added

-- the keys whose writes were tracked, in order, each with the number of the last batch with such a write
abbrev pub LastWrites : Type 0
LastWrites = List (List ℕ × ℕ)

-- the number of the last batch that wrote a key; 0 where none did
abbrev pub last_write : LastWrites → List ℕ → ℕ
last_write writes key = unwrap_or (lookup (is_at (key_cmp key)) writes) 0

-- the last writes after an operation of a batch with this number, which tracks all keys but the unmarked ones
abbrev pub after_write : ℕ → (unmarked : List (List ℕ)) → LastWrites → KeyOp → LastWrites
after_write number unmarked writes o = if is_among unmarked o.key then writes else insert_entry key_cmp writes o.key number

-- and after all its operations
abbrev pub after_writes : ℕ → (unmarked : List (List ℕ)) → List KeyOp → LastWrites → LastWrites
after_writes number unmarked [] writes = writes
after_writes number unmarked (o ∷ ops) writes = after_writes number unmarked ops (after_write number unmarked writes o)

-- what is kept of last writes in memory: them, and the keys of which another write takes no memory
pub record Tracking : Type 0 where
  pub writes : LastWrites
  pub room : List (List ℕ)

-- the entries that have a number; a key without a write may be there with the number 0
abbrev pub numbered : LastWrites → LastWrites
numbered entries = filter (λ e. nat_lt 0 e.1) entries

abbrev pub tracking_of : LastWrites → Tracking
tracking_of entries = record { writes = numbered entries; room = keys_of entries }
