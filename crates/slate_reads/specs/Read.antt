-- The plain read of a key: its versions up to a bound, and the row that they make.
use Rattle.std.specs.Prelude.{◌≡◌, ℕ, ℤ, Bool, true, false, if◌then◌else◌, nat_le, List, [], ◌∷◌, filter, map, Option, Some, None, Result, Ok, Err, option_map}
use Rattle.std.specs.List.{flat_map, list_any}
use Rattle.std.specs.Str.{bytes_eq}
use Rattle.slate_types.specs.declared.batches.Batch.{Batch}
use Rattle.slate_types.specs.declared.batches.KeyValue.{KeyValue}
use Rattle.slate_types.specs.declared.batches.Op.{Op}
use Rattle.slate_types.specs.declared.batches.Op.TheVariants.{Put, Delete, Merge as MergeOperand}
use Rattle.slate_types.specs.declared.read_faults.ReadFault.{ReadFault}
use Rattle.slate_types.specs.declared.read_faults.ReadFault.TheVariants.{MergeOperatorMissing, MergeOperatorError, NoMemory}
use Rattle.slate_types.specs.Operator.{Merge, IsLawful}

-- an operation of a batch, with the number and the creation time of the batch
pub record Version : Type 0 where
  pub op : Op
  pub number : ℕ
  pub create_ts : ℤ

-- the versions of a key in one batch, oldest first
abbrev pub versions_in : List ℕ → Batch → List Version
versions_in key batch =
    map (λ o. record { op = o.op; number = batch.number; create_ts = batch.create_ts }) (filter (λ o. bytes_eq o.key key) batch.ops)

-- whether a batch of this number is seen at a bound
abbrev pub is_within : Option ℕ → ℕ → Bool
is_within None number = true
is_within (Some bound) number = nat_le number bound

-- every version of a key in the batches up to a bound, in the order of the list
abbrev pub history : List Batch → Option ℕ → List ℕ → List Version
history batches bound key = flat_map (versions_in key) (filter (λ batch. is_within bound batch.number) batches)

-- a put or a delete: nothing before it counts
abbrev pub is_base : Op → Bool
is_base (Put value expire_ts) = true
is_base Delete = true
is_base (MergeOperand operand expire_ts) = false

-- the versions from the last put or delete on; all of them where there is neither
abbrev pub since_base : List Version → List Version
since_base [] = []
since_base (version ∷ versions) =
    if list_any (λ v. is_base v.op) versions then since_base versions else version ∷ versions

-- the tail of a key: what a read of it at a bound folds
abbrev pub tail : List Batch → Option ℕ → List ℕ → List Version
tail batches bound key = since_base (history batches bound key)

-- a row with the number and the times of a version
abbrev pub row : List ℕ → Version → Option ℤ → List ℕ → KeyValue
row key version expire_ts value =
    record { key = key; value = value; seq = version.number; create_ts = version.create_ts; expire_ts = expire_ts }

-- the row after a merge: the operator's value, or its refusal
abbrev pub merged_row : List ℕ → Version → Option ℤ → Option (List ℕ) → Result (Option KeyValue) ReadFault
merged_row key version expire_ts (Some value) = Ok (Some (row key version expire_ts value))
merged_row key version expire_ts None = Err MergeOperatorError

-- the row after one more operation on it
abbrev pub row_after : Option Merge → List ℕ → Option KeyValue → Version → Op → Result (Option KeyValue) ReadFault
row_after merge key before version (Put value expire_ts) = Ok (Some (row key version expire_ts value))
row_after merge key before version Delete = Ok None
row_after None key before version (MergeOperand operand expire_ts) = Err MergeOperatorMissing
row_after (Some merge) key before version (MergeOperand operand expire_ts) =
    merged_row key version expire_ts (merge key (option_map (λ r. r.value) before) operand)

-- goes on with a row; a fault ends it
abbrev pub and_then : Result (Option KeyValue) ReadFault → (Option KeyValue → Result (Option KeyValue) ReadFault) → Result (Option KeyValue) ReadFault
and_then (Ok before) next = next before
and_then (Err fault) next = Err fault

-- the row after these versions, oldest first
abbrev pub fold_versions : Option Merge → List ℕ → Option KeyValue → List Version → Result (Option KeyValue) ReadFault
fold_versions merge key before [] = Ok before
fold_versions merge key before (version ∷ versions) =
    and_then (row_after merge key before version version.op) (λ after. fold_versions merge key after versions)

-- The plain read: a key's tail, folded from nothing.
abbrev pub read_at : Option Merge → List Batch → Option ℕ → List ℕ → Result (Option KeyValue) ReadFault
read_at merge batches bound key = fold_versions merge key None (tail batches bound key)

-- the operator of a read, seen as a function: none, or a lawful one with its function
abbrev pub IsOperator : {M : Type 0} → (M → List ℕ → Option (List ℕ) → List ℕ → Option (List ℕ) → Type 0) → Option M → Option Merge → Type 0
IsOperator may_answer None None = Unit {0}
IsOperator may_answer (Some operator) (Some merge) = IsLawful may_answer operator merge
IsOperator may_answer None (Some merge) = ⊥
IsOperator may_answer (Some operator) None = ⊥

-- a read answered this, unless memory ran out
abbrev pub Reads : {A : Type 0} → Result A ReadFault → Result A ReadFault → Type 0
Reads answer (Ok found) = answer ≡ Ok found
Reads answer (Err NoMemory) = Unit {0}
Reads answer (Err fault) = answer ≡ Err fault
