-- The forms of the commands that write: one operation on a key, and a batch of operations.
use Rattle.std.specs.Prelude.{ℕ, Bool, true, false, List, [], ◌∷◌, Option, Some, None, codes, fold, if◌then◌else◌}
use Rattle.std.specs.List.{slice_split}
use Rattle.std.specs.Str.{bytes_eq}
use Rattle.slate_types.specs.Written.{with_base, with_merge}
use Rattle.slate_types.specs.declared.batches.KeyOp.{KeyOp}
use Rattle.slate_types.specs.declared.batches.Op.{Op}
use Rattle.slate_types.specs.declared.batches.Op.TheVariants.{Put, Delete, Merge}
use Rattle.slate_text.specs.Numbers.{number_of}
use Rattle.slate_text.specs.Words.{word_of}
use Rattle.slate_script.specs.declared.commands.Action.{Action}
use Rattle.slate_script.specs.declared.commands.Action.TheVariants as actions
use Rattle.slate_script.specs.Values.{◌>>=◌, expiry_of}

-- ---- one operation, behind its name

-- KEY VALUE, KEY VALUE EXPIRE of a put
abbrev pub put_of : List (List ℕ) → Option KeyOp
put_of (k ∷ v ∷ fields) = do
  expire ← expiry_of fields
  key ← word_of k
  value ← word_of v
  Some (record { key = key; op = Put value expire })
put_of fields = None

-- KEY VALUE, KEY VALUE EXPIRE of a merge
abbrev pub merge_of : List (List ℕ) → Option KeyOp
merge_of (k ∷ v ∷ fields) = do
  expire ← expiry_of fields
  key ← word_of k
  operand ← word_of v
  Some (record { key = key; op = Merge operand expire })
merge_of fields = None

-- KEY of a delete
abbrev pub delete_of : List (List ℕ) → Option KeyOp
delete_of (k ∷ []) = do
  key ← word_of k
  Some (record { key = key; op = Delete })
delete_of fields = None

-- the operation that a name and the fields behind it spell
abbrev pub operation_of : List ℕ → List (List ℕ) → Option KeyOp
operation_of name fields =
    if bytes_eq name (codes "put") then put_of fields
    else (if bytes_eq name (codes "merge") then merge_of fields
    else (if bytes_eq name (codes "delete") then delete_of fields
    else None))

-- ---- the operation as a command

-- the command that writes one operation
abbrev pub write_at : ℕ → List ℕ → Op → Action
write_at handle key (Put value expire) = actions.Put handle key value expire
write_at handle key (Merge operand expire) = actions.Merge handle key operand expire
write_at handle key Delete = actions.Delete handle key

abbrev pub write_action : ℕ → KeyOp → Action
write_action handle added = write_at handle added.key added.op

-- put H .., merge H .., delete H ..: the name, a handle, and what follows the name of an operation
abbrev pub single_form : List ℕ → List (List ℕ) → Option Action
single_form name [] = None
single_form name (h ∷ fields) = do
  handle ← number_of h
  added ← operation_of name fields
  Some (write_action handle added)

-- ---- batches

-- a `;` that is a field by itself
abbrev pub is_separator : List ℕ → Bool
is_separator field = bytes_eq field (codes ";")

-- what stands between `;`, or nothing where there is no field
abbrev pub pieces_of : List (List ℕ) → List (List (List ℕ))
pieces_of [] = []
pieces_of (field ∷ fields) = slice_split is_separator (field ∷ fields)

-- the operation that the fields of a piece spell: its name and what follows it
abbrev pub piece_of : List (List ℕ) → Option KeyOp
piece_of [] = None
piece_of (name ∷ fields) = operation_of name fields

-- the operations that pieces spell, all of them
abbrev pub operations_of : List (List (List ℕ)) → Option (List KeyOp)
operations_of [] = Some []
operations_of (piece ∷ pieces) = do
  added ← piece_of piece
  behind ← operations_of pieces
  Some (added ∷ behind)

abbrev pub is_merge : Op → Bool
is_merge (Merge operand expire) = true
is_merge op = false

-- the operations of a batch with one added
abbrev pub with_operation : List KeyOp → KeyOp → List KeyOp
with_operation ops added = if is_merge added.op then with_merge ops added else with_base ops added

-- the operations of the batch to which these were added, one after another
abbrev pub written : List KeyOp → List KeyOp
written added = fold with_operation [] added

-- batch H, and operations with `;` between
abbrev pub batch_form : List (List ℕ) → Option Action
batch_form [] = None
batch_form (h ∷ fields) = do
  handle ← number_of h
  added ← operations_of (pieces_of fields)
  Some (actions.Batch handle (record { ops = written added }))

-- ---- the command of a name and the fields behind it, where that writes
abbrev pub write_of : List ℕ → List (List ℕ) → Option Action
write_of name fields = if bytes_eq name (codes "batch") then batch_form fields else single_form name fields
