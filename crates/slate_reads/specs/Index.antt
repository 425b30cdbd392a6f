-- The indexes of a table, and how they lead from a key to its versions.
use Rattle.std.specs.Prelude.{◌≡◌, ◌⊎◌, ℕ, ◌+◌, ◌^◌, ◌<◌, ◌≤◌, Bool, true, false, nat_le, List, [], ◌∷◌, ◌++◌, map, replicate, reverse, length, Option, Some, None, IfSome, IsSome}
use Rattle.std.specs.List.{AllByRecursion, flat_map}
use Rattle.std.specs.Option.{unwrap_or}
use Rattle.std.specs.Str.{bytes_eq}
use Rattle.std.specs.HashMap.{HashMap, get}
use Rattle.std.specs.BTreeSet.{BTreeSet, contains}
use Rattle.slate_types.specs.declared.batches.Batch.{Batch}
use Rattle.slate_types.specs.declared.batches.KeyOp.{KeyOp}
use Rattle.slate_types.specs.Range.{key_cmp}
use Rattle.slate_reads.specs.declared.tables.Entry.{Entry}
use Rattle.slate_reads.specs.Read.{Version, versions_in}
use Rattle.slate_reads.specs.Run.{Run, IsAt, Stands}
use Rattle.slate_reads.specs.Size.{size_of}

-- each batch has a number above those before it
abbrev pub AreRising : List Batch → Type 0
AreRising [] = Unit {0}
AreRising (batch ∷ batches) = AllByRecursion (λ later. batch.number < later.number) batches × AreRising batches

-- a number is above that of the last batch, where there is one
abbrev pub IsAboveLast : ℕ → List Batch → Type 0
IsAboveLast number [] = Unit {0}
IsAboveLast number (batch ∷ []) = batch.number < number
IsAboveLast number (batch ∷ next ∷ batches) = IsAboveLast number (next ∷ batches)

-- an entry that leads to an operation on a key
pub record Step (batches : Run Batch) (entries : Run Entry) (key : List ℕ) (next : Option ℕ) : Type 0 where
  pub place : ℕ
  pub entry : Entry
  pub batch : Batch
  pub key_op : KeyOp
  pub next_is : next ≡ Some place
  pub entry_at : Stands entries place entry
  pub batch_at : Stands batches entry.batch batch
  pub op_at : IsAt batch.ops entry.op key_op
  pub key_is : key_op.key ≡ key
  pub back : IfSome entry.previous (λ previous. previous < place)

-- From an entry these versions of a key are reached, newest first. There it ends, or goes on to what was dropped.
abbrev pub Leads : Run Batch → Run Entry → List ℕ → Option ℕ → List Version → Type 0
Leads batches entries key next [] = IfSome next (λ place. place < entries.start)
Leads batches entries key next (version ∷ older) =
    (step : Step batches entries key next)
    × (version ≡ record { op = step.key_op.op; number = step.batch.number; create_ts = step.batch.create_ts })
    × Leads batches entries key step.entry.previous older

-- Each key leads to its versions, which are given oldest first.
abbrev pub AreLed : Run Batch → Run Entry → (List ℕ → Option ℕ) → (List ℕ → List Version) → Type 0
AreLed batches entries latest versions = (key : List ℕ) → Leads batches entries key (latest key) (reverse (versions key))

-- for each operation of batches, the place of its batch, from the place of the first one on
abbrev pub batch_places : ℕ → List Batch → List ℕ
batch_places start [] = []
batch_places start (batch ∷ batches) = replicate (length batch.ops) start ++ batch_places (start + 1) batches

-- the place of a key's last entry, as a map has it; a key may be in the map without one
abbrev pub place_of : {S : Type 0} → HashMap (List ℕ) (Option ℕ) S → List ℕ → Option ℕ
place_of latest key = unwrap_or (get bytes_eq latest key) None

-- each key of the map is in the set
abbrev pub AreOrdered : {S : Type 0} → HashMap (List ℕ) (Option ℕ) S → BTreeSet (List ℕ) → Type 0
AreOrdered latest order = (key : List ℕ) → IsSome (get bytes_eq latest key) → contains key_cmp order key ≡ true

-- the operations of batches
abbrev pub ops_of : List Batch → List KeyOp
ops_of batches = flat_map (λ batch. batch.ops) batches

-- an entry of an operation: it stands in its batch, at its index
pub record IsOfOp (batches : Run Batch) (entry : Entry) (key_op : KeyOp) : Type 0 where
  pub batch : Batch
  pub batch_at : Stands batches entry.batch batch
  pub op_at : IsAt batch.ops entry.op key_op

-- a place that may be absent: it is there, and at another one or after it
abbrev pub IsFrom : ℕ → Option ℕ → Type 0
IsFrom place None = ⊥
IsFrom place (Some next) = place ≤ next

-- Each entry is of the operation with its index. None of a key is after the last one of that key, and none of those before
-- an entry of its key is after the one that it leads to.
pub record IsTraced (batches : Run Batch) (entries : Run Entry) (ops : List KeyOp) (latest : List ℕ → Option ℕ) : Type 0 where
  pub each : length entries.items ≡ length ops
  pub of_op : (index : ℕ) (entry : Entry) (key_op : KeyOp) → IsAt entries.items index entry → IsAt ops index key_op → IsOfOp batches entry key_op
  pub newest : (index : ℕ) (key_op : KeyOp) → IsAt ops index key_op → IsFrom (entries.start + index) (latest key_op.key)
  pub nearest : (index later : ℕ) (key_op next : KeyOp) (entry : Entry) → index < later → IsAt ops index key_op → IsAt ops later next → IsAt entries.items later entry →
      key_op.key ≡ next.key → IsFrom (entries.start + index) entry.previous

-- Each key leads to its versions in the batches, and there is an entry for each operation, in order.
pub record IsIndex (batches : Run Batch) (entries : Run Entry) (latest : List ℕ → Option ℕ) : Type 0 where
  pub led : AreLed batches entries latest (λ key. flat_map (versions_in key) batches.items)
  pub placed : map (λ e. e.batch) entries.items ≡ batch_places batches.start batches.items
  pub traced : IsTraced batches entries (ops_of batches.items) latest

-- what a table keeps
pub record IsTable {S : Type 0} (batches : Run Batch) (entries : Run Entry) (latest : HashMap (List ℕ) (Option ℕ) S) (order : BTreeSet (List ℕ)) (size : ℕ) : Type 0 where
  pub index : IsIndex batches entries (place_of latest)
  pub ordered : AreOrdered latest order
  pub rising : AreRising batches.items
  pub sized : size ≡ size_of batches.items
  pub batches_fit : batches.start + length batches.items < 2 ^ 64
  pub entries_fit : entries.start + length entries.items < 2 ^ 64

-- a key's place after this one was forgotten
abbrev pub Loses : ℕ → Option ℕ → Option ℕ → Type 0
Loses place old new = (new ≡ old) ⊎ ((new ≡ None) × (old ≡ Some place))

-- a key's place after some below another place were forgotten
abbrev pub Forgets : ℕ → Option ℕ → Option ℕ → Type 0
Forgets end None new = new ≡ None
Forgets end (Some place) None = place < end
Forgets end (Some place) (Some new) = new ≡ place

-- whether there is a first batch, and it is at or below a number
abbrev pub begins_through : ℕ → List Batch → Bool
begins_through number [] = false
begins_through number (batch ∷ batches) = nat_le batch.number number
