-- The versions that a scan gathers and sorts, and the rows that they make.
use Rattle.std.specs.Prelude.{◌≡◌, ℕ, true, false, List, [], ◌∷◌, ◌++◌, map, filter, Option, Some, None, Result, Ok, Err}
use Rattle.std.specs.List.{AllByRecursion, dedup}
use Rattle.std.specs.Str.{bytes_eq}
use Rattle.slate_types.specs.declared.batches.KeyValue.{KeyValue}
use Rattle.slate_types.specs.declared.scan_options.IterationOrder.{IterationOrder}
use Rattle.slate_types.specs.declared.ranges.ByteRange.{ByteRange}
use Rattle.slate_types.specs.declared.read_faults.ReadFault.{ReadFault}
use Rattle.slate_types.specs.declared.read_faults.ReadFault.TheVariants.{NoMemory}
use Rattle.slate_reads.specs.declared.reads.Version.{Version as Held}
use Rattle.slate_types.specs.Operator.{Merge}
use Rattle.slate_types.specs.Order.{is_before}
use Rattle.slate_types.specs.Range.{contains}
use Rattle.slate_reads.specs.Read.{Version, since_base, fold_versions}
use Rattle.slate_rows.specs.Scan.{Rows, rows_of}
use Rattle.slate_reads.specs.Tails.{seen}

-- the keys of the versions that the code holds
abbrev pub held_keys : List Held → List (List ℕ)
held_keys held = map (λ h. h.key_op.now.key) held

-- the versions of one key among them
abbrev pub of_key : List ℕ → List Held → List Held
of_key key held = filter (λ h. bytes_eq h.key_op.now.key key) held

-- The versions held are those of the keys in a range, of which each has these.
pub record AreGathered (versions : List ℕ → List Version) (range : ByteRange) (held : List Held) : Type 0 where
  pub within : AllByRecursion (λ h. contains range h.key_op.now.key ≡ true) held
  pub whole : (key : List ℕ) → contains range key ≡ true → map seen (of_key key held) ≡ versions key

-- no key comes before an earlier one
abbrev pub AreSorted : IterationOrder → List Held → Type 0
AreSorted order [] = Unit {0}
AreSorted order (h ∷ held) = AllByRecursion (λ later. is_before order later.key_op.now.key h.key_op.now.key ≡ false) held × AreSorted order held

-- a key's versions, folded from nothing
abbrev pub read_held : Option Merge → List Held → List ℕ → Result (Option KeyValue) ReadFault
read_held merge held key = fold_versions merge key None (since_base (map seen (of_key key held)))

-- the rows of the keys, each once
abbrev pub held_rows : Option Merge → List Held → Rows
held_rows merge held = rows_of (read_held merge held) (dedup bytes_eq (held_keys held))

-- what is added to rows that were taken: a row that was found, or nothing and the fault; want of memory adds nothing
abbrev pub AddsRow : Result (Option KeyValue) ReadFault → List KeyValue → List KeyValue → Option ReadFault → Type 0
AddsRow (Ok None) old new fault = (new ≡ old) × (fault ≡ None)
AddsRow (Ok (Some row)) old new fault = (new ≡ old ++ row ∷ []) × (fault ≡ None)
AddsRow (Err NoMemory) old new fault = ⊥
AddsRow (Err refused) old new fault = (new ≡ old) × (fault ≡ Some refused)
