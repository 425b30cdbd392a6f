-- What a handle knows, which of its batches aren't stored, and what the code keeps of it.
use Rattle.std.specs.Prelude.{ℕ, ℤ, ◌-◌, int_lt, nat_lt, Bool, if◌then◌else◌, List, [], ◌∷◌, ◌++◌, length, take, Option, Result}
use Rattle.slate_types.specs.declared.batches.Batch.{Batch}
use Rattle.slate_types.specs.Line.{Line, end, batches_above}
use Rattle.slate_store.specs.declared.objects.Manifest.{Manifest}
use Rattle.slate_store.specs.declared.objects.TableId.{TableId}
use Rattle.slate_store.specs.declared.objects.VersionedManifest.{VersionedManifest}
use Rattle.slate_seqtrack.specs.Tracker.{Tracker}
use Rattle.slate_transactions.specs.Writes.{LastWrites}
use Rattle.slate_errors.specs.declared.closing.CloseFault.{CloseFault}
use Rattle.slate_errors.specs.declared.endings.TaskName.{TaskName}

-- the result with which something closed, or None while it is open
abbrev pub CloseResult : Type 0
CloseResult = Option (Result (Unit {0}) CloseFault)

-- a handle that writes
pub record Handle : Type 0 where
  pub keeps_log : Bool
  pub limit : ℕ  -- from how many bytes that aren't stored on a write is refused
  pub line : Line  -- the batches that it sees
  pub segments : List (List ℕ)  -- the prefixes of those that it accepted or replayed since tables had all, rising
  pub durable : ℕ  -- its batches up to this number are stored
  pub epoch : ℕ
  pub counter : ℕ  -- the index of its next table
  pub tick : ℤ  -- the creation time of its last batch, or that of what it was opened with
  pub tracker : Tracker  -- when its batches were written, by their numbers
  pub writes : Option LastWrites  -- the last writes that it tracks for transactions, from the first of them on
  pub view : VersionedManifest  -- the latest manifest, when it was opened or last found its epoch current
  pub result : CloseResult
  pub tasks : List TaskName  -- those that run for it, in the order in which a close ends them

-- the number of the last batch that it accepted
abbrev pub accepted : Handle → ℕ
accepted handle = end handle.line

-- the front of a line, up to a number
abbrev pub up_to : ℕ → Line → Line
up_to number line = record { floor = line.floor; batches = take (number - line.floor) line.batches }

-- the batches that it accepted and that aren't stored yet
abbrev pub unstored : Handle → List Batch
unstored handle = batches_above handle.durable handle.line.batches

-- those of them that a flush puts into the log, where the handle keeps one
abbrev pub to_log : Handle → List Batch
to_log handle = if handle.keeps_log then unstored handle else []

-- the batches that it accepted and that aren't in the tables of a manifest
abbrev pub untabled : Manifest → Handle → List Batch
untabled manifest handle = batches_above manifest.last_l0_seq handle.line.batches

-- whether it accepted batches that aren't in the tables of a manifest
abbrev pub has_untabled : Handle → Manifest → Bool
has_untabled handle manifest = nat_lt manifest.last_l0_seq (accepted handle)

-- the prefixes of its batches that aren't in the tables of its view
abbrev pub untabled_segments : Handle → List (List ℕ)
untabled_segments handle = if has_untabled handle handle.view.manifest then handle.segments else []

-- the prefixes that it knows: those of its view, and those of its batches
abbrev pub known_segments : Handle → List (List ℕ)
known_segments handle = handle.view.manifest.segments ++ untabled_segments handle

-- the later of two moments
abbrev pub later : ℤ → ℤ → ℤ
later tick moment = if int_lt tick moment then moment else tick

-- the latest of a tick and the creation times of batches
abbrev pub latest_tick : ℤ → List Batch → ℤ
latest_tick tick [] = tick
latest_tick tick (batch ∷ batches) = latest_tick (later tick batch.create_ts) batches

-- the id of its next table
abbrev pub next_table : Handle → TableId
next_table handle = record { epoch = handle.epoch; index = handle.counter }

-- a line from a number on: its batches above that one, with the end that it had
abbrev pub line_above : ℕ → Line → Line
line_above number line =
    record { floor = end line - length (batches_above number line.batches); batches = batches_above number line.batches }

-- What the code keeps of a handle: of its line and its segments, those of the batches that aren't in the tables of its view.
abbrev pub kept_handle : Handle → Handle
kept_handle handle =
    record handle { line = line_above handle.view.manifest.last_l0_seq handle.line; segments = untabled_segments handle }
