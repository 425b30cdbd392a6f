-- What a follower sees, and what the code keeps of it.
use Rattle.std.specs.Prelude.{◌≡◌, ℕ, ◌∷◌, Bool, true, false, if◌then◌else◌, List, [], Option, None}
use Rattle.slate_types.specs.Line.{Line, batches_above, end}
use Rattle.slate_store.specs.declared.objects.VersionedManifest.{VersionedManifest}
use Rattle.slate_store.specs.declared.reader_modes.DbReaderMode.{DbReaderMode}
use Rattle.slate_store.specs.declared.reader_modes.DbReaderMode.TheVariants.{Checkpoint, ManagedCheckpoint}
use Rattle.slate_errors.specs.declared.endings.TaskName.{TaskName}
use Rattle.slate_errors.specs.declared.endings.TaskName.TheVariants.{ManifestPoller}
use Rattle.slate_model.specs.declared.leases.Lease.{Lease}
use Rattle.slate_model.specs.Handle.{CloseResult, line_above}
use Rattle.slate_model.specs.Segments.{Extractor, segments_of}

-- A reader that follows a database. What it sees begins the line that is stored.
pub record Follower : Type 0 where
  pub mode : DbReaderMode
  pub skips : Bool  -- whether it sees the tables alone, and reads no log file
  pub lag : ℕ  -- by how many numbers its polls may leave it behind what is stored
  pub view : VersionedManifest  -- the manifest that it goes by
  pub line : Line  -- the batches that it sees
  pub segments : List (List ℕ)  -- the prefixes of those of them that aren't in the tables of its view, rising
  pub mark : ℕ  -- up to this id it has what the log files have
  pub lease : Option Lease  -- of the checkpoint that it keeps of its own, where it does
  pub result : CloseResult
  pub tasks : List TaskName  -- those that run for it

-- the number of the last batch that it sees
abbrev pub number : Follower → ℕ
number follower = end follower.line

-- whether a reader in this mode stays at a checkpoint
abbrev pub is_pinned : DbReaderMode → Bool
is_pinned (Checkpoint id) = true
is_pinned mode = false

-- whether it keeps a checkpoint of its own
abbrev pub is_managed : DbReaderMode → Bool
is_managed ManagedCheckpoint = true
is_managed mode = false

-- the tasks that run for an open reader in a mode: one that polls, unless it stays at a checkpoint
abbrev pub follower_tasks : DbReaderMode → List TaskName
follower_tasks mode = if is_pinned mode then [] else ManifestPoller ∷ []

-- The open follower that goes by a manifest, sees this line, has what the log files up to a mark have, has no segment and keeps
-- no checkpoint.
abbrev pub rebuilt : (mode : DbReaderMode) → (skips : Bool) → (lag : ℕ) → VersionedManifest → Line → ℕ → Follower
rebuilt mode skips lag view line mark =
    record {
      mode = mode;
      skips = skips;
      lag = lag;
      view = view;
      line = line;
      segments = [];
      mark = mark;
      lease = None;
      result = None;
      tasks = follower_tasks mode;
    }

-- What the code keeps of a follower: of its line, the batches that aren't in the tables of its view.
abbrev pub kept_follower : Follower → Follower
kept_follower follower = record follower { line = line_above follower.view.manifest.last_l0_seq follower.line }

-- A follower but for its segments.
abbrev pub unsegmented : Follower → Follower
unsegmented follower = record follower { segments = [] }

-- its segments are those that an extractor gives its batches that aren't in the tables of its view
abbrev pub HasSegments : Option Extractor → Follower → Type 0
HasSegments extractor follower = follower.segments ≡ segments_of extractor (batches_above follower.view.manifest.last_l0_seq follower.line.batches)
