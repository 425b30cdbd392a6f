-- A poll that makes its calls of the store one by one: what it keeps between two of them, and what each leads to.
use Rattle.std.specs.Prelude.{ℕ, ℤ, ◌+◌, ◌-◌, ◌==◌, ◌&&◌, ◌||◌, map, max, not, nat_le, nat_lt, Bool, true, false, if◌then◌else◌, List, [], ◌++◌, length, Option, Some, None, unwrap_or, Result, Ok, Err}
use Rattle.slate_types.specs.declared.batches.Batch.{Batch}
use Rattle.slate_store.specs.declared.objects.Checkpoint.{Checkpoint}
use Rattle.slate_store.specs.declared.objects.VersionedManifest.{VersionedManifest}
use Rattle.slate_store.specs.Checkpoints.{Plan, found, to_refresh, to_write}
use Rattle.slate_store.specs.Objects.{greatest}
use Rattle.slate_errors.specs.declared.errors.SlateError.{SlateError}
use Rattle.slate_errors.specs.declared.errors.SlateError.TheVariants as errors
use Rattle.slate_types.specs.Line.{batches_above}
use Rattle.slate_types.specs.Counts.{one_more}
use Rattle.slate_model.specs.declared.leases.Lease.{Lease}
use Rattle.slate_model.specs.declared.polls.FirstRead.{FirstRead}
use Rattle.slate_model.specs.declared.polls.PollHistory.{PollHistory}
use Rattle.slate_model.specs.Follower.{Follower, number}
use Rattle.slate_model.specs.Lease.{differs, is_due, leased}
use Rattle.slate_model.specs.Refusal.{error_of_refusal}

-- which call a begun poll makes next
pub data Stage : Type 0 where
  ReadsLatest : Stage  -- it reads the latest manifest, by which it is decided
  Puts : (next : VersionedManifest) → (given : Lease) → (replaces : Bool) → Stage  -- it puts a manifest, whose checkpoint gives this lease: another one in place of its own, or its own with another end
  AsksLast : Stage  -- it asks for the last log file above its mark
  LooksAt : (id : ℕ) → (last : ℕ) → Stage  -- of a reader that may lag it reads log files from the last one downwards, this one next, up to one with a batch that the reader hasn't
  ReadsLog : (last : ℕ) → Stage  -- it reads the log file after its mark; this is the last one
  ReadsAgain : Stage  -- it reads the latest manifest once more, since no log file is above its mark
  Ended : Stage

-- ---- what is kept of all steps
-- before any step
abbrev pub no_step : PollHistory
no_step = record { steps = 0; first = None; last_log = 0 }

-- one step more was made; the count stands still at 2^64 - 1
abbrev pub with_step : PollHistory → PollHistory
with_step history = record history { steps = one_more history.steps }

-- the latest manifest was read: what the first one says stays
abbrev pub first_of : VersionedManifest → FirstRead
first_of latest = record { replay_after_wal_id = latest.manifest.replay_after_wal_id; last_l0_seq = latest.manifest.last_l0_seq }

abbrev pub with_latest : VersionedManifest → PollHistory → PollHistory
with_latest latest history = record history { first = Some (unwrap_or history.first (first_of latest)) }

-- the last log file was found to be this one
abbrev pub with_log : (last : ℕ) → PollHistory → PollHistory
with_log last history = record history { last_log = max history.last_log last }

-- ---- a begun poll
-- A begun poll: what its reader becomes, as far as it has come. Where it keeps the reader's batches, the fresh ones come after
-- those; else they are all that isn't in the tables of the view.
pub record Begun : Type 0 where
  pub moment : ℤ
  pub overtaken : ℕ  -- how many of its puts found another manifest under their id
  pub history : PollHistory  -- what it keeps of all its steps, also of those before such a put
  pub stage : Stage
  pub view : Option VersionedManifest  -- the manifest that the reader goes by then, where that is another one
  pub latest : Option VersionedManifest  -- the manifest that was read or put last
  pub lease : Option Lease
  pub asked : Bool  -- whether the lease was asked for after a replay
  pub keeps : Bool
  pub floor : ℕ  -- the number before the first fresh batch
  pub fresh : List Batch
  pub mark : ℕ  -- up to this id it has what the log files have

-- a poll that begins at a moment, or anew after so many puts that were overtaken: it has come nowhere yet
abbrev pub begun_at : ℤ → (overtaken : ℕ) → PollHistory → Follower → Begun
begun_at moment overtaken history reader =
    record {
      moment = moment;
      overtaken = overtaken;
      history = history;
      stage = ReadsLatest;
      view = None;
      latest = None;
      lease = reader.lease;
      asked = false;
      keeps = true;
      floor = number reader;
      fresh = [];
      mark = reader.mark;
    }

-- the number of the last batch that it has
abbrev pub reached_number : Begun → ℕ
reached_number begun = begun.floor + length begun.fresh

abbrev pub view_of : Follower → Begun → VersionedManifest
view_of reader begun = unwrap_or begun.view reader.view

-- the batches that the reader has then, of those that its code keeps
abbrev pub kept_batches : Follower → Begun → List Batch
kept_batches reader begun =
    batches_above (view_of reader begun).manifest.last_l0_seq ((if begun.keeps then reader.line.batches else []) ++ begun.fresh)

-- the reader that it makes, but for its segments
abbrev pub arrived : Follower → Begun → Follower
arrived reader begun =
    record reader {
      view = view_of reader begun;
      line = record { floor = (view_of reader begun).manifest.last_l0_seq; batches = kept_batches reader begun };
      segments = [];
      mark = begun.mark;
      lease = begun.lease;
    }

-- What a call leads to: another call, an end with all log files read, an end at a log file that is missing, or an error.
pub data Turn : Type 0 where
  Goes : (begun : Begun) → Turn
  Ends : (begun : Begun) → Turn
  Breaks : (begun : Begun) → Turn
  Fails : (error : SlateError) → Turn

-- it puts what a plan says next, or fails as the plan does
abbrev pub put_by : Plan Lease → (replaces : Bool) → Begun → Turn
put_by (Ok (Some next, given)) replaces begun = Goes (record begun { stage = Puts next given replaces })
put_by (Ok (None, given)) replaces begun = Ends (record begun { stage = Ended })
put_by (Err refusal) replaces begun = Fails (error_of_refusal refusal)

-- a checkpoint that is there has its lease renewed, and one that isn't there is replaced
abbrev pub kept_lease : (moment : ℤ) → Lease → (latest : VersionedManifest) → Option Checkpoint → Begun → Turn
kept_lease moment lease latest (Some checkpoint) begun = put_by (leased lease.lifetime (to_refresh lease.id lease.lifetime moment latest)) false begun
kept_lease moment lease latest None begun = put_by (leased lease.lifetime (to_write (Some lease.id) (Some lease.lifetime) moment latest)) true begun

abbrev pub asked_lease : Option Lease → (latest : VersionedManifest) → Begun → Turn
asked_lease None latest begun = Ends (record begun { stage = Ended })
asked_lease (Some lease) latest begun =
    if not begun.asked && is_due begun.moment lease then kept_lease begun.moment lease latest (found lease.id latest) (record begun { asked = true })
    else Ends (record begun { stage = Ended })

-- The log files are read: a lease that is due is kept, once, after the manifest that was read or put last.
abbrev pub replayed : (latest : VersionedManifest) → Begun → Turn
replayed latest begun = asked_lease begun.lease latest begun

-- the last number in the tables of what it has: of the reader's view, or of the fresh batches alone
abbrev pub base_of : Follower → Begun → ℕ
base_of reader begun = if begun.keeps then reader.view.manifest.last_l0_seq else begun.floor

-- whether its batches lead up to the tables of the manifest that it goes by, so that it can go on from them
abbrev pub leads_on : Follower → Begun → Bool
leads_on reader begun =
    let tabled = (view_of reader begun).manifest.last_l0_seq in
    nat_le (base_of reader begun) tabled && nat_le tabled (reached_number begun)

-- it has the tables of its manifest, and no fresh batch yet
abbrev pub emptied : Follower → (mark : ℕ) → Begun → Begun
emptied reader mark begun = record begun { keeps = false; floor = (view_of reader begun).manifest.last_l0_seq; fresh = []; mark = mark }

-- A manifest was chosen to go by, and this is the latest: what log files have is replayed, from the mark on where its batches lead
-- up to the tables, and else from the latest manifest's replay mark on. A reader that skips them has the tables alone.
abbrev pub replaying : Follower → (latest : VersionedManifest) → Begun → Turn
replaying reader latest begun =
    let mark = latest.manifest.replay_after_wal_id in
    if reader.skips then replayed latest (emptied reader mark begun)
    else (if leads_on reader begun then Goes (record begun { stage = AsksLast; mark = max begun.mark mark })
    else Goes (record (emptied reader mark begun) { stage = AsksLast }))

-- its next call is being made
abbrev pub taken : Begun → Begun
taken begun = record begun { stage = Ended; history = with_step begun.history }

-- the latest manifest was read by which it is decided
abbrev pub noted : (latest : VersionedManifest) → Begun → Begun
noted latest begun = record begun { history = with_latest latest begun.history }

-- The poll is decided by the latest manifest. A reader that keeps a checkpoint goes on by its view while the tables, the last number
-- in them and the segments are the same, and else replaces its checkpoint; another goes by the latest manifest.
abbrev pub decided : Follower → (latest : VersionedManifest) → Option Lease → Begun → Turn
decided reader latest None begun = replaying reader latest (record begun { view = Some latest; latest = Some latest })
decided reader latest (Some lease) begun =
    let read = record begun { latest = Some latest } in
    if differs reader.view latest then put_by (leased lease.lifetime (to_write (Some lease.id) (Some lease.lifetime) begun.moment latest)) true read
    else replaying reader latest read

-- a manifest was put: the reader goes by one with another checkpoint, and has its lease
abbrev pub committed : Follower → (next : VersionedManifest) → (given : Lease) → (replaces : Bool) → Begun → Turn
committed reader next given true begun = replaying reader next (record begun { view = Some next; latest = Some next; lease = Some given })
committed reader next given false begun = Ends (record begun { stage = Ended; latest = Some next; lease = Some given })

-- Another manifest was there already: the poll begins anew, and fails at the eighth time.
abbrev pub overtaken_by : Follower → Begun → Turn
overtaken_by reader begun =
    if begun.overtaken == 7 then Fails (errors.TransactionalObjectTimeout 8) else Goes (begun_at begun.moment (begun.overtaken + 1) begun.history reader)

-- the log files up to the last one are read next, or looked at, where the reader may lag
abbrev pub first_log : Follower → (last : ℕ) → Stage
first_log reader last = if reader.lag == 0 then ReadsLog last else LooksAt last last

-- the last log file was asked for: where there is none above the mark, the latest manifest is read again
abbrev pub asked_last : Follower → (last : ℕ) → Begun → Begun
asked_last reader last begun =
    if nat_lt begun.mark last then record begun { stage = first_log reader last; history = with_log last begun.history }
    else record begun { stage = ReadsAgain }

-- the greatest number of these batches, or 0
abbrev pub greatest_number : List Batch → ℕ
greatest_number batches = greatest 0 (map (λ batch. batch.number) batches)

-- A log file was looked at. Where it has a batch that the poll hasn't, the log files are read if that is further than the reader may be
-- behind; else the one before it is looked at, and where there is none, nothing is new. What was looked at isn't read for that.
abbrev pub looked_at : Follower → (latest : VersionedManifest) → (id last : ℕ) → List Batch → Begun → Turn
looked_at reader latest id last batches begun =
    let newest = greatest_number batches in
    if nat_lt (reached_number begun + reader.lag) newest then Goes (record begun { stage = ReadsLog last })
    else (if nat_lt (reached_number begun) newest || id == begun.mark + 1 then replayed latest begun
    else Goes (record begun { stage = LooksAt (id - 1) last }))

-- The log file after the mark was there, and its batches lead on to these: the next one follows, up to the last.
abbrev pub read_log : (latest : VersionedManifest) → (last : ℕ) → List Batch → Begun → Turn
read_log latest last fresh begun =
    let read = record begun { fresh = fresh; mark = begun.mark + 1 } in
    if read.mark == last then replayed latest read else Goes (record read { stage = ReadsLog last })

-- it wasn't, or has a batch past the next number
abbrev pub cut_short : List Batch → Begun → Turn
cut_short fresh begun = Breaks (record begun { stage = Ended; fresh = fresh })

-- The latest manifest was read again: its replay mark tells whether log files above the mark were removed.
abbrev pub read_again : (latest : VersionedManifest) → Begun → Turn
read_again latest begun =
    if nat_lt begun.mark latest.manifest.replay_after_wal_id then Breaks (record begun { stage = Ended })
    else replayed latest (record begun { latest = Some latest })
