-- What a call of a feed answers, over any objects and over sound ones.
use Rattle.std.specs.Prelude.{◌≡◌, ◌≢◌, ℕ, ◌+◌, ◌-◌, ◌<◌, ◌≤◌, ◌⊎◌, min, All, Contains, List, [], ◌∷◌, ◌++◌, length, map, take, Option, Some, None, Result, Ok, Err}
use Rattle.slate_types.specs.declared.batches.Batch.{Batch}
use Rattle.slate_types.specs.Line.{AreNumberedFrom, batches_above, end}
use Rattle.slate_store.specs.declared.objects.VersionedManifest.{VersionedManifest}
use Rattle.slate_store.specs.Content.{content, number_before}
use Rattle.slate_store.specs.Logs.{HaveGap, HaveNoGap}
use Rattle.slate_store.specs.Objects.{Objects, last_log, latest_manifest}
use Rattle.slate_feed.specs.declared.refusals.FeedRefusal.{FeedRefusal}
use Rattle.slate_feed.specs.declared.refusals.FeedRefusal.TheVariants.{LatestTransactionalObjectVersionMissing, BeforeFloor, Ahead, ObjectStoreError, NoMemory, Moved}
use Rattle.slate_feed.specs.Pieces.{Piece, joined, pieces, tables_to_read}
use Rattle.slate_feed.specs.Taking.{greatest_number}

-- What a call gives that has read these batches, while the rest of the pieces isn't read. It gives batches of those, numbered one after
-- another from the cursor on: as many as were asked for, or all above the cursor, with nothing left to read. It refuses a cursor
-- below the number before the first of them, or, where all pieces are read and there is no batch, below the last number in tables.
abbrev pub GivesBatches : (tabled cursor limit : ℕ) → (read : List Batch) → (rest : List Piece) → Result (List Batch) FeedRefusal → Type 0
GivesBatches tabled cursor limit read rest (Ok batches) =
    AreNumberedFrom cursor batches × All (Contains read) batches × (0 < limit → number_before read tabled ≤ cursor)
    × ((length batches ≡ limit) ⊎ ((length batches < limit) × (rest ≡ []) × HaveNoGap cursor (cursor + length batches) read))
GivesBatches tabled cursor limit read rest (Err (BeforeFloor at floor)) =
    (at ≡ cursor) × (cursor < floor) × (floor ≡ number_before read tabled) × (read ≡ [] → rest ≡ []) × (0 < limit)
GivesBatches tabled cursor limit read rest (Err Moved) =
    (read ≢ [] → number_before read tabled ≤ cursor)
    × (((others : List Piece) × (rest ≡ None ∷ others)) ⊎ ((last : ℕ) × HaveGap cursor last read))
GivesBatches tabled cursor limit read rest (Err refusal) = ⊥

-- The latest manifest is this one, the first of its pieces were read, and this is given.
pub record ReadsBatches (objects : Objects) (cursor limit : ℕ) (result : Result (List Batch) FeedRefusal) : Type 0 where
  pub latest : VersionedManifest
  pub is_latest : latest_manifest objects ≡ Some latest
  pub parts : List (List Batch)
  pub rest : List Piece
  pub read : pieces cursor latest.manifest objects ≡ map Some parts ++ rest
  pub gives : GivesBatches latest.manifest.last_l0_seq cursor limit (joined parts) rest result

-- What a call answers over objects: that there is no manifest, or what it gives; a failure of the store and want of memory have no
-- cause in them.
abbrev pub Answers : Objects → (cursor limit : ℕ) → Result (List Batch) FeedRefusal → Type 0
Answers objects cursor limit (Err LatestTransactionalObjectVersionMissing) = latest_manifest objects ≡ None
Answers objects cursor limit (Err ObjectStoreError) = Unit {0}
Answers objects cursor limit (Err NoMemory) = Unit {0}
Answers objects cursor limit result = ReadsBatches objects cursor limit result

-- What it answers where what is stored is a line: the batches of the line right above the cursor, up to the limit. It refuses a
-- cursor below the line's floor.
abbrev pub Delivers : Objects → (cursor limit : ℕ) → Result (List Batch) FeedRefusal → Type 0
Delivers objects cursor limit (Ok batches) =
    (latest_manifest objects ≢ None) × (0 < limit → (content objects).floor ≤ cursor)
    × (batches ≡ take limit (batches_above cursor (content objects).batches))
    × (length batches ≡ min limit (end (content objects) - cursor))
Delivers objects cursor limit (Err LatestTransactionalObjectVersionMissing) = latest_manifest objects ≡ None
Delivers objects cursor limit (Err (BeforeFloor at floor)) = (0 < limit) × (at ≡ cursor) × (cursor < floor) × (floor ≡ (content objects).floor)
Delivers objects cursor limit (Err ObjectStoreError) = Unit {0}
Delivers objects cursor limit (Err NoMemory) = Unit {0}
Delivers objects cursor limit (Err refusal) = ⊥

-- All that a call reads is read, and has no batch above the cursor; this is the greatest number, or the last in tables.
pub record HasNoneAbove (objects : Objects) (cursor last : ℕ) : Type 0 where
  pub latest : VersionedManifest
  pub is_latest : latest_manifest objects ≡ Some latest
  pub parts : List (List Batch)
  pub read : pieces cursor latest.manifest objects ≡ map Some parts
  pub none : HaveNoGap cursor cursor (joined parts)
  pub greatest : last ≡ greatest_number latest.manifest.last_l0_seq (joined parts)

-- what an opening answers over any objects: it reads as a call for one batch does, and compares the end where there is none
abbrev pub Opens : Objects → (after : ℕ) → Result ℕ FeedRefusal → Type 0
Opens objects after (Ok cursor) =
    (cursor ≡ after)
    × ((batches : List Batch) × Answers objects after 1 (Ok batches) × (batches ≡ [] → (last : ℕ) × HasNoneAbove objects after last × (after ≤ last)))
Opens objects after (Err (Ahead at last)) = (at ≡ after) × (last < after) × Answers objects after 1 (Ok []) × HasNoneAbove objects after last
Opens objects after (Err refusal) = Answers objects after 1 (Err refusal)

-- and where what is stored is a line: its cursor isn't below the floor, nor above the end
abbrev pub OpensWithin : Objects → (after : ℕ) → Result ℕ FeedRefusal → Type 0
OpensWithin objects after (Ok cursor) =
    (cursor ≡ after) × (latest_manifest objects ≢ None) × ((content objects).floor ≤ after) × (after ≤ end (content objects))
OpensWithin objects after (Err (Ahead at last)) = (at ≡ after) × (last ≡ end (content objects)) × (end (content objects) < after)
OpensWithin objects after (Err refusal) = Delivers objects after 1 (Err refusal)

-- how many calls of the store a call makes at most
abbrev pub most_calls : (cursor : ℕ) → Option VersionedManifest → Objects → ℕ
most_calls cursor None objects = 1
most_calls cursor (Some latest) objects =
    2 + length (tables_to_read cursor latest.manifest)
    + (last_log latest.manifest.replay_after_wal_id objects - latest.manifest.replay_after_wal_id)
