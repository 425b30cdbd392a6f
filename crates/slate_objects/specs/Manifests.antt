-- Manifests as bytes: how they are read, their one spelling, and which have one.
use Rattle.std.specs.Prelude.{ℕ, ℤ, zero, suc, ◌≡◌, ◌<◌, ◌^◌, Bool, true, false, List, [], ◌∷◌, length, take, drop, Option, None, Result, Ok, Err, nat_lt, if◌then◌else◌}
use Rattle.std.specs.Str.{IsUtf8, is_utf8}
use Rattle.slate_store.specs.declared.objects.Checkpoint.{Checkpoint}
use Rattle.slate_store.specs.declared.objects.Manifest.{Manifest}
use Rattle.slate_store.specs.declared.objects.TableId.{TableId}
use Rattle.slate_objects.specs.declared.faults.DecodeFault.{DecodeFault}
use Rattle.slate_objects.specs.declared.faults.DecodeFault.TheVariants.{TooShort, NotText, UnknownTag}
use Rattle.slate_objects.specs.Reading.{◌>>=◌, both_at, bytes_at, list_at, made_at, number_at, option_at, tag_at, time_at}
use Rattle.slate_objects.specs.Spelling.{BothFit, ByteFits, BytesFit, ListFits, NumberFits, OptionFits, TimeFits, both_of, byte_of, bytes_of, list_of, number, option_of, time}

-- a flag: 0 or 1
abbrev pub flag_by : ℕ → List ℕ → Result (Bool × List ℕ) DecodeFault
flag_by zero bytes = Ok (false, bytes)
flag_by (suc zero) bytes = Ok (true, bytes)
flag_by (suc (suc n)) bytes = Err (UnknownTag (suc (suc n)))

unfoldable pub flag_at : List ℕ → Result (Bool × List ℕ) DecodeFault
flag_at bytes = do
  tag ← tag_at bytes
  flag_by tag.0 tag.1

-- sixteen bytes
unfoldable pub uuid_at : List ℕ → Result (List ℕ × List ℕ) DecodeFault
uuid_at bytes = if nat_lt (length bytes) 16 then Err TooShort else Ok (take 16 bytes, drop 16 bytes)

-- a name is text
unfoldable pub name_in : List ℕ → Result (List ℕ) DecodeFault
name_in bytes = if is_utf8 bytes then Ok bytes else Err NotText

unfoldable pub name_at : List ℕ → Result (List ℕ × List ℕ) DecodeFault
name_at bytes = do
  found ← bytes_at bytes
  name ← name_in found.0
  Ok (name, found.1)

abbrev pub flag_of : Bool → List ℕ
flag_of false = 0 ∷ []
flag_of true = 1 ∷ []

abbrev pub FlagFits : Bool → Type 0
FlagFits flag = Unit {0}

abbrev pub uuid_of : List ℕ → List ℕ
uuid_of id = id

abbrev pub UuidFits : List ℕ → Type 0
UuidFits id = length id ≡ 16

abbrev pub NameFits : List ℕ → Type 0
NameFits name = (length name < 2 ^ 64) × IsUtf8 name

-- the id of a table: an epoch, and a count
abbrev pub table_id_parts : TableId → ℕ × ℕ
table_id_parts id = (id.epoch, id.index)

unfoldable pub table_id_at : List ℕ → Result (TableId × List ℕ) DecodeFault
table_id_at = made_at (λ (p : ℕ × ℕ). record { epoch = p.0; index = p.1 }) (both_at number_at number_at)

abbrev pub table_id_of : TableId → List ℕ
table_id_of id = both_of number number (table_id_parts id)

abbrev pub TableIdFits : TableId → Type 0
TableIdFits id = BothFit NumberFits NumberFits (table_id_parts id)

-- a checkpoint: its id, its manifest, when it was made, and when its lease ends
abbrev pub CheckpointParts : Type 0
CheckpointParts = List ℕ × (ℕ × (ℤ × Option ℤ))

abbrev pub checkpoint_parts : Checkpoint → CheckpointParts
checkpoint_parts c = (c.id, (c.manifest_id, (c.create_ms, c.expire_ms)))

abbrev pub checkpoint_made : CheckpointParts → Checkpoint
checkpoint_made p = record { id = p.0; manifest_id = p.1.0; create_ms = p.1.1.0; expire_ms = p.1.1.1 }

unfoldable pub checkpoint_at : List ℕ → Result (Checkpoint × List ℕ) DecodeFault
checkpoint_at = made_at checkpoint_made (both_at uuid_at (both_at number_at (both_at time_at (option_at time_at))))

abbrev pub checkpoint_of : Checkpoint → List ℕ
checkpoint_of c = both_of uuid_of (both_of number (both_of time (option_of time))) (checkpoint_parts c)

abbrev pub CheckpointFits : Checkpoint → Type 0
CheckpointFits c = BothFit UuidFits (BothFit NumberFits (BothFit TimeFits (OptionFits TimeFits))) (checkpoint_parts c)

-- a manifest: its fields, in their order, but for its tracker
abbrev pub FieldParts : Type 0
FieldParts =
    ℕ × (Bool × (List TableId × (ℕ × (ℤ × (ℕ × (ℕ × (List Checkpoint × (List (List ℕ) × Option (List ℕ)))))))))

abbrev pub field_parts : Manifest → FieldParts
field_parts m = (
  m.writer_epoch,
  (
    m.initialized,
    (
      m.tables,
      (
        m.last_l0_seq,
        (
          m.last_tick,
          (
            m.replay_after_wal_id,
            (
              m.next_wal_id,
              (m.checkpoints, (m.segments, m.extractor_name)),
            ),
          ),
        ),
      ),
    ),
  ),
)

abbrev pub fields_at : List ℕ → Result (FieldParts × List ℕ) DecodeFault
fields_at =
    both_at number_at (both_at flag_at (both_at (list_at table_id_at) (both_at number_at (both_at time_at
    (both_at number_at (both_at number_at (both_at (list_at checkpoint_at) (both_at (list_at bytes_at)
    (option_at name_at)))))))))

abbrev pub fields_of : FieldParts → List ℕ
fields_of =
    both_of number (both_of flag_of (both_of (list_of table_id_of) (both_of number (both_of time (both_of number
    (both_of number (both_of (list_of checkpoint_of) (both_of (list_of bytes_of) (option_of bytes_of)))))))))

abbrev pub FieldsFit : FieldParts → Type 0
FieldsFit =
    BothFit NumberFits (BothFit FlagFits (BothFit (ListFits TableIdFits) (BothFit NumberFits (BothFit TimeFits
    (BothFit NumberFits (BothFit NumberFits (BothFit (ListFits CheckpointFits) (BothFit (ListFits BytesFit)
    (OptionFits NameFits)))))))))

-- the manifest with these fields and this tracker
abbrev pub tracked : FieldParts × Option (List ℕ) → Manifest
tracked p =
    let q = p.0.1.1.1.1.1 in
    record {
      writer_epoch = p.0.0;
      initialized = p.0.1.0;
      tables = p.0.1.1.0;
      last_l0_seq = p.0.1.1.1.0;
      last_tick = p.0.1.1.1.1.0;
      replay_after_wal_id = q.0;
      next_wal_id = q.1.0;
      checkpoints = q.1.1.0;
      segments = q.1.1.1.0;
      extractor_name = q.1.1.1.1;
      sequence_tracker = p.1;
    }

-- a manifest of the earlier version, which has no tracker
abbrev pub untracked : FieldParts → Manifest
untracked p = tracked (p, None)

unfoldable pub untracked_at : List ℕ → Result (Manifest × List ℕ) DecodeFault
untracked_at = made_at untracked fields_at

abbrev pub untracked_of : Manifest → List ℕ
untracked_of m = fields_of (field_parts m)

-- and one of today's: the fields, and the bytes of the tracker, where it has one
abbrev pub manifest_parts : Manifest → FieldParts × Option (List ℕ)
manifest_parts m = (field_parts m, m.sequence_tracker)

unfoldable pub manifest_at : List ℕ → Result (Manifest × List ℕ) DecodeFault
manifest_at bytes = do
  manifest ← untracked_at bytes
  tracker ← option_at (list_at tag_at) manifest.1
  Ok (record manifest.0 { sequence_tracker = tracker.0 }, tracker.1)

abbrev pub manifest_of : Manifest → List ℕ
manifest_of m = both_of fields_of (option_of (list_of byte_of)) (manifest_parts m)

abbrev pub ManifestFits : Manifest → Type 0
ManifestFits m = BothFit FieldsFit (OptionFits (ListFits ByteFits)) (manifest_parts m)
