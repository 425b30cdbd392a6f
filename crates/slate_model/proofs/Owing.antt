-- What a follower is owed, over sound objects: a line that begins what is stored, which the tables of its manifest and the log
-- files that it reads make.
use Rattle.std.proofs.Common.{◌≡◌, ℕ, ◌+◌, ◌-◌, ◌≤◌, List, [], ◌∷◌, ◌++◌, length, map, max, take, Bool, true, false, cond, Option, Some, None, is_some, refl, sym, subst, ap, ◌∙◌, append_assoc, arith, length-append}
use Rattle.std.proofs.Math.Seq.{take-append_seam}
use Rattle.std.proofs.lemmas.List.Elements.{All-head, All-nil, All-tail, filter-append}
use Rattle.std.proofs.lemmas.List.{append-nil}
use Rattle.std.specs.List.{All, find, range_with_len}
use Rattle.std.specs.Prelude.{nat_lt}
use Rattle.std.specs.Option.{option_map}
use Rattle.slate_types.proofs.Lines.{above-all, above-none}
use Rattle.slate_types.specs.Line.{AreNumberedFrom, IsLine, IsPrefix, Line, batches_above, end, extended}
use Rattle.slate_types.specs.declared.batches.Batch.{Batch}
use Rattle.slate_store.proofs.Latest.{its-objects}
use Rattle.slate_store.proofs.Logs.{between-none, no_gap-numbered, numbered-stand, whole-start}
use Rattle.slate_store.specs.Checkpoints.{found, has_id}
use Rattle.slate_store.specs.Content.{HasItsLogs, HasItsTables, IsPinned, IsSound, content, content_by, logged, number_before, pinned_content, table_batches}
use Rattle.slate_store.specs.Logs.{AreWhole, BelongTo, HaveNoGap, StandsIn, batches_between}
use Rattle.slate_store.specs.Objects.{Objects, ObjectsOf, entry_at, greatest, last_log, latest_manifest, versioned}
use Rattle.slate_store.specs.declared.objects.Checkpoint.{Checkpoint}
use Rattle.slate_store.specs.declared.objects.Manifest.{Manifest}
use Rattle.slate_store.specs.declared.objects.VersionedManifest.{VersionedManifest}
use Rattle.slate_store.specs.declared.reader_modes.DbReaderMode.{DbReaderMode}
use Rattle.slate_store.specs.declared.reader_modes.DbReaderMode.TheVariants as modes
use Rattle.slate_model.proofs.Catalogued.{greatest-known}
use Rattle.slate_model.proofs.Free.{numbered-front}
use Rattle.slate_model.proofs.Logging.{all-seen, none-seen}
use Rattle.slate_model.proofs.Prefixes.{prefix-same, up_to-end}
use Rattle.slate_model.proofs.Reopened.{line_from, logs-by, numbered_rest}
use Rattle.slate_model.specs.Catalogue.{Catalogue, catalogue_of, named_number}
use Rattle.slate_model.specs.Follow.{IsOwed}
use Rattle.slate_model.specs.Followed.{IsView, kept_by, last_read, view_under}
use Rattle.slate_model.specs.Follower.{is_pinned, rebuilt}
use Rattle.slate_model.specs.Seen.{HasSeen}
use Rattle.slate_model.specs.Handle.{line_above, up_to}
use Rattle.slate_model.specs.Stores.{Unpinned, by_catalogue, by_objects}
use Rattle.slate_model.specs.Tables.{AreStored}
use Rattle.slate_model.specs.Valid.{ReadsLine}

-- ---- a line that the tables of a manifest begin
pub record TablesBegin (o : Objects) (m : Manifest) (line : Line) : Type 0 where
  pub tables : HasItsTables o m
  pub rest : List Batch
  pub is : line ≡ record { floor = number_before (table_batches o m.tables) m.last_l0_seq; batches = table_batches o m.tables ++ rest }

module _ (o : Objects) (m : Manifest) (line : Line) (b : TablesBegin o m line) (numbered : IsLine line) where
  abbrev joined : List Batch
  joined = table_batches o m.tables

  pub batches-are : line.batches ≡ joined ++ b.rest
  batches-are = ap (λ (l : Line). l.batches) b.is

  pub ends : line.floor + length joined ≡ m.last_l0_seq
  ends = ap (λ (l : Line). l.floor + length joined) b.is ∙ b.tables.joined

  pub all-numbered : AreNumberedFrom line.floor (joined ++ b.rest)
  all-numbered = subst (AreNumberedFrom line.floor) batches-are numbered

  joined-none : batches_above m.last_l0_seq joined ≡ []
  joined-none = let e = ends in above-none line.floor m.last_l0_seq joined (numbered-front line.floor joined b.rest all-numbered) (omega (arith, e))

  pub rest-numbered : AreNumberedFrom m.last_l0_seq b.rest
  rest-numbered = subst (λ n. AreNumberedFrom n b.rest) ends (numbered_rest line.floor joined b.rest all-numbered)

  -- above the last number in tables it has the rest
  pub above-is : batches_above m.last_l0_seq line.batches ≡ b.rest
  above-is =
      ap (batches_above m.last_l0_seq) batches-are
      ∙ (filter-append (λ (x : Batch). nat_lt m.last_l0_seq x.number) joined b.rest
      ∙ (ap (λ xs. xs ++ batches_above m.last_l0_seq b.rest) joined-none ∙ above-all m.last_l0_seq m.last_l0_seq b.rest rest-numbered (omega arith)))

  pub kept-is : line_above m.last_l0_seq line ≡ line_from m.last_l0_seq b.rest
  kept-is =
      let above = batches_above m.last_l0_seq line.batches in
      let e = ends in
      let l = length-append joined b.rest in
      let c : length line.batches ≡ length (joined ++ b.rest) = ap length batches-are in
      let a : length above ≡ length b.rest = ap length above-is in
      let floor : line.floor + length line.batches - length above ≡ m.last_l0_seq = omega (arith, e, l, c, a) in
      ap (λ n. record { floor = n; batches = above }) floor ∙ ap (line_from m.last_l0_seq) above-is

  pub reads-line : (id : ℕ) → ReadsLine o (record { id = id; manifest = m }) line
  reads-line id there = ap (λ xs. joined ++ xs) above-is ∙ sym batches-are

  pub tabled : m.last_l0_seq ≤ end line
  tabled =
      let e = ends in
      let l = length-append joined b.rest in
      let c : length line.batches ≡ length (joined ++ b.rest) = ap length batches-are in
      omega (arith, e, l, c)

  pub are-stored : AreStored o m.tables
  are-stored k d less none = let some = (b.tables.stored k d less).2 in absurd (cc (some, none))

  -- its front up to the last number in tables is what is in them
  pub front-is : (up_to m.last_l0_seq line).batches ≡ joined
  front-is =
      let e = ends in
      let count : m.last_l0_seq - line.floor ≡ length joined = omega (arith, e) in
      ap (λ n. take n line.batches) count ∙ (ap (take (length joined)) batches-are ∙ take-append_seam joined b.rest)

  pub front-begins : IsPrefix (up_to m.last_l0_seq line) line
  front-begins = (b.rest, ap (λ xs. record { floor = line.floor; batches = xs }) (batches-are ∙ ap (λ xs. xs ++ b.rest) (sym front-is)))

  abbrev pub front-tables : TablesBegin o m (up_to m.last_l0_seq line)
  front-tables = record {
    tables = b.tables;
    rest = [];
    is = ap (λ n. record { floor = n; batches = (up_to m.last_l0_seq line).batches }) (ap (λ (l : Line). l.floor) b.is)
        ∙ ap (λ xs. record { floor = number_before joined m.last_l0_seq; batches = xs }) (front-is ∙ sym (append-nil joined));
  }

  pub front-numbered : IsLine (up_to m.last_l0_seq line)
  front-numbered = subst (AreNumberedFrom line.floor) (sym front-is) (numbered-front line.floor joined b.rest all-numbered)

-- ---- what a reader that goes by a manifest has of objects
-- What it is owed of the line that is stored: that begins the line, has the manifest's tables, and has above them what the
-- log files have that it reads.
pub record Owed (o : Objects) (stored : Line) (mode : DbReaderMode) (skips : Bool) (view : VersionedManifest) : Type 0 where
  pub owed : Line
  pub is_owed : IsOwed (by_objects (Some o)) mode skips o view stored owed
  pub begins : IsPrefix owed stored
  pub numbered : IsLine owed
  pub tables : TablesBegin o view.manifest owed
  pub whole : AreWhole view.manifest.replay_after_wal_id (last_read mode skips view o) view.manifest.last_l0_seq (view.manifest.last_l0_seq + length tables.rest) o
  pub belong : BelongTo view.manifest.replay_after_wal_id (last_read mode skips view o) view.manifest.last_l0_seq (line_from view.manifest.last_l0_seq tables.rest) o

-- a checkpoint that is found is among those that are there
found-all : (P : Checkpoint → Type 0) (id : List ℕ) (cs : List Checkpoint) (c : Checkpoint) → All P cs → find (has_id id) cs ≡ Some c → P c
found-all P id [] c all is = absurd (cc)
found-all P id (x ∷ cs) c all is = by (has_id id x) is (found-all P id cs c (All-tail P x cs all)) where
  by : (b : Bool) → cond b (Some x) (find (has_id id) cs) ≡ Some c → (find (has_id id) cs ≡ Some c → P c) → P c
  by true is later = let same : x ≡ c = cc in subst P same (All-head P x cs all)
  by false is later = later is

-- the manifest that a checkpoint keeps
kept-at : (o : Objects) (c : Checkpoint) (view : VersionedManifest) → kept_by o (Some c) ≡ Some view → entry_at c.manifest_id o.manifests ≡ Some view.manifest
kept-at o c view is = by (entry_at c.manifest_id o.manifests) refl is where
  by : (found : Option Manifest) → entry_at c.manifest_id o.manifests ≡ found → option_map (λ m. versioned (c.manifest_id, m)) found ≡ Some view → entry_at c.manifest_id o.manifests ≡ Some view.manifest
  by None at is = absurd (cc)
  by (Some m) at is = let same : versioned (c.manifest_id, m) ≡ view = cc in at ∙ ap (λ (v : VersionedManifest). Some v.manifest) same

-- what a manifest that a checkpoint keeps named begins the content, and is there
pub record Keeps (o : Objects) (m : Manifest) : Type 0 where
  pub tables : HasItsTables o m
  pub logs : HasItsLogs o m
  pub begins : IsPrefix (pinned_content o m) (content o)

pub pinned-keeps : (o : Objects) (latest view : VersionedManifest) (id : List ℕ) → IsSound o → latest_manifest o ≡ Some latest → view_under (modes.Checkpoint id) o latest ≡ Some view → Keeps o view.manifest
pinned-keeps o latest view id sound is at = by (found id latest) refl at where
  by : (c : Option Checkpoint) → found id latest ≡ c → kept_by o c ≡ Some view → Keeps o view.manifest
  by None none at = absurd (cc)
  by (Some c) there at =
      let pin = found-all (IsPinned o latest) id latest.manifest.checkpoints c (its-objects o latest sound is).pinned there in
      let kept = kept-at o c view at in
      let same : pin.manifest ≡ view.manifest = (let k = pin.kept in cc) in
      let line : content_by o (Some latest) ≡ content o = ap (content_by o) (sym is) in
      subst (Keeps o) same (record { tables = pin.tables; logs = pin.logs; begins = subst (IsPrefix (pinned_content o pin.manifest)) line pin.begins })

-- where a checkpoint of sound objects is found, the manifest that it keeps is stored
pub not-unpinned : (o : Objects) (mode : DbReaderMode) → IsSound o → Unpinned mode o → ⊥
not-unpinned o (modes.Checkpoint id) sound u = by (found id (u.0)) refl u.2 u.3 where
  by : (c : Option Checkpoint) → found id (u.0) ≡ c → kept_by o c ≡ None → is_some c ≡ true → ⊥
  by None none gone there = cc
  by (Some c) is gone there =
      let pin = found-all (IsPinned o u.0) id (u.0).manifest.checkpoints c (its-objects o u.0 sound u.1).pinned is in
      let e : kept_by o (Some c) ≡ Some (versioned (c.manifest_id, pin.manifest)) = ap (option_map (λ m. versioned (c.manifest_id, m))) pin.kept in
      cc (e, gone)
not-unpinned o modes.FollowLatest sound u = let none = u.2 in cc
not-unpinned o modes.ManagedCheckpoint sound u = let none = u.2 in cc

-- the greatest of a number and others
greatest-or : (n : ℕ) (xs : List ℕ) → greatest n xs ≡ max n (greatest 0 xs)
greatest-or n [] = omega arith
greatest-or n (x ∷ xs) = let rest = greatest-or n xs in omega (arith, rest)

-- batches without a gap lead to the greatest number
no_gap-greatest : (n e : ℕ) (bs : List Batch) → HaveNoGap n e bs → greatest n (map (λ b. b.number) bs) ≡ e
no_gap-greatest n e [] h = sym h
no_gap-greatest n e (b ∷ bs) h =
    let rest = no_gap-greatest (max n b.number) e bs h.1 in
    let first = greatest-or n (map (λ b. b.number) bs) in
    let later = greatest-or (max n b.number) (map (λ b. b.number) bs) in
    omega (arith, rest, first, later)

-- what such a manifest named
module _ (o : Objects) (m : Manifest) (keeps : Keeps o m) (sound : IsSound o) where
  abbrev read : List Batch
  read = batches_between m.replay_after_wal_id (m.next_wal_id - 1) o

  pub pinned-numbered : IsLine (pinned_content o m)
  pinned-numbered =
      let p = keeps.begins in
      let line = pinned_content o m in
      numbered-front line.floor line.batches p.0 (subst (λ (l : Line). AreNumberedFrom l.floor l.batches) p.1 sound.line)

  abbrev pub pinned-tables : TablesBegin o m (pinned_content o m)
  pinned-tables = record { tables = keeps.tables; rest = batches_above m.last_l0_seq read; is = refl }

  rest-is : AreNumberedFrom m.last_l0_seq (batches_above m.last_l0_seq read)
  rest-is = rest-numbered o m (pinned_content o m) pinned-tables pinned-numbered

  pub pinned-whole : AreWhole m.replay_after_wal_id (m.next_wal_id - 1) m.last_l0_seq (m.last_l0_seq + length (batches_above m.last_l0_seq read)) o
  pinned-whole = record {
    stored = λ id over within none. let next = keeps.logs.next in keeps.logs.stored id over (omega (arith, within, next)) none;
    no_gap = no_gap-numbered m.last_l0_seq m.last_l0_seq read (omega arith) rest-is;
  }

  pub pinned-belong : BelongTo m.replay_after_wal_id (m.next_wal_id - 1) m.last_l0_seq (line_from m.last_l0_seq (batches_above m.last_l0_seq read)) o
  pinned-belong = numbered-stand m.last_l0_seq (batches_above m.last_l0_seq read) rest-is

  -- it ends at the number that a catalogue gives, and so is the front of the content up to that
  module _ (id : ℕ) where
    abbrev number : ℕ
    number = named_number (catalogue_of o) (record { id = id; manifest = m })

    named-end : number ≡ end (pinned_content o m)
    named-end =
        let floor = m.last_l0_seq in
        let above = batches_above floor read in
        let tables = keeps.tables.joined in
        let lengths = length-append (table_batches o m.tables) above in
        let known = greatest-known floor o (range_with_len (m.replay_after_wal_id + 1) (m.next_wal_id - 1 - m.replay_after_wal_id)) in
        known ∙ (no_gap-greatest floor (floor + length above) read pinned-whole.no_gap ∙ omega (arith, tables, lengths))

    pub named-front : pinned_content o m ≡ up_to number (content o)
    named-front =
        let line = pinned_content o m in
        let p = keeps.begins in
        sym (up_to-end line p.0) ∙ (ap (λ n. up_to n (extended line p.0)) (sym named-end) ∙ ap (up_to number) (sym p.1))

-- the manifest of a reader that doesn't stay at a checkpoint is the latest one
pub latest-view : {L : Type 0} (mode : DbReaderMode) (opening : Bool) (o : ObjectsOf L) (view : VersionedManifest) → is_pinned mode ≡ false → IsView mode opening o view → latest_manifest o ≡ Some view
latest-view (modes.Checkpoint id) opening o view free v = absurd (cc)
latest-view modes.FollowLatest opening o view free v = v.1 ∙ v.3
latest-view modes.ManagedCheckpoint opening o view free v = v.1 ∙ v.3

abbrev pub latest-tables : (o : Objects) (view : VersionedManifest) → IsSound o → latest_manifest o ≡ Some view → TablesBegin o view.manifest (content o)
latest-tables o view sound is = record { tables = (its-objects o view sound is).tables; rest = logged o view.manifest; is = ap (content_by o) is }

-- the tables of the manifest that a reader goes by begin what is stored
pub view-tables : (o : Objects) (mode : DbReaderMode) (opening : Bool) (view : VersionedManifest) → IsSound o → IsView mode opening o view → TablesBegin o view.manifest (content o)
view-tables o (modes.Checkpoint id) opening view sound v =
    let keeps = pinned-keeps o v.0 view id sound v.1 v.3 in
    let m = view.manifest in
    let p = keeps.begins in
    let joined = table_batches o m.tables in
    let read = batches_above m.last_l0_seq (batches_between m.replay_after_wal_id (m.next_wal_id - 1) o) in
    record { tables = keeps.tables; rest = read ++ p.0; is = p.1 ∙ ap (λ xs. record { floor = number_before joined m.last_l0_seq; batches = xs }) (append_assoc joined read p.0) }
view-tables o modes.FollowLatest opening view sound v = latest-tables o view sound (v.1 ∙ v.3)
view-tables o modes.ManagedCheckpoint opening view sound v = latest-tables o view sound (v.1 ∙ v.3)

-- what a reader that skips has
skipping : (o : Objects) (mode : DbReaderMode) (view : VersionedManifest) → IsSound o → TablesBegin o view.manifest (content o) → Owed o (content o) mode true view
skipping o mode view sound b =
    let m = view.manifest in
    let line = content o in
    let mark = m.replay_after_wal_id in
    record {
      owed = up_to m.last_l0_seq line;
      is_owed = refl;
      begins = front-begins o m line b sound.line;
      numbered = front-numbered o m line b sound.line;
      tables = front-tables o m line b sound.line;
      whole = subst (λ n. AreWhole mark mark m.last_l0_seq n o) (omega arith) (whole-start mark m.last_l0_seq o);
      belong = subst (λ xs. All (λ x. StandsIn x (line_from m.last_l0_seq [])) (batches_above m.last_l0_seq xs)) (sym (between-none mark mark o (omega arith))) (All-nil (λ x. StandsIn x (line_from m.last_l0_seq [])));
    }

replaying : (o : Objects) (view : VersionedManifest) → IsSound o → latest_manifest o ≡ Some view → (mode : DbReaderMode) → IsOwed (by_objects (Some o)) mode false o view (content o) (content o) → last_read mode false view o ≡ last_log view.manifest.replay_after_wal_id o → Owed o (content o) mode false view
replaying o view sound is mode owed last =
    let m = view.manifest in
    let its = logs-by o view sound is in
    record {
      owed = content o;
      is_owed = owed;
      begins = prefix-same (content o);
      numbered = sound.line;
      tables = latest-tables o view sound is;
      whole = subst (λ n. AreWhole m.replay_after_wal_id n m.last_l0_seq (m.last_l0_seq + length (logged o m)) o) (sym last) its.whole;
      belong = subst (λ n. BelongTo m.replay_after_wal_id n m.last_l0_seq (line_from m.last_l0_seq (logged o m)) o) (sym last) its.belong;
    }

-- what a reader has of sound objects that goes by this manifest
pub owing : (o : Objects) (mode : DbReaderMode) (skips opening : Bool) (view : VersionedManifest) → IsSound o → IsView mode opening o view → Owed o (content o) mode skips view
owing o mode true opening view sound v = skipping o mode view sound (view-tables o mode opening view sound v)
owing o (modes.Checkpoint id) false opening view sound v =
    let keeps = pinned-keeps o v.0 view id sound v.1 v.3 in
    record {
      owed = pinned_content o view.manifest;
      is_owed = refl;
      begins = keeps.begins;
      numbered = pinned-numbered o view.manifest keeps sound;
      tables = pinned-tables o view.manifest keeps sound;
      whole = pinned-whole o view.manifest keeps sound;
      belong = pinned-belong o view.manifest keeps sound;
    }
owing o modes.FollowLatest false opening view sound v = replaying o view sound (v.1 ∙ v.3) modes.FollowLatest refl refl
owing o modes.ManagedCheckpoint false opening view sound v = replaying o view sound (v.1 ∙ v.3) modes.ManagedCheckpoint refl refl

-- the line that it is owed
abbrev pub owed_line : DbReaderMode → (skips : Bool) → Objects → VersionedManifest → Line → Line
owed_line mode true o view stored = up_to view.manifest.last_l0_seq stored
owed_line (modes.Checkpoint id) false o view stored = pinned_content o view.manifest
owed_line mode false o view stored = stored

pub owed-is : (t : Option Objects) (o : Objects) (mode : DbReaderMode) (skips : Bool) (view : VersionedManifest) (stored a : Line) → IsOwed (by_objects t) mode skips o view stored a → a ≡ owed_line mode skips o view stored
owed-is t o mode true view stored a x = x
owed-is t o (modes.Checkpoint id) false view stored a x = x
owed-is t o modes.FollowLatest false view stored a x = x
owed-is t o modes.ManagedCheckpoint false view stored a x = x

-- what it is owed by objects is what it is owed by their catalogue
pub owed-known : (stored : Line) (c : Catalogue) (t : Option Objects) (o : Objects) (mode : DbReaderMode) (skips opening : Bool) (view : VersionedManifest) (owed : Line) → IsSound o → content o ≡ stored → IsView mode opening o view →
    IsOwed (by_objects t) mode skips o view stored owed → IsOwed (by_catalogue stored c) mode skips (catalogue_of o) view stored owed
owed-known stored c t o mode true opening view owed sound is v x = x
owed-known stored c t o (modes.Checkpoint id) false opening view owed sound is v x =
    let keeps = pinned-keeps o v.0 view id sound v.1 v.3 in
    x ∙ (named-front o view.manifest keeps sound view.id ∙ ap (up_to (named_number (catalogue_of o) view)) is)
owed-known stored c t o modes.FollowLatest false opening view owed sound is v x = x
owed-known stored c t o modes.ManagedCheckpoint false opening view owed sound is v x = x

-- one that takes what is new has seen what it has read for it
pub owed-seen : (o : Objects) (mode : DbReaderMode) (skips opening : Bool) (lag : ℕ) (view : VersionedManifest) → IsSound o → IsView mode opening o view → is_pinned mode ≡ false →
    HasSeen o (rebuilt mode skips lag view (owed_line mode skips o view (content o)) (last_read mode skips view o))
owed-seen o (modes.Checkpoint id) skips opening lag view sound v free = absurd (cc)
owed-seen o modes.FollowLatest true opening lag view sound v free = none-seen o view modes.FollowLatest true lag (up_to view.manifest.last_l0_seq (content o)) (v.1 ∙ v.3)
owed-seen o modes.FollowLatest false opening lag view sound v free = all-seen o view sound (v.1 ∙ v.3) modes.FollowLatest false lag
owed-seen o modes.ManagedCheckpoint true opening lag view sound v free = none-seen o view modes.ManagedCheckpoint true lag (up_to view.manifest.last_l0_seq (content o)) (v.1 ∙ v.3)
owed-seen o modes.ManagedCheckpoint false opening lag view sound v free = all-seen o view sound (v.1 ∙ v.3) modes.ManagedCheckpoint false lag

-- and each reads its line
pub owed-reads : (o : Objects) (stored : Line) (mode : DbReaderMode) (skips : Bool) (view : VersionedManifest) (its : Owed o stored mode skips view) → ReadsLine o view its.owed
owed-reads o stored mode skips view its = reads-line o view.manifest its.owed its.tables its.numbered view.id
