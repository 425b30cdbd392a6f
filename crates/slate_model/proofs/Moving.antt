-- What holds of the handles of a world after the objects of its store changed.
use Rattle.std.proofs.Common.{◌≡◌, ℕ, ◌<◌, ◌≤◌, ◌⊎◌, inl, List, ◌++◌, option_map, Some, None, Option, refl, sym, ap, ◌∙◌, arith}
use Rattle.std.specs.List.{All}
use Rattle.slate_types.specs.Line.{IsPrefix, Line, batches_above, end, extended}
use Rattle.slate_types.specs.declared.batches.Batch.{Batch}
use Rattle.slate_store.specs.Content.{IsSound, content}
use Rattle.slate_store.specs.Objects.{Objects, last_log, latest_manifest, table_at}
use Rattle.slate_store.specs.declared.objects.TableId.{TableId}
use Rattle.slate_store.specs.declared.objects.VersionedManifest.{VersionedManifest}
use Rattle.slate_model.specs.Catalogue.{catalogue_of, span}
use Rattle.slate_model.specs.Handle.{Handle, unstored}
use Rattle.slate_model.specs.Tables.{AreStored}
use Rattle.slate_model.specs.Valid.{IsValidHandle, ReadsLine, up_to}
use Rattle.slate_model.proofs.Adding.{Lasts, lasting}
use Rattle.slate_model.proofs.Logging.{LogsAre, LogsFollow, LogsGo, OfLine, PastLine, logs-are_same, logs-same, stay-follow, stay-go}
use Rattle.slate_model.proofs.Catalogued.{table-known}
use Rattle.slate_model.proofs.Prefixes.{prefix-same, prefix-then}

-- ---- which tables are stored is known
no-span : (table : Option (List Batch)) → option_map span table ≡ None → table ≡ None
no-span None none = refl
no-span (Some table) none = absurd (cc)

pub none-known : (q : TableId) (o : Objects) → table_at q (catalogue_of o) ≡ None → table_at q o ≡ None
none-known q o none = no-span (table_at q o) (sym (table-known q o) ∙ none)

pub known-none : (q : TableId) (o : Objects) → table_at q o ≡ None → table_at q (catalogue_of o) ≡ None
known-none q o none = table-known q o ∙ ap (option_map span) none

pub known-stored : (o : Objects) (ids : List TableId) → AreStored o ids → AreStored (catalogue_of o) ids
known-stored o ids stored k d less none = stored k d less (none-known _ o none)

pub stored-known : (o : Objects) (ids : List TableId) → AreStored (catalogue_of o) ids → AreStored o ids
stored-known o ids stored k d less none = stored k d less (known-none _ o none)

-- Sound objects that follow others under which this line was stored, and this manifest was the latest: the line and the log
-- files go on, neither the epoch nor the last number in tables falls, that number is the same or not below the end of the line before,
-- the replay mark is the same while it is, a log file that is new has batches of the line that come after the one before, and log files go in their order.
pub record Follows (stored stored' : Line) (o o' : Objects) (latest latest' : VersionedManifest) : Type 0 where
  pub sound : IsSound o'
  pub content : content o' ≡ stored'
  pub grows : IsPrefix stored stored'
  pub latest_is : latest_manifest o' ≡ Some latest'
  pub epochs : latest.manifest.writer_epoch ≤ latest'.manifest.writer_epoch
  pub tabled : latest.manifest.last_l0_seq ≤ latest'.manifest.last_l0_seq
  pub leaps : (latest'.manifest.last_l0_seq ≡ latest.manifest.last_l0_seq) ⊎ (end stored ≤ latest'.manifest.last_l0_seq)
  pub marked : latest'.manifest.last_l0_seq ≡ latest.manifest.last_l0_seq → latest'.manifest.replay_after_wal_id ≡ latest.manifest.replay_after_wal_id
  pub logs : LogsFollow o o' latest.manifest.replay_after_wal_id latest'.manifest.replay_after_wal_id
  pub logs_are : LogsAre (OfLine stored') o o'
  pub news : LogsAre (PastLine stored) o o'
  pub goes : LogsGo (last_log latest.manifest.replay_after_wal_id o) o o'

module _ (stored stored' : Line) (o o' : Objects) (latest latest' : VersionedManifest) (is : latest_manifest o ≡ Some latest) (f : Follows stored stored' o o' latest latest') where
  -- a handle that didn't change
  pub still-valid : (g : Handle) → ((index : ℕ) → g.counter ≤ index → table_at (record { epoch = g.epoch; index = index }) o ≡ None → table_at (record { epoch = g.epoch; index = index }) o' ≡ None) →
      ((found : VersionedManifest) → g.result ≡ None → latest_manifest o' ≡ Some found → found.manifest.writer_epoch ≤ g.epoch → (extended stored' (unstored g) ≡ g.line) × (found.manifest.last_l0_seq ≡ g.view.manifest.last_l0_seq)) →
      IsValidHandle stored (catalogue_of o) g → IsValidHandle stored' (catalogue_of o') g
  still-valid g unput current v =
      let found : v.behind.0 ≡ latest = (let b = v.behind.1 in cc) in
      let epoch = ap (λ (m : VersionedManifest). m.manifest.writer_epoch) found in
      let number = ap (λ (m : VersionedManifest). m.manifest.last_l0_seq) found in
      let low = v.behind.2 in
      let low_number = v.behind.3 in
      let epochs = f.epochs in
      let tabled = f.tabled in
      record {
        numbered = v.numbered;
        floor = v.floor;
        tabled = v.tabled;
        durable = v.durable;
        confirmed = prefix-then (up_to g.durable g.line) stored stored' v.confirmed f.grows;
        unused = λ index high. known-none (record { epoch = g.epoch; index = index }) o' (unput index high (none-known (record { epoch = g.epoch; index = index }) o (v.unused index high)));
        behind = (latest', f.latest_is, omega (arith, epoch, low, epochs), omega (arith, number, low_number, tabled));
        current = current;
      }

-- what an object reads, where the tables of its view last
pub still-reads : (o o' : Objects) (view : VersionedManifest) (line : Line) → All (Lasts o o') view.manifest.tables → ReadsLine o view line → ReadsLine o' view line
still-reads o o' view line last reads there =
    let before = lasting o o' view.manifest.tables last there in
    ap (λ bs. bs ++ batches_above view.manifest.last_l0_seq line.batches) before.1 ∙ reads before.0

-- A handle that changed with the objects: these follow, no table of another handle changed and none that comes before its
-- next one, and nothing that is stored did unless its epoch is current. It goes by its old view, or by one whose tables are
-- stored.
pub record Moved (stored stored' : Line) (o o' : Objects) (latest : VersionedManifest) (h new : Handle) : Type 0 where
  pub next : VersionedManifest
  pub follows : Follows stored stored' o o' latest next
  pub others : (q : TableId) → (q.epoch ≡ h.epoch → ⊥) → table_at q o' ≡ table_at q o
  pub lasts : (q : TableId) → (q.epoch ≡ h.epoch → q.index < h.counter) → Lasts o o' q
  pub counter : h.counter ≤ new.counter
  pub view : (new.view ≡ h.view) ⊎ AreStored o' new.view.manifest.tables
  pub same_epoch : next.manifest.writer_epoch ≡ latest.manifest.writer_epoch
  pub alone : ((stored' ≡ stored) × (next.manifest.last_l0_seq ≡ latest.manifest.last_l0_seq)) ⊎ (latest.manifest.writer_epoch ≤ h.epoch)
  pub epoch : new.epoch ≡ h.epoch
  pub mine : IsValidHandle stored' (catalogue_of o') new
  pub reads : ReadsLine o' new.view new.line

-- one that changed alone
pub unmoved : (stored : Line) (o : Objects) (latest : VersionedManifest) (h new : Handle) → IsSound o → content o ≡ stored → latest_manifest o ≡ Some latest → new.epoch ≡ h.epoch → h.counter ≤ new.counter → new.view ≡ h.view → IsValidHandle stored (catalogue_of o) new → ReadsLine o new.view new.line → Moved stored stored o o latest h new
unmoved stored o latest h new sound holds is epoch counter view mine reads = record {
  next = latest;
  follows = record { sound = sound; content = holds; grows = prefix-same stored; latest_is = is; epochs = omega arith; tabled = omega arith; leaps = inl refl; marked = λ same. refl; logs = stay-follow o o _ _ refl (logs-same _ _ o o refl); logs_are = logs-are_same (OfLine stored) o o refl; news = logs-are_same (PastLine stored) o o refl; goes = stay-go _ o o (logs-same _ _ o o refl) };
  others = λ q differ. refl;
  lasts = λ q before some. refl;
  counter = counter;
  view = inl view;
  same_epoch = refl;
  alone = inl (refl, refl);
  epoch = epoch;
  mine = mine;
  reads = reads;
}
