-- What is to be said of objects after each look at them.
use Rattle.std.proofs.Common.{◌≡◌, ℕ, ◌-◌, ◌<◌, ◌≤◌, max, List, [], ◌∷◌, map, Option, Some, None, Result, Ok, Err, take, refl, sym, ap, subst, ◌∙◌, arith, inl, inr, eqb}
use Rattle.std.proofs.lemmas.Bool.{cases_lt}
use Rattle.std.specs.List.{All, AllByRecursion, IsDistinct, flat_map}
use Rattle.std.specs.Cmp.{nat_cmp_is}
use Rattle.std.specs.Option.{IfSome, MatchOption}
use Rattle.std.specs.Result.{IfOk}
use Rattle.std.specs.Ordering.{nat_cmp}
use Rattle.std.specs.declared.cmp.Ordering.TheVariants.{Equal, Greater}
use Rattle.slate_types.specs.declared.batches.Batch.{Batch}
use Rattle.slate_types.specs.Line.{IsLine, Line, end}
use Rattle.slate_types.specs.declared.store_errors.StoreError.{StoreError}
use Rattle.slate_store.specs.declared.objects.Checkpoint.{Checkpoint}
use Rattle.slate_store.specs.declared.objects.Manifest.{Manifest}
use Rattle.slate_store.specs.declared.objects.VersionedManifest.{VersionedManifest}
use Rattle.slate_store.specs.Checkpoints.{checkpoint_id}
use Rattle.slate_store.specs.Content.{IdsRise, HasItsLogs, HasItsObjects, IsPinned, IsSound, content, content_by, pinned_content, table_batches}
use Rattle.slate_store.specs.Objects.{Objects, entry_at, greatest, last, latest_manifest}
use Rattle.slate_store.proofs.Entries.{absent, greater}
use Rattle.slate_store.proofs.Gapless.{between-gapless, gapless-greatest, stored-gapless}
use Rattle.slate_store.proofs.Latest.{last-cons, rising-last, some-versioned}
use Rattle.slate_check.specs.declared.faults.CheckpointFault.{CheckpointFault}
use Rattle.slate_check.specs.declared.faults.CheckpointFault.TheVariants as of_checkpoint
use Rattle.slate_check.specs.declared.faults.ManifestFault.{ManifestFault}
use Rattle.slate_check.specs.declared.faults.ManifestFault.TheVariants.{TableMissing, TableEmpty, NextLog, LogMissing, TablesEnd}
use Rattle.slate_check.specs.declared.faults.Soundness.TheVariants.{Sound, Unsound}
use Rattle.slate_check.specs.declared.faults.SoundnessFault.{SoundnessFault}
use Rattle.slate_check.specs.declared.faults.SoundnessFault.TheVariants as of_store
use Rattle.slate_check.specs.Faults.{HasAll, IsJudged, LacksBy, Says, ShowsFault, UnpinnedBy, clauses, place}
use Rattle.slate_check.specs.Named.{EndAt, kept_ids, named_line}
use Rattle.slate_check.specs.Steps.{AreLoaded, FailsToLoad, FitsIds, IsLoaded, IsOrdered, KeepsAll, KeepsNot, last_id}
use Rattle.slate_check.proofs.Sound.{pinned, sound}
use Rattle.slate_check.proofs.Unsound.{unsound}

-- ---- which clauses hold so far
pub judge : (o : Objects) (fault : SoundnessFault) → AllByRecursion (Says o) (take (place fault) clauses) → ShowsFault o fault → IsJudged o (Unsound fault)
judge o fault earlier shown = (record { earlier = earlier; shown = shown }, unsound o fault shown)

pub of_latest : (o : Objects) (latest : VersionedManifest) (P : VersionedManifest → Type 0) → latest_manifest o ≡ Some latest → P latest → IfSome (latest_manifest o) P
of_latest o latest P is p = subst (λ x. IfSome x P) (sym is) p

pub after-ids : (o : Objects) (latest : VersionedManifest) → latest_manifest o ≡ Some latest → IsOrdered o → AllByRecursion (Says o) (take 4 clauses)
after-ids o latest is ordered = (ordered.manifests, (ordered.logs, (ordered.tables, ((λ none. absurd (cc (is, none))), tt))))

pub after-gaps : (o : Objects) (latest : VersionedManifest) → FitsIds o latest → AllByRecursion (Says o) (take 6 clauses)
after-gaps o latest fits = (
  fits.ordered.manifests,
  (
    fits.ordered.logs,
    (
      fits.ordered.tables,
      (
        (λ none. absurd (let is = fits.is in cc (is, none))),
        (of_latest o latest _ fits.is fits.epochs, (of_latest o latest _ fits.is fits.gapless, tt)),
      ),
    ),
  ),
)

pub after-latest : (o : Objects) (latest : VersionedManifest) → FitsIds o latest → HasAll o latest.manifest → AllByRecursion (Says o) (take 7 clauses)
after-latest o latest fits all =
    let b = after-gaps o latest fits in
    (b.0, (b.1.0, (b.1.1.0, (b.1.1.1.0, (b.1.1.1.1.0, (b.1.1.1.1.1.0, (of_latest o latest (λ l. HasAll o l.manifest) fits.is all, tt)))))))

pub after-numbers : (o : Objects) (latest : VersionedManifest) → FitsIds o latest → HasAll o latest.manifest → IsLine (content o) → AllByRecursion (Says o) (take 8 clauses)
after-numbers o latest fits all line =
    let b = after-latest o latest fits all in
    (b.0, (b.1.0, (b.1.1.0, (b.1.1.1.0, (b.1.1.1.1.0, (b.1.1.1.1.1.0, (b.1.1.1.1.1.1.0, (line, tt))))))))

pub after-all : (o : Objects) (latest : VersionedManifest) → FitsIds o latest → HasAll o latest.manifest → IsLine (content o) → IsDistinct eqb (kept_ids latest.manifest.checkpoints)
    → AllByRecursion (Says o) (take 9 clauses)
after-all o latest fits all line differ =
    let b = after-numbers o latest fits all line in
    (b.0, (b.1.0, (b.1.1.0, (b.1.1.1.0, (b.1.1.1.1.0, (b.1.1.1.1.1.0, (b.1.1.1.1.1.1.0, (b.1.1.1.1.1.1.1.0, (of_latest o latest (λ l. IsDistinct eqb (kept_ids l.manifest.checkpoints)) fits.is differ, tt)))))))))

-- ---- objects without a manifest
pub nothing-sound : (o : Objects) → IsOrdered o → latest_manifest o ≡ None → o.logs ≡ [] → o.tables ≡ [] → IsJudged o (Sound 0)
nothing-sound o ordered none logs tables = (
  record {
    manifests = ordered.manifests;
    logs = ordered.logs;
    tables = ordered.tables;
    nothing = λ _. (logs, tables);
    line = subst (λ x. IsLine (content_by o x)) (sym none) tt;
    latest = subst (λ x. IfSome x (HasItsObjects o)) (sym none) tt;
  },
  sym (ap (λ x. end (content_by o x)) none),
)

pub without-manifest : (o : Objects) → IsOrdered o → latest_manifest o ≡ None → ((o.logs ≡ []) × (o.tables ≡ []) → ⊥) → IsJudged o (Unsound of_store.NoManifest)
without-manifest o ordered none some = judge o of_store.NoManifest (ordered.manifests, (ordered.logs, (ordered.tables, tt))) (none, some)

-- ---- what the latest manifest names was read
pub load-lacks : (o : Objects) (latest : VersionedManifest) (fault : ManifestFault) → FitsIds o latest → FailsToLoad o latest.manifest (max (last_id o latest) (latest.manifest.next_wal_id - 1)) fault
    → LacksBy o latest.manifest fault
load-lacks o latest (TableMissing id) fits fails = fails
load-lacks o latest (TableEmpty id) fits fails = fails
load-lacks o latest NextLog fits fails = fails
load-lacks o latest (LogMissing id) fits fails =
    let mark = latest.manifest.replay_after_wal_id in
    let next : mark < latest.manifest.next_wal_id = fails.1 in
    let over : mark < id = fails.2 in
    let within : id ≤ max (last_id o latest) (latest.manifest.next_wal_id - 1) = fails.3 in
    let below : id < latest.manifest.next_wal_id =
    elim (cases_lt (last_id o latest) id) [
      | inl above ↦ omega arith
      | inr low ↦ absurd (stored-gapless mark o fits.gapless id over low fails.5)
    ] in
    (fails.0, fails.2, below, fails.4, fails.5)
load-lacks o latest TablesEnd fits fails = absurd fails

-- and by a checkpoint's manifest
pub kept-lacks : (o : Objects) (m : Manifest) (fault : ManifestFault) → FailsToLoad o m (m.next_wal_id - 1) fault → LacksBy o m fault
kept-lacks o m (TableMissing id) fails = fails
kept-lacks o m (TableEmpty id) fails = fails
kept-lacks o m NextLog fails = fails
kept-lacks o m (LogMissing id) fails =
    let next : m.replay_after_wal_id < m.next_wal_id = fails.1 in
    let within : id ≤ m.next_wal_id - 1 = fails.3 in
    (fails.0, fails.2, omega (arith, next, within), fails.4, fails.5)
kept-lacks o m TablesEnd fails = absurd fails

its-logs : (o : Objects) (m : Manifest) (last : ℕ) (tables logs : List (List Batch)) → m.next_wal_id - 1 ≤ last → AreLoaded o m last tables logs → HasItsLogs o m
its-logs o m last tables logs low loaded = record { next = loaded.next; stored = λ id over below. loaded.logs_stored id over (omega (arith, low, below)) }

pub latest-loaded : (o : Objects) (latest : VersionedManifest) (tables logs : List (List Batch)) → FitsIds o latest
    → AreLoaded o latest.manifest (max (last_id o latest) (latest.manifest.next_wal_id - 1)) tables logs → IsLoaded o latest tables logs
latest-loaded o latest tables logs fits loaded =
    let mark = latest.manifest.replay_after_wal_id in
    let reach = max (last_id o latest) (latest.manifest.next_wal_id - 1) in
    let top : greatest mark (map (λ e. e.0) o.logs) ≡ last_id o latest = gapless-greatest mark mark o.logs (omega arith) fits.gapless in
    let same : reach ≡ last_id o latest =
    elim (cases_lt (last_id o latest) reach) [
      | inl above ↦ absurd (loaded.logs_stored reach (omega arith) (omega arith) (absent reach mark o.logs (omega (arith, top, above))))
      | inr low ↦ omega arith
    ] in
    record {
      fits = fits;
      stored = loaded.stored;
      has_logs = its-logs o latest.manifest reach tables logs (omega arith) loaded;
      joined = loaded.joined;
      logged = loaded.logged ∙ between-gapless mark o fits.gapless reach same;
    }

-- ---- the content
pub line-is : (o : Objects) (latest : VersionedManifest) (tables logs : List (List Batch)) (line : Line) → IsLoaded o latest tables logs
    → line ≡ named_line latest.manifest.last_l0_seq (flat_map (λ t. t) tables) (flat_map (λ l. l) logs) → line ≡ content o
line-is o latest tables logs line loaded is =
    is ∙ (ap (λ l. named_line latest.manifest.last_l0_seq l (flat_map (λ l. l) logs)) loaded.joined
    ∙ (ap (named_line latest.manifest.last_l0_seq (table_batches o latest.manifest.tables)) loaded.logged ∙ sym (ap (content_by o) loaded.fits.is)))

pub has-all : (o : Objects) (latest : VersionedManifest) (tables logs : List (List Batch)) → IsLoaded o latest tables logs → EndAt latest.manifest.last_l0_seq (flat_map (λ t. t) tables) → HasAll o latest.manifest
has-all o latest tables logs loaded ends =
    record { stored = loaded.stored; logs = loaded.has_logs; joined = subst (EndAt latest.manifest.last_l0_seq) loaded.joined ends }

pub seen-line : (o : Objects) (latest : VersionedManifest) (tables logs read_tables read_logs : List (List Batch)) (line : Line) → IsLoaded o latest tables logs → read_tables ≡ tables → read_logs ≡ logs
    → EndAt latest.manifest.last_l0_seq (flat_map (λ t. t) read_tables) × (line ≡ named_line latest.manifest.last_l0_seq (flat_map (λ t. t) read_tables) (flat_map (λ l. l) read_logs))
    → HasAll o latest.manifest × (line ≡ content o)
seen-line o latest tables logs read_tables read_logs line loaded same_tables same_logs named =
    let last = latest.manifest.last_l0_seq in (
      has-all o latest tables logs loaded (subst (λ ts. EndAt last (flat_map (λ t. t) ts)) same_tables named.0),
      line-is o latest tables logs line loaded
          (named.1 ∙ (ap (λ ts. named_line last (flat_map (λ t. t) ts) (flat_map (λ l. l) read_logs)) same_tables ∙ ap (λ ls. named_line last (flat_map (λ t. t) tables) (flat_map (λ l. l) ls)) same_logs)),
    )

pub tables-end : (o : Objects) (latest : VersionedManifest) (tables logs : List (List Batch)) → IsLoaded o latest tables logs → (EndAt latest.manifest.last_l0_seq (flat_map (λ t. t) tables) → ⊥)
    → IsJudged o (Unsound (of_store.Manifest latest.id TablesEnd))
tables-end o latest tables logs loaded fails =
    judge o (of_store.Manifest latest.id TablesEnd) (after-gaps o latest loaded.fits)
    (latest, loaded.fits.is, (refl, (loaded.stored, loaded.has_logs, λ ends. fails (subst (EndAt latest.manifest.last_l0_seq) (sym loaded.joined) ends))))

pub all-sound : (o : Objects) (latest : VersionedManifest) → FitsIds o latest → HasAll o latest.manifest → IsLine (content o) → IsDistinct eqb (kept_ids latest.manifest.checkpoints)
    → All (IsPinned o latest) latest.manifest.checkpoints → IsSound o
all-sound o latest fits all line differ pins =
    sound o latest fits.is fits.ordered.manifests fits.ordered.logs fits.ordered.tables fits.epochs fits.gapless all line differ pins

-- ---- the manifest under its id
last-entry : {X : Type 0} (e : ℕ × X) (es : List (ℕ × X)) → IdsRise (map (λ e. e.0) es) → last es ≡ Some e → entry_at e.0 es ≡ Some e.1
last-entry e [] rising is = absurd (cc)
last-entry {X} e (x ∷ []) rising is =
    let same : x ≡ e = cc in
    let here : nat_cmp e.0 x.0 ≡ Equal = sym (nat_cmp_is e.0 x.0 Equal (sym (ap (λ (y : ℕ × X). y.0) same))) in
    rw here (ap (λ (y : ℕ × X). Some y.1) same)
last-entry {X} e (x ∷ y ∷ es) rising is =
    let top = rising-last e (y ∷ es) rising.1 (sym (last-cons x y es) ∙ is) in
    let less : x.0 < e.0 = let below : x.0 < y.0 = (rising.0).0 in let low : y.0 ≤ e.0 = top.0 in omega (arith, below, low) in
    let over : nat_cmp e.0 x.0 ≡ Greater = greater e.0 x.0 less in
    rw over (last-entry e (y ∷ es) rising.1 (sym (last-cons x y es) ∙ is))

pub latest-entry : (o : Objects) (latest : VersionedManifest) → IdsRise (map (λ e. e.0) o.manifests) → latest_manifest o ≡ Some latest → entry_at latest.id o.manifests ≡ Some latest.manifest
latest-entry o latest rising is = last-entry (latest.id, latest.manifest) o.manifests rising (some-versioned (last o.manifests) latest is)

-- ---- what a checkpoint's manifest names was read
pub kept-line : (o : Objects) (m : Manifest) (tables logs : List (List Batch)) (line : Line) → AreLoaded o m (m.next_wal_id - 1) tables logs
    → line ≡ named_line m.last_l0_seq (flat_map (λ t. t) tables) (flat_map (λ l. l) logs) → line ≡ pinned_content o m
kept-line o m tables logs line loaded is =
    is ∙ (ap (λ l. named_line m.last_l0_seq l (flat_map (λ l. l) logs)) loaded.joined ∙ ap (named_line m.last_l0_seq (table_batches o m.tables)) loaded.logged)

pub kept-all : (o : Objects) (m : Manifest) (tables logs : List (List Batch)) → AreLoaded o m (m.next_wal_id - 1) tables logs → EndAt m.last_l0_seq (flat_map (λ t. t) tables) → HasAll o m
kept-all o m tables logs loaded ends =
    record { stored = loaded.stored; logs = its-logs o m (m.next_wal_id - 1) tables logs (omega arith) loaded; joined = subst (EndAt m.last_l0_seq) loaded.joined ends }

pub kept-end : (o : Objects) (m : Manifest) (tables logs : List (List Batch)) → AreLoaded o m (m.next_wal_id - 1) tables logs → (EndAt m.last_l0_seq (flat_map (λ t. t) tables) → ⊥) → LacksBy o m TablesEnd
kept-end o m tables logs loaded fails =
    (loaded.stored, its-logs o m (m.next_wal_id - 1) tables logs (omega arith) loaded, λ ends. fails (subst (EndAt m.last_l0_seq) (sym loaded.joined) ends))

-- a checkpoint is pinned where its manifest keeps all, and else says why
pub pin-of : (o : Objects) (latest : VersionedManifest) (checkpoint : Checkpoint) (m : Manifest) → latest_manifest o ≡ Some latest → checkpoint.id ≡ checkpoint_id checkpoint.manifest_id
    → checkpoint.manifest_id ≤ latest.id → entry_at checkpoint.manifest_id o.manifests ≡ Some m → IsLine (content o) → (answer : Result (Option CheckpointFault) StoreError)
    → IfOk answer (λ found. MatchOption found (KeepsAll o m) (KeepsNot o m)) → IfOk answer (λ found. MatchOption found (IsPinned o latest checkpoint) (UnpinnedBy o latest checkpoint))
pin-of o latest checkpoint m is id within entry line (Ok None) keeps = pinned o latest checkpoint m is id within entry keeps.all line keeps.begins
pin-of o latest checkpoint m is id within entry line (Ok (Some of_checkpoint.Id)) keeps = absurd keeps
pin-of o latest checkpoint m is id within entry line (Ok (Some of_checkpoint.Above)) keeps = absurd keeps
pin-of o latest checkpoint m is id within entry line (Ok (Some of_checkpoint.Missing)) keeps = absurd keeps
pin-of o latest checkpoint m is id within entry line (Ok (Some (of_checkpoint.Manifest fault))) keeps = (id, within, m, entry, keeps)
pin-of o latest checkpoint m is id within entry line (Ok (Some of_checkpoint.Content)) keeps = (id, within, m, entry, keeps.0, keeps.1)
pin-of o latest checkpoint m is id within entry line (Err e) keeps = tt
