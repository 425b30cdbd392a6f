-- Objects with a fault aren't sound.
use Rattle.std.proofs.Common.{◌≡◌, ◌+◌, ◌<◌, ◌≤◌, List, [], ◌∷◌, length, map, Some, sym, ap, subst, ◌∙◌, arith}
use Rattle.std.proofs.lemmas.List.Elements.{All-map}
use Rattle.std.specs.List.{All, IsDistinct}
use Rattle.slate_types.specs.Line.{AreNumberedFrom, IsPrefix}
use Rattle.slate_store.specs.declared.objects.Checkpoint.{Checkpoint}
use Rattle.slate_store.specs.declared.objects.Manifest.{Manifest}
use Rattle.slate_store.specs.declared.objects.TableId.{TableId}
use Rattle.slate_store.specs.declared.objects.VersionedManifest.{VersionedManifest}
use Rattle.slate_store.specs.Content.{AreGapless, HasItsLogs, HasItsTables, IsPinned, IsSound, StoresTable, content, content_by, pinned_content}
use Rattle.slate_store.specs.Objects.{Objects, latest_manifest}
use Rattle.slate_store.proofs.Latest.{its-objects}
use Rattle.slate_check.specs.declared.faults.CheckpointFault.{CheckpointFault}
use Rattle.slate_check.specs.declared.faults.CheckpointFault.TheVariants as of_checkpoint
use Rattle.slate_check.specs.declared.faults.ManifestFault.{ManifestFault}
use Rattle.slate_check.specs.declared.faults.ManifestFault.TheVariants.{TableMissing, TableEmpty, NextLog, LogMissing, TablesEnd}
use Rattle.slate_check.specs.declared.faults.SoundnessFault.{SoundnessFault}
use Rattle.slate_check.specs.declared.faults.SoundnessFault.TheVariants as of_store
use Rattle.slate_check.specs.Faults.{LacksBy, ShowsFault, UnpinnedBy}
use Rattle.slate_check.specs.Named.{IsFirstWithout}
use Rattle.slate_check.proofs.Lists.{all-at, distinct-at, gapless-at, numbered-at}

-- the first of a list that isn't P isn't, where all are
at-first : {X : Type 0} (P : X → Type 0) (xs : List X) (x : X) → IsFirstWithout P xs x → All P xs → P x
at-first P xs x first all = all-at P first.0 first.1 x (subst (All P) first.2 all)

-- a manifest that lacks something doesn't have all
pub lacks : (o : Objects) (m : Manifest) (fault : ManifestFault) → LacksBy o m fault → HasItsTables o m → HasItsLogs o m → ⊥
lacks o m (TableMissing id) lack tables logs =
    let stored = at-first (StoresTable o) m.tables id lack.0 tables.stored in
    cc (stored.2, lack.1)
lacks o m (TableEmpty id) lack tables logs =
    let stored = at-first (StoresTable o) m.tables id lack.0 tables.stored in
    let same : Some [] ≡ Some (stored.0 ∷ stored.1) = sym lack.1 ∙ stored.2 in
    cc
lacks o m NextLog lack tables logs = let next = logs.next in omega (arith, next, lack.1)
lacks o m (LogMissing id) lack tables logs = logs.stored id lack.1 lack.2 lack.4
lacks o m TablesEnd lack tables logs = lack.2 tables.joined

-- a checkpoint with a fault isn't pinned
unpinned : (o : Objects) (latest : VersionedManifest) (checkpoint : Checkpoint) (fault : CheckpointFault) → latest_manifest o ≡ Some latest → UnpinnedBy o latest checkpoint fault → IsPinned o latest checkpoint → ⊥
unpinned o latest checkpoint of_checkpoint.Id is wrong pin = wrong pin.id
unpinned o latest checkpoint of_checkpoint.Above is wrong pin = let within = pin.within in omega (arith, within, wrong.1)
unpinned o latest checkpoint of_checkpoint.Missing is wrong pin = let kept = pin.kept in cc (kept, wrong.2)
unpinned o latest checkpoint (of_checkpoint.Manifest fault) is wrong pin =
    let kept = pin.kept in
    let same : Some pin.manifest ≡ Some wrong.2 = sym kept ∙ wrong.3 in
    let one : pin.manifest ≡ wrong.2 = cc in
    lacks o wrong.2 fault wrong.4 (subst (HasItsTables o) one pin.tables) (subst (HasItsLogs o) one pin.logs)
unpinned o latest checkpoint of_checkpoint.Content is wrong pin =
    let kept = pin.kept in
    let same : Some pin.manifest ≡ Some wrong.2 = sym kept ∙ wrong.3 in
    let one : pin.manifest ≡ wrong.2 = cc in
    let content_is : content_by o (Some latest) ≡ content o = sym (ap (content_by o) is) in
    wrong.5 (subst (λ m. IsPrefix (pinned_content o m) (content o)) one (subst (λ l. IsPrefix (pinned_content o pin.manifest) l) content_is pin.begins))

pub unsound : (o : Objects) (fault : SoundnessFault) → ShowsFault o fault → IsSound o → ⊥
unsound o of_store.ManifestIds shown s = shown s.manifests
unsound o of_store.LogIds shown s = shown s.logs
unsound o of_store.TableIds shown s = shown s.tables
unsound o of_store.NoManifest shown s = shown.1 (s.nothing shown.0)
unsound o (of_store.TableEpoch id) shown s =
    let w = shown.0.manifest.writer_epoch in
    let objects = its-objects o shown.0 s shown.1 in
    let all = All-map (λ (id : TableId). id.epoch ≤ w) (λ table. table.0) o.tables objects.epochs in
    let low : id.epoch ≤ w = at-first (λ (id : TableId). id.epoch ≤ w) (map (λ table. table.0) o.tables) id shown.2.0 all in
    let high : w < id.epoch = shown.2.1 in
    omega (arith, low, high)
unsound o (of_store.LogGap after) shown s =
    let objects = its-objects o shown.0 s shown.1 in
    let mark = shown.0.manifest.replay_after_wal_id in
    let gap = shown.2 in
    let next = gapless-at mark gap.1 gap.0 gap.2 (subst (AreGapless mark) gap.3 objects.gapless) in
    gap.6 (let e : after ≡ mark + length gap.0 = gap.5 in omega (arith, next, e))
unsound o (of_store.Manifest id fault) shown s =
    let objects = its-objects o shown.0 s shown.1 in
    lacks o shown.0.manifest fault shown.2.1 objects.tables objects.logs
unsound o (of_store.Numbers number) shown s =
    let gap = shown.2 in
    let floor = (content o).floor in
    let next = numbered-at floor gap.0 gap.2 gap.1 (subst (AreNumberedFrom floor) gap.3 s.line) in
    gap.6 (gap.5 ∙ next)
unsound o (of_store.CheckpointTwice id) shown s =
    let objects = its-objects o shown.0 s shown.1 in
    let twice = shown.2 in
    distinct-at twice.0 twice.1 id (subst (IsDistinct _) twice.2 objects.differ) twice.4
unsound o (of_store.Checkpoint id fault) shown s =
    let objects = its-objects o shown.0 s shown.1 in
    let checkpoint = shown.2.0 in
    unpinned o shown.0 checkpoint fault shown.1 shown.2.3 (at-first (IsPinned o shown.0) shown.0.manifest.checkpoints checkpoint shown.2.1 objects.pinned)
