-- What `==` says of manifests and of prefixes.
use Rattle.std.proofs.Common.{◌≡◌, ℕ, Bool, List, Option, Some, None, ◌&&◌, refl, ap}
use Rattle.std.specs.Bool.{Decides, beq}
use Rattle.std.specs.Cmp.{unsigned_Decides, signed_Decides, booleans_Decides}
use Rattle.std.specs.Ordering.{int_eq}
use Rattle.std.specs.Prelude.{nat_eq}
use Rattle.std.specs.Cmp.Lexicographic.{pointwise}
use Rattle.std.specs.Option.{option_eq}
use Rattle.std.proofs.lemmas.Bool.Decides.{Decides-and, Decides-like, Decides-at}
use Rattle.std.proofs.lemmas.Slice.Eq.{slice_eq-Decides}
use Rattle.slate_store.specs.declared.objects.TableId.{TableId}
use Rattle.slate_store.specs.declared.objects.Checkpoint.{Checkpoint}
use Rattle.slate_store.specs.declared.objects.Manifest.{Manifest}
use Rattle.slate_store.specs.declared.objects.VersionedManifest.{VersionedManifest}

options : {A : Type 0} (test : A → A → Bool) → ((a b : A) → Decides (test a b) (a ≡ b)) → (a b : Option A) → Decides (option_eq test a b) (a ≡ b)
options test each None None = (λ _. refl, λ _. refl)
options test each None (Some y) = (λ h. absurd (cc), λ h. absurd (cc))
options test each (Some x) None = (λ h. absurd (cc), λ h. absurd (cc))
options test each (Some x) (Some y) = Decides-like (test x y) (λ h. ap Some h) (λ h. cc) (each x y)

lists : {A : Type 0} (test : A → A → Bool) → ((a b : A) → Decides (test a b) (a ≡ b)) → (xs ys : List A) → Decides (pointwise test xs ys) (xs ≡ ys)
lists test each xs ys = slice_eq-Decides each xs ys (pointwise test xs ys) refl

-- two texts
texts : (a b : List ℕ) → Decides (pointwise nat_eq a b) (a ≡ b)
texts = lists nat_eq unsigned_Decides

pub prefix_lists : (a b : List (List ℕ)) (r : Bool) → r ≡ pointwise (pointwise nat_eq) a b → Decides r (a ≡ b)
prefix_lists = slice_eq-Decides texts

abbrev table_test : TableId → TableId → Bool
table_test a b = nat_eq a.epoch b.epoch && nat_eq a.index b.index

table_ids : (a b : TableId) → Decides (table_test a b) (a ≡ b)
table_ids a b =
    Decides-like (table_test a b) (λ h i. record { epoch = h.0 i; index = h.1 i }) (λ e. (ap (λ (t : TableId). t.epoch) e, ap (λ (t : TableId). t.index) e))
    (Decides-and _ _ (unsigned_Decides a.epoch b.epoch) (unsigned_Decides a.index b.index))

abbrev checkpoint_test : Checkpoint → Checkpoint → Bool
checkpoint_test a b =
    pointwise nat_eq a.id b.id && (nat_eq a.manifest_id b.manifest_id && (int_eq a.create_ms b.create_ms && option_eq int_eq a.expire_ms b.expire_ms))

checkpoints : (a b : Checkpoint) → Decides (checkpoint_test a b) (a ≡ b)
checkpoints a b =
    Decides-like (checkpoint_test a b)
    (λ h i. record { id = h.0 i; manifest_id = h.1.0 i; create_ms = h.1.1.0 i; expire_ms = h.1.1.1 i })
    (λ e. (ap (λ (t : Checkpoint). t.id) e, (ap (λ (t : Checkpoint). t.manifest_id) e, (ap (λ (t : Checkpoint). t.create_ms) e, ap (λ (t : Checkpoint). t.expire_ms) e))))
    (Decides-and _ _ (texts a.id b.id)
    (Decides-and _ _ (unsigned_Decides a.manifest_id b.manifest_id)
    (Decides-and _ _ (signed_Decides a.create_ms b.create_ms) (options int_eq signed_Decides a.expire_ms b.expire_ms))))

abbrev manifest_test : Manifest → Manifest → Bool
manifest_test a b =
    nat_eq a.writer_epoch b.writer_epoch && (beq a.initialized b.initialized && (pointwise table_test a.tables b.tables && (nat_eq a.last_l0_seq b.last_l0_seq
    && (int_eq a.last_tick b.last_tick && (nat_eq a.replay_after_wal_id b.replay_after_wal_id && (nat_eq a.next_wal_id b.next_wal_id
    && (pointwise checkpoint_test a.checkpoints b.checkpoints && (pointwise (pointwise nat_eq) a.segments b.segments
    && (option_eq (pointwise nat_eq) a.extractor_name b.extractor_name
    && option_eq (pointwise nat_eq) a.sequence_tracker b.sequence_tracker)))))))))

manifests : (a b : Manifest) → Decides (manifest_test a b) (a ≡ b)
manifests a b =
    Decides-like (manifest_test a b)
    (λ h i. record {
      writer_epoch = h.0 i;
      initialized = h.1.0 i;
      tables = h.1.1.0 i;
      last_l0_seq = h.1.1.1.0 i;
      last_tick = h.1.1.1.1.0 i;
      replay_after_wal_id = h.1.1.1.1.1.0 i;
      next_wal_id = h.1.1.1.1.1.1.0 i;
      checkpoints = h.1.1.1.1.1.1.1.0 i;
      segments = h.1.1.1.1.1.1.1.1.0 i;
      extractor_name = h.1.1.1.1.1.1.1.1.1.0 i;
      sequence_tracker = h.1.1.1.1.1.1.1.1.1.1 i;
    })
    (λ e. (
      ap (λ (t : Manifest). t.writer_epoch) e,
      (
        ap (λ (t : Manifest). t.initialized) e,
        (
          ap (λ (t : Manifest). t.tables) e,
          (
            ap (λ (t : Manifest). t.last_l0_seq) e,
            (
              ap (λ (t : Manifest). t.last_tick) e,
              (
                ap (λ (t : Manifest). t.replay_after_wal_id) e,
                (
                  ap (λ (t : Manifest). t.next_wal_id) e,
                  (
                    ap (λ (t : Manifest). t.checkpoints) e,
                    (ap (λ (t : Manifest). t.segments) e, (ap (λ (t : Manifest). t.extractor_name) e, ap (λ (t : Manifest). t.sequence_tracker) e)),
                  ),
                ),
              ),
            ),
          ),
        ),
      ),
    ))
    (Decides-and _ _ (unsigned_Decides a.writer_epoch b.writer_epoch)
    (Decides-and _ _ (booleans_Decides a.initialized b.initialized)
    (Decides-and _ _ (lists table_test table_ids a.tables b.tables)
    (Decides-and _ _ (unsigned_Decides a.last_l0_seq b.last_l0_seq)
    (Decides-and _ _ (signed_Decides a.last_tick b.last_tick)
    (Decides-and _ _ (unsigned_Decides a.replay_after_wal_id b.replay_after_wal_id)
    (Decides-and _ _ (unsigned_Decides a.next_wal_id b.next_wal_id)
    (Decides-and _ _ (lists checkpoint_test checkpoints a.checkpoints b.checkpoints)
    (Decides-and _ _ (lists (pointwise nat_eq) texts a.segments b.segments)
    (Decides-and _ _ (options (pointwise nat_eq) texts a.extractor_name b.extractor_name)
    (options (pointwise nat_eq) texts a.sequence_tracker b.sequence_tracker)))))))))))

abbrev versioned_test : VersionedManifest → VersionedManifest → Bool
versioned_test a b = nat_eq a.id b.id && manifest_test a.manifest b.manifest

-- two manifests under their ids
pub versioned : (a b : VersionedManifest) (r : Bool) → r ≡ versioned_test a b → Decides r (a ≡ b)
versioned a b r tested =
    Decides-at r (versioned_test a b) tested
    (Decides-like (versioned_test a b) (λ h i. record { id = h.0 i; manifest = h.1 i }) (λ e. (ap (λ (t : VersionedManifest). t.id) e, ap (λ (t : VersionedManifest). t.manifest) e))
    (Decides-and _ _ (unsigned_Decides a.id b.id) (manifests a.manifest b.manifest)))
