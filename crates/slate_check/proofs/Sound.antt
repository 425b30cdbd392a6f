-- Objects are sound where all clauses hold of them.
use Rattle.std.proofs.Common.{◌≡◌, ℕ, ◌+◌, ◌<◌, ◌≤◌, Bool, true, false, List, [], ◌∷◌, ◌++◌, length, Some, unwrap_or, refl, sym, ap, subst, arith, map, eqb}
use Rattle.std.proofs.lemmas.List.Elements.{All-head, All-tail}
use Rattle.std.specs.List.{All, AllByRecursion, IsDistinct}
use Rattle.std.specs.List.Sorted.{IsStrictlySortedBy}
use Rattle.std.specs.Option.{IfSome}
use Rattle.std.specs.Ordering.{eq_by_cmp}
use Rattle.slate_types.specs.declared.batches.Batch.{Batch}
use Rattle.slate_types.specs.Line.{AreNumberedFrom, IsLine, IsPrefix}
use Rattle.slate_store.specs.declared.objects.Checkpoint.{Checkpoint}
use Rattle.slate_store.specs.declared.objects.Manifest.{Manifest}
use Rattle.slate_store.specs.declared.objects.TableId.{TableId}
use Rattle.slate_store.specs.declared.objects.VersionedManifest.{VersionedManifest}
use Rattle.slate_store.specs.Checkpoints.{checkpoint_id}
use Rattle.slate_store.specs.Content.{AreGapless, IdsRise, HasItsObjects, IsPinned, IsSound, StoresTable, content, content_by, pinned_content, table_batches}
use Rattle.slate_store.specs.Objects.{Objects, entry_at, latest_manifest, table_at, table_cmp}
use Rattle.slate_store.proofs.Entries.{same_table, tied}
use Rattle.slate_check.specs.Faults.{HasAll, ids_above}
use Rattle.slate_check.specs.Named.{kept_ids}
use Rattle.slate_check.proofs.Lists.{numbered-front, numbered-rest}

each-weaker : {X : Type 0} (P Q : X → Type 0) → ((x : X) → P x → Q x) → (xs : List X) → AllByRecursion P xs → AllByRecursion Q xs
each-weaker P Q f [] all = tt
each-weaker P Q f (x ∷ xs) all = (f x all.0, each-weaker P Q f xs all.1)

-- a table begins above a number
abbrev BeginsAbove : Objects → ℕ → TableId → Type 0
BeginsAbove o n id = (b : Batch) (rest : List Batch) → table_at id o ≡ Some (b ∷ rest) → n < b.number

joined-first : (o : Objects) (id : TableId) (ids : List TableId) (b : Batch) (rest : List Batch) → table_at id o ≡ Some (b ∷ rest) → table_batches o (id ∷ ids) ≡ (b ∷ rest) ++ table_batches o ids
joined-first o id ids b rest at = ap (λ x. unwrap_or x [] ++ table_batches o ids) at

-- tables whose joined batches are numbered begin above the number before them
later-above : (o : Objects) (ids : List TableId) (n : ℕ) → All (StoresTable o) ids → AreNumberedFrom n (table_batches o ids) → AllByRecursion (BeginsAbove o n) ids
later-above o [] n stored numbered = tt
later-above o (id ∷ ids) n stored numbered =
    let here = All-head (StoresTable o) id ids stored in
    let b = here.0 in
    let rest = here.1 in
    let all = subst (AreNumberedFrom n) (joined-first o id ids b rest here.2) numbered in
    let number : b.number ≡ n + 1 = all.0 in
    let more = numbered-rest n (b ∷ rest) (table_batches o ids) all in (
      λ b' rest' at. let same : b ∷ rest ≡ b' ∷ rest' = cc (here.2, at) in let e : b ≡ b' = cc in let k : b.number ≡ b'.number = ap (λ (x : Batch). x.number) e in omega (arith, number, k),
      each-weaker (BeginsAbove o (n + length (b ∷ rest))) (BeginsAbove o n) (λ y h b' rest' at. let k = h b' rest' at in omega (arith, k)) ids
          (later-above o ids (n + length (b ∷ rest)) (All-tail (StoresTable o) id ids stored) more),
    )

-- and so they differ
pub tables-differ : (o : Objects) (ids : List TableId) (n : ℕ) → All (StoresTable o) ids → AreNumberedFrom n (table_batches o ids) → IsDistinct (eq_by_cmp table_cmp) ids
unfolding IsDistinct
tables-differ o [] n stored numbered = tt
tables-differ o (id ∷ ids) n stored numbered =
    let here = All-head (StoresTable o) id ids stored in
    let b = here.0 in
    let rest = here.1 in
    let all = subst (AreNumberedFrom n) (joined-first o id ids b rest here.2) numbered in
    let number : b.number ≡ n + 1 = all.0 in
    let more = numbered-rest n (b ∷ rest) (table_batches o ids) all in
    let others = All-tail (StoresTable o) id ids stored in (
      each-weaker (BeginsAbove o (n + length (b ∷ rest))) (λ y. eq_by_cmp table_cmp id y ≡ false)
          (λ y above. apart y b rest here.2 (n + length (b ∷ rest)) above (omega arith)) ids (later-above o ids (n + length (b ∷ rest)) others more),
      tables-differ o ids (n + length (b ∷ rest)) others more,
    ) where
      apart : (y : TableId) (b : Batch) (rest : List Batch) → table_at id o ≡ Some (b ∷ rest) → (k : ℕ) → BeginsAbove o k y → b.number ≤ k → eq_by_cmp table_cmp id y ≡ false
      apart y b rest at k above low = by (eq_by_cmp table_cmp id y) refl where
        by : (r : Bool) → eq_by_cmp table_cmp id y ≡ r → r ≡ false
        by false e = refl
        by true e =
            let same : id ≡ y = same_table id y (tied (table_cmp id y) e) in
            let less = above b rest (subst (λ x. table_at x o ≡ Some (b ∷ rest)) same at) in
            absurd (omega (arith, less))

-- ---- a checkpoint is pinned
pub pinned : (o : Objects) (latest : VersionedManifest) (checkpoint : Checkpoint) (manifest : Manifest) → latest_manifest o ≡ Some latest → checkpoint.id ≡ checkpoint_id checkpoint.manifest_id
    → checkpoint.manifest_id ≤ latest.id → entry_at checkpoint.manifest_id o.manifests ≡ Some manifest → HasAll o manifest → IsLine (content o) → IsPrefix (pinned_content o manifest) (content o)
    → IsPinned o latest checkpoint
pinned o latest checkpoint manifest is id within kept all line begins =
    let same : content o ≡ content_by o (Some latest) = ap (content_by o) is in
    let floor = ap (λ (l : _). l.floor) begins.1 in
    let batches = ap (λ (l : _). l.batches) begins.1 in
    let numbered : AreNumberedFrom (pinned_content o manifest).floor ((pinned_content o manifest).batches ++ begins.0) =
    subst (λ n. AreNumberedFrom n ((pinned_content o manifest).batches ++ begins.0)) floor (subst (AreNumberedFrom (content o).floor) batches line) in
    let front = numbered-front _ _ _ (numbered-front _ _ _ numbered) in
    record {
      id = id;
      within = within;
      manifest = manifest;
      kept = kept;
      tables = record { stored = all.stored; differ = tables-differ o manifest.tables _ all.stored front; joined = all.joined };
      logs = all.logs;
      begins = subst (λ l. IsPrefix (pinned_content o manifest) l) same begins;
    }

-- ---- objects are sound
pub sound : (o : Objects) (latest : VersionedManifest) → latest_manifest o ≡ Some latest
    → IdsRise (map (λ e. e.0) o.manifests) → IdsRise (map (λ log. log.0) o.logs) → IsStrictlySortedBy table_cmp (map (λ table. table.0) o.tables)
    → All (λ table. table.0.epoch ≤ latest.manifest.writer_epoch) o.tables → AreGapless latest.manifest.replay_after_wal_id (ids_above o latest.manifest)
    → HasAll o latest.manifest → IsLine (content o) → IsDistinct eqb (kept_ids latest.manifest.checkpoints) → All (IsPinned o latest) latest.manifest.checkpoints → IsSound o
sound o latest is manifests logs tables epochs gapless all line differ pins =
    let numbered = subst (λ x. IsLine (content_by o x)) is line in
    let front = numbered-front _ _ _ numbered in
    record {
      manifests = manifests;
      logs = logs;
      tables = tables;
      nothing = λ none. absurd (cc (is, none));
      line = line;
      latest = subst (λ x. IfSome x (HasItsObjects o)) (sym is)
          (record {
            tables = record { stored = all.stored; differ = tables-differ o latest.manifest.tables _ all.stored front; joined = all.joined };
            logs = all.logs;
            gapless = gapless;
            epochs = epochs;
            differ = differ;
            pinned = pins;
          });
    }
