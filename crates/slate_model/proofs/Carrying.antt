-- What the changes of each operation carry on of the latest manifest.
use Rattle.std.proofs.Common.{◌≡◌, ◌++◌, ◌∷◌, ◌≤◌, ◌==◌, [], Bool, List, Err, None, Ok, Option, Some, ap, arith, cond, false, length, map, not, refl, subst, sym, true, ℕ, ℤ}
use Rattle.std.proofs.lemmas.Bool.{eq-eqb, or_parts}
use Rattle.std.specs.List.{AllByRecursion, filter, list_any}
use Rattle.std.specs.Prelude.{nat_lt}
use Rattle.slate_types.specs.declared.batches.Batch.{Batch}
use Rattle.slate_types.specs.declared.options.FlushType.{FlushType}
use Rattle.slate_types.specs.declared.options.FlushType.TheVariants.{MemTable, Wal}
use Rattle.slate_store.proofs.Carried.{Carry, put-kept, put-rising}
use Rattle.slate_store.proofs.Latest.{rising-last, some-versioned}
use Rattle.slate_store.specs.Checkpoints.{Plan, is_expired, with_checkpoints}
use Rattle.slate_store.specs.Compaction.{compact_changes_by, with_table}
use Rattle.slate_store.specs.Content.{IdsRise}
use Rattle.slate_store.specs.Objects.{ChangeOf, ObjectsOf, PutManifest, RemoveLog, RemoveManifest, RemoveTable, changed, changed_all, latest_manifest}
use Rattle.slate_store.specs.Refusals.{planned}
use Rattle.slate_store.specs.Sweeps.{has_expired, keeps_log, keeps_manifest, keeps_table, protecting, removals, sweep_changes_by, without_expired}
use Rattle.slate_store.specs.declared.objects.Checkpoint.{Checkpoint}
use Rattle.slate_store.specs.declared.objects.Manifest.{Manifest}
use Rattle.slate_store.specs.declared.objects.TableId.{TableId}
use Rattle.slate_store.specs.declared.objects.VersionedManifest.{VersionedManifest}
use Rattle.slate_model.specs.Flush.{flush_changes_under, log_changes, next_flushed, table_changes}
use Rattle.slate_model.specs.Handle.{Handle, has_untabled, to_log}
use Rattle.slate_model.specs.Open.{found_log, next_manifest, open_changes}
use Rattle.slate_model.proofs.Maintained.{Recheckpoints}

-- the checkpoints of a manifest are such
abbrev pub Has : (List Checkpoint → Type 0) → Manifest → Type 0
Has Q manifest = Q manifest.checkpoints

-- the latest manifest without those that have expired, by whether there are any
abbrev unexpired : ℤ → VersionedManifest → Bool → VersionedManifest
unexpired moment latest b = cond b (with_checkpoints (filter (λ checkpoint. not (is_expired moment checkpoint)) latest.manifest.checkpoints) latest) latest

-- a plan for a checkpoint
pub plan-carries : (L : Type 0) (P : Manifest → Type 0) {A : Type 0} (latest : VersionedManifest) (p : Plan A) → Recheckpoints latest p → ((next : VersionedManifest) (answer : A) → p ≡ Ok (Some next, answer) → P next.manifest) → Carry {L = L} P latest.id (planned p)
plan-carries L P latest (Ok (Some next, answer)) (checkpoints, same) has = (ap (λ (n : VersionedManifest). n.id) same, has next answer refl, tt)
plan-carries L P latest (Ok (None, answer)) puts has = tt
plan-carries L P latest (Err refusal) puts has = tt

-- a manifest that isn't kept isn't the latest one
not-latest : (id : ℕ) (latest : VersionedManifest) → keeps_manifest latest id ≡ false → id ≡ latest.id → ⊥
not-latest id latest spare same =
    let yes = eq-eqb id latest.id same in
    let no = (or_parts (id == latest.id) (list_any (λ (checkpoint : Checkpoint). checkpoint.manifest_id == id) latest.manifest.checkpoints) spare).0 in
    absurd (cc)

module _ (L : Type 0) (P : Manifest → Type 0) (latest : VersionedManifest) where
  abbrev removing : List (ℕ × Manifest) → List (ChangeOf L)
  removing ms = map (λ entry. RemoveManifest entry.0) (filter (λ entry. not (keeps_manifest latest entry.0)) ms)

  -- so it is below that
  manifests-carry : (ms : List (ℕ × Manifest)) → AllByRecursion (λ id. id ≤ latest.id) (map (λ e. e.0) ms) → Carry P latest.id (removing ms)
  manifests-carry [] within = tt
  manifests-carry (m ∷ ms) within = by (keeps_manifest latest m.0) refl (manifests-carry ms within.1) where
    by : (b : Bool) → keeps_manifest latest m.0 ≡ b → Carry P latest.id (removing ms) →
        Carry {L = L} P latest.id (map (λ entry. RemoveManifest entry.0) (cond (not b) (m ∷ filter (λ entry. not (keeps_manifest latest entry.0)) ms) (filter (λ entry. not (keeps_manifest latest entry.0)) ms)))
    by true kept rest = rest
    by false spare rest =
        let low : m.0 ≤ latest.id = within.0 in
        let other : (m.0 ≡ latest.id) → ⊥ = not-latest m.0 latest spare in
        (omega (arith, low, other), rest)

module _ {L : Type 0} (P : Manifest → Type 0) where
  -- ---- a flush
  log-carries : (summary : List Batch → L) (id : ℕ) (batches : List Batch) (last : ℕ) (rest : List (ChangeOf L)) → Carry P id rest → Carry P id (log_changes summary batches last ++ rest)
  log-carries summary id [] last rest carry = carry
  log-carries summary id (batch ∷ batches) last rest carry = carry

  log-alone : (summary : List Batch → L) (id : ℕ) (batches : List Batch) (last : ℕ) → Carry P id (log_changes summary batches last)
  log-alone summary id [] last = tt
  log-alone summary id (batch ∷ batches) last = tt

  pub flush-carries : (summary : List Batch → L) (t : FlushType) (h : Handle) (latest : VersionedManifest) (last : ℕ) → (has_untabled h latest.manifest ≡ true → P (next_flushed h latest last).manifest) → Carry P latest.id (flush_changes_under summary t h latest last)
  flush-carries summary Wal h latest last has = log-alone summary latest.id (to_log h) last
  flush-carries summary MemTable h latest last has = by (has_untabled h latest.manifest) refl where
    by : (b : Bool) → has_untabled h latest.manifest ≡ b → Carry P latest.id (cond b (log_changes summary (to_log h) last ++ table_changes summary h latest last) [])
    by true is = log-carries summary latest.id (to_log h) last (table_changes summary h latest last) (refl, has is, tt)
    by false is = tt

  -- ---- a compaction and an opening
  pub compact-carries : (joined : List L → L) (id : TableId) (o : ObjectsOf L) (latest : VersionedManifest) → P (with_table id latest).manifest → Carry P latest.id (compact_changes_by joined id o (Some latest))
  compact-carries joined id o latest has = by (nat_lt (length latest.manifest.tables) 2) _ (refl, has, tt) where
    by : (b : Bool) (changes : List (ChangeOf L)) → Carry P latest.id changes → Carry P latest.id (cond b [] changes)
    by true changes carry = tt
    by false changes carry = carry

  pub open-carries : (name : Option (List ℕ)) (summary : List Batch → L) (o : ObjectsOf L) (latest : VersionedManifest) → latest_manifest o ≡ Some latest → P (next_manifest name (Some latest) (found_log o)).manifest → Carry P latest.id (open_changes name summary o)
  open-carries name summary o latest is has =
      let id = ap (λ found. (next_manifest name found (found_log o)).id) is in
      (id, subst (λ found. P (next_manifest name found (found_log o)).manifest) (sym is) has, tt)

  -- ---- a sweep
  tables-carry : (id : ℕ) (ts : List (TableId × L)) (rest : List (ChangeOf L)) → Carry P id rest → Carry P id (map (λ table. RemoveTable table.0) ts ++ rest)
  tables-carry id [] rest carry = carry
  tables-carry id (t ∷ ts) rest carry = tables-carry id ts rest carry

  logs-carry : (id : ℕ) (ls : List (ℕ × L)) (rest : List (ChangeOf L)) → Carry P id rest → Carry P id (map (λ log. RemoveLog log.0) ls ++ rest)
  logs-carry id [] rest carry = carry
  logs-carry id (l ∷ ls) rest carry = logs-carry id ls rest carry

  removals-carry : (latest : VersionedManifest) (o : ObjectsOf L) → IdsRise (map (λ e. e.0) o.manifests) → latest_manifest o ≡ Some latest → Carry P latest.id (removals latest o)
  removals-carry latest o rising is =
      tables-carry latest.id (filter (λ table. not (keeps_table (protecting latest o) table.0)) o.tables) _
      (logs-carry latest.id (filter (λ log. not (keeps_log (protecting latest o) log.0)) o.logs) _
      (manifests-carry L P latest o.manifests (rising-last (latest.id, latest.manifest) o.manifests rising (some-versioned _ latest is))))

  module _ (moment : ℤ) (latest : VersionedManifest) where
    abbrev first : Bool → List (ChangeOf L)
    first b = cond b (PutManifest (unexpired moment latest b).id (unexpired moment latest b).manifest ∷ []) []

    pub sweep-carries : (o : ObjectsOf L) → IdsRise (map (λ e. e.0) o.manifests) → latest_manifest o ≡ Some latest → P (without_expired moment latest).manifest → Carry P latest.id (sweep_changes_by moment o (Some latest))
    sweep-carries o rising is = by (has_expired moment latest) where
      by : (b : Bool) → P (unexpired moment latest b).manifest → Carry P latest.id (first b ++ removals (unexpired moment latest b) (changed_all (first b) o))
      by true has =
          let next = unexpired moment latest true in
          (refl, has, removals-carry next (changed (PutManifest next.id next.manifest) o) (put-rising {L = L} P o latest rising is next.manifest) (put-kept {L = L} P o latest rising is next.manifest))
      by false has = removals-carry latest o rising is
