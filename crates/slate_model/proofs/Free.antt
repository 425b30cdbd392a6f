-- Over sound objects none stands under the ids that a flush and a compaction use, and tables can be joined.
use Rattle.std.proofs.Common.{◌≡◌, ℕ, ◌+◌, ◌<◌, ◌≤◌, List, [], ◌∷◌, ◌++◌, map, cond, Some, None, Bool, true, false, refl, sym, subst, arith, inl, inr}
use Rattle.std.proofs.lemmas.List.Elements.{All-append, All-cons, All-nil}
use Rattle.std.specs.List.{All, AllByRecursion, Contains}
use Rattle.slate_types.specs.Line.{AreNumberedFrom}
use Rattle.slate_types.specs.declared.batches.Batch.{Batch}
use Rattle.slate_types.specs.declared.options.FlushType.{FlushType}
use Rattle.slate_types.specs.declared.options.FlushType.TheVariants.{Wal, MemTable}
use Rattle.slate_types.specs.declared.store_errors.StoreFault.TheVariants.{NotFound}
use Rattle.slate_reads.specs.Index.{AreRising}
use Rattle.slate_store.proofs.Entries.{absent}
use Rattle.slate_store.proofs.Latest.{all-greatest, ids-within, its-line, its-objects}
use Rattle.slate_store.specs.Content.{IsSound, StoresTable, logged, number_before, table_batches}
use Rattle.slate_store.specs.Objects.{Change, Objects, PutLog, PutManifest, PutTable, is_present, last_log, latest_manifest, table_at}
use Rattle.slate_store.specs.declared.objects.Manifest.{Manifest}
use Rattle.slate_store.specs.declared.objects.VersionedManifest.{VersionedManifest}
use Rattle.slate_errors.specs.declared.errors.SlateError.{SlateError}
use Rattle.slate_errors.specs.declared.errors.SlateError.TheVariants as errors
use Rattle.slate_model.specs.Flush.{flush_changes, flush_changes_by, has_untabled, log_changes, table_changes, flushed_manifest, log_after}
use Rattle.slate_model.specs.Handle.{Handle, kept_handle, next_table, to_log, untabled}
use Rattle.slate_model.specs.Stores.{JoinFault, Stands}

-- what holds of all of a list holds of one of them
contained : {X : Type 0} (P : X → Type 0) (xs : List X) (x : X) → All P xs → Contains xs x → P x
contained P xs x all c = subst P c.2 (all c.0 x c.1)

abbrev IsFree : Objects → Change → Type 0
IsFree o c = is_present c o ≡ false

none-stands : (cs : List Change) (o : Objects) → All (IsFree o) cs → Stands cs o → ⊥
none-stands cs o free s = let no = contained (IsFree o) cs s.0 free s.1 in absurd (cc (no, s.2))

-- batches that are numbered one after another have rising numbers
numbered-over : (n floor : ℕ) (bs : List Batch) → AreNumberedFrom floor bs → n ≤ floor → AllByRecursion (λ (b : Batch). n < b.number) bs
numbered-over n floor [] numbered low = tt
numbered-over n floor (b ∷ bs) numbered low = (let first = numbered.0 in omega (arith, first, low), numbered-over n (floor + 1) bs numbered.1 (omega (arith, low)))

pub numbered-rising : (floor : ℕ) (bs : List Batch) → AreNumberedFrom floor bs → AreRising bs
numbered-rising floor [] numbered = tt
numbered-rising floor (b ∷ bs) numbered = (numbered-over b.number (floor + 1) bs numbered.1 (let first = numbered.0 in omega (arith, first)), numbered-rising (floor + 1) bs numbered.1)

-- the first batches of a line are numbered from its floor
pub numbered-front : (floor : ℕ) (xs ys : List Batch) → AreNumberedFrom floor (xs ++ ys) → AreNumberedFrom floor xs
numbered-front floor [] ys numbered = tt
numbered-front floor (x ∷ xs) ys numbered = (numbered.0, numbered-front (floor + 1) xs ys numbered.1)

module _ (o : Objects) (latest : VersionedManifest) (h : Handle) (sound : IsSound o) (is : latest_manifest o ≡ Some latest) (free : table_at (next_table h) o ≡ None) where
  manifest-free : (m : Manifest) → IsFree o (PutManifest (latest.id + 1) m)
  manifest-free m =
      let top = all-greatest latest.id 0 (map (λ e. e.0) o.manifests) (ids-within o latest sound is) in
      rw (absent (latest.id + 1) 0 o.manifests (omega (arith, top))) refl

  table-free : (bs : List Batch) → IsFree o (PutTable (next_table h) bs)
  table-free bs = rw free refl

  logs-free : (bs : List Batch) → All (IsFree o) (log_changes (λ xs. xs) bs (last_log latest.manifest.replay_after_wal_id o))
  logs-free [] = All-nil (IsFree o)
  logs-free (b ∷ bs) =
      let last = last_log latest.manifest.replay_after_wal_id o in
      let none = absent (last + 1) latest.manifest.replay_after_wal_id o.logs (omega arith) in
      All-cons (IsFree o) (PutLog (last + 1) (b ∷ bs)) [] (rw none refl) (All-nil (IsFree o))

  module _ (k : Handle) (same : next_table k ≡ next_table h) where
    flush-free : (t : FlushType) → All (IsFree o) (flush_changes_by (λ xs. xs) t k o (Some latest))
    flush-free Wal = logs-free (to_log k)
    flush-free MemTable = by (has_untabled k latest.manifest) where
      by : (some : Bool) → All (IsFree o) (cond some (log_changes (λ xs. xs) (to_log k) (last_log latest.manifest.replay_after_wal_id o) ++ table_changes (λ xs. xs) k latest (last_log latest.manifest.replay_after_wal_id o)) [])
      by true =
          let last = last_log latest.manifest.replay_after_wal_id o in
          let table = untabled latest.manifest k in
          let next = flushed_manifest k latest.manifest (log_after (to_log k) last) in
          let put : Change = PutManifest (latest.id + 1) next in
          let first : IsFree o (PutTable (next_table k) table) = subst (λ id. IsFree o (PutTable id table)) (sym same) (table-free table) in
          let tables : All (IsFree o) (PutTable (next_table k) table ∷ put ∷ []) =
          All-cons (IsFree o) (PutTable (next_table k) table) (put ∷ []) first (All-cons (IsFree o) put [] (manifest-free next) (All-nil (IsFree o))) in
          All-append (IsFree o) (log_changes (λ xs. xs) (to_log k) last) (PutTable (next_table k) table ∷ put ∷ []) (logs-free (to_log k)) tables
      by false = All-nil (IsFree o)

  -- a flush of the handle that the code keeps
  pub flush-unset : (t : FlushType) → Stands (flush_changes (λ xs. xs) t (kept_handle h) o) o → ⊥
  flush-unset t =
      none-stands (flush_changes (λ xs. xs) t (kept_handle h) o) o
      (subst (λ found. All (IsFree o) (flush_changes_by (λ xs. xs) t (kept_handle h) o found)) (sym is) (flush-free (kept_handle h) refl t))

  found-latest : (found : VersionedManifest) → latest_manifest o ≡ Some found → found ≡ latest
  found-latest found at = cc

  -- a compaction
  pub joins : (e : SlateError) → JoinFault (next_table h) o e → ⊥
  joins errors.InvalidDBState fault =
      let m = latest.manifest in
      let line = its-line o latest sound is in
      let rising = numbered-rising (number_before (table_batches o m.tables) m.last_l0_seq) (table_batches o m.tables) (numbered-front _ (table_batches o m.tables) (logged o m) line) in
      fault.2 (subst (λ (v : VersionedManifest). AreRising (table_batches o v.manifest.tables)) (sym (found-latest fault.0 fault.1)) rising)
  joins (errors.ObjectStoreError NotFound) fault =
      let same = found-latest fault.0 fault.2 in
      let its = its-objects o latest sound is in
      let some = contained (StoresTable o) latest.manifest.tables fault.1 its.tables.stored (subst (λ (v : VersionedManifest). Contains v.manifest.tables fault.1) same fault.3) in
      let found = some.2 in
      let none = fault.4 in
      absurd (cc (found, none))
  joins errors.TransactionalObjectVersionExists fault = elim fault.2 [
    | inl table ↦ (let no = table-free [] in absurd (cc (no, table)))
    | inr manifest ↦
        let same = found-latest fault.0 fault.1 in
        let present : is_present (PutManifest (latest.id + 1) (fault.0).manifest) o ≡ true = subst (λ (v : VersionedManifest). is_present (PutManifest (v.id + 1) (fault.0).manifest) o ≡ true) same manifest in
        let no = manifest-free (fault.0).manifest in
        absurd (cc (no, present))
  ]
  joins e fault = absurd fault
