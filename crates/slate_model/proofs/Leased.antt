-- A reader that keeps a checkpoint: what its plan leaves as the latest manifest, and the whole follower of which the code keeps
-- a part.
use Rattle.std.proofs.Common.{◌≡◌, ◌<◌, ℕ, ℤ, Bool, true, false, cond, List, [], ◌∷◌, ◌++◌, ◌+◌, find, length, map, Option, Some, None, IsSome, Ok, Err, refl, sym, subst, ap, ◌∙◌}
use Rattle.std.proofs.lemmas.Bool.{and_parts, eqb-true, ltb-true, not-false, or_parts}
use Rattle.std.proofs.lemmas.Cmp.{nat_cmp_total, tied_itself}
use Rattle.std.proofs.lemmas.Slice.Eq.{bytes_eq-Decides, slice_eq-Decides}
use Rattle.std.specs.Bool.{Decides, MatchBool}
use Rattle.std.specs.Cmp.Lexicographic.{pointwise}
use Rattle.std.specs.Option.{unwrap_or}
use Rattle.std.specs.Ordering.{eq_by_cmp, is_eq}
use Rattle.std.specs.Prelude.{nat_lt}
use Rattle.slate_store.proofs.Carried.{put-kept}
use Rattle.slate_store.proofs.Entries.{lookup-insert_same, same_table, table_total, tied}
use Rattle.slate_store.specs.Checkpoints.{Plan, found, has_id, new_checkpoint, puts_next, to_write, with_checkpoints, without_replaced}
use Rattle.slate_store.specs.Content.{IdsRise}
use Rattle.slate_store.proofs.Parts.{part-none}
use Rattle.slate_store.specs.Objects.{ObjectsOf, PutManifest, changed, entry_at, latest_manifest, table_cmp}
use Rattle.slate_store.specs.Refusals.{checkpoint_changes, planned, planned_after}
use Rattle.slate_store.specs.declared.objects.Checkpoint.{Checkpoint}
use Rattle.slate_store.specs.declared.objects.Manifest.{Manifest}
use Rattle.slate_store.specs.declared.objects.TableId.{TableId}
use Rattle.slate_store.specs.declared.objects.VersionedManifest.{VersionedManifest}
use Rattle.slate_store.specs.declared.refusals.StoreRefusal.TheVariants as refusals
use Rattle.slate_model.specs.declared.leases.Lease.{Lease}
use Rattle.slate_model.specs.Changes.{after_part}
use Rattle.slate_model.specs.Lease.{differs, is_due, is_due_at_once, lease_of, leased, replaces}
use Rattle.slate_model.specs.Write.{last_number}
use Rattle.slate_model.proofs.Maintained.{Recheckpoints}

-- ---- a plan that puts a manifest
-- the checkpoint of a plan that gives a lease
pub leased-is : (lifetime : ℕ) (p : Plan Checkpoint) (next : Option VersionedManifest) (given : Lease) → leased lifetime p ≡ Ok (next, given) → (checkpoint : Checkpoint) × (p ≡ Ok (next, checkpoint)) × (lease_of lifetime checkpoint ≡ given)
leased-is lifetime (Ok (put, checkpoint)) next given gives =
    let both : (put, lease_of lifetime checkpoint) ≡ (next, given) = cc in
    (checkpoint, ap (λ n. Ok (n, checkpoint)) (ap (λ (p : Option VersionedManifest × Lease). p.0) both), ap (λ (p : Option VersionedManifest × Lease). p.1) both)
leased-is lifetime (Err refusal) next given gives = absurd (cc)

-- and why it gives none
pub leased-refused : (lifetime : ℕ) (p : Plan Checkpoint) → leased lifetime p ≡ Err refusals.InvalidDBState → p ≡ Err refusals.InvalidDBState
leased-refused lifetime (Ok given) is = absurd (cc)
leased-refused lifetime (Err refusal) is = ap Err (let same : refusal ≡ refusals.InvalidDBState = cc in same)

-- a manifest is put only where its id is left
pub put-low : {A : Type 0} (latest put : VersionedManifest) (x : A) (next : Option VersionedManifest) (answer : A) → puts_next latest put x ≡ Ok (next, answer) → (latest.id < last_number) × (next ≡ Some put) × (answer ≡ x)
put-low {A} latest put x next answer gives = by (nat_lt latest.id last_number) refl gives where
  by : (b : Bool) → nat_lt latest.id last_number ≡ b → cond {A = Plan A} b (Ok (Some put, x)) (Err refusals.InvalidDBState) ≡ Ok (next, answer) → (latest.id < last_number) × (next ≡ Some put) × (answer ≡ x)
  by true low gives =
      let both : ◌≡◌ {A = Option VersionedManifest × A} (Some put, x) (next, answer) = cc in
      (ltb-true latest.id last_number low, sym (ap (λ (p : Option VersionedManifest × A). p.0) both), sym (ap (λ (p : Option VersionedManifest × A). p.1) both))
  by false low gives = absurd (cc)

-- what takes a new checkpoint
module _ (replaced : Option (List ℕ)) (lifetime : ℕ) (moment : ℤ) (latest : VersionedManifest) where
  abbrev pub new_one : Checkpoint
  new_one = new_checkpoint latest (Some lifetime) moment

  abbrev pub with_new : VersionedManifest
  with_new = with_checkpoints (without_replaced replaced latest.manifest.checkpoints ++ new_one ∷ []) latest

  module _ (next : Option VersionedManifest) (given : Lease) (gives : leased lifetime (to_write replaced (Some lifetime) moment latest) ≡ Ok (next, given)) where
    pub written-is : (latest.id < last_number) × (next ≡ Some with_new) × (given ≡ lease_of lifetime new_one)
    written-is =
        let p = leased-is lifetime (to_write replaced (Some lifetime) moment latest) next given gives in
        let q = put-low latest with_new new_one next p.0 p.1 in
        (q.0, q.1, sym p.2 ∙ ap (lease_of lifetime) q.2)

    -- its lease is due at once, or not, by its lifetime
    pub written-due : is_due moment given ≡ is_due_at_once lifetime moment
    written-due = ap (is_due moment) written-is.2

  last-found : (test : Checkpoint → Bool) (c : Checkpoint) (cs : List Checkpoint) → test c ≡ true → IsSome (find test (cs ++ c ∷ []))
  last-found test c [] passes = rw passes refl
  last-found test c (x ∷ cs) passes = by (test x) (last-found test c cs passes) where
    by : (b : Bool) → IsSome (find test (cs ++ c ∷ [])) → IsSome (cond b (Some x) (find test (cs ++ c ∷ [])))
    by true rest = refl
    by false rest = rest

  -- and its checkpoint is there
  pub written-found : (next : VersionedManifest) (given : Lease) → leased lifetime (to_write replaced (Some lifetime) moment latest) ≡ Ok (Some next, given) → IsSome (found given.id next)
  written-found next given gives =
      let w = written-is (Some next) given gives in
      let next_is : next ≡ with_new = (let same = w.1 in cc) in
      let there = last-found (has_id new_one.id) new_one (without_replaced replaced latest.manifest.checkpoints) ((bytes_eq-Decides new_one.id new_one.id).1 refl) in
      subst (λ v. IsSome (found given.id v)) (sym next_is) (subst (λ (l : Lease). IsSome (found l.id with_new)) (sym w.2) there)

-- ---- the manifest that a plan leaves
module _ {A : Type 0} (latest : VersionedManifest) (next : Option VersionedManifest) (given : A) where
  -- it has what the latest one has, but the checkpoints
  its-checkpoints : Recheckpoints {A = A} latest (Ok (next, given)) → (checkpoints : List Checkpoint) × ((unwrap_or next latest).manifest ≡ record latest.manifest { checkpoints = checkpoints })
  its-checkpoints = by next where
    by : (n : Option VersionedManifest) → Recheckpoints {A = A} latest (Ok (n, given)) → (checkpoints : List Checkpoint) × ((unwrap_or n latest).manifest ≡ record latest.manifest { checkpoints = checkpoints })
    by (Some n) (checkpoints, same) = (checkpoints, ap (λ (m : VersionedManifest). m.manifest) same)
    by None puts = (latest.manifest.checkpoints, refl)

  pub its-manifest : (p : Plan A) → p ≡ Ok (next, given) → Recheckpoints latest p → (checkpoints : List Checkpoint) × ((unwrap_or next latest).manifest ≡ record latest.manifest { checkpoints = checkpoints })
  its-manifest p gives puts = its-checkpoints (subst (λ p. Recheckpoints latest p) gives puts)

-- one that a plan puts is the latest one then, and stored under its id
module _ {L A : Type 0} (plan : VersionedManifest → Plan A) (o : ObjectsOf L) (latest put : VersionedManifest) (answer : A) (rising : IdsRise (map (λ e. e.0) o.manifests)) (is : latest_manifest o ≡ Some latest) (gives : plan latest ≡ Ok (Some put, answer)) (puts : Recheckpoints latest (plan latest)) where
  pub changes-are : checkpoint_changes {L = L} plan o ≡ PutManifest put.id put.manifest ∷ []
  changes-are = ap (planned_after plan) is ∙ ap planned gives

  pub put-is_next : (checkpoints : List Checkpoint) × (put ≡ with_checkpoints checkpoints latest)
  put-is_next = subst (λ p. Recheckpoints latest p) gives puts

  after-put : (P : ObjectsOf L → Type 0) (made : ℕ) → made ≡ 1 → P (changed (PutManifest put.id put.manifest) o) → P (after_part made (checkpoint_changes plan o) o)
  after-put P made one there = subst (λ cs. P (after_part made cs o)) (sym changes-are) (subst (λ m. P (after_part m (PutManifest put.id put.manifest ∷ []) o)) (sym one) there)

  pub put-latest_is : (made : ℕ) → made ≡ 1 → latest_manifest (after_part made (checkpoint_changes plan o) o) ≡ Some put
  put-latest_is made one = after-put (λ x. latest_manifest x ≡ Some put) made one
      (subst (λ (n : VersionedManifest). latest_manifest (changed (PutManifest n.id n.manifest) o) ≡ Some n) (sym put-is_next.1) (put-kept {L = L} (λ m. Unit {0}) o latest rising is (with_checkpoints put-is_next.0 latest).manifest))

  pub put-entry : (made : ℕ) → made ≡ 1 → entry_at put.id (after_part made (checkpoint_changes plan o) o).manifests ≡ Some put.manifest
  put-entry made one = after-put (λ x. entry_at put.id x.manifests ≡ Some put.manifest) made one (lookup-insert_same nat_cmp_total put.id put.manifest o.manifests)

  pub put-id : put.id ≡ latest.id + 1
  put-id = ap (λ (n : VersionedManifest). n.id) put-is_next.1

  pub puts-one : length (checkpoint_changes {L = L} plan o) ≡ 1
  puts-one = ap length changes-are

-- so where all of a plan's changes are made, the manifest that it leaves is the latest one
pub planned-latest : {L A : Type 0} (plan : VersionedManifest → Plan A) (made : ℕ) (o : ObjectsOf L) (latest : VersionedManifest) (next : Option VersionedManifest) (given : A) → IdsRise (map (λ e. e.0) o.manifests) → latest_manifest o ≡ Some latest → plan latest ≡ Ok (next, given) → Recheckpoints latest (plan latest) →
    made ≡ length (checkpoint_changes {L = L} plan o) → latest_manifest (after_part made (checkpoint_changes plan o) o) ≡ Some (unwrap_or next latest)
planned-latest {L} {A} plan made o latest next given rising is gives puts part = by next gives where
  by : (n : Option VersionedManifest) → plan latest ≡ Ok (n, given) → latest_manifest (after_part made (checkpoint_changes plan o) o) ≡ Some (unwrap_or n latest)
  by (Some put) gives = put-latest_is plan o latest put given rising is gives puts made (part ∙ puts-one plan o latest put given rising is gives puts)
  by None gives = subst (λ cs. latest_manifest (after_part made cs o) ≡ Some latest) (sym (ap (planned_after plan) is ∙ ap planned gives)) (ap latest_manifest (part-none made o) ∙ is)

-- ---- the manifest that the reader goes by
table-Decides : (a b : TableId) → Decides (eq_by_cmp table_cmp a b) (a ≡ b)
table-Decides a b = (λ same. same_table a b (tied (table_cmp a b) same), λ same. subst (λ q. is_eq (table_cmp a q) ≡ true) same (ap is_eq (tied_itself table_total a)))

-- one that doesn't differ has the same tables and the same last number in them
abbrev pub AreAlike : (view latest : VersionedManifest) → Type 0
AreAlike view latest = (view.manifest.tables ≡ latest.manifest.tables) × (view.manifest.last_l0_seq ≡ latest.manifest.last_l0_seq)

alike : (view latest : VersionedManifest) → differs view latest ≡ false → AreAlike view latest
alike view latest same =
    let old = view.manifest in
    let new = latest.manifest in
    let all = and_parts _ _ (not-false _ same) in
    let both = and_parts _ _ all.0 in (
      (slice_eq-Decides table-Decides old.tables new.tables (pointwise (eq_by_cmp table_cmp) old.tables new.tables) refl).0 both.0,
      eqb-true old.last_l0_seq new.last_l0_seq both.1,
    )

-- the view after a poll is alike the manifest that its plan leaves
pub view-alike : (old new : VersionedManifest) (lease : Lease) (moment : ℤ) (latest : VersionedManifest) (next : Option VersionedManifest) → (checkpoints : List Checkpoint) × ((unwrap_or next latest).manifest ≡ record latest.manifest { checkpoints = checkpoints }) →
    MatchBool (replaces old lease moment latest) (next ≡ Some new) (new ≡ old) → AreAlike new (unwrap_or next latest)
view-alike old new lease moment latest next (checkpoints, its) view = by (replaces old lease moment latest) refl view where
  by : (b : Bool) → replaces old lease moment latest ≡ b → MatchBool b (next ≡ Some new) (new ≡ old) → AreAlike new (unwrap_or next latest)
  by true is put = subst (λ n. AreAlike new (unwrap_or n latest)) (sym put) (refl, refl)
  by false is kept =
      let same = alike old latest (or_parts (differs old latest) _ is).0 in (
        ap (λ (m : VersionedManifest). m.manifest.tables) kept ∙ (same.0 ∙ sym (ap (λ (m : Manifest). m.tables) its)),
        ap (λ (m : VersionedManifest). m.manifest.last_l0_seq) kept ∙ (same.1 ∙ sym (ap (λ (m : Manifest). m.last_l0_seq) its)),
      )
