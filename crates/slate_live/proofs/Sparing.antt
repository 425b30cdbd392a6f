-- What a step of a begun poll leaves of the checkpoints and the leases of others.
use Rattle.std.proofs.Common.{◌≡◌, ◌≢◌, ◌⊎◌, ◌+◌, ◌<◌, ◌≤◌, ◌∙◌, inl, inr, ℕ, Bool, true, false, List, Option, Some, None, refl, sym, subst, ap, arith}
use Rattle.std.proofs.lemmas.Cmp.{nat_cmp_total}
use Rattle.slate_store.proofs.Entries.{apart, lookup-insert_other}
use Rattle.slate_store.proofs.Latest.{its-objects}
use Rattle.slate_store.specs.Checkpoints.{checkpoint_id, found, has_id}
use Rattle.slate_store.specs.Content.{IsPinned, IsSound}
use Rattle.slate_store.specs.Objects.{Objects, PutManifest, changed, entry_at, is_present, latest_manifest}
use Rattle.slate_store.specs.declared.objects.Checkpoint.{Checkpoint}
use Rattle.slate_store.specs.declared.objects.VersionedManifest.{VersionedManifest}
use Rattle.slate_model.specs.Begun.{AsksLast, Begun, Ended, LooksAt, Puts, ReadsAgain, ReadsLatest, ReadsLog, Stage, Turn, taken}
use Rattle.slate_model.specs.Follower.{Follower, kept_follower}
use Rattle.slate_model.specs.Stood.{WasLatest}
use Rattle.slate_model.specs.Write.{last_number}
use Rattle.slate_model.specs.declared.leases.Lease.{Lease}
use Rattle.slate_model.proofs.Coming.{planned-other}
use Rattle.slate_model.proofs.Putting.{free-at}
use Rattle.slate_follow.specs.Stepping.{LeavesPut, Meets}
use Rattle.slate_live.specs.Standing.{IsStaged, PlansFor, PollStands}
use Rattle.slate_live.specs.World.{World}
use Rattle.slate_live.proofs.Beside.{put-tops}
use Rattle.slate_model.proofs.Leased.{leased-is}
use Rattle.slate_live.proofs.Distinct.{renewed-same, written-new}
use Rattle.slate_live.proofs.Finding.{find-all}
use Rattle.slate_live.proofs.Leases.{refreshed-stays, written-stays}
use Rattle.slate_live.proofs.Planning.{planned-for}
use Rattle.slate_live.proofs.Turns.{OfTurn, meets-turn}
use Rattle.slate_store.specs.Checkpoints.{to_refresh, to_write}

-- a checkpoint is in the latest manifest of other objects, and keeps the manifest that it kept
abbrev pub IsSpared : (id : List ℕ) → Checkpoint → Objects → Objects → Type 0
IsSpared id c o o' =
    (latest : VersionedManifest) × (latest_manifest o' ≡ Some latest) × (found id latest ≡ Some c) × (entry_at c.manifest_id o'.manifests ≡ entry_at c.manifest_id o.manifests)

-- a lease of the checkpoint of a manifest that wasn't stored
abbrev pub IsOfPut : Objects → Objects → Lease → Type 0
IsOfPut o o' lease =
    (id : ℕ) × (lease.id ≡ checkpoint_id id) × (id ≤ last_number) × (entry_at id o.manifests ≡ None) × (latest : VersionedManifest) × (latest_manifest o' ≡ Some latest) × (id ≤ latest.id)

-- ---- a put that is planned for a lease
module _ (o : Objects) (sound : IsSound o) (latest : VersionedManifest) (is : latest_manifest o ≡ Some latest) (lease : Lease) (replaces : Bool) (last next : VersionedManifest) (given : Lease) (plans : PlansFor lease replaces last next given) (was : WasLatest o last)
    (free : is_present (PutManifest next.id next.manifest) o ≡ false) where
  abbrev o1 : Objects
  o1 = changed (PutManifest next.id next.manifest) o

  tops : ((last ≡ latest) × (latest.id < next.id) × (latest_manifest o1 ≡ Some next)) ⊎ ((next.id < latest.id) × (latest_manifest o1 ≡ Some latest))
  tops = put-tops o sound last next was (planned-for lease replaces last next given plans) free latest is

  -- leaves each other checkpoint
  put-spares : (id : List ℕ) (c : Checkpoint) → found id latest ≡ Some c → lease.id ≢ id → IsSpared id c o o1
  put-spares id c there other = elim tops [
    | inl (same, above, top) ↦ (next, top, planned-stays replaces plans (subst (λ (v : VersionedManifest). found id v ≡ Some c) (sym same) there), entry)
    | inr (less, stale) ↦ (latest, stale, there, entry)
  ]
    where
      planned-stays : (replaces : Bool) → PlansFor lease replaces last next given → found id last ≡ Some c → found id next ≡ Some c
      planned-stays true (moment, gives) at =
          let p = leased-is lease.lifetime (to_write (Some lease.id) (Some lease.lifetime) moment last) (Some next) given gives in
          written-stays id lease.id c last at other (Some lease.lifetime) moment next p.0 p.1
      planned-stays false (moment, gives) at =
          let p = leased-is lease.lifetime (to_refresh lease.id lease.lifetime moment last) (Some next) given gives in
          refreshed-stays id lease.id c last at other lease.lifetime moment next p.0 p.1

      pin : IsPinned o latest c
      pin = find-all (IsPinned o latest) (has_id id) c latest.manifest.checkpoints (its-objects o latest sound is).pinned there

      elsewhere : c.manifest_id ≢ next.id
      elsewhere same = (let kept = pin.kept in let none = subst (λ n. entry_at n o.manifests ≡ None) (sym same) (free-at o next free) in absurd (cc (kept, none)))

      entry : entry_at c.manifest_id o1.manifests ≡ entry_at c.manifest_id o.manifests
      entry = lookup-insert_other nat_cmp_total c.manifest_id next.id next.manifest o.manifests (apart c.manifest_id next.id elsewhere)

  -- gives a lease of the same checkpoint, or of its own
  put-gives : (given.id ≡ lease.id) ⊎ IsOfPut o o1 given
  put-gives = by replaces plans
    where
      ids : next.id ≡ last.id + 1
      ids = ap (λ (v : VersionedManifest). v.id) (planned-other last next (planned-for lease replaces last next given plans)).1

      latest-up : (v : VersionedManifest) × (latest_manifest o1 ≡ Some v) × (next.id ≤ v.id)
      latest-up = elim tops [
        | inl (same, above, top) ↦ (next, top, omega arith)
        | inr (less, stale) ↦ (latest, stale, omega (arith, less))
      ]

      by : (replaces : Bool) → PlansFor lease replaces last next given → (given.id ≡ lease.id) ⊎ IsOfPut o o1 given
      by true (moment, gives) =
          let new = written-new (Some lease.id) lease.lifetime moment last (Some next) given gives in
          let low = new.low in
          let e = ids in
          inr (next.id, new.id ∙ ap checkpoint_id (sym ids), omega (arith, low, e), free-at o next free, latest-up.0, latest-up.1, latest-up.2)
      by false (moment, gives) = inl (renewed-same lease moment last (Some next) given gives)

-- ---- a call of a begun poll that stands
module _ (o o' : Objects) (sound : IsSound o) (w : World) (reader : Follower) (begun : Begun) (p : PollStands o w reader begun) (latest : VersionedManifest) (is : latest_manifest o ≡ Some latest) where
  unchanged : (id : List ℕ) (c : Checkpoint) → found id latest ≡ Some c → o' ≡ o → IsSpared id c o o'
  unchanged id c there same = (latest, ap latest_manifest same ∙ is, there, ap (λ (x : Objects). entry_at c.manifest_id x.manifests) same)

  -- leaves each checkpoint but that of its lease
  pub step-spares : (id : List ℕ) (c : Checkpoint) → found id latest ≡ Some c → ((lease : Lease) → begun.lease ≡ Some lease → lease.id ≢ id) → LeavesPut begun.stage o o' → IsSpared id c o o'
  step-spares id c there others left = by begun.stage p.staged left
    where
      by : (stage : Stage) → IsStaged reader begun stage → LeavesPut stage o o' → IsSpared id c o o'
      by (Puts next given replaces) staged (inl same) = unchanged id c there same
      by (Puts next given replaces) staged (inr put) =
          subst (IsSpared id c o) (sym put.1) (put-spares o sound latest is staged.2 replaces staged.0 next given staged.4 (p.read staged.0 staged.1).0 put.0 id c there (others staged.2 staged.3))
      by ReadsLatest staged same = unchanged id c there same
      by AsksLast staged same = unchanged id c there same
      by (LooksAt at last) staged same = unchanged id c there same
      by (ReadsLog last) staged same = unchanged id c there same
      by ReadsAgain staged same = unchanged id c there same
      by Ended staged same = unchanged id c there same

  -- a lease after it is of the checkpoint of one before, or of the manifest that it put
  abbrev pub ComesFrom : Option Lease → Type 0
  ComesFrom after = (lease : Lease) → after ≡ Some lease → ((old : Lease) × ((reader.lease ≡ Some old) ⊎ (begun.lease ≡ Some old)) × (old.id ≡ lease.id)) ⊎ IsOfPut o o' lease

  abbrev OfLease : Begun → Type 0
  OfLease b = ComesFrom b.lease

  pub step-leases : (turn : Turn) → Meets (kept_follower reader) begun o turn o' → OfTurn OfLease turn
  step-leases turn meets =
      meets-turn (kept_follower reader) OfLease
      (record { staged = λ b stage has. has; asked = λ b has. has; marked = λ b mark has. has; fresh = λ b fresh has. has; remembers = λ b history has. has; emptied_is = λ b mark has. has })
      begun.stage (taken begun) o o' turn own (λ lease has. inl (lease, inl has, refl)) (λ l at. (own, own))
      (λ next given replaces at free put. let new = given-from next given replaces at free put in (new, new)) meets
    where
      own : ComesFrom begun.lease
      own lease has = inl (lease, inr has, refl)

      given-from : (next : VersionedManifest) (given : Lease) (replaces : Bool) → begun.stage ≡ Puts next given replaces → is_present (PutManifest next.id next.manifest) o ≡ false → o' ≡ changed (PutManifest next.id next.manifest) o → ComesFrom (Some given)
      given-from next given replaces at free put lease has =
          let same : given ≡ lease = (let e = has in cc) in
          let staged : IsStaged reader begun (Puts next given replaces) = subst (IsStaged reader begun) at p.staged in
          subst (λ (l : Lease). ((old : Lease) × ((reader.lease ≡ Some old) ⊎ (begun.lease ≡ Some old)) × (old.id ≡ l.id)) ⊎ IsOfPut o o' l) same
          (elim (put-gives o sound latest is staged.2 replaces staged.0 next given staged.4 (p.read staged.0 staged.1).0 free) [
            | inl kept ↦ inl (staged.2, inr staged.3, sym kept)
            | inr fresh ↦ inr (subst (λ x. IsOfPut o x given) (sym put) fresh)
          ])
