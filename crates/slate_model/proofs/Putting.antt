-- A put of a manifest that was planned after one that was the latest: where none is under its id, it is the latest then, or stale.
use Rattle.std.proofs.Common.{◌≡◌, ℕ, ℤ, ◌+◌, ◌<◌, ◌≤◌, ◌∙◌, ◌⊎◌, inl, inr, List, [], ◌∷◌, Bool, true, false, Option, Some, None, Result, Ok, Err, refl, sym, ap, subst, arith}
use Rattle.std.proofs.lemmas.Bool.{cases_lt}
use Rattle.std.specs.Option.{is_some}
use Rattle.slate_store.proofs.Checkpointed.{refresh-keeps, write-keeps}
use Rattle.slate_store.specs.Checkpoints.{Plan, to_refresh, to_write, with_checkpoints}
use Rattle.slate_store.specs.Content.{IsSound}
use Rattle.slate_store.specs.Objects.{Objects, PutManifest, changed, entry_at, is_present, latest_manifest}
use Rattle.slate_store.specs.Refusals.{checkpoint_changes, planned, planned_after}
use Rattle.slate_store.specs.declared.objects.Checkpoint.{Checkpoint}
use Rattle.slate_store.specs.declared.objects.Manifest.{Manifest}
use Rattle.slate_store.specs.declared.objects.VersionedManifest.{VersionedManifest}
use Rattle.slate_model.proofs.Coming.{planned-other}
use Rattle.slate_model.specs.Stood.{IsPlanned, WasLatest}
use Rattle.slate_model.proofs.Maintained.{Maintained, planned-maintains, put-latest, refresh-recheckpoints, write-recheckpoints}
use Rattle.slate_model.proofs.Stale.{latest-entry, stale-latest, stale-maintains}
use Rattle.slate_model.specs.Changes.{after_part}

free-entry : (entry : Option Manifest) → is_some entry ≡ false → entry ≡ None
free-entry None free = refl
free-entry (Some m) free = absurd (cc)

-- it was planned after the latest one
top-maintains : (o : Objects) (sound : IsSound o) (latest next : VersionedManifest) → latest_manifest o ≡ Some latest → IsPlanned latest next → Maintained o (changed (PutManifest next.id next.manifest) o)
top-maintains o sound latest next is (id, lifetime, moment, checkpoint, inl writes) =
    subst (Maintained o) (ap (λ found. after_part 1 (planned_after (to_write (Some id) (Some lifetime) moment) found) o) is ∙ ap (λ p. after_part 1 (planned p) o) writes)
    (planned-maintains (to_write (Some id) (Some lifetime) moment) 1 o (write-recheckpoints (Some id) (Some lifetime) moment) (write-keeps (Some id) (Some lifetime) moment 1 o) sound)
top-maintains o sound latest next is (id, lifetime, moment, checkpoint, inr refreshes) =
    subst (Maintained o) (ap (λ found. after_part 1 (planned_after (to_refresh id lifetime moment) found) o) is ∙ ap (λ p. after_part 1 (planned p) o) refreshes)
    (planned-maintains (to_refresh id lifetime moment) 1 o (refresh-recheckpoints id lifetime moment) (refresh-keeps id lifetime moment 1 o) sound)

module _ (o : Objects) (sound : IsSound o) (last_one next : VersionedManifest) (was : WasLatest o last_one) (planned_it : IsPlanned last_one next) (free : is_present (PutManifest next.id next.manifest) o ≡ false) where
  abbrev o' : Objects
  o' = changed (PutManifest next.id next.manifest) o

  abbrev latest : VersionedManifest
  latest = was.0

  its-id : next.id ≡ last_one.id + 1
  its-id = ap (λ (v : VersionedManifest). v.id) (planned-other last_one next planned_it).1

  unstored : entry_at next.id o.manifests ≡ None
  unstored = free-entry (entry_at next.id o.manifests) free

  pub put-maintains : Maintained o o' × WasLatest o' next × WasLatest o' last_one
  put-maintains = elim (cases_lt latest.id next.id) [
    | inl above ↦
        let low = was.2 in
        let id = its-id in
        let same : last_one ≡ latest = was.3 (omega (arith, low, id, above)) in
        let other = planned-other last_one next planned_it in
        let next_is : next ≡ with_checkpoints other.0 latest = other.1 ∙ ap (with_checkpoints other.0) same in
        let top : latest_manifest o' ≡ Some next =
        ap (λ (v : VersionedManifest). latest_manifest (changed (PutManifest v.id v.manifest) o)) next_is ∙ (put-latest o latest sound was.1 (with_checkpoints other.0 latest).manifest ∙ ap Some (sym next_is)) in
        (top-maintains o sound latest next was.1 (subst (λ v. IsPlanned v next) same planned_it), (next, top, omega arith, λ is. refl), (next, top, omega (arith, id), λ is. absurd (omega (arith, id, is))))
    | inr below ↦ elim (cases_lt next.id latest.id) [
      | inl less ↦ (
        stale-maintains o sound latest was.1 next.id next.manifest less unstored,
        (latest, stale-latest o sound latest was.1 next.id next.manifest less unstored, below, λ is. absurd (omega (arith, less, is))),
        (latest, stale-latest o sound latest was.1 next.id next.manifest less unstored, was.2, was.3),
      )
      | inr over ↦
          let here : next.id ≡ latest.id = omega (arith, below, over) in
          let there = latest-entry o latest sound was.1 in
          absurd (let none = unstored in let some = subst (λ n. entry_at n o.manifests ≡ Some latest.manifest) (sym here) there in cc (none, some))
    ]
  ]

-- none is under its id
pub free-at : (o : Objects) (next : VersionedManifest) → is_present (PutManifest next.id next.manifest) o ≡ false → entry_at next.id o.manifests ≡ None
free-at o next free = free-entry (entry_at next.id o.manifests) free

-- a manifest that was the latest one still was, after another is put that was planned after one that was
pub was-put : (o : Objects) (sound : IsSound o) (last_one next : VersionedManifest) (was : WasLatest o last_one) (planned : IsPlanned last_one next) (free : is_present (PutManifest next.id next.manifest) o ≡ false) (last : VersionedManifest) → WasLatest o last → WasLatest (changed (PutManifest next.id next.manifest) o) last
was-put o sound last_one next was planned free last (latest, is, low, same) =
    let put = (put-maintains o sound last_one next was planned free).1 in
    elim (cases_lt latest.id next.id) [
      | inl above ↦ let up = put.2 in (put.0, put.1, omega (arith, low, above, up), λ ids. absurd (omega (arith, low, above, up, ids)))
      | inr below ↦ elim (cases_lt next.id latest.id) [
        | inl less ↦ (latest, stale-latest o sound latest is next.id next.manifest less unstored, low, same)
        | inr over ↦
            let here : next.id ≡ latest.id = omega (arith, below, over) in
            let there = latest-entry o latest sound is in
            absurd (let none = unstored in let some = subst (λ n. entry_at n o.manifests ≡ Some latest.manifest) (sym here) there in cc (none, some))
      ]
    ]
  where
    unstored : entry_at next.id o.manifests ≡ None
    unstored = free-at o next free
