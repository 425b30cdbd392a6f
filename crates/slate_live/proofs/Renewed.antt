-- A reader that renews the lease that it took stands as it did, over objects with one manifest more.
use Rattle.std.proofs.Common.{◌≡◌, ◌⊎◌, ◌∙◌, inl, inr, true, Some, sym, subst, ap, arith}
use Rattle.std.specs.Option.{is_some}
use Rattle.slate_types.specs.Line.{Line}
use Rattle.slate_store.specs.Objects.{Objects, PutManifest, changed, latest_manifest}
use Rattle.slate_store.specs.declared.objects.VersionedManifest.{VersionedManifest}
use Rattle.slate_model.specs.Catalogue.{catalogue_of}
use Rattle.slate_model.specs.Follower.{Follower}
use Rattle.slate_model.specs.Handle.{CloseResult}
use Rattle.slate_model.specs.Object.{Follower as AFollower}
use Rattle.slate_model.specs.Tables.{AreStored}
use Rattle.slate_model.specs.Valid.{IsHeld}
use Rattle.slate_model.proofs.Logging.{stay-follow}
use Rattle.slate_model.proofs.Maintained.{Maintained}
use Rattle.slate_live.specs.Represents.{IsValidFollower}
use Rattle.slate_live.proofs.Leading.{still-held}

-- what maintains the objects does so with a manifest more
put-maintained : (o o1 : Objects) (view put : VersionedManifest) → Maintained o o1 → Maintained o1 (changed (PutManifest put.id put.manifest) o1) → Maintained o (changed (PutManifest put.id put.manifest) o1)
put-maintained o o1 view put a b = record {
  sound = b.sound;
  content = b.content ∙ a.content;
  latest = λ latest is. let x = a.latest latest is in let y = b.latest x.0 x.1 in (y.0, y.1, y.2 ∙ x.2, y.3 ∙ x.3, y.4 ∙ x.4);
  logs = λ latest is. let s = a.logs latest is in record { same = s.same; left = s.left; low = s.low };
  lasts = a.lasts;
  unput = a.unput;
  logs_are = a.logs_are;
  goes = a.goes;
}

module _ (o o1 o' : Objects) (view : VersionedManifest) (is : latest_manifest o1 ≡ Some view) (put : (o' ≡ o1) ⊎ ((put : VersionedManifest) × (o' ≡ changed (PutManifest put.id put.manifest) o1))) (m : Maintained o1 o') where
  pub maintained-then : Maintained o o1 → Maintained o o'
  maintained-then a = elim put [
    | inl same ↦ subst (Maintained o) (sym same) a
    | inr one ↦ subst (Maintained o) (sym one.1) (put-maintained o o1 view one.0 a (subst (Maintained o1) one.1 m))
  ]

  pub stored-then : (f : Follower) → AreStored o1 f.view.manifest.tables → AreStored o' f.view.manifest.tables
  stored-then f there = elim put [
    | inl same ↦ subst (λ s. AreStored s f.view.manifest.tables) (sym same) there
    | inr one ↦ subst (λ s. AreStored s f.view.manifest.tables) (sym one.1) there
  ]

  module _ (f : Follower) (result : CloseResult) where
    abbrev closed_so : Follower
    closed_so = record f { result = result }

    pub valid-then : (stored : Line) → is_some f.lease ≡ true → IsValidFollower stored (catalogue_of o1) f → IsValidFollower stored (catalogue_of o') closed_so
    valid-then stored leased v = (
      v.0,
      λ few free found at.
          let low = v.1 few free view is in
          let number = its-number found at in
          omega (arith, low, number),
      λ managed live. leased,
      λ free found at.
          let low = v.3 free view is in
          let number = its-number found at in
          omega (arith, low, number),
    ) where
      its-number : (found : VersionedManifest) → latest_manifest o' ≡ Some found → found.manifest.last_l0_seq ≡ view.manifest.last_l0_seq
      its-number found at =
          let next = m.latest view is in
          let same : next.0 ≡ found = (let b = next.1 in cc) in
          ap (λ (v : VersionedManifest). v.manifest.last_l0_seq) (sym same) ∙ next.3

    pub held-then : IsHeld o1 (AFollower f) → IsHeld o' (AFollower closed_so)
    held-then held =
        let next = m.latest view is in
        let here = still-held o1 o' view next.0 is next.1 (stay-follow o1 o' view.manifest.replay_after_wal_id next.0.manifest.replay_after_wal_id (sym next.4) (m.logs view is)) (AFollower f) (λ k d less. m.lasts _) held in
        (here.0, λ free. let seen = here.1 free in record { mark = seen.mark; logs = seen.logs })
