-- What a checkpoint and a sweep leave of a world: the store goes on, and no object changes.
use Rattle.std.proofs.Common.{◌≡◌, ℕ, inl, Some, refl, sym, ap, ◌∙◌, arith}
use Rattle.std.specs.List.{slice_get}
use Rattle.slate_store.specs.Objects.{last_log, Objects, latest_manifest}
use Rattle.slate_store.specs.Content.{IsSound, content}
use Rattle.slate_store.specs.declared.objects.VersionedManifest.{VersionedManifest}
use Rattle.slate_model.specs.Catalogue.{catalogue_of}
use Rattle.slate_model.specs.Handle.{Handle}
use Rattle.slate_model.specs.Object.{Follower as AFollower, Object, tables_of}
use Rattle.slate_model.proofs.Maintained.{Maintained}
use Rattle.slate_model.proofs.Logging.{OfLine, PastLine, none-put_logs, stay-follow}
use Rattle.slate_model.proofs.Moving.{Follows, still-valid}
use Rattle.slate_model.proofs.Prefixes.{prefix-same}
use Rattle.slate_live.specs.Represents.{IsHeld, Holds, IsHandleAt, IsValid, IsValidHandle}
use Rattle.slate_live.specs.World.{World}
use Rattle.slate_live.proofs.Following.{follower-follows}
use Rattle.slate_live.proofs.Leading.{Leads, followers-over, past-follows, past-over, still-held, valid-over}

module _ (w : World) (o : Objects) (is_sound : IsSound o) (holds : Holds o w) (valid : IsValid w) (reads : (n : ℕ) (x : Object) → slice_get w.objects n ≡ Some x → IsHeld o x)
    (o' : Objects) (m : Maintained o o') where
  content-is : content o' ≡ w.stored
  content-is = m.content ∙ holds.stored

  pub follows : (latest : VersionedManifest) (is : latest_manifest o ≡ Some latest) → Follows w.stored w.stored o o' latest (m.latest latest is).0
  follows latest is =
      let next = m.latest latest is in
      let epoch = next.2 in
      let number = next.3 in
      record {
        sound = m.sound;
        content = content-is;
        grows = prefix-same w.stored;
        latest_is = next.1;
        epochs = omega (arith, epoch);
        tabled = omega (arith, number);
        leaps = inl number;
        marked = λ same. next.4;
        logs = stay-follow o o' latest.manifest.replay_after_wal_id next.0.manifest.replay_after_wal_id (sym next.4) (m.logs latest is);
        logs_are = none-put_logs o o' m.logs_are (OfLine w.stored);
        news = none-put_logs o o' m.logs_are (PastLine w.stored);
        goes = m.goes (last_log latest.manifest.replay_after_wal_id o);
      }

  valid-after : (n : ℕ) (a : Handle) → IsHandleAt w.objects n a → IsValidHandle w.stored (catalogue_of o') a
  valid-after n a at =
      let v = valid-over w o is_sound holds valid reads n a at in
      let latest = v.behind.0 in
      let is = v.behind.1 in
      let next = m.latest latest is in
      still-valid w.stored w.stored o o' latest next.0 is (follows latest is) a (λ index high. m.unput (record { epoch = a.epoch; index = index }))
      (λ found live found_is low.
      let same : next.0 ≡ found = (let at = next.1 in cc) in
      let epoch = next.2 in
      let e = ap (λ (x : VersionedManifest). x.manifest.writer_epoch) same in
      let before = v.current latest live is (omega (arith, epoch, e, low)) in
      (before.0, sym (ap (λ (x : VersionedManifest). x.manifest.last_l0_seq) same) ∙ (next.3 ∙ before.1))) v

  pub maintained-leads : Leads w.stored o' w.objects
  maintained-leads = record {
    sound = m.sound;
    content = content-is;
    handles = valid-after;
    followers = λ n g at.
        let p = past-over w o is_sound holds valid reads n (AFollower g) at in
        follower-follows w.stored w.stored o o' p.0 (m.latest p.0 p.1).0 p.1 (follows p.0 p.1) g (followers-over w o is_sound holds valid reads n g at);
    named = valid.named;
    past = λ n x at.
        let p = past-over w o is_sound holds valid reads n x at in
        let next = m.latest p.0 p.1 in
        past-follows o o' p.0 next.0 p.1 next.1 (follows p.0 p.1).epochs (tables_of x) p;
    distinct = valid.distinct;
    reads = λ n x at.
        let p = past-over w o is_sound holds valid reads n x at in
        let next = m.latest p.0 p.1 in
        still-held o o' p.0 next.0 p.1 next.1 (follows p.0 p.1).logs x (λ k d less. m.lasts _) (reads n x at);
  }

  -- the world in which the catalogue alone is another
  abbrev pub after : World
  after = record w { catalogue = catalogue_of o' }

  pub after-holds : Holds o' after
  after-holds = record { stored = content-is; catalogue = refl }

  pub after-valid : IsValid after
  after-valid = let l = maintained-leads in record {
    line = valid.line;
    followers = l.followers;
    handles = l.handles;
    snapshots = valid.snapshots;
    named = l.named;
    past = l.past;
    distinct = l.distinct;
  }
