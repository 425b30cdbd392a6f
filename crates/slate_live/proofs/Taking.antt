-- What opening a reader that keeps a checkpoint of its own does to an honest store it does to what the world knows of that.
use Rattle.slate_model.specs.Segments.{Extractor}
use Rattle.std.proofs.Common.{◌≡◌, ◌∙◌, ◌||◌, ℕ, ℤ, List, Bool, true, false, not, cond, Option, Some, None, Result, Ok, Err, IfOk, refl, sym, subst, ap}
use Rattle.std.specs.Option.{IfSome, is_some}
use Rattle.slate_types.specs.Line.{Line}
use Rattle.slate_types.specs.declared.batches.Batch.{Batch}
use Rattle.slate_store.specs.Checkpoints.{Plan}
use Rattle.slate_store.specs.Content.{IsSound, content}
use Rattle.slate_store.specs.Objects.{Objects, latest_manifest}
use Rattle.slate_store.specs.declared.objects.Manifest.{Manifest}
use Rattle.slate_store.specs.declared.objects.VersionedManifest.{VersionedManifest}
use Rattle.slate_store.specs.declared.refusals.StoreRefusal.TheVariants as refusals
use Rattle.slate_errors.specs.declared.errors.SlateError.{SlateError}
use Rattle.slate_model.specs.Catalogue.{Span, catalogue_of}
use Rattle.slate_model.specs.declared.answers.PollAnswer.{PollAnswer}
use Rattle.slate_model.specs.declared.leases.Lease.{Lease}
use Rattle.slate_model.specs.Follow.{AreFollowed}
use Rattle.slate_model.specs.Followed.{IsView, RefusesLatest, can_follow}
use Rattle.slate_model.specs.Follower.{Follower, kept_follower}
use Rattle.slate_model.specs.Knowledge.{Knowledge}
use Rattle.slate_model.specs.Known.{Known, Untouched}
use Rattle.slate_model.specs.Lease.{lease_refusal, to_take}
use Rattle.slate_model.specs.Managed.{OpensManaged, TakeRefusal, TakesLease, unseen_line}
use Rattle.slate_store.specs.declared.reader_modes.DbReaderMode.TheVariants as modes
use Rattle.slate_model.specs.Object.{Follower as AFollower}
use Rattle.slate_model.specs.Stores.{by_catalogue, by_objects}
use Rattle.slate_model.specs.Tables.{AreStored}
use Rattle.slate_model.specs.Valid.{IsHeld}
use Rattle.slate_model.proofs.Leased.{its-manifest, planned-latest}
use Rattle.slate_model.proofs.Maintained.{Maintained}
use Rattle.slate_model.proofs.Planned.{puts-known, take-maintains, take-recheckpoints, take_refusal-known}
use Rattle.slate_model.proofs.Reduced.{as_modelled, catalogued, followed-err, followed-ok, holding, modelled, some-same, untouched-known}
use Rattle.slate_live.specs.Represents.{IsValidFollower}
use Rattle.slate_live.proofs.Cases.{by-option, is-none, some-of}
use Rattle.slate_live.proofs.Knowing.{AfterOf, objects-same}
use Rattle.slate_live.proofs.KnownFollower.{unchanged-objects}
use Rattle.slate_live.proofs.Leasing.{leased-held, leased-kept, leased-segments, leased-stored, leased-valid, leased_whole, taken-answers, taken-kept, taken-lined, taken-sees, taken_line}

-- a plan that takes a lease is of a database that is initialised
taken-initialized : (lifetime : ℕ) (moment : ℤ) (latest : VersionedManifest) (given : Option VersionedManifest × Lease) → to_take lifetime moment latest ≡ Ok given → latest.manifest.initialized ≡ true
taken-initialized lifetime moment latest given is = by latest.manifest.initialized _ is where
  by : (b : Bool) (plan : Plan Lease) → cond b plan (Err refusals.InvalidDBState) ≡ Ok given → b ≡ true
  by true plan is = refl
  by false plan is = absurd (cc)

or-opening : (b : Bool) → b ≡ true → (b || not true) ≡ true
or-opening true is = refl
or-opening false is = absurd (cc)

module _ (ext : Option Extractor) (stored : Line) (o : Objects) (f made lifetime interval : ℕ) (skips : Bool) (lag : ℕ) (moment : ℤ) where
  abbrev world : Knowledge Span
  world = by_catalogue stored (catalogue_of o)

  -- the objects after it
  pub taken-after : (r : Result (Follower × PollAnswer) SlateError) (store' : Known (List Batch)) → OpensManaged (by_objects (Some o)) ext made lifetime interval skips lag moment (holding o f) r store' → AfterOf store'
  taken-after r store' d =
      by-option (lease_refusal lifetime interval)
      (λ none. let t = ((d.takes none).puts).some o refl in (t.0, t.1))
      (λ error is. (o, ap (λ (k : Known (List Batch)). k.objects) (some-of (λ error. (r ≡ Err error) × Untouched made (holding o f) store') (lease_refusal lifetime interval) error is d.refused).1.1))

  module _ (o' : Objects) (f' : ℕ) (sound : IsSound o) (holds : content o ≡ stored) where
    -- the whole follower, of which the code keeps a part
    abbrev pub taken_follower : Follower → Follower
    taken_follower b = leased_whole modes.ManagedCheckpoint skips lag b.view (taken_line stored skips o' b.view) b

    abbrev pub taken_whole : Result (Follower × PollAnswer) SlateError → Result (Follower × PollAnswer) SlateError
    taken_whole (Ok b) = Ok (taken_follower b.0, b.1)
    taken_whole (Err e) = Err e

    -- what holds of that follower
    pub record IsTaken (b : Follower × PollAnswer) : Type 0 where
      pub kept : b.0 ≡ kept_follower (taken_follower b.0)
      pub found : latest_manifest o' ≡ Some b.0.view
      pub valid : IsValidFollower stored (catalogue_of o') (taken_follower b.0)
      pub tables : AreStored o' b.0.view.manifest.tables
      pub held : IsHeld o' (AFollower (taken_follower b.0))

    pub record Taken (r : Result (Follower × PollAnswer) SlateError) : Type 0 where
      pub maintained : Maintained o o'
      pub new : IfOk r IsTaken
      pub known : OpensManaged world ext made lifetime interval skips lag moment (catalogued o f) (taken_whole r) (catalogued o' f')

    -- the opening of the world, where the options pass
    passes : (r : Result (Follower × PollAnswer) SlateError) → lease_refusal lifetime interval ≡ None → TakesLease world ext made lifetime skips lag moment (catalogued o f) r (catalogued o' f') → OpensManaged world ext made lifetime interval skips lag moment (catalogued o f) r (catalogued o' f')
    passes r none t = record { refused = is-none _ (lease_refusal lifetime interval) none; takes = λ _. t }

    by-taking : (r : Result (Follower × PollAnswer) SlateError) → lease_refusal lifetime interval ≡ None → TakesLease (by_objects (Some o)) ext made lifetime skips lag moment (holding o f) r (holding o' f') → Taken r
    by-taking (Err e) none t =
        let puts = modelled o o' t.puts in
        record {
          maintained = subst (Maintained o) (sym puts.after) (take-maintains lifetime moment made o sound);
          new = tt;
          known = passes (Err e) none (record {
            faults = t.faults;
            puts = as_modelled (catalogue_of o) (catalogue_of o') (puts-known (to_take lifetime moment) (take-recheckpoints lifetime moment) o sound stored (TakeRefusal ext) (TakeRefusal ext) (take_refusal-known ext o) (taken_whole (Err e)) made o' puts);
            answers = tt;
            takes = tt;
            fits = tt;
            segmented = λ c line at stored_is.
                subst (λ x. AreFollowed {A = Follower × PollAnswer} world ext modes.ManagedCheckpoint skips true x line (Err e)) (some-same (catalogue_of o) c at)
                (subst (λ l. AreFollowed {A = Follower × PollAnswer} world ext modes.ManagedCheckpoint skips true (catalogue_of o) l (Err e)) (sym stored_is)
                (followed-err ext stored (catalogue_of o) (Some o) modes.ManagedCheckpoint skips o sound holds (Follower × PollAnswer) (Follower × PollAnswer) true e (t.segmented o stored refl (o, refl, sound, sym holds))));
            segments = tt;
            whole = t.whole;
          });
        }
    by-taking (Ok b) none t =
        let puts = modelled o o' t.puts in
        let m = subst (Maintained o) (sym puts.after) (take-maintains lifetime moment made o sound) in
        let q = modelled o o' t.takes in
        let latest = q.plan.0 in
        let plan = q.plan.2 in
        let view = b.0.view in
        let puts_it = take-recheckpoints lifetime moment latest in
        let its = its-manifest latest (Some view) q.given (to_take lifetime moment latest) plan puts_it in
        let found : latest_manifest o' ≡ Some view = subst (λ x. latest_manifest x ≡ Some view) (sym puts.after) (planned-latest (to_take lifetime moment) made o latest (Some view) q.given sound.manifests q.plan.1 plan puts_it puts.part) in
        let here = m.content ∙ holds in
        let can : can_follow true view ≡ true = or-opening view.manifest.initialized (ap (λ (x : Manifest). x.initialized) its.1 ∙ taken-initialized lifetime moment latest (Some view, q.given) plan) in
        let all = (q.sees).sees stored (o, refl, sound, sym holds) tt in
        let v : IsView modes.ManagedCheckpoint true o' view = (view, found, can, refl) in
        let line = taken_line stored skips o' view in
        let lined = taken-lined stored skips true lag o' view m.sound here v b.0 (Some o) b.1 all in
        let its_part = taken-kept stored skips true lag o' view m.sound here v b.0 (Some o) b.1 all in
        record {
          maintained = m;
          new = record {
            kept = leased-kept stored modes.ManagedCheckpoint skips true lag o' view m.sound here v b.0 line lined its_part (refl, refl);
            found = found;
            valid = leased-valid stored modes.ManagedCheckpoint skips true lag o' view m.sound here v b.0 line lined its_part (refl, refl) (subst (λ l. is_some l ≡ true) (sym q.leased) refl);
            tables = leased-stored stored modes.ManagedCheckpoint skips true lag o' view m.sound here v b.0 line lined its_part (refl, refl);
            held = leased-held stored modes.ManagedCheckpoint skips true lag o' view m.sound here v b.0 line lined its_part (refl, refl);
          };
          known = passes (taken_whole (Ok b)) none (record {
            faults = record { count = t.faults.count; unavailable = λ no. absurd (cc); stays = t.faults.stays; none_missing = λ no. absurd (cc) };
            puts = as_modelled (catalogue_of o) (catalogue_of o') (puts-known (to_take lifetime moment) (take-recheckpoints lifetime moment) o sound stored (TakeRefusal ext) (TakeRefusal ext) (take_refusal-known ext o) (taken_whole (Ok b)) made o' (record { cause = tt; part = puts.part; after = puts.after }));
            answers = (refl, refl, refl, refl, taken-answers stored skips true lag o' view m.sound here v b.0 (Some o) b.1 all);
            takes = as_modelled (catalogue_of o) (catalogue_of o') (record {
              given = q.given;
              plan = q.plan;
              leased = q.leased;
              sees = taken-sees stored skips true lag o' view m.sound here v b.0 (Some o) b.1 all (catalogue_of o) unseen_line (q.sees).logs;
            });
            fits = λ c at. subst (λ x. RefusesLatest ext true x None) (some-same (catalogue_of o) c at) (t.fits o refl);
            segmented = λ c line at stored_is.
                subst (λ x. AreFollowed world ext modes.ManagedCheckpoint skips true x line (taken_whole (Ok b))) (some-same (catalogue_of o) c at)
                (subst (λ l. AreFollowed world ext modes.ManagedCheckpoint skips true (catalogue_of o) l (taken_whole (Ok b))) (sym stored_is)
                (followed-ok ext stored (catalogue_of o) (Some o) modes.ManagedCheckpoint skips o sound holds {A = Follower × PollAnswer} {B = Follower × PollAnswer} true b (taken_follower b.0, b.1) (t.segmented o stored refl (o, refl, sound, sym holds))));
            segments = leased-segments stored modes.ManagedCheckpoint skips true lag o' view m.sound here v b.0 line lined its_part (refl, refl) ext t.segments;
            whole = λ key is. absurd (cc);
          });
        }

    -- options that are refused change nothing
    by-refusal : (r : Result (Follower × PollAnswer) SlateError) (error : SlateError) → lease_refusal lifetime interval ≡ Some error → (r ≡ Err error) × Untouched made (holding o f) (holding o' f') → Taken r
    by-refusal (Ok b) error is c = absurd (let no = c.0 in cc)
    by-refusal (Err e) error is c = record {
      maintained = unchanged-objects o o' sound (objects-same o o' f f' c.1.1);
      new = tt;
      known = record {
        refused = subst (λ x. IfSome x (λ error. (◌≡◌ {A = Result (Follower × PollAnswer) SlateError} (Err e) (Err error)) × Untouched made (catalogued o f) (catalogued o' f'))) (sym is) (c.0, untouched-known made o o' f f' c.1);
        takes = λ none. absurd (let no = sym is ∙ none in cc);
      };
    }

    pub taken : (r : Result (Follower × PollAnswer) SlateError) → OpensManaged (by_objects (Some o)) ext made lifetime interval skips lag moment (holding o f) r (holding o' f') → Taken r
    taken r d =
        by-option (lease_refusal lifetime interval)
        (λ none. by-taking r none (d.takes none))
        (λ error is. by-refusal r error is (some-of (λ error. (r ≡ Err error) × Untouched made (holding o f) (holding o' f')) (lease_refusal lifetime interval) error is d.refused))
