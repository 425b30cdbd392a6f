-- What a poll of a reader that keeps a checkpoint leaves is what its next poll needs.
use Rattle.std.proofs.Common.{◌≡◌, ℕ, zero, suc, inl, inr, List, [], ◌∷◌, length, Option, Some, None, is_none, Bool, true, false, Result, Ok, Err, refl, sym, ap, subst, ◌∙◌}
use Rattle.std.specs.Bool.{MatchBool}
use Rattle.std.specs.Prelude.{ℤ, ◌||◌, ◌&&◌, ◌⊎◌, unwrap_or}
use Rattle.slate_types.specs.Line.{Line}
use Rattle.slate_types.specs.declared.batches.Batch.{Batch}
use Rattle.slate_store.specs.Checkpoints.{Plan, found}
use Rattle.slate_store.specs.Content.{IsSound, content}
use Rattle.slate_store.specs.Objects.{Change, Objects, PutManifest, changed, latest_manifest}
use Rattle.slate_store.specs.Refusals.{checkpoint_changes, planned, planned_after}
use Rattle.slate_store.specs.declared.objects.VersionedManifest.{VersionedManifest}
use Rattle.slate_store.specs.declared.reader_modes.DbReaderMode.TheVariants.{ManagedCheckpoint}
use Rattle.slate_model.proofs.Reduced.{some-same}
use Rattle.slate_model.specs.Changes.{after_part}
use Rattle.slate_model.specs.Follow.{SeesPolled}
use Rattle.slate_model.specs.Follower.{Follower, is_pinned}
use Rattle.slate_model.specs.Known.{IsContent}
use Rattle.slate_model.specs.Lease.{differs, is_due, lease_of, leased, replaces, to_keep}
use Rattle.slate_errors.specs.declared.errors.SlateError.{SlateError}
use Rattle.slate_model.specs.Handle.{CloseResult}
use Rattle.slate_model.specs.Managed.{Keeps, KeepsLease, PollsLeased, PollsTwice, follower_under, poll_result}
use Rattle.slate_model.proofs.Rounds.{Rounds, Took, rounds, took}
use Rattle.slate_model.specs.Segments.{Extractor}
use Rattle.slate_model.specs.Stores.{by_objects, kept_seen}
use Rattle.slate_model.specs.declared.answers.PollAnswer.{PollAnswer}
use Rattle.slate_model.specs.declared.leases.Lease.{Lease}
use Rattle.slate_follow.proofs.Handed.{sound-polled}
use Rattle.slate_follow.proofs.Informed.{seen-after, tabled-same, under-seen}
use Rattle.slate_follow.proofs.Keeping.{to-renewal, to-replace, to-stay}
use Rattle.slate_follow.proofs.Leased.{PutsKept, put-is, renewed, written}
use Rattle.slate_follow.proofs.Rebuilt.{latest-can}

-- a plan that puts nothing is none that puts a manifest
none-some : (held given : Lease) (m : VersionedManifest) → ◌≡◌ {A = Plan Lease} (Ok (None, held)) (Ok (Some m, given)) → ⊥
none-some held given m is =
    let pair : (None, held) ≡ (Some m, given) = cc in
    let first : None ≡ Some m = ap (λ (p : Option VersionedManifest × Lease). p.0) pair in
    cc

-- the plan of a poll puts a manifest with other checkpoints
module _ (view latest : VersionedManifest) (lease : Lease) (moment : ℤ) (o : Objects) (is : latest_manifest o ≡ Some latest) (m : VersionedManifest) (given : Lease) (gives : to_keep view lease moment latest ≡ Ok (Some m, given)) where
  by-due : (e : Bool) → is_due moment lease ≡ e → replaces view lease moment latest ≡ false → PutsKept o latest m
  by-due true due stays = renewed o latest is lease.lifetime moment m given lease.id (sym (to-renewal view latest lease moment stays due) ∙ gives)
  by-due false early stays = absurd (none-some lease given m (sym (to-stay view latest lease moment stays early) ∙ gives))

  by-replaced : (r : Bool) → replaces view lease moment latest ≡ r → PutsKept o latest m
  by-replaced true replaced = written o latest is lease.lifetime moment m given (Some lease.id) (sym (to-replace view latest lease moment replaced) ∙ gives)
  by-replaced false stays = by-due (is_due moment lease) refl stays

  pub keep-kept : PutsKept o latest m
  keep-kept = by-replaced (replaces view lease moment latest) refl

-- a view that isn't replaced has the tables of the latest manifest
neither : (d e : Bool) → (d || e) ≡ false → d ≡ false
neither true e both = absurd (cc)
neither false e both = refl

same-tables : (view latest : VersionedManifest) (lease : Lease) (moment : ℤ) → replaces view lease moment latest ≡ false → view.manifest.last_l0_seq ≡ latest.manifest.last_l0_seq
same-tables view latest lease moment stays = tabled-same view latest (neither (differs view latest) (is_due moment lease && is_none (found lease.id latest)) stays)

-- ---- the objects after so many of its changes
after-none : (made : ℕ) (o : Objects) → after_part made [] o ≡ o
after-none zero o = refl
after-none (suc n) o = refl

after-one : (made : ℕ) (change : Change) (o : Objects) → (after_part made (change ∷ []) o ≡ o) ⊎ (after_part made (change ∷ []) o ≡ changed change o)
after-one zero change o = inl refl
after-one (suc zero) change o = inr refl
after-one (suc (suc n)) change o = inr refl

-- what a follower has seen doesn't hang on its lease, nor on how it closed
relabelled : (o : Objects) (line : Line) (old : Follower) (lease : Option Lease) (result : CloseResult) → kept_seen old o line → kept_seen (record old { lease = lease; result = result }) o line
relabelled o line old lease result (w, is, begins, has) =
    (record w { lease = lease; result = result }, ap (λ (f : Follower). record f { lease = lease; result = result }) is, begins, record { mark = has.mark; logs = has.logs })

module _ (t : Option Objects) (o : Objects) (at : t ≡ Some o) (line : Line) (stored : IsContent t line) (old : Follower) (managed : old.mode ≡ ManagedCheckpoint) (seen : kept_seen old o line) where
  same : stored.0 ≡ o
  same = some-same stored.0 o (sym stored.1 ∙ at)

  sound : IsSound o
  sound = subst IsSound same stored.2

  line_is : line ≡ content o
  line_is = stored.3 ∙ ap content same

  -- at an error it has seen what it had seen, under a manifest that may have been put
  pub failed-seen : (latest m : VersionedManifest) → latest_manifest o ≡ Some latest → PutsKept o latest m → kept_seen old (changed (PutManifest m.id m.manifest) o) line
  failed-seen latest m is put =
      let here = subst (kept_seen old o) line_is seen in
      subst (kept_seen old (changed (PutManifest m.id m.manifest) o)) ((put.keeps sound).1 ∙ sym line_is) (seen-after o latest m is put old managed sound here)

  module _ (lease : Lease) (moment : ℤ) (made : ℕ) where
    by-plan : (latest : VersionedManifest) → latest_manifest o ≡ Some latest → (p : Plan Lease) → to_keep old.view lease moment latest ≡ p → kept_seen old (after_part made (planned p) o) line
    by-plan latest is (Ok (None, given)) gives = subst (λ s. kept_seen old s line) (sym (after-none made o)) seen
    by-plan latest is (Err refusal) gives = subst (λ s. kept_seen old s line) (sym (after-none made o)) seen
    by-plan latest is (Ok (Some m, given)) gives = elim (after-one made (PutManifest m.id m.manifest) o) [
      | inl same ↦ subst (λ s. kept_seen old s line) (sym same) seen
      | inr put ↦ subst (λ s. kept_seen old s line) (sym put) (failed-seen latest m is (keep-kept old.view latest lease moment o is m given gives))
    ]

    by-latest : (f : Option VersionedManifest) → latest_manifest o ≡ f → kept_seen old (after_part made (planned_after (to_keep old.view lease moment) f) o) line
    by-latest None is = subst (λ s. kept_seen old s line) (sym (after-none made o)) seen
    by-latest (Some latest) is = by-plan latest is (to_keep old.view lease moment latest) refl

    pub part-seen : kept_seen old (after_part made (checkpoint_changes (to_keep old.view lease moment) o) o) line
    part-seen = by-latest (latest_manifest o) refl

  module _ (lease : Lease) (moment : ℤ) (new : Follower) (answer : PollAnswer) (o' : Objects) (keeps : Keeps (by_objects t) lease moment old o new answer o') where
    abbrev l : VersionedManifest
    l = unwrap_or keeps.next keeps.latest

    sees : SeesPolled (by_objects t) old o' line (follower_under l new) answer
    sees = keeps.sees.sees line stored seen

    -- by the manifest that it goes by then
    from-latest : IsSound o' → content o' ≡ content o → latest_manifest o' ≡ Some l → kept_seen old o' (content o') → new.view.manifest.last_l0_seq ≡ l.manifest.last_l0_seq → kept_seen new o' line
    from-latest sound' content_is is before tabled =
        let to : line ≡ content o' = line_is ∙ sym content_is in
        let polled = subst (λ s. SeesPolled (by_objects t) old o' s (follower_under l new) answer) to sees in
        let under = sound-polled t o' old (follower_under l new) answer sound' (latest-can o' l is old.mode (ap is_pinned managed)) (ap is_pinned managed) before polled in
        subst (kept_seen new o') (sym to) (under-seen o' (content o') l new tabled under)

    tabled-by : (r : Bool) → replaces old.view lease moment keeps.latest ≡ r → (l.manifest.last_l0_seq ≡ keeps.latest.manifest.last_l0_seq) → MatchBool r (keeps.next ≡ Some new.view) (new.view ≡ old.view) → new.view.manifest.last_l0_seq ≡ l.manifest.last_l0_seq
    tabled-by true is tables view = ap (λ (v : VersionedManifest). v.manifest.last_l0_seq) (sym (ap (λ n. unwrap_or n keeps.latest) view))
    tabled-by false is tables view = ap (λ (v : VersionedManifest). v.manifest.last_l0_seq) view ∙ (same-tables old.view keeps.latest lease moment is ∙ sym tables)

    module _ (made : ℕ) (part : made ≡ length (checkpoint_changes {L = List Batch} (to_keep old.view lease moment) o)) (after : o' ≡ after_part made (checkpoint_changes (to_keep old.view lease moment) o) o) where
      changes-by : (n : Option VersionedManifest) → keeps.next ≡ n → checkpoint_changes {L = List Batch} (to_keep old.view lease moment) o ≡ planned (Ok (n, keeps.given))
      changes-by n is = ap (planned_after (to_keep old.view lease moment)) keeps.is_latest ∙ ap planned (keeps.plan ∙ ap (λ k. Ok (k, keeps.given)) is)

      by-next : (n : Option VersionedManifest) → keeps.next ≡ n → kept_seen new o' line
      by-next None none =
          let changes = changes-by None none in
          let zero_made : made ≡ 0 = part ∙ ap length changes in
          let kept : o' ≡ o = after ∙ (ap (λ k. after_part k (checkpoint_changes (to_keep old.view lease moment) o) o) zero_made ∙ ap (λ cs. after_part 0 cs o) changes) in
          let latest_is : l ≡ keeps.latest = ap (λ n. unwrap_or n keeps.latest) none in
          from-latest (subst IsSound (sym kept) sound) (ap content kept) (ap latest_manifest kept ∙ (keeps.is_latest ∙ ap Some (sym latest_is))) (subst (λ s. kept_seen old s (content s)) (sym kept) (subst (kept_seen old o) line_is seen))
          (tabled-by (replaces old.view lease moment keeps.latest) refl (ap (λ (v : VersionedManifest). v.manifest.last_l0_seq) latest_is) keeps.view)
      by-next (Some m) some =
          let changes = changes-by (Some m) some in
          let one_made : made ≡ 1 = part ∙ ap length changes in
          let kept : o' ≡ changed (PutManifest m.id m.manifest) o = after ∙ (ap (λ k. after_part k (checkpoint_changes (to_keep old.view lease moment) o) o) one_made ∙ ap (λ cs. after_part 1 cs o) changes) in
          let latest_is : l ≡ m = ap (λ n. unwrap_or n keeps.latest) some in
          let put = keep-kept old.view keeps.latest lease moment o keeps.is_latest m keeps.given (keeps.plan ∙ ap (λ k. Ok (k, keeps.given)) some) in
          let its = put.keeps sound in
          let tables = ap (λ (v : VersionedManifest). v.manifest.last_l0_seq) (latest_is ∙ put.form.1) in
          from-latest (subst IsSound (sym kept) its.0) (ap content kept ∙ its.1) (ap latest_manifest kept ∙ (put-is o keeps.latest m sound keeps.is_latest put.form ∙ ap Some (sym latest_is)))
          (subst (λ s. kept_seen old s (content s)) (sym kept) (seen-after o keeps.latest m keeps.is_latest put old managed sound (subst (kept_seen old o) line_is seen)))
          (tabled-by (replaces old.view lease moment keeps.latest) refl tables keeps.view)

      pub kept-handed : kept_seen new o' line
      kept-handed = by-next keeps.next refl

-- ---- a round of a poll
pub lease-handed : (x : Option Extractor) (made : ℕ) (t t' : Option Objects) (f f' : ℕ) (lease : Lease) (moment : ℤ) (old : Follower) (result : Result PollAnswer SlateError) (new : Follower) →
    KeepsLease (by_objects t) x made lease moment old (record { objects = t; faults = f }) result new (record { objects = t'; faults = f' }) → old.mode ≡ ManagedCheckpoint →
    (o o' : Objects) (line : Line) → t ≡ Some o → t' ≡ Some o' → IsContent t line → kept_seen old o line → kept_seen new o' line
lease-handed x made t t' f f' lease moment old (Ok answer) new k managed o o' line at at' stored seen =
    let h = k.keeps.some o at in
    let u = k.puts.some o at in
    let same : h.0 ≡ o' = some-same h.0 o' (sym h.1 ∙ at') in
    let put : u.0 ≡ o' = some-same u.0 o' (sym u.1 ∙ at') in
    kept-handed t o at line stored old managed seen lease moment new answer o' (subst (λ s. Keeps (by_objects t) lease moment old o new answer s) same h.2) made u.2.part (sym put ∙ u.2.after)
lease-handed x made t t' f f' lease moment old (Err e) new k managed o o' line at at' stored seen =
    let u = k.puts.some o at in
    let put : u.0 ≡ o' = some-same u.0 o' (sym u.1 ∙ at') in
    let here = subst (λ s. kept_seen old s line) (sym u.2.after ∙ put) (part-seen t o at line stored old managed seen lease moment made) in
    subst (λ g. kept_seen g o' line) (sym k.failed) (relabelled o' line old new.lease (poll_result e) here)

-- ---- a poll
module _ (x : Option Extractor) (made : ℕ) (lease : Lease) (moment : ℤ) (old : Follower) (o : Objects) (f : ℕ) (t' : Option Objects) (f' : ℕ) (new : Follower) (managed : old.mode ≡ ManagedCheckpoint) (line : Line) (stored : IsContent (Some o) line) (seen : kept_seen old o line) where
  o-sound : IsSound o
  o-sound = sound (Some o) o refl line stored old managed seen

  module _ (result : Result PollAnswer SlateError) (p : PollsTwice (by_objects (Some o)) x made lease moment old (record { objects = Some o; faults = f }) result new (record { objects = t'; faults = f' })) where
    abbrev middle : Follower
    middle = p.middle

    before : Took (by_objects (Some o)) x made lease moment old o f result new (record { objects = t'; faults = f' }) p
    before = took (by_objects (Some o)) x made lease moment old o f result new (record { objects = t'; faults = f' }) p

    both : Rounds (by_objects (Some o)) x made lease moment old o f result new (record { objects = t'; faults = f' }) p
    both = rounds (by_objects (Some o)) x made lease moment old o f result new (record { objects = t'; faults = f' }) p o-sound.manifests

    first-seen : kept_seen middle both.between line
    first-seen = lease-handed x p.first (Some o) p.between.objects f p.between.faults lease moment old (Ok p.answer) middle p.round managed o both.between line refl both.there stored seen

    stored-between : IsContent (Some both.between) line
    stored-between =
        let kept = written o before.latest before.is lease.lifetime moment middle.view p.given (Some lease.id) before.written in
        let its = kept.keeps o-sound in
        (both.between, refl, subst IsSound (sym both.put) its.0, line_is (Some o) o refl line stored old managed seen ∙ sym (ap content both.put ∙ its.1))

    then-seen : kept_seen middle both.last line
    then-seen = elim both.parts [
      | inl same ↦ subst (λ s. kept_seen middle s line) (sym same) first-seen
      | inr again ↦
          let gives = ap (leased p.given.lifetime) again.2 in
          subst (λ s. kept_seen middle s line) (sym again.3)
          (failed-seen (Some both.between) both.between refl line stored-between middle (p.round.answers).0 first-seen middle.view again.0 both.next_is
          (renewed both.between middle.view both.next_is p.given.lifetime moment again.0 (lease_of p.given.lifetime again.1) p.given.id gives))
    ]

    last-is : (o' : Objects) → t' ≡ Some o' → both.last ≡ o'
    last-is o' at' = some-same both.last o' (sym both.there_last ∙ at')

  twice-handed : (r : Result PollAnswer SlateError) → PollsTwice (by_objects (Some o)) x made lease moment old (record { objects = Some o; faults = f }) r new (record { objects = t'; faults = f' }) → (o' : Objects) → t' ≡ Some o' → kept_seen new o' line
  twice-handed (Ok answer) p o' at' = subst (λ g. kept_seen g o' line) (sym (p.answers).1) (subst (λ s. kept_seen p.middle s line) (last-is (Ok answer) p o' at') (then-seen (Ok answer) p))
  twice-handed (Err e) p o' at' =
      let here = subst (λ s. kept_seen p.middle s line) (last-is (Err e) p o' at') (then-seen (Err e) p) in
      subst (λ g. kept_seen g o' line) (sym p.failed) (relabelled o' line p.middle (p.middle).lease (poll_result e) here)

pub polls-handed : (x : Option Extractor) (made : ℕ) (t t' : Option Objects) (f f' : ℕ) (lease : Lease) (moment : ℤ) (old : Follower) (result : Result PollAnswer SlateError) (new : Follower) →
    PollsLeased (by_objects t) x made lease moment old (record { objects = t; faults = f }) result new (record { objects = t'; faults = f' }) → old.mode ≡ ManagedCheckpoint →
    (o o' : Objects) (line : Line) → t ≡ Some o → t' ≡ Some o' → IsContent t line → kept_seen old o line → kept_seen new o' line
polls-handed x made t t' f f' lease moment old result new (inl once) managed o o' line at at' stored seen = lease-handed x made t t' f f' lease moment old result new once.round managed o o' line at at' stored seen
polls-handed x made t t' f f' lease moment old result new (inr twice) managed o o' line at at' stored seen =
    let p = subst (λ s. PollsTwice (by_objects s) x made lease moment old (record { objects = s; faults = f }) result new (record { objects = t'; faults = f' })) at twice in
    twice-handed x made lease moment old o f t' f' new managed line (subst (λ s. IsContent s line) at stored) seen result p o' at'
