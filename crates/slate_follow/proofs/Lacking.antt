-- Keys without a segment under a manifest with other checkpoints, which is put, and of what a reader goes on with.
use Rattle.std.proofs.Common.{◌≡◌, ◌++◌, ℕ, max, List, [], Bool, true, false, Option, Some, inl, inr, Ok, Err, refl, sym, ap, subst, ◌∙◌}
use Rattle.std.specs.Option.{IfSome}
use Rattle.std.specs.Prelude.{ℤ, ◌⊎◌, IsSome}
use Rattle.slate_types.specs.declared.batches.Batch.{Batch}
use Rattle.slate_types.specs.Line.{Line, batches_above}
use Rattle.slate_types.specs.Modelled.{WhereModelled}
use Rattle.slate_store.specs.Checkpoints.{Plan}
use Rattle.slate_store.specs.Content.{IsSound, content}
use Rattle.slate_store.specs.Objects.{Objects, PutManifest, changed, latest_manifest}
use Rattle.slate_store.specs.Refusals.{PlanIs}
use Rattle.slate_store.specs.declared.objects.VersionedManifest.{VersionedManifest}
use Rattle.slate_store.specs.declared.reader_modes.DbReaderMode.TheVariants.{ManagedCheckpoint}
use Rattle.slate_store.specs.declared.refusals.StoreRefusal.TheVariants as refusals
use Rattle.slate_replay.specs.Replay.{Replays}
use Rattle.slate_replay.specs.declared.replays.Replayed.{Replayed}
use Rattle.slate_errors.specs.declared.errors.SlateError.{SlateError}
use Rattle.slate_errors.specs.declared.errors.SlateError.TheVariants as errors
use Rattle.slate_model.proofs.Owing.{latest-view}
use Rattle.slate_model.proofs.Reduced.{some-same}
use Rattle.slate_model.proofs.Reopened.{line_from}
use Rattle.slate_model.specs.Follow.{IsOwed, LacksSegment, ReplayRefuses}
use Rattle.slate_model.specs.Followed.{IsView, can_follow, last_read}
use Rattle.slate_model.specs.Follower.{Follower, is_pinned, number, rebuilt}
use Rattle.slate_model.specs.Handle.{up_to}
use Rattle.slate_model.specs.Known.{IsContent}
use Rattle.slate_model.specs.Lease.{differs, is_due, replaces, to_keep}
use Rattle.slate_model.specs.Managed.{unrefused}
use Rattle.slate_model.specs.Segments.{Extractor, ops_of, unsegmented_refusal}
use Rattle.slate_model.specs.Stores.{by_objects, kept_seen}
use Rattle.slate_model.specs.declared.answers.PollAnswer.TheVariants.{Whole}
use Rattle.slate_model.specs.declared.leases.Lease.{Lease}
use Rattle.slate_follow.specs.Keeping.{FindsLatest, KeepLacks, NextLacks, OnLacks, PutsBy, PutsManifest, ReplaceLacks}
use Rattle.slate_follow.specs.Lagging.{IsLastTaken}
use Rattle.slate_follow.specs.Rebuilding.{GoingLacks, Reaches, TakingLacks}
use Rattle.slate_follow.proofs.Continued.{goes-refuses, taking-some}
use Rattle.slate_follow.proofs.Informed.{taken-lacking}
use Rattle.slate_follow.proofs.Keeping.{renewal, replacement, to-renewal, to-replace}
use Rattle.slate_follow.proofs.Leased.{HasCheckpoints, PutsKept, put-is, written}
use Rattle.slate_follow.proofs.Rebuilt.{at_stored, builds-refuses, if_some, some_at}
use Rattle.slate_follow.proofs.Later.{none-replayed}
use Rattle.slate_follow.proofs.Refusing.{lacks-some}
use Rattle.slate_follow.proofs.Segmented.{none-lacks}
use Rattle.slate_follow.proofs.Having.{goes-same, skipped-last}

-- ---- what a manifest refuses that was put after another, that one does
module _ (t : Option Objects) (x : Option Extractor) (opening : Bool) (o o' : Objects) (latest next : VersionedManifest) (is : latest_manifest o ≡ Some latest) (next_is : latest_manifest o' ≡ Some next)
    (form : HasCheckpoints latest next) (stored : Line) (refusal : Option SlateError) where
  tabled : next.manifest.last_l0_seq ≡ latest.manifest.last_l0_seq
  tabled = ap (λ (v : VersionedManifest). v.manifest.last_l0_seq) form.1

  owed-on : (skips : Bool) (owed : Line) → IsOwed (by_objects t) ManagedCheckpoint skips o' next stored owed → IsOwed (by_objects t) ManagedCheckpoint skips o latest stored owed
  owed-on true owed owes = owes ∙ ap (λ n. up_to n stored) tabled
  owed-on false owed owes = owes

  pub refuses-on : (skips : Bool) → ReplayRefuses (by_objects t) x ManagedCheckpoint skips opening o' stored refusal → ReplayRefuses (by_objects t) x ManagedCheckpoint skips opening o stored refusal
  refuses-on skips (view, owed, can, owes, refused) =
      let same : view ≡ next = some-same view next (sym (latest-view ManagedCheckpoint opening o' view refl can) ∙ next_is) in
      let first : can.0 ≡ next = some-same can.0 next (sym can.1 ∙ next_is) in
      let follows : can_follow opening latest ≡ true = sym (ap (can_follow opening) form.1) ∙ (sym (ap (can_follow opening) first) ∙ can.2) in (
        latest,
        owed,
        (latest, is, follows, refl),
        owed-on skips owed (subst (λ v. IsOwed (by_objects t) ManagedCheckpoint skips o' v stored owed) same owes),
        ap (λ n. unsegmented_refusal x (ops_of (batches_above n owed.batches))) (sym (ap (λ (v : VersionedManifest). v.manifest.last_l0_seq) same ∙ tabled)) ∙ refused,
      )

-- so what is replayed of the manifest that was put
module _ (o : Objects) (latest next : VersionedManifest) (is : latest_manifest o ≡ Some latest) (put : PutsKept o latest next) where
  abbrev after : Objects
  after = changed (PutManifest next.id next.manifest) o

  pub put-refuses : (t : Option Objects) (x : Option Extractor) (skips opening : Bool) (refusal : Option SlateError) → can_follow opening latest ≡ true → (batches : List Batch) (found : Replayed) →
      Replays next.manifest.replay_after_wal_id (last_read ManagedCheckpoint skips next after) next.manifest.last_l0_seq [] batches after (Ok found) → unsegmented_refusal x (ops_of batches) ≡ refusal →
      (stored : Line) → t ≡ Some o → IsContent t stored → ReplayRefuses (by_objects t) x ManagedCheckpoint skips opening o stored refusal
  put-refuses t x skips opening refusal follows batches found logs refused stored at content_is =
      at_stored (λ l. ReplayRefuses (by_objects t) x ManagedCheckpoint skips opening o l refusal) o stored at content_is
      (λ sound _.
      let kept = put.keeps sound in
      let next_is = put-is o latest next sound is put.form in
      let last = last_read ManagedCheckpoint skips next after in
      let can : IsView ManagedCheckpoint opening after next = (next, next_is, ap (can_follow opening) put.form.1 ∙ follows, refl) in
      let plain = rebuilt ManagedCheckpoint skips 0 next (line_from next.manifest.last_l0_seq batches) last in
      refuses-on t x opening o after latest next is next_is put.form (content o) refusal skips
      (subst (λ l. ReplayRefuses (by_objects t) x ManagedCheckpoint skips opening after l refusal) kept.1
      (builds-refuses ManagedCheckpoint skips opening 0 after next last (can, refl) plain (Whole 0) t x refusal kept.0 batches found logs refused)))

-- ---- a poll
module _ (t : Option Objects) (x : Option Extractor) (lease : Lease) (moment : ℤ) (old : Follower) (o : Objects) (stored : Line) (at : t ≡ Some o) (content_is : IsContent t stored) (latest : VersionedManifest) (is : latest_manifest o ≡ Some latest) where
  -- a key lacks a segment under the manifest that it puts
  next-lacks : old.mode ≡ ManagedCheckpoint → kept_seen old o stored → NextLacks x (replacement old.view latest lease moment) old o → LacksSegment (by_objects t) x ManagedCheckpoint old.skips false o stored
  next-lacks managed seen (next, given, gives, taking) =
      let put = written o latest is lease.lifetime moment next given (Some lease.id) gives in
      let same : content_is.0 ≡ o = some-same content_is.0 o (sym content_is.1 ∙ at) in
      let sound : IsSound o = subst IsSound same content_is.2 in
      let line : stored ≡ content o = content_is.3 ∙ ap content same in
      let lacks = taken-lacking o latest next is put old managed t x sound (subst (kept_seen old o) line seen) taking in
      let refusal = Some (errors.EmptySegmentPrefix lacks.0) in
      let here = refuses-on t x false o (changed (PutManifest next.id next.manifest) o) latest next is (put-is o latest next sound is put.form) put.form (content o) refusal old.skips lacks.1 in
      (lacks.0, subst (λ l. ReplayRefuses (by_objects t) x ManagedCheckpoint old.skips false o l refusal) (sym line) here)

  -- or as it goes on
  on-lacks : kept_seen old o stored → OnLacks x old latest o → LacksSegment (by_objects t) x ManagedCheckpoint old.skips false o stored
  on-lacks seen (managed, reads, reaches, last, taken, (key, lacks)) =
      let refusal = Some (errors.EmptySegmentPrefix key) in (
        key,
        at_stored (λ l. ReplayRefuses (by_objects t) x ManagedCheckpoint old.skips false o l refusal) o stored at content_is
            (λ sound line.
            subst (λ m. ReplayRefuses (by_objects t) x m old.skips false o (content o) refusal) managed
            (goes-refuses t x o latest last old key reads (ap is_pinned managed) sound is (subst (kept_seen old o) line seen) reaches taken lacks)),
      )

  lacks-by : kept_seen old o stored → (to_keep old.view lease moment latest ≡ Err refusals.InvalidDBState) ⊎ (((old.mode ≡ ManagedCheckpoint) × NextLacks x (replacement old.view latest lease moment) old o) ⊎ OnLacks x old latest o) →
      PlanIs (to_keep old.view lease moment) o (Err refusals.InvalidDBState) ⊎ LacksSegment (by_objects t) x ManagedCheckpoint old.skips false o stored
  lacks-by seen (inl plan) = inl (latest, is, plan)
  lacks-by seen (inr (inl (managed, next))) = inr (next-lacks managed seen next)
  lacks-by seen (inr (inr news)) = inr (on-lacks seen news)

-- what it takes of a manifest that was put lacks one
pub put-lacks : (x : Option Extractor) (plan : Plan Lease) (old : Follower) (next : VersionedManifest) (given : Lease) → plan ≡ Ok (Some next, given) → (t t1 : Option Objects) → WhereModelled (PutsManifest next (Ok true)) t t1 →
    IfSome t1 (λ o. TakingLacks x o next old) → IfSome t (λ o. ReplaceLacks x plan old o)
put-lacks x plan old next given gives t t1 puts lacks =
    if_some t
    (λ o at.
    let h = puts.some o at in
    let l = some_at (λ o. TakingLacks x o next old) t1 h.0 h.1 lacks in
    inr (next, given, gives, subst (λ s. TakingLacks x s next old) h.2 l))

-- of a latest manifest that doesn't differ from the view: one that skips log files takes none, and the others go on
on-taking : (x : Option Extractor) (o : Objects) (latest : VersionedManifest) (old : Follower) → old.line.floor ≡ old.view.manifest.last_l0_seq → differs old.view latest ≡ false → TakingLacks x o latest old →
    (old.skips ≡ false) × Reaches old latest × (last : ℕ) × IsLastTaken old.lag (number old) (max old.mark latest.manifest.replay_after_wal_id) o last × ((key : List ℕ) × GoingLacks x o latest last old key)
on-taking x o latest old floor same (inl goes) = goes
on-taking x o latest old floor same (inr (not_on, last, read, (key, (batches, found, logs, lacks)))) = by old.skips refl where
  by : (s : Bool) → old.skips ≡ s → (old.skips ≡ false) × Reaches old latest × (last : ℕ) × IsLastTaken old.lag (number old) (max old.mark latest.manifest.replay_after_wal_id) o last × ((key : List ℕ) × GoingLacks x o latest last old key)
  by false reads = (let goes = goes-same old latest floor same false reads in absurd (cc))
  by true skips =
      let m = latest.manifest.replay_after_wal_id in
      let at = skipped-last old latest o last skips read in
      let none = none-replayed m latest.manifest.last_l0_seq o batches found (subst (λ k. Replays m k latest.manifest.last_l0_seq [] batches o (Ok found)) at logs) in
      absurd (none-lacks x key (ap (λ bs. unsegmented_refusal x (ops_of bs)) (sym none.0) ∙ lacks))

-- so a poll does, which finds this manifest first
module _ {t t1 : Option Objects} (x : Option Extractor) (latest : VersionedManifest) (kept : t1 ≡ t) (found : IfSome t (λ o. FindsLatest o (Ok latest))) (lease : Lease) (moment : ℤ) (old : Follower) where
  keep-by : {P : Objects → Type 0} → IfSome t1 P → ((o : Objects) → latest_manifest o ≡ Some latest → P o → KeepLacks x lease moment old o) → IfSome t (λ o. KeepLacks x lease moment old o)
  keep-by {P} all turn = if_some t (λ o at. turn o (some_at (λ o. FindsLatest o (Ok latest)) t o at found) (some_at P t1 o (kept ∙ at) all))

  pub replace-keeps : old.mode ≡ ManagedCheckpoint → replaces old.view lease moment latest ≡ true → IfSome t1 (λ o. ReplaceLacks x (replacement old.view latest lease moment) old o) → IfSome t (λ o. KeepLacks x lease moment old o)
  replace-keeps managed replaced lacks =
      keep-by {P = λ o. ReplaceLacks x (replacement old.view latest lease moment) old o} lacks
      (λ o is why. elim why [ inl plan ↦ (latest, is, inl (to-replace old.view latest lease moment replaced ∙ plan)) | inr next ↦ (latest, is, inr (inl (managed, next))) ])

  pub news-keeps : old.mode ≡ ManagedCheckpoint → old.line.floor ≡ old.view.manifest.last_l0_seq → differs old.view latest ≡ false → IfSome t1 (λ o. TakingLacks x o latest old) → IfSome t (λ o. KeepLacks x lease moment old o)
  news-keeps managed floor same lacks =
      keep-by {P = λ o. TakingLacks x o latest old} lacks (λ o is why. let on = on-taking x o latest old floor same why in (latest, is, inr (inr (managed, on.0, on.1, on.2, on.3, on.4))))

  pub renew-keeps : replaces old.view lease moment latest ≡ false → is_due moment lease ≡ true → (held lease' : Option Lease) (t' : Option Objects) →
      WhereModelled (λ o o'. PutsBy {A = Unit {0}} unrefused (renewal old.view latest lease moment) held o (Err errors.InvalidDBState) lease' o') t1 t' → IfSome t (λ o. KeepLacks x lease moment old o)
  renew-keeps unreplaced due held lease' t' puts =
      let plan = renewal old.view latest lease moment in
      keep-by {P = λ o. plan ≡ Err refusals.InvalidDBState} (if_some t1 (λ o at. elim (puts.some o at).2.cause [ inl cause ↦ cause | inr none ↦ absurd none ]))
      (λ o is why. (latest, is, inl (to-renewal old.view latest lease moment unreplaced due ∙ why)))

-- why a poll answers InvalidDBState
pub keep-lacks : (t : Option Objects) (x : Option Extractor) (lease : Lease) (moment : ℤ) (old : Follower) (o : Objects) (stored : Line) → t ≡ Some o → IsContent t stored → kept_seen old o stored →
    KeepLacks x lease moment old o → PlanIs (to_keep old.view lease moment) o (Err refusals.InvalidDBState) ⊎ LacksSegment (by_objects t) x ManagedCheckpoint old.skips false o stored
keep-lacks t x lease moment old o stored at content_is seen lacks = lacks-by t x lease moment old o stored at content_is lacks.0 lacks.1 seen lacks.2

-- that is its plan, or there is an extractor
pub keep-some : (x : Option Extractor) (lease : Lease) (moment : ℤ) (old : Follower) (o : Objects) → KeepLacks x lease moment old o → PlanIs (to_keep old.view lease moment) o (Err refusals.InvalidDBState) ⊎ IsSome x
keep-some x lease moment old o (latest, is, inl plan) = inl (latest, is, plan)
keep-some x lease moment old o (latest, is, inr (inl (managed, (next, given, gives, taking)))) = inr (taking-some x (changed (PutManifest next.id next.manifest) o) next old taking)
keep-some x lease moment old o (latest, is, inr (inr news)) = inr (lacks-some x (batches_above latest.manifest.last_l0_seq (old.line.batches ++ news.5.1.0)) news.5.0 news.5.1.3)
