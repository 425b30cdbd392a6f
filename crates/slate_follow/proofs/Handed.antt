-- What a reader sees that an opening or a poll gave is what its next poll needs.
use Rattle.std.proofs.Common.{◌≡◌, List, ℕ, ◌<◌, ◌≤◌, map, inl, inr, Option, Some, Bool, false, refl, sym, ap, subst, ◌∙◌, arith}
use Rattle.std.specs.List.{All}
use Rattle.slate_types.specs.Line.{Line}
use Rattle.slate_types.specs.declared.batches.Batch.{Batch}
use Rattle.slate_store.proofs.LastLog.{at_least}
use Rattle.slate_store.specs.Content.{IsSound, content}
use Rattle.slate_store.specs.Objects.{Objects, last_log, latest_manifest, log_at}
use Rattle.slate_store.specs.declared.objects.VersionedManifest.{VersionedManifest}
use Rattle.slate_store.specs.declared.reader_modes.DbReaderMode.{DbReaderMode}
use Rattle.slate_model.proofs.Fronts.{front-begins}
use Rattle.slate_model.proofs.Keeping.{line_above-end}
use Rattle.slate_model.proofs.Owing.{latest-view, owed-is, owed-seen, owed_line}
use Rattle.slate_model.proofs.Reduced.{owed-begins, some-same}
use Rattle.slate_model.specs.Follow.{SeesOwed, SeesPolled, StaysBehind}
use Rattle.slate_model.specs.Followed.{IsView, last_read}
use Rattle.slate_model.specs.Follower.{Follower, is_pinned, kept_follower, number, rebuilt}
use Rattle.slate_model.specs.Handle.{up_to}
use Rattle.slate_model.specs.Known.{IsContent}
use Rattle.slate_model.specs.Seen.{HasSeen}
use Rattle.slate_model.specs.Stores.{by_objects, kept_seen}
use Rattle.slate_model.specs.declared.answers.PollAnswer.{PollAnswer}

-- segments are no matter of what was seen
seen-segmented : (o : Objects) (segments : List (List ℕ)) (f : Follower) → HasSeen o f → HasSeen o (record f { segments = segments })
seen-segmented o segments f seen = record { mark = seen.mark; logs = seen.logs }

module _ (t : Option Objects) (o : Objects) (mode : DbReaderMode) (skips opening : Bool) (lag : ℕ) (f : Follower) (answer : PollAnswer) (sound : IsSound o) (can : IsView mode opening o f.view) (free : is_pinned mode ≡ false)
    (sees : SeesOwed (by_objects t) mode skips lag o (content o) f answer) where
  abbrev owed : Line
  owed = owed_line mode skips o f.view (content o)

  abbrev whole : Follower
  whole = record (rebuilt mode skips lag f.view owed (last_read mode skips f.view o)) { segments = f.segments }

  pub sound-handed : kept_seen f o (content o)
  sound-handed =
      let is : sees.0 ≡ owed = owed-is t o mode skips f.view (content o) sees.0 sees.1 in (
        whole,
        ap (λ (u : Follower). record u { segments = f.segments }) (sees.2 ∙ ap (λ l. kept_follower (rebuilt mode skips lag f.view l (last_read mode skips f.view o))) is),
        owed-begins (content o) mode skips opening o f.view sound refl can,
        seen-segmented o f.segments (rebuilt mode skips lag f.view owed (last_read mode skips f.view o)) (owed-seen o mode skips opening lag f.view sound can free),
      )

-- A poll may leave a reader behind: what it has seen is what it had, and the tables of the latest manifest.
module _ (t : Option Objects) (o : Objects) (old new : Follower) (answer : PollAnswer) (sound : IsSound o) (is : latest_manifest o ≡ Some new.view) (seen : kept_seen old o (content o)) (stays : StaysBehind (by_objects t) old (content o) new answer) where
  abbrev behind : Follower
  behind = record (rebuilt old.mode old.skips old.lag new.view (up_to (number new) (content o)) new.mark) { segments = new.segments }

  behind-number : number behind ≡ number new
  behind-number = sym (ap number stays.sees ∙ line_above-end new.view.manifest.last_l0_seq (up_to (number new) (content o)))

  behind-mark : (v : VersionedManifest) → latest_manifest o ≡ Some v → new.mark ≤ last_log v.manifest.replay_after_wal_id o
  behind-mark v at =
      let same : v ≡ new.view = some-same v new.view (sym at ∙ is) in
      let mark = ap (λ (v : VersionedManifest). v.manifest.replay_after_wal_id) same in
      let before = seen.3.mark v at in
      let old_mark : old.mark ≡ seen.0.mark = ap (λ (f : Follower). f.mark) seen.1 in
      let least = at_least v.manifest.replay_after_wal_id (map (λ log. log.0) o.logs) in
      elim stays.mark [
        | inl both ↦ omega (arith, both, mark, before, old_mark, least)
        | inr tables ↦ (let none = tables.1 in omega (arith, none, mark, least))
      ]

  behind-logs : (v : VersionedManifest) (id : ℕ) (bs : List Batch) → latest_manifest o ≡ Some v → v.manifest.replay_after_wal_id < id → id ≤ new.mark → log_at id o ≡ Some bs → All (λ b. b.number ≤ number behind) bs
  behind-logs v id bs at over within stored =
      let same : v ≡ new.view = some-same v new.view (sym at ∙ is) in
      let mark = ap (λ (v : VersionedManifest). v.manifest.replay_after_wal_id) same in
      let old_mark : old.mark ≡ seen.0.mark = ap (λ (f : Follower). f.mark) seen.1 in
      let ends : number old ≡ number seen.0 = ap number seen.1 ∙ line_above-end seen.0.view.manifest.last_l0_seq seen.0.line in
      let reached = stays.reached in
      let at_number = behind-number in
      let low : id ≤ seen.0.mark = elim stays.mark [
        | inl both ↦ omega (arith, both, mark, over, within, old_mark)
        | inr tables ↦ (let none = tables.1 in absurd (omega (arith, none, mark, over, within)))
      ] in
      λ k d less. let h = seen.3.logs v id bs at over low stored k d less in omega (arith, h, ends, reached, at_number)

  pub sound-behind : kept_seen new o (content o)
  sound-behind =
      (behind, ap (λ (u : Follower). record u { segments = new.segments }) stays.sees, front-begins (number new) (content o), record { mark = behind-mark; logs = behind-logs })

-- so what a poll leaves has seen what the next one needs
pub sound-polled : (t : Option Objects) (o : Objects) (old new : Follower) (answer : PollAnswer) → IsSound o → IsView old.mode false o new.view → is_pinned old.mode ≡ false → kept_seen old o (content o) → SeesPolled (by_objects t) old o (content o) new answer → kept_seen new o (content o)
sound-polled t o old new answer sound can free seen (inl (sees, catches)) = sound-handed t o old.mode old.skips false old.lag new answer sound can free sees
sound-polled t o old new answer sound can free seen (inr stays) = sound-behind t o old new answer sound (latest-view old.mode false o new.view free can) seen stays

pub handed : (t : Option Objects) (o : Objects) (stored : Line) (mode : DbReaderMode) (skips opening : Bool) (lag : ℕ) (f : Follower) (answer : PollAnswer) → t ≡ Some o → IsContent t stored → IsView mode opening o f.view → is_pinned mode ≡ false →
    SeesOwed (by_objects t) mode skips lag o stored f answer → kept_seen f o stored
handed t o stored mode skips opening lag f answer at content_is can free sees =
    let same : content_is.0 ≡ o = some-same content_is.0 o (sym content_is.1 ∙ at) in
    let line : stored ≡ content o = content_is.3 ∙ ap content same in
    subst (kept_seen f o) (sym line) (sound-handed t o mode skips opening lag f answer (subst IsSound same content_is.2) can free (subst (λ l. SeesOwed (by_objects t) mode skips lag o l f answer) line sees))

pub polled-handed : (t : Option Objects) (o : Objects) (stored : Line) (old new : Follower) (answer : PollAnswer) → t ≡ Some o → IsContent t stored → IsView old.mode false o new.view → is_pinned old.mode ≡ false → kept_seen old o stored →
    SeesPolled (by_objects t) old o stored new answer → kept_seen new o stored
polled-handed t o stored old new answer at content_is can free seen sees =
    let same : content_is.0 ≡ o = some-same content_is.0 o (sym content_is.1 ∙ at) in
    let line : stored ≡ content o = content_is.3 ∙ ap content same in
    subst (kept_seen new o) (sym line)
    (sound-polled t o old new answer (subst IsSound same content_is.2) can free (subst (kept_seen old o) line seen) (subst (λ l. SeesPolled (by_objects t) old o l new answer) line sees))
