-- The whole follower of a reader that keeps a checkpoint of its own, of which the code keeps a part, once its plan was put.
use Rattle.std.proofs.Common.{arith, ◌≡◌, ◌++◌, ℕ, Bool, true, false, inl, inr, List, Option, Some, refl, sym, subst, ap, ◌∙◌}
use Rattle.std.specs.Option.{is_some}
use Rattle.slate_types.specs.Line.{IsPrefix, Line, batches_above, end}
use Rattle.slate_store.specs.Content.{IsSound, content, table_batches}
use Rattle.slate_store.specs.Objects.{Objects, ObjectsOf}
use Rattle.slate_store.specs.declared.objects.TableId.{TableId}
use Rattle.slate_store.specs.declared.objects.VersionedManifest.{VersionedManifest}
use Rattle.slate_store.specs.declared.reader_modes.DbReaderMode.{DbReaderMode}
use Rattle.slate_store.specs.declared.reader_modes.DbReaderMode.TheVariants as modes
use Rattle.slate_model.specs.Catalogue.{Catalogue, Span, catalogue_of}
use Rattle.slate_model.specs.declared.answers.PollAnswer.{PollAnswer}
use Rattle.slate_model.specs.declared.answers.PollAnswer.TheVariants.{Whole}
use Rattle.slate_model.specs.Follow.{AnswersAt, HasAllLogs, IsOwed, SeesOwed, SeesPolled}
use Rattle.slate_model.specs.Followed.{IsView}
use Rattle.slate_model.specs.Follower.{Follower, HasSegments, is_pinned, kept_follower, rebuilt}
use Rattle.slate_model.specs.Handle.{line_above}
use Rattle.slate_model.specs.Managed.{SeesLatest, follower_under}
use Rattle.slate_model.specs.Object.{Follower as AFollower}
use Rattle.slate_model.specs.Seen.{HasSeen}
use Rattle.slate_model.specs.Segments.{Extractor}
use Rattle.slate_model.specs.Stores.{by_catalogue, by_objects}
use Rattle.slate_model.specs.Tables.{AreStored}
use Rattle.slate_model.specs.Valid.{IsHeld}
use Rattle.slate_model.proofs.Leased.{AreAlike}
use Rattle.slate_model.proofs.Owing.{owed-is, owed_line}
use Rattle.slate_model.proofs.Reduced.{IsKnown, logs-known, polled-by, sees-known, segments-whole}
use Rattle.slate_live.specs.Represents.{IsValidFollower}
use Rattle.slate_live.proofs.Following.{Lined, new-held, new-tabled, new-viewed, owed-lined, polled-kept, polled-lined, polled_line, seen-kept, seen-mark, view-stored, with_segments}

-- it sees this line under the latest manifest, and goes by its view under its lease
abbrev pub leased_whole : DbReaderMode → (skips : Bool) → (lag : ℕ) → (latest : VersionedManifest) → Line → Follower → Follower
leased_whole mode skips lag latest line f = record (rebuilt mode skips lag latest line f.mark) { view = f.view; segments = f.segments; lease = f.lease }

module _ (stored : Line) (mode : DbReaderMode) (skips opening : Bool) (lag : ℕ) (o : Objects) (latest : VersionedManifest) (sound : IsSound o) (holds : content o ≡ stored) (v : IsView mode opening o latest)
    (f : Follower) (line : Line) (lined : Lined stored mode skips lag o latest line f.mark) (its : follower_under latest f ≡ kept_follower (with_segments f.segments (rebuilt mode skips lag latest line f.mark))) (alike : AreAlike f.view latest) where
  abbrev whole : Follower
  whole = leased_whole mode skips lag latest line f

  pub leased-kept : f ≡ kept_follower whole
  leased-kept =
      ap (λ (x : Follower). record x { view = f.view; lease = f.lease }) its
      ∙ ap (λ n. record whole { line = line_above n line }) (sym alike.1)

  pub leased-valid : is_some f.lease ≡ true → IsValidFollower stored (catalogue_of o) whole
  leased-valid leased = (
    lined.begins,
    new-tabled f.segments stored mode skips opening lag o latest v line f.mark lined,
    λ managed live. leased,
    λ unpinned latest' at.
        let low = new-viewed f.segments stored mode skips opening lag o latest v line f.mark lined unpinned latest' at in
        let view = alike.1 in
        omega (arith, low, view),
  )

  pub leased-stored : AreStored o f.view.manifest.tables
  leased-stored = subst (AreStored o) (sym alike.0) (view-stored stored mode skips opening o latest sound holds v)

  abbrev Reads : List TableId → ℕ → Type 0
  Reads tables n = AreStored o tables → table_batches o tables ++ batches_above n line.batches ≡ line.batches

  pub leased-held : IsHeld o (AFollower whole)
  leased-held =
      let held = new-held f.segments stored mode skips opening lag o latest v line f.mark lined in (
        subst (λ tables. Reads tables f.view.manifest.last_l0_seq) (sym alike.0) (subst (Reads latest.manifest.tables) (sym alike.1) held.0),
        λ unpinned. let seen = held.1 unpinned in record { mark = seen.mark; logs = seen.logs },
      )

  -- its segments are those of what it sees, where those of what is kept are
  pub leased-segments : (x : Option Extractor) → HasSegments x f → HasSegments x whole
  leased-segments x has = segments-whole x f.view.manifest.last_l0_seq f.line line f.segments (ap (λ (g : Follower). g.line) leased-kept) has

-- ---- an opening
-- what it sees is what it is owed
abbrev pub taken_line : (stored : Line) → (skips : Bool) → Objects → (latest : VersionedManifest) → Line
taken_line stored skips o latest = owed_line modes.ManagedCheckpoint skips o latest stored

module _ (stored : Line) (skips opening : Bool) (lag : ℕ) (o : Objects) (latest : VersionedManifest) (sound : IsSound o) (holds : content o ≡ stored) (v : IsView modes.ManagedCheckpoint opening o latest)
    (f : Follower) (t : Option Objects) (answer : PollAnswer) (all : SeesOwed (by_objects t) modes.ManagedCheckpoint skips lag o stored (follower_under latest f) answer) where
  abbrev owed_then : Line
  owed_then = taken_line stored skips o latest

  abbrev taken_one : Follower
  taken_one = leased_whole modes.ManagedCheckpoint skips lag latest owed_then f

  pub taken-lined : Lined stored modes.ManagedCheckpoint skips lag o latest owed_then f.mark
  taken-lined = owed-lined stored modes.ManagedCheckpoint skips opening o latest sound holds v lag f.mark (seen-mark t stored modes.ManagedCheckpoint skips lag o (follower_under latest f) answer all)

  pub taken-kept : follower_under latest f ≡ kept_follower (with_segments f.segments (rebuilt modes.ManagedCheckpoint skips lag latest owed_then f.mark))
  taken-kept = seen-kept t stored modes.ManagedCheckpoint skips lag o (follower_under latest f) answer all

  pub taken-answers : AnswersAt (end owed_then) answer
  taken-answers = inl (all.3 ∙ ap (λ l. Whole (end l)) (owed-is t o modes.ManagedCheckpoint skips latest stored all.0 all.1))

  pub taken-sees : (c : Catalogue) (seen : Line → Type 0) → (skips ≡ false → ◌≡◌ {A = ℕ} 0 0 → HasAllLogs o f answer) →
      SeesLatest (by_catalogue stored c) skips 0 (SeesOwed (by_catalogue stored c) modes.ManagedCheckpoint skips lag) seen latest (catalogue_of o) taken_one answer
  taken-sees c seen logs = record {
    logs = λ reads none. logs-known o f taken_one answer refl (logs reads none);
    sees = λ _ stored_is _.
        subst (λ l. SeesOwed (by_catalogue stored c) modes.ManagedCheckpoint skips lag (catalogue_of o) l (follower_under latest taken_one) answer) (sym stored_is)
        (sees-known stored c t modes.ManagedCheckpoint skips opening lag o (follower_under latest f) answer sound holds v all);
  }

-- ---- a poll
-- what a reader is owed that doesn't stay at a checkpoint is so whichever objects are known
owed-by-others : (t t' : Option Objects) (mode : DbReaderMode) (skips : Bool) (o : Objects) (view : VersionedManifest) (stored owed : Line) → IsOwed (by_objects t) mode skips o view stored owed → IsOwed (by_objects t') mode skips o view stored owed
owed-by-others t t' mode true o view stored owed is = is
owed-by-others t t' (modes.Checkpoint id) false o view stored owed is = is
owed-by-others t t' modes.FollowLatest false o view stored owed is = is
owed-by-others t t' modes.ManagedCheckpoint false o view stored owed is = is

pub polled-by-others : (t t' : Option Objects) (old : Follower) (o : Objects) (stored : Line) (f : Follower) (answer : PollAnswer) → SeesPolled (by_objects t) old o stored f answer → SeesPolled (by_objects t') old o stored f answer
polled-by-others t t' old o stored f answer (inl (all, catches)) = inl ((all.0, owed-by-others t t' old.mode old.skips o f.view stored all.0 all.1, all.2, all.3), catches)
polled-by-others t t' old o stored f answer (inr s) = inr (record { reads = s.reads; may = s.may; near = s.near; reached = s.reached; sees = s.sees; mark = s.mark; answered = s.answered })

-- and whichever catalogue a world has
owed-by-worlds : (c c' : Catalogue) (mode : DbReaderMode) (skips : Bool) (o : ObjectsOf Span) (view : VersionedManifest) (stored line owed : Line) → IsOwed (by_catalogue stored c) mode skips o view line owed → IsOwed (by_catalogue stored c') mode skips o view line owed
owed-by-worlds c c' mode true o view stored line owed is = is
owed-by-worlds c c' (modes.Checkpoint id) false o view stored line owed is = is
owed-by-worlds c c' modes.FollowLatest false o view stored line owed is = is
owed-by-worlds c c' modes.ManagedCheckpoint false o view stored line owed is = is

pub polled-by-worlds : (c c' : Catalogue) (old : Follower) (o : ObjectsOf Span) (stored line : Line) (f : Follower) (answer : PollAnswer) → SeesPolled (by_catalogue stored c) old o line f answer → SeesPolled (by_catalogue stored c') old o line f answer
polled-by-worlds c c' old o stored line f answer (inl (all, catches)) = inl ((all.0, owed-by-worlds c c' old.mode old.skips o f.view stored line all.0 all.1, all.2, all.3), catches)
polled-by-worlds c c' old o stored line f answer (inr s) = inr (record { reads = s.reads; may = s.may; near = s.near; reached = s.reached; sees = s.sees; mark = s.mark; answered = s.answered })

module _ (stored : Line) (g : Follower) (o : Objects) (latest : VersionedManifest) (sound : IsSound o) (holds : content o ≡ stored) (v : IsView g.mode false o latest)
    (f : Follower) (t : Option Objects) (answer : PollAnswer) (all : SeesPolled (by_objects t) (kept_follower g) o stored (follower_under latest f) answer) where
  abbrev saw : Line
  saw = polled_line stored f

  abbrev polled_one : Follower
  polled_one = leased_whole g.mode g.skips g.lag latest saw f

  pub kept-lined : is_pinned g.mode ≡ false → IsPrefix g.line stored → HasSeen o g → Lined stored g.mode g.skips g.lag o latest saw f.mark
  kept-lined free begins had = polled-lined t stored g o (follower_under latest f) answer sound holds v begins free had all

  pub kept-kept : follower_under latest f ≡ kept_follower (with_segments f.segments (rebuilt g.mode g.skips g.lag latest saw f.mark))
  kept-kept = polled-kept t stored g o (follower_under latest f) answer sound holds v all

  known_by : IsKnown g.mode g.skips g.lag (SeesPolled (by_catalogue stored (catalogue_of o)) g) o stored saw (follower_under latest f) answer
  known_by = polled-by stored g o (follower_under latest f) answer sound holds v (polled-by-others t (Some o) (kept_follower g) o stored (follower_under latest f) answer all)

  pub kept-answers : AnswersAt (end saw) answer
  kept-answers = known_by.answers

  pub kept-sees : (c : Catalogue) (seen : Line → Type 0) → (g.skips ≡ false → g.lag ≡ 0 → HasAllLogs o f answer) →
      SeesLatest (by_catalogue stored c) g.skips g.lag (SeesPolled (by_catalogue stored c) g) seen latest (catalogue_of o) polled_one answer
  kept-sees c seen logs = record {
    logs = λ reads none. logs-known o f polled_one answer refl (logs reads none);
    sees = λ _ stored_is _.
        subst (λ l. SeesPolled (by_catalogue stored c) g (catalogue_of o) l (follower_under latest polled_one) answer) (sym stored_is)
        (polled-by-worlds (catalogue_of o) c g (catalogue_of o) stored stored (follower_under latest polled_one) answer known_by.sees);
  }
