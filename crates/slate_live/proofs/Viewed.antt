-- The keys of what a reader may replay stay in segments, by the manifest that it goes by and by its begun poll.
use Rattle.std.proofs.Common.{◌≡◌, ◌⊎◌, ◌∙◌, inl, inr, ℕ, ℤ, Bool, true, false, List, Option, Some, None, Result, Ok, Err, IfErr, IfOk, refl, sym, subst, ap, arith}
use Rattle.std.specs.Bool.{MatchBool}
use Rattle.std.specs.List.{slice_get}
use Rattle.slate_types.specs.Line.{batches_above}
use Rattle.slate_store.specs.Objects.{latest_manifest}
use Rattle.slate_store.specs.declared.objects.VersionedManifest.{VersionedManifest}
use Rattle.slate_store.specs.declared.reader_modes.DbReaderMode.{DbReaderMode}
use Rattle.slate_store.specs.declared.reader_modes.DbReaderMode.TheVariants as modes
use Rattle.slate_errors.specs.Errors.{closed_error}
use Rattle.slate_errors.specs.declared.endings.Ended.{Ended}
use Rattle.slate_errors.specs.declared.errors.SlateError.{SlateError}
use Rattle.slate_model.specs.Begun.{Begun, base_of, view_of}
use Rattle.slate_model.specs.Catalogue.{Span}
use Rattle.slate_model.specs.Follow.{Polls, ReplayRefuses}
use Rattle.slate_model.specs.Follower.{Follower, is_managed, is_pinned}
use Rattle.slate_model.specs.Knowledge.{Knowledge}
use Rattle.slate_model.specs.Known.{Known, Untouched}
use Rattle.slate_model.specs.Lease.{replaces, to_keep}
use Rattle.slate_model.specs.Managed.{KeepsLease, PollsManaged, PollsTwice, poll_result}
use Rattle.slate_model.specs.Object.{Object, Handle as AHandle, Snapshot as ASnapshot, Follower as AFollower}
use Rattle.slate_model.specs.Open.{replayed}
use Rattle.slate_model.specs.Segments.{Extractor}
use Rattle.slate_model.specs.Stores.{by_catalogue}
use Rattle.slate_model.specs.declared.answers.PollAnswer.{PollAnswer}
use Rattle.slate_model.specs.declared.leases.Lease.{Lease}
use Rattle.slate_model.proofs.Maintained.{Recheckpoints}
use Rattle.slate_model.proofs.Owing.{latest-view}
use Rattle.slate_model.proofs.Planned.{keep-recheckpoints, take-recheckpoints}
use Rattle.slate_model.proofs.Reduced.{some-same}
use Rattle.slate_script.specs.declared.commands.Command.{Command}
use Rattle.slate_script.specs.declared.replies.Reply.{Reply}
use Rattle.slate_live.specs.declared.states.Write.{Write}
use Rattle.slate_live.specs.Calls.{Call, Write as WriteCall, Merge as MergeCall, Flush, Refresh, Compact, Get, Scan, Seek, Close, Poll, Status, FindTime, FindNumber, Nothing, call_of}
use Rattle.slate_live.specs.Followers.{ClosesAs, FollowerActs, PollsAs}
use Rattle.slate_live.specs.Represents.{AllInSegments, HaveSegments, IsFollowerAt, IsReached, follows_all}
use Rattle.slate_live.specs.Settings.{Settings}
use Rattle.slate_live.specs.State.{IsBegunAt}
use Rattle.slate_live.specs.World.{NextWhole, World, state_of}
use Rattle.slate_live.proofs.Cases.{by-option, some-of}
use Rattle.slate_live.proofs.Everywhere.{everywhere}
use Rattle.slate_live.proofs.Following.{owed-all}
use Rattle.slate_live.proofs.Rising.{follower-rises}
use Rattle.slate_live.proofs.Segmented.{free-of, risen-replays, segmented-next, still-have}

-- ---- the manifest that a reader goes by after a call
module _ (w : World) (reached : IsReached w) (settings : Settings) (n : ℕ) (f f' : Follower) (at : IsFollowerAt w.objects n f) (free : is_pinned f.mode ≡ false) (made : ℕ) (moment : ℤ) (after : Known Span) where
  abbrev k : Knowledge Span
  k = by_catalogue w.stored w.catalogue

  -- it is as before, or has the tables of the latest one
  abbrev pub Moves : Type 0
  Moves = (f'.view ≡ f.view) ⊎ ((latest : VersionedManifest) × (latest_manifest w.catalogue ≡ Some latest) × (f'.view.manifest.last_l0_seq ≡ latest.manifest.last_l0_seq))

  stays : f' ≡ f → Moves
  stays same = inl (ap (λ (g : Follower). g.view) same)

  kept-moves : (lease : Lease) (latest : VersionedManifest) (next : Option VersionedManifest) (given : Lease) → latest_manifest w.catalogue ≡ Some latest → to_keep f.view lease moment latest ≡ Ok (next, given) → MatchBool (replaces f.view lease moment latest) (next ≡ Some f'.view) (f'.view ≡ f.view) → Moves
  kept-moves lease latest next given is gives view = by (replaces f.view lease moment latest) view
    where
      by : (b : Bool) → MatchBool b (next ≡ Some f'.view) (f'.view ≡ f.view) → Moves
      by false same = inl same
      by true put =
          let its : Recheckpoints {A = Lease} latest (Ok (Some f'.view, given)) = subst (λ q. Recheckpoints latest q) (gives ∙ ap (λ x. Ok (x, given)) put) (keep-recheckpoints f.view lease moment latest) in
          inr (latest, is, ap (λ (v : VersionedManifest). v.manifest.last_l0_seq) its.1)

  lease-moves : (lease : Lease) (r : Result PollAnswer SlateError) → KeepsLease k settings.extractor made lease moment f (state_of w).store r f' after → Moves
  lease-moves lease (Ok answer) p = let q = ((p.keeps).some w.catalogue refl).2 in kept-moves lease q.latest q.next q.given q.is_latest q.plan q.view
  lease-moves lease (Err e) p = inl (ap (λ (g : Follower). g.view) p.failed)

module _ (w : World) (reached : IsReached w) (settings : Settings) (n : ℕ) (f f' : Follower) (at : IsFollowerAt w.objects n f) (free : is_pinned f.mode ≡ false) (made : ℕ) (moment : ℤ) (after : Known Span) where
  abbrev Here : Type 0
  Here = Moves w reached settings n f f' at free made moment after

  unmoved : f' ≡ f → Here
  unmoved same = stays w reached settings n f f' at free made moment after same

  -- where a renewal follows the round
  twice-moves : (lease : Lease) (r : Result PollAnswer SlateError) → PollsTwice (by_catalogue w.stored w.catalogue) settings.extractor made lease moment f (state_of w).store r f' after → Here
  twice-moves lease r p =
      let same : f'.view ≡ (p.middle).view = by r p.answers p.failed in
      elim (lease-moves w reached settings n f p.middle at free p.first moment p.between lease (Ok p.answer) p.round) [
        | inl stayed ↦ inl (same ∙ stayed)
        | inr moved ↦ inr (moved.0, moved.1, ap (λ (v : VersionedManifest). v.manifest.last_l0_seq) same ∙ moved.2)
      ] where
        by : (r : Result PollAnswer SlateError) → IfOk r (λ a. (a ≡ p.answer) × (f' ≡ p.middle)) → IfErr r (λ error. f' ≡ record p.middle { result = poll_result error }) → f'.view ≡ (p.middle).view
        by (Ok a) answers failed = ap (λ (g : Follower). g.view) answers.1
        by (Err e) answers failed = ap (λ (g : Follower). g.view) failed

  managed-moves : (r : Result PollAnswer SlateError) → is_managed f.mode ≡ true → PollsManaged (by_catalogue w.stored w.catalogue) settings.extractor made moment f (state_of w).store r f' after → Here
  managed-moves r managed p =
      by-option f.result
      (λ live. by-option f.lease
      (λ none. absurd (let there = ((reached.0).followers n f at).2 managed live in cc))
      (λ lease its. elim (p.keeps lease live its) [
        | inl once ↦ lease-moves w reached settings n f f' at free made moment after lease r once.round
        | inr twice ↦ twice-moves lease r twice
      ]))
      (λ q shut. unmoved (some-of (λ q. (r ≡ Err (closed_error q)) × (f' ≡ f) × Untouched made (state_of w).store after) f.result q shut p.closed).1)

  free-moves : (r : Result PollAnswer SlateError) → Polls (by_catalogue w.stored w.catalogue) settings.extractor f (state_of w).store r f' after → Here
  free-moves (Err e) p = unmoved p.failed
  free-moves (Ok answer) p =
      by-option f.result
      (λ live. let view = (p.rebuilds live free).can w.catalogue refl in inr (f'.view, latest-view f.mode false w.catalogue f'.view free view, refl))
      (λ q shut. absurd (let no = (some-of (λ q. (◌≡◌ {A = Result PollAnswer SlateError} (Ok answer) (Err (closed_error q))) × (after ≡ (state_of w).store)) f.result q shut p.closed).0 in cc))

  polled-moves : (managed : Bool) (r : Result PollAnswer SlateError) → is_managed f.mode ≡ managed → PollsAs (by_catalogue w.stored w.catalogue) settings.extractor managed made moment f (state_of w).store r f' after → Here
  polled-moves true r managed p = managed-moves r managed p
  polled-moves false r managed p = free-moves r p.0

  ended-moves : (managed : Bool) (answer : Ended) → ClosesAs (by_catalogue w.stored w.catalogue) managed made f (state_of w).store answer f' after → Here
  ended-moves true answer c = inl (ap (λ (g : Follower). g.view) c.closed)
  ended-moves false answer c = inl (ap (λ (g : Follower). g.view) c.1)

  pub moves : (call : Call) (reply : Reply) (writes' : List Write) → FollowerActs (by_catalogue w.stored w.catalogue) settings moment call made f (state_of w).store w.writes reply f' after writes' → Here
  moves (Get key remote snapshot) reply writes' a = unmoved a.1
  moves (Scan range order remote snapshot) reply writes' a = unmoved a.1
  moves (Seek range take key order remote snapshot) reply writes' a = unmoved a.1
  moves (Close t) reply writes' a = ended-moves (is_managed f.mode) (a.0).answer (a.0).does
  moves Poll reply writes' a = polled-moves (is_managed f.mode) (a.0).result refl (a.0).does
  moves Status reply writes' a = unmoved a.1
  moves (WriteCall ops) reply writes' a = unmoved a.1
  moves (MergeCall op) reply writes' a = unmoved a.1
  moves (Flush t) reply writes' a = unmoved a.1
  moves Refresh reply writes' a = unmoved a.1
  moves Compact reply writes' a = unmoved a.1
  moves (FindTime number find) reply writes' a = unmoved a.1
  moves (FindNumber seconds find) reply writes' a = unmoved a.1
  moves Nothing reply writes' a = unmoved a.1

-- ---- a command that makes a call whole
module _ (settings : Settings) (w w' : World) (command : Command) (reply : Reply) (reached : IsReached w) (reached' : IsReached w') (next : NextWhole settings w command reply w') (all : AllInSegments settings.extractor w) where
  abbrev x : Option Extractor
  x = settings.extractor

  abbrev known : Knowledge Span
  known = by_catalogue w.stored w.catalogue

  have-then : (n : ℕ) → HaveSegments x (batches_above n w.stored.batches) → HaveSegments x (batches_above n w'.stored.batches)
  have-then n = still-have settings w w' command reply reached reached' next all.keys n n (omega arith)

  abbrev Views : Object → Type 0
  Views (AHandle h) = Unit {0}
  Views (ASnapshot s) = Unit {0}
  Views (AFollower f) = follows_all f.mode f.skips ≡ true → HaveSegments x (replayed f.view w'.stored)

  old-views : (n : ℕ) (object : Object) → slice_get w.objects n ≡ Some object → Views object
  old-views n (AHandle h) at = tt
  old-views n (ASnapshot s) at = tt
  old-views n (AFollower f) at = λ replays. have-then f.view.manifest.last_l0_seq (all.viewed n f at replays)

  -- what the latest manifest's tables lack has segments, once an object replays all
  same-number : (view latest : VersionedManifest) → view.manifest.last_l0_seq ≡ latest.manifest.last_l0_seq → HaveSegments x (replayed latest w.stored) → HaveSegments x (replayed view w'.stored)
  same-number view latest same have = subst (λ k. HaveSegments x (batches_above k w'.stored.batches)) (sym same) (have-then latest.manifest.last_l0_seq have)

  follower-views : (n : ℕ) (f f' : Follower) → IsFollowerAt w.objects n f → FollowerActs known settings command.moment (call_of command.action) next.made f (state_of w).store w.writes reply f' (state_of w').store w'.writes → Views (AFollower f')
  follower-views n f f' at a replays =
      let up = follower-rises w.stored w.catalogue settings command.moment (call_of command.action) next.made f _ w.writes reply f' _ _ refl ((reached.0).followers n f at) a in
      let its = risen-replays (AFollower f) (AFollower f') up replays in
      let free = free-of f.mode f.skips its in
      elim (moves w reached settings n f f' at free next.made command.moment (state_of w').store (call_of command.action) reply w'.writes a) [
        | inl same ↦ subst (λ (v : VersionedManifest). HaveSegments x (replayed v w'.stored)) (sym same) (have-then f.view.manifest.last_l0_seq (all.viewed n f at its))
        | inr latest ↦ same-number f'.view latest.0 latest.2 ((all.keys).stored n (AFollower f) latest.0 at its latest.1)
      ]

  -- one that was opened replayed them
  opened-views : (mode : DbReaderMode) (skips : Bool) (view : VersionedManifest) (latest : VersionedManifest) → follows_all mode skips ≡ true → ReplayRefuses known x mode skips true w.catalogue w.stored None → latest_manifest w.catalogue ≡ Some latest → view.manifest.last_l0_seq ≡ latest.manifest.last_l0_seq → HaveSegments x (replayed view w'.stored)
  opened-views mode skips view latest replays r is same =
      let its = latest-view mode true w.catalogue r.0 (free-of mode skips replays) r.2 in
      let latest_is : r.0 ≡ latest = some-same r.0 latest (sym its ∙ is) in
      let owed = owed-all w.catalogue w.catalogue mode skips r.0 w.stored r.1 replays r.3 in
      let have : HaveSegments x (replayed r.0 w.stored) = subst (λ l. HaveSegments x (replayed r.0 l)) owed r.4 in
      same-number view latest same (subst (λ (v : VersionedManifest). HaveSegments x (replayed v w.stored)) latest_is have)

  pub views-next : (n : ℕ) (object : Object) → slice_get w'.objects n ≡ Some object → Views object
  views-next =
      everywhere settings w command next.made reply (state_of w') Views (record {
        old = old-views;
        handle = λ n call h h' at a. tt;
        snapshot = λ snapshot. tt;
        follower = λ n f f' at names a. follower-views n f f' at a;
        opened = λ keeps_log h d. tt;
        followed = λ mode skips lag b d replays.
            let mine = mine-replays mode skips b.0 (d.answer).0 (d.answer).1 replays in
            opened-views mode skips b.0.view b.0.view mine (d.segmented w.catalogue w.stored refl refl tt) (latest-view mode true w.catalogue b.0.view (free-of mode skips mine) (d.can w.catalogue refl)) refl;
        taken = λ lifetime skips lag b t replays.
            let mine = mine-replays modes.ManagedCheckpoint skips b.0 (t.answers).0 (t.answers).1 replays in
            let q = ((t.takes).some w.catalogue refl).2 in
            let latest = q.plan.0 in
            let its : Recheckpoints {A = Lease} latest (Ok (Some b.0.view, q.given)) = subst (λ p. Recheckpoints latest p) q.plan.2 (take-recheckpoints lifetime command.moment latest) in
            opened-views modes.ManagedCheckpoint skips b.0.view latest mine (t.segmented w.catalogue w.stored refl refl) q.plan.1 (ap (λ (v : VersionedManifest). v.manifest.last_l0_seq) its.1);
      }) next.does
    where
      mine-replays : (mode : DbReaderMode) (skips : Bool) (f : Follower) → f.mode ≡ mode → f.skips ≡ skips → follows_all f.mode f.skips ≡ true → follows_all mode skips ≡ true
      mine-replays mode skips f same_mode same_skips replays = ap (λ m. follows_all m skips) (sym same_mode) ∙ (ap (λ s. follows_all f.mode s) (sym same_skips) ∙ replays)

  -- where a begun poll that is left is one of a reader that is as it was
  pub all-next : ((n : ℕ) (reader : Follower) (begun : Begun) → IsFollowerAt w'.objects n reader → IsBegunAt w'.polls n begun → IsFollowerAt w.objects n reader × IsBegunAt w.polls n begun) → AllInSegments x w'
  all-next were = record {
    keys = segmented-next settings w w' command reply reached reached' next all.keys;
    viewed = λ n reader at. views-next n (AFollower reader) at;
    polled = λ n reader begun at there replays.
        let was = were n reader begun at there in
        let has = all.polled n reader begun was.0 was.1 replays in
        (have-then (base_of reader begun) has.0, have-then (view_of reader begun).manifest.last_l0_seq has.1, λ last is. have-then last.manifest.last_l0_seq (has.2 last is));
  }
