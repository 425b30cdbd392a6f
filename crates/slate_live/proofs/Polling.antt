-- Over a run, a poll finds no key without a segment.
use Rattle.std.proofs.Common.{◌≡◌, ◌⊎◌, ◌∷◌, ◌∙◌, ◌≤◌, [], inl, inr, ℕ, ℤ, Bool, true, false, zero, suc, List, map, Option, Some, None, Result, Ok, Err, IfErr, refl, sym, subst, ap, arith}
use Rattle.std.specs.List.{All, slice_get}
use Rattle.std.specs.Option.{unwrap_or}
use Rattle.std.proofs.lemmas.List.Elements.{All-head, All-tail}
use Rattle.slate_store.specs.declared.reader_modes.DbReaderMode.{DbReaderMode}
use Rattle.slate_store.specs.declared.reader_modes.DbReaderMode.TheVariants as modes
use Rattle.slate_errors.specs.Errors.{closed_error}
use Rattle.slate_errors.specs.declared.closing.CloseFault.{CloseFault}
use Rattle.slate_errors.specs.declared.closing.CloseFault.TheVariants as faults
use Rattle.slate_errors.specs.declared.endings.Ended.{Ended}
use Rattle.slate_errors.specs.declared.errors.SlateError.{SlateError}
use Rattle.slate_errors.specs.declared.errors.SlateError.TheVariants as errors
use Rattle.slate_model.specs.Catalogue.{Catalogue, Span}
use Rattle.slate_model.specs.Close.{closed_follower}
use Rattle.slate_model.specs.Follow.{AreFollowed, LacksSegment, Polls}
use Rattle.slate_model.specs.Follower.{Follower, is_managed, is_pinned}
use Rattle.slate_model.specs.Handle.{CloseResult, Handle}
use Rattle.slate_model.specs.Open.{replayed}
use Rattle.slate_model.proofs.Reduced.{some-same}
use Rattle.slate_types.specs.Line.{Line, batches_above}
use Rattle.slate_store.specs.Checkpoints.{Plan, found, lease_end, to_refresh}
use Rattle.slate_store.specs.Content.{IdsRise}
use Rattle.slate_store.specs.Objects.{latest_manifest}
use Rattle.slate_store.specs.declared.objects.Checkpoint.{Checkpoint}
use Rattle.slate_store.specs.declared.objects.Manifest.{Manifest}
use Rattle.slate_store.specs.declared.refusals.StoreRefusal.TheVariants as refusals
use Rattle.slate_store.specs.declared.objects.VersionedManifest.{VersionedManifest}
use Rattle.slate_model.specs.Knowledge.{Knowledge}
use Rattle.slate_model.specs.Known.{Known, Untouched}
use Rattle.slate_model.specs.Managed.{KeepsLease, PollsLeased, PollsManaged, PollsTwice, RenewalCause, poll_result}
use Rattle.slate_model.proofs.Rounds.{rounds}
use Rattle.slate_model.specs.Object.{Object, Handle as AHandle, Snapshot as ASnapshot, Follower as AFollower}
use Rattle.slate_model.specs.Stores.{by_catalogue}
use Rattle.slate_model.specs.Write.{last_number}
use Rattle.slate_model.specs.declared.answers.PollAnswer.{PollAnswer}
use Rattle.slate_model.specs.declared.answers.PollAnswer.TheVariants.{Whole, Truncated}
use Rattle.slate_model.specs.declared.leases.Lease.{Lease}
use Rattle.slate_model.specs.declared.snapshots.HandleSnapshot.{HandleSnapshot}
use Rattle.slate_script.specs.declared.commands.Action.TheVariants as actions
use Rattle.slate_script.specs.declared.commands.Command.{Command}
use Rattle.slate_script.specs.declared.replies.Reply.{Reply}
use Rattle.slate_script.specs.declared.replies.Reply.TheVariants as replies
use Rattle.slate_live.specs.declared.states.Write.{Write}
use Rattle.slate_live.specs.Calls.{Begins, Call, Kind, Steps, Whole, Write as WriteCall, Merge as MergeCall, Flush, Refresh, Compact, Get, Scan, Seek, Close, Poll, Status, FindTime, FindNumber, Nothing, call_of, kind_of, target_of}
use Rattle.slate_live.specs.Commands.{ActsOn, DoesBy, ReadsSnapshot}
use Rattle.slate_live.specs.Followers.{ClosesAs, FollowerActs, PollsAs}
use Rattle.slate_live.specs.Replies.{polled_reply, refusal, reply_to}
use Rattle.slate_live.specs.Next.{IsFull, NextBy, NextStep, StepLeaves}
use Rattle.slate_live.specs.Represents.{AreInSegments, HaveSegments, IsFollowerAt, IsReached, replays_all}
use Rattle.slate_live.specs.Rising.{Rise, Rises}
use Rattle.slate_live.specs.Settings.{Settings}
use Rattle.slate_live.specs.Statuses.{PollsFit, PollsIt}
use Rattle.slate_live.specs.Steps.{Chain, Step}
use Rattle.slate_live.specs.Valid.{Link}
use Rattle.slate_live.specs.World.{NextWhole, World, state_of}
use Rattle.slate_live.proofs.Cases.{by-bool, by-option, some-of}
use Rattle.slate_live.proofs.Everywhere.{everywhere}
use Rattle.slate_live.proofs.Filling.{broken, end-full, keep-full, recorded-is, refused-is}
use Rattle.slate_live.proofs.Leases.{latest-after, nothing-spared}
use Rattle.slate_live.proofs.Naming.{follower-did, handle-acted}
use Rattle.slate_live.proofs.Rising.{managed-mode}
use Rattle.slate_live.proofs.Places.{get-set}
use Rattle.slate_live.proofs.Polled.{segments-polled}
use Rattle.slate_live.proofs.Segmented.{none-lacks, risen-replays, segmented-next}

-- ---- what is recorded and answered
closed-is : (q : Result (Unit {0}) CloseFault) → closed_error q ≡ errors.InvalidDBState → Some q ≡ broken
closed-is (Ok u) is = absurd (cc)
closed-is (Err faults.InvalidDBState) is = refl
closed-is (Err fault) is = absurd (cc)

polled-not : (answer : PollAnswer) → polled_reply answer ≡ replies.Refused errors.InvalidDBState → ⊥
polled-not (Whole at) is = absurd (cc)
polled-not (Truncated at) is = absurd (cc)

-- a reader that this closed finds no id left
abbrev Broken : World → Object → Type 0
Broken w (AHandle h) = Unit {0}
Broken w (ASnapshot s) = Unit {0}
Broken w (AFollower f) = f.result ≡ broken → IsFull w

abbrev AllBroken : World → Type 0
AllBroken w = (n : ℕ) (object : Object) → slice_get w.objects n ≡ Some object → Broken w object

free-mode : (mode : DbReaderMode) → is_managed mode ≡ true → is_pinned mode ≡ false
free-mode modes.ManagedCheckpoint managed = refl
free-mode modes.FollowLatest managed = absurd (cc)
free-mode (modes.Checkpoint id) managed = absurd (cc)

-- ---- a poll
module _ (settings : Settings) (w : World) (reached : IsReached w) (segments : AreInSegments settings.extractor w) (n : ℕ) (f f' : Follower) (at : IsFollowerAt w.objects n f) (had : Broken w (AFollower f)) (made : ℕ) (moment : ℤ) (after : Known Span) where
  abbrev k : Knowledge Span
  k = by_catalogue w.stored w.catalogue

  -- an open reader that keeps a checkpoint
  leased-full : (lease : Lease) (r : Result PollAnswer SlateError) → is_managed f.mode ≡ true → KeepsLease k settings.extractor made lease moment f (state_of w).store r f' after → r ≡ Err errors.InvalidDBState → IsFull w
  leased-full lease r managed p is = elim (p.segmented w.catalogue w.stored refl refl tt is) [
    | inl plan ↦ (plan.0, plan.1, keep-full f.view plan.0 lease moment plan.2)
    | inr lacks ↦
        let mode = managed-mode f.mode managed in
        absurd (none-lacks settings.extractor w (reached.0).line segments n f at (free-mode f.mode managed) (subst (λ m. LacksSegment k settings.extractor m f.skips false w.catalogue w.stored) (sym mode) lacks))
  ]

  -- no manifest can follow the latest one, before it or after
  abbrev pub Full : Type 0
  Full = IsFull w ⊎ ((o : Catalogue) × (after.objects ≡ Some o) × (latest : VersionedManifest) × (latest_manifest o ≡ Some latest) × (last_number ≤ latest.id))

  -- so where the renewal fails that follows a round
  twice-full : (lease : Lease) (r : Result PollAnswer SlateError) → PollsTwice k settings.extractor made lease moment f (state_of w).store r f' after → r ≡ Err errors.InvalidDBState → Full
  twice-full lease r p is =
      let both = rounds k settings.extractor made lease moment f w.catalogue w.faults r f' after p (subst (λ (x : Catalogue). IdsRise (map (λ e. e.0) x.manifests)) (reached.3).catalogue (reached.2).manifests) in
      let view = (p.middle).view in
      let refused = subst (λ (x : Result PollAnswer SlateError). IfErr x (RenewalCause (to_refresh (p.given).id (p.given).lifetime moment view))) is both.renews.cause in
      let same : both.last ≡ both.between = elim both.parts [
        | inl same ↦ same
        | inr again ↦ absurd (let no : ◌≡◌ {A = Plan Checkpoint} (Ok (Some again.0, again.1)) (Err refusals.InvalidDBState) = sym again.2 ∙ refused in cc)
      ] in
      inr (both.last, both.there_last, view, ap latest_manifest same ∙ both.next_is, end-full (p.given).id (lease_end moment (p.given).lifetime) view (found (p.given).id view) refused)

  rounds-full : (lease : Lease) (r : Result PollAnswer SlateError) → is_managed f.mode ≡ true → PollsLeased k settings.extractor made lease moment f (state_of w).store r f' after → r ≡ Err errors.InvalidDBState → Full
  rounds-full lease r managed (inl once) is = inl (leased-full lease r managed once.round is)
  rounds-full lease r managed (inr twice) is = twice-full lease r twice is

  -- a closed one
  shut-full : (r : Result PollAnswer SlateError) (q : Result (Unit {0}) CloseFault) → f.result ≡ Some q → r ≡ Err (closed_error q) → r ≡ Err errors.InvalidDBState → IsFull w
  shut-full r q shut error is =
      let both : ◌≡◌ {A = Result PollAnswer SlateError} (Err (closed_error q)) (Err errors.InvalidDBState) = sym error ∙ is in
      let same : closed_error q ≡ errors.InvalidDBState = cc in
      had (shut ∙ closed-is q same)

  managed-full : (r : Result PollAnswer SlateError) → is_managed f.mode ≡ true → PollsManaged k settings.extractor made moment f (state_of w).store r f' after → r ≡ Err errors.InvalidDBState → Full
  managed-full r managed p is =
      by-option f.result
      (λ live. by-option f.lease
      (λ none. absurd (let there = ((reached.0).followers n f at).2 managed live in cc))
      (λ lease its. rounds-full lease r managed (p.keeps lease live its) is))
      (λ q shut. inl (shut-full r q shut (some-of (λ q. (r ≡ Err (closed_error q)) × (f' ≡ f) × Untouched made (state_of w).store after) f.result q shut p.closed).0 is))

  free-full : (r : Result PollAnswer SlateError) → Polls k settings.extractor f (state_of w).store r f' after → r ≡ Err errors.InvalidDBState → Full
  free-full (Ok answer) p is = absurd (cc)
  free-full (Err e) p is =
      let same : e ≡ errors.InvalidDBState = cc in
      by-option f.result
      (λ live. by-bool (is_pinned f.mode)
      (λ stays. absurd (let no = (p.pinned live stays).0 in cc))
      (λ free. absurd (none-lacks settings.extractor w (reached.0).line segments n f at free
      (subst (λ e. AreFollowed {A = Follower × PollAnswer} k settings.extractor f.mode f.skips false w.catalogue w.stored (Err e)) same ((p.rebuilds live free).segmented w.catalogue w.stored refl refl tt)))))
      (λ q shut. inl (shut-full (Err e) q shut (some-of (λ q. (◌≡◌ {A = Result PollAnswer SlateError} (Err e) (Err (closed_error q))) × (after ≡ (state_of w).store)) f.result q shut p.closed).0 is))

  polled-full : (managed : Bool) (r : Result PollAnswer SlateError) → is_managed f.mode ≡ managed → PollsAs k settings.extractor managed made moment f (state_of w).store r f' after → r ≡ Err errors.InvalidDBState → Full
  polled-full true r managed p is = managed-full r managed p is
  polled-full false r managed p is = free-full r p.0 is

  -- and what it leaves
  kept-broken : f' ≡ f → f'.result ≡ broken → Full
  kept-broken same is = inl (had (sym (ap (λ (g : Follower). g.result) same) ∙ is))

  free-broken : (r : Result PollAnswer SlateError) → Polls k settings.extractor f (state_of w).store r f' after → f'.result ≡ broken → Full
  free-broken (Err e) p is = kept-broken p.failed is
  free-broken (Ok answer) p is =
      by-option f.result
      (λ live. by-bool (is_pinned f.mode)
      (λ stays. kept-broken (p.pinned live stays).1 is)
      (λ free. absurd (let open_ = ((p.rebuilds live free).answer).4 in cc)))
      (λ q shut. absurd (let no = (some-of (λ q. (◌≡◌ {A = Result PollAnswer SlateError} (Ok answer) (Err (closed_error q))) × (after ≡ (state_of w).store)) f.result q shut p.closed).0 in cc))

  leased-broken : (lease : Lease) (r : Result PollAnswer SlateError) → is_managed f.mode ≡ true → PollsLeased k settings.extractor made lease moment f (state_of w).store r f' after → f'.result ≡ broken → Full
  leased-broken lease (Ok answer) managed (inl once) is = absurd (let open_ = ((once.round).answers).3 in cc)
  leased-broken lease (Ok answer) managed (inr twice) is = absurd (let open_ = ap (λ (g : Follower). g.result) (twice.answers).1 ∙ ((twice.round).answers).3 in cc)
  leased-broken lease (Err e) managed (inl once) is =
      let recorded : poll_result e ≡ broken = sym (ap (λ (g : Follower). g.result) (once.round).failed) ∙ is in
      inl (leased-full lease (Err e) managed once.round (ap Err (recorded-is e recorded)))
  leased-broken lease (Err e) managed (inr twice) is =
      let recorded : poll_result e ≡ broken = sym (ap (λ (g : Follower). g.result) twice.failed) ∙ is in
      twice-full lease (Err e) twice (ap Err (recorded-is e recorded))

  managed-broken : (r : Result PollAnswer SlateError) → is_managed f.mode ≡ true → PollsManaged k settings.extractor made moment f (state_of w).store r f' after → f'.result ≡ broken → Full
  managed-broken r managed p is =
      by-option f.result
      (λ live. by-option f.lease
      (λ none. absurd (let there = ((reached.0).followers n f at).2 managed live in cc))
      (λ lease its. leased-broken lease r managed (p.keeps lease live its) is))
      (λ q shut. kept-broken (some-of (λ q. (r ≡ Err (closed_error q)) × (f' ≡ f) × Untouched made (state_of w).store after) f.result q shut p.closed).1 is)

  polled-broken : (managed : Bool) (r : Result PollAnswer SlateError) → is_managed f.mode ≡ managed → PollsAs k settings.extractor managed made moment f (state_of w).store r f' after → f'.result ≡ broken → Full
  polled-broken true r managed p is = managed-broken r managed p is
  polled-broken false r managed p is = free-broken r p.0 is

  closed-broken : f' ≡ closed_follower f → f'.result ≡ broken → Full
  closed-broken same is = by f.result refl where
    by : (result : CloseResult) → f.result ≡ result → Full
    by None live =
        let no : ◌≡◌ {A = CloseResult} (Some (Ok tt)) broken = ap (λ r. Some (unwrap_or r (Ok tt))) (sym live) ∙ (sym (ap (λ (g : Follower). g.result) same) ∙ is) in
        absurd (cc)
    by (Some q) shut =
        let its : Some q ≡ broken = ap (λ r. Some (unwrap_or r (Ok tt))) (sym shut) ∙ (sym (ap (λ (g : Follower). g.result) same) ∙ is) in
        inl (had (shut ∙ its))

  ended-broken : (managed : Bool) (answer : Ended) → ClosesAs k managed made f (state_of w).store answer f' after → f'.result ≡ broken → Full
  ended-broken true answer c is = closed-broken c.closed is
  ended-broken false answer c is = closed-broken c.1 is

  follower-broken : (call : Call) (reply : Reply) (writes' : List Write) → FollowerActs k settings moment call made f (state_of w).store w.writes reply f' after writes' → f'.result ≡ broken → Full
  follower-broken (Get key remote snapshot) reply writes' a is = kept-broken a.1 is
  follower-broken (Scan range order remote snapshot) reply writes' a is = kept-broken a.1 is
  follower-broken (Seek range take key order remote snapshot) reply writes' a is = kept-broken a.1 is
  follower-broken (Close t) reply writes' a is = ended-broken (is_managed f.mode) (a.0).answer (a.0).does is
  follower-broken Poll reply writes' a is = polled-broken (is_managed f.mode) (a.0).result refl (a.0).does is
  follower-broken Status reply writes' a is = kept-broken a.1 is
  follower-broken (WriteCall ops) reply writes' a is = kept-broken a.1 is
  follower-broken (MergeCall op) reply writes' a is = kept-broken a.1 is
  follower-broken (Flush t) reply writes' a is = kept-broken a.1 is
  follower-broken Refresh reply writes' a is = kept-broken a.1 is
  follower-broken Compact reply writes' a is = kept-broken a.1 is
  follower-broken (FindTime number find) reply writes' a is = kept-broken a.1 is
  follower-broken (FindNumber seconds find) reply writes' a is = kept-broken a.1 is
  follower-broken Nothing reply writes' a is = kept-broken a.1 is

-- ---- a step
module _ (settings : Settings) (w w' : World) (command : Command) (reply : Reply) (reached : IsReached w) (reached' : IsReached w') (next : NextWhole settings w command reply w') (segments : AreInSegments settings.extractor w) (all : AllBroken w) where
  abbrev known : Knowledge Span
  known = by_catalogue w.stored w.catalogue

  -- the latest manifest has no lower id afterwards
  full-after : IsFull w → IsFull w'
  full-after (latest, is, full) =
      let c = latest-after settings w w' command reply reached reached' next (λ manifest. Unit {0}) latest is (nothing-spared w latest command) in
      let up = c.up in
      (c.latest, c.is, omega (arith, full, up))

  full-then : (IsFull w ⊎ ((o : Catalogue) × ((state_of w').store.objects ≡ Some o) × (latest : VersionedManifest) × (latest_manifest o ≡ Some latest) × (last_number ≤ latest.id))) → IsFull w'
  full-then (inl full) = full-after full
  full-then (inr (o, at, latest, is, full)) = (latest, ap latest_manifest (some-same w'.catalogue o at) ∙ is, full)

  broken-after : (object : Object) → Broken w object → Broken w' object
  broken-after (AHandle h) had = tt
  broken-after (ASnapshot s) had = tt
  broken-after (AFollower f) had = λ is. full-after (had is)

  step-broken : AllBroken w'
  step-broken =
      everywhere settings w command next.made reply (state_of w') (Broken w') (record {
        old = λ n object at. broken-after object (all n object at);
        handle = λ n call h h' at a. tt;
        snapshot = λ snapshot. tt;
        follower = λ n f f' at names a is. full-then (follower-broken settings w reached segments n f f' at (all n (AFollower f) at) next.made command.moment (state_of w').store (call_of command.action) reply w'.writes a is);
        opened = λ keeps_log h d. tt;
        followed = λ mode skips lag b d is. absurd (let open_ = (d.answer).4 in cc);
        taken = λ lifetime skips lag b d is. absurd (let open_ = (d.answers).3 in cc);
      }) next.does

  module _ (n : ℕ) (names : command.action ≡ actions.Poll n) (replied : reply ≡ refusal errors.InvalidDBState) where
    unknown : reply ≡ replies.Unknown → ⊥
    unknown is = let both : replies.Unknown ≡ replies.Refused errors.InvalidDBState = sym is ∙ replied in absurd (cc)

    read-snapshot : (y : HandleSnapshot) (found : Option Object) → ReadsSnapshot known settings y command Poll next.made found (state_of w) reply (state_of w') → ⊥
    read-snapshot y (Some (AHandle h)) a = let d = handle-acted known settings y.handle command Nothing next.made (state_of w) reply (state_of w') h a in unknown d.acts.0
    read-snapshot y (Some (ASnapshot z)) a = unknown a.1
    read-snapshot y (Some (AFollower f)) a = unknown a.1
    read-snapshot y None a = unknown a.1

    answers : (r : Result PollAnswer SlateError) → reply ≡ reply_to polled_reply r → r ≡ Err errors.InvalidDBState
    answers (Ok answer) is = absurd (polled-not answer (sym is ∙ replied))
    answers (Err e) is = ap Err (refused-is e (sym is ∙ replied))

    on-poll : (found : Option Object) → slice_get w.objects n ≡ found → ActsOn known settings n command Poll next.made found (state_of w) reply (state_of w') → IsFull w'
    on-poll None at a = absurd (unknown a.1)
    on-poll (Some (ASnapshot y)) at a = absurd (read-snapshot y (slice_get w.objects y.handle) a)
    on-poll (Some (AHandle h)) at a = let d = handle-acted known settings n command Poll next.made (state_of w) reply (state_of w') h a in absurd (unknown d.acts.0)
    on-poll (Some (AFollower f)) at a =
        let d = follower-did known settings n command Poll next.made (state_of w) reply (state_of w') (Some (AFollower f)) f refl a in
        let p = d.acts.0 in
        full-then (polled-full settings w reached segments n f d.new at (all n (AFollower f) at) next.made command.moment (state_of w').store (is_managed f.mode) p.result refl p.does (answers p.result p.replied))

    poll-full : IsFull w'
    poll-full =
        let does = subst (λ t. DoesBy known settings command t next.made (state_of w) reply (state_of w')) (ap target_of names) next.does in
        on-poll (slice_get w.objects n) refl (subst (λ c. ActsOn known settings n command c next.made (slice_get w.objects n) (state_of w) reply (state_of w')) (ap call_of names) does)

-- ---- polls by single calls
module _ (settings : Settings) (n : ℕ) (w w' : World) (reply : Reply) (reached : IsReached w) (next : NextStep settings n w reply w') (leaves : StepLeaves settings.extractor n w reply w') (rises : Rise w.objects w'.objects) where
  -- an object after it was there before, or is the reader that it is a step of
  was-there : (i : ℕ) (object : Object) → slice_get w'.objects i ≡ Some object → (old : Object) × (slice_get w.objects i ≡ Some old) × ((old ≡ object) ⊎ ((i ≡ n) × (new : Follower) × (object ≡ AFollower new)))
  was-there i object there = elim leaves.objects [
    | inl same ↦ (object, sym (ap (λ os. slice_get os i) same) ∙ there, inl refl)
    | inr changed ↦ elim (get-set w.objects n i (AFollower changed.1) object (AFollower changed.0) changed.2 (sym (ap (λ os. slice_get os i) changed.3) ∙ there)) [
      | inl here ↦ (AFollower changed.0, subst (λ j. slice_get w.objects j ≡ Some (AFollower changed.0)) (sym here.0) changed.2, inr (here.0, changed.1, sym here.1))
      | inr other ↦ (object, other.1, inl refl)
    ]
  ]

  -- what a step leaves of the keys
  stepped-segments : AreInSegments settings.extractor w → AreInSegments settings.extractor w'
  stepped-segments segments = record {
    unstored = λ i h there. segments.unstored i h (handle-was i h (was-there i (AHandle h) there));
    stored = λ i object latest' there all found.
        let old = was-there i object there in
        let past = (reached.0).past i old.0 old.1 in
        let have = segments.stored i old.0 past.0 old.1 (replays-was i object old.0 there old.1 all) past.1 in
        let l = leaves.latest past.0 past.1 in
        let same : l.0 ≡ latest' = some-same l.0 latest' (sym l.1 ∙ found) in
        let number : latest'.manifest.last_l0_seq ≡ (past.0).manifest.last_l0_seq = sym (ap (λ (v : VersionedManifest). v.manifest.last_l0_seq) same) ∙ ap (λ (m : Manifest). m.last_l0_seq) l.2 in
        subst (λ (line : Line). HaveSegments settings.extractor (replayed latest' line)) (sym next.stored)
        (subst (λ k. HaveSegments settings.extractor (batches_above k w.stored.batches)) (sym number) have);
  }
    where
      handle-was : (i : ℕ) (h : Handle) → ((old : Object) × (slice_get w.objects i ≡ Some old) × ((old ≡ AHandle h) ⊎ ((i ≡ n) × (new : Follower) × (AHandle h ≡ AFollower new)))) → slice_get w.objects i ≡ Some (AHandle h)
      handle-was i h (old, there, inl same) = there ∙ ap Some same
      handle-was i h (old, there, inr other) = absurd (let no = other.2 in cc)

      replays-was : (i : ℕ) (object old : Object) → slice_get w'.objects i ≡ Some object → slice_get w.objects i ≡ Some old → replays_all object ≡ true → replays_all old ≡ true
      replays-was i object old there here all =
          let up = rises i old here in
          risen-replays old object (subst (Rises old) (some-same up.0 object (sym up.1 ∙ there)) up.2) all

  full-stepped : IsFull w → IsFull w'
  full-stepped (latest, is, full) = let l = leaves.latest latest is in let up = l.3 in (l.0, l.1, omega (arith, full, up))

  stepped-broken : AllBroken w → AllBroken w'
  stepped-broken all i (AHandle h) there = tt
  stepped-broken all i (ASnapshot s) there = tt
  stepped-broken all i (AFollower f) there = λ is. elim old.2 [
    | inl same ↦ full-stepped (let had : Broken w (AFollower f) = subst (Broken w) same (all i old.0 old.1) in had is)
    | inr mine ↦ elim (leaves.closes f (subst (λ j. slice_get w'.objects j ≡ Some (AFollower f)) mine.0 there) is) [
      | inl replied ↦ leaves.full replied
      | inr objects ↦ full-stepped (all i (AFollower f) (sym (ap (λ os. slice_get os i) objects) ∙ there) is)
    ]
  ]
    where
      old : (old : Object) × (slice_get w.objects i ≡ Some old) × ((old ≡ AFollower f) ⊎ ((i ≡ n) × (new : Follower) × (AFollower f ≡ AFollower new)))
      old = was-there i (AFollower f) there

-- ---- the law
module _ (settings : Settings) (w : World) (s : Step) (reached : IsReached w) (reached' : IsReached s.world) (link : Link settings w s.command s.reply s.world) (segments : AreInSegments settings.extractor w) (broken_are : AllBroken w) where
  next-of : (kind : Kind) → kind_of s.command.action ≡ kind → NextBy kind settings w s.command s.reply s.world
  next-of kind is = subst (λ k. NextBy k settings w s.command s.reply s.world) is link.next

  segments-then : AreInSegments settings.extractor s.world
  segments-then = by (kind_of s.command.action) refl
    where
      by : (kind : Kind) → kind_of s.command.action ≡ kind → AreInSegments settings.extractor s.world
      by Whole is = segmented-next settings w s.world s.command s.reply reached reached' (next-of Whole is) segments
      by (Begins i) is = subst (AreInSegments settings.extractor) (sym (next-of (Begins i) is).same) (segments-polled w (s.world).polls settings.extractor segments)
      by (Steps i) is = stepped-segments settings i w s.world s.reply reached (next-of (Steps i) is) (link.leaves i is) link.rises segments

  broken-then : AllBroken s.world
  broken-then = by (kind_of s.command.action) refl
    where
      by : (kind : Kind) → kind_of s.command.action ≡ kind → AllBroken s.world
      by Whole is = step-broken settings w s.world s.command s.reply reached reached' (next-of Whole is) segments broken_are
      by (Begins i) is = subst AllBroken (sym (next-of (Begins i) is).same) (λ n object at. same-broken object (broken_are n object at))
        where
          same-broken : (object : Object) → Broken w object → Broken (record w { polls = (s.world).polls }) object
          same-broken (AHandle h) had = tt
          same-broken (ASnapshot y) had = tt
          same-broken (AFollower f) had = λ shut. let full = had shut in (full.0, full.1, full.2)
      by (Steps i) is = stepped-broken settings i w s.world s.reply reached (next-of (Steps i) is) (link.leaves i is) link.rises broken_are

  polls-full : (n : ℕ) → PollsIt n s.command.action → s.reply ≡ refusal errors.InvalidDBState → IsFull s.world
  polls-full n (inl names) replied = poll-full settings w s.world s.command s.reply reached reached' (next-of Whole (ap kind_of names)) segments broken_are n names replied
  polls-full n (inr names) replied = (link.leaves n (ap kind_of names)).full replied

fit-from : (settings : Settings) (w : World) (steps : List Step) → IsReached w → AreInSegments settings.extractor w → AllBroken w → Chain settings w steps → All (λ (step : Step). IsReached step.world) steps → PollsFit steps
fit-from settings w [] reached segments broken_are chain all i n step at names replied = absurd (cc)
fit-from settings w (s ∷ steps) reached segments broken_are (link, chain) all zero n step at names replied =
    let is : s ≡ step = cc in
    subst (λ (x : Step). IsFull x.world) is
    (polls-full settings w s reached (All-head (λ (step : Step). IsReached step.world) s steps all) link segments broken_are n (subst (λ (x : Step). PollsIt n x.command.action) (sym is) names) (ap (λ (x : Step). x.reply) is ∙ replied))
fit-from settings w (s ∷ steps) reached segments broken_are (link, chain) all (suc i) n step at names replied =
    let reached' = All-head (λ (step : Step). IsReached step.world) s steps all in
    fit-from settings s.world steps reached' (segments-then settings w s reached reached' link segments broken_are) (broken-then settings w s reached reached' link segments broken_are)
    chain (All-tail (λ (step : Step). IsReached step.world) s steps all) i n step at names replied

pub polls_fit : (settings : Settings) (w : World) (steps : List Step) → w.objects ≡ [] → IsReached w → AreInSegments settings.extractor w → Chain settings w steps → All (λ step. IsReached step.world) steps → PollsFit steps
polls_fit settings w steps none reached segments chain all =
    fit-from settings w steps reached segments (λ n object at. absurd (let gone = sym (ap (λ os. slice_get os n) none) ∙ at in cc)) chain all
