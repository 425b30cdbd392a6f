-- What a command that makes the next call of a begun poll does over a store makes a link from each world that is represented.
use Rattle.std.proofs.Common.{◌≡◌, ◌≢◌, ◌∙◌, ◌⊎◌, ◌&&◌, not, inl, inr, ℕ, ◌+◌, ◌<◌, ◌≤◌, max, Bool, true, false, if◌then◌else◌, List, option_map, set, Option, Some, None, Result, Ok, Err, refl, sym, ap, subst, arith, ◌||◌}
use Rattle.std.proofs.lemmas.Bool.{ltb-true}
use Rattle.std.specs.List.{slice_get}
use Rattle.std.specs.Option.{is_some, IfSome, MatchOption, is_none}
use Rattle.std.specs.Prelude.{nat_lt}
use Rattle.std.specs.Result.{IfErr}
use Rattle.slate_types.specs.declared.batches.Batch.{Batch}
use Rattle.slate_types.specs.declared.store_errors.StoreFault.TheVariants.{Unavailable}
use Rattle.slate_store.specs.Calls.{HasRisen, KeepsFaults}
use Rattle.slate_types.specs.Line.{Line, end}
use Rattle.slate_store.specs.Checkpoints.{found as found_in}
use Rattle.slate_store.specs.Objects.{Objects, PutManifest, changed, is_present, latest_manifest}
use Rattle.slate_store.specs.declared.objects.Checkpoint.{Checkpoint}
use Rattle.slate_store.specs.Content.{content}
use Rattle.slate_store.specs.declared.objects.VersionedManifest.{VersionedManifest}
use Rattle.slate_errors.specs.declared.closing.CloseFault.TheVariants as faults
use Rattle.slate_errors.specs.declared.errors.SlateError.{SlateError}
use Rattle.slate_errors.specs.declared.errors.SlateError.TheVariants as errors
use Rattle.slate_model.specs.Begun.{Begun, Breaks, Ends, Fails, Goes, Puts, Turn, ReadsLatest, Stage, taken}
use Rattle.slate_model.specs.Catalogue.{catalogue_of}
use Rattle.slate_model.specs.Follow.{come_by}
use Rattle.slate_model.specs.Follower.{Follower, HasSegments, is_managed, is_pinned, kept_follower, number, unsegmented}
use Rattle.slate_model.specs.Known.{Known}
use Rattle.slate_model.specs.Open.{replayed}
use Rattle.slate_model.specs.Managed.{poll_result}
use Rattle.slate_model.specs.Object.{Object, Handle as AHandle, Snapshot as ASnapshot, Follower as AFollower, kept}
use Rattle.slate_model.specs.Segments.{Extractor, segments_of}
use Rattle.slate_model.specs.Stood.{WasLatest}
use Rattle.slate_model.specs.declared.answers.PollAnswer.{PollAnswer}
use Rattle.slate_model.specs.declared.answers.PollAnswer.TheVariants as answers
use Rattle.slate_model.specs.Write.{last_number}
use Rattle.slate_model.specs.declared.leases.Lease.{Lease}
use Rattle.slate_model.specs.declared.polls.FirstRead.{FirstRead}
use Rattle.slate_model.proofs.Coming.{planned-other}
use Rattle.slate_model.proofs.Keeping.{above-twice, line_above-end}
use Rattle.slate_model.proofs.Maintained.{Maintained}
use Rattle.slate_model.proofs.Prefixes.{prefix-end, prefix-same}
use Rattle.slate_model.proofs.Reduced.{some-same}
use Rattle.slate_follow.proofs.Eighth.{tries-eight}
use Rattle.slate_follow.proofs.Lasting.{few-steps, lasts-breaks}
use Rattle.slate_follow.specs.Following.{FollowsLine}
use Rattle.slate_follow.specs.Lasting.{IsEighth, IsOfEighth, IsOvertaken, LastsSince, TablesGrew, TriesEight}
use Rattle.slate_follow.specs.Answering.{IsOfPoll}
use Rattle.slate_follow.specs.Stepping.{ArrivalLacks, Meets, MeetsAt, StepFails, StepLacks, Steps, failed_by}
use Rattle.slate_script.specs.declared.commands.Action.TheVariants as actions
use Rattle.slate_script.specs.declared.commands.Command.{Command}
use Rattle.slate_script.specs.declared.replies.Reply.{Reply}
use Rattle.slate_script.specs.declared.replies.Reply.TheVariants as replies
use Rattle.slate_live.specs.Calls.{Steps as StepsKind, kind_of}
use Rattle.slate_live.specs.Confirmed.{Sees}
use Rattle.slate_live.specs.Next.{HasLease, NextBy, most_now, shown, stored_in, owed_first, owed_now, owed_past, tabled_number}
use Rattle.slate_live.specs.Replies.{polled_reply, refusal, reply_to}
use Rattle.slate_live.specs.Represents.{AllInSegments, HaveSegments, IsFollowerAt, PollHasSegments, Represents, RepresentsObjects, StandsAt, follows_all, StandsOn}
use Rattle.slate_live.specs.Causes.{HasCauses}
use Rattle.slate_live.specs.Reaching.{IsApart, ReachesTo}
use Rattle.slate_live.specs.Rising.{FollowerRises}
use Rattle.slate_live.specs.Settings.{Settings}
use Rattle.slate_live.specs.Standing.{IsStaged, PollStands, StandsBeside}
use Rattle.slate_live.specs.State.{IsBegunAt, Live}
use Rattle.slate_live.specs.Stepping.{MakesCall, StepsAt, StepsObject, StepsOf, StepsOn, StepsPoll, StepsReader, poll_left, stepped_reply}
use Rattle.slate_live.specs.Valid.{AtObject, CanStep, IsStepped, IsStoreFault, IsValidCommand, IsValidKind, Link}
use Rattle.slate_live.specs.World.{World}
use Rattle.slate_live.proofs.Begun.{steps-is}
use Rattle.slate_live.proofs.Beside.{IsLatestBut, IsOfStored, ends-stored, put-tops, reader-stands, steps-after, steps-latest, steps-left, steps-maintain, steps-were, Aims, ends-number, ends-reach, goes-reaches}
use Rattle.slate_live.proofs.BesideWorld.{latest-high}
use Rattle.slate_live.proofs.Cases.{is-none}
use Rattle.slate_live.proofs.Filling.{meets-fails, recorded-is, refused-is}
use Rattle.slate_live.proofs.Going.{meets-goes}
use Rattle.slate_live.proofs.Keyed.{bare-lacks, stored-lacks, turn-has}
use Rattle.slate_live.proofs.KnownFollower.{unchanged-objects}
use Rattle.slate_live.proofs.Onward.{beside-onward, onward-maintained}
use Rattle.slate_live.proofs.Places.{get-map, set-same}
use Rattle.slate_live.proofs.Planning.{staged-leased, staged-planned}
use Rattle.slate_live.proofs.Polled.{shown-is, stored-is}
use Rattle.slate_live.proofs.Rising.{follower-same, rise-same}
use Rattle.slate_live.proofs.Turns.{OfTurn}
use Rattle.slate_live.proofs.Sparing.{ComesFrom, IsOfPut, IsSpared, step-leases, step-spares}
use Rattle.slate_live.proofs.Skipping.{meets-bare}
use Rattle.slate_live.proofs.SteppedWorld.{owed-mine, stepped}

-- ---- a reader that failed
failed-kept : (e : SlateError) (reader : Follower) → kept_follower (failed_by e reader) ≡ failed_by e (kept_follower reader)
failed-kept e reader = by (is_managed reader.mode)
  where
    by : (managed : Bool) → kept_follower (if managed then record reader { result = poll_result e } else reader) ≡ (if managed then record (kept_follower reader) { result = poll_result e } else kept_follower reader)
    by true = refl
    by false = refl

failed-tasks : (e : SlateError) (reader : Follower) (managed : Bool) → (if managed then record reader { result = poll_result e } else reader).tasks ≡ reader.tasks
failed-tasks e reader true = refl
failed-tasks e reader false = refl

failed-lease : (e : SlateError) (reader : Follower) (managed : Bool) → (if managed then record reader { result = poll_result e } else reader).lease ≡ reader.lease
failed-lease e reader true = refl
failed-lease e reader false = refl

failed-viewed : (e : SlateError) (reader : Follower) (managed : Bool) (P : VersionedManifest → Type 0) → (follows_all reader.mode reader.skips ≡ true → P reader.view) →
    follows_all (if managed then record reader { result = poll_result e } else reader).mode (if managed then record reader { result = poll_result e } else reader).skips ≡ true → P (if managed then record reader { result = poll_result e } else reader).view
failed-viewed e reader true P has = has
failed-viewed e reader false P has = has

failed-has : (x : Option Extractor) (e : SlateError) (reader : Follower) (managed : Bool) → HasSegments x reader → HasSegments x (if managed then record reader { result = poll_result e } else reader)
failed-has x e reader true has = has
failed-has x e reader false has = has

-- what a reader has of segments, what is kept of it has, and the other way round
kept-has : (x : Option Extractor) (reader : Follower) → HasSegments x reader → HasSegments x (kept_follower reader)
kept-has x reader has = has ∙ ap (segments_of x) (sym (above-twice reader.view.manifest.last_l0_seq reader.view.manifest.last_l0_seq reader.line.batches (omega arith)))

whole-has : (x : Option Extractor) (reader : Follower) → HasSegments x (kept_follower reader) → HasSegments x reader
whole-has x reader has = has ∙ ap (segments_of x) (above-twice reader.view.manifest.last_l0_seq reader.view.manifest.last_l0_seq reader.line.batches (omega arith))

-- ---- the causes of answers
if-any : {X P : Type 0} (o : Option X) → P → IfSome o (λ _. P)
if-any None held = tt
if-any (Some x) held = held

overtaken-stored : (stage : Stage) (o : Objects) → IsOvertaken stage (catalogue_of o) → IsOvertaken stage o
overtaken-stored (Puts next given replaces) o there = there
overtaken-stored stage o there = absurd there

overtaken-known : (stage : Stage) (o : Objects) → IsOvertaken stage o → IsOvertaken stage (catalogue_of o)
overtaken-known (Puts next given replaces) o there = there
overtaken-known stage o there = absurd there

refusal-not_polled : (e : SlateError) (whole : Bool) (k : ℕ) → refusal e ≡ replies.Polled whole k → ⊥
refusal-not_polled errors.NoMemory whole k is = cc
refusal-not_polled (errors.Backpressure unflushed limit) whole k is = cc
refusal-not_polled e whole k is = cc

refusal-not_stepped : (e : SlateError) → refusal e ≡ replies.Stepped → ⊥
refusal-not_stepped errors.NoMemory is = cc
refusal-not_stepped (errors.Backpressure unflushed limit) is = cc
refusal-not_stepped e is = cc

refusal-timeout : (e : SlateError) (tries : ℕ) → refusal e ≡ replies.Refused (errors.TransactionalObjectTimeout tries) → e ≡ errors.TransactionalObjectTimeout tries
refusal-timeout errors.NoMemory tries is = absurd (cc)
refusal-timeout (errors.Backpressure unflushed limit) tries is = absurd (cc)
refusal-timeout e tries is = cc

answers-eighth : {reply : Reply} (e : SlateError) → IsOfEighth (Err e) → reply ≡ refusal e → (e ≡ errors.ObjectStoreError Unavailable → ⊥) → (reply ≡ replies.Refused (errors.TransactionalObjectTimeout 8)) ⊎ (reply ≡ replies.NoMemory)
answers-eighth (errors.TransactionalObjectTimeout tries) of replied calm = inl (replied ∙ ap (λ k. replies.Refused (errors.TransactionalObjectTimeout k)) of)
answers-eighth (errors.ObjectStoreError Unavailable) of replied calm = absurd (calm refl)
answers-eighth errors.NoMemory of replied calm = inr replied
answers-eighth e of replied calm = absurd of

-- what a reader is owed that has come to a number is apart from that, and no more than is stored
owed-apart : (lag reached stored : ℕ) → IsApart lag (owed_past lag reached stored) reached
owed-apart lag reached stored = by (nat_lt (reached + lag) stored) refl
  where
    by : (x : Bool) → nat_lt (reached + lag) stored ≡ x → IsApart lag (if x then stored else reached) reached
    by true far = inr (ltb-true (reached + lag) stored far)
    by false near = inl (omega arith)

owed-within : (lag reached stored : ℕ) → reached ≤ stored → owed_past lag reached stored ≤ stored
owed-within lag reached stored low = by (nat_lt (reached + lag) stored)
  where
    by : (x : Bool) → (if x then stored else reached) ≤ stored
    by true = omega arith
    by false = low

-- a poll that a step ended, also one at a log file that was removed
polled-stepped : (answer : PollAnswer) → IsStepped (polled_reply answer)
polled-stepped (answers.Whole at) = tt
polled-stepped (answers.Truncated at) = tt

-- ---- step
module _ (settings : Settings) (n : ℕ) (command : Command) (live live' : Live) (store store' : Known (List Batch)) (reply : Reply) (opts : live.options ≡ settings.options) (kind : kind_of command.action ≡ StepsKind n) (did : StepsPoll settings.extractor n live store reply live' store')
    (w : World) (r : Represents live store w) (segments : AllInSegments settings.extractor w) where
  abbrev Out : Type 0
  Out = (w' : World) × Link settings w command reply w' × Represents live' store' w' × AllInSegments settings.extractor w'

  abbrev ro : RepresentsObjects live store w
  ro = r.represents

  abbrev o : Objects
  o = (ro.held).0

  there : store.objects ≡ Some o
  there = (ro.held).1

  abbrev before : Live
  before = shown settings.options w

  action-is : command.action ≡ actions.Step n
  action-is = steps-is command.action n kind

  is : live ≡ before
  is = shown-is settings.options live store w opts r

  is-store : store ≡ stored_in o w
  is-store = stored-is live store w ro

  did-shown : StepsPoll settings.extractor n before (stored_in o w) reply live' store'
  did-shown = subst (λ l. StepsPoll settings.extractor n l (stored_in o w) reply live' store') is (subst (λ k. StepsPoll settings.extractor n live k reply live' store') is-store did)

  no-confirm : (i : ℕ) → command.action ≡ actions.Await i → ⊥
  no-confirm i asks = (let no : actions.Step n ≡ actions.Await i = sym action-is ∙ asks in absurd (cc))

  -- what stands nothing against a step
  can-step : IsValidCommand settings w command → (found : Option Object) → slice_get w.objects n ≡ found → AtObject found (λ handle. ⊥) (λ snapshot. ⊥) (CanStep settings w n)
  can-step can found is = subst (λ x. AtObject x (λ handle. ⊥) (λ snapshot. ⊥) (CanStep settings w n)) is (subst (λ k. IsValidKind k settings w command) kind can)

  -- no step was made
  unstepped : live' ≡ before → store' ≡ stored_in o w → reply ≡ replies.Unknown → (IsValidCommand settings w command → ⊥) → ((reader : Follower) (begun : Begun) → IsFollowerAt w.objects n reader → IsBegunAt w.polls n begun → ⊥) → Out
  unstepped same same_store unknown refused nobody =
      let steps : StepsPoll settings.extractor n before (stored_in o w) reply before (stored_in o w) =
      subst (λ l. StepsPoll settings.extractor n before (stored_in o w) reply l (stored_in o w)) same (subst (StepsPoll settings.extractor n before (stored_in o w) reply live') same_store did-shown) in
      let again : Represents live' store' w = subst (λ k. Represents live' k w) (is-store ∙ sym same_store) (subst (λ l. Represents l store w) (is ∙ sym same) r) in (
        w,
        record {
          next = subst (λ k. NextBy k settings w command reply w) (sym kind) (record { before = o; after = o; holds = (ro.held).3; holds_then = (ro.held).3; steps = steps; others = λ m other. refl; stored = refl; owed = λ reader begun at there. absurd (nobody reader begun at there); owed_others = λ m other. refl });
          completes = λ can none. absurd (refused can);
          faults = inl refl;
          grows = prefix-same w.stored;
          durable = λ i handle at. (ro.valid.handles i handle at).confirmed;
          rises = rise-same w.objects w.objects refl;
          confirms = λ i asks durable. absurd (no-confirm i asks);
          sees = λ batch stands. subst (λ action. Sees batch action reply w) (sym action-is) tt;
          leaves = λ i steps. record {
            objects = inl refl;
            polls = λ m other. refl;
            latest = λ latest there. (latest, there, refl, omega arith);
            checkpoints = λ latest id c there found others. (latest, there, found, refl);
            full = λ invalid. absurd (let no = sym unknown ∙ invalid in cc);
            closes = λ f there shut. inr refl;
            leases = λ lease has. inl (lease, has, refl);
          };
          causes = λ i reader begun steps at there.
              let place : n ≡ i = (let same : StepsKind n ≡ StepsKind i = sym kind ∙ steps in cc) in
              absurd (nobody reader begun (subst (λ j. IsFollowerAt w.objects j reader) (sym place) at) (subst (λ j. IsBegunAt w.polls j begun) (sym place) there));
        },
        again,
        segments,
      )

  -- a fault of the store is answered
  fault-of : (result : Result (Option PollAnswer) SlateError) → reply ≡ reply_to stepped_reply result → KeepsFaults (errors.ObjectStoreError Unavailable) w.faults store'.faults result → (store'.faults ≡ w.faults) ⊎ IsStoreFault reply
  fault-of (Ok answer) replied stays = inl stays
  fault-of (Err e) replied stays = elim stays [
    | inl kept ↦ inl kept
    | inr failed ↦ inr (subst IsStoreFault (sym (replied ∙ ap (λ x. reply_to stepped_reply (Err x)) failed)) tt)
  ]

  -- ---- a step, by what it answered
  module _ (g : Follower) (at : IsFollowerAt w.objects n g) (b : Begun) (begun_at_n : IsBegunAt w.polls n b) (new : Follower) (poll' : Option Begun) (s : StepsOf settings.extractor (kept_follower g) b (stored_in o w) reply new poll' store')
      (same : live' ≡ record before { objects = set before.objects n (AFollower new); polls = set before.polls n poll' }) where
    stand : StandsAt o w n b
    stand = r.begun o n b there begun_at_n

    reader-is : stand.0 ≡ g
    reader-is = let here = stand.1 in cc

    open_ : g.result ≡ None
    open_ = subst (λ (f : Follower). f.result ≡ None) reader-is stand.2

    free-stands : is_pinned g.mode ≡ false → StandsOn o w n g b
    free-stands = subst (λ (f : Follower). is_pinned f.mode ≡ false → StandsOn o w n f b) reader-is stand.3

    by-kept : (g' : Follower) → kept_follower g' ≡ new → live' ≡ record before { objects = set before.objects n (AFollower (kept_follower g')); polls = set before.polls n poll' }
    by-kept g' kept_is = same ∙ ap (λ (f : Follower). record before { objects = set before.objects n (AFollower f); polls = set before.polls n poll' }) (sym kept_is)

    reader_stands : StandsBeside o w g
    reader_stands = reader-stands live store w o ro there n g at

    -- a reader beside the world stands beside the one with another catalogue
    onward-stands : (o' : Objects) → Maintained o o' → (f : Follower) → StandsBeside o w f → StandsBeside o' (record w { catalogue = catalogue_of o'; faults = store'.faults }) f
    onward-stands o' m f stands = beside-onward w o w.stored o' w.objects w.polls w.owed w.writes store'.faults (ro.held).3 (onward-maintained w o (ro.held).2 (ro.held).3 ro.valid (ro.held).4 o' m w.objects (λ i a there. there)) f stands

    -- a step of a reader that stays at a checkpoint has its causes
    pinned-causes : is_pinned g.mode ≡ true → reply ≡ replies.Polled true (number (kept_follower g)) → (v : World) → v.owed n ≡ owed_first w n g b → HasCauses n w g b reply v
    pinned-causes pinned replied v owed =
        let now : owed_now w g ≡ number g = ap (λ x. if x then number g else (if g.skips then tabled_number (latest_manifest w.catalogue) else owed_past g.lag (max (number g) (tabled_number (latest_manifest w.catalogue))) (end w.stored))) pinned in
        let most : most_now w g ≡ number g = ap (λ x. if x then number g else (if g.skips then tabled_number (latest_manifest w.catalogue) else end w.stored)) pinned in
        let first : v.owed n ≡ number g = owed ∙ (ap (λ x. if x || is_none b.history.first then owed_now w g else w.owed n) pinned ∙ now) in
        let same = line_above-end g.view.manifest.last_l0_seq g.line in
        record {
          truncated = λ k is. absurd (let no = sym replied ∙ is in cc);
          tried = λ tries is. absurd (let no = sym replied ∙ is in cc);
          eighth = λ free. absurd (cc (pinned, free));
          stepped = λ is. absurd (let no = sym replied ∙ is in cc);
          whole = λ k is.
              let here : number (kept_follower g) ≡ k = (let both = sym replied ∙ is in cc) in
              (omega (arith, first, same, here), omega (arith, most, same, here));
        }

    pinned-steps : is_pinned g.mode ≡ true → (s.result ≡ Ok (Some (answers.Whole (number (kept_follower g))))) × (new ≡ kept_follower g) × (store' ≡ stored_in o w) → Out
    pinned-steps pinned (result_is, new_is, after_is) =
        let m = unchanged-objects o o (ro.held).2 refl in
        let there' : store'.objects ≡ Some o = ap (λ (k : Known (List Batch)). k.objects) after_is in
        let left : poll' ≡ None = s.leaves ∙ ap (λ x. poll_left x s.left) result_is in
        stepped settings n command live live' store store' reply opts kind did w r segments g at b begun_at_n o there' m g poll' (by-kept g (sym new_is)) (record {
          stands = onward-stands o m g reader_stands;
          rises = follower-same g g refl;
          begun = λ b' is. absurd (let no = sym left ∙ is in cc);
          were = λ last was. was;
          open_ = open_;
          tasks = refl;
          has_segments = λ has. has;
          latest = λ latest there. (latest, there, refl, omega arith);
          spares = λ latest id c there found others. (latest, there, found, refl);
          leases = λ lease has. elim has [
            | inl mine ↦ inl (lease, inl (g, at, mine), refl)
            | inr begun ↦ absurd (let no = sym left ∙ begun.1 in cc)
          ];
          full = λ invalid. absurd (let no = sym (s.replied ∙ ap (reply_to stepped_reply) result_is) ∙ invalid in cc);
          closes = λ shut. absurd (let no = sym open_ ∙ shut in cc);
          viewed = λ replays. segments.viewed n g at replays;
          polled = λ b' is. absurd (let no = sym left ∙ is in cc);
          fault = inl (ap (λ (k : Known (List Batch)). k.faults) after_is);
          answers = λ can calm. subst IsStepped (sym (s.replied ∙ ap (reply_to stepped_reply) result_is)) tt;
          causes = pinned-causes pinned (s.replied ∙ ap (reply_to stepped_reply) result_is) _ (owed-mine settings n command live live' store store' reply opts kind did w r segments g at b begun_at_n o there' m g poll' (by-kept g (sym new_is)));
        })

    module _ (free : is_pinned g.mode ≡ false) (c : MakesCall settings.extractor (kept_follower g) b (stored_in o w) s.result new s.left store') where
      found : (o' : Objects) × (store'.objects ≡ Some o') × Steps (kept_follower g) b s.result o new s.left o'
      found = (c.steps).some o refl

      abbrev o' : Objects
      o' = found.0

      there' : store'.objects ≡ Some o'
      there' = found.1

      p : PollStands o w g b
      p = (free-stands free).0

      -- what its reader was owed at the first step
      abbrev target : ℕ
      target = owed_first w n g b

      aims : Aims live store store' w o o' (ro.held).2 (ro.held).3 ro.valid (ro.held).4 ro there' g open_ free b p target
      aims = by b.history.first refl p.lasts.since (free-stands free).1
        where
          tabled : ℕ
          tabled = tabled_number (latest_manifest w.catalogue)

          past : ℕ
          past = owed_past g.lag (max (number g) tabled) (end w.stored)

          now : owed_now w g ≡ (if g.skips then tabled else past)
          now = ap (λ x. if x then number g else (if g.skips then tabled else past)) free

          tabled-within : tabled ≤ end w.stored
          tabled-within =
              let l = p.lasts.latest in
              let at_latest : latest_manifest w.catalogue ≡ Some l.0 = sym (ap latest_manifest (ro.held).3.catalogue) ∙ l.1 in
              let same : tabled ≡ (l.0).manifest.last_l0_seq = ap tabled_number at_latest in
              let high = latest-high w o (ro.held).2 (ro.held).3 ro.valid (ro.held).4 g free l.0 l.1 in
              omega (arith, same, high)

          within : (skips : Bool) → (if skips then tabled else past) ≤ end w.stored
          within true = tabled-within
          within false =
              let low = prefix-end g.line w.stored p.reader_stands.valid.0 in
              let high = tabled-within in
              owed-within g.lag (max (number g) tabled) (end w.stored) (omega (arith, low, high))

          by : (first : Option FirstRead) → b.history.first ≡ first → MatchOption first ((b.stage ≡ ReadsLatest) × (b.history.steps ≡ 0)) (λ first. LastsSince first o (kept_follower g) b) → IfSome b.history.first (λ _. ReachesTo (w.owed n) o w g b) →
              Aims live store store' w o o' (ro.held).2 (ro.held).3 ro.valid (ro.held).4 ro there' g open_ free b p target
          by None none start reaches =
              let is : target ≡ (if g.skips then tabled else past) =
              ap (λ x. if is_pinned g.mode || is_none x then owed_now w g else w.owed n) none ∙ (ap (λ x. if x || true then owed_now w g else w.owed n) free ∙ now) in
              record {
                stored = (let low = within g.skips in omega (arith, is, low));
                tabled = λ skips l there. (let e = is ∙ (ap (λ x. if x then tabled else past) skips ∙ ap tabled_number there) in omega (arith, e));
                apart = λ reads l there.
                    let e : target ≡ owed_past g.lag (come_by g l) (end w.stored) = is ∙ (ap (λ x. if x then tabled else past) reads ∙ ap (λ k. owed_past g.lag (max (number g) k) (end w.stored)) (ap tabled_number there)) in
                    subst (λ k. IsApart g.lag k (come_by g l)) (sym e) (owed-apart g.lag (come_by g l) (end w.stored));
                before = inl start.0;
              }
          by (Some first) some since reaches =
              let x = subst (λ y. IfSome y (λ _. ReachesTo (w.owed n) o w g b)) some reaches in
              let is : w.owed n ≡ target = sym (ap (λ x. if is_pinned g.mode || is_none x then owed_now w g else w.owed n) some ∙ ap (λ x. if x || false then owed_now w g else w.owed n) free) in
              let to = subst (λ k. ReachesTo k o w g b) is x in
              record { stored = to.stored; tabled = to.tabled; apart = to.apart; before = inr (to.anew, to.next) }

      m : Maintained o o'
      m = steps-maintain live store store' w o o' (ro.held).2 (ro.held).3 ro.valid (ro.held).4 ro there' g open_ free b p new s.left s.result found.2

      were : (last : VersionedManifest) → WasLatest o last → WasLatest o' last
      were = steps-were live store store' w o o' (ro.held).2 (ro.held).3 ro.valid (ro.held).4 ro there' g open_ free b p new s.left s.result found.2

      latest-then : (latest : VersionedManifest) → latest_manifest o ≡ Some latest → IsLatestBut o' latest
      latest-then = steps-latest live store store' w o o' (ro.held).2 (ro.held).3 ro.valid (ro.held).4 ro there' g open_ free b p new s.left s.result found.2

      spares-then : (latest : VersionedManifest) (id : List ℕ) (c : Checkpoint) → latest_manifest o ≡ Some latest → found_in id latest ≡ Some c → ((lease : Lease) → HasLease w n lease → lease.id ≢ id) → IsSpared id c o o'
      spares-then latest id c is there others =
          step-spares o o' (ro.held).2 w g b p latest is id c there (λ lease has. others lease (inr (b, begun_at_n, has)))
          (steps-left live store store' w o o' (ro.held).2 (ro.held).3 ro.valid (ro.held).4 ro there' g open_ free b p new s.left s.result found.2)

      -- a manifest is stored, since the reader was opened
      stored : (latest : VersionedManifest) × (latest_manifest o ≡ Some latest)
      stored = let past = ro.valid.past n (AFollower g) at in (past.0, ap latest_manifest (ro.held).3.catalogue ∙ past.1)

      abbrev Comes : Option Lease → Type 0
      Comes = ComesFrom o o' (ro.held).2 w g b p stored.0 stored.1

      -- what a turn of its call leads to has a lease that comes from one before
      turn-leases : (turn : Turn) → Meets (kept_follower g) b o turn o' → OfTurn (λ (x : Begun). Comes x.lease) turn
      turn-leases = step-leases o o' (ro.held).2 w g b p stored.0 stored.1

      from-own : (after : Option Lease) → Comes after → (lease : Lease) → after ≡ Some lease → ((old : Lease) × HasLease w n old × (old.id ≡ lease.id)) ⊎ IsOfPut o o' lease
      from-own after comes lease has = elim (comes lease has) [
        | inl old ↦ inl (old.0, elim old.1 [ inl its ↦ inl (g, at, its) | inr polled ↦ inr (b, begun_at_n, polled) ], old.2)
        | inr put ↦ inr put
      ]

      -- what it came to has the lease of the poll
      came-leases : (answer : PollAnswer) → Steps (kept_follower g) b (Ok (Some answer)) o new s.left o' → Comes new.lease
      came-leases (answers.Whole at) steps = subst Comes (sym (ap (λ (f : Follower). f.lease) steps.2)) (turn-leases (Ends steps.0) steps.1)
      came-leases (answers.Truncated at) steps = subst Comes (sym (ap (λ (f : Follower). f.lease) steps.2)) (turn-leases (Breaks steps.0) steps.1)

      came-open : (answer : PollAnswer) → Steps (kept_follower g) b (Ok (Some answer)) o new s.left o' → new.result ≡ None
      came-open (answers.Whole k) steps = ap (λ (f : Follower). f.result) steps.2 ∙ open_
      came-open (answers.Truncated k) steps = ap (λ (f : Follower). f.result) steps.2 ∙ open_

      fault : (store'.faults ≡ w.faults) ⊎ IsStoreFault reply
      fault = fault-of s.result s.replied (c.faults).stays

      -- what it came to keeps the tasks
      answered-tasks : (answer : PollAnswer) → Steps (kept_follower g) b (Ok (Some answer)) o new s.left o' → (whole : Follower) → unsegmented new ≡ kept_follower whole → whole.tasks ≡ g.tasks
      answered-tasks (answers.Whole at) steps whole is = sym (ap (λ (f : Follower). f.tasks) is) ∙ ap (λ (f : Follower). f.tasks) steps.2
      answered-tasks (answers.Truncated at) steps whole is = sym (ap (λ (f : Follower). f.tasks) is) ∙ ap (λ (f : Follower). f.tasks) steps.2

      -- ---- the keys that it meets
      -- what its turn leaves has segments, where the reader replays all
      turn-keys : follows_all g.mode g.skips ≡ true → (turn : Turn) (after : Objects) → Meets (kept_follower g) b o turn after → OfTurn (PollHasSegments settings.extractor w.stored g) turn
      turn-keys replays turn after meets =
          turn-has settings.extractor w g o after b p (segments.viewed n g at replays)
          (λ l is. (segments.keys).stored n (AFollower g) l at replays (sym (ap latest_manifest (ro.held).3.catalogue) ∙ is)) (segments.polled n g b at begun_at_n replays) turn meets

      -- the manifest that it goes by then
      own-replays : (f : Follower) → f.mode ≡ g.mode → f.skips ≡ g.skips → follows_all f.mode f.skips ≡ true → follows_all g.mode g.skips ≡ true
      own-replays f mode skips replays = ap (λ m. follows_all m g.skips) (sym mode) ∙ (ap (follows_all f.mode) (sym skips) ∙ replays)

      came-viewed : (answer : PollAnswer) → Steps (kept_follower g) b (Ok (Some answer)) o new s.left o' → follows_all g.mode g.skips ≡ true → HaveSegments settings.extractor (replayed new.view w.stored)
      came-viewed (answers.Whole k) steps replays =
          subst (λ (v : VersionedManifest). HaveSegments settings.extractor (replayed v w.stored)) (sym (ap (λ (f : Follower). f.view) steps.2)) (turn-keys replays (Ends steps.0) o' steps.1).1
      came-viewed (answers.Truncated k) steps replays =
          subst (λ (v : VersionedManifest). HaveSegments settings.extractor (replayed v w.stored)) (sym (ap (λ (f : Follower). f.view) steps.2)) (turn-keys replays (Breaks steps.0) o' steps.1).1

      -- each key that the poll comes to has one
      ends-lack : (after : Objects) (last : Begun) → Meets (kept_follower g) b o (Ends last) after ⊎ Meets (kept_follower g) b o (Breaks last) after → ArrivalLacks settings.extractor (kept_follower g) last → ⊥
      ends-lack after last ends lack = by g.skips refl
        where
          stored_is : IsOfStored live store (record { objects = Some after; faults = store'.faults }) w o after (ro.held).2 (ro.held).3 ro.valid (ro.held).4 ro refl g open_ free b p last
          stored_is = ends-stored live store (record { objects = Some after; faults = store'.faults }) w o after (ro.held).2 (ro.held).3 ro.valid (ro.held).4 ro refl g open_ free b p last ends

          by : (skips : Bool) → g.skips ≡ skips → ⊥
          by true skips =
              bare-lacks settings.extractor w g last stored_is.0.0 stored_is.0.1 stored_is.2 ro.valid.line
              (elim ends [
                | inl whole ↦ meets-bare g skips (taken b) o after b.stage (Ends last) p.staged (p.bare skips) whole
                | inr cut ↦ meets-bare g skips (taken b) o after b.stage (Breaks last) p.staged (p.bare skips) cut
              ]) lack
          by false reads =
              let replays : follows_all g.mode g.skips ≡ true = ap (λ q. not q && not g.skips) free ∙ ap (λ q. not q) reads in
              stored-lacks settings.extractor w g last stored_is.0.0 stored_is.0.1 stored_is.2 stored_is.1
              (elim ends [
                | inl whole ↦ turn-keys replays (Ends last) after whole
                | inr cut ↦ turn-keys replays (Breaks last) after cut
              ]) lack

      -- it answers InvalidDBState only where no manifest can follow the latest one
      abbrev IsFullThen : Type 0
      IsFullThen = (latest : VersionedManifest) × (latest_manifest o' ≡ Some latest) × (last_number ≤ latest.id)

      latest-full : (last : VersionedManifest) → latest_manifest o ≡ Some last → last_number ≤ last.id → IsFullThen
      latest-full last is high = let l = latest-then last is in let up = l.3 in (l.0, l.1, omega (arith, up, high))

      full-by : (last : VersionedManifest) → (latest_manifest o ≡ Some last) ⊎ ((b.latest ≡ Some last) ⊎ ((given : Lease) × (replaces : Bool) × (b.stage ≡ Puts last given replaces) × (is_present (PutManifest last.id last.manifest) o ≡ false))) → last_number ≤ last.id → StepFails errors.InvalidDBState (kept_follower g) b o o' → IsFullThen
      full-by last (inl is) high fails = latest-full last is high
      full-by last (inr (inl read)) high fails =
          let was = (p.read last read).0 in
          let low = was.2 in
          latest-full was.0 was.1 (omega (arith, low, high))
      full-by last (inr (inr (given, replaces, at_stage, absent))) high fails =
          let staged : IsStaged g b (Puts last given replaces) = subst (IsStaged g b) at_stage p.staged in
          let tops = put-tops o (ro.held).2 staged.0 last (p.read staged.0 staged.1).0 (staged-planned g b last given replaces staged) absent stored.0 stored.1 in
          subst (λ x. (latest : VersionedManifest) × (latest_manifest x ≡ Some latest) × (last_number ≤ latest.id)) (sym put)
          (elim tops [
            | inl (same, above, top) ↦ (last, top, high)
            | inr (less, stale) ↦ (stored.0, stale, omega (arith, less, high))
          ])
        where
          made : (turn : Turn) → Meets (kept_follower g) b o turn o' → o' ≡ changed (PutManifest last.id last.manifest) o
          made turn meets = by (subst (λ x. MeetsAt x (kept_follower g) (taken b) o turn o') at_stage meets)
            where
              by : MeetsAt (Puts last given replaces) (kept_follower g) (taken b) o turn o' → o' ≡ changed (PutManifest last.id last.manifest) o
              by (inl (free, turn_is, put)) = put
              by (inr (there, turn_is, same)) = absurd (cc (there, absent))

          put : o' ≡ changed (PutManifest last.id last.manifest) o
          put = elim fails [
            | inl meets ↦ made (Fails errors.InvalidDBState) meets
            | inr (last', ends) ↦ elim ends [ inl whole ↦ made (Ends last') whole | inr cut ↦ made (Breaks last') cut ]
          ]

      full-then : reply ≡ refusal errors.InvalidDBState → IsFullThen
      full-then invalid = by s.result refl
        where
          failed : {e : SlateError} → e ≡ errors.InvalidDBState → s.result ≡ Err e → StepFails errors.InvalidDBState (kept_follower g) b o o'
          failed {e} same is = subst (λ x. Steps (kept_follower g) b x o new s.left o') (is ∙ ap Err same) found.2

          by : (result : Result (Option PollAnswer) SlateError) → s.result ≡ result → IsFullThen
          by (Ok None) is = absurd (let no = sym (s.replied ∙ ap (reply_to stepped_reply) is) ∙ invalid in cc)
          by (Ok (Some (answers.Whole k))) is = absurd (let no = sym (s.replied ∙ ap (reply_to stepped_reply) is) ∙ invalid in cc)
          by (Ok (Some (answers.Truncated k))) is = absurd (let no = sym (s.replied ∙ ap (reply_to stepped_reply) is) ∙ invalid in cc)
          by (Err e) is =
              let same : e ≡ errors.InvalidDBState = refused-is e (sym (s.replied ∙ ap (reply_to stepped_reply) is) ∙ invalid) in
              elim (c.lacks (is ∙ ap Err same)) [
                | inl fails ↦ let why = meets-fails (λ (v : VersionedManifest). last_number ≤ v.id) (λ v high. high) b.stage (kept_follower g) (taken b) o fails.0 fails.1 in full-by why.0 why.1 why.2 (failed same is)
                | inr lacks ↦ absurd (ends-lack (lacks.1).0 lacks.0 (lacks.1).1 lacks.2)
              ]

      -- ---- a valid step answers no error but want of memory
      module _ (can : CanStep settings w n g) where
        few : b.overtaken < 7
        few =
            let begun = can.0 in
            let same : begun.0 ≡ b = some-same begun.0 b (some-same (Some begun.0) (Some b) (sym begun.1 ∙ begun_at_n)) in
            subst (λ (x : Begun). x.overtaken < 7) same begun.2

        latest : (l : VersionedManifest) × (latest_manifest o ≡ Some l) × (is_managed g.mode ≡ true → l.id + 1 < last_number)
        latest = let found = can.1 free in (found.0, ap latest_manifest (ro.held).3.catalogue ∙ found.1, found.2)

        staged-puts : (next : VersionedManifest) (given : Lease) (replaces : Bool) → b.stage ≡ Puts next given replaces → (last : VersionedManifest) × (b.latest ≡ Some last) × (is_some b.lease ≡ true) × (next.id ≡ last.id + 1)
        staged-puts next given replaces at_stage =
            let staged : IsStaged g b (Puts next given replaces) = subst (IsStaged g b) at_stage p.staged in
            let other = planned-other staged.0 next (staged-planned g b next given replaces staged) in
            (staged.0, staged.1, staged-leased g b next given replaces staged, ap (λ (v : VersionedManifest). v.id) other.1)

        never : (error : SlateError) (after : Objects) → Meets (kept_follower g) b o (Fails error) after → ⊥
        never error after meets =
            meets-goes (kept_follower g) b o after few latest.0 latest.1 (λ held. latest.2 (sym p.fits.leased ∙ held)) (λ last is. (p.read last is).0) staged-puts b.stage refl (Fails error) meets

        lacks-none : StepLacks settings.extractor (kept_follower g) b o → ⊥
        lacks-none (inl (after, fails)) = never errors.InvalidDBState after fails
        lacks-none (inr (last, ends, lack)) = ends-lack ends.0 last ends.1 lack

        free-by : (e : SlateError) → s.result ≡ Err e → IsOfPoll g.mode e → StepFails e (kept_follower g) b o o' → (HasRisen w.faults store'.faults → ⊥) → e ≡ errors.NoMemory
        free-by errors.LatestTransactionalObjectVersionMissing is kind fails calm = absurd (let none = fails.1 in let some = latest.1 in cc (none, some))
        free-by errors.InvalidDBState is kind fails calm = absurd (lacks-none (c.lacks is))
        free-by (errors.TransactionalObjectTimeout tries) is kind fails calm = absurd (never (errors.TransactionalObjectTimeout tries) o' fails)
        free-by (errors.ObjectStoreError Unavailable) is kind fails calm = absurd (calm (c.faults.unavailable is))
        free-by errors.NoMemory is kind fails calm = refl
        free-by error is kind fails calm = absurd kind

      -- ---- it has its causes
      follows-content : FollowsLine o (content o) (kept_follower g) b
      follows-content = subst (λ (x : Line). FollowsLine o x (kept_follower g) b) (sym (ro.held).3.stored) p.follows

      eighth-stored : IsEighth w.catalogue b → IsEighth o b
      eighth-stored (there, seven) = (overtaken-stored b.stage o (subst (λ c. IsOvertaken b.stage c) (sym (ro.held).3.catalogue) there), seven)

      eighth-known : IsEighth o b → IsEighth w.catalogue b
      eighth-known (there, seven) = (subst (λ c. IsOvertaken b.stage c) (ro.held).3.catalogue (overtaken-known b.stage o there), seven)

      module _ (v : World) (owed : v.owed n ≡ target) (faults : v.faults ≡ store'.faults) where
        tries-of : (r : Result (Option PollAnswer) SlateError) → Steps (kept_follower g) b r o new s.left o' → TriesEight o b r
        tries-of r steps = tries-eight o o' (kept_follower g) new b s.left r steps

        none-eighth : (r : Result (Option PollAnswer) SlateError) → Steps (kept_follower g) b r o new s.left o' → (IsOfEighth r → ⊥) → IsEighth w.catalogue b → ⊥
        none-eighth r steps never eighth = never ((tries-of r steps).exact (eighth-stored eighth))

        whole-causes : (k : ℕ) → reply ≡ replies.Polled true k → Steps (kept_follower g) b (Ok (Some (answers.Whole k))) o new s.left o' → (v.owed n ≤ k) × (k ≤ most_now w g)
        whole-causes k replied steps =
            let last = steps.0 in
            let here : k ≡ number new = (let e = steps.3 in cc) in
            let low = ends-reach live store store' w o o' (ro.held).2 (ro.held).3 ro.valid (ro.held).4 ro there' g open_ free b p m target aims last steps.1 in
            let reached = ends-number live store store' w o o' (ro.held).2 (ro.held).3 ro.valid (ro.held).4 ro there' g open_ free b p m target aims last steps.1 new steps.2 in
            let after = steps-after live store store' w o o' (ro.held).2 (ro.held).3 ro.valid (ro.held).4 ro there' g open_ free b p m new s.left (Ok (Some (answers.Whole k))) steps in
            let whole = after.0 in
            let number_is : number new ≡ number whole = ap (λ (f : Follower). number f) after.1 ∙ line_above-end whole.view.manifest.last_l0_seq whole.line in
            (omega (arith, owed, here, low, reached), subst (λ j. j ≤ most_now w g) (sym (here ∙ number_is)) (up-to whole after.2 after.3 g.skips refl))
          where
            now : most_now w g ≡ (if g.skips then tabled_number (latest_manifest w.catalogue) else end w.stored)
            now = ap (λ x. if x then number g else (if g.skips then tabled_number (latest_manifest w.catalogue) else end w.stored)) free

            up-to : (whole : Follower) → StandsBeside o' (record w { catalogue = catalogue_of o'; faults = store'.faults }) whole → FollowerRises g whole → (skips : Bool) → g.skips ≡ skips → number whole ≤ most_now w g
            up-to whole stands rises true skips =
                let l = p.lasts.latest in
                let next = m.latest l.0 l.1 in
                let tabled = next.3 in
                let mode : is_pinned whole.mode ≡ false = ap is_pinned rises.mode ∙ free in
                let low = stands.valid.1 (rises.skips ∙ skips) mode next.0 next.1 in
                let at_latest : latest_manifest w.catalogue ≡ Some l.0 = sym (ap latest_manifest (ro.held).3.catalogue) ∙ l.1 in
                let is : most_now w g ≡ (l.0).manifest.last_l0_seq = now ∙ (ap (λ x. if x then tabled_number (latest_manifest w.catalogue) else end w.stored) skips ∙ ap tabled_number at_latest) in
                omega (arith, low, tabled, is)
            up-to whole stands rises false reads =
                let low = prefix-end whole.line w.stored stands.valid.0 in
                let is : most_now w g ≡ end w.stored = now ∙ ap (λ x. if x then tabled_number (latest_manifest w.catalogue) else end w.stored) reads in
                omega (arith, low, is)

        causes-of : (r : Result (Option PollAnswer) SlateError) → s.result ≡ r → reply ≡ reply_to stepped_reply r → Steps (kept_follower g) b r o new s.left o' → HasCauses n w g b reply v
        causes-of (Ok None) is replied steps = record {
          truncated = λ k at. absurd (let no = sym replied ∙ at in cc);
          tried = λ tries at. absurd (let no = sym replied ∙ at in cc);
          eighth = λ unpinned eighth calm. absurd (none-eighth (Ok None) steps (λ never. never) eighth);
          stepped = λ at. (free, few-steps o (ro.held).2 (kept_follower g) b follows-content p.lasts);
          whole = λ k at. absurd (let no = sym replied ∙ at in cc);
        }
        causes-of (Ok (Some (answers.Whole k))) is replied steps = record {
          truncated = λ j at. absurd (let no = sym replied ∙ at in cc);
          tried = λ tries at. absurd (let no = sym replied ∙ at in cc);
          eighth = λ unpinned eighth calm. absurd (none-eighth (Ok (Some (answers.Whole k))) steps (λ never. never) eighth);
          stepped = λ at. absurd (let no = sym replied ∙ at in cc);
          whole = λ j at. let same : k ≡ j = (let both = sym replied ∙ at in cc) in subst (λ x. (v.owed n ≤ x) × (x ≤ most_now w g)) same (whole-causes k replied steps);
        }
        causes-of (Ok (Some (answers.Truncated k))) is replied steps = record {
          truncated = λ j at.
              let broke = lasts-breaks o (ro.held).2 (kept_follower g) b follows-content p.lasts steps.0 o' steps.1 in
              (broke.0, broke.1, subst (λ c. TablesGrew broke.0 c) (ro.held).3.catalogue broke.2);
          tried = λ tries at. absurd (let no = sym replied ∙ at in cc);
          eighth = λ unpinned eighth calm. absurd (none-eighth (Ok (Some (answers.Truncated k))) steps (λ never. never) eighth);
          stepped = λ at. absurd (let no = sym replied ∙ at in cc);
          whole = λ j at. absurd (let no = sym replied ∙ at in cc);
        }
        causes-of (Err e) is replied steps = record {
          truncated = λ j at. absurd (refusal-not_polled e false j (sym replied ∙ at));
          tried = λ tries at. eighth-known ((tries-of (Err e) steps).only tries (ap (λ x. Err x) (refusal-timeout e tries (sym replied ∙ at))));
          eighth = λ unpinned eighth calm. answers-eighth e ((tries-of (Err e) steps).exact (eighth-stored eighth)) replied (λ fault. calm (subst (HasRisen w.faults) (sym faults) (c.faults.unavailable (is ∙ ap (λ x. Err x) fault))));
          stepped = λ at. absurd (refusal-not_stepped e (sym replied ∙ at));
          whole = λ j at. absurd (refusal-not_polled e true j (sym replied ∙ at));
        }

      free-of : (e : SlateError) → s.result ≡ Err e → CanStep settings w n g → (HasRisen w.faults store'.faults → ⊥) → e ≡ errors.NoMemory
      free-of e is can calm = free-by can e is (subst (λ x. IfErr x (IsOfPoll g.mode)) is c.kinds) (subst (λ x. Steps (kept_follower g) b x o new s.left o') is found.2) calm

      by : (result : Result (Option PollAnswer) SlateError) → s.result ≡ result → Out
      by (Ok None) is =
          let steps = subst (λ x. Steps (kept_follower g) b x o new s.left o') is found.2 in
          let after = steps-after live store store' w o o' (ro.held).2 (ro.held).3 ro.valid (ro.held).4 ro there' g open_ free b p m new s.left (Ok None) steps in
          let left : poll' ≡ Some s.left = s.leaves ∙ ap (λ x. poll_left x s.left) is in
          stepped settings n command live live' store store' reply opts kind did w r segments g at b begun_at_n o' there' m g poll' (by-kept g (sym steps.1)) (record {
            stands = onward-stands o' m g reader_stands;
            rises = follower-same g g refl;
            begun = λ b' here. (
              open_,
              λ unpinned. let mine : s.left ≡ b' = (let e = sym left ∙ here in cc) in (
                subst (PollStands o' (record w { catalogue = catalogue_of o'; faults = store'.faults }) g) mine after,
                subst (λ x. IfSome x.history.first (λ _. ReachesTo target o' (record w { catalogue = catalogue_of o'; faults = store'.faults }) g x)) mine
                    (if-any s.left.history.first (goes-reaches live store store' w o o' (ro.held).2 (ro.held).3 ro.valid (ro.held).4 ro there' g open_ free b p m target aims s.left steps.0)),
              ),
            );
            were = were;
            open_ = open_;
            tasks = refl;
            has_segments = λ has. has;
            latest = latest-then;
            spares = spares-then;
            leases = λ lease has. elim has [
              | inl mine ↦ inl (lease, inl (g, at, mine), refl)
              | inr (b', here, had) ↦
                  let mine : s.left ≡ b' = (let e = sym left ∙ here in cc) in
                  from-own b'.lease (subst (λ (x : Begun). Comes x.lease) mine (turn-leases (Goes s.left) steps.0)) lease had
            ];
            full = full-then;
            closes = λ shut. absurd (let no = sym open_ ∙ shut in cc);
            viewed = λ replays. segments.viewed n g at replays;
            polled = λ b' here replays.
                let mine : s.left ≡ b' = (let e = sym left ∙ here in cc) in
                subst (PollHasSegments settings.extractor w.stored g) mine (turn-keys replays (Goes s.left) o' steps.0);
            fault = fault;
            answers = λ can calm. subst IsStepped (sym (s.replied ∙ ap (reply_to stepped_reply) is)) tt;
            causes = causes-of _ (owed-mine settings n command live live' store store' reply opts kind did w r segments g at b begun_at_n o' there' m g poll' (by-kept g (sym steps.1))) refl (Ok None) is (s.replied ∙ ap (reply_to stepped_reply) is) steps;
          })
      by (Ok (Some answer)) is =
          let steps = subst (λ x. Steps (kept_follower g) b x o new s.left o') is found.2 in
          let after = steps-after live store store' w o o' (ro.held).2 (ro.held).3 ro.valid (ro.held).4 ro there' g open_ free b p m new s.left (Ok (Some answer)) steps in
          let whole = after.0 in
          let whole-tasks : whole.tasks ≡ g.tasks = answered-tasks answer steps whole after.1 in
          let stands = after.2 in
          let rises = after.3 in
          let left : poll' ≡ None = s.leaves ∙ ap (λ x. poll_left x s.left) is in
          let g' = record whole { segments = new.segments } in
          let kept_is : kept_follower g' ≡ new = ap (λ (f : Follower). record f { segments = new.segments }) (sym after.1) in
          stepped settings n command live live' store store' reply opts kind did w r segments g at b begun_at_n o' there' m g' poll' (by-kept g' kept_is) (record {
            stands = record {
              valid = stands.valid;
              named = stands.named;
              past = stands.past;
              held = (stands.held.0, λ unpinned. let seen = stands.held.1 unpinned in record { mark = seen.mark; logs = seen.logs });
            };
            rises = record { mode = rises.mode; skips = rises.skips; lag = rises.lag; number = rises.number; result = rises.result };
            begun = λ b' here. absurd (let no = sym left ∙ here in cc);
            were = were;
            open_ = open_;
            tasks = whole-tasks;
            has_segments = λ has. whole-has settings.extractor g' (subst (HasSegments settings.extractor) (sym kept_is) (c.segments (kept-has settings.extractor g has)));
            latest = latest-then;
            spares = spares-then;
            leases = λ lease has. elim has [
              | inl mine ↦ from-own new.lease (came-leases answer steps) lease (ap (λ (f : Follower). f.lease) (sym kept_is) ∙ mine)
              | inr begun ↦ absurd (let no = sym left ∙ begun.1 in cc)
            ];
            full = full-then;
            closes = λ shut. absurd (let no = sym (came-open answer steps) ∙ (ap (λ (f : Follower). f.result) (sym kept_is) ∙ shut) in cc);
            viewed = λ replays. subst (λ (v : VersionedManifest). HaveSegments settings.extractor (replayed v w.stored)) (ap (λ (f : Follower). f.view) (sym kept_is)) (came-viewed answer steps (own-replays g' rises.mode rises.skips replays));
            polled = λ b' here replays. absurd (let no = sym left ∙ here in cc);
            fault = fault;
            answers = λ can calm. subst IsStepped (sym (s.replied ∙ ap (reply_to stepped_reply) is)) (polled-stepped answer);
            causes = causes-of _ (owed-mine settings n command live live' store store' reply opts kind did w r segments g at b begun_at_n o' there' m g' poll' (by-kept g' kept_is)) refl (Ok (Some answer)) is (s.replied ∙ ap (reply_to stepped_reply) is) steps;
          })
      by (Err e) is =
          let failed : new ≡ failed_by e (kept_follower g) = subst (λ x. IfErr x (λ error. new ≡ failed_by error (kept_follower g))) is c.failed in
          let left : poll' ≡ None = s.leaves ∙ ap (λ x. poll_left x s.left) is in
          let f = failing (is_managed g.mode) in
          stepped settings n command live live' store store' reply opts kind did w r segments g at b begun_at_n o' there' m (failed_by e g) poll' (by-kept (failed_by e g) (failed-kept e g ∙ sym failed)) (record {
            stands = f.0;
            rises = f.1;
            begun = λ b' here. absurd (let no = sym left ∙ here in cc);
            were = were;
            open_ = open_;
            tasks = failed-tasks e g (is_managed g.mode);
            has_segments = λ has. failed-has settings.extractor e g (is_managed g.mode) has;
            latest = latest-then;
            spares = spares-then;
            leases = λ lease has. elim has [
              | inl mine ↦ inl (lease, inl (g, at, sym (failed-lease e g (is_managed g.mode)) ∙ mine), refl)
              | inr begun ↦ absurd (let no = sym left ∙ begun.1 in cc)
            ];
            full = full-then;
            closes = failed-closes (is_managed g.mode);
            viewed = λ replays. failed-viewed e g (is_managed g.mode) (λ y. HaveSegments settings.extractor (replayed y w.stored)) (λ all. segments.viewed n g at all) replays;
            polled = λ b' here replays. absurd (let no = sym left ∙ here in cc);
            fault = fault;
            answers = λ can calm. subst IsStepped (sym (s.replied ∙ ap (reply_to stepped_reply) is ∙ ap refusal (free-of e is (can-step can (Some (AFollower g)) at) calm))) tt;
            causes = causes-of _ (owed-mine settings n command live live' store store' reply opts kind did w r segments g at b begun_at_n o' there' m (failed_by e g) poll' (by-kept (failed_by e g) (failed-kept e g ∙ sym failed))) refl (Err e) is (s.replied ∙ ap (reply_to stepped_reply) is) (subst (λ x. Steps (kept_follower g) b x o new s.left o') is found.2);
          })
        where
          failed-closes : (managed : Bool) → (if managed then record g { result = poll_result e } else g).result ≡ Some (Err faults.InvalidDBState) → reply ≡ refusal errors.InvalidDBState
          failed-closes true shut = s.replied ∙ (ap (reply_to stepped_reply) is ∙ ap refusal (recorded-is e shut))
          failed-closes false shut = absurd (let no = sym open_ ∙ shut in cc)

          before_stands : StandsBeside o' (record w { catalogue = catalogue_of o'; faults = store'.faults }) g
          before_stands = onward-stands o' m g reader_stands

          failing : (managed : Bool) → StandsBeside o' (record w { catalogue = catalogue_of o'; faults = store'.faults }) (if managed then record g { result = poll_result e } else g) × FollowerRises g (if managed then record g { result = poll_result e } else g)
          failing true = (
            record {
              valid = (before_stands.valid.0, before_stands.valid.1, λ managed still. before_stands.valid.2 managed open_, before_stands.valid.3);
              named = before_stands.named;
              past = before_stands.past;
              held = (before_stands.held.0, λ unpinned. let seen = before_stands.held.1 unpinned in record { mark = seen.mark; logs = seen.logs });
            },
            record { mode = refl; skips = refl; lag = refl; number = omega arith; result = is-none (λ q. poll_result e ≡ Some q) g.result open_ },
          )
          failing false = (before_stands, follower-same g g refl)

    by-mode : (pinned : Bool) → is_pinned g.mode ≡ pinned → StepsReader pinned settings.extractor (kept_follower g) b (stored_in o w) s.result new s.left store' → Out
    by-mode true stays steps = pinned-steps stays steps
    by-mode false free c = by free c s.result refl

    pub steps-link : Out
    steps-link = by-mode (is_pinned g.mode) refl s.steps

  -- what isn't a reader with a begun poll does nothing
  nothing : (object : Object) (a : StepsAt settings.extractor n object before (stored_in o w) reply live' store') → slice_get before.objects n ≡ Some object → reply ≡ replies.Unknown → a.object' ≡ object → a.poll' ≡ a.poll → store' ≡ stored_in o w → (IsValidCommand settings w command → ⊥) → ((reader : Follower) (begun : Begun) → IsFollowerAt w.objects n reader → IsBegunAt w.polls n begun → ⊥) → Out
  nothing object a here unknown same_object same_poll same_store refused nobody =
      let objects : set before.objects n a.object' ≡ before.objects = ap (set before.objects n) same_object ∙ set-same before.objects n object here in
      let polls : set before.polls n a.poll' ≡ before.polls = ap (set before.polls n) same_poll ∙ set-same before.polls n a.poll a.there in
      unstepped (a.same ∙ (ap (λ (xs : List Object). record before { objects = xs; polls = set before.polls n a.poll' }) objects ∙ ap (λ (ps : List (Option Begun)). record before { polls = ps }) polls)) same_store unknown refused nobody

  of-reader : (g : Follower) → slice_get w.objects n ≡ Some (AFollower g) → (a : StepsAt settings.extractor n (AFollower (kept_follower g)) before (stored_in o w) reply live' store') → Out
  of-reader g at a = by a.poll a.object' a.there a.does refl refl
    where
      here : slice_get before.objects n ≡ Some (AFollower (kept_follower g))
      here = get-map kept w.objects n ∙ ap (option_map kept) at

      unbegun : slice_get w.polls n ≡ Some None → IsValidCommand settings w command → ⊥
      unbegun none can = let begun = (can-step can (Some (AFollower g)) at).0 in let some : IsBegunAt w.polls n begun.0 = begun.1 in absurd (cc (none, some))

      by : (poll : Option Begun) (object' : Object) → slice_get w.polls n ≡ Some poll → StepsObject settings.extractor (AFollower (kept_follower g)) poll (stored_in o w) reply object' a.poll' store' → a.poll ≡ poll → a.object' ≡ object' → Out
      by (Some b) (AFollower new) begun does poll_is object_is = steps-link g at b begun new a.poll' does (a.same ∙ ap (λ x. record before { objects = set before.objects n x; polls = set before.polls n a.poll' }) object_is)
      by (Some b) (AHandle h) begun does poll_is object_is = absurd (let no = does.1 in cc)
      by (Some b) (ASnapshot x) begun does poll_is object_is = absurd (let no = does.1 in cc)
      by None (AFollower new) begun does poll_is object_is = nothing _ a here does.0 (object_is ∙ does.1) (does.2 ∙ sym poll_is) does.3 (unbegun begun) (λ reader b at_n some. absurd (let none = begun in cc (none, some)))
      by None (AHandle h) begun does poll_is object_is = nothing _ a here does.0 (object_is ∙ does.1) (does.2 ∙ sym poll_is) does.3 (unbegun begun) (λ reader b at_n some. absurd (let none = begun in cc (none, some)))
      by None (ASnapshot x) begun does poll_is object_is = nothing _ a here does.0 (object_is ∙ does.1) (does.2 ∙ sym poll_is) does.3 (unbegun begun) (λ reader b at_n some. absurd (let none = begun in cc (none, some)))

  pub step-links : Out
  step-links = by (slice_get w.objects n) refl (subst (λ found. StepsOn settings.extractor n found before (stored_in o w) reply live' store') (get-map kept w.objects n) did-shown)
    where
      by : (found : Option Object) → slice_get w.objects n ≡ found → StepsOn settings.extractor n (option_map kept found) before (stored_in o w) reply live' store' → Out
      by None none (replied, same, same_store) = unstepped same same_store replied (λ can. can-step can None none) (λ reader b at_n some. absurd (cc (none, at_n)))
      by (Some (AHandle h)) at a = nothing _ a (get-map kept w.objects n ∙ ap (option_map kept) at) (a.does).0 (a.does).1 (a.does).2 (a.does).3 (λ can. can-step can (Some (AHandle h)) at) (λ reader b at_n some. absurd (let no : ◌≡◌ {A = Option Object} (Some (AHandle h)) (Some (AFollower reader)) = sym at ∙ at_n in cc))
      by (Some (ASnapshot x)) at a = nothing _ a (get-map kept w.objects n ∙ ap (option_map kept) at) (a.does).0 (a.does).1 (a.does).2 (a.does).3 (λ can. can-step can (Some (ASnapshot x)) at) (λ reader b at_n some. absurd (let no : ◌≡◌ {A = Option Object} (Some (ASnapshot x)) (Some (AFollower reader)) = sym at ∙ at_n in cc))
      by (Some (AFollower g)) at a = of-reader g at a
