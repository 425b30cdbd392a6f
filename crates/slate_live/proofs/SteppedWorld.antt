-- The world after a step of the begun poll of a reader, and the link to it.
use Rattle.std.proofs.Common.{◌≡◌, ◌≢◌, ◌∙◌, ◌⊎◌, ◌==◌, inl, inr, ℕ, ◌≤◌, Bool, true, false, if◌then◌else◌, List, set, Option, Some, None, Err, refl, sym, ap, subst, arith}
use Rattle.std.proofs.lemmas.Bool.{eq-eqb, eqb-true}
use Rattle.std.proofs.lemmas.List.{map-set}
use Rattle.std.specs.List.{slice_get}
use Rattle.std.specs.Option.{IfSome}
use Rattle.slate_types.specs.declared.batches.Batch.{Batch}
use Rattle.slate_store.specs.Calls.{HasRisen}
use Rattle.slate_types.specs.Line.{batches_above}
use Rattle.slate_store.specs.Checkpoints.{found as found_in}
use Rattle.slate_store.specs.Objects.{Objects, entry_at, latest_manifest, last_log}
use Rattle.slate_store.specs.declared.objects.Checkpoint.{Checkpoint}
use Rattle.slate_store.specs.Content.{content}
use Rattle.slate_store.specs.declared.objects.VersionedManifest.{VersionedManifest}
use Rattle.slate_errors.specs.declared.closing.CloseFault.TheVariants as faults
use Rattle.slate_errors.specs.declared.errors.SlateError.TheVariants as errors
use Rattle.slate_model.specs.Begun.{Begun}
use Rattle.slate_model.specs.Catalogue.{Catalogue, catalogue_of}
use Rattle.slate_model.specs.Follower.{Follower, HasSegments, is_pinned, kept_follower, number}
use Rattle.slate_model.specs.Handle.{Handle}
use Rattle.slate_model.specs.Known.{Known}
use Rattle.slate_model.specs.Open.{replayed}
use Rattle.slate_model.specs.Object.{Object, Handle as AHandle, Snapshot as ASnapshot, Follower as AFollower, kept, tables_of}
use Rattle.slate_model.specs.Stood.{WasLatest}
use Rattle.slate_model.specs.declared.snapshots.HandleSnapshot.{HandleSnapshot}
use Rattle.slate_model.specs.Write.{last_number}
use Rattle.slate_model.specs.declared.leases.Lease.{Lease}
use Rattle.slate_model.proofs.Logging.{OfLine, PastLine, none-put_logs, stay-follow}
use Rattle.slate_model.proofs.Maintained.{Maintained}
use Rattle.slate_model.proofs.Prefixes.{prefix-same}
use Rattle.slate_model.proofs.Reduced.{some-same}
use Rattle.slate_follow.proofs.Following.{others-keep}
use Rattle.slate_follow.proofs.Lasting.{maintained-acts, others-last}
use Rattle.slate_script.specs.declared.commands.Action.TheVariants as actions
use Rattle.slate_script.specs.declared.commands.Command.{Command}
use Rattle.slate_script.specs.declared.replies.Reply.{Reply}
use Rattle.slate_live.specs.Calls.{Steps as StepsKind, kind_of}
use Rattle.slate_live.specs.Confirmed.{Sees}
use Rattle.slate_live.specs.Next.{HasLease, NextBy, StepLeaves, shown, stored_in, owed_first}
use Rattle.slate_live.specs.Replies.{refusal}
use Rattle.slate_live.specs.Represents.{AreBefore, AllInSegments, AreInSegments, AreOfPast, HaveSegments, Holds, IsFollowerAt, IsHandleAt, IsHeld, IsValid, IsValidFollower, PollHasSegments, Represents, RepresentsObjects, StandsAt, follows_all, replays_all}
use Rattle.slate_live.specs.Causes.{HasCauses}
use Rattle.slate_live.specs.Reaching.{ReachesTo}
use Rattle.slate_live.specs.Rising.{FollowerRises}
use Rattle.slate_live.specs.Settings.{Settings}
use Rattle.slate_live.specs.Standing.{PollStands, StandsBeside}
use Rattle.slate_live.specs.State.{IsBegunAt, Live}
use Rattle.slate_live.specs.Stepping.{StepsPoll}
use Rattle.slate_live.specs.Valid.{IsAnswered, IsStepped, IsStoreFault, IsValidCommand, Link}
use Rattle.slate_live.specs.World.{World}
use Rattle.slate_live.proofs.Begun.{begun-set, steps-is}
use Rattle.slate_live.proofs.Beside.{IsLatestBut}
use Rattle.slate_live.proofs.OthersBeside.{reaches-on}
use Rattle.slate_live.proofs.Cases.{if-some}
use Rattle.slate_live.proofs.Changing.{followers-set, handles-set-follower}
use Rattle.slate_live.proofs.Leading.{Leads}
use Rattle.slate_live.proofs.Maintaining.{maintained-leads}
use Rattle.slate_live.proofs.Onward.{beside-onward, onward-maintained}
use Rattle.slate_live.proofs.Places.{get-set, get-set_other, get-set_same}
use Rattle.slate_live.proofs.Polled.{shown-is, stored-is}
use Rattle.slate_live.proofs.Rising.{rise-set}
use Rattle.slate_live.proofs.Sparing.{IsOfPut, IsSpared}

module _ (settings : Settings) (n : ℕ) (command : Command) (live live' : Live) (store store' : Known (List Batch)) (reply : Reply) (opts : live.options ≡ settings.options) (kind : kind_of command.action ≡ StepsKind n) (did : StepsPoll settings.extractor n live store reply live' store')
    (w : World) (r : Represents live store w) (segments : AllInSegments settings.extractor w) where
  abbrev pub Out : Type 0
  Out = (w' : World) × Link settings w command reply w' × Represents live' store' w' × AllInSegments settings.extractor w'

  abbrev ro : RepresentsObjects live store w
  ro = r.represents

  abbrev o : Objects
  o = (ro.held).0

  there : store.objects ≡ Some o
  there = (ro.held).1

  abbrev before : Live
  before = shown settings.options w

  action-is : command.action ≡ actions.Step n
  action-is = steps-is command.action n kind

  is : live ≡ before
  is = shown-is settings.options live store w opts r

  is-store : store ≡ stored_in o w
  is-store = stored-is live store w ro

  did-shown : StepsPoll settings.extractor n before (stored_in o w) reply live' store'
  did-shown = subst (λ l. StepsPoll settings.extractor n l (stored_in o w) reply live' store') is (subst (λ k. StepsPoll settings.extractor n live k reply live' store') is-store did)

  no-confirm : (i : ℕ) → command.action ≡ actions.Await i → ⊥
  no-confirm i asks = (let no : actions.Step n ≡ actions.Await i = sym action-is ∙ asks in absurd (cc))

  -- a step of the begun poll of a reader
  module _ (g : Follower) (at : IsFollowerAt w.objects n g) (b : Begun) (begun_at_n : IsBegunAt w.polls n b) (o' : Objects) (there' : store'.objects ≡ Some o') (m : Maintained o o') (g' : Follower) (poll' : Option Begun)
      (same : live' ≡ record before { objects = set before.objects n (AFollower (kept_follower g')); polls = set before.polls n poll' }) where
    abbrev pub w1 : World
    w1 = record w { catalogue = catalogue_of o'; faults = store'.faults }

    abbrev pub objects' : List Object
    objects' = set w.objects n (AFollower g')

    abbrev pub owed' : ℕ → ℕ
    owed' i = if i == n then owed_first w n g b else w.owed i

    abbrev pub w' : World
    w' = record { stored = w.stored; catalogue = catalogue_of o'; objects = objects'; polls = live'.polls; owed = owed'; writes = w.writes; faults = store'.faults }

    pub owed-mine : owed' n ≡ owed_first w n g b
    owed-mine = ap (λ x. if x then owed_first w n g b else w.owed n) (eq-eqb n n refl)

    owed-other : (i : ℕ) → i ≢ n → owed' i ≡ w.owed i
    owed-other i other = by (i == n) refl
      where
        by : (x : Bool) → (i == n) ≡ x → (if x then owed_first w n g b else w.owed i) ≡ w.owed i
        by true same = absurd (other (eqb-true i n same))
        by false apart = refl

    old-leads : Leads w.stored o' w.objects
    old-leads = maintained-leads w o (ro.held).2 (ro.held).3 ro.valid (ro.held).4 o' m

    handle-before : (i : ℕ) (a : Handle) → IsHandleAt objects' i a → IsHandleAt w.objects i a
    handle-before = handles-set-follower w.objects n (AFollower g) g' at

    handle-after : (i : ℕ) (a : Handle) → IsHandleAt w.objects i a → IsHandleAt objects' i a
    handle-after i a there = get-set_other w.objects n i (AFollower g') (λ e. absurd (let here = subst (λ j. slice_get w.objects j ≡ Some (AHandle a)) e there in let no : ◌≡◌ {A = Option Object} (Some (AHandle a)) (Some (AFollower g)) = sym here ∙ at in cc)) ∙ there

    pushes-out : (s : StandsBeside o' w1 g') → (P : Object → Type 0) → P (AFollower g') → ((i : ℕ) (x : Object) → slice_get w.objects i ≡ Some x → P x) → (i : ℕ) (x : Object) → slice_get objects' i ≡ Some x → P x
    pushes-out s P mine others i x there = elim (get-set w.objects n i (AFollower g') x (AFollower g) at there) [
      | inl here ↦ subst P here.1 mine
      | inr other ↦ others i x other.1
    ]

    pub record Went : Type 0 where
      pub stands : StandsBeside o' w1 g'
      pub rises : FollowerRises g g'
      pub begun : (b' : Begun) → poll' ≡ Some b' → (g'.result ≡ None) × (is_pinned g'.mode ≡ false → PollStands o' w1 g' b' × IfSome b'.history.first (λ _. ReachesTo (owed_first w n g b) o' w1 g' b'))
      pub were : (last : VersionedManifest) → WasLatest o last → WasLatest o' last
      pub open_ : g.result ≡ None
      pub tasks : g'.tasks ≡ g.tasks
      pub has_segments : HasSegments settings.extractor g → HasSegments settings.extractor g'
      pub latest : (latest : VersionedManifest) → latest_manifest o ≡ Some latest → IsLatestBut o' latest
      pub spares : (latest : VersionedManifest) (id : List ℕ) (c : Checkpoint) → latest_manifest o ≡ Some latest → found_in id latest ≡ Some c → ((lease : Lease) → HasLease w n lease → lease.id ≢ id) → IsSpared id c o o'
      pub leases : (lease : Lease) → (g'.lease ≡ Some lease) ⊎ ((b : Begun) × (poll' ≡ Some b) × (b.lease ≡ Some lease)) → ((old : Lease) × HasLease w n old × (old.id ≡ lease.id)) ⊎ IsOfPut o o' lease
      pub full : reply ≡ refusal errors.InvalidDBState → (latest : VersionedManifest) × (latest_manifest o' ≡ Some latest) × (last_number ≤ latest.id)
      pub closes : g'.result ≡ Some (Err faults.InvalidDBState) → reply ≡ refusal errors.InvalidDBState
      pub viewed : follows_all g'.mode g'.skips ≡ true → HaveSegments settings.extractor (replayed g'.view w.stored)
      pub polled : (b : Begun) → poll' ≡ Some b → follows_all g'.mode g'.skips ≡ true → PollHasSegments settings.extractor w.stored g' b
      pub fault : (store'.faults ≡ w.faults) ⊎ IsStoreFault reply
      pub answers : IsValidCommand settings w command → (HasRisen w.faults store'.faults → ⊥) → IsStepped reply
      pub causes : HasCauses n w g b reply w'

    module _ (went : Went) where
      leads : Leads w.stored o' objects'
      leads = record {
        sound = old-leads.sound;
        content = old-leads.content;
        handles = λ i a there. old-leads.handles i a (handle-before i a there);
        followers = followers-set (IsValidFollower w.stored (catalogue_of o')) w.objects n (AFollower g) g' at went.stands.valid old-leads.followers;
        named = λ i j a x at_i at_j. pushes-out went.stands (λ y. AreBefore a (tables_of y)) (went.stands.named i a (handle-before i a at_i)) (λ k y there. old-leads.named i k a y (handle-before i a at_i) there) j x at_j;
        past = pushes-out went.stands (λ y. AreOfPast (catalogue_of o') (tables_of y)) went.stands.past old-leads.past;
        distinct = λ i j a b at_i at_j epochs. old-leads.distinct i j a b (handle-before i a at_i) (handle-before j b at_j) epochs;
        reads = pushes-out went.stands (IsHeld o') went.stands.held old-leads.reads;
      }

      holds' : Holds o' w'
      holds' = record { stored = leads.content; catalogue = refl }

      snapshot-before : (i : ℕ) (x : HandleSnapshot) → slice_get objects' i ≡ Some (ASnapshot x) → slice_get w.objects i ≡ Some (ASnapshot x)
      snapshot-before i x there = elim (get-set w.objects n i (AFollower g') (ASnapshot x) (AFollower g) at there) [
        | inl here ↦ absurd (let no = here.1 in cc)
        | inr other ↦ other.1
      ]

      valid' : IsValid w'
      valid' = record {
        line = ro.valid.line;
        followers = leads.followers;
        handles = leads.handles;
        snapshots = λ i x there. let s = ro.valid.snapshots i x (snapshot-before i x there) in (s.0, handle-after x.handle s.0 s.1, s.2, s.3);
        named = leads.named;
        past = leads.past;
        distinct = leads.distinct;
      }

      -- a reader beside the world, or a begun poll of it, stands then
      beside-then : (f : Follower) → StandsBeside o w f → StandsBeside o' w' f
      beside-then f s = beside-onward w o w.stored o' objects' live'.polls owed' w.writes store'.faults (ro.held).3 (onward-maintained w o (ro.held).2 (ro.held).3 ro.valid (ro.held).4 o' m objects' handle-before) f s

      poll-then : (f : Follower) (b : Begun) → PollStands o w f b → PollStands o' w' f b
      poll-then f b p = record {
        reader_stands = beside-then f p.reader_stands;
        keeps = p.keeps;
        follows = others-keep o o' w.stored w.stored (kept_follower f) b (prefix-same w.stored) (none-put_logs o o' m.logs_are (OfLine w.stored)) p.follows;
        fits = p.fits;
        viewed = p.viewed;
        within = p.within;
        comes = beside-then _ p.comes;
        read = λ last is. let read = p.read last is in (went.were last read.0, read.1, read.2, beside-then _ read.3);
        staged = p.staged;
        bare = p.bare;
        anew = p.anew;
        numbered = p.numbered;
        risen = p.risen;
        above = p.above;
        tabled = p.tabled;
        lasts = others-last o o' (kept_follower f) b (maintained-acts o o' m went.were) p.lasts;
      }

      -- and so does what stands beside the world with the new catalogue
      beside-same : (f : Follower) → StandsBeside o' w1 f → StandsBeside o' w' f
      beside-same f s = record { valid = s.valid; named = λ i a there. s.named i a (handle-before i a there); past = s.past; held = s.held }

      poll-same : (f : Follower) (b : Begun) → PollStands o' w1 f b → PollStands o' w' f b
      poll-same f b p = record {
        reader_stands = beside-same f p.reader_stands;
        keeps = p.keeps;
        follows = p.follows;
        fits = p.fits;
        viewed = p.viewed;
        within = p.within;
        comes = beside-same _ p.comes;
        read = λ last is. let read = p.read last is in (read.0, read.1, read.2, beside-same _ read.3);
        staged = p.staged;
        bare = p.bare;
        anew = p.anew;
        numbered = p.numbered;
        risen = p.risen;
        above = p.above;
        tabled = p.tabled;
        lasts = p.lasts;
      }

      -- and reaches what its reader was owed
      reach-mine : (i : ℕ) → i ≡ n → (f : Follower) (b' : Begun) → IfSome b'.history.first (λ _. ReachesTo (owed_first w n g b) o' w1 f b') → IfSome b'.history.first (λ _. ReachesTo (owed' i) o' w' f b')
      reach-mine i here f b' = if-some b'.history.first (λ _. ReachesTo (owed_first w n g b) o' w1 f b') (λ _. ReachesTo (owed' i) o' w' f b')
          (λ _ x. subst (λ k. ReachesTo k o' w' f b') (sym (ap owed' here ∙ owed-mine)) (record { stored = x.stored; tabled = x.tabled; apart = x.apart; anew = x.anew; next = x.next }))

      reach-then : (i : ℕ) → (i ≡ n → ⊥) → (f : Follower) (b' : Begun) → PollStands o w f b' → IfSome b'.history.first (λ _. ReachesTo (w.owed i) o w f b') → IfSome b'.history.first (λ _. ReachesTo (owed' i) o' w' f b')
      reach-then i other f b' p =
          let l = p.lasts.latest in
          let next = m.latest l.0 l.1 in
          let tabled = next.3 in
          if-some b'.history.first (λ _. ReachesTo (w.owed i) o w f b') (λ _. ReachesTo (owed' i) o' w' f b')
          (λ _ x. subst (λ k. ReachesTo k o' w' f b') (sym (owed-other i other))
          (reaches-on (w.owed i) w w' o o' l.0 next.0 l.1 next.1 (ro.held).3 holds' (prefix-same w.stored) (omega (arith, tabled)) (inl tabled)
          (stay-follow o o' (l.0).manifest.replay_after_wal_id (next.0).manifest.replay_after_wal_id (sym next.4) (m.logs l.0 l.1)) (m.goes (last_log (l.0).manifest.replay_after_wal_id o)) (none-put_logs o o' m.logs_are (PastLine w.stored)) f b' x))

      polls-are : live'.polls ≡ set w.polls n poll'
      polls-are = ap (λ (l : Live). l.polls) same

      begun-then : (i : ℕ) (b : Begun) → IsBegunAt live'.polls i b → StandsAt o' w' i b
      begun-then i b there = elim (begun-set w.polls n i poll' b (subst (λ ps. IsBegunAt ps i b) polls-are there)) [
        | inl mine ↦
            let new = went.begun b mine.1 in
            let here : IsFollowerAt objects' i g' = subst (λ j. IsFollowerAt objects' j g') (sym mine.0) (set-there w.objects n at) in
            (g', here, new.0, λ free. (poll-same g' b (new.1 free).0, reach-mine i mine.0 g' b (new.1 free).1))
        | inr other ↦
            let old = r.begun o i b (ro.held).1 other.1 in
            (old.0, get-set_other w.objects n i (AFollower g') other.0 ∙ old.1, old.2, λ free. (poll-then old.0 b (old.3 free).0, reach-then i other.0 old.0 b (old.3 free).0 (old.3 free).1))
      ]
        where
          set-there : (xs : List Object) (k : ℕ) → slice_get xs k ≡ Some (AFollower g) → slice_get (set xs k (AFollower g')) k ≡ Some (AFollower g')
          set-there xs k there = get-set_same xs k (AFollower g') (AFollower g) there

      represents-then : Represents live' store' w'
      represents-then = record {
        represents = record {
          held = (o', there', leads.sound, holds', leads.reads);
          faults = refl;
          objects = ap (λ (l : Live). l.objects) same ∙ sym (map-set kept w.objects n (AFollower g'));
          writes = ap (λ (l : Live). l.writes) same;
          valid = valid';
        };
        polls = refl;
        begun = λ x i b there_x there. subst (λ y. StandsAt y w' i b) (some-same o' x (sym there' ∙ there_x)) (begun-then i b there);
      }

      -- the keys that an opening replays
      keys-then : AreInSegments settings.extractor w'
      keys-then = record {
        unstored = λ i a there. (segments.keys).unstored i a (handle-before i a there);
        stored = λ i x latest' there all found.
            let old : (y : Object) × (slice_get w.objects i ≡ Some y) × (replays_all y ≡ true) = (elim (get-set w.objects n i (AFollower g') x (AFollower g) at there) [
              | inl here ↦ (AFollower g, subst (λ j. slice_get w.objects j ≡ Some (AFollower g)) (sym here.0) at, was-all x here.1 all)
              | inr other ↦ (x, other.1, all)
            ]) in
            let past = ro.valid.past i old.0 old.1 in
            let have = (segments.keys).stored i old.0 past.0 old.1 old.2 past.1 in
            let found_before : latest_manifest o ≡ Some past.0 = ap latest_manifest (ro.held).3.catalogue ∙ past.1 in
            let next = m.latest past.0 found_before in
            let same_latest : next.0 ≡ latest' = some-same next.0 latest' (sym next.1 ∙ found) in
            let number : latest'.manifest.last_l0_seq ≡ (past.0).manifest.last_l0_seq = sym (ap (λ (v : VersionedManifest). v.manifest.last_l0_seq) same_latest) ∙ next.3 in
            subst (λ k. HaveSegments settings.extractor (batches_above k w.stored.batches)) (sym number) have;
      }
        where
          was-all : (x : Object) → AFollower g' ≡ x → replays_all x ≡ true → replays_all (AFollower g) ≡ true
          was-all x here all =
              let modes_same = went.rises.mode in
              let skips_same = went.rises.skips in
              let mine : replays_all (AFollower g') ≡ true = subst (λ y. replays_all y ≡ true) (sym here) all in
              subst (λ mode. replays_all (AFollower (record g { mode = mode })) ≡ true) modes_same (subst (λ skips. replays_all (AFollower (record g { mode = g'.mode; skips = skips })) ≡ true) skips_same mine)

      reader-then : (i : ℕ) (f : Follower) → slice_get objects' i ≡ Some (AFollower f) → ((i ≡ n) × (g' ≡ f)) ⊎ ((i ≢ n) × (slice_get w.objects i ≡ Some (AFollower f)))
      reader-then i f there = by (i == n) refl
        where
          by : (b : Bool) → (i == n) ≡ b → ((i ≡ n) × (g' ≡ f)) ⊎ ((i ≢ n) × (slice_get w.objects i ≡ Some (AFollower f)))
          by true same =
              let here : i ≡ n = eqb-true i n same in
              let mine = get-set_same w.objects n (AFollower g') (AFollower g) at in
              let other = subst (λ j. slice_get objects' j ≡ Some (AFollower f)) here there in
              inl (here, let e : g' ≡ f = (cc (mine, other)) in e)
          by false apart =
              let other : i ≢ n = (λ e. let yes = eq-eqb i n e in absurd (cc (yes, apart))) in
              inr (other, sym (get-set_other w.objects n i (AFollower g') other) ∙ there)

      segments-then : AllInSegments settings.extractor w'
      segments-then = record {
        keys = keys-then;
        viewed = λ i f there replays. elim (reader-then i f there) [
          | inl mine ↦ subst (λ (y : Follower). HaveSegments settings.extractor (replayed y.view w.stored)) mine.1 (went.viewed (subst (λ (y : Follower). follows_all y.mode y.skips ≡ true) (sym mine.1) replays))
          | inr other ↦ segments.viewed i f other.1 replays
        ];
        polled = λ i f b there begun replays. elim (begun-set w.polls n i poll' b (subst (λ ps. IsBegunAt ps i b) polls-are begun)) [
          | inl mine ↦
              let same : g' ≡ f = (elim (reader-then i f there) [ inl here ↦ here.1 | inr other ↦ absurd (other.0 mine.0) ]) in
              subst (λ (y : Follower). PollHasSegments settings.extractor w.stored y b) same (went.polled b mine.1 (subst (λ (y : Follower). follows_all y.mode y.skips ≡ true) (sym same) replays))
          | inr other ↦
              let old : slice_get w.objects i ≡ Some (AFollower f) = (elim (reader-then i f there) [ inl here ↦ absurd (other.0 here.0) | inr was ↦ was.1 ]) in
              segments.polled i f b old other.1 replays
        ];
      }

      reader-same : (reader : Follower) → IsFollowerAt w.objects n reader → g ≡ reader
      reader-same reader at_n = (let same : ◌≡◌ {A = Option Object} (Some (AFollower g)) (Some (AFollower reader)) = sym at ∙ at_n in cc)

      begun-same : (begun : Begun) → IsBegunAt w.polls n begun → b ≡ begun
      begun-same begun there = some-same b begun (some-same (Some b) (Some begun) (sym begun_at_n ∙ there))

      pub stepped : Out
      stepped = (
        w',
        record {
          next = subst (λ k. NextBy k settings w command reply w') (sym kind) (record {
            before = o;
            after = o';
            holds = (ro.held).3;
            holds_then = holds';
            steps = subst (λ l. StepsPoll settings.extractor n before (stored_in o w) reply l (stored_in o' w')) live-is (subst (StepsPoll settings.extractor n before (stored_in o w) reply live') store-is did-shown);
            others = λ i other. get-set_other w.objects n i (AFollower g') other;
            stored = refl;
            owed = λ reader begun at_n there. owed-mine ∙ (ap (λ x. owed_first w n x b) (reader-same reader at_n) ∙ ap (owed_first w n reader) (begun-same begun there));
            owed_others = λ i other. owed-other i other;
          });
          completes = λ can none. subst (λ k. IsAnswered k reply) (sym kind) (went.answers can none);
          faults = went.fault;
          grows = prefix-same w.stored;
          durable = λ i handle there. (leads.handles i handle there).confirmed;
          rises = rise-set w.objects objects' n (AFollower g) (AFollower g') at went.rises refl;
          confirms = λ i asks durable. absurd (no-confirm i asks);
          sees = λ batch stands. subst (λ action. Sees batch action reply w') (sym action-is) tt;
          leaves = λ i steps.
              let place : n ≡ i = (let same : StepsKind n ≡ StepsKind i = sym kind ∙ steps in cc) in
              subst (λ i. StepLeaves settings.extractor i w reply w') place (record {
                objects = inr (g, g', at, refl, went.open_, went.rises.mode, went.tasks, went.has_segments);
                polls = λ m other. ap (λ (ps : List (Option Begun)). slice_get ps m) polls-are ∙ get-set_other w.polls n m poll' other;
                latest = λ latest there. went.latest latest (ap latest_manifest (ro.held).3.catalogue ∙ there);
                checkpoints = λ latest id c there found others.
                    let spared = went.spares latest id c (ap latest_manifest (ro.held).3.catalogue ∙ there) found others in
                    (spared.0, spared.1, spared.2, spared.3 ∙ entries c.manifest_id);
                full = went.full;
                closes = λ f there shut. inl (went.closes (subst (λ (y : Follower). y.result ≡ Some (Err faults.InvalidDBState)) (sym (mine-is f there)) shut));
                leases = λ lease has. elim (went.leases lease (own lease has)) [
                  | inl old ↦ inl old
                  | inr put ↦ inr (put.0, put.1, put.2, sym (entries put.0) ∙ put.3, put.4, put.5, put.6)
                ];
              });
          causes = λ i reader begun steps at_i there.
              let place : n ≡ i = (let same : StepsKind n ≡ StepsKind i = sym kind ∙ steps in cc) in
              let at_n = subst (λ j. IsFollowerAt w.objects j reader) (sym place) at_i in
              let there_n = subst (λ j. IsBegunAt w.polls j begun) (sym place) there in
              subst (λ j. HasCauses j w reader begun reply w') place (subst (λ x. HasCauses n w x begun reply w') (reader-same reader at_n) (subst (λ x. HasCauses n w g x reply w') (begun-same begun there_n) went.causes));
        },
        represents-then,
        segments-then,
      )
        where
          entries : (k : ℕ) → entry_at k o.manifests ≡ entry_at k w.catalogue.manifests
          entries k = ap (λ (x : Catalogue). entry_at k x.manifests) (ro.held).3.catalogue

          mine-is : (f : Follower) → IsFollowerAt objects' n f → g' ≡ f
          mine-is f there = let mine = get-set_same w.objects n (AFollower g') (AFollower g) at in (cc (mine, there))

          -- a lease of the reader, or of the begun poll that is left
          own : (lease : Lease) → HasLease w' n lease → (g'.lease ≡ Some lease) ⊎ ((b : Begun) × (poll' ≡ Some b) × (b.lease ≡ Some lease))
          own lease (inl (f, here, has)) =
              let mine = get-set_same w.objects n (AFollower g') (AFollower g) at in
              let same : g' ≡ f = cc in
              inl (ap (λ (x : Follower). x.lease) same ∙ has)
          own lease (inr (b, here, has)) = elim (begun-set w.polls n n poll' b (subst (λ ps. IsBegunAt ps n b) polls-are here)) [
            | inl mine ↦ inr (b, mine.1, has)
            | inr other ↦ absurd (other.0 refl)
          ]

          live-is : live' ≡ shown settings.options w'
          live-is =
              ap (λ (l : Live). record l { polls = live'.polls }) same-alone
              ∙ ap (λ (xs : List Object). record { options = settings.options; objects = xs; polls = live'.polls; writes = w.writes }) (sym (map-set kept w.objects n (AFollower g')))
            where
              same-alone : live' ≡ record before { objects = set before.objects n (AFollower (kept_follower g')); polls = live'.polls }
              same-alone = same ∙ ap (λ (ps : List (Option Begun)). record before { objects = set before.objects n (AFollower (kept_follower g')); polls = ps }) (sym polls-are)

          store-is : store' ≡ stored_in o' w'
          store-is = ap (λ x. record { objects = x; faults = store'.faults }) there'
