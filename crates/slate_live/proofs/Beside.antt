-- A reader beside a world, and a begun poll of it, stand from call to call.
use Rattle.std.proofs.Common.{◌≡◌, ◌∙◌, ◌⊎◌, ℕ, ℤ, ◌+◌, ◌-◌, ◌<◌, ◌≤◌, ◌++◌, ◌==◌, max, inl, inr, Bool, true, false, if◌then◌else◌, All, List, [], ◌∷◌, length, Option, Some, None, Result, Ok, Err, refl, sym, ap, subst, arith}
use Rattle.std.proofs.lemmas.Bool.{cases_lt}
use Rattle.std.proofs.lemmas.List.Elements.{All-cons, All-contains_itself, All-nil}
use Rattle.std.specs.List.{slice_get}
use Rattle.std.specs.Option.{IsSomeAnd, MatchOption, is_some}
use Rattle.slate_types.specs.Line.{AreNumberedFrom, Line, batches_above, end}
use Rattle.slate_types.specs.declared.batches.Batch.{Batch}
use Rattle.slate_types.specs.declared.store_errors.StoreFault.TheVariants.{Unavailable}
use Rattle.slate_store.specs.Checkpoints.{with_checkpoints}
use Rattle.slate_store.specs.Content.{IsSound, content}
use Rattle.slate_store.specs.Logs.{HaveGap, HaveNoGap}
use Rattle.slate_store.specs.Objects.{Objects, PutManifest, changed, entry_at, is_present, last_log, latest_manifest, log_at}
use Rattle.slate_store.specs.declared.objects.VersionedManifest.{VersionedManifest}
use Rattle.slate_store.specs.declared.reader_modes.DbReaderMode.TheVariants as modes
use Rattle.slate_replay.specs.Replay.{ReplaysNext}
use Rattle.slate_replay.specs.declared.replays.Replayed.{Replayed}
use Rattle.slate_replay.specs.declared.replays.Replayed.TheVariants as replays
use Rattle.slate_errors.specs.declared.errors.SlateError.{SlateError}
use Rattle.slate_errors.specs.declared.errors.SlateError.TheVariants as errors
use Rattle.slate_model.specs.Begun.{AsksLast, Begun, Breaks, Ended, Ends, Fails, Goes, LooksAt, Puts, ReadsAgain, ReadsLatest, ReadsLog, Stage, Turn, arrived, base_of, begun_at, decided, kept_batches, reached_number, replayed, view_of, no_step, noted, read_log, taken, with_latest, with_step}
use Rattle.slate_model.specs.Catalogue.{catalogue_of}
use Rattle.slate_model.specs.declared.answers.PollAnswer.{PollAnswer}
use Rattle.slate_model.specs.declared.answers.PollAnswer.TheVariants as answers
use Rattle.slate_model.specs.declared.leases.Lease.{Lease}
use Rattle.slate_model.specs.declared.polls.PollHistory.{PollHistory}
use Rattle.slate_model.specs.Follow.{come_by}
use Rattle.slate_model.specs.Follower.{Follower, is_managed, is_pinned, kept_follower, number, unsegmented}
use Rattle.slate_model.specs.Handle.{up_to}
use Rattle.slate_model.specs.Known.{Known}
use Rattle.slate_model.specs.Object.{Follower as AFollower, Object}
use Rattle.slate_model.specs.Seen.{HasSeen}
use Rattle.slate_model.specs.Stood.{IsPlanned, WasLatest}
use Rattle.slate_model.proofs.Coming.{Come, Comes, again-comes, arrived-kept, asked-comes, committed-comes, looked-comes, overtaken-comes, planned-other, read-on, replayed-comes, restaged}
use Rattle.slate_model.proofs.Fronts.{fresh-within, front-end, seen-as, seen-log}
use Rattle.slate_model.proofs.Keeping.{line_above-end}
use Rattle.slate_model.proofs.Maintained.{Maintained, put-latest}
use Rattle.slate_model.proofs.Owing.{tabled}
use Rattle.slate_model.proofs.Putting.{free-at, put-maintains, was-put}
use Rattle.slate_model.proofs.Logging.{LogsAre, LogsFollow, none-put_logs, stay-follow}
use Rattle.slate_model.proofs.Stale.{latest-entry, stale-latest}
use Rattle.slate_model.proofs.Reduced.{some-same}
use Rattle.slate_follow.proofs.Following.{are-above, are-grown, begins-on, goes-on, log-begins, no-gap-rises}
use Rattle.slate_follow.specs.Following.{AreOf, FollowsLine, IsReplaying, StandsAt}
use Rattle.slate_follow.proofs.Lasting.{begins-last, lasts-goes}
use Rattle.slate_follow.specs.Stepping.{FailsFrom, LeavesPut, LooksTo, Meets, MeetsAt, StepFails, Steps, log_turn, reads_latest}
use Rattle.slate_live.specs.Beside.{StandsAfter}
use Rattle.slate_live.specs.Reaching.{IsApart, IsCovered, IsCoveredBy, ReachesAt, ReachesTo}
use Rattle.slate_live.specs.Rising.{FollowerRises}
use Rattle.slate_live.specs.Standing.{IsStaged, PollStands, StandsBeside, comes_to, placed, tabled_by}
use Rattle.slate_live.proofs.Reaching.{AreLate, Reaches, again-reaches, anew-then, asked-reaches, committed-reaches, content-covered, decided-reaches, looked-reaches, overtaken-reaches, reaches-then, read-reaches, seen-covered}
use Rattle.slate_live.specs.Represents.{Holds, IsFollowerAt, IsHeld, IsValid, RepresentsObjects}
use Rattle.slate_live.specs.State.{Live}
use Rattle.slate_live.specs.World.{World}
use Rattle.slate_live.proofs.Advancing.{Advanced, Advances, IsAbove, again-advances, asked-advances, committed-advances, cut-advances, decided-advances, looks-advance, overtaken-advances, read-advances, start-advances}
use Rattle.slate_live.proofs.Cases.{is-none}
use Rattle.slate_live.proofs.Chains.{reached}
use Rattle.slate_live.proofs.KnownFollower.{unchanged-objects}
use Rattle.slate_live.proofs.Maintaining.{maintained-leads}
use Rattle.slate_live.proofs.Skipping.{meets-bare}
use Rattle.slate_live.proofs.Planning.{meets-planned, staged-leased, staged-planned}
use Rattle.slate_live.proofs.Onward.{beside-onward, onward-maintained}
use Rattle.slate_live.proofs.BesideWorld.{begun-comes, come-stands, latest-decided, latest-read, number-is, number-low, poll-comes, view-reached, ways, whole-is}

-- ---- what a call finds, and leads to
gap-rises : (from last : ℕ) (bs : List Batch) → HaveGap from last bs → from ≤ last
gap-rises from last bs gap = no-gap-rises from last gap.front gap.no_gap

no-gap-within : (from last : ℕ) (bs : List Batch) → HaveNoGap from last bs → All (λ b. b.number ≤ last) bs
no-gap-within from last [] gap = All-nil (λ (b : Batch). b.number ≤ last)
no-gap-within from last (b ∷ bs) gap =
    let later = no-gap-rises (max from b.number) last bs gap.1 in
    All-cons (λ (b : Batch). b.number ≤ last) b bs (omega (arith, later)) (no-gap-within (max from b.number) last bs gap.1)

-- what was read last, from objects whose latest manifest it may follow: put again with other checkpoints
put-read : (o : Objects) (w : World) (reader : Follower) (last next : VersionedManifest) (lease : Option Lease) (given : Lease) → IsPlanned last next → WasLatest o next → is_managed reader.mode ≡ true →
    (w.stored.floor ≤ last.manifest.last_l0_seq) × (last.manifest.last_l0_seq ≤ end w.stored) × StandsBeside o w (tabled_by w.stored reader last lease) →
    WasLatest o next × (w.stored.floor ≤ next.manifest.last_l0_seq) × (next.manifest.last_l0_seq ≤ end w.stored) × StandsBeside o w (tabled_by w.stored reader next (Some given))
put-read o w reader last next lease given planned was managed (low, high, s) =
    let other = planned-other last next planned in
    let put = with_checkpoints other.0 last in
    let there : (w.stored.floor ≤ put.manifest.last_l0_seq) × (put.manifest.last_l0_seq ≤ end w.stored) × StandsBeside o w (tabled_by w.stored reader put (Some given)) = (
      low,
      high,
      record {
        valid = (s.valid.0, s.valid.1, λ managed live. refl, s.valid.3);
        named = s.named;
        past = s.past;
        held = (s.held.0, λ free. seen-as o (tabled_by w.stored reader last lease) (tabled_by w.stored reader put (Some given)) refl (omega arith) (s.held.1 free));
      },
    ) in
    let moved = subst (λ (v : VersionedManifest). (w.stored.floor ≤ v.manifest.last_l0_seq) × (v.manifest.last_l0_seq ≤ end w.stored) × StandsBeside o w (tabled_by w.stored reader v (Some given))) (sym other.1) there in
    (was, moved.0, moved.1, moved.2)

-- Such a put is the latest manifest afterwards, where it was planned after that, or the latest one is as before.
pub put-tops : (o : Objects) (sound : IsSound o) (last_one next : VersionedManifest) (was : WasLatest o last_one) (planned : IsPlanned last_one next) (free : is_present (PutManifest next.id next.manifest) o ≡ false) (latest : VersionedManifest) → latest_manifest o ≡ Some latest →
    ((last_one ≡ latest) × (latest.id < next.id) × (latest_manifest (changed (PutManifest next.id next.manifest) o) ≡ Some next)) ⊎ ((next.id < latest.id) × (latest_manifest (changed (PutManifest next.id next.manifest) o) ≡ Some latest))
put-tops o sound last_one next was planned free latest is =
    let other = planned-other last_one next planned in
    let its : was.0 ≡ latest = some-same was.0 latest (sym was.1 ∙ is) in
    let low : last_one.id ≤ latest.id = subst (λ (v : VersionedManifest). last_one.id ≤ v.id) its was.2 in
    let ids : next.id ≡ last_one.id + 1 = ap (λ (v : VersionedManifest). v.id) other.1 in
    elim (cases_lt latest.id next.id) [
      | inl above ↦
          let number = ap (λ (v : VersionedManifest). v.id) its in
          let same : last_one ≡ latest = was.3 (omega (arith, low, ids, above, number)) ∙ its in
          let next_is : next ≡ with_checkpoints other.0 latest = other.1 ∙ ap (with_checkpoints other.0) same in
          inl (same, above, ap (λ (v : VersionedManifest). latest_manifest (changed (PutManifest v.id v.manifest) o)) next_is ∙ (put-latest o latest sound is (with_checkpoints other.0 latest).manifest ∙ ap Some (sym next_is)))
      | inr below ↦ elim (cases_lt next.id latest.id) [
        | inl less ↦ inr (less, stale-latest o sound latest is next.id next.manifest less (free-at o next free))
        | inr over ↦
            let here : next.id ≡ latest.id = omega (arith, below, over) in
            let there = latest-entry o latest sound is in
            absurd (let none = free-at o next free in let some = subst (λ n. entry_at n o.manifests ≡ Some latest.manifest) (sym here) there in cc (none, some))
      ]
    ]

-- the latest manifest is another one but for its id, which isn't lower, and its checkpoints
abbrev pub IsLatestBut : Objects → VersionedManifest → Type 0
IsLatestBut o latest = (latest' : VersionedManifest) × (latest_manifest o ≡ Some latest') × (latest'.manifest ≡ record latest.manifest { checkpoints = latest'.manifest.checkpoints }) × (latest.id ≤ latest'.id)

pub put-leaves : (o : Objects) (sound : IsSound o) (last_one next : VersionedManifest) (was : WasLatest o last_one) (planned : IsPlanned last_one next) (free : is_present (PutManifest next.id next.manifest) o ≡ false) (latest : VersionedManifest) → latest_manifest o ≡ Some latest → IsLatestBut (changed (PutManifest next.id next.manifest) o) latest
put-leaves o sound last_one next was planned free latest is = elim (put-tops o sound last_one next was planned free latest is) [
  | inl (same, above, top) ↦
      let other = planned-other last_one next planned in
      let next_is : next ≡ with_checkpoints other.0 latest = other.1 ∙ ap (with_checkpoints other.0) same in
      (next, top, subst (λ (v : VersionedManifest). v.manifest ≡ record latest.manifest { checkpoints = v.manifest.checkpoints }) (sym next_is) refl, omega (arith, above))
  | inr (less, stale) ↦ (latest, stale, refl, omega arith)
]

covered-same : (skips : Bool) (target : ℕ) (a b : VersionedManifest) (o : Objects) → b.manifest.last_l0_seq ≡ a.manifest.last_l0_seq → b.manifest.replay_after_wal_id ≡ a.manifest.replay_after_wal_id → IsCoveredBy skips target a o → IsCoveredBy skips target b o
covered-same true target a b o tabled mark low = omega (arith, tabled, low)
covered-same false target a b o tabled mark covered = subst (λ n. IsCovered target n b.manifest.replay_after_wal_id o) (sym tabled) (subst (λ k. IsCovered target a.manifest.last_l0_seq k o) (sym mark) covered)

staged-same : (lag target : ℕ) (o : Objects) (begun : Begun) (next : VersionedManifest) (given : Lease) (replaces : Bool) → ReachesAt lag (Puts next given replaces) target o begun → ReachesAt lag (Puts next given replaces) target o (taken begun)
staged-same lag target o begun next given true r = r
staged-same lag target o begun next given false r = r

module _ (live : Live) (store store' : Known (List Batch)) (w : World) (o o' : Objects) (sound : IsSound o) (holds : Holds o w) (valid : IsValid w) (reads : (n : ℕ) (x : Object) → slice_get w.objects n ≡ Some x → IsHeld o x)
    (r : RepresentsObjects live store w) (at' : store'.objects ≡ Some o') (reader : Follower) (live_is : reader.result ≡ None) (unpinned : is_pinned reader.mode ≡ false) (begun : Begun) (p : PollStands o w reader begun) where
  numbered : AreNumberedFrom begun.floor begun.fresh
  numbered = p.numbered

  abbrev kept_one : Follower
  kept_one = kept_follower reader

  -- what stands by the stage
  staged-at : (stage : Stage) → begun.stage ≡ stage → IsStaged reader begun stage
  staged-at stage is = subst (IsStaged reader begun) is p.staged

  -- ---- what it aims at
  -- as much is stored, or in tables, or apart from what it has with those, and after its first step it reaches that
  pub record Aims (target : ℕ) : Type 0 where
    pub stored : target ≤ end w.stored
    pub tabled : reader.skips ≡ true → (l : VersionedManifest) → latest_manifest w.catalogue ≡ Some l → target ≤ l.manifest.last_l0_seq
    pub apart : reader.skips ≡ false → (l : VersionedManifest) → latest_manifest w.catalogue ≡ Some l → IsApart reader.lag target (come_by reader l)
    pub before : (begun.stage ≡ ReadsLatest) ⊎ (((l : VersionedManifest) → begun.latest ≡ Some l → IsCoveredBy reader.skips target l o) × ReachesAt reader.lag begun.stage target o begun)

  -- ---- the objects go on
  same-maintained : o' ≡ o → Maintained o o'
  same-maintained same = unchanged-objects o o' sound same

  left-maintained : (stage : Stage) → begun.stage ≡ stage → LeavesPut stage o o' → Maintained o o'
  left-maintained (Puts next given replaces) is (inl same) = same-maintained same
  left-maintained (Puts next given replaces) is (inr put) =
      let staged = staged-at (Puts next given replaces) is in
      let read = p.read staged.0 staged.1 in
      subst (Maintained o) (sym put.1) (put-maintains o sound staged.0 next read.0 (staged-planned reader begun next given replaces staged) put.0).0
  left-maintained ReadsLatest is same = same-maintained same
  left-maintained AsksLast is same = same-maintained same
  left-maintained (LooksAt id last) is same = same-maintained same
  left-maintained (ReadsLog last) is same = same-maintained same
  left-maintained ReadsAgain is same = same-maintained same
  left-maintained Ended is same = same-maintained same

  meets-left : (stage : Stage) (turn : Turn) → MeetsAt stage kept_one (taken begun) o turn o' → LeavesPut stage o o'
  meets-left ReadsLatest turn m = m.3
  meets-left (Puts next given replaces) turn (inl m) = inr (m.0, m.2)
  meets-left (Puts next given replaces) turn (inr m) = inl m.2
  meets-left AsksLast turn m = m.1
  meets-left (LooksAt id last) turn m = m.3
  meets-left (ReadsLog last) turn m = m.6
  meets-left ReadsAgain turn m = m.3
  meets-left Ended turn m = absurd m

  fails-left : (stage : Stage) (e : SlateError) → FailsFrom stage kept_one (taken begun) o e o' → LeavesPut stage o o'
  fails-left stage errors.LatestTransactionalObjectVersionMissing f = none-left stage f.0 f.2
    where
      none-left : (stage : Stage) → reads_latest stage ≡ true → o' ≡ o → LeavesPut stage o o'
      none-left ReadsLatest reads same = same
      none-left ReadsAgain reads same = same
      none-left AsksLast reads same = same
      none-left (LooksAt id last) reads same = same
      none-left (ReadsLog last) reads same = same
      none-left (Puts next given replaces) reads same = inl same
      none-left Ended reads same = same
  fails-left stage (errors.ObjectStoreError Unavailable) f = f
  fails-left stage errors.NoMemory f = f
  fails-left stage e f = meets-left stage (Fails e) f

  step-fails-left : (e : SlateError) → StepFails e kept_one begun o o' → LeavesPut begun.stage o o'
  step-fails-left errors.InvalidDBState (inl m) = meets-left begun.stage (Fails errors.InvalidDBState) m
  step-fails-left errors.InvalidDBState (inr (last, inl m)) = meets-left begun.stage (Ends last) m
  step-fails-left errors.InvalidDBState (inr (last, inr m)) = meets-left begun.stage (Breaks last) m
  step-fails-left e f = fails-left begun.stage e f

  -- ---- the world then
  module _ (m : Maintained o o') where
    abbrev pub w' : World
    w' = record w { catalogue = catalogue_of o'; faults = store'.faults }

    pub stands-then : (f : Follower) → StandsBeside o w f → StandsBeside o' w' f
    stands-then f s = beside-onward w o w.stored o' w.objects w.polls w.owed w.writes store'.faults holds (onward-maintained w o sound holds valid reads o' m w.objects (λ n a at. at)) f s

    holds-then : Holds o' w'
    holds-then = record { stored = m.content ∙ holds.stored; catalogue = refl }

    abbrev valid-then : IsValid w'
    valid-then =
        let l = maintained-leads w o sound holds valid reads o' m in
        record { line = valid.line; followers = l.followers; handles = l.handles; snapshots = valid.snapshots; named = l.named; past = l.past; distinct = l.distinct }

    reads-then : (n : ℕ) (x : Object) → slice_get w.objects n ≡ Some x → IsHeld o' x
    reads-then = (maintained-leads w o sound holds valid reads o' m).reads

    represents-then : RepresentsObjects live store' w'
    represents-then = record { held = (o', at', m.sound, holds-then, reads-then); faults = refl; objects = r.objects; writes = r.writes; valid = valid-then }

    abbrev Q : Follower → Type 0
    Q f = StandsBeside o' w' f

    abbrev Came : Turn → Type 0
    Came = Comes w.stored valid.line o' reader Q (WasLatest o') (ways w' o' m.sound holds-then valid-then reads-then reader unpinned)

    abbrev CameTo : Begun → Type 0
    CameTo = Come w.stored valid.line o' reader Q (WasLatest o')

    reader-then : StandsBeside o' w' reader
    reader-then = stands-then reader p.reader_stands

    started : is_some reader.lease ≡ is_managed reader.mode → (moment : ℤ) (overtaken : ℕ) (history : PollHistory) → CameTo (begun_at moment overtaken history kept_one)
    started leased moment overtaken history = begun-comes w' o' m.sound holds-then valid-then reads-then reader unpinned reader-then p.keeps leased moment overtaken history

    -- what the poll had come to, where the manifest that it read last is still one that was the latest
    begun-then : ((last : VersionedManifest) → begun.latest ≡ Some last → WasLatest o' last) → CameTo (taken begun)
    begun-then was =
        let c = poll-comes w o sound holds valid reads reader unpinned p.reader_stands p.keeps begun p numbered in
        record {
          leased = c.leased;
          after = c.after;
          base = c.base;
          reached = c.reached;
          low = c.low;
          viewed = c.viewed;
          fresh = c.fresh;
          within = c.within;
          stands = stands-then (comes_to w.stored reader begun) p.comes;
          read = λ last at. let read = p.read last at in (was last at, read.1, read.2, stands-then (tabled_by w.stored reader last begun.lease) read.3);
        }

    was-same : o' ≡ o → (last : VersionedManifest) → begun.latest ≡ Some last → WasLatest o' last
    was-same same last at = subst (λ x. WasLatest x last) (sym same) (p.read last at).0

    latest-then : (l : VersionedManifest) → latest_manifest o' ≡ Some l → (lease : Option Lease) → is_some lease ≡ is_managed reader.mode →
        WasLatest o' l × (w.stored.floor ≤ l.manifest.last_l0_seq) × (l.manifest.last_l0_seq ≤ end w.stored) × Q (tabled_by w.stored reader l lease)
    latest-then l is lease leased = latest-read w' o' m.sound holds-then valid-then reads-then reader unpinned l is lease leased

    -- a log file is read
    module _ (l : VersionedManifest) (last : ℕ) (fresh : List Batch) (at_log : begun.stage ≡ ReadsLog last) (read : begun.latest ≡ Some l) (same : o' ≡ o) where
      reads_is : reader.skips ≡ false
      reads_is = staged-at (ReadsLog last) at_log

      content-follows : FollowsLine o (content o) kept_one begun
      content-follows = subst (λ (x : Line). FollowsLine o x kept_one begun) (sym holds.stored) p.follows

      replaying-is : IsReplaying begun (content o) o
      replaying-is = subst (λ (x : Stage). StandsAt x begun (content o) o) at_log content-follows.next

      rest-then : (found : Replayed) → ReplaysNext (begun.mark + 1) begun.floor begun.fresh fresh o (Ok found) → (rest : List Batch) × (batches_above begun.floor w.stored.batches ≡ fresh ++ rest)
      rest-then found n =
          let begins = log-begins o sound kept_one begun numbered content-follows l fresh found (replaying-is l read) n in
          (begins.0, ap (λ (x : Line). batches_above begun.floor x.batches) (sym holds.stored) ∙ ap (λ (x : Line). x.batches) begins.1)

      c : CameTo (taken begun)
      c = begun-then (was-same same)

      number-at : (n mark : ℕ) → w.stored.floor ≤ n → n ≤ end w.stored → number (placed w.stored reader (view_of kept_one begun) n mark begun.lease) ≡ n
      number-at n mark low within = front-end w.stored valid.line n low within

      whole-read : ReplaysNext (begun.mark + 1) begun.floor begun.fresh fresh o (Ok replays.Whole) → Came (log_turn replays.Whole l last fresh (taken begun))
      whole-read n = by-log (log_at (begun.mark + 1) o) refl n.ends
        where
          by-log : (log : Option (List Batch)) → log_at (begun.mark + 1) o ≡ log → IsSomeAnd log (HaveNoGap (begun.floor + length begun.fresh) (begun.floor + length fresh)) → Came (log_turn replays.Whole l last fresh (taken begun))
          by-log None is gap = absurd gap
          by-log (Some batches) is gap =
              let up = no-gap-rises _ _ batches gap in
              let rest = rest-then replays.Whole n in
              let within = fresh-within w.stored valid.line begun.floor fresh rest.0 c.low (let w1 = c.within in omega (arith, w1)) rest.1 in
              let low = c.low in
              let here = number-at (reached_number begun) begun.mark (omega (arith, low)) c.within in
              let there = number-at (begun.floor + length fresh) (begun.mark + 1) (omega (arith, low)) within in
              let stored_is : log_at (begun.mark + 1) o' ≡ Some batches = ap (log_at (begun.mark + 1)) same ∙ is in
              let seen : HasSeen o' (placed w.stored reader (view_of kept_one begun) (begun.floor + length fresh) (begun.mark + 1) begun.lease) =
              seen-log o' (placed w.stored reader (view_of kept_one begun) (reached_number begun) begun.mark begun.lease) (placed w.stored reader (view_of kept_one begun) (begun.floor + length fresh) (begun.mark + 1) begun.lease) batches refl (omega (arith, here, there, up)) stored_is
              (subst (λ k. All (λ (b : Batch). b.number ≤ k) batches) (sym there) (no-gap-within _ _ batches gap))
              ((stands-then (comes_to w.stored reader begun) p.comes).held.1 unpinned) in
              ends_by (begun.mark + 1 == last) (λ stage. read-on w.stored valid.line o' reader Q (WasLatest o') (ways w' o' m.sound holds-then valid-then reads-then reader unpinned) (taken begun) stage fresh (begun.mark + 1) c up rest within reads_is seen)
            where
              ends_by : (x : Bool) → ((stage : Stage) → CameTo (record (taken begun) { stage = stage; fresh = fresh; mark = begun.mark + 1 })) →
                  Came (if x then replayed l (record (taken begun) { stage = Ended; fresh = fresh; mark = begun.mark + 1 }) else Goes (record (taken begun) { stage = ReadsLog last; fresh = fresh; mark = begun.mark + 1 }))
              ends_by true come = replayed-comes w.stored valid.line o' reader Q (WasLatest o') (ways w' o' m.sound holds-then valid-then reads-then reader unpinned) l (record (taken begun) { stage = Ended; fresh = fresh; mark = begun.mark + 1 }) read (come Ended)
              ends_by false come = (come (ReadsLog last), reads_is, λ other. absurd (cc))

      cut-read : (id : ℕ) → ReplaysNext (begun.mark + 1) begun.floor begun.fresh fresh o (Ok (replays.Truncated id)) → Came (log_turn (replays.Truncated id) l last fresh (taken begun))
      cut-read id n =
          let up = rises (log_at (begun.mark + 1) o) n.ends in
          let rest = rest-then (replays.Truncated id) n in
          let within = fresh-within w.stored valid.line begun.floor fresh rest.0 c.low (let w1 = c.within in omega (arith, w1)) rest.1 in
          let low = c.low in
          let here = number-at (reached_number begun) begun.mark (omega (arith, low)) c.within in
          let there = number-at (begun.floor + length fresh) begun.mark (omega (arith, low)) within in
          let seen = seen-as o' (placed w.stored reader (view_of kept_one begun) (reached_number begun) begun.mark begun.lease) (placed w.stored reader (view_of kept_one begun) (begun.floor + length fresh) begun.mark begun.lease) refl (omega (arith, here, there, up))
          ((stands-then (comes_to w.stored reader begun) p.comes).held.1 unpinned) in
          read-on w.stored valid.line o' reader Q (WasLatest o') (ways w' o' m.sound holds-then valid-then reads-then reader unpinned) (taken begun) Ended fresh begun.mark c up rest within reads_is seen
        where
          rises : (log : Option (List Batch)) → MatchOption log (fresh ≡ begun.fresh) (HaveGap (begun.floor + length begun.fresh) (begun.floor + length fresh)) → begun.floor + length begun.fresh ≤ begun.floor + length fresh
          rises None old = let e = ap (λ (xs : List Batch). length xs) old in omega (arith, e)
          rises (Some batches) gap = gap-rises _ _ batches gap

    -- each call leads to what stands
    meets-came : (stage : Stage) (turn : Turn) → begun.stage ≡ stage → MeetsAt stage kept_one (taken begun) o turn o' → Came turn
    meets-came ReadsLatest turn at (l, is, turn_is, same) =
        let start = p.anew at in
        let leased : is_some reader.lease ≡ is_managed reader.mode = subst (λ (b : Begun). is_some b.lease ≡ is_managed reader.mode) start (p.fits).leased in
        let is' : latest_manifest o' ≡ Some l = ap latest_manifest same ∙ is in
        let moment = begun.moment in
        let overtaken = begun.overtaken in
        let lease : begun.lease ≡ reader.lease = ap (λ (b : Begun). b.lease) start in
        let history = with_latest l (with_step begun.history) in
        let taken_is : noted l (taken begun) ≡ record (begun_at moment overtaken history kept_one) { stage = Ended } = ap (λ (b : Begun). record b { stage = Ended; history = history }) start in
        let whole : turn ≡ decided kept_one l reader.lease (record (begun_at moment overtaken history kept_one) { stage = Ended }) = turn_is ∙ (ap (λ x. decided kept_one l x (noted l (taken begun))) lease ∙ ap (decided kept_one l reader.lease) taken_is) in
        subst Came (sym whole) (latest-decided w' o' m.sound holds-then valid-then reads-then reader unpinned reader-then p.keeps leased moment overtaken history l is')
    meets-came (Puts next given replaces) turn at (inl (free, turn_is, put)) =
        let staged = staged-at (Puts next given replaces) at in
        let read = p.read staged.0 staged.1 in
        let puts = put-maintains o sound staged.0 next read.0 (staged-planned reader begun next given replaces staged) free in
        let was = subst (λ x. WasLatest x next × WasLatest x staged.0) (sym put) (puts.1, puts.2) in
        let managed : is_managed reader.mode ≡ true = sym (p.fits).leased ∙ staged-leased reader begun next given replaces staged in
        let c = begun-then (λ last is. subst (WasLatest o') (some-same staged.0 last (sym staged.1 ∙ is)) was.1) in
        let next_read = put-read o' w' reader staged.0 next begun.lease given (staged-planned reader begun next given replaces staged) was.0 managed (read.1, read.2, stands-then (tabled_by w.stored reader staged.0 begun.lease) read.3) in
        subst Came (sym turn_is)
        (committed-comes w.stored valid.line o' reader Q (WasLatest o') (ways w' o' m.sound holds-then valid-then reads-then reader unpinned) next given replaces (taken begun)
        (restaged w.stored valid.line o' reader Q (WasLatest o') (ways w' o' m.sound holds-then valid-then reads-then reader unpinned) (taken begun) Ended begun.asked c) managed next_read)
    meets-came (Puts next given replaces) turn at (inr (there, turn_is, same)) =
        let staged = staged-at (Puts next given replaces) at in
        let managed : is_managed reader.mode ≡ true = sym (p.fits).leased ∙ staged-leased reader begun next given replaces staged in
        let reader-leased : is_some reader.lease ≡ is_managed reader.mode = (p.reader_stands).valid.2 managed live_is ∙ sym managed in
        subst Came (sym turn_is)
        (overtaken-comes w.stored valid.line o' reader Q (WasLatest o') (ways w' o' m.sound holds-then valid-then reads-then reader unpinned) (taken begun) (started reader-leased))
    meets-came AsksLast turn at (turn_is, same) =
        subst Came (sym turn_is)
        (asked-comes w.stored valid.line o' reader Q (WasLatest o') (ways w' o' m.sound holds-then valid-then reads-then reader unpinned) (last_log begun.mark o) (taken begun) (begun-then (was-same same)) (staged-at AsksLast at))
    meets-came (LooksAt id last) turn at (l, read, looks, same) = by (log_at id o) looks
      where
        by : (log : Option (List Batch)) → LooksTo kept_one l id last (taken begun) log turn → Came turn
        by None turn_is = subst Came (sym turn_is) (begun-then (was-same same))
        by (Some batches) turn_is =
            subst Came (sym turn_is)
            (looked-comes w.stored valid.line o' reader Q (WasLatest o') (ways w' o' m.sound holds-then valid-then reads-then reader unpinned) l id last batches (taken begun) read (begun-then (was-same same)) (staged-at (LooksAt id last) at))
    meets-came (ReadsLog last) turn at (l, fresh, replays.Whole, read, n, turn_is, same) = subst Came (sym turn_is) (whole-read l last fresh at read same n)
    meets-came (ReadsLog last) turn at (l, fresh, (replays.Truncated id), read, n, turn_is, same) = subst Came (sym turn_is) (cut-read l last fresh at read same id n)
    meets-came ReadsAgain turn at (l, is, turn_is, same) =
        subst Came (sym turn_is)
        (again-comes w.stored valid.line o' reader Q (WasLatest o') (ways w' o' m.sound holds-then valid-then reads-then reader unpinned) l (taken begun) (begun-then (was-same same)) (latest-then l (ap latest_manifest same ∙ is) begun.lease (p.fits).leased))
    meets-came Ended turn at m = absurd m

    -- and to no lower number
    abbrev same_number : number kept_one ≡ number reader
    same_number = number-is w o sound holds valid reads reader unpinned p.reader_stands p.keeps

    advances : Advances reader same_number (taken begun)
    advances = record { risen = p.risen; above = p.above; tabled = p.tabled }

    -- the latest manifest is above what it has
    latest-above : (l : VersionedManifest) → latest_manifest o ≡ Some l → IsAbove reader same_number (taken begun) l
    latest-above l is =
        let at : latest_manifest w.catalogue ≡ Some l = sym (ap latest_manifest holds.catalogue) ∙ is in
        let viewed = p.comes.valid.3 unpinned l at in
        let low = (p.fits).low in
        (omega (arith, viewed, low), λ skips. p.reader_stands.valid.1 skips unpinned l at)

    log-up : (found : Replayed) (fresh : List Batch) → ReplaysNext (begun.mark + 1) begun.floor begun.fresh fresh o (Ok found) → begun.floor + length begun.fresh ≤ begun.floor + length fresh
    log-up replays.Whole fresh n = by (log_at (begun.mark + 1) o) n.ends
      where
        by : (log : Option (List Batch)) → IsSomeAnd log (HaveNoGap (begun.floor + length begun.fresh) (begun.floor + length fresh)) → begun.floor + length begun.fresh ≤ begun.floor + length fresh
        by None gap = absurd gap
        by (Some batches) gap = no-gap-rises _ _ batches gap
    log-up (replays.Truncated id) fresh n = by (log_at (begun.mark + 1) o) n.ends
      where
        by : (log : Option (List Batch)) → MatchOption log (fresh ≡ begun.fresh) (HaveGap (begun.floor + length begun.fresh) (begun.floor + length fresh)) → begun.floor + length begun.fresh ≤ begun.floor + length fresh
        by None old = let e = ap (λ (xs : List Batch). length xs) old in omega (arith, e)
        by (Some batches) gap = gap-rises _ _ batches gap

    meets-advances : (stage : Stage) (turn : Turn) → begun.stage ≡ stage → MeetsAt stage kept_one (taken begun) o turn o' → Advanced reader same_number turn
    meets-advances ReadsLatest turn at (l, is, turn_is, same) =
        let start = p.anew at in
        let lease : begun.lease ≡ reader.lease = ap (λ (b : Begun). b.lease) start in
        let history = with_latest l (with_step begun.history) in
        let taken_is : noted l (taken begun) ≡ record (begun_at begun.moment begun.overtaken history kept_one) { stage = Ended } = ap (λ (b : Begun). record b { stage = Ended; history = history }) start in
        let whole : turn ≡ decided kept_one l reader.lease (record (begun_at begun.moment begun.overtaken history kept_one) { stage = Ended }) = turn_is ∙ (ap (λ x. decided kept_one l x (noted l (taken begun))) lease ∙ ap (decided kept_one l reader.lease) taken_is) in
        let l_at : latest_manifest w.catalogue ≡ Some l = sym (ap latest_manifest holds.catalogue) ∙ is in
        subst (Advanced reader same_number) (sym whole)
        (decided-advances reader same_number l begun.moment begun.overtaken history reader.lease (p.reader_stands.valid.3 unpinned l l_at) (λ skips. p.reader_stands.valid.1 skips unpinned l l_at))
    meets-advances (Puts next given replaces) turn at (inl (free, turn_is, put)) =
        let staged = staged-at (Puts next given replaces) at in
        let other = planned-other staged.0 next (staged-planned reader begun next given replaces staged) in
        let tabled : next.manifest.last_l0_seq ≡ (staged.0).manifest.last_l0_seq = ap (λ (v : VersionedManifest). v.manifest.last_l0_seq) other.1 in
        let base = p.above staged.0 staged.1 in
        subst (Advanced reader same_number) (sym turn_is)
        (committed-advances reader same_number next given replaces (taken begun) p.risen (omega (arith, tabled, base), λ skips. let low = p.tabled skips staged.0 staged.1 in omega (arith, tabled, low)))
    meets-advances (Puts next given replaces) turn at (inr (there, turn_is, same)) = subst (Advanced reader same_number) (sym turn_is) (overtaken-advances reader same_number (taken begun))
    meets-advances AsksLast turn at (turn_is, same) = subst (Advanced reader same_number) (sym turn_is) (asked-advances reader same_number (last_log begun.mark o) (taken begun) advances)
    meets-advances (LooksAt id last) turn at (l, read, looks, same) = looks-advance reader same_number l id last (taken begun) (log_at id o) turn advances looks
    meets-advances (ReadsLog last) turn at (l, fresh, replays.Whole, read, n, turn_is, same) = subst (Advanced reader same_number) (sym turn_is) (read-advances reader same_number l last fresh (taken begun) (log-up replays.Whole fresh n) advances)
    meets-advances (ReadsLog last) turn at (l, fresh, (replays.Truncated id), read, n, turn_is, same) = subst (Advanced reader same_number) (sym turn_is) (cut-advances reader same_number fresh (taken begun) (log-up (replays.Truncated id) fresh n) advances)
    meets-advances ReadsAgain turn at (l, is, turn_is, same) = subst (Advanced reader same_number) (sym turn_is) (again-advances reader same_number l (taken begun) advances (latest-above l is))
    meets-advances Ended turn at m = absurd m

    -- ---- what it reaches
    -- the log files go on
    follows-then : (l l' : VersionedManifest) → latest_manifest o ≡ Some l → latest_manifest o' ≡ Some l' → LogsFollow o o' l.manifest.replay_after_wal_id l'.manifest.replay_after_wal_id
    follows-then l l' is is' =
        let next = m.latest l is in
        subst (λ (v : VersionedManifest). LogsFollow o o' l.manifest.replay_after_wal_id v.manifest.replay_after_wal_id) (some-same next.0 l' (sym next.1 ∙ is'))
        (stay-follow o o' l.manifest.replay_after_wal_id (next.0).manifest.replay_after_wal_id (sym next.4) (m.logs l is))

    module _ (target : ℕ) (aims : Aims target) where
      within-content : target ≤ end (content o)
      within-content = subst (λ (x : Line). target ≤ end x) (sym holds.stored) aims.stored

      none-new : LogsAre (AreLate target) o o'
      none-new = none-put_logs o o' m.logs_are (AreLate target)

      in-catalogue : (l : VersionedManifest) → latest_manifest o ≡ Some l → latest_manifest w.catalogue ≡ Some l
      in-catalogue l is = sym (ap latest_manifest holds.catalogue) ∙ is

      -- by the latest manifest
      latest-anew : (l : VersionedManifest) → latest_manifest o ≡ Some l → IsCoveredBy reader.skips target l o
      latest-anew l is = by reader.skips refl
        where
          by : (skips : Bool) → reader.skips ≡ skips → IsCoveredBy skips target l o
          by true skips = aims.tabled skips l (in-catalogue l is)
          by false reads = content-covered o sound l is target within-content

      latest-covered : (l : VersionedManifest) → latest_manifest o ≡ Some l → IsCovered target (max (reached_number begun) l.manifest.last_l0_seq) (max begun.mark l.manifest.replay_after_wal_id) o
      latest-covered l is = by reader.skips refl
        where
          by : (skips : Bool) → reader.skips ≡ skips → IsCovered target (max (reached_number begun) l.manifest.last_l0_seq) (max begun.mark l.manifest.replay_after_wal_id) o
          by true skips = inl (let low = aims.tabled skips l (in-catalogue l is) in omega (arith, low))
          by false reads = seen-covered o sound l is target kept_one begun within-content p.lasts.seen

      -- before anything was read it has what its reader has
      latest-apart : begun.stage ≡ ReadsLatest → (l : VersionedManifest) → latest_manifest o ≡ Some l → IsApart reader.lag target (max (reached_number begun) l.manifest.last_l0_seq)
      latest-apart at l is = by reader.skips refl
        where
          reached_is : reached_number begun ≡ number kept_one + 0
          reached_is = ap (λ (b : Begun). reached_number b) (p.anew at)

          by : (skips : Bool) → reader.skips ≡ skips → IsApart reader.lag target (max (reached_number begun) l.manifest.last_l0_seq)
          by true skips = inl (let low = aims.tabled skips l (in-catalogue l is) in omega (arith, low))
          by false reads = elim (aims.apart reads l (in-catalogue l is)) [
            | inl low ↦ inl (let same = same_number in omega (arith, low, reached_is, same))
            | inr far ↦ inr (let same = same_number in omega (arith, far, reached_is, same))
          ]

      -- after the first step
      anew-by : (begun.stage ≡ ReadsLatest → ⊥) → (l : VersionedManifest) → begun.latest ≡ Some l → IsCoveredBy reader.skips target l o
      anew-by later l is = elim aims.before [
        | inl first ↦ absurd (later first)
        | inr before ↦ before.0 l is
      ]

      next-by : (stage : Stage) → begun.stage ≡ stage → (begun.stage ≡ ReadsLatest → ⊥) → ReachesAt reader.lag stage target o begun
      next-by stage at later = elim aims.before [
        | inl first ↦ absurd (later first)
        | inr before ↦ subst (λ x. ReachesAt reader.lag x target o begun) at before.1
      ]

      meets-reaches : (stage : Stage) (turn : Turn) → begun.stage ≡ stage → MeetsAt stage kept_one (taken begun) o turn o' → Reaches target o' kept_one turn
      meets-reaches ReadsLatest turn at (l, is, turn_is, same) =
          let unviewed : begun.view ≡ None = subst (λ (x : Stage). StandsAt x begun w.stored o) at p.follows.next in
          subst (λ x. Reaches target x kept_one turn) (sym same) (subst (Reaches target o kept_one) (sym turn_is) (decided-reaches target o kept_one l begun.lease (noted l (taken begun)) unviewed (latest-anew l is) (latest-covered l is) (latest-above l is).0 (latest-apart at l is)))
      meets-reaches (Puts next given replaces) turn at (inl (free, turn_is, put)) =
          let staged = staged-at (Puts next given replaces) at in
          let other = planned-other staged.0 next (staged-planned reader begun next given replaces staged) in
          let later : begun.stage ≡ ReadsLatest → ⊥ = λ first. (let no : Puts next given replaces ≡ ReadsLatest = sym at ∙ first in cc) in
          let l = p.lasts.latest in
          let l' = m.latest l.0 l.1 in
          let follows = follows-then l.0 l'.0 l.1 l'.1 in
          let goes = m.goes (last_log (l.0).manifest.replay_after_wal_id o) in
          let tabled : next.manifest.last_l0_seq ≡ (staged.0).manifest.last_l0_seq = ap (λ (v : VersionedManifest). v.manifest.last_l0_seq) other.1 in
          let base = p.above staged.0 staged.1 in
          let anew = anew-then target o o' l.0 l'.0 l.1 l'.1 follows goes none-new reader.skips staged.0 (anew-by later staged.0 staged.1) in
          let next_anew : IsCoveredBy reader.skips target next o' = subst (λ v. IsCoveredBy reader.skips target v o') (sym other.1) (covered-same reader.skips target staged.0 (with_checkpoints other.0 staged.0) o' refl refl anew) in
          subst (Reaches target o' kept_one) (sym turn_is)
          (committed-reaches target o' kept_one next given replaces (taken begun) next_anew (omega (arith, tabled, base)) (staged-same reader.lag target o' begun next given replaces (reaches-then target o o' l.0 l'.0 l.1 l'.1 follows goes none-new reader.lag begun (Puts next given replaces) (next-by (Puts next given replaces) at later))))
      meets-reaches (Puts next given replaces) turn at (inr (there, turn_is, same)) = subst (Reaches target o' kept_one) (sym turn_is) (overtaken-reaches target o' kept_one (taken begun))
      meets-reaches AsksLast turn at (turn_is, same) =
          let later : begun.stage ≡ ReadsLatest → ⊥ = λ first. (let no : AsksLast ≡ ReadsLatest = sym at ∙ first in cc) in
          let l = p.lasts.latest in
          let r = next-by AsksLast at later in
          subst (λ x. Reaches target x kept_one turn) (sym same) (subst (Reaches target o kept_one) (sym turn_is) (asked-reaches target o kept_one sound l.0 l.1 (taken begun) (anew-by later) r.0 r.1))
      meets-reaches (LooksAt id last) turn at (l, read, looks, same) = subst (λ x. Reaches target x kept_one turn) (sym same) (by (log_at id o) refl looks)
        where
          later : begun.stage ≡ ReadsLatest → ⊥
          later first = (let no : LooksAt id last ≡ ReadsLatest = sym at ∙ first in cc)

          by : (log : Option (List Batch)) → log_at id o ≡ log → LooksTo kept_one l id last (taken begun) log turn → Reaches target o kept_one turn
          by None none turn_is = subst (Reaches target o kept_one) (sym turn_is) tt
          by (Some batches) stored turn_is = subst (Reaches target o kept_one) (sym turn_is) (looked-reaches target o kept_one l id last batches (taken begun) (anew-by later) stored (next-by (LooksAt id last) at later))
      meets-reaches (ReadsLog last) turn at (l, fresh, replays.Truncated id, read, n, turn_is, same) = subst (Reaches target o' kept_one) (sym turn_is) tt
      meets-reaches (ReadsLog last) turn at (l, fresh, replays.Whole, read, n, turn_is, same) =
          subst (λ x. Reaches target x kept_one turn) (sym same) (subst (Reaches target o kept_one) (sym turn_is) (by (log_at (begun.mark + 1) o) refl n.ends))
        where
          later : begun.stage ≡ ReadsLatest → ⊥
          later first = (let no : ReadsLog last ≡ ReadsLatest = sym at ∙ first in cc)

          by : (log : Option (List Batch)) → log_at (begun.mark + 1) o ≡ log → IsSomeAnd log (HaveNoGap (begun.floor + length begun.fresh) (begun.floor + length fresh)) → Reaches target o kept_one (read_log l last fresh (taken begun))
          by None none gap = absurd gap
          by (Some batches) stored gap = read-reaches target o kept_one l last fresh batches (taken begun) (anew-by later) stored (no-gap-rises _ _ batches gap) (no-gap-within _ _ batches gap) (next-by (ReadsLog last) at later)
      meets-reaches ReadsAgain turn at (l, is, turn_is, same) =
          let later : begun.stage ≡ ReadsLatest → ⊥ = λ first. (let no : ReadsAgain ≡ ReadsLatest = sym at ∙ first in cc) in
          subst (λ x. Reaches target x kept_one turn) (sym same) (subst (Reaches target o kept_one) (sym turn_is) (again-reaches target o kept_one l (taken begun) is (latest-anew l is) (next-by ReadsAgain at later)))
      meets-reaches Ended turn at meets = absurd meets

      -- while there is another call
      pub goes-reaches : (after : Begun) → Meets kept_one begun o (Goes after) o' → ReachesTo target o' w' reader after
      goes-reaches after meets =
          let r = meets-reaches begun.stage (Goes after) refl meets in
          record {
            stored = aims.stored;
            tabled = λ skips found at.
                let l = p.lasts.latest in
                let l' = m.latest l.0 l.1 in
                let low = aims.tabled skips l.0 (in-catalogue l.0 l.1) in
                let number = l'.3 in
                let same = ap (λ (v : VersionedManifest). v.manifest.last_l0_seq) (some-same l'.0 found (sym l'.1 ∙ at)) in
                omega (arith, low, number, same);
            apart = λ reads found at.
                let l = p.lasts.latest in
                let l' = m.latest l.0 l.1 in
                let number = l'.3 in
                let same = ap (λ (v : VersionedManifest). v.manifest.last_l0_seq) (some-same l'.0 found (sym l'.1 ∙ at)) in
                elim (aims.apart reads l.0 (in-catalogue l.0 l.1)) [
                  | inl low ↦ inl (omega (arith, low, number, same))
                  | inr far ↦ inr (omega (arith, far, number, same))
                ];
            anew = r.0;
            next = r.1;
          }

      -- and where all log files were read
      pub ends-reach : (last : Begun) → Meets kept_one begun o (Ends last) o' → target ≤ reached_number last
      ends-reach last meets = meets-reaches begun.stage (Ends last) refl meets

      pub ends-number : (last : Begun) → Meets kept_one begun o (Ends last) o' → (reader' : Follower) → unsegmented reader' ≡ arrived kept_one last → number reader' ≡ reached_number last
      ends-number last meets reader' is =
          let c = meets-came begun.stage (Ends last) refl meets in
          let low = c.low in
          let same = ap (λ (f : Follower). number f) (is ∙ arrived-kept w.stored valid.line o' reader Q (WasLatest o') (ways w' o' m.sound holds-then valid-then reads-then reader unpinned)
          (whole-is w' o' m.sound holds-then valid-then reads-then reader unpinned reader-then p.keeps)
          (number-is w' o' m.sound holds-then valid-then reads-then reader unpinned reader-then p.keeps) last c) in
          let kept_number = line_above-end (view_of kept_one last).manifest.last_l0_seq (up_to (reached_number last) w.stored) in
          let here = front-end w.stored valid.line (reached_number last) (omega (arith, low)) c.within in
          same ∙ (kept_number ∙ here)

    goes-then : (after : Begun) → Meets kept_one begun o (Goes after) o' → PollStands o' w' reader after
    goes-then after meets =
        let t = meets-came begun.stage (Goes after) refl meets in
        let follows = goes-on o sound kept_one begun numbered (subst (λ (x : Line). FollowsLine o x kept_one begun) (sym holds.stored) p.follows) after o' meets in
        come-stands w' o' m.sound holds-then valid-then reads-then reader unpinned reader-then p.keeps after t.0 t.1 (meets-planned begun.stage kept_one (taken begun) o o' (Goes after) meets) (λ skips. meets-bare reader skips (taken begun) o o' begun.stage (Goes after) p.staged (p.bare skips) meets) t.2 (subst (λ (x : Line). FollowsLine o' x kept_one after) holds.stored follows)
        (let a = meets-advances begun.stage (Goes after) refl meets in record { risen = a.risen; above = a.above; tabled = a.tabled })
        (lasts-goes o sound kept_one begun (subst (λ (x : Line). FollowsLine o x kept_one begun) (sym holds.stored) p.follows) p.lasts after o' meets)

    arrives-then : (last : Begun) (reader' : Follower) → CameTo last → Advances reader same_number last → unsegmented reader' ≡ arrived kept_one last → (whole : Follower) × (unsegmented reader' ≡ kept_follower whole) × Q whole × FollowerRises reader whole
    arrives-then last reader' c a is = (
      comes_to w.stored reader last,
      is ∙ arrived-kept w.stored valid.line o' reader Q (WasLatest o') (ways w' o' m.sound holds-then valid-then reads-then reader unpinned)
          (whole-is w' o' m.sound holds-then valid-then reads-then reader unpinned reader-then p.keeps)
          (number-is w' o' m.sound holds-then valid-then reads-then reader unpinned reader-then p.keeps) last c,
      c.stands,
      record {
        mode = refl;
        skips = refl;
        lag = refl;
        number = (let low = c.low in let risen = a.risen in let here = front-end w.stored valid.line (reached_number last) (omega (arith, low)) c.within in omega (arith, risen, here));
        result = is-none (λ q. reader.result ≡ Some q) reader.result live_is;
      },
    )

  -- A call ends a poll: the fresh batches follow its floor in what is stored, and the reader's are above its tables in what is stored up
  -- to a number.
  abbrev pub IsOfStored : Begun → Type 0
  IsOfStored last =
      ((rest : List Batch) × (batches_above last.floor w.stored.batches ≡ last.fresh ++ rest))
      × (base_of kept_one last ≤ last.floor)
      × (kept_batches kept_one last ≡ batches_above (view_of kept_one last).manifest.last_l0_seq (up_to (reached_number last) w.stored).batches)

  pub ends-stored : (last : Begun) → Meets kept_one begun o (Ends last) o' ⊎ Meets kept_one begun o (Breaks last) o' → IsOfStored last
  ends-stored last meets = elim meets [
    | inl whole ↦ let m = left-maintained begun.stage refl (meets-left begun.stage (Ends last) whole) in of-stored m (meets-came m begun.stage (Ends last) refl whole)
    | inr cut ↦ let m = left-maintained begun.stage refl (meets-left begun.stage (Breaks last) cut) in of-stored m (meets-came m begun.stage (Breaks last) refl cut)
  ]
    where
      floor-above : (m : Maintained o o') → CameTo m last → base_of kept_one last ≤ last.floor
      floor-above m c = by last.keeps refl
        where
          by : (keeps : Bool) → last.keeps ≡ keeps → (if keeps then reader.view.manifest.last_l0_seq else last.floor) ≤ last.floor
          by true kept =
              let e = c.after kept in
              let same = number-is (w' m) o' m.sound (holds-then m) (valid-then m) (reads-then m) reader unpinned (reader-then m) p.keeps in
              let low = view-reached (w' m) o' m.sound (holds-then m) (valid-then m) (reads-then m) reader unpinned (reader-then m) p.keeps in
              omega (arith, e, same, low)
          by false anew = omega arith

      of-stored : (m : Maintained o o') → CameTo m last → IsOfStored last
      of-stored m c = (
        c.fresh,
        floor-above m c,
        ap (λ (f : Follower). f.line.batches)
            (arrived-kept w.stored valid.line o' reader (Q m) (WasLatest o') (ways (w' m) o' m.sound (holds-then m) (valid-then m) (reads-then m) reader unpinned)
            (whole-is (w' m) o' m.sound (holds-then m) (valid-then m) (reads-then m) reader unpinned (reader-then m) p.keeps)
            (number-is (w' m) o' m.sound (holds-then m) (valid-then m) (reads-then m) reader unpinned (reader-then m) p.keeps) last c),
      )

  -- ---- a step
  pub steps-left : (reader' : Follower) (begun' : Begun) (result : Result (Option PollAnswer) SlateError) → Steps kept_one begun result o reader' begun' o' → LeavesPut begun.stage o o'
  steps-left reader' begun' (Ok None) steps = meets-left begun.stage (Goes begun') steps.0
  steps-left reader' begun' (Ok (Some (answers.Whole at))) steps = meets-left begun.stage (Ends steps.0) steps.1
  steps-left reader' begun' (Ok (Some (answers.Truncated at))) steps = meets-left begun.stage (Breaks steps.0) steps.1
  steps-left reader' begun' (Err e) steps = step-fails-left e steps

  pub steps-maintain : (reader' : Follower) (begun' : Begun) (result : Result (Option PollAnswer) SlateError) → Steps kept_one begun result o reader' begun' o' → Maintained o o'
  steps-maintain reader' begun' result steps = left-maintained begun.stage refl (steps-left reader' begun' result steps)

  pub steps-were : (reader' : Follower) (begun' : Begun) (result : Result (Option PollAnswer) SlateError) → Steps kept_one begun result o reader' begun' o' → (last : VersionedManifest) → WasLatest o last → WasLatest o' last
  steps-were reader' begun' result steps last was = by begun.stage refl (steps-left reader' begun' result steps)
    where
      unchanged : o' ≡ o → WasLatest o' last
      unchanged same = subst (λ x. WasLatest x last) (sym same) was

      by : (stage : Stage) → begun.stage ≡ stage → LeavesPut stage o o' → WasLatest o' last
      by (Puts next given replaces) is (inl same) = unchanged same
      by (Puts next given replaces) is (inr put) =
          let staged = staged-at (Puts next given replaces) is in
          subst (λ x. WasLatest x last) (sym put.1) (was-put o sound staged.0 next (p.read staged.0 staged.1).0 (staged-planned reader begun next given replaces staged) put.0 last was)
      by ReadsLatest is same = unchanged same
      by AsksLast is same = unchanged same
      by (LooksAt id last) is same = unchanged same
      by (ReadsLog last) is same = unchanged same
      by ReadsAgain is same = unchanged same
      by Ended is same = unchanged same

  pub steps-latest : (reader' : Follower) (begun' : Begun) (result : Result (Option PollAnswer) SlateError) → Steps kept_one begun result o reader' begun' o' → (latest : VersionedManifest) → latest_manifest o ≡ Some latest → IsLatestBut o' latest
  steps-latest reader' begun' result steps latest there = by begun.stage refl (steps-left reader' begun' result steps)
    where
      unchanged : o' ≡ o → IsLatestBut o' latest
      unchanged same = (latest, ap latest_manifest same ∙ there, refl, omega arith)

      by : (stage : Stage) → begun.stage ≡ stage → LeavesPut stage o o' → IsLatestBut o' latest
      by (Puts next given replaces) is (inl same) = unchanged same
      by (Puts next given replaces) is (inr put) =
          let staged = staged-at (Puts next given replaces) is in
          subst (λ x. IsLatestBut x latest) (sym put.1) (put-leaves o sound staged.0 next (p.read staged.0 staged.1).0 (staged-planned reader begun next given replaces staged) put.0 latest there)
      by ReadsLatest is same = unchanged same
      by AsksLast is same = unchanged same
      by (LooksAt id last) is same = unchanged same
      by (ReadsLog last) is same = unchanged same
      by ReadsAgain is same = unchanged same
      by Ended is same = unchanged same

  pub steps-after : (m : Maintained o o') (reader' : Follower) (begun' : Begun) (result : Result (Option PollAnswer) SlateError) → Steps kept_one begun result o reader' begun' o' → StandsAfter o' (w' m) reader result reader' begun'
  steps-after m reader' begun' (Ok None) steps = goes-then m begun' steps.0
  steps-after m reader' begun' (Ok (Some (answers.Whole at))) steps = arrives-then m steps.0 reader' (meets-came m begun.stage (Ends steps.0) refl steps.1) (meets-advances m begun.stage (Ends steps.0) refl steps.1) steps.2
  steps-after m reader' begun' (Ok (Some (answers.Truncated at))) steps = arrives-then m steps.0 reader' (meets-came m begun.stage (Breaks steps.0) refl steps.1) (meets-advances m begun.stage (Breaks steps.0) refl steps.1) steps.2
  steps-after m reader' begun' (Err e) steps = reader-then m

  pub step-stands : (reader' : Follower) (begun' : Begun) (result : Result (Option PollAnswer) SlateError) → Steps kept_one begun result o reader' begun' o' →
      (w' : World) × RepresentsObjects live store' w' × (w'.stored ≡ w.stored) × (w'.objects ≡ w.objects) × StandsAfter o' w' reader result reader' begun'
  step-stands reader' begun' result steps =
      let m = steps-maintain reader' begun' result steps in
      (w' m, represents-then m, refl, refl, steps-after m reader' begun' result steps)

-- ---- the laws
module _ (live : Live) (store : Known (List Batch)) (w : World) (o : Objects) (r : RepresentsObjects live store w) (at : store.objects ≡ Some o) where
  -- what the objects that the store holds are to the world
  abbrev pub HoldsAll : Objects → Type 0
  HoldsAll x = IsSound x × Holds x w × ((n : ℕ) (y : Object) → slice_get w.objects n ≡ Some y → IsHeld x y)

  pub all-held : HoldsAll o
  all-held =
      let same : (r.held).0 ≡ o = some-same (r.held).0 o (sym (r.held).1 ∙ at) in
      subst HoldsAll same ((r.held).2, (r.held).3, (r.held).4)

  pub reader-stands : (n : ℕ) (reader : Follower) → IsFollowerAt w.objects n reader → StandsBeside o w reader
  reader-stands n reader there = record {
    valid = (r.valid).followers n reader there;
    named = λ i handle at_i. (r.valid).named i n handle (AFollower reader) at_i there;
    past = (r.valid).past n (AFollower reader) there;
    held = all-held.2 n (AFollower reader) there;
  }

  pub poll-begins : (reader : Follower) (moment : ℤ) → StandsBeside o w reader → is_pinned reader.mode ≡ false → is_some reader.lease ≡ is_managed reader.mode → (kept_follower reader).line.floor ≡ reader.view.manifest.last_l0_seq →
      PollStands o w reader (begun_at moment 0 no_step (kept_follower reader))
  poll-begins reader moment s unpinned leased keeps =
      let h = all-held in
      let kept_one = kept_follower reader in
      let start = begun_at moment 0 no_step kept_one in
      let number = number-is w o h.0 h.1 r.valid h.2 reader unpinned s keeps in
      let low = number-low w o h.0 h.1 r.valid h.2 reader unpinned s keeps in
      let own : AreOf kept_one.line.batches w.stored = own-of in
      let past = s.past in
      let latest : (l : VersionedManifest) × (latest_manifest o ≡ Some l) = (past.0, ap latest_manifest (h.1).catalogue ∙ past.1) in
      come-stands w o h.0 h.1 r.valid h.2 reader unpinned s keeps start (begun-comes w o h.0 h.1 r.valid h.2 reader unpinned s keeps leased moment 0 no_step) tt tt (λ skips. tt) (λ is. refl)
      (begins-on o w.stored kept_one moment 0 no_step own (omega (arith, number, low))) (start-advances reader number moment 0 no_step)
      (begins-last o latest.0 kept_one moment latest.1 (seen-as o reader kept_one refl (omega (arith, number)) (s.held.1 unpinned)))
    where
      own-of : AreOf (kept_follower reader).line.batches w.stored
      own-of = are-above reader.view.manifest.last_l0_seq reader.line.batches w.stored (are-grown reader.line.batches reader.line w.stored s.valid.0 (All-contains_itself reader.line.batches))
