-- A reader beside a world and a begun poll of it are what the world keeps of one of its own.
use Rattle.std.proofs.Common.{◌≡◌, ◌∙◌, ℕ, ℤ, ◌+◌, ◌-◌, ◌≤◌, ◌||◌, inl, inr, Bool, true, false, List, [], drop, length, Option, Some, refl, sym, ap, subst, arith}
use Rattle.std.proofs.lemmas.Bool.{cases_lt}
use Rattle.std.proofs.lemmas.List.{length-take}
use Rattle.std.specs.List.{slice_get}
use Rattle.std.specs.Option.{is_some}
use Rattle.slate_types.proofs.Lines.{above-all, above-drop, numbered-drop}
use Rattle.slate_types.specs.Line.{AreNumberedFrom, Line, batches_above, end}
use Rattle.slate_types.specs.declared.batches.Batch.{Batch}
use Rattle.slate_store.specs.Content.{IsSound, content}
use Rattle.slate_store.specs.Objects.{Objects, latest_manifest}
use Rattle.slate_store.specs.declared.objects.VersionedManifest.{VersionedManifest}
use Rattle.slate_store.specs.declared.reader_modes.DbReaderMode.TheVariants as modes
use Rattle.slate_replay.specs.declared.replays.Replayed.TheVariants as replays
use Rattle.slate_errors.specs.declared.errors.SlateError.TheVariants as errors
use Rattle.slate_model.specs.Begun.{AsksLast, Begun, Ended, LooksAt, Puts, ReadsAgain, ReadsLatest, ReadsLog, Stage, begun_at, decided}
use Rattle.slate_model.specs.declared.answers.PollAnswer.TheVariants as answers
use Rattle.slate_model.specs.declared.leases.Lease.{Lease}
use Rattle.slate_model.specs.declared.polls.PollHistory.{PollHistory}
use Rattle.slate_model.specs.Follower.{Follower, is_managed, is_pinned, kept_follower, number}
use Rattle.slate_model.specs.Followed.{IsView}
use Rattle.slate_model.specs.Handle.{up_to}
use Rattle.slate_model.specs.Object.{Object}
use Rattle.slate_model.specs.Stood.{WasLatest}
use Rattle.slate_model.proofs.Coming.{Come, Comes, IsStagedNext, Ways, decided-comes, start-comes}
use Rattle.slate_model.proofs.Free.{numbered-front}
use Rattle.slate_model.proofs.Fronts.{front-begins, front-end, numbered-take, reads-front, seen-as, whole-front}
use Rattle.slate_model.proofs.Keeping.{line_above-end}
use Rattle.slate_model.proofs.Owing.{tabled, view-tables}
use Rattle.slate_model.proofs.Prefixes.{prefix-end}
use Rattle.slate_model.proofs.Reduced.{some-same}
use Rattle.slate_follow.proofs.Following.{begins-rest, logs-of}
use Rattle.slate_follow.specs.Following.{FollowsLine}
use Rattle.slate_follow.specs.Lasting.{Lasts}
use Rattle.slate_live.specs.Standing.{IsBareAt, IsStaged, PollStands, StandsBeside, placed, tabled_by}
use Rattle.slate_live.specs.Represents.{AreOfPast, Holds, IsHeld, IsValid}
use Rattle.slate_live.specs.World.{World}
use Rattle.slate_live.proofs.Advancing.{Advances}
use Rattle.slate_live.proofs.Following.{new-held, owed-lined, view-stored}
use Rattle.slate_live.proofs.Chains.{reached}
use Rattle.slate_live.proofs.Leading.{stored-before, stored-past, valid-over}
use Rattle.slate_live.proofs.Planning.{HasPlan}

or-true : (b : Bool) → (b || true) ≡ true
or-true true = refl
or-true false = refl

module _ (w : World) (o : Objects) (sound : IsSound o) (holds : Holds o w) (valid : IsValid w) (reads : (n : ℕ) (x : Object) → slice_get w.objects n ≡ Some x → IsHeld o x) (reader : Follower) (unpinned : is_pinned reader.mode ≡ false) where
  abbrev P : Follower → Type 0
  P f = StandsBeside o w f

  abbrev kept : Follower
  kept = kept_follower reader

  -- ---- how one that stands goes on
  pub ways : Ways w.stored valid.line o reader P
  ways = record {
    again = λ view n m n' m' lease lease' s low low' floor within leased fewer seen.
        let count = length-take (n - w.stored.floor) w.stored.batches in
        let here = front-end w.stored valid.line n' floor within in
        record {
          valid = (
            front-begins n' w.stored,
            λ skips free latest is. (let before = s.valid.1 skips free latest is in let few = fewer skips in omega (arith, count, here, before, few, floor, within)),
            λ managed live. leased ∙ managed,
            s.valid.3,
          );
          named = s.named;
          past = s.past;
          held = (reads-front w.stored valid.line o view n n' low low' s.held.0, λ free. seen);
        };
    seen = λ view n m lease s. s.held.1 unpinned;
  }

  -- ---- the latest manifest
  module _ (l : VersionedManifest) (is : latest_manifest o ≡ Some l) where
    abbrev tabled_at : ℕ
    tabled_at = l.manifest.last_l0_seq

    goes : IsView modes.FollowLatest false o l
    goes = (l, is, or-true l.manifest.initialized, refl)

    latest-low : w.stored.floor ≤ tabled_at
    latest-low = subst (λ (x : Line). x.floor ≤ tabled_at) holds.stored (logs-of o l sound is).low

    pub latest-high : tabled_at ≤ end w.stored
    latest-high = subst (λ (x : Line). tabled_at ≤ end x) holds.stored (tabled o l.manifest (content o) (view-tables o modes.FollowLatest false l sound goes) sound.line)

    latest-stands : (lease : Option Lease) → is_some lease ≡ is_managed reader.mode → P (tabled_by w.stored reader l lease)
    latest-stands lease leased =
        let stored = view-stored w.stored modes.FollowLatest true false o l sound holds.stored goes in
        let lined = owed-lined w.stored modes.FollowLatest true false o l sound holds.stored goes 0 l.manifest.replay_after_wal_id refl in
        let held = new-held [] w.stored modes.FollowLatest true false 0 o l goes (up_to tabled_at w.stored) l.manifest.replay_after_wal_id lined in
        let here = front-end w.stored valid.line tabled_at latest-low latest-high in
        record {
          valid = (
            front-begins tabled_at w.stored,
            λ skips free found at.
                let same : l ≡ found = some-same l found (sym is ∙ (ap latest_manifest holds.catalogue ∙ at)) in
                let e = ap (λ (v : VersionedManifest). v.manifest.last_l0_seq) same in
                omega (arith, here, e),
            λ managed live. leased ∙ managed,
            λ free found at.
                let same : l ≡ found = some-same l found (sym is ∙ (ap latest_manifest holds.catalogue ∙ at)) in
                let e = ap (λ (v : VersionedManifest). v.manifest.last_l0_seq) same in
                omega (arith, e),
          );
          named = λ n a at. stored-before w.stored o a (valid-over w o sound holds valid reads n a at) l.manifest.tables stored;
          past = subst (λ c. AreOfPast c l.manifest.tables) holds.catalogue (stored-past o l sound is l.manifest.tables stored);
          held = (held.0, λ free. seen-as o _ (tabled_by w.stored reader l lease) refl (omega arith) (held.1 refl));
        }

    pub latest-read : (lease : Option Lease) → is_some lease ≡ is_managed reader.mode → WasLatest o l × (w.stored.floor ≤ tabled_at) × (tabled_at ≤ end w.stored) × P (tabled_by w.stored reader l lease)
    latest-read lease leased = ((l, is, omega arith, λ same. refl), latest-low, latest-high, latest-stands lease leased)

  -- ---- the reader itself
  module _ (s : StandsBeside o w reader) (keeps : kept.line.floor ≡ reader.view.manifest.last_l0_seq) where
    pub whole-is : reader.line ≡ up_to (number reader) w.stored
    whole-is = whole-front reader.line w.stored s.valid.0

    pub number-is : number kept ≡ number reader
    number-is = line_above-end reader.view.manifest.last_l0_seq reader.line

    number-within : number reader ≤ end w.stored
    number-within = prefix-end reader.line w.stored s.valid.0

    floor-is : reader.line.floor ≡ w.stored.floor
    floor-is = ap (λ (l : Line). l.floor) whole-is

    pub number-low : w.stored.floor ≤ number reader
    number-low = let e = floor-is in omega (arith, e)

    numbered-whole : AreNumberedFrom reader.line.floor reader.line.batches
    numbered-whole = subst (λ (l : Line). AreNumberedFrom l.floor l.batches) (sym whole-is) (numbered-take w.stored.floor (number reader - w.stored.floor) w.stored.batches valid.line)

    pub view-reached : reader.view.manifest.last_l0_seq ≤ number reader
    view-reached = let e = number-is in omega (arith, e, keeps)

    view-low : w.stored.floor ≤ reader.view.manifest.last_l0_seq
    view-low = elim (cases_lt reader.view.manifest.last_l0_seq w.stored.floor) [
      | inl less ↦
          let e = floor-is in
          let all = above-all reader.line.floor reader.view.manifest.last_l0_seq reader.line.batches numbered-whole (omega (arith, less, e)) in
          let count = ap (λ (xs : List Batch). length xs) all in
          absurd (omega (arith, less, e, count, keeps))
      | inr over ↦ over
    ]

    whole-placed : P (placed w.stored reader reader.view (number reader) reader.mark reader.lease)
    whole-placed =
        let base : P (record reader { segments = [] }) = record {
          valid = s.valid;
          named = s.named;
          past = s.past;
          held = (s.held.0, λ free. seen-as o reader (record reader { segments = [] }) refl (omega arith) (s.held.1 free));
        } in
        subst (λ (l : Line). P (record reader { line = l; segments = [] })) whole-is base

    pub begun-comes : (leased : is_some reader.lease ≡ is_managed reader.mode) (moment : ℤ) (overtaken : ℕ) (history : PollHistory) → Come w.stored valid.line o reader P (WasLatest o) (begun_at moment overtaken history kept)
    begun-comes leased moment overtaken history = start-comes w.stored valid.line o reader P (WasLatest o) ways leased number-is number-low number-within view-low view-reached whole-placed moment overtaken history

    pub latest-decided : (leased : is_some reader.lease ≡ is_managed reader.mode) (moment : ℤ) (overtaken : ℕ) (history : PollHistory) (l : VersionedManifest) → latest_manifest o ≡ Some l →
        Comes w.stored valid.line o reader P (WasLatest o) ways (decided kept l reader.lease (record (begun_at moment overtaken history kept) { stage = Ended }))
    latest-decided leased moment overtaken history l is =
        decided-comes w.stored valid.line o reader P (WasLatest o) ways leased number-is number-low number-within view-low view-reached whole-placed moment overtaken history l (latest-read l is reader.lease leased)

    -- ---- a begun poll
    pub poll-comes : (begun : Begun) → PollStands o w reader begun → AreNumberedFrom begun.floor begun.fresh → Come w.stored valid.line o reader P (WasLatest o) begun
    poll-comes begun p numbered =
        let f = p.follows in
        let begins = begins-rest w.stored valid.line begun.floor f.low begun.fresh numbered f.fresh in
        record {
          leased = (p.fits).leased;
          after = (p.fits).after;
          base = (p.fits).low;
          reached = (p.fits).high;
          low = f.low;
          viewed = p.viewed;
          fresh = (begins.0, ap (λ (l : Line). l.batches) begins.1);
          within = p.within;
          stands = p.comes;
          read = p.read;
        }

    fresh-numbered : (b : Begun) → Come w.stored valid.line o reader P (WasLatest o) b → AreNumberedFrom b.floor b.fresh
    fresh-numbered b c =
        let low = c.low in
        let within = c.within in
        let k = b.floor - w.stored.floor in
        let above : batches_above b.floor w.stored.batches ≡ drop k w.stored.batches = above-drop w.stored.floor b.floor k w.stored.batches valid.line (omega (arith, low)) in
        let all : AreNumberedFrom b.floor (drop k w.stored.batches) =
        subst (λ n. AreNumberedFrom n (drop k w.stored.batches)) (let e : w.stored.floor + k ≡ b.floor = omega (arith, low) in e)
        (numbered-drop w.stored.floor k w.stored.batches valid.line (omega (arith, low, within))) in
        numbered-front b.floor b.fresh (c.fresh).0 (subst (AreNumberedFrom b.floor) (sym above ∙ (c.fresh).1) all)

    pub come-stands : (b : Begun) → Come w.stored valid.line o reader P (WasLatest o) b → IsStagedNext reader b b.stage → HasPlan b b.stage → (reader.skips ≡ true → IsBareAt reader b b.stage) → (b.stage ≡ ReadsLatest → b ≡ begun_at b.moment b.overtaken b.history kept) → FollowsLine o w.stored kept b → Advances reader number-is b → Lasts o kept b → PollStands o w reader b
    come-stands b c staged planned bare anew follows advances lasts = record {
      reader_stands = s;
      keeps = keeps;
      follows = follows;
      fits = record { leased = c.leased; after = c.after; low = c.base; high = c.reached };
      viewed = c.viewed;
      within = c.within;
      comes = c.stands;
      read = c.read;
      staged = staged-as b.stage staged planned;
      bare = bare;
      anew = anew;
      numbered = fresh-numbered b c;
      risen = advances.risen;
      above = advances.above;
      tabled = advances.tabled;
      lasts = lasts;
    }
      where
        staged-as : (stage : Stage) → IsStagedNext reader b stage → HasPlan b stage → IsStaged reader b stage
        staged-as (Puts next given replaces) staged planned = planned
        staged-as AsksLast staged planned = staged
        staged-as (LooksAt id last) staged planned = staged
        staged-as (ReadsLog last) staged planned = staged
        staged-as ReadsAgain staged planned = staged
        staged-as ReadsLatest staged planned = tt
        staged-as Ended staged planned = tt
