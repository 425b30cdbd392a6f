-- What goes on by what is new in a sound store, where a follower had seen the rest, sees all that it has, or lags behind it.
use Rattle.std.proofs.Common.{◌≡◌, ℕ, ◌+◌, ◌-◌, ◌<◌, ◌≤◌, max, length, List, [], ◌++◌, ◌∷◌, inl, inr, map, Bool, false, Option, Some, None, Ok, refl, sym, subst, ap, ◌∙◌, arith, length-append}
use Rattle.std.proofs.lemmas.List.{append-nil}
use Rattle.std.specs.List.{All}
use Rattle.std.specs.Option.{IfSome}
use Rattle.std.specs.Prelude.{◌⊎◌, IsSome}
use Rattle.slate_types.proofs.Lines.{above-all, above-none}
use Rattle.slate_types.specs.declared.batches.Batch.{Batch}
use Rattle.slate_types.specs.Line.{AreNumberedFrom, Line, IsPrefix, batches_above, end}
use Rattle.slate_store.proofs.LastLog.{at_least}
use Rattle.slate_store.specs.declared.objects.VersionedManifest.{VersionedManifest}
use Rattle.slate_store.specs.Content.{IsSound, content, logged}
use Rattle.slate_store.specs.declared.reader_modes.DbReaderMode.{DbReaderMode}
use Rattle.slate_store.specs.Objects.{Objects, greatest, last_log, latest_manifest, log_at}
use Rattle.slate_replay.specs.declared.replays.Replayed.{Replayed}
use Rattle.slate_replay.specs.declared.replays.Replayed.TheVariants as replays
use Rattle.slate_replay.specs.Replay.{Replays, line_of}
use Rattle.slate_model.proofs.Free.{numbered-front}
use Rattle.slate_model.proofs.Fronts.{whole-front}
use Rattle.slate_model.proofs.Keeping.{line_above-end}
use Rattle.slate_model.proofs.Reduced.{some-same}
use Rattle.slate_model.proofs.Reopened.{line_from, numbered_rest}
use Rattle.slate_errors.specs.declared.errors.SlateError.TheVariants as errors
use Rattle.slate_model.specs.Follow.{CatchesUp, HasAllLogs, LacksSegment, ReplayRefuses, SeesOwed, SeesPolled, StaysBehind}
use Rattle.slate_model.specs.Followed.{IsView, last_read}
use Rattle.slate_model.specs.Follower.{Follower, follower_tasks, is_pinned, kept_follower, number, rebuilt, unsegmented}
use Rattle.slate_model.specs.Handle.{line_above, up_to}
use Rattle.slate_model.specs.Known.{IsContent}
use Rattle.slate_model.specs.Open.{replayed}
use Rattle.slate_model.specs.Seen.{HasSeen}
use Rattle.slate_model.specs.Segments.{Extractor, ops_of, unsegmented_refusal}
use Rattle.slate_model.specs.Stores.{by_objects, kept_seen}
use Rattle.slate_model.specs.declared.answers.PollAnswer.{PollAnswer}
use Rattle.slate_model.specs.declared.answers.PollAnswer.TheVariants.{Truncated, Whole}
use Rattle.slate_model.specs.declared.leases.Lease.{Lease}
use Rattle.slate_follow.specs.Lagging.{IsLastTaken, MayWait, MustRead}
use Rattle.slate_follow.specs.Rebuilding.{Builds, Continues, GoesOn, GoingLacks, Lacks, Reaches, ReplaysView, TakesUnder, TakingLacks, Truncates, answer_of, followed, reached, unleased}
use Rattle.slate_follow.specs.Takings.{GivesTaking, Taking, installed}
use Rattle.slate_follow.proofs.Anew.{Waits, WhyRead, builds-lack, builds-polled, read-or-waits}
use Rattle.slate_follow.proofs.Above.{above-append, above-twice}
use Rattle.slate_follow.proofs.Lagging.{reads-far, waits-near}
use Rattle.slate_follow.proofs.Later.{later-logged, later-replayed, none-replayed}
use Rattle.slate_follow.proofs.Rebuilt.{at_stored, has-above, has-all, if_some, kept-end, kept-line, latest-can, replays-view, sees-kept, some_at, unpinned-last, unpinned-owed}
use Rattle.slate_follow.proofs.Refusing.{lacks-some}
use Rattle.slate_follow.proofs.Segmented.{first-refused}

-- the greatest of the greater of two numbers and others
pub greatest-greater : (m n : ℕ) (xs : List ℕ) → greatest (max m n) xs ≡ max m (greatest n xs)
greatest-greater m n [] = refl
greatest-greater m n (x ∷ xs) = let rest = greatest-greater m n xs in omega (arith, rest)

-- above a mark up to the last log file of all that is the last one
pub last-later : (o : Objects) (mark n : ℕ) → mark ≤ last_log n o → last_log (max mark n) o ≡ last_log n o
last-later o mark n low = let most = greatest-greater mark n (map (λ log. log.0) o.logs) in omega (arith, most, low)

-- a line that begins sound objects' content, which goes on by these batches
module _ (o : Objects) (view : VersionedManifest) (sound : IsSound o) (is : latest_manifest o ≡ Some view) (line : Line) (begins : IsPrefix line (content o)) where
  abbrev rest : List Batch
  rest = begins.0

  parts : (content o).batches ≡ line.batches ++ rest
  parts = ap (λ (l : Line). l.batches) begins.1

  numbered : AreNumberedFrom line.floor (line.batches ++ rest)
  numbered = subst (λ (l : Line). AreNumberedFrom l.floor l.batches) begins.1 sound.line

  ends-with : end (content o) ≡ end line + length rest
  ends-with =
      let all : end (content o) ≡ line.floor + length (line.batches ++ rest) = ap end begins.1 in
      let lengths = length-append line.batches rest in
      omega (arith, all, lengths)

  pub ends-within : end line ≤ end (content o)
  ends-within = let all = ends-with in omega (arith, all)

  logged-above : logged o view.manifest ≡ batches_above view.manifest.last_l0_seq (content o).batches
  logged-above = ap (λ (l : Line). l.batches) (kept-line o view sound is)

  -- what it goes on by is above each number that it has
  rest-above : (n : ℕ) → n ≤ end line → batches_above n rest ≡ rest
  rest-above n low = above-all (end line) n rest (numbered_rest line.floor line.batches rest numbered) low

  -- above its end the log files have what it goes on by
  pub logged-rest : view.manifest.last_l0_seq ≤ end line → batches_above (end line) (logged o view.manifest) ≡ rest
  logged-rest low =
      let n = end line in
      ap (batches_above n) logged-above
      ∙ (above-twice view.manifest.last_l0_seq n (content o).batches low
      ∙ (ap (batches_above n) parts
      ∙ (above-append n line.batches rest
      ∙ (ap (λ xs. xs ++ batches_above n rest) (above-none line.floor n line.batches (numbered-front line.floor line.batches rest numbered) (omega arith))
      ∙ rest-above n (omega arith)))))

  -- what is kept of it above a number, and then the rest, has all that the log files have
  pub kept-rest : (m : ℕ) → m ≤ view.manifest.last_l0_seq → batches_above view.manifest.last_l0_seq (batches_above m line.batches ++ rest) ≡ logged o view.manifest
  kept-rest m low =
      let floor = view.manifest.last_l0_seq in
      above-append floor (batches_above m line.batches) rest
      ∙ (ap (λ xs. xs ++ batches_above floor rest) (above-twice m floor line.batches low)
      ∙ (sym (above-append floor line.batches rest) ∙ (ap (batches_above floor) (sym parts) ∙ sym logged-above)))

  -- and ends where the line does without the rest
  kept-ends : view.manifest.last_l0_seq ≤ end line → view.manifest.last_l0_seq + length (batches_above view.manifest.last_l0_seq line.batches) ≡ end line
  kept-ends low =
      let floor = view.manifest.last_l0_seq in
      let above = batches_above floor line.batches in
      let split : logged o view.manifest ≡ above ++ rest =
      logged-above ∙ (ap (batches_above floor) parts ∙ (above-append floor line.batches rest ∙ ap (λ xs. above ++ xs) (rest-above floor low))) in
      let count : length (logged o view.manifest) ≡ length above + length rest = ap length split ∙ length-append above rest in
      let all = kept-end o view sound is in
      let whole = ends-with in
      omega (arith, count, all, whole)

-- so a follower that goes on, of which this is the whole, has all that the log files have
module _ (o : Objects) (view : VersionedManifest) (w : Follower) (sound : IsSound o) (is : latest_manifest o ≡ Some view) (begins : IsPrefix w.line (content o)) (has : HasSeen o w) (reaches : Reaches (kept_follower w) view) where
  abbrev kept : List Batch
  kept = batches_above w.view.manifest.last_l0_seq w.line.batches

  abbrev floor : ℕ
  floor = view.manifest.last_l0_seq

  abbrev mark : ℕ
  mark = view.manifest.replay_after_wal_id

  abbrev from : ℕ
  from = max w.mark mark

  number-is : number (kept_follower w) ≡ end w.line
  number-is = line_above-end w.view.manifest.last_l0_seq w.line

  led : floor ≤ end w.line
  led = let arrived = reaches.1 in let at = number-is in omega (arith, arrived, at)

  last-is : last_log from o ≡ last_log mark o
  last-is = last-later o w.mark mark (has.mark view is)

  within : from ≤ last_log mark o
  within = let seen = has.mark view is in let least = at_least mark (map (λ log. log.0) o.logs) in omega (arith, seen, least)

  low : (id : ℕ) (bs : List Batch) → mark < id → id ≤ from → log_at id o ≡ Some bs → All (λ b. b.number ≤ end w.line) bs
  low id bs over under stored = has.logs view id bs is over (omega (arith, over, under)) stored

  pub whole-batches : (added : List Batch) (found : Replayed) → Replays from (last_log mark o) (number (kept_follower w)) [] added o (Ok found) →
      (batches_above floor (kept ++ added) ≡ logged o view.manifest) × (found ≡ replays.Whole)
  whole-batches added found logs =
      let n = end w.line in
      let above : mark ≤ from = omega arith in
      let ended = ends-within o view sound is w.line begins in
      let here = subst (λ k. Replays from (last_log mark o) k [] added o (Ok found)) number-is logs in
      let all = later-replayed o view sound is from n above within led ended low found added here in
      let rest = all.0 ∙ (sym (later-logged o view sound is from n above within led ended low) ∙ logged-rest o view sound is w.line begins led) in (
        ap (λ bs. batches_above floor (kept ++ bs)) rest ∙ kept-rest o view sound is w.line begins w.view.manifest.last_l0_seq reaches.0,
        all.1,
      )

  -- it is near what is stored where it may wait, and further from that than it may be where it must read
  near : (lag : ℕ) → MayWait lag (number (kept_follower w)) from o → end (content o) ≤ end w.line + lag
  near lag may =
      let above : mark ≤ from = omega arith in
      waits-near o view sound is from (end w.line) above within led (ends-within o view sound is w.line begins) low last-is lag (subst (λ n. MayWait lag n from o) number-is may)

  far : (lag : ℕ) → MustRead lag (number (kept_follower w)) from o → end w.line + lag < end (content o)
  far lag must =
      let above : mark ≤ from = omega arith in
      reads-far o view sound is from (end w.line) above within led (ends-within o view sound is w.line begins) low last-is lag (subst (λ n. MustRead lag n from o) number-is must)

  -- without more it has its batches that aren't in the tables
  still-line : line_of floor (batches_above floor (kept ++ [])) ≡ line_above floor w.line
  still-line =
      let above = batches_above floor w.line.batches in
      let same : batches_above floor (kept ++ []) ≡ above = ap (batches_above floor) (append-nil kept) ∙ above-twice w.view.manifest.last_l0_seq floor w.line.batches reaches.0 in
      let ends = kept-ends o view sound is w.line begins led in
      let begun : floor ≡ end w.line - length above = omega (arith, ends) in
      ap (line_of floor) same ∙ ap (λ n. line_of n above) begun

  stays-behind : (t : Option Objects) (new : Follower) (answer : PollAnswer) → w.skips ≡ false → 0 < w.lag → MayWait w.lag (number (kept_follower w)) from o → GoesOn o view from (kept_follower w) new answer →
      StaysBehind (by_objects t) (kept_follower w) (content o) new answer
  stays-behind t new answer reads may waits goes =
      let nothing = none-replayed from (number (kept_follower w)) o goes.added goes.found goes.logs in
      let becomes : unsegmented new ≡ rebuilt w.mode w.skips w.lag view (line_above floor w.line) from =
      goes.becomes
      ∙ (ap (λ bs. followed (kept_follower w) view bs (reached goes.found from)) nothing.0
      ∙ (ap (λ r. followed (kept_follower w) view [] (reached r from)) nothing.1 ∙ ap (λ l. rebuilt w.mode w.skips w.lag view l from) still-line)) in
      let view_is : new.view ≡ view = ap (λ (f : Follower). f.view) becomes in
      let mark_is : new.mark ≡ from = ap (λ (f : Follower). f.mark) becomes in
      let floor_is : new.view.manifest.last_l0_seq ≡ floor = ap (λ (v : VersionedManifest). v.manifest.last_l0_seq) view_is in
      let ends : number new ≡ end w.line = ap number becomes ∙ line_above-end floor w.line in
      let at = number-is in
      let close = near w.lag waits in
      let tables = led in
      let line : w.line ≡ up_to (number new) (content o) = whole-front w.line (content o) begins ∙ ap (λ n. up_to n (content o)) (sym ends) in
      record {
        reads = reads;
        may = may;
        near = omega (arith, close, at, floor_is, tables);
        reached = omega (arith, ends, at, floor_is, tables);
        sees = becomes
            ∙ (ap (λ (v : VersionedManifest). rebuilt w.mode w.skips w.lag v (line_above v.manifest.last_l0_seq w.line) from) (sym view_is)
            ∙ (ap (λ l. rebuilt w.mode w.skips w.lag new.view (line_above new.view.manifest.last_l0_seq l) from) line
            ∙ ap (λ n. rebuilt w.mode w.skips w.lag new.view (line_above new.view.manifest.last_l0_seq (up_to (number new) (content o))) n) (sym mark_is)));
        mark = inl (mark_is ∙ ap (λ (v : VersionedManifest). max w.mark v.manifest.replay_after_wal_id) (sym view_is));
        answered = goes.answers ∙ ap (λ r. answer_of r (number new)) nothing.1;
      }

  -- and sees it all, where it reads the later log files
  whole-sees : (t : Option Objects) (new : Follower) (answer : PollAnswer) → w.skips ≡ false → is_pinned w.mode ≡ false → GoesOn o view (last_log mark o) (kept_follower w) new answer → SeesOwed (by_objects t) w.mode w.skips w.lag o (content o) new answer
  whole-sees t new answer reads free goes =
      let all = whole-batches goes.added goes.found goes.logs in
      let now = batches_above floor (kept ++ goes.added) in
      let line = ap (line_from floor) all.0 ∙ kept-line o view sound is in
      let becomes = subst (λ k. unsegmented new ≡ rebuilt w.mode w.skips w.lag view (line_from floor now) (reached goes.found k)) (sym (unpinned-last o view w.mode w.skips free reads)) goes.becomes in
      sees-kept t o w.mode w.skips w.lag view (content o) (content o) goes.found now new answer (unpinned-owed o view t w.mode w.skips (content o) free reads) line all.1 becomes goes.answers

  pub goes-polled : (t : Option Objects) (last : ℕ) (new : Follower) (answer : PollAnswer) → w.skips ≡ false → is_pinned w.mode ≡ false → IsLastTaken w.lag (number (kept_follower w)) from o last → GoesOn o view last (kept_follower w) new answer →
      SeesPolled (by_objects t) (kept_follower w) o (content o) new answer
  goes-polled t last new answer reads free (inr (stands, may, waits)) goes = inr (stays-behind t new answer reads may waits (subst (λ k. GoesOn o view k (kept_follower w) new answer) stands goes))
  goes-polled t last new answer reads free (inl (most, why)) goes = inl (whole-sees t new answer reads free (subst (λ k. GoesOn o view k (kept_follower w) new answer) (most ∙ last-is) goes), caught why)
    where
      view_is : new.view ≡ view
      view_is = ap (λ (f : Follower). f.view) goes.becomes

      caught : (w.lag ≡ 0) ⊎ MustRead w.lag (number (kept_follower w)) from o → CatchesUp (kept_follower w) new.view (content o)
      caught (inl none) = inl none
      caught (inr must) =
          let over = far w.lag must in
          let at = number-is in
          let tables = led in
          let floor_is : new.view.manifest.last_l0_seq ≡ floor = ap (λ (v : VersionedManifest). v.manifest.last_l0_seq) view_is in
          inr (inr (inl (omega (arith, over, at, tables, floor_is))))

  -- a key that it takes without a segment is one of what it is owed
  pub going-owed : (x : Option Extractor) (last : ℕ) (key : List ℕ) → IsLastTaken w.lag (number (kept_follower w)) from o last → GoingLacks x o view last (kept_follower w) key → unsegmented_refusal x (ops_of (replayed view (content o))) ≡ Some (errors.EmptySegmentPrefix key)
  going-owed x last key (inl (most, why)) (added, found, logs, lacks) =
      let all = whole-batches added found (subst (λ k. Replays from k (number (kept_follower w)) [] added o (Ok found)) (most ∙ last-is) logs) in
      ap (λ bs. unsegmented_refusal x (ops_of bs)) (sym (all.0 ∙ logged-above o view sound is w.line begins)) ∙ lacks
  going-owed x last key (inr (stands, may, waits)) (added, found, logs, lacks) =
      let nothing = none-replayed from (number (kept_follower w)) o added found (subst (λ k. Replays from k (number (kept_follower w)) [] added o (Ok found)) stands logs) in
      let here = ap (λ bs. unsegmented_refusal x (ops_of (batches_above floor (kept ++ bs)))) (sym nothing.0) ∙ lacks in
      let now : unsegmented_refusal x (ops_of (batches_above floor kept)) ≡ Some (errors.EmptySegmentPrefix key) = ap (λ bs. unsegmented_refusal x (ops_of (batches_above floor bs))) (sym (append-nil kept)) ∙ here in
      let rest = begins.0 in
      let whole : batches_above floor kept ++ batches_above floor rest ≡ replayed view (content o) =
      sym (above-append floor kept rest) ∙ (kept-rest o view sound is w.line begins w.view.manifest.last_l0_seq reaches.0 ∙ logged-above o view sound is w.line begins) in
      ap (λ bs. unsegmented_refusal x (ops_of bs)) (sym whole) ∙ first-refused x (batches_above floor kept) (batches_above floor rest) (errors.EmptySegmentPrefix key) now

-- of which the code keeps this
pub goes-sees : (t : Option Objects) (o : Objects) (view : VersionedManifest) (last : ℕ) (old new : Follower) (answer : PollAnswer) → old.skips ≡ false → is_pinned old.mode ≡ false → IsSound o → latest_manifest o ≡ Some view →
    kept_seen old o (content o) → Reaches old view → IsLastTaken old.lag (number old) (max old.mark view.manifest.replay_after_wal_id) o last → GoesOn o view last old new answer → SeesPolled (by_objects t) old o (content o) new answer
goes-sees t o view last old new answer reads free sound is seen reaches taken goes =
    let w = seen.0 in
    let mode : old.mode ≡ w.mode = ap (λ (f : Follower). f.mode) seen.1 in
    let skips : old.skips ≡ w.skips = ap (λ (f : Follower). f.skips) seen.1 in
    subst (λ (f : Follower). SeesPolled (by_objects t) f o (content o) new answer) (sym seen.1)
    (goes-polled o view w sound is seen.2 seen.3 (subst (λ f. Reaches f view) seen.1 reaches) t last new answer (sym skips ∙ reads) (ap is_pinned (sym mode) ∙ free)
    (subst (λ (f : Follower). IsLastTaken f.lag (number f) (max f.mark view.manifest.replay_after_wal_id) o last) seen.1 taken)
    (subst (λ (f : Follower). GoesOn o view last f new answer) seen.1 goes))

pub goes-refuses : (t : Option Objects) (x : Option Extractor) (o : Objects) (view : VersionedManifest) (last : ℕ) (old : Follower) (key : List ℕ) → old.skips ≡ false → is_pinned old.mode ≡ false → IsSound o → latest_manifest o ≡ Some view →
    kept_seen old o (content o) → Reaches old view → IsLastTaken old.lag (number old) (max old.mark view.manifest.replay_after_wal_id) o last → GoingLacks x o view last old key →
    ReplayRefuses (by_objects t) x old.mode old.skips false o (content o) (Some (errors.EmptySegmentPrefix key))
goes-refuses t x o view last old key reads free sound is seen reaches taken lacks =
    let w = seen.0 in (
      view,
      content o,
      latest-can o view is old.mode free,
      unpinned-owed o view t old.mode old.skips (content o) free reads,
      going-owed o view w sound is seen.2 seen.3 (subst (λ f. Reaches f view) seen.1 reaches) x last key
          (subst (λ (f : Follower). IsLastTaken f.lag (number f) (max f.mark view.manifest.replay_after_wal_id) o last) seen.1 taken)
          (subst (λ (f : Follower). GoingLacks x o view last f key) seen.1 lacks),
    )

-- the reader that has what was taken, but for its segments and its lease
pub taken-by : (view : VersionedManifest) (old : Follower) (taking : Taking) → old.tasks ≡ follower_tasks old.mode → old.result ≡ None → (line : Line) (mark : ℕ) → taking.line ≡ line → taking.mark ≡ mark →
    unsegmented (unleased (installed view taking old)) ≡ rebuilt old.mode old.skips old.lag view line mark
taken-by view old taking tasks open_ line mark line_is mark_is =
    let plain = λ (l : Line) (m : ℕ). record old { view = view; line = l; segments = []; mark = m; lease = None } in
    ap (λ l. plain l taking.mark) line_is ∙ (ap (plain line) mark_is
    ∙ (ap (λ t. record (plain line mark) { tasks = t }) tasks ∙ ap (λ r. record (plain line mark) { tasks = follower_tasks old.mode; result = r }) open_))

-- ---- what a reader takes that goes on, by the steps of that
module _ (t t1 : Option Objects) (kept : t1 ≡ t) (view : VersionedManifest) (last from : ℕ) (old : Follower) (from_is : from ≡ max old.mark view.manifest.replay_after_wal_id)
    (reach : IfSome t (λ o. IsLastTaken old.lag (number old) from o last)) where
  abbrev Reach : Objects → Type 0
  Reach o = IsLastTaken old.lag (number old) (max old.mark view.manifest.replay_after_wal_id) o last

  reach-at : (o : Objects) → t ≡ Some o → Reach o
  reach-at o at = subst (λ k. IsLastTaken old.lag (number old) k o last) from_is (some_at (λ o. IsLastTaken old.lag (number old) from o last) t o at reach)

  logs-at : (added : List Batch) (found : Replayed) → IfSome t1 (λ o. Replays from last (number old) [] added o (Ok found)) → (o : Objects) → t ≡ Some o → Replays (max old.mark view.manifest.replay_after_wal_id) last (number old) [] added o (Ok found)
  logs-at added found logs o at = subst (λ k. Replays k last (number old) [] added o (Ok found)) from_is (some_at (λ o. Replays from last (number old) [] added o (Ok found)) t1 o (kept ∙ at) logs)

  pub gone-on : (added : List Batch) (found : Replayed) → IfSome t1 (λ o. Replays from last (number old) [] added o (Ok found)) → old.tasks ≡ follower_tasks old.mode → old.result ≡ None → (taking : Taking) (mark : ℕ) →
      taking.line ≡ line_of view.manifest.last_l0_seq (batches_above view.manifest.last_l0_seq (old.line.batches ++ added)) → taking.mark ≡ mark → mark ≡ reached found last → taking.replayed ≡ found →
      IfSome t (λ o. (last : ℕ) × IsLastTaken old.lag (number old) (max old.mark view.manifest.replay_after_wal_id) o last × GivesTaking (GoesOn o view last old) view old taking)
  gone-on added found logs tasks open_ taking mark line mark_is reaches ended =
      if_some t (λ o at. (
        last,
        reach-at o at,
        record {
          added = added;
          found = found;
          logs = logs-at added found logs o at;
          becomes = taken-by view old taking tasks open_ _ _ line (mark_is ∙ reaches);
          answers = ap (λ f. answer_of f (number (installed view taking old))) ended;
        },
      ))

  pub going-lacks : (x : Option Extractor) (added : List Batch) (found : Replayed) → IfSome t1 (λ o. Replays from last (number old) [] added o (Ok found)) → (first : List ℕ) × Lacks x (batches_above view.manifest.last_l0_seq (old.line.batches ++ added)) first →
      IfSome t (λ o. (last : ℕ) × IsLastTaken old.lag (number old) (max old.mark view.manifest.replay_after_wal_id) o last × ((key : List ℕ) × GoingLacks x o view last old key))
  going-lacks x added found logs lacks = if_some t (λ o at. (last, reach-at o at, (lacks.0, (added, found, logs-at added found logs o at, lacks.1))))

-- what went on took what the log files of the latest manifest have
continues : (o : Objects) (view : VersionedManifest) (last : ℕ) (old new : Follower) (answer : PollAnswer) → latest_manifest o ≡ Some view → is_pinned old.mode ≡ false → Reaches old view →
    IsLastTaken old.lag (number old) (max old.mark view.manifest.replay_after_wal_id) o last → GoesOn o view last old new answer → Continues o old new answer
continues o view last old new answer is free reaches taken goes =
    let same : new.view ≡ view = ap (λ (f : Follower). f.view) goes.becomes in
    record {
      view = subst (IsView old.mode false o) (sym same) (latest-can o view is old.mode free);
      reaches = subst (Reaches old) (sym same) reaches;
      last = last;
      taken = subst (λ (v : VersionedManifest). IsLastTaken old.lag (number old) (max old.mark v.manifest.replay_after_wal_id) o last) (sym same) taken;
      goes = subst (λ v. GoesOn o v last old new answer) (sym same) goes;
    }

-- ---- what a reader takes of the latest manifest, as it goes on or is built anew
-- one that may not lag has all log files
pub all-taken : (o : Objects) (lag number from last : ℕ) → lag ≡ 0 → IsLastTaken lag number from o last → last ≡ last_log from o
all-taken o lag number from last none (inl (most, why)) = most
all-taken o lag number from last none (inr (stands, may, waits)) = absurd (omega (arith, none, may))

pub took-logs : (o : Objects) (view : VersionedManifest) (old new : Follower) (answer : PollAnswer) → is_pinned old.mode ≡ false → old.skips ≡ false → old.lag ≡ 0 → TakesUnder o view old new answer → HasAllLogs o new answer
took-logs o view old new answer free reads none (inl (reading, reaches, last, taken, goes)) =
    let from = max old.mark view.manifest.replay_after_wal_id in
    has-above o from goes.found (number new) new answer (ap (λ (f : Follower). f.mark) goes.becomes ∙ ap (reached goes.found) (all-taken o old.lag (number old) from last none taken)) goes.answers
took-logs o view old new answer free reads none (inr (not_on, last, read, builds)) = by (read-or-waits o view old free last read)
  where
    by : ((last ≡ last_read old.mode old.skips view o) × WhyRead o view old free) ⊎ Waits o view old free last → HasAllLogs o new answer
    by (inl (all, why)) = has-all o old.mode old.skips view builds.found (number new) new answer free reads (ap (λ (f : Follower). f.mark) builds.becomes ∙ ap (reached builds.found) all) builds.answers
    by (inr (reading, later, at, may, waits)) = absurd (omega (arith, none, may))

-- where its answer says that the log files weren't whole, they are truncated
pub replayed-truncates : (o : Objects) (from last n : ℕ) (added : List Batch) (found : Replayed) (new : Follower) (answer : PollAnswer) → Replays from last n [] added o (Ok found) → new.mark ≡ reached found last → answer ≡ answer_of found (number new) → Truncates o new answer
replayed-truncates o from last n added replays.Whole new answer logs mark answers = subst (Truncates o new) (sym answers) tt
replayed-truncates o from last n added (replays.Truncated id) new answer logs mark answers =
    subst (Truncates o new) (sym answers) (record { id = id; from = from; last = last; number = n + length {A = Batch} []; end = n + length added; truncated = logs.ends; before = mark })

pub builds-truncates : (o : Objects) (mode : DbReaderMode) (skips : Bool) (lag : ℕ) (view : VersionedManifest) (last : ℕ) (new : Follower) (answer : PollAnswer) → Builds o mode skips lag view last new answer → Truncates o new answer
builds-truncates o mode skips lag view last new answer b =
    replayed-truncates o view.manifest.replay_after_wal_id last view.manifest.last_l0_seq b.batches b.found new answer b.logs (ap (λ (f : Follower). f.mark) b.becomes) b.answers

pub took-truncates : (o : Objects) (view : VersionedManifest) (old new : Follower) (answer : PollAnswer) → TakesUnder o view old new answer → Truncates o new answer
took-truncates o view old new answer (inl (reads, reaches, last, taken, goes)) =
    replayed-truncates o (max old.mark view.manifest.replay_after_wal_id) last (number old) goes.added goes.found new answer goes.logs (ap (λ (f : Follower). f.mark) goes.becomes) goes.answers
took-truncates o view old new answer (inr (not_on, last, read, builds)) = builds-truncates o old.mode old.skips old.lag view last new answer builds

-- its lease is no matter
pub leased-truncates : (o : Objects) (f : Follower) (lease : Option Lease) (answer : PollAnswer) → Truncates o f answer → Truncates o (record f { lease = lease }) answer
leased-truncates o f lease (Whole at) all = tt
leased-truncates o f lease (Truncated at) all = all

-- there is an extractor where it lacks a segment
pub taking-some : (x : Option Extractor) (o : Objects) (view : VersionedManifest) (old : Follower) → TakingLacks x o view old → IsSome x
taking-some x o view old (inl (reads, reaches, last, taken, (key, (added, found, logs, lacks)))) = lacks-some x (batches_above view.manifest.last_l0_seq (old.line.batches ++ added)) key lacks
taking-some x o view old (inr (not_on, last, read, (key, (batches, found, logs, lacks)))) = lacks-some x batches key lacks

module _ (o : Objects) (view : VersionedManifest) (is : latest_manifest o ≡ Some view) (old new : Follower) (answer : PollAnswer) (free : is_pinned old.mode ≡ false) where
  can : IsView old.mode false o view
  can = latest-can o view is old.mode free

  -- one that waits has the tables alone
  waits-view : (last : ℕ) → Waits o view old free last → Builds o old.mode old.skips old.lag view last new answer → ReplaysView false o new answer
  waits-view last (reads, later, none, may, waits) built =
      let here = subst (λ k. Replays view.manifest.replay_after_wal_id k view.manifest.last_l0_seq [] built.batches o (Ok built.found)) none built.logs in
      let nothing = none-replayed view.manifest.replay_after_wal_id view.manifest.last_l0_seq o built.batches built.found here in
      let same : new.view ≡ view = ap (λ (f : Follower). f.view) built.becomes in
      let mark : new.mark ≡ view.manifest.replay_after_wal_id = ap (λ (f : Follower). f.mark) built.becomes ∙ (ap (λ r. reached r last) nothing.1 ∙ none) in
      let floor : new.line.floor ≡ view.manifest.last_l0_seq = ap (λ (f : Follower). f.line.floor) built.becomes in
      let lag : new.lag ≡ old.lag = ap (λ (f : Follower). f.lag) built.becomes in
      record {
        view = subst (IsView new.mode false o) (sym same) (latest-can o view is new.mode (ap (λ (f : Follower). is_pinned f.mode) built.becomes ∙ free));
        floor = floor ∙ ap (λ (v : VersionedManifest). v.manifest.last_l0_seq) (sym same);
        logs = inr (
          refl,
          record {
            none = ap (λ (f : Follower). f.line.batches) built.becomes ∙ nothing.0;
            mark = mark ∙ ap (λ (v : VersionedManifest). v.manifest.replay_after_wal_id) (sym same);
            may = subst (λ n. 0 < n) (sym lag) may;
            waits = subst (λ n. MayWait n new.view.manifest.last_l0_seq new.view.manifest.replay_after_wal_id o) (sym lag)
                (subst (λ (v : VersionedManifest). MayWait old.lag v.manifest.last_l0_seq v.manifest.replay_after_wal_id o) (sym same) waits);
            answers = built.answers ∙ ap (λ r. answer_of r (number new)) nothing.1;
          },
        );
      }

  pub took-view : TakesUnder o view old new answer → ReplaysView false o new answer ⊎ Continues o old new answer
  took-view (inl (reads, reaches, last, taken, goes)) = inr (continues o view last old new answer is free reaches taken goes)
  took-view (inr (not_on, last, read, builds)) = inl (by (read-or-waits o view old free last read))
    where
      by : ((last ≡ last_read old.mode old.skips view o) × WhyRead o view old free) ⊎ Waits o view old free last → ReplaysView false o new answer
      by (inl (all, why)) = replays-view old.mode old.skips false old.lag o view last (can, all) new answer builds
      by (inr waits) = waits-view last waits builds

  pub took-sees : (t : Option Objects) → IsSound o → (old.skips ≡ false → kept_seen old o (content o)) → TakesUnder o view old new answer → SeesPolled (by_objects t) old o (content o) new answer
  took-sees t sound seen (inl (reads, reaches, last, taken, goes)) = goes-sees t o view last old new answer reads free sound is (seen reads) reaches taken goes
  took-sees t sound seen (inr (not_on, last, read, builds)) = builds-polled o view sound is old new answer free t last not_on read builds

  -- a key that it takes without a segment is one of what it is owed
  pub took-refuses : (t : Option Objects) (x : Option Extractor) → IsSound o → (old.skips ≡ false → kept_seen old o (content o)) → TakingLacks x o view old → LacksSegment (by_objects t) x old.mode old.skips false o (content o)
  took-refuses t x sound seen (inl (reads, reaches, last, taken, (key, going))) = (key, goes-refuses t x o view last old key reads free sound is (seen reads) reaches taken going)
  took-refuses t x sound seen (inr (not_on, last, read, (key, lacks))) = (key, builds-lack o view sound is old new answer free t x last key read lacks)

-- by what it finds and takes
module _ {t t1 : Option Objects} (kept : t1 ≡ t) (view : VersionedManifest) (found : IfSome t (λ o. latest_manifest o ≡ Some view)) (old new : Follower) (answer : PollAnswer) (free : is_pinned old.mode ≡ false)
    (took : IfSome t1 (λ o. TakesUnder o view old new answer)) where
  found_at : (o : Objects) → t ≡ Some o → latest_manifest o ≡ Some view
  found_at o at = some_at (λ o. latest_manifest o ≡ Some view) t o at found

  took_at : (o : Objects) → t ≡ Some o → TakesUnder o view old new answer
  took_at o at = some_at (λ o. TakesUnder o view old new answer) t1 o (kept ∙ at) took

  pub taken-view : (o : Objects) → t ≡ Some o → ReplaysView false o new answer ⊎ Continues o old new answer
  taken-view o at = took-view o view (found_at o at) old new answer free (took_at o at)

  pub taken-can : new.view ≡ view → (o : Objects) → t ≡ Some o → IsView old.mode false o new.view
  taken-can same o at = subst (IsView old.mode false o) (sym same) (latest-can o view (found_at o at) old.mode free)

  pub taken-logs : (o : Objects) → t ≡ Some o → is_pinned old.mode ≡ false → old.skips ≡ false → old.lag ≡ 0 → HasAllLogs o new answer
  taken-logs o at unpinned reads none = took-logs o view old new answer free reads none (took_at o at)

  pub taken-sees : (o : Objects) (stored : Line) → t ≡ Some o → IsContent t stored → kept_seen old o stored → SeesPolled (by_objects t) old o stored new answer
  taken-sees o stored at content_is seen =
      at_stored (λ l. SeesPolled (by_objects t) old o l new answer) o stored at content_is
      (λ sound line. took-sees o view (found_at o at) old new answer free t sound (λ reads. subst (kept_seen old o) line seen) (took_at o at))

-- what it finds, and lacks a segment
pub taken-refuses : {t t1 : Option Objects} (x : Option Extractor) (view : VersionedManifest) (old : Follower) → t1 ≡ t → is_pinned old.mode ≡ false → IfSome t (λ o. latest_manifest o ≡ Some view) → IfSome t1 (λ o. TakingLacks x o view old) →
    (o : Objects) (stored : Line) → t ≡ Some o → IsContent t stored → kept_seen old o stored → LacksSegment (by_objects t) x old.mode old.skips false o stored
taken-refuses {t} {t1} x view old kept free found lacks o stored at content_is seen =
    let same : content_is.0 ≡ o = some-same content_is.0 o (sym content_is.1 ∙ at) in
    let line : stored ≡ content o = content_is.3 ∙ ap content same in
    let is = some_at (λ o. latest_manifest o ≡ Some view) t o at found in
    let l = some_at (λ o. TakingLacks x o view old) t1 o (kept ∙ at) lacks in
    subst (λ s. LacksSegment (by_objects t) x old.mode old.skips false o s) (sym line)
    (took-refuses o view is old old (Whole 0) free t x (subst IsSound same content_is.2) (λ reads. subst (kept_seen old o) line seen) l)

-- there is an extractor where it lacks one
pub taken-some : {t t1 : Option Objects} (x : Option Extractor) (view : VersionedManifest) (old : Follower) → t1 ≡ t → IfSome t1 (λ o. TakingLacks x o view old) → IfSome t (λ _. IsSome x)
taken-some {t} {t1} x view old kept lacks = if_some t (λ o at. taking-some x o view old (some_at (λ o. TakingLacks x o view old) t1 o (kept ∙ at) lacks))
