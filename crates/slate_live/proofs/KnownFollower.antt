-- What a command does to an honest store by what the code keeps of a reader, it does to what the world knows of both.
use Rattle.slate_status.specs.Records.{status_by}
use Rattle.slate_live.specs.Settings.{Settings}
use Rattle.slate_model.specs.Segments.{Extractor, segments_of}
use Rattle.std.proofs.Common.{◌≡◌, ℕ, ℤ, List, [], Option, Some, None, Result, Ok, Err, IfErr, IfOk, inl, inr, refl, sym, subst, ap, ◌∙◌, ◌++◌, arith, ◌⊎◌, Bool, true, false, not, ◌||◌}
use Rattle.slate_types.specs.declared.batches.Batch.{Batch}
use Rattle.slate_types.specs.declared.batches.KeyValue.{KeyValue}
use Rattle.slate_types.specs.declared.options.FlushType.{FlushType}
use Rattle.slate_types.specs.declared.read_faults.ReadFault.{ReadFault}
use Rattle.slate_types.specs.Line.{IsLine, IsPrefix, Line, batches_above}
use Rattle.slate_types.specs.declared.ranges.ByteRange.{ByteRange}
use Rattle.slate_types.specs.declared.scan_options.IterationOrder.{IterationOrder}
use Rattle.slate_reads.specs.Read.{read_at}
use Rattle.slate_rows.specs.Iteration.{Iteration}
use Rattle.slate_rows.specs.Scan.{BeginsScan}
use Rattle.slate_store.specs.Content.{IsSound, content}
use Rattle.slate_store.specs.Objects.{Objects, ObjectsOf, PutManifest, changed, latest_manifest}
use Rattle.slate_store.specs.declared.objects.VersionedManifest.{VersionedManifest}
use Rattle.slate_errors.specs.declared.errors.SlateError.TheVariants as errors
use Rattle.slate_store.specs.declared.refusals.StoreRefusal.TheVariants as refusals
use Rattle.slate_store.specs.declared.reader_modes.DbReaderMode.TheVariants as modes
use Rattle.slate_store.specs.Refusals.{PlanIs}
use Rattle.slate_errors.specs.declared.errors.SlateError.{SlateError}
use Rattle.slate_model.specs.Catalogue.{Span, catalogue_of}
use Rattle.slate_model.specs.Close.{closed, closed_follower, closing_flush, ended, recorded_fault}
use Rattle.slate_model.specs.declared.leases.Lease.{Lease}
use Rattle.slate_model.specs.Followed.{IsView, can_follow}
use Rattle.slate_model.specs.Knowledge.{Knowledge}
use Rattle.slate_model.specs.Lease.{to_keep}
use Rattle.slate_model.specs.Managed.{EndsLease, KeepRefusal, KeepsLease, PollsLeased, PollsManaged, PollsOnce, PollsTwice, PutsPlanned, PutsRenewal, RenewsTaken, poll_result, unrefused}
use Rattle.slate_model.proofs.Rounds.{Rounds, rounds}
use Rattle.slate_live.proofs.Renewed.{held-then, maintained-then, stored-then, valid-then}
use Rattle.slate_model.proofs.Leased.{its-manifest, planned-latest, view-alike}
use Rattle.slate_model.proofs.Maintained.{Maintained, delete-recheckpoints}
use Rattle.slate_model.proofs.Planned.{end-maintains, keep-maintains, keep-recheckpoints, keep_refusal-known, puts-known, renewal-known, renewal-maintains, unrefused-known}
use Rattle.slate_store.specs.Calls.{WhereModelled}
use Rattle.slate_store.specs.Checkpoints.{to_delete, to_refresh}
use Rattle.std.specs.Option.{IfSome, is_some, unwrap_or}
use Rattle.slate_model.specs.Follow.{LacksSegment, Polls}
use Rattle.slate_model.specs.Follower.{Follower, HasSegments, is_managed, is_pinned, kept_follower, number, rebuilt}
use Rattle.slate_model.specs.Handle.{CloseResult}
use Rattle.slate_model.specs.Known.{Untouched}
use Rattle.slate_model.specs.Object.{Follower as AFollower}
use Rattle.slate_model.specs.Read.{Gives}
use Rattle.slate_model.specs.Stores.{Stands, by_catalogue, by_objects, kept_rows, world_rows}
use Rattle.slate_model.specs.Tables.{AreStored}
use Rattle.slate_model.specs.Valid.{IsHeld}
use Rattle.slate_model.proofs.Keeping.{line_above-end, line_above-twice}
use Rattle.slate_model.proofs.Moving.{known-stored}
use Rattle.slate_model.proofs.Reduced.{as_modelled, catalogued, holding, modelled, polled-whole, polls-reduced, reads-reduced, refuses-known, some-same, untouched-known, whole}
use Rattle.slate_script.specs.declared.replies.Reply.{Reply}
use Rattle.slate_live.specs.declared.states.Write.{Write}
use Rattle.slate_live.specs.Calls.{Call, Write as WriteCall, Merge as MergeCall, Flush, Refresh, Compact, Get, Scan, Seek, Close, Poll, Status, FindTime, FindNumber, Nothing}
use Rattle.slate_live.specs.Followers.{ClosesAs, FollowerActs, PollsAs, IsPlainReadAt, IsPlainScanAt, TakesFromFollower}
use Rattle.slate_live.specs.Replies.{AnswersStatus, follower_ended_reply, polled_reply, reply_to}
use Rattle.slate_status.specs.Records.{status_by}
use Rattle.slate_live.specs.Scans.{scanned, sought}
use Rattle.slate_live.proofs.Cases.{by-option, is-none, some-of}
use Rattle.slate_live.proofs.Reading.{front-read, front-scan}
use Rattle.slate_errors.specs.Errors.{closed_error}
use Rattle.slate_errors.specs.declared.endings.Ended.{Ended}
use Rattle.slate_model.specs.declared.answers.PollAnswer.{PollAnswer}
use Rattle.slate_live.proofs.Leasing.{kept-answers, kept-kept, kept-lined, kept-sees, leased-held, leased-kept, leased-segments, leased-stored, leased-valid, leased_whole}
use Rattle.slate_live.proofs.Rising.{managed-free, managed-mode}
use Rattle.slate_live.proofs.Following.{new-held, new-valid, polled-kept, polled-lined, polled_line, view-stored, with_segments}
use Rattle.slate_live.specs.Represents.{IsValidFollower}
use Rattle.slate_model.proofs.Logging.{stay-follow, still-seen}
use Rattle.slate_model.specs.Seen.{HasSeen}
use Rattle.slate_errors.specs.declared.closing.CloseFault.{CloseFault}
use Rattle.slate_live.proofs.Knowing.{joined-are, leased-by, objects-read, objects-same}

-- ---- followers
-- objects that stay as they are
pub unchanged-objects : (o o' : Objects) → IsSound o → o' ≡ o → Maintained o o'
unchanged-objects o o' sound same = subst (Maintained o) (sym same) (end-maintains [] 0 o sound)

or-true : (b : Bool) → (b || not false) ≡ true
or-true true = refl
or-true false = refl

kept-number : (g : Follower) → number (kept_follower g) ≡ number g
kept-number g = line_above-end g.view.manifest.last_l0_seq g.line

-- the segments of a whole follower are those of what is kept of it
kept-segments : (x : Option Extractor) (g : Follower) → HasSegments x g → HasSegments x (kept_follower g)
kept-segments x g had = had ∙ sym (ap (λ (l : Line). segments_of x l.batches) (line_above-twice g.view.manifest.last_l0_seq g.view.manifest.last_l0_seq g.line (omega arith)))

-- what a reader has seen it has seen over objects that are maintained
seen-then : (o o' : Objects) (latest : VersionedManifest) → latest_manifest o ≡ Some latest → Maintained o o' → (f : Follower) → HasSeen o f → HasSeen o' f
seen-then o o' latest is m f seen =
    let next = m.latest latest is in
    still-seen o o' latest next.0 f is next.1 (stay-follow o o' latest.manifest.replay_after_wal_id next.0.manifest.replay_after_wal_id (sym next.4) (m.logs latest is)) seen

-- ---- what a round of a poll puts that keeps a checkpoint, and what that leaves
module _ (stored : Line) (o o' : Objects) (f f' : ℕ) (made : ℕ) (sound : IsSound o) (holds : content o ≡ stored) (settings : Settings) (moment : ℤ) (g k : Follower) (mine : IsValidFollower stored (catalogue_of o) g) (held : IsHeld o (AFollower g)) where
  abbrev pub round_world : Knowledge Span
  round_world = by_catalogue stored (catalogue_of o)

  -- what a poll puts, and what that leaves
  keep-puts : (lease : Lease) (r : Result PollAnswer SlateError) → KeepsLease (by_objects (Some o)) settings.extractor made lease moment (kept_follower g) (holding o f) r k (holding o' f') → WhereModelled (λ c c'. PutsPlanned round_world.stands (KeepRefusal settings.extractor) (to_keep g.view lease moment) c r made c') (Some (catalogue_of o)) (Some (catalogue_of o'))
  keep-puts lease r p = as_modelled (catalogue_of o) (catalogue_of o') (puts-known (to_keep g.view lease moment) (keep-recheckpoints g.view lease moment) o sound stored (KeepRefusal settings.extractor) (KeepRefusal settings.extractor) (keep_refusal-known settings.extractor o) r made o' (modelled o o' p.puts))

  keep-maintained : (lease : Lease) (r : Result PollAnswer SlateError) → KeepsLease (by_objects (Some o)) settings.extractor made lease moment (kept_follower g) (holding o f) r k (holding o' f') → Maintained o o'
  keep-maintained lease r p = subst (Maintained o) (sym (modelled o o' p.puts).after) (keep-maintains g.view lease moment made o sound)

  -- a key that it lacks a segment for is one of the world
  keeps-segmented : (lease : Lease) (r : Result PollAnswer SlateError) → is_managed g.mode ≡ true → KeepsLease (by_objects (Some o)) settings.extractor made lease moment (kept_follower g) (holding o f) r k (holding o' f') → (c : ObjectsOf Span) (line : Line) → Some (catalogue_of o) ≡ Some c → line ≡ stored → r ≡ Err errors.InvalidDBState →
      PlanIs (to_keep g.view lease moment) c (Err refusals.InvalidDBState) ⊎ LacksSegment round_world settings.extractor modes.ManagedCheckpoint g.skips false c line
  keeps-segmented lease r managed p c line at stored_is is_error =
      subst (λ x. PlanIs (to_keep g.view lease moment) x (Err refusals.InvalidDBState) ⊎ LacksSegment round_world settings.extractor modes.ManagedCheckpoint g.skips false x line) (some-same (catalogue_of o) c at)
      (subst (λ l. PlanIs (to_keep g.view lease moment) (catalogue_of o) (Err refusals.InvalidDBState) ⊎ LacksSegment round_world settings.extractor modes.ManagedCheckpoint g.skips false (catalogue_of o) l) (sym stored_is)
      (by (p.segmented o stored refl (o, refl, sound, sym holds) (g, refl, mine.0, held.1 (managed-free g.mode managed)) is_error))) where
        by : PlanIs (to_keep g.view lease moment) o (Err refusals.InvalidDBState) ⊎ LacksSegment (by_objects (Some o)) settings.extractor modes.ManagedCheckpoint g.skips false o stored → PlanIs (to_keep g.view lease moment) (catalogue_of o) (Err refusals.InvalidDBState) ⊎ LacksSegment round_world settings.extractor modes.ManagedCheckpoint g.skips false (catalogue_of o) stored
        by (inl plan) = inl plan
        by (inr (key, lacks)) = inr (key, refuses-known settings.extractor stored (catalogue_of o) (Some o) modes.ManagedCheckpoint g.skips o sound holds false (Some (errors.EmptySegmentPrefix key)) lacks)

  -- what a round leaves that answers: the whole follower, of which the code keeps a part, and what it is to the world
  pub record Answered (lease : Lease) (answer : PollAnswer) : Type 0 where
    pub new : Follower
    pub kept : k ≡ kept_follower new
    pub maintained : Maintained o o'
    pub valid : IsValidFollower stored (catalogue_of o') new
    pub tables : AreStored o' new.view.manifest.tables
    pub holds_it : IsHeld o' (AFollower new)
    pub known : KeepsLease round_world settings.extractor made lease moment g (catalogued o f) (Ok answer) new (catalogued o' f')

  pub answered-round : (lease : Lease) (answer : PollAnswer) → is_managed g.mode ≡ true → KeepsLease (by_objects (Some o)) settings.extractor made lease moment (kept_follower g) (holding o f) (Ok answer) k (holding o' f') → Answered lease answer
  answered-round lease answer managed p =
      let q = modelled o o' p.keeps in
      let puts = modelled o o' p.puts in
      let m = keep-maintained lease (Ok answer) p in
      let latest = unwrap_or q.next q.latest in
      let puts_it = keep-recheckpoints g.view lease moment q.latest in
      let its = its-manifest q.latest q.next q.given (to_keep g.view lease moment q.latest) q.plan puts_it in
      let found : latest_manifest o' ≡ Some latest = subst (λ x. latest_manifest x ≡ Some latest) (sym puts.after) (planned-latest (to_keep g.view lease moment) made o q.latest q.next q.given sound.manifests q.is_latest q.plan puts_it puts.part) in
      let here = m.content ∙ holds in
      let can : can_follow false latest ≡ true = or-true latest.manifest.initialized in
      let alike = view-alike g.view k.view lease moment q.latest q.next its q.view in
      let free = managed-free g.mode managed in
      let had = held.1 free in
      let all = (q.sees).sees stored (o, refl, sound, sym holds) (g, refl, mine.0, had) in
      let by_latest : IsView modes.ManagedCheckpoint false o' latest = (latest, found, can, refl) in
      let v = subst (λ mode. IsView mode false o' latest) (sym (managed-mode g.mode managed)) by_latest in
      let line = polled_line stored k in
      let lined = kept-lined stored g o' latest m.sound here v k (Some o) answer all free mine.0 (seen-then o o' q.latest q.is_latest m g had) in
      let part = kept-kept stored g o' latest m.sound here v k (Some o) answer all in
      record {
        new = leased_whole g.mode g.skips g.lag latest line k;
        kept = leased-kept stored g.mode g.skips false g.lag o' latest m.sound here v k line lined part alike;
        maintained = m;
        valid = leased-valid stored g.mode g.skips false g.lag o' latest m.sound here v k line lined part alike (subst (λ l. is_some l ≡ true) (sym q.leased) refl);
        tables = leased-stored stored g.mode g.skips false g.lag o' latest m.sound here v k line lined part alike;
        holds_it = leased-held stored g.mode g.skips false g.lag o' latest m.sound here v k line lined part alike;
        known = record {
          faults = record { count = p.faults.count; unavailable = λ no. absurd (cc); stays = p.faults.stays; none_missing = λ no. absurd (cc) };
          puts = keep-puts lease (Ok answer) p;
          answers = (managed-mode g.mode managed, refl, refl, refl, kept-answers stored g o' latest m.sound here v k (Some o) answer all);
          keeps = as_modelled (catalogue_of o) (catalogue_of o') (record {
            latest = q.latest;
            is_latest = q.is_latest;
            next = q.next;
            given = q.given;
            plan = q.plan;
            leased = q.leased;
            view = q.view;
            sees = kept-sees stored g o' latest m.sound here v k (Some o) answer all (catalogue_of o) _ (q.sees).logs;
          });
          failed = tt;
          lapses = tt;
          segments = λ had. leased-segments stored g.mode g.skips false g.lag o' latest m.sound here v k line lined part alike settings.extractor (p.segments (kept-segments settings.extractor g had));
          segmented = λ c line at stored_is _ is_error. keeps-segmented lease (Ok answer) managed p c line at stored_is is_error;
        };
      }

-- ---- a round of a poll, and a renewal of the lease that it took
module _ (stored : Line) (o o' : Objects) (f f' : ℕ) (made : ℕ) (sound : IsSound o) (holds : content o ≡ stored) (settings : Settings) (moment : ℤ) (g k : Follower) (mine : IsValidFollower stored (catalogue_of o) g) (held : IsHeld o (AFollower g)) (lease : Lease) (managed : is_managed g.mode ≡ true)
    (r : Result PollAnswer SlateError) (p : PollsTwice (by_objects (Some o)) settings.extractor made lease moment (kept_follower g) (holding o f) r k (holding o' f')) where
  abbrev pub first_world : Knowledge Span
  first_world = by_catalogue stored (catalogue_of o)

  pub both : Rounds (by_objects (Some o)) settings.extractor made lease moment (kept_follower g) o f r k (holding o' f') p
  both = rounds (by_objects (Some o)) settings.extractor made lease moment (kept_follower g) o f r k (holding o' f') p sound.manifests

  abbrev pub o1 : Objects
  o1 = both.between

  abbrev pub f1 : ℕ
  f1 = (p.between).faults

  pub first : Answered stored o o1 f f1 p.first sound holds settings moment g p.middle mine held lease p.answer
  first =
      answered-round stored o o1 f f1 p.first sound holds settings moment g p.middle mine held lease p.answer managed
      (subst (λ x. KeepsLease (by_objects (Some o)) settings.extractor p.first lease moment (kept_follower g) (holding o f) (Ok p.answer) p.middle (record { objects = x; faults = f1 })) both.there p.round)

  last_is : both.last ≡ o'
  last_is = sym (some-same o' both.last both.there_last)

  then-maintained : Maintained o1 o'
  then-maintained =
      subst (Maintained o1) (sym both.renews.after ∙ last_is) (renewal-maintains (p.given).id (p.given).lifetime moment o1 (first.maintained).sound (p.middle).view both.next_is p.again)

  then-put : (o' ≡ o1) ⊎ ((put : VersionedManifest) × (o' ≡ changed (PutManifest put.id put.manifest) o1))
  then-put = elim both.parts [
    | inl same ↦ inl (sym last_is ∙ same)
    | inr again ↦ inr (again.0, sym last_is ∙ again.3)
  ]

  pub all-maintained : Maintained o o'
  all-maintained = maintained-then o o1 o' (p.middle).view both.next_is then-put then-maintained first.maintained

  -- the whole reader, with what was recorded
  abbrev pub after_both : CloseResult → Follower
  after_both result = record first.new { result = result }

  its-lease : first.new.lease ≡ Some p.given
  its-lease = sym (ap (λ (x : Follower). x.lease) first.kept) ∙ p.leased

  pub both-valid : (result : CloseResult) → IsValidFollower stored (catalogue_of o') (after_both result)
  both-valid result = valid-then o o1 o' (p.middle).view both.next_is then-put then-maintained first.new result stored (subst (λ l. is_some l ≡ true) (sym its-lease) refl) first.valid

  pub both-stored : AreStored o' first.new.view.manifest.tables
  both-stored = stored-then o o1 o' (p.middle).view both.next_is then-put then-maintained first.new first.tables

  pub both-held : (result : CloseResult) → IsHeld o' (AFollower (after_both result))
  both-held result = held-then o o1 o' (p.middle).view both.next_is then-put then-maintained first.new result first.holds_it

  -- the poll of the world
  pub both-known : (new : Follower) → IfOk r (λ a. (a ≡ p.answer) × (new ≡ first.new)) → IfErr r (λ error. new ≡ record first.new { result = poll_result error }) → PollsTwice first_world settings.extractor made lease moment g (catalogued o f) r new (catalogued o' f')
  both-known new answers failed = record {
    first = p.first;
    again = p.again;
    made_is = p.made_is;
    answer = p.answer;
    middle = first.new;
    between = catalogued o1 f1;
    round = first.known;
    renews = p.renews;
    given = p.given;
    leased = its-lease;
    due = p.due;
    faults = p.faults;
    puts = as_modelled (catalogue_of o1) (catalogue_of o') (subst (λ v. PutsRenewal first_world.stands (to_refresh (p.given).id (p.given).lifetime moment v) (catalogue_of o1) r p.again (catalogue_of o')) (ap (λ (x : Follower). x.view) first.kept)
        (renewal-known (p.given).id (p.given).lifetime moment o1 (first.maintained).sound (p.middle).view both.next_is stored r p.again o' (subst (λ s. PutsRenewal Stands (to_refresh (p.given).id (p.given).lifetime moment (p.middle).view) o1 r p.again s) last_is both.renews)));
    answers = answers;
    failed = failed;
  }

module _ (stored : Line) (o o' : Objects) (f f' : ℕ) (made : ℕ) (writes writes' : List Write) (reply : Reply) (sound : IsSound o) (holds : content o ≡ stored) (numbered : IsLine stored)
    (settings : Settings) (moment : ℤ) (g k : Follower) (mine : IsValidFollower stored (catalogue_of o) g) (held : IsHeld o (AFollower g)) where
  front : IsPrefix g.line stored
  front = mine.0

  -- What the command leaves of the whole follower, of which the code keeps a part. It keeps the content. The follower is valid,
  -- and what it is to the objects, where the one before is.
  pub record LedFollower (call : Call) : Type 0 where
    pub new : Follower
    pub kept : k ≡ kept_follower new
    pub maintained : Maintained o o'
    pub valid : IsValidFollower stored (catalogue_of o') g → IsValidFollower stored (catalogue_of o') new
    pub view : (new.view ≡ g.view) ⊎ AreStored o' new.view.manifest.tables
    pub holds_it : IsHeld o' (AFollower g) → IsHeld o' (AFollower new)
    pub acts : FollowerActs (by_catalogue stored (catalogue_of o)) settings moment call made g (catalogued o f) writes reply new (catalogued o' f') writes'

  unchanged : o' ≡ o → Maintained o o'
  unchanged same = unchanged-objects o o' sound same

  rows-line : (rows : List Batch) → kept_rows (Some o) (AFollower (kept_follower g)) rows → AreStored (catalogue_of o) g.view.manifest.tables × (rows ≡ g.line.batches)
  rows-line rows r =
      let all = joined-are o g.view.manifest.tables r.0 r.1 in (
        known-stored o g.view.manifest.tables all.0,
        r.2 ∙ (ap (λ bs. bs ++ batches_above g.view.manifest.last_l0_seq g.line.batches) all.1 ∙ held.0 all.0),
      )

  read-follower : (key : List ℕ) (rows : List Batch) (a : Result (Option KeyValue) ReadFault) → kept_rows (Some o) (AFollower (kept_follower g)) rows → IsPlainReadAt settings.merge key (kept_follower g) rows a → (rows' : List Batch) × world_rows stored (catalogue_of o) (AFollower g) rows' × IsPlainReadAt settings.merge key g rows' a
  read-follower key rows a has plain =
      let line = rows-line rows has in (
        stored.batches,
        (line.0, refl),
        plain ∙ (ap (λ n. read_at settings.merge rows (Some n) key) (kept-number g) ∙ (ap (λ bs. read_at settings.merge bs (Some (number g)) key) line.1 ∙ front-read settings.merge g.line stored key front numbered)),
      )

  scan-follower : (range : ByteRange) (order : IterationOrder) (rows : List Batch) (a : Result Iteration ReadFault) → kept_rows (Some o) (AFollower (kept_follower g)) rows → Gives (IsPlainScanAt settings.merge range order (kept_follower g)) rows a → (rows' : List Batch) × world_rows stored (catalogue_of o) (AFollower g) rows' × Gives (IsPlainScanAt settings.merge range order g) rows' a
  scan-follower range order rows (Ok it) has plain =
      let line = rows-line rows has in
      let counted : BeginsScan settings.merge rows (Some (number g)) range order it = subst (λ n. BeginsScan settings.merge rows (Some n) range order it) (kept-number g) plain in (
        stored.batches,
        (line.0, refl),
        front-scan settings.merge g.line stored range order it front numbered (subst (λ bs. BeginsScan settings.merge bs (Some (number g)) range order it) line.1 counted),
      )
  scan-follower range order rows (Err fault) has plain = absurd plain

  taken-follower : (range : ByteRange) (order : IterationOrder) (taken : Iteration → Result (List KeyValue) SlateError) → TakesFromFollower (by_objects (Some o)) settings.merge range order taken (kept_follower g) (holding o f) reply (holding o' f') → TakesFromFollower (by_catalogue stored (catalogue_of o)) settings.merge range order taken g (catalogued o f) reply (catalogued o' f')
  taken-follower range order taken a = record {
    scan = a.scan;
    result = a.result;
    scans = reads-reduced {has = kept_rows (Some o) (AFollower (kept_follower g))} {has' = world_rows stored (catalogue_of o) (AFollower g)} {P = Gives (IsPlainScanAt settings.merge range order (kept_follower g))} {P' = Gives (IsPlainScanAt settings.merge range order g)}
        (scan-follower range order) g.result g.view.manifest.tables a.scan o o' f f' a.scans;
    takes = a.takes;
    replied = a.replied;
  }

  -- a follower that is as before
  unled : (call : Call) → o' ≡ o → k ≡ kept_follower g → FollowerActs (by_catalogue stored (catalogue_of o)) settings moment call made g (catalogued o f) writes reply g (catalogued o' f') writes' → LedFollower call
  unled call same kept known = record { new = g; kept = kept; maintained = unchanged same; valid = λ v. v; view = inl refl; holds_it = λ h. h; acts = known }

  abbrev PollsPlainly : (r : Result PollAnswer SlateError) → Follower → Type 0
  PollsPlainly r new = Polls (by_catalogue stored (catalogue_of o)) settings.extractor g (catalogued o f) r new (catalogued o' f')

  -- the poll of a world, by how the follower is polled
  acts-by : (r : Result PollAnswer SlateError) (new : Follower) (managed : Bool) → is_managed g.mode ≡ managed → reply ≡ reply_to polled_reply r → writes' ≡ writes → PollsAs (by_catalogue stored (catalogue_of o)) settings.extractor managed made moment g (catalogued o f) r new (catalogued o' f') →
      FollowerActs (by_catalogue stored (catalogue_of o)) settings moment Poll made g (catalogued o f) writes reply new (catalogued o' f') writes'
  acts-by r new managed is replied same_writes p = (
    record { result = r; replied = replied; does = subst (λ b. PollsAs (by_catalogue stored (catalogue_of o)) settings.extractor b made moment g (catalogued o f) r new (catalogued o' f')) (sym is) p },
    same_writes,
  )

  -- a poll that changed nothing of one that keeps no checkpoint
  unpolled : (r : Result PollAnswer SlateError) → is_managed g.mode ≡ false → reply ≡ reply_to polled_reply r → made ≡ 0 → writes' ≡ writes → o' ≡ o → k ≡ kept_follower g → PollsPlainly r g → LedFollower Poll
  unpolled r unmanaged replied none same_writes same kept known = unled Poll same kept (acts-by r g false unmanaged replied same_writes (known, none))

  -- one that is open and doesn't stay at a checkpoint
  free-led : (r : Result PollAnswer SlateError) → is_managed g.mode ≡ false → reply ≡ reply_to polled_reply r → made ≡ 0 → writes' ≡ writes → g.result ≡ None → is_pinned g.mode ≡ false → Polls (by_objects (Some o)) settings.extractor (kept_follower g) (holding o f) r k (holding o' f') → PollsPlainly r (polled-whole stored None false g k r) → LedFollower Poll
  free-led (Ok answer) unmanaged replied none same_writes live free p known =
      let b = p.rebuilds live free in
      let v = b.can o refl in
      let all = b.sees o stored refl (o, refl, sound, sym holds) (g, refl, front, held.1 free) in
      let line = polled_line stored k in
      let lined = polled-lined (Some o) stored g o k answer sound holds v front free (held.1 free) all in
      let new = with_segments k.segments (rebuilt g.mode g.skips g.lag k.view line k.mark) in
      let same = sym (some-same o' o b.kept) in
      record {
        new = new;
        kept = polled-kept (Some o) stored g o k answer sound holds v all;
        maintained = unchanged (some-same o' o b.kept);
        valid = λ _. subst (λ (x : Objects). IsValidFollower stored (catalogue_of x) new) same (new-valid k.segments stored g.mode g.skips false g.lag o k.view v line k.mark lined unmanaged);
        view = inr (subst (λ (x : Objects). AreStored x k.view.manifest.tables) same (view-stored stored g.mode g.skips false o k.view sound holds v));
        holds_it = λ _. subst (λ (x : Objects). IsHeld x (AFollower new)) same (new-held k.segments stored g.mode g.skips false g.lag o k.view v line k.mark lined);
        acts = acts-by (Ok answer) new false unmanaged replied same_writes (known, none);
      }
  free-led (Err e) unmanaged replied none same_writes live free p known = unpolled (Err e) unmanaged replied none same_writes (some-same o' o (p.rebuilds live free).kept) p.failed known

  open-led : (r : Result PollAnswer SlateError) → is_managed g.mode ≡ false → reply ≡ reply_to polled_reply r → made ≡ 0 → writes' ≡ writes → g.result ≡ None → (pinned : Bool) → is_pinned g.mode ≡ pinned → Polls (by_objects (Some o)) settings.extractor (kept_follower g) (holding o f) r k (holding o' f') → PollsPlainly r (polled-whole stored None pinned g k r) → LedFollower Poll
  open-led (Ok answer) unmanaged replied none same_writes live true stays p known =
      let q = p.pinned live stays in unpolled (Ok answer) unmanaged replied none same_writes (objects-same o o' f f' q.2) q.1 known
  open-led (Err e) unmanaged replied none same_writes live true stays p known =
      let q = p.pinned live stays in unpolled (Err e) unmanaged replied none same_writes (objects-same o o' f f' q.2) q.1 known
  open-led r unmanaged replied none same_writes live false free p known = free-led r unmanaged replied none same_writes live free p known

  closed-led : (r : Result PollAnswer SlateError) (q : Result (Unit {0}) CloseFault) → is_managed g.mode ≡ false → reply ≡ reply_to polled_reply r → made ≡ 0 → writes' ≡ writes → g.result ≡ Some q → Polls (by_objects (Some o)) settings.extractor (kept_follower g) (holding o f) r k (holding o' f') → PollsPlainly r (polled-whole stored (Some q) (is_pinned g.mode) g k r) → LedFollower Poll
  closed-led (Ok answer) q unmanaged replied none same_writes is p known =
      let c = some-of (λ q. (Ok answer ≡ Err (closed_error q)) × (holding o' f' ≡ holding o f)) g.result q is p.closed in absurd (let e = c.0 in cc)
  closed-led (Err e) q unmanaged replied none same_writes is p known =
      unpolled (Err e) unmanaged replied none same_writes (objects-same o o' f f' (some-of (λ q. (Err e ≡ Err (closed_error q)) × (holding o' f' ≡ holding o f)) g.result q is p.closed).1) p.failed known

  polled-led : (r : Result PollAnswer SlateError) → is_managed g.mode ≡ false → reply ≡ reply_to polled_reply r → Polls (by_objects (Some o)) settings.extractor (kept_follower g) (holding o f) r k (holding o' f') → made ≡ 0 → writes' ≡ writes → LedFollower Poll
  polled-led r unmanaged replied p none same_writes = by (g.result) refl where
    known : PollsPlainly r (polled-whole stored g.result (is_pinned g.mode) g k r)
    known = polls-reduced settings.extractor stored r g k o o' f f' sound holds front held.1 p

    by : (closed : CloseResult) → g.result ≡ closed → LedFollower Poll
    by None live = open-led r unmanaged replied none same_writes live (is_pinned g.mode) refl p (subst (λ c. PollsPlainly r (polled-whole stored c (is_pinned g.mode) g k r)) live known)
    by (Some q) is = closed-led r q unmanaged replied none same_writes is p (subst (λ c. PollsPlainly r (polled-whole stored c (is_pinned g.mode) g k r)) is known)

  -- ---- one that keeps a checkpoint
  abbrev world : Knowledge Span
  world = by_catalogue stored (catalogue_of o)

  -- the poll of the world, where it is open under this lease
  leased-known : (lease : Lease) (r : Result PollAnswer SlateError) (new : Follower) → g.result ≡ None → g.lease ≡ Some lease → PollsLeased world settings.extractor made lease moment g (catalogued o f) r new (catalogued o' f') → PollsManaged world settings.extractor made moment g (catalogued o f) r new (catalogued o' f')
  leased-known lease r new live is p = record {
    closed = is-none _ g.result live;
    keeps = λ other live' is'. let same : lease ≡ other = cc in subst (λ l. PollsLeased world settings.extractor made l moment g (catalogued o f) r new (catalogued o' f')) same p;
  }

  -- whether it renews the lease that it takes is known by the catalogue
  its-renewals : (lease : Lease) (does : Bool) → RenewsTaken (kept_follower g) lease moment does (holding o f) → RenewsTaken g lease moment does (catalogued o f)
  its-renewals lease does renews = renews

  -- a poll that answers an error: the lease is the old one, or the one that it committed
  failed-led : (lease : Lease) (e : SlateError) → is_managed g.mode ≡ true → reply ≡ reply_to polled_reply (Err e) → writes' ≡ writes → g.result ≡ None → g.lease ≡ Some lease → PollsOnce (by_objects (Some o)) settings.extractor made lease moment (kept_follower g) (holding o f) (Err e) k (holding o' f') → LedFollower Poll
  failed-led lease e managed replied same_writes live is once =
      let p = once.round in
      let new : Follower = record g { lease = k.lease; result = poll_result e } in
      let lapses = p.lapses in
      record {
        new = new;
        kept = p.failed;
        maintained = keep-maintained stored o o' f f' made sound holds settings moment g k mine held lease (Err e) p;
        valid = λ v. (
          v.0,
          v.1,
          λ _ still.
              elim lapses [
                | inl old ↦ subst (λ l. is_some l ≡ true) (sym (old ∙ is)) refl
                | inr given ↦ subst (λ l. is_some l ≡ true) (sym given.4) refl
              ],
          v.3,
        );
        view = inl refl;
        holds_it = λ h. (h.0, λ free. let seen = h.1 free in record { mark = seen.mark; logs = seen.logs });
        acts = acts-by (Err e) new true managed replied same_writes (leased-known lease (Err e) new live is (inl (record {
          ends = tt;
          round = record {
            faults = p.faults;
            puts = keep-puts stored o o' f f' made sound holds settings moment g k mine held lease (Err e) p;
            answers = tt;
            keeps = tt;
            failed = refl;
            lapses = lapses;
            segments = λ had. had;
            segmented = λ c line at stored_is _ is_error. keeps-segmented stored o o' f f' made sound holds settings moment g k mine held lease (Err e) managed p c line at stored_is is_error;
          };
        })));
      }

  -- one that answers
  answered-led : (lease : Lease) (answer : PollAnswer) → is_managed g.mode ≡ true → reply ≡ reply_to polled_reply (Ok answer) → writes' ≡ writes → g.result ≡ None → g.lease ≡ Some lease → PollsOnce (by_objects (Some o)) settings.extractor made lease moment (kept_follower g) (holding o f) (Ok answer) k (holding o' f') → LedFollower Poll
  answered-led lease answer managed replied same_writes live is p =
      let a = answered-round stored o o' f f' made sound holds settings moment g k mine held lease answer managed p.round in
      record {
        new = a.new;
        kept = a.kept;
        maintained = a.maintained;
        valid = λ _. a.valid;
        view = inr a.tables;
        holds_it = λ _. a.holds_it;
        acts = acts-by (Ok answer) a.new true managed replied same_writes (leased-known lease (Ok answer) a.new live is (inl (record { round = a.known; ends = its-renewals lease false p.ends })));
      }

  -- a round, and a renewal
  twice-led : (lease : Lease) (r : Result PollAnswer SlateError) → is_managed g.mode ≡ true → reply ≡ reply_to polled_reply r → writes' ≡ writes → g.result ≡ None → g.lease ≡ Some lease → PollsTwice (by_objects (Some o)) settings.extractor made lease moment (kept_follower g) (holding o f) r k (holding o' f') → LedFollower Poll
  twice-led lease (Ok answer) managed replied same_writes live is p =
      let a = first stored o o' f f' made sound holds settings moment g k mine held lease managed (Ok answer) p in
      record {
        new = a.new;
        kept = (p.answers).1 ∙ a.kept;
        maintained = all-maintained stored o o' f f' made sound holds settings moment g k mine held lease managed (Ok answer) p;
        valid = λ _. both-valid stored o o' f f' made sound holds settings moment g k mine held lease managed (Ok answer) p a.new.result;
        view = inr (both-stored stored o o' f f' made sound holds settings moment g k mine held lease managed (Ok answer) p);
        holds_it = λ _. both-held stored o o' f f' made sound holds settings moment g k mine held lease managed (Ok answer) p a.new.result;
        acts = acts-by (Ok answer) a.new true managed replied same_writes (leased-known lease (Ok answer) a.new live is (inr (both-known stored o o' f f' made sound holds settings moment g k mine held lease managed (Ok answer) p a.new ((p.answers).0, refl) tt)));
      }
  twice-led lease (Err e) managed replied same_writes live is p =
      let a = first stored o o' f f' made sound holds settings moment g k mine held lease managed (Err e) p in
      let new = after_both stored o o' f f' made sound holds settings moment g k mine held lease managed (Err e) p (poll_result e) in
      record {
        new = new;
        kept = p.failed ∙ ap (λ (x : Follower). record x { result = poll_result e }) a.kept;
        maintained = all-maintained stored o o' f f' made sound holds settings moment g k mine held lease managed (Err e) p;
        valid = λ _. both-valid stored o o' f f' made sound holds settings moment g k mine held lease managed (Err e) p (poll_result e);
        view = inr (both-stored stored o o' f f' made sound holds settings moment g k mine held lease managed (Err e) p);
        holds_it = λ _. both-held stored o o' f f' made sound holds settings moment g k mine held lease managed (Err e) p (poll_result e);
        acts = acts-by (Err e) new true managed replied same_writes (leased-known lease (Err e) new live is (inr (both-known stored o o' f f' made sound holds settings moment g k mine held lease managed (Err e) p new tt refl)));
      }

  keeps-led : (lease : Lease) (r : Result PollAnswer SlateError) → is_managed g.mode ≡ true → reply ≡ reply_to polled_reply r → writes' ≡ writes → g.result ≡ None → g.lease ≡ Some lease → PollsLeased (by_objects (Some o)) settings.extractor made lease moment (kept_follower g) (holding o f) r k (holding o' f') → LedFollower Poll
  keeps-led lease (Ok answer) managed replied same_writes live is (inl once) = answered-led lease answer managed replied same_writes live is once
  keeps-led lease (Err e) managed replied same_writes live is (inl once) = failed-led lease e managed replied same_writes live is once
  keeps-led lease r managed replied same_writes live is (inr twice) = twice-led lease r managed replied same_writes live is twice

  managed-led : (r : Result PollAnswer SlateError) → is_managed g.mode ≡ true → reply ≡ reply_to polled_reply r → writes' ≡ writes → PollsManaged (by_objects (Some o)) settings.extractor made moment (kept_follower g) (holding o f) r k (holding o' f') → LedFollower Poll
  managed-led r managed replied same_writes p =
      by-option g.result
      (λ live. leased-by g mine.2 managed live (λ lease is. keeps-led lease r managed replied same_writes live is (p.keeps lease live is)))
      (λ q is.
      let c = some-of (λ q. (r ≡ Err (closed_error q)) × (k ≡ kept_follower g) × Untouched made (holding o f) (holding o' f')) g.result q is p.closed in
      unled Poll (objects-same o o' f f' c.2.1) c.1 (acts-by r g true managed replied same_writes (record {
        closed = subst (λ x. IfSome x (λ q. (r ≡ Err (closed_error q)) × (g ≡ g) × Untouched made (catalogued o f) (catalogued o' f'))) (sym is) (c.0, refl, untouched-known made o o' f f' c.2);
        keeps = λ lease live _. absurd (let no = sym is ∙ live in cc);
      })))

  polls-led : (r : Result PollAnswer SlateError) (managed : Bool) → is_managed g.mode ≡ managed → reply ≡ reply_to polled_reply r → writes' ≡ writes → PollsAs (by_objects (Some o)) settings.extractor managed made moment (kept_follower g) (holding o f) r k (holding o' f') → LedFollower Poll
  polls-led r true is replied same_writes p = managed-led r is replied same_writes p
  polls-led r false is replied same_writes p = polled-led r is replied p.0 p.1 same_writes

  -- ---- a close
  closed-it : (flush_type : Option FlushType) (answer : Ended) → Maintained o o' → k ≡ closed_follower (kept_follower g) → reply ≡ follower_ended_reply g.result answer → writes' ≡ writes → ClosesAs world (is_managed g.mode) made g (catalogued o f) answer (closed_follower g) (catalogued o' f') → LedFollower (Close flush_type)
  closed-it flush_type answer m kept replied same_writes c = record {
    new = closed_follower g;
    kept = kept;
    maintained = m;
    valid = λ v. (v.0, v.1, λ _ still. absurd (cc), v.3);
    view = inl refl;
    holds_it = λ h. (h.0, λ free. let seen = h.1 free in record { mark = seen.mark; logs = seen.logs });
    acts = (record { answer = answer; replied = replied; does = c }, same_writes);
  }

  closes-as : (answer : Ended) (managed : Bool) → is_managed g.mode ≡ managed → ClosesAs world managed made g (catalogued o f) answer (closed_follower g) (catalogued o' f') → ClosesAs world (is_managed g.mode) made g (catalogued o f) answer (closed_follower g) (catalogued o' f')
  closes-as answer managed is c = subst (λ b. ClosesAs world b made g (catalogued o f) answer (closed_follower g) (catalogued o' f')) (sym is) c

  closes-led : (flush_type : Option FlushType) (answer : Ended) (managed : Bool) → is_managed g.mode ≡ managed → reply ≡ follower_ended_reply g.result answer → writes' ≡ writes → ClosesAs (by_objects (Some o)) managed made (kept_follower g) (holding o f) answer k (holding o' f') → LedFollower (Close flush_type)
  closes-led flush_type answer true managed replied same_writes c =
      by-option g.result
      (λ live. leased-by g mine.2 managed live (λ lease is.
      let e = c.ends lease live is in
      let puts = modelled o o' e.puts in
      closed-it flush_type answer (subst (Maintained o) (sym puts.after) (end-maintains lease.id made o sound)) c.closed replied same_writes (closes-as answer true managed (record {
        closed = refl;
        tasks = c.tasks;
        again = is-none _ g.result live;
        ends = λ other live' is'.
            let same : lease ≡ other = cc in
            subst (λ (l : Lease). EndsLease world made l (catalogued o f) answer (catalogued o' f')) same
            (record { faults = e.faults; puts = as_modelled (catalogue_of o) (catalogue_of o') (puts-known (to_delete lease.id) (delete-recheckpoints lease.id) o sound stored unrefused unrefused (unrefused-known o) (closing_flush answer.fault) made o' puts) });
      }))))
      (λ q is.
      let a = some-of (λ _. (answer ≡ ended g.tasks (recorded_fault g.result)) × Untouched made (holding o f) (holding o' f')) g.result q is c.again in
      closed-it flush_type answer (unchanged (objects-same o o' f f' a.1.1)) c.closed replied same_writes (closes-as answer true managed (record {
        closed = refl;
        tasks = c.tasks;
        again = subst (λ x. IfSome x (λ _. (answer ≡ ended g.tasks (recorded_fault g.result)) × Untouched made (catalogued o f) (catalogued o' f'))) (sym is) (a.0, untouched-known made o o' f f' a.1);
        ends = λ lease live _. absurd (let no = sym is ∙ live in cc);
      })))
  closes-led flush_type answer false managed replied same_writes c =
      closed-it flush_type answer (unchanged (objects-same o o' f f' c.2.1)) c.1 replied same_writes (closes-as answer false managed (c.0, refl, untouched-known made o o' f f' c.2))

  pub follower-led : (call : Call) → FollowerActs (by_objects (Some o)) settings moment call made (kept_follower g) (holding o f) writes reply k (holding o' f') writes' → LedFollower call
  follower-led Poll a = polls-led (a.0).result (is_managed g.mode) refl (a.0).replied a.1 (a.0).does
  follower-led (Get key remote snapshot) a = unled (Get key remote snapshot) (objects-read g.result g.view.manifest.tables (a.0).result o o' f f' (a.0).does) a.1 (
    record {
      result = (a.0).result;
      replied = (a.0).replied;
      does = reads-reduced {has = kept_rows (Some o) (AFollower (kept_follower g))} {has' = world_rows stored (catalogue_of o) (AFollower g)} {P = IsPlainReadAt settings.merge key (kept_follower g)} {P' = IsPlainReadAt settings.merge key g}
          (read-follower key) g.result g.view.manifest.tables (a.0).result o o' f f' (a.0).does;
    },
    refl,
    a.2,
    a.3,
  )
  follower-led (Scan range order remote snapshot) a = unled (Scan range order remote snapshot) (objects-read g.result g.view.manifest.tables (a.0).scan o o' f f' (a.0).scans) a.1 (taken-follower range order scanned a.0, refl, a.2, a.3)
  follower-led (Seek range take key order remote snapshot) a = unled (Seek range take key order remote snapshot) (objects-read g.result g.view.manifest.tables (a.0).scan o o' f f' (a.0).scans) a.1 (taken-follower range order (sought range take key) a.0, refl, a.2, a.3)
  follower-led (Close t) a = closes-led t (a.0).answer (is_managed g.mode) refl (a.0).replied a.1 (a.0).does
  follower-led Status a = unled Status (objects-same o o' f f' a.2.1) a.1 (subst (λ n. AnswersStatus (record (status_by n g.view g.result) { memtable_segments = g.segments }) reply) (kept-number g) a.0, refl, untouched-known made o o' f f' a.2, a.3)
  follower-led (WriteCall ops) a = unled (WriteCall ops) (objects-same o o' f f' a.2.1) a.1 (a.0, refl, untouched-known made o o' f f' a.2, a.3)
  follower-led (MergeCall op) a = unled (MergeCall op) (objects-same o o' f f' a.2.1) a.1 (a.0, refl, untouched-known made o o' f f' a.2, a.3)
  follower-led (Flush t) a = unled (Flush t) (objects-same o o' f f' a.2.1) a.1 (a.0, refl, untouched-known made o o' f f' a.2, a.3)
  follower-led Refresh a = unled Refresh (objects-same o o' f f' a.2.1) a.1 (a.0, refl, untouched-known made o o' f f' a.2, a.3)
  follower-led Compact a = unled Compact (objects-same o o' f f' a.2.1) a.1 (a.0, refl, untouched-known made o o' f f' a.2, a.3)
  follower-led (FindTime number find) a = unled (FindTime number find) (objects-same o o' f f' a.2.1) a.1 (a.0, refl, untouched-known made o o' f f' a.2, a.3)
  follower-led (FindNumber seconds find) a = unled (FindNumber seconds find) (objects-same o o' f f' a.2.1) a.1 (a.0, refl, untouched-known made o o' f f' a.2, a.3)
  follower-led Nothing a = unled Nothing (objects-same o o' f f' a.2.1) a.1 (a.0, refl, untouched-known made o o' f f' a.2, a.3)
