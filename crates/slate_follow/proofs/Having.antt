-- What a poll found, and the reader that has it.
use Rattle.std.proofs.Common.{◌≡◌, ◌∙◌, ◌+◌, ◌≤◌, ◌++◌, ℕ, Bool, List, [], inl, inr, Option, None, Some, Result, Ok, Err, true, false, length, length-append, arith, refl, sym, ap, subst}
use Rattle.std.specs.Option.{IfSome}
use Rattle.std.specs.Prelude.{ℤ, ◌&&◌, nat_le, not}
use Rattle.std.specs.Result.{IfErr, IfOk}
use Rattle.std.proofs.lemmas.Bool.{le-leb}
use Rattle.slate_types.specs.Line.{AreNumberedFrom, Line, batches_above}
use Rattle.slate_types.specs.declared.batches.Batch.{Batch}
use Rattle.slate_store.proofs.Logged.{numbered-append}
use Rattle.slate_store.specs.Checkpoints.{Plan}
use Rattle.slate_store.specs.declared.objects.VersionedManifest.{VersionedManifest}
use Rattle.slate_store.specs.declared.reader_modes.DbReaderMode.TheVariants.{ManagedCheckpoint}
use Rattle.slate_store.specs.Objects.{Objects}
use Rattle.slate_replay.specs.Replay.{Replays, line_of}
use Rattle.slate_replay.specs.declared.replays.Replayed.{Replayed}
use Rattle.slate_replay.specs.declared.replays.Replayed.TheVariants as replays
use Rattle.slate_errors.specs.declared.errors.SlateError.{SlateError}
use Rattle.slate_model.specs.Follow.{AnswersAt}
use Rattle.slate_model.specs.Follower.{Follower, HasSegments, follower_tasks, number, rebuilt, unsegmented}
use Rattle.slate_model.specs.Lease.{differs}
use Rattle.slate_model.specs.Managed.{IsOpenAt}
use Rattle.slate_model.specs.Segments.{Extractor, segments_of}
use Rattle.slate_model.specs.declared.answers.PollAnswer.{PollAnswer}
use Rattle.slate_model.specs.declared.answers.PollAnswer.TheVariants as answers
use Rattle.slate_model.specs.declared.leases.Lease.{Lease}
use Rattle.slate_follow.specs.Keeping.{IsNews, Replaces, informed}
use Rattle.slate_follow.specs.Lagging.{IsLastRead}
use Rattle.slate_follow.specs.Rebuilding.{TakesUnder, Truncates, answer_of, goes_on, reached, unleased}
use Rattle.slate_follow.specs.Takings.{GivesTaking, HasOwn, Taking, installed}
use Rattle.slate_follow.proofs.Above.{above-append, numbered-above}
use Rattle.slate_follow.proofs.Continued.{took-truncates}
use Rattle.slate_follow.proofs.Informed.{tabled-same}
use Rattle.slate_follow.proofs.Keeping.{replacement}
use Rattle.slate_follow.proofs.Leased.{written-form}
use Rattle.slate_follow.proofs.Later.{none-replayed}
use Rattle.slate_follow.proofs.Rebuilt.{if_some, some_at}

-- what is left of batches above a number, and of those after them
pub joined-after : (n : ℕ) (bs fresh left cut : List Batch) → left ≡ batches_above n bs → cut ≡ batches_above n fresh → left ++ cut ≡ batches_above n (bs ++ fresh)
joined-after n bs fresh left cut left_is cut_is =
    ap (λ xs. xs ++ cut) left_is ∙ (ap (λ xs. batches_above n bs ++ xs) cut_is ∙ sym (above-append n bs fresh))

-- it is numbered from there on, and ends where all do
pub after-numbers : (m n end : ℕ) (bs fresh left : List Batch) → AreNumberedFrom m bs → end ≡ m + length bs → AreNumberedFrom end fresh → m ≤ n → n ≤ end + length fresh → left ≡ batches_above n (bs ++ fresh) →
    AreNumberedFrom n left × (n + length left ≡ end + length fresh)
after-numbers m n end bs fresh left numbered end_is more low high left_is =
    let all = numbered-append m bs fresh numbered (subst (λ k. AreNumberedFrom k fresh) end_is more) in
    let lengths = length-append bs fresh in
    let are = numbered-above m n (bs ++ fresh) left all low (omega (arith, high, lengths, end_is)) left_is in
    let ends = are.1 in
    (are.0, omega (arith, ends, lengths, end_is))

-- the prefixes of what was taken are those of the reader that has it
pub has-own : (x : Option Extractor) (view : VersionedManifest) (old new : Follower) (taking : Taking) → new.view ≡ view → new.line ≡ taking.line → new.segments ≡ taking.segments → taking.line.floor ≡ view.manifest.last_l0_seq → HasOwn x taking → HasSegments x new
has-own x view old new taking view_is line_is segments_is floor own =
    segments_is ∙ (own ∙ ap (segments_of x)
    (ap (λ n. batches_above n taking.line.batches) (floor ∙ sym (ap (λ (v : VersionedManifest). v.manifest.last_l0_seq) view_is)) ∙ ap (λ (l : Line). batches_above new.view.manifest.last_l0_seq l.batches) (sym line_is)))

answers-at : (n : ℕ) (replayed : Replayed) → AnswersAt n (answer_of replayed n)
answers-at n replays.Whole = inl refl
answers-at n (replays.Truncated id) = inr refl

-- where log files break off, by the mark alone
marked : (o : Objects) (f new : Follower) (a : PollAnswer) → f.mark ≡ new.mark → Truncates o f a → Truncates o new a
marked o f new (answers.Whole at) same all = tt
marked o f new (answers.Truncated at) same all = record {
  id = all.id;
  from = all.from;
  last = all.last;
  number = all.number;
  end = all.end;
  truncated = all.truncated;
  before = sym same ∙ all.before;
}

-- it is open
module _ (view : VersionedManifest) (taking : Taking) (lease : Option Lease) (old new : Follower) (answer : PollAnswer) (becomes : new ≡ record (installed view taking old) { lease = lease }) (answers : answer ≡ answer_of taking.replayed (number new)) where
  pub has-open : old.mode ≡ ManagedCheckpoint → old.result ≡ None → IsOpenAt old.skips old.lag new answer
  has-open managed open_ = (
    ap (λ (f : Follower). f.mode) becomes ∙ managed,
    ap (λ (f : Follower). f.skips) becomes,
    ap (λ (f : Follower). f.lag) becomes,
    ap (λ (f : Follower). f.result) becomes ∙ open_,
    subst (AnswersAt (number new)) (sym answers) (answers-at (number new) taking.replayed),
  )

  pub has-segments : (x : Option Extractor) → taking.line.floor ≡ view.manifest.last_l0_seq → HasOwn x taking → HasSegments x new
  has-segments x floor own = has-own x view old new taking (ap (λ (f : Follower). f.view) becomes) (ap (λ (f : Follower). f.line) becomes) (ap (λ (f : Follower). f.segments) becomes) floor own

  -- where it was taken under a manifest, log files break off as the answer says
  pub has-truncated : (latest : VersionedManifest) (t : Option Objects) → IfSome t (λ o. GivesTaking (TakesUnder o latest old) latest old taking) → IfSome t (λ o. Truncates o new answer)
  has-truncated latest t gives = if_some t (λ o at.
      let takes = some_at (λ o. GivesTaking (TakesUnder o latest old) latest old taking) t o at gives in
      let under = unleased (installed latest taking old) in
      let here = took-truncates o latest old under (answer_of taking.replayed (number (installed latest taking old))) takes in
      let same : number (installed latest taking old) ≡ number new = sym (ap number becomes) in
      subst (Truncates o new) (ap (answer_of taking.replayed) same ∙ sym answers)
      (marked o under new (answer_of taking.replayed (number (installed latest taking old))) (sym (ap (λ (f : Follower). f.mark) becomes)) here))

-- where a new checkpoint was put with it
module _ (plan : Plan Lease) (taking : Taking) (old new : Follower) where
  pub replaced-open : old.mode ≡ ManagedCheckpoint → old.result ≡ None → (r : Result PollAnswer SlateError) → IfOk r (λ answer. Replaces plan taking old new answer) → IfOk r (λ answer. IsOpenAt old.skips old.lag new answer)
  replaced-open managed open_ (Err e) became = tt
  replaced-open managed open_ (Ok answer) (next, given, gives, becomes, answers) = has-open next taking (Some given) old new answer becomes answers managed open_

  pub replaced-truncates : (latest : VersionedManifest) (t : Option Objects) → IfSome t (λ o. GivesTaking (TakesUnder o latest old) latest old taking) → (r : Result PollAnswer SlateError) → IfOk r (λ answer. Replaces plan taking old new answer) → IfOk r (λ answer. IfSome t (λ o. Truncates o new answer))
  replaced-truncates latest t gives (Err e) became = tt
  replaced-truncates latest t gives (Ok answer) (next, given, puts, becomes, answers) = has-truncated next taking (Some given) old new answer becomes answers latest t gives

pub replaced-segments : (x : Option Extractor) (lease : Lease) (moment : ℤ) (latest : VersionedManifest) (taking : Taking) (old new : Follower) → taking.line.floor ≡ latest.manifest.last_l0_seq → HasOwn x taking → HasSegments x old → (r : Result PollAnswer SlateError) →
    IfOk r (λ answer. Replaces (replacement old.view latest lease moment) taking old new answer) → IfErr r (λ _. new ≡ record old { lease = new.lease }) → HasSegments x new
replaced-segments x lease moment latest taking old new floor own has (Err e) became failed = subst (HasSegments x) (sym failed) has
replaced-segments x lease moment latest taking old new floor own has (Ok answer) (next, given, gives, becomes, answers) failed =
    let form = written-form latest lease.lifetime moment next given (Some lease.id) gives in
    let tables : next.manifest.last_l0_seq ≡ latest.manifest.last_l0_seq = ap (λ (v : VersionedManifest). v.manifest.last_l0_seq) form.1 in
    has-segments next taking (Some given) old new answer becomes answers x (floor ∙ sym tables) own

-- ---- a reader under a latest manifest that doesn't differ from its view
-- it goes on, unless it skips log files
pub goes-same : (old : Follower) (latest : VersionedManifest) → old.line.floor ≡ old.view.manifest.last_l0_seq → differs old.view latest ≡ false → (s : Bool) → old.skips ≡ s → goes_on old latest ≡ not s
goes-same old latest floor same true is = ap (λ s. not s && (nat_le old.view.manifest.last_l0_seq latest.manifest.last_l0_seq && nat_le latest.manifest.last_l0_seq (number old))) is
goes-same old latest floor same false is =
    let at = tabled-same old.view latest same in
    let first = le-leb old.view.manifest.last_l0_seq latest.manifest.last_l0_seq (omega (arith, at)) in
    let second = le-leb latest.manifest.last_l0_seq (number old) (omega (arith, at, floor)) in
    rw (is, first, second) refl

-- one that skips them reads none
pub skipped-last : (old : Follower) (latest : VersionedManifest) (o : Objects) (last : ℕ) → old.skips ≡ true → IsLastRead old latest o last → last ≡ latest.manifest.replay_after_wal_id
skipped-last old latest o last skips (inl (is, at)) = at
skipped-last old latest o last skips (inr (reads, rest)) = absurd (cc)

-- ---- what was taken under a latest manifest that doesn't differ from the view is what is new
module _ (o : Objects) (latest : VersionedManifest) (old : Follower) (taking : Taking) (open_ : old.result ≡ None) (tasks : old.tasks ≡ follower_tasks old.mode) (floor : old.line.floor ≡ old.view.manifest.last_l0_seq)
    (same : differs old.view latest ≡ false) (new : Follower) (becomes : new ≡ record (installed old.view taking old) { lease = new.lease }) (answer : PollAnswer) (answers : answer ≡ answer_of taking.replayed (number new)) where
  abbrev pub HasNews : Type 0
  HasNews =
      (added : List Batch) × (found : Replayed) × IsNews o old latest old.skips added found taking.mark × (answer ≡ answer_of found (number new))
      × (unsegmented new ≡ record (informed old old.skips added taking.mark) { lease = new.lease })

  tabled : old.view.manifest.last_l0_seq ≡ latest.manifest.last_l0_seq
  tabled = tabled-same old.view latest same

  plain : (line : Line) (mark : ℕ) → record old { line = line; segments = []; mark = mark; lease = new.lease } ≡ record (rebuilt old.mode old.skips old.lag old.view line mark) { lease = new.lease }
  plain line mark =
      ap (λ t. record old { line = line; segments = []; mark = mark; lease = new.lease; tasks = t }) tasks
      ∙ ap (λ r. record old { line = line; segments = []; mark = mark; lease = new.lease; tasks = follower_tasks old.mode; result = r }) open_

  bare : (line : Line) → taking.line ≡ line → unsegmented new ≡ record (rebuilt old.mode old.skips old.lag old.view line taking.mark) { lease = new.lease }
  bare line is =
      ap unsegmented becomes ∙ (ap (λ l. record old { line = l; segments = []; mark = taking.mark; lease = new.lease }) is ∙ plain line taking.mark)

  counted : (a : Replayed) → answer_of taking.replayed (number (installed latest taking old)) ≡ answer_of a (number (unleased (installed latest taking old))) → answer ≡ answer_of a (number new)
  counted a is = answers ∙ (ap (answer_of taking.replayed) (ap number becomes) ∙ (is ∙ ap (answer_of a) (sym (ap number becomes))))

  pub has-news : GivesTaking (TakesUnder o latest old) latest old taking → HasNews
  has-news (inl (reads, reaches, last, last_is, goes)) =
      let mark = ap (λ (f : Follower). f.mark) goes.becomes in
      let here : taking.line ≡ line_of old.view.manifest.last_l0_seq (batches_above old.view.manifest.last_l0_seq (old.line.batches ++ goes.added)) =
      ap (λ (f : Follower). f.line) goes.becomes ∙ ap (λ n. line_of n (batches_above n (old.line.batches ++ goes.added))) (sym tabled) in (
        goes.added,
        goes.found,
        subst (λ s. IsNews o old latest s goes.added goes.found taking.mark) (sym reads) (last, last_is, goes.logs, mark),
        counted goes.found goes.answers,
        subst (λ s. unsegmented new ≡ record (informed old s goes.added taking.mark) { lease = new.lease }) (sym reads) (bare _ here),
      )
  has-news (inr (not_on, last, read, builds)) = by old.skips refl where
    by : (s : Bool) → old.skips ≡ s → HasNews
    by false reads = (let goes = goes-same old latest floor same false reads in absurd (cc))
    by true skips =
        let m = latest.manifest.replay_after_wal_id in
        let at = skipped-last old latest o last skips read in
        let none = none-replayed m latest.manifest.last_l0_seq o builds.batches builds.found (subst (λ k. Replays m k latest.manifest.last_l0_seq [] builds.batches o (Ok builds.found)) at builds.logs) in
        let line : taking.line ≡ line_of old.view.manifest.last_l0_seq [] =
        ap (λ (f : Follower). f.line) builds.becomes ∙ (ap (line_of latest.manifest.last_l0_seq) none.0 ∙ ap (λ n. line_of n []) (sym tabled)) in
        let mark : taking.mark ≡ m = ap (λ (f : Follower). f.mark) builds.becomes ∙ (ap (λ f. reached f last) none.1 ∙ at) in (
          [],
          replays.Whole,
          subst (λ s. IsNews o old latest s [] replays.Whole taking.mark) (sym skips) (refl, refl, mark),
          counted builds.found builds.answers ∙ ap (λ f. answer_of f (number new)) none.1,
          subst (λ s. unsegmented new ≡ record (informed old s [] taking.mark) { lease = new.lease }) (sym skips) (bare _ line),
        )
