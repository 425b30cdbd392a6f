-- What no command takes back of an object.
use Rattle.std.proofs.Common.{◌≡◌, ◌≤◌, inl, inr, ℕ, ℤ, Bool, true, false, List, ◌++◌, set, Option, Some, None, Result, Ok, Err, refl, sym, subst, ap, ◌∙◌, arith, if◌then◌else◌}
use Rattle.std.specs.List.{slice_get}
use Rattle.std.specs.Option.{unwrap_or}
use Rattle.std.specs.Result.{IfErr}
use Rattle.std.specs.Prelude.{int_lt, pos, negsuc}
use Rattle.std.proofs.lemmas.Bool.{cases_eq, le-ltb}
use Rattle.slate_types.specs.declared.batches.KeyOp.{KeyOp}
use Rattle.slate_types.specs.Line.{Line}
use Rattle.slate_types.specs.Operator.{Merge}
use Rattle.slate_errors.specs.declared.endings.TaskName.{TaskName}
use Rattle.slate_model.specs.Segments.{Extractor}
use Rattle.slate_errors.specs.declared.errors.SlateError.{SlateError}
use Rattle.slate_errors.specs.declared.errors.SlateError.TheVariants as errors
use Rattle.slate_errors.specs.Errors.{closed_error}
use Rattle.slate_model.specs.Catalogue.{Catalogue, Span}
use Rattle.slate_model.specs.Close.{closed, closed_follower, without_tasks}
use Rattle.slate_model.specs.declared.answers.PollAnswer.{PollAnswer}
use Rattle.slate_model.specs.declared.answers.Written.{Written}
use Rattle.slate_model.specs.Flush.{DurableAfter, IsFlushed}
use Rattle.slate_model.specs.Follow.{Polls}
use Rattle.slate_model.specs.Follower.{Follower, is_managed, is_pinned, number}
use Rattle.slate_model.specs.Handle.{CloseResult, Handle, accepted}
use Rattle.slate_model.specs.Knowledge.{Knowledge}
use Rattle.slate_model.specs.Known.{Known, Untouched}
use Rattle.slate_model.specs.Lease.{to_keep}
use Rattle.slate_model.specs.Managed.{KeepsLease, PollsManaged, PollsTwice, follower_under, poll_result}
use Rattle.slate_model.specs.declared.leases.Lease.{Lease}
use Rattle.slate_model.proofs.Leased.{its-manifest}
use Rattle.slate_model.proofs.Owing.{latest-view}
use Rattle.slate_model.proofs.Planned.{keep-recheckpoints}
use Rattle.slate_store.specs.declared.objects.Manifest.{Manifest}
use Rattle.slate_store.specs.declared.reader_modes.DbReaderMode.{DbReaderMode}
use Rattle.slate_store.specs.declared.reader_modes.DbReaderMode.TheVariants as modes
use Rattle.slate_errors.specs.declared.endings.Ended.{Ended}
use Rattle.slate_model.specs.declared.snapshots.HandleSnapshot.{HandleSnapshot}
use Rattle.slate_model.specs.Object.{Object, Handle as AHandle, Snapshot as ASnapshot, Follower as AFollower}
use Rattle.slate_model.specs.Stores.{by_catalogue}
use Rattle.slate_model.specs.Write.{Writes, accepted_moment}
use Rattle.slate_script.specs.declared.commands.Command.{Command}
use Rattle.slate_script.specs.declared.replies.Reply.{Reply}
use Rattle.slate_live.specs.declared.states.Write.{Write}
use Rattle.slate_live.proofs.Naming.{follower-did, handle-acted}
use Rattle.slate_live.specs.Calls.{Call, Write as WriteCall, Merge as MergeCall, Flush, Refresh, Compact, Get, Scan, Seek, Close, Poll, Status, FindTime, FindNumber, Nothing, call_of, at_snapshot, target_of}
use Rattle.slate_live.specs.declared.targets.Target.{Target}
use Rattle.slate_live.specs.declared.targets.Target.TheVariants.{NewHandle, NewSnapshot, NewFollower, NewCheckpoint, WholeStore, OfWrite, OfObject}
use Rattle.slate_live.specs.Commands.{ActsAt, ActsOn, DoesBy, OnlyAnswers, OpensSnapshot, ReadsSnapshot}
use Rattle.slate_live.specs.Followers.{ClosesAs, FollowerActs, PollsAs}
use Rattle.slate_live.specs.Handles.{HandleActs, MergesTo}
use Rattle.slate_live.specs.Represents.{IsValidFollower, IsValid}
use Rattle.slate_live.specs.Rising.{FollowerRises, HandleRises, Rise, Rises, StaysClosed}
use Rattle.slate_live.specs.Settings.{Settings}
use Rattle.slate_live.specs.State.{State}
use Rattle.slate_live.specs.World.{World, NextWhole, state_of}
use Rattle.slate_live.proofs.Following.{polled-above}
use Rattle.slate_live.proofs.Cases.{by-option, close-by, compact-by, flush-by, is-none, refresh-by, some-of}
use Rattle.slate_live.proofs.Places.{get-before, get-set_other, get-set_same}
use Rattle.slate_live.proofs.Prefixes.{prefix-same}

not-below : (t : ℤ) → int_lt t t ≡ false
not-below (pos n) = le-ltb n n (omega arith)
not-below (negsuc n) = le-ltb n n (omega arith)

stays : (r : CloseResult) → StaysClosed r r
stays None = tt
stays (Some q) = refl

rises-same : (h h' : Handle) → h' ≡ h → HandleRises h h'
rises-same h h' same = subst (HandleRises h) (sym same) (record { line = prefix-same h.line; durable = omega arith; tick = not-below h.tick; epoch = refl; result = stays h.result })

-- the moment of an accepted write isn't below the tick
chosen : (b : Bool) (m at : ℤ) → (if b then None else Some m) ≡ Some at → (b ≡ false) × (m ≡ at)
chosen true m at is = absurd (cc)
chosen false m at is = (refl, let e : m ≡ at = cc in e)

accepted-second : (b : Bool) (tick moment second at : ℤ) → int_lt moment tick ≡ b → (if b then (if int_lt second tick then None else Some second) else Some moment) ≡ Some at → int_lt at tick ≡ false
accepted-second true tick moment second at is h = let c = chosen (int_lt second tick) second at h in subst (λ x. int_lt x tick ≡ false) c.1 c.0
accepted-second false tick moment second at is h = let e : moment ≡ at = cc in subst (λ x. int_lt x tick ≡ false) e is

accepted-late : (tick moment : ℤ) (second : Option ℤ) (at : ℤ) → accepted_moment tick moment second ≡ Some at → int_lt at tick ≡ false
accepted-late tick moment None at h = let c = chosen (int_lt moment tick) moment at h in subst (λ x. int_lt x tick ≡ false) c.1 c.0
accepted-late tick moment (Some second) at h = accepted-second (int_lt moment tick) tick moment second at refl h

write-rises : (extractor : Option Extractor) (h h' : Handle) (ops : List KeyOp) (moment : ℤ) (second : Option ℤ) (r : Result Written SlateError) → Writes extractor h ops moment second r h' → HandleRises h h'
write-rises extractor h h' ops moment second (Ok w) s =
    subst (HandleRises h) (sym s.accepted.3) (record {
      line = (_, refl);
      durable = omega arith;
      tick = accepted-late h.tick moment second w.create_ts s.accepted.1;
      epoch = refl;
      result = stays h.result;
    })
write-rises extractor h h' ops moment second (Err e) s = rises-same h h' s.refused.1

-- the durable number of a flush doesn't fall
durable-rises : (stored : Bool) (h : Handle) (r : Result (Unit {0}) SlateError) (d : ℕ) → h.durable ≤ accepted h → DurableAfter stored h r d → h.durable ≤ d
durable-rises stored h (Ok x) d low a = subst (λ n. h.durable ≤ n) (sym a) low
durable-rises true h (Err errors.NoMemory) d low a = subst (λ n. h.durable ≤ n) (sym a) low
durable-rises false h (Err errors.NoMemory) d low a = subst (λ n. h.durable ≤ n) (sym a) (omega arith)
durable-rises stored h (Err e) d low (inl a) = subst (λ n. h.durable ≤ n) (sym a) (omega arith)
durable-rises stored h (Err e) d low (inr a) = subst (λ n. h.durable ≤ n) (sym a.1) low

flushed-rises : (made : ℕ) (r : Result (Unit {0}) SlateError) (result : CloseResult) (tasks : List TaskName) (h h' : Handle) → h.result ≡ None → h.durable ≤ accepted h → IsFlushed (λ x. x) made r result tasks h h' → HandleRises h h'
flushed-rises made r result tasks h h' live low f =
    subst (HandleRises h) (sym f.same) (record {
      line = prefix-same h.line;
      durable = durable-rises _ h r h'.durable low f.durable;
      tick = not-below h.tick;
      epoch = refl;
      result = is-none (λ q. result ≡ Some q) h.result live;
    })

-- a handle that only its view, the count of its tables and its result may leave otherwise
moved-rises : (h h' : Handle) (counter : ℕ) (result : CloseResult) → h.result ≡ None → h' ≡ record h { counter = counter; view = h'.view; result = result } → HandleRises h h'
moved-rises h h' counter result live same =
    subst (HandleRises h) (sym same) (record {
      line = prefix-same h.line;
      durable = omega arith;
      tick = not-below h.tick;
      epoch = refl;
      result = is-none (λ q. result ≡ Some q) h.result live;
    })

ended-rises : (h : Handle) → HandleRises h (without_tasks h)
ended-rises h = let r = rises-same h h refl in record { line = r.line; durable = r.durable; tick = r.tick; epoch = r.epoch; result = r.result }

closed-rises : (h g : Handle) → h.result ≡ None → HandleRises h g → HandleRises h (closed g)
closed-rises h g live r = record { line = r.line; durable = r.durable; tick = r.tick; epoch = r.epoch; result = is-none (λ q. Some (Ok tt) ≡ Some q) h.result live }

merge-rises : (merge : Option Merge) (extractor : Option Extractor) (n : ℕ) (op : KeyOp) (moment : ℤ) (second : Option ℤ) (h : Handle) (writes : List Write) (reply : Reply) (h' : Handle) (writes' : List Write) → MergesTo merge extractor n op moment second h writes reply h' writes' → HandleRises h h'
merge-rises None extractor n op moment second h writes reply h' writes' a = rises-same h h' a.1
merge-rises (Some merge) extractor n op moment second h writes reply h' writes' a = write-rises extractor h h' _ moment second a.result a.does

pub handle-rises : (stored : Line) (catalogue : Catalogue) (settings : Settings) (n : ℕ) (moment : ℤ) (second : Option ℤ) (call : Call) (made : ℕ) (h : Handle) (before : Known Span) (writes : List Write) (reply : Reply) (h' : Handle) (after : Known Span) (writes' : List Write) → h.durable ≤ accepted h → HandleActs (by_catalogue stored catalogue) settings n moment second call made h before writes reply h' after writes' → HandleRises h h'
handle-rises stored catalogue settings n moment second (WriteCall ops) made h before writes reply h' after writes' low a = write-rises settings.extractor h h' _ moment second (a.0).result (a.0).does
handle-rises stored catalogue settings n moment second (MergeCall op) made h before writes reply h' after writes' low a = merge-rises settings.merge settings.extractor n op moment second h writes reply h' writes' a.0
handle-rises stored catalogue settings n moment second (Flush t) made h before writes reply h' after writes' low a =
    flush-by (by_catalogue stored catalogue) made h before h' after (HandleRises h h') _ (a.0).result (a.0).does
    (λ q is error same store. rises-same h h' same)
    (λ live without error same store. rises-same h h' same)
    (λ can is stores. flushed-rises made _ _ _ h h' can.0 low is)
handle-rises stored catalogue settings n moment second (Close t) made h before writes reply h' after writes' low a =
    close-by (by_catalogue stored catalogue) made h before h' after (HandleRises h h') _ (a.0).ended (a.0).does
    (λ q is error same store. subst (HandleRises h) (sym same) (ended-rises h))
    (λ live none error is store. subst (HandleRises h) (sym is) (closed-rises h h live (rises-same h h refl)))
    (λ t live some without error is store. subst (HandleRises h) (sym is) (closed-rises h h live (rises-same h h refl)))
    (λ t can some tasks is stores. flushed-rises made _ _ _ h h' can.0 low is)
handle-rises stored catalogue settings n moment second Refresh made h before writes reply h' after writes' low a =
    refresh-by (by_catalogue stored catalogue) 0 h before h' after (HandleRises h h') (a.0).result (a.0).does
    (λ q is error same store. rises-same h h' same)
    (λ live reads. moved-rises h h' h.counter _ live reads.same)
handle-rises stored catalogue settings n moment second Compact made h before writes reply h' after writes' low a =
    compact-by (by_catalogue stored catalogue) made h before h' after (HandleRises h h') (a.0).result (a.0).does
    (λ q is error same store. rises-same h h' same)
    (λ live joins. moved-rises h h' h'.counter _ live joins.same)
handle-rises stored catalogue settings n moment second (Get key remote snapshot) made h before writes reply h' after writes' low a = rises-same h h' a.1
handle-rises stored catalogue settings n moment second (Scan range order remote snapshot) made h before writes reply h' after writes' low a = rises-same h h' a.1
handle-rises stored catalogue settings n moment second (Seek range take key order remote snapshot) made h before writes reply h' after writes' low a = rises-same h h' a.1
handle-rises stored catalogue settings n moment second Poll made h before writes reply h' after writes' low a = rises-same h h' a.1
handle-rises stored catalogue settings n moment second Status made h before writes reply h' after writes' low a = rises-same h h' a.1
handle-rises stored catalogue settings n moment second (FindTime number find) made h before writes reply h' after writes' low a = rises-same h h' a.1
handle-rises stored catalogue settings n moment second (FindNumber seconds find) made h before writes reply h' after writes' low a = rises-same h h' a.1
handle-rises stored catalogue settings n moment second Nothing made h before writes reply h' after writes' low a = rises-same h h' a.1

pub follower-same : (f f' : Follower) → f' ≡ f → FollowerRises f f'
follower-same f f' same = subst (FollowerRises f) (sym same) (record { mode = refl; skips = refl; lag = refl; number = omega arith; result = stays f.result })

-- what a poll leaves: the follower as it was, or one that sees what it is owed
polled-rises : (ext : Option Extractor) (stored : Line) (catalogue : Catalogue) (f f' : Follower) (before after : Known Span) (r : Result PollAnswer SlateError) → before.objects ≡ Some catalogue → IsValidFollower stored catalogue f → f.result ≡ None → (pinned : Bool) → is_pinned f.mode ≡ pinned → Polls (by_catalogue stored catalogue) ext f before r f' after → FollowerRises f f'
polled-rises ext stored catalogue f f' before after r at mine live true stays_at p = follower-same f f' (p.pinned live stays_at).1
polled-rises ext stored catalogue f f' before after (Err e) at mine live false free p = follower-same f f' p.failed
polled-rises ext stored catalogue f f' before after (Ok answer) at mine live false free p =
    let b = p.rebuilds live free in
    let all = b.sees catalogue stored at refl tt in
    let tabled : f.skips ≡ true → number f ≤ f'.view.manifest.last_l0_seq = λ few. mine.1 few free f'.view (latest-view f.mode false catalogue f'.view free (b.can catalogue at)) in
    record {
      mode = b.answer.0;
      skips = b.answer.1;
      lag = b.answer.2;
      number = polled-above stored catalogue catalogue f f' answer mine.0 free tabled all;
      result = is-none (λ q. f'.result ≡ Some q) f.result live;
    }

poll-same : {A : Type 0} (r : Result A SlateError) (e : SlateError) (P : SlateError → Type 0) → r ≡ Err e → IfErr r P → P e
poll-same {A} r e P is h = subst (λ x. IfErr x P) is h

poll-rises : (ext : Option Extractor) (stored : Line) (catalogue : Catalogue) (f f' : Follower) (before after : Known Span) (r : Result PollAnswer SlateError) → before.objects ≡ Some catalogue → IsValidFollower stored catalogue f → Polls (by_catalogue stored catalogue) ext f before r f' after → FollowerRises f f'
poll-rises ext stored catalogue f f' before after r at mine p =
    by-option f.result
    (λ live. polled-rises ext stored catalogue f f' before after r at mine live (is_pinned f.mode) refl p)
    (λ q is. let c = some-of (λ q. (r ≡ Err (closed_error q)) × (after ≡ before)) f.result q is p.closed in follower-same f f' (poll-same r _ (λ e. f' ≡ f) c.0 p.failed))

closed-follower-rises : (f : Follower) (r : CloseResult) → f.result ≡ r → FollowerRises f (closed_follower f)
closed-follower-rises f None is = record { mode = refl; skips = refl; lag = refl; number = omega arith; result = is-none (λ q. (closed_follower f).result ≡ Some q) f.result is }
closed-follower-rises f (Some q) is = record { mode = refl; skips = refl; lag = refl; number = omega arith; result = subst (λ x. StaysClosed x (Some (unwrap_or x (Ok tt)))) (sym is) refl }

pub managed-mode : (mode : DbReaderMode) → is_managed mode ≡ true → mode ≡ modes.ManagedCheckpoint
managed-mode (modes.Checkpoint id) managed = absurd (cc)
managed-mode modes.FollowLatest managed = absurd (cc)
managed-mode modes.ManagedCheckpoint managed = refl

pub managed-free : (mode : DbReaderMode) → is_managed mode ≡ true → is_pinned mode ≡ false
managed-free (modes.Checkpoint id) managed = absurd (cc)
managed-free modes.FollowLatest managed = refl
managed-free modes.ManagedCheckpoint managed = refl

module _ (ext : Option Extractor) (stored : Line) (catalogue : Catalogue) (made : ℕ) (moment : ℤ) (f f' : Follower) (before after : Known Span) (at : before.objects ≡ Some catalogue) (mine : IsValidFollower stored catalogue f) where
  -- what a poll leaves of one that keeps a checkpoint
  leased-rises : (lease : Lease) (r : Result PollAnswer SlateError) → is_managed f.mode ≡ true → f.result ≡ None → KeepsLease (by_catalogue stored catalogue) ext made lease moment f before r f' after → FollowerRises f f'
  leased-rises lease (Err e) managed live p = subst (FollowerRises f) (sym p.failed) (record { mode = refl; skips = refl; lag = refl; number = omega arith; result = is-none (λ q. poll_result e ≡ Some q) f.result live })
  leased-rises lease (Ok answer) managed live p =
      let t = (p.keeps).some catalogue at in
      let keeps = t.2 in
      let all = (keeps.sees).sees stored refl tt in
      let latest = unwrap_or keeps.next keeps.latest in
      let its = its-manifest keeps.latest keeps.next keeps.given (to_keep f.view lease moment keeps.latest) keeps.plan (keep-recheckpoints f.view lease moment keeps.latest) in
      let same = ap (λ (m : Manifest). m.last_l0_seq) its.1 in
      let tabled : f.skips ≡ true → number f ≤ latest.manifest.last_l0_seq = λ few. let low = mine.1 few (managed-free f.mode managed) keeps.latest keeps.is_latest in omega (arith, low, same) in
      record {
        mode = (p.answers).0 ∙ sym (managed-mode f.mode managed);
        skips = (p.answers).1;
        lag = (p.answers).2;
        number = polled-above stored catalogue t.0 f (follower_under latest f') answer mine.0 (managed-free f.mode managed) tabled all;
        result = is-none (λ q. f'.result ≡ Some q) f.result live;
      }

module _ (ext : Option Extractor) (stored : Line) (catalogue : Catalogue) (made : ℕ) (moment : ℤ) (f f' : Follower) (before after : Known Span) (at : before.objects ≡ Some catalogue) (mine : IsValidFollower stored catalogue f) where
  -- where a renewal follows the round
  twice-rises : (lease : Lease) (r : Result PollAnswer SlateError) → is_managed f.mode ≡ true → f.result ≡ None → PollsTwice (by_catalogue stored catalogue) ext made lease moment f before r f' after → FollowerRises f f'
  twice-rises lease (Ok answer) managed live p = subst (FollowerRises f) (sym (p.answers).1) (leased-rises ext stored catalogue p.first moment f p.middle before p.between at mine lease (Ok p.answer) managed live p.round)
  twice-rises lease (Err e) managed live p =
      let m = leased-rises ext stored catalogue p.first moment f p.middle before p.between at mine lease (Ok p.answer) managed live p.round in
      subst (FollowerRises f) (sym p.failed) (record { mode = m.mode; skips = m.skips; lag = m.lag; number = m.number; result = is-none (λ q. poll_result e ≡ Some q) f.result live })

  managed-rises : (r : Result PollAnswer SlateError) → is_managed f.mode ≡ true → PollsManaged (by_catalogue stored catalogue) ext made moment f before r f' after → FollowerRises f f'
  managed-rises r managed p =
      by-option f.result
      (λ live. by-option f.lease
      (λ none. absurd (let there = mine.2 managed live in cc))
      (λ lease is. elim (p.keeps lease live is) [
        | inl once ↦ leased-rises ext stored catalogue made moment f f' before after at mine lease r managed live once.round
        | inr twice ↦ twice-rises lease r managed live twice
      ]))
      (λ q is. follower-same f f' (some-of (λ q. (r ≡ Err (closed_error q)) × (f' ≡ f) × Untouched made before after) f.result q is p.closed).1)

  polls-rises : (r : Result PollAnswer SlateError) (managed : Bool) → is_managed f.mode ≡ managed → PollsAs (by_catalogue stored catalogue) ext managed made moment f before r f' after → FollowerRises f f'
  polls-rises r true is p = managed-rises r is p
  polls-rises r false is p = poll-rises ext stored catalogue f f' before after r at mine p.0

  closes-rises : (managed : Bool) (answer : Ended) → ClosesAs (by_catalogue stored catalogue) managed made f before answer f' after → FollowerRises f f'
  closes-rises true answer c = subst (FollowerRises f) (sym c.closed) (closed-follower-rises f f.result refl)
  closes-rises false answer c = subst (FollowerRises f) (sym c.1) (closed-follower-rises f f.result refl)

pub follower-rises : (stored : Line) (catalogue : Catalogue) (settings : Settings) (moment : ℤ) (call : Call) (made : ℕ) (f : Follower) (before : Known Span) (writes : List Write) (reply : Reply) (f' : Follower) (after : Known Span) (writes' : List Write) → before.objects ≡ Some catalogue → IsValidFollower stored catalogue f → FollowerActs (by_catalogue stored catalogue) settings moment call made f before writes reply f' after writes' → FollowerRises f f'
follower-rises stored catalogue settings moment Poll made f before writes reply f' after writes' at front a = polls-rises settings.extractor stored catalogue made moment f f' before after at front (a.0).result (is_managed f.mode) refl (a.0).does
follower-rises stored catalogue settings moment (Close t) made f before writes reply f' after writes' at front a = closes-rises settings.extractor stored catalogue made moment f f' before after at front (is_managed f.mode) (a.0).answer (a.0).does
follower-rises stored catalogue settings moment (Get key remote snapshot) made f before writes reply f' after writes' at front a = follower-same f f' a.1
follower-rises stored catalogue settings moment (Scan range order remote snapshot) made f before writes reply f' after writes' at front a = follower-same f f' a.1
follower-rises stored catalogue settings moment (Seek range take key order remote snapshot) made f before writes reply f' after writes' at front a = follower-same f f' a.1
follower-rises stored catalogue settings moment (WriteCall ops) made f before writes reply f' after writes' at front a = follower-same f f' a.1
follower-rises stored catalogue settings moment (MergeCall op) made f before writes reply f' after writes' at front a = follower-same f f' a.1
follower-rises stored catalogue settings moment (Flush t) made f before writes reply f' after writes' at front a = follower-same f f' a.1
follower-rises stored catalogue settings moment Refresh made f before writes reply f' after writes' at front a = follower-same f f' a.1
follower-rises stored catalogue settings moment Compact made f before writes reply f' after writes' at front a = follower-same f f' a.1
follower-rises stored catalogue settings moment Status made f before writes reply f' after writes' at front a = follower-same f f' a.1
follower-rises stored catalogue settings moment (FindTime number find) made f before writes reply f' after writes' at front a = follower-same f f' a.1
follower-rises stored catalogue settings moment (FindNumber seconds find) made f before writes reply f' after writes' at front a = follower-same f f' a.1
follower-rises stored catalogue settings moment Nothing made f before writes reply f' after writes' at front a = follower-same f f' a.1

rises-refl : (x : Object) → Rises x x
rises-refl (AHandle h) = rises-same h h refl
rises-refl (ASnapshot x) = refl
rises-refl (AFollower f) = follower-same f f refl

pub rise-same : (xs ys : List Object) → ys ≡ xs → Rise xs ys
rise-same xs ys same n old at = (old, subst (λ os. slice_get os n ≡ Some old) (sym same) at, rises-refl old)

rise-push : (xs ys zs : List Object) → ys ≡ xs ++ zs → Rise xs ys
rise-push xs ys zs is n old at = (old, subst (λ os. slice_get os n ≡ Some old) (sym is) (get-before xs zs n old at), rises-refl old)

pub rise-set : (xs ys : List Object) (m : ℕ) (x y : Object) → slice_get xs m ≡ Some x → Rises x y → ys ≡ set xs m y → Rise xs ys
rise-set xs ys m x y at rises is n old at_old =
    elim (cases_eq n m) [
      | inl same ↦
          (let here : slice_get xs m ≡ Some old = subst (λ k. slice_get xs k ≡ Some old) same at_old in
          let is_old : x ≡ old = cc in
          let there : slice_get (set xs m y) n ≡ Some y = subst (λ k. slice_get (set xs m y) k ≡ Some y) (sym same) (get-set_same xs m y x at) in
          (y, subst (λ os. slice_get os n ≡ Some y) (sym is) there, subst (λ z. Rises z y) is_old rises))
      | inr other ↦ (old, subst (λ os. slice_get os n ≡ Some old) (sym is) (get-set_other xs m n y other ∙ at_old), rises-refl old)
    ]

module _ (settings : Settings) (w : World) (valid : IsValid w) (command : Command) (made : ℕ) (reply : Reply) (s' : State Span) where
  abbrev k : Knowledge Span
  k = by_catalogue w.stored w.catalogue

  only-rises : (answer : Reply) → OnlyAnswers answer made (state_of w) reply s' → Rise w.objects s'.objects
  only-rises answer a = rise-same w.objects s'.objects (ap (λ (s : State Span). s.objects) a.2)

  handle-rise : (n : ℕ) (call : Call) (h : Handle) → slice_get w.objects n ≡ Some (AHandle h) → ActsAt k settings n command call made (AHandle h) (state_of w) reply s' → Rise w.objects s'.objects
  handle-rise n call h at a =
      let d = handle-acted k settings n command call made (state_of w) reply s' h a in
      rise-set w.objects s'.objects n (AHandle h) (AHandle d.new) at
      (handle-rises w.stored w.catalogue settings n command.moment command.second call made h _ w.writes reply d.new _ _ (valid.handles n h at).durable d.acts) d.objects

  snapshot-rises : (x : HandleSnapshot) (call : Call) (found : Option Object) → slice_get w.objects x.handle ≡ found → ReadsSnapshot k settings x command call made found (state_of w) reply s' → Rise w.objects s'.objects
  snapshot-rises x call (Some (AHandle h)) at a = handle-rise x.handle (at_snapshot x.number call) h at a
  snapshot-rises x call (Some (ASnapshot y)) at a = only-rises _ a
  snapshot-rises x call (Some (AFollower f)) at a = only-rises _ a
  snapshot-rises x call None at a = only-rises _ a

  on-rises : (n : ℕ) (call : Call) (found : Option Object) → slice_get w.objects n ≡ found → ActsOn k settings n command call made found (state_of w) reply s' → Rise w.objects s'.objects
  on-rises n call None at a = only-rises _ a
  on-rises n call (Some (AHandle h)) at a = handle-rise n call h at a
  on-rises n call (Some (ASnapshot x)) at a = snapshot-rises x call (slice_get w.objects x.handle) refl a
  on-rises n call (Some (AFollower f)) at a =
      let d = follower-did k settings n command call made (state_of w) reply s' (Some (AFollower f)) f refl a in
      rise-set w.objects s'.objects n (AFollower f) (AFollower d.new) at (follower-rises w.stored w.catalogue settings command.moment call made f _ w.writes reply d.new _ _ refl (valid.followers n f at) d.acts) d.objects

  opened-rises : (n : ℕ) (found : Option Object) → OpensSnapshot n made found (state_of w) reply s' → Rise w.objects s'.objects
  opened-rises n (Some (AHandle h)) d = rise-push w.objects s'.objects _ (d.0).objects
  opened-rises n (Some (ASnapshot x)) d = only-rises _ d
  opened-rises n (Some (AFollower f)) d = only-rises _ d
  opened-rises n None d = only-rises _ d

  does-rises : (target : Target) → DoesBy k settings command target made (state_of w) reply s' → Rise w.objects s'.objects
  does-rises (NewHandle keeps_log) d = rise-push w.objects s'.objects _ d.objects
  does-rises (NewSnapshot n) d = opened-rises n (slice_get w.objects n) d
  does-rises (NewFollower modes.FollowLatest managed skips lag) d = rise-push w.objects s'.objects _ (d.0).objects
  does-rises (NewFollower (modes.Checkpoint id) managed skips lag) d = rise-push w.objects s'.objects _ (d.0).objects
  does-rises (NewFollower modes.ManagedCheckpoint managed skips lag) d = rise-push w.objects s'.objects _ d.objects
  does-rises (NewCheckpoint lifetime) d = rise-same w.objects s'.objects d.objects
  does-rises WholeStore d = rise-same w.objects s'.objects d.objects
  does-rises (OfWrite n) d = rise-same w.objects s'.objects (ap (λ (s : State Span). s.objects) d.2)
  does-rises (OfObject n) d = on-rises n (call_of command.action) (slice_get w.objects n) refl d

-- whatever a command answers, no object goes back
pub rises : (settings : Settings) (w : World) (command : Command) (reply : Reply) (w' : World) → IsValid w → NextWhole settings w command reply w' → Rise w.objects w'.objects
rises settings w command reply w' valid next = does-rises settings w valid command next.made reply (state_of w') (target_of command.action) next.does
