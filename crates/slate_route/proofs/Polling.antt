-- A poll of one reader of a router, and a read and an opening of one, are steps of the world to which they belong.
use Rattle.std.proofs.Common.{◌≡◌, ◌≢◌, ◌∙◌, inl, inr, ℕ, ℤ, true, false, List, map, set, Option, Some, None, Result, Ok, Err, refl, sym, subst, ap, arith}
use Rattle.std.specs.List.{slice_get}
use Rattle.std.specs.Option.{is_some, option_map, unwrap_or}
use Rattle.std.specs.Prelude.{IfOk}
use Rattle.std.proofs.lemmas.Bool.{cases_eq}
use Rattle.std.proofs.lemmas.List.{length-set}
use Rattle.slate_types.specs.declared.batches.Batch.{Batch}
use Rattle.slate_types.specs.Counts.{HasRisen}
use Rattle.slate_types.specs.Line.{IsPrefix, end}
use Rattle.slate_types.specs.Operator.{Merge}
use Rattle.slate_store.specs.Content.{content}
use Rattle.slate_store.specs.Objects.{Objects}
use Rattle.slate_store.specs.declared.objects.VersionedManifest.{VersionedManifest}
use Rattle.slate_store.specs.declared.reader_modes.DbReaderMode.TheVariants.{ManagedCheckpoint}
use Rattle.slate_errors.specs.declared.errors.SlateError.{SlateError}
use Rattle.slate_errors.specs.declared.errors.SlateError.TheVariants as errors
use Rattle.slate_model.specs.declared.answers.PollAnswer.{PollAnswer}
use Rattle.slate_model.specs.declared.answers.PollAnswer.TheVariants as answers
use Rattle.slate_model.specs.declared.leases.Lease.{Lease}
use Rattle.slate_model.specs.Follow.{AnswersAt, IsOwed, SeesPolled}
use Rattle.slate_model.specs.Follower.{Follower, is_managed, kept_follower, number}
use Rattle.slate_model.specs.Known.{IsContent, Known}
use Rattle.slate_model.specs.Managed.{KeepsLease, PollsLeased, PollsManaged, follower_under}
use Rattle.slate_model.specs.Object.{Object, Follower as AFollower, Handle as AHandle, Snapshot as ASnapshot, kept}
use Rattle.slate_model.specs.Stores.{by_objects, kept_seen}
use Rattle.slate_script.specs.declared.commands.Action.TheVariants as actions
use Rattle.slate_script.specs.declared.commands.Command.{Command}
use Rattle.slate_script.specs.declared.replies.Reply.{Reply}
use Rattle.slate_live.specs.Calls.{Poll}
use Rattle.slate_live.specs.Followers.{PollsAs}
use Rattle.slate_live.specs.Replies.{polled_reply, refusal, reply_to}
use Rattle.slate_live.specs.Represents.{AllInSegments, Represents, RepresentsObjects}
use Rattle.slate_live.specs.Rising.{Rises}
use Rattle.slate_live.specs.Settings.{Settings}
use Rattle.slate_live.specs.State.{Live, running}
use Rattle.slate_live.specs.Valid.{AtObject, CanAsk, CanAskFollower, CanAskSnapshot, CanPoll, IsOkOrNoMemory, Link}
use Rattle.slate_live.specs.World.{World}
use Rattle.slate_live.specs.Worlds.{IsFollowerAt}
use Rattle.slate_live.proofs.Begun.{are-same_named}
use Rattle.slate_live.proofs.Doing.{acts_on}
use Rattle.slate_live.proofs.Linking.{linked}
use Rattle.slate_live.proofs.Places.{get-map, get-set_other, get-set_same}
use Rattle.slate_live.proofs.Rising.{managed-free, managed-mode}
use Rattle.slate_live.proofs.Wholes.{next-whole}
use Rattle.slate_route.specs.Standing.{AreAt, IsRouted, LeavesOthers, RoutesOver, command_at, routing}

-- ---- readers at their places
-- the reader of a world of which a live object is what is kept
pub record WholeAt (xs : List Object) (n : ℕ) (f : Follower) : Type 0 where
  pub whole : Follower
  pub at : IsFollowerAt xs n whole
  pub kept : kept_follower whole ≡ f

pub whole-at : (xs : List Object) (n : ℕ) (f : Follower) → slice_get (map kept xs) n ≡ Some (AFollower f) → WholeAt xs n f
whole-at xs n f at = by (slice_get xs n) refl (sym (get-map kept xs n) ∙ at) where
  by : (o : Option Object) → slice_get xs n ≡ o → option_map kept o ≡ Some (AFollower f) → WholeAt xs n f
  by None is same = absurd (cc)
  by (Some (AFollower g)) is same = record { whole = g; at = is; kept = cc }
  by (Some (AHandle h)) is same = absurd (cc)
  by (Some (ASnapshot s)) is same = absurd (cc)

-- one reader is another
module _ (objects : List Object) (places : List ℕ) (readers : List Follower) (a : AreAt objects places readers) (i n : ℕ) (named : slice_get places i ≡ Some n) (reader left : Follower) (there : slice_get readers i ≡ Some reader) (managed : IsRouted left) where
  pub object-there : slice_get objects n ≡ Some (AFollower reader)
  object-there = a.there i n reader named there

  pub are-set : AreAt (set objects n (AFollower left)) places (set readers i left)
  are-set = record {
    count = a.count ∙ sym (length-set readers i left);
    there = λ j m f at_j is. elim (cases_eq j i) [
      | inl same ↦
          let here : slice_get places i ≡ Some m = subst (λ k. slice_get places k ≡ Some m) same at_j in
          let one : n ≡ m = (let p = named in cc) in
          let mine : slice_get (set readers i left) i ≡ Some f = subst (λ k. slice_get (set readers i left) k ≡ Some f) same is in
          let it : left ≡ f = (let p = get-set_same readers i left reader there in cc) in
          subst (λ k. slice_get (set objects n (AFollower left)) k ≡ Some (AFollower f)) one (get-set_same objects n (AFollower left) (AFollower reader) object-there ∙ ap (λ (g : Follower). Some (AFollower g)) it)
      | inr other ↦
          let apart : m ≢ n = λ same. other (a.distinct j i n (at_j ∙ ap Some same) named) in
          let was : slice_get readers j ≡ Some f = sym (get-set_other readers i j left other) ∙ is in
          get-set_other objects n m (AFollower left) apart ∙ a.there j m f at_j was
    ];
    distinct = a.distinct;
    managed = λ j f is. elim (cases_eq j i) [
      | inl same ↦
          let mine : slice_get (set readers i left) i ≡ Some f = subst (λ k. slice_get (set readers i left) k ≡ Some f) same is in
          let it : left ≡ f = (let p = get-set_same readers i left reader there in cc) in
          subst IsRouted it managed
      | inr other ↦ a.managed j f (sym (get-set_other readers i j left other) ∙ is)
    ];
  }

-- ---- what a poll of a reader that keeps a checkpoint leaves of it over an honest store
module _ (live : Live) (store store' : Known (List Batch)) (w : World) (r : RepresentsObjects live store w) (n : ℕ) (reader : Follower) (whole : WholeAt w.objects n reader) (managed : is_managed reader.mode ≡ true) (reads : reader.skips ≡ false) (lags : reader.lag ≡ 0) (opened : reader.result ≡ None) (made : ℕ) (moment : ℤ) (answer : PollAnswer) (left : Follower) where
  abbrev o : Objects
  o = (r.held).0

  whole-managed : is_managed (whole.whole).mode ≡ true
  whole-managed = ap (λ (f : Follower). is_managed f.mode) whole.kept ∙ managed

  prefix-of : IsPrefix (whole.whole).line (content o)
  prefix-of = subst (IsPrefix (whole.whole).line) (sym ((r.held).3).stored) (r.valid.followers n whole.whole whole.at).0

  -- one that may not lag sees all that is stored
  seen-end : (o' : Objects) (latest : VersionedManifest) (said : PollAnswer) (middle : Follower) → AnswersAt (number middle) said → SeesPolled (by_objects store.objects) reader o' (content o) (follower_under latest middle) said → number middle ≡ end w.stored
  seen-end o' latest said middle at (inl (all, catches)) =
      let by_mode = subst (λ m. IsOwed (by_objects store.objects) m reader.skips o' latest (content o) all.0) (managed-mode reader.mode managed) all.1 in
      let owed : all.0 ≡ content o = subst (λ s. IsOwed (by_objects store.objects) ManagedCheckpoint s o' latest (content o) all.0) reads by_mode in
      answered at all.3 ∙ (ap end owed ∙ ap end ((r.held).3).stored)
    where
      answered : {m : ℕ} → AnswersAt (number middle) said → said ≡ answers.Whole m → number middle ≡ m
      answered (inl is) all = cc
      answered (inr is) all = absurd (cc)
  seen-end o' latest said middle at (inr stays) = absurd (let may = stays.may in omega (arith, may, lags))

  -- a round of one that answers leaves the reader open, and it sees all that is stored
  round-end : (first : ℕ) (lease : Lease) (said : PollAnswer) (middle : Follower) (between : Known (List Batch)) → KeepsLease (by_objects store.objects) None first lease moment reader store (Ok said) middle between →
      (middle.result ≡ None) × (number middle ≡ end w.stored)
  round-end first lease said middle between k =
      let t = (k.keeps).some o (r.held).1 in
      let line = content o in
      let seen : kept_seen reader o line = (whole.whole, sym whole.kept, prefix-of, (((r.held).4 n (AFollower whole.whole) whole.at).1 (managed-free (whole.whole).mode whole-managed))) in
      let stored : IsContent store.objects line = (o, (r.held).1, (r.held).2, refl) in
      let all = ((t.2).sees).sees line stored seen in
      ((k.answers).3, seen-end t.0 (unwrap_or (t.2).next (t.2).latest) said middle (k.answers).4 all)

  -- A managed poll is looked at here alone: once it answers, the reader is open and sees all that is stored.
  pub polled-end : PollsManaged (by_objects store.objects) None made moment reader store (Ok answer) left store' → (left.result ≡ None) × (number left ≡ end w.stored)
  polled-end polls = by reader.lease refl where
    is-leased : (lease : Option Lease) → reader.lease ≡ lease → is_some lease ≡ true
    is-leased lease is = sym (ap (λ (l : Option Lease). is_some l) is) ∙ (sym (ap (λ (f : Follower). is_some f.lease) whole.kept) ∙ ((r.valid.followers n whole.whole whole.at).2 whole-managed (ap (λ (f : Follower). f.result) whole.kept ∙ opened)))

    by-rounds : (lease : Lease) → PollsLeased (by_objects store.objects) None made lease moment reader store (Ok answer) left store' → (left.result ≡ None) × (number left ≡ end w.stored)
    by-rounds lease (inl once) = round-end made lease answer left store' once.round
    by-rounds lease (inr twice) = subst (λ (f : Follower). (f.result ≡ None) × (number f ≡ end w.stored)) (sym (twice.answers).1) (round-end twice.first lease twice.answer twice.middle twice.between twice.round)

    by : (lease : Option Lease) → reader.lease ≡ lease → (left.result ≡ None) × (number left ≡ end w.stored)
    by None is = absurd (let no = is-leased None is in cc)
    by (Some lease) is = by-rounds lease (polls.keeps lease opened is)

-- ---- the poll as a command's step
refused-memory : (error : SlateError) → IsOkOrNoMemory (refusal error) → error ≡ errors.NoMemory
refused-memory errors.NoMemory answered = refl
refused-memory (errors.Backpressure unflushed limit) answered = absurd answered
refused-memory error answered = absurd answered

-- what a step leaves of readers and of the world
pub record TurnLeads (settings : Settings) (live : Live) (places : List ℕ) (readers : List Follower) (w : World) (moment : ℤ) (n : ℕ) (result : Result PollAnswer SlateError) (left : Follower) (store' : Known (List Batch)) : Type 0 where
  pub next : Live
  pub world : World
  pub link : Link settings w (command_at moment (actions.Poll n)) (reply_to polled_reply result) world
  pub over : RoutesOver next store' places readers world
  pub stored : world.stored ≡ w.stored
  pub others : LeavesOthers places live next
  pub ok : IfOk result (λ _. (left.result ≡ None) × (number left ≡ end w.stored))
  pub fails : (error : SlateError) → result ≡ Err error → (HasRisen w.faults world.faults → ⊥) → ((f : Follower) → IsFollowerAt w.objects n f → CanPoll w moment f) → error ≡ errors.NoMemory

module _ (merge : Option Merge) (base live : Live) (same : live.options ≡ base.options) (store store' : Known (List Batch)) (places : List ℕ) (readers : List Follower) (w : World) (over : RoutesOver live store places readers w)
    (i n : ℕ) (named : slice_get places i ≡ Some n) (reader left : Follower) (there : slice_get readers i ≡ Some reader) (opened : reader.result ≡ None) (made : ℕ) (moment : ℤ) (result : Result PollAnswer SlateError)
    (polls : PollsManaged (by_objects store.objects) None made moment reader store result left store') where
  abbrev settings : Settings
  settings = routing merge base

  abbrev command : Command
  command = command_at moment (actions.Poll n)

  abbrev reply : Reply
  reply = reply_to polled_reply result

  abbrev next : Live
  next = record live { objects = set live.objects n (AFollower left) }

  managed : IsRouted reader
  managed = (over.are_at).managed i reader there

  object : slice_get live.objects n ≡ Some (AFollower reader)
  object = (over.are_at).there i n reader named there

  whole : WholeAt w.objects n reader
  whole = whole-at w.objects n reader (subst (λ os. slice_get os n ≡ Some (AFollower reader)) ((over.represents).represents).objects object)

  polls-as : PollsAs (by_objects store.objects) None (is_managed reader.mode) made moment reader store result left store'
  polls-as = subst (λ m. PollsAs (by_objects store.objects) None m made moment reader store result left store') (sym managed.0) polls

  led : (w' : World) × Link settings w command reply w' × Represents next store' w' × AllInSegments None w'
  led =
      linked settings command live next store store' reply same (
        (made, acts_on (by_objects store.objects) settings n command Poll made (slice_get live.objects n) (running live store) reply (running next store') (AFollower reader) (AFollower left) object (record { result = result; replied = refl; does = polls-as }, refl) refl),
        are-same_named command.action n live.polls refl (λ b. over.unbegun i n b named),
      )
      (λ m f begins. absurd (let no = begins in cc)) w over.represents over.segments

  kept-left : WholeAt (led.0).objects n left
  kept-left = whole-at (led.0).objects n left (subst (λ os. slice_get os n ≡ Some (AFollower left)) ((led.2).represents).objects (get-set_same live.objects n (AFollower left) (AFollower reader) object))

  still-managed : IsRouted left
  still-managed = by rise.0 rise.1 rise.2 where
    rise : (new : Object) × (slice_get (led.0).objects n ≡ Some new) × Rises (AFollower whole.whole) new
    rise = (led.1).rises n (AFollower whole.whole) whole.at

    by : (new : Object) → slice_get (led.0).objects n ≡ Some new → Rises (AFollower whole.whole) new → IsRouted left
    by (AFollower g) at rises =
        let it : g ≡ kept-left.whole = (let p = kept-left.at in cc) in
        let f : kept_follower g ≡ left = ap kept_follower it ∙ kept-left.kept in (
          ap (λ (x : Follower). is_managed x.mode) (sym f) ∙ (ap is_managed rises.mode ∙ (ap (λ (x : Follower). is_managed x.mode) whole.kept ∙ managed.0)),
          ap (λ (x : Follower). x.skips) (sym f) ∙ (rises.skips ∙ (ap (λ (x : Follower). x.skips) whole.kept ∙ managed.1)),
          ap (λ (x : Follower). x.lag) (sym f) ∙ (rises.lag ∙ (ap (λ (x : Follower). x.lag) whole.kept ∙ managed.2)),
        )
    by (AHandle h) at rises = absurd rises
    by (ASnapshot s) at rises = absurd rises

  can-poll : ((f : Follower) → IsFollowerAt w.objects n f → CanPoll w moment f) → (HasRisen w.faults (led.0).faults → ⊥) → IsOkOrNoMemory reply
  can-poll can none =
      (led.1).completes (subst (λ x. AtObject x (CanAsk settings w moment None Poll) (CanAskSnapshot settings w moment None Poll) (CanAskFollower settings w moment Poll)) (sym whole.at) (ap (λ (f : Follower). f.result) whole.kept ∙ opened, can whole.whole whole.at)) none

  ended : (r : Result PollAnswer SlateError) → result ≡ r → IfOk r (λ _. (left.result ≡ None) × (number left ≡ end w.stored))
  ended (Ok answer) is =
      polled-end live store store' w (over.represents).represents n reader whole managed.0 managed.1 managed.2 opened made moment answer left
      (subst (λ (r : Result PollAnswer SlateError). PollsManaged (by_objects store.objects) None made moment reader store r left store') is polls)
  ended (Err error) is = tt

  pub turn-leads : TurnLeads settings live places (set readers i left) w moment n result left store'
  turn-leads = record {
    next = next;
    world = led.0;
    link = led.1;
    over = record {
      represents = led.2;
      segments = led.3;
      are_at = are-set live.objects places readers over.are_at i n named reader left there still-managed;
      unbegun = over.unbegun;
    };
    stored = (next-whole settings w command reply led.0 refl (led.1).next).stored;
    others = record {
      options = refl;
      writes = refl;
      polls = refl;
      count = length-set live.objects n (AFollower left);
      objects = λ m apart. get-set_other live.objects n m (AFollower left) (λ is. apart i (named ∙ ap Some (sym is)));
    };
    ok = ended result refl;
    fails = λ error is none can. refused-memory error (subst (λ (r : Result PollAnswer SlateError). IsOkOrNoMemory (reply_to polled_reply r)) is (can-poll can none));
  }
