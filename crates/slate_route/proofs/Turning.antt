-- The polls of a read, one after another.
use Rattle.std.proofs.Common.{◌≡◌, ◌≢◌, ◌∙◌, ◌+◌, ◌<◌, ◌≤◌, ◌⊎◌, ◌++◌, ◌∷◌, inl, inr, ℕ, zero, suc, ℤ, Bool, true, false, List, [], get_or, length, map, take, Option, Some, None, Result, Ok, Err, refl, sym, subst, ap, arith}
use Rattle.std.specs.Prelude.{IfErr, IfOk, IfSome, ◌&&◌, count_by, is_none, nat_le, slice_get}
use Rattle.std.specs.List.{list_any}
use Rattle.std.specs.Option.{option_map, option_or, unwrap_or}
use Rattle.std.specs.Result.{result_err}
use Rattle.std.proofs.lemmas.Bool.{cases_eq, leb-false}
use Rattle.std.proofs.lemmas.List.{length-set, map-append, take_all}
use Rattle.std.proofs.lemmas.Option.{slice_get_within, slice_get-get_or}
use Rattle.slate_types.specs.declared.batches.Batch.{Batch}
use Rattle.slate_types.specs.declared.store_errors.StoreFault.TheVariants.{NotFound, Unavailable}
use Rattle.slate_types.specs.Counts.{HasRisen}
use Rattle.slate_types.specs.Line.{end}
use Rattle.slate_types.specs.Operator.{Merge}
use Rattle.slate_errors.specs.declared.errors.SlateError.{SlateError}
use Rattle.slate_errors.specs.declared.errors.SlateError.TheVariants as errors
use Rattle.slate_store.specs.declared.reader_modes.DbReaderMode.TheVariants.{ManagedCheckpoint}
use Rattle.slate_model.specs.declared.answers.PollAnswer.{PollAnswer}
use Rattle.slate_model.specs.declared.answers.PollAnswer.TheVariants.{Truncated, Whole}
use Rattle.slate_model.specs.Follower.{Follower, number}
use Rattle.slate_model.specs.Known.{FaultsRise, Known}
use Rattle.slate_model.specs.Object.{Follower as AFollower}
use Rattle.slate_follow.specs.Answering.{IsOfPoll}
use Rattle.slate_script.specs.declared.commands.Command.{Command}
use Rattle.slate_live.specs.Replies.{polled_reply, refusal, reply_to}
use Rattle.slate_live.specs.Settings.{Settings}
use Rattle.slate_live.specs.State.{Live}
use Rattle.slate_live.specs.Steps.{Step, last_world}
use Rattle.slate_live.specs.World.{World}
use Rattle.slate_live.specs.Valid.{CanPoll}
use Rattle.slate_live.specs.Worlds.{IsFollowerAt}
use Rattle.slate_live.proofs.Cases.{if-some}
use Rattle.slate_live.proofs.Chains.{chain-push, last-push}
use Rattle.slate_live.proofs.Places.{get-set_other, get-set_same}
use Rattle.slate_route.specs.declared.answers.RouteRefusal.{RouteRefusal}
use Rattle.slate_route.specs.declared.answers.RouteRefusal.TheVariants as refusals
use Rattle.slate_route.specs.declared.routers.Covering.{Covering}
use Rattle.slate_route.specs.Reading.{FindsNone, GoesBy, IsBest, IsOpenOne, NoneCovers, StandsInRefusal, Stay, covers, first_covering, is_memory, is_open, of_open, passed_by}
use Rattle.slate_route.specs.Standing.{CanCover, PollEach, PollsLead, RoutesOver, first_error, poll_command, refused, routing}
use Rattle.slate_route.specs.Turns.{CoverLeads, PollsAt, PollsFor}
use Rattle.slate_route.proofs.Finding.{count-more, count-some, fails-at, first-at, none-at, open-more, open-same, some-pass}
use Rattle.slate_route.proofs.Passing.{SoFar, far-all, far-closed, far-next, far-none, or-none, or-or, polls-for}
use Rattle.slate_route.proofs.Polling.{TurnLeads, turn-leads, whole-at}

-- ---- one reader
pub open-none : (f : Follower) → is_open f ≡ true → f.result ≡ None
open-none f is = by f.result is where
  by : {A : Type 0} (r : Option A) → is_none r ≡ true → r ≡ None
  by None is = refl
  by (Some x) is = absurd (cc)

none-open : (f : Follower) → f.result ≡ None → is_open f ≡ true
none-open f none = ap is_none none

-- one that is open and doesn't cover sees less
sees-less : (at_least : ℕ) (f : Follower) → is_open f ≡ true → covers at_least f ≡ false → number f < at_least
sees-less at_least f opened uncovers = leb-false at_least (number f) (ap (λ b. b && nat_le at_least (number f)) (sym opened) ∙ uncovers)

not-memory : (error : SlateError) → error ≢ errors.NoMemory → is_memory error ≡ false
not-memory errors.NoMemory other = absurd (other refl)
not-memory error other = refl

-- one that doesn't cover doesn't after an error of its poll
still-uncovers : (at_least : ℕ) (f g : Follower) (error : SlateError) → error ≢ errors.NoMemory → covers at_least f ≡ false → (g ≡ f) ⊎ (is_open g ≡ is_memory error) → covers at_least g ≡ false
still-uncovers at_least f g error other uncovers (inl same) = ap (covers at_least) same ∙ uncovers
still-uncovers at_least f g error other uncovers (inr closed) = ap (λ b. b && nat_le at_least (number g)) (closed ∙ not-memory error other)

-- one that covers is open
pub covers-open : (at_least : ℕ) (f : Follower) → covers at_least f ≡ true → is_open f ≡ true
covers-open at_least f covering = by (is_open f) covering where
  by : (b : Bool) → (b && nat_le at_least (number f)) ≡ true → b ≡ true
  by true is = refl
  by false is = absurd (cc)

shut-covers : (at_least : ℕ) (f : Follower) → is_open f ≡ false → covers at_least f ≡ false
shut-covers at_least f shut = ap (λ b. b && nat_le at_least (number f)) shut

-- ---- errors of polls
-- a poll's error is refused as it is, and want of memory as no error
poll-refused : (error : SlateError) → IsOfPoll ManagedCheckpoint error → error ≢ errors.NoMemory → refused (refusal error) ≡ Some error
poll-refused errors.LatestTransactionalObjectVersionMissing kind other = refl
poll-refused errors.InvalidDBState kind other = refl
poll-refused (errors.TransactionalObjectTimeout tries) kind other = refl
poll-refused (errors.ObjectStoreError Unavailable) kind other = refl
poll-refused errors.NoMemory kind other = absurd (other refl)
poll-refused error kind other = absurd kind

memory-refused : refused (refusal errors.NoMemory) ≡ None
memory-refused = refl

answer-refused : (answer : PollAnswer) → refused (polled_reply answer) ≡ None
answer-refused (Whole at) = refl
answer-refused (Truncated at) = refl

-- a failure stays one while the store fails more
risen-more : (a b c : ℕ) → b ≤ c → HasRisen a b → HasRisen a c
risen-more a b c more (inl up) = inl (omega (arith, more, up))
risen-more a b c more (inr full) = inr (omega (arith, more, full))

pub risen-first : (a b c : ℕ) → a ≤ b → HasRisen b c → HasRisen a c
risen-first a b c more (inl up) = inl (omega (arith, more, up))
risen-first a b c more (inr full) = inr full

stands-more : (error : SlateError) (a b c : ℕ) → b ≤ c → StandsInRefusal error a b → StandsInRefusal error a c
stands-more errors.NoMemory a b c more stands = stands
stands-more (errors.ObjectStoreError Unavailable) a b c more stands = risen-more a b c more stands
stands-more (errors.ObjectStoreError NotFound) a b c more stands = tt
stands-more error a b c more stands = tt

pub stands-of : (error : SlateError) (a b c : ℕ) {A : Type 0} → error ≢ errors.NoMemory → a ≤ b → FaultsRise b c (let r : Result A SlateError = Err error in r) → StandsInRefusal error a c
stands-of errors.NoMemory a b c {A} other more faults = absurd (other refl)
stands-of (errors.ObjectStoreError Unavailable) a b c {A} other more faults = risen-first a b c more (faults.unavailable refl)
stands-of (errors.ObjectStoreError NotFound) a b c {A} other more faults = tt
stands-of error a b c {A} other more faults = tt

or-some : (o : Option SlateError) (error : SlateError) → option_or o (Some error) ≡ None → ⊥
or-some None error is = cc
or-some (Some x) error is = cc

-- the first error of more steps
error-push : (steps : List Step) (step : Step) → first_error (steps ++ step ∷ []) ≡ option_or (first_error steps) (refused step.reply)
error-push [] step = or-none (refused step.reply)
error-push (s ∷ steps) step = ap (option_or (refused s.reply)) (error-push steps step) ∙ or-or (refused s.reply) (first_error steps) (refused step.reply)

-- ---- the polls so far
-- what they lead to over an honest store
pub record Led (merge : Option Merge) (live : Live) (places : List ℕ) (w : World) (at_least : ℕ) (moment : ℤ) (old : List Follower) (place : ℕ) (cur : List Follower) (after : Known (List Batch)) (polls : ℕ) (first : Option SlateError) : Type 0 where
  pub polled : PollsLead (routing merge live) moment live places w old place cur after
  pub error : first_error polled.steps ≡ first
  pub none : polls ≡ 0 → polled.steps ≡ []
  pub reached : first ≡ None → (i : ℕ) (f : Follower) → i < place → slice_get old i ≡ Some f → is_open f ≡ true → (g : Follower) × (slice_get cur i ≡ Some g) × (is_open g ≡ true) × (number g ≡ end w.stored)
  pub completes : CanCover moment at_least places old w (last_world w polled.steps) → polls ≡ 0

-- where the open ones of more or fewer readers are the same, so are the polls
abbrev polls-as : {settings : Settings} {moment : ℤ} {live : Live} {places : List ℕ} {w : World} {old new : List Follower} {store : Known (List Batch)} (n m : ℕ) → of_open (take n old) places ≡ of_open (take m old) places →
    PollsLead settings moment live places w old n new store → PollsLead settings moment live places w old m new store
polls-as {settings} {moment} {live} {places} {w} {old} {new} {store} n m same l = record {
  steps = l.steps;
  chain = l.chain;
  polls = l.polls ∙ ap (λ (xs : List ℕ). map (poll_command moment) xs) same;
  next = l.next;
  over = l.over;
  stored = l.stored;
  others = l.others;
}

-- the readers before a place were polled, where they are open, and none of them covers
pub record Progress (at_least : ℕ) (moment : ℤ) (old : List Follower) (before : Known (List Batch)) (place : ℕ) (cur : List Follower) (after : Known (List Batch)) (polls : ℕ) (first : Option SlateError) : Type 0 where
  pub count : length cur ≡ length old
  pub behind : (i : ℕ) → place ≤ i → slice_get cur i ≡ slice_get old i
  pub uncovered : (i : ℕ) (f : Follower) → i < place → slice_get cur i ≡ Some f → covers at_least f ≡ false
  pub shut : (i : ℕ) (f : Follower) → slice_get old i ≡ Some f → is_open f ≡ false → slice_get cur i ≡ Some f
  pub counted : polls ≡ count_by is_open (take place old)
  pub so_far : SoFar moment old before place cur after first
  pub faults : before.faults ≤ after.faults
  pub kind : IfSome first (λ error. IsOfPoll ManagedCheckpoint error × StandsInRefusal error before.faults after.faults)
  pub leads : (merge : Option Merge) (live : Live) (places : List ℕ) (w : World) → RoutesOver live before places old w → Led merge live places w at_least moment old place cur after polls first

module _ (at_least : ℕ) (moment : ℤ) (old : List Follower) (before : Known (List Batch)) where
  abbrev none-led : (merge : Option Merge) (live : Live) (places : List ℕ) (w : World) → RoutesOver live before places old w → PollsLead (routing merge live) moment live places w old 0 old before
  none-led merge live places w over = record {
    steps = [];
    chain = tt;
    polls = refl;
    next = live;
    over = over;
    stored = refl;
    others = record { options = refl; writes = refl; polls = refl; count = refl; objects = λ n apart. refl };
  }

  -- none was polled yet
  pub progress-none : Progress at_least moment old before 0 old before 0 None
  progress-none = record {
    count = refl;
    behind = λ i above. refl;
    uncovered = λ i f below at. absurd (omega (arith, below));
    shut = λ i f at closed. at;
    counted = refl;
    so_far = far-none moment old before;
    faults = omega arith;
    kind = tt;
    leads = λ merge live places w over. record {
      polled = none-led merge live places w over;
      error = refl;
      none = λ is. refl;
      reached = λ is i f below at opened. absurd (omega (arith, below));
      completes = λ can. refl;
    };
  }

  module _ (place : ℕ) (cur : List Follower) (after : Known (List Batch)) (polls : ℕ) (first : Option SlateError) (p : Progress at_least moment old before place cur after polls first) where
    -- the reader at the place is closed
    pub progress-closed : (f : Follower) → slice_get cur place ≡ Some f → is_open f ≡ false → Progress at_least moment old before (place + 1) cur after polls first
    progress-closed f at closed =
        let was : slice_get old place ≡ Some f = sym (p.behind place (omega arith)) ∙ at in
        record {
          count = p.count;
          behind = λ i above. p.behind i (omega (arith, above));
          uncovered = λ i g below there. elim (cases_eq i place) [
            | inl same ↦
                let it : f ≡ g = (let here = subst (λ k. slice_get cur k ≡ Some g) same there in cc) in
                subst (λ (x : Follower). covers at_least x ≡ false) it (shut-covers at_least f closed)
            | inr other ↦ p.uncovered i g (omega (arith, below, other)) there
          ];
          shut = p.shut;
          counted = (let more = count-more is_open old place f false was closed in let had = p.counted in omega (arith, more, had));
          so_far = far-closed moment old before place cur after first p.so_far f was closed;
          faults = p.faults;
          kind = p.kind;
          leads = λ merge live places w over.
              let l = p.leads merge live places w over in
              record {
                polled = polls-as place (place + 1) (sym (open-same old places place f was closed)) l.polled;
                error = l.error;
                none = l.none;
                reached = λ is i g below there opened. elim (cases_eq i place) [
                  | inl same ↦
                      let it : f ≡ g = (let here = subst (λ k. slice_get old k ≡ Some g) same there in cc) in
                      let no : is_open g ≡ false = ap is_open (sym it) ∙ closed in
                      absurd (cc)
                  | inr other ↦ l.reached is i g (omega (arith, below, other)) there opened
                ];
                completes = l.completes;
              };
        }

    -- ---- the reader at the place is open, and polled
    module _ (result : Result PollAnswer SlateError) (cur' : List Follower) (after' : Known (List Batch)) (q : PollsAt place moment cur after result cur' after') (opened : is_open q.reader ≡ true) where
      was : slice_get old place ≡ Some q.reader
      was = sym (p.behind place (omega arith)) ∙ q.there

      here : slice_get cur' place ≡ Some q.left
      here = subst (λ xs. slice_get xs place ≡ Some q.left) (sym q.new_is) (get-set_same cur place q.left q.reader q.there)

      elsewhere : (i : ℕ) → i ≢ place → slice_get cur' i ≡ slice_get cur i
      elsewhere i other = ap (λ xs. slice_get xs i) q.new_is ∙ get-set_other cur place i q.left other

      count' : length cur' ≡ length old
      count' = ap (λ xs. length xs) q.new_is ∙ (length-set cur place q.left ∙ p.count)

      behind' : (i : ℕ) → place < i → slice_get cur' i ≡ slice_get old i
      behind' i above = elsewhere i (λ same. omega (arith, above, same)) ∙ p.behind i (omega (arith, above))

      shut' : (i : ℕ) (f : Follower) → slice_get old i ≡ Some f → is_open f ≡ false → slice_get cur' i ≡ Some f
      shut' i f at closed = elim (cases_eq i place) [
        | inl same ↦
            let it : q.reader ≡ f = (let there = subst (λ k. slice_get old k ≡ Some f) same at in let mine = was in cc) in
            let no : is_open f ≡ true = ap is_open (sym it) ∙ opened in
            absurd (cc)
        | inr other ↦ elsewhere i other ∙ p.shut i f at closed
      ]

      polls' : polls + 1 ≡ count_by is_open (take (place + 1) old)
      polls' = let more = count-more is_open old place q.reader true was opened in let had = p.counted in omega (arith, more, had)

      faults' : before.faults ≤ after'.faults
      faults' = let had = p.faults in let more = (q.faults).count in omega (arith, had, more)

      so_far' : SoFar moment old before (place + 1) cur' after' (option_or first (result_err result))
      so_far' = far-next moment old before place cur after first p.so_far q.reader was opened result cur' after' q

      so-far-at : (r : Result PollAnswer SlateError) → result ≡ r → SoFar moment old before (place + 1) cur' after' (option_or first (result_err r))
      so-far-at r is = subst (λ (x : Result PollAnswer SlateError). SoFar moment old before (place + 1) cur' after' (option_or first (result_err x))) is so_far'

      pub stay : Stay old cur'
      stay = record { count = count'; closed = shut' }

      abbrev pub error-of : Option SlateError
      error-of = refused (reply_to polled_reply result)

      module _ (merge : Option Merge) (live : Live) (places : List ℕ) (w : World) (over : RoutesOver live before places old w) where
        abbrev l : Led merge live places w at_least moment old place cur after polls first
        l = p.leads merge live places w over

        abbrev mid : World
        mid = last_world w ((l.polled).steps)

        record Turned : Type 0 where
          i : ℕ
          named : slice_get places place ≡ Some i
          turn : TurnLeads (routing merge live) ((l.polled).next) places cur' mid moment i result q.left after'

        turned : Turned
        turned =
            let readers = ((l.polled).over).are_at in
            let within : place < length places = (let less = slice_get_within cur place q.reader q.there in let same = readers.count in omega (arith, less, same)) in
            let i = get_or places place 0 in
            let named = slice_get-get_or places place 0 within in
            let made = q.polls (readers.managed place q.reader q.there).0 in
            let t = turn-leads merge live (l.polled).next ((l.polled).others).options after after' places cur mid (l.polled).over place i named q.reader q.left q.there (open-none q.reader opened) made.0 moment result made.1 in
            record { i = i; named = named; turn = subst (λ xs. TurnLeads (routing merge live) ((l.polled).next) places xs mid moment i result q.left after') (sym q.new_is) t }

        abbrev t : TurnLeads (routing merge live) ((l.polled).next) places cur' mid moment turned.i result q.left after'
        t = turned.turn

        abbrev step : Step
        step = record { command = poll_command moment turned.i; reply = reply_to polled_reply result; world = t.world }

        polls-on : PollEach moment places (take (place + 1) old) ((l.polled).steps ++ step ∷ [])
        polls-on =
            map-append (λ (s : Step). s.command) (l.polled).steps (step ∷ [])
            ∙ (ap (λ (cs : List Command). cs ++ poll_command moment turned.i ∷ []) (l.polled).polls
            ∙ (sym (map-append (poll_command moment) (of_open (take place old) places) (turned.i ∷ []))
            ∙ ap (λ (ns : List ℕ). map (poll_command moment) ns) (sym (open-more old places place q.reader turned.i was opened turned.named))))

        pub polled-on : PollsLead (routing merge live) moment live places w old (place + 1) cur' after'
        polled-on = record {
          steps = (l.polled).steps ++ step ∷ [];
          chain = chain-push (routing merge live) w (l.polled).steps step (l.polled).chain t.link;
          polls = polls-on;
          next = t.next;
          over = subst (RoutesOver t.next after' places cur') (sym (last-push w (l.polled).steps step)) t.over;
          stored = ap (λ (v : World). v.stored) (last-push w (l.polled).steps step) ∙ (t.stored ∙ (l.polled).stored);
          others = record {
            options = (t.others).options ∙ ((l.polled).others).options;
            writes = (t.others).writes ∙ ((l.polled).others).writes;
            polls = (t.others).polls ∙ ((l.polled).others).polls;
            count = (t.others).count ∙ ((l.polled).others).count;
            objects = λ n apart. (t.others).objects n apart ∙ ((l.polled).others).objects n apart;
          };
        }

        pub error-on : first_error polled-on.steps ≡ option_or first error-of
        unfolding polled-on
        error-on = error-push (l.polled).steps step ∙ ap (λ e. option_or e error-of) l.error

        mid-is : (polls ≡ 0) → mid ≡ w
        mid-is none = ap (last_world w) (l.none none)

        faults-before : w.faults ≤ mid.faults
        faults-before =
            let a = ((over.represents).represents).faults in
            let b = ((((l.polled).over).represents).represents).faults in
            let up = p.faults in
            omega (arith, a, b, up)

        faults-turn : mid.faults ≤ (t.world).faults
        faults-turn =
            let a = ((((l.polled).over).represents).represents).faults in
            let b = (((t.over).represents).represents).faults in
            let up = (q.faults).count in
            omega (arith, a, b, up)

        last-is : last_world w ((polled-on).steps) ≡ t.world
        unfolding polled-on
        last-is = last-push w (l.polled).steps step

        -- where nothing stands against it, a poll is answered no error but want of memory
        pub fails-on : (error : SlateError) → result ≡ Err error → CanCover moment at_least places old w (last_world w ((polled-on).steps)) → error ≡ errors.NoMemory
        fails-on error is can =
            let no_fault : HasRisen w.faults (t.world).faults → ⊥ = subst (λ (v : World). HasRisen w.faults v.faults → ⊥) last-is can.faults in
            let before_turn : CanCover moment at_least places old w mid = record { some = can.some; reaches = can.reaches; polls = can.polls; faults = λ risen. no_fault (risen-more w.faults mid.faults (t.world).faults faults-turn risen) } in
            let same = mid-is (l.completes before_turn) in
            t.fails error is (λ risen. no_fault (risen-first w.faults mid.faults (t.world).faults faults-before risen))
            (subst (λ (v : World). (f : Follower) → IsFollowerAt v.objects turned.i f → CanPoll v moment f) (sym same)
            (λ f at. can.polls place turned.i f turned.named at (live-open f (subst (λ (v : World). IsFollowerAt v.objects turned.i f) (sym same) at))))
          where
            live-open : (f : Follower) → IsFollowerAt mid.objects turned.i f → f.result ≡ None
            live-open f at =
                let object = ((((l.polled).over).are_at).there place turned.i q.reader turned.named q.there) in
                let shown = subst (λ os. slice_get os turned.i ≡ Some (AFollower q.reader)) ((((l.polled).over).represents).represents).objects object in
                let whole = whole-at mid.objects turned.i q.reader shown in
                let it : whole.whole ≡ f = (let here = whole.at in cc) in
                ap (λ (g : Follower). g.result) (sym it) ∙ (ap (λ (g : Follower). g.result) whole.kept ∙ open-none q.reader opened)

        pub left-sees : (answer : PollAnswer) → result ≡ Ok answer → ((q.left).result ≡ None) × (number q.left ≡ end w.stored)
        left-sees answer is =
            let ended = subst (λ (r : Result PollAnswer SlateError). IfOk r (λ _. ((q.left).result ≡ None) × (number q.left ≡ end mid.stored))) is t.ok in
            (ended.0, ended.1 ∙ ap end (l.polled).stored)

      -- ---- it sees less than is asked for
      uncovered' : covers at_least q.left ≡ false → (i : ℕ) (f : Follower) → i < place + 1 → slice_get cur' i ≡ Some f → covers at_least f ≡ false
      uncovered' less i f below at = elim (cases_eq i place) [
        | inl same ↦
            let it : q.left ≡ f = (let there = subst (λ k. slice_get cur' k ≡ Some f) same at in let mine = here in cc) in
            subst (λ (x : Follower). covers at_least x ≡ false) it less
        | inr other ↦ p.uncovered i f (omega (arith, below, other)) (sym (elsewhere i other) ∙ at)
      ]

      kind-more : IfSome first (λ error. IsOfPoll ManagedCheckpoint error × StandsInRefusal error before.faults after'.faults)
      kind-more =
          if-some first (λ error. IsOfPoll ManagedCheckpoint error × StandsInRefusal error before.faults after.faults) (λ error. IsOfPoll ManagedCheckpoint error × StandsInRefusal error before.faults after'.faults)
          (λ error k. (k.0, stands-more error before.faults after.faults after'.faults (q.faults).count k.1)) p.kind

      pub progress-behind : (answer : PollAnswer) → result ≡ Ok answer → covers at_least q.left ≡ false → Progress at_least moment old before (place + 1) cur' after' (polls + 1) first
      progress-behind answer is less = record {
        count = count';
        behind = λ i above. behind' i (omega (arith, above));
        uncovered = uncovered' less;
        shut = shut';
        counted = polls';
        so_far = subst (SoFar moment old before (place + 1) cur' after') (or-none first) (so-far-at (Ok answer) is);
        faults = faults';
        kind = kind-more;
        leads = λ merge live places w over.
            let sees = left-sees merge live places w over answer is in
            let opened_then = none-open q.left sees.0 in
            record {
              polled = polled-on merge live places w over;
              error = error-on merge live places w over ∙ (ap (λ (r : Result PollAnswer SlateError). option_or first (refused (reply_to polled_reply r))) is ∙ (ap (option_or first) (answer-refused answer) ∙ or-none first));
              none = λ no. absurd (omega (arith, no));
              reached = λ none i f below at open_f. elim (cases_eq i place) [
                | inl same ↦ (q.left, subst (λ k. slice_get cur' k ≡ Some q.left) (sym same) here, opened_then, sees.1)
                | inr other ↦
                    let had = (p.leads merge live places w over).reached none i f (omega (arith, below, other)) at open_f in
                    (had.0, elsewhere i other ∙ had.1, had.2, had.3)
              ];
              completes = λ can.
                  let low = sees-less at_least q.left opened_then less in
                  let same = sees.1 in
                  let high = can.reaches in
                  absurd (omega (arith, low, same, high));
            };
      }

      -- ---- its poll was answered an error
      error-kind : (error : SlateError) → result ≡ Err error → ((q.left ≡ q.reader) ⊎ (is_open q.left ≡ is_memory error)) × IsOfPoll ManagedCheckpoint error
      error-kind error is = subst (λ (r : Result PollAnswer SlateError). IfErr r (λ e. ((q.left ≡ q.reader) ⊎ (is_open q.left ≡ is_memory e)) × IsOfPoll ManagedCheckpoint e)) is q.failed

      error-stands : (error : SlateError) → result ≡ Err error → error ≢ errors.NoMemory → StandsInRefusal error before.faults after'.faults
      error-stands error is other = stands-of error before.faults after.faults after'.faults {A = PollAnswer} other p.faults (subst (FaultsRise after.faults after'.faults) is q.faults)

      pub progress-failed : (nothing : first_covering at_least old ≡ None) (error : SlateError) → result ≡ Err error → error ≢ errors.NoMemory → Progress at_least moment old before (place + 1) cur' after' (polls + 1) (option_or first (Some error))
      progress-failed nothing error is other = record {
        count = count';
        behind = λ i above. behind' i (omega (arith, above));
        uncovered = uncovered' (still-uncovers at_least q.reader q.left error other (fails-at (covers at_least) old nothing place q.reader was) (error-kind error is).0);
        shut = shut';
        counted = polls';
        so_far = so-far-at (Err error) is;
        faults = faults';
        kind = kinds first kind-more;
        leads = λ merge live places w over. record {
          polled = polled-on merge live places w over;
          error = error-on merge live places w over ∙ (ap (λ (r : Result PollAnswer SlateError). option_or first (refused (reply_to polled_reply r))) is ∙ ap (option_or first) (poll-refused error (error-kind error is).1 other));
          none = λ no. absurd (omega (arith, no));
          reached = λ none. absurd (or-some first error none);
          completes = λ can. absurd (other (fails-on merge live places w over error is can));
        };
      } where
        kinds : (f : Option SlateError) → IfSome f (λ e. IsOfPoll ManagedCheckpoint e × StandsInRefusal e before.faults after'.faults) → IfSome (option_or f (Some error)) (λ e. IsOfPoll ManagedCheckpoint e × StandsInRefusal e before.faults after'.faults)
        kinds None k = ((error-kind error is).1, error-stands error is other)
        kinds (Some e) k = k

      -- ---- the polls end there
      pub goes-by : (nothing : first_covering at_least old ≡ None) → covers at_least q.left ≡ true → GoesBy at_least old place (polls + 1) cur'
      goes-by nothing covering = record {
        first = first-at (covers at_least) cur' place q.left here covering (λ j y below at. p.uncovered j y below (sym (elsewhere j (λ same. omega (arith, below, same))) ∙ at));
        at_once = λ n some. absurd (let no = sym nothing ∙ some in cc);
        polled = λ none. (omega arith, polls', behind');
        stay = stay;
      }

      pub covered-passes : (nothing : first_covering at_least old ≡ None) → covers at_least q.left ≡ true → place + 1 ≡ passed_by (first_covering at_least old) (first_covering at_least cur') (length old)
      covered-passes nothing covering =
          sym (ap (λ o. passed_by o (first_covering at_least cur') (length old)) nothing ∙ ap (λ o. passed_by None o (length old)) (goes-by nothing covering).first)

      pub covered-leads : (nothing : first_covering at_least old ≡ None) → covers at_least q.left ≡ true → (answer : PollAnswer) → result ≡ Ok answer → (covering : Covering) → covering.place ≡ place → (merge : Option Merge) (live : Live) (places : List ℕ) (w : World) → RoutesOver live before places old w →
          CoverLeads (routing merge live) moment at_least live places w old cur' (Ok covering) after'
      covered-leads nothing reaches answer is covering placed merge live places w over = record {
        passed = place + 1;
        passes = covered-passes nothing reaches;
        polled = polled-on merge live places w over;
        ends = λ some f at.
            let it : q.left ≡ f = (let there = subst (λ k. slice_get cur' k ≡ Some f) placed at in let mine = here in cc) in
            ap number (sym it) ∙ (left-sees merge live places w over answer is).1;
        completes = λ can. tt;
      }

      pub covered-polls : (nothing : first_covering at_least old ≡ None) → covers at_least q.left ≡ true → (covering : Covering) → PollsFor at_least moment old before (Ok covering) cur' after'
      covered-polls nothing reaches covering = polls-for moment old before (place + 1) cur' after' (option_or first (result_err result)) so_far' at_least (Ok covering) (covered-passes nothing reaches) (λ turns told. tt)

      pub memory-polls : PollsFor {A = Covering} at_least moment old before (Err refusals.NoMemory) cur' after'
      memory-polls = polls-for moment old before (place + 1) cur' after' (option_or first (result_err result)) so_far' at_least (Err refusals.NoMemory) tt (λ turns told. tt)

      pub memory-leads : (merge : Option Merge) (live : Live) (places : List ℕ) (w : World) → RoutesOver live before places old w →
          CoverLeads (routing merge live) moment at_least live places w old cur' (Err refusals.NoMemory) after'
      memory-leads merge live places w over = record { passed = place + 1; passes = tt; polled = polled-on merge live places w over; ends = tt; completes = λ can. tt }

    -- ---- all open ones were polled
    module _ (nothing : first_covering at_least old ≡ None) (some : list_any is_open old ≡ true) (over-all : length old ≤ place) where
      within : (i : ℕ) (f : Follower) → slice_get cur i ≡ Some f → i < place
      within i f at = let less = slice_get_within cur i f at in let same = p.count in omega (arith, less, same, over-all)

      pub none-covers : NoneCovers at_least old cur
      none-covers = record {
        some = some;
        before = nothing;
        after = none-at (covers at_least) cur (λ i f at. p.uncovered i f (within i f at) at);
        stay = record { count = p.count; closed = p.shut };
      }

      all-polled : 0 < polls
      all-polled =
          let one = some-pass is_open old some in
          let had = p.counted in
          let all = ap (count_by is_open) (take_all place old over-all) in
          let low = count-some is_open old one.0 one.1 one.2 one.3 in
          omega (arith, had, all, low)

      pub failed-finds : (error : SlateError) → first ≡ Some error → FindsNone at_least old cur before.faults after.faults (refusals.Poll error)
      failed-finds error is = let k = subst (λ f. IfSome f (λ e. IsOfPoll ManagedCheckpoint e × StandsInRefusal e before.faults after.faults)) is p.kind in (none-covers, k.0, k.1)

      -- all were passed
      pub all-passes : length old ≡ passed_by (first_covering at_least old) (first_covering at_least cur) (length old)
      all-passes = sym (ap (λ o. passed_by o (first_covering at_least cur) (length old)) nothing ∙ ap (λ o. passed_by None o (length old)) none-covers.after)

      abbrev all-led : (merge : Option Merge) (live : Live) (places : List ℕ) (w : World) → PollsLead (routing merge live) moment live places w old place cur after → PollsLead (routing merge live) moment live places w old (length old) cur after
      all-led merge live places w l = polls-as place (length old) (ap (λ (readers : List Follower). of_open readers places) (take_all place old over-all ∙ sym (take_all (length old) old (omega arith)))) l

      so-far-all : SoFar moment old before (length old) cur after first
      so-far-all = far-all moment old before place cur after first p.so_far over-all

      pub failed-polls : (error : SlateError) → first ≡ Some error → PollsFor {A = Covering} at_least moment old before (Err (refusals.Poll error)) cur after
      failed-polls error is = polls-for moment old before (length old) cur after first so-far-all at_least (Err (refusals.Poll error)) all-passes (λ turns told. told ∙ is)

      pub behind-polls : first ≡ None → (best : ℕ) → PollsFor {A = Covering} at_least moment old before (Err (refusals.Behind at_least best)) cur after
      behind-polls is best = polls-for moment old before (length old) cur after first so-far-all at_least (Err (refusals.Behind at_least best)) all-passes (λ turns told. told ∙ is)

      pub failed-leads : (error : SlateError) → first ≡ Some error → (merge : Option Merge) (live : Live) (places : List ℕ) (w : World) → RoutesOver live before places old w →
          CoverLeads (routing merge live) moment at_least live places w old cur (Err (refusals.Poll error)) after
      failed-leads error is merge live places w over =
          let l = p.leads merge live places w over in
          record {
            passed = length old;
            passes = all-passes;
            polled = all-led merge live places w l.polled;
            ends = l.error ∙ is;
            completes = λ can. (let no = l.completes can in let low = all-polled in absurd (omega (arith, no, low)));
          }

      -- an open reader was open before
      was-open : (i : ℕ) (f : Follower) → slice_get cur i ≡ Some f → is_open f ≡ true → (g : Follower) × (slice_get old i ≡ Some g) × (is_open g ≡ true)
      was-open i f at opened =
          let less : i < length old = (let below = slice_get_within cur i f at in let same = p.count in omega (arith, below, same)) in
          let g = get_or old i f in
          let there = slice_get-get_or old i f less in
          by g there (is_open g) refl
        where
          by : (g : Follower) → slice_get old i ≡ Some g → (b : Bool) → is_open g ≡ b → (h : Follower) × (slice_get old i ≡ Some h) × (is_open h ≡ true)
          by g there true is = (g, there, is)
          by g there false is =
              let it : g ≡ f = (let here = p.shut i g there is in cc) in
              let no : is_open f ≡ false = ap is_open (sym it) ∙ is in
              absurd (cc)

      pub behind-leads : first ≡ None → (best : ℕ) → IsBest cur best → (merge : Option Merge) (live : Live) (places : List ℕ) (w : World) → RoutesOver live before places old w →
          CoverLeads (routing merge live) moment at_least live places w old cur (Err (refusals.Behind at_least best)) after
      behind-leads is best bests merge live places w over =
          let l = p.leads merge live places w over in
          let one = some-pass is_open old some in
          let less : one.0 < place = (let low = slice_get_within old one.0 one.1 one.2 in omega (arith, low, over-all)) in
          let reached = l.reached is one.0 one.1 less one.2 one.3 in
          let sees = reached.3 in
          let below = sees-less at_least reached.0 reached.2 (p.uncovered one.0 reached.0 less reached.1) in
          let bound = bests.bounds one.0 reached.0 reached.1 reached.2 in
          record {
            passed = length old;
            passes = all-passes;
            polled = all-led merge live places w l.polled;
            ends = (l.error ∙ is, omega (arith, below, sees), attained reached.0 bests.attained sees bound);
            completes = λ can. (let no = l.completes can in let low = all-polled in absurd (omega (arith, no, low)));
          }
        where
          attained : (f : Follower) → (best ≡ 0) ⊎ IsOpenOne cur best → number f ≡ end w.stored → number f ≤ best → best ≡ end w.stored
          attained f (inl zero_best) sees bound = omega (arith, zero_best, sees, bound)
          attained f (inr one) sees bound =
              let before_polls = was-open one.place one.reader one.there one.opened in
              let reached = (p.leads merge live places w over).reached is one.place before_polls.0 (within one.place one.reader one.there) before_polls.1 before_polls.2 in
              let it : reached.0 ≡ one.reader = (let a = reached.1 in let b = one.there in cc) in
              sym one.is ∙ (ap number (sym it) ∙ reached.3)

  -- ---- a read for which none is polled
  pub quiet-passes : (place : ℕ) → first_covering at_least old ≡ Some place → 0 ≡ passed_by (first_covering at_least old) (first_covering at_least old) (length old)
  quiet-passes place is = sym (ap (λ o. passed_by o (first_covering at_least old) (length old)) is)

  pub quiet-leads : (place : ℕ) → first_covering at_least old ≡ Some place → (merge : Option Merge) (live : Live) (places : List ℕ) (w : World) → RoutesOver live before places old w → (covering : Covering) → covering.polls ≡ 0 →
      CoverLeads (routing merge live) moment at_least live places w old old (Ok covering) before
  quiet-leads place is merge live places w over covering none = record {
    passed = 0;
    passes = quiet-passes place is;
    polled = none-led merge live places w over;
    ends = λ some. absurd (omega (arith, some, none));
    completes = λ can. tt;
  }

  pub quiet-polls : (place : ℕ) → first_covering at_least old ≡ Some place → (covering : Covering) → PollsFor at_least moment old before (Ok covering) old before
  quiet-polls place is covering = polls-for moment old before 0 old before None (far-none moment old before) at_least (Ok covering) (quiet-passes place is) (λ turns told. tt)

  pub closed-polls : PollsFor {A = Covering} at_least moment old before (Err refusals.NoFollower) old before
  closed-polls = polls-for moment old before 0 old before None (far-none moment old before) at_least (Err refusals.NoFollower) refl (λ turns told. tt)

  pub closed-leads : list_any is_open old ≡ false → (merge : Option Merge) (live : Live) (places : List ℕ) (w : World) → RoutesOver live before places old w → CoverLeads (routing merge live) moment at_least live places w old old (Err refusals.NoFollower) before
  closed-leads none merge live places w over = record {
    passed = 0;
    passes = refl;
    polled = none-led merge live places w over;
    ends = tt;
    completes = λ can. (let no : true ≡ false = sym can.some ∙ none in absurd (cc));
  }

-- a read at once
pub at-once : (at_least : ℕ) (readers : List Follower) (place : ℕ) → first_covering at_least readers ≡ Some place → GoesBy at_least readers place 0 readers
at-once at_least readers place is = record {
  first = is;
  at_once = λ n there. (refl, refl);
  polled = λ none. absurd (let no = sym none ∙ is in cc);
  stay = record { count = refl; closed = λ i f at closed. at };
}

-- ---- what the loop over the polls finds
-- a place of a list has an element
pub at-place : {X : Type 0} (xs : List X) (i : ℕ) → i < length xs → (x : X) × (slice_get xs i ≡ Some x)
at-place [] i less = absurd (omega (arith, less))
at-place (x ∷ xs) zero less = (x, refl)
at-place (x ∷ xs) (suc i) less = at-place xs i (omega (arith, less))

-- whether the reader at a place is open
pub open-at : (readers : List Follower) (place : ℕ) (f : Follower) (r : Bool) → r ≡ unwrap_or (option_map is_open (slice_get readers place)) false → slice_get readers place ≡ Some f → is_open f ≡ r
open-at readers place f r is at = sym (is ∙ ap (λ (o : Option Follower). unwrap_or (option_map is_open o) false) at)

pub polls-with : {place : ℕ} {old new : List Follower} {before after : Known (List Batch)} {result : Result PollAnswer SlateError} (at moment : ℤ) → at ≡ moment → PollsAt place at old before result new after → PollsAt place moment old before result new after
polls-with {place} {old} {new} {before} {after} {result} at moment same q = subst (λ m. PollsAt place m old before result new after) same q

pub covers-with : {settings : Settings} {at_least : ℕ} {live : Live} {places : List ℕ} {w : World} {old new : List Follower} {result : Result Covering RouteRefusal} {store : Known (List Batch)} (at moment : ℤ) → at ≡ moment →
    CoverLeads settings at at_least live places w old new result store → CoverLeads settings moment at_least live places w old new result store
covers-with {settings} {at_least} {live} {places} {w} {old} {new} {result} {store} at moment same l = subst (λ m. CoverLeads settings m at_least live places w old new result store) same l

-- the reader that was polled is there
pub left-there : {place : ℕ} {moment : ℤ} {old new : List Follower} {before after : Known (List Batch)} {result : Result PollAnswer SlateError} (q : PollsAt place moment old before result new after) → slice_get new place ≡ Some q.left
left-there {place} {moment} {old} {new} {before} {after} {result} q = subst (λ xs. slice_get xs place ≡ Some q.left) (sym q.new_is) (get-set_same old place q.left q.reader q.there)

-- want of memory
pub memory-is : (error : SlateError) → is_memory error ≡ true → error ≡ errors.NoMemory
memory-is errors.NoMemory is = refl
memory-is error is = absurd (cc)

pub memory-other : (error : SlateError) → is_memory error ≡ false → error ≢ errors.NoMemory
memory-other error is same = let no : is_memory error ≡ true = ap is_memory same in absurd (cc)
