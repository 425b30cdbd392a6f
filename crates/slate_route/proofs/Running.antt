-- The steps of a session, one after another.
use Rattle.std.proofs.Common.{◌≡◌, ◌∙◌, ◌++◌, ◌∷◌, inl, inr, ℕ, ℤ, true, List, [], length, map, set, take, Option, Some, None, Result, Ok, Err, refl, sym, subst, ap, arith}
use Rattle.std.specs.Prelude.{slice_get}
use Rattle.std.proofs.lemmas.List.{length-map, map-append}
use Rattle.std.proofs.lemmas.Option.{slice_get_within}
use Rattle.slate_types.specs.declared.batches.Batch.{Batch}
use Rattle.slate_store.specs.Content.{IsSound}
use Rattle.slate_store.specs.Objects.{Objects}
use Rattle.slate_errors.specs.declared.errors.SlateError.{SlateError}
use Rattle.slate_errors.specs.declared.errors.SlateError.TheVariants as errors
use Rattle.slate_model.specs.Begun.{Begun}
use Rattle.slate_model.specs.Follower.{Follower}
use Rattle.slate_model.specs.Handle.{Handle}
use Rattle.slate_model.specs.Known.{Known}
use Rattle.slate_model.specs.Object.{Object, Handle as AHandle, kept}
use Rattle.slate_model.specs.Stores.{by_objects}
use Rattle.slate_script.specs.declared.commands.Command.{Command}
use Rattle.slate_script.specs.declared.options.Options.{Options}
use Rattle.slate_script.specs.declared.replies.Reply.{Reply}
use Rattle.slate_script.specs.declared.replies.Reply.TheVariants as replies
use Rattle.slate_live.specs.Calls.{ArePolls, Begins, Whole, call_of, kind_of, target_of}
use Rattle.slate_live.specs.declared.targets.Target.TheVariants.{OfObject}
use Rattle.slate_live.specs.Commands.{DoesBy, OpensHandleIn, added}
use Rattle.slate_live.specs.Handles.{HandleActs}
use Rattle.slate_live.specs.Replies.{refusal, reply_to}
use Rattle.slate_live.specs.Represents.{AllInSegments, Represents}
use Rattle.slate_live.specs.Settings.{Settings}
use Rattle.slate_live.specs.State.{IsBegunAt, Live, running}
use Rattle.slate_live.specs.Stepping.{DoesKind, IsDone}
use Rattle.slate_live.specs.Valid.{Link}
use Rattle.slate_live.specs.World.{World, start}
use Rattle.slate_live.proofs.Begun.{are-same_named}
use Rattle.slate_live.proofs.Chains.{all-start, reached, stands_start}
use Rattle.slate_live.proofs.Doing.{acts_on}
use Rattle.slate_live.proofs.Linking.{does-at, linked}
use Rattle.slate_live.proofs.Naming.{HandleDid, handle-did}
use Rattle.slate_live.proofs.Places.{get-map, get-push, get-set_other, get-set_same}
use Rattle.slate_route.specs.declared.answers.Added.{Added}
use Rattle.slate_route.specs.declared.answers.RouteRefusal.{RouteRefusal}
use Rattle.slate_route.specs.declared.answers.Routed.{Routed}
use Rattle.slate_route.specs.declared.commands.RouteAction.{RouteAction}
use Rattle.slate_route.specs.declared.commands.RouteAction.TheVariants as asked
use Rattle.slate_route.specs.declared.commands.RouteAnswer.{RouteAnswer}
use Rattle.slate_route.specs.declared.commands.RouteAnswer.TheVariants as answers
use Rattle.slate_route.specs.declared.commands.RouteCommand.{RouteCommand}
use Rattle.slate_route.specs.Reading.{AddsReader, Answers, Passes}
use Rattle.slate_route.specs.Session.{AddsTo, HoldsWorld, IsReachedRoute, ReadsTo, Route, RouteChain, RouteLink, RouteLinks, RouteStep, RoutesOn, Runs, StandFor, flush_command, last_route, none_routed, opening, put_command, route_settings}
use Rattle.slate_route.specs.Standing.{AddEnds, AddLeads, AreAt, CanRead, PollEach, ReadLeads, RoutesOver, opens_at, places_after, routing}

-- ---- one line
module _ (live : Live) (store : Known (List Batch)) (readers : List Follower) (route : Route) (s : StandFor live store readers route) where
  -- what commands are run with
  routing-is : routing None s.joined ≡ route_settings
  routing-is = ap (λ (o : Options). let settings : Settings = record { merge = None; extractor = None; options = o } in settings) s.options

  objects-are : s.joined.objects ≡ map kept route.world.objects
  objects-are = ((s.over).represents.represents).objects

  count-is : length s.joined.objects ≡ length route.world.objects
  count-is = ap (λ (os : List Object). length os) objects-are ∙ length-map route.world.objects kept

  -- no poll is begun of the handle
  handle-unbegun : (begun : Begun) → IsBegunAt s.joined.polls 0 begun → ⊥
  handle-unbegun begun at =
      let r = (s.over).represents in
      let stands = r.begun ((r.represents).held).0 0 begun ((r.represents).held).1 (subst (λ ps. IsBegunAt ps 0 begun) r.polls at) in
      let shown = subst (λ os. slice_get os 0 ≡ Some (AHandle s.handle)) objects-are s.joined_there in
      let mapped = sym (get-map kept route.world.objects 0) ∙ shown in
      let it = stands.1 in
      absurd (cc)

  -- a command of the handle
  module _ (live' : Live) (store' : Known (List Batch)) (command : Command) (reply : Reply) (names : target_of command.action ≡ OfObject 0) (whole : kind_of command.action ≡ Whole) (done : IsDone route_settings live store command reply live' store') where
    abbrev did : ((made : ℕ) × DoesBy (by_objects store.objects) route_settings command (target_of command.action) made (running live store) reply (running live' store')) × ArePolls command.action live.polls live'.polls
    did = subst (λ k. DoesKind k route_settings live store command reply live' store') whole done

    abbrev made : ℕ
    made = (did.0).0

    acted : HandleDid (by_objects store.objects) route_settings 0 command (call_of command.action) made (running live store) reply (running live' store') s.handle
    acted =
        handle-did (by_objects store.objects) route_settings 0 command (call_of command.action) made (running live store) reply (running live' store') (slice_get live.objects 0) s.handle s.there
        (subst (λ t. DoesBy (by_objects store.objects) route_settings command t made (running live store) reply (running live' store')) names (did.0).1)

    abbrev next : Live
    next = record s.joined { objects = set s.joined.objects 0 (AHandle acted.new); writes = live'.writes }

    acts : HandleActs (by_objects store.objects) route_settings 0 command.moment command.second (call_of command.action) made s.handle store s.joined.writes reply acted.new store' live'.writes
    acts = subst (λ ws. HandleActs (by_objects store.objects) route_settings 0 command.moment command.second (call_of command.action) made s.handle store ws reply acted.new store' live'.writes) (sym s.writes) acted.acts

    led : (w' : World) × Link route_settings route.world command reply w' × Represents next store' w' × AllInSegments None w'
    led =
        linked route_settings command s.joined next store store' reply s.options
        (subst (λ k. DoesKind k route_settings s.joined store command reply next store') (sym whole) (
          (
            made,
            does-at (by_objects store.objects) route_settings command made (running s.joined store) reply (running next store') (OfObject 0) names
                (acts_on (by_objects store.objects) route_settings 0 command (call_of command.action) made (slice_get s.joined.objects 0) (running s.joined store) reply (running next store') (AHandle s.handle) (AHandle acted.new) s.joined_there acts refl),
          ),
          are-same_named command.action 0 s.joined.polls names handle-unbegun,
        ))
        (λ m f begins. absurd (let no : Whole ≡ Begins m = sym whole ∙ begins in cc)) route.world (s.over).represents (s.over).segments

    abbrev then : Route
    then = record { world = led.0; places = route.places; readers = route.readers }

    pub run-leads : (route' : Route) × Runs command reply route route' × StandFor live' store' readers route'
    run-leads = (
      then,
      record { link = led.1; places = refl; readers = refl },
      record {
        joined = next;
        over = record {
          represents = led.2;
          segments = led.3;
          are_at =
              let a = (s.over).are_at in
              record {
                count = a.count;
                there = λ i n f at is. get-set_other s.joined.objects 0 n (AHandle acted.new) (λ same. s.apart i (at ∙ ap Some same)) ∙ a.there i n f at is;
                distinct = a.distinct;
                managed = a.managed;
              };
          unbegun = (s.over).unbegun;
        };
        same = s.same;
        options = s.options;
        writes = refl;
        handle = acted.new;
        there = subst (λ os. slice_get os 0 ≡ Some (AHandle acted.new)) (sym acted.objects) (get-set_same live.objects 0 (AHandle acted.new) (AHandle s.handle) s.there);
        joined_there = get-set_same s.joined.objects 0 (AHandle acted.new) (AHandle s.handle) s.joined_there;
        apart = s.apart;
      },
    )

  -- how often the store has failed is what the worlds say
  faults-is : store.faults ≡ route.world.faults
  faults-is = ((s.over).represents.represents).faults

  -- an opening of a reader
  pub add-to : (moment : ℤ) (lifetime interval : ℕ) (result : Result Added RouteRefusal) (readers' : List Follower) (store' : Known (List Batch)) → AddsReader readers readers' store.faults store'.faults result →
      AddLeads (routing None s.joined) moment lifetime interval s.joined route.places route.world readers' result store' → (route' : Route) × AddsTo moment lifetime interval result route route' × StandFor live store' readers' route'
  add-to moment lifetime interval result readers' store' adds l =
      let then : Route = record { world = l.last; places = places_after route.places (length s.joined.objects) result; readers = readers' } in
      let faults' : store'.faults ≡ l.last.faults = ((l.over).represents.represents).faults in (
        then,
        record {
          adds = subst (λ n. AddsReader route.readers readers' route.world.faults n result) faults' (subst (λ n. AddsReader route.readers readers' n store'.faults result) faults-is (subst (λ rs. AddsReader rs readers' store.faults store'.faults result) s.same adds));
          ends = subst (λ n. AddEnds route_settings (opens_at moment lifetime interval) n route.world result l.last) count-is (subst (λ (x : Settings). AddEnds x (opens_at moment lifetime interval) (length s.joined.objects) route.world result l.last) routing-is l.ends);
          places = ap (λ n. places_after route.places n result) count-is;
          stored = l.stored;
        },
        record {
          joined = l.next;
          over = l.over;
          same = refl;
          options = (l.grows).options ∙ s.options;
          writes = (l.grows).writes ∙ s.writes;
          handle = s.handle;
          there = s.there;
          joined_there = (l.grows).objects 0 (AHandle s.handle) s.joined_there;
          apart = apart-then result;
        },
      )
    where
      apart-then : (r : Result Added RouteRefusal) (i : ℕ) → slice_get (places_after route.places (length s.joined.objects) r) i ≡ Some 0 → ⊥
      apart-then (Err refused) i at = s.apart i at
      apart-then (Ok added) i at = elim (get-push route.places (length s.joined.objects) 0 i at) [
        | inl old ↦ s.apart i old
        | inr new ↦ let below = slice_get_within s.joined.objects 0 (AHandle s.handle) s.joined_there in let e = new.1 in absurd (omega (arith, below, e))
      ]

  -- a read
  pub read-to : (moment : ℤ) (at_least : ℕ) (key : List ℕ) (result : Result Routed RouteRefusal) (readers' : List Follower) (store' : Known (List Batch)) → Answers at_least readers readers' store.faults store'.faults result →
      ReadLeads (routing None s.joined) moment key at_least s.joined route.places route.world readers readers' result store' → (route' : Route) × ReadsTo moment at_least key result route route' × StandFor live store' readers' route'
  read-to moment at_least key result readers' store' answered given =
      let l : ReadLeads route_settings moment key at_least s.joined route.places route.world readers readers' result store' =
      subst (λ (x : Settings). ReadLeads x moment key at_least s.joined route.places route.world readers readers' result store') routing-is given in
      let then : Route = record { world = l.last; places = route.places; readers = readers' } in
      let faults' : store'.faults ≡ l.last.faults = ((l.over).represents.represents).faults in
      let others = (l.polled).others in (
        then,
        record {
          steps = (l.polled).steps;
          chain = (l.polled).chain;
          passed = l.passed;
          passes = subst (λ rs. Passes at_least rs readers' l.passed result) s.same l.passes;
          polls = subst (λ rs. PollEach moment route.places (take l.passed rs) (l.polled).steps) s.same (l.polled).polls;
          answers = subst (λ n. Answers at_least route.readers readers' route.world.faults n result) faults' (subst (λ n. Answers at_least route.readers readers' n store'.faults result) faults-is (subst (λ rs. Answers at_least rs readers' store.faults store'.faults result) s.same answered));
          ends = l.ends;
          completes = λ can. l.completes (subst (λ rs. CanRead route_settings moment key at_least route.places rs readers' route.world l.last) (sym s.same) can);
          places = refl;
          stored = l.stored;
        },
        record {
          joined = (l.polled).next;
          over = l.over;
          same = refl;
          options = others.options ∙ s.options;
          writes = others.writes ∙ s.writes;
          handle = s.handle;
          there = s.there;
          joined_there = others.objects 0 s.apart ∙ s.joined_there;
          apart = s.apart;
        },
      )

  -- the world is valid, and the store holds it
  pub stands-reached : IsReachedRoute route
  stands-reached = record {
    reached = reached s.joined store route.world ((s.over).represents).represents;
    readers = subst (λ os. AreAt os route.places route.readers) objects-are (s.over).are_at;
  }

  pub stands-holds : HoldsWorld store route.world
  stands-holds =
      let r = ((s.over).represents).represents in
      record { after = (r.held).0; modelled = (r.held).1; sound = (r.held).2; holds = (r.held).3; fault_count = r.faults }

-- ---- the opening
-- no refusal is the reply of an opened handle
refusal-other : (error : SlateError) (n : ℕ) → refusal error ≡ replies.Handle n → ⊥
refusal-other errors.NoMemory n is = cc
refusal-other (errors.Backpressure unflushed limit) n is = cc
refusal-other error n is = cc

-- the live state before the handle is opened
abbrev pub none_yet : Live
none_yet = record { options = route_settings.options; objects = []; polls = []; writes = [] }

-- what the opening leads to
pub record Opened (o : Objects) (live' : Live) (store store' : Known (List Batch)) (reply : Reply) : Type 0 where
  pub world : World
  pub link : Link route_settings (start o store.faults) opening reply world
  pub left : HoldsWorld store' world
  pub stands : (n : ℕ) → reply ≡ replies.Handle n → (reply ≡ replies.Handle 0) × StandFor live' store' [] (none_routed world)

module _ (o : Objects) (live' : Live) (store store' : Known (List Batch)) (reply : Reply) (at : store.objects ≡ Some o) (sound : IsSound o) (done : IsDone route_settings none_yet store opening reply live' store') where
  abbrev joined : Live
  joined = record { options = route_settings.options; objects = live'.objects; polls = []; writes = live'.writes }

  opened-led : (w' : World) × Link route_settings (start o store.faults) opening reply w' × Represents joined store' w' × AllInSegments None w'
  opened-led =
      linked route_settings opening none_yet joined store store' reply refl (done.0, λ n begun. (λ there. absurd (cc), λ there. absurd (cc))) (λ m f begins. absurd (let no = begins in cc))
      (start o store.faults) (stands_start o store none_yet refl refl refl at sound) (all-start None (start o store.faults) refl)

  abbrev adds : OpensHandleIn (by_objects store.objects) route_settings true (done.0).0 (running none_yet store) reply (running live' store')
  adds = (done.0).1

  by-result : (r : Result Handle SlateError) → adds.result ≡ r → (n : ℕ) → reply ≡ replies.Handle n → (reply ≡ replies.Handle 0) × StandFor live' store' [] (none_routed opened-led.0)
  by-result (Err error) is n opens = absurd (refusal-other error n (sym (adds.replied ∙ ap (reply_to (λ (h : Handle). replies.Handle 0)) is) ∙ opens))
  by-result (Ok h) is n opens =
      let objects : live'.objects ≡ AHandle h ∷ [] = adds.objects ∙ ap (added AHandle) is in
      let there : slice_get live'.objects 0 ≡ Some (AHandle h) = ap (λ os. slice_get os 0) objects in (
        adds.replied ∙ ap (reply_to (λ (h : Handle). replies.Handle 0)) is,
        record {
          joined = joined;
          over = record {
            represents = opened-led.2;
            segments = opened-led.3;
            are_at = record { count = refl; there = λ i m f no is. absurd (cc); distinct = λ i j m no other. absurd (cc); managed = λ i f no. absurd (cc) };
            unbegun = λ i m begun no. absurd (cc);
          };
          same = refl;
          options = refl;
          writes = refl;
          handle = h;
          there = there;
          joined_there = there;
          apart = λ i no. cc;
        },
      )

  pub opening-leads : Opened o live' store store' reply
  opening-leads = record {
    world = opened-led.0;
    link = opened-led.1;
    left = (let r = (opened-led.2).represents in record { after = (r.held).0; modelled = (r.held).1; sound = (r.held).2; holds = (r.held).3; fault_count = r.faults });
    stands = by-result adds.result refl;
  }

-- ---- lines, one after another
-- steps for these commands with these answers, from there on
pub record Done (first : Route) (commands : List RouteCommand) (routed : List RouteAnswer) (steps : List RouteStep) : Type 0 where
  pub commands_are : map (λ (step : RouteStep). step.command) steps ≡ commands
  pub answers_are : map (λ (step : RouteStep). step.answer) steps ≡ routed
  pub chain : RouteChain first steps

pub done-none : (first : Route) (routed : List RouteAnswer) → routed ≡ [] → Done first [] routed []
done-none first routed none = record { commands_are = refl; answers_are = sym none; chain = tt }

route-push : (first : Route) (steps : List RouteStep) (step : RouteStep) → RouteChain first steps → RouteLink step.command step.answer (last_route first steps) step.route → IsReachedRoute step.route → RouteChain first (steps ++ step ∷ [])
route-push first [] step chain link reached = (link, reached, tt)
route-push first (s ∷ steps) step chain link reached = (chain.0, chain.1, route-push s.route steps step chain.2 link reached)

pub last-pushed : (first : Route) (steps : List RouteStep) (step : RouteStep) → last_route first (steps ++ step ∷ []) ≡ step.route
last-pushed first [] step = refl
last-pushed first (s ∷ steps) step = last-pushed s.route steps step

pub done-next : (first : Route) (steps : List RouteStep) (commands : List RouteCommand) (command : RouteCommand) (routed routed' : List RouteAnswer) (answer : RouteAnswer) (next : Route) → routed' ≡ routed ++ answer ∷ [] → Done first commands routed steps →
    RouteLink command answer (last_route first steps) next → IsReachedRoute next → Done first (commands ++ command ∷ []) routed' (steps ++ record { command = command; answer = answer; route = next } ∷ [])
done-next first steps commands command routed routed' answer next pushed done link reached =
    let step : RouteStep = record { command = command; answer = answer; route = next } in
    record {
      commands_are = map-append (λ (s : RouteStep). s.command) steps (step ∷ []) ∙ ap (λ cs. cs ++ command ∷ []) done.commands_are;
      answers_are = map-append (λ (s : RouteStep). s.answer) steps (step ∷ []) ∙ (ap (λ rs. rs ++ answer ∷ []) done.answers_are ∙ sym pushed);
      chain = route-push first steps step done.chain link reached;
    }

pub runs-on : (first : Route) (steps : List RouteStep) (commands : List RouteCommand) (routed : List RouteAnswer) (store : Known (List Batch)) → Done first commands routed steps → HoldsWorld store (last_route first steps).world → RoutesOn commands routed first store
runs-on first steps commands routed store done holds = record { steps = steps; commands_are = done.commands_are; answers_are = done.answers_are; chain = done.chain; left = holds }

-- ---- the links of lines, by their actions
pub put-link : (action : RouteAction) (moment : ℤ) (second : Option ℤ) (key value : List ℕ) (command : Command) (reply : Reply) (a b : Route) → action ≡ asked.Put key value → command ≡ put_command moment second key value → Runs command reply a b → RouteLinks action moment second (answers.Replied reply) a b
put-link action moment second key value command reply a b is same runs =
    subst (λ (x : RouteAction). RouteLinks x moment second (answers.Replied reply) a b) (sym is) (subst (λ (x : Command). Runs x reply a b) same runs)

pub flush-link : (action : RouteAction) (moment : ℤ) (second : Option ℤ) (command : Command) (reply : Reply) (a b : Route) → action ≡ asked.Flush → command ≡ flush_command moment second → Runs command reply a b → RouteLinks action moment second (answers.Replied reply) a b
flush-link action moment second command reply a b is same runs =
    subst (λ (x : RouteAction). RouteLinks x moment second (answers.Replied reply) a b) (sym is) (subst (λ (x : Command). Runs x reply a b) same runs)

-- the readers of a session's router are those of its route
pub over-readers : (live : Live) (store : Known (List Batch)) (readers : List Follower) (route : Route) (s : StandFor live store readers route) → RoutesOver s.joined store route.places readers route.world
over-readers live store readers route s = subst (λ rs. RoutesOver s.joined store route.places rs route.world) (sym s.same) s.over

pub reads-with : {settings : Settings} {at_least : ℕ} {live : Live} {places : List ℕ} {w : World} {old new : List Follower} {result : Result Routed RouteRefusal} {store : Known (List Batch)} (at moment : ℤ) → at ≡ moment → (found key : List ℕ) → found ≡ key →
    ReadLeads settings at found at_least live places w old new result store → ReadLeads settings moment key at_least live places w old new result store
reads-with {settings} {at_least} {live} {places} {w} {old} {new} {result} {store} at moment same found key is l =
    subst (λ m. ReadLeads settings m key at_least live places w old new result store) same (subst (λ k. ReadLeads settings at k at_least live places w old new result store) is l)
