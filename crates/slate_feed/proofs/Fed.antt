-- The steps of a session, one after another.
use Rattle.std.proofs.Common.{◌≡◌, ℕ, ◌+◌, ◌<◌, ◌≤◌, List, [], ◌∷◌, ◌++◌, length, map, take, drop, get_or, Some, refl, sym, subst, ap, ◌∙◌, arith}
use Rattle.std.proofs.lemmas.List.{append-nil, drop_all, map-append, take_more, take_all}
use Rattle.slate_types.specs.declared.batches.Batch.{Batch}
use Rattle.slate_store.specs.Content.{IsSound}
use Rattle.slate_store.specs.Objects.{Objects}
use Rattle.slate_model.specs.Known.{Known}
use Rattle.slate_live.proofs.Failing.{may-fail}
use Rattle.slate_live.specs.State.{Live}
use Rattle.slate_live.specs.Worlds.{IsReached}
use Rattle.slate_feed.specs.declared.commands.FeedAnswer.{FeedAnswer}
use Rattle.slate_feed.specs.declared.commands.FeedCommand.{FeedCommand}
use Rattle.slate_feed.specs.Session.{AsksStore, Fed, FeedChain, FeedLink, FeedStep, FeedsOver, StandFor, feed_settings, last_fed, start_fed}
use Rattle.slate_feed.proofs.Feeding.{feeds-deliver}

chain-push : (first : Fed) (steps : List FeedStep) (step : FeedStep) → FeedChain first steps → FeedLink step.command step.answer (last_fed first steps) step.fed → IsReached step.fed.world → FeedChain first (steps ++ step ∷ [])
chain-push first [] step chain link reached = (link, reached, tt)
chain-push first (s ∷ steps) step chain link reached = (chain.0, chain.1, chain-push s.fed steps step chain.2 link reached)

last-push : (first : Fed) (steps : List FeedStep) (step : FeedStep) → last_fed first (steps ++ step ∷ []) ≡ step.fed
last-push first [] step = refl
last-push first (s ∷ steps) step = last-push s.fed steps step

-- steps for these commands with these answers, from there on
pub record Done (first : Fed) (commands : List FeedCommand) (answers : List FeedAnswer) (steps : List FeedStep) : Type 0 where
  pub commands_are : map (λ (step : FeedStep). step.command) steps ≡ commands
  pub answers_are : map (λ (step : FeedStep). step.answer) steps ≡ answers
  pub chain : FeedChain first steps

pub done-none : (first : Fed) (answers : List FeedAnswer) → answers ≡ [] → Done first [] answers []
done-none first answers none = record { commands_are = refl; answers_are = sym none; chain = tt }

pub stands-reached : (live : Live) (store : Known (List Batch)) (cursors : List ℕ) (fed : Fed) → StandFor live store cursors fed → IsReached fed.world
stands-reached live store cursors fed s =
    let r = s.represents.represents in (r.valid, (r.held).0, (r.held).2, (r.held).3)

module _ (first : Fed) (steps : List FeedStep) (commands : List FeedCommand) (i : ℕ) (command : FeedCommand) (answers answers' : List FeedAnswer) (answer : FeedAnswer) (next : Fed) where
  abbrev step : FeedStep
  step = record { command = command; answer = answer; fed = next }

  pub done-next : i < length commands → command ≡ get_or commands i command → answers' ≡ answers ++ answer ∷ [] → Done first (take i commands) answers steps → FeedLink command answer (last_fed first steps) next → IsReached next.world →
      Done first (take (i + 1) commands) answers' (steps ++ step ∷ [])
  done-next inside item pushed done link reached =
      let more : take (i + 1) commands ≡ take i commands ++ command ∷ [] = take_more commands i command inside ∙ ap (λ c. take i commands ++ c ∷ []) (sym item) in
      record {
        commands_are = map-append (λ (s : FeedStep). s.command) steps (step ∷ []) ∙ ap (λ cs. cs ++ command ∷ []) done.commands_are ∙ sym more;
        answers_are = map-append (λ (s : FeedStep). s.answer) steps (step ∷ []) ∙ ap (λ rs. rs ++ answer ∷ []) done.answers_are ∙ sym pushed;
        chain = chain-push first steps step done.chain link reached;
      }

  pub stands-push : (live : Live) (store : Known (List Batch)) (cursors : List ℕ) → StandFor live store cursors next → StandFor live store cursors (last_fed first (steps ++ step ∷ []))
  stands-push live store cursors s = subst (StandFor live store cursors) (sym (last-push first steps step)) s

-- a list whose front was written back
pub written-back : {X : Type 0} (xs ys : List X) (n : ℕ) → n ≡ length ys → length xs ≡ length ys → take n (xs ++ drop (length xs) ys) ≡ xs
written-back {X} xs ys n whole same =
    let none : drop (length xs) ys ≡ [] = drop_all (length xs) ys (omega (arith, same)) in
    let all : xs ++ drop (length xs) ys ≡ xs = ap (λ (zs : List X). xs ++ zs) none ∙ append-nil xs in
    ap (take n) all ∙ take_all n xs (omega (arith, whole, same))

-- ---- a feed's call
-- It leaves state and store standing for the world, but for the count of faults, and the feeds for other cursors.
module _ (live : Live) (store store' : Known (List Batch)) (cursors cursors' : List ℕ) (fed : Fed) (s : StandFor live store cursors fed) (kept : store'.objects ≡ store.objects) (more : store.faults ≤ store'.faults) where
  abbrev pub next : Fed
  next = record { world = record fed.world { faults = store'.faults }; cursors = cursors' }

  next-stands : StandFor live store' cursors' next
  next-stands =
      let left = may-fail live store store' fed.world s.represents kept in
      record { represents = left.0; segments = left.1 feed_settings.extractor s.segments; same = refl }

  module _ (Means : Objects → ℕ → List ℕ → Type 0) (means : (o : Objects) → store.objects ≡ Some o → IsSound o → Means o store.faults cursors) where
    pub asks-left : AsksStore (λ o. Means o fed.world.faults fed.cursors) fed.world next.world × StandFor live store' cursors' next
    asks-left =
        let r = s.represents.represents in
        let held = r.held in (
          record {
            rests = record { same = refl; faults = subst (λ n. n ≤ store'.faults) r.faults more };
            objects = held.0;
            sound = held.2;
            holds = held.3;
            means = subst (λ n. Means held.0 n fed.cursors) r.faults (subst (Means held.0 store.faults) s.same (means held.0 held.1 held.2));
          },
          next-stands,
        )

-- all commands were run
pub fed-over : (commands : List FeedCommand) (i : ℕ) (answers : List FeedAnswer) (o : Objects) (faults : ℕ) (live : Live) (store : Known (List Batch)) (cursors : List ℕ) (steps : List FeedStep) → length commands ≤ i →
    Done (start_fed o faults) (take i commands) answers steps → StandFor live store cursors (last_fed (start_fed o faults) steps) → FeedsOver commands answers o faults store
fed-over commands i answers o faults live store cursors steps over done s =
    let r = s.represents.represents in
    record {
      steps = steps;
      commands_are = done.commands_are ∙ take_all i commands over;
      answers_are = done.answers_are;
      chain = done.chain;
      delivers = feeds-deliver (start_fed o faults) steps done.chain;
      last = last_fed (start_fed o faults) steps;
      is_last = refl;
      after = (r.held).0;
      modelled = (r.held).1;
      sound = (r.held).2;
      holds = (r.held).3;
      fault_count = r.faults;
    }
