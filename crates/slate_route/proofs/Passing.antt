-- The polls of a read, over any store: which readers they poll, and the first error that one was answered.
use Rattle.std.proofs.Common.{◌≡◌, ◌∙◌, ◌+◌, ◌<◌, ◌≤◌, ◌++◌, ◌∷◌, ℕ, ℤ, true, false, List, [], length, map, take, Option, Some, None, Result, Ok, Err, refl, sym, subst, ap, arith}
use Rattle.std.specs.Prelude.{slice_get}
use Rattle.std.specs.List.{range_with_len}
use Rattle.std.specs.Option.{option_or}
use Rattle.std.specs.Result.{result_err}
use Rattle.std.proofs.lemmas.List.{map-append, take_all}
use Rattle.std.proofs.lemmas.List.FromFn.{get_or-range_with_len, length-range_with_len}
use Rattle.std.proofs.lemmas.Option.{slice_get_within, slice_get-get_or}
use Rattle.slate_types.specs.declared.batches.Batch.{Batch}
use Rattle.slate_errors.specs.declared.errors.SlateError.{SlateError}
use Rattle.slate_errors.specs.declared.errors.SlateError.TheVariants as errors
use Rattle.slate_model.specs.declared.answers.PollAnswer.{PollAnswer}
use Rattle.slate_model.specs.Follower.{Follower}
use Rattle.slate_model.specs.Known.{Known}
use Rattle.slate_route.specs.declared.answers.RouteRefusal.{RouteRefusal}
use Rattle.slate_route.specs.declared.answers.RouteRefusal.TheVariants as refusals
use Rattle.slate_route.specs.declared.answers.Routed.{Routed}
use Rattle.slate_route.specs.declared.routers.Covering.{Covering}
use Rattle.slate_route.specs.Reading.{Passes, first_covering, is_open, of_open, passed_by, read_refusal}
use Rattle.slate_route.specs.Turns.{Polled, PollsAt, PollsFor, Tells, Turn, first_failure}
use Rattle.slate_route.proofs.Finding.{open-more, open-same}

-- ---- the first of two and more
pub or-none : {A : Type 0} (o : Option A) → option_or o None ≡ o
or-none None = refl
or-none (Some x) = refl

pub or-or : {A : Type 0} (a b c : Option A) → option_or a (option_or b c) ≡ option_or (option_or a b) c
or-or None b c = refl
or-or (Some x) b c = refl

-- ---- the polls so far
failure-push : (turns : List Turn) (turn : Turn) → first_failure (turns ++ turn ∷ []) ≡ option_or (first_failure turns) (result_err turn.result)
failure-push [] turn = or-none (result_err turn.result)
failure-push (t ∷ turns) turn = ap (option_or (result_err t.result)) (failure-push turns turn) ∙ or-or (result_err t.result) (first_failure turns) (result_err turn.result)

polled-push : (moment : ℤ) (turns : List Turn) (turn : Turn) (old : List Follower) (before : Known (List Batch)) (mid : List Follower) (between : Known (List Batch)) (new : List Follower) (after : Known (List Batch)) → Polled moment turns old before mid between →
    PollsAt turn.place moment mid between turn.result new after → Polled moment (turns ++ turn ∷ []) old before new after
polled-push moment [] turn old before mid between new after polled last =
    (new, after, subst (λ (k : Known (List Batch)). PollsAt turn.place moment old k turn.result new after) polled.1 (subst (λ (xs : List Follower). PollsAt turn.place moment xs between turn.result new after) polled.0 last), (refl, refl))
polled-push moment (t ∷ turns) turn old before mid between new after polled last =
    (polled.0, polled.1, polled.2, polled-push moment turns turn polled.0 polled.1 mid between new after polled.3 last)

-- of the readers before a place, the open ones were polled
pub record SoFar (moment : ℤ) (old : List Follower) (before : Known (List Batch)) (place : ℕ) (cur : List Follower) (after : Known (List Batch)) (first : Option SlateError) : Type 0 where
  pub turns : List Turn
  pub places : map (λ (turn : Turn). turn.place) turns ≡ of_open (take place old) (range_with_len 0 (length old))
  pub polled : Polled moment turns old before cur after
  pub failure : first_failure turns ≡ first

-- a place is its own number
place-at : (n place : ℕ) → place < n → slice_get (range_with_len 0 n) place ≡ Some place
place-at n place inside =
    let long = length-range_with_len 0 n in
    let zero_on : 0 + place ≡ place = omega arith in
    slice_get-get_or (range_with_len 0 n) place 0 (omega (arith, long, inside)) ∙ ap Some (get_or-range_with_len 0 n place 0 inside ∙ zero_on)

module _ (moment : ℤ) (old : List Follower) (before : Known (List Batch)) where
  pub far-none : SoFar moment old before 0 old before None
  far-none = record { turns = []; places = refl; polled = (refl, refl); failure = refl }

  module _ (place : ℕ) (cur : List Follower) (after : Known (List Batch)) (first : Option SlateError) (s : SoFar moment old before place cur after first) where
    pub far-closed : (f : Follower) → slice_get old place ≡ Some f → is_open f ≡ false → SoFar moment old before (place + 1) cur after first
    far-closed f at closed = record {
      turns = s.turns;
      places = s.places ∙ sym (open-same old (range_with_len 0 (length old)) place f at closed);
      polled = s.polled;
      failure = s.failure;
    }

    pub far-next : (f : Follower) → slice_get old place ≡ Some f → is_open f ≡ true → (result : Result PollAnswer SlateError) (cur' : List Follower) (after' : Known (List Batch)) → PollsAt place moment cur after result cur' after' →
        SoFar moment old before (place + 1) cur' after' (option_or first (result_err result))
    far-next f at opened result cur' after' q =
        let turn : Turn = record { place = place; result = result } in
        record {
          turns = s.turns ++ turn ∷ [];
          places =
              map-append (λ (t : Turn). t.place) s.turns (turn ∷ [])
              ∙ (ap (λ (ns : List ℕ). ns ++ place ∷ []) s.places
              ∙ sym (open-more old (range_with_len 0 (length old)) place f place at opened (place-at (length old) place (slice_get_within old place f at))));
          polled = polled-push moment s.turns turn old before cur after cur' after' s.polled q;
          failure = failure-push s.turns turn ∙ ap (λ o. option_or o (result_err result)) s.failure;
        }

    -- all were passed
    pub far-all : length old ≤ place → SoFar moment old before (length old) cur after first
    far-all over = record {
      turns = s.turns;
      places = s.places ∙ ap (λ (readers : List Follower). of_open readers (range_with_len 0 (length old))) (take_all place old over ∙ sym (take_all (length old) old (omega arith)));
      polled = s.polled;
      failure = s.failure;
    }

    -- ---- the end of the polls
    pub polls-for : {A : Type 0} (at_least : ℕ) (result : Result A RouteRefusal) → Passes at_least old cur place result → ((turns : List Turn) → first_failure turns ≡ first → Tells turns result) → PollsFor at_least moment old before result cur after
    polls-for {A} at_least result passes tells = record {
      passed = place;
      passes = passes;
      turns = s.turns;
      places = s.places;
      polled = s.polled;
      tells = tells s.turns s.failure;
    }

pub for-with : {A : Type 0} {at_least : ℕ} {old new : List Follower} {before after : Known (List Batch)} {result : Result A RouteRefusal} (at moment : ℤ) → at ≡ moment → PollsFor at_least at old before result new after → PollsFor at_least moment old before result new after
for-with {A} {at_least} {old} {new} {before} {after} {result} at moment same polls = subst (λ m. PollsFor at_least m old before result new after) same polls

-- ---- a read by them
pub none-passes : (at_least : ℕ) (old new : List Follower) (passed : ℕ) (refusal : RouteRefusal) → Passes {A = Covering} at_least old new passed (Err refusal) → Passes {A = Routed} at_least old new passed (Err refusal)
none-passes at_least old new passed refusals.NoFollower passes = passes
none-passes at_least old new passed refusals.NoMemory passes = passes
none-passes at_least old new passed refusal passes = passes

none-tells : (turns : List Turn) (refusal : RouteRefusal) → Tells {A = Covering} turns (Err refusal) → Tells {A = Routed} turns (Err refusal)
none-tells turns (refusals.Poll error) tells = tells
none-tells turns (refusals.Behind asked best) tells = tells
none-tells turns refusal tells = tells

pub refusal-passes : (at_least : ℕ) (old new : List Follower) (passed : ℕ) (error : SlateError) → passed ≡ passed_by (first_covering at_least old) (first_covering at_least new) (length old) → Passes {A = Routed} at_least old new passed (Err (read_refusal error))
refusal-passes at_least old new passed errors.NoMemory is = tt
refusal-passes at_least old new passed error is = is

module _ (at_least : ℕ) (moment : ℤ) (old : List Follower) (before : Known (List Batch)) (new : List Follower) (after : Known (List Batch)) where
  pub polls-row : (covering : Covering) (routed : Routed) → PollsFor at_least moment old before (Ok covering) new after → PollsFor at_least moment old before (Ok routed) new after
  polls-row covering routed p = record { passed = p.passed; passes = p.passes; turns = p.turns; places = p.places; polled = p.polled; tells = tt }

  pub polls-refused : (covering : Covering) (error : SlateError) → PollsFor at_least moment old before (Ok covering) new after → PollsFor {A = Routed} at_least moment old before (Err (read_refusal error)) new after
  polls-refused covering error p = record {
    passed = p.passed;
    passes = refusal-passes at_least old new p.passed error p.passes;
    turns = p.turns;
    places = p.places;
    polled = p.polled;
    tells = read-tells p.turns error;
  } where
    read-tells : (turns : List Turn) (error : SlateError) → Tells {A = Routed} turns (Err (read_refusal error))
    read-tells turns errors.NoMemory = tt
    read-tells turns error = tt

  pub polls-none : (refusal : RouteRefusal) → PollsFor {A = Covering} at_least moment old before (Err refusal) new after → PollsFor {A = Routed} at_least moment old before (Err refusal) new after
  polls-none refusal p = record {
    passed = p.passed;
    passes = none-passes at_least old new p.passed refusal p.passes;
    turns = p.turns;
    places = p.places;
    polled = p.polled;
    tells = none-tells p.turns refusal p.tells;
  }
