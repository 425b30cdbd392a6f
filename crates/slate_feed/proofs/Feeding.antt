-- What the feeds of a session deliver, by its links.
use Rattle.std.proofs.Common.{◌≡◌, ℕ, zero, suc, ◌+◌, ◌<◌, ◌==◌, Bool, true, false, cond, List, [], ◌∷◌, ◌++◌, length, map, take, drop, Option, Some, None, Result, Ok, Err, refl, sym, subst, ap, ◌∙◌, arith, add-zero}
use Rattle.std.specs.Prelude.{slice_get, slice_set}
use Rattle.std.proofs.lemmas.Bool.{eqb-true, eqb-false}
use Rattle.std.proofs.lemmas.List.{take-append-drop}
use Rattle.std.proofs.lemmas.Option.{slice_get_within}
use Rattle.slate_types.specs.Line.{IsPrefix, Line, batches_above}
use Rattle.slate_types.specs.declared.batches.Batch.{Batch}
use Rattle.slate_store.specs.Content.{content}
use Rattle.slate_store.specs.Objects.{Objects}
use Rattle.slate_model.proofs.Prefixes.{prefix-same, prefix-then}
use Rattle.slate_live.specs.World.{World}
use Rattle.slate_feed.specs.declared.commands.FeedAnswer.{FeedAnswer}
use Rattle.slate_feed.specs.declared.commands.FeedAnswer.TheVariants.{Replied, Opened, Delivered, Refused, Unknown}
use Rattle.slate_feed.specs.declared.commands.FeedCommand.{FeedCommand}
use Rattle.slate_feed.specs.declared.commands.FeedCommand.TheVariants.{Run, Open, Next}
use Rattle.slate_feed.specs.Answer.{Delivers}
use Rattle.slate_feed.specs.Delivered.{AreDeliveries, BeginsAbove}
use Rattle.slate_feed.specs.Session.{AsksBy, AsksStore, CallsBy, DeliversFrom, Fed, FeedChain, FeedLink, FeedStep, FeedsDeliver, OpensBy, deliveries_of, given_by, last_fed}

-- ---- cursors at their places
module _ {X : Type 0} where
  pub added-last : (xs : List X) (x : X) → slice_get (xs ++ x ∷ []) (length xs) ≡ Some x
  added-last [] x = refl
  added-last (y ∷ xs) x = added-last xs x

  pub added-before : (xs : List X) (x : X) (n : ℕ) (y : X) → slice_get xs n ≡ Some y → slice_get (xs ++ x ∷ []) n ≡ Some y
  added-before [] x n y at = absurd (let no = at in cc)
  added-before (z ∷ xs) x zero y at = at
  added-before (z ∷ xs) x (suc n) y at = added-before xs x n y at

  pub set-there : (xs : List X) (k : ℕ) (x : X) → k < length xs → slice_get (slice_set xs k x) k ≡ Some x
  set-there [] k x within = absurd (omega (arith, within))
  set-there (y ∷ xs) zero x within = refl
  set-there (y ∷ xs) (suc k) x within = set-there xs k x (omega (arith, within))

  pub set-other : (xs : List X) (k : ℕ) (x : X) (n : ℕ) → (n ≡ k → ⊥) → slice_get (slice_set xs k x) n ≡ slice_get xs n
  set-other [] k x n differ = refl
  set-other (y ∷ xs) zero x zero differ = absurd (differ refl)
  set-other (y ∷ xs) zero x (suc n) differ = refl
  set-other (y ∷ xs) (suc k) x zero differ = refl
  set-other (y ∷ xs) (suc k) x (suc n) differ = set-other xs k x n (λ same. differ (ap suc same))

-- ---- a link, as a feed with a cursor sees it
record Sees (c : ℕ) (given : List Batch) (i : ℕ) (a b : Fed) : Type 0 where
  grows : IsPrefix a.world.stored b.world.stored
  begins : BeginsAbove c b.world.stored given
  cursor : slice_get b.cursors i ≡ Some (c + length given)

module _ (i c : ℕ) (a b : Fed) (at : slice_get a.cursors i ≡ Some c) where
  -- it is handed nothing
  sees-none : IsPrefix a.world.stored b.world.stored → slice_get b.cursors i ≡ Some c → Sees c [] i a b
  sees-none grows cursor = record {
    grows = grows;
    begins = record { numbered = tt; rest = batches_above c b.world.stored.batches; begins = refl };
    cursor = cursor ∙ ap Some (sym (add-zero c));
  }

  same-cursor : b.cursors ≡ a.cursors → slice_get b.cursors i ≡ Some c
  same-cursor same = ap (λ cs. slice_get cs i) same ∙ at

  module _ (Means : Objects → Type 0) (asks : AsksStore Means a.world b.world) where
    same-stored : b.world.stored ≡ a.world.stored
    same-stored = ap (λ (w : World). w.stored) asks.rests.same

    rests-grows : IsPrefix a.world.stored b.world.stored
    rests-grows = subst (IsPrefix a.world.stored) (sym same-stored) (prefix-same a.world.stored)

    content-stored : content asks.objects ≡ b.world.stored
    content-stored = asks.holds.stored ∙ sym same-stored

-- an opening
sees-open : (i c : ℕ) (a b : Fed) (at : slice_get a.cursors i ≡ Some c) (after : ℕ) (answer : FeedAnswer) →
    AsksStore (λ objects. OpensBy objects after answer a.world.faults b.world.faults a.cursors b.cursors) a.world b.world → Sees c (given_by i (Open after) answer) i a b
sees-open i c a b at after (Opened feed now) asks =
    sees-none i c a b at (rests-grows i c a b at _ asks) (ap (λ cs. slice_get cs i) asks.means.2 ∙ added-before a.cursors now i c at)
sees-open i c a b at after (Refused refusal) asks = sees-none i c a b at (rests-grows i c a b at _ asks) (same-cursor i c a b at asks.means.2)
sees-open i c a b at after (Replied reply) asks = absurd asks.means
sees-open i c a b at after (Delivered now batches) asks = absurd asks.means
sees-open i c a b at after Unknown asks = absurd asks.means

-- a call of a feed
module _ (i c : ℕ) (a b : Fed) (at : slice_get a.cursors i ≡ Some c) (feed limit : ℕ) (Means : Objects → Type 0) (asks : AsksStore Means a.world b.world) where
  abbrev handed : Bool → List Batch → List Batch
  handed mine batches = cond mine batches []

  delivered : (cursor now : ℕ) (batches : List Batch) → slice_get a.cursors feed ≡ Some cursor →
      CallsBy asks.objects feed limit cursor (Delivered now batches) a.world.faults b.world.faults a.cursors b.cursors → Sees c (handed (feed == i) batches) i a b
  delivered cursor now batches found calls = by (feed == i) refl where
    by : (mine : Bool) → (feed == i) ≡ mine → Sees c (handed mine batches) i a b
    by false other =
        sees-none i c a b at (rests-grows i c a b at Means asks)
        (ap (λ cs. slice_get cs i) calls.3 ∙ (set-other a.cursors feed now i (λ same. eqb-false feed i other (sym same)) ∙ at))
    by true mine =
        let same : feed ≡ i = eqb-true feed i mine in
        let one : cursor ≡ c = (let here = ap (slice_get a.cursors) (sym same) in let both = sym found ∙ (sym here ∙ at) in cc) in
        let above = batches_above cursor (content asks.objects).batches in
        let all : above ≡ batches ++ drop limit above = sym (take-append-drop limit above) ∙ ap (λ bs. bs ++ drop limit above) (sym calls.0.2) in
        let stands : BeginsAbove cursor (content asks.objects) batches = record { numbered = calls.1; rest = drop limit above; begins = all } in
        record {
          grows = rests-grows i c a b at Means asks;
          begins = subst (λ (l : Line). BeginsAbove c l batches) (content-stored i c a b at Means asks) (subst (λ n. BeginsAbove n (content asks.objects) batches) one stands);
          cursor = ap (λ cs. slice_get cs i) calls.3
              ∙ (subst (λ n. slice_get (slice_set a.cursors feed now) n ≡ Some now) same (set-there a.cursors feed now (slice_get_within a.cursors feed cursor found))
              ∙ ap Some (calls.2 ∙ ap (λ n. n + length batches) one));
        }

  called : (cursor : ℕ) (answer : FeedAnswer) → slice_get a.cursors feed ≡ Some cursor → CallsBy asks.objects feed limit cursor answer a.world.faults b.world.faults a.cursors b.cursors → Sees c (given_by i (Next feed limit) answer) i a b
  called cursor (Delivered now batches) found calls = delivered cursor now batches found calls
  called cursor (Refused refusal) found calls = sees-none i c a b at (rests-grows i c a b at Means asks) (same-cursor i c a b at calls.2)
  called cursor (Replied reply) found calls = absurd calls
  called cursor (Opened number now) found calls = absurd calls
  called cursor Unknown found calls = absurd calls

  asked : (found : Option ℕ) (answer : FeedAnswer) → slice_get a.cursors feed ≡ found → AsksBy asks.objects feed limit found answer a.world.faults b.world.faults a.cursors b.cursors → Sees c (given_by i (Next feed limit) answer) i a b
  asked (Some cursor) answer is calls = called cursor answer is calls
  asked None answer is none =
      subst (λ x. Sees c (given_by i (Next feed limit) x) i a b) (sym none.0) (sees-none i c a b at (rests-grows i c a b at Means asks) (same-cursor i c a b at none.2))

sees : (i c : ℕ) (a b : Fed) (at : slice_get a.cursors i ≡ Some c) (command : FeedCommand) (answer : FeedAnswer) → FeedLink command answer a b → Sees c (given_by i command answer) i a b
sees i c a b at (Run command) (Replied reply) link = sees-none i c a b at link.0.grows (same-cursor i c a b at link.1)
sees i c a b at (Run command) (Opened feed now) link = absurd link
sees i c a b at (Run command) (Delivered now batches) link = absurd link
sees i c a b at (Run command) (Refused refusal) link = absurd link
sees i c a b at (Run command) Unknown link = absurd link
sees i c a b at (Open after) answer link = sees-open i c a b at after answer link
sees i c a b at (Next feed limit) answer link = asked i c a b at feed limit _ link (slice_get a.cursors feed) answer refl link.means

-- ---- all of them
delivers-from : (i c : ℕ) (line : Line) (fed : Fed) (steps : List FeedStep) → FeedChain fed steps → slice_get fed.cursors i ≡ Some c → IsPrefix line fed.world.stored → AreDeliveries c line (deliveries_of i steps)
delivers-from i c line fed [] chain at prefix = tt
delivers-from i c line fed (step ∷ steps) chain at prefix =
    let one = sees i c fed step.fed at step.command step.answer chain.0 in (
      prefix-then line fed.world.stored step.fed.world.stored prefix one.grows,
      chain.1.0.line,
      one.begins,
      delivers-from i (c + length (given_by i step.command step.answer)) step.fed.world.stored step.fed steps chain.2 one.cursor (prefix-same step.fed.world.stored),
    )

opened-at : (a b : Fed) (command : FeedCommand) (feed after : ℕ) → FeedLink command (Opened feed after) a b → slice_get b.cursors feed ≡ Some after
opened-at a b (Run command) feed after link = absurd link
opened-at a b (Open number) feed after link =
    let m = link.means in ap (λ cs. slice_get cs feed) m.2 ∙ (ap (slice_get (a.cursors ++ after ∷ [])) m.1 ∙ added-last a.cursors after)
opened-at a b (Next number limit) feed after link = by (slice_get a.cursors number) link.means where
  by : (found : Option ℕ) → AsksBy link.objects number limit found (Opened feed after) a.world.faults b.world.faults a.cursors b.cursors → slice_get b.cursors feed ≡ Some after
  by (Some cursor) m = absurd m
  by None m = absurd (let no = m.0 in cc)

opened-delivers : (a b : Fed) (steps : List FeedStep) (command : FeedCommand) (answer : FeedAnswer) → FeedLink command answer a b → FeedChain b steps → DeliversFrom answer b.world.stored steps
opened-delivers a b steps command (Opened feed after) link chain =
    delivers-from feed after b.world.stored b steps chain (opened-at a b command feed after link) (prefix-same b.world.stored)
opened-delivers a b steps command (Replied reply) link chain = tt
opened-delivers a b steps command (Delivered now batches) link chain = tt
opened-delivers a b steps command (Refused refusal) link chain = tt
opened-delivers a b steps command Unknown link chain = tt

pub feeds-deliver : (fed : Fed) (steps : List FeedStep) → FeedChain fed steps → FeedsDeliver steps
feeds-deliver fed [] chain = tt
feeds-deliver fed (step ∷ steps) chain = (opened-delivers fed step.fed steps step.command step.answer chain.0 chain.2, feeds-deliver step.fed steps chain.2)
