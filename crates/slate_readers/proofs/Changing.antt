-- The states that are published are those that differ from the one before them.
use Rattle.std.proofs.Common.{◌≡◌, ◌≢◌, ◌⊎◌, inl, inr, ◌∙◌, ℕ, ◌+◌, ◌<◌, ◌≤◌, List, [], ◌∷◌, ◌++◌, length, map, Option, Some, None, refl, sym, subst, ap, arith, length-append}
use Rattle.std.specs.Option.{option_map, option_map_or}
use Rattle.std.proofs.lemmas.List.Sums.{fold-append}
use Rattle.slate_types.specs.declared.batches.Batch.{Batch}
use Rattle.slate_store.specs.declared.objects.TableId.{TableId}
use Rattle.slate_types.specs.Line.{Line, IsPrefix, batches_above, end}
use Rattle.slate_published.specs.Published.{Published}
use Rattle.slate_published.specs.States.{last_of, nothing_published}
use Rattle.slate_model.specs.Follower.{Follower, number}
use Rattle.slate_model.specs.Handle.{up_to}
use Rattle.slate_model.specs.Object.{Follower as AFollower}
use Rattle.slate_model.proofs.Prefixes.{prefix-then, up_to-end}
use Rattle.slate_live.specs.Rising.{FollowerRises}
use Rattle.slate_live.specs.Steps.{Step, last_world}
use Rattle.slate_live.specs.World.{World}
use Rattle.slate_readers.specs.Changes.{AreAlike, AreChanges, IsLast, IsShown, ShowsFirst, first_reader, first_state, states_along}
use Rattle.slate_readers.specs.Published.{first_number}
use Rattle.slate_live.specs.Publishing.{seen_state}

-- ---- one state more
-- the state after all of these, from this one on
pub final : Option Published → List (Option Published) → Option Published
final before [] = before
final before (now ∷ later) = final now later

changes-same : (before : Option Published) (xs : List (Option Published)) (changes : List Published) → AreChanges before xs changes → AreChanges before (xs ++ final before xs ∷ []) changes
unfolding final
changes-same before [] changes all = inl (refl, all)
changes-same before (x ∷ xs) changes all =
    elim all [
      | inl same ↦ inl (same.0, changes-same x xs changes same.1)
      | inr new ↦ inr (new.0, new.1, new.2, new.3, new.4, changes-same x xs new.1 new.5)
    ]

changes-push : (before : Option Published) (xs : List (Option Published)) (changes : List Published) (state : Published) → AreChanges before xs changes → Some state ≢ final before xs → AreChanges before (xs ++ Some state ∷ []) (changes ++ state ∷ [])
unfolding final
changes-push before [] changes state all differs = inr (state, [], refl, differs, ap (λ cs. cs ++ state ∷ []) all, refl)
changes-push before (x ∷ xs) changes state all differs =
    elim all [
      | inl same ↦ inl (same.0, changes-push x xs changes state same.1 differs)
      | inr new ↦ inr (new.0, new.1 ++ state ∷ [], new.2, new.3, ap (λ cs. cs ++ state ∷ []) new.4, changes-push x xs new.1 state new.5 differs)
    ]

pub final-along : (w : World) (steps : List Step) → final (first_state w) (states_along steps) ≡ first_state (last_world w steps)
unfolding final
final-along w [] = refl
final-along w (step ∷ steps) = final-along step.world steps

last-pushed : (states : List Published) (state : Published) → last_of (states ++ state ∷ []) ≡ state
last-pushed states state = fold-append (λ (before now : Published). now) nothing_published states (state ∷ [])

-- ---- two states that are alike are the same
made : ℕ → ℕ → List TableId → ℕ → List Batch → Published
made n id tables last memory = record { number = n; manifest_id = id; tables = tables; last_l0_seq = last; memory = memory }

same-fields : (a b : Published) → AreAlike a b → a.memory ≡ b.memory → a ≡ b
unfolding made
same-fields a b alike memory =
    ap (λ n. made n a.manifest_id a.tables a.last_l0_seq a.memory) alike.number
    ∙ (ap (λ n. made b.number n a.tables a.last_l0_seq a.memory) alike.manifest_id
    ∙ (ap (λ t. made b.number b.manifest_id t a.last_l0_seq a.memory) alike.tables
    ∙ (ap (λ n. made b.number b.manifest_id b.tables n a.memory) alike.last_l0_seq
    ∙ ap (made b.number b.manifest_id b.tables b.last_l0_seq) memory)))

alike-self : (a b : Published) → a ≡ b → AreAlike a b
alike-self a b same = record {
  number = ap (λ (s : Published). s.number) same;
  manifest_id = ap (λ (s : Published). s.manifest_id) same;
  last_l0_seq = ap (λ (s : Published). s.last_l0_seq) same;
  tables = ap (λ (s : Published). s.tables) same;
}

-- the batches that a reader sees stay as they are while the line grows
alike-same : (stored stored' : Line) (f g : Follower) → IsPrefix f.line stored → IsPrefix stored stored' → AreAlike (seen_state stored' g) (seen_state stored f) → seen_state stored' g ≡ seen_state stored f
alike-same stored stored' f g begins grows alike =
    let longer : IsPrefix f.line stored' = prefix-then f.line stored stored' begins grows in
    let last : g.view.manifest.last_l0_seq ≡ f.view.manifest.last_l0_seq = alike.last_l0_seq in
    let count : number g ≡ number f = alike.number in
    let there : up_to (number g) stored' ≡ f.line = ap (λ n. up_to n stored') count ∙ (ap (up_to (end f.line)) longer.1 ∙ up_to-end f.line longer.0) in
    let here : up_to (number f) stored ≡ f.line = ap (up_to (end f.line)) begins.1 ∙ up_to-end f.line begins.0 in
    let memory : batches_above g.view.manifest.last_l0_seq (up_to (number g) stored').batches ≡ batches_above f.view.manifest.last_l0_seq (up_to (number f) stored).batches =
    ap (λ (l : Line). batches_above g.view.manifest.last_l0_seq l.batches) (there ∙ sym here) ∙ ap (λ n. batches_above n (up_to (number f) stored).batches) last in
    same-fields (seen_state stored' g) (seen_state stored f) alike memory

-- ---- what is published after a command
-- it is the last state again, and one change more, if any
pub record Follows (before now : Option Published) (states states' : List Published) : Type 0 where
  pub last : IsLast states' now
  pub changes : (first : Option Published) (xs : List (Option Published)) → AreChanges first xs states → final first xs ≡ before → AreChanges first (xs ++ now ∷ []) states'

stays : (before now : Option Published) (states states' : List Published) → IsLast states before → now ≡ before → states' ≡ states → Follows before now states states'
stays before now states states' last same none = record {
  last = subst (λ s. IsLast s now) (sym none) (subst (IsLast states) (sym same) last);
  changes = λ first xs all is.
      subst (AreChanges first (xs ++ now ∷ [])) (sym none) (subst (λ n. AreChanges first (xs ++ n ∷ []) states) (is ∙ sym same) (changes-same first xs states all));
}

changed : (before : Option Published) (state : Published) (states states' : List Published) → Some state ≢ before → states' ≡ states ++ state ∷ [] → Follows before (Some state) states states'
changed before state states states' differs more = record {
  last = subst (λ s. IsLast s (Some state)) (sym more) (omega (arith, length-append states (state ∷ [])), last-pushed states state);
  changes = λ first xs all is.
      subst (AreChanges first (xs ++ Some state ∷ [])) (sym more) (changes-push first xs states state all (λ same. differs (same ∙ is)));
}

-- there was a reader
went-on : (stored stored' : Line) (f g : Follower) (states states' : List Published) → IsPrefix f.line stored → IsPrefix stored stored' → FollowerRises f g →
    IsLast states (Some (seen_state stored f)) → ShowsFirst (Some (seen_state stored' g)) states states' → Follows (Some (seen_state stored f)) (Some (seen_state stored' g)) states states'
went-on stored stored' f g states states' begins grows rises last shows =
    let old = seen_state stored f in
    let new = seen_state stored' g in
    elim shows [
      | inl shown ↦
          let alike : AreAlike new old = subst (AreAlike new) last.1 (shown.0).1 in
          stays (Some old) (Some new) states states' last (ap Some (alike-same stored stored' f g begins grows alike)) shown.1
      | inr others ↦
          elim others [
            | inl lower ↦
                let number-is : (last_of states).number ≡ number f = ap (λ (s : Published). s.number) last.1 in
                absurd (omega (arith, rises.number, lower.0))
            | inr more ↦
                let differs : Some new ≢ Some old = λ same. more.0 (last.0, alike-self new (last_of states) ((let e : new ≡ old = cc in e) ∙ sym last.1)) in
                changed (Some old) new states states' differs more.1
          ]
    ]

-- there is a first one
was-opened : (new : Published) (states states' : List Published) → states ≡ [] → ShowsFirst (Some new) states states' → Follows None (Some new) states states'
was-opened new states states' none shows =
    let empty : length states ≡ 0 = ap length none in
    elim shows [
      | inl shown ↦ absurd (omega (arith, empty, (shown.0).0))
      | inr others ↦
          elim others [
            | inl lower ↦
                let zero-is : (last_of states).number ≡ 0 = ap (λ ss. (last_of ss).number) none in
                absurd (omega (arith, zero-is, lower.0))
            | inr more ↦ changed None new states states' (λ same. absurd (cc)) more.1
          ]
    ]

pub follows : (stored stored' : Line) (old new : Option Follower) (states states' : List Published) →
    ((f : Follower) → old ≡ Some f → IsPrefix f.line stored) → IsPrefix stored stored' → ((f : Follower) → old ≡ Some f → (g : Follower) × (new ≡ Some g) × FollowerRises f g) →
    IsLast states (option_map (seen_state stored) old) → ShowsFirst (option_map (seen_state stored') new) states states' →
    Follows (option_map (seen_state stored) old) (option_map (seen_state stored') new) states states'
follows stored stored' None None states states' begins grows rises last shows = stays None None states states' last refl shows
follows stored stored' None (Some g) states states' begins grows rises last shows = was-opened (seen_state stored' g) states states' last shows
follows stored stored' (Some f) None states states' begins grows rises last shows = let r = rises f refl in absurd (cc (r.1))
follows stored stored' (Some f) (Some g) states states' begins grows rises last shows =
    let r = rises f refl in
    let same : r.0 ≡ g = cc (r.1) in
    went-on stored stored' f g states states' (begins f refl) grows (subst (FollowerRises f) same r.2) last shows

-- the number of the last state is that of the reader
number-of : (stored : Line) (reader : Option Follower) (states : List Published) → IsLast states (option_map (seen_state stored) reader) → (last_of states).number ≡ option_map_or number reader 0
number-of stored None states last = ap (λ ss. (last_of ss).number) last
number-of stored (Some f) states last = ap (λ (s : Published). s.number) last.1

pub last-number : (w : World) (states : List Published) → IsLast states (first_state w) → (last_of states).number ≡ first_number w
last-number w states last = number-of w.stored (first_reader w.objects) states last
