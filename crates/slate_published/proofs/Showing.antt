-- The steps on the two copies of an edition keep their rule.
use Rattle.std.proofs.Common.{◌≡◌, ◌≢◌, ℕ, Result, Ok, Err, MatchResult, List, [], ◌∷◌, ◌++◌, set, Option, Some, None, refl, sym, ◌∙◌, ap, subst, ⊎_elim}
use mathlib.Core.Option.{some}
use lib.ListN.{get_elem?}
use Rattle.std.proofs.lemmas.List.Sums.{fold-append}
use Rattle.left_right.specs.Register.{Admits, TurnsAt, Forks, Merges}
use Rattle.atomic_table.proofs.Lists.{at_set, at_snoc}
use Rattle.logbook.specs.Pages.{Book}
use Rattle.slate_published.specs.Beginnings.{Beginning}
use Rattle.slate_published.specs.Origins.{AreOfOne, ShowsOrigin}
use Rattle.slate_published.specs.Copies.{AreOfOrigin, origin_after}

pub admits : Admits AreOfOne None
admits shown views kept seat origin at = ⊎_elim (kept seat origin) (λ (e : None ≡ Some origin). absurd (cc e)) (at_snoc views None (Some origin) seat at)

-- a copy of the same origin is shown
pub shows : (seat : ℕ) (known : Option Book) (x y : Beginning) → y.origin ≡ x.origin → TurnsAt AreOfOne seat known x y ShowsOrigin
shows seat known x y same views kept at = (
  Some y.origin,
  (λ j origin there. ⊎_elim (λ (t : (j ≡ seat) × (Some y.origin ≡ Some origin)). cc (t.1)) (λ (t : (j ≢ seat) × (get_elem? views j ≡ some (Some origin))). kept j origin t.1 ∙ sym same)
      (at_set views seat j (Some y.origin) (Some origin) there)),
  (refl, knew known at),
)
  where
    knew : (known : Option Book) → get_elem? views seat ≡ some known → Rattle.std.specs.Prelude.IfSome known (λ origin. origin ≡ x.origin)
    knew None at = tt
    knew (Some origin) at = kept seat origin at

-- a seat that cuts its view off keeps it, and so has the new one
pub tells : (seat : ℕ) (known : Option Book) → Forks AreOfOne seat known known known
tells seat known shown views kept at j origin there =
    ⊎_elim (λ (e : get_elem? (set views seat known) j ≡ some (Some origin)). back j origin e)
    (λ (same : known ≡ Some origin). kept seat origin (at ∙ ap some same))
    (at_snoc (set views seat known) known (Some origin) j there)
  where
    back : (j : ℕ) (origin : Book) → get_elem? (set views seat known) j ≡ some (Some origin) → origin ≡ shown.origin
    back j origin e = ⊎_elim (λ (t : (j ≡ seat) × (known ≡ Some origin)). kept seat origin (at ∙ ap some t.1)) (λ (t : (j ≢ seat) × (get_elem? views j ≡ some (Some origin))). kept j origin t.1)
        (at_set views seat j known (Some origin) e)

-- a seat takes in what another knows
pub learns : (seat : ℕ) (known : Option Book) (other : ℕ) (told : Option Book) → Merges AreOfOne seat known other told told None
learns seat known other told shown views kept at apart there j origin e =
    ⊎_elim (λ (t : (j ≡ other) × (None ≡ Some origin)). absurd (cc (t.1)))
    (λ (t : (j ≢ other) × (get_elem? (set views seat told) j ≡ some (Some origin))).
    ⊎_elim (λ (u : (j ≡ seat) × (told ≡ Some origin)). at_other origin u.1) (λ (u : (j ≢ seat) × (get_elem? views j ≡ some (Some origin))). kept j origin u.1)
    (at_set views seat j told (Some origin) t.1))
    (at_set (set views seat told) other j None (Some origin) e)
  where
    at_other : (origin : Book) → told ≡ Some origin → origin ≡ shown.origin
    at_other origin same = ⊎_elim (λ (u : (other ≡ seat) × (told ≡ told)). absurd (apart u.0)) (λ (u : (other ≢ seat) × (get_elem? views other ≡ some told)). kept other origin (u.1 ∙ ap some same))
        (at_set views seat other told told there)

-- the origin of what was taken in last
pub origin_after-push : (origin : Book) (waiting : List Beginning) (e : Beginning) → origin_after origin (waiting ++ e ∷ []) ≡ e.origin
origin_after-push origin waiting e = fold-append (λ (before : Book) (k : Beginning). k.origin) origin waiting (e ∷ [])

-- taking in waiting editions leads to the origin, from wherever it begins
pub origin_of_next : (origin shown next : Book) (waiting : List Beginning) → shown ≡ origin → origin_after origin waiting ≡ origin → next ≡ origin_after shown waiting → next ≡ shown
origin_of_next origin shown next waiting same waits is = is ∙ (ap (λ o. origin_after o waiting) same ∙ (waits ∙ sym same))

-- an edition of the origin may wait, too
pub waits_after : {A : Type 0} (r : Result A Beginning) (origin : Book) (edition : Beginning) (waiting new : List Beginning) → edition.origin ≡ origin → origin_after origin waiting ≡ origin
    → MatchResult r (λ _. new ≡ waiting ++ edition ∷ []) (λ back. (back ≡ edition) × (new ≡ waiting)) → origin_after origin new ≡ origin
waits_after (Ok _) origin edition waiting new same waits is = ap (origin_after origin) is ∙ (origin_after-push origin waiting edition ∙ same)
waits_after (Err _) origin edition waiting new same waits is = ap (origin_after origin) is.1 ∙ waits

-- what holds of the writer before it shows a copy holds afterwards
pub shows_after : {A E : Type 0} (r : Result A E) (origin : Book) (known known' : Option Book) (shown shown' : Beginning) (waiting waiting' : List Beginning)
    → AreOfOrigin origin shown waiting
    → MatchResult r (λ _. (shown'.origin ≡ origin_after shown.origin waiting) × (waiting' ≡ [])) (λ _. (shown' ≡ shown) × (waiting' ≡ waiting))
    → MatchResult r (λ _. ShowsOrigin known shown shown' known') (λ _. known' ≡ known)
    → AreOfOrigin origin shown' waiting' × MatchResult r (λ _. known' ≡ Some origin) (λ _. known' ≡ known)
shows_after (Ok _) origin known known' shown shown' waiting waiting' before values rule =
    let same : shown'.origin ≡ origin = origin_of_next origin shown.origin shown'.origin waiting before.shows before.waits values.0 ∙ before.shows in
    (record { shows = same; waits = ap (origin_after origin) values.1 }, rule.0 ∙ ap Some same)
shows_after (Err _) origin known known' shown shown' waiting waiting' before values rule =
    (record { shows = ap (λ (k : Beginning). k.origin) values.0 ∙ before.shows; waits = ap (origin_after origin) values.1 ∙ before.waits }, rule)

pub knows_after : {A E : Type 0} (r : Result A E) (origin : Book) (known known' : Option Book) → known ≡ Some origin → MatchResult r (λ _. known' ≡ Some origin) (λ _. known' ≡ known) → known' ≡ Some origin
knows_after (Ok _) origin known known' knows is = is
knows_after (Err _) origin known known' knows is = is ∙ knows

pub knows_first : {A E : Type 0} (r : Result A E) (u : A) (origin : Book) (known known' : Option Book) → MatchResult r (λ _. known' ≡ Some origin) (λ _. known' ≡ known) → r ≡ Ok u → known' ≡ Some origin
knows_first r u origin known known' is ok = subst (λ z. MatchResult z (λ _. known' ≡ Some origin) (λ _. known' ≡ known)) ok is
