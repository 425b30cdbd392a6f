-- Which polls are begun after a command that makes a call whole.
use Rattle.std.proofs.Common.{◌≡◌, ◌≢◌, ◌⊎◌, ◌∙◌, ◌==◌, ◌++◌, inl, inr, ℕ, zero, suc, Bool, true, false, if◌then◌else◌, List, [], ◌∷◌, set, Option, Some, None, refl, sym, ap, subst}
use Rattle.std.proofs.lemmas.Bool.{eq-eqb, eqb-true}
use Rattle.std.specs.List.{slice_get}
use Rattle.slate_model.specs.Begun.{Begun}
use Rattle.slate_script.specs.declared.commands.Action.{Action}
use Rattle.slate_script.specs.declared.commands.Action.TheVariants as actions
use Rattle.slate_live.specs.Calls.{ArePolls, HaveSamePolls, Whole, Begins, Steps, drops, ends_poll, kind_of, target_of}
use Rattle.slate_live.specs.declared.targets.Target.{Target}
use Rattle.slate_live.specs.declared.targets.Target.TheVariants.{OfObject}
use Rattle.slate_live.specs.State.{IsBegunAt}
use Rattle.slate_live.proofs.Places.{get-set_other}

-- what stands at a place after one was set, if anything did there
pub begun-set : (polls : List (Option Begun)) (m n : ℕ) (poll : Option Begun) (b : Begun) → IsBegunAt (set polls m poll) n b → ((n ≡ m) × (poll ≡ Some b)) ⊎ ((n ≢ m) × IsBegunAt polls n b)
begun-set [] m n poll b at = absurd (cc)
begun-set (x ∷ polls) zero zero poll b at = inl (refl, let same : poll ≡ Some b = cc in same)
begun-set (x ∷ polls) zero (suc n) poll b at = inr ((λ e. absurd (cc)), at)
begun-set (x ∷ polls) (suc m) zero poll b at = inr ((λ e. absurd (cc)), at)
begun-set (x ∷ polls) (suc m) (suc n) poll b at = elim (begun-set polls m n poll b at) [
  | inl here ↦ inl (ap suc here.0, here.1)
  | inr there ↦ inr ((λ e. there.0 (let same : n ≡ m = cc in same)), there.1)
]

-- the begun polls that an action leaves
abbrev pub left_polls : Action → List (Option Begun) → List (Option Begun)
left_polls (actions.Poll m) polls = set polls m None
left_polls (actions.Close m options) polls = set polls m None
left_polls action polls = polls

dropped : (polls : List (Option Begun)) (m n : ℕ) (b : Begun) → (IsBegunAt (set polls m None) n b → IsBegunAt polls n b × ((m == n) ≡ false)) × (IsBegunAt polls n b → (m == n) ≡ false → IsBegunAt (set polls m None) n b)
dropped polls m n b = (
  (λ at. elim (begun-set polls m n None b at) [
    | inl here ↦ absurd (let no = here.1 in cc)
    | inr there ↦ (there.1, other (m == n) refl (λ same. there.0 (sym same)))
  ]),
  λ at no. get-set_other polls m n None (λ same. absurd (let yes = eq-eqb m n (sym same) in cc)) ∙ at,
)
  where
    other : (x : Bool) → (m == n) ≡ x → (m ≡ n → ⊥) → (m == n) ≡ false
    other true is never = absurd (never (eqb-true m n is))
    other false is never = is

stay : (polls : List (Option Begun)) (n : ℕ) (b : Begun) → (IsBegunAt polls n b → IsBegunAt polls n b × (false ≡ false)) × (IsBegunAt polls n b → false ≡ false → IsBegunAt polls n b)
stay polls n b = ((λ at. (at, refl)), λ at no. at)

pub are-left : (action : Action) (polls : List (Option Begun)) → ArePolls action polls (left_polls action polls)
are-left (actions.Poll m) polls n b = dropped polls m n b
are-left (actions.Close m options) polls n b = dropped polls m n b
are-left (actions.Open wal) polls n b = stay polls n b
are-left (actions.Snapshot m) polls n b = stay polls n b
are-left (actions.Follow mode managed skip lag) polls n b = stay polls n b
are-left (actions.Checkpoint lifetime) polls n b = stay polls n b
are-left actions.Sweep polls n b = stay polls n b
are-left (actions.Await m) polls n b = stay polls n b
are-left (actions.Put m key value expire) polls n b = stay polls n b
are-left (actions.Merge m key value expire) polls n b = stay polls n b
are-left (actions.Delete m key) polls n b = stay polls n b
are-left (actions.Batch m batch) polls n b = stay polls n b
are-left (actions.Flush m flush_type) polls n b = stay polls n b
are-left (actions.Refresh m) polls n b = stay polls n b
are-left (actions.Compact m) polls n b = stay polls n b
are-left (actions.Get m key remote) polls n b = stay polls n b
are-left (actions.Scan m range order remote) polls n b = stay polls n b
are-left (actions.Seek m range take key order remote) polls n b = stay polls n b
are-left (actions.Status m) polls n b = stay polls n b
are-left (actions.Ts m number find) polls n b = stay polls n b
are-left (actions.Seq m seconds find) polls n b = stay polls n b
are-left (actions.Begin m) polls n b = stay polls n b
are-left (actions.Step m) polls n b = stay polls n b

-- ---- by what an action does to the object that it names
-- whether an action drops the poll of an object
pub drops-named : (action : Action) (m n : ℕ) → target_of action ≡ OfObject m → drops n action ≡ (if ends_poll action then m == n else false)
drops-named (actions.Poll k) m n names = let same : k ≡ m = cc in ap (λ i. i == n) same
drops-named (actions.Close k options) m n names = let same : k ≡ m = cc in ap (λ i. i == n) same
drops-named (actions.Open wal) m n names = refl
drops-named (actions.Snapshot k) m n names = refl
drops-named (actions.Follow mode managed skip lag) m n names = refl
drops-named (actions.Checkpoint lifetime) m n names = refl
drops-named actions.Sweep m n names = refl
drops-named (actions.Await k) m n names = refl
drops-named (actions.Put k key value expire) m n names = refl
drops-named (actions.Merge k key value expire) m n names = refl
drops-named (actions.Delete k key) m n names = refl
drops-named (actions.Batch k batch) m n names = refl
drops-named (actions.Flush k flush_type) m n names = refl
drops-named (actions.Refresh k) m n names = refl
drops-named (actions.Compact k) m n names = refl
drops-named (actions.Get k key remote) m n names = refl
drops-named (actions.Scan k range order remote) m n names = refl
drops-named (actions.Seek k range take key order remote) m n names = refl
drops-named (actions.Status k) m n names = refl
drops-named (actions.Ts k number find) m n names = refl
drops-named (actions.Seq k seconds find) m n names = refl
drops-named (actions.Begin k) m n names = refl
drops-named (actions.Step k) m n names = refl

-- the named object's poll is left or ended, and all others are as before
pub are-set : (action : Action) (m : ℕ) (polls polls' : List (Option Begun)) (old new : Option Begun) → target_of action ≡ OfObject m → slice_get polls m ≡ Some old → new ≡ (if ends_poll action then None else old) → polls' ≡ set polls m new → ArePolls action polls polls'
are-set action m polls polls' old new names there left is n b =
    subst (λ xs. (IsBegunAt xs n b → IsBegunAt polls n b × (drops n action ≡ false)) × (IsBegunAt polls n b → drops n action ≡ false → IsBegunAt xs n b)) (sym is)
    (subst (λ x. (IsBegunAt (set polls m x) n b → IsBegunAt polls n b × (drops n action ≡ false)) × (IsBegunAt polls n b → drops n action ≡ false → IsBegunAt (set polls m x) n b)) (sym left)
    (subst (λ d. (IsBegunAt (set polls m (if ends_poll action then None else old)) n b → IsBegunAt polls n b × (d ≡ false)) × (IsBegunAt polls n b → d ≡ false → IsBegunAt (set polls m (if ends_poll action then None else old)) n b)) (sym (drops-named action m n names))
    (by (ends_poll action))))
  where
    same : (xs : List (Option Begun)) (i : ℕ) → slice_get xs i ≡ Some old → set xs i old ≡ xs
    same [] i at = absurd (cc)
    same (x ∷ xs) zero at = let it : x ≡ old = cc in ap (λ y. y ∷ xs) (sym it)
    same (x ∷ xs) (suc i) at = ap (λ ys. x ∷ ys) (same xs i at)

    by : (e : Bool) → (IsBegunAt (set polls m (if e then None else old)) n b → IsBegunAt polls n b × ((if e then m == n else false) ≡ false)) × (IsBegunAt polls n b → (if e then m == n else false) ≡ false → IsBegunAt (set polls m (if e then None else old)) n b)
    by true = dropped polls m n b
    by false = subst (λ xs. (IsBegunAt xs n b → IsBegunAt polls n b × (false ≡ false)) × (IsBegunAt polls n b → false ≡ false → IsBegunAt xs n b)) (sym (same polls m there)) (stay polls n b)

-- nothing that is named has a begun poll, and none changes
pub are-same_named : (action : Action) (m : ℕ) (polls : List (Option Begun)) → target_of action ≡ OfObject m → ((b : Begun) → IsBegunAt polls m b → ⊥) → ArePolls action polls polls
are-same_named action m polls names none n b = (
  (λ at. (at, drops-named action m n names ∙ by (ends_poll action) (m == n) refl at)),
  λ at no. at,
)
  where
    by : (e x : Bool) → (m == n) ≡ x → IsBegunAt polls n b → (if e then (m == n) else false) ≡ false
    by false x is at = refl
    by true true is at = absurd (none b (subst (λ i. IsBegunAt polls i b) (sym (eqb-true m n is)) at))
    by true false is at = is

-- an action that ends no poll leaves the polls
pub are-kept : (action : Action) (polls polls' : List (Option Begun)) → ((n : ℕ) → drops n action ≡ false) → HaveSamePolls polls polls' → ArePolls action polls polls'
are-kept action polls polls' never same n b = ((λ at. ((same n b).0 at, never n)), λ at no. (same n b).1 at)

-- a command that names no object drops no poll
pub drops-none : (action : Action) (target : Target) → target_of action ≡ target → ((n : ℕ) → target ≡ OfObject n → ⊥) → (n : ℕ) → drops n action ≡ false
drops-none (actions.Poll m) target is other n = absurd (other m (sym is))
drops-none (actions.Close m options) target is other n = absurd (other m (sym is))
drops-none action target is other n = refl

pub same-polls : (polls polls' : List (Option Begun)) → polls' ≡ polls → HaveSamePolls polls polls'
same-polls polls polls' is n b = ((λ at. subst (λ xs. IsBegunAt xs n b) is at), λ at. subst (λ xs. IsBegunAt xs n b) (sym is) at)

-- one place more, without a begun poll
pub pushed-polls : (polls polls' : List (Option Begun)) → polls' ≡ polls ++ None ∷ [] → HaveSamePolls polls polls'
pushed-polls polls polls' is n b = ((λ at. before polls n (subst (λ xs. IsBegunAt xs n b) is at)), λ at. subst (λ xs. IsBegunAt xs n b) (sym is) (after polls n at))
  where
    before : (xs : List (Option Begun)) (i : ℕ) → IsBegunAt (xs ++ None ∷ []) i b → IsBegunAt xs i b
    before [] zero at = absurd (cc)
    before [] (suc i) at = absurd (cc)
    before (x ∷ xs) zero at = at
    before (x ∷ xs) (suc i) at = before xs i at

    after : (xs : List (Option Begun)) (i : ℕ) → IsBegunAt xs i b → IsBegunAt (xs ++ None ∷ []) i b
    after [] i at = absurd (cc)
    after (x ∷ xs) zero at = at
    after (x ∷ xs) (suc i) at = after xs i at

-- ---- kinds
pub whole-of : (action : Action) → ((n : ℕ) → action ≡ actions.Begin n → ⊥) → ((n : ℕ) → action ≡ actions.Step n → ⊥) → kind_of action ≡ Whole
whole-of (actions.Begin n) unbegun unstepped = absurd (unbegun n refl)
whole-of (actions.Step n) unbegun unstepped = absurd (unstepped n refl)
whole-of (actions.Poll m) unbegun unstepped = refl
whole-of (actions.Close m options) unbegun unstepped = refl
whole-of (actions.Open wal) unbegun unstepped = refl
whole-of (actions.Snapshot m) unbegun unstepped = refl
whole-of (actions.Follow mode managed skip lag) unbegun unstepped = refl
whole-of (actions.Checkpoint lifetime) unbegun unstepped = refl
whole-of actions.Sweep unbegun unstepped = refl
whole-of (actions.Await m) unbegun unstepped = refl
whole-of (actions.Put m key value expire) unbegun unstepped = refl
whole-of (actions.Merge m key value expire) unbegun unstepped = refl
whole-of (actions.Delete m key) unbegun unstepped = refl
whole-of (actions.Batch m batch) unbegun unstepped = refl
whole-of (actions.Flush m flush_type) unbegun unstepped = refl
whole-of (actions.Refresh m) unbegun unstepped = refl
whole-of (actions.Compact m) unbegun unstepped = refl
whole-of (actions.Get m key remote) unbegun unstepped = refl
whole-of (actions.Scan m range order remote) unbegun unstepped = refl
whole-of (actions.Seek m range take key order remote) unbegun unstepped = refl
whole-of (actions.Status m) unbegun unstepped = refl
whole-of (actions.Ts m number find) unbegun unstepped = refl
whole-of (actions.Seq m seconds find) unbegun unstepped = refl

pub begins-is : (action : Action) (n : ℕ) → kind_of action ≡ Begins n → action ≡ actions.Begin n
begins-is (actions.Begin m) n is = let same : m ≡ n = cc in ap actions.Begin same
begins-is (actions.Step m) n is = absurd (cc)
begins-is (actions.Poll m) n is = absurd (cc)
begins-is (actions.Close m options) n is = absurd (cc)
begins-is (actions.Open wal) n is = absurd (cc)
begins-is (actions.Snapshot m) n is = absurd (cc)
begins-is (actions.Follow mode managed skip lag) n is = absurd (cc)
begins-is (actions.Checkpoint lifetime) n is = absurd (cc)
begins-is actions.Sweep n is = absurd (cc)
begins-is (actions.Await m) n is = absurd (cc)
begins-is (actions.Put m key value expire) n is = absurd (cc)
begins-is (actions.Merge m key value expire) n is = absurd (cc)
begins-is (actions.Delete m key) n is = absurd (cc)
begins-is (actions.Batch m batch) n is = absurd (cc)
begins-is (actions.Flush m flush_type) n is = absurd (cc)
begins-is (actions.Refresh m) n is = absurd (cc)
begins-is (actions.Compact m) n is = absurd (cc)
begins-is (actions.Get m key remote) n is = absurd (cc)
begins-is (actions.Scan m range order remote) n is = absurd (cc)
begins-is (actions.Seek m range take key order remote) n is = absurd (cc)
begins-is (actions.Status m) n is = absurd (cc)
begins-is (actions.Ts m number find) n is = absurd (cc)
begins-is (actions.Seq m seconds find) n is = absurd (cc)

pub steps-is : (action : Action) (n : ℕ) → kind_of action ≡ Steps n → action ≡ actions.Step n
steps-is (actions.Step m) n is = let same : m ≡ n = cc in ap actions.Step same
steps-is (actions.Begin m) n is = absurd (cc)
steps-is (actions.Poll m) n is = absurd (cc)
steps-is (actions.Close m options) n is = absurd (cc)
steps-is (actions.Open wal) n is = absurd (cc)
steps-is (actions.Snapshot m) n is = absurd (cc)
steps-is (actions.Follow mode managed skip lag) n is = absurd (cc)
steps-is (actions.Checkpoint lifetime) n is = absurd (cc)
steps-is actions.Sweep n is = absurd (cc)
steps-is (actions.Await m) n is = absurd (cc)
steps-is (actions.Put m key value expire) n is = absurd (cc)
steps-is (actions.Merge m key value expire) n is = absurd (cc)
steps-is (actions.Delete m key) n is = absurd (cc)
steps-is (actions.Batch m batch) n is = absurd (cc)
steps-is (actions.Flush m flush_type) n is = absurd (cc)
steps-is (actions.Refresh m) n is = absurd (cc)
steps-is (actions.Compact m) n is = absurd (cc)
steps-is (actions.Get m key remote) n is = absurd (cc)
steps-is (actions.Scan m range order remote) n is = absurd (cc)
steps-is (actions.Seek m range take key order remote) n is = absurd (cc)
steps-is (actions.Status m) n is = absurd (cc)
steps-is (actions.Ts m number find) n is = absurd (cc)
steps-is (actions.Seq m seconds find) n is = absurd (cc)

-- an action that isn't one of a begun poll makes a call whole
pub by-kind : (P : Action → Type 0) → ((n : ℕ) → P (actions.Begin n) → ⊥) → ((n : ℕ) → P (actions.Step n) → ⊥) → (action : Action) → P action → kind_of action ≡ Whole
by-kind P unbegun unstepped action has = whole-of action (λ n is. unbegun n (subst P is has)) (λ n is. unstepped n (subst P is has))
