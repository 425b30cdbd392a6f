-- What passes over members and groups add up to.
use Rattle.std.proofs.Common.{◌≡◌, ℕ, ◌<◌, ◌+◌, arith, add-zero, ℤ, pos, Bool, true, false, IsTrue, ◌||◌, List, [], ◌∷◌, ◌++◌, length, take, drop, set, get_or, filter, Option, Some, None, is_some, ◌⊎◌, inl, inr, Result, Ok, Err, is_err, unwrap_or, refl, sym, ◌∙◌, ap, subst, append_assoc, append-nil}
use Rattle.std.specs.List.{AllZip, AllByRecursion as ByRecursion, FoldsTo}
use Rattle.std.specs.Option.{option_to_list}
use Rattle.std.specs.Result.{result_and}
use Rattle.std.proofs.lemmas.List.{take_more, take_more_set, drop-set-lt, drop-drop, get_or-drop}
use Rattle.std.proofs.lemmas.List.Elements.{AllZip-push}
use Rattle.std.proofs.lemmas.List.Folds.{list_any-append}
use Rattle.std.proofs.lemmas.Slice.Zip.{AllZip-long}
use Rattle.slate_errors.specs.declared.closing.CloseFault.{CloseFault}
use Rattle.slate_dispatch.specs.declared.groups.Member.{Member}
use Rattle.slate_dispatch.specs.declared.tasks.TurnAnswer.{TurnAnswer}
use Rattle.slate_dispatch.specs.declared.tasks.TurnAnswer.TheVariants.{Handled, Idle}
use Rattle.slate_dispatch.specs.Groups.{TaskGroup, first_error, has_error, after_writes, ending, add_ending, endings, is_work, EndsBy, Works, BeginsWithTurn, TurnsMember, EndsWell, is_failure, TurnsMembers, Passes, TurnsGroup, all_endings, TurnsInOrder, PassesGroups, CancelsMember, CancelsGroup, AreCancelled, TurnsGroups, ShutsGroup}
use Rattle.slate_dispatch.specs.Tasks.{TaskCall, Turn, Cancel, Finish, ending_of}

abbrev Held : Type 0
Held = Option (Result (Unit {0}) CloseFault)

-- the first result that a cell holds stays
after_writes-Some : (rs : List (Result (Unit {0}) CloseFault)) (r : Result (Unit {0}) CloseFault) → after_writes rs (Some r) ≡ Some r
after_writes-Some [] r = refl
after_writes-Some (x ∷ rs) r = refl

after_writes-append : (rs qs : List (Result (Unit {0}) CloseFault)) (held : Held) → after_writes (rs ++ qs) held ≡ after_writes qs (after_writes rs held)
after_writes-append [] qs held = refl
after_writes-append (r ∷ rs) qs held = sym (after_writes-Some qs (unwrap_or held r))

first_error-append : (rs qs : List (Result (Unit {0}) CloseFault)) → first_error (rs ++ qs) ≡ first_error (first_error rs ∷ qs)
first_error-append [] qs = refl
first_error-append (Ok _ ∷ rs) qs = first_error-append rs qs
first_error-append (Err fault ∷ rs) qs = refl

-- what a cell holds stays, whatever is written
Keeps : Held → Held → Type 0
Keeps held held' = (r : Result (Unit {0}) CloseFault) → held ≡ Some r → held' ≡ Some r

keeps-writes : (rs : List (Result (Unit {0}) CloseFault)) (held held' : Held) → held' ≡ after_writes rs held → Keeps held held'
unfolding Keeps
keeps-writes rs held held' e r is = e ∙ ap (after_writes rs) is ∙ after_writes-Some rs r

add_ending-append : (o : Held) (rs qs : List (Result (Unit {0}) CloseFault)) → add_ending o (rs ++ qs) ≡ add_ending o rs ++ qs
add_ending-append (Some r) rs qs = refl
add_ending-append None rs qs = refl

add_ending-alone : (o : Held) → add_ending o [] ≡ option_to_list o
add_ending-alone (Some r) = refl
add_ending-alone None = refl

endings-push : {T : Type 0} (steps : T → TaskCall → T → Type 0) (moment : ℤ) (random : ℕ) (late f : Bool) (held : Held) (old new : List (Member T)) (m m' : Member T) → TurnsMembers steps moment random late f held old new → endings (old ++ m ∷ []) (new ++ m' ∷ []) ≡ endings old new ++ option_to_list (ending m.ended m'.ended)
endings-push steps moment random late f held [] [] m m' t = add_ending-alone (ending m.ended m'.ended)
endings-push steps moment random late f held [] (x' ∷ new) m m' t = elim t [ ]
endings-push steps moment random late f held (x ∷ old) [] m m' t = elim t [ ]
endings-push steps moment random late f held (x ∷ old) (x' ∷ new) m m' t =
    ap (add_ending (ending x.ended x'.ended)) (endings-push steps moment random (late || is_failure (ending x.ended x'.ended)) f held old new m m' t.1)
    ∙ add_ending-append (ending x.ended x'.ended) (endings old new) (option_to_list (ending m.ended m'.ended))

-- the calls that a member is owed have no cancel
ends-only : (moment : ℤ) (random : ℕ) (held : Held) (answer : TurnAnswer) (o : Held) (calls : List TaskCall) (ended : Held) → EndsBy moment random held answer o calls ended → filter is_work calls ≡ calls
ends-only moment random held answer None calls ended e = subst (λ c. filter is_work c ≡ c) (sym e.0) refl
ends-only moment random held answer (Some result) calls ended (closed, is, called, end) = subst (λ c. filter is_work c ≡ c) (sym called) refl

works-only : (moment : ℤ) (random : ℕ) (held old : Held) (calls : List TaskCall) (new : Held) → Works moment random held old calls new → filter is_work calls ≡ calls
works-only moment random held (Some r) calls new w = subst (λ c. filter is_work c ≡ c) (sym w.0) refl
works-only moment random held None calls new (answer, ends) = ends-only moment random held answer (ending_of answer) calls new ends

ends-later : (moment : ℤ) (random : ℕ) (held held' : Held) (answer : TurnAnswer) (o : Held) (calls : List TaskCall) (ended : Held) → Keeps held held' → EndsBy moment random held answer o calls ended → EndsBy moment random held' answer o calls ended
unfolding Keeps
ends-later moment random held held' answer None calls ended k e = e
ends-later moment random held held' answer (Some result) calls ended k (closed, is, called, end) = (closed, k closed is, called, end)

works-later : (moment : ℤ) (random : ℕ) (held held' old : Held) (calls : List TaskCall) (new : Held) → Keeps held held' → Works moment random held old calls new → Works moment random held' old calls new
works-later moment random held held' (Some r) calls new k w = w
works-later moment random held held' None calls new k (answer, ends) = (answer, ends-later moment random held held' answer (ending_of answer) calls new k ends)

-- what was said of a member's turn stays true as the pass goes on
turns-later : {T : Type 0} (steps : T → TaskCall → T → Type 0) (moment : ℤ) (random : ℕ) (late f f' : Bool) (held held' : Held) (m m' : Member T) → (f ≡ true → f' ≡ true) → Keeps held held' → TurnsMember steps moment random late f held m m' → TurnsMember steps moment random late f' held' m m'
turns-later steps moment random late true true held held' m m' up k t =
    record {
      calls = t.calls;
      made = t.made;
      work = works-later moment random held held' m.ended (filter is_work t.calls) m'.ended k t.work;
      prompt = t.prompt;
      well = t.well;
    }
turns-later steps moment random late false false held held' m m' up k t =
    record {
      calls = t.calls;
      made = t.made;
      work = works-later moment random held held' m.ended t.calls m'.ended k t.work;
      prompt = t.prompt;
      well = t.well;
    }
turns-later steps moment random late true false held held' m m' up k t = let no : false ≡ true = up refl in cc
turns-later steps moment random late false true held held' m m' up k t =
    record {
      calls = t.calls;
      made = t.made;
      work =
          subst (λ (calls : List TaskCall). Works moment random held' m.ended calls m'.ended) (sym (works-only moment random held m.ended t.calls m'.ended t.work))
          (works-later moment random held held' m.ended t.calls m'.ended k t.work);
      prompt = t.prompt;
      well = t.well;
    }

members-later : {T : Type 0} (steps : T → TaskCall → T → Type 0) (moment : ℤ) (random : ℕ) (late f f' : Bool) (held held' : Held) (old new : List (Member T)) → (f ≡ true → f' ≡ true) → Keeps held held' → TurnsMembers steps moment random late f held old new → TurnsMembers steps moment random late f' held' old new
members-later steps moment random late f f' held held' [] [] up k t = tt
members-later steps moment random late f f' held held' [] (x' ∷ new) up k t = elim t [ ]
members-later steps moment random late f f' held held' (x ∷ old) [] up k t = elim t [ ]
members-later steps moment random late f f' held held' (x ∷ old) (x' ∷ new) up k t = (
  turns-later steps moment random late f f' held held' x x' up k t.0,
  members-later steps moment random (late || is_failure (ending x.ended x'.ended)) f f' held held' old new up k t.1,
)

has_error-one : (o : Held) → has_error (option_to_list o) ≡ is_failure o
has_error-one (Some (Ok _)) = refl
has_error-one (Some (Err fault)) = refl
has_error-one None = refl

or-true : (a b : Bool) → a ≡ true → (a || b) ≡ true
or-true true b h = refl
or-true false b h = cc

or-none : (a : Bool) → a ≡ (a || false)
or-none true = refl
or-none false = refl

first-alone : (first : Result (Unit {0}) CloseFault) → first ≡ first_error (first ∷ [])
first-alone (Ok _) = refl
first-alone (Err fault) = refl

and-first : (first r : Result (Unit {0}) CloseFault) → result_and first r ≡ first_error (first ∷ r ∷ [])
and-first (Ok _) r = first-alone r
and-first (Err fault) r = refl

or-assoc : (a b c : Bool) → ((a || b) || c) ≡ (a || (b || c))
or-assoc true b c = refl
or-assoc false b c = refl

or-left : (a b : Bool) → IsTrue a → IsTrue (a || b)
or-left a b h = or-true a b h

or-right : (a b : Bool) → b ≡ true → (a || b) ≡ true
or-right true b h = refl
or-right false b h = h

has_error-add : (o : Held) (rs : List (Result (Unit {0}) CloseFault)) → has_error (add_ending o rs) ≡ (is_failure o || has_error rs)
has_error-add (Some r) rs = refl
has_error-add None rs = refl

-- one more member has its turn
members-push : {T : Type 0} (steps : T → TaskCall → T → Type 0) (moment : ℤ) (random : ℕ) (late f : Bool) (held : Held) (old new : List (Member T)) (m m' : Member T)
    → TurnsMembers steps moment random late f held old new
    → TurnsMember steps moment random (late || has_error (endings old new)) f held m m'
    → TurnsMembers steps moment random late f held (old ++ m ∷ []) (new ++ m' ∷ [])
members-push steps moment random late f held [] [] m m' ts t = (subst (λ (l : Bool). TurnsMember steps moment random l f held m m') (sym (or-none late)) t, tt)
members-push steps moment random late f held [] (x' ∷ new) m m' ts t = elim ts [ ]
members-push steps moment random late f held (x ∷ old) [] m m' ts t = elim ts [ ]
members-push steps moment random late f held (x ∷ old) (x' ∷ new) m m' ts t =
    let e = ending x.ended x'.ended in
    let same : (late || has_error (add_ending e (endings old new))) ≡ ((late || is_failure e) || has_error (endings old new)) =
    ap (λ b. late || b) (has_error-add e (endings old new)) ∙ sym (or-assoc late (is_failure e) (has_error (endings old new))) in (
      ts.0,
      members-push steps moment random (late || is_failure e) f held old new m m' ts.1 (subst (λ (l : Bool). TurnsMember steps moment random l f held m m') same t),
    )

-- a pass goes on by one member
pub passes-push : {T : Type 0} (steps : T → TaskCall → T → Type 0) (moment : ℤ) (random : ℕ) (failed : Bool) (held : Held) (old new : List (Member T)) (f1 : Bool) (h1 : Held) (m m' : Member T) (outcome : Held) (f2 : Bool) (h2 : Held)
    → Passes steps moment random failed held old new f1 h1
    → TurnsMember steps moment random f1 f1 h2 m m'
    → outcome ≡ ending m.ended m'.ended
    → h2 ≡ after_writes (option_to_list outcome) h1
    → f2 ≡ (f1 || is_failure outcome)
    → Passes steps moment random failed held (old ++ m ∷ []) (new ++ m' ∷ []) f2 h2
passes-push {T} steps moment random failed held old new f1 h1 m m' outcome f2 h2 p t o h f =
    let more : endings (old ++ m ∷ []) (new ++ m' ∷ []) ≡ endings old new ++ option_to_list outcome =
    endings-push steps moment random failed f1 h1 old new m m' p.turns ∙ ap (λ o. endings old new ++ option_to_list o) (sym o) in
    let up : f1 ≡ true → f2 ≡ true = λ e. f ∙ or-true f1 (is_failure outcome) e in
    record {
      turns =
          members-push steps moment random failed f2 h2 old new m m'
          (members-later steps moment random failed f1 f2 h1 h2 old new up (keeps-writes (option_to_list outcome) h1 h2 h) p.turns)
          (subst (λ (l : Bool). TurnsMember steps moment random l f2 h2 m m') p.fails
          (turns-later steps moment random f1 f1 f2 h2 h2 m m' up (keeps-writes [] h2 h2 refl) t));
      fails =
          f
          ∙ ap (λ b. b || is_failure outcome) p.fails
          ∙ or-assoc failed (has_error (endings old new)) (is_failure outcome)
          ∙ ap (λ b. failed || b)
          (ap (λ b. has_error (endings old new) || b) (sym (has_error-one outcome))
          ∙ sym (list_any-append is_err (endings old new) (option_to_list outcome))
          ∙ ap has_error (sym more));
      holds =
          h
          ∙ ap (after_writes (option_to_list outcome)) p.holds
          ∙ sym (after_writes-append (endings old new) (option_to_list outcome) held)
          ∙ ap (λ rs. after_writes rs held) (sym more);
    }

-- the result of a group goes on so
first_error-push : {T : Type 0} (steps : T → TaskCall → T → Type 0) (moment : ℤ) (random : ℕ) (failed : Bool) (held : Held) (old new : List (Member T)) (f1 : Bool) (h1 : Held) (m m' : Member T) (result first : Result (Unit {0}) CloseFault)
    → Passes steps moment random failed held old new f1 h1
    → first ≡ first_error (result ∷ endings old new)
    → first_error (first ∷ option_to_list (ending m.ended m'.ended)) ≡ first_error (result ∷ endings (old ++ m ∷ []) (new ++ m' ∷ []))
first_error-push steps moment random failed held old new f1 h1 m m' result first p e =
    ap (λ r. first_error (r ∷ option_to_list (ending m.ended m'.ended))) e
    ∙ sym (first_error-append (result ∷ endings old new) (option_to_list (ending m.ended m'.ended)))
    ∙ ap (λ rs. first_error (result ∷ rs)) (sym (endings-push steps moment random failed f1 h1 old new m m' p.turns))

-- a member that was cancelled before its turn
pub turns-cancelled : {T : Type 0} (steps : T → TaskCall → T → Type 0) (moment : ℤ) (random : ℕ) (held : Held) (old mid new : Member T)
    → steps old.task Cancel mid.task
    → mid.ended ≡ old.ended
    → TurnsMember steps moment random false false held mid new
    → EndsWell mid new
    → TurnsMember steps moment random true true held old new
turns-cancelled steps moment random held old mid new step same t well =
    record {
      calls = Cancel ∷ t.calls;
      made = (mid.task, step, t.made);
      work =
          subst (λ (calls : List TaskCall). Works moment random held old.ended calls new.ended) (sym (works-only moment random held mid.ended t.calls new.ended t.work))
          (subst (λ (ended : Held). Works moment random held ended t.calls new.ended) same t.work);
      prompt = λ late runs. let no : true ≡ false = late in cc;
      well = λ late. well ∙ ap (λ (ended : Held). Some (unwrap_or ended (Ok tt))) same;
    }

folds-push : {P A : Type 0} (R : P → A → P → Type 0) (p q r : P) (xs : List A) (x : A) → FoldsTo R p xs q → R q x r → FoldsTo R p (xs ++ x ∷ []) r
folds-push R p q r [] x e h = (r, subst (λ s. R s x r) (sym e) h, refl)
folds-push R p q r (y ∷ xs) x (j, step, rest) h = (j, step, folds-push R j q r xs x rest h)

work-push : (calls : List TaskCall) → filter is_work (calls ++ Cancel ∷ []) ≡ filter is_work calls
work-push [] = refl
work-push (Turn moment random answer ∷ calls) = ap (λ rest. Turn moment random answer ∷ rest) (work-push calls)
work-push (Cancel ∷ calls) = work-push calls
work-push (Finish result ∷ calls) = ap (λ rest. Finish result ∷ rest) (work-push calls)

begins-push : (calls : List TaskCall) → BeginsWithTurn calls → BeginsWithTurn (calls ++ Cancel ∷ [])
begins-push [] begins = elim begins [ ]
begins-push (Turn moment random answer ∷ calls) begins = tt
begins-push (Cancel ∷ calls) begins = elim begins [ ]
begins-push (Finish result ∷ calls) begins = elim begins [ ]

-- a member that is cancelled after its turn
turns-then-cancels : {T : Type 0} (steps : T → TaskCall → T → Type 0) (is_cancelled : T → Bool) (moment : ℤ) (random : ℕ) (late : Bool) (held : Held) (old mid new : Member T)
    → TurnsMember steps moment random late true held old mid
    → CancelsMember steps is_cancelled mid new
    → TurnsMember steps moment random late true held old new
turns-then-cancels steps is_cancelled moment random late held old mid new t c =
    record {
      calls = t.calls ++ Cancel ∷ [];
      made = folds-push steps old.task mid.task new.task t.calls Cancel t.made c.step;
      work =
          subst (λ (calls : List TaskCall). Works moment random held old.ended calls new.ended) (sym (work-push t.calls))
          (subst (λ (ended : Held). Works moment random held old.ended (filter is_work t.calls) ended) (sym c.ended) t.work);
      prompt = λ first runs. begins-push t.calls (t.prompt first runs);
      well = λ after. c.ended ∙ t.well after;
    }

members-then-cancels : {T : Type 0} (steps : T → TaskCall → T → Type 0) (is_cancelled : T → Bool) (moment : ℤ) (random : ℕ) (late : Bool) (held : Held) (old mid new : List (Member T))
    → TurnsMembers steps moment random late true held old mid
    → AllZip (CancelsMember steps is_cancelled) mid new
    → TurnsMembers steps moment random late true held old new
members-then-cancels steps is_cancelled moment random late held [] [] [] t c = tt
members-then-cancels steps is_cancelled moment random late held [] [] (z ∷ new) t c = elim c [ ]
members-then-cancels steps is_cancelled moment random late held [] (y ∷ mid) new t c = elim t [ ]
members-then-cancels steps is_cancelled moment random late held (x ∷ old) [] new t c = elim t [ ]
members-then-cancels steps is_cancelled moment random late held (x ∷ old) (y ∷ mid) [] t c = elim c [ ]
members-then-cancels steps is_cancelled moment random late held (x ∷ old) (y ∷ mid) (z ∷ new) t c = (
  turns-then-cancels steps is_cancelled moment random late held x y z t.0 c.0,
  members-then-cancels steps is_cancelled moment random (late || is_failure (ending x.ended z.ended)) held old mid new
      (subst (λ (ended : Held). TurnsMembers steps moment random (late || is_failure (ending x.ended ended)) true held old mid) (sym c.0.ended) t.1) c.1,
)

-- a cancel ends no member
endings-cancelled : {T : Type 0} (steps : T → TaskCall → T → Type 0) (is_cancelled : T → Bool) (old mid new : List (Member T)) → AllZip (CancelsMember steps is_cancelled) mid new → endings old new ≡ endings old mid
endings-cancelled steps is_cancelled [] mid new zip = refl
endings-cancelled steps is_cancelled (x ∷ old) [] [] zip = refl
endings-cancelled steps is_cancelled (x ∷ old) [] (z ∷ new) zip = elim zip [ ]
endings-cancelled steps is_cancelled (x ∷ old) (y ∷ mid) [] zip = elim zip [ ]
endings-cancelled steps is_cancelled (x ∷ old) (y ∷ mid) (z ∷ new) zip =
    ap (λ o. add_ending (ending x.ended o) (endings old new)) zip.0.ended
    ∙ ap (add_ending (ending x.ended y.ended)) (endings-cancelled steps is_cancelled old mid new zip.1)

all_endings-cancelled : {T : Type 0} (steps : T → TaskCall → T → Type 0) (is_cancelled : T → Bool) (old mid new : List (TaskGroup T)) → AllZip (CancelsGroup steps is_cancelled) mid new → all_endings old new ≡ all_endings old mid
all_endings-cancelled steps is_cancelled [] mid new zip = refl
all_endings-cancelled steps is_cancelled (x ∷ old) [] [] zip = refl
all_endings-cancelled steps is_cancelled (x ∷ old) [] (z ∷ new) zip = elim zip [ ]
all_endings-cancelled steps is_cancelled (x ∷ old) (y ∷ mid) [] zip = elim zip [ ]
all_endings-cancelled steps is_cancelled (x ∷ old) (y ∷ mid) (z ∷ new) zip =
    ap (λ e. e ++ all_endings old new) (endings-cancelled steps is_cancelled x.members y.members z.members zip.0.members)
    ∙ ap (λ e. endings x.members y.members ++ e) (all_endings-cancelled steps is_cancelled old mid new zip.1)

group-later : {T : Type 0} (steps : T → TaskCall → T → Type 0) (moment : ℤ) (random : ℕ) (late f f' : Bool) (held held' : Held) (g g' : TaskGroup T) → (f ≡ true → f' ≡ true) → Keeps held held' → TurnsGroup steps moment random late f held g g' → TurnsGroup steps moment random late f' held' g g'
group-later steps moment random late f f' held held' g g' up k t =
    record {
      name = t.name;
      members = members-later steps moment random late f f' held held' g.members g'.members up k t.members;
      result = t.result;
    }

order-later : {T : Type 0} (steps : T → TaskCall → T → Type 0) (moment : ℤ) (random : ℕ) (late f f' : Bool) (held held' : Held) (old new : List (TaskGroup T)) → (f ≡ true → f' ≡ true) → Keeps held held' → TurnsInOrder steps moment random late f held old new → TurnsInOrder steps moment random late f' held' old new
order-later steps moment random late f f' held held' [] [] up k t = tt
order-later steps moment random late f f' held held' [] (x' ∷ new) up k t = elim t [ ]
order-later steps moment random late f f' held held' (x ∷ old) [] up k t = elim t [ ]
order-later steps moment random late f f' held held' (x ∷ old) (x' ∷ new) up k t = (
  group-later steps moment random late f f' held held' x x' up k t.0,
  order-later steps moment random (late || has_error (endings x.members x'.members)) f f' held held' old new up k t.1,
)

all_endings-push : {T : Type 0} (steps : T → TaskCall → T → Type 0) (moment : ℤ) (random : ℕ) (late f : Bool) (held : Held) (old new : List (TaskGroup T)) (g g' : TaskGroup T) → TurnsInOrder steps moment random late f held old new → all_endings (old ++ g ∷ []) (new ++ g' ∷ []) ≡ all_endings old new ++ endings g.members g'.members
all_endings-push steps moment random late f held [] [] g g' t = append-nil (endings g.members g'.members)
all_endings-push steps moment random late f held [] (x' ∷ new) g g' t = elim t [ ]
all_endings-push steps moment random late f held (x ∷ old) [] g g' t = elim t [ ]
all_endings-push steps moment random late f held (x ∷ old) (x' ∷ new) g g' t =
    ap (λ e. endings x.members x'.members ++ e) (all_endings-push steps moment random (late || has_error (endings x.members x'.members)) f held old new g g' t.1)
    ∙ sym (append_assoc (endings x.members x'.members) (all_endings old new) (endings g.members g'.members))

-- one more group has its turn
order-push : {T : Type 0} (steps : T → TaskCall → T → Type 0) (moment : ℤ) (random : ℕ) (late f : Bool) (held : Held) (old new : List (TaskGroup T)) (g g' : TaskGroup T)
    → TurnsInOrder steps moment random late f held old new
    → TurnsGroup steps moment random (late || has_error (all_endings old new)) f held g g'
    → TurnsInOrder steps moment random late f held (old ++ g ∷ []) (new ++ g' ∷ [])
order-push steps moment random late f held [] [] g g' ts t = (subst (λ (l : Bool). TurnsGroup steps moment random l f held g g') (sym (or-none late)) t, tt)
order-push steps moment random late f held [] (x' ∷ new) g g' ts t = elim ts [ ]
order-push steps moment random late f held (x ∷ old) [] g g' ts t = elim ts [ ]
order-push steps moment random late f held (x ∷ old) (x' ∷ new) g g' ts t =
    let e = endings x.members x'.members in
    let same : (late || has_error (e ++ all_endings old new)) ≡ ((late || has_error e) || has_error (all_endings old new)) =
    ap (λ b. late || b) (list_any-append is_err e (all_endings old new)) ∙ sym (or-assoc late (has_error e) (has_error (all_endings old new))) in (
      ts.0,
      order-push steps moment random (late || has_error e) f held old new g g' ts.1 (subst (λ (l : Bool). TurnsGroup steps moment random l f held g g') same t),
    )

-- a pass goes on by one group
pub groups-push : {T : Type 0} (steps : T → TaskCall → T → Type 0) (moment : ℤ) (random : ℕ) (failed : Bool) (held : Held) (old new : List (TaskGroup T)) (f1 : Bool) (h1 : Held) (g g' : TaskGroup T) (f2 : Bool) (h2 : Held)
    → PassesGroups steps moment random failed held old new f1 h1
    → g'.name ≡ g.name
    → Passes steps moment random f1 h1 g.members g'.members f2 h2
    → g'.result ≡ first_error (g.result ∷ endings g.members g'.members)
    → PassesGroups steps moment random failed held (old ++ g ∷ []) (new ++ g' ∷ []) f2 h2
groups-push {T} steps moment random failed held old new f1 h1 g g' f2 h2 p name passes result =
    let more : all_endings (old ++ g ∷ []) (new ++ g' ∷ []) ≡ all_endings old new ++ endings g.members g'.members =
    all_endings-push steps moment random failed f1 h1 old new g g' p.turns in
    let up : f1 ≡ true → f2 ≡ true = λ e. passes.fails ∙ or-true f1 (has_error (endings g.members g'.members)) e in
    record {
      turns =
          order-push steps moment random failed f2 h2 old new g g'
          (order-later steps moment random failed f1 f2 h1 h2 old new up (keeps-writes (endings g.members g'.members) h1 h2 passes.holds) p.turns)
          (subst (λ (l : Bool). TurnsGroup steps moment random l f2 h2 g g') p.fails (record { name = name; members = passes.turns; result = result }));
      fails =
          passes.fails
          ∙ ap (λ b. b || has_error (endings g.members g'.members)) p.fails
          ∙ or-assoc failed (has_error (all_endings old new)) (has_error (endings g.members g'.members))
          ∙ ap (λ b. failed || b) (sym (list_any-append is_err (all_endings old new) (endings g.members g'.members)) ∙ ap has_error (sym more));
      holds =
          passes.holds
          ∙ ap (after_writes (endings g.members g'.members)) p.holds
          ∙ sym (after_writes-append (all_endings old new) (endings g.members g'.members) held)
          ∙ ap (λ rs. after_writes rs held) (sym more);
    }

are_cancelled : {T : Type 0} (steps : T → TaskCall → T → Type 0) (is_cancelled : T → Bool) (mid new : List (Member T)) → AllZip (CancelsMember steps is_cancelled) mid new → ByRecursion (λ member. IsTrue (is_cancelled member.task)) new
are_cancelled steps is_cancelled [] [] zip = tt
are_cancelled steps is_cancelled [] (z ∷ new) zip = elim zip [ ]
are_cancelled steps is_cancelled (y ∷ mid) [] zip = elim zip [ ]
are_cancelled steps is_cancelled (y ∷ mid) (z ∷ new) zip = (zip.0.flag, are_cancelled steps is_cancelled mid new zip.1)

all_are_cancelled : {T : Type 0} (steps : T → TaskCall → T → Type 0) (is_cancelled : T → Bool) (mid new : List (TaskGroup T)) → AllZip (CancelsGroup steps is_cancelled) mid new → AreCancelled is_cancelled new
all_are_cancelled steps is_cancelled [] [] zip = tt
all_are_cancelled steps is_cancelled [] (z ∷ new) zip = elim zip [ ]
all_are_cancelled steps is_cancelled (y ∷ mid) [] zip = elim zip [ ]
all_are_cancelled steps is_cancelled (y ∷ mid) (z ∷ new) zip =
    (are_cancelled steps is_cancelled y.members z.members zip.0.members, all_are_cancelled steps is_cancelled mid new zip.1)

group-then-cancels : {T : Type 0} (steps : T → TaskCall → T → Type 0) (is_cancelled : T → Bool) (moment : ℤ) (random : ℕ) (late : Bool) (held : Held) (old mid new : TaskGroup T) → TurnsGroup steps moment random late true held old mid → CancelsGroup steps is_cancelled mid new → TurnsGroup steps moment random late true held old new
group-then-cancels steps is_cancelled moment random late held old mid new t c =
    record {
      name = c.name ∙ t.name;
      members = members-then-cancels steps is_cancelled moment random late held old.members mid.members new.members t.members c.members;
      result = c.result ∙ t.result ∙ ap (λ e. first_error (old.result ∷ e)) (sym (endings-cancelled steps is_cancelled old.members mid.members new.members c.members));
    }

order-then-cancels : {T : Type 0} (steps : T → TaskCall → T → Type 0) (is_cancelled : T → Bool) (moment : ℤ) (random : ℕ) (late : Bool) (held : Held) (old mid new : List (TaskGroup T))
    → TurnsInOrder steps moment random late true held old mid
    → AllZip (CancelsGroup steps is_cancelled) mid new
    → TurnsInOrder steps moment random late true held old new
order-then-cancels steps is_cancelled moment random late held [] [] [] t c = tt
order-then-cancels steps is_cancelled moment random late held [] [] (z ∷ new) t c = elim c [ ]
order-then-cancels steps is_cancelled moment random late held [] (y ∷ mid) new t c = elim t [ ]
order-then-cancels steps is_cancelled moment random late held (x ∷ old) [] new t c = elim t [ ]
order-then-cancels steps is_cancelled moment random late held (x ∷ old) (y ∷ mid) [] t c = elim c [ ]
order-then-cancels steps is_cancelled moment random late held (x ∷ old) (y ∷ mid) (z ∷ new) t c = (
  group-then-cancels steps is_cancelled moment random late held x y z t.0 c.0,
  order-then-cancels steps is_cancelled moment random (late || has_error (endings x.members z.members)) held old mid new
      (subst (λ (e : List (Result (Unit {0}) CloseFault)). TurnsInOrder steps moment random (late || has_error e) true held old mid) (sym (endings-cancelled steps is_cancelled x.members y.members z.members c.0.members)) t.1)
      c.1,
)

-- a turn in which one failed
pub turns-failed : {T : Type 0} (steps : T → TaskCall → T → Type 0) (is_cancelled : T → Bool) (moment : ℤ) (random : ℕ) (held held' : Held) (old mid new : List (TaskGroup T)) (failed : Bool)
    → failed ≡ true
    → PassesGroups steps moment random false held old mid failed held'
    → AllZip (CancelsGroup steps is_cancelled) mid new
    → TurnsGroups steps is_cancelled moment random held held' old new
turns-failed {T} steps is_cancelled moment random held held' old mid new failed was p cancels =
    let same : all_endings old new ≡ all_endings old mid = all_endings-cancelled steps is_cancelled old mid new cancels in
    let flag : true ≡ has_error (all_endings old new) = sym was ∙ p.fails ∙ ap has_error (sym same) in
    record {
      turns =
          subst (λ (f : Bool). TurnsInOrder steps moment random false f held' old new) flag
          (order-then-cancels steps is_cancelled moment random false held' old mid new
          (subst (λ (f : Bool). TurnsInOrder steps moment random false f held' old mid) was p.turns) cancels);
      holds = p.holds ∙ ap (λ e. after_writes e held) (sym same);
      cancelled = λ _. all_are_cancelled steps is_cancelled mid new cancels;
    }

-- and one in which none did
pub turns-well : {T : Type 0} (steps : T → TaskCall → T → Type 0) (is_cancelled : T → Bool) (moment : ℤ) (random : ℕ) (held held' : Held) (old new : List (TaskGroup T)) (failed : Bool)
    → failed ≡ false
    → PassesGroups steps moment random false held old new failed held'
    → TurnsGroups steps is_cancelled moment random held held' old new
turns-well {T} steps is_cancelled moment random held held' old new failed was p =
    let flag : failed ≡ has_error (all_endings old new) = p.fails in
    record {
      turns = subst (λ (f : Bool). TurnsInOrder steps moment random false f held' old new) flag p.turns;
      holds = p.holds;
      cancelled = λ has. let no : false ≡ true = sym was ∙ flag ∙ has in cc;
    }

-- a group that was shut down
pub shuts : {T : Type 0} (steps : T → TaskCall → T → Type 0) (held held' : Held) (old new : TaskGroup T) (failed : Bool)
    → new.name ≡ old.name
    → Passes steps (pos 0) 0 true held old.members new.members failed held'
    → new.result ≡ first_error (old.result ∷ endings old.members new.members)
    → ShutsGroup steps held held' old new
shuts {T} steps held held' old new failed name p result =
    record {
      turns =
          record {
            name = name;
            members = subst (λ (f : Bool). TurnsMembers steps (pos 0) 0 true f held' old.members new.members) p.fails p.turns;
            result = result;
          };
      holds = p.holds;
    }

-- the places of a list after those that were written are as they were
read-rest : {X : Type 0} (old new : List X) (i : ℕ) (x : X) → drop i new ≡ drop i old → x ≡ get_or new i x → x ≡ get_or old i x
read-rest old new i x rest at =
    at ∙ ap (λ n. get_or new n x) (sym (add-zero i)) ∙ sym (get_or-drop i new 0 x) ∙ ap (λ d. get_or d 0 x) rest ∙ get_or-drop i old 0 x ∙ ap (λ n. get_or old n x) (add-zero i)

-- A loop writes one more place of a list: the lists so far, and the rest.
pub record Writes {X : Type 0} (old new : List X) (i : ℕ) (x y : X) : Type 0 where
  pub before : take (i + 1) old ≡ take i old ++ x ∷ []
  pub after : take (i + 1) (set new i y) ≡ take i new ++ y ∷ []
  pub rest : drop (i + 1) (set new i y) ≡ drop (i + 1) old

pub writes-next : {X : Type 0} (old new : List X) (i : ℕ) (x y : X) → i < length new → length new ≡ length old → drop i new ≡ drop i old → x ≡ get_or new i x → Writes old new i x y
writes-next old new i x y within long rest at =
    let in_old : i < length old = omega (arith, long) in
    record {
      before = take_more old i x in_old ∙ ap (λ v. take i old ++ v ∷ []) (sym (read-rest old new i x rest at));
      after = take_more_set new i y within;
      rest = drop-set-lt (i + 1) new i y (omega arith) ∙ sym (drop-drop 1 i new) ∙ ap (drop 1) rest ∙ drop-drop 1 i old;
    }

pub zip-next : {X : Type 0} (R : X → X → Type 0) (old new : List X) (i : ℕ) (x y : X) → Writes old new i x y → AllZip R (take i old) (take i new) → R x y → AllZip R (take (i + 1) old) (take (i + 1) (set new i y))
zip-next {X} R old new i x y w zip step =
    subst (λ (front : List X). AllZip R front (take (i + 1) (set new i y))) (sym w.before)
    (subst (λ (front : List X). AllZip R (take i old ++ x ∷ []) front) (sym w.after) (AllZip-push R (take i old) (take i new) x y zip step))

pub groups-next : {T : Type 0} (steps : T → TaskCall → T → Type 0) (moment : ℤ) (random : ℕ) (failed : Bool) (held : Held) (old new : List (TaskGroup T)) (i : ℕ) (f1 : Bool) (h1 : Held) (g read g' : TaskGroup T) (f2 : Bool) (h2 : Held)
    → Writes old new i g g'
    → PassesGroups steps moment random failed held (take i old) (take i new) f1 h1
    → g ≡ read
    → g'.name ≡ read.name
    → Passes steps moment random f1 h1 read.members g'.members f2 h2
    → g'.result ≡ first_error (read.result ∷ endings read.members g'.members)
    → PassesGroups steps moment random failed held (take (i + 1) old) (take (i + 1) (set new i g')) f2 h2
groups-next {T} steps moment random failed held old new i f1 h1 g read g' f2 h2 w p same name passes result =
    subst (λ (front : List (TaskGroup T)). PassesGroups steps moment random failed held front (take (i + 1) (set new i g')) f2 h2) (sym w.before)
    (subst (λ (front : List (TaskGroup T)). PassesGroups steps moment random failed held (take i old ++ g ∷ []) front f2 h2) (sym w.after)
    (subst (λ (group : TaskGroup T). PassesGroups steps moment random failed held (take i old ++ group ∷ []) (take i new ++ g' ∷ []) f2 h2) (sym same)
    (groups-push steps moment random failed held (take i old) (take i new) f1 h1 read g' f2 h2 p name passes result)))

pub passes-next : {T : Type 0} (steps : T → TaskCall → T → Type 0) (moment : ℤ) (random : ℕ) (failed : Bool) (held : Held) (old new : List (Member T)) (i : ℕ) (f1 : Bool) (h1 : Held) (m read m' : Member T) (outcome : Held) (f2 : Bool) (h2 : Held)
    → Writes old new i m m'
    → Passes steps moment random failed held (take i old) (take i new) f1 h1
    → m ≡ read
    → TurnsMember steps moment random f1 f1 h2 read m'
    → outcome ≡ ending read.ended m'.ended
    → h2 ≡ after_writes (option_to_list outcome) h1
    → f2 ≡ (f1 || is_failure outcome)
    → Passes steps moment random failed held (take (i + 1) old) (take (i + 1) (set new i m')) f2 h2
passes-next {T} steps moment random failed held old new i f1 h1 m read m' outcome f2 h2 w p same t o h f =
    subst (λ (front : List (Member T)). Passes steps moment random failed held front (take (i + 1) (set new i m')) f2 h2) (sym w.before)
    (subst (λ (front : List (Member T)). Passes steps moment random failed held (take i old ++ m ∷ []) front f2 h2) (sym w.after)
    (subst (λ (member : Member T). Passes steps moment random failed held (take i old ++ member ∷ []) (take i new ++ m' ∷ []) f2 h2) (sym same)
    (passes-push steps moment random failed held (take i old) (take i new) f1 h1 read m' outcome f2 h2 p t o h f)))

pub first-next : {T : Type 0} (steps : T → TaskCall → T → Type 0) (moment : ℤ) (random : ℕ) (failed : Bool) (held : Held) (old new : List (Member T)) (i : ℕ) (f1 : Bool) (h1 : Held) (m read m' : Member T) (outcome : Held) (result first first' : Result (Unit {0}) CloseFault)
    → Writes old new i m m'
    → Passes steps moment random failed held (take i old) (take i new) f1 h1
    → m ≡ read
    → outcome ≡ ending read.ended m'.ended
    → first ≡ first_error (result ∷ endings (take i old) (take i new))
    → first' ≡ first_error (first ∷ option_to_list outcome)
    → first' ≡ first_error (result ∷ endings (take (i + 1) old) (take (i + 1) (set new i m')))
first-next {T} steps moment random failed held old new i f1 h1 m read m' outcome result first first' w p same o e e' =
    subst (λ (front : List (Member T)). first' ≡ first_error (result ∷ endings front (take (i + 1) (set new i m')))) (sym w.before)
    (subst (λ (front : List (Member T)). first' ≡ first_error (result ∷ endings (take i old ++ m ∷ []) front)) (sym w.after)
    (subst (λ (member : Member T). first' ≡ first_error (result ∷ endings (take i old ++ member ∷ []) (take i new ++ m' ∷ []))) (sym same)
    (e' ∙ ap (λ (o : Held). first_error (first ∷ option_to_list o)) o ∙ first_error-push steps moment random failed held (take i old) (take i new) f1 h1 read m' result first p e)))

-- whether something has failed goes on so
pub fails-Some : (f1 f2 : Bool) (outcome : Held) (r : Result (Unit {0}) CloseFault) → outcome ≡ Some r → f1 ≡ false → f2 ≡ is_err r → f2 ≡ (f1 || is_failure outcome)
fails-Some f1 f2 outcome r o f e = e ∙ ap is_failure (sym o) ∙ ap (λ b. b || is_failure outcome) (sym f)

pub fails-before : (f1 f2 b : Bool) → f1 ≡ true → f2 ≡ f1 → f2 ≡ (f1 || b)
fails-before f1 f2 b f e = e ∙ f ∙ sym (or-true f1 b f)

pub fails-None : (f1 f2 : Bool) (outcome : Held) → outcome ≡ None → f2 ≡ f1 → f2 ≡ (f1 || is_failure outcome)
fails-None f1 f2 outcome o e = e ∙ or-none f1 ∙ ap (λ (o : Held). f1 || is_failure o) (sym o)

pub first-Some : (first first' r : Result (Unit {0}) CloseFault) (outcome : Held) → outcome ≡ Some r → first' ≡ result_and first r → first' ≡ first_error (first ∷ option_to_list outcome)
first-Some first first' r outcome o e = e ∙ and-first first r ∙ ap (λ (o : Held). first_error (first ∷ option_to_list o)) (sym o)

pub first-None : (first first' : Result (Unit {0}) CloseFault) (outcome : Held) → outcome ≡ None → first' ≡ first → first' ≡ first_error (first ∷ option_to_list outcome)
first-None first first' outcome o e = e ∙ first-alone first ∙ ap (λ (o : Held). first_error (first ∷ option_to_list o)) (sym o)

pub not_ended : (o : Held) (b : Bool) → b ≡ is_some o → b ≡ false → o ≡ None
not_ended (Some r) b e h = let no : true ≡ false = sym e ∙ h in cc
not_ended None b e h = refl

pub ending-none : (answer : TurnAnswer) → (answer ≡ Handled) ⊎ (answer ≡ Idle) → ending_of answer ≡ None
ending-none answer (inl e) = ap ending_of e
ending-none answer (inr e) = ap ending_of e

-- a member goes on after a turn that didn't end it
pub turns-on : {T : Type 0} (steps : T → TaskCall → T → Type 0) (moment moment' : ℤ) (random : ℕ) (held : Held) (old : Member T) (task : T) (answer : TurnAnswer)
    → moment' ≡ moment
    → old.ended ≡ None
    → ending_of answer ≡ None
    → steps old.task (Turn moment' random answer) task
    → TurnsMember steps moment random false false held old (record { task = task; ended = old.ended })
turns-on {T} steps moment moment' random held old task answer same runs on step =
    record {
      calls = Turn moment random answer ∷ [];
      made = (task, subst (λ (m : ℤ). steps old.task (Turn m random answer) task) same step, refl);
      work =
          subst (λ (e : Held). Works moment random held e (Turn moment random answer ∷ []) e) (sym runs)
          (answer, subst (λ (o : Held). EndsBy moment random held answer o (Turn moment random answer ∷ []) None) (sym on) (refl, refl));
      prompt = λ first running. tt;
      well = λ late. let no : false ≡ true = late in cc;
    }

-- a member ends by its turn
pub turns-end : {T : Type 0} (steps : T → TaskCall → T → Type 0) (moment moment' : ℤ) (random : ℕ) (held : Held) (old : Member T) (mid task : T) (answer : TurnAnswer) (result closed : Result (Unit {0}) CloseFault)
    → moment' ≡ moment
    → old.ended ≡ None
    → ending_of answer ≡ Some result
    → held ≡ Some closed
    → steps old.task (Turn moment' random answer) mid
    → steps mid (Finish closed) task
    → TurnsMember steps moment random false false held old (record { task = task; ended = Some result })
turns-end {T} steps moment moment' random held old mid task answer result closed same runs end is step finish =
    let calls : List TaskCall = Turn moment random answer ∷ Finish closed ∷ [] in
    record {
      calls = calls;
      made = (mid, subst (λ (m : ℤ). steps old.task (Turn m random answer) mid) same step, (task, finish, refl));
      work =
          subst (λ (e : Held). Works moment random held e calls (Some result)) (sym runs)
          (answer, subst (λ (o : Held). EndsBy moment random held answer o calls (Some result)) (sym end) (closed, is, refl, refl));
      prompt = λ first running. tt;
      well = λ late. let no : false ≡ true = late in cc;
    }
