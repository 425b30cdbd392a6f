-- Each task that is shut down is finished with what the cell held before.
use Rattle.std.proofs.Common.{◌≡◌, ℕ, ◌<◌, suc, zero, Bool, true, false, List, [], ◌∷◌, ◌++◌, length, map, get_or, Option, Some, None, Ok, refl, sym, ap, subst, ◌∙◌, arith}
use Rattle.std.proofs.Math.ListN.{set}
use Rattle.std.proofs.lemmas.Option.{get_or_from_slice_get, slice_get_within}
use Rattle.std.specs.Prelude.{ℤ, pos, filter, MatchOption, unwrap_or}
use Rattle.std.specs.List.{AllByRecursion, FoldsTo}
use Rattle.slate_dispatch.specs.declared.groups.Member.{Member}
use Rattle.slate_dispatch.specs.declared.tasks.TurnAnswer.{TurnAnswer}
use Rattle.slate_dispatch.specs.declared.tickers.TickerDef.{TickerDef}
use Rattle.slate_dispatch.specs.Executors.{ChangesAt, Executing, ShutsTask, new_group, new_member, started_index}
use Rattle.slate_dispatch.specs.Groups.{EndsBy, EndsWell, Outcome, ShutsGroup, TaskGroup, TurnsMember, TurnsMembers, Works, after_writes, endings, is_work}
use Rattle.slate_dispatch.specs.Handlers.{HandlerSteps}
use Rattle.slate_dispatch.specs.Origins.{Due, Nowhere, Origin, Ready, Sent}
use Rattle.slate_dispatch.specs.Tasks.{Cancel, Finish, TaskCall, Turn, ending_of}
use Rattle.slate_dispatch.specs.Turns.{Acts, DispatcherSteps, Dispatching, TakesTurn, Treats, Turns, origin}
use Rattle.slate_tasks.specs.Running.{AreTold, WasTold}

-- what a task was told last, after these calls
abbrev told_by : List TaskCall → Option Outcome → Option Outcome
told_by [] told = told
told_by (Turn moment random answer ∷ calls) told = told_by calls told
told_by (Cancel ∷ calls) told = told_by calls told
told_by (Finish outcome ∷ calls) told = told_by calls (Some outcome)

-- cancels tell nothing
told-work : (calls : List TaskCall) (told : Option Outcome) → told_by (filter is_work calls) told ≡ told_by calls told
told-work [] told = refl
told-work (Turn moment random answer ∷ calls) told = told-work calls told
told-work (Cancel ∷ calls) told = told-work calls told
told-work (Finish outcome ∷ calls) told = told-work calls (Some outcome)

-- what the cell holds first stays
stays : (results : List Outcome) (outcome : Outcome) → after_writes results (Some outcome) ≡ Some outcome
stays [] outcome = refl
stays (result ∷ results) outcome = refl

module _ {H M : Type 0} (steps : HandlerSteps H M) (tickers : H → List TickerDef) (ready : H → List Bool) (reports : H → Option Outcome) where
  -- taking a message, and treating it, tell nothing
  by-taking : (moment : ℤ) (random : ℕ) (from : Origin M) (old : Dispatching H M) (message : Option M) (new : Dispatching H M) → TakesTurn steps tickers moment random from old message new → new.finished ≡ old.finished
  by-taking moment random (Sent first rest) old (Some message) new takes = ap (λ d. d.finished) takes.1
  by-taking moment random (Due index) old (Some message) new takes = ap (λ d. d.finished) (takes.1).2
  by-taking moment random (Ready index) old (Some message) new takes = ap (λ d. d.finished) takes.1
  by-taking moment random Nowhere old None new takes = ap (λ d. d.finished) takes
  by-taking moment random (Sent first rest) old None new takes = absurd takes
  by-taking moment random (Due index) old None new takes = absurd takes
  by-taking moment random (Ready index) old None new takes = absurd takes
  by-taking moment random Nowhere old (Some message) new takes = absurd takes

  by-treating : (message : Option M) (old : Dispatching H M) (answer : TurnAnswer) (new : Dispatching H M) → Treats steps reports message old answer new → new.finished ≡ old.finished
  by-treating (Some message) old answer new treats = ap (λ d. d.finished) treats.3
  by-treating None old answer new treats = ap (λ d. d.finished) treats.1

  by-acting : (moment : ℤ) (random : ℕ) (is_cancelled : Bool) (old : Dispatching H M) (answer : TurnAnswer) (new : Dispatching H M) → Acts steps tickers ready reports moment random is_cancelled old answer new → new.finished ≡ old.finished
  by-acting moment random true old answer new acts = ap (λ d. d.finished) acts.1
  by-acting moment random false old answer new acts =
      by-treating acts.0 acts.1 answer new acts.3 ∙ by-taking moment random (origin ready moment old) old acts.0 acts.1 acts.2

  by-calls : (calls : List TaskCall) (old new : Dispatching H M) → FoldsTo (DispatcherSteps steps tickers ready reports) old calls new → new.finished ≡ told_by calls old.finished
  by-calls [] old new made = ap (λ d. d.finished) (sym made)
  by-calls (Turn moment random answer ∷ calls) old new made =
      let mid = made.0 in
      let turns = made.1 in
      let same : mid.finished ≡ old.finished = ap (λ d. d.finished) turns.2 ∙ by-acting moment random old.is_cancelled old answer turns.0 turns.1 in
      by-calls calls mid new made.2 ∙ ap (told_by calls) same
  by-calls (Cancel ∷ calls) old new made = by-calls calls made.0 new made.2 ∙ ap (told_by calls) (ap (λ d. d.finished) made.1)
  by-calls (Finish outcome ∷ calls) old new made = by-calls calls made.0 new made.2 ∙ ap (told_by calls) (ap (λ d. d.finished) (made.1).1)

  module _ (moment : ℤ) (random : ℕ) (outcome : Outcome) where
    -- a member that is late is told what the cell holds, if it wasn't before
    tells-member : (old new : Member (Dispatching H M)) → TurnsMember (DispatcherSteps steps tickers ready reports) moment random true true (Some outcome) old new →
        WasTold old.ended (Some outcome) old.task.finished → WasTold new.ended (Some outcome) new.task.finished
    tells-member old new turns told = by old.ended turns.work (turns.well refl) told where
      finished : new.task.finished ≡ told_by (filter is_work turns.calls) old.task.finished
      finished = by-calls turns.calls old.task new.task turns.made ∙ sym (told-work turns.calls old.task.finished)

      ended : (answer : TurnAnswer) (end : Option Outcome) → EndsBy moment random (Some outcome) answer end (filter is_work turns.calls) new.ended → new.ended ≡ Some (Ok tt) → WasTold new.ended (Some outcome) new.task.finished
      ended answer None ends well = absurd (let no = sym well ∙ ends.1 in cc)
      ended answer (Some result) ends well =
          let is : new.task.finished ≡ Some ends.0 = finished ∙ ap (λ calls. told_by calls old.task.finished) ends.2 in
          subst (λ end. WasTold end (Some outcome) new.task.finished) (sym well) (ends.0, ends.1, is)

      by : (before : Option Outcome) → Works moment random (Some outcome) before (filter is_work turns.calls) new.ended → new.ended ≡ Some (unwrap_or before (Ok tt)) →
          WasTold before (Some outcome) old.task.finished → WasTold new.ended (Some outcome) new.task.finished
      by (Some result) work well told =
          let is : new.task.finished ≡ old.task.finished = finished ∙ ap (λ calls. told_by calls old.task.finished) work.0 in
          subst (λ end. WasTold end (Some outcome) new.task.finished) (sym work.1) (told.0, told.1, is ∙ told.2)
      by None work well told = ended work.0 (ending_of work.0) work.1 well

    tells-members : (old new : List (Member (Dispatching H M))) → TurnsMembers (DispatcherSteps steps tickers ready reports) moment random true true (Some outcome) old new →
        AllByRecursion (λ member. WasTold member.ended (Some outcome) member.task.finished) old → AllByRecursion (λ member. WasTold member.ended (Some outcome) member.task.finished) new
    tells-members [] [] turns told = tt
    tells-members [] (m' ∷ new) turns told = absurd turns
    tells-members (m ∷ old) [] turns told = absurd turns
    tells-members (m ∷ old) (m' ∷ new) turns told = (tells-member m m' turns.0 told.0, tells-members old new turns.1 told.1)

-- what holds of each element holds of the one at an index, and stays where another one takes its place
at-each : {X : Type 0} (P : X → Type 0) (xs : List X) (i : ℕ) (d : X) → i < length xs → AllByRecursion P xs → P (get_or xs i d)
at-each P [] i d low each = absurd (omega arith)
at-each P (x ∷ xs) zero d low each = each.0
at-each P (x ∷ xs) (suc i) d low each = at-each P xs i d (omega arith) each.1

each-set : {X : Type 0} (P : X → Type 0) (xs : List X) (i : ℕ) (y : X) → AllByRecursion P xs → P y → AllByRecursion P (set xs i y)
each-set P [] i y each new = tt
each-set P (x ∷ xs) zero y each new = (new, each.1)
each-set P (x ∷ xs) (suc i) y each new = (each.0, each-set P xs i y each.1 new)

each-push : {X : Type 0} (P : X → Type 0) (xs : List X) (y : X) → AllByRecursion P xs → P y → AllByRecursion P (xs ++ y ∷ [])
each-push P [] y each new = (new, tt)
each-push P (x ∷ xs) y each new = (each.0, each-push P xs y each.1 new)

each-weaker : {X : Type 0} (P Q : X → Type 0) → ((x : X) → P x → Q x) → (xs : List X) → AllByRecursion P xs → AllByRecursion Q xs
each-weaker P Q weaker [] each = tt
each-weaker P Q weaker (x ∷ xs) each = (weaker x each.0, each-weaker P Q weaker xs each.1)

-- members that run were told nothing yet
new-untold : {T : Type 0} (finished : T → Option Outcome) (told : Option Outcome) (tasks : List T) → AllByRecursion (λ (m : Member T). WasTold m.ended told (finished m.task)) (map new_member tasks)
new-untold finished told [] = tt
new-untold finished told (task ∷ tasks) = (tt, new-untold finished told tasks)

-- a group that is registered was told nothing
pub registered-told : {T : Type 0} (finished : T → Option Outcome) (told : Option Outcome) (name : List ℕ) (tasks : List T) (old new : Executing T) →
    new ≡ record old { groups = old.groups ++ new_group name tasks ∷ [] } → AreTold finished told old.groups → AreTold finished told new.groups
registered-told {T} finished told name tasks old new same each =
    subst (λ (e : Executing T). AreTold finished told e.groups) (sym same) (each-push _ old.groups (new_group name tasks) each (new-untold finished told tasks))

-- what wasn't told anything may be told this from now on
pub told-from-now : {T : Type 0} (finished : T → Option Outcome) (told : Option Outcome) (outcome : Outcome) (groups : List (TaskGroup T)) → AreTold finished told groups → AreTold finished (Some (unwrap_or told outcome)) groups
told-from-now {T} finished (Some first) outcome groups each = each
told-from-now {T} finished None outcome groups each =
    each-weaker _ _ (λ (g : TaskGroup T). each-weaker _ _ (λ (m : Member T). by m.ended (finished m.task)) g.members) groups each
  where
    by : (ended is : Option Outcome) → WasTold ended None is → WasTold ended (Some outcome) is
    by None is untold = tt
    by (Some result) is untold = absurd (let no = untold.1 in cc)

-- Shutting a group down leaves the cell, and each of its tasks is told what that holds.
pub tells-group : {H M : Type 0} (steps : HandlerSteps H M) (tickers : H → List TickerDef) (ready : H → List Bool) (reports : H → Option Outcome) (name : List ℕ) (held' : Option Outcome)
    (old new : Executing (Dispatching H M)) (result outcome : Outcome) → ShutsTask (DispatcherSteps steps tickers ready reports) name (Some outcome) held' old result new →
    AreTold (λ (d : Dispatching H M). d.finished) (Some outcome) old.groups → (held' ≡ Some outcome) × AreTold (λ (d : Dispatching H M). d.finished) (Some outcome) new.groups
tells-group {H} {M} steps tickers ready reports name held' old new result outcome shuts each = by (started_index name old) refl shuts where
  D : Type 0
  D = Dispatching H M

  Changes : TaskGroup D → TaskGroup D → Type 0
  Changes group group' = ShutsGroup (DispatcherSteps steps tickers ready reports) (Some outcome) held' group group' × (result ≡ group'.result)

  Told : TaskGroup D → Type 0
  Told group = AllByRecursion (λ (m : Member D). WasTold m.ended (Some outcome) m.task.finished) group.members

  by : (index : Option ℕ) → started_index name old ≡ index → MatchOption index ((result ≡ Ok tt) × (held' ≡ Some outcome) × (new ≡ old)) (λ i. ChangesAt i Changes old new) →
      (held' ≡ Some outcome) × AreTold (λ (d : D). d.finished) (Some outcome) new.groups
  by None is same = (same.1, subst (λ (e : Executing D). AreTold (λ (d : D). d.finished) (Some outcome) e.groups) (sym same.2) each)
  by (Some index) is c =
      let group = c.0 in
      let group' = c.1 in
      let shut = (c.3).0 in
      let held : held' ≡ Some outcome = shut.holds ∙ stays (endings group.members group'.members) outcome in
      let low = slice_get_within old.groups index group c.2 in
      let there = get_or_from_slice_get old.groups index group group c.2 in
      let before : Told group = subst Told there (at-each Told old.groups index group low each) in
      let turns = subst (λ h. TurnsMembers (DispatcherSteps steps tickers ready reports) (pos 0) 0 true true h group.members group'.members) held (shut.turns).members in
      let after : Told group' = tells-members steps tickers ready reports (pos 0) 0 outcome group.members group'.members turns before in
      (held, subst (λ (e : Executing D). AreTold (λ (d : D). d.finished) (Some outcome) e.groups) (sym c.4) (each-set Told old.groups index group' each after))
