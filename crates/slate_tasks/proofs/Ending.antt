-- Registering a group makes it run, and shutting the first one down that runs leaves the others.
use Rattle.std.proofs.Common.{◌≡◌, ℕ, ◌<◌, suc, zero, Bool, true, false, ◌||◌, cond, not, List, [], ◌∷◌, ◌++◌, length, map, drop, get_or, add-one, Option, Some, None, Ok, refl, sym, ap, subst, ◌∙◌, inl, inr, ◌⊎◌, ◌+◌, arith}
use Rattle.std.proofs.Math.ListN.{set}
use Rattle.std.proofs.Math.Seq.{drop-cons}
use Rattle.std.specs.Prelude.{nat_eq, is_none, MatchOption}
use Rattle.std.specs.Cmp.Lexicographic.{pointwise, same_text}
use Rattle.std.specs.List.{position_or_len}
use Rattle.std.proofs.lemmas.Bool.{lt-ltb}
use Rattle.std.proofs.lemmas.Cmp.{nat_list_eq_equiv}
use Rattle.std.proofs.lemmas.List.Quantifiers.{position-Some}
use Rattle.std.proofs.lemmas.Option.{get_or_from_slice_get}
use Rattle.slate_errors.specs.Tasks.{task_text}
use Rattle.slate_errors.specs.declared.endings.TaskName.{TaskName}
use Rattle.slate_dispatch.specs.declared.groups.Member.{Member}
use Rattle.slate_dispatch.specs.Executors.{ChangesAt, Executing, ShutsTask, index_of, new_group, new_member}
use Rattle.slate_dispatch.specs.Groups.{Outcome, ShutsGroup, TaskGroup, TurnsMembers, has_running}
use Rattle.slate_dispatch.specs.Tasks.{TaskCall}
use Rattle.slate_tasks.specs.Running.{AreDistinct, HasName, Runs, running_names}

-- members that are late have ended
late-ended : {T : Type 0} (steps : T → TaskCall → T → Type 0) (moment : _) (random : ℕ) (cancels : Bool) (held : Option Outcome) (old new : List (Member T)) → TurnsMembers steps moment random true cancels held old new → has_running new ≡ false
late-ended steps moment random cancels held [] [] turns = refl
late-ended steps moment random cancels held [] (m' ∷ new) turns = absurd turns
late-ended steps moment random cancels held (m ∷ old) [] turns = absurd turns
late-ended steps moment random cancels held (m ∷ old) (m' ∷ new) turns =
    ap (λ ended. is_none ended || has_running new) ((turns.0).well refl) ∙ late-ended steps moment random cancels held old new turns.1

-- the name that is first among those of groups that run is a group's
named-running : {T : Type 0} (groups : List (TaskGroup T)) (name : List ℕ) (rest : List (List ℕ)) → running_names groups ≡ name ∷ rest → HasName name groups
named-running [] name rest is = absurd (cc)
named-running {T} (g ∷ groups) name rest is = by (has_running g.members) is (λ later. named-running groups name rest later) where
  by : (b : Bool) → cond b (g.name ∷ running_names groups) (running_names groups) ≡ name ∷ rest → (running_names groups ≡ name ∷ rest → HasName name groups) → HasName name (g ∷ groups)
  by true is more = inl (cc)
  by false is more = inr (more is)

-- so is the name of the group at an index
named-at : {T : Type 0} (groups : List (TaskGroup T)) (index : ℕ) (d : TaskGroup T) (name : List ℕ) → index < length groups → (get_or groups index d).name ≡ name → HasName name groups
named-at [] index d name low is = absurd (omega arith)
named-at (g ∷ groups) zero d name low is = inl is
named-at (g ∷ groups) (suc index) d name low is = inr (named-at groups index d name (omega arith) is)

-- a name that no position has is no group's
module _ {T : Type 0} (name : List ℕ) where
  abbrev has : TaskGroup T → Bool
  has group = pointwise nat_eq group.name name

  found-low : (groups : List (TaskGroup T)) → HasName name groups → position_or_len has groups < length groups
  found-low [] named = absurd named
  found-low (g ∷ groups) named = by (has g) refl named (λ later. found-low groups later) where
    by : (b : Bool) → has g ≡ b → HasName name (g ∷ groups) → (HasName name groups → position_or_len has groups < length groups) → cond (not b) (1 + position_or_len has groups) 0 < suc (length groups)
    by true is named more = omega arith
    by false is (inl same) more = absurd (let yes : has g ≡ true = subst (λ n. pointwise nat_eq n name ≡ true) (sym same) (nat_list_eq_equiv.refl name) in let no = sym yes ∙ is in cc)
    by false is (inr later) more = let low = more later in omega (arith, low)

  pub unnamed : (groups : List (TaskGroup T)) → index_of name groups ≡ None → HasName name groups → ⊥
  unnamed groups none named =
      let at = lt-ltb (position_or_len has groups) (length groups) (found-low groups named) in
      let some : index_of name groups ≡ Some (position_or_len has groups) = ap (λ b. cond b (Some (position_or_len has groups)) None) at in
      let no = sym some ∙ none in
      cc

-- a group added at the end
named-push : {T : Type 0} (groups : List (TaskGroup T)) (g : TaskGroup T) (name : List ℕ) → HasName name (groups ++ g ∷ []) → HasName name groups ⊎ (g.name ≡ name)
named-push [] g name (inl same) = inr same
named-push [] g name (inr never) = absurd never
named-push (h ∷ groups) g name (inl same) = inl (inl same)
named-push (h ∷ groups) g name (inr named) = elim (named-push groups g name named) [ inl old ↦ inl (inr old) | inr new ↦ inr new ]

distinct-push : {T : Type 0} (groups : List (TaskGroup T)) (g : TaskGroup T) → AreDistinct groups → (HasName g.name groups → ⊥) → AreDistinct (groups ++ g ∷ [])
distinct-push [] g distinct new = (λ never. never, tt)
distinct-push (h ∷ groups) g distinct new = (
  λ named. elim (named-push groups g h.name named) [ inl old ↦ distinct.0 old | inr same ↦ new (inl (sym same)) ],
  distinct-push groups g distinct.1 (λ named. new (inr named)),
)

running-push : {T : Type 0} (groups : List (TaskGroup T)) (g : TaskGroup T) → has_running g.members ≡ true → running_names (groups ++ g ∷ []) ≡ running_names groups ++ g.name ∷ []
running-push [] g runs = ap (λ b. cond b (g.name ∷ []) []) runs
running-push (h ∷ groups) g runs = by (has_running h.members) (running-push groups g runs) where
  by : (b : Bool) → running_names (groups ++ g ∷ []) ≡ running_names groups ++ g.name ∷ [] → cond b (h.name ∷ running_names (groups ++ g ∷ [])) (running_names (groups ++ g ∷ [])) ≡ cond b (h.name ∷ running_names groups) (running_names groups) ++ g.name ∷ []
  by true more = ap (λ ns. h.name ∷ ns) more
  by false more = more

some-run : {T : Type 0} (tasks : List T) → 0 < length tasks → has_running (map new_member tasks) ≡ true
some-run [] some = absurd (omega arith)
some-run (task ∷ tasks) some = refl

-- a group of tasks that is registered runs
pub registered-runs : {T : Type 0} (name : List ℕ) (tasks : List T) (names : List (List ℕ)) (old new : Executing T) → 0 < length tasks → Runs false names old → index_of name old.groups ≡ None → new ≡ record old { groups = old.groups ++ new_group name tasks ∷ [] } → Runs false (names ++ name ∷ []) new
registered-runs {T} name tasks names old new some runs none same =
    let g : TaskGroup T = new_group name tasks in
    subst (Runs false (names ++ name ∷ [])) (sym same) (record {
      started_is = runs.started_is;
      distinct = distinct-push old.groups g runs.distinct (unnamed name old.groups none);
      running = running-push old.groups g (some-run tasks some) ∙ ap (λ ns. ns ++ name ∷ []) runs.running;
    })

-- another group of the same name at an index
named-set : {T : Type 0} (groups : List (TaskGroup T)) (index : ℕ) (d g : TaskGroup T) (name : List ℕ) → g.name ≡ (get_or groups index d).name → HasName name (set groups index g) → HasName name groups
named-set [] index d g name same named = named
named-set (h ∷ groups) zero d g name same (inl is) = inl (sym same ∙ is)
named-set (h ∷ groups) zero d g name same (inr named) = inr named
named-set (h ∷ groups) (suc index) d g name same (inl is) = inl is
named-set (h ∷ groups) (suc index) d g name same (inr named) = inr (named-set groups index d g name same named)

distinct-set : {T : Type 0} (groups : List (TaskGroup T)) (index : ℕ) (d g : TaskGroup T) → g.name ≡ (get_or groups index d).name → AreDistinct groups → AreDistinct (set groups index g)
distinct-set [] index d g same distinct = distinct
distinct-set (h ∷ groups) zero d g same distinct = (λ named. distinct.0 (subst (λ n. HasName n groups) same named), distinct.1)
distinct-set (h ∷ groups) (suc index) d g same distinct = (λ named. distinct.0 (named-set groups index d g h.name same named), distinct-set groups index d g same distinct.1)

-- The first group that runs is ended, so that the others run. It is the only one of its name.
drops-first : {T : Type 0} (groups : List (TaskGroup T)) (index : ℕ) (d g : TaskGroup T) (name : List ℕ) (rest : List (List ℕ)) → AreDistinct groups → running_names groups ≡ name ∷ rest →
    index < length groups → (get_or groups index d).name ≡ name → has_running g.members ≡ false → running_names (set groups index g) ≡ rest
drops-first [] index d g name rest distinct runs low is ended = absurd (omega arith)
drops-first (h ∷ groups) zero d g name rest distinct runs low is ended =
    ap (λ b. cond b (g.name ∷ running_names groups) (running_names groups)) ended ∙ by (has_running h.members) runs
  where
    by : (b : Bool) → cond b (h.name ∷ running_names groups) (running_names groups) ≡ name ∷ rest → running_names groups ≡ rest
    by true first = cc
    by false later = absurd (distinct.0 (subst (λ n. HasName n groups) (sym is) (named-running groups name rest later)))
drops-first (h ∷ groups) (suc index) d g name rest distinct runs low is ended =
    by (has_running h.members) runs (λ later. drops-first groups index d g name rest distinct.1 later (omega arith) is ended)
  where
    by : (b : Bool) → cond b (h.name ∷ running_names groups) (running_names groups) ≡ name ∷ rest → (running_names groups ≡ name ∷ rest → running_names (set groups index g) ≡ rest) → cond b (h.name ∷ running_names (set groups index g)) (running_names (set groups index g)) ≡ rest
    by true first more = absurd (let same : h.name ≡ name = cc in distinct.0 (named-at groups index d h.name (omega arith) (is ∙ sym same)))
    by false later more = more later

module _ {T : Type 0} (steps : T → TaskCall → T → Type 0) (name : List ℕ) (rest : List (List ℕ)) (held held' : Option Outcome) (old new : Executing T) (result : Outcome) (runs : Runs true (name ∷ rest) old) where
  shut-at : (index : ℕ) → index_of name old.groups ≡ Some index → ChangesAt index (λ group group'. ShutsGroup steps held held' group group' × (result ≡ group'.result)) old new → Runs true rest new
  shut-at index is c =
      let group = c.0 in
      let group' = c.1 in
      let at = position-Some (λ (group : TaskGroup T). pointwise nat_eq group.name name) old.groups index group is in
      let there = get_or_from_slice_get old.groups index group group c.2 in
      let named : (get_or old.groups index group).name ≡ name = same_text (get_or old.groups index group).name name (sym at.1) in
      let turns = (c.3).0.turns in
      let kept : group'.name ≡ (get_or old.groups index group).name = turns.name ∙ ap (λ (g : TaskGroup T). g.name) (sym there) in
      subst (Runs true rest) (sym c.4) (record {
        started_is = runs.started_is;
        distinct = distinct-set old.groups index group group' kept runs.distinct;
        running = drops-first old.groups index group group' name rest runs.distinct runs.running at.0 named (late-ended steps _ 0 true held' group.members group'.members turns.members);
      })

  -- shutting down the first group that runs leaves the others running
  pub shut-first : ShutsTask steps name held held' old result new → Runs true rest new
  shut-first shuts = by old.is_started runs.started_is shuts where
    found : (index : Option ℕ) → index_of name old.groups ≡ index → MatchOption index ((result ≡ Ok tt) × (held' ≡ held) × (new ≡ old)) (λ i. ChangesAt i (λ group group'. ShutsGroup steps held held' group group' × (result ≡ group'.result)) old new) → Runs true rest new
    found None is same = absurd (unnamed name old.groups is (named-running old.groups name rest runs.running))
    found (Some index) is changes = shut-at index is changes

    by : (b : Bool) → b ≡ true → MatchOption (cond b (index_of name old.groups) None) ((result ≡ Ok tt) × (held' ≡ held) × (new ≡ old)) (λ i. ChangesAt i (λ group group'. ShutsGroup steps held held' group group' × (result ≡ group'.result)) old new) → Runs true rest new
    by true is shuts = found (index_of name old.groups) refl shuts
    by false is shuts = absurd (cc)

-- the first of the names that are left
pub next-name : (names : List TaskName) (i : ℕ) (d : TaskName) → i < length names → map task_text (drop i names) ≡ task_text (get_or names i d) ∷ map task_text (drop (i + 1) names)
next-name names i d low =
    ap (map task_text) (drop-cons names i d low) ∙ ap (λ n. task_text (get_or names i d) ∷ map task_text (drop n names)) (sym (add-one i))
