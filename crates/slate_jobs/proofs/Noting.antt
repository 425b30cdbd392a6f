-- The times at which jobs may be claimed follow the jobs.
use Rattle.std.proofs.Common.{◌≡◌, ℕ, ℤ, zero, suc, ◌+◌, ◌<◌, ◌≤◌, List, [], ◌∷◌, ◌++◌, length, take, cond, Option, Some, None, Bool, true, false, refl, sym, subst, ap, ◌∙◌, arith}
use Rattle.std.proofs.Common.{add-one}
use Rattle.std.proofs.lemmas.List.{length-take-le, take_all}
use borrow.Author.Tests.{ltb-false, ltb-true}
use Rattle.std.specs.List.{prefix_len}
use Rattle.std.specs.Option.{IfSome}
use Rattle.std.specs.Prelude.{not, nat_lt, position, slice_get, slice_set}
use Rattle.slate_jobs.specs.declared.effects.Change.{Change}
use Rattle.slate_jobs.specs.declared.effects.Change.TheVariants.{Adds, Moves, Keeps}
use Rattle.slate_jobs.specs.declared.jobs.Job.{Job}
use Rattle.slate_jobs.specs.declared.jobs.JobState.{JobState}
use Rattle.slate_jobs.specs.declared.jobs.JobState.TheVariants.{Waiting, Claimed, Done}
use Rattle.slate_jobs.specs.declared.turns.Turn.{Turn}
use Rattle.slate_jobs.specs.JobLists.{AreNoted, IsRenoted, changed_place, turns_of}
use Rattle.slate_jobs.specs.Machine.{first_claimable, is_claimable, jobs_after}
use Rattle.slate_jobs.specs.Turns.{has_come, put_at, turn_of}
use Rattle.slate_jobs.proofs.Slots.{added-last, set-there}

-- ---- the first that has come
come-claimable : (m : ℤ) (state : JobState) → has_come m (turn_of state) ≡ is_claimable m state
come-claimable m Waiting = refl
come-claimable m (Claimed token until) = refl
come-claimable m Done = refl

length-turns : (jobs : List Job) → length (turns_of jobs) ≡ length jobs
length-turns [] = refl
length-turns (job ∷ jobs) = ap suc (length-turns jobs)

passed-same : (m : ℤ) (jobs : List Job) → prefix_len (λ turn. not (has_come m turn)) (turns_of jobs) ≡ prefix_len (λ job. not (is_claimable m job.state)) jobs
passed-same m [] = refl
passed-same m (job ∷ jobs) =
    ap (λ b. cond (not b) (1 + prefix_len (λ turn. not (has_come m turn)) (turns_of jobs)) 0) (come-claimable m job.state)
    ∙ ap (λ n. cond (not (is_claimable m job.state)) (1 + n) 0) (passed-same m jobs)

pub first-noted : (m : ℤ) (jobs : List Job) (turns : List Turn) → turns ≡ turns_of jobs → position (has_come m) turns ≡ first_claimable jobs m
unfolding first_claimable
first-noted m jobs turns is =
    let found = λ (n l : ℕ). cond (nat_lt n l) (Some n) None in
    ap (position (has_come m)) is ∙ (ap (λ n. found n (length (turns_of jobs))) (passed-same m jobs) ∙ ap (found (prefix_len (λ job. not (is_claimable m job.state)) jobs)) (length-turns jobs))

-- ---- a change
added-turns : (jobs : List Job) (job : Job) → put_at (turns_of jobs) (length jobs) (turn_of job.state) ≡ turns_of (jobs ++ job ∷ [])
added-turns [] job = refl
added-turns (first ∷ jobs) job = ap (λ ts. turn_of first.state ∷ ts) (added-turns jobs job)

moved-turns : (jobs : List Job) (n : ℕ) (job : Job) → n < length jobs → put_at (turns_of jobs) n (turn_of job.state) ≡ turns_of (slice_set jobs n job)
moved-turns [] n job less = absurd (omega (arith, less))
moved-turns (first ∷ jobs) zero job less = refl
moved-turns (first ∷ jobs) (suc n) job less = ap (λ ts. turn_of first.state ∷ ts) (moved-turns jobs n job (omega (arith, less)))

set-past : (jobs : List Job) (n : ℕ) (job : Job) → length jobs ≤ n → slice_set jobs n job ≡ jobs
set-past [] n job past = refl
set-past (first ∷ jobs) zero job past = absurd (omega (arith, past))
set-past (first ∷ jobs) (suc n) job past = ap (λ js. first ∷ js) (set-past jobs n job (omega (arith, past)))

-- the times of the jobs after it
after-put : (jobs after : List Job) (place : Option ℕ) (old new : List Turn) (at : ℕ) (job : Job) → old ≡ turns_of jobs → place ≡ Some at → slice_get after at ≡ Some job →
    IsRenoted after place old new → new ≡ put_at (turns_of jobs) at (turn_of job.state)
after-put jobs after place old new at job is place_is there renoted =
    let here : IfSome (slice_get after at) (λ j. new ≡ put_at old at (turn_of j.state)) = subst (λ p. IsRenoted after p old new) place_is renoted in
    subst (λ found. IfSome found (λ j. new ≡ put_at old at (turn_of j.state))) there here ∙ ap (λ ts. put_at ts at (turn_of job.state)) is

after-none : (jobs after : List Job) (place : Option ℕ) (old new : List Turn) → old ≡ turns_of jobs → place ≡ None → IsRenoted after place old new → new ≡ turns_of jobs
after-none jobs after place old new is place_is renoted = subst (λ p. IsRenoted after p old new) place_is renoted ∙ is

changed-turns : (jobs : List Job) (change : Change) (old new : List Turn) → old ≡ turns_of jobs → IsRenoted (jobs_after jobs change) (changed_place (length jobs) change) old new → new ≡ turns_of (jobs_after jobs change)
changed-turns jobs (Adds job) old new is renoted = after-put jobs (jobs ++ job ∷ []) (Some (length jobs)) old new (length jobs) job is refl (added-last jobs job) renoted ∙ added-turns jobs job
changed-turns jobs Keeps old new is renoted = after-none jobs jobs None old new is refl renoted
changed-turns jobs (Moves n job) old new is renoted = by (nat_lt n (length jobs)) refl where
  by : (b : Bool) → nat_lt n (length jobs) ≡ b → new ≡ turns_of (slice_set jobs n job)
  by true less =
      let within : n < length jobs = ltb-true n (length jobs) less in
      after-put jobs (slice_set jobs n job) (changed_place (length jobs) (Moves n job)) old new n job is (ap (λ b. cond b (Some n) None) less) (set-there jobs n job within) renoted ∙ moved-turns jobs n job within
  by false past =
      after-none jobs (slice_set jobs n job) (changed_place (length jobs) (Moves n job)) old new is (ap (λ b. cond b (Some n) None) past) renoted ∙ ap turns_of (sym (set-past jobs n job (ltb-false n (length jobs) past)))

abbrev Renoted : (after : List Job) (place : Option ℕ) (taken result : Option (List Turn)) → Type 0
Renoted after place taken result = IfSome result (λ new. (old : List Turn) × (taken ≡ Some old) × IsRenoted after place old new)

renoted-are : (jobs after : List Job) (change : Change) (turns result : Option (List Turn)) → after ≡ jobs_after jobs change → AreNoted jobs turns → Renoted after (changed_place (length jobs) change) turns result → AreNoted after result
renoted-are jobs after change turns None is noted renoted = tt
renoted-are jobs after change turns (Some new) is noted renoted =
    let old : renoted.0 ≡ turns_of jobs = subst (AreNoted jobs) renoted.1 noted in
    changed-turns jobs change renoted.0 new old (subst (λ js. IsRenoted js (changed_place (length jobs) change) renoted.0 new) is renoted.2) ∙ ap turns_of (sym is)

pub noted-after : (jobs after : List Job) (change : Change) (turns result : Option (List Turn)) → after ≡ jobs_after jobs change → AreNoted jobs turns →
    (seen : List Job) (count : ℕ) (place : Option ℕ) (taken : Option (List Turn)) → seen ≡ after → count ≡ length jobs → place ≡ changed_place count change → taken ≡ turns →
    IfSome result (λ new. (old : List Turn) × (taken ≡ Some old) × IsRenoted seen place old new) → AreNoted after result
noted-after jobs after change turns result is noted seen count place taken seen_is count_is place_is taken_is renoted =
    renoted-are jobs after change turns result is noted
    (subst (λ t. Renoted after (changed_place (length jobs) change) t result) taken_is
    (subst (λ p. Renoted after p taken result) (place_is ∙ ap (λ n. changed_place n change) count_is) (subst (λ js. Renoted js place taken result) seen_is renoted)))

-- ---- one after the other
pub put-upto : (jobs : List Job) (p : ℕ) (job : Job) → slice_get jobs p ≡ Some job → put_at (take p (turns_of jobs)) p (turn_of job.state) ≡ take (p + 1) (turns_of jobs)
put-upto jobs p job at = by jobs p at ∙ ap (λ n. take n (turns_of jobs)) (sym (add-one p)) where
  by : (js : List Job) (n : ℕ) → slice_get js n ≡ Some job → put_at (take n (turns_of js)) n (turn_of job.state) ≡ take (suc n) (turns_of js)
  by [] n at = absurd (let no = at in cc)
  by (j ∷ js) zero at = ap (λ t. t ∷ []) (let both = at in sym (ap (λ (x : Job). turn_of x.state) (let same : j ≡ job = cc in same)))
  by (j ∷ js) (suc n) at = ap (λ ts. turn_of j.state ∷ ts) (by js n at)

pub length-upto : (jobs : List Job) (p : ℕ) (turns : List Turn) → turns ≡ take p (turns_of jobs) → p ≤ length jobs → p ≤ length turns
length-upto jobs p turns is within =
    let same = ap length is in
    let count = length-turns jobs in
    let all = length-take-le p (turns_of jobs) (omega (arith, within, count)) in
    omega (arith, same, all)

pub upto-all : (jobs : List Job) (p : ℕ) → length jobs ≤ p → take p (turns_of jobs) ≡ turns_of jobs
upto-all jobs p all = take_all p (turns_of jobs) (let count = length-turns jobs in omega (arith, count, all))
