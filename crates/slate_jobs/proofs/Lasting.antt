-- What lasts over requests and openings.
use Rattle.std.proofs.Common.{◌≡◌, ℕ, ℤ, ◌<◌, ◌^◌, inl, inr, ◌==◌, List, [], ◌∷◌, cond, Option, Some, None, Result, Ok, Err, Bool, true, false, refl, sym, subst, ap, ◌∙◌, arith}
use Rattle.std.proofs.lemmas.List.Quantifiers.{position-Some}
use Rattle.std.proofs.lemmas.Option.{get_or_from_slice_get, slice_get_within}
use Rattle.std.specs.Option.{IfSome, IsSome, option_map}
use Rattle.std.specs.Prelude.{slice_get}
use Rattle.std.specs.Result.{IfErr, IfOk}
use Rattle.slate_types.specs.Line.{Line}
use Rattle.slate_types.specs.declared.batches.Batch.{Batch}
use Rattle.slate_store.specs.Content.{content}
use Rattle.slate_jobs.specs.declared.effects.Change.{Change}
use Rattle.slate_jobs.specs.declared.effects.Change.TheVariants.{Moves, Keeps}
use Rattle.slate_jobs.specs.declared.effects.Effect.{Effect}
use Rattle.slate_jobs.specs.declared.failures.Failure.{Failure}
use Rattle.slate_jobs.specs.declared.jobs.Job.{Job}
use Rattle.slate_jobs.specs.declared.jobs.JobOp.{JobOp}
use Rattle.slate_jobs.specs.declared.jobs.JobOp.TheVariants.{Enqueue, Claim, Complete}
use Rattle.slate_jobs.specs.declared.jobs.JobRefusal.{JobRefusal}
use Rattle.slate_jobs.specs.declared.jobs.JobRefusal.TheVariants as refusals
use Rattle.slate_jobs.specs.declared.jobs.JobReply.{JobReply}
use Rattle.slate_jobs.specs.declared.jobs.JobReply.TheVariants.{Completed, Stale}
use Rattle.slate_jobs.specs.declared.jobs.JobState.{JobState}
use Rattle.slate_jobs.specs.declared.jobs.JobState.TheVariants.{Waiting, Claimed, Done}
use Rattle.slate_jobs.specs.Calls.{Calls, Leaves, MayStep}
use Rattle.slate_jobs.specs.Histories.{AreEvents, Asked, Completes, Event, IsEvent, Reopened, Standing, Unopened, reply_under}
use Rattle.slate_jobs.specs.Machine.{Machine, after, claim_at, claim_of, completion_by, completion_of, effect_of, first_claimable, is_claimable, jobs_after, kept_reply, stepped}
use Rattle.slate_jobs.specs.Queue.{Queue, error_of}
use Rattle.slate_jobs.specs.Rows.{Holds, job_value, reply_value}
use Rattle.slate_jobs.proofs.Calling.{steps-kept, steps-new}
use Rattle.slate_jobs.proofs.Entries.{entry-other, entry-put}
use Rattle.slate_jobs.proofs.Holding.{same_or_not}
use Rattle.slate_jobs.proofs.Slots.{added-other, set-other, set-there}

-- what an ended job store answers
abbrev Ended : Queue → Queue → Result JobReply JobRefusal → Option Failure → Type 0
Ended old new result failure = IfSome failure (λ x. (result ≡ Err (refusals.Writer (error_of x))) × (new ≡ old))

abbrev answered : JobReply → Result JobReply JobRefusal
answered reply = Ok reply

never-ended : (old new : Queue) (reply : JobReply) (f : Option Failure) → IsSome f → Ended old new (answered reply) f → ⊥
never-ended old new reply None some ended = absurd (let no = some in cc)
never-ended old new reply (Some x) some ended = absurd (let no = ended.0 in cc)

-- ---- what each request keeps, and two machines that one store holds share, lasts
module _ (P : Machine → Type 0) (steps : (m : Machine) (request : ℕ) (op : JobOp) (moment : ℤ) → P m → P (stepped m request op moment))
    (shared : (bs : List Batch) (m other : Machine) → Holds bs m → Holds bs other → P m → P other) where
  record Lasts (w : Standing) : Type 0 where
    here : P w.queue.machine
    stored : (m : Machine) → Holds (content w.objects).batches m → P m

  may-last : (request : ℕ) (op : JobOp) (moment : ℤ) (old new : Machine) → P old → MayStep request op moment old new → P new
  may-last request op moment old new p (inl same) = subst P (sym same) p
  may-last request op moment old new p (inr next) = subst P (sym next) (steps old request op moment p)

  left-last : (request : ℕ) (op : JobOp) (moment : ℤ) (old new : Queue) (refusal : JobRefusal) → P old.machine → Leaves request op moment old new refusal → P new.machine
  left-last request op moment old new refusals.Foreign p left = absurd left
  left-last request op moment old new refusals.Full p left = subst (λ (q : Queue). P q.machine) (sym left.2) p
  left-last request op moment old new refusals.NoMemory p left = may-last request op moment old.machine new.machine p left.1
  left-last request op moment old new (refusals.Writer e) p (inl tick) = subst (λ (q : Queue). P q.machine) (sym tick.1) p
  left-last request op moment old new (refusals.Writer e) p (inr left) = may-last request op moment old.machine new.machine p left.1

  call-lasts : (request : ℕ) (op : JobOp) (moment : ℤ) (old new : Queue) (result : Result JobReply JobRefusal) → Calls request op moment old result new → P old.machine → P new.machine
  call-lasts request op moment old new result calls p = by old.failure refl where
    live : (r : Result JobReply JobRefusal) → IfOk r (λ reply. (new.machine ≡ stepped old.machine request op moment) × (kept_reply new.machine request ≡ Some reply) × (new.failure ≡ None)) → IfErr r (Leaves request op moment old new) → P new.machine
    live (Ok reply) ok err = subst P (sym ok.0) (steps old.machine request op moment p)
    live (Err refusal) ok err = left-last request op moment old new refusal p err

    by : (f : Option Failure) → old.failure ≡ f → P new.machine
    by None is = live result (calls.answered is) (calls.refused is)
    by (Some failure) is = subst (λ (q : Queue). P q.machine) (sym (subst (Ended old new result) is calls.ended).1) p

  content-lasts : (a b : Standing) → content b.objects ≡ content a.objects → Lasts a → (m : Machine) → Holds (content b.objects).batches m → P m
  content-lasts a b same lasts m holds = lasts.stored m (subst (λ (l : Line). Holds l.batches m) same holds)

  event-lasts : (e : Event) (a b : Standing) → IsEvent e a b → Lasts a → Lasts b
  event-lasts (Asked request op moment result) a b event lasts =
      let next = call-lasts request op moment a.queue b.queue result event.1 lasts.here in
      record {
        here = next;
        stored = elim event.2 [
          | inl held ↦ elim held.1.stored [
            | inl same ↦ content-lasts a b same lasts
            | inr new ↦ λ m holds. shared (content b.objects).batches b.queue.machine m new holds next
          ]
          | inr ended ↦ content-lasts a b (ap content ended.1) lasts
        ];
      }
  event-lasts Reopened a b event lasts = record { here = lasts.stored b.queue.machine event.found; stored = content-lasts a b event.kept lasts }
  event-lasts (Unopened refusal) a b event lasts =
      record { here = subst (λ (q : Queue). P q.machine) (sym event.1) lasts.here; stored = content-lasts a b event.0.kept lasts }

  events-last : (es : List Event) (a b : Standing) → AreEvents es a b → Lasts a → Lasts b
  events-last [] a b same lasts = subst Lasts (sym same) lasts
  events-last (e ∷ es) a b events lasts = events-last es events.0 b events.2 (event-lasts e a events.0 events.1 lasts)

  -- from an answered request on
  answered-lasts : (request : ℕ) (op : JobOp) (moment : ℤ) (reply : JobReply) (a b : Standing) → IsEvent (Asked request op moment (Ok reply)) a b → P b.queue.machine → Lasts b
  answered-lasts request op moment reply a b event p = record {
    here = p;
    stored = λ m holds. elim event.2 [
      | inl held ↦ shared (content b.objects).batches b.queue.machine m held.1.answered holds p
      | inr ended ↦ absurd (never-ended a.queue b.queue reply a.queue.failure ended.0 event.1.ended)
    ];
  }

-- an answered request was of a job store that nothing ended
answered-by : (request : ℕ) (op : JobOp) (moment : ℤ) (old new : Queue) (reply : JobReply) → Calls request op moment old (Ok reply) new → (new.machine ≡ stepped old.machine request op moment) × (kept_reply new.machine request ≡ Some reply)
answered-by request op moment old new reply calls = by old.failure refl where
  by : (f : Option Failure) → old.failure ≡ f → (new.machine ≡ stepped old.machine request op moment) × (kept_reply new.machine request ≡ Some reply)
  by None is = let ok = calls.answered is in (ok.0, ok.1)
  by (Some failure) is = absurd (never-ended old new reply (Some failure) refl (subst (Ended old new (answered reply)) is calls.ended))

-- ---- a reply
module _ (r : ℕ) (fits : r < 2 ^ 64) (v : List ℕ) where
  abbrev HasReply : Machine → Type 0
  HasReply m = option_map reply_value (kept_reply m r) ≡ Some v

  reply-steps : (m : Machine) (request : ℕ) (op : JobOp) (moment : ℤ) → HasReply m → HasReply (stepped m request op moment)
  reply-steps m request op moment has = by (kept_reply m request) refl where
    new : kept_reply m request ≡ None → HasReply (after m request (effect_of m.jobs request op moment))
    new none = elim (same_or_not r request) [
      | inl same ↦ absurd (let gone : kept_reply m r ≡ None = ap (kept_reply m) same ∙ none in let no = sym has ∙ ap (option_map reply_value) gone in cc)
      | inr other ↦ ap (option_map reply_value) (entry-other request (effect_of m.jobs request op moment).reply r other m.replies) ∙ has
    ]

    by : (found : Option JobReply) → kept_reply m request ≡ found → HasReply (stepped m request op moment)
    by None none = subst HasReply (sym (steps-new m request op moment none)) (new none)
    by (Some reply) some = subst HasReply (sym (steps-kept m request op moment reply some)) has

  reply-shared : (bs : List Batch) (m other : Machine) → Holds bs m → Holds bs other → HasReply m → HasReply other
  reply-shared bs m other held held' has = (let both = sym (held'.replies r fits) ∙ held.replies r fits in cc) ∙ has

  pub reply-stays : (es : List Event) (a b c : Standing) (op : JobOp) (moment : ℤ) (reply : JobReply) → reply_value reply ≡ v → IsEvent (Asked r op moment (Ok reply)) a b → AreEvents es b c → HasReply c.queue.machine
  reply-stays es a b c op moment reply is event events =
      let now = answered-by r op moment a.queue b.queue reply event.1 in
      let has : HasReply b.queue.machine = ap (option_map reply_value) now.1 ∙ ap Some is in
      (events-last HasReply reply-steps reply-shared es b c events (answered-lasts HasReply reply-steps reply-shared r op moment reply a b event has)).here

pub replies-stay : (es : List Event) (a b c : Standing) (request : ℕ) (op : JobOp) (moment : ℤ) (reply : JobReply) → IsEvent (Asked request op moment (Ok reply)) a b → AreEvents es b c → reply_under c.queue request ≡ Some (reply_value reply)
replies-stay es a b c request op moment reply event events = reply-stays request event.0 (reply_value reply) es a b c op moment reply refl event events

pub one-reply : (es : List Event) (a b c d : Standing) (request : ℕ) (op op' : JobOp) (moment moment' : ℤ) (reply reply' : JobReply) → IsEvent (Asked request op moment (Ok reply)) a b → AreEvents es b c →
    IsEvent (Asked request op' moment' (Ok reply')) c d → reply_value reply' ≡ reply_value reply
one-reply es a b c d request op op' moment moment' reply reply' event events again =
    let v = reply_value reply in
    let has = replies-stay es a b c request op moment reply event events in
    let now = answered-by request op' moment' c.queue d.queue reply' again.1 in
    let kept : option_map reply_value (kept_reply d.queue.machine request) ≡ Some v =
    subst (HasReply request event.0 v) (sym now.0) (reply-steps request event.0 v c.queue.machine request op' moment' has) in
    let both = sym kept ∙ ap (option_map reply_value) now.1 in
    cc

-- ---- a job that is done
-- a completion, by the right token and by another
abbrev completed : ℕ → List ℕ → Effect
completed n payload = record { change = Moves n (record { state = Done; payload = payload }); reply = Completed }

abbrev stale : ℕ → Effect
stale held = record { change = Keeps; reply = Stale (Some held) }

module _ (j : ℕ) (fits : j < 2 ^ 64) (payload : List ℕ) where
  abbrev IsDone : Machine → Type 0
  IsDone m = option_map job_value (slice_get m.jobs j) ≡ Some (job_value (record { state = Done; payload = payload }))

  -- the job that is there is done
  state-done : (state : JobState) (p : List ℕ) → job_value (record { state = state; payload = p }) ≡ job_value (record { state = Done; payload = payload }) → state ≡ Done
  state-done Waiting p is = absurd (let no = is in cc)
  state-done (Claimed token until) p is = absurd (let no = is in cc)
  state-done Done p is = refl

  found-done : (found : Option Job) → option_map job_value found ≡ Some (job_value (record { state = Done; payload = payload })) → (job : Job) × (found ≡ Some job) × (job.state ≡ Done)
  found-done None is = absurd (let no = is in cc)
  found-done (Some job) is = (job, refl, state-done job.state job.payload (let same : job_value job ≡ job_value (record { state = Done; payload = payload }) = cc in same))

  -- so no request moves it
  other-place : (m : Machine) → IsDone m → (n : ℕ) (job : Job) → slice_get m.jobs n ≡ Some job → (job.state ≡ Done → ⊥) → j ≡ n → ⊥
  other-place m is n job at other same =
      let there = found-done (slice_get m.jobs j) is in
      let one : there.0 ≡ job = (let here = ap (slice_get m.jobs) same ∙ at in let both = sym there.1 ∙ here in cc) in
      other (ap (λ (x : Job). x.state) (sym one) ∙ there.2)

  -- jobs after a change that moves another
  abbrev Stays : Machine → Change → Type 0
  Stays m change = slice_get (jobs_after m.jobs change) j ≡ slice_get m.jobs j

  claim-stays : (m : Machine) → IsDone m → (request : ℕ) (until moment : ℤ) (found : Option ℕ) → first_claimable m.jobs moment ≡ found → Stays m (claim_at m.jobs request until found).change
  unfolding first_claimable
  claim-stays m is request until moment None place = refl
  claim-stays m is request until moment (Some n) place = by (slice_get m.jobs n) refl where
    by : (job : Option Job) → slice_get m.jobs n ≡ job → Stays m (claim_of request until n job).change
    by None at = refl
    by (Some job) at =
        let first = position-Some (λ job. is_claimable moment job.state) m.jobs n job place in
        let here : is_claimable moment job.state ≡ true = ap (λ (x : Job). is_claimable moment x.state) (sym (get_or_from_slice_get m.jobs n job job at)) ∙ first.1 in
        set-other m.jobs n (record { state = Claimed request until; payload = job.payload }) j
        (other-place m is n job at (λ state. absurd (let no : is_claimable moment job.state ≡ false = ap (is_claimable moment) state in let both = sym here ∙ no in cc)))

  completion-stays : (m : Machine) → IsDone m → (n token : ℕ) (found : Option Job) → slice_get m.jobs n ≡ found → Stays m (completion_of n token found).change
  completion-stays m is n token None at = refl
  completion-stays m is n token (Some job) at = by job.state refl where
    by : (state : JobState) → job.state ≡ state → Stays m (completion_by n token job.payload state).change
    by Waiting state = refl
    by Done state = refl
    by (Claimed held until) state = moved (held == token) where
      moved : (b : Bool) → Stays m (cond b (completed n job.payload) (stale held)).change
      moved true = set-other m.jobs n (record { state = Done; payload = job.payload }) j (other-place m is n job at (λ other. let no = sym state ∙ other in cc))
      moved false = refl

  effect-stays : (m : Machine) → IsDone m → (request : ℕ) (op : JobOp) (moment : ℤ) → Stays m (effect_of m.jobs request op moment).change
  effect-stays m is request (Enqueue added) moment =
      let there = found-done (slice_get m.jobs j) is in
      let less = slice_get_within m.jobs j there.0 there.1 in
      added-other m.jobs (record { state = Waiting; payload = added }) j (λ last. omega (arith, less, last))
  effect-stays m is request (Claim lease) moment = claim-stays m is request _ moment (first_claimable m.jobs moment) refl
  effect-stays m is request (Complete n token) moment = completion-stays m is n token (slice_get m.jobs n) refl

  done-steps : (m : Machine) (request : ℕ) (op : JobOp) (moment : ℤ) → IsDone m → IsDone (stepped m request op moment)
  done-steps m request op moment is = by (kept_reply m request) refl where
    by : (found : Option JobReply) → kept_reply m request ≡ found → IsDone (stepped m request op moment)
    by None none = subst IsDone (sym (steps-new m request op moment none)) (ap (option_map job_value) (effect-stays m is request op moment) ∙ is)
    by (Some reply) some = subst IsDone (sym (steps-kept m request op moment reply some)) is

  done-shared : (bs : List Batch) (m other : Machine) → Holds bs m → Holds bs other → IsDone m → IsDone other
  done-shared bs m other held held' is = (let both = sym (held'.jobs j fits) ∙ held.jobs j fits in cc) ∙ is

-- ---- what a completion that is answered leaves
completes-by : (jobs : List Job) (j token : ℕ) (found : Option Job) → slice_get jobs j ≡ found → (completion_of j token found).reply ≡ Completed → (payload : List ℕ) × (slice_get (jobs_after jobs (completion_of j token found).change) j ≡ Some (record { state = Done; payload = payload }))
completes-by jobs j token None at is = absurd (let no = is in cc)
completes-by jobs j token (Some job) at is = by job.state refl is where
  by : (state : JobState) → job.state ≡ state → (completion_by j token job.payload state).reply ≡ Completed → (payload : List ℕ) × (slice_get (jobs_after jobs (completion_by j token job.payload state).change) j ≡ Some (record { state = Done; payload = payload }))
  by Waiting state reply = absurd (let no = reply in cc)
  by Done state reply = absurd (let no = reply in cc)
  by (Claimed held until) state reply = moved (held == token) reply where
    moved : (b : Bool) → (cond b (completed j job.payload) (stale held)).reply ≡ Completed →
        (payload : List ℕ) × (slice_get (jobs_after jobs (cond b (completed j job.payload) (stale held)).change) j ≡ Some (record { state = Done; payload = payload }))
    moved true reply = (job.payload, set-there jobs j (record { state = Done; payload = job.payload }) (slice_get_within jobs j job at))
    moved false reply = absurd (let no = reply in cc)

-- the reply of a request that had none
new-reply : (request : ℕ) (op : JobOp) (moment : ℤ) (old new : Queue) (reply : JobReply) → kept_reply old.machine request ≡ None → Calls request op moment old (Ok reply) new →
    (new.machine ≡ after old.machine request (effect_of old.machine.jobs request op moment)) × ((effect_of old.machine.jobs request op moment).reply ≡ reply)
new-reply request op moment old new reply free calls =
    let now = answered-by request op moment old new reply calls in
    let effect = effect_of old.machine.jobs request op moment in
    let is : new.machine ≡ after old.machine request effect = now.0 ∙ steps-new old.machine request op moment free in
    let put : kept_reply new.machine request ≡ Some effect.reply = ap (λ m. kept_reply m request) is ∙ entry-put request effect.reply old.machine.replies in
    (is, (let both = sym put ∙ now.1 in cc))

pub completed-once : (es : List Event) (a b c d : Standing) (request other job token token' : ℕ) (moment moment' : ℤ) → job < 2 ^ 64 → Completes request job token moment a b → AreEvents es b c → Completes other job token' moment' c d → ⊥
completed-once es a b c d request other job token token' moment moment' fits first events second =
    let one = new-reply request (Complete job token) moment a.queue b.queue Completed first.new_request first.asked.1 in
    let left = completes-by a.queue.machine.jobs job token (slice_get a.queue.machine.jobs job) refl one.1 in
    let is : IsDone job fits left.0 b.queue.machine = ap (λ (m : Machine). option_map job_value (slice_get m.jobs job)) one.0 ∙ ap (option_map job_value) left.1 in
    let lasts = events-last (IsDone job fits left.0) (done-steps job fits left.0) (done-shared job fits left.0) es b c events
    (answered-lasts (IsDone job fits left.0) (done-steps job fits left.0) (done-shared job fits left.0) request (Complete job token) moment Completed a b first.asked is) in
    let there = found-done job fits left.0 (slice_get c.queue.machine.jobs job) lasts.here in
    let two = new-reply other (Complete job token') moment' c.queue d.queue Completed second.new_request second.asked.1 in
    let at = subst (λ found. (completion_of job token' found).reply ≡ Completed) there.1 two.1 in
    let late = subst (λ state. (completion_by job token' there.0.payload state).reply ≡ Completed) there.2 at in
    absurd (let no = late in cc)
