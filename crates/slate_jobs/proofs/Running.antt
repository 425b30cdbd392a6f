-- The events of a session, one after another.
use Rattle.std.proofs.Common.{◌≡◌, ◌<◌, ◌≤◌, ◌^◌, ◌⊎◌, inl, inr, ℕ, zero, suc, ℤ, List, [], ◌∷◌, ◌++◌, length, Option, Some, None, Result, Ok, Err, IsSome, refl, sym, subst, ap, ◌∙◌, arith}
use Rattle.std.proofs.lemmas.List.{append-nil, append_assoc}
use Rattle.std.specs.Option.{IfSome}
use Rattle.std.specs.Result.{IfErr}
use Rattle.slate_types.specs.Line.{Line, end}
use Rattle.slate_store.specs.Calls.{HasRisen}
use Rattle.slate_store.specs.Objects.{Objects}
use Rattle.slate_model.specs.Changes.{after_part}
use Rattle.slate_model.specs.Handle.{unstored}
use Rattle.slate_model.specs.Open.{open_changes}
use Rattle.slate_model.proofs.Reopened.{opened}
use Rattle.slate_jobs.specs.declared.commands.JobAnswer.{JobAnswer}
use Rattle.slate_jobs.specs.declared.commands.JobCommand.{JobCommand}
use Rattle.slate_jobs.specs.declared.failures.Failure.{Failure}
use Rattle.slate_jobs.specs.declared.jobs.JobOp.{JobOp}
use Rattle.slate_jobs.specs.declared.jobs.JobRefusal.{JobRefusal}
use Rattle.slate_jobs.specs.declared.jobs.JobRefusal.TheVariants as refusals
use Rattle.slate_jobs.specs.declared.jobs.JobReply.{JobReply}
use Rattle.slate_jobs.specs.Calls.{Calls, Stands}
use Rattle.slate_jobs.specs.Causes.{IsCallRefusal, IsReady, OpensFor}
use Rattle.slate_jobs.specs.Histories.{AreEvents, Event, Asked, Reopened, Unopened}
use Rattle.slate_jobs.specs.Queue.{IsHeld, OpeningPuts, Opens, Queue, error_of}
use Rattle.slate_jobs.specs.Rows.{Holds}
use Rattle.slate_jobs.specs.Session.{AreOf, AreRun, Happens, IsAlive, Running, event_of, running, standing}

-- ---- one more event
pub of-push : (cs : List JobCommand) (xs : List JobAnswer) (es : List Event) (c : JobCommand) (x : JobAnswer) (e : Event) → AreOf cs xs es → event_of c x ≡ Some e → AreOf (cs ++ c ∷ []) (xs ++ x ∷ []) (es ++ e ∷ [])
of-push [] [] [] c x e all is = (is, tt)
of-push [] [] (e' ∷ es) c x e all is = absurd all
of-push [] (x' ∷ xs) es c x e all is = absurd all
of-push (c' ∷ cs) [] es c x e all is = absurd all
of-push (c' ∷ cs) (x' ∷ xs) [] c x e all is = absurd all
of-push (c' ∷ cs) (x' ∷ xs) (e' ∷ es) c x e all is = (all.0, of-push cs xs es c x e all.1 is)

pub run-push : (es : List Event) (a b c : Running) (e : Event) → AreRun es a b → Happens e b c → AreRun (es ++ e ∷ []) a c
run-push [] a b c e same happens = (c, subst (λ x. Happens e x c) same happens, refl)
run-push (e' ∷ es) a b c e run happens = (run.0, run.1, run-push es run.0 b c e run.2 happens)

-- they are events of the job store and its store
pub run-events : (es : List Event) (a b : Running) → AreRun es a b → AreEvents es (standing a) (standing b)
run-events [] a b same = ap standing same
run-events (e ∷ es) a b run = (standing run.0, run.1.is, run-events es run.0 b run.2)

-- ---- a request
module _ (a : Running) (alive : IsAlive a) (request : ℕ) (fits : request < 2 ^ 64) (op : JobOp) (moment : ℤ) (result : Result JobReply JobRefusal) (new : Queue) (calls : Calls request op moment a.queue result new)
    (objects : Option Objects) (faults : ℕ) (more : a.faults ≤ faults)
    (stands : IsHeld a.objects a.queue → (o : Objects) × (objects ≡ Some o) × Stands a.objects o a.queue new result)
    (causes : IsReady a.queue → IfErr result (IsCallRefusal (HasRisen a.faults faults) a.objects a.queue op moment))
    (readies : IsReady a.queue → new.failure ≡ None → IsReady new)
    (ended : IsSome a.queue.failure → objects ≡ Some a.objects) where
  abbrev event : Event
  event = Asked request op moment result

  -- one that was ended stays so
  same-queue : (failure : Failure) → a.queue.failure ≡ Some failure → new ≡ a.queue
  same-queue failure is = (subst (λ f. IfSome f (λ x. (result ≡ Err (refusals.Writer (error_of x))) × (new ≡ a.queue))) is calls.ended).1

  new-ready : new.failure ≡ None → IsReady new
  new-ready live = by a.queue.failure refl where
    by : (f : Option Failure) → a.queue.failure ≡ f → IsReady new
    by None is = readies (alive.ready is) live
    by (Some failure) is = absurd (let same = ap (λ (q : Queue). q.failure) (same-queue failure is) in let no = sym live ∙ (same ∙ is) in cc)

  abbrev IsLeft : Type 0
  IsLeft = (o : Objects) × (objects ≡ Some o) × Happens event a (running o faults new) × IsAlive (running o faults new)

  by-held : IsHeld a.objects a.queue → IsLeft
  by-held held =
      let s = stands held in (
        s.0,
        s.1,
        record { is = (fits, calls, inl (held, s.2)); cause = λ live. causes (alive.ready live); faults = more },
        record { sound = s.2.sound; held = by new.failure refl; ready = new-ready },
      ) where
        by : (f : Option Failure) → new.failure ≡ f → IsHeld (stands held).0 new ⊎ IsSome new.failure
        by None live = inl ((stands held).2.held live)
        by (Some failure) is = inr (subst IsSome (sym is) refl)

  by-ended : IsSome a.queue.failure → IsLeft
  by-ended some = (
    a.objects,
    ended some,
    record { is = (fits, calls, inr (some, refl)); cause = λ live. causes (alive.ready live); faults = more },
    record { sound = alive.sound; held = inr (by a.queue.failure refl some); ready = new-ready },
  ) where
    by : (f : Option Failure) → a.queue.failure ≡ f → IsSome f → IsSome new.failure
    by None is there = absurd (let none = there in cc)
    by (Some failure) is there = subst (λ (q : Queue). IsSome q.failure) (sym (same-queue failure is)) some

  pub asked-left : IsLeft
  asked-left = elim alive.held [
    | inl held ↦ by-held held
    | inr some ↦ by-ended some
  ]

-- ---- an opening anew
pub opened-left : (a : Running) (o : Objects) (faults : ℕ) (new : Queue) → a.faults ≤ faults → Opens a.objects o (Ok new) → OpensFor (HasRisen a.faults faults) a.objects (let r : Result Queue JobRefusal = Ok new in r) → IsReady new →
    Happens Reopened a (running o faults new) × IsAlive (running o faults new)
opened-left a o faults new more opens causes ready =
    (record { is = opens; cause = causes; faults = more }, record { sound = opens.sound; held = inl opens.held; ready = λ _. ready })

-- what an opening that was refused left still holds the job store
module _ (o : Objects) (q : Queue) (held : IsHeld o q) where
  part-held : (made : ℕ) → made ≤ 2 → IsHeld (after_part made (open_changes None (λ xs. xs) o) o) q
  part-held zero few = held
  part-held (suc n) few =
      let left = opened None o (suc n) held.handle.sound (omega arith) few in
      let s = held.handle in
      record {
        handle = record {
          sound = left.sound;
          latest = _;
          is_latest = left.latest;
          unclosed = s.unclosed;
          logs = s.logs;
          durable = s.durable ∙ ap end (sym left.content);
          numbered = s.numbered;
          ends = s.ends;
          tabled = s.tabled;
        };
        holds = subst (λ (l : Line). Holds (l.batches ++ unstored q.handle) q.machine) (sym left.content) held.holds;
      }

few-puts : (refusal : JobRefusal) (made : ℕ) → OpeningPuts {A = Queue} (Err refusal) made → made ≤ 2
few-puts refusals.Foreign made puts = omega (arith, puts)
few-puts refusals.Full made puts = puts
few-puts refusals.NoMemory made puts = puts
few-puts (refusals.Writer e) made puts = puts

pub unopened-left : (a : Running) → IsAlive a → (o : Objects) (faults : ℕ) (refusal : JobRefusal) → a.faults ≤ faults → Opens a.objects o (Err refusal) → OpensFor (HasRisen a.faults faults) a.objects (let r : Result Queue JobRefusal = Err refusal in r) →
    Happens (Unopened refusal) a (running o faults a.queue) × IsAlive (running o faults a.queue)
unopened-left a alive o faults refusal more opens causes = (
  record { is = (opens, refl); cause = causes; faults = more },
  record {
    sound = opens.sound;
    held = elim alive.held [
      | inl held ↦ inl (subst (λ x. IsHeld x a.queue) (sym opens.puts.2) (part-held a.objects a.queue held opens.puts.0 (few-puts refusal opens.puts.0 opens.puts.1)))
      | inr some ↦ inr some
    ];
    ready = alive.ready;
  },
)

-- ---- commands that were taken one after another
pub none-left : {X : Type 0} (all taken left : List X) → all ≡ taken ++ left → length left ≡ 0 → taken ≡ all
none-left all taken [] is none = sym (is ∙ append-nil taken)
none-left all taken (x ∷ left) is none = absurd (omega (arith, none))

pub regrouped : {X : Type 0} (all taken left left' : List X) (x : X) → all ≡ taken ++ left → left ≡ x ∷ left' → all ≡ (taken ++ x ∷ []) ++ left'
regrouped all taken left left' x is first = is ∙ (ap (λ zs. taken ++ zs) first ∙ sym (append_assoc taken (x ∷ []) left'))
