-- In a run, what the queue loses is what the handler is given.
use Rattle.std.proofs.Common.{◌≡◌, ℕ, ℤ, Bool, true, false, inl, inr, List, [], ◌∷◌, ◌++◌, Option, Some, None, Result, refl, sym, ◌∙◌, ap, subst, append_assoc, append-nil}
use Rattle.slate_errors.specs.declared.closing.CloseFault.{CloseFault}
use Rattle.slate_dispatch.specs.declared.tasks.TurnAnswer.{TurnAnswer}
use Rattle.slate_dispatch.specs.declared.tickers.TickerDef.{TickerDef}
use Rattle.slate_dispatch.specs.Handlers.{HandlerCall, Handle}
use Rattle.slate_dispatch.specs.Origins.{of_queue, of_tickers, of_notifiers, due_at, first_ready}
use Rattle.slate_dispatch.specs.Runs.{Event, Send, Call, sent, GivesMessages, with_sent, Runs, GivesOnce}
use Rattle.slate_dispatch.specs.Tasks.{TaskCall, Turn, Cancel, Finish}
use Rattle.slate_dispatch.specs.Turns.{Dispatching, TakesTurn, Treats, Acts, DispatcherSteps}

-- what the queue loses by a call is what the handler is given in it
abbrev Loses : {H M : Type 0} → (H → HandlerCall M → H → Type 0) → Dispatching H M → TaskCall → Dispatching H M → Type 0
Loses {H} {M} steps old call new = (given : List M) × GivesMessages steps old call given new × (old.queue ≡ given ++ new.queue)

-- a message that comes from elsewhere leaves the queue as it is
treats-queue : {H M : Type 0} (steps : H → HandlerCall M → H → Type 0) (reports : H → Option (Result (Unit {0}) CloseFault)) (message : Option M) (taken new : Dispatching H M) (answer : TurnAnswer) → Treats steps reports message taken answer new → new.queue ≡ taken.queue
treats-queue steps reports (Some m) taken new answer (result, handles, says, after) = ap (λ d. d.queue) after
treats-queue steps reports None taken new answer (says, after) = ap (λ d. d.queue) after

notifiers-queue : {H M : Type 0} (steps : H → HandlerCall M → H → Type 0) (tickers : H → List TickerDef) (moment : ℤ) (random : ℕ) (ready : Option ℕ) (old : Dispatching H M) (message : Option M) (taken : Dispatching H M) → TakesTurn steps tickers moment random (of_notifiers ready) old message taken → taken.queue ≡ old.queue
notifiers-queue steps tickers moment random (Some index) old (Some m) taken (step, after) = ap (λ d. d.queue) after
notifiers-queue steps tickers moment random (Some index) old None taken takes = elim takes [ ]
notifiers-queue steps tickers moment random None old (Some m) taken takes = elim takes [ ]
notifiers-queue steps tickers moment random None old None taken takes = ap (λ d. d.queue) takes

tickers-queue : {H M : Type 0} (steps : H → HandlerCall M → H → Type 0) (tickers : H → List TickerDef) (moment : ℤ) (random : ℕ) (due ready : Option ℕ) (old : Dispatching H M) (message : Option M) (taken : Dispatching H M) → TakesTurn steps tickers moment random (of_tickers due ready) old message taken → taken.queue ≡ old.queue
tickers-queue steps tickers moment random (Some index) ready old (Some m) taken (step, (ticker, there, after)) = ap (λ d. d.queue) after
tickers-queue steps tickers moment random (Some index) ready old None taken takes = elim takes [ ]
tickers-queue steps tickers moment random None ready old message taken takes = notifiers-queue steps tickers moment random ready old message taken takes

takes-loses : {H M : Type 0} (steps : H → HandlerCall M → H → Type 0) (tickers : H → List TickerDef) (reports : H → Option (Result (Unit {0}) CloseFault)) (moment : ℤ) (random : ℕ) (queue : List M) (due ready : Option ℕ) (old : Dispatching H M) (message : Option M) (taken new : Dispatching H M) (answer : TurnAnswer)
    → queue ≡ old.queue
    → TakesTurn steps tickers moment random (of_queue queue due ready) old message taken
    → Treats steps reports message taken answer new
    → Loses steps old (Turn moment random answer) new
takes-loses steps tickers reports moment random [] due ready old message taken new answer is takes treats =
    ([], inl refl, sym (treats-queue steps reports message taken new answer treats ∙ tickers-queue steps tickers moment random due ready old message taken takes))
takes-loses steps tickers reports moment random (m ∷ rest) due ready old None taken new answer is takes treats = elim takes [ ]
takes-loses {H} {M} steps tickers reports moment random (m ∷ rest) due ready old (Some message) taken new answer is (first, after) (result, handles, says, left) =
    let same : old.handler ≡ taken.handler = sym (ap (λ d. d.handler) after) in
    let gone : new.queue ≡ rest = ap (λ d. d.queue) left ∙ ap (λ d. d.queue) after in (
      message ∷ [],
      inr (message, result, refl, subst (λ (h : H). steps h (Handle message result) new.handler) (sym same) handles.step),
      sym is ∙ ap (λ x. x ∷ rest) (sym first) ∙ ap (λ (xs : List M). message ∷ xs) (sym gone),
    )

acts-loses : {H M : Type 0} (steps : H → HandlerCall M → H → Type 0) (tickers : H → List TickerDef) (ready : H → List Bool) (reports : H → Option (Result (Unit {0}) CloseFault)) (moment : ℤ) (random : ℕ) (is_cancelled : Bool) (old new : Dispatching H M) (answer : TurnAnswer)
    → Acts steps tickers ready reports moment random is_cancelled old answer new
    → Loses steps old (Turn moment random answer) new
acts-loses steps tickers ready reports moment random true old new answer (says, same) = ([], inl refl, sym (ap (λ d. d.queue) same))
acts-loses steps tickers ready reports moment random false old new answer (message, taken, takes, treats) =
    takes-loses steps tickers reports moment random old.queue (due_at moment old.dues) (first_ready (ready old.handler)) old message taken new answer refl takes treats

call-loses : {H M : Type 0} (steps : H → HandlerCall M → H → Type 0) (tickers : H → List TickerDef) (ready : H → List Bool) (reports : H → Option (Result (Unit {0}) CloseFault)) (old : Dispatching H M) (call : TaskCall) (new : Dispatching H M)
    → DispatcherSteps steps tickers ready reports old call new
    → Loses steps old call new
call-loses {H} {M} steps tickers ready reports old (Turn moment random answer) new (mid, acts, after) =
    subst (λ (d : Dispatching H M). Loses steps old (Turn moment random answer) d) (sym after)
    (acts-loses steps tickers ready reports moment random old.is_cancelled old mid answer acts)
call-loses steps tickers ready reports old Cancel new after = ([], refl, sym (ap (λ d. d.queue) after))
call-loses steps tickers ready reports old (Finish outcome) new (step, after) =
    (old.queue, step, sym (ap (λ queue. old.queue ++ queue) (ap (λ d. d.queue) after) ∙ append-nil old.queue))

after-send : {H M : Type 0} (steps : H → HandlerCall M → H → Type 0) (tickers : H → List TickerDef) (ready : H → List Bool) (reports : H → Option (Result (Unit {0}) CloseFault)) (old new : Dispatching H M) (message : M) (events : List (Event M))
    → GivesOnce steps tickers ready reports (with_sent message old) events new
    → GivesOnce steps tickers ready reports old (Send message ∷ events) new
after-send steps tickers ready reports old new message events (given, giving, whole) =
    (given, giving, sym (append_assoc old.queue (message ∷ []) (sent events)) ∙ whole)

after-call : {H M : Type 0} (steps : H → HandlerCall M → H → Type 0) (tickers : H → List TickerDef) (ready : H → List Bool) (reports : H → Option (Result (Unit {0}) CloseFault)) (old mid new : Dispatching H M) (call : TaskCall) (events : List (Event M))
    → DispatcherSteps steps tickers ready reports old call mid
    → Loses steps old call mid
    → GivesOnce steps tickers ready reports mid events new
    → GivesOnce steps tickers ready reports old (Call call ∷ events) new
after-call steps tickers ready reports old mid new call events step (now, gives, lost) (later, giving, whole) = (
  now ++ later,
  (mid, now, later, refl, step, gives, giving),
  ap (λ queue. queue ++ sent events) lost
      ∙ append_assoc now mid.queue (sent events)
      ∙ ap (λ rest. now ++ rest) whole
      ∙ sym (append_assoc now later new.queue),
)

pub gives_once : {H M : Type 0} (steps : H → HandlerCall M → H → Type 0) (tickers : H → List TickerDef) (ready : H → List Bool) (reports : H → Option (Result (Unit {0}) CloseFault)) (old new : Dispatching H M) (events : List (Event M))
    → Runs steps tickers ready reports old events new
    → GivesOnce steps tickers ready reports old events new
gives_once steps tickers ready reports old new [] same = ([], (refl, same), append-nil old.queue ∙ sym (ap (λ d. d.queue) same))
gives_once steps tickers ready reports old new (Send message ∷ events) runs =
    after-send steps tickers ready reports old new message events (gives_once steps tickers ready reports (with_sent message old) new events runs)
gives_once steps tickers ready reports old new (Call call ∷ events) (mid, step, runs) =
    after-call steps tickers ready reports old mid new call events step (call-loses steps tickers ready reports old call mid step)
    (gives_once steps tickers ready reports mid new events runs)
