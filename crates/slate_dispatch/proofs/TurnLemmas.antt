-- How the next message of a dispatcher is taken.
use Rattle.std.proofs.Common.{◌≡◌, ℕ, ◌<◌, length, true, false, Result, ℤ, pos, ◌+ℤ◌, Bool, List, [], slice_get, slice_set, Option, Some, None, IfSome, IfNone, sym, ◌∙◌, ap, subst}
use Rattle.slate_errors.specs.declared.closing.CloseFault.{CloseFault}
use Rattle.slate_dispatch.specs.declared.tasks.TurnAnswer.{TurnAnswer}
use Rattle.slate_dispatch.specs.declared.tasks.TurnAnswer.TheVariants.{Cancelled}
use Rattle.slate_dispatch.specs.declared.tickers.TickerDef.{TickerDef}
use Rattle.slate_dispatch.specs.Handlers.{HandlerCall, Tick, Notify}
use Rattle.slate_dispatch.specs.Origins.{Origin, Due, of_queue, of_tickers, of_notifiers, due_at, first_ready, TakesReady}
use Rattle.slate_dispatch.specs.Tickers.{wait_of}
use Rattle.slate_dispatch.specs.Turns.{Dispatching, TakesTurn, Acts, origin}
use Rattle.slate_dispatch.proofs.FirstReady.{AreFalseBelow, first-some}

-- an empty queue leaves it to the tickers
origin-no_queue : {H M : Type 0} (ready : H → List Bool) (moment : ℤ) (d : Dispatching H M) → d.queue ≡ [] → origin ready moment d ≡ of_tickers (due_at moment d.dues) (first_ready (ready d.handler))
origin-no_queue ready moment d empty = ap (λ queue. of_queue queue (due_at moment d.dues) (first_ready (ready d.handler))) empty

-- the message of a ticker that is due is taken, where the queue is empty before and after
pub takes-due : {H M : Type 0} (steps : H → HandlerCall M → H → Type 0) (tickers : H → List TickerDef) (ready : H → List Bool) (moment : ℤ) (random : ℕ) (old : Dispatching H M) (handler : H) (queue : List M) (dues : List ℤ) (message : M) (index : ℕ) (ticker : TickerDef)
    → old.queue ≡ []
    → queue ≡ []
    → due_at moment old.dues ≡ Some index
    → steps old.handler (Tick index message) handler
    → slice_get (tickers old.handler) index ≡ Some ticker
    → dues ≡ slice_set old.dues index (moment +ℤ pos (wait_of ticker random))
    → TakesTurn steps tickers moment random (origin ready moment old) old (Some message) (record old { handler = handler; queue = queue; dues = dues })
takes-due {H} {M} steps tickers ready moment random old handler queue dues message index ticker empty still due step there dues_are =
    let new : Dispatching H M = record old { handler = handler; queue = queue; dues = dues } in
    let from : origin ready moment old ≡ Due index =
    origin-no_queue ready moment old empty ∙ ap (λ due. of_tickers due (first_ready (ready old.handler))) due in
    let next : List ℤ = slice_set old.dues index (moment +ℤ pos (wait_of ticker random)) in
    let after : new ≡ record old { handler = handler; dues = next } =
    ap (λ (queue : List M). record old { handler = handler; queue = queue; dues = dues }) (still ∙ sym empty)
    ∙ ap (λ (dues : List ℤ). record old { handler = handler; dues = dues }) dues_are in
    subst (λ (from : Origin M). TakesTurn steps tickers moment random from old (Some message) new) (sym from) (step, (ticker, there, after))

by_notifier : {H M : Type 0} (steps : H → HandlerCall M → H → Type 0) (tickers : H → List TickerDef) (moment : ℤ) (random : ℕ) (old new : Dispatching H M) (found : Option ℕ) (message : M)
    → TakesReady steps found old.handler message new.handler
    → new ≡ record old { handler = new.handler }
    → TakesTurn steps tickers moment random (of_notifiers found) old (Some message) new
by_notifier steps tickers moment random old new (Some index) message step after = (step, after)
by_notifier steps tickers moment random old new None message none after = elim none [ ]

of_polled : {H M : Type 0} (steps : H → HandlerCall M → H → Type 0) (tickers : H → List TickerDef) (ready : H → List Bool) (moment : ℤ) (random : ℕ) (old new : Dispatching H M) (found : Option M)
    → IfNone found ((new.handler ≡ old.handler) × (first_ready (ready old.handler) ≡ None))
    → IfSome found (λ message. TakesReady steps (first_ready (ready old.handler)) old.handler message new.handler)
    → new ≡ record old { handler = new.handler }
    → TakesTurn steps tickers moment random (of_notifiers (first_ready (ready old.handler))) old found new
of_polled {H} {M} steps tickers ready moment random old new None none some after =
    let same : new ≡ old = after ∙ ap (λ (handler : H). record old { handler = handler }) none.0 in
    subst (λ (found : Option ℕ). TakesTurn steps tickers moment random (of_notifiers found) old None new) (sym none.1) same
of_polled steps tickers ready moment random old new (Some message) none some after =
    by_notifier steps tickers moment random old new (first_ready (ready old.handler)) message some after

-- the message of the first notifier that has one ready is taken, where the queue is empty and no ticker is due
pub takes-polled : {H M : Type 0} (steps : H → HandlerCall M → H → Type 0) (tickers : H → List TickerDef) (ready : H → List Bool) (moment : ℤ) (random : ℕ) (old : Dispatching H M) (handler : H) (queue : List M) (found : Option M)
    → old.queue ≡ []
    → queue ≡ []
    → due_at moment old.dues ≡ None
    → IfNone found ((handler ≡ old.handler) × (first_ready (ready old.handler) ≡ None))
    → IfSome found (λ message. TakesReady steps (first_ready (ready old.handler)) old.handler message handler)
    → TakesTurn steps tickers moment random (origin ready moment old) old found (record old { handler = handler; queue = queue })
takes-polled {H} {M} steps tickers ready moment random old handler queue found empty still due none some =
    let new : Dispatching H M = record old { handler = handler; queue = queue } in
    let from : origin ready moment old ≡ of_notifiers (first_ready (ready old.handler)) =
    origin-no_queue ready moment old empty ∙ ap (λ due. of_tickers due (first_ready (ready old.handler))) due in
    let after : new ≡ record old { handler = handler } = ap (λ (queue : List M). record old { handler = handler; queue = queue }) (still ∙ sym empty) in
    subst (λ (from : Origin M). TakesTurn steps tickers moment random from old found new) (sym from)
    (of_polled steps tickers ready moment random old new found none some after)

-- the first notifier that answers is the first that has a message ready
pub takes_first : {H M : Type 0} (steps : H → HandlerCall M → H → Type 0) (ready : H → List Bool) (old mid new : H) (message : M) (i : ℕ)
    → mid ≡ old
    → steps mid (Notify i message) new
    → i < length (ready old)
    → AreFalseBelow i (ready old)
    → (slice_get (ready mid) i ≡ Some false → ⊥)
    → TakesReady steps (first_ready (ready old)) old message new
takes_first steps ready old mid new message i same step within below here =
    let found : first_ready (ready old) ≡ Some i =
    first-some (ready old) i within below (λ e. here (ap (λ h. slice_get (ready h) i) same ∙ e)) in
    subst (λ (found : Option ℕ). TakesReady steps found old message new) (sym found) (subst (λ h. steps h (Notify i message) new) same step)

-- what a dispatcher that is cancelled does
pub acts-cancelled : {H M : Type 0} (steps : H → HandlerCall M → H → Type 0) (tickers : H → List TickerDef) (ready : H → List Bool) (reports : H → Option (Result (Unit {0}) CloseFault)) (moment : ℤ) (random : ℕ) (is_cancelled : Bool) (old new : Dispatching H M) (answer : TurnAnswer)
    → is_cancelled ≡ true
    → answer ≡ Cancelled
    → new ≡ old
    → Acts steps tickers ready reports moment random is_cancelled old answer new
acts-cancelled steps tickers ready reports moment random is_cancelled old new answer cancelled says same =
    subst (λ (b : Bool). Acts steps tickers ready reports moment random b old answer new) (sym cancelled) (says, same)

-- and one that isn't
pub acts-live : {H M : Type 0} (steps : H → HandlerCall M → H → Type 0) (tickers : H → List TickerDef) (ready : H → List Bool) (reports : H → Option (Result (Unit {0}) CloseFault)) (moment moment' : ℤ) (random : ℕ) (is_cancelled : Bool) (old old' new new' : Dispatching H M) (answer answer' : TurnAnswer)
    → is_cancelled ≡ false
    → moment' ≡ moment
    → old' ≡ old
    → new' ≡ new
    → answer' ≡ answer
    → Acts steps tickers ready reports moment' random false old' answer' new'
    → Acts steps tickers ready reports moment random is_cancelled old answer new
acts-live steps tickers ready reports moment moment' random is_cancelled old old' new new' answer answer' live m o n a acts =
    rw (live, ← m, ← o, ← n, ← a) acts
