-- What a dispatcher is, and what its calls make of it.
use Rattle.std.specs.Prelude.{◌≡◌, ℕ, ℤ, pos, ◌+ℤ◌, Bool, true, false, List, [], ◌∷◌, ◌++◌, slice_get, slice_set, Option, Some, None, Result, Ok, Err}
use Rattle.slate_dispatch.specs.declared.tickers.TickerDef.{TickerDef}
use Rattle.slate_dispatch.specs.declared.tasks.TurnAnswer.{TurnAnswer}
use Rattle.slate_dispatch.specs.declared.tasks.TurnAnswer.TheVariants.{Cancelled, Handled, Idle, Failed}
use Rattle.slate_dispatch.specs.declared.dispatchers.SendRefusal.{SendRefusal}
use Rattle.slate_dispatch.specs.declared.dispatchers.SendRefusal.TheVariants.{Closed, NoMemory}
use Rattle.slate_dispatch.specs.Handlers.{Tick, Notify, Handle, Cleanup, HandlerSteps, Outcome}
use Rattle.slate_dispatch.specs.Origins.{Origin, Sent, Due, Ready, Nowhere, of_queue, due_at, first_ready}
use Rattle.slate_dispatch.specs.Tasks.{TaskCall, Turn, Cancel, Finish}
use Rattle.slate_dispatch.specs.Tickers.{wait_of, first_dues}

-- a dispatcher of a handler H with messages M
pub record Dispatching (H M : Type 0) : Type 0 where
  pub handler : H
  pub queue : List M  -- what was sent and not handled, in order
  pub is_closed : Bool  -- whether nothing can be sent any more
  pub dues : List ℤ  -- when each ticker is due
  pub is_cancelled : Bool
  pub last_answer : Option TurnAnswer
  pub finished : Option Outcome

-- a dispatcher that was made at a moment
abbrev pub fresh : {H M : Type 0} → H → ℤ → List TickerDef → Dispatching H M
fresh handler moment tickers =
    record {
      handler = handler;
      queue = [];
      is_closed = false;
      dues = first_dues moment tickers;
      is_cancelled = false;
      last_answer = None;
      finished = None;
    }

-- what `send` leaves and answers, where the close cell holds this
abbrev pub Sends : {H M : Type 0} → M → Option Outcome → Dispatching H M → Result (Unit {0}) (SendRefusal M) → Dispatching H M → Type 0
Sends message held old (Ok _) new = (old.is_closed ≡ false) × (new ≡ record old { queue = old.queue ++ message ∷ [] })
Sends message held old (Err (Closed back result)) new = (old.is_closed ≡ true) × (back ≡ message) × (result ≡ held) × (new ≡ old)
Sends message held old (Err (NoMemory back)) new = (old.is_closed ≡ false) × (back ≡ message) × (new ≡ old)

-- where the next message of a dispatcher comes from at a moment
abbrev pub origin : {H M : Type 0} → (H → List Bool) → ℤ → Dispatching H M → Origin M
origin ready moment d = of_queue d.queue (due_at moment d.dues) (first_ready (ready d.handler))

-- What taking the next message from where it comes leaves: the queue without it, or the handler after the call that
-- made it; a ticker is due again its wait later.
abbrev pub TakesTurn : {H M : Type 0} → HandlerSteps H M → (H → List TickerDef) → ℤ → ℕ → Origin M → Dispatching H M → Option M → Dispatching H M → Type 0
TakesTurn steps tickers moment random (Sent first rest) old (Some message) new = (message ≡ first) × (new ≡ record old { queue = rest })
TakesTurn steps tickers moment random (Due index) old (Some message) new =
    steps old.handler (Tick index message) new.handler
    × ((ticker : TickerDef)
    × (slice_get (tickers old.handler) index ≡ Some ticker)
    × (new ≡ record old { handler = new.handler; dues = slice_set old.dues index (moment +ℤ pos (wait_of ticker random)) }))
TakesTurn steps tickers moment random (Ready index) old (Some message) new =
    steps old.handler (Notify index message) new.handler × (new ≡ record old { handler = new.handler })
TakesTurn steps tickers moment random Nowhere old None new = new ≡ old
-- there is a message exactly where it comes from somewhere
TakesTurn steps tickers moment random (Sent first rest) old None new = ⊥
TakesTurn steps tickers moment random (Due index) old None new = ⊥
TakesTurn steps tickers moment random (Ready index) old None new = ⊥
TakesTurn steps tickers moment random Nowhere old (Some message) new = ⊥

-- what a turn answers by what the handler answered
abbrev pub answer_of : Outcome → TurnAnswer
answer_of (Ok _) = Handled
answer_of (Err fault) = Failed fault

-- the handler handles a message, and reports how that went
pub record Handles {H M : Type 0} (steps : HandlerSteps H M) (reports : H → Option Outcome) (message : M) (result : Outcome) (old new : H) : Type 0 where
  pub step : steps old (Handle message result) new
  pub reported : reports new ≡ Some result

-- what becomes of the next message, where there is one
abbrev pub Treats : {H M : Type 0} → HandlerSteps H M → (H → Option Outcome) → Option M → Dispatching H M → TurnAnswer → Dispatching H M → Type 0
Treats steps reports (Some message) old answer new =
    (result : Outcome)
    × Handles steps reports message result old.handler new.handler
    × (answer ≡ answer_of result)
    × (new ≡ record old { handler = new.handler })
Treats steps reports None old answer new = (answer ≡ Idle) × (new ≡ old)

-- A dispatcher that is cancelled does nothing. Any other one takes the next message, where there is one, and handles it.
abbrev pub Acts : {H M : Type 0} → HandlerSteps H M → (H → List TickerDef) → (H → List Bool) → (H → Option Outcome) →
    ℤ → ℕ → (is_cancelled : Bool) → Dispatching H M → TurnAnswer → Dispatching H M → Type 0
Acts steps tickers ready reports moment random true old answer new = (answer ≡ Cancelled) × (new ≡ old)
Acts {H} {M} steps tickers ready reports moment random false old answer new =
    (message : Option M)
    × (mid : Dispatching H M)
    × TakesTurn steps tickers moment random (origin ready moment old) old message mid
    × Treats steps reports message mid answer new

-- a turn of a dispatcher is what it does, and that it reports its answer
abbrev pub Turns : {H M : Type 0} → HandlerSteps H M → (H → List TickerDef) → (H → List Bool) → (H → Option Outcome) → ℤ → ℕ → Dispatching H M → TurnAnswer → Dispatching H M → Type 0
Turns {H} {M} steps tickers ready reports moment random old answer new =
    (mid : Dispatching H M)
    × Acts steps tickers ready reports moment random old.is_cancelled old answer mid
    × (new ≡ record mid { last_answer = Some answer })

-- what a call of a dispatcher makes of it
abbrev pub DispatcherSteps : {H M : Type 0} → HandlerSteps H M → (H → List TickerDef) → (H → List Bool) → (H → Option Outcome) → Dispatching H M → TaskCall → Dispatching H M → Type 0
DispatcherSteps steps tickers ready reports old (Turn moment random answer) new = Turns steps tickers ready reports moment random old answer new
DispatcherSteps steps tickers ready reports old Cancel new = new ≡ record old { is_cancelled = true }
-- the queue is closed, and all that is in it is offered once, in order
DispatcherSteps steps tickers ready reports old (Finish outcome) new =
    steps old.handler (Cleanup old.queue outcome) new.handler
    × (new ≡ record old { handler = new.handler; queue = []; is_closed = true; finished = Some outcome })
