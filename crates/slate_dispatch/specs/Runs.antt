-- Whole runs of a dispatcher, and what its handler is given of the messages that are sent.
use Rattle.std.specs.Prelude.{◌≡◌, ◌⊎◌, Bool, List, [], ◌∷◌, ◌++◌, Option, Result}
use Rattle.slate_dispatch.specs.declared.tickers.TickerDef.{TickerDef}
use Rattle.slate_dispatch.specs.Handlers.{Handle, Cleanup, HandlerSteps, Outcome}
use Rattle.slate_dispatch.specs.Tasks.{TaskCall, Turn, Cancel, Finish}
use Rattle.slate_dispatch.specs.Turns.{Dispatching, DispatcherSteps}

-- what is done with a dispatcher: a message is sent to it and accepted, or a call of its task is made
pub data Event (M : Type 0) : Type 0 where
  Send : M → Event M
  Call : TaskCall → Event M

-- the messages that were sent, in order
abbrev pub sent : {M : Type 0} → List (Event M) → List M
sent [] = []
sent (Send message ∷ events) = message ∷ sent events
sent (Call call ∷ events) = sent events

-- The handler is given these messages in a call: a turn has it handle one of them at most, and the end offers them.
abbrev pub GivesMessages : {H M : Type 0} → HandlerSteps H M → Dispatching H M → TaskCall → List M → Dispatching H M → Type 0
GivesMessages {H} {M} steps old (Turn moment random answer) given new =
    (given ≡ [])
    ⊎ ((message : M)
    × (result : Outcome)
    × (given ≡ message ∷ [])
    × steps old.handler (Handle message result) new.handler)
GivesMessages steps old Cancel given new = given ≡ []
GivesMessages steps old (Finish outcome) given new = steps old.handler (Cleanup given outcome) new.handler

abbrev pub with_sent : {H M : Type 0} → M → Dispatching H M → Dispatching H M
with_sent message d = record d { queue = d.queue ++ message ∷ [] }

-- a run, one thing after another
abbrev pub Runs : {H M : Type 0} → HandlerSteps H M → (H → List TickerDef) → (H → List Bool) → (H → Option Outcome) → Dispatching H M → List (Event M) → Dispatching H M → Type 0
Runs steps tickers ready reports old [] new = new ≡ old
Runs steps tickers ready reports old (Send message ∷ events) new = Runs steps tickers ready reports (with_sent message old) events new
Runs {H} {M} steps tickers ready reports old (Call call ∷ events) new =
    (mid : Dispatching H M) × DispatcherSteps steps tickers ready reports old call mid × Runs steps tickers ready reports mid events new

-- The same run, in which the handler is given these messages, in order.
abbrev pub RunsGiving : {H M : Type 0} → HandlerSteps H M → (H → List TickerDef) → (H → List Bool) → (H → Option Outcome) → Dispatching H M → List (Event M) → List M → Dispatching H M → Type 0
RunsGiving steps tickers ready reports old [] given new = (given ≡ []) × (new ≡ old)
RunsGiving steps tickers ready reports old (Send message ∷ events) given new = RunsGiving steps tickers ready reports (with_sent message old) events given new
RunsGiving {H} {M} steps tickers ready reports old (Call call ∷ events) given new =
    (mid : Dispatching H M)
    × (now later : List M)
    × (given ≡ now ++ later)
    × DispatcherSteps steps tickers ready reports old call mid
    × GivesMessages steps old call now mid
    × RunsGiving steps tickers ready reports mid events later new

-- Each message that is sent is given once, in order, or is still in the queue.
abbrev pub GivesOnce : {H M : Type 0} → HandlerSteps H M → (H → List TickerDef) → (H → List Bool) → (H → Option Outcome) → Dispatching H M → List (Event M) → Dispatching H M → Type 0
GivesOnce {H} {M} steps tickers ready reports old events new =
    (given : List M) × RunsGiving steps tickers ready reports old events given new × (old.queue ++ sent events ≡ given ++ new.queue)
