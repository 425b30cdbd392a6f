-- Where the next message of a dispatcher comes from.
use Rattle.std.specs.Prelude.{ℕ, ℤ, int_le, Bool, List, [], ◌∷◌, Option, Some, None}
use Rattle.std.specs.List.{position}
use Rattle.slate_dispatch.specs.Handlers.{HandlerCall, Notify}

-- where the next message comes from
pub data Origin (M : Type 0) : Type 0 where
  -- it is the first of the queue, and these come after it
  Sent : M → List M → Origin M
  -- the first ticker that is due has this index
  Due : ℕ → Origin M
  -- the first notifier that has a message ready has this index
  Ready : ℕ → Origin M
  -- there is none
  Nowhere : Origin M

abbrev pub of_notifiers : {M : Type 0} → Option ℕ → Origin M
of_notifiers (Some index) = Ready index
of_notifiers None = Nowhere

abbrev pub of_tickers : {M : Type 0} → Option ℕ → Option ℕ → Origin M
of_tickers (Some index) ready = Due index
of_tickers None ready = of_notifiers ready

-- the queue comes first, then the tickers, and then the notifiers
abbrev pub of_queue : {M : Type 0} → List M → Option ℕ → Option ℕ → Origin M
of_queue (message ∷ rest) due ready = Sent message rest
of_queue [] due ready = of_tickers due ready

-- the first ticker that is due at a moment
abbrev pub due_at : ℤ → List ℤ → Option ℕ
due_at moment dues = position (λ due. int_le due moment) dues

-- the first notifier that has a message ready
abbrev pub first_ready : List Bool → Option ℕ
first_ready ready = position (λ is_ready. is_ready) ready

-- the message of that notifier is taken
abbrev pub TakesReady : {H M : Type 0} → (H → HandlerCall M → H → Type 0) → Option ℕ → H → M → H → Type 0
TakesReady steps None old message new = ⊥
TakesReady steps (Some index) old message new = steps old (Notify index message) new
