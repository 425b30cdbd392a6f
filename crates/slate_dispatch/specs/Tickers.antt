-- How long tickers wait, and when they are due first.
use Rattle.std.specs.Prelude.{ℕ, ℤ, pos, ◌+◌, ◌-◌, ◌*◌, ◌/◌, ◌%◌, ◌≤◌, ◌+ℤ◌, List, map}
use Rattle.slate_dispatch.specs.declared.tickers.TickerDef.{TickerDef}

-- no wait differs from the interval by more than the interval
abbrev pub IsTicker : TickerDef → Type 0
IsTicker ticker = ticker.jitter_thousandths ≤ 1000

-- by how much a wait may differ from the interval, in milliseconds
abbrev pub spread_of : TickerDef → ℕ
spread_of ticker = ticker.interval_ms * ticker.jitter_thousandths / 1000

-- how long a ticker waits, by a random word
abbrev pub wait_of : TickerDef → ℕ → ℕ
wait_of ticker random = ticker.interval_ms - spread_of ticker + random % (2 * spread_of ticker + 1)

-- when each ticker is due first, after this moment
abbrev pub first_dues : ℤ → List TickerDef → List ℤ
first_dues moment tickers = map (λ ticker. moment +ℤ pos ticker.interval_ms) tickers
