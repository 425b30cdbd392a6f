-- What a board's words stand for.
use Rattle.std.specs.Prelude.{ℕ, zero, suc, ℤ, pos, ◌-ℤ◌, ◌^◌, List, slice_index}
use Rattle.slate_board.specs.declared.views.BoardView.{BoardView}

-- a word counts up from the least tick
abbrev pub tick_of : ℕ → ℤ
tick_of word = pos word -ℤ pos (2 ^ 63)

-- three words: the tick, the durable number and the close code
abbrev pub numbers_of : List ℕ → BoardView
numbers_of words = record { tick = tick_of (slice_index words 0); durable = slice_index words 1; close = slice_index words 2 }

-- these numbers, with that of one word in the place of theirs
abbrev pub with_word : ℕ → ℕ → BoardView → BoardView
with_word zero word numbers = record { tick = tick_of word; durable = numbers.durable; close = numbers.close }
with_word (suc zero) word numbers = record { tick = numbers.tick; durable = word; close = numbers.close }
with_word (suc (suc _)) word numbers = record { tick = numbers.tick; durable = numbers.durable; close = word }
