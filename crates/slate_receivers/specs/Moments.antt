-- The moments of a clock that is set by hand.
use Rattle.std.specs.Prelude.{ℤ, List, [], ◌∷◌}

-- the moment that it answered last, and those that it answers next, in order
pub record Hand : Type 0 where
  pub last : ℤ
  pub ahead : List ℤ

-- it answers the first of those ahead, and without one the last one again
abbrev pub hand_at : ℤ → List ℤ → Hand
hand_at last [] = record { last = last; ahead = [] }
hand_at last (moment ∷ ahead) = record { last = moment; ahead = ahead }

abbrev pub next : Hand → Hand
next hand = hand_at hand.last hand.ahead
