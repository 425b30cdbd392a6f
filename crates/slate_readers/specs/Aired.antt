-- What a run published so far.
use Rattle.std.specs.Prelude.{ℕ, Bool}
use Rattle.slate_published.specs.Beginnings.{Beginning}

pub record Aired : Type 0 where
  pub list : Beginning  -- by which call its publisher was made, and the states that it published
  pub place : ℕ  -- from this number on the first reader is looked for
  pub whole : Bool  -- whether no publication found too little memory
