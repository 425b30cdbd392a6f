-- Lists whose items stand at places, whatever was dropped before them.
use Rattle.std.specs.Prelude.{◌≡◌, ℕ, ◌+◌, ◌-◌, ◌^◌, ◌<◌, ◌≤◌, List, length, get_or}

-- the list has this at an index
pub record IsAt {A : Type 0} (list : List A) (index : ℕ) (item : A) : Type 0 where
  pub within : index < length list
  pub is : (d : A) → get_or list index d ≡ item

-- Items that stand at places, one after another: the place of the first, and how many more can come without memory.
pub record Run (A : Type 0) : Type 0 where
  pub start : ℕ
  pub items : List A
  pub room : ℕ

-- this stands at a place
pub record Stands {A : Type 0} (run : Run A) (place : ℕ) (item : A) : Type 0 where
  pub from : run.start ≤ place
  pub at : IsAt run.items (place - run.start) item

-- a run with the same items at the same places
pub record IsSame {A : Type 0} (run new : Run A) : Type 0 where
  pub start : new.start ≡ run.start
  pub items : new.items ≡ run.items

-- so many more can come, without memory and at places below 2^64
pub record HasRoom {A : Type 0} (run : Run A) (count : ℕ) : Type 0 where
  pub room : count ≤ run.room
  pub fits : run.start + length run.items + count < 2 ^ 64
