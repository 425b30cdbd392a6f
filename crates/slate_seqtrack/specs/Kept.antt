-- How a tracker keeps its pairs: as two lists of one length that never fall, in room made beforehand.
use Rattle.std.specs.Prelude.{◌≡◌, ℕ, ◌+◌, ◌^◌, ◌<◌, ◌≤◌, ℤ, ◌≤ℤ◌, List, [], length, All, Option, MatchOption}
use Rattle.std.specs.Ordering.{nat_cmp, int_cmp}
use Rattle.std.specs.List.Sorted.{IsSorted}

-- no time lies after the last recorded one
abbrev pub AreRecorded : Option ℤ → List ℤ → Type 0
AreRecorded recorded times = MatchOption recorded (times ≡ []) (λ last. All (λ time. time ≤ℤ last) times)

-- there is room for an insertion into a list of so many elements
abbrev pub HasRoom : ℕ → ℕ → ℕ → Type 0
HasRoom capacity count room = (capacity + 2 ≤ room) × (count < room)

pub record IsKeptTracker (capacity : ℕ) (recorded : Option ℤ) (numbers : List ℕ) (times : List ℤ) (numbers_room times_room : ℕ) : Type 0 where
  pub paired : length times ≡ length numbers
  pub few : length numbers < 2 ^ 32
  pub room_for_numbers : HasRoom capacity (length numbers) numbers_room
  pub room_for_times : HasRoom capacity (length times) times_room
  pub numbers_rise : IsSorted nat_cmp numbers
  pub times_rise : IsSorted int_cmp times
  pub before : AreRecorded recorded times
