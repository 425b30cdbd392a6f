-- The rule of the two copies of an edition.
use Rattle.std.specs.Prelude.{◌≡◌, ℕ, List, Option, Some, IfSome}
use mathlib.Core.Option.{some}
use lib.ListN.{get_elem?}
use Rattle.logbook.specs.Pages.{Book}
use Rattle.slate_published.specs.Beginnings.{Beginning}

-- each seat that knows an origin knows that of what is shown
abbrev pub AreOfOne : Beginning → List (Option Book) → Type 0
AreOfOne shown views = (seat : ℕ) (origin : Book) → get_elem? views seat ≡ some (Some origin) → origin ≡ shown.origin

-- the seat knows the origin of what is shown afterwards; what it knew was that of what was shown before
abbrev pub ShowsOrigin : Option Book → Beginning → Beginning → Option Book → Type 0
ShowsOrigin known before after knows = (knows ≡ Some after.origin) × IfSome known (λ origin. origin ≡ before.origin)
