-- What a writer of the two copies of an edition keeps.
use Rattle.std.specs.Prelude.{◌≡◌, List}
use Rattle.std.specs.List.{fold}
use Rattle.logbook.specs.Pages.{Book}
use Rattle.slate_published.specs.Beginnings.{Beginning}

-- the origin after these editions were taken in
abbrev pub origin_after : Book → List Beginning → Book
origin_after origin editions = fold (λ (before : Book) (e : Beginning). e.origin) origin editions

-- what is shown, and what waits to be, is of one origin
pub record AreOfOrigin (origin : Book) (shown : Beginning) (waiting : List Beginning) : Type 0 where
  pub shows : shown.origin ≡ origin
  pub waits : origin_after origin waiting ≡ origin
