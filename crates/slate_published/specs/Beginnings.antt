-- What is known of the states that a publisher published.
use Rattle.std.specs.Prelude.{List}
use Rattle.logbook.specs.Pages.{Book}
use Rattle.slate_published.specs.Published.{Published}

-- By which call publisher and readers were made, and the first states that the publisher published, in order: those that
-- a reader saw or was told of, or that are told.
pub record Beginning : Type 0 where
  pub origin : Book
  pub states : List Published
