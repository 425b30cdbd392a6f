-- What a contract sees of a view.
use Rattle.slate_published.specs.Beginnings.{Beginning}
use Rattle.slate_published.specs.Published.{Published}
use Rattle.slate_published.specs.States.{last_of}
use Rattle.slate_published.specs.declared.views.ReaderView.{ReaderView}

-- the states that were published up to the one that is viewed
abbrev pub viewed : ReaderView → Beginning
viewed view = view.edition.now

-- the state that is viewed
abbrev pub state_of : ReaderView → Published
state_of view = last_of (viewed view).states
