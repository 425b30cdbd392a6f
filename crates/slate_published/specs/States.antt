-- Lists of states that were published.
use Rattle.std.specs.Prelude.{List, []}
use Rattle.std.specs.List.{fold}
use Rattle.std.specs.List.Sorted.{IsNonDecreasingBy}
use Rattle.slate_published.specs.Published.{Published}

-- the state before any is published
abbrev pub nothing_published : Published
nothing_published = record { number = 0; manifest_id = 0; tables = []; last_l0_seq = 0; memory = [] }

-- the last one of a list, and the state before any where there is none
abbrev pub last_of : List Published → Published
last_of states = fold (λ (before state : Published). state) nothing_published states

-- the numbers never fall along a list
abbrev pub NeverFall : List Published → Type 0
NeverFall states = IsNonDecreasingBy (λ (state : Published). state.number) states
