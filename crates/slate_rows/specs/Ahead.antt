-- Walks over the keys of several tables at once, and the keys that are ahead of them.
use Rattle.std.specs.Prelude.{◌≡◌, ◌⊎◌, ◌↔◌, ℕ, false, if◌then◌else◌, List, [], ◌∷◌, Contains, reverse, Option, Some, None}
use Rattle.std.specs.List.{AllByRecursion, flat_map}
use Rattle.std.specs.Option.{option_copied}
use Rattle.std.specs.Str.{bytes_eq}
use Rattle.slate_types.specs.declared.scan_options.IterationOrder.{IterationOrder}
use Rattle.slate_types.specs.declared.scan_options.IterationOrder.TheVariants.{Ascending, Descending}
use Rattle.slate_types.specs.Order.{is_before, AreInOrder}
use Rattle.slate_rows.specs.declared.table_walks.Walk.{Walk}

-- ascending keys, in the order
abbrev pub turned : IterationOrder → List (List ℕ) → List (List ℕ)
turned Ascending keys = keys
turned Descending keys = reverse keys

-- the next key, and those after it; nothing where there is no next one
abbrev pub from_next : Option (List ℕ) → List (List ℕ) → List (List ℕ)
from_next None later = []
from_next (Some key) later = key ∷ later

-- the keys ahead of a walk
abbrev pub ahead : IterationOrder → Walk → List (List ℕ)
ahead order walk = from_next (option_copied walk.next) (turned order walk.later)

-- those ahead of walks, one walk after another
abbrev pub all_ahead : IterationOrder → List Walk → List (List ℕ)
all_ahead order walks = flat_map (ahead order) walks

-- each walk goes in the order
abbrev pub AreEach : IterationOrder → List Walk → Type 0
AreEach order walks = AllByRecursion (λ walk. AreInOrder order (ahead order walk)) walks

-- These are the keys ahead of walks, each once, in the order.
pub record AreAhead (order : IterationOrder) (walks : List Walk) (keys : List (List ℕ)) : Type 0 where
  pub in_order : AreInOrder order keys
  pub same : (key : List ℕ) → Contains keys key ↔ Contains (all_ahead order walks) key

-- the one of two keys that comes first, of which each may be absent
abbrev pub earlier : IterationOrder → Option (List ℕ) → Option (List ℕ) → Option (List ℕ)
earlier order None next = next
earlier order (Some first) None = Some first
earlier order (Some first) (Some next) = if is_before order next first then Some next else Some first

-- the first of these keys isn't before another one
abbrev pub IsNotBefore : IterationOrder → List ℕ → List (List ℕ) → Type 0
IsNotBefore order key [] = Unit {0}
IsNotBefore order key (first ∷ keys) = is_before order first key ≡ false

-- the first of these keys isn't this one
abbrev pub IsOther : List ℕ → List (List ℕ) → Type 0
IsOther key [] = Unit {0}
IsOther key (first ∷ keys) = bytes_eq first key ≡ false

-- some walk has this key next
abbrev pub IsNext : List ℕ → List Walk → Type 0
IsNext key [] = ⊥
IsNext key (walk ∷ walks) = (option_copied walk.next ≡ Some key) ⊎ IsNext key walks

-- some walk has this key next, and none has one before it
pub record IsFirst (order : IterationOrder) (key : List ℕ) (walks : List Walk) : Type 0 where
  pub among : IsNext key walks
  pub least : AllByRecursion (λ walk. IsNotBefore order key (ahead order walk)) walks

-- a walk after it passed a key, where that was next
abbrev pub Passes : IterationOrder → List ℕ → Walk → Walk → Type 0
Passes order key old new = (ahead order old ≡ key ∷ ahead order new) ⊎ ((ahead order new ≡ ahead order old) × IsOther key (ahead order old))

-- walks after each passed a key
abbrev pub Pass : IterationOrder → List ℕ → List Walk → List Walk → Type 0
Pass order key [] [] = Unit {0}
Pass order key [] (new ∷ news) = ⊥
Pass order key (old ∷ olds) [] = ⊥
Pass order key (old ∷ olds) (new ∷ news) = Passes order key old new × Pass order key olds news
