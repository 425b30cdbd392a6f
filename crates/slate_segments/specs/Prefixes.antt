-- Which prefixes a list has.
use Rattle.std.specs.Prelude.{◌≡◌, ℕ, Bool, List}
use Rattle.std.specs.List.{list_any}
use Rattle.std.specs.Ordering.{eq_by_cmp}
use Rattle.slate_types.specs.Range.{key_cmp}

-- whether a prefix is one of these
abbrev pub is_one_of : List (List ℕ) → List ℕ → Bool
is_one_of prefixes prefix = list_any (eq_by_cmp key_cmp prefix) prefixes

-- two lists have the same prefixes
abbrev pub HaveSame : (some others : List (List ℕ)) → Type 0
HaveSame some others = (prefix : List ℕ) → is_one_of some prefix ≡ is_one_of others prefix
