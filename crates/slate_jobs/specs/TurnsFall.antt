-- Above turns there are fewer than these.
use Rattle.std.specs.Prelude.{◌≡◌, ◌≤◌, ◌+◌, ◌/◌, List, [], ◌∷◌, length, Option, Some, None, Box}
use Rattle.std.proofs.Common.{arith, ap}
use Rattle.std.specs.declared.alloc.Global.{Global}
use Rattle.slate_jobs.specs.declared.turns.Turn.{Turn}
use Rattle.slate_jobs.specs.declared.turns.Turns.{Turns}
use Rattle.slate_jobs.specs.declared.turns.Turns.TheInside.{Inside}
use Rattle.slate_jobs.specs.declared.turns.Turns.TheDeep.{deep-Turns}
use Rattle.slate_jobs.specs.Turns.{ArePairs, pairs}

-- how many pairs there are
pub length-pairs : (xs : List Turn) → length (pairs xs) ≡ (length xs + 1) / 2
length-pairs [] = omega arith
length-pairs (a ∷ []) = omega arith
length-pairs (a ∷ b ∷ xs) = let rest = length-pairs xs in omega (arith, rest)

-- they are fewer
pub above_smaller : (a : Inside) → ArePairs a.turns.items a.above → deep-Turns a ≤ length a.turns.items
above_smaller a are = by a.above are where
  by : (x : Option (Box Turns Global)) → ArePairs a.turns.items x → deep-Turns (record { turns = a.turns; above = x }) ≤ length a.turns.items
  by None are = omega arith
  by (Some above) are =
      let less = length-pairs a.turns.items in
      let same : length above.value ≡ length (pairs a.turns.items) = ap length are.0 in
      let two = are.1 in
      omega (arith, less, same, two)
