use Rattle.std.proofs.Common.{◌≡◌, ◌≤◌, ◌++◌, ℕ, IsTrue, true, List, length, All, Option}
use Rattle.std.specs.List.{AllByRecursion, flat_map}
use Rattle.std.specs.Option.{option_copied}
use Rattle.slate_types.specs.declared.ranges.ByteRange.{ByteRange}
use Rattle.slate_types.specs.Operator.{Merge}
use Rattle.slate_types.specs.Order.{AreInOrder, row_keys}
use Rattle.slate_types.specs.Range.{contains}
use Rattle.slate_reads.specs.Read.{IsOperator, read_at}
use Rattle.slate_rows.specs.Ahead.{all_ahead, AreEach, AreAhead}
use Rattle.slate_rows.specs.Scan.{rows_of}
use Rattle.slate_rows.proofs.Steps.{after_rows}
use Rattle.slate_rows.proofs.first_scans.read_first.Given as goal

-- the keys that are ahead, once they are in order, go after those that were read
abbrev pub invariant-rows : goal.invariant-rows
invariant-rows g l = record {
  count : length l.rows.items ≤ l.limit;
  each : AreEach l.order l.initial.walks → AreEach l.order l.walks;
  left : AreEach l.order l.initial.walks → (rest : List (List ℕ)) → AreAhead l.order l.walks rest → (keys : List (List ℕ)) × AreAhead l.order l.initial.walks keys
      × ((merge : Option Merge) → IsOperator g.M.MergeOperator.may_answer (option_copied l.operator) merge →
      rows_of (read_at merge (flat_map (λ table. table) l.stored ++ flat_map (λ table. table) l.memory) l.bound) keys
      ≡ after_rows l.rows.items (rows_of (read_at merge (flat_map (λ table. table) l.stored ++ flat_map (λ table. table) l.memory) l.bound) rest));
  in_order : AreEach l.order l.initial.walks → (rest : List (List ℕ)) → AreAhead l.order l.walks rest → AreInOrder l.order (row_keys l.rows.items ++ rest);
  inside : AreEach l.order l.initial.walks → (range : ByteRange) → AllByRecursion (λ key. contains range key ≡ true) (all_ahead l.order l.initial.walks) →
      All (λ row. IsTrue (contains range row.key)) l.rows.items × AllByRecursion (λ key. contains range key ≡ true) (all_ahead l.order l.walks);
}

abbrev pub decreases-rows : goal.decreases-rows
decreases-rows g l = length (all_ahead l.order l.walks)
