use Rattle.std.proofs.Common.{◌≡◌, Option, None, IfSome, drop, map}
use Rattle.std.specs.Option.{option_copied}
use Rattle.slate_types.specs.Operator.{Merge}
use Rattle.slate_reads.specs.Read.{IsOperator, fold_versions}
use Rattle.slate_reads.specs.Tails.{seen}
use Rattle.slate_reads.proofs.reads.fold.Given as goal

-- the versions that are left, on the row so far, give the whole
abbrev pub invariant-loop-version : goal.invariant-loop-version
invariant-loop-version g l = record {
  left : (merge : Option Merge) → IsOperator g.M.MergeOperator.may_answer (option_copied l.operator) merge →
      fold_versions merge l.key l.row (map seen (drop l.version-index l.versions)) ≡ fold_versions merge l.key None (map seen l.versions);
  keyed : IfSome l.row (λ row. row.key ≡ l.key);
}
