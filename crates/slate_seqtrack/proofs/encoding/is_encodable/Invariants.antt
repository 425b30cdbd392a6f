use Rattle.std.proofs.Common.{◌≡◌, ◌-ℤ◌, drop, map}
use Rattle.slate_seqtrack.specs.Block.{later_fit, is_encodable}
use Rattle.slate_seqtrack.proofs.encoding.is_encodable.Given as goal

-- all values fit exactly where those that are left do
abbrev pub invariant-loop-value : goal.invariant-loop-value
invariant-loop-value g l =
    is_encodable (map g.T.Word.signed l.values) ≡ later_fit l.previous (l.previous -ℤ l.before) (drop l.value-index (map g.T.Word.signed l.later))
