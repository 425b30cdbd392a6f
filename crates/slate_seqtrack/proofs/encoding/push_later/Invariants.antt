use Rattle.std.proofs.Common.{◌≡◌, ℕ, ◌<◌, true, pos, get_or}
use Rattle.slate_seqtrack.specs.Block.{fits_i64}
use Rattle.slate_seqtrack.proofs.Coding.{ArePushed}
use Rattle.slate_seqtrack.proofs.encoding.push_later.Given as goal

abbrev pub invariant-loop-value : goal.invariant-loop-value
invariant-loop-value l = record {
  pushed : ArePushed l.first l.later l.fn.writer l.writer l.before l.previous l.value-index;
  fit : (k : ℕ) → k < l.value-index → fits_i64 (get_or l.later k (pos 0)) ≡ true;
}
