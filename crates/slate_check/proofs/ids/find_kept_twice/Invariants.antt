use Rattle.std.proofs.Common.{◌≡◌, ℕ, eqb, take}
use Rattle.std.specs.BTreeSet.{contains}
use Rattle.std.specs.List.{IsDistinct, list_any}
use Rattle.std.specs.Ordering.{nat_cmp}
use Rattle.slate_check.specs.Named.{kept_ids}
use Rattle.slate_check.proofs.ids.find_kept_twice.Given as goal

abbrev pub invariant-loop-checkpoint : goal.invariant-loop-checkpoint
invariant-loop-checkpoint l = record {
  differ : IsDistinct eqb (kept_ids (take l.checkpoint-index l.checkpoints));
  seen : (id : ℕ) → contains nat_cmp l.seen id ≡ list_any (eqb id) (kept_ids (take l.checkpoint-index l.checkpoints));
}
