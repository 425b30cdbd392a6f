use Rattle.std.proofs.Common.{◌≡◌, ℕ, List, [], take, drop}
use Rattle.std.specs.HashMap.{get}
use Rattle.std.specs.Str.{bytes_eq}
use Rattle.slate_model.specs.Write.{first_expiry, merge_refusal}
use Rattle.slate_writer.proofs.merges.merge_refusal.Given as goal

abbrev pub invariant-loop-key_op : goal.invariant-loop-key_op
invariant-loop-key_op l = record {
  noted : (key : List ℕ) → get bytes_eq l.expiries key ≡ first_expiry key (take l.key_op-index l.ops);
  refusal : merge_refusal [] l.ops ≡ merge_refusal (take l.key_op-index l.ops) (drop l.key_op-index l.ops);
}
