use Rattle.std.proofs.Common.{arith}
use Rattle.slate_rows.proofs.Fronts.{counted-le, IsIndexKey-whole, IsIndexKey-front}
use Rattle.slate_rows.proofs.index_keys.compute_index_key.Goals as goal

pub returns-then-shared-len : goal.returns-then-shared-len
returns-then-shared-len c =
    rw c.in-Some.is
    (IsIndexKey-whole c.in-Some.prev.now c.args.this.now _ c.shared_len-shared.result (cc) (omega arith) c.in_ok-clone.ensures.cases)

pub overflow_add-shared : goal.overflow_add-shared
overflow_add-shared c = omega (arith, counted-le c.in-Some.prev.now c.args.this.now c.shared_len-shared.result (cc))

pub slice-requires-clause-in_bounds : goal.slice-requires-clause-in_bounds
slice-requires-clause-in_bounds c = omega (arith, counted-le c.in-Some.prev.now c.args.this.now c.shared_len-shared.result (cc))

pub returns : goal.returns
returns c =
    rw c.in-Some.is
    (IsIndexKey-front c.in-Some.prev.now c.args.this.now _ c.shared_len-shared.result (cc) (λ e. omega arith) c.in_ok-slice.ensures.ok)
