use Rattle.std.proofs.Common.{◌∙◌, ap, ℕ, ◌++◌, ◌<◌, ◌^◌, length}
use Rattle.std.proofs.Math.Nat.{mod-eq_of_lt}
use Rattle.slate_seqtrack.specs.Bits.{low_bits}
use Rattle.slate_seqtrack.proofs.Binary.{length-low_bits, number_of-low_bits}
use Rattle.slate_seqtrack.proofs.Coding.{IsWrittenBlock-of}
use Rattle.slate_seqtrack.proofs.encoding.encode_gorilla_i64.Goals as goal

pub returns-clause-written : goal.returns-clause-written
returns-clause-written c =
    let n : ℕ = length c.args.values.now in
    let few : length c.args.values.now < 2 ^ 32 = c.requires in (
      IsWrittenBlock-of c.args.values.now _ _ _ (low_bits 32 n) _ c.in_ok-push_values.ensures.written.1
          (length-low_bits 32 n, number_of-low_bits 32 n ∙ mod-eq_of_lt few)
          (c.in_ok-push32.ensures.ok ∙ ap (λ bits. bits ++ low_bits 32 n) c.new-writer.ensures) c.in_ok-push_values.ensures.written.2 c.in_ok-finish.ensures,
      c.in_ok-push_values.ensures.written.3,
    )
