use Rattle.slate_types.proofs.Prefixes.{with_prefix-keys}
use Rattle.slate_types.proofs.ranges.ByteRange.prefix_and_subrange.Goals as goal

pub returns-clause-keys : goal.returns-clause-keys
returns-clause-keys c key bytes =
    rw (c.in_ok-low_with_prefix.ensures, c.in_ok-high_with_prefix.ensures) (with_prefix-keys c.args.prefix.now c.args.subrange.now key bytes)
