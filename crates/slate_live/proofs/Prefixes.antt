-- Lines that begin others.
pub use Rattle.slate_model.proofs.Prefixes.{prefix-same, prefix-extend, prefix-then, prefix-after, prefix-end, up_to-all, extended-nil, after-nil}
