use Rattle.std.proofs.Common.{ap, ◌∙◌}
use Rattle.slate_status.specs.Segments.{union_of}
use Rattle.slate_model.specs.Segments.{segments_of}
use Rattle.slate_segments.proofs.Taking.{union-segments}
use Rattle.slate_follow.proofs.memory_segments.with_segments.Goals as goal

pub returns-clause-ok : goal.returns-clause-ok
returns-clause-ok g c x lawful =
    λ old own.
    c.in_ok-union.ensures.set
    ∙ (ap (λ a. union_of a c.as_slice.result.now) own
    ∙ (ap (union_of (segments_of x old)) (c.as_slice.ensures.value ∙ (c.in_ok-more.ensures.ok x lawful).1) ∙ union-segments x old c.args.batches.now))
