use Rattle.std.proofs.Common.{List, refl, ap, subst}
use mathlib.Core.List.{IsPrefix}
use Rattle.slate_published.specs.Published.{Published}
use Rattle.slate_published.proofs.Prefixes.{shorter_begins}
use Rattle.slate_published.proofs.fronts.Front.is_behind.Goals as goal

pub returns : goal.returns
returns c =
    let both = c.learn.new.self.log in
    let this : IsPrefix c.self.inside.seen.log both = subst (λ (l : List Published). IsPrefix l both) (ap (λ s. s.log) c.again-both.ensures) c.learn.ensures.2 in
    rw (← c.self.view_is, ← c.other.view_is)
    (shorter_begins c.self.inside.seen.log c.other.inside.seen.log both c.self.inside.count c.other.inside.count this c.learn.ensures.3 c.self.invariant.0 c.other.invariant.0 _ refl)
