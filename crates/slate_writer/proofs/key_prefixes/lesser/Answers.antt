use Rattle.std.proofs.Common.{ap, subst, sym, ◌∙◌}
use Rattle.std.specs.Option.{option_copied}
use Rattle.slate_writer.specs.Segments.{IsConflict}
use Rattle.slate_writer.proofs.Prefixes.{join-first, join-other, join-second, lesser-one}
use Rattle.slate_writer.proofs.key_prefixes.lesser.Goals as goal

pub returns-in_default : goal.returns-in_default
returns-in_default c p ks os h g = join-other p ks os (option_copied c.args.other) (subst (IsConflict ks p) (ap option_copied c.in_default.is) h) g

pub returns-in_default-other : goal.returns-in_default-other
returns-in_default-other c p ks os h g =
    lesser-one p ks os (option_copied c.args.one) (option_copied c.args.other) h g c.in-Some.first.now (ap option_copied c.in-Some.is) (ap option_copied c.in_default-other.is)

pub returns-then-lt : goal.returns-then-lt
returns-then-lt c p ks os h g =
    join-second p ks os c.in-Some.first.now c.in-Some-other.second.now (subst (IsConflict ks p) (ap option_copied c.in-Some.is) h) (subst (IsConflict os p) (ap option_copied c.in-Some-other.is) g) (sym c.lt.ensures ∙ c.if-lt.true)

pub returns-else-lt : goal.returns-else-lt
returns-else-lt c p ks os h g =
    join-first p ks os c.in-Some.first.now c.in-Some-other.second.now (subst (IsConflict ks p) (ap option_copied c.in-Some.is) h) (subst (IsConflict os p) (ap option_copied c.in-Some-other.is) g) (sym c.lt.ensures ∙ c.if-lt.false)
