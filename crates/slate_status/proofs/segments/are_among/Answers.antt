use Rattle.std.proofs.Common.{List, ℕ, All, Contains, subst}
use Rattle.std.proofs.lemmas.List.{take_all}
use Rattle.slate_status.proofs.Unions.{All-take_more}
use Rattle.slate_status.proofs.segments.are_among.Goals as goal

pub loop-prefix-preserved : goal.loop-prefix-preserved
loop-prefix-preserved c =
    All-take_more c.args.present.now c.args.prefixes.now c.loop-prefix.prefix-index c.prefix-item.result c.loop-prefix-test.true c.prefix-item.is (c.is_among.ensures c.if-not-is_among.false) c.loop-prefix.invariant

pub returns : goal.returns
returns c = λ _. subst (λ (ps : List (List ℕ)). All (Contains c.args.present.now) ps) (take_all c.loop-prefix.prefix-index c.args.prefixes.now c.loop-prefix-test.false) c.loop-prefix.invariant
