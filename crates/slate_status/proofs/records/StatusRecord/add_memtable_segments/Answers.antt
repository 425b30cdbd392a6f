use Rattle.std.proofs.Common.{List, ℕ, All, Contains, subst, ap}
use Rattle.slate_status.proofs.Unions.{nothing_added}
use Rattle.slate_status.proofs.records.StatusRecord.add_memtable_segments.Goals as goal

pub returns-then-are_among-clause-ok : goal.returns-then-are_among-clause-ok
returns-then-are_among-clause-ok c =
    nothing_added c.args.self.now c.self.inside.segments c.args.prefixes.now (ap (λ r. r.segments) c.self.view_is) c.self.invariant
    (subst (λ (ps : List (List ℕ)). All (Contains ps) c.args.prefixes.now) c.as_slice-present.ensures (c.are_among.ensures c.if-are_among.true))
