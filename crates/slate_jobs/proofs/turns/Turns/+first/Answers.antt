use Rattle.std.proofs.Common.{◌≡◌, ◌*◌, length, arith, sym, subst, ap, ◌∙◌}
use Rattle.std.proofs.lemmas.Int.{to_z-of_z}
use Rattle.std.specs.Int.{w64}
use Rattle.std.specs.Prelude.{None, Some, position, slice_get}
use Rattle.std.proofs.lemmas.List.Quantifiers.{position-Some}
use Rattle.slate_jobs.specs.Turns.{has_come, in_pair, pairs}
use Rattle.slate_jobs.specs.declared.turns.Turn.TheVariants.{Now}
use Rattle.slate_jobs.proofs.Turning.{first-none, first-some, there-are, pair-within}
use Rattle.slate_jobs.proofs.turns.Turns.+first.Goals as goal

pub in_pair-requires : goal.in_pair-requires
in_pair-requires t c =
    let are = there-are c.self.inside.turns.items c.self.inside.above c.in-Some.above c.in-Some.is c.self.invariant in
    let same = ap length (c.deref.ensures ∙ are.0) in
    let within = c.in_ok-first-in-Some.ensures.within in
    let here = ap length c.as_slice-turns.ensures.value in
    let less = pair-within c.self.inside.turns.items c.in_ok-first-in-Some.field-0 (omega (arith, within, same)) in
    omega (arith, less, here)

pub returns-in_err-first-in-Some-clause-place : goal.returns-in_err-first-in-Some-clause-place
returns-in_err-first-in-Some-clause-place t c =
    let m = c.args.moment in
    let are = there-are c.self.inside.turns.items c.self.inside.above c.in-Some.above c.in-Some.is c.self.invariant in
    let found : position (has_come m) c.deref.result.now ≡ None = rw (to_z-of_z w64 m c.ranges.moment) at (sym c.in_err-first-in-Some.ensures.place) in
    let none : position (has_come m) (pairs c.self.inside.turns.items) ≡ None = subst (λ ts. position (has_come m) ts ≡ None) (c.deref.ensures ∙ are.0) found in
    c.from_residual.ensures ∙ (first-none m c.self.inside.turns.items none ∙ ap (position (has_come m)) c.self.view_is)

pub returns-in_ok-first-in-Some-clause-place : goal.returns-in_ok-first-in-Some-clause-place
returns-in_ok-first-in-Some-clause-place t c =
    let m = c.args.moment in
    let k = c.in_ok-first-in-Some.field-0 in
    let are = there-are c.self.inside.turns.items c.self.inside.above c.in-Some.above c.in-Some.is c.self.invariant in
    let found : position (has_come m) c.deref.result.now ≡ Some k = rw (to_z-of_z w64 m c.ranges.moment) at (sym c.in_ok-first-in-Some.ensures.place) in
    let some : position (has_come m) (pairs c.self.inside.turns.items) ≡ Some k = subst (λ ts. position (has_come m) ts ≡ Some k) (c.deref.ensures ∙ are.0) found in
    let here = subst (λ ts. Some c.in_pair.result ≡ in_pair (has_come m) k (slice_get ts (2 * k))) c.as_slice-turns.ensures.value (rw (to_z-of_z w64 m c.ranges.moment) at c.in_pair.ensures) in
    first-some m c.self.inside.turns.items k c.in_pair.result some here ∙ ap (position (has_come m)) c.self.view_is

pub returns-in_ok-first-in-Some-clause-within : goal.returns-in_ok-first-in-Some-clause-within
returns-in_ok-first-in-Some-clause-within t c = (position-Some (has_come c.args.moment) c.args.self.now c.in_pair.result Now (sym (returns-in_ok-first-in-Some-clause-place t c))).0
