use Rattle.std.proofs.Common.{◌≡◌, None, ap, subst, sym, ◌∙◌, length, take, nat_eq, arith, rules}
use Rattle.std.specs.List.{starts_with}
use Rattle.std.specs.Option.{option_copied}
use Rattle.slate_writer.specs.Segments.{IsConflict, IsNext, IsSame}
use Rattle.slate_writer.proofs.Orders.{AreNone, conflict-apart, conflict-begin, conflict-next, conflict-none}
use Rattle.slate_writer.proofs.key_prefixes.least_nesting.Goals as goal

pub returns-in-Some : goal.returns-in-Some
returns-in-Some c =
    let p = c.args.prefix.now in
    let at = subst (IsSame c.args.known.now (take c.loop-n.n p)) (ap option_copied c.in-Some.is) c.same.ensures in
    conflict-begin c.args.known.now p c.in-Some.found.now c.loop-n.n c.loop-n-test.true c.loop-n.invariant at.0 at.1

pub returns-in_err-other : goal.returns-in_err-other
returns-in_err-other c =
    let ks = c.args.known.now in
    let p = c.args.prefix.now in
    let none : AreNone ks p (length p) = λ k under. c.loop-n.invariant k (omega arith) in
    let at = subst (IsNext ks p) (ap option_copied c.in_err-other.was) c.next.ensures in
    let is : option_copied c.from_residual.result ≡ None = search rules in
    subst (IsConflict ks p) (sym is) (conflict-none ks p none at)

pub returns-then-starts_with : goal.returns-then-starts_with
returns-then-starts_with c =
    let ks = c.args.known.now in
    let p = c.args.prefix.now in
    let none : AreNone ks p (length p) = λ k under. c.loop-n.invariant k (omega arith) in
    let at = subst (IsNext ks p) (ap option_copied c.in_ok-other.was) c.next.ensures in
    conflict-next ks p c.in_ok-other.other.now none at (ap (λ k. starts_with nat_eq k p) (sym c.as_slice.ensures) ∙ (sym c.starts_with.ensures.value ∙ c.if-starts_with.true))

pub returns-else-starts_with : goal.returns-else-starts_with
returns-else-starts_with c =
    let ks = c.args.known.now in
    let p = c.args.prefix.now in
    let none : AreNone ks p (length p) = λ k under. c.loop-n.invariant k (omega arith) in
    let at = subst (IsNext ks p) (ap option_copied c.in_ok-other.was) c.next.ensures in
    conflict-apart ks p c.in_ok-other.other.now none at (ap (λ k. starts_with nat_eq k p) (sym c.as_slice.ensures) ∙ (sym c.starts_with.ensures.value ∙ c.if-starts_with.false))
