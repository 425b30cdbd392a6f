use Rattle.std.proofs.Common.{◌≡◌, ◌∙◌, ◌+◌, ◌≤◌, ◌++◌, Err, length, ap, arith, subst, sym}
use Rattle.std.proofs.lemmas.Result.{err_from_is_err_and}
use Rattle.slate_types.specs.Line.{AreNumberedFrom, batches_above}
use Rattle.slate_errors.specs.declared.errors.SlateError.TheVariants.{EmptySegmentPrefix}
use Rattle.slate_model.specs.Follower.{Follower, number}
use Rattle.slate_model.specs.Segments.{segments_of}
use Rattle.slate_follow.specs.Joined.{joined}
use Rattle.slate_follow.specs.Rebuilding.{Lacks}
use Rattle.slate_follow.proofs.Above.{above-twice}
use Rattle.slate_follow.proofs.Arriving.{segments-or-key}
use Rattle.slate_follow.proofs.Having.{after-numbers, joined-after}
use Rattle.slate_follow.proofs.Refusing.{err-same}
use Rattle.slate_follow.proofs.states.FollowerState.taking_after.Goals as goal

pub returns-in_err-segments-clause-lacks : goal.returns-in_err-segments-clause-lacks
returns-in_err-segments-clause-lacks g c x key lawful is =
    let p = err_from_is_err_and c.from_residual-in_err-segments.result c.from_residual-in_err-segments.ensures.1 in
    let e = c.in_err-segments.field-0.0 in
    let named : e ≡ EmptySegmentPrefix key = err-same _ e (EmptySegmentPrefix key) (sym (p.1 ∙ ap Err p.2) ∙ is) in
    let lacks = segments-or-key e key named (c.in_err-segments.ensures.err x lawful) in
    let inside = c.self.inside in
    let bs = joined inside.kept.items in
    let n = c.args.tabled in
    let own = c.in_ok-tables.ensures.same ∙ ap (λ ts. batches_above n (joined ts)) c.as_slice.ensures.value in
    let left = ap joined c.as_slice-own.ensures.value ∙ (own ∙ ap (λ (f : Follower). batches_above n f.line.batches) c.self.view_is) in
    let all = joined-after n c.args.self.now.line.batches c.args.fresh (joined c.as_slice-own.result.now) c.batches-more.result.now left (c.batches-more.ensures.value ∙ c.drop_through.ensures) in
    (lacks.0, subst (λ bs. Lacks x bs lacks.0) all lacks.1)

pub add_table-requires : goal.add_table-requires
add_table-requires g c =
    let inside = c.self.inside in
    let bs = joined inside.kept.items in
    let n = c.args.tabled in
    let own = c.in_ok-tables.ensures.same ∙ ap (λ ts. batches_above n (joined ts)) c.as_slice.ensures.value in
    let i = c.self.invariant in
    let at : number c.args.self.now ≡ inside.number = sym (ap number c.self.view_is) ∙ sym i.number in
    let are = after-numbers inside.status.manifest.manifest.last_l0_seq n inside.number bs c.args.fresh (joined c.in_ok-tables.tables.items ++ c.drop_through.new.self) i.numbered i.number (subst (λ k. AreNumberedFrom k c.args.fresh) at c.requires.numbered)
    (subst (λ (f : Follower). f.view.manifest.last_l0_seq ≤ n) (sym c.self.view_is) c.requires.low) (subst (λ k. n ≤ k + length c.args.fresh) at c.requires.high) (joined-after n bs c.args.fresh (joined c.in_ok-tables.tables.items) c.drop_through.new.self own c.drop_through.ensures) in
    (n, are.0)

pub invariant_of-result : goal.invariant_of-result
invariant_of-result g c =
    let inside = c.self.inside in
    let bs = joined inside.kept.items in
    let n = c.args.tabled in
    let own = c.in_ok-tables.ensures.same ∙ ap (λ ts. batches_above n (joined ts)) c.as_slice.ensures.value in
    let i = c.self.invariant in
    let at : number c.args.self.now ≡ inside.number = sym (ap number c.self.view_is) ∙ sym i.number in
    let are = after-numbers inside.status.manifest.manifest.last_l0_seq n inside.number bs c.args.fresh (joined c.in_ok-tables.tables.items ++ c.drop_through.new.self) i.numbered i.number (subst (λ k. AreNumberedFrom k c.args.fresh) at c.requires.numbered)
    (subst (λ (f : Follower). f.view.manifest.last_l0_seq ≤ n) (sym c.self.view_is) c.requires.low) (subst (λ k. n ≤ k + length c.args.fresh) at c.requires.high) (joined-after n bs c.args.fresh (joined c.in_ok-tables.tables.items) c.drop_through.new.self own c.drop_through.ensures) in
    let e = c.in_ok-add_table.ensures in
    let count = ap length e.ok in
    let ends = are.1 in
    let few = ap length c.batches.ensures.value in
    let fits = c.requires.fits in
    record {
      filled = e.filled c.in_ok-tables.ensures.filled;
      numbered = subst (AreNumberedFrom n) (sym e.ok) are.0;
      fits = omega (arith, count, ends, fits, at);
      number = omega (arith, count, ends, few);
    }

pub returns-clause-segments : goal.returns-clause-segments
returns-clause-segments g c x lawful has =
    let inside = c.self.inside in
    let bs = joined inside.kept.items in
    let n = c.args.tabled in
    let own = c.in_ok-tables.ensures.same ∙ ap (λ ts. batches_above n (joined ts)) c.as_slice.ensures.value in
    let all = joined-after n bs c.args.fresh (joined c.as_slice-own.result.now) c.batches-more.result.now (ap joined c.as_slice-own.ensures.value ∙ own) (c.batches-more.ensures.value ∙ c.drop_through.ensures) in
    let whole = c.in_ok-add_table.ensures.ok ∙ joined-after n bs c.args.fresh (joined c.in_ok-tables.tables.items) c.drop_through.new.self own c.drop_through.ensures in
    c.of.ensures ∙ (c.in_ok-segments.ensures.ok x lawful has ∙ ap (segments_of x) (all ∙ sym (ap (batches_above n) whole ∙ above-twice n n (bs ++ c.args.fresh) (omega arith))))
