use Rattle.std.proofs.Common.{◌≡◌, sym, ◌∙◌, ℤ, pos, ◌<◌, length, get_or, below_more, w32, w64, rules, arith}
use mir.Val.{of_z, to_z, SFits}
use Rattle.std.proofs.lemmas.Int.{to_z-of_z}
use Rattle.std.proofs.lemmas.List.{get_or_default}
use Rattle.slate_seqtrack.proofs.Coding.{ArePushed-init, ArePushed-more, ArePushed-end, all-fit}
use Rattle.slate_seqtrack.proofs.Twos.{fits_i64-yes}
use Rattle.slate_seqtrack.proofs.encoding.push_later.Goals as goal

pub loop-value-init : goal.loop-value-init
loop-value-init c = record { pushed = ArePushed-init _ _ _; fit = λ k lt. absurd (omega arith) }

pub loop-value-preserved : goal.loop-value-preserved
loop-value-preserved c =
    let item : ℤ = get_or c.args.later.now c.loop-value.value-index (pos 0) in
    let inside : c.loop-value.value-index < length c.args.later.now = omega arith in
    let fits : SFits w64 item = search rules in
    let value : to_z w64 (of_z w64 item) ≡ item = to_z-of_z w64 item fits in
    let narrow : SFits w32 c.in-Some.code = search rules in
    let code : to_z w32 (of_z w32 c.in-Some.code) ≡ c.in-Some.code = to_z-of_z w32 c.in-Some.code narrow in
    record {
      pushed = ArePushed-more _ _ _ _ _ c.in_ok-push_code.ensures.0 _ _ _ _ c.loop-value.invariant.pushed inside (value ∙ get_or_default c.args.later.now c.loop-value.value-index (pos 0) _ inside) c.in-Some.ensures.1
          (rw (sym c.in-Some.ensures.0, sym code) c.in_ok-push_code.ensures.1) c.in_ok-push_code.ensures.2;
      fit = below_more _ _ c.loop-value.invariant.fit (fits_i64-yes item fits);
    }

pub returns-clause-written : goal.returns-clause-written
returns-clause-written c = rw (to_z-of_z w64 c.args.first c.ranges.first) at (ArePushed-end _ _ _ _ _ _ _ c.loop-value.invariant.pushed c.loop-value-test.false)

pub returns-clause-fit : goal.returns-clause-fit
returns-clause-fit c = all-fit c.args.later.now (λ k lt. c.loop-value.invariant.fit k (omega arith))
