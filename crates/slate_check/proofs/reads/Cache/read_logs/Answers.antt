use Rattle.std.proofs.Common.{◌≡◌, ◌≤◌, ◌+◌, ◌∙◌, ◌++◌, Some, ap, arith, max, sym}
use Rattle.std.specs.List.{flat_map}
use Rattle.slate_store.proofs.Logs.{between-count, between-next}
use Rattle.slate_store.specs.Objects.{log_at}
use Rattle.slate_check.proofs.Reading.{flat-push, stored-next}
use Rattle.slate_check.proofs.reads.Cache.read_logs.Goals as goal

pub loop-before-preserved : goal.loop-before-preserved
loop-before-preserved g c =
    let i = c.loop-before.invariant in
    let before = c.loop-before.before in
    record {
      kept = c.in_ok-log.ensures.kept ∙ i.kept;
      faults = let n = c.in_ok-log.ensures.count in omega (arith, n, i.faults);
      within = let low : before ≤ max c.args.mark c.args.last = i.within in let less = c.loop-before-test.true in omega (arith, low, less);
      of = λ o h a. c.in_ok-log.ensures.of o (i.kept ∙ h) (i.of o h a);
      stored = λ o h a. stored-next o c.args.mark before c.in-Some.log (i.stored o h a) (sym (c.in_ok-log.ensures.found o (i.kept ∙ h) (i.of o h a)) ∙ c.in-Some.is);
      joined = λ o h a.
          let at : log_at (before + 1) o ≡ Some c.in-Some.log = sym (c.in_ok-log.ensures.found o (i.kept ∙ h) (i.of o h a)) ∙ c.in-Some.is in
          ap (flat_map (λ log. log)) c.in_ok-push.ensures ∙ (flat-push c.loop-before.logs.items c.in-Some.log
          ∙ (ap (λ l. l ++ c.in-Some.log) (i.joined o h a) ∙ sym (between-next c.args.mark before o c.in-Some.log c.loop-before.auto.before at)));
    }

pub returns-clause-found : goal.returns-clause-found
returns-clause-found g c o h a =
    let i = c.loop-before.invariant in
    let before = c.loop-before.before in
    let within : before ≤ max c.args.mark c.args.last = i.within in
    let low = c.loop-before.auto.before in
    let end = c.loop-before-test.false in (
      λ id over high. i.stored o h a id over (omega (arith, high, end)),
      ap (flat_map (λ log. log)) c.of.ensures ∙ (i.joined o h a ∙ between-count c.args.mark before c.args.last o (omega (arith, within, low, end))),
    )
