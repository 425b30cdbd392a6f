use Rattle.std.proofs.Common.{◌≡◌, List, [], Ok, ap, arith, subst, sym, ◌∙◌}
use Rattle.std.proofs.lemmas.Result.{err_from_is_err_and}
use Rattle.slate_types.specs.declared.batches.Batch.{Batch}
use Rattle.slate_types.specs.Line.{AreNumberedFrom}
use Rattle.slate_feed.proofs.Running.{known, run-breaks, run-calls, run-ends, run-fails, run-goes, run-none}
use Rattle.slate_feed.proofs.machines.FeedMachine.run.Goals as goal

pub returns-in_err-call-clause-answers : goal.returns-in_err-call-clause-answers
returns-in_err-call-clause-answers g c =
    let i = c.loop-self.invariant in
    let e = c.in_err-call.ensures in
    let p = err_from_is_err_and c.from_residual.result c.from_residual.ensures.1 in
    rw (p.1, p.2) (known _ _ i.kept i.runs e.meets (λ o runs m. run-fails o c.args.self.now.cursor c.args.self.now.limit c.loop-self.self e.fits runs c.call.new.self _ m))

pub returns-in_err-call-clause-calls : goal.returns-in_err-call-clause-calls
returns-in_err-call-clause-calls g c =
    let i = c.loop-self.invariant in
    let e = c.in_err-call.ensures in
    known _ _ i.kept i.runs e.meets
    (λ o runs m. let k = run-calls o c.args.self.now.cursor c.args.self.now.limit c.loop-self.self e.fits runs i.going in let n = e.calls in omega (arith, n, i.calls, k))

pub loop-self-preserved : goal.loop-self-preserved
loop-self-preserved g c =
    let i = c.loop-self.invariant in
    let e = c.in_ok-call.ensures in
    let counted = e.counts (ap Ok c.in-Goes.is) in
    record {
      going = rw c.in-Goes.is at e.staged;
      cursor = e.cursor ∙ i.cursor;
      kept = e.kept ∙ i.kept;
      count = e.faults.stays ∙ i.count;
      calls = let n = e.calls in omega (arith, n, i.calls, counted);
      runs = known _ _ i.kept i.runs e.meets (λ o runs m. run-goes o c.args.self.now.cursor c.args.self.now.limit c.loop-self.self e.fits runs c.call.new.self (rw c.in-Goes.is at m));
    }

pub returns-in-Ends-clause-answers : goal.returns-in-Ends-clause-answers
returns-in-Ends-clause-answers g c =
    let i = c.loop-self.invariant in
    let e = c.in_ok-call.ensures in
    let numbered : AreNumberedFrom c.args.self.now.cursor c.call.new.self.found =
    subst (λ n. AreNumberedFrom n c.call.new.self.found) (e.cursor ∙ i.cursor) (subst (λ (bs : List Batch). AreNumberedFrom c.call.new.self.cursor bs) c.take_found.ensures.found c.take_found.ensures.numbered) in
    known _ _ i.kept i.runs e.meets (λ o runs m. rw c.take_found.ensures.found (run-ends o c.args.self.now.cursor c.args.self.now.limit c.loop-self.self e.fits runs c.call.new.self (rw c.in-Ends.is at m) numbered))

pub returns-in-Ends-clause-none : goal.returns-in-Ends-clause-none
returns-in-Ends-clause-none g c empty asked =
    let i = c.loop-self.invariant in
    let e = c.in_ok-call.ensures in
    let nothing : c.call.new.self.found ≡ [] = sym c.take_found.ensures.found ∙ cc empty in
    known _ _ i.kept i.runs e.meets (λ o runs m. rw c.take_found.ensures.left (run-none o c.args.self.now.cursor c.args.self.now.limit c.loop-self.self e.fits runs c.call.new.self (rw c.in-Ends.is at m) nothing asked))

pub returns-in-Ends-clause-calls : goal.returns-in-Ends-clause-calls
returns-in-Ends-clause-calls g c =
    let i = c.loop-self.invariant in
    let e = c.in_ok-call.ensures in
    known _ _ i.kept i.runs e.meets
    (λ o runs m. let k = run-calls o c.args.self.now.cursor c.args.self.now.limit c.loop-self.self e.fits runs i.going in let n = e.calls in omega (arith, n, i.calls, k))

pub returns-in-Breaks-clause-answers : goal.returns-in-Breaks-clause-answers
returns-in-Breaks-clause-answers g c =
    let i = c.loop-self.invariant in
    let e = c.in_ok-call.ensures in
    known _ _ i.kept i.runs e.meets (λ o runs m. run-breaks o c.args.self.now.cursor c.args.self.now.limit c.loop-self.self e.fits runs c.call.new.self (rw c.in-Breaks.is at m))

pub returns-in-Breaks-clause-calls : goal.returns-in-Breaks-clause-calls
returns-in-Breaks-clause-calls g c =
    let i = c.loop-self.invariant in
    let e = c.in_ok-call.ensures in
    known _ _ i.kept i.runs e.meets
    (λ o runs m. let k = run-calls o c.args.self.now.cursor c.args.self.now.limit c.loop-self.self e.fits runs i.going in let n = e.calls in omega (arith, n, i.calls, k))
