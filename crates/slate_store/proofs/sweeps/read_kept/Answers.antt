use Rattle.std.proofs.Common.{rules, ◌≡◌, ◌++◌, [], ◌∷◌, Err, sym, ◌∙◌, arith}
use Rattle.slate_store.specs.Refusals.{refusal_of}
use Rattle.slate_store.specs.Steps.{ReadsKept, kept_by}
use Rattle.slate_store.proofs.Expiring.{both-known, read-next, unread}
use Rattle.slate_store.proofs.sweeps.read_kept.Goals as goal

pub returns-in_err-manifest-clause-reads : goal.returns-in_err-manifest-clause-reads
returns-in_err-manifest-clause-reads g c =
    let i = c.loop-checkpoint.invariant in
    let e = c.in_err-manifest.field-0.0 in
    let all = both-known (λ o. ReadsKept c.args.checkpoints.now o (Err (refusal_of e))) i.kept i.read c.in_err-manifest.ensures.found
    (λ o so_far found. unread c.args.checkpoints.now c.checkpoint-item.result o e (c.loop-checkpoint.checkpoint-index, c.loop-checkpoint-test.true, sym c.checkpoint-item.is) found) in
    search (rules, all)

pub loop-checkpoint-preserved : goal.loop-checkpoint-preserved
loop-checkpoint-preserved g c =
    let i = c.loop-checkpoint.invariant in
    let checkpoints = c.args.checkpoints.now in
    let pushed : c.push.new.self.items ≡ c.loop-checkpoint.kept.items ++ c.in_ok-manifest.manifest ∷ [] = search rules in
    let counts = c.read_manifest.ensures.counts in
    record {
      kept = c.read_manifest.ensures.kept ∙ i.kept;
      faults = let n = c.in_ok-manifest.ensures.counts.stays in omega (arith, n, i.faults);
      calls = omega (arith, i.calls, counts.call_count);
      read = both-known (λ o. c.push.new.self.items ≡ kept_by o _) i.kept i.read c.in_ok-manifest.ensures.found
          (λ o so_far found. pushed ∙ read-next o checkpoints c.loop-checkpoint.checkpoint-index c.checkpoint-item.result c.loop-checkpoint.kept.items c.in_ok-manifest.manifest c.loop-checkpoint-test.true c.checkpoint-item.is so_far found);
    }
