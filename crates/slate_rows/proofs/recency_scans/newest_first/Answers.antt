use Rattle.std.proofs.Common.{◌≡◌, ◌∙◌, ap}
use Rattle.std.proofs.lemmas.List.{take_all}
use Rattle.slate_rows.specs.Recency.{source_entries}
use Rattle.slate_rows.proofs.recency_scans.newest_first.Goals as goal

pub returns : goal.returns
returns c =
    let all : c.loop-batch.entries.items ≡ source_entries c.args.bound c.args.prefix.now c.args.batches.now =
    c.loop-batch.invariant ∙ ap (source_entries c.args.bound c.args.prefix.now) (take_all c.loop-batch.batch-index c.args.batches.now c.loop-batch-test.false) in
    rw (c.from_vec.ensures.items, ← all) (record {
      moved = rw (← c.reverse.ensures.items) c.in_ok-sort.ensures.moved;
      sorted = c.in_ok-sort.ensures.sorted;
      stable = rw (← c.reverse.ensures.items) c.in_ok-sort.ensures.stable;
    })
