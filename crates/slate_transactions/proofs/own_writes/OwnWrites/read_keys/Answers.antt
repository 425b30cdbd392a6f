use Rattle.std.proofs.Common.{◌≡◌, None, ◌∙◌, ap, subst, ◌+◌, ◌++◌, true, drop}
use Rattle.std.specs.List.{flat_map}
use Rattle.slate_types.specs.Range.{contains}
use Rattle.slate_reads.specs.Read.{read_at}
use Rattle.slate_types.specs.Order.{AreInOrder, row_keys}
use Rattle.slate_rows.specs.Scan.{rows_of}
use Rattle.slate_rows.specs.Walked.{key_list}
use Rattle.slate_transactions.specs.Own.{seen_with}
use Rattle.slate_rows.proofs.Steps.{after_rows, found-more, found-end, order-found, order-fault, range-found, range-fault}
use Rattle.slate_rows.proofs.Walks.{key_list-drop, all-in, contains-key}
use Rattle.slate_transactions.proofs.own_writes.OwnWrites.read_keys.Goals as goal

pub loop-key-preserved : goal.loop-key-preserved
loop-key-preserved g c =
    let adds = rw c.in_default.is at c.in_ok-fault.ensures in
    let left = key_list-drop c.args.keys.now c.loop-key.key-index c.key-item.result c.loop-key-test.true c.key-item.is in
    let rest = key_list (drop (c.loop-key.key-index + 1) c.args.keys.now) in
    let batches = seen_with c.args.bound (flat_map (λ table. table) c.args.stored.now ++ flat_map (λ table. table) c.args.memory.now) c.args.self.now in
    record {
      rows = λ merge lawful.
          c.loop-key.invariant.rows merge lawful ∙ ap (λ ks. after_rows c.loop-key.rows.items (rows_of (read_at merge batches None) ks)) left
          ∙ found-more (read_at merge batches None c.key-item.result.now) c.read-found.result c.loop-key.rows.items c.add_found.new.rows.items (rows_of (read_at merge batches None) rest)
          (c.read-found.ensures.plain merge lawful) adds;
      in_order = λ order sorted. order-found order c.key-item.result.now c.read-found.result c.loop-key.rows.items c.add_found.new.rows.items rest c.read-found.ensures.keyed adds
          (subst (λ ks. AreInOrder order (row_keys c.loop-key.rows.items ++ ks)) left (c.loop-key.invariant.in_order order sorted));
      inside = λ range all. range-found range c.key-item.result.now c.read-found.result c.loop-key.rows.items c.add_found.new.rows.items
          (all-in (λ key. contains range key ≡ true) (key_list c.args.keys.now) c.key-item.result.now all (contains-key c.args.keys.now c.loop-key.key-index c.key-item.result c.loop-key-test.true c.key-item.is))
          c.read-found.ensures.keyed adds (c.loop-key.invariant.inside range all);
    }

pub returns-in-Some-clause-plain : goal.returns-in-Some-clause-plain
returns-in-Some-clause-plain g c merge lawful =
    let adds = rw c.in-Some.is at c.in_ok-fault.ensures in
    let left = key_list-drop c.args.keys.now c.loop-key.key-index c.key-item.result c.loop-key-test.true c.key-item.is in
    let rest = key_list (drop (c.loop-key.key-index + 1) c.args.keys.now) in
    let batches = seen_with c.args.bound (flat_map (λ table. table) c.args.stored.now ++ flat_map (λ table. table) c.args.memory.now) c.args.self.now in
    c.loop-key.invariant.rows merge lawful ∙ ap (λ ks. after_rows c.loop-key.rows.items (rows_of (read_at merge batches None) ks)) left
    ∙ found-end (read_at merge batches None c.key-item.result.now) c.read-found.result c.loop-key.rows.items c.add_found.new.rows.items c.in-Some.fault (rows_of (read_at merge batches None) rest)
    (c.read-found.ensures.plain merge lawful) adds

pub returns-in-Some-clause-in_order : goal.returns-in-Some-clause-in_order
returns-in-Some-clause-in_order g c order sorted =
    order-fault order _ c.read-found.result c.loop-key.rows.items c.add_found.new.rows.items c.in-Some.fault (rw c.in-Some.is at c.in_ok-fault.ensures) (c.loop-key.invariant.in_order order sorted)

pub returns-in-Some-clause-within : goal.returns-in-Some-clause-within
returns-in-Some-clause-within g c range all =
    range-fault range c.read-found.result c.loop-key.rows.items c.add_found.new.rows.items c.in-Some.fault (rw c.in-Some.is at c.in_ok-fault.ensures) (c.loop-key.invariant.inside range all)
