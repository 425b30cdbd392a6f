use Rattle.std.proofs.Common.{arith}
use Rattle.std.proofs.lemmas.List.Elements.{All-nil}
use Rattle.slate_rows.proofs.Steps.{IsStep-counted, IsStep-within, IsStep-same, IsStep-forward, rows-more, rows-fault, rows-end, order-more, order-fault, range-more, order-begin}
use Rattle.slate_rows.proofs.scans.rows_of.Goals as goal

pub loop-start-init : goal.loop-start-init
loop-start-init g c = record {
  bound = omega arith;
  rows = λ order sorted merge lawful. rw c.new-rows.ensures.items;
  in_order = λ order sorted. rw c.new-rows.ensures.items (order-begin order c.args.held.now sorted);
  inside = λ range all. rw c.new-rows.ensures.items (All-nil _);
}

pub fold_tail-found-requires : goal.fold_tail-found-requires
fold_tail-found-requires g c =
    let step = IsStep-counted c.as_slice-key.result.now c.args.held.now c.index-held-start.result c.loop-start.start c.front_len.result c.loop-start-test.true c.index-held-start.is c.as_slice-key.ensures c.front_len.ensures in
    IsStep-same _ _ _ _ _ _ step

pub returns-in-Some-clause-plain : goal.returns-in-Some-clause-plain
returns-in-Some-clause-plain g c order sorted merge lawful =
    let step = IsStep-counted c.as_slice-key.result.now c.args.held.now c.index-held-start.result c.loop-start.start c.front_len.result c.loop-start-test.true c.index-held-start.is c.as_slice-key.ensures c.front_len.ensures in
    rows-fault merge order _ _ _ _ _ _ c.fold_tail-found.result c.loop-start.rows.items c.add_found.new.rows.items c.in-Some.fault step sorted (c.fold_tail-found.ensures.plain merge lawful) (rw c.in-Some.is at c.in_ok-fault.ensures) (c.loop-start.invariant.rows order sorted merge lawful)

pub returns-in-Some-clause-in_order : goal.returns-in-Some-clause-in_order
returns-in-Some-clause-in_order g c order sorted = order-fault order _ c.fold_tail-found.result c.loop-start.rows.items c.add_found.new.rows.items c.in-Some.fault (rw c.in-Some.is at c.in_ok-fault.ensures) (c.loop-start.invariant.in_order order sorted)

pub loop-start-smaller : goal.loop-start-smaller
loop-start-smaller g c =
    let step = IsStep-counted c.as_slice-key.result.now c.args.held.now c.index-held-start.result c.loop-start.start c.front_len.result c.loop-start-test.true c.index-held-start.is c.as_slice-key.ensures c.front_len.ensures in
    omega (arith, IsStep-forward _ _ _ c.loop-start.start c.front_len.result _ step c.loop-start-test.true)

pub loop-start-preserved : goal.loop-start-preserved
loop-start-preserved g c =
    let step = IsStep-counted c.as_slice-key.result.now c.args.held.now c.index-held-start.result c.loop-start.start c.front_len.result c.loop-start-test.true c.index-held-start.is c.as_slice-key.ensures c.front_len.ensures in
    let adds = rw c.in_default.is at c.in_ok-fault.ensures in
    record {
      bound = IsStep-within c.as_slice-key.result.now c.args.held.now c.loop-start.start c.front_len.result c.loop-start.invariant.bound c.front_len.ensures;
      rows = λ order sorted merge lawful. rows-more merge order _ _ _ _ _ _ c.fold_tail-found.result c.loop-start.rows.items c.add_found.new.rows.items step sorted (c.fold_tail-found.ensures.plain merge lawful) adds (c.loop-start.invariant.rows order sorted merge lawful);
      in_order = λ order sorted. order-more order _ _ _ _ _ _ c.fold_tail-found.result c.loop-start.rows.items c.add_found.new.rows.items step sorted c.fold_tail-found.ensures.keyed adds (c.loop-start.invariant.in_order order sorted);
      inside = λ range all. range-more range _ _ _ _ c.fold_tail-found.result c.loop-start.rows.items c.add_found.new.rows.items c.loop-start-test.true c.index-held-start.is c.as_slice-key.ensures all c.fold_tail-found.ensures.keyed adds (c.loop-start.invariant.inside range all);
    }

pub returns-clause-plain : goal.returns-clause-plain
returns-clause-plain g c order sorted merge lawful = rows-end merge c.args.held.now c.loop-start.start c.loop-start.rows.items c.loop-start-test.false (c.loop-start.invariant.rows order sorted merge lawful)
