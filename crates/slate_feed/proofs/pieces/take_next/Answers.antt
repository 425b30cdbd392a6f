use Rattle.std.proofs.Common.{◌+◌, inl, arith, drop, length, take}
use Rattle.slate_types.specs.Line.{batches_above}
use Rattle.slate_feed.proofs.Leading.{above-next, above-split, below, filled, first-gap, first-whole, gap, took}
use Rattle.slate_feed.proofs.pieces.take_next.Goals as goal

pub loop-batch-preserved : goal.loop-batch-preserved
loop-batch-preserved c =
    let i = c.loop-batch.batch-index in
    let all = c.args.batches.now in
    let n = c.args.above in
    let b = c.batch-item.result in
    let split = above-split n i all b c.loop-batch-test.true c.batch-item.is c.if-batch-above.false in
    let one = rw c.in-Whole.is at c.in_ok-take_one.ensures.takes in
    record {
      so_far = rw (above-next n i all b c.loop-batch-test.true c.batch-item.is c.if-batch-above.false)
          (took c.args.cursor (batches_above n all) (batches_above n (take i all)) (batches_above n (drop (i + 1) all)) c.args.found.now c.loop-batch.found b split c.loop-batch.invariant.so_far c.take_one.new.found one);
      fits = c.take_one.ensures.fits;
      room = omega arith;
    }

pub returns-then-len-limit : goal.returns-then-len-limit
returns-then-len-limit c =
    let i = c.loop-batch.batch-index in
    let all = c.args.batches.now in
    let n = c.args.above in
    let b = c.batch-item.result in
    let split = above-split n i all b c.loop-batch-test.true c.batch-item.is c.if-batch-above.false in
    let one = rw c.in-Whole.is at c.in_ok-take_one.ensures.takes in
    let so_far = took c.args.cursor (batches_above n all) (batches_above n (take i all)) (batches_above n (drop (i + 1) all)) c.args.found.now c.loop-batch.found b split c.loop-batch.invariant.so_far c.take_one.new.found one in
    let full = filled c.args.cursor (batches_above n all) (batches_above n (take i all)) (batches_above n (drop (i + 1) all)) c.args.found.now c.loop-batch.found b split c.loop-batch.invariant.so_far c.take_one.new.found c.args.limit one c.loop-batch.invariant.room (omega arith) in
    record {
      numbered = so_far.numbered;
      fits = c.take_one.ensures.fits;
      fresh = so_far.fresh;
      within = omega (arith, full);
      grows = so_far.grows;
      first = λ _ fresh. first-whole c.args.cursor (batches_above n all) (batches_above n (take i all)) (batches_above n (drop (i + 1) all)) c.args.found.now c.loop-batch.found b split c.loop-batch.invariant.so_far c.take_one.new.found one fresh;
      takes = inl full;
    }

pub returns-in-Gap-clause-first : goal.returns-in-Gap-clause-first
returns-in-Gap-clause-first c _ fresh =
    let i = c.loop-batch.batch-index in
    let all = c.args.batches.now in
    let n = c.args.above in
    let b = c.batch-item.result in
    let split = above-split n i all b c.loop-batch-test.true c.batch-item.is c.if-batch-above.false in
    let one = rw c.in-Gap.is at c.in_ok-take_one.ensures.takes in
    first-gap c.args.cursor (batches_above n all) (batches_above n (take i all)) (batches_above n (drop (i + 1) all)) c.args.found.now c.loop-batch.found b split c.loop-batch.invariant.so_far c.take_one.new.found one fresh

pub returns-in-Gap-clause-takes : goal.returns-in-Gap-clause-takes
returns-in-Gap-clause-takes c =
    let i = c.loop-batch.batch-index in
    let all = c.args.batches.now in
    let n = c.args.above in
    let b = c.batch-item.result in
    let split = above-split n i all b c.loop-batch-test.true c.batch-item.is c.if-batch-above.false in
    let one = rw c.in-Gap.is at c.in_ok-take_one.ensures.takes in (
      c.args.cursor + length c.loop-batch.found.batches.items,
      gap c.args.cursor (batches_above n all) (batches_above n (take i all)) (batches_above n (drop (i + 1) all)) c.args.found.now c.loop-batch.found b split c.loop-batch.invariant.so_far c.take_one.new.found one,
    )

pub returns-in-Below-clause-takes : goal.returns-in-Below-clause-takes
returns-in-Below-clause-takes c =
    let i = c.loop-batch.batch-index in
    let all = c.args.batches.now in
    let n = c.args.above in
    let b = c.batch-item.result in
    let split = above-split n i all b c.loop-batch-test.true c.batch-item.is c.if-batch-above.false in
    let one = rw c.in-Below.is at c.in_ok-take_one.ensures.takes in
    below c.args.cursor (batches_above n all) (batches_above n (take i all)) (batches_above n (drop (i + 1) all)) c.args.found.now c.loop-batch.found b split c.loop-batch.invariant.so_far c.take_one.new.found c.in-Below.floor c.args.limit one
