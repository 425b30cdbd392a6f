use Rattle.std.proofs.Common.{◌≡◌, ◌∙◌, ap, ◌++◌, ◌∷◌, [], true, length, arith}
use Rattle.std.specs.List.{flat_map}
use Rattle.slate_types.specs.Range.{contains}
use Rattle.slate_reads.specs.Read.{read_at}
use Rattle.slate_rows.specs.Front.{first_rows}
use Rattle.slate_rows.specs.Scan.{rows_of}
use Rattle.slate_rows.proofs.Ahead.{AreAhead-some}
use Rattle.slate_rows.proofs.Limited.{first_rows-done, first_rows-full, first_rows-fault, count-found, ahead-within}
use Rattle.slate_rows.proofs.Steps.{found-more, found-end, order-found, order-fault, order-end, range-found, range-fault, kept-fault}
use Rattle.slate_rows.proofs.first_scans.read_first.Goals as goal

pub rows-preserved : goal.rows-preserved
rows-preserved g c =
    let adds = rw c.in_default-2.is at c.in_ok-fault.ensures in
    let key = c.in-Some.key.now in
    let inv = c.rows.invariant in
    let batches = flat_map (λ table. table) c.args.stored.now ++ flat_map (λ table. table) c.args.memory.now in
    record {
      count = omega (arith, count-found c.read_key-found.result c.rows.rows.items c.add_found.new.rows.items adds, c.rows-test.true, c.len.ensures, c.rows.rows.ok.0);
      each = λ each. c.in-Some.ensures.each (inv.each each);
      left = λ each rest later.
          let found = inv.left each (key ∷ rest) (c.in-Some.ensures.ahead (inv.each each) rest later) in (
            found.0,
            found.1,
            λ merge lawful. found.2 merge lawful ∙ found-more (read_at merge batches c.args.bound key) c.read_key-found.result c.rows.rows.items c.add_found.new.rows.items (rows_of (read_at merge batches c.args.bound) rest)
                (c.read_key-found.ensures.plain merge lawful) adds,
          );
      in_order = λ each rest later. order-found c.args.order key c.read_key-found.result c.rows.rows.items c.add_found.new.rows.items rest c.read_key-found.ensures.keyed adds
          (inv.in_order each (key ∷ rest) (c.in-Some.ensures.ahead (inv.each each) rest later));
      inside = λ each range all.
          let before = inv.inside each range all in
          let within = ahead-within (λ k. contains range k ≡ true) c.args.order key c.rows.walks c.next_key.new.walks (c.in-Some.ensures.ahead (inv.each each)) before.1 in
          (range-found range key c.read_key-found.result c.rows.rows.items c.add_found.new.rows.items within.0 c.read_key-found.ensures.keyed adds before.0, within.1);
    }

pub returns-in_default-clause-plain : goal.returns-in_default-clause-plain
returns-in_default-clause-plain g c each merge lawful =
    let inv = c.rows.invariant in
    let found = inv.left each [] (c.in_default.ensures.ahead (inv.each each)) in
    (found.0, found.1, ap (first_rows c.args.limit) (found.2 merge lawful) ∙ first_rows-done c.args.limit c.rows.rows.items inv.count)

pub returns-in_default-clause-in_order : goal.returns-in_default-clause-in_order
returns-in_default-clause-in_order g c each = order-end c.args.order [] c.rows.rows.items (c.rows.invariant.in_order each [] (c.in_default.ensures.ahead (c.rows.invariant.each each)))

pub returns-in_default-clause-within : goal.returns-in_default-clause-within
returns-in_default-clause-within g c each range all = (c.rows.invariant.inside each range all).0

pub returns-in-Some-2-clause-plain : goal.returns-in-Some-2-clause-plain
returns-in-Some-2-clause-plain g c each merge lawful =
    let adds = rw c.in-Some-2.is at c.in_ok-fault.ensures in
    let key = c.in-Some.key.now in
    let inv = c.rows.invariant in
    let batches = flat_map (λ table. table) c.args.stored.now ++ flat_map (λ table. table) c.args.memory.now in
    let some = AreAhead-some c.args.order c.next_key.new.walks in
    let found = inv.left each (key ∷ some.0) (c.in-Some.ensures.ahead (inv.each each) some.0 some.1) in
    let rows = c.rows.rows.items in
    let new = c.add_found.new.rows.items in
    let same = kept-fault c.read_key-found.result rows new c.in-Some-2.fault adds in (
      found.0,
      found.1,
      ap (first_rows c.args.limit) (found.2 merge lawful ∙ found-end (read_at merge batches c.args.bound key) c.read_key-found.result rows new c.in-Some-2.fault (rows_of (read_at merge batches c.args.bound) some.0)
          (c.read_key-found.ensures.plain merge lawful) adds)
          ∙ first_rows-fault c.args.limit new c.in-Some-2.fault (omega (arith, ap length same, c.rows-test.true, c.len.ensures, c.rows.rows.ok.0)),
    )

pub returns-in-Some-2-clause-in_order : goal.returns-in-Some-2-clause-in_order
returns-in-Some-2-clause-in_order g c each =
    let some = AreAhead-some c.args.order c.next_key.new.walks in
    order-fault c.args.order (c.in-Some.key.now ∷ some.0) c.read_key-found.result c.rows.rows.items c.add_found.new.rows.items c.in-Some-2.fault (rw c.in-Some-2.is at c.in_ok-fault.ensures)
    (c.rows.invariant.in_order each (c.in-Some.key.now ∷ some.0) (c.in-Some.ensures.ahead (c.rows.invariant.each each) some.0 some.1))

pub returns-in-Some-2-clause-within : goal.returns-in-Some-2-clause-within
returns-in-Some-2-clause-within g c each range all =
    range-fault range c.read_key-found.result c.rows.rows.items c.add_found.new.rows.items c.in-Some-2.fault (rw c.in-Some-2.is at c.in_ok-fault.ensures) (c.rows.invariant.inside each range all).0

pub returns-clause-plain : goal.returns-clause-plain
returns-clause-plain g c each merge lawful =
    let inv = c.rows.invariant in
    let some = AreAhead-some c.args.order c.rows.walks in
    let found = inv.left each some.0 some.1 in
    (found.0, found.1, ap (first_rows c.args.limit) (found.2 merge lawful) ∙ first_rows-full c.args.limit c.rows.rows.items _ inv.count (omega (arith, c.rows-test.false, c.len.ensures, c.rows.rows.ok.0)))

pub returns-clause-in_order : goal.returns-clause-in_order
returns-clause-in_order g c each =
    let some = AreAhead-some c.args.order c.rows.walks in
    order-end c.args.order some.0 c.rows.rows.items (c.rows.invariant.in_order each some.0 some.1)

pub returns-clause-within : goal.returns-clause-within
returns-clause-within g c each range all = (c.rows.invariant.inside each range all).0
