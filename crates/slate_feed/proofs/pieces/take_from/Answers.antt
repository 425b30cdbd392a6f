use Rattle.std.proofs.lemmas.List.{take_rest}
use Rattle.slate_feed.proofs.Passing.{first-from, grows-from, takes-from}
use Rattle.slate_feed.proofs.pieces.take_from.Goals as goal

pub returns-clause-grows : goal.returns-clause-grows
returns-clause-grows c =
    grows-from c.args.cursor c.args.limit c.args.above c.args.from c.args.batches.now c.requires.passed c.requires.rising c.args.found.now.batches.items c.take_next.new.found.batches.items
    (rw (take_rest c.args.batches.now c.args.from) at c.take_next.ensures.grows)

pub returns-clause-first : goal.returns-clause-first
returns-clause-first c none fresh =
    first-from c.args.cursor c.args.limit c.args.above c.args.from c.args.batches.now c.requires.passed c.requires.rising
    ((rw (take_rest c.args.batches.now c.args.from) at c.take_next.ensures.first) none fresh)

pub returns-clause-takes : goal.returns-clause-takes
returns-clause-takes c =
    takes-from c.args.cursor c.args.limit c.args.above c.args.from c.args.batches.now c.requires.passed c.requires.rising c.args.found.now c.take_next.new.found c.take_next.result
    (rw (take_rest c.args.batches.now c.args.from) at c.take_next.ensures.takes)
