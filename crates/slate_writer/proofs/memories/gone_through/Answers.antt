use Rattle.std.proofs.Common.{length, arith, ap}
use Rattle.std.proofs.lemmas.List.{length-drop, take_rest}
use Rattle.slate_writer.proofs.Holding.{above-rest}
use Rattle.slate_writer.proofs.memories.gone_through.Goals as goal

pub returns-clause-rest : goal.returns-clause-rest
returns-clause-rest c =
    above-rest c.args.gone c.count_through.result c.args.number c.args.table.now c.batches-batches.result.now _ c.batches-batches.ensures.rising c.batches-batches.ensures.value
    (take_rest c.batches-batches.result.now c.args.gone) c.count_through.ensures.counted

pub returns-clause-within : goal.returns-clause-within
returns-clause-within c =
    let all = ap length c.batches-batches.ensures.value in
    let rest = ap length (take_rest c.batches-batches.result.now c.args.gone) in
    let less = length-drop c.args.gone c.batches-batches.result.now in
    let few = c.count_through.ensures.within in
    omega (arith, all, rest, less, few)
