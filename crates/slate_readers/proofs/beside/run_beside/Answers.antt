use Rattle.std.proofs.Common.{rules, ◌≡◌, sym, subst}
use Rattle.slate_readers.specs.Published.{Airs}
use Rattle.slate_model.specs.Known.{known}
use Rattle.slate_readers.proofs.beside.run_beside.Goals as goal

pub returns-clause-airs : goal.returns-clause-airs
returns-clause-airs g c settings lawful extracts options_are =
    let h = (c.join_mut.ensures.1).met.0.2 in
    search (rules, h)
