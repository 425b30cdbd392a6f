use Rattle.slate_transactions.proofs.Adding.{set-is}
use Rattle.slate_transactions.proofs.own_writes.set_own.Goals as goal

pub returns : goal.returns
returns c = set-is c.args.start c.args.by_key.now c.insert.new.self c.args.key c.args.own c.insert.result c.requires c.insert.ensures.updates c.insert.ensures.absent
