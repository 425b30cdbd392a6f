use Rattle.std.proofs.Common.{◌∙◌, ap, sym}
use Rattle.slate_transactions.specs.Own.{own_batch}
use Rattle.slate_transactions.proofs.Adding.{placed-is}
use Rattle.slate_transactions.proofs.Tracking.{absent-from}
use Rattle.slate_transactions.proofs.own_writes.make_place.Goals as goal

pub returns-in_ok-insert-clause-same : goal.returns-in_ok-insert-clause-same
returns-in_ok-insert-clause-same c =
    placed-is c.args.start c.args.by_key.now c.insert.new.self c.args.key.now c.in_ok-clone.field-0 _ c.in_ok-clone.ensures.cases (ap (own_batch c.args.start) (c.of.ensures ∙ c.new.ensures.items))
    (absent-from _ (sym c.contains_key.ensures ∙ c.if-not-contains_key.true)) c.in_ok-insert.ensures.updates
