use Rattle.std.proofs.Common.{◌∙◌, ap}
use Rattle.std.specs.Option.{unwrap_or}
use Rattle.slate_transactions.specs.Writes.{Tracking, last_write}
use Rattle.slate_transactions.proofs.Tracking.{last-numbered}
use Rattle.slate_transactions.proofs.tracked_writes.TrackedWrites.last_write.Goals as goal

pub returns : goal.returns
returns c =
    c.unwrap_or.ensures ∙ ap (λ o. unwrap_or o 0) (c.copied.ensures ∙ c.get.ensures.value)
    ∙ last-numbered c.args.key.now c.self.inside.last.entries c.self.invariant ∙ ap (λ (t : Tracking). last_write t.writes c.args.key.now) c.self.view_is
