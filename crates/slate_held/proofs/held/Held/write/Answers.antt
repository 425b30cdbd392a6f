use Rattle.std.proofs.Common.{◌≡◌, ap, ◌∙◌, rules, true, to_z-of_z, w64}
use Rattle.slate_types.specs.declared.batches.WriteBatch.{WriteBatch}
use Rattle.slate_held.specs.Moments.{is_of_clock}
use Rattle.slate_held.proofs.Kept.{write-kept}
use Rattle.slate_held.proofs.Writing.{written-by-any, written-second}
use Rattle.slate_held.proofs.held.Held.write.Goals as goal

pub returns-clause-does : goal.returns-clause-does
returns-clause-does g c x lawful =
    let late : is_of_clock c.in-Err.refusal.error ≡ true = search rules in
    rw (← c.self.view_is)
    (written-second x _ _ _ _ _ _ _ _ _ _ _ (to_z-of_z {w = w64} {z = c.args.moment} c.ranges.moment)
    (to_z-of_z {w = w64} {z = c.again.result} (record { sfits = c.again.type_inv })) (c.in-Err.ensures.does x lawful) late
    (ap (λ (b : WriteBatch). b.ops) (c.batch_of-batch.ensures ∙ c.in-Err.ensures.handed_back)) c.again.ensures (c.write-2.ensures.does x lawful))

pub invariant_of-self : goal.invariant_of-self
invariant_of-self g c = write-kept _ _ _ _ _ _ _ _ c.in-Ok.ensures.by_any c.self.invariant

pub invariant_of-self-then-not-is_of_clock : goal.invariant_of-self-then-not-is_of_clock
invariant_of-self-then-not-is_of_clock g c = write-kept _ _ _ _ _ _ _ _ c.in-Err.ensures.by_any c.self.invariant

pub invariant_of-self-2 : goal.invariant_of-self-2
invariant_of-self-2 g c = write-kept _ _ _ _ _ _ _ _ c.write-2.ensures.by_any (write-kept _ _ _ _ _ _ _ _ c.in-Err.ensures.by_any c.self.invariant)

pub returns-clause-by_any : goal.returns-clause-by_any
returns-clause-by_any g c =
    rw (← c.self.view_is)
    (written-by-any _ _ _ _ _ _ _ _ _ _ _ (to_z-of_z {w = w64} {z = c.args.moment} c.ranges.moment)
    (to_z-of_z {w = w64} {z = c.again.result} (record { sfits = c.again.type_inv })) c.in-Err.ensures.by_any
    (ap (λ (b : WriteBatch). b.ops) (c.batch_of-batch.ensures ∙ c.in-Err.ensures.handed_back)) c.again.ensures c.write-2.ensures.by_any)
