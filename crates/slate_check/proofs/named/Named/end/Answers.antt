use Rattle.std.proofs.Common.{◌-◌, Some, length, ◌≡◌, subst}
use Rattle.std.specs.List.{slice_get}
use Rattle.slate_check.proofs.References.{last-number}
use Rattle.slate_check.proofs.named.Named.end.Goals as goal

pub returns-in-Some : goal.returns-in-Some
returns-in-Some c =
    last-number c.args.self.now.floor c.args.self.now.batches.items c.in-Some.batch.now c.requires
    (subst (λ l. Some c.in-Some.batch.now ≡ slice_get l (length l - 1)) c.deref.ensures.value c.in-Some.ensures.value)
