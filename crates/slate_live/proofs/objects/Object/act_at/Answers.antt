use Rattle.std.proofs.Common.{◌≡◌, true, Some, sym, subst}
use Rattle.slate_live.specs.Calls.{asks_operator}
use Rattle.slate_live.specs.Objects.{object_of}
use Rattle.slate_live.proofs.objects.Object.act_at.Goals as goal

pub returns-in-Handle-clause-does : goal.returns-in-Handle-clause-does
returns-in-Handle-clause-does g c settings handle writes lawful =
    rw c.in-Handle.is (c.read.ensures.does settings handle writes (λ asks. lawful (subst (λ o. asks_operator (Some (object_of o)) c.args.command.now.action ≡ true) (sym c.in-Handle.is) asks)))
