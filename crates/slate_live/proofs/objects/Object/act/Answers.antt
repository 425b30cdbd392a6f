use Rattle.std.proofs.Common.{◌≡◌, true, Some, sym, subst}
use Rattle.slate_live.specs.Calls.{asks_extractor, asks_operator}
use Rattle.slate_live.specs.Objects.{object_of}
use Rattle.slate_live.proofs.objects.Object.act.Goals as goal

pub returns-in-Follower-clause-does : goal.returns-in-Follower-clause-does
returns-in-Follower-clause-does g c settings lawful =
    rw c.in-Follower.is (c.act-in-Follower.ensures.does settings _ (record { operator_is = λ asks. lawful.operator_is (subst (λ o. asks_operator (Some (object_of o)) c.args.command.now.action ≡ true) (sym c.in-Follower.is) asks); extractor_is = λ asks. lawful.extractor_is (subst (λ o. asks_extractor (Some (object_of o)) c.args.command.now.action ≡ true) (sym c.in-Follower.is) asks) }))

pub returns-in-Handle-clause-does : goal.returns-in-Handle-clause-does
returns-in-Handle-clause-does g c settings lawful =
    rw c.in-Handle.is (c.act.ensures.does settings (record { operator_is = λ asks. lawful.operator_is (subst (λ o. asks_operator (Some (object_of o)) c.args.command.now.action ≡ true) (sym c.in-Handle.is) asks); extractor_is = λ asks. lawful.extractor_is (subst (λ o. asks_extractor (Some (object_of o)) c.args.command.now.action ≡ true) (sym c.in-Handle.is) asks) }))
