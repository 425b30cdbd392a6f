use Rattle.std.proofs.Common.{◌≡◌, true, Some, arith, sym, subst}
use Rattle.std.specs.List.{slice_get}
use Rattle.slate_live.specs.Calls.{asks_operator, call_of}
use Rattle.slate_live.specs.Objects.{object_of}
use Rattle.slate_live.proofs.Doing.{reads-snapshot}
use Rattle.slate_live.proofs.Places.{get-map_at}
use Rattle.slate_live.proofs.states.LiveState.act_at.Goals as goal

pub returns-clause-does : goal.returns-clause-does
returns-clause-does g c settings lawful =
    let there : slice_get c.args.self.now.objects c.args.snapshot.handle ≡ Some (object_of c.index.result.now) = rw (← c.self.view_is) (get-map_at object_of c.self.inside.objects.items c.args.snapshot.handle c.index.result.now (omega (arith, c.len.ensures)) c.index.ensures) in
    rw (← c.self.view_is) (
    reads-snapshot _ settings c.args.snapshot c.args.command.now (call_of c.args.command.now.action) _ c.act_at.result _ (object_of c.index.result.now)
    (get-map_at object_of c.self.inside.objects.items c.args.snapshot.handle c.index.result.now (omega (arith, c.len.ensures)) c.index.ensures)
    (c.act_at.ensures.does settings c.args.snapshot.handle c.self.inside.writes.items (λ asks. lawful (subst (λ o. asks_operator o c.args.command.now.action ≡ true) (sym there) asks)))
    )
