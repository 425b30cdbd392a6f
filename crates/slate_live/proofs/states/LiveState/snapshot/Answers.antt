use Rattle.std.proofs.Common.{arith, ap, ◌∙◌, sym, Some}
use Rattle.slate_live.specs.Objects.{object_of}
use Rattle.slate_live.specs.State.{running}
use Rattle.slate_live.proofs.Doing.{refuses-snapshot, takes-snapshot}
use Rattle.slate_live.proofs.Places.{get-map_at}
use Rattle.slate_live.proofs.states.LiveState.snapshot.Goals as goal

pub returns-in-Ok-clause-does : goal.returns-in-Ok-clause-does
returns-in-Ok-clause-does c store =
    takes-snapshot c.args.handle (running c.args.self.now store) (object_of c.index.result.now) c.in-Ok.number c.add_snapshot.result c.add_snapshot.new.self.objects c.add_snapshot.new.self.writes
    (rw (← c.self.view_is) (get-map_at object_of c.self.inside.objects.items c.args.handle c.index.result.now (omega (arith, c.len.ensures)) c.index.ensures))
    (sym c.snapshot_number.ensures ∙ (c.in-Some.is ∙ ap Some c.in-Ok.is)) c.add_snapshot.ensures.added c.add_snapshot.ensures.writes

pub returns-in-Err-clause-does : goal.returns-in-Err-clause-does
returns-in-Err-clause-does c store =
    rw (← c.self.view_is) (
    refuses-snapshot c.args.handle _ (object_of c.index.result.now) c.in-Err.error c.refusal.result
    (get-map_at object_of c.self.inside.objects.items c.args.handle c.index.result.now (omega (arith, c.len.ensures)) c.index.ensures)
    (sym c.snapshot_number.ensures ∙ (c.in-Some.is ∙ ap Some c.in-Err.is)) c.refusal.ensures
    )
