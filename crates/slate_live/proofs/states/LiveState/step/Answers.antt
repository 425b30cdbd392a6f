use Rattle.std.proofs.Common.{refl, arith}
use Rattle.std.proofs.lemmas.List.{map-set}
use Rattle.slate_model.specs.Known.{known}
use Rattle.slate_live.specs.Objects.{object_of, poll_of}
use Rattle.slate_live.proofs.Doing.{steps-poll}
use Rattle.slate_live.proofs.Places.{get-map_at}
use Rattle.slate_live.proofs.states.LiveState.step.Goals as goal

pub returns-clause-steps : goal.returns-clause-steps
returns-clause-steps g c x extracts =
    rw (← c.self.view_is) (
    steps-poll x c.args.number (object_of c.index_mut.result.now) (object_of c.step.new.self) (poll_of c.index_mut.result.now) (poll_of c.step.new.self) _ _ (known g.S.Store.objects g.S.Store.faults c.args.store.now) (known g.S.Store.objects g.S.Store.faults c.step.new.store) c.step.result
    (get-map_at object_of c.self.inside.objects.items c.args.number c.index_mut.result.now (omega (arith, c.len.ensures)) c.index_mut.ensures.value)
    (get-map_at poll_of c.self.inside.objects.items c.args.number c.index_mut.result.now (omega (arith, c.len.ensures)) c.index_mut.ensures.value)
    (c.step.ensures.steps x extracts)
    (map-set object_of c.self.inside.objects.items c.args.number c.step.new.self) (map-set poll_of c.self.inside.objects.items c.args.number c.step.new.self) refl refl
    )
