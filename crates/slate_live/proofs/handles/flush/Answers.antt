use Rattle.std.proofs.Common.{Ok, Err, refl, subst}
use Rattle.slate_model.specs.Flush.{Flushes}
use Rattle.slate_model.specs.Known.{known}
use Rattle.slate_model.specs.Stores.{by_objects}
use Rattle.slate_live.proofs.handles.flush.Goals as goal

pub returns-in-Err-clause-does : goal.returns-in-Err-clause-does
returns-in-Err-clause-does g c =
    let d = c.in-Err.ensures.does in
    let before = known g.S.Store.objects g.S.Store.faults c.args.store.now in
    let after = known g.S.Store.objects g.S.Store.faults c.flush.new.store in (
      d.0,
      record {
        result = Err c.in-Err.error;
        replied = c.refusal.ensures;
        does = subst (λ t. Flushes (by_objects (g.S.Store.objects c.args.store.now)) d.0 t c.args.writer.now before (Err c.in-Err.error) c.flush.new.self after) c.flush_type_by-flush_type.ensures d.1;
      },
    )

pub returns-in-Ok-clause-does : goal.returns-in-Ok-clause-does
returns-in-Ok-clause-does g c =
    let d = c.in-Ok.ensures.does in
    let before = known g.S.Store.objects g.S.Store.faults c.args.store.now in
    let after = known g.S.Store.objects g.S.Store.faults c.flush.new.store in (
      d.0,
      record {
        result = Ok tt;
        replied = refl;
        does = subst (λ t. Flushes (by_objects (g.S.Store.objects c.args.store.now)) d.0 t c.args.writer.now before (Ok tt) c.flush.new.self after) c.flush_type_by-flush_type.ensures d.1;
      },
    )
