use Rattle.std.proofs.Common.{subst}
use Rattle.slate_model.specs.Close.{Closes}
use Rattle.slate_model.specs.Known.{known}
use Rattle.slate_model.specs.Stores.{by_objects}
use Rattle.slate_live.proofs.Doing.{close-type}
use Rattle.slate_live.proofs.handles.close.Goals as goal

pub returns-clause-does : goal.returns-clause-does
returns-clause-does g c =
    let d = c.close.ensures.does in
    let before = known g.S.Store.objects g.S.Store.faults c.args.store.now in
    let after = known g.S.Store.objects g.S.Store.faults c.close.new.store in (
      d.0,
      record {
        ended = c.close.result;
        replied = c.ended_reply.ensures;
        does = subst (λ t. Closes (by_objects (g.S.Store.objects c.args.store.now)) d.0 t c.args.writer.now before c.close.result c.close.new.self after) (close-type c.args.options _ c.unwrap_or_default-options.ensures) d.1;
      },
    )
