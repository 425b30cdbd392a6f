use Rattle.std.proofs.Common.{inl, refl, ap}
use Rattle.slate_model.specs.Known.{known}
use Rattle.slate_script.specs.declared.sessions.Outcome.TheVariants.{NoMemory}
use Rattle.slate_route.proofs.sessions.route_session.Goals as goal

pub returns-in_default-clause-ends : goal.returns-in_default-clause-ends
returns-in_default-clause-ends g c = (
  NoMemory,
  c.finished-in_default.ensures.status,
  c.finished-in_default.ensures.line,
  inl (record {
    stops = tt;
    output = record { written = refl; sink_faults = refl; store = ap (known g.S.Store.objects g.S.Store.faults) c.in_default.ensures.nothing };
  }),
)
