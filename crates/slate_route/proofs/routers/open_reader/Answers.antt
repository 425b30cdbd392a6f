use Rattle.std.proofs.Common.{rules, Result, Ok, Err, None, refl, ap}
use Rattle.slate_model.specs.Follower.{Follower}
use Rattle.slate_route.specs.declared.answers.RouteRefusal.{RouteRefusal}
use Rattle.slate_route.proofs.Opening.{opens-reader}
use Rattle.slate_route.proofs.routers.open_reader.Goals as goal

pub returns-in-Ok-clause-opens : goal.returns-in-Ok-clause-opens
returns-in-Ok-clause-opens g c =
    let o = c.in-Ok.ensures.managed None tt refl in
    opens-reader (Ok (c.in-Ok.reader, c.in-Ok._answer)) _ refl c.in-Ok.ensures.faults tt _ (search rules) _ (search rules) _ (search rules) o

pub returns-in-Err-clause-opens : goal.returns-in-Err-clause-opens
returns-in-Err-clause-opens g c =
    let o = c.in-Err.ensures.managed None tt refl in
    opens-reader (Err c.in-Err.error) _ (ap (λ (r : RouteRefusal). let e : Result Follower RouteRefusal = Err r in e) c.of_opening.ensures) c.in-Err.ensures.faults c.in-Err.ensures.errors _ (search rules) _ (search rules) _ (search rules) o
