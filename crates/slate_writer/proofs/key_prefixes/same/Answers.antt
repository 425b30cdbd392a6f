use Rattle.std.proofs.Common.{subst}
use Rattle.slate_writer.specs.Segments.{IsPlace}
use Rattle.slate_writer.proofs.Orders.{found-same, none-same}
use Rattle.slate_writer.proofs.key_prefixes.same.Goals as goal

pub returns-in-Ok : goal.returns-in-Ok
returns-in-Ok c = found-same c.args.known.now c.args.prefix.now c.index-known-i.result c.in-Ok.i (subst (IsPlace c.args.known.now c.args.prefix.now) c.in-Ok.is c.place.ensures) c.index-known-i.is

pub returns-in-Err : goal.returns-in-Err
returns-in-Err c = none-same c.args.known.now c.args.prefix.now c.in-Err.field-0 (subst (IsPlace c.args.known.now c.args.prefix.now) c.in-Err.is c.place.ensures)
