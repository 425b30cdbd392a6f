use Rattle.std.proofs.Common.{rules, Err, refl}
use Rattle.slate_live.specs.Calls.{ops_of}
use Rattle.slate_live.proofs.Closed.{either-writes}
use Rattle.slate_live.proofs.handles.write_noted.Goals as goal

pub returns-in-Err-clause-does : goal.returns-in-Err-clause-does
returns-in-Err-clause-does g c x lawful =
    either-writes x c.args.writer.now c.write.new.self (ops_of c.args.command.now.action) c.args.command.now.moment c.args.command.now.second (Err c.in-Err.refusal.error) c.args.writer.now.result refl
    (λ open_. let d = c.in-Err.ensures.does x (lawful open_) in search rules)
    (let any = c.in-Err.ensures.by_any in search rules)
