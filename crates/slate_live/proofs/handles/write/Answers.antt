use Rattle.std.proofs.Common.{rules, Err}
use Rattle.slate_live.proofs.handles.write.Goals as goal

pub returns-in-Err : goal.returns-in-Err
returns-in-Err g c x lawful = record { result = Err c.in-Err.error; replied = c.refusal.ensures; does = (let d = c.in-Err.ensures.does x lawful in search rules); noted = (let d = c.in-Err.ensures.noted in search rules) }
