use Rattle.std.proofs.Common.{◌∙◌, sym, ap, [], Option}
use Rattle.std.specs.Option.{option_map, unwrap_or}
use Rattle.slate_model.specs.Handle.{Handle}
use Rattle.slate_model.specs.Transaction.{is_in_conflict, writes_of}
use Rattle.slate_transactions.specs.Writes.{Tracking}
use Rattle.slate_writer.proofs.Committing.{nothing-conflicts}
use Rattle.slate_writer.proofs.transactions.Transaction.is_in_conflict.Goals as goal

pub returns-in_default : goal.returns-in_default
returns-in_default c =
    let t = c.args.self.now in
    sym (ap (λ (h : Handle). is_in_conflict t (writes_of h)) (sym c.writer.view_is)
    ∙ ap (λ (o : Option Tracking). is_in_conflict t (unwrap_or (option_map (λ (w : Tracking). w.writes) o) [])) c.in_default.is
    ∙ nothing-conflicts t)
