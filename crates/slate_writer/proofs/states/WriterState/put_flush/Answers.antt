use Rattle.std.proofs.Common.{rules}
use Rattle.std.proofs.lemmas.Result.{err_from_is_err_and}
use Rattle.slate_model.specs.Handle.{next_table}
use Rattle.slate_writer.proofs.Puts.{all_out, log_out, manifest_out, table_out}
use Rattle.slate_writer.proofs.states.WriterState.put_flush.Goals as goal

pub returns-in_err-put_unstored-clause-put : goal.returns-in_err-put_unstored-clause-put
returns-in_err-put_unstored-clause-put g c =
    let h = c.args.self.now in
    let next = c.args.next.now in
    let p = err_from_is_err_and c.from_residual.result c.from_residual.ensures.1 in
    rw (p.1, p.2) (log_out h next.manifest.replay_after_wal_id (next_table h) c.args.table.now next (record h { durable = _; counter = _ }) _ (search rules) (search rules) c.in_err-put_unstored.ensures.put)

pub returns-in_err-put_table-clause-put : goal.returns-in_err-put_table-clause-put
returns-in_err-put_table-clause-put g c =
    let h = c.args.self.now in
    let next = c.args.next.now in
    let p = err_from_is_err_and c.from_residual-in_err-put_table.result c.from_residual-in_err-put_table.ensures.1 in
    rw (p.1, p.2) (table_out h next.manifest.replay_after_wal_id (next_table h) c.args.table.now next c.in_ok-put_unstored.ensures.put (record h { durable = _; counter = _ }) _ (search rules) (search rules) (search (rules, c.in_err-put_table.ensures.put)))

pub returns-in_err-put_manifest-clause-put : goal.returns-in_err-put_manifest-clause-put
returns-in_err-put_manifest-clause-put g c =
    let h = c.args.self.now in
    let next = c.args.next.now in
    let p = err_from_is_err_and c.from_residual-in_err-put_manifest.result c.from_residual-in_err-put_manifest.ensures.1 in
    rw (p.1, p.2) (manifest_out h next.manifest.replay_after_wal_id (next_table h) c.args.table.now next c.in_ok-put_unstored.ensures.put (search (rules, c.in_ok-put_table.ensures.put)) (record h { durable = _; counter = _ }) _ (search rules) (search rules) c.in_err-put_manifest.ensures.put)

pub returns-clause-put : goal.returns-clause-put
returns-clause-put g c =
    let h = c.args.self.now in
    let next = c.args.next.now in
    all_out h next.manifest.replay_after_wal_id (next_table h) c.args.table.now next c.in_ok-put_unstored.ensures.put (search (rules, c.in_ok-put_table.ensures.put)) (record h { counter = _ }) (search rules) c.in_ok-put_manifest.ensures.put
