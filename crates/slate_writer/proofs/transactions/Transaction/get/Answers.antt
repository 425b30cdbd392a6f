use Rattle.std.proofs.Common.{◌≡◌, ◌∙◌, ◌++◌, sym, ap, subst, None, Option, Err, Result, rules}
use Rattle.std.specs.List.{flat_map}
use Rattle.std.proofs.lemmas.Result.{err_from_is_err_and}
use Rattle.slate_types.specs.declared.batches.KeyValue.{KeyValue}
use Rattle.slate_types.specs.declared.read_faults.ReadFault.{ReadFault}
use Rattle.slate_reads.specs.Read.{Reads as IsRead, read_at}
use Rattle.slate_transactions.specs.Own.{seen_with}
use Rattle.slate_errors.specs.Errors.{error_of_read}
use Rattle.slate_model.specs.Handle.{Handle}
use Rattle.slate_model.specs.Known.{known}
use Rattle.slate_model.specs.Object.{Handle as AHandle}
use Rattle.slate_model.specs.Stores.{kept_rows}
use Rattle.slate_model.specs.Transaction.{Transaction, seen_by, start_bound}
use Rattle.slate_writer.proofs.Reading.{plain-fault, refused, rows-kept}
use Rattle.slate_writer.proofs.transactions.Transaction.get.Goals as goal

pub returns-in_err-found-clause-read : goal.returns-in_err-found-clause-read
returns-in_err-found-clause-read g c merge lawful =
    let objects = g.S.Store.objects in
    let store = c.args.store.now in
    let h = c.args.writer.now in
    let t = c.args.self.now in
    let key = c.args.key.now in
    let new = c.read_tables.new.store in
    let fault : ReadFault = c.in_err-found.field-0.0 in
    let p = err_from_is_err_and c.from_residual-in_err-found.result c.from_residual-in_err-found.ensures.1 in
    let is : c.from_residual-in_err-found.result ≡ Err (error_of_read fault) = p.1 ∙ ap (λ e. Err e) p.2 in
    let stored = flat_map (λ table. table) c.as_slice-stored.result.now in
    let rows = stored ++ flat_map (λ table. table) c.from_ref-memory.result.now in
    let bound = start_bound t h c.args.options.now.durability_filter c.args.options.now.dirty in
    let live : h.result ≡ None = sym c.closed.ensures ∙ c.in_default.is in
    let has : kept_rows (objects store) (AHandle h) rows = rows-kept (objects store) h stored c.from_ref-memory.result.now c.as_indexed.result.now
    (rw c.as_slice-stored.ensures.value c.in_ok-stored.ensures.joined) c.from_ref-memory.ensures.value (c.as_indexed.ensures ∙ (c.in_ok-memory.ensures ∙ ap (λ (h : Handle). h.line.batches) c.writer.view_is))
    in
    let found : IsRead (read_at merge (seen_with c.bound-bound.result rows c.self.inside.own) None c.in_ok-asked.asked) (Err fault) = c.in_err-found.ensures.plain merge lawful in
    let key_is : c.in_ok-asked.asked ≡ key = search rules in
    let same : read_at merge (seen_with c.bound-bound.result rows c.self.inside.own) None c.in_ok-asked.asked ≡ read_at merge (seen_by t bound rows) None key =
    ap (λ b. read_at merge (seen_with b rows c.self.inside.own) None c.in_ok-asked.asked) c.bound-bound.ensures
    ∙ ap (λ own. read_at merge (seen_with bound rows own) None c.in_ok-asked.asked) (ap (λ (t : Transaction). t.own) c.self.view_is)
    ∙ ap (λ k. read_at merge (seen_by t bound rows) None k) key_is
    in
    refused h.result h.view.manifest.tables (kept_rows (objects store) (AHandle h)) (known objects g.S.Store.faults store) (known objects g.S.Store.faults new) rows live
    c.in_ok-stored.ensures.faults.stays c.in_ok-stored.ensures.kept (λ none. ap (known objects g.S.Store.faults) (c.in_ok-stored.ensures.untouched none)) has
    (λ rows answer. answer ≡ read_at merge (seen_by t bound rows) None key) c.from_residual-in_err-found.result fault is
    (plain-fault _ fault (subst (λ (r : Result (Option KeyValue) ReadFault). IsRead r (Err fault)) same found))
