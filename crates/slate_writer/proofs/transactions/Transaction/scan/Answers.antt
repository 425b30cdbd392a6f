use Rattle.std.proofs.Common.{◌≡◌, ◌∙◌, ◌++◌, sym, ap, subst, List, None}
use Rattle.std.specs.List.{flat_map}
use Rattle.slate_types.specs.declared.batches.Batch.{Batch}
use Rattle.slate_rows.specs.Iteration.{Iteration}
use Rattle.slate_rows.specs.Scan.{BeginsScan, IsScan}
use Rattle.slate_transactions.specs.Own.{seen_with}
use Rattle.slate_model.specs.Handle.{Handle}
use Rattle.slate_model.specs.Known.{known}
use Rattle.slate_model.specs.Object.{Handle as AHandle}
use Rattle.slate_model.specs.Read.{Gives}
use Rattle.slate_model.specs.Stores.{kept_rows}
use Rattle.slate_model.specs.Transaction.{Transaction, seen_by, start_bound}
use Rattle.slate_writer.proofs.Reading.{given, rows-kept}
use Rattle.slate_writer.proofs.transactions.Transaction.scan.Goals as goal

pub returns-clause-scan : goal.returns-clause-scan
returns-clause-scan g c merge lawful =
    let objects = g.S.Store.objects in
    let store = c.args.store.now in
    let h = c.args.writer.now in
    let t = c.args.self.now in
    let new = c.read_tables.new.store in
    let it : Iteration = c.in_ok-found.found in
    let stored = flat_map (λ table. table) c.as_slice-stored.result.now in
    let rows = stored ++ flat_map (λ table. table) c.from_ref-memory.result.now in
    let options = c.args.options.now in
    let bound = start_bound t h options.durability_filter options.dirty in
    let live : h.result ≡ None = sym c.closed.ensures ∙ c.in_default.is in
    let has : kept_rows (objects store) (AHandle h) rows = rows-kept (objects store) h stored c.from_ref-memory.result.now c.as_indexed.result.now
    (rw c.as_slice-stored.ensures.value c.in_ok-stored.ensures.joined) c.from_ref-memory.ensures.value (c.as_indexed.ensures ∙ (c.in_ok-memory.ensures ∙ ap (λ (h : Handle). h.line.batches) c.writer.view_is))
    in
    let found : IsScan merge (seen_with c.bound-bound.result rows c.self.inside.own) None c.args.range.now options.order it.rows it.fault = c.in_ok-found.ensures.plain merge lawful in
    let same : seen_with c.bound-bound.result rows c.self.inside.own ≡ seen_by t bound rows =
    ap (λ b. seen_with b rows c.self.inside.own) c.bound-bound.ensures ∙ ap (λ own. seen_with bound rows own) (ap (λ (t : Transaction). t.own) c.self.view_is)
    in
    let plain = subst (λ (bs : List Batch). IsScan merge bs None c.args.range.now options.order it.rows it.fault) same found in
    given h.result h.view.manifest.tables (kept_rows (objects store) (AHandle h)) (known objects g.S.Store.faults store) (known objects g.S.Store.faults new) rows live
    c.in_ok-stored.ensures.faults.stays c.in_ok-stored.ensures.kept (λ none. ap (known objects g.S.Store.faults) (c.in_ok-stored.ensures.untouched none)) has
    (Gives (λ rows it. BeginsScan merge (seen_by t bound rows) None c.args.range.now options.order it)) it
    (record { unbegun = c.in_ok-found.ensures.begun; plain = plain })
