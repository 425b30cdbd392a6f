use Rattle.std.proofs.Common.{List, map, ap, sym, subst, ◌∙◌}
use Rattle.std.specs.Result.{IfOk}
use Rattle.std.proofs.lemmas.Simd.{map-map}
use Rattle.slate_rows.specs.declared.entries.RowEntry.{RowEntry}
use Rattle.slate_rows.specs.Recency.{IsRecency, source_entries}
use Rattle.slate_writer.specs.Reading.{batches_of}
use Rattle.slate_writer.proofs.recency_scans.list_recent.Goals as goal

pub returns : goal.returns
returns c =
    let entries = source_entries c.args.bound c.args.prefix.now in
    subst (λ (lists : List (List RowEntry)). IfOk c.recency_indexed.result (IsRecency c.args.order lists))
    (ap (map (λ source. entries (batches_of source))) c.as_slice.ensures.value ∙ (sym (map-map entries batches_of c.in_ok-sources.sources.items) ∙ ap (map entries) c.in_ok-sources.ensures))
    c.recency_indexed.ensures
