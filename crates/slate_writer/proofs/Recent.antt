-- What a scan by recency of an open handle answers, by the batches of its tables.
use Rattle.std.proofs.Common.{arith, ◌≡◌, ℕ, false, List, [], ◌∷◌, map, reverse, None, Result, Ok, Err, refl, sym, subst, ◌∙◌}
use Rattle.std.specs.Option.{IfSome}
use Rattle.std.proofs.lemmas.Bool.{false≢true}
use Rattle.slate_types.specs.declared.batches.Batch.{Batch}
use Rattle.slate_types.specs.declared.scan_options.ScanOptions.{ScanOptions}
use Rattle.slate_reads.specs.Bound.{read_bound}
use Rattle.slate_rows.specs.Recency.{IsRecency, source_entries}
use Rattle.slate_rows.specs.declared.entries.RowEntry.{RowEntry}
use Rattle.slate_errors.specs.Errors.{closed_error}
use Rattle.slate_errors.specs.declared.errors.SlateError.{SlateError}
use Rattle.slate_model.specs.Handle.{CloseResult, Handle, accepted}
use Rattle.slate_model.specs.Known.{Known}
use Rattle.slate_model.specs.Recency.{AreEach, ScansByRecency, span_two}

pub lists-recent : (h : Handle) (options : ScanOptions) (prefix : List ℕ) (before after : Known (List Batch)) (tables : List (List Batch)) (entries : List RowEntry) →
    h.result ≡ None → span_two prefix h.view.manifest.segments ≡ false → after.faults ≡ before.faults → after.objects ≡ before.objects →
    (h.view.manifest.tables ≡ [] → after ≡ before) → AreEach before.objects (reverse h.view.manifest.tables) tables →
    IsRecency options.order (map (source_entries (read_bound None h.durable (accepted h) options.durability_filter options.dirty) prefix) (h.line.batches ∷ tables)) entries →
    ScansByRecency h options prefix before (Ok entries) after
lists-recent h options prefix before after tables entries live single same kept alone each recent = record {
  closed = subst (λ (r : CloseResult). IfSome r (λ r. (◌≡◌ {A = Result (List RowEntry) SlateError} (Ok entries) (Err (closed_error r))) × (after ≡ before))) (sym live) tt;
  spanning = λ _ spans. absurd (false≢true (sym single ∙ spans));
  read = λ _ _. record {
    faults = record { count = omega (arith, same); unavailable = λ is. absurd (cc); stays = same };
    kept = kept;
    missing = λ is. absurd (cc);
    alone = λ none. (alone none, λ is. cc);
    listed = (h.line.batches ∷ tables, (tables, each, refl), recent);
  };
}
