use Rattle.std.proofs.Common.{◌∙◌, ap, eqb, subst}
use Rattle.std.specs.List.{IsDistinct}
use Rattle.slate_types.specs.Line.{IsLine, end}
use Rattle.slate_check.specs.declared.faults.SoundnessFault.TheVariants as of_store
use Rattle.slate_check.specs.Named.{IsFirstTwice, IsFirstUnnumbered, kept_ids, line_of}
use Rattle.slate_check.specs.Steps.{HasContent}
use Rattle.slate_check.proofs.Judging.{after-all, after-latest, after-numbers, all-sound, judge, seen-line}
use Rattle.slate_check.proofs.checks.check_loaded.Goals as goal

pub returns-in-Some-find_unnumbered-clause-judged : goal.returns-in-Some-find_unnumbered-clause-judged
returns-in-Some-find_unnumbered-clause-judged g c o h of loaded =
    let latest = c.args.latest.now in
    let fits = loaded.fits in
    let line = line_of c.in-Some.line.floor c.in-Some.line.batches.items in
    let seen = seen-line o latest c.args.loaded.now.tables c.args.loaded.now.logs c.as_slice.result.now c.as_slice-2.result.now line loaded c.as_slice.ensures c.as_slice-2.ensures (rw c.in-Some.is at c.in_ok-line.ensures) in
    judge o (of_store.Numbers c.in-Some-find_unnumbered.number) (after-latest o latest fits seen.0)
    (latest, fits.is, subst (λ l. IsFirstUnnumbered l c.in-Some-find_unnumbered.number) seen.1 c.in-Some-find_unnumbered.ensures)

pub returns-in-Some-2-clause-judged : goal.returns-in-Some-2-clause-judged
returns-in-Some-2-clause-judged g c o h of loaded =
    let latest = c.args.latest.now in
    let fits = loaded.fits in
    let line = line_of c.in-Some.line.floor c.in-Some.line.batches.items in
    let seen = seen-line o latest c.args.loaded.now.tables c.args.loaded.now.logs c.as_slice.result.now c.as_slice-2.result.now line loaded c.as_slice.ensures c.as_slice-2.ensures (rw c.in-Some.is at c.in_ok-line.ensures) in
    let numbered = subst IsLine seen.1 c.in_default-find_unnumbered.ensures in
    let twice = subst (λ cps. IsFirstTwice (kept_ids cps) c.in-Some-2.id) c.as_slice-3.ensures (rw c.in-Some-2.is at c.in_ok-id.ensures) in
    judge o (of_store.CheckpointTwice c.in-Some-2.id) (after-numbers o latest fits seen.0 numbered) (latest, fits.is, twice)

pub returns-in-Some-3-clause-judged : goal.returns-in-Some-3-clause-judged
returns-in-Some-3-clause-judged g c o h of loaded =
    let latest = c.args.latest.now in
    let fits = loaded.fits in
    let line = line_of c.in-Some.line.floor c.in-Some.line.batches.items in
    let seen = seen-line o latest c.args.loaded.now.tables c.args.loaded.now.logs c.as_slice.result.now c.as_slice-2.result.now line loaded c.as_slice.ensures c.as_slice-2.ensures (rw c.in-Some.is at c.in_ok-line.ensures) in
    let numbered = subst IsLine seen.1 c.in_default-find_unnumbered.ensures in
    let differ = subst (λ cps. IsDistinct eqb (kept_ids cps)) c.as_slice-3.ensures (rw c.in_default-2.is at c.in_ok-id.ensures) in
    let content : HasContent o latest line = record { is = fits.is; manifests = fits.ordered.manifests; line = numbered; same = seen.1 } in
    let found = rw c.in-Some-3.is at (c.in_ok-id-2.ensures.found o h of content) in
    judge o (of_store.Checkpoint c.in-Some-3.id c.in-Some-3.fault) (after-all o latest fits seen.0 numbered differ) (latest, fits.is, found)

pub returns-clause-judged : goal.returns-clause-judged
returns-clause-judged g c o h of loaded =
    let latest = c.args.latest.now in
    let fits = loaded.fits in
    let line = line_of c.in-Some.line.floor c.in-Some.line.batches.items in
    let seen = seen-line o latest c.args.loaded.now.tables c.args.loaded.now.logs c.as_slice.result.now c.as_slice-2.result.now line loaded c.as_slice.ensures c.as_slice-2.ensures (rw c.in-Some.is at c.in_ok-line.ensures) in
    let numbered = subst IsLine seen.1 c.in_default-find_unnumbered.ensures in
    let differ = subst (λ cps. IsDistinct eqb (kept_ids cps)) c.as_slice-3.ensures (rw c.in_default-2.is at c.in_ok-id.ensures) in
    let content : HasContent o latest line = record { is = fits.is; manifests = fits.ordered.manifests; line = numbered; same = seen.1 } in
    let pins = rw c.in_default-3.is at (c.in_ok-id-2.ensures.found o h of content) in
    (all-sound o latest fits seen.0 numbered differ pins, c.end.ensures ∙ ap end seen.1)
