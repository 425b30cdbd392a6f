use Rattle.std.proofs.Common.{◌∙◌, ◌+◌, ◌≤◌, ap, length, ltb, subst}
use Rattle.std.proofs.lemmas.List.{length-map}
use Rattle.std.specs.List.{All, filter}
use Rattle.slate_store.specs.declared.objects.Listing.{Listing}
use Rattle.slate_store.specs.declared.objects.TableId.{TableId}
use Rattle.slate_store.specs.Content.{AreGapless, logs_above}
use Rattle.slate_check.specs.declared.faults.SoundnessFault.TheVariants as of_store
use Rattle.slate_check.specs.Named.{IsFirstGap, IsFirstWithout}
use Rattle.slate_check.proofs.Judging.{after-ids, judge, of_latest}
use Rattle.slate_check.proofs.Lists.{all-unmap, keys-above}
use Rattle.slate_check.proofs.checks.check_ids.Goals as goal

pub returns-in-Some : goal.returns-in-Some
returns-in-Some c o listed ordered is =
    let ids = c.as_slice.ensures ∙ ap (λ (l : Listing). l.tables) listed in
    let low = λ (id : TableId). id.epoch ≤ c.args.latest.now.manifest.writer_epoch in
    let first = subst (λ xs. IsFirstWithout low xs c.in-Some.id) ids c.in-Some.ensures.0 in
    judge o (of_store.TableEpoch c.in-Some.id) (after-ids o c.args.latest.now is ordered) (c.args.latest.now, is, (first, c.in-Some.ensures.1))

pub returns-in-Ok : goal.returns-in-Ok
returns-in-Ok c o listed ordered is =
    let tables = c.as_slice.ensures ∙ ap (λ (l : Listing). l.tables) listed in
    let logs = c.as_slice-2.ensures ∙ ap (λ (l : Listing). l.logs) listed in
    let mark = c.args.latest.now.manifest.replay_after_wal_id in
    let above = ap (filter (λ id. ltb mark id)) logs ∙ keys-above mark o.logs in
    let low = λ (id : TableId). id.epoch ≤ c.args.latest.now.manifest.writer_epoch in (
      record {
        is = is;
        ordered = ordered;
        epochs = all-unmap low (λ table. table.0) o.tables (subst (All low) tables c.in_default.ensures);
        gapless = subst (AreGapless mark) above c.in-Ok.ensures.0;
      },
      c.in-Ok.ensures.1 ∙ ap (λ n. mark + n) (ap length above ∙ length-map (logs_above mark o) (λ log. log.0)),
    )

pub returns-in-Err : goal.returns-in-Err
returns-in-Err c o listed ordered is =
    let tables = c.as_slice.ensures ∙ ap (λ (l : Listing). l.tables) listed in
    let logs = c.as_slice-2.ensures ∙ ap (λ (l : Listing). l.logs) listed in
    let mark = c.args.latest.now.manifest.replay_after_wal_id in
    let above = ap (filter (λ id. ltb mark id)) logs ∙ keys-above mark o.logs in
    let low = λ (id : TableId). id.epoch ≤ c.args.latest.now.manifest.writer_epoch in
    let epochs = all-unmap low (λ table. table.0) o.tables (subst (All low) tables c.in_default.ensures) in
    let b = after-ids o c.args.latest.now is ordered in
    judge o (of_store.LogGap c.in-Err.after) (b.0, (b.1.0, (b.1.1.0, (b.1.1.1.0, (of_latest o c.args.latest.now (λ l. All (λ table. table.0.epoch ≤ l.manifest.writer_epoch) o.tables) is epochs, tt)))))
    (c.args.latest.now, is, subst (λ xs. IsFirstGap mark xs c.in-Err.after) above c.in-Err.ensures)
