use Rattle.std.proofs.Common.{◌≡◌, Some, sym, subst, ap, ◌∙◌, IfOk}
use Rattle.slate_jobs.specs.Decoding.{cells_at, name_at, taken}
use Rattle.slate_jobs.specs.Machine.{Machine}
use Rattle.slate_jobs.proofs.RowReading.{row-read}
use Rattle.slate_jobs.proofs.reading.take_row.Goals as goal

pub returns-in-OfJob : goal.returns-in-OfJob
returns-in-OfJob c =
    let old : Machine = record { jobs = c.args.jobs.now.items; replies = c.args.replies.now.entries } in
    let new : Machine = record { jobs = c.take_job.new.jobs.items; replies = c.args.replies.now.entries } in
    let named : name_at c.args.row.now.key ≡ Some c.in-Some.name = ap name_at (sym c.as_slice.ensures) ∙ (sym c.read.ensures ∙ c.in-Some.is) in
    let parted : cells_at c.args.row.now.value ≡ Some c.in-Some-2.cells = sym c.in_ok-cells.ensures ∙ c.in-Some-2.is in
    let whole = row-read old c.args.row.now _ _ (named ∙ ap Some c.in-OfJob.is) parted in
    record { row = subst (λ x. IfOk c.take_job.result (λ took. x ≡ taken took new)) (sym whole) (rw c.into_job.ensures at (c.take_job.ensures c.args.replies.now.entries)) }

pub returns-in-OfReply : goal.returns-in-OfReply
returns-in-OfReply c =
    let old : Machine = record { jobs = c.args.jobs.now.items; replies = c.args.replies.now.entries } in
    let new : Machine = record { jobs = c.args.jobs.now.items; replies = c.take_reply.new.replies.entries } in
    let named : name_at c.args.row.now.key ≡ Some c.in-Some.name = ap name_at (sym c.as_slice.ensures) ∙ (sym c.read.ensures ∙ c.in-Some.is) in
    let parted : cells_at c.args.row.now.value ≡ Some c.in-Some-2.cells = sym c.in_ok-cells.ensures ∙ c.in-Some-2.is in
    let whole = row-read old c.args.row.now _ _ (named ∙ ap Some c.in-OfReply.is) parted in
    record { row = subst (λ x. IfOk c.take_reply.result (λ took. x ≡ taken took new)) (sym whole) (rw c.into_reply.ensures at (c.take_reply.ensures c.args.jobs.now.items)) }
