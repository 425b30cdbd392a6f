use Rattle.std.proofs.Common.{ap, ◌∙◌, arith}
use Rattle.std.proofs.lemmas.Option.{slice_get_read}
use Rattle.std.specs.Prelude.{refl}
use Rattle.slate_jobs.specs.Turns.{put_at}
use Rattle.slate_jobs.proofs.Noting.{length-upto, put-upto, upto-all}
use Rattle.slate_jobs.proofs.job_lists.note.Goals as goal

pub put-requires : goal.put-requires
put-requires c = length-upto c.args.jobs.now c.loop-place.place c.loop-place.turns c.loop-place.invariant (omega arith)

pub loop-place-preserved : goal.loop-place-preserved
loop-place-preserved c =
    c.in_ok-put.ensures ∙ (ap (λ ts. put_at ts c.loop-place.place c.of.result) c.loop-place.invariant ∙ (ap (put_at _ c.loop-place.place) c.of.ensures
    ∙ put-upto c.args.jobs.now c.loop-place.place c.index-jobs-place.result (slice_get_read c.args.jobs.now _ c.loop-place.place c.index-jobs-place.result refl (omega arith) c.index-jobs-place.is)))

pub returns : goal.returns
returns c = c.loop-place.invariant ∙ upto-all c.args.jobs.now c.loop-place.place (omega arith)
