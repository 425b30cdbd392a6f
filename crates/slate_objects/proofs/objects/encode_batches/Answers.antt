use Rattle.std.proofs.Common.{ℕ, List, ◌++◌, ◌∙◌, ap, arith}
use Rattle.slate_objects.specs.Objects.{version}
use Rattle.slate_objects.specs.Batches.{batch_of}
use Rattle.slate_objects.specs.Spelling.{list_of}
use Rattle.slate_objects.proofs.BothLaws.{batch_format}
use Rattle.slate_objects.proofs.Laws.{list_format}
use Rattle.slate_objects.proofs.Sealed.{written_again}
use Rattle.slate_objects.proofs.Writing.{if_ok}
use Rattle.slate_objects.proofs.objects.encode_batches.Goals as goal

pub returns-clause-again : goal.returns-clause-again
returns-clause-again c =
    let same = c.as_slice.ensures.value ∙ c.in_ok-write_list.ensures.0 ∙ ap (λ (b : List ℕ). b ++ list_of batch_of c.args.batches.now) c.new-body.ensures.items in
    if_ok c.seal.result c.seal.ensures.sealed c.seal.ensures.sum (λ bytes is sum.
    written_again (list_format batch_format) c.args.kind version c.args.batches.now c.as_slice.result.now bytes.items c.ranges.kind.fits (omega arith) c.in_ok-write_list.ensures.1 same c.seal.ensures.fits is sum)
