use Rattle.std.proofs.Common.{sym, ◌∙◌}
use Rattle.slate_jobs.proofs.Calling.{effect-within}
use Rattle.slate_jobs.proofs.Decoded.{decoded-holds}
use Rattle.slate_jobs.proofs.Holding.{holds-after}
use Rattle.slate_jobs.proofs.Reread.{never-foreign}
use Rattle.slate_jobs.specs.Machine.{effect_of}
use Rattle.slate_jobs.proofs.laws.rows_and_machine_give_each_other.Goals as goal

pub returns : goal.returns
returns c = record {
  read = λ batches rows machine are bytes is. decoded-holds batches rows machine are bytes is;
  held = λ batches batch machine request op moment fits room holds ops. holds-after batches batch machine request (effect_of machine.jobs request op moment) fits holds (effect-within machine.jobs room request op moment) ops;
  one = λ batches machine other holds also number small.
      (let same = sym (holds.jobs number small) ∙ also.jobs number small in cc, let same = sym (holds.replies number small) ∙ also.replies number small in cc);
  known = never-foreign;
}
