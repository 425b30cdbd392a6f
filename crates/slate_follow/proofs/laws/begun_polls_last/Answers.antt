use Rattle.slate_follow.proofs.Lasting.{begins-last, others-last}
use Rattle.slate_follow.proofs.laws.begun_polls_last.Goals as goal

pub returns : goal.returns
returns c = record {
  begins = begins-last;
  others = others-last;
}
