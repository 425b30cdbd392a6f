use Rattle.slate_model.specs.Begun.{no_step}
use Rattle.slate_follow.proofs.Following.{begins-on, others-keep}
use Rattle.slate_follow.proofs.laws.begun_polls_follow_the_line.Goals as goal

pub returns : goal.returns
returns c = record {
  begins = λ objects line reader moment. begins-on objects line reader moment 0 no_step;
  others = others-keep;
}
