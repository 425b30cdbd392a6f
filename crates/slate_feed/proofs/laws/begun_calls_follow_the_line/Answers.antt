use Rattle.slate_feed.proofs.Following.{begun-follow, others-keep-it}
use Rattle.slate_feed.proofs.Reaching.{others-leave}
use Rattle.slate_feed.proofs.laws.begun_calls_follow_the_line.Goals as goal

pub returns-clause-begins : goal.returns-clause-begins
returns-clause-begins c = begun-follow

pub returns-clause-others : goal.returns-clause-others
returns-clause-others c = others-keep-it

pub returns-clause-reaching : goal.returns-clause-reaching
returns-clause-reaching c = others-leave
