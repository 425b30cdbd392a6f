use Rattle.slate_dispatch.proofs.RunLemmas.{gives_once}
use Rattle.slate_dispatch.proofs.laws.each_message_is_given_once.Goals as goal

pub returns : goal.returns
returns g c = gives_once g.H.MessageHandler.steps g.H.MessageHandler.schedule g.H.MessageHandler.ready g.H.MessageHandler.last_answer
