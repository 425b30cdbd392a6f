use Rattle.slate_live.proofs.Running.{each_is_done, each_leads_on, none_has_led, they_lead}
use Rattle.slate_live.proofs.laws.commands_lead_on.Goals as goal

pub returns : goal.returns
returns c = record { begins = none_has_led; each = each_leads_on; all = they_lead; done = each_is_done }
