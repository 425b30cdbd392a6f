-- Commands that are done one after another on a live state lead as those of a run.
use Rattle.std.proofs.Common.{◌≡◌, ◌≤◌, length, take, [], ◌∷◌, ◌++◌, refl, sym, subst, ap, ◌∙◌, arith}
use Rattle.std.proofs.lemmas.List.{map-append, take_all}
use Rattle.std.proofs.lemmas.List.Elements.{All-nil, All-push}
use Rattle.slate_live.specs.Represents.{AllInSegments, IsReached, Represents}
use Rattle.slate_live.specs.Run.{none_live}
use Rattle.slate_live.specs.Running.{EachIsDone, EachLeadsOn, NoneHasLed, TheyLead, step_to}
use Rattle.slate_live.specs.Steps.{Step, last_world}
use Rattle.slate_live.specs.World.{start}
use Rattle.slate_live.proofs.Chains.{Done, all-start, chain-push, do-push, last-push, leads_all, leads_all-steps, reached, stands_start}

pub none_has_led : NoneHasLed
none_has_led settings before store is sound = record {
  was_sound = sound;
  commands_are = refl;
  replies_are = refl;
  chain = tt;
  reached = All-nil (λ (step : Step). IsReached step.world);
  represents = stands_start before store (none_live settings.options) refl refl refl is sound;
  segments = all-start settings.extractor (start before store.faults) refl;
}

pub each_leads_on : EachLeadsOn
each_leads_on settings before faults commands replies steps live store led command reply w live' store' link stands segments =
    let step : Step = step_to command reply w in
    let last : last_world (start before faults) (steps ++ step ∷ []) ≡ w = last-push (start before faults) steps step in (
      record {
        was_sound = led.was_sound;
        commands_are = map-append (λ (s : Step). s.command) steps (step ∷ []) ∙ ap (λ cs. cs ++ command ∷ []) led.commands_are;
        replies_are = map-append (λ (s : Step). s.reply) steps (step ∷ []) ∙ ap (λ rs. rs ++ reply ∷ []) led.replies_are;
        chain = chain-push settings (start before faults) steps step led.chain link;
        reached = All-push (λ (s : Step). IsReached s.world) steps step led.reached (reached live' store' w stands.represents);
        represents = subst (Represents live' store') (sym last) stands;
        segments = subst (AllInSegments settings.extractor) (sym last) segments;
      },
      last,
    )

pub they_lead : TheyLead
they_lead settings before faults commands replies steps live store led =
    let whole : commands ≡ take (length commands) commands = sym (take_all (length commands) commands (omega arith)) in
    let done : Done settings (start before faults) (take (length commands) commands) replies steps = record {
      commands_are = led.commands_are ∙ whole;
      replies_are = led.replies_are;
      chain = led.chain;
      reached = led.reached;
    } in
    let whole-list : length commands ≤ length commands = omega arith in (
      leads_all settings commands (length commands) replies before faults live store steps led.was_sound whole-list done led.represents,
      leads_all-steps settings commands (length commands) replies before faults live store steps led.was_sound whole-list done led.represents,
    )

pub each_is_done : EachIsDone
each_is_done settings first live live' before store store' commands replies command reply all does =
    do-push settings first live live' before store store' commands replies command reply all does
