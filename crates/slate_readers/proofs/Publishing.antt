-- A run that publishes what its first reader sees.
use Rattle.std.proofs.Common.{◌≡◌, ◌∙◌, ℕ, ◌<◌, ◌≤◌, ◌+◌, true, List, [], ◌∷◌, ◌++◌, length, map, take, get_or, Option, Some, None, refl, sym, subst, ap, arith}
use Rattle.std.proofs.lemmas.List.{map-append, take_all, take_more}
use Rattle.slate_types.specs.declared.batches.Batch.{Batch}
use Rattle.slate_types.specs.Line.{IsPrefix}
use Rattle.slate_store.specs.Content.{IsSound}
use Rattle.slate_store.specs.Objects.{Objects}
use Rattle.slate_model.specs.Follower.{Follower}
use Rattle.slate_model.specs.Known.{Known}
use Rattle.slate_script.specs.declared.commands.Command.{Command}
use Rattle.slate_script.specs.declared.replies.Reply.{Reply}
use Rattle.slate_live.specs.Represents.{AllInSegments, Represents}
use Rattle.slate_live.specs.Run.{DoAll, LeadsTo, none_live}
use Rattle.slate_live.specs.Settings.{Settings}
use Rattle.slate_live.specs.State.{Live}
use Rattle.slate_live.specs.Stepping.{IsDone}
use Rattle.slate_live.specs.Steps.{Step, last_world}
use Rattle.slate_live.specs.Valid.{Link}
use Rattle.slate_live.specs.World.{World, start}
use Rattle.slate_readers.specs.Aired.{Aired}
use Rattle.slate_readers.specs.Changes.{AreChanges, IsLast, NoneBelow, ShowsFirst, first_reader, first_state, states_along}
use Rattle.slate_readers.specs.Published.{LeadsPublished, first_number}
use Rattle.slate_live.specs.Running.{EachIsDone, EachLeadsOn, HaveLed, NoneHasLed, TheyLead, step_to}
use Rattle.slate_readers.proofs.Changing.{Follows, final-along, follows, last-number}
use Rattle.slate_readers.proofs.Firsts.{first-place, first-rises, none-kept, none-rises, none-world}

-- the commands so far led to a world that state and store represent, and what its first reader saw was published
pub record IsPublishing (settings : Settings) (before : Objects) (faults : ℕ) (commands : List Command) (replies : List Reply) (live : Live) (store : Known (List Batch)) (aired : Aired) : Type 0 where
  pub steps : List Step
  pub led : HaveLed settings before faults commands replies steps live store
  pub none : NoneBelow aired.place live.objects
  pub last : aired.whole ≡ true → IsLast aired.list.states (first_state (last_world (start before faults) steps))
  pub changes : aired.whole ≡ true → AreChanges None (states_along steps) aired.list.states

-- before the first command
pub publishing-none : NoneHasLed → (settings : Settings) (before : Objects) (live : Live) (store : Known (List Batch)) (replies : List Reply) (aired : Aired) →
    live ≡ none_live settings.options → replies ≡ [] → aired.list.states ≡ [] → aired.place ≡ 0 → store.objects ≡ Some before → IsSound before →
    IsPublishing settings before store.faults [] replies live store aired
publishing-none begins settings before live store replies aired fresh no_reply nothing zero is sound = record {
  steps = [];
  led = subst (λ l. HaveLed settings before store.faults [] replies [] l store) (sym fresh) (subst (λ rs. HaveLed settings before store.faults [] rs [] (none_live settings.options) store) (sym no_reply) (begins settings before store is sound));
  none = λ n low. absurd (omega (arith, zero));
  last = λ whole. nothing;
  changes = λ whole. nothing;
}

-- what the first reader of a world sees begins the stored line
begins-line : (live : Live) (store : Known (List Batch)) (w : World) (f : Follower) → Represents live store w → first_reader w.objects ≡ Some f → IsPrefix f.line w.stored
begins-line live store w f stands first =
    let place = first-place w.objects f first in
    ((stands.represents).valid.followers place.0 f place.1).0

-- after one more
pub publishing-next : EachLeadsOn → (settings : Settings) (before : Objects) (faults : ℕ) (commands : List Command) (replies : List Reply) (live : Live) (store : Known (List Batch)) (aired : Aired) →
    (p : IsPublishing settings before faults commands replies live store aired) →
    (command : Command) (reply : Reply) (w : World) (live' : Live) (store' : Known (List Batch)) (aired' : Aired) →
    Link settings (last_world (start before faults) p.steps) command reply w → Represents live' store' w → AllInSegments settings.extractor w →
    (NoneBelow aired.place live'.objects → NoneBelow aired'.place live'.objects) →
    (aired'.whole ≡ true → aired.whole ≡ true) →
    (NoneBelow aired.place live'.objects → aired'.whole ≡ true → ShowsFirst (first_state w) aired.list.states aired'.list.states) →
    IsPublishing settings before faults (commands ++ command ∷ []) (replies ++ reply ∷ []) live' store' aired'
publishing-next each settings before faults commands replies live store aired p command reply w live' store' aired' link stands segments place whole shows =
    let first : World = start before faults in
    let old : World = last_world first p.steps in
    let next = each settings before faults commands replies p.steps live store p.led command reply w live' store' link stands segments in
    let rep = (p.led).represents in
    let none-old : NoneBelow aired.place old.objects = none-world aired.place old.objects (subst (NoneBelow aired.place) (rep.represents).objects p.none) in
    let none-new : NoneBelow aired.place live'.objects =
    subst (NoneBelow aired.place) (sym (stands.represents).objects) (none-kept aired.place w.objects (none-rises aired.place old.objects w.objects link.rises none-old)) in
    let fol : aired'.whole ≡ true → Follows (first_state old) (first_state w) aired.list.states aired'.list.states =
    λ h. follows old.stored w.stored (first_reader old.objects) (first_reader w.objects) aired.list.states aired'.list.states
    (λ f at. begins-line live store old f rep at) link.grows (λ f at. first-rises old.objects w.objects f link.rises at) (p.last (whole h)) (shows none-new h) in
    let more : states_along (p.steps ++ step_to command reply w ∷ []) ≡ states_along p.steps ++ first_state w ∷ [] = map-append (λ (step : Step). first_state step.world) p.steps (step_to command reply w ∷ []) in
    record {
      steps = p.steps ++ step_to command reply w ∷ [];
      led = next.0;
      none = place none-new;
      last = λ h. subst (IsLast aired'.list.states) (sym (ap first_state next.1)) (fol h).last;
      changes = λ h. subst (λ xs. AreChanges None xs aired'.list.states) (sym more) ((fol h).changes None (states_along p.steps) (p.changes (whole h)) (final-along first p.steps));
    }

-- after the last one
pub publishing-all : TheyLead → (settings : Settings) (before : Objects) (faults : ℕ) (commands : List Command) (replies : List Reply) (live : Live) (store : Known (List Batch)) (aired : Aired) →
    IsPublishing settings before faults commands replies live store aired → LeadsPublished settings commands replies before faults store aired.whole aired.list.states
publishing-all all settings before faults commands replies live store aired p =
    let led = all settings before faults commands replies p.steps live store p.led in
    record {
      led = led.0;
      published = λ whole. subst (λ steps. AreChanges None (states_along steps) aired.list.states) (sym led.1) (p.changes whole);
      number = λ whole. last-number (led.0).last aired.list.states (subst (λ w. IsLast aired.list.states (first_state w)) (sym ((led.0).is_last ∙ ap (last_world (start before faults)) led.1)) (p.last whole));
    }

-- the command at a place of a list, after those before it
pub take-next : (commands : List Command) (i : ℕ) (command : Command) → i < length commands → command ≡ get_or commands i command → take (i + 1) commands ≡ take i commands ++ command ∷ []
take-next commands i command inside item = take_more commands i command inside ∙ ap (λ c. take i commands ++ c ∷ []) (sym item)
