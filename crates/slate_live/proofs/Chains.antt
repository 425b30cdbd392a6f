-- Commands that are done one after another lead through a chain of worlds.
use Rattle.std.proofs.Common.{◌≡◌, ◌≤◌, ◌<◌, ◌+◌, ◌&&◌, ℕ, Bool, true, false, length, take, map, get_or, List, [], ◌∷◌, ◌++◌, Option, Some, refl, sym, subst, ap, ◌∙◌}
use Rattle.std.specs.List.{All, list_any, slice_get}
use Rattle.std.proofs.lemmas.List.{map-append, take_all, take_more}
use Rattle.std.proofs.lemmas.List.Elements.{All-nil, All-push}
use Rattle.std.proofs.lemmas.Map.Keys.{any_passes_from_place}
use Rattle.slate_types.specs.declared.batches.Batch.{Batch}
use Rattle.slate_types.specs.Line.{IsPrefix}
use Rattle.slate_store.specs.Objects.{Objects}
use Rattle.slate_store.specs.Content.{IsSound}
use Rattle.slate_model.specs.Known.{Known}
use Rattle.slate_model.specs.Segments.{Extractor}
use Rattle.slate_script.specs.declared.commands.Action.{Action}
use Rattle.slate_script.specs.declared.commands.Command.{Command}
use Rattle.slate_script.specs.declared.options.Options.{Options}
use Rattle.slate_script.specs.declared.replies.Reply.{Reply}
use Rattle.slate_live.specs.State.{Live}
use Rattle.slate_live.specs.Run.{DoAll, LeadsTo, none_live}
use Rattle.slate_live.specs.Stepping.{IsDone}
use Rattle.slate_live.specs.Settings.{Settings}
use Rattle.slate_live.specs.Represents.{AllInSegments, IsReached, Represents, RepresentsObjects}
use Rattle.slate_live.specs.Steps.{Chain, Step, last_world}
use Rattle.slate_live.specs.Valid.{Link}
use Rattle.slate_live.specs.World.{World, start}
use Rattle.slate_live.proofs.Places.{get_read}
use Rattle.slate_live.proofs.Prefixes.{prefix-same, prefix-then}
use Rattle.slate_live.proofs.Lasting.{leases_hold}
use Rattle.slate_live.proofs.Listing.{list_tasks}
use Rattle.slate_live.proofs.Snapshots.{snapshots_stay}
use Rattle.slate_live.proofs.Polling.{polls_fit}
use Rattle.slate_live.proofs.Repeating.{repeat_errors}
use Rattle.slate_live.proofs.Segmented.{segmented-start}
use Rattle.slate_live.proofs.Statuses.{statuses_name}
use Rattle.slate_live.proofs.Seen.{polls_see}
use Rattle.slate_live.proofs.Staying.{stay_confirmed}
use Rattle.slate_live.proofs.Tracking.{trackers_stay}

-- no object yet, over sound objects, represents the world of their start
pub stands_start : (o : Objects) (store : Known (List Batch)) (live : Live) → live.objects ≡ [] → live.polls ≡ [] → live.writes ≡ [] → store.objects ≡ Some o → IsSound o → Represents live store (start o store.faults)
stands_start o store live no_object no_poll no_write is sound = record {
  represents = record {
    held = (o, is, sound, record { stored = refl; catalogue = refl }, λ n h at. absurd (cc));
    faults = refl;
    objects = no_object;
    writes = no_write;
    valid = record {
      line = sound.line;
      followers = λ n f at. absurd (cc);
      handles = λ n h at. absurd (cc);
      snapshots = λ n x at. absurd (cc);
      named = λ m n h x at_m at_n. absurd (cc);
      past = λ n x at. absurd (cc);
      distinct = λ m n a b at_m at_n epochs. absurd (cc);
    };
  };
  polls = no_poll;
  begun = λ objects n begun there at. absurd (cc);
}

pub chain-push : (settings : Settings) (first : World) (steps : List Step) (step : Step) → Chain settings first steps → Link settings (last_world first steps) step.command step.reply step.world → Chain settings first (steps ++ step ∷ [])
chain-push settings first [] step chain link = (link, tt)
chain-push settings first (s ∷ steps) step chain link = (chain.0, chain-push settings s.world steps step chain.1 link)

pub last-push : (first : World) (steps : List Step) (step : Step) → last_world first (steps ++ step ∷ []) ≡ step.world
last-push first [] step = refl
last-push first (s ∷ steps) step = last-push s.world steps step

-- steps for these commands with these replies, from this world on
pub record Done (settings : Settings) (first : World) (commands : List Command) (replies : List Reply) (steps : List Step) : Type 0 where
  pub commands_are : map (λ (step : Step). step.command) steps ≡ commands
  pub replies_are : map (λ (step : Step). step.reply) steps ≡ replies
  pub chain : Chain settings first steps
  pub reached : All (λ step. IsReached step.world) steps

-- a world that is represented may be reached
pub reached : (live : Live) (store : Known (List Batch)) (w : World) → RepresentsObjects live store w → IsReached w
reached live store w stands = (stands.valid, (stands.held).0, (stands.held).2, (stands.held).3)

-- no command, done
pub done_none : (settings : Settings) (first : World) (replies : List Reply) → replies ≡ [] → Done settings first [] replies []
done_none settings first replies none = record { commands_are = refl; replies_are = sym none; chain = tt; reached = All-nil (λ (step : Step). IsReached step.world) }

pub first-true : (x y : Bool) → (x && y) ≡ true → x ≡ true
first-true true y is = refl
first-true false y is = is

-- where one of the commands goes by something, so does the list
pub one-asks : (goes_by : Action → Bool) (commands : List Command) (i : ℕ) (command : Command) → i < length commands → command ≡ get_or commands i command → goes_by command.action ≡ true → list_any (λ (x : Command). goes_by x.action) commands ≡ true
one-asks goes_by commands i command inside item asks = any_passes_from_place (λ (x : Command). goes_by x.action) commands i command (get_read commands i command inside item) asks

-- the command at a place of a list, done after those before it
pub done-next : (settings : Settings) (first last : World) (steps : List Step) (commands : List Command) (i : ℕ) (command : Command) (replies replies' : List Reply) (reply : Reply) → i < length commands → command ≡ get_or commands i command → replies' ≡ replies ++ reply ∷ [] → Done settings first (take i commands) replies steps → Link settings (last_world first steps) command reply last → IsReached last → Done settings first (take (i + 1) commands) replies' (steps ++ record { command = command; reply = reply; world = last } ∷ [])
done-next settings first last steps commands i command replies replies' reply inside item pushed done link valid =
    let step : Step = record { command = command; reply = reply; world = last } in
    let more : take (i + 1) commands ≡ take i commands ++ command ∷ [] = take_more commands i command inside ∙ ap (λ c. take i commands ++ c ∷ []) (sym item) in
    record {
      commands_are = map-append (λ (s : Step). s.command) steps (step ∷ []) ∙ ap (λ cs. cs ++ command ∷ []) done.commands_are ∙ sym more;
      replies_are = map-append (λ (s : Step). s.reply) steps (step ∷ []) ∙ ap (λ rs. rs ++ reply ∷ []) done.replies_are ∙ sym pushed;
      chain = chain-push settings first steps step done.chain link;
      reached = All-push (λ (s : Step). IsReached s.world) steps step done.reached valid;
    }

-- the world after the command that was done last
pub stands-push : (first last : World) (steps : List Step) (command : Command) (reply : Reply) (live : Live) (store : Known (List Batch)) → Represents live store last → Represents live store (last_world first (steps ++ record { command = command; reply = reply; world = last } ∷ []))
stands-push first last steps command reply live store stands =
    subst (Represents live store) (sym (last-push first steps (record { command = command; reply = reply; world = last }))) stands

-- whose keys are in segments
pub segments-push : (extractor : Option Extractor) (first last : World) (steps : List Step) (command : Command) (reply : Reply) → AllInSegments extractor last → AllInSegments extractor (last_world first (steps ++ record { command = command; reply = reply; world = last } ∷ []))
segments-push extractor first last steps command reply segments =
    subst (AllInSegments extractor) (sym (last-push first steps (record { command = command; reply = reply; world = last }))) segments

-- what is stored in the first world is stored in the last
chain-grows : (settings : Settings) (first : World) (steps : List Step) → Chain settings first steps → IsPrefix first.stored (last_world first steps).stored
chain-grows settings first [] chain = prefix-same first.stored
chain-grows settings first (s ∷ steps) chain =
    prefix-then first.stored (s.world).stored (last_world s.world steps).stored (chain.0).grows (chain-grows settings s.world steps chain.1)

-- the world of sound objects, before any command, may be reached
start-reached : (options : Options) (o : Objects) (faults : ℕ) → IsSound o → IsReached (start o faults)
start-reached options o faults sound =
    reached (none_live options) (record { objects = Some o; faults = faults }) (start o faults) (stands_start o (record { objects = Some o; faults = faults }) (none_live options) refl refl refl refl sound).represents

-- where all of the commands are done
pub leads_all : (settings : Settings) (commands : List Command) (i : ℕ) (replies : List Reply) (o : Objects) (faults : ℕ) (live : Live) (store : Known (List Batch)) (steps : List Step) → IsSound o → length commands ≤ i → Done settings (start o faults) (take i commands) replies steps → Represents live store (last_world (start o faults) steps) → LeadsTo settings commands replies o faults store
leads_all settings commands i replies o faults live store steps sound all done stands =
    let held = (stands.represents).held in
    record {
      steps = steps;
      commands_are = done.commands_are ∙ take_all i commands all;
      replies_are = done.replies_are;
      chain = done.chain;
      reached = done.reached;
      last = last_world (start o faults) steps;
      is_last = refl;
      grows = chain-grows settings (start o faults) steps done.chain;
      confirmed = stay_confirmed settings (start o faults) steps refl done.chain;
      seen = polls_see settings (start o faults) steps done.chain;
      snapshots = snapshots_stay settings (start o faults) steps refl done.chain done.reached;
      closings = list_tasks settings (start o faults) steps done.chain done.reached;
      repeated = repeat_errors settings (start o faults) steps done.chain;
      trackers = trackers_stay settings (start o faults) steps (start-reached settings.options o faults sound) done.chain done.reached;
      statuses = statuses_name settings (start o faults) steps refl (start-reached settings.options o faults sound) done.chain done.reached;
      leases = leases_hold settings (start o faults) steps refl refl (start-reached settings.options o faults sound) done.chain done.reached;
      polls = polls_fit settings (start o faults) steps refl (start-reached settings.options o faults sound) (segmented-start settings.extractor (start o faults) refl) done.chain done.reached;
      after = held.0;
      modelled = held.1;
      sound = held.2;
      holds = held.3;
      fault_count = (stands.represents).faults;
    }

-- by these steps
pub leads_all-steps : (settings : Settings) (commands : List Command) (i : ℕ) (replies : List Reply) (o : Objects) (faults : ℕ) (live : Live) (store : Known (List Batch)) (steps : List Step) (sound : IsSound o) (all : length commands ≤ i)
    (done : Done settings (start o faults) (take i commands) replies steps) (stands : Represents live store (last_world (start o faults) steps)) → (leads_all settings commands i replies o faults live store steps sound all done stands).steps ≡ steps
unfolding leads_all
leads_all-steps settings commands i replies o faults live store steps sound all done stands = refl

-- commands that are done one after another, and one more
pub do-push : (settings : Settings) (live mid last : Live) (store between store' : Known (List Batch)) (commands : List Command) (replies : List Reply) (command : Command) (reply : Reply) → DoAll settings live store commands replies mid between → IsDone settings mid between command reply last store' →
    DoAll settings live store (commands ++ command ∷ []) (replies ++ reply ∷ []) last store'
do-push settings live mid last store between store' [] [] command reply all does = (
  last,
  store',
  subst (λ l. IsDone settings l store command reply last store') all.0 (subst (λ k. IsDone settings mid k command reply last store') all.1 does),
  (refl, refl),
)
do-push settings live mid last store between store' (c ∷ commands) (r ∷ replies) command reply all does =
    (all.0, all.1, all.2, do-push settings all.0 mid last all.1 between store' commands replies command reply all.3 does)
do-push settings live mid last store between store' [] (r ∷ replies) command reply all does = absurd all
do-push settings live mid last store between store' (c ∷ commands) [] command reply all does = absurd all

-- no command was done yet
pub do-none : (settings : Settings) (live : Live) (store : Known (List Batch)) (replies : List Reply) → replies ≡ [] → live ≡ none_live settings.options → DoAll settings (none_live settings.options) store [] replies live store
do-none settings live store replies none fresh = subst (λ rs. DoAll settings (none_live settings.options) store [] rs live store) (sym none) (fresh, refl)

-- all commands were done
pub do-all : (settings : Settings) (live last : Live) (store store' : Known (List Batch)) (commands : List Command) (i : ℕ) (replies : List Reply) → length commands ≤ i → DoAll settings live store (take i commands) replies last store' → DoAll settings live store commands replies last store'
do-all settings live last store store' commands i replies behind all = subst (λ cs. DoAll settings live store cs replies last store') (take_all i commands behind) all

-- the command at a place of a list, done after those before it
pub do-next : (settings : Settings) (live mid last : Live) (store between store' : Known (List Batch)) (commands : List Command) (i : ℕ) (command : Command) (replies replies' : List Reply) (reply : Reply) → i < length commands → command ≡ get_or commands i command → replies' ≡ replies ++ reply ∷ [] → DoAll settings live store (take i commands) replies mid between → IsDone settings mid between command reply last store' →
    DoAll settings live store (take (i + 1) commands) replies' last store'
do-next settings live mid last store between store' commands i command replies replies' reply inside item pushed all does =
    let more : take (i + 1) commands ≡ take i commands ++ command ∷ [] = take_more commands i command inside ∙ ap (λ c. take i commands ++ c ∷ []) (sym item) in
    subst (λ cs. DoAll settings live store cs replies' last store') (sym more)
    (subst (λ rs. DoAll settings live store (take i commands ++ command ∷ []) rs last store') (sym pushed)
    (do-push settings live mid last store between store' (take i commands) replies command reply all does))

-- no object, no key
pub all-start : (extractor : Option Extractor) (w : World) → w.objects ≡ [] → AllInSegments extractor w
all-start extractor w none = record {
  keys = segmented-start extractor w none;
  viewed = λ n reader at. absurd (let gone = sym (ap (λ os. slice_get os n) none) ∙ at in cc);
  polled = λ n reader begun at. absurd (let gone = sym (ap (λ os. slice_get os n) none) ∙ at in cc);
}
