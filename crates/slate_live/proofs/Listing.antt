-- Over a run, the first close of an object lists the tasks that its opening registered, and each later one lists none.
use Rattle.std.proofs.Common.{◌≡◌, ◌≢◌, inl, inr, ◌++◌, ◌∷◌, ◌∙◌, [], ℕ, Bool, true, false, cond, ◌||◌, length, set, List, Option, Some, None, Result, Ok, Err, refl, sym, subst, ap}
use Rattle.std.proofs.lemmas.Bool.{cases_eq, eqb-true}
use Rattle.std.proofs.lemmas.List.Elements.{All-head, All-tail}
use Rattle.std.specs.List.{All, list_any, slice_get}
use Rattle.slate_store.specs.declared.reader_modes.DbReaderMode.{DbReaderMode}
use Rattle.slate_store.specs.declared.reader_modes.DbReaderMode.TheVariants as modes
use Rattle.slate_errors.specs.declared.endings.TaskName.{TaskName}
use Rattle.slate_errors.specs.declared.errors.SlateError.{SlateError}
use Rattle.slate_errors.specs.declared.errors.SlateError.TheVariants as errors
use Rattle.slate_model.specs.Catalogue.{Span}
use Rattle.slate_model.specs.Follow.{Rebuilds, SeesOwed, unseen}
use Rattle.slate_model.specs.Follower.{Follower, follower_tasks}
use Rattle.slate_model.specs.Handle.{Handle}
use Rattle.slate_model.specs.Knowledge.{Knowledge}
use Rattle.slate_model.specs.Known.{Untouched}
use Rattle.slate_model.specs.Lease.{lease_refusal}
use Rattle.slate_model.specs.Managed.{OpensManaged, TakesLease}
use Rattle.slate_model.specs.Object.{Object, Handle as AHandle, Follower as AFollower}
use Rattle.slate_model.specs.Open.{OpensHandle}
use Rattle.slate_model.specs.Stores.{by_catalogue}
use Rattle.slate_model.specs.declared.answers.PollAnswer.{PollAnswer}
use Rattle.slate_model.specs.declared.answers.PollAnswer.TheVariants.{Whole, Truncated}
use Rattle.slate_script.specs.declared.commands.Action.{Action}
use Rattle.slate_script.specs.declared.commands.Action.TheVariants as actions
use Rattle.slate_script.specs.declared.commands.Command.{Command}
use Rattle.slate_script.specs.declared.replies.Reply.{Reply}
use Rattle.slate_script.specs.declared.replies.Reply.TheVariants as replies
use Rattle.slate_live.specs.Calls.{Begins, Kind, Steps, Whole as WholeKind, kind_of, target_of}
use Rattle.slate_live.specs.Next.{NextBegun, NextBy}
use Rattle.slate_live.specs.Closings.{ListTasks, opens, registered}
use Rattle.slate_live.specs.Commands.{DoesBy, added, interval_of, lag_of, lifetime_of}
use Rattle.slate_live.specs.Leases.{closes}
use Rattle.slate_live.specs.Replies.{followed_reply, refusal, reply_to}
use Rattle.slate_live.specs.Represents.{IsFollowerAt, IsHandleAt, IsReached}
use Rattle.slate_live.specs.Settings.{Settings, option_tasks}
use Rattle.slate_live.specs.Steps.{Chain, Step, last_world}
use Rattle.slate_live.specs.Valid.{Link}
use Rattle.slate_live.specs.World.{NextWhole, World, state_of}
use Rattle.slate_live.proofs.Cases.{by-option, some-of}
use Rattle.slate_live.proofs.Lasting.{all-halves}
use Rattle.slate_live.proofs.Places.{get-seam, get-set_other, get-set_same}
use Rattle.slate_live.proofs.Tasked.{IsTasked, follower-after, follower-lists, handle-after, handle-lists}
use Rattle.slate_live.proofs.Begun.{begins-is, by-kind, steps-is}
use Rattle.slate_live.proofs.Wholes.{link-halves, next-whole}

-- an object of a world that has these tasks: a handle, or a reader
data HasTasks (w : World) (n : ℕ) (tasks : List TaskName) : Type 0 where
  OfHandle : (h : Handle) → IsHandleAt w.objects n h → h.tasks ≡ tasks → HasTasks w n tasks
  OfReader : (f : Follower) → IsFollowerAt w.objects n f → IsTasked f → f.tasks ≡ tasks → HasTasks w n tasks

-- ---- after an opening
refused-opens : (n : ℕ) (e : SlateError) (action : Action) → opens n action (refusal e) ≡ true → ⊥
refused-opens n errors.NoMemory (actions.Open wal) is = absurd (cc)
refused-opens n errors.NoMemory (actions.Follow mode managed skips lag) is = absurd (cc)
refused-opens n errors.NoMemory action is = absurd (cc)
refused-opens n (errors.Backpressure unflushed limit) (actions.Open wal) is = absurd (cc)
refused-opens n (errors.Backpressure unflushed limit) (actions.Follow mode managed skips lag) is = absurd (cc)
refused-opens n (errors.Backpressure unflushed limit) action is = absurd (cc)
refused-opens n e (actions.Open wal) is = absurd (cc)
refused-opens n e (actions.Follow mode managed skips lag) is = absurd (cc)
refused-opens n e action is = absurd (cc)

followed-opens : (n m : ℕ) (mode : DbReaderMode) (managed : Option (ℕ × ℕ)) (skips : Bool) (lag : Option ℕ) (answer : PollAnswer) → opens n (actions.Follow mode managed skips lag) (followed_reply m answer) ≡ true → m ≡ n
followed-opens n m mode managed skips lag (Whole at) is = eqb-true m n is
followed-opens n m mode managed skips lag (Truncated at) is = eqb-true m n is

module _ (settings : Settings) (w w' : World) (command : Command) (reply : Reply) (next : NextWhole settings w command reply w') (n : ℕ) where
  abbrev k : Knowledge Span
  k = by_catalogue w.stored w.catalogue

  added-at : (object : Object) → w'.objects ≡ w.objects ++ object ∷ [] → length w.objects ≡ n → slice_get w'.objects n ≡ Some object
  added-at object is number =
      subst (λ i. slice_get w'.objects i ≡ Some object) number (subst (λ os. slice_get os (length w.objects) ≡ Some object) (sym is) (get-seam w.objects object))

  abbrev by_reader : (r : Result (Follower × PollAnswer) SlateError) → Type 0
  by_reader r = reply ≡ reply_to (λ (b : Follower × PollAnswer). followed_reply (length w.objects) b.1) r

  abbrev adds_reader : (r : Result (Follower × PollAnswer) SlateError) → Type 0
  adds_reader r = w'.objects ≡ w.objects ++ added (λ (b : Follower × PollAnswer). AFollower b.0) r

  reader-opens : (mode : DbReaderMode) (managed : Option (ℕ × ℕ)) (skips : Bool) (lag : Option ℕ) (b : Follower × PollAnswer) → b.0.mode ≡ mode → b.0.tasks ≡ follower_tasks mode → by_reader (Ok b) → adds_reader (Ok b) → opens n (actions.Follow mode managed skips lag) reply ≡ true → HasTasks w' n (follower_tasks mode)
  reader-opens mode managed skips lag b mode_is tasks replied objects is =
      let number = followed-opens n (length w.objects) mode managed skips lag b.1 (sym (ap (opens n (actions.Follow mode managed skips lag)) replied) ∙ is) in
      OfReader b.0 (added-at (AFollower b.0) objects number) (λ open_. tasks ∙ ap follower_tasks (sym mode_is)) tasks

  rebuilt-opens : (mode : DbReaderMode) (managed : Option (ℕ × ℕ)) (skips : Bool) (lag : Option ℕ) (r : Result (Follower × PollAnswer) SlateError) → Rebuilds k settings.extractor mode skips true (lag_of lag) (SeesOwed k mode skips (lag_of lag)) unseen (state_of w).store r (state_of w').store → by_reader r → adds_reader r → opens n (actions.Follow mode managed skips lag) reply ≡ true → HasTasks w' n (follower_tasks mode)
  rebuilt-opens mode managed skips lag (Err e) does replied objects is = absurd (refused-opens n e (actions.Follow mode managed skips lag) (sym (ap (opens n (actions.Follow mode managed skips lag)) replied) ∙ is))
  rebuilt-opens mode managed skips lag (Ok b) does replied objects is =
      let all = does.sees w.catalogue w.stored refl refl tt in
      reader-opens mode managed skips lag b does.answer.0 (ap (λ (g : Follower). g.tasks) all.2) replied objects is

  taken-opens : (managed : Option (ℕ × ℕ)) (skips : Bool) (lag : Option ℕ) (b : Follower × PollAnswer) → TakesLease k settings.extractor next.made (lifetime_of managed) skips (lag_of lag) command.moment (state_of w).store (Ok b) (state_of w').store → by_reader (Ok b) → adds_reader (Ok b) → opens n (actions.Follow modes.ManagedCheckpoint managed skips lag) reply ≡ true → HasTasks w' n (follower_tasks modes.ManagedCheckpoint)
  taken-opens managed skips lag b t replied objects is =
      let takes = ((t.takes).some w.catalogue refl).2 in
      let all = (takes.sees).sees w.stored refl tt in
      reader-opens modes.ManagedCheckpoint managed skips lag b (t.answers).0 (ap (λ (g : Follower). g.tasks) all.2) replied objects is

  managed-opens : (managed : Option (ℕ × ℕ)) (skips : Bool) (lag : Option ℕ) (r : Result (Follower × PollAnswer) SlateError) → OpensManaged k settings.extractor next.made (lifetime_of managed) (interval_of managed) skips (lag_of lag) command.moment (state_of w).store r (state_of w').store → by_reader r → adds_reader r → opens n (actions.Follow modes.ManagedCheckpoint managed skips lag) reply ≡ true → HasTasks w' n (follower_tasks modes.ManagedCheckpoint)
  managed-opens managed skips lag (Err e) does replied objects is = absurd (refused-opens n e (actions.Follow modes.ManagedCheckpoint managed skips lag) (sym (ap (opens n (actions.Follow modes.ManagedCheckpoint managed skips lag)) replied) ∙ is))
  managed-opens managed skips lag (Ok b) does replied objects is =
      by-option (lease_refusal (lifetime_of managed) (interval_of managed))
      (λ none. taken-opens managed skips lag b (does.takes none) replied objects is)
      (λ error refused. absurd (let c = some-of (λ error. (◌≡◌ {A = Result (Follower × PollAnswer) SlateError} (Ok b) (Err error)) × Untouched next.made (state_of w).store (state_of w').store) (lease_refusal (lifetime_of managed) (interval_of managed)) error refused does.refused in let no = c.0 in cc))

  handle-opens : (wal : Bool) (r : Result Handle SlateError) → OpensHandle k settings.extractor next.made wal settings.options.max_unflushed_bytes (option_tasks settings.options) (state_of w).store r (state_of w').store → reply ≡ reply_to (λ (h : Handle). replies.Handle (length w.objects)) r → w'.objects ≡ w.objects ++ added AHandle r → opens n (actions.Open wal) reply ≡ true → HasTasks w' n (option_tasks settings.options)
  handle-opens wal (Err e) does replied objects is = absurd (refused-opens n e (actions.Open wal) (sym (ap (opens n (actions.Open wal)) replied) ∙ is))
  handle-opens wal (Ok h) does replied objects is =
      let number = eqb-true (length w.objects) n (sym (ap (opens n (actions.Open wal)) replied) ∙ is) in
      OfHandle h (added-at (AHandle h) objects number) (does.fresh).tasked

  opened-has : (action : Action) → command.action ≡ action → opens n action reply ≡ true → HasTasks w' n (registered settings.options action)
  opened-has (actions.Open wal) names is =
      let d = subst (λ t. DoesBy k settings command t next.made (state_of w) reply (state_of w')) (ap target_of names) next.does in
      handle-opens wal d.result d.does d.replied d.objects is
  opened-has (actions.Follow modes.FollowLatest managed skips lag) names is =
      let d = subst (λ t. DoesBy k settings command t next.made (state_of w) reply (state_of w')) (ap target_of names) next.does in
      rebuilt-opens modes.FollowLatest managed skips lag (d.0).result (d.0).does (d.0).replied (d.0).objects is
  opened-has (actions.Follow (modes.Checkpoint id) managed skips lag) names is =
      let d = subst (λ t. DoesBy k settings command t next.made (state_of w) reply (state_of w')) (ap target_of names) next.does in
      rebuilt-opens (modes.Checkpoint id) managed skips lag (d.0).result (d.0).does (d.0).replied (d.0).objects is
  opened-has (actions.Follow modes.ManagedCheckpoint managed skips lag) names is =
      let d = subst (λ t. DoesBy k settings command t next.made (state_of w) reply (state_of w')) (ap target_of names) next.does in
      managed-opens managed skips lag d.result d.does d.replied d.objects is
  opened-has action names is = absurd (cc)

-- ---- after a step, and after steps
step-has : (settings : Settings) (w : World) (step : Step) (n : ℕ) (tasks : List TaskName) → IsReached w → Link settings w step.command step.reply step.world → HasTasks w n tasks → HasTasks step.world n (cond (closes n step.command.action) [] tasks)
step-has settings w step n tasks reached link had = by (kind_of step.command.action) refl had
  where
    w' : World
    w' = step.world

    same-has : (action : Action) → step.command.action ≡ action → closes n action ≡ false → w'.objects ≡ w.objects → HasTasks w n tasks → HasTasks w' n (cond (closes n step.command.action) [] tasks)
    same-has action is unclosed same had = subst (λ b. HasTasks w' n (cond b [] tasks)) (sym (ap (closes n) is ∙ unclosed)) (moved had)
      where
        moved : HasTasks w n tasks → HasTasks w' n tasks
        moved (OfHandle h at has) = OfHandle h (subst (λ os. IsHandleAt os n h) (sym same) at) has
        moved (OfReader f at tasked has) = OfReader f (subst (λ os. IsFollowerAt os n f) (sym same) at) tasked has

    -- a step of the reader m
    stepped-has : (m : ℕ) (old new : Follower) → IsFollowerAt w.objects m old → w'.objects ≡ set w.objects m (AFollower new) → old.result ≡ None → new.mode ≡ old.mode → new.tasks ≡ old.tasks → HasTasks w n tasks → HasTasks w' n tasks
    stepped-has m old new at_m is open_ mode_is tasks_are (OfHandle h at has) =
        let other : n ≢ m = λ same. absurd (let here = subst (λ i. IsHandleAt w.objects i h) same at in let no : ◌≡◌ {A = Option Object} (Some (AHandle h)) (Some (AFollower old)) = sym here ∙ at_m in cc) in
        OfHandle h (subst (λ os. IsHandleAt os n h) (sym is) (get-set_other w.objects m n (AFollower new) other ∙ at)) has
    stepped-has m old new at_m is open_ mode_is tasks_are (OfReader f at tasked has) = elim (cases_eq n m) [
      | inl same ↦
          let here = subst (λ i. IsFollowerAt w.objects i f) same at in
          let it : f ≡ old = (let both : ◌≡◌ {A = Option Object} (Some (AFollower f)) (Some (AFollower old)) = sym here ∙ at_m in cc) in
          let old_has : old.tasks ≡ tasks = subst (λ (x : Follower). x.tasks ≡ tasks) it has in
          let old_tasked : old.tasks ≡ follower_tasks old.mode = subst IsTasked it tasked open_ in
          let there : IsFollowerAt w'.objects n new = subst (λ i. IsFollowerAt w'.objects i new) (sym same) (subst (λ os. IsFollowerAt os m new) (sym is) (get-set_same w.objects m (AFollower new) (AFollower old) at_m)) in
          OfReader new there (λ still. tasks_are ∙ (old_tasked ∙ ap follower_tasks (sym mode_is))) (tasks_are ∙ old_has)
      | inr other ↦ OfReader f (subst (λ os. IsFollowerAt os n f) (sym is) (get-set_other w.objects m n (AFollower new) other ∙ at)) tasked has
    ]

    whole-has : NextWhole settings w step.command step.reply w' → HasTasks w n tasks → HasTasks w' n (cond (closes n step.command.action) [] tasks)
    whole-has next (OfHandle h at has) =
        let a = handle-after settings w step.command next.made step.reply (state_of w') n h at next.does in
        OfHandle a.0 a.1 (a.2 ∙ ap (cond (closes n step.command.action) []) has)
    whole-has next (OfReader f at tasked has) =
        let a = follower-after settings w step.command next.made step.reply (state_of w') n f at tasked ((reached.0).followers n f at).2 next.does in
        OfReader a.0 a.1 (a.2).1 ((a.2).0 ∙ ap (cond (closes n step.command.action) []) has)

    by : (kind : Kind) → kind_of step.command.action ≡ kind → HasTasks w n tasks → HasTasks w' n (cond (closes n step.command.action) [] tasks)
    by WholeKind kind had = whole-has (next-whole settings w step.command step.reply w' kind link.next) had
    by (Begins m) kind had =
        let next : NextBegun settings m w step.command step.reply w' = subst (λ k. NextBy k settings w step.command step.reply w') kind link.next in
        same-has (actions.Begin m) (begins-is step.command.action m kind) refl (ap (λ (x : World). x.objects) next.same) had
    by (Steps m) kind had =
        let unclosed : closes n step.command.action ≡ false = ap (closes n) (steps-is step.command.action m kind) in
        elim (link.leaves m kind).objects [
          | inl same ↦ same-has (actions.Step m) (steps-is step.command.action m kind) refl same had
          | inr moved ↦ subst (λ b. HasTasks w' n (cond b [] tasks)) (sym unclosed) (stepped-has m moved.0 moved.1 moved.2 moved.3 moved.4 moved.5 moved.6 had)
        ]

both : (a b : Bool) (tasks : List TaskName) → cond b [] (cond a [] tasks) ≡ cond (a || b) [] tasks
both true true tasks = refl
both true false tasks = refl
both false true tasks = refl
both false false tasks = refl

closes-whole : (action : Action) (n : ℕ) → closes n action ≡ true → kind_of action ≡ WholeKind
closes-whole action n is = by-kind (λ a. closes n a ≡ true) (λ m no. absurd (cc)) (λ m no. absurd (cc)) action is

listed : (settings : Settings) (w : World) (later rest : List Step) (closing : Step) (n : ℕ) (had : List TaskName) (fault : Option SlateError) (tasks : List TaskName) → IsReached w → Chain settings w (later ++ closing ∷ rest) → All (λ (step : Step). IsReached step.world) (later ++ closing ∷ rest) → HasTasks w n had →
    closes n closing.command.action ≡ true → closing.reply ≡ replies.Ended fault tasks → tasks ≡ cond (list_any (λ (step : Step). closes n step.command.action) later) [] had
listed settings w [] rest closing n had fault tasks reached chain all (OfHandle h at has) closes_it is = handle-lists settings w closing.world closing.command closing.reply (next-whole settings w closing.command closing.reply closing.world (closes-whole closing.command.action n closes_it) (chain.0).next) n fault tasks is h at closes_it ∙ has
listed settings w [] rest closing n had fault tasks reached chain all (OfReader f at tasked has) closes_it is = follower-lists settings w closing.world closing.command closing.reply (next-whole settings w closing.command closing.reply closing.world (closes-whole closing.command.action n closes_it) (chain.0).next) n fault tasks is f at closes_it ∙ has
listed settings w (s ∷ later) rest closing n had fault tasks reached chain all has closes_it is =
    let reached' = All-head (λ (step : Step). IsReached step.world) s (later ++ closing ∷ rest) all in
    let more = All-tail (λ (step : Step). IsReached step.world) s (later ++ closing ∷ rest) all in
    listed settings s.world later rest closing n (cond (closes n s.command.action) [] had) fault tasks reached' chain.1 more (step-has settings w s n had reached chain.0 has) closes_it is
    ∙ both (closes n s.command.action) (list_any (λ (step : Step). closes n step.command.action) later) had

-- an opening and a close make a call whole
opens-whole : (action : Action) (n : ℕ) (reply : Reply) → opens n action reply ≡ true → kind_of action ≡ WholeKind
opens-whole action n reply is = by-kind (λ a. opens n a reply ≡ true) (λ m no. absurd (cc)) (λ m no. absurd (cc)) action is

-- ---- the law
pub list_tasks : (settings : Settings) (w : World) (steps : List Step) → Chain settings w steps → All (λ step. IsReached step.world) steps → ListTasks settings.options steps
list_tasks settings w steps chain all before later rest opened closing n fault tasks is opens_it closes_it replied =
    let halves = link-halves settings w before (opened ∷ (later ++ closing ∷ rest)) (subst (Chain settings w) is chain) in
    let alls = all-halves settings (λ (step : Step). IsReached step.world) before (opened ∷ (later ++ closing ∷ rest)) (subst (All (λ (step : Step). IsReached step.world)) is all) in
    let link = halves.1.0 in
    let reached = All-head (λ (step : Step). IsReached step.world) opened (later ++ closing ∷ rest) alls.1 in
    let more = All-tail (λ (step : Step). IsReached step.world) opened (later ++ closing ∷ rest) alls.1 in
    let has = opened-has settings (last_world w before) opened.world opened.command opened.reply (next-whole settings (last_world w before) opened.command opened.reply opened.world (opens-whole opened.command.action n opened.reply opens_it) link.next) n opened.command.action refl opens_it in
    listed settings opened.world later rest closing n (registered settings.options opened.command.action) fault tasks reached halves.1.1 more has closes_it replied
