-- What a command leaves of the tasks that run for an object.
use Rattle.std.proofs.Common.{◌≡◌, ◌≢◌, ◌++◌, ◌∙◌, inl, inr, ℕ, ℤ, Bool, true, false, cond, List, [], set, Option, Some, None, Result, Ok, Err, refl, sym, subst, ap}
use Rattle.std.specs.Prelude.{unwrap_or}
use Rattle.std.proofs.lemmas.Bool.{cases_eq, eq-eqb, eqb-true}
use Rattle.std.specs.List.{slice_get}
use Rattle.slate_types.specs.declared.batches.KeyOp.{KeyOp}
use Rattle.slate_types.specs.declared.options.FlushType.{FlushType}
use Rattle.slate_types.specs.Line.{Line}
use Rattle.slate_types.specs.Operator.{Merge}
use Rattle.slate_store.specs.declared.reader_modes.DbReaderMode.TheVariants as modes
use Rattle.slate_errors.specs.declared.closing.CloseFault.{CloseFault}
use Rattle.slate_errors.specs.declared.endings.Ended.{Ended}
use Rattle.slate_errors.specs.declared.endings.TaskName.{TaskName}
use Rattle.slate_errors.specs.declared.errors.SlateError.{SlateError}
use Rattle.slate_errors.specs.declared.errors.SlateError.TheVariants as errors
use Rattle.slate_errors.specs.Errors.{closed_error}
use Rattle.slate_model.specs.Catalogue.{Catalogue, Span}
use Rattle.slate_model.specs.Close.{closed_follower}
use Rattle.slate_model.specs.Follow.{Polls}
use Rattle.slate_model.specs.Follower.{Follower, follower_tasks, is_managed, is_pinned}
use Rattle.slate_model.specs.Handle.{CloseResult, Handle}
use Rattle.slate_model.specs.Knowledge.{Knowledge}
use Rattle.slate_model.specs.Known.{Known, Untouched}
use Rattle.slate_model.specs.Managed.{KeepsLease, PollsManaged, PollsTwice, follower_under}
use Rattle.slate_model.specs.Object.{Object, Handle as AHandle, Snapshot as ASnapshot, Follower as AFollower}
use Rattle.slate_model.specs.Segments.{Extractor}
use Rattle.slate_model.specs.Stores.{by_catalogue}
use Rattle.slate_model.specs.Write.{Writes}
use Rattle.slate_model.specs.declared.answers.PollAnswer.{PollAnswer}
use Rattle.slate_model.specs.declared.answers.Written.{Written}
use Rattle.slate_model.specs.declared.leases.Lease.{Lease}
use Rattle.slate_model.specs.declared.snapshots.HandleSnapshot.{HandleSnapshot}
use Rattle.slate_script.specs.declared.commands.Action.{Action}
use Rattle.slate_script.specs.declared.commands.Action.TheVariants as actions
use Rattle.slate_script.specs.declared.commands.Command.{Command}
use Rattle.slate_script.specs.declared.replies.Reply.{Reply}
use Rattle.slate_script.specs.declared.replies.Reply.TheVariants as replies
use Rattle.slate_live.specs.declared.states.Write.{Write}
use Rattle.slate_live.specs.Calls.{Call, Write as WriteCall, Merge as MergeCall, Flush, Refresh, Compact, Get, Scan, Seek, Close, Poll, Status, FindTime, FindNumber, Nothing, call_of, at_snapshot, flush_of_close, target_of}
use Rattle.slate_live.specs.declared.targets.Target.{Target}
use Rattle.slate_live.specs.declared.targets.Target.TheVariants.{NewHandle, NewSnapshot, NewFollower, NewCheckpoint, WholeStore, OfWrite, OfObject}
use Rattle.slate_live.specs.Commands.{ActsAt, ActsOn, DoesBy, OpensSnapshot, ReadsSnapshot}
use Rattle.slate_live.specs.Followers.{ClosesAs, FollowerActs, PollsAs}
use Rattle.slate_live.specs.Handles.{HandleActs, MergesTo}
use Rattle.slate_live.specs.Leases.{closes}
use Rattle.slate_live.specs.Replies.{closed_reply, follower_closed_reply, follower_ended_reply}
use Rattle.slate_live.specs.Represents.{IsFollowerAt, IsHandleAt, IsLeased}
use Rattle.slate_live.specs.Settings.{Settings}
use Rattle.slate_live.specs.State.{State}
use Rattle.slate_live.specs.World.{NextWhole, World, state_of}
use Rattle.slate_live.proofs.Cases.{by-bool, by-option, close-by, compact-by, flush-by, refresh-by, some-of}
use Rattle.slate_live.proofs.Naming.{follower-did, handle-acted, handle-did}
use Rattle.slate_live.proofs.Places.{get-before, get-set_other, get-set_same}
use Rattle.slate_live.proofs.Following.{polled-tasks}
use Rattle.slate_live.proofs.Rising.{managed-mode}

-- the tasks that a call leaves running
abbrev pub left : Call → List TaskName → List TaskName
left (Close t) tasks = []
left call tasks = tasks

left-snapshot : (number : ℕ) (call : Call) (tasks : List TaskName) → left (at_snapshot number call) tasks ≡ tasks
left-snapshot number (Get key remote snapshot) tasks = refl
left-snapshot number (Scan range order remote snapshot) tasks = refl
left-snapshot number (Seek range take key order remote snapshot) tasks = refl
left-snapshot number call tasks = refl

-- and a command of those of the object with this number
abbrev pub left_by : ℕ → Action → List TaskName → List TaskName
left_by n action tasks = cond (closes n action) [] tasks

-- ---- handles
write-tasks : (extractor : Option Extractor) (h h' : Handle) (ops : List KeyOp) (moment : ℤ) (second : Option ℤ) (r : Result Written SlateError) → Writes extractor h ops moment second r h' → h'.tasks ≡ h.tasks
write-tasks extractor h h' ops moment second (Ok w) s = ap (λ (x : Handle). x.tasks) s.accepted.3
write-tasks extractor h h' ops moment second (Err e) s = ap (λ (x : Handle). x.tasks) s.refused.1

merge-tasks : (merge : Option Merge) (extractor : Option Extractor) (n : ℕ) (op : KeyOp) (moment : ℤ) (second : Option ℤ) (h : Handle) (writes : List Write) (reply : Reply) (h' : Handle) (writes' : List Write) → MergesTo merge extractor n op moment second h writes reply h' writes' → h'.tasks ≡ h.tasks
merge-tasks None extractor n op moment second h writes reply h' writes' a = ap (λ (x : Handle). x.tasks) a.1
merge-tasks (Some merge) extractor n op moment second h writes reply h' writes' a = write-tasks extractor h h' _ moment second a.result a.does

tasks-same : (h h' : Handle) → h' ≡ h → h'.tasks ≡ h.tasks
tasks-same h h' same = ap (λ (x : Handle). x.tasks) same

handle-tasks : (stored : Line) (catalogue : Catalogue) (settings : Settings) (n : ℕ) (moment : ℤ) (second : Option ℤ) (call : Call) (made : ℕ) (h : Handle) (before : Known Span) (writes : List Write) (reply : Reply) (h' : Handle) (after : Known Span) (writes' : List Write) → HandleActs (by_catalogue stored catalogue) settings n moment second call made h before writes reply h' after writes' → h'.tasks ≡ left call h.tasks
handle-tasks stored catalogue settings n moment second (WriteCall ops) made h before writes reply h' after writes' a = write-tasks settings.extractor h h' _ moment second (a.0).result (a.0).does
handle-tasks stored catalogue settings n moment second (MergeCall op) made h before writes reply h' after writes' a = merge-tasks settings.merge settings.extractor n op moment second h writes reply h' writes' a.0
handle-tasks stored catalogue settings n moment second (Flush t) made h before writes reply h' after writes' a =
    flush-by (by_catalogue stored catalogue) made h before h' after (h'.tasks ≡ h.tasks) _ (a.0).result (a.0).does
    (λ q is error same store. tasks-same h h' same)
    (λ live without error same store. tasks-same h h' same)
    (λ can is stores. ap (λ (x : Handle). x.tasks) is.same)
handle-tasks stored catalogue settings n moment second (Close t) made h before writes reply h' after writes' a =
    close-by (by_catalogue stored catalogue) made h before h' after (h'.tasks ≡ []) _ (a.0).ended (a.0).does
    (λ q is error same store. ap (λ (x : Handle). x.tasks) same)
    (λ live none error is store. ap (λ (x : Handle). x.tasks) is)
    (λ t live some without error is store. ap (λ (x : Handle). x.tasks) is)
    (λ t can some tasks is stores. ap (λ (x : Handle). x.tasks) is.same)
handle-tasks stored catalogue settings n moment second Refresh made h before writes reply h' after writes' a =
    refresh-by (by_catalogue stored catalogue) 0 h before h' after (h'.tasks ≡ h.tasks) (a.0).result (a.0).does
    (λ q is error same store. tasks-same h h' same)
    (λ live reads. ap (λ (x : Handle). x.tasks) reads.same)
handle-tasks stored catalogue settings n moment second Compact made h before writes reply h' after writes' a =
    compact-by (by_catalogue stored catalogue) made h before h' after (h'.tasks ≡ h.tasks) (a.0).result (a.0).does
    (λ q is error same store. tasks-same h h' same)
    (λ live joins. ap (λ (x : Handle). x.tasks) joins.same)
handle-tasks stored catalogue settings n moment second (Get key remote snapshot) made h before writes reply h' after writes' a = tasks-same h h' a.1
handle-tasks stored catalogue settings n moment second (Scan range order remote snapshot) made h before writes reply h' after writes' a = tasks-same h h' a.1
handle-tasks stored catalogue settings n moment second (Seek range take key order remote snapshot) made h before writes reply h' after writes' a = tasks-same h h' a.1
handle-tasks stored catalogue settings n moment second Poll made h before writes reply h' after writes' a = tasks-same h h' a.1
handle-tasks stored catalogue settings n moment second Status made h before writes reply h' after writes' a = tasks-same h h' a.1
handle-tasks stored catalogue settings n moment second (FindTime number find) made h before writes reply h' after writes' a = tasks-same h h' a.1
handle-tasks stored catalogue settings n moment second (FindNumber seconds find) made h before writes reply h' after writes' a = tasks-same h h' a.1
handle-tasks stored catalogue settings n moment second Nothing made h before writes reply h' after writes' a = tasks-same h h' a.1

-- ---- readers
-- while one is open, the task of its mode runs
abbrev pub IsTasked : Follower → Type 0
IsTasked f = f.result ≡ None → f.tasks ≡ follower_tasks f.mode

-- a reader that has these tasks, and while it is open those of its mode
abbrev pub HasTasks : List TaskName → Follower → Type 0
HasTasks tasks f = (f.tasks ≡ tasks) × IsTasked f

module _ (ext : Option Extractor) (stored : Line) (catalogue : Catalogue) (made : ℕ) (moment : ℤ) (f f' : Follower) (before after : Known Span) (at : before.objects ≡ Some catalogue) (tasked : IsTasked f) where
  kept-tasks : f' ≡ f → HasTasks f.tasks f'
  kept-tasks same = subst (HasTasks f.tasks) (sym same) (refl, tasked)

  rebuilt-tasks : f.result ≡ None → f'.mode ≡ f.mode → f'.tasks ≡ follower_tasks f.mode → HasTasks f.tasks f'
  rebuilt-tasks live mode tasks = (tasks ∙ sym (tasked live), λ open_. tasks ∙ ap follower_tasks (sym mode))

  free-tasks : (r : Result PollAnswer SlateError) → f.result ≡ None → (pinned : Bool) → is_pinned f.mode ≡ pinned → Polls (by_catalogue stored catalogue) ext f before r f' after → HasTasks f.tasks f'
  free-tasks r live true stays_at p = kept-tasks (p.pinned live stays_at).1
  free-tasks (Err e) live false free p = kept-tasks p.failed
  free-tasks (Ok answer) live false free p =
      let b = p.rebuilds live free in
      let all = b.sees catalogue stored at refl tt in
      rebuilt-tasks live b.answer.0 (polled-tasks stored catalogue catalogue f f' answer all)

  poll-tasks : (r : Result PollAnswer SlateError) → Polls (by_catalogue stored catalogue) ext f before r f' after → HasTasks f.tasks f'
  poll-tasks r p =
      by-option f.result
      (λ live. free-tasks r live (is_pinned f.mode) refl p)
      (λ q is. let c = some-of (λ q. (r ≡ Err (closed_error q)) × (after ≡ before)) f.result q is p.closed in refused r q c.0 p) where
        refused : (r : Result PollAnswer SlateError) (q : Result (Unit {0}) CloseFault) → r ≡ Err (closed_error q) → Polls (by_catalogue stored catalogue) ext f before r f' after → HasTasks f.tasks f'
        refused (Ok answer) q is p = absurd (cc)
        refused (Err e) q is p = kept-tasks p.failed

  leased-tasks : (lease : Lease) (r : Result PollAnswer SlateError) → is_managed f.mode ≡ true → f.result ≡ None → KeepsLease (by_catalogue stored catalogue) ext made lease moment f before r f' after → HasTasks f.tasks f'
  leased-tasks lease (Err e) managed live p = subst (HasTasks f.tasks) (sym p.failed) (refl, λ open_. tasked live)
  leased-tasks lease (Ok answer) managed live p =
      let t = (p.keeps).some catalogue at in
      let keeps = t.2 in
      let all = (keeps.sees).sees stored refl tt in
      rebuilt-tasks live ((p.answers).0 ∙ sym (managed-mode f.mode managed)) (polled-tasks stored catalogue t.0 f (follower_under (unwrap_or keeps.next keeps.latest) f') answer all)

module _ (ext : Option Extractor) (stored : Line) (catalogue : Catalogue) (made : ℕ) (moment : ℤ) (f f' : Follower) (before after : Known Span) (at : before.objects ≡ Some catalogue) (tasked : IsTasked f) where
  -- where a renewal follows the round
  twice-tasks : (lease : Lease) (r : Result PollAnswer SlateError) → is_managed f.mode ≡ true → f.result ≡ None → PollsTwice (by_catalogue stored catalogue) ext made lease moment f before r f' after → HasTasks f.tasks f'
  twice-tasks lease (Ok answer) managed live p = subst (HasTasks f.tasks) (sym (p.answers).1) (leased-tasks ext stored catalogue p.first moment f p.middle before p.between at tasked lease (Ok p.answer) managed live p.round)
  twice-tasks lease (Err e) managed live p =
      let h = leased-tasks ext stored catalogue p.first moment f p.middle before p.between at tasked lease (Ok p.answer) managed live p.round in
      subst (HasTasks f.tasks) (sym p.failed) (h.0, λ open_. h.1 (p.round.answers).3)

  managed-tasks : (r : Result PollAnswer SlateError) → IsLeased f → is_managed f.mode ≡ true → PollsManaged (by_catalogue stored catalogue) ext made moment f before r f' after → HasTasks f.tasks f'
  managed-tasks r leased managed p =
      by-option f.result
      (λ live. by-option f.lease
      (λ none. absurd (let there = leased managed live in cc))
      (λ lease is. elim (p.keeps lease live is) [
        | inl once ↦ leased-tasks ext stored catalogue made moment f f' before after at tasked lease r managed live once.round
        | inr twice ↦ twice-tasks lease r managed live twice
      ]))
      (λ q is. kept-tasks ext stored catalogue made moment f f' before after at tasked (some-of (λ q. (r ≡ Err (closed_error q)) × (f' ≡ f) × Untouched made before after) f.result q is p.closed).1)

  polls-tasks : (r : Result PollAnswer SlateError) → IsLeased f → (managed : Bool) → is_managed f.mode ≡ managed → PollsAs (by_catalogue stored catalogue) ext managed made moment f before r f' after → HasTasks f.tasks f'
  polls-tasks r leased true is p = managed-tasks r leased is p
  polls-tasks r leased false is p = poll-tasks ext stored catalogue made moment f f' before after at tasked r p.0

  ended-tasks : f' ≡ closed_follower f → HasTasks [] f'
  ended-tasks same = subst (HasTasks []) (sym same) (refl, λ open_. absurd (cc))

  closes-tasks : (managed : Bool) (answer : Ended) → ClosesAs (by_catalogue stored catalogue) managed made f before answer f' after → HasTasks [] f'
  closes-tasks true answer c = ended-tasks c.closed
  closes-tasks false answer c = ended-tasks c.1

follower-acts : (stored : Line) (catalogue : Catalogue) (settings : Settings) (moment : ℤ) (call : Call) (made : ℕ) (f : Follower) (before : Known Span) (writes : List Write) (reply : Reply) (f' : Follower) (after : Known Span) (writes' : List Write) → before.objects ≡ Some catalogue → IsTasked f → IsLeased f → FollowerActs (by_catalogue stored catalogue) settings moment call made f before writes reply f' after writes' → HasTasks (left call f.tasks) f'
follower-acts stored catalogue settings moment Poll made f before writes reply f' after writes' at tasked leased a = polls-tasks settings.extractor stored catalogue made moment f f' before after at tasked (a.0).result leased (is_managed f.mode) refl (a.0).does
follower-acts stored catalogue settings moment (Close t) made f before writes reply f' after writes' at tasked leased a = closes-tasks settings.extractor stored catalogue made moment f f' before after at tasked (is_managed f.mode) (a.0).answer (a.0).does
follower-acts stored catalogue settings moment (Get key remote snapshot) made f before writes reply f' after writes' at tasked leased a = kept-tasks settings.extractor stored catalogue made moment f f' before after at tasked a.1
follower-acts stored catalogue settings moment (Scan range order remote snapshot) made f before writes reply f' after writes' at tasked leased a = kept-tasks settings.extractor stored catalogue made moment f f' before after at tasked a.1
follower-acts stored catalogue settings moment (Seek range take key order remote snapshot) made f before writes reply f' after writes' at tasked leased a = kept-tasks settings.extractor stored catalogue made moment f f' before after at tasked a.1
follower-acts stored catalogue settings moment (WriteCall ops) made f before writes reply f' after writes' at tasked leased a = kept-tasks settings.extractor stored catalogue made moment f f' before after at tasked a.1
follower-acts stored catalogue settings moment (MergeCall op) made f before writes reply f' after writes' at tasked leased a = kept-tasks settings.extractor stored catalogue made moment f f' before after at tasked a.1
follower-acts stored catalogue settings moment (Flush t) made f before writes reply f' after writes' at tasked leased a = kept-tasks settings.extractor stored catalogue made moment f f' before after at tasked a.1
follower-acts stored catalogue settings moment Refresh made f before writes reply f' after writes' at tasked leased a = kept-tasks settings.extractor stored catalogue made moment f f' before after at tasked a.1
follower-acts stored catalogue settings moment Compact made f before writes reply f' after writes' at tasked leased a = kept-tasks settings.extractor stored catalogue made moment f f' before after at tasked a.1
follower-acts stored catalogue settings moment Status made f before writes reply f' after writes' at tasked leased a = kept-tasks settings.extractor stored catalogue made moment f f' before after at tasked a.1
follower-acts stored catalogue settings moment (FindTime number find) made f before writes reply f' after writes' at tasked leased a = kept-tasks settings.extractor stored catalogue made moment f f' before after at tasked a.1
follower-acts stored catalogue settings moment (FindNumber seconds find) made f before writes reply f' after writes' at tasked leased a = kept-tasks settings.extractor stored catalogue made moment f f' before after at tasked a.1
follower-acts stored catalogue settings moment Nothing made f before writes reply f' after writes' at tasked leased a = kept-tasks settings.extractor stored catalogue made moment f f' before after at tasked a.1

-- ---- which command leaves them
-- one that doesn't name the object with this number, and one that does
unclosed : (n : ℕ) (action : Action) → (target_of action ≡ OfObject n → ⊥) → closes n action ≡ false
unclosed n (actions.Close m options) other = by-bool (closes n (actions.Close m options)) (λ is. absurd (other (ap OfObject (eqb-true m n is)))) (λ is. is)
unclosed n action other = refl

named-left : (n : ℕ) (action : Action) (tasks : List TaskName) → target_of action ≡ OfObject n → left (call_of action) tasks ≡ left_by n action tasks
named-left n (actions.Close m options) tasks names = let same : m ≡ n = cc in ap (λ b. cond b [] tasks) (sym (eq-eqb m n same))
named-left n action tasks names = refl

-- ---- a handle of a world
module _ (settings : Settings) (w : World) (command : Command) (made : ℕ) (reply : Reply) (s' : State Span) (n : ℕ) where
  abbrev k : Knowledge Span
  k = by_catalogue w.stored w.catalogue

  module _ (h : Handle) (at : IsHandleAt w.objects n h) where
    abbrev Stays : Type 0
    Stays = (h' : Handle) × IsHandleAt s'.objects n h' × (h'.tasks ≡ left_by n command.action h.tasks)

    quiet : (target_of command.action ≡ OfObject n → ⊥) → IsHandleAt s'.objects n h → Stays
    quiet other at' = (h, at', ap (λ b. cond b [] h.tasks) (sym (unclosed n command.action other)))

    same-objects : (target_of command.action ≡ OfObject n → ⊥) → s'.objects ≡ w.objects → Stays
    same-objects other same = quiet other (subst (λ os. IsHandleAt os n h) (sym same) at)

    more-objects : (target_of command.action ≡ OfObject n → ⊥) → (os : List Object) → s'.objects ≡ w.objects ++ os → Stays
    more-objects other os is = quiet other (subst (λ xs. IsHandleAt xs n h) (sym is) (get-before w.objects os n (AHandle h) at))

    other-object : (target_of command.action ≡ OfObject n → ⊥) → (m : ℕ) (x : Object) → n ≢ m → s'.objects ≡ set w.objects m x → Stays
    other-object other m x apart is = quiet other (subst (λ xs. IsHandleAt xs n h) (sym is) (get-set_other w.objects m n x apart ∙ at))

    -- what stands at the number is the handle
    is-it : (m : ℕ) (found : Option Object) → slice_get w.objects m ≡ found → n ≡ m → found ≡ Some (AHandle h)
    is-it m found there same = sym there ∙ subst (λ i. slice_get w.objects i ≡ Some (AHandle h)) same at

    not-named : (m : ℕ) → target_of command.action ≡ OfObject m → n ≢ m → target_of command.action ≡ OfObject n → ⊥
    not-named m names apart it = absurd (apart (let both : OfObject n ≡ OfObject m = sym it ∙ names in cc))

    acted : (m : ℕ) (call : Call) (g : Handle) → slice_get w.objects m ≡ Some (AHandle g) → (n ≡ m → left call h.tasks ≡ left_by n command.action h.tasks) → (n ≢ m → target_of command.action ≡ OfObject n → ⊥) → ActsAt k settings m command call made (AHandle g) (state_of w) reply s' → Stays
    acted m call g there its others a =
        let d = handle-acted k settings m command call made (state_of w) reply s' g a in
        elim (cases_eq n m) [
          | inl same ↦
              (let is : ◌≡◌ {A = Option Object} (Some (AHandle g)) (Some (AHandle h)) = is-it m (Some (AHandle g)) there same in
              let mine : g ≡ h = cc in
              let tasks = handle-tasks w.stored w.catalogue settings m command.moment command.second call made g _ w.writes reply d.new _ _ d.acts in (
                d.new,
                subst (λ i. IsHandleAt s'.objects i d.new) (sym same) (subst (λ xs. IsHandleAt xs m d.new) (sym d.objects) (get-set_same w.objects m (AHandle d.new) (AHandle g) there)),
                tasks ∙ (ap (λ (x : Handle). left call x.tasks) mine ∙ its same),
              ))
          | inr apart ↦ other-object (others apart) m (AHandle d.new) apart d.objects
        ]

    snapshot-acted : (m : ℕ) (x : HandleSnapshot) (call : Call) (found : Option Object) → target_of command.action ≡ OfObject m → n ≢ m → slice_get w.objects x.handle ≡ found → ReadsSnapshot k settings x command call made found (state_of w) reply s' → Stays
    snapshot-acted m x call (Some (AHandle g)) names apart there a =
        let other = not-named m names apart in
        acted x.handle (at_snapshot x.number call) g there (λ same. left-snapshot x.number call h.tasks ∙ ap (λ b. cond b [] h.tasks) (sym (unclosed n command.action other))) (λ apart. other) a
    snapshot-acted m x call (Some (ASnapshot y)) names apart there a = same-objects (not-named m names apart) (ap (λ (s : State Span). s.objects) a.2)
    snapshot-acted m x call (Some (AFollower g)) names apart there a = same-objects (not-named m names apart) (ap (λ (s : State Span). s.objects) a.2)
    snapshot-acted m x call None names apart there a = same-objects (not-named m names apart) (ap (λ (s : State Span). s.objects) a.2)

    on-acted : (m : ℕ) (found : Option Object) → target_of command.action ≡ OfObject m → slice_get w.objects m ≡ found → ActsOn k settings m command (call_of command.action) made found (state_of w) reply s' → Stays
    on-acted m None names there a =
        let apart : n ≢ m = λ same. absurd (let is = is-it m None there same in cc) in
        same-objects (not-named m names apart) (ap (λ (s : State Span). s.objects) a.2)
    on-acted m (Some (AHandle g)) names there a =
        acted m (call_of command.action) g there (λ same. named-left n command.action h.tasks (names ∙ ap OfObject (sym same))) (λ apart. not-named m names apart) a
    on-acted m (Some (ASnapshot x)) names there a =
        let apart : n ≢ m = λ same. absurd (let is : ◌≡◌ {A = Option Object} (Some (ASnapshot x)) (Some (AHandle h)) = is-it m (Some (ASnapshot x)) there same in cc) in
        snapshot-acted m x (call_of command.action) (slice_get w.objects x.handle) names apart refl a
    on-acted m (Some (AFollower g)) names there a =
        let apart : n ≢ m = λ same. absurd (let is : ◌≡◌ {A = Option Object} (Some (AFollower g)) (Some (AHandle h)) = is-it m (Some (AFollower g)) there same in cc) in
        let d = follower-did k settings m command (call_of command.action) made (state_of w) reply s' (Some (AFollower g)) g refl a in
        other-object (not-named m names apart) m (AFollower d.new) apart d.objects

    sampled : (m : ℕ) (found : Option Object) → (target_of command.action ≡ OfObject n → ⊥) → OpensSnapshot m made found (state_of w) reply s' → Stays
    sampled m (Some (AHandle g)) other d = more-objects other _ (d.0).objects
    sampled m (Some (ASnapshot x)) other d = same-objects other (ap (λ (s : State Span). s.objects) d.2)
    sampled m (Some (AFollower g)) other d = same-objects other (ap (λ (s : State Span). s.objects) d.2)
    sampled m None other d = same-objects other (ap (λ (s : State Span). s.objects) d.2)

    not-it : (target : Target) → target_of command.action ≡ target → (target ≡ OfObject n → ⊥) → target_of command.action ≡ OfObject n → ⊥
    not-it target names never is = never (sym names ∙ is)

    by-target : (target : Target) → target_of command.action ≡ target → DoesBy k settings command target made (state_of w) reply s' → Stays
    by-target (NewHandle keeps_log) names d = more-objects (not-it (NewHandle keeps_log) names (λ is. absurd (cc))) _ d.objects
    by-target (NewSnapshot m) names d = sampled m (slice_get w.objects m) (not-it (NewSnapshot m) names (λ is. absurd (cc))) d
    by-target (NewFollower modes.FollowLatest managed skips lag) names d = more-objects (not-it (NewFollower modes.FollowLatest managed skips lag) names (λ is. absurd (cc))) _ (d.0).objects
    by-target (NewFollower (modes.Checkpoint id) managed skips lag) names d = more-objects (not-it (NewFollower (modes.Checkpoint id) managed skips lag) names (λ is. absurd (cc))) _ (d.0).objects
    by-target (NewFollower modes.ManagedCheckpoint managed skips lag) names d = more-objects (not-it (NewFollower modes.ManagedCheckpoint managed skips lag) names (λ is. absurd (cc))) _ d.objects
    by-target (NewCheckpoint lifetime) names d = same-objects (not-it (NewCheckpoint lifetime) names (λ is. absurd (cc))) d.objects
    by-target WholeStore names d = same-objects (not-it WholeStore names (λ is. absurd (cc))) d.objects
    by-target (OfWrite m) names d = same-objects (not-it (OfWrite m) names (λ is. absurd (cc))) (ap (λ (s : State Span). s.objects) d.2)
    by-target (OfObject m) names d = on-acted m (slice_get w.objects m) names refl d

    pub handle-after : DoesBy k settings command (target_of command.action) made (state_of w) reply s' → Stays
    handle-after d = by-target (target_of command.action) refl d

  -- ---- a reader of a world
  module _ (f : Follower) (at : IsFollowerAt w.objects n f) (tasked : IsTasked f) (leased : IsLeased f) where
    abbrev Remains : Type 0
    Remains = (f' : Follower) × IsFollowerAt s'.objects n f' × HasTasks (left_by n command.action f.tasks) f'

    calm : (target_of command.action ≡ OfObject n → ⊥) → IsFollowerAt s'.objects n f → Remains
    calm other at' = (f, at', (ap (λ b. cond b [] f.tasks) (sym (unclosed n command.action other)), tasked))

    no-objects : (target_of command.action ≡ OfObject n → ⊥) → s'.objects ≡ w.objects → Remains
    no-objects other same = calm other (subst (λ os. IsFollowerAt os n f) (sym same) at)

    new-objects : (target_of command.action ≡ OfObject n → ⊥) → (os : List Object) → s'.objects ≡ w.objects ++ os → Remains
    new-objects other os is = calm other (subst (λ xs. IsFollowerAt xs n f) (sym is) (get-before w.objects os n (AFollower f) at))

    set-object : (target_of command.action ≡ OfObject n → ⊥) → (m : ℕ) (x : Object) → n ≢ m → s'.objects ≡ set w.objects m x → Remains
    set-object other m x apart is = calm other (subst (λ xs. IsFollowerAt xs n f) (sym is) (get-set_other w.objects m n x apart ∙ at))

    it-is : (m : ℕ) (found : Option Object) → slice_get w.objects m ≡ found → n ≡ m → found ≡ Some (AFollower f)
    it-is m found there same = sym there ∙ subst (λ i. slice_get w.objects i ≡ Some (AFollower f)) same at

    unnamed : (m : ℕ) → target_of command.action ≡ OfObject m → n ≢ m → target_of command.action ≡ OfObject n → ⊥
    unnamed m names apart it = absurd (apart (let both : OfObject n ≡ OfObject m = sym it ∙ names in cc))

    handle-acts : (m : ℕ) (call : Call) (g : Handle) → slice_get w.objects m ≡ Some (AHandle g) → (target_of command.action ≡ OfObject n → ⊥) → ActsAt k settings m command call made (AHandle g) (state_of w) reply s' → Remains
    handle-acts m call g there other a =
        let apart : n ≢ m = λ same. absurd (let is : ◌≡◌ {A = Option Object} (Some (AHandle g)) (Some (AFollower f)) = it-is m (Some (AHandle g)) there same in cc) in
        let d = handle-acted k settings m command call made (state_of w) reply s' g a in
        set-object other m (AHandle d.new) apart d.objects

    snapshot-acts : (x : HandleSnapshot) (call : Call) (found : Option Object) → (target_of command.action ≡ OfObject n → ⊥) → slice_get w.objects x.handle ≡ found → ReadsSnapshot k settings x command call made found (state_of w) reply s' → Remains
    snapshot-acts x call (Some (AHandle g)) other there a = handle-acts x.handle (at_snapshot x.number call) g there other a
    snapshot-acts x call (Some (ASnapshot y)) other there a = no-objects other (ap (λ (s : State Span). s.objects) a.2)
    snapshot-acts x call (Some (AFollower g)) other there a = no-objects other (ap (λ (s : State Span). s.objects) a.2)
    snapshot-acts x call None other there a = no-objects other (ap (λ (s : State Span). s.objects) a.2)

    acts-on : (m : ℕ) (found : Option Object) → target_of command.action ≡ OfObject m → slice_get w.objects m ≡ found → ActsOn k settings m command (call_of command.action) made found (state_of w) reply s' → Remains
    acts-on m None names there a =
        let apart : n ≢ m = λ same. absurd (let is = it-is m None there same in cc) in
        no-objects (unnamed m names apart) (ap (λ (s : State Span). s.objects) a.2)
    acts-on m (Some (AHandle g)) names there a =
        let apart : n ≢ m = λ same. absurd (let is : ◌≡◌ {A = Option Object} (Some (AHandle g)) (Some (AFollower f)) = it-is m (Some (AHandle g)) there same in cc) in
        handle-acts m (call_of command.action) g there (unnamed m names apart) a
    acts-on m (Some (ASnapshot x)) names there a =
        let apart : n ≢ m = λ same. absurd (let is : ◌≡◌ {A = Option Object} (Some (ASnapshot x)) (Some (AFollower f)) = it-is m (Some (ASnapshot x)) there same in cc) in
        snapshot-acts x (call_of command.action) (slice_get w.objects x.handle) (unnamed m names apart) refl a
    acts-on m (Some (AFollower g)) names there a =
        let d = follower-did k settings m command (call_of command.action) made (state_of w) reply s' (Some (AFollower g)) g refl a in
        elim (cases_eq n m) [
          | inl same ↦
              (let is : ◌≡◌ {A = Option Object} (Some (AFollower g)) (Some (AFollower f)) = it-is m (Some (AFollower g)) there same in
              let mine : g ≡ f = cc in
              let acts = subst (λ (x : Follower). FollowerActs k settings command.moment (call_of command.action) made x (state_of w).store w.writes reply d.new s'.store s'.writes) mine d.acts in
              let tasks = follower-acts w.stored w.catalogue settings command.moment (call_of command.action) made f (state_of w).store w.writes reply d.new s'.store s'.writes refl tasked leased acts in (
                d.new,
                subst (λ i. IsFollowerAt s'.objects i d.new) (sym same) (subst (λ xs. IsFollowerAt xs m d.new) (sym d.objects) (get-set_same w.objects m (AFollower d.new) (AFollower g) there)),
                (tasks.0 ∙ named-left n command.action f.tasks (names ∙ ap OfObject (sym same)), tasks.1),
              ))
          | inr apart ↦ set-object (unnamed m names apart) m (AFollower d.new) apart d.objects
        ]

    samples : (m : ℕ) (found : Option Object) → (target_of command.action ≡ OfObject n → ⊥) → OpensSnapshot m made found (state_of w) reply s' → Remains
    samples m (Some (AHandle g)) other d = new-objects other _ (d.0).objects
    samples m (Some (ASnapshot x)) other d = no-objects other (ap (λ (s : State Span). s.objects) d.2)
    samples m (Some (AFollower g)) other d = no-objects other (ap (λ (s : State Span). s.objects) d.2)
    samples m None other d = no-objects other (ap (λ (s : State Span). s.objects) d.2)

    isnt-it : (target : Target) → target_of command.action ≡ target → (target ≡ OfObject n → ⊥) → target_of command.action ≡ OfObject n → ⊥
    isnt-it target names never is = never (sym names ∙ is)

    on-target : (target : Target) → target_of command.action ≡ target → DoesBy k settings command target made (state_of w) reply s' → Remains
    on-target (NewHandle keeps_log) names d = new-objects (isnt-it (NewHandle keeps_log) names (λ is. absurd (cc))) _ d.objects
    on-target (NewSnapshot m) names d = samples m (slice_get w.objects m) (isnt-it (NewSnapshot m) names (λ is. absurd (cc))) d
    on-target (NewFollower modes.FollowLatest managed skips lag) names d = new-objects (isnt-it (NewFollower modes.FollowLatest managed skips lag) names (λ is. absurd (cc))) _ (d.0).objects
    on-target (NewFollower (modes.Checkpoint id) managed skips lag) names d = new-objects (isnt-it (NewFollower (modes.Checkpoint id) managed skips lag) names (λ is. absurd (cc))) _ (d.0).objects
    on-target (NewFollower modes.ManagedCheckpoint managed skips lag) names d = new-objects (isnt-it (NewFollower modes.ManagedCheckpoint managed skips lag) names (λ is. absurd (cc))) _ d.objects
    on-target (NewCheckpoint lifetime) names d = no-objects (isnt-it (NewCheckpoint lifetime) names (λ is. absurd (cc))) d.objects
    on-target WholeStore names d = no-objects (isnt-it WholeStore names (λ is. absurd (cc))) d.objects
    on-target (OfWrite m) names d = no-objects (isnt-it (OfWrite m) names (λ is. absurd (cc))) (ap (λ (s : State Span). s.objects) d.2)
    on-target (OfObject m) names d = acts-on m (slice_get w.objects m) names refl d

    pub follower-after : DoesBy k settings command (target_of command.action) made (state_of w) reply s' → Remains
    follower-after d = on-target (target_of command.action) refl d

-- ---- what a close lists
closed-lists : (fault : Option SlateError) (tasks : List TaskName) (f : Option SlateError) (ts : List TaskName) → closed_reply fault tasks ≡ replies.Ended f ts → tasks ≡ ts
closed-lists None tasks f ts is = cc
closed-lists (Some errors.Closed) tasks f ts is = absurd (cc)
closed-lists (Some e) tasks f ts is = cc

again-lists : (fault : Option SlateError) (tasks : List TaskName) (f : Option SlateError) (ts : List TaskName) → follower_closed_reply fault tasks ≡ replies.Ended f ts → tasks ≡ ts
again-lists None tasks f ts is = cc
again-lists (Some e) tasks f ts is = absurd (cc)

ended-lists : (r : CloseResult) (answer : Ended) (f : Option SlateError) (ts : List TaskName) → follower_ended_reply r answer ≡ replies.Ended f ts → answer.tasks ≡ ts
ended-lists None answer f ts is = cc
ended-lists (Some q) answer f ts is = again-lists answer.fault answer.tasks f ts is

module _ (settings : Settings) (w w' : World) (command : Command) (reply : Reply) (next : NextWhole settings w command reply w') (n : ℕ) (fault : Option SlateError) (tasks : List TaskName) (is : reply ≡ replies.Ended fault tasks) where
  abbrev known : Knowledge Span
  known = by_catalogue w.stored w.catalogue

  -- a close names the object with its number
  asked : (action : Action) → command.action ≡ action → closes n action ≡ true → (flush_type : Option FlushType) × ActsOn known settings n command (Close flush_type) next.made (slice_get w.objects n) (state_of w) reply (state_of w')
  asked (actions.Close m options) names closing =
      let does = subst (λ t. DoesBy known settings command t next.made (state_of w) reply (state_of w')) (ap target_of names) next.does in
      let acts = subst (λ c. ActsOn known settings m command c next.made (slice_get w.objects m) (state_of w) reply (state_of w')) (ap call_of names) does in
      (flush_of_close options, subst (λ i. ActsOn known settings i command (Close (flush_of_close options)) next.made (slice_get w.objects i) (state_of w) reply (state_of w')) (eqb-true m n closing) acts)
  asked action names closing = absurd (cc)

  pub handle-lists : (h : Handle) → IsHandleAt w.objects n h → closes n command.action ≡ true → tasks ≡ h.tasks
  handle-lists h at closing =
      let a = asked command.action refl closing in
      let d = handle-did known settings n command (Close a.0) next.made (state_of w) reply (state_of w') (slice_get w.objects n) h at a.1 in
      let c = d.acts.0 in
      let listed : (c.ended).tasks ≡ h.tasks =
      close-by known next.made h (state_of w).store d.new (state_of w').store ((c.ended).tasks ≡ h.tasks) a.0 c.ended c.does
      (λ q was answer same store. ap (λ (e : Ended). e.tasks) answer)
      (λ live none answer same store. ap (λ (e : Ended). e.tasks) answer)
      (λ t live some without answer same store. ap (λ (e : Ended). e.tasks) answer)
      (λ t can some answer flushed stores. ap (λ (e : Ended). e.tasks) answer) in
      sym (closed-lists (c.ended).fault (c.ended).tasks fault tasks (sym c.replied ∙ is)) ∙ listed

  closed-tasks : (managed : Bool) (f f' : Follower) (made : ℕ) (before after : Known Span) (answer : Ended) → ClosesAs known managed made f before answer f' after → answer.tasks ≡ f.tasks
  closed-tasks true f f' made before after answer c = ap (λ (e : Ended). e.tasks) c.tasks
  closed-tasks false f f' made before after answer c = ap (λ (e : Ended). e.tasks) c.0

  pub follower-lists : (f : Follower) → IsFollowerAt w.objects n f → closes n command.action ≡ true → tasks ≡ f.tasks
  follower-lists f at closing =
      let a = asked command.action refl closing in
      let d = follower-did known settings n command (Close a.0) next.made (state_of w) reply (state_of w') (slice_get w.objects n) f at a.1 in
      let c = d.acts.0 in
      sym (ended-lists f.result c.answer fault tasks (sym c.replied ∙ is)) ∙ closed-tasks (is_managed f.mode) f d.new _ _ _ c.answer c.does
