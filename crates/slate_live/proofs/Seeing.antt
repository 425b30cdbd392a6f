-- What is stored is seen by each opening and each poll.
use Rattle.slate_errors.specs.declared.endings.TaskName.{TaskName}
use Rattle.slate_model.specs.Segments.{Extractor}
use Rattle.std.proofs.Common.{◌≡◌, ℕ, ℤ, ◌≤◌, Bool, true, false, not, ◌&&◌, set, ◌++◌, ◌∙◌, inl, inr, length, Option, Some, None, Result, Ok, Err, refl, sym, subst, arith, ap, List}
use Rattle.std.specs.List.{slice_get}
use Rattle.std.proofs.lemmas.Option.{slice_get_within}
use Rattle.slate_types.specs.declared.batches.Batch.{Batch}
use Rattle.slate_types.specs.Line.{Line, end}
use Rattle.slate_errors.specs.declared.errors.SlateError.{SlateError}
use Rattle.slate_errors.specs.declared.errors.SlateError.TheVariants as errors
use Rattle.slate_errors.specs.Errors.{closed_error}
use Rattle.slate_model.specs.declared.answers.PollAnswer.{PollAnswer}
use Rattle.slate_model.specs.Follow.{unseen, Polls, Rebuilds, SeesOwed, SeesPolled, built}
use Rattle.slate_model.specs.Follower.{Follower, is_managed, is_pinned, number}
use Rattle.slate_store.specs.declared.reader_modes.DbReaderMode.{DbReaderMode}
use Rattle.slate_store.specs.declared.reader_modes.DbReaderMode.TheVariants as modes
use Rattle.slate_model.specs.declared.leases.Lease.{Lease}
use Rattle.slate_model.specs.Lease.{lease_refusal}
use Rattle.slate_model.specs.Managed.{KeepsLease, OpensManaged, PollsManaged, PollsTwice, TakesLease, follower_under}
use Rattle.slate_model.proofs.Reduced.{modelled}
use Rattle.slate_model.specs.Catalogue.{Span}
use Rattle.slate_model.specs.Known.{Known, Untouched}
use Rattle.std.specs.Option.{unwrap_or}
use Rattle.slate_model.specs.Handle.{Handle}
use Rattle.slate_model.specs.declared.snapshots.HandleSnapshot.{HandleSnapshot}
use Rattle.slate_model.specs.Object.{Object, Handle as AHandle, Snapshot as ASnapshot, Follower as AFollower}
use Rattle.slate_model.specs.Open.{OpensHandle}
use Rattle.slate_model.specs.Stores.{by_catalogue}
use Rattle.slate_script.specs.declared.commands.Action.{Action}
use Rattle.slate_script.specs.declared.commands.Action.TheVariants as actions
use Rattle.slate_script.specs.declared.commands.Command.{Command}
use Rattle.slate_script.specs.declared.replies.Reply.{Reply}
use Rattle.slate_script.specs.declared.replies.Reply.TheVariants as replies
use Rattle.slate_live.specs.Calls.{Poll, at_snapshot, call_of, target_of}
use Rattle.slate_live.specs.Commands.{ActsOn, DoesBy, OpensFollowerIn, ReadsSnapshot, added, interval_of, lag_of, lifetime_of}
use Rattle.slate_live.specs.Followers.{PollsAs}
use Rattle.slate_live.proofs.Rising.{managed-mode}
use Rattle.slate_live.specs.Confirmed.{Sees, StandsIn}
use Rattle.slate_live.specs.Represents.{IsFollowerAt, IsLeased, IsValid, follows_all}
use Rattle.slate_live.proofs.Following.{owed-all, polled-answer, polled-near}
use Rattle.slate_live.specs.Replies.{followed_reply, polled_reply, refusal, reply_to}
use Rattle.slate_live.specs.Settings.{Settings, option_tasks}
use Rattle.slate_live.specs.World.{NextWhole, World, state_of}
use Rattle.slate_live.proofs.Cases.{by-option, some-of}
use Rattle.slate_live.proofs.Naming.{follower-did, handle-acted}
use Rattle.slate_live.proofs.Places.{get-seam, get-set_same}

-- the number of what stands in a line is at most that of its end
pub stands-end : (batch : Batch) (line : Line) → StandsIn batch line → batch.number ≤ end line
stands-end batch line s =
    let within = slice_get_within line.batches s.0 batch s.1 in
    let number = s.2 in
    omega (arith, within, number)

sees-by : (batch : Batch) (action : Action) {reply reply' : Reply} (w : World) → reply ≡ reply' → Sees batch action reply' w → Sees batch action reply w
sees-by batch action w is sees = subst (λ r. Sees batch action r w) (sym is) sees

sees-no-memory : (batch : Batch) (action : Action) (w : World) → Sees batch action replies.NoMemory w
sees-no-memory batch (actions.Open wal) w = tt
sees-no-memory batch (actions.Follow mode managed skip lag) w = tt
sees-no-memory batch (actions.Poll n) w = tt
sees-no-memory batch action w = tt

sees-error : (batch : Batch) (action : Action) (e : SlateError) (w : World) → Sees batch action (replies.Refused e) w
sees-error batch (actions.Open wal) e w = tt
sees-error batch (actions.Follow mode managed skip lag) e w = tt
sees-error batch (actions.Poll n) e w = tt
sees-error batch action e w = tt

sees-held-up : (batch : Batch) (action : Action) (unflushed limit : ℕ) (w : World) → Sees batch action (replies.Backpressure unflushed limit) w
sees-held-up batch (actions.Open wal) unflushed limit w = tt
sees-held-up batch (actions.Follow mode managed skip lag) unflushed limit w = tt
sees-held-up batch (actions.Poll n) unflushed limit w = tt
sees-held-up batch action unflushed limit w = tt

sees-refusal : (batch : Batch) (action : Action) (e : SlateError) (w : World) → Sees batch action (refusal e) w
sees-refusal batch action errors.NoMemory w = sees-no-memory batch action w
sees-refusal batch action (errors.Backpressure unflushed limit) w = sees-held-up batch action unflushed limit w
sees-refusal batch action e w = sees-error batch action e w

-- the handle of an opening has it in its line
open-sees : (extractor : Option Extractor) (batch : Batch) (w w' : World) (wal : Bool) (made limit : ℕ) (tasks : List TaskName) (r : Result Handle SlateError) → OpensHandle (by_catalogue w.stored w.catalogue) extractor made wal limit tasks (state_of w).store r (state_of w').store → w'.objects ≡ w.objects ++ added AHandle r → StandsIn batch w.stored → Sees batch (actions.Open wal) (reply_to (λ _. replies.Handle (length w.objects)) r) w'
open-sees extractor batch w w' wal made limit tasks (Ok h) opens is stands =
    let sees = opens.handle w.catalogue w.stored refl refl in (
      h,
      subst (λ os. slice_get os (length w.objects) ≡ Some (AHandle h)) (sym is) (get-seam w.objects (AHandle h)),
      subst (λ (x : Handle). StandsIn batch x.line) (sym sees) stands,
    )
open-sees extractor batch w w' wal made limit tasks (Err e) opens is stands = sees-refusal batch (actions.Open wal) e w'

-- a follower that is opened, or polled while it doesn't stay at a checkpoint, answers the end of what it is owed; where it
-- follows all that is stored, that is a number at or above its own, or, after a poll, above that less the number by which it may lag
follow-sees : (ext : Option Extractor) (batch : Batch) (w w' : World) (n : ℕ) (mode : DbReaderMode) (managed : Option (ℕ × ℕ)) (skips : Bool) (lag : Option ℕ) (r : Result (Follower × PollAnswer) SlateError) → Rebuilds (by_catalogue w.stored w.catalogue) ext mode skips true (lag_of lag) (SeesOwed (by_catalogue w.stored w.catalogue) mode skips (lag_of lag)) unseen (state_of w).store r (state_of w').store → StandsIn batch w.stored →
    Sees batch (actions.Follow mode managed skips lag) (reply_to (λ (b : Follower × PollAnswer). followed_reply n b.1) r) w'
follow-sees ext batch w w' n mode managed skips lag (Ok b) built stands =
    let all = built.sees w.catalogue w.stored refl refl tt in
    let low = stands-end batch w.stored stands in
    subst (λ a. Sees batch (actions.Follow mode managed skips lag) (followed_reply n a) w') (sym all.3)
    (λ whole. let same = owed-all w.catalogue w.catalogue mode skips (b.0).view w.stored all.0 whole all.1 in subst (λ l. batch.number ≤ end l) (sym same) low)
follow-sees ext batch w w' n mode managed skips lag (Err e) built stands = sees-refusal batch (actions.Follow mode managed skips lag) e w'

-- so does one that keeps a checkpoint
taken-sees : (ext : Option Extractor) (batch : Batch) (w w' : World) (n made lifetime : ℕ) (managed : Option (ℕ × ℕ)) (skips : Bool) (lag : Option ℕ) (moment : ℤ) (r : Result (Follower × PollAnswer) SlateError) → TakesLease (by_catalogue w.stored w.catalogue) ext made lifetime skips (lag_of lag) moment (state_of w).store r (state_of w').store → StandsIn batch w.stored →
    Sees batch (actions.Follow modes.ManagedCheckpoint managed skips lag) (reply_to (λ (b : Follower × PollAnswer). followed_reply n b.1) r) w'
taken-sees ext batch w w' n made lifetime managed skips lag moment (Ok b) taken stands =
    let all = ((modelled w.catalogue w'.catalogue taken.takes).sees).sees w.stored refl tt in
    let low = stands-end batch w.stored stands in
    subst (λ a. Sees batch (actions.Follow modes.ManagedCheckpoint managed skips lag) (followed_reply n a) w') (sym all.3)
    (λ whole. let same = owed-all w.catalogue w'.catalogue modes.ManagedCheckpoint skips (b.0).view w.stored all.0 whole all.1 in subst (λ l. batch.number ≤ end l) (sym same) low)
taken-sees ext batch w w' n made lifetime managed skips lag moment (Err e) taken stands = sees-refusal batch (actions.Follow modes.ManagedCheckpoint managed skips lag) e w'

take-sees : (ext : Option Extractor) (batch : Batch) (w w' : World) (n made lifetime interval : ℕ) (managed : Option (ℕ × ℕ)) (skips : Bool) (lag : Option ℕ) (moment : ℤ) (r : Result (Follower × PollAnswer) SlateError) → OpensManaged (by_catalogue w.stored w.catalogue) ext made lifetime interval skips (lag_of lag) moment (state_of w).store r (state_of w').store → StandsIn batch w.stored →
    Sees batch (actions.Follow modes.ManagedCheckpoint managed skips lag) (reply_to (λ (b : Follower × PollAnswer). followed_reply n b.1) r) w'
take-sees ext batch w w' n made lifetime interval managed skips lag moment r d stands =
    by-option (lease_refusal lifetime interval)
    (λ none. taken-sees ext batch w w' n made lifetime managed skips lag moment r (d.takes none) stands)
    (λ error is.
    let c = some-of (λ error. (r ≡ Err error) × Untouched made (state_of w).store (state_of w').store) (lease_refusal lifetime interval) error is d.refused in
    subst (λ x. Sees batch (actions.Follow modes.ManagedCheckpoint managed skips lag) (reply_to (λ (b : Follower × PollAnswer). followed_reply n b.1) x) w') (sym c.0) (sees-refusal batch (actions.Follow modes.ManagedCheckpoint managed skips lag) error w'))

-- the follower that a poll left stands where it was
polled-at : (w w' : World) (n : ℕ) (f f' : Follower) → IsFollowerAt w.objects n f → w'.objects ≡ set w.objects n (AFollower f') → (g : Follower) → IsFollowerAt w'.objects n g → f' ≡ g
polled-at w w' n f f' at is g there =
    let here : slice_get (set w.objects n (AFollower f')) n ≡ Some (AFollower f') = get-set_same w.objects n (AFollower f') (AFollower f) at in
    let now : slice_get (set w.objects n (AFollower f')) n ≡ Some (AFollower g) = subst (λ os. slice_get os n ≡ Some (AFollower g)) is there in
    cc

-- it follows all that is stored where it did
as-before : (f f' g : Follower) → f' ≡ g → f'.mode ≡ f.mode → f'.skips ≡ f.skips → follows_all g.mode g.skips ≡ true → follows_all f.mode f.skips ≡ true
as-before f f' g same mode skips whole = sym (ap (λ m. follows_all m f'.skips) mode ∙ ap (follows_all f.mode) skips) ∙ (ap (λ (x : Follower). follows_all x.mode x.skips) same ∙ whole)

module _ (ext : Option Extractor) (n : ℕ) (batch : Batch) (w w' : World) (f f' : Follower) (at : IsFollowerAt w.objects n f) (is : w'.objects ≡ set w.objects n (AFollower f')) (stands : StandsIn batch w.stored) where
  polled-sees : (r : Result PollAnswer SlateError) → is_pinned f.mode ≡ false → Rebuilds (by_catalogue w.stored w.catalogue) ext f.mode f.skips false f.lag (SeesPolled (by_catalogue w.stored w.catalogue) f) (λ objects line. Unit {0}) (state_of w).store (built f' r) (state_of w').store → Sees batch (actions.Poll n) (reply_to polled_reply r) w'
  polled-sees (Ok answer) free b =
      let all = b.sees w.catalogue w.stored refl refl tt in
      let low = stands-end batch w.stored stands in
      subst (λ a. Sees batch (actions.Poll n) (polled_reply a) w') (sym (polled-answer w.stored w.catalogue w.catalogue f f' answer all))
      (λ g there whole.
      let same = polled-at w w' n f f' at is g there in
      let follows = as-before f f' g same b.answer.0 b.answer.1 whole in
      let near = polled-near w.stored w.catalogue w.catalogue f f' answer follows all in
      let lag : g.lag ≡ f.lag = ap (λ (x : Follower). x.lag) (sym same) ∙ b.answer.2 in
      omega (arith, low, near, lag))
  polled-sees (Err e) free b = sees-refusal batch (actions.Poll n) e w'

  -- one that stays at a checkpoint doesn't follow all that is stored
  stayed-sees : (number : ℕ) → f' ≡ f → is_pinned f.mode ≡ true → Sees batch (actions.Poll n) (replies.Polled true number) w'
  stayed-sees number unchanged stays g there whole =
      let same = polled-at w w' n f f' at is g there in
      let mode : is_pinned g.mode ≡ true = ap (λ (x : Follower). is_pinned x.mode) (sym same ∙ unchanged) ∙ stays in
      absurd (not-all (is_pinned g.mode) g.skips mode whole) where
        not-all : (p skips : Bool) → p ≡ true → (not p && not skips) ≡ true → ⊥
        not-all true skips is whole = cc
        not-all false skips is whole = cc

  poll-sees : (r : Result PollAnswer SlateError) → Polls (by_catalogue w.stored w.catalogue) ext f (state_of w).store r f' (state_of w').store → Sees batch (actions.Poll n) (reply_to polled_reply r) w'
  poll-sees r p =
      by-option f.result
      (λ live. by live (is_pinned f.mode) refl)
      (λ q closed_is.
      let c = some-of (λ q. (r ≡ Err (closed_error q)) × _) f.result q closed_is p.closed in
      subst (λ x. Sees batch (actions.Poll n) (reply_to polled_reply x) w') (sym c.0) (sees-refusal batch (actions.Poll n) (closed_error q) w')) where
        by : f.result ≡ None → (pinned : Bool) → is_pinned f.mode ≡ pinned → Sees batch (actions.Poll n) (reply_to polled_reply r) w'
        by live true stays =
            let q = p.pinned live stays in
            subst (λ x. Sees batch (actions.Poll n) (reply_to polled_reply x) w') (sym q.0) (stayed-sees (number f) q.1 stays)
        by live false free = polled-sees r free (p.rebuilds live free)

  -- and one that keeps a checkpoint
  keep-sees : (made : ℕ) (lease : Lease) (moment : ℤ) (r : Result PollAnswer SlateError) (after : Known Span) → f.mode ≡ modes.ManagedCheckpoint → KeepsLease (by_catalogue w.stored w.catalogue) ext made lease moment f (state_of w).store r f' after → Sees batch (actions.Poll n) (reply_to polled_reply r) w'
  keep-sees made lease moment (Ok answer) after managed p =
      let t = (p.keeps).some w.catalogue refl in
      let keeps = t.2 in
      let all = (keeps.sees).sees w.stored refl tt in
      let low = stands-end batch w.stored stands in
      let seen = follower_under (unwrap_or keeps.next keeps.latest) f' in
      subst (λ a. Sees batch (actions.Poll n) (polled_reply a) w') (sym (polled-answer w.stored w.catalogue t.0 f seen answer all))
      (λ g there whole.
      let same = polled-at w w' n f f' at is g there in
      let follows = as-before f f' g same (p.answers.0 ∙ sym managed) p.answers.1 whole in
      let near = polled-near w.stored w.catalogue t.0 f seen answer follows all in
      let lag : g.lag ≡ f.lag = ap (λ (x : Follower). x.lag) (sym same) ∙ p.answers.2 in
      omega (arith, low, near, lag))
  keep-sees made lease moment (Err e) after managed p = sees-refusal batch (actions.Poll n) e w'

  -- where a renewal follows the round
  twice-sees : (made : ℕ) (lease : Lease) (moment : ℤ) (r : Result PollAnswer SlateError) (after : Known Span) → f.mode ≡ modes.ManagedCheckpoint → PollsTwice (by_catalogue w.stored w.catalogue) ext made lease moment f (state_of w).store r f' after → Sees batch (actions.Poll n) (reply_to polled_reply r) w'
  twice-sees made lease moment (Ok answer) after managed p =
      let round = subst (λ (g : Follower). KeepsLease (by_catalogue w.stored w.catalogue) ext p.first lease moment f (state_of w).store (Ok p.answer) g p.between) (sym (p.answers).1) p.round in
      subst (λ a. Sees batch (actions.Poll n) (polled_reply a) w') (sym (p.answers).0) (keep-sees p.first lease moment (Ok p.answer) p.between managed round)
  twice-sees made lease moment (Err e) after managed p = sees-refusal batch (actions.Poll n) e w'

  managed-sees : (made : ℕ) (moment : ℤ) (r : Result PollAnswer SlateError) → is_managed f.mode ≡ true → IsLeased f → PollsManaged (by_catalogue w.stored w.catalogue) ext made moment f (state_of w).store r f' (state_of w').store → Sees batch (actions.Poll n) (reply_to polled_reply r) w'
  managed-sees made moment r managed leased p =
      by-option f.result
      (λ live. by-option f.lease
      (λ none. absurd (let there = leased managed live in cc))
      (λ lease leased_is. elim (p.keeps lease live leased_is) [
        | inl once ↦ keep-sees made lease moment r (state_of w').store (managed-mode f.mode managed) once.round
        | inr twice ↦ twice-sees made lease moment r (state_of w').store (managed-mode f.mode managed) twice
      ]))
      (λ q closed_is.
      let c = some-of (λ q. (r ≡ Err (closed_error q)) × (f' ≡ f) × Untouched made (state_of w).store (state_of w').store) f.result q closed_is p.closed in
      subst (λ x. Sees batch (actions.Poll n) (reply_to polled_reply x) w') (sym c.0) (sees-refusal batch (actions.Poll n) (closed_error q) w'))

  polls-see : (made : ℕ) (moment : ℤ) (r : Result PollAnswer SlateError) (managed : Bool) → is_managed f.mode ≡ managed → IsLeased f → PollsAs (by_catalogue w.stored w.catalogue) ext managed made moment f (state_of w).store r f' (state_of w').store → Sees batch (actions.Poll n) (reply_to polled_reply r) w'
  polls-see made moment r true managed leased p = managed-sees made moment r managed leased p
  polls-see made moment r false managed leased p = poll-sees r p.0

snapshot-sees : (settings : Settings) (batch : Batch) (w w' : World) (command : Command) (made n : ℕ) (reply : Reply) (x : HandleSnapshot) (found : Option Object) → ReadsSnapshot (by_catalogue w.stored w.catalogue) settings x command Poll made found (state_of w) reply (state_of w') → Sees batch (actions.Poll n) reply w'
snapshot-sees settings batch w w' command made n reply x (Some (AHandle h)) d =
    let a = handle-acted (by_catalogue w.stored w.catalogue) settings x.handle command (at_snapshot x.number Poll) made (state_of w) reply (state_of w') h d in
    sees-by batch (actions.Poll n) w' (a.acts).0 tt
snapshot-sees settings batch w w' command made n reply x (Some (ASnapshot y)) d = sees-by batch (actions.Poll n) w' d.1 tt
snapshot-sees settings batch w w' command made n reply x (Some (AFollower f)) d = sees-by batch (actions.Poll n) w' d.1 tt
snapshot-sees settings batch w w' command made n reply x None d = sees-by batch (actions.Poll n) w' d.1 tt

sees-on : (settings : Settings) (batch : Batch) (w w' : World) (valid : IsValid w) (command : Command) (made n : ℕ) (reply : Reply) (found : Option Object) → StandsIn batch w.stored → slice_get w.objects n ≡ found → ActsOn (by_catalogue w.stored w.catalogue) settings n command Poll made found (state_of w) reply (state_of w') → Sees batch (actions.Poll n) reply w'
sees-on settings batch w w' valid command made n reply None stands at d = sees-by batch (actions.Poll n) w' d.1 tt
sees-on settings batch w w' valid command made n reply (Some (AHandle h)) stands at d =
    let a = handle-acted (by_catalogue w.stored w.catalogue) settings n command Poll made (state_of w) reply (state_of w') h d in
    sees-by batch (actions.Poll n) w' (a.acts).0 tt
sees-on settings batch w w' valid command made n reply (Some (ASnapshot x)) stands at d = snapshot-sees settings batch w w' command made n reply x (slice_get w.objects x.handle) d
sees-on settings batch w w' valid command made n reply (Some (AFollower f)) stands at d =
    let a = follower-did (by_catalogue w.stored w.catalogue) settings n command Poll made (state_of w) reply (state_of w') (Some (AFollower f)) f refl d in
    sees-by batch (actions.Poll n) w' (a.acts).0.replied (polls-see settings.extractor n batch w w' f a.new at a.objects stands made command.moment (a.acts).0.result (is_managed f.mode) refl (valid.followers n f at).2 (a.acts).0.does)

follows-see : (settings : Settings) (batch : Batch) (w w' : World) (command : Command) (made : ℕ) (mode : DbReaderMode) (managed : Option (ℕ × ℕ)) (skips : Bool) (lag : Option ℕ) (reply : Reply) → StandsIn batch w.stored → OpensFollowerIn (by_catalogue w.stored w.catalogue) settings mode managed skips (lag_of lag) command.moment made (state_of w) reply (state_of w') → Sees batch (actions.Follow mode managed skips lag) reply w'
follows-see settings batch w w' command made modes.FollowLatest managed skips lag reply stands d =
    sees-by batch (actions.Follow modes.FollowLatest managed skips lag) w' (d.0).replied (follow-sees settings.extractor batch w w' (length w.objects) modes.FollowLatest managed skips lag (d.0).result (d.0).does stands)
follows-see settings batch w w' command made (modes.Checkpoint id) managed skips lag reply stands d =
    sees-by batch (actions.Follow (modes.Checkpoint id) managed skips lag) w' (d.0).replied (follow-sees settings.extractor batch w w' (length w.objects) (modes.Checkpoint id) managed skips lag (d.0).result (d.0).does stands)
follows-see settings batch w w' command made modes.ManagedCheckpoint managed skips lag reply stands d =
    sees-by batch (actions.Follow modes.ManagedCheckpoint managed skips lag) w' d.replied (take-sees settings.extractor batch w w' (length w.objects) made (lifetime_of managed) (interval_of managed) managed skips lag command.moment d.result d.does stands)

sees-action : (settings : Settings) (batch : Batch) (w w' : World) (valid : IsValid w) (command : Command) (made : ℕ) (action : Action) (reply : Reply) → command.action ≡ action → StandsIn batch w.stored → DoesBy (by_catalogue w.stored w.catalogue) settings command (target_of action) made (state_of w) reply (state_of w') → Sees batch action reply w'
sees-action settings batch w w' valid command made (actions.Open wal) reply is stands d =
    sees-by batch (actions.Open wal) w' d.replied (open-sees settings.extractor batch w w' wal made settings.options.max_unflushed_bytes (option_tasks settings.options) d.result d.does d.objects stands)
sees-action settings batch w w' valid command made (actions.Follow mode managed skip lag) reply is stands d =
    follows-see settings batch w w' command made mode managed skip lag reply stands d
sees-action settings batch w w' valid command made (actions.Poll n) reply is stands d =
    sees-on settings batch w w' valid command made n reply (slice_get w.objects n) stands refl
    (subst (λ a. ActsOn (by_catalogue w.stored w.catalogue) settings n command (call_of a) made (slice_get w.objects n) (state_of w) reply (state_of w')) is d)
sees-action settings batch w w' valid command made (actions.Put n key value expire) reply is stands d = tt
sees-action settings batch w w' valid command made (actions.Merge n key value expire) reply is stands d = tt
sees-action settings batch w w' valid command made (actions.Delete n key) reply is stands d = tt
sees-action settings batch w w' valid command made (actions.Batch n ops) reply is stands d = tt
sees-action settings batch w w' valid command made (actions.Flush n flush_type) reply is stands d = tt
sees-action settings batch w w' valid command made (actions.Refresh n) reply is stands d = tt
sees-action settings batch w w' valid command made (actions.Compact n) reply is stands d = tt
sees-action settings batch w w' valid command made (actions.Get n key remote) reply is stands d = tt
sees-action settings batch w w' valid command made (actions.Scan n range order remote) reply is stands d = tt
sees-action settings batch w w' valid command made (actions.Seek n range take key order remote) reply is stands d = tt
sees-action settings batch w w' valid command made (actions.Close n options) reply is stands d = tt
sees-action settings batch w w' valid command made (actions.Status n) reply is stands d = tt
sees-action settings batch w w' valid command made (actions.Ts n number find) reply is stands d = tt
sees-action settings batch w w' valid command made (actions.Seq n seconds find) reply is stands d = tt
sees-action settings batch w w' valid command made (actions.Begin n) reply is stands d = tt
sees-action settings batch w w' valid command made (actions.Step n) reply is stands d = tt
sees-action settings batch w w' valid command made (actions.Snapshot n) reply is stands d = tt
sees-action settings batch w w' valid command made (actions.Await n) reply is stands d = tt
sees-action settings batch w w' valid command made (actions.Checkpoint lifetime) reply is stands d = tt
sees-action settings batch w w' valid command made actions.Sweep reply is stands d = tt

-- what is stored is seen by each opening and each poll
pub sees : (settings : Settings) (w : World) (command : Command) (reply : Reply) (w' : World) → IsValid w → NextWhole settings w command reply w' → (batch : Batch) → StandsIn batch w.stored → Sees batch command.action reply w'
sees settings w command reply w' valid next batch stands = sees-action settings batch w w' valid command next.made command.action reply refl stands next.does
