-- A close of a reader that an error closed answers that error.
use Rattle.std.proofs.Common.{◌≡◌, ◌++◌, ◌∷◌, ◌∙◌, [], ℕ, Bool, true, false, List, Some, Err, refl, subst, ap}
use Rattle.std.proofs.lemmas.Bool.{eqb-true}
use Rattle.std.specs.List.{slice_get}
use Rattle.slate_errors.specs.Errors.{error_of_fault}
use Rattle.slate_errors.specs.declared.closing.CloseFault.{CloseFault}
use Rattle.slate_errors.specs.declared.endings.Ended.{Ended}
use Rattle.slate_model.specs.Catalogue.{Span}
use Rattle.slate_model.specs.Close.{ended, recorded_fault}
use Rattle.slate_model.specs.Follower.{Follower, is_managed}
use Rattle.slate_model.specs.Handle.{CloseResult}
use Rattle.slate_model.specs.Knowledge.{Knowledge}
use Rattle.slate_model.specs.Known.{Untouched}
use Rattle.slate_model.specs.Object.{Object, Handle as AHandle, Snapshot as ASnapshot, Follower as AFollower}
use Rattle.slate_model.specs.Stores.{by_catalogue}
use Rattle.slate_script.specs.declared.commands.Action.{Action}
use Rattle.slate_script.specs.declared.commands.Action.TheVariants as actions
use Rattle.slate_script.specs.declared.commands.Command.{Command}
use Rattle.slate_script.specs.declared.replies.Reply.{Reply}
use Rattle.slate_script.specs.declared.replies.Reply.TheVariants as replies
use Rattle.slate_live.specs.Calls.{Close, Whole, call_of, flush_of_close, kind_of, target_of}
use Rattle.slate_live.specs.Closings.{IsClosedBy, RepeatErrors}
use Rattle.slate_live.specs.Commands.{ActsOn, DoesBy}
use Rattle.slate_live.specs.Followers.{ClosesAs}
use Rattle.slate_live.specs.Leases.{closes}
use Rattle.slate_live.specs.Replies.{follower_ended_reply}
use Rattle.slate_live.specs.Rising.{Rise, Rises}
use Rattle.slate_live.specs.Settings.{Settings}
use Rattle.slate_live.specs.Steps.{Chain, Step, last_world}
use Rattle.slate_live.specs.World.{NextWhole, World, state_of}
use Rattle.slate_live.proofs.Cases.{some-of}
use Rattle.slate_live.proofs.Naming.{follower-did}
use Rattle.slate_live.proofs.Begun.{by-kind}
use Rattle.slate_live.proofs.Wholes.{link-halves, next-whole}

-- it stays so over a step, and over steps
still-closed : (w w' : World) (n : ℕ) (fault : CloseFault) → Rise w.objects w'.objects → IsClosedBy w n fault → IsClosedBy w' n fault
still-closed w w' n fault rises (f, at, shut) = let r = rises n (AFollower f) at in by r.0 r.1 r.2 where
  by : (new : Object) → slice_get w'.objects n ≡ Some new → Rises (AFollower f) new → IsClosedBy w' n fault
  by (AFollower g) there rise = (g, there, some-of (λ q. g.result ≡ Some q) f.result (Err fault) shut rise.result)
  by (AHandle h) there rise = absurd rise
  by (ASnapshot s) there rise = absurd rise

closed-later : (settings : Settings) (w : World) (steps : List Step) (n : ℕ) (fault : CloseFault) → Chain settings w steps → IsClosedBy w n fault → IsClosedBy (last_world w steps) n fault
closed-later settings w [] n fault chain closed = closed
closed-later settings w (s ∷ steps) n fault (link, chain) closed = closed-later settings s.world steps n fault chain (still-closed w s.world n fault link.rises closed)

-- ---- the close
module _ (settings : Settings) (w w' : World) (command : Command) (reply : Reply) (next : NextWhole settings w command reply w') (n : ℕ) (fault : CloseFault) (closed : IsClosedBy w n fault) where
  abbrev k : Knowledge Span
  k = by_catalogue w.stored w.catalogue

  answers : (managed : Bool) (f f' : Follower) (made : ℕ) (answer : Ended) → f.result ≡ Some (Err fault) → ClosesAs k managed made f (state_of w).store answer f' (state_of w').store → answer ≡ ended f.tasks (recorded_fault f.result)
  answers true f f' made answer shut c = (some-of (λ q. (answer ≡ ended f.tasks (recorded_fault f.result)) × Untouched made (state_of w).store (state_of w').store) f.result (Err fault) shut c.again).0
  answers false f f' made answer shut c = c.0

  close-repeats : (action : Action) → command.action ≡ action → closes n action ≡ true → reply ≡ replies.Refused (error_of_fault fault)
  close-repeats (actions.Close m options) names closing =
      let same : m ≡ n = eqb-true m n closing in
      let does = subst (λ t. DoesBy k settings command t next.made (state_of w) reply (state_of w')) (ap target_of names) next.does in
      let asked = subst (λ c. ActsOn k settings m command c next.made (slice_get w.objects m) (state_of w) reply (state_of w')) (ap call_of names) does in
      let acts = subst (λ i. ActsOn k settings i command (Close (flush_of_close options)) next.made (slice_get w.objects i) (state_of w) reply (state_of w')) same asked in
      let d = follower-did k settings n command (Close (flush_of_close options)) next.made (state_of w) reply (state_of w') (slice_get w.objects n) closed.0 closed.1 acts in
      let c = d.acts.0 in
      let answer = answers (is_managed (closed.0).mode) closed.0 d.new next.made c.answer closed.2 c.does in
      c.replied ∙ (ap (follower_ended_reply (closed.0).result) answer ∙ ap (λ (r : CloseResult). follower_ended_reply r (ended (closed.0).tasks (recorded_fault r))) closed.2)
  close-repeats action names closing = absurd (cc)

-- a close makes a call whole
closes-whole : (action : Action) (n : ℕ) → closes n action ≡ true → kind_of action ≡ Whole
closes-whole action n is = by-kind (λ a. closes n a ≡ true) (λ m no. absurd (cc)) (λ m no. absurd (cc)) action is

-- ---- the law
pub repeat_errors : (settings : Settings) (first : World) (steps : List Step) → Chain settings first steps → RepeatErrors steps
repeat_errors settings first steps chain before later rest failed closing n fault is closed closing_it =
    let halves = link-halves settings first before (failed ∷ (later ++ closing ∷ rest)) (subst (Chain settings first) is chain) in
    let more = link-halves settings failed.world later (closing ∷ rest) halves.1.1 in
    close-repeats settings (last_world failed.world later) closing.world closing.command closing.reply (next-whole settings (last_world failed.world later) closing.command closing.reply closing.world (closes-whole closing.command.action n closing_it) more.1.0.next) n fault (closed-later settings failed.world later n fault more.0 closed) closing.command.action refl closing_it
