-- A write that is reported durable is among the batches that are stored.
use Rattle.std.proofs.Common.{◌≡◌, ℕ, zero, suc, ◌-◌, ◌<◌, ◌≤◌, take, List, [], ◌∷◌, Bool, true, false, leb, Option, Some, None, if◌then◌else◌, refl, sym, subst, ap, ◌∙◌, arith}
use Rattle.std.specs.List.{slice_get}
use Rattle.std.proofs.lemmas.Bool.{leb-true}
use Rattle.std.proofs.lemmas.List.{length-take-le}
use Rattle.slate_types.specs.declared.batches.Batch.{Batch}
use Rattle.slate_types.specs.Line.{Line, end}
use Rattle.slate_model.specs.Catalogue.{Span}
use Rattle.slate_model.specs.Handle.{CloseResult, Handle}
use Rattle.slate_model.specs.Object.{Object, Handle as AHandle, Snapshot as ASnapshot, Follower as AFollower}
use Rattle.slate_model.specs.Stores.{by_catalogue}
use Rattle.slate_script.specs.declared.commands.Action.TheVariants as actions
use Rattle.slate_script.specs.declared.commands.Command.{Command}
use Rattle.slate_script.specs.declared.replies.Reply.{Reply}
use Rattle.slate_script.specs.declared.replies.Reply.TheVariants as replies
use Rattle.slate_live.specs.declared.states.Write.{Write}
use Rattle.slate_live.specs.Confirmed.{StandsIn}
use Rattle.slate_live.specs.Calls.{target_of}
use Rattle.slate_live.specs.Commands.{DoesBy, asked_reply, write_reply}
use Rattle.slate_live.specs.Handles.{pending_reply}
use Rattle.slate_live.specs.Represents.{IsHandleAt, IsValid, up_to}
use Rattle.slate_live.specs.Settings.{Settings}
use Rattle.slate_live.specs.State.{State}
use Rattle.slate_live.specs.Valid.{IsConfirmed}
use Rattle.slate_live.specs.World.{NextWhole, World, state_of}
use Rattle.slate_live.proofs.Keeping.{stands-prefix}
use Rattle.slate_live.proofs.Prefixes.{prefix-end}

not-pending : (r : CloseResult) → replies.Durable ≡ pending_reply r → ⊥
not-pending None h = absurd (cc)
not-pending (Some q) h = absurd (cc)

durable-by : (b : Bool) (k d : ℕ) (r : CloseResult) → leb k d ≡ b → replies.Durable ≡ (if b then replies.Durable else pending_reply r) → k ≤ d
durable-by true k d r is h = leb-true k d is
durable-by false k d r is h = absurd (not-pending r h)

-- the handle of a write that is reported durable has stored it
pub record IsStoredOf (w : World) (n : ℕ) : Type 0 where
  pub write : Write
  pub is_write : slice_get w.writes n ≡ Some write
  pub handle : Handle
  pub is_handle : IsHandleAt w.objects write.handle handle
  pub durable : write.number ≤ handle.durable

stored-at : (w : World) (n : ℕ) (write : Write) (found : Option Object) → slice_get w.writes n ≡ Some write → slice_get w.objects write.handle ≡ found → replies.Durable ≡ asked_reply found write.number → IsStoredOf w n
stored-at w n write None is at durable = absurd (cc)
stored-at w n write (Some (ASnapshot x)) is at durable = absurd (cc)
stored-at w n write (Some (AFollower f)) is at durable = absurd (cc)
stored-at w n write (Some (AHandle h)) is at durable =
    record { write = write; is_write = is; handle = h; is_handle = at; durable = durable-by (leb write.number h.durable) write.number h.durable h.result refl durable }

stored-of : (w : World) (n : ℕ) (write : Option Write) → slice_get w.writes n ≡ write → replies.Durable ≡ write_reply w.objects write → IsStoredOf w n
stored-of w n None is durable = absurd (cc)
stored-of w n (Some write) is durable = stored-at w n write (slice_get w.objects write.handle) is refl durable

pub reported : (settings : Settings) (w : World) (command : Command) (reply : Reply) (w' : World) → NextWhole settings w command reply w' → (n : ℕ) → command.action ≡ actions.Await n → reply ≡ replies.Durable → IsStoredOf w n
reported settings w command reply w' next n is durable =
    let d = subst (λ a. DoesBy (by_catalogue w.stored w.catalogue) settings command (target_of a) next.made (state_of w) reply (state_of w')) is next.does in
    stored-of w n (slice_get w.writes n) refl (sym durable ∙ d.1)

-- asking changes no object and no write
pub asked-same : (settings : Settings) (w : World) (command : Command) (reply : Reply) (w' : World) → NextWhole settings w command reply w' → (n : ℕ) → command.action ≡ actions.Await n → (w'.objects ≡ w.objects) × (w'.writes ≡ w.writes)
asked-same settings w command reply w' next n is =
    let d = subst (λ a. DoesBy (by_catalogue w.stored w.catalogue) settings command (target_of a) next.made (state_of w) reply (state_of w')) is next.does in
    (ap (λ (s : State Span). s.objects) d.2, ap (λ (s : State Span). s.writes) d.2)

-- what a handle knows to be durable is within what is stored
within-stored : (w : World) (n : ℕ) (h : Handle) → IsValid w → IsHandleAt w.objects n h → h.durable ≤ end w.stored
within-stored w n h valid at =
    let v = valid.handles n h at in
    let floor = v.floor in
    let low = v.durable in
    let count = length-take-le (h.durable - h.line.floor) h.line.batches (omega (arith, low)) in
    let front = prefix-end (up_to h.durable h.line) w.stored v.confirmed in
    omega (arith, floor, low, count, front)

get-take : {X : Type 0} (xs : List X) (m k : ℕ) (x : X) → k < m → slice_get xs k ≡ Some x → slice_get (take m xs) k ≡ Some x
get-take [] m k x low is = absurd (cc)
get-take (y ∷ xs) zero k x low is = absurd (omega (arith, low))
get-take (y ∷ xs) (suc m) zero x low is = is
get-take (y ∷ xs) (suc m) (suc k) x low is = get-take xs m k x (omega (arith, low)) is

-- what stands in a line stands in its front up to a number that isn't below its own
pub stands-front : (batch : Batch) (line : Line) (number : ℕ) → batch.number ≤ number → StandsIn batch line → StandsIn batch (up_to number line)
stands-front batch line number low s =
    let is = s.2 in
    (s.0, get-take line.batches (number - line.floor) s.0 batch (omega (arith, low, is)) s.1, s.2)

-- the batch of a write that is reported durable stands in what is stored
pub confirms : (settings : Settings) (w : World) (command : Command) (reply : Reply) (w' : World) → IsValid w → NextWhole settings w command reply w' → (n : ℕ) → command.action ≡ actions.Await n → reply ≡ replies.Durable → IsConfirmed w n
confirms settings w command reply w' valid next n is durable =
    let s = reported settings w command reply w' next n is durable in
    let low = s.durable in
    let stored = within-stored w s.write.handle s.handle valid s.is_handle in
    record {
      write = s.write;
      is_write = s.is_write;
      number = omega (arith, low, stored);
      stored = λ batch of_write.
          let same : of_write.write ≡ s.write = let there = of_write.is_write in let here = s.is_write in cc in
          let at : IsHandleAt w.objects s.write.handle of_write.handle = subst (λ (x : Write). IsHandleAt w.objects x.handle of_write.handle) same of_write.is_handle in
          let is_handle : of_write.handle ≡ s.handle = let here = s.is_handle in cc in
          let number : batch.number ≡ s.write.number = of_write.number ∙ ap (λ (x : Write). x.number) same in
          let stands : StandsIn batch s.handle.line = subst (λ (x : Handle). StandsIn batch x.line) is_handle of_write.accepted in
          stands-prefix batch (up_to s.handle.durable s.handle.line) w.stored (valid.handles s.write.handle s.handle s.is_handle).confirmed
          (stands-front batch s.handle.line s.handle.durable (omega (arith, low, number)) stands);
    }
