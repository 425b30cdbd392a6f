-- Which polls are begun once one was.
use Rattle.std.proofs.Common.{◌≡◌, ◌⊎◌, inl, inr, ℕ, option_map, set, Option, Some, None, refl, sym, subst, ap, ◌∙◌}
use Rattle.std.specs.List.{slice_get}
use Rattle.slate_model.specs.Begun.{Begun, begun_at, no_step}
use Rattle.slate_model.specs.Follower.{Follower, kept_follower}
use Rattle.slate_model.specs.Handle.{CloseResult}
use Rattle.slate_model.specs.Object.{Object, Handle as AHandle, Snapshot as ASnapshot, Follower as AFollower, kept}
use Rattle.slate_script.specs.declared.commands.Command.{Command}
use Rattle.slate_script.specs.declared.replies.Reply.{Reply}
use Rattle.slate_script.specs.declared.replies.Reply.TheVariants as replies
use Rattle.slate_live.specs.Next.{NextBegun, shown}
use Rattle.slate_live.specs.Settings.{Settings}
use Rattle.slate_live.specs.State.{IsBegunAt, Live}
use Rattle.slate_live.specs.Stepping.{BeginsAt, BeginsOn, BeginsReader}
use Rattle.slate_live.specs.World.{World}
use Rattle.slate_live.proofs.Begun.{begun-set}
use Rattle.slate_live.proofs.Places.{get-map}

-- a poll was begun now of the open reader with a number
abbrev pub IsNew : World → Command → Reply → (n m : ℕ) → Begun → Type 0
IsNew w command reply n m b =
    (m ≡ n) × (f : Follower) × (slice_get w.objects m ≡ Some (AFollower f)) × (f.result ≡ None) × (reply ≡ replies.Begun) × (begun_at command.moment 0 no_step (kept_follower f) ≡ b)

-- A begun poll was begun before, or now.
abbrev pub IsBegunBy : World → Command → Reply → (n m : ℕ) → Begun → Type 0
IsBegunBy w command reply n m b = IsBegunAt w.polls m b ⊎ IsNew w command reply n m b

pub begun-from : (settings : Settings) (n : ℕ) (w w' : World) (command : Command) (reply : Reply) → NextBegun settings n w command reply w' → (m : ℕ) (b : Begun) → IsBegunAt w'.polls m b →
    IsBegunBy w command reply n m b
begun-from settings n w w' command reply next m b at = by (slice_get w.objects n) refl (subst (λ found. BeginsOn n command.moment found (shown settings.options w) reply (shown settings.options w')) (get-map kept w.objects n) next.begins)
  where
    set-from : (poll' : Option Begun) → w'.polls ≡ set w.polls n poll' → (poll' ≡ Some b → IsBegunBy w command reply n n b) → IsBegunBy w command reply n m b
    set-from poll' polls new = elim (begun-set w.polls n m poll' b (subst (λ ps. IsBegunAt ps m b) polls at)) [
      | inl mine ↦ subst (λ i. IsBegunBy w command reply n i b) (sym mine.0) (new mine.1)
      | inr other ↦ inl other.1
    ]

    polls-of : (x : Live) → shown settings.options w' ≡ x → w'.polls ≡ x.polls
    polls-of x same = ap (λ (l : Live). l.polls) same

    unbegun : (object : Object) (a : BeginsAt n command.moment object (shown settings.options w) reply (shown settings.options w')) → a.poll' ≡ a.poll → IsBegunBy w command reply n m b
    unbegun object a same = set-from a.poll' (polls-of _ a.same) (λ new. inl (a.there ∙ ap Some (sym same ∙ new)))

    reads : (f : Follower) → slice_get w.objects n ≡ Some (AFollower f) → (closed : CloseResult) (poll' : Option Begun) → f.result ≡ closed → BeginsReader closed command.moment (kept_follower f) reply poll' → poll' ≡ Some b → IsBegunBy w command reply n n b
    reads f at_f None poll' open_ begins new = inr (refl, f, at_f, open_, begins.0, let e = sym begins.1 ∙ new in cc)
    reads f at_f (Some result) poll' closed begins new = absurd (let no = sym begins.1 ∙ new in cc)

    by : (found : Option Object) → slice_get w.objects n ≡ found → BeginsOn n command.moment (option_map kept found) (shown settings.options w) reply (shown settings.options w') → IsBegunBy w command reply n m b
    by None none (replied, same) = inl (subst (λ ps. IsBegunAt ps m b) (polls-of _ same) at)
    by (Some (AHandle h)) at_n a = unbegun (AHandle _) a a.begins.1
    by (Some (ASnapshot x)) at_n a = unbegun (ASnapshot x) a a.begins.1
    by (Some (AFollower f)) at_n a = set-from a.poll' (polls-of _ a.same) (λ new. reads f at_n f.result a.poll' refl a.begins new)
