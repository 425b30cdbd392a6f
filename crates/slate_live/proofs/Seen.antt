-- What is stored when a poll is begun by single calls is seen where that has read all.
use Rattle.std.proofs.Common.{◌≡◌, ◌⊎◌, ◌≤◌, ◌+◌, max, nat_lt, ◌∙◌, ◌&&◌, ◌||◌, not, ◌∷◌, ◌++◌, [], inl, inr, ℕ, Bool, true, false, if◌then◌else◌, List, option_map, Option, Some, None, refl, sym, ap, subst, arith}
use Rattle.std.proofs.lemmas.Bool.{cases_eq, ltb-false}
use Rattle.std.specs.List.{slice_get}
use Rattle.std.specs.Option.{is_none}
use Rattle.slate_types.specs.Line.{end}
use Rattle.slate_store.specs.declared.reader_modes.DbReaderMode.{DbReaderMode}
use Rattle.slate_model.specs.Begun.{Begun}
use Rattle.slate_model.specs.Follower.{Follower, is_pinned, kept_follower}
use Rattle.slate_model.specs.Follower as followers
use Rattle.slate_model.specs.Handle.{CloseResult}
use Rattle.slate_model.specs.Object.{Object, Handle as AHandle, Snapshot as ASnapshot, Follower as AFollower, kept}
use Rattle.slate_store.specs.Objects.{latest_manifest}
use Rattle.slate_script.specs.declared.commands.Action.TheVariants as actions
use Rattle.slate_script.specs.declared.replies.Reply.{Reply}
use Rattle.slate_script.specs.declared.replies.Reply.TheVariants as replies
use Rattle.slate_live.specs.Calls.{Begins, Kind, Steps, Whole, kind_of}
use Rattle.slate_live.specs.Next.{NextBegun, NextBy, NextStep, owed_past, shown, stored_in, tabled_number}
use Rattle.slate_live.specs.Represents.{IsFollowerAt, follows_all}
use Rattle.slate_live.specs.Rising.{Rise, Rises}
use Rattle.slate_live.specs.Settings.{Settings}
use Rattle.slate_live.specs.State.{IsBegunAt, Live}
use Rattle.slate_live.specs.Stepping.{BeginsAt, BeginsOn, BeginsReader, StepsAt, StepsObject, StepsOn}
use Rattle.slate_live.specs.Steps.{Chain, PollsSee, Step, last_world}
use Rattle.slate_live.specs.Valid.{Link}
use Rattle.slate_live.specs.World.{World}
use Rattle.slate_live.proofs.Begun.{begun-set}
use Rattle.slate_live.proofs.Commencing.{begun-from}
use Rattle.slate_live.proofs.Places.{get-map}
use Rattle.slate_live.proofs.Prefixes.{prefix-end}
use Rattle.slate_live.proofs.Seeing.{stands-end}
use Rattle.slate_live.proofs.Segmented.{free-of}
use Rattle.slate_live.proofs.Wholes.{link-halves, next-whole}

never : (pinned : Bool) → (not pinned && not true) ≡ true → ⊥
never true is = cc
never false is = cc

reading-of : (mode : DbReaderMode) (skips : Bool) → follows_all mode skips ≡ true → skips ≡ false
reading-of mode true all = absurd (never (is_pinned mode) all)
reading-of mode false all = refl

-- a reader stays one, in its mode
reader-then : (w w' : World) (n : ℕ) (f : Follower) → Rise w.objects w'.objects → IsFollowerAt w.objects n f → (g : Follower) × IsFollowerAt w'.objects n g × (g.mode ≡ f.mode) × (g.skips ≡ f.skips) × (g.lag ≡ f.lag)
reader-then w w' n f rises at = let r = rises n (AFollower f) at in by r.0 r.1 r.2
  where
    by : (new : Object) → slice_get w'.objects n ≡ Some new → Rises (AFollower f) new → (g : Follower) × IsFollowerAt w'.objects n g × (g.mode ≡ f.mode) × (g.skips ≡ f.skips) × (g.lag ≡ f.lag)
    by (AFollower g) there rise = (g, there, rise.mode, rise.skips, rise.lag)
    by (AHandle h) there rise = absurd rise
    by (ASnapshot x) there rise = absurd rise

-- what is owed of it is behind it by the lag at most
past-within : (lag reached stored : ℕ) → stored ≤ owed_past lag reached stored + lag
past-within lag reached stored = by (nat_lt (reached + lag) stored) refl
  where
    by : (b : Bool) → nat_lt (reached + lag) stored ≡ b → stored ≤ (if b then stored else reached) + lag
    by true is = omega arith
    by false is = let no = ltb-false (reached + lag) stored is in omega (arith, no)

-- what one of all that is stored is owed at a step is as much as is stored at the first, less the lag, and else what it was owed then
first-owed : (pinned none skips : Bool) (lag least own tabled stored owed : ℕ) → pinned ≡ false → skips ≡ false → least ≤ stored → (none ≡ false → least ≤ owed + lag) →
    least ≤ (if pinned || none then (if pinned then own else (if skips then tabled else owed_past lag (max own tabled) stored)) else owed) + lag
first-owed true none skips lag least own tabled stored owed free reads now earlier = absurd (cc)
first-owed false none true lag least own tabled stored owed free reads now earlier = absurd (cc)
first-owed false true false lag least own tabled stored owed free reads now earlier = let within = past-within lag (max own tabled) stored in omega (arith, now, within)
first-owed false false false lag least own tabled stored owed free reads now earlier = earlier refl

-- a poll of the reader was begun before its step, or the step answers that there is none
was-begun : (settings : Settings) (n : ℕ) (w w' : World) (reply : Reply) (f : Follower) → NextStep settings n w reply w' → IsFollowerAt w.objects n f →
    ((b : Begun) × IsBegunAt w.polls n b) ⊎ ((reply ≡ replies.Unknown) × ((b : Begun) → IsBegunAt w'.polls n b → ⊥))
was-begun settings n w w' reply f next at =
    by-place (subst (λ found. StepsOn settings.extractor n found (shown settings.options w) (stored_in next.before w) reply (shown settings.options w') (stored_in next.after w')) (get-map kept w.objects n ∙ ap (option_map kept) at) next.steps)
  where
    by-place : StepsAt settings.extractor n (AFollower (kept_follower f)) (shown settings.options w) (stored_in next.before w) reply (shown settings.options w') (stored_in next.after w') →
        ((b : Begun) × IsBegunAt w.polls n b) ⊎ ((reply ≡ replies.Unknown) × ((b : Begun) → IsBegunAt w'.polls n b → ⊥))
    by-place a = by a.poll a.object' a.there a.does
      where
        none-then : a.poll' ≡ None → (b : Begun) → IsBegunAt w'.polls n b → ⊥
        none-then none b is = elim (begun-set w.polls n n a.poll' b (subst (λ ps. IsBegunAt ps n b) (ap (λ (l : Live). l.polls) a.same) is)) [
          | inl mine ↦ (let no = sym none ∙ mine.1 in cc)
          | inr other ↦ absurd (other.0 refl)
        ]

        by : (poll : Option Begun) (object' : Object) → slice_get w.polls n ≡ Some poll → StepsObject settings.extractor (AFollower (kept_follower f)) poll (stored_in next.before w) reply object' a.poll' (stored_in next.after w') →
            ((b : Begun) × IsBegunAt w.polls n b) ⊎ ((reply ≡ replies.Unknown) × ((b : Begun) → IsBegunAt w'.polls n b → ⊥))
        by (Some b) object' there does = inl (b, there)
        by None object' there does = inr (does.0, none-then does.2)

module _ (settings : Settings) (least n : ℕ) where
  -- As much is stored, and where the reader with this number follows all that is stored, its begun poll is owed as much after its first
  -- step.
  record Owes (w : World) : Type 0 where
    reader : Follower
    there : IsFollowerAt w.objects n reader
    stored : least ≤ end w.stored
    owed : follows_all reader.mode reader.skips ≡ true → (b : Begun) → IsBegunAt w.polls n b → is_none b.history.first ≡ false → least ≤ w.owed n + reader.lag

  owed-then : (w w' : World) (reply : Reply) → NextStep settings n w reply w' → (o : Owes w) → follows_all (o.reader).mode (o.reader).skips ≡ true → (b : Begun) → IsBegunAt w.polls n b → least ≤ w'.owed n + (o.reader).lag
  owed-then w w' reply next o all b at =
      let f = o.reader in
      subst (λ x. least ≤ x + f.lag) (sym (next.owed f b o.there at))
      (first-owed (is_pinned f.mode) (is_none b.history.first) f.skips f.lag least (followers.number f) (tabled_number (latest_manifest w.catalogue)) (end w.stored) (w.owed n) (free-of f.mode f.skips all) (reading-of f.mode f.skips all) o.stored (o.owed all b at))

  -- whatever command comes next
  owes-then : (w : World) (step : Step) → Link settings w step.command step.reply step.world → Owes w → Owes step.world
  owes-then w step link o =
      let g = reader-then w (step.world) n (o.reader) link.rises o.there in
      record {
        reader = g.0;
        there = g.1;
        stored = (let more = prefix-end w.stored (step.world).stored link.grows in let now = o.stored in omega (arith, more, now));
        owed = λ all b at second. subst (λ lag. least ≤ (step.world).owed n + lag) (sym g.4) (by (kind_of step.command.action) refl (ap (λ m. follows_all m (o.reader).skips) (sym g.2) ∙ (ap (follows_all (g.0).mode) (sym g.3) ∙ all)) b at second);
      }
    where
      own : NextStep settings n w step.reply (step.world) → follows_all (o.reader).mode (o.reader).skips ≡ true → (b : Begun) → IsBegunAt (step.world).polls n b → least ≤ (step.world).owed n + (o.reader).lag
      own next all b at = elim (was-begun settings n w (step.world) step.reply (o.reader) next o.there) [
        | inl was ↦ owed-then w (step.world) step.reply next o all was.0 was.1
        | inr none ↦ absurd (none.1 b at)
      ]

      by : (kind : Kind) → kind_of step.command.action ≡ kind → follows_all (o.reader).mode (o.reader).skips ≡ true → (b : Begun) → IsBegunAt (step.world).polls n b → is_none b.history.first ≡ false → least ≤ (step.world).owed n + (o.reader).lag
      by Whole kind all b at second =
          let next = next-whole settings w step.command step.reply (step.world) kind link.next in
          subst (λ (owed : ℕ → ℕ). least ≤ owed n + (o.reader).lag) (sym next.owed) (o.owed all b ((next.polls n b).0 at).0 second)
      by (Begins m) kind all b at second =
          let next : NextBegun settings m w step.command step.reply (step.world) = subst (λ k. NextBy k settings w step.command step.reply (step.world)) kind link.next in
          subst (λ (owed : ℕ → ℕ). least ≤ owed n + (o.reader).lag) (sym (ap (λ (x : World). x.owed) next.same))
          (elim (begun-from settings m w (step.world) step.command step.reply next n b at) [
            | inl old ↦ o.owed all b old second
            | inr (here, g, at_g, open_, replied, is) ↦ (let no = ap (λ (x : Begun). is_none x.history.first) is ∙ second in absurd (cc))
          ])
      by (Steps m) kind all b at second =
          let next : NextStep settings m w step.reply (step.world) = subst (λ k. NextBy k settings w step.command step.reply (step.world)) kind link.next in
          elim (cases_eq n m) [
            | inl same ↦ own (subst (λ i. NextStep settings i w step.reply (step.world)) (sym same) next) all b at
            | inr other ↦ subst (λ x. least ≤ x + (o.reader).lag) (sym (next.owed_others n other)) (o.owed all b (sym ((link.leaves m kind).polls n other) ∙ at) second)
          ]

  -- once its poll is begun
  begins-owing : (w : World) (begin : Step) → Link settings w begin.command begin.reply begin.world → begin.command.action ≡ actions.Begin n → begin.reply ≡ replies.Begun → least ≤ end (begin.world).stored → Owes begin.world
  begins-owing w begin link begins replied now = by (slice_get w.objects n) refl (subst (λ found. BeginsOn n (begin.command).moment found (shown settings.options w) begin.reply (shown settings.options (begin.world))) (get-map kept w.objects n) next.begins)
    where
      next : NextBegun settings n w begin.command begin.reply (begin.world)
      next = subst (λ k. NextBy k settings w begin.command begin.reply (begin.world)) (ap kind_of begins) link.next

      fresh : (f : Follower) (closed : CloseResult) (poll' : Option Begun) (b : Begun) → BeginsReader closed (begin.command).moment (kept_follower f) begin.reply poll' → poll' ≡ Some b → is_none b.history.first ≡ false → ⊥
      fresh f None poll' b did is second = (let e : Some _ ≡ Some b = sym did.1 ∙ is in let no = ap (λ (x : Option Begun). option_map (λ (y : Begun). is_none y.history.first) x) e in cc)
      fresh f (Some r) poll' b did is second = (let no = sym did.1 ∙ is in cc)

      begun-fresh : (f : Follower) (a : BeginsAt n (begin.command).moment (AFollower (kept_follower f)) (shown settings.options w) begin.reply (shown settings.options (begin.world))) (b : Begun) → IsBegunAt (begin.world).polls n b → is_none b.history.first ≡ false → ⊥
      begun-fresh f a b at second = elim (begun-set w.polls n n a.poll' b (subst (λ ps. IsBegunAt ps n b) (ap (λ (l : Live). l.polls) a.same) at)) [
        | inl mine ↦ fresh f f.result a.poll' b a.begins mine.1 second
        | inr other ↦ absurd (other.0 refl)
      ]

      by : (found : Option Object) → slice_get w.objects n ≡ found → BeginsOn n (begin.command).moment (option_map kept found) (shown settings.options w) begin.reply (shown settings.options (begin.world)) → Owes (begin.world)
      by None at a = absurd (let no = sym replied ∙ a.0 in cc)
      by (Some (AHandle h)) at a = absurd (let no = sym replied ∙ a.begins.0 in cc)
      by (Some (ASnapshot x)) at a = absurd (let no = sym replied ∙ a.begins.0 in cc)
      by (Some (AFollower f)) at a =
          record {
            reader = f;
            there = ap (λ (x : World). slice_get x.objects n) next.same ∙ at;
            stored = now;
            owed = λ all b is second. absurd (begun-fresh f a b is second);
          }

  -- and answered
  last-sees : (w : World) (step : Step) → Link settings w step.command step.reply step.world → Owes w → step.command.action ≡ actions.Step n → (at : ℕ) → step.reply ≡ replies.Polled true at → (reader : Follower) → IsFollowerAt (step.world).objects n reader → follows_all reader.mode reader.skips ≡ true → least ≤ at + reader.lag
  last-sees w step link o is at replied reader there all =
      let g = reader-then w step.world n (o.reader) link.rises o.there in
      let same : g.0 ≡ reader = (let e = sym g.1 ∙ there in cc) in
      let follows : follows_all (o.reader).mode (o.reader).skips ≡ true = ap (λ m. follows_all m (o.reader).skips) (sym g.2) ∙ (ap (follows_all (g.0).mode) (sym g.3) ∙ (ap (λ (x : Follower). follows_all x.mode x.skips) same ∙ all)) in
      elim (was-begun settings n w step.world step.reply (o.reader) next o.there) [
        | inl was ↦
            let enough = ((link.causes n (o.reader) was.0 kind o.there was.1).whole at replied).0 in
            let owed = owed-then w step.world step.reply next o follows was.0 was.1 in
            let lag : reader.lag ≡ (o.reader).lag = ap (λ (x : Follower). x.lag) (sym same) ∙ g.4 in
            omega (arith, enough, owed, lag)
        | inr none ↦ (let no = sym replied ∙ none.0 in absurd (cc))
      ]
    where
      kind : kind_of step.command.action ≡ Steps n
      kind = ap kind_of is

      next : NextStep settings n w step.reply step.world
      next = subst (λ k. NextBy k settings w step.command step.reply step.world) kind link.next

  sees-then : (w : World) (between rest : List Step) (step : Step) → Chain settings w (between ++ step ∷ rest) → Owes w → step.command.action ≡ actions.Step n → (at : ℕ) → step.reply ≡ replies.Polled true at → (reader : Follower) → IsFollowerAt (step.world).objects n reader → follows_all reader.mode reader.skips ≡ true → least ≤ at + reader.lag
  sees-then w [] rest step chain o is at replied reader there all = last-sees w step chain.0 o is at replied reader there all
  sees-then w (s ∷ between) rest step chain o is at replied reader there all = sees-then s.world between rest step chain.1 (owes-then w s chain.0 o) is at replied reader there all

pub polls_see : (settings : Settings) (first : World) (steps : List Step) → Chain settings first steps → PollsSee steps
polls_see settings first steps chain before between rest begin step n at batch is begins replied stands steps_is answered reader there all =
    let halves = link-halves settings first before (begin ∷ (between ++ step ∷ rest)) (subst (Chain settings first) is chain) in
    let owing = begins-owing settings batch.number n (last_world first before) begin halves.1.0 begins replied (stands-end batch (begin.world).stored stands) in
    sees-then settings batch.number n begin.world between rest step halves.1.1 owing steps_is at answered reader there all
