-- What a command that begins a poll of a reader by single calls does makes a link from each world that is represented.
use Rattle.std.proofs.Common.{◌≡◌, ◌∙◌, inl, inr, ℕ, true, List, option_map, set, Option, Some, None, refl, sym, ap, subst}
use Rattle.std.specs.List.{slice_get}
use Rattle.std.specs.Option.{is_some}
use Rattle.slate_types.specs.declared.batches.Batch.{Batch}
use Rattle.slate_store.specs.Objects.{Objects}
use Rattle.slate_model.specs.Begun.{Begun, begun_at, no_step}
use Rattle.slate_model.specs.Follower.{Follower, is_managed, kept_follower}
use Rattle.slate_model.specs.Handle.{CloseResult}
use Rattle.slate_model.specs.Known.{Known}
use Rattle.slate_model.specs.Object.{Object, Handle as AHandle, Snapshot as ASnapshot, Follower as AFollower, kept}
use Rattle.slate_model.proofs.Prefixes.{prefix-same}
use Rattle.slate_script.specs.declared.commands.Action.TheVariants as actions
use Rattle.slate_script.specs.declared.commands.Command.{Command}
use Rattle.slate_script.specs.declared.replies.Reply.{Reply}
use Rattle.slate_script.specs.declared.replies.Reply.TheVariants as replies
use Rattle.slate_live.specs.Calls.{Begins, Steps as StepsKind, kind_of}
use Rattle.slate_live.specs.Confirmed.{Sees}
use Rattle.slate_live.specs.Next.{NextBegun, NextBy, shown}
use Rattle.slate_live.specs.Represents.{AllInSegments, IsFollowerAt, PollHasSegments, Represents, StandsAt, StandsOn, follows_all}
use Rattle.slate_live.specs.Settings.{Settings}
use Rattle.slate_live.specs.State.{IsBegunAt, Live}
use Rattle.slate_live.specs.Stepping.{BeginsOn, BeginsPoll, BeginsReader}
use Rattle.slate_live.specs.Valid.{AtObject, IsAnswered, IsOkOrNoMemory, IsValidCommand, IsValidKind, Link}
use Rattle.slate_live.specs.World.{World}
use Rattle.slate_live.proofs.Begun.{begins-is}
use Rattle.slate_live.proofs.Beside.{poll-begins, reader-stands}
use Rattle.slate_live.proofs.Places.{get-map}
use Rattle.slate_live.proofs.Commencing.{begun-from}
use Rattle.slate_live.proofs.Polled.{all-polled, at-polled, polled, represents-polled, shown-is}
use Rattle.slate_live.proofs.Rising.{rise-same}

module _ (settings : Settings) (n : ℕ) (command : Command) (live live' : Live) (store : Known (List Batch)) (reply : Reply) (opts : live.options ≡ settings.options) (kind : kind_of command.action ≡ Begins n) (did : BeginsPoll n command.moment live reply live')
    (fits : (reader : Follower) → slice_get live.objects n ≡ Some (AFollower reader) → reply ≡ replies.Begun → (reader.line.floor ≡ reader.view.manifest.last_l0_seq) × (is_some reader.lease ≡ is_managed reader.mode)) where
  -- only the begun polls are others
  polls-alone : (x : Live) → live' ≡ record live { polls = x.polls } → live' ≡ record live { polls = live'.polls }
  polls-alone x is = is ∙ ap (λ (p : List (Option Begun)). record live { polls = p }) (sym (ap (λ (l : Live). l.polls) is))

  rest-same : live' ≡ record live { polls = live'.polls }
  rest-same = by (slice_get live.objects n) did
    where
      by : (found : Option Object) → BeginsOn n command.moment found live reply live' → live' ≡ record live { polls = live'.polls }
      by None (replied, same) = polls-alone live same
      by (Some object) at = polls-alone (record live { polls = set live.polls n at.poll' }) at.same

  module _ (w : World) (r : Represents live store w) (segments : AllInSegments settings.extractor w) where
    abbrev w' : World
    w' = polled w live'.polls

    is : live ≡ shown settings.options w
    is = shown-is settings.options live store w opts r

    is' : live' ≡ shown settings.options w'
    is' = rest-same ∙ ap (λ (l : Live). record l { polls = live'.polls }) is

    begins-shown : BeginsPoll n command.moment (shown settings.options w) reply (shown settings.options w')
    begins-shown = subst (BeginsPoll n command.moment (shown settings.options w) reply) is' (subst (λ l. BeginsPoll n command.moment l reply live') is did)

    next-begun : NextBegun settings n w command reply w'
    next-begun = record { begins = begins-shown; same = refl }

    -- what is begun stands
    begun-stands : (o : Objects) (m : ℕ) (b : Begun) → store.objects ≡ Some o → IsBegunAt live'.polls m b → StandsAt o w m b
    begun-stands o m b there at = elim (begun-from settings n w w' command reply next-begun m b at) [
      | inl old ↦ r.begun o m b there old
      | inr (here, f, at_f, open_, replied, is) ↦ (
        f,
        at_f,
        open_,
        λ free.
            let fit = fits-at f (subst (λ i. slice_get w.objects i ≡ Some (AFollower f)) here at_f) replied in
            subst (StandsOn o w m f) is (poll-begins live store w o r.represents there f command.moment (reader-stands live store w o r.represents there m f at_f) free fit.1 fit.0, tt),
      )
    ]
      where
        fits-at : (f : Follower) → slice_get w.objects n ≡ Some (AFollower f) → reply ≡ replies.Begun → ((kept_follower f).line.floor ≡ f.view.manifest.last_l0_seq) × (is_some f.lease ≡ is_managed f.mode)
        fits-at f at_n replied = fits (kept_follower f) (ap (λ os. slice_get os n) (r.represents).objects ∙ (get-map kept w.objects n ∙ ap (option_map kept) at_n)) replied

    represents-then : Represents live' store w'
    represents-then = record {
      represents = represents-polled w live'.polls live live' store (ap (λ (l : Live). l.objects) rest-same) (ap (λ (l : Live). l.writes) rest-same) r.represents;
      polls = refl;
      begun = λ o m b there at. at-polled w live'.polls o m b (begun-stands o m b there at);
    }

    action-is : command.action ≡ actions.Begin n
    action-is = begins-is command.action n kind

    accepts : IsValidCommand settings w command → IsOkOrNoMemory reply
    accepts can = by (slice_get w.objects n) (subst (λ k. IsValidKind k settings w command) kind can) (subst (λ found. BeginsOn n command.moment found (shown settings.options w) reply (shown settings.options w')) (get-map kept w.objects n) begins-shown)
      where
        open-begins : (f : Follower) (poll : Option Begun) (closed : CloseResult) → closed ≡ None → BeginsReader closed command.moment f reply poll → IsOkOrNoMemory reply
        open-begins f poll None open_ begins = subst IsOkOrNoMemory (sym begins.0) tt
        open-begins f poll (Some result) open_ begins = absurd (cc)

        by : (found : Option Object) → AtObject found (λ handle. ⊥) (λ snapshot. ⊥) (λ follower. follower.result ≡ None) → BeginsOn n command.moment (option_map kept found) (shown settings.options w) reply (shown settings.options w') → IsOkOrNoMemory reply
        by None can at = absurd can
        by (Some (AHandle h)) can at = absurd can
        by (Some (ASnapshot x)) can at = absurd can
        by (Some (AFollower f)) can at = open-begins (kept_follower f) at.poll' f.result can at.begins

    -- what is begun meets the keys that its reader does
    begun-segments : (m : ℕ) (reader : Follower) (b : Begun) → IsFollowerAt w.objects m reader → IsBegunAt live'.polls m b → follows_all reader.mode reader.skips ≡ true → PollHasSegments settings.extractor w.stored reader b
    begun-segments m reader b there begun replays = elim (begun-from settings n w w' command reply next-begun m b begun) [
      | inl old ↦ segments.polled m reader b there old replays
      | inr (here, f, at, open_, replied, is) ↦
          let same : f ≡ reader = (let e = sym at ∙ there in cc) in
          let have = segments.viewed m reader there replays in
          subst (PollHasSegments settings.extractor w.stored reader) (ap (λ (y : Follower). begun_at command.moment 0 no_step (kept_follower y)) (sym same) ∙ is) (have, have, λ last none. absurd (cc))
    ]

    pub begin-links : (w' : World) × Link settings w command reply w' × Represents live' store w' × AllInSegments settings.extractor w'
    begin-links = (
      w',
      record {
        next = subst (λ k. NextBy k settings w command reply w') (sym kind) next-begun;
        completes = λ can none. subst (λ k. IsAnswered k reply) (sym kind) (accepts can);
        faults = inl refl;
        grows = prefix-same w.stored;
        durable = λ i handle at. ((r.represents).valid.handles i handle at).confirmed;
        rises = rise-same w.objects w.objects refl;
        confirms = λ i asks durable. absurd (let no : actions.Begin n ≡ actions.Await i = sym action-is ∙ asks in cc);
        sees = λ batch stands. subst (λ action. Sees batch action reply w') (sym action-is) tt;
        leaves = λ i steps. absurd (let no : Begins n ≡ StepsKind i = sym kind ∙ steps in cc);
        causes = λ i reader begun steps at begun_at_i. absurd (let no : Begins n ≡ StepsKind i = sym kind ∙ steps in cc);
      },
      represents-then,
      all-polled w live'.polls settings.extractor segments begun-segments,
    )
