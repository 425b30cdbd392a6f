-- What a command does over a store makes a link from each world that is represented.
use Rattle.std.proofs.Common.{◌≡◌, ◌∙◌, ℕ, false, List, Some, None, refl, sym, subst}
use Rattle.slate_types.specs.declared.batches.Batch.{Batch}
use Rattle.std.specs.List.{slice_get}
use Rattle.std.specs.Option.{is_some}
use Rattle.slate_model.specs.Begun.{Begun}
use Rattle.slate_model.specs.Follower.{Follower, is_managed, is_pinned}
use Rattle.slate_model.specs.Knowledge.{Knowledge}
use Rattle.slate_model.specs.Known.{Known}
use Rattle.slate_model.specs.Object.{Follower as AFollower}
use Rattle.slate_model.specs.Stores.{by_objects}
use Rattle.slate_script.specs.declared.commands.Command.{Command}
use Rattle.slate_script.specs.declared.replies.Reply.{Reply}
use Rattle.slate_script.specs.declared.replies.Reply.TheVariants as replies
use Rattle.slate_live.specs.Calls.{ArePolls, Begins, Kind, Steps, Whole, kind_of, target_of}
use Rattle.slate_live.specs.declared.targets.Target.{Target}
use Rattle.slate_live.specs.Commands.{Does, DoesBy}
use Rattle.slate_live.specs.Next.{NextBy}
use Rattle.slate_live.specs.Represents.{AllInSegments, Links, Represents, StandsOn}
use Rattle.slate_live.specs.Settings.{Settings}
use Rattle.slate_live.specs.State.{IsBegunAt, Live, State, running}
use Rattle.slate_live.specs.Stepping.{DoesKind, IsDone}
use Rattle.slate_live.specs.Valid.{IsAnswered, IsValidKind, Link}
use Rattle.slate_live.specs.World.{World, state_of}
use Rattle.slate_live.proofs.Completing.{completes}
use Rattle.slate_live.proofs.Chains.{reached}
use Rattle.slate_live.proofs.Confirming.{confirms}
use Rattle.slate_live.proofs.Faulting.{answers-faults}
use Rattle.slate_live.proofs.Growing.{grows}
use Rattle.slate_live.proofs.OthersBeside.{polls-beside, reaches-beside}
use Rattle.slate_live.proofs.Representing.{leads-beside}
use Rattle.slate_live.proofs.Rising.{rises}
use Rattle.slate_live.proofs.Seeing.{sees}
use Rattle.slate_live.proofs.Beginning.{begin-links}
use Rattle.slate_live.proofs.Stepped.{step-links}
use Rattle.slate_live.proofs.Untouched.{is-quiet, stays, undropped}
use Rattle.slate_live.proofs.Viewed.{all-next}

-- one that makes a call whole
whole-links : (settings : Settings) (command : Command) (live live' : Live) (store store' : Known (List Batch)) (made : ℕ) (reply : Reply) → kind_of command.action ≡ Whole → Does (by_objects store.objects) settings made (running live store) command reply (running live' store') → ArePolls command.action live.polls live'.polls →
    Links settings.extractor (λ w reply w'. Link settings w command reply w') live store reply live' store'
whole-links settings command live live' store store' made reply kind does are w r segments =
    let ro = r.represents in
    let polls : ArePolls command.action w.polls live'.polls = subst (λ xs. ArePolls command.action xs live'.polls) r.polls are in
    let l = leads-beside settings live live' store store' w command made reply live'.polls polls ro does in
    -- a begun poll that is left is of a reader that is as it was
    let were : (n : ℕ) (b : Begun) → IsBegunAt l.0.polls n b → (f : Follower) × IsBegunAt w.polls n b × (slice_get w.objects n ≡ Some (AFollower f)) × (slice_get l.0.objects n ≡ Some (AFollower f)) × (f.result ≡ None)
    × (is_pinned f.mode ≡ false → StandsOn (ro.held).0 w n f b) =
    λ n b at.
    let was = (polls n b).0 (subst (λ ps. IsBegunAt ps n b) l.4 at) in
    let old = r.begun (ro.held).0 n b (ro.held).1 was.0 in
    let quiet = undropped n command.action was.1 in
    (old.0, was.0, old.1, stays settings w command (l.1).made reply (state_of l.0) n old.0 old.1 (is-quiet n command.action quiet.0 quiet.1) (l.1).does, old.2, old.3) in (
      l.0,
      record {
        next = subst (λ k. NextBy k settings w command reply l.0) (sym kind) l.1;
        completes = λ can none. subst (λ k. IsAnswered k reply) (sym kind) (completes settings w command reply l.0 ro.valid segments.keys l.1 (subst (λ k. IsValidKind k settings w command) kind can) none);
        faults = answers-faults settings w command reply l.0 ro.valid l.1;
        grows = grows settings w command reply l.0 l.1;
        durable = λ n handle at. (l.2.valid.handles n handle at).confirmed;
        rises = rises settings w command reply l.0 ro.valid l.1;
        confirms = confirms settings w command reply l.0 ro.valid l.1;
        sees = sees settings w command reply l.0 ro.valid l.1;
        leaves = λ n steps. absurd (let no : Whole ≡ Steps n = sym kind ∙ steps in cc);
        causes = λ n reader begun steps at begun_at_n. absurd (let no : Whole ≡ Steps n = sym kind ∙ steps in cc);
      },
      record {
        represents = l.2;
        polls = sym l.4;
        begun = λ o' n b there' at.
            let old = were n b at in (
              old.0,
              old.3,
              old.4,
              λ free. (
                polls-beside settings live live' store store' w l.0 command reply ro l.1 l.2 l.3 (ro.held).0 o' (ro.held).1 there' old.0 b (old.5 free).0,
                reaches-beside settings live live' store store' w l.0 command reply ro l.1 l.2 l.3 (ro.held).0 o' (ro.held).1 there' n old.0 b (old.5 free).0 (old.5 free).1,
              ),
            );
      },
      all-next settings w l.0 command reply (reached live store w ro) (reached live' store' l.0 l.2) l.1 segments
          (λ n f b at begun.
          let old = were n b begun in
          let same : old.0 ≡ f = (let here = old.3 in cc) in
          (subst (λ (g : Follower). slice_get w.objects n ≡ Some (AFollower g)) same old.2, old.1)),
    )

-- any command: one that begins a poll is of a reader that a poll fits
pub linked : (settings : Settings) (command : Command) (live live' : Live) (store store' : Known (List Batch)) (reply : Reply) → live.options ≡ settings.options → IsDone settings live store command reply live' store' →
    ((n : ℕ) (reader : Follower) → kind_of command.action ≡ Begins n → slice_get live.objects n ≡ Some (AFollower reader) → reply ≡ replies.Begun → (reader.line.floor ≡ reader.view.manifest.last_l0_seq) × (is_some reader.lease ≡ is_managed reader.mode)) →
    Links settings.extractor (λ w reply w'. Link settings w command reply w') live store reply live' store'
linked settings command live live' store store' reply opts done fits = by (kind_of command.action) refl done
  where
    by : (kind : Kind) → kind_of command.action ≡ kind → DoesKind kind settings live store command reply live' store' → Links settings.extractor (λ w reply w'. Link settings w command reply w') live store reply live' store'
    by Whole kind done = whole-links settings command live live' store store' (done.0).0 reply kind (done.0).1 done.1
    by (Begins n) kind done = λ w r segments.
        let links = begin-links settings n command live live' store reply opts kind done.0 (λ reader. fits n reader kind) w r segments in
        subst (λ k. (w' : World) × Link settings w command reply w' × Represents live' k w' × AllInSegments settings.extractor w') (sym done.1) links
    by (Steps n) kind done = λ w r segments. step-links settings n command live live' store store' reply opts kind done w r segments

-- a command does what is said of its target
pub does-at : {L : Type 0} (k : Knowledge L) (settings : Settings) (command : Command) (made : ℕ) (s : State L) (reply : Reply) (s' : State L) (target : Target) → target_of command.action ≡ target → DoesBy k settings command target made s reply s' → Does k settings made s command reply s'
does-at k settings command made s reply s' target is does = subst (λ t. DoesBy k settings command t made s reply s') (sym is) does
