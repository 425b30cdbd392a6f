-- A reader holds its checkpoint after its opening, and after each poll that took all log files.
use Rattle.std.proofs.Common.{◌≡◌, ◌++◌, ◌+◌, ◌∷◌, ◌/◌, ◌∙◌, [], inl, inr, ℕ, ℤ, int_lt, Bool, true, false, find, length, Option, Some, None, Result, Ok, Err, refl, sym, subst, ap, arith}
use Rattle.std.proofs.lemmas.Bool.{eqb-true}
use Rattle.std.specs.Bool.{MatchBool}
use Rattle.std.specs.List.{slice_get}
use Rattle.slate_store.specs.Changes.{after_part}
use Rattle.std.proofs.lemmas.Slice.Eq.{bytes_eq-Decides}
use Rattle.slate_store.specs.Checkpoints.{has_id, lease_end, new_checkpoint, to_refresh, to_write, with_checkpoints}
use Rattle.slate_store.specs.Objects.{PutManifest, changed, entry_at, latest_manifest}
use Rattle.slate_store.specs.Refusals.{checkpoint_changes}
use Rattle.slate_store.specs.declared.objects.VersionedManifest.{VersionedManifest}
use Rattle.slate_store.specs.declared.reader_modes.DbReaderMode.TheVariants as modes
use Rattle.slate_errors.specs.declared.errors.SlateError.{SlateError}
use Rattle.slate_errors.specs.declared.errors.SlateError.TheVariants as errors
use Rattle.slate_model.specs.declared.answers.PollAnswer.{PollAnswer}
use Rattle.slate_model.specs.declared.answers.PollAnswer.TheVariants.{Whole, Truncated}
use Rattle.slate_model.specs.declared.leases.Lease.{Lease}
use Rattle.slate_model.specs.Catalogue.{Catalogue, Span}
use Rattle.slate_model.specs.Follower.{Follower, is_managed}
use Rattle.slate_model.specs.Knowledge.{Knowledge}
use Rattle.slate_model.specs.Known.{Known, Untouched}
use Rattle.slate_model.specs.Lease.{lease_of, lease_refusal, leased, replaces, to_keep, to_take}
use Rattle.slate_model.specs.Managed.{KeepsLease, OpensManaged, PollsLeased, PollsTwice, TakesLease}
use Rattle.slate_model.proofs.Rounds.{rounds, took}
use Rattle.slate_model.specs.Object.{Follower as AFollower}
use Rattle.slate_model.specs.Stores.{by_catalogue}
use Rattle.slate_model.proofs.Leased.{leased-is, put-entry, put-id, put-latest_is, put-low, puts-one}
use Rattle.slate_model.proofs.Planned.{take-recheckpoints}
use Rattle.slate_model.proofs.Reduced.{some-same}
use Rattle.slate_script.specs.declared.commands.Action.{Action}
use Rattle.slate_script.specs.declared.commands.Action.TheVariants as actions
use Rattle.slate_script.specs.declared.commands.Command.{Command}
use Rattle.slate_script.specs.declared.replies.Reply.{Reply}
use Rattle.slate_script.specs.declared.replies.Reply.TheVariants as replies
use Rattle.slate_live.specs.Calls.{Poll, call_of, target_of}
use Rattle.slate_live.specs.declared.targets.Target.TheVariants.{NewFollower, OfObject}
use Rattle.slate_live.specs.Commands.{ActsOn, AddsObject, DoesBy, added, interval_of, lag_of, lifetime_of}
use Rattle.slate_live.specs.Followers.{PollsAs}
use Rattle.slate_live.specs.Leases.{is_whole, polls}
use Rattle.slate_live.specs.Replies.{followed_reply, polled_reply, refusal, reply_to}
use Rattle.slate_live.specs.Represents.{IsFollowerAt, IsReached}
use Rattle.slate_live.specs.Settings.{Settings}
use Rattle.slate_live.specs.World.{NextWhole, World, state_of}
use Rattle.slate_live.proofs.Carrying.{taken-is}
use Rattle.slate_live.proofs.Cases.{by-option, some-of}
use Rattle.slate_live.proofs.Finding.{find-last}
use Rattle.slate_live.proofs.Holding.{Holds, new-apart, polled-holds, renewed-ahead, renewed-holds}
use Rattle.slate_live.proofs.Leases.{ArePast, HasCheckpoint, Names, alone-new, rising}
use Rattle.slate_live.proofs.Naming.{follower-did}
use Rattle.slate_live.proofs.Places.{get-seam, get-set_same}

pub polls-is : (n : ℕ) (action : Action) → polls n action ≡ true → action ≡ actions.Poll n
polls-is n (actions.Poll m) is = ap actions.Poll (eqb-true m n is)
polls-is n action is = absurd (cc)

refusal-not_whole : (e : SlateError) → is_whole (refusal e) ≡ true → ⊥
refusal-not_whole errors.NoMemory whole = absurd (cc)
refusal-not_whole (errors.Backpressure unflushed limit) whole = absurd (cc)
refusal-not_whole e whole = absurd (cc)

module _ (settings : Settings) (w w' : World) (command : Command) (reply : Reply) (reached : IsReached w) (reached' : IsReached w') (next : NextWhole settings w command reply w') (past : ArePast w) (n lifetime : ℕ) (last : ℤ) (h : Holds n lifetime last w) where
  abbrev k : Knowledge Span
  k = by_catalogue w.stored w.catalogue

  -- a round that was answered, to these objects
  round-holds : target_of command.action ≡ OfObject n → (f' : Follower) (made : ℕ) (answer : PollAnswer) (after : Known Span) → after.objects ≡ Some w'.catalogue → IsFollowerAt w'.objects n f' → KeepsLease k settings.extractor made h.lease command.moment h.follower (state_of w).store (Ok answer) f' after → Holds n lifetime command.moment w'
  round-holds names f' made answer after is_after at' p =
      let puts = (p.puts).some w.catalogue refl in
      let q = ((p.keeps).some w.catalogue refl).2 in
      let after_is : w'.catalogue ≡ puts.0 = some-same w'.catalogue puts.0 (sym is_after ∙ puts.1) in
      let same : q.latest ≡ h.has.latest = some-same q.latest h.has.latest (sym q.is_latest ∙ h.has.is) in
      let gives = subst (λ (v : VersionedManifest). to_keep h.follower.view h.lease command.moment v ≡ Ok (q.next, q.given)) same q.plan in
      let view = subst (λ (v : VersionedManifest). MatchBool (replaces h.follower.view h.lease command.moment v) (q.next ≡ Some f'.view) (f'.view ≡ h.follower.view)) same q.view in
      polled-holds settings w w' command reply reached reached' next past n lifetime last h names f' at' p.answers.3 p.answers.0 made q.next q.given gives q.leased view (puts.2).part (after_is ∙ (puts.2).after)

  answered-holds : target_of command.action ≡ OfObject n → (f' : Follower) (answer : PollAnswer) → IsFollowerAt w'.objects n f' → KeepsLease k settings.extractor next.made h.lease command.moment h.follower (state_of w).store (Ok answer) f' (state_of w').store → Holds n lifetime command.moment w'
  answered-holds names f' answer at' p = round-holds names f' next.made answer (state_of w').store refl at' p

  -- and one with a renewal after it
  twice-holds : target_of command.action ≡ OfObject n → (f' : Follower) (answer : PollAnswer) → IsFollowerAt w'.objects n f' → PollsTwice k settings.extractor next.made h.lease command.moment h.follower (state_of w).store (Ok answer) f' (state_of w').store → Holds n lifetime command.moment w'
  twice-holds names f' answer at' p =
      let its_rising = rising settings w w' command reply reached reached' next in
      let t = took k settings.extractor next.made h.lease command.moment h.follower w.catalogue w.faults (Ok answer) f' (state_of w').store p in
      let both = rounds k settings.extractor next.made h.lease command.moment h.follower w.catalogue w.faults (Ok answer) f' (state_of w').store p its_rising in
      let view : (p.middle).view ≡ f'.view = ap (λ (g : Follower). g.view) (sym (p.answers).1) in
      let same : t.latest ≡ h.has.latest = some-same t.latest h.has.latest (sym t.is ∙ h.has.is) in
      let last_is : w'.catalogue ≡ both.last = some-same w'.catalogue both.last both.there_last in
      let round = subst (λ (g : Follower). KeepsLease k settings.extractor p.first h.lease command.moment h.follower (state_of w).store (Ok p.answer) g p.between) (sym (p.answers).1) p.round in
      let leased' : f'.lease ≡ Some p.given = ap (λ (g : Follower). g.lease) (p.answers).1 ∙ p.leased in
      let written = subst (λ v. leased h.lease.lifetime (to_write (Some h.lease.id) (Some h.lease.lifetime) command.moment h.has.latest) ≡ Ok (Some v, p.given)) view
      (subst (λ v. leased h.lease.lifetime (to_write (Some h.lease.id) (Some h.lease.lifetime) command.moment v) ≡ Ok (Some (p.middle).view, p.given)) same t.written) in
      let put = subst (λ (v : VersionedManifest). both.between ≡ changed (PutManifest v.id v.manifest) w.catalogue) view both.put in
      elim both.parts [
        | inl none ↦ round-holds names f' p.first p.answer p.between (both.there ∙ ap Some (sym (last_is ∙ none))) at' round
        | inr again ↦
            let gives = subst (λ v. to_refresh (p.given).id (p.given).lifetime command.moment v ≡ Ok (Some again.0, again.1)) view again.2 in
            renewed-holds settings w w' command reply reached reached' next past n lifetime last h names f' at' round.answers.3 round.answers.0 p.given leased' written both.between put again.0 again.1 gives
            (last_is ∙ again.3) (again.4 ∙ ap (λ (v : VersionedManifest). v.id + 1) view) (ap latest_manifest last_is ∙ again.5)
      ]

  pub poll-holds : polls n command.action ≡ true → is_whole reply ≡ true → Holds n lifetime command.moment w'
  poll-holds asks whole =
      let is = polls-is n command.action asks in
      let does = subst (λ t. DoesBy k settings command t next.made (state_of w) reply (state_of w')) (ap target_of is) next.does in
      let acts = subst (λ c. ActsOn k settings n command c next.made (slice_get w.objects n) (state_of w) reply (state_of w')) (ap call_of is) does in
      let d = follower-did k settings n command Poll next.made (state_of w) reply (state_of w') (slice_get w.objects n) h.follower h.at acts in
      let p = d.acts.0 in
      let at' : IsFollowerAt w'.objects n d.new = subst (λ os. slice_get os n ≡ Some (AFollower d.new)) (sym d.objects) (get-set_same w.objects n (AFollower d.new) (AFollower h.follower) h.at) in
      let managed = subst (λ m. PollsAs k settings.extractor (is_managed m) next.made command.moment h.follower (state_of w).store p.result d.new (state_of w').store) h.managed p.does in
      by d.new p.result p.replied at' (managed.keeps h.lease h.live h.leased) where
        by : (f' : Follower) (r : Result PollAnswer SlateError) → reply ≡ reply_to polled_reply r → IsFollowerAt w'.objects n f' → PollsLeased k settings.extractor next.made h.lease command.moment h.follower (state_of w).store r f' (state_of w').store → Holds n lifetime command.moment w'
        by f' (Ok answer) replied at' (inl once) = answered-holds (ap target_of (polls-is n command.action asks)) f' answer at' once.round
        by f' (Ok answer) replied at' (inr twice) = twice-holds (ap target_of (polls-is n command.action asks)) f' answer at' twice
        by f' (Err e) replied at' p = absurd (refusal-not_whole e (sym (ap is_whole replied) ∙ whole))

-- ---- an opening
refusal-not_follower : (e : SlateError) (n at : ℕ) → refusal e ≡ replies.Follower n true at → ⊥
refusal-not_follower errors.NoMemory n at is = absurd (cc)
refusal-not_follower (errors.Backpressure unflushed limit) n at is = absurd (cc)
refusal-not_follower e n at is = absurd (cc)

followed-number : (m n at : ℕ) (answer : PollAnswer) → followed_reply m answer ≡ replies.Follower n true at → m ≡ n
followed-number m n at (Whole k) is = cc
followed-number m n at (Truncated k) is = absurd (cc)

module _ (settings : Settings) (w w' : World) (command : Command) (reply : Reply) (reached : IsReached w) (reached' : IsReached w') (next : NextWhole settings w command reply w') (managed : Option (ℕ × ℕ)) (skips : Bool) (lag : Option ℕ) (n at : ℕ) (is : command.action ≡ actions.Follow modes.ManagedCheckpoint managed skips lag) (opened : reply ≡ replies.Follower n true at) (past : ArePast w) where
  abbrev known : Knowledge Span
  known = by_catalogue w.stored w.catalogue

  abbrev lifetime : ℕ
  lifetime = lifetime_of managed

  abbrev Opens : Result (Follower × PollAnswer) SlateError → Type 0
  Opens r = OpensManaged known settings.extractor next.made lifetime (interval_of managed) skips (lag_of lag) command.moment (state_of w).store r (state_of w').store

  taken-holds : length w.objects ≡ n → (b : Follower × PollAnswer) → TakesLease known settings.extractor next.made lifetime skips (lag_of lag) command.moment (state_of w).store (Ok b) (state_of w').store → IsFollowerAt w'.objects n b.0 → Holds n (lifetime / 2) command.moment w'
  taken-holds number b t at' =
      let puts = (t.puts).some w.catalogue refl in
      let q = ((t.takes).some w.catalogue refl).2 in
      let after_is : w'.catalogue ≡ after_part next.made (checkpoint_changes (to_take lifetime command.moment) w.catalogue) w.catalogue = some-same w'.catalogue puts.0 puts.1 ∙ (puts.2).after in
      let latest = q.plan.0 in
      let is_latest = q.plan.1 in
      let its_rising = rising settings w w' command reply reached reached' next in
      let puts_it = take-recheckpoints lifetime command.moment latest in
      let put = b.0.view in
      let one = (puts.2).part ∙ puts-one (to_take lifetime command.moment) w.catalogue latest put q.given its_rising is_latest q.plan.2 puts_it in
      let c = new_checkpoint latest (Some lifetime) command.moment in
      let p = leased-is lifetime (to_write None (Some lifetime) command.moment latest) (Some put) q.given (taken-is lifetime command.moment latest (Some put, q.given) q.plan.2) in
      let plain = with_checkpoints (latest.manifest.checkpoints ++ c ∷ []) latest in
      let low = put-low latest plain c (Some put) p.0 p.1 in
      let view_is : put ≡ plain = some-same put plain low.1 in
      let given_is : lease_of lifetime c ≡ q.given = sym (ap (lease_of lifetime) low.2) ∙ p.2 in
      record {
        follower = b.0;
        at = at';
        live = t.answers.3;
        managed = t.answers.0;
        lease = q.given;
        leased = q.leased;
        half = ap (λ (l : Lease). l.lifetime / 2) (sym given_is);
        ahead = subst (λ (l : Lease). int_lt l.end (lease_end command.moment (lifetime / 2)) ≡ false) given_is (renewed-ahead command.moment lifetime (lifetime / 2) (omega arith));
        checkpoint = c;
        kept = put.manifest;
        has = subst (λ (l : Lease). HasCheckpoint w' l.id c put.manifest) given_is (record {
          latest = put;
          is = ap latest_manifest after_is ∙ put-latest_is (to_take lifetime command.moment) w.catalogue latest put q.given its_rising is_latest q.plan.2 puts_it next.made one;
          there = subst (λ (v : VersionedManifest). find (has_id c.id) v.manifest.checkpoints ≡ Some c) (sym view_is) (find-last (has_id c.id) c latest.manifest.checkpoints (new-apart w reached latest is_latest low.0) ((bytes_eq-Decides c.id c.id).1 refl));
          entry = ap (λ k. entry_at k w'.catalogue.manifests) (sym (put-id (to_take lifetime command.moment) w.catalogue latest put q.given its_rising is_latest q.plan.2 puts_it))
              ∙ (ap (λ (x : Catalogue). entry_at put.id x.manifests) after_is ∙ put-entry (to_take lifetime command.moment) w.catalogue latest put q.given its_rising is_latest q.plan.2 puts_it next.made one);
        });
        expires = ap (λ (l : Lease). Some l.end) given_is;
        tables = refl;
        low = (let free = low.0 in omega (arith, free));
        alone = alone-new settings w w' command reply reached reached' next past n q.given.id latest is_latest low.0 (ap (λ (l : Lease). l.id) (sym given_is)) added-alone;
      }
    where
      added-alone : (m : ℕ) → Names settings w w' command reply reached reached' next past m → m ≡ n
      added-alone m (inl other) = absurd (let both : OfObject m ≡ NewFollower modes.ManagedCheckpoint managed skips lag = sym other ∙ ap target_of is in cc)
      added-alone m (inr added) = added.0 ∙ number

  pub opening-holds : Holds n (lifetime / 2) command.moment w'
  opening-holds = by d.result d.replied d.does d.objects where
    d : AddsObject (OpensManaged known settings.extractor next.made lifetime (interval_of managed) skips (lag_of lag) command.moment) (λ (b : Follower × PollAnswer). AFollower b.0) (λ n (b : Follower × PollAnswer). followed_reply n b.1) (state_of w) reply (state_of w')
    d = subst (λ t. DoesBy known settings command t next.made (state_of w) reply (state_of w')) (ap target_of is) next.does

    by : (r : Result (Follower × PollAnswer) SlateError) → reply ≡ reply_to (λ (b : Follower × PollAnswer). followed_reply (length w.objects) b.1) r → Opens r → w'.objects ≡ w.objects ++ added (λ (b : Follower × PollAnswer). AFollower b.0) r → Holds n (lifetime / 2) command.moment w'
    by (Err e) replied does objects = absurd (refusal-not_follower e n at (sym replied ∙ opened))
    by (Ok b) replied does objects =
        let number : length w.objects ≡ n = followed-number (length w.objects) n at b.1 (sym replied ∙ opened) in
        let at' : IsFollowerAt w'.objects n b.0 = subst (λ i. IsFollowerAt w'.objects i b.0) number (subst (λ os. slice_get os (length w.objects) ≡ Some (AFollower b.0)) (sym objects) (get-seam w.objects (AFollower b.0))) in
        by-option (lease_refusal lifetime (interval_of managed))
        (λ none. taken-holds number b (does.takes none) at')
        (λ error refused. absurd (let c = some-of (λ error. (◌≡◌ {A = Result (Follower × PollAnswer) SlateError} (Ok b) (Err error)) × Untouched next.made (state_of w).store (state_of w').store) (lease_refusal lifetime (interval_of managed)) error refused does.refused in let no = c.0 in cc))
