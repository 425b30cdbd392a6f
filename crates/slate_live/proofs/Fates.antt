-- What a command leaves of the leases of a world's readers.
use Rattle.std.proofs.Common.{◌≡◌, ◌⊎◌, ◌++◌, ◌+◌, ◌∙◌, ◌<◌, ◌≤◌, inl, inr, ℕ, Bool, true, false, length, set, map, Option, Some, None, Result, Ok, Err, IfErr, IfOk, refl, sym, subst, ap, arith}
use Rattle.std.specs.List.{slice_get}
use Rattle.std.proofs.lemmas.List.{append-nil}
use Rattle.slate_store.specs.Changes.{after_part}
use Rattle.slate_store.specs.Checkpoints.{Plan, checkpoint_id}
use Rattle.slate_store.specs.Refusals.{checkpoint_changes}
use Rattle.slate_store.specs.Content.{IdsRise}
use Rattle.slate_store.specs.Objects.{latest_manifest}
use Rattle.slate_store.specs.declared.objects.VersionedManifest.{VersionedManifest}
use Rattle.slate_store.specs.declared.reader_modes.DbReaderMode.{DbReaderMode}
use Rattle.slate_store.specs.declared.reader_modes.DbReaderMode.TheVariants as modes
use Rattle.slate_errors.specs.Errors.{closed_error}
use Rattle.slate_errors.specs.declared.endings.Ended.{Ended}
use Rattle.slate_errors.specs.declared.errors.SlateError.{SlateError}
use Rattle.slate_model.specs.declared.answers.PollAnswer.{PollAnswer}
use Rattle.slate_model.specs.declared.leases.Lease.{Lease}
use Rattle.slate_model.specs.Catalogue.{Catalogue, Span}
use Rattle.slate_model.specs.Follow.{Polls, Rebuilds, SeesOwed, SeesPolled, built, unseen}
use Rattle.slate_model.specs.Follower.{Follower, is_managed, is_pinned}
use Rattle.slate_model.specs.Handle.{Handle}
use Rattle.slate_model.specs.Knowledge.{Knowledge}
use Rattle.slate_model.specs.Known.{Untouched}
use Rattle.slate_model.specs.Lease.{lease_refusal, to_keep, to_take}
use Rattle.slate_model.specs.Managed.{KeepsLease, OpensManaged, PollsTwice, TakesLease, poll_result}
use Rattle.slate_model.proofs.Rounds.{rounds, took}
use Rattle.std.specs.Option.{unwrap_or}
use Rattle.slate_model.specs.Object.{Object, Handle as AHandle, Snapshot as ASnapshot, Follower as AFollower}
use Rattle.slate_model.specs.Stores.{by_catalogue}
use Rattle.slate_model.specs.Write.{last_number}
use Rattle.slate_model.specs.declared.snapshots.HandleSnapshot.{HandleSnapshot}
use Rattle.slate_model.proofs.Leased.{put-id, put-latest_is, puts-one, written-is}
use Rattle.slate_model.proofs.Maintained.{Recheckpoints}
use Rattle.slate_model.proofs.Planned.{keep-recheckpoints, take-recheckpoints}
use Rattle.slate_model.proofs.Reduced.{some-same}
use Rattle.slate_script.specs.declared.commands.Command.{Command}
use Rattle.slate_script.specs.declared.replies.Reply.{Reply}
use Rattle.slate_live.specs.Calls.{Call, Write as WriteCall, Merge as MergeCall, Flush, Refresh, Compact, Get, Scan, Seek, Close, Poll, Status, FindTime, FindNumber, Nothing, call_of, at_snapshot, target_of}
use Rattle.slate_live.specs.declared.targets.Target.{Target}
use Rattle.slate_live.specs.declared.targets.Target.TheVariants.{NewHandle, NewSnapshot, NewFollower, NewCheckpoint, WholeStore, OfWrite, OfObject}
use Rattle.slate_live.specs.Commands.{ActsAt, ActsOn, DoesBy, OpensSnapshot, ReadsSnapshot, added, interval_of, lag_of, lifetime_of}
use Rattle.slate_live.specs.Followers.{ClosesAs, FollowerActs, PollsAs}
use Rattle.slate_live.specs.Represents.{IsFollowerAt, IsValid}
use Rattle.slate_live.specs.Settings.{Settings}
use Rattle.slate_live.specs.State.{State}
use Rattle.slate_live.specs.World.{World, state_of}
use Rattle.slate_live.proofs.Cases.{by-option, some-of}
use Rattle.slate_live.proofs.Distinct.{IsNew, plan-lease, taken-new}
use Rattle.slate_live.proofs.Naming.{follower-did, handle-acted}
use Rattle.slate_live.proofs.Places.{get-push, get-set}

-- a lease is of a checkpoint of which a reader with this number had a lease before
pub record WasLease (w : World) (n : ℕ) (lease' : Lease) : Type 0 where
  pub follower : Follower
  pub at : IsFollowerAt w.objects n follower
  pub lease : Lease
  pub leased : follower.lease ≡ Some lease
  pub same : lease'.id ≡ lease.id

-- or of one that the command committed, which was for that reader alone
pub record NewLease (w : World) (command : Command) (s' : State Span) (n : ℕ) (lease' : Lease) : Type 0 where
  pub latest : VersionedManifest
  pub is : latest_manifest w.catalogue ≡ Some latest
  pub low : latest.id < last_number
  pub id : lease'.id ≡ checkpoint_id (latest.id + 1)
  pub put : VersionedManifest
  pub catalogue : Catalogue
  pub after : s'.store.objects ≡ Some catalogue
  pub put_is : latest_manifest catalogue ≡ Some put
  pub up : latest.id + 1 ≤ put.id
  pub named : (target_of command.action ≡ OfObject n) ⊎ ((n ≡ length w.objects) × ((m : ℕ) → target_of command.action ≡ OfObject m → ⊥))

err-of : {A : Type 0} (r : Result A SlateError) (e : SlateError) (P : SlateError → Type 0) → r ≡ Err e → IfErr r P → P e
err-of {A} r e P is h = subst (λ x. IfErr x P) is h

module _ (settings : Settings) (w : World) (valid : IsValid w) (rising : IdsRise (map (λ e. e.0) w.catalogue.manifests)) (command : Command) (made : ℕ) (reply : Reply) (s' : State Span) where
  abbrev k : Knowledge Span
  k = by_catalogue w.stored w.catalogue

  abbrev Fate : ℕ → Lease → Type 0
  Fate n lease' = WasLease w n lease' ⊎ NewLease w command s' n lease'

  -- the fates of all leases
  abbrev Fates : Type 0
  Fates = (n : ℕ) (f : Follower) (lease : Lease) → slice_get s'.objects n ≡ Some (AFollower f) → f.lease ≡ Some lease → Fate n lease

  was : (n : ℕ) (f : Follower) (lease : Lease) → IsFollowerAt w.objects n f → f.lease ≡ Some lease → Fate n lease
  was n f lease at has = inl (record { follower = f; at = at; lease = lease; leased = has; same = refl })

  fates-same : s'.objects ≡ w.objects → Fates
  fates-same same n f lease at has = was n f lease (subst (λ os. slice_get os n ≡ Some (AFollower f)) same at) has

  fates-state : s' ≡ state_of w → Fates
  fates-state same = fates-same (ap (λ (s : State Span). s.objects) same)

  -- an object with a number was set
  fates-set : (m : ℕ) (x y : Object) → slice_get w.objects m ≡ Some x → s'.objects ≡ set w.objects m y → ((f : Follower) (lease : Lease) → y ≡ AFollower f → f.lease ≡ Some lease → Fate m lease) → Fates
  fates-set m x y there is mine n f lease at has =
      elim (get-set w.objects m n y (AFollower f) x there (subst (λ os. slice_get os n ≡ Some (AFollower f)) is at)) [
        | inl here ↦ subst (λ i. Fate i lease) (sym here.0) (mine f lease here.1 has)
        | inr other ↦ was n f lease other.1 has
      ]

  -- and one was added
  fates-added : {A : Type 0} (object : A → Object) (r : Result A SlateError) → s'.objects ≡ w.objects ++ added object r → ((b : A) (f : Follower) (lease : Lease) → r ≡ Ok b → object b ≡ AFollower f → f.lease ≡ Some lease → Fate (length w.objects) lease) → Fates
  fates-added object (Ok b) is mine n f lease at has =
      elim (get-push w.objects (object b) (AFollower f) n (subst (λ os. slice_get os n ≡ Some (AFollower f)) is at)) [
        | inl old ↦ was n f lease old has
        | inr new ↦ subst (λ i. Fate i lease) (sym new.0) (mine b f lease refl new.1 has)
      ]
  fates-added object (Err e) is mine n f lease at has = was n f lease (subst (λ os. slice_get os n ≡ Some (AFollower f)) (is ∙ append-nil w.objects) at) has

  -- a lease that a plan gave which put a manifest
  new-lease : (plan : VersionedManifest → Plan Lease) (n : ℕ) (latest : VersionedManifest) (next : Option VersionedManifest) (given : Lease) (after : Catalogue) → latest_manifest w.catalogue ≡ Some latest → plan latest ≡ Ok (next, given) → Recheckpoints latest (plan latest) → IsNew latest next given →
      s'.store.objects ≡ Some after → after ≡ after_part made (checkpoint_changes plan w.catalogue) w.catalogue → made ≡ 1 → (target_of command.action ≡ OfObject n) ⊎ ((n ≡ length w.objects) × ((m : ℕ) → target_of command.action ≡ OfObject m → ⊥)) → Fate n given
  new-lease plan n latest next given after is gives puts new there after_is one named =
      let put = new.put in
      let gives_it : plan latest ≡ Ok (Some put, given) = gives ∙ ap (λ x. Ok (x, given)) new.puts in
      inr (record {
        latest = latest;
        is = is;
        low = new.low;
        id = new.id;
        put = put;
        catalogue = after;
        after = there;
        put_is = ap latest_manifest after_is ∙ put-latest_is plan w.catalogue latest put given rising is gives_it puts made one;
        up = (let id = put-id plan w.catalogue latest put given rising is gives_it puts in omega (arith, id));
        named = named;
      })

  -- where all of a plan's changes are made that puts a manifest, one is
  all-one : (plan : VersionedManifest → Plan Lease) (latest : VersionedManifest) (next : Option VersionedManifest) (given : Lease) → latest_manifest w.catalogue ≡ Some latest → plan latest ≡ Ok (next, given) → Recheckpoints latest (plan latest) → IsNew latest next given → made ≡ length (checkpoint_changes {L = Span} plan w.catalogue) → made ≡ 1
  all-one plan latest next given is gives puts new part = part ∙ puts-one plan w.catalogue latest new.put given rising is (gives ∙ ap (λ x. Ok (x, given)) new.puts) puts

  -- ---- what a follower does
  module _ (n : ℕ) (f f' : Follower) (names : target_of command.action ≡ OfObject n) (at : slice_get w.objects n ≡ Some (AFollower f)) where
    -- it has its old lease
    old : (lease' : Lease) → f'.lease ≡ f.lease → f'.lease ≡ Some lease' → Fate n lease'
    old lease' same has = was n f lease' at (sym same ∙ has)

    -- or one that the plan of its poll gave
    given-by : (lease lease' : Lease) (latest : VersionedManifest) (next : Option VersionedManifest) (given : Lease) (after : Catalogue) → f.lease ≡ Some lease → latest_manifest w.catalogue ≡ Some latest → to_keep f.view lease command.moment latest ≡ Ok (next, given) → f'.lease ≡ Some given → f'.lease ≡ Some lease' →
        s'.store.objects ≡ Some after → after ≡ after_part made (checkpoint_changes (to_keep f.view lease command.moment) w.catalogue) w.catalogue → (IsNew latest next given → made ≡ 1) → Fate n lease'
    given-by lease lease' latest next given after leased is gives has has' there after_is one =
        let same : given ≡ lease' = some-same given lease' (sym has ∙ has') in
        subst (Fate n) same
        (elim (plan-lease f.view latest lease command.moment next given gives) [
          | inl kept ↦ inl (record { follower = f; at = at; lease = lease; leased = leased; same = kept })
          | inr new ↦ new-lease (to_keep f.view lease command.moment) n latest next given after is gives (keep-recheckpoints f.view lease command.moment latest) new there after_is (one new) (inl names)
        ])

    keeps-fate : (lease lease' : Lease) (r : Result PollAnswer SlateError) → f.lease ≡ Some lease → KeepsLease k settings.extractor made lease command.moment f (state_of w).store r f' s'.store → f'.lease ≡ Some lease' → Fate n lease'
    keeps-fate lease lease' (Ok answer) leased p has =
        let puts = (p.puts).some w.catalogue refl in
        let t = (p.keeps).some w.catalogue refl in
        let q = t.2 in
        given-by lease lease' q.latest q.next q.given puts.0 leased q.is_latest q.plan q.leased has puts.1 (puts.2).after
        (λ new. all-one (to_keep f.view lease command.moment) q.latest q.next q.given q.is_latest q.plan (keep-recheckpoints f.view lease command.moment q.latest) new (puts.2).part)
    keeps-fate lease lease' (Err e) leased p has =
        let puts = (p.puts).some w.catalogue refl in
        elim p.lapses [
          | inl same ↦ old lease' same has
          | inr given ↦ given-by lease lease' (given.3).0 given.1 given.2 puts.0 leased (given.3).1 (given.3).2 given.4 has puts.1 (puts.2).after (λ new. given.0)
        ]

    -- where a renewal follows the round, it has the one that the round took
    twice-fate : (lease lease' : Lease) (r : Result PollAnswer SlateError) → PollsTwice k settings.extractor made lease command.moment f (state_of w).store r f' s'.store → f'.lease ≡ Some lease' → Fate n lease'
    twice-fate lease lease' r p has =
        let t = took k settings.extractor made lease command.moment f w.catalogue w.faults r f' s'.store p in
        let both = rounds k settings.extractor made lease command.moment f w.catalogue w.faults r f' s'.store p rising in
        let q = written-is (Some lease.id) lease.lifetime command.moment t.latest (Some (p.middle).view) p.given t.written in
        let same : p.given ≡ lease' = some-same p.given lease' (sym p.leased ∙ (sym (kept r p.answers p.failed) ∙ has)) in
        let next_id : (p.middle).view.id ≡ t.latest.id + 1 = ap (λ (v : Option VersionedManifest). (unwrap_or v (p.middle).view).id) q.1 in
        let put : (put : VersionedManifest) × (latest_manifest both.last ≡ Some put) × (t.latest.id + 1 ≤ put.id) = elim both.parts [
          | inl same ↦ ((p.middle).view, ap latest_manifest same ∙ both.next_is, omega (arith, next_id))
          | inr again ↦ (again.0, again.5, (let id = again.4 in omega (arith, next_id, id)))
        ] in
        subst (Fate n) same (inr (record {
          latest = t.latest;
          is = t.is;
          low = q.0;
          id = ap (λ (l : Lease). l.id) q.2;
          put = put.0;
          catalogue = both.last;
          after = both.there_last;
          put_is = put.1;
          up = put.2;
          named = inl names;
        })) where
          kept : (r : Result PollAnswer SlateError) → IfOk r (λ a. (a ≡ p.answer) × (f' ≡ p.middle)) → IfErr r (λ error. f' ≡ record p.middle { result = poll_result error }) → f'.lease ≡ (p.middle).lease
          kept (Ok a) answers failed = ap (λ (x : Follower). x.lease) answers.1
          kept (Err e) answers failed = ap (λ (x : Follower). x.lease) failed

    -- a poll of one that keeps no checkpoint leaves it as it was, or without a lease
    unleased : (r : Result PollAnswer SlateError) (lease' : Lease) → Rebuilds k settings.extractor f.mode f.skips false f.lag (SeesPolled k f) (λ objects line. Unit {0}) (state_of w).store (built f' r) s'.store → IfErr r (λ error. f' ≡ f) → f'.lease ≡ Some lease' → Fate n lease'
    unleased (Ok answer) lease' b failed has = absurd (let none = b.answer.3 in cc)
    unleased (Err e) lease' b failed has = old lease' (ap (λ (x : Follower). x.lease) failed) has

    polls-plainly : (r : Result PollAnswer SlateError) (lease' : Lease) → Polls k settings.extractor f (state_of w).store r f' s'.store → f'.lease ≡ Some lease' → Fate n lease'
    polls-plainly r lease' p has =
        by-option f.result
        (λ live. by live (is_pinned f.mode) refl)
        (λ q shut. old lease' (ap (λ (x : Follower). x.lease) (err-of r (closed_error q) (λ e. f' ≡ f) (some-of (λ q. (r ≡ Err (closed_error q)) × (s'.store ≡ (state_of w).store)) f.result q shut p.closed).0 p.failed)) has) where
          by : f.result ≡ None → (pinned : Bool) → is_pinned f.mode ≡ pinned → Fate n lease'
          by live true stays = old lease' (ap (λ (x : Follower). x.lease) (p.pinned live stays).1) has
          by live false free = unleased r lease' (p.rebuilds live free) p.failed has

    polls-fate : (r : Result PollAnswer SlateError) (lease' : Lease) (managed : Bool) → is_managed f.mode ≡ managed → PollsAs k settings.extractor managed made command.moment f (state_of w).store r f' s'.store → f'.lease ≡ Some lease' → Fate n lease'
    polls-fate r lease' true managed p has =
        by-option f.result
        (λ live. by-option f.lease
        (λ none. absurd (let there = (valid.followers n f at).2 managed live in cc))
        (λ lease leased. elim (p.keeps lease live leased) [
          | inl once ↦ keeps-fate lease lease' r leased once.round has
          | inr twice ↦ twice-fate lease lease' r twice has
        ]))
        (λ q shut. old lease' (ap (λ (x : Follower). x.lease) (some-of (λ q. (r ≡ Err (closed_error q)) × (f' ≡ f) × Untouched made (state_of w).store s'.store) f.result q shut p.closed).1) has)
    polls-fate r lease' false unmanaged p has = polls-plainly r lease' p.0 has

    closes-fate : (answer : Ended) (lease' : Lease) (managed : Bool) → ClosesAs k managed made f (state_of w).store answer f' s'.store → f'.lease ≡ Some lease' → Fate n lease'
    closes-fate answer lease' true c has = old lease' (ap (λ (x : Follower). x.lease) c.closed) has
    closes-fate answer lease' false c has = old lease' (ap (λ (x : Follower). x.lease) c.1) has

    -- one that is as before
    stays-fate : (lease' : Lease) → f' ≡ f → f'.lease ≡ Some lease' → Fate n lease'
    stays-fate lease' same has = old lease' (ap (λ (x : Follower). x.lease) same) has

    follower-fate : (call : Call) (lease' : Lease) → FollowerActs k settings command.moment call made f (state_of w).store w.writes reply f' s'.store s'.writes → f'.lease ≡ Some lease' → Fate n lease'
    follower-fate Poll lease' a has = polls-fate (a.0).result lease' (is_managed f.mode) refl (a.0).does has
    follower-fate (Close t) lease' a has = closes-fate (a.0).answer lease' (is_managed f.mode) (a.0).does has
    follower-fate (Get key remote snapshot) lease' a has = stays-fate lease' a.1 has
    follower-fate (Scan range order remote snapshot) lease' a has = stays-fate lease' a.1 has
    follower-fate (Seek range take key order remote snapshot) lease' a has = stays-fate lease' a.1 has
    follower-fate (WriteCall ops) lease' a has = stays-fate lease' a.1 has
    follower-fate (MergeCall op) lease' a has = stays-fate lease' a.1 has
    follower-fate (Flush t) lease' a has = stays-fate lease' a.1 has
    follower-fate Refresh lease' a has = stays-fate lease' a.1 has
    follower-fate Compact lease' a has = stays-fate lease' a.1 has
    follower-fate Status lease' a has = stays-fate lease' a.1 has
    follower-fate (FindTime number find) lease' a has = stays-fate lease' a.1 has
    follower-fate (FindNumber seconds find) lease' a has = stays-fate lease' a.1 has
    follower-fate Nothing lease' a has = stays-fate lease' a.1 has

  -- ---- a command, by where it goes
  handle-fates : (n : ℕ) (call : Call) (h : Handle) → slice_get w.objects n ≡ Some (AHandle h) → ActsAt k settings n command call made (AHandle h) (state_of w) reply s' → Fates
  handle-fates n call h at a =
      let d = handle-acted k settings n command call made (state_of w) reply s' h a in
      fates-set n (AHandle h) (AHandle d.new) at d.objects (λ f lease same has. absurd (cc))

  snapshot-fates : (x : HandleSnapshot) (call : Call) (found : Option Object) → slice_get w.objects x.handle ≡ found → ReadsSnapshot k settings x command call made found (state_of w) reply s' → Fates
  snapshot-fates x call (Some (AHandle h)) at a = handle-fates x.handle (at_snapshot x.number call) h at a
  snapshot-fates x call (Some (ASnapshot y)) at a = fates-state a.2
  snapshot-fates x call (Some (AFollower f)) at a = fates-state a.2
  snapshot-fates x call None at a = fates-state a.2

  on-fates : (n : ℕ) (found : Option Object) → target_of command.action ≡ OfObject n → slice_get w.objects n ≡ found → ActsOn k settings n command (call_of command.action) made found (state_of w) reply s' → Fates
  on-fates n None names at a = fates-state a.2
  on-fates n (Some (AHandle h)) names at a = handle-fates n (call_of command.action) h at a
  on-fates n (Some (ASnapshot x)) names at a = snapshot-fates x (call_of command.action) (slice_get w.objects x.handle) refl a
  on-fates n (Some (AFollower f)) names at a =
      let d = follower-did k settings n command (call_of command.action) made (state_of w) reply s' (Some (AFollower f)) f refl a in
      fates-set n (AFollower f) (AFollower d.new) at d.objects
      (λ g lease same has. let it : d.new ≡ g = cc in follower-fate n f d.new names at (call_of command.action) lease d.acts (ap (λ (x : Follower). x.lease) it ∙ has))

  sampled-fates : (n : ℕ) (found : Option Object) → OpensSnapshot n made found (state_of w) reply s' → Fates
  sampled-fates n (Some (AHandle h)) d = fates-added _ (d.0).result (d.0).objects (λ b f lease is same has. absurd (cc))
  sampled-fates n (Some (ASnapshot x)) d = fates-state d.2
  sampled-fates n (Some (AFollower f)) d = fates-state d.2
  sampled-fates n None d = fates-state d.2

  -- an opening of a reader that keeps no checkpoint gives no lease
  opened-unleased : (mode : DbReaderMode) (skips : Bool) (lag : ℕ) (r : Result (Follower × PollAnswer) SlateError) → Rebuilds k settings.extractor mode skips true lag (SeesOwed k mode skips lag) unseen (state_of w).store r s'.store → s'.objects ≡ w.objects ++ added (λ (b : Follower × PollAnswer). AFollower b.0) r → Fates
  opened-unleased mode skips lag r d objects =
      fates-added (λ (b : Follower × PollAnswer). AFollower b.0) r objects
      (λ b f lease is same has. absurd (let answer = subst (λ x. IfOk x (λ (b : Follower × PollAnswer). b.0.lease ≡ None)) is (unleased-answer r d) in let it : b.0 ≡ f = cc in let no = sym (ap (λ (x : Follower). x.lease) it) ∙ answer in cc)) where
        unleased-answer : (r : Result (Follower × PollAnswer) SlateError) → Rebuilds k settings.extractor mode skips true lag (SeesOwed k mode skips lag) unseen (state_of w).store r s'.store → IfOk r (λ (b : Follower × PollAnswer). b.0.lease ≡ None)
        unleased-answer (Ok b) d = d.answer.3
        unleased-answer (Err e) d = tt

  -- one that does gives a new one
  took-fate : (lifetime : ℕ) (skips : Bool) (lag : ℕ) (b : Follower × PollAnswer) (lease : Lease) → ((m : ℕ) → target_of command.action ≡ OfObject m → ⊥) → TakesLease k settings.extractor made lifetime skips lag command.moment (state_of w).store (Ok b) s'.store → b.0.lease ≡ Some lease → Fate (length w.objects) lease
  took-fate lifetime skips lag b lease alone t has =
      let puts = (t.puts).some w.catalogue refl in
      let q = ((t.takes).some w.catalogue refl).2 in
      let latest = q.plan.0 in
      let same : q.given ≡ lease = some-same q.given lease (sym q.leased ∙ has) in
      let new = taken-new lifetime command.moment latest (Some b.0.view) q.given q.plan.2 in
      let puts_it = take-recheckpoints lifetime command.moment latest in
      subst (Fate (length w.objects)) same
      (new-lease (to_take lifetime command.moment) (length w.objects) latest (Some b.0.view) q.given puts.0 q.plan.1 q.plan.2 puts_it new puts.1 (puts.2).after
      (all-one (to_take lifetime command.moment) latest (Some b.0.view) q.given q.plan.1 q.plan.2 puts_it new (puts.2).part) (inr (refl, alone)))

  took-fates : (lifetime interval : ℕ) (skips : Bool) (lag : ℕ) (r : Result (Follower × PollAnswer) SlateError) → ((m : ℕ) → target_of command.action ≡ OfObject m → ⊥) → OpensManaged k settings.extractor made lifetime interval skips lag command.moment (state_of w).store r s'.store → s'.objects ≡ w.objects ++ added (λ (b : Follower × PollAnswer). AFollower b.0) r → Fates
  took-fates lifetime interval skips lag r alone d objects =
      fates-added (λ (b : Follower × PollAnswer). AFollower b.0) r objects
      (λ b f lease is same has.
      let it : b.0 ≡ f = cc in
      by-option (lease_refusal lifetime interval)
      (λ none. took-fate lifetime skips lag b lease alone (subst (λ x. TakesLease k settings.extractor made lifetime skips lag command.moment (state_of w).store x s'.store) is (d.takes none)) (ap (λ (x : Follower). x.lease) it ∙ has))
      (λ error refused. absurd (let c = some-of (λ error. (r ≡ Err error) × Untouched made (state_of w).store s'.store) (lease_refusal lifetime interval) error refused d.refused in let no : ◌≡◌ {A = Result (Follower × PollAnswer) SlateError} (Ok b) (Err error) = sym is ∙ c.0 in cc)))

  fates-by : (target : Target) → target_of command.action ≡ target → DoesBy k settings command target made (state_of w) reply s' → Fates
  fates-by (NewHandle keeps_log) names d = fates-added AHandle d.result d.objects (λ b f lease is same has. absurd (cc))
  fates-by (NewSnapshot n) names d = sampled-fates n (slice_get w.objects n) d
  fates-by (NewFollower modes.FollowLatest managed skips lag) names d = opened-unleased modes.FollowLatest skips (lag_of lag) (d.0).result (d.0).does (d.0).objects
  fates-by (NewFollower (modes.Checkpoint id) managed skips lag) names d = opened-unleased (modes.Checkpoint id) skips (lag_of lag) (d.0).result (d.0).does (d.0).objects
  fates-by (NewFollower modes.ManagedCheckpoint managed skips lag) names d =
      took-fates (lifetime_of managed) (interval_of managed) skips (lag_of lag) d.result (λ m is. absurd (let no = sym names ∙ is in cc)) d.does d.objects
  fates-by (NewCheckpoint lifetime) names d = fates-same d.objects
  fates-by WholeStore names d = fates-same d.objects
  fates-by (OfWrite n) names d = fates-state d.2
  fates-by (OfObject n) names d = on-fates n (slice_get w.objects n) names refl d

  pub fates : DoesBy k settings command (target_of command.action) made (state_of w) reply s' → Fates
  fates d = fates-by (target_of command.action) refl d
