-- A reader that is polled in time keeps its checkpoint.
use Rattle.std.proofs.Common.{◌≡◌, ◌≢◌, ◌⊎◌, ◌++◌, ◌∷◌, ◌+◌, ◌∙◌, ◌≤◌, [], inl, inr, ℕ, ℤ, Bool, true, false, cond, not, length, List, map, find, ◌==◌, ◌<◌, Option, Some, None, Ok, refl, sym, subst, ap, arith}
use Rattle.std.proofs.lemmas.Bool.{eq-eqb, eqb-true}
use Rattle.std.specs.List.{filter, slice_get}
use Rattle.slate_store.specs.Checkpoints.{Plan, found, has_id, lease_end, new_checkpoint, refreshed, to_delete, to_end, to_refresh, to_take_out, to_write, with_checkpoints, without_id}
use Rattle.slate_store.specs.declared.objects.VersionedManifest.{VersionedManifest}
use Rattle.slate_model.specs.Begun.{Begun}
use Rattle.slate_model.specs.declared.leases.Lease.{Lease}
use Rattle.slate_model.specs.Lease.{is_due, leased, replaces, to_keep}
use Rattle.slate_store.proofs.Carried.{Carried, carried, entry-carried}
use Rattle.slate_store.proofs.Latest.{its-objects}
use Rattle.slate_store.specs.Checkpoints.{is_expired}
use Rattle.slate_store.specs.Changes.{after_part}
use Rattle.slate_store.specs.Content.{IdsRise, HasItsTables, IsPinned}
use Rattle.slate_store.specs.Objects.{Objects, entry_at, latest_manifest}
use Rattle.slate_store.specs.Sweeps.{has_expired, without_expired}
use Rattle.slate_store.specs.declared.objects.Manifest.{Manifest}
use Rattle.slate_model.specs.Catalogue.{Catalogue}
use Rattle.slate_model.specs.Follower.{Follower}
use Rattle.slate_model.specs.Object.{Follower as AFollower}
use Rattle.slate_model.specs.Tables.{AreStored}
use Rattle.slate_model.proofs.Carrying.{Has}
use Rattle.slate_model.proofs.Moving.{known-stored}
use Rattle.slate_model.proofs.Reduced.{some-same}
use Rattle.slate_script.specs.declared.commands.Command.{Command}
use Rattle.slate_script.specs.declared.replies.Reply.{Reply}
use Rattle.slate_live.specs.Calls.{call_of, target_of}
use Rattle.slate_live.specs.declared.targets.Target.TheVariants.{OfObject, WholeStore}
use Rattle.slate_live.proofs.Untouched.{Disturbs}
use Rattle.slate_live.specs.Next.{HasLease, IsFresh, NextBegun, NextStep, StepLeaves}
use Rattle.slate_live.specs.Represents.{IsFollowerAt, IsReached}
use Rattle.slate_live.specs.Settings.{Settings}
use Rattle.slate_live.specs.World.{NextWhole, World, state_of}
use Rattle.slate_live.proofs.Finding.{find-all, find-append, find-filter, find-map, found-id, has-other}
use Rattle.slate_store.specs.Checkpoints.{checkpoint_id}
use Rattle.slate_model.specs.Write.{last_number}
use Rattle.slate_live.proofs.Distinct.{ids-differ}
use Rattle.slate_live.proofs.Commencing.{begun-from}
use Rattle.slate_live.proofs.Fates.{NewLease, fates}
use Rattle.slate_live.proofs.Carrying.{Changes, Spares, does-carries, put-is}
use Rattle.slate_model.proofs.Leased.{leased-is, written-is}
use Rattle.slate_store.specs.declared.objects.Checkpoint.{Checkpoint}

pub refreshed-id : (id other : List ℕ) (end : ℤ) (x : Checkpoint) → has_id id (refreshed other end x) ≡ has_id id x
refreshed-id id other end x = by (has_id other x) where
  by : (b : Bool) → has_id id (cond b (record x { expire_ms = Some end }) x) ≡ has_id id x
  by true = refl
  by false = refl

refreshed-other : (other : List ℕ) (end : ℤ) (c : Checkpoint) → has_id other c ≡ false → refreshed other end c ≡ c
refreshed-other other end c not_it = by (has_id other c) not_it where
  by : (b : Bool) → b ≡ false → cond b (record c { expire_ms = Some end }) c ≡ c
  by true is = absurd (cc)
  by false is = refl

-- a plan that puts nothing isn't one that puts this
puts-none : {A : Type 0} (x y : A) (next : VersionedManifest) → ◌≡◌ {A = Plan A} (Ok (None, x)) (Ok (Some next, y)) → ⊥
puts-none {A} x y next gives =
    let both : ◌≡◌ {A = Option VersionedManifest × A} (None, x) (Some next, y) = cc in
    let first = ap (λ (p : Option VersionedManifest × A). p.0) both in
    absurd (cc)

-- ---- what the plan of another reader leaves
module _ (id other : List ℕ) (c : Checkpoint) (latest : VersionedManifest) (there : found id latest ≡ Some c) (apart : other ≢ id) where
  other-not : has_id other c ≡ false
  other-not = has-other id other c (found-id id c latest.manifest.checkpoints there) apart

  abbrev Stays : VersionedManifest → Type 0
  Stays next = find (has_id id) next.manifest.checkpoints ≡ Some c

  without-stays : find (has_id id) (without_id other latest.manifest.checkpoints) ≡ Some c
  without-stays = find-filter (has_id id) (λ checkpoint. not (has_id other checkpoint)) c latest.manifest.checkpoints there (ap not other-not)

  pub written-stays : (lifetime : Option ℕ) (moment : ℤ) (next : VersionedManifest) (answer : Checkpoint) → to_write (Some other) lifetime moment latest ≡ Ok (Some next, answer) → Stays next
  written-stays lifetime moment next answer gives =
      let checkpoint = new_checkpoint latest lifetime moment in
      subst Stays (put-is latest (with_checkpoints (without_id other latest.manifest.checkpoints ++ checkpoint ∷ []) latest) checkpoint next answer gives)
      (find-append (has_id id) c (without_id other latest.manifest.checkpoints) (checkpoint ∷ []) without-stays)

  pub refreshed-stays : (lifetime : ℕ) (moment : ℤ) (next : VersionedManifest) (answer : Checkpoint) → to_refresh other lifetime moment latest ≡ Ok (Some next, answer) → Stays next
  refreshed-stays lifetime moment next answer gives = by (found other latest) gives where
    end : ℤ
    end = lease_end moment lifetime

    by : (was : Option Checkpoint) → to_end other end latest was ≡ Ok (Some next, answer) → Stays next
    by None gives = absurd (cc)
    by (Some x) gives =
        subst Stays (put-is latest (with_checkpoints (map (refreshed other end) latest.manifest.checkpoints) latest) (record x { expire_ms = Some end }) next answer gives)
        (find-map (has_id id) (refreshed other end) (refreshed-id id other end) c latest.manifest.checkpoints there ∙ ap Some (refreshed-other other end c other-not))

  deleted-stays : (next : VersionedManifest) → to_delete other latest ≡ Ok (Some next, tt) → Stays next
  deleted-stays next gives = by (found other latest) gives where
    by : (was : Option Checkpoint) → to_take_out other latest was ≡ Ok (Some next, tt) → Stays next
    by None gives = absurd (puts-none tt tt next gives)
    by (Some x) gives = subst Stays (put-is latest (with_checkpoints (without_id other latest.manifest.checkpoints) latest) tt next tt gives) without-stays

-- the plan of a poll, by whether it replaces the checkpoint, and else by whether the lease is due
abbrev plan_by : (lease : Lease) (moment : ℤ) (latest : VersionedManifest) (replaced due : Bool) → Plan Lease
plan_by lease moment latest replaced due =
    cond replaced (leased lease.lifetime (to_write (Some lease.id) (Some lease.lifetime) moment latest)) (cond due (leased lease.lifetime (to_refresh lease.id lease.lifetime moment latest)) (Ok (None, lease)))

kept-stays : (id : List ℕ) (lease : Lease) (c : Checkpoint) (view latest : VersionedManifest) (moment : ℤ) → found id latest ≡ Some c → lease.id ≢ id → (next : VersionedManifest) (given : Lease) → to_keep view lease moment latest ≡ Ok (Some next, given) → find (has_id id) next.manifest.checkpoints ≡ Some c
kept-stays id lease c view latest moment there apart next given gives = by (replaces view lease moment latest) (is_due moment lease) gives where
  by : (replaced due : Bool) → plan_by lease moment latest replaced due ≡ Ok (Some next, given) → find (has_id id) next.manifest.checkpoints ≡ Some c
  by true due gives = let p = leased-is lease.lifetime (to_write (Some lease.id) (Some lease.lifetime) moment latest) (Some next) given gives in written-stays id lease.id c latest there apart (Some lease.lifetime) moment next p.0 p.1
  by false true gives = let p = leased-is lease.lifetime (to_refresh lease.id lease.lifetime moment latest) (Some next) given gives in refreshed-stays id lease.id c latest there apart lease.lifetime moment next p.0 p.1
  by false false gives = absurd (puts-none lease given next gives)

-- ---- a command that leaves a checkpoint
-- what is found under an id
abbrev pub Finds : List ℕ → Checkpoint → List Checkpoint → Type 0
Finds id c cs = find (has_id id) cs ≡ Some c

unexpired-found : (id : List ℕ) (c : Checkpoint) (latest : VersionedManifest) (moment : ℤ) → found id latest ≡ Some c → is_expired moment c ≡ false → Finds id c (without_expired moment latest).manifest.checkpoints
unexpired-found id c latest moment there lasts = by (has_expired moment latest) where
  by : (b : Bool) → Finds id c (cond b (with_checkpoints (filter (λ checkpoint. not (is_expired moment checkpoint)) latest.manifest.checkpoints) latest) latest).manifest.checkpoints
  by true = find-filter (has_id id) (λ checkpoint. not (is_expired moment checkpoint)) c latest.manifest.checkpoints there (ap not lasts)
  by false = there

-- A command leaves it that neither polls nor closes the reader that keeps it, and sweeps at a moment at which it isn't over.
pub spared : (w : World) (command : Command) (latest : VersionedManifest) (id : List ℕ) (c : Checkpoint) → found id latest ≡ Some c → (latest.id < last_number → checkpoint_id (latest.id + 1) ≢ id) → (target_of command.action ≡ WholeStore → is_expired command.moment c ≡ false) →
    ((n : ℕ) (f : Follower) (lease : Lease) → target_of command.action ≡ OfObject n → Disturbs (call_of command.action) → IsFollowerAt w.objects n f → f.lease ≡ Some lease → lease.id ≢ id) → Spares (Has (Finds id c)) w latest command
spared w command latest id c there other lasts apart = record {
  kept = there;
  flushed = λ handle last some. there;
  compacted = λ table. there;
  opened = λ name last. there;
  swept = λ sweeps. unexpired-found id c latest command.moment there (lasts sweeps);
  added = λ checkpoint. find-append (has_id id) c latest.manifest.checkpoints (checkpoint ∷ []) there;
  polled = λ n f lease given next names asks at has gives. kept-stays id lease c f.view latest command.moment there (apart n f lease names (subst Disturbs (sym asks) tt) at has) next given gives;
  renewed = λ n f lease given next again checkpoint names asks at has written holds gives.
      let q = written-is (Some lease.id) lease.lifetime command.moment latest (Some next) given written in
      refreshed-stays id given.id c next holds (λ same. other q.0 (sym (ap (λ (l : Lease). l.id) q.2) ∙ same)) given.lifetime command.moment again checkpoint gives;
  closed = λ n f lease next flush_type names asks at live has gives. deleted-stays id lease.id c latest there (apart n f lease names (subst Disturbs (sym asks) tt) at has) next gives;
}

stored-tables : (o : Objects) (m : Manifest) → HasItsTables o m → AreStored o m.tables
stored-tables o m tables k d less none = let some = (tables.stored k d less).2 in absurd (cc (some, none))

-- what is known of a checkpoint of a world: it is the latest manifest's, and the manifest that it keeps is stored
pub record HasCheckpoint (w : World) (id : List ℕ) (c : Checkpoint) (kept : Manifest) : Type 0 where
  pub latest : VersionedManifest
  pub is : latest_manifest w.catalogue ≡ Some latest
  pub there : found id latest ≡ Some c
  pub entry : entry_at c.manifest_id w.catalogue.manifests ≡ Some kept

module _ (w : World) (reached : IsReached w) (id : List ℕ) (c : Checkpoint) (kept : Manifest) (has : HasCheckpoint w id c kept) where
  abbrev o : Objects
  o = reached.1

  latest_is : latest_manifest o ≡ Some has.latest
  latest_is = ap latest_manifest (reached.3).catalogue ∙ has.is

  pub its-pin : IsPinned o has.latest c
  its-pin = find-all (IsPinned o has.latest) (has_id id) c has.latest.manifest.checkpoints (its-objects o has.latest reached.2 latest_is).pinned has.there

  -- the tables of the manifest that it keeps are stored
  pub kept-stored : AreStored w.catalogue kept.tables
  kept-stored =
      let same : its-pin.manifest ≡ kept = some-same its-pin.manifest kept (sym its-pin.kept ∙ (ap (λ (x : Catalogue). entry_at c.manifest_id x.manifests) (reached.3).catalogue ∙ has.entry)) in
      subst (λ (m : Manifest). AreStored w.catalogue m.tables) same
      (subst (λ (x : Catalogue). AreStored x its-pin.manifest.tables) (reached.3).catalogue (known-stored o its-pin.manifest.tables (stored-tables o its-pin.manifest its-pin.tables)))

-- after a command that leaves it the checkpoint is there, and keeps what it kept
module _ (settings : Settings) (w w' : World) (command : Command) (reply : Reply) (reached : IsReached w) (reached' : IsReached w') (next : NextWhole settings w command reply w') where
  pub rising : IdsRise (map (λ e. e.0) w.catalogue.manifests)
  rising = subst (λ (x : Catalogue). IdsRise (map (λ e. e.0) x.manifests)) (reached.3).catalogue (reached.2).manifests

  -- what the latest manifest has, it has after it
  module _ (P : Manifest → Type 0) (latest : VersionedManifest) (is : latest_manifest w.catalogue ≡ Some latest) (spares : Spares P w latest command) where
    made-of : Changes P settings w reached.0 latest rising is command spares next.made reply (state_of w')
    made-of = does-carries P settings w reached.0 latest rising is command spares next.made reply (state_of w') next.does

    catalogue-is : w'.catalogue ≡ after_part made-of.part made-of.all w.catalogue
    catalogue-is = some-same w'.catalogue (after_part made-of.part made-of.all w.catalogue) made-of.after

    pub latest-after : Carried P latest.id w'.catalogue
    latest-after = subst (Carried P latest.id) (sym catalogue-is) (carried P made-of.part made-of.all w.catalogue latest rising is spares.kept made-of.carry)

    pub entry-after : (k : ℕ) → k ≤ latest.id → (entry_at k w'.catalogue.manifests ≡ None) ⊎ (entry_at k w'.catalogue.manifests ≡ entry_at k w.catalogue.manifests)
    entry-after k low = subst (λ (x : Catalogue). (entry_at k x.manifests ≡ None) ⊎ (entry_at k x.manifests ≡ entry_at k w.catalogue.manifests)) (sym catalogue-is) (entry-carried P k made-of.part made-of.all w.catalogue latest.id low made-of.carry)

  -- a checkpoint that it leaves keeps what it kept
  pub still-has : (id : List ℕ) (c : Checkpoint) (kept : Manifest) (has : HasCheckpoint w id c kept) → Spares (Has (Finds id c)) w has.latest command → HasCheckpoint w' id c kept
  still-has id c kept has spares =
      let l = latest-after (Has (Finds id c)) has.latest has.is spares in
      let within = (its-pin w reached id c kept has).within in
      elim (entry-after (Has (Finds id c)) has.latest has.is spares c.manifest_id within) [
        | inl gone ↦ absurd (not-gone l.latest l.is l.holds gone)
        | inr same ↦ record { latest = l.latest; is = l.is; there = l.holds; entry = same ∙ has.entry }
      ] where
        not-gone : (latest' : VersionedManifest) → latest_manifest w'.catalogue ≡ Some latest' → found id latest' ≡ Some c → entry_at c.manifest_id w'.catalogue.manifests ≡ None → ⊥
        not-gone latest' is there gone =
            let o' = reached'.1 in
            let here : latest_manifest o' ≡ Some latest' = ap latest_manifest (reached'.3).catalogue ∙ is in
            let pin = find-all (IsPinned o' latest') (has_id id) c latest'.manifest.checkpoints (its-objects o' latest' reached'.2 here).pinned there in
            let no : Some pin.manifest ≡ None = sym pin.kept ∙ (ap (λ (x : Catalogue). entry_at c.manifest_id x.manifests) (reached'.3).catalogue ∙ gone) in
            absurd (cc)

-- ---- the leases of a world
-- each, of a reader or of a begun poll of it, is of a checkpoint that a manifest up to the latest one commits
abbrev pub ArePast : World → Type 0
ArePast w =
    (n : ℕ) (lease : Lease) → HasLease w n lease → (k : ℕ) × (lease.id ≡ checkpoint_id k) × (k ≤ last_number) × (latest : VersionedManifest) × (latest_manifest w.catalogue ≡ Some latest) × (k ≤ latest.id)

-- those of one checkpoint are of the reader with this number
abbrev pub IsAlone : World → ℕ → List ℕ → Type 0
IsAlone w n id = (m : ℕ) (lease : Lease) → HasLease w m lease → lease.id ≡ id → m ≡ n

pub nothing-spared : (w : World) (latest : VersionedManifest) (command : Command) → Spares (λ manifest. Unit {0}) w latest command
nothing-spared w latest command = record { kept = tt; flushed = λ handle last some. tt; compacted = λ table. tt; opened = λ name last. tt; swept = λ sweeps. tt; added = λ checkpoint. tt; polled = λ n f lease given next names asks at has gives. tt; renewed = λ n f lease given next again checkpoint names asks at has written holds gives. tt; closed = λ n f lease next flush_type names asks at live has gives. tt }

module _ (settings : Settings) (w w' : World) (command : Command) (reply : Reply) (reached : IsReached w) (reached' : IsReached w') (next : NextWhole settings w command reply w') (past : ArePast w) where
  -- it was there, or is new and of the object that the command names or adds
  pub fate : (n : ℕ) (lease : Lease) → HasLease w' n lease → ((old : Lease) × HasLease w n old × (lease.id ≡ old.id)) ⊎ NewLease w command (state_of w') n lease
  fate n lease (inl (f, at, has)) = elim (fates settings w reached.0 (rising settings w w' command reply reached reached' next) command next.made reply (state_of w') next.does n f lease at has) [
    | inl old ↦ inl (old.lease, inl (old.follower, old.at, old.leased), old.same)
    | inr new ↦ inr new
  ]
  fate n lease (inr (b, at, has)) = inl (lease, inr (b, ((next.polls n b).0 at).0, has), refl)

  -- the latest manifest has no lower id
  later : (latest : VersionedManifest) → latest_manifest w.catalogue ≡ Some latest → Carried (λ manifest. Unit {0}) latest.id w'.catalogue
  later latest is = latest-after settings w w' command reply reached reached' next (λ manifest. Unit {0}) latest is (nothing-spared w latest command)

  pub past-after : ArePast w'
  past-after n lease has = elim (fate n lease has) [
    | inl old ↦
        let p = past n old.0 old.1 in
        let l = later p.3 p.4 in
        let low = p.5 in
        let up = l.up in
        (p.0, old.2 ∙ p.1, p.2, l.latest, l.is, omega (arith, low, up))
    | inr new ↦
        let same : w'.catalogue ≡ new.catalogue = some-same w'.catalogue new.catalogue new.after in
        let low = new.low in
        (new.latest.id + 1, new.id, omega (arith, low), new.put, ap latest_manifest same ∙ new.put_is, new.up)
  ]

  -- a new lease isn't of a checkpoint that was there
  new-other : (id : List ℕ) (n : ℕ) (old : Lease) → HasLease w n old → old.id ≡ id → (latest : VersionedManifest) → latest_manifest w.catalogue ≡ Some latest → latest.id < last_number → id ≡ checkpoint_id (latest.id + 1) → ⊥
  new-other id n old has same latest is low new =
      let p = past n old has in
      let ids = ap (λ (v : VersionedManifest). v.id) (some-same latest p.3 (sym is ∙ p.4)) in
      let number = ids-differ (latest.id + 1) p.0 (omega (arith, low)) p.2 (sym new ∙ (sym same ∙ p.1)) in
      let within = p.5 in
      omega (arith, ids, number, within)

  abbrev pub Names : ℕ → Type 0
  Names m = (target_of command.action ≡ OfObject m) ⊎ ((m ≡ length w.objects) × ((i : ℕ) → target_of command.action ≡ OfObject i → ⊥))

  -- a checkpoint that no other reader's lease is of is so afterwards
  pub alone-after : (n : ℕ) (id : List ℕ) (old : Lease) → HasLease w n old → old.id ≡ id → IsAlone w n id → IsAlone w' n id
  alone-after n id old its old_id alone m lease has same = elim (fate m lease has) [
    | inl was ↦ alone m was.0 was.1 (sym was.2 ∙ same)
    | inr new ↦ absurd (new-other id n old its old_id new.latest new.is new.low (sym same ∙ new.id))
  ]

  -- and so is the one that the command commits
  pub alone-new : (n : ℕ) (id : List ℕ) (latest : VersionedManifest) → latest_manifest w.catalogue ≡ Some latest → latest.id < last_number → id ≡ checkpoint_id (latest.id + 1) → ((m : ℕ) → Names m → m ≡ n) → IsAlone w' n id
  alone-new n id latest is low new named m lease has same = elim (fate m lease has) [
    | inl was ↦ absurd (new-other id m was.0 was.1 (sym was.2 ∙ same) latest is low new)
    | inr other ↦ named m other.named
  ]

-- ---- polls by single calls
-- what is begun has the reader's lease
pub begun-has : (settings : Settings) (n : ℕ) (w w' : World) (command : Command) (reply : Reply) → NextBegun settings n w command reply w' → (m : ℕ) (lease : Lease) → HasLease w' m lease → HasLease w m lease
begun-has settings n w w' command reply next m lease (inl (f, at, has)) = inl (f, subst (λ (x : World). slice_get x.objects m ≡ Some (AFollower f)) next.same at, has)
begun-has settings n w w' command reply next m lease (inr (b, at, has)) = elim (begun-from settings n w w' command reply next m b at) [
  | inl old ↦ inr (b, old, has)
  | inr new ↦ inl (new.1, new.2, ap (λ (x : Begun). x.lease) new.5 ∙ has)
]

-- a step leaves the leases of other readers
module _ (settings : Settings) (n : ℕ) (w w' : World) (reply : Reply) (next : NextStep settings n w reply w') (leaves : StepLeaves settings.extractor n w reply w') where
  pub step-has : (m : ℕ) (lease : Lease) → HasLease w' m lease → ((old : Lease) × HasLease w m old × (old.id ≡ lease.id)) ⊎ ((m ≡ n) × IsFresh w w' lease)
  step-has m lease has = by (m == n) refl
    where
      others : m ≢ n → HasLease w' m lease → HasLease w m lease
      others other (inl (f, at, has)) = inl (f, sym (next.others m other) ∙ at, has)
      others other (inr (b, at, has)) = inr (b, sym (leaves.polls m other) ∙ at, has)

      by : (b : Bool) → (m == n) ≡ b → ((old : Lease) × HasLease w m old × (old.id ≡ lease.id)) ⊎ ((m ≡ n) × IsFresh w w' lease)
      by true same =
          let here : m ≡ n = eqb-true m n same in
          elim (leaves.leases lease (subst (λ i. HasLease w' i lease) here has)) [
            | inl old ↦ inl (old.0, subst (λ i. HasLease w i old.0) (sym here) old.1, old.2)
            | inr fresh ↦ inr (here, fresh)
          ]
      by false other = inl (lease, others (λ e. let yes = eq-eqb m n e in absurd (cc (yes, other))) has, refl)

  pub past-stepped : ArePast w → ArePast w'
  past-stepped past m lease has = elim (step-has m lease has) [
    | inl old ↦
        let p = past m old.0 old.1 in
        let l = leaves.latest p.3 p.4 in
        let low = p.5 in
        let up = l.3 in
        (p.0, sym old.2 ∙ p.1, p.2, l.0, l.1, omega (arith, low, up))
    | inr (here, fresh) ↦ (fresh.0, fresh.1, fresh.2, fresh.4, fresh.5, fresh.6)
  ]

pub past-begun : (settings : Settings) (n : ℕ) (w w' : World) (command : Command) (reply : Reply) → NextBegun settings n w command reply w' → ArePast w → ArePast w'
past-begun settings n w w' command reply next past m lease has =
    let p = past m lease (begun-has settings n w w' command reply next m lease has) in
    (p.0, p.1, p.2, p.3, ap (λ (x : World). latest_manifest x.catalogue) next.same ∙ p.4, p.5)
