-- A reader that is polled in time holds its checkpoint.
use Rattle.std.proofs.Common.{◌≡◌, ◌++◌, ◌∷◌, ◌+◌, ◌-ℤ◌, ◌+ℤ◌, ◌/◌, ◌∙◌, ◌<◌, ◌≤◌, ◌≢◌, [], inl, inr, ℕ, ℤ, pos, int_lt, Bool, true, false, cond, get_or, not, length, List, map, find, Option, Some, None, Ok, refl, sym, subst, ap, arith}
use Rattle.std.proofs.lemmas.Int.{ints}
use Rattle.std.specs.List.{All}
use Rattle.std.proofs.lemmas.Bool.{false_from_ne_true}
use Rattle.std.proofs.lemmas.List.Elements.{All-filter}
use Rattle.std.proofs.lemmas.Slice.Eq.{bytes_eq-Decides}
use Rattle.std.specs.Bool.{MatchBool}
use Rattle.slate_store.proofs.Latest.{its-objects}
use Rattle.slate_store.specs.Changes.{after_part}
use Rattle.slate_store.specs.Checkpoints.{checkpoint_id, found, has_id, is_expired, last_moment, lease_end, new_checkpoint, Plan, refreshed, to_end, to_refresh, to_write, with_checkpoints, without_id}
use Rattle.slate_store.specs.Content.{IdsRise, IsPinned}
use Rattle.slate_store.specs.Objects.{PutManifest, changed, entry_at, latest_manifest}
use Rattle.slate_store.proofs.Entries.{apart as ids-apart, lookup-insert_other, lookup-insert_same}
use Rattle.std.proofs.lemmas.Cmp.{nat_cmp_total}
use Rattle.slate_store.specs.Refusals.{checkpoint_changes, planned, planned_after}
use Rattle.slate_store.proofs.Parts.{part-none}
use Rattle.slate_store.specs.declared.objects.VersionedManifest.{VersionedManifest}
use Rattle.slate_model.specs.Catalogue.{Catalogue, Span}
use Rattle.slate_model.specs.Lease.{is_due, lease_of, leased, replaces, to_keep}
use Rattle.slate_model.specs.Write.{last_number}
use Rattle.slate_model.proofs.Leased.{leased-is, new_one, put-entry, put-id, put-latest_is, put-low, puts-one, with_new, written-is}
use Rattle.slate_model.proofs.Maintained.{Recheckpoints}
use Rattle.slate_model.proofs.Planned.{keep-recheckpoints}
use Rattle.slate_model.proofs.Reduced.{some-same}
use Rattle.slate_store.specs.declared.objects.Checkpoint.{Checkpoint}
use Rattle.slate_store.specs.declared.objects.Manifest.{Manifest}
use Rattle.slate_store.specs.declared.reader_modes.DbReaderMode.TheVariants as modes
use Rattle.slate_model.specs.declared.leases.Lease.{Lease}
use Rattle.slate_model.specs.Follower.{Follower}
use Rattle.slate_script.specs.declared.commands.Command.{Command}
use Rattle.slate_script.specs.declared.replies.Reply.{Reply}
use Rattle.slate_script.specs.declared.commands.Action.{Action}
use Rattle.slate_script.specs.declared.commands.Action.TheVariants as actions
use Rattle.slate_live.specs.Calls.{target_of}
use Rattle.slate_live.specs.declared.targets.Target.TheVariants.{OfObject, WholeStore}
use Rattle.slate_live.specs.Leases.{ComesBefore, closes, polls}
use Rattle.slate_live.specs.Next.{HasLease, IsFresh, NextBegun, NextStep, StaysFound, StepLeaves}
use Rattle.slate_live.specs.Represents.{IsFollowerAt, IsReached}
use Rattle.slate_live.specs.Settings.{Settings}
use Rattle.slate_live.specs.World.{NextWhole, World, state_of}
use Rattle.slate_live.proofs.Leases.{ArePast, HasCheckpoint, IsAlone, Names, alone-after, alone-new, begun-has, entry-after, its-pin, nothing-spared, refreshed-id, rising, spared, step-has, still-has}
use Rattle.slate_live.proofs.Carrying.{put-is}
use Rattle.slate_live.proofs.Distinct.{ids-differ}
use Rattle.slate_live.proofs.Finding.{find-all, find-last, find-map, found-id}
use Rattle.slate_live.proofs.Untouched.{is-quiet, stays}

-- ---- moments
cond-end : (b : Bool) (x y z : ℤ) → int_lt x y ≡ b → int_lt z (cond b x y) ≡ true → int_lt z y ≡ true
cond-end true x y z less below = grind (arith, ints, less, below)
cond-end false x y z less below = below

-- a moment that comes before the end of a lease isn't after an end that isn't before that one
not-over-by : (b : Bool) (end last moment : ℤ) (lifetime : ℕ) → int_lt last_moment (last +ℤ pos lifetime) ≡ b → int_lt end (cond b last_moment (last +ℤ pos lifetime)) ≡ false → ComesBefore lifetime last moment → int_lt end moment ≡ false
not-over-by true end last moment lifetime is_b ahead (before, within) = grind (arith, ints, ahead, within)
not-over-by false end last moment lifetime is_b ahead (before, within) = grind (arith, ints, ahead, before)

not-over : (end last moment : ℤ) (lifetime : ℕ) → int_lt end (lease_end last lifetime) ≡ false → ComesBefore lifetime last moment → int_lt end moment ≡ false
not-over end last moment lifetime ahead before = not-over-by (int_lt last_moment (last +ℤ pos lifetime)) end last moment lifetime refl ahead before

-- a longer lease that begins at a moment doesn't end before a shorter one
longer-ends : (b c : Bool) (t : ℤ) (long short : ℕ) → short ≤ long → int_lt last_moment (t +ℤ pos long) ≡ b → int_lt last_moment (t +ℤ pos short) ≡ c → int_lt (cond b last_moment (t +ℤ pos long)) (cond c last_moment (t +ℤ pos short)) ≡ false
longer-ends true true t long short less is_b is_c = grind (arith, ints)
longer-ends true false t long short less is_b is_c = grind (arith, ints, is_b, is_c)
longer-ends false true t long short less is_b is_c = grind (arith, ints, less, is_b, is_c)
longer-ends false false t long short less is_b is_c = grind (arith, ints, less)

pub renewed-ahead : (t : ℤ) (long short : ℕ) → short ≤ long → int_lt (lease_end t long) (lease_end t short) ≡ false
renewed-ahead t long short less = longer-ends (int_lt last_moment (t +ℤ pos long)) (int_lt last_moment (t +ℤ pos short)) t long short less refl refl

-- a lease that isn't due ends no earlier than one of half its lifetime that begins now
undue-by : (b : Bool) (t end : ℤ) (half : ℕ) → int_lt (end -ℤ pos half) t ≡ false → int_lt last_moment (t +ℤ pos half) ≡ b → int_lt end (cond b last_moment (t +ℤ pos half)) ≡ false
undue-by true t end half undue is_b = grind (arith, ints, undue, is_b)
undue-by false t end half undue is_b = grind (arith, ints, undue)

undue-ahead : (t end : ℤ) (half : ℕ) → int_lt (end -ℤ pos half) t ≡ false → int_lt end (lease_end t half) ≡ false
undue-ahead t end half undue = undue-by (int_lt last_moment (t +ℤ pos half)) t end half undue refl

-- ---- a reader that holds its checkpoint
-- It is open, and its checkpoint is in the latest manifest, ends no earlier than a lease of this lifetime that began at the
-- reader's last turn, and keeps a manifest with the tables that it reads.
pub record Holds (n lifetime : ℕ) (last : ℤ) (w : World) : Type 0 where
  pub follower : Follower
  pub at : IsFollowerAt w.objects n follower
  pub live : follower.result ≡ None
  pub managed : follower.mode ≡ modes.ManagedCheckpoint
  pub lease : Lease
  pub leased : follower.lease ≡ Some lease
  pub half : lease.lifetime / 2 ≡ lifetime
  pub ahead : int_lt lease.end (lease_end last lifetime) ≡ false
  pub checkpoint : Checkpoint
  pub kept : Manifest
  pub has : HasCheckpoint w lease.id checkpoint kept
  pub expires : checkpoint.expire_ms ≡ Some lease.end
  pub tables : kept.tables ≡ follower.view.manifest.tables
  pub low : checkpoint.manifest_id ≤ last_number
  pub alone : IsAlone w n lease.id

-- it isn't over at a moment in time
unexpired : (c : Checkpoint) (end last moment : ℤ) (lifetime : ℕ) → c.expire_ms ≡ Some end → int_lt end (lease_end last lifetime) ≡ false → ComesBefore lifetime last moment → is_expired moment c ≡ false
unexpired c end last moment lifetime expires ahead before = by c.expire_ms expires where
  by : (e : Option ℤ) → e ≡ Some end → is_expired moment (record c { expire_ms = e }) ≡ false
  by None is = absurd (cc)
  by (Some x) is = let same : x ≡ end = cc in subst (λ y. int_lt y moment ≡ false) (sym same) (not-over end last moment lifetime ahead before)

pub holds-lasts : (n lifetime : ℕ) (last moment : ℤ) (w : World) (h : Holds n lifetime last w) → ComesBefore lifetime last moment → is_expired moment h.checkpoint ≡ false
holds-lasts n lifetime last moment w h before = unexpired h.checkpoint h.lease.end last moment lifetime h.expires h.ahead before

-- the id of a new checkpoint isn't that of one of the latest manifest
pub new-apart : (w : World) → IsReached w → (latest : VersionedManifest) → latest_manifest w.catalogue ≡ Some latest → latest.id < last_number → All (λ x. has_id (checkpoint_id (latest.id + 1)) x ≡ false) latest.manifest.checkpoints
new-apart w reached latest is low k d less =
    let pin = (its-objects reached.1 latest reached.2 (ap latest_manifest (reached.3).catalogue ∙ is)).pinned k d less in
    let within = pin.within in
    false_from_ne_true _ (λ same. let ids = (bytes_eq-Decides _ _).0 same in
    let number = ids-differ (get_or latest.manifest.checkpoints k d).manifest_id (latest.id + 1) (omega (arith, within, low)) (omega (arith, low)) (sym pin.id ∙ ids) in
    omega (arith, number, within))

-- what goes to the whole store sweeps it
is-sweep : (action : Action) → target_of action ≡ WholeStore → action ≡ actions.Sweep
is-sweep actions.Sweep is = refl
is-sweep action is = absurd (cc)

module _ (settings : Settings) (w w' : World) (command : Command) (reply : Reply) (reached : IsReached w) (reached' : IsReached w') (next : NextWhole settings w command reply w') (past : ArePast w) (n lifetime : ℕ) (last : ℤ) (h : Holds n lifetime last w) where
  -- its lease in the world before
  own : HasLease w n h.lease
  own = inl (h.follower, h.at, h.leased)

  -- a command that neither polls nor closes it, and sweeps in time
  pub holds-still : polls n command.action ≡ false → closes n command.action ≡ false → (command.action ≡ actions.Sweep → ComesBefore lifetime last command.moment) → Holds n lifetime last w'
  holds-still unpolled unclosed before =
      let quiet = is-quiet n command.action unpolled unclosed in
      let other : h.has.latest.id < last_number → checkpoint_id (h.has.latest.id + 1) ≢ h.lease.id = λ low same.
      let none = find-all (λ x. has_id (checkpoint_id (h.has.latest.id + 1)) x ≡ false) (has_id h.lease.id) h.checkpoint h.has.latest.manifest.checkpoints (new-apart w reached h.has.latest h.has.is low) h.has.there in
      let id_is = found-id h.lease.id h.checkpoint h.has.latest.manifest.checkpoints h.has.there in
      let yes = (bytes_eq-Decides h.checkpoint.id (checkpoint_id (h.has.latest.id + 1))).1 (id_is ∙ sym same) in
      cc (none, yes) in
      let spares = spared w command h.has.latest h.lease.id h.checkpoint h.has.there other (λ whole. holds-lasts n lifetime last command.moment w h (before (is-sweep command.action whole)))
      (λ m f lease names disturbs at has same. quiet (names ∙ ap OfObject (h.alone m lease (inl (f, at, has)) same)) disturbs) in
      record {
        follower = h.follower;
        at = stays settings w command next.made reply (state_of w') n h.follower h.at quiet next.does;
        live = h.live;
        managed = h.managed;
        lease = h.lease;
        leased = h.leased;
        half = h.half;
        ahead = h.ahead;
        checkpoint = h.checkpoint;
        kept = h.kept;
        has = still-has settings w w' command reply reached reached' next h.lease.id h.checkpoint h.kept h.has spares;
        expires = h.expires;
        tables = h.tables;
        low = h.low;
        alone = alone-after settings w w' command reply reached reached' next past n h.lease.id h.lease own refl h.alone;
      }

  -- ---- a poll of the reader itself
  -- the latest manifest of the world before, whose checkpoints are pinned
  abbrev latest : VersionedManifest
  latest = h.has.latest

  all-pinned : All (IsPinned reached.1 latest) latest.manifest.checkpoints
  all-pinned = (its-objects reached.1 latest reached.2 (ap latest_manifest (reached.3).catalogue ∙ h.has.is)).pinned

  -- the follower after the poll, and its lease by the plan
  module _ (names : target_of command.action ≡ OfObject n) (f' : Follower) (at' : IsFollowerAt w'.objects n f') (open_ : f'.result ≡ None) (mode : f'.mode ≡ modes.ManagedCheckpoint) (made : ℕ) (next_manifest : Option VersionedManifest) (given : Lease)
      (gives : to_keep h.follower.view h.lease command.moment latest ≡ Ok (next_manifest, given)) (leased' : f'.lease ≡ Some given) (view : MatchBool (replaces h.follower.view h.lease command.moment latest) (next_manifest ≡ Some f'.view) (f'.view ≡ h.follower.view))
      (part : made ≡ length (checkpoint_changes {L = Span} (to_keep h.follower.view h.lease command.moment) w.catalogue)) (after : w'.catalogue ≡ after_part made (checkpoint_changes (to_keep h.follower.view h.lease command.moment) w.catalogue) w.catalogue) where
    abbrev lifetime_is : ℕ
    lifetime_is = h.lease.lifetime

    abbrev plan : VersionedManifest → Plan Lease
    plan = to_keep h.follower.view h.lease command.moment

    its_rising : IdsRise (map (λ e. e.0) w.catalogue.manifests)
    its_rising = rising settings w w' command reply reached reached' next

    puts : Recheckpoints latest (plan latest)
    puts = keep-recheckpoints h.follower.view h.lease command.moment latest

    half-less : lifetime ≤ lifetime_is
    half-less = let half = h.half in omega (arith, half)

    -- it put this manifest
    module _ (put : VersionedManifest) (is_put : next_manifest ≡ Some put) where
      gives_put : plan latest ≡ Ok (Some put, given)
      gives_put = gives ∙ ap (λ x. Ok (x, given)) is_put

      one : made ≡ 1
      one = part ∙ puts-one plan w.catalogue latest put given its_rising h.has.is gives_put puts

      latest' : latest_manifest w'.catalogue ≡ Some put
      latest' = ap latest_manifest after ∙ put-latest_is plan w.catalogue latest put given its_rising h.has.is gives_put puts made one

      entry' : entry_at put.id w'.catalogue.manifests ≡ Some put.manifest
      entry' = ap (λ (x : Catalogue). entry_at put.id x.manifests) after ∙ put-entry plan w.catalogue latest put given its_rising h.has.is gives_put puts made one

      id' : put.id ≡ latest.id + 1
      id' = put-id plan w.catalogue latest put given its_rising h.has.is gives_put puts

    named : (m : ℕ) → Names settings w w' command reply reached reached' next past m → m ≡ n
    named m (inl other) = (let both : OfObject m ≡ OfObject n = sym other ∙ names in cc)
    named m (inr added) = absurd (added.1 n names)

    same-alone : (id : List ℕ) → h.lease.id ≡ id → IsAlone w' n id
    same-alone id same = subst (IsAlone w' n) same (alone-after settings w w' command reply reached reached' next past n h.lease.id h.lease own refl h.alone)

    -- the checkpoint was replaced
    replaced : leased lifetime_is (to_write (Some h.lease.id) (Some lifetime_is) command.moment latest) ≡ Ok (next_manifest, given) → next_manifest ≡ Some f'.view → Holds n lifetime command.moment w'
    replaced written is_view =
        let c = new_checkpoint latest (Some lifetime_is) command.moment in
        let p = leased-is lifetime_is (to_write (Some h.lease.id) (Some lifetime_is) command.moment latest) next_manifest given written in
        let checkpoints = without_id h.lease.id latest.manifest.checkpoints ++ c ∷ [] in
        let q = put-low latest (with_checkpoints checkpoints latest) c next_manifest p.0 p.1 in
        let put = with_checkpoints checkpoints latest in
        let given_is : lease_of lifetime_is c ≡ given = sym (ap (lease_of lifetime_is) q.2) ∙ p.2 in
        let put_view : put ≡ f'.view = some-same put f'.view (sym q.1 ∙ is_view) in
        let none = All-filter (λ x. not (has_id h.lease.id x)) (λ x. has_id (checkpoint_id (latest.id + 1)) x ≡ false) latest.manifest.checkpoints (new-apart w reached latest h.has.is q.0) in
        record {
          follower = f';
          at = at';
          live = open_;
          managed = mode;
          lease = given;
          leased = leased';
          half = ap (λ (l : Lease). l.lifetime / 2) (sym given_is) ∙ h.half;
          ahead = subst (λ (l : Lease). int_lt l.end (lease_end command.moment lifetime) ≡ false) given_is (renewed-ahead command.moment lifetime_is lifetime half-less);
          checkpoint = c;
          kept = put.manifest;
          has = subst (λ (l : Lease). HasCheckpoint w' l.id c put.manifest) given_is (record {
            latest = put;
            is = latest' put q.1;
            there = find-last (has_id c.id) c (without_id h.lease.id latest.manifest.checkpoints) none ((bytes_eq-Decides c.id c.id).1 refl);
            entry = entry' put q.1;
          });
          expires = ap (λ (l : Lease). Some l.end) given_is;
          tables = ap (λ (v : VersionedManifest). v.manifest.tables) put_view;
          low = (let low = q.0 in omega (arith, low));
          alone = alone-new settings w w' command reply reached reached' next past n given.id latest h.has.is q.0 (ap (λ (l : Lease). l.id) (sym given_is)) named;
        }

    -- its lease was renewed
    renewed : leased lifetime_is (to_refresh h.lease.id lifetime_is command.moment latest) ≡ Ok (next_manifest, given) → f'.view ≡ h.follower.view → Holds n lifetime command.moment w'
    renewed refreshes same_view =
        let end = lease_end command.moment lifetime_is in
        let p = leased-is lifetime_is (to_refresh h.lease.id lifetime_is command.moment latest) next_manifest given refreshes in
        let gave : to_end h.lease.id end latest (Some h.checkpoint) ≡ Ok (next_manifest, p.0) = ap (to_end h.lease.id end latest) (sym h.has.there) ∙ p.1 in
        let put = with_checkpoints (map (refreshed h.lease.id end) latest.manifest.checkpoints) latest in
        let c = record h.checkpoint { expire_ms = Some end } in
        let q = put-low latest put c next_manifest p.0 gave in
        let given_is : lease_of lifetime_is c ≡ given = sym (ap (lease_of lifetime_is) q.2) ∙ p.2 in
        let id_is : h.checkpoint.id ≡ h.lease.id = found-id h.lease.id h.checkpoint latest.manifest.checkpoints h.has.there in
        let mine : has_id h.lease.id h.checkpoint ≡ true = (bytes_eq-Decides h.checkpoint.id h.lease.id).1 id_is in
        let there : find (has_id h.lease.id) put.manifest.checkpoints ≡ Some c =
        find-map (has_id h.lease.id) (refreshed h.lease.id end) (refreshed-id h.lease.id h.lease.id end) h.checkpoint latest.manifest.checkpoints h.has.there ∙ ap (λ b. Some (cond b c h.checkpoint)) mine in
        let is' = latest' put q.1 in
        record {
          follower = f';
          at = at';
          live = open_;
          managed = mode;
          lease = given;
          leased = leased';
          half = ap (λ (l : Lease). l.lifetime / 2) (sym given_is) ∙ h.half;
          ahead = subst (λ (l : Lease). int_lt l.end (lease_end command.moment lifetime) ≡ false) given_is (renewed-ahead command.moment lifetime_is lifetime half-less);
          checkpoint = c;
          kept = h.kept;
          has = record {
            latest = put;
            is = is';
            there = subst (λ id. find (has_id id) put.manifest.checkpoints ≡ Some c) (sym id_is ∙ ap (λ (l : Lease). l.id) given_is) there;
            entry = entry-stays put c is' there refl;
          };
          expires = ap (λ (l : Lease). Some l.end) given_is;
          tables = h.tables ∙ ap (λ (v : VersionedManifest). v.manifest.tables) (sym same_view);
          low = h.low;
          alone = same-alone given.id (sym id_is ∙ ap (λ (l : Lease). l.id) given_is);
        } where
          -- the manifest that it keeps is there still
          entry-stays : (put : VersionedManifest) (c : Checkpoint) → latest_manifest w'.catalogue ≡ Some put → find (has_id h.lease.id) put.manifest.checkpoints ≡ Some c → c.manifest_id ≡ h.checkpoint.manifest_id → entry_at h.checkpoint.manifest_id w'.catalogue.manifests ≡ Some h.kept
          entry-stays put c is' there same =
              let within = (find-all (IsPinned reached.1 latest) (has_id h.lease.id) h.checkpoint latest.manifest.checkpoints all-pinned h.has.there).within in
              elim (entry-after settings w w' command reply reached reached' next (λ manifest. Unit {0}) latest h.has.is (nothing-spared w latest command) h.checkpoint.manifest_id within) [
                | inl gone ↦ absurd (not-gone put c is' there same gone)
                | inr kept ↦ kept ∙ h.has.entry
              ] where
                not-gone : (put : VersionedManifest) (c : Checkpoint) → latest_manifest w'.catalogue ≡ Some put → find (has_id h.lease.id) put.manifest.checkpoints ≡ Some c → c.manifest_id ≡ h.checkpoint.manifest_id → entry_at h.checkpoint.manifest_id w'.catalogue.manifests ≡ None → ⊥
                not-gone put c is' there same gone =
                    let o' = reached'.1 in
                    let here : latest_manifest o' ≡ Some put = ap latest_manifest (reached'.3).catalogue ∙ is' in
                    let pin = find-all (IsPinned o' put) (has_id h.lease.id) c put.manifest.checkpoints (its-objects o' put reached'.2 here).pinned there in
                    let no : Some pin.manifest ≡ None = sym pin.kept ∙ (ap (λ (x : Catalogue). entry_at c.manifest_id x.manifests) (reached'.3).catalogue ∙ (ap (λ k. entry_at k w'.catalogue.manifests) same ∙ gone)) in
                    absurd (cc)

    -- nothing was put
    unput : ◌≡◌ {A = Plan Lease} (Ok (None, h.lease)) (Ok (next_manifest, given)) → is_due command.moment h.lease ≡ false → f'.view ≡ h.follower.view → Holds n lifetime command.moment w'
    unput nothing undue same_view =
        let both : ◌≡◌ {A = Option VersionedManifest × Lease} (None, h.lease) (next_manifest, given) = cc in
        let given_is = ap (λ (p : Option VersionedManifest × Lease). p.1) both in
        let none = ap (λ (p : Option VersionedManifest × Lease). p.0) both in
        let gives_none : plan latest ≡ Ok (None, given) = gives ∙ ap (λ x. Ok (x, given)) (sym none) in
        let changes : checkpoint_changes {L = Span} plan w.catalogue ≡ [] = ap (planned_after plan) h.has.is ∙ ap planned gives_none in
        let same : w'.catalogue ≡ w.catalogue = after ∙ (ap (λ cs. after_part made cs w.catalogue) changes ∙ part-none made w.catalogue) in
        record {
          follower = f';
          at = at';
          live = open_;
          managed = mode;
          lease = given;
          leased = leased';
          half = ap (λ (l : Lease). l.lifetime / 2) (sym given_is) ∙ h.half;
          ahead = subst (λ (l : Lease). int_lt l.end (lease_end command.moment lifetime) ≡ false) given_is
              (subst (λ half. int_lt h.lease.end (lease_end command.moment half) ≡ false) h.half (undue-ahead command.moment h.lease.end (h.lease.lifetime / 2) undue));
          checkpoint = h.checkpoint;
          kept = h.kept;
          has = subst (λ (l : Lease). HasCheckpoint w' l.id h.checkpoint h.kept) given_is (record {
            latest = latest;
            is = ap latest_manifest same ∙ h.has.is;
            there = h.has.there;
            entry = ap (λ (x : Catalogue). entry_at h.checkpoint.manifest_id x.manifests) same ∙ h.has.entry;
          });
          expires = h.expires ∙ ap (λ (l : Lease). Some l.end) given_is;
          tables = h.tables ∙ ap (λ (v : VersionedManifest). v.manifest.tables) (sym same_view);
          low = h.low;
          alone = same-alone given.id (ap (λ (l : Lease). l.id) given_is);
        }

    pub polled-holds : Holds n lifetime command.moment w'
    polled-holds = by (replaces h.follower.view h.lease command.moment latest) (is_due command.moment h.lease) refl gives view where
      by : (b due : Bool) → is_due command.moment h.lease ≡ due →
          cond b (leased lifetime_is (to_write (Some h.lease.id) (Some lifetime_is) command.moment latest)) (cond due (leased lifetime_is (to_refresh h.lease.id lifetime_is command.moment latest)) (Ok (None, h.lease))) ≡ Ok (next_manifest, given) →
          MatchBool b (next_manifest ≡ Some f'.view) (f'.view ≡ h.follower.view) → Holds n lifetime command.moment w'
      by true due is_due gives view = replaced gives view
      by false true is_due gives view = renewed gives view
      by false false is_due gives view = unput gives is_due view

-- ---- a poll that renews the lease at once that it took
module _ (settings : Settings) (w w' : World) (command : Command) (reply : Reply) (reached : IsReached w) (reached' : IsReached w') (next : NextWhole settings w command reply w') (past : ArePast w) (n lifetime : ℕ) (last : ℤ) (h : Holds n lifetime last w)
    (names : target_of command.action ≡ OfObject n) (f' : Follower) (at' : IsFollowerAt w'.objects n f') (open_ : f'.result ≡ None) (mode : f'.mode ≡ modes.ManagedCheckpoint) (given : Lease) (leased' : f'.lease ≡ Some given)
    (written : leased h.lease.lifetime (to_write (Some h.lease.id) (Some h.lease.lifetime) command.moment h.has.latest) ≡ Ok (Some f'.view, given))
    (between : Catalogue) (put : between ≡ changed (PutManifest f'.view.id f'.view.manifest) w.catalogue) (again : VersionedManifest) (c : Checkpoint) (gives : to_refresh given.id given.lifetime command.moment f'.view ≡ Ok (Some again, c))
    (after : w'.catalogue ≡ changed (PutManifest again.id again.manifest) between) (id : again.id ≡ f'.view.id + 1) (is' : latest_manifest w'.catalogue ≡ Some again) where
  abbrev long : ℕ
  long = h.lease.lifetime

  abbrev first : Checkpoint
  first = new_one (Some h.lease.id) long command.moment h.has.latest

  is-written : (h.has.latest.id < last_number) × (Some f'.view ≡ Some (with_new (Some h.lease.id) long command.moment h.has.latest)) × (given ≡ lease_of long first)
  is-written = written-is (Some h.lease.id) long command.moment h.has.latest (Some f'.view) given written

  view-is : f'.view ≡ with_new (Some h.lease.id) long command.moment h.has.latest
  view-is = some-same f'.view (with_new (Some h.lease.id) long command.moment h.has.latest) is-written.1

  -- its checkpoint is the last one that the first manifest has
  first-there : find (has_id first.id) f'.view.manifest.checkpoints ≡ Some first
  first-there =
      let none = All-filter (λ x. not (has_id h.lease.id x)) (λ x. has_id (checkpoint_id (h.has.latest.id + 1)) x ≡ false) h.has.latest.manifest.checkpoints (new-apart w reached h.has.latest h.has.is is-written.0) in
      subst (λ (v : VersionedManifest). find (has_id first.id) v.manifest.checkpoints ≡ Some first) (sym view-is)
      (find-last (has_id first.id) first (without_id h.lease.id h.has.latest.manifest.checkpoints) none ((bytes_eq-Decides first.id first.id).1 refl))

  id-is : given.id ≡ first.id
  id-is = ap (λ (l : Lease). l.id) is-written.2

  abbrev end : ℤ
  end = lease_end command.moment given.lifetime

  -- the second one has it with the end of the same lease
  again-is : again ≡ with_checkpoints (map (refreshed given.id end) f'.view.manifest.checkpoints) f'.view
  again-is =
      let found_it : found given.id f'.view ≡ Some first = subst (λ i. found i f'.view ≡ Some first) (sym id-is) first-there in
      sym (put-is f'.view (with_checkpoints (map (refreshed given.id end) f'.view.manifest.checkpoints) f'.view) (record first { expire_ms = Some end }) again c
      (subst (λ x. to_end given.id end f'.view x ≡ Ok (Some again, c)) found_it gives))

  abbrev kept_one : Checkpoint
  kept_one = record first { expire_ms = Some end }

  again-there : find (has_id given.id) again.manifest.checkpoints ≡ Some kept_one
  again-there =
      let there : find (has_id given.id) f'.view.manifest.checkpoints ≡ Some first = subst (λ i. find (has_id i) f'.view.manifest.checkpoints ≡ Some first) (sym id-is) first-there in
      let mine : has_id given.id first ≡ true = (bytes_eq-Decides first.id given.id).1 (sym id-is) in
      subst (λ (v : VersionedManifest). find (has_id given.id) v.manifest.checkpoints ≡ Some kept_one) (sym again-is)
      (find-map (has_id given.id) (refreshed given.id end) (refreshed-id given.id given.id end) first f'.view.manifest.checkpoints there ∙ ap (λ b. Some (cond b kept_one first)) mine)

  entry-first : entry_at f'.view.id w'.catalogue.manifests ≡ Some f'.view.manifest
  entry-first =
      let other = lookup-insert_other nat_cmp_total f'.view.id again.id again.manifest between.manifests (ids-apart f'.view.id again.id (λ same. omega (arith, id, same))) in
      ap (λ (x : Catalogue). entry_at f'.view.id x.manifests) after ∙ (other ∙ (ap (λ (x : Catalogue). entry_at f'.view.id x.manifests) put ∙ lookup-insert_same nat_cmp_total f'.view.id f'.view.manifest w.catalogue.manifests))

  lifetime-is : given.lifetime ≡ long
  lifetime-is = ap (λ (l : Lease). l.lifetime) is-written.2

  pub renewed-holds : Holds n lifetime command.moment w'
  renewed-holds =
      let low = is-written.0 in
      let half = h.half in
      record {
        follower = f';
        at = at';
        live = open_;
        managed = mode;
        lease = given;
        leased = leased';
        half = ap (λ k. k / 2) lifetime-is ∙ h.half;
        ahead = subst (λ (l : Lease). int_lt l.end (lease_end command.moment lifetime) ≡ false) (sym is-written.2) (renewed-ahead command.moment long lifetime (omega (arith, half)));
        checkpoint = kept_one;
        kept = f'.view.manifest;
        has = record {
          latest = again;
          is = is';
          there = again-there;
          entry = ap (λ k. entry_at k w'.catalogue.manifests) (sym (ap (λ (v : VersionedManifest). v.id) view-is)) ∙ entry-first;
        };
        expires = ap (λ k. Some (lease_end command.moment k)) lifetime-is ∙ ap (λ (l : Lease). Some l.end) (sym is-written.2);
        tables = refl;
        low = omega (arith, low);
        alone = alone-new settings w w' command reply reached reached' next past n given.id h.has.latest h.has.is is-written.0 id-is named;
      } where
        named : (m : ℕ) → Names settings w w' command reply reached reached' next past m → m ≡ n
        named m (inl other) = (let both : OfObject m ≡ OfObject n = sym other ∙ names in cc)
        named m (inr added) = absurd (added.1 n names)

-- ---- polls by single calls of other readers
pub begun-holds : (settings : Settings) (i : ℕ) (w w' : World) (command : Command) (reply : Reply) → NextBegun settings i w command reply w' → (n lifetime : ℕ) (last : ℤ) → Holds n lifetime last w → Holds n lifetime last w'
begun-holds settings i w w' command reply next n lifetime last h = record {
  follower = h.follower;
  at = subst (λ (x : World). IsFollowerAt x.objects n h.follower) (sym next.same) h.at;
  live = h.live;
  managed = h.managed;
  lease = h.lease;
  leased = h.leased;
  half = h.half;
  ahead = h.ahead;
  checkpoint = h.checkpoint;
  kept = h.kept;
  has = record {
    latest = h.has.latest;
    is = ap (λ (x : World). latest_manifest x.catalogue) next.same ∙ h.has.is;
    there = h.has.there;
    entry = ap (λ (x : World). entry_at h.checkpoint.manifest_id x.catalogue.manifests) next.same ∙ h.has.entry;
  };
  expires = h.expires;
  tables = h.tables;
  low = h.low;
  alone = λ m lease has same. h.alone m lease (begun-has settings i w w' command reply next m lease has) same;
}

module _ (settings : Settings) (i : ℕ) (w w' : World) (reply : Reply) (reached : IsReached w) (next : NextStep settings i w reply w') (leaves : StepLeaves settings.extractor i w reply w') (n lifetime : ℕ) (last : ℤ) (h : Holds n lifetime last w) (other : n ≢ i) where
  -- its checkpoint isn't of the lease of the reader that steps
  apart : (lease : Lease) → HasLease w i lease → lease.id ≢ h.lease.id
  apart lease has same = other (sym (h.alone i lease has same))

  spared-is : StaysFound h.lease.id h.checkpoint w w'
  spared-is = leaves.checkpoints h.has.latest h.lease.id h.checkpoint h.has.is h.has.there apart

  pin : IsPinned reached.1 h.has.latest h.checkpoint
  pin = its-pin w reached h.lease.id h.checkpoint h.kept h.has

  -- nor is a new one of it, since its manifest is stored
  fresh-other : (lease : Lease) → IsFresh w w' lease → lease.id ≡ h.lease.id → ⊥
  fresh-other lease fresh same =
      let id_is : h.checkpoint.id ≡ h.lease.id = found-id h.lease.id h.checkpoint h.has.latest.manifest.checkpoints h.has.there in
      let number = ids-differ h.checkpoint.manifest_id fresh.0 h.low fresh.2 (sym pin.id ∙ (id_is ∙ (sym same ∙ fresh.1))) in
      let none = subst (λ k. entry_at k w.catalogue.manifests ≡ None) (sym number) fresh.3 in
      let some = h.has.entry in
      absurd (cc (none, some))

  pub step-holds : Holds n lifetime last w'
  step-holds = record {
    follower = h.follower;
    at = next.others n other ∙ h.at;
    live = h.live;
    managed = h.managed;
    lease = h.lease;
    leased = h.leased;
    half = h.half;
    ahead = h.ahead;
    checkpoint = h.checkpoint;
    kept = h.kept;
    has = record { latest = spared-is.0; is = spared-is.1; there = spared-is.2; entry = spared-is.3 ∙ h.has.entry };
    expires = h.expires;
    tables = h.tables;
    low = h.low;
    alone = λ m lease has same. elim (step-has settings i w w' reply next leaves m lease has) [
      | inl old ↦ h.alone m old.0 old.1 (old.2 ∙ same)
      | inr (here, fresh) ↦ absurd (fresh-other lease fresh same)
    ];
  }
