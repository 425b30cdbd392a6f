-- A poll of a reader that keeps a checkpoint, of a round and a renewal of the lease that this took: what the two put.
use Rattle.std.proofs.Common.{◌≡◌, ◌⊎◌, ◌+◌, ◌∙◌, inl, inr, ℕ, ℤ, Bool, true, false, cond, List, map, Option, Some, Result, Ok, refl, sym, subst, ap}
use Rattle.std.proofs.lemmas.Bool.{and_parts}
use Rattle.std.specs.Bool.{MatchBool}
use Rattle.std.specs.Prelude.{◌&&◌, ◌||◌, is_none}
use Rattle.slate_store.proofs.Carried.{put-kept, put-rising}
use Rattle.slate_store.specs.Checkpoints.{Plan, found, to_refresh, to_write, with_checkpoints}
use Rattle.slate_store.specs.Content.{IdsRise}
use Rattle.slate_store.specs.Objects.{ObjectsOf, PutManifest, changed, latest_manifest}
use Rattle.slate_store.specs.Refusals.{checkpoint_changes}
use Rattle.slate_store.specs.declared.objects.Checkpoint.{Checkpoint}
use Rattle.slate_store.specs.declared.objects.VersionedManifest.{VersionedManifest}
use Rattle.slate_errors.specs.declared.errors.SlateError.{SlateError}
use Rattle.slate_model.specs.declared.answers.PollAnswer.{PollAnswer}
use Rattle.slate_model.specs.declared.leases.Lease.{Lease}
use Rattle.slate_model.specs.Changes.{after_part}
use Rattle.slate_model.specs.Follower.{Follower}
use Rattle.slate_model.specs.Knowledge.{Knowledge}
use Rattle.slate_model.specs.Known.{Known}
use Rattle.slate_model.specs.Lease.{differs, is_due, is_due_at_once, leased, replaces, to_keep, to_renew}
use Rattle.slate_model.specs.Managed.{Keeps, PollsTwice, PutsRenewal}
use Rattle.slate_model.specs.Segments.{Extractor}
use Rattle.slate_model.proofs.Leased.{changes-are, put-is_next, put-latest_is, puts-one}
use Rattle.slate_model.proofs.Maintained.{Recheckpoints, refresh-recheckpoints}
use Rattle.slate_model.proofs.Planned.{keep-recheckpoints, planned-parts}
use Rattle.slate_model.proofs.Reduced.{some-same}

module _ {L : Type 0} (k : Knowledge L) (x : Option Extractor) (made : ℕ) (lease : Lease) (moment : ℤ) (old : Follower) (o : ObjectsOf L) (f : ℕ)
    (r : Result PollAnswer SlateError) (new : Follower) (after : Known L) (p : PollsTwice k x made lease moment old (record { objects = Some o; faults = f }) r new after) where
  abbrev plan : VersionedManifest → Plan Lease
  plan = to_keep old.view lease moment

  abbrev pub renewal_of : Plan Checkpoint
  renewal_of = to_refresh p.given.id p.given.lifetime moment p.middle.view

  -- the round put a manifest after the latest one, by its plan, and the reader goes by that
  pub record Took : Type 0 where
    pub latest : VersionedManifest
    pub is : latest_manifest o ≡ Some latest
    pub gives : to_keep old.view lease moment latest ≡ Ok (Some p.middle.view, p.given)
    pub written : leased lease.lifetime (to_write (Some lease.id) (Some lease.lifetime) moment latest) ≡ Ok (Some p.middle.view, p.given)

  its-next : (b : Bool) (next : Option VersionedManifest) (view was : VersionedManifest) → b ≡ true → MatchBool b (next ≡ Some view) (view ≡ was) → next ≡ Some view
  its-next true next view was is same = same
  its-next false next view was is same = absurd (cc)

  pub took : Took
  took =
      let q = ((p.round.keeps).some o refl).2 in
      let both = and_parts (differs old.view q.latest) (is_due_at_once lease.lifetime moment) (p.renews q.latest q.is_latest) in
      let replaced : replaces old.view lease moment q.latest ≡ true = ap (λ d. d || (is_due moment lease && is_none (found lease.id q.latest))) both.0 in
      let next : q.next ≡ Some p.middle.view = its-next (replaces old.view lease moment q.latest) q.next p.middle.view old.view replaced q.view in
      let given : q.given ≡ p.given = some-same q.given p.given (sym q.leased ∙ p.leased) in
      let gives : plan q.latest ≡ Ok (Some p.middle.view, p.given) = q.plan ∙ (ap (λ n. Ok (n, q.given)) next ∙ ap (λ l. Ok (Some p.middle.view, l)) given) in
      record {
        latest = q.latest;
        is = q.is_latest;
        gives = gives;
        written = sym (ap (λ b. cond b (leased lease.lifetime (to_write (Some lease.id) (Some lease.lifetime) moment q.latest)) (to_renew lease moment q.latest)) replaced) ∙ gives;
      }

  -- the renewal put another after that, or none
  abbrev pub Parts : (between last : ObjectsOf L) → Type 0
  Parts between last = (last ≡ between) ⊎ ((next : VersionedManifest) × (c : Checkpoint) × (renewal_of ≡ Ok (Some next, c)) × (last ≡ changed (PutManifest next.id next.manifest) between)
      × (next.id ≡ p.middle.view.id + 1) × (latest_manifest last ≡ Some next))

  -- so what it put is the latest one then, and what the renewal put, where it did
  pub record Rounds : Type 0 where
    pub between : ObjectsOf L
    pub there : p.between.objects ≡ Some between
    pub put : between ≡ changed (PutManifest p.middle.view.id p.middle.view.manifest) o
    pub one : p.first ≡ 1
    pub next_is : latest_manifest between ≡ Some p.middle.view
    pub last : ObjectsOf L
    pub there_last : after.objects ≡ Some last
    pub renews : PutsRenewal k.stands renewal_of between r p.again last
    pub parts : Parts between last

  pub rounds : IdsRise (map (λ e. e.0) o.manifests) → Rounds
  rounds rising =
      let t = took in
      let u = (p.round.puts).some o refl in
      let puts = keep-recheckpoints old.view lease moment t.latest in
      let one : p.first ≡ 1 = u.2.part ∙ puts-one plan o t.latest p.middle.view p.given rising t.is t.gives puts in
      let put : u.0 ≡ changed (PutManifest p.middle.view.id p.middle.view.manifest) o =
      u.2.after ∙ (ap (λ n. after_part n (checkpoint_changes plan o) o) one ∙ ap (λ cs. after_part 1 cs o) (changes-are plan o t.latest p.middle.view p.given rising t.is t.gives puts)) in
      let v = (p.puts).some u.0 u.1 in
      record {
        between = u.0;
        there = u.1;
        put = put;
        one = one;
        next_is = ap latest_manifest u.2.after ∙ put-latest_is plan o t.latest p.middle.view p.given rising t.is t.gives puts p.first one;
        last = v.0;
        there_last = v.1;
        renews = v.2;
        parts = parts-of u.0 v.0 (its-rising t u.0 put) (ap latest_manifest u.2.after ∙ put-latest_is plan o t.latest p.middle.view p.given rising t.is t.gives puts p.first one) (planned-parts renewal_of p.again u.0 v.0 v.2.part v.2.after);
      } where
        -- the ids rise after the first put
        its-rising : (t : Took) (between : ObjectsOf L) → between ≡ changed (PutManifest p.middle.view.id p.middle.view.manifest) o → IdsRise (map (λ e. e.0) between.manifests)
        its-rising t between put =
            let its = put-is_next plan o t.latest p.middle.view p.given rising t.is t.gives (keep-recheckpoints old.view lease moment t.latest) in
            let id : p.middle.view.id ≡ t.latest.id + 1 = ap (λ (v : VersionedManifest). v.id) its.1 in
            subst (λ (s : ObjectsOf L). IdsRise (map (λ e. e.0) s.manifests)) (sym put)
            (subst (λ n. IdsRise (map (λ e. e.0) (changed (PutManifest n p.middle.view.manifest) o).manifests)) (sym id) (put-rising (λ m. Unit {0}) o t.latest rising t.is p.middle.view.manifest))

        parts-of : (between last : ObjectsOf L) → IdsRise (map (λ e. e.0) between.manifests) → latest_manifest between ≡ Some p.middle.view →
            (last ≡ between) ⊎ ((next : VersionedManifest) × (c : Checkpoint) × (renewal_of ≡ Ok (Some next, c)) × (last ≡ changed (PutManifest next.id next.manifest) between)) → Parts between last
        parts-of between last risen is (inl same) = inl same
        parts-of between last risen is (inr (next, c, gives, put)) =
            let its : Recheckpoints {A = Checkpoint} p.middle.view (Ok (Some next, c)) = subst (λ q. Recheckpoints p.middle.view q) gives (refresh-recheckpoints p.given.id p.given.lifetime moment p.middle.view) in
            let there = put-kept (λ m. Unit {0}) between p.middle.view risen is (with_checkpoints its.0 p.middle.view).manifest in
            inr (next, c, gives, put, ap (λ (v : VersionedManifest). v.id) its.1, ap latest_manifest put ∙ subst (λ (v : VersionedManifest). latest_manifest (changed (PutManifest v.id v.manifest) between) ≡ Some v) (sym its.1) there)
