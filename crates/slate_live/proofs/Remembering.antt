-- Which writes a handle tracks is no one's concern but its transactions'.
use Rattle.std.proofs.Common.{◌≡◌, ◌⊎◌, ◌≤◌, ◌∙◌, inl, inr, ℕ, List, Some, ap, refl, subst, sym}
use Rattle.std.proofs.lemmas.Bool.{cases_eq}
use Rattle.std.proofs.lemmas.List.{map-set}
use Rattle.std.specs.List.{slice_get}
use Rattle.slate_types.specs.declared.batches.Batch.{Batch}
use Rattle.slate_store.specs.Objects.{Objects}
use Rattle.slate_model.specs.Follower.{Follower}
use Rattle.slate_model.specs.Handle.{Handle, accepted, kept_handle}
use Rattle.slate_model.specs.Known.{Known}
use Rattle.slate_model.specs.Object.{Object, Handle as AHandle, Follower as AFollower, Snapshot as ASnapshot, kept, tables_of}
use Rattle.slate_model.specs.Valid.{AreBefore, AreOfPast, IsHeld, IsValidHandle}
use Rattle.slate_model.specs.declared.snapshots.HandleSnapshot.{HandleSnapshot}
use Rattle.slate_live.specs.Laws.{replaced}
use Rattle.slate_live.specs.Represents.{RepresentsObjects}
use Rattle.slate_live.specs.State.{Live}
use Rattle.slate_live.specs.World.{World}
use Rattle.slate_live.specs.Worlds.{IsHandleAt, IsFollowerAt, IsOfHandle, IsValid}
use Rattle.slate_live.proofs.Places.{get-set, get-set_other, get-set_same}

module _ (live : Live) (store : Known (List Batch)) (w : World) (n : ℕ) (h g : Handle) (r : RepresentsObjects live store w) (at : slice_get w.objects n ≡ Some (AHandle h)) (same : g ≡ record h { writes = g.writes }) where
  abbrev objects : List Object
  objects = replaced w.objects n g

  -- what stands at a place stood there, or is the handle that took the other's
  from : (m : ℕ) (object : Object) → slice_get objects m ≡ Some object → ((m ≡ n) × (AHandle g ≡ object)) ⊎ (slice_get w.objects m ≡ Some object)
  from m object is =
      elim (get-set w.objects n m (AHandle g) object (AHandle h) at is) [
        | inl new ↦ inl new
        | inr old ↦ inr old.1
      ]

  -- what holds of each object that stood there, and of the handle however it tracks, holds of each that stands there
  each : (P : ℕ → Object → Type 0) → ((x : Handle) → x ≡ record h { writes = x.writes } → P n (AHandle h) → P n (AHandle x)) → ((m : ℕ) (object : Object) → slice_get w.objects m ≡ Some object → P m object) →
      (m : ℕ) (object : Object) → slice_get objects m ≡ Some object → P m object
  each P keeps before m object is =
      elim (from m object is) [
        | inl new ↦ subst (λ k. P k object) (sym new.0) (subst (P n) new.1 (keeps g same (before n (AHandle h) at)))
        | inr old ↦ before m object old
      ]

  -- a follower that stands there stood there
  follower-from : (m : ℕ) (follower : Follower) → IsFollowerAt objects m follower → IsFollowerAt w.objects m follower
  follower-from m follower is = elim (from m (AFollower follower) is) [ inl new ↦ absurd (let e = new.1 in cc) | inr old ↦ old ]

  snapshot-from : (m : ℕ) (snapshot : HandleSnapshot) → slice_get objects m ≡ Some (ASnapshot snapshot) → slice_get w.objects m ≡ Some (ASnapshot snapshot)
  snapshot-from m snapshot is = elim (from m (ASnapshot snapshot) is) [ inl new ↦ absurd (let e = new.1 in cc) | inr old ↦ old ]

  -- a handle that stands there is one that stood there, but for what it tracks
  handle-from : (m : ℕ) (x : Handle) → IsHandleAt objects m x → (y : Handle) × IsHandleAt w.objects m y × (x ≡ record y { writes = x.writes })
  handle-from m x is =
      elim (from m (AHandle x) is) [
        | inl new ↦ (let e : g ≡ x = let i = new.1 in cc in (h, subst (λ k. IsHandleAt w.objects k h) (sym new.0) at, subst (λ z. z ≡ record h { writes = z.writes }) e same))
        | inr old ↦ (x, old, refl)
      ]

  handle-to : (m : ℕ) (x : Handle) → IsHandleAt w.objects m x → (y : Handle) × IsHandleAt objects m y × (y ≡ record x { writes = y.writes })
  handle-to m x is =
      elim (cases_eq m n) [
        | inl there ↦ (let e : h ≡ x = let i : Some (AHandle h) ≡ Some (AHandle x) = sym at ∙ subst (λ k. slice_get w.objects k ≡ Some (AHandle x)) there is in cc in
            (g, subst (λ k. IsHandleAt objects k g) (sym there) (get-set_same w.objects n (AHandle g) (AHandle h) at), subst (λ z. g ≡ record z { writes = g.writes }) e same))
        | inr other ↦ (x, get-set_other w.objects n m (AHandle g) other ∙ is, refl)
      ]

  held : (o : Objects) → ((m : ℕ) (object : Object) → slice_get w.objects m ≡ Some object → IsHeld o object) → (m : ℕ) (object : Object) → slice_get objects m ≡ Some object → IsHeld o object
  held o before = each (λ m object. IsHeld o object) (λ x is have. subst (λ z. IsHeld o (AHandle z)) (sym is) have) before

  of-handle : (snapshot : HandleSnapshot) → IsOfHandle w.objects snapshot → IsOfHandle objects snapshot
  of-handle snapshot (x, is, low, high) =
      let y = handle-to snapshot.handle x is in
      let within = subst (λ z. (z.line.floor ≤ snapshot.number) × (snapshot.number ≤ accepted z)) (sym y.2) (low, high) in
      (y.0, y.1, within.0, within.1)

  valid : IsValid w → IsValid (record w { objects = objects })
  valid v = record {
    line = v.line;
    followers = λ m follower is. v.followers m follower (follower-from m follower is);
    handles = λ m x is. let y = handle-from m x is in like x y.0 y.2 (v.handles m y.0 y.1);
    snapshots = λ m snapshot is. of-handle snapshot (v.snapshots m snapshot (snapshot-from m snapshot is));
    named = λ m k x object is there.
        let y = handle-from m x is in
        let before : AreBefore y.0 (tables_of object) =
        elim (from k object there) [
          | inl new ↦ subst (λ z. AreBefore y.0 (tables_of z)) new.1 (subst (λ z. AreBefore y.0 (tables_of (AHandle z))) (sym same) (v.named m n y.0 (AHandle h) y.1 at))
          | inr old ↦ v.named m k y.0 object y.1 old
        ] in
        subst (λ z. AreBefore z (tables_of object)) (sym y.2) before;
    past = each (λ m object. AreOfPast w.catalogue (tables_of object)) (λ x is have. subst (λ z. AreOfPast w.catalogue (tables_of (AHandle z))) (sym is) have) v.past;
    distinct = λ m k a b is there alike.
        let x = handle-from m a is in
        let y = handle-from k b there in
        v.distinct m k x.0 y.0 x.1 y.1 (sym (ap (λ (z : Handle). z.epoch) x.2) ∙ (alike ∙ ap (λ (z : Handle). z.epoch) y.2));
  } where
    like : (x y : Handle) → x ≡ record y { writes = x.writes } → IsValidHandle w.stored w.catalogue y → IsValidHandle w.stored w.catalogue x
    like x y is v = subst (IsValidHandle w.stored w.catalogue) (sym is) (record {
      numbered = v.numbered;
      floor = v.floor;
      tabled = v.tabled;
      durable = v.durable;
      confirmed = v.confirmed;
      unused = v.unused;
      behind = v.behind;
      current = v.current;
    })

  pub remembers-at : RepresentsObjects (record live { objects = replaced live.objects n (kept_handle g) }) store (record w { objects = objects })
  remembers-at = record {
    held = (r.held.0, r.held.1, r.held.2, record { stored = r.held.3.stored; catalogue = r.held.3.catalogue }, held r.held.0 r.held.4);
    faults = r.faults;
    objects = ap (λ xs. replaced xs n (kept_handle g)) r.objects ∙ sym (map-set kept w.objects n (AHandle g));
    writes = r.writes;
    valid = valid r.valid;
  }

pub remembers : (live : Live) (store : Known (List Batch)) (w : World) (n : ℕ) (handle other : Handle) →
    RepresentsObjects live store w → slice_get w.objects n ≡ Some (AHandle handle) → other ≡ record handle { writes = other.writes } →
    RepresentsObjects (record live { objects = replaced live.objects n (kept_handle other) }) store (record w { objects = replaced w.objects n other })
remembers live store w n handle other r at same = remembers-at live store w n handle other r at same
