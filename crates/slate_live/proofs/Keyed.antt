-- A step of a begun poll finds no key without a segment, and answers InvalidDBState only where no manifest can follow the latest one.
use Rattle.std.proofs.Common.{◌≡◌, ◌∙◌, ◌++◌, ◌-◌, ◌≤◌, [], inl, inr, ℕ, Bool, drop, length, take, List, Option, Some, sym, subst, ap, arith}
use Rattle.std.proofs.lemmas.List.{take-append-drop}
use Rattle.slate_types.specs.declared.batches.Batch.{Batch}
use Rattle.slate_types.specs.Line.{IsLine, batches_above}
use Rattle.slate_store.specs.Objects.{Objects, latest_manifest}
use Rattle.slate_store.specs.declared.objects.VersionedManifest.{VersionedManifest}
use Rattle.slate_model.specs.Begun.{Begun, Puts, Turn, base_of, kept_batches, reached_number, taken, view_of}
use Rattle.slate_model.specs.Follower.{Follower, kept_follower}
use Rattle.slate_model.specs.Handle.{up_to}
use Rattle.slate_model.specs.Open.{replayed}
use Rattle.slate_model.specs.Segments.{Extractor}
use Rattle.slate_model.specs.declared.leases.Lease.{Lease}
use Rattle.slate_model.proofs.Coming.{planned-other}
use Rattle.slate_follow.specs.Rebuilding.{Lacks}
use Rattle.slate_follow.specs.Stepping.{ArrivalLacks, Meets}
use Rattle.slate_live.specs.Represents.{HaveSegments, PollHasSegments}
use Rattle.slate_live.specs.Standing.{IsBare, IsStaged, PollStands}
use Rattle.slate_live.specs.World.{World}
use Rattle.slate_live.proofs.Planning.{staged-planned}
use Rattle.slate_live.proofs.Segmented.{above-append, front-none, have-each, have-later, have-none}
use Rattle.slate_live.proofs.Turns.{OfTurn, meets-turn}

-- batches above a number up to another
have-front : (x : Option Extractor) (n k : ℕ) (bs : List Batch) → HaveSegments x (batches_above n bs) → HaveSegments x (batches_above n (take k bs))
have-front x n k bs have =
    (have-each x (batches_above n (take k bs)) (batches_above n (drop k bs)) (subst (HaveSegments x) (ap (batches_above n) (sym (take-append-drop k bs)) ∙ above-append n (take k bs) (drop k bs)) have)).0

none-lack : (x : Option Extractor) (batches : List Batch) (key : List ℕ) → HaveSegments x batches → Lacks x batches key → ⊥
none-lack x batches key have lacks = absurd (cc (have, lacks))

module _ (x : Option Extractor) (w : World) (reader : Follower) where
  abbrev kept_one : Follower
  kept_one = kept_follower reader

  abbrev pub Has : Begun → Type 0
  Has begun = PollHasSegments x w.stored reader begun

  -- what a call leads to has them, by a manifest that is the latest, or one that was put
  pub turn-has : (o o' : Objects) (begun : Begun) (p : PollStands o w reader begun) → HaveSegments x (replayed reader.view w.stored) → ((latest : VersionedManifest) → latest_manifest o ≡ Some latest → HaveSegments x (replayed latest w.stored)) → Has begun →
      (turn : Turn) → Meets kept_one begun o turn o' → OfTurn Has turn
  turn-has o o' begun p viewed latest_has has turn meets =
      meets-turn kept_one Has
      (record { staged = λ b stage h. h; asked = λ b h. h; marked = λ b mark h. h; fresh = λ b fresh h. h; remembers = λ b history h. h; emptied_is = λ b mark h. (h.1, h.1, h.2) })
      begun.stage (taken begun) o o' turn has (viewed, viewed, λ last is. absurd (cc))
      (λ latest is. ((has.0, latest_has latest is, last-is latest (latest_has latest is)), (has.0, has.1, last-is latest (latest_has latest is))))
      (λ next given replaces at free put.
      let new = next-has next given replaces at in
      ((has.0, new, last-is next new), (has.0, has.1, last-is next new))) meets
    where
      last-is : (v : VersionedManifest) → HaveSegments x (replayed v w.stored) → (last : VersionedManifest) → Some v ≡ Some last → HaveSegments x (replayed last w.stored)
      last-is v have last is = let same : v ≡ last = cc in subst (λ (u : VersionedManifest). HaveSegments x (replayed u w.stored)) same have

      next-has : (next : VersionedManifest) (given : Lease) (replaces : Bool) → begun.stage ≡ Puts next given replaces → HaveSegments x (replayed next w.stored)
      next-has next given replaces at =
          let staged : IsStaged reader begun (Puts next given replaces) = subst (IsStaged reader begun) at p.staged in
          let other = planned-other staged.0 next (staged-planned reader begun next given replaces staged) in
          subst (λ k. HaveSegments x (batches_above k w.stored.batches)) (sym (ap (λ (v : VersionedManifest). v.manifest.last_l0_seq) other.1)) (has.2 staged.0 staged.1)

  -- ---- where a poll ended: its batches are of what is stored
  module _ (last : Begun) (rest : List Batch) (fresh : batches_above last.floor w.stored.batches ≡ last.fresh ++ rest) (kept : kept_batches kept_one last ≡ batches_above (view_of kept_one last).manifest.last_l0_seq (up_to (reached_number last) w.stored).batches) where
    pub stored-lacks : base_of kept_one last ≤ last.floor → Has last → ArrivalLacks x kept_one last → ⊥
    stored-lacks low has lack =
        let mine : HaveSegments x last.fresh = (have-each x last.fresh rest (subst (HaveSegments x) fresh (have-later x (base_of kept_one last) last.floor w.stored.batches low has.0))).0 in
        let whole : HaveSegments x (kept_batches kept_one last) =
        subst (HaveSegments x) (sym kept) (have-front x (view_of kept_one last).manifest.last_l0_seq (reached_number last - w.stored.floor) w.stored.batches has.1) in
        elim lack.1 [
          | inl fresh_lack ↦ none-lack x last.fresh lack.0 mine fresh_lack
          | inr whole_lack ↦ none-lack x (kept_batches kept_one last) lack.0 whole whole_lack
        ]

    -- one that skips log files has no batch
    pub bare-lacks : IsLine w.stored → IsBare reader last → ArrivalLacks x kept_one last → ⊥
    bare-lacks line (keeps, none, floor) lack =
        let mine : HaveSegments x last.fresh = subst (HaveSegments x) (sym none) (have-none x) in
        let count : length last.fresh ≡ 0 = ap (λ (bs : List Batch). length bs) none in
        let number : reached_number last ≡ (view_of kept_one last).manifest.last_l0_seq = omega (arith, count, floor) in
        let empty : kept_batches kept_one last ≡ [] = kept ∙ (ap (λ k. batches_above (view_of kept_one last).manifest.last_l0_seq (up_to k w.stored).batches) number ∙ front-none (view_of kept_one last).manifest.last_l0_seq w.stored line) in
        elim lack.1 [
          | inl fresh_lack ↦ none-lack x last.fresh lack.0 mine fresh_lack
          | inr whole_lack ↦ none-lack x (kept_batches kept_one last) lack.0 (subst (HaveSegments x) (sym empty) (have-none x)) whole_lack
        ]
