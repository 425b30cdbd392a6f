-- Fronts of the line that is stored: what a reader sees that goes by a manifest, up to a number.
use Rattle.std.proofs.Common.{◌≡◌, ◌≢◌, ℕ, zero, suc, ◌+◌, ◌-◌, ◌<◌, ◌≤◌, ◌∙◌, max, inl, inr, All, List, [], ◌∷◌, ◌++◌, length, map, take, drop, cond, ltb, Option, Some, None, Bool, true, false, refl, sym, ap, subst, arith}
use Rattle.std.proofs.Math.Seq.{take-append-add, take-append_seam}
use Rattle.std.proofs.lemmas.Bool.{cases_eq, cases_lt}
use Rattle.std.proofs.lemmas.List.{append_cancel_right, length-take, take-append-drop, take-append-le}
use Rattle.std.proofs.lemmas.List.Elements.{filter-append}
use Rattle.std.proofs.Common.{length-append}
use Rattle.std.specs.BTreeMap.{is_at}
use Rattle.std.specs.Cmp.{nat_cmp_is}
use Rattle.std.specs.declared.cmp.Ordering.TheVariants.{Equal}
use Rattle.std.specs.Ordering.{nat_cmp}
use Rattle.slate_types.proofs.Lines.{above-all, above-drop}
use Rattle.slate_types.specs.Line.{AreNumberedFrom, IsLine, IsPrefix, Line, batches_above, end, extended}
use Rattle.slate_types.specs.declared.batches.Batch.{Batch}
use Rattle.slate_store.proofs.Entries.{apart}
use Rattle.slate_store.proofs.LastLog.{at_least}
use Rattle.slate_store.specs.Content.{table_batches}
use Rattle.slate_store.specs.Objects.{Objects, entry_at, greatest, last_log, latest_manifest, log_at}
use Rattle.slate_store.specs.declared.objects.VersionedManifest.{VersionedManifest}
use Rattle.slate_model.proofs.Prefixes.{up_to-end}
use Rattle.slate_model.specs.Follower.{Follower, number}
use Rattle.slate_model.specs.Handle.{up_to}
use Rattle.slate_model.specs.Seen.{HasSeen}
use Rattle.slate_model.specs.Valid.{ReadsLine}

take-fewer : {X : Type 0} (k m : ℕ) (xs : List X) → k ≤ m → take k (take m xs) ≡ take k xs
take-fewer zero m xs less = refl
take-fewer (suc k) zero xs less = absurd (omega (arith, less))
take-fewer (suc k) (suc m) [] less = refl
take-fewer (suc k) (suc m) (x ∷ xs) less = ap (λ ys. x ∷ ys) (take-fewer k m xs (omega (arith, less)))

pub numbered-take : (floor k : ℕ) (bs : List Batch) → AreNumberedFrom floor bs → AreNumberedFrom floor (take k bs)
numbered-take floor zero bs numbered = tt
numbered-take floor (suc k) [] numbered = tt
numbered-take floor (suc k) (b ∷ bs) numbered = (numbered.0, numbered-take (floor + 1) k bs numbered.1)

-- ---- the batches above a number, of lists that are joined
pub above-append : (n : ℕ) (xs ys : List Batch) → batches_above n (xs ++ ys) ≡ batches_above n xs ++ batches_above n ys
above-append n xs ys = filter-append (λ (b : Batch). ltb n b.number) xs ys

-- a front begins the line
pub front-begins : (n : ℕ) (line : Line) → IsPrefix (up_to n line) line
front-begins n line = (drop (n - line.floor) line.batches, ap (λ bs. record { floor = line.floor; batches = bs }) (sym (take-append-drop (n - line.floor) line.batches)))

-- and is the same one of a line that goes on
pub front-grown : (n : ℕ) (line line' : Line) → IsPrefix line line' → n ≤ end line → up_to n line' ≡ up_to n line
front-grown n line line' begins within =
    ap (up_to n) begins.1 ∙ ap (λ bs. record { floor = line.floor; batches = bs }) (take-append-le (n - line.floor) line.batches begins.0 (omega (arith, within)))

-- what begins a line is its front up to where it ends
pub whole-front : (front line : Line) → IsPrefix front line → front ≡ up_to (end front) line
whole-front front line begins = sym (ap (up_to (end front)) begins.1 ∙ up_to-end front begins.0)

module _ (line : Line) (numbered : IsLine line) where
  pub front-end : (n : ℕ) → line.floor ≤ n → n ≤ end line → end (up_to n line) ≡ n
  front-end n low within = let count = length-take (n - line.floor) line.batches in omega (arith, count, low, within)

  -- a front is a shorter one, and what it has above that
  pub front-split : (tabled n : ℕ) → tabled ≤ n → take (n - line.floor) line.batches ≡ take (tabled - line.floor) line.batches ++ batches_above tabled (take (n - line.floor) line.batches)
  front-split tabled n below =
      let bs = take (n - line.floor) line.batches in
      let its = numbered-take line.floor (n - line.floor) line.batches numbered in
      elim (cases_lt tabled line.floor) [
        | inl less ↦
            let all = above-all line.floor tabled bs its (omega (arith, less)) in
            let none : tabled - line.floor ≡ 0 = omega (arith, less) in
            sym (ap (λ k. take k line.batches ++ batches_above tabled bs) none ∙ all)
        | inr past ↦
            let rest = above-drop line.floor tabled (tabled - line.floor) bs its (omega (arith, past)) in
            let fewer = take-fewer (tabled - line.floor) (n - line.floor) line.batches (omega (arith, below)) in
            sym (take-append-drop (tabled - line.floor) bs) ∙ (ap (λ xs. xs ++ drop (tabled - line.floor) bs) fewer ∙ ap (λ xs. take (tabled - line.floor) line.batches ++ xs) (sym rest))
      ]

  -- where the tables of a manifest read one front they read another one
  pub reads-front : (o : Objects) (view : VersionedManifest) (n n' : ℕ) → view.manifest.last_l0_seq ≤ n → view.manifest.last_l0_seq ≤ n' → ReadsLine o view (up_to n line) → ReadsLine o view (up_to n' line)
  reads-front o view n n' low low' reads there =
      let tabled = view.manifest.last_l0_seq in
      let joined = table_batches o view.manifest.tables in
      let front : joined ≡ take (tabled - line.floor) line.batches =
      append_cancel_right joined (take (tabled - line.floor) line.batches) (batches_above tabled (take (n - line.floor) line.batches)) (reads there ∙ front-split tabled n low) in
      ap (λ xs. xs ++ batches_above tabled (take (n' - line.floor) line.batches)) front ∙ sym (front-split tabled n' low')

  -- the front up to where more of it was read
  module _ (floor : ℕ) (fresh rest : List Batch) (low : line.floor ≤ floor) (within : floor ≤ end line) (is : batches_above floor line.batches ≡ fresh ++ rest) where
    abbrev k : ℕ
    k = floor - line.floor

    whole-is : line.batches ≡ take k line.batches ++ (fresh ++ rest)
    whole-is =
        let dropped = above-drop line.floor floor k line.batches numbered (omega (arith, low)) in
        sym (take-append-drop k line.batches) ∙ ap (λ xs. take k line.batches ++ xs) (sym dropped ∙ is)

    count : length (take k line.batches) ≡ k
    count = let c = length-take k line.batches in omega (arith, c, within)

    pub fresh-within : floor + length fresh ≤ end line
    fresh-within =
        let all = ap (λ (xs : List Batch). length xs) whole-is in
        let outer = length-append (take k line.batches) (fresh ++ rest) in
        let inner = length-append fresh rest in
        let c = count in
        omega (arith, all, outer, inner, c, low)

    pub fresh-front : take (floor + length fresh - line.floor) line.batches ≡ take k line.batches ++ fresh
    fresh-front =
        let c = count in
        let n : floor + length fresh - line.floor ≡ length (take k line.batches) + length fresh = omega (arith, c, low) in
        let front = take k line.batches in
        ap (λ i. take i line.batches) n
        ∙ (ap (take (length front + length fresh)) whole-is
        ∙ (take-append-add front (fresh ++ rest) (length fresh) ∙ ap (λ xs. front ++ xs) (take-append_seam fresh rest)))

-- ---- what a reader has seen
-- it has seen as much with a greater number
pub seen-as : (o : Objects) (f g : Follower) → f.mark ≡ g.mark → number f ≤ number g → HasSeen o f → HasSeen o g
seen-as o f g same up seen = record {
  mark = λ latest is. (let low = seen.mark latest is in omega (arith, same, low));
  logs = λ latest id bs is over under at k d less. (let low = seen.logs latest id bs is over (omega (arith, same, under)) at k d less in omega (arith, up, low));
}

-- what two have seen, up to the greater mark
pub seen-both : (o : Objects) (f g both : Follower) → both.mark ≡ max f.mark g.mark → number f ≤ number both → number g ≤ number both → HasSeen o f → HasSeen o g → HasSeen o both
seen-both o f g both is up up' seen seen' = record {
  mark = λ latest at. (let low = seen.mark latest at in let low' = seen'.mark latest at in omega (arith, is, low, low'));
  logs = λ latest id bs at over under there k d less. elim (cases_lt f.mark id) [
    | inl past ↦ (let low = seen'.logs latest id bs at over (omega (arith, is, under, past)) there k d less in omega (arith, up', low))
    | inr within ↦ (let low = seen.logs latest id bs at over within there k d less in omega (arith, up, low))
  ];
}

-- no log file is stored past the last one
pub stored-below : {X : Type 0} (mark id : ℕ) (x : X) (es : List (ℕ × X)) → entry_at id es ≡ Some x → id ≤ greatest mark (map (λ e. e.0) es)
stored-below mark id x [] is = absurd (cc)
stored-below mark id x (e ∷ es) is = elim (cases_eq id e.0) [
  | inl same ↦ omega (arith, same)
  | inr other ↦
      let there : is_at (nat_cmp id) e.0 ≡ false = apart id e.0 other in
      let later = stored-below mark id x es (sym (ap (λ b. cond b (Some e.1) (entry_at id es)) there) ∙ is) in
      omega (arith, later)
]

-- and the last one is, where it is past a mark
pub last-there : {X : Type 0} (mark : ℕ) (es : List (ℕ × X)) → mark < greatest mark (map (λ e. e.0) es) → entry_at (greatest mark (map (λ e. e.0) es)) es ≢ None
last-there mark [] past none = absurd (omega (arith, past))
last-there {X} mark (e ∷ es) past none =
    let here = greatest mark (map (λ (x : ℕ × X). x.0) (e ∷ es)) in
    let rest = greatest mark (map (λ (x : ℕ × X). x.0) es) in
    elim (cases_eq here e.0) [
      | inl same ↦
          let cmp : nat_cmp here e.0 ≡ Equal = sym (nat_cmp_is here e.0 Equal same) in
          let some : entry_at here (e ∷ es) ≡ Some e.1 = rw cmp refl in
          absurd (cc (none, some))
      | inr other ↦
          let is : here ≡ rest = omega (arith, other) in
          let there : is_at (nat_cmp here) e.0 ≡ false = apart here e.0 other in
          let later : entry_at here es ≡ None = sym (ap (λ b. cond b (Some e.1) (entry_at here es)) there) ∙ none in
          last-there mark es (omega (arith, is, past)) (subst (λ k. entry_at k es ≡ None) is later)
    ]

-- one that has read the log file after its mark, whose batches it has
pub seen-log : (o : Objects) (f g : Follower) (batches : List Batch) → g.mark ≡ f.mark + 1 → number f ≤ number g → log_at (f.mark + 1) o ≡ Some batches → All (λ b. b.number ≤ number g) batches → HasSeen o f → HasSeen o g
seen-log o f g batches is up there within seen = record {
  mark = λ latest at. (let low = stored-below latest.manifest.replay_after_wal_id (f.mark + 1) batches o.logs there in omega (arith, is, low));
  logs = λ latest id bs at over under found. elim (cases_lt f.mark id) [
    | inl past ↦
        (let this : id ≡ f.mark + 1 = omega (arith, is, under, past) in
        let same : batches ≡ bs = (let here = subst (λ n. log_at n o ≡ Some bs) this found in cc) in
        subst (λ xs. All (λ b. b.number ≤ number g) xs) same within)
    | inr before ↦ λ k d less. (let low = seen.logs latest id bs at over before found k d less in omega (arith, up, low))
  ];
}
