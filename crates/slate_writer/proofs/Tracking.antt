-- What a tracker takes and keeps of numbers that don't fall.
use Rattle.std.proofs.Common.{◌≡◌, ℕ, suc, ◌+◌, ◌-◌, ◌≤◌, ◌&&◌, ◌∙◌, ap, refl, sym, map, slice_get, leb, length-append, ltb, cond, Bool, true, false, List, [], ◌∷◌, ◌++◌, Option, Some, None, Result, Ok, Err, MatchResult, subst, length, arith}
use Rattle.std.specs.Option.{IfSome, option_map_or}
use Rattle.std.proofs.lemmas.Bool.{le-leb, le-ltb, leb-true}
use Rattle.std.proofs.lemmas.List.{length-map}
use Rattle.slate_types.specs.Line.{AreNumberedFrom}
use Rattle.slate_types.specs.declared.batches.Batch.{Batch}
use Rattle.slate_seqtrack.specs.declared.faults.TrackerFault.{TrackerFault}
use Rattle.slate_seqtrack.specs.declared.faults.TrackerFault.TheVariants.{FallingNumber}
use Rattle.slate_seqtrack.specs.declared.pairs.TrackedSeq.{TrackedSeq}
use Rattle.slate_seqtrack.specs.Bytes.{has_bytes, packed, tracker_at}
use Rattle.slate_seqtrack.specs.Thinning.{evens, last_alone, thinned}
use Rattle.slate_model.specs.Tracked.{fits_tables, fitting, no_times, or_as_before, seconds_of, tracked, tracked_all, tracker_in}
use Rattle.slate_seqtrack.specs.Tracker.{Tracker, inserted, is_early, last_number, numbers_of, recording, recording_above}

-- a list whose last number isn't above this one
abbrev pub EndsBy : ℕ → List TrackedSeq → Type 0
EndsBy n pairs = IfSome (last_number pairs) (λ last. last ≤ n)

pub ends-later : (m n : ℕ) (pairs : List TrackedSeq) → m ≤ n → EndsBy m pairs → EndsBy n pairs
ends-later m n pairs le ends = by (last_number pairs) ends where
  by : (last : Option ℕ) → IfSome last (λ l. l ≤ m) → IfSome last (λ l. l ≤ n)
  by None h = tt
  by (Some l) h = omega (arith, h, le)

-- with a pair more
ends-push : (n : ℕ) (pairs : List TrackedSeq) (p : TrackedSeq) → p.seq ≤ n → EndsBy n (pairs ++ p ∷ [])
ends-push n [] p le = le
ends-push n (a ∷ []) p le = le
ends-push n (a ∷ b ∷ pairs) p le = ends-push n (b ∷ pairs) p le

-- and with every other one of those
ends-evens : (n : ℕ) (pairs : List TrackedSeq) (p : TrackedSeq) → EndsBy n pairs → p.seq ≤ n → EndsBy n (evens (pairs ++ p ∷ []))
ends-evens n [] p ends le = le
ends-evens n (a ∷ []) p ends le = ends
ends-evens n (a ∷ b ∷ []) p ends le = le
ends-evens n (a ∷ b ∷ c ∷ []) p ends le = ends
ends-evens n (a ∷ b ∷ c ∷ d ∷ pairs) p ends le = ends-evens n (c ∷ d ∷ pairs) p ends le

ends-thinned : (n capacity : ℕ) (pairs : List TrackedSeq) (p : TrackedSeq) → EndsBy n pairs → p.seq ≤ n → EndsBy n (thinned capacity (pairs ++ p ∷ []))
ends-thinned n capacity pairs p ends le = by (ltb capacity (length (pairs ++ p ∷ []))) where
  by : (x : Bool) → EndsBy n (cond x (evens (pairs ++ p ∷ [])) (pairs ++ p ∷ []))
  by true = ends-evens n pairs p ends le
  by false = ends-push n pairs p le

-- a tracker after an insertion ends by the pair's number
pub ends-inserted : (n : ℕ) (t t' : Tracker) (p : TrackedSeq) → EndsBy n t.pairs → p.seq ≤ n → inserted t p ≡ Ok t' → EndsBy n t'.pairs
ends-inserted n t t' p ends le is = by (is_early t.interval t.recorded p.ts) (last_number t.pairs) is where
  recorded-ends : recording t p ≡ t' → EndsBy n t'.pairs
  recorded-ends same = subst (λ (x : Tracker). EndsBy n x.pairs) same (ends-thinned n t.capacity t.pairs p ends le)

  above : (m : ℕ) (falls : Bool) → cond falls (Err (FallingNumber m p.seq)) (Ok (recording t p)) ≡ Ok t' → EndsBy n t'.pairs
  above m true same = absurd (cc)
  above m false same = recorded-ends cc

  by : (early : Bool) (last : Option ℕ) → cond early (Ok t) (recording_above last t p) ≡ Ok t' → EndsBy n t'.pairs
  by true last same = let here : t ≡ t' = cc in subst (λ (x : Tracker). EndsBy n x.pairs) here ends
  by false None same = recorded-ends cc
  by false (Some m) same = above m (ltb p.seq m) same

-- a pair whose number doesn't fall is taken
never_refused : (t : Tracker) (p : TrackedSeq) (fault : TrackerFault) → EndsBy p.seq t.pairs → inserted t p ≡ Err fault → ⊥
never_refused t p fault ends is = by (is_early t.interval t.recorded p.ts) (last_number t.pairs) ends is where
  by : (early : Bool) (last : Option ℕ) → IfSome last (λ l. l ≤ p.seq) → cond early (Ok t) (recording_above last t p) ≡ Err fault → ⊥
  by true last le same = cc
  by false None le same = cc
  by false (Some m) le same = let no : ltb p.seq m ≡ false = le-ltb p.seq m le in let here = rw no at same in cc

pub all_taken : (t t' : Tracker) (p : TrackedSeq) (r : Result (Unit {0}) TrackerFault) → EndsBy p.seq t.pairs → MatchResult r (λ _. inserted t p ≡ Ok t') (λ fault. (inserted t p ≡ Err fault) × (t' ≡ t)) → inserted t p ≡ Ok t'
all_taken t t' p (Ok _) ends is = is
all_taken t t' p (Err fault) ends is = absurd (never_refused t p fault ends is.0)

-- one that had no number past the last batch has none after the next one is tracked
pub ends-pushed : (floor : ℕ) (bs : List Batch) (b : Batch) (t t' : Tracker) (p : TrackedSeq) → EndsBy (floor + length bs) t.pairs → p.seq ≡ floor + length bs + 1 → inserted t p ≡ Ok t' → EndsBy (floor + length (bs ++ b ∷ [])) t'.pairs
ends-pushed floor bs b t t' p ends next taken =
    let end : floor + length (bs ++ b ∷ []) ≡ floor + length bs + 1 = simp length-append (omega arith) in
    ends-inserted _ t t' p (ends-later _ _ t.pairs (omega (arith, end)) ends) (omega (arith, end, next)) taken

-- ---- the tracker of a manifest
-- the last number of a tracker is the last of its numbers
last-at : (pairs : List TrackedSeq) → slice_get (map (λ (p : TrackedSeq). p.seq) pairs) (length (map (λ (p : TrackedSeq). p.seq) pairs) - 1) ≡ last_number pairs
last-at [] = refl
last-at (p ∷ []) = refl
last-at (p ∷ q ∷ pairs) =
    let at : length (map (λ (p : TrackedSeq). p.seq) (p ∷ q ∷ pairs)) - 1 ≡ suc (length (map (λ (p : TrackedSeq). p.seq) (q ∷ pairs)) - 1) = omega arith in
    rw at (last-at (q ∷ pairs))

pub fits-is : (number last : ℕ) (t : Tracker) (numbers : List ℕ) → numbers ≡ numbers_of t → slice_get numbers (length numbers - 1) ≡ Some last → (leb (length numbers) 8192 && leb last number) ≡ fits_tables number t
fits-is number last t numbers is at =
    let same : last_number t.pairs ≡ Some last = sym (last-at t.pairs) ∙ sym (ap (λ (ns : List ℕ). slice_get ns (length ns - 1)) is) ∙ at in
    let size : length numbers ≡ length t.pairs = ap length is ∙ length-map t.pairs (λ (p : TrackedSeq). p.seq) in
    rw (same, size) refl

pub fits-few : (number last : ℕ) (t : Tracker) (numbers : List ℕ) → numbers ≡ numbers_of t → slice_get numbers (length numbers - 1) ≡ Some last → length numbers ≤ 8192 → leb last number ≡ fits_tables number t
fits-few number last t numbers is at few = ap (λ b. b && leb last number) (sym (le-leb (length numbers) 8192 few)) ∙ fits-is number last t numbers is at

pub fits-none : (number : ℕ) (t : Tracker) (numbers : List ℕ) → numbers ≡ numbers_of t → slice_get numbers (length numbers - 1) ≡ None → true ≡ fits_tables number t
fits-none number t numbers is at =
    let same : last_number t.pairs ≡ None = sym (last-at t.pairs) ∙ sym (ap (λ (ns : List ℕ). slice_get ns (length ns - 1)) is) ∙ at in
    let none : t.pairs ≡ [] = no-pairs t.pairs same in
    rw none refl
  where
    no-pairs : (pairs : List TrackedSeq) → last_number pairs ≡ None → pairs ≡ []
    no-pairs [] h = refl
    no-pairs (p ∷ []) h = absurd (cc)
    no-pairs (p ∷ q ∷ pairs) h = let less = no-pairs (q ∷ pairs) h in absurd (cc)

-- one that fits ends by the number
pub ends-fitting : (number : ℕ) (r : Result Tracker TrackerFault) (t : Tracker) → fitting number r ≡ Some t → EndsBy number t.pairs
ends-fitting number (Ok u) t is = by (leb (length u.pairs) 8192) (last_number u.pairs) refl is where
  taken : (last : Option ℕ) → last_number u.pairs ≡ last → (u ≡ t) → IfSome last (λ l. l ≤ number) → EndsBy number t.pairs
  taken last at same h = subst (λ (x : Tracker). EndsBy number x.pairs) same (subst (λ o. IfSome o (λ l. l ≤ number)) (sym at) h)

  by : (few : Bool) (last : Option ℕ) → last_number u.pairs ≡ last → cond (few && option_map_or (λ l. leb l number) last true) (Some u) None ≡ Some t → EndsBy number t.pairs
  by false last at e = absurd (cc)
  by true None at e = taken None at (cc) tt
  by true (Some l) at e = below (leb l number) refl e where
    below : (b : Bool) → leb l number ≡ b → cond b (Some u) None ≡ Some t → EndsBy number t.pairs
    below true le e = taken (Some l) at (cc) (leb-true l number le)
    below false le e = absurd (cc)
ends-fitting number (Err fault) t is = absurd (cc)

pub ends-stored : (number : ℕ) (bytes : Option (List ℕ)) (t : Tracker) → tracker_in number bytes ≡ Some t → EndsBy number t.pairs
ends-stored number None t is = let same : no_times ≡ t = cc in subst (λ (x : Tracker). EndsBy number x.pairs) same tt
ends-stored number (Some bytes) t is = ends-fitting number (tracker_at bytes) t is

-- and so it does after batches that are numbered on from there
ends-kept : (n : ℕ) (t : Tracker) (p : TrackedSeq) (r : Result Tracker TrackerFault) → inserted t p ≡ r → EndsBy n t.pairs → p.seq ≤ n → EndsBy n (or_as_before t r).pairs
ends-kept n t p (Ok u) is ends le = ends-inserted n t u p ends le is
ends-kept n t p (Err fault) is ends le = ends

pub ends-all : (floor : ℕ) (t : Tracker) (bs : List Batch) → AreNumberedFrom floor bs → EndsBy floor t.pairs → EndsBy (floor + length bs) (tracked_all t bs).pairs
ends-all floor t [] numbered ends = ends-later floor (floor + 0) t.pairs (omega arith) ends
ends-all floor t (b ∷ bs) numbered ends =
    let p : TrackedSeq = record { seq = b.number; ts = seconds_of b.create_ts } in
    let number : b.number ≡ floor + 1 = numbered.0 in
    let next = ends-all (floor + 1) (tracked t b.number b.create_ts) bs numbered.1 (ends-kept (floor + 1) t p (inserted t p) refl (ends-later floor (floor + 1) t.pairs (omega arith) ends) (omega (arith, number))) in
    let end : floor + 1 + length bs ≡ floor + length (b ∷ bs) = omega arith in
    subst (λ n. EndsBy n (tracked_all (tracked t b.number b.create_ts) bs).pairs) end next

-- and packed it ends as before
last-alone : (pairs : List TrackedSeq) → last_number (last_alone pairs) ≡ last_number pairs
last-alone [] = refl
last-alone (p ∷ []) = refl
last-alone (p ∷ q ∷ pairs) = last-alone (q ∷ pairs)

pub ends-packed : (n : ℕ) (t : Tracker) → EndsBy n t.pairs → EndsBy n (packed t).pairs
ends-packed n t ends = by (has_bytes t) where
  by : (b : Bool) → EndsBy n (cond b t (record t { pairs = last_alone t.pairs })).pairs
  by true = ends
  by false = subst (λ o. IfSome o (λ l. l ≤ n)) (sym (last-alone t.pairs)) ends
