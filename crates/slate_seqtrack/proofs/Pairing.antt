-- Two lists of one length, as the pairs of a tracker.
use Rattle.std.proofs.Common.{◌≡◌, refl, ◌∙◌, ap, ℕ, ◌-◌, ◌<◌, zero, suc, Bool, true, false, nat_lt, ℤ, List, [], ◌∷◌, ◌++◌, length, map, get_or, slice_get, cond, arith}
use Rattle.std.proofs.lemmas.List.{length-append}
use Rattle.slate_seqtrack.specs.declared.pairs.TrackedSeq.{TrackedSeq}
use Rattle.slate_seqtrack.specs.Thinning.{evens, thinned}
use Rattle.slate_seqtrack.specs.Tracker.{paired, last_number}

pub numbers-paired : (ns : List ℕ) (ts : List ℤ) → length ts ≡ length ns → map (λ (p : TrackedSeq). p.seq) (paired ns ts) ≡ ns
numbers-paired [] ts h = refl
numbers-paired (n ∷ ns) [] h = absurd (omega arith)
numbers-paired (n ∷ ns) (t ∷ ts) h = ap (λ xs. n ∷ xs) (numbers-paired ns ts (omega arith))

pub times-paired : (ns : List ℕ) (ts : List ℤ) → length ts ≡ length ns → map (λ (p : TrackedSeq). p.ts) (paired ns ts) ≡ ts
times-paired [] [] h = refl
times-paired [] (t ∷ ts) h = absurd (omega arith)
times-paired (n ∷ ns) [] h = absurd (omega arith)
times-paired (n ∷ ns) (t ∷ ts) h = ap (λ xs. t ∷ xs) (times-paired ns ts (omega arith))

pub length-paired : (ns : List ℕ) (ts : List ℤ) → length ts ≡ length ns → length (paired ns ts) ≡ length ns
length-paired [] ts h = refl
length-paired (n ∷ ns) [] h = absurd (omega arith)
length-paired (n ∷ ns) (t ∷ ts) h = ap suc (length-paired ns ts (omega arith))

pub get_or-paired : (ns : List ℕ) (ts : List ℤ) (i : ℕ) (d : TrackedSeq) → length ts ≡ length ns → i < length ns → get_or (paired ns ts) i d ≡ record { seq = get_or ns i d.seq; ts = get_or ts i d.ts }
get_or-paired [] ts i d h lt = absurd (omega arith)
get_or-paired (n ∷ ns) [] i d h lt = absurd (omega arith)
get_or-paired (n ∷ ns) (t ∷ ts) zero d h lt = refl
get_or-paired (n ∷ ns) (t ∷ ts) (suc i) d h lt = get_or-paired ns ts i d (omega arith) (omega arith)

paired-append : (ns : List ℕ) (ts : List ℤ) (n : ℕ) (t : ℤ) → length ts ≡ length ns → paired (ns ++ n ∷ []) (ts ++ t ∷ []) ≡ paired ns ts ++ record { seq = n; ts = t } ∷ []
paired-append [] [] n t h = refl
paired-append [] (u ∷ ts) n t h = absurd (omega arith)
paired-append (m ∷ ns) [] n t h = absurd (omega arith)
paired-append (m ∷ ns) (u ∷ ts) n t h = ap (λ ps. record { seq = m; ts = u } ∷ ps) (paired-append ns ts n t (omega arith))

evens-paired : (ns : List ℕ) (ts : List ℤ) → length ts ≡ length ns → paired (evens ns) (evens ts) ≡ evens (paired ns ts)
evens-paired [] ts h = refl
evens-paired (n ∷ ns) [] h = absurd (omega arith)
evens-paired (n ∷ []) (t ∷ []) h = refl
evens-paired (n ∷ []) (t ∷ u ∷ ts) h = absurd (omega arith)
evens-paired (n ∷ m ∷ ns) (t ∷ []) h = absurd (omega arith)
evens-paired (n ∷ m ∷ ns) (t ∷ u ∷ ts) h = ap (λ ps. record { seq = n; ts = t } ∷ ps) (evens-paired ns ts (omega arith))

pub paired-thinned : (capacity : ℕ) (ns : List ℕ) (ts : List ℤ) → length ts ≡ length ns → paired (thinned capacity ns) (thinned capacity ts) ≡ thinned capacity (paired ns ts)
paired-thinned capacity ns ts h = rw (h, length-paired ns ts h) (go (nat_lt capacity (length ns))) where
  go : (past : Bool) → paired (cond past (evens ns) ns) (cond past (evens ts) ts) ≡ cond past (evens (paired ns ts)) (paired ns ts)
  go true = evens-paired ns ts h
  go false = refl

-- one pair more, and then the thinning
pub paired-recorded : (capacity : ℕ) (ns : List ℕ) (ts : List ℤ) (pair : TrackedSeq) → length ts ≡ length ns →
    paired (thinned capacity (ns ++ pair.seq ∷ [])) (thinned capacity (ts ++ pair.ts ∷ [])) ≡ thinned capacity (paired ns ts ++ pair ∷ [])
paired-recorded capacity ns ts pair h =
    paired-thinned capacity (ns ++ pair.seq ∷ []) (ts ++ pair.ts ∷ []) (omega (arith, length-append ns (pair.seq ∷ []), length-append ts (pair.ts ∷ []))) ∙
    ap (thinned capacity) (paired-append ns ts pair.seq pair.ts h)

pub last_number-paired : (ns : List ℕ) (ts : List ℤ) → length ts ≡ length ns → last_number (paired ns ts) ≡ slice_get ns (length ns - 1)
last_number-paired [] ts h = refl
last_number-paired (n ∷ ns) [] h = absurd (omega arith)
last_number-paired (n ∷ []) (t ∷ []) h = refl
last_number-paired (n ∷ []) (t ∷ u ∷ ts) h = absurd (omega arith)
last_number-paired (n ∷ m ∷ ns) (t ∷ []) h = absurd (omega arith)
last_number-paired (n ∷ m ∷ ns) (t ∷ u ∷ ts) h =
    let at : length (n ∷ m ∷ ns) - 1 ≡ suc (length (m ∷ ns) - 1) = omega arith in
    rw at (last_number-paired (m ∷ ns) (u ∷ ts) (omega arith))
