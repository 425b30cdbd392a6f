-- Reading values one after another, as a loop does.
use Rattle.std.proofs.Common.{◌≡◌, ℕ, suc, ◌-◌, ◌+◌, ◌≤◌, ◌<◌, List, [], ◌∷◌, ◌++◌, Result, Ok, Err, refl, sym, ap, ◌∙◌, append_assoc, arith}
use Rattle.std.proofs.lemmas.List.{append-nil}
use Rattle.slate_objects.specs.declared.faults.DecodeFault.{DecodeFault}
use Rattle.slate_objects.specs.declared.faults.DecodeError.{DecodeError}
use Rattle.slate_objects.specs.declared.faults.DecodeError.TheVariants as errors
use Rattle.slate_objects.specs.Reading.{◌>>=◌, Fails, many_at}

module _ {A : Type 0} where
  -- what was read before, and what is still read
  abbrev pub with_front : List A → Result (List A × List ℕ) DecodeFault → Result (List A × List ℕ) DecodeFault
  with_front front read = read >>= λ x. Ok (front ++ x.0, x.1)

  regroup : (front : List A) (n : A) (read : Result (List A × List ℕ) DecodeFault) → with_front front (read >>= λ x. Ok (n ∷ x.0, x.1)) ≡ with_front (front ++ n ∷ []) read
  regroup front n (Ok x) = ap (λ (ns : List A). Ok (ns, x.1)) (simp append_assoc)
  regroup front n (Err f) = refl

  module _ (read_at : List ℕ → Result (A × List ℕ) DecodeFault) where
    pub goes_on : (front : List A) (count i : ℕ) (bytes : List ℕ) (n : A) (after : List ℕ) (total : Result (List A × List ℕ) DecodeFault) → i < count → read_at bytes ≡ Ok (n, after)
        → with_front front (many_at read_at (count - i) bytes) ≡ total → with_front (front ++ n ∷ []) (many_at read_at (count - (i + 1)) after) ≡ total
    goes_on front count i bytes n after total lt h so_far =
        let k : count - i ≡ suc (count - (i + 1)) = omega arith in
        let one : with_front front (many_at read_at (count - i) bytes) ≡ with_front (front ++ n ∷ []) (many_at read_at (count - (i + 1)) after) = rw (k, h) (regroup front n (many_at read_at (count - (i + 1)) after)) in
        sym one ∙ so_far

    pub ends : (e : DecodeError) (front : List A) (count i : ℕ) (bytes : List ℕ) (total : Result (List A × List ℕ) DecodeFault) → i < count → Fails e (read_at bytes)
        → with_front front (many_at read_at (count - i) bytes) ≡ total → Fails e total
    ends errors.NoMemory front count i bytes total lt h so_far = tt
    ends (errors.Fault f) front count i bytes total lt h so_far =
        let k : count - i ≡ suc (count - (i + 1)) = omega arith in
        let one : with_front front (many_at read_at (count - i) bytes) ≡ Err f = rw (k, h) refl in
        sym so_far ∙ one

    pub is_done : (front : List A) (count i : ℕ) (bytes : List ℕ) (total : Result (List A × List ℕ) DecodeFault) → count ≤ i → with_front front (many_at read_at (count - i) bytes) ≡ total → total ≡ Ok (front, bytes)
    is_done front count i bytes total le so_far =
        let k : count - i ≡ 0 = omega arith in
        let one : with_front front (many_at read_at (count - i) bytes) ≡ Ok (front, bytes) = rw k (ap (λ (ns : List A). Ok (ns, bytes)) (append-nil front)) in
        sym so_far ∙ one
