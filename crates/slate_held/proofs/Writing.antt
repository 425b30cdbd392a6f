-- A write at a second moment, after one at a first moment that the tick alone refused.
use Rattle.std.proofs.Common.{◌≡◌, ℤ, true, List, [], Option, Some, None, Result, Err, IfSome, IsSomeAnd, ◌⊎◌, ⊎_elim, subst}
use Rattle.slate_types.specs.declared.batches.KeyOp.{KeyOp}
use Rattle.slate_errors.specs.declared.errors.SlateError.{SlateError}
use Rattle.slate_errors.specs.declared.errors.SlateError.TheVariants.{NoMemory}
use Rattle.slate_model.specs.declared.answers.Written.{Written}
use Rattle.slate_model.specs.Handle.{Handle}
use Rattle.slate_model.specs.Segments.{Extractor}
use Rattle.slate_model.specs.Write.{Writes, WritesByAny}
use Rattle.slate_held.specs.Moments.{IsSecond, is_of_clock}

-- the tick refused the write, where it wasn't for want of memory
is-clocked : (refusal : Option SlateError) (error : SlateError) → (error ≡ NoMemory) ⊎ (refusal ≡ Some error) → is_of_clock error ≡ true →
    IsSomeAnd refusal (λ e. is_of_clock e ≡ true)
is-clocked refusal error cause late =
    ⊎_elim (λ (e : error ≡ NoMemory). absurd (let no : is_of_clock NoMemory ≡ true = subst (λ (q : SlateError). is_of_clock q ≡ true) e late in cc))
    (λ (e : refusal ≡ Some error). rw e late) cause

pub written-second : {Answers : ℤ → Type 0} (x : Option Extractor) (old mid new : Handle) (ops ops' : List KeyOp) (moment moment' second second' : ℤ) (error : SlateError) (answer : Result Written SlateError) →
    moment' ≡ moment → second' ≡ second → Writes x old ops moment' None (Err error) mid → is_of_clock error ≡ true → ops' ≡ ops → Answers second → Writes x mid ops' moment' (Some second') answer new →
    (s : Option ℤ) × IsSecond Answers x old ops moment s × Writes x old ops moment s answer new
written-second {Answers} x old mid new ops ops' moment moment' second second' error answer at then first late same answered again =
    let refused = first.refused in
    subst (λ (m : ℤ). (s : Option ℤ) × IsSecond Answers x old ops m s × Writes x old ops m s answer new) at (
      Some second,
      (answered, is-clocked _ error refused.0 late),
      subst (λ (h : Handle). Writes x h ops moment' (Some second) answer new) refused.1
          (subst (λ (o : List KeyOp). Writes x mid o moment' (Some second) answer new) same
          (subst (λ (t : ℤ). Writes x mid ops' moment' (Some t) answer new) then again)),
    )

-- the same with any extractor
pub written-by-any : {Answers : ℤ → Type 0} (old mid new : Handle) (ops ops' : List KeyOp) (moment moment' second second' : ℤ) (error : SlateError) (answer : Result Written SlateError) →
    moment' ≡ moment → second' ≡ second → WritesByAny [] old ops moment' None (Err error) mid → ops' ≡ ops → Answers second → WritesByAny [] mid ops' moment' (Some second') answer new →
    (s : Option ℤ) × IfSome s Answers × WritesByAny [] old ops moment s answer new
written-by-any {Answers} old mid new ops ops' moment moment' second second' error answer at then first same answered again =
    subst (λ (m : ℤ). (s : Option ℤ) × IfSome s Answers × WritesByAny [] old ops m s answer new) at (
      Some second,
      answered,
      subst (λ (h : Handle). WritesByAny [] h ops moment' (Some second) answer new) first.refused.1
          (subst (λ (o : List KeyOp). WritesByAny [] mid o moment' (Some second) answer new) same
          (subst (λ (t : ℤ). WritesByAny [] mid ops' moment' (Some t) answer new) then again)),
    )
