-- A begun poll ends for its tries exactly at the eighth overtaken put.
use Rattle.std.proofs.Common.{◌≡◌, ◌∙◌, ℕ, ◌+◌, ◌-◌, ◌==◌, inl, inr, Bool, true, false, if◌then◌else◌, List, Option, Some, None, Result, Ok, Err, refl, sym, ap, subst}
use Rattle.std.proofs.lemmas.Bool.{eq-eqb, eqb-true}
use Rattle.std.specs.Option.{IfSome}
use Rattle.slate_types.specs.declared.batches.Batch.{Batch}
use Rattle.slate_store.specs.Objects.{Objects, log_at}
use Rattle.slate_errors.specs.declared.errors.SlateError.{SlateError}
use Rattle.slate_errors.specs.declared.errors.SlateError.TheVariants as errors
use Rattle.slate_model.specs.Begun.{AsksLast, Begun, Breaks, Ended, Ends, Fails, Goes, LooksAt, Puts, ReadsAgain, ReadsLatest, ReadsLog, Stage, Turn, begun_at, noted, taken, with_step}
use Rattle.slate_model.specs.Follower.{Follower}
use Rattle.slate_model.specs.declared.answers.PollAnswer.{PollAnswer}
use Rattle.slate_model.specs.declared.answers.PollAnswer.TheVariants as answers
use Rattle.slate_types.specs.Modelled.{WhereModelled}
use Rattle.slate_types.specs.declared.store_errors.StoreFault.TheVariants.{Unavailable}
use Rattle.slate_follow.specs.Lasting.{IsEighth, IsOfEighth, IsOvertaken, TriesEight}
use Rattle.slate_follow.specs.Stepping.{LooksTo, Meets, MeetsAt, StepFails, Steps, reads_latest}
use Rattle.slate_follow.proofs.Rebuilt.{if_some}
use Rattle.slate_follow.proofs.Plain.{Plain, decided-plain, committed-plain, looked-plain, log-untimed, again-untimed}

timeout-eighth : (o o' : Objects) (reader : Follower) (b : Begun) (tries : ℕ) (stage : Stage) → MeetsAt stage reader (taken b) o (Fails (errors.TransactionalObjectTimeout tries)) o' → IsOvertaken stage o × (b.overtaken ≡ 7)
timeout-eighth o o' reader b tries ReadsLatest (l, is, turn_is, same) = absurd (subst Plain (sym turn_is) (decided-plain reader l b.lease (noted l (taken b))))
timeout-eighth o o' reader b tries (Puts next given replaces) (inl (free, turn_is, put)) = absurd (subst Plain (sym turn_is) (committed-plain reader next given replaces (taken b)))
timeout-eighth o o' reader b tries (Puts next given replaces) (inr (there, turn_is, same)) = (there, by (b.overtaken == 7) refl turn_is)
  where
    by : (x : Bool) → (b.overtaken == 7) ≡ x → Fails (errors.TransactionalObjectTimeout tries) ≡ (if x then Fails (errors.TransactionalObjectTimeout 8) else Goes (begun_at b.moment (b.overtaken + 1) (with_step b.history) reader)) → b.overtaken ≡ 7
    by true seven is = eqb-true b.overtaken 7 seven
    by false other is = absurd (cc)
timeout-eighth o o' reader b tries AsksLast (turn_is, same) = absurd (cc)
timeout-eighth o o' reader b tries (LooksAt id last) (l, is, turn_is, same) = absurd (by (log_at id o) turn_is)
  where
    by : (log : Option (List Batch)) → LooksTo reader l id last (taken b) log (Fails (errors.TransactionalObjectTimeout tries)) → ⊥
    by None turn_is = cc
    by (Some batches) turn_is = subst Plain (sym turn_is) (looked-plain reader l id last batches (taken b))
timeout-eighth o o' reader b tries (ReadsLog last) (read, fresh, found_log, held, n, turn_is, same) = absurd (log-untimed found_log read last fresh (taken b) tries (sym turn_is))
timeout-eighth o o' reader b tries ReadsAgain (l, is, turn_is, same) = absurd (again-untimed l (taken b) tries (sym turn_is))
timeout-eighth o o' reader b tries Ended m = absurd m

eighth-turn : (o o' : Objects) (reader : Follower) (b : Begun) (turn : Turn) (stage : Stage) → IsOvertaken stage o → b.overtaken ≡ 7 → MeetsAt stage reader (taken b) o turn o' → turn ≡ Fails (errors.TransactionalObjectTimeout 8)
eighth-turn o o' reader b turn (Puts next given replaces) there seven (inl (free, turn_is, put)) = absurd (cc (there, free))
eighth-turn o o' reader b turn (Puts next given replaces) there seven (inr (present, turn_is, same)) =
    turn_is ∙ ap (λ x. if x then Fails (errors.TransactionalObjectTimeout 8) else Goes (begun_at b.moment (b.overtaken + 1) (with_step b.history) reader)) (eq-eqb b.overtaken 7 seven)
eighth-turn o o' reader b turn ReadsLatest there seven m = absurd there
eighth-turn o o' reader b turn AsksLast there seven m = absurd there
eighth-turn o o' reader b turn (LooksAt id last) there seven m = absurd there
eighth-turn o o' reader b turn (ReadsLog last) there seven m = absurd there
eighth-turn o o' reader b turn ReadsAgain there seven m = absurd there
eighth-turn o o' reader b turn Ended there seven m = absurd there

never-reads : (stage : Stage) (o : Objects) → IsOvertaken stage o → reads_latest stage ≡ true → ⊥
never-reads (Puts next given replaces) o there reads = cc
never-reads stage o there reads = absurd there

pub tries-eight : (o o' : Objects) (reader reader' : Follower) (b b' : Begun) (result : Result (Option PollAnswer) SlateError) → Steps reader b result o reader' b' o' → TriesEight o b result
tries-eight o o' reader reader' b b' result steps = record { only = λ tries is. only tries (subst (λ r. Steps reader b r o reader' b' o') is steps); exact = λ eighth. exact eighth.0 eighth.1 result steps }
  where
    only : (tries : ℕ) → Steps reader b (Err (errors.TransactionalObjectTimeout tries)) o reader' b' o' → IsEighth o b
    only tries steps = timeout-eighth o o' reader b tries b.stage steps

    turn-of : (turn : Turn) → IsOvertaken b.stage o → b.overtaken ≡ 7 → Meets reader b o turn o' → turn ≡ Fails (errors.TransactionalObjectTimeout 8)
    turn-of turn there seven m = eighth-turn o o' reader b turn b.stage there seven m

    same-error : (e : SlateError) → Fails e ≡ Fails (errors.TransactionalObjectTimeout 8) → IsOfEighth (Err e)
    same-error e is = let same : e ≡ errors.TransactionalObjectTimeout 8 = cc in subst (λ x. IsOfEighth (Err x)) (sym same) refl

    failed : IsOvertaken b.stage o → b.overtaken ≡ 7 → (e : SlateError) → StepFails e reader b o o' → IsOfEighth (Err e)
    failed there seven errors.InvalidDBState (inl m) = same-error errors.InvalidDBState (turn-of (Fails errors.InvalidDBState) there seven m)
    failed there seven errors.InvalidDBState (inr (last, inl m)) = absurd (let no = turn-of (Ends last) there seven m in cc)
    failed there seven errors.InvalidDBState (inr (last, inr m)) = absurd (let no = turn-of (Breaks last) there seven m in cc)
    failed there seven errors.LatestTransactionalObjectVersionMissing f = absurd (never-reads b.stage o there f.0)
    failed there seven (errors.ObjectStoreError Unavailable) f = tt
    failed there seven errors.NoMemory f = tt
    failed there seven e f = same-error e (turn-of (Fails e) there seven f)

    exact : IsOvertaken b.stage o → b.overtaken ≡ 7 → (result : Result (Option PollAnswer) SlateError) → Steps reader b result o reader' b' o' → IsOfEighth result
    exact there seven (Ok None) steps = absurd (let no = turn-of (Goes b') there seven steps.0 in cc)
    exact there seven (Ok (Some (answers.Whole at))) steps = absurd (let no = turn-of (Ends steps.0) there seven steps.1 in cc)
    exact there seven (Ok (Some (answers.Truncated at))) steps = absurd (let no = turn-of (Breaks steps.0) there seven steps.1 in cc)
    exact there seven (Err e) steps = failed there seven e steps

pub tries-where : (reader reader' : Follower) (b b' : Begun) (result : Result (Option PollAnswer) SlateError) {s s' : Option Objects} → WhereModelled (λ o o'. Steps reader b result o reader' b' o') s s' → IfSome s (λ o. TriesEight o b result)
tries-where reader reader' b b' result {s} {s'} w = if_some s (λ o at. let t = w.some o at in tries-eight o t.0 reader reader' b b' result t.2)
