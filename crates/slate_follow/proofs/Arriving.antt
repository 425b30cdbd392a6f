-- Why a poll by single calls is refused once it has come to its end.
use Rattle.std.proofs.Common.{◌≡◌, ℕ, List, Option, inl, inr, refl}
use Rattle.std.specs.Option.{IfSome}
use Rattle.std.specs.Prelude.{◌⊎◌}
use Rattle.slate_types.specs.Modelled.{WhereModelled}
use Rattle.slate_errors.specs.declared.errors.SlateError.{SlateError}
use Rattle.slate_errors.specs.declared.errors.SlateError.TheVariants as errors
use Rattle.slate_store.specs.Objects.{Objects}
use Rattle.slate_model.specs.Begun.{AsksLast, Begun, Breaks, Ended, Ends, LooksAt, Puts, ReadsAgain, ReadsLatest, ReadsLog, Stage, Turn, taken}
use Rattle.slate_model.specs.Follower.{Follower}
use Rattle.slate_model.specs.Segments.{Extractor}
use Rattle.slate_segments.specs.Refusals.{IsOfSegment}
use Rattle.slate_follow.specs.Rebuilding.{poll_error}
use Rattle.slate_follow.specs.Stepping.{ArrivalLacks, FailsFrom, LeavesPut, Meets, MeetsAt, StepFails, StepLacks, came}
use Rattle.slate_follow.specs.declared.machines.Turn.{Turn as Answered}
use Rattle.slate_follow.specs.declared.machines.Turn.TheVariants as turns
use Rattle.slate_follow.proofs.Rebuilt.{if_some}

-- an error of adding batches, or of taking their segments, isn't that of a key
pub memory-keyless : (e : SlateError) → e ≡ errors.NoMemory → (key : List ℕ) → e ≡ errors.EmptySegmentPrefix key → ⊥
memory-keyless e none key is = absurd (cc)

-- segments weren't taken, since a key has none
pub segments-or-key : {B : List ℕ → Type 0} (e : SlateError) (key : List ℕ) → e ≡ errors.EmptySegmentPrefix key → (e ≡ errors.NoMemory) ⊎ ((first : List ℕ) × B first) → (first : List ℕ) × B first
segments-or-key e key named (inl none) = absurd (memory-keyless e none key named)
segments-or-key e key named (inr lacks) = lacks

-- ---- a step that fails once its call was made
meets-leaves : (stage : Stage) (reader : Follower) (begun : Begun) (o o' : Objects) (turn : Turn) → MeetsAt stage reader begun o turn o' → LeavesPut stage o o'
meets-leaves ReadsLatest reader begun o o' turn m = m.3
meets-leaves (Puts next given replaces) reader begun o o' turn (inl m) = inr (m.0, m.2)
meets-leaves (Puts next given replaces) reader begun o o' turn (inr m) = inl m.2
meets-leaves AsksLast reader begun o o' turn m = m.1
meets-leaves (LooksAt id last) reader begun o o' turn m = m.3
meets-leaves (ReadsLog last) reader begun o o' turn m = m.6
meets-leaves ReadsAgain reader begun o o' turn m = m.3
meets-leaves Ended reader begun o o' turn m = absurd m

pub arrival-failed : (reader : Follower) (begun last : Begun) (answered : Answered) (e : SlateError) (o o' : Objects) → IsOfSegment e → (answered ≡ turns.Goes → ⊥) → Meets reader begun o (came answered last) o' →
    StepFails (poll_error e) reader begun o o'
arrival-failed reader begun last turns.Goes e o o' of ends m = absurd (ends refl)
arrival-failed reader begun last turns.Ends (errors.EmptySegmentPrefix key) o o' of ends m = inr (last, inl m)
arrival-failed reader begun last turns.Breaks (errors.EmptySegmentPrefix key) o o' of ends m = inr (last, inr m)
arrival-failed reader begun last turns.Ends errors.NoMemory o o' of ends m = meets-leaves begun.stage reader (taken begun) o o' (Ends last) m
arrival-failed reader begun last turns.Breaks errors.NoMemory o o' of ends m = meets-leaves begun.stage reader (taken begun) o o' (Breaks last) m
arrival-failed reader begun last answered e o o' of ends m = absurd of

-- ---- why a step answers InvalidDBState
-- its call leads to that
pub call-lacks : (x : Option Extractor) (reader : Follower) (begun : Begun) {t t' : Option Objects} → WhereModelled (λ o o'. FailsFrom begun.stage reader (taken begun) o errors.InvalidDBState o') t t' → IfSome t (λ o. StepLacks x reader begun o)
call-lacks x reader begun {t} fails = if_some t (λ o at. let h = fails.some o at in inl (h.0, h.2))

-- or a key of what the poll came to has no segment
pub arrival-lacks : (x : Option Extractor) (reader : Follower) (begun last : Begun) (answered : Answered) {t t' : Option Objects} → (answered ≡ turns.Goes → ⊥) → WhereModelled (λ o o'. MeetsAt begun.stage reader (taken begun) o (came answered last) o') t t' → ArrivalLacks x reader last → IfSome t (λ o. StepLacks x reader begun o)
arrival-lacks x reader begun last turns.Goes {t} ends meets lacks = absurd (ends refl)
arrival-lacks x reader begun last turns.Ends {t} ends meets lacks = if_some t (λ o at. let h = meets.some o at in inr (last, (h.0, inl h.2), lacks))
arrival-lacks x reader begun last turns.Breaks {t} ends meets lacks = if_some t (λ o at. let h = meets.some o at in inr (last, (h.0, inr h.2), lacks))
