-- The table allows each step of a seat, since each is one of the kinds of step; and what the step shows the seat.
use Rattle.std.proofs.Common.{◌≡◌, ℕ, ◌<◌, ◌≤◌, max, Bool, true, false, ◌==◌, if◌then◌else◌, List, [], ◌∷◌, ◌++◌, ◌∙◌, slice_index, slice_set, refl, sym, subst, arith}
use mathlib.Core.Option.{none, some}
use lib.ListN.{get_elem?}
use prog.Atomic.{either}
use Rattle.atomic_table.specs.Table.{Me, step, keeps, Allows, Splits, Joins}
use Rattle.atomic_table.proofs.Lists.{set_again, set_else}
use Rattle.slate_board.specs.declared.views.BoardView.{BoardView}
use Rattle.slate_board.specs.declared.rules.SeatView.{SeatView}
use Rattle.slate_board.specs.Views.{IsAtMost, first_code}
use Rattle.slate_board.specs.Words.{numbers_of, with_word}
use Rattle.slate_board.specs.Rule.{Standing, IsRuled, IsRuledState}
use Rattle.slate_board.specs.Steps.{view_with, follower_of, union_of, spent_view, Writes, IsStep, loads, ticks, advances, closes, splits, joins}
use Rattle.slate_board.specs.Shows.{ShowsWord, Looks, Raises, Exchanges}
use Rattle.slate_board.proofs.Numbers.{IsAtMost-with_word, with_word-forward, with_word-same, numbers_of-set, code_within}
use Rattle.slate_board.proofs.Stepping.{step_kept}

shown : (before : Standing) (place word id : ℕ) (v : SeatView) → place < 3 → IsRuled before → get_elem? before.views id ≡ some v
    → IsAtMost (numbers_of before.words) (with_word place word (numbers_of before.words)) → (with_word place word (numbers_of before.words)).close ≤ 3
    → ShowsWord place (slice_index before.words place) word v (view_with place word v)
shown before place word id v low kept at forward code =
    let now : BoardView = numbers_of before.words in
    let below : IsAtMost v.seen now = kept.none_ahead id v at in
    let after : IsAtMost (with_word place word v.seen) (with_word place word now) = IsAtMost-with_word place word v.seen now below in
    record {
      known = refl;
      forward = with_word-forward place word v.seen now below forward;
      lead_found = λ leads. subst (λ (x : BoardView). with_word place (slice_index before.words place) x ≡ x) (sym (kept.lead_knows id v at leads)) (with_word-same before.words place low);
      code = code_within (with_word place word v.seen).close (with_word place word now).close after.close code;
    }

-- a seat that writes one word takes one of the kinds of step
abbrev IsStepBy : ℕ → (ℕ → ℕ) → ℕ → SeatView → Type 0
IsStepBy place f id v = (before after : Standing) → Writes place (f (slice_index before.words place)) id v before after → IsStep before after

pub allowed : (slots id place : ℕ) (me : Me (Unit {0}) SeatView) (f : ℕ → ℕ) → place < 3 → IsStepBy place f id me.0
    → Allows IsRuledState slots id me place f (λ found after. ShowsWord place found (f found) me.0 after.0 × (after.1 ≡ me.1))
allowed slots id place me f low is_step state kept _ at _ =
    let before : Standing = record { words = state.words; views = state.views } in
    let word : ℕ = f (slice_index state.words place) in
    let after : Standing = record { words = slice_set state.words place word; views = slice_set state.views id (view_with place word me.0) } in
    let writes : Writes place word id me.0 before after = record { seat = at; words = refl; views = refl } in
    let kept' = step_kept before after kept (is_step before after writes) in
    let is : numbers_of after.words ≡ with_word place word (numbers_of before.words) = numbers_of-set before.words place word kept.three low in
    let forward : IsAtMost (numbers_of before.words) (with_word place word (numbers_of before.words)) = subst (λ (z : BoardView). IsAtMost (numbers_of before.words) z) is kept'.1 in
    let code : (with_word place word (numbers_of before.words)).close ≤ 3 = subst (λ (z : BoardView). z.close ≤ 3) is kept'.0.code in
    (view_with place word me.0, keeps, tt, kept'.0, (shown before place word id me.0 low kept at forward code, refl))

pub looks : (slots id place : ℕ) (me : Me (Unit {0}) SeatView) → place < 3 → Allows IsRuledState slots id me place (λ n. n) (Looks (step slots place 0 0 none) me)
looks slots id place me low = allowed slots id place me (λ n. n) low (λ before after writes. loads place id me.0 low writes)

pub raises_tick : (slots id word : ℕ) (me : Me (Unit {0}) SeatView) → me.0.lead ≡ true → Allows IsRuledState slots id me 0 (λ n. max n word) (Raises (step slots 0 word 0 none) me)
raises_tick slots id word me leads = allowed slots id 0 me (λ n. max n word) (omega arith) (λ before after writes. ticks word id me.0 leads writes)

pub raises_durable : (slots id word : ℕ) (me : Me (Unit {0}) SeatView) → me.0.lead ≡ true → Allows IsRuledState slots id me 1 (λ n. max n word) (Raises (step slots 1 word 0 none) me)
raises_durable slots id word me leads = allowed slots id 1 me (λ n. max n word) (omega arith) (λ before after writes. advances word id me.0 leads writes)

either_is : (b : Bool) (x y : ℕ) → either b x y ≡ (if b then x else y)
either_is true x y = refl
either_is false x y = refl

pub exchanges_close : (slots id old code : ℕ) (me : Me (Unit {0}) SeatView) → me.0.lead ≡ true → old ≡ 0 → 1 ≤ code → code ≤ 3
    → Allows IsRuledState slots id me 2 (λ n. either (n == old) code n) (Exchanges (step slots 2 old code none) me)
exchanges_close slots id old code me leads open_code above within =
    let f : ℕ → ℕ = λ n. first_code n code in
    let F : ℕ → (ℕ → ℕ) → Type 0 = λ k g. Allows IsRuledState slots id me 2 g (Exchanges (step slots 2 k code none) me) in
    let at_open : F 0 (λ n. either (n == 0) code n) = subst (F 0) (λ i n. sym (either_is (n == 0) code n) i) (allowed slots id 2 me f (omega arith) (λ before after writes. closes code id me.0 leads above within writes)) in
    subst (λ (k : ℕ). F k (λ n. either (n == k) code n)) (sym open_code) at_open

pub splits_seat : (id : ℕ) (v : SeatView) → Splits IsRuledState id v v (follower_of v)
splits_seat id v state kept at =
    let before : Standing = record { words = state.words; views = state.views } in
    let same : slice_set state.views id v ≡ state.views = set_again state.views id v at in
    subst (λ (views : List SeatView). IsRuled record { words = state.words; views = views ++ follower_of v ∷ [] }) (sym same)
    (step_kept before record { words = state.words; views = state.views ++ follower_of v ∷ [] } kept (splits id v at refl)).0

pub joins_seat : (id other : ℕ) (v w : SeatView) → w.lead ≡ false → Joins IsRuledState id v other w (union_of v w) spent_view
joins_seat id other v w follows state kept at apart there =
    let before : Standing = record { words = state.words; views = state.views } in
    let after : Standing = record { words = state.words; views = slice_set (slice_set state.views id (union_of v w)) other spent_view } in
    (step_kept before after kept (joins id other v w apart at (sym (set_else state.views id other (union_of v w) apart) ∙ there) follows refl)).0
