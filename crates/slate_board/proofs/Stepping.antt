-- Each kind of step keeps the rule, and no word goes back.
use Rattle.std.proofs.Common.{◌≡◌, ◌≢◌, ℕ, zero, suc, ◌<◌, ◌≤◌, ◌⊎◌, max, Bool, true, false, if◌then◌else◌, List, [], ◌∷◌, ◌++◌, slice_index, slice_set, refl, sym, ap, ◌∙◌, subst, eq-eqb, ne_eqb, inl, inr, ⊎_elim, arith, length-set}
use mathlib.Core.Logic.{dite}
use native.Mathlib.Decide.{ℕ_discrete}
use mathlib.Core.Option.{some, some-injective, some-ne-none}
use lib.ListN.{get_elem?}
use lib.Signed.{≤ℤ_refl}
use Rattle.atomic_table.proofs.Lists.{at_set, at_snoc}
use Rattle.slate_board.specs.declared.views.BoardView.{BoardView}
use Rattle.slate_board.specs.declared.rules.SeatView.{SeatView}
use Rattle.slate_board.specs.Views.{IsAtMost, greater_of, first_code}
use Rattle.slate_board.specs.Words.{numbers_of, with_word, tick_of}
use Rattle.slate_board.specs.Rule.{Standing, IsRuled}
use Rattle.slate_board.specs.Steps.{view_with, follower_of, union_of, spent_view, Writes, IsStep, loads, ticks, advances, closes, splits, joins, IsRun}
use Rattle.slate_board.proofs.Numbers.{IsAtMost-refl, IsAtMost-trans, IsAtMost-with_word, numbers_of-set, with_word-same, greater_of-below, greater_of-absorbed, least_tick, tick_of-mono}

-- what a step owes beside the rule before it
pub record Rises (place word : ℕ) (v : SeatView) (before : Standing) : Type 0 where
  pub in_place : place < 3
  pub forward : IsAtMost (numbers_of before.words) (with_word place word (numbers_of before.words))
  pub code : (with_word place word (numbers_of before.words)).close ≤ 3
  pub by_lead : (v.lead ≡ true) ⊎ (with_word place word (numbers_of before.words) ≡ numbers_of before.words)

-- who is the lead after a change of one view that leaves that as it was
lead_was : (views : List SeatView) (id : ℕ) (v w : SeatView) → get_elem? views id ≡ some v → v.lead ≡ w.lead
    → (i : ℕ) (u : SeatView) → get_elem? (slice_set views id w) i ≡ some u → (t : SeatView) × (get_elem? views i ≡ some t) × (t.lead ≡ u.lead)
lead_was views id v w at same i u there =
    ⊎_elim (λ (h : (i ≡ id) × (w ≡ u)). (v, subst (λ (k : ℕ). get_elem? views k ≡ some v) (sym h.0) at, same ∙ ap (λ (t : SeatView). t.lead) h.1))
    (λ (h : (i ≢ id) × (get_elem? views i ≡ some u)). (u, h.1, refl)) (at_set views id i w u there)

pub written : (before : Standing) (place word id : ℕ) (v : SeatView) → IsRuled before → get_elem? before.views id ≡ some v → Rises place word v before
    → IsRuled record { words = slice_set before.words place word; views = slice_set before.views id (view_with place word v) }
written before place word id v kept at rises =
    let next : BoardView = with_word place word (numbers_of before.words) in
    let is : numbers_of (slice_set before.words place word) ≡ next = numbers_of-set before.words place word kept.three rises.in_place in
    let after : SeatView = view_with place word v in
    record {
      three = length-set before.words place word ∙ kept.three;
      code = subst (λ (z : BoardView). z.close ≤ 3) (sym is) rises.code;
      one_lead = λ i j u t at_i at_j u_leads t_leads.
          let p = lead_was before.views id v after at refl i u at_i in
          let q = lead_was before.views id v after at refl j t at_j in
          kept.one_lead i j p.0 q.0 p.1 q.1 (p.2 ∙ u_leads) (q.2 ∙ t_leads);
      lead_knows = λ i u there leads. ⊎_elim
          (λ (h : (i ≡ id) × (after ≡ u)).
          let v_leads : v.lead ≡ true = ap (λ (t : SeatView). t.lead) h.1 ∙ leads in
          ap (λ (t : SeatView). t.seen) (sym h.1) ∙ (ap (with_word place word) (kept.lead_knows id v at v_leads) ∙ sym is))
          (λ (h : (i ≢ id) × (get_elem? before.views i ≡ some u)). ⊎_elim
          (λ (v_leads : v.lead ≡ true). absurd (h.0 (kept.one_lead i id u v h.1 at leads v_leads)))
          (λ (same : next ≡ numbers_of before.words). kept.lead_knows i u h.1 leads ∙ (sym same ∙ sym is)) rises.by_lead)
          (at_set before.views id i after u there);
      none_ahead = λ i u there. subst (λ (z : BoardView). IsAtMost u.seen z) (sym is) (⊎_elim
          (λ (h : (i ≡ id) × (after ≡ u)). subst (λ (t : SeatView). IsAtMost t.seen next) h.1 (IsAtMost-with_word place word v.seen (numbers_of before.words) (kept.none_ahead id v at)))
          (λ (h : (i ≢ id) × (get_elem? before.views i ≡ some u)). IsAtMost-trans u.seen (numbers_of before.words) next (kept.none_ahead i u h.1) rises.forward)
          (at_set before.views id i after u there));
    }

pub split_off : (board : Standing) (id : ℕ) (v : SeatView) → IsRuled board → get_elem? board.views id ≡ some v
    → IsRuled record { words = board.words; views = board.views ++ follower_of v ∷ [] }
split_off board id v kept at = record {
  three = kept.three;
  code = kept.code;
  one_lead = λ i j u t at_i at_j u_leads t_leads. kept.one_lead i j u t (is_old i u at_i u_leads) (is_old j t at_j t_leads) u_leads t_leads;
  lead_knows = λ i u there leads. kept.lead_knows i u (is_old i u there leads) leads;
  none_ahead = λ i u there. ⊎_elim (λ (old : get_elem? board.views i ≡ some u). kept.none_ahead i u old)
      (λ (new : follower_of v ≡ u). subst (λ (t : SeatView). IsAtMost t.seen (numbers_of board.words)) new (kept.none_ahead id v at))
      (at_snoc board.views (follower_of v) u i there);
}
  where
    is_old : (i : ℕ) (u : SeatView) → get_elem? (board.views ++ follower_of v ∷ []) i ≡ some u → u.lead ≡ true → get_elem? board.views i ≡ some u
    is_old i u there leads = ⊎_elim (λ (old : get_elem? board.views i ≡ some u). old)
        (λ (new : follower_of v ≡ u). let no : false ≡ true = ap (λ (t : SeatView). t.lead) new ∙ leads in cc) (at_snoc board.views (follower_of v) u i there)

-- the first of two seats takes in what the second knows
taken_in : (board : Standing) (id : ℕ) (v w : SeatView) → IsRuled board → get_elem? board.views id ≡ some v → IsAtMost w.seen (numbers_of board.words)
    → IsRuled record { words = board.words; views = slice_set board.views id (union_of v w) }
taken_in board id v w kept at below = let both : SeatView = union_of v w in record {
  three = kept.three;
  code = kept.code;
  one_lead = λ i j u t at_i at_j u_leads t_leads.
      let p = lead_was board.views id v both at refl i u at_i in
      let q = lead_was board.views id v both at refl j t at_j in
      kept.one_lead i j p.0 q.0 p.1 q.1 (p.2 ∙ u_leads) (q.2 ∙ t_leads);
  lead_knows = λ i u there leads. ⊎_elim
      (λ (h : (i ≡ id) × (both ≡ u)).
      let v_leads : v.lead ≡ true = ap (λ (t : SeatView). t.lead) h.1 ∙ leads in
      let knows : v.seen ≡ numbers_of board.words = kept.lead_knows id v at v_leads in
      ap (λ (t : SeatView). t.seen) (sym h.1) ∙ (ap (λ (x : BoardView). greater_of x w.seen) knows ∙ greater_of-absorbed (numbers_of board.words) w.seen below))
      (λ (h : (i ≢ id) × (get_elem? board.views i ≡ some u)). kept.lead_knows i u h.1 leads)
      (at_set board.views id i both u there);
  none_ahead = λ i u there. ⊎_elim
      (λ (h : (i ≡ id) × (both ≡ u)). subst (λ (t : SeatView). IsAtMost t.seen (numbers_of board.words)) h.1 (greater_of-below v.seen w.seen (numbers_of board.words) (kept.none_ahead id v at) below))
      (λ (h : (i ≢ id) × (get_elem? board.views i ≡ some u)). kept.none_ahead i u h.1)
      (at_set board.views id i both u there);
}

-- a seat is spent
used_up : (board : Standing) (other : ℕ) → IsRuled board → IsRuled record { words = board.words; views = slice_set board.views other spent_view }
used_up board other kept = record {
  three = kept.three;
  code = kept.code;
  one_lead = λ i j u t at_i at_j u_leads t_leads. kept.one_lead i j u t (is_old i u at_i u_leads) (is_old j t at_j t_leads) u_leads t_leads;
  lead_knows = λ i u there leads. kept.lead_knows i u (is_old i u there leads) leads;
  none_ahead = λ i u there. ⊎_elim
      (λ (h : (i ≡ other) × (spent_view ≡ u)). subst (λ (t : SeatView). IsAtMost t.seen (numbers_of board.words)) h.1 (record { tick = least_tick (slice_index board.words 0); durable = omega arith; close = inl refl }))
      (λ (h : (i ≢ other) × (get_elem? board.views i ≡ some u)). kept.none_ahead i u h.1)
      (at_set board.views other i spent_view u there);
}
  where
    is_old : (i : ℕ) (u : SeatView) → get_elem? (slice_set board.views other spent_view) i ≡ some u → u.lead ≡ true → get_elem? board.views i ≡ some u
    is_old i u there leads = ⊎_elim (λ (h : (i ≡ other) × (spent_view ≡ u)). let no : false ≡ true = ap (λ (t : SeatView). t.lead) h.1 ∙ leads in cc)
        (λ (h : (i ≢ other) × (get_elem? board.views i ≡ some u)). h.1) (at_set board.views other i spent_view u there)

pub put_together : (board : Standing) (id other : ℕ) (v w : SeatView) → IsRuled board → get_elem? board.views id ≡ some v → get_elem? board.views other ≡ some w
    → IsRuled record { words = board.words; views = slice_set (slice_set board.views id (union_of v w)) other spent_view }
put_together board id other v w kept at there =
    used_up record { words = board.words; views = slice_set board.views id (union_of v w) } other (taken_in board id v w kept at (kept.none_ahead other w there))

-- ---- what each kind of step on a word owes

pub load_rises : (place : ℕ) (v : SeatView) (before : Standing) → IsRuled before → place < 3 → Rises place (slice_index before.words place) v before
load_rises place v before kept low =
    let same = with_word-same before.words place low in
    record {
      in_place = low;
      forward = subst (λ (z : BoardView). IsAtMost (numbers_of before.words) z) (sym same) (IsAtMost-refl (numbers_of before.words));
      code = subst (λ (z : BoardView). z.close ≤ 3) (sym same) kept.code;
      by_lead = inr same;
    }

pub tick_rises : (tick : ℕ) (v : SeatView) (before : Standing) → IsRuled before → v.lead ≡ true → Rises 0 (max (slice_index before.words 0) tick) v before
tick_rises tick v before kept leads =
    let word : ℕ = slice_index before.words 0 in
    record {
      in_place = omega arith;
      forward = record { tick = tick_of-mono word (max word tick) (omega arith); durable = omega arith; close = inr refl };
      code = kept.code;
      by_lead = inl leads;
    }

pub advance_rises : (number : ℕ) (v : SeatView) (before : Standing) → IsRuled before → v.lead ≡ true → Rises 1 (max (slice_index before.words 1) number) v before
advance_rises number v before kept leads = record {
  in_place = omega arith;
  forward = record { tick = ≤ℤ_refl (tick_of (slice_index before.words 0)); durable = omega arith; close = inr refl };
  code = kept.code;
  by_lead = inl leads;
}

-- the first close code stays
first_code-cases : (old code : ℕ) (P : ℕ → Type 0) → (old ≡ 0 → P code) → (old ≢ 0 → P old) → P (first_code old code)
first_code-cases old code P first later = dite (ℕ_discrete old 0)
    (λ (e : old ≡ 0). subst (λ (b : Bool). P (if b then code else old)) (sym (eq-eqb old 0 e)) (first e))
    (λ (ne : old ≢ 0). subst (λ (b : Bool). P (if b then code else old)) (sym (ne_eqb old 0 ne)) (later ne))

pub close_rises : (code : ℕ) (v : SeatView) (before : Standing) → IsRuled before → v.lead ≡ true → code ≤ 3
    → Rises 2 (first_code (slice_index before.words 2) code) v before
close_rises code v before kept leads within =
    let word : ℕ = slice_index before.words 2 in
    record {
      in_place = omega arith;
      forward = record { tick = ≤ℤ_refl (tick_of (slice_index before.words 0)); durable = omega arith; close = first_code-cases word code (λ (n : ℕ). (word ≡ 0) ⊎ (word ≡ n)) (λ e. inl e) (λ _. inr refl) };
      code = first_code-cases word code (λ (n : ℕ). n ≤ 3) (λ _. within) (λ _. kept.code);
      by_lead = inl leads;
    }

-- ---- any step, and any steps

abbrev IsKept : Standing → Standing → Type 0
IsKept before after = IsRuled after × IsAtMost (numbers_of before.words) (numbers_of after.words)

pub written_kept : (before after : Standing) (place word id : ℕ) (v : SeatView) → IsRuled before → Rises place word v before → Writes place word id v before after → IsKept before after
written_kept before after place word id v kept rises writes =
    let made : Standing = record { words = slice_set before.words place word; views = slice_set before.views id (view_with place word v) } in
    let is : made ≡ after = λ i. record { words = sym writes.words i; views = sym writes.views i } in
    let forward : IsAtMost (numbers_of before.words) (numbers_of made.words) =
    subst (λ (z : BoardView). IsAtMost (numbers_of before.words) z) (sym (numbers_of-set before.words place word kept.three rises.in_place)) rises.forward in
    subst (λ (z : Standing). IsKept before z) is (written before place word id v kept writes.seat rises, forward)

pub step_kept : (before after : Standing) → IsRuled before → IsStep before after → IsKept before after
step_kept before after kept (loads place id v low writes) = written_kept before after place (slice_index before.words place) id v kept (load_rises place v before kept low) writes
step_kept before after kept (ticks tick id v leads writes) = written_kept before after 0 (max (slice_index before.words 0) tick) id v kept (tick_rises tick v before kept leads) writes
step_kept before after kept (advances number id v leads writes) =
    written_kept before after 1 (max (slice_index before.words 1) number) id v kept (advance_rises number v before kept leads) writes
step_kept before after kept (closes code id v leads above within writes) =
    written_kept before after 2 (first_code (slice_index before.words 2) code) id v kept (close_rises code v before kept leads within) writes
step_kept before after kept (splits id v at is) = subst (λ (z : Standing). IsKept before z) (sym is) (split_off before id v kept at, IsAtMost-refl (numbers_of before.words))
step_kept before after kept (joins id other v w apart at there follows is) =
    subst (λ (z : Standing). IsKept before z) (sym is) (put_together before id other v w kept at there, IsAtMost-refl (numbers_of before.words))

pub run_kept : (before : Standing) (later : List Standing) → IsRuled before → IsRun before later → (k : ℕ) (after : Standing) → get_elem? later k ≡ some after → IsKept before after
run_kept before [] kept run k after there = absurd (some-ne-none after (sym there))
run_kept before (next ∷ later) kept run zero after there = subst (λ (z : Standing). IsKept before z) (some-injective next after there) (step_kept before next kept run.0)
run_kept before (next ∷ later) kept run (suc k) after there =
    let one = step_kept before next kept run.0 in
    let rest = run_kept next later one.0 run.1 k after there in
    (rest.0, IsAtMost-trans (numbers_of before.words) (numbers_of next.words) (numbers_of after.words) one.1 rest.1)
