-- Keys without a segment in batches, one part after another.
use Rattle.std.proofs.Common.{◌≡◌, ℕ, ◌+◌, ◌<◌, List, [], ◌∷◌, ◌++◌, length, take, drop, get_or, Option, Some, None, Result, Ok, Err, inl, inr, refl, sym, ap, subst, ◌∙◌}
use Rattle.std.specs.Option.{option_or}
use Rattle.std.specs.Prelude.{◌⊎◌}
use Rattle.std.specs.Result.{IfErr}
use Rattle.slate_types.specs.declared.batches.Batch.{Batch}
use Rattle.slate_types.specs.declared.batches.KeyOp.{KeyOp}
use Rattle.slate_errors.specs.declared.errors.SlateError.{SlateError}
use Rattle.slate_errors.specs.declared.errors.SlateError.TheVariants.{EmptySegmentPrefix, NoMemory}
use Rattle.slate_model.specs.Segments.{Extractor, empty_refusal, ops_of, unsegmented_refusal}
use Rattle.slate_segments.proofs.Taking.{ops-append, unsegmented-append}
use Rattle.slate_follow.specs.Joined.{joined}
use Rattle.slate_follow.specs.Rebuilding.{Lacks}
use Rattle.slate_follow.proofs.Joining.{joined-next, joined-split}

module _ (x : Extractor) where
  refusal-append : (a b : List Batch) → unsegmented_refusal (Some x) (ops_of (a ++ b)) ≡ option_or (unsegmented_refusal (Some x) (ops_of a)) (unsegmented_refusal (Some x) (ops_of b))
  refusal-append a b = ap (unsegmented_refusal (Some x)) (ops-append a b) ∙ unsegmented-append x (ops_of a) (ops_of b)

  pub some-later : (a b : List Batch) (e : SlateError) → unsegmented_refusal (Some x) (ops_of a) ≡ None → unsegmented_refusal (Some x) (ops_of b) ≡ Some e → unsegmented_refusal (Some x) (ops_of (a ++ b)) ≡ Some e
  some-later a b e here there = refusal-append a b ∙ (ap (λ r. option_or r (unsegmented_refusal (Some x) (ops_of b))) here ∙ there)

  pub some-first : (a b : List Batch) (e : SlateError) → unsegmented_refusal (Some x) (ops_of a) ≡ Some e → unsegmented_refusal (Some x) (ops_of (a ++ b)) ≡ Some e
  some-first a b e here = refusal-append a b ∙ ap (λ r. option_or r (unsegmented_refusal (Some x) (ops_of b))) here

-- ---- which key is named
refusal-key : (x : Extractor) (ops : List KeyOp) (e : SlateError) → unsegmented_refusal (Some x) ops ≡ Some e → (key : List ℕ) × (e ≡ EmptySegmentPrefix key)
refusal-key x [] e refused = absurd (cc)
refusal-key x (o ∷ ops) e refused = by (refusal-key x ops e) (x.prefix_of o.key) refused where
  by : (unsegmented_refusal (Some x) ops ≡ Some e → (key : List ℕ) × (e ≡ EmptySegmentPrefix key)) → (a : Option (List ℕ)) → option_or (empty_refusal o.key a) (unsegmented_refusal (Some x) ops) ≡ Some e → (key : List ℕ) × (e ≡ EmptySegmentPrefix key)
  by later None named = (o.key, cc)
  by later (Some []) named = (o.key, cc)
  by later (Some (b ∷ bs)) named = later named

-- where a key of the later of two lists has no segment, one of both has none
lacks-either : (x : Extractor) (a b : List Batch) (e : SlateError) → unsegmented_refusal (Some x) (ops_of b) ≡ Some e → (r : Option SlateError) → unsegmented_refusal (Some x) (ops_of a) ≡ r → (key : List ℕ) × Lacks (Some x) (a ++ b) key
lacks-either x a b e there None here =
    let all = some-later x a b e here there in
    let named = refusal-key x (ops_of (a ++ b)) e all in
    (named.0, all ∙ ap Some named.1)
lacks-either x a b e there (Some f) here =
    let all = some-first x a b f here in
    let named = refusal-key x (ops_of (a ++ b)) f all in
    (named.0, all ∙ ap Some named.1)

pub lacks-later : (x : Option Extractor) (a b : List Batch) (e : SlateError) → unsegmented_refusal x (ops_of b) ≡ Some e → (key : List ℕ) × Lacks x (a ++ b) key
lacks-later None a b e there = absurd (cc)
lacks-later (Some x) a b e there = lacks-either x a b e there (unsegmented_refusal (Some x) (ops_of a)) refl

-- the first key that has none is that of more batches, too; no batches lack one
pub first-refused : (x : Option Extractor) (a b : List Batch) (e : SlateError) → unsegmented_refusal x (ops_of a) ≡ Some e → unsegmented_refusal x (ops_of (a ++ b)) ≡ Some e
first-refused None a b e here = absurd (cc)
first-refused (Some x) a b e here = some-first x a b e here

pub none-lacks : (x : Option Extractor) (key : List ℕ) → Lacks x [] key → ⊥
none-lacks None key lacks = cc
none-lacks (Some x) key lacks = cc

-- so has more, where the former of two has one
pub lacks-first : (x : Option Extractor) (a b : List Batch) (key : List ℕ) → Lacks x a key → Lacks x (a ++ b) key
lacks-first x a b key lacks = first-refused x a b (EmptySegmentPrefix key) lacks

-- and tables, one of which has one
pub lacks-in : (x : Option Extractor) (tables : List (List Batch)) (i : ℕ) (table : List Batch) → i < length tables → table ≡ get_or tables i table → (key : List ℕ) → Lacks x table key → (first : List ℕ) × Lacks x (joined tables) first
lacks-in x tables i table inside item key lacks =
    let later = lacks-later x (joined (take i tables)) table (EmptySegmentPrefix key) lacks in
    let next = subst (λ bs. Lacks x bs later.0) (sym (joined-next tables i table inside item)) later.1 in
    (later.0, subst (λ bs. Lacks x bs later.0) (joined-split tables (i + 1)) (lacks-first x (joined (take (i + 1) tables)) (joined (drop (i + 1) tables)) later.0 next))

-- or why taking segments failed
pub fails-later : {A : Type 0} (x : Option Extractor) (a b : List Batch) (r : Result A SlateError) → IfErr r (λ e. (e ≡ NoMemory) ⊎ ((key : List ℕ) × Lacks x b key)) → IfErr r (λ e. (e ≡ NoMemory) ⊎ ((key : List ℕ) × Lacks x (a ++ b) key))
fails-later x a b (Ok taken) why = tt
fails-later x a b (Err e) (inl memory) = inl memory
fails-later x a b (Err e) (inr (key, lacks)) = inr (lacks-later x a b (EmptySegmentPrefix key) lacks)
