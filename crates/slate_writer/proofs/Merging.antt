-- The times of expiry of a batch's merges are noted one after another.
use Rattle.std.proofs.Common.{◌≡◌, refl, sym, ◌∙◌, ap, ◌<◌, ◌+◌, ℕ, ℤ, List, [], ◌∷◌, ◌++◌, length, take, drop, get_or, Option, Some, None}
use Rattle.std.specs.Prelude.{if◌then◌else◌}
use Rattle.std.specs.Option.{option_or}
use Rattle.std.specs.Str.{bytes_eq}
use Rattle.std.proofs.lemmas.List.{drop_more, take_more}
use Rattle.slate_types.specs.declared.batches.KeyOp.{KeyOp}
use Rattle.slate_errors.specs.declared.errors.SlateError.{SlateError}
use Rattle.slate_model.specs.Write.{expiry_refusal, first_expiry, merge_expiry, merge_refusal}

or-none : {A : Type 0} (x : Option A) → option_or x None ≡ x
or-none None = refl
or-none (Some x) = refl

or-assoc : {A : Type 0} (x y z : Option A) → option_or (option_or x y) z ≡ option_or x (option_or y z)
or-assoc None y z = refl
or-assoc (Some x) y z = refl

expiry-push : (key : List ℕ) (before : List KeyOp) (op : KeyOp) → first_expiry key (before ++ op ∷ []) ≡ option_or (first_expiry key before) (if bytes_eq op.key key then merge_expiry op.op else None)
expiry-push key [] op = or-none (if bytes_eq op.key key then merge_expiry op.op else None)
expiry-push key (b ∷ before) op =
    ap (option_or (if bytes_eq b.key key then merge_expiry b.op else None)) (expiry-push key before op)
    ∙ sym (or-assoc (if bytes_eq b.key key then merge_expiry b.op else None) (first_expiry key before) (if bytes_eq op.key key then merge_expiry op.op else None))

-- what is noted after one operation more
pub noted-next : (f g : List ℕ → Option (Option ℤ)) (ops : List KeyOp) (i : ℕ) (op : KeyOp) → i < length ops → op ≡ get_or ops i op → ((key : List ℕ) → f key ≡ first_expiry key (take i ops)) → ((key : List ℕ) → g key ≡ option_or (f key) (if bytes_eq op.key key then merge_expiry op.op else None)) → (key : List ℕ) → g key ≡ first_expiry key (take (i + 1) ops)
noted-next f g ops i op inside item before noted key =
    let more : take (i + 1) ops ≡ take i ops ++ op ∷ [] = take_more ops i op inside ∙ ap (λ o. take i ops ++ o ∷ []) (sym item) in
    noted key ∙ ap (λ x. option_or x (if bytes_eq op.key key then merge_expiry op.op else None)) (before key) ∙ sym (expiry-push key (take i ops) op) ∙ ap (first_expiry key) (sym more)

refusal-at : (f : List ℕ → Option (Option ℤ)) (ops : List KeyOp) (i : ℕ) (op : KeyOp) (r : Option SlateError) → i < length ops → op ≡ get_or ops i op → ((key : List ℕ) → f key ≡ first_expiry key (take i ops)) → r ≡ expiry_refusal op.key (f op.key) (merge_expiry op.op) →
    merge_refusal [] ops ≡ merge_refusal (take i ops) (drop i ops) → merge_refusal [] ops ≡ option_or r (merge_refusal (take (i + 1) ops) (drop (i + 1) ops))
refusal-at f ops i op r inside item before is so_far =
    let more : take (i + 1) ops ≡ take i ops ++ op ∷ [] = take_more ops i op inside ∙ ap (λ o. take i ops ++ o ∷ []) (sym item) in
    let rest : drop i ops ≡ op ∷ drop (i + 1) ops = drop_more ops i op inside ∙ ap (λ o. o ∷ drop (i + 1) ops) (sym item) in
    let here : r ≡ expiry_refusal op.key (first_expiry op.key (take i ops)) (merge_expiry op.op) = is ∙ ap (λ x. expiry_refusal op.key x (merge_expiry op.op)) (before op.key) in
    so_far ∙ ap (merge_refusal (take i ops)) rest
    ∙ ap (λ x. option_or x (merge_refusal (take i ops ++ op ∷ []) (drop (i + 1) ops))) (sym here)
    ∙ ap (λ b. option_or r (merge_refusal b (drop (i + 1) ops))) (sym more)

-- an operation that isn't refused goes by
pub refusal-next : (f : List ℕ → Option (Option ℤ)) (ops : List KeyOp) (i : ℕ) (op : KeyOp) (r : Option SlateError) → i < length ops → op ≡ get_or ops i op → ((key : List ℕ) → f key ≡ first_expiry key (take i ops)) → r ≡ expiry_refusal op.key (f op.key) (merge_expiry op.op) →
    merge_refusal [] ops ≡ merge_refusal (take i ops) (drop i ops) → r ≡ None → merge_refusal [] ops ≡ merge_refusal (take (i + 1) ops) (drop (i + 1) ops)
refusal-next f ops i op r inside item before is so_far none =
    refusal-at f ops i op r inside item before is so_far ∙ ap (λ x. option_or x (merge_refusal (take (i + 1) ops) (drop (i + 1) ops))) none
