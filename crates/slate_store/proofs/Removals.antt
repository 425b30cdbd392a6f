-- A map without the entry at a key is its entries at all other keys.
use Rattle.std.proofs.Common.{◌≡◌, List, [], ◌∷◌, Bool, true, false, None, refl, ap, sym, ◌∙◌}
use Rattle.std.specs.Map.{lookup, remove_entry}
use Rattle.slate_store.specs.Objects.{without}

none-passes-by : {K X : Type 0} (test : K → Bool) (b : Bool) (e : K × X) (es : List (K × X)) → test e.0 ≡ b → lookup test (e ∷ es) ≡ None → (lookup test es ≡ None → without test es ≡ es) → without test (e ∷ es) ≡ e ∷ es
none-passes-by test true e es is h rest = absurd (let n = rw is at h in cc)
none-passes-by test false e es is h rest = let n = rw is at h in rw is (ap (λ xs. e ∷ xs) (rest n))

-- where no key passes, all entries stay
none-passes : {K X : Type 0} (test : K → Bool) (es : List (K × X)) → lookup test es ≡ None → without test es ≡ es
none-passes test [] h = refl
none-passes test (e ∷ es) h = none-passes-by test (test e.0) e es refl h (none-passes test es)

removed-by : {K X : Type 0} (test : K → Bool) (b : Bool) (e : K × X) (es : List (K × X)) → test e.0 ≡ b → lookup test (remove_entry test (e ∷ es)) ≡ None → (lookup test (remove_entry test es) ≡ None → remove_entry test es ≡ without test es) → remove_entry test (e ∷ es) ≡ without test (e ∷ es)
removed-by test true e es is h rest = let n = rw is at h in rw is (sym (none-passes test es n))
removed-by test false e es is h rest =
    let n : lookup test (e ∷ remove_entry test es) ≡ None = rw is at h in
    let m : lookup test (remove_entry test es) ≡ None = rw is at n in
    rw is (ap (λ xs. e ∷ xs) (rest m))

none-after : {K X : Type 0} (test : K → Bool) (es : List (K × X)) → lookup test (remove_entry test es) ≡ None → remove_entry test es ≡ without test es
none-after test [] h = refl
none-after test (e ∷ es) h = removed-by test (test e.0) e es refl h (none-after test es)

-- where no key passes once the first that does is removed
pub removed-without : {K X : Type 0} (test : K → Bool) (es fs : List (K × X)) → fs ≡ remove_entry test es → lookup test fs ≡ None → fs ≡ without test es
removed-without test es fs removed none = removed ∙ none-after test es (ap (lookup test) (sym removed) ∙ none)
