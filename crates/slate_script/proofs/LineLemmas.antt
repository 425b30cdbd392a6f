-- Cutting a line at spaces, and a script at newlines.
use Rattle.std.proofs.Common.{◌≡◌, ℕ, suc, ◌+◌, ◌<◌, ◌≤◌, Bool, true, false, cond, ltb, List, [], ◌∷◌, ◌++◌, length, take, drop, map, Some, None, unwrap_or, refl, sym, ap, ◌∙◌, arith, append_assoc, inl, inr}
use Rattle.std.specs.List.{onto_first, position, position_or_len, slice_split}
use Rattle.std.specs.Str.Lines.{strip_carriage_return}
use Rattle.std.proofs.lemmas.Bool.{cases_Bool, cases_lt, ltb-true, ltb-false, lt-ltb, le-ltb}
use Rattle.std.proofs.lemmas.List.{drop-drop, drop_all, length-drop, nil_from_length}
use Rattle.std.proofs.lemmas.List.Splits.{slice_split_first}
use Rattle.std.proofs.lemmas.Option.{cond_some}
use Rattle.slate_script.specs.Lines.{is_newline, is_space, parts_of, lines_of, fields_of}

-- where the first place that passes is
place_found : {A : Type 0} (p : A → Bool) (xs : List A) (i : ℕ) → position p xs ≡ Some i → (position_or_len p xs < length xs) × (position_or_len p xs ≡ i)
place_found p xs i h = let parts = cond_some (ltb (position_or_len p xs) (length xs)) (position_or_len p xs) i h in (ltb-true _ _ parts.0, parts.1)

not_found : (b : Bool) (x : ℕ) → cond b (Some x) None ≡ None → b ≡ false
not_found true x h = absurd cc
not_found false x h = refl

place_missing : {A : Type 0} (p : A → Bool) (xs : List A) → position p xs ≡ None → length xs ≤ position_or_len p xs
place_missing p xs h = ltb-false _ _ (not_found _ (position_or_len p xs) h)

-- ---- parts, fields

-- the first part ends at the first place that passes
pub parts_at : {A : Type 0} (p : A → Bool) (xs : List A) (i : ℕ) (d : A) → position p xs ≡ Some i → slice_split p xs ≡ take i xs ∷ slice_split p (drop (i + 1) xs)
parts_at p xs i d h =
    let found = place_found p xs i h in
    slice_split_first p xs d found.0 ∙ ap (λ (k : ℕ). take k xs ∷ slice_split p (drop (k + 1) xs)) found.1

whole_part : {A : Type 0} (p : A → Bool) (xs : List A) → length xs ≤ position_or_len p xs → slice_split p xs ≡ xs ∷ []
whole_part p [] h = refl
whole_part p (x ∷ xs) h = elim (cases_Bool (p x)) [ inl passes ↦ absurd (at_place passes) | inr other ↦ behind other (whole_part p xs) ]
  where
    at_place : p x ≡ true → ⊥
    at_place passes = let none : position_or_len p (x ∷ xs) ≡ 0 = rw passes refl in omega (arith, none)

    behind : p x ≡ false → (length xs ≤ position_or_len p xs → slice_split p xs ≡ xs ∷ []) → slice_split p (x ∷ xs) ≡ (x ∷ xs) ∷ []
    behind other shorter =
        let more : position_or_len p (x ∷ xs) ≡ 1 + position_or_len p xs = rw other refl in
        rw (other, shorter (omega (arith, more))) refl

-- where no place passes there is one part
pub one_part : {A : Type 0} (p : A → Bool) (xs : List A) → position p xs ≡ None → slice_split p xs ≡ xs ∷ []
one_part p xs h = whole_part p xs (place_missing p xs h)

-- one more field is cut off
pub field_cut : (front out : List (List ℕ)) (xs rest field : List ℕ) (total : List (List ℕ)) (space : ℕ) → position is_space xs ≡ Some space → field ≡ take space xs → rest ≡ drop (space + 1) xs → out ≡ front ++ field ∷ [] → front ++ fields_of xs ≡ total → out ++ fields_of rest ≡ total
field_cut front out xs rest field total space h field-is rest-is out-is so_far =
    rw (out-is, field-is, rest-is) (append_assoc front (take space xs ∷ []) (fields_of (drop (space + 1) xs)) ∙ ap (λ (fs : List (List ℕ)). front ++ fs) (sym (parts_at is_space xs space 0 h)) ∙ so_far)

-- the last field has no space
pub last_field : (front out : List (List ℕ)) (xs : List ℕ) (total : List (List ℕ)) → position is_space xs ≡ None → out ≡ front ++ xs ∷ [] → front ++ fields_of xs ≡ total → out ≡ total
last_field front out xs total h out-is so_far = out-is ∙ ap (λ (fs : List (List ℕ)). front ++ fs) (sym (one_part is_space xs h)) ∙ so_far

-- what stands behind a place and one byte
pub behind_place : {A : Type 0} (place : ℕ) (xs middle rest : List A) → middle ≡ drop place xs → rest ≡ drop 1 middle → rest ≡ drop (place + 1) xs
behind_place place xs middle rest middle-is rest-is = rest-is ∙ ap (drop 1) middle-is ∙ drop-drop 1 place xs

-- the same where nothing stands behind the place
pub nothing_behind : (place : ℕ) (xs middle : List ℕ) → middle ≡ drop place xs → length middle ≡ 0 → middle ≡ drop (place + 1) xs
nothing_behind place xs middle middle-is none =
    let short : length xs ≤ place + 1 = omega (arith, ap length middle-is, length-drop place xs) in
    nil_from_length middle none ∙ sym (drop_all (place + 1) xs short)

-- ---- lines

cut_at : ℕ → List ℕ → List (List ℕ)
cut_at n bs = take n bs ∷ parts_of (drop (n + 1) bs)

cut_behind : (b n m : ℕ) (bs : List ℕ) → n ≡ suc m → cut_at n (b ∷ bs) ≡ onto_first b (cut_at m bs)
unfolding cut_at
cut_behind b n m bs h = let two : n + 1 ≡ suc (m + 1) = omega arith in rw (two, h) refl

parts_cut : (bs : List ℕ) → 0 < length bs → parts_of bs ≡ cut_at (position_or_len is_newline bs) bs
unfolding cut_at
parts_cut [] some = absurd (omega arith)
parts_cut (b ∷ bs) some = elim (cases_Bool (is_newline b)) [ inl newline ↦ rw newline refl | inr other ↦ behind bs other (parts_cut bs) ]
  where
    behind : (bs : List ℕ) → is_newline b ≡ false → (0 < length bs → parts_of bs ≡ cut_at (position_or_len is_newline bs) bs) → parts_of (b ∷ bs) ≡ cut_at (position_or_len is_newline (b ∷ bs)) (b ∷ bs)
    behind [] other shorter = rw other refl
    behind (c ∷ cs) other shorter =
        let more : position_or_len is_newline (b ∷ c ∷ cs) ≡ suc (position_or_len is_newline (c ∷ cs)) = rw other (omega arith) in
        let first : parts_of (b ∷ c ∷ cs) ≡ onto_first b (parts_of (c ∷ cs)) = rw other refl in
        first ∙ ap (onto_first b) (shorter (omega arith)) ∙ sym (cut_behind b (position_or_len is_newline (b ∷ c ∷ cs)) (position_or_len is_newline (c ∷ cs)) (c ∷ cs) more)

-- the first line of a script and the rest
pub line_cut : (bs line rest : List ℕ) (end : ℕ) → 0 < length bs → end ≡ position_or_len is_newline bs → line ≡ strip_carriage_return (take end bs) → rest ≡ drop (end + 1) bs → lines_of bs ≡ line ∷ lines_of rest
unfolding cut_at
line_cut bs line rest end some end-is line-is rest-is =
    ap (map strip_carriage_return) (parts_cut bs some) ∙ rw (line-is, rest-is, end-is) refl

-- the end of the first line
pub prefix_within : (p : ℕ → Bool) (bs : List ℕ) → position_or_len p bs ≤ length bs
prefix_within p [] = omega arith
prefix_within p (b ∷ bs) = elim (cases_Bool (p b)) [ inl is ↦ rw is (omega arith) | inr other ↦ rw other (omega (arith, prefix_within p bs)) ]

pub end_is : (bs : List ℕ) → unwrap_or (position is_newline bs) (length bs) ≡ position_or_len is_newline bs
end_is bs = elim (cases_lt (position_or_len is_newline bs) (length bs)) [
  | inl lt ↦ let found = lt-ltb _ _ lt in rw found refl
  | inr le ↦ let missing = le-ltb _ _ le in rw missing (omega (arith, prefix_within is_newline bs))
]
