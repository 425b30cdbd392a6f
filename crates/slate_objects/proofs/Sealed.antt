-- An object that is read is spelled so, and one that is spelled so is read again.
use Rattle.std.proofs.Common.{◌≡◌, ℕ, ◌^◌, ◌<◌, ◌≤◌, Bool, true, false, cond, eqb, ltb, List, [], ◌++◌, length, Result, Ok, Err, refl, sym, ap, subst, ◌∙◌, append_assoc, arith}
use Rattle.std.specs.Prelude.{IfOk}
use Rattle.std.proofs.lemmas.Bool.{eqb-true, eq-eqb, ltb-false, le-ltb}
use Rattle.std.proofs.lemmas.List.{append-nil, length-append, nil_from_length}
use Rattle.std.proofs.lemmas.Nat.{from_be_bytes-to_be_bytes_4}
use Rattle.slate_objects.specs.declared.faults.DecodeFault.{DecodeFault}
use Rattle.slate_objects.specs.declared.faults.DecodeFault.TheVariants.{AnotherKind, AnotherVersion, Checksum, TooShort, Trailing}
use Rattle.slate_objects.specs.declared.faults.DecodeError.{DecodeError}
use Rattle.slate_objects.specs.declared.seals.Head.{Head}
use Rattle.slate_objects.specs.Checksum.{crc32}
use Rattle.slate_objects.specs.Reading.{◌>>=◌, GivesDecoded, IsBytes, number_at, word_at}
use Rattle.slate_objects.specs.Sealing.{body_in, checked, head_at, kind_at, object_in, sealed, version_at, has_version, whole}
use Rattle.slate_objects.specs.Spelling.{number, word}
use Rattle.slate_objects.proofs.Laws.{IsFormat, Takes, Takes-then, bind_ok, number_format, ok_is, word_format}

-- a test that held
guard_held : {A : Type 0} (b : Bool) (d : DecodeFault) (x y : A) → cond b (Ok x) (Err d) ≡ Ok y → (b ≡ true) × (x ≡ y)
guard_held true d x y e = (refl, cc)
guard_held false d x y e = absurd cc

-- the first of two tests didn't hold
passed : {A : Type 0} (b : Bool) (d : DecodeFault) (r : Result A DecodeFault) (y : A) → cond b (Err d) r ≡ Ok y → (b ≡ false) × (r ≡ Ok y)
passed true d r y e = absurd cc
passed false d r y e = (refl, e)

-- a number that has to be this one
kind_takes : (kind : ℕ) (bytes : List ℕ) (n : ℕ) (rest : List ℕ) → IsBytes bytes → kind_at kind bytes ≡ Ok (n, rest) → Takes bytes (word kind) rest
unfolding kind_at
kind_takes kind bytes n rest fits e =
    let a = bind_ok (word_at bytes) (λ found. cond (eqb found.0 kind) (Ok found) (Err AnotherKind)) (n, rest) e in
    let g = guard_held (eqb a.0.0 kind) AnotherKind a.0 (n, rest) a.2 in
    let t = word_format.takes bytes a.0.0 a.0.1 fits a.1 in
    let same : a.0.0 ≡ kind = eqb-true _ _ g.0 in
    subst (λ (r : List ℕ). Takes bytes (word kind) r) (ap (λ (p : ℕ × List ℕ). p.1) g.1) (subst (λ (k : ℕ). Takes bytes (word k) a.0.1) same t.0)

kind_again : (kind : ℕ) (rest : List ℕ) → kind < 2 ^ 32 → kind_at kind (word kind ++ rest) ≡ Ok (kind, rest)
unfolding kind_at
kind_again kind rest lt = rw (word_format.again kind rest lt, eq-eqb kind kind refl) refl

version_takes : (version : ℕ) (bytes : List ℕ) (n : ℕ) (rest : List ℕ) → IsBytes bytes → version_at version bytes ≡ Ok (n, rest) → Takes bytes (word version) rest
unfolding version_at
version_takes version bytes n rest fits e =
    let a = bind_ok (word_at bytes) (λ found. cond (eqb found.0 version) (Ok found) (Err (AnotherVersion found.0))) (n, rest) e in
    let g = guard_held (eqb a.0.0 version) (AnotherVersion a.0.0) a.0 (n, rest) a.2 in
    let t = word_format.takes bytes a.0.0 a.0.1 fits a.1 in
    let same : a.0.0 ≡ version = eqb-true _ _ g.0 in
    subst (λ (r : List ℕ). Takes bytes (word version) r) (ap (λ (p : ℕ × List ℕ). p.1) g.1) (subst (λ (k : ℕ). Takes bytes (word k) a.0.1) same t.0)

version_again : (version : ℕ) (rest : List ℕ) → version < 2 ^ 32 → version_at version (word version ++ rest) ≡ Ok (version, rest)
unfolding version_at
version_again version rest lt = rw (word_format.again version rest lt, eq-eqb version version refl) refl

abbrev head_of : ℕ → ℕ → Head → List ℕ
head_of kind version head = word kind ++ (word version ++ (number head.length ++ word head.sum))

head_takes : (kind version : ℕ) (bytes : List ℕ) (head : Head) (rest : List ℕ) → IsBytes bytes → head_at kind version bytes ≡ Ok (head, rest) → Takes bytes (head_of kind version head) rest
unfolding head_at
head_takes kind version bytes head rest fits e =
    let a = bind_ok (kind_at kind bytes) (λ found. version_at version found.1 >>= λ v. number_at v.1 >>= λ length. word_at length.1 >>= λ sum. Ok (record { length = length.0; sum = sum.0 }, sum.1)) (head, rest) e in
    let b = bind_ok (version_at version a.0.1) (λ v. number_at v.1 >>= λ length. word_at length.1 >>= λ sum. Ok (record { length = length.0; sum = sum.0 }, sum.1)) (head, rest) a.2 in
    let c = bind_ok (number_at b.0.1) (λ length. word_at length.1 >>= λ sum. Ok (record { length = length.0; sum = sum.0 }, sum.1)) (head, rest) b.2 in
    let d = bind_ok (word_at c.0.1) (λ sum. Ok (record { length = c.0.0; sum = sum.0 }, sum.1)) (head, rest) c.2 in
    let t0 = kind_takes kind bytes a.0.0 a.0.1 fits a.1 in
    let t1 = version_takes version a.0.1 b.0.0 b.0.1 t0.rest_fits b.1 in
    let t2 = number_format.takes b.0.1 c.0.0 c.0.1 t1.rest_fits c.1 in
    let t3 = word_format.takes c.0.1 d.0.0 d.0.1 t2.0.rest_fits d.1 in
    let e23 = Takes-then b.0.1 (number c.0.0) c.0.1 (word d.0.0) d.0.1 t2.0 t3.0 in
    let e13 = Takes-then a.0.1 (word version) b.0.1 (number c.0.0 ++ word d.0.0) d.0.1 t1 e23 in
    let e03 = Takes-then bytes (word kind) a.0.1 (word version ++ (number c.0.0 ++ word d.0.0)) d.0.1 t0 e13 in
    let made : Head × List ℕ = (record { length = c.0.0; sum = d.0.0 }, d.0.1) in
    subst (λ (p : Head × List ℕ). Takes bytes (head_of kind version p.0) p.1) (ok_is made (head, rest) d.2) e03

head_again : (kind version : ℕ) (body : List ℕ) → kind < 2 ^ 32 → version < 2 ^ 32 → length body < 2 ^ 64 → crc32 body < 2 ^ 32 → head_at kind version (sealed kind version body) ≡ Ok (record { length = length body; sum = crc32 body }, body)
unfolding head_at
head_again kind version body lt low small sum =
    let regrouped : sealed kind version body ≡ word kind ++ (word version ++ (number (length body) ++ (word (crc32 body) ++ body))) = simp append_assoc in
    ap (head_at kind version) regrouped ∙ rw (
      kind_again kind (word version ++ (number (length body) ++ (word (crc32 body) ++ body))) lt,
      version_again version (number (length body) ++ (word (crc32 body) ++ body)) low,
      number_format.again (length body) (word (crc32 body) ++ body) small,
      word_format.again (crc32 body) body sum,
    ) refl

-- a body that a head speaks of
checked_is : (head : Head) (body : List ℕ) → checked head body ≡ Ok tt → (head.length ≡ length body) × (head.sum ≡ crc32 body)
unfolding checked
checked_is head body e =
    let a = passed (ltb (length body) head.length) TooShort (cond (ltb head.length (length body)) (Err Trailing) (cond (eqb head.sum (crc32 body)) (Ok tt) (Err Checksum))) tt e in
    let b = passed (ltb head.length (length body)) Trailing (cond (eqb head.sum (crc32 body)) (Ok tt) (Err Checksum)) tt a.1 in
    let g = guard_held (eqb head.sum (crc32 body)) Checksum tt tt b.1 in
    let low : head.length ≤ length body = ltb-false _ _ a.0 in
    let high : length body ≤ head.length = ltb-false _ _ b.0 in
    (omega (arith, low, high), eqb-true _ _ g.0)

checked_again : (body : List ℕ) → checked (record { length = length body; sum = crc32 body }) body ≡ Ok tt
unfolding checked
checked_again body = rw (le-ltb (length body) (length body) (omega arith), eq-eqb (crc32 body) (crc32 body) refl) refl

-- the body of an object, and the object of a body
body_is : (kind version : ℕ) (bytes body : List ℕ) → IsBytes bytes → body_in kind version bytes ≡ Ok body → (bytes ≡ sealed kind version body) × IsBytes body
unfolding body_in
body_is kind version bytes body fits e =
    let a = bind_ok (head_at kind version bytes) (λ head. checked head.0 head.1 >>= λ right. Ok head.1) body e in
    let b = bind_ok (checked a.0.0 a.0.1) (λ right. Ok a.0.1) body a.2 in
    let t = head_takes kind version bytes a.0.0 a.0.1 fits a.1 in
    let is = checked_is a.0.0 a.0.1 b.1 in
    let same : a.0.1 ≡ body = ok_is a.0.1 body b.2 in
    (t.parts ∙ rw (is.0, is.1, same) (simp append_assoc), subst IsBytes same t.rest_fits)

body_again : (kind version : ℕ) (body : List ℕ) → kind < 2 ^ 32 → version < 2 ^ 32 → length body < 2 ^ 64 → crc32 body < 2 ^ 32 → body_in kind version (sealed kind version body) ≡ Ok body
unfolding body_in
body_again kind version body lt low small sum = rw (head_again kind version body lt low small sum, checked_again body) refl

whole_is : {A : Type 0} (value : A × List ℕ) (x : A) → whole value ≡ Ok x → (value.1 ≡ []) × (value.0 ≡ x)
unfolding whole
whole_is value x e =
    let g = guard_held (eqb (length value.1) 0) Trailing value.0 x e in
    (nil_from_length value.1 (eqb-true _ _ g.0), g.1)

whole_again : {A : Type 0} (x : A) → whole (x, []) ≡ Ok x
unfolding whole
whole_again x = refl

module _ {A : Type 0} {read_at : List ℕ → Result (A × List ℕ) DecodeFault} {spelled : A → List ℕ} {Fits : A → Type 0} (f : IsFormat read_at spelled Fits) where
  -- what is read is spelled so, and has a spelling
  pub only : (kind version : ℕ) (bytes : List ℕ) (x : A) → IsBytes bytes → object_in read_at kind version bytes ≡ Ok x → (bytes ≡ sealed kind version (spelled x)) × Fits x
  unfolding object_in
  only kind version bytes x fits e =
      let a = bind_ok (body_in kind version bytes) (λ body. read_at body >>= λ value. whole value) x e in
      let c = bind_ok (read_at a.0) (λ value. whole value) x a.2 in
      let is = body_is kind version bytes a.0 fits a.1 in
      let v = f.takes a.0 c.0.0 c.0.1 is.1 c.1 in
      let w = whole_is c.0 x c.2 in
      let body : a.0 ≡ spelled x = v.0.parts ∙ ap (λ (r : List ℕ). spelled c.0.0 ++ r) w.0 ∙ append-nil (spelled c.0.0) ∙ ap spelled w.1 in
      (is.0 ∙ ap (sealed kind version) body, subst Fits w.1 v.1)

  pub again : (kind version : ℕ) (x : A) → kind < 2 ^ 32 → version < 2 ^ 32 → Fits x → length (spelled x) < 2 ^ 64 → crc32 (spelled x) < 2 ^ 32 → object_in read_at kind version (sealed kind version (spelled x)) ≡ Ok x
  unfolding object_in
  again kind version x lt low fits small sum =
      let read : read_at (spelled x) ≡ Ok (x, []) = ap read_at (sym (append-nil (spelled x))) ∙ f.again x [] fits in
      rw (body_again kind version (spelled x) lt low small sum, read) (whole_again x)

  -- the same, of the body that was written
  pub written_again : (kind version : ℕ) (x : A) (body bytes : List ℕ) → kind < 2 ^ 32 → version < 2 ^ 32 → Fits x → body ≡ spelled x → length body < 2 ^ 64 → bytes ≡ sealed kind version body → crc32 body < 2 ^ 32 → object_in read_at kind version bytes ≡ Ok x
  written_again kind version x body bytes lt low fits same small is sum =
      let P : List ℕ → Type 0 = λ b. object_in read_at kind version b ≡ Ok x in
      subst P (sym (is ∙ ap (sealed kind version) same)) (again kind version x lt low fits (rw (← same) small) (rw (← same) sum))

  -- the same, of what a function gave
  pub read_only : (kind version : ℕ) (bytes : List ℕ) (r : Result A DecodeError) → IsBytes bytes → GivesDecoded r (object_in read_at kind version bytes) → IfOk r (λ x. bytes ≡ sealed kind version (spelled x))
  read_only kind version bytes (Ok x) fits given = (only kind version bytes x fits given).0
  read_only kind version bytes (Err e) fits given = tt

  -- the same, of what was read of a body
  pub opened_only : (kind version : ℕ) (bytes body rest : List ℕ) (x : A) (r : Result A DecodeError) → IsBytes bytes → body_in kind version bytes ≡ Ok body → read_at body ≡ Ok (x, rest) → GivesDecoded r (whole (x, rest)) →
      IfOk r (λ y. (bytes ≡ sealed kind version (spelled y)) × Fits y)
  unfolding object_in
  opened_only kind version bytes body rest x (Ok y) fits opened read given = only kind version bytes y fits (rw (opened, read) given)
  opened_only kind version bytes body rest x (Err e) fits opened read given = tt

-- ---- the version that an object says of itself
pub version_sealed : (kind version other : ℕ) (body : List ℕ) → version < 2 ^ 32 → has_version other (sealed kind version body) ≡ eqb version other
unfolding word
version_sealed kind version other body lt =
    let rest : List ℕ = number (length body) ++ (word (crc32 body) ++ body) in
    let regrouped : sealed kind version body ≡ word kind ++ (word version ++ rest) = simp append_assoc in
    let long : ltb (length (word kind ++ (word version ++ rest))) 8 ≡ false = le-ltb _ _ (omega (arith, length-append (word kind) (word version ++ rest), length-append (word version) rest)) in
    ap (has_version other) regrouped ∙ rw (long, from_be_bytes-to_be_bytes_4 version lt) refl
