-- What is read from bytes is spelled as they are.
use Rattle.std.proofs.Common.{◌≡◌, ℕ, zero, suc, ◌<◌, ◌≤◌, ◌^◌, ◌⊎◌, inl, inr, ◌==◌, ◌&&◌, List, [], ◌∷◌, ◌++◌, length, drop, take, Option, Some, None, Bool, true, false, cond, refl, sym, subst, ap, ◌∙◌, arith}
use Rattle.std.specs.Prelude.{◌-◌, nat_lt, slice_index}
use Rattle.std.specs.Option.{option_map}
use Rattle.std.proofs.Math.Seq.{take-length}
use Rattle.std.proofs.Math.ListN.{length-drop}
use Rattle.std.proofs.lemmas.Bool.{and_parts, ltb-false}
use Rattle.std.proofs.lemmas.Bool.Decides.{Decides-eqb}
use Rattle.std.proofs.lemmas.Int.{of_z-to_z}
use Rattle.std.proofs.lemmas.List.{drop-drop, length-take-le, take-append-drop}
use Rattle.std.proofs.lemmas.Nat.{be_bytes_8}
use Rattle.std.specs.Int.{w64, from_be_bytes}
use Rattle.slate_jobs.specs.declared.jobs.Job.{Job}
use Rattle.slate_jobs.specs.declared.jobs.JobReply.{JobReply}
use Rattle.slate_jobs.specs.declared.jobs.JobState.{JobState}
use Rattle.slate_jobs.specs.declared.rows.Cells.{Cells}
use Rattle.slate_jobs.specs.declared.rows.RowName.{RowName}
use Rattle.slate_jobs.specs.declared.rows.RowName.TheVariants as names
use Rattle.slate_jobs.specs.Decoding.{IsBytes, cells_at, is_bare, job_in, name_at, named, number_at, plain_reply_in, reply_in, state_in}
use Rattle.slate_jobs.specs.Rows.{eight, job_cells, job_key, reply_cells, reply_key, spelled, state_cells}

-- what a choice that gives something gives
pub if-some : {X : Type 0} (b : Bool) (x y : X) (rest : Option X) → cond b (Some x) rest ≡ Some y → ((b ≡ true) × (x ≡ y)) ⊎ (rest ≡ Some y)
if-some true x y rest is = inl (refl, cc)
if-some false x y rest is = inr is

pub some-same : {X : Type 0} (x y : X) → Some x ≡ Some y → x ≡ y
some-same x y is = cc

pub none-some : {X : Type 0} (x : X) → None ≡ Some x → ⊥
none-some x is = cc

take-bytes : (n : ℕ) (bs : List ℕ) (i : ℕ) → IsBytes bs → slice_index (take n bs) i < 256
take-bytes zero bs i small = omega arith
take-bytes (suc n) [] i small = omega arith
take-bytes (suc n) (b ∷ bs) zero small = small 0
take-bytes (suc n) (b ∷ bs) (suc i) small = take-bytes n bs i (λ j. small (suc j))

drop-bytes : (n : ℕ) (bs : List ℕ) (i : ℕ) → IsBytes bs → slice_index (drop n bs) i < 256
drop-bytes zero bs i small = small i
drop-bytes (suc n) [] i small = omega arith
drop-bytes (suc n) (b ∷ bs) i small = drop-bytes n bs i (λ j. small (suc j))

eight-read : (bs : List ℕ) → length bs ≡ 8 → IsBytes bs → eight (from_be_bytes w64 bs) ≡ bs
eight-read bs long small = be_bytes_8 bs (from_be_bytes w64 bs) long small refl

number-fits : (bs : List ℕ) → IsBytes bs → from_be_bytes w64 bs < 2 ^ 64
number-fits bs small = omega (arith, small 0, small 1, small 2, small 3, small 4, small 5, small 6, small 7)

-- ---- keys
record IsNumbered (rest : List ℕ) (n : ℕ) : Type 0 where
  spelled_is : rest ≡ eight n
  fits : n < 2 ^ 64

numbered : (tag : ℕ) (rest : List ℕ) → IsBytes (tag ∷ rest) → length (tag ∷ rest) ≡ 9 → IsNumbered rest (number_at (tag ∷ rest) 1)
numbered tag rest small long =
    let count : length rest ≡ 8 = omega (arith, long) in
    let all : take 8 rest ≡ rest = subst (λ k. take k rest ≡ rest) count (take-length rest) in
    let bytes : IsBytes rest = λ i. small (suc i) in
    let is : number_at (tag ∷ rest) 1 ≡ from_be_bytes w64 rest = ap (from_be_bytes w64) all in
    record {
      spelled_is = sym (ap eight is ∙ eight-read rest count bytes);
      fits = subst (λ n. n < 2 ^ 64) (sym is) (number-fits rest bytes);
    }

named-job : (tag number n : ℕ) → named tag number ≡ Some (names.OfJob n) → (tag ≡ 106) × (number ≡ n)
named-job tag number n is = elim (if-some (tag == 106) _ _ _ is) [
  | inl job ↦ ((Decides-eqb tag 106).0 job.0, (let same = job.1 in cc))
  | inr more ↦ elim (if-some (tag == 114) _ _ _ more) [
    | inl reply ↦ absurd (let other = reply.1 in cc)
    | inr none ↦ absurd (none-some _ none)
  ]
]

named-reply : (tag number n : ℕ) → named tag number ≡ Some (names.OfReply n) → (tag ≡ 114) × (number ≡ n)
named-reply tag number n is = elim (if-some (tag == 106) _ _ _ is) [
  | inl job ↦ absurd (let other = job.1 in cc)
  | inr more ↦ elim (if-some (tag == 114) _ _ _ more) [
    | inl reply ↦ ((Decides-eqb tag 114).0 reply.0, (let same = reply.1 in cc))
    | inr none ↦ absurd (none-some _ none)
  ]
]

-- a key of nine bytes that has a name
key-named : (key : List ℕ) (name : RowName) → name_at key ≡ Some name → (length key ≡ 9) × (named (slice_index key 0) (number_at key 1) ≡ Some name)
key-named key name is = by (length key == 9) refl is where
  by : (b : Bool) → (length key == 9) ≡ b → cond b (named (slice_index key 0) (number_at key 1)) None ≡ Some name → (length key ≡ 9) × (named (slice_index key 0) (number_at key 1) ≡ Some name)
  by true nine is = ((Decides-eqb (length key) 9).0 nine, is)
  by false other is = absurd (none-some name is)

pub key-of_job : (key : List ℕ) (n : ℕ) → IsBytes key → name_at key ≡ Some (names.OfJob n) → (key ≡ job_key n) × (n < 2 ^ 64)
key-of_job [] n small is = absurd (let nine = (key-named [] (names.OfJob n) is).0 in omega (arith, nine))
key-of_job (tag ∷ rest) n small is =
    let known = key-named (tag ∷ rest) (names.OfJob n) is in
    let its = named-job tag (number_at (tag ∷ rest) 1) n known.1 in
    let number = numbered tag rest small known.0 in
    (ap (λ t. t ∷ rest) its.0 ∙ ap (λ r. 106 ∷ r) (number.spelled_is ∙ ap eight its.1), subst (λ m. m < 2 ^ 64) its.1 number.fits)

pub key-of_reply : (key : List ℕ) (n : ℕ) → IsBytes key → name_at key ≡ Some (names.OfReply n) → (key ≡ reply_key n) × (n < 2 ^ 64)
key-of_reply [] n small is = absurd (let nine = (key-named [] (names.OfReply n) is).0 in omega (arith, nine))
key-of_reply (tag ∷ rest) n small is =
    let known = key-named (tag ∷ rest) (names.OfReply n) is in
    let its = named-reply tag (number_at (tag ∷ rest) 1) n known.1 in
    let number = numbered tag rest small known.0 in
    (ap (λ t. t ∷ rest) its.0 ∙ ap (λ r. 114 ∷ r) (number.spelled_is ∙ ap eight its.1), subst (λ m. m < 2 ^ 64) its.1 number.fits)

-- ---- values
pub record AreSpelled (value : List ℕ) (cells : Cells) : Type 0 where
  pub is : value ≡ spelled cells
  pub first_fits : cells.first < 2 ^ 64
  pub second_fits : cells.second < 2 ^ 64

parted : (tag : ℕ) (rest : List ℕ) → IsBytes (tag ∷ rest) → 16 ≤ length rest →
    AreSpelled (tag ∷ rest) (record { tag = tag; first = from_be_bytes w64 (take 8 rest); second = from_be_bytes w64 (take 8 (drop 8 rest)); payload = drop 16 rest })
parted tag rest small long =
    let bytes : IsBytes rest = λ i. small (suc i) in
    let later : IsBytes (drop 8 rest) = λ i. drop-bytes 8 rest i bytes in
    let a : IsBytes (take 8 rest) = λ i. take-bytes 8 rest i bytes in
    let b : IsBytes (take 8 (drop 8 rest)) = λ i. take-bytes 8 (drop 8 rest) i later in
    let count_a : length (take 8 rest) ≡ 8 = length-take-le 8 rest (omega (arith, long)) in
    let left : length (drop 8 rest) ≡ length rest - 8 = length-drop 8 rest in
    let count_b : length (take 8 (drop 8 rest)) ≡ 8 = length-take-le 8 (drop 8 rest) (omega (arith, long, left)) in
    let behind : drop 8 rest ≡ take 8 (drop 8 rest) ++ drop 16 rest = sym (take-append-drop 8 (drop 8 rest)) ∙ ap (λ xs. take 8 (drop 8 rest) ++ xs) (drop-drop 8 8 rest) in
    let all : rest ≡ take 8 rest ++ (take 8 (drop 8 rest) ++ drop 16 rest) = sym (take-append-drop 8 rest) ∙ ap (λ xs. take 8 rest ++ xs) behind in
    let spelled_is = ap (λ xs. xs ++ (take 8 (drop 8 rest) ++ drop 16 rest)) (sym (eight-read (take 8 rest) count_a a))
    ∙ ap (λ xs. eight (from_be_bytes w64 (take 8 rest)) ++ (xs ++ drop 16 rest)) (sym (eight-read (take 8 (drop 8 rest)) count_b b)) in
    record {
      is = ap (λ xs. tag ∷ xs) (all ∙ spelled_is);
      first_fits = number-fits (take 8 rest) a;
      second_fits = number-fits (take 8 (drop 8 rest)) b;
    }

abbrev own : ℕ → List ℕ → Cells
own tag rest = record { tag = tag; first = from_be_bytes w64 (take 8 rest); second = from_be_bytes w64 (take 8 (drop 8 rest)); payload = drop 16 rest }

pub value-of_cells : (value : List ℕ) (cells : Cells) → IsBytes value → cells_at value ≡ Some cells → AreSpelled value cells
value-of_cells [] cells small is = absurd (none-some cells is)
value-of_cells (tag ∷ rest) cells small is = by (nat_lt (length (tag ∷ rest)) 17) refl is where
  by : (b : Bool) → nat_lt (length (tag ∷ rest)) 17 ≡ b → cond b None (Some (own tag rest)) ≡ Some cells → AreSpelled (tag ∷ rest) cells
  by true short is = absurd (none-some cells is)
  by false long is = subst (AreSpelled (tag ∷ rest)) (some-same (own tag rest) cells is) (parted tag rest small (let least = ltb-false (length (tag ∷ rest)) 17 long in omega (arith, least)))

-- cells with a tag and no number
bare-cells : (cells : Cells) (tag : ℕ) → (is_bare cells && cells.tag == tag) ≡ true → record { tag = tag; first = 0; second = 0; payload = cells.payload } ≡ cells
bare-cells cells tag is =
    let parts = and_parts (is_bare cells) (cells.tag == tag) is in
    let numbers = and_parts (cells.first == 0) (cells.second == 0) parts.0 in
    let tagged = (Decides-eqb cells.tag tag).0 parts.1 in
    let first = (Decides-eqb cells.first 0).0 numbers.0 in
    let second = (Decides-eqb cells.second 0).0 numbers.1 in
    ap (λ t. record { tag = t; first = 0; second = 0; payload = cells.payload }) (sym tagged)
    ∙ (ap (λ n. record { tag = cells.tag; first = n; second = 0; payload = cells.payload }) (sym first)
    ∙ ap (λ n. record { tag = cells.tag; first = cells.first; second = n; payload = cells.payload }) (sym second))

state-spelled : (cells : Cells) (state : JobState) → cells.second < 2 ^ 64 → state_in cells ≡ Some state → state_cells state cells.payload ≡ cells
state-spelled cells state fits is = elim (if-some (cells.tag == 1) _ _ _ is) [
  | inl claimed ↦
      let tagged = (Decides-eqb cells.tag 1).0 claimed.0 in
      ap (λ s. state_cells s cells.payload) (sym claimed.1)
      ∙ (ap (λ n. record { tag = 1; first = cells.first; second = n; payload = cells.payload }) (of_z-to_z w64 cells.second fits)
      ∙ ap (λ t. record { tag = t; first = cells.first; second = cells.second; payload = cells.payload }) (sym tagged))
  | inr more ↦ elim (if-some (is_bare cells && cells.tag == 0) _ _ _ more) [
    | inl waiting ↦ ap (λ s. state_cells s cells.payload) (sym waiting.1) ∙ bare-cells cells 0 waiting.0
    | inr rest ↦ elim (if-some (is_bare cells && cells.tag == 2) _ _ _ rest) [
      | inl done ↦ ap (λ s. state_cells s cells.payload) (sym done.1) ∙ bare-cells cells 2 done.0
      | inr none ↦ absurd (none-some state none)
    ]
  ]
]

pub job-spelled : (cells : Cells) (job : Job) → cells.second < 2 ^ 64 → job_in cells ≡ Some job → job_cells job ≡ cells
job-spelled cells job fits is = by (state_in cells) refl is where
  by : (found : Option JobState) → state_in cells ≡ found → option_map (λ state. record { state = state; payload = cells.payload }) found ≡ Some job → job_cells job ≡ cells
  by None at is = absurd (none-some job is)
  by (Some state) at is = ap job_cells (sym (some-same _ job is)) ∙ state-spelled cells state fits at

no-payload : (cells : Cells) → (length cells.payload == 0) ≡ true → cells.payload ≡ []
no-payload cells is = by cells.payload ((Decides-eqb (length cells.payload) 0).0 is) where
  by : (xs : List ℕ) → length xs ≡ 0 → xs ≡ []
  by [] none = refl
  by (x ∷ xs) none = absurd (omega (arith, none))

-- bare cells without a payload
plain-cells : (cells : Cells) (tag : ℕ) → cells.payload ≡ [] → (is_bare cells && cells.tag == tag) ≡ true → record { tag = tag; first = 0; second = 0; payload = [] } ≡ cells
plain-cells cells tag empty is = ap (λ p. record { tag = tag; first = 0; second = 0; payload = p }) (sym empty) ∙ bare-cells cells tag is

plain-spelled : (cells : Cells) (reply : JobReply) → cells.payload ≡ [] → plain_reply_in cells ≡ Some reply → reply_cells reply ≡ cells
plain-spelled cells reply empty is = elim (if-some (cells.second == 0 && cells.tag == 0) _ _ _ is) [
  | inl enqueued ↦
      let parts = and_parts (cells.second == 0) (cells.tag == 0) enqueued.0 in
      ap reply_cells (sym enqueued.1)
      ∙ (ap (λ p. record { tag = 0; first = cells.first; second = 0; payload = p }) (sym empty)
      ∙ (ap (λ t. record { tag = t; first = cells.first; second = 0; payload = cells.payload }) (sym ((Decides-eqb cells.tag 0).0 parts.1))
      ∙ ap (λ n. record { tag = cells.tag; first = cells.first; second = n; payload = cells.payload }) (sym ((Decides-eqb cells.second 0).0 parts.0))))
  | inr more ↦ elim (if-some (is_bare cells && cells.tag == 2) _ _ _ more) [
    | inl nothing ↦ ap reply_cells (sym nothing.1) ∙ plain-cells cells 2 empty nothing.0
    | inr more ↦ elim (if-some (is_bare cells && cells.tag == 3) _ _ _ more) [
      | inl completed ↦ ap reply_cells (sym completed.1) ∙ plain-cells cells 3 empty completed.0
      | inr more ↦ elim (if-some (is_bare cells && cells.tag == 4) _ _ _ more) [
        | inl stale ↦ ap reply_cells (sym stale.1) ∙ plain-cells cells 4 empty stale.0
        | inr more ↦ elim (if-some (cells.first == 0 && cells.tag == 5) _ _ _ more) [
          | inl held ↦
              let parts = and_parts (cells.first == 0) (cells.tag == 5) held.0 in
              ap reply_cells (sym held.1)
              ∙ (ap (λ p. record { tag = 5; first = 0; second = cells.second; payload = p }) (sym empty)
              ∙ (ap (λ t. record { tag = t; first = 0; second = cells.second; payload = cells.payload }) (sym ((Decides-eqb cells.tag 5).0 parts.1))
              ∙ ap (λ n. record { tag = cells.tag; first = n; second = cells.second; payload = cells.payload }) (sym ((Decides-eqb cells.first 0).0 parts.0))))
          | inr none ↦ absurd (none-some reply none)
        ]
      ]
    ]
  ]
]

pub reply-spelled : (cells : Cells) (reply : JobReply) → reply_in cells ≡ Some reply → reply_cells reply ≡ cells
reply-spelled cells reply is = elim (if-some (cells.tag == 1) _ _ _ is) [
  | inl claimed ↦ ap reply_cells (sym claimed.1) ∙ ap (λ t. record { tag = t; first = cells.first; second = cells.second; payload = cells.payload }) (sym ((Decides-eqb cells.tag 1).0 claimed.0))
  | inr more ↦ by (length cells.payload == 0) refl more
] where
  by : (b : Bool) → (length cells.payload == 0) ≡ b → cond b (plain_reply_in cells) None ≡ Some reply → reply_cells reply ≡ cells
  by true empty is = plain-spelled cells reply (no-payload cells empty) is
  by false some is = absurd (none-some reply is)
