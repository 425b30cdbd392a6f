-- The rows of batches that hold a machine are read as one.
use Rattle.std.proofs.Common.{◌≡◌, ℕ, zero, suc, ◌+◌, ◌*◌, ◌<◌, ◌^◌, ◌⊎◌, inl, inr, ◌==◌, ◌&&◌, List, [], ◌∷◌, ◌++◌, length, get_or, length-append, Option, Some, None, Ok, Err, Bool, true, false, cond, refl, sym, subst, ap, ◌∙◌, arith}
use Rattle.std.proofs.lemmas.Bool.{cases_order, ltb-true}
use Rattle.std.proofs.lemmas.Bool.Decides.{Decides-eqb}
use Rattle.std.proofs.lemmas.Nat.{from_be_bytes-to_be_bytes_8}
use Rattle.std.proofs.lemmas.Option.{slice_get_within}
use Rattle.std.proofs.lemmas.Slice.Eq.{bytes_eq-Decides}
use Rattle.std.specs.BTreeMap.{insert_entry}
use Rattle.std.specs.Cmp.Lexicographic.{slice_cmp}
use Rattle.std.specs.Int.{w64, from_be_bytes}
use Rattle.std.specs.List.{AllByRecursion}
use Rattle.std.specs.List.Sorted.{IsStrictlySortedBy}
use Rattle.std.specs.Option.{is_none, option_and_then, option_map}
use Rattle.std.specs.Ordering.{nat_cmp, ordering_then}
use Rattle.std.specs.Prelude.{nat_lt, slice_get}
use Rattle.std.specs.Str.{bytes_eq}
use Rattle.std.specs.declared.cmp.Ordering.TheVariants.{Less, Equal}
use Rattle.slate_types.proofs.Prefixes.{nat_cmp-greater, nat_cmp-same}
use Rattle.slate_types.specs.Range.{key_cmp}
use Rattle.slate_types.specs.declared.batches.Batch.{Batch}
use Rattle.slate_types.specs.declared.batches.KeyValue.{KeyValue}
use Rattle.slate_reads.specs.Read.{fold_versions, history, read_at, since_base}
use Rattle.slate_rows.specs.Scan.{Rows, rows_of, with_found}
use Rattle.slate_jobs.specs.declared.jobs.Job.{Job}
use Rattle.slate_jobs.specs.declared.jobs.JobReply.{JobReply}
use Rattle.slate_jobs.specs.declared.jobs.JobReply.TheVariants as replies
use Rattle.slate_jobs.specs.declared.jobs.JobState.{JobState}
use Rattle.slate_jobs.specs.declared.jobs.JobState.TheVariants.{Waiting, Claimed, Done}
use Rattle.slate_jobs.specs.declared.rows.Cells.{Cells}
use Rattle.slate_jobs.specs.declared.rows.RowName.TheVariants as names
use Rattle.slate_jobs.specs.Decoding.{AreRows, cells_at, job_in, machine_at, name_at, number_at, plain_reply_in, reply_in, with_cells, with_job, with_reply, with_row, with_rows}
use Rattle.slate_jobs.specs.Machine.{Machine, empty, kept_reply}
use Rattle.slate_jobs.specs.Queue.{AreForeign}
use Rattle.slate_jobs.specs.Rows.{Holds, IsOther, eight, job_cells, job_key, job_value, reply_cells, reply_key, reply_value, spelled, value_at, value_found}
use Rattle.slate_jobs.proofs.Decoded.{Found, IsKeyed, keyed-read}
use Rattle.slate_jobs.proofs.Entries.{entry-other}
use Rattle.slate_jobs.proofs.Holding.{same_or_not}
use Rattle.slate_jobs.proofs.Keys.{jobs-same, kinds-differ}

-- ---- the order of the keys of jobs is that of their numbers
be : ℕ → List ℕ → ℕ
be acc [] = acc
be acc (x ∷ xs) = be (acc * 256 + x) xs

abbrev AreSmall : List ℕ → Type 0
AreSmall xs = AllByRecursion (λ x. x < 256) xs

be-less : (acc acc' : ℕ) (xs ys : List ℕ) → acc < acc' → length xs ≡ length ys → AreSmall xs → AreSmall ys → be acc xs < be acc' ys
unfolding be
be-less acc acc' [] [] less long small small' = less
be-less acc acc' [] (y ∷ ys) less long small small' = absurd (omega (arith, long))
be-less acc acc' (x ∷ xs) [] less long small small' = absurd (omega (arith, long))
be-less acc acc' (x ∷ xs) (y ∷ ys) less long small small' =
    let low = small.0 in be-less (acc * 256 + x) (acc' * 256 + y) xs ys (omega (arith, less, low)) (omega (arith, long)) small.1 small'.1

be-order : (acc : ℕ) (xs ys : List ℕ) → length xs ≡ length ys → AreSmall xs → AreSmall ys → slice_cmp nat_cmp xs ys ≡ Less → be acc xs < be acc ys
unfolding be
be-order acc [] [] long small small' is = absurd (let no = is in cc)
be-order acc [] (y ∷ ys) long small small' is = absurd (omega (arith, long))
be-order acc (x ∷ xs) [] long small small' is = absurd (omega (arith, long))
be-order acc (x ∷ xs) (y ∷ ys) long small small' is = elim (cases_order x y) [
  | inl same ↦
      let tie : nat_cmp x y ≡ Equal = subst (λ z. nat_cmp x z ≡ Equal) same (nat_cmp-same x) in
      let rest : slice_cmp nat_cmp xs ys ≡ Less = sym (ap (λ o. ordering_then o (slice_cmp nat_cmp xs ys)) tie) ∙ is in
      subst (λ z. be (acc * 256 + x) xs < be (acc * 256 + z) ys) same (be-order (acc * 256 + x) xs ys (omega (arith, long)) small.1 small'.1 rest)
  | inr unlike ↦ elim unlike [
    | inl less ↦ be-less (acc * 256 + x) (acc * 256 + y) xs ys (omega (arith, less)) (omega (arith, long)) small.1 small'.1
    | inr more ↦ absurd (let no = sym (ap (λ o. ordering_then o (slice_cmp nat_cmp xs ys)) (nat_cmp-greater x y more)) ∙ is in cc)
  ]
]

eight-small : (n : ℕ) → AreSmall (eight n)
eight-small n = (omega arith, (omega arith, (omega arith, (omega arith, (omega arith, (omega arith, (omega arith, (omega arith, tt))))))))

be-eight : (n : ℕ) → n < 2 ^ 64 → be 0 (eight n) ≡ n
unfolding be
be-eight n fits = (let same : be 0 (eight n) ≡ from_be_bytes w64 (eight n) = omega arith in same) ∙ from_be_bytes-to_be_bytes_8 n fits

jobs-order : (a b : ℕ) → a < 2 ^ 64 → b < 2 ^ 64 → key_cmp (job_key a) (job_key b) ≡ Less → a < b
jobs-order a b fits_a fits_b is =
    let less = be-order 0 (eight a) (eight b) refl (eight-small a) (eight-small b) is in
    let one = be-eight a fits_a in
    let two = be-eight b fits_b in
    omega (arith, less, one, two)

key-itself : (key : List ℕ) → key_cmp key key ≡ Less → ⊥
key-itself [] is = cc
key-itself (x ∷ key) is = key-itself key (sym (ap (λ o. ordering_then o (key_cmp key key)) (nat_cmp-same x)) ∙ is)

-- ---- a key is that of a job, of a reply, or of neither
data Kind (key : List ℕ) : Type 0 where
  OfJob : (n : ℕ) → n < 2 ^ 64 → key ≡ job_key n → Kind key
  OfReply : (n : ℕ) → n < 2 ^ 64 → key ≡ reply_key n → Kind key
  OfNone : IsOther key → Kind key

read-number : (n : ℕ) → from_be_bytes w64 (eight n) < 2 ^ 64
read-number n = omega arith

number-fits : (tag n : ℕ) (key : List ℕ) → key ≡ tag ∷ eight (number_at key 1) → number_at key 1 < 2 ^ 64
number-fits tag n key is = subst (λ k. k < 2 ^ 64) (sym (ap (λ k. number_at k 1) is)) (read-number (number_at key 1))

not-key : (tag n : ℕ) (key : List ℕ) → n < 2 ^ 64 → bytes_eq key (tag ∷ eight (number_at key 1)) ≡ false → key ≡ tag ∷ eight n → ⊥
not-key tag n key fits other is =
    let number : number_at key 1 ≡ n = ap (λ k. number_at k 1) is ∙ from_be_bytes-to_be_bytes_8 n fits in
    let same : key ≡ tag ∷ eight (number_at key 1) = is ∙ ap (λ m. tag ∷ eight m) (sym number) in
    let yes = (bytes_eq-Decides key (tag ∷ eight (number_at key 1))).1 same in
    cc (yes, other)

kind-of : (key : List ℕ) → Kind key
kind-of key = by-job (bytes_eq key (job_key (number_at key 1))) refl where
  by-reply : bytes_eq key (job_key (number_at key 1)) ≡ false → (b : Bool) → bytes_eq key (reply_key (number_at key 1)) ≡ b → Kind key
  by-reply none true is = let same = (bytes_eq-Decides key (reply_key (number_at key 1))).0 is in OfReply (number_at key 1) (number-fits 114 0 key same) same
  by-reply none false is = OfNone (λ n fits. (not-key 106 n key fits none, not-key 114 n key fits is))

  by-job : (b : Bool) → bytes_eq key (job_key (number_at key 1)) ≡ b → Kind key
  by-job true is = let same = (bytes_eq-Decides key (job_key (number_at key 1))).0 is in OfJob (number_at key 1) (number-fits 106 0 key same) same
  by-job false is = by-reply is (bytes_eq key (reply_key (number_at key 1))) refl

-- ---- rows are read
abbrev own : Cells → Cells
own cells = record { tag = cells.tag; first = from_be_bytes w64 (eight cells.first); second = from_be_bytes w64 (eight cells.second); payload = cells.payload }

long-value : (cells : Cells) → cells_at (spelled cells) ≡ Some (own cells)
long-value cells = by (nat_lt (length (spelled cells)) 17) refl where
  by : (b : Bool) → nat_lt (length (spelled cells)) 17 ≡ b → cond b None (Some (own cells)) ≡ Some (own cells)
  by true less = absurd (let short = ltb-true (length (spelled cells)) 17 less in omega (arith, short))
  by false more = refl

state-read : (state : JobState) (payload : List ℕ) → (job : Job) × (option_and_then job_in (cells_at (job_value (record { state = state; payload = payload }))) ≡ Some job)
state-read Waiting payload = (record { state = Waiting; payload = payload }, ap (option_and_then job_in) (long-value (job_cells (record { state = Waiting; payload = payload }))))
state-read Done payload = (record { state = Done; payload = payload }, ap (option_and_then job_in) (long-value (job_cells (record { state = Done; payload = payload }))))
state-read (Claimed token until) payload = (_, ap (option_and_then job_in) (long-value (job_cells (record { state = Claimed token until; payload = payload }))))

stale-read : (token : ℕ) → plain_reply_in (record { tag = 5; first = 0; second = token; payload = [] }) ≡ Some (replies.Stale (Some token))
stale-read token = by (token == 0) where
  by : (b : Bool) → cond (b && false) (Some (replies.Enqueued 0)) (cond (b && false) (Some replies.Empty) (cond (b && false) (Some replies.Completed) (cond (b && false) (Some (replies.Stale None)) (Some (replies.Stale (Some token)))))) ≡ Some (replies.Stale (Some token))
  by true = refl
  by false = refl

reply-read : (reply : JobReply) → (r : JobReply) × (option_and_then reply_in (cells_at (reply_value reply)) ≡ Some r)
reply-read (replies.Enqueued job) = (_, ap (option_and_then reply_in) (long-value (reply_cells (replies.Enqueued job))))
reply-read (replies.Claimed job token payload) = (_, ap (option_and_then reply_in) (long-value (reply_cells (replies.Claimed job token payload))))
reply-read replies.Empty = (_, ap (option_and_then reply_in) (long-value (reply_cells replies.Empty)))
reply-read replies.Completed = (_, ap (option_and_then reply_in) (long-value (reply_cells replies.Completed)))
reply-read (replies.Stale None) = (_, ap (option_and_then reply_in) (long-value (reply_cells (replies.Stale None))))
reply-read (replies.Stale (Some token)) = (_, ap (option_and_then reply_in) (long-value (reply_cells (replies.Stale (Some token)))) ∙ stale-read (from_be_bytes w64 (eight token)))

module _ (mm : Machine) where
  -- the row of the next job
  job-row : (r : KeyValue) (n : ℕ) (job : Job) → n < 2 ^ 64 → r.key ≡ job_key n → r.value ≡ job_value job → n ≡ length mm.jobs → (j : Job) × (with_row mm r ≡ Some (record { jobs = mm.jobs ++ j ∷ []; replies = mm.replies }))
  job-row r n job fits key value next =
      let found = state-read job.state job.payload in
      let name : name_at r.key ≡ Some (names.OfJob n) = ap name_at key ∙ ap (λ k. Some (names.OfJob k)) (from_be_bytes-to_be_bytes_8 n fits) in (
        found.0,
        ap (option_and_then (with_cells mm (cells_at r.value))) name ∙ (ap (λ v. with_cells mm (cells_at v) (names.OfJob n)) value ∙ (by (cells_at (job_value job)) found.0 found.1
            ∙ ap (λ b. cond b (Some (record { jobs = mm.jobs ++ found.0 ∷ []; replies = mm.replies })) None) ((Decides-eqb n (length mm.jobs)).1 next))),
      ) where
        by : (cells : Option Cells) (j : Job) → option_and_then job_in cells ≡ Some j → with_cells mm cells (names.OfJob n) ≡ with_job mm n j
        by None j is = absurd (let no = is in cc)
        by (Some cells) j is = ap (option_and_then (with_job mm n)) is

  -- the row of a reply to a request that has none
  reply-row : (r : KeyValue) (n : ℕ) (reply : JobReply) → n < 2 ^ 64 → r.key ≡ reply_key n → r.value ≡ reply_value reply → kept_reply mm n ≡ None →
      (kept : JobReply) × (with_row mm r ≡ Some (record { jobs = mm.jobs; replies = insert_entry nat_cmp mm.replies n kept }))
  reply-row r n reply fits key value free =
      let found = reply-read reply in
      let name : name_at r.key ≡ Some (names.OfReply n) = ap name_at key ∙ ap (λ k. Some (names.OfReply k)) (from_be_bytes-to_be_bytes_8 n fits) in (
        found.0,
        ap (option_and_then (with_cells mm (cells_at r.value))) name ∙ (ap (λ v. with_cells mm (cells_at v) (names.OfReply n)) value ∙ (by (cells_at (reply_value reply)) found.0 found.1
            ∙ ap (λ x. cond (is_none x) (Some (record { jobs = mm.jobs; replies = insert_entry nat_cmp mm.replies n found.0 })) None) free)),
      ) where
        by : (cells : Option Cells) (kept : JobReply) → option_and_then reply_in cells ≡ Some kept → with_cells mm cells (names.OfReply n) ≡ with_reply mm n kept
        by None kept is = absurd (let no = is in cc)
        by (Some cells) kept is = ap (option_and_then (with_reply mm n)) is

-- ---- what a read of a key finds in batches that hold a machine
abbrev IsIn : List (List ℕ) → List ℕ → Type 0
IsIn [] key = ⊥
IsIn (x ∷ keys) key = (key ≡ x) ⊎ IsIn keys key

slice_there : {X : Type 0} (xs : List X) (n : ℕ) → n < length xs → (x : X) × (slice_get xs n ≡ Some x)
slice_there [] n less = absurd (omega (arith, less))
slice_there (x ∷ xs) zero less = (x, refl)
slice_there (x ∷ xs) (suc n) less = slice_there xs n (omega (arith, less))

-- what holds of each later key
later : (P : List ℕ → Type 0) (keys : List (List ℕ)) (key : List ℕ) → AllByRecursion P keys → IsIn keys key → P key
later P [] key all is = absurd is
later P (x ∷ keys) key all (inl same) = subst P (sym same) all.0
later P (x ∷ keys) key all (inr is) = later P keys key all.1 is

found-of : {X Y : Type 0} (f : X → Y) (found : Option X) (y : Y) → option_map f found ≡ Some y → (x : X) × (found ≡ Some x) × (f x ≡ y)
found-of f None y is = absurd (let no = is in cc)
found-of f (Some x) y is = (x, refl, cc)

module _ (bs : List Batch) (m : Machine) (holds : Holds bs m) where
  abbrev reads : List ℕ → Found
  reads key = read_at None bs None key

  value-ok : (key : List ℕ) → (x : Option (List ℕ)) × (value_at bs key ≡ Ok x)
  value-ok key = by (kind-of key) where
    by : Kind key → (x : Option (List ℕ)) × (value_at bs key ≡ Ok x)
    by (OfJob n fits is) = (_, ap (value_at bs) is ∙ holds.jobs n fits)
    by (OfReply n fits is) = (_, ap (value_at bs) is ∙ holds.replies n fits)
    by (OfNone other) = (_, holds.others key other)

  read-ok : (key : List ℕ) → (found : Option KeyValue) × (reads key ≡ Ok found)
  read-ok key = by (reads key) refl where
    by : (r : Found) → reads key ≡ r → (found : Option KeyValue) × (reads key ≡ Ok found)
    by (Ok found) is = (found, is)
    by (Err e) is = let ok = value-ok key in let no = sym (ap value_found is) ∙ ok.1 in absurd (cc)

  -- so no fault ends the rows
  no-fault-of : (keys : List (List ℕ)) → (rows_of reads keys).fault ≡ None
  no-fault-of [] = refl
  no-fault-of (key ∷ keys) = by (read-ok key).0 (read-ok key).1 (no-fault-of keys) where
    by : (found : Option KeyValue) → reads key ≡ Ok found → (rows_of reads keys).fault ≡ None → (with_found (reads key) (rows_of reads keys)).fault ≡ None
    by None is rest = ap (λ f. (with_found f (rows_of reads keys)).fault) is ∙ rest
    by (Some row) is rest = ap (λ f. (with_found f (rows_of reads keys)).fault) is ∙ rest

  -- ---- the rows of keys in order go on from a machine
  -- its jobs and replies have keys before these, and the jobs of the other that it lacks have theirs among them
  record IsBehind (mm : Machine) (keys : List (List ℕ)) : Type 0 where
    fits : (n : ℕ) → n < length mm.jobs → n < 2 ^ 64
    jobs : (n : ℕ) → n < length mm.jobs → AllByRecursion (λ k. key_cmp (job_key n) k ≡ Less) keys
    replies : (n : ℕ) (reply : JobReply) → kept_reply mm n ≡ Some reply → AllByRecursion (λ k. key_cmp (reply_key n) k ≡ Less) keys
    covers : (n : ℕ) → n < 2 ^ 64 → n < length m.jobs → (n < length mm.jobs) ⊎ IsIn keys (job_key n)

  abbrev GoesOn : Machine → List (List ℕ) → Type 0
  GoesOn mm keys = (m' : Machine) × (with_rows mm (rows_of reads keys).rows ≡ Some m')

  module _ (mm : Machine) (key : List ℕ) (keys : List (List ℕ)) (sorted : AllByRecursion (λ k. key_cmp key k ≡ Less) keys) (behind : IsBehind mm (key ∷ keys)) where
    -- a key without a row
    skips : reads key ≡ Ok None → IsBehind mm keys
    skips none = record {
      fits = behind.fits;
      jobs = λ n less. (behind.jobs n less).1;
      replies = λ n reply is. (behind.replies n reply is).1;
      covers = λ n fits less. elim (behind.covers n fits less) [
        | inl before ↦ inl before
        | inr there ↦ elim there [
          | inl same ↦ absurd (let value : value_at bs (job_key n) ≡ Ok None = ap (value_at bs) same ∙ ap value_found none in
              let some = slice_there m.jobs n less in
              let held : value_at bs (job_key n) ≡ Ok (Some (job_value some.0)) = holds.jobs n fits ∙ ap (λ j. Ok (option_map job_value j)) some.1 in
              let no = sym value ∙ held in cc)
          | inr more ↦ inr more
        ]
      ];
    }

    -- that of the next job
    module _ (n : ℕ) (fits : n < 2 ^ 64) (is : key ≡ job_key n) where
      next-job : n < length m.jobs → n ≡ length mm.jobs
      next-job less = elim (cases_order n (length mm.jobs)) [
        | inl same ↦ same
        | inr unlike ↦ elim unlike [
          | inl before ↦ absurd (key-itself (job_key n) (subst (λ k. key_cmp (job_key n) k ≡ Less) is (behind.jobs n before).0))
          | inr more ↦ absurd (gap (behind.covers (length mm.jobs) (omega (arith, more, fits)) (omega (arith, more, less))) more)
        ]
      ] where
        gap : (length mm.jobs < length mm.jobs) ⊎ IsIn (key ∷ keys) (job_key (length mm.jobs)) → length mm.jobs < n → ⊥
        gap (inl itself) more = omega (arith, itself)
        gap (inr (inl same)) more = let equal = jobs-same (length mm.jobs) n (omega (arith, more, fits)) fits (same ∙ is) in omega (arith, equal, more)
        gap (inr (inr there)) more =
            let order = later (λ k. key_cmp key k ≡ Less) keys (job_key (length mm.jobs)) sorted there in
            let less = jobs-order n (length mm.jobs) fits (omega (arith, more, fits)) (subst (λ k. key_cmp k (job_key (length mm.jobs)) ≡ Less) is order) in
            omega (arith, less, more)

      takes-job : n ≡ length mm.jobs → (j : Job) → IsBehind (record { jobs = mm.jobs ++ j ∷ []; replies = mm.replies }) keys
      takes-job next j =
          let count = length-append mm.jobs (j ∷ []) in
          record {
            fits = λ k less. elim (same_or_not k n) [
              | inl same ↦ omega (arith, same, fits)
              | inr other ↦ behind.fits k (omega (arith, count, less, other, next))
            ];
            jobs = λ k less. elim (same_or_not k n) [
              | inl same ↦ subst (λ q. AllByRecursion (λ x. key_cmp q x ≡ Less) keys) (is ∙ ap job_key (sym same)) sorted
              | inr other ↦ (behind.jobs k (omega (arith, count, less, other, next))).1
            ];
            replies = λ k reply at. (behind.replies k reply at).1;
            covers = λ k small less. elim (behind.covers k small less) [
              | inl before ↦ inl (omega (arith, before, count))
              | inr there ↦ elim there [
                | inl same ↦ inl (let equal = jobs-same k n small fits (same ∙ is) in omega (arith, equal, next, count))
                | inr more ↦ inr more
              ]
            ];
          }

    -- that of a reply
    module _ (n : ℕ) (fits : n < 2 ^ 64) (is : key ≡ reply_key n) where
      next-reply : kept_reply mm n ≡ None
      next-reply = by (kept_reply mm n) refl where
        by : (found : Option JobReply) → kept_reply mm n ≡ found → kept_reply mm n ≡ None
        by None at = at
        by (Some reply) at = absurd (key-itself (reply_key n) (subst (λ k. key_cmp (reply_key n) k ≡ Less) is (behind.replies n reply at).0))

      takes-reply : (kept : JobReply) → IsBehind (record { jobs = mm.jobs; replies = insert_entry nat_cmp mm.replies n kept }) keys
      takes-reply kept = record {
        fits = behind.fits;
        jobs = λ k less. (behind.jobs k less).1;
        replies = λ k reply at. elim (same_or_not k n) [
          | inl same ↦ subst (λ q. AllByRecursion (λ x. key_cmp q x ≡ Less) keys) (is ∙ ap reply_key (sym same)) sorted
          | inr other ↦ (behind.replies k reply (sym (entry-other n kept k other mm.replies) ∙ at)).1
        ];
        covers = λ k small less. elim (behind.covers k small less) [
          | inl before ↦ inl before
          | inr there ↦ elim there [
            | inl same ↦ absurd (kinds-differ k n (same ∙ is))
            | inr more ↦ inr more
          ]
        ];
      }

  goes-on : (keys : List (List ℕ)) (mm : Machine) → IsStrictlySortedBy key_cmp keys → IsBehind mm keys → GoesOn mm keys
  unfolding IsStrictlySortedBy
  goes-on [] mm sorted behind = (mm, refl)
  goes-on (key ∷ keys) mm sorted behind = by (read-ok key).0 (read-ok key).1 (λ next. goes-on keys next sorted.1) where
    rows-are : (row : KeyValue) → reads key ≡ Ok (Some row) → (rows_of reads (key ∷ keys)).rows ≡ row ∷ (rows_of reads keys).rows
    rows-are row is = ap (λ f. (with_found f (rows_of reads keys)).rows) is

    then-on : (row : KeyValue) → reads key ≡ Ok (Some row) → (next : Machine) → with_row mm row ≡ Some next → GoesOn next keys → GoesOn mm (key ∷ keys)
    then-on row is next with-row on =
        (on.0, ap (with_rows mm) (rows-are row is) ∙ (ap (option_and_then (λ x. with_rows x (rows_of reads keys).rows)) with-row ∙ on.1))

    row-of : (row : KeyValue) → reads key ≡ Ok (Some row) → Kind key → ((next : Machine) → IsBehind next keys → GoesOn next keys) → GoesOn mm (key ∷ keys)
    row-of row is (OfJob n fits at) rest =
        let its : row.key ≡ key = subst (IsKeyed key) is (keyed-read bs key) in
        let value : value_at bs key ≡ Ok (Some row.value) = ap value_found is in
        let found = found-of job_value (slice_get m.jobs n) row.value (let both = sym (ap (value_at bs) at ∙ holds.jobs n fits) ∙ value in cc) in
        let next = next-job mm key keys sorted.0 behind n fits at (slice_get_within m.jobs n found.0 found.1) in
        let taken = job-row mm row n found.0 fits (its ∙ at) (sym found.2) next in
        then-on row is _ taken.1 (rest _ (takes-job mm key keys sorted.0 behind n fits at next taken.0))
    row-of row is (OfReply n fits at) rest =
        let its : row.key ≡ key = subst (IsKeyed key) is (keyed-read bs key) in
        let value : value_at bs key ≡ Ok (Some row.value) = ap value_found is in
        let found = found-of reply_value (kept_reply m n) row.value (let both = sym (ap (value_at bs) at ∙ holds.replies n fits) ∙ value in cc) in
        let taken = reply-row mm row n found.0 fits (its ∙ at) (sym found.2) (next-reply mm key keys sorted.0 behind n fits at) in
        then-on row is _ taken.1 (rest _ (takes-reply mm key keys sorted.0 behind n fits at taken.0))
    row-of row is (OfNone other) rest =
        let value : value_at bs key ≡ Ok (Some row.value) = ap value_found is in
        absurd (let no = sym (holds.others key other) ∙ value in cc)

    by : (found : Option KeyValue) → reads key ≡ Ok found → ((next : Machine) → IsBehind next keys → GoesOn next keys) → GoesOn mm (key ∷ keys)
    by None is rest =
        let on = rest mm (skips mm key keys sorted.0 behind is) in
        (on.0, ap (λ f. with_rows mm (with_found f (rows_of reads keys)).rows) is ∙ on.1)
    by (Some row) is rest = row-of row is (kind-of key) rest

  -- ---- what is stored isn't foreign
  pub never-foreign : AreForeign bs → ⊥
  never-foreign foreign = elim foreign.why [
    | inl faulty ↦ faulty (sym (ap (λ (all : Rows). all.fault) scan.taken) ∙ no-fault-of scan.keys)
    | inr none ↦
        let on = goes-on scan.keys empty scan.in_order begin in
        let read : machine_at foreign.rows ≡ Some on.0 = ap (λ (all : Rows). with_rows empty all.rows) (sym scan.taken) ∙ on.1 in
        absurd (let no = sym none ∙ read in cc)
  ] where
    scan : AreRows bs foreign.rows foreign.fault
    scan = foreign.are

    some-history : (n : ℕ) → n < 2 ^ 64 → (job : Job) → slice_get m.jobs n ≡ Some job → history bs None (job_key n) ≡ [] → ⊥
    some-history n fits job at none =
        let value : value_at bs (job_key n) ≡ Ok None = ap (λ h. value_found (fold_versions None (job_key n) None (since_base h))) none in
        let held : value_at bs (job_key n) ≡ Ok (Some (job_value job)) = holds.jobs n fits ∙ ap (λ j. Ok (option_map job_value j)) at in
        let no = sym value ∙ held in
        cc

    is-in : (keys : List (List ℕ)) (key : List ℕ) (k : ℕ) → k < length keys → get_or keys k key ≡ key → IsIn keys key
    is-in [] key k less is = absurd (omega (arith, less))
    is-in (x ∷ keys) key zero less is = inl (sym is)
    is-in (x ∷ keys) key (suc k) less is = inr (is-in keys key k (omega (arith, less)) is)

    begin : IsBehind empty scan.keys
    begin = record {
      fits = λ n less. absurd (omega (arith, less));
      jobs = λ n less. absurd (omega (arith, less));
      replies = λ n reply is. absurd (let no = is in cc);
      covers = λ n fits less.
          let job = slice_there m.jobs n less in
          let there = (scan.whole (job_key n)).1 (refl, some-history n fits job.0 job.1) in
          inr (is-in scan.keys (job_key n) there.0 there.1 there.2);
    }
