-- Batches whose rows are read as a machine hold it.
use Rattle.std.proofs.Common.{◌≡◌, ℕ, zero, suc, ◌<◌, ◌^◌, ◌⊎◌, inl, inr, ◌==◌, List, [], ◌∷◌, ◌++◌, length, get_or, Option, Some, None, Result, Ok, Err, Bool, true, false, cond, refl, sym, subst, ap, ◌∙◌, arith}
use Rattle.std.specs.Prelude.{slice_get}
use Rattle.std.specs.Option.{IfSome, is_none, option_and_then, option_map}
use Rattle.std.specs.Result.{IfOk}
use Rattle.std.specs.BTreeMap.{insert_entry}
use Rattle.std.specs.Ordering.{nat_cmp}
use Rattle.std.proofs.lemmas.Bool.{cases_order}
use Rattle.std.proofs.lemmas.Bool.Decides.{Decides-eqb}
use Rattle.std.proofs.lemmas.Option.{slice_get_within}
use Rattle.slate_types.specs.declared.batches.Batch.{Batch}
use Rattle.slate_types.specs.declared.batches.KeyValue.{KeyValue}
use Rattle.slate_types.specs.declared.batches.Op.{Op}
use Rattle.slate_types.specs.declared.batches.Op.TheVariants as ops
use Rattle.slate_types.specs.declared.read_faults.ReadFault.{ReadFault}
use Rattle.slate_reads.specs.Read.{Version, and_then, fold_versions, history, read_at, row, row_after, since_base}
use Rattle.slate_rows.specs.Scan.{Rows, rows_of, with_found}
use Rattle.slate_store.specs.Objects.{entry_at}
use Rattle.slate_jobs.specs.declared.jobs.Job.{Job}
use Rattle.slate_jobs.specs.declared.jobs.JobReply.{JobReply}
use Rattle.slate_jobs.specs.declared.rows.Cells.{Cells}
use Rattle.slate_jobs.specs.declared.rows.RowName.{RowName}
use Rattle.slate_jobs.specs.declared.rows.RowName.TheVariants as names
use Rattle.slate_jobs.specs.Decoding.{AreOfBytes, AreRows, IsOfBytes, cells_at, job_in, machine_at, name_at, reply_in, with_cells, with_job, with_reply, with_row, with_rows}
use Rattle.slate_jobs.specs.Machine.{Machine, empty, kept_reply}
use Rattle.slate_jobs.specs.Rows.{Holds, job_key, job_value, reply_key, reply_value, spelled, value_at, value_found}
use Rattle.slate_jobs.proofs.Bytes.{job-spelled, key-of_job, key-of_reply, none-some, reply-spelled, some-same, value-of_cells}
use Rattle.slate_jobs.proofs.Entries.{entry-other, entry-put}
use Rattle.slate_jobs.proofs.Keys.{jobs-same, kinds-differ, replies-same}
use Rattle.slate_jobs.proofs.Slots.{added-last, added-other}

abbrev pub Found : Type 0
Found = Result (Option KeyValue) ReadFault

-- a read gives a row under its key
abbrev pub IsKeyed : List ℕ → Found → Type 0
IsKeyed key found = IfOk found (λ x. IfSome x (λ r. r.key ≡ key))

keyed : (key : List ℕ) (before : Option KeyValue) (vs : List Version) → IfSome before (λ r. r.key ≡ key) → IsKeyed key (fold_versions None key before vs)
keyed key before [] h = h
keyed key before (v ∷ vs) h = by (λ after. keyed key after vs) v.op where
  by : ((after : Option KeyValue) → IfSome after (λ r. r.key ≡ key) → IsKeyed key (fold_versions None key after vs)) → (op : Op) → IsKeyed key (and_then (row_after None key before v op) (λ after. fold_versions None key after vs))
  by rest (ops.Put value expire) = rest (Some (row key v expire value)) refl
  by rest ops.Delete = rest None tt
  by rest (ops.Merge operand expire) = tt

-- so is what a read finds
pub keyed-read : (bs : List Batch) (key : List ℕ) → IsKeyed key (read_at None bs None key)
keyed-read bs key = keyed key None (since_base (history bs None key)) tt

-- ---- rows and keys by their places
abbrev Among : List KeyValue → KeyValue → Type 0
Among [] r = ⊥
Among (x ∷ rows) r = (r ≡ x) ⊎ Among rows r

abbrev AmongKeys : List (List ℕ) → List ℕ → Type 0
AmongKeys [] key = ⊥
AmongKeys (x ∷ keys) key = (key ≡ x) ⊎ AmongKeys keys key

among-at : (keys : List (List ℕ)) (key : List ℕ) (k : ℕ) → k < length keys → get_or keys k key ≡ key → AmongKeys keys key
among-at [] key k less is = absurd (omega (arith, less))
among-at (x ∷ keys) key zero less is = inl (sym is)
among-at (x ∷ keys) key (suc k) less is = inr (among-at keys key k (omega (arith, less)) is)

module _ (read : List ℕ → Found) (its : (key : List ℕ) → IsKeyed key (read key)) where
  abbrev AreRead : List (List ℕ) → List KeyValue → Type 0
  AreRead keys rows = rows_of read keys ≡ record { rows = rows; fault = None }

  no-fault : (keys : List (List ℕ)) (rows : List KeyValue) → AreRead keys rows → AreRead keys (rows_of read keys).rows
  no-fault keys rows is = ap (λ fault. record { rows = (rows_of read keys).rows; fault = fault }) (ap (λ (all : Rows). all.fault) is)

  -- each row is that of its key
  row-read : (keys : List (List ℕ)) (rows : List KeyValue) → AreRead keys rows → (r : KeyValue) → Among rows r → read r.key ≡ Ok (Some r)
  row-read [] rows is r among = absurd (subst (λ rs. Among rs r) (sym (ap (λ (all : Rows). all.rows) is)) among)
  row-read (key ∷ keys) rows is r among = by (row-read keys) (read key) refl is where
    by : ((rs : List KeyValue) → AreRead keys rs → (x : KeyValue) → Among rs x → read x.key ≡ Ok (Some x)) → (f : Found) → read key ≡ f → with_found f (rows_of read keys) ≡ record { rows = rows; fault = None } → read r.key ≡ Ok (Some r)
    by rest (Ok None) at is = rest rows is r among
    by rest (Ok (Some x)) at is =
        let split : (r ≡ x) ⊎ Among (rows_of read keys).rows r = subst (λ rs. Among rs r) (sym (ap (λ (all : Rows). all.rows) is)) among in
        let clear : (rows_of read keys).fault ≡ None = ap (λ (all : Rows). all.fault) is in
        elim split [
          | inl same ↦
              let own : x.key ≡ key = subst (IsKeyed key) at (its key) in
              ap read (ap (λ (y : KeyValue). y.key) same ∙ own) ∙ (at ∙ ap (λ y. Ok (Some y)) (sym same))
          | inr later ↦ rest (rows_of read keys).rows (ap (λ fault. record { rows = (rows_of read keys).rows; fault = fault }) clear) r later
        ]
    by rest (Err e) at is = absurd (none-some e (sym (ap (λ (all : Rows). all.fault) is)))

  -- and a key without a row is read as none
  none-read : (keys : List (List ℕ)) (rows : List KeyValue) → AreRead keys rows → (key : List ℕ) → AmongKeys keys key → ((r : KeyValue) → Among rows r → r.key ≡ key → ⊥) → read key ≡ Ok None
  none-read [] rows is key among lacks = absurd among
  none-read (k ∷ keys) rows is key among lacks = by (none-read keys) (read k) refl is where
    by : ((rs : List KeyValue) → AreRead keys rs → (q : List ℕ) → AmongKeys keys q → ((r : KeyValue) → Among rs r → r.key ≡ q → ⊥) → read q ≡ Ok None) →
        (f : Found) → read k ≡ f → with_found f (rows_of read keys) ≡ record { rows = rows; fault = None } → read key ≡ Ok None
    by rest (Ok None) at is = elim among [
      | inl same ↦ ap read same ∙ at
      | inr later ↦ rest rows is key later lacks
    ]
    by rest (Ok (Some x)) at is =
        let all : x ∷ (rows_of read keys).rows ≡ rows = ap (λ (all : Rows). all.rows) is in
        let clear : (rows_of read keys).fault ≡ None = ap (λ (all : Rows). all.fault) is in
        elim among [
          | inl same ↦
              let own : x.key ≡ k = subst (IsKeyed k) at (its k) in
              absurd (lacks x (subst (λ rs. Among rs x) all (inl refl)) (own ∙ sym same))
          | inr later ↦ rest (rows_of read keys).rows (ap (λ fault. record { rows = (rows_of read keys).rows; fault = fault }) clear) key later (λ r there. lacks r (subst (λ rs. Among rs r) all (inr there)))
        ]
    by rest (Err e) at is = absurd (none-some e (sym (ap (λ (all : Rows). all.fault) is)))

-- ---- what the rows of all keys say of the values
module _ (bs : List Batch) (rows : List KeyValue) (scan : AreRows bs rows None) where
  abbrev reads : List ℕ → Found
  reads key = read_at None bs None key

  reads-keyed : (key : List ℕ) → IsKeyed key (reads key)
  reads-keyed key = keyed-read bs key

  value-found : (r : KeyValue) → Among rows r → value_at bs r.key ≡ Ok (Some r.value)
  value-found r among = ap value_found (row-read reads reads-keyed scan.keys rows scan.taken r among)

  value-none : (key : List ℕ) → ((r : KeyValue) → Among rows r → r.key ≡ key → ⊥) → value_at bs key ≡ Ok None
  value-none key lacks = by (history bs None key) refl where
    by : (vs : List Version) → history bs None key ≡ vs → value_at bs key ≡ Ok None
    by [] is = ap (λ h. value_found (fold_versions None key None (since_base h))) is
    by (v ∷ vs) is =
        let there = (scan.whole key).1 (refl, λ none. absurd (let both = sym none ∙ is in cc)) in
        ap value_found (none-read reads reads-keyed scan.keys rows scan.taken key (among-at scan.keys key there.0 there.1 there.2) lacks)

-- ---- what reading one row adds
-- the row of the next job
record AddsJob (m : Machine) (r : KeyValue) (m' : Machine) : Type 0 where
  job : Job
  key : r.key ≡ job_key (length m.jobs)
  fits : length m.jobs < 2 ^ 64
  value : r.value ≡ job_value job
  is : m' ≡ record { jobs = m.jobs ++ job ∷ []; replies = m.replies }

-- the row of a reply
record AddsReply (m : Machine) (r : KeyValue) (m' : Machine) : Type 0 where
  request : ℕ
  reply : JobReply
  key : r.key ≡ reply_key request
  fits : request < 2 ^ 64
  value : r.value ≡ reply_value reply
  free : kept_reply m request ≡ None
  is : m' ≡ record { jobs = m.jobs; replies = insert_entry nat_cmp m.replies request reply }

abbrev Adds : Machine → KeyValue → Machine → Type 0
Adds m r m' = AddsJob m r m' ⊎ AddsReply m r m'

free-reply : (found : Option JobReply) → is_none found ≡ true → found ≡ None
free-reply None is = refl
free-reply (Some reply) is = absurd (let no = is in cc)

-- what a condition that gives something says
when-some : {X : Type 0} (b : Bool) (x y : X) → cond b (Some x) None ≡ Some y → (b ≡ true) × (x ≡ y)
when-some true x y is = (refl, some-same x y is)
when-some false x y is = absurd (none-some y is)

module _ (m : Machine) (r : KeyValue) (m' : Machine) (bytes : IsOfBytes r) where
  job-adds : (n : ℕ) (cells : Cells) (found : Option Job) → name_at r.key ≡ Some (names.OfJob n) → cells_at r.value ≡ Some cells → job_in cells ≡ found → option_and_then (with_job m n) found ≡ Some m' → Adds m r m'
  job-adds n cells None named celled at is = absurd (none-some m' is)
  job-adds n cells (Some job) named celled at is =
      let next = when-some (n == length m.jobs) _ m' is in
      let same = (Decides-eqb n (length m.jobs)).0 next.0 in
      let key = key-of_job r.key n bytes.0 named in
      let value = value-of_cells r.value cells bytes.1 celled in
      inl (record {
        job = job;
        key = key.0 ∙ ap job_key same;
        fits = subst (λ k. k < 2 ^ 64) same key.1;
        value = value.is ∙ sym (ap spelled (job-spelled cells job value.second_fits at));
        is = sym next.1;
      })

  reply-adds : (n : ℕ) (cells : Cells) (found : Option JobReply) → name_at r.key ≡ Some (names.OfReply n) → cells_at r.value ≡ Some cells → reply_in cells ≡ found → option_and_then (with_reply m n) found ≡ Some m' → Adds m r m'
  reply-adds n cells None named celled at is = absurd (none-some m' is)
  reply-adds n cells (Some reply) named celled at is =
      let next = when-some (is_none (kept_reply m n)) _ m' is in
      let key = key-of_reply r.key n bytes.0 named in
      let value = value-of_cells r.value cells bytes.1 celled in
      inr (record {
        request = n;
        reply = reply;
        key = key.0;
        fits = key.1;
        value = value.is ∙ sym (ap spelled (reply-spelled cells reply at));
        free = free-reply (kept_reply m n) next.0;
        is = sym next.1;
      })

  row-adds : with_row m r ≡ Some m' → Adds m r m'
  row-adds is = by-name (name_at r.key) refl is where
    by-cells : (name : RowName) → name_at r.key ≡ Some name → (cells : Option Cells) → cells_at r.value ≡ cells → with_cells m cells name ≡ Some m' → Adds m r m'
    by-cells name named None celled is = absurd (none-some m' is)
    by-cells (names.OfJob n) named (Some cells) celled is = job-adds n cells (job_in cells) named celled refl is
    by-cells (names.OfReply n) named (Some cells) celled is = reply-adds n cells (reply_in cells) named celled refl is

    by-name : (name : Option RowName) → name_at r.key ≡ name → option_and_then (with_cells m (cells_at r.value)) name ≡ Some m' → Adds m r m'
    by-name None named is = absurd (none-some m' is)
    by-name (Some name) named is = by-cells name named (cells_at r.value) refl is

-- ---- what reading rows gives
-- a row is of a job or a reply of a machine
record IsJobOf (m : Machine) (r : KeyValue) : Type 0 where
  number : ℕ
  job : Job
  fits : number < 2 ^ 64
  key : r.key ≡ job_key number
  value : r.value ≡ job_value job
  there : slice_get m.jobs number ≡ Some job

record IsReplyOf (m : Machine) (r : KeyValue) : Type 0 where
  request : ℕ
  reply : JobReply
  fits : request < 2 ^ 64
  key : r.key ≡ reply_key request
  value : r.value ≡ reply_value reply
  there : kept_reply m request ≡ Some reply

-- what machine m' has more than m are these rows
record Grows (m m' : Machine) (rows : List KeyValue) : Type 0 where
  jobs : (n : ℕ) (job : Job) → slice_get m.jobs n ≡ Some job → slice_get m'.jobs n ≡ Some job
  replies : (n : ℕ) (reply : JobReply) → kept_reply m n ≡ Some reply → kept_reply m' n ≡ Some reply
  rows_are : (r : KeyValue) → Among rows r → IsJobOf m' r ⊎ IsReplyOf m' r
  jobs_are : (n : ℕ) (job : Job) → slice_get m'.jobs n ≡ Some job → (slice_get m.jobs n ≡ Some job) ⊎ ((r : KeyValue) × Among rows r × (r.key ≡ job_key n))
  replies_are : (n : ℕ) (reply : JobReply) → kept_reply m' n ≡ Some reply → (kept_reply m n ≡ Some reply) ⊎ ((r : KeyValue) × Among rows r × (r.key ≡ reply_key n))

same_or_not : (a b : ℕ) → (a ≡ b) ⊎ (a ≡ b → ⊥)
same_or_not a b = elim (cases_order a b) [
  | inl same ↦ inl same
  | inr unlike ↦ elim unlike [
    | inl less ↦ inr (λ same. omega (arith, less, same))
    | inr more ↦ inr (λ same. omega (arith, more, same))
  ]
]

-- one row
module _ (m : Machine) (r : KeyValue) where
  job-grows : (m' : Machine) → AddsJob m r m' → Grows m m' (r ∷ [])
  job-grows m' a = subst (λ m1. Grows m m1 (r ∷ [])) (sym a.is) (record {
    jobs = λ n job at. added-other m.jobs a.job n (λ same. let within = slice_get_within m.jobs n job at in omega (arith, within, same)) ∙ at;
    replies = λ n reply at. at;
    rows_are = λ x among. elim among [
      | inl same ↦ inl (record {
        number = length m.jobs;
        job = a.job;
        fits = a.fits;
        key = ap (λ (y : KeyValue). y.key) same ∙ a.key;
        value = ap (λ (y : KeyValue). y.value) same ∙ a.value;
        there = added-last m.jobs a.job;
      })
      | inr none ↦ absurd none
    ];
    jobs_are = λ n job at. elim (same_or_not n (length m.jobs)) [
      | inl same ↦ inr (r, inl refl, a.key ∙ ap job_key (sym same))
      | inr differ ↦ inl (sym (added-other m.jobs a.job n differ) ∙ at)
    ];
    replies_are = λ n reply at. inl at;
  })

  reply-grows : (m' : Machine) → AddsReply m r m' → Grows m m' (r ∷ [])
  reply-grows m' a = subst (λ m1. Grows m m1 (r ∷ [])) (sym a.is) (record {
    jobs = λ n job at. at;
    replies = λ n reply at. entry-other a.request a.reply n (λ same. none-some reply (sym a.free ∙ (ap (λ k. entry_at k m.replies) (sym same) ∙ at))) m.replies ∙ at;
    rows_are = λ x among. elim among [
      | inl same ↦ inr (record {
        request = a.request;
        reply = a.reply;
        fits = a.fits;
        key = ap (λ (y : KeyValue). y.key) same ∙ a.key;
        value = ap (λ (y : KeyValue). y.value) same ∙ a.value;
        there = entry-put a.request a.reply m.replies;
      })
      | inr none ↦ absurd none
    ];
    jobs_are = λ n job at. inl at;
    replies_are = λ n reply at. elim (same_or_not n a.request) [
      | inl same ↦ inr (r, inl refl, a.key ∙ ap reply_key (sym same))
      | inr differ ↦ inl (sym (entry-other a.request a.reply n differ m.replies) ∙ at)
    ];
  })

  row-grows : (m' : Machine) → Adds m r m' → Grows m m' (r ∷ [])
  row-grows m' (inl a) = job-grows m' a
  row-grows m' (inr a) = reply-grows m' a

-- and then others
grows-then : (m m1 m2 : Machine) (r : KeyValue) (rows : List KeyValue) → Grows m m1 (r ∷ []) → Grows m1 m2 rows → Grows m m2 (r ∷ rows)
grows-then m m1 m2 r rows one others = record {
  jobs = λ n job at. others.jobs n job (one.jobs n job at);
  replies = λ n reply at. others.replies n reply (one.replies n reply at);
  rows_are = λ x among. elim among [
    | inl same ↦ elim (one.rows_are x (inl same)) [
      | inl j ↦ inl (record { number = j.number; job = j.job; fits = j.fits; key = j.key; value = j.value; there = others.jobs j.number j.job j.there })
      | inr k ↦ inr (record { request = k.request; reply = k.reply; fits = k.fits; key = k.key; value = k.value; there = others.replies k.request k.reply k.there })
    ]
    | inr later ↦ others.rows_are x later
  ];
  jobs_are = λ n job at. elim (others.jobs_are n job at) [
    | inl before ↦ elim (one.jobs_are n job before) [
      | inl old ↦ inl old
      | inr new ↦ inr (r, inl refl, elim new.1 [ inl same ↦ ap (λ (y : KeyValue). y.key) (sym same) ∙ new.2 | inr none ↦ absurd none ])
    ]
    | inr later ↦ inr (later.0, inr later.1, later.2)
  ];
  replies_are = λ n reply at. elim (others.replies_are n reply at) [
    | inl before ↦ elim (one.replies_are n reply before) [
      | inl old ↦ inl old
      | inr new ↦ inr (r, inl refl, elim new.1 [ inl same ↦ ap (λ (y : KeyValue). y.key) (sym same) ∙ new.2 | inr none ↦ absurd none ])
    ]
    | inr later ↦ inr (later.0, inr later.1, later.2)
  ];
}

rows-grow : (m m' : Machine) (rows : List KeyValue) → AreOfBytes rows → with_rows m rows ≡ Some m' → Grows m m' rows
rows-grow m m' [] bytes is = subst (λ m1. Grows m m1 []) (some-same m m' is) (record {
  jobs = λ n job at. at;
  replies = λ n reply at. at;
  rows_are = λ r among. absurd among;
  jobs_are = λ n job at. inl at;
  replies_are = λ n reply at. inl at;
})
rows-grow m m' (r ∷ rows) bytes is = by (λ next. rows-grow next m' rows bytes.1) (with_row m r) refl is where
  by : ((next : Machine) → with_rows next rows ≡ Some m' → Grows next m' rows) → (found : Option Machine) → with_row m r ≡ found → option_and_then (λ next. with_rows next rows) found ≡ Some m' → Grows m m' (r ∷ rows)
  by rest None at is = absurd (none-some m' is)
  by rest (Some next) at is = grows-then m next m' r rows (row-grows m r next (row-adds m r next bytes.0 at)) (rest next is)

-- ---- batches hold the machine that their rows are read as
module _ (bs : List Batch) (rows : List KeyValue) (m : Machine) (scan : AreRows bs rows None) (bytes : AreOfBytes rows) (read : machine_at rows ≡ Some m) where
  all : Grows empty m rows
  all = rows-grow empty m rows bytes read

  job-value : (n : ℕ) → n < 2 ^ 64 → (found : Option Job) → slice_get m.jobs n ≡ found → value_at bs (job_key n) ≡ Ok (option_map job_value found)
  job-value n small (Some job) at = elim (all.jobs_are n job at) [
    | inl before ↦ absurd (none-some job before)
    | inr there ↦
        let value = ap (value_at bs) (sym there.2) ∙ value-found bs rows scan there.0 there.1 in
        elim (all.rows_are there.0 there.1) [
          | inl j ↦
              let same = jobs-same j.number n j.fits small (sym j.key ∙ there.2) in
              let its = some-same j.job job (sym j.there ∙ (ap (slice_get m.jobs) same ∙ at)) in
              value ∙ ap (λ v. Ok (Some v)) (j.value ∙ ap job_value its)
          | inr k ↦ absurd (kinds-differ n k.request (sym there.2 ∙ k.key))
        ]
  ]
  job-value n small None at = value-none bs rows scan (job_key n) (λ r among same. elim (all.rows_are r among) [
    | inl j ↦ none-some j.job (sym at ∙ (ap (slice_get m.jobs) (sym (jobs-same j.number n j.fits small (sym j.key ∙ same))) ∙ j.there))
    | inr k ↦ kinds-differ n k.request (sym same ∙ k.key)
  ])

  reply-value : (n : ℕ) → n < 2 ^ 64 → (found : Option JobReply) → kept_reply m n ≡ found → value_at bs (reply_key n) ≡ Ok (option_map reply_value found)
  reply-value n small (Some reply) at = elim (all.replies_are n reply at) [
    | inl before ↦ absurd (none-some reply before)
    | inr there ↦
        let value = ap (value_at bs) (sym there.2) ∙ value-found bs rows scan there.0 there.1 in
        elim (all.rows_are there.0 there.1) [
          | inl j ↦ absurd (kinds-differ j.number n (sym j.key ∙ there.2))
          | inr k ↦
              let same = replies-same k.request n k.fits small (sym k.key ∙ there.2) in
              let its = some-same k.reply reply (sym k.there ∙ (ap (kept_reply m) same ∙ at)) in
              value ∙ ap (λ v. Ok (Some v)) (k.value ∙ ap reply_value its)
        ]
  ]
  reply-value n small None at = value-none bs rows scan (reply_key n) (λ r among same. elim (all.rows_are r among) [
    | inl j ↦ kinds-differ j.number n (sym j.key ∙ same)
    | inr k ↦ none-some k.reply (sym at ∙ (ap (kept_reply m) (sym (replies-same k.request n k.fits small (sym k.key ∙ same))) ∙ k.there))
  ])

  pub decoded-holds : Holds bs m
  decoded-holds = record {
    jobs = λ n small. job-value n small (slice_get m.jobs n) refl;
    replies = λ n small. reply-value n small (kept_reply m n) refl;
    others = λ key other. value-none bs rows scan key (λ r among same. elim (all.rows_are r among) [
      | inl j ↦ (other j.number j.fits).0 (sym same ∙ j.key)
      | inr k ↦ (other k.request k.fits).1 (sym same ∙ k.key)
    ]);
  }
