-- What an opening leaves of an honest store, and what its handle reads.
use Rattle.std.proofs.Common.{◌≡◌, ℕ, zero, suc, ◌≤◌, ◌⊎◌, inl, inr, List, [], ◌∷◌, ◌++◌, length, Option, Some, None, Result, Ok, Err, true, refl, sym, subst, ap, ◌∙◌, arith}
use Rattle.std.specs.Prelude.{◌≢◌}
use Rattle.std.proofs.lemmas.List.{append-nil}
use Rattle.std.specs.Result.{IfErr, IfOk}
use Rattle.slate_types.proofs.Lines.{above-none}
use Rattle.slate_types.specs.Line.{AreNumberedFrom, Line, batches_above, end}
use Rattle.slate_types.specs.declared.batches.Batch.{Batch}
use Rattle.slate_types.specs.declared.batches.KeyValue.{KeyValue}
use Rattle.slate_types.specs.declared.read_faults.ReadFault.{ReadFault}
use Rattle.slate_store.specs.Content.{AreStored, IsSound, content, table_batches}
use Rattle.slate_store.specs.Objects.{Objects}
use Rattle.slate_store.specs.declared.objects.TableId.{TableId}
use Rattle.slate_store.specs.declared.objects.VersionedManifest.{VersionedManifest}
use Rattle.slate_errors.specs.declared.endings.TaskName.{TaskName}
use Rattle.slate_errors.specs.declared.errors.SlateError.{SlateError}
use Rattle.slate_model.specs.Handle.{Handle, kept_handle, unstored}
use Rattle.slate_model.specs.Changes.{after_part}
use Rattle.slate_model.specs.Known.{Known}
use Rattle.slate_model.specs.Object.{Handle as AHandle}
use Rattle.slate_model.specs.Open.{Opens as IsOpening, OpensHandle, open_changes, opened_handle, opened_manifest}
use Rattle.slate_model.specs.Stores.{by_objects, kept_rows}
use Rattle.slate_model.specs.Tables.{AreJoined}
use Rattle.slate_model.proofs.Flushed.{part_le}
use Rattle.slate_model.proofs.Flushing.{latest-stored}
use Rattle.slate_model.proofs.Keeping.{above-twice, line_above-end}
use Rattle.slate_model.proofs.Prefixes.{extended-nil}
use Rattle.slate_model.proofs.Reopened.{Opened, opened}
use Rattle.slate_model.proofs.Tabled.{joined-line}
use Rattle.slate_jobs.specs.declared.jobs.JobRefusal.{JobRefusal}
use Rattle.slate_jobs.specs.declared.jobs.JobRefusal.TheVariants as refusals
use Rattle.slate_jobs.specs.Decoding.{AreOfBytes, AreRows, machine_at}
use Rattle.slate_jobs.specs.Machine.{Machine}
use Rattle.slate_jobs.specs.Queue.{IsCurrent, IsInStep, OpeningPuts, Opens, OpensWriter, Queue}
use Rattle.slate_jobs.specs.Rows.{Holds}
use Rattle.slate_jobs.proofs.Decoded.{decoded-holds}

-- tables that are joined are these batches
joined-are : (o : Objects) (ids : List TableId) (stored : List Batch) → AreJoined (Some o) ids stored → stored ≡ table_batches o ids
joined-are o [] stored joined = joined
joined-are o (id ∷ ids) stored joined = joined.1

record IsKept (o o' : Objects) : Type 0 where
  sound : IsSound o'
  kept : content o' ≡ content o

module _ (o : Objects) (sound : IsSound o) where
  -- whatever it answers, what is stored stays
  opening-keeps : {A : Type 0} (unsound : SlateError → Type 0) (r : Result A SlateError) (made : ℕ) (o' : Objects) → IsOpening None (λ (xs : List Batch). xs) unsound o r made o' → IsKept o o'
  opening-keeps {A} unsound r made o' opens = by made (part_le r 2 made opens.part) opens.after where
    by : (n : ℕ) → n ≤ 2 → o' ≡ after_part n (open_changes None (λ xs. xs) o) o → IsKept o o'
    by zero few is = subst (IsKept o) (sym is) (record { sound = sound; kept = refl })
    by (suc n) few is = let left = opened None o (suc n) sound (omega arith) few in subst (IsKept o) (sym is) (record { sound = left.sound; kept = left.content })

  module _ (limit : ℕ) (tasks : List TaskName) (o' : Objects) (left : Opened None o o') where
    abbrev view : VersionedManifest
    view = opened_manifest None o

    abbrev low : ℕ
    low = view.manifest.last_l0_seq

    abbrev fresh : Handle
    fresh = kept_handle (opened_handle None true limit tasks view (content o))

    module _ (tabled : low ≤ end (content o)) where
      none-unstored : unstored fresh ≡ []
      none-unstored = above-twice low (end (content o)) (content o).batches tabled ∙ above-none (content o).floor (end (content o)) (content o).batches sound.line (omega arith)

      fresh-step : IsInStep o' fresh
      fresh-step = record {
        sound = left.sound;
        latest = view;
        is_latest = left.latest;
        unclosed = refl;
        logs = refl;
        durable = sym (ap end left.content);
        numbered = subst (AreNumberedFrom (end (content o))) (sym none-unstored) tt;
        ends = (let none = ap length none-unstored in let same = line_above-end low (content o) in omega (arith, none, same));
        tabled = tabled;
      }

      fresh-current : IsCurrent o' fresh
      fresh-current = (view, left.latest, omega arith)

      fresh-reads : (rows : List Batch) → kept_rows (Some o') (AHandle fresh) rows → rows ≡ (content o).batches
      fresh-reads rows reads =
          let joined = joined-are o' view.manifest.tables reads.0 reads.1 in
          let line = joined-line o' view (content o') [] left.sound left.latest (sym (extended-nil (content o'))) left.sound.line in
          let same : table_batches o' view.manifest.tables ++ batches_above low (content o).batches ≡ (content o).batches =
          subst (λ (l : Line). table_batches o' view.manifest.tables ++ batches_above low l.batches ≡ l.batches) left.content line in
          reads.2 ∙ (ap (λ front. front ++ batches_above low (content o).batches) joined ∙ same)

-- of an opening that gave rows, both puts
puts-both : {A : Type 0} (result : Result A JobRefusal) (made : ℕ) → made ≡ 2 → OpeningPuts result made
puts-both (Ok got) made two = two
puts-both (Err refusals.Foreign) made two = two
puts-both (Err refusal) made two = omega (arith, two)

puts-some : (refusal : JobRefusal) (made : ℕ) → refusal ≢ refusals.Foreign → made ≤ 2 → OpeningPuts {A = Handle} (Err refusal) made
puts-some refusals.Foreign made other few = absurd (other refl)
puts-some refusals.Full made other few = few
puts-some refusals.NoMemory made other few = few
puts-some (refusals.Writer e) made other few = few

-- an opening that is refused
pub refused-opens : (o : Objects) (before after : Known (List Batch)) (made limit : ℕ) (tasks : List TaskName) (e : SlateError) (refusal : JobRefusal) → before.objects ≡ Some o → IsSound o →
    OpensHandle (by_objects before.objects) None made true limit tasks before (Err e) after → refusal ≢ refusals.Foreign → (o' : Objects) × (after.objects ≡ Some o') × OpensWriter o o' (Err refusal)
refused-opens o before after made limit tasks e refusal is sound opens other =
    let got = opens.opens.some o is in
    let kept = opening-keeps o sound _ (Err e) made got.0 got.2 in
    (got.0, got.1, record { sound = kept.sound; kept = kept.kept; puts = (made, puts-some refusal made other (part_le {A = Handle} (Err e) 2 made got.2.part), got.2.after); step = tt; current = tt; whole = tt; tabled = tt; reads = tt; foreign = λ no. other (let both = no in cc) })

-- and one that gives a handle
pub handle-opens : (o : Objects) (before after : Known (List Batch)) (made limit : ℕ) (tasks : List TaskName) (h : Handle) → before.objects ≡ Some o → IsSound o →
    OpensHandle (by_objects before.objects) None made true limit tasks before (Ok h) after → (o' : Objects) × (after.objects ≡ Some o') × OpensWriter o o' (Ok h)
handle-opens o before after made limit tasks h is sound opens =
    let got = opens.opens.some o is in
    let left : Opened None o got.0 =
    subst (Opened None o) (sym (got.2.after ∙ ap (λ n. after_part n (open_changes None (λ xs. xs) o) o) got.2.part)) (opened None o 2 sound (omega arith) (omega arith)) in
    let same : h ≡ fresh o sound limit tasks got.0 left = opens.handle o (content o) is (o, is, sound, refl) in
    let tabled = subst (λ (x : Handle). x.view.manifest.last_l0_seq ≤ x.durable) same opens.fresh.tabled in (
      got.0,
      got.1,
      record {
        sound = left.sound;
        kept = left.content;
        puts = (made, got.2.part, got.2.after);
        step = subst (IsInStep got.0) (sym same) (fresh-step o sound limit tasks got.0 left tabled);
        current = subst (IsCurrent got.0) (sym same) (fresh-current o sound limit tasks got.0 left tabled);
        whole = ap unstored same ∙ none-unstored o sound limit tasks got.0 left tabled;
        tabled = subst (λ (x : Handle). AreStored got.0 x.view.manifest.tables) (sym same) (latest-stored got.0 (opened_manifest None o) left.sound left.latest);
        reads = λ rows reads. fresh-reads o sound limit tasks got.0 left tabled rows (subst (λ (x : Handle). kept_rows (Some got.0) (AHandle x) rows) same reads);
        foreign = λ no. absurd (let both = no in cc);
      },
    )

-- ---- the rows
module _ (o o' : Objects) (h : Handle) (opens : OpensWriter o o' (Ok h)) where
  -- rows of a machine
  pub queue-opens : (t : Option Objects) → t ≡ Some o' → (rows : List KeyValue) (batches : List Batch) → kept_rows t (AHandle h) batches → AreRows batches rows None → AreOfBytes rows → (m : Machine) → machine_at rows ≡ Some m →
      Opens o o' (Ok (record { handle = h; machine = m; failure = None }))
  queue-opens t is rows batches reads are bytes m read =
      let same = opens.reads batches (subst (λ x. kept_rows x (AHandle h) batches) is reads) in
      let holds : Holds (content o).batches m = decoded-holds (content o).batches rows m (subst (λ bs. AreRows bs rows None) same are) bytes read in
      record {
        sound = opens.sound;
        kept = opens.kept;
        puts = opens.puts;
        held = record {
          handle = opens.step;
          holds = subst (λ bs. Holds bs m) (sym (ap (λ bs. (content o').batches ++ bs) opens.whole ∙ (append-nil (content o').batches ∙ ap (λ (l : Line). l.batches) opens.kept))) holds;
        };
        current = opens.current;
        found = holds;
        foreign = λ no. absurd (let both = no in cc);
      }

  -- rows of none
  pub none-opens : (t : Option Objects) → t ≡ Some o' → (rows : List KeyValue) (batches : List Batch) → kept_rows t (AHandle h) batches → AreRows batches rows None → machine_at rows ≡ None → Opens o o' (Err refusals.Foreign)
  none-opens t is rows batches reads are none =
      let same = opens.reads batches (subst (λ x. kept_rows x (AHandle h) batches) is reads) in
      record { sound = opens.sound; kept = opens.kept; puts = opens.puts; held = tt; current = tt; found = tt; foreign = λ _. record { rows = rows; fault = None; are = subst (λ bs. AreRows bs rows None) same are; why = inr none } }

  -- rows that end with a fault, and rows that weren't read
  pub fault-opens : (t : Option Objects) → t ≡ Some o' → (refusal : JobRefusal) →
      (refusal ≡ refusals.Foreign → (batches : List Batch) × kept_rows t (AHandle h) batches × (rows : List KeyValue) × (fault : ReadFault) × AreRows batches rows (Some fault)) → Opens o o' (Err refusal)
  fault-opens t is refusal why = record {
    sound = opens.sound;
    kept = opens.kept;
    puts = (opens.puts.0, puts-both (let r : Result Queue JobRefusal = Err refusal in r) opens.puts.0 opens.puts.1, opens.puts.2);
    held = tt;
    current = tt;
    found = tt;
    foreign = λ foreign.
        let its = why (let both = foreign in cc) in
        let same = opens.reads its.0 (subst (λ x. kept_rows x (AHandle h) its.0) is its.1) in
        record { rows = its.2; fault = Some its.3; are = subst (λ bs. AreRows bs its.2 (Some its.3)) same its.4; why = inl (λ none. absurd (let both = none in cc)) };
  }

-- want of memory
pub short-opens : (o o' : Objects) (h : Handle) → OpensWriter o o' (Ok h) → Opens o o' (Err refusals.NoMemory)
short-opens o o' h opens = record { sound = opens.sound; kept = opens.kept; puts = (opens.puts.0, puts-both (let r : Result Queue JobRefusal = Err refusals.NoMemory in r) opens.puts.0 opens.puts.1, opens.puts.2); held = tt; current = tt; found = tt; foreign = λ no. absurd (let both = no in cc) }

-- a handle that wasn't opened
puts-same : (refusal : JobRefusal) (made : ℕ) → OpeningPuts {A = Handle} (Err refusal) made → OpeningPuts {A = Queue} (Err refusal) made
puts-same refusals.Foreign made puts = puts
puts-same refusals.Full made puts = puts
puts-same refusals.NoMemory made puts = puts
puts-same (refusals.Writer e) made puts = puts

pub unopened : (o o' : Objects) (refusal : JobRefusal) → OpensWriter o o' (Err refusal) → Opens o o' (Err refusal)
unopened o o' refusal opens = record { sound = opens.sound; kept = opens.kept; puts = (opens.puts.0, puts-same refusal opens.puts.0 opens.puts.1, opens.puts.2); held = tt; current = tt; found = tt; foreign = λ no. absurd (opens.foreign (let same : refusal ≡ refusals.Foreign = cc in ap Err same)) }

-- the rows that an iterator had left
module _ (has : List Batch → Type 0) (batches : List Batch) (there : has batches) (rows : List KeyValue) (fault : Option ReadFault) (are : AreRows batches rows fault) where
  pub rows-read : (result : Result (List KeyValue) JobRefusal) → IfOk result (λ all. (rows ≡ all) × (fault ≡ None)) → IfOk result (λ all. (bs : List Batch) × has bs × AreRows bs all None)
  rows-read (Err e) is = tt
  rows-read (Ok all) is = (batches, there, subst (λ f. AreRows batches all f) is.1 (subst (λ rs. AreRows batches rs fault) is.0 are))

  pub rows-foreign : (result : Result (List KeyValue) JobRefusal) → (result ≡ Err refusals.Foreign → (f : ReadFault) × (fault ≡ Some f)) → result ≡ Err refusals.Foreign →
      (bs : List Batch) × has bs × (rs : List KeyValue) × (f : ReadFault) × AreRows bs rs (Some f)
  rows-foreign result why is = let found = why is in (batches, there, rows, found.0, subst (λ f. AreRows batches rows f) found.1 are)

-- the job store that rows give, or why they give none
pub of-rows-opens : (o o' : Objects) (h : Handle) (opens : OpensWriter o o' (Ok h)) (t : Option Objects) → t ≡ Some o' → (rows : List KeyValue) (batches : List Batch) → kept_rows t (AHandle h) batches → AreRows batches rows None → AreOfBytes rows →
    (result : Result Queue JobRefusal) → IfOk result (λ queue. (queue.handle ≡ h) × (queue.failure ≡ None) × (machine_at rows ≡ Some queue.machine)) →
    IfErr result (λ refusal. (refusal ≡ refusals.NoMemory) ⊎ ((refusal ≡ refusals.Foreign) × (machine_at rows ≡ None))) → Opens o o' result
of-rows-opens o o' h opens t is rows batches reads are bytes (Ok q) ok err =
    let same : record { handle = h; machine = q.machine; failure = None } ≡ q = ap (λ x. record { handle = x; machine = q.machine; failure = None }) (sym ok.0) ∙ ap (λ f. record { handle = q.handle; machine = q.machine; failure = f }) (sym ok.1) in
    subst (λ (x : Queue). Opens o o' (Ok x)) same (queue-opens o o' h opens t is rows batches reads are bytes q.machine ok.2)
of-rows-opens o o' h opens t is rows batches reads are bytes (Err refusal) ok err = elim err [
  | inl short ↦ subst (λ r. Opens o o' (Err r)) (sym short) (short-opens o o' h opens)
  | inr none ↦ subst (λ r. Opens o o' (Err r)) (sym none.0) (none-opens o o' h opens t is rows batches reads are none.1)
]
