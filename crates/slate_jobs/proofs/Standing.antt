-- A job store that an honest store holds is held after a request is accepted, and after a flush of the log.
use Rattle.std.proofs.Common.{◌≡◌, ℕ, ℤ, zero, suc, ◌+◌, ◌≤◌, ◌⊎◌, inl, inr, List, [], ◌∷◌, ◌++◌, length, cond, Option, Some, None, Result, Ok, Err, false, refl, sym, subst, ap, ◌∙◌, arith}
use Rattle.std.proofs.lemmas.Bool.{lt-leb}
use Rattle.std.proofs.lemmas.List.{length-append}
use Rattle.std.specs.Prelude.{nat_le}
use Rattle.slate_types.proofs.Lines.{above-none, above-push, numbered-push}
use Rattle.slate_types.specs.Line.{AreNumberedFrom, Line, batches_above, end, extended}
use Rattle.slate_types.specs.declared.batches.Batch.{Batch}
use Rattle.slate_types.specs.declared.batches.KeyOp.{KeyOp}
use Rattle.slate_types.specs.declared.options.FlushType.TheVariants.{Wal}
use Rattle.slate_store.proofs.Logged.{appended}
use Rattle.slate_store.specs.Content.{IsSound, content}
use Rattle.slate_store.specs.Objects.{Change, Objects, last_log, latest_manifest}
use Rattle.slate_store.specs.declared.objects.VersionedManifest.{VersionedManifest}
use Rattle.slate_errors.specs.declared.errors.SlateError.{SlateError}
use Rattle.slate_errors.specs.declared.errors.SlateError.TheVariants as errors
use Rattle.slate_model.specs.Changes.{PartMade, after_part}
use Rattle.slate_model.specs.Flush.{DurableAfter, FlushAnswer, FlushesOnly, IsCurrent, IsFlushed, StoresBatches, flush_changes, flush_changes_by, flush_result, grows, log_changes}
use Rattle.slate_model.specs.Handle.{Handle, accepted, kept_handle, line_above, to_log, unstored}
use Rattle.slate_model.specs.Stores.{Stands as AreThere, by_objects}
use Rattle.slate_model.specs.Write.{written}
use Rattle.slate_model.proofs.Flushed.{part_le}
use Rattle.slate_model.proofs.Keeping.{above-twice, line_above-end}
use Rattle.slate_model.proofs.Prefixes.{extended-nil}
use Rattle.slate_model.proofs.Tabled.{tables-within}
use Rattle.slate_jobs.specs.Queue.{IsCurrent as NoneOpened, IsInStep}
use Rattle.slate_jobs.specs.Calls.{failing_by}

-- the line doesn't end before the last number in tables
pub tabled-low : (o : Objects) (latest : VersionedManifest) → IsSound o → latest_manifest o ≡ Some latest → latest.manifest.last_l0_seq ≤ end (content o)
tabled-low o latest sound is = tables-within o latest (content o) [] sound is (sym (extended-nil (content o))) sound.line

-- ---- a batch is accepted
module _ (o : Objects) (h : Handle) (ops : List KeyOp) (at : ℤ) (step : IsInStep o h) where
  abbrev new : Handle
  new = written None h ops at

  abbrev batch : Batch
  batch = record { number = accepted h + 1; create_ts = at; ops = ops }

  pub accepted-more : unstored new ≡ unstored h ++ batch ∷ []
  accepted-more = above-push h.durable h.line.batches batch (let e = step.ends in omega (arith, e))

  pub accepted-step : IsInStep o new
  accepted-step =
      let e = step.ends in
      let count = length-append (unstored h) (batch ∷ []) in
      let line = length-append h.line.batches (batch ∷ []) in
      let more : length (unstored new) ≡ length (unstored h ++ batch ∷ []) = ap length accepted-more in
      record {
        sound = step.sound;
        latest = step.latest;
        is_latest = step.is_latest;
        unclosed = step.unclosed;
        logs = step.logs;
        durable = step.durable;
        numbered = subst (AreNumberedFrom h.durable) (sym accepted-more) (numbered-push h.durable (unstored h) batch step.numbered (omega (arith, e)));
        ends = omega (arith, e, count, line, more);
        tabled = step.tabled;
      }

-- ---- a flush of the log
-- What is stored after it: what was, or that and what the handle hadn't stored.
record Left (o o' : Objects) (latest : VersionedManifest) (bs : List Batch) (all made : ℕ) : Type 0 where
  sound : IsSound o'
  latest_is : latest_manifest o' ≡ Some latest
  none : made ≡ 0 → o' ≡ o
  some : made ≡ all → content o' ≡ extended (content o) bs
  either : (made ≡ 0) ⊎ (made ≡ all)

left-by : (o : Objects) (latest : VersionedManifest) (last : ℕ) → IsSound o → latest_manifest o ≡ Some latest → last ≡ last_log latest.manifest.replay_after_wal_id o → (bs : List Batch) → AreNumberedFrom (end (content o)) bs → (made : ℕ) →
    made ≤ length (log_changes (λ xs. xs) bs last) → Left o (after_part made (log_changes (λ xs. xs) bs last) o) latest bs (length (log_changes (λ xs. xs) bs last)) made
left-by o latest last sound is last_is [] next zero le = record { sound = sound; latest_is = is; none = λ _. refl; some = λ _. sym (extended-nil (content o)); either = inl refl }
left-by o latest last sound is last_is [] next (suc made) le = absurd (omega (arith, le))
left-by o latest last sound is last_is (b ∷ bs) next zero le = record { sound = sound; latest_is = is; none = λ _. refl; some = λ all. absurd (omega (arith, all)); either = inl refl }
left-by o latest last sound is last_is (b ∷ bs) next (suc zero) le =
    let put = appended o latest (b ∷ bs) sound is next in
    subst (λ n. Left o (after_part 1 (log_changes (λ xs. xs) (b ∷ bs) n) o) latest (b ∷ bs) 1 1) (sym last_is)
    (record { sound = put.sound; latest_is = put.latest ∙ is; none = λ no. absurd (omega (arith, no)); some = λ _. put.content; either = inr refl })
left-by o latest last sound is last_is (b ∷ bs) next (suc (suc made)) le = absurd (omega (arith, le))

module _ (o o' : Objects) (objects : Option Objects) (h k : Handle) (made : ℕ) (r : Result (Unit {0}) SlateError) (step : IsInStep o h)
    (f : IsFlushed kept_handle made r (flush_result r) h.tasks h k) (s : StoresBatches (by_objects objects) Wal h o r k made o') where
  abbrev latest : VersionedManifest
  latest = step.latest

  abbrev last : ℕ
  last = last_log latest.manifest.replay_after_wal_id o

  abbrev cs : List Change
  cs = log_changes (λ xs. xs) (unstored h) last

  to-log : to_log h ≡ unstored h
  to-log = ap (λ b. cond b (unstored h) []) step.logs

  changes-are : flush_changes (λ xs. xs) Wal h o ≡ cs
  changes-are = ap (flush_changes_by (λ xs. xs) Wal h o) step.is_latest ∙ ap (λ bs. log_changes (λ xs. xs) bs last) to-log

  part : PartMade r (length cs) made
  part = subst (λ (xs : List Change). PartMade r (length xs) made) changes-are s.part

  only : FlushesOnly r (length cs) made
  only = subst (λ (xs : List Change). FlushesOnly r (length xs) made) changes-are s.only

  after : o' ≡ after_part made cs o
  after = s.after ∙ ap (λ (xs : List Change). after_part made xs o) changes-are

  left : Left o o' latest (unstored h) (length cs) made
  left = subst (λ x. Left o x latest (unstored h) (length cs) made) (sym after)
      (left-by o latest last step.sound step.is_latest refl (unstored h) (subst (λ n. AreNumberedFrom n (unstored h)) step.durable step.numbered) made (part_le r (length cs) made part))

  pub flush-sound : IsSound o'
  flush-sound = left.sound

  -- what is stored is what was, or that and what the handle hadn't stored
  pub flush-either : (content o' ≡ content o) ⊎ (content o' ≡ extended (content o) (unstored h))
  flush-either = elim left.either [
    | inl none ↦ inl (ap content (left.none none))
    | inr all ↦ inr (left.some all)
  ]

  -- at Ok it is all
  pub flush-all : (done : Unit {0}) → r ≡ Ok done → content o' ≡ extended (content o) (unstored h)
  flush-all done ok = left.some (subst (λ x. PartMade x (length cs) made) ok part)

  -- ---- the handle
  abbrev low : ℕ
  low = k.view.manifest.last_l0_seq

  line-is : k.line ≡ line_above low h.line
  line-is = ap (λ (a : Handle). a.line) f.same

  accepted-is : accepted k ≡ accepted h
  accepted-is = ap end line-is ∙ line_above-end low h.line

  unstored-is : low ≤ k.durable → unstored k ≡ batches_above k.durable h.line.batches
  unstored-is below = ap (λ (l : Line). batches_above k.durable l.batches) line-is ∙ above-twice low k.durable h.line.batches below

  latest-low : latest.manifest.last_l0_seq ≤ h.durable
  latest-low = let t = tabled-low o latest step.sound step.is_latest in let d = step.durable in omega (arith, t, d)

  found-low : (view : VersionedManifest) → IsCurrent h.epoch o view → view.manifest.last_l0_seq ≤ h.durable
  found-low view current =
      let same : latest ≡ view = (let a = step.is_latest in let b = current.0 in cc) in
      subst (λ (v : VersionedManifest). v.manifest.last_l0_seq ≤ h.durable) same latest-low

  abbrev IsBuilt : Type 0
  IsBuilt = (flush_result r ≡ None) → k.durable ≡ end (content o') → AreNumberedFrom k.durable (unstored k) → k.durable + length (unstored k) ≡ accepted k → low ≤ k.durable → IsInStep o' k

  built : IsBuilt
  built live durable numbered ends tabled = record {
    sound = left.sound;
    latest = latest;
    is_latest = left.latest_is;
    unclosed = ap (λ (a : Handle). a.result) f.same ∙ live;
    logs = ap (λ (a : Handle). a.keeps_log) f.same ∙ step.logs;
    durable = durable;
    numbered = numbered;
    ends = ends;
    tabled = tabled;
  }

  pub flush-current : NoneOpened o h → NoneOpened o' k
  flush-current c =
      let same : c.0 ≡ latest = (let a = step.is_latest in let b = c.1 in cc) in
      let e = ap (λ (a : Handle). a.epoch) f.same in
      let low : latest.manifest.writer_epoch ≤ h.epoch = subst (λ (v : VersionedManifest). v.manifest.writer_epoch ≤ h.epoch) same c.2 in
      (latest, left.latest_is, omega (arith, e, low))

  -- after Ok, where the answer has found the latest manifest
  module _ (done : Unit {0}) (ok : r ≡ Ok done) where
    durable-all : k.durable ≡ accepted h
    durable-all = subst (λ x. DurableAfter (nat_le (grows h) made) h x k.durable) ok f.durable

    ok-low : low ≤ h.durable
    ok-low =
        let answer = subst (λ x. FlushAnswer (AreThere (flush_changes (λ xs. xs) Wal h o) o) Wal h o x k.view) ok s.answer in
        subst (λ (v : VersionedManifest). v.manifest.last_l0_seq ≤ h.durable) (sym answer.2) (found-low answer.0 answer.1)

    reached : h.durable ≤ k.durable
    reached = let e = step.ends in let d = durable-all in omega (arith, e, d)

    none-left : unstored k ≡ []
    none-left =
        let all = durable-all in
        let e = step.ends in
        let below = ok-low in
        let high = reached in
        unstored-is (omega (arith, below, high))
        ∙ (sym (above-twice h.durable k.durable h.line.batches high)
        ∙ above-none h.durable k.durable (unstored h) step.numbered (omega (arith, e, all)))

    pub ok-none : unstored k ≡ []
    ok-none = none-left

    pub ok-step : IsInStep o' k
    ok-step =
        let all = durable-all in
        let e = step.ends in
        let d = step.durable in
        let same = accepted-is in
        let below = ok-low in
        let high = reached in
        let count = length-append (content o).batches (unstored h) in
        let stored : end (content o') ≡ end (extended (content o) (unstored h)) = ap end (flush-all done ok) in
        let none : length (unstored k) ≡ 0 = ap length none-left in
        built (ap flush_result ok) (omega (arith, all, e, d, count, stored)) (subst (AreNumberedFrom k.durable) (sym none-left) tt) (omega (arith, all, same, none)) (omega (arith, below, high))

  -- after want of memory
  module _ (short : r ≡ Err errors.NoMemory) where
    none-made : made ≡ 0
    none-made =
        elim (subst (λ x. FlushesOnly x (length cs) made) short only) [
          | inl none ↦ none
          | inr fewer ↦ elim left.either [
            | inl none ↦ none
            | inr all ↦ absurd (omega (arith, fewer, all))
          ]
        ]

    pub short-same : o' ≡ o
    short-same = left.none none-made

    not-stored : nat_le (grows h) made ≡ false
    not-stored = let none = none-made in let one : grows h ≡ 1 = ap (λ b. cond b 1 2) step.logs in lt-leb (grows h) made (omega (arith, one, none))

    durable-old : k.durable ≡ h.durable
    durable-old =
        subst (λ x. DurableAfter (nat_le (grows h) made) h x k.durable) short f.durable ∙ ap (λ b. cond b (accepted h) h.durable) not-stored

    short-low : low ≤ h.durable
    short-low =
        let answer = subst (λ x. FlushAnswer (AreThere (flush_changes (λ xs. xs) Wal h o) o) Wal h o x k.view) short s.answer in
        elim answer.1 [
          | inl same ↦ subst (λ (v : VersionedManifest). v.manifest.last_l0_seq ≤ h.durable) (sym same) step.tabled
          | inr current ↦ found-low k.view current
        ]

    pub short-unstored : unstored k ≡ unstored h
    short-unstored =
        let same = durable-old in
        let below = short-low in
        unstored-is (omega (arith, same, below)) ∙ ap (λ n. batches_above n h.line.batches) same

    pub short-step : IsInStep o' k
    short-step =
        let same = durable-old in
        let below = short-low in
        let d = step.durable in
        let e = step.ends in
        let all = accepted-is in
        let stored : end (content o') ≡ end (content o) = ap (λ x. end (content x)) short-same in
        let count : length (unstored k) ≡ length (unstored h) = ap length short-unstored in
        built (ap flush_result short) (omega (arith, same, d, stored))
        (subst (λ n. AreNumberedFrom n (unstored k)) (sym same) (subst (AreNumberedFrom h.durable) (sym short-unstored) step.numbered))
        (omega (arith, same, e, all, count)) (omega (arith, same, below))

  -- no other answer leaves the job store open
  pub fate : failing_by r ≡ None → ((done : Unit {0}) × (r ≡ Ok done)) ⊎ (r ≡ Err errors.NoMemory)
  fate = by r refl s.answer where
    by : (q : Result (Unit {0}) SlateError) → r ≡ q → FlushAnswer (AreThere (flush_changes (λ xs. xs) Wal h o) o) Wal h o q k.view → failing_by q ≡ None → ((done : Unit {0}) × (r ≡ Ok done)) ⊎ (r ≡ Err errors.NoMemory)
    by (Ok done) is answer live = inl (done, is)
    by (Err errors.NoMemory) is answer live = inr is
    by (Err (errors.InvalidClockTick previous next)) is answer live = absurd answer.0
    by (Err e) is answer live = absurd (let no = live in cc)
