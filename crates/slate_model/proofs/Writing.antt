-- A write to a valid handle leaves a valid one, and what the code keeps of it.
use Rattle.std.proofs.Common.{◌≡◌, ℕ, ℤ, ◌+◌, ◌-◌, ◌<◌, ◌≤◌, List, [], ◌∷◌, ◌++◌, length, cond, Option, Result, Ok, Err, inl, inr, refl, sym, subst, ap, ◌∙◌, arith, append_assoc, length-append}
use Rattle.std.proofs.lemmas.List.{take-append-le}
use Rattle.slate_types.proofs.Lines.{above-push, numbered-push}
use Rattle.slate_types.specs.Line.{IsPrefix, Line, batches_above, end, extended}
use Rattle.slate_types.specs.declared.batches.Batch.{Batch}
use Rattle.slate_types.specs.declared.batches.KeyOp.{KeyOp}
use Rattle.slate_store.specs.Content.{table_batches}
use Rattle.slate_store.specs.Objects.{Objects}
use Rattle.slate_errors.specs.declared.errors.SlateError.{SlateError}
use Rattle.slate_model.specs.declared.answers.Written.{Written}
use Rattle.slate_model.specs.Catalogue.{Catalogue}
use Rattle.slate_model.specs.Handle.{Handle, accepted, kept_handle, line_above, unstored, untabled_segments}
use Rattle.slate_model.specs.Segments.{Extractor, segments_with}
use Rattle.slate_model.specs.Valid.{IsValidHandle, ReadsLine}
use Rattle.std.specs.Option.{option_map}
use Rattle.slate_transactions.specs.Writes.{after_writes}
use Rattle.slate_model.specs.Tracked.{tracked}
use Rattle.slate_model.specs.Unflushed.{unflushed}
use Rattle.slate_model.specs.Write.{Writes, next_batch, write_refusal, written}
use Rattle.slate_model.proofs.Keeping.{above-length, accepted-kept, segments-kept, to_log-kept, untabled-kept}
use Rattle.std.proofs.lemmas.Bool.{lt-ltb}

-- a line from a number on goes on by a batch above that number
line_above-push : (n : ℕ) (line : Line) (b : Batch) → n < b.number → line_above n (extended line (b ∷ [])) ≡ extended (line_above n line) (b ∷ [])
line_above-push n line b above =
    let front = batches_above n line.batches in
    let push : batches_above n (line.batches ++ b ∷ []) ≡ front ++ b ∷ [] = above-push n line.batches b above in
    let count = length-append front (b ∷ []) in
    let all = length-append line.batches (b ∷ []) in
    let low = above-length n line.batches in
    let floor : end (extended line (b ∷ [])) - length (front ++ b ∷ []) ≡ end line - length front = omega (arith, count, all, low) in
    ap (λ bs. record { floor = end (extended line (b ∷ [])) - length bs; batches = bs }) push
    ∙ ap (λ n. record { floor = n; batches = front ++ b ∷ [] }) floor

module _ (x : Option Extractor) (h : Handle) (tabled : h.view.manifest.last_l0_seq ≤ h.durable) (low : h.view.manifest.last_l0_seq ≤ accepted h) where
  unflushed-kept : unflushed (kept_handle h) ≡ unflushed h
  unflushed-kept = rw (untabled-kept h h.view.manifest (omega arith)) (rw (to_log-kept h tabled) refl)

  refusal-kept : (ops : List KeyOp) (moment : ℤ) (second : Option ℤ) → write_refusal x (kept_handle h) ops moment second ≡ write_refusal x h ops moment second
  refusal-kept ops moment second = rw (segments-kept h) (rw (accepted-kept h) (rw unflushed-kept refl))

  pub kept-written : (ops : List KeyOp) (at : ℤ) → written x (kept_handle h) ops at ≡ kept_handle (written x h ops at)
  kept-written ops at =
      let t = λ (n : ℕ). tracked h.tracker (n + 1) at in
      let w = λ (n : ℕ). option_map (after_writes (n + 1) [] ops) h.writes in
      let by : Line → List (List ℕ) → ℕ → Handle = λ line segments n. record (kept_handle h) { line = line; segments = segments; tick = at; tracker = t n; writes = w n } in
      let added = segments_with x (untabled_segments h) ops in
      let n = h.view.manifest.last_l0_seq in
      let pushed = line_above n (extended h.line (next_batch h ops at ∷ [])) in
      let count = length-append h.line.batches (next_batch h ops at ∷ []) in
      ap (λ s. by (extended (kept_handle h).line (next_batch (kept_handle h) ops at ∷ [])) (segments_with x s ops) (accepted (kept_handle h))) (segments-kept h)
      ∙ (ap (λ n. by (extended (kept_handle h).line (record { number = n + 1; create_ts = at; ops = ops } ∷ [])) added n) (accepted-kept h)
      ∙ (ap (λ l. by l added (accepted h)) (sym (line_above-push n h.line (next_batch h ops at) (omega (arith, low))))
      ∙ ap (λ c. by pushed (cond c added []) (accepted h)) (sym (lt-ltb n (accepted (written x h ops at)) (omega (arith, low, count))))))

  -- the whole handle after a write to what the code keeps of it
  abbrev pub rewritten : List KeyOp → Result Written SlateError → Handle
  rewritten ops (Ok w) = written x h ops w.create_ts
  rewritten ops (Err e) = h

  pub writes-whole : (ops : List KeyOp) (moment : ℤ) (second : Option ℤ) (r : Result Written SlateError) (k : Handle) → Writes x (kept_handle h) ops moment second r k → Writes x h ops moment second r (rewritten ops r) × (k ≡ kept_handle (rewritten ops r))
  writes-whole ops moment second (Ok w) k s = (
    record {
      accepted = (sym (refusal-kept ops moment second) ∙ s.accepted.0, s.accepted.1, s.accepted.2 ∙ ap (λ n. n + 1) (accepted-kept h), refl);
      refused = tt;
    },
    s.accepted.3 ∙ kept-written ops w.create_ts,
  )
  writes-whole ops moment second (Err e) k s = (
    record {
      accepted = tt;
      refused = (
        elim s.refused.0 [
          | inl memory ↦ inl memory
          | inr cause ↦ inr (sym (refusal-kept ops moment second) ∙ cause)
        ],
        refl,
      );
    },
    s.refused.1,
  )

module _ (x : Option Extractor) (stored : Line) (catalogue : Catalogue) (h : Handle) (ops : List KeyOp) (at : ℤ) (v : IsValidHandle stored catalogue h) where
  abbrev b : Batch
  b = next_batch h ops at

  unstored-after : unstored (written x h ops at) ≡ unstored h ++ b ∷ []
  unstored-after = let durable = v.durable in above-push h.durable h.line.batches b (omega (arith, durable))

  pub written-valid : IsValidHandle stored catalogue (written x h ops at)
  written-valid =
      let durable = v.durable in
      let line = h.line.batches in
      record {
        numbered = numbered-push h.line.floor line b v.numbered refl;
        floor = v.floor;
        tabled = v.tabled;
        durable = simp length-append (omega (arith, durable));
        confirmed = subst (λ bs. IsPrefix (record { floor = h.line.floor; batches = bs }) stored) (sym (take-append-le (h.durable - h.line.floor) line (b ∷ []) (omega (arith, durable)))) v.confirmed;
        unused = v.unused;
        behind = v.behind;
        current = λ latest live is low.
            let before = v.current latest live is low in (
              ap (extended stored) unstored-after
                  ∙ (ap (λ bs. record { floor = stored.floor; batches = bs }) (sym (append_assoc stored.batches (unstored h) (b ∷ [])))
                  ∙ ap (λ l. extended l (b ∷ [])) before.0),
              before.1,
            );
      }

  pub written-reads : (o : Objects) → ReadsLine o h.view h.line → ReadsLine o h.view (written x h ops at).line
  written-reads o reads there =
      let n = h.view.manifest.last_l0_seq in
      let joined = table_batches o h.view.manifest.tables in
      let durable = v.durable in
      let tabled = v.tabled in
      ap (λ bs. joined ++ bs) (above-push n h.line.batches b (omega (arith, durable, tabled)))
      ∙ (sym (append_assoc joined (batches_above n h.line.batches) (b ∷ []))
      ∙ ap (λ bs. bs ++ b ∷ []) (reads there))
