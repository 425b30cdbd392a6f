-- What the code keeps of a handle stores and answers as the whole handle does.
use Rattle.std.proofs.Common.{◌≡◌, ℕ, ◌-◌, ◌<◌, ◌≤◌, List, [], ◌∷◌, length, cond, Bool, true, false, refl, ap, ◌∙◌, sym, ltb, arith}
use Rattle.std.proofs.lemmas.Bool.{ltb-false, ltb-true, lt-ltb, le-ltb}
use Rattle.slate_types.specs.declared.batches.Batch.{Batch}
use Rattle.slate_types.specs.declared.options.FlushType.{FlushType}
use Rattle.slate_types.specs.declared.options.FlushType.TheVariants.{Wal, MemTable}
use Rattle.slate_types.specs.Line.{Line, batches_above, end}
use Rattle.slate_store.specs.declared.objects.Manifest.{Manifest}
use Rattle.slate_store.specs.declared.objects.VersionedManifest.{VersionedManifest}
use Rattle.slate_model.specs.Flush.{flush_changes_under, flush_view, has_ids, has_log_for}
use Rattle.slate_model.specs.Handle.{Handle, accepted, kept_handle, line_above, to_log, unstored, untabled, untabled_segments}

-- of the batches above a number, those above a greater one
pub above-twice : (n m : ℕ) (bs : List Batch) → n ≤ m → batches_above m (batches_above n bs) ≡ batches_above m bs
above-twice n m [] le = refl
above-twice n m (b ∷ bs) le = by (ltb n b.number) refl (above-twice n m bs le) where
  by : (x : Bool) → ltb n b.number ≡ x → batches_above m (batches_above n bs) ≡ batches_above m bs → batches_above m (cond x (b ∷ batches_above n bs) (batches_above n bs)) ≡ batches_above m (b ∷ bs)
  by true is later = ap (λ rest. cond (ltb m b.number) (b ∷ rest) rest) later
  by false is later =
      let under : b.number ≤ n = ltb-false n b.number is in
      let no : ltb m b.number ≡ false = le-ltb m b.number (omega (arith, under, le)) in
      later ∙ sym (ap (λ c. cond c (b ∷ batches_above m bs) (batches_above m bs)) no)

pub above-length : (n : ℕ) (bs : List Batch) → length (batches_above n bs) ≤ length bs
above-length n [] = omega arith
above-length n (b ∷ bs) = by (ltb n b.number) (above-length n bs) where
  by : (x : Bool) → length (batches_above n bs) ≤ length bs → length (cond x (b ∷ batches_above n bs) (batches_above n bs)) ≤ length (b ∷ bs)
  by true le = omega (arith, le)
  by false le = omega (arith, le)

-- a line from a number on has the end that it had
pub line_above-end : (n : ℕ) (line : Line) → end (line_above n line) ≡ end line
line_above-end n line = let le = above-length n line.batches in omega (arith, le)

-- a line from a number on, and from a greater one
pub line_above-twice : (n m : ℕ) (line : Line) → n ≤ m → line_above m (line_above n line) ≡ line_above m line
line_above-twice n m line le =
    let again = batches_above m (batches_above n line.batches) in
    let from : ℕ → List Batch → Line = λ e xs. record { floor = e - length xs; batches = xs } in
    ap (λ e. from e again) (line_above-end n line) ∙ ap (from (end line)) (above-twice n m line.batches le)

-- what is there above a number, and above a greater one
pub cond-twice : {X : Type 0} (n m end : ℕ) (xs : List X) → n ≤ m → cond (ltb m end) (cond (ltb n end) xs []) [] ≡ cond (ltb m end) xs []
cond-twice {X} n m end xs le = by (ltb m end) refl where
  by : (c : Bool) → ltb m end ≡ c → cond c (cond (ltb n end) xs []) [] ≡ cond c xs []
  by true is =
      let above : m < end = ltb-true m end is in
      ap (λ c. cond c xs []) (lt-ltb n end (omega (arith, above, le)))
  by false is = refl

module _ (h : Handle) where
  pub accepted-kept : accepted (kept_handle h) ≡ accepted h
  accepted-kept = line_above-end h.view.manifest.last_l0_seq h.line

  pub segments-kept : untabled_segments (kept_handle h) ≡ untabled_segments h
  segments-kept =
      let n = h.view.manifest.last_l0_seq in
      ap (λ end. cond (ltb n end) (untabled_segments h) []) accepted-kept ∙ cond-twice n n (accepted h) h.segments (omega arith)

  -- what a flush needs
  pub log_for-kept : (t : FlushType) → has_log_for t (kept_handle h) ≡ has_log_for t h
  log_for-kept Wal = refl
  log_for-kept MemTable = refl

  pub untabled-kept : (m : Manifest) → h.view.manifest.last_l0_seq ≤ m.last_l0_seq → untabled m (kept_handle h) ≡ untabled m h
  untabled-kept m le = above-twice h.view.manifest.last_l0_seq m.last_l0_seq h.line.batches le

  module _ (tabled : h.view.manifest.last_l0_seq ≤ h.durable) where
    pub unstored-kept : unstored (kept_handle h) ≡ unstored h
    unstored-kept = above-twice h.view.manifest.last_l0_seq h.durable h.line.batches tabled

    pub to_log-kept : to_log (kept_handle h) ≡ to_log h
    to_log-kept = ap (λ bs. cond h.keeps_log bs []) unstored-kept

    module _ (latest : VersionedManifest) (last : ℕ) (ahead : h.view.manifest.last_l0_seq ≤ latest.manifest.last_l0_seq) where
      pub changes-kept : {L : Type 0} (summary : List Batch → L) (t : FlushType) → flush_changes_under summary t (kept_handle h) latest last ≡ flush_changes_under summary t h latest last
      changes-kept summary Wal = rw to_log-kept refl
      changes-kept summary MemTable = rw segments-kept (rw to_log-kept (rw (untabled-kept latest.manifest ahead) (rw accepted-kept refl)))

      pub ids-kept : (t : FlushType) → has_ids t (kept_handle h) latest last ≡ has_ids t h latest last
      ids-kept Wal = rw to_log-kept refl
      ids-kept MemTable = rw to_log-kept (rw accepted-kept refl)

      pub view-kept : (t : FlushType) → flush_view t (kept_handle h) latest last ≡ flush_view t h latest last
      view-kept Wal = refl
      view-kept MemTable = rw segments-kept (rw to_log-kept (rw (untabled-kept latest.manifest ahead) (rw accepted-kept refl)))
