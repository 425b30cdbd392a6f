-- A begun poll doesn't come to a number below its reader's.
use Rattle.std.proofs.Common.{◌≡◌, ◌∙◌, ℕ, ℤ, ◌+◌, ◌-◌, ◌≤◌, ◌&&◌, ◌==◌, max, not, inl, inr, Bool, true, false, if◌then◌else◌, List, length, Option, Some, None, Ok, Err, refl, sym, ap, subst, arith}
use Rattle.std.proofs.lemmas.Bool.{cases_lt, eqb-true, le-leb}
use Rattle.std.specs.Prelude.{◌||◌, nat_le, nat_lt}
use Rattle.slate_types.specs.declared.batches.Batch.{Batch}
use Rattle.slate_store.specs.Checkpoints.{Plan, found, to_refresh, to_write}
use Rattle.slate_store.specs.declared.objects.Checkpoint.{Checkpoint}
use Rattle.slate_store.specs.declared.objects.VersionedManifest.{VersionedManifest}
use Rattle.slate_errors.specs.declared.errors.SlateError.TheVariants as errors
use Rattle.slate_model.specs.Begun.{AsksLast, Begun, Breaks, Ended, Ends, Fails, Goes, LooksAt, ReadsAgain, ReadsLog, Turn, asked_last, asked_lease, base_of, begun_at, committed, decided, emptied, first_log, greatest_number, kept_lease, leads_on, looked_at, overtaken_by, put_by, reached_number, read_again, replayed, replaying, view_of, with_log}
use Rattle.slate_model.specs.Follower.{Follower, kept_follower, number}
use Rattle.slate_model.specs.Lease.{differs, is_due, leased}
use Rattle.slate_model.specs.declared.leases.Lease.{Lease}
use Rattle.slate_follow.specs.Stepping.{LooksTo}
use Rattle.slate_model.specs.declared.polls.PollHistory.{PollHistory}

-- the tables of two manifests that don't differ end with one number
same-end : (view latest : VersionedManifest) → differs view latest ≡ false → view.manifest.last_l0_seq ≡ latest.manifest.last_l0_seq
same-end view latest same = eqb-true view.manifest.last_l0_seq latest.manifest.last_l0_seq (middle _ _ _ same)
  where
    middle : (a b c : Bool) → not (a && b && c) ≡ false → b ≡ true
    middle true true true is = refl
    middle true true false is = absurd (cc)
    middle true false c is = absurd (cc)
    middle false b c is = absurd (cc)

module _ (reader : Follower) (number_is : number (kept_follower reader) ≡ number reader) where
  abbrev kept : Follower
  kept = kept_follower reader

  -- what holds of it: it has come to no lower number, nor would it by the tables of the manifest that it read or put last
  pub record Advances (b : Begun) : Type 0 where
    pub risen : number reader ≤ reached_number b
    pub above : (last : VersionedManifest) → b.latest ≡ Some last → base_of kept b ≤ last.manifest.last_l0_seq
    pub tabled : reader.skips ≡ true → (last : VersionedManifest) → b.latest ≡ Some last → number reader ≤ last.manifest.last_l0_seq

  abbrev pub Advanced : Turn → Type 0
  Advanced (Goes b) = Advances b
  Advanced (Ends b) = Advances b
  Advanced (Breaks b) = Advances b
  Advanced (Fails error) = Unit {0}

  -- what a manifest that was read has
  abbrev pub IsAbove : Begun → VersionedManifest → Type 0
  IsAbove b l = (base_of kept b ≤ l.manifest.last_l0_seq) × (reader.skips ≡ true → number reader ≤ l.manifest.last_l0_seq)

  by-read : (b : Begun) (l : VersionedManifest) → number reader ≤ reached_number b → b.latest ≡ Some l → IsAbove b l → Advances b
  by-read b l risen is above = record {
    risen = risen;
    above = λ last at. let same : l ≡ last = cc in subst (λ (v : VersionedManifest). base_of kept b ≤ v.manifest.last_l0_seq) same above.0;
    tabled = λ skips last at. let same : l ≡ last = cc in subst (λ (v : VersionedManifest). number reader ≤ v.manifest.last_l0_seq) same (above.1 skips);
  }

  put-advances : (p : Plan Lease) (replaces : Bool) (b : Begun) → Advances b → Advanced (put_by p replaces b)
  put-advances (Ok (Some next, given)) replaces b a = record { risen = a.risen; above = a.above; tabled = a.tabled }
  put-advances (Ok (None, given)) replaces b a = record { risen = a.risen; above = a.above; tabled = a.tabled }
  put-advances (Err refusal) replaces b a = tt

  pub replayed-advances : (l : VersionedManifest) (b : Begun) → Advances b → Advanced (replayed l b)
  replayed-advances l b a = by b.lease
    where
      asked : Advances (record b { asked = true })
      asked = record { risen = a.risen; above = a.above; tabled = a.tabled }

      kept-by : (lease : Lease) (there : Option Checkpoint) → Advanced (kept_lease b.moment lease l there (record b { asked = true }))
      kept-by lease (Some checkpoint) = put-advances (leased lease.lifetime (to_refresh lease.id lease.lifetime b.moment l)) false (record b { asked = true }) asked
      kept-by lease None = put-advances (leased lease.lifetime (to_write (Some lease.id) (Some lease.lifetime) b.moment l)) true (record b { asked = true }) asked

      due : (lease : Lease) (x : Bool) → Advanced (if x then kept_lease b.moment lease l (found lease.id l) (record b { asked = true }) else Ends (record b { stage = Ended }))
      due lease true = kept-by lease (found lease.id l)
      due lease false = record { risen = a.risen; above = a.above; tabled = a.tabled }

      by : (held : Option Lease) → Advanced (asked_lease held l b)
      by None = record { risen = a.risen; above = a.above; tabled = a.tabled }
      by (Some lease) = due lease (not b.asked && is_due b.moment lease)

  -- a poll that replays after a manifest that was read, under a view whose tables end where the manifest's do
  replaying-advances : (l : VersionedManifest) (b : Begun) → b.latest ≡ Some l → (view_of kept b).manifest.last_l0_seq ≡ l.manifest.last_l0_seq → number reader ≤ reached_number b → IsAbove b l → Advanced (replaying kept l b)
  replaying-advances l b is same risen above = by reader.skips (leads_on kept b) refl refl
    where
      anew : number reader ≤ (view_of kept b).manifest.last_l0_seq → Advances (emptied kept l.manifest.replay_after_wal_id b)
      anew low = by-read (emptied kept l.manifest.replay_after_wal_id b) l (omega (arith, low)) is (omega (arith, same), above.1)

      both : (x y : Bool) → x ≡ true → y ≡ true → (x && y) ≡ true
      both x y first second = ap (λ a. a && y) first ∙ second

      not-led : leads_on kept b ≡ false → number reader ≤ (view_of kept b).manifest.last_l0_seq
      not-led on = elim (cases_lt (reached_number b) (view_of kept b).manifest.last_l0_seq) [
        | inl below ↦ omega (arith, below, risen)
        | inr within ↦
            let tabled = (view_of kept b).manifest.last_l0_seq in
            let base : base_of kept b ≤ tabled = let low = above.0 in omega (arith, low, same) in
            let lower : nat_le (base_of kept b) tabled ≡ true = le-leb (base_of kept b) tabled base in
            let upper : nat_le tabled (reached_number b) ≡ true = le-leb tabled (reached_number b) within in
            absurd (let no : true ≡ false = sym (both _ _ lower upper) ∙ on in cc)
      ]

      by : (skips leads : Bool) → reader.skips ≡ skips → leads_on kept b ≡ leads →
          Advanced (if skips then replayed l (emptied kept l.manifest.replay_after_wal_id b) else (if leads then Goes (record b { stage = AsksLast; mark = max b.mark l.manifest.replay_after_wal_id }) else Goes (record (emptied kept l.manifest.replay_after_wal_id b) { stage = AsksLast })))
      by true leads skips on = replayed-advances l (emptied kept l.manifest.replay_after_wal_id b) (anew (let low = above.1 skips in omega (arith, low, same)))
      by false true reads on = by-read (record b { stage = AsksLast; mark = max b.mark l.manifest.replay_after_wal_id }) l risen is above
      by false false reads on = let a = anew (not-led on) in record { risen = a.risen; above = a.above; tabled = a.tabled }

  -- ---- what each call leads to
  pub start-advances : (moment : ℤ) (overtaken : ℕ) (history : PollHistory) → Advances (begun_at moment overtaken history kept)
  start-advances moment overtaken history = record { risen = (let e = number_is in omega (arith, e)); above = λ last at. absurd (cc); tabled = λ skips last at. absurd (cc) }

  -- a poll that begins, with a manifest read
  abbrev start_with : VersionedManifest → ℤ → ℕ → PollHistory → Begun
  start_with l moment overtaken history = record (begun_at moment overtaken history kept) { stage = Ended; latest = Some l }

  pub decided-advances : (l : VersionedManifest) (moment : ℤ) (overtaken : ℕ) (history : PollHistory) (lease : Option Lease) → reader.view.manifest.last_l0_seq ≤ l.manifest.last_l0_seq → (reader.skips ≡ true → number reader ≤ l.manifest.last_l0_seq) →
      Advanced (decided kept l lease (record (begun_at moment overtaken history kept) { stage = Ended }))
  decided-advances l moment overtaken history lease viewed tabled = by lease
    where
      risen : number reader ≤ reached_number (start_with l moment overtaken history)
      risen = (let e = number_is in omega (arith, e))

      some : (held : Lease) (x : Bool) → differs reader.view l ≡ x → Advanced (if x then put_by (leased held.lifetime (to_write (Some held.id) (Some held.lifetime) moment l)) true (start_with l moment overtaken history) else replaying kept l (start_with l moment overtaken history))
      some held true other = put-advances (leased held.lifetime (to_write (Some held.id) (Some held.lifetime) moment l)) true (start_with l moment overtaken history) (by-read (start_with l moment overtaken history) l risen refl (viewed, tabled))
      some held false same = replaying-advances l (start_with l moment overtaken history) refl (same-end reader.view l same) risen (viewed, tabled)

      by : (lease : Option Lease) → Advanced (decided kept l lease (record (begun_at moment overtaken history kept) { stage = Ended }))
      by None = replaying-advances l (record (start_with l moment overtaken history) { view = Some l }) refl refl risen (viewed, tabled)
      by (Some held) = some held (differs reader.view l) refl

  -- a manifest was put that has the tables of the one that was read
  pub committed-advances : (next : VersionedManifest) (given : Lease) (replaces : Bool) (b : Begun) → number reader ≤ reached_number b → IsAbove b next → Advanced (committed kept next given replaces b)
  committed-advances next given true b risen above = replaying-advances next (record b { view = Some next; latest = Some next; lease = Some given }) refl refl risen above
  committed-advances next given false b risen above = by-read (record b { stage = Ended; latest = Some next; lease = Some given }) next risen refl above

  pub overtaken-advances : (b : Begun) → Advanced (overtaken_by kept b)
  overtaken-advances b = by (b.overtaken == 7)
    where
      by : (x : Bool) → Advanced (if x then Fails (errors.TransactionalObjectTimeout 8) else Goes (begun_at b.moment (b.overtaken + 1) b.history kept))
      by true = tt
      by false = start-advances b.moment (b.overtaken + 1) b.history

  pub asked-advances : (last : ℕ) (b : Begun) → Advances b → Advanced (Goes (asked_last kept last b))
  asked-advances last b a = by (nat_lt b.mark last)
    where
      by : (x : Bool) → Advanced (Goes (if x then record b { stage = first_log kept last; history = with_log last b.history } else record b { stage = ReadsAgain }))
      by true = record { risen = a.risen; above = a.above; tabled = a.tabled }
      by false = record { risen = a.risen; above = a.above; tabled = a.tabled }

  -- a log file was looked at, or wasn't there
  looked-advances : (l : VersionedManifest) (id last : ℕ) (batches : List Batch) (b : Begun) → Advances b → Advanced (looked_at kept l id last batches b)
  looked-advances l id last batches b a = by (nat_lt (reached_number b + kept.lag) newest) (nat_lt (reached_number b) newest || id == b.mark + 1)
    where
      newest : ℕ
      newest = greatest_number batches

      by : (x y : Bool) → Advanced (if x then Goes (record b { stage = ReadsLog last }) else (if y then replayed l b else Goes (record b { stage = LooksAt (id - 1) last })))
      by true y = record { risen = a.risen; above = a.above; tabled = a.tabled }
      by false true = replayed-advances l b a
      by false false = record { risen = a.risen; above = a.above; tabled = a.tabled }

  pub looks-advance : (l : VersionedManifest) (id last : ℕ) (b : Begun) (log : Option (List Batch)) (turn : Turn) → Advances b → LooksTo kept l id last b log turn → Advanced turn
  looks-advance l id last b None turn a turn_is = let cut : Advances (record b { stage = Ended }) = record { risen = a.risen; above = a.above; tabled = a.tabled } in subst Advanced (sym turn_is) cut
  looks-advance l id last b (Some batches) turn a turn_is = subst Advanced (sym turn_is) (looked-advances l id last batches b a)

  -- a log file was read
  pub read-advances : (l : VersionedManifest) (last : ℕ) (fresh : List Batch) (b : Begun) → reached_number b ≤ b.floor + length fresh → Advances b →
      Advanced (if b.mark + 1 == last then replayed l (record b { stage = Ended; fresh = fresh; mark = b.mark + 1 }) else Goes (record b { stage = ReadsLog last; fresh = fresh; mark = b.mark + 1 }))
  read-advances l last fresh b up a = by (b.mark + 1 == last)
    where
      risen : number reader ≤ b.floor + length fresh
      risen = let low = a.risen in omega (arith, low, up)

      by : (x : Bool) → Advanced (if x then replayed l (record b { stage = Ended; fresh = fresh; mark = b.mark + 1 }) else Goes (record b { stage = ReadsLog last; fresh = fresh; mark = b.mark + 1 }))
      by true = replayed-advances l (record b { stage = Ended; fresh = fresh; mark = b.mark + 1 }) (record { risen = risen; above = a.above; tabled = a.tabled })
      by false = record { risen = risen; above = a.above; tabled = a.tabled }

  pub cut-advances : (fresh : List Batch) (b : Begun) → reached_number b ≤ b.floor + length fresh → Advances b → Advances (record b { stage = Ended; fresh = fresh })
  cut-advances fresh b up a = record { risen = (let low = a.risen in omega (arith, low, up)); above = a.above; tabled = a.tabled }

  pub again-advances : (l : VersionedManifest) (b : Begun) → Advances b → IsAbove b l → Advanced (read_again l (record b { stage = Ended }))
  again-advances l b a above = by (nat_lt b.mark l.manifest.replay_after_wal_id)
    where
      by : (x : Bool) → Advanced (if x then Breaks (record b { stage = Ended }) else replayed l (record b { stage = Ended; latest = Some l }))
      by true = record { risen = a.risen; above = a.above; tabled = a.tabled }
      by false = replayed-advances l (record b { stage = Ended; latest = Some l }) (by-read (record b { stage = Ended; latest = Some l }) l a.risen refl above)
