-- The log files of a sound store above the one up to which a reader has read: what they have above a number.
use Rattle.std.proofs.Common.{◌≡◌, ℕ, ◌+◌, ◌-◌, ◌<◌, ◌≤◌, length, List, [], ◌++◌, drop, Some, Ok, refl, sym, subst, ap, ◌∙◌, arith, length-drop}
use Rattle.std.proofs.lemmas.List.{nil_from_length}
use Rattle.std.specs.List.{All, flat_map}
use Rattle.slate_types.proofs.Lines.{above-drop, numbered-drop}
use Rattle.slate_types.specs.declared.batches.Batch.{Batch}
use Rattle.slate_types.specs.Line.{AreNumberedFrom, batches_above, end}
use Rattle.slate_store.proofs.Gapless.{between-gapless, gapless-greatest}
use Rattle.slate_store.proofs.Latest.{its-objects}
use Rattle.slate_store.proofs.Logs.{between-none, between-parts, no_gap-numbered, numbered-stand}
use Rattle.slate_store.specs.declared.objects.VersionedManifest.{VersionedManifest}
use Rattle.slate_store.specs.Content.{IsSound, content, logged, logs_above}
use Rattle.slate_store.specs.Logs.{AreWhole, HaveNoGap, batches_between}
use Rattle.slate_store.specs.Objects.{Objects, last_log, latest_manifest, log_at}
use Rattle.slate_replay.proofs.Recovered.{recovered-all}
use Rattle.slate_replay.specs.declared.replays.Replayed.{Replayed}
use Rattle.slate_replay.specs.declared.replays.Replayed.TheVariants as replays
use Rattle.slate_replay.specs.Replay.{Replays}
use Rattle.slate_model.proofs.Reopened.{logs-by}
use Rattle.slate_follow.proofs.Above.{above-append, above-twice, none-between}
use Rattle.slate_follow.proofs.Rebuilt.{kept-end}

-- Log files of sound objects, where those up to one of them have no batch above a number, which isn't below the last one
-- in tables.
module _ (o : Objects) (view : VersionedManifest) (sound : IsSound o) (is : latest_manifest o ≡ Some view) (from n : ℕ)
    (above : view.manifest.replay_after_wal_id ≤ from) (within : from ≤ last_log view.manifest.replay_after_wal_id o) (tabled : view.manifest.last_l0_seq ≤ n) (ended : n ≤ end (content o))
    (low : (id : ℕ) (bs : List Batch) → view.manifest.replay_after_wal_id < id → id ≤ from → log_at id o ≡ Some bs → All (λ b. b.number ≤ n) bs) where
  abbrev mark : ℕ
  mark = view.manifest.replay_after_wal_id

  abbrev last : ℕ
  last = last_log mark o

  abbrev floor : ℕ
  floor = view.manifest.last_l0_seq

  abbrev later : List Batch
  later = batches_above n (batches_between from last o)

  read : batches_between mark last o ≡ flat_map (λ log. log.1) (logs_above mark o)
  read =
      let gapless = (its-objects o view sound is).gapless in
      let count = gapless-greatest mark mark o.logs (omega arith) gapless in
      between-gapless mark o gapless last (omega (arith, count))

  -- what the log files have above the number is in the later ones
  pub later-logged : batches_above n (logged o view.manifest) ≡ later
  later-logged =
      above-twice floor n (flat_map (λ log. log.1) (logs_above mark o)) tabled
      ∙ (ap (batches_above n) (sym read ∙ between-parts mark from last o above within)
      ∙ (above-append n (batches_between mark from o) (batches_between from last o)
      ∙ ap (λ xs. xs ++ later) (none-between n mark from o low)))

  pub later-numbered : AreNumberedFrom n later
  later-numbered =
      let its = logs-by o view sound is in
      let bs = logged o view.manifest in
      let k = n - floor in
      let at : floor + k ≡ n = omega arith in
      let all = kept-end o view sound is in
      subst (AreNumberedFrom n) (sym (above-drop floor n k bs its.numbered at) ∙ later-logged)
      (subst (λ x. AreNumberedFrom x (drop k bs)) at (numbered-drop floor k bs its.numbered (omega (arith, all))))

  pub later-ends : n + length later ≡ end (content o)
  later-ends =
      let its = logs-by o view sound is in
      let bs = logged o view.manifest in
      let k = n - floor in
      let at : floor + k ≡ n = omega arith in
      let all = kept-end o view sound is in
      let left : length later ≡ length bs - k = ap length (sym later-logged ∙ above-drop floor n k bs its.numbered at) ∙ length-drop k bs in
      omega (arith, all, left)

  pub later-whole : AreWhole from last n (n + length later) o
  later-whole =
      let its = logs-by o view sound is in
      record {
        stored = λ id over high none. its.whole.stored id (omega arith) high none;
        no_gap = no_gap-numbered n n (batches_between from last o) (omega arith) later-numbered;
      }

  -- a replay of the later ones gives it all
  pub later-replayed : (found : Replayed) (added : List Batch) → Replays from last n [] added o (Ok found) → (added ≡ later) × (found ≡ replays.Whole)
  later-replayed found added logs = recovered-all from last n later added o later-whole (numbered-stand n later later-numbered) found logs

-- nothing is replayed above a mark up to it
pub nothing-replayed : (n floor : ℕ) (o : Objects) → Replays n n floor [] [] o (Ok replays.Whole)
nothing-replayed n floor o = record {
  begins = λ line front belong. front;
  ends = record { stored = λ id over within none. absurd (omega (arith, over, within)); no_gap = subst (λ bs. HaveNoGap (floor + 0) (floor + 0) bs) (sym (between-none n n o (omega arith))) refl };
}

-- and all that is
pub none-replayed : (mark n : ℕ) (o : Objects) (added : List Batch) (found : Replayed) → Replays mark mark n [] added o (Ok found) → (added ≡ []) × (found ≡ replays.Whole)
none-replayed mark n o added replays.Whole logs =
    let gap = subst (λ bs. HaveNoGap (n + 0) (n + length added) bs) (between-none mark mark o (omega arith)) logs.ends.no_gap in
    (nil_from_length added (omega (arith, gap)), refl)
none-replayed mark n o added (replays.Truncated id) logs = let over = logs.ends.above in let high = logs.ends.within in absurd (omega (arith, over, high))
