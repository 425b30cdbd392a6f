-- What a poll builds anew of a sound store: it sees all that it is owed, or has the tables alone and lags.
use Rattle.std.proofs.Common.{◌≡◌, ℕ, ◌+◌, ◌<◌, ◌≤◌, length, List, [], inl, inr, map, true, false, Option, Some, Ok, refl, sym, subst, ap, ◌∙◌, arith}
use Rattle.std.proofs.lemmas.Bool.{cases_lt, le-leb}
use Rattle.std.specs.List.{All}
use Rattle.std.specs.Prelude.{◌⊎◌, ◌&&◌, nat_le, not}
use Rattle.slate_types.specs.declared.batches.Batch.{Batch}
use Rattle.slate_types.specs.Line.{end}
use Rattle.slate_store.proofs.LastLog.{at_least}
use Rattle.slate_store.specs.declared.objects.VersionedManifest.{VersionedManifest}
use Rattle.slate_store.specs.Content.{IsSound, content}
use Rattle.slate_store.specs.Objects.{Objects, last_log, latest_manifest, log_at}
use Rattle.slate_replay.specs.Replay.{Replays}
use Rattle.slate_model.proofs.Owing.{owing}
use Rattle.slate_model.proofs.Reopened.{line_from}
use Rattle.slate_errors.specs.declared.errors.SlateError.TheVariants as errors
use Rattle.slate_model.specs.Follow.{CatchesUp, ReplayRefuses, SeesPolled, StaysBehind}
use Rattle.slate_model.specs.Followed.{last_read}
use Rattle.slate_model.specs.Follower.{Follower, is_pinned, number, rebuilt, unsegmented}
use Rattle.slate_model.specs.Handle.{line_above, up_to}
use Rattle.slate_model.specs.Segments.{Extractor, ops_of, unsegmented_refusal}
use Rattle.slate_model.specs.Stores.{by_objects}
use Rattle.slate_model.specs.declared.answers.PollAnswer.{PollAnswer}
use Rattle.slate_follow.specs.Lagging.{IsLastRead, MayWait, MustRead}
use Rattle.slate_follow.specs.Rebuilding.{BuildLacks, Builds, answer_of, goes_on, reached}
use Rattle.slate_follow.proofs.Lagging.{reads-far, waits-near}
use Rattle.slate_follow.proofs.Later.{none-replayed}
use Rattle.slate_follow.proofs.Rebuilt.{builds-refuses, builds-sees, kept-end, latest-can, replays-owed, unpinned-last}
use Rattle.slate_follow.proofs.Segmented.{none-lacks}

-- where it may come to a number by the tables of a manifest alone: a replay of the log files up to the last one that it reads, or none
-- of them
module _ (o : Objects) (view : VersionedManifest) (old : Follower) (free : is_pinned old.mode ≡ false) where
  abbrev pub Waits : ℕ → Type 0
  Waits last =
      (old.skips ≡ false) × (number old < view.manifest.last_l0_seq) × (last ≡ view.manifest.replay_after_wal_id) × (0 < old.lag) × MayWait old.lag view.manifest.last_l0_seq view.manifest.replay_after_wal_id o

  -- why all are read
  abbrev pub WhyRead : Type 0
  WhyRead =
      (old.skips ≡ true) ⊎ ((old.skips ≡ false)
      × (((number old < view.manifest.last_l0_seq) × ((old.lag ≡ 0) ⊎ MustRead old.lag view.manifest.last_l0_seq view.manifest.replay_after_wal_id o)) ⊎ (view.manifest.last_l0_seq ≤ number old)))

  pub read-or-waits : (last : ℕ) → IsLastRead old view o last → ((last ≡ last_read old.mode old.skips view o) × WhyRead) ⊎ Waits last
  read-or-waits last (inl (skips, is)) = inl (is ∙ ap (λ s. last_read old.mode s view o) (sym skips), inl skips)
  read-or-waits last (inr (reads, inl (later, inl (is, why)))) = inl (is ∙ sym (unpinned-last o view old.mode old.skips free reads), inr (reads, inl (later, why)))
  read-or-waits last (inr (reads, inl (later, inr (is, may, waits)))) = inr (reads, later, is, may, waits)
  read-or-waits last (inr (reads, inr (arrived, is))) = inl (is ∙ sym (unpinned-last o view old.mode old.skips free reads), inr (reads, inr arrived))

-- where its batches don't lead up to the tables of a manifest, these end before those of its own, or later than it
rewound : (old : Follower) (view : VersionedManifest) → goes_on old view ≡ false → old.skips ≡ false → view.manifest.last_l0_seq ≤ number old → view.manifest.last_l0_seq < old.view.manifest.last_l0_seq
rewound old view not_on reads arrived =
    elim (cases_lt view.manifest.last_l0_seq old.view.manifest.last_l0_seq) [
      | inl under ↦ under
      | inr over ↦
          let first = le-leb old.view.manifest.last_l0_seq view.manifest.last_l0_seq over in
          let second = le-leb view.manifest.last_l0_seq (number old) arrived in
          let yes : goes_on old view ≡ true =
          ap (λ s. not s && (nat_le old.view.manifest.last_l0_seq view.manifest.last_l0_seq && nat_le view.manifest.last_l0_seq (number old))) reads
          ∙ (ap (λ x. x && nat_le view.manifest.last_l0_seq (number old)) first ∙ second) in
          absurd (cc)
    ]

module _ (o : Objects) (view : VersionedManifest) (sound : IsSound o) (is : latest_manifest o ≡ Some view) (old new : Follower) (answer : PollAnswer) (free : is_pinned old.mode ≡ false) where
  abbrev floor : ℕ
  floor = view.manifest.last_l0_seq

  abbrev mark : ℕ
  mark = view.manifest.replay_after_wal_id

  ended : floor ≤ end (content o)
  ended = let all = kept-end o view sound is in omega (arith, all)

  within : mark ≤ last_log mark o
  within = at_least mark (map (λ log. log.0) o.logs)

  low : (id : ℕ) (bs : List Batch) → mark < id → id ≤ mark → log_at id o ≡ Some bs → All (λ b. b.number ≤ floor) bs
  low id bs over under stored = absurd (omega (arith, over, under))

  -- one that waits with the log files has the tables
  builds-behind : (t : Option Objects) → old.skips ≡ false → number old < floor → 0 < old.lag → MayWait old.lag floor mark o → Builds o old.mode old.skips old.lag view mark new answer → StaysBehind (by_objects t) old (content o) new answer
  builds-behind t reads later may waits built =
      let can = latest-can o view is old.mode free in
      let owed = (owing o old.mode true false view sound can).owed in
      let owed_is : owed ≡ up_to floor (content o) = (owing o old.mode true false view sound can).is_owed in
      let all = replays-owed old.mode true false old.lag o view mark (can, refl) new answer sound built.batches built.found built.logs in
      let nothing = none-replayed mark floor o built.batches built.found built.logs in
      let line : line_from floor built.batches ≡ line_above floor (up_to floor (content o)) = all.0 ∙ ap (line_above floor) owed_is in
      let becomes : unsegmented new ≡ rebuilt old.mode old.skips old.lag view (line_above floor (up_to floor (content o))) mark =
      built.becomes ∙ (ap (λ r. rebuilt old.mode old.skips old.lag view (line_from floor built.batches) (reached r mark)) nothing.1 ∙ ap (λ l. rebuilt old.mode old.skips old.lag view l mark) line) in
      let view_is : new.view ≡ view = ap (λ (f : Follower). f.view) becomes in
      let mark_is : new.mark ≡ mark = ap (λ (f : Follower). f.mark) becomes in
      let floor_is : new.view.manifest.last_l0_seq ≡ floor = ap (λ (v : VersionedManifest). v.manifest.last_l0_seq) view_is in
      let counted : length built.batches ≡ 0 = ap length nothing.0 in
      let at : number new ≡ floor + length built.batches = ap number built.becomes in
      let ends : number new ≡ floor = omega (arith, at, counted) in
      let close = waits-near o view sound is mark floor (omega arith) within (omega arith) ended low refl old.lag waits in
      record {
        reads = reads;
        may = may;
        near = omega (arith, close, floor_is, later);
        reached = omega (arith, ends, floor_is, later);
        sees = becomes
            ∙ (ap (λ (v : VersionedManifest). rebuilt old.mode old.skips old.lag v (line_above v.manifest.last_l0_seq (up_to floor (content o))) mark) (sym view_is)
            ∙ (ap (λ n. rebuilt old.mode old.skips old.lag new.view (line_above new.view.manifest.last_l0_seq (up_to n (content o))) mark) (sym ends)
            ∙ ap (λ n. rebuilt old.mode old.skips old.lag new.view (line_above new.view.manifest.last_l0_seq (up_to (number new) (content o))) n) (sym mark_is)));
        mark = inr (omega (arith, later, floor_is), mark_is ∙ ap (λ (v : VersionedManifest). v.manifest.replay_after_wal_id) (sym view_is));
        answered = built.answers ∙ ap (λ r. answer_of r (number new)) nothing.1;
      }

  builds-caught : goes_on old view ≡ false → new.view ≡ view → WhyRead o view old free → CatchesUp old new.view (content o)
  builds-caught not_on view_is (inl skips) = inr (inl skips)
  builds-caught not_on view_is (inr (reads, inl (later, inl none))) = inl none
  builds-caught not_on view_is (inr (reads, inl (later, inr must))) =
      let floor_is : new.view.manifest.last_l0_seq ≡ floor = ap (λ (v : VersionedManifest). v.manifest.last_l0_seq) view_is in
      let far = reads-far o view sound is mark floor (omega arith) within (omega arith) ended low refl old.lag must in
      inr (inr (inl (omega (arith, far, floor_is, later))))
  builds-caught not_on view_is (inr (reads, inr arrived)) =
      let floor_is : new.view.manifest.last_l0_seq ≡ floor = ap (λ (v : VersionedManifest). v.manifest.last_l0_seq) view_is in
      let less = rewound old view not_on reads arrived in
      inr (inr (inr (omega (arith, less, floor_is))))

  pub builds-polled : (t : Option Objects) (last : ℕ) → goes_on old view ≡ false → IsLastRead old view o last → Builds o old.mode old.skips old.lag view last new answer → SeesPolled (by_objects t) old o (content o) new answer
  builds-polled t last not_on read built = by (read-or-waits o view old free last read)
    where
      by : ((last ≡ last_read old.mode old.skips view o) × WhyRead o view old free) ⊎ Waits o view old free last → SeesPolled (by_objects t) old o (content o) new answer
      by (inl (all, why)) =
          inl (builds-sees old.mode old.skips false old.lag o view last (latest-can o view is old.mode free, all) new answer t sound built, builds-caught not_on (ap (λ (f : Follower). f.view) built.becomes) why)
      by (inr (reads, later, none, may, waits)) = inr (builds-behind t reads later may waits (subst (λ k. Builds o old.mode old.skips old.lag view k new answer) none built))

  -- and a key that it takes without a segment is one of what it is owed
  pub builds-lack : (t : Option Objects) (x : Option Extractor) (last : ℕ) (key : List ℕ) → IsLastRead old view o last → BuildLacks x o view last key →
      ReplayRefuses (by_objects t) x old.mode old.skips false o (content o) (Some (errors.EmptySegmentPrefix key))
  builds-lack t x last key read (batches, found, logs, lacks) = by (read-or-waits o view old free last read)
    where
      by : ((last ≡ last_read old.mode old.skips view o) × WhyRead o view old free) ⊎ Waits o view old free last → ReplayRefuses (by_objects t) x old.mode old.skips false o (content o) (Some (errors.EmptySegmentPrefix key))
      by (inl (all, why)) = builds-refuses old.mode old.skips false old.lag o view last (latest-can o view is old.mode free, all) new answer t x (Some (errors.EmptySegmentPrefix key)) sound batches found logs lacks
      by (inr (reads, later, none, may, waits)) =
          let nothing = none-replayed mark floor o batches found (subst (λ k. Replays mark k floor [] batches o (Ok found)) none logs) in
          absurd (none-lacks x key (ap (λ bs. unsegmented_refusal x (ops_of bs)) (sym nothing.0) ∙ lacks))
