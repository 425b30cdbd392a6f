-- What a begun poll comes to, from call to call: a reader that stands as its own one does, whatever that means of readers.
use Rattle.std.proofs.Common.{◌≡◌, ◌∙◌, ◌⊎◌, ℕ, ℤ, ◌+◌, ◌-◌, ◌<◌, ◌≤◌, ◌++◌, ◌&&◌, ◌==◌, max, not, inl, inr, Bool, true, false, cond, if◌then◌else◌, List, [], ◌∷◌, length, length-append, map, take, Option, Some, None, Result, Ok, Err, refl, sym, ap, subst, arith, rules}
use Rattle.slate_errors.specs.declared.errors.SlateError.TheVariants as errors
use Rattle.std.proofs.lemmas.Bool.{eqb-true, leb-true}
use Rattle.std.specs.Option.{is_some, unwrap_or}
use Rattle.std.specs.Prelude.{nat_le, nat_lt, ◌||◌}
use Rattle.slate_types.proofs.Lines.{above-none}
use Rattle.std.proofs.lemmas.List.{length-take}
use Rattle.slate_types.specs.Line.{IsLine, Line, batches_above, end}
use Rattle.slate_types.specs.declared.batches.Batch.{Batch}
use Rattle.slate_store.specs.Checkpoints.{Plan, found, to_refresh, to_write, with_checkpoints}
use Rattle.slate_store.specs.Objects.{Objects}
use Rattle.slate_store.specs.declared.objects.Checkpoint.{Checkpoint}
use Rattle.slate_store.specs.declared.objects.VersionedManifest.{VersionedManifest}
use Rattle.slate_model.proofs.Keeping.{above-twice}
use Rattle.slate_model.proofs.Fronts.{above-append, fresh-front, front-end, front-split, numbered-take, seen-as, seen-both}
use Rattle.slate_model.proofs.Maintained.{Recheckpoints, refresh-recheckpoints, write-recheckpoints}
use Rattle.slate_model.specs.Begun.{AsksLast, Begun, Breaks, Ended, Ends, Fails, Goes, LooksAt, Puts, ReadsAgain, ReadsLatest, ReadsLog, Stage, Turn, arrived, asked_last, asked_lease, base_of, begun_at, committed, decided, emptied, first_log, greatest_number, kept_batches, kept_lease, leads_on, looked_at, overtaken_by, put_by, reached_number, read_again, replayed, replaying, view_of, with_log}
use Rattle.slate_model.specs.Follower.{Follower, is_managed, kept_follower, number}
use Rattle.slate_model.specs.Handle.{line_above, up_to}
use Rattle.slate_model.specs.Lease.{differs, is_due, lease_of, leased}
use Rattle.slate_model.specs.Seen.{HasSeen}
use Rattle.slate_model.specs.Stood.{IsPlanned}
use Rattle.slate_model.specs.declared.leases.Lease.{Lease}
use Rattle.slate_model.specs.declared.polls.PollHistory.{PollHistory}

-- What is put next is planned after the manifest that was read or put last; a reader that reads log files doesn't skip them.
abbrev pub IsStagedNext : Follower → Begun → Stage → Type 0
IsStagedNext reader begun (Puts next given replaces) = (last : VersionedManifest) × (begun.latest ≡ Some last) × (is_some begun.lease ≡ true) × IsPlanned last next
IsStagedNext reader begun AsksLast = reader.skips ≡ false
IsStagedNext reader begun (LooksAt id last) = reader.skips ≡ false
IsStagedNext reader begun (ReadsLog last) = reader.skips ≡ false
IsStagedNext reader begun ReadsAgain = reader.skips ≡ false
IsStagedNext reader begun stage = Unit {0}

-- it has the tables and the log files of that
pub planned-other : (last next : VersionedManifest) → IsPlanned last next → (checkpoints : List Checkpoint) × (next ≡ with_checkpoints checkpoints last)
planned-other last next (id, lifetime, moment, checkpoint, inl writes) = subst (Recheckpoints last) writes (write-recheckpoints (Some id) (Some lifetime) moment last)
planned-other last next (id, lifetime, moment, checkpoint, inr refreshes) = subst (Recheckpoints last) refreshes (refresh-recheckpoints id lifetime moment last)

module _ (stored : Line) (numbered : IsLine stored) (o : Objects) (reader : Follower) (P : Follower → Type 0) where
  abbrev pub kept : Follower
  kept = kept_follower reader

  -- the reader elsewhere
  abbrev pub at : VersionedManifest → (number mark : ℕ) → Option Lease → Follower
  at view n mark lease = record reader { view = view; line = up_to n stored; segments = []; mark = mark; lease = lease }

  abbrev pub at_begun : Begun → Follower
  at_begun b = at (view_of kept b) (reached_number b) b.mark b.lease

  -- How one that stands goes on by its view: to another number, where that is above the tables, and, for one that skips log files,
  -- no greater; and that it has seen the log files.
  pub record Ways : Type 0 where
    pub again : (view : VersionedManifest) (n m n' m' : ℕ) (lease lease' : Option Lease) → P (at view n m lease) → view.manifest.last_l0_seq ≤ n → view.manifest.last_l0_seq ≤ n' → stored.floor ≤ n' → n' ≤ end stored →
        is_some lease' ≡ is_managed reader.mode → (reader.skips ≡ true → n' ≤ n) → HasSeen o (at view n' m' lease') → P (at view n' m' lease')
    pub seen : (view : VersionedManifest) (n m : ℕ) (lease : Option Lease) → P (at view n m lease) → HasSeen o (at view n m lease)

  -- what a poll has come to
  pub record Come (W : VersionedManifest → Type 0) (b : Begun) : Type 0 where
    pub leased : is_some b.lease ≡ is_managed reader.mode
    pub after : b.keeps ≡ true → b.floor ≡ number kept
    pub base : base_of kept b ≤ (view_of kept b).manifest.last_l0_seq
    pub reached : (view_of kept b).manifest.last_l0_seq ≤ reached_number b
    pub low : stored.floor ≤ b.floor
    pub viewed : stored.floor ≤ (view_of kept b).manifest.last_l0_seq
    pub fresh : (rest : List Batch) × (batches_above b.floor stored.batches ≡ b.fresh ++ rest)
    pub within : reached_number b ≤ end stored
    pub stands : P (at_begun b)
    pub read : (last : VersionedManifest) → b.latest ≡ Some last → W last × (stored.floor ≤ last.manifest.last_l0_seq) × (last.manifest.last_l0_seq ≤ end stored) × P (at last last.manifest.last_l0_seq last.manifest.replay_after_wal_id b.lease)

  module _ (W : VersionedManifest → Type 0) (ways : Ways) where
    -- what a turn leaves
    abbrev pub Comes : Turn → Type 0
    Comes (Goes b) = Come W b × IsStagedNext reader b b.stage × (b.stage ≡ ReadsLatest → b ≡ begun_at b.moment b.overtaken b.history kept)
    Comes (Ends b) = Come W b
    Comes (Breaks b) = Come W b
    Comes (Fails error) = Unit {0}

    pub restaged : (b : Begun) (stage : Stage) (asked : Bool) → Come W b → Come W (record b { stage = stage; asked = asked })
    restaged b stage asked c = record { leased = c.leased; after = c.after; base = c.base; reached = c.reached; low = c.low; viewed = c.viewed; fresh = c.fresh; within = c.within; stands = c.stands; read = c.read }

    -- what is kept of its steps is another matter
    pub recounted : (b : Begun) (history : PollHistory) → Come W b → Come W (record b { history = history })
    recounted b history c = record { leased = c.leased; after = c.after; base = c.base; reached = c.reached; low = c.low; viewed = c.viewed; fresh = c.fresh; within = c.within; stands = c.stands; read = c.read }

    -- a plan for a checkpoint of the manifest that was read or put last
    put-comes : (l : VersionedManifest) (lifetime : ℕ) (p : Plan Checkpoint) (replaces : Bool) (b : Begun) → ((next : VersionedManifest) (checkpoint : Checkpoint) → p ≡ Ok (Some next, checkpoint) → IsPlanned l next) →
        b.latest ≡ Some l → is_some b.lease ≡ true → Come W b → Comes (put_by (leased lifetime p) replaces b)
    put-comes l lifetime (Ok (Some next, checkpoint)) replaces b planned is held c = (restaged b (Puts next (lease_of lifetime checkpoint) replaces) b.asked c, (l, is, held, planned next checkpoint refl), λ other. absurd (cc))
    put-comes l lifetime (Ok (None, checkpoint)) replaces b planned is held c = restaged b Ended b.asked c
    put-comes l lifetime (Err refusal) replaces b planned is held c = tt

    -- the log files are read
    pub replayed-comes : (l : VersionedManifest) (b : Begun) → b.latest ≡ Some l → Come W b → Comes (replayed l b)
    replayed-comes l b is c = by b.lease refl
      where
        asked : Begun
        asked = record b { asked = true }

        kept-comes : (lease : Lease) → is_some b.lease ≡ true → (there : Option Checkpoint) → Comes (kept_lease b.moment lease l there (record b { asked = true }))
        kept-comes lease held (Some checkpoint) =
            put-comes l lease.lifetime (to_refresh lease.id lease.lifetime b.moment l) false (record b { asked = true }) (λ next checkpoint gives. (lease.id, lease.lifetime, b.moment, checkpoint, inr gives)) is held (restaged b b.stage true c)
        kept-comes lease held None =
            put-comes l lease.lifetime (to_write (Some lease.id) (Some lease.lifetime) b.moment l) true (record b { asked = true }) (λ next checkpoint gives. (lease.id, lease.lifetime, b.moment, checkpoint, inl gives)) is held (restaged b b.stage true c)

        due : (lease : Lease) → is_some b.lease ≡ true → (x : Bool) → Comes (if x then kept_lease b.moment lease l (found lease.id l) (record b { asked = true }) else Ends (record b { stage = Ended }))
        due lease held true = kept-comes lease held (found lease.id l)
        due lease held false = restaged b Ended b.asked c

        by : (held : Option Lease) → b.lease ≡ held → Comes (asked_lease held l b)
        by None none = restaged b Ended b.asked c
        by (Some lease) some = due lease (ap is_some some) (not b.asked && is_due b.moment lease)

    -- a poll that replays from a manifest, under a view whose tables end where the manifest's do
    module _ (l : VersionedManifest) (b : Begun) (is : b.latest ≡ Some l) (leased_is : is_some b.lease ≡ is_managed reader.mode) (after_is : b.keeps ≡ true → b.floor ≡ number kept) (low : stored.floor ≤ b.floor)
        (fresh : (rest : List Batch) × (batches_above b.floor stored.batches ≡ b.fresh ++ rest)) (within : reached_number b ≤ end stored)
        (tabled : (view_of kept b).manifest.last_l0_seq ≡ l.manifest.last_l0_seq)
        (stands : P (at (view_of kept b) (view_of kept b).manifest.last_l0_seq l.manifest.replay_after_wal_id b.lease)) (seen : HasSeen o (at (view_of kept b) (reached_number b) b.mark b.lease))
        (read : W l × (stored.floor ≤ l.manifest.last_l0_seq) × (l.manifest.last_l0_seq ≤ end stored) × P (at l l.manifest.last_l0_seq l.manifest.replay_after_wal_id b.lease)) where
      abbrev view : VersionedManifest
      view = view_of kept b

      abbrev mark : ℕ
      mark = l.manifest.replay_after_wal_id

      viewed-low : stored.floor ≤ view.manifest.last_l0_seq
      viewed-low = let below = read.1 in omega (arith, below, tabled)

      viewed-high : view.manifest.last_l0_seq ≤ end stored
      viewed-high = let above = read.2 in omega (arith, above, tabled)

      its-read : (last : VersionedManifest) → b.latest ≡ Some last → W last × (stored.floor ≤ last.manifest.last_l0_seq) × (last.manifest.last_l0_seq ≤ end stored) × P (at last last.manifest.last_l0_seq last.manifest.replay_after_wal_id b.lease)
      its-read last at_last = let same : l ≡ last = cc in subst (λ v. W v × (stored.floor ≤ v.manifest.last_l0_seq) × (v.manifest.last_l0_seq ≤ end stored) × P (at v v.manifest.last_l0_seq v.manifest.replay_after_wal_id b.lease)) same read

      emptied-comes : Come W (emptied kept mark b)
      emptied-comes = record {
        leased = leased_is;
        after = λ no_keeps. absurd (cc);
        base = omega arith;
        reached = omega arith;
        low = viewed-low;
        viewed = viewed-low;
        fresh = (batches_above view.manifest.last_l0_seq stored.batches, refl);
        within = omega (arith, viewed-high);
        stands = subst (λ n. P (at view n mark b.lease)) (let e : view.manifest.last_l0_seq ≡ view.manifest.last_l0_seq + 0 = omega arith in e) stands;
        read = its-read;
      }

      leading : (base_of kept b ≤ view.manifest.last_l0_seq) → (view.manifest.last_l0_seq ≤ reached_number b) → reader.skips ≡ false → Come W (record b { stage = AsksLast; mark = max b.mark mark })
      leading base reached reads =
          let n = reached_number b in
          let floor_low : stored.floor ≤ n = omega (arith, viewed-low, reached) in
          let here = front-end stored numbered n floor_low within in
          let there = front-end stored numbered view.manifest.last_l0_seq viewed-low viewed-high in
          record {
            leased = leased_is;
            after = after_is;
            base = base;
            reached = reached;
            low = low;
            viewed = viewed-low;
            fresh = fresh;
            within = within;
            stands = ways.again view view.manifest.last_l0_seq mark n (max b.mark mark) b.lease b.lease stands (omega arith) reached floor_low within leased_is (λ skips. absurd (cc))
                (seen-both o (at view n b.mark b.lease) (at view view.manifest.last_l0_seq mark b.lease) (at view n (max b.mark mark) b.lease) refl (omega arith) (omega (arith, here, there, reached)) seen (ways.seen _ _ _ _ stands));
            read = its-read;
          }

      pub replaying-comes : Comes (replaying kept l b)
      replaying-comes = by reader.skips (leads_on kept b) refl refl
        where
          both : (x y : Bool) → (x && y) ≡ true → (x ≡ true) × (y ≡ true)
          both true true all = (refl, refl)
          both true false all = absurd (cc)
          both false y all = absurd (cc)

          by : (skips leads : Bool) → reader.skips ≡ skips → leads_on kept b ≡ leads →
              Comes (if skips then replayed l (emptied kept mark b) else (if leads then Goes (record b { stage = AsksLast; mark = max b.mark mark }) else Goes (record (emptied kept mark b) { stage = AsksLast })))
          by true leads skips on = replayed-comes l (emptied kept mark b) is emptied-comes
          by false true reads on =
              let parts = both (nat_le (base_of kept b) view.manifest.last_l0_seq) (nat_le view.manifest.last_l0_seq (reached_number b)) on in
              let base : base_of kept b ≤ view.manifest.last_l0_seq = leb-true (base_of kept b) view.manifest.last_l0_seq parts.0 in
              let reached : view.manifest.last_l0_seq ≤ reached_number b = leb-true view.manifest.last_l0_seq (reached_number b) parts.1 in
              (leading base reached reads, reads, λ other. absurd (cc))
          by false false reads on = (restaged (emptied kept mark b) AsksLast b.asked emptied-comes, reads, λ other. absurd (cc))

    -- ---- what each call leads to
    -- a poll in a stage as it was, with other batches, another mark or another manifest read
    pub reread : (b : Begun) (l : VersionedManifest) → Come W b → (W l × (stored.floor ≤ l.manifest.last_l0_seq) × (l.manifest.last_l0_seq ≤ end stored) × P (at l l.manifest.last_l0_seq l.manifest.replay_after_wal_id b.lease)) →
        Come W (record b { stage = Ended; latest = Some l })
    reread b l c read = record {
      leased = c.leased;
      after = c.after;
      base = c.base;
      reached = c.reached;
      low = c.low;
      viewed = c.viewed;
      fresh = c.fresh;
      within = c.within;
      stands = c.stands;
      read = λ last at_last. let same : l ≡ last = cc in subst (λ v. W v × (stored.floor ≤ v.manifest.last_l0_seq) × (v.manifest.last_l0_seq ≤ end stored) × P (at v v.manifest.last_l0_seq v.manifest.replay_after_wal_id b.lease)) same read;
    }

    -- it has read on, to a mark up to which that is seen
    pub read-on : (b : Begun) (stage : Stage) (fresh : List Batch) (mark : ℕ) → Come W b → reached_number b ≤ b.floor + length fresh → (rest : List Batch) × (batches_above b.floor stored.batches ≡ fresh ++ rest) → b.floor + length fresh ≤ end stored →
        (reader.skips ≡ false) → HasSeen o (at (view_of kept b) (b.floor + length fresh) mark b.lease) → Come W (record b { stage = stage; fresh = fresh; mark = mark })
    read-on b stage fresh mark c up rest within reads seen =
        let low = c.low in
        let reached = c.reached in
        record {
          leased = c.leased;
          after = c.after;
          base = c.base;
          reached = omega (arith, reached, up);
          low = c.low;
          viewed = c.viewed;
          fresh = rest;
          within = within;
          stands = ways.again (view_of kept b) (reached_number b) b.mark (b.floor + length fresh) mark b.lease b.lease c.stands c.reached (omega (arith, reached, up)) (omega (arith, low)) within c.leased (λ skips. absurd (cc)) seen;
          read = c.read;
        }

    -- a manifest was put that follows this one, and gives a lease
    pub committed-comes : (next : VersionedManifest) (given : Lease) (replaces : Bool) (b : Begun) → Come W b → is_managed reader.mode ≡ true →
        (W next × (stored.floor ≤ next.manifest.last_l0_seq) × (next.manifest.last_l0_seq ≤ end stored) × P (at next next.manifest.last_l0_seq next.manifest.replay_after_wal_id (Some given))) →
        Comes (committed kept next given replaces b)
    committed-comes next given true b c managed read =
        replaying-comes next (record b { view = Some next; latest = Some next; lease = Some given }) refl (sym managed) c.after c.low c.fresh c.within refl read.3
        (seen-as o (at (view_of kept b) (reached_number b) b.mark b.lease) (at next (reached_number b) b.mark (Some given)) refl (omega arith) (ways.seen _ _ _ _ c.stands)) read
    committed-comes next given false b c managed read =
        let low = c.low in
        record {
          leased = sym managed;
          after = c.after;
          base = c.base;
          reached = c.reached;
          low = c.low;
          viewed = c.viewed;
          fresh = c.fresh;
          within = c.within;
          stands = ways.again (view_of kept b) (reached_number b) b.mark (reached_number b) b.mark b.lease (Some given) c.stands c.reached c.reached (omega (arith, low)) c.within (sym managed) (λ skips. omega arith)
              (seen-as o (at (view_of kept b) (reached_number b) b.mark b.lease) (at (view_of kept b) (reached_number b) b.mark (Some given)) refl (omega arith) (ways.seen _ _ _ _ c.stands));
          read = λ last at_last. let same : next ≡ last = cc in subst (λ v. W v × (stored.floor ≤ v.manifest.last_l0_seq) × (v.manifest.last_l0_seq ≤ end stored) × P (at v v.manifest.last_l0_seq v.manifest.replay_after_wal_id (Some given))) same read;
        }

    -- the latest manifest was read again
    pub again-comes : (l : VersionedManifest) (b : Begun) → Come W b → (W l × (stored.floor ≤ l.manifest.last_l0_seq) × (l.manifest.last_l0_seq ≤ end stored) × P (at l l.manifest.last_l0_seq l.manifest.replay_after_wal_id b.lease)) →
        Comes (read_again l (record b { stage = Ended }))
    again-comes l b c read = by (nat_lt b.mark l.manifest.replay_after_wal_id)
      where
        by : (x : Bool) → Comes (if x then Breaks (record b { stage = Ended }) else replayed l (record b { stage = Ended; latest = Some l }))
        by true = restaged b Ended b.asked c
        by false = replayed-comes l (record b { stage = Ended; latest = Some l }) refl (reread b l c read)

    -- ---- a poll that begins
    module _ (leased_is : is_some reader.lease ≡ is_managed reader.mode) (number_is : number kept ≡ number reader) (low : stored.floor ≤ number reader) (within : number reader ≤ end stored) (viewed : stored.floor ≤ reader.view.manifest.last_l0_seq)
        (reached : reader.view.manifest.last_l0_seq ≤ number reader) (whole : P (at reader.view (number reader) reader.mark reader.lease)) (moment : ℤ) (overtaken : ℕ) (history : PollHistory) where
      abbrev start : Begun
      start = begun_at moment overtaken history kept

      number-start : reached_number start ≡ number reader
      number-start = (let e = number_is in omega (arith, e))

      pub start-comes : Come W start
      start-comes = record {
        leased = leased_is;
        after = λ keeps. refl;
        base = omega arith;
        reached = (let e = number-start in omega (arith, e, reached));
        low = omega (arith, number_is, low);
        viewed = viewed;
        fresh = (batches_above start.floor stored.batches, refl);
        within = (let e = number-start in omega (arith, e, within));
        stands = subst (λ n. P (at reader.view n reader.mark reader.lease)) (sym number-start) whole;
        read = λ last at_last. absurd (cc);
      }

      start-seen : (view : VersionedManifest) → HasSeen o (at view (reached_number start) reader.mark reader.lease)
      start-seen view =
          let e = number-start in
          seen-as o (at reader.view (number reader) reader.mark reader.lease) (at view (reached_number start) reader.mark reader.lease) refl
          (let n = ap (λ n. end (up_to n stored)) e in omega (arith, n)) (ways.seen _ _ _ _ whole)

      same-tabled : (latest : VersionedManifest) → differs reader.view latest ≡ false → reader.view.manifest.last_l0_seq ≡ latest.manifest.last_l0_seq
      same-tabled latest same = eqb-true reader.view.manifest.last_l0_seq latest.manifest.last_l0_seq (middle _ _ _ same)
        where
          middle : (a b c : Bool) → not (a && b && c) ≡ false → b ≡ true
          middle true true true is = refl
          middle true true false is = absurd (cc)
          middle true false c is = absurd (cc)
          middle false b c is = absurd (cc)

      -- it is decided by the latest manifest
      pub decided-comes : (l : VersionedManifest) → (W l × (stored.floor ≤ l.manifest.last_l0_seq) × (l.manifest.last_l0_seq ≤ end stored) × P (at l l.manifest.last_l0_seq l.manifest.replay_after_wal_id reader.lease)) →
          Comes (decided kept l reader.lease (record start { stage = Ended }))
      decided-comes l read = by reader.lease refl
        where
          begun : Begun
          begun = record start { stage = Ended; latest = Some l }

          rereads : Come W (record start { stage = Ended; latest = Some l })
          rereads = reread start l start-comes read

          kept_view : differs reader.view l ≡ false → Comes (replaying kept l (record start { stage = Ended; latest = Some l }))
          kept_view same =
              let tabled = same-tabled l same in
              let n = reader.view.manifest.last_l0_seq in
              let high : n ≤ end stored = omega (arith, reached, within) in
              let here = front-end stored numbered n viewed high in
              let there = front-end stored numbered l.manifest.last_l0_seq read.1 read.2 in
              let seen = seen-as o (at l l.manifest.last_l0_seq l.manifest.replay_after_wal_id reader.lease) (at reader.view n l.manifest.replay_after_wal_id reader.lease) refl (omega (arith, here, there, tabled)) (ways.seen _ _ _ _ read.3) in
              replaying-comes l (record start { stage = Ended; latest = Some l }) refl leased_is (λ keeps. refl) (omega (arith, number_is, low)) (batches_above start.floor stored.batches, refl) (start-comes.within) tabled
              (ways.again reader.view (number reader) reader.mark n l.manifest.replay_after_wal_id reader.lease reader.lease whole reached (omega arith) viewed high leased_is (λ skips. reached) seen)
              (start-seen reader.view) read

          some-comes : (lease : Lease) → is_some reader.lease ≡ true → (x : Bool) → differs reader.view l ≡ x →
              Comes (if x then put_by (leased lease.lifetime (to_write (Some lease.id) (Some lease.lifetime) moment l)) true (record start { stage = Ended; latest = Some l }) else replaying kept l (record start { stage = Ended; latest = Some l }))
          some-comes lease held true other =
              put-comes l lease.lifetime (to_write (Some lease.id) (Some lease.lifetime) moment l) true (record start { stage = Ended; latest = Some l }) (λ next checkpoint gives. (lease.id, lease.lifetime, moment, checkpoint, inl gives)) refl held rereads
          some-comes lease held false same = kept_view same

          by : (held : Option Lease) → reader.lease ≡ held → Comes (decided kept l held (record start { stage = Ended }))
          by None none =
              replaying-comes l (record start { stage = Ended; view = Some l; latest = Some l }) refl leased_is (λ keeps. refl) (omega (arith, number_is, low)) (batches_above start.floor stored.batches, refl) (start-comes.within) refl read.3 (start-seen l) read
          by (Some lease) some = some-comes lease (ap is_some some) (differs reader.view l) refl

    -- a poll that was overtaken begins anew, or ends
    pub overtaken-comes : (b : Begun) → ((moment : ℤ) (overtaken : ℕ) (history : PollHistory) → Come W (begun_at moment overtaken history kept)) → Comes (overtaken_by kept b)
    overtaken-comes b start = by (b.overtaken == 7)
      where
        by : (x : Bool) → Comes (if x then Fails (errors.TransactionalObjectTimeout 8) else Goes (begun_at b.moment (b.overtaken + 1) b.history kept))
        by true = tt
        by false = (start b.moment (b.overtaken + 1) b.history, tt, λ is. refl)

    -- the last log file was asked for
    pub asked-comes : (last : ℕ) (b : Begun) → Come W b → reader.skips ≡ false → Comes (Goes (asked_last kept last (record b { stage = Ended })))
    asked-comes last b c reads = by (nat_lt b.mark last)
      where
        counted : Begun
        counted = record b { history = with_log last b.history }

        first : (x : Bool) → Comes (Goes (record b { stage = (if x then ReadsLog last else LooksAt last last); history = with_log last b.history }))
        first true = (restaged counted (ReadsLog last) b.asked (recounted b counted.history c), reads, λ other. absurd (cc))
        first false = (restaged counted (LooksAt last last) b.asked (recounted b counted.history c), reads, λ other. absurd (cc))

        by : (x : Bool) → Comes (Goes (if x then record b { stage = first_log kept last; history = with_log last b.history } else record b { stage = ReadsAgain }))
        by true = first (kept.lag == 0)
        by false = (restaged b ReadsAgain b.asked c, reads, λ other. absurd (cc))

    -- a log file was looked at
    pub looked-comes : (l : VersionedManifest) (id last : ℕ) (batches : List Batch) (b : Begun) → b.latest ≡ Some l → Come W b → reader.skips ≡ false → Comes (looked_at kept l id last batches (record b { stage = Ended }))
    looked-comes l id last batches b is c reads = by (nat_lt (reached_number b + kept.lag) newest) (nat_lt (reached_number b) newest || id == b.mark + 1)
      where
        newest : ℕ
        newest = greatest_number batches

        by : (x y : Bool) → Comes (if x then Goes (record b { stage = ReadsLog last }) else (if y then replayed l (record b { stage = Ended }) else Goes (record b { stage = LooksAt (id - 1) last })))
        by true y = (restaged b (ReadsLog last) b.asked c, reads, λ other. absurd (cc))
        by false true = replayed-comes l (record b { stage = Ended }) is (restaged b Ended b.asked c)
        by false false = (restaged b (LooksAt (id - 1) last) b.asked c, reads, λ other. absurd (cc))

    -- ---- what the reader becomes, of which the code keeps a part
    module _ (whole : reader.line ≡ up_to (number reader) stored) (number_is : number kept ≡ number reader) (b : Begun) (c : Come W b) where
      abbrev tabled : ℕ
      tabled = (view_of kept b).manifest.last_l0_seq

      abbrev read_before : List Batch
      read_before = take (b.floor - stored.floor) stored.batches

      floor-within : b.floor ≤ end stored
      floor-within = let up = c.within in omega (arith, up)

      parts : take (reached_number b - stored.floor) stored.batches ≡ read_before ++ b.fresh
      parts = fresh-front stored numbered b.floor b.fresh (c.fresh).0 c.low floor-within (c.fresh).1

      both-above : batches_above tabled (take (reached_number b - stored.floor) stored.batches) ≡ batches_above tabled read_before ++ batches_above tabled b.fresh
      both-above = ap (batches_above tabled) parts ∙ above-append tabled read_before b.fresh

      batches-are : kept_batches kept b ≡ batches_above tabled (take (reached_number b - stored.floor) stored.batches)
      batches-are = by b.keeps refl ∙ sym both-above
        where
          by : (keeps : Bool) → b.keeps ≡ keeps → batches_above tabled ((if keeps then kept.line.batches else []) ++ b.fresh) ≡ batches_above tabled read_before ++ batches_above tabled b.fresh
          by true keeps =
              let base : reader.view.manifest.last_l0_seq ≤ tabled = subst (λ x. (if x then kept.view.manifest.last_l0_seq else b.floor) ≤ tabled) keeps c.base in
              let floor : b.floor ≡ number reader = c.after keeps ∙ number_is in
              let mine : reader.line.batches ≡ read_before = ap (λ (l : Line). l.batches) whole ∙ ap (λ n. take (n - stored.floor) stored.batches) (sym floor) in
              above-append tabled kept.line.batches b.fresh
              ∙ ap (λ xs. xs ++ batches_above tabled b.fresh) (above-twice reader.view.manifest.last_l0_seq tabled reader.line.batches base ∙ ap (batches_above tabled) mine)
          by false drops =
              let base : b.floor ≤ tabled = subst (λ x. (if x then kept.view.manifest.last_l0_seq else b.floor) ≤ tabled) drops c.base in
              let count = length-take (b.floor - stored.floor) stored.batches in
              let low = c.low in
              let none : batches_above tabled read_before ≡ [] = above-none stored.floor tabled read_before (numbered-take stored.floor (b.floor - stored.floor) stored.batches numbered) (omega (arith, count, low, base)) in
              ap (λ xs. xs ++ batches_above tabled b.fresh) (sym none)

      floor-is : end (up_to (reached_number b) stored) - length (batches_above tabled (take (reached_number b - stored.floor) stored.batches)) ≡ tabled
      floor-is =
          let low = c.low in
          let reached = c.reached in
          let viewed = c.viewed in
          let within = c.within in
          let here = front-end stored numbered (reached_number b) (omega (arith, low)) within in
          let split = ap (λ (xs : List Batch). length xs) (front-split stored numbered tabled (reached_number b) reached) in
          let joined = length-append (take (tabled - stored.floor) stored.batches) (batches_above tabled (take (reached_number b - stored.floor) stored.batches)) in
          let first = length-take (tabled - stored.floor) stored.batches in
          let all = length-take (reached_number b - stored.floor) stored.batches in
          omega (arith, here, split, joined, first, all, reached, viewed, within, low)

      pub arrived-kept : arrived kept b ≡ kept_follower (at_begun b)
      arrived-kept =
          let line : record { floor = tabled; batches = kept_batches kept b } ≡ line_above tabled (up_to (reached_number b) stored) =
          ap (λ bs. record { floor = tabled; batches = bs }) batches-are ∙ ap (λ n. record { floor = n; batches = batches_above tabled (take (reached_number b - stored.floor) stored.batches) }) (sym floor-is) in
          ap (λ (l : Line). record reader { view = view_of kept b; line = l; segments = []; mark = b.mark; lease = b.lease }) line
