-- A begun poll lasts from call to call, in few steps, and why it ends.
use Rattle.std.proofs.Common.{◌≡◌, ◌≢◌, ◌∙◌, ℕ, ℤ, ◌+◌, ◌-◌, ◌*◌, ◌<◌, ◌≤◌, ◌&&◌, ◌||◌, ◌==◌, max, not, inl, inr, Bool, true, false, if◌then◌else◌, List, [], ◌∷◌, ◌++◌, length, Option, Some, None, Result, Ok, Err, refl, sym, ap, subst, arith}
use Rattle.std.proofs.Math.Nat.{mul-le-mul_left, suc-mul}
use Rattle.std.proofs.Math.Numerals.{add-one}
use Rattle.std.proofs.lemmas.Bool.{cases_lt, eq-eqb, leb-true, ltb-true}
use Rattle.std.specs.List.{All}
use Rattle.std.proofs.lemmas.List.Elements.{All-cons, All-head, All-nil, All-tail}
use Rattle.std.specs.Option.{IfSome, MatchOption}
use Rattle.std.specs.Prelude.{IsSomeAnd, nat_le, nat_lt, unwrap_or}
use Rattle.slate_types.specs.declared.batches.Batch.{Batch}
use Rattle.slate_types.specs.Line.{Line, end}
use Rattle.slate_store.specs.Checkpoints.{Plan, found, to_refresh, to_write, with_checkpoints}
use Rattle.slate_store.specs.Content.{IsSound, content}
use Rattle.slate_store.specs.Logs.{AreWhole, HaveGap, HaveNoGap}
use Rattle.slate_store.specs.Objects.{Objects, PutManifest, changed, is_present, last_log, latest_manifest, log_at}
use Rattle.slate_store.proofs.Entries.{absent}
use Rattle.slate_store.proofs.Logs.{untruncated, whole-start}
use Rattle.slate_store.specs.declared.objects.Checkpoint.{Checkpoint}
use Rattle.slate_store.specs.declared.objects.VersionedManifest.{VersionedManifest}
use Rattle.slate_errors.specs.declared.errors.SlateError.{SlateError}
use Rattle.slate_errors.specs.declared.errors.SlateError.TheVariants as errors
use Rattle.slate_replay.specs.Replay.{ReplaysNext}
use Rattle.slate_replay.specs.declared.replays.Replayed.TheVariants as replays
use Rattle.slate_model.specs.Begun.{AsksLast, Begun, Breaks, Ended, Ends, Fails, Goes, LooksAt, Puts, ReadsAgain, ReadsLatest, ReadsLog, Stage, Turn, asked_last, asked_lease, begun_at, committed, decided, emptied, first_log, first_of, greatest_number, kept_lease, leads_on, looked_at, no_step, noted, overtaken_by, put_by, reached_number, read_again, read_log, replayed, replaying, taken, view_of, with_log, with_step}
use Rattle.slate_model.specs.Follower.{Follower, rebuilt}
use Rattle.slate_model.specs.Known.{IsContent}
use Rattle.slate_model.specs.declared.answers.PollAnswer.{PollAnswer}
use Rattle.slate_model.specs.declared.answers.PollAnswer.TheVariants as answers
use Rattle.slate_types.specs.Modelled.{WhereModelled}
use Rattle.slate_model.specs.Lease.{differs, is_due, lease_of, leased}
use Rattle.slate_model.specs.Seen.{HasSeen}
use Rattle.slate_model.specs.Stood.{IsPlanned, WasLatest}
use Rattle.slate_model.specs.declared.leases.Lease.{Lease}
use Rattle.slate_model.specs.declared.polls.FirstRead.{FirstRead}
use Rattle.slate_model.specs.declared.polls.PollHistory.{PollHistory}
use Rattle.slate_model.proofs.Coming.{planned-other}
use Rattle.slate_model.proofs.Fronts.{last-there, seen-as, seen-both, seen-log, stored-below}
use Rattle.slate_model.proofs.Logging.{LogsFollow, all-seen, none-seen, stay-follow}
use Rattle.slate_model.proofs.Maintained.{Maintained}
use Rattle.slate_model.proofs.Moving.{Follows}
use Rattle.slate_model.proofs.Putting.{put-maintains, was-put}
use Rattle.slate_model.proofs.Reduced.{some-same}
use Rattle.slate_model.proofs.Reopened.{logs-by}
use Rattle.slate_follow.specs.Following.{FollowsLine, IsReplaying, StandsAt}
use Rattle.slate_follow.specs.Lasting.{IsFew, IsSince, TablesGrew, TablesStay, Lasts, LastsAt, LastsOn, LastsSince, OthersAct, WasRead, at_tables, come_to, most_logs, most_readings, most_steps, steps_since}
use Rattle.slate_follow.specs.Stepping.{LooksTo, Meets, MeetsAt, Steps}
use Rattle.slate_follow.proofs.Rebuilt.{if_some}
use Rattle.slate_follow.proofs.Lagging.{readings-more, readings-once, readings-twice}
use Rattle.slate_follow.proofs.Later.{later-whole}
use Rattle.slate_follow.proofs.Following.{no-gap-rises, same-tables}
use Rattle.slate_follow.proofs.Plain.{Plain, replayed-plain, decided-plain, committed-plain, read-plain, looked-plain}

-- ---- counts
one-more-of : (k x : ℕ) → (k + 1) * x ≡ k * x + x
one-more-of k x = ap (λ n. n * x) (add-one k) ∙ suc-mul k x

-- so many steps, in the try after so many overtaken ones
abbrev Paced : (lag : ℕ) → FirstRead → Begun → ℕ → Type 0
Paced lag first b count = b.history.steps ≤ b.overtaken * most_steps lag first b.history + count

if-low : (asked : Bool) (n low a c : ℕ) → n ≤ low → low ≤ a → low ≤ c → n ≤ (if asked then a else c)
if-low true n low a c up first second = omega (arith, up, first)
if-low false n low a c up first second = omega (arith, up, second)

if-more : (asked : Bool) (a c a' c' more : ℕ) → a + more ≤ a' → c + more ≤ c' → (if asked then a else c) + more ≤ (if asked then a' else c')
if-more true a c a' c' more first second = first
if-more false a c a' c' more first second = second

if-within : (asked : Bool) (a c high : ℕ) → a ≤ high → c ≤ high → (if asked then a else c) ≤ high
if-within true a c high first second = first
if-within false a c high first second = second

-- a longer list of log files leaves it so
paced-grown : (k x x' n c c' : ℕ) → x ≤ x' → c ≤ c' → n ≤ k * x + c → n ≤ k * x' + c'
paced-grown k x x' n c c' up more paced = let p = mul-le-mul_left k up in omega (arith, p, more, paced)

step-paced : (s s' p c c' : ℕ) → s' ≤ s + 1 → c + 1 ≤ c' → s ≤ p + c → s' ≤ p + c'
step-paced s s' p c c' one more paced = omega (arith, one, more, paced)

again-paced : (k x n g : ℕ) → x ≡ 2 * g + 8 → n ≤ k * x + (5 + g) → n ≤ (k + 1) * x + 0
again-paced k x n g is paced = let e = one-more-of k x in omega (arith, e, is, paced)

few-paced : (k x n c : ℕ) → c < x → n ≤ k * x + c → n < (k + 1) * x
few-paced k x n c less paced = let e = one-more-of k x in omega (arith, e, less, paced)

-- ---- what is seen
-- the tables of the latest manifest, up to its replay mark
latest-seen : (o : Objects) (reader : Follower) (l : VersionedManifest) → latest_manifest o ≡ Some l → HasSeen o (at_tables reader l)
latest-seen o reader l is =
    let line : Line = record { floor = l.manifest.last_l0_seq; batches = [] } in
    seen-as o (rebuilt reader.mode reader.skips reader.lag l line l.manifest.replay_after_wal_id) (at_tables reader l) refl (omega arith) (none-seen o l reader.mode reader.skips reader.lag line is)

since-then : (first : FirstRead) (l l' : VersionedManifest) → IsSince first l → IsSince (first_of l) l' → IsSince first l'
since-then first l l' a b = record {
  tabled = (let low = a.tabled in let up = b.tabled in omega (arith, low, up));
  mark = (let low = a.mark in let up = b.mark in omega (arith, low, up));
  same = λ tabled.
      let low = a.tabled in
      let up = b.tabled in
      let here : l.manifest.last_l0_seq ≡ first.last_l0_seq = omega (arith, low, up, tabled) in
      b.same (tabled ∙ sym here) ∙ a.same here;
}

-- the first manifest came after itself
since-itself : (l : VersionedManifest) → IsSince (first_of l) l
since-itself l = record { tabled = omega arith; mark = omega arith; same = λ tabled. refl }

-- ---- what others do
module _ (o o' : Objects) (act : OthersAct o o') where
  act-seen : (l : VersionedManifest) → latest_manifest o ≡ Some l → (f : Follower) → HasSeen o f → HasSeen o' f
  act-seen l is f seen = record {
    mark = λ found at. (let low = seen.mark l is in let up = act.last l found is at in omega (arith, low, up));
    logs = λ found id bs at over under there.
        let next = act.latest l is in
        let same : next.0 ≡ found = some-same next.0 found (sym next.1 ∙ at) in
        let e = ap (λ (x : VersionedManifest). x.manifest.replay_after_wal_id) same in
        let up = (next.2).mark in
        let low = seen.mark l is in
        seen.logs l id bs is (omega (arith, e, up, over)) under (sym (act.logs l found id is at over (omega (arith, under, low))) ∙ there);
  }

  module _ (reader : Follower) (b : Begun) where
    -- a log file that is there stays so while no table is put
    act-there : (first : FirstRead) (l : VersionedManifest) → latest_manifest o ≡ Some l → IsSince first l → (last : ℕ) → first.replay_after_wal_id ≤ b.mark → b.mark < last → (TablesStay first o → log_at last o ≢ None) → TablesStay first o' → log_at last o' ≢ None
    act-there first l is since last low below there untabled none =
        let next = act.latest l is in
        let same : next.0 ≡ untabled.0 = some-same next.0 untabled.0 (sym next.1 ∙ untabled.1) in
        let tabled : (next.0).manifest.last_l0_seq ≡ first.last_l0_seq = ap (λ (x : VersionedManifest). x.manifest.last_l0_seq) same ∙ untabled.2 in
        let up = (next.2).tabled in
        let least = since.tabled in
        let here : l.manifest.last_l0_seq ≡ first.last_l0_seq = omega (arith, up, least, tabled) in
        let mark : (next.0).manifest.replay_after_wal_id ≡ first.replay_after_wal_id = (next.2).same (tabled ∙ sym here) ∙ since.same here in
        there (l, is, here) (by (log_at last o) refl mark next.1 none)
      where
        by : (log : Option (List Batch)) → log_at last o ≡ log → {n : VersionedManifest} → n.manifest.replay_after_wal_id ≡ first.replay_after_wal_id → latest_manifest o' ≡ Some n → log_at last o' ≡ None → log_at last o ≡ None
        by None log mark next none = log
        by (Some bs) log {n} mark next none =
            let within = stored-below l.manifest.replay_after_wal_id last bs o.logs log in
            sym (act.logs l n last is next (omega (arith, mark, low, below)) within) ∙ none

    act-next : (first : FirstRead) (l : VersionedManifest) → latest_manifest o ≡ Some l → IsSince first l → (stage : Stage) → LastsAt reader.lag stage first o b → LastsAt reader.lag stage first o' b
    act-next first l is since (Puts next given replaces) at = at
    act-next first l is since AsksLast at = at
    act-next first l is since (LooksAt id last) (may, low, below, within, high, there) = (may, low, below, within, high, act-there first l is since last low (omega (arith, below, within)) there)
    act-next first l is since (ReadsLog last) (low, below, high, there) = (low, below, high, act-there first l is since last low below there)
    act-next first l is since ReadsAgain at = at
    act-next first l is since ReadsLatest at = tt
    act-next first l is since Ended at = tt

    act-since : (first : FirstRead) (l : VersionedManifest) → latest_manifest o ≡ Some l → LastsSince first o reader b → LastsSince first o' reader b
    act-since first l is s = record {
      since = λ found at.
          let next = act.latest l is in
          since-then first l found (s.since l is) (subst (IsSince (first_of l)) (some-same next.0 found (sym next.1 ∙ at)) next.2);
      read = λ manifest at. let r = s.read manifest at in (act.were manifest r.0, r.1, act-seen l is (at_tables reader manifest) r.2);
      next = act-next first l is (s.since l is) b.stage s.next;
      paced = s.paced;
    }

    -- a poll lasts after that
    pub act-lasts : Lasts o reader b → Lasts o' reader b
    act-lasts s =
        let l = (s.latest).0 in
        let is = (s.latest).1 in
        let next = act.latest l is in
        record { latest = (next.0, next.1); own = act-seen l is reader s.own; seen = act-seen l is (come_to reader b) s.seen; since = by l is b.history.first s.since }
      where
        by : (l : VersionedManifest) → latest_manifest o ≡ Some l → (first : Option FirstRead) → MatchOption first ((b.stage ≡ ReadsLatest) × (b.history.steps ≡ 0)) (λ first. LastsSince first o reader b) →
            MatchOption first ((b.stage ≡ ReadsLatest) × (b.history.steps ≡ 0)) (λ first. LastsSince first o' reader b)
        by l is None start = start
        by l is (Some first) since = act-since first l is since

pub others-last : (o o' : Objects) (reader : Follower) (b : Begun) → OthersAct o o' → Lasts o reader b → Lasts o' reader b
others-last o o' reader b act = act-lasts o o' act reader b

-- ---- a poll that begins
pub begins-last : (o : Objects) (latest : VersionedManifest) (reader : Follower) (moment : ℤ) → latest_manifest o ≡ Some latest → HasSeen o reader → Lasts o reader (begun_at moment 0 no_step reader)
begins-last o latest reader moment is seen = record {
  latest = (latest, is);
  own = seen;
  seen = seen-as o reader (come_to reader (begun_at moment 0 no_step reader)) refl (omega arith) seen;
  since = (refl, refl);
}

-- ---- what a call leads to
module _ (first : FirstRead) (o : Objects) (l0 : VersionedManifest) (there : latest_manifest o ≡ Some l0) (reader : Follower) (own : HasSeen o reader)
    (since : (l : VersionedManifest) → latest_manifest o ≡ Some l → IsSince first l) where
  abbrev Left : Turn → Type 0
  Left (Goes b) = Lasts o reader b
  Left turn = Unit {0}

  -- what a poll has before its next call is decided
  record Ready (b : Begun) : Type 0 where
    its : b.history.first ≡ Some first
    seen : HasSeen o (come_to reader b)
    read : (manifest : VersionedManifest) → b.latest ≡ Some manifest → WasRead first o reader manifest

  goes-left : (b : Begun) → Ready b → LastsAt reader.lag b.stage first o b → Paced reader.lag first b (steps_since reader.lag b.stage first b) → Left (Goes b)
  goes-left b r next paced = record {
    latest = (l0, there);
    own = own;
    seen = r.seen;
    since = subst (λ (f : Option FirstRead). MatchOption f ((b.stage ≡ ReadsLatest) × (b.history.steps ≡ 0)) (λ first. LastsSince first o reader b)) (sym r.its)
        (record { since = since; read = r.read; next = next; paced = paced });
  }

  -- with one manifest read
  read-one : (b : Begun) (l : VersionedManifest) → b.latest ≡ Some l → WasRead first o reader l → (manifest : VersionedManifest) → b.latest ≡ Some manifest → WasRead first o reader manifest
  read-one b l is was manifest at = subst (WasRead first o reader) (some-same l manifest (sym is ∙ at)) was

  put-left : (l : VersionedManifest) (lifetime : ℕ) (p : Plan Checkpoint) (replaces : Bool) (b : Begun) → ((next : VersionedManifest) (checkpoint : Checkpoint) → p ≡ Ok (Some next, checkpoint) → IsPlanned l next) →
      b.latest ≡ Some l → Ready b → Paced reader.lag first b (if b.asked then 4 + most_readings reader.lag first b.history else 1) → Left (put_by (leased lifetime p) replaces b)
  put-left l lifetime (Ok (Some next, checkpoint)) replaces b planned is r paced =
      goes-left (record b { stage = Puts next (lease_of lifetime checkpoint) replaces }) (record { its = r.its; seen = r.seen; read = r.read }) (l, is, planned next checkpoint refl) paced
  put-left l lifetime (Ok (None, checkpoint)) replaces b planned is r paced = tt
  put-left l lifetime (Err refusal) replaces b planned is r paced = tt

  replayed-left : (l : VersionedManifest) (b : Begun) → b.latest ≡ Some l → Ready b → (b.asked ≡ false → Paced reader.lag first b (4 + most_readings reader.lag first b.history)) → Left (replayed l b)
  replayed-left l b is r paced = by b.lease
    where
      asked : Ready (record b { asked = true })
      asked = record { its = r.its; seen = r.seen; read = r.read }

      kept-by : b.asked ≡ false → (lease : Lease) (there : Option Checkpoint) → Left (kept_lease b.moment lease l there (record b { asked = true }))
      kept-by unasked lease (Some checkpoint) =
          put-left l lease.lifetime (to_refresh lease.id lease.lifetime b.moment l) false (record b { asked = true }) (λ next checkpoint gives. (lease.id, lease.lifetime, b.moment, checkpoint, inr gives)) is asked (paced unasked)
      kept-by unasked lease None =
          put-left l lease.lifetime (to_write (Some lease.id) (Some lease.lifetime) b.moment l) true (record b { asked = true }) (λ next checkpoint gives. (lease.id, lease.lifetime, b.moment, checkpoint, inl gives)) is asked (paced unasked)

      is-unasked : (asked due : Bool) → (not asked && due) ≡ true → asked ≡ false
      is-unasked false due e = refl
      is-unasked true due e = absurd (cc)

      due : (lease : Lease) (x : Bool) → (not b.asked && is_due b.moment lease) ≡ x → Left (if x then kept_lease b.moment lease l (found lease.id l) (record b { asked = true }) else Ends (record b { stage = Ended }))
      due lease true e = kept-by (is-unasked b.asked (is_due b.moment lease) e) lease (found lease.id l)
      due lease false e = tt

      by : (held : Option Lease) → Left (asked_lease held l b)
      by None = tt
      by (Some lease) = due lease (not b.asked && is_due b.moment lease) refl

  -- a poll that replays after a manifest that was read, under a view whose tables end where the manifest's do
  replaying-left : (l : VersionedManifest) (b : Begun) → b.latest ≡ Some l → (view_of reader b).manifest.last_l0_seq ≡ l.manifest.last_l0_seq → WasRead first o reader l → Ready b →
      Paced reader.lag first b (if b.asked then 5 + most_readings reader.lag first b.history else 2) → Left (replaying reader l b)
  replaying-left l b is same was r paced = by reader.skips (leads_on reader b) refl
    where
      past : first.replay_after_wal_id ≤ l.manifest.replay_after_wal_id
      past = (was.1).mark

      anew : (b' : Begun) → b'.history ≡ b.history → b'.latest ≡ b.latest → b'.mark ≡ l.manifest.replay_after_wal_id → reached_number b' ≡ (view_of reader b).manifest.last_l0_seq → Ready b'
      anew b' history latest marked reached = record {
        its = ap (λ (h : PollHistory). h.first) history ∙ r.its;
        seen = seen-as o (at_tables reader l) (come_to reader b') (sym marked) (omega (arith, reached, same)) was.2;
        read = λ manifest at. r.read manifest (sym latest ∙ at);
      }

      led : leads_on reader b ≡ true → (view_of reader b).manifest.last_l0_seq ≤ reached_number b
      led on = leb-true (view_of reader b).manifest.last_l0_seq (reached_number b) (second (nat_le _ _) (nat_le (view_of reader b).manifest.last_l0_seq (reached_number b)) on)
        where
          second : (x y : Bool) → (x && y) ≡ true → y ≡ true
          second true y all = all
          second false y all = absurd (cc)

      by : (skips leads : Bool) → leads_on reader b ≡ leads →
          Left (if skips then replayed l (emptied reader l.manifest.replay_after_wal_id b) else (if leads then Goes (record b { stage = AsksLast; mark = max b.mark l.manifest.replay_after_wal_id }) else Goes (record (emptied reader l.manifest.replay_after_wal_id b) { stage = AsksLast })))
      by true leads on =
          replayed-left l (emptied reader l.manifest.replay_after_wal_id b) is (anew (emptied reader l.manifest.replay_after_wal_id b) refl refl refl (omega arith))
          (λ unasked. let low = subst (λ x. Paced reader.lag first b (if x then 5 + most_readings reader.lag first b.history else 2)) unasked paced in omega (arith, low))
      by false true on =
          goes-left (record b { stage = AsksLast; mark = max b.mark l.manifest.replay_after_wal_id }) (record {
            its = r.its;
            seen = seen-both o (come_to reader b) (at_tables reader l) (come_to reader (record b { mark = max b.mark l.manifest.replay_after_wal_id })) refl (omega arith) (let up = led on in omega (arith, up, same)) r.seen was.2;
            read = r.read;
          }) (let low = past in omega (arith, low)) paced
      by false false on =
          let next = record (emptied reader l.manifest.replay_after_wal_id b) { stage = AsksLast } in
          goes-left next (anew next refl refl refl (omega arith)) past paced

  -- it is decided by the latest manifest
  decided-left : (l : VersionedManifest) (lease : Option Lease) (b : Begun) → b.view ≡ None → WasRead first o reader l → b.history.first ≡ Some first → HasSeen o (come_to reader b) → Paced reader.lag first b 1 → Left (decided reader l lease b)
  decided-left l lease b unviewed was its seen paced = by lease
    where
      low : (a c : ℕ) → 1 ≤ a → 1 ≤ c → Paced reader.lag first b (if b.asked then a else c)
      low a c up up' = let more = if-low b.asked 1 1 a c (omega arith) up up' in omega (arith, paced, more)

      some : (held : Lease) (x : Bool) → differs reader.view l ≡ x → Left (if x then put_by (leased held.lifetime (to_write (Some held.id) (Some held.lifetime) b.moment l)) true (record b { latest = Some l }) else replaying reader l (record b { latest = Some l }))
      some held true other =
          put-left l held.lifetime (to_write (Some held.id) (Some held.lifetime) b.moment l) true (record b { latest = Some l }) (λ next checkpoint gives. (held.id, held.lifetime, b.moment, checkpoint, inl gives)) refl
          (record { its = its; seen = seen; read = read-one (record b { latest = Some l }) l refl was }) (low (4 + most_readings reader.lag first b.history) 1 (omega arith) (omega arith))
      some held false same =
          let viewed : (view_of reader b).manifest.last_l0_seq ≡ l.manifest.last_l0_seq = ap (λ v. (unwrap_or v reader.view).manifest.last_l0_seq) unviewed ∙ same-tables reader.view l same in
          replaying-left l (record b { latest = Some l }) refl viewed was (record { its = its; seen = seen; read = read-one (record b { latest = Some l }) l refl was }) (low (5 + most_readings reader.lag first b.history) 2 (omega arith) (omega arith))

      by : (lease : Option Lease) → Left (decided reader l lease b)
      by None =
          replaying-left l (record b { view = Some l; latest = Some l }) refl refl was (record { its = its; seen = seen; read = read-one (record b { view = Some l; latest = Some l }) l refl was })
          (low (5 + most_readings reader.lag first b.history) 2 (omega arith) (omega arith))
      by (Some held) = some held (differs reader.view l) refl

  -- a manifest was put
  committed-left : (next : VersionedManifest) (given : Lease) (replaces : Bool) (b : Begun) → WasRead first o reader next → b.history.first ≡ Some first → HasSeen o (come_to reader b) →
      Paced reader.lag first b (if b.asked then 5 + most_readings reader.lag first b.history else 2) → Left (committed reader next given replaces b)
  committed-left next given true b was its seen paced =
      let after = record b { view = Some next; latest = Some next; lease = Some given } in
      replaying-left next after refl refl was (record { its = its; seen = seen; read = read-one after next refl was }) paced
  committed-left next given false b was its seen paced = tt

  overtaken-left : (b : Begun) → b.history.first ≡ Some first → Paced reader.lag first b (5 + most_readings reader.lag first b.history) → Left (overtaken_by reader b)
  overtaken-left b its paced = by (b.overtaken == 7)
    where
      by : (x : Bool) → Left (if x then Fails (errors.TransactionalObjectTimeout 8) else Goes (begun_at b.moment (b.overtaken + 1) b.history reader))
      by true = tt
      by false =
          let anew = begun_at b.moment (b.overtaken + 1) b.history reader in
          goes-left anew (record { its = its; seen = seen-as o reader (come_to reader anew) refl (omega arith) own; read = λ manifest at. absurd (cc) }) tt
          (again-paced b.overtaken (most_steps reader.lag first b.history) b.history.steps (most_readings reader.lag first b.history) refl paced)

  -- the last log file was asked for
  asked-left : (b : Begun) → Ready b → first.replay_after_wal_id ≤ b.mark → Paced reader.lag first b (if b.asked then 6 + most_readings reader.lag first b.history else 3) → Left (Goes (asked_last reader (last_log b.mark o) b))
  asked-left b r past paced = by (nat_lt b.mark (last_log b.mark o)) refl
    where
      last : ℕ
      last = last_log b.mark o

      grown : PollHistory
      grown = with_log last b.history

      more : most_readings reader.lag first b.history ≤ most_readings reader.lag first grown
      more = readings-more reader.lag (most_logs first b.history) (most_logs first grown) (omega arith)

      -- a longer list of log files leaves the count so
      paced-by : (more_steps : ℕ) → Paced reader.lag first (record b { history = grown }) ((if b.asked then 6 + most_readings reader.lag first grown else 3) + more_steps)
      paced-by more_steps =
          let up = more in
          let base = if-more b.asked (6 + most_readings reader.lag first b.history) 3 (6 + most_readings reader.lag first grown) 3 0 (omega (arith, up)) (omega arith) in
          paced-grown b.overtaken (most_steps reader.lag first b.history) (most_steps reader.lag first grown) b.history.steps (if b.asked then 6 + most_readings reader.lag first b.history else 3)
          ((if b.asked then 6 + most_readings reader.lag first grown else 3) + more_steps) (omega (arith, up)) (omega (arith, base)) paced

      first-left : b.mark < last → (x : Bool) → (reader.lag == 0) ≡ x → Left (Goes (record b { stage = (if x then ReadsLog last else LooksAt last last); history = grown }))
      first-left below true none =
          goes-left (record b { stage = ReadsLog last; history = grown }) (record { its = r.its; seen = r.seen; read = r.read })
          (past, below, omega arith, λ untabled. last-there b.mark o.logs below)
          (let low = paced-by ((most_readings reader.lag first grown - most_logs first grown) + (b.mark - first.replay_after_wal_id)) in omega (arith, low))
      first-left below false some =
          let may : 0 < reader.lag = elim (cases_lt 0 reader.lag) [ inl more ↦ more | inr least ↦ absurd (let zero : (reader.lag == 0) ≡ true = eq-eqb reader.lag 0 (omega (arith, least)) in cc (zero, some)) ] in
          goes-left (record b { stage = LooksAt last last; history = grown }) (record { its = r.its; seen = r.seen; read = r.read })
          (may, past, below, omega arith, omega arith, λ untabled. last-there b.mark o.logs below)
          (paced-by (last - last))

      by : (x : Bool) → nat_lt b.mark last ≡ x → Left (Goes (if x then record b { stage = first_log reader last; history = grown } else record b { stage = ReadsAgain }))
      by true on = first-left (ltb-true b.mark last on) (reader.lag == 0) refl
      by false on = goes-left (record b { stage = ReadsAgain }) (record { its = r.its; seen = r.seen; read = r.read }) past paced

  -- a log file was looked at
  looked-left : (l : VersionedManifest) (id last : ℕ) (batches : List Batch) (b : Begun) → b.latest ≡ Some l → Ready b → 0 < reader.lag → first.replay_after_wal_id ≤ b.mark → b.mark < id → id ≤ last → last ≤ b.history.last_log → (TablesStay first o → log_at last o ≢ None) →
      Paced reader.lag first b ((if b.asked then 6 + most_readings reader.lag first b.history else 3) + (last - id) + 1) → Left (looked_at reader l id last batches b)
  looked-left l id last batches b is r may past below within high stays paced = by (nat_lt (reached_number b + reader.lag) newest) (nat_lt (reached_number b) newest || id == b.mark + 1) refl
    where
      newest : ℕ
      newest = greatest_number batches

      twice : most_readings reader.lag first b.history ≡ 2 * most_logs first b.history
      twice = readings-twice reader.lag (most_logs first b.history) may

      by : (x y : Bool) → (nat_lt (reached_number b) newest || id == b.mark + 1) ≡ y → Left (if x then Goes (record b { stage = ReadsLog last }) else (if y then replayed l b else Goes (record b { stage = LooksAt (id - 1) last })))
      by true y is_y =
          let e = twice in
          goes-left (record b { stage = ReadsLog last }) (record { its = r.its; seen = r.seen; read = r.read }) (past, omega (arith, below, within), high, stays) (omega (arith, e, paced, past, below, within, high))
      by false true is_y =
          let e = twice in
          replayed-left l b is r
          (λ unasked.
          let low = subst (λ x. Paced reader.lag first b ((if x then 6 + most_readings reader.lag first b.history else 3) + (last - id) + 1)) unasked paced in
          omega (arith, e, low, past, below, within, high))
      by false false is_y =
          let apart : id ≡ b.mark + 1 → ⊥ = λ same. (let yes = eq-eqb id (b.mark + 1) same in neither (nat_lt (reached_number b) newest) (id == b.mark + 1) is_y yes) in
          let next : b.mark < id - 1 = elim (cases_lt (b.mark + 1) id) [
            | inl less ↦ omega (arith, less)
            | inr over ↦ absurd (apart (omega (arith, over, below)))
          ] in
          goes-left (record b { stage = LooksAt (id - 1) last }) (record { its = r.its; seen = r.seen; read = r.read }) (may, past, next, omega (arith, within), high, stays) (omega (arith, paced, below, within))
        where
          neither : (x y : Bool) → (x || y) ≡ false → y ≡ true → ⊥
          neither true y both one = absurd (cc)
          neither false y both one = cc

  -- a log file was read
  read-left : (l : VersionedManifest) (last : ℕ) (fresh batches : List Batch) (b : Begun) → b.latest ≡ Some l → Ready b → first.replay_after_wal_id ≤ b.mark → b.mark < last → last ≤ b.history.last_log → (TablesStay first o → log_at last o ≢ None) →
      log_at (b.mark + 1) o ≡ Some batches → b.floor + length b.fresh ≤ b.floor + length fresh → All (λ x. x.number ≤ b.floor + length fresh) batches →
      Paced reader.lag first b ((if b.asked then 6 + most_readings reader.lag first b.history else 3) + (most_readings reader.lag first b.history - most_logs first b.history) + (b.mark - first.replay_after_wal_id) + 1) → Left (read_log l last fresh b)
  read-left l last fresh batches b is r past below high stays stored up within paced = by (b.mark + 1 == last) refl
    where
      ready : (stage : Stage) → Ready (record b { stage = stage; fresh = fresh; mark = b.mark + 1 })
      ready stage = record {
        its = r.its;
        seen = seen-log o (come_to reader b) (come_to reader (record b { stage = stage; fresh = fresh; mark = b.mark + 1 })) batches refl (omega (arith, up)) stored
            (λ k d less. let low = within k d less in omega (arith, low)) r.seen;
        read = r.read;
      }

      by : (x : Bool) → (b.mark + 1 == last) ≡ x → Left (if x then replayed l (record b { fresh = fresh; mark = b.mark + 1 }) else Goes (record b { fresh = fresh; mark = b.mark + 1; stage = ReadsLog last }))
      by true on =
          replayed-left l (record b { fresh = fresh; mark = b.mark + 1 }) is (ready b.stage)
          (λ unasked.
          let low = subst (λ x. Paced reader.lag first b ((if x then 6 + most_readings reader.lag first b.history else 3) + (most_readings reader.lag first b.history - most_logs first b.history) + (b.mark - first.replay_after_wal_id) + 1)) unasked paced in
          let least = readings-once reader.lag (most_logs first b.history) in
          omega (arith, low, least, below, high, past))
      by false on =
          let after = record b { fresh = fresh; mark = b.mark + 1; stage = ReadsLog last } in
          let apart : b.mark + 1 ≡ last → ⊥ = λ same. (let yes = eq-eqb (b.mark + 1) last same in absurd (cc (yes, on))) in
          let next : b.mark + 1 < last = elim (cases_lt (b.mark + 1) last) [
            | inl less ↦ less
            | inr over ↦ absurd (apart (omega (arith, over, below)))
          ] in
          goes-left after (ready (ReadsLog last)) (omega (arith, past), next, high, stays) (omega (arith, paced, past))

  -- the latest manifest was read again
  again-left : (l : VersionedManifest) (b : Begun) → WasRead first o reader l → b.history.first ≡ Some first → HasSeen o (come_to reader b) → Paced reader.lag first b (if b.asked then 7 + most_readings reader.lag first b.history else 4) → Left (read_again l b)
  again-left l b was its seen paced = by (nat_lt b.mark l.manifest.replay_after_wal_id)
    where
      by : (x : Bool) → Left (if x then Breaks (record b { stage = Ended }) else replayed l (record b { latest = Some l }))
      by true = tt
      by false =
          replayed-left l (record b { latest = Some l }) refl (record { its = its; seen = seen; read = read-one (record b { latest = Some l }) l refl was })
          (λ unasked. let low = subst (λ x. Paced reader.lag first b (if x then 7 + most_readings reader.lag first b.history else 4)) unasked paced in omega (arith, low))

-- ---- what commands do, others act so
-- those after which the objects follow
pub follows-acts : {stored stored' : Line} (o o' : Objects) → ((l : VersionedManifest) → latest_manifest o ≡ Some l → (n : VersionedManifest) × Follows stored stored' o o' l n) → ((m : VersionedManifest) → WasLatest o m → WasLatest o' m) → OthersAct o o'
follows-acts {stored} {stored'} o o' follows were = record {
  latest = λ l is.
      let next = follows l is in
      let f = next.1 in
      (next.0, f.latest_is, record { tabled = f.tabled; mark = (f.logs).marks; same = f.marked });
  were = were;
  last = λ l n is is'. (logs l n is is').last;
  logs = λ l n id is is' over under. (logs l n is is').same id over under;
}
  where
    logs : (l n : VersionedManifest) → latest_manifest o ≡ Some l → latest_manifest o' ≡ Some n → LogsFollow o o' l.manifest.replay_after_wal_id n.manifest.replay_after_wal_id
    logs l n is is' =
        let next = follows l is in
        subst (λ (x : VersionedManifest). LogsFollow o o' l.manifest.replay_after_wal_id x.manifest.replay_after_wal_id) (some-same next.0 n (sym (next.1).latest_is ∙ is')) (next.1).logs

-- and those that maintain them
pub maintained-acts : (o o' : Objects) → Maintained o o' → ((m : VersionedManifest) → WasLatest o m → WasLatest o' m) → OthersAct o o'
maintained-acts o o' m were = record {
  latest = λ l is.
      let next = m.latest l is in
      let tabled = next.3 in
      let mark = next.4 in
      (next.0, next.1, record { tabled = omega (arith, tabled); mark = omega (arith, mark); same = λ same. mark });
  were = were;
  last = λ l n is is'. (logs l n is is').last;
  logs = λ l n id is is' over under. (logs l n is is').same id over under;
}
  where
    logs : (l n : VersionedManifest) → latest_manifest o ≡ Some l → latest_manifest o' ≡ Some n → LogsFollow o o' l.manifest.replay_after_wal_id n.manifest.replay_after_wal_id
    logs l n is is' =
        let next = m.latest l is in
        subst (λ (x : VersionedManifest). LogsFollow o o' l.manifest.replay_after_wal_id x.manifest.replay_after_wal_id) (some-same next.0 n (sym next.1 ∙ is'))
        (stay-follow o o' l.manifest.replay_after_wal_id (next.0).manifest.replay_after_wal_id (sym next.4) (m.logs l is))

-- ---- a put of the poll itself is a call like those of others
module _ (o : Objects) (sound : IsSound o) (last_one next : VersionedManifest) (was : WasLatest o last_one) (planned : IsPlanned last_one next) (free : is_present (PutManifest next.id next.manifest) o ≡ false) where
  abbrev pub put_o : Objects
  put_o = changed (PutManifest next.id next.manifest) o

  put-kept : Maintained o put_o
  put-kept = (put-maintains o sound last_one next was planned free).0

  put-acts : OthersAct o put_o
  put-acts = maintained-acts o put_o put-kept (λ manifest it. was-put o sound last_one next was planned free manifest it)

rest-all : (P : Batch → Type 0) (xs ys : List Batch) → All P (xs ++ ys) → All P ys
rest-all P [] ys all = all
rest-all P (x ∷ xs) ys all = rest-all P xs ys (All-tail P x (xs ++ ys) all)

gap-within : (from end : ℕ) (bs : List Batch) → HaveNoGap from end bs → All (λ b. b.number ≤ end) bs
gap-within from end [] gap = All-nil (λ (b : Batch). b.number ≤ end)
gap-within from end (b ∷ bs) gap =
    let later = no-gap-rises (max from b.number) end bs gap.1 in
    All-cons (λ (b : Batch). b.number ≤ end) b bs (omega (arith, later)) (gap-within (max from b.number) end bs gap.1)

-- ---- a call
module _ (o : Objects) (sound : IsSound o) (reader : Follower) (b : Begun) (f : FollowsLine o (content o) reader b) (s : Lasts o reader b) where
  abbrev l0 : VersionedManifest
  l0 = (s.latest).0

  abbrev counted : ℕ
  counted = (taken b).history.steps

  one : counted ≤ b.history.steps + 1
  one = omega arith

  -- the steps of before are few
  pub few-steps : IsFew reader.lag b
  few-steps = by b.history.first s.since
    where
      by : (first : Option FirstRead) → MatchOption first ((b.stage ≡ ReadsLatest) × (b.history.steps ≡ 0)) (λ first. LastsSince first o reader b) →
          MatchOption first (b.history.steps ≡ 0) (λ first. b.history.steps < (b.overtaken + 1) * most_steps reader.lag first b.history)
      by None start = start.1
      by (Some first) since = few-paced b.overtaken (most_steps reader.lag first b.history) b.history.steps (steps_since reader.lag b.stage first b) (at b.stage since.next) since.paced
        where
          at : (stage : Stage) → LastsAt reader.lag stage first o b → steps_since reader.lag stage first b < most_steps reader.lag first b.history
          at (Puts next given replaces) x = let low = if-within b.asked (4 + most_readings reader.lag first b.history) 1 (4 + most_readings reader.lag first b.history) (omega arith) (omega arith) in omega (arith, low)
          at AsksLast x = let low = if-within b.asked (5 + most_readings reader.lag first b.history) 2 (5 + most_readings reader.lag first b.history) (omega arith) (omega arith) in omega (arith, low)
          at (LooksAt id last) (may, past, below, within, high, stays) =
              let low = if-within b.asked (6 + most_readings reader.lag first b.history) 3 (6 + most_readings reader.lag first b.history) (omega arith) (omega arith) in
              let least = readings-once reader.lag (most_logs first b.history) in
              omega (arith, low, least, past, below, within, high)
          at (ReadsLog last) (past, below, high, stays) =
              let low = if-within b.asked (6 + most_readings reader.lag first b.history) 3 (6 + most_readings reader.lag first b.history) (omega arith) (omega arith) in
              let least = readings-once reader.lag (most_logs first b.history) in
              omega (arith, low, least, past, below, high)
          at ReadsAgain x = let low = if-within b.asked (6 + most_readings reader.lag first b.history) 3 (6 + most_readings reader.lag first b.history) (omega arith) (omega arith) in omega (arith, low)
          at ReadsLatest x = omega arith
          at Ended x = omega arith

  -- ---- where the first step was made
  module _ (first : FirstRead) (its : b.history.first ≡ Some first) where
    lasts-since : LastsSince first o reader b
    lasts-since = subst (λ (x : Option FirstRead). MatchOption x ((b.stage ≡ ReadsLatest) × (b.history.steps ≡ 0)) (λ first. LastsSince first o reader b)) its s.since

    at-stage : (stage : Stage) → b.stage ≡ stage → LastsAt reader.lag stage first o b
    at-stage stage is = subst (λ x. LastsAt reader.lag x first o b) is lasts-since.next

    paced-at : (stage : Stage) → b.stage ≡ stage → Paced reader.lag first b (steps_since reader.lag stage first b)
    paced-at stage is = subst (λ x. Paced reader.lag first b (steps_since reader.lag x first b)) is lasts-since.paced

    latest-read : (l : VersionedManifest) → latest_manifest o ≡ Some l → WasRead first o reader l
    latest-read l is = ((l, is, omega arith, λ same. refl), lasts-since.since l is, latest-seen o reader l is)

    abbrev LeftBy : Turn → Type 0
    LeftBy = Left first o l0 (s.latest).1 reader s.own lasts-since.since

    abbrev ReadyBy : Begun → Type 0
    ReadyBy = Ready first o l0 (s.latest).1 reader s.own lasts-since.since

    ready : ReadyBy (taken b)
    ready = record { its = its; seen = s.seen; read = lasts-since.read }

    -- one step more
    paced-one : (c c' : ℕ) → c + 1 ≤ c' → Paced reader.lag first b c → Paced reader.lag first (taken b) c'
    paced-one c c' more paced = step-paced b.history.steps counted (b.overtaken * most_steps reader.lag first b.history) c c' one more paced

    meets-left : (stage : Stage) (turn : Turn) (o' : Objects) → b.stage ≡ stage → MeetsAt stage reader (taken b) o turn o' → ((next : VersionedManifest) (given : Lease) (replaces : Bool) → stage ≡ Puts next given replaces → ⊥) → LeftBy turn
    meets-left ReadsLatest turn o' at (l, is, turn_is, same) other =
        let noted_first : (noted l (taken b)).history.first ≡ Some first = ap (λ (x : Option FirstRead). Some (unwrap_or x (first_of l))) its in
        let unviewed = subst (λ (x : Stage). StandsAt x b (content o) o) at f.next in
        subst LeftBy (sym turn_is)
        (decided-left first o l0 (s.latest).1 reader s.own lasts-since.since l b.lease (noted l (taken b)) unviewed (latest-read l is) noted_first s.seen (paced-one 0 1 (omega arith) (paced-at ReadsLatest at)))
    meets-left (Puts next given replaces) turn o' at m other = absurd (other next given replaces refl)
    meets-left AsksLast turn o' at (turn_is, same) other =
        subst LeftBy (sym turn_is)
        (asked-left first o l0 (s.latest).1 reader s.own lasts-since.since (taken b) ready (at-stage AsksLast at)
        (paced-one (if b.asked then 5 + most_readings reader.lag first b.history else 2) (if b.asked then 6 + most_readings reader.lag first b.history else 3) (if-more b.asked (5 + most_readings reader.lag first b.history) 2 (6 + most_readings reader.lag first b.history) 3 1 (omega arith) (omega arith)) (paced-at AsksLast at)))
    meets-left (LooksAt id last) turn o' at (l, is, turn_is, same) other = by (log_at id o) turn_is
      where
        by : (log : Option (List Batch)) → LooksTo reader l id last (taken b) log turn → LeftBy turn
        by None turn_is = subst LeftBy (sym turn_is) tt
        by (Some batches) turn_is =
            let x = at-stage (LooksAt id last) at in
            subst LeftBy (sym turn_is)
            (looked-left first o l0 (s.latest).1 reader s.own lasts-since.since l id last batches (taken b) is ready x.0 x.1 x.2 x.3 x.4 x.5 (paced-one (steps_since reader.lag (LooksAt id last) first b) _ (omega arith) (paced-at (LooksAt id last) at)))
    meets-left (ReadsLog last) turn o' at (l, fresh, replays.Truncated id, is, n, turn_is, same) other = subst LeftBy (sym turn_is) tt
    meets-left (ReadsLog last) turn o' at (l, fresh, replays.Whole, is, n, turn_is, same) other =
        subst LeftBy (sym turn_is) (by (log_at (b.mark + 1) o) refl n.ends)
      where
        by : (log : Option (List Batch)) → log_at (b.mark + 1) o ≡ log → IsSomeAnd log (HaveNoGap (b.floor + length b.fresh) (b.floor + length fresh)) → LeftBy (read_log l last fresh (taken b))
        by None none gap = absurd gap
        by (Some batches) stored gap =
            let x = at-stage (ReadsLog last) at in
            read-left first o l0 (s.latest).1 reader s.own lasts-since.since l last fresh batches (taken b) is ready x.0 x.1 x.2 x.3 stored (no-gap-rises _ _ batches gap) (gap-within _ _ batches gap)
            (paced-one (steps_since reader.lag (ReadsLog last) first b) _ (omega arith) (paced-at (ReadsLog last) at))
    meets-left ReadsAgain turn o' at (l, is, turn_is, same) other =
        subst LeftBy (sym turn_is)
        (again-left first o l0 (s.latest).1 reader s.own lasts-since.since l (taken b) (latest-read l is) its s.seen
        (paced-one (if b.asked then 6 + most_readings reader.lag first b.history else 3) (if b.asked then 7 + most_readings reader.lag first b.history else 4) (if-more b.asked (6 + most_readings reader.lag first b.history) 3 (7 + most_readings reader.lag first b.history) 4 1 (omega arith) (omega arith)) (paced-at ReadsAgain at)))
    meets-left Ended turn o' at m other = absurd m

    -- a put leads from the objects that it leaves
    put-left-by : (next : VersionedManifest) (given : Lease) (replaces : Bool) (turn : Turn) (after : Begun) (o' : Objects) → b.stage ≡ Puts next given replaces → MeetsAt (Puts next given replaces) reader (taken b) o turn o' → turn ≡ Goes after → Lasts o' reader after
    put-left-by next given replaces turn after o' at (inr (there, turn_is, same)) goes =
        let left = overtaken-left first o l0 (s.latest).1 reader s.own lasts-since.since (taken b) its
        (paced-one (if b.asked then 4 + most_readings reader.lag first b.history else 1) (5 + most_readings reader.lag first b.history)
        (let low = if-within b.asked (4 + most_readings reader.lag first b.history) 1 (4 + most_readings reader.lag first b.history) (omega arith) (omega arith) in omega (arith, low)) (paced-at (Puts next given replaces) at)) in
        subst (λ x. Lasts x reader after) (sym same) (subst LeftBy (sym turn_is ∙ goes) left)
    put-left-by next given replaces turn after o' at (inl (free, turn_is, put)) goes =
        let staged = at-stage (Puts next given replaces) at in
        let last_one = staged.0 in
        let is = staged.1 in
        let planned = staged.2 in
        let was = (lasts-since.read last_one is).0 in
        let act = put-acts o sound last_one next was planned free in
        let s' = act-lasts (o) (put_o o sound last_one next was planned free) act reader b s in
        let since' = act-since (o) (put_o o sound last_one next was planned free) act reader b first l0 (s.latest).1 lasts-since in
        let other = planned-other last_one next planned in
        let l' = (s'.latest).0 in
        let read = since'.read last_one is in
        let its_read : WasRead first (put_o o sound last_one next was planned free) reader next = (
          (put-maintains o sound last_one next was planned free).1,
          subst (IsSince first) (sym other.1) (record { tabled = (read.1).tabled; mark = (read.1).mark; same = (read.1).same }),
          subst (λ v. HasSeen (put_o o sound last_one next was planned free) (at_tables reader v)) (sym other.1) (seen-as (put_o o sound last_one next was planned free) (at_tables reader last_one) (at_tables reader (with_checkpoints other.0 last_one)) refl (omega arith) read.2),
        ) in
        let left = committed-left first (put_o o sound last_one next was planned free) l' (s'.latest).1 reader s'.own since'.since next given replaces (taken b) its_read its s'.seen
        (paced-one (if b.asked then 4 + most_readings reader.lag first b.history else 1) (if b.asked then 5 + most_readings reader.lag first b.history else 2) (if-more b.asked (4 + most_readings reader.lag first b.history) 1 (5 + most_readings reader.lag first b.history) 2 1 (omega arith) (omega arith)) (paced-at (Puts next given replaces) at)) in
        subst (λ x. Lasts x reader after) (sym put) (subst (Left first (put_o o sound last_one next was planned free) l' (s'.latest).1 reader s'.own since'.since) (sym turn_is ∙ goes) left)

    goes-since : (stage : Stage) (after : Begun) (o' : Objects) → b.stage ≡ stage → MeetsAt stage reader (taken b) o (Goes after) o' → Lasts o' reader after
    goes-since (Puts next given replaces) after o' at m = put-left-by next given replaces (Goes after) after o' at m refl
    goes-since ReadsLatest after o' at m = subst (λ x. Lasts x reader after) (sym m.3) (meets-left ReadsLatest (Goes after) o' at m (λ next given replaces no. absurd (cc)))
    goes-since AsksLast after o' at m = subst (λ x. Lasts x reader after) (sym m.1) (meets-left AsksLast (Goes after) o' at m (λ next given replaces no. absurd (cc)))
    goes-since (LooksAt id last) after o' at m = subst (λ x. Lasts x reader after) (sym m.3) (meets-left (LooksAt id last) (Goes after) o' at m (λ next given replaces no. absurd (cc)))
    goes-since (ReadsLog last) after o' at m = subst (λ x. Lasts x reader after) (sym m.6) (meets-left (ReadsLog last) (Goes after) o' at m (λ next given replaces no. absurd (cc)))
    goes-since ReadsAgain after o' at m = subst (λ x. Lasts x reader after) (sym m.3) (meets-left ReadsAgain (Goes after) o' at m (λ next given replaces no. absurd (cc)))
    goes-since Ended after o' at m = absurd m

    -- ---- why it ends at a gap
    -- a log file that is there is none after the last one
    within-last : (last : ℕ) (l : VersionedManifest) → latest_manifest o ≡ Some l → b.mark < last → log_at last o ≢ None → last ≤ last_log l.manifest.replay_after_wal_id o
    within-last last l is below stays = elim (cases_lt (last_log l.manifest.replay_after_wal_id o) last) [
      | inl above ↦ absurd (stays (absent last l.manifest.replay_after_wal_id o.logs above))
      | inr within ↦ within
    ]

    tabled-or-not : (l : VersionedManifest) → latest_manifest o ≡ Some l → (l.manifest.last_l0_seq ≡ first.last_l0_seq → ⊥) → TablesGrew first o
    tabled-or-not l is changed_it =
        let low = (lasts-since.since l is).tabled in
        elim (cases_lt first.last_l0_seq l.manifest.last_l0_seq) [
          | inl above ↦ (l, is, above)
          | inr within ↦ absurd (changed_it (omega (arith, low, within)))
        ]

    -- over log files that are whole up to the last one there is none
    no-cut : (l read : VersionedManifest) (last : ℕ) (fresh : List Batch) (id : ℕ) → latest_manifest o ≡ Some l → b.latest ≡ Some read → b.stage ≡ ReadsLog last → l.manifest.last_l0_seq ≡ first.last_l0_seq →
        ReplaysNext (b.mark + 1) b.floor b.fresh fresh o (Ok (replays.Truncated id)) → ⊥
    no-cut l read last fresh id is held at here n =
        let staged = at-stage (ReadsLog last) at in
        let past = staged.0 in
        let below = staged.1 in
        let stays = staged.3 in
        let replaying : IsReplaying b (content o) o = subst (λ (x : Stage). StandsAt x b (content o) o) at f.next in
        let reached = (replaying read held).reached in
        let since_read = ((lasts-since.read read held).1).tabled in
        let mark : l.manifest.replay_after_wal_id ≡ first.replay_after_wal_id = (lasts-since.since l is).same here in
        let number = reached_number b in
        elim (cases_lt (end (content o)) number) [
          | inl beyond ↦ by-log (log_at (b.mark + 1) o) refl l is mark past below (within-last last l is below (stays (l, is, here))) beyond n.ends
          | inr within ↦
              let last_there = within-last last l is below (stays (l, is, here)) in
              let whole = later-whole o l sound is b.mark number (omega (arith, mark, past)) (omega (arith, below, last_there)) (omega (arith, reached, since_read, here)) within
              (λ k bs over under there i d less. let low = (s.seen).logs l k bs is over under there i d less in omega (arith, low)) in
              untruncated (b.mark + 1) b.mark (last_log l.manifest.replay_after_wal_id o) number _ (b.floor + length fresh) o whole (record {
                above = omega arith;
                within = omega (arith, below, last_there);
                reached = number;
                earlier = subst (λ k. AreWhole b.mark k number number o) (let e : b.mark ≡ b.mark + 1 - 1 = omega arith in e) (whole-start b.mark number o);
                cut = cut-of (log_at (b.mark + 1) o) n.ends;
              })
        ]
      where
        cut-of : (log : Option (List Batch)) → MatchOption log (fresh ≡ b.fresh) (HaveGap (b.floor + length b.fresh) (b.floor + length fresh)) → MatchOption log (b.floor + length fresh ≡ reached_number b) (HaveGap (reached_number b) (b.floor + length fresh))
        cut-of None same = ap (λ (xs : List Batch). b.floor + length xs) same
        cut-of (Some bs) gap = gap

        -- none of them has a batch past the content
        by-log : (log : Option (List Batch)) → log_at (b.mark + 1) o ≡ log → (l : VersionedManifest) → latest_manifest o ≡ Some l → l.manifest.replay_after_wal_id ≡ first.replay_after_wal_id → first.replay_after_wal_id ≤ b.mark → b.mark < last → last ≤ last_log l.manifest.replay_after_wal_id o → end (content o) < reached_number b →
            MatchOption log (fresh ≡ b.fresh) (HaveGap (b.floor + length b.fresh) (b.floor + length fresh)) → ⊥
        by-log None none l is mark past below high beyond same = ((logs-by o l sound is).whole).stored (b.mark + 1) (omega (arith, mark, past)) (omega (arith, below, high)) none
        by-log (Some bs) some l is mark past below high beyond gap =
            let low = (all-seen o l sound is reader.mode reader.skips reader.lag).logs l (b.mark + 1) bs is (omega (arith, mark, past)) (omega (arith, below, high)) some in
            let up = no-gap-rises _ _ gap.front gap.no_gap in
            let one_of = All-head (λ (x : Batch). x.number ≤ end (content o)) gap.batch gap.rest (rest-all (λ (x : Batch). x.number ≤ end (content o)) gap.front (gap.batch ∷ gap.rest) (subst (All (λ (x : Batch). x.number ≤ end (content o))) gap.parts low)) in
            let over = gap.past in
            absurd (omega (arith, up, one_of, over, beyond))

    -- one that is to be looked at is there while no table was put
    no-look : (id top : ℕ) → l0.manifest.last_l0_seq ≡ first.last_l0_seq → b.stage ≡ LooksAt id top → log_at id o ≡ None → ⊥
    no-look id top here at none =
        let x = at-stage (LooksAt id top) at in
        let past = x.1 in
        let below = x.2 in
        let within = x.3 in
        let mark : l0.manifest.replay_after_wal_id ≡ first.replay_after_wal_id = (lasts-since.since l0 (s.latest).1).same here in
        let high = within-last top l0 (s.latest).1 (omega (arith, below, within)) (x.5 (l0, (s.latest).1, here)) in
        ((logs-by o l0 sound (s.latest).1).whole).stored id (omega (arith, mark, past, below)) (omega (arith, within, high)) none

    breaks-since : (stage : Stage) (last : Begun) (o' : Objects) → b.stage ≡ stage → MeetsAt stage reader (taken b) o (Breaks last) o' → TablesGrew first o
    breaks-since ReadsLatest last o' at (l, is, turn_is, same) = absurd (subst Plain (sym turn_is) (decided-plain reader l b.lease (noted l (taken b))))
    breaks-since (Puts next given replaces) last o' at (inl (free, turn_is, put)) = absurd (subst Plain (sym turn_is) (committed-plain reader next given replaces (taken b)))
    breaks-since (Puts next given replaces) last o' at (inr (there, turn_is, same)) = absurd (by (b.overtaken == 7) turn_is)
      where
        by : (x : Bool) → Breaks last ≡ (if x then Fails (errors.TransactionalObjectTimeout 8) else Goes (begun_at b.moment (b.overtaken + 1) (with_step b.history) reader)) → ⊥
        by true is = cc
        by false is = cc
    breaks-since AsksLast last o' at (turn_is, same) = absurd (cc)
    breaks-since (LooksAt id top) last o' at (read, held, turn_is, same) = by (log_at id o) refl turn_is
      where
        by : (log : Option (List Batch)) → log_at id o ≡ log → LooksTo reader read id top (taken b) log (Breaks last) → TablesGrew first o
        by (Some batches) stored turn_is = absurd (subst Plain (sym turn_is) (looked-plain reader read id top batches (taken b)))
        by None none turn_is = tabled-or-not l0 (s.latest).1 (λ here. no-look id top here at none)
    breaks-since (ReadsLog top) last o' at (read, fresh, replays.Whole, held, n, turn_is, same) = absurd (subst Plain (sym turn_is) (read-plain read top fresh (taken b)))
    breaks-since (ReadsLog top) last o' at (read, fresh, (replays.Truncated id), held, n, turn_is, same) = tabled-or-not l0 (s.latest).1 (λ here. no-cut l0 read top fresh id (s.latest).1 held at here n)
    breaks-since ReadsAgain last o' at (l, is_l, turn_is, same) = tabled-or-not l is_l (λ here. by (nat_lt b.mark l.manifest.replay_after_wal_id) refl turn_is here)
      where
        by : (x : Bool) → nat_lt b.mark l.manifest.replay_after_wal_id ≡ x → Breaks last ≡ (if x then Breaks (record (taken b) { stage = Ended }) else replayed l (record (taken b) { latest = Some l })) → l.manifest.last_l0_seq ≡ first.last_l0_seq → ⊥
        by true gone is here =
            let mark = (lasts-since.since l is_l).same here in
            let past = at-stage ReadsAgain at in
            let less = ltb-true b.mark l.manifest.replay_after_wal_id gone in
            omega (arith, mark, past, less)
        by false gone is here = subst Plain (sym is) (replayed-plain l (record (taken b) { latest = Some l }))
    breaks-since Ended last o' at m = absurd m

  -- ---- any call
  -- the first step
  first-goes : b.history.first ≡ None → b.stage ≡ ReadsLatest → b.history.steps ≡ 0 → (after : Begun) (o' : Objects) → MeetsAt ReadsLatest reader (taken b) o (Goes after) o' → Lasts o' reader after
  first-goes none at zero_steps after o' (l, is, turn_is, same) =
      let first = first_of l in
      let next = noted l (taken b) in
      let its : next.history.first ≡ Some first = ap (λ (x : Option FirstRead). Some (unwrap_or x (first_of l))) none in
      let unviewed = subst (λ (x : Stage). StandsAt x b (content o) o) at f.next in
      let since : (v : VersionedManifest) → latest_manifest o ≡ Some v → IsSince first v = λ v there. subst (IsSince first) (some-same l v (sym is ∙ there)) (since-itself l) in
      let left = decided-left first o l is reader s.own since l b.lease next unviewed ((l, is, omega arith, λ same. refl), since-itself l, latest-seen o reader l is) its s.seen
      (let zero = zero_steps in let few : counted ≤ 1 = omega (arith, zero) in omega (arith, few)) in
      subst (λ x. Lasts x reader after) (sym same) (subst (Left first o l is reader s.own since) (sym turn_is) left)

  pub lasts-goes : (after : Begun) (o' : Objects) → Meets reader b o (Goes after) o' → Lasts o' reader after
  lasts-goes after o' m = by b.history.first refl s.since
    where
      by : (first : Option FirstRead) → b.history.first ≡ first → MatchOption first ((b.stage ≡ ReadsLatest) × (b.history.steps ≡ 0)) (λ first. LastsSince first o reader b) → Lasts o' reader after
      by None none start = first-goes none start.0 start.1 after o' (subst (λ x. MeetsAt x reader (taken b) o (Goes after) o') start.0 m)
      by (Some first) its since = goes-since first its b.stage after o' refl m

  pub lasts-breaks : (last : Begun) (o' : Objects) → Meets reader b o (Breaks last) o' → (first : FirstRead) × (b.history.first ≡ Some first) × TablesGrew first o
  lasts-breaks last o' m = by b.history.first refl s.since
    where
      by : (first : Option FirstRead) → b.history.first ≡ first → MatchOption first ((b.stage ≡ ReadsLatest) × (b.history.steps ≡ 0)) (λ first. LastsSince first o reader b) → (first : FirstRead) × (b.history.first ≡ Some first) × TablesGrew first o
      by None none start =
          let first_step = subst (λ x. MeetsAt x reader (taken b) o (Breaks last) o') start.0 m in
          absurd (subst Plain (sym first_step.2) (decided-plain reader first_step.0 b.lease (noted first_step.0 (taken b))))
      by (Some first) its since = (first, its, breaks-since first its b.stage last o' refl m)

-- ---- a step
pub lasts-on : (o o' : Objects) (reader reader' : Follower) (b b' : Begun) (result : Result (Option PollAnswer) SlateError) → IsSound o → FollowsLine o (content o) reader b → Lasts o reader b → Steps reader b result o reader' b' o' → LastsOn o (Some o') b result reader' b'
lasts-on o o' reader reader' b b' (Ok None) sound f s steps = subst (λ r. Lasts o' r b') (sym steps.1) (lasts-goes o sound reader b f s b' o' steps.0)
lasts-on o o' reader reader' b b' (Ok (Some (answers.Whole at))) sound f s steps = tt
lasts-on o o' reader reader' b b' (Ok (Some (answers.Truncated at))) sound f s steps = lasts-breaks o sound reader b f s steps.0 o' steps.1
lasts-on o o' reader reader' b b' (Err e) sound f s steps = tt

-- over a store
pub lasts-where : (line : Line) (reader reader' : Follower) (b b' : Begun) (result : Result (Option PollAnswer) SlateError) {s s' : Option Objects} → WhereModelled (λ o o'. Steps reader b result o reader' b' o') s s' → IsContent s line →
    ((o : Objects) → s ≡ Some o → FollowsLine o line reader b × Lasts o reader b) → IfSome s (λ o. IsFew reader.lag b × LastsOn o s' b result reader' b')
lasts-where line reader reader' b b' result {s} {s'} w is held = if_some s (λ o at.
    let t = w.some o at in
    let same : is.0 ≡ o = some-same is.0 o (sym is.1 ∙ at) in
    let sound = subst IsSound same is.2 in
    let line_is : line ≡ content o = is.3 ∙ ap content same in
    let h = held o at in
    let f = subst (λ (l : Line). FollowsLine o l reader b) line_is h.0 in
    (few-steps o sound reader b f h.1, subst (λ x. LastsOn o x b result reader' b') (sym t.1) (lasts-on o t.0 reader reader' b b' result sound f h.1 t.2)))

pub few-where : (line : Line) (reader : Follower) (b : Begun) (o : Objects) {s : Option Objects} → IsContent s line → s ≡ Some o → ((o : Objects) → s ≡ Some o → FollowsLine o line reader b × Lasts o reader b) → IsFew reader.lag b
few-where line reader b o is at held =
    let same : is.0 ≡ o = some-same is.0 o (sym is.1 ∙ at) in
    let h = held o at in
    few-steps o (subst IsSound same is.2) reader b (subst (λ (l : Line). FollowsLine o l reader b) (is.3 ∙ ap content same) h.0) h.1
