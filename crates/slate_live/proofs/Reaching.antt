-- A begun poll reaches what its reader was owed at its first step, from call to call.
use Rattle.std.proofs.Common.{◌≡◌, ◌≢◌, ◌∙◌, ◌⊎◌, inl, inr, ℕ, ℤ, zero, suc, ◌+◌, ◌-◌, ◌<◌, ◌≤◌, ◌&&◌, ◌==◌, max, not, Bool, true, false, if◌then◌else◌, List, [], ◌∷◌, ◌++◌, length, map, Option, Some, None, Ok, Err, refl, sym, ap, subst, arith}
use Rattle.std.proofs.lemmas.Bool.{cases_eq, cases_lt, eqb-true, le-leb, le-ltb, leb-true, ltb-true, lt-ltb}
use Rattle.std.proofs.lemmas.List.Elements.{All-contains_itself, All-head, Contains-append_right}
use Rattle.std.specs.List.{All, Contains}
use Rattle.std.specs.Prelude.{◌||◌, nat_le, nat_lt, unwrap_or}
use Rattle.slate_types.specs.Line.{Line, end}
use Rattle.slate_types.specs.declared.batches.Batch.{Batch}
use Rattle.slate_store.proofs.LastLog.{at_least}
use Rattle.slate_store.proofs.Logs.{between-next, between-none, no_gap-parts}
use Rattle.slate_store.specs.Checkpoints.{Plan, found, new_checkpoint, puts_next, to_refresh, to_write, with_checkpoints, without_replaced}
use Rattle.slate_store.specs.Content.{IsSound, content, logged}
use Rattle.slate_store.specs.Logs.{HaveNoGap, batches_between}
use Rattle.slate_store.specs.Objects.{Objects, last_log, latest_manifest, log_at}
use Rattle.slate_store.specs.declared.objects.Checkpoint.{Checkpoint}
use Rattle.slate_store.specs.declared.objects.VersionedManifest.{VersionedManifest}
use Rattle.slate_store.specs.declared.refusals.StoreRefusal.TheVariants.{InvalidDBState}
use Rattle.slate_errors.specs.declared.errors.SlateError.TheVariants as errors
use Rattle.slate_model.specs.Begun.{AsksLast, Begun, Breaks, Ended, Ends, Fails, Goes, LooksAt, Puts, ReadsAgain, ReadsLatest, ReadsLog, Stage, Turn, asked_last, asked_lease, base_of, begun_at, committed, decided, emptied, first_log, greatest_number, kept_lease, leads_on, looked_at, overtaken_by, put_by, reached_number, read_again, read_log, replayed, replaying, view_of, with_log}
use Rattle.slate_model.specs.Follower.{Follower, number}
use Rattle.slate_model.specs.Lease.{differs, is_due, lease_of, leased}
use Rattle.slate_model.specs.Seen.{HasSeen}
use Rattle.slate_model.specs.Write.{last_number}
use Rattle.slate_model.specs.declared.leases.Lease.{Lease}
use Rattle.slate_model.proofs.Coming.{planned-other}
use Rattle.slate_model.proofs.Fronts.{last-there, stored-below}
use Rattle.slate_model.proofs.Logging.{LogsAre, LogsFollow, LogsGo, PastLine}
use Rattle.slate_model.proofs.Reduced.{some-same}
use Rattle.slate_model.proofs.Reopened.{logs-by}
use Rattle.slate_follow.proofs.Rebuilt.{kept-end}
use Rattle.slate_follow.proofs.Following.{same-tables}
use Rattle.slate_follow.proofs.Lagging.{all-within, greatest-within}
use Rattle.slate_follow.specs.Lasting.{come_to}
use Rattle.slate_live.specs.Reaching.{GoFrom, HasFrom, IsApart, IsCovered, IsCoveredBy, IsToFind, IsToRead, ReachesAt}
use Rattle.slate_live.proofs.Ordered.{later-ones}

-- ---- which log file has a batch
contains-head : (b : Batch) (bs : List Batch) → Contains (b ∷ bs) b
contains-head b bs = All-head (λ x. Contains (b ∷ bs) x) b bs (All-contains_itself (b ∷ bs))

-- what holds of all of a list holds of one of them
contained : (P : Batch → Type 0) (bs : List Batch) (b : Batch) → All P bs → Contains bs b → P b
contained P bs b all c = subst P c.2 (all c.0 b c.1)

no-gap-has : (from end : ℕ) (bs : List Batch) → HaveNoGap from end bs → from < end → (batch : Batch) × Contains bs batch × (end ≤ batch.number)
no-gap-has from end [] gap less = absurd (omega (arith, gap, less))
no-gap-has from end (b ∷ bs) gap less = elim (cases_lt (max from b.number) end) [
  | inl under ↦ let later = no-gap-has (max from b.number) end bs gap.1 under in (later.0, Contains-append_right (b ∷ []) bs later.0 later.1, later.2)
  | inr over ↦ (b, contains-head b bs, omega (arith, over, less))
]

-- where batches lead to a number, a log file has that or a later one
record IsIn (mark last target : ℕ) (o : Objects) : Type 0 where
  id : ℕ
  above : mark < id
  within : id ≤ last
  batches : List Batch
  stored : log_at id o ≡ Some batches
  high : target ≤ greatest_number batches

log-step : (mark k from end target : ℕ) (o : Objects) (log : List Batch) → log_at (mark + k + 1) o ≡ Some log → HaveNoGap from end (batches_between mark (mark + suc k) o) → from < target → target ≤ end →
    ((m : ℕ) → HaveNoGap from m (batches_between mark (mark + k) o) → target ≤ m → IsIn mark (mark + k) target o) → IsIn mark (mark + suc k) target o
log-step mark k from end target o log is gap less within earlier =
    let n : mark + suc k ≡ mark + k + 1 = omega arith in
    let parts = no_gap-parts from end (batches_between mark (mark + k) o) log (subst (HaveNoGap from end) (ap (λ x. batches_between mark x o) n ∙ between-next mark (mark + k) o log (omega arith) is) gap) in
    elim (cases_lt parts.0 target) [
      | inr before ↦ let e = earlier parts.0 parts.1 before in record { id = e.id; above = e.above; within = (let low = e.within in omega (arith, low)); batches = e.batches; stored = e.stored; high = e.high }
      | inl past ↦
          let it = no-gap-has parts.0 end log parts.2 (omega (arith, past, within)) in
          let high = it.2 in
          let most = contained (λ (x : Batch). x.number ≤ greatest_number log) log it.0 (all-within log) it.1 in
          record { id = mark + k + 1; above = omega arith; within = omega arith; batches = log; stored = is; high = omega (arith, high, within, most) }
    ]

some-log : (log : Option (List Batch)) → log ≢ None → (batches : List Batch) × (log ≡ Some batches)
some-log None some = absurd (some refl)
some-log (Some batches) some = (batches, refl)

find-log : (mark k from end target : ℕ) (o : Objects) → ((id : ℕ) → mark < id → id ≤ mark + k → log_at id o ≢ None) → HaveNoGap from end (batches_between mark (mark + k) o) → from < target → target ≤ end → IsIn mark (mark + k) target o
find-log mark zero from end target o stored gap less within =
    let none : HaveNoGap from end [] = subst (HaveNoGap from end) (between-none mark (mark + 0) o (omega arith)) gap in
    absurd (omega (arith, none, less, within))
find-log mark (suc k) from end target o stored gap less within =
    let log = some-log (log_at (mark + k + 1) o) (stored (mark + k + 1) (omega arith) (omega arith)) in
    log-step mark k from end target o log.0 log.1 gap less within (λ m rest low. find-log mark k from m target o (λ id over under. stored id over (omega (arith, under))) rest less low)

-- those after one of these are as late, or have none that wasn't reached, also where more was reached
go-more : (target reached reached' id : ℕ) (o : Objects) → reached ≤ reached' → GoFrom target reached id o → GoFrom target reached' id o
go-more target reached reached' id o up go n batches over there = elim (go n batches over there) [
  | inl few ↦ inl (omega (arith, few, up))
  | inr late ↦ inr late
]

-- ---- over sound objects
module _ (o : Objects) (sound : IsSound o) (l : VersionedManifest) (is : latest_manifest o ≡ Some l) where
  abbrev mark : ℕ
  mark = l.manifest.replay_after_wal_id

  abbrev tabled : ℕ
  tabled = l.manifest.last_l0_seq

  abbrev top : ℕ
  top = last_log mark o

  -- what is stored and not in tables is in a log file
  logged-in : (target : ℕ) → target ≤ end (content o) → tabled < target → IsIn mark top target o
  logged-in target within past =
      let its = logs-by o l sound is in
      let ends = kept-end o l sound is in
      let least = at_least mark (map (λ (e : ℕ × List Batch). e.0) o.logs) in
      let k = top - mark in
      let n : mark + k ≡ top = omega (arith, least) in
      let found = find-log mark k tabled (tabled + length (logged o l.manifest)) target o (λ id over under. its.whole.stored id over (omega (arith, under, n))) (subst (λ x. HaveNoGap tabled (tabled + length (logged o l.manifest)) (batches_between mark x o)) (sym n) its.whole.no_gap) past (omega (arith, within, ends)) in
      subst (λ x. IsIn mark x target o) n found

  to-read-of : (target past reached : ℕ) (i : IsIn mark top target o) → past < i.id → tabled ≤ reached → (read : IsToRead target past o) × GoFrom target reached read.id o
  to-read-of target past reached i above low = (
    record {
      id = i.id;
      above = above;
      within = λ found at.
          let same = ap (λ (x : VersionedManifest). last_log x.manifest.replay_after_wal_id o) (some-same l found (sym is ∙ at)) in
          let low = i.within in
          omega (arith, same, low);
      has = inr (i.batches, i.stored, i.high);
    },
    λ n batches over there. elim (later-ones o sound l is target i.id i.batches i.above i.stored i.high n batches over (stored-below mark n batches o.logs there) there) [
      | inl few ↦ inl (omega (arith, few, low))
      | inr late ↦ inr late
    ],
  )

  -- it is covered by the tables of the latest manifest, and by what a poll has that has seen the log files up to its mark
  pub content-covered : (target : ℕ) → target ≤ end (content o) → IsCovered target tabled mark o
  content-covered target within = elim (cases_lt tabled target) [
    | inr low ↦ inl low
    | inl past ↦ let i = logged-in target within past in inr (to-read-of target mark tabled i i.above (omega arith))
  ]

  pub seen-covered : (target : ℕ) (reader : Follower) (b : Begun) → target ≤ end (content o) → HasSeen o (come_to reader b) → IsCovered target (max (reached_number b) tabled) (max b.mark mark) o
  seen-covered target reader b within seen = elim (cases_lt tabled target) [
    | inr low ↦ inl (omega (arith, low))
    | inl past ↦
        let i = logged-in target within past in
        let above = i.above in
        elim (cases_lt b.mark i.id) [
          | inl over ↦ inr (to-read-of target (max b.mark mark) (max (reached_number b) tabled) i (omega (arith, over, above)) (omega arith))
          | inr under ↦
              let low = greatest-within (number (come_to reader b)) i.batches (seen.logs l i.id i.batches is above under i.stored) in
              let high = i.high in
              inl (omega (arith, low, high))
        ]
  ]

  -- a log file that is to be read is no later than the last one above the mark, or the poll's next one is gone
  pub asked-covered : (target : ℕ) (b : Begun) (r : IsToRead target b.mark o) → (b.mark < last_log b.mark o → r.id ≤ last_log b.mark o) × (last_log b.mark o ≤ b.mark → b.mark < mark)
  asked-covered target b r = elim r.has [
    | inr has ↦
        let below = stored-below b.mark r.id has.0 o.logs has.1 in
        let over = r.above in (
          λ some. below,
          λ none. absurd (omega (arith, below, none, over)),
        )
    | inl gone ↦
        let over = r.above in
        let within = r.within l is in (
          λ some. elim (cases_lt (last_log b.mark o) r.id) [
            | inl less ↦ absurd (last-there b.mark o.logs some (gone (last_log b.mark o) some (omega (arith, less))))
            | inr high ↦ high
          ],
          λ none. elim (cases_lt b.mark mark) [
            | inl low ↦ low
            | inr high ↦ absurd ((logs-by o l sound is).whole.stored (b.mark + 1) (omega (arith, high)) (omega (arith, over, within)) (gone (b.mark + 1) (omega arith) (omega (arith, over))))
          ],
        )
  ]

  -- one that looks at log files from a later one downwards finds it
  find-down : (target reached past k d : ℕ) (r : IsToRead target past o) → GoFrom target reached r.id o → k ≡ r.id + d → k ≤ top → IsToFind target reached past k o
  find-down target reached past k zero r go is_k high = record {
    at = r.id;
    above = r.above;
    below = omega (arith, is_k);
    within = top-is k high;
    has = elim r.has [
      | inl gone ↦ inl (gone r.id r.above (omega arith))
      | inr has ↦ inr has
    ];
    none = λ n batches over under there. absurd (omega (arith, over, under, is_k));
  }
    where
      top-is : (k : ℕ) → k ≤ top → (latest : VersionedManifest) → latest_manifest o ≡ Some latest → k ≤ last_log latest.manifest.replay_after_wal_id o
      top-is k high latest at = let same = ap (λ (x : VersionedManifest). last_log x.manifest.replay_after_wal_id o) (some-same l latest (sym is ∙ at)) in omega (arith, same, high)
  find-down target reached past k (suc d) r go is_k high = by (find-down target reached past (k - 1) d r go (omega (arith, is_k)) (omega (arith, high))) (log_at k o) refl
    where
      over : r.id < k
      over = omega (arith, is_k)

      past_over : past < k
      past_over = let low = r.above in omega (arith, low, is_k)

      top-is : (latest : VersionedManifest) → latest_manifest o ≡ Some latest → k ≤ last_log latest.manifest.replay_after_wal_id o
      top-is latest at = let same = ap (λ (x : VersionedManifest). last_log x.manifest.replay_after_wal_id o) (some-same l latest (sym is ∙ at)) in omega (arith, same, high)

      here : (log_at k o ≡ None) ⊎ HasFrom target k o → IsToFind target reached past k o
      here has = record { at = k; above = past_over; below = omega arith; within = top-is; has = has; none = λ n batches over under there. absurd (omega (arith, over, under)) }

      further : IsToFind target reached past (k - 1) o → (bs : List Batch) → log_at k o ≡ Some bs → greatest_number bs ≤ reached → IsToFind target reached past k o
      further f bs stored few =
          record {
            at = f.at;
            above = f.above;
            below = (let low = f.below in omega (arith, low));
            within = top-is;
            has = f.has;
            none = λ n batches over under there. elim (cases_eq n k) [
              | inl same ↦
                  let it = some-same bs batches (sym stored ∙ (ap (λ i. log_at i o) (sym same) ∙ there)) in
                  let most = ap greatest_number it in
                  omega (arith, most, few)
              | inr other ↦ f.none n batches over (omega (arith, other, under)) there
            ];
          }

      by : IsToFind target reached past (k - 1) o → (log : Option (List Batch)) → log_at k o ≡ log → IsToFind target reached past k o
      by f None none = here (inl none)
      by f (Some bs) stored = elim (go k bs over stored) [
        | inl few ↦ further f bs stored few
        | inr late ↦ here (inr (bs, stored, late))
      ]

  pub found-down : (target reached past last : ℕ) (r : IsToRead target past o) → GoFrom target reached r.id o → r.id ≤ last → last ≤ top → IsToFind target reached past last o
  found-down target reached past last r go low high = find-down target reached past last (last - r.id) r go (omega (arith, low)) high

-- ---- what others do
-- batches that come after a line have none of these that isn't as late as what was stored
abbrev pub AreLate : (target : ℕ) → List Batch → Type 0
AreLate target batches = (reached : ℕ) → (greatest_number batches ≤ reached) ⊎ (target ≤ greatest_number batches)

pub past-late : (target : ℕ) (line : Line) (batches : List Batch) → target ≤ end line → PastLine line batches → AreLate target batches
past-late target line [] within past reached = inl (omega arith)
past-late target line (b ∷ bs) within past reached =
    let first = All-head (λ (x : Batch). end line < x.number) b bs past in
    let most = All-head (λ (x : Batch). x.number ≤ greatest_number (b ∷ bs)) b bs (all-within (b ∷ bs)) in
    inr (omega (arith, first, most, within))

pub late-news : (target : ℕ) (line : Line) (o o' : Objects) → target ≤ end line → LogsAre (PastLine line) o o' → LogsAre (AreLate target) o o'
late-news target line o o' within news id batches there = elim (news id batches there) [
  | inl before ↦ inl before
  | inr past ↦ inr (past-late target line batches within past)
]

module _ (target : ℕ) (o o' : Objects) (l l' : VersionedManifest) (is : latest_manifest o ≡ Some l) (is' : latest_manifest o' ≡ Some l') (follows : LogsFollow o o' l.manifest.replay_after_wal_id l'.manifest.replay_after_wal_id)
    (goes : LogsGo (last_log l.manifest.replay_after_wal_id o) o o') (news : LogsAre (AreLate target) o o') where
  top-then : (k : ℕ) → k ≤ last_log l.manifest.replay_after_wal_id o → (found : VersionedManifest) → latest_manifest o' ≡ Some found → k ≤ last_log found.manifest.replay_after_wal_id o'
  top-then k within found at =
      let same = ap (λ (x : VersionedManifest). last_log x.manifest.replay_after_wal_id o') (some-same l' found (sym is' ∙ at)) in
      let up = follows.last in
      omega (arith, same, within, up)

  -- a log file up to the last one has what it had, or is gone
  from-then : (id : ℕ) → id ≤ last_log l.manifest.replay_after_wal_id o → HasFrom target id o → (log_at id o' ≡ None) ⊎ HasFrom target id o'
  from-then id within has = elim (follows.left id within) [
    | inl same ↦ inr (has.0, same ∙ has.1, has.2)
    | inr gone ↦ inl gone
  ]

  none-then : (id : ℕ) → id ≤ last_log l.manifest.replay_after_wal_id o → log_at id o ≡ None → log_at id o' ≡ None
  none-then id within none = elim (follows.left id within) [
    | inl same ↦ same ∙ none
    | inr gone ↦ gone
  ]

  pub to-read-then : (past : ℕ) → IsToRead target past o → IsToRead target past o'
  to-read-then past r =
      let within = r.within l is in
      record {
        id = r.id;
        above = r.above;
        within = top-then r.id within;
        has = elim r.has [
          | inl gone ↦ inl (λ n over under. none-then n (omega (arith, under, within)) (gone n over under))
          | inr has ↦ elim (from-then r.id within has) [
            | inl gone ↦ inl (λ n over under. elim (goes r.id n (omega (arith, over)) under within gone) [
              | inl none ↦ absurd (let some = has.1 in cc (none, some))
              | inr below_gone ↦ below_gone
            ])
            | inr has_then ↦ inr has_then
          ]
        ];
      }

  go-then : (reached id : ℕ) → GoFrom target reached id o → GoFrom target reached id o'
  go-then reached id go n batches over there = elim (news n batches there) [
    | inl before ↦ go n batches over before
    | inr late ↦ late reached
  ]

  to-find-then : (reached past id : ℕ) → IsToFind target reached past id o → IsToFind target reached past id o'
  to-find-then reached past id f =
      let within = f.within l is in
      let below = f.below in
      record {
        at = f.at;
        above = f.above;
        below = f.below;
        within = top-then id within;
        has = elim f.has [
          | inl none ↦ inl (none-then f.at (omega (arith, below, within)) none)
          | inr has ↦ from-then f.at (omega (arith, below, within)) has
        ];
        none = λ n batches over under there. elim (follows.left n (omega (arith, under, within))) [
          | inl same ↦ f.none n batches over under (sym same ∙ there)
          | inr gone ↦ absurd (cc (gone, there))
        ];
      }

  covered-then : (reached past : ℕ) → IsCovered target reached past o → IsCovered target reached past o'
  unfolding to-read-then
  covered-then reached past (inl low) = inl low
  covered-then reached past (inr (r, go)) = inr (to-read-then past r, go-then reached r.id go)

  pub anew-then : (skips : Bool) (m : VersionedManifest) → IsCoveredBy skips target m o → IsCoveredBy skips target m o'
  anew-then true m low = low
  anew-then false m covered = covered-then m.manifest.last_l0_seq m.manifest.replay_after_wal_id covered

  pub reaches-then : (lag : ℕ) (b : Begun) (stage : Stage) → ReachesAt lag stage target o b → ReachesAt lag stage target o' b
  unfolding to-read-then
  reaches-then lag b ReadsLatest r = tt
  reaches-then lag b (Puts next given true) r = (covered-then (max (reached_number b) next.manifest.last_l0_seq) (max b.mark next.manifest.replay_after_wal_id) r.0, r.1)
  reaches-then lag b (Puts next given false) r = r
  reaches-then lag b AsksLast r = (covered-then (reached_number b) b.mark r.0, r.1)
  reaches-then lag b (LooksAt id last) (inl low) = inl low
  reaches-then lag b (LooksAt id last) (inr (far, find, below)) = inr (far, to-find-then (reached_number b) b.mark id find, below)
  reaches-then lag b (ReadsLog last) (inl low) = inl low
  reaches-then lag b (ReadsLog last) (inr (r, below)) = inr (to-read-then b.mark r, below)
  reaches-then lag b ReadsAgain (inl low) = inl low
  reaches-then lag b ReadsAgain (inr (m, at, below)) =
      let same = ap (λ (x : VersionedManifest). x.manifest.replay_after_wal_id) (some-same l m (sym is ∙ at)) in
      let up = follows.marks in
      inr (l', is', omega (arith, same, up, below))
  reaches-then lag b Ended r = r

-- ---- what a call leads to
abbrev planned_next : Plan Checkpoint → Option VersionedManifest
planned_next (Ok (next, checkpoint)) = next
planned_next (Err refusal) = None

next-some : (l next : VersionedManifest) (checkpoint c : Checkpoint) → puts_next l next checkpoint ≡ Ok (None, c) → ⊥
next-some l next checkpoint c is = by (nat_lt l.id last_number) is
  where
    by : (x : Bool) → ◌≡◌ {A = Plan Checkpoint} (if x then Ok (Some next, checkpoint) else Err InvalidDBState) (Ok (None, c)) → ⊥
    by true is = (let e : ◌≡◌ {A = Option VersionedManifest} (Some next) None = ap planned_next is in cc)
    by false is = cc

write-some : (l : VersionedManifest) (lease : Lease) (moment : ℤ) (c : Checkpoint) → to_write (Some lease.id) (Some lease.lifetime) moment l ≡ Ok (None, c) → ⊥
write-some l lease moment c is =
    let checkpoint = new_checkpoint l (Some lease.lifetime) moment in
    next-some l (with_checkpoints (without_replaced (Some lease.id) l.manifest.checkpoints ++ checkpoint ∷ []) l) checkpoint c is

module _ (target : ℕ) (o : Objects) (reader : Follower) where
  abbrev Anew : Begun → Type 0
  Anew b = (m : VersionedManifest) → b.latest ≡ Some m → IsCoveredBy reader.skips target m o

  abbrev pub Reaches : Turn → Type 0
  Reaches (Goes b) = Anew b × ReachesAt reader.lag b.stage target o b
  Reaches (Ends b) = target ≤ reached_number b
  Reaches (Breaks b) = Unit {0}
  Reaches (Fails error) = Unit {0}

  anew-one : (b : Begun) (l : VersionedManifest) → b.latest ≡ Some l → IsCoveredBy reader.skips target l o → Anew b
  anew-one b l is covered m at = subst (λ v. IsCoveredBy reader.skips target v o) (some-same l m (sym is ∙ at)) covered

  put-reaches : (l : VersionedManifest) (lifetime : ℕ) (p : Plan Checkpoint) (replaces : Bool) (b : Begun) → Anew b →
      ((next : VersionedManifest) (checkpoint : Checkpoint) → p ≡ Ok (Some next, checkpoint) → ReachesAt reader.lag (Puts next (lease_of lifetime checkpoint) replaces) target o b) → ((c : Checkpoint) → p ≡ Ok (None, c) → target ≤ reached_number b) → Reaches (put_by (leased lifetime p) replaces b)
  put-reaches l lifetime (Ok (Some next, checkpoint)) replaces b anew some none = (anew, staged next (lease_of lifetime checkpoint) replaces (some next checkpoint refl))
    where
      staged : (next : VersionedManifest) (given : Lease) (replaces : Bool) → ReachesAt reader.lag (Puts next given replaces) target o b → ReachesAt reader.lag (Puts next given replaces) target o (record b { stage = Puts next given replaces })
      staged next given true r = r
      staged next given false r = r
  put-reaches l lifetime (Ok (None, checkpoint)) replaces b anew some none = none checkpoint refl
  put-reaches l lifetime (Err refusal) replaces b anew some none = tt

  pub replayed-reaches : (l : VersionedManifest) (b : Begun) → Anew b → target ≤ reached_number b → Reaches (replayed l b)
  replayed-reaches l b anew low = by b.lease
    where
      kept-by : (lease : Lease) (there : Option Checkpoint) → Reaches (kept_lease b.moment lease l there (record b { asked = true }))
      kept-by lease (Some checkpoint) = put-reaches l lease.lifetime (to_refresh lease.id lease.lifetime b.moment l) false (record b { asked = true }) anew (λ next checkpoint gives. low) (λ c none. low)
      kept-by lease None = put-reaches l lease.lifetime (to_write (Some lease.id) (Some lease.lifetime) b.moment l) true (record b { asked = true }) anew (λ next checkpoint gives. (inl (omega (arith, low)), inl (omega (arith, low)))) (λ c none. low)

      due : (lease : Lease) (x : Bool) → Reaches (if x then kept_lease b.moment lease l (found lease.id l) (record b { asked = true }) else Ends (record b { stage = Ended }))
      due lease true = kept-by lease (found lease.id l)
      due lease false = low

      by : (held : Option Lease) → Reaches (asked_lease held l b)
      by None = low
      by (Some lease) = due lease (not b.asked && is_due b.moment lease)

  -- under a view whose tables end where the manifest's do
  replaying-reaches : (l : VersionedManifest) (b : Begun) → b.latest ≡ Some l → (view_of reader b).manifest.last_l0_seq ≡ l.manifest.last_l0_seq → IsCoveredBy reader.skips target l o →
      IsCovered target (max (reached_number b) l.manifest.last_l0_seq) (max b.mark l.manifest.replay_after_wal_id) o → base_of reader b ≤ l.manifest.last_l0_seq → IsApart reader.lag target (max (reached_number b) l.manifest.last_l0_seq) → Reaches (replaying reader l b)
  replaying-reaches l b is same anew covered base apart = by reader.skips (leads_on reader b) refl refl
    where
      of-skips : reader.skips ≡ true → target ≤ l.manifest.last_l0_seq
      of-skips skips = subst (λ s. IsCoveredBy s target l o) skips anew

      of-reads : reader.skips ≡ false → IsCovered target l.manifest.last_l0_seq l.manifest.replay_after_wal_id o
      of-reads reads = subst (λ s. IsCoveredBy s target l o) reads anew

      led : leads_on reader b ≡ true → (view_of reader b).manifest.last_l0_seq ≤ reached_number b
      led on = leb-true (view_of reader b).manifest.last_l0_seq (reached_number b) (second (nat_le _ _) (nat_le (view_of reader b).manifest.last_l0_seq (reached_number b)) on)
        where
          second : (x y : Bool) → (x && y) ≡ true → y ≡ true
          second true y all = all
          second false y all = absurd (cc)

      led-covered : leads_on reader b ≡ true → IsCovered target (max (reached_number b) l.manifest.last_l0_seq) (max b.mark l.manifest.replay_after_wal_id) o → IsCovered target (reached_number b) (max b.mark l.manifest.replay_after_wal_id) o
      led-covered on (inl low) = let up = led on in inl (omega (arith, up, low, same))
      led-covered on (inr (r, go)) = let up = led on in inr (r, go-more target (max (reached_number b) l.manifest.last_l0_seq) (reached_number b) r.id o (omega (arith, up, same)) go)

      led-apart : leads_on reader b ≡ true → IsApart reader.lag target (max (reached_number b) l.manifest.last_l0_seq) → IsApart reader.lag target (reached_number b)
      led-apart on (inl low) = let up = led on in inl (omega (arith, up, low, same))
      led-apart on (inr far) = let up = led on in inr (omega (arith, up, far, same))

      emptied-covered : IsCovered target l.manifest.last_l0_seq l.manifest.replay_after_wal_id o → IsCovered target ((view_of reader b).manifest.last_l0_seq + 0) l.manifest.replay_after_wal_id o
      emptied-covered (inl low) = inl (omega (arith, low, same))
      emptied-covered (inr (r, go)) = inr (r, go-more target l.manifest.last_l0_seq ((view_of reader b).manifest.last_l0_seq + 0) r.id o (omega (arith, same)) go)

      not-led : leads_on reader b ≡ false → reached_number b ≤ (view_of reader b).manifest.last_l0_seq
      not-led on = elim (cases_lt (reached_number b) (view_of reader b).manifest.last_l0_seq) [
        | inl below ↦ omega (arith, below)
        | inr within ↦
            let tabled = (view_of reader b).manifest.last_l0_seq in
            let lower : nat_le (base_of reader b) tabled ≡ true = le-leb (base_of reader b) tabled (omega (arith, base, same)) in
            let upper : nat_le tabled (reached_number b) ≡ true = le-leb tabled (reached_number b) within in
            absurd (let no : true ≡ false = sym (both _ _ lower upper) ∙ on in cc)
      ]
        where
          both : (x y : Bool) → x ≡ true → y ≡ true → (x && y) ≡ true
          both x y first second = ap (λ a. a && y) first ∙ second

      emptied-apart : leads_on reader b ≡ false → IsApart reader.lag target (max (reached_number b) l.manifest.last_l0_seq) → IsApart reader.lag target ((view_of reader b).manifest.last_l0_seq + 0)
      emptied-apart on (inl low) = let up = not-led on in inl (omega (arith, up, low, same))
      emptied-apart on (inr far) = let up = not-led on in inr (omega (arith, up, far, same))

      by : (skips leads : Bool) → reader.skips ≡ skips → leads_on reader b ≡ leads →
          Reaches (if skips then replayed l (emptied reader l.manifest.replay_after_wal_id b) else (if leads then Goes (record b { stage = AsksLast; mark = max b.mark l.manifest.replay_after_wal_id }) else Goes (record (emptied reader l.manifest.replay_after_wal_id b) { stage = AsksLast })))
      by true leads skips on = replayed-reaches l (emptied reader l.manifest.replay_after_wal_id b) (anew-one (emptied reader l.manifest.replay_after_wal_id b) l is anew) (let low = of-skips skips in omega (arith, low, same))
      by false true reads on = (anew-one (record b { stage = AsksLast; mark = max b.mark l.manifest.replay_after_wal_id }) l is anew, (led-covered on covered, led-apart on apart))
      by false false reads on = (anew-one (record (emptied reader l.manifest.replay_after_wal_id b) { stage = AsksLast }) l is anew, (emptied-covered (of-reads reads), emptied-apart on apart))

  pub decided-reaches : (l : VersionedManifest) (lease : Option Lease) (b : Begun) → b.view ≡ None → IsCoveredBy reader.skips target l o → IsCovered target (max (reached_number b) l.manifest.last_l0_seq) (max b.mark l.manifest.replay_after_wal_id) o → base_of reader b ≤ l.manifest.last_l0_seq →
      IsApart reader.lag target (max (reached_number b) l.manifest.last_l0_seq) → Reaches (decided reader l lease b)
  decided-reaches l None b unviewed anew covered base apart = replaying-reaches l (record b { view = Some l; latest = Some l }) refl refl anew covered base apart
  decided-reaches l (Some held) b unviewed anew covered base apart = by (differs reader.view l) refl
    where
      planned : (next : VersionedManifest) (checkpoint : Checkpoint) → to_write (Some held.id) (Some held.lifetime) b.moment l ≡ Ok (Some next, checkpoint) →
          IsCovered target (max (reached_number b) next.manifest.last_l0_seq) (max b.mark next.manifest.replay_after_wal_id) o × IsApart reader.lag target (max (reached_number b) next.manifest.last_l0_seq)
      planned next checkpoint gives =
          let other = planned-other l next (held.id, held.lifetime, b.moment, checkpoint, inl gives) in (
            subst (λ (v : VersionedManifest). IsCovered target (max (reached_number b) v.manifest.last_l0_seq) (max b.mark v.manifest.replay_after_wal_id) o) (sym other.1) covered,
            subst (λ (v : VersionedManifest). IsApart reader.lag target (max (reached_number b) v.manifest.last_l0_seq)) (sym other.1) apart,
          )

      by : (x : Bool) → differs reader.view l ≡ x → Reaches (if x then put_by (leased held.lifetime (to_write (Some held.id) (Some held.lifetime) b.moment l)) true (record b { latest = Some l }) else replaying reader l (record b { latest = Some l }))
      by true other = put-reaches l held.lifetime (to_write (Some held.id) (Some held.lifetime) b.moment l) true (record b { latest = Some l }) (anew-one (record b { latest = Some l }) l refl anew) planned (λ c none. absurd (write-some l held b.moment c none))
      by false same =
          let viewed : (view_of reader b).manifest.last_l0_seq ≡ l.manifest.last_l0_seq = ap (λ v. (unwrap_or v reader.view).manifest.last_l0_seq) unviewed ∙ same-tables reader.view l same in
          replaying-reaches l (record b { latest = Some l }) refl viewed anew covered base apart

  pub committed-reaches : (next : VersionedManifest) (given : Lease) (replaces : Bool) (b : Begun) → IsCoveredBy reader.skips target next o → base_of reader b ≤ next.manifest.last_l0_seq → ReachesAt reader.lag (Puts next given replaces) target o b → Reaches (committed reader next given replaces b)
  committed-reaches next given true b anew base (covered, apart) = replaying-reaches next (record b { view = Some next; latest = Some next; lease = Some given }) refl refl anew covered base apart
  committed-reaches next given false b anew base low = low

  pub overtaken-reaches : (b : Begun) → Reaches (overtaken_by reader b)
  overtaken-reaches b = by (b.overtaken == 7)
    where
      by : (x : Bool) → Reaches (if x then Fails (errors.TransactionalObjectTimeout 8) else Goes (begun_at b.moment (b.overtaken + 1) b.history reader))
      by true = tt
      by false = (λ m at. absurd (cc), tt)

  pub asked-reaches : (sound : IsSound o) (l : VersionedManifest) → latest_manifest o ≡ Some l → (b : Begun) → Anew b → IsCovered target (reached_number b) b.mark o → IsApart reader.lag target (reached_number b) → Reaches (Goes (asked_last reader (last_log b.mark o) b))
  asked-reaches sound l is b anew covered apart = by (nat_lt b.mark (last_log b.mark o)) refl covered
    where
      last : ℕ
      last = last_log b.mark o

      -- the last log file is among those of the latest manifest
      within : b.mark < last → last ≤ last_log l.manifest.replay_after_wal_id o
      within some = let there = some-log (log_at last o) (last-there b.mark o.logs some) in stored-below l.manifest.replay_after_wal_id last there.0 o.logs there.1

      found : b.mark < last → (r : IsToRead target b.mark o) → GoFrom target (reached_number b) r.id o → IsApart reader.lag target (reached_number b) → ReachesAt reader.lag (LooksAt last last) target o b
      found some r go (inl low) = inl low
      found some r go (inr far) = inr (far, found-down o sound l is target (reached_number b) b.mark last r go ((asked-covered o sound l is target b r).0 some) (within some), omega arith)

      first : b.mark < last → IsCovered target (reached_number b) b.mark o → (none : Bool) → ReachesAt reader.lag (if none then ReadsLog last else LooksAt last last) target o b
      first some (inl low) true = inl low
      first some (inl low) false = inl low
      first some (inr (r, go)) true = inr (r, (asked-covered o sound l is target b r).0 some)
      first some (inr (r, go)) false = found some r go apart

      staged : (stage : Stage) → ReachesAt reader.lag stage target o b → ReachesAt reader.lag stage target o (record b { stage = stage; history = with_log last b.history })
      staged ReadsLatest r = tt
      staged (Puts next given true) r = r
      staged (Puts next given false) r = r
      staged AsksLast r = r
      staged (LooksAt id last) r = r
      staged (ReadsLog last) r = r
      staged ReadsAgain r = r
      staged Ended r = r

      by : (x : Bool) → nat_lt b.mark (last_log b.mark o) ≡ x → IsCovered target (reached_number b) b.mark o →
          Reaches (Goes (if x then record b { stage = first_log reader (last_log b.mark o); history = with_log (last_log b.mark o) b.history } else record b { stage = ReadsAgain }))
      by true on covered = (anew, staged (first_log reader last) (first (ltb-true b.mark last on) covered (reader.lag == 0)))
      by false on (inl low) = (anew, inl low)
      by false on (inr (r, go)) = (
        anew,
        inr (
          l,
          is,
          (asked-covered o sound l is target b r).1 (elim (cases_lt b.mark (last_log b.mark o)) [
            | inl less ↦ absurd (let yes = lt-ltb b.mark (last_log b.mark o) less in cc (yes, on))
            | inr over ↦ over
          ]),
        ),
      )

  -- a log file was looked at
  pub looked-reaches : (l : VersionedManifest) (id last : ℕ) (batches : List Batch) (b : Begun) → Anew b → log_at id o ≡ Some batches → ReachesAt reader.lag (LooksAt id last) target o b → Reaches (looked_at reader l id last batches b)
  looked-reaches l id last batches b anew stored covered = by (nat_lt (reached_number b + reader.lag) newest) (nat_lt (reached_number b) newest || id == b.mark + 1) refl refl covered
    where
      newest : ℕ
      newest = greatest_number batches

      -- it is the one that has what is to be found, or has none that wasn't reached
      here : (f : IsToFind target (reached_number b) b.mark id o) → (target ≤ newest) ⊎ ((f.at < id) × (newest ≤ reached_number b))
      here f = elim (cases_lt f.at id) [
        | inl before ↦ inr (before, f.none id batches before (omega arith) stored)
        | inr over ↦
            let below = f.below in
            let same : f.at ≡ id = omega (arith, over, below) in
            elim f.has [
              | inl none ↦ absurd (let some = ap (λ k. log_at k o) same ∙ stored in cc (none, some))
              | inr has ↦
                  let it = some-same has.0 batches (sym has.1 ∙ (ap (λ k. log_at k o) same ∙ stored)) in
                  let most = ap greatest_number it in
                  let high = has.2 in
                  inl (omega (arith, most, high))
            ]
      ]

      read : (f : IsToFind target (reached_number b) b.mark id o) → target ≤ newest → IsToRead target b.mark o
      read f high = record { id = id; above = (let low = f.above in let below = f.below in omega (arith, low, below)); within = f.within; has = inr (batches, stored, high) }

      further : (f : IsToFind target (reached_number b) b.mark id o) → f.at < id → IsToFind target (reached_number b) b.mark (id - 1) o
      further f before = record {
        at = f.at;
        above = f.above;
        below = omega (arith, before);
        within = λ latest is. (let high = f.within latest is in omega (arith, high));
        has = f.has;
        none = λ n bs over under there. f.none n bs over (omega (arith, under)) there;
      }

      or-true : (x y : Bool) → (x || y) ≡ true → x ≡ false → y ≡ true
      or-true true y is isnt = absurd (cc)
      or-true false y is isnt = is

      -- one that has none that wasn't reached isn't the first above the mark
      not-first : (f : IsToFind target (reached_number b) b.mark id o) → f.at < id → newest ≤ reached_number b → (nat_lt (reached_number b) newest || id == b.mark + 1) ≡ true → ⊥
      not-first f before few on =
          let first = eqb-true id (b.mark + 1) (or-true _ _ on (le-ltb (reached_number b) newest few)) in
          let low = f.above in
          omega (arith, first, low, before)

      by : (x y : Bool) → nat_lt (reached_number b + reader.lag) newest ≡ x → (nat_lt (reached_number b) newest || id == b.mark + 1) ≡ y → ReachesAt reader.lag (LooksAt id last) target o b →
          Reaches (if x then Goes (record b { stage = ReadsLog last }) else (if y then replayed l b else Goes (record b { stage = LooksAt (id - 1) last })))
      by true y far on (inl low) = (anew, inl low)
      by true y far on (inr (apart, f, below)) = elim (here f) [
        | inl high ↦ (anew, inr (read f high, below))
        | inr (before, few) ↦ absurd (let more = ltb-true (reached_number b + reader.lag) newest far in omega (arith, more, few))
      ]
      by false true near on (inl low) = replayed-reaches l b anew low
      by false true near on (inr (apart, f, below)) = elim (here f) [
        | inl high ↦ absurd (let yes = lt-ltb (reached_number b + reader.lag) newest (omega (arith, apart, high)) in cc (yes, near))
        | inr (before, few) ↦ absurd (not-first f before few on)
      ]
      by false false near on (inl low) = (anew, inl low)
      by false false near on (inr (apart, f, below)) = elim (here f) [
        | inl high ↦ absurd (let yes = lt-ltb (reached_number b + reader.lag) newest (omega (arith, apart, high)) in cc (yes, near))
        | inr (before, few) ↦ (anew, inr (apart, further f before, omega (arith, below)))
      ]

  pub read-reaches : (l : VersionedManifest) (last : ℕ) (fresh batches : List Batch) (b : Begun) → Anew b → log_at (b.mark + 1) o ≡ Some batches → b.floor + length b.fresh ≤ b.floor + length fresh → All (λ x. x.number ≤ b.floor + length fresh) batches →
      ((target ≤ reached_number b) ⊎ ((r : IsToRead target b.mark o) × (r.id ≤ last))) → Reaches (read_log l last fresh b)
  read-reaches l last fresh batches b anew stored up within covered = by (b.mark + 1 == last) refl (next covered)
    where
      next : ((target ≤ reached_number b) ⊎ ((r : IsToRead target b.mark o) × (r.id ≤ last))) → (target ≤ b.floor + length fresh) ⊎ ((r : IsToRead target (b.mark + 1) o) × (r.id ≤ last))
      next (inl low) = inl (omega (arith, low, up))
      next (inr (r, below)) = elim r.has [
        | inl gone ↦ absurd (let over = r.above in let none = gone (b.mark + 1) (omega arith) (omega (arith, over)) in cc (none, stored))
        | inr has ↦ elim (cases_eq r.id (b.mark + 1)) [
          | inl here ↦
              let same : batches ≡ has.0 = some-same batches has.0 (sym stored ∙ subst (λ k. log_at k o ≡ Some has.0) here has.1) in
              let low = greatest-within (b.floor + length fresh) has.0 (subst (λ bs. All (λ (x : Batch). x.number ≤ b.floor + length fresh) bs) same within) in
              let high = has.2 in
              inl (omega (arith, low, high))
          | inr other ↦ let over = r.above in inr (record { id = r.id; above = omega (arith, over, other); within = r.within; has = inr has }, below)
        ]
      ]

      by : (x : Bool) → (b.mark + 1 == last) ≡ x → (target ≤ b.floor + length fresh) ⊎ ((r : IsToRead target (b.mark + 1) o) × (r.id ≤ last)) →
          Reaches (if x then replayed l (record b { fresh = fresh; mark = b.mark + 1 }) else Goes (record b { fresh = fresh; mark = b.mark + 1; stage = ReadsLog last }))
      by true on (inl low) = replayed-reaches l (record b { fresh = fresh; mark = b.mark + 1 }) anew low
      by true on (inr (r, below)) = absurd (let over = r.above in let same = eqb-true (b.mark + 1) last on in omega (arith, over, same, below))
      by false on rest = (anew, rest)

  pub again-reaches : (l : VersionedManifest) (b : Begun) → latest_manifest o ≡ Some l → IsCoveredBy reader.skips target l o → ReachesAt reader.lag ReadsAgain target o b → Reaches (read_again l b)
  again-reaches l b is anew covered = by (nat_lt b.mark l.manifest.replay_after_wal_id) refl covered
    where
      by : (x : Bool) → nat_lt b.mark l.manifest.replay_after_wal_id ≡ x → ReachesAt reader.lag ReadsAgain target o b → Reaches (if x then Breaks (record b { stage = Ended }) else replayed l (record b { latest = Some l }))
      by true gone covered = tt
      by false still (inl low) = replayed-reaches l (record b { latest = Some l }) (anew-one (record b { latest = Some l }) l refl anew) low
      by false still (inr (m, at, below)) =
          let same = ap (λ (x : VersionedManifest). x.manifest.replay_after_wal_id) (some-same l m (sym is ∙ at)) in
          let yes = lt-ltb b.mark l.manifest.replay_after_wal_id (omega (arith, same, below)) in
          absurd (cc (yes, still))
