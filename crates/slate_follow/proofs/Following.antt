-- A begun poll follows the line that is stored, from call to call.
use Rattle.std.proofs.Common.{◌≡◌, ◌∙◌, ℕ, ℤ, suc, ◌+◌, ◌-◌, zero, ◌<◌, ◌≤◌, ◌++◌, max, Bool, true, false, not, Result, ◌&&◌, ◌||◌, ◌==◌, ltb, cond, if◌then◌else◌, inl, inr, List, [], ◌∷◌, length, filter, map, Option, Some, None, Ok, Err, refl, rules, arith, ap, sym, subst}
use Rattle.std.specs.List.{slice_index_or}
use Rattle.std.specs.Prelude.{All, Contains, flat_map, nat_le, nat_lt, ◌⊎◌, unwrap_or, IsSomeAnd}
use Rattle.std.proofs.lemmas.List.Elements.{All-append, All-contains, All-contains_itself, All-cons, All-filter, All-head, All-nil, All-tail, Contains-append_left, Contains-append_right}
use Rattle.std.proofs.lemmas.Bool.{eqb-true, lt-ltb, le-ltb, cases_eq, cases_lt}
use Rattle.std.proofs.lemmas.Map.Made.{Contains-tail}
use Rattle.slate_types.specs.declared.batches.Batch.{Batch}
use Rattle.slate_types.specs.Line.{AreNumberedFrom, IsLine, IsPrefix, Line, batches_above}
use Rattle.slate_errors.specs.declared.errors.SlateError.TheVariants as errors
use Rattle.slate_store.specs.Logs.{HaveNoGap, StandsIn}
use Rattle.slate_store.proofs.Logs.{numbered-stand}
use Rattle.slate_follow.specs.Following.{AreOf, FollowsLine, FollowsOn, IsReplaying, LogsAreOf, Replaying, StandsAt}
use Rattle.std.specs.BTreeMap.{is_at}
use Rattle.std.specs.Ordering.{nat_cmp}
use Rattle.std.specs.Cmp.{nat_cmp_is}
use Rattle.std.proofs.Common.{Equal}
use Rattle.slate_store.specs.declared.objects.VersionedManifest.{VersionedManifest}
use Rattle.slate_store.specs.Content.{IsSound, content, content_by, logged, table_batches}
use Rattle.slate_store.specs.declared.objects.Checkpoint.{Checkpoint}
use Rattle.slate_store.specs.declared.refusals.StoreRefusal.TheVariants as refusals
use Rattle.slate_store.specs.Checkpoints.{puts_next, refreshed, to_end, with_checkpoints}
use Rattle.slate_store.specs.Checkpoints.{Plan, found, lease_end, new_checkpoint, to_refresh, to_write, without_replaced}
use Rattle.slate_model.specs.Begun.{AsksLast, Begun, Breaks, Ended, Ends, Fails, Goes, LooksAt, Puts, ReadsAgain, ReadsLatest, ReadsLog, Stage, Turn, asked_last, asked_lease, base_of, begun_at, committed, decided, emptied, first_log, greatest_number, kept_batches, kept_lease, leads_on, noted, overtaken_by, put_by, reached_number, read_again, replayed, replaying, taken, view_of, with_log, with_step}
use Rattle.slate_model.specs.Follower.{Follower, is_managed, number}
use Rattle.slate_model.specs.Lease.{differs, is_due, lease_of, leased}
use Rattle.slate_model.specs.declared.leases.Lease.{Lease}
use Rattle.slate_model.specs.declared.polls.PollHistory.{PollHistory}
use Rattle.slate_store.proofs.Entries.{apart}
use Rattle.slate_store.proofs.Latest.{its-objects}
use Rattle.slate_store.specs.Objects.{Objects, PutManifest, changed, entry_at, last_log, latest_manifest, log_at}
use Rattle.slate_replay.specs.Replay.{LogBelongsTo, line_of}
use Rattle.slate_replay.specs.declared.replays.Replayed.{Replayed}
use Rattle.slate_replay.specs.declared.replays.Replayed.TheVariants.{Whole, Truncated}
use Rattle.slate_replay.specs.Replay.{ReplaysNext}
use Rattle.slate_follow.specs.Stepping.{LooksTo, Meets, MeetsAt, Steps, failed_by, log_turn}
use Rattle.slate_model.specs.Managed.{poll_result}
use Rattle.std.specs.Result.{IfErr}
use Rattle.slate_types.specs.Modelled.{WhereModelled}
use Rattle.slate_errors.specs.declared.errors.SlateError.{SlateError}
use Rattle.slate_model.specs.Known.{IsContent}
use Rattle.slate_model.specs.declared.answers.PollAnswer.{PollAnswer}
use Rattle.slate_model.specs.declared.answers.PollAnswer.TheVariants as answers
use Rattle.slate_follow.proofs.Above.{above-append, above-twice, numbered-above}

-- ---- batches of a line
all-map : {P Q : Batch → Type 0} (xs : List Batch) → ((x : Batch) → P x → Q x) → All P xs → All Q xs
all-map xs f all = λ k d less. f _ (all k d less)

front-all : (P : Batch → Type 0) (xs ys : List Batch) → All P (xs ++ ys) → All P xs
front-all P [] ys all = All-nil P
front-all P (x ∷ xs) ys all = All-cons P x xs (All-head P x (xs ++ ys) all) (front-all P xs ys (All-tail P x (xs ++ ys) all))

pub are-grown : (batches : List Batch) (line line' : Line) → IsPrefix line line' → AreOf batches line → AreOf batches line'
are-grown batches line line' prefix are =
    all-map batches (λ x has. subst (λ (l : Line). Contains l.batches x) (sym prefix.1) (Contains-append_left line.batches prefix.0 x has)) are

pub are-above : (number : ℕ) (batches : List Batch) (line : Line) → AreOf batches line → AreOf (batches_above number batches) line
are-above number batches line are = All-filter (λ batch. nat_lt number batch.number) (λ x. Contains line.batches x) batches are

pub are-both : (a b : List Batch) (line : Line) → AreOf a line → AreOf b line → AreOf (a ++ b) line
are-both a b line = All-append (λ x. Contains line.batches x) a b

-- numbered batches that are some of numbered ones from the same number on are the first of these
later-number : (floor : ℕ) (bs : List Batch) (x : Batch) → AreNumberedFrom floor bs → Contains bs x → floor < x.number
later-number floor bs x numbered has = All-contains (λ b. floor < b.number) bs x (by floor bs numbered) has
  where
    by : (floor : ℕ) (bs : List Batch) → AreNumberedFrom floor bs → All (λ b. floor < b.number) bs
    by floor [] numbered = All-nil (λ b. floor < b.number)
    by floor (b ∷ bs) numbered =
        let first = numbered.0 in
        All-cons (λ b. floor < b.number) b bs (omega (arith, first)) (all-map {P = λ x. floor + 1 < x.number} {Q = λ x. floor < x.number} bs (λ x more. omega (arith, more)) (by (floor + 1) bs numbered.1))

first-ones : (floor : ℕ) (all front : List Batch) → AreNumberedFrom floor all → AreNumberedFrom floor front → All (λ x. Contains all x) front → (rest : List Batch) × (all ≡ front ++ rest)
first-ones floor all [] numbered begun has = (all, refl)
first-ones floor [] (b ∷ bs) numbered begun has = absurd (none (All-head (λ x. Contains [] x) b bs has))
  where
    none : Contains [] b → ⊥
    none c = let less = c.1 in omega (arith, less)
first-ones floor (a ∷ all) (b ∷ bs) numbered begun has =
    let rest = first-ones (floor + 1) all bs numbered.1 begun.1 (later bs begun.1 (All-tail (λ x. Contains (a ∷ all) x) b bs has)) in
    let same : a ≡ b = same-head in
    (rest.0, ap (λ xs. a ∷ xs) rest.1 ∙ ap (λ x. x ∷ (bs ++ rest.0)) same)
  where
    differs : (x : Batch) → floor + 1 < x.number → a ≡ x → ⊥
    differs x more is = let number = numbered.0 in let same = ap (λ (y : Batch). y.number) is in omega (arith, number, same, more)

    later : (bs : List Batch) → AreNumberedFrom (floor + 1) bs → All (λ x. Contains (a ∷ all) x) bs → All (λ x. Contains all x) bs
    later bs numbered has =
        let numbers = All-contains_itself bs in
        λ k d less. Contains-tail a all _ (differs _ (later-number (floor + 1) bs _ numbered (numbers k d less))) (has k d less)

    same-head : a ≡ b
    same-head = by (All-head (λ x. Contains (a ∷ all) x) b bs has)
      where
        by : Contains (a ∷ all) b → a ≡ b
        by c = at c.0 c.1 c.2
          where
            use_ : (k : ℕ) → k < length all → Contains all b → a ≡ b
            use_ k less rest = let number = begun.0 in let more = later-number (floor + 1) all b numbered.1 rest in absurd (omega (arith, number, more))

            at : (k : ℕ) → k < length (a ∷ all) → ◌≡◌ {A = Batch} (slice_index_or (a ∷ all) k b) b → a ≡ b
            at zero less is = is
            at (suc k) less is = let here : k < length all = omega (arith, less) in use_ k here (k, here, is)

-- ---- what a poll has read begins what the line has from its floor on
above-of : (floor : ℕ) (xs : List Batch) (x : Batch) → Contains xs x → floor < x.number → Contains (batches_above floor xs) x
above-of floor [] x has more = absurd (let less = has.1 in omega (arith, less))
above-of floor (y ∷ ys) x has more = at (λ rest. above-of floor ys x rest more) has.0 has.1 has.2
  where
    at : (Contains ys x → Contains (batches_above floor ys) x) → (k : ℕ) → k < length (y ∷ ys) → ◌≡◌ {A = Batch} (slice_index_or (y ∷ ys) k x) x → Contains (batches_above floor (y ∷ ys)) x
    at later zero less is =
        let number = ap (λ (b : Batch). b.number) is in
        let yes : ltb floor y.number ≡ true = lt-ltb floor y.number (omega (arith, number, more)) in
        rw yes (zero, omega arith, is)
    at later (suc k) less is =
        let rest = later (k, omega (arith, less), is) in
        elim (cases_lt floor y.number) [
          | inl over ↦ let yes : ltb floor y.number ≡ true = lt-ltb floor y.number over in rw yes (Contains-append_right (y ∷ []) (batches_above floor ys) x rest)
          | inr under ↦ let no : ltb floor y.number ≡ false = le-ltb floor y.number under in rw no rest
        ]

above-numbers : (n : ℕ) (bs : List Batch) → All (λ b. n < b.number) (batches_above n bs)
above-numbers n [] = All-nil (λ b. n < b.number)
above-numbers n (b ∷ bs) =
    elim (cases_lt n b.number) [
      | inl over ↦ let yes : ltb n b.number ≡ true = lt-ltb n b.number over in rw yes (All-cons (λ b. n < b.number) b (batches_above n bs) over (above-numbers n bs))
      | inr under ↦ let no : ltb n b.number ≡ false = le-ltb n b.number under in rw no (above-numbers n bs)
    ]

above-numbered : (m floor : ℕ) (bs : List Batch) → AreNumberedFrom m bs → m ≤ floor → AreNumberedFrom floor (batches_above floor bs)
above-numbered m floor bs numbered low =
    elim (cases_lt (m + length bs) floor) [
      | inl past ↦
          let last = numbered-above m (m + length bs) bs (batches_above (m + length bs) bs) numbered (omega arith) (omega arith) refl in
          let count = last.1 in
          let none : batches_above (m + length bs) bs ≡ [] = nothing (batches_above (m + length bs) bs) (omega (arith, count)) in
          let empty : batches_above floor bs ≡ [] = sym (above-twice (m + length bs) floor bs (omega (arith, past))) ∙ ap (batches_above floor) none in
          subst (AreNumberedFrom floor) (sym empty) tt
      | inr within ↦ (numbered-above m floor bs (batches_above floor bs) numbered low (omega (arith, within)) refl).0
    ]
  where
    nothing : (xs : List Batch) → length xs ≡ 0 → xs ≡ []
    nothing [] none = refl
    nothing (x ∷ xs) none = absurd (omega (arith, none))

module _ (line : Line) (numbered : IsLine line) (floor : ℕ) (low : line.floor ≤ floor) where
  abbrev pub rest-of : Line
  rest-of = line_of floor (batches_above floor line.batches)

  stands-rest : (x : Batch) → Contains line.batches x → floor < x.number → StandsIn x rest-of
  stands-rest x has more =
      All-contains (λ b. StandsIn b rest-of) (batches_above floor line.batches) x (numbered-stand floor (batches_above floor line.batches) (above-numbered line.floor floor line.batches numbered low)) (above-of floor line.batches x has more)

  pub begins-rest : (fresh : List Batch) → AreNumberedFrom floor fresh → AreOf fresh line → IsPrefix (line_of floor fresh) rest-of
  begins-rest fresh begun are =
      let has : All (λ x. Contains (batches_above floor line.batches) x) fresh = λ k d less. above-of floor line.batches _ (are k d less) (later-number floor fresh _ begun (All-contains_itself fresh k d less)) in
      let parts = first-ones floor (batches_above floor line.batches) fresh (above-numbered line.floor floor line.batches numbered low) begun has in
      (parts.0, ap (line_of floor) parts.1)

  pub are-begun : (fresh : List Batch) → IsPrefix (line_of floor fresh) rest-of → AreOf fresh line
  are-begun fresh prefix =
      let parts : batches_above floor line.batches ≡ fresh ++ prefix.0 = ap (λ (l : Line). l.batches) prefix.1 in
      let all : All (λ x. Contains line.batches x) (batches_above floor line.batches) = All-filter (λ batch. nat_lt floor batch.number) (λ x. Contains line.batches x) line.batches (All-contains_itself line.batches) in
      front-all (λ x. Contains line.batches x) fresh prefix.0 (subst (All (λ x. Contains line.batches x)) parts all)

  -- what one log file has above a number stands in it
  pub belongs-rest : (id n l0 : ℕ) (o : Objects) → floor ≤ n → l0 ≤ n → ((batches : List Batch) → log_at id o ≡ Some batches → AreOf (batches_above l0 batches) line) → LogBelongsTo id n rest-of o
  belongs-rest id n l0 o above over are = by (log_at id o) refl
    where
      by : (log : Option (List Batch)) → log_at id o ≡ log → All (λ batch. StandsIn batch rest-of) (batches_above n (unwrap_or log []))
      by None is = All-nil (λ batch. StandsIn batch rest-of)
      by (Some batches) is =
          let within : AreOf (batches_above n batches) line = subst (λ xs. AreOf xs line) (above-twice l0 n batches over) (are-above n (batches_above l0 batches) line (are batches is)) in
          λ k d less. stands-rest _ (within k d less) (let more = above-numbers n batches k d less in omega (arith, more, above))

-- ---- the log files of sound objects
refl-at : (id : ℕ) → is_at (nat_cmp id) id ≡ true
refl-at id = let same : nat_cmp id id ≡ Equal = sym (nat_cmp_is id id Equal refl) in rw same refl

module _ (mark l0 : ℕ) where
  -- what log files above the mark have above a number
  abbrev all-of : List (ℕ × List Batch) → List Batch
  all-of logs = batches_above l0 (flat_map (λ log. log.1) (filter (λ log. nat_lt mark log.0) logs))

  first-of : (e : ℕ × List Batch) (es : List (ℕ × List Batch)) → mark < e.0 → all-of (e ∷ es) ≡ batches_above l0 e.1 ++ all-of es
  first-of e es over = let yes : ltb mark e.0 ≡ true = lt-ltb mark e.0 over in rw yes (above-append l0 e.1 (flat_map (λ log. log.1) (filter (λ log. nat_lt mark log.0) es)))

  later-of : (e : ℕ × List Batch) (es : List (ℕ × List Batch)) (x : Batch) → Contains (all-of es) x → Contains (all-of (e ∷ es)) x
  later-of e es x has =
      elim (cases_lt mark e.0) [
        | inl over ↦ subst (λ xs. Contains xs x) (sym (first-of e es over)) (Contains-append_right (batches_above l0 e.1) (all-of es) x has)
        | inr under ↦ let no : ltb mark e.0 ≡ false = le-ltb mark e.0 under in rw no has
      ]

  logged-of : (id : ℕ) (batches : List Batch) (logs : List (ℕ × List Batch)) → mark < id → entry_at id logs ≡ Some batches → All (λ b. Contains (all-of logs) b) (batches_above l0 batches)
  logged-of id batches [] past is = absurd (cc)
  logged-of id batches (e ∷ es) past is =
      elim (cases_eq id e.0) [
        | inl same ↦
            (let here : is_at (nat_cmp id) e.0 ≡ true = subst (λ n. is_at (nat_cmp id) n ≡ true) same (refl-at id) in
            let found : Some e.1 ≡ Some batches = sym (ap (λ b. cond b (Some e.1) (entry_at id es)) here) ∙ is in
            let are : e.1 ≡ batches = cc in
            let parts = first-of e es (subst (λ n. mark < n) same past) in
            let all : All (λ b. Contains (batches_above l0 e.1 ++ all-of es) b) (batches_above l0 e.1) =
            λ k d less. Contains-append_left (batches_above l0 e.1) (all-of es) _ (All-contains_itself (batches_above l0 e.1) k d less) in
            subst (λ xs. All (λ b. Contains (all-of (e ∷ es)) b) (batches_above l0 xs)) are (subst (λ ys. All (λ b. Contains ys b) (batches_above l0 e.1)) (sym parts) all))
        | inr other ↦
            (let there : is_at (nat_cmp id) e.0 ≡ false = apart id e.0 other in
            let found : entry_at id es ≡ Some batches = sym (ap (λ b. cond b (Some e.1) (entry_at id es)) there) ∙ is in
            all-map {P = λ b. Contains (all-of es) b} {Q = λ b. Contains (all-of (e ∷ es)) b} (batches_above l0 batches) (λ x has. later-of e es x has) (logged-of id batches es past found))
      ]

pub logs-of : (o : Objects) (latest : VersionedManifest) → IsSound o → latest_manifest o ≡ Some latest → LogsAreOf latest (content o) o
logs-of o latest sound is =
    let m = latest.manifest in
    let its = its-objects o latest sound is in
    let content_is : content o ≡ content_by o (Some latest) = ap (content_by o) is in
    record {
      low = subst (λ (l : Line). l.floor ≤ m.last_l0_seq) (sym content_is) (let ends = its.tables.joined in omega (arith, ends));
      logs = λ id batches past found.
          subst (λ (l : Line). AreOf (batches_above m.last_l0_seq batches) l) (sym content_is)
          (all-map {P = λ b. Contains (logged o m) b} {Q = λ b. Contains (table_batches o m.tables ++ logged o m) b} (batches_above m.last_l0_seq batches) (λ x has. Contains-append_right (table_batches o m.tables) (logged o m) x has)
          (logged-of m.replay_after_wal_id m.last_l0_seq id batches o.logs past found));
    }

-- ---- what a turn leaves
some-same : (a b : VersionedManifest) → ◌≡◌ {A = Option VersionedManifest} (Some a) (Some b) → a ≡ b
some-same a b is = cc

leads-reached : (base tabled reached : ℕ) → (nat_le base tabled && nat_le tabled reached) ≡ true → tabled ≤ reached
leads-reached base tabled reached leads = search rules

-- the manifest that a plan puts has the tables and the log files of the latest one
same-logs : (next latest : VersionedManifest) (line : Line) (o : Objects) → next.manifest.last_l0_seq ≡ latest.manifest.last_l0_seq → next.manifest.replay_after_wal_id ≡ latest.manifest.replay_after_wal_id →
    LogsAreOf latest line o → LogsAreOf next line o
same-logs next latest line o tabled mark are = record {
  low = subst (λ n. line.floor ≤ n) (sym tabled) are.low;
  logs = λ id batches past found. subst (λ n. AreOf (batches_above n batches) line) (sym tabled) (are.logs id batches (subst (λ n. n < id) mark past) found);
}

-- a poll that puts a manifest next
record PutsLike (latest : VersionedManifest) (begun after : Begun) : Type 0 where
  next : VersionedManifest
  given : Lease
  replaces : Bool
  is : after ≡ record begun { stage = Puts next given replaces }
  tabled : next.manifest.last_l0_seq ≡ latest.manifest.last_l0_seq
  mark : next.manifest.replay_after_wal_id ≡ latest.manifest.replay_after_wal_id

puts-next : (lifetime : ℕ) (checkpoints : List Checkpoint) (checkpoint : Checkpoint) (latest : VersionedManifest) (replaces : Bool) (begun after : Begun) →
    put_by (leased lifetime (puts_next latest (with_checkpoints checkpoints latest) checkpoint)) replaces begun ≡ Goes after → PutsLike latest begun after
puts-next lifetime checkpoints checkpoint latest replaces begun after is = by (nat_lt latest.id 18446744073709551615) is
  where
    by : (fits : Bool) → put_by (leased lifetime (if fits then Ok (Some (with_checkpoints checkpoints latest), checkpoint) else Err refusals.InvalidDBState)) replaces begun ≡ Goes after → PutsLike latest begun after
    by true is =
        let same : record begun { stage = Puts (with_checkpoints checkpoints latest) (lease_of lifetime checkpoint) replaces } ≡ after = cc in
        record { next = with_checkpoints checkpoints latest; given = lease_of lifetime checkpoint; replaces = replaces; is = sym same; tabled = refl; mark = refl }
    by false is = absurd (cc)

refreshes-next : (lifetime : ℕ) (id : List ℕ) (end : ℤ) (latest : VersionedManifest) (there : Option Checkpoint) (replaces : Bool) (begun after : Begun) →
    put_by (leased lifetime (to_end id end latest there)) replaces begun ≡ Goes after → PutsLike latest begun after
refreshes-next lifetime id end latest None replaces begun after is = absurd (cc)
refreshes-next lifetime id end latest (Some checkpoint) replaces begun after is =
    puts-next lifetime (map (refreshed id end) latest.manifest.checkpoints) (record checkpoint { expire_ms = Some end }) latest replaces begun after is

-- the log files are read, and the lease is to be kept
replayed-puts : (latest : VersionedManifest) (begun after : Begun) → replayed latest begun ≡ Goes after → PutsLike latest (record begun { asked = true }) after
replayed-puts latest begun after is = by begun.lease is
  where
    kept : (l : Lease) (there : Option Checkpoint) → kept_lease begun.moment l latest there (record begun { asked = true }) ≡ Goes after → PutsLike latest (record begun { asked = true }) after
    kept l (Some checkpoint) is = refreshes-next l.lifetime l.id (lease_end begun.moment l.lifetime) latest (found l.id latest) false (record begun { asked = true }) after is
    kept l None is = puts-next l.lifetime (without_replaced (Some l.id) latest.manifest.checkpoints ++ new_checkpoint latest (Some l.lifetime) begun.moment ∷ []) (new_checkpoint latest (Some l.lifetime) begun.moment) latest true (record begun { asked = true }) after is

    due : (l : Lease) (b : Bool) → (if b then kept_lease begun.moment l latest (found l.id latest) (record begun { asked = true }) else Ends (record begun { stage = Ended })) ≡ Goes after →
        PutsLike latest (record begun { asked = true }) after
    due l true is = kept l (found l.id latest) is
    due l false is = absurd (cc)

    by : (held : Option Lease) → asked_lease held latest begun ≡ Goes after → PutsLike latest (record begun { asked = true }) after
    by None is = absurd (cc)
    by (Some l) is = due l (not begun.asked && is_due begun.moment l) is

-- the fresh batches of a turn
abbrev fresh-of : Turn → List Batch
fresh-of (Goes begun) = begun.fresh
fresh-of (Ends begun) = begun.fresh
fresh-of (Breaks begun) = begun.fresh
fresh-of (Fails error) = []

none-of : (line : Line) → AreOf [] line
none-of line = All-nil (λ batch. Contains line.batches batch)

put-of : (line : Line) (plan : Plan Lease) (replaces : Bool) (begun : Begun) → AreOf begun.fresh line → AreOf (fresh-of (put_by plan replaces begun)) line
put-of line (Ok (Some next, given)) replaces begun are = are
put-of line (Ok (None, given)) replaces begun are = are
put-of line (Err refusal) replaces begun are = none-of line

replayed-of : (line : Line) (latest : VersionedManifest) (begun : Begun) → AreOf begun.fresh line → AreOf (fresh-of (replayed latest begun)) line
replayed-of line latest begun are = by begun.lease
  where
    kept : (l : Lease) (there : Option Checkpoint) → AreOf (fresh-of (kept_lease begun.moment l latest there (record begun { asked = true }))) line
    kept l (Some checkpoint) = put-of line (leased l.lifetime (to_refresh l.id l.lifetime begun.moment latest)) false (record begun { asked = true }) are
    kept l None = put-of line (leased l.lifetime (to_write (Some l.id) (Some l.lifetime) begun.moment latest)) true (record begun { asked = true }) are

    due : (l : Lease) (b : Bool) → AreOf (fresh-of (if b then kept_lease begun.moment l latest (found l.id latest) (record begun { asked = true }) else Ends (record begun { stage = Ended }))) line
    due l true = kept l (found l.id latest)
    due l false = are

    by : (held : Option Lease) → AreOf (fresh-of (asked_lease held latest begun)) line
    by None = are
    by (Some l) = due l (not begun.asked && is_due begun.moment l)

replaying-of : (line : Line) (reader : Follower) (latest : VersionedManifest) (begun : Begun) → AreOf begun.fresh line → AreOf (fresh-of (replaying reader latest begun)) line
replaying-of line reader latest begun are = by reader.skips (leads_on reader begun)
  where
    by : (skips leads : Bool) → AreOf (fresh-of (if skips then replayed latest (emptied reader latest.manifest.replay_after_wal_id begun)
        else (if leads then Goes (record begun { stage = AsksLast; mark = max begun.mark latest.manifest.replay_after_wal_id })
        else Goes (record (emptied reader latest.manifest.replay_after_wal_id begun) { stage = AsksLast })))) line
    by true leads = replayed-of line latest (emptied reader latest.manifest.replay_after_wal_id begun) (none-of line)
    by false true = are
    by false false = none-of line

puts-follow : (o : Objects) (line : Line) (reader : Follower) (latest : VersionedManifest) (after from : Begun) → AreOf reader.line.batches line → line.floor ≤ number reader → LogsAreOf latest line o →
    AreOf from.fresh line → line.floor ≤ from.floor → PutsLike latest from after → FollowsLine o line reader after
puts-follow o line reader latest after from own begins logs are from-low puts =
    subst (λ (b : Begun). FollowsLine o line reader b) (sym puts.is)
    (record { own = own; begins = begins; fresh = are; low = from-low; next = same-logs puts.next latest line o puts.tabled puts.mark logs })

-- ---- a poll that replays from a manifest follows the line
module _ (o : Objects) (line : Line) (reader : Follower) (latest : VersionedManifest) (begun after : Begun) (own : AreOf reader.line.batches line) (begins : line.floor ≤ number reader) (logs : LogsAreOf latest line o)
    (fresh : AreOf begun.fresh line) (low : line.floor ≤ begun.floor) (held : begun.latest ≡ Some latest) (tabled : (view_of reader begun).manifest.last_l0_seq ≡ latest.manifest.last_l0_seq) where
  replaying-at : (b : Begun) → b.latest ≡ Some latest → latest.manifest.replay_after_wal_id ≤ b.mark → latest.manifest.last_l0_seq ≤ reached_number b → IsReplaying b line o
  replaying-at b held above reached = λ v is.
      let same : latest ≡ v = some-same _ _ (sym held ∙ is) in
      subst (λ (x : VersionedManifest). Replaying x b line o) same (record { above = above; reached = reached; are = logs })

  pub replaying-follows : replaying reader latest begun ≡ Goes after → FollowsLine o line reader after
  replaying-follows is = by reader.skips (leads_on reader begun) refl is
    where
      floor-low : line.floor ≤ (view_of reader begun).manifest.last_l0_seq
      floor-low = let below = logs.low in omega (arith, below, tabled)

      by : (skips leads : Bool) → leads_on reader begun ≡ leads →
          (if skips then replayed latest (emptied reader latest.manifest.replay_after_wal_id begun)
          else (if leads then Goes (record begun { stage = AsksLast; mark = max begun.mark latest.manifest.replay_after_wal_id })
          else Goes (record (emptied reader latest.manifest.replay_after_wal_id begun) { stage = AsksLast }))) ≡ Goes after → FollowsLine o line reader after
      by true leads on is = puts-follow o line reader latest after (record (emptied reader latest.manifest.replay_after_wal_id begun) { asked = true }) own begins logs (none-of line) floor-low (replayed-puts latest (emptied reader latest.manifest.replay_after_wal_id begun) after is)
      by false true on is =
          let next = record begun { stage = AsksLast; mark = max begun.mark latest.manifest.replay_after_wal_id } in
          let same : next ≡ after = cc in
          let reached : (view_of reader begun).manifest.last_l0_seq ≤ reached_number begun = leads-reached (base_of reader begun) (view_of reader begun).manifest.last_l0_seq (reached_number begun) on in
          subst (λ (b : Begun). FollowsLine o line reader b) same
          (record { own = own; begins = begins; fresh = fresh; low = low; next = replaying-at next held (omega arith) (omega (arith, reached, tabled)) })
      by false false on is =
          let next = record (emptied reader latest.manifest.replay_after_wal_id begun) { stage = AsksLast } in
          let same : next ≡ after = cc in
          subst (λ (b : Begun). FollowsLine o line reader b) same
          (record { own = own; begins = begins; fresh = none-of line; low = floor-low; next = replaying-at next held (omega arith) (omega (arith, tabled)) })

-- what the turns after a call of a poll that follows the line have of it
pub committed-of : (line : Line) (reader : Follower) (next : VersionedManifest) (given : Lease) (replaces : Bool) (begun : Begun) → AreOf begun.fresh line → AreOf (fresh-of (committed reader next given replaces begun)) line
committed-of line reader next given true begun are = replaying-of line reader next (record begun { view = Some next; latest = Some next; lease = Some given }) are
committed-of line reader next given false begun are = are

pub decided-of : (line : Line) (reader : Follower) (latest : VersionedManifest) (held : Option Lease) (begun : Begun) → AreOf begun.fresh line → AreOf (fresh-of (decided reader latest held begun)) line
decided-of line reader latest None begun are = replaying-of line reader latest (record begun { view = Some latest; latest = Some latest }) are
decided-of line reader latest (Some l) begun are = by (differs reader.view latest)
  where
    by : (b : Bool) → AreOf (fresh-of (if b then put_by (leased l.lifetime (to_write (Some l.id) (Some l.lifetime) begun.moment latest)) true (record begun { latest = Some latest })
        else replaying reader latest (record begun { latest = Some latest }))) line
    by true = put-of line (leased l.lifetime (to_write (Some l.id) (Some l.lifetime) begun.moment latest)) true (record begun { latest = Some latest }) are
    by false = replaying-of line reader latest (record begun { latest = Some latest }) are

pub again-of : (line : Line) (latest : VersionedManifest) (begun : Begun) → AreOf begun.fresh line → AreOf (fresh-of (read_again latest begun)) line
again-of line latest begun are = by (nat_lt begun.mark latest.manifest.replay_after_wal_id)
  where
    by : (b : Bool) → AreOf (fresh-of (if b then Breaks (record begun { stage = Ended }) else replayed latest (record begun { latest = Some latest }))) line
    by true = are
    by false = replayed-of line latest (record begun { latest = Some latest }) are

pub log-of : (line : Line) (latest : VersionedManifest) (last : ℕ) (fresh : List Batch) (found : Replayed) (begun : Begun) → AreOf fresh line → AreOf (fresh-of (log_turn found latest last fresh begun)) line
log-of line latest last fresh Whole begun are = by (begun.mark + 1 == last)
  where
    by : (b : Bool) → AreOf (fresh-of (if b then replayed latest (record begun { fresh = fresh; mark = begun.mark + 1 }) else Goes (record begun { fresh = fresh; mark = begun.mark + 1; stage = ReadsLog last }))) line
    by true = replayed-of line latest (record begun { fresh = fresh; mark = begun.mark + 1 }) are
    by false = are
log-of line latest last fresh (Truncated id) begun are = are

-- ---- any call of a poll that follows the line
pub no-gap-rises : (from end : ℕ) (bs : List Batch) → HaveNoGap from end bs → from ≤ end
no-gap-rises from end [] is = omega (arith, is)
no-gap-rises from end (b ∷ bs) gap = let later = no-gap-rises (max from b.number) end bs gap.1 in omega (arith, later)

pub stored-rises : (from end : ℕ) (log : Option (List Batch)) → IsSomeAnd log (HaveNoGap from end) → from ≤ end
stored-rises from end (Some bs) gap = no-gap-rises from end bs gap
stored-rises from end None gap = absurd gap

pub same-tables : (view latest : VersionedManifest) → differs view latest ≡ false → view.manifest.last_l0_seq ≡ latest.manifest.last_l0_seq
same-tables view latest same = eqb-true view.manifest.last_l0_seq latest.manifest.last_l0_seq (middle _ _ _ same)
  where
    middle : (a b c : Bool) → not (a && b && c) ≡ false → b ≡ true
    middle true true true is = refl
    middle true true false is = refl
    middle true false c is = absurd (cc)
    middle false b c is = absurd (cc)

module _ (o : Objects) (sound : IsSound o) (reader : Follower) (begun : Begun) (numbered : AreNumberedFrom begun.floor begun.fresh) (f : FollowsLine o (content o) reader begun) where
  -- what it has once a log file is read begins what the line has from there on
  pub log-begins : (latest : VersionedManifest) (fresh : List Batch) (found : Replayed) → Replaying latest begun (content o) o → ReplaysNext (begun.mark + 1) begun.floor begun.fresh fresh o (Ok found) →
      IsPrefix (line_of begun.floor fresh) (rest-of (content o) sound.line begun.floor f.low)
  log-begins latest fresh found r n =
      let above = r.above in
      let reached = r.reached in
      let logs = r.are in
      let belongs = belongs-rest (content o) sound.line begun.floor f.low (begun.mark + 1) (begun.floor + length begun.fresh) latest.manifest.last_l0_seq o (omega arith) reached
      (λ batches at. logs.logs (begun.mark + 1) batches (omega (arith, above)) at) in
      n.begins (rest-of (content o) sound.line begun.floor f.low) (begins-rest (content o) sound.line begun.floor f.low begun.fresh numbered f.fresh) belongs

  log-read : (latest : VersionedManifest) (fresh : List Batch) (found : Replayed) → Replaying latest begun (content o) o → ReplaysNext (begun.mark + 1) begun.floor begun.fresh fresh o (Ok found) → AreOf fresh (content o)
  log-read latest fresh found r n = are-begun (content o) sound.line begun.floor f.low fresh (log-begins latest fresh found r n)

  overtaken-of : AreOf (fresh-of (overtaken_by reader (taken begun))) (content o)
  overtaken-of = by (begun.overtaken == 7)
    where
      by : (b : Bool) → AreOf (fresh-of (if b then Fails (errors.TransactionalObjectTimeout 8) else Goes (begun_at begun.moment (begun.overtaken + 1) (with_step begun.history) reader))) (content o)
      by true = none-of (content o)
      by false = none-of (content o)

  asked-of : (last : ℕ) → AreOf (fresh-of (Goes (asked_last reader last (taken begun)))) (content o)
  asked-of last = by (nat_lt begun.mark last)
    where
      by : (b : Bool) → AreOf (fresh-of (Goes (if b then record (taken begun) { stage = first_log reader last; history = with_log last (with_step begun.history) } else record (taken begun) { stage = ReadsAgain }))) (content o)
      by true = f.fresh
      by false = f.fresh

  looked-of : (latest : VersionedManifest) (id last : ℕ) (log : Option (List Batch)) (turn : Turn) → LooksTo reader latest id last (taken begun) log turn → AreOf (fresh-of turn) (content o)
  looked-of latest id last None turn is = subst (λ (t : Turn). AreOf (fresh-of t) (content o)) (sym is) f.fresh
  looked-of latest id last (Some batches) turn is = subst (λ (t : Turn). AreOf (fresh-of t) (content o)) (sym is) (by (nat_lt (reached_number begun + reader.lag) newest) (nat_lt (reached_number begun) newest || id == begun.mark + 1))
    where
      newest : ℕ
      newest = greatest_number batches

      by : (x y : Bool) → AreOf (fresh-of (if x then Goes (record (taken begun) { stage = ReadsLog last }) else (if y then replayed latest (taken begun) else Goes (record (taken begun) { stage = LooksAt (id - 1) last })))) (content o)
      by true y = f.fresh
      by false true = replayed-of (content o) latest (taken begun) f.fresh
      by false false = f.fresh

  turn-of : (stage : Stage) (turn : Turn) (o' : Objects) → begun.stage ≡ stage → MeetsAt stage reader (taken begun) o turn o' → AreOf (fresh-of turn) (content o)
  turn-of ReadsLatest turn o' at m = subst (λ (t : Turn). AreOf (fresh-of t) (content o)) (sym m.2) (decided-of (content o) reader m.0 begun.lease (noted m.0 (taken begun)) f.fresh)
  turn-of (Puts next given replaces) turn o' at (inl m) = subst (λ (t : Turn). AreOf (fresh-of t) (content o)) (sym m.1) (committed-of (content o) reader next given replaces (taken begun) f.fresh)
  turn-of (Puts next given replaces) turn o' at (inr m) = subst (λ (t : Turn). AreOf (fresh-of t) (content o)) (sym m.1) overtaken-of
  turn-of AsksLast turn o' at m = subst (λ (t : Turn). AreOf (fresh-of t) (content o)) (sym m.0) (asked-of (last_log begun.mark o))
  turn-of (LooksAt id last) turn o' at m = looked-of m.0 id last (log_at id o) turn m.2
  turn-of (ReadsLog last) turn o' at m =
      let replaying = subst (λ (x : Stage). StandsAt x begun (content o) o) at f.next in
      subst (λ (t : Turn). AreOf (fresh-of t) (content o)) (sym m.5) (log-of (content o) m.0 last m.1 m.2 (taken begun) (log-read m.0 m.1 m.2 (replaying m.0 m.3) m.4))
  turn-of ReadsAgain turn o' at m = subst (λ (t : Turn). AreOf (fresh-of t) (content o)) (sym m.2) (again-of (content o) m.0 (taken begun) f.fresh)
  turn-of Ended turn o' at m = absurd m

  -- what the reader has once it ends
  pub ends-of : (last : Begun) (o' : Objects) → Meets reader begun o (Ends last) o' ⊎ Meets reader begun o (Breaks last) o' → AreOf (kept_batches reader last) (content o)
  ends-of last o' m = kept last (by m)
    where
      by : Meets reader begun o (Ends last) o' ⊎ Meets reader begun o (Breaks last) o' → AreOf last.fresh (content o)
      by (inl m) = turn-of begun.stage (Ends last) o' refl m
      by (inr m) = turn-of begun.stage (Breaks last) o' refl m

      kept : (last : Begun) → AreOf last.fresh (content o) → AreOf (kept_batches reader last) (content o)
      kept last are = at last.keeps
        where
          at : (keeps : Bool) → AreOf (batches_above (view_of reader last).manifest.last_l0_seq ((if keeps then reader.line.batches else []) ++ last.fresh)) (content o)
          at true = are-above (view_of reader last).manifest.last_l0_seq (reader.line.batches ++ last.fresh) (content o) (are-both reader.line.batches last.fresh (content o) f.own are)
          at false = are-above (view_of reader last).manifest.last_l0_seq last.fresh (content o) are

  -- ---- the turn is another call
  keeps-own : (after : Begun) (o' : Objects) → AreOf after.fresh (content o) → (content o).floor ≤ after.floor → StandsAt after.stage after (content o) o' → FollowsLine o' (content o) reader after
  keeps-own after o' are low next = record { own = f.own; begins = f.begins; fresh = are; low = low; next = next }

  decided-goes : (latest : VersionedManifest) (after : Begun) → latest_manifest o ≡ Some latest → begun.view ≡ None → (held : Option Lease) → decided reader latest held (noted latest (taken begun)) ≡ Goes after → FollowsLine o (content o) reader after
  decided-goes latest after is unviewed None turn =
      replaying-follows o (content o) reader latest (record (noted latest (taken begun)) { view = Some latest; latest = Some latest }) after f.own f.begins (logs-of o latest sound is) f.fresh f.low refl refl turn
  decided-goes latest after is unviewed (Some l) turn = by (differs reader.view latest) refl turn
    where
      by : (b : Bool) → differs reader.view latest ≡ b →
          (if b then put_by (leased l.lifetime (to_write (Some l.id) (Some l.lifetime) begun.moment latest)) true (record (noted latest (taken begun)) { latest = Some latest })
          else replaying reader latest (record (noted latest (taken begun)) { latest = Some latest })) ≡ Goes after → FollowsLine o (content o) reader after
      by true other turn =
          puts-follow o (content o) reader latest after (record (noted latest (taken begun)) { latest = Some latest }) f.own f.begins (logs-of o latest sound is) f.fresh f.low
          (puts-next l.lifetime (without_replaced (Some l.id) latest.manifest.checkpoints ++ new_checkpoint latest (Some l.lifetime) begun.moment ∷ []) (new_checkpoint latest (Some l.lifetime) begun.moment) latest true
          (record (noted latest (taken begun)) { latest = Some latest }) after turn)
      by false same turn =
          let viewed : (view_of reader begun).manifest.last_l0_seq ≡ latest.manifest.last_l0_seq = ap (λ v. (unwrap_or v reader.view).manifest.last_l0_seq) unviewed ∙ same-tables reader.view latest same in
          replaying-follows o (content o) reader latest (record (noted latest (taken begun)) { latest = Some latest }) after f.own f.begins (logs-of o latest sound is) f.fresh f.low refl viewed turn

  committed-goes' : (next : VersionedManifest) (given : Lease) (after : Begun) (o' : Objects) → LogsAreOf next (content o) o' → (replaces : Bool) → committed reader next given replaces (taken begun) ≡ Goes after → FollowsLine o' (content o) reader after
  committed-goes' next given after o' logs true turn =
      replaying-follows o' (content o) reader next (record (taken begun) { view = Some next; latest = Some next; lease = Some given }) after f.own f.begins logs f.fresh f.low refl refl turn
  committed-goes' next given after o' logs false turn = absurd (cc)

  overtaken-goes : (after : Begun) → overtaken_by reader (taken begun) ≡ Goes after → FollowsLine o (content o) reader after
  overtaken-goes after turn = by (begun.overtaken == 7) turn
    where
      by : (b : Bool) → (if b then Fails (errors.TransactionalObjectTimeout 8) else Goes (begun_at begun.moment (begun.overtaken + 1) (with_step begun.history) reader)) ≡ Goes after → FollowsLine o (content o) reader after
      by true turn = absurd (cc)
      by false turn =
          let same : begun_at begun.moment (begun.overtaken + 1) (with_step begun.history) reader ≡ after = cc in
          subst (λ (b : Begun). FollowsLine o (content o) reader b) same (keeps-own (begun_at begun.moment (begun.overtaken + 1) (with_step begun.history) reader) o (none-of (content o)) f.begins refl)

  -- it has come where it was
  still-goes : (stage : Stage) (history : PollHistory) → ((line : Line) (objects : Objects) (b : Begun) → IsReplaying b line objects → StandsAt stage b line objects) → IsReplaying begun (content o) o → FollowsLine o (content o) reader (record (taken begun) { stage = stage; history = history })
  still-goes stage history stands replaying =
      let after = record (taken begun) { stage = stage; history = history } in
      keeps-own after o f.fresh f.low (stands (content o) o after (λ v is. let r = replaying v is in record { above = r.above; reached = r.reached; are = r.are }))

  asked-goes : (last : ℕ) (after : Begun) → IsReplaying begun (content o) o → Goes (asked_last reader last (taken begun)) ≡ Goes after → FollowsLine o (content o) reader after
  asked-goes last after replaying turn = by (nat_lt begun.mark last) turn
    where
      history : PollHistory
      history = with_log last (with_step begun.history)

      first : (b : Bool) → FollowsLine o (content o) reader (record (taken begun) { stage = (if b then ReadsLog last else LooksAt last last); history = history })
      first true = still-goes (ReadsLog last) history (λ line objects b stands. stands) replaying
      first false = still-goes (LooksAt last last) history (λ line objects b stands. stands) replaying

      by : (b : Bool) → Goes (if b then record (taken begun) { stage = first_log reader last; history = with_log last (with_step begun.history) } else record (taken begun) { stage = ReadsAgain }) ≡ Goes after → FollowsLine o (content o) reader after
      by true turn =
          let same : record (taken begun) { stage = first_log reader last; history = with_log last (with_step begun.history) } ≡ after = cc in
          subst (λ (b : Begun). FollowsLine o (content o) reader b) same (first (reader.lag == 0))
      by false turn =
          let same : record (taken begun) { stage = ReadsAgain } ≡ after = cc in
          subst (λ (b : Begun). FollowsLine o (content o) reader b) same (keeps-own (record (taken begun) { stage = ReadsAgain }) o f.fresh f.low tt)

  looked-goes : (latest : VersionedManifest) (id last : ℕ) (log : Option (List Batch)) (after : Begun) → begun.latest ≡ Some latest → IsReplaying begun (content o) o → LooksTo reader latest id last (taken begun) log (Goes after) → FollowsLine o (content o) reader after
  looked-goes latest id last None after held replaying turn = absurd (cc)
  looked-goes latest id last (Some batches) after held replaying turn = by (nat_lt (reached_number begun + reader.lag) newest) (nat_lt (reached_number begun) newest || id == begun.mark + 1) turn
    where
      newest : ℕ
      newest = greatest_number batches

      by : (x y : Bool) → Goes after ≡ (if x then Goes (record (taken begun) { stage = ReadsLog last }) else (if y then replayed latest (taken begun) else Goes (record (taken begun) { stage = LooksAt (id - 1) last }))) → FollowsLine o (content o) reader after
      by true y turn =
          let same : record (taken begun) { stage = ReadsLog last } ≡ after = cc in
          subst (λ (b : Begun). FollowsLine o (content o) reader b) same (still-goes (ReadsLog last) (with_step begun.history) (λ line objects b stands. stands) replaying)
      by false true turn =
          puts-follow o (content o) reader latest after (record (taken begun) { asked = true }) f.own f.begins (replaying latest held).are f.fresh f.low (replayed-puts latest (taken begun) after (sym turn))
      by false false turn =
          let same : record (taken begun) { stage = LooksAt (id - 1) last } ≡ after = cc in
          subst (λ (b : Begun). FollowsLine o (content o) reader b) same (still-goes (LooksAt (id - 1) last) (with_step begun.history) (λ line objects b stands. stands) replaying)

  log-goes : (latest : VersionedManifest) (last : ℕ) (fresh : List Batch) (found : Replayed) (after : Begun) → begun.latest ≡ Some latest → Replaying latest begun (content o) o →
      ReplaysNext (begun.mark + 1) begun.floor begun.fresh fresh o (Ok found) → log_turn found latest last fresh (taken begun) ≡ Goes after → FollowsLine o (content o) reader after
  log-goes latest last fresh (Truncated id) after held r n turn = absurd (cc)
  log-goes latest last fresh Whole after held r n turn = by (begun.mark + 1 == last) turn (log-read latest fresh Whole r n)
    where
      by : (b : Bool) → (if b then replayed latest (record (taken begun) { fresh = fresh; mark = begun.mark + 1 }) else Goes (record (taken begun) { fresh = fresh; mark = begun.mark + 1; stage = ReadsLog last })) ≡ Goes after →
          AreOf fresh (content o) → FollowsLine o (content o) reader after
      by true turn are =
          puts-follow o (content o) reader latest after (record (taken begun) { fresh = fresh; mark = begun.mark + 1; asked = true }) f.own f.begins r.are are f.low
          (replayed-puts latest (record (taken begun) { fresh = fresh; mark = begun.mark + 1 }) after turn)
      by false turn are =
          let next = record (taken begun) { fresh = fresh; mark = begun.mark + 1; stage = ReadsLog last } in
          let same : next ≡ after = cc in
          let above = r.above in
          let reached = r.reached in
          let rises = stored-rises (begun.floor + length begun.fresh) (begun.floor + length fresh) (log_at (begun.mark + 1) o) n.ends in
          subst (λ (b : Begun). FollowsLine o (content o) reader b) same
          (keeps-own next o are f.low (λ v is. subst (λ (x : VersionedManifest). Replaying x next (content o) o) (some-same latest v (sym held ∙ is)) (record { above = omega (arith, above); reached = omega (arith, reached, rises); are = r.are })))

  again-goes : (latest : VersionedManifest) (after : Begun) → latest_manifest o ≡ Some latest → read_again latest (taken begun) ≡ Goes after → FollowsLine o (content o) reader after
  again-goes latest after is turn = by (nat_lt begun.mark latest.manifest.replay_after_wal_id) turn
    where
      by : (b : Bool) → (if b then Breaks (record (taken begun) { stage = Ended }) else replayed latest (record (taken begun) { latest = Some latest })) ≡ Goes after → FollowsLine o (content o) reader after
      by true turn = absurd (cc)
      by false turn =
          puts-follow o (content o) reader latest after (record (taken begun) { latest = Some latest; asked = true }) f.own f.begins (logs-of o latest sound is) f.fresh f.low
          (replayed-puts latest (record (taken begun) { latest = Some latest }) after turn)

  stage-goes : (stage : Stage) (after : Begun) (o' : Objects) → begun.stage ≡ stage → MeetsAt stage reader (taken begun) o (Goes after) o' → FollowsLine o' (content o) reader after
  stage-goes ReadsLatest after o' at m =
      let unviewed = subst (λ (x : Stage). StandsAt x begun (content o) o) at f.next in
      subst (λ x. FollowsLine x (content o) reader after) (sym m.3) (decided-goes m.0 after m.1 unviewed begun.lease (sym m.2))
  stage-goes (Puts next given replaces) after o' at (inl m) =
      let logs = subst (λ (x : Stage). StandsAt x begun (content o) o) at f.next in
      subst (λ x. FollowsLine x (content o) reader after) (sym m.2)
      (committed-goes' next given after (changed (PutManifest next.id next.manifest) o) (record { low = logs.low; logs = logs.logs }) replaces (sym m.1))
  stage-goes (Puts next given replaces) after o' at (inr m) = subst (λ x. FollowsLine x (content o) reader after) (sym m.2) (overtaken-goes after (sym m.1))
  stage-goes AsksLast after o' at m =
      let replaying = subst (λ (x : Stage). StandsAt x begun (content o) o) at f.next in
      subst (λ x. FollowsLine x (content o) reader after) (sym m.1) (asked-goes (last_log begun.mark o) after replaying (sym m.0))
  stage-goes (LooksAt id last) after o' at m =
      let replaying = subst (λ (x : Stage). StandsAt x begun (content o) o) at f.next in
      subst (λ x. FollowsLine x (content o) reader after) (sym m.3) (looked-goes m.0 id last (log_at id o) after m.1 replaying m.2)
  stage-goes (ReadsLog last) after o' at m =
      let replaying = subst (λ (x : Stage). StandsAt x begun (content o) o) at f.next in
      subst (λ x. FollowsLine x (content o) reader after) (sym m.6) (log-goes m.0 last m.1 m.2 after m.3 (replaying m.0 m.3) m.4 (sym m.5))
  stage-goes ReadsAgain after o' at m = subst (λ x. FollowsLine x (content o) reader after) (sym m.3) (again-goes m.0 after m.1 (sym m.2))
  stage-goes Ended after o' at m = absurd m

  pub goes-on : (after : Begun) (o' : Objects) → Meets reader begun o (Goes after) o' → FollowsLine o' (content o) reader after
  goes-on after o' m = stage-goes begun.stage after o' refl m

-- ---- a step
pub follows-on : (line : Line) (reader reader' : Follower) (begun begun' : Begun) (result : Result (Option PollAnswer) SlateError) {s s' : Option Objects} →
    WhereModelled (λ o o'. Steps reader begun result o reader' begun' o') s s' → AreNumberedFrom begun.floor begun.fresh → IsContent s line → ((o : Objects) → s ≡ Some o → FollowsLine o line reader begun) →
    IfErr result (λ error. reader'.line ≡ reader.line) → FollowsOn line s' result reader' begun'
follows-on line reader reader' begun begun' result {s = s} {s' = s'} w numbered is f same =
    let o = is.0 in
    let t = w.some o is.1 in
    let held = subst (λ (l : Line). FollowsLine o l reader begun) is.3 (f o is.1) in
    subst (λ (l : Line). FollowsOn l s' result reader' begun') (sym is.3) (subst (λ x. FollowsOn (content o) x result reader' begun') (sym t.1) (by o t.0 is.2 held result t.2 same))
  where
    by : (o o' : Objects) → IsSound o → FollowsLine o (content o) reader begun → (result : Result (Option PollAnswer) SlateError) → Steps reader begun result o reader' begun' o' →
        IfErr result (λ error. reader'.line ≡ reader.line) → FollowsOn (content o) (Some o') result reader' begun'
    by o o' sound held (Ok None) steps same = subst (λ (r : Follower). FollowsLine o' (content o) r begun') (sym steps.1) (goes-on o sound reader begun numbered held begun' o' steps.0)
    by o o' sound held (Ok (Some (answers.Whole at))) steps same =
        subst (λ bs. AreOf bs (content o)) (sym (ap (λ (r : Follower). r.line.batches) steps.2)) (ends-of o sound reader begun numbered held steps.0 o' (inl steps.1))
    by o o' sound held (Ok (Some (answers.Truncated at))) steps same =
        subst (λ bs. AreOf bs (content o)) (sym (ap (λ (r : Follower). r.line.batches) steps.2)) (ends-of o sound reader begun numbered held steps.0 o' (inr steps.1))
    by o o' sound held (Err error) steps same = subst (λ (l : Line). AreOf l.batches (content o)) (sym same) held.own

-- ---- what others do between two calls
-- Others keep it: the line that is stored only grows, and each log file that is there was there, or has batches of the line alone.
pub others-keep : (o o' : Objects) (line line' : Line) (reader : Follower) (begun : Begun) → IsPrefix line line' →
    ((id : ℕ) (batches : List Batch) → log_at id o' ≡ Some batches → (log_at id o ≡ Some batches) ⊎ AreOf batches line') → FollowsLine o line reader begun → FollowsLine o' line' reader begun
others-keep o o' line line' reader begun grows logs f = record {
  own = are-grown reader.line.batches line line' grows f.own;
  begins = floor-same f.begins;
  fresh = are-grown begun.fresh line line' grows f.fresh;
  low = floor-same f.low;
  next = at begun.stage f.next;
}
  where
    floor-same : {n : ℕ} → line.floor ≤ n → line'.floor ≤ n
    floor-same {n} low = subst (λ (l : Line). l.floor ≤ n) (sym grows.1) low

    stay : (v : VersionedManifest) → LogsAreOf v line o → LogsAreOf v line' o'
    stay v are = record {
      low = subst (λ (l : Line). l.floor ≤ v.manifest.last_l0_seq) (sym grows.1) are.low;
      logs = λ id batches past found. elim (logs id batches found) [
        | inl was ↦ are-grown (batches_above v.manifest.last_l0_seq batches) line line' grows (are.logs id batches past was)
        | inr new ↦ are-above v.manifest.last_l0_seq batches line' new
      ];
    }

    replaying : IsReplaying begun line o → IsReplaying begun line' o'
    replaying r v is = let was = r v is in record {
      above = was.above;
      reached = was.reached;
      are = record {
        low = subst (λ (l : Line). l.floor ≤ v.manifest.last_l0_seq) (sym grows.1) was.are.low;
        logs = λ id batches past found. elim (logs id batches found) [
          | inl there ↦ are-grown (batches_above v.manifest.last_l0_seq batches) line line' grows (was.are.logs id batches past there)
          | inr new ↦ are-above v.manifest.last_l0_seq batches line' new
        ];
      };
    }

    at : (stage : Stage) → StandsAt stage begun line o → StandsAt stage begun line' o'
    at ReadsLatest is = is
    at (Puts next given replaces) is = record {
      low = subst (λ (l : Line). l.floor ≤ next.manifest.last_l0_seq) (sym grows.1) is.low;
      logs = λ id batches past found. elim (logs id batches found) [
        | inl there ↦ are-grown (batches_above next.manifest.last_l0_seq batches) line line' grows (is.logs id batches past there)
        | inr new ↦ are-above next.manifest.last_l0_seq batches line' new
      ];
    }
    at AsksLast is = replaying is
    at (LooksAt id last) is = replaying is
    at (ReadsLog last) is = replaying is
    at ReadsAgain is = tt
    at Ended is = tt

pub failed-line : (error : SlateError) (reader : Follower) → (failed_by error reader).line ≡ reader.line
failed-line error reader = by (is_managed reader.mode)
  where
    by : (managed : Bool) → (if managed then record reader { result = poll_result error } else reader).line ≡ reader.line
    by true = refl
    by false = refl

-- a poll that begins
pub begins-on : (o : Objects) (line : Line) (reader : Follower) (moment : ℤ) (overtaken : ℕ) (history : PollHistory) → AreOf reader.line.batches line → line.floor ≤ number reader → FollowsLine o line reader (begun_at moment overtaken history reader)
begins-on o line reader moment overtaken history own begins = record { own = own; begins = begins; fresh = none-of line; low = begins; next = refl }
