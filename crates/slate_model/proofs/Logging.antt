-- What becomes of log files that a follower has seen.
use Rattle.std.proofs.Common.{◌≡◌, ◌⊎◌, inl, inr, ℕ, zero, suc, ◌<◌, ◌≤◌, List, [], ◌∷◌, ◌++◌, map, take, Some, None, Bool, true, false, cond, not, refl, sym, subst, ap, ◌∙◌, arith, ◌+◌, All, length, length-append, ltb}
use Rattle.std.proofs.lemmas.Bool.{cases_eq, ltb-false}
use Rattle.std.proofs.lemmas.Map.Entries.{lookup-filter-keys}
use Rattle.std.proofs.lemmas.Cmp.{nat_cmp_total}
use Rattle.std.proofs.lemmas.List.Elements.{All-cons, All-head, All-nil, All-tail}
use Rattle.std.proofs.lemmas.Option.{slice_get_within}
use Rattle.std.specs.BTreeMap.{insert_entry, is_at}
use Rattle.std.specs.List.{Contains}
use Rattle.std.specs.Ordering.{match_ordering, nat_cmp}
use Rattle.std.specs.declared.cmp.Ordering.{Ordering}
use Rattle.std.specs.declared.cmp.Ordering.TheVariants.{Less, Equal, Greater}
use Rattle.slate_types.specs.declared.batches.Batch.{Batch}
use Rattle.slate_types.specs.Line.{AreNumberedFrom, Line, batches_above, end}
use Rattle.slate_store.proofs.Latest.{its-objects}
use Rattle.slate_store.proofs.Logs.{belong-log}
use Rattle.slate_store.specs.Content.{IsSound, content, content_by, logged, number_before, table_batches}
use Rattle.slate_store.specs.Logs.{StandsIn}
use Rattle.slate_store.specs.declared.objects.Manifest.{Manifest}
use Rattle.slate_model.proofs.Reopened.{logs-by}
use Rattle.slate_store.proofs.Entries.{apart, lookup-insert_other, lookup-insert_same, lookup-without, same_number, tied}
use Rattle.slate_store.proofs.LastLog.{at_least}
use Rattle.slate_store.specs.Objects.{Change, Objects, PutLog, PutManifest, PutTable, RemoveLog, RemoveManifest, RemoveTable, changed, greatest, last_log, latest_manifest, log_at, without}
use Rattle.slate_store.specs.declared.objects.VersionedManifest.{VersionedManifest}
use Rattle.slate_store.specs.declared.reader_modes.DbReaderMode.{DbReaderMode}
use Rattle.slate_model.specs.Changes.{after_part}
use Rattle.slate_model.specs.Follower.{Follower, rebuilt}
use Rattle.slate_model.specs.Seen.{HasSeen}

-- the greatest id of a list of entries isn't lower after a put
put-greatest : {X : Type 0} (mark id : ℕ) (x : X) (es : List (ℕ × X)) → greatest mark (map (λ e. e.0) es) ≤ greatest mark (map (λ e. e.0) (insert_entry nat_cmp es id x))
put-greatest mark id x [] = omega arith
put-greatest {X} mark id x (e ∷ es) = by (nat_cmp id e.0) (put-greatest mark id x es) where
  by : (r : Ordering) → greatest mark (map (λ e. e.0) es) ≤ greatest mark (map (λ e. e.0) (insert_entry nat_cmp es id x)) →
      greatest mark (map (λ e. e.0) (e ∷ es)) ≤ greatest mark (map (λ e. e.0) (match_ordering r ((id, x) ∷ e ∷ es) ((e.0, x) ∷ es) (e ∷ insert_entry nat_cmp es id x)))
  by Less later = omega arith
  by Equal later = omega arith
  by Greater later = omega (arith, later)

-- nor after a removal up to the mark
removed-greatest : {X : Type 0} (mark id : ℕ) (es : List (ℕ × X)) → id ≤ mark → greatest mark (map (λ e. e.0) es) ≤ greatest mark (map (λ e. e.0) (without (is_at (nat_cmp id)) es))
removed-greatest mark id [] low = omega arith
removed-greatest {X} mark id (e ∷ es) low = by (is_at (nat_cmp id) e.0) refl (removed-greatest mark id es low) where
  by : (here : Bool) → is_at (nat_cmp id) e.0 ≡ here → greatest mark (map (λ e. e.0) es) ≤ greatest mark (map (λ e. e.0) (without (is_at (nat_cmp id)) es)) →
      greatest mark (map (λ e. e.0) (e ∷ es)) ≤ greatest mark (map (λ e. e.0) (cond (not here) (e ∷ without (is_at (nat_cmp id)) es) (without (is_at (nat_cmp id)) es)))
  by true is later =
      let same = same_number id e.0 (tied (nat_cmp id e.0) is) in
      let least = at_least mark (map (λ (x : ℕ × X). x.0) (without (is_at (nat_cmp id)) es)) in
      omega (arith, later, same, least, low)
  by false is later = omega (arith, later)

-- These changes keep the log files above a mark up to another one: they put log files after that, and remove none above the
-- mark.
abbrev pub KeepLogs : (mark last : ℕ) → List Change → Type 0
KeepLogs mark last [] = Unit {0}
KeepLogs mark last (PutLog id log ∷ cs) = (last < id) × KeepLogs mark last cs
KeepLogs mark last (RemoveLog id ∷ cs) = (id ≤ mark) × KeepLogs mark last cs
KeepLogs mark last (PutManifest id m ∷ cs) = KeepLogs mark last cs
KeepLogs mark last (PutTable id table ∷ cs) = KeepLogs mark last cs
KeepLogs mark last (RemoveManifest id ∷ cs) = KeepLogs mark last cs
KeepLogs mark last (RemoveTable id ∷ cs) = KeepLogs mark last cs

pub keep-append : (mark last : ℕ) (cs ds : List Change) → KeepLogs mark last cs → KeepLogs mark last ds → KeepLogs mark last (cs ++ ds)
keep-append mark last [] ds a b = b
keep-append mark last (PutLog id log ∷ cs) ds a b = (a.0, keep-append mark last cs ds a.1 b)
keep-append mark last (RemoveLog id ∷ cs) ds a b = (a.0, keep-append mark last cs ds a.1 b)
keep-append mark last (PutManifest id m ∷ cs) ds a b = keep-append mark last cs ds a b
keep-append mark last (PutTable id table ∷ cs) ds a b = keep-append mark last cs ds a b
keep-append mark last (RemoveManifest id ∷ cs) ds a b = keep-append mark last cs ds a b
keep-append mark last (RemoveTable id ∷ cs) ds a b = keep-append mark last cs ds a b

-- The log files of objects that follow others: between a mark and the last one of before each is as it was, up to that it is as it
-- was or gone, and the last one isn't lower.
pub record LogsStay (mark last : ℕ) (o o' : Objects) : Type 0 where
  pub same : (id : ℕ) → mark < id → id ≤ last → log_at id o' ≡ log_at id o
  pub left : (id : ℕ) → id ≤ last → (log_at id o' ≡ log_at id o) ⊎ (log_at id o' ≡ None)
  pub low : last_log mark o ≤ last_log mark o'

pub logs-same : (mark last : ℕ) (o o' : Objects) → o'.logs ≡ o.logs → LogsStay mark last o o'
logs-same mark last o o' is = record {
  same = λ id over under. ap (λ logs. log_at id (record { manifests = o'.manifests; logs = logs; tables = o'.tables })) is;
  left = λ id under. inl (ap (λ logs. log_at id (record { manifests = o'.manifests; logs = logs; tables = o'.tables })) is);
  low = (let e = ap (λ (logs : List (ℕ × List Batch)). greatest mark (map (λ e. e.0) logs)) is in omega (arith, e));
}

logs-then : (mark last : ℕ) (a b c : Objects) → LogsStay mark last a b → LogsStay mark last b c → LogsStay mark last a c
logs-then mark last a b c x y = record {
  same = λ id over under. y.same id over under ∙ x.same id over under;
  left = λ id under. elim (y.left id under) [
    | inl kept ↦ elim (x.left id under) [
      | inl before ↦ inl (kept ∙ before)
      | inr gone ↦ inr (kept ∙ gone)
    ]
    | inr gone ↦ inr gone
  ];
  low = (let i = x.low in let j = y.low in omega (arith, i, j));
}

-- a log file that is removed is gone, and each other one as it was
pub removed-left : (q id : ℕ) (o : Objects) → (log_at q (changed (RemoveLog id) o) ≡ log_at q o) ⊎ (log_at q (changed (RemoveLog id) o) ≡ None)
removed-left q id o = by (is_at (nat_cmp id) q) refl where
  by : (b : Bool) → is_at (nat_cmp id) q ≡ b → (log_at q (changed (RemoveLog id) o) ≡ log_at q o) ⊎ (log_at q (changed (RemoveLog id) o) ≡ None)
  by true here = inr (lookup-filter-keys (is_at (nat_cmp q)) (λ key. not (is_at (nat_cmp id) key)) false
      (λ key same. ap (λ k. not (is_at (nat_cmp id) k)) (sym (same_number q key (tied (nat_cmp q key) same))) ∙ ap not here) o.logs)
  by false other = inl (lookup-without nat_cmp_total q id o.logs other)

pub removed-gone : (id : ℕ) (o : Objects) → log_at id (changed (RemoveLog id) o) ≡ None
removed-gone id o = lookup-filter-keys (is_at (nat_cmp id)) (λ key. not (is_at (nat_cmp id) key)) false (λ key same. ap not same) o.logs

changed-logs : (mark last : ℕ) (c : Change) (o : Objects) → KeepLogs mark last (c ∷ []) → LogsStay mark last o (changed c o)
changed-logs mark last (PutLog id log) o keep = record {
  same = λ q over under. lookup-insert_other nat_cmp_total q id log o.logs (apart q id (λ same. let high = keep.0 in absurd (omega (arith, same, high, under))));
  left = λ q under. inl (lookup-insert_other nat_cmp_total q id log o.logs (apart q id (λ same. let high = keep.0 in absurd (omega (arith, same, high, under)))));
  low = put-greatest mark id log o.logs;
}
changed-logs mark last (RemoveLog id) o keep = record {
  same = λ q over under. lookup-without nat_cmp_total q id o.logs (apart id q (λ same. let low = keep.0 in absurd (omega (arith, same, low, over))));
  left = λ q under. removed-left q id o;
  low = removed-greatest mark id o.logs keep.0;
}
changed-logs mark last (PutManifest id m) o keep = logs-same mark last o (changed (PutManifest id m) o) refl
changed-logs mark last (PutTable id table) o keep = logs-same mark last o (changed (PutTable id table) o) refl
changed-logs mark last (RemoveManifest id) o keep = logs-same mark last o (changed (RemoveManifest id) o) refl
changed-logs mark last (RemoveTable id) o keep = logs-same mark last o (changed (RemoveTable id) o) refl

keep-first : (mark last : ℕ) (c : Change) (cs : List Change) → KeepLogs mark last (c ∷ cs) → KeepLogs mark last (c ∷ []) × KeepLogs mark last cs
keep-first mark last (PutLog id log) cs keep = ((keep.0, tt), keep.1)
keep-first mark last (RemoveLog id) cs keep = ((keep.0, tt), keep.1)
keep-first mark last (PutManifest id m) cs keep = (tt, keep)
keep-first mark last (PutTable id table) cs keep = (tt, keep)
keep-first mark last (RemoveManifest id) cs keep = (tt, keep)
keep-first mark last (RemoveTable id) cs keep = (tt, keep)

-- after a part of such changes
pub part-logs : (mark last made : ℕ) (cs : List Change) (o : Objects) → KeepLogs mark last cs → LogsStay mark last o (after_part made cs o)
part-logs mark last zero cs o keep = logs-same mark last o o refl
part-logs mark last (suc made) [] o keep = logs-same mark last o o refl
part-logs mark last (suc made) (c ∷ cs) o keep =
    let k = keep-first mark last c cs keep in
    logs-then mark last o (changed c o) (after_part made cs (changed c o)) (changed-logs mark last c o k.0) (part-logs mark last made cs (changed c o) k.1)

-- ---- which log files there are after changes
-- each log file that these changes put is such a one
abbrev pub PutLogs : (List Batch → Type 0) → List Change → Type 0
PutLogs P [] = Unit {0}
PutLogs P (PutLog id log ∷ cs) = P log × PutLogs P cs
PutLogs P (RemoveLog id ∷ cs) = PutLogs P cs
PutLogs P (PutManifest id m ∷ cs) = PutLogs P cs
PutLogs P (PutTable id table ∷ cs) = PutLogs P cs
PutLogs P (RemoveManifest id ∷ cs) = PutLogs P cs
PutLogs P (RemoveTable id ∷ cs) = PutLogs P cs

-- each log file that is there then was there before, or is such a one
abbrev pub LogsAre : (List Batch → Type 0) → Objects → Objects → Type 0
LogsAre P o o' = (id : ℕ) (batches : List Batch) → log_at id o' ≡ Some batches → (log_at id o ≡ Some batches) ⊎ P batches

-- its batches are of a line
abbrev pub OfLine : Line → List Batch → Type 0
OfLine line batches = All (λ batch. Contains line.batches batch) batches

-- they come after a line
abbrev pub PastLine : Line → List Batch → Type 0
PastLine line batches = All (λ batch. end line < batch.number) batches

-- batches that are numbered from one on come after it
pub numbered-past : (floor : ℕ) (bs : List Batch) → AreNumberedFrom floor bs → All (λ b. floor < b.number) bs
numbered-past floor [] numbered = All-nil (λ (b : Batch). floor < b.number)
numbered-past floor (b ∷ bs) numbered =
    let first = numbered.0 in
    All-cons (λ (x : Batch). floor < x.number) b bs (omega (arith, first)) (λ k d less. let rest = numbered-past (floor + 1) bs numbered.1 k d less in omega (arith, rest))

pub puts-first : (P : List Batch → Type 0) (c : Change) (cs : List Change) → PutLogs P (c ∷ cs) → PutLogs P (c ∷ []) × PutLogs P cs
puts-first P (PutLog id log) cs puts = ((puts.0, tt), puts.1)
puts-first P (RemoveLog id) cs puts = (tt, puts)
puts-first P (PutManifest id m) cs puts = (tt, puts)
puts-first P (PutTable id table) cs puts = (tt, puts)
puts-first P (RemoveManifest id) cs puts = (tt, puts)
puts-first P (RemoveTable id) cs puts = (tt, puts)

puts-more : (P : List Batch → Type 0) (c : Change) (cs : List Change) → PutLogs P (c ∷ []) → PutLogs P cs → PutLogs P (c ∷ cs)
puts-more P (PutLog id log) cs first rest = (first.0, rest)
puts-more P (RemoveLog id) cs first rest = rest
puts-more P (PutManifest id m) cs first rest = rest
puts-more P (PutTable id table) cs first rest = rest
puts-more P (RemoveManifest id) cs first rest = rest
puts-more P (RemoveTable id) cs first rest = rest

-- a part of such changes
pub puts-part : (P : List Batch → Type 0) (made : ℕ) (cs : List Change) → PutLogs P cs → PutLogs P (take made cs)
puts-part P zero cs puts = tt
puts-part P (suc made) [] puts = tt
puts-part P (suc made) (c ∷ cs) puts = let p = puts-first P c cs puts in puts-more P c (take made cs) p.0 (puts-part P made cs p.1)

pub logs-are_same : (P : List Batch → Type 0) (o o' : Objects) → o'.logs ≡ o.logs → LogsAre P o o'
logs-are_same P o o' same id batches at = inl (ap (λ logs. log_at id (record { manifests = o'.manifests; logs = logs; tables = o'.tables })) (sym same) ∙ at)

changed-are : (P : List Batch → Type 0) (c : Change) (o : Objects) → PutLogs P (c ∷ []) → LogsAre P o (changed c o)
changed-are P (PutLog id log) o puts q batches at = elim (cases_eq q id) [
  | inl same ↦
      let here : log_at id (changed (PutLog id log) o) ≡ Some batches = subst (λ n. log_at n (changed (PutLog id log) o) ≡ Some batches) same at in
      let there : log_at id (changed (PutLog id log) o) ≡ Some log = lookup-insert_same nat_cmp_total id log o.logs in
      let is : log ≡ batches = (cc) in
      inr (subst P is puts.0)
  | inr other ↦ inl (sym (lookup-insert_other nat_cmp_total q id log o.logs (apart q id other)) ∙ at)
]
changed-are P (RemoveLog id) o puts q batches at = by (is_at (nat_cmp id) q) refl where
  by : (b : Bool) → is_at (nat_cmp id) q ≡ b → (log_at q o ≡ Some batches) ⊎ P batches
  by true here =
      let gone : log_at q (changed (RemoveLog id) o) ≡ None = lookup-filter-keys (is_at (nat_cmp q)) (λ key. not (is_at (nat_cmp id) key)) false
      (λ key same. ap (λ k. not (is_at (nat_cmp id) k)) (sym (same_number q key (tied (nat_cmp q key) same))) ∙ ap not here) o.logs in
      absurd (cc)
  by false other = inl (sym (lookup-without nat_cmp_total q id o.logs other) ∙ at)
changed-are P (PutManifest id m) o puts q batches at = inl at
changed-are P (PutTable id table) o puts q batches at = inl at
changed-are P (RemoveManifest id) o puts q batches at = inl at
changed-are P (RemoveTable id) o puts q batches at = inl at

-- after a part of changes, by what that puts
pub part-are : (P : List Batch → Type 0) (made : ℕ) (cs : List Change) (o : Objects) → PutLogs P (take made cs) → LogsAre P o (after_part made cs o)
part-are P zero cs o puts q batches at = inl at
part-are P (suc made) [] o puts q batches at = inl at
part-are P (suc made) (c ∷ cs) o puts q batches at =
    let p = puts-first P c (take made cs) puts in
    elim (part-are P made cs (changed c o) p.1 q batches at) [
      | inl before ↦ changed-are P c o p.0 q batches before
      | inr such ↦ inr such
    ]

-- where none is put, each was there before
pub none-put_logs : (o o' : Objects) → LogsAre (λ batches. ⊥) o o' → (P : List Batch → Type 0) → LogsAre P o o'
none-put_logs o o' are P id batches at = elim (are id batches at) [
  | inl before ↦ inl before
  | inr never ↦ absurd never
]

-- Objects whose log files go on from others: a replay begins no earlier, the last log file isn't lower, and each that it reads
-- up to the last one of before is as it was; each up to that is as it was, or gone.
pub record LogsFollow (o o' : Objects) (mark mark' : ℕ) : Type 0 where
  pub marks : mark ≤ mark'
  pub last : last_log mark o ≤ last_log mark' o'
  pub same : (id : ℕ) → mark' < id → id ≤ last_log mark o → log_at id o' ≡ log_at id o
  pub left : (id : ℕ) → id ≤ last_log mark o → (log_at id o' ≡ log_at id o) ⊎ (log_at id o' ≡ None)

pub stay-follow : (o o' : Objects) (mark mark' : ℕ) → mark ≡ mark' → LogsStay mark (last_log mark o) o o' → LogsFollow o o' mark mark'
stay-follow o o' mark mark' same stay = subst (LogsFollow o o' mark) same (record { marks = omega arith; last = stay.low; same = stay.same; left = stay.left })

-- Log files up to one of them go in their order: with one that is gone each lower one is.
abbrev pub LogsGo : (last : ℕ) → Objects → Objects → Type 0
LogsGo last o o' = (id below : ℕ) → 0 < below → below ≤ id → id ≤ last → log_at id o' ≡ None → (log_at id o ≡ None) ⊎ (log_at below o' ≡ None)

-- where none goes
pub stay-go : (last : ℕ) (o o' : Objects) → LogsStay 0 last o o' → LogsGo last o o'
stay-go last o o' stay id below some low within none = inl (sym (stay.same id (omega (arith, some, low)) within) ∙ none)

-- a mark at or above the last log file
pub mark-follow : (o o' : Objects) (mark mark' : ℕ) → mark ≤ mark' → last_log mark o ≤ mark' → LogsStay mark (last_log mark o) o o' → LogsFollow o o' mark mark'
mark-follow o o' mark mark' up high stay = record {
  marks = up;
  last = (let least = at_least mark' (map (λ (log : ℕ × List Batch). log.0) o'.logs) in omega (arith, high, least));
  same = λ id over under. absurd (omega (arith, over, under, high));
  left = stay.left;
}

-- what a follower has seen of objects it has seen of those that follow
pub still-seen : (o o' : Objects) (latest next : VersionedManifest) (g : Follower) → latest_manifest o ≡ Some latest → latest_manifest o' ≡ Some next → LogsFollow o o' latest.manifest.replay_after_wal_id next.manifest.replay_after_wal_id → HasSeen o g → HasSeen o' g
still-seen o o' latest next g is is' f seen = record {
  mark = λ found at.
      let same : next ≡ found = (cc) in
      let e = ap (λ (m : VersionedManifest). last_log m.manifest.replay_after_wal_id o') same in
      let before = seen.mark latest is in
      let last = f.last in
      omega (arith, e, before, last);
  logs = λ found id batches at over under there.
      let same : next ≡ found = (cc) in
      let e = ap (λ (m : VersionedManifest). m.manifest.replay_after_wal_id) same in
      let before = seen.mark latest is in
      let marks = f.marks in
      seen.logs latest id batches is (omega (arith, e, marks, over)) under (sym (f.same id (omega (arith, e, over)) (omega (arith, under, before))) ∙ there);
}

-- ---- what one that sees all that is stored has seen
above-within : (n e : ℕ) (bs : List Batch) → n ≤ e → All (λ b. b.number ≤ e) (batches_above n bs) → All (λ b. b.number ≤ e) bs
above-within n e [] low within = All-nil (λ (b : Batch). b.number ≤ e)
above-within n e (b ∷ bs) low within = by (ltb n b.number) refl (above-within n e bs low) within where
  by : (x : Bool) → ltb n b.number ≡ x → (All (λ b. b.number ≤ e) (batches_above n bs) → All (λ b. b.number ≤ e) bs) → All (λ b. b.number ≤ e) (cond x (b ∷ batches_above n bs) (batches_above n bs)) → All (λ b. b.number ≤ e) (b ∷ bs)
  by true is later within = All-cons (λ (b : Batch). b.number ≤ e) b bs (All-head (λ (b : Batch). b.number ≤ e) b (batches_above n bs) within) (later (All-tail (λ (b : Batch). b.number ≤ e) b (batches_above n bs) within))
  by false is later within = All-cons (λ (b : Batch). b.number ≤ e) b bs (let few = ltb-false n b.number is in omega (arith, few, low)) (later within)

stands-within : (b : Batch) (line : Line) → StandsIn b line → b.number ≤ end line
stands-within b line s =
    let within = slice_get_within line.batches s.0 b s.1 in
    let number = s.2 in
    omega (arith, within, number)

module _ (o : Objects) (latest : VersionedManifest) (sound : IsSound o) (is : latest_manifest o ≡ Some latest) where
  abbrev m : Manifest
  m = latest.manifest

  -- the content ends where the log files do
  content-ends : end (content o) ≡ m.last_l0_seq + length (logged o m)
  content-ends =
      let joined = table_batches o m.tables in
      let its = (its-objects o latest sound is).tables.joined in
      let parts : length (joined ++ logged o m) ≡ length joined + length (logged o m) = length-append joined (logged o m) in
      ap (λ found. end (content_by o found)) is ∙ (let e : number_before joined m.last_l0_seq + length (joined ++ logged o m) ≡ m.last_l0_seq + length (logged o m) = omega (arith, its, parts) in e)

  pub all-seen : (mode : DbReaderMode) (skips : Bool) (lag : ℕ) → HasSeen o (rebuilt mode skips lag latest (content o) (last_log m.replay_after_wal_id o))
  all-seen mode skips lag = record {
    mark = λ found at. let same : latest ≡ found = (cc) in let e = ap (λ (x : VersionedManifest). last_log x.manifest.replay_after_wal_id o) same in omega (arith, e);
    logs = λ found id bs at over under there. within id bs (let same : latest ≡ found = (cc) in let e = ap (λ (x : VersionedManifest). x.manifest.replay_after_wal_id) same in omega (arith, e, over)) under there;
  } where
    within : (id : ℕ) (bs : List Batch) → m.replay_after_wal_id < id → id ≤ last_log m.replay_after_wal_id o → log_at id o ≡ Some bs → All (λ b. b.number ≤ end (content o)) bs
    within zero bs over under there = absurd (omega (arith, over))
    within (suc before) bs over under there =
        let last = last_log m.replay_after_wal_id o in
        let line : Line = record { floor = m.last_l0_seq; batches = logged o m } in
        let ends = content-ends in
        let stand = belong-log m.replay_after_wal_id before last m.last_l0_seq m.last_l0_seq line o bs (omega (arith, over)) (omega (arith, under)) (omega arith) (ap (λ n. log_at n o) (let e : before + 1 ≡ suc before = omega arith in e) ∙ there) (logs-by o latest sound is).belong in
        above-within m.last_l0_seq (end (content o)) bs (omega (arith, ends)) (λ k d less. let low = stands-within _ line (stand k d less) in omega (arith, low, ends))

-- what one that has read no log file above the replay mark has seen
pub none-seen : (o : Objects) (view : VersionedManifest) (mode : DbReaderMode) (skips : Bool) (lag : ℕ) (line : Line) → latest_manifest o ≡ Some view → HasSeen o (rebuilt mode skips lag view line view.manifest.replay_after_wal_id)
none-seen o view mode skips lag line is = record {
  mark = λ found at.
      let same : view ≡ found = (cc) in
      let e = ap (λ (x : VersionedManifest). x.manifest.replay_after_wal_id) same in
      let least = at_least found.manifest.replay_after_wal_id (map (λ (log : ℕ × List Batch). log.0) o.logs) in
      omega (arith, e, least);
  logs = λ found id bs at over under there.
      let same : view ≡ found = (cc) in
      let e = ap (λ (x : VersionedManifest). x.manifest.replay_after_wal_id) same in
      absurd (omega (arith, e, over, under));
}
