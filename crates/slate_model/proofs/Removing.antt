-- Log files that are removed in their order, as a sweep removes them: with one that is gone each lower one is.
use Rattle.std.proofs.Common.{◌≡◌, ◌∙◌, ◌⊎◌, inl, inr, ℕ, zero, suc, ◌<◌, ◌≤◌, List, [], ◌∷◌, ◌++◌, map, cond, not, ◌||◌, Bool, true, false, Option, Some, None, refl, sym, ap, subst, arith}
use Rattle.std.proofs.lemmas.Bool.{cases_eq, lt-ltb, ltb-true}
use Rattle.std.proofs.lemmas.Cmp.{nat_cmp_total}
use Rattle.std.specs.BTreeMap.{is_at}
use Rattle.std.specs.List.{AllByRecursion, filter, list_any}
use Rattle.std.specs.Ordering.{nat_cmp}
use Rattle.std.specs.Prelude.{nat_lt}
use Rattle.slate_types.specs.declared.batches.Batch.{Batch}
use Rattle.slate_store.specs.Content.{IdsRise}
use Rattle.slate_store.specs.Objects.{Change, Objects, PutLog, PutManifest, PutTable, RemoveLog, RemoveManifest, RemoveTable, changed, entry_at, log_at}
use Rattle.slate_store.specs.Sweeps.{keeps_log, keeps_manifest, keeps_table, protecting, removals}
use Rattle.slate_store.specs.declared.objects.Manifest.{Manifest}
use Rattle.slate_store.specs.declared.objects.TableId.{TableId}
use Rattle.slate_store.specs.declared.objects.VersionedManifest.{VersionedManifest}
use Rattle.slate_store.proofs.Entries.{apart, lookup-without, rising-filter}
use Rattle.slate_model.specs.Changes.{after_part}
use Rattle.slate_model.proofs.Logging.{LogsGo, PutLogs, part-are, puts-part, removed-gone, removed-left}

-- the ids of the log files that changes remove
abbrev pub removed_ids : List Change → List ℕ
removed_ids [] = []
removed_ids (RemoveLog id ∷ cs) = id ∷ removed_ids cs
removed_ids (PutLog id log ∷ cs) = removed_ids cs
removed_ids (PutManifest id m ∷ cs) = removed_ids cs
removed_ids (PutTable id table ∷ cs) = removed_ids cs
removed_ids (RemoveManifest id ∷ cs) = removed_ids cs
removed_ids (RemoveTable id ∷ cs) = removed_ids cs

abbrev pub IsAmong : ℕ → List ℕ → Type 0
IsAmong id [] = ⊥
IsAmong id (x ∷ xs) = (id ≡ x) ⊎ IsAmong id xs

-- each log file that is stored up to one of these is one of these
abbrev pub Waits : Objects → List ℕ → Type 0
Waits o ids = (id below : ℕ) → IsAmong id ids → below ≤ id → (log_at below o ≡ None) ⊎ IsAmong below ids

-- a later one is above the first
among-above : (k id : ℕ) (ids : List ℕ) → AllByRecursion (λ later. k < later) ids → IsAmong id ids → k < id
among-above k id [] all among = absurd among
among-above k id (x ∷ xs) all (inl same) = let low = all.0 in omega (arith, low, same)
among-above k id (x ∷ xs) all (inr later) = among-above k id xs all.1 later

-- none that is gone comes back where none is put
gone-stays : (made id : ℕ) (cs : List Change) (o : Objects) → PutLogs (λ batches. ⊥) cs → log_at id o ≡ None → log_at id (after_part made cs o) ≡ None
gone-stays made id cs o puts none = by (log_at id (after_part made cs o)) refl
  where
    by : (log : Option (List Batch)) → log_at id (after_part made cs o) ≡ log → log_at id (after_part made cs o) ≡ None
    by None is = is
    by (Some batches) is = elim (part-are (λ batches. ⊥) made cs o (puts-part (λ batches. ⊥) made cs puts) id batches is) [
      | inl before ↦ absurd (cc (none, before))
      | inr never ↦ absurd never
    ]

left-none : (q below : ℕ) (o : Objects) → log_at below o ≡ None → log_at below (changed (RemoveLog q) o) ≡ None
left-none q below o none = elim (removed-left below q o) [
  | inl same ↦ same ∙ none
  | inr gone ↦ gone
]

-- after the first one, the others wait
waits-next : (q : ℕ) (ids : List ℕ) (o : Objects) → Waits o (q ∷ ids) → Waits (changed (RemoveLog q) o) ids
waits-next q ids o waits id below among low = elim (waits id below (inr among) low) [
  | inl gone ↦ inl (left-none q below o gone)
  | inr (inl here) ↦ inl (subst (λ k. log_at k (changed (RemoveLog q) o) ≡ None) (sym here) (removed-gone q o))
  | inr (inr there) ↦ inr there
]

-- the first one is removed, and then the others
first-goes : (last q made : ℕ) (cs : List Change) (o : Objects) → PutLogs (λ batches. ⊥) cs → AllByRecursion (λ later. q < later) (removed_ids cs) → Waits o (q ∷ removed_ids cs) → LogsGo last (changed (RemoveLog q) o) (after_part made cs (changed (RemoveLog q) o)) → LogsGo last o (after_part made cs (changed (RemoveLog q) o))
first-goes last q made cs o puts above waits later id below some low within none = elim (later id below some low within none) [
  | inr gone ↦ inr gone
  | inl none_then ↦ elim (cases_eq id q) [
    | inr other ↦ inl (sym (lookup-without nat_cmp_total id q o.logs (apart q id (λ same. other (sym same)))) ∙ none_then)
    | inl same ↦ elim (waits q below (inl refl) (omega (arith, low, same))) [
      | inl gone ↦ inr (gone-stays made below cs (changed (RemoveLog q) o) puts (left-none q below o gone))
      | inr (inl here) ↦ inr (subst (λ k. log_at k (after_part made cs (changed (RemoveLog q) o)) ≡ None) (same ∙ sym here) none)
      | inr (inr among) ↦ absurd (let up = among-above q below (removed_ids cs) above among in omega (arith, up, low, same))
    ]
  ]
]

pub part-go : (last made : ℕ) (cs : List Change) (o : Objects) → PutLogs (λ batches. ⊥) cs → IdsRise (removed_ids cs) → Waits o (removed_ids cs) → LogsGo last o (after_part made cs o)
part-go last zero cs o puts rising waits = λ id below some low within none. inl none
part-go last (suc made) [] o puts rising waits = λ id below some low within none. inl none
part-go last (suc made) (PutLog q log ∷ cs) o puts rising waits = absurd puts.0
part-go last (suc made) (PutManifest q m ∷ cs) o puts rising waits = part-go last made cs (changed (PutManifest q m) o) puts rising waits
part-go last (suc made) (PutTable q table ∷ cs) o puts rising waits = part-go last made cs (changed (PutTable q table) o) puts rising waits
part-go last (suc made) (RemoveManifest q ∷ cs) o puts rising waits = part-go last made cs (changed (RemoveManifest q) o) puts rising waits
part-go last (suc made) (RemoveTable q ∷ cs) o puts rising waits = part-go last made cs (changed (RemoveTable q) o) puts rising waits
part-go last (suc made) (RemoveLog q ∷ cs) o puts rising waits =
    first-goes last q made cs o puts rising.0 waits (part-go last made cs (changed (RemoveLog q) o) puts rising.1 (waits-next q (removed_ids cs) o waits))

-- ---- what a sweep removes
ids-after-tables : (ts : List (TableId × List Batch)) (cs : List Change) → removed_ids (map (λ table. RemoveTable table.0) ts ++ cs) ≡ removed_ids cs
ids-after-tables [] cs = refl
ids-after-tables (t ∷ ts) cs = ids-after-tables ts cs

ids-of-logs : (es : List (ℕ × List Batch)) (cs : List Change) → removed_ids cs ≡ [] → removed_ids (map (λ log. RemoveLog log.0) es ++ cs) ≡ map (λ log. log.0) es
ids-of-logs [] cs none = none
ids-of-logs (e ∷ es) cs none = ap (λ ids. e.0 ∷ ids) (ids-of-logs es cs none)

ids-of-manifests : (ms : List (ℕ × Manifest)) → removed_ids (map (λ entry. RemoveManifest entry.0) ms) ≡ []
ids-of-manifests [] = refl
ids-of-manifests (m ∷ ms) = ids-of-manifests ms

ids-are : (latest : VersionedManifest) (o : Objects) → removed_ids (removals latest o) ≡ map (λ log. log.0) (filter (λ log. not (keeps_log (protecting latest o) log.0)) o.logs)
ids-are latest o =
    let tables = filter (λ table. not (keeps_table (protecting latest o) table.0)) o.tables in
    let logs = filter (λ log. not (keeps_log (protecting latest o) log.0)) o.logs in
    let manifests = filter (λ entry. not (keeps_manifest latest entry.0)) o.manifests in
    ids-after-tables tables (map (λ log. RemoveLog log.0) logs ++ map (λ entry. RemoveManifest entry.0) manifests)
    ∙ ids-of-logs logs (map (λ entry. RemoveManifest entry.0) manifests) (ids-of-manifests manifests)

pub removals-rise : (latest : VersionedManifest) (o : Objects) → IdsRise (map (λ log. log.0) o.logs) → IdsRise (removed_ids (removals latest o))
removals-rise latest o rising = subst IdsRise (sym (ids-are latest o)) (rising-filter (λ (log : ℕ × List Batch). log.0) (λ log. not (keeps_log (protecting latest o) log.0)) o.logs rising)

-- one that is stored and passes is among those that pass
passed-among : (id : ℕ) (batches : List Batch) (test : ℕ → Bool) (es : List (ℕ × List Batch)) → entry_at id es ≡ Some batches → test id ≡ true → IsAmong id (map (λ e. e.0) (filter (λ e. test e.0) es))
passed-among id batches test [] there passes = absurd (cc)
passed-among id batches test (e ∷ es) there passes = elim (cases_eq id e.0) [
  | inl same ↦ here (test e.0) (sym (ap test same) ∙ passes) same
  | inr other ↦ later (test e.0) (passed-among id batches test es (sym (ap (λ b. cond b (Some e.1) (entry_at id es)) (apart id e.0 other)) ∙ there) passes)
]
  where
    here : (b : Bool) → b ≡ true → id ≡ e.0 → IsAmong id (map (λ e. e.0) (cond b (e ∷ filter (λ e. test e.0) es) (filter (λ e. test e.0) es)))
    here true is same = inl same
    here false is same = absurd (cc)

    later : (b : Bool) → IsAmong id (map (λ e. e.0) (filter (λ e. test e.0) es)) → IsAmong id (map (λ e. e.0) (cond b (e ∷ filter (λ e. test e.0) es) (filter (λ e. test e.0) es)))
    later true among = inr among
    later false among = among

-- one of those that pass passes
among-passes : (id : ℕ) (test : ℕ → Bool) (es : List (ℕ × List Batch)) → IsAmong id (map (λ e. e.0) (filter (λ e. test e.0) es)) → test id ≡ true
among-passes id test [] among = absurd among
among-passes id test (e ∷ es) among = by (test e.0) refl among (among-passes id test es)
  where
    by : (b : Bool) → test e.0 ≡ b → IsAmong id (map (λ e. e.0) (cond b (e ∷ filter (λ e. test e.0) es) (filter (λ e. test e.0) es))) → (IsAmong id (map (λ e. e.0) (filter (λ e. test e.0) es)) → test id ≡ true) → test id ≡ true
    by true is (inl same) later = ap test same ∙ is
    by true is (inr there) later = later there
    by false is there later = later there

-- no manifest keeps a lower log file than one that none keeps
kept-lower : (ms : List Manifest) (id below : ℕ) → below ≤ id → not (keeps_log ms id) ≡ true → not (keeps_log ms below) ≡ true
kept-lower [] id below low unkept = refl
kept-lower (m ∷ ms) id below low unkept = by (nat_lt m.replay_after_wal_id id) refl (nat_lt m.replay_after_wal_id below) refl unkept (kept-lower ms id below low)
  where
    by : (y : Bool) → nat_lt m.replay_after_wal_id id ≡ y → (x : Bool) → nat_lt m.replay_after_wal_id below ≡ x → not (y || keeps_log ms id) ≡ true → (not (keeps_log ms id) ≡ true → not (keeps_log ms below) ≡ true) → not (x || keeps_log ms below) ≡ true
    by true is x is_x unkept later = absurd (cc)
    by false is false is_x unkept later = later unkept
    by false is true is_x unkept later = absurd (let less = ltb-true m.replay_after_wal_id below is_x in let yes = lt-ltb m.replay_after_wal_id id (omega (arith, less, low)) in cc (yes, is))

pub removals-wait : (latest : VersionedManifest) (o : Objects) → Waits o (removed_ids (removals latest o))
removals-wait latest o = subst (Waits o) (sym (ids-are latest o)) (λ id below among low. by below (log_at below o) refl (kept-lower (protecting latest o) id below low (among-passes id (λ id. not (keeps_log (protecting latest o) id)) o.logs among)))
  where
    by : (below : ℕ) (log : Option (List Batch)) → log_at below o ≡ log → not (keeps_log (protecting latest o) below) ≡ true → (log_at below o ≡ None) ⊎ IsAmong below (map (λ log. log.0) (filter (λ log. not (keeps_log (protecting latest o) log.0)) o.logs))
    by below None is unkept = inl is
    by below (Some batches) is unkept = inr (passed-among below batches (λ id. not (keeps_log (protecting latest o) id)) o.logs is unkept)
