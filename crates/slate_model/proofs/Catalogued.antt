-- Operations change a store's catalogue as they change its objects.
use Rattle.std.proofs.Common.{◌≡◌, ℕ, ◌+◌, List, [], ◌∷◌, length, map, Option, Some, None, Result, Ok, Err, refl, sym, ap, ◌∙◌, zero, suc, Bool, true, false, cond, not, ◌++◌, max, take, flat_map, option_to_list, option_map, unwrap_or, ltb, arith}
use Rattle.std.proofs.lemmas.List.{append-nil, take-map, map-append}
use Rattle.std.specs.Ordering.{nat_cmp}
use Rattle.std.specs.declared.cmp.Ordering.{Ordering}
use Rattle.std.specs.declared.cmp.Ordering.TheVariants.{Less, Equal, Greater}
use Rattle.std.specs.Ordering.{match_ordering}
use Rattle.std.specs.BTreeMap.{insert_entry, is_at}
use Rattle.slate_types.specs.declared.batches.Batch.{Batch}
use Rattle.slate_store.specs.declared.objects.VersionedManifest.{VersionedManifest}
use Rattle.slate_types.specs.declared.store_errors.StoreFault.TheVariants.{Unavailable}
use Rattle.slate_store.specs.Objects.{Objects, Change, ChangeOf, PutManifest, PutLog, PutTable, RemoveManifest, RemoveLog, RemoveTable, changed, table_cmp, without, latest_manifest, last_log, log_at, greatest, table_at}
use Rattle.slate_errors.specs.declared.errors.SlateError.{SlateError}
use Rattle.slate_errors.specs.declared.errors.SlateError.TheVariants as errors
use Rattle.slate_model.specs.Catalogue.{Span, span, catalogue_of, greatest_in, greatest_of, joined_span, joined_two}
use Rattle.slate_model.specs.Changes.{after_part}
use Rattle.std.specs.Option.{option_or}
use Rattle.slate_model.specs.Open.{open_changes, next_manifest, mark_of, can_open, can_open_by, log_refusal, manifest_refusal, open_refusal, opened_manifest, Opens, OpenAnswer, OpenCause}
use Rattle.slate_model.specs.Segments.{Extractor, extractor_name}
use Rattle.slate_types.specs.declared.options.FlushType.{FlushType}
use Rattle.slate_types.specs.declared.options.FlushType.TheVariants.{Wal, MemTable}
use Rattle.slate_model.specs.Flush.{ManifestCause, flush_changes, flush_changes_by, flush_changes_under, has_untabled, log_changes, table_changes, tables_put}
use Rattle.slate_store.specs.declared.objects.TableId.{TableId}
use Rattle.slate_store.specs.Compaction.{compact_changes, compact_changes_by, tables_at, with_table}
use Rattle.slate_model.specs.Handle.{Handle, to_log}
use Rattle.std.proofs.lemmas.Map.Made.{lookup-map_values}

-- what a world knows of a log file or a table under its id
abbrev pub spanned : {K : Type 0} → K × List Batch → K × Span
spanned stored = (stored.0, span stored.1)

-- what it knows of a change
abbrev pub reduced : Change → ChangeOf Span
reduced (PutManifest id manifest) = PutManifest id manifest
reduced (PutLog id log) = PutLog id (span log)
reduced (PutTable id table) = PutTable id (span table)
reduced (RemoveManifest id) = RemoveManifest id
reduced (RemoveLog id) = RemoveLog id
reduced (RemoveTable id) = RemoveTable id

same_ids : (logs : List (ℕ × List Batch)) → map (λ log. log.0) (map spanned logs) ≡ map (λ log. log.0) logs
same_ids [] = refl
same_ids (log ∷ logs) = ap (λ ids. log.0 ∷ ids) (same_ids logs)

-- the last log file is known
pub last_log-catalogue : (mark : ℕ) (o : Objects) → last_log mark (catalogue_of o) ≡ last_log mark o
last_log-catalogue mark o = ap (greatest mark) (same_ids o.logs)

map-choice : {K : Type 0} (r : Ordering) (a b c : List (K × List Batch)) → map spanned (match_ordering r a b c) ≡ match_ordering r (map spanned a) (map spanned b) (map spanned c)
map-choice Less a b c = refl
map-choice Equal a b c = refl
map-choice Greater a b c = refl

map-insert : {K : Type 0} (cmp : K → K → Ordering) (id : K) (bs : List Batch) (es : List (K × List Batch)) → map spanned (insert_entry cmp es id bs) ≡ insert_entry cmp (map spanned es) id (span bs)
map-insert cmp id bs [] = refl
map-insert cmp id bs (e ∷ es) =
    map-choice (cmp id e.0) _ _ _
    ∙ ap (λ rest. match_ordering (cmp id e.0) ((id, span bs) ∷ map spanned (e ∷ es)) ((e.0, span bs) ∷ map spanned es) (spanned e ∷ rest)) (map-insert cmp id bs es)

map-kept : {K : Type 0} (b : Bool) (e : K × List Batch) (es : List (K × List Batch)) → map spanned (cond b (e ∷ es) es) ≡ cond b (spanned e ∷ map spanned es) (map spanned es)
map-kept true e es = refl
map-kept false e es = refl

map-without : {K : Type 0} (test : K → Bool) (es : List (K × List Batch)) → map spanned (without test es) ≡ without test (map spanned es)
map-without test [] = refl
map-without test (e ∷ es) =
    map-kept (not (test e.0)) e (without test es)
    ∙ ap (λ rest. cond (not (test e.0)) (spanned e ∷ rest) rest) (map-without test es)

catalogue-changed : (c : Change) (o : Objects) → catalogue_of (changed c o) ≡ changed (reduced c) (catalogue_of o)
catalogue-changed (PutManifest id manifest) o = refl
catalogue-changed (PutLog id log) o = ap (λ logs. record { manifests = o.manifests; logs = logs; tables = (catalogue_of o).tables }) (map-insert nat_cmp id log o.logs)
catalogue-changed (PutTable id table) o = ap (λ tables. record { manifests = o.manifests; logs = (catalogue_of o).logs; tables = tables }) (map-insert table_cmp id table o.tables)
catalogue-changed (RemoveManifest id) o = refl
catalogue-changed (RemoveLog id) o = ap (λ logs. record { manifests = o.manifests; logs = logs; tables = (catalogue_of o).tables }) (map-without (is_at (nat_cmp id)) o.logs)
catalogue-changed (RemoveTable id) o = ap (λ tables. record { manifests = o.manifests; logs = (catalogue_of o).logs; tables = tables }) (map-without (is_at (table_cmp id)) o.tables)

-- what is known after changes is what the known changes make of what was known
pub catalogue-after : (made : ℕ) (cs : List Change) (o : Objects) → catalogue_of (after_part made cs o) ≡ after_part made (map reduced cs) (catalogue_of o)
catalogue-after zero cs o = refl
catalogue-after (suc made) [] o = refl
catalogue-after (suc made) (c ∷ cs) o =
    catalogue-after made cs (changed c o) ∙ ap (after_part made (map reduced cs)) (catalogue-changed c o)

log_changes-known : (bs : List Batch) (last : ℕ) → map reduced (log_changes (λ xs. xs) bs last) ≡ log_changes span bs last
log_changes-known [] last = refl
log_changes-known (b ∷ bs) last = refl

map-cond : {X Y : Type 0} (f : X → Y) (b : Bool) (xs : List X) → map f (cond b xs []) ≡ cond b (map f xs) []
map-cond f true xs = refl
map-cond f false xs = refl

flush_under-known : (t : FlushType) (h : Handle) (latest : VersionedManifest) (last : ℕ) → map reduced (flush_changes_under (λ xs. xs) t h latest last) ≡ flush_changes_under span t h latest last
flush_under-known Wal h latest last = log_changes-known (to_log h) last
flush_under-known MemTable h latest last =
    let tables = table_changes (λ xs. xs) h latest last in
    map-cond reduced (has_untabled h latest.manifest) (log_changes (λ xs. xs) (to_log h) last ++ tables)
    ∙ ap (λ cs. cond (has_untabled h latest.manifest) cs [])
    (map-append reduced (log_changes (λ xs. xs) (to_log h) last) tables ∙ ap (λ cs. cs ++ table_changes span h latest last) (log_changes-known (to_log h) last))

flush_by-known : (t : FlushType) (h : Handle) (o : Objects) (latest : Option VersionedManifest) → map reduced (flush_changes_by (λ xs. xs) t h o latest) ≡ flush_changes_by span t h (catalogue_of o) latest
flush_by-known t h o None = refl
flush_by-known t h o (Some latest) =
    flush_under-known t h latest (last_log latest.manifest.replay_after_wal_id o)
    ∙ ap (flush_changes_under span t h latest) (sym (last_log-catalogue latest.manifest.replay_after_wal_id o))

-- the changes of a flush, as they are known
pub flush_changes-known : (t : FlushType) (h : Handle) (o : Objects) → map reduced (flush_changes (λ xs. xs) t h o) ≡ flush_changes span t h (catalogue_of o)
flush_changes-known t h o = flush_by-known t h o (latest_manifest o)

-- as many tables are put by changes as they are known
pub tables_put-known : (cs : List Change) → tables_put (map reduced cs) ≡ tables_put cs
tables_put-known [] = refl
tables_put-known (PutManifest id m ∷ cs) = tables_put-known cs
tables_put-known (PutLog id log ∷ cs) = tables_put-known cs
tables_put-known (PutTable id table ∷ cs) = ap (λ n. n + 1) (tables_put-known cs)
tables_put-known (RemoveManifest id ∷ cs) = tables_put-known cs
tables_put-known (RemoveLog id ∷ cs) = tables_put-known cs
tables_put-known (RemoveTable id ∷ cs) = tables_put-known cs

pub tables_part-known : (made : ℕ) (cs : List Change) → tables_put (take made (map reduced cs)) ≡ tables_put (take made cs)
tables_part-known made cs = ap tables_put (take-map reduced made cs) ∙ tables_put-known (take made cs)

-- the greatest number of some batches and then others
greatest-append : (n : ℕ) (xs ys : List Batch) → greatest n (map (λ b. b.number) (xs ++ ys)) ≡ max (greatest_of xs) (greatest n (map (λ b. b.number) ys))
greatest-append n [] ys = omega arith
greatest-append n (x ∷ xs) ys = let rest = greatest-append n xs ys in omega (arith, rest)

span-append : (xs ys : List Batch) → span (xs ++ ys) ≡ joined_two (span xs) (span ys)
span-append [] ys = refl
span-append (x ∷ xs) [] = ap (λ bs. Some (x.number, greatest_of (x ∷ bs))) (append-nil xs)
span-append (x ∷ xs) (y ∷ ys) = ap (λ n. Some (x.number, n)) (greatest-append 0 (x ∷ xs) (y ∷ ys))

-- tables that are joined, as they are known
pub joined-known : (tables : List (List Batch)) → span (flat_map (λ bs. bs) tables) ≡ joined_span (map span tables)
joined-known [] = refl
joined-known (table ∷ tables) =
    span-append table (flat_map (λ bs. bs) tables) ∙ ap (joined_two (span table)) (joined-known tables)

-- a table under an id is known
pub table-known : (id : TableId) (o : Objects) → table_at id (catalogue_of o) ≡ option_map span (table_at id o)
table-known id o = lookup-map_values span (is_at (table_cmp id)) o.tables

-- and the greatest number in log files
log-known : (id : ℕ) (o : Objects) → log_at id (catalogue_of o) ≡ option_map span (log_at id o)
log-known id o = lookup-map_values span (is_at (nat_cmp id)) o.logs

greatest_in-known : (log : Option (List Batch)) → greatest_in (option_map span log) ≡ greatest_of (unwrap_or log [])
greatest_in-known None = refl
greatest_in-known (Some []) = refl
greatest_in-known (Some (b ∷ bs)) = refl

pub greatest-known : (n : ℕ) (o : Objects) (ids : List ℕ) →
    greatest n (map (λ id. greatest_in (log_at id (catalogue_of o))) ids) ≡ greatest n (map (λ b. b.number) (flat_map (λ id. unwrap_or (log_at id o) []) ids))
greatest-known n o [] = refl
greatest-known n o (id ∷ ids) =
    let first : greatest_in (log_at id (catalogue_of o)) ≡ greatest_of (unwrap_or (log_at id o) []) = ap greatest_in (log-known id o) ∙ greatest_in-known (log_at id o) in
    let rest = greatest-known n o ids in
    let all = greatest-append n (unwrap_or (log_at id o) []) (flat_map (λ id. unwrap_or (log_at id o) []) ids) in
    omega (arith, first, rest, all)

list-known : (table : Option (List Batch)) → option_to_list (option_map span table) ≡ map span (option_to_list table)
list-known None = refl
list-known (Some table) = refl

tables-known : (o : Objects) (ids : List TableId) → tables_at (catalogue_of o) ids ≡ map span (tables_at o ids)
tables-known o [] = refl
tables-known o (id ∷ ids) =
    ap (λ table. option_to_list table ++ tables_at (catalogue_of o) ids) (table-known id o)
    ∙ (ap (λ xs. xs ++ tables_at (catalogue_of o) ids) (list-known (table_at id o))
    ∙ (ap (λ xs. map span (option_to_list (table_at id o)) ++ xs) (tables-known o ids)
    ∙ sym (map-append span (option_to_list (table_at id o)) (tables_at o ids))))

compact_by-known : (id : TableId) (o : Objects) (latest : Option VersionedManifest) → map reduced (compact_changes_by (flat_map (λ bs. bs)) id o latest) ≡ compact_changes_by joined_span id (catalogue_of o) latest
compact_by-known id o None = refl
compact_by-known id o (Some latest) =
    by (ltb (length latest.manifest.tables) 2)
    (joined-known (tables_at o latest.manifest.tables) ∙ ap joined_span (sym (tables-known o latest.manifest.tables))) where
      by : (few : Bool) → span (flat_map (λ bs. bs) (tables_at o latest.manifest.tables)) ≡ joined_span (tables_at (catalogue_of o) latest.manifest.tables) →
          map reduced (cond few [] (PutTable id (flat_map (λ bs. bs) (tables_at o latest.manifest.tables)) ∷ PutManifest (with_table id latest).id (with_table id latest).manifest ∷ []))
          ≡ cond few [] (PutTable id (joined_span (tables_at (catalogue_of o) latest.manifest.tables)) ∷ PutManifest (with_table id latest).id (with_table id latest).manifest ∷ [])
      by true same = refl
      by false same = ap (λ table. PutTable id table ∷ PutManifest (with_table id latest).id (with_table id latest).manifest ∷ []) same

-- the changes of a compaction, as they are known
pub compact_changes-known : (id : TableId) (o : Objects) → map reduced (compact_changes (flat_map (λ bs. bs)) id o) ≡ compact_changes joined_span id (catalogue_of o)
compact_changes-known id o = compact_by-known id o (latest_manifest o)

-- and those of an opening
pub open_changes-known : (name : Option (List ℕ)) (o : Objects) → map reduced (open_changes name (λ xs. xs) o) ≡ open_changes name span (catalogue_of o)
open_changes-known name o =
    ap (λ last. PutManifest (next_manifest name (latest_manifest o) last).id (next_manifest name (latest_manifest o) last).manifest ∷ PutLog (last + 1) None ∷ [])
    (sym (last_log-catalogue (mark_of (latest_manifest o)) o))

-- whether a store can be opened is known
pub can_open-known : (o : Objects) → can_open (catalogue_of o) ≡ can_open o
can_open-known o = ap (can_open_by (latest_manifest o)) (last_log-catalogue (mark_of (latest_manifest o)) o)

-- and why it isn't
pub open_refusal-known : (x : Option Extractor) (o : Objects) → open_refusal x (catalogue_of o) ≡ open_refusal x o
open_refusal-known x o = ap (λ last. option_or (manifest_refusal x (latest_manifest o)) (log_refusal last)) (last_log-catalogue (mark_of (latest_manifest o)) o)

pub manifest_cause-known : (epoch : ℕ) (o : Objects) (e : SlateError) → ManifestCause epoch o e → ManifestCause epoch (catalogue_of o) e
manifest_cause-known epoch o errors.LatestTransactionalObjectVersionMissing h = h
manifest_cause-known epoch o errors.Fenced h = h
manifest_cause-known epoch o (errors.ObjectStoreError Unavailable) h = tt
manifest_cause-known epoch o errors.NoMemory h = tt
manifest_cause-known epoch o e h = absurd h

open_cause-known : (x : Option Extractor) (unsound : SlateError → Type 0) (o : Objects) (e : SlateError) → (unsound e → ⊥) → OpenCause x unsound o e → OpenCause x (λ _. ⊥) (catalogue_of o) e
open_cause-known x unsound o errors.InvalidDBState none h = open_refusal-known x o ∙ h
open_cause-known x unsound o (errors.SegmentExtractorMismatch persisted configured) none h = open_refusal-known x o ∙ h
open_cause-known x unsound o (errors.SegmentPrefixNotRecognized prefix name) none h = open_refusal-known x o ∙ h
open_cause-known x unsound o (errors.EmptySegmentPrefix key) none h = open_refusal-known x o ∙ h
open_cause-known x unsound o (errors.ObjectStoreError Unavailable) none h = tt
open_cause-known x unsound o errors.NoMemory none h = tt
open_cause-known x unsound o e none h = absurd (none h)

open_answer-known : {A : Type 0} (x : Option Extractor) (unsound : SlateError → Type 0) (o : Objects) (r : Result A SlateError) → ((e : SlateError) → unsound e → ⊥) → OpenAnswer x unsound o r → OpenAnswer x (λ _. ⊥) (catalogue_of o) r
open_answer-known x unsound o (Ok a) none h = open_refusal-known x o ∙ h
open_answer-known x unsound o (Err e) none h = open_cause-known x unsound o e (none e) h

-- an opening of sound objects is an opening of what is known of them
pub opens-known : {A : Type 0} (x : Option Extractor) (unsound : SlateError → Type 0) (o : Objects) (r : Result A SlateError) (made : ℕ) (o' : Objects) → ((e : SlateError) → unsound e → ⊥) → Opens x (λ xs. xs) unsound o r made o' → Opens x span (λ _. ⊥) (catalogue_of o) r made (catalogue_of o')
opens-known x unsound o r made o' none s =
    let name = extractor_name x in
    record {
      answer = open_answer-known x unsound o r none s.answer;
      part = s.part;
      only = s.only;
      can = λ some. open_refusal-known x o ∙ s.can some;
      after = ap catalogue_of s.after ∙ (catalogue-after made (open_changes name (λ xs. xs) o) o ∙ ap (λ cs. after_part made cs (catalogue_of o)) (open_changes-known name o));
    }

-- the manifest of an opening is known
pub opened_manifest-known : (name : Option (List ℕ)) (o : Objects) → opened_manifest name (catalogue_of o) ≡ opened_manifest name o
opened_manifest-known name o = ap (next_manifest name (latest_manifest o)) (last_log-catalogue (mark_of (latest_manifest o)) o)
