-- What the reads of a store find in the blobs of a folder.
use Rattle.std.proofs.Common.{◌≡◌, ℕ, ◌-◌, ◌<◌, ◌≤◌, inl, inr, List, [], ◌∷◌, arith, length, Option, Some, None, Result, Ok, Err, refl, ap, sym, subst, ◌∙◌}
use Rattle.std.specs.Option.{IfSome, option_map}
use Rattle.std.specs.List.{AllByRecursion, slice_get}
use Rattle.std.specs.List.Sorted.{IsStrictlySortedBy}
use Rattle.std.specs.Ordering.{nat_cmp}
use Rattle.std.specs.declared.cmp.Ordering.{Ordering}
use Rattle.std.specs.declared.cmp.Ordering.TheVariants.{Less}
use Rattle.std.specs.Map.{keys_of}
use Rattle.std.proofs.lemmas.Bool.{cases_lt}
use Rattle.slate_store.proofs.Entries.{greater}
use Rattle.slate_store.proofs.Latest.{last-cons}
use Rattle.std.proofs.lemmas.Cmp.{eq_by_cmp_equiv, nat_cmp_total}
use Rattle.std.proofs.lemmas.List.{length-map}
use Rattle.std.proofs.lemmas.Option.{slice_get-map}
use Rattle.std.proofs.lemmas.Map.Entries.{lookup_from_place}
use Rattle.std.proofs.lemmas.Map.Keys.{IsDistinct-from_sorted}
use Rattle.slate_types.specs.declared.store_errors.StoreError.{StoreError}
use Rattle.slate_objects.specs.Reading.{GivesDecoded}
use Rattle.slate_objects.specs.declared.faults.DecodeError.{DecodeError}
use Rattle.slate_objects.specs.declared.faults.DecodeError.TheVariants as errors
use Rattle.slate_objects.specs.declared.faults.DecodeFault.{DecodeFault}
use Rattle.slate_store.specs.declared.objects.Manifest.{Manifest}
use Rattle.slate_store.specs.Calls.{Finds}
use Rattle.slate_store.specs.Objects.{IsGreatest, entry_at, greatest, last, last_log, latest_manifest, listing_of, log_at, table_at, table_cmp, versioned}
use Rattle.slate_store.specs.declared.objects.TableId.{TableId}
use Rattle.slate_types.specs.declared.batches.Batch.{Batch}
use Rattle.slate_objects.specs.Objects.{log_in, manifest_in, table_in}
use Rattle.std.proofs.lemmas.Map.Made.{keys_of-map_values}
use Rattle.slate_blobs.proofs.Folders.{known, where-held}
use Rattle.slate_blobs.specs.Decoded.{all_held, answer_of, blank_manifest, each, log_held, manifest_held, table_held, value_or}
use Rattle.slate_blobs.specs.Entries.{value_at}
use Rattle.slate_blobs.proofs.Calls.{found-answer, found-error, found-object}

some-inj : {X : Type 0} (x y : X) → Some x ≡ Some y → x ≡ y
some-inj x y h = cc

-- what a get refused, a read refuses
pub refused : {K X : Type 0} (cmp : K → K → Ordering) (held : List ℕ → X) (id : K) (blobs : List (K × List ℕ)) (result : Result X StoreError) (error : StoreError) → result ≡ Err error → Finds {A = List ℕ} (value_at cmp id blobs) (Err error) → Finds (value_at cmp id (each held blobs)) result
refused cmp held id blobs result error is finds = subst (λ r. Finds (value_at cmp id (each held blobs)) r) (sym is) (found-error cmp held id blobs error finds)

-- what was answered of a decoding was decoded
pub decoded-ok : {X : Type 0} (decoded : Result X DecodeError) (read : Result X DecodeFault) (x : X) → Ok x ≡ answer_of decoded → GivesDecoded decoded read → read ≡ Ok x
decoded-ok (Ok y) read x is gives = let same : y ≡ x = cc in gives ∙ ap Ok same
decoded-ok (Err (errors.Fault fault)) read x is gives = absurd (cc)
decoded-ok (Err errors.NoMemory) read x is gives = absurd (cc)

at_most : (x y : ℕ) → nat_cmp x y ≡ Less → x ≤ y
at_most x y is = elim (cases_lt y x) [ inl above ↦ absurd (let more = greater x y above in cc) | inr low ↦ low ]

-- the last of rising ids is the greatest
sorted-last : (id : ℕ) (ids : List ℕ) → IsStrictlySortedBy nat_cmp ids → last ids ≡ Some id → AllByRecursion (λ x. x ≤ id) ids
unfolding IsStrictlySortedBy
sorted-last id [] sorted is = absurd (cc)
sorted-last id (x ∷ []) sorted is = let same = some-inj x id is in (omega (arith, same), tt)
sorted-last id (x ∷ y ∷ ids) sorted is =
    let rest = sorted-last id (y ∷ ids) sorted.1 (sym (last-cons x y ids) ∙ is) in
    let below = at_most x y (sorted.0).0 in
    let top : y ≤ id = rest.0 in
    (omega (arith, below, top), rest)

entry-of : {K X : Type 0} (found : Option (K × X)) (k : K) → option_map (λ e. e.0) found ≡ Some k → (v : X) × (found ≡ Some (k, v))
entry-of None k is = absurd (cc)
entry-of (Some e) k is = let same : e.0 ≡ k = cc in (e.1, ap (λ n. Some (n, e.1)) same)

-- the bytes under the greatest id are the latest manifest
pub latest-found : (blobs : List (ℕ × List ℕ)) (ids : List ℕ) (id : ℕ) (bytes : List ℕ) (x : Manifest) → ids ≡ keys_of blobs → IsStrictlySortedBy nat_cmp ids → last ids ≡ Some id → value_at nat_cmp id blobs ≡ Some bytes → manifest_held bytes ≡ x → Some (record { id = id; manifest = x }) ≡ option_map versioned (last (each manifest_held blobs))
latest-found blobs ids id bytes x keys rising is found made =
    let object : ℕ × List ℕ → ℕ × Manifest = λ e. (e.0, manifest_held e.1) in
    let at : slice_get (keys_of blobs) (length blobs - 1) ≡ Some id =
    ap (λ n. slice_get (keys_of blobs) (n - 1)) (sym (length-map blobs (λ e. e.0))) ∙ (ap last (sym keys) ∙ is) in
    let entry = entry-of (slice_get blobs (length blobs - 1)) id (sym (slice_get-map (λ e. e.0) blobs (length blobs - 1)) ∙ at) in
    let distinct = IsDistinct-from_sorted nat_cmp (keys_of blobs) (subst (IsStrictlySortedBy nat_cmp) keys rising) in
    let there = lookup_from_place (eq_by_cmp_equiv nat_cmp_total) blobs (length blobs - 1) id entry.0 distinct entry.1 in
    let same : entry.0 ≡ bytes = some-inj entry.0 bytes (sym there ∙ found) in
    let stands : last (each manifest_held blobs) ≡ Some (id, manifest_held entry.0) =
    ap (λ n. slice_get (each manifest_held blobs) (n - 1)) (length-map blobs object) ∙ (slice_get-map object blobs (length blobs - 1) ∙ ap (option_map object) entry.1) in
    sym (ap (option_map versioned) stands ∙ ap (λ (manifest : Manifest). Some (versioned (id, manifest))) (ap manifest_held same ∙ made))

module _ (ms ls : Option (List (ℕ × List ℕ))) (ts : Option (List (TableId × List ℕ))) where
  -- a manifest that wasn't got isn't read
  pub manifest-refused : (id : ℕ) (result : Result Manifest StoreError) (error : StoreError) → result ≡ Err error → IfSome ms (λ blobs. Finds {A = List ℕ} (value_at nat_cmp id blobs) (Err error)) → IfSome (all_held ms ls ts) (λ o. Finds (entry_at id o.manifests) result)
  manifest-refused id result error is finds = where-held (λ o. Finds (entry_at id o.manifests) result) ms ls ts (λ m l t m-is l-is t-is.
      refused nat_cmp manifest_held id m result error is (known (λ blobs. Finds {A = List ℕ} (value_at nat_cmp id blobs) (Err error)) ms m m-is finds))

  -- one that was got is read as what was decoded
  pub manifest-answer : (id : ℕ) (bytes : List ℕ) (decoded : Result Manifest DecodeError) (result : Result Manifest StoreError) → result ≡ answer_of decoded → IfSome ms (λ blobs. value_at nat_cmp id blobs ≡ Some bytes) → GivesDecoded decoded (manifest_in bytes) → IfSome (all_held ms ls ts) (λ o. Finds (entry_at id o.manifests) result)
  manifest-answer id bytes decoded result is got gives = where-held (λ o. Finds (entry_at id o.manifests) result) ms ls ts (λ m l t m-is l-is t-is.
      subst (λ (answer : Result Manifest StoreError). Finds (entry_at id (each manifest_held m)) answer) (sym is)
      (found-answer nat_cmp manifest_held id m blank_manifest manifest_in bytes decoded (λ bs. refl) (known (λ blobs. value_at nat_cmp id blobs ≡ Some bytes) ms m m-is got) gives))

  -- a log file that wasn't got isn't read
  pub log-refused : (id : ℕ) (result : Result (List Batch) StoreError) (error : StoreError) → result ≡ Err error → IfSome ls (λ blobs. Finds {A = List ℕ} (value_at nat_cmp id blobs) (Err error)) → IfSome (all_held ms ls ts) (λ o. Finds (log_at id o) result)
  log-refused id result error is finds = where-held (λ o. Finds (log_at id o) result) ms ls ts (λ m l t m-is l-is t-is.
      refused nat_cmp log_held id l result error is (known (λ blobs. Finds {A = List ℕ} (value_at nat_cmp id blobs) (Err error)) ls l l-is finds))

  -- one that was got is read as its batches
  pub log-found : (id : ℕ) (bytes : List ℕ) (batches log : List Batch) → log ≡ batches → IfSome ls (λ blobs. value_at nat_cmp id blobs ≡ Some bytes) → log_in bytes ≡ Ok batches → IfSome (all_held ms ls ts) (λ o. log_at id o ≡ Some log)
  log-found id bytes batches log same got decoded = where-held (λ o. log_at id o ≡ Some log) ms ls ts (λ m l t m-is l-is t-is.
      found-object nat_cmp log_held id l bytes batches (known (λ blobs. value_at nat_cmp id blobs ≡ Some bytes) ls l l-is got) (ap (value_or []) decoded) ∙ ap Some (sym same))

  -- a table that wasn't got isn't read
  pub table-refused : (id : TableId) (result : Result (List Batch) StoreError) (error : StoreError) → result ≡ Err error → IfSome ts (λ blobs. Finds {A = List ℕ} (value_at table_cmp id blobs) (Err error)) → IfSome (all_held ms ls ts) (λ o. Finds (table_at id o) result)
  table-refused id result error is finds = where-held (λ o. Finds (table_at id o) result) ms ls ts (λ m l t m-is l-is t-is.
      refused table_cmp table_held id t result error is (known (λ blobs. Finds {A = List ℕ} (value_at table_cmp id blobs) (Err error)) ts t t-is finds))

  -- one that was got is read as its batches
  pub table-found : (id : TableId) (bytes : List ℕ) (batches table : List Batch) → table ≡ batches → IfSome ts (λ blobs. value_at table_cmp id blobs ≡ Some bytes) → table_in bytes ≡ Ok batches → IfSome (all_held ms ls ts) (λ o. table_at id o ≡ Some table)
  table-found id bytes batches table same got decoded = where-held (λ o. table_at id o ≡ Some table) ms ls ts (λ m l t m-is l-is t-is.
      found-object table_cmp table_held id t bytes batches (known (λ blobs. value_at table_cmp id blobs ≡ Some bytes) ts t t-is got) (ap (value_or []) decoded) ∙ ap Some (sym same))

  -- one that is kept is read as what is stored
  pub table-kept : (id : TableId) (table : List Batch) → IfSome ts (λ blobs. value_at table_cmp id (each table_held blobs) ≡ Some table) → IfSome (all_held ms ls ts) (λ o. table_at id o ≡ Some table)
  table-kept id table stored = where-held (λ o. table_at id o ≡ Some table) ms ls ts (λ m l t m-is l-is t-is. known (λ blobs. value_at table_cmp id (each table_held blobs) ≡ Some table) ts t t-is stored)

  -- the greatest of the ids that were listed
  pub last-found : (after : ℕ) (ids : List ℕ) (number : ℕ) → number ≡ greatest after ids → IfSome ls (λ blobs. ids ≡ keys_of blobs) → IfSome (all_held ms ls ts) (λ o. number ≡ last_log after o)
  last-found after ids number is listed = where-held (λ o. number ≡ last_log after o) ms ls ts (λ m l t m-is l-is t-is.
      is ∙ ap (greatest after) (known (λ blobs. ids ≡ keys_of blobs) ls l l-is listed ∙ sym (keys_of-map_values log_held l)))

  -- the ids of the three folders
  pub listing-found : (manifests logs : List ℕ) (tables : List TableId) → IfSome ms (λ blobs. manifests ≡ keys_of blobs) → IfSome ls (λ blobs. logs ≡ keys_of blobs) → IfSome ts (λ blobs. tables ≡ keys_of blobs) → IfSome (all_held ms ls ts) (λ o. record { manifests = manifests; logs = logs; tables = tables } ≡ listing_of o)
  listing-found manifests logs tables first second third = where-held (λ o. record { manifests = manifests; logs = logs; tables = tables } ≡ listing_of o) ms ls ts (λ m l t m-is l-is t-is.
      let ids = known (λ blobs. manifests ≡ keys_of blobs) ms m m-is first ∙ sym (keys_of-map_values manifest_held m) in
      let numbers = known (λ blobs. logs ≡ keys_of blobs) ls l l-is second ∙ sym (keys_of-map_values log_held l) in
      let pairs = known (λ blobs. tables ≡ keys_of blobs) ts t t-is third ∙ sym (keys_of-map_values table_held t) in
      λ i. record { manifests = ids i; logs = numbers i; tables = pairs i })

  -- the manifest of the last id that was listed
  pub latest-answer : (ids : List ℕ) (id : ℕ) (bytes : List ℕ) (x : Manifest) (ms' : Option (List (ℕ × List ℕ))) → ms' ≡ ms → IfSome ms (λ blobs. ids ≡ keys_of blobs) → IfSome ms (λ blobs. IsStrictlySortedBy nat_cmp ids) → last ids ≡ Some id → IfSome ms' (λ blobs. value_at nat_cmp id blobs ≡ Some bytes) → manifest_in bytes ≡ Ok x → IfSome (all_held ms ls ts) (λ o. Some (record { id = id; manifest = x }) ≡ latest_manifest o)
  latest-answer ids id bytes x ms' kept listed rising is got decoded = where-held (λ o. Some (record { id = id; manifest = x }) ≡ latest_manifest o) ms ls ts (λ m l t m-is l-is t-is.
      latest-found m ids id bytes x (known (λ blobs. ids ≡ keys_of blobs) ms m m-is listed) (known (λ blobs. IsStrictlySortedBy nat_cmp ids) ms m m-is rising) is
      (known (λ blobs. value_at nat_cmp id blobs ≡ Some bytes) ms' m (kept ∙ m-is) got) (ap (value_or blank_manifest) decoded))

  -- whose id is the greatest
  pub latest-greatest : (ids : List ℕ) (id : ℕ) (x : Manifest) → IfSome ms (λ blobs. ids ≡ keys_of blobs) → IfSome ms (λ blobs. IsStrictlySortedBy nat_cmp ids) → last ids ≡ Some id → IfSome (all_held ms ls ts) (λ o. IsGreatest o (record { id = id; manifest = x }))
  latest-greatest ids id x listed rising is = where-held (λ o. IsGreatest o (record { id = id; manifest = x })) ms ls ts (λ m l t m-is l-is t-is.
      let keys = known (λ blobs. ids ≡ keys_of blobs) ms m m-is listed ∙ sym (keys_of-map_values manifest_held m) in
      subst (λ (ks : List ℕ). AllByRecursion (λ k. k ≤ id) ks) keys (sorted-last id ids (known (λ blobs. IsStrictlySortedBy nat_cmp ids) ms m m-is rising) is))

-- a table that was got and decoded is stored
pub table-there : (ts ts' : Option (List (TableId × List ℕ))) (id : TableId) (bytes : List ℕ) (batches table : List Batch) → ts' ≡ ts → table ≡ batches → IfSome ts (λ blobs. value_at table_cmp id blobs ≡ Some bytes) → table_in bytes ≡ Ok batches → IfSome ts' (λ blobs. value_at table_cmp id (each table_held blobs) ≡ Some table)
table-there None ts' id bytes batches table kept same got decoded = rw kept tt
table-there (Some blobs) ts' id bytes batches table kept same got decoded = rw kept (found-object table_cmp table_held id blobs bytes batches got (ap (value_or []) decoded) ∙ ap Some (sym same))
