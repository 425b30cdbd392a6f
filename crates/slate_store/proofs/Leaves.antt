-- A sweep that isn't broken off leaves what is protected.
use Rattle.slate_store.proofs.Entries.{filter-all, same_number, same_table, table_total, tied}
use Rattle.slate_store.proofs.Parts.{changed_all-append}
use Rattle.slate_store.proofs.Swept.{fails}
use Rattle.slate_store.specs.Objects.{ChangeOf, ObjectsOf, RemoveLog, RemoveManifest, RemoveTable, changed, changed_all, latest_manifest, table_cmp, without}
use Rattle.slate_store.specs.Sweeps.{expiries, keeps_log, keeps_manifest, keeps_table, protected, protecting, removals, sweep_changes, sweep_changes_by, swept, without_expired}
use Rattle.slate_store.specs.declared.objects.Manifest.{Manifest}
use Rattle.slate_store.specs.declared.objects.TableId.{TableId}
use Rattle.slate_store.specs.declared.objects.VersionedManifest.{VersionedManifest}
use Rattle.std.proofs.Common.{◌||◌, ◌++◌, ◌∙◌, ◌∷◌, ◌≡◌, [], Bool, List, Some, ap, cond, false, map, not, refl, sym, true, ℕ}
use Rattle.std.proofs.lemmas.Bool.{both_ways, false_from_ne_true, or_from, or_left, or_right}
use Rattle.std.proofs.lemmas.Cmp.{nat_cmp_total, tied_itself}
use Rattle.std.proofs.lemmas.List.Elements.{All-cons, All-head, All-map, All-nil, All-tail, All-weaker}
use Rattle.std.specs.BTreeMap.{is_at}
use Rattle.std.specs.Cmp.{IsTotalOrder}
use Rattle.std.specs.List.{All, filter, list_any}
use Rattle.std.specs.Map.{keys_of}
use Rattle.std.specs.Ordering.{is_eq, nat_cmp}
use Rattle.std.specs.Prelude.{ℤ}
use Rattle.std.specs.declared.cmp.Ordering.TheVariants.{Equal}
use Rattle.std.specs.declared.cmp.Ordering.{Ordering}

filter-same : {X : Type 0} (p q : X → Bool) (xs : List X) → All (λ x. p x ≡ q x) xs → filter p xs ≡ filter q xs
filter-same p q [] all = refl
filter-same p q (x ∷ xs) all =
    let first = All-head (λ x. p x ≡ q x) x xs all in
    let later = filter-same p q xs (All-tail (λ x. p x ≡ q x) x xs all) in
    ap (λ t. cond t (x ∷ filter p xs) (filter p xs)) first ∙ ap (λ rest. cond (q x) (x ∷ rest) rest) later

-- one filter after another
filter-both : {X : Type 0} (p q : X → Bool) (xs : List X) → filter (λ x. not (q x)) (filter (λ x. not (p x)) xs) ≡ filter (λ x. not (p x || q x)) xs
filter-both p q [] = refl
filter-both {X} p q (x ∷ xs) = by (p x) (filter-both p q xs) where
  by : (t : Bool) → filter (λ x. not (q x)) (filter (λ x. not (p x)) xs) ≡ filter (λ x. not (p x || q x)) xs → filter (λ x. not (q x)) (cond (not t) (x ∷ filter (λ x. not (p x)) xs) (filter (λ x. not (p x)) xs)) ≡ cond (not (t || q x)) (x ∷ filter (λ x. not (p x || q x)) xs) (filter (λ x. not (p x || q x)) xs)
  by true later = later
  by false later = ap (λ rest. cond (not (q x)) (x ∷ rest) rest) later

-- the entries without several keys, one after the other
abbrev pub without_all : {K X : Type 0} → (K → K → Ordering) → List K → List (K × X) → List (K × X)
without_all cmp [] es = es
without_all cmp (k ∷ ks) es = without_all cmp ks (without (is_at (cmp k)) es)

-- whether a key ties with one of these
abbrev is_among : {K : Type 0} → (K → K → Ordering) → List K → K → Bool
is_among cmp ks q = list_any (λ k. is_at (cmp k) q) ks

without_all-filter : {K X : Type 0} (cmp : K → K → Ordering) (ks : List K) (es : List (K × X)) → without_all cmp ks es ≡ filter (λ e. not (is_among cmp ks e.0)) es
without_all-filter cmp [] es = sym (filter-all es)
without_all-filter cmp (k ∷ ks) es = without_all-filter cmp ks (without (is_at (cmp k)) es) ∙ filter-both (λ e. is_at (cmp k) e.0) (λ e. is_among cmp ks e.0) es

-- a key that is kept isn't among those that aren't
kept-apart : {K : Type 0} (cmp : K → K → Ordering) (one : (a b : K) → cmp a b ≡ Equal → a ≡ b) (keep : K → Bool) (q : K) (ks : List K) → keep q ≡ true → All (λ k. keep k ≡ false) ks → is_among cmp ks q ≡ false
kept-apart cmp one keep q [] stays all = refl
kept-apart cmp one keep q (k ∷ ks) stays all =
    let goes = All-head (λ k. keep k ≡ false) k ks all in
    or_from (is_at (cmp k) q) (is_among cmp ks q)
    (false_from_ne_true (is_at (cmp k) q) (λ tie. let same = one k q (tied (cmp k q) tie) in absurd (both_ways (keep k) goes (ap keep same ∙ stays))))
    (kept-apart cmp one keep q ks stays (All-tail (λ k. keep k ≡ false) k ks all))

module _ {K X : Type 0} {cmp : K → K → Ordering} (total : IsTotalOrder cmp) (one : (a b : K) → cmp a b ≡ Equal → a ≡ b) (keep : K → Bool) where
  -- the keys that aren't kept
  abbrev unkept : List (K × X) → List K
  unkept es = keys_of (filter (λ e. not (keep e.0)) es)

  unkept-fail : (es : List (K × X)) → All (λ k. keep k ≡ false) (unkept es)
  unkept-fail es = All-map (λ k. keep k ≡ false) (λ e. e.0) (filter (λ e. not (keep e.0)) es) (fails (λ e. keep e.0) es)

  -- a key that isn't kept is
  unkept-among : (es : List (K × X)) → All (λ e. keep e.0 ≡ false → is_among cmp (unkept es) e.0 ≡ true) es
  unkept-among [] = All-nil (λ e. keep e.0 ≡ false → is_among cmp (unkept []) e.0 ≡ true)
  unkept-among (e ∷ es) = by (keep e.0) refl (unkept-among es) where
    by : (t : Bool) → keep e.0 ≡ t → All (λ e. keep e.0 ≡ false → is_among cmp (unkept es) e.0 ≡ true) es →
        let ks = keys_of (cond (not t) (e ∷ filter (λ e. not (keep e.0)) es) (filter (λ e. not (keep e.0)) es)) in
        All (λ e. keep e.0 ≡ false → is_among cmp ks e.0 ≡ true) (e ∷ es)
    by true is later = All-cons (λ e. keep e.0 ≡ false → is_among cmp (unkept es) e.0 ≡ true) e es (λ goes. absurd (both_ways (keep e.0) goes is)) later
    by false is later =
        All-cons (λ x. keep x.0 ≡ false → is_among cmp (e.0 ∷ unkept es) x.0 ≡ true) e es
        (λ goes. or_left (is_at (cmp e.0) e.0) (is_among cmp (unkept es) e.0) (ap is_eq (tied_itself total e.0)))
        (All-weaker (λ x. keep x.0 ≡ false → is_among cmp (unkept es) x.0 ≡ true) (λ x. keep x.0 ≡ false → is_among cmp (e.0 ∷ unkept es) x.0 ≡ true)
        (λ x among goes. or_right (is_at (cmp e.0) x.0) (is_among cmp (unkept es) x.0) (among goes)) es later)

  -- without the keys that aren't kept, those are left that are
  pub without-unkept : (es : List (K × X)) → without_all cmp (unkept es) es ≡ filter (λ e. keep e.0) es
  without-unkept es =
      without_all-filter cmp (unkept es) es
      ∙ filter-same (λ e. not (is_among cmp (unkept es) e.0)) (λ e. keep e.0) es (All-weaker (λ e. keep e.0 ≡ false → is_among cmp (unkept es) e.0 ≡ true) (λ e. not (is_among cmp (unkept es) e.0) ≡ keep e.0) (λ e among. agree e.0 (keep e.0) refl among) es (unkept-among es)) where
        agree : (q : K) (t : Bool) → keep q ≡ t → (keep q ≡ false → is_among cmp (unkept es) q ≡ true) → not (is_among cmp (unkept es) q) ≡ t
        agree q true is among = ap not (kept-apart cmp one keep q (unkept es) is (unkept-fail es))
        agree q false is among = ap not (among is)

module _ {L : Type 0} where
  tables-gone : (ts : List (TableId × L)) (cs : List (ChangeOf L)) (o : ObjectsOf L) → changed_all (map (λ table. RemoveTable table.0) ts ++ cs) o ≡ changed_all cs (record { manifests = o.manifests; logs = o.logs; tables = without_all table_cmp (keys_of ts) o.tables })
  tables-gone [] cs o = refl
  tables-gone (t ∷ ts) cs o = tables-gone ts cs (changed (RemoveTable t.0) o)

  logs-gone : (ls : List (ℕ × L)) (cs : List (ChangeOf L)) (o : ObjectsOf L) → changed_all (map (λ log. RemoveLog log.0) ls ++ cs) o ≡ changed_all cs (record { manifests = o.manifests; logs = without_all nat_cmp (keys_of ls) o.logs; tables = o.tables })
  logs-gone [] cs o = refl
  logs-gone (l ∷ ls) cs o = logs-gone ls cs (changed (RemoveLog l.0) o)

  manifests-gone : (es : List (ℕ × Manifest)) (o : ObjectsOf L) → changed_all (map (λ entry. RemoveManifest entry.0) es) o ≡ record { manifests = without_all nat_cmp (keys_of es) o.manifests; logs = o.logs; tables = o.tables }
  manifests-gone [] o = refl
  manifests-gone (e ∷ es) o = manifests-gone es (changed (RemoveManifest e.0) o)

  -- the removals leave what is protected
  pub removals-leave : (latest : VersionedManifest) (o : ObjectsOf L) → changed_all (removals latest o) o ≡ protected latest o
  removals-leave latest o =
      let ts = filter (λ table. not (keeps_table (protecting latest o) table.0)) o.tables in
      let ls = filter (λ log. not (keeps_log (protecting latest o) log.0)) o.logs in
      let es = filter (λ entry. not (keeps_manifest latest entry.0)) o.manifests in
      let gone_manifests : List (ChangeOf L) = map (λ entry. RemoveManifest entry.0) es in
      let o1 : ObjectsOf L = record { manifests = o.manifests; logs = o.logs; tables = without_all table_cmp (keys_of ts) o.tables } in
      let o2 : ObjectsOf L = record { manifests = o.manifests; logs = without_all nat_cmp (keys_of ls) o.logs; tables = o1.tables } in
      let tables = without-unkept table_total same_table (keeps_table (protecting latest o)) o.tables in
      let logs = without-unkept nat_cmp_total same_number (keeps_log (protecting latest o)) o.logs in
      let manifests = without-unkept nat_cmp_total same_number (keeps_manifest latest) o.manifests in
      tables-gone ts (map (λ log. RemoveLog log.0) ls ++ gone_manifests) o
      ∙ (logs-gone ls gone_manifests o1
      ∙ (manifests-gone es o2
      ∙ λ i. record { manifests = manifests i; logs = logs i; tables = tables i }))

  pub sweep-leaves : (moment : ℤ) (latest : VersionedManifest) (o : ObjectsOf L) → latest_manifest o ≡ Some latest → changed_all (sweep_changes moment o) o ≡ swept moment latest o
  sweep-leaves moment latest o is =
      ap (λ found. changed_all (sweep_changes_by moment o found) o) is
      ∙ (changed_all-append (expiries moment latest) (removals (without_expired moment latest) (changed_all (expiries moment latest) o)) o
      ∙ removals-leave (without_expired moment latest) (changed_all (expiries moment latest) o))
