-- The removals of the listed objects that aren't protected.
use Rattle.std.proofs.Common.{◌≡◌, List, [], ◌∷◌, ◌++◌, map, Bool, true, false, cond, not, refl, ap, sym, ◌∙◌}
use Rattle.std.specs.List.{filter}
use Rattle.std.specs.Map.{keys_of}
use Rattle.slate_store.specs.declared.objects.Listing.{Listing}
use Rattle.slate_store.specs.declared.objects.Manifest.{Manifest}
use Rattle.slate_store.specs.declared.objects.VersionedManifest.{VersionedManifest}
use Rattle.slate_store.specs.Objects.{Change, Objects, RemoveLog, RemoveManifest, RemoveTable, listing_of}
use Rattle.slate_store.specs.Steps.{removals_of}
use Rattle.slate_store.specs.Sweeps.{keeps_log, keeps_manifest, keeps_table, protecting, removals}

mapped-choice : {X Y : Type 0} (f : X → Y) (b : Bool) (x : X) (xs : List X) → map f (cond b (x ∷ xs) xs) ≡ cond b (f x ∷ map f xs) (map f xs)
mapped-choice f true x xs = refl
mapped-choice f false x xs = refl

-- the keys that pass are those of the entries that pass
keys-passed : {K X : Type 0} (f : K → Change) (test : K → Bool) (es : List (K × X)) → map f (filter test (keys_of es)) ≡ map (λ e. f e.0) (filter (λ e. test e.0) es)
keys-passed f test [] = refl
keys-passed f test (e ∷ es) =
    mapped-choice f (test e.0) e.0 (filter test (keys_of es))
    ∙ (ap (λ rest. cond (test e.0) (f e.0 ∷ rest) rest) (keys-passed f test es)
    ∙ sym (mapped-choice (λ e. f e.0) (test e.0) e (filter (λ e. test e.0) es)))

-- what is listed and isn't protected
abbrev pub unprotected : VersionedManifest → List Manifest → Listing → Listing
unprotected latest manifests listing =
    record {
      manifests = filter (λ id. not (keeps_manifest latest id)) listing.manifests;
      logs = filter (λ id. not (keeps_log manifests id)) listing.logs;
      tables = filter (λ id. not (keeps_table manifests id)) listing.tables;
    }

of-objects : (latest : VersionedManifest) (o : Objects) → removals_of (unprotected latest (protecting latest o) (listing_of o)) ≡ removals latest o
of-objects latest o =
    let tables = keys-passed (λ id. RemoveTable id) (λ id. not (keeps_table (protecting latest o) id)) o.tables in
    let logs = keys-passed (λ id. RemoveLog id) (λ id. not (keeps_log (protecting latest o) id)) o.logs in
    let manifests = keys-passed (λ id. RemoveManifest id) (λ id. not (keeps_manifest latest id)) o.manifests in
    λ i. tables i ++ (logs i ++ manifests i)

pub unprotected-removals : (latest : VersionedManifest) (manifests : List Manifest) (listing : Listing) (o : Objects) → listing ≡ listing_of o → manifests ≡ protecting latest o → removals_of (unprotected latest manifests listing) ≡ removals latest o
unprotected-removals latest manifests listing o listed protects =
    ap (λ l. removals_of (unprotected latest manifests l)) listed
    ∙ (ap (λ ms. removals_of (unprotected latest ms (listing_of o))) protects ∙ of-objects latest o)
