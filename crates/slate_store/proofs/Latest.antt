-- The latest manifest of sound objects, and ids that rise.
use Rattle.slate_store.proofs.Entries.{insert-last, last-push, nil-from-last}
use Rattle.slate_store.specs.Content.{IdsRise, HasItsObjects, IsSound, content_by}
use Rattle.slate_store.specs.Objects.{IsGreatest, Objects, PutManifest, changed, empty, greatest, last, latest_manifest, versioned}
use Rattle.slate_store.specs.declared.objects.Manifest.{Manifest}
use Rattle.slate_store.specs.declared.objects.VersionedManifest.{VersionedManifest}
use Rattle.slate_types.specs.Line.{IsLine}
use Rattle.std.proofs.Common.{◌++◌, ◌<◌, ◌∙◌, ◌∷◌, ◌≡◌, ◌≤◌, [], List, None, Option, Some, ap, arith, map, max, refl, sub-one, subst, sym, ℕ}
use Rattle.std.specs.BTreeMap.{insert_entry}
use Rattle.std.specs.List.Sorted.{IsStrictlySortedBy}
use Rattle.std.specs.List.{AllByRecursion}
use Rattle.std.specs.Option.{IfSome, option_map}
use Rattle.std.specs.Ordering.{nat_cmp}

no_last : {X Y : Type 0} (f : X → Y) (o : Option X) → option_map f o ≡ None → o ≡ None
no_last f None h = refl
no_last f (Some x) h = absurd (cc)

-- an empty store is sound
pub empty-sound : IsSound empty
unfolding IsStrictlySortedBy
empty-sound = record { manifests = tt; logs = tt; tables = tt; nothing = λ none. (refl, refl); line = tt; latest = tt }

-- sound objects without a manifest are none at all
pub nothing_there : (o : Objects) → IsSound o → latest_manifest o ≡ None → o ≡ empty
nothing_there o sound none =
    let manifests = nil-from-last o.manifests (no_last versioned (last o.manifests) none) in
    let others = sound.nothing none in
    λ i. record { manifests = manifests i; logs = others.0 i; tables = others.1 i }

pub last-cons : {X : Type 0} (x y : X) (xs : List X) → last (x ∷ y ∷ xs) ≡ last (y ∷ xs)
last-cons x y xs = rw (sub-one, sub-one) refl

-- the last of rising ids is the greatest
pub rising-last : {X : Type 0} (e : ℕ × X) (es : List (ℕ × X)) → IdsRise (map (λ e. e.0) es) → last es ≡ Some e → AllByRecursion (λ id. id ≤ e.0) (map (λ e. e.0) es)
rising-last e [] rising is = absurd (cc)
rising-last {X} e (x ∷ []) rising is =
    let same : x ≡ e = cc in
    (subst (λ (y : ℕ × X). x.0 ≤ y.0) same (omega arith), tt)
rising-last e (x ∷ y ∷ es) rising is =
    let rest = rising-last e (y ∷ es) rising.1 (sym (last-cons x y es) ∙ is) in
    (let below : x.0 < y.0 = (rising.0).0 in let top : y.0 ≤ e.0 = rest.0 in omega (arith, below, top), rest)

pub all-greatest : (k n : ℕ) (ids : List ℕ) → AllByRecursion (λ id. id ≤ k) ids → greatest n ids ≤ max n k
all-greatest k n [] h = omega arith
all-greatest k n (x ∷ ids) h = let rest = all-greatest k n ids h.1 in let first : x ≤ k = h.0 in omega (arith, rest, first)

all-push : (x id : ℕ) (ids : List ℕ) → AllByRecursion (λ later. x < later) ids → x < id → AllByRecursion (λ later. x < later) (ids ++ id ∷ [])
all-push x id [] h less = (less, tt)
all-push x id (y ∷ ids) h less = (h.0, all-push x id ids h.1 less)

-- rising ids go on by a greater one
pub rising-push : (k id : ℕ) (ids : List ℕ) → IdsRise ids → AllByRecursion (λ x. x ≤ k) ids → k < id → IdsRise (ids ++ id ∷ [])
rising-push k id [] rising top less = (tt, tt)
rising-push k id (x ∷ ids) rising top less =
    let first : x ≤ k = top.0 in
    (all-push x id ids rising.0 (omega (arith, first, less)), rising-push k id ids rising.1 top.1 less)

-- each number is at most the greatest
pub all-at_most : (n : ℕ) (ids : List ℕ) → AllByRecursion (λ id. id ≤ greatest n ids) ids
all-at_most n ids = by (greatest n ids) ids (omega arith) where
  by : (k : ℕ) (ids : List ℕ) → greatest n ids ≤ k → AllByRecursion (λ id. id ≤ k) ids
  by k [] low = tt
  by k (x ∷ ids) low = (omega arith, by k ids (omega arith))

pub some-versioned : (entry : Option (ℕ × Manifest)) (latest : VersionedManifest) → option_map versioned entry ≡ Some latest → entry ≡ Some (latest.id, latest.manifest)
some-versioned None latest h = absurd (cc)
some-versioned (Some e) latest h = let same : versioned e ≡ latest = cc in ap (λ (v : VersionedManifest). Some (v.id, v.manifest)) same

module _ (o : Objects) (latest : VersionedManifest) (sound : IsSound o) (is : latest_manifest o ≡ Some latest) where
  -- no manifest has a greater id than the latest
  pub ids-within : AllByRecursion (λ id. id ≤ latest.id) (map (λ e. e.0) o.manifests)
  ids-within = rising-last (latest.id, latest.manifest) o.manifests sound.manifests (some-versioned (last o.manifests) latest is)

  pub its-objects : HasItsObjects o latest
  its-objects = subst (λ x. IfSome x (HasItsObjects o)) is sound.latest

  pub its-line : IsLine (content_by o (Some latest))
  its-line = subst (λ x. IsLine (content_by o x)) is sound.line

-- ---- the next manifest, over any objects
all-push_up : (k n : ℕ) (es : List (ℕ × Manifest)) (e : ℕ × Manifest) → AllByRecursion (λ id. id ≤ k) (map (λ x. x.0) es) → k ≤ n → e.0 ≤ n → AllByRecursion (λ id. id ≤ n) (map (λ x. x.0) (es ++ e ∷ []))
all-push_up k n [] e all up top = (top, tt)
all-push_up k n (x ∷ es) e all up top = let first : x.0 ≤ k = all.0 in (omega (arith, first, up), all-push_up k n es e all.1 up top)

module _ (o : Objects) (k : ℕ) (next : VersionedManifest) (within : AllByRecursion (λ id. id ≤ k) (map (λ e. e.0) o.manifests)) (above : k < next.id) where
  next-end : insert_entry nat_cmp o.manifests next.id next.manifest ≡ o.manifests ++ (next.id, next.manifest) ∷ []
  next-end = let top = all-greatest k 0 (map (λ (e : ℕ × Manifest). e.0) o.manifests) within in insert-last next.id 0 next.manifest o.manifests (omega (arith, top, above))

  -- a manifest above all others is the latest once it is put
  pub next-latest : latest_manifest (changed (PutManifest next.id next.manifest) o) ≡ Some next
  next-latest = ap (λ (es : List (ℕ × Manifest)). option_map versioned (last es)) next-end ∙ ap (option_map versioned) (last-push o.manifests (next.id, next.manifest))

  pub next-greatest : IsGreatest (changed (PutManifest next.id next.manifest) o) next
  next-greatest = subst (λ (es : List (ℕ × Manifest)). AllByRecursion (λ id. id ≤ next.id) (map (λ e. e.0) es)) (sym next-end)
      (all-push_up k next.id o.manifests (next.id, next.manifest) within (omega (arith, above)) (omega arith))

-- without a latest manifest there is none
pub none-latest : (o : Objects) → latest_manifest o ≡ None → o.manifests ≡ []
none-latest o none = nil-from-last o.manifests (no_last versioned (last o.manifests) none)
