-- The latest manifest after an opening has no greater epoch than the opening's.
use Rattle.std.proofs.Common.{◌≡◌, ◌⊎◌, inl, inr, ℕ, ◌+◌, ◌≤◌, List, [], ◌∷◌, length, get_or, Option, Some, None, refl, sym, subst, ap, ◌∙◌, arith, sub-one}
use Rattle.std.specs.Option.{option_map}
use Rattle.std.specs.BTreeMap.{insert_entry}
use Rattle.std.specs.Ordering.{nat_cmp, match_ordering}
use Rattle.std.specs.declared.cmp.Ordering.{Ordering}
use Rattle.std.specs.declared.cmp.Ordering.TheVariants.{Less, Equal, Greater}
use Rattle.slate_store.specs.declared.objects.Manifest.{Manifest}
use Rattle.slate_store.specs.declared.objects.VersionedManifest.{VersionedManifest}
use Rattle.slate_store.specs.Objects.{Objects, last, latest_manifest, versioned}
use Rattle.slate_model.specs.Changes.{after_part}
use Rattle.slate_model.specs.Open.{found_log, next_manifest, open_changes, opened_manifest}
use Rattle.slate_store.proofs.Entries.{last-at}
use Rattle.slate_store.proofs.Latest.{last-cons}

-- the last entry after one more was put is that one, or was the last before
record IsLastOf {X : Type 0} (x : X) (es : List (ℕ × X)) (after : List (ℕ × X)) : Type 0 where
  entry : ℕ × X
  is : last after ≡ Some entry
  which : (entry.1 ≡ x) ⊎ (last es ≡ Some entry)

last-tail : {X : Type 0} (x : X) (ys : List X) (y : X) → last ys ≡ Some y → last (x ∷ ys) ≡ Some y
last-tail x [] y h = absurd (cc)
last-tail x (z ∷ ys) y h = last-cons x z ys ∙ h

has-last : {X : Type 0} (x : X) (xs : List X) → last (x ∷ xs) ≡ Some (get_or (x ∷ xs) (length xs) x)
has-last x xs = rw sub-one (last-at x xs)

replaced : {X : Type 0} (x : X) (e : ℕ × X) (es : List (ℕ × X)) → IsLastOf x (e ∷ es) ((e.0, x) ∷ es)
replaced x e [] = record { entry = (e.0, x); is = refl; which = inl refl }
replaced x e (f ∷ es) =
    record {
      entry = get_or (f ∷ es) (length es) f;
      is = last-cons (e.0, x) f es ∙ has-last f es;
      which = inr (last-cons e f es ∙ has-last f es);
    }

behind : {X : Type 0} (x : X) (e : ℕ × X) (es after : List (ℕ × X)) → IsLastOf x es after → IsLastOf x (e ∷ es) (e ∷ after)
behind x e es after l =
    record {
      entry = l.entry;
      is = last-tail e after l.entry l.is;
      which = elim l.which [
        | inl new ↦ inl new
        | inr old ↦ inr (last-tail e es l.entry old)
      ];
    }

chosen : {X : Type 0} (r : Ordering) (k : ℕ) (x : X) (e : ℕ × X) (es after : List (ℕ × X)) → IsLastOf x es after → IsLastOf x (e ∷ es) (match_ordering r ((k, x) ∷ e ∷ es) ((e.0, x) ∷ es) (e ∷ after))
chosen Less k x e es after l =
    record { entry = get_or (e ∷ es) (length es) e; is = last-cons (k, x) e es ∙ has-last e es; which = inr (has-last e es) }
chosen Equal k x e es after l = replaced x e es
chosen Greater k x e es after l = behind x e es after l

last-insert : {X : Type 0} (k : ℕ) (x : X) (es : List (ℕ × X)) → IsLastOf x es (insert_entry nat_cmp es k x)
last-insert k x [] = record { entry = (k, x); is = refl; which = inl refl }
last-insert k x (e ∷ es) = chosen (nat_cmp k e.0) k x e es (insert_entry nat_cmp es k x) (last-insert k x es)

-- the next manifest has no lower epoch than the latest
next-epoch : (name : Option (List ℕ)) (found : Option VersionedManifest) (old : VersionedManifest) (last : ℕ) → found ≡ Some old → old.manifest.writer_epoch ≤ (next_manifest name found last).manifest.writer_epoch
next-epoch name None old last h = absurd (cc)
next-epoch name (Some latest) old last h =
    let same : latest ≡ old = cc in
    subst (λ (o : VersionedManifest). o.manifest.writer_epoch ≤ latest.manifest.writer_epoch + 1) same (omega arith)

-- after the changes of an opening the latest manifest has no greater epoch than the opening's
pub newest : (name : Option (List ℕ)) (o : Objects) (latest : VersionedManifest) → latest_manifest (after_part 2 (open_changes name (λ xs. xs) o) o) ≡ Some latest → latest.manifest.writer_epoch ≤ (opened_manifest name o).manifest.writer_epoch
newest name o latest is =
    let v = opened_manifest name o in
    let l = last-insert v.id v.manifest o.manifests in
    let found : Some (versioned l.entry) ≡ Some latest = sym (ap (option_map versioned) l.is) ∙ is in
    let same : versioned l.entry ≡ latest = cc in
    elim l.which [
      | inl new ↦
          let same_manifest : latest.manifest ≡ v.manifest = sym (ap (λ (m : VersionedManifest). m.manifest) same) ∙ new in
          subst (λ (m : Manifest). m.writer_epoch ≤ v.manifest.writer_epoch) (sym same_manifest) (omega arith)
      | inr old ↦ next-epoch name (latest_manifest o) latest (found_log o) (ap (option_map versioned) old ∙ found)
    ]
