-- Taking out expired checkpoints, and reading the manifests of those that are left.
use Rattle.std.proofs.Common.{◌≡◌, inl, inr, ℕ, ◌+◌, ◌<◌, List, [], ◌∷◌, ◌++◌, length, take, get_or, Option, Some, None, true, cond, Err, refl, sym, ap, subst, ◌∙◌, arith, ℤ}
use Rattle.std.specs.List.{Contains}
use Rattle.std.specs.Option.{IfSome, is_some, option_to_list}
use Rattle.std.proofs.lemmas.Grind.{flat_map-append}
use Rattle.std.proofs.lemmas.List.{take_more}
use Rattle.slate_types.specs.declared.batches.Batch.{Batch}
use Rattle.slate_types.specs.declared.store_errors.StoreError.{StoreError}
use Rattle.slate_types.specs.declared.store_errors.StoreError.TheVariants as errors
use Rattle.slate_types.specs.Modelled.{WhereModelled}
use Rattle.slate_types.proofs.Modelled.{modelled_as}
use Rattle.slate_store.specs.declared.objects.Checkpoint.{Checkpoint}
use Rattle.slate_store.specs.declared.objects.Manifest.{Manifest}
use Rattle.slate_store.specs.declared.objects.VersionedManifest.{VersionedManifest}
use Rattle.slate_store.specs.Calls.{Finds, Puts}
use Rattle.slate_store.specs.Changes.{after_part}
use Rattle.slate_store.specs.Objects.{Objects, PutManifest, entry_at}
use Rattle.slate_store.specs.Refusals.{refusal_of}
use Rattle.slate_store.specs.Steps.{ReadsKept, TakesOut, kept_by}
use Rattle.slate_store.specs.Sweeps.{expiries, has_expired, without_expired}

-- what is known of two calls that keep the objects
pub both-known : {X : Type 0} {a b : Option X} {P Q : X → Type 0} (R : X → Type 0) → b ≡ a → IfSome a P → IfSome b Q → ((x : X) → P x → Q x → R x) → IfSome a R
both-known {X} {a} {b} {P} {Q} R kept p q f = go a p (subst (λ o. IfSome o Q) kept q)
  where
    go : (o : Option X) → IfSome o P → IfSome o Q → IfSome o R
    go None p q = tt
    go (Some x) p q = f x p q

-- ---- the put of a manifest without the expired checkpoints
module _ (moment : ℤ) (latest next : VersionedManifest) (yes : has_expired moment latest ≡ true) (is : next ≡ without_expired moment latest) where
  next-id : next.id ≡ latest.id + 1
  next-id = ap (λ (v : VersionedManifest). v.id) is ∙ rw yes refl

  one-put : expiries {L = List Batch} moment latest ≡ PutManifest next.id next.manifest ∷ []
  one-put =
      ap (λ t. cond t (PutManifest (without_expired moment latest).id (without_expired moment latest).manifest ∷ []) []) yes
      ∙ ap (λ (v : VersionedManifest). PutManifest v.id v.manifest ∷ []) (sym is)

  refused : (e : StoreError) (o o' : Objects) → Puts (PutManifest next.id next.manifest) (Err e) o o' → (made : ℕ) × TakesOut moment latest o (Err (refusal_of e)) made o'
  refused errors.NotFound o o' h = absurd h
  refused errors.Exists o o' h = (0, record { answer = (yes, ap (λ id. is_some (entry_at id o.manifests)) (sym next-id) ∙ h.0); part = omega arith; after = h.1 })
  refused errors.NoMemory o o' h = (0, record { answer = tt; part = omega arith; after = h })
  refused errors.Failed o o' (inl h) = (0, record { answer = tt; part = omega arith; after = h })
  refused errors.Failed o o' (inr h) =
      let one : length (expiries {L = List Batch} moment latest) ≡ 1 = ap length one-put in
      (1, record { answer = tt; part = omega arith; after = h.1 ∙ ap (λ cs. after_part 1 cs o) (sym one-put) })

  pub expiry-refused : {a b : Option Objects} (e : StoreError) → WhereModelled (Puts (PutManifest next.id next.manifest) (Err e)) a b → WhereModelled (λ o o'. (made : ℕ) × TakesOut moment latest o (Err (refusal_of e)) made o') a b
  expiry-refused e h = modelled_as (λ o o'. (made : ℕ) × TakesOut moment latest o (Err (refusal_of e)) made o') h (λ o o' p. refused e o o' p)

-- ---- the manifests of checkpoints
pub read-next : (o : Objects) (checkpoints : List Checkpoint) (i : ℕ) (c : Checkpoint) (ms : List Manifest) (m : Manifest) → i < length checkpoints → c ≡ get_or checkpoints i c → ms ≡ kept_by o (take i checkpoints) → entry_at c.manifest_id o.manifests ≡ Some m → ms ++ m ∷ [] ≡ kept_by o (take (i + 1) checkpoints)
read-next o checkpoints i c ms m less is so_far found =
    let f : Checkpoint → List Manifest = λ checkpoint. option_to_list (entry_at checkpoint.manifest_id o.manifests) in
    let more : take (i + 1) checkpoints ≡ take i checkpoints ++ c ∷ [] = take_more checkpoints i c less ∙ ap (λ x. take i checkpoints ++ x ∷ []) (sym is) in
    let one : m ∷ [] ≡ f c ++ [] = ap (λ x. option_to_list x ++ []) (sym found) in
    ap (λ xs. xs ++ m ∷ []) so_far
    ∙ (ap (λ xs. kept_by o (take i checkpoints) ++ xs) one
    ∙ (sym (flat_map-append f (take i checkpoints) (c ∷ [])) ∙ ap (kept_by o) (sym more)))

pub unread : (checkpoints : List Checkpoint) (c : Checkpoint) (o : Objects) (e : StoreError) → Contains checkpoints c → Finds (entry_at c.manifest_id o.manifests) (Err e) → ReadsKept checkpoints o (Err (refusal_of e))
unread checkpoints c o errors.NotFound among found = (c, among, found)
unread checkpoints c o errors.Exists among found = absurd found
unread checkpoints c o errors.Failed among found = tt
unread checkpoints c o errors.NoMemory among found = tt
