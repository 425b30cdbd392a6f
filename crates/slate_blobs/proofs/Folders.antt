-- What is known of one folder, said of the objects of all three.
use Rattle.std.proofs.Common.{◌≡◌, ℕ, List, Option, Some, None, refl, subst}
use Rattle.std.specs.Option.{IfSome}
use Rattle.slate_types.specs.Modelled.{WhereModelled}
use Rattle.slate_types.proofs.Modelled.{modelled_some}
use Rattle.slate_store.specs.declared.objects.TableId.{TableId}
use Rattle.slate_store.specs.Objects.{Objects}
use Rattle.slate_blobs.specs.Decoded.{all_held, objects_of}

-- what isn't modelled stays so
none-modelled : {X : Type 0} (Q : X → X → Type 0) → WhereModelled Q None None
none-modelled Q = record { none = λ h. refl; some = λ x h. absurd (cc) }

-- a fact of the objects, where all three folders are modelled
pub where-held : (Q : Objects → Type 0) (ms ls : Option (List (ℕ × List ℕ))) (ts : Option (List (TableId × List ℕ))) → ((m l : List (ℕ × List ℕ)) (t : List (TableId × List ℕ)) → ms ≡ Some m → ls ≡ Some l → ts ≡ Some t → Q (objects_of m l t)) → IfSome (all_held ms ls ts) Q
where-held Q (Some m) (Some l) (Some t) f = f m l t refl refl refl
where-held Q (Some m) (Some l) None f = tt
where-held Q (Some m) None ts f = tt
where-held Q None ls ts f = tt

-- what is known of something that is modelled
pub known : {X : Type 0} (P : X → Type 0) (o : Option X) (x : X) → o ≡ Some x → IfSome o P → P x
known P o x is h = subst (λ (p : Option _). IfSome p P) is h

module _ (P : List (ℕ × List ℕ) → List (ℕ × List ℕ) → Type 0) (Q : Objects → Objects → Type 0) where
  -- a call on the manifests
  pub of-manifests : (a b ls : Option (List (ℕ × List ℕ))) (ts : Option (List (TableId × List ℕ))) → WhereModelled P a b → ((x y l : List (ℕ × List ℕ)) (t : List (TableId × List ℕ)) → P x y → Q (objects_of x l t) (objects_of y l t)) → WhereModelled Q (all_held a ls ts) (all_held b ls ts)
  of-manifests None b ls ts w f = rw (w.none refl) (none-modelled Q)
  of-manifests (Some x) b (Some l) (Some t) w f = let s = w.some x refl in rw (s.1) (modelled_some Q _ _ (f x s.0 l t s.2))
  of-manifests (Some x) b (Some l) None w f = let s = w.some x refl in rw (s.1) (none-modelled Q)
  of-manifests (Some x) b None ts w f = let s = w.some x refl in rw (s.1) (none-modelled Q)

  -- a call on the log files
  pub of-logs : (ms a b : Option (List (ℕ × List ℕ))) (ts : Option (List (TableId × List ℕ))) → WhereModelled P a b → ((m x y : List (ℕ × List ℕ)) (t : List (TableId × List ℕ)) → P x y → Q (objects_of m x t) (objects_of m y t)) → WhereModelled Q (all_held ms a ts) (all_held ms b ts)
  of-logs None a b ts w f = none-modelled Q
  of-logs (Some m) None b ts w f = rw (w.none refl) (none-modelled Q)
  of-logs (Some m) (Some x) b (Some t) w f = let s = w.some x refl in rw (s.1) (modelled_some Q _ _ (f m x s.0 t s.2))
  of-logs (Some m) (Some x) b None w f = let s = w.some x refl in rw (s.1) (none-modelled Q)

-- a call on the tables
pub of-tables : (P : List (TableId × List ℕ) → List (TableId × List ℕ) → Type 0) (Q : Objects → Objects → Type 0) (ms ls : Option (List (ℕ × List ℕ))) (a b : Option (List (TableId × List ℕ))) → WhereModelled P a b → ((m l : List (ℕ × List ℕ)) (x y : List (TableId × List ℕ)) → P x y → Q (objects_of m l x) (objects_of m l y)) → WhereModelled Q (all_held ms ls a) (all_held ms ls b)
of-tables P Q None ls a b w f = none-modelled Q
of-tables P Q (Some m) None a b w f = none-modelled Q
of-tables P Q (Some m) (Some l) None b w f = rw (w.none refl) (none-modelled Q)
of-tables P Q (Some m) (Some l) (Some x) b w f = let s = w.some x refl in rw (s.1) (modelled_some Q _ _ (f m l x s.0 s.2))
