-- What is found of a list of checkpoints.
use Rattle.std.proofs.Common.{◌≡◌, ◌≢◌, ◌++◌, ◌∷◌, ◌∙◌, [], ℕ, Bool, true, false, cond, List, map, find, Some, refl, sym, subst, ap}
use Rattle.std.proofs.lemmas.Bool.{false_from_ne_true}
use Rattle.std.proofs.lemmas.List.Elements.{All-head, All-tail}
use Rattle.std.proofs.lemmas.Slice.Eq.{bytes_eq-Decides}
use Rattle.std.specs.List.{All, filter}
use Rattle.slate_store.specs.Checkpoints.{has_id}
use Rattle.slate_store.specs.declared.objects.Checkpoint.{Checkpoint}

-- one that is found stays so where others are appended
pub find-append : (test : Checkpoint → Bool) (c : Checkpoint) (cs ds : List Checkpoint) → find test cs ≡ Some c → find test (cs ++ ds) ≡ Some c
find-append test c [] ds is = absurd (cc)
find-append test c (x ∷ cs) ds is = by (test x) is (find-append test c cs ds) where
  by : (b : Bool) → cond b (Some x) (find test cs) ≡ Some c → (find test cs ≡ Some c → find test (cs ++ ds) ≡ Some c) → cond b (Some x) (find test (cs ++ ds)) ≡ Some c
  by true is rest = is
  by false is rest = rest is

-- and in a filter that it passes
pub find-filter : (test passes : Checkpoint → Bool) (c : Checkpoint) (cs : List Checkpoint) → find test cs ≡ Some c → passes c ≡ true → find test (filter passes cs) ≡ Some c
find-filter test passes c [] is pass = absurd (cc)
find-filter test passes c (x ∷ cs) is pass = by (test x) refl (passes x) refl is (λ rest. find-filter test passes c cs rest pass) where
  by : (b : Bool) → test x ≡ b → (p : Bool) → passes x ≡ p → cond b (Some x) (find test cs) ≡ Some c → (find test cs ≡ Some c → find test (filter passes cs) ≡ Some c) → find test (cond p (x ∷ filter passes cs) (filter passes cs)) ≡ Some c
  by true tests true passing is rest = rw tests is
  by true tests false passing is rest = absurd (let same : x ≡ c = cc in let no = ap passes same in cc)
  by false tests true passing is rest = rw tests (rest is)
  by false tests false passing is rest = rest is

-- one that a map leaves with its id is found as what it becomes
pub find-map : (test : Checkpoint → Bool) (f : Checkpoint → Checkpoint) → ((x : Checkpoint) → test (f x) ≡ test x) → (c : Checkpoint) (cs : List Checkpoint) → find test cs ≡ Some c → find test (map f cs) ≡ Some (f c)
find-map test f same c [] is = absurd (cc)
find-map test f same c (x ∷ cs) is = by (test x) refl is (find-map test f same c cs) where
  by : (b : Bool) → test x ≡ b → cond b (Some x) (find test cs) ≡ Some c → (find test cs ≡ Some c → find test (map f cs) ≡ Some (f c)) → find test (map f (x ∷ cs)) ≡ Some (f c)
  by true tests is rest = let it : x ≡ c = cc in rw (same x ∙ tests) (ap (λ y. Some (f y)) it)
  by false tests is rest = rw (same x ∙ tests) (rest is)

pub found-passes : (test : Checkpoint → Bool) (c : Checkpoint) (cs : List Checkpoint) → find test cs ≡ Some c → test c ≡ true
found-passes test c [] is = absurd (cc)
found-passes test c (x ∷ cs) is = by (test x) refl is (found-passes test c cs) where
  by : (b : Bool) → test x ≡ b → cond b (Some x) (find test cs) ≡ Some c → (find test cs ≡ Some c → test c ≡ true) → test c ≡ true
  by true tests is rest = let it : x ≡ c = cc in subst (λ y. test y ≡ true) it tests
  by false tests is rest = rest is

-- a checkpoint that is found has its id, and no other
pub found-id : (id : List ℕ) (c : Checkpoint) (cs : List Checkpoint) → find (has_id id) cs ≡ Some c → c.id ≡ id
found-id id c cs is = (bytes_eq-Decides c.id id).0 (found-passes (has_id id) c cs is)

pub has-other : (id other : List ℕ) (c : Checkpoint) → c.id ≡ id → other ≢ id → has_id other c ≡ false
has-other id other c is apart = false_from_ne_true (has_id other c) (λ same. apart (sym ((bytes_eq-Decides c.id other).0 same) ∙ is))

-- what holds of all holds of the one that is found
pub find-all : (P : Checkpoint → Type 0) (test : Checkpoint → Bool) (c : Checkpoint) (cs : List Checkpoint) → All P cs → find test cs ≡ Some c → P c
find-all P test c [] all is = absurd (cc)
find-all P test c (x ∷ cs) all is = by (test x) is (find-all P test c cs (All-tail P x cs all)) where
  by : (b : Bool) → cond b (Some x) (find test cs) ≡ Some c → (find test cs ≡ Some c → P c) → P c
  by true is rest = let it : x ≡ c = cc in subst P it (All-head P x cs all)
  by false is rest = rest is

-- where none before it passes, the last one is found
pub find-last : (test : Checkpoint → Bool) (c : Checkpoint) (cs : List Checkpoint) → All (λ x. test x ≡ false) cs → test c ≡ true → find test (cs ++ c ∷ []) ≡ Some c
find-last test c [] none passes = rw passes refl
find-last test c (x ∷ cs) none passes = rw (All-head (λ x. test x ≡ false) x cs none) (find-last test c cs (All-tail (λ x. test x ≡ false) x cs none) passes)
