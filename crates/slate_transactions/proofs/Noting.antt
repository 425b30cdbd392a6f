-- The last write of a key after more writes.
use Rattle.std.proofs.Common.{◌≡◌, ◌≤◌, refl, sym, ◌∙◌, ap, ℕ, Bool, true, false, cond, not, ◌&&◌, ◌||◌, Decides, List, [], ◌∷◌, ◌++◌, Some, arith}
use Rattle.std.specs.List.{list_any}
use Rattle.std.specs.Map.{lookup}
use Rattle.std.specs.BTreeMap.{insert_entry, is_at}
use Rattle.std.specs.Option.{unwrap_or}
use Rattle.std.specs.Ordering.{is_eq, match_ordering}
use Rattle.std.specs.declared.cmp.Ordering.{Ordering}
use Rattle.std.specs.declared.cmp.Ordering.TheVariants.{Less, Equal, Greater}
use Rattle.std.specs.Prelude.{nat_lt}
use Rattle.std.specs.Str.{bytes_eq}
use Rattle.std.proofs.lemmas.Bool.{false≢true, ltb-false}
use Rattle.std.proofs.lemmas.Map.Lookups.{exact_bytes}
use Rattle.std.proofs.lemmas.Map.Text.{is_eq-slice_cmp}
use Rattle.std.proofs.lemmas.Slice.Eq.{bytes_eq-Decides}
use Rattle.slate_types.specs.declared.batches.KeyOp.{KeyOp}
use Rattle.slate_types.specs.declared.ranges.ByteRange.{ByteRange}
use Rattle.slate_types.specs.Range.{contains, key_cmp}
use Rattle.slate_transactions.specs.Transaction.{is_newer, is_newer_in}
use Rattle.slate_transactions.specs.Writes.{LastWrites, after_write, after_writes, is_among, last_write, with_key}
use Rattle.slate_transactions.proofs.Owning.{same-key}
use Rattle.slate_transactions.proofs.Tracking.{lookup-inserted}

-- after an operation on another key, and on the key
write-other : (number : ℕ) (unmarked : List (List ℕ)) (writes : LastWrites) (o : KeyOp) (key : List ℕ) → bytes_eq o.key key ≡ false →
    last_write (after_write number unmarked writes o) key ≡ last_write writes key
write-other number unmarked writes o key apart = go (is_among unmarked o.key) where
  other : (b : Bool) → is_eq (key_cmp key o.key) ≡ b → Decides b (key ≡ o.key) → unwrap_or (cond (is_eq (key_cmp key o.key)) (Some number) (lookup (is_at (key_cmp key)) writes)) 0 ≡ last_write writes key
  other true is d = absurd (false≢true (sym apart ∙ (bytes_eq-Decides o.key key).1 (sym (d.0 refl))))
  other false is d = ap (λ b. unwrap_or (cond b (Some number) (lookup (is_at (key_cmp key)) writes)) 0) is

  go : (b : Bool) → last_write (cond b writes (insert_entry key_cmp writes o.key number)) key ≡ last_write writes key
  go true = refl
  go false = ap (λ f. unwrap_or f 0) (lookup-inserted key o.key number writes) ∙ other (bytes_eq key o.key) (is_eq-slice_cmp key o.key) (bytes_eq-Decides key o.key)

write-same : (number : ℕ) (unmarked : List (List ℕ)) (writes : LastWrites) (o : KeyOp) (key : List ℕ) → bytes_eq o.key key ≡ true →
    last_write (after_write number unmarked writes o) key ≡ cond (is_among unmarked key) (last_write writes key) number
write-same number unmarked writes o key is =
    let same : o.key ≡ key = (bytes_eq-Decides o.key key).0 is in
    ap (λ b. last_write (cond b writes (insert_entry key_cmp writes o.key number)) key) (ap (is_among unmarked) same) ∙ go (is_among unmarked key) where
      here : is_eq (key_cmp key o.key) ≡ true
      here = is_eq-slice_cmp key o.key ∙ (bytes_eq-Decides key o.key).1 (sym ((bytes_eq-Decides o.key key).0 is))

      go : (b : Bool) → last_write (cond b writes (insert_entry key_cmp writes o.key number)) key ≡ cond b (last_write writes key) number
      go true = refl
      go false = ap (λ f. unwrap_or f 0) (lookup-inserted key o.key number writes) ∙ ap (λ b. unwrap_or (cond b (Some number) (lookup (is_at (key_cmp key)) writes)) 0) here

-- After the writes of a batch the last write of a key is the batch, where it writes the key and doesn't unmark it.
pub last_write-after : (number : ℕ) (unmarked : List (List ℕ)) (ops : List KeyOp) (writes : LastWrites) (key : List ℕ) →
    last_write (after_writes number unmarked ops writes) key ≡ cond (list_any (λ (o : KeyOp). bytes_eq o.key key) ops && not (is_among unmarked key)) number (last_write writes key)
last_write-after number unmarked [] writes key = refl
last_write-after number unmarked (o ∷ ops) writes key =
    last_write-after number unmarked ops (after_write number unmarked writes o) key
    ∙ go (bytes_eq o.key key) refl (is_among unmarked key) refl (list_any (λ (o : KeyOp). bytes_eq o.key key) ops) where
      last : ℕ
      last = last_write (after_write number unmarked writes o) key

      go : (b : Bool) → bytes_eq o.key key ≡ b → (u : Bool) → is_among unmarked key ≡ u → (any : Bool) → cond (any && not u) number last ≡ cond ((b || any) && not u) number (last_write writes key)
      go false is u un any = ap (cond (any && not u) number) (write-other number unmarked writes o key is)
      go true is true un true = write-same number unmarked writes o key is ∙ ap (λ u. cond u (last_write writes key) number) un
      go true is true un false = write-same number unmarked writes o key is ∙ ap (λ u. cond u (last_write writes key) number) un
      go true is false un true = refl
      go true is false un false = write-same number unmarked writes o key is ∙ ap (λ u. cond u (last_write writes key) number) un

-- ---- where there is no conflict
any-none : {X : Type 0} (p : X → Bool) (x : X) (xs : List X) → list_any p (x ∷ xs) ≡ false → (p x ≡ false) × (list_any p xs ≡ false)
any-none p x xs none = go (p x) (list_any p xs) none where
  go : (a b : Bool) → (a || b) ≡ false → (a ≡ false) × (b ≡ false)
  go true b none = absurd (false≢true (sym none))
  go false b none = (refl, none)

-- a key that was read wasn't written after a number, where none of them was
pub unread-newer : (start : ℕ) (writes : LastWrites) (read : List (List ℕ)) (key : List ℕ) → list_any (is_newer start writes) read ≡ false → is_among read key ≡ true → last_write writes key ≤ start
unread-newer start writes [] key none there = absurd (false≢true there)
unread-newer start writes (k ∷ read) key none there = go (bytes_eq key k) (bytes_eq-Decides key k) (is_eq-slice_cmp key k) there (unread-newer start writes read key parts.1) where
  parts : (is_newer start writes k ≡ false) × (list_any (is_newer start writes) read ≡ false)
  parts = any-none (is_newer start writes) k read none

  go : (b : Bool) → Decides b (key ≡ k) → is_eq (key_cmp key k) ≡ b → (is_eq (key_cmp key k) || is_among read key) ≡ true → (is_among read key ≡ true → last_write writes key ≤ start) → last_write writes key ≤ start
  go true d is there more = rw (d.0 refl) (ltb-false start (last_write writes k) parts.0)
  go false d is there more = more (ap (λ b. b || is_among read key) (sym is) ∙ there)

-- nor was a key in a range that was scanned
pub unscanned-newer : (start : ℕ) (writes : LastWrites) (range : ByteRange) (key : List ℕ) → is_newer_in start writes range ≡ false → contains range key ≡ true → last_write writes key ≤ start
unscanned-newer start [] range key none inside = omega arith
unscanned-newer start (e ∷ writes) range key none inside = go (bytes_eq key e.0) (bytes_eq-Decides key e.0) (is_eq-slice_cmp key e.0) (unscanned-newer start writes range key parts.1 inside) where
  parts : ((contains range e.0 && nat_lt start e.1) ≡ false) × (is_newer_in start writes range ≡ false)
  parts = any-none (λ (x : List ℕ × ℕ). contains range x.0 && nat_lt start x.1) e writes none

  least : (b : Bool) → b ≡ true → (b && nat_lt start e.1) ≡ false → e.1 ≤ start
  least true is over = ltb-false start e.1 over
  least false is over = absurd (false≢true is)

  go : (b : Bool) → Decides b (key ≡ e.0) → is_eq (key_cmp key e.0) ≡ b → last_write writes key ≤ start → last_write (e ∷ writes) key ≤ start
  go true d is more = rw is (least (contains range e.0) (ap (contains range) (sym (d.0 refl)) ∙ inside) parts.0)
  go false d is more = rw is more

-- ---- a key among keys after one more
among-inserted : (keys : List (List ℕ)) (added key : List ℕ) → is_among (with_key keys added) key ≡ (is_eq (key_cmp key added) || is_among keys key)
among-inserted [] added key = refl
among-inserted (k ∷ keys) added key = go (key_cmp added k) refl (among-inserted keys added key) where
  twice : (b c : Bool) → (b || c) ≡ (b || (b || c))
  twice true c = refl
  twice false c = refl

  swap : (a b c : Bool) → (a || (b || c)) ≡ (b || (a || c))
  swap true true c = refl
  swap true false c = refl
  swap false b c = refl

  go : (o : Ordering) → key_cmp added k ≡ o → is_among (with_key keys added) key ≡ (is_eq (key_cmp key added) || is_among keys key)
      → is_among (match_ordering o (added ∷ k ∷ keys) (k ∷ keys) (k ∷ with_key keys added)) key ≡ (is_eq (key_cmp key added) || is_among (k ∷ keys) key)
  go Less is more = refl
  go Equal is more = rw (exact_bytes added k is) (twice (is_eq (key_cmp key k)) (is_among keys key))
  go Greater is more = ap (λ b. is_eq (key_cmp key k) || b) more ∙ swap (is_eq (key_cmp key k)) (is_eq (key_cmp key added)) (is_among keys key)

pub among-with : (keys : List (List ℕ)) (added : List ℕ) → is_among (with_key keys added) added ≡ true
among-with keys added = among-inserted keys added added ∙ ap (λ b. b || is_among keys added) (is_eq-slice_cmp added added ∙ same-key added)

pub among-kept : (keys : List (List ℕ)) (added key : List ℕ) → is_among keys key ≡ true → is_among (with_key keys added) key ≡ true
among-kept keys added key there = among-inserted keys added key ∙ ap (λ b. is_eq (key_cmp key added) || b) there ∙ go (is_eq (key_cmp key added)) where
  go : (b : Bool) → (b || true) ≡ true
  go true = refl
  go false = refl

-- a range among those that were scanned
pub scanned-among : (start : ℕ) (writes : LastWrites) (before : List ByteRange) (range : ByteRange) (rest : List ByteRange) →
    list_any (is_newer_in start writes) ((before ++ range ∷ []) ++ rest) ≡ false → is_newer_in start writes range ≡ false
scanned-among start writes [] range rest none = (any-none (is_newer_in start writes) range rest none).0
scanned-among start writes (r ∷ before) range rest none = scanned-among start writes before range rest (any-none (is_newer_in start writes) r ((before ++ range ∷ []) ++ rest) none).1
