-- A pass over batches gathers the versions of a range.
use Rattle.std.proofs.Common.{◌≡◌, refl, sym, ◌∙◌, ap, ℕ, ◌+◌, ◌<◌, ◌≤◌, Bool, true, false, cond, List, [], ◌∷◌, ◌++◌, length, get_or, take, map, Option}
use Rattle.std.specs.List.{AllByRecursion, filter, flat_map}
use Rattle.std.specs.Str.{bytes_eq}
use Rattle.std.proofs.lemmas.Bool.{false≢true}
use Rattle.std.proofs.lemmas.List.{take_more, take_all, map-append, append-nil}
use Rattle.std.proofs.lemmas.List.Concat.{flat_map-append}
use Rattle.std.proofs.lemmas.List.Elements.{filter-append}
use Rattle.std.proofs.lemmas.Slice.Eq.{bytes_eq-Decides}
use Rattle.slate_types.specs.declared.batches.Batch.{Batch}
use Rattle.slate_types.specs.declared.batches.KeyOp.{KeyOp}
use Rattle.slate_types.specs.declared.ranges.ByteRange.{ByteRange}
use Rattle.slate_reads.specs.declared.reads.Version.{Version as Held}
use Rattle.slate_rows.specs.Gathered.{AreGathered, of_key}
use Rattle.slate_types.specs.Range.{contains}
use Rattle.slate_reads.specs.Read.{Version, is_within, history, versions_in}
use Rattle.slate_reads.specs.Tails.{seen}
use Rattle.slate_reads.proofs.Tails.{versions_in-one_more}

AreGathered-same : (f g : List ℕ → List Version) (range : ByteRange) (held : List Held) → ((key : List ℕ) → f key ≡ g key) → AreGathered f range held → AreGathered g range held
AreGathered-same f g range held same all = record { within = all.within; whole = λ key in_range. all.whole key in_range ∙ same key }

within-push : (range : ByteRange) (held : List Held) (h : Held) → AllByRecursion (λ h. contains range h.key_op.now.key ≡ true) held → contains range h.key_op.now.key ≡ true →
    AllByRecursion (λ h. contains range h.key_op.now.key ≡ true) (held ++ h ∷ [])
within-push range [] h all one = (one, tt)
within-push range (x ∷ held) h all one = (all.0, within-push range held h all.1 one)

-- one more version, of a key in the range
AreGathered-push : (f : List ℕ → List Version) (range : ByteRange) (held : List Held) (h : Held) → AreGathered f range held → contains range h.key_op.now.key ≡ true →
    AreGathered (λ key. f key ++ versions_in key (record h.batch.now { ops = h.key_op.now ∷ [] })) range (held ++ h ∷ [])
AreGathered-push f range held h all one = record {
  within = within-push range held h all.within one;
  whole = λ key in_range.
      rw (filter-append (λ (x : Held). bytes_eq x.key_op.now.key key) held (h ∷ []))
      (rw (map-append seen (of_key key held) (of_key key (h ∷ [])), all.whole key in_range) (ap (λ x. f key ++ x) (last key)));
} where
  last : (key : List ℕ) → map seen (of_key key (h ∷ [])) ≡ versions_in key (record h.batch.now { ops = h.key_op.now ∷ [] })
  last key = go (bytes_eq h.key_op.now.key key) where
    go : (b : Bool) → map seen (cond b (h ∷ []) []) ≡ map {B = Version} (λ (o : KeyOp). record { op = o.op; number = h.batch.now.number; create_ts = h.batch.now.create_ts }) (cond b (h.key_op.now ∷ []) [])
    go true = refl
    go false = refl

-- one more operation, on a key that isn't in it
AreGathered-skip : (f : List ℕ → List Version) (range : ByteRange) (held : List Held) (batch : Batch) (o : KeyOp) → AreGathered f range held → contains range o.key ≡ false →
    AreGathered (λ key. f key ++ versions_in key (record batch { ops = o ∷ [] })) range held
AreGathered-skip f range held batch o all out = record {
  within = all.within;
  whole = λ key in_range. all.whole key in_range ∙ sym (rw (other key in_range) (append-nil (f key)));
} where
  other : (key : List ℕ) → contains range key ≡ true → bytes_eq o.key key ≡ false
  other key in_range = go (bytes_eq o.key key) refl where
    go : (b : Bool) → bytes_eq o.key key ≡ b → b ≡ false
    go false is = refl
    go true is = absurd (false≢true (sym out ∙ ap (contains range) ((bytes_eq-Decides o.key key).0 is) ∙ in_range))

-- ---- the steps of the loop over a batch
pub gather-in : (f : List ℕ → List Version) (range : ByteRange) (held new : List Held) (h : Held) (items : List KeyOp) (i : ℕ) →
    items ≡ h.batch.now.ops → i < length items → h.key_op.now ≡ get_or items i h.key_op.now → contains range h.key_op.now.key ≡ true → new ≡ held ++ h ∷ [] →
    AreGathered (λ key. f key ++ versions_in key (record h.batch.now { ops = take i h.batch.now.ops })) range held →
    AreGathered (λ key. f key ++ versions_in key (record h.batch.now { ops = take (i + 1) h.batch.now.ops })) range new
gather-in f range held new h items i same lt at one new-is all =
    rw new-is
    (AreGathered-same _ _ range (held ++ h ∷ []) (versions_in-one_more f h.batch.now items i h.key_op.now same lt at) (AreGathered-push _ range held h all one))

pub gather-out : (f : List ℕ → List Version) (range : ByteRange) (held : List Held) (batch : Batch) (o : KeyOp) (items : List KeyOp) (i : ℕ) →
    items ≡ batch.ops → i < length items → o ≡ get_or items i o → contains range o.key ≡ false →
    AreGathered (λ key. f key ++ versions_in key (record batch { ops = take i batch.ops })) range held →
    AreGathered (λ key. f key ++ versions_in key (record batch { ops = take (i + 1) batch.ops })) range held
gather-out f range held batch o items i same lt at out all =
    AreGathered-same _ _ range held (versions_in-one_more f batch items i o same lt at) (AreGathered-skip _ range held batch o all out)

pub gather-start : (f : List ℕ → List Version) (range : ByteRange) (held : List Held) (batch : Batch) → AreGathered f range held →
    AreGathered (λ key. f key ++ versions_in key (record batch { ops = [] })) range held
gather-start f range held batch all = AreGathered-same _ _ range held (λ key. sym (append-nil (f key))) all

pub gather-end : (f : List ℕ → List Version) (range : ByteRange) (held : List Held) (batch : Batch) (items : List KeyOp) (i : ℕ) → items ≡ batch.ops → length items ≤ i →
    AreGathered (λ key. f key ++ versions_in key (record batch { ops = take i batch.ops })) range held → AreGathered (λ key. f key ++ versions_in key batch) range held
gather-end f range held batch items i same le all =
    let whole : take i batch.ops ≡ batch.ops = rw (← same) (take_all i items le) in
    AreGathered-same _ _ range held (λ key. ap (λ ops. f key ++ versions_in key (record batch { ops = ops })) whole) all

-- ---- the steps of the loop over batches
history-more : (batches : List Batch) (bound : Option ℕ) (i : ℕ) (batch : Batch) (within : Bool) → i < length batches → batch ≡ get_or batches i batch → within ≡ is_within bound batch.number →
    (key : List ℕ) → history (take (i + 1) batches) bound key ≡ cond within (history (take i batches) bound key ++ versions_in key batch) (history (take i batches) bound key)
history-more batches bound i batch within lt at is key =
    rw (take_more batches i batch lt, ← at, filter-append, ← is) (go within) where
      front : List Batch
      front = filter (λ (b : Batch). is_within bound b.number) (take i batches)

      go : (within : Bool) → flat_map (versions_in key) (front ++ cond within (batch ∷ []) []) ≡ cond within (flat_map (versions_in key) front ++ versions_in key batch) (flat_map (versions_in key) front)
      go true = flat_map-append (versions_in key) front (batch ∷ []) ∙ ap (λ x. flat_map (versions_in key) front ++ x) (append-nil (versions_in key batch))
      go false = ap (flat_map (versions_in key)) (append-nil front)

pub gather-batch : (batches : List Batch) (bound : Option ℕ) (range : ByteRange) (i : ℕ) (batch : Batch) (held : List Held) → i < length batches → batch ≡ get_or batches i batch → true ≡ is_within bound batch.number →
    AreGathered (λ key. history (take i batches) bound key ++ versions_in key batch) range held → AreGathered (history (take (i + 1) batches) bound) range held
gather-batch batches bound range i batch held lt at is all = AreGathered-same _ _ range held (λ key. sym (history-more batches bound i batch true lt at is key)) all

pub gather-past : (batches : List Batch) (bound : Option ℕ) (range : ByteRange) (i : ℕ) (batch : Batch) (held : List Held) → i < length batches → batch ≡ get_or batches i batch → false ≡ is_within bound batch.number →
    AreGathered (history (take i batches) bound) range held → AreGathered (history (take (i + 1) batches) bound) range held
gather-past batches bound range i batch held lt at is all = AreGathered-same _ _ range held (λ key. sym (history-more batches bound i batch false lt at is key)) all
