-- A walk over tables, newest first, finds the tail of a key.
use Rattle.std.proofs.Common.{◌≡◌, refl, sym, ◌∙◌, ap, subst, ℕ, Bool, true, false, cond, List, [], ◌∷◌, ◌++◌, get_or, filter, map, reverse, Option}
use Rattle.std.specs.List.{flat_map}
use Rattle.std.specs.Str.{bytes_eq}
use Rattle.std.proofs.lemmas.List.{append-nil, append_assoc, reverse-append, map_push, map-append}
use Rattle.std.proofs.lemmas.List.Concat.{flat_map-append}
use Rattle.std.proofs.lemmas.List.Elements.{filter-append}
use Rattle.slate_types.specs.declared.batches.Batch.{Batch}
use Rattle.slate_types.specs.declared.batches.KeyOp.{KeyOp}
use Rattle.slate_reads.specs.declared.reads.Version.{Version as Held}
use Rattle.slate_reads.specs.declared.tables.Entry.{Entry}
use Rattle.slate_reads.specs.Read.{Version, is_base, is_within, since_base, versions_in, history}
use Rattle.slate_reads.specs.Tails.{seen, IsTail, IsEnd, IsBack}
use Rattle.slate_reads.proofs.Tails.{since_base-base, since_base-merge}
use Rattle.slate_reads.specs.Run.{Run, Stands}
use Rattle.slate_reads.proofs.Lists.{all-append, all-reverse}
use Rattle.slate_reads.proofs.Index.{Found, Stands-same}

pub history-append : (earlier later : List Batch) (bound : Option ℕ) (key : List ℕ) → history (earlier ++ later) bound key ≡ history earlier bound key ++ history later bound key
history-append earlier later bound key =
    ap (flat_map (versions_in key)) (filter-append (λ (b : Batch). is_within bound b.number) earlier later)
    ∙ flat_map-append (versions_in key) (filter (λ (b : Batch). is_within bound b.number) earlier) (filter (λ (b : Batch). is_within bound b.number) later)

-- one version before those held
pub IsEnd-step : (key : List ℕ) (whole rest : List Version) (held new : List Held) (next : Held) (base : Bool) → base ≡ is_base next.key_op.now.op → next.key_op.now.key ≡ key →
    new ≡ held ++ next ∷ [] → IsEnd key whole (rest ++ seen next ∷ []) false held → IsEnd key whole rest base new
IsEnd-step key whole rest held new next base is same new-is end = record {
  tail = rw (new-is, map_push seen held next, reverse-append (map seen held) (seen next ∷ [])) (go base is);
  same_key = rw new-is (all-append (λ (h : Held). h.key_op.now.key ≡ key) held (next ∷ []) end.same_key (same, tt));
} where
  go : (base : Bool) → base ≡ is_base next.key_op.now.op → cond base [] (since_base rest) ++ (seen next ∷ reverse (map seen held)) ≡ whole
  go true is = ap (λ vs. vs ++ reverse (map seen held)) (sym (since_base-base rest (seen next) (sym is))) ∙ end.tail
  go false is = sym (append_assoc (since_base rest) (seen next ∷ []) (reverse (map seen held))) ∙ ap (λ vs. vs ++ reverse (map seen held)) (sym (since_base-merge rest (seen next) (sym is))) ∙ end.tail

-- ---- the walk over a table's versions, newest first
-- the versions at a bound
abbrev pub within : Option ℕ → List Version → List Version
within bound versions = filter (λ (v : Version). is_within bound v.number) versions

within-versions_in : (bound : Option ℕ) (key : List ℕ) (batch : Batch) → within bound (versions_in key batch) ≡ cond (is_within bound batch.number) (versions_in key batch) []
within-versions_in bound key batch = go (filter (λ (o : KeyOp). bytes_eq o.key key) batch.ops) where
  put : (b : Bool) (v : Version) (vs : List Version) → cond b (v ∷ cond b vs []) (cond b vs []) ≡ cond b (v ∷ vs) []
  put true v vs = refl
  put false v vs = refl

  none : (b : Bool) → ◌≡◌ {A = List Version} [] (cond b [] [])
  none true = refl
  none false = refl

  go : (ops : List KeyOp) → within bound (map {B = Version} (λ (o : KeyOp). record { op = o.op; number = batch.number; create_ts = batch.create_ts }) ops)
      ≡ cond (is_within bound batch.number) (map {B = Version} (λ (o : KeyOp). record { op = o.op; number = batch.number; create_ts = batch.create_ts }) ops) []
  go [] = none (is_within bound batch.number)
  go (o ∷ ops) =
      let all : List Version = map {B = Version} (λ (o : KeyOp). record { op = o.op; number = batch.number; create_ts = batch.create_ts }) ops in
      ap (λ x. cond (is_within bound batch.number) (record { op = o.op; number = batch.number; create_ts = batch.create_ts } ∷ x) x) (go ops)
      ∙ put (is_within bound batch.number) (record { op = o.op; number = batch.number; create_ts = batch.create_ts }) all

pub within-all : (bound : Option ℕ) (key : List ℕ) (batches : List Batch) → within bound (flat_map (versions_in key) batches) ≡ history batches bound key
within-all bound key [] = refl
within-all bound key (batch ∷ batches) =
    filter-append (λ (v : Version). is_within bound v.number) (versions_in key batch) (flat_map (versions_in key) batches)
    ∙ rw (within-versions_in bound key batch, within-all bound key batches) (go (is_within bound batch.number)) where
      go : (b : Bool) → cond b (versions_in key batch) [] ++ history batches bound key ≡ flat_map (versions_in key) (cond b (batch ∷ filter (λ (b : Batch). is_within bound b.number) batches) (filter (λ (b : Batch). is_within bound b.number) batches))
      go true = refl
      go false = refl

-- the first of the versions left
walked : (bound : Option ℕ) (rest left older : List Version) (v : Version) (seen_it : Bool) → left ≡ v ∷ older → seen_it ≡ is_within bound v.number →
    rest ++ within bound (reverse left) ≡ (rest ++ within bound (reverse older)) ++ cond seen_it (v ∷ []) []
walked bound rest left older v seen_it left-is is =
    rw (left-is, reverse-append (v ∷ []) older, filter-append (λ (v : Version). is_within bound v.number) (reverse older) (v ∷ []), ← is)
    (sym (append_assoc rest (within bound (reverse older)) (cond seen_it (v ∷ []) [])))

-- a version within the bound, as the code reads it by its entry
pub IsEnd-walk : (batches : Run Batch) (entries : Run Entry) (key : List ℕ) (place : ℕ) (entry : Entry) (left : List Version) (f : Found batches entries key place entry left)
    (bound : Option ℕ) (held new : List Held) (h : Held) (ops : List KeyOp) (base : Bool) → Stands batches entry.batch h.batch.now →
    ops ≡ h.batch.now.ops → h.key_op.now ≡ get_or ops entry.op h.key_op.now → true ≡ is_within bound h.batch.now.number → base ≡ is_base h.key_op.now.op → new ≡ held ++ h ∷ [] →
    (whole rest : List Version) → IsEnd key whole (rest ++ within bound (reverse left)) false held → IsEnd key whole (rest ++ within bound (reverse f.older)) base new
IsEnd-walk batches entries key place entry left f bound held new h ops base batch-is ops-are op-is is base-is new-is whole rest end =
    let same_batch : h.batch.now ≡ f.batch = Stands-same batches entry.batch h.batch.now f.batch batch-is f.batch_at in
    let same_op : h.key_op.now ≡ f.key_op = op-is ∙ ap (λ os. get_or os entry.op h.key_op.now) (ops-are ∙ ap (λ b. b.ops) same_batch) ∙ f.op_at.is h.key_op.now in
    let left-is : left ≡ seen h ∷ f.older = rw (same_batch, same_op) f.left_is in
    IsEnd-step key whole (rest ++ within bound (reverse f.older)) held new h base base-is (ap (λ o. o.key) same_op ∙ f.key_is) new-is
    (subst (λ vs. IsEnd key whole vs false held) (walked bound rest left f.older (seen h) true left-is is) end)

-- a version above the bound
pub IsEnd-skip : (batches : Run Batch) (entries : Run Entry) (key : List ℕ) (place : ℕ) (entry : Entry) (left : List Version) (f : Found batches entries key place entry left)
    (bound : Option ℕ) (held : List Held) (batch : Batch) → Stands batches entry.batch batch → false ≡ is_within bound batch.number →
    (whole rest : List Version) → IsEnd key whole (rest ++ within bound (reverse left)) false held → IsEnd key whole (rest ++ within bound (reverse f.older)) false held
IsEnd-skip batches entries key place entry left f bound held batch batch-is is whole rest end =
    let same_batch : batch ≡ f.batch = Stands-same batches entry.batch batch f.batch batch-is f.batch_at in
    let version : Version = record { op = f.key_op.op; number = f.batch.number; create_ts = f.batch.create_ts } in
    subst (λ vs. IsEnd key whole vs false held)
    (walked bound rest left f.older version false f.left_is (is ∙ ap (λ b. is_within bound b.number) same_batch) ∙ append-nil (rest ++ within bound (reverse f.older))) end

-- ---- the walk over all of them
IsBack-left : (key : List ℕ) (bound : Option ℕ) (whole rest left older : List Version) (v : Version) (seen_it : Bool) (held : List Held) → left ≡ v ∷ older → seen_it ≡ is_within bound v.number →
    IsBack key whole (rest ++ within bound (reverse left)) held → IsBack key whole ((rest ++ within bound (reverse older)) ++ cond seen_it (v ∷ []) []) held
IsBack-left key bound whole rest left older v seen_it held left-is is back = subst (λ vs. IsBack key whole vs held) (walked bound rest left older v seen_it left-is is) back

pub IsBack-walk : (batches : Run Batch) (entries : Run Entry) (key : List ℕ) (place : ℕ) (entry : Entry) (left : List Version) (f : Found batches entries key place entry left)
    (bound : Option ℕ) (held new : List Held) (h : Held) (ops : List KeyOp) → Stands batches entry.batch h.batch.now →
    ops ≡ h.batch.now.ops → h.key_op.now ≡ get_or ops entry.op h.key_op.now → true ≡ is_within bound h.batch.now.number → new ≡ held ++ h ∷ [] →
    (whole rest : List Version) → IsBack key whole (rest ++ within bound (reverse left)) held → IsBack key whole (rest ++ within bound (reverse f.older)) new
IsBack-walk batches entries key place entry left f bound held new h ops batch-is ops-are op-is is new-is whole rest back =
    let same_batch : h.batch.now ≡ f.batch = Stands-same batches entry.batch h.batch.now f.batch batch-is f.batch_at in
    let same_op : h.key_op.now ≡ f.key_op = op-is ∙ ap (λ os. get_or os entry.op h.key_op.now) (ops-are ∙ ap (λ b. b.ops) same_batch) ∙ f.op_at.is h.key_op.now in
    let left-is : left ≡ seen h ∷ f.older = rw (same_batch, same_op) f.left_is in
    let before = IsBack-left key bound whole rest left f.older (seen h) true held left-is is back in
    record {
      joined = rw (new-is, map_push seen held h, reverse-append (map seen held) (seen h ∷ [])) (sym (append_assoc (rest ++ within bound (reverse f.older)) (seen h ∷ []) (reverse (map seen held))) ∙ before.joined);
      same_key = rw new-is (all-append (λ (h : Held). h.key_op.now.key ≡ key) held (h ∷ []) back.same_key (ap (λ o. o.key) same_op ∙ f.key_is, tt));
    }

pub IsBack-skip : (batches : Run Batch) (entries : Run Entry) (key : List ℕ) (place : ℕ) (entry : Entry) (left : List Version) (f : Found batches entries key place entry left)
    (bound : Option ℕ) (held : List Held) (batch : Batch) → Stands batches entry.batch batch → false ≡ is_within bound batch.number →
    (whole rest : List Version) → IsBack key whole (rest ++ within bound (reverse left)) held → IsBack key whole (rest ++ within bound (reverse f.older)) held
IsBack-skip batches entries key place entry left f bound held batch batch-is is whole rest back =
    let same_batch : batch ≡ f.batch = Stands-same batches entry.batch batch f.batch batch-is f.batch_at in
    let version : Version = record { op = f.key_op.op; number = f.batch.number; create_ts = f.batch.create_ts } in
    subst (λ vs. IsBack key whole vs held) (append-nil (rest ++ within bound (reverse f.older)))
    (IsBack-left key bound whole rest left f.older version false held f.left_is (is ∙ ap (λ b. is_within bound b.number) same_batch) back)

-- where a put or a delete has ended the search, what goes before makes no difference
pub IsEnd-ended : (key : List ℕ) (whole rest other : List Version) (held : List Held) → IsEnd key whole rest true held → IsEnd key whole other true held
IsEnd-ended key whole rest other held end = record { tail = end.tail; same_key = end.same_key }

-- ---- the walk over tables, newest first
pub tables-last : {T : Type 0} (batches : T → List Batch) (tables earlier : List T) (table : T) (bound : Option ℕ) (key : List ℕ) (rest : List Version) → tables ≡ earlier ++ table ∷ [] →
    rest ++ history (flat_map batches tables) bound key ≡ (rest ++ history (flat_map batches earlier) bound key) ++ history (batches table) bound key
tables-last batches tables earlier table bound key rest is =
    rw (is, flat_map-append batches earlier (table ∷ []), append-nil (batches table))
    (ap (λ vs. rest ++ vs) (history-append (flat_map batches earlier) (batches table) bound key) ∙ sym (append_assoc rest _ (history (batches table) bound key)))

-- ---- the whole tail
map-reverse : (held : List Held) → map seen (reverse held) ≡ reverse (map seen held)
map-reverse [] = refl
map-reverse (h ∷ held) =
    ap (map seen) (reverse-append (h ∷ []) held) ∙ map_push seen (reverse held) h ∙ ap (λ vs. vs ++ seen h ∷ []) (map-reverse held)
    ∙ sym (reverse-append (seen h ∷ []) (map seen held))

-- the tail before the versions of the tables, and these
pub IsTail-whole : (key : List ℕ) (bound : Option ℕ) (older : List Batch) (tables : List Batch) (ended : Bool) (newest reversed before all : List Held) →
    ((whole rest : List Version) → IsEnd key whole (rest ++ history tables bound key) false [] → IsEnd key whole rest ended newest) →
    IsTail key (cond ended [] (history older bound key)) before → reversed ≡ reverse newest → all ≡ before ++ reversed →
    IsTail key (history (older ++ tables) bound key) all
IsTail-whole key bound older tables ended newest reversed before all walk tail reversed-is all-is = record {
  tail = rw (all-is, reversed-is, map-append seen before (reverse newest), map-reverse newest, tail.tail, history-append older tables bound key)
      (ap (λ vs. vs ++ reverse (map seen newest)) (shut ended) ∙ end.tail);
  same_key = rw (all-is, reversed-is) (all-append (λ (h : Held). h.key_op.now.key ≡ key) before (reverse newest) tail.same_key (all-reverse (λ (h : Held). h.key_op.now.key ≡ key) newest end.same_key));
} where
  whole : List Version
  whole = history older bound key ++ history tables bound key

  end : IsEnd key (since_base whole) (history older bound key) ended newest
  end = walk (since_base whole) (history older bound key) (record { tail = append-nil (since_base whole); same_key = tt })

  shut : (ended : Bool) → since_base (cond ended [] (history older bound key)) ≡ cond ended [] (since_base (history older bound key))
  shut true = refl
  shut false = refl
