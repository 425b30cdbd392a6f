-- What log files of sound objects bring a reader to that may lag.
use Rattle.std.proofs.Common.{◌≡◌, ℕ, ◌+◌, ◌-◌, ◌*◌, ◌<◌, ◌≤◌, length, List, [], ◌∷◌, ◌++◌, inl, inr, Bool, true, false, cond, Some, refl, sym, subst, ap, ◌∙◌, arith, length-append}
use Rattle.std.proofs.lemmas.Bool.{cases_lt, eqb-true, le-ltb, lt-ltb}
use Rattle.std.proofs.lemmas.List.Elements.{All-cons, All-filter, All-head, All-nil, All-tail}
use Rattle.std.proofs.lemmas.List.{append-nil}
use Rattle.std.specs.List.{All}
use Rattle.std.specs.Prelude.{◌==◌, nat_lt}
use Rattle.slate_types.specs.Line.{AreNumberedFrom, batches_above, end}
use Rattle.slate_types.specs.declared.batches.Batch.{Batch}
use Rattle.slate_store.proofs.Logs.{between-next, between-parts}
use Rattle.slate_store.specs.Content.{IsSound, content}
use Rattle.slate_store.specs.Logs.{batches_between}
use Rattle.slate_store.specs.Objects.{Objects, last_log, latest_manifest, log_at}
use Rattle.slate_store.specs.declared.objects.VersionedManifest.{VersionedManifest}
use Rattle.slate_store.specs.declared.reader_modes.DbReaderMode.TheVariants.{FollowLatest}
use Rattle.slate_replay.specs.Newest.{HasNewest, HaveNothingNew}
use Rattle.slate_model.proofs.Logging.{all-seen}
use Rattle.slate_model.proofs.Reduced.{some-same}
use Rattle.slate_model.proofs.Reopened.{numbered_rest}
use Rattle.slate_model.specs.Begun.{greatest_number}
use Rattle.slate_follow.specs.Lagging.{MayWait, MustRead, readings}
use Rattle.slate_follow.proofs.Above.{above-append, none-between}
use Rattle.slate_follow.proofs.Later.{later-ends, later-numbered, later-whole}

-- ---- how often log files are read
-- more of them are read more often
pub readings-more : (lag m n : ℕ) → m ≤ n → readings lag m ≤ readings lag n
readings-more lag m n low = by (lag == 0) where
  by : (b : Bool) → cond b m (2 * m) ≤ cond b n (2 * n)
  by true = low
  by false = omega (arith, low)

-- each once at least, and twice where the reader may lag
pub readings-once : (lag n : ℕ) → n ≤ readings lag n
readings-once lag n = by (lag == 0) where
  by : (b : Bool) → n ≤ cond b n (2 * n)
  by true = omega arith
  by false = omega arith

pub readings-twice : (lag n : ℕ) → 0 < lag → readings lag n ≡ 2 * n
readings-twice lag n may = by (lag == 0) refl where
  by : (b : Bool) → (lag == 0) ≡ b → cond b n (2 * n) ≡ 2 * n
  by true none = (let zero = eqb-true lag 0 none in absurd (omega (arith, zero, may)))
  by false some = refl

-- ---- the greatest number of batches
pub all-within : (bs : List Batch) → All (λ b. b.number ≤ greatest_number bs) bs
all-within [] = All-nil (λ (b : Batch). b.number ≤ 0)
all-within (b ∷ bs) =
    All-cons (λ (x : Batch). x.number ≤ greatest_number (b ∷ bs)) b bs (omega arith) (λ k d less. let low = all-within bs k d less in omega (arith, low))

pub greatest-within : (m : ℕ) (bs : List Batch) → All (λ b. b.number ≤ m) bs → greatest_number bs ≤ m
greatest-within m [] all = omega arith
greatest-within m (b ∷ bs) all =
    let here = All-head (λ (x : Batch). x.number ≤ m) b bs all in
    let rest = greatest-within m bs (All-tail (λ (x : Batch). x.number ≤ m) b bs all) in
    omega (arith, here, rest)

-- batches that are numbered one after another end at the number of the last one
numbered-last : (n m : ℕ) (y : Batch) (ys : List Batch) → AreNumberedFrom n (y ∷ ys) → All (λ b. b.number ≤ m) (y ∷ ys) → n + length (y ∷ ys) ≤ m
numbered-last n m y [] numbered all = let here = All-head (λ (x : Batch). x.number ≤ m) y [] all in let first = numbered.0 in omega (arith, here, first)
numbered-last n m y (z ∷ zs) numbered all = let rest = numbered-last (n + 1) m z zs numbered.1 (All-tail (λ (x : Batch). x.number ≤ m) y (z ∷ zs) all) in omega (arith, rest)

-- no batch of a list with a first one
some-none : {b : Batch} {bs : List Batch} → b ∷ bs ≡ [] → ⊥
some-none is = cc

none-over : (n : ℕ) (bs : List Batch) → batches_above n bs ≡ [] → All (λ b. b.number ≤ n) bs
none-over n [] is = All-nil (λ (b : Batch). b.number ≤ n)
none-over n (b ∷ bs) is =
    elim (cases_lt n b.number) [
      | inl over ↦ let yes = lt-ltb n b.number over in absurd (some-none (subst (λ t. cond t (b ∷ batches_above n bs) (batches_above n bs) ≡ []) yes is))
      | inr low ↦
          let not = le-ltb n b.number low in
          All-cons (λ (x : Batch). x.number ≤ n) b bs low (none-over n bs (subst (λ t. cond t (b ∷ batches_above n bs) (batches_above n bs) ≡ []) not is))
    ]

all-over : (n m : ℕ) (bs : List Batch) → All (λ b. b.number ≤ m) bs → All (λ b. b.number ≤ m) (batches_above n bs)
all-over n m bs all = All-filter (λ (x : Batch). nat_lt n x.number) (λ (x : Batch). x.number ≤ m) bs all

none-new : (number from last : ℕ) (o : Objects) → HaveNothingNew number from last o → (id : ℕ) (bs : List Batch) → from < id → id ≤ last → log_at id o ≡ Some bs → All (λ b. b.number ≤ number) bs
none-new number from last o nothing id bs over within stored =
    let there = nothing id over within in
    let same : there.0 ≡ bs = some-same there.0 bs (sym there.1 ∙ stored) in
    let low = ap greatest_number (sym same) in
    λ k d less. let here = all-within bs k d less in let most = there.2 in omega (arith, here, low, most)

module _ (o : Objects) (view : VersionedManifest) (sound : IsSound o) (is : latest_manifest o ≡ Some view) (from n : ℕ)
    (above : view.manifest.replay_after_wal_id ≤ from) (within : from ≤ last_log view.manifest.replay_after_wal_id o) (tabled : view.manifest.last_l0_seq ≤ n) (ended : n ≤ end (content o))
    (low : (id : ℕ) (bs : List Batch) → view.manifest.replay_after_wal_id < id → id ≤ from → log_at id o ≡ Some bs → All (λ b. b.number ≤ n) bs) (last_is : last_log from o ≡ last_log view.manifest.replay_after_wal_id o) where
  abbrev last : ℕ
  last = last_log view.manifest.replay_after_wal_id o

  abbrev later : List Batch
  later = batches_above n (batches_between from last o)

  numbered : AreNumberedFrom n later
  numbered = later-numbered o view sound is from n above within tabled ended low

  ends : n + length later ≡ end (content o)
  ends = later-ends o view sound is from n above within tabled ended low

  nothing-ends : HaveNothingNew n from last o → end (content o) ≤ n
  nothing-ends nothing =
      let none = none-between n from last o (none-new n from last o nothing) in
      let count : length later ≡ 0 = ap length none in
      let e = ends in omega (arith, e, count)

  -- where the newest log file with a batch above the number has this as its greatest, all that is stored ends there
  newest-ends : (newest : ℕ) → HasNewest n from last o newest → end (content o) ≤ newest
  newest-ends newest has =
      let id = has.id in
      let over = has.over in
      let high = has.within in
      let next : id - 1 + 1 ≡ id = omega (arith, over) in
      let before = batches_between from (id - 1) o in
      let upto : batches_between from id o ≡ before ++ has.batches =
      ap (λ k. batches_between from k o) (sym next) ∙ between-next from (id - 1) o has.batches (omega (arith, over)) (ap (λ k. log_at k o) next ∙ has.stored) in
      let rest = none-between n id last o (none-new n id last o has.later) in
      let parts : later ≡ batches_above n before ++ batches_above n has.batches =
      ap (batches_above n) (between-parts from id last o (omega (arith, over)) high)
      ∙ (above-append n (batches_between from id o) (batches_between id last o)
      ∙ (ap (λ xs. batches_above n (batches_between from id o) ++ xs) rest
      ∙ (append-nil (batches_above n (batches_between from id o))
      ∙ (ap (batches_above n) upto ∙ above-append n before has.batches)))) in
      let greatest_is = has.greatest_is in
      let most : All (λ b. b.number ≤ newest) (batches_above n has.batches) =
      all-over n newest has.batches (λ k d less. let low = all-within has.batches k d less in omega (arith, low, greatest_is)) in
      by (batches_above n has.batches) refl parts most
    where
      by : (new : List Batch) → batches_above n has.batches ≡ new → later ≡ batches_above n (batches_between from (has.id - 1) o) ++ batches_above n has.batches → All (λ b. b.number ≤ newest) (batches_above n has.batches) → end (content o) ≤ newest
      by [] none parts most =
          let least = greatest-within n has.batches (none-over n has.batches none) in
          let up = has.new in let is = has.greatest_is in absurd (omega (arith, least, up, is))
      by (y ∷ ys) some parts most =
          let xs = batches_above n (batches_between from (has.id - 1) o) in
          let whole : later ≡ xs ++ y ∷ ys = parts ∙ ap (λ zs. xs ++ zs) some in
          let tail = numbered_rest n xs (y ∷ ys) (subst (AreNumberedFrom n) whole numbered) in
          let high = numbered-last (n + length xs) newest y ys tail (subst (All (λ (b : Batch). b.number ≤ newest)) some most) in
          let count : length later ≡ length xs + length (y ∷ ys) = ap length whole ∙ length-append xs (y ∷ ys) in
          let e = ends in omega (arith, high, count, e)

  -- so it is near where the reader may wait
  pub waits-near : (lag : ℕ) → MayWait lag n from o → end (content o) ≤ n + lag
  waits-near lag (inl nothing) = let e = nothing-ends (subst (λ k. HaveNothingNew n from k o) last_is nothing) in omega (arith, e)
  waits-near lag (inr (newest, has, few)) = let e = newest-ends newest (subst (λ k. HasNewest n from k o newest) last_is has) in omega (arith, e, few)

  -- and further where it must read
  pub reads-far : (lag : ℕ) → MustRead lag n from o → n + lag < end (content o)
  reads-far lag (inl (newest, has, far)) =
      let seen = all-seen o view sound is FollowLatest false 0 in
      let over = has.over in
      let high : has.id ≤ last = (let h = has.within in omega (arith, h, last_is)) in
      let most = greatest-within (end (content o)) has.batches (seen.logs view has.id has.batches is (omega (arith, above, over)) high has.stored) in
      let is_greatest = has.greatest_is in
      omega (arith, most, is_greatest, far)
  reads-far lag (inr (id, over, high, gone)) = absurd ((later-whole o view sound is from n above within tabled ended low).stored id over (omega (arith, high, last_is)) gone)
