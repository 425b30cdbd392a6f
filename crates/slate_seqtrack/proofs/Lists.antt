-- A tracker's bytes: what is read was spelled so, and what is spelled so is read, whatever follows.
use Rattle.std.proofs.Common.{◌≡◌, refl, sym, ◌∙◌, ap, subst, ℕ, ◌^◌, ◌<◌, ◌≤◌, suc, Bool, true, false, nat_lt, nat_eq, cond, ℤ, pos, negsuc, List, [], ◌∷◌, ◌++◌, length, take, drop, get_or, Result, Ok, Err, MatchResult, IfOk, inl, inr, ◌&&◌, lit<, w32, w64, arith}
use Rattle.std.specs.List.{AllByRecursion}
use Rattle.std.specs.Int.{cast_signed, cast_unsigned, to_le_bytes, from_le_bytes}
use mir.Val.{SFits, to_z, of_z}
use Rattle.std.specs.Ordering.{nat_cmp, int_cmp}
use Rattle.std.proofs.lemmas.Bool.{cases_lt, le-ltb, ltb-false, eqb-true, eq-eqb}
use Rattle.std.proofs.lemmas.Int.{ints, of_z-to_z, to_z-of_z}
use Rattle.std.proofs.lemmas.List.{append_assoc, length-append, length-map, get_or-take, length-take, take-append-drop}
use Rattle.std.proofs.lemmas.Nat.{le_bytes_4, from_le_bytes-to_le_bytes_4}
use Rattle.std.proofs.Math.ListN.{get_or-eq_default}
use Rattle.std.proofs.Math.Seq.{drop-append_seam}
use Rattle.slate_seqtrack.specs.declared.faults.TrackerFault.{TrackerFault}
use Rattle.slate_seqtrack.specs.declared.faults.TrackerFault.TheVariants.{Version, ShortLength, CountMismatch, Falls}
use Rattle.slate_seqtrack.specs.Block.{IsBlock, BeginsWithBlock}
use Rattle.slate_seqtrack.specs.Reading.{block_at, IsReadFault}
use Rattle.slate_seqtrack.specs.Writing.{IsWrittenBlock}
use Rattle.slate_seqtrack.specs.Tracker.{Tracker, numbers_of, times_of}
use Rattle.slate_seqtrack.specs.declared.faults.TrackerFault.TheVariants.{NoMemory}
use Rattle.slate_seqtrack.proofs.Pairing.{numbers-paired, times-paired}
use Rattle.slate_seqtrack.specs.Bytes.{as_signed, as_unsigned, AreTrackerBytes, rises, AreLists, BeginsWithTracker, read_then, counted_block, in_order, blocks_at, lists_behind, lists_at, tracker_of, tracker_at}
use Rattle.slate_seqtrack.proofs.Twos.{fits_i64-yes, SFits-fits}
use Rattle.slate_seqtrack.proofs.Grammar.{ok-is, AllFit, guard-found}
use Rattle.slate_seqtrack.proofs.Blocks.{block-found, block-again, block-written}
use Rattle.slate_seqtrack.proofs.Rising.{both-left, both-right}

-- ---- numbers of the same bits
signed-all : (numbers : List ℕ) → AllByRecursion (λ n. n < 2 ^ 64) numbers → AllFit (as_signed numbers)
signed-all [] all = tt
signed-all (n ∷ numbers) all = (fits_i64-yes (cast_signed w64 n) (signed-fits n all.0), signed-all numbers all.1) where
  signed-fits : (n : ℕ) → n < 2 ^ 64 → SFits w64 (cast_signed w64 n)
  signed-fits n lt = search (arith, ints)

unsigned-signed : (numbers : List ℕ) → AllByRecursion (λ n. n < 2 ^ 64) numbers → as_unsigned (as_signed numbers) ≡ numbers
unsigned-signed [] all = refl
unsigned-signed (n ∷ numbers) all = rw (of_z-to_z w64 n all.0, unsigned-signed numbers all.1) refl

signed-unsigned : (values : List ℤ) → AllFit values → as_signed (as_unsigned values) ≡ values
signed-unsigned [] fit = refl
signed-unsigned (z ∷ values) fit = rw (to_z-of_z w64 z (SFits-fits z fit.0), signed-unsigned values fit.1) refl

unsigned-all : (values : List ℤ) → AllFit values → AllByRecursion (λ n. n < 2 ^ 64) (as_unsigned values)
unsigned-all [] fit = tt
unsigned-all (z ∷ values) fit = (below z (SFits-fits z fit.0), unsigned-all values fit.1) where
  below : (z : ℤ) → SFits w64 z → cast_unsigned w64 z < 2 ^ 64
  below (pos n) fits = omega (arith, fits.sfits)
  below (negsuc n) fits = omega arith

-- ---- what is spelled is read
counted-again : (count : ℕ) (values : List ℤ) (bytes rest : List ℕ) → IsBlock values bytes → AllFit values → length values ≡ count → counted_block count (bytes ++ rest) ≡ Ok (values, rest)
counted-again count values bytes rest block fit size =
    let same : nat_eq (length values) count ≡ true = eq-eqb _ _ size in
    rw (block-again values bytes rest block fit, same, drop-append_seam bytes rest) refl

lists-again-blocks : (numbers : List ℕ) (times : List ℤ) (first second rest : List ℕ) → AreLists numbers times → IsBlock (as_signed numbers) first → IsBlock times second →
    blocks_at (length numbers) (first ++ (second ++ rest)) ≡ Ok (numbers, times)
lists-again-blocks numbers times first second rest lists one two =
    let size : length (as_signed numbers) ≡ length numbers = length-map numbers (cast_signed w64) in
    rw (
      counted-again (length numbers) (as_signed numbers) first (second ++ rest) one (signed-all numbers lists.numbers_fit) size,
      counted-again (length numbers) times second rest two lists.times_fit lists.same,
      unsigned-signed numbers lists.numbers_fit,
      lists.numbers_rise,
      lists.times_rise,
    ) refl

pub lists-again : (bytes numbers : List ℕ) (times : List ℤ) → BeginsWithTracker bytes numbers times → lists_at bytes ≡ Ok (numbers, times)
lists-again bytes numbers times begins = go begins.spelled where
  go : AreTrackerBytes IsBlock numbers times begins.front → lists_at bytes ≡ Ok (numbers, times)
  go (first, second, is, one, two) =
      let size : List ℕ = to_le_bytes w32 (length numbers) in
      let whole : bytes ≡ 1 ∷ (size ++ (first ++ (second ++ begins.rest))) =
      begins.parts ∙ ap (λ b. b ++ begins.rest) is ∙ ap (λ b. 1 ∷ b) (append_assoc size (first ++ second) begins.rest ∙ ap (λ b. size ++ b) (append_assoc first second begins.rest)) in
      let long : nat_lt (length (size ++ (first ++ (second ++ begins.rest)))) 4 ≡ false = le-ltb _ _ (omega (arith, length-append size (first ++ (second ++ begins.rest)))) in
      ap lists_at whole ∙ rw (long, from_le_bytes-to_le_bytes_4 (length numbers) begins.lists.few) (lists-again-blocks numbers times first second begins.rest begins.lists one two)

-- ---- what is read was spelled so
read_then-found : {X Y : Type 0} (r : Result X TrackerFault) (next : X → Result Y TrackerFault) (y : Y) → read_then r next ≡ Ok y → (x : X) × (r ≡ Ok x) × (next x ≡ Ok y)
read_then-found (Ok x) next y e = (x, refl, e)
read_then-found (Err fault) next y e = cc

passed : {Y : Type 0} (b : Bool) (r : Result Y TrackerFault) (fault : TrackerFault) (y : Y) → cond b (Err fault) r ≡ Ok y → (b ≡ false) × (r ≡ Ok y)
passed true r fault y e = cc
passed false r fault y e = (refl, e)

abbrev counted : ℕ → List ℕ → List ℤ × ℕ → Result (List ℤ × List ℕ) TrackerFault
counted count bytes block = cond (nat_eq (length block.0) count) (Ok (block.0, drop block.1 bytes)) (Err (CountMismatch count (length block.0)))

counted-found : (count : ℕ) (bytes rest : List ℕ) (values : List ℤ) → counted_block count bytes ≡ Ok (values, rest) →
    (size : ℕ) × BeginsWithBlock bytes values size × (drop size bytes ≡ rest) × (length values ≡ count)
counted-found count bytes rest values e =
    let block = read_then-found (block_at bytes) (counted count bytes) (values, rest) e in
    let kept = guard-found (nat_eq (length block.0.0) count) (Ok (block.0.0, drop block.0.1 bytes)) (CountMismatch count (length block.0.0)) (values, rest) block.2 in
    let same = ok-is kept.1 in
    let values_is : block.0.0 ≡ values = ap (λ (p : List ℤ × List ℕ). p.0) same in (
      block.0.1,
      block-found bytes values block.0.1 (block.1 ∙ ap (λ v. Ok (v, block.0.1)) values_is),
      ap (λ (p : List ℤ × List ℕ). p.1) same,
      ap length (sym values_is) ∙ eqb-true _ _ kept.0,
    )

abbrev behind_numbers : ℕ → List ℤ × List ℕ → Result (List ℕ × List ℤ) TrackerFault
behind_numbers count numbers = read_then (counted_block count numbers.1) (λ times. in_order (as_unsigned numbers.0) times.0)

-- the blocks of two lists, one after the other, and what follows
record HasBlocks (bytes numbers : List ℕ) (times : List ℤ) (count : ℕ) : Type 0 where
  first : List ℕ
  second : List ℕ
  rest : List ℕ
  parts : bytes ≡ first ++ (second ++ rest)
  one : IsBlock (as_signed numbers) first
  two : IsBlock times second
  size : length numbers ≡ count
  lists : AreLists numbers times

blocks-found : (count : ℕ) (bytes numbers : List ℕ) (times : List ℤ) → blocks_at count bytes ≡ Ok (numbers, times) → HasBlocks bytes numbers times count
blocks-found count bytes numbers times e =
    let head = read_then-found (counted_block count bytes) (behind_numbers count) (numbers, times) e in
    let tail = read_then-found (counted_block count head.0.1) (λ t. in_order (as_unsigned head.0.0) t.0) (numbers, times) head.2 in
    let kept = guard-found (rises nat_cmp (as_unsigned head.0.0) && rises int_cmp tail.0.0) (Ok (as_unsigned head.0.0, tail.0.0)) Falls (numbers, times) tail.2 in
    let same = ok-is kept.1 in
    let numbers_is : as_unsigned head.0.0 ≡ numbers = ap (λ (p : List ℕ × List ℤ). p.0) same in
    let times_is : tail.0.0 ≡ times = ap (λ (p : List ℕ × List ℤ). p.1) same in
    let first = counted-found count bytes head.0.1 head.0.0 head.1 in
    let second = counted-found count head.0.1 tail.0.1 tail.0.0 tail.1 in
    let raw : as_signed numbers ≡ head.0.0 = ap as_signed (sym numbers_is) ∙ signed-unsigned head.0.0 first.1.fit in
    let size : length numbers ≡ count = ap length (sym numbers_is) ∙ length-map head.0.0 (cast_unsigned w64) ∙ first.3 in
    record {
      first = take first.0 bytes;
      second = take second.0 head.0.1;
      rest = drop second.0 head.0.1;
      parts = sym (take-append-drop first.0 bytes) ∙ ap (λ b. take first.0 bytes ++ b) (first.2 ∙ sym (take-append-drop second.0 head.0.1));
      one = subst (λ values. IsBlock values (take first.0 bytes)) (sym raw) first.1.block;
      two = subst (λ values. IsBlock values (take second.0 head.0.1)) times_is second.1.block;
      size = size;
      lists = record {
        same = ap length (sym times_is) ∙ second.3 ∙ sym size;
        few = omega (arith, size, first.3, first.1.few);
        numbers_fit = subst (λ ns. AllByRecursion (λ n. n < 2 ^ 64) ns) numbers_is (unsigned-all head.0.0 first.1.fit);
        times_fit = subst AllFit times_is second.1.fit;
        numbers_rise = ap (rises nat_cmp) (sym numbers_is) ∙ both-left _ _ kept.0;
        times_rise = ap (rises int_cmp) (sym times_is) ∙ both-right _ _ kept.0;
      };
    }

pub lists-found : (bytes numbers : List ℕ) (times : List ℤ) → ((i : ℕ) → get_or bytes i 0 < 256) → lists_at bytes ≡ Ok (numbers, times) → BeginsWithTracker bytes numbers times
lists-found [] numbers times fit e = cc
lists-found (version ∷ bytes) numbers times fit e =
    let first = guard-found (nat_eq version 1) (lists_behind bytes) (Version version) (numbers, times) e in
    let long = passed (nat_lt (length bytes) 4) (blocks_at (from_le_bytes w32 (take 4 bytes)) (drop 4 bytes)) ShortLength (numbers, times) first.1 in
    let blocks = blocks-found (from_le_bytes w32 (take 4 bytes)) (drop 4 bytes) numbers times long.1 in
    let four : 4 ≤ length bytes = ltb-false _ _ long.0 in
    let size : to_le_bytes w32 (length numbers) ≡ take 4 bytes = le_bytes_4 (take 4 bytes) (length numbers) (omega (arith, length-take 4 bytes)) (fits-take bytes (λ i. fit (suc i))) blocks.size in
    let one : version ≡ 1 = eqb-true _ _ first.0 in
    record {
      lists = blocks.lists;
      front = 1 ∷ (take 4 bytes ++ (blocks.first ++ blocks.second));
      rest = blocks.rest;
      parts = ap (λ v. v ∷ bytes) one ∙ ap (λ b. 1 ∷ b)
          (sym (take-append-drop 4 bytes) ∙ ap (λ b. take 4 bytes ++ b) (blocks.parts ∙ sym (append_assoc blocks.first blocks.second blocks.rest)) ∙ sym (append_assoc (take 4 bytes) (blocks.first ++ blocks.second) blocks.rest));
      spelled = (blocks.first, blocks.second, ap (λ s. 1 ∷ (s ++ (blocks.first ++ blocks.second))) (sym size), blocks.one, blocks.two);
    }
  where
    fits-take : (bytes : List ℕ) → ((i : ℕ) → get_or bytes i 0 < 256) → (i : ℕ) → get_or (take 4 bytes) i 0 < 256
    fits-take bytes fit i = elim (cases_lt i 4) [
      | inl lt ↦ rw (get_or-take 4 bytes i 0 lt) (fit i)
      | inr le ↦ let past : length (take 4 bytes) ≤ i = omega (arith, length-take 4 bytes) in rw (get_or-eq_default (take 4 bytes) 0 past) (lit< tt)
    ]

-- ---- what a call that reads a tracker answers
lists-of : (numbers : List ℕ) (times : List ℤ) → length times ≡ length numbers → (numbers_of (tracker_of numbers times) ≡ numbers) × (times_of (tracker_of numbers times) ≡ times)
lists-of numbers times same = (numbers-paired numbers times same, times-paired numbers times same)

tracker-found : (bytes : List ℕ) (tracker : Tracker) → tracker_at bytes ≡ Ok tracker → (numbers : List ℕ) × (times : List ℤ) × (lists_at bytes ≡ Ok (numbers, times)) × (tracker_of numbers times ≡ tracker)
tracker-found bytes tracker e =
    let lists = read_then-found (lists_at bytes) (λ l. Ok (tracker_of l.0 l.1)) tracker e in
    (lists.0.0, lists.0.1, lists.1, ok-is lists.2)

pub answer-found : (r : Result Tracker TrackerFault) (bytes : List ℕ) → ((i : ℕ) → get_or bytes i 0 < 256) → MatchResult r (λ tracker. tracker_at bytes ≡ Ok tracker) (IsReadFault (tracker_at bytes)) →
    IfOk r (λ tracker. BeginsWithTracker bytes (numbers_of tracker) (times_of tracker))
answer-found (Ok tracker) bytes fit e =
    let found = tracker-found bytes tracker e in
    let begins = lists-found bytes found.0 found.1 fit found.2 in
    let both_are = lists-of found.0 found.1 begins.lists.same in
    subst (λ t. BeginsWithTracker bytes (numbers_of t) (times_of t)) found.3 (rw (both_are.0, both_are.1) begins)
answer-found (Err fault) bytes fit e = tt

pub answer-only : (r : Result Tracker TrackerFault) (bytes : List ℕ) → MatchResult r (λ tracker. tracker_at bytes ≡ Ok tracker) (IsReadFault (tracker_at bytes)) →
    (numbers : List ℕ) (times : List ℤ) → BeginsWithTracker bytes numbers times → MatchResult r (λ tracker. (numbers_of tracker ≡ numbers) × (times_of tracker ≡ times)) (λ fault. fault ≡ NoMemory)
answer-only (Ok tracker) bytes e numbers times begins =
    let read : tracker_at bytes ≡ Ok (tracker_of numbers times) = ap (λ l. read_then l (λ lists. Ok (tracker_of lists.0 lists.1))) (lists-again bytes numbers times begins) in
    let same : tracker_of numbers times ≡ tracker = ok-is (sym read ∙ e) in
    let both_are = lists-of numbers times begins.lists.same in
    (ap numbers_of (sym same) ∙ both_are.0, ap times_of (sym same) ∙ both_are.1)
answer-only (Err fault) bytes (inl e) numbers times begins =
    let read : tracker_at bytes ≡ Ok (tracker_of numbers times) = ap (λ l. read_then l (λ lists. Ok (tracker_of lists.0 lists.1))) (lists-again bytes numbers times begins) in
    let no = sym read ∙ e in cc
answer-only (Err fault) bytes (inr e) numbers times begins = e

-- ---- the round trip
pub written-again : (numbers : List ℕ) (times : List ℤ) (bytes rest : List ℕ) → AreLists numbers times → AreTrackerBytes IsWrittenBlock numbers times bytes → lists_at (bytes ++ rest) ≡ Ok (numbers, times)
written-again numbers times bytes rest lists (first, second, is, one, two) =
    lists-again (bytes ++ rest) numbers times (record {
      lists = lists;
      front = bytes;
      rest = rest;
      parts = refl;
      spelled = (first, second, is, block-written (as_signed numbers) first one, block-written times second two);
    })
