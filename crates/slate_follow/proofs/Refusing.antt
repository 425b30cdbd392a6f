-- What openings and polls answer of keys without a segment.
use Rattle.std.proofs.Common.{◌≡◌, ◌≤◌, ℕ, inl, inr, Bool, true, false, List, Option, Some, None, Result, Err, refl, ap, sym, ◌∙◌, subst, arith}
use Rattle.std.specs.Option.{IfSome}
use Rattle.std.specs.Prelude.{IsSome}
use Rattle.slate_types.specs.Counts.{HasRisen}
use Rattle.slate_types.specs.declared.batches.Batch.{Batch}
use Rattle.slate_types.specs.Line.{Line}
use Rattle.slate_types.specs.declared.store_errors.StoreFault.{StoreFault}
use Rattle.slate_types.specs.declared.store_errors.StoreFault.TheVariants.{NotFound, Unavailable}
use Rattle.slate_store.specs.declared.objects.VersionedManifest.{VersionedManifest}
use Rattle.slate_store.specs.Objects.{Objects, latest_manifest}
use Rattle.slate_store.specs.declared.reader_modes.DbReaderMode.{DbReaderMode}
use Rattle.slate_errors.specs.declared.errors.SlateError.{SlateError}
use Rattle.slate_errors.specs.declared.errors.SlateError.TheVariants as errors
use Rattle.slate_model.specs.Follow.{AreFollowed, FollowCause, LacksSegment, ReplayRefuses}
use Rattle.slate_model.specs.Followed.{RefusesLatest, follow_refusal, last_read}
use Rattle.slate_model.specs.Known.{CountsFaults, FaultsRise}
use Rattle.slate_model.specs.Segments.{Extractor}
use Rattle.slate_model.specs.Stores.{Unpinned, by_objects}
use Rattle.slate_segments.specs.Refusals.{IsOfSegment}
use Rattle.slate_follow.specs.Keeping.{FindsLatest, IsOfPolling}
use Rattle.slate_follow.specs.Rebuilding.{BuildLacks, GoesBy, IsOfRebuilding, IsOfReplay, IsOfView, Lacks, poll_error}

-- where a key has no segment there is an extractor
pub lacks-some : (x : Option Extractor) (batches : List Batch) (key : List ℕ) → Lacks x batches key → IsSome x
lacks-some None batches key lacks = absurd (cc)
lacks-some (Some x) batches key lacks = refl

-- one error of two
pub err-same : (B : Type 0) (a b : SlateError) → ◌≡◌ {A = Result B SlateError} (Err a) (Err b) → a ≡ b
err-same B a b is = cc

-- ---- an opening
module _ (x : Option Extractor) (mode : DbReaderMode) (t : Option Objects) where
  pub opening-fails : (e : SlateError) → IsOfRebuilding e → IfSome t (λ o. RefusesLatest x true o None) → IfSome t (λ o. FollowCause x mode true (Unpinned mode o) o e)
  opening-fails e is fits = by t fits where
    at : (o : Objects) → RefusesLatest x true o None → (e : SlateError) → IsOfRebuilding e → FollowCause x mode true (Unpinned mode o) o e
    at o fits (errors.ObjectStoreError Unavailable) is = tt
    at o fits (errors.EmptySegmentPrefix key) is = (refl, fits)
    at o fits errors.NoMemory is = tt
    at o fits e is = absurd is

    by : (t : Option Objects) → IfSome t (λ o. RefusesLatest x true o None) → IfSome t (λ o. FollowCause x mode true (Unpinned mode o) o e)
    by None fits = tt
    by (Some o) fits = at o fits e is

  -- an error that names no key says nothing of keys
  pub opening-unnamed : (A : Type 0) (skips : Bool) (e : SlateError) → ((key : List ℕ) → e ≡ errors.EmptySegmentPrefix key → ⊥) → (o : Objects) (stored : Line) → AreFollowed {A = A} (by_objects t) x mode skips true o stored (Err e)
  opening-unnamed A skips (errors.EmptySegmentPrefix key) whole o stored = absurd (whole key refl)
  opening-unnamed A skips e whole o stored = tt

  pub opening-lacks : (A : Type 0) (skips : Bool) (e : SlateError) (o : Objects) (stored : Line) → ((key : List ℕ) → e ≡ errors.EmptySegmentPrefix key → ReplayRefuses (by_objects t) x mode skips true o stored (Some (errors.EmptySegmentPrefix key))) →
      AreFollowed {A = A} (by_objects t) x mode skips true o stored (Err e)
  opening-lacks A skips (errors.EmptySegmentPrefix key) o stored lacks = lacks key refl
  opening-lacks A skips e o stored lacks = tt

  -- ---- a poll
  pub poll-fails : (e : SlateError) → IsOfRebuilding e → ((key : List ℕ) → e ≡ errors.EmptySegmentPrefix key → IfSome t (λ _. IsSome x)) → IfSome t (λ o. FollowCause x mode false (Unpinned mode o) o (poll_error e))
  poll-fails e is lacks = by t lacks where
    at : (o : Objects) (e : SlateError) → IsOfRebuilding e → ((key : List ℕ) → e ≡ errors.EmptySegmentPrefix key → IsSome x) → FollowCause x mode false (Unpinned mode o) o (poll_error e)
    at o (errors.ObjectStoreError Unavailable) is lacks = tt
    at o (errors.EmptySegmentPrefix key) is lacks = inr (refl, lacks key refl)
    at o errors.NoMemory is lacks = tt
    at o e is lacks = absurd is

    by : (t : Option Objects) → ((key : List ℕ) → e ≡ errors.EmptySegmentPrefix key → IfSome t (λ _. IsSome x)) → IfSome t (λ o. FollowCause x mode false (Unpinned mode o) o (poll_error e))
    by None lacks = tt
    by (Some o) lacks = at o e is lacks

  pub poll-lacks : (A : Type 0) (skips : Bool) (e : SlateError) → IsOfRebuilding e → (o : Objects) (stored : Line) → ((key : List ℕ) → e ≡ errors.EmptySegmentPrefix key → LacksSegment (by_objects t) x mode skips false o stored) →
      AreFollowed {A = A} (by_objects t) x mode skips false o stored (Err (poll_error e))
  poll-lacks A skips (errors.ObjectStoreError Unavailable) is o stored lacks = tt
  poll-lacks A skips (errors.EmptySegmentPrefix key) is o stored lacks = lacks key refl
  poll-lacks A skips errors.NoMemory is o stored lacks = tt
  poll-lacks A skips e is o stored lacks = absurd is

  -- an error of looking for the manifest that a poll goes by is answered as it is, and says nothing of keys
  pub poll-unnamed : (A : Type 0) (skips : Bool) (e : SlateError) → ((key : List ℕ) → e ≡ errors.EmptySegmentPrefix key → ⊥) → (e ≡ errors.InvalidDBState → ⊥) → (o : Objects) (stored : Line) → AreFollowed {A = A} (by_objects t) x mode skips false o stored (Err e)
  poll-unnamed A skips errors.InvalidDBState whole valid o stored = absurd (valid refl)
  poll-unnamed A skips e whole valid o stored = tt

-- why the latest manifest wasn't read
pub latest-fails : (x : Option Extractor) (mode : DbReaderMode) (t : Option Objects) (e : SlateError) → IfSome t (λ o. FindsLatest o (Err e)) → IfSome t (λ o. FollowCause x mode false (Unpinned mode o) o e)
latest-fails x mode t e found = by t found where
  at : (o : Objects) (e : SlateError) → FindsLatest o (Err e) → FollowCause x mode false (Unpinned mode o) o e
  at o errors.LatestTransactionalObjectVersionMissing found = found
  at o (errors.ObjectStoreError Unavailable) found = tt
  at o errors.NoMemory found = tt
  at o e found = absurd found

  by : (t : Option Objects) → IfSome t (λ o. FindsLatest o (Err e)) → IfSome t (λ o. FollowCause x mode false (Unpinned mode o) o e)
  by None found = tt
  by (Some o) found = at o e found

pub plain-error : (e : SlateError) → ((key : List ℕ) → e ≡ errors.EmptySegmentPrefix key → ⊥) → poll_error e ≡ e
plain-error (errors.EmptySegmentPrefix key) whole = absurd (whole key refl)
plain-error e whole = refl

-- what is answered as an invalid state is a key without a segment
pub segment-key : (e : SlateError) → IsOfSegment e → poll_error e ≡ errors.InvalidDBState → (key : List ℕ) × (e ≡ errors.EmptySegmentPrefix key)
segment-key (errors.EmptySegmentPrefix key) of invalid = (key, refl)
segment-key errors.NoMemory of invalid = absurd (cc)
segment-key e of invalid = absurd of

pub poll-named : (e : SlateError) → IsOfSegment e → poll_error e ≡ errors.InvalidDBState → e ≡ errors.NoMemory → ⊥
poll-named (errors.EmptySegmentPrefix key) of invalid memory = cc
poll-named errors.NoMemory of invalid memory = cc
poll-named e of invalid memory = of

-- a count that rose from a later one rose from an earlier one
risen-over : (f f' f'' : ℕ) → f ≤ f' → HasRisen f' f'' → HasRisen f f''
risen-over f f' f'' low (inl more) = inl (omega (arith, low, more))
risen-over f f' f'' low (inr end) = inr end

-- a fault of the store is answered as it is
pub poll-fault : (e : SlateError) (fault : StoreFault) → poll_error e ≡ errors.ObjectStoreError fault → e ≡ errors.ObjectStoreError fault
poll-fault (errors.EmptySegmentPrefix key) fault is = absurd (cc)
poll-fault e fault is = is

-- so a poll that answers one raised the count
pub poll-rises : (A B : Type 0) (e : SlateError) (f f' f'' : ℕ) → f' ≡ f → CountsFaults {A = A} f' f'' (Err e) → FaultsRise {A = B} f f'' (Err (poll_error e))
poll-rises A B e f f' f'' kept counts = record {
  count = (let more = counts.count in omega (arith, kept, more));
  unavailable = λ is. risen-over f f' f'' (omega (arith, kept)) (counts.unavailable (ap Err (poll-fault e Unavailable (err-same B (poll_error e) (errors.ObjectStoreError Unavailable) is))));
  stays = elim counts.stays [ inl same ↦ inl (same ∙ kept) | inr fault ↦ inr (ap poll_error fault) ];
}

pub poll-present : (A B : Type 0) (e : SlateError) (f f' : ℕ) → CountsFaults {A = A} f f' (Err e) → ◌≡◌ {A = Result B SlateError} (Err (poll_error e)) (Err (errors.ObjectStoreError NotFound)) → ⊥
poll-present A B e f f' counts is = counts.none_missing (ap Err (poll-fault e NotFound (err-same B (poll_error e) (errors.ObjectStoreError NotFound) is)))

pub poll-counts : (A B : Type 0) (e : SlateError) (f f' f'' : ℕ) → f' ≡ f → CountsFaults {A = A} f' f'' (Err e) → CountsFaults {A = B} f f'' (Err (poll_error e))
poll-counts A B e f f' f'' kept counts =
    let rises = poll-rises A B e f f' f'' kept counts in
    record { count = rises.count; unavailable = rises.unavailable; stays = rises.stays; none_missing = poll-present A B e f' f'' counts }

-- what a poll answers for an error of a replay
pub poll-polling : (e : SlateError) → IsOfRebuilding e → IsOfPolling (poll_error e)
poll-polling (errors.ObjectStoreError Unavailable) of = tt
poll-polling (errors.EmptySegmentPrefix key) of = tt
poll-polling errors.NoMemory of = tt
poll-polling e of = absurd of

pub poll-key : (e : SlateError) → IsOfRebuilding e → poll_error e ≡ errors.InvalidDBState → (key : List ℕ) × (e ≡ errors.EmptySegmentPrefix key)
poll-key (errors.ObjectStoreError Unavailable) of invalid = absurd (cc)
poll-key (errors.EmptySegmentPrefix key) of invalid = (key, refl)
poll-key errors.NoMemory of invalid = absurd (cc)
poll-key e of invalid = absurd of

-- ---- the manifest that a follower goes by
-- what stands against the latest manifest stands against the objects
pub latest-refuses : (t : Option Objects) (x : Option Extractor) (opening : Bool) (found : Option VersionedManifest) (latest : VersionedManifest) (refusal : Option SlateError) → found ≡ Some latest → IfSome t (λ o. found ≡ latest_manifest o) → follow_refusal x opening latest ≡ refusal → IfSome t (λ o. RefusesLatest x opening o refusal)
latest-refuses None x opening found latest refusal is at refused = tt
latest-refuses (Some o) x opening found latest refusal is at refused = (latest, sym at ∙ is, refused)

view-cause : (x : Option Extractor) (mode : DbReaderMode) (opening : Bool) (o : Objects) (latest : VersionedManifest) (e : SlateError) → latest_manifest o ≡ Some latest → follow_refusal x opening latest ≡ None → GoesBy mode o latest (Err e) → FollowCause x mode opening (Unpinned mode o) o e
view-cause x mode opening o latest (errors.CheckpointMissing id) is fits cause = (latest, is, cause.0, cause.1, fits)
view-cause x mode opening o latest (errors.ObjectStoreError NotFound) is fits cause = (latest, is, cause.0, cause.1)
view-cause x mode opening o latest (errors.ObjectStoreError Unavailable) is fits cause = tt
view-cause x mode opening o latest errors.NoMemory is fits cause = tt
view-cause x mode opening o latest e is fits cause = absurd cause

-- nor does it go by a manifest that isn't found
pub view-fails : {t t1 : Option Objects} (x : Option Extractor) (mode : DbReaderMode) (opening : Bool) (found : Option VersionedManifest) (latest : VersionedManifest) (e : SlateError) → t1 ≡ t → found ≡ Some latest → IfSome t (λ o. found ≡ latest_manifest o) → follow_refusal x opening latest ≡ None →
    IfSome t1 (λ o. GoesBy mode o latest (Err e)) → IfSome t (λ o. FollowCause x mode opening (Unpinned mode o) o e)
view-fails {t} {t1} x mode opening found latest e kept is at fits goes = by t at (subst (λ s. IfSome s (λ o. GoesBy mode o latest (Err e))) kept goes) where
  by : (s : Option Objects) → IfSome s (λ o. found ≡ latest_manifest o) → IfSome s (λ o. GoesBy mode o latest (Err e)) → IfSome s (λ o. FollowCause x mode opening (Unpinned mode o) o e)
  by None at goes = tt
  by (Some o) at goes = view-cause x mode opening o latest e (sym at ∙ is) fits goes

pub last-fails : (t : Option Objects) (x : Option Extractor) (mode : DbReaderMode) (opening : Bool) (e : SlateError) → IsOfReplay e → IfSome t (λ o. FollowCause x mode opening (Unpinned mode o) o e)
last-fails None x mode opening e is = tt
last-fails (Some o) x mode opening (errors.ObjectStoreError Unavailable) is = tt
last-fails (Some o) x mode opening errors.NoMemory is = tt
last-fails (Some o) x mode opening e is = absurd is

pub view-unnamed : (mode : DbReaderMode) (e : SlateError) (key : List ℕ) → IsOfView mode e → e ≡ errors.EmptySegmentPrefix key → ⊥
view-unnamed mode (errors.EmptySegmentPrefix other) key is same = is
view-unnamed mode e key is same = cc

-- ---- errors that an opening answers after a put
pub replay-rebuilding : (e : SlateError) → IsOfReplay e → IsOfRebuilding e
replay-rebuilding (errors.ObjectStoreError Unavailable) of = tt
replay-rebuilding errors.NoMemory of = tt
replay-rebuilding e of = absurd of

pub replay-unnamed : (e : SlateError) (key : List ℕ) → IsOfReplay e → e ≡ errors.EmptySegmentPrefix key → ⊥
replay-unnamed (errors.ObjectStoreError fault) key of same = cc
replay-unnamed errors.NoMemory key of same = cc
replay-unnamed e key of same = of

-- what is rebuilt up to the last log file that a reader reads
pub lacks-read : {t t1 t2 : Option Objects} (x : Option Extractor) (mode : DbReaderMode) (skips : Bool) (view : VersionedManifest) (last : ℕ) (key : List ℕ) → t1 ≡ t → t2 ≡ t1 → IfSome t (λ o. last ≡ last_read mode skips view o) →
    IfSome t1 (λ o. BuildLacks x o view last key) → IfSome t2 (λ o. BuildLacks x o view (last_read mode skips view o) key)
lacks-read {t} {t1} {t2} x mode skips view last key kept kept2 reads lacks =
    subst (λ s. IfSome s (λ o. BuildLacks x o view (last_read mode skips view o) key)) (sym kept2) (by t1 (subst (λ s. IfSome s (λ o. last ≡ last_read mode skips view o)) (sym kept) reads) lacks) where
      by : (s : Option Objects) → IfSome s (λ o. last ≡ last_read mode skips view o) → IfSome s (λ o. BuildLacks x o view last key) → IfSome s (λ o. BuildLacks x o view (last_read mode skips view o) key)
      by None reads lacks = tt
      by (Some o) reads lacks = subst (λ n. BuildLacks x o view n key) reads lacks
