-- What an opening and a poll of a reader give a router, by their contracts.
use Rattle.std.proofs.Common.{◌≡◌, ◌∙◌, ◌⊎◌, inl, inr, ℕ, ℤ, Bool, true, false, List, get_or, Option, Result, Ok, Err, Some, None, refl, sym, subst, ap}
use Rattle.std.specs.Prelude.{IfErr, is_none, slice_get, slice_set}
use Rattle.std.proofs.lemmas.Option.{slice_get-get_or, slice_get_within}
use Rattle.slate_types.specs.declared.batches.Batch.{Batch}
use Rattle.slate_types.specs.declared.store_errors.StoreFault.TheVariants.{Unavailable}
use Rattle.slate_errors.specs.declared.errors.SlateError.{SlateError}
use Rattle.slate_errors.specs.declared.errors.SlateError.TheVariants as errors
use Rattle.slate_store.specs.Objects.{Objects}
use Rattle.slate_store.specs.declared.reader_modes.DbReaderMode.{DbReaderMode}
use Rattle.slate_store.specs.declared.reader_modes.DbReaderMode.TheVariants.{ManagedCheckpoint}
use Rattle.slate_model.specs.declared.answers.PollAnswer.{PollAnswer}
use Rattle.slate_model.specs.Follower.{Follower, is_managed}
use Rattle.slate_model.specs.Known.{FaultsRise, Known}
use Rattle.slate_model.specs.Managed.{OpensManaged, PollsManaged, poll_result}
use Rattle.slate_model.specs.Stores.{by_objects}
use Rattle.slate_follow.specs.Answering.{IsOfOpening, IsOfPoll}
use Rattle.slate_follow.specs.Keeping.{LeftBy}
use Rattle.slate_route.specs.declared.answers.RouteRefusal.{RouteRefusal}
use Rattle.slate_route.specs.Reading.{is_memory, is_open}
use Rattle.slate_route.specs.Turns.{OpensReader, PollsAt, reader_of}

pub opens-reader : {lifetime interval : ℕ} {moment : ℤ} {before after : Known (List Batch)} (opened : Result (Follower × PollAnswer) SlateError) (result : Result Follower RouteRefusal) → result ≡ reader_of opened → FaultsRise before.faults after.faults opened → IfErr opened (IsOfOpening ManagedCheckpoint) →
    (skips : Bool) → skips ≡ false → (lag : ℕ) → lag ≡ 0 → (at : ℤ) → at ≡ moment → (made : ℕ) × OpensManaged (by_objects before.objects) None made lifetime interval skips lag at before opened after → OpensReader moment lifetime interval before result after
opens-reader {lifetime} {interval} {moment} {before} {after} opened result is faults kind skips reads lag none at same did = record {
  opened = opened;
  result_is = is;
  faults = faults;
  kind = kind;
  opens = (
    did.0,
    subst (λ (m : ℤ). OpensManaged (by_objects before.objects) None did.0 lifetime interval false 0 m before opened after) same
        (subst (λ s. OpensManaged (by_objects before.objects) None did.0 lifetime interval s 0 at before opened after) reads
        (subst (λ n. OpensManaged (by_objects before.objects) None did.0 lifetime interval skips n at before opened after) none did.1)),
  );
}

-- the errors of a poll are those of a reader that keeps a checkpoint
poll-error : (mode : DbReaderMode) (error : SlateError) → IsOfPoll mode error → IsOfPoll ManagedCheckpoint error
poll-error mode errors.LatestTransactionalObjectVersionMissing kind = tt
poll-error mode errors.InvalidDBState kind = tt
poll-error mode (errors.TransactionalObjectTimeout tries) kind = (refl, kind.1)
poll-error mode (errors.ObjectStoreError Unavailable) kind = tt
poll-error mode errors.NoMemory kind = tt
poll-error mode error kind = absurd kind

-- one that is recorded closes the reader
closes : (error : SlateError) → IsOfPoll ManagedCheckpoint error → is_none (poll_result error) ≡ is_memory error
closes errors.LatestTransactionalObjectVersionMissing kind = refl
closes errors.InvalidDBState kind = refl
closes (errors.TransactionalObjectTimeout tries) kind = refl
closes (errors.ObjectStoreError Unavailable) kind = refl
closes errors.NoMemory kind = refl
closes error kind = absurd kind

left-closed : (moment : ℤ) (t t' : Option Objects) (error : SlateError) (reader left : Follower) → LeftBy moment reader t error left t' → IsOfPoll ManagedCheckpoint error → is_open left ≡ is_memory error
left-closed moment t t' error reader left (inl failed) kind = ap (λ (f : Follower). is_none f.result) failed.becomes ∙ closes error kind
left-closed moment t t' error reader left (inr failed) kind = ap (λ (f : Follower). is_none f.result) failed.becomes ∙ closes error kind

error-leaves : (moment : ℤ) (t t' : Option Objects) (reader left : Follower) (result : Result PollAnswer SlateError) (managed : Bool) → is_managed reader.mode ≡ managed → reader.result ≡ None → (reader.result ≡ None → IfErr result (IsOfPoll reader.mode)) → (is_managed reader.mode ≡ false → IfErr result (λ _. left ≡ reader)) →
    (is_managed reader.mode ≡ true → reader.result ≡ None → IfErr result (λ error. LeftBy moment reader t error left t')) → IfErr result (λ error. ((left ≡ reader) ⊎ (is_open left ≡ is_memory error)) × IsOfPoll ManagedCheckpoint error)
error-leaves moment t t' reader left (Ok answer) managed is opened kind other leaves = tt
error-leaves moment t t' reader left (Err error) true is opened kind other leaves = let of_poll = poll-error reader.mode error (kind opened) in (inr (left-closed moment t t' error reader left (leaves is opened) of_poll), of_poll)
error-leaves moment t t' reader left (Err error) false is opened kind other leaves = (inl (other is), poll-error reader.mode error (kind opened))

is-open-none : (reader : Follower) → is_open reader ≡ true → reader.result ≡ None
is-open-none reader is = by reader.result is where
  by : {A : Type 0} (r : Option A) → is_none r ≡ true → r ≡ None
  by None is = refl
  by (Some x) is = absurd (cc)

pub polls-at : {place : ℕ} {moment : ℤ} {old : List Follower} {before after : Known (List Batch)} (reader left : Follower) (result : Result PollAnswer SlateError) → (r : Follower) × (slice_get old place ≡ Some r) × (is_open r ≡ true) → reader ≡ get_or old place reader → (at : ℤ) → at ≡ moment →
    (reader.result ≡ None → FaultsRise before.faults after.faults result) → (reader.result ≡ None → IfErr result (IsOfPoll reader.mode)) → (is_managed reader.mode ≡ false → IfErr result (λ _. left ≡ reader)) →
    (is_managed reader.mode ≡ true → reader.result ≡ None → IfErr result (λ error. LeftBy at reader before.objects error left after.objects)) →
    (is_managed reader.mode ≡ true → (made : ℕ) × PollsManaged (by_objects before.objects) None made at reader before result left after) → PollsAt place moment old before result (slice_set old place left) after
polls-at {place} {moment} {old} {before} {after} reader left result (r, there, opened) value at same faults kind other leaves managed =
    let found : slice_get old place ≡ Some reader = slice_get-get_or old place reader (slice_get_within old place r there) ∙ ap Some (sym value) in
    let it : r ≡ reader = (let a = there in let b = found in cc) in
    let live : reader.result ≡ None = is-open-none reader (ap is_open (sym it) ∙ opened) in
    record {
      reader = reader;
      there = found;
      left = left;
      new_is = refl;
      faults = faults live;
      failed = error-leaves at before.objects after.objects reader left result (is_managed reader.mode) refl live kind other leaves;
      polls = λ is. (let d = managed is in (d.0, subst (λ (m : ℤ). PollsManaged (by_objects before.objects) None d.0 m reader before result left after) same d.1));
    }
