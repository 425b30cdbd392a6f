-- Openings, polls and closes call the store no more often than a command may.
use Rattle.std.proofs.Common.{◌≡◌, ℕ, ◌+◌, ◌*◌, ◌≤◌, Bool, true, false, Option, Some, None, Err, refl, arith}
use Rattle.std.specs.Option.{IfSome}
use Rattle.slate_store.specs.Objects.{Objects}
use Rattle.slate_store.specs.declared.reader_modes.DbReaderMode.{DbReaderMode}
use Rattle.slate_store.specs.declared.reader_modes.DbReaderMode.TheVariants as modes
use Rattle.slate_errors.specs.declared.errors.SlateError.{SlateError}
use Rattle.slate_errors.specs.declared.errors.SlateError.TheVariants as errors
use Rattle.slate_follow.specs.Lagging.{readings}
use Rattle.slate_follow.specs.Rebuilding.{CallsOpening as CallsFollowing, CallsRebuilding}
use Rattle.slate_model.specs.Followed.{followed_logs}
use Rattle.slate_model.specs.Follower.{is_managed}
use Rattle.slate_model.specs.Handle.{Handle}
use Rattle.slate_model.specs.Open.{replayed_logs}
use Rattle.slate_writer.specs.Opening.{CallsOpening}
use Rattle.slate_live.specs.Calls.{end_calls, follow_calls, poll_calls}

most-at : (o : Objects) (e : SlateError) (calls calls' : ℕ) → CallsOpening {A = Handle} o calls calls' (Err e) → calls' ≤ calls + (replayed_logs o + 5)
most-at o (errors.WalTruncated id) calls calls' counted = let most = counted.1 in omega (arith, most)
most-at o e calls calls' counted = omega (arith, counted)

pub opening-calls : (t : Option Objects) (e : SlateError) (calls calls' : ℕ) → IfSome t (λ o. CallsOpening {A = Handle} o calls calls' (Err e)) → IfSome t (λ o. calls' ≤ calls + (replayed_logs o + 5))
opening-calls None e calls calls' counted = tt
opening-calls (Some o) e calls calls' counted = most-at o e calls calls' counted

-- an opening of a reader, by its mode
follows-at : (mode : DbReaderMode) (skips : Bool) (o : Objects) (calls calls' : ℕ) → (is_managed mode ≡ false → CallsFollowing mode skips o calls calls') → (is_managed mode ≡ true → calls' ≤ calls + (followed_logs mode skips o + 17)) → calls' ≤ calls + follow_calls mode skips o
follows-at (modes.Checkpoint id) skips o calls calls' other managed = let counted = other refl in omega (arith, counted)
follows-at modes.FollowLatest skips o calls calls' other managed = let counted = other refl in omega (arith, counted)
follows-at modes.ManagedCheckpoint skips o calls calls' other managed = managed refl

pub follow-calls : (t : Option Objects) (mode : DbReaderMode) (skips : Bool) (calls calls' : ℕ) → (is_managed mode ≡ false → IfSome t (λ o. CallsFollowing mode skips o calls calls')) →
    (is_managed mode ≡ true → IfSome t (λ o. calls' ≤ calls + (followed_logs mode skips o + 17))) → IfSome t (λ o. calls' ≤ calls + follow_calls mode skips o)
follow-calls None mode skips calls calls' other managed = tt
follow-calls (Some o) mode skips calls calls' other managed = follows-at mode skips o calls calls' other managed

-- a poll, by whether the reader keeps a checkpoint
polls-at : (keeps : Bool) (lag : ℕ) (o : Objects) (calls calls' : ℕ) → (keeps ≡ false → CallsRebuilding o lag calls calls') → (keeps ≡ true → calls' ≤ calls + 9 * (readings lag (replayed_logs o) + 3)) → calls' ≤ calls + poll_calls keeps lag o
polls-at true lag o calls calls' other managed = managed refl
polls-at false lag o calls calls' other managed = let counted = other refl in omega (arith, counted)

pub polling-calls : (t : Option Objects) (keeps : Bool) (lag : ℕ) (calls calls' : ℕ) → (keeps ≡ false → IfSome t (λ o. CallsRebuilding o lag calls calls')) → (keeps ≡ true → IfSome t (λ o. calls' ≤ calls + 9 * (readings lag (replayed_logs o) + 3))) →
    IfSome t (λ o. calls' ≤ calls + poll_calls keeps lag o)
polling-calls None keeps lag calls calls' other managed = tt
polling-calls (Some o) keeps lag calls calls' other managed = polls-at keeps lag o calls calls' other managed

-- and a close
pub ending-calls : (keeps : Bool) (calls calls' : ℕ) → (keeps ≡ false → calls' ≡ calls) → calls' ≤ calls + 16 → calls' ≤ calls + end_calls keeps
ending-calls true calls calls' other counted = counted
ending-calls false calls calls' other counted = let same = other refl in omega (arith, same)
