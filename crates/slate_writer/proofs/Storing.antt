-- What a flush leaves of a store and a handle, from its steps.
use Rattle.std.proofs.Common.{◌≡◌, ℕ, ◌+◌, ◌<◌, ◌≤◌, ◌⊎◌, List, [], ◌∷◌, ◌++◌, length, cond, ltb, Bool, true, false, Option, Some, None, Result, Ok, Err, refl, sym, subst, ap, ◌∙◌, inl, inr, arith}
use Rattle.std.specs.Prelude.{nat_le, IfErr, IfOk}
use Rattle.slate_seqtrack.specs.Bytes.{packed}
use Rattle.slate_seqtrack.specs.Spelling.{tracker_bytes}
use Rattle.slate_seqtrack.specs.Tracker.{Tracker}
use Rattle.slate_seqtrack.proofs.Packing.{packed-twice}
use Rattle.std.specs.Option.{IfSome}
use Rattle.std.specs.Bool.{MatchBool}
use Rattle.std.proofs.lemmas.Bool.{lt-ltb, le-ltb}
use Rattle.slate_types.specs.declared.batches.Batch.{Batch}
use Rattle.slate_types.specs.declared.options.FlushType.{FlushType}
use Rattle.slate_types.specs.declared.options.FlushType.TheVariants.{Wal, MemTable}
use Rattle.slate_types.specs.declared.store_errors.StoreError.{StoreError}
use Rattle.slate_types.specs.declared.store_errors.StoreError.TheVariants as refusals
use Rattle.slate_types.specs.declared.store_errors.StoreFault.TheVariants.{Unavailable}
use Rattle.slate_types.proofs.Modelled.{modelled_as}
use Rattle.slate_store.specs.declared.objects.VersionedManifest.{VersionedManifest}
use Rattle.slate_store.specs.Calls.{IsOfList, WhereModelled}
use Rattle.slate_store.specs.Objects.{ChangeOf, Objects, Change, PutManifest, PutTable, last_log}
use Rattle.slate_errors.specs.Errors.{error_of_store}
use Rattle.slate_errors.specs.declared.errors.SlateError.{SlateError}
use Rattle.slate_errors.specs.declared.errors.SlateError.TheVariants as errors
use Rattle.slate_model.specs.Changes.{leaves_prefix}
use Rattle.slate_model.specs.Flush.{DurableAfter, FindsCurrent, FlushCause, FlushesOnly, IsCurrent, ManifestCause, Stores, StoresBatches, TracksFlush, IsReadAgain, flush_changes, flush_changes_by, flush_changes_under, flush_view, grows, has_ids, has_log_id, has_untabled, log_after, log_changes, next_flushed, table_changes, tables_put}
use Rattle.slate_model.specs.Handle.{Handle, accepted, kept_handle, next_table, to_log, untabled}
use Rattle.slate_model.specs.Known.{CountsFaults, Known}
use Rattle.slate_model.specs.Stores.{Stands, by_objects}
use Rattle.slate_writer.specs.Puts.{DurableThen, MakesPart, PutsCause, StoresBy, all_changes, has_all_ids, log_put, table_puts}
use Rattle.slate_writer.proofs.Modelled.{modelled_from, modelled_kept}
use Rattle.slate_writer.proofs.Puts.{kept_durable, made_with}

-- a call that answers an error may have made nothing
part_none : (b : Bool) (all made : ℕ) → made ≡ 0 → MatchBool b (made ≤ all) (made ≡ 0)
part_none true all made none = omega arith
part_none false all made none = none

only_none : (e : SlateError) (all : ℕ) → FlushesOnly (Err e) all 0
only_none errors.InvalidDBState all = refl
only_none errors.NoMemory all = inl refl
only_none e all = tt

pub makes_none : (ids : Bool) (cs : List Change) (e : SlateError) (counter : ℕ) (o : Objects) → PutsCause ids cs o e → MakesPart ids cs (Err e) counter counter 0 o o
makes_none ids cs e counter o cause =
    record {
      cause = cause;
      part = part_none (leaves_prefix e) (length cs) 0 refl;
      only = only_none e (length cs);
      counted = (omega arith, omega arith);
      after = refl;
    }

-- a call that lists and is refused
pub list_cause : (ids : Bool) (cs : List Change) (o : Objects) (r : StoreError) → IsOfList r → PutsCause ids cs o (error_of_store r)
list_cause ids cs o refusals.Failed of = tt
list_cause ids cs o refusals.NoMemory of = tt
list_cause ids cs o refusals.Exists of = absurd of
list_cause ids cs o refusals.NotFound of = absurd of

-- the log file of a flush is put under the id after the last one
log_put-is : (bs : List Batch) (last : ℕ) → log_put (log_after bs last) bs ≡ log_changes (λ xs. xs) bs last
log_put-is [] last = refl
log_put-is (b ∷ bs) last = refl

-- the puts of a flush to a table are its changes
pub puts-are : (h : Handle) (latest : VersionedManifest) (last : ℕ) → let next = next_flushed h latest last in table_puts next.manifest.replay_after_wal_id (to_log h) (next_table h) (untabled latest.manifest h) next ≡ all_changes h latest last
puts-are h latest last = ap (λ cs. cs ++ table_changes (λ xs. xs) h latest last) (log_put-is (to_log h) last)

-- a put that isn't refused for an id has another cause
cause-as : (ids : Bool) (cs : List Change) (o : Objects) (e : SlateError) → PutsCause true cs o e → PutsCause ids cs o e
cause-as ids cs o errors.InvalidDBState h = absurd (cc)
cause-as ids cs o errors.TransactionalObjectVersionExists h = h
cause-as ids cs o (errors.ObjectStoreError Unavailable) h = tt
cause-as ids cs o errors.NoMemory h = tt
cause-as ids cs o e h = absurd h

causes-as : (ids : Bool) (cs : List Change) (o : Objects) (r : Result (Unit {0}) SlateError) → IfErr r (PutsCause true cs o) → IfErr r (PutsCause ids cs o)
causes-as ids cs o (Ok x) h = tt
causes-as ids cs o (Err e) h = cause-as ids cs o e h

pub makes-as : (ids : Bool) (cs : List Change) (r : Result (Unit {0}) SlateError) (c c' made : ℕ) (o o' : Objects) → MakesPart true cs r c c' made o o' → MakesPart ids cs r c c' made o o'
makes-as ids cs r c c' made o o' m = record { cause = causes-as ids cs o r m.cause; part = m.part; only = m.only; counted = m.counted; after = m.after }

-- A flush of a handle under the latest manifest, by the changes that were made.
module _ (t : Option Objects) (flush_type : FlushType) (h : Handle) (o : Objects) (latest : VersionedManifest) (current : IsCurrent h.epoch o latest) where
  abbrev last : ℕ
  last = last_log latest.manifest.replay_after_wal_id o

  abbrev under : List Change
  under = flush_changes_under (λ xs. xs) flush_type h latest last

  changes-are : flush_changes (λ xs. xs) flush_type h o ≡ under
  changes-are = ap (flush_changes_by (λ xs. xs) flush_type h o) current.0

  flush-cause : (cs : List Change) (e : SlateError) → PutsCause (has_ids flush_type h latest last) cs o e → FlushCause (Stands cs o) flush_type h o e
  flush-cause cs errors.InvalidDBState c = (latest, current, c)
  flush-cause cs errors.TransactionalObjectVersionExists c = c
  flush-cause cs (errors.ObjectStoreError Unavailable) c = tt
  flush-cause cs errors.NoMemory c = tt
  flush-cause cs e c = absurd c

  pub stores-ok : (new : Handle) (made : ℕ) (o' : Objects) → new.view ≡ flush_view flush_type h latest last → TracksFlush under h new → MakesPart (has_ids flush_type h latest last) under (Ok tt) h.counter new.counter made o o' → StoresBatches (by_objects t) flush_type h o (Ok tt) new made o'
  stores-ok new made o' view tracks m =
      let s = subst (λ (cs : List Change). MakesPart (has_ids flush_type h latest last) cs (Ok tt) h.counter new.counter made o o') (sym changes-are) m in
      record {
        answer = (latest, current, view);
        part = s.part;
        only = tt;
        current = λ some. (latest, current);
        counted = s.counted;
        after = s.after;
        tracked = subst (λ (cs : List Change). TracksFlush cs h new) (sym changes-are) tracks;
      }

  pub stores-err : (e : SlateError) (new : Handle) (made : ℕ) (o' : Objects) → new.view ≡ latest → MakesPart (has_ids flush_type h latest last) under (Err e) h.counter new.counter made o o' → StoresBatches (by_objects t) flush_type h o (Err e) new made o'
  stores-err e new made o' view m =
      let s = subst (λ (cs : List Change). MakesPart (has_ids flush_type h latest last) cs (Err e) h.counter new.counter made o o') (sym changes-are) m in
      record {
        answer = (flush-cause (flush_changes (λ xs. xs) flush_type h o) e s.cause, inr (subst (IsCurrent h.epoch o) (sym view) current));
        part = s.part;
        only = s.only;
        current = λ some. (latest, current);
        counted = s.counted;
        after = s.after;
        tracked = tt;
      }

-- a flush that doesn't find the latest manifest, or its epoch current
manifest-cause : (stands : Type 0) (flush_type : FlushType) (h : Handle) (o : Objects) (e : SlateError) → ManifestCause h.epoch o e → FlushCause stands flush_type h o e
manifest-cause stands flush_type h o errors.InvalidDBState c = absurd c
manifest-cause stands flush_type h o errors.TransactionalObjectVersionExists c = absurd c
manifest-cause stands flush_type h o e c = c

stores-unfound : (t : Option Objects) (flush_type : FlushType) (h : Handle) (o : Objects) (e : SlateError) → ManifestCause h.epoch o e → StoresBatches (by_objects t) flush_type h o (Err e) h 0 o
stores-unfound t flush_type h o e cause =
    record {
      answer = (manifest-cause (Stands (flush_changes (λ xs. xs) flush_type h o) o) flush_type h o e cause, inl refl);
      part = part_none (leaves_prefix e) (length (flush_changes (λ xs. xs) flush_type h o)) 0 refl;
      only = only_none e (length (flush_changes (λ xs. xs) flush_type h o));
      current = λ some. absurd (omega (arith, some));
      counted = (omega arith, omega arith);
      after = refl;
      tracked = tt;
    }

least : (k : Bool) → 1 ≤ cond k 1 2
least true = omega arith
least false = omega arith

module _ (t : Option Objects) (flush_type : FlushType) (h : Handle) (before after : Known (List Batch)) where
  -- a flush, whose handle isn't cut yet
  abbrev Step : Result (Unit {0}) SlateError → Handle → Type 0
  Step r new = (made : ℕ) × StoresBy (λ handle. handle) (by_objects t) flush_type h before r new after made

  pub step_unfound : (new : Handle) (e : SlateError) → new ≡ h → CountsFaults {A = Unit {0}} before.faults after.faults (Err e) → after.objects ≡ before.objects → IfSome before.objects (λ o. FindsCurrent h.epoch o (Err e)) → Step (Err e) new
  step_unfound new e same faults kept found =
      let low = least h.keeps_log in
      subst (Step (Err e)) (sym same) (
        0,
        record {
          flushed = record { same = refl; durable = kept_durable e 0 h (λ no. omega arith); counter = (omega arith, omega arith); tracker = inl refl };
          stored = record {
            faults = faults;
            objects = modelled_kept kept (λ o is. stores-unfound t flush_type h o e (subst (λ x. IfSome x (λ o. FindsCurrent h.epoch o (Err e))) is found));
          };
        },
      )

  module _ (latest : VersionedManifest) {mid : Option Objects} (kept : mid ≡ before.objects) (found : IfSome before.objects (λ o. FindsCurrent h.epoch o (Ok latest))) where
    abbrev mark : ℕ
    mark = latest.manifest.replay_after_wal_id

    current-at : (o : Objects) → before.objects ≡ Some o → IsCurrent h.epoch o latest
    current-at o is = subst (λ x. IfSome x (λ o. FindsCurrent h.epoch o (Ok latest))) is found

    -- what the puts of the flush leave
    abbrev Makes : Result (Unit {0}) SlateError → ℕ → ℕ → Objects → Objects → Type 0
    Makes r counter' made o o' =
        MakesPart (has_ids flush_type h latest (last_log mark o)) (flush_changes_under (λ xs. xs) flush_type h latest (last_log mark o)) r h.counter counter' made o o'

    step_ok : (new : Handle) (made : ℕ) → new ≡ record h { durable = new.durable; counter = new.counter; tracker = new.tracker; view = new.view; result = h.result } →
        (h.counter ≤ new.counter) × (new.counter ≤ h.counter + 1) → (new.tracker ≡ h.tracker) ⊎ (new.tracker ≡ packed h.tracker) → new.durable ≡ accepted h → ((o : Objects) → before.objects ≡ Some o → new.view ≡ flush_view flush_type h latest (last_log mark o)) →
        ((o : Objects) → TracksFlush (flush_changes_under (λ xs. xs) flush_type h latest (last_log mark o)) h new) →
        CountsFaults {A = Unit {0}} before.faults after.faults (Ok tt) → WhereModelled (Makes (Ok tt) new.counter made) mid after.objects → Step (Ok tt) new
    step_ok new made same counter tracker number view tracks faults makes = (
      made,
      record {
        flushed = record { same = same; durable = number; counter = counter; tracker = tracker };
        stored = record {
          faults = faults;
          objects = modelled_from kept makes (λ o o' is m. stores-ok t flush_type h o latest (current-at o is) new made o' (view o is) (tracks o) m);
        };
      },
    )

    step_err : (new : Handle) (e : SlateError) (made : ℕ) → new ≡ record h { durable = new.durable; counter = new.counter; tracker = new.tracker; view = new.view; result = h.result } →
        (h.counter ≤ new.counter) × (new.counter ≤ h.counter + 1) → (new.tracker ≡ h.tracker) ⊎ (new.tracker ≡ packed h.tracker) → DurableAfter (nat_le (grows h) made) h (Err e) new.durable → new.view ≡ latest →
        CountsFaults {A = Unit {0}} before.faults after.faults (Err e) → WhereModelled (Makes (Err e) new.counter made) mid after.objects → Step (Err e) new
    step_err new e made same counter tracker number view faults makes = (
      made,
      record {
        flushed = record { same = same; durable = number; counter = counter; tracker = tracker };
        stored = record {
          faults = faults;
          objects = modelled_from kept makes (λ o o' is m. stores-err t flush_type h o latest (current-at o is) e new made o' view m);
        };
      },
    )

-- A flush to the log.
log-length : (bs : List Batch) (last : ℕ) → length (log_changes (λ xs. xs) bs last) ≤ 1
log-length [] last = omega arith
log-length (b ∷ bs) last = omega arith

-- and puts no table
log-tracks : (bs : List Batch) (last : ℕ) (h new : Handle) → new.tracker ≡ h.tracker → TracksFlush (log_changes (λ xs. xs) bs last) h new
log-tracks [] last h new same = record { is = same; again = λ some. absurd (omega (arith, some)) }
log-tracks (b ∷ bs) last h new same = record { is = same; again = λ some. absurd (omega (arith, some)) }

-- want of memory leaves it unmade
log-only : (e : SlateError) (all made : ℕ) → all ≤ 1 → FlushesOnly (Err e) all made → e ≡ errors.NoMemory → made ≡ 0
log-only errors.NoMemory all made few (inl none) is = none
log-only errors.NoMemory all made few (inr less) is = omega arith
log-only e all made few only is = absurd (cc)

module _ (t : Option Objects) (h : Handle) (before after : Known (List Batch)) (latest : VersionedManifest) {mid : Option Objects} (kept : mid ≡ before.objects) (found : IfSome before.objects (λ o. FindsCurrent h.epoch o (Ok latest))) where
  abbrev MakesLog : Result (Unit {0}) SlateError → ℕ → Objects → Objects → Type 0
  MakesLog r made o o' =
      let last = last_log latest.manifest.replay_after_wal_id o in
      MakesPart (has_log_id (to_log h) last) (log_changes (λ xs. xs) (to_log h) last) r h.counter h.counter made o o'

  pub log_ok : (new : Handle) → new ≡ record h { durable = accepted h; view = latest } → CountsFaults {A = Unit {0}} before.faults after.faults (Ok tt) → WhereModelled (λ o o'. (made : ℕ) × MakesLog (Ok tt) made o o') mid after.objects → Step t Wal h before after (Ok tt) new
  log_ok new same faults makes =
      let all = made_with {Q = λ made. Unit {0}} {P = MakesLog (Ok tt)} mid after.objects 0 tt (modelled_as (λ o o'. (made : ℕ) × Unit {0} × MakesLog (Ok tt) made o o') makes (λ o o' m. (m.0, tt, m.1))) in
      subst (Step t Wal h before after (Ok tt)) (sym same)
      (step_ok t Wal h before after latest kept found (record h { durable = accepted h; view = latest }) all.0 refl (omega arith, omega arith) (inl refl) refl (λ o is. refl)
      (λ o. log-tracks (to_log h) (last_log latest.manifest.replay_after_wal_id o) h (record h { durable = accepted h; view = latest }) refl) faults all.2)

  pub log_err : (new : Handle) (e : SlateError) → new ≡ record h { view = latest } → CountsFaults {A = Unit {0}} before.faults after.faults (Err e) → WhereModelled (λ o o'. (made : ℕ) × MakesLog (Err e) made o o') mid after.objects → Step t Wal h before after (Err e) new
  log_err new e same faults makes =
      let low = least h.keeps_log in
      let all = made_with {Q = λ made. DurableAfter (nat_le (grows h) made) h (Err e) h.durable} {P = MakesLog (Err e)} mid after.objects 0 (kept_durable e 0 h (λ no. omega arith))
      (modelled_as (λ o o'. (made : ℕ) × DurableAfter (nat_le (grows h) made) h (Err e) h.durable × MakesLog (Err e) made o o') makes
      (λ o o' m. (m.0, kept_durable e m.0 h (λ no. let zero_is = log-only e _ m.0 (log-length (to_log h) (last_log latest.manifest.replay_after_wal_id o)) m.1.only no in omega arith), m.1))) in
      subst (Step t Wal h before after (Err e)) (sym same)
      (step_err t Wal h before after latest kept found (record h { view = latest }) e all.0 refl (omega arith, omega arith) (inl refl) all.1 refl faults all.2)

  -- A flush to a table.
  abbrev MakesAll : Result (Unit {0}) SlateError → ℕ → ℕ → Objects → Objects → Type 0
  MakesAll r counter' made o o' =
      let last = last_log latest.manifest.replay_after_wal_id o in
      MakesPart (has_all_ids h latest last) (all_changes h latest last) r h.counter counter' made o o'

  -- where there is no batch for one, nothing is to be made
  nothing : (o : Objects) → has_untabled h latest.manifest ≡ false → MakesPart (has_ids MemTable h latest (last_log latest.manifest.replay_after_wal_id o)) (flush_changes_under (λ xs. xs) MemTable h latest (last_log latest.manifest.replay_after_wal_id o)) (Ok tt) h.counter h.counter 0 o o
  nothing o unfilled =
      let last = last_log latest.manifest.replay_after_wal_id o in
      let none : flush_changes_under (λ xs. xs) MemTable h latest last ≡ [] = ap (λ x. cond x (all_changes h latest last) []) unfilled in
      subst (λ (cs : List Change). MakesPart (has_ids MemTable h latest last) cs (Ok tt) h.counter h.counter 0 o o) (sym none)
      (record { cause = tt; part = refl; only = tt; counted = (omega arith, omega arith); after = refl })

  untracked : (o : Objects) → has_untabled h latest.manifest ≡ false → TracksFlush (flush_changes_under (λ xs. xs) MemTable h latest (last_log latest.manifest.replay_after_wal_id o)) h (record h { durable = accepted h; view = latest })
  untracked o unfilled =
      let last = last_log latest.manifest.replay_after_wal_id o in
      let none : flush_changes_under (λ xs. xs) MemTable h latest last ≡ [] = ap (λ x. cond x (all_changes h latest last) []) unfilled in
      subst (λ (cs : List Change). TracksFlush cs h (record h { durable = accepted h; view = latest })) (sym none) (record { is = refl; again = λ more. absurd (omega (arith, more)) })

  pub table_none : (new : Handle) → accepted h ≤ latest.manifest.last_l0_seq → new ≡ record h { durable = accepted h; view = latest } → CountsFaults {A = Unit {0}} before.faults after.faults (Ok tt) → after.objects ≡ mid → Step t MemTable h before after (Ok tt) new
  table_none new low same faults left =
      let no : has_untabled h latest.manifest ≡ false = le-ltb latest.manifest.last_l0_seq (accepted h) low in
      subst (Step t MemTable h before after (Ok tt)) (sym same)
      (step_ok t MemTable h before after latest kept found (record h { durable = accepted h; view = latest }) 0 refl (omega arith, omega arith) (inl refl) refl
      (λ o is. sym (ap (λ x. cond x (next_flushed h latest (last_log latest.manifest.replay_after_wal_id o)) latest) no)) (λ o. untracked o no) faults
      (modelled_kept left (λ o is. nothing o no)))

  module _ (high : latest.manifest.last_l0_seq < accepted h) where
    some : has_untabled h latest.manifest ≡ true
    some = lt-ltb latest.manifest.last_l0_seq (accepted h) high

    as-all : (r : Result (Unit {0}) SlateError) (counter' made : ℕ) (o o' : Objects) → MakesAll r counter' made o o' → MakesPart (has_ids MemTable h latest (last_log latest.manifest.replay_after_wal_id o)) (flush_changes_under (λ xs. xs) MemTable h latest (last_log latest.manifest.replay_after_wal_id o)) r h.counter counter' made o o'
    as-all r counter' made o o' m =
        let last = last_log latest.manifest.replay_after_wal_id o in
        let changes : flush_changes_under (λ xs. xs) MemTable h latest last ≡ all_changes h latest last = ap (λ x. cond x (all_changes h latest last) []) some in
        let ids : has_ids MemTable h latest last ≡ has_all_ids h latest last = ap (λ x. cond x (has_all_ids h latest last) true) some in
        subst (λ b. MakesPart b (flush_changes_under (λ xs. xs) MemTable h latest last) r h.counter counter' made o o') (sym ids)
        (subst (λ (cs : List Change). MakesPart (has_all_ids h latest last) cs r h.counter counter' made o o') (sym changes) m)

    -- one table is put
    tables-all : (bs : List Batch) (number : ℕ) → tables_put (log_changes (λ xs. xs) bs number ++ table_changes (λ xs. xs) h latest number) ≡ 1
    tables-all [] number = refl
    tables-all (b ∷ bs) number = refl

    table-tracks : (o : Objects) (new : Handle) → new.tracker ≡ packed h.tracker → IsReadAgain (packed h.tracker) → TracksFlush (flush_changes_under (λ xs. xs) MemTable h latest (last_log latest.manifest.replay_after_wal_id o)) h new
    table-tracks o new same again =
        let last = last_log latest.manifest.replay_after_wal_id o in
        let changes : flush_changes_under (λ xs. xs) MemTable h latest last ≡ all_changes h latest last = ap (λ x. cond x (all_changes h latest last) []) some in
        let one : tables_put (flush_changes_under (λ xs. xs) MemTable h latest last) ≡ 1 = ap tables_put changes ∙ tables-all (to_log h) last in
        record {
          is = same ∙ sym (ap (λ n. cond (ltb 0 n) (packed h.tracker) h.tracker) one);
          again = λ more. subst IsReadAgain (sym same) again;
        }

    pub table_ok : (put new : Handle) (next : VersionedManifest) (made : ℕ) → put ≡ record h { durable = put.durable; counter = put.counter; tracker = put.tracker } → put.tracker ≡ packed h.tracker → new ≡ record put { durable = accepted h; view = next } → (h.counter ≤ put.counter) × (put.counter ≤ h.counter + 1) → IsReadAgain (packed h.tracker) →
        IfSome mid (λ o. next ≡ next_flushed h latest (last_log latest.manifest.replay_after_wal_id o)) → CountsFaults {A = Unit {0}} before.faults after.faults (Ok tt) → WhereModelled (MakesAll (Ok tt) put.counter made) mid after.objects → Step t MemTable h before after (Ok tt) new
    table_ok put new next made moved packed_is same counter again commits faults makes =
        subst (Step t MemTable h before after (Ok tt)) (sym same)
        (step_ok t MemTable h before after latest kept found (record put { durable = accepted h; view = next }) made (ap (λ (x : Handle). record x { durable = accepted h; view = next }) moved) counter (inr packed_is) refl
        (λ o is.
        let next_is = subst (λ x. IfSome x (λ o. next ≡ next_flushed h latest (last_log latest.manifest.replay_after_wal_id o))) (kept ∙ is) commits in
        next_is ∙ sym (ap (λ x. cond x (next_flushed h latest (last_log latest.manifest.replay_after_wal_id o)) latest) some))
        (λ o. table-tracks o (record put { durable = accepted h; view = next }) packed_is again)
        faults (modelled_as (Makes t MemTable h before after latest kept found (Ok tt) put.counter made) makes (as-all (Ok tt) put.counter made)))

    pub table_err : (put new : Handle) (e : SlateError) (made : ℕ) → put ≡ record h { durable = put.durable; counter = put.counter; tracker = put.tracker } → put.tracker ≡ packed h.tracker → new ≡ record put { view = latest } → (h.counter ≤ put.counter) × (put.counter ≤ h.counter + 1) →
        DurableAfter (nat_le (grows h) made) h (Err e) put.durable → CountsFaults {A = Unit {0}} before.faults after.faults (Err e) → WhereModelled (MakesAll (Err e) put.counter made) mid after.objects → Step t MemTable h before after (Err e) new
    table_err put new e made moved packed_is same counter number faults makes =
        subst (Step t MemTable h before after (Err e)) (sym same)
        (step_err t MemTable h before after latest kept found (record put { view = latest }) e made (ap (λ (x : Handle). record x { view = latest }) moved) counter (inr packed_is) number refl
        faults (modelled_as (Makes t MemTable h before after latest kept found (Err e) put.counter made) makes (as-all (Err e) put.counter made)))

tracks-by : {L A : Type 0} (cs : List (ChangeOf L)) (h new new' : Handle) (r : Result A SlateError) → IfOk r (λ _. TracksFlush cs h new) → IfOk r (λ _. TracksFlush cs h (record new' { view = new.view; counter = new.counter; tracker = new.tracker }))
tracks-by cs h new new' (Ok _) s = record { is = s.is; again = s.again }
tracks-by cs h new new' (Err e) s = tt

-- What a flush stores depends on no more of the handle after it than its view, its count and its tracker.
module _ {t : Option Objects} {flush_type : FlushType} {made : ℕ} {h : Handle} {before after : Known (List Batch)} {r : Result (Unit {0}) SlateError} {new : Handle} (s : Stores (by_objects t) made flush_type h before r new after) where
  pub stores-by : (new' : Handle) → new'.view ≡ new.view → new'.counter ≡ new.counter → new'.tracker ≡ new.tracker → Stores (by_objects t) made flush_type h before r new' after
  stores-by new' view counter tracker =
      subst (λ v. Stores (by_objects t) made flush_type h before r (record new' { view = v }) after) (sym view)
      (subst (λ c. Stores (by_objects t) made flush_type h before r (record new' { view = new.view; counter = c }) after) (sym counter)
      (subst (λ x. Stores (by_objects t) made flush_type h before r (record new' { view = new.view; counter = new.counter; tracker = x }) after) (sym tracker)
      (record {
        faults = s.faults;
        objects = modelled_as (λ o o'. StoresBatches (by_objects t) flush_type h o r (record new' { view = new.view; counter = new.counter; tracker = new.tracker }) made o') s.objects
            (λ o o' b. record { answer = b.answer; part = b.part; only = b.only; current = b.current; counted = b.counted; after = b.after; tracked = tracks-by (flush_changes (λ xs. xs) flush_type h o) h new new' r b.tracked });
      })))

-- a handle that drops what is in tables
pub forgets : {t : Option Objects} {flush_type : FlushType} {made : ℕ} {h new mid : Handle} {before after : Known (List Batch)} {r : Result (Unit {0}) SlateError} → new ≡ kept_handle mid → StoresBy (λ handle. handle) (by_objects t) flush_type h before r mid after made → StoresBy kept_handle (by_objects t) flush_type h before r new after made
forgets {t} {flush_type} {made} {h} {new} {mid} {before} {after} {r} same s =
    subst (λ x. StoresBy kept_handle (by_objects t) flush_type h before r x after made) (sym same)
    (record {
      flushed = record { same = ap kept_handle s.flushed.same; durable = s.flushed.durable; counter = s.flushed.counter; tracker = s.flushed.tracker };
      stored = stores-by s.stored (kept_handle mid) refl refl refl;
    })

-- The steps of a flush to a table, before its puts and after them.
module _ (h : Handle) (latest : VersionedManifest) where
  abbrev last_in : Objects → ℕ
  last_in o = last_log latest.manifest.replay_after_wal_id o

  abbrev MakesTable : Result (Unit {0}) SlateError → ℕ → ℕ → Objects → Objects → Type 0
  MakesTable r counter' made o o' = MakesPart (has_all_ids h latest (last_in o)) (all_changes h latest (last_in o)) r h.counter counter' made o o'

  abbrev Ends : Result (Unit {0}) SlateError → Handle → Option Objects → Option Objects → Type 0
  Ends r new a b = (made : ℕ) × DurableThen made h r new × WhereModelled (MakesTable r new.counter made) a b

  pub commit_none : {a b : Option Objects} (e : SlateError) → b ≡ a → ((o : Objects) → a ≡ Some o → PutsCause (has_all_ids h latest (last_in o)) (all_changes h latest (last_in o)) o e) → Ends (Err e) h a b
  commit_none e kept cause = (
    0,
    kept_durable e 0 h (λ no. let low = least h.keeps_log in omega arith),
    modelled_kept kept (λ o is. makes_none (has_all_ids h latest (last_in o)) (all_changes h latest (last_in o)) e h.counter o (cause o is)),
  )

  pub unplanned : {a : Option Objects} (last : ℕ) (e : SlateError) → IfSome a (λ o. last ≡ last_in o) → (e ≡ errors.NoMemory) ⊎ ((e ≡ errors.InvalidDBState) × (has_all_ids h latest last ≡ false)) → (o : Objects) → a ≡ Some o → PutsCause (has_all_ids h latest (last_in o)) (all_changes h latest (last_in o)) o e
  unplanned number e found (inl out) o is = subst (PutsCause (has_all_ids h latest (last_in o)) (all_changes h latest (last_in o)) o) (sym out) tt
  unplanned number e found (inr used) o is =
      let at = subst (λ x. IfSome x (λ o. number ≡ last_in o)) is found in
      subst (PutsCause (has_all_ids h latest (last_in o)) (all_changes h latest (last_in o)) o) (sym used.0) (ap (has_all_ids h latest) (sym at) ∙ used.1)

  pub commit_put : {a mid b : Option Objects} (next : VersionedManifest) (last : ℕ) (table : List Batch) (r : Result (Unit {0}) SlateError) (counter' made : ℕ) → mid ≡ a → IfSome a (λ o. last ≡ last_in o) → next ≡ next_flushed h latest last → table ≡ untabled latest.manifest h →
      WhereModelled (MakesPart true (table_puts next.manifest.replay_after_wal_id (to_log h) (next_table h) table next) r h.counter counter' made) mid b → WhereModelled (MakesTable r counter' made) a b
  commit_put next last table r counter' made kept found next_is table_is makes =
      let puts : table_puts next.manifest.replay_after_wal_id (to_log h) (next_table h) table next ≡ all_changes h latest last =
      ap (λ (v : VersionedManifest). table_puts v.manifest.replay_after_wal_id (to_log h) (next_table h) table v) next_is
      ∙ (ap (λ bs. table_puts (next_flushed h latest last).manifest.replay_after_wal_id (to_log h) (next_table h) bs (next_flushed h latest last)) table_is ∙ puts-are h latest last) in
      modelled_from kept makes (λ o o' is m.
      let at = subst (λ x. IfSome x (λ o. last ≡ last_in o)) is found in
      makes-as (has_all_ids h latest (last_in o)) (all_changes h latest (last_in o)) r h.counter counter' made o o'
      (subst (λ (cs : List Change). MakesPart true cs r h.counter counter' made o o') (puts ∙ ap (all_changes h latest) at) m))

  pub commits-by : (a : Option Objects) (next : VersionedManifest) (last : ℕ) → IfSome a (λ o. last ≡ last_in o) → next ≡ next_flushed h latest last → IfSome a (λ o. next ≡ next_flushed h latest (last_in o))
  commits-by None next number found is = tt
  commits-by (Some o) next number found is = is ∙ ap (next_flushed h latest) found

-- ---- a handle whose tracker is packed before the flush
module _ (h : Handle) (latest : VersionedManifest) where
  abbrev packs : Handle
  packs = record h { tracker = packed h.tracker }

  -- the manifest of a flush with these bytes
  abbrev spelled_next : ℕ → List ℕ → VersionedManifest
  spelled_next last bytes = record (next_flushed h latest last) { manifest = record (next_flushed h latest last).manifest { sequence_tracker = Some bytes } }

  next-packed : (last : ℕ) → next_flushed packs latest last ≡ next_flushed h latest last
  next-packed last = ap (λ (t : Tracker). spelled_next last (tracker_bytes t)) (packed-twice h.tracker)

  changes-packed : (last : ℕ) → all_changes packs latest last ≡ all_changes h latest last
  changes-packed last =
      ap (λ (v : VersionedManifest). log_changes (λ xs. xs) (to_log h) last ++ PutTable (next_table h) (untabled latest.manifest h) ∷ PutManifest v.id v.manifest ∷ []) (next-packed last)

  -- the same of a handle that was packed
  module _ (q : Handle) (q_is : q ≡ packs) where
    abbrev last_of : Objects → ℕ
    last_of o = last_log latest.manifest.replay_after_wal_id o

    pub packed-moved : (put : Handle) → put ≡ record q { durable = put.durable; counter = put.counter } → (put ≡ record h { durable = put.durable; counter = put.counter; tracker = put.tracker }) × (put.tracker ≡ packed h.tracker)
    packed-moved put moved =
        let here : put ≡ record packs { durable = put.durable; counter = put.counter } = moved ∙ ap (λ (x : Handle). record x { durable = put.durable; counter = put.counter }) q_is in
        let tracker : put.tracker ≡ packed h.tracker = ap (λ (x : Handle). x.tracker) here in
        (here ∙ ap (λ (t : Tracker). record h { durable = put.durable; counter = put.counter; tracker = t }) (sym tracker), tracker)

    pub packed-counter : (counter : ℕ) → (q.counter ≤ counter) × (counter ≤ q.counter + 1) → (h.counter ≤ counter) × (counter ≤ h.counter + 1)
    packed-counter counter near = subst (λ (x : Handle). (x.counter ≤ counter) × (counter ≤ x.counter + 1)) q_is near

    pub packed-again : IsReadAgain q.tracker → IsReadAgain (packed h.tracker)
    packed-again again = subst (λ (x : Handle). IsReadAgain x.tracker) q_is again

    pub packed-durable : (made : ℕ) (e : SlateError) (durable : ℕ) → DurableAfter (nat_le (grows q) made) q (Err e) durable → DurableAfter (nat_le (grows h) made) h (Err e) durable
    packed-durable made errors.NoMemory durable d = subst (λ (x : Handle). DurableAfter (nat_le (grows x) made) x (Err errors.NoMemory) durable) q_is d
    packed-durable made e durable d = subst (λ (x : Handle). DurableAfter (nat_le (grows x) made) x (Err e) durable) q_is d

    commits-at : (a : Option Objects) (next : VersionedManifest) → IfSome a (λ o. next ≡ next_flushed packs latest (last_of o)) → IfSome a (λ o. next ≡ next_flushed h latest (last_of o))
    commits-at None next is = tt
    commits-at (Some o) next is = is ∙ next-packed (last_of o)

    pub packed-commits : (a : Option Objects) (next : VersionedManifest) → IfSome a (λ o. next ≡ next_flushed q latest (last_of o)) → IfSome a (λ o. next ≡ next_flushed h latest (last_of o))
    packed-commits a next is = commits-at a next (subst (λ (x : Handle). IfSome a (λ o. next ≡ next_flushed x latest (last_of o))) q_is is)

    pub packed-makes : (a b : Option Objects) (r : Result (Unit {0}) SlateError) (counter' made : ℕ) → WhereModelled (λ o o'. MakesPart (has_all_ids q latest (last_of o)) (all_changes q latest (last_of o)) r q.counter counter' made o o') a b →
        WhereModelled (λ o o'. MakesPart (has_all_ids h latest (last_of o)) (all_changes h latest (last_of o)) r h.counter counter' made o o') a b
    packed-makes a b r counter' made makes =
        modelled_as (λ o o'. MakesPart (has_all_ids h latest (last_of o)) (all_changes h latest (last_of o)) r h.counter counter' made o o')
        (subst (λ (x : Handle). WhereModelled (λ o o'. MakesPart (has_all_ids x latest (last_of o)) (all_changes x latest (last_of o)) r x.counter counter' made o o') a b) q_is makes)
        (λ o o' m. subst (λ (cs : List Change). MakesPart (has_all_ids h latest (last_of o)) cs r h.counter counter' made o o') (changes-packed (last_of o)) m)
