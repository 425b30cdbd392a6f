-- What a read of a handle's tables and of its batches answers.
use Rattle.std.proofs.Common.{arith, ◌≡◌, refl, sym, ◌∙◌, ap, subst, inl, Bool, true, false, List, [], ◌∷◌, ◌++◌, Option, None, Result, Ok, Err}
use Rattle.std.specs.List.{flat_map}
use Rattle.std.specs.Option.{IfSome}
use Rattle.std.proofs.lemmas.Bool.{false≢true}
use Rattle.std.proofs.lemmas.List.{append-nil}
use Rattle.slate_types.specs.declared.batches.Batch.{Batch}
use Rattle.slate_types.specs.declared.batches.KeyValue.{KeyValue}
use Rattle.slate_types.specs.declared.read_faults.ReadFault.{ReadFault}
use Rattle.slate_types.specs.declared.read_faults.ReadFault.TheVariants.{ChecksumMismatch, MergeOperatorError, MergeOperatorMissing, NoMemory}
use Rattle.slate_types.specs.declared.store_errors.StoreFault.{StoreFault}
use Rattle.slate_types.specs.declared.store_errors.StoreFault.TheVariants.{Unavailable}
use Rattle.slate_reads.specs.Read.{Reads as IsRead}
use Rattle.slate_store.specs.Calls.{KeepsFaults}
use Rattle.slate_store.specs.Objects.{Objects}
use Rattle.slate_store.specs.declared.objects.TableId.{TableId}
use Rattle.slate_errors.specs.Errors.{closed_error, error_of_read}
use Rattle.slate_errors.specs.declared.errors.SlateError.{SlateError}
use Rattle.slate_errors.specs.declared.errors.SlateError.TheVariants.{ObjectStoreError}
use Rattle.slate_model.specs.Handle.{CloseResult, Handle}
use Rattle.slate_model.specs.Known.{Known}
use Rattle.slate_model.specs.Object.{Handle as AHandle}
use Rattle.slate_model.specs.Read.{AnswersRead, ReadsUnlessClosed}
use Rattle.slate_model.specs.Stores.{kept_rows}
use Rattle.slate_model.specs.Tables.{AreJoined}

-- the batches of the tables, and then those in memory, are what a handle reads
pub rows-kept : (objects : Option Objects) (h : Handle) (joined : List Batch) (memory : List (List Batch)) (kept : List Batch) → AreJoined objects h.view.manifest.tables joined → memory ≡ kept ∷ [] → kept ≡ h.line.batches →
    kept_rows objects (AHandle h) (joined ++ flat_map (λ table. table) memory)
rows-kept objects h joined memory kept are memory-is kept-is =
    (joined, are, ap (λ bs. joined ++ bs) (ap (flat_map (λ table. table)) memory-is ∙ append-nil kept ∙ kept-is))

abbrev is_of_store : SlateError → Bool
is_of_store (ObjectStoreError fault) = true
is_of_store _ = false

by-read : (fault : ReadFault) → is_of_store (error_of_read fault) ≡ false
by-read ChecksumMismatch = refl
by-read MergeOperatorError = refl
by-read MergeOperatorMissing = refl
by-read NoMemory = refl

-- no fault of a read is one of the store
not-stored : {A : Type 0} (answer : Result A SlateError) (fault : ReadFault) (of : StoreFault) → answer ≡ Err (error_of_read fault) → answer ≡ Err (ObjectStoreError of) → ⊥
not-stored {A = A} answer fault of is other =
    let same : error_of_read fault ≡ ObjectStoreError of = error-same (error_of_read fault) (ObjectStoreError of) (sym is ∙ other) in
    false≢true (sym (by-read fault) ∙ ap is_of_store same) where
      error-same : (a b : SlateError) → ◌≡◌ {A = Result A SlateError} (Err a) (Err b) → a ≡ b
      error-same a b is = cc

-- a read of a handle that is open, by these batches
module _ {A : Type 0} (result : CloseResult) (tables : List TableId) (has_rows : List Batch → Type 0) (before after : Known (List Batch)) (rows : List Batch) (live : result ≡ None)
    (same : after.faults ≡ before.faults) (kept : after.objects ≡ before.objects) (alone : tables ≡ [] → after ≡ before) (has : has_rows rows) where
  pub given : (is_plain : List Batch → Result A ReadFault → Type 0) (a : A) → is_plain rows (Ok a) → ReadsUnlessClosed result tables has_rows is_plain before (Ok a) after
  given is_plain a plain = record {
    closed = subst (λ (r : CloseResult). IfSome r (λ r. (◌≡◌ {A = Result A SlateError} (Ok a) (Err (closed_error r))) × (after ≡ before))) (sym live) tt;
    read = λ _. record {
      faults = record { count = omega (arith, same); unavailable = λ is. absurd (cc); stays = same };
      kept = kept;
      missing = λ is. absurd (cc);
      alone = λ none. (alone none, λ is. cc);
      plain = (rows, has, plain);
    };
  }

  answers : (is_plain : List Batch → Result A ReadFault → Type 0) (fault : ReadFault) → ((fault ≡ NoMemory → ⊥) → is_plain rows (Err fault)) → AnswersRead has_rows is_plain (Err (error_of_read fault))
  answers is_plain ChecksumMismatch plain = (rows, has, plain (λ is. cc))
  answers is_plain MergeOperatorError plain = (rows, has, plain (λ is. cc))
  answers is_plain MergeOperatorMissing plain = (rows, has, plain (λ is. cc))
  answers is_plain NoMemory plain = tt

  pub refused : (is_plain : List Batch → Result A ReadFault → Type 0) (answer : Result A SlateError) (fault : ReadFault) → answer ≡ Err (error_of_read fault) → ((fault ≡ NoMemory → ⊥) → is_plain rows (Err fault)) → ReadsUnlessClosed result tables has_rows is_plain before answer after
  refused is_plain answer fault is plain = record {
    closed = subst (λ (r : CloseResult). IfSome r (λ r. (answer ≡ Err (closed_error r)) × (after ≡ before))) (sym live) tt;
    read = λ _. record {
      faults = record {
        count = omega (arith, same);
        unavailable = λ other. absurd (not-stored answer fault _ is other);
        stays = subst (KeepsFaults (ObjectStoreError Unavailable) before.faults after.faults) (sym is) (inl same);
      };
      kept = kept;
      missing = λ other. absurd (not-stored answer fault _ is other);
      alone = λ none. (alone none, λ other. not-stored answer fault _ is other);
      plain = subst (AnswersRead has_rows is_plain) (sym is) (answers is_plain fault plain);
    };
  }

-- the plain read of a fault
pub plain-fault : (read : Result (Option KeyValue) ReadFault) (fault : ReadFault) → IsRead read (Err fault) → (fault ≡ NoMemory → ⊥) → Err fault ≡ read
plain-fault read ChecksumMismatch is some = sym is
plain-fault read MergeOperatorError is some = sym is
plain-fault read MergeOperatorMissing is some = sym is
plain-fault read NoMemory is some = absurd (some refl)
