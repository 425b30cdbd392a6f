-- Why an opening is refused over an honest store, and that a job store that was opened is ready.
use Rattle.std.proofs.Common.{◌≡◌, ℕ, ◌≤◌, ◌⊎◌, inl, inr, List, Option, Some, None, Result, Ok, Err, Bool, true, false, cond, refl, sym, subst, ap, ◌∙◌, arith}
use Rattle.std.specs.Option.{IfSome, option_eq, option_or}
use Rattle.std.specs.Result.{IfErr, IfOk}
use Rattle.std.specs.Str.{bytes_eq}
use Rattle.slate_types.specs.declared.batches.Batch.{Batch}
use Rattle.slate_types.specs.declared.store_errors.StoreFault.TheVariants.{NotFound, Unavailable}
use Rattle.slate_store.specs.Calls.{HasRisen}
use Rattle.slate_store.specs.Content.{AreStored, IsSound, content}
use Rattle.slate_store.specs.Objects.{Objects, latest_manifest}
use Rattle.slate_store.specs.declared.objects.TableId.{TableId}
use Rattle.slate_store.specs.declared.objects.VersionedManifest.{VersionedManifest}
use Rattle.slate_errors.specs.declared.endings.TaskName.{TaskName}
use Rattle.slate_errors.specs.declared.errors.SlateError.{SlateError}
use Rattle.slate_errors.specs.declared.errors.SlateError.TheVariants as errors
use Rattle.slate_model.specs.Handle.{Handle}
use Rattle.slate_model.specs.Known.{Known}
use Rattle.slate_model.specs.Open.{AreSegmented, IsFresh, OpenCause, OpenFault, OpensHandle, found_log, has_next, is_ready, log_refusal, manifest_refusal, open_refusal, opened_manifest, refusal_unless, replayed}
use Rattle.slate_model.specs.Read.{AnswersRead, Gives, ReadsTables}
use Rattle.slate_model.specs.Stores.{by_objects}
use Rattle.slate_model.specs.Unflushed.{most_bytes}
use Rattle.slate_model.proofs.Reopened.{no-fault}
use Rattle.slate_jobs.specs.declared.jobs.JobRefusal.{JobRefusal}
use Rattle.slate_jobs.specs.declared.jobs.JobRefusal.TheVariants as refusals
use Rattle.slate_jobs.specs.Causes.{IsOpenCause, IsOpenRefusal, IsReady, IsScanRefusal, OpensFor, TakesBatches}
use Rattle.slate_jobs.specs.Queue.{Queue, refusal_by}

-- ---- the writer
abbrev failed : SlateError → Result Handle SlateError
failed e = Err e

-- the refusal of an error is of another kind
pub passing-foreign : (e : SlateError) → refusal_by None e ≡ refusals.Foreign → ⊥
passing-foreign errors.NoMemory is = cc
passing-foreign e is = cc

-- without an extractor no prefix is unknown
unless-known : (b : Bool) (p n : List ℕ) → cond b None (Some errors.InvalidDBState) ≡ Some (errors.SegmentPrefixNotRecognized p n) → ⊥
unless-known true p n is = cc
unless-known false p n is = cc

named-known : (a b c : Bool) (x y : Option (List ℕ)) (p n : List ℕ) →
    option_or (option_or (option_or (cond a None (Some (errors.SegmentExtractorMismatch x y))) None) (cond b None (Some errors.InvalidDBState))) (cond c None (Some errors.InvalidDBState)) ≡ Some (errors.SegmentPrefixNotRecognized p n) → ⊥
named-known true true c x y p n is = unless-known c p n is
named-known true false c x y p n is = cc
named-known false b c x y p n is = cc

none-unknown : (o : Objects) (p n : List ℕ) → open_refusal None o ≡ Some (errors.SegmentPrefixNotRecognized p n) → ⊥
none-unknown o p n is = by (latest_manifest o) is where
  by : (latest : Option VersionedManifest) → option_or (manifest_refusal None latest) (log_refusal (found_log o)) ≡ Some (errors.SegmentPrefixNotRecognized p n) → ⊥
  by None at = unless-known _ p n at
  by (Some latest) at = ready (is_ready latest) at where
    ready : (b : Bool) → option_or (cond b (option_or (option_or (cond (option_eq bytes_eq latest.manifest.extractor_name None) None (Some (errors.SegmentExtractorMismatch latest.manifest.extractor_name None))) None) (refusal_unless (has_next latest))) (Some errors.InvalidDBState)) (log_refusal (found_log o))
        ≡ Some (errors.SegmentPrefixNotRecognized p n) → ⊥
    ready true at = named-known _ _ _ latest.manifest.extractor_name None p n at
    ready false at = cc

passing-refused : (rose : Type 0) (o : Objects) (e : SlateError) → IsOpenCause rose o e ⊎ (e ≡ errors.NoMemory) → IsOpenRefusal rose o (refusal_by None e)
passing-refused rose o e (inr short) = subst (λ x. IsOpenRefusal rose o (refusal_by None x)) (sym short) tt
passing-refused rose o errors.InvalidDBState (inl cause) = cause
passing-refused rose o (errors.SegmentExtractorMismatch persisted configured) (inl cause) = cause
passing-refused rose o (errors.ObjectStoreError Unavailable) (inl cause) = cause
passing-refused rose o e (inl cause) = absurd cause

module _ (o : Objects) (sound : IsSound o) (before after : Known (List Batch)) (is : before.objects ≡ Some o) (made limit : ℕ) (tasks : List TaskName) where
  abbrev risen : Type 0
  risen = HasRisen before.faults after.faults

  module _ (e : SlateError) (opens : OpensHandle (by_objects before.objects) None made true limit tasks before (Err e) after) where
    abbrev segments-of : SlateError → Type 0
    segments-of x = AreSegmented None (replayed (opened_manifest None o) (content o)) (failed x)

    writer-cause : IsOpenCause risen o e ⊎ (e ≡ errors.NoMemory)
    writer-cause = by e refl (opens.opens.some o is).2.answer where
      by : (x : SlateError) → e ≡ x → OpenCause None (OpenFault o) o x → IsOpenCause risen o x ⊎ (x ≡ errors.NoMemory)
      by errors.InvalidDBState at cause = inl cause
      by (errors.SegmentExtractorMismatch persisted configured) at cause = inl cause
      by (errors.SegmentPrefixNotRecognized prefix name) at cause = absurd (none-unknown o prefix name cause)
      by (errors.EmptySegmentPrefix key) at cause =
          let segmented = subst segments-of at (opens.segmented o (content o) is (o, is, sound, refl)) in
          absurd (let no = segmented in cc)
      by (errors.ObjectStoreError Unavailable) at cause = inl (opens.faults.unavailable (ap Err at))
      by errors.NoMemory at cause = inr refl
      by x at cause = absurd (no-fault o x sound cause)

    pub writer-refused : (refusal : JobRefusal) → refusal ≡ refusal_by None e → OpensFor {A = Handle} risen o (Err refusal)
    writer-refused refusal same = record { fits = tt; refused = subst (IsOpenRefusal risen o) (sym same) (passing-refused risen o e writer-cause) }

  pub writer-fits : (h : Handle) → OpensHandle (by_objects before.objects) None made true limit tasks before (Ok h) after → OpensFor risen o (Ok h)
  writer-fits h opens = record { fits = (opens.opens.some o is).2.answer; refused = tt }

-- ---- the scan
module _ {A : Type 0} (tables : List TableId) (has_rows : List Batch → Type 0) (is_plain : List Batch → A → Type 0) (before after : Known (List Batch)) where
  pub scan-refused : (e : SlateError) (refusal : JobRefusal) → refusal ≡ refusal_by None e → ReadsTables tables has_rows (Gives is_plain) before (Err e) after → IsScanRefusal (HasRisen before.faults after.faults) before.objects tables refusal
  scan-refused e refusal same reads = subst (IsScanRefusal (HasRisen before.faults after.faults) before.objects tables) (sym same) (by e refl reads.plain) where
    by : (x : SlateError) → e ≡ x → AnswersRead has_rows (Gives is_plain) (Err x) → IsScanRefusal (HasRisen before.faults after.faults) before.objects tables (refusal_by None x)
    by (errors.ObjectStoreError Unavailable) at plain = reads.faults.unavailable (ap Err at)
    by (errors.ObjectStoreError NotFound) at plain = reads.missing (ap Err at)
    by errors.MergeOperatorMissing at plain = absurd plain.2
    by errors.MergeOperatorError at plain = absurd plain.2
    by errors.ChecksumMismatch at plain = absurd plain.2
    by errors.NoMemory at plain = tt
    by x at plain = absurd plain

-- ---- an opening
later-risen : (a b c : ℕ) → a ≤ b → HasRisen b c → HasRisen a c
later-risen a b c low (inl more) = inl (omega (arith, low, more))
later-risen a b c low (inr end) = inr end

module _ (o o' : Objects) (a b c : ℕ) (low : a ≤ b) (tables : List TableId) (stored : AreStored o' tables) (t : Option Objects) (is : t ≡ Some o') (fits : open_refusal None o ≡ None) where
  pub rows-refused : (refusal : JobRefusal) → IsScanRefusal (HasRisen b c) t tables refusal → OpensFor {A = Queue} (HasRisen a c) o (Err refusal)
  rows-refused refusal why = record { fits = tt; refused = by refusal why } where
    by : (x : JobRefusal) → IsScanRefusal (HasRisen b c) t tables x → IsOpenRefusal (HasRisen a c) o x
    by refusals.Foreign cause = fits
    by refusals.NoMemory cause = tt
    by refusals.Full cause = cause
    by (refusals.Writer (errors.ObjectStoreError Unavailable)) cause = later-risen a b c low cause
    by (refusals.Writer (errors.ObjectStoreError NotFound)) cause = absurd (subst (λ x. IfSome x (λ p. AreStored p tables → ⊥)) is cause stored)
    by (refusals.Writer e) cause = absurd cause

pub rows-fit : (o : Objects) (rose : Type 0) → open_refusal None o ≡ None → (P : Queue → Type 0) (R : Type 0) (result : Result Queue JobRefusal) → IfOk result P →
    IfErr result (λ refusal. (refusal ≡ refusals.NoMemory) ⊎ ((refusal ≡ refusals.Foreign) × R)) → OpensFor rose o result
rows-fit o rose fits P R (Ok queue) ok err = record { fits = fits; refused = tt }
rows-fit o rose fits P R (Err refusal) ok err = record {
  fits = tt;
  refused = elim err [
    | inl short ↦ subst (IsOpenRefusal rose o) (sym short) tt
    | inr none ↦ subst (IsOpenRefusal rose o) (sym none.0) fits
  ];
}

pub fresh-takes : (limit : ℕ) (tasks : List TaskName) (h : Handle) → limit ≡ most_bytes → IsFresh true limit tasks h → TakesBatches h
fresh-takes limit tasks h most fresh = record { unclosed = fresh.unclosed; logs = fresh.keeps; unlimited = fresh.limit_is ∙ most }

pub rows-ready : (h : Handle) → TakesBatches h → (R : Queue → Type 0) (result : Result Queue JobRefusal) → IfOk result (λ queue. (queue.handle ≡ h) × (queue.failure ≡ None) × R queue) → IfOk result IsReady
rows-ready h takes R (Ok queue) ok = record { live = ok.1; handle = subst TakesBatches (sym ok.0) takes }
rows-ready h takes R (Err refusal) ok = tt

pub rest-refused : {A : Type 0} (rose : Type 0) (t : Option Objects) (tables : List TableId) (result : Result A JobRefusal) → IfErr result (λ refusal. (refusal ≡ refusals.NoMemory) ⊎ (refusal ≡ refusals.Foreign)) → IfErr result (IsScanRefusal rose t tables)
rest-refused rose t tables (Ok rows) why = tt
rest-refused rose t tables (Err refusal) why = elim why [
  | inl short ↦ subst (IsScanRefusal rose t tables) (sym short) tt
  | inr foreign ↦ subst (IsScanRefusal rose t tables) (sym foreign) tt
]
