-- Which errors a call of a handle may answer, from those of the calls that it makes, and which calls of the store an opening
-- makes that the latest manifest decides.
use Rattle.std.proofs.Common.{◌≡◌, ◌⊎◌, inl, inr, sym, ap, subst, ◌∙◌, refl, Option, Some, None}
use Rattle.std.specs.Option.{IfSome, option_or}
use Rattle.slate_types.specs.declared.store_errors.StoreError.{StoreError}
use Rattle.slate_types.specs.declared.store_errors.StoreError.TheVariants as refusals
use Rattle.slate_types.specs.declared.store_errors.StoreFault.TheVariants.{Unavailable}
use Rattle.slate_store.specs.declared.objects.VersionedManifest.{VersionedManifest}
use Rattle.slate_store.specs.Calls.{IsOfList, IsOfPut}
use Rattle.slate_store.specs.Objects.{Objects, latest_manifest}
use Rattle.slate_errors.specs.Errors.{error_of_store}
use Rattle.slate_errors.specs.declared.errors.SlateError.{SlateError}
use Rattle.slate_errors.specs.declared.errors.SlateError.TheVariants as errors
use Rattle.slate_model.specs.Open.{found_log, log_refusal, manifest_refusal, open_refusal}
use Rattle.slate_model.specs.Segments.{Extractor}
use Rattle.slate_segments.specs.Refusals.{IsOfSegment}
use Rattle.slate_writer.specs.Kinds.{IsOfFlush, IsOfLooking, IsOfOpening}
use Rattle.slate_writer.specs.Opening.{IsOfFinding}

pub list-looking : (r : StoreError) → IsOfList r → IsOfLooking (error_of_store r)
list-looking refusals.Failed of = tt
list-looking refusals.NoMemory of = tt
list-looking refusals.Exists of = absurd of
list-looking refusals.NotFound of = absurd of

pub looking-flush : (e : SlateError) → IsOfLooking e → IsOfFlush e
looking-flush errors.LatestTransactionalObjectVersionMissing of = tt
looking-flush errors.Fenced of = tt
looking-flush (errors.ObjectStoreError Unavailable) of = tt
looking-flush errors.NoMemory of = tt
looking-flush e of = absurd of

pub list-flush : (r : StoreError) → IsOfList r → IsOfFlush (error_of_store r)
list-flush r of = looking-flush (error_of_store r) (list-looking r of)

pub put-flush : (r : StoreError) → IsOfPut r → IsOfFlush (error_of_store r)
put-flush refusals.Exists of = tt
put-flush refusals.Failed of = tt
put-flush refusals.NoMemory of = tt
put-flush refusals.NotFound of = absurd of

pub planned-flush : {P : Type 0} (e : SlateError) → (e ≡ errors.NoMemory) ⊎ ((e ≡ errors.InvalidDBState) × P) → IsOfFlush e
planned-flush e (inl is) = subst IsOfFlush (sym is) tt
planned-flush e (inr is) = subst IsOfFlush (sym is.0) tt

pub list-opening : (r : StoreError) → IsOfList r → IsOfOpening (error_of_store r)
list-opening refusals.Failed of = tt
list-opening refusals.NoMemory of = tt
list-opening refusals.Exists of = absurd of
list-opening refusals.NotFound of = absurd of

pub put-opening : (r : StoreError) → IsOfPut r → IsOfOpening (error_of_store r)
put-opening refusals.Exists of = tt
put-opening refusals.Failed of = tt
put-opening refusals.NoMemory of = tt
put-opening refusals.NotFound of = absurd of

-- a replay that is refused
pub replay-opening : (r : StoreError) → (r ≡ refusals.NotFound → ⊥) → IsOfOpening (error_of_store r)
replay-opening refusals.Exists some = tt
replay-opening refusals.Failed some = tt
replay-opening refusals.NoMemory some = tt
replay-opening refusals.NotFound some = absurd (some refl)

pub finding-opening : (e : SlateError) → IsOfFinding e → IsOfOpening e
finding-opening errors.InvalidDBState of = tt
finding-opening (errors.SegmentExtractorMismatch persisted configured) of = tt
finding-opening (errors.SegmentPrefixNotRecognized prefix name) of = tt
finding-opening (errors.ObjectStoreError Unavailable) of = tt
finding-opening errors.NoMemory of = tt
finding-opening e of = absurd of

pub segment-opening : (e : SlateError) → IsOfSegment e → IsOfOpening e
segment-opening (errors.EmptySegmentPrefix key) of = tt
segment-opening errors.NoMemory of = tt
segment-opening e of = absurd of

-- an opening whose extractor the latest manifest doesn't refuse isn't decided by it
pub undecided : {C : Type 0} (t : Option Objects) (x : Option Extractor) (latest : Option VersionedManifest) → IfSome t (λ o. latest ≡ latest_manifest o) → manifest_refusal x latest ≡ None →
    (o : Objects) → t ≡ Some o → (manifest_refusal x (latest_manifest o) ≡ None → ⊥) → C
undecided t x latest found none o is decided =
    let at = subst (λ y. IfSome y (λ o. latest ≡ latest_manifest o)) is found in
    absurd (decided (ap (manifest_refusal x) (sym at) ∙ none))

or-none : (a b : Option SlateError) → option_or a b ≡ None → a ≡ None
or-none None b is = refl
or-none (Some e) b is = is

-- nor is one that nothing stands against
pub unrefused : {C : Type 0} (t : Option Objects) (x : Option Extractor) → IfSome t (λ o. open_refusal x o ≡ None) → (o : Objects) → t ≡ Some o → (manifest_refusal x (latest_manifest o) ≡ None → ⊥) → C
unrefused t x fits o is decided =
    let at = subst (λ y. IfSome y (λ o. open_refusal x o ≡ None)) is fits in
    absurd (decided (or-none (manifest_refusal x (latest_manifest o)) (log_refusal (found_log o)) at))
