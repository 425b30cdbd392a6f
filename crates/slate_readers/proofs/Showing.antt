-- What is published of the first reader of a live state is what it sees in the world.
use Rattle.std.proofs.Common.{◌≡◌, ◌∙◌, ℕ, ◌<◌, ◌≤◌, ◌++◌, ◌∷◌, [], List, length, Option, Some, None, inl, inr, refl, sym, subst, ap, map, Bool, arith}
use Rattle.std.specs.Prelude.{Decides, slice_get, nat_eq, ◌&&◌}
use Rattle.std.specs.Cmp.{unsigned_Decides}
use Rattle.std.specs.Option.{option_map}
use Rattle.std.proofs.lemmas.Bool.Decides.{Decides-and, Decides-like}
use Rattle.std.proofs.lemmas.List.{length-map}
use Rattle.std.proofs.lemmas.Option.{slice_get-map}
use Rattle.slate_types.specs.declared.batches.Batch.{Batch}
use Rattle.slate_store.specs.declared.objects.TableId.{TableId}
use Rattle.slate_published.specs.Published.{Published}
use Rattle.slate_published.specs.States.{last_of}
use Rattle.slate_model.specs.Follower.{Follower}
use Rattle.slate_model.specs.Known.{Known}
use Rattle.slate_model.specs.Object.{Object, Handle, Snapshot, Follower as AFollower, kept}
use Rattle.slate_live.specs.Publishing.{reader_of, seen_at, seen_state}
use Rattle.slate_live.specs.Represents.{Represents}
use Rattle.slate_live.specs.State.{Live}
use Rattle.slate_live.specs.World.{World}
use Rattle.slate_readers.specs.Changes.{IsShown, NoneBelow, ShowsFirst, first_reader, first_state}
use Rattle.slate_readers.proofs.Firsts.{first-found, first-none, none-world}

-- ---- the cases of what is published
pub shows-none : (seen : Option Published) (states states' : List Published) → None ≡ seen → states' ≡ states → ShowsFirst seen states states'
shows-none seen states states' is same = subst (λ s. ShowsFirst s states states') is same

pub shows-same : (state : Published) (seen : Option Published) (states states' : List Published) → Some state ≡ seen → IsShown state states → states' ≡ states → ShowsFirst seen states states'
shows-same state seen states states' is shown same = subst (λ s. ShowsFirst s states states') is (inl (shown, same))

pub shows-lower : (state : Published) (seen : Option Published) (states states' : List Published) → Some state ≡ seen → state.number < (last_of states).number → states' ≡ states → ShowsFirst seen states states'
shows-lower state seen states states' is lower same = subst (λ s. ShowsFirst s states states') is (inr (inl (lower, same)))

pub shows-more : (state : Published) (seen : Option Published) (states states' : List Published) → Some state ≡ seen → (IsShown state states → ⊥) → states' ≡ states ++ state ∷ [] → ShowsFirst seen states states'
shows-more state seen states states' is differs more = subst (λ s. ShowsFirst s states states') is (inr (inr (differs, more)))

-- ---- the first reader
a-reader : (object : Option Object) (reader : Follower) → Some reader ≡ reader_of (option_map kept object) → (f : Follower) × (reader_of object ≡ Some f)
a-reader None reader is = absurd (cc)
a-reader (Some (Handle handle)) reader is = absurd (cc)
a-reader (Some (Snapshot snapshot)) reader is = absurd (cc)
a-reader (Some (AFollower f)) reader is = (f, refl)

pub at-first : (live : Live) (store : Known (List Batch)) (w : World) (n : ℕ) (reader : Follower) → Represents live store w → NoneBelow n live.objects →
    Some reader ≡ reader_of (slice_get live.objects n) → seen_at w n ≡ first_state w
at-first live store w n reader stands none is =
    let objects : live.objects ≡ map kept w.objects = (stands.represents).objects in
    let here : slice_get live.objects n ≡ option_map kept (slice_get w.objects n) = ap (λ os. slice_get os n) objects ∙ slice_get-map kept w.objects n in
    let found = a-reader (slice_get w.objects n) reader (is ∙ ap reader_of here) in
    let first : first_reader w.objects ≡ Some found.0 = first-found n w.objects found.0 (none-world n w.objects (subst (NoneBelow n) objects none)) found.1 in
    ap (option_map (seen_state w.stored)) (found.1 ∙ sym first)

pub none-first : (live : Live) (store : Known (List Batch)) (w : World) (n : ℕ) → Represents live store w → NoneBelow n live.objects → length live.objects ≤ n → None ≡ first_state w
none-first live store w n stands none all =
    let objects : live.objects ≡ map kept w.objects = (stands.represents).objects in
    let count : length live.objects ≡ length w.objects = ap length objects ∙ length-map w.objects kept in
    let first : first_reader w.objects ≡ None = first-none n w.objects (omega (arith, count)) (none-world n w.objects (subst (NoneBelow n) objects none)) in
    sym (ap (option_map (seen_state w.stored)) first)

-- ---- ids of tables
abbrev table_test : TableId → TableId → Bool
table_test a b = nat_eq a.epoch b.epoch && nat_eq a.index b.index

pub table_ids : (a b : TableId) → Decides (table_test a b) (a ≡ b)
table_ids a b =
    Decides-like (table_test a b) (λ h i. record { epoch = h.0 i; index = h.1 i }) (λ e. (ap (λ (t : TableId). t.epoch) e, ap (λ (t : TableId). t.index) e))
    (Decides-and _ _ (unsigned_Decides a.epoch b.epoch) (unsigned_Decides a.index b.index))
