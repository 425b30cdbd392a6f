-- What is published of a reader is what it sees in the world.
use Rattle.std.proofs.Common.{◌≡◌, ◌∙◌, ℕ, List, Option, Some, None, refl, sym, ap}
use Rattle.std.specs.Prelude.{slice_get}
use Rattle.std.specs.Option.{option_map}
use Rattle.std.proofs.lemmas.Option.{slice_get-map}
use Rattle.slate_types.specs.declared.batches.Batch.{Batch}
use Rattle.slate_types.specs.Line.{Line, IsPrefix, batches_above, end}
use Rattle.slate_published.specs.Published.{Published}
use Rattle.slate_follow.specs.Publishing.{published_state}
use Rattle.slate_model.specs.Follower.{Follower, kept_follower}
use Rattle.slate_model.specs.Handle.{up_to}
use Rattle.slate_model.specs.Known.{Known}
use Rattle.slate_model.specs.Object.{Object, Handle, Snapshot, Follower as AFollower, kept}
use Rattle.slate_model.proofs.Keeping.{line_above-end}
use Rattle.slate_model.proofs.Prefixes.{up_to-end}
use Rattle.slate_live.specs.Publishing.{reader_of, seen_at, seen_state}
use Rattle.slate_live.specs.Represents.{Represents}
use Rattle.slate_live.specs.State.{Live}
use Rattle.slate_live.specs.World.{World}

-- the state of this number and these batches, by the manifest that a reader goes by
with : Follower → ℕ → List Batch → Published
with f n batches =
    record { number = n; manifest_id = f.view.id; tables = f.view.manifest.tables; last_l0_seq = f.view.manifest.last_l0_seq; memory = batches }

kept-seen : (stored : Line) (f : Follower) → IsPrefix f.line stored → published_state (kept_follower f) ≡ seen_state stored f
unfolding with
kept-seen stored f begins =
    let last = f.view.manifest.last_l0_seq in
    let front : up_to (end f.line) stored ≡ f.line = ap (up_to (end f.line)) begins.1 ∙ up_to-end f.line begins.0 in
    ap (λ n. with f n (batches_above last f.line.batches)) (line_above-end last f.line) ∙ ap (λ (l : Line). with f (end f.line) (batches_above last l.batches)) (sym front)

by-object : (stored : Line) (object : Option Object) → ((f : Follower) → object ≡ Some (AFollower f) → IsPrefix f.line stored) →
    option_map published_state (reader_of (option_map kept object)) ≡ option_map (seen_state stored) (reader_of object)
by-object stored None begins = refl
by-object stored (Some (Handle handle)) begins = refl
by-object stored (Some (Snapshot snapshot)) begins = refl
by-object stored (Some (AFollower f)) begins = ap Some (kept-seen stored f (begins f refl))

pub published-seen : (live : Live) (store : Known (List Batch)) (w : World) (n : ℕ) → Represents live store w →
    option_map published_state (reader_of (slice_get live.objects n)) ≡ seen_at w n
published-seen live store w n stands =
    let objects = (stands.represents).objects in
    let here : slice_get live.objects n ≡ option_map kept (slice_get w.objects n) = ap (λ os. slice_get os n) objects ∙ slice_get-map kept w.objects n in
    ap (λ o. option_map published_state (reader_of o)) here ∙ by-object w.stored (slice_get w.objects n) (λ f at. ((stands.represents).valid.followers n f at).0)
