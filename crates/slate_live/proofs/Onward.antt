-- How a command carries the objects of a store on, and that a reader beside the world stands beside it then.
use Rattle.slate_errors.specs.declared.endings.TaskName.{TaskName}
use Rattle.slate_model.specs.Segments.{Extractor, extractor_name}
use Rattle.std.proofs.Common.{◌≡◌, ℕ, zero, suc, ◌+◌, ◌<◌, ◌≤◌, ◌⊎◌, inl, inr, [], ◌∷◌, ◌++◌, set, Some, Bool, refl, sym, subst, ap, ◌∙◌, arith, List, Option}
use Rattle.std.specs.List.{slice_get}
use Rattle.slate_types.specs.Line.{Line}
use Rattle.slate_store.specs.Content.{IsSound}
use Rattle.slate_store.specs.Objects.{Objects, latest_manifest}
use Rattle.slate_store.specs.declared.objects.TableId.{TableId}
use Rattle.slate_store.specs.declared.objects.VersionedManifest.{VersionedManifest}
use Rattle.slate_model.specs.Begun.{Begun}
use Rattle.slate_model.specs.Catalogue.{catalogue_of}
use Rattle.slate_model.specs.Changes.{after_part}
use Rattle.slate_model.specs.Follower.{Follower}
use Rattle.slate_model.specs.Handle.{Handle}
use Rattle.slate_model.specs.Object.{Object, Handle as AHandle, Follower as AFollower}
use Rattle.slate_model.specs.Open.{found_log, next_manifest, open_changes, opened_handle, opened_manifest}
use Rattle.slate_model.proofs.Adding.{Lasts}
use Rattle.slate_model.proofs.Logging.{LogsAre, OfLine, PastLine, logs-are_same, logs-same, none-put_logs, stay-follow, stay-go}
use Rattle.slate_model.proofs.Maintained.{Maintained}
use Rattle.slate_model.proofs.Moving.{Follows, Moved}
use Rattle.slate_model.proofs.Opening.{opened-follows, opened-logs_are, same-table_at}
use Rattle.slate_model.proofs.Prefixes.{prefix-same}
use Rattle.slate_live.specs.declared.states.Write.{Write}
use Rattle.slate_live.specs.Standing.{StandsBeside}
use Rattle.slate_live.specs.Represents.{AreOfPast, Holds, IsHandleAt, IsHeld, IsValid, IsValidFollower}
use Rattle.slate_live.specs.World.{World}
use Rattle.slate_live.proofs.Following.{follower-follows}
use Rattle.slate_live.proofs.Leading.{is_latest, past-follows, still-held, the_latest}
use Rattle.slate_live.proofs.Maintaining.{follows}
use Rattle.slate_live.proofs.Places.{get-push, get-set}

module _ (w : World) (o : Objects) where
  -- Objects go on from those of a world: they follow, each table is as it was that comes before the next one of each handle, and
  -- each handle is one that was there, or has a greater epoch than the latest manifest had.
  pub record Onward (stored' : Line) (o' : Objects) (objects : List Object) : Type 0 where
    pub follows : (latest : VersionedManifest) → latest_manifest o ≡ Some latest → (next : VersionedManifest) × Follows w.stored stored' o o' latest next
    pub lasts : (q : TableId) → ((n : ℕ) (a : Handle) → IsHandleAt w.objects n a → q.epoch ≡ a.epoch → q.index < a.counter) → Lasts o o' q
    pub handles : (latest : VersionedManifest) → latest_manifest o ≡ Some latest → (n : ℕ) (a : Handle) → IsHandleAt objects n a →
        ((m : ℕ) × (b : Handle) × IsHandleAt w.objects m b × (b.epoch ≡ a.epoch) × (b.counter ≤ a.counter)) ⊎ (latest.manifest.writer_epoch < a.epoch)
    pub logs : LogsAre (OfLine stored') o o'

  -- a reader that stood beside the world stands beside the next one
  pub beside-onward : (stored' : Line) (o' : Objects) (objects : List Object) (polls : List (Option Begun)) (owed : ℕ → ℕ) (writes : List Write) (faults : ℕ) → Holds o w → Onward stored' o' objects → (f : Follower) → StandsBeside o w f →
      StandsBeside o' (record { stored = stored'; catalogue = catalogue_of o'; objects = objects; polls = polls; owed = owed; writes = writes; faults = faults }) f
  beside-onward stored' o' objects polls owed writes faults holds on f s =
      let past : AreOfPast (catalogue_of o) f.view.manifest.tables = subst (λ c. AreOfPast c f.view.manifest.tables) (sym holds.catalogue) s.past in
      let next = on.follows past.0 past.1 in
      let g = next.1 in
      record {
        valid = follower-follows w.stored stored' o o' past.0 next.0 past.1 g f
            (subst (λ c. IsValidFollower w.stored c f) (sym holds.catalogue) s.valid);
        named = λ n a at k d less epoch. elim (on.handles past.0 past.1 n a at) [
          | inl old ↦
              let low = s.named old.0 old.1 old.2 k d less (epoch ∙ sym old.3) in
              let up = old.4 in
              omega (arith, low, up)
          | inr newer ↦ let low = past.2 k d less in absurd (omega (arith, low, newer, epoch))
        ];
        past = past-follows o o' past.0 next.0 past.1 g.latest_is g.epochs f.view.manifest.tables past;
        held = still-held o o' past.0 next.0 past.1 g.latest_is g.logs (AFollower f) (λ k d less. on.lasts _ (λ n a at epochs. s.named n a at k d less epochs)) s.held;
      }

  -- ---- what each command does
  module _ (is_sound : IsSound o) (holds : Holds o w) (valid : IsValid w) (reads : (n : ℕ) (x : Object) → slice_get w.objects n ≡ Some x → IsHeld o x) where
    -- nothing of the store, and no handle is new
    pub onward-same : (objects : List Object) → ((n : ℕ) (a : Handle) → IsHandleAt objects n a → IsHandleAt w.objects n a) → Onward w.stored o objects
    onward-same objects before = record {
      follows = λ latest is. (
        latest,
        record {
          sound = is_sound;
          content = holds.stored;
          grows = prefix-same w.stored;
          latest_is = is;
          epochs = omega arith;
          tabled = omega arith;
          leaps = inl refl;
          marked = λ same. refl;
          logs = stay-follow o o _ _ refl (logs-same _ _ o o refl);
          logs_are = logs-are_same (OfLine w.stored) o o refl;
          news = logs-are_same (PastLine w.stored) o o refl;
          goes = stay-go _ o o (logs-same _ _ o o refl);
        },
      );
      lasts = λ q low some. refl;
      handles = λ latest is n a at. inl (n, a, before n a at, refl, omega arith);
      logs = logs-are_same (OfLine w.stored) o o refl;
    }

    -- a handle moved
    pub onward-moved : (n : ℕ) (h : Handle) (there : IsHandleAt w.objects n h) (stored' : Line) (o' : Objects) (new : Handle) → Moved w.stored stored' o o' (the_latest w o is_sound holds valid reads n h there) h new → Onward stored' o' (set w.objects n (AHandle new))
    onward-moved n h there stored' o' new moved =
        let at_latest = is_latest w o is_sound holds valid reads n h there in
        record {
          follows = λ latest is.
              let same : the_latest w o is_sound holds valid reads n h there ≡ latest = cc in
              (moved.next, subst (λ l. Follows w.stored stored' o o' l moved.next) same moved.follows);
          lasts = λ q low. moved.lasts q (λ epochs. low n h there epochs);
          handles = λ latest is i a at. elim (get-set w.objects n i (AHandle new) (AHandle a) (AHandle h) there at) [
            | inl here ↦
                let is_new : new ≡ a = (let e = here.1 in cc) in
                let counter = moved.counter in
                let e = ap (λ (x : Handle). x.counter) is_new in
                inl (n, h, there, sym moved.epoch ∙ ap (λ (x : Handle). x.epoch) is_new, omega (arith, counter, e))
            | inr other ↦ inl (i, a, other.1, refl, omega arith)
          ];
          logs = (moved.follows).logs_are;
        }

    -- the store was maintained, and no handle is new
    pub onward-maintained : (o' : Objects) → Maintained o o' → (objects : List Object) → ((n : ℕ) (a : Handle) → IsHandleAt objects n a → IsHandleAt w.objects n a) → Onward w.stored o' objects
    onward-maintained o' m objects before = record {
      follows = λ latest is. ((m.latest latest is).0, follows w o is_sound holds valid reads o' m latest is);
      lasts = λ q low. m.lasts q;
      handles = λ latest is n a at. inl (n, a, before n a at, refl, omega arith);
      logs = none-put_logs o o' m.logs_are (OfLine w.stored);
    }

    -- an object that is no handle was opened
    pub before-added : (object : Object) → ((a : Handle) → object ≡ AHandle a → ⊥) → (n : ℕ) (a : Handle) → IsHandleAt (w.objects ++ object ∷ []) n a → IsHandleAt w.objects n a
    before-added object no_handle n a at = elim (get-push w.objects object (AHandle a) n at) [
      | inl old ↦ old
      | inr last_one ↦ absurd (no_handle a last_one.1)
    ]

    -- an opening of a handle
    module _ (extractor : Option Extractor) where
      abbrev opened_after : ℕ → Objects
      opened_after made = after_part made (open_changes (extractor_name extractor) (λ xs. xs) o) o

      pub onward-unopened : (made : ℕ) → made ≤ 2 → Onward w.stored (opened_after made) w.objects
      onward-unopened zero few = onward-same w.objects (λ n a at. at)
      onward-unopened (suc made) few =
          let some : 0 < suc made = omega arith in
          record {
            follows = λ latest is. (opened_manifest (extractor_name extractor) o, opened-follows extractor w.stored o (suc made) is_sound holds.stored some few latest is);
            lasts = λ q low there. same-table_at extractor w.stored o (suc made) is_sound holds.stored some few q;
            handles = λ latest is n a at. inl (n, a, at, refl, omega arith);
            logs = opened-logs_are extractor w.stored o (suc made) is_sound holds.stored some few;
          }

      pub onward-opened : (keeps_log : Bool) (limit : ℕ) (tasks : List TaskName) (made : ℕ) → made ≤ 2 → Onward w.stored (opened_after made) (w.objects ++ AHandle (opened_handle extractor keeps_log limit tasks (opened_manifest (extractor_name extractor) o) w.stored) ∷ [])
      onward-opened keeps_log limit tasks made few =
          let on = onward-unopened made few in
          let new = opened_handle extractor keeps_log limit tasks (opened_manifest (extractor_name extractor) o) w.stored in
          record {
            follows = on.follows;
            lasts = on.lasts;
            handles = λ latest is n a at. elim (get-push w.objects (AHandle new) (AHandle a) n at) [
              | inl old ↦ inl (n, a, old, refl, omega arith)
              | inr last_one ↦
                  let is_new : new ≡ a = (let e = last_one.1 in cc) in
                  let above : (opened_manifest (extractor_name extractor) o).manifest.writer_epoch ≡ latest.manifest.writer_epoch + 1 = ap (λ y. (next_manifest (extractor_name extractor) y (found_log o)).manifest.writer_epoch) is in
                  let e = ap (λ (x : Handle). x.epoch) is_new in
                  inr (omega (arith, above, e))
            ];
            logs = on.logs;
          }
