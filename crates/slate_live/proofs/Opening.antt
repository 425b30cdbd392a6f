-- What an opening leaves of a world: the handles that were opened before, and the one that it gives.
use Rattle.slate_errors.specs.declared.endings.TaskName.{TaskName}
use Rattle.slate_model.specs.Segments.{Extractor, extractor_name}
use Rattle.std.proofs.Common.{◌≡◌, ℕ, zero, suc, ◌+◌, ◌<◌, ◌≤◌, ◌⊎◌, inl, inr, length, [], ◌∷◌, ◌++◌, Some, Bool, sym, subst, ap, ◌∙◌, arith, Option, List}
use Rattle.std.specs.List.{slice_get}
use Rattle.slate_store.specs.Content.{IsSound}
use Rattle.slate_store.specs.Objects.{Objects}
use Rattle.slate_model.specs.Changes.{after_part}
use Rattle.slate_model.specs.Handle.{Handle}
use Rattle.slate_model.specs.Object.{Object, Handle as AHandle, Follower as AFollower, tables_of}
use Rattle.slate_model.specs.Open.{found_log, next_manifest, open_changes, opened_handle, opened_manifest}
use Rattle.slate_model.specs.Catalogue.{catalogue_of}
use Rattle.slate_model.specs.Tables.{AreStored}
use Rattle.slate_model.proofs.Flushing.{latest-stored}
use Rattle.slate_model.proofs.Opening.{fenced, older, opened-follows, opened-reads, opened-valid, same-table_at}
use Rattle.slate_model.proofs.Reopened.{opened}
use Rattle.slate_live.specs.Represents.{AreBefore, AreOfPast, IsHeld, Holds, IsHandleAt, IsValid, IsValidHandle}
use Rattle.slate_live.specs.World.{World}
use Rattle.slate_live.proofs.Following.{follower-follows}
use Rattle.slate_live.proofs.Leading.{Leads, followers-over, leads-same, past-follows, past-over, still-held, stored-before, stored-past, valid-over}
use Rattle.slate_live.proofs.Places.{get-push}

module _ (extractor : Option Extractor) (w : World) (o : Objects) (is_sound : IsSound o) (holds : Holds o w) (valid : IsValid w) (reads : (n : ℕ) (x : Object) → slice_get w.objects n ≡ Some x → IsHeld o x) where
  abbrev after : ℕ → Objects
  after made = after_part made (open_changes (extractor_name extractor) (λ xs. xs) o) o

  over : (m : ℕ) (a : Handle) → IsHandleAt w.objects m a → IsValidHandle w.stored (catalogue_of o) a
  over m a at = valid-over w o is_sound holds valid reads m a at

  -- an opening that gives no handle
  pub unopened-leads : (made : ℕ) → made ≤ 2 → Leads w.stored (after made) w.objects
  unopened-leads zero few = leads-same w o is_sound holds valid reads
  unopened-leads (suc made) few =
      let some : 0 < suc made = omega arith in
      let b = opened (extractor_name extractor) o (suc made) is_sound some few in
      record {
        sound = b.sound;
        content = b.content ∙ holds.stored;
        handles = λ m a at. fenced extractor w.stored o (suc made) is_sound holds.stored some few a (over m a at);
        followers = λ n g at.
            let p = past-over w o is_sound holds valid reads n (AFollower g) at in
            follower-follows w.stored w.stored o (after (suc made)) p.0 (opened_manifest (extractor_name extractor) o) p.1 (opened-follows extractor w.stored o (suc made) is_sound holds.stored some few p.0 p.1) g (followers-over w o is_sound holds valid reads n g at);
        named = valid.named;
        past = λ n x at.
            let p = past-over w o is_sound holds valid reads n x at in
            past-follows o (after (suc made)) p.0 (opened_manifest (extractor_name extractor) o) p.1 b.latest (opened-follows extractor w.stored o (suc made) is_sound holds.stored some few p.0 p.1).epochs (tables_of x) p;
        distinct = valid.distinct;
        reads = λ n x at.
            let p = past-over w o is_sound holds valid reads n x at in
            still-held o (after (suc made)) p.0 (opened_manifest (extractor_name extractor) o) p.1 b.latest (opened-follows extractor w.stored o (suc made) is_sound holds.stored some few p.0 p.1).logs x (λ k d less there. same-table_at extractor w.stored o (suc made) is_sound holds.stored some few _) (reads n x at);
      }

  module _ (keeps_log : Bool) (limit : ℕ) (tasks : List TaskName) where
    abbrev new : Handle
    new = opened_handle extractor keeps_log limit tasks (opened_manifest (extractor_name extractor) o) w.stored

    same_handle : (h : Handle) → AHandle new ≡ AHandle h → new ≡ h
    same_handle h is = cc

    module _ (made : ℕ) (some : 0 < made) (few : made ≤ 2) where
      newer : (m : ℕ) (a b : Handle) → IsHandleAt w.objects m a → new ≡ b → a.epoch ≡ b.epoch → ⊥
      newer m a b at is epochs =
          let below = older extractor w.stored o made is_sound holds.stored some few a (over m a at) in
          let epoch = ap (λ (h : Handle). h.epoch) is in
          omega (arith, below, epoch, epochs)

      by-place : (P : Handle → Type 0) → P new → ((m : ℕ) (a : Handle) → IsHandleAt w.objects m a → P a) → (m : ℕ) (a : Handle) → IsHandleAt (w.objects ++ AHandle new ∷ []) m a → P a
      by-place P mine before m a at =
          elim (get-push w.objects (AHandle new) (AHandle a) m at) [
            | inl old ↦ before m a old
            | inr last_one ↦ subst P (same_handle a last_one.1) mine
          ]

      l : Leads w.stored (after made) w.objects
      l = unopened-leads made few

      mine-valid : IsValidHandle w.stored (catalogue_of (after made)) new
      mine-valid = opened-valid extractor w.stored o made is_sound holds.stored some few keeps_log limit tasks valid.line

      mine-stored : AreStored (after made) new.view.manifest.tables
      mine-stored = latest-stored (after made) (opened_manifest (extractor_name extractor) o) l.sound (opened (extractor_name extractor) o made is_sound some few).latest

      mine-past : AreOfPast (catalogue_of (after made)) new.view.manifest.tables
      mine-past = stored-past (after made) (opened_manifest (extractor_name extractor) o) l.sound (opened (extractor_name extractor) o made is_sound some few).latest new.view.manifest.tables mine-stored

      -- no view that was there names a table of its epoch
      unnamed : (n : ℕ) (x : Object) → slice_get w.objects n ≡ Some x → AreBefore new (tables_of x)
      unnamed n x at k d less epoch =
          let p = past-over w o is_sound holds valid reads n x at in
          let low = p.2 k d less in
          let above : (opened_manifest (extractor_name extractor) o).manifest.writer_epoch ≡ p.0.manifest.writer_epoch + 1 = ap (λ y. (next_manifest (extractor_name extractor) y (found_log o)).manifest.writer_epoch) p.1 in
          absurd (omega (arith, low, above, epoch))

      named-by : (m n : ℕ) (a : Handle) (x : Object) → IsHandleAt w.objects m a ⊎ ((m ≡ length w.objects) × (AHandle new ≡ AHandle a)) → (slice_get w.objects n ≡ Some x) ⊎ ((n ≡ length w.objects) × (AHandle new ≡ x)) → AreBefore a (tables_of x)
      named-by m n a x (inl first) (inl second) = valid.named m n a x first second
      named-by m n a x (inl first) (inr last_one) =
          subst (λ (y : Object). AreBefore a (tables_of y)) last_one.1 (stored-before w.stored (after made) a (l.handles m a first) new.view.manifest.tables mine-stored)
      named-by m n a x (inr last_first) (inl second) =
          subst (λ (b : Handle). AreBefore b (tables_of x)) (same_handle a last_first.1) (unnamed n x second)
      named-by m n a x (inr last_first) (inr last_one) =
          subst (λ (b : Handle). AreBefore b (tables_of x)) (same_handle a last_first.1)
          (subst (λ (y : Object). AreBefore new (tables_of y)) last_one.1 (stored-before w.stored (after made) new mine-valid new.view.manifest.tables mine-stored))

      past-by : (n : ℕ) (x : Object) → (slice_get w.objects n ≡ Some x) ⊎ ((n ≡ length w.objects) × (AHandle new ≡ x)) → AreOfPast (catalogue_of (after made)) (tables_of x)
      past-by n x (inl old) = l.past n x old
      past-by n x (inr last_one) = subst (λ (y : Object). AreOfPast (catalogue_of (after made)) (tables_of y)) last_one.1 mine-past

      reads-by : (n : ℕ) (x : Object) → (slice_get w.objects n ≡ Some x) ⊎ ((n ≡ length w.objects) × (AHandle new ≡ x)) → IsHeld (after made) x
      reads-by n x (inl old) = l.reads n x old
      reads-by n x (inr last_one) = subst (IsHeld (after made)) last_one.1 (opened-reads extractor w.stored o made is_sound holds.stored some few keeps_log limit tasks valid.line, tt)

      -- one that gives a handle
      pub opened-leads : Leads w.stored (after made) (w.objects ++ AHandle new ∷ [])
      opened-leads =
          record {
            sound = l.sound;
            content = l.content;
            handles = by-place (IsValidHandle w.stored (catalogue_of (after made))) mine-valid l.handles;
            followers = λ m g at.
                elim (get-push w.objects (AHandle new) (AFollower g) m at) [
                  | inl old ↦ l.followers m g old
                  | inr last_one ↦ absurd (let other = last_one.1 in cc)
                ];
            named = λ m n a x at_m at_n. named-by m n a x (get-push w.objects (AHandle new) (AHandle a) m at_m) (get-push w.objects (AHandle new) x n at_n);
            past = λ n x at. past-by n x (get-push w.objects (AHandle new) x n at);
            distinct = λ m n a b at_m at_n epochs.
                elim (get-push w.objects (AHandle new) (AHandle a) m at_m) [
                  | inl first ↦
                      elim (get-push w.objects (AHandle new) (AHandle b) n at_n) [
                        | inl second ↦ valid.distinct m n a b first second epochs
                        | inr last_one ↦ absurd (newer m a b first (same_handle b last_one.1) epochs)
                      ]
                  | inr last_first ↦
                      elim (get-push w.objects (AHandle new) (AHandle b) n at_n) [
                        | inl second ↦ absurd (newer n b a second (same_handle a last_first.1) (sym epochs))
                        | inr last_one ↦ last_first.0 ∙ sym last_one.0
                      ]
                ];
            reads = λ n x at. reads-by n x (get-push w.objects (AHandle new) x n at);
          }
