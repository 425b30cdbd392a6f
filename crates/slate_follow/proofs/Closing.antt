-- A close of a reader that keeps a checkpoint, from the call that takes it out.
use Rattle.std.proofs.Common.{◌≡◌, ℕ, inl, List, [], ◌∷◌, Option, Some, None, is_some, Bool, true, false, cond, Result, Ok, Err, refl, sym, ap, subst, ◌∙◌, arith}
use Rattle.std.specs.Option.{IfSome}
use Rattle.std.specs.Prelude.{nat_lt}
use Rattle.slate_types.specs.Modelled.{WhereModelled}
use Rattle.slate_types.specs.declared.batches.Batch.{Batch}
use Rattle.slate_types.specs.declared.store_errors.StoreFault.TheVariants.{NotFound, Unavailable}
use Rattle.slate_types.proofs.Modelled.{modelled_as}
use Rattle.slate_store.specs.Checkpoints.{Plan, found, to_delete, to_take_out, with_checkpoints, without_id}
use Rattle.slate_store.specs.Objects.{Change, Objects, PutManifest}
use Rattle.slate_store.specs.Refusals as calls
use Rattle.slate_store.specs.Refusals.{FollowsPlan, checkpoint_changes, planned, planned_after}
use Rattle.slate_store.specs.declared.objects.Checkpoint.{Checkpoint}
use Rattle.slate_store.specs.declared.objects.VersionedManifest.{VersionedManifest}
use Rattle.slate_store.specs.declared.refusals.StoreRefusal.{StoreRefusal}
use Rattle.slate_store.specs.declared.refusals.StoreRefusal.TheVariants as refusals
use Rattle.slate_errors.specs.declared.closing.CloseFault.{CloseFault}
use Rattle.slate_errors.specs.declared.endings.Ended.{Ended}
use Rattle.slate_errors.specs.declared.endings.TaskName.{TaskName}
use Rattle.slate_errors.specs.declared.errors.SlateError.{SlateError}
use Rattle.slate_model.proofs.Reduced.{some-same}
use Rattle.slate_model.specs.Changes.{PartMade}
use Rattle.slate_model.specs.Close.{closed_follower, closing_flush, ended, recorded_fault}
use Rattle.slate_model.specs.Follower.{Follower}
use Rattle.slate_model.specs.Known.{CountsFaults, Known, Untouched}
use Rattle.slate_model.specs.Managed.{ClosesManaged, EndsLease, PlanCause, PutsPlanned, unrefused}
use Rattle.slate_model.specs.Refusal.{error_of_refusal}
use Rattle.slate_model.specs.Stores.{Stands, by_objects}
use Rattle.slate_model.specs.declared.leases.Lease.{Lease}
use Rattle.slate_follow.proofs.Refused.{counts-refused}
use Rattle.slate_follow.proofs.Taken.{with-made}

-- what a close answers of the call that takes the checkpoint out
abbrev pub fault_by : Result (Unit {0}) StoreRefusal → Option SlateError
fault_by (Ok _) = None
fault_by (Err refusal) = Some (error_of_refusal refusal)

-- a plan that takes a checkpoint out finds no other
never-missing : (id : List ℕ) (latest : VersionedManifest) (there : Option Checkpoint) (other : List ℕ) → to_take_out id latest there ≡ Err (refusals.CheckpointMissing other) → ⊥
never-missing id latest None other is = cc
never-missing id latest (Some checkpoint) other is = by (nat_lt latest.id 18446744073709551615) is where
  by : (b : Bool) → cond {A = Plan (Unit {0})} b (Ok (Some (with_checkpoints (without_id id latest.manifest.checkpoints) latest), tt)) (Err refusals.InvalidDBState) ≡ Err (refusals.CheckpointMissing other) → ⊥
  by true is = cc
  by false is = cc

module _ (id : List ℕ) (o : Objects) where
  ends-cause : (e : StoreRefusal) → calls.CheckpointCause (to_delete id) o e → PlanCause (Stands (checkpoint_changes (to_delete id) o) o) (to_delete id) o (error_of_refusal e)
  ends-cause (refusals.CheckpointMissing other) c = never-missing id c.0 (found id c.0) other c.2
  ends-cause refusals.LatestTransactionalObjectVersionMissing c = c
  ends-cause refusals.Fenced c = c
  ends-cause refusals.InvalidDBState c = c
  ends-cause (refusals.ObjectStoreError NotFound) c = c
  ends-cause (refusals.ObjectStoreError Unavailable) c = c
  ends-cause refusals.TransactionalObjectVersionExists c = c
  ends-cause (refusals.TransactionalObjectTimeout tries) c =
      let next = c.1 in
      let put : Change = PutManifest next.id next.manifest in
      let changes : checkpoint_changes (to_delete id) o ≡ put ∷ [] = ap (planned_after (to_delete id)) (c.3).1 ∙ ap planned (c.3).2 in
      let stands : Stands (put ∷ []) o = (put, (0, omega arith, refl), c.4) in
      (c.0, subst (λ cs. Stands cs o) (sym changes) stands)
  ends-cause refusals.NoMemory c = c

  ends-part : (e : StoreRefusal) (all made : ℕ) → calls.PartMade {A = Unit {0}} (Err e) all made → PartMade {A = Unit {0}} (Err (error_of_refusal e)) all made
  ends-part (refusals.CheckpointMissing id) all made part = part
  ends-part refusals.LatestTransactionalObjectVersionMissing all made part = part
  ends-part refusals.Fenced all made part = part
  ends-part refusals.InvalidDBState all made part = omega (arith, part)
  ends-part (refusals.ObjectStoreError fault) all made part = part
  ends-part refusals.TransactionalObjectVersionExists all made part = part
  ends-part (refusals.TransactionalObjectTimeout tries) all made part = part
  ends-part refusals.NoMemory all made part = part

  ends : (r : Result (Unit {0}) StoreRefusal) (made : ℕ) (o' : Objects) → FollowsPlan (to_delete id) o r made o' → PutsPlanned Stands unrefused (to_delete id) o (closing_flush (fault_by r)) made o'
  ends (Ok x) made o' f = record { cause = tt; part = f.part; after = f.after }
  ends (Err e) made o' f = record { cause = inl (ends-cause e f.cause); part = ends-part e _ made f.part; after = f.after }

-- so much was made, over a store that may be modelled
pub lease-ends : (id : List ℕ) (r : Result (Unit {0}) StoreRefusal) {a b : Option Objects} → WhereModelled (λ o o'. (made : ℕ) × FollowsPlan (to_delete id) o r made o') a b →
    WhereModelled (λ o o'. (made : ℕ) × PutsPlanned Stands unrefused (to_delete id) o (closing_flush (fault_by r)) made o') a b
lease-ends id r w = modelled_as (λ o o'. (made : ℕ) × PutsPlanned Stands unrefused (to_delete id) o (closing_flush (fault_by r)) made o') w (λ o o' f. (f.0, ends id o r f.0 o' f.1))

-- the count of faults
ends-faults : (f f' n n' : ℕ) (r : Result (Unit {0}) StoreRefusal) → calls.CountsFaults f f' r → calls.CountsTries n n' r → CountsFaults f f' (closing_flush (fault_by r))
ends-faults f f' n n' (Ok x) c t = record { count = c.count; unavailable = λ is. absurd (cc); stays = c.stays; none_missing = λ is. cc }
ends-faults f f' n n' (Err e) c t = counts-refused f f' e (λ is. t.none_missing (ap Err is)) c

module _ (a b : Option Objects) (f f' n n' : ℕ) (lease : Lease) (tasks : List TaskName) where
  abbrev pub EndsSo : Result (Unit {0}) StoreRefusal → Type 0
  EndsSo r = (made : ℕ) × EndsLease (by_objects a) made lease (record { objects = a; faults = f }) (ended tasks (fault_by r)) (record { objects = b; faults = f' })

  pub ends-so : (r : Result (Unit {0}) StoreRefusal) → WhereModelled (λ o o'. (made : ℕ) × FollowsPlan (to_delete lease.id) o r made o') a b → calls.CountsFaults f f' r → calls.CountsTries n n' r → EndsSo r
  ends-so r follows faults tries =
      let m = with-made {P = λ made o o'. PutsPlanned Stands unrefused (to_delete lease.id) o (closing_flush (fault_by r)) made o'} {a = a} {b = b} (lease-ends lease.id r follows) in
      (m.0, record { faults = ends-faults f f' n n' r faults tries; puts = m.1 })

-- ---- a close of a reader that keeps a checkpoint
pub has-lease : (held : Option Lease) → is_some held ≡ true → (lease : Lease) × (held ≡ Some lease)
has-lease None is = absurd (cc)
has-lease (Some lease) is = (lease, refl)

module _ (t : Option Objects) (old new : Follower) (before : Known (List Batch)) (answer : Ended) (closed : new ≡ closed_follower old) (tasks : answer ≡ ended old.tasks answer.fault) where
  -- it was closed before
  pub closes-again : (r : Result (Unit {0}) CloseFault) → old.result ≡ Some r → answer.fault ≡ recorded_fault old.result → ClosesManaged (by_objects t) 0 old before answer new before
  closes-again r was fault = record {
    closed = closed;
    tasks = tasks;
    again = subst (λ x. IfSome x (λ _. (answer ≡ ended old.tasks (recorded_fault old.result)) × Untouched 0 before before)) (sym was) (tasks ∙ ap (ended old.tasks) fault, (refl, refl));
    ends = λ lease open_ held. absurd (cc (was, open_));
  }

  -- it is open
  pub closes-first : (made : ℕ) (after : Known (List Batch)) (lease : Lease) → old.result ≡ None → old.lease ≡ Some lease → EndsLease (by_objects t) made lease before answer after → ClosesManaged (by_objects t) made old before answer new after
  closes-first made after lease open_ held e = record {
    closed = closed;
    tasks = tasks;
    again = subst (λ x. IfSome x (λ _. (answer ≡ ended old.tasks (recorded_fault old.result)) × Untouched made before after)) (sym open_) tt;
    ends = λ other _ is. subst (λ l. EndsLease (by_objects t) made l before answer after) (some-same lease other (sym held ∙ is)) e;
  }
