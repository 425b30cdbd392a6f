use Rattle.std.proofs.Common.{◌≡◌, ◌≤◌, ◌+◌, ℕ, true, List, Option, ap, Some, None, refl, sym, subst, ◌∙◌, arith}
use Rattle.std.specs.List.{slice_get}
use Rattle.std.specs.Option.{IfSome}
use Rattle.std.proofs.lemmas.List.{map-set}
use Rattle.slate_model.specs.Known.{known}
use Rattle.slate_model.specs.Stores.{by_objects}
use Rattle.slate_model.specs.Object.{Object, Handle as AHandle, Snapshot as ASnapshot, Follower as AFollower}
use Rattle.slate_model.specs.declared.snapshots.HandleSnapshot.{HandleSnapshot}
use Rattle.slate_live.specs.Calls.{asks_extractor, asks_operator, call_of, most_asked, read_by}
use Rattle.slate_live.specs.Sampling.{snapshot_of}
use Rattle.slate_live.specs.State.{running}
use Rattle.slate_live.specs.Objects.{object_of, poll_of}
use Rattle.slate_live.proofs.Begun.{are-set}
use Rattle.slate_live.proofs.Doing.{acts_on, on-snapshot, read-itself}
use Rattle.slate_live.proofs.Places.{get-map_at}
use Rattle.slate_live.proofs.states.LiveState.act.Goals as goal

none-of : {A : Type 0} (o : Option A) → ((x : A) → o ≡ Some x → ⊥) → o ≡ None
none-of None never = refl
none-of (Some x) never = absurd (never x refl)

some-same : {A : Type 0} (o : Option A) (a b : A) → o ≡ Some a → o ≡ Some b → a ≡ b
some-same o a b is is' = cc

-- what reads where an object is no snapshot: itself
read-old : (objects : List Object) (n : ℕ) (first old : Object) → slice_get objects n ≡ Some first → slice_get objects n ≡ Some old → snapshot_of first ≡ None → read_by objects (slice_get objects n) ≡ Some old
read-old objects n first old at_first at_old itself = read-itself objects (slice_get objects n) old at_old (subst (λ x. snapshot_of x ≡ None) (some-same _ first old at_first at_old) itself)

-- and where it is one: its handle
read-at : (objects : List Object) (n : ℕ) (old : Object) (x : HandleSnapshot) → slice_get objects n ≡ Some old → snapshot_of old ≡ Some x → read_by objects (slice_get objects n) ≡ slice_get objects x.handle
read-at objects n old x at is = ap (read_by objects) at ∙ by old is
  where
    by : (old : Object) → snapshot_of old ≡ Some x → read_by objects (Some old) ≡ slice_get objects x.handle
    by (AHandle h) is = absurd (cc)
    by (ASnapshot y) is = let same : y ≡ x = cc in ap (λ (z : HandleSnapshot). slice_get objects z.handle) same
    by (AFollower f) is = absurd (cc)

pub returns-clause-does : goal.returns-clause-does
returns-clause-does g c settings lawful =
    let objects = c.args.self.now.objects in
    let old = object_of c.index_mut-object.result.now in
    let there = read-old objects c.args.number (object_of c.index.result.now) old
    (rw (← c.self.view_is) (get-map_at object_of c.self.inside.objects.items c.args.number c.index.result.now (omega (arith, c.len.ensures)) c.index.ensures))
    (rw (← c.self.view_is) (get-map_at object_of c.self.inside.objects.items c.args.number c.index_mut-object.result.now (omega (arith, c.len.ensures)) c.index_mut-object.ensures.value))
    (sym c.snapshot.ensures ∙ none-of c.snapshot.result c.in_default.not-Some) in
    let d = c.act.ensures.does settings (record { operator_is = λ asks. lawful.operator_is (subst (λ o. asks_operator o c.args.command.now.action ≡ true) (sym there) asks); extractor_is = λ asks. lawful.extractor_is (subst (λ o. asks_extractor o c.args.command.now.action ≡ true) (sym there) asks) }) in
    rw (← c.self.view_is) (
      d.0,
      acts_on _ settings c.args.number c.args.command.now (call_of c.args.command.now.action) d.0 _ _ c.act.result _ _ _ (get-map_at object_of c.self.inside.objects.items c.args.number c.index_mut-object.result.now (omega (arith, c.len.ensures)) c.index_mut-object.ensures.value) d.1
          (map-set object_of c.self.inside.objects.items c.args.number c.act.new.self),
    )

pub returns-in-Some-clause-does : goal.returns-in-Some-clause-does
returns-in-Some-clause-does g c settings lawful = (
  0,
  on-snapshot (by_objects (g.S.Store.objects c.args.store.now)) settings c.args.number c.args.command.now (call_of c.args.command.now.action) 0 (slice_get c.args.self.now.objects c.args.number) (running c.args.self.now (known g.S.Store.objects g.S.Store.faults c.args.store.now)) c.act_at.result (running c.args.self.now (known g.S.Store.objects g.S.Store.faults c.act_at.new.store)) (object_of c.index.result.now) c.in-Some.snapshot
      (rw (← c.self.view_is) (get-map_at object_of c.self.inside.objects.items c.args.number c.index.result.now (omega (arith, c.len.ensures)) c.index.ensures))
      (sym c.snapshot.ensures ∙ c.in-Some.is) (c.act_at.ensures.does settings (λ asks. lawful.operator_is (subst (λ o. asks_operator o c.args.command.now.action ≡ true) (sym (read-at c.args.self.now.objects c.args.number (object_of c.index.result.now) c.in-Some.snapshot (rw (← c.self.view_is) (get-map_at object_of c.self.inside.objects.items c.args.number c.index.result.now (omega (arith, c.len.ensures)) c.index.ensures)) (sym c.snapshot.ensures ∙ c.in-Some.is))) asks))),
)

pub returns-clause-calls : goal.returns-clause-calls
returns-clause-calls g c =
    let objects = c.args.self.now.objects in
    let old = object_of c.index_mut-object.result.now in
    let first : slice_get objects c.args.number ≡ Some (object_of c.index.result.now) = rw (← c.self.view_is) (get-map_at object_of c.self.inside.objects.items c.args.number c.index.result.now (omega (arith, c.len.ensures)) c.index.ensures) in
    let second : slice_get objects c.args.number ≡ Some old = rw (← c.self.view_is) (get-map_at object_of c.self.inside.objects.items c.args.number c.index_mut-object.result.now (omega (arith, c.len.ensures)) c.index_mut-object.ensures.value) in
    let itself = subst (λ x. snapshot_of x ≡ None) (some-same _ _ old first second) (sym c.snapshot.ensures ∙ none-of c.snapshot.result c.in_default.not-Some) in
    subst (λ count. IfSome (g.S.Store.objects c.args.store.now) (λ o. g.S.Store.calls c.act.new.store ≤ g.S.Store.calls c.args.store.now + most_asked o count (call_of c.args.command.now.action))) (sym (read-itself objects (slice_get objects c.args.number) old second itself)) c.act.ensures.calls

pub returns-clause-polls : goal.returns-clause-polls
returns-clause-polls g c names =
    are-set c.args.command.now.action c.args.number c.args.self.now.polls _ (poll_of c.index_mut-object.result.now) (poll_of c.act.new.self) names
    (rw (← c.self.view_is) (get-map_at poll_of c.self.inside.objects.items c.args.number c.index_mut-object.result.now (omega (arith, c.len.ensures)) c.index_mut-object.ensures.value)) c.act.ensures.poll
    (rw (← c.self.view_is) (map-set poll_of c.self.inside.objects.items c.args.number c.act.new.self))
