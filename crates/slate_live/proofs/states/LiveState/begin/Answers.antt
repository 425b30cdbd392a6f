use Rattle.std.proofs.Common.{rules, ◌≡◌, ℤ, Option, Some, refl, subst, arith}
use Rattle.std.proofs.lemmas.List.{map-set}
use Rattle.slate_model.specs.Begun.{Begun}
use Rattle.slate_model.specs.Object.{Object}
use Rattle.slate_script.specs.declared.replies.Reply.{Reply}
use Rattle.slate_live.specs.Objects.{object_of, poll_of}
use Rattle.slate_live.specs.Stepping.{BeginsOf}
use Rattle.slate_live.proofs.Doing.{begins-poll}
use Rattle.slate_live.proofs.Places.{get-map_at}
use Rattle.slate_live.proofs.states.LiveState.begin.Goals as goal

begins-at : (moment moment' : ℤ) (object : Object) (poll : Option Begun) (reply : Reply) (poll' : Option Begun) → moment ≡ moment' → BeginsOf moment object poll reply poll' → BeginsOf moment' object poll reply poll'
begins-at moment moment' object poll reply poll' same begins = subst (λ m. BeginsOf m object poll reply poll') same begins

pub returns-clause-begins : goal.returns-clause-begins
returns-clause-begins c =
    rw (← c.self.view_is) (
    begins-poll c.args.number c.args.moment (object_of c.index_mut.result.now) (object_of c.begin.new.self) (poll_of c.index_mut.result.now) (poll_of c.begin.new.self) _ _ c.begin.result
    (get-map_at object_of c.self.inside.objects.items c.args.number c.index_mut.result.now (omega (arith, c.len.ensures)) c.index_mut.ensures.value)
    (get-map_at poll_of c.self.inside.objects.items c.args.number c.index_mut.result.now (omega (arith, c.len.ensures)) c.index_mut.ensures.value)
    c.begin.ensures.object (begins-at _ _ _ _ _ _ (search rules) c.begin.ensures.begins)
    (map-set object_of c.self.inside.objects.items c.args.number c.begin.new.self) (map-set poll_of c.self.inside.objects.items c.args.number c.begin.new.self) refl refl
    )

one : {A : Type 0} (o : Option A) (a b : A) → o ≡ Some a → o ≡ Some b → a ≡ b
one o a b is is' = cc

pub returns-clause-keeps : goal.returns-clause-keeps
returns-clause-keeps c reader at begun =
    c.begin.ensures.keeps reader
    (one _ _ _ (rw (← c.self.view_is) (get-map_at object_of c.self.inside.objects.items c.args.number c.index_mut.result.now (omega (arith, c.len.ensures)) c.index_mut.ensures.value)) at) begun
