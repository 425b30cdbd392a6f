use Rattle.std.proofs.Common.{◌∷◌, ◌++◌, [], ◌∙◌, ap, map}
use Rattle.std.proofs.lemmas.List.{map-append}
use Rattle.slate_live.specs.declared.objects.Object.TheVariants as objects
use Rattle.slate_live.specs.Objects.{poll_of}
use Rattle.slate_live.proofs.Begun.{pushed-polls}
use Rattle.slate_live.proofs.states.LiveState.add_snapshot.Goals as goal

pub returns-clause-polls : goal.returns-clause-polls
returns-clause-polls c =
    rw (← c.self.view_is) (
    pushed-polls _ _
    (ap (map poll_of) (c.push_reserved.ensures.items ∙ ap (λ xs. xs ++ objects.Snapshot c.args.snapshot ∷ []) c.reserve.ensures.items)
    ∙ map-append poll_of c.self.inside.objects.items (objects.Snapshot c.args.snapshot ∷ []))
    )
