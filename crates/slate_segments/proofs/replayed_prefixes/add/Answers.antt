use Rattle.std.proofs.Common.{◌∷◌, ◌++◌, [], subst}
use Rattle.slate_segments.specs.Prefixes.{HaveSame}
use Rattle.slate_segments.proofs.Prefixes.{inserted}
use Rattle.slate_segments.proofs.replayed_prefixes.add.Goals as goal

pub returns : goal.returns
returns c =
    subst (λ k. HaveSame c.insert.new.self.keys (c.args.taken.now.keys ++ k ∷ [])) c.in_ok-copy_from_slice.ensures
    (inserted c.args.taken.now.keys c.insert.new.self.keys _ c.in_ok-insert.ensures.updates.0)
