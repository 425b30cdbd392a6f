use Rattle.std.proofs.Common.{◌≡◌, length, ap, arith}
use Rattle.slate_model.specs.Follower.{Follower}
use Rattle.slate_follow.specs.Joined.{joined}
use Rattle.slate_follow.proofs.Cutting.{filled-few}
use Rattle.slate_follow.proofs.states.FollowerState.tables_in_memory.Goals as goal

pub returns-clause-few : goal.returns-clause-few
returns-clause-few c =
    let kept = c.self.inside.kept in
    let few = filled-few kept.items c.self.invariant.filled in
    let line : joined kept.items ≡ c.args.self.now.line.batches = ap (λ (f : Follower). f.line.batches) c.self.view_is in
    omega (arith, few, ap length line, kept.ok.0, c.len.ensures)
