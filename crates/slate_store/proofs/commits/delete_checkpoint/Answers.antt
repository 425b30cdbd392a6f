use Rattle.std.proofs.Common.{ℕ, rules}
use Rattle.slate_store.specs.Calls.{WhereModelled}
use Rattle.slate_store.specs.Checkpoints.{to_delete}
use Rattle.slate_store.specs.Refusals.{CountsFaults, CountsTries, FollowsPlan}
use Rattle.slate_store.proofs.Checkpointed.{followed-keeps, delete-keeps}
use Rattle.slate_store.proofs.commits.delete_checkpoint.Goals as goal

pub returns : goal.returns
returns g c =
    let plan = to_delete c.args.id in
    let follows : WhereModelled (λ o o'. (made : ℕ) × FollowsPlan plan o c.commit.result made o') (g.S.Store.objects c.args.store.now) (g.S.Store.objects c.commit.new.store) = search rules in
    let faults : CountsFaults (g.S.Store.faults c.args.store.now) (g.S.Store.faults c.commit.new.store) c.commit.result = search rules in
    let tries : CountsTries (g.S.Store.calls c.args.store.now) (g.S.Store.calls c.commit.new.store) c.commit.result = search rules in
    record {
      follows = follows;
      sound = followed-keeps plan (delete-keeps c.args.id) follows;
      faults = faults;
      tries = tries;
      decided = c.commit.ensures.decided;
      kind = c.commit.ensures.kind;
    }
