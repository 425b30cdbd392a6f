use Rattle.std.proofs.Common.{◌≡◌, Ok, rules}
use Rattle.slate_store.specs.Sweeps.{without_expired}
use Rattle.slate_store.proofs.Sweeping.{would-sweep}
use Rattle.slate_store.proofs.Tries.{latest-known}
use Rattle.slate_store.proofs.sweeps.to_sweep.Goals as goal

pub returns-clause-finds : goal.returns-clause-finds
returns-clause-finds g c =
    let is : c.unwrap_or-latest.result ≡ without_expired c.args.moment c.in_ok-latest.latest = search rules in
    would-sweep c.args.moment c.in_ok-latest.latest c.unwrap_or-latest.result c.find_unprotected.result is (latest-known (Ok c.in_ok-latest.latest) c.in_ok-latest.ensures.kept c.in_ok-latest.ensures.found) c.find_unprotected.ensures.finds
