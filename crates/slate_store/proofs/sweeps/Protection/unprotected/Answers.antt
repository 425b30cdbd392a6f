use Rattle.std.proofs.Common.{◌≡◌, ◌∷◌, ap, ◌∙◌, arith}
use Rattle.slate_store.specs.Steps.{removals_of}
use Rattle.slate_store.proofs.Listed.{unprotected, unprotected-removals}
use Rattle.slate_store.proofs.sweeps.Protection.unprotected.Goals as goal

pub returns : goal.returns
returns c = λ o listed protects.
    let manifests = c.args.self.now.latest.now.manifest ∷ c.args.self.now.kept.now in
    let is : record { manifests = c.of.result; logs = c.of-2.result; tables = c.of-3.result } ≡ unprotected c.args.self.now.latest.now manifests c.args.listing.now = grind arith in
    ap removals_of is ∙ unprotected-removals c.args.self.now.latest.now manifests c.args.listing.now o listed protects
