use Rattle.std.proofs.Common.{ap, sym, List, ℕ, ◌++◌, ◌∷◌, ◌∙◌}
use Rattle.slate_directory.proofs.NameLemmas.{dash_found, no_dash}
use Rattle.slate_directory.proofs.names.split_at_dash.Goals as goal

pub returns-in_err-second-clause-none : goal.returns-in_err-second-clause-none
returns-in_err-second-clause-none c = λ none first second.
    let parts = c.in_ok-first.ensures.cases in
    no_dash c.args.name.now c.in_ok-first.rest.now first second parts.2 c.in_err-second.ensures.cases

pub returns-clause-found : goal.returns-clause-found
returns-clause-found c =
    let parts = c.in_ok-first.ensures.cases in
    let dash = c.in_ok-second.ensures.cases in
    (dash_found c.args.name.now c.in_ok-first.rest.now c.in_ok-second.second.now parts.2 dash.0 dash.1 ∙ ap (λ (xs : List ℕ). xs ++ (45 ∷ c.in_ok-second.second.now)) (sym parts.1), parts.3)
