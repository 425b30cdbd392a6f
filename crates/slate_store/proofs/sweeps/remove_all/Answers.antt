use Rattle.std.proofs.Common.{rules, map, ◌++◌}
use Rattle.slate_store.specs.Objects.{RemoveLog, RemoveManifest, RemoveTable}
use Rattle.slate_store.proofs.Making.{made-after, some-after, stopped}
use Rattle.slate_store.proofs.sweeps.remove_all.Goals as goal

pub returns-in_err-remove_logs-clause-made : goal.returns-in_err-remove_logs-clause-made
returns-in_err-remove_logs-clause-made g c =
    let listing = c.args.listing.now in
    let tables = map (λ id. RemoveTable id) listing.tables in
    let logs = map (λ id. RemoveLog id) listing.logs in
    let manifests = map (λ id. RemoveManifest id) listing.manifests in
    let first = rw c.as_slice.ensures at c.in_ok-remove_tables.ensures.made in
    let second = rw c.as_slice-2.ensures at c.in_err-remove_logs.ensures.made in
    let all = some-after tables (logs ++ manifests) first (stopped logs manifests second) in
    search (rules, all)

pub returns-clause-made : goal.returns-clause-made
returns-clause-made g c =
    let listing = c.args.listing.now in
    let tables = map (λ id. RemoveTable id) listing.tables in
    let logs = map (λ id. RemoveLog id) listing.logs in
    let manifests = map (λ id. RemoveManifest id) listing.manifests in
    let first = rw c.as_slice.ensures at c.in_ok-remove_tables.ensures.made in
    let second = rw c.as_slice-2.ensures at c.in_ok-remove_logs.ensures.made in
    let third = rw c.as_slice-3.ensures at c.remove_manifests.ensures.made in
    made-after tables (logs ++ manifests) c.remove_manifests.result first (made-after logs manifests c.remove_manifests.result second third)
