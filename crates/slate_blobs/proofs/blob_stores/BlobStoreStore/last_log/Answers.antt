use Rattle.std.proofs.Common.{ap, ◌∙◌}
use Rattle.slate_store.specs.Objects.{greatest}
use Rattle.slate_blobs.proofs.Found.{last-found}
use Rattle.slate_blobs.proofs.blob_stores.BlobStoreStore.last_log.Goals as goal

pub returns-clause-found : goal.returns-clause-found
returns-clause-found g c =
    last-found (g.N.Blobs.held c.args.self.now.manifests) (g.N.Blobs.held c.args.self.now.logs) (g.T.Blobs.held c.args.self.now.tables) c.args.after c.in_ok-ids.ids c.greatest_of.result
    (c.greatest_of.ensures ∙ ap (greatest c.args.after) c.as_slice.ensures) c.in_ok-ids.ensures.found
