use Rattle.slate_blobs.proofs.Found.{listing-found}
use Rattle.slate_blobs.proofs.blob_stores.BlobStoreStore.list.Goals as goal

pub returns-clause-found : goal.returns-clause-found
returns-clause-found g c =
    listing-found (g.N.Blobs.held c.args.self.now.manifests) (g.N.Blobs.held c.args.self.now.logs) (g.T.Blobs.held c.args.self.now.tables) c.in_ok-list.field-0 c.in_ok-list-2.field-0 c.in_ok-list-3.field-0
    c.in_ok-list.ensures.found c.in_ok-list-2.ensures.found c.in_ok-list-3.ensures.found
