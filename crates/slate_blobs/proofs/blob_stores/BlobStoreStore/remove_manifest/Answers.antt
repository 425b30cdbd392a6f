use Rattle.slate_blobs.proofs.Calls.{removes-manifest}
use Rattle.slate_blobs.proofs.blob_stores.BlobStoreStore.remove_manifest.Goals as goal

pub returns-clause-removed : goal.returns-clause-removed
returns-clause-removed g c = removes-manifest c.args.id c.remove.result (g.N.Blobs.held c.args.self.now.manifests) _ (g.N.Blobs.held c.args.self.now.logs) (g.T.Blobs.held c.args.self.now.tables) c.remove.ensures.removed
