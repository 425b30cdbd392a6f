use Rattle.slate_blobs.proofs.Calls.{removes-log}
use Rattle.slate_blobs.proofs.blob_stores.BlobStoreStore.remove_log.Goals as goal

pub returns-clause-removed : goal.returns-clause-removed
returns-clause-removed g c = removes-log c.args.id c.remove.result (g.N.Blobs.held c.args.self.now.manifests) (g.N.Blobs.held c.args.self.now.logs) _ (g.T.Blobs.held c.args.self.now.tables) c.remove.ensures.removed
