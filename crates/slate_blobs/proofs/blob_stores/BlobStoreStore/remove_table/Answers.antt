use Rattle.slate_blobs.proofs.Calls.{removes-table}
use Rattle.slate_blobs.proofs.blob_stores.BlobStoreStore.remove_table.Goals as goal

pub returns-clause-removed : goal.returns-clause-removed
returns-clause-removed g c = removes-table c.args.id c.remove.result (g.N.Blobs.held c.args.self.now.manifests) (g.N.Blobs.held c.args.self.now.logs) (g.T.Blobs.held c.args.self.now.tables) _ c.remove.ensures.removed
