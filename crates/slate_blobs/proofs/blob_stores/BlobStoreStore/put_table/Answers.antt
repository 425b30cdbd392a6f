use Rattle.std.proofs.Common.{ap, ◌∙◌, Ok}
use Rattle.slate_objects.specs.Objects.{table_in}
use Rattle.slate_blobs.proofs.Calls.{puts-table}
use Rattle.slate_blobs.proofs.blob_stores.BlobStoreStore.put_table.Goals as goal

pub returns-clause-put : goal.returns-clause-put
returns-clause-put g c =
    puts-table c.args.id c.put.result c.as_slice.result.now c.args.table.now (g.N.Blobs.held c.args.self.now.manifests) (g.N.Blobs.held c.args.self.now.logs) (g.T.Blobs.held c.args.self.now.tables) _ (ap table_in c.as_slice.ensures.value ∙ (c.in_ok-bytes.ensures.again ∙ ap Ok c.batches.ensures.value)) c.put.ensures.put
