use Rattle.std.proofs.Common.{ap, ◌∙◌}
use Rattle.slate_objects.specs.Objects.{log_in}
use Rattle.slate_blobs.proofs.Calls.{puts-log}
use Rattle.slate_blobs.proofs.blob_stores.BlobStoreStore.put_log.Goals as goal

pub returns-clause-put : goal.returns-clause-put
returns-clause-put g c =
    puts-log c.args.id c.put_if_absent.result c.as_slice.result.now c.args.batches.now (g.N.Blobs.held c.args.self.now.manifests) (g.N.Blobs.held c.args.self.now.logs) _ (g.T.Blobs.held c.args.self.now.tables) (ap log_in c.as_slice.ensures.value ∙ c.in_ok-bytes.ensures.again) c.put_if_absent.ensures.put
